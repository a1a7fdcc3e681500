use Rattle.leveldb_store.proofs.Logs.NextFoundLemmas.{tells_numbered}
use Rattle.leveldb_store.proofs.log_replay.next_found.read_numbered.Goals as goal

pub returns-in-Ok-clause-ok : goal.returns-in-Ok-clause-ok
returns-in-Ok-clause-ok c = tells_numbered c.args.text.now c.set_contents.new.self c.has_entry_numbers.result c.in-Ok.ensures.ok c.has_entry_numbers.ensures
