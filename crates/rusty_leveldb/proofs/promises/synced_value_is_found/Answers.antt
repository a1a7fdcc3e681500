use Rattle.rusty_leveldb.proofs.Machines.LawsLemmas.{synced_is_read}
use Rattle.rusty_leveldb.proofs.promises.synced_value_is_found.Goals as goal

pub returns : goal.returns
returns c = synced_is_read
