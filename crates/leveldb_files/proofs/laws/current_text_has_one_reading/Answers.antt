use Rattle.leveldb_files.proofs.Edits.CurrentLemmas.{one_current, written_current}
use Rattle.leveldb_files.proofs.laws.current_text_has_one_reading.Goals as goal

pub returns : goal.returns
returns c = record { one = one_current; written = written_current }
