use Rattle.leveldb_files.proofs.Edits.EditLemmas.{one_edit, written_is_read}
use Rattle.leveldb_files.proofs.laws.edits_are_their_bytes.Goals as goal

pub returns : goal.returns
returns c = record { one = one_edit; written = written_is_read }
