use Rattle.leveldb_version.proofs.Edits.FieldsLemmas.{no_number}
use Rattle.leveldb_version.proofs.version_edit.fields.take_deleted.Goals as goal

pub returns-in_err-number : goal.returns-in_err-number
returns-in_err-number c = rw c.from_residual-in_err-number.ensures (no_number _ c.in_ok-level.ensures.1 c.in_err-number.ensures)
