use Rattle.std.proofs.Common.{arith}
use Rattle.leveldb_version.proofs.Edits.FieldsLemmas.{no_key}
use Rattle.leveldb_version.proofs.version_edit.fields.take_pointer.Goals as goal

pub returns-in_err-key : goal.returns-in_err-key
returns-in_err-key c = rw c.from_residual-in_err-key.ensures (no_key _ (omega arith) c.in_ok-level.ensures.1 c.in_err-key.ensures)
