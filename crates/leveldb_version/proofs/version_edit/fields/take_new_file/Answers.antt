use Rattle.std.proofs.Common.{arith}
use Rattle.leveldb_version.proofs.Edits.FieldsLemmas.{no_file_number, no_size, no_smallest, no_largest}
use Rattle.leveldb_version.proofs.version_edit.fields.take_new_file.Goals as goal

pub returns-in_err-number : goal.returns-in_err-number
returns-in_err-number c = rw c.from_residual-in_err-number.ensures (no_file_number _ c.in_ok-level.ensures.1 c.in_err-number.ensures)

pub returns-in_err-size : goal.returns-in_err-size
returns-in_err-size c = rw c.from_residual-in_err-size.ensures (no_size _ c.in_ok-level.ensures.1 _ c.in_ok-number.ensures.1 c.in_err-size.ensures)

pub returns-in_err-smallest : goal.returns-in_err-smallest
returns-in_err-smallest c =
    rw c.from_residual-in_err-smallest.ensures (no_smallest _ c.in_ok-level.ensures.1 _ c.in_ok-number.ensures.1 _ c.in_ok-size.ensures.1 (omega arith) c.in_err-smallest.ensures)

pub returns-in_err-largest : goal.returns-in_err-largest
returns-in_err-largest c =
    rw c.from_residual-in_err-largest.ensures (no_largest _ c.in_ok-level.ensures.1 _ c.in_ok-number.ensures.1 _ c.in_ok-size.ensures.1 (omega arith) _ c.in_ok-smallest.ensures c.in_err-largest.ensures)
