use Rattle.std.proofs.Common.{arith}
use Rattle.leveldb_mem.proofs.WriteBatchLemmas.{reads_nothing, reads_no_key, reads_no_value, reads_no_kind, reads_deletion, reads_value}
use Rattle.leveldb_mem.proofs.write_batch.take_entry.Goals as goal

pub returns-in_err-kind : goal.returns-in_err-kind
returns-in_err-kind c = rw c.from_residual.ensures (reads_nothing _ c.in_err-kind.ensures.cases)

pub returns-in_err-key : goal.returns-in_err-key
returns-in_err-key c =
    rw c.from_residual-in_err-key.ensures (reads_no_key _ _ c.in_ok-kind.ensures.cases.0 (omega (arith, c.in_ok-kind.ensures.cases.1)) c.in_err-key.ensures)

pub returns-in_err-value-in-1 : goal.returns-in_err-value-in-1
returns-in_err-value-in-1 c =
    rw c.from_residual-in_err-value-in-1.ensures
    (reads_no_value _ _ _ _ c.in_ok-kind.ensures.cases.0 (omega (arith, c.in_ok-kind.ensures.cases.1)) c.in_ok-key.ensures c.in-1.is c.in_err-value-in-1.ensures)

pub returns-in-0 : goal.returns-in-0
returns-in-0 c = reads_deletion _ _ _ _ c.in_ok-kind.ensures.cases.0 c.in_ok-key.ensures c.in-0.is

pub returns-in_ok-value-in-1 : goal.returns-in_ok-value-in-1
returns-in_ok-value-in-1 c = reads_value _ _ _ _ _ _ c.in_ok-kind.ensures.cases.0 c.in_ok-key.ensures c.in-1.is c.in_ok-value-in-1.ensures

pub returns-in_default : goal.returns-in_default
returns-in_default c = reads_no_kind _ _ c.in_ok-kind.ensures.cases.0 (λ h. omega (arith, h)) (λ h. omega (arith, h))
