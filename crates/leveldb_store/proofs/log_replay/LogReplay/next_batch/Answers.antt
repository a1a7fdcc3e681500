use Rattle.std.proofs.Common.{Err, subst}
use Rattle.std.proofs.lemmas.Result.{err_from_is_err_and}
use Rattle.leveldb_env.proofs.WholeFilesLemmas.{found_ok}
use Rattle.leveldb_env.specs.WholeFiles.{IsFoundOr}
use Rattle.leveldb_store.proofs.Logs.ReadBatchLemmas.{reads_clean, reads_more, reads_no_batch, reads_past, reads_stopped, reads_torn, reads_wrong}
use Rattle.leveldb_store.proofs.log_replay.LogReplay.next_batch.Goals as goal

pub returns-in_err-found : goal.returns-in_err-found
returns-in_err-found g c =
    let failed = err_from_is_err_and c.from_residual.result c.from_residual.ensures.1 in
    rw (← c.self.view_is, failed.1, failed.2)
    (reads_stopped g.E.Env _ _ _ _ c.args.env.now c.self.inside.file _ c.self.invariant _ _ _ c.args.batch.now c.next_record-next.result c.in_err-found.field-0.0
    c.next_record-next.ensures.err (λ was. let none = c.next_record-next.ensures.failed was in (none.1, none.2))
    (subst (λ s. IsFoundOr s c.next_record-next.result (Err c.in_err-found.field-0.0)) c.deref.ensures c.in_err-found.ensures))

pub returns-in-End : goal.returns-in-End
returns-in-End g c =
    let finds = rw c.in-End.is at rw (found_ok _ c.next_record-next.result _ c.in_ok-found.ensures) at c.next_record-next.ensures.found in
    rw (← c.self.view_is) (reads_clean g.E.Env _ _ _ _ c.args.env.now c.self.inside.file _ c.self.invariant _ _ _ c.args.batch.now finds.0)

pub returns-in-WrongChecksum : goal.returns-in-WrongChecksum
returns-in-WrongChecksum g c =
    let finds = rw c.in-WrongChecksum.is at rw (found_ok _ c.next_record-next.result _ c.in_ok-found.ensures) at c.next_record-next.ensures.found in
    rw (← c.self.view_is) (reads_wrong g.E.Env _ _ _ _ c.args.env.now c.self.inside.file _ c.self.invariant _ _ _ c.args.batch.now finds)

pub returns-in-Damage : goal.returns-in-Damage
returns-in-Damage g c =
    let finds = rw c.in-Damage.is at rw (found_ok _ c.next_record-next.result _ c.in_ok-found.ensures) at c.next_record-next.ensures.found in
    rw (← c.self.view_is) (reads_torn g.E.Env _ _ _ _ c.args.env.now c.self.inside.file _ c.self.invariant _ _ _ c.args.batch.now finds)

pub returns-in_err-self-inside : goal.returns-in_err-self-inside
returns-in_err-self-inside g c =
    let finds = rw c.in-Record.is at rw (found_ok _ c.next_record-next.result _ c.in_ok-found.ensures) at c.next_record-next.ensures.found in
    let failed = err_from_is_err_and c.from_residual-in_err-self-inside.result c.from_residual-in_err-self-inside.ensures.1 in
    let why = c.in_err-self-inside.ensures.cause in
    rw (← c.self.view_is, failed.1, failed.2) (reads_past g.E.Env _ _ _ _ c.args.env.now c.self.inside.file _ c.self.invariant _ _ _ c.args.batch.now finds _ why.0 why.1)

pub returns-in_err-read_batch : goal.returns-in_err-read_batch
returns-in_err-read_batch g c =
    let finds = rw c.in-Record.is at rw (found_ok _ c.next_record-next.result _ c.in_ok-found.ensures) at c.next_record-next.ensures.found in
    let failed = err_from_is_err_and c.from_residual-in_err-read_batch.result c.from_residual-in_err-read_batch.ensures.1 in
    rw (← c.self.view_is, failed.1, failed.2) (reads_no_batch g.E.Env _ _ _ _ c.args.env.now c.self.inside.file _ c.self.invariant _ _ _ c.read_batch.new.batch finds _ _ (rw c.deref-2.ensures.value at c.in_err-read_batch.ensures.cause))

pub returns : goal.returns
returns g c =
    let finds = rw c.in-Record.is at rw (found_ok _ c.next_record-next.result _ c.in_ok-found.ensures) at c.next_record-next.ensures.found in
    rw (← c.self.view_is) (reads_more g.E.Env _ _ _ _ c.args.env.now c.self.inside.file _ c.self.invariant _ _ _ c.read_batch.new.batch finds _ c.in_ok-self-inside.ensures.ok (rw c.deref-2.ensures.value at c.in_ok-read_batch.ensures.ok))
