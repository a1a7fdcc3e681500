use Rattle.std.proofs.Common.{Err, subst}
use Rattle.std.proofs.lemmas.Result.{err_from_is_err_and}
use Rattle.leveldb_env.proofs.WholeFilesLemmas.{found_ok}
use Rattle.leveldb_env.specs.WholeFiles.{IsFoundOr}
use Rattle.leveldb_store.proofs.Logs.NextFoundLemmas.{finds_bad, finds_clean, finds_more, finds_no_batch, finds_no_memory, finds_past, finds_stopped, has_numbers}
use Rattle.leveldb_store.proofs.Logs.ReadBatchLemmas.{reads_clean, reads_more, reads_torn, reads_wrong}
use Rattle.leveldb_store.proofs.log_replay.LogReplay.next_found.Goals as goal

pub returns-in_err-found : goal.returns-in_err-found
returns-in_err-found g c =
    let failed = err_from_is_err_and c.from_residual.result c.from_residual.ensures.1 in
    rw (← c.self.view_is, failed.1, failed.2)
    (finds_stopped g.E.Env _ _ _ _ c.args.env.now c.self.inside.file _ c.self.invariant _ _ _ c.args.batch.now c.next_record-next.result c.in_err-found.field-0.0
    c.next_record-next.ensures.err (λ was. let none = c.next_record-next.ensures.failed was in (none.1, none.2))
    (subst (λ s. IsFoundOr s c.next_record-next.result (Err c.in_err-found.field-0.0)) c.deref.ensures c.in_err-found.ensures))

pub returns-in-End : goal.returns-in-End
returns-in-End g c =
    let finds = rw c.in-End.is at rw (found_ok _ c.next_record-next.result _ c.in_ok-found.ensures) at c.next_record-next.ensures.found in
    rw (← c.self.view_is) (finds_clean g.E.Env _ _ _ _ _ (reads_clean g.E.Env _ _ _ _ c.args.env.now c.self.inside.file _ c.self.invariant _ _ _ c.args.batch.now finds.0))

pub returns-in-WrongChecksum : goal.returns-in-WrongChecksum
returns-in-WrongChecksum g c =
    let finds = rw c.in-WrongChecksum.is at rw (found_ok _ c.next_record-next.result _ c.in_ok-found.ensures) at c.next_record-next.ensures.found in
    rw (← c.self.view_is) (finds_bad g.E.Env _ _ _ _ _ (reads_wrong g.E.Env _ _ _ _ c.args.env.now c.self.inside.file _ c.self.invariant _ _ _ c.args.batch.now finds))

pub returns-in-Damage : goal.returns-in-Damage
returns-in-Damage g c =
    let finds = rw c.in-Damage.is at rw (found_ok _ c.next_record-next.result _ c.in_ok-found.ensures) at c.next_record-next.ensures.found in
    rw (← c.self.view_is) (finds_bad g.E.Env _ _ _ _ _ (reads_torn g.E.Env _ _ _ _ c.args.env.now c.self.inside.file _ c.self.invariant _ _ _ c.args.batch.now finds))

pub returns-in_err-fewer : goal.returns-in_err-fewer
returns-in_err-fewer g c =
    let finds = rw c.in-Record.is at rw (found_ok _ c.next_record-next.result _ c.in_ok-found.ensures) at c.next_record-next.ensures.found in
    let failed = err_from_is_err_and c.from_residual-in_err-fewer.result c.from_residual-in_err-fewer.ensures.1 in
    let why = c.in_err-fewer.ensures.cause in
    rw (← c.self.view_is, failed.1, failed.2) (finds_past g.E.Env _ _ _ _ c.args.env.now c.self.inside.file _ c.self.invariant _ _ _ c.args.batch.now finds _ why.0 why.1)

pub returns-in_err-read_numbered : goal.returns-in_err-read_numbered
returns-in_err-read_numbered g c =
    let finds = rw c.in-Record.is at rw (found_ok _ c.next_record-next.result _ c.in_ok-found.ensures) at c.next_record-next.ensures.found in
    let failed = err_from_is_err_and c.from_residual-in_err-read_numbered.result c.from_residual-in_err-read_numbered.ensures.1 in
    rw (← c.self.view_is, failed.1, failed.2) (finds_no_memory g.E.Env _ _ _ _ c.args.env.now c.self.inside.file _ c.self.invariant _ _ _ c.read_numbered.new.batch finds _ c.in_err-read_numbered.ensures.memory)

pub returns-then-not-branch : goal.returns-then-not-branch
returns-then-not-branch g c =
    let finds = rw c.in-Record.is at rw (found_ok _ c.next_record-next.result _ c.in_ok-found.ensures) at c.next_record-next.ensures.found in
    let none = rw c.if-not-branch.true at rw c.deref-2.ensures.value at c.in_ok-read_numbered.ensures.ok in
    rw (← c.self.view_is) (finds_no_batch g.E.Env _ _ _ _ c.args.env.now c.self.inside.file _ c.self.invariant _ _ _ c.read_numbered.new.batch finds none)

pub returns : goal.returns
returns g c =
    let finds = rw c.in-Record.is at rw (found_ok _ c.next_record-next.result _ c.in_ok-found.ensures) at c.next_record-next.ensures.found in
    let numbered = rw c.if-not-branch.false at rw c.deref-2.ensures.value at c.in_ok-read_numbered.ensures.ok in
    rw (← c.self.view_is) (finds_more g.E.Env _ _ _ _ _ (has_numbers _ _ numbered)
    (reads_more g.E.Env _ _ _ _ c.args.env.now c.self.inside.file _ c.self.invariant _ _ _ c.read_numbered.new.batch finds _ c.in_ok-fewer.ensures.ok numbered.record_is))
