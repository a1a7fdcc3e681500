use Rattle.std.proofs.Common.{◌≡◌, ◌∙◌, ap, false, refl, sym, true}
use Rattle.std.proofs.lemmas.Result.{err_from_is_err_and}
use Rattle.leveldb_repair.proofs.FindLogsLemmas.{FindingLog-more, FindingLog-none, FindsLog-bad, FindsLog-clean, FindsLog-no_batch, FindsLog-other, FindsLog-out_of_memory, FindsLog-stopped, FindsLog-unadded, FindsLog-unopened, fewer_found, numbered_more}
use Rattle.leveldb_env.proofs.EnvLemmas.{begun}
use Rattle.leveldb_env.specs.Env.{in_folder}
use Rattle.leveldb_repair.proofs.found_logs.find_log.Goals as goal

pub returns-then-not-is_log : goal.returns-then-not-is_log
returns-then-not-is_log g c =
    FindsLog-other g.E.Env c.args.store.now c.args.file.now c.args.found.now c.args.env.now (λ it. let never : true ≡ false = sym (c.is_log.ensures.1 it) ∙ c.if-not-is_log.true in cc) c.requires.up_to

pub returns-in_err-path : goal.returns-in_err-path
returns-in_err-path g c =
    let failed = err_from_is_err_and c.from_residual.result c.from_residual.ensures.1 in
    rw (failed.1, failed.2) (FindsLog-out_of_memory g.E.Env c.args.store.now c.args.file.now c.args.found.now c.args.env.now _ _ _ (λ modelled. begun (g.E.Env.observed c.args.env.now) refl) (λ modelled. refl) refl c.in_err-path.ensures.memory)

pub returns-in_err-reading : goal.returns-in_err-reading
returns-in_err-reading g c =
    let failed = err_from_is_err_and c.from_residual-in_err-reading.result c.from_residual-in_err-reading.ensures.1 in
    rw (failed.1, failed.2) (FindsLog-unopened g.E.Env c.args.store.now c.args.file.now c.args.found.now c.args.env.now (c.is_log.ensures.0 c.if-not-is_log.false) _ _ c.in_err-reading.ensures.run c.in_err-reading.ensures.locks _ (c.in_ok-path.ensures.ok ∙ ap (λ name. in_folder c.args.store.now name) c.deref.ensures) c.in_err-reading.ensures.cause)

pub returns-in_err-batch : goal.returns-in_err-batch
returns-in_err-batch g c =
    let failed = err_from_is_err_and c.from_residual-in_err-batch.result c.from_residual-in_err-batch.ensures.1 in
    rw (failed.1, failed.2) (FindsLog-out_of_memory g.E.Env c.args.store.now c.args.file.now c.args.found.now c.args.env.now _ _ _ c.in_ok-reading.ensures.run c.in_ok-reading.ensures.locks c.in_ok-reading.ensures.cause.ok c.in_err-batch.ensures.memory)

pub batches-init : goal.batches-init
batches-init g c =
    FindingLog-none g.E.Env c.args.store.now c.args.file.now c.args.found.now c.args.env.now (c.is_log.ensures.0 c.if-not-is_log.false) _ _ c.in_ok-reading.ensures.run c.in_ok-reading.ensures.locks c.in_ok-reading.ensures.cause.ok _ _ (c.in_ok-path.ensures.ok ∙ ap (λ name. in_folder c.args.store.now name) c.deref.ensures) c.in_ok-reading.ensures.opens c.requires.up_to

pub returns-in_err-next_found : goal.returns-in_err-next_found
returns-in_err-next_found g c =
    let failed = err_from_is_err_and c.from_residual-in_err-next_found.result c.from_residual-in_err-next_found.ensures.1 in
    rw (failed.1, failed.2) (FindsLog-stopped g.E.Env c.args.store.now c.args.file.now c.args.found.now c.args.env.now c.batches.invariant _ c.in_err-next_found.ensures)

pub returns-in-CleanEnd : goal.returns-in-CleanEnd
returns-in-CleanEnd g c = FindsLog-clean g.E.Env c.args.store.now c.args.file.now c.args.found.now c.args.env.now c.batches.invariant (rw c.in-CleanEnd.is at c.in_ok-next_found.ensures)

pub returns-in-BadEnd : goal.returns-in-BadEnd
returns-in-BadEnd g c =
    FindsLog-bad g.E.Env c.args.store.now c.args.file.now c.args.found.now c.args.env.now c.batches.invariant (rw c.in-BadEnd.is at c.in_ok-next_found.ensures) _ _ _ c.path.ensures
    (record { run = c.tell_left_out.ensures.run; locks = c.tell_left_out.ensures.locks; cause = c.tell_left_out.ensures.cause })

pub returns-in-NoBatch : goal.returns-in-NoBatch
returns-in-NoBatch g c =
    FindsLog-no_batch g.E.Env c.args.store.now c.args.file.now c.args.found.now c.args.env.now c.batches.invariant (rw c.in-NoBatch.is at c.in_ok-next_found.ensures) _ _ _ c.path-in-NoBatch.ensures
    (record { run = c.tell_left_out-in-NoBatch.ensures.run; locks = c.tell_left_out-in-NoBatch.ensures.locks; cause = c.tell_left_out-in-NoBatch.ensures.cause })

pub add-requires-clause-up_to : goal.add-requires-clause-up_to
add-requires-clause-up_to g c = c.batches.invariant.up_to

pub add-requires-clause-numbered : goal.add-requires-clause-numbered
add-requires-clause-numbered g c = numbered_more g.E.Env c.args.store.now c.args.file.now c.args.found.now c.args.env.now c.batches.invariant (rw c.in-More.is at c.in_ok-next_found.ensures)

pub batches-preserved : goal.batches-preserved
batches-preserved g c =
    FindingLog-more g.E.Env c.args.store.now c.args.file.now c.args.found.now c.args.env.now c.batches.invariant (rw c.in-More.is at c.in_ok-next_found.ensures) c.in_ok-add.ensures.adds

pub batches-smaller : goal.batches-smaller
batches-smaller g c = fewer_found g.E.Env c.args.store.now c.args.file.now c.args.found.now c.args.env.now c.batches.invariant (rw c.in-More.is at c.in_ok-next_found.ensures)

pub returns-in_err-add : goal.returns-in_err-add
returns-in_err-add g c =
    let failed = err_from_is_err_and c.from_residual-in_err-add.result c.from_residual-in_err-add.ensures.1 in
    rw (failed.1, failed.2) (FindsLog-unadded g.E.Env c.args.store.now c.args.file.now c.args.found.now c.args.env.now c.batches.invariant (rw c.in-More.is at c.in_ok-next_found.ensures) _ _ c.in_err-add.ensures.cause)
