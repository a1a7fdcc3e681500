use Rattle.std.proofs.Common.{◌≡◌, arith, false}
use Rattle.std.proofs.lemmas.Result.{err_from_is_err_and}
use Rattle.leveldb_store.proofs.Logs.ReadLogsLemmas.{ReadingLog-more, ReadingLog-none, ReadsLog-bad, ReadsLog-clean, ReadsLog-out_of_memory, ReadsLog-stopped, ReadsLog-torn, ReadsLog-unfollowed, ReadsLog-unopened, ReadsLog-untaken}
use Rattle.leveldb_store.proofs.opening.read_logs.read_log.Goals as goal

pub returns-in_err-log : goal.returns-in_err-log
returns-in_err-log g c =
    let failed = err_from_is_err_and c.from_residual.result c.from_residual.ensures.1 in
    rw (failed.1, failed.2) (ReadsLog-unopened g.E.Env c.args.store.now c.args.number c.args.logs.now c.args.env.now _ c.in_err-log.ensures.run c.in_err-log.ensures.locks c.in_err-log.ensures.cause)

pub returns-in_err-check_empty_if_torn : goal.returns-in_err-check_empty_if_torn
returns-in_err-check_empty_if_torn g c =
    let failed = err_from_is_err_and c.from_residual-in_err-check_empty_if_torn.result c.from_residual-in_err-check_empty_if_torn.ensures.1 in
    let why = c.in_err-check_empty_if_torn.ensures.cause in
    let some = why.2 in
    rw (failed.1, failed.2) (ReadsLog-torn g.E.Env c.args.store.now c.args.number c.args.logs.now c.args.env.now c.in_ok-log.log _ c.in_ok-log.ensures.run c.in_ok-log.ensures.locks c.in_ok-log.ensures.cause.ok
    c.in_ok-log.ensures.opens why.1 (omega (arith, some, c.size.ensures)) why.0)

pub returns-in_err-batch : goal.returns-in_err-batch
returns-in_err-batch g c =
    let failed = err_from_is_err_and c.from_residual-in_err-batch.result c.from_residual-in_err-batch.ensures.1 in
    let empty : c.args.logs.now.is_clean ≡ false → c.in_ok-log.log.size ≡ 0 = λ torn.
    let none = c.in_ok-check_empty_if_torn.ensures.ok torn in omega (arith, none, c.size.ensures) in
    rw (failed.1, failed.2) (ReadsLog-out_of_memory g.E.Env c.args.store.now c.args.number c.args.logs.now c.args.env.now
    (ReadingLog-none g.E.Env c.args.store.now c.args.number c.args.logs.now c.args.env.now c.in_ok-log.log c.in_ok-log.ensures.run c.in_ok-log.ensures.locks c.in_ok-log.ensures.cause.ok c.in_ok-log.ensures.opens
    c.requires.up_to empty) _ c.in_err-batch.ensures.memory)

pub batches-init : goal.batches-init
batches-init g c =
    let empty : c.args.logs.now.is_clean ≡ false → c.in_ok-log.log.size ≡ 0 = λ torn.
    let none = c.in_ok-check_empty_if_torn.ensures.ok torn in omega (arith, none, c.size.ensures) in
    ReadingLog-none g.E.Env c.args.store.now c.args.number c.args.logs.now c.args.env.now c.in_ok-log.log c.in_ok-log.ensures.run c.in_ok-log.ensures.locks c.in_ok-log.ensures.cause.ok c.in_ok-log.ensures.opens
    c.requires.up_to empty

pub returns-in_err-next_batch : goal.returns-in_err-next_batch
returns-in_err-next_batch g c =
    let failed = err_from_is_err_and c.from_residual-in_err-next_batch.result c.from_residual-in_err-next_batch.ensures.1 in
    rw (failed.1, failed.2) (ReadsLog-stopped g.E.Env c.args.store.now c.args.number c.args.logs.now c.args.env.now c.batches.invariant _ c.in_err-next_batch.ensures)

pub returns-in-CleanEnd : goal.returns-in-CleanEnd
returns-in-CleanEnd g c =
    ReadsLog-clean g.E.Env c.args.store.now c.args.number c.args.logs.now c.args.env.now c.batches.invariant (rw c.in-CleanEnd.is at c.in_ok-next_batch.ensures)

pub returns-in-BadEnd : goal.returns-in-BadEnd
returns-in-BadEnd g c =
    ReadsLog-bad g.E.Env c.args.store.now c.args.number c.args.logs.now c.args.env.now c.batches.invariant (rw c.in-BadEnd.is at c.in_ok-next_batch.ensures)

pub batches-preserved : goal.batches-preserved
batches-preserved g c =
    ReadingLog-more g.E.Env c.args.store.now c.args.number c.args.logs.now c.args.env.now c.batches.invariant (rw c.in-More.is at c.in_ok-next_batch.ensures) c.in_ok-check_follows.ensures.ok c.in_ok-add_batch.ensures.ok

pub returns-in_err-check_follows : goal.returns-in_err-check_follows
returns-in_err-check_follows g c =
    let failed = err_from_is_err_and c.from_residual-in_err-check_follows.result c.from_residual-in_err-check_follows.ensures.1 in
    let why = c.in_err-check_follows.ensures.cause in
    rw (failed.1, failed.2) (ReadsLog-unfollowed g.E.Env c.args.store.now c.args.number c.args.logs.now c.args.env.now c.batches.invariant (rw c.in-More.is at c.in_ok-next_batch.ensures) _ why.0 why.1)

pub returns-in_err-add_batch : goal.returns-in_err-add_batch
returns-in_err-add_batch g c =
    let failed = err_from_is_err_and c.from_residual-in_err-add_batch.result c.from_residual-in_err-add_batch.ensures.1 in
    rw (failed.1, failed.2) (ReadsLog-untaken g.E.Env c.args.store.now c.args.number c.args.logs.now c.args.env.now c.batches.invariant (rw c.in-More.is at c.in_ok-next_batch.ensures) _ _ c.in_err-add_batch.ensures.cause)
