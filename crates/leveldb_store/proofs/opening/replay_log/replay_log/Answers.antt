use Rattle.std.proofs.Common.{◌∙◌}
use Rattle.std.proofs.lemmas.Result.{err_from_is_err_and}
use Rattle.leveldb_store.proofs.Logs.ReplayStoreLemmas.{ReplaysFile-bad, ReplaysFile-clean, ReplaysFile-out_of_memory, ReplaysFile-refused, ReplaysFile-stopped, ReplaysFile-unread, Replaying-more, Replaying-none, up_to_more}
use Rattle.leveldb_store.proofs.opening.replay_log.replay_log.Goals as goal

pub returns-in_err-log-clause-replays : goal.returns-in_err-log-clause-replays
returns-in_err-log-clause-replays g c =
    let failed = err_from_is_err_and c.from_residual.result c.from_residual.ensures.1 in
    rw (failed.1, failed.2) (ReplaysFile-unread g.E.Env _ _ c.args.versions.now c.args.last c.args.number c.args.env.now _ c.in_err-log.ensures.run c.in_err-log.ensures.locks
    (rw c.requires.store at c.in_err-log.ensures.cause))

pub returns-in_err-batch-clause-replays : goal.returns-in_err-batch-clause-replays
returns-in_err-batch-clause-replays g c =
    let failed = err_from_is_err_and c.from_residual-in_err-batch.result c.from_residual-in_err-batch.ensures.1 in
    let new = c.begun-replayed.ensures in
    rw (failed.1, failed.2) (ReplaysFile-out_of_memory g.E.Env _ _ c.args.versions.now c.args.last c.args.number c.args.env.now
    (Replaying-none g.E.Env _ _ c.args.versions.now c.args.last c.args.number c.args.env.now _ c.begun-replayed.result c.in_ok-log.log c.in_ok-log.ensures.run c.in_ok-log.ensures.locks
    c.in_ok-log.ensures.cause.ok (rw c.requires.store at c.in_ok-log.ensures.opens) new.tables new.rest new.places new.last_is new.cmp_is (new.size_is ∙ c.size.ensures) new.bad)
    _ c.in_err-batch.ensures.memory)

pub batches-init : goal.batches-init
batches-init g c =
    let new = c.begun-replayed.ensures in
    Replaying-none g.E.Env _ _ c.args.versions.now c.args.last c.args.number c.args.env.now _ c.begun-replayed.result c.in_ok-log.log c.in_ok-log.ensures.run c.in_ok-log.ensures.locks
    c.in_ok-log.ensures.cause.ok (rw c.requires.store at c.in_ok-log.ensures.opens) new.tables new.rest new.places new.last_is new.cmp_is (new.size_is ∙ c.size.ensures) new.bad

pub returns-in_err-next_batch-clause-replays : goal.returns-in_err-next_batch-clause-replays
returns-in_err-next_batch-clause-replays g c =
    let failed = err_from_is_err_and c.from_residual-in_err-next_batch.result c.from_residual-in_err-next_batch.ensures.1 in
    rw (failed.1, failed.2) (ReplaysFile-stopped g.E.Env _ _ c.args.versions.now c.args.last c.args.number c.args.env.now c.batches.invariant _ c.in_err-next_batch.ensures)

pub returns-in-CleanEnd-clause-replays : goal.returns-in-CleanEnd-clause-replays
returns-in-CleanEnd-clause-replays g c =
    ReplaysFile-clean g.E.Env _ _ c.args.versions.now c.args.last c.args.number c.args.env.now c.batches.invariant (rw c.in-CleanEnd.is at c.in_ok-next_batch.ensures)

pub returns-in-BadEnd-clause-replays : goal.returns-in-BadEnd-clause-replays
returns-in-BadEnd-clause-replays g c =
    ReplaysFile-bad g.E.Env _ _ c.args.versions.now c.args.last c.args.number c.args.env.now c.batches.invariant (rw c.in-BadEnd.is at c.in_ok-next_batch.ensures)

pub take_batch-requires-clause-up_to : goal.take_batch-requires-clause-up_to
take_batch-requires-clause-up_to g c =
    up_to_more g.E.Env _ _ c.args.versions.now c.args.last c.args.number c.args.env.now c.batches.invariant (rw c.in-More.is at c.in_ok-next_batch.ensures)

pub batches-preserved : goal.batches-preserved
batches-preserved g c =
    Replaying-more g.E.Env _ _ c.args.versions.now c.args.last c.args.number c.args.env.now c.batches.invariant (rw c.in-More.is at c.in_ok-next_batch.ensures) c.in_ok-take_batch.ensures.takes

pub returns-in_err-take_batch-clause-replays : goal.returns-in_err-take_batch-clause-replays
returns-in_err-take_batch-clause-replays g c =
    let failed = err_from_is_err_and c.from_residual-in_err-take_batch.result c.from_residual-in_err-take_batch.ensures.1 in
    rw (failed.1, failed.2) (ReplaysFile-refused g.E.Env _ _ c.args.versions.now c.args.last c.args.number c.args.env.now c.batches.invariant (rw c.in-More.is at c.in_ok-next_batch.ensures) _ c.in_err-take_batch.ensures.takes)
