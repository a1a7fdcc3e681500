use Rattle.std.proofs.lemmas.Result.{err_from_is_err_and}
use Rattle.leveldb_mem.specs.WriteBatch.{batch_bytes}
use Rattle.leveldb_store.proofs.Writing.LogBatchLemmas.{logs_appended, logs_then_synced, logs_unappended}
use Rattle.leveldb_store.proofs.open_store.OpenStore.log_batch.Goals as goal

pub returns-in_err-append-clause-logs : goal.returns-in_err-append-clause-logs
returns-in_err-append-clause-logs g c =
    let p = err_from_is_err_and c.from_residual.result c.from_residual.ensures.1 in
    rw (p.1, p.2)
    (logs_unappended g.E.Env c.args.self.now c.args.env.now (batch_bytes c.args.batch.now.first c.args.batch.now.items) c.args.sync _ c.append.new.self c.append.new.env
    c.in_err-append.ensures.appends)

pub returns-then-sync-clause-logs : goal.returns-then-sync-clause-logs
returns-then-sync-clause-logs g c =
    rw c.if-sync.true
    (logs_then_synced g.E.Env c.args.self.now c.args.env.now (batch_bytes c.args.batch.now.first c.args.batch.now.items) c.append.new.self c.append.new.env c.in_ok-append.ensures.appends
    c.sync.result c.sync.new.self c.sync.new.env c.sync.ensures.syncs c.sync.ensures.breaks)

pub returns-else-sync-clause-logs : goal.returns-else-sync-clause-logs
returns-else-sync-clause-logs g c =
    rw c.if-sync.false
    (logs_appended g.E.Env c.args.self.now c.args.env.now (batch_bytes c.args.batch.now.first c.args.batch.now.items) c.append.new.self c.append.new.env c.in_ok-append.ensures.appends)
