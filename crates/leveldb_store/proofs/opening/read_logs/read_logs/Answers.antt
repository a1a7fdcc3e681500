use Rattle.std.proofs.Common.{refl}
use Rattle.std.proofs.lemmas.Result.{err_from_is_err_and}
use Rattle.leveldb_store.proofs.Logs.ReadLogsLemmas.{ReadingLogs-more, ReadingLogs-none, ReadsLogs-done, ReadsLogs-stopped, none_left}
use Rattle.leveldb_store.proofs.opening.read_logs.read_logs.Goals as goal

pub loop-number-init : goal.loop-number-init
loop-number-init g c =
    let new = c.begun-logs.ensures in
    ReadingLogs-none g.E.Env c.args.store.now c.args.cmp c.args.numbers.keys c.args.env.now _ new.rest new.places new.last_is refl new.cmp_is

pub loop-number-preserved : goal.loop-number-preserved
loop-number-preserved g c =
    ReadingLogs-more g.E.Env c.args.store.now c.args.cmp c.args.numbers.keys c.args.env.now c.loop-number.invariant c.in-Some.number c.pop_first.new.self.keys c.in-Some.ensures.removal _ _ c.in_ok-read_log.ensures

pub returns-in_err-read_log : goal.returns-in_err-read_log
returns-in_err-read_log g c =
    let failed = err_from_is_err_and c.from_residual.result c.from_residual.ensures.1 in
    rw (failed.1, failed.2) (ReadsLogs-stopped g.E.Env c.args.store.now c.args.cmp c.args.numbers.keys c.args.env.now c.loop-number.invariant c.in-Some.number c.pop_first.new.self.keys c.in-Some.ensures.removal _ _ _
    c.in_err-read_log.ensures)

pub returns : goal.returns
returns g c =
    ReadsLogs-done g.E.Env c.args.store.now c.args.cmp c.args.numbers.keys c.args.env.now c.loop-number.invariant (none_left c.loop-number.numbers.keys c.pop_first.result c.in_default.is c.pop_first.ensures.variant)
