use Rattle.std.proofs.lemmas.Result.{err_from_is_err_and}
use Rattle.leveldb_repair.proofs.FindLogsLemmas.{FindingLogs-more, FindingLogs-none, FindsLogs-done, FindsLogs-stopped}
use Rattle.leveldb_repair.proofs.FoundLogsLemmas.{up_to_none}
use Rattle.leveldb_repair.proofs.found_logs.found_logs.Goals as goal

pub loop-file-init : goal.loop-file-init
loop-file-init g c =
    let new = c.new-found.ensures in
    FindingLogs-none g.E.Env c.args.store.now c.args.cmp c.args.files.now c.args.env.now _ new.none new.cmp (up_to_none _ new.empty)

pub loop-file-preserved : goal.loop-file-preserved
loop-file-preserved g c =
    FindingLogs-more g.E.Env c.args.store.now c.args.cmp c.args.files.now c.args.env.now c.loop-file.file-index c.loop-file.invariant c.file-item.result c.loop-file-test.true c.file-item.is c.in_ok-find_log.ensures

pub returns-in_err-find_log : goal.returns-in_err-find_log
returns-in_err-find_log g c =
    let failed = err_from_is_err_and c.from_residual.result c.from_residual.ensures.1 in
    rw (failed.1, failed.2) (FindsLogs-stopped g.E.Env c.args.store.now c.args.cmp c.args.files.now c.args.env.now c.loop-file.file-index c.loop-file.invariant c.file-item.result c.loop-file-test.true c.file-item.is _ c.in_err-find_log.ensures)

pub returns : goal.returns
returns g c =
    FindsLogs-done g.E.Env c.args.store.now c.args.cmp c.args.files.now c.args.env.now c.loop-file.file-index c.loop-file.invariant c.loop-file-test.false c.into_tables.result c.into_tables.ensures.all c.into_tables.ensures.memory
