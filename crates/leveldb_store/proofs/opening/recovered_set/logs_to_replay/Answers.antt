use Rattle.std.proofs.Common.{sym}
use Rattle.std.proofs.lemmas.Result.{err_from_is_err_and}
use Rattle.leveldb_store.proofs.Openings.RecoverSetLemmas.{logs_checked, numbers_ungiven, tables_missing}
use Rattle.leveldb_store.proofs.opening.recovered_set.logs_to_replay.Goals as goal

pub returns-in_err-check_tables : goal.returns-in_err-check_tables
returns-in_err-check_tables g c =
    let failed = err_from_is_err_and c.from_residual.result c.from_residual.ensures.1 in
    rw (failed.1, failed.2) (tables_missing g.E.Env c.args.store.now c.args.versions.now _ c.args.env.now c.check_tables.new.env c.check_tables.ensures.still c.check_tables.ensures.locks
    _ c.files.ensures _ c.in_err-check_tables.ensures.cause)

pub returns-in_err-check_numbers : goal.returns-in_err-check_numbers
returns-in_err-check_numbers g c =
    let failed = err_from_is_err_and c.from_residual-in_err-check_numbers.result c.from_residual-in_err-check_numbers.ensures.1 in
    rw (failed.1, failed.2) (numbers_ungiven g.E.Env c.args.store.now c.args.versions.now _ c.args.env.now c.check_tables.new.env c.check_tables.ensures.still c.check_tables.ensures.locks
    c.in_ok-check_tables.ensures.cause.ok _ c.in_err-check_numbers.ensures.cause)

pub returns : goal.returns
returns g c =
    logs_checked g.E.Env c.args.store.now c.args.versions.now _ c.args.env.now c.check_tables.new.env c.check_tables.ensures.still c.check_tables.ensures.locks c.in_ok-check_tables.ensures.cause.ok
    _ c.files.ensures c.in_ok-check_tables.ensures.there c.in_ok-check_numbers.ensures.ok c.check_numbers.ensures.fits _
    (rw (sym c.log_num.ensures, sym c.prev_log_num.ensures) c.find_logs.ensures.ok) (rw (sym c.log_num.ensures, sym c.prev_log_num.ensures) c.find_logs.ensures.cause)
