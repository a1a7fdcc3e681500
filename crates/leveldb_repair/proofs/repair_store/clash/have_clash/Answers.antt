use Rattle.leveldb_repair.proofs.RepairFindLemmas.{leaves_files}
use Rattle.leveldb_repair.proofs.RepairStoreLemmas.{leaves_then}
use Rattle.leveldb_repair.proofs.repair_store.clash.have_clash.Goals as goal

pub returns-in_err-tables : goal.returns-in_err-tables
returns-in_err-tables g c =
    let tables = c.found_tables.ensures in
    leaves_files g.E.Env tables.still tables.locks tables.cause

pub returns-in_err-logs : goal.returns-in_err-logs
returns-in_err-logs g c =
    let tables = c.found_tables.ensures in
    let logs = c.found_logs.ensures in
    leaves_then g.E.Env (leaves_files g.E.Env tables.still tables.locks tables.cause) (leaves_files g.E.Env logs.still logs.locks logs.cause)

pub returns-in_err-children : goal.returns-in_err-children
returns-in_err-children g c =
    let tables = c.found_tables.ensures in
    let logs = c.found_logs.ensures in
    leaves_then g.E.Env (leaves_files g.E.Env tables.still tables.locks tables.cause) (leaves_files g.E.Env logs.still logs.locks logs.cause)

pub returns : goal.returns
returns g c =
    let tables = c.found_tables.ensures in
    let logs = c.found_logs.ensures in
    leaves_then g.E.Env
    (leaves_then g.E.Env (leaves_files g.E.Env tables.still tables.locks tables.cause) (leaves_files g.E.Env logs.still logs.locks logs.cause))
    c.merge_clashes.ensures
