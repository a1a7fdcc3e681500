use Rattle.std.proofs.Common.{refl}
use Rattle.leveldb_repair.proofs.FoundTablesLemmas.{FindingTables-found, FindingTables-left_out, FindingTables-none, FindsTables-done, FindsTables-out_of_memory, FindsTables-stopped}
use Rattle.leveldb_repair.proofs.found_tables.found_tables.Goals as goal

pub loop-file-init : goal.loop-file-init
loop-file-init g c =
    FindingTables-none _ g.E.Env g.C.Cmp _ c.args.compressors.now c.args.cmp c.args.store.now c.args.files.now c.args.env.now _ c.new-tables.ensures.items

pub loop-file-preserved-in_default : goal.loop-file-preserved-in_default
loop-file-preserved-in_default g c =
    FindingTables-left_out _ g.E.Env g.C.Cmp _ c.args.compressors.now c.args.cmp c.args.store.now c.args.files.now c.args.env.now c.loop-file.file-index c.loop-file.invariant c.file-item.result c.loop-file-test.true c.file-item.is (rw c.in_default.is at c.in_ok-table.ensures)

pub loop-file-preserved : goal.loop-file-preserved
loop-file-preserved g c =
    FindingTables-found _ g.E.Env g.C.Cmp _ c.args.compressors.now c.args.cmp c.args.store.now c.args.files.now c.args.env.now c.loop-file.file-index c.loop-file.invariant c.file-item.result c.loop-file-test.true c.file-item.is (rw c.in-Some.is at c.in_ok-table.ensures) _ c.in_ok-push.ensures.items

pub returns-in_err-table : goal.returns-in_err-table
returns-in_err-table g c =
    FindsTables-stopped _ g.E.Env g.C.Cmp _ c.args.compressors.now c.args.cmp c.args.store.now c.args.files.now c.args.env.now c.loop-file.file-index c.loop-file.invariant c.file-item.result c.loop-file-test.true c.file-item.is c.from_residual.result c.from_residual.ensures.1 c.in_err-table.ensures

pub returns-in_err-push : goal.returns-in_err-push
returns-in_err-push g c =
    FindsTables-out_of_memory _ g.E.Env g.C.Cmp _ c.args.compressors.now c.args.cmp c.args.store.now c.args.files.now c.args.env.now c.loop-file.file-index c.loop-file.invariant c.file-item.result c.loop-file-test.true c.file-item.is (rw c.in-Some.is at c.in_ok-table.ensures) c.from_residual-in_err-push.result c.from_residual-in_err-push.ensures.1

pub returns : goal.returns
returns g c =
    FindsTables-done _ g.E.Env g.C.Cmp _ c.args.compressors.now c.args.cmp c.args.store.now c.args.files.now c.args.env.now refl c.loop-file.file-index c.loop-file.invariant c.loop-file-test.false
