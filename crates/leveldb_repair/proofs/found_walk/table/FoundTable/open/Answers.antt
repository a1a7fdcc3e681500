use Rattle.std.proofs.Common.{refl, subst, sym}
use Rattle.leveldb_base.specs.CmpLaws.{total_order}
use Rattle.leveldb_table.specs.TableReaderBlocks.{StartsOver}
use Rattle.leveldb_repair.proofs.FoundWalkOpenLemmas.{found_opened, table_refused, walk_out}
use Rattle.leveldb_repair.proofs.FoundWalkTableLemmas.{internal_laws}
use Rattle.leveldb_repair.proofs.found_walk.table.FoundTable.open.Goals as goal

pub returns-in_err-table : goal.returns-in_err-table
returns-in_err-table g c =
    table_refused _ g.E.Env g.C.Cmp _
    (internal_laws _ g.C.Cmp (λ c. refl) (λ c. refl) g.met.C.Cmp.preorder g.met.C.UserCmp.accepts_all)
    (λ c. refl) (λ c. total_order (g.met.C.Cmp.preorder c) (g.met.C.UserCmp.accepts_all c)) c.args.cmp c.args.file c.args.size c.args.env.now c.in_ok-blocks.blocks c.in_ok-blocks.ensures.ok
    c.open_no_filter.new.env c.open_no_filter.new.cache c.from_residual-in_err-table.result c.from_residual-in_err-table.ensures.1 c.in_err-table.ensures

pub returns-in_err-new : goal.returns-in_err-new
returns-in_err-new g c =
    walk_out _ g.E.Env g.C.Cmp _
    (internal_laws _ g.C.Cmp (λ c. refl) (λ c. refl) g.met.C.Cmp.preorder g.met.C.UserCmp.accepts_all)
    (λ c. refl) (λ c. total_order (g.met.C.Cmp.preorder c) (g.met.C.UserCmp.accepts_all c)) c.args.cmp c.args.file c.args.size c.args.env.now c.in_ok-blocks.blocks c.in_ok-blocks.ensures.ok
    c.open_no_filter.new.env c.open_no_filter.new.cache c.in_ok-table.table c.in_ok-table.ensures c.from_residual-in_err-new.result c.from_residual-in_err-new.ensures.1 c.in_err-new.ensures.memory

pub returns : goal.returns
returns g c =
    let starts = subst (λ walk. StartsOver c.in_ok-table.table walk) (sym c.filling-core.ensures) c.in_ok-new.ensures.ok in
    found_opened _ g.E.Env g.C.Cmp _
    (internal_laws _ g.C.Cmp (λ c. refl) (λ c. refl) g.met.C.Cmp.preorder g.met.C.UserCmp.accepts_all)
    (λ c. refl) (λ c. total_order (g.met.C.Cmp.preorder c) (g.met.C.UserCmp.accepts_all c)) c.args.cmp c.args.file c.args.size c.args.env.now c.in_ok-blocks.blocks c.in_ok-blocks.ensures.ok
    c.open_no_filter.new.env c.open_no_filter.new.cache c.in_ok-table.table c.in_ok-table.ensures c.filling-core.result starts
