use Rattle.std.proofs.Common.{refl}
use Rattle.leveldb_base.proofs.HistoryLemmas.{exact_order}
use Rattle.leveldb_repair.proofs.RepairLookLemmas.{internal_preorder, unlooked}
use Rattle.leveldb_repair.proofs.RepairWalksLemmas.{looked_over_all}
use Rattle.leveldb_repair.proofs.repair_store.restore.restore.Goals as goal

pub returns-in-Ok : goal.returns-in-Ok
returns-in-Ok g c = λ over.
    let cmp = c.args.plan.now.options.now.cmp in
    let exact = exact_order (g.C.Cmp.accepts cmp) (g.C.Cmp.cmp cmp) (g.met.C.UserCmp.accepts_all cmp) (g.met.C.Cmp.preorder cmp) (g.met.C.UserCmp.exact cmp) in
    let looks = c.in-Ok.ensures in
    c.write_store.ensures c.args.env.now (over.moves _ _ looks.kept)
    (looked_over_all _ g.E.Env c.args.plan.now.store.now c.args.plan.now.greatest g.W.Walk (internal_preorder exact) refl over looks)

pub returns-in-Err : goal.returns-in-Err
returns-in-Err g c = λ over.
    let cmp = c.args.plan.now.options.now.cmp in
    let exact = exact_order (g.C.Cmp.accepts cmp) (g.C.Cmp.cmp cmp) (g.met.C.UserCmp.accepts_all cmp) (g.met.C.Cmp.preorder cmp) (g.met.C.UserCmp.exact cmp) in
    unlooked _ g.E.Env c.args.plan.now.store.now c.args.plan.now.greatest g.W.Walk exact (internal_preorder exact) refl over g.met.E.Env.counts c.in-Err.ensures c.with_names.ensures
