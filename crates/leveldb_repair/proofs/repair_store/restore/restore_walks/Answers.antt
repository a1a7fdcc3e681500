use Rattle.leveldb_base.proofs.HistoryLemmas.{exact_order}
use Rattle.leveldb_repair.proofs.RepairChildrenLemmas.{found_keys}
use Rattle.leveldb_repair.proofs.RepairWalksLemmas.{walks_over_found}
use Rattle.leveldb_repair.proofs.repair_store.restore.restore_walks.Goals as goal

pub returns : goal.returns
returns g c = λ over.
    let cmp = c.args.plan.now.options.now.cmp in
    let exact = exact_order (g.C.Cmp.accepts cmp) (g.C.Cmp.cmp cmp) (g.met.C.UserCmp.accepts_all cmp) (g.met.C.Cmp.preorder cmp) (g.met.C.UserCmp.exact cmp) in
    c.restore.ensures (walks_over_found _ g.E.Env g.K.Compressors.codings g.M.LdbIterator g.C.Cmp (found_keys g.C.Cmp g.met.C.UserCmp.accepts_all) exact
    (record {
      over_is = λ world it keys pairs. (λ is. is, λ is. is);
      at_is = λ world it keys pairs position. (λ is. is, λ is. is);
      fails_is = λ world it later status. (λ is. is, λ is. is);
      keeps = λ at to kept. kept;
    })
    (record {
      over_is = λ world it keys pairs. (λ is. is, λ is. is);
      at_is = λ world it keys pairs position. (λ is. is, λ is. is);
      fails_is = λ world it later status. (λ is. is, λ is. is);
      keeps = λ at to kept. kept;
    })
    c.args.plan.now.store.now c.args.plan.now.greatest _ _ _ c.new-merge.ensures.is_at c.new-merge.ensures.fails over)
