use Rattle.leveldb_base.proofs.HistoryLemmas.{exact_order}
use Rattle.leveldb_store.proofs.Compactions.MergeInputsLemmas.{tables_merged}
use Rattle.leveldb_store.proofs.Reading.ViewStoreLemmas.{keys_of}
use Rattle.leveldb_store.proofs.merge_inputs.merge_inputs.Goals as goal

pub returns-clause-merges : goal.returns-clause-merges
returns-clause-merges g c =
    tables_merged g.E.Env g.met.E.Env.counts g.C.Cmp g.FP.FilterPolicy g.K.Compressors.codings (keys_of g.C.Cmp g.met.C.UserCmp.accepts_all)
    (λ order. exact_order (g.C.Cmp.accepts order) (g.C.Cmp.cmp order) (g.met.C.UserCmp.accepts_all order) (g.met.C.Cmp.preorder order) (g.met.C.UserCmp.exact order))
    c.in_ok-iters.ensures.ok c.in_ok-iters.ensures.in_order c.new.ensures.is_at c.new.ensures.fails
    (record {
      over_is = λ world it order pairs. (λ is. is, λ is. is);
      at_is = λ world it order pairs position. (λ is. is, λ is. is);
      fails_is = λ world it later status. (λ is. is, λ is. is);
      keeps = λ at to kept. kept;
    })
    (record {
      over_is = λ world it order pairs. (λ is. is, λ is. is);
      at_is = λ world it order pairs position. (λ is. is, λ is. is);
      fails_is = λ world it later status. (λ is. is, λ is. is);
      keeps = λ at to kept. kept;
    })
