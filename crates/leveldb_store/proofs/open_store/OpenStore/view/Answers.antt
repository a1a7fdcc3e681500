use Rattle.std.proofs.Common.{◌≡◌, [], None, ap, min}
use Rattle.std.specs.declared.cmp.Ordering.TheVariants.{Less}
use Rattle.leveldb_base.proofs.HistoryLemmas.{exact_order}
use Rattle.leveldb_base.specs.KeyTypes.{greatest_sequence}
use Rattle.leveldb_store.proofs.Reading.ViewHistoryLemmas.{merged_counts, view_counts}
use Rattle.leveldb_store.proofs.Reading.ViewReadsLemmas.{child_counts, view_reads}
use Rattle.leveldb_store.proofs.Reading.ViewStoreLemmas.{keys_of, views_store}
use Rattle.leveldb_store.proofs.open_store.OpenStore.view.Goals as goal

pub returns-clause-views : goal.returns-clause-views
returns-clause-views g c =
    let last : c.min-last.result ≡ min c.args.sequence greatest_sequence = c.min-last.ensures in
    views_store g.E.Env g.met.E.Env.counts g.C.Cmp g.FP.FilterPolicy g.K.Compressors.codings _ (λ it after status fails. fails) (keys_of g.C.Cmp g.met.C.UserCmp.accepts_all)
    (λ order. exact_order (g.C.Cmp.accepts order) (g.C.Cmp.cmp order) (g.met.C.UserCmp.accepts_all order) (g.met.C.Cmp.preorder order) (g.met.C.UserCmp.exact order))
    _ (λ world it order pairs over. over) (λ world it later status fails. fails) _ c.args.self.now c.in_ok-children.ensures.current c.in_ok-children.ensures.given c.in_ok-children.ensures.levels
    c.in_ok-children.children.items c.in_ok-children.ensures.ok c.args.sequence c.view_over.result
    c.self.inside.cmp (ap (λ v. v.cmp) c.self.view_is) c.min-last.result last c.view_over.ensures

-- what a call reads, and how its errors are counted, is by the errors of its children alone: those
-- of a memtable's walk are none

pub returns-in_err-children-clause-reads : goal.returns-in_err-children-clause-reads
returns-in_err-children-clause-reads g c = view_reads g.E.Env g.C.Cmp g.FP.FilterPolicy g.K.Compressors.codings _
    (view_counts g.E.Env _ (merged_counts g.E.Env _ _ (child_counts _ g.E.Env g.met.E.Env.counts g.C.Cmp g.FP.FilterPolicy g.K.Compressors.codings
    (record { pairs = λ it. []; position = λ it. None; order = λ it a b. Less; fails = λ it after status. ⊥ }))))
    (λ first second keeps. keeps)

pub returns-clause-reads : goal.returns-clause-reads
returns-clause-reads g c = view_reads g.E.Env g.C.Cmp g.FP.FilterPolicy g.K.Compressors.codings _
    (view_counts g.E.Env _ (merged_counts g.E.Env _ _ (child_counts _ g.E.Env g.met.E.Env.counts g.C.Cmp g.FP.FilterPolicy g.K.Compressors.codings
    (record { pairs = λ it. []; position = λ it. None; order = λ it a b. Less; fails = λ it after status. ⊥ }))))
    (λ first second keeps. keeps)
