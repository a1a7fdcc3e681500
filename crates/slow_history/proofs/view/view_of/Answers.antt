use Rattle.std.proofs.Common.{◌≡◌, [], sym, ◌∙◌, ap, subst}
use Rattle.std.proofs.lemmas.List.{drop_all}
use Rattle.leveldb_base.specs.Cmp.{IsExactOrder}
use Rattle.leveldb_base.specs.History.{IsView}
use Rattle.leveldb_base.proofs.HistoryLemmas.{exact_order, view_from, view_from_is_view}
use Rattle.slow_history.specs.View.{borrowed_pairs, borrowed_entries}
use Rattle.slow_history.proofs.view.view_of.Goals as goal

pub returns-clause-view : goal.returns-clause-view
returns-clause-view g c =
    let cmp = g.C.Cmp.cmp c.args.cmp.now in
    let accepts = g.C.Cmp.accepts c.args.cmp.now in
    let order : IsExactOrder cmp = exact_order accepts cmp (g.met.C.UserCmp.accepts_all c.args.cmp.now) (g.met.C.Cmp.preorder c.args.cmp.now) (g.met.C.UserCmp.exact c.args.cmp.now) in
    let none = drop_all c.loop-entry.entry-index c.args.entries.now c.loop-entry-test.false in
    let left = ap (λ rest. view_from cmp c.args.sequence (borrowed_pairs c.loop-entry.pairs.items) (borrowed_entries rest)) (sym none) in
    let is : borrowed_pairs c.loop-entry.pairs.items ≡ view_from cmp c.args.sequence [] (borrowed_entries c.args.entries.now) = left ∙ c.loop-entry.invariant in
    λ rising. subst (λ pairs. IsView cmp (borrowed_entries c.args.entries.now) c.args.sequence pairs) (sym is) (view_from_is_view cmp order (borrowed_entries c.args.entries.now) c.args.sequence rising)
