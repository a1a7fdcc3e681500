use Rattle.std.proofs.Common.{◌≡◌, [], drop}
use Rattle.leveldb_base.proofs.HistoryLemmas.{view_from}
use Rattle.slow_history.specs.View.{borrowed_pairs, borrowed_entries}
use Rattle.slow_history.proofs.view.view_of.Given as goal

abbrev pub invariant-loop-entry : goal.invariant-loop-entry
invariant-loop-entry g l =
    view_from (g.C.Cmp.cmp l.cmp) l.sequence (borrowed_pairs l.pairs.items) (borrowed_entries (drop l.entry-index l.entries))
    ≡ view_from (g.C.Cmp.cmp l.cmp) l.sequence [] (borrowed_entries l.entries)
