use Rattle.std.proofs.Common.{drop, None}
use Rattle.slow_history.specs.View.{borrowed_pairs}
use Rattle.slow_history.specs.Walk.{LeadTo}
use Rattle.slow_history.proofs.walk.is_walk.Given as goal

abbrev pub invariant-loop-at : goal.invariant-loop-at
invariant-loop-at g l = record {
  to : LeadTo (g.C.Cmp.cmp l.cmp) (borrowed_pairs l.pairs) l.position (drop l.at l.moves) (drop l.at l.landings)
      → LeadTo (g.C.Cmp.cmp l.cmp) (borrowed_pairs l.pairs) None l.moves l.landings;
  from : LeadTo (g.C.Cmp.cmp l.cmp) (borrowed_pairs l.pairs) None l.moves l.landings
      → LeadTo (g.C.Cmp.cmp l.cmp) (borrowed_pairs l.pairs) l.position (drop l.at l.moves) (drop l.at l.landings);
}
