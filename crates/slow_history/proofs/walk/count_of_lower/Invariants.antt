use Rattle.std.proofs.Common.{◌≡◌, ◌+◌, drop}
use Rattle.leveldb_base.specs.Types.{count_before}
use Rattle.slow_history.specs.View.{borrowed_pairs}
use Rattle.slow_history.proofs.walk.count_of_lower.Given as goal

abbrev pub invariant-loop-pair : goal.invariant-loop-pair
invariant-loop-pair g l = record {
  counted : l.count ≡ l.pair-index;
  rest : l.count + count_before (g.C.Cmp.cmp l.cmp) l.key (borrowed_pairs (drop l.pair-index l.pairs))
      ≡ count_before (g.C.Cmp.cmp l.cmp) l.key (borrowed_pairs l.pairs);
}
