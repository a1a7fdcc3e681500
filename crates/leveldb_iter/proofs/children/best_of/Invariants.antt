use Rattle.std.proofs.Common.{◌≡◌, ◌<◌, ◌≤◌, true, length, ℕ, Some}
use Rattle.std.specs.Option.{ForSome}
use Rattle.leveldb_base.specs.Types.{Pair}
use Rattle.leveldb_iter.specs.Children.{head_of}
use Rattle.leveldb_iter.proofs.ChoiceLemmas.{SoFar}
use Rattle.leveldb_iter.proofs.children.best_of.Given as goal

abbrev pub invariant-loop-i : goal.invariant-loop-i
invariant-loop-i g l = record {
  reached : l.i ≤ length l.children;
  within : ForSome l.best (λ best. best.index < l.i);
  best : ((k : ℕ) (pair : Pair) → head_of g.I.Walk l.children k ≡ Some pair → g.C.Cmp.accepts l.cmp pair.0 ≡ true)
      → SoFar (g.C.Cmp.cmp l.cmp) l.direction (head_of g.I.Walk l.children) l.i l.best;
}
