use Rattle.leveldb_iter.specs.Children.{step_to}
use Rattle.leveldb_iter.proofs.ChildrenLemmas.{SteppedSome}
use Rattle.leveldb_iter.proofs.children.step_each.Given as goal

abbrev pub invariant-loop-i : goal.invariant-loop-i
invariant-loop-i g l = SteppedSome g.I.Walk g.met.I.Walk.laws l.step (step_to l.step) (l.initial.env, l.initial.tables) l.initial.children.items l.i (l.env, l.tables) l.children.items
