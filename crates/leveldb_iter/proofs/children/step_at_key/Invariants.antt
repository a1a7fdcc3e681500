use Rattle.leveldb_iter.specs.Children.{step_to}
use Rattle.leveldb_iter.proofs.ChildrenLemmas.{SteppedAtKey}
use Rattle.leveldb_iter.proofs.children.step_at_key.Given as goal

abbrev pub invariant-loop-k : goal.invariant-loop-k
invariant-loop-k g l = SteppedAtKey g.I.Walk g.met.I.Walk.laws (step_to l.step) l.i (l.initial.env, l.initial.tables) l.initial.children.items l.k (l.env, l.tables) l.children.items
