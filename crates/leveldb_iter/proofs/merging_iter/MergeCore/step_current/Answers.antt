use Rattle.leveldb_iter.proofs.ChildrenLemmas.{one_from_any}
use Rattle.leveldb_iter.proofs.merging_iter.MergeCore.step_current.Goals as goal

pub returns-then-self-clause-steps : goal.returns-then-self-clause-steps
returns-then-self-clause-steps g c = rw c.if-self.true c.step_at_key.ensures

pub returns-else-self-clause-steps : goal.returns-else-self-clause-steps
returns-else-self-clause-steps g c = rw c.if-self.false (one_from_any g.I.Walk g.met.I.Walk.laws c.args.step c.requires.moves c.step_one.ensures)
