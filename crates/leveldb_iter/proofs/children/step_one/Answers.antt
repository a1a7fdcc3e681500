use Rattle.leveldb_iter.proofs.ChildrenLemmas.{one_steps}
use Rattle.leveldb_iter.proofs.children.step_one.Goals as goal

pub returns : goal.returns
returns g c = one_steps g.I.Walk c.args.children.now.items c.args.i c.index_mut.result.now c.step_child.new.child c.requires c.index_mut.ensures.value c.step_child.ensures
