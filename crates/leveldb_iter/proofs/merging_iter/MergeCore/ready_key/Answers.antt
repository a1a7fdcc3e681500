use Rattle.std.proofs.Common.{refl}
use Rattle.leveldb_iter.specs.Children.{step_from}
use Rattle.leveldb_iter.specs.declared.children.ChildStep.TheVariants.{Seek}
use Rattle.leveldb_iter.proofs.MergingIterLemmas.{ready_each, key_comes}
use Rattle.leveldb_iter.proofs.merging_iter.MergeCore.ready_key.Goals as goal

pub returns : goal.returns
returns g c = ready_each g.I.Walk g.met.I.Walk.laws g.C.Cmp g.met.C.Cmp.preorder c.args.self.now refl c.step_each.ensures refl refl
    (λ order lists pairs position from. key_comes g.I.Walk g.met.I.Walk.laws g.C.Cmp g.met.C.Cmp.preorder c.args.key.now (step_from g.I.Walk (Seek c.args.key)) from.0 from.1 (λ child list over. (over, from.1)))
