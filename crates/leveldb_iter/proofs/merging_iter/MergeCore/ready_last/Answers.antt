use Rattle.std.proofs.Common.{refl}
use Rattle.leveldb_iter.specs.Children.{step_from}
use Rattle.leveldb_iter.specs.declared.children.ChildStep.TheVariants.{Last}
use Rattle.leveldb_iter.proofs.MergingIterLemmas.{ready_each, last_comes}
use Rattle.leveldb_iter.proofs.merging_iter.MergeCore.ready_last.Goals as goal

pub returns : goal.returns
returns g c = ready_each g.I.Walk g.met.I.Walk.laws g.C.Cmp g.met.C.Cmp.preorder c.args.self.now refl c.step_each.ensures refl refl
    (λ order lists pairs position s. last_comes g.I.Walk g.met.I.Walk.laws g.C.Cmp g.met.C.Cmp.preorder (step_from g.I.Walk Last) s (λ child list over. over))
