use Rattle.std.proofs.Common.{refl}
use Rattle.leveldb_base.specs.Types.{position_within}
use Rattle.leveldb_iter.specs.Children.{step_from}
use Rattle.leveldb_iter.specs.declared.children.ChildStep.TheVariants.{First}
use Rattle.leveldb_iter.proofs.MergingIterLemmas.{ready_each, first_comes}
use Rattle.leveldb_iter.proofs.merging_iter.MergeCore.ready_first.Goals as goal

pub returns : goal.returns
returns g c = ready_each g.I.Walk g.met.I.Walk.laws g.C.Cmp g.met.C.Cmp.preorder c.args.self.now refl c.step_each.ensures refl refl
    (λ order lists pairs position s. first_comes g.I.Walk g.met.I.Walk.laws g.C.Cmp g.met.C.Cmp.preorder (step_from g.I.Walk First) (λ _ list _. position_within list 0) s (λ child list over. over) refl)
