use Rattle.std.proofs.Common.{refl}
use Rattle.leveldb_base.specs.declared.types.Direction.TheVariants.{Reverse}
use Rattle.leveldb_iter.specs.Children.{step_from}
use Rattle.leveldb_iter.specs.declared.children.ChildStep.TheVariants.{PrevOrLast}
use Rattle.leveldb_iter.proofs.MergingIterLemmas.{ready_each, ready_own, reverse_comes}
use Rattle.leveldb_iter.proofs.merging_iter.MergeCore.ready_previous.Goals as goal

pub returns-in-Forward : goal.returns-in-Forward
returns-in-Forward g c = ready_each g.I.Walk g.met.I.Walk.laws g.C.Cmp g.met.C.Cmp.preorder c.args.self.now refl c.step_each.ensures refl refl
    (λ order lists pairs position at. reverse_comes g.I.Walk g.met.I.Walk.laws g.C.Cmp g.met.C.Cmp.preorder at (step_from g.I.Walk PrevOrLast) c.args.i c.requires c.in-Forward.is (λ child list q here. here))

pub returns-in-Reverse : goal.returns-in-Reverse
returns-in-Reverse g c = ready_own g.I.Walk g.met.I.Walk.laws g.C.Cmp g.met.C.Cmp.preorder Reverse c.args.i c.args.self.now refl c.requires c.in-Reverse.is
    (c.args.self.now.within c.args.i c.requires) (λ order list q. refl) c.step_current.ensures.steps c.step_current.ensures.cmp c.step_current.ensures.current
