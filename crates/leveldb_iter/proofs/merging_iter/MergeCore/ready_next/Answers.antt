use Rattle.std.proofs.Common.{refl, ap}
use Rattle.leveldb_base.specs.Types.{next_position}
use Rattle.leveldb_base.specs.declared.types.Direction.TheVariants.{Forward}
use Rattle.leveldb_iter.specs.Children.{step_from}
use Rattle.leveldb_iter.specs.declared.children.ChildStep.TheVariants.{First, Next}
use Rattle.leveldb_iter.proofs.MergingIterLemmas.{ready_each, ready_own, first_comes, forward_comes, placed_none}
use Rattle.leveldb_iter.proofs.merging_iter.MergeCore.ready_next.Goals as goal

pub returns-in-None : goal.returns-in-None
returns-in-None g c = ready_each g.I.Walk g.met.I.Walk.laws g.C.Cmp g.met.C.Cmp.preorder c.args.self.now refl c.step_each.ensures refl refl
    (λ order lists pairs position at.
    let placed = placed_none g.I.Walk g.met.I.Walk.laws g.C.Cmp g.met.C.Cmp.preorder at c.in-None.is in
    first_comes g.I.Walk g.met.I.Walk.laws g.C.Cmp g.met.C.Cmp.preorder (step_from g.I.Walk First) (λ _. next_position) placed.0 (λ child list over. over) (ap (next_position pairs) placed.1))

pub returns-in-Forward : goal.returns-in-Forward
returns-in-Forward g c = ready_own g.I.Walk g.met.I.Walk.laws g.C.Cmp g.met.C.Cmp.preorder Forward c.in-Some.i c.args.self.now refl c.in-Some.is c.in-Forward.is
    (c.args.self.now.within c.in-Some.i c.in-Some.is) (λ order list q. refl) c.step_current.ensures.steps c.step_current.ensures.cmp c.step_current.ensures.current

pub returns-in-Reverse : goal.returns-in-Reverse
returns-in-Reverse g c = ready_each g.I.Walk g.met.I.Walk.laws g.C.Cmp g.met.C.Cmp.preorder c.args.self.now refl c.step_each-in-Reverse.ensures refl refl
    (λ order lists pairs position at. forward_comes g.I.Walk g.met.I.Walk.laws g.C.Cmp g.met.C.Cmp.preorder at (step_from g.I.Walk Next) c.in-Some.i c.in-Some.is c.in-Reverse.is (λ child list q here. here))
