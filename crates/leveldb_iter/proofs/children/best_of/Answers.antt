use Rattle.std.proofs.Common.{◌∙◌, sym, ap, subst, refl, arith, Some, None, length}
use Rattle.std.specs.Prelude.{option_and_then}
use Rattle.std.proofs.lemmas.Option.{slice_get_read}
use Rattle.leveldb_iter.specs.Children.{head_of}
use Rattle.leveldb_iter.proofs.ChoiceLemmas.{SoFar, more, best_in_all, head_past, better_within}
use Rattle.leveldb_iter.proofs.children.best_of.Goals as goal

pub loop-i-preserved : goal.loop-i-preserved
loop-i-preserved g c =
    let heads = head_of g.I.Walk c.args.children.now in
    let cmp = g.C.Cmp.cmp c.args.cmp.now in
    let at = ap (option_and_then g.I.Walk.here) (slice_get_read c.args.children.now (length c.args.children.now) c.loop-i.i c.index-children-i.result refl c.loop-i-test.true c.index-children-i.is) ∙ sym c.current.ensures in
    record {
      reached = omega arith;
      within = better_within cmp c.args.direction c.loop-i.i _ c.loop-i.best c.better-best.result c.better-best.ensures c.loop-i.invariant.within;
      best = λ accepted. more (g.met.C.Cmp.preorder c.args.cmp.now) c.args.direction heads accepted c.loop-i.i _ at c.loop-i.best c.better-best.result c.better-best.ensures (c.loop-i.invariant.best accepted);
    }

pub returns-in-None-clause-best : goal.returns-in-None-clause-best
returns-in-None-clause-best g c = λ accepted.
    let heads = head_of g.I.Walk c.args.children.now in
    let found = subst (SoFar (g.C.Cmp.cmp c.args.cmp.now) c.args.direction heads c.loop-i.i) c.in-None.is (c.loop-i.invariant.best accepted) in
    best_in_all (g.met.C.Cmp.preorder c.args.cmp.now) c.args.direction heads accepted c.loop-i.i (λ k h. head_past g.I.Walk c.args.children.now k (omega arith)) None found

pub returns-in-Some-clause-best : goal.returns-in-Some-clause-best
returns-in-Some-clause-best g c = λ accepted.
    let heads = head_of g.I.Walk c.args.children.now in
    let found = subst (SoFar (g.C.Cmp.cmp c.args.cmp.now) c.args.direction heads c.loop-i.i) c.in-Some.is (c.loop-i.invariant.best accepted) in
    best_in_all (g.met.C.Cmp.preorder c.args.cmp.now) c.args.direction heads accepted c.loop-i.i (λ k h. head_past g.I.Walk c.args.children.now k (omega arith)) (Some c.in-Some.best) found
