use Rattle.std.proofs.Common.{arith}
use Rattle.std.proofs.lemmas.Result.{err_from_is_err_and}
use Rattle.leveldb_iter.specs.Children.{step_to}
use Rattle.leveldb_iter.proofs.ChildrenLemmas.{none_stepped, one_more, one_fails, all_stepped}
use Rattle.leveldb_iter.proofs.children.step_each.Goals as goal

pub loop-i-init : goal.loop-i-init
loop-i-init g c = none_stepped g.I.Walk g.met.I.Walk.laws c.args.step (step_to c.args.step) (c.args.env.now, c.args.tables.now) c.args.children.now.items

pub loop-i-preserved : goal.loop-i-preserved
loop-i-preserved g c = one_more g.I.Walk g.met.I.Walk.laws c.loop-i.invariant (omega (arith, c.loop-i.invariant.counted)) c.in_ok-step_one.ensures

pub returns-in_err-step_one : goal.returns-in_err-step_one
returns-in_err-step_one g c =
    let p = err_from_is_err_and c.from_residual.result c.from_residual.ensures.1 in
    rw p.1 (rw p.2 (one_fails g.I.Walk g.met.I.Walk.laws c.loop-i.invariant c.in_err-step_one.field-0.0 (omega (arith, c.loop-i.invariant.counted)) c.in_err-step_one.ensures))

pub returns : goal.returns
returns g c = all_stepped g.I.Walk g.met.I.Walk.laws c.loop-i.invariant (omega (arith, c.loop-i.invariant.counted))
