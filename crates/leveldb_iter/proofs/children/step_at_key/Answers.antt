use Rattle.std.proofs.Common.{◌∙◌, inl, inr, sym, arith, refl}
use Rattle.std.proofs.lemmas.Result.{err_from_is_err_and}
use Rattle.leveldb_iter.specs.Children.{step_to}
use Rattle.leveldb_iter.proofs.ChildrenLemmas.{none_at_key, one_stays, one_more_at_key, one_fails_at_key, last_at_key}
use Rattle.leveldb_iter.proofs.children.step_at_key.Goals.{then-k-i+then-are_at_one_key+in_ok-step_one, else-k-i, else-k-i-via-then-k-i+else-are_at_one_key, else-k-i-via-else-k-i}
use Rattle.leveldb_iter.proofs.children.step_at_key.Goals as goal

pub loop-k-init : goal.loop-k-init
loop-k-init g c = none_at_key g.I.Walk g.met.I.Walk.laws (step_to c.args.step) c.args.i (c.args.env.now, c.args.tables.now) c.args.children.now.items

pub loop-k-preserved : goal.loop-k-preserved
loop-k-preserved g c =
    elim c.if-k-i.branch [
      | then-k-i+then-are_at_one_key+in_ok-step_one w ↦
          rw w.children-is (rw w.env-is (rw w.tables-is (one_more_at_key g.I.Walk g.met.I.Walk.laws c.loop-k.invariant c.requires.moves refl (omega (arith, c.loop-k.invariant.counted)) w.if-k-i.true
          (sym w.are_at_one_key.ensures ∙ w.if-are_at_one_key.true) w.in_ok-step_one.ensures)))
      | else-k-i w ↦
          rw w.children-is (rw w.env-is (rw w.tables-is (one_stays g.I.Walk g.met.I.Walk.laws c.loop-k.invariant (elim w.else-k-i.branch [
            | else-k-i-via-then-k-i+else-are_at_one_key v ↦ inr (sym v.are_at_one_key.ensures ∙ v.if-are_at_one_key.false)
            | else-k-i-via-else-k-i v ↦ inl v.if-k-i.false
          ]))))
    ]

pub returns-in_err-step_one : goal.returns-in_err-step_one
returns-in_err-step_one g c =
    let p = err_from_is_err_and c.from_residual.result c.from_residual.ensures.1 in
    rw p.1 (rw p.2 (one_fails_at_key g.I.Walk g.met.I.Walk.laws c.loop-k.invariant c.requires.moves refl c.in_err-step_one.field-0.0 (omega (arith, c.loop-k.invariant.counted)) c.in_err-step_one.ensures))

pub returns : goal.returns
returns g c = last_at_key g.I.Walk g.met.I.Walk.laws c.loop-k.invariant c.requires.moves refl c.step_one-2.result (omega (arith, c.loop-k.invariant.counted)) (omega (arith, c.requires.index, c.loop-k.invariant.counted)) c.step_one-2.ensures
