use Rattle.std.proofs.Common.{sym, ap, ◌∙◌}
use Rattle.std.proofs.lemmas.Result.{err_from_is_err_and}
use Rattle.leveldb_iter.specs.DbIterSteps.{is_at_key}
use Rattle.leveldb_iter.proofs.DbIterTurnLemmas.{turn_fails, turn_ends, turn_more}
use Rattle.leveldb_iter.proofs.DbIterLemmas.{runs_out}
use Rattle.leveldb_iter.proofs.db_iter.ViewWalk.turn_back.Goals as goal

pub returns-in_err-prev-clause-moves : goal.returns-in_err-prev-clause-moves
returns-in_err-prev-clause-moves g c =
    let p = err_from_is_err_and c.from_residual.result c.from_residual.ensures.1 in
    rw p.1 (rw p.2 (turn_fails g.M.Walk g.met.M.Walk.laws c.loop.invariant.so_far c.in_err-prev.ensures.moves))

pub returns-then-not-is_at_saved-clause-moves : goal.returns-then-not-is_at_saved-clause-moves
returns-then-not-is_at_saved-clause-moves g c = turn_ends g.M.Walk g.met.M.Walk.laws c.loop.invariant.so_far c.in_ok-prev.ensures.moves
    (ap (λ key. is_at_key key (g.M.Walk.here c.prev.new.self)) (sym c.loop.invariant.key) ∙ sym c.is_at_saved.ensures ∙ c.if-not-is_at_saved.true)

pub loop-preserved : goal.loop-preserved
loop-preserved g c = record {
  at = c.loop.invariant.at;
  sequence = c.loop.invariant.sequence;
  key = c.loop.invariant.key;
  so_far = turn_more g.M.Walk g.met.M.Walk.laws c.loop.invariant.so_far c.in_ok-prev.ensures.moves
      (ap (λ key. is_at_key key (g.M.Walk.here c.prev.new.self)) (sym c.loop.invariant.key) ∙ sym c.is_at_saved.ensures ∙ c.if-not-is_at_saved.false);
}

pub returns-clause-moves : goal.returns-clause-moves
returns-clause-moves g c = let so_far = c.loop.invariant.so_far in runs_out g.M.Walk g.met.M.Walk.laws _ _ so_far.keeps c.too_long.ensures
