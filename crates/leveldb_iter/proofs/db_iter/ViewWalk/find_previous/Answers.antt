use Rattle.std.proofs.Common.{ap, ◌∙◌}
use Rattle.std.specs.Prelude.{is_some}
use Rattle.std.proofs.lemmas.Result.{err_from_is_err_and}
use Rattle.leveldb_iter.proofs.DbIterBackLemmas.{back_steps, back_found, back_more}
use Rattle.leveldb_iter.proofs.DbIterLemmas.{failed, runs_out}
use Rattle.leveldb_iter.proofs.db_iter.ViewWalk.find_previous.Goals as goal

pub returns-in_err-step_back-clause-moves : goal.returns-in_err-step_back-clause-moves
returns-in_err-step_back-clause-moves g c =
    let p = err_from_is_err_and c.from_residual.result c.from_residual.ensures.1 in
    rw p.1 (rw p.2 (failed g.M.Walk g.met.M.Walk.laws (back_steps g.M.Walk g.met.M.Walk.laws c.loop.invariant.so_far c.loop.invariant.sequence _ _ c.in_err-step_back.ensures.moves)))

pub returns-in-None-clause-moves : goal.returns-in-None-clause-moves
returns-in-None-clause-moves g c = back_found g.M.Walk g.met.M.Walk.laws _ _
    (back_steps g.M.Walk g.met.M.Walk.laws c.loop.invariant.so_far c.loop.invariant.sequence _ _ c.in_ok-step_back.ensures.moves) c.in-None.is

pub loop-preserved : goal.loop-preserved
loop-preserved g c = record {
  at = c.in_ok-step_back.ensures.on (ap is_some c.in-Some.is);
  sequence = c.in_ok-step_back.ensures.sequence ∙ c.loop.invariant.sequence;
  so_far = back_more g.M.Walk g.met.M.Walk.laws _ _
      (back_steps g.M.Walk g.met.M.Walk.laws c.loop.invariant.so_far c.loop.invariant.sequence _ _ c.in_ok-step_back.ensures.moves) c.in-Some.is;
}

pub returns-clause-moves : goal.returns-clause-moves
returns-clause-moves g c = let so_far = c.loop.invariant.so_far in runs_out g.M.Walk g.met.M.Walk.laws _ _ so_far.keeps c.too_long.ensures
