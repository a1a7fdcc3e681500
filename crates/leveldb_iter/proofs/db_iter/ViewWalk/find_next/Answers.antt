use Rattle.std.proofs.Common.{ap, ◌∙◌}
use Rattle.std.specs.Prelude.{is_some}
use Rattle.std.proofs.lemmas.Result.{err_from_is_err_and}
use Rattle.leveldb_iter.proofs.DbIterLemmas.{scan_steps, scan_found, scan_more, failed, runs_out}
use Rattle.leveldb_iter.proofs.db_iter.ViewWalk.find_next.Goals as goal

pub returns-in_err-step_next-clause-moves : goal.returns-in_err-step_next-clause-moves
returns-in_err-step_next-clause-moves g c =
    let p = err_from_is_err_and c.from_residual.result c.from_residual.ensures.1 in
    rw p.1 (rw p.2 (failed g.M.Walk g.met.M.Walk.laws (scan_steps g.M.Walk g.met.M.Walk.laws c.loop.invariant.so_far c.loop.invariant.sequence _ _ c.in_err-step_next.ensures.moves)))

pub returns-in-None-clause-moves : goal.returns-in-None-clause-moves
returns-in-None-clause-moves g c = scan_found g.M.Walk g.met.M.Walk.laws _ _
    (scan_steps g.M.Walk g.met.M.Walk.laws c.loop.invariant.so_far c.loop.invariant.sequence _ _ c.in_ok-step_next.ensures.moves) c.in-None.is

pub loop-preserved : goal.loop-preserved
loop-preserved g c = record {
  at = c.in_ok-step_next.ensures.on (ap is_some c.in-Some.is);
  sequence = c.in_ok-step_next.ensures.sequence ∙ c.loop.invariant.sequence;
  so_far = scan_more g.M.Walk g.met.M.Walk.laws _ (_, c.step_next.new.self.saved_value.items)
      (scan_steps g.M.Walk g.met.M.Walk.laws c.loop.invariant.so_far c.loop.invariant.sequence _ _ c.in_ok-step_next.ensures.moves) c.in-Some.is;
}

pub returns-clause-moves : goal.returns-clause-moves
returns-clause-moves g c = let so_far = c.loop.invariant.so_far in runs_out g.M.Walk g.met.M.Walk.laws _ _ so_far.keeps c.too_long.ensures
