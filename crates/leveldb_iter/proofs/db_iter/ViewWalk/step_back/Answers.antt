use Rattle.std.proofs.lemmas.Result.{err_from_is_err_and}
use Rattle.leveldb_iter.proofs.DbIterBackLemmas.{step_back_unread, step_back_ends, step_back_passes, step_back_passes_last}
use Rattle.leveldb_iter.proofs.db_iter.ViewWalk.step_back.Goals as goal

pub returns-in_err-now-clause-moves : goal.returns-in_err-now-clause-moves
returns-in_err-now-clause-moves g c =
    let p = err_from_is_err_and c.from_residual.result c.from_residual.ensures.1 in
    rw p.1 (rw p.2 (step_back_unread g.M.Walk g.met.M.Walk.laws c.read_backward.ensures.walk c.in_err-now.ensures.cause))

pub returns-in_default-clause-moves : goal.returns-in_default-clause-moves
returns-in_default-clause-moves g c = step_back_ends g.M.Walk g.met.M.Walk.laws _ _ _ c.read_backward.ensures.walk c.in_ok-now.ensures.ok _ c.in_default.is c.then_some-self.ensures

pub returns-then-branch-clause-moves : goal.returns-then-branch-clause-moves
returns-then-branch-clause-moves g c = step_back_passes g.M.Walk g.met.M.Walk.laws _ _ _ c.read_backward.ensures.walk c.in_ok-now.ensures.ok c.in-Some.is c.in_ok-prev.ensures.moves c.in_ok-prev.ensures.valid _

pub returns-clause-moves : goal.returns-clause-moves
returns-clause-moves g c = step_back_passes_last g.M.Walk g.met.M.Walk.laws _ _ _ c.read_backward.ensures.walk c.in_ok-now.ensures.ok c.in-Some.is c.in_ok-prev.ensures.moves c.in_ok-prev.ensures.valid _ c.if-branch.false c.then_some-self-2.ensures
