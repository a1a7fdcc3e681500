use Rattle.std.proofs.Common.{refl, ◌∙◌}
use Rattle.std.proofs.lemmas.Result.{err_from_is_err_and}
use Rattle.leveldb_iter.proofs.DbIterLemmas.{step_unread, step_ends, step_shows, step_passes, step_passes_last}
use Rattle.leveldb_iter.proofs.db_iter.ViewWalk.step_next.Goals as goal

pub returns-in_err-read_forward-clause-moves : goal.returns-in_err-read_forward-clause-moves
returns-in_err-read_forward-clause-moves g c =
    let p = err_from_is_err_and c.from_residual.result c.from_residual.ensures.1 in
    rw p.1 (rw p.2 (step_unread g.M.Walk g.met.M.Walk.laws c.read_forward.ensures.walk c.in_err-read_forward.ensures.cause))

pub returns-in-End-clause-moves : goal.returns-in-End-clause-moves
returns-in-End-clause-moves g c = step_ends g.M.Walk g.met.M.Walk.laws _ c.read_forward.ensures.walk c.in_ok-read_forward.ensures.ok _ c.in-End.is (c.read_forward.ensures.at ∙ c.requires)

pub returns-in-Shown-clause-moves : goal.returns-in-Shown-clause-moves
returns-in-Shown-clause-moves g c = step_shows g.M.Walk g.met.M.Walk.laws (_, c.read_forward.new.self.saved_value.items) c.read_forward.ensures.walk c.in_ok-read_forward.ensures.ok _ c.in-Shown.is refl

pub returns-then-branch-clause-moves : goal.returns-then-branch-clause-moves
returns-then-branch-clause-moves g c = step_passes g.M.Walk g.met.M.Walk.laws (_, c.read_forward.new.self.saved_value.items) c.read_forward.ensures.walk c.in_ok-read_forward.ensures.ok c.in-Passed.is c.in_ok-advance.ensures.moves c.in_ok-advance.ensures.valid _

pub returns-else-branch-clause-moves : goal.returns-else-branch-clause-moves
returns-else-branch-clause-moves g c = step_passes_last g.M.Walk g.met.M.Walk.laws (_, c.read_forward.new.self.saved_value.items) c.read_forward.ensures.walk c.in_ok-read_forward.ensures.ok c.in-Passed.is c.in_ok-advance.ensures.moves c.in_ok-advance.ensures.valid _ c.if-branch.false (c.read_forward.ensures.at ∙ c.requires)
