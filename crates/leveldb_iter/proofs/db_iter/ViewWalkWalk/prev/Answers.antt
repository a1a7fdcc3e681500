use Rattle.std.proofs.Common.{◌∙◌}
use Rattle.std.proofs.lemmas.Result.{err_from_is_err_and}
use Rattle.leveldb_iter.proofs.DbIterLemmas.{joined, failed}
use Rattle.leveldb_iter.proofs.DbIterMoveLemmas.{arrived, refused, enters_previous, previous_at, saved_of, stays_at_none}
use Rattle.leveldb_iter.proofs.db_iter.ViewWalkWalk.prev.Goals as goal

pub returns-in_default-clause-moves : goal.returns-in_default-clause-moves
returns-in_default-clause-moves g c = stays_at_none g.M.Walk g.met.M.Walk.laws c.args.self.now _ c.in_default.is

pub returns-in_err-step_off_back-clause-moves : goal.returns-in_err-step_off_back-clause-moves
returns-in_err-step_off_back-clause-moves g c =
    let p = err_from_is_err_and c.from_residual.result c.from_residual.ensures.1 in
    rw p.1 (rw p.2 (refused g.M.Walk g.met.M.Walk.laws c.args.self.now c.step_off_back.new.self (tt {0}) c.step_off_back.ensures.sequence (enters_previous g.M.Walk g.met.M.Walk.laws c.in-Some.direction c.in-Some.is) (λ order pairs was. was) _
    (failed g.M.Walk g.met.M.Walk.laws c.in_err-step_off_back.ensures.moves) c.step_off_back.ensures.at))

pub returns-in_err-find_previous-clause-moves : goal.returns-in_err-find_previous-clause-moves
returns-in_err-find_previous-clause-moves g c =
    let p = err_from_is_err_and c.from_residual-in_err-find_previous.result c.from_residual-in_err-find_previous.ensures.1 in
    rw p.1 (rw p.2 (refused g.M.Walk g.met.M.Walk.laws c.args.self.now c.find_previous.new.self (tt {0}) (c.find_previous.ensures.sequence ∙ c.step_off_back.ensures.sequence) (enters_previous g.M.Walk g.met.M.Walk.laws c.in-Some.direction c.in-Some.is) (λ order pairs was. was) _
    (joined g.M.Walk g.met.M.Walk.laws c.in_ok-step_off_back.ensures.moves (previous_at g.M.Walk g.met.M.Walk.laws _ (saved_of c.find_previous.new.self) c.step_off_back.ensures.sequence c.in_err-find_previous.ensures.moves))
    c.in_err-find_previous.ensures.at))

pub returns-clause-moves : goal.returns-clause-moves
returns-clause-moves g c =
    arrived g.M.Walk g.met.M.Walk.laws c.args.self.now c.find_previous.new.self (tt {0}) (c.find_previous.ensures.sequence ∙ c.step_off_back.ensures.sequence) (enters_previous g.M.Walk g.met.M.Walk.laws c.in-Some.direction c.in-Some.is) (λ order pairs was. was) _
    (joined g.M.Walk g.met.M.Walk.laws c.in_ok-step_off_back.ensures.moves (previous_at g.M.Walk g.met.M.Walk.laws _ (saved_of c.find_previous.new.self) c.step_off_back.ensures.sequence c.in_ok-find_previous.ensures.moves))
