use Rattle.std.proofs.Common.{◌∙◌}
use Rattle.std.proofs.lemmas.Result.{err_from_is_err_and}
use Rattle.leveldb_iter.proofs.DbIterLemmas.{joined, failed}
use Rattle.leveldb_iter.proofs.DbIterMoveLemmas.{arrived, refused, enters_next, next_at, saved_of}
use Rattle.leveldb_iter.proofs.db_iter.ViewWalkWalk.advance.Goals as goal

pub returns-in_err-skipping-clause-moves : goal.returns-in_err-skipping-clause-moves
returns-in_err-skipping-clause-moves g c =
    let p = err_from_is_err_and c.from_residual.result c.from_residual.ensures.1 in
    rw p.1 (rw p.2 (refused g.M.Walk g.met.M.Walk.laws c.args.self.now c.step_off.new.self (tt {0}) c.step_off.ensures.sequence (enters_next g.M.Walk g.met.M.Walk.laws) (λ order pairs was. was) _
    (failed g.M.Walk g.met.M.Walk.laws c.in_err-skipping.ensures.moves) c.step_off.ensures.at))

pub returns-in_err-find_next-clause-moves : goal.returns-in_err-find_next-clause-moves
returns-in_err-find_next-clause-moves g c =
    let p = err_from_is_err_and c.from_residual-in_err-find_next.result c.from_residual-in_err-find_next.ensures.1 in
    rw p.1 (rw p.2 (refused g.M.Walk g.met.M.Walk.laws c.args.self.now c.find_next.new.self (tt {0}) (c.find_next.ensures.sequence ∙ c.step_off.ensures.sequence) (enters_next g.M.Walk g.met.M.Walk.laws) (λ order pairs was. was) _
    (joined g.M.Walk g.met.M.Walk.laws c.in_ok-skipping.ensures.moves (next_at g.M.Walk g.met.M.Walk.laws _ (saved_of c.find_next.new.self) c.step_off.ensures.sequence c.in_err-find_next.ensures.moves))
    c.in_err-find_next.ensures.at))

pub returns-clause-moves : goal.returns-clause-moves
returns-clause-moves g c =
    arrived g.M.Walk g.met.M.Walk.laws c.args.self.now c.find_next.new.self (tt {0}) (c.find_next.ensures.sequence ∙ c.step_off.ensures.sequence) (enters_next g.M.Walk g.met.M.Walk.laws) (λ order pairs was. was) _
    (joined g.M.Walk g.met.M.Walk.laws c.in_ok-skipping.ensures.moves (next_at g.M.Walk g.met.M.Walk.laws _ (saved_of c.find_next.new.self) c.step_off.ensures.sequence c.in_ok-find_next.ensures.moves))
