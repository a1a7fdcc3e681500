use Rattle.std.proofs.Common.{◌∙◌, None}
use Rattle.std.proofs.lemmas.Result.{err_from_is_err_and}
use Rattle.leveldb_iter.proofs.DbIterLemmas.{joined, failed}
use Rattle.leveldb_iter.proofs.DbIterMoveLemmas.{finished, refused, enters_last, previous_at, saved_of}
use Rattle.leveldb_iter.proofs.db_iter.ViewWalkWalk.seek_to_last.Goals as goal

pub returns-in_err-to_last : goal.returns-in_err-to_last
returns-in_err-to_last g c =
    let p = err_from_is_err_and c.from_residual.result c.from_residual.ensures.1 in
    rw p.1 (rw p.2 (record {
      moves = refused g.M.Walk g.met.M.Walk.laws c.args.self.now c.to_last.new.self (tt {0}) c.to_last.ensures.sequence (enters_last g.M.Walk g.met.M.Walk.laws) (λ order pairs was. (None, was)) _
          (failed g.M.Walk g.met.M.Walk.laws c.in_err-to_last.ensures.moves) c.to_last.ensures.at;
    }))

pub returns : goal.returns
returns g c = record {
  moves = finished g.M.Walk g.met.M.Walk.laws c.args.self.now c.find_previous.new.self (c.find_previous.ensures.sequence ∙ c.to_last.ensures.sequence) (enters_last g.M.Walk g.met.M.Walk.laws) (λ order pairs was. (None, was)) _
      (joined g.M.Walk g.met.M.Walk.laws c.in_ok-to_last.ensures.moves (previous_at g.M.Walk g.met.M.Walk.laws _ (saved_of c.find_previous.new.self) c.to_last.ensures.sequence c.find_previous.ensures.moves)) c.find_previous.ensures.at;
}
