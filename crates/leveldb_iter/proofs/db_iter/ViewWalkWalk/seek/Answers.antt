use Rattle.std.proofs.Common.{◌∙◌}
use Rattle.std.proofs.lemmas.Result.{err_from_is_err_and}
use Rattle.leveldb_iter.proofs.DbIterLemmas.{joined, failed}
use Rattle.leveldb_iter.proofs.DbIterMoveLemmas.{finished, refused, enters_key, key_from_over, next_at, saved_of}
use Rattle.leveldb_iter.proofs.db_iter.ViewWalkWalk.seek.Goals as goal

pub returns-in_err-to_key : goal.returns-in_err-to_key
returns-in_err-to_key g c =
    let p = err_from_is_err_and c.from_residual.result c.from_residual.ensures.1 in
    rw p.1 (rw p.2 (record {
      moves = refused g.M.Walk g.met.M.Walk.laws c.args.self.now c.to_key.new.self (tt {0}) c.to_key.ensures.sequence (enters_key g.M.Walk g.met.M.Walk.laws c.args.key.now) (key_from_over g.M.Walk g.met.M.Walk.laws c.args.key.now) _
          (failed g.M.Walk g.met.M.Walk.laws c.in_err-to_key.ensures.moves) c.to_key.ensures.at;
    }))

pub returns : goal.returns
returns g c = record {
  moves = finished g.M.Walk g.met.M.Walk.laws c.args.self.now c.find_next.new.self (c.find_next.ensures.sequence ∙ c.to_key.ensures.sequence) (enters_key g.M.Walk g.met.M.Walk.laws c.args.key.now) (key_from_over g.M.Walk g.met.M.Walk.laws c.args.key.now) _
      (joined g.M.Walk g.met.M.Walk.laws c.in_ok-to_key.ensures.moves (next_at g.M.Walk g.met.M.Walk.laws _ (saved_of c.find_next.new.self) c.to_key.ensures.sequence c.find_next.ensures.moves)) c.find_next.ensures.at;
}
