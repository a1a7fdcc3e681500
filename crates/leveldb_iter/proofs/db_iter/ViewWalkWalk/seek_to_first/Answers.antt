use Rattle.std.proofs.Common.{refl}
use Rattle.std.proofs.lemmas.Result.{err_from_is_err_and}
use Rattle.leveldb_iter.proofs.DbIterMoveLemmas.{first_after_reset, first_fails}
use Rattle.leveldb_iter.proofs.db_iter.ViewWalkWalk.seek_to_first.Goals as goal

pub returns-in_err-advance : goal.returns-in_err-advance
returns-in_err-advance g c =
    let p = err_from_is_err_and c.from_residual.result c.from_residual.ensures.1 in
    rw p.1 (rw p.2 (record { moves = first_fails g.M.Walk g.met.M.Walk.laws c.args.self.now _ refl refl refl c.in_err-advance.ensures.moves }))

pub returns : goal.returns
returns g c = record { moves = first_after_reset g.M.Walk g.met.M.Walk.laws c.args.self.now _ refl refl refl _ c.in_ok-advance.ensures.moves }
