use Rattle.std.proofs.Common.{refl}
use Rattle.leveldb_iter.proofs.DbIterMoveLemmas.{resets}
use Rattle.leveldb_iter.proofs.db_iter.ViewWalkWalk.reset.Goals as goal

pub returns : goal.returns
returns g c = resets g.M.Walk g.met.M.Walk.laws _ _ refl refl refl
