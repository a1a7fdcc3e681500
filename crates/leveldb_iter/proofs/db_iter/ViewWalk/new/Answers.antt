use Rattle.std.proofs.Common.{refl}
use Rattle.leveldb_iter.proofs.DbIterMoveLemmas.{made_fails}
use Rattle.leveldb_iter.proofs.db_iter.ViewWalk.new.Goals as goal

pub returns-clause-fails : goal.returns-clause-fails
returns-clause-fails g c = made_fails g.M.Walk g.met.M.Walk.laws _ refl
