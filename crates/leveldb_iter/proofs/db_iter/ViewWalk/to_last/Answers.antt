use Rattle.leveldb_iter.proofs.DbIterTurnLemmas.{last_sought}
use Rattle.leveldb_iter.proofs.db_iter.ViewWalk.to_last.Goals as goal

pub returns-clause-moves : goal.returns-clause-moves
returns-clause-moves g c = last_sought g.M.Walk g.met.M.Walk.laws c.seek_to_last.ensures.moves
