use Rattle.std.proofs.Common.{rules}
use Rattle.leveldb_iter.proofs.DbIterTurnLemmas.{key_sought}
use Rattle.leveldb_iter.proofs.db_iter.ViewWalk.to_key.Goals as goal

pub returns-clause-moves : goal.returns-clause-moves
returns-clause-moves g c = key_sought g.M.Walk g.met.M.Walk.laws c.args.key.now _ c.args.self.now.small (search rules) c.seek.ensures.moves
