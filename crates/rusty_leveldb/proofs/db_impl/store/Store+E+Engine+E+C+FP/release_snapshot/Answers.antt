use Rattle.rusty_leveldb.proofs.Engines.SaysLemmas.{release_says}
use Rattle.rusty_leveldb.proofs.db_impl.store.Store+E+Engine+E+C+FP.release_snapshot.Goals as goal

pub returns-clause-says : goal.returns-clause-says
returns-clause-says g c = release_says (c.release_snapshot.ensures c.args.self.now.env.now)

-- the engine's call makes none of the environment
pub returns-clause-serves : goal.returns-clause-serves
returns-clause-serves g c = c.release_snapshot.ensures c.args.self.now.env.now
