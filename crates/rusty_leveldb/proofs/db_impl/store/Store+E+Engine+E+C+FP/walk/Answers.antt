use Rattle.rusty_leveldb.proofs.Engines.SaysLemmas.{walk_says}
use Rattle.rusty_leveldb.proofs.db_impl.store.Store+E+Engine+E+C+FP.walk.Goals as goal

pub returns-clause-says : goal.returns-clause-says
returns-clause-says g c = (c.walk.ensures.0, c.walk.ensures.1, walk_says c.args.at c.walk.ensures.2)
