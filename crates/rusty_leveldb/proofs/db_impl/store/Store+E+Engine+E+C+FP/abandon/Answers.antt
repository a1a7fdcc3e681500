use Rattle.rusty_leveldb.proofs.Engines.SaysLemmas.{abandon_says}
use Rattle.rusty_leveldb.proofs.db_impl.store.Store+E+Engine+E+C+FP.abandon.Goals as goal

pub returns-clause-says : goal.returns-clause-says
returns-clause-says g c = abandon_says c.abandon.ensures
