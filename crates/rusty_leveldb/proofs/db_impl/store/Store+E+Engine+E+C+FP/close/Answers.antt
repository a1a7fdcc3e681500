use Rattle.rusty_leveldb.proofs.Engines.SaysLemmas.{close_says}
use Rattle.rusty_leveldb.proofs.db_impl.store.Store+E+Engine+E+C+FP.close.Goals as goal

pub returns-clause-says : goal.returns-clause-says
returns-clause-says g c = close_says c.close.ensures
