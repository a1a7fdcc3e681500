use Rattle.rusty_leveldb.proofs.Engines.SaysLemmas.{write_says}
use Rattle.rusty_leveldb.proofs.db_impl.store.Store+E+Engine+E+C+FP.put.Goals as goal

pub returns-clause-says : goal.returns-clause-says
returns-clause-says g c = write_says c.put.ensures
