use Rattle.rusty_leveldb.proofs.Engines.SaysLemmas.{flush_says}
use Rattle.rusty_leveldb.proofs.db_impl.store.Store+E+Engine+E+C+FP.flush.Goals as goal

pub returns-clause-says : goal.returns-clause-says
returns-clause-says g c = flush_says c.flush.ensures
