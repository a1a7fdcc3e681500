use Rattle.rusty_leveldb.proofs.Engines.SaysLemmas.{get_says}
use Rattle.rusty_leveldb.proofs.db_impl.store.Store+E+Engine+E+C+FP.get_at.Goals as goal

pub returns-clause-says : goal.returns-clause-says
returns-clause-says g c = get_says c.get_at.ensures
