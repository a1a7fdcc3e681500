use Rattle.rusty_leveldb.proofs.Engines.SaysLemmas.{compact_says}
use Rattle.rusty_leveldb.proofs.db_impl.store.Store+E+Engine+E+C+FP.compact_range.Goals as goal

pub returns-clause-says : goal.returns-clause-says
returns-clause-says g c = compact_says c.compact_range.ensures
