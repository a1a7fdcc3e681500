use Rattle.rusty_leveldb.proofs.Walks.SaysLemmas.{pair_says}
use Rattle.rusty_leveldb.proofs.db_iter.StoreIterator.current.Goals as goal

pub returns-clause-says : goal.returns-clause-says
returns-clause-says g c = pair_says _ _ c.current.ensures
