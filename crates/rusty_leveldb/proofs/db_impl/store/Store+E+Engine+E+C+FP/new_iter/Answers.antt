use Rattle.rusty_leveldb.proofs.Walks.SaysLemmas.{iterate_says}
use Rattle.rusty_leveldb.proofs.db_impl.store.Store+E+Engine+E+C+FP.new_iter.Goals as goal

pub returns-clause-says : goal.returns-clause-says
returns-clause-says g c = iterate_says c.new_iter.ensures.iterates

pub returns-clause-iterates : goal.returns-clause-iterates
returns-clause-iterates g c = c.new_iter.ensures.iterates
