use Rattle.rusty_leveldb.proofs.db_impl.iterate.Engine+E+C+FP.new_iter_at.Goals as goal

pub returns-clause-reference : goal.returns-clause-reference
returns-clause-reference g c = c.iter_at.ensures.reference

pub returns-clause-iterates : goal.returns-clause-iterates
returns-clause-iterates g c = c.iter_at.ensures.iterates
