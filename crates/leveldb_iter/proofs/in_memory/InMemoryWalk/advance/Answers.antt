use Rattle.leveldb_base.specs.Types.{next_position}
use Rattle.leveldb_iter.proofs.InMemoryLemmas.{moves_alone, valid_alone}
use Rattle.leveldb_iter.proofs.in_memory.InMemoryWalk.advance.Goals as goal

pub returns-clause-moves : goal.returns-clause-moves
returns-clause-moves g c = moves_alone g.M.LdbIterator (c.args._env.now, c.args._tables.now) next_position c.advance.result c.advance.ensures.keeps c.advance.ensures.ok c.advance.ensures.err c.advance.ensures.cause

pub returns-clause-valid : goal.returns-clause-valid
returns-clause-valid g c = valid_alone g.M.LdbIterator c.advance.new.self (g.met.M.LdbIterator.in_range c.advance.new.self) c.advance.result c.advance.ensures.valid
