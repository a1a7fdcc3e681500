use Rattle.leveldb_base.specs.Types.{previous_position}
use Rattle.leveldb_iter.proofs.InMemoryLemmas.{moves_alone, valid_alone}
use Rattle.leveldb_iter.proofs.in_memory.InMemoryWalk.prev.Goals as goal

pub returns-clause-moves : goal.returns-clause-moves
returns-clause-moves g c = moves_alone g.M.LdbIterator (c.args._env.now, c.args._tables.now) (λ _. previous_position) c.prev.result c.prev.ensures.keeps c.prev.ensures.ok c.prev.ensures.err c.prev.ensures.cause

pub returns-clause-valid : goal.returns-clause-valid
returns-clause-valid g c = valid_alone g.M.LdbIterator c.prev.new.self (g.met.M.LdbIterator.in_range c.prev.new.self) c.prev.result c.prev.ensures.valid
