use Rattle.std.proofs.Common.{false}
use Rattle.leveldb_env.proofs.MemEnvLemmas.{locks_updated}
use Rattle.leveldb_env.proofs.mem_env.take_lock.Goals as goal

pub returns-clause-freed : goal.returns-clause-freed
returns-clause-freed c = locks_updated c.args.name.now c.args.locks.now c.remove.new.self false c.remove.ensures.updates
