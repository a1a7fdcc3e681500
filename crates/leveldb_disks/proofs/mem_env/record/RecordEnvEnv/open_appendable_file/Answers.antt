use Rattle.std.proofs.Common.{true}
use Rattle.leveldb_env.specs.Env.{created}
use Rattle.leveldb_disks.proofs.mem_env.record.RecordEnvEnv.open_appendable_file.Goals as goal

pub returns-in_default-clause-asks : goal.returns-in_default-clause-asks
returns-in_default-clause-asks c = c.find_no_memory.ensures.asks (created c.args.name.now) true
