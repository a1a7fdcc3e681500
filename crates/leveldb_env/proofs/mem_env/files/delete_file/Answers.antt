use Rattle.std.proofs.Common.{None}
use Rattle.leveldb_env.proofs.MemEnvLemmas.{files_updated}
use Rattle.leveldb_env.proofs.mem_env.files.delete_file.Goals as goal

pub returns-clause-deleted : goal.returns-clause-deleted
returns-clause-deleted c = files_updated c.args.name.now c.args.files.now c.remove.new.self None c.remove.ensures.updates
