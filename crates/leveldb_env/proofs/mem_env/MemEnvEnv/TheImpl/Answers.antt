use Rattle.std.proofs.Common.{rules}
use Rattle.leveldb_env.specs.MemEnv.{handle_name}
use Rattle.leveldb_env.proofs.MemEnvLemmas.{appends}
use Rattle.leveldb_env.proofs.mem_env.MemEnvEnv.TheImpl.Goals as goal

pub append-tells : goal.append-tells
append-tells x c = record {
  does = appends (handle_name c.args.file.now) c.args.bytes.now c.args.self.now c.new.self.now c.result c.ensures.changes;
  locks = search rules;
  file = search rules;
  cause = search rules;
}
