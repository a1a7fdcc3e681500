use Rattle.std.proofs.Common.{true, rules}
use Rattle.leveldb_env.specs.MemEnv.{handle_name}
use Rattle.leveldb_disks.proofs.RecordLemmas.{appends, locks}
use Rattle.leveldb_disks.proofs.mem_env.record.RecordEnvEnv.TheImpl.Goals as goal

pub append-tells : goal.append-tells
append-tells x c = record {
  does = appends (handle_name c.args.file.now) c.args.bytes.now true c.args.self.now c.new.self.now c.result c.ensures.asks;
  locks = search rules;
  file = search rules;
  cause = search rules;
}

pub lock-tells : goal.lock-tells
lock-tells x c = record {
  does = locks c.args.name.now true c.args.self.now c.new.self.now c.result c.ensures.asks c.ensures.looks c.ensures.was_free;
  locks = search rules;
  was_free = search rules;
  cause = search rules;
}
