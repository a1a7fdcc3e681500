use Rattle.leveldb_disks.proofs.mem_env.record.RecordEnvEnv.sync.Goals as goal

pub returns-clause-asks : goal.returns-clause-asks
returns-clause-asks c = rw c.as_str.ensures.value at c.ask.ensures.asks
