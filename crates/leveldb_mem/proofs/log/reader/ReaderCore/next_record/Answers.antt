use Rattle.leveldb_mem.proofs.log.reader.ReaderCore.next_record.Goals as goal

pub returns-in-Ok-Damage-clause-found : goal.returns-in-Ok-Damage-clause-found
returns-in-Ok-Damage-clause-found g c = rw c.in-Ok-Damage.field-0-is at c.in-Ok-Damage.ensures.ok
