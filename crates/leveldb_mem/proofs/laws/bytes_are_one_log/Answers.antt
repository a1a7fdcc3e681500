use Rattle.leveldb_mem.proofs.LawsLemmas.{each_reads, one_reading}
use Rattle.leveldb_mem.proofs.laws.bytes_are_one_log.Goals as goal

pub returns-clause-each : goal.returns-clause-each
returns-clause-each c = each_reads

pub returns-clause-one : goal.returns-clause-one
returns-clause-one c = one_reading
