use Rattle.leveldb_mem.proofs.LawsLemmas.{cut_reads, front_of_records}
use Rattle.leveldb_mem.proofs.laws.cut_log_keeps_first_records.Goals as goal

pub returns-clause-cut : goal.returns-clause-cut
returns-clause-cut c = cut_reads

pub returns-clause-front : goal.returns-clause-front
returns-clause-front c = front_of_records
