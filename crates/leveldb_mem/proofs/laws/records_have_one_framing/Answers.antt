use Rattle.leveldb_mem.proofs.LawsLemmas.{record_framed, records_framed, one_record_framing, one_framing, framing_reads}
use Rattle.leveldb_mem.proofs.laws.records_have_one_framing.Goals as goal

pub returns-clause-record : goal.returns-clause-record
returns-clause-record c = record_framed

pub returns-clause-records : goal.returns-clause-records
returns-clause-records c = records_framed

pub returns-clause-one_record : goal.returns-clause-one_record
returns-clause-one_record c = one_record_framing

pub returns-clause-one : goal.returns-clause-one
returns-clause-one c = one_framing

pub returns-clause-reads : goal.returns-clause-reads
returns-clause-reads c = framing_reads
