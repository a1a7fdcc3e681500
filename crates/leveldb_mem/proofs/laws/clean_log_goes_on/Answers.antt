use Rattle.leveldb_mem.proofs.LawsLemmas.{logs_append, framings_append}
use Rattle.leveldb_mem.proofs.laws.clean_log_goes_on.Goals as goal

pub returns-clause-logs : goal.returns-clause-logs
returns-clause-logs c = logs_append

pub returns-clause-framings : goal.returns-clause-framings
returns-clause-framings c = framings_append
