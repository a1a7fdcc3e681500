use Rattle.leveldb_mem.proofs.LawsLemmas.{breaks_bad, breaks_once}
use Rattle.leveldb_mem.proofs.laws.wrong_checksum_ends_log.Goals as goal

pub returns-clause-bad : goal.returns-clause-bad
returns-clause-bad c = breaks_bad

pub returns-clause-once : goal.returns-clause-once
returns-clause-once c = breaks_once
