use Rattle.leveldb_mem.proofs.LawsLemmas.{crash_leaves, cut_is_honest}
use Rattle.leveldb_mem.proofs.laws.crash_keeps_first_records.Goals as goal

pub returns-clause-cut : goal.returns-clause-cut
returns-clause-cut c = cut_is_honest

pub returns-clause-kept : goal.returns-clause-kept
returns-clause-kept c = crash_leaves
