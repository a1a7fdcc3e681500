use Rattle.leveldb_repair.proofs.RepairAgainLemmas.{another_changes_nothing, crash_leaves, leaves_found}
use Rattle.leveldb_repair.proofs.laws.repairs_find_the_same.Goals as goal

pub returns-clause-found : goal.returns-clause-found
returns-clause-found c = leaves_found

pub returns-clause-crash : goal.returns-clause-crash
returns-clause-crash c = crash_leaves

pub returns-clause-again : goal.returns-clause-again
returns-clause-again c = another_changes_nothing
