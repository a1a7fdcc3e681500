use Rattle.leveldb_version_set.proofs.Compactions.ChoosingLemmas.{choices_go_by_sets, chosen_may_be_compacted, widened_are_closed}
use Rattle.leveldb_version_set.proofs.laws.compactions.chosen_files_may_be_compacted.Goals as goal

pub returns-clause-chosen : goal.returns-clause-chosen
returns-clause-chosen c = chosen_may_be_compacted

pub returns-clause-widened : goal.returns-clause-widened
returns-clause-widened c = widened_are_closed

pub returns-clause-sets : goal.returns-clause-sets
returns-clause-sets c = choices_go_by_sets
