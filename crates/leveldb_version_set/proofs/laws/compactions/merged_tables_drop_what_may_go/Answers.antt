use Rattle.leveldb_version_set.proofs.Compactions.CompactionOutputsLemmas.{drops_go_by_sets, one_merge_is_left, thinned_tables_drop_all}
use Rattle.leveldb_version_set.proofs.laws.compactions.merged_tables_drop_what_may_go.Goals as goal

pub returns-clause-sets : goal.returns-clause-sets
returns-clause-sets c = drops_go_by_sets

pub returns-clause-all : goal.returns-clause-all
returns-clause-all c = thinned_tables_drop_all

pub returns-clause-one : goal.returns-clause-one
returns-clause-one c = one_merge_is_left
