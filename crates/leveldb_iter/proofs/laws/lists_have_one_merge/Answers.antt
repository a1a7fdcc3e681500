use Rattle.leveldb_iter.proofs.MergedLemmas.{each_has_merge, merge_is_exact, one_merge}
use Rattle.leveldb_iter.proofs.laws.lists_have_one_merge.Goals as goal

pub returns-clause-each : goal.returns-clause-each
returns-clause-each c = each_has_merge

pub returns-clause-one : goal.returns-clause-one
returns-clause-one c = one_merge

pub returns-clause-exact : goal.returns-clause-exact
returns-clause-exact c = merge_is_exact
