use Rattle.std.proofs.Common.{refl}
use Rattle.leveldb_base.proofs.ThinningLemmas.{one_set_is_left, thinned_drops_all}
use Rattle.leveldb_base.proofs.laws.thinning.what_may_go_is_dropped.Goals as goal

pub returns-clause-all : goal.returns-clause-all
returns-clause-all c = thinned_drops_all

pub returns-clause-one : goal.returns-clause-one
returns-clause-one c = one_set_is_left

pub returns-clause-example : goal.returns-clause-example
returns-clause-example c = refl
