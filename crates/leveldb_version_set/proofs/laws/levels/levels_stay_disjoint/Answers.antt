use Rattle.leveldb_version_set.proofs.Sets.DisjointLemmas.{usable_disjoint}
use Rattle.leveldb_version.proofs.Versions.DisjointLemmas.{fewer_disjoint, picked_disjoint}
use Rattle.leveldb_version_set.proofs.laws.levels.levels_stay_disjoint.Goals as goal

pub returns : goal.returns
returns c = record { usable = usable_disjoint; fewer = fewer_disjoint; picked = picked_disjoint }
