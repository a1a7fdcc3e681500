use Rattle.leveldb_version_set.proofs.Compactions.CompactionLemmas.{compactions_keep_views}
use Rattle.leveldb_version_set.proofs.laws.compactions.compactions_keep_levels_and_views.Goals as goal

pub returns : goal.returns
returns c = compactions_keep_views
