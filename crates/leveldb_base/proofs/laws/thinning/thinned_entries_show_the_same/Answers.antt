use Rattle.leveldb_base.proofs.ThinningLemmas.{thinning_keeps_views}
use Rattle.leveldb_base.proofs.laws.thinning.thinned_entries_show_the_same.Goals as goal

pub returns : goal.returns
returns c = thinning_keeps_views
