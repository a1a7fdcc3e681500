use Rattle.leveldb_version_set.proofs.Sets.NewStoreLemmas.{new_store_is_kept}
use Rattle.leveldb_version_set.proofs.laws.version_sets.new_stores_are_kept.Goals as goal

pub returns : goal.returns
returns g c = λ store. new_store_is_kept store g.F.StoreFormat.cmp g.F.StoreFormat.is_table
    g.F.StoreFormat.allowed
