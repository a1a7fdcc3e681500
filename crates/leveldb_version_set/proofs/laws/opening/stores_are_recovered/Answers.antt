use Rattle.leveldb_version_set.proofs.Engines.RecoveringLemmas.{recovered_sets_track, safe_stores_keep_tables, stores_are_recovered}
use Rattle.leveldb_version_set.proofs.laws.opening.stores_are_recovered.Goals as goal

pub returns : goal.returns
returns g c = record {
  tracked = λ store. recovered_sets_track store g.F.StoreFormat.cmp g.F.StoreFormat.is_table;
  tables = λ store. safe_stores_keep_tables store g.F.StoreFormat.cmp g.F.StoreFormat.is_table
      g.F.StoreFormat.allowed;
  synced = λ store. stores_are_recovered store g.F.StoreFormat.cmp g.F.StoreFormat.is_table;
}
