use Rattle.leveldb_version_set.proofs.Engines.RecoveringLemmas.{recovered_after_new_log, recovered_given, recovered_numbered, recovered_synced, recovered_unread}
use Rattle.leveldb_version_set.proofs.laws.opening.stores_stay_recovered.Goals as goal

pub returns : goal.returns
returns g c = record {
  given = λ store. recovered_given store g.F.StoreFormat.cmp g.F.StoreFormat.is_table;
  numbered = λ store. recovered_numbered store g.F.StoreFormat.cmp g.F.StoreFormat.is_table;
  synced = λ store. recovered_synced store g.F.StoreFormat.cmp g.F.StoreFormat.is_table;
  log = λ store. recovered_after_new_log store g.F.StoreFormat.cmp g.F.StoreFormat.is_table;
  unread = λ store. recovered_unread store g.F.StoreFormat.cmp g.F.StoreFormat.is_table;
}
