use Rattle.leveldb_version_set.proofs.Sets.TrackedLemmas.{tracked_given, tracked_synced, tracked_unread}
use Rattle.leveldb_version_set.proofs.laws.writing.stores_stay_tracked.Goals as goal

pub returns : goal.returns
returns g c = record {
  given = λ store. tracked_given store g.F.StoreFormat.cmp g.F.StoreFormat.is_table;
  synced = λ store. tracked_synced store g.F.StoreFormat.cmp g.F.StoreFormat.is_table;
  unread = λ store. tracked_unread store g.F.StoreFormat.cmp g.F.StoreFormat.is_table;
}
