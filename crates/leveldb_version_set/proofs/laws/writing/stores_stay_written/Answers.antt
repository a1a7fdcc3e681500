use Rattle.leveldb_version_set.proofs.Engines.WrittenLemmas.{written_given, written_synced, written_unread}
use Rattle.leveldb_version_set.proofs.laws.writing.stores_stay_written.Goals as goal

pub returns : goal.returns
returns g c = record {
  given = λ store. written_given store g.F.StoreFormat.cmp g.F.StoreFormat.is_table;
  synced = λ store. written_synced store g.F.StoreFormat.cmp g.F.StoreFormat.is_table;
  unread = λ store. written_unread store g.F.StoreFormat.cmp g.F.StoreFormat.is_table;
}
