use Rattle.leveldb_version_set.proofs.Engines.WrittenLemmas.{new_table_unread, obsolete_is_unread}
use Rattle.leveldb_version_set.proofs.laws.writing.files_beside_an_open_store.Goals as goal

pub returns : goal.returns
returns g c = record {
  tables = λ store. new_table_unread store g.F.StoreFormat.cmp g.F.StoreFormat.is_table;
  obsolete = λ store. obsolete_is_unread store g.F.StoreFormat.cmp g.F.StoreFormat.is_table;
}
