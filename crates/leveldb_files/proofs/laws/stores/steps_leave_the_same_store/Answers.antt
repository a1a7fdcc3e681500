use Rattle.leveldb_files.proofs.Stores.ManifestLemmas.{managed_of}
use Rattle.leveldb_files.proofs.Steps.SameStoreLemmas.{same_after_new_log, same_after_sync, same_after_unread}
use Rattle.leveldb_files.proofs.laws.stores.steps_leave_the_same_store.Goals as goal

pub returns : goal.returns
returns g c = record {
  read = λ store. managed_of store g.F.StoreFormat.cmp g.F.StoreFormat.is_table;
  sync = λ store. same_after_sync store g.F.StoreFormat.cmp g.F.StoreFormat.is_table;
  log = λ store. same_after_new_log store g.F.StoreFormat.cmp g.F.StoreFormat.is_table;
  unread = λ store. same_after_unread store g.F.StoreFormat.cmp g.F.StoreFormat.is_table;
}
