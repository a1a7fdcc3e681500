use Rattle.leveldb_files.proofs.Steps.WritableLemmas.{append_stays_writable, edit_stays_open, sync_stays_writable}
use Rattle.leveldb_files.proofs.laws.stores.logs_and_manifests_stay_open.Goals as goal

pub returns : goal.returns
returns g c = record {
  batch = λ store. append_stays_writable store g.F.StoreFormat.cmp g.F.StoreFormat.is_table;
  sync = λ store. sync_stays_writable store g.F.StoreFormat.cmp g.F.StoreFormat.is_table;
  edit = edit_stays_open;
}
