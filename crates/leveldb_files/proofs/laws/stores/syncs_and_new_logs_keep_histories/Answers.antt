use Rattle.leveldb_files.proofs.Steps.KeepsLemmas.{sync_keeps, new_log_keeps}
use Rattle.leveldb_files.proofs.laws.stores.syncs_and_new_logs_keep_histories.Goals as goal

pub returns : goal.returns
returns g c = record {
  sync = λ store. sync_keeps store g.F.StoreFormat.cmp g.F.StoreFormat.is_table g.F.StoreFormat.allowed;
  log = λ store. new_log_keeps store g.F.StoreFormat.cmp g.F.StoreFormat.is_table g.F.StoreFormat.allowed;
}
