use Rattle.leveldb_files.proofs.Steps.WritesLemmas.{batches_append, log_sync_holds}
use Rattle.leveldb_files.proofs.laws.stores.batches_are_appended_and_synced.Goals as goal

pub returns : goal.returns
returns g c = record {
  append = λ store files edits w history last durable holds items text is first_fits all_fit.
      batches_append store g.F.StoreFormat.cmp g.F.StoreFormat.is_table g.F.StoreFormat.allowed files edits w history last durable holds
      items text is first_fits all_fit;
  sync = λ store files edits w history last durable holds.
      log_sync_holds store g.F.StoreFormat.cmp g.F.StoreFormat.is_table g.F.StoreFormat.allowed files edits w history last durable holds;
}
