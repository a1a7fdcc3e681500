use Rattle.leveldb_version_set.proofs.Engines.BatchWrittenLemmas.{batch_is_written, synced_log_is_durable}
use Rattle.leveldb_version_set.proofs.laws.writing.batches_are_written.Goals as goal

pub returns : goal.returns
returns g c = record {
  append = λ store one files edits memory w history durable holds items text is_batch first_fits
      all_fit.
      batch_is_written store g.F.StoreFormat.cmp g.F.StoreFormat.is_table files edits memory w
      items text is_batch first_fits all_fit g.F.StoreFormat.allowed history durable holds;
  sync = λ store. synced_log_is_durable store g.F.StoreFormat.cmp g.F.StoreFormat.is_table
      g.F.StoreFormat.allowed;
}
