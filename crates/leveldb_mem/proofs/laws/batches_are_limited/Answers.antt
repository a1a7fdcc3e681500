use Rattle.leveldb_mem.proofs.WriteBatchLemmas.{items_short, items_counted}
use Rattle.leveldb_mem.proofs.laws.batches_are_limited.Goals as goal

pub returns : goal.returns
returns c = record { texts = items_short; count = items_counted }
