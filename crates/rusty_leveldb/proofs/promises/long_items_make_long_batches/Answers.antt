use Rattle.rusty_leveldb.proofs.Engines.Batching.{long_item}
use Rattle.rusty_leveldb.proofs.promises.long_items_make_long_batches.Goals as goal

pub returns : goal.returns
returns c = long_item
