use Rattle.leveldb_mem.specs.WriteBatchLaws.{BatchOf-one, BatchOf-again}
use Rattle.leveldb_mem.proofs.laws.batches_are_their_bytes.Goals as goal

pub returns : goal.returns
returns c = record { reading = BatchOf-one; encoding = BatchOf-again }
