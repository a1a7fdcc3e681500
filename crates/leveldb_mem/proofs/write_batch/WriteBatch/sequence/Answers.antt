use Rattle.std.proofs.Common.{ap, ◌∙◌, arith}
use Rattle.byteorder.specs.Endian.{little_number}
use Rattle.leveldb_mem.proofs.WriteBatchLemmas.{length-batch, first_there}
use Rattle.leveldb_mem.proofs.write_batch.WriteBatch.sequence.Goals as goal

pub read_u64-requires : goal.read_u64-requires
read_u64-requires c = omega (arith, length-batch c.self.inside.is_batch.1, c.deref.ensures.len)

pub returns : goal.returns
returns c =
    c.read_u64.ensures ∙ ap (λ z. little_number 8 z) c.deref.ensures.value ∙ first_there c.self.inside.is_batch.1 ∙ ap (λ z. z.first) c.self.view_is
