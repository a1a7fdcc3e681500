use Rattle.std.proofs.Common.{[], arith, rules}
use Rattle.leveldb_mem.specs.WriteBatch.{batch_of}
use Rattle.leveldb_mem.proofs.WriteBatchLemmas.{length-batch, empty_batch, batch_is}
use Rattle.leveldb_mem.proofs.write_batch.WriteBatch.clear.Goals as goal

pub copy_from_slice-requires : goal.copy_from_slice-requires
copy_from_slice-requires c = omega (arith, length-batch c.self.inside.is_batch.1, c.self.inside.entries.ok.0, c.truncate.ensures.len)

pub invariant_of-self-inside : goal.invariant_of-self-inside
invariant_of-self-inside c = ((batch_of 0 [], empty_batch c.copy_from_slice.ensures.items), tt)

pub returns : goal.returns
returns c = let made = empty_batch c.copy_from_slice.ensures.items in search (batch_is, rules)
