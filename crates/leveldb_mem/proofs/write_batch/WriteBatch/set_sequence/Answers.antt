use Rattle.std.proofs.Common.{arith, rules}
use Rattle.leveldb_mem.specs.WriteBatch.{batch_of}
use Rattle.leveldb_mem.proofs.WriteBatchLemmas.{length-batch, renumbered, batch_is}
use Rattle.leveldb_mem.proofs.write_batch.WriteBatch.set_sequence.Goals as goal

pub write_u64-requires : goal.write_u64-requires
write_u64-requires c = omega (arith, length-batch c.self.inside.is_batch.1, c.deref_mut.ensures.len)

pub invariant_of-self-inside : goal.invariant_of-self-inside
invariant_of-self-inside c = (
  (
    batch_of c.args.sequence c.self.inside.is_batch.0.items,
    renumbered _ c.args.sequence c.self.inside.is_batch.1 (omega arith) c.self.inside.entries.ok.0 c.deref_mut.ensures.value c.write_u64.ensures,
  ),
  tt,
)

pub returns : goal.returns
returns c =
    let made = renumbered _ c.args.sequence c.self.inside.is_batch.1 (omega arith) c.self.inside.entries.ok.0 c.deref_mut.ensures.value c.write_u64.ensures in
    rw (← c.self.view_is) (search (batch_is, rules))
