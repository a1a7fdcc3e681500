use Rattle.std.proofs.Common.{length, drop, ap, ◌∙◌, arith, length-drop}
use Rattle.std.proofs.lemmas.List.{take_rest}
use Rattle.byteorder.specs.Endian.{little_number}
use Rattle.leveldb_mem.proofs.WriteBatchLemmas.{length-batch, count_there}
use Rattle.leveldb_mem.proofs.write_batch.WriteBatch.count.Goals as goal

pub slice_bounds-read_u32-count : goal.slice_bounds-read_u32-count
slice_bounds-read_u32-count c = omega (arith, length-batch c.self.inside.is_batch.1, c.deref.ensures.len)

pub slice_bounds-read_u32-start : goal.slice_bounds-read_u32-start
slice_bounds-read_u32-start c = omega (arith, length-batch c.self.inside.is_batch.1, c.deref.ensures.len)

pub read_u32-requires : goal.read_u32-requires
read_u32-requires c = rw take_rest (omega (arith, length-drop 8 c.deref.result.now, length-batch c.self.inside.is_batch.1, c.deref.ensures.len))

pub returns : goal.returns
returns c =
    c.read_u32.ensures ∙ ap (λ z. little_number 4 z) (take_rest c.deref.result.now 8 ∙ ap (λ z. drop 8 z) c.deref.ensures.value)
    ∙ count_there c.self.inside.is_batch.1 ∙ ap (λ z. length z.items) c.self.view_is
