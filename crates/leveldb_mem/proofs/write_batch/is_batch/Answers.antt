use Rattle.std.proofs.Common.{ap, ◌∙◌, arith}
use Rattle.std.proofs.lemmas.List.{take_rest}
use Rattle.byteorder.specs.Endian.{little_number}
use Rattle.leveldb_mem.proofs.WriteBatchLemmas.{batch_tested, batch_fits}
use Rattle.leveldb_mem.proofs.write_batch.is_batch.Goals as goal

pub returns-then-bytes-lt-HEADER_SIZE : goal.returns-then-bytes-lt-HEADER_SIZE
returns-then-bytes-lt-HEADER_SIZE c = (λ h. cc, λ read. absurd (omega (arith, (batch_fits read).0, (batch_fits read).1, c.then-bytes-lt-HEADER_SIZE.either)))

pub returns : goal.returns
returns c =
    rw c.eq.ensures (batch_tested c.args.bytes.now c.count_entries.result c.read_u32-count.result (omega arith) (omega arith) (λ i. omega (arith, c.type_inv.bytes i))
    (rw take_rest at c.count_entries.ensures) (c.read_u32-count.ensures ∙ ap (λ z. little_number 4 z) (take_rest c.args.bytes.now 8)))
