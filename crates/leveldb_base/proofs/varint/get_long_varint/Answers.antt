use Rattle.std.proofs.Common.{arith}
use Rattle.leveldb_base.proofs.VarintLemmas.{reads_fits, reads_more, reads_last, reads_cut, reads_zero, reads_tenth}
use Rattle.leveldb_base.proofs.varint.get_long_varint.Goals as goal

pub returns-then-byte-gt1 : goal.returns-then-byte-gt1
returns-then-byte-gt1 c = reads_tenth c.loop-i.invariant (omega arith) (omega arith) (omega arith)

pub overflow_add-n : goal.overflow_add-n
overflow_add-n c =
    let fits = reads_fits c.loop-i.invariant (omega arith) (grind arith) in
    rw c.from.ensures (omega (arith, fits))

pub returns-then-i-gt0 : goal.returns-then-i-gt0
returns-then-i-gt0 c = reads_zero c.loop-i.invariant (omega arith) (omega arith) (omega arith)

pub returns-else-byte-eq0 : goal.returns-else-byte-eq0
returns-else-byte-eq0 c = rw c.from.ensures (reads_last c.loop-i.invariant (omega arith) (grind arith) (omega arith) (grind arith))

pub loop-i-preserved : goal.loop-i-preserved
loop-i-preserved c =
    let byte = c.type_inv.src c.loop-i.i in
    rw c.from.ensures (reads_more c.loop-i.invariant (omega arith) (grind arith) (omega arith) (omega (arith, byte)))

pub returns : goal.returns
returns c = reads_cut c.loop-i.invariant (omega arith) (omega arith)
