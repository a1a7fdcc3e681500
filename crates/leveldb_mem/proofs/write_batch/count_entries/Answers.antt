use Rattle.std.proofs.Common.{◌<◌, length, arith}
use Rattle.std.proofs.lemmas.Bool.Decides.{nat_tests}
use Rattle.leveldb_mem.proofs.WriteBatchLemmas.{count_within, read_more, counts_none, shorter}
use Rattle.leveldb_mem.proofs.write_batch.count_entries.Goals as goal

pub returns-in_err-others : goal.returns-in_err-others
returns-in_err-others c =
    let some : 0 < length c.loop-rest.rest.now = grind (arith, nat_tests) in
    rw c.from_residual.ensures (counts_none c.loop-rest.invariant some c.in_err-others.ensures)

pub overflow_add-count : goal.overflow_add-count
overflow_add-count c =
    let some : 0 < length c.loop-rest.rest.now = grind (arith, nat_tests) in
    omega (arith, count_within c.loop-rest.invariant)

pub loop-rest-smaller : goal.loop-rest-smaller
loop-rest-smaller c = shorter _ _ c.in_ok-others.ensures

pub loop-rest-preserved : goal.loop-rest-preserved
loop-rest-preserved c = read_more c.loop-rest.invariant _ _ c.in_ok-others.ensures
