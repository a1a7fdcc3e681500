use Rattle.std.proofs.Common.{length}
use Rattle.leveldb_mem.proofs.WriteBatchLemmas.{HasRead}
use Rattle.leveldb_mem.proofs.write_batch.count_entries.Given as goal

abbrev pub invariant-loop-rest : goal.invariant-loop-rest
invariant-loop-rest l = HasRead l.bytes l.rest l.count

abbrev pub decreases-loop-rest : goal.decreases-loop-rest
decreases-loop-rest l = length l.rest
