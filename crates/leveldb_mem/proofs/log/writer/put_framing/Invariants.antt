use Rattle.std.proofs.Common.{◌+◌, if◌then◌else◌, length, ◌++◌}
use Rattle.leveldb_mem.specs.Log.{framed_record}
use Rattle.leveldb_mem.proofs.WriterLemmas.{GoesOn}
use Rattle.leveldb_mem.proofs.log.writer.put_framing.Given as goal

abbrev pub invariant-loop-rest : goal.invariant-loop-rest
invariant-loop-rest l = GoesOn l.block_size (l.initial.dst.items ++ framed_record l.block_size l.text l.initial.offset) l.dst.items l.first l.rest l.offset

abbrev pub decreases-loop-rest : goal.decreases-loop-rest
decreases-loop-rest l = length l.rest + (if l.first then 1 else 0)
