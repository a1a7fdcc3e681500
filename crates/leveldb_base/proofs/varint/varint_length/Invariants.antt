use Rattle.std.proofs.Common.{◌+◌, ◌≡◌, length}
use Rattle.leveldb_base.specs.Varint.{varint}
use Rattle.leveldb_base.proofs.varint.varint_length.Given as goal

abbrev pub invariant-loop-rest : goal.invariant-loop-rest
invariant-loop-rest l = l.groups + length (varint l.rest) ≡ length (varint l.n) + 1

abbrev pub decreases-loop-rest : goal.decreases-loop-rest
decreases-loop-rest l = l.rest
