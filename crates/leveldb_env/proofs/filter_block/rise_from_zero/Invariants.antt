use Rattle.std.proofs.Common.{◌↔◌, length}
use Rattle.leveldb_env.specs.FilterBlock.{RiseFrom, numbers_in}
use Rattle.leveldb_env.proofs.filter_block.rise_from_zero.Given as goal

abbrev pub invariant-loop-left : goal.invariant-loop-left
invariant-loop-left l = RiseFrom 0 (numbers_in l.bytes) ↔ RiseFrom l.last (numbers_in l.left)

abbrev pub decreases-loop-left : goal.decreases-loop-left
decreases-loop-left l = length l.left
