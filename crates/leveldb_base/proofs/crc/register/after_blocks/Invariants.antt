use Rattle.std.proofs.Common.{◌≡◌, fold, length}
use Rattle.leveldb_base.specs.Crc.{crc_register}
use Rattle.leveldb_base.proofs.crc.register.after_blocks.Given as goal

abbrev pub invariant-loop-left : goal.invariant-loop-left
invariant-loop-left l = fold crc_register l.register l.left ≡ fold crc_register l.fn.register l.fn.blocks

abbrev pub decreases-loop-left : goal.decreases-loop-left
decreases-loop-left l = length l.left
