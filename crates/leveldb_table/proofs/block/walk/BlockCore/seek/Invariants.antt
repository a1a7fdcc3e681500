use Rattle.std.proofs.Common.{◌-◌}
use Rattle.leveldb_table.proofs.BlockWalkLemmas.{IsSeeking}
use Rattle.leveldb_table.proofs.block.walk.BlockCore.seek.Given as goal

abbrev pub invariant-loop-next : goal.invariant-loop-next
invariant-loop-next g l = IsSeeking (g.C.Cmp.cmp l.block.cmp) l.block.entries l.key l.self.key l.next

abbrev pub decreases-loop-next : goal.decreases-loop-next
decreases-loop-next g l = l.block-inside.limit - l.next
