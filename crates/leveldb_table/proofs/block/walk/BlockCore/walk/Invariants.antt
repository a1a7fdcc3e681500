use Rattle.std.proofs.Common.{◌-◌, ◌≤◌}
use Rattle.leveldb_table.specs.BlockWalk.{IsEntryEndingAt}
use Rattle.leveldb_table.proofs.block.walk.BlockCore.walk.Given as goal

abbrev pub invariant-loop-next : goal.invariant-loop-next
invariant-loop-next g l = IsEntryEndingAt l.block.contents l.block.entries l.self.key l.self.spot l.next × (l.next ≤ l.stop)

abbrev pub decreases-loop-next : goal.decreases-loop-next
decreases-loop-next g l = l.stop - l.next
