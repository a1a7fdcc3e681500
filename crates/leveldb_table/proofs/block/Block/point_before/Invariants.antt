use Rattle.std.proofs.Common.{◌-◌, ◌<◌, ◌≤◌, length, get_or}
use Rattle.leveldb_table.specs.Block.{restart_points}
use Rattle.leveldb_table.proofs.block.Block.point_before.Given as goal

abbrev pub invariant-loop-left : goal.invariant-loop-left
invariant-loop-left g l = (l.left ≤ l.right) × (l.right < length (restart_points l.self.entries)) × (get_or (restart_points l.self.entries) l.left 0 < l.offset)

abbrev pub decreases-loop-left : goal.decreases-loop-left
decreases-loop-left g l = l.right - l.left
