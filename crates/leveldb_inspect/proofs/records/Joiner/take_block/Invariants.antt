use Rattle.std.proofs.Common.{◌≤◌, ◌-◌, length}
use Rattle.leveldb_inspect.proofs.records.Joiner.take_block.Given as goal

abbrev pub invariant-loop-at : goal.invariant-loop-at
invariant-loop-at g l = record { within : l.at ≤ length l.block }

abbrev pub decreases-loop-at : goal.decreases-loop-at
decreases-loop-at g l = length l.block - l.at
