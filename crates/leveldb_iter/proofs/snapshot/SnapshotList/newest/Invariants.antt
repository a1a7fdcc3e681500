use Rattle.std.proofs.Common.{take}
use Rattle.leveldb_iter.specs.Snapshot.{IsNewest}
use Rattle.leveldb_iter.proofs.snapshot.SnapshotList.newest.Given as goal

-- the greatest of the first snapshots
abbrev pub invariant-loop-one : goal.invariant-loop-one
invariant-loop-one l = IsNewest (take l.one-index l.self.held) l.greatest
