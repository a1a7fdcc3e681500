use Rattle.std.proofs.Common.{ℕ, ◌≤◌, ◌<◌, slice_index_or}
use Rattle.leveldb_iter.specs.Snapshot.{HasSequence}
use Rattle.leveldb_iter.specs.declared.snapshot.Snapshot.{Snapshot}
use Rattle.leveldb_iter.proofs.snapshot.SnapshotList.oldest.Given as goal

-- the least of the first snapshots is that of one of them
abbrev pub invariant-loop-one : goal.invariant-loop-one
invariant-loop-one l = HasSequence l.self.held l.least
    × ((k : ℕ) (d : Snapshot) → k < l.one-index → l.least ≤ (slice_index_or l.self.held k d).sequence)
