use Rattle.std.proofs.Common.{◌-◌, ◌≡◌, ◌≤◌, take, length, slice_range}
use Rattle.leveldb_env.specs.Source.{GivesSome}
use Rattle.leveldb_mem.proofs.log.reader.draw.Given as goal

abbrev pub invariant-loop-count : goal.invariant-loop-count
invariant-loop-count g l =
    (l.there ≤ l.count) × (l.count ≤ length l.initial.target) × (take l.there l.target ≡ take l.there l.initial.target) × GivesSome g.S.Source.gives l.initial.source (slice_range l.target l.there l.count) l.source

abbrev pub decreases-loop-count : goal.decreases-loop-count
decreases-loop-count g l = l.needed - l.count
