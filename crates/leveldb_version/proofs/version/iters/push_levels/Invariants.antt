use Rattle.std.proofs.Common.{◌-◌, take}
use Rattle.leveldb_version.specs.Walks.VersionIters.{AreWalksOf}
use Rattle.leveldb_version.proofs.Walks.VersionItersLemmas.{deep_levels, levels_among}
use Rattle.leveldb_version.proofs.version.iters.push_levels.Given as goal

abbrev pub invariant-loop-level : goal.invariant-loop-level
invariant-loop-level g l = AreWalksOf l.initial.iters.items (levels_among (take (l.level - 1) deep_levels) l.files) l.iters.items
