use Rattle.std.proofs.Common.{◌≡◌, List, ◌++◌, length, ℕ}
use Rattle.leveldb_base.specs.declared.types.FileMetaData.{FileMetaData}
use Rattle.leveldb_version.specs.Walks.VersionIters.{AreWalksOf, each_alone}
use Rattle.leveldb_version.proofs.version.iters.push_alone.Given as goal

abbrev pub invariant-loop-rest : goal.invariant-loop-rest
invariant-loop-rest g l = (rest : List (ℕ × FileMetaData)) × (l.initial.files ≡ l.left ++ rest)
    × AreWalksOf l.initial.iters.items (each_alone rest) l.iters.items

abbrev pub decreases-loop-rest : goal.decreases-loop-rest
decreases-loop-rest g l = length l.left
