use Rattle.std.proofs.Common.{◌≡◌, ◌<◌, length, map}
use Rattle.std.specs.Prelude.{All}
use Rattle.leveldb_version.proofs.Versions.SearchLemmas.{AreLeft}
use Rattle.leveldb_version.specs.Edits.VersionEdit.{new_file_of}
use Rattle.leveldb_version.proofs.version.search.FilesLeft.next_of_deeper.Given as goal

-- the files passed over don't have the key in their range
abbrev pub invariant-loop-first : goal.invariant-loop-first
invariant-loop-first g l = record {
  left : AreLeft (g.C.Cmp.cmp l.ucmp) l.key l.fn.self.deeper (map new_file_of l.self-inside.deeper.now);
  deep : All (λ file. 0 < file.0) l.self-inside.deeper.now;
  newest : l.self-inside.newest ≡ l.initial.self-inside.newest;
}

abbrev pub decreases-loop-first : goal.decreases-loop-first
decreases-loop-first g l = length l.self-inside.deeper.now
