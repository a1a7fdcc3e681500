use Rattle.std.proofs.Common.{◌≡◌, length, map}
use Rattle.std.specs.Prelude.{All}
use Rattle.leveldb_version.proofs.Versions.SearchLemmas.{AreLeft}
use Rattle.leveldb_version.specs.Edits.VersionEdit.{new_file_of}
use Rattle.leveldb_version.proofs.version.search.FilesLeft.next.Given as goal

-- the files passed over don't have the key in their range
abbrev pub invariant-loop-file : goal.invariant-loop-file
invariant-loop-file g l = record {
  left : AreLeft (g.C.Cmp.cmp l.ucmp) l.key l.fn.self.newest (map new_file_of l.self-inside.newest.now);
  level_zero : All (λ file. file.0 ≡ 0) l.self-inside.newest.now;
  deeper : l.self-inside.deeper ≡ l.initial.self-inside.deeper;
}

abbrev pub decreases-loop-file : goal.decreases-loop-file
decreases-loop-file g l = length l.self-inside.newest.now
