use Rattle.std.proofs.Common.{◌≡◌, false, map, take}
use Rattle.std.specs.List.{list_any}
use Rattle.leveldb_files.specs.Levels.Overlap.{overlaps}
use Rattle.leveldb_version.specs.Edits.VersionEdit.{new_file_of}
use Rattle.leveldb_version.proofs.version.overlap.is_overlapped.Given as goal

abbrev pub invariant-loop-file : goal.invariant-loop-file
invariant-loop-file g l =
    list_any (overlaps (g.C.Cmp.cmp l.ucmp) l.range) (map new_file_of (take l.file-index l.files)) ≡ false
