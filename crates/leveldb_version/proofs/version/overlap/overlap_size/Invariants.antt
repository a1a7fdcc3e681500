use Rattle.std.proofs.Common.{◌≡◌, map, take}
use Rattle.std.specs.List.{filter}
use Rattle.leveldb_files.specs.Levels.Overlap.{overlaps}
use Rattle.leveldb_files.specs.Levels.Summary.{total_size}
use Rattle.leveldb_version.specs.Edits.VersionEdit.{new_file_of}
use Rattle.leveldb_version.proofs.version.overlap.overlap_size.Given as goal

abbrev pub invariant-loop-file : goal.invariant-loop-file
invariant-loop-file g l =
    l.size ≡ total_size (filter (overlaps (g.C.Cmp.cmp l.ucmp) l.range) (map new_file_of (take l.file-index l.files)))
