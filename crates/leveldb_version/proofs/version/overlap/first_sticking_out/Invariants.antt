use Rattle.std.proofs.Common.{◌≡◌, map, take}
use Rattle.std.specs.Prelude.{◌&&◌, None}
use Rattle.std.specs.List.{find}
use Rattle.leveldb_files.specs.Levels.Overlap.{overlaps, sticks_out}
use Rattle.leveldb_version.specs.Edits.VersionEdit.{new_file_of}
use Rattle.leveldb_version.proofs.version.overlap.first_sticking_out.Given as goal

abbrev pub invariant-loop-file : goal.invariant-loop-file
invariant-loop-file g l =
    find (λ file. overlaps (g.C.Cmp.cmp l.ucmp) l.range file && sticks_out (g.C.Cmp.cmp l.ucmp) l.range file)
    (map new_file_of (take l.file-index l.files)) ≡ None
