use Rattle.std.proofs.Common.{map}
use Rattle.std.specs.List.{count_by}
use Rattle.leveldb_files.specs.Levels.Overlap.{sticks_out}
use Rattle.leveldb_version.specs.Edits.VersionEdit.{new_file_of}
use Rattle.leveldb_files.proofs.Levels.OverlapLemmas.{IsWidening}
use Rattle.leveldb_version.proofs.version.overlap.widen.Given as goal

abbrev pub invariant-loop-file : goal.invariant-loop-file
invariant-loop-file g l = IsWidening (g.C.Cmp.cmp l.ucmp) (map new_file_of l.files) l.fn.range l.range

abbrev pub decreases-loop-file : goal.decreases-loop-file
decreases-loop-file g l = count_by (sticks_out (g.C.Cmp.cmp l.ucmp) l.range) (map new_file_of l.files)
