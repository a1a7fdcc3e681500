use Rattle.std.proofs.Common.{◌≡◌, false, map, take}
use Rattle.std.specs.List.{list_any}
use Rattle.leveldb_version_set.specs.Compactions.Contradictions.{begins_by}
use Rattle.leveldb_version.specs.Edits.VersionEdit.{new_file_of}
use Rattle.leveldb_version_set.proofs.compaction.inputs.one_begins_by.Given as goal

abbrev pub invariant-loop-file : goal.invariant-loop-file
invariant-loop-file g l =
    list_any (begins_by (g.C.Cmp.cmp l.ucmp) l.key) (map new_file_of (take l.file-index l.files)) ≡ false
