use Rattle.std.proofs.Common.{◌≡◌, length, map}
use Rattle.std.specs.List.{list_any}
use Rattle.leveldb_version_set.specs.Compactions.Contradictions.{ends_from}
use Rattle.leveldb_version.specs.Edits.VersionEdit.{new_file_of}
use Rattle.leveldb_version_set.proofs.compaction.inputs.one_ends_from.Given as goal

abbrev pub invariant-loop-file : goal.invariant-loop-file
invariant-loop-file g l =
    list_any (ends_from (g.C.Cmp.cmp l.ucmp) l.key) (map new_file_of l.fn.files)
    ≡ list_any (ends_from (g.C.Cmp.cmp l.ucmp) l.key) (map new_file_of l.left)

abbrev pub decreases-loop-file : goal.decreases-loop-file
decreases-loop-file g l = length l.left
