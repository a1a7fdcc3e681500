use Rattle.std.proofs.Common.{map, take}
use Rattle.leveldb_version_set.specs.Compactions.Picking.{DeletesFiles}
use Rattle.leveldb_version.specs.Edits.VersionEdit.{new_file_of}
use Rattle.leveldb_version_set.proofs.compaction.add_deletions.Given as goal

abbrev pub invariant-loop-file : goal.invariant-loop-file
invariant-loop-file l = DeletesFiles (map new_file_of (take l.file-index l.files)) l.initial.deleted.keys l.deleted.keys
