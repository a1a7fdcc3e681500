use Rattle.std.proofs.Common.{◌≡◌, ◌++◌, map, take}
use Rattle.leveldb_version.specs.Versions.Version.{borrowed_files}
use Rattle.leveldb_version.specs.Edits.VersionEdit.{new_file_of}
use Rattle.leveldb_version_set.proofs.compaction.push_copies.Given as goal

abbrev pub invariant-loop-file : goal.invariant-loop-file
invariant-loop-file l =
    map new_file_of l.copies.items ≡ map new_file_of l.initial.copies.items ++ borrowed_files (take l.file-index l.files)
