use Rattle.std.proofs.Common.{◌≡◌, map, take}
use Rattle.leveldb_files.specs.Levels.Summary.{total_size}
use Rattle.leveldb_version.specs.Edits.VersionEdit.{new_file_of}
use Rattle.leveldb_version.proofs.version.order.total_size.Given as goal

abbrev pub invariant-loop-file : goal.invariant-loop-file
invariant-loop-file l = l.size ≡ total_size (map new_file_of (take l.file-index l.files))
