use Rattle.std.proofs.Common.{◌≡◌, ◌≤◌, length, map, take}
use Rattle.leveldb_files.specs.Levels.Summary.{files_of_level, total_size}
use Rattle.leveldb_version.specs.Edits.VersionEdit.{new_file_of}
use Rattle.leveldb_version.proofs.version.summary.totals.Given as goal

abbrev pub invariant-loop-file : goal.invariant-loop-file
invariant-loop-file l = record {
  count : l.count ≡ length (files_of_level l.level (map new_file_of (take l.file-index l.files)));
  size : l.size ≡ total_size (files_of_level l.level (map new_file_of (take l.file-index l.files)));
  below : l.count ≤ l.file-index;
}
