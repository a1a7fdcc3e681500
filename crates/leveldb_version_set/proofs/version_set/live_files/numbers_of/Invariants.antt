use Rattle.std.proofs.Common.{◌≡◌, map, take}
use Rattle.leveldb_version.specs.Edits.VersionEdit.{new_file_of}
use Rattle.leveldb_version_set.specs.Sets.VersionSetValue.{numbers_in_order}
use Rattle.leveldb_version_set.proofs.version_set.live_files.numbers_of.Given as goal

abbrev pub invariant-loop-file : goal.invariant-loop-file
invariant-loop-file l = l.numbers.keys ≡ numbers_in_order (map new_file_of (take l.file-index l.files))
