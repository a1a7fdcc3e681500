use Rattle.std.proofs.Common.{◌≡◌, take}
use Rattle.leveldb_files.specs.Levels.Summary.{total_size}
use Rattle.leveldb_version.specs.Versions.Version.{borrowed_files}
use Rattle.leveldb_version_set.proofs.compaction.pick.size_of.Given as goal

abbrev pub invariant-loop-file : goal.invariant-loop-file
invariant-loop-file l = l.size ≡ total_size (borrowed_files (take l.file-index l.files))
