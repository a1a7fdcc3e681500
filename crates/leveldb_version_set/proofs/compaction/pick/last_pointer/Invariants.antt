use Rattle.std.proofs.Common.{◌≡◌, map, take}
use Rattle.std.specs.Option.{option_copied}
use Rattle.leveldb_version.specs.Edits.VersionEdit.{pointer_of}
use Rattle.leveldb_files.specs.Edits.VersionSet.{pointer_at}
use Rattle.leveldb_version_set.proofs.compaction.pick.last_pointer.Given as goal

abbrev pub invariant-loop-pointer : goal.invariant-loop-pointer
invariant-loop-pointer l = option_copied l.last ≡ pointer_at (map pointer_of (take l.pointer-index l.pointers)) l.level
