use Rattle.std.proofs.Common.{◌≡◌, false, take}
use Rattle.std.specs.List.{list_any}
use Rattle.leveldb_version.specs.Versions.Version.{has_last_seek}
use Rattle.leveldb_version.proofs.version.seeks.is_last_seek_among.Given as goal

abbrev pub invariant-loop-file : goal.invariant-loop-file
invariant-loop-file l = list_any (has_last_seek l.at) (take l.file-index l.files) ≡ false
