use Rattle.std.proofs.Common.{◌≡◌, ◌++◌, drop, map, take}
use Rattle.leveldb_version.specs.Versions.Version.{after_seek}
use Rattle.leveldb_version.proofs.version.seeks.take_seek_among.Given as goal

abbrev pub invariant-loop-file : goal.invariant-loop-file
invariant-loop-file l = l.files ≡ map (after_seek l.at) (take l.file-index l.initial.files) ++ drop l.file-index l.initial.files
