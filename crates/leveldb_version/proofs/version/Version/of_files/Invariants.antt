use Rattle.std.proofs.Common.{◌≡◌, map, take}
use Rattle.leveldb_version.specs.Versions.Version.{FilesFit, with_first_seeks}
use Rattle.leveldb_version.proofs.version.Version.of_files.Given as goal

abbrev pub invariant-loop-file : goal.invariant-loop-file
invariant-loop-file g l = record {
  copied : l.sorted.items ≡ map with_first_seeks (take l.file-index l.files);
  fit : FilesFit l.sorted.items;
}
