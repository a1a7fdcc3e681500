use Rattle.std.proofs.Common.{◌≡◌, fold, map}
use Rattle.std.specs.Map.Iter.{deref}
use Rattle.leveldb_version.specs.Versions.Version.{FilesFit}
use Rattle.leveldb_version.specs.Versions.Change.{version_files_without}
use Rattle.leveldb_version.proofs.version.change.remove_files.Given as goal

abbrev pub invariant-loop-file : goal.invariant-loop-file
invariant-loop-file l = record {
  files : l.files.items ≡ fold version_files_without l.initial.files.items (map deref l.yielded);
  fit : FilesFit l.initial.files.items → FilesFit l.files.items;
}
