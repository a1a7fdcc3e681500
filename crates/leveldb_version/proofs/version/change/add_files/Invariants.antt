use Rattle.std.proofs.Common.{◌≡◌, fold, map, take}
use Rattle.leveldb_version.specs.Versions.Version.{FilesFit}
use Rattle.leveldb_version.specs.Versions.Change.{version_files_with}
use Rattle.leveldb_version.specs.Edits.VersionEdit.{new_file_of}
use Rattle.leveldb_version.proofs.version.change.add_files.Given as goal

abbrev pub invariant-loop-file : goal.invariant-loop-file
invariant-loop-file l = record {
  files : l.files.items ≡ fold version_files_with l.initial.files.items (map new_file_of (take l.file-index l.added));
  fit : FilesFit l.initial.files.items → FilesFit l.files.items;
}
