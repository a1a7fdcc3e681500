use Rattle.std.proofs.Common.{◌≡◌, ◌<◌, ◌^◌, ◌++◌, flat_map, map, take}
use Rattle.std.specs.List.{All}
use Rattle.leveldb_files.specs.Edits.Edit.{adds, field_bytes}
use Rattle.leveldb_version.specs.Edits.VersionEdit.{new_file_of}
use Rattle.leveldb_version.proofs.version_edit.fields.put_new_files.Given as goal

abbrev pub invariant-loop-file : goal.invariant-loop-file
invariant-loop-file l = record {
  put : l.dst.items ≡ l.initial.dst.items ++ flat_map field_bytes (map adds (map new_file_of (take l.file-index l.files)));
  small : All (λ file. (file.1.num < 2 ^ 64) × (file.1.size < 2 ^ 64)) (take l.file-index l.files);
}
