use Rattle.std.proofs.Common.{◌≡◌, ◌++◌, flat_map, map, take}
use Rattle.leveldb_files.specs.Edits.Edit.{points, field_bytes}
use Rattle.leveldb_version.specs.Edits.VersionEdit.{pointer_of}
use Rattle.leveldb_version.proofs.version_edit.fields.put_pointers.Given as goal

abbrev pub invariant-loop-pointer : goal.invariant-loop-pointer
invariant-loop-pointer l = l.dst.items ≡ l.initial.dst.items ++ flat_map field_bytes (map points (map pointer_of (take l.pointer-index l.pointers)))
