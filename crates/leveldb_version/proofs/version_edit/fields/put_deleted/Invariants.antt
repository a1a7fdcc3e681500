use Rattle.std.proofs.Common.{◌≡◌, ◌<◌, ◌^◌, ◌++◌, flat_map, map}
use Rattle.std.specs.List.{All}
use Rattle.std.specs.Map.Iter.{deref}
use Rattle.leveldb_files.specs.Edits.Edit.{deletes, field_bytes}
use Rattle.leveldb_version.proofs.version_edit.fields.put_deleted.Given as goal

abbrev pub invariant-loop-file : goal.invariant-loop-file
invariant-loop-file l = record {
  put : l.dst.items ≡ l.initial.dst.items ++ flat_map field_bytes (map deletes (map deref l.yielded));
  small : All (λ file. file.1 < 2 ^ 64) (map deref l.yielded);
}
