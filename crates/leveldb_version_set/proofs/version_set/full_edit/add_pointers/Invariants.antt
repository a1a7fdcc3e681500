use Rattle.std.proofs.Common.{◌≡◌, ◌≤◌, ◌+◌, fold, length, map}
use Rattle.std.specs.Prelude.{vec_len, vec_capacity}
use Rattle.std.specs.Vec.Iter.{into_iter_items, into_iter_len}
use Rattle.leveldb_version.specs.Edits.FullEdit.{pointers_with}
use Rattle.leveldb_version.specs.Edits.VersionEdit.{pointer_of}
use Rattle.leveldb_version_set.proofs.version_set.full_edit.add_pointers.Given as goal

abbrev pub invariant-loop-pointer : goal.invariant-loop-pointer
invariant-loop-pointer l = record {
  pointers : fold pointers_with (map pointer_of l.pointers.items) (map pointer_of (into_iter_items l.pointer-iterator))
      ≡ fold pointers_with (map pointer_of l.initial.pointers.items) (map pointer_of (into_iter_items l.initial.pointer-iterator));
  count : into_iter_len l.pointer-iterator ≡ length (into_iter_items l.pointer-iterator);
  room : vec_len l.pointers + into_iter_len l.pointer-iterator ≤ vec_capacity l.pointers;
}
