use Rattle.std.proofs.Common.{◌≡◌, ◌≤◌, ◌+◌, fold, length, map}
use Rattle.std.specs.Prelude.{vec_len, vec_capacity}
use Rattle.std.specs.Vec.Iter.{into_iter_items, into_iter_len}
use Rattle.leveldb_version.specs.Edits.FullEdit.{files_with}
use Rattle.leveldb_version.specs.Edits.VersionEdit.{new_file_of}
use Rattle.leveldb_version_set.proofs.version_set.full_edit.add_files.Given as goal

abbrev pub invariant-loop-file : goal.invariant-loop-file
invariant-loop-file l = record {
  files : fold files_with (map new_file_of l.files.items) (map new_file_of (into_iter_items l.file-iterator))
      ≡ fold files_with (map new_file_of l.initial.files.items) (map new_file_of (into_iter_items l.initial.file-iterator));
  count : into_iter_len l.file-iterator ≡ length (into_iter_items l.file-iterator);
  room : vec_len l.files + into_iter_len l.file-iterator ≤ vec_capacity l.files;
}
