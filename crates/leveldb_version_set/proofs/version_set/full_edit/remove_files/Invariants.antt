use Rattle.std.proofs.Common.{◌≡◌, ◌≤◌, fold, map}
use Rattle.std.specs.Prelude.{vec_len, vec_capacity}
use Rattle.std.specs.Map.Iter.{deref}
use Rattle.leveldb_version.specs.Edits.FullEdit.{files_without}
use Rattle.leveldb_version.specs.Edits.VersionEdit.{new_file_of}
use Rattle.leveldb_version_set.proofs.version_set.full_edit.remove_files.Given as goal

abbrev pub invariant-loop-file : goal.invariant-loop-file
invariant-loop-file l = record {
  files : map new_file_of l.files.items ≡ fold files_without (map new_file_of l.initial.files.items) (map deref l.yielded);
  length : vec_len l.files ≤ vec_len l.initial.files;
  capacity : vec_capacity l.initial.files ≤ vec_capacity l.files;
}
