-- The edit that the code's value represents.
use Rattle.std.specs.Prelude.{◌≡◌, ℕ, map, All, string_bytes}
use Rattle.std.specs.Option.{option_map}
use Rattle.leveldb_base.specs.declared.types.FileMetaData.{FileMetaData}
use Rattle.leveldb_version.specs.declared.version_edit.CompactionPointer.{CompactionPointer}
use Rattle.leveldb_version.specs.declared.version_edit.VersionEdit.{VersionEdit}
use Rattle.leveldb_files.specs.Edits.Edit.{Edit, NewFile, Pointer}

-- ---- the edit of a `VersionEdit`

-- a compaction pointer of the code
abbrev pub pointer_of : CompactionPointer → Pointer
pointer_of it = record { level = it.level; key = it.key }

-- a new file of the code, without the seeks that it may take, which no edit keeps
abbrev pub new_file_of : ℕ × FileMetaData → NewFile
new_file_of it = record {
  level = it.0;
  number = it.1.num;
  size = it.1.size;
  smallest = it.1.smallest;
  largest = it.1.largest;
}

-- the edit that the code's value represents
abbrev pub edit_of : VersionEdit → Edit
edit_of it = record {
  comparator = option_map string_bytes it.comparator;
  log_number = it.log_number;
  previous_log = it.prev_log_number;
  next_file = it.next_file_number;
  last_sequence = it.last_seq;
  pointers = map pointer_of it.compaction_ptrs.items;
  deleted = it.deleted.keys;
  added = map new_file_of it.new_files.items;
}

-- no new file may take a seek
abbrev pub HasNoSeeks : VersionEdit → Type 0
HasNoSeeks it = All (λ file. file.1.allowed_seeks ≡ 0) it.new_files.items
