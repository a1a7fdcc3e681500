-- One edit that has all that a store's files are, and what it becomes by another.
use Rattle.std.specs.Prelude.{◌≤◌, ◌+◌, ◌==◌, not, List, [], ◌∷◌, ◌++◌, fold, vec_len, vec_capacity}
use Rattle.std.specs.List.{filter}
use Rattle.std.specs.Option.{option_or}
use Rattle.leveldb_version.specs.declared.version_edit.VersionEdit.{VersionEdit}
use Rattle.leveldb_files.specs.Edits.Edit.{Edit, LevelFile, NewFile, Pointer}
use Rattle.leveldb_files.specs.Edits.VersionSet.{is_same_file, level_file}

-- ---- files

-- the files without the one of this level and number
abbrev pub files_without : List NewFile → LevelFile → List NewFile
files_without files at = filter (λ file. not (is_same_file (level_file file) at)) files

-- the files with one more at the end, in place of the one of its level and number
abbrev pub files_with : List NewFile → NewFile → List NewFile
files_with files file = files_without files (level_file file) ++ file ∷ []

-- the files after an edit, which deletes some and then adds some
abbrev pub files_after : Edit → List NewFile → List NewFile
files_after edit files = fold files_with (fold files_without files edit.deleted) edit.added

-- ---- compaction pointers

-- the pointers with one more at the end, in place of the one of its level
abbrev pub pointers_with : List Pointer → Pointer → List Pointer
pointers_with pointers pointer =
    filter (λ it. not (it.level == pointer.level)) pointers ++ pointer ∷ []

-- ---- the whole edit

-- an edit of all that there is, after one more edit: its numbers stay
abbrev pub full_after : Edit → Edit → Edit
full_after full edit = record full {
  comparator = option_or edit.comparator full.comparator;
  pointers = fold pointers_with full.pointers edit.pointers;
  added = files_after edit full.added;
}

-- there is room for the pointers and the files of one more edit
pub record HasRoomForEdit (full edit : VersionEdit) : Type 0 where
  pub pointers : vec_len full.compaction_ptrs + vec_len edit.compaction_ptrs
      ≤ vec_capacity full.compaction_ptrs
  pub files : vec_len full.new_files + vec_len edit.new_files ≤ vec_capacity full.new_files
