-- The next version: what an edit leaves of one.
use Rattle.std.specs.Prelude.{◌≡◌, ℕ, not, if◌then◌else◌, List, [], ◌∷◌, ◌++◌, Option, None, Some, IsPermutation, filter, fold}
use Rattle.std.specs.List.{list_any}
use Rattle.std.specs.declared.cmp.Ordering.{Ordering}
use Rattle.leveldb_base.specs.declared.types.FileMetaData.{FileMetaData}
use Rattle.leveldb_version.specs.Edits.FullEdit.{files_after}
use Rattle.leveldb_version.specs.Versions.Version.{AreInVersionOrder, VersionValue, first_seeks, is_named, new_files_of}
use Rattle.leveldb_files.specs.Edits.Edit.{Edit, LevelFile, NewFile}
use Rattle.leveldb_files.specs.Edits.VersionSet.{is_same_file, level_file}

-- a file that an edit adds, as a version gets it: with its first seeks
abbrev pub added_file : NewFile → ℕ × FileMetaData
added_file file = (
  file.level,
  record {
    allowed_seeks = first_seeks file.size;
    num = file.number;
    size = file.size;
    smallest = file.smallest;
    largest = file.largest;
  },
)

-- a version's files without the one of this level and number
abbrev pub version_files_without : List (ℕ × FileMetaData) → LevelFile → List (ℕ × FileMetaData)
version_files_without files at = filter (λ file. not (is_named at file)) files

-- a version's files with one more at the end, in place of the one of its level and number
abbrev pub version_files_with : List (ℕ × FileMetaData) → NewFile → List (ℕ × FileMetaData)
version_files_with files file =
    version_files_without files (level_file file) ++ added_file file ∷ []

-- a version's files after an edit, which deletes some and then adds some
abbrev pub version_files_after : Edit → List (ℕ × FileMetaData) → List (ℕ × FileMetaData)
version_files_after edit files =
    fold version_files_with (fold version_files_without files edit.deleted) edit.added

-- the file that is chosen for a compaction after these are deleted: the one that was, unless it is
-- one of them
abbrev pub chosen_after : List LevelFile → Option LevelFile → Option LevelFile
chosen_after deleted None = None
chosen_after deleted (Some at) =
    if list_any (λ other. is_same_file at other) deleted then None else Some at

-- A version after an edit. The files that it adds have their first seeks, and the others those that
-- they have left. The file that is chosen for a compaction stays so until an edit deletes it.
pub record IsVersionAfter {C : Type 0} (order : List ℕ → List ℕ → Ordering) (edit : Edit)
    (old new : VersionValue C) : Type 0 where
  pub same_cmp : new.cmp ≡ old.cmp
  pub files_are : IsPermutation (version_files_after edit old.files) new.files
  pub in_order : AreInVersionOrder order (new_files_of new)
  pub chosen_is : new.chosen ≡ chosen_after edit.deleted old.chosen

-- ---- laws

-- where the files of a version are these in some order, those of the version after an edit are what
-- the edit leaves of these
abbrev pub VersionsFollowEdits : Type 0 → Type 0
VersionsFollowEdits C = (order : List ℕ → List ℕ → Ordering) (edit : Edit) (files : List NewFile)
    (old new : VersionValue C) → IsPermutation files (new_files_of old)
    → IsVersionAfter order edit old new
    → IsPermutation (files_after edit files) (new_files_of new)
