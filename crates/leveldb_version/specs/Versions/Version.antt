-- A version: the files of a store by levels, and the file that is chosen for a compaction.
use Rattle.std.specs.Prelude.{◌≡◌, ◌<◌, ◌≤◌, ◌^◌, ◌==◌, ◌-◌, ◌/◌, ◌&&◌, ℕ, Bool, false, true, if◌then◌else◌, nat_le, List, Option, None, Some, is_none, All, IsPermutation, IsSorted, drop, filter, length, map, max, take}
use Rattle.std.specs.Borrow.{Bor}
use Rattle.std.specs.List.{list_any}
use Rattle.std.specs.Ordering.{nat_cmp, ordering_then}
use Rattle.std.specs.declared.cmp.Ordering.{Ordering}
use Rattle.leveldb_base.specs.KeyTypes.{internal_cmp}
use Rattle.leveldb_base.specs.declared.types.FileMetaData.{FileMetaData}
use Rattle.leveldb_files.specs.Edits.Edit.{LevelFile, NewFile}
use Rattle.leveldb_version.specs.Edits.VersionEdit.{new_file_of}
use Rattle.leveldb_files.specs.Edits.VersionSet.{is_same_file, level_file}

-- The comparator of user keys; the files, each with its level; and the level and number of the
-- file that was chosen for a compaction by its seeks, if one is.
pub record VersionValue (C : Type 0) : Type 0 where
  pub cmp : C
  pub files : List (ℕ × FileMetaData)
  pub chosen : Option LevelFile

-- the files without the seeks that they may take, as an edit says them
abbrev pub new_files_of : {C : Type 0} → VersionValue C → List NewFile
new_files_of version = map new_file_of version.files

-- what borrowed files are
abbrev pub borrowed_files : List (Bor (ℕ × FileMetaData)) → List NewFile
borrowed_files files = map (λ file. new_file_of file.now) files

-- the numbers and the sizes of files have 64 bits
abbrev pub FilesFit : List (ℕ × FileMetaData) → Type 0
FilesFit files = All (λ file. (file.1.num < 2 ^ 64) × (file.1.size < 2 ^ 64)) files

-- the files of a level
abbrev pub at_level : ℕ → List (ℕ × FileMetaData) → List (ℕ × FileMetaData)
at_level level files = filter (λ file. file.0 == level) files

-- The files of a level are those from one index to another: those before them are of lesser levels,
-- and those after them of greater ones.
pub record IsRangeOfLevel (level : ℕ) (files : List (ℕ × FileMetaData)) (start end : ℕ)
    : Type 0 where
  pub ordered : start ≤ end
  pub within : end ≤ length files
  pub lesser : All (λ file. file.0 < level) (take start files)
  pub here : take (end - start) (drop start files) ≡ at_level level files
  pub greater : All (λ file. level < file.0) (drop end files)

-- The order of a version's files: by level, in level 0 by number, and from level 1 on by the
-- smallest key.
abbrev pub version_order : (List ℕ → List ℕ → Ordering) → NewFile → NewFile → Ordering
version_order cmp a b = ordering_then (nat_cmp a.level b.level)
    (if a.level == 0 then nat_cmp a.number b.number else internal_cmp cmp a.smallest b.smallest)

-- files are in that order
abbrev pub AreInVersionOrder : (List ℕ → List ℕ → Ordering) → List NewFile → Type 0
AreInVersionOrder cmp files = IsSorted (version_order cmp) files

-- how many fruitless seeks a file of so many bytes may take before it is compacted, at first
abbrev pub first_seeks : ℕ → ℕ
first_seeks size = max 100 (size / 16384)

-- the file as a version gets it: with its first seeks
abbrev pub with_first_seeks : ℕ × FileMetaData → ℕ × FileMetaData
with_first_seeks file = (file.0, record file.1 { allowed_seeks = first_seeks file.1.size })

-- a version of these files, in order, with their first seeks; none of them is chosen
pub record IsVersionOf {C : Type 0} (order : List ℕ → List ℕ → Ordering) (cmp : C)
    (files : List (ℕ × FileMetaData)) (version : VersionValue C) : Type 0 where
  pub cmp_is : version.cmp ≡ cmp
  pub files_are : IsPermutation (map with_first_seeks files) version.files
  pub in_order : AreInVersionOrder order (new_files_of version)
  pub none_chosen : version.chosen ≡ None

-- ---- seeks

-- the file has this level and number
abbrev pub is_named : LevelFile → ℕ × FileMetaData → Bool
is_named at file = is_same_file (level_file (new_file_of file)) at

-- the file has this level and number, and may take one more seek at most
abbrev pub has_last_seek : LevelFile → ℕ × FileMetaData → Bool
has_last_seek at file = is_named at file && nat_le file.1.allowed_seeks 1

-- the file after a seek that is charged to the one of this level and number: that one may take one
-- seek less, if it may take any
abbrev pub after_seek : LevelFile → ℕ × FileMetaData → ℕ × FileMetaData
after_seek at file =
    if is_named at file
    then (file.0, record file.1 { allowed_seeks = file.1.allowed_seeks - 1 })
    else file

-- The version after a look-up that charges this file with a seek, and whether it is chosen by
-- that. A file that has at most one seek left is chosen if none is; any other takes the seek.
abbrev pub charged : {C : Type 0} → VersionValue C → Option LevelFile → VersionValue C × Bool
charged version None = (version, false)
charged version (Some at) =
    if is_none version.chosen && list_any (has_last_seek at) version.files
    then (record version { chosen = Some at }, true)
    else (record version { files = map (after_seek at) version.files }, false)
