-- Compactions: what one is, and which one a version asks for.
use Rattle.std.specs.Prelude.{◌≡◌, ◌⊎◌, ◌↔◌, ◌||◌, ◌==◌, false, true, ℕ, Bool, if◌then◌else◌, nat_lt, List, Option, None, Some, is_some, Contains, IfSome, IsSomeAnd, find, length, option_and_then, slice_get}
use Rattle.std.specs.List.Sorted.{IsStrictlySortedBy}
use Rattle.std.specs.Option.{option_map_or, option_or}
use Rattle.std.specs.Ordering.{is_gt}
use Rattle.std.specs.declared.cmp.Ordering.{Ordering}
use Rattle.leveldb_base.specs.KeyTypes.{internal_cmp}
use Rattle.leveldb_version_set.specs.Compactions.Compaction.{MayCompact}
use Rattle.leveldb_version_set.specs.Compactions.CompactionEdit.{SetsPointer}
use Rattle.leveldb_version_set.specs.Compactions.Cut.{CutValue}
use Rattle.leveldb_version_set.specs.Compactions.Inputs.{AreOrdered}
use Rattle.leveldb_files.specs.Levels.Overlap.{UserRange, is_overlapped, overlapping}
use Rattle.leveldb_version.specs.Versions.Scores.{level_by_score}
use Rattle.leveldb_files.specs.Levels.Summary.{files_of_level}
use Rattle.leveldb_version.specs.Versions.Version.{VersionValue, new_files_of}
use Rattle.leveldb_files.specs.Edits.Edit.{Edit, LevelFile, NewFile, Pointer, empty_edit, file_order}
use Rattle.leveldb_files.specs.Edits.VersionSet.{level_file, pointer_at}

-- ---- a compaction

-- The version whose files it takes, its level, whether a range was asked for, how large a file may
-- be, the files that it takes, as a version of their own, the edit so far, and how far the keys of
-- `should_stop_before` have come.
pub record CompactionValue (C : Type 0) : Type 0 where
  pub version : VersionValue C
  pub level : ℕ
  pub manual : Bool
  pub max_file_size : ℕ
  pub inputs : VersionValue C
  pub edit : Edit
  pub cut : CutValue

-- an edit that sets pointers, and changes nothing else
abbrev pub OnlyPoints : Edit → Type 0
OnlyPoints edit = edit ≡ record empty_edit { pointers = edit.pointers }

-- these files are deleted, too, each once and in order
pub record DeletesFiles (files : List NewFile) (old new : List LevelFile) : Type 0 where
  pub deleted : (at : LevelFile) → Contains new at
      ↔ (Contains old at ⊎ ((file : NewFile) × Contains files file × (level_file file ≡ at)))
  pub in_order : IsStrictlySortedBy file_order old → IsStrictlySortedBy file_order new

-- ---- which file asks for a compaction

-- the pointer of a level; one of fewer than 8 bytes is no internal key, and counts as none
abbrev pub used_pointer : List Pointer → ℕ → Option (List ℕ)
used_pointer pointers level =
    option_and_then (λ key. if nat_lt (length key) 8 then None else Some key)
    (pointer_at pointers level)

-- the file that reads have chosen, while it is in its level and that isn't the last one
abbrev pub file_by_reads : {C : Type 0} → VersionValue C → Option NewFile
file_by_reads version = option_and_then
    (λ at. if nat_lt at.0 6
    then find (λ file. file.number == at.1) (files_of_level at.0 (new_files_of version)) else None)
    version.chosen

-- the version asks for a compaction, by its score or by reads
abbrev pub needs_compaction : {C : Type 0} → VersionValue C → Bool
needs_compaction version =
    is_some (level_by_score (new_files_of version)) || is_some (file_by_reads version)

module _ (cmp : List ℕ → List ℕ → Ordering) where
  -- the first of a level's files that ends after the pointer; the first one, if none does or there
  -- is no pointer
  abbrev pub file_after : Option (List ℕ) → List NewFile → Option NewFile
  file_after None files = slice_get files 0
  file_after (Some pointer) files =
      option_or (find (λ file. is_gt (internal_cmp cmp file.largest pointer)) files)
      (slice_get files 0)

  -- the file for which a version asks for a compaction: by its score, else by reads
  abbrev pub asking_file : {C : Type 0} → List Pointer → VersionValue C → Option NewFile
  asking_file pointers version = option_map_or
      (λ level. file_after (used_pointer pointers level)
      (files_of_level level (new_files_of version)))
      (level_by_score (new_files_of version)) (file_by_reads version)

  -- ---- what is chosen

  -- a compaction of this version, whose edit sets a pointer alone
  pub record IsCompactionOf {C : Type 0} (version : VersionValue C) (manual : Bool)
      (max_file_size : ℕ) (it : CompactionValue C) : Type 0 where
    pub version_is : it.version ≡ version
    pub manual_is : it.manual ≡ manual
    pub size_is : it.max_file_size ≡ max_file_size
    pub may : MayCompact cmp (new_files_of version) it.level (new_files_of it.inputs)
    pub pointer : SetsPointer cmp it.level (new_files_of it.inputs) it.edit
    pub only : OnlyPoints it.edit

  -- the compaction of a file's level that takes the file; none where there is no file
  pub record IsOfFile {C : Type 0} (version : VersionValue C) (first : Option NewFile)
      (max_file_size : ℕ) (picked : Option (CompactionValue C)) : Type 0 where
    pub each : IfSome picked (IsCompactionOf version false max_file_size)
    pub some : AreOrdered cmp (new_files_of version) → (file : NewFile) → first ≡ Some file
        → IsSomeAnd picked (λ it. (it.level ≡ file.level) × Contains (new_files_of it.inputs) file)
    pub none : first ≡ None → picked ≡ None

  -- the compaction for which a version asks: that of the file that asks
  abbrev pub IsAskedFor : {C : Type 0} → List Pointer → VersionValue C → ℕ
      → Option (CompactionValue C) → Type 0
  IsAskedFor pointers version = IsOfFile version (asking_file pointers version)

  -- the compaction for which reads ask, whatever the score: that of the file that they have chosen
  abbrev pub IsAskedByReads : {C : Type 0} → VersionValue C → ℕ → Option (CompactionValue C)
      → Type 0
  IsAskedByReads version = IsOfFile version (file_by_reads version)

  -- the compaction of a range of a level: there is one where a file of the level overlaps the range
  pub record IsOfRange {C : Type 0} (version : VersionValue C) (level : ℕ) (range : UserRange)
      (max_file_size : ℕ) (picked : Option (CompactionValue C)) : Type 0 where
    pub each : IfSome picked (IsCompactionOf version true max_file_size)
    pub of_level : IfSome picked (λ it. it.level ≡ level)
    pub some : is_some picked ≡ is_overlapped cmp level range (new_files_of version)
    -- it takes the first file of the level that overlaps the range, if none is turned round
    pub first : AreOrdered cmp (new_files_of version) → (file : NewFile)
        → slice_get (overlapping cmp level range (new_files_of version)) 0 ≡ Some file
        → IfSome picked (λ it. Contains (new_files_of it.inputs) file)
