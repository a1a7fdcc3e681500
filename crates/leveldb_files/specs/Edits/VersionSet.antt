-- What version edits, one after another, leave: the files of each level, and what goes with them.
use Rattle.std.specs.Prelude.{◌≡◌, ◌≢◌, ◌↔◌, ◌≤◌, ◌==◌, ◌&&◌, ℕ, Bool, if◌then◌else◌, List, [], ◌∷◌, ◌++◌, length, Option, None, Some, is_some, IsSome, All, Contains, map, flat_map}
use Rattle.std.specs.declared.cmp.Ordering.{Ordering}
use Rattle.std.specs.declared.cmp.Ordering.TheVariants.{Greater}
use Rattle.std.specs.List.{filter_map, last_or, list_any, IsDistinct}
use Rattle.std.specs.Option.{option_or}
use Rattle.leveldb_base.specs.KeyTypes.{internal_cmp}
use Rattle.leveldb_files.specs.Edits.Edit.{LevelFile, Pointer, NewFile, Edit, empty_edit}

-- ---- changes

-- a change of the files: one of a level is deleted, or one is added
pub data FileChange : Type 0 where
  deleting : LevelFile → FileChange
  adding : NewFile → FileChange

-- the changes of an edit, in order: it deletes before it adds
abbrev pub file_changes : Edit → List FileChange
file_changes edit = map deleting edit.deleted ++ map adding edit.added

-- a new file's level and number
abbrev pub level_file : NewFile → LevelFile
level_file file = (file.level, file.number)

-- whether two levels and numbers are the same
abbrev pub is_same_file : LevelFile → LevelFile → Bool
is_same_file a b = (a.0 == b.0) && (a.1 == b.1)

-- what a change leaves at a level and a number, if it is a change there
abbrev pub left_by : LevelFile → FileChange → Option (Option NewFile)
left_by at (deleting file) = if is_same_file file at then Some None else None
left_by at (adding file) = if is_same_file (level_file file) at then Some (Some file) else None

-- the key that a compaction pointer sets for a level, if it is one of that level
abbrev pub key_for : ℕ → Pointer → Option (List ℕ)
key_for level pointer = if pointer.level == level then Some pointer.key else None

-- ---- the set

-- the last of some values, or this one if there are none
abbrev pub last_one : {A : Type 0} → A → List A → A
last_one value [] = value
last_one value (next ∷ values) = last_one next values

-- The file that is live at a level and a number: an edit adds it there, and no later change deletes
-- or replaces it.
abbrev pub live_at : List Edit → LevelFile → Option NewFile
live_at edits at = last_one None (filter_map (left_by at) (flat_map file_changes edits))

-- the key that the last compaction pointer of a level sets, if there is one
abbrev pub pointer_at : List Pointer → ℕ → Option (List ℕ)
pointer_at pointers level = last_or None (filter_map (key_for level) pointers)

-- the value that edits set last, if one sets it
abbrev pub last_set : {A : Type 0} → (Edit → Option A) → List Edit → Option A
last_set value edits = last_or None (filter_map value edits)

-- a store's files by level and number, the compaction pointer of each level, and the single values
-- that go with them
pub record FileSet : Type 0 where
  pub file : LevelFile → Option NewFile
  pub pointer : ℕ → Option (List ℕ)
  pub comparator : Option (List ℕ)
  pub log_number : Option ℕ
  pub previous_log : Option ℕ
  pub next_file : Option ℕ
  pub last_sequence : Option ℕ

-- what some edits leave
abbrev pub live_after : List Edit → FileSet
live_after edits = record {
  file = live_at edits;
  pointer = pointer_at (flat_map (λ edit. edit.pointers) edits);
  comparator = last_set (λ edit. edit.comparator) edits;
  log_number = last_set (λ edit. edit.log_number) edits;
  previous_log = last_set (λ edit. edit.previous_log) edits;
  next_file = last_set (λ edit. edit.next_file) edits;
  last_sequence = last_set (λ edit. edit.last_sequence) edits;
}

-- one more edit makes the second set of the first
pub record Applied (edit : Edit) (before after : FileSet) : Type 0 where
  pub file : (at : LevelFile)
      → after.file at ≡ last_one (before.file at) (filter_map (left_by at) (file_changes edit))
  pub pointer : (level : ℕ)
      → after.pointer level ≡ option_or (pointer_at edit.pointers level) (before.pointer level)
  pub comparator : after.comparator ≡ option_or edit.comparator before.comparator
  pub log_number : after.log_number ≡ option_or edit.log_number before.log_number
  pub previous_log : after.previous_log ≡ option_or edit.previous_log before.previous_log
  pub next_file : after.next_file ≡ option_or edit.next_file before.next_file
  pub last_sequence : after.last_sequence ≡ option_or edit.last_sequence before.last_sequence

-- the file is added, and no later change is of its level and number
pub record IsLive (edits : List Edit) (file : NewFile) : Type 0 where
  pub before : List FileChange
  pub later : List FileChange
  pub added : flat_map file_changes edits ≡ before ++ adding file ∷ later
  pub kept : All (λ change. left_by (level_file file) change ≡ None) later

-- ---- the set as a list

-- the list has the files of the set and no others, each once
pub record ListsFiles (set : FileSet) (files : List NewFile) : Type 0 where
  pub live : (file : NewFile) → Contains files file ↔ (set.file (level_file file) ≡ Some file)
  pub once : IsDistinct is_same_file (map level_file files)

-- the files that some changes add and no later one deletes or replaces, in the order in which they
-- are added
abbrev pub lasting_files : List FileChange → List NewFile
lasting_files [] = []
lasting_files (deleting file ∷ later) = lasting_files later
lasting_files (adding file ∷ later) =
    if list_any (λ change. is_some (left_by (level_file file) change)) later
    then lasting_files later
    else file ∷ lasting_files later

-- the files that are live after some edits
abbrev pub live_files : List Edit → List NewFile
live_files edits = lasting_files (flat_map file_changes edits)

-- the compaction pointers that no later one of their level replaces
abbrev pub pointers_left : List Pointer → List Pointer
pointers_left [] = []
pointers_left (pointer ∷ later) =
    if list_any (λ next. is_some (key_for pointer.level next)) later
    then pointers_left later
    else pointer ∷ pointers_left later

-- ---- one edit for many

-- The edit says what the set is, but for its numbers: the comparator, the compaction pointers and
-- all files. A manifest that replaces another begins with such an edit.
pub record IsFullEdit (set : FileSet) (edit : Edit) : Type 0 where
  pub comparator : edit.comparator ≡ set.comparator
  pub pointers : (level : ℕ) → pointer_at edit.pointers level ≡ set.pointer level
  pub deleted : edit.deleted ≡ []
  pub added : ListsFiles set edit.added

-- such an edit of what some edits leave
abbrev pub full_edit : List Edit → Edit
full_edit edits = record empty_edit {
  comparator = (live_after edits).comparator;
  pointers = pointers_left (flat_map (λ edit. edit.pointers) edits);
  added = live_files edits;
}

-- two sets are the same, but for their numbers
pub record SameFiles (a b : FileSet) : Type 0 where
  pub file : (at : LevelFile) → a.file at ≡ b.file at
  pub pointer : (level : ℕ) → a.pointer level ≡ b.pointer level
  pub comparator : a.comparator ≡ b.comparator

-- two sets have the same numbers
pub record SameNumbers (a b : FileSet) : Type 0 where
  pub log_number : a.log_number ≡ b.log_number
  pub previous_log : a.previous_log ≡ b.previous_log
  pub next_file : a.next_file ≡ b.next_file
  pub last_sequence : a.last_sequence ≡ b.last_sequence

-- each number of the set is set
pub record HasNumbers (set : FileSet) : Type 0 where
  pub log_number : IsSome set.log_number
  pub previous_log : IsSome set.previous_log
  pub next_file : IsSome set.next_file
  pub last_sequence : IsSome set.last_sequence

-- ---- keys

-- The smallest and the largest key of a file are internal keys, each with the eight bytes after its
-- user key, and the smallest is not after the largest.
pub record IsKeyRange (cmp : List ℕ → List ℕ → Ordering) (smallest largest : List ℕ)
    : Type 0 where
  pub has_tag : 8 ≤ length smallest
  pub largest_has_tag : 8 ≤ length largest
  pub in_order : internal_cmp cmp smallest largest ≢ Greater

-- each of the files has such keys
abbrev pub HaveKeyRanges : (List ℕ → List ℕ → Ordering) → List NewFile → Type 0
HaveKeyRanges cmp files = All (λ file. IsKeyRange cmp file.smallest file.largest) files
