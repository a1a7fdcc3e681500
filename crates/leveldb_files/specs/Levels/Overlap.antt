-- Which files of a level have a range of user keys that meets another, and what follows from it:
-- the files with which a compaction of the range begins, and the level that a memtable's table goes
-- to.
use Rattle.std.specs.Prelude.{◌≡◌, ◌≢◌, ◌<◌, ◌+◌, ◌*◌, ◌^◌, ◌&&◌, ◌||◌, ◌⊎◌, ℕ, Bool, false, true, not, if◌then◌else◌, nat_le, List, [], ◌∷◌, Option, None, Some, Contains, IfSome, IsSomeAnd, filter, length, take_while}
use Rattle.std.specs.List.{list_any}
use Rattle.std.specs.List.Sorted.{IsPartitionPoint, IsPartitionedBy}
use Rattle.std.specs.Option.{option_map_or}
use Rattle.std.specs.Ordering.{is_lt, nat_cmp, ordering_then}
use Rattle.std.specs.declared.cmp.Ordering.{Ordering}
use Rattle.std.specs.declared.cmp.Ordering.TheVariants.{Less}
use Rattle.leveldb_base.specs.KeyTypes.{sequence_part, user_part}
use Rattle.leveldb_files.specs.Levels.Levels.{AreDisjoint, IsInRange}
use Rattle.leveldb_files.specs.Levels.Summary.{files_of_level, total_size}
use Rattle.leveldb_files.specs.Edits.Edit.{NewFile}

-- ---- ranges of user keys

-- a range of user keys, with its ends; an end that is none is open
pub record UserRange : Type 0 where
  pub begin : Option (List ℕ)
  pub end : Option (List ℕ)

-- the end that a key names: the empty key is an open end
abbrev pub named_end : List ℕ → Option (List ℕ)
named_end [] = None
named_end (byte ∷ key) = Some (byte ∷ key)

-- the range between two keys that name its ends
abbrev pub named_range : List ℕ → List ℕ → UserRange
named_range begin end = record { begin = named_end begin; end = named_end end }

-- the range of a file's user keys
abbrev pub file_range : NewFile → UserRange
file_range file = named_range (user_part file.smallest) (user_part file.largest)

-- the most bytes of files two levels down that a new table may overlap
abbrev pub greatest_overlap : ℕ
greatest_overlap = 10 * (2 * 2 ^ 20)

module _ (cmp : List ℕ → List ℕ → Ordering) where
  -- the key is before the range
  abbrev pub is_below : UserRange → List ℕ → Bool
  is_below range key = option_map_or (λ begin. is_lt (cmp key begin)) range.begin false

  -- the key is after the range
  abbrev pub is_above : UserRange → List ℕ → Bool
  is_above range key = option_map_or (λ end. is_lt (cmp end key)) range.end false

  -- the range from the file's first user key to its last meets the range
  abbrev pub overlaps : UserRange → NewFile → Bool
  overlaps range file =
      not (is_below range (user_part file.largest))
      && not (is_above range (user_part file.smallest))

  -- the file begins before the range or ends after it
  abbrev pub sticks_out : UserRange → NewFile → Bool
  sticks_out range file =
      is_below range (user_part file.smallest) || is_above range (user_part file.largest)

  -- the range, widened to that of the file
  abbrev pub widened_by : UserRange → NewFile → UserRange
  widened_by range file =
      let first = user_part file.smallest in
      let last = user_part file.largest in
      record {
        begin = if is_below range first then Some first else range.begin;
        end = if is_above range last then Some last else range.end;
      }

  -- the files of a level that overlap a range
  abbrev pub overlapping : ℕ → UserRange → List NewFile → List NewFile
  overlapping level range files = filter (overlaps range) (files_of_level level files)

  -- whether a file of the level overlaps the range
  abbrev pub is_overlapped : ℕ → UserRange → List NewFile → Bool
  is_overlapped level range files = list_any (overlaps range) (files_of_level level files)

  -- ---- the files that a compaction takes

  -- the range begins no later than another and ends no earlier
  pub record Covers (range other : UserRange) : Type 0 where
    pub begin : IfSome range.begin (λ key. IsSomeAnd other.begin (λ first. cmp first key ≢ Less))
    pub end : IfSome range.end (λ key. IsSomeAnd other.end (λ last. cmp key last ≢ Less))

  -- no file that overlaps the range sticks out of it
  abbrev pub HasWholeFiles : List NewFile → UserRange → Type 0
  HasWholeFiles files range = (file : NewFile) → Contains files file → overlaps range file ≡ true
      → sticks_out range file ≡ false

  -- the least range that covers another and that no file sticks out of which overlaps it
  pub record IsWidened (files : List NewFile) (narrow range : UserRange) : Type 0 where
    pub covers : Covers range narrow
    pub closed : HasWholeFiles files range
    pub least : (other : UserRange) → Covers other narrow → HasWholeFiles files other
        → Covers other range

  -- The files of a level that a compaction of a range takes: those that overlap it. In level 0,
  -- where files may overlap one another, the range is widened first.
  pub record AreInputs (level : ℕ) (narrow : UserRange) (files inputs : List NewFile)
      : Type 0 where
    pub range : UserRange
    pub widened : level ≡ 0 → IsWidened (files_of_level level files) narrow range
    pub kept : 0 < level → range ≡ narrow
    pub inputs_are : inputs ≡ overlapping level range files

  -- ---- the level of a new table

  -- A new table with this range may go down into a level: it overlaps no file there, and those
  -- that it overlaps in the next level aren't too many bytes together.
  abbrev pub may_go_to : UserRange → List NewFile → ℕ → Bool
  may_go_to range files level =
      not (is_overlapped level range files)
      && nat_le (total_size (overlapping (level + 1) range files)) greatest_overlap

  -- The level for a memtable's table: level 0 if it overlaps a file there, else down as long as it
  -- may go, to level 2 at most.
  abbrev pub output_level : UserRange → List NewFile → ℕ
  output_level range files =
      if is_overlapped 0 range files then 0
      else length (take_while (may_go_to range files) (1 ∷ 2 ∷ []))

  -- ---- the file that has a key

  -- Files of a level from 1 on, as a store has them: none is turned round, and two of them are the
  -- same or apart.
  pub record AreDisjointRanges (files : List NewFile) : Type 0 where
    pub ordered : (file : NewFile) → Contains files file
        → cmp (user_part file.largest) (user_part file.smallest) ≢ Less
    pub apart : (a b : NewFile) → Contains files a → Contains files b
        → (a ≡ b) ⊎ AreDisjoint cmp a b

  -- the file's largest key is before that of a look-up of a user key as of a sequence number
  abbrev pub ends_before : List ℕ → ℕ → NewFile → Bool
  ends_before key sequence file = is_lt (ordering_then (cmp (user_part file.largest) key)
      (nat_cmp sequence (sequence_part file.largest)))

  -- The index parts the files that end before the key of a look-up from those that don't, if the
  -- first ones come first.
  abbrev pub PartsFiles : List ℕ → ℕ → List NewFile → ℕ → Type 0
  PartsFiles key sequence files index = IsPartitionedBy (ends_before key sequence) files
      → IsPartitionPoint (λ file. ends_before key sequence file ≡ true)
      (λ file. ends_before key sequence file ≡ false) files index

  -- the file is the one that has the key in its range, or it is none where none has
  pub record IsFileFor (files : List NewFile) (key : List ℕ) (found : Option NewFile)
      : Type 0 where
    pub has_key : IfSome found (λ file. Contains files file × IsInRange cmp file key)
    pub only : (file : NewFile) → Contains files file → IsInRange cmp file key
        → found ≡ Some file
