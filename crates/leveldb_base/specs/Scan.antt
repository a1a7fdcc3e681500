-- Scans of sorted entries, forward and backward, for the pairs of their view. `front` are the
-- entries before the position of an iterator over entries, and `back` those from there on.
use Rattle.std.specs.Prelude.{◌≡◌, ◌≢◌, ◌≤◌, ◌<◌, ◌+◌, ◌^◌, ℕ, true, false, List, [], ◌∷◌, ◌++◌, length, drop, slice_get, Option, Some, None, Contains}
use Rattle.std.specs.Option.{option_to_list, option_map}
use Rattle.std.specs.declared.cmp.Ordering.{Ordering}
use Rattle.std.specs.declared.cmp.Ordering.TheVariants.{Less}
use Rattle.leveldb_base.specs.declared.key_types.ValueType.{ValueType}
use Rattle.leveldb_base.specs.KeyTypes.{internal_key, internal_cmp}
use Rattle.leveldb_base.specs.Cmp.{IsExactOrder}
use Rattle.leveldb_base.specs.Types.{Pair, position_within, previous_position, pair_at, count_before}
use Rattle.leveldb_base.specs.History.{Entry, AreRising}
use Rattle.leveldb_base.specs.Entries.{AreSorted, IsBeforeKeyAt, entries_of_pairs}
use Rattle.leveldb_base.specs.View.{is_newest, shown_in, view_of}

-- ---- forward

-- As many pairs of the view as the position says were shown, and the rest of it is what the entries
-- that follow show, where `skip` is the key to skip.
pub record IsScanning (s : ℕ) (view : List Pair) (position : ℕ) (skip : Option (List ℕ))
    (rest : List Entry) : Type 0 where
  -- the pairs that were shown
  pub shown : List Pair
  -- the others are what the entries that follow show
  pub parted : view ≡ shown ++ shown_in s skip rest
  -- as many as the position says
  pub count : length shown ≡ position

-- one entry more of a scan
pub record ScanSteps (s : ℕ) (view : List Pair) (position : ℕ) (skip : Option (List ℕ))
    (entry : Entry) (rest : List Entry) : Type 0 where
  -- the newest of its key, with a value: it is the pair at the position
  pub stops : (value : List ℕ) → is_newest s skip entry ≡ true → entry.value ≡ Some value
      → (pair_at view (Some position) ≡ Some (entry.key, value))
      × (position_within view position ≡ Some position)
      × IsScanning s view (position + 1) (Some entry.key) rest
  -- the newest of its key, a deletion: its older ones are skipped
  pub passes : is_newest s skip entry ≡ true → entry.value ≡ None
      → IsScanning s view position (Some entry.key) rest
  -- any other: it is skipped
  pub skips : is_newest s skip entry ≡ false → IsScanning s view position skip rest

-- how many pairs of the view are before a position among the entries
abbrev pub count_shown : ℕ → List Entry → ℕ
count_shown s front = length (view_of s front)

-- ---- backward

-- the pair of an entry that has a value
abbrev pub shown_pair : Entry → Option Pair
shown_pair entry = option_map (λ value. (entry.key, value)) entry.value

-- A scan that goes back keeps what the entries that it went over show: nothing, or one pair. This
-- is what one entry more changes.
pub record ScanStepsBack (s : ℕ) (front : List Entry) (entry : Entry) (over : List Entry)
    (found : Option Pair) : Type 0 where
  -- an entry above s changes nothing
  pub unseen : s < entry.sequence → view_of s (entry ∷ over) ≡ option_to_list found
  -- one of the key that was found replaces it, and so does any where nothing was found
  pub takes : entry.sequence ≤ s → ((pair : Pair) → found ≡ Some pair → pair.0 ≡ entry.key)
      → view_of s (entry ∷ over) ≡ option_to_list (shown_pair entry)
  -- one of another key ends the scan: the pair that was found follows what all before show
  pub stops : (pair : Pair) → entry.sequence ≤ s → found ≡ Some pair → pair.0 ≢ entry.key
      → view_of s (front ++ entry ∷ over) ≡ view_of s (front ++ entry ∷ []) ++ pair ∷ []

-- the position before the current one is that of the last pair that the entries before it show
pub record PreviousIsLast (s : ℕ) (front back : List Entry) : Type 0 where
  -- where they show a pair, the last of them is at the position before
  pub pair : (before : List Pair) (last : Pair) → view_of s front ≡ before ++ last ∷ []
      → (previous_position (Some (count_shown s front)) ≡ Some (length before))
      × (slice_get (view_of s (front ++ back)) (length before) ≡ Some last)
  -- where they show none, there is no position before
  pub none : view_of s front ≡ [] → previous_position (Some (count_shown s front)) ≡ None

-- ---- laws of scans forward

-- a scan begins at the first entry
abbrev pub EachScanStarts : Type 0
EachScanStarts = (s : ℕ) (entries : List Entry) → IsScanning s (view_of s entries) 0 None entries

-- it goes on entry by entry
abbrev pub EachScanSteps : Type 0
EachScanSteps = (s : ℕ) (view : List Pair) (position : ℕ) (skip : Option (List ℕ))
    (entry : Entry) (rest : List Entry)
    → IsScanning s view position skip (entry ∷ rest) → ScanSteps s view position skip entry rest

-- and after the last entry there is no further position
abbrev pub EachScanEnds : Type 0
EachScanEnds = (s : ℕ) (view : List Pair) (position : ℕ) (skip : Option (List ℕ))
    → IsScanning s view position skip [] → position_within view position ≡ None

-- it may begin at the first entry that isn't before the entries of a key at or below s
abbrev pub EachScanSeeks : Type 0
EachScanSeeks = (cmp : List ℕ → List ℕ → Ordering) → IsExactOrder cmp
    → (key : List ℕ) (s : ℕ) (front back : List Entry) → AreSorted cmp (front ++ back)
    → ((entry : Entry) → Contains front entry → IsBeforeKeyAt cmp key s entry)
    → ((entry : Entry) → Contains back entry → cmp entry.key key ≢ Less)
    → let view = view_of s (front ++ back) in
    IsScanning s view (count_before cmp key view) None back

-- and that is where a seek to the key's internal key at s leads among pairs
abbrev pub EachSeekOfPairs : Type 0
EachSeekOfPairs = (cmp : List ℕ → List ℕ → Ordering) → IsExactOrder cmp
    → (pairs : List Pair) → AreRising (internal_cmp cmp) pairs
    → (key : List ℕ) (s : ℕ) (kind : ValueType) → s < 2 ^ 56
    → let before = count_before (internal_cmp cmp) (internal_key key s kind) pairs in
    let view = view_of s (entries_of_pairs pairs) in
    IsScanning s view (count_before cmp key view) None (entries_of_pairs (drop before pairs))

-- It may go on from the pair of a scan backward that went to the entries before `back`, if no entry
-- of `back` at or below s is of a key before the pair's.
abbrev pub EachScanResumes : Type 0
EachScanResumes = (cmp : List ℕ → List ℕ → Ordering) → IsExactOrder cmp
    → (s : ℕ) (front back : List Entry) (pair : Pair) (more : List Pair)
    → AreSorted cmp (front ++ back)
    → view_of s (front ++ back) ≡ view_of s front ++ pair ∷ more
    → ((entry : Entry) → Contains back entry → entry.sequence ≤ s → cmp entry.key pair.0 ≢ Less)
    → IsScanning s (view_of s (front ++ back)) (count_shown s front + 1) (Some pair.0) back

-- ---- laws of scans backward

-- a scan back goes on entry by entry
abbrev pub EachScanStepsBack : Type 0
EachScanStepsBack = (cmp : List ℕ → List ℕ → Ordering) → IsExactOrder cmp
    → (s : ℕ) (front : List Entry) (entry : Entry) (over : List Entry) (found : Option Pair)
    → AreSorted cmp (front ++ entry ∷ over) → view_of s over ≡ option_to_list found
    → ScanStepsBack s front entry over found

-- and the position before is that of the pair that it found, or there is none
abbrev pub EachPreviousIsLast : Type 0
EachPreviousIsLast = (s : ℕ) (front back : List Entry) → PreviousIsLast s front back
