-- The steps of a move in a view: situations of the walk below, and moves between them. A situation
-- is of an order, of the pairs below, of those of the view, and of a number of the latter.
use Rattle.std.specs.Prelude.{◌≡◌, ◌≢◌, ◌⊎◌, ◌<◌, ◌≤◌, ◌+◌, ℕ, Bool, true, false, List, ◌++◌, length, Option, Some, None, Result, IfOk, IfErr, Contains}
use Rattle.std.specs.Borrow.{Bor}
use Rattle.std.specs.Bool.{then_some}
use Rattle.std.specs.Option.{option_to_list}
use Rattle.std.specs.Str.{bytes_eq}
use Rattle.std.specs.declared.cmp.Ordering.TheVariants.{Less}
use Rattle.leveldb_base.specs.Cmp.{IsExactOrder}
use Rattle.leveldb_base.specs.Entries.{entry_of_pair, entries_of_pairs}
use Rattle.leveldb_base.specs.Error.{IsOutOfMemory}
use Rattle.leveldb_base.specs.History.{Entry}
use Rattle.leveldb_base.specs.KeyTypes.{user_part, sequence_part, type_part}
use Rattle.leveldb_base.specs.Scan.{IsScanning, count_shown, shown_pair}
use Rattle.leveldb_base.specs.Types.{Pair, pair_at, position_within, previous_position, count_before}
use Rattle.leveldb_base.specs.View.{view_of, is_newest}
use Rattle.leveldb_base.specs.declared.error.Status.{Status}
use Rattle.leveldb_base.specs.declared.error.StatusCode.TheVariants.{Corruption}
use Rattle.leveldb_base.specs.declared.key_types.ValueType.{ValueType}
use Rattle.leveldb_base.specs.declared.key_types.ValueType.TheVariants.{TypeDeletion, TypeValue}
use Rattle.leveldb_base.specs.declared.types.Direction.{Direction}
use Rattle.leveldb_iter.specs.declared.entry.Seen.{Seen}
use Rattle.leveldb_iter.specs.declared.entry.Seen.TheVariants.{End, Shown, Passed}
use Rattle.leveldb_iter.specs.declared.walk.Walk.{Ghosts as WalkGhosts}
use Rattle.leveldb_iter.specs.DbIter.{IsViewOf, IsAtOrBefore, IsPlaced, FailsOver}
use Rattle.leveldb_iter.specs.MergedEntries.{internal_order}
use Rattle.leveldb_iter.specs.Walk.{KeyOrder}

-- ---- one entry

-- no entry is there
abbrev pub IsNoEntry : Option Pair → Type 0
IsNoEntry here = here ≡ None

-- the error of a pair whose key has no tag
abbrev pub IsUntagged : Option Pair → Status → Type 0
IsUntagged here status = (status.code ≡ Corruption)
    × (pair : Pair) × (here ≡ Some pair) × (length pair.0 < 8)

-- the errors of a pair that is read and kept
abbrev pub FailsToRead : Option Pair → Status → Type 0
FailsToRead here status = IsOutOfMemory status ⊎ IsUntagged here status

-- the type, the sequence number, the user's key and the value of the pair
abbrev pub IsEntryRead : Option Pair → Option (ValueType × ℕ × Bor (List ℕ) × Bor (List ℕ)) → Type 0
IsEntryRead here None = IsNoEntry here
IsEntryRead here (Some read) = (pair : Pair) × (here ≡ Some pair) × (read.0 ≡ type_part pair.0)
    × (read.1 ≡ sequence_part pair.0) × (read.2.now ≡ user_part pair.0) × (read.3.now ≡ pair.1)

-- What a scan forward sees of the entry that it is at: none, one that is shown, or one that isn't,
-- after which a key is kept to be skipped or is still to be.
abbrev pub IsSeen : ℕ → Option (List ℕ) → Option Pair → List ℕ → Seen → Type 0
IsSeen s skip here new_key End = IsNoEntry here
IsSeen s skip here new_key Shown = (pair : Pair) × (here ≡ Some pair)
    × (is_newest s skip (entry_of_pair pair) ≡ true) × (type_part pair.0 ≡ TypeValue)
IsSeen s skip here new_key (Passed skipping) = (pair : Pair) × (here ≡ Some pair)
    × (((is_newest s skip (entry_of_pair pair) ≡ false) × (then_some skipping new_key ≡ skip))
    ⊎ ((is_newest s skip (entry_of_pair pair) ≡ true) × (type_part pair.0 ≡ TypeDeletion)
    × (then_some skipping new_key ≡ Some (user_part pair.0))))

-- a scan back ends here: at no entry, or at a visible one of another key than that of the pair
-- found
abbrev pub IsEndBack : ℕ → Option Pair → Option Pair → Type 0
IsEndBack s found here = IsNoEntry here
    ⊎ ((pair : Pair) × (own : Pair) × (here ≡ Some pair) × (sequence_part pair.0 ≤ s)
    × (found ≡ Some own) × (own.0 ≢ user_part pair.0))

-- What a scan back finds with one entry more.
pub record IsFoundBack (s : ℕ) (found new_found here : Option Pair) : Type 0 where
  -- the entry that it is at
  pub pair : Pair
  -- it is at it
  pub here_is : here ≡ Some pair
  -- one that isn't visible changes nothing
  pub unseen : s < sequence_part pair.0 → new_found ≡ found
  -- a visible one is of the key that was found
  pub same_key : sequence_part pair.0 ≤ s → (own : Pair) → found ≡ Some own
      → own.0 ≡ user_part pair.0
  -- and replaces what was found
  pub takes : sequence_part pair.0 ≤ s → new_found ≡ shown_pair (entry_of_pair pair)

-- the scan ends, or goes on with what is found now
abbrev pub IsTaken : ℕ → Option Pair → Option Pair → Pair → Pair → Option Bool → Type 0
IsTaken s found here saved new_saved None = IsEndBack s found here × (new_saved ≡ saved)
IsTaken s found here saved new_saved (Some taken) =
    IsFoundBack s found (then_some taken new_saved) here

-- whether a pair is of a user's key
abbrev pub is_at_key : List ℕ → Option Pair → Bool
is_at_key key None = false
is_at_key key (Some pair) = bytes_eq (user_part pair.0) key

-- ---- situations

-- how many pairs of the view are up to a position
abbrev pub number_after : Option ℕ → ℕ
number_after None = 0
number_after (Some n) = n + 1

-- Of a walk in a world, below the view at a sequence number.
module _ {E T M : Type 0} (walk : WalkGhosts M E T) (world : E × T) (inner : M) (s : ℕ) where
  -- A scan forward is at an entry or at the end, after so many pairs of the view.
  pub record IsOnScan (skip : Option (List ℕ)) (order : KeyOrder) (below pairs : List Pair) (n : ℕ)
      : Type 0 where
    -- the entries before it
    pub front : List Pair
    -- those from it on
    pub back : List Pair
    -- together they are all
    pub parted : below ≡ front ++ back
    -- the walk below is at the first of the latter
    pub at : walk.is_at world inner (internal_order order) below
        (position_within below (length front))
    -- they show the rest of the view
    pub scanning : IsScanning s pairs n skip (entries_of_pairs back)

  -- A scan back is at an entry or before all, and looks for the last of so many pairs of the view.
  pub record IsOnScanBack (found : Option Pair) (order : KeyOrder) (below pairs : List Pair) (n : ℕ)
      : Type 0 where
    -- the entries up to it
    pub front : List Pair
    -- those that it went over
    pub over : List Pair
    -- those after all of these
    pub rest : List Pair
    -- together they are all
    pub parted : below ≡ front ++ (over ++ rest)
    -- the walk below is at the last of the first
    pub at : walk.is_at world inner (internal_order order) below
        (previous_position (Some (length front)))
    -- the pairs are the view of all
    pub view : pairs ≡ view_of s (entries_of_pairs below)
    -- different keys of users are never equal
    pub exact : IsExactOrder order.cmp
    -- so many pairs are shown before the rest
    pub shown : count_shown s (entries_of_pairs (front ++ over)) ≡ n
    -- those that it went over show what it found
    pub finds : view_of s (entries_of_pairs over) ≡ option_to_list found
    -- and no visible one from there on is of a key before that
    pub after : (own : Pair) → found ≡ Some own → (entry : Entry)
        → Contains (entries_of_pairs (over ++ rest)) entry → entry.sequence ≤ s
        → order.cmp entry.key own.0 ≢ Less

  -- On the way back from the entry that shows the pair of this number to before all of its key.
  pub record IsTurning (key : List ℕ) (order : KeyOrder) (below pairs : List Pair) (n : ℕ)
      : Type 0 where
    -- the entries before the current one
    pub front : List Pair
    -- those from it on
    pub back : List Pair
    -- together they are all
    pub parted : below ≡ front ++ back
    -- the walk below is at the first of the latter
    pub at : walk.is_at world inner (internal_order order) below (Some (length front))
    -- the pairs are the view of all
    pub view : pairs ≡ view_of s (entries_of_pairs below)
    -- different keys of users are never equal
    pub exact : IsExactOrder order.cmp
    -- no entry from the current one on is of a key before this
    pub from : (entry : Entry) → Contains (entries_of_pairs back) entry
        → order.cmp entry.key key ≢ Less
    -- one of them is of this key
    pub own : (entry : Entry) × Contains (entries_of_pairs back) entry × (entry.key ≡ key)
    -- and the pair of the number is
    pub shown : (pair : Pair) × (pair_at pairs (Some n) ≡ Some pair) × (pair.0 ≡ key)

  -- the view's position is the one after so many pairs
  abbrev pub IsFoundNext : Option Direction → Pair → KeyOrder → List Pair → List Pair → ℕ → Type 0
  IsFoundNext direction saved order below pairs n =
      IsPlaced walk world inner s order direction saved below pairs (position_within pairs n)

  -- a scan forward ended there, or goes on
  abbrev pub IsNextStep : Option Direction → Pair → Option Bool → KeyOrder → List Pair
      → List Pair → ℕ → Type 0
  IsNextStep direction saved None order below pairs n =
      IsFoundNext direction saved order below pairs n
  IsNextStep direction saved (Some skipping) order below pairs n =
      IsOnScan (then_some skipping saved.0) order below pairs n

  -- or the last of so many
  abbrev pub IsFoundPrevious : Option Direction → Pair → KeyOrder → List Pair → List Pair → ℕ
      → Type 0
  IsFoundPrevious direction saved order below pairs n =
      IsPlaced walk world inner s order direction saved below pairs
      (previous_position (Some n))

  -- a scan back ended there, or goes on
  abbrev pub IsStepBack : Option Direction → Pair → Option Bool → KeyOrder → List Pair
      → List Pair → ℕ → Type 0
  IsStepBack direction saved None order below pairs n =
      IsFoundPrevious direction saved order below pairs n
  IsStepBack direction saved (Some taken) order below pairs n =
      IsOnScanBack (then_some taken saved) order below pairs n

  -- it is at the position up to which there are so many pairs, or at none
  abbrev pub IsLeft : Option Direction → Pair → KeyOrder → List Pair → List Pair → ℕ → Type 0
  IsLeft direction saved order below pairs n = IsViewOf walk world inner s order below pairs
      × (position : Option ℕ) × (n ≡ number_after position)
      × IsPlaced walk world inner s order direction saved below pairs position

  -- it is at the pair of this number
  abbrev pub IsLeftBack : Direction → Pair → KeyOrder → List Pair → List Pair → ℕ → Type 0
  IsLeftBack direction saved order below pairs n = IsViewOf walk world inner s order below pairs
      × IsAtOrBefore walk world inner s order direction saved below pairs n

  -- it is over the view, of which so many pairs are before a key
  abbrev pub IsSought : List ℕ → KeyOrder → List Pair → List Pair → ℕ → Type 0
  IsSought key order below pairs n = IsViewOf walk world inner s order below pairs
      × (n ≡ count_before order.cmp key pairs)

  -- it is over the view, which has so many pairs
  abbrev pub IsWhole : KeyOrder → List Pair → List Pair → ℕ → Type 0
  IsWhole order below pairs n = IsViewOf walk world inner s order below pairs
      × (n ≡ length pairs)

-- ---- moves between situations

module _ {E T M : Type 0} (walk : WalkGhosts M E T) where
  -- What moves leave of the walk below.
  pub record KeepsBelow (old_world : E × T) (old : M) (new_world : E × T) (new : M) : Type 0 where
    -- it is over the same list
    pub over : (order : KeyOrder) (list : List Pair) → walk.over old_world old order list
        → walk.over new_world new order list
    -- this is left of what it reads from
    pub kept : walk.keeps old_world new_world
    -- it has no new error
    pub excuses : (later : E × T) (status : Status)
        → walk.fails new_world new later status → walk.fails old_world old later status

  -- What a part of a move comes to that begins in one situation and ends in another.
  pub record MovesBelow {R : Type 0} (From : KeyOrder → List Pair → List Pair → ℕ → Type 0)
      (To : R → KeyOrder → List Pair → List Pair → ℕ → Type 0) (old_world : E × T) (old : M)
      (result : Result R Status) (new_world : E × T) (new : M) : Type 0 where
    -- it ends in that situation
    pub ok : IfOk result (λ value. (order : KeyOrder) (below pairs : List Pair) (n : ℕ)
        → From order below pairs n → To value order below pairs n)
    -- this is left of the walk below
    pub keeps : KeepsBelow old_world old new_world new
    -- the error is one of the walk below or of memory, where it begins in the situation
    pub cause : IfErr result (FailsOver walk
        (λ order pairs. (below : List Pair) × (n : ℕ) × From order below pairs n) old_world old
        new_world)
