-- A walk over the view of a store at a sequence number, above a walk over all its entries.
use Rattle.std.specs.Prelude.{◌≡◌, ◌≢◌, ◌⊎◌, ◌≤◌, ◌+◌, ℕ, true, List, ◌∷◌, ◌++◌, length, Option, Some, None, Contains}
use Rattle.std.specs.Option.{option_map}
use Rattle.std.specs.declared.cmp.Ordering.TheVariants.{Less}
use Rattle.leveldb_base.specs.Cmp.{IsExactOrder}
use Rattle.leveldb_base.specs.Entries.{entries_of_pairs}
use Rattle.leveldb_base.specs.Error.{IsOutOfMemory}
use Rattle.leveldb_base.specs.History.{Entry}
use Rattle.leveldb_base.specs.KeyTypes.{user_part}
use Rattle.leveldb_base.specs.Scan.{IsScanning, count_shown}
use Rattle.leveldb_base.specs.Types.{Pair, pair_at, previous_position}
use Rattle.leveldb_base.specs.View.{view_of}
use Rattle.leveldb_base.specs.declared.error.Status.{Status}
use Rattle.leveldb_base.specs.declared.error.StatusCode.TheVariants.{Corruption}
use Rattle.leveldb_base.specs.declared.types.Direction.{Direction}
use Rattle.leveldb_base.specs.declared.types.Direction.TheVariants.{Forward, Reverse}
use Rattle.leveldb_iter.specs.declared.db_iter.ViewWalk.{ViewWalk}
use Rattle.leveldb_iter.specs.declared.walk.Walk.{Ghosts as WalkGhosts}
use Rattle.leveldb_iter.specs.MergedEntries.{internal_order}
use Rattle.leveldb_iter.specs.Walk.{KeyOrder}

-- the pair that an entry below shows: the user's key and the value
abbrev pub user_pair : Pair → Pair
user_pair pair = (user_part pair.0, pair.1)

-- the pair that it is at: after a move forward that of the entry below, in reverse the saved one
abbrev pub view_pair : Option Direction → Option Pair → Pair → Option Pair
view_pair None below saved = None
view_pair (Some Forward) below saved = option_map user_pair below
view_pair (Some Reverse) below saved = Some saved

-- Of a walk in a world, below the view at a sequence number.
module _ {E T M : Type 0} (walk : WalkGhosts M E T) (world : E × T) (inner : M) (sequence : ℕ)
    (order : KeyOrder) where
  -- the pairs are the view of the entries below
  pub record IsViewOf (below pairs : List Pair) : Type 0 where
    -- the walk below is over these, each an internal key and a value
    pub over : walk.over world inner (internal_order order) below
    -- different keys of users are never equal
    pub exact : IsExactOrder order.cmp
    -- and each is accepted
    pub accepts : (key : List ℕ) → order.accepts key ≡ true
    -- the view of their entries at the sequence number
    pub view : pairs ≡ view_of sequence (entries_of_pairs below)

  -- The walk below is at the very entry that shows the pair at this position.
  pub record IsAtEntry (below pairs : List Pair) (position : ℕ) : Type 0 where
    -- the entries before it
    pub front : List Pair
    -- the entry
    pub pair : Pair
    -- those after it
    pub back : List Pair
    -- together they are all
    pub parted : below ≡ front ++ pair ∷ back
    -- the walk below is at the entry
    pub at : walk.is_at world inner (internal_order order) below (Some (length front))
    -- it shows the pair at the position
    pub shown : pair_at pairs (Some position) ≡ Some (user_pair pair)
    -- those after it show the rest
    pub rest : IsScanning sequence pairs (position + 1) (Some (user_part pair.0))
        (entries_of_pairs back)

  -- The saved pair is the one at this position, and the walk below is before all entries of its
  -- key.
  pub record IsBeforeEntries (saved : Pair) (below pairs : List Pair) (position : ℕ) : Type 0 where
    -- the entries of keys before the pair's
    pub front : List Pair
    -- the others
    pub back : List Pair
    -- together they are all
    pub parted : below ≡ front ++ back
    -- the walk below is at the last of the former, or at no position where there is none
    pub at : walk.is_at world inner (internal_order order) below
        (previous_position (Some (length front)))
    -- the pairs after the saved one
    pub more : List Pair
    -- the entries at the front show the pairs before it
    pub view : pairs ≡ view_of sequence (entries_of_pairs front) ++ saved ∷ more
    -- as many as its position says
    pub counted : count_shown sequence (entries_of_pairs front) ≡ position
    -- no entry at the back that may show a pair is of a key before the saved one
    pub after : (entry : Entry) → Contains (entries_of_pairs back) entry
        → entry.sequence ≤ sequence → order.cmp entry.key saved.0 ≢ Less

  -- it is at the pair at this position, by the direction in which it last went
  abbrev pub IsAtOrBefore : Direction → Pair → List Pair → List Pair → ℕ → Type 0
  IsAtOrBefore Forward saved below pairs position = IsAtEntry below pairs position
  IsAtOrBefore Reverse saved below pairs position = IsBeforeEntries saved below pairs position

  -- and at no position where it has none
  abbrev pub IsPlaced : Option Direction → Pair → List Pair → List Pair → Option ℕ → Type 0
  IsPlaced None saved below pairs position = position ≡ None
  IsPlaced (Some direction) saved below pairs position =
      (n : ℕ) × (position ≡ Some n) × IsAtOrBefore direction saved below pairs n

module _ {E T M : Type 0} (walk : WalkGhosts M E T) where
  -- it is at this position of a view
  pub record IsViewAt (world : E × T) (it : ViewWalk M) (order : KeyOrder) (pairs : List Pair)
      (position : Option ℕ) : Type 0 where
    -- the pairs below
    pub below : List Pair
    -- of which these are the view
    pub view : IsViewOf walk world it.walk it.sequence order below pairs
    -- as the walk below is, or the saved pair
    pub placed : IsPlaced walk world it.walk it.sequence order it.at
        (it.saved_key.items, it.saved_value.items) below pairs position

  -- it is over a view: at some position of it, or at none
  abbrev pub IsViewOver : E × T → ViewWalk M → KeyOrder → List Pair → Type 0
  IsViewOver world it order pairs =
      (position : Option ℕ) × IsViewAt world it order pairs position

  -- the pair that it is at
  abbrev pub view_here : ViewWalk M → Option Pair
  view_here it = view_pair it.at (walk.here it.walk) (it.saved_key.items, it.saved_value.items)

  -- the errors of a walk below, of memory, and of pairs that are no entries
  abbrev pub FailsOver : (KeyOrder → List Pair → Type 0) → E × T → M → E × T → Status → Type 0
  FailsOver Over world inner later status = walk.fails world inner later status
      ⊎ IsOutOfMemory status
      ⊎ ((status.code ≡ Corruption)
      × ((order : KeyOrder) (pairs : List Pair) → Over order pairs → ⊥))

  -- the errors of a view: where it is over one, those below and of memory
  abbrev pub FailsView : E × T → ViewWalk M → E × T → Status → Type 0
  FailsView world it = FailsOver (IsViewOver world it) world it.walk
