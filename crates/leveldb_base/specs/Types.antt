-- An iterator is a list of pairs and an optional position in it; the moves between positions.
use Rattle.std.specs.Prelude.{◌≡◌, ℕ, ◌+◌, ◌-◌, ◌<◌, List, [], ◌∷◌, Option, Some, None, if◌then◌else◌, nat_lt, length, slice_get, option_and_then}
use Rattle.std.specs.Borrow.{Bor}
use Rattle.std.specs.Global.{Vec}
use Rattle.std.specs.declared.cmp.Ordering.{Ordering}
use Rattle.std.specs.Ordering.{is_lt}
use Rattle.leveldb_base.specs.declared.error.Status.{Status}

-- a key with its value
abbrev pub Pair : Type 0
Pair = List ℕ × List ℕ

-- the position if the list has it
abbrev pub position_within : List Pair → ℕ → Option ℕ
position_within pairs i = if nat_lt i (length pairs) then Some i else None

-- from no position to the first pair, and from the last to no position
abbrev pub next_position : List Pair → Option ℕ → Option ℕ
next_position pairs None = position_within pairs 0
next_position pairs (Some i) = position_within pairs (i + 1)

-- from no position, and from the first pair, to no position
abbrev pub previous_position : Option ℕ → Option ℕ
previous_position None = None
previous_position (Some i) = if nat_lt 0 i then Some (i - 1) else None

-- the position of the last pair, or none in an empty list
abbrev pub last_position : List Pair → Option ℕ
last_position [] = None
last_position (pair ∷ pairs) = Some (length pairs)

-- how many keys at the front are before the key
abbrev pub count_before : (List ℕ → List ℕ → Ordering) → List ℕ → List Pair → ℕ
count_before cmp key [] = 0
count_before cmp key (pair ∷ pairs) =
    if is_lt (cmp pair.0 key) then count_before cmp key pairs + 1 else 0

-- the position of the first pair at or after the key
abbrev pub seek_position : (List ℕ → List ℕ → Ordering) → List Pair → List ℕ → Option ℕ
seek_position cmp pairs key = position_within pairs (count_before cmp key pairs)

-- no position, or one that the list has
abbrev pub IsPosition : List Pair → Option ℕ → Type 0
IsPosition pairs None = Unit {0}
IsPosition pairs (Some i) = i < length pairs

-- the pair at a position
abbrev pub pair_at : List Pair → Option ℕ → Option Pair
pair_at pairs position = option_and_then (slice_get pairs) position

-- what two borrowed slices hold
abbrev pub pair_of : Option (Bor (List ℕ) × Bor (List ℕ)) → Option Pair
pair_of None = None
pair_of (Some refs) = Some (refs.0.now, refs.1.now)

-- what two byte vectors hold
abbrev pub copied_pair : Option (Vec ℕ × Vec ℕ) → Option Pair
copied_pair None = None
copied_pair (Some pair) = Some (pair.0.items, pair.1.items)

-- What every move of an iterator keeps, whatever its result is. The arguments are the ghost members
-- of `LdbIterator`: the list, the order in which it seeks, and the errors of its moves.
pub record SameWalk {It : Type 0} (pairs : It → List Pair) (order : It → List ℕ → List ℕ → Ordering)
    (fails : It → It → Status → Type 0) (old new : It) : Type 0 where
  -- the list is the same
  pub same_pairs : pairs new ≡ pairs old
  -- and so is its order
  pub same_order : order new ≡ order old
  -- an error that a later move may have is one that a move from here on may have
  pub excuses : (later : It) (status : Status) → fails new later status → fails old later status
