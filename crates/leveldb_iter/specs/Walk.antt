-- Walks over lists of pairs, and what their moves come to. A move borrows what the pairs are read
-- from, an environment and its tables: together they are the world of the move.
use Rattle.std.specs.Prelude.{◌≡◌, ℕ, Bool, true, List, All, Option, None, Result, OnOk, OnErr, IfErr}
use Rattle.std.specs.declared.cmp.Ordering.{Ordering}
use Rattle.leveldb_base.specs.declared.cmp.Cmp.{Ghosts as CmpGhosts}
use Rattle.leveldb_base.specs.declared.error.Status.{Status}
use Rattle.leveldb_base.specs.History.{AreRising}
use Rattle.leveldb_base.specs.Types.{Pair, IsPosition, pair_at, position_within, next_position, previous_position, last_position, seek_position}

-- an order of keys, and the keys that it is meant for
pub record KeyOrder : Type 0 where
  -- whether it accepts a key
  pub accepts : List ℕ → Bool
  -- how one key is to another
  pub cmp : List ℕ → List ℕ → Ordering

-- the order that a comparator keeps
abbrev pub key_order : {C : Type 0} → CmpGhosts C → C → KeyOrder
key_order order c = record { accepts = order.accepts c; cmp = order.cmp c }

-- the pairs are sorted by key, and no key is there twice
pub record IsSortedIn (order : KeyOrder) (pairs : List Pair) : Type 0 where
  -- each key is before the next
  pub rising : AreRising order.cmp pairs
  -- and the order accepts each
  pub accepted : All (λ pair. order.accepts pair.0 ≡ true) pairs

-- to which position a move leads, in a list that is in this order, from this position
abbrev pub Way : Type 0
Way = KeyOrder → List Pair → Option ℕ → Option ℕ

-- The arguments are the ghost members of `Walk`: over which list a walk is in a world, and at which
-- position of it; the pair that it is at; the errors that a move may have which begins in one world
-- and ends in another; and what a move leaves of a world.
module _ {W It : Type 0} (over : W → It → KeyOrder → List Pair → Type 0)
    (is_at : W → It → KeyOrder → List Pair → Option ℕ → Type 0) (here : It → Option Pair)
    (fails : W → It → W → Status → Type 0) (keeps : W → W → Type 0) where
  -- what holds of these, whatever the walk is
  pub record WalkLaws : Type 0 where
    -- a walk's list is sorted
    pub sorted : (world : W) (it : It) (order : KeyOrder) (pairs : List Pair)
        → over world it order pairs → IsSortedIn order pairs
    -- a walk at a position of a list is over it
    pub over_list : (world : W) (it : It) (order : KeyOrder) (pairs : List Pair)
        (position : Option ℕ) → is_at world it order pairs position → over world it order pairs
    -- and the list has the position
    pub in_range : (world : W) (it : It) (order : KeyOrder) (pairs : List Pair)
        (position : Option ℕ) → is_at world it order pairs position → IsPosition pairs position
    -- the pair is the one at its position
    pub at_position : (world : W) (it : It) (order : KeyOrder) (pairs : List Pair)
        (position : Option ℕ) → is_at world it order pairs position
        → here it ≡ pair_at pairs position
    -- where no move is made, a world is kept
    pub keeps_itself : (world : W) → keeps world world
    -- two moves leave what the second leaves of what the first left
    pub keeps_on : (first second third : W) → keeps first second → keeps second third
        → keeps first third
    -- what is left of a world has each walk over its list
    pub stays_over : (first second : W) → keeps first second → (it : It) (order : KeyOrder)
        (pairs : List Pair) → over first it order pairs → over second it order pairs
    -- and at its position
    pub stays : (first second : W) → keeps first second → (it : It) (order : KeyOrder)
        (pairs : List Pair) (position : Option ℕ)
        → is_at first it order pairs position → is_at second it order pairs position
    -- and with no new error
    pub excuses : (first second : W) → keeps first second → (it : It) (later : W)
        (status : Status) → fails second it later status → fails first it later status

  -- What a move comes to that leads this way from where the walk is, if it is there.
  pub record MovesWalk {R : Type 0} (From : W → It → KeyOrder → List Pair → Option ℕ → Type 0)
      (to : Way) (old_world : W) (old : It) (result : Result R Status) (new_world : W)
      (new : It) : Type 0 where
    -- it is at the position to which the move leads
    pub ok : (order : KeyOrder) (pairs : List Pair) (position : Option ℕ)
        → From old_world old order pairs position
        → OnOk result (is_at new_world new order pairs (to order pairs position))
    -- in any case it is over the same list
    pub same : (order : KeyOrder) (pairs : List Pair)
        → over old_world old order pairs → over new_world new order pairs
    -- after an error it is at no position of it
    pub err : (order : KeyOrder) (pairs : List Pair)
        → over old_world old order pairs → OnErr result (is_at new_world new order pairs None)
    -- and so at no pair
    pub none : OnErr result (here new ≡ None)
    -- this is left of what walks read from
    pub kept : keeps old_world new_world
    -- the error is one that the walk may have
    pub cause : IfErr result (fails old_world old new_world)
    -- and so is each that it may have from now on
    pub excuses : (later : W) (status : Status)
        → fails new_world new later status → fails old_world old later status

  -- What becomes of a walk that is moved to no position.
  pub record Resets (old new : It) : Type 0 where
    -- it is at no position of the same list
    pub at_none : (world : W) (order : KeyOrder) (pairs : List Pair)
        → over world old order pairs → is_at world new order pairs None
    -- and so at no pair
    pub none : here new ≡ None
    -- it has no new error
    pub excuses : (world later : W) (status : Status)
        → fails world new later status → fails world old later status

  module _ {R : Type 0} where
    -- to the next pair, from no position to the first, and from the last to no position
    abbrev pub Advances : W → It → Result R Status → W → It → Type 0
    Advances = MovesWalk is_at (λ _. next_position)

    -- to the pair before, and from the first or from no position to no position
    abbrev pub StepsBack : W → It → Result R Status → W → It → Type 0
    StepsBack = MovesWalk is_at (λ _ _. previous_position)

    -- to the first pair at or after a key that is accepted
    abbrev pub SeeksKey : List ℕ → W → It → Result R Status → W → It → Type 0
    SeeksKey key = MovesWalk
        (λ world it order pairs _. over world it order pairs × (order.accepts key ≡ true))
        (λ order pairs _. seek_position order.cmp pairs key)

    -- to the first pair, or to no position in an empty list
    abbrev pub SeeksFirst : W → It → Result R Status → W → It → Type 0
    SeeksFirst = MovesWalk (λ world it order pairs _. over world it order pairs)
        (λ _ pairs _. position_within pairs 0)

    -- to the last pair, or to no position in an empty list
    abbrev pub SeeksLast : W → It → Result R Status → W → It → Type 0
    SeeksLast = MovesWalk (λ world it order pairs _. over world it order pairs)
        (λ _ pairs _. last_position pairs)
