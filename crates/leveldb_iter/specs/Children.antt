-- The children of a merge: each is over a list; the steps that they make; and which of them is at
-- the first pair in a direction, and whether others are there too.
use Rattle.std.specs.Prelude.{◌≡◌, ◌≢◌, ◌⊎◌, ℕ, Bool, true, false, List, [], length, slice_get, slice_index_or, option_and_then, if◌then◌else◌, Option, None, Some, Any, Result, Ok, Err, OnOk, IfErr}
use Rattle.std.specs.Ordering.{ordering_reverse}
use Rattle.std.specs.Str.{bytes_eq}
use Rattle.std.specs.declared.cmp.Ordering.{Ordering}
use Rattle.std.specs.declared.cmp.Ordering.TheVariants.{Less, Equal, Greater}
use Rattle.leveldb_base.specs.declared.error.Status.{Status}
use Rattle.leveldb_base.specs.declared.types.Direction.{Direction}
use Rattle.leveldb_base.specs.declared.types.Direction.TheVariants.{Forward, Reverse}
use Rattle.leveldb_base.specs.Types.{Pair, position_within, next_position, previous_position, last_position, seek_position}
use Rattle.leveldb_iter.specs.declared.children.Best.{Best}
use Rattle.leveldb_iter.specs.declared.children.ChildStep.{ChildStep}
use Rattle.leveldb_iter.specs.declared.children.ChildStep.TheVariants.{First, Last, Next, Prev, PrevOrLast, Seek}
use Rattle.leveldb_iter.specs.declared.children.Tie.{Tie}
use Rattle.leveldb_iter.specs.declared.children.Tie.TheVariants.{Alone, Shared, Clash}
use Rattle.leveldb_iter.specs.declared.walk.Walk.{Ghosts as WalkGhosts}
use Rattle.leveldb_iter.specs.Walk.{KeyOrder, Way, MovesWalk}

-- ---- children and their lists

-- the list of a child
abbrev pub list_at : List (List Pair) → ℕ → List Pair
list_at lists k = slice_index_or lists k []

-- the pair that a child is at
abbrev pub head_of : {E T I : Type 0} → WalkGhosts I E T → List I → ℕ → Option Pair
head_of walk children k = option_and_then walk.here (slice_get children k)

-- an error that one of them may have
abbrev pub AnyFails : {E T I : Type 0} → WalkGhosts I E T → E × T → List I → E × T → Status → Type 0
AnyFails walk world children later status =
    Any (λ child. walk.fails world child later status) children

-- Of walks in a world, and the list of each, in one order.
module _ {E T I : Type 0} (walk : WalkGhosts I E T) (world : E × T) (children : List I)
    (order : KeyOrder) (lists : List (List Pair)) where
  -- each child is over its list
  abbrev pub AreOver : Type 0
  AreOver = (k : ℕ) (child : I) → slice_get children k ≡ Some child
      → walk.over world child order (list_at lists k)

  -- each child is at this position of its list
  abbrev pub AreEachAt : (List Pair → Option ℕ) → Type 0
  AreEachAt position = (k : ℕ) (child : I) → slice_get children k ≡ Some child
      → let list = list_at lists k in walk.is_at world child order list (position list)

  -- each child is where this way leads to that position of its list
  abbrev pub AreEachLedTo : (E × T → I → KeyOrder → List Pair → Option ℕ → Type 0) → Way
      → (List Pair → Option ℕ) → Type 0
  AreEachLedTo From to position = (k : ℕ) (child : I) → slice_get children k ≡ Some child
      → let list = list_at lists k in
      (old : Option ℕ) × From world child order list old × (to order list old ≡ position list)

-- ---- steps

-- to the pair before, and from no position to the last
abbrev pub previous_or_last : List Pair → Option ℕ → Option ℕ
previous_or_last pairs None = last_position pairs
previous_or_last pairs (Some i) = previous_position (Some i)

-- where a step leads
abbrev pub step_to : ChildStep → Way
step_to First order pairs position = position_within pairs 0
step_to Last order pairs position = last_position pairs
step_to Next order pairs position = next_position pairs position
step_to Prev order pairs position = previous_position position
step_to PrevOrLast order pairs position = previous_or_last pairs position
step_to (Seek key) order pairs position = seek_position order.cmp pairs key.now

module _ {E T I : Type 0} (walk : WalkGhosts I E T) where
  -- from where it leads there
  abbrev pub step_from : ChildStep → E × T → I → KeyOrder → List Pair → Option ℕ → Type 0
  step_from First world it order pairs position = walk.over world it order pairs
  step_from Last world it order pairs position = walk.over world it order pairs
  step_from Next world it order pairs position = walk.is_at world it order pairs position
  step_from Prev world it order pairs position = walk.is_at world it order pairs position
  step_from PrevOrLast world it order pairs position = walk.is_at world it order pairs position
  step_from (Seek key) world it order pairs position =
      walk.over world it order pairs × (order.accepts key.now ≡ true)

  -- what a step of a child comes to
  abbrev pub MovesChild : {R : Type 0} → (E × T → I → KeyOrder → List Pair → Option ℕ → Type 0)
      → Way → E × T → I → Result R Status → E × T → I → Type 0
  MovesChild = MovesWalk walk.over walk.is_at walk.here walk.fails walk.keeps

  -- The child of this number makes a step, and no other does.
  pub record StepsOne {R : Type 0} (From : E × T → I → KeyOrder → List Pair → Option ℕ → Type 0)
      (to : Way) (i : ℕ) (old_world : E × T) (old : List I) (result : Result R Status)
      (new_world : E × T) (new : List I) : Type 0 where
    -- there are as many children
    pub counted : length new ≡ length old
    -- this one makes the step
    pub step : (child new_child : I) → slice_get old i ≡ Some child
        → slice_get new i ≡ Some new_child
        → MovesChild From to old_world child result new_world new_child
    -- the others are the same
    pub rest : (k : ℕ) → k ≢ i → slice_get new k ≡ slice_get old k
    -- this is left of what they read from
    pub kept : walk.keeps old_world new_world

  -- Every child makes a step, or after an error some have made it.
  pub record StepsEach (From : E × T → I → KeyOrder → List Pair → Option ℕ → Type 0) (to : Way)
      (old_world : E × T) (old : List I) (result : Result (Unit {0}) Status)
      (new_world : E × T) (new : List I) : Type 0 where
    -- there are as many children
    pub counted : length new ≡ length old
    -- each comes to where its step leads
    pub ok : (order : KeyOrder) (lists : List (List Pair)) (position : List Pair → Option ℕ)
        → AreEachLedTo walk old_world old order lists From to position
        → OnOk result (AreEachAt walk new_world new order lists position)
    -- in any case each is over its list
    pub over : (order : KeyOrder) (lists : List (List Pair))
        → AreOver walk old_world old order lists → AreOver walk new_world new order lists
    -- this is left of what they read from
    pub kept : walk.keeps old_world new_world
    -- the error is one that a child may have
    pub cause : IfErr result (AnyFails walk old_world old new_world)
    -- and so is each that one may have from now on
    pub excuses : (later : E × T) (status : Status)
        → AnyFails walk new_world new later status → AnyFails walk old_world old later status

-- ---- children at one key

-- whether two pairs are there, and have the same key
abbrev pub same_key : Option Pair → Option Pair → Bool
same_key (Some a) (Some b) = bytes_eq a.0 b.0
same_key a b = false

module _ {E T I : Type 0} (walk : WalkGhosts I E T) where
  -- The child of this number makes a step, and with it each child that is at a pair of its key; or
  -- after an error some have made it.
  pub record StepsAtKey (to : Way) (i : ℕ) (old_world : E × T) (old : List I)
      (result : Result (Unit {0}) Status) (new_world : E × T) (new : List I) : Type 0 where
    -- there are as many children
    pub counted : length new ≡ length old
    -- those at its key come to where the step leads, and the others stay
    pub ok : (order : KeyOrder) (lists : List (List Pair)) (position : List Pair → Option ℕ)
        → AreEachAt walk old_world old order lists position → OnOk result ((k : ℕ) (child : I)
        → slice_get new k ≡ Some child → let list = list_at lists k in
        let here = position list in let there = to order list here in
        let is_there = same_key (head_of walk old k) (head_of walk old i) in
        (k ≡ i → walk.is_at new_world child order list there)
        × (k ≢ i → walk.is_at new_world child order list (if is_there then there else here)))
    -- in any case each is over its list
    pub over : (order : KeyOrder) (lists : List (List Pair))
        → AreOver walk old_world old order lists → AreOver walk new_world new order lists
    -- this is left of what they read from
    pub kept : walk.keeps old_world new_world
    -- the error is one that a child may have
    pub cause : IfErr result (AnyFails walk old_world old new_world)
    -- and so is each that one may have from now on
    pub excuses : (later : E × T) (status : Status)
        → AnyFails walk new_world new later status → AnyFails walk old_world old later status

  -- The current child of a merge makes a step, and with it the others that are at its key, if there
  -- may be some.
  abbrev pub StepsCurrent : Way → ℕ → Bool → E × T → List I → Result (Unit {0}) Status → E × T
      → List I → Type 0
  StepsCurrent to i false = StepsOne walk walk.is_at to i
  StepsCurrent to i true = StepsAtKey to i

-- ---- the first in a direction

-- in this direction the second pair's key isn't before the first's
abbrev pub IsFirstOf : (List ℕ → List ℕ → Ordering) → Direction → List ℕ → List ℕ → Type 0
IsFirstOf cmp Forward a b = cmp b a ≢ Less
IsFirstOf cmp Reverse a b = cmp a b ≢ Less

-- how the pair of one child is to those of the others
abbrev pub IsTie : (List ℕ → List ℕ → Ordering) → (ℕ → Option Pair) → ℕ → Pair → Tie → Type 0
IsTie cmp heads i pair Alone =
    (k : ℕ) (other : Pair) → heads k ≡ Some other → cmp other.0 pair.0 ≡ Equal → k ≡ i
IsTie cmp heads i pair Shared =
    (k : ℕ) (other : Pair) → heads k ≡ Some other → cmp other.0 pair.0 ≡ Equal → other ≡ pair
IsTie cmp heads i pair Clash =
    (k : ℕ) × (other : Pair) × (heads k ≡ Some other) × (cmp other.0 pair.0 ≡ Equal)
    × (other ≢ pair)

-- Of those that are at a pair this one is at a first pair in the direction, and the others are so
-- to that; or none is at a pair.
abbrev pub IsBest : (List ℕ → List ℕ → Ordering) → Direction → (ℕ → Option Pair)
    → Option (ℕ × Tie) → Type 0
IsBest cmp direction heads None = (k : ℕ) → heads k ≡ None
IsBest cmp direction heads (Some best) = (pair : Pair) × (heads best.0 ≡ Some pair)
    × ((k : ℕ) (other : Pair) → heads k ≡ Some other → IsFirstOf cmp direction pair.0 other.0)
    × IsTie cmp heads best.0 pair best.1

-- how one key is to another in this direction: `Less` where it comes first
abbrev pub order_in : (List ℕ → List ℕ → Ordering) → Direction → List ℕ → List ℕ → Ordering
order_in cmp Forward a b = cmp a b
order_in cmp Reverse a b = ordering_reverse (cmp a b)

-- the pair of the best child found so far
abbrev pub best_pair : Best → Pair
best_pair best = (best.pair.0.now, best.pair.1.now)

-- a tie once another child is found at this pair of an equal key
abbrev pub IsJoined : Tie → Pair → Pair → Tie → Type 0
IsJoined old own other Alone = ⊥
IsJoined old own other Shared = (old ≢ Clash) × (other ≡ own)
IsJoined old own other Clash = (old ≡ Clash) ⊎ (other ≢ own)

-- The second where its key comes first, else the first; and with it the tie that the second makes
-- where its key is equal.
abbrev pub IsBetterOfTwo : (List ℕ → List ℕ → Ordering) → Direction → Best → ℕ → Pair → Best
    → Type 0
IsBetterOfTwo cmp direction old i pair new =
    let order = order_in cmp direction pair.0 (best_pair old).0 in
    ((order ≡ Less) × (new.index ≡ i) × (best_pair new ≡ pair) × (new.tie ≡ Alone))
    ⊎ ((order ≡ Equal) × (new.index ≡ old.index) × (best_pair new ≡ best_pair old)
    × IsJoined old.tie (best_pair old) pair new.tie)
    ⊎ ((order ≡ Greater) × (new ≡ old))

-- the better of what was found before and the child of this number at this pair
abbrev pub IsBetter : (List ℕ → List ℕ → Ordering) → Direction → Option Best → ℕ → Option Pair
    → Option Best → Type 0
IsBetter cmp direction best i None result = result ≡ best
IsBetter cmp direction best i (Some pair) None = ⊥
IsBetter cmp direction None i (Some pair) (Some new) =
    (new.index ≡ i) × (best_pair new ≡ pair) × (new.tie ≡ Alone)
IsBetter cmp direction (Some old) i (Some pair) (Some new) =
    IsBetterOfTwo cmp direction old i pair new

-- The current child was chosen, or none where none is at a pair; or there is a clash.
abbrev pub IsChosen : (List ℕ → List ℕ → Ordering) → Direction → (ℕ → Option Pair)
    → Result (Unit {0}) Status → Option ℕ → Bool → Type 0
IsChosen cmp direction heads (Ok u) None shared = (k : ℕ) → heads k ≡ None
IsChosen cmp direction heads (Ok u) (Some i) shared =
    IsBest cmp direction heads (Some (i, if shared then Shared else Alone))
IsChosen cmp direction heads (Err status) current shared =
    (i : ℕ) × IsBest cmp direction heads (Some (i, Clash))
