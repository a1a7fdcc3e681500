-- What a merge of walks is: its children are over lists, and it is over a merge of these lists.
use Rattle.std.specs.Prelude.{◌≡◌, ◌⊎◌, ℕ, Bool, false, List, length, option_and_then, Option, None, Some, Result, OnOk, IfErr}
use Rattle.std.specs.declared.cmp.Ordering.TheVariants.{Equal}
use Rattle.leveldb_base.specs.declared.cmp.Cmp.{Ghosts as CmpGhosts}
use Rattle.leveldb_base.specs.declared.error.Status.{Status}
use Rattle.leveldb_base.specs.declared.error.StatusCode.TheVariants.{Corruption}
use Rattle.leveldb_base.specs.declared.types.Direction.{Direction}
use Rattle.leveldb_base.specs.Types.{Pair, pair_at}
use Rattle.leveldb_iter.specs.declared.walk.Walk.{Ghosts as WalkGhosts}
use Rattle.leveldb_iter.specs.declared.merging_iter.MergeCore.{MergeCore}
use Rattle.leveldb_iter.specs.Walk.{KeyOrder, Way, key_order}
use Rattle.leveldb_iter.specs.Children.{head_of, AnyFails, AreOver, AreEachAt}
use Rattle.leveldb_iter.specs.Merge.{HaveOnePairAKey, IsCut, IsMerge, IsPairOf, beside_cut}

-- The current child is at the merge's pair, and the lists have no other pair of its key.
pub record IsAtMergedPair {E T I : Type 0} (walk : WalkGhosts I E T) (children : List I) (i : ℕ)
    (shared : Bool) (order : KeyOrder) (lists : List (List Pair)) (pairs : List Pair)
    (position : Option ℕ) : Type 0 where
  -- the pair
  pub pair : Pair
  -- the child is at it
  pub own : head_of walk children i ≡ Some pair
  -- and the merge is
  pub same : pair_at pairs position ≡ Some pair
  -- it is the only pair of its key
  pub only : (other : Pair) → IsPairOf lists other → order.cmp other.0 pair.0 ≡ Equal
      → other ≡ pair
  -- and no other child is at it if none is said to be
  pub alone : shared ≡ false → (k : ℕ) (other : Pair) → head_of walk children k ≡ Some other
      → order.cmp other.0 pair.0 ≡ Equal → k ≡ i

-- Of a merge of walks in a world.
module _ {E T I C : Type 0} (walk : WalkGhosts I E T) (cmp : CmpGhosts C) (world : E × T)
    (compares : C) (children : List I) (order : KeyOrder) (lists : List (List Pair))
    (pairs : List Pair) where
  -- its children are over these lists, and it is over these pairs, in the order of its comparator
  pub record AreMerged : Type 0 where
    -- each child has a list
    pub counted : length lists ≡ length children
    -- each child is over its list
    pub over : AreOver walk world children order lists
    -- the pairs are a merge of the lists
    pub merge : IsMerge order lists pairs
    -- the order is the comparator's
    pub ordered : order ≡ key_order cmp compares

  -- Its children are on one side of a cut, and this is the position of the merge there.
  pub record AreBesideCut (direction : Direction) (position : Option ℕ) : Type 0 where
    -- it is over these pairs
    pub merged : AreMerged
    -- which keys are before the cut
    pub before : List ℕ → Bool
    -- with a key, those at or before it are
    pub cut : IsCut order before
    -- each child is beside the cut in its list
    pub each : AreEachAt walk world children order lists (beside_cut direction before)
    -- and the merge in its own
    pub at : position ≡ beside_cut direction before pairs

  -- It is at no position; or its children are on one side of a cut, and the current one is at the
  -- merge's pair.
  abbrev pub IsPlacedAt : Option ℕ → Bool → Direction → Option ℕ → Type 0
  IsPlacedAt None shared direction position = AreMerged × (position ≡ None)
  IsPlacedAt (Some i) shared direction position = AreBesideCut direction position
      × IsAtMergedPair walk children i shared order lists pairs position

-- these children are over no lists in which pairs of equal key are the same pair
abbrev pub HaveClash : {E T I C : Type 0} → WalkGhosts I E T → CmpGhosts C → E × T → C → List I
    → Type 0
HaveClash walk cmp world compares children =
    (order : KeyOrder) (lists : List (List Pair)) (pairs : List Pair)
    → AreMerged walk cmp world compares children order lists pairs
    → HaveOnePairAKey order lists → ⊥

-- the errors of a merge of these children
abbrev pub FailsOrClashes : {E T I C : Type 0} → WalkGhosts I E T → CmpGhosts C → E × T → C → List I
    → E × T → Status → Type 0
FailsOrClashes walk cmp world compares children later status =
    AnyFails walk world children later status
    ⊎ ((status.code ≡ Corruption) × HaveClash walk cmp world compares children)

module _ {E T I C : Type 0} (walk : WalkGhosts I E T) (cmp : CmpGhosts C) where
  -- in this world a merge of walks over these lists is over these pairs
  abbrev pub IsMergeOfLists : E × T → MergeCore C I → KeyOrder → List (List Pair) → List Pair
      → Type 0
  IsMergeOfLists world it order lists pairs =
      AreMerged walk cmp world it.cmp it.children.items order lists pairs

  -- and at this position of them
  pub record IsMergeOfListsAt (world : E × T) (it : MergeCore C I) (order : KeyOrder)
      (lists : List (List Pair)) (pairs : List Pair) (position : Option ℕ) : Type 0 where
    -- as its children are, and the current one
    pub placed : IsPlacedAt walk cmp world it.cmp it.children.items order lists pairs it.current
        it.shared it.direction position

  -- of some lists it is at this position
  abbrev pub IsMergeAt : E × T → MergeCore C I → KeyOrder → List Pair → Option ℕ → Type 0
  IsMergeAt world it order pairs position =
      (lists : List (List Pair)) × IsMergeOfListsAt world it order lists pairs position

  -- it is over these pairs: at some position of them, or at none
  abbrev pub IsMergeOver : E × T → MergeCore C I → KeyOrder → List Pair → Type 0
  IsMergeOver world it order pairs = (position : Option ℕ) × IsMergeAt world it order pairs position

  -- The errors of a merge are those of its children, and `Corruption` where it is over no lists in
  -- which pairs of equal key are the same pair.
  abbrev pub FailsMerged : E × T → MergeCore C I → E × T → Status → Type 0
  FailsMerged world it later status = AnyFails walk world it.children.items later status
      ⊎ ((status.code ≡ Corruption)
      × ((order : KeyOrder) (lists : List (List Pair)) (pairs : List Pair) (position : Option ℕ)
      → IsMergeOfListsAt world it order lists pairs position → HaveOnePairAKey order lists → ⊥))

  -- The first half of a merge's move, which leads this way from where the merge is. None of its
  -- children is the current one yet.
  pub record Readies
      (From : E × T → MergeCore C I → KeyOrder → List (List Pair) → List Pair → Option ℕ → Type 0)
      (to : Way) (direction : Direction) (old_world : E × T) (old : MergeCore C I)
      (result : Result (Unit {0}) Status) (new_world : E × T)
      (new_cmp : C) (new_children : List I) (new_current : Option ℕ) : Type 0 where
    -- none of the children is the current one
    pub no_current : new_current ≡ None
    -- they are on one side of a cut, where the merge's position is the one to which it moves
    pub ok : (order : KeyOrder) (lists : List (List Pair)) (pairs : List Pair)
        (position : Option ℕ) → From old_world old order lists pairs position
        → OnOk result (AreBesideCut walk cmp new_world new_cmp new_children order lists pairs
        direction (to order pairs position))
    -- in any case the merge is over the same lists and pairs
    pub same : (order : KeyOrder) (lists : List (List Pair)) (pairs : List Pair)
        → AreMerged walk cmp old_world old.cmp old.children.items order lists pairs
        → AreMerged walk cmp new_world new_cmp new_children order lists pairs
    -- this is left of what the children read from
    pub kept : walk.keeps old_world new_world
    -- the error is one that a child may have
    pub cause : IfErr result (AnyFails walk old_world old.children.items new_world)
    -- and so is each that one may have from now on
    pub excuses : (later : E × T) (status : Status)
        → AnyFails walk new_world new_children later status
        → AnyFails walk old_world old.children.items later status

module _ {E T I C : Type 0} (walk : WalkGhosts I E T) where
  -- the pair that the current child is at
  abbrev pub merged_here : MergeCore C I → Option Pair
  merged_here it = option_and_then (head_of walk it.children.items) it.current
