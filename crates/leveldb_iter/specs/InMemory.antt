-- An iterator as a walk that reads from no world.
use Rattle.std.specs.Prelude.{◌≡◌, List, ℕ, Option}
use Rattle.leveldb_base.specs.Types.{Pair, pair_at}
use Rattle.leveldb_base.specs.declared.error.Status.{Status}
use Rattle.leveldb_base.specs.declared.types.LdbIterator.{Ghosts as IteratorGhosts}
use Rattle.leveldb_iter.specs.declared.in_memory.InMemory.{InMemory}
use Rattle.leveldb_iter.specs.Walk.{KeyOrder, IsSortedIn}

module _ {W M : Type 0} (iterator : IteratorGhosts M) where
  -- in each world it is over its own list, in its own order, if that is sorted
  pub record IsAloneOver (world : W) (it : InMemory M) (order : KeyOrder)
      (pairs : List Pair) : Type 0 where
    -- its order
    pub order_is : order.cmp ≡ iterator.order it.0
    -- its list
    pub pairs_are : pairs ≡ iterator.pairs it.0
    -- keys rise in it, and the order accepts them
    pub sorted : IsSortedIn order pairs

  -- and at its own position
  pub record IsAloneAt (world : W) (it : InMemory M) (order : KeyOrder) (pairs : List Pair)
      (position : Option ℕ) : Type 0 where
    -- the list
    pub over : IsAloneOver world it order pairs
    -- the position
    pub position_is : position ≡ iterator.position it.0

  -- the errors that its moves may have
  abbrev pub FailsAlone : W → InMemory M → W → Status → Type 0
  FailsAlone world it later status = (after : M) × iterator.fails it.0 after status

-- the pair at its own position
abbrev pub alone_here : {M : Type 0} → IteratorGhosts M → InMemory M → Option Pair
alone_here iterator it = pair_at (iterator.pairs it.0) (iterator.position it.0)
