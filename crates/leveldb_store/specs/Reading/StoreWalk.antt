-- The children of a store's merge, by cases: over memory, and over tables.
use Rattle.std.specs.Prelude.{◌≡◌, ℕ, List, Option}
use Rattle.leveldb_base.specs.Types.{Pair}
use Rattle.leveldb_base.specs.declared.cmp.Cmp.{Ghosts as CmpGhosts}
use Rattle.leveldb_base.specs.declared.cmp.internal.InternalKeyCmp.{InternalKeyCmp}
use Rattle.leveldb_base.specs.declared.error.Status.{Status}
use Rattle.leveldb_base.specs.declared.types.LdbIterator.{Ghosts as IteratorGhosts}
use Rattle.leveldb_env.specs.Compressor.{Codings}
use Rattle.leveldb_env.specs.declared.env.Env.{Ghosts as EnvGhosts}
use Rattle.leveldb_env.specs.declared.filter.FilterPolicy.{Ghosts as FilterGhosts}
use Rattle.leveldb_iter.specs.InMemory.{IsAloneOver, IsAloneAt, FailsAlone, alone_here}
use Rattle.leveldb_iter.specs.Walk.{KeyOrder}
use Rattle.leveldb_version.specs.Walks.VersionIter.{FailsInTables, IsAtInTables, IsOverTables, version_here}
use Rattle.leveldb_version.specs.declared.table_cache.moves.ReadTables.{ReadTables}
use Rattle.leveldb_store.specs.declared.store_walk.StoreWalk.{StoreWalk}
use Rattle.leveldb_store.specs.declared.store_walk.StoreWalk.TheVariants.{Memory, Tables}

-- the pair that it is at
abbrev pub store_here : {C M : Type 0} → IteratorGhosts M → StoreWalk C M → Option Pair
store_here iterator (Memory it) = alone_here iterator it
store_here iterator (Tables it) = version_here it

module _ {E C FP K F M : Type 0} (order : CmpGhosts (InternalKeyCmp C)) (env : EnvGhosts E F)
    (cmp : CmpGhosts C) (filters : FilterGhosts FP) (codings : K → Codings)
    (iterator : IteratorGhosts M) where
  -- over which list it is
  abbrev pub IsStoreOver : E × ReadTables E C FP K F → StoreWalk C M → KeyOrder
      → List Pair → Type 0
  IsStoreOver world (Memory it) keys pairs = IsAloneOver iterator world it keys pairs
  IsStoreOver world (Tables it) keys pairs =
      IsOverTables order env cmp filters codings world it keys pairs

  -- and at which position of it
  abbrev pub IsStoreAt : E × ReadTables E C FP K F → StoreWalk C M → KeyOrder
      → List Pair → Option ℕ → Type 0
  IsStoreAt world (Memory it) keys pairs position =
      IsAloneAt iterator world it keys pairs position
  IsStoreAt world (Tables it) keys pairs position =
      IsAtInTables order env cmp filters codings world it keys pairs position

  -- the errors that a move may have
  abbrev pub FailsInStore : E × ReadTables E C FP K F → StoreWalk C M
      → E × ReadTables E C FP K F → Status → Type 0
  FailsInStore world (Memory it) later status = FailsAlone iterator world it later status
  FailsInStore world (Tables it) later status =
      FailsInTables order env cmp filters codings world it later status
