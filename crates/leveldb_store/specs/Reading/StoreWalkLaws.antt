-- The laws of the children of a store's merge, by cases. They are in specs/ since their impl of
-- `Walk` proves them by this, and the checker takes no term of proofs/ there.
use Rattle.std.specs.Prelude.{◌≡◌, ℕ, List, Option}
use Rattle.leveldb_base.specs.Types.{IsPosition, Pair, pair_at}
use Rattle.leveldb_base.specs.declared.cmp.Cmp.{Ghosts as CmpGhosts}
use Rattle.leveldb_base.specs.declared.cmp.internal.InternalKeyCmp.{InternalKeyCmp}
use Rattle.leveldb_base.specs.declared.error.Status.{Status}
use Rattle.leveldb_base.specs.declared.types.LdbIterator.{Ghosts as IteratorGhosts}
use Rattle.leveldb_env.specs.Compressor.{Codings}
use Rattle.leveldb_env.specs.declared.env.Env.{Ghosts as EnvGhosts}
use Rattle.leveldb_env.specs.declared.filter.FilterPolicy.{Ghosts as FilterGhosts}
use Rattle.leveldb_iter.specs.InMemory.{IsAloneOver, IsAloneAt}
use Rattle.leveldb_iter.specs.declared.in_memory.InMemory.{InMemory}
use Rattle.leveldb_iter.specs.InMemoryLaws.{alone_laws}
use Rattle.leveldb_iter.specs.Walk.{IsSortedIn, KeyOrder, WalkLaws}
use Rattle.leveldb_version.specs.Walks.VersionIter.{KeepsReading}
use Rattle.leveldb_version.specs.Walks.VersionIterLaws.{reading_kept, reading_kept_on, version_laws}
use Rattle.leveldb_version.specs.declared.table_cache.moves.ReadTables.{ReadTables}
use Rattle.leveldb_store.specs.Reading.StoreWalk.{FailsInStore, IsStoreAt, IsStoreOver, store_here}
use Rattle.leveldb_store.specs.declared.store_walk.StoreWalk.{StoreWalk}
use Rattle.leveldb_store.specs.declared.store_walk.StoreWalk.TheVariants.{Memory, Tables}

-- a walk over memory reads from no world
stays_alone : {W M : Type 0} {iterator : IteratorGhosts M} (first second : W) (it : InMemory M)
    (keys : KeyOrder) (pairs : List Pair) → IsAloneOver iterator first it keys pairs
    → IsAloneOver iterator second it keys pairs
stays_alone first second it keys pairs over =
    record { order_is = over.order_is; pairs_are = over.pairs_are; sorted = over.sorted }

module _ {E C FP K F M : Type 0} (order : CmpGhosts (InternalKeyCmp C)) (env : EnvGhosts E F)
    (cmp : CmpGhosts C) (filters : FilterGhosts FP) (codings : K → Codings)
    (iterator : IteratorGhosts M) where
  abbrev Over : E × ReadTables E C FP K F → StoreWalk C M → KeyOrder → List Pair
      → Type 0
  Over = IsStoreOver order env cmp filters codings iterator

  abbrev At : E × ReadTables E C FP K F → StoreWalk C M → KeyOrder → List Pair
      → Option ℕ → Type 0
  At = IsStoreAt order env cmp filters codings iterator

  abbrev Fails : E × ReadTables E C FP K F → StoreWalk C M
      → E × ReadTables E C FP K F → Status → Type 0
  Fails = FailsInStore order env cmp filters codings iterator

  abbrev Keeps : E × ReadTables E C FP K F → E × ReadTables E C FP K F → Type 0
  Keeps = KeepsReading order env cmp filters codings

  store_sorted : (world : E × ReadTables E C FP K F) (it : StoreWalk C M)
      (keys : KeyOrder) (pairs : List Pair) → Over world it keys pairs → IsSortedIn keys pairs
  store_sorted world (Memory it) keys pairs over = over.sorted
  store_sorted world (Tables it) keys pairs over = over.sorted

  store_over_list : (world : E × ReadTables E C FP K F) (it : StoreWalk C M)
      (keys : KeyOrder) (pairs : List Pair) (position : Option ℕ)
      → At world it keys pairs position → Over world it keys pairs
  store_over_list world (Memory it) keys pairs position at = at.over
  store_over_list world (Tables it) keys pairs position at = at.over

  store_in_range : ((it : M) → IsPosition (iterator.pairs it) (iterator.position it))
      → (world : E × ReadTables E C FP K F) (it : StoreWalk C M) (keys : KeyOrder)
      (pairs : List Pair) (position : Option ℕ) → At world it keys pairs position
      → IsPosition pairs position
  store_in_range within world (Memory it) keys pairs position at =
      (alone_laws {W = E × ReadTables E C FP K F} within).in_range world it keys pairs position at
  store_in_range within world (Tables it) keys pairs position at =
      version_laws.in_range world it keys pairs position at

  store_at_position : ((it : M) → IsPosition (iterator.pairs it) (iterator.position it))
      → (world : E × ReadTables E C FP K F) (it : StoreWalk C M) (keys : KeyOrder)
      (pairs : List Pair) (position : Option ℕ) → At world it keys pairs position
      → store_here iterator it ≡ pair_at pairs position
  store_at_position within world (Memory it) keys pairs position at =
      (alone_laws {W = E × ReadTables E C FP K F} within).at_position world it keys pairs
      position at
  store_at_position within world (Tables it) keys pairs position at =
      version_laws.at_position world it keys pairs position at

  store_stays_over : (first second : E × ReadTables E C FP K F) → Keeps first second
      → (it : StoreWalk C M) (keys : KeyOrder) (pairs : List Pair)
      → Over first it keys pairs → Over second it keys pairs
  store_stays_over first second kept (Memory it) keys pairs over =
      stays_alone first second it keys pairs over
  store_stays_over first second kept (Tables it) keys pairs over =
      version_laws.stays_over first second kept it keys pairs over

  store_stays : (first second : E × ReadTables E C FP K F) → Keeps first second
      → (it : StoreWalk C M) (keys : KeyOrder) (pairs : List Pair) (position : Option ℕ)
      → At first it keys pairs position → At second it keys pairs position
  store_stays first second kept (Memory it) keys pairs position at = record {
    over = stays_alone first second it keys pairs at.over;
    position_is = at.position_is;
  }
  store_stays first second kept (Tables it) keys pairs position at =
      version_laws.stays first second kept it keys pairs position at

  store_excuses : (first second : E × ReadTables E C FP K F) → Keeps first second
      → (it : StoreWalk C M) (later : E × ReadTables E C FP K F) (status : Status)
      → Fails second it later status → Fails first it later status
  store_excuses first second kept (Memory it) later status fails = fails
  store_excuses first second kept (Tables it) later status fails =
      version_laws.excuses first second kept it later status fails

module _ {E C FP K F M : Type 0} {order : CmpGhosts (InternalKeyCmp C)} {env : EnvGhosts E F}
    {cmp : CmpGhosts C} {filters : FilterGhosts FP} {codings : K → Codings}
    {iterator : IteratorGhosts M} where
  -- those of a walk over memory, and those of a walk over tables
  pub store_laws : ((it : M) → IsPosition (iterator.pairs it) (iterator.position it))
      → WalkLaws (IsStoreOver order env cmp filters codings iterator)
      (IsStoreAt order env cmp filters codings iterator) (store_here iterator)
      (FailsInStore order env cmp filters codings iterator)
      (KeepsReading order env cmp filters codings)
  store_laws within = record {
    sorted = store_sorted order env cmp filters codings iterator;
    over_list = store_over_list order env cmp filters codings iterator;
    in_range = store_in_range order env cmp filters codings iterator within;
    at_position = store_at_position order env cmp filters codings iterator within;
    keeps_itself = reading_kept;
    keeps_on = reading_kept_on;
    stays_over = store_stays_over order env cmp filters codings iterator;
    stays = store_stays order env cmp filters codings iterator;
    excuses = store_excuses order env cmp filters codings iterator;
  }
