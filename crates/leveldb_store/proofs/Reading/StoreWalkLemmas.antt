-- A move of a child of a store's merge is that of the walk in it, over memory or over tables.
use Rattle.std.specs.Prelude.{IfErr, OnErr, OnOk}
use Rattle.std.proofs.Common.{◌≡◌, ℕ, List, Option, Result, Ok, Err, sym, subst}
use Rattle.leveldb_base.specs.Types.{Pair}
use Rattle.leveldb_base.specs.declared.cmp.Cmp.{Ghosts as CmpGhosts}
use Rattle.leveldb_base.specs.declared.cmp.internal.InternalKeyCmp.{InternalKeyCmp}
use Rattle.leveldb_base.specs.declared.error.Status.{Status}
use Rattle.leveldb_base.specs.declared.types.LdbIterator.{Ghosts as IteratorGhosts}
use Rattle.leveldb_env.specs.Compressor.{Codings}
use Rattle.leveldb_env.specs.declared.env.Env.{Ghosts as EnvGhosts}
use Rattle.leveldb_env.specs.declared.filter.FilterPolicy.{Ghosts as FilterGhosts}
use Rattle.leveldb_iter.specs.InMemory.{IsAloneOver, IsAloneAt, FailsAlone, alone_here}
use Rattle.leveldb_iter.specs.Walk.{KeyOrder, MovesWalk, Resets, Way}
use Rattle.leveldb_iter.specs.declared.in_memory.InMemory.{InMemory}
use Rattle.leveldb_version.specs.Walks.VersionIter.{FailsInTables, IsAtInTables, IsOverTables, KeepsReading, version_here}
use Rattle.leveldb_version.specs.Walks.VersionIterLaws.{reading_kept}
use Rattle.leveldb_version.specs.declared.table_cache.moves.ReadTables.{ReadTables}
use Rattle.leveldb_version.specs.declared.version_iter.VersionIter.{VersionIter}
use Rattle.leveldb_store.specs.Reading.StoreWalk.{FailsInStore, IsStoreAt, IsStoreOver, store_here}
use Rattle.leveldb_store.specs.declared.store_walk.StoreWalk.{StoreWalk}
use Rattle.leveldb_store.specs.declared.store_walk.StoreWalk.TheVariants.{Memory, Tables}

module _ {E C FP K F M : Type 0} (order : CmpGhosts (InternalKeyCmp C)) (env : EnvGhosts E F) (cmp : CmpGhosts C) (filters : FilterGhosts FP) (codings : K → Codings) (iterator : IteratorGhosts M) where
  -- a move of a store's child
  abbrev Moves : {R : Type 0} → (E × ReadTables E C FP K F → StoreWalk C M → KeyOrder → List Pair → Option ℕ → Type 0) → Way → E × ReadTables E C FP K F → StoreWalk C M → Result R Status → E × ReadTables E C FP K F → StoreWalk C M → Type 0
  Moves From to old_world old result new_world new =
      MovesWalk (IsStoreOver order env cmp filters codings iterator) (IsStoreAt order env cmp filters codings iterator) (store_here iterator) (FailsInStore order env cmp filters codings iterator) (KeepsReading order env cmp filters codings) From to old_world old result new_world new

  -- of a walk over memory
  pub memory_moves : {R : Type 0} (From : E × ReadTables E C FP K F → StoreWalk C M → KeyOrder → List Pair → Option ℕ → Type 0) (AloneFrom : E × ReadTables E C FP K F → InMemory M → KeyOrder → List Pair → Option ℕ → Type 0) (to : Way) (world : E × ReadTables E C FP K F) (old : InMemory M) (result : Result R Status) (later : E × ReadTables E C FP K F) (new : InMemory M)
      → ((keys : KeyOrder) (pairs : List Pair) (position : Option ℕ) → From world (Memory old) keys pairs position → AloneFrom world old keys pairs position)
      → MovesWalk (IsAloneOver iterator) (IsAloneAt iterator) (alone_here iterator) (FailsAlone iterator) (λ first second. second ≡ first) AloneFrom to world old result later new
      → (it : StoreWalk C M) → it ≡ Memory old → Moves From to world it result later (Memory new)
  memory_moves From AloneFrom to world old result later new from moves it is = subst (λ (walk : StoreWalk C M). Moves From to world walk result later (Memory new)) (sym is) (record {
    ok = λ keys pairs position at. moves.ok keys pairs position (from keys pairs position at);
    same = moves.same;
    err = moves.err;
    none = moves.none;
    kept = subst (λ (w : E × ReadTables E C FP K F). KeepsReading order env cmp filters codings world w) (sym moves.kept) (reading_kept world);
    cause = moves.cause;
    excuses = moves.excuses;
  })

  -- of a walk over tables
  pub tables_moves : {R : Type 0} (From : E × ReadTables E C FP K F → StoreWalk C M → KeyOrder → List Pair → Option ℕ → Type 0) (InFrom : E × ReadTables E C FP K F → VersionIter C → KeyOrder → List Pair → Option ℕ → Type 0) (to : Way) (world : E × ReadTables E C FP K F) (old : VersionIter C) (result : Result R Status) (later : E × ReadTables E C FP K F) (new : VersionIter C)
      → ((keys : KeyOrder) (pairs : List Pair) (position : Option ℕ) → From world (Tables old) keys pairs position → InFrom world old keys pairs position)
      → MovesWalk (IsOverTables order env cmp filters codings) (IsAtInTables order env cmp filters codings) version_here (FailsInTables order env cmp filters codings) (KeepsReading order env cmp filters codings) InFrom to world old result later new
      → (it : StoreWalk C M) → it ≡ Tables old → Moves From to world it result later (Tables new)
  tables_moves From InFrom to world old result later new from moves it is = subst (λ (walk : StoreWalk C M). Moves From to world walk result later (Tables new)) (sym is) (record {
    ok = λ keys pairs position at. moves.ok keys pairs position (from keys pairs position at);
    same = moves.same;
    err = moves.err;
    none = moves.none;
    kept = moves.kept;
    cause = moves.cause;
    excuses = moves.excuses;
  })

  -- a walk over tables that is moved to no position
  pub tables_resets : (old new : VersionIter C)
      → Resets {W = E × ReadTables E C FP K F} (IsOverTables order env cmp filters codings) (IsAtInTables order env cmp filters codings) version_here (FailsInTables order env cmp filters codings) (KeepsReading order env cmp filters codings) old new
      → (it : StoreWalk C M) → it ≡ Tables old
      → Resets {W = E × ReadTables E C FP K F} (IsStoreOver order env cmp filters codings iterator) (IsStoreAt order env cmp filters codings iterator) (store_here iterator) (FailsInStore order env cmp filters codings iterator) (KeepsReading order env cmp filters codings) it (Tables new)
  tables_resets old new resets it is =
      subst (λ (walk : StoreWalk C M). Resets {W = E × ReadTables E C FP K F} (IsStoreOver order env cmp filters codings iterator) (IsStoreAt order env cmp filters codings iterator) (store_here iterator) (FailsInStore order env cmp filters codings iterator) (KeepsReading order env cmp filters codings) walk (Tables new)) (sym is)
      (record { at_none = resets.at_none; none = resets.none; excuses = resets.excuses })
