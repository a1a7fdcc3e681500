-- What a call keeps of an open store that may drop entries, as one that compacts: what the store
-- showed it shows from the smallest held number on, which is the caller's.
use Rattle.std.specs.Prelude.{◌≤◌, ◌++◌, ℕ, Bool, List, Contains, IsTrue}
use Rattle.std.specs.declared.cmp.Ordering.{Ordering}
use Rattle.leveldb_base.specs.History.{Entry, History}
use Rattle.leveldb_env.specs.Env.{Files, Observed, Run}
use Rattle.leveldb_files.specs.Stores.Contents.{Store}
use Rattle.leveldb_files.specs.Stores.Format.{IsTableOf, Meaning}
use Rattle.leveldb_files.specs.Levels.Levels.{LiveTable, table_entries}
use Rattle.leveldb_version_set.specs.Compactions.ShownFrom.{KeepsFrom}
use Rattle.leveldb_files.specs.Steps.StoreSteps.{KeepsHistory}
use Rattle.leveldb_store.specs.Keeping.OpenStore.{IsUnbroken, OpenStoreValue}
use Rattle.leveldb_store.specs.Reading.Read.{in_memory}
use Rattle.leveldb_store.specs.Keeping.Written.{HasLiveTables, IsWritten, KeepsStore, KeepsWritten, HasView}

-- `cmp` is the order of user keys, and `meaning` what names and ids in the files mean.
module _ {C : Type 0} (cmp : List ℕ → List ℕ → Ordering) (meaning : Meaning) where
  -- What such a call keeps that adds no batch, of a store that was written before it.
  pub record KeepsStoreFrom (smallest : ℕ) (allowed : Store → Type 0) (old : OpenStoreValue C)
      (from : Observed) (new : OpenStoreValue C) (to : Observed) : Type 0 where
    -- whatever history the files held, they hold it now and at each moment on the way
    pub moments : (bound : ℕ) → old.set.last_sequence ≤ bound
        → Run (KeepsHistory old.set.store cmp (IsTableOf cmp meaning) allowed bound
        from.disk.files) from to
    -- the store is written on, unless the call broke it
    pub written : IsUnbroken new → IsWritten cmp meaning new to.disk.files
    -- what it showed it shows, from the smallest held number on
    pub shows : (history : History) → KeepsFrom smallest history
        (HasView cmp meaning old from.disk.files history)
        (HasView cmp meaning new to.disk.files history)

  -- the same, if the store was written before the call, whichever stores may be there: those that
  -- pass a test
  abbrev pub KeepsWrittenFrom : ℕ → OpenStoreValue C → Observed → OpenStoreValue C → Observed
      → Type 0
  KeepsWrittenFrom smallest old from new to = (allowed : Store → Bool)
      → IsWritten cmp meaning old from.disk.files
      → KeepsStoreFrom smallest (λ store. IsTrue (allowed store)) old from new to

  -- The store has live tables after a call, and no entry is new that is in memory or in one of
  -- them: it was in memory or in a live table before.
  abbrev pub AddsNoEntry : OpenStoreValue C → Files → OpenStoreValue C → Files → Type 0
  AddsNoEntry old before new after = (live : List LiveTable)
      → HasLiveTables cmp meaning old before live → (now : List LiveTable)
      × HasLiveTables cmp meaning new after now
      × ((entry : Entry) → Contains (in_memory new ++ table_entries now) entry
      → Contains (in_memory old ++ table_entries live) entry)
