-- What the calls leave of an open store that do one compaction, if there is one to do, and delete
-- obsolete files after it.
use Rattle.std.specs.Prelude.{◌≡◌, ℕ, List, Option, None, Result, Ok, IfSome, IsTrue, OnErr, OnOk}
use Rattle.std.specs.declared.cmp.Ordering.{Ordering}
use Rattle.leveldb_base.specs.declared.error.Status.{Status}
use Rattle.leveldb_env.specs.declared.env.Env.{Ghosts}
use Rattle.leveldb_version_set.specs.Compactions.Picking.{CompactionValue}
use Rattle.leveldb_version.specs.declared.table_cache.TableCache.{TableCache}
use Rattle.leveldb_store.specs.Compactions.Compact.{LogsCompaction}
use Rattle.leveldb_store.specs.Keeping.KeptBytes.{AreKept, NewTablesLoseNothing}
use Rattle.leveldb_store.specs.Keeping.KeptEntries.{CompactsOnceAtMost}
use Rattle.leveldb_store.specs.Keeping.OpenStore.{OpenStoreValue}
use Rattle.leveldb_store.specs.Keeping.SoundCall.{BreaksForCause}

-- What the compaction that was picked leaves, if one was.
pub record CompactsPicked {E F C FP : Type 0} (cmp : List ℕ → List ℕ → Ordering)
    (picked : Option (CompactionValue C)) (old : OpenStoreValue C) (from : E)
    (tables : TableCache E C FP F) (result : Result (Unit {0}) Status) (new : OpenStoreValue C)
    (to : E) (now : TableCache E C FP F) : Type 0 where
  -- Ok: its edit was logged
  pub logged : OnOk result (IfSome picked (λ it. LogsCompaction cmp it old new))
  -- where none was picked, nothing is done
  pub none : picked ≡ None → (result ≡ Ok tt) × (new ≡ old) × (to ≡ from) × (now ≡ tables)
  -- Err: the live files are those that they were, and the version is
  pub err : OnErr result (new.set.full ≡ old.set.full)
  pub version : OnErr result (new.current ≡ old.current)

-- Whatever the files are, one compaction at most loses no table but those that it took. A call that
-- fails loses no byte, and breaks the store only for a cause.
pub record CompactsWithoutLoss {E F C : Type 0} (env : Ghosts E F)
    (cmp : List ℕ → List ℕ → Ordering) (old : OpenStoreValue C) (from : E)
    (result : Result (Unit {0}) Status) (new : OpenStoreValue C) (to : E) : Type 0 where
  pub once : CompactsOnceAtMost cmp env.models_disk old (env.observed from) new (env.observed to)
  -- where no table has the numbers that come next
  pub kept : OnErr result (NewTablesLoseNothing env old.set.store from to old.set.next_file)
  -- nor does an Ok lose a byte of a store that keeps each file that is there
  pub keeps : (IsTrue env.models_disk
      → AreKept old.set.store (env.observed from).disk.files old.kept_to)
      → NewTablesLoseNothing env old.set.store from to old.set.next_file
  -- the manifest was lost, or the device failed
  pub breaks : BreaksForCause env old from result new to
