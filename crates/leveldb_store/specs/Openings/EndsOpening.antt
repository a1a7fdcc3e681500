-- What the end of an opening leaves of an open store: one compaction is done at most, obsolete
-- files are deleted, and damaged ones are set aside.
use Rattle.std.specs.Prelude.{◌≡◌, ◌≢◌, ◌≤◌, ◌<◌, ◌⊎◌, ℕ, List, Contains, Option, None, Result, IfSome, IsTrue, OnErr, OnOk}
use Rattle.leveldb_base.specs.declared.cmp.Cmp.{Ghosts as CmpGhosts}
use Rattle.leveldb_base.specs.declared.cmp.internal.InternalKeyCmp.{InternalKeyCmp}
use Rattle.leveldb_base.specs.declared.error.Status.{Status}
use Rattle.leveldb_base.specs.declared.types.FileType.{FileType}
use Rattle.leveldb_env.specs.Env.{IsEmptyFolder, in_folder}
use Rattle.leveldb_env.specs.WholeFiles.{IsMissingFile}
use Rattle.leveldb_env.specs.declared.env.Env.{Ghosts}
use Rattle.leveldb_env.specs.declared.filter.FilterPolicy.{Ghosts as FilterGhosts}
use Rattle.leveldb_version.specs.Tables.TableCache.{TableOptions}
use Rattle.leveldb_version.specs.declared.table_cache.TableCache.{TableCache}
use Rattle.leveldb_version_set.specs.Engines.Writing.{NumbersAreBelow}
use Rattle.leveldb_version_set.specs.Sets.VersionSetValue.{VersionSetValue}
use Rattle.leveldb_store.specs.Tables.BuildTable.{TableChoices}
use Rattle.leveldb_store.specs.Compactions.Compact.{CompactsTables}
use Rattle.leveldb_store.specs.Logs.Damage.{HasDamagedFile, IsDamagedPath, IsLeftAside}
use Rattle.leveldb_store.specs.Keeping.KeptBytes.{AreKept, HasNumberThere, NewTablesLoseNothing}
use Rattle.leveldb_store.specs.Keeping.LoggedEdits.{LogsByScore}
use Rattle.leveldb_store.specs.Keeping.OpenStore.{IsUnbroken, OpenStoreValue}
use Rattle.leveldb_store.specs.Keeping.SetAside.{SetsAside}
use Rattle.leveldb_store.specs.Writing.Room.{FailsFor}
use Rattle.leveldb_store.specs.Keeping.SoundCall.{BreaksForCause}

-- What looking for damage finds in the logs and manifests that are left aside, and which files are
-- kept from then on.
pub record LooksForDamage {E F : Type 0} (env : Ghosts E F) (set : VersionSetValue) (from : E)
    (kept_to : Option ℕ) (paths : List (List ℕ)) (result : Result (Unit {0}) Status) (to : E)
    : Type 0 where
  -- these are paths of damaged files
  pub found : IsTrue env.models_disk → (path : List ℕ) → Contains paths path
      → IsDamagedPath set (env.observed from).disk.files path
  -- Ok: of all of them
  pub each : OnOk result (IsTrue env.models_disk → (path : List ℕ)
      → IsDamagedPath set (env.observed from).disk.files path → Contains paths path)
  -- where one is damaged, each file that is there is kept; after an Err, where none has a number
  -- that comes next
  pub damaged : IsTrue env.models_disk → HasDamagedFile set (env.observed from).disk.files
      → OnErr result (NumbersAreBelow set.store (env.observed from).disk.files set.next_file)
      → AreKept set.store (env.observed from).disk.files kept_to
  -- and no number is kept that comes later: up to the greatest there, or below the next one
  pub bounded : IsTrue env.models_disk → IfSome kept_to (λ last. (last < set.next_file)
      ⊎ (last ≡ 0) ⊎ HasNumberThere set.store (env.observed from).disk.files last)
  -- Ok: files are kept only there
  pub undamaged : OnOk result (IsTrue env.models_disk → kept_to ≢ None
      → HasDamagedFile set (env.observed from).disk.files)
  -- Err: out of memory, the folder has no file, or the device failed; where no disk is modelled, a
  -- file may be missing that was listed
  pub cause : FailsFor (λ status. IsEmptyFolder env.models_disk set.store (env.observed from) status
      ⊎ ((IsTrue env.models_disk → ⊥) × (name : List ℕ)
      × IsMissingFile (in_folder set.store name) status))
      (env.failures from) (env.failures to) result

-- The compaction for which a level's score asks is done, and then files are deleted. Where it fails
-- and the store isn't broken, the opening is Ok.
pub record CompactsOpening {E F C FP D P : Type 0} (order : CmpGhosts (InternalKeyCmp C))
    (env : Ghosts E F) (by : TableOptions C FP) (old : OpenStoreValue C) (from : E)
    (tables : TableCache E C FP F) {keys : CmpGhosts D} {filters : FilterGhosts P}
    (choices : TableChoices keys filters) (result : Result (Unit {0}) Status)
    (new : OpenStoreValue C) (to : E) (now : TableCache E C FP F) : Type 0 where
  -- what the compaction returned, which is Ok where none is asked for
  pub compacted : Result (Unit {0}) Status
  -- What was kept of the store, which may keep files from now on: entries may go that are shadowed
  -- at the last number. And why the compaction failed.
  pub compacts : CompactsTables order env by (record old { kept_to = new.kept_to }) from
      tables choices old.set.last_sequence compacted new to now
  -- Ok: one edit was logged at most, and one that takes a file from the level whose score asks
  pub by_score : OnOk compacted (LogsByScore old.set new.set)
  -- Err: the live files are those that they were
  pub err : OnErr compacted (new.set.full ≡ old.set.full)
  -- the opening is Ok where the store isn't broken, and else what the compaction returned
  pub ok : OnOk result (IsUnbroken new)
  pub broken : OnErr result ((IsUnbroken new → ⊥) × (result ≡ compacted))
  pub breaks : BreaksForCause env old from result new to
  -- an Err has deleted no file, and whatever the files are none loses a byte
  pub kept : OnErr result (NewTablesLoseNothing env old.set.store from to old.set.next_file)
  -- what looking for damage returned
  pub looked : Result (Unit {0}) Status
  -- nor does a file where a log or a manifest is damaged that was left aside
  pub damaged : HasDamagedFile old.set (env.observed from).disk.files
      → OnErr looked (IsTrue env.models_disk → NumbersAreBelow old.set.store
      (env.observed from).disk.files old.set.next_file)
      → NewTablesLoseNothing env old.set.store from to old.set.next_file
  -- the paths that were found: where one was there, each file is kept from then on
  pub paths : List (List ℕ)
  pub looks : LooksForDamage env old.set from new.kept_to paths looked to
  -- a log or a manifest that was left aside is so still
  pub aside : old.set.log_number ≤ old.log.number → (kind : FileType) (number : ℕ)
      → IsLeftAside old.set kind number → IsLeftAside new.set kind number

-- The whole end: first that, and then the damaged files that were found are set aside. What fails
-- of this is no error.
pub record EndsOpening {E F C FP D P : Type 0} (order : CmpGhosts (InternalKeyCmp C))
    (env : Ghosts E F) (by : TableOptions C FP) (old : OpenStoreValue C) (from : E)
    (tables : TableCache E C FP F) {keys : CmpGhosts D} {filters : FilterGhosts P}
    (choices : TableChoices keys filters) (result : Result (Unit {0}) Status)
    (new : OpenStoreValue C) (to : E) (now : TableCache E C FP F) : Type 0 where
  -- the environment before files are set aside
  pub at : E
  pub first : CompactsOpening order env by old from tables choices result new at now
  pub aside : OnOk result ((moved : Result (Unit {0}) Status)
      × SetsAside env (Contains first.paths) at moved to)
  -- an Err has set none aside
  pub unmoved : OnErr result (to ≡ at)
