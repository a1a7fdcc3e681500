-- What keeps a store from being opened, why an opening fails, and what it leaves then.
use Rattle.std.specs.Prelude.{◌≡◌, ◌≤◌, ◌+◌, ◌-◌, ◌^◌, ◌⊎◌, ℕ, List, IsTrue}
use Rattle.leveldb_base.specs.Error.{IsOutOfMemory}
use Rattle.leveldb_base.specs.declared.cmp.Cmp.{Ghosts as CmpGhosts}
use Rattle.leveldb_base.specs.declared.error.Status.{Status}
use Rattle.leveldb_base.specs.declared.error.StatusCode.TheVariants.{Corruption, InvalidArgument, LockError, NotSupported}
use Rattle.leveldb_env.specs.declared.env.Env.{Ghosts}
use Rattle.leveldb_env.specs.declared.filter.FilterPolicy.{Ghosts as FilterGhosts}
use Rattle.leveldb_env.specs.Env.{BeforeOrAfter, Disk, Observed, Run, created}
use Rattle.leveldb_files.specs.Stores.Paths.{lock_path}
use Rattle.leveldb_table.specs.TableBlock.{KeepsDisk}
use Rattle.leveldb_store.specs.Keeping.SoundCall.{TimeGoesOn}
use Rattle.leveldb_store.specs.Writing.Room.{HasFailed}
use Rattle.leveldb_store.specs.Tables.BuildTable.{TableChoices}
use Rattle.leveldb_store.specs.Logs.FoundLogs.{HasLogNotKept}
use Rattle.leveldb_files.specs.Stores.Format.{Format, HasCompressorError}
use Rattle.leveldb_store.specs.Openings.OpensStore.{HasHugeManifest, HasOtherComparator, HasSharedUserKey, IsDamaged, IsForbidden, IsForbiddenAs, LacksCurrent, LacksNumbers, LacksUsableEdits}
use Rattle.rusty_leveldb.specs.Machines.State.{Opening}
use Rattle.rusty_leveldb.specs.Engines.Engine.{IsStoreName}

-- ---- disks on which a store isn't opened

-- the store's lock is held
abbrev pub IsLockHeld : List ℕ → Disk → Type 0
IsLockHeld store disk = IsTrue (disk.locked (lock_path store))

-- a disk on which an opening looks no further: its lock is held, a store is there that must not be,
-- or none is and none is to be made
abbrev pub IsBarred : List ℕ → Opening → Disk → Type 0
IsBarred store asked disk = IsLockHeld store disk
    ⊎ IsForbidden store asked.create_if_missing asked.error_if_exists disk.files

-- A disk on which this store isn't opened: tables or logs without `CURRENT` aren't, nor a manifest
-- whose edits can't be used. A damaged table is found by the read that needs it.
abbrev pub NeverOpens : List ℕ → Opening → Disk → Type 0
NeverOpens store asked disk = IsBarred store asked disk
    ⊎ LacksCurrent store disk.files ⊎ LacksUsableEdits store asked.format disk.files

-- at each moment all files are as they were, but that the lock's may be made
abbrev pub MakesLockAlone : List ℕ → Observed → Observed → Type 0
MakesLockAlone store from to =
    Run (BeforeOrAfter (created (lock_path store)) from.disk.files) from to

-- ---- why it fails, and what it leaves

module _ {E F : Type 0} (env : Ghosts E F) where
  -- What a call that frees a lock leaves where it fails: no file and no lock has changed, and one
  -- failure more is counted, unless the count is at its greatest.
  pub record FailsToUnlock (from to : E) : Type 0 where
    pub still : KeepsDisk env from to
    pub counted : (env.failures to ≡ env.failures from + 1)
        ⊎ ((env.failures from ≡ 2 ^ 64 - 1) × (env.failures to ≡ env.failures from))

  -- The lock is held after a call. What the call was for had ended before (`Ended`, by the count of
  -- failures then), and then freeing the lock failed.
  pub record IsLockKept (store : List ℕ) (Ended : ℕ → Type 0) (from to : E) : Type 0 where
    pub held : IsLockHeld store (env.observed to).disk
    pub mid : E
    pub later : env.failures from ≤ env.failures mid
    pub time : TimeGoesOn env from mid
    pub ended : Ended (env.failures mid)
    pub unlock : FailsToUnlock mid to

-- why a log's batches aren't kept in memory and in tables, where only the format is known
abbrev pub IsNotKeptUnder : Format → Status → Type 0
IsNotKeptUnder format e =
    IsOutOfMemory e ⊎ (e.code ≡ NotSupported) ⊎ HasCompressorError format e.code

-- `NotKept` says why a log's batches aren't kept in memory and in tables
module _ {E F : Type 0} (env : Ghosts E F) (store : List ℕ) (asked : Opening) (from : E)
    (NotKept : Status → Type 0) where
  -- Why an opening may fail where the device didn't: out of memory, or the name or an option
  -- doesn't fit; the lock is held, or the store may not be opened so; it is damaged; the compressor
  -- isn't set; the files aren't supported, since tables share a user key, or a manifest or a number
  -- is too great; or a log's batches aren't kept in memory and in tables.
  abbrev pub OpenExcusedOr : Status → Type 0
  OpenExcusedOr e =
      let disk = (env.observed from).disk in
      let where_modelled : Type 0 → Type 0 = λ fact. IsTrue env.models_disk → fact in
      IsOutOfMemory e
      ⊎ ((e.code ≡ InvalidArgument) × (IsStoreName store × IsTrue asked.fits → ⊥))
      ⊎ ((e.code ≡ LockError) × where_modelled (IsLockHeld store disk))
      ⊎ IsForbiddenAs env.models_disk store asked.create_if_missing asked.error_if_exists
      disk.files e
      ⊎ ((e.code ≡ InvalidArgument)
      × where_modelled (HasOtherComparator store asked.format disk.files))
      ⊎ ((e.code ≡ Corruption) × where_modelled (IsDamaged store asked.format disk.files))
      ⊎ ((e.code ≡ NotSupported) × (IsTrue asked.compresses → ⊥))
      ⊎ ((e.code ≡ NotSupported)
      × where_modelled (HasSharedUserKey store disk.files asked.format.order
      ⊎ HasHugeManifest store disk.files asked.format.order_name
      ⊎ LacksNumbers store disk.files))
      ⊎ NotKept e

  -- After an opening that fails the lock is as it was. Or it is held: the opening had failed, for one
  -- of these reasons or by the device, and then freeing the lock failed, too.
  abbrev pub IsLockGivenBack : E → Status → Type 0
  IsLockGivenBack to e =
      ((env.observed to).disk.locked (lock_path store)
      ≡ (env.observed from).disk.locked (lock_path store))
      ⊎ IsLockKept env store (λ by_then. OpenExcusedOr e ⊎ HasFailed (env.failures from) by_then)
      from to

-- the same with the batches of a log that is found, and the choices with which tables are built
abbrev pub OpenExcused : {E F D P : Type 0} (env : Ghosts E F) (store : List ℕ)
    {keys : CmpGhosts D} {key_filters : FilterGhosts P} → TableChoices keys key_filters → Opening
    → E → Status → Type 0
OpenExcused env store choices asked from = OpenExcusedOr env store asked from
    (HasLogNotKept choices env.models_disk store (env.observed from).disk.files)
