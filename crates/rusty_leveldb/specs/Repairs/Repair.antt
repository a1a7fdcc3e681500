-- A repair of the store under a name: what it makes of the files, which state the disk represents
-- then, and why it fails. It is no request of the machine, since the disk need represent no state.
use Rattle.std.specs.Prelude.{◌≡◌, ◌≢◌, ◌⊎◌, ℕ, false, List, [], ◌∷◌, None, Some, Result, IfErr, OnErr, OnOk, IsTrue}
use Rattle.std.specs.Str.{bytes_eq}
use Rattle.leveldb_base.specs.Error.{IsOutOfMemory}
use Rattle.leveldb_base.specs.History.{Entry, greatest}
use Rattle.leveldb_base.specs.declared.cmp.Cmp.{Ghosts as CmpGhosts}
use Rattle.leveldb_base.specs.declared.error.Status.{Status}
use Rattle.leveldb_base.specs.declared.error.StatusCode.TheVariants.{InvalidArgument, LockError, NotSupported}
use Rattle.leveldb_env.specs.Env.{BeforeOrAfter, Disk, Files, Run, created}
use Rattle.leveldb_env.specs.declared.env.Env.{Ghosts}
use Rattle.leveldb_env.specs.declared.filter.FilterPolicy.{Ghosts as FilterGhosts}
use Rattle.leveldb_files.specs.Stores.Contents.{made}
use Rattle.leveldb_files.specs.Stores.Format.{Agrees, Format, Meaning}
use Rattle.leveldb_version_set.specs.Repairs.Found.{AreFound, HasNoTableNorLog, IsAnyTable}
use Rattle.leveldb_files.specs.Stores.Paths.{current_path, lock_path}
use Rattle.leveldb_files.specs.Steps.StoreSteps.{AppendedAreBytes}
use Rattle.leveldb_store.specs.Tables.BuildTable.{TableChoices}
use Rattle.leveldb_store.specs.Writing.Room.{FailsFor, HasFailed}
use Rattle.leveldb_store.specs.Keeping.SoundCall.{BytesAreAppended}
use Rattle.leveldb_repair.specs.RepairStore.{HoldsOldOrAllFound, HoldsAllFound, IsPartlyRepaired, WhyNotEnded, WhyNotRepaired}
use Rattle.rusty_leveldb.specs.Engines.Engine.{IsStoreName}
use Rattle.rusty_leveldb.specs.Engines.Frame.{IsStorePath, Spares}
use Rattle.rusty_leveldb.specs.Machines.Machine.{risk_between}
use Rattle.rusty_leveldb.specs.Engines.Serves.{IsSpared, StandsFor}
use Rattle.rusty_leveldb.specs.Machines.State.{IsState, Opening, State, closed}
use Rattle.rusty_leveldb.specs.Openings.Unopened.{IsLockHeld, IsLockKept, MakesLockAlone}

-- ---- the machine's row

-- The state of a store that a repair left: the set of entries that was found is its history, all of
-- it durable, and the history goes on from there as after a crash.
abbrev pub repaired_state : Format → List Entry → State
repaired_state format found = record {
  history = found ∷ [];
  last = greatest found;
  durable = 1;
  held = [];
  given = [];
  pending = None;
  mode = closed;
  locked = false;
  store = made (Some format.order_name);
  format = format;
}

-- these are the entries that are found of the files of a folder, in the format's order
abbrev pub AreFoundIn : List ℕ → Format → Meaning → Files → List Entry → Type 0
AreFoundIn store format meaning files found =
    AreFound store (IsAnyTable format.order meaning) files found

module _ (store : List ℕ) (meaning : Meaning) (old repaired : State) where
  -- a crash now leaves what one of the old state leaves, or what one of the repaired state does,
  -- which is one then
  abbrev pub IsSparedOrRepaired : Files → Type 0
  IsSparedOrRepaired files = IsSpared store meaning old (risk_between old) files
      ⊎ (IsState repaired × IsSpared store meaning repaired (risk_between repaired) files)

  -- The disk represents the old state still, or the repaired one, each with the lock as it is.
  abbrev pub StaysOrIsRepaired : Disk → Type 0
  StaysOrIsRepaired disk =
      let locked = disk.locked (lock_path store) in
      StandsFor store meaning disk (record old { locked = locked })
      ⊎ StandsFor store meaning disk (record repaired { locked = locked })

-- each file that was there is there still, with the same bytes, but for `CURRENT`
abbrev pub LeavesOthers : List ℕ → Files → Files → Type 0
LeavesOthers store old now = (path : List ℕ) → old path ≢ None
    → bytes_eq (current_path store) path ≡ false → now path ≡ old path

-- The files at a moment of a repair of the old ones: as they were, but that the lock's may be made;
-- or in repair.
abbrev pub IsMomentOfLockedRepair : List ℕ → Format → Meaning → Files → Files → Type 0
IsMomentOfLockedRepair store format meaning old now =
    BeforeOrAfter (created (lock_path store)) old now
    ⊎ HoldsOldOrAllFound store format meaning old now

-- The same of its tables: the files are as they were, but that the lock's may be made; or each new
-- table is a part of one of found entries.
abbrev pub IsLockedOrPartlyRepaired : {C FP : Type 0} {order : CmpGhosts C}
    {filters : FilterGhosts FP} → List ℕ → TableChoices order filters → Meaning → Files → Files
    → Type 0
IsLockedOrPartlyRepaired store choices meaning old now =
    BeforeOrAfter (created (lock_path store)) old now
    ⊎ IsPartlyRepaired choices store meaning old now

-- ---- why it fails

module _ {E F : Type 0} (env : Ghosts E F) (store : List ℕ) (asked : Opening) (from : E) where
  -- Why nothing is repaired where the device didn't fail, beside out of memory: the name or an
  -- option doesn't fit, or the compressor of new blocks isn't set; the lock is held; or the files
  -- aren't repaired, for a cause of their own.
  abbrev pub RepairRefused : Status → Type 0
  RepairRefused e =
      ((e.code ≡ InvalidArgument) × (IsStoreName store × IsTrue asked.fits → ⊥))
      ⊎ ((e.code ≡ NotSupported) × (IsTrue asked.compresses → ⊥))
      ⊎ ((e.code ≡ LockError) × (IsTrue env.models_disk
      → IsLockHeld store (env.observed from).disk))
      ⊎ WhyNotRepaired env asked.format store from e

  -- all that was found is in a store, and nothing else
  abbrev pub IsAllRepaired : E → Type 0
  IsAllRepaired to = IsTrue env.models_disk → (meaning : Meaning) → Agrees asked.format meaning
      → HoldsAllFound store asked.format meaning (env.observed from).disk.files
      (env.observed to).disk.files

  -- `NotEnded` says why a repair that was begun isn't ended.
  module _ (NotEnded : Status → Type 0) where
    -- Why a repair fails where the device didn't: out of memory; or nothing is repaired, and then
    -- no file has changed at any moment but that the lock's may be made; or it isn't ended.
    abbrev pub RepairExcused : E → Status → Type 0
    RepairExcused to e = IsOutOfMemory e
        ⊎ (RepairRefused e × (IsTrue env.models_disk
        → MakesLockAlone store (env.observed from) (env.observed to)))
        ⊎ NotEnded e

    -- After a repair that fails the lock is as it was. Or it is held: the repair had failed, for one
    -- of these reasons or by the device, or all was repaired, and then freeing the lock failed.
    abbrev pub IsLockReturned : E → Status → Type 0
    IsLockReturned to e =
        ((env.observed to).disk.locked (lock_path store)
        ≡ (env.observed from).disk.locked (lock_path store))
        ⊎ IsLockKept env store (λ by_then. RepairExcused to e
        ⊎ HasFailed (env.failures from) by_then ⊎ IsAllRepaired to) from to

  -- ---- the call

  module _ {C FP : Type 0} {order : CmpGhosts C} {filters : FilterGhosts FP}
      (choices : TableChoices order filters) where
    -- A call that repairs the store under a name, as it is asked to by these options, whatever the
    -- disk represents. New tables are made by these choices.
    pub record Repairs (result : Result (Unit {0}) Status) (to : E) : Type 0 where
      -- Ok: the files are a store of exactly the entries that were found, each whole
      pub ok : OnOk result (IsAllRepaired to)
      -- so the disk represents the state of that set, if what was appended to files are bytes
      pub becomes : OnOk result (IsTrue env.models_disk → (meaning : Meaning)
          → Agrees asked.format meaning → AppendedAreBytes (env.observed from).disk.files
          → (found : List Entry)
          → AreFoundIn store asked.format meaning (env.observed from).disk.files found
          → StandsFor store meaning (env.observed to).disk (repaired_state asked.format found))
      -- Err: a state that the disk represented it represents still, or that of the set
      pub err : OnErr result (IsTrue env.models_disk → (meaning : Meaning)
          → Agrees asked.format meaning → (old : State)
          → StandsFor store meaning (env.observed from).disk old → (found : List Entry)
          → AreFoundIn store asked.format meaning (env.observed from).disk.files found
          → StaysOrIsRepaired store meaning old (repaired_state asked.format found)
          (env.observed to).disk)
      -- at each moment, Ok or Err, a crash leaves what it left of that state, or the set
      pub moments : IsTrue env.models_disk → (meaning : Meaning) → Agrees asked.format meaning
          → (old : State) → StandsFor store meaning (env.observed from).disk old
          → (found : List Entry)
          → AreFoundIn store asked.format meaning (env.observed from).disk.files found
          → Run (IsSparedOrRepaired store meaning old (repaired_state asked.format found))
          (env.observed from) (env.observed to)
      -- and of any disk: at each moment the files are as they were, or in repair
      pub in_repair : IsTrue env.models_disk → (meaning : Meaning) → Agrees asked.format meaning
          → Run (IsMomentOfLockedRepair store asked.format meaning (env.observed from).disk.files)
          (env.observed from) (env.observed to)
      -- its new tables are parts of such as have found entries alone
      pub parts : IsTrue env.models_disk → (meaning : Meaning) → Agrees choices.format meaning
          → Run (IsLockedOrPartlyRepaired store choices meaning (env.observed from).disk.files)
          (env.observed from) (env.observed to)
      -- nothing is deleted, at any moment, and no file that was there changes but `CURRENT`
      pub kept : IsTrue env.models_disk
          → Run (LeavesOthers store (env.observed from).disk.files) (env.observed from)
          (env.observed to)
      -- what isn't the store's stays as it is, other locks too
      pub others : IsTrue env.models_disk
          → Spares store (IsStorePath store) (env.observed from).disk (env.observed to).disk
      -- what is appended to files are bytes, if all that was appended before are
      pub bytes : BytesAreAppended env from to
      -- Ok: the lock was free, and it is
      pub freed : OnOk result (IsTrue env.models_disk
          → (IsLockHeld store (env.observed from).disk → ⊥)
          × (IsLockHeld store (env.observed to).disk → ⊥))
      -- Err: it is given back, too
      pub returned : IfErr result (λ e. IsTrue env.models_disk
          → IsLockReturned (WhyNotEnded choices env store from) to e)
      -- under a name that is no store's nothing is repaired, and no call is made; nor with a size
      -- or a count past its limits, or without the compressor of new blocks
      pub misnamed : (IsStoreName store × IsTrue asked.fits × IsTrue asked.compresses → ⊥)
          → (to ≡ from) × OnOk result ⊥
      -- nor where neither a table nor a log is there
      pub bare : IsTrue env.models_disk → HasNoTableNorLog store (env.observed from).disk.files
          → OnOk result ⊥
      -- why it fails
      pub cause : FailsFor (RepairExcused (WhyNotEnded choices env store from) to)
          (env.failures from) (env.failures to) result
