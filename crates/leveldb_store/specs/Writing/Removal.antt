-- What the last removal of obsolete files in a call returned, and what it says of those that are
-- left.
use Rattle.std.specs.Prelude.{◌≡◌, ◌≤◌, ◌⊎◌, ℕ, List, Option, None, Some, Result, Ok, Err, OnErr, OnOk, IsTrue}
use Rattle.leveldb_base.specs.declared.error.Status.{Status}
use Rattle.leveldb_env.specs.Env.{Files}
use Rattle.leveldb_env.specs.declared.env.Env.{Ghosts}
use Rattle.leveldb_store.specs.Keeping.OpenStore.{OpenStoreValue}
use Rattle.leveldb_store.specs.Writing.Room.{HasFailed}
use Rattle.leveldb_store.specs.Writing.Switch.{IsMemoryOut, IsObsoletePath, RemovesObsolete}

-- the same result without its value, which says what the last removal of the call returned
abbrev pub but_removal : {T : Type 0} → Result T Status → Result (Unit {0}) Status
but_removal (Ok removal) = Ok tt
but_removal (Err status) = Err status

-- no file of the store's folder is obsolete but those that are kept
abbrev pub IsTidy : {C : Type 0} → OpenStoreValue C → Files → Type 0
IsTidy value files =
    (path : List ℕ) → IsObsoletePath value.set value.kept_to path → files path ≡ None

module _ {E F C : Type 0} (env : Ghosts E F) (from : E) where
  -- Since `from`, the last that was done is a removal of the files of this store that are obsolete
  -- and aren't kept.
  pub record RemovesAtLast (value : OpenStoreValue C) (removal : Result (Unit {0}) Status) (to : E)
      : Type 0 where
    pub at : E
    pub later : env.failures from ≤ env.failures at
    pub removes : RemovesObsolete env value.set value.kept_to at removal to

  -- the last that was done is a removal, which returned this; or nothing was done
  abbrev pub EndsByRemoval : OpenStoreValue C → Option (Result (Unit {0}) Status)
      → OpenStoreValue C → E → Type 0
  EndsByRemoval old None new to = (new ≡ old) × (to ≡ from)
  EndsByRemoval old (Some removal) new to = RemovesAtLast new removal to

  -- What a removal that was done since `from` says of the obsolete files that are left.
  pub record LeavesObsolete (value : OpenStoreValue C) (removal : Result (Unit {0}) Status)
      (to : E) : Type 0 where
    -- Ok: none is left but those that are kept
    pub ok : OnOk removal (IsTrue env.models_disk → IsTidy value (env.observed to).disk.files)
    -- Err: neither is one, unless memory was out or a call of the device has failed since
    pub err : OnErr removal (IsMemoryOut removal
        ⊎ HasFailed (env.failures from) (env.failures to)
        ⊎ (IsTrue env.models_disk → IsTidy value (env.observed to).disk.files))
