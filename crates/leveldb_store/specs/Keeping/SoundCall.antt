-- What each call on an open store leaves, whatever history the store has: of time, of the bytes in
-- files, and of whether the store may be written to.
use Rattle.std.specs.Prelude.{◌≤◌, ◌⊎◌, List, ℕ, Result, IfErr, IsTrue}
use Rattle.std.specs.declared.cmp.Ordering.{Ordering}
use Rattle.leveldb_base.specs.Error.{IsOutOfMemory}
use Rattle.leveldb_base.specs.declared.error.Status.{Status}
use Rattle.leveldb_env.specs.declared.env.Env.{Ghosts}
use Rattle.leveldb_files.specs.Steps.StoreSteps.{AppendedAreBytes}
use Rattle.leveldb_files.specs.Stores.Format.{Meaning}
use Rattle.leveldb_store.specs.Keeping.OpenStore.{IsUnbroken, OpenStoreValue}
use Rattle.leveldb_store.specs.Writing.Room.{HasFailed}
use Rattle.leveldb_store.specs.Writing.Switch.{IsManifestLost}
use Rattle.leveldb_store.specs.Keeping.Written.{IsWritten}

module _ {E F : Type 0} (env : Ghosts E F) (from to : E) where
  -- where the disk is observed, its moment doesn't fall
  abbrev pub TimeGoesOn : Type 0
  TimeGoesOn = IsTrue env.models_disk → (env.observed from).moment ≤ (env.observed to).moment

  -- what is appended to files are bytes, if all that was appended before are
  abbrev pub BytesAreAppended : Type 0
  BytesAreAppended = IsTrue env.models_disk → AppendedAreBytes (env.observed from).disk.files
      → AppendedAreBytes (env.observed to).disk.files

-- whatever names and ids mean
abbrev pub any_meaning : Meaning → Type 0
any_meaning meaning = Unit {0}

-- What a call on an open store leaves over any environment. `Means` says what names and ids in the
-- files may mean.
pub record IsSoundCall {E F C T : Type 0} (env : Ghosts E F) (cmp : List ℕ → List ℕ → Ordering)
    (Means : Meaning → Type 0) (old : OpenStoreValue C) (from : E) (result : Result T Status)
    (new : OpenStoreValue C) (to : E) : Type 0 where
  pub time : TimeGoesOn env from to
  pub bytes : BytesAreAppended env from to
  -- a call that fails breaks a store that is written only if memory was out or the device failed
  pub breaks : IsTrue env.models_disk → (meaning : Meaning) → Means meaning
      → IsWritten cmp meaning old (env.observed from).disk.files
      → IfErr result (λ status. IsUnbroken new ⊎ IsOutOfMemory status
      ⊎ HasFailed (env.failures from) (env.failures to))

-- Whatever the files are, a call that fails breaks a store that isn't broken only if the manifest
-- is lost, memory was out as an edit was appended to it, or the device failed.
abbrev pub BreaksForCause : {E F C T : Type 0} → Ghosts E F → OpenStoreValue C → E
    → Result T Status → OpenStoreValue C → E → Type 0
BreaksForCause env old from result new to = IsUnbroken old
    → IfErr result (λ status. IsUnbroken new ⊎ IsManifestLost env old from to status
    ⊎ HasFailed (env.failures from) (env.failures to))
