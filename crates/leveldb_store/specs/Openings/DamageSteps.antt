-- The steps of looking for damage in the logs and manifests that an opening left aside.
use Rattle.std.specs.Prelude.{◌≡◌, ◌⊎◌, ◌↔◌, ℕ, List, Contains, None, Option, Result, IfOk, IsTrue}
use Rattle.leveldb_base.specs.Error.{IsOutOfMemory}
use Rattle.leveldb_base.specs.declared.error.Status.{Status}
use Rattle.leveldb_env.specs.Env.{in_folder}
use Rattle.leveldb_env.specs.WholeFiles.{IsMissingFile}
use Rattle.leveldb_env.specs.declared.env.Env.{Ghosts}
use Rattle.leveldb_version_set.specs.Sets.VersionSetValue.{VersionSetValue}
use Rattle.leveldb_store.specs.Logs.Damage.{IsDamagedFile, IsPathIfDamaged}
use Rattle.leveldb_store.specs.Writing.Room.{FailsFor}

module _ {E F : Type 0} (env : Ghosts E F) (set : VersionSetValue) (from : E) where
  -- out of memory, or there is no file of this name
  abbrev pub IsNameLost : List ℕ → Status → Type 0
  IsNameLost name status = IsOutOfMemory status
      ⊎ (IsMissingFile (in_folder set.store name) status × (IsTrue env.models_disk
      → (env.observed from).disk.files (in_folder set.store name) ≡ None))

  -- What looking at the file of a name returns: its path, if it is damaged. An Err says that memory
  -- was out, the file isn't there, or the device failed.
  pub record LooksAtName {X : Type 0} (name : List ℕ) (path_of : X → Option (List ℕ))
      (result : Result X Status) (to : E) : Type 0 where
    pub damaged : IfOk result (λ found. IsTrue env.models_disk
        → IsPathIfDamaged set (env.observed from).disk.files name (path_of found))
    pub cause : FailsFor (IsNameLost name) (env.failures from) (env.failures to) result

  -- The same for the files of these names: the paths of those that are damaged.
  pub record LooksAtNames {X : Type 0} (names : List (List ℕ)) (paths_of : X → List (List ℕ))
      (result : Result X Status) (to : E) : Type 0 where
    pub damaged : IfOk result (λ found. IsTrue env.models_disk → (path : List ℕ)
        → Contains (paths_of found) path ↔ ((name : List ℕ) × Contains names name
        × IsDamagedFile set (env.observed from).disk.files name
        × (path ≡ in_folder set.store name)))
    pub cause : FailsFor (λ status. (name : List ℕ) × Contains names name × IsNameLost name status)
        (env.failures from) (env.failures to) result
