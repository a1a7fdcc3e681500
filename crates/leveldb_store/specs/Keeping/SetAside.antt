-- Logs and manifests that are set aside: each gets a name that is none of a store's, so that no
-- opening reads it.
use Rattle.std.specs.Prelude.{◌≡◌, ◌⊎◌, ◌≤◌, ◌+◌, ◌-◌, ◌^◌, ◌++◌, ℕ, Bool, List, [], ◌∷◌, Contains, None, Result, IsSome, IsTrue, OnOk, codes, length}
use Rattle.leveldb_base.specs.Error.{IsOutOfMemory}
use Rattle.leveldb_base.specs.declared.error.Status.{Status}
use Rattle.leveldb_base.specs.declared.error.StatusCode.TheVariants.{AlreadyExists, NotFound}
use Rattle.leveldb_env.specs.Env.{Files, Run, SameLocks, renamed}
use Rattle.leveldb_env.specs.declared.env.Env.{Ghosts}
use Rattle.leveldb_files.specs.Stores.Paths.{IsJournal}
use Rattle.leveldb_store.specs.Writing.Room.{FailsFor}
use Rattle.leveldb_store.specs.Writing.Switch.{IsMemoryOut}

-- ---- files

-- the path of a file once it is set aside
abbrev pub aside_path : List ℕ → List ℕ
aside_path path = path ++ codes ".damaged"

-- a path at which a log or a manifest of this store is set aside
abbrev pub IsAsidePath : List ℕ → List ℕ → Type 0
IsAsidePath store path = (own : List ℕ) × IsJournal store own × (path ≡ aside_path own)

-- the files with those of these paths set aside, the last one first
abbrev pub with_aside : List (List ℕ) → Files → Files
with_aside [] files = files
with_aside (path ∷ paths) files = renamed path (aside_path path) (with_aside paths files)

-- Some of the files that are one of these were set aside, where no file was, and nothing else has
-- changed.
pub record AreSetAside (IsOne : List ℕ → Type 0) (before after : Files) : Type 0 where
  pub paths : List (List ℕ)
  pub each : (path : List ℕ) → Contains paths path → IsOne path
  pub free : (path : List ℕ) → Contains paths path → before (aside_path path) ≡ None
  pub files : after ≡ with_aside paths before

-- ---- calls

-- why the file of a path isn't set aside: out of memory; or of these files, if the disk is modelled,
-- one has the other name, or none has its own
abbrev pub IsNotSetAside : Bool → List ℕ → Files → Status → Type 0
IsNotSetAside models_disk path files status = IsOutOfMemory status
    ⊎ ((status.code ≡ AlreadyExists) × (IsTrue models_disk → IsSome (files (aside_path path))))
    ⊎ ((status.code ≡ NotFound) × (IsTrue models_disk → files path ≡ None))

-- The file of a path was set aside, or the call failed.
pub record SetsOneAside {E F : Type 0} (env : Ghosts E F) (path : List ℕ) (from : E)
    (result : Result (Unit {0}) Status) (to : E) : Type 0 where
  -- now and at each moment on the way it is under the one name or the other
  pub run : IsTrue env.models_disk
      → Run (AreSetAside (λ at. at ≡ path) (env.observed from).disk.files) (env.observed from)
      (env.observed to)
  pub there : OnOk result (IsTrue env.models_disk → IsSome ((env.observed from).disk.files path))
  pub files : OnOk result (IsTrue env.models_disk → (env.observed to).disk.files
      ≡ renamed path (aside_path path) (env.observed from).disk.files)
  pub locks : SameLocks env.models_disk (env.observed from) (env.observed to)
  pub cause : FailsFor (IsNotSetAside env.models_disk path (env.observed to).disk.files)
      (env.failures from) (env.failures to) result

-- Of the files that are one of these, those that have their own name still couldn't be set aside: a
-- file has the other name, or a call failed for them. For each of these a failure was counted,
-- unless the count is at its greatest.
pub record LeavesUnmoved {E F : Type 0} (env : Ghosts E F) (IsOne : List ℕ → Type 0) (from to : E)
    : Type 0 where
  pub failed : List (List ℕ)
  pub left : (path : List ℕ) → IsOne path → IsSome ((env.observed to).disk.files path)
      → IsSome ((env.observed to).disk.files (aside_path path)) ⊎ Contains failed path
  pub counted : (env.failures from + length failed ≤ env.failures to)
      ⊎ (2 ^ 64 - 1 ≤ env.failures to)

-- Files that are one of these were set aside, or some of them after an Err.
pub record SetsAside {E F : Type 0} (env : Ghosts E F) (IsOne : List ℕ → Type 0) (from : E)
    (result : Result (Unit {0}) Status) (to : E) : Type 0 where
  -- now and at each moment on the way each of them is under the one name or the other
  pub run : IsTrue env.models_disk
      → Run (AreSetAside IsOne (env.observed from).disk.files) (env.observed from)
      (env.observed to)
  -- Ok: none has its own name any more
  pub all : OnOk result (IsTrue env.models_disk → (path : List ℕ) → IsOne path
      → (env.observed to).disk.files path ≡ None)
  -- one that can't be stops no other, unless memory is out
  pub left : IsMemoryOut result ⊎ (IsTrue env.models_disk → LeavesUnmoved env IsOne from to)
  pub locks : SameLocks env.models_disk (env.observed from) (env.observed to)
  pub cause : FailsFor (λ status. (path : List ℕ) × IsOne path
      × IsNotSetAside env.models_disk path (env.observed to).disk.files status)
      (env.failures from) (env.failures to) result
