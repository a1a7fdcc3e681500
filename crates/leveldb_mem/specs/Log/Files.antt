-- Files that hold a log.
use Rattle.std.specs.Prelude.{◌≡◌, ◌⊎◌, ◌≤◌, ◌^◌, ℕ, Bool, true, List, length, drop, Option, Result}
use Rattle.std.specs.Prelude.{IfSome, IsSomeAnd, IsErrAnd, IsTrue}
use Rattle.leveldb_base.specs.declared.error.Status.{Status}
use Rattle.leveldb_base.specs.declared.error.StatusCode.TheVariants.{NotSupported}
use Rattle.leveldb_env.specs.declared.env.Env.{Ghosts}
use Rattle.leveldb_env.specs.Env.{File, Observed, bytes_of, HasCause, IsMissing}
use Rattle.leveldb_env.specs.EnvFile.{Opened, opened_file, IsFurther, IsGivenUp}
use Rattle.leveldb_mem.specs.Log.{log_block_size, End, LogOf}

-- the file of a disk that is modelled has 2^64 bytes, and isn't read to its end
abbrev pub IsHuge : Bool → Option File → Status → Type 0
IsHuge models_disk file status = (status.code ≡ NotSupported)
    × (IsTrue models_disk → IsSomeAnd file (λ file. 2 ^ 64 ≤ length (bytes_of file)))

-- why the reading of a log's file failed: as a call of the environment does, or since the file is
-- huge
abbrev pub HasReadCause : {T : Type 0} → Bool → List ℕ → Observed → ℕ → ℕ → Result T Status → Type 0
HasReadCause models_disk name observed before now result =
    HasCause (IsMissing models_disk name observed) before now result
    ⊎ (IsErrAnd result (IsHuge models_disk (observed.disk.files name)) × (now ≡ before))

module _ {E F : Type 0} (env : Ghosts E F) where
  -- The file was read further on, and what it has from its offset on is a log with these records
  -- and this end.
  pub record IsReadAsLog (old : Opened E F) (records : List (List ℕ)) (end : End)
      (new : Opened E F) : Type 0 where
    -- what was read
    pub bytes : List ℕ
    -- the file is after it
    pub further : IsFurther env old bytes new
    -- and what came next in the file is this log
    pub log : IsTrue env.models_disk → IfSome (opened_file env old) (λ file.
        LogOf true log_block_size records end 0 (drop (env.offset_of old.file) (bytes_of file)))

  -- the file was read further on, and gave 2^64 bytes of one record
  pub record IsReadTooFar (old : Opened E F) (status : Status) (new : Opened E F) : Type 0 where
    -- `NotSupported`
    pub code : status.code ≡ NotSupported
    -- what was read
    pub bytes : List ℕ
    -- the file is after it
    pub further : IsFurther env old bytes new
    -- it has 2^64 bytes at least
    pub many : 2 ^ 64 ≤ length bytes

  -- the reading of the file as a log stopped with this error
  abbrev pub StopsReadingFile : Opened E F → Status → Opened E F → Type 0
  StopsReadingFile old status new = IsGivenUp env old status new ⊎ IsReadTooFar old status new
