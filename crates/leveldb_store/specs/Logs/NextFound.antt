-- A log that is read as far as it is found: up to its first bad end, or its first record that is no
-- batch of a store.
use Rattle.std.specs.Prelude.{◌≡◌, ◌≤◌, ◌<◌, ◌⊎◌, ℕ, All, Bool, true, false, IfOk, IsTrue, List, [], ◌∷◌, ◌++◌, Ok, Option, Result, Some}
use Rattle.leveldb_base.specs.History.{greatest}
use Rattle.leveldb_base.specs.KeyTypes.{greatest_sequence}
use Rattle.leveldb_base.specs.declared.error.Status.{Status}
use Rattle.leveldb_base.specs.declared.error.StatusCode.TheVariants.{Corruption, NotSupported}
use Rattle.leveldb_env.specs.Env.{File, Files, FilesUnchanged, HasCause, Observed, Run, SameLocks, bytes_of}
use Rattle.leveldb_env.specs.WholeFiles.{IsLost}
use Rattle.leveldb_env.specs.declared.env.Env.{Ghosts}
use Rattle.leveldb_mem.specs.Log.{bad, clean}
use Rattle.leveldb_mem.specs.WriteBatch.{Batch}
use Rattle.leveldb_files.specs.Stores.Batches.{batch_entries}
use Rattle.leveldb_version_set.specs.Repairs.Found.{IsFoundLog, IsNumberedBatch}
use Rattle.leveldb_store.specs.Logs.FoundLogs.{BeginsWithBatches}
use Rattle.leveldb_store.specs.Logs.LogReplay.{HasReadBatches, IsReadOutAs, LogReplayState}
use Rattle.leveldb_store.specs.declared.log_replay.next_found.NextFound.{NextFound}
use Rattle.leveldb_store.specs.declared.log_replay.next_found.NextFound.TheVariants.{BadEnd, CleanEnd, More, NoBatch}

-- ---- batches of numbers that entries may have

-- the numbers of a batch are those that entries may have
pub record HasEntryNumbers (batch : Batch) : Type 0 where
  pub from_one : 0 < batch.first
  pub first_fits : batch.first ≤ greatest_sequence
  pub fits : greatest (batch_entries batch) ≤ greatest_sequence

-- whether a record is a batch of such numbers, and which one
abbrev pub TellsNumbered : List ℕ → Batch → Bool → Type 0
TellsNumbered text batch true = IsNumberedBatch text batch
TellsNumbered text batch false = (any : Batch) → IsNumberedBatch text any → ⊥

-- ---- how far a log was found

-- these batches were read of a log, from its start on, and their numbers are such
pub record HasFoundBatches (models_disk : Bool) (files : Files) (log : LogReplayState)
    (batches : List Batch) : Type 0 where
  pub read : HasReadBatches models_disk files log batches
  pub numbered : All HasEntryNumbers batches

-- the file is there, and these batches are all that is found of it
abbrev pub IsFoundAt : Option File → List Batch → Type 0
IsFoundAt at batches = (file : File) × (at ≡ Some file) × IsFoundLog (bytes_of file) batches

-- the file is there, and begins with the records of these batches
abbrev pub BeginsAt : Option File → List Batch → Type 0
BeginsAt at batches = (file : File) × (at ≡ Some file) × BeginsWithBatches (bytes_of file) batches

-- ---- calls

-- the log at a path that is opened to be read from its start on
pub record IsFileToRead (models_disk : Bool) (path : List ℕ) (number : ℕ) (files : Files)
    (log : LogReplayState) : Type 0 where
  pub number_is : log.number ≡ number
  pub path_is : log.path ≡ path
  pub none_read : HasReadBatches models_disk files log []

module _ (models_disk : Bool) (files : Files) (old : LogReplayState) (batches : List Batch) where
  -- these batches are all that is found of the log
  abbrev pub AreAllFound : Type 0
  AreAllFound = IsTrue models_disk → IsFoundAt (files old.path) batches

  -- what comes after these batches, by what was found
  abbrev pub FindsAfter : NextFound → Batch → LogReplayState → Type 0
  FindsAfter More batch new = HasFoundBatches models_disk files new (batches ++ batch ∷ [])
  FindsAfter CleanEnd batch new = AreAllFound × IsReadOutAs models_disk files old batches clean
  FindsAfter BadEnd batch new = AreAllFound × IsReadOutAs models_disk files old batches bad
  FindsAfter NoBatch batch new = AreAllFound

-- Why the next batch isn't found, where the device didn't fail: out of memory, the file is missing,
-- or it has more records than bytes or 2^64 bytes, as no file of a disk that is modelled.
abbrev pub FailsToFindBatch : Bool → List ℕ → Observed → ℕ → ℕ → Status → Type 0
FailsToFindBatch models_disk path observed before now status =
    IsLost models_disk path observed before now status
    ⊎ (((status.code ≡ Corruption) ⊎ (status.code ≡ NotSupported)) × (IsTrue models_disk → ⊥)
    × (now ≡ before))

-- what reading the next batch of a log returns and leaves, as far as the log is found
pub record FindsNextBatch {E F : Type 0} (env : Ghosts E F) (old : LogReplayState) (from : E)
    (result : Result NextFound Status) (batch : Batch) (new : LogReplayState) (to : E)
    : Type 0 where
  -- no file changes, at any moment, and no lock does
  pub run : IsTrue env.models_disk → Run (FilesUnchanged (env.observed from).disk.files)
      (env.observed from) (env.observed to)
  pub locks : SameLocks env.models_disk (env.observed from) (env.observed to)
  -- it is the same log
  pub same : new ≡ record old { reader = new.reader; offset = new.offset; left = new.left }
  -- after the batches that were found comes one more, or the end
  pub finds : (batches : List Batch)
      → HasFoundBatches env.models_disk (env.observed from).disk.files old batches
      → IfOk result (λ found. FindsAfter env.models_disk (env.observed from).disk.files old batches
      found batch new)
  -- with each batch fewer may follow
  pub fewer : result ≡ Ok More → new.left < old.left
  -- an Err after them has its cause
  pub cause : (batches : List Batch)
      → HasFoundBatches env.models_disk (env.observed from).disk.files old batches
      → HasCause (FailsToFindBatch env.models_disk old.path (env.observed from)
      (env.failures from) (env.failures to)) (env.failures from) (env.failures to) result
