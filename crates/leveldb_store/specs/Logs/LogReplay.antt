-- A log that is read batch by batch, and what each read finds.
use Rattle.std.specs.Prelude.{◌≡◌, ◌≤◌, ◌<◌, ◌+◌, ◌^◌, ◌⊎◌, ℕ, Bool, true, List, [], ◌∷◌, ◌++◌, drop, length, IfOk, IsTrue, Ok, Option, Result, Some}
use Rattle.leveldb_base.specs.declared.error.Status.{Status}
use Rattle.leveldb_base.specs.declared.error.StatusCode.TheVariants.{Corruption, NotSupported}
use Rattle.leveldb_env.specs.Env.{File, Files, FilesUnchanged, HasCause, Observed, Run, SameLocks, bytes_of}
use Rattle.leveldb_env.specs.WholeFiles.{IsLost}
use Rattle.leveldb_env.specs.declared.env.Env.{Ghosts}
use Rattle.leveldb_mem.specs.Log.{End, IsLogFile, bad, clean, log_block_size}
use Rattle.leveldb_mem.specs.Log.Reader.{ReaderState, after_front, new_reader}
use Rattle.leveldb_mem.specs.WriteBatch.{Batch}
use Rattle.leveldb_files.specs.Stores.Batches.{Each, IsRecordOf}
use Rattle.leveldb_files.specs.Stores.Paths.{log_path}
use Rattle.leveldb_files.specs.Stores.Store.{IsLog, ReplayedLog as StoreLog}
use Rattle.leveldb_store.specs.declared.log_replay.NextBatch.{NextBatch}
use Rattle.leveldb_store.specs.declared.log_replay.NextBatch.TheVariants.{BadEnd, CleanEnd, More}

-- a log that is read: where it is, and how far it was read
pub record LogReplayState : Type 0 where
  -- its number
  pub number : ℕ
  -- the path of its file
  pub path : List ℕ
  -- how many bytes the file has
  pub size : ℕ
  -- the reader of its records
  pub reader : ReaderState
  -- the offset in the file from which the reader reads on
  pub offset : ℕ
  -- how many records may follow at most
  pub left : ℕ

-- ---- how far a log was read

-- the file has this size, and is what was read and then what is still to be read
pub record IsReadUpTo (log : LogReplayState) (front : List ℕ) (file : File) : Type 0 where
  pub size : length (bytes_of file) ≡ log.size
  pub parts : bytes_of file ≡ front ++ (log.reader.unread ++ drop log.offset (bytes_of file))

-- These batches were read of a log, from its start on: the file begins with their records, and the
-- reader is after these.
pub record HasReadBatches (models_disk : Bool) (files : Files) (log : LogReplayState)
    (batches : List Batch) : Type 0 where
  -- the bytes that were read, and their records
  pub front : List ℕ
  pub records : List (List ℕ)
  pub read : IsLogFile front records clean
  -- which are the batches
  pub each : Each IsRecordOf records batches
  pub reader : log.reader ≡ after_front (new_reader true log_block_size) front log.reader.unread
  -- each record that may follow has a byte at least
  pub few : log.size ≤ log.left + length front
  pub fits : log.size < 2 ^ 64
  -- on a disk that is modelled the file begins with these bytes
  pub file : IsTrue models_disk
      → (file : File) × (files log.path ≡ Some file) × IsReadUpTo log front file

-- the file is there, and is this log, read to its first bad end
abbrev pub IsLogAt : Option File → StoreLog → Type 0
IsLogAt at log = (file : File) × (at ≡ Some file) × IsLog file log

-- no batches are all of the log up to its first bad end
abbrev pub IsNoLog : Option File → Type 0
IsNoLog at = (log : StoreLog) → IsLogAt at log → ⊥

-- the file is there, and is a log of batches that ends between two records
abbrev pub EndsCleanly : Option File → Type 0
EndsCleanly at = (log : StoreLog) × (log.end ≡ clean) × IsLogAt at log

-- ---- calls

-- the log of a number that is opened to be read from its start on
pub record IsLogToRead (models_disk : Bool) (store : List ℕ) (number : ℕ) (files : Files)
    (log : LogReplayState) : Type 0 where
  pub number_is : log.number ≡ number
  pub path_is : log.path ≡ log_path store number
  pub none_read : HasReadBatches models_disk files log []

module _ (models_disk : Bool) (files : Files) (old : LogReplayState) (batches : List Batch) where
  -- these batches are all of the log up to this end
  abbrev pub IsReadOutAs : End → Type 0
  IsReadOutAs end = IsTrue models_disk → IsLogAt (files old.path) (record {
    number = old.number;
    batches = batches;
    end = end;
    size = old.size;
  })

  -- what comes after these batches, by what was found
  abbrev pub FindsBatch : NextBatch → Batch → LogReplayState → Type 0
  FindsBatch More batch new = HasReadBatches models_disk files new (batches ++ batch ∷ [])
  FindsBatch CleanEnd batch new = IsReadOutAs clean
  FindsBatch BadEnd batch new = IsReadOutAs bad

-- Why the next batch isn't read, where the device didn't fail: out of memory, the file is missing,
-- a record is no batch, or it has 2^64 bytes, as in no file of a disk that is modelled.
abbrev pub FailsToReadBatch : Bool → List ℕ → Observed → ℕ → ℕ → Status → Type 0
FailsToReadBatch models_disk path observed before now status =
    IsLost models_disk path observed before now status
    ⊎ ((((status.code ≡ Corruption) × (IsTrue models_disk → IsNoLog (observed.disk.files path)))
    ⊎ ((status.code ≡ NotSupported) × (IsTrue models_disk → ⊥))) × (now ≡ before))

-- what reading the next batch of a log returns and leaves
pub record ReadsBatch {E F : Type 0} (env : Ghosts E F) (old : LogReplayState) (from : E)
    (result : Result NextBatch Status) (batch : Batch) (new : LogReplayState) (to : E)
    : Type 0 where
  -- no file changes, at any moment, and no lock does
  pub run : IsTrue env.models_disk → Run (FilesUnchanged (env.observed from).disk.files)
      (env.observed from) (env.observed to)
  pub locks : SameLocks env.models_disk (env.observed from) (env.observed to)
  -- it is the same log
  pub same : new ≡ record old { reader = new.reader; offset = new.offset; left = new.left }
  -- after the batches that were read comes one more, or the end
  pub finds : (batches : List Batch)
      → HasReadBatches env.models_disk (env.observed from).disk.files old batches
      → IfOk result (λ found. FindsBatch env.models_disk (env.observed from).disk.files old batches
      found batch new)
  -- with each batch fewer may follow
  pub fewer : result ≡ Ok More → new.left < old.left
  -- an Err after them has its cause
  pub cause : (batches : List Batch)
      → HasReadBatches env.models_disk (env.observed from).disk.files old batches
      → HasCause (FailsToReadBatch env.models_disk old.path (env.observed from)
      (env.failures from) (env.failures to)) (env.failures from) (env.failures to) result
