-- An open log: its file with the writer of its records, and what its calls do.
use Rattle.std.specs.Prelude.{◌≡◌, ◌⊎◌, ℕ, List, true, false, Result, IfErr, OnErr, OnOk, IsTrue}
use Rattle.leveldb_base.specs.declared.error.Status.{Status}
use Rattle.leveldb_base.specs.Error.{IsOutOfMemory}
use Rattle.leveldb_env.specs.declared.env.Env.{Ghosts}
use Rattle.leveldb_env.specs.Env.{BeforeOrAfter, ChangesFiles, HasCause, PrefixAppended, SameLocks, extended, synced}
use Rattle.leveldb_env.specs.WholeFiles.{IsLost}
use Rattle.leveldb_mem.specs.Log.Writer.{IsWriterBroken, WriterState, after_frame, broken_writer, frame}

-- an open log
pub record LogFileState : Type 0 where
  -- the path of its file
  pub path : List ℕ
  -- the writer of its records
  pub writer : WriterState

-- the log after a record was appended
abbrev pub with_record : LogFileState → List ℕ → LogFileState
with_record log text = record log { writer = after_frame log.writer text }

-- the log after a call on its file that failed
abbrev pub broken_log : LogFileState → LogFileState
broken_log log = record log { writer = broken_writer log.writer }

module _ {E F : Type 0} (env : Ghosts E F) (old : LogFileState) (from : E) where
  -- out of memory, the log's file is missing, or a call on it failed before
  abbrev pub IsFileLost : E → Status → Type 0
  IsFileLost to status =
      IsLost env.models_disk old.path (env.observed from) (env.failures from) (env.failures to)
      status ⊎ ((old.writer.broken ≡ true) × IsWriterBroken status)

  -- A record of this text was appended. A log that is broken makes no call.
  pub record AppendsRecord (text : List ℕ) (result : Result (Unit {0}) Status)
      (new : LogFileState) (to : E) : Type 0 where
    -- its framing is appended to the file, or after an Err any prefix of it
    pub does : IsTrue env.models_disk → ChangesFiles env.models_disk
        (extended old.path (frame old.writer text))
        (PrefixAppended old.path (frame old.writer text))
        (env.observed from) (env.observed to) result
    -- no lock changes
    pub locks : SameLocks env.models_disk (env.observed from) (env.observed to)
    -- the log keeps its path
    pub path : new.path ≡ old.path
    -- the log after an Ok, which none that is broken gives
    pub ok : OnOk result (new ≡ with_record old text)
    pub usable : OnOk result (old.writer.broken ≡ false)
    -- an Err is out of memory and nothing was done, or the log is broken
    pub err : IfErr result (λ status.
        (IsOutOfMemory status × (new ≡ old) × (to ≡ from)) ⊎ (new ≡ broken_log old))
    pub broken : old.writer.broken ≡ true → (new ≡ old) × (to ≡ from)
    -- why it fails
    pub cause : HasCause (IsFileLost to) (env.failures from) (env.failures to) result

  -- A crash keeps all that the log's file has. A log that is broken makes no call.
  pub record SyncsRecords (result : Result (Unit {0}) Status) (new : LogFileState) (to : E)
      : Type 0 where
    -- the file is synced
    pub does : IsTrue env.models_disk → ChangesFiles env.models_disk (synced old.path)
        (BeforeOrAfter (synced old.path)) (env.observed from) (env.observed to) result
    -- after an Err the files are as they were
    pub undone : OnErr result (IsTrue env.models_disk
        → (env.observed to).disk.files ≡ (env.observed from).disk.files)
    -- no lock changes
    pub locks : SameLocks env.models_disk (env.observed from) (env.observed to)
    -- the log keeps its path
    pub path : new.path ≡ old.path
    -- an Ok leaves the log as it was, and none that is broken gives one
    pub ok : OnOk result (new ≡ old)
    pub usable : OnOk result (old.writer.broken ≡ false)
    -- an Err breaks it
    pub err : OnErr result (new ≡ broken_log old)
    pub broken : old.writer.broken ≡ true → (new ≡ old) × (to ≡ from)
    -- why it fails
    pub cause : HasCause (IsFileLost to) (env.failures from) (env.failures to) result
