-- What the calls on an open store's log change, and what each returns.
use Rattle.std.specs.Prelude.{◌≡◌, ◌≤◌, ◌<◌, ◌+◌, ◌⊎◌, ℕ, Bool, true, false, if◌then◌else◌, List, length, max, Result, OnOk, OnErr, IfErr, IsTrue}
use Rattle.leveldb_base.specs.History.{placed}
use Rattle.leveldb_base.specs.KeyTypes.{greatest_sequence}
use Rattle.leveldb_base.specs.declared.error.Status.{Status}
use Rattle.leveldb_base.specs.declared.error.StatusCode.TheVariants.{NotSupported}
use Rattle.leveldb_base.specs.Error.{IsOutOfMemory}
use Rattle.leveldb_env.specs.declared.env.Env.{Ghosts}
use Rattle.leveldb_env.specs.Env.{BeforeOrAfter, ChangesFiles, Files, HasCause, PrefixAppended, Run, SameLocks, extended, synced}
use Rattle.leveldb_env.specs.WholeFiles.{IsLost}
use Rattle.leveldb_mem.specs.Log.Writer.{IsWriterBroken, WriterState, after_frame, broken_writer, frame}
use Rattle.leveldb_mem.specs.MemTable.{AddsAll, FailsToPrepare, HasRoom, Kept, bytes_in}
use Rattle.leveldb_mem.specs.WriteBatch.{Batch, batch_of}
use Rattle.leveldb_version_set.specs.Sets.LogEdit.{AppendingAndSyncing, with_bytes_kept}
use Rattle.leveldb_files.specs.Stores.Paths.{log_path}
use Rattle.leveldb_store.specs.Keeping.OpenStore.{OpenStoreValue}

-- the path of the log to which batches are appended
abbrev pub open_log_path : {C : Type 0} → OpenStoreValue C → List ℕ
open_log_path value = log_path value.set.store value.log.number

-- the same store with another state of its log's writer
abbrev pub with_writer : {C : Type 0} → OpenStoreValue C → WriterState → OpenStoreValue C
with_writer value writer = record value { log = record value.log { writer = writer } }

-- bytes are appended to the file of a name, and all of it is kept if it is synced
abbrev pub logged : List ℕ → List ℕ → Bool → Files → Files
logged path bytes sync files =
    if sync then with_bytes_kept path bytes files else extended path bytes files

module _ {E F C : Type 0} (env : Ghosts E F) (old : OpenStoreValue C) (from : E) where
  -- out of memory, the log is missing, or a call on it failed before
  abbrev pub IsLogLost : E → Status → Type 0
  IsLogLost to status =
      IsLost env.models_disk (open_log_path old) (env.observed from) (env.failures from)
      (env.failures to) status
      ⊎ ((old.log.writer.broken ≡ true) × IsWriterBroken status)

  -- memory was out before the device was called, which changes nothing, or the log's writer is
  -- broken
  abbrev pub StaysOrBreaks : OpenStoreValue C → E → Status → Type 0
  StaysOrBreaks new to status =
      (IsOutOfMemory status × (new ≡ old) × (to ≡ from))
      ⊎ (new ≡ with_writer old (broken_writer old.log.writer))

  -- The log was synced. A writer that is broken makes no call.
  pub record SyncsLog (result : Result (Unit {0}) Status) (new : OpenStoreValue C) (to : E)
      : Type 0 where
    pub does : IsTrue env.models_disk → ChangesFiles env.models_disk (synced (open_log_path old))
        (BeforeOrAfter (synced (open_log_path old))) (env.observed from) (env.observed to) result
    -- after an Err the files are as they were
    pub undone : OnErr result (IsTrue env.models_disk
        → (env.observed to).disk.files ≡ (env.observed from).disk.files)
    pub locks : SameLocks env.models_disk (env.observed from) (env.observed to)
    pub ok : OnOk result (new ≡ old)
    pub usable : OnOk result (old.log.writer.broken ≡ false)
    pub err : IfErr result (StaysOrBreaks new to)
    pub broken : old.log.writer.broken ≡ true → (new ≡ old) × (to ≡ from)
    pub cause : HasCause (IsLogLost to) (env.failures from) (env.failures to) result

  -- A record of this text was appended to the log. A writer that is broken makes no call.
  pub record AppendsToLog (text : List ℕ) (result : Result (Unit {0}) Status)
      (new : OpenStoreValue C) (to : E) : Type 0 where
    pub does : IsTrue env.models_disk → ChangesFiles env.models_disk
        (extended (open_log_path old) (frame old.log.writer text))
        (PrefixAppended (open_log_path old) (frame old.log.writer text))
        (env.observed from) (env.observed to) result
    pub locks : SameLocks env.models_disk (env.observed from) (env.observed to)
    pub ok : OnOk result (new ≡ with_writer old (after_frame old.log.writer text))
    pub usable : OnOk result (old.log.writer.broken ≡ false)
    pub err : IfErr result (StaysOrBreaks new to)
    pub broken : old.log.writer.broken ≡ true → (new ≡ old) × (to ≡ from)
    pub cause : HasCause (IsLogLost to) (env.failures from) (env.failures to) result

  -- A record of this text was appended to the log, and synced if that is asked for.
  pub record LogsText (text : List ℕ) (sync : Bool) (result : Result (Unit {0}) Status)
      (new : OpenStoreValue C) (to : E) : Type 0 where
    -- on the way some of it was appended, or all of it is there and the log is kept
    pub run : IsTrue env.models_disk
        → Run (AppendingAndSyncing (open_log_path old) (frame old.log.writer text)
        (env.observed from).disk.files) (env.observed from) (env.observed to)
    pub done : OnOk result (IsTrue env.models_disk → (env.observed to).disk.files
        ≡ logged (open_log_path old) (frame old.log.writer text) sync
        (env.observed from).disk.files)
    pub locks : SameLocks env.models_disk (env.observed from) (env.observed to)
    pub ok : OnOk result (new ≡ with_writer old (after_frame old.log.writer text))
    -- memory was out before any call, or the log's writer is broken
    pub err : IfErr result (λ status. (IsOutOfMemory status × (new ≡ old) × (to ≡ from))
        ⊎ ((new ≡ with_writer old new.log.writer) × (new.log.writer.broken ≡ true)))
    pub cause : HasCause (IsLogLost to) (env.failures from) (env.failures to) result

-- ---- numbers and memory

-- the same store with another state of its memtable
abbrev pub with_mem : {C : Type 0} → OpenStoreValue C → Kept → OpenStoreValue C
with_mem value mem = record value { mem = mem }

-- after the last number there are so many, and the first of them
abbrev pub HasNumbers : ℕ → ℕ → Type 0
HasNumbers last count = (last + 1 ≤ greatest_sequence) × (last + count ≤ greatest_sequence)

-- the numbers after the last are too few for so many, or there is none
pub record AreNumbersUsedUp (last count : ℕ) (status : Status) : Type 0 where
  pub code : status.code ≡ NotSupported
  pub past : greatest_sequence < last + max 1 count

-- Memory was taken for a batch's entries, and it got the next numbers. After an Err the batch is as
-- it was, and there is room for what there was room for.
pub record PreparesBatch {C : Type 0} (old : OpenStoreValue C) (batch : Batch)
    (result : Result (Unit {0}) Status) (new : OpenStoreValue C) (prepared : Batch)
    : Type 0 where
  pub ok : OnOk result (prepared ≡ batch_of (old.set.last_sequence + 1) batch.items)
  pub numbers : OnOk result (HasNumbers old.set.last_sequence (length batch.items))
  pub room : OnOk result (HasRoom new.mem batch.items)
  pub made : OnOk result (new.mem.places ≡ max old.mem.places (length batch.items))
  pub err : OnErr result (prepared ≡ batch)
  pub entries : new.mem.entries ≡ old.mem.entries
  pub rest : new ≡ with_mem old new.mem
  pub cause : IfErr result (λ status.
      AreNumbersUsedUp old.set.last_sequence (length batch.items) status
      ⊎ FailsToPrepare old.mem (length batch.items) (bytes_in batch.items) status)

-- a batch may be inserted: there is room for it, and it has the next numbers, which entries can
-- have
pub record CanBeInserted {C : Type 0} (value : OpenStoreValue C) (batch : Batch) : Type 0 where
  pub room : HasRoom value.mem batch.items
  pub first : batch.first ≡ value.set.last_sequence + 1
  pub numbers : HasNumbers value.set.last_sequence (length batch.items)

-- a batch's entries are in the memtable, and the last number is that of the last of them
pub record InsertsBatch {C : Type 0} (old : OpenStoreValue C) (batch : Batch)
    (new : OpenStoreValue C) : Type 0 where
  pub adds : AddsAll old.mem (placed batch.first batch.items) new.mem
  pub rest : new ≡ record old {
    set = record old.set { last_sequence = old.set.last_sequence + length batch.items };
    mem = new.mem;
  }
