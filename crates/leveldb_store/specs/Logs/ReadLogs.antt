-- What reading logs to memory alone makes of them, one after another, and why it fails.
use Rattle.std.specs.Prelude.{◌≡◌, ◌⊎◌, ℕ, Bool, true, false, List, [], ◌∷◌, ◌++◌, Contains, IsTrue, OnOk, IfOk, Result}
use Rattle.leveldb_base.specs.History.{AreUpTo, greatest}
use Rattle.leveldb_base.specs.declared.error.Status.{Status}
use Rattle.leveldb_base.specs.declared.error.StatusCode.TheVariants.{Corruption, NotSupported}
use Rattle.leveldb_env.specs.Env.{Files, FilesUnchanged, Run, SameLocks}
use Rattle.leveldb_env.specs.declared.env.Env.{Ghosts}
use Rattle.leveldb_mem.specs.Log.{bad, clean}
use Rattle.leveldb_mem.specs.MemTable.{GrowsByAll, IsUnion}
use Rattle.leveldb_mem.specs.WriteBatch.{Batch}
use Rattle.leveldb_files.specs.Stores.Batches.{AreInOrder, all_entries}
use Rattle.leveldb_files.specs.Stores.Store.{ReplayedLog as StoreLog, log_batches}
use Rattle.leveldb_store.specs.Logs.FoundLogs.{AreLogsTooLarge, LogsBeginWith}
use Rattle.leveldb_store.specs.Openings.OpeningSteps.{AreDamagedLogs, AreLogs}
use Rattle.leveldb_store.specs.Logs.ReplayLog.{HasCauseOr}
use Rattle.leveldb_store.specs.declared.opening.replay_log.ReplayedLog.{ReplayedLog}

-- these batches are in memory, in order, and no room is left over for more
pub record AreInMemory {C : Type 0} (batches : List Batch) (log : ReplayedLog C) : Type 0 where
  pub in_order : AreInOrder 0 batches
  pub last_is : log.last ≡ greatest (all_entries batches)
  pub are : IsUnion [] (all_entries batches) log.rest.kept.entries
  pub grows : GrowsByAll [] (all_entries batches) log.rest.kept.entries
  pub places : log.rest.kept.places ≡ 0

module _ (models_disk : Bool) (store : List ℕ) (files : Files) where
  -- The logs of these numbers are in memory, each up to its first bad end, and it is known whether
  -- all of them end cleanly.
  pub record HasReadLogs {C : Type 0} (numbers : List ℕ) (log : ReplayedLog C) : Type 0 where
    pub logs : List StoreLog
    pub in_memory : AreInMemory (log_batches logs) log
    pub are_logs : IsTrue models_disk → AreLogs store files numbers logs
    pub begin : IsTrue models_disk → LogsBeginWith store files numbers (log_batches logs)
    pub clean_is : log.is_clean ≡ true → (one : StoreLog) → Contains logs one → one.end ≡ clean
    pub bad_is : log.is_clean ≡ false
        → (one : StoreLog) × Contains logs one × (one.end ≡ bad)

  -- why logs of these numbers aren't read to memory, where nothing was counted, beside out of
  -- memory: they are too large for a memtable, or damaged; or a record has 2^64 bytes, as in no
  -- file of a disk that is modelled
  abbrev pub WhyLogsUnread : List ℕ → Status → Type 0
  WhyLogsUnread numbers status = AreLogsTooLarge models_disk store files numbers status
      ⊎ ((status.code ≡ Corruption) × (IsTrue models_disk → AreDamagedLogs store files numbers))
      ⊎ ((status.code ≡ NotSupported) × (IsTrue models_disk → ⊥))

module _ {E F : Type 0} (env : Ghosts E F) (store : List ℕ) where
  -- what reading one more log returns, after those of some numbers and whatever comes after it
  pub record ReadsLog {C : Type 0} (number : ℕ) (old : ReplayedLog C) (from : E)
      (result : Result (Unit {0}) Status) (new : ReplayedLog C) (to : E) : Type 0 where
    pub still : IsTrue env.models_disk
        → Run (FilesUnchanged (env.observed from).disk.files) (env.observed from)
        (env.observed to)
    pub locks : SameLocks env.models_disk (env.observed from) (env.observed to)
    pub cmp : OnOk result (new.rest.cmp ≡ old.rest.cmp)
    pub up_to : OnOk result (AreUpTo new.last new.rest.kept.entries)
    pub ok : (numbers : List ℕ)
        → HasReadLogs env.models_disk store (env.observed from).disk.files numbers old
        → OnOk result (HasReadLogs env.models_disk store (env.observed from).disk.files
        (numbers ++ number ∷ []) new)
    pub cause : (numbers later : List ℕ)
        → HasReadLogs env.models_disk store (env.observed from).disk.files numbers old
        → HasCauseOr (WhyLogsUnread env.models_disk store (env.observed from).disk.files
        (numbers ++ number ∷ later)) (env.failures from) (env.failures to) result

  -- what reading the logs of these numbers returns
  pub record ReadsLogs {C : Type 0} (cmp : C) (numbers : List ℕ) (from : E)
      (result : Result (ReplayedLog C) Status) (to : E) : Type 0 where
    pub still : IsTrue env.models_disk
        → Run (FilesUnchanged (env.observed from).disk.files) (env.observed from)
        (env.observed to)
    pub locks : SameLocks env.models_disk (env.observed from) (env.observed to)
    pub cmp_is : IfOk result (λ log. log.rest.cmp ≡ cmp)
    pub ok : IfOk result
        (HasReadLogs env.models_disk store (env.observed from).disk.files numbers)
    pub cause : HasCauseOr
        (WhyLogsUnread env.models_disk store (env.observed from).disk.files numbers)
        (env.failures from) (env.failures to) result
