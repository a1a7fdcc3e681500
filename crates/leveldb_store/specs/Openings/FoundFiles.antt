-- What an opening keeps of the files that it finds, whatever they are: the live tables of the
-- manifest that `CURRENT` names, and the entries of the logs that are replayed.
use Rattle.std.specs.Prelude.{◌≡◌, ◌<◌, ℕ, List, ◌++◌, Contains, Some, max}
use Rattle.std.specs.declared.cmp.Ordering.{Ordering}
use Rattle.leveldb_base.specs.History.{Entry, greatest}
use Rattle.leveldb_env.specs.Env.{Files}
use Rattle.leveldb_mem.specs.Log.{bad}
use Rattle.leveldb_files.specs.Edits.Edit.{Edit, NewFile}
use Rattle.leveldb_files.specs.Edits.VersionSet.{level_file, live_after}
use Rattle.leveldb_files.specs.Levels.Levels.{LiveTable, table_entries}
use Rattle.leveldb_files.specs.Stores.Batches.{AreInOrder}
use Rattle.leveldb_files.specs.Stores.Format.{IsTableOf, Meaning}
use Rattle.leveldb_files.specs.Stores.Store.{HasLogs, HasTable, ReplayedLog, SameEntries, log_batches, log_entries}
use Rattle.leveldb_store.specs.Keeping.OpenStore.{OpenStoreValue}

-- each file that these edits leave live is among these
abbrev pub IsEachLive : List Edit → List NewFile → Type 0
IsEachLive edits files = (file : NewFile)
    → (live_after edits).file (level_file file) ≡ Some file → Contains files file

-- The logs that these edits have replayed: each is batches up to its first bad end, which are in
-- order from log to log, and a bad end ends the history, so that the logs after it are empty.
pub record AreFoundLogs (store : List ℕ) (files : Files) (edits : List Edit)
    (logs : List ReplayedLog) : Type 0 where
  pub replayed : HasLogs store files (live_after edits) logs
  pub in_order : AreInOrder 0 (log_batches logs)
  pub ends : (a b : ReplayedLog) → Contains logs a → Contains logs b → a.number < b.number
      → a.end ≡ bad → b.size ≡ 0

-- These are the entries of the logs that the edits have replayed, in any order; and the last number
-- is that which the edits set, or the greatest of the entries.
pub record AreFoundEntries (store : List ℕ) (files : Files) (edits : List Edit)
    (entries : List Entry) (last : ℕ) : Type 0 where
  pub logs : List ReplayedLog
  pub found : AreFoundLogs store files edits logs
  pub same : SameEntries entries (log_entries logs)
  pub manifest_last : ℕ
  pub manifest_sets : (live_after edits).last_sequence ≡ Some manifest_last
  pub last_is : last ≡ max manifest_last (greatest (log_entries logs))

-- A store that is open has the entries of the logs that these edits have replayed: in memory, and
-- in tables that are live and there. `cmp` is the order of user keys, and `meaning` what names and
-- ids in the files mean.
pub record HoldsFoundLogs {C : Type 0} (cmp : List ℕ → List ℕ → Ordering) (meaning : Meaning)
    (store : List ℕ) (edits : List Edit) (from : Files) (value : OpenStoreValue C) (to : Files)
    : Type 0 where
  pub tables : List LiveTable
  pub each : (table : LiveTable) → Contains tables table
      → HasTable store cmp (IsTableOf cmp meaning) to table
      × Contains value.set.full.added table.file
  pub entries : AreFoundEntries store from edits (table_entries tables ++ value.mem.entries)
      value.set.last_sequence
