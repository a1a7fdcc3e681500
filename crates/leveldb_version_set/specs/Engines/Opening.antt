-- A store that an engine opens: what it knows of the store's files on the way, and the edit with
-- which it ends.
use Rattle.std.specs.Prelude.{◌≡◌, ◌≢◌, ◌<◌, ◌≤◌, ◌^◌, ℕ, List, [], None, Some, Contains, AllPairs}
use Rattle.std.specs.declared.cmp.Ordering.{Ordering}
use Rattle.leveldb_base.specs.declared.types.FileType.TheVariants.{Log}
use Rattle.leveldb_base.specs.History.{Entry}
use Rattle.leveldb_base.specs.Layers.{IsOlder}
use Rattle.leveldb_base.specs.Names.{IsFileName}
use Rattle.leveldb_base.specs.Types.{Pair}
use Rattle.leveldb_env.specs.Env.{AreBytes, File, Files, bytes_of, in_folder}
use Rattle.leveldb_mem.specs.Log.{IsLogFile, clean}
use Rattle.leveldb_mem.specs.WriteBatch.{Batch}
use Rattle.leveldb_files.specs.Stores.Batches.{Each, IsRecordOf, all_entries}
use Rattle.leveldb_files.specs.Levels.Levels.{LiveTable, table_entries}
use Rattle.leveldb_files.specs.Stores.Paths.{log_path, table_path}
use Rattle.leveldb_files.specs.Stores.Store.{HasTable, LogIsReplayed, ReplayedLog, SameEntries, log_entries}
use Rattle.leveldb_files.specs.Steps.StoreSteps.{AreLogsBelow, IsKept, TablesAreKept}
use Rattle.leveldb_files.specs.Edits.Edit.{Edit, NewFile, empty_edit}
use Rattle.leveldb_files.specs.Edits.VersionSet.{level_file, live_after}
use Rattle.leveldb_version_set.specs.Sets.VersionSetValue.{VersionSetValue}
use Rattle.leveldb_version_set.specs.Engines.Writing.{EngineMemory, IsTrackedBy}

-- ---- how an opening ends

-- the edit with which an opening ends: its tables take the place of the logs below a number
abbrev pub tables_edit : ℕ → List NewFile → Edit
tables_edit log files = record empty_edit { log_number = Some log; added = files }

-- the memory with which an engine begins to write: the immutable memtable has no entries
abbrev pub opened_memory : VersionSetValue → ℕ → List Entry → EngineMemory
opened_memory set log mem = record {
  set = set;
  log = log;
  mem = mem;
  imm = [];
}

-- The log to which batches are to be appended: it is the last one, ends cleanly, and has these
-- entries.
pub record IsLogToWrite (store : List ℕ) (files : Files) (set : VersionSetValue) (log : ℕ)
    (mem : List Entry) : Type 0 where
  pub fits : log < 2 ^ 64
  -- it isn't below the set's log number, so that it is replayed
  pub from_log : set.log_number ≤ log
  -- and no log has a greater number
  pub greatest : (name : List ℕ) (n : ℕ) → IsFileName name n Log
      → files (in_folder store name) ≢ None → n ≤ log
  pub file : File
  pub there : files (log_path store log) ≡ Some file
  pub records : List (List ℕ)
  pub clean_end : IsLogFile (bytes_of file) records clean
  pub batches : List Batch
  pub each : Each IsRecordOf records batches
  pub mem_is : SameEntries mem (all_entries batches)

-- the file may be written into an edit: its numbers fit, and its keys are bytes
pub record FitsEdit (file : NewFile) : Type 0 where
  pub number : file.number < 2 ^ 64
  pub size : file.size < 2 ^ 64
  pub smallest : AreBytes file.smallest
  pub largest : AreBytes file.largest

-- a table was made before another: its number is smaller, and its entries are older
pub record IsMadeBefore (a b : LiveTable) : Type 0 where
  pub number : a.file.number < b.file.number
  pub older : IsOlder a.entries b.entries

-- `store` is the store's path, `cmp` the order of user keys, and `IsTableOf` says which bytes are a
-- table of which pairs.
module _ (store : List ℕ) (cmp : List ℕ → List ℕ → Ordering)
    (IsTableOf : List ℕ → List Pair → Type 0) where
  -- ---- what is recovered

  -- The set tracks the files, and the live tables are kept, and the logs that are replayed, but
  -- perhaps those of these numbers.
  pub record IsRecoveredBut (rest : List ℕ) (files : Files) (edits : List Edit)
      (set : VersionSetValue) : Type 0 where
    pub tracked : IsTrackedBy store cmp IsTableOf files edits set
    pub tables : TablesAreKept store files (live_after edits)
    pub logs : (name : List ℕ) (n : ℕ) → IsFileName name n Log
        → LogIsReplayed (live_after edits) n → (Contains rest n → ⊥)
        → IsKept (files (in_folder store name))

  -- ---- the tables of an opening

  -- Tables that are kept have exactly the entries of the logs below a number. They are of level 0
  -- and newer than all live tables.
  pub record AreLogTables (files : Files) (edits : List Edit) (log : ℕ) (tables : List LiveTable)
      : Type 0 where
    pub each : (table : LiveTable) → Contains tables table
        → HasTable store cmp IsTableOf files table × (table.file.level ≡ 0)
        × IsKept (files (table_path store table.file.number))
    -- their numbers are above those of all live tables
    pub above : (table : LiveTable) (file : NewFile) → Contains tables table
        → file.number < 2 ^ 64 → (live_after edits).file (level_file file) ≡ Some file
        → file.number < table.file.number
    -- and they are in the order in which they were made
    pub rising : AllPairs IsMadeBefore tables
    pub taken : List ReplayedLog
    pub has_taken : AreLogsBelow store files (live_after edits) log taken
    pub entries : SameEntries (table_entries tables) (log_entries taken)
