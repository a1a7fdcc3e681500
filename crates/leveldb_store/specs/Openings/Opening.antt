-- What an opening replays of a store's logs.
use Rattle.std.specs.Prelude.{◌≡◌, ◌≢◌, ◌⊎◌, ◌≤◌, ◌<◌, ◌^◌, ℕ, Bool, if◌then◌else◌, List, ◌++◌, AllPairs, Contains, IsTrue, Some, map, max}
use Rattle.std.specs.declared.cmp.Ordering.{Ordering}
use Rattle.leveldb_base.specs.History.{Entry, greatest}
use Rattle.leveldb_env.specs.Env.{Files, Observed, Run}
use Rattle.leveldb_mem.specs.Log.{bad, clean}
use Rattle.leveldb_files.specs.Stores.Batches.{AreInOrder, all_entries}
use Rattle.leveldb_files.specs.Stores.Contents.{Store}
use Rattle.leveldb_files.specs.Levels.Levels.{LiveTable, table_entries}
use Rattle.leveldb_version_set.specs.Engines.Opening.{FitsEdit, IsMadeBefore}
use Rattle.leveldb_files.specs.Stores.Paths.{table_path}
use Rattle.leveldb_files.specs.Stores.Store.{HasLog, HasTable, ReplayedLog, SameEntries}
use Rattle.leveldb_files.specs.Steps.StoreSteps.{IsKept, KeepsHistory}
use Rattle.leveldb_files.specs.Edits.Edit.{Edit, NewFile}
use Rattle.leveldb_version_set.specs.Sets.VersionSetValue.{VersionSetValue}
use Rattle.leveldb_version_set.specs.Engines.Writing.{IsRecoveredBy}
use Rattle.leveldb_files.specs.Stores.Format.{IsTableOf, Meaning}

-- ---- one log

-- what is in memory of a log that was replayed: the files of the tables that were made of it, its
-- entries that are in none of them, whether it ends cleanly, and how many bytes it has
pub record LogInMemory : Type 0 where
  pub tables : List NewFile
  pub rest : List Entry
  pub is_clean : Bool
  pub size : ℕ

-- the set is the same but for numbers that were given since
pub record GivesNumbers (old new : VersionSetValue) : Type 0 where
  pub set : new ≡ record old { next_file = new.next_file; given = new.given }
  pub rises : old.next_file ≤ new.next_file

-- the number that may be taken back is the one that might be before, or was given since
abbrev pub TakesBackNew : VersionSetValue → VersionSetValue → Type 0
TakesBackNew old new = (number : ℕ) → new.given ≡ Some number
    → (old.given ≡ Some number) ⊎ (old.next_file ≤ number)

-- each file is the same but those of tables whose numbers are given from one set to the other, and
-- fit into 64 bits
abbrev pub SameButTables : VersionSetValue → VersionSetValue → Files → Files → Type 0
SameButTables old new before after = (path : List ℕ)
    → ((n : ℕ) → old.next_file ≤ n → n < new.next_file → n < 2 ^ 64
    → path ≢ table_path old.store n) → after path ≡ before path

-- `cmp` is the order of user keys, and `meaning` what names and ids in the files mean.
module _ (cmp : List ℕ → List ℕ → Ordering) (meaning : Meaning) where
  -- the table is there, of level 0 and kept, and its file may be written into an edit
  abbrev pub IsMadeTable : List ℕ → Files → LiveTable → Type 0
  IsMadeTable store files table =
      HasTable store cmp (IsTableOf cmp meaning) files table × (table.file.level ≡ 0)
      × IsKept (files (table_path store table.file.number)) × FitsEdit table.file

  -- tables of level 0 under numbers that were given from one set to the other, one made after the
  -- other, each kept
  pub record AreMadeTables (old new : VersionSetValue) (files : Files) (tables : List LiveTable)
      : Type 0 where
    pub each : (table : LiveTable) → Contains tables table → IsMadeTable old.store files table
    pub numbers : (table : LiveTable) → Contains tables table
        → (old.next_file ≤ table.file.number) × (table.file.number < new.next_file)
    pub rising : AllPairs IsMadeBefore tables

  -- A log was replayed up to its first bad end. Its batches begin above `last`, and their entries
  -- are in tables and in memory.
  pub record ReplaysLog (old : VersionSetValue) (last number : ℕ) (from : Files)
      (memory : LogInMemory) (new : VersionSetValue) (now_last : ℕ) (to : Files) : Type 0 where
    pub log : ReplayedLog
    pub number_is : log.number ≡ number
    pub has_log : HasLog old.store from log
    pub end : log.end ≡ (if memory.is_clean then clean else bad)
    pub size : log.size ≡ memory.size
    pub in_order : AreInOrder last log.batches
    pub last_is : now_last ≡ max last (greatest (all_entries log.batches))
    pub tables : List LiveTable
    pub files_are : map (λ (table : LiveTable). table.file) tables ≡ memory.tables
    pub made_tables : AreMadeTables old new to tables
    pub entries : SameEntries (table_entries tables ++ memory.rest) (all_entries log.batches)
    -- those in memory are the newer ones
    pub newer : (a b : Entry) → Contains (table_entries tables) a → Contains memory.rest b
        → a.sequence < b.sequence

  -- from files that are recovered, each history is kept at each moment, and the files stay so
  abbrev pub KeepsRecovered : VersionSetValue → Observed → VersionSetValue → Observed → Type 0
  KeepsRecovered old from new to = (edits : List Edit)
      → IsRecoveredBy old.store cmp (IsTableOf cmp meaning) from.disk.files edits old
      → IsRecoveredBy old.store cmp (IsTableOf cmp meaning) to.disk.files edits new
      × ((allowed : Store → Bool) (bound : ℕ)
      → Run (KeepsHistory old.store cmp (IsTableOf cmp meaning) (λ it. IsTrue (allowed it)) bound
      from.disk.files) from to)
