-- What an open store's memory has to do with the files, and what a call keeps of that.
use Rattle.std.specs.Prelude.{◌≡◌, ◌≤◌, ◌<◌, ◌%◌, ◌^◌, ℕ, Bool, List, [], Option, None, Some, All, Contains, IsTrue, length, map}
use Rattle.std.specs.declared.cmp.Ordering.{Ordering}
use Rattle.leveldb_base.specs.History.{Entry, History}
use Rattle.leveldb_base.specs.declared.types.FileType.{FileType}
use Rattle.leveldb_base.specs.declared.types.FileType.TheVariants.{Log, Table, Descriptor, Temp}
use Rattle.leveldb_env.specs.Env.{Files, Observed, Run, SameLocks, bytes_of}
use Rattle.leveldb_mem.specs.Log.{log_block_size}
use Rattle.leveldb_mem.specs.Log.Writer.{new_writer}
use Rattle.leveldb_mem.specs.MemTable.{Kept}
use Rattle.leveldb_files.specs.Stores.Contents.{Store}
use Rattle.leveldb_files.specs.Stores.Format.{IsTableOf, Meaning}
use Rattle.leveldb_files.specs.Levels.Levels.{LiveTable}
use Rattle.leveldb_files.specs.Stores.Paths.{IsFilePath, table_path}
use Rattle.leveldb_files.specs.Stores.Store.{HasTable}
use Rattle.leveldb_files.specs.Steps.StoreSteps.{KeepsHistory}
use Rattle.leveldb_version.specs.Tables.TableCache.{IsSameOrGone}
use Rattle.leveldb_files.specs.Edits.Edit.{Edit, NewFile}
use Rattle.leveldb_version_set.specs.Sets.VersionSetValue.{VersionSetValue}
use Rattle.leveldb_version_set.specs.Engines.Writing.{EngineMemory, IsWrittenBy, ShowsHistory}
use Rattle.leveldb_store.specs.Keeping.KeptBytes.{SparesKept}
use Rattle.leveldb_store.specs.Keeping.OpenStore.{IsUnbroken, OpenStoreValue}

-- ---- memory

-- the entries of the immutable memtable, if there is one
abbrev pub imm_entries : Option Kept → List Entry
imm_entries None = []
imm_entries (Some imm) = imm.entries

-- an open store as the laws of a store's files know it
abbrev pub memory_of : {C : Type 0} → OpenStoreValue C → EngineMemory
memory_of value = record {
  set = value.set;
  log = value.log.number;
  mem = value.mem.entries;
  imm = imm_entries value.imm;
}

-- ---- files

-- the types of files that change while a store is open
abbrev pub IsData : FileType → Type 0
IsData Log = Unit {0}
IsData Table = Unit {0}
IsData Descriptor = Unit {0}
IsData Temp = Unit {0}
IsData kind = ⊥

-- a path of such a file
abbrev pub IsDataPath : List ℕ → List ℕ → Type 0
IsDataPath store path = (kind : FileType) × IsData kind × IsFilePath kind store path

-- `cmp` is the order of user keys, and `meaning` what names and ids in the files mean.
module _ {C : Type 0} (cmp : List ℕ → List ℕ → Ordering) (meaning : Meaning) where
  -- The files are a store that is written with what is in memory, and the log's writer is at the
  -- log's end.
  pub record IsWritten (value : OpenStoreValue C) (files : Files) : Type 0 where
    pub edits : List Edit
    pub by : IsWrittenBy value.set.store cmp (IsTableOf cmp meaning) files edits (memory_of value)
    pub writer : value.log.writer
        ≡ new_writer log_block_size (length (bytes_of by.writable.log.file) % log_block_size)

  -- the tables are those of the set's live files, in their order, and each is there
  pub record HasLiveTables (value : OpenStoreValue C) (files : Files) (tables : List LiveTable)
      : Type 0 where
    pub files_are : map (λ (table : LiveTable). table.file) tables ≡ value.set.full.added
    pub each : All (HasTable value.set.store cmp (IsTableOf cmp meaning) files) tables

  -- the entries in memory and in the live tables show the history, from this number on
  pub record HasView (value : OpenStoreValue C) (files : Files) (history : History) (since : ℕ)
      : Type 0 where
    pub tables : List LiveTable
    pub has : HasLiveTables value files tables
    pub shows : ShowsHistory cmp (memory_of value) tables history since

  -- after a call the store shows a history from each number on from which it showed one before it
  abbrev pub KeepsShown : OpenStoreValue C → Files → History → OpenStoreValue C → Files → History
      → Type 0
  KeepsShown old before shown new after history =
      (since : ℕ) → HasView old before shown since → HasView new after history since

  -- ---- calls

  -- What a call keeps that adds no batch, of a store that was written before it.
  pub record KeepsStore (allowed : Store → Type 0) (old : OpenStoreValue C) (from : Observed)
      (new : OpenStoreValue C) (to : Observed) : Type 0 where
    -- whatever history the files held, they hold it now and at each moment on the way
    pub moments : (bound : ℕ) → old.set.last_sequence ≤ bound
        → Run (KeepsHistory old.set.store cmp (IsTableOf cmp meaning) allowed bound
        from.disk.files) from to
    -- the store is written on, unless the call broke it
    pub written : IsUnbroken new → IsWritten new to.disk.files
    -- what it showed it shows
    pub shows : (history : History)
        → KeepsShown old from.disk.files history new to.disk.files history

  -- the same, if the store was written before the call, whichever stores may be there: those that
  -- pass a test
  abbrev pub KeepsWritten : OpenStoreValue C → Observed → OpenStoreValue C → Observed → Type 0
  KeepsWritten old from new to = (allowed : Store → Bool) → IsWritten old from.disk.files
      → KeepsStore (λ store. IsTrue (allowed store)) old from new to

-- A call deletes no table: each live file stays live, and no table changes whose number was given
-- before.
pub record KeepsTables (models_disk : Bool) (old : VersionSetValue) (from : Observed)
    (new : VersionSetValue) (to : Observed) : Type 0 where
  pub live : (file : NewFile) → Contains old.full.added file → Contains new.full.added file
  pub files : IsTrue models_disk → (number : ℕ) → number < 2 ^ 64 → number < old.next_file
      → to.disk.files (table_path old.store number)
      ≡ from.disk.files (table_path old.store number)

-- the table of each number that was given has the bytes that it had, or is gone
abbrev pub KeepsGivenTables : VersionSetValue → Files → Files → Type 0
KeepsGivenTables set before after = (number : ℕ) → number < 2 ^ 64 → number < set.next_file
    → IsSameOrGone (before (table_path set.store number)) (after (table_path set.store number))

-- What a call leaves alone that adds no batch: the store's path, its order, its last number and
-- which files it keeps; all files but logs, tables, manifests and temporary files of the store;
-- and all locks. Numbers that were given stay so, and their tables keep their bytes or are gone.
-- Whatever the files are, none that is kept loses a byte, at any moment.
pub record SparesRest {C : Type 0} (models_disk : Bool) (old : OpenStoreValue C) (from : Observed)
    (new : OpenStoreValue C) (to : Observed) : Type 0 where
  pub store : new.set.store ≡ old.set.store
  pub cmp : new.cmp ≡ old.cmp
  pub last : new.set.last_sequence ≡ old.set.last_sequence
  pub kept_to : new.kept_to ≡ old.kept_to
  pub files : IsTrue models_disk → (path : List ℕ) → (IsDataPath old.set.store path → ⊥)
      → to.disk.files path ≡ from.disk.files path
  pub numbers : old.set.next_file ≤ new.set.next_file
  pub tables : IsTrue models_disk → KeepsGivenTables old.set from.disk.files to.disk.files
  pub kept : SparesKept models_disk old.set old.kept_to from to
  pub locks : SameLocks models_disk from to
