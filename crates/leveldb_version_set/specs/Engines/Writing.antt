-- A store that an engine has open: what the engine has in memory of the store's files, and what the
-- files are meanwhile.
use Rattle.std.specs.Prelude.{◌≡◌, ◌≢◌, ◌<◌, ◌≤◌, ◌↔◌, ℕ, List, [], ◌∷◌, ◌++◌, None, Some, Contains, map}
use Rattle.std.specs.declared.cmp.Ordering.{Ordering}
use Rattle.leveldb_base.specs.declared.types.FileType.{FileType}
use Rattle.leveldb_base.specs.declared.types.FileType.TheVariants.{Log, Table, Descriptor, Temp}
use Rattle.leveldb_base.specs.History.{Entry, History, SameView, entries_of, greatest}
use Rattle.leveldb_base.specs.KeyTypes.{greatest_sequence}
use Rattle.leveldb_base.specs.Layers.{IsOlder}
use Rattle.leveldb_base.specs.Names.{IsFileName}
use Rattle.leveldb_base.specs.Types.{Pair}
use Rattle.leveldb_env.specs.Env.{Files, in_folder}
use Rattle.leveldb_files.specs.Stores.Batches.{all_entries}
use Rattle.leveldb_files.specs.Stores.Contents.{Contents}
use Rattle.leveldb_files.specs.Levels.Levels.{LevelOrder, LiveTable, table_entries}
use Rattle.leveldb_version_set.specs.Sets.Recover.{IsNamed}
use Rattle.leveldb_files.specs.Stores.Store.{HasEdits, IsManagedBy, ReplayedLog, SameEntries}
use Rattle.leveldb_files.specs.Steps.StoreSteps.{AppendedAreBytes, AreKept, IsWritable}
use Rattle.leveldb_version_set.specs.Sets.Tracks.{Tracks}
use Rattle.leveldb_files.specs.Edits.Edit.{Edit, NewFile, empty_edit}
use Rattle.leveldb_files.specs.Edits.VersionSet.{live_after}
use Rattle.leveldb_version_set.specs.Sets.VersionSetValue.{OpenManifest, VersionSetValue, in_use, with_number_given}

-- ---- numbers of files

-- each file in the store's folder whose name has a number has one below this
abbrev pub NumbersAreBelow : List ℕ → Files → ℕ → Type 0
NumbersAreBelow store files next = (name : List ℕ) (n : ℕ) (kind : FileType)
    → IsFileName name n kind → files (in_folder store name) ≢ None → n < next

-- if the path is that of a store's file, its number is below this
abbrev pub IsNumberedUpTo : List ℕ → List ℕ → ℕ → Type 0
IsNumberedUpTo store path next = (name : List ℕ) (n : ℕ) (kind : FileType)
    → path ≡ in_folder store name → IsFileName name n kind → n < next

-- A file of this type and number isn't needed any more: a log below the log number, a manifest
-- below the one in use, a table that isn't live, or a temporary file.
abbrev pub IsObsolete : VersionSetValue → FileType → ℕ → Type 0
IsObsolete set Log n = (n < set.log_number) × (n ≡ set.previous_log → n ≡ 0)
IsObsolete set Descriptor n = n < set.manifest_number
IsObsolete set Table n = Contains (map (λ file. file.number) set.full.added) n → ⊥
IsObsolete set Temp n = Unit {0}
IsObsolete set kind n = ⊥

-- ---- what is in memory

-- what an engine has in memory of the files that it writes
pub record EngineMemory : Type 0 where
  -- the version set, whose last sequence number is that of the last entry
  pub set : VersionSetValue
  -- the number of the log to which batches are appended
  pub log : ℕ
  -- the memtable: the entries of that log
  pub mem : List Entry
  -- the immutable memtable: those of the logs before it, which are to be in a table
  pub imm : List Entry

-- the memory after a switch: batches go to a log of the next number, and the entries of the one
-- before are the immutable memtable
abbrev pub switched_memory : EngineMemory → EngineMemory
switched_memory memory = record {
  set = with_number_given memory.set;
  log = memory.set.next_file;
  mem = [];
  imm = memory.mem;
}

-- the edit by which a table takes the place of the logs below a number
abbrev pub table_edit : ℕ → NewFile → Edit
table_edit log file = record empty_edit { log_number = Some log; added = file ∷ [] }

-- an entry of one of these logs whose number is below this one
abbrev pub IsInLogBelow : List ReplayedLog → ℕ → Entry → Type 0
IsInLogBelow logs n entry = (log : ReplayedLog) × Contains logs log × (log.number < n)
    × Contains (all_entries log.batches) entry

-- The entries in memory and in tables show what the history shows, from this number on, and the
-- newer ones of a key come first.
pub record ShowsHistory (cmp : List ℕ → List ℕ → Ordering) (memory : EngineMemory)
    (tables : List LiveTable) (history : History) (from : ℕ) : Type 0 where
  pub same : (t : ℕ) → from ≤ t
      → SameView (memory.mem ++ (memory.imm ++ table_entries tables))
      (entries_of history) t
  pub up_to : (entry : Entry)
      → Contains (memory.mem ++ (memory.imm ++ table_entries tables)) entry
      → entry.sequence ≤ greatest (entries_of history)
  pub imm_older : IsOlder memory.imm memory.mem
  pub tables_older : IsOlder (table_entries tables) (memory.mem ++ memory.imm)
  pub levels : LevelOrder cmp tables

-- ---- the files

-- `store` is the store's path, `cmp` the order of user keys, and `IsTableOf` says which bytes are a
-- table of which pairs.
module _ (store : List ℕ) (cmp : List ℕ → List ℕ → Ordering)
    (IsTableOf : List ℕ → List Pair → Type 0) where
  -- The files are a store by the edits of the manifest that `CURRENT` names, which the version set
  -- tracks, and each number of a file is below the next one.
  pub record IsTrackedBy (files : Files) (edits : List Edit) (set : VersionSetValue)
      : Type 0 where
    pub tracks : Tracks files edits set
    pub store_is : set.store ≡ store
    pub has_edits : HasEdits store files edits
    pub contents : Contents
    pub managed : IsManagedBy store cmp IsTableOf files edits contents
    pub numbers : NumbersAreBelow store files set.next_file
    -- so is the manifest's; where one is in use, it is the one that `CURRENT` names
    pub manifest_below : set.manifest_number < set.next_file
    pub number_is : (manifest : OpenManifest) → set.manifest ≡ in_use manifest → (name : List ℕ)
        (n : ℕ) → IsNamed store files name n → n ≡ set.manifest_number
    -- what was appended to each file are bytes
    pub bytes : AppendedAreBytes files

  -- The files are a store that an engine writes with this memory.
  pub record IsWrittenBy (files : Files) (edits : List Edit) (memory : EngineMemory)
      : Type 0 where
    pub tracked : IsTrackedBy files edits memory.set
    -- a manifest is in use
    pub manifest : OpenManifest
    pub is_in_use : memory.set.manifest ≡ in_use manifest
    -- batches may be appended to the log of this number, which is replayed
    pub writable : IsWritable store files edits
    pub log_is : writable.log.number ≡ memory.log
    -- it isn't below the set's log number, so that each log above it is replayed too
    pub from_log : memory.set.log_number ≤ memory.log
    -- it has the entries of the memtable, and the logs before it have those of the immutable one
    pub mem_is : SameEntries memory.mem (all_entries writable.log.batches)
    pub imm_is : (entry : Entry) → Contains memory.imm entry
        ↔ IsInLogBelow tracked.managed.logs memory.log entry
    -- no number of an entry is past the last one
    pub reached : tracked.contents.last ≤ memory.set.last_sequence
    pub last_fits : memory.set.last_sequence ≤ greatest_sequence

  -- The files are a store that an opening has recovered: the set tracks them, and the live tables
  -- and all logs that are replayed are kept.
  pub record IsRecoveredBy (files : Files) (edits : List Edit) (set : VersionSetValue)
      : Type 0 where
    pub tracked : IsTrackedBy files edits set
    pub kept : AreKept store (live_after edits) files
