-- What a store's files are: a manifest that `CURRENT` names, tables, and logs; and what is read of
-- them.
use Rattle.leveldb_table.specs.Table.{IsTable}
use Rattle.std.specs.Prelude.{◌≡◌, ◌≢◌, ◌<◌, ◌≤◌, ◌^◌, ◌⊎◌, ◌↔◌, Bool, true, ℕ, List, [], ◌∷◌, ◌++◌, length, max, flat_map, Option, Some, None, IsSome, Contains}
use Rattle.std.specs.declared.cmp.Ordering.{Ordering}
use Rattle.leveldb_base.specs.declared.key_types.ValueType.{ValueType}
use Rattle.leveldb_base.specs.declared.types.FileType.TheVariants.{Log, Table}
use Rattle.leveldb_base.specs.Cmp.{internal_accepts}
use Rattle.leveldb_base.specs.Entries.{value_of}
use Rattle.leveldb_base.specs.History.{Entry, greatest}
use Rattle.leveldb_base.specs.KeyTypes.{greatest_sequence, internal_cmp, internal_key, user_part}
use Rattle.leveldb_base.specs.Names.{IsFileName, file_name}
use Rattle.leveldb_base.specs.Types.{Pair}
use Rattle.leveldb_env.specs.Env.{File, Files, bytes_of, in_folder}
use Rattle.leveldb_mem.specs.Log.{End, bad, IsLogFile}
use Rattle.leveldb_mem.specs.WriteBatch.{Batch}
use Rattle.leveldb_files.specs.Stores.Batches.{Each, IsRecordOf, AreInOrder, all_entries}
use Rattle.leveldb_files.specs.Stores.Contents.{Contents, made, no_contents}
use Rattle.leveldb_files.specs.Edits.Current.{IsCurrentText}
use Rattle.leveldb_files.specs.Levels.Levels.{LiveTable, LevelOrder, table_entries}
use Rattle.leveldb_files.specs.Stores.Paths.{current_path, log_path, table_path}
use Rattle.leveldb_files.specs.Edits.Edit.{Edit, NewFile, IsEdit}
use Rattle.leveldb_files.specs.Edits.VersionSet.{FileSet, live_after, level_file}

-- ---- what is read

-- a log that is replayed: its number, its batches up to its first bad end, how it ends, and how
-- many bytes its file has
pub record ReplayedLog : Type 0 where
  pub number : ℕ
  pub batches : List Batch
  pub end : End
  pub size : ℕ

-- the number of each log is above those before it
abbrev pub LogsRise : List ReplayedLog → Type 0
LogsRise [] = Unit {0}
LogsRise (log ∷ logs) =
    ((later : ReplayedLog) → Contains logs later → log.number < later.number) × LogsRise logs

-- the batches of logs
abbrev pub log_batches : List ReplayedLog → List Batch
log_batches logs = flat_map (λ log. log.batches) logs

-- the entries of logs
abbrev pub log_entries : List ReplayedLog → List Entry
log_entries logs = all_entries (log_batches logs)

-- the contents of a store: all entries, and the greatest number that its manifest or a log knows of
abbrev pub contents_of : List ℕ → List LiveTable → List ReplayedLog → ℕ → Contents
contents_of comparator tables logs last = record {
  store = made (Some comparator);
  entries = table_entries tables ++ log_entries logs;
  last = max last (greatest (log_entries logs));
}

-- what tables, logs and the manifest's last sequence number have to do with one another
pub record FitTogether (cmp : List ℕ → List ℕ → Ordering) (tables : List LiveTable)
    (logs : List ReplayedLog) (last : ℕ) : Type 0 where
  -- each batch begins above 0 and above all entries before it, in whatever log they are
  pub rise : AreInOrder 0 (log_batches logs)
  -- a bad end of a log ends the history: the logs after it are empty
  pub ends : (a b : ReplayedLog) → Contains logs a → Contains logs b → a.number < b.number
      → a.end ≡ bad → b.size ≡ 0
  -- the entries of tables have numbers from 1 to the last one
  pub numbered : (entry : Entry) → Contains (table_entries tables) entry
      → (0 < entry.sequence) × (entry.sequence ≤ last)
  -- each entry of a table is below each of a log
  pub below : (entry later : Entry) → Contains (table_entries tables) entry
      → Contains (log_entries logs) later → entry.sequence < later.sequence
  -- the levels are in order
  pub levels : LevelOrder cmp tables

-- ---- logs and the manifest

-- no edit sets a last sequence number that an entry can't have
abbrev pub LastNumbersFit : List Edit → Type 0
LastNumbersFit edits = (edit : Edit) (n : ℕ) → Contains edits edit → edit.last_sequence ≡ Some n
    → n ≤ greatest_sequence

-- the manifest says that a log of this number is replayed: its log number, and each one above it;
-- and the previous log's where that isn't 0
abbrev pub LogIsReplayed : FileSet → ℕ → Type 0
LogIsReplayed set n = ((log : ℕ) × (set.log_number ≡ Some log) × (log ≤ n))
    ⊎ ((set.previous_log ≡ Some n) × (0 < n))

-- a file is this log, read to its first bad end
pub record IsLog (file : File) (log : ReplayedLog) : Type 0 where
  pub records : List (List ℕ)
  pub read : IsLogFile (bytes_of file) records log.end
  pub each : Each IsRecordOf records log.batches
  pub size : log.size ≡ length (bytes_of file)

-- a file is a manifest of these edits, read to its first bad end
pub record IsManifest (file : File) (edits : List Edit) : Type 0 where
  pub records : List (List ℕ)
  pub end : End
  pub read : IsLogFile (bytes_of file) records end
  pub each : Each IsEdit records edits

-- `CURRENT` names a manifest, which has these edits
pub record HasEdits (store : List ℕ) (files : Files) (edits : List Edit) : Type 0 where
  pub current : File
  pub current_there : files (current_path store) ≡ Some current
  pub name : List ℕ
  pub number : ℕ
  pub named : IsCurrentText (bytes_of current) name number
  pub manifest : File
  pub there : files (in_folder store name) ≡ Some manifest
  pub is : IsManifest manifest edits

-- the log is there, under the name that a store gives to it
abbrev pub HasLog : List ℕ → Files → ReplayedLog → Type 0
HasLog store files log =
    (file : File) × (files (log_path store log.number) ≡ Some file) × IsLog file log

-- the logs are those that are replayed, in rising order
pub record HasLogs (store : List ℕ) (files : Files) (set : FileSet) (logs : List ReplayedLog)
    : Type 0 where
  pub each : (log : ReplayedLog) → Contains logs log
      → HasLog store files log × LogIsReplayed set log.number × (log.number < 2 ^ 64)
  -- none is left out, nor is one there under another name of its number
  pub all : (name : List ℕ) (n : ℕ) → IsFileName name n Log → LogIsReplayed set n
      → files (in_folder store name) ≢ None
      → (name ≡ file_name Log n)
      × ((log : ReplayedLog) × Contains logs log × (log.number ≡ n))
  pub rising : LogsRise logs

-- ---- tables

-- A pair of a table is this entry: the key with its number and kind, and the value. The bytes
-- beside a deletion's key are ignored.
pub record IsInternalPair (pair : Pair) (entry : Entry) : Type 0 where
  pub kind : ValueType
  pub key : pair.0 ≡ internal_key entry.key entry.sequence kind
  pub value : entry.value ≡ value_of kind pair.1
  pub fits : entry.sequence < 2 ^ 56

-- the first key of pairs
abbrev pub IsFirstKey : List ℕ → List Pair → Type 0
IsFirstKey key pairs = (value : List ℕ) × (rest : List Pair) × (pairs ≡ (key, value) ∷ rest)

-- the last key of pairs
abbrev pub IsLastKey : List ℕ → List Pair → Type 0
IsLastKey key pairs = (front : List Pair) × (value : List ℕ) × (pairs ≡ front ++ (key, value) ∷ [])

-- any bytes are a user key
abbrev pub any_user_key : List ℕ → Bool
any_user_key key = true

-- Bytes are a table of these pairs, in the order of internal keys, each with its tag, and with
-- filters that let their user keys pass. `Decodes` says what compressors decode, `cmp` is the order
-- of user keys, and `meaning` says of the name of a filter policy what its filters mean.
abbrev pub IsStoreTable : (ℕ → List ℕ → List ℕ → Type 0) → (List ℕ → List ℕ → Ordering)
    → (List ℕ → Option (List ℕ → List ℕ → Bool)) → List ℕ → List Pair → Type 0
IsStoreTable Decodes cmp meaning bytes pairs =
    IsTable Decodes (internal_accepts any_user_key) (internal_cmp cmp) meaning user_part bytes pairs

-- ---- the store

-- no store is there: neither `CURRENT` nor a table nor a log
pub record HasNoStore (store : List ℕ) (files : Files) : Type 0 where
  pub no_current : files (current_path store) ≡ None
  pub no_table : (name : List ℕ) (n : ℕ) → IsFileName name n Table
      → files (in_folder store name) ≡ None
  pub no_log : (name : List ℕ) (n : ℕ) → IsFileName name n Log
      → files (in_folder store name) ≡ None

-- `store` is the store's path, `cmp` the order of user keys, and `IsTableOf` says which bytes are a
-- table of which pairs.
module _ (store : List ℕ) (cmp : List ℕ → List ℕ → Ordering)
    (IsTableOf : List ℕ → List Pair → Type 0) where
  -- the table's file is there, under the name that a store gives to it: it is a table of these
  -- entries, and has the size, the first and the last key that its edit says
  pub record HasTable (files : Files) (table : LiveTable) : Type 0 where
    pub file : File
    pub there : files (table_path store table.file.number) ≡ Some file
    pub pairs : List Pair
    pub read : IsTableOf (bytes_of file) pairs
    pub each : Each IsInternalPair pairs table.entries
    pub size : length (bytes_of file) ≡ table.file.size
    pub smallest : IsFirstKey table.file.smallest pairs
    pub largest : IsLastKey table.file.largest pairs

  -- the tables are those that are live
  pub record HasTables (files : Files) (set : FileSet) (tables : List LiveTable) : Type 0 where
    pub each : (table : LiveTable) → Contains tables table
        → HasTable files table × (set.file (level_file table.file) ≡ Some table.file)
        × (table.file.number < 2 ^ 64)
    pub all : (file : NewFile) → set.file (level_file file) ≡ Some file
        → (table : LiveTable) × Contains tables table × (table.file ≡ file)

  -- By these edits the files are a store with these contents. The edits name the comparator, the
  -- log number, the next file's and the last sequence number.
  pub record IsManagedBy (files : Files) (edits : List Edit) (contents : Contents) : Type 0 where
    pub comparator : List ℕ
    pub comparator_is : (live_after edits).comparator ≡ Some comparator
    pub log_is : IsSome (live_after edits).log_number
    pub next_file_is : IsSome (live_after edits).next_file
    pub last : ℕ
    pub last_is : (live_after edits).last_sequence ≡ Some last
    pub numbers_fit : LastNumbersFit edits
    pub tables : List LiveTable
    pub has_tables : HasTables files (live_after edits) tables
    pub logs : List ReplayedLog
    pub has_logs : HasLogs store files (live_after edits) logs
    pub fit : FitTogether cmp tables logs last
    pub is : contents ≡ contents_of comparator tables logs last

  -- the files are a store with these contents, by the edits of the manifest that `CURRENT` names
  pub record IsManaged (files : Files) (contents : Contents) : Type 0 where
    pub edits : List Edit
    pub has_edits : HasEdits store files edits
    pub managed : IsManagedBy files edits contents

  -- the files are a store with these contents, or none is there
  abbrev pub IsStore : Files → Contents → Type 0
  IsStore files contents =
      (HasNoStore store files × (contents ≡ no_contents)) ⊎ IsManaged files contents

-- ---- the same contents

-- the same set of entries
abbrev pub SameEntries : List Entry → List Entry → Type 0
SameEntries these those = (entry : Entry) → Contains these entry ↔ Contains those entry

-- the same contents, with entries in any order
pub record SameContents (these those : Contents) : Type 0 where
  pub store : these.store ≡ those.store
  pub entries : SameEntries these.entries those.entries
  pub last : these.last ≡ those.last

-- bytes are a table of one list of pairs
abbrev pub OneTableReading : (List ℕ → List Pair → Type 0) → Type 0
OneTableReading IsTableOf = (bytes : List ℕ) (these those : List Pair)
    → IsTableOf bytes these → IsTableOf bytes those → these ≡ those
