-- What a look-up in an open store returns and leaves, and why it fails.
use Rattle.std.specs.Prelude.{◌≡◌, ◌≤◌, ◌++◌, ◌⊎◌, ℕ, List, Option, None, Some, Result, Ok, Err, IfErr, IfOk, IsTrue, false, min}
use Rattle.leveldb_base.specs.Entries.{FindsNewest, is_absent, value_found}
use Rattle.leveldb_base.specs.declared.types.Lookup.{Lookup}
use Rattle.leveldb_base.specs.declared.types.Lookup.TheVariants.{Absent}
use Rattle.leveldb_base.specs.Error.{IsOutOfMemory}
use Rattle.leveldb_base.specs.History.{Entry, History, IsValueAt, entries_of}
use Rattle.leveldb_base.specs.KeyTypes.{greatest_sequence, internal_key}
use Rattle.leveldb_base.specs.Layers.{IsOlder}
use Rattle.leveldb_base.specs.declared.cmp.Cmp.{Ghosts as CmpGhosts}
use Rattle.leveldb_base.specs.declared.cmp.internal.InternalKeyCmp.{InternalKeyCmp}
use Rattle.leveldb_base.specs.declared.error.Status.{Status}
use Rattle.leveldb_base.specs.declared.error.StatusCode.TheVariants.{NotSupported}
use Rattle.leveldb_base.specs.declared.key_types.ValueType.TheVariants.{TypeValue}
use Rattle.leveldb_env.specs.declared.env.Env.{Ghosts}
use Rattle.leveldb_table.specs.TableBlock.{FailsFor, ReadsFile}
use Rattle.leveldb_files.specs.Stores.Format.{Agrees, IsTableFault, LacksCompressor, Meaning}
use Rattle.leveldb_files.specs.Levels.Levels.{LevelOrder, LiveTable}
use Rattle.leveldb_version.specs.Versions.Search.{AreAllTried, AreDisjointLevels, AreTriedFirst, FindsInLast, LooksUpNewest}
use Rattle.leveldb_version.specs.Tables.TableCache.{TableOptions, files_at}
use Rattle.leveldb_version.specs.Versions.Version.{charged, new_files_of}
use Rattle.leveldb_files.specs.Edits.Edit.{LevelFile, NewFile}
use Rattle.leveldb_version.specs.declared.table_cache.TableCache.{TableCache}
use Rattle.leveldb_version.specs.declared.version.GetStats.{GetStats}
use Rattle.leveldb_store.specs.Keeping.OpenStore.{OpenStoreValue}
use Rattle.leveldb_store.specs.Keeping.OpenTables.{AreOpenTablesOf}
use Rattle.leveldb_store.specs.Keeping.Written.{HasLiveTables, HasView, imm_entries}

-- ---- what is searched for

-- the entries in memory
abbrev pub in_memory : {C : Type 0} → OpenStoreValue C → List Entry
in_memory value = value.mem.entries ++ imm_entries value.imm

-- what memory has of a key at a number, if the immutable memtable has the older entries: a value, a
-- deletion, or nothing
abbrev pub FindsInMemory : {C : Type 0} → OpenStoreValue C → ℕ → List ℕ
    → Lookup (List ℕ) → Type 0
FindsInMemory value sequence key found =
    IsOlder (imm_entries value.imm) value.mem.entries
    → FindsNewest (in_memory value) sequence key found

-- the internal key that is searched for in tables; no entry has a number past the greatest
abbrev pub sought_key : ℕ → List ℕ → List ℕ
sought_key sequence key = internal_key key (min sequence greatest_sequence) TypeValue

-- the file that a search charges with a seek, if one
abbrev pub charge_of : Result (Lookup (List ℕ) × GetStats) Status → Option LevelFile
charge_of (Ok searched) = searched.1.file
charge_of (Err status) = None

-- what a look-up returns by what the search finds: the value, or none
abbrev pub value_searched : Result (Lookup (List ℕ) × GetStats) Status
    → Result (Option (List ℕ)) Status
value_searched (Ok searched) = Ok (value_found searched.0)
value_searched (Err status) = Err status

-- the store once a file of its version is charged with a seek
abbrev pub with_charge : {C : Type 0} → OpenStoreValue C → Option LevelFile → OpenStoreValue C
with_charge value charge = record value { current = (charged value.current charge).0 }

-- ---- the call

-- `by` says what tables are opened with; the store, the environment and the open tables are those
-- at the beginning.
module _ {E F C FP : Type 0} (order : CmpGhosts (InternalKeyCmp C)) (env : Ghosts E F)
    (by : TableOptions C FP) (old : OpenStoreValue C) (from : E)
    (tables : TableCache E C FP F) where
  -- the disk is modelled, and the open tables are those of the store
  pub record HasOpenTables : Type 0 where
    pub modelled : IsTrue env.models_disk
    pub are : AreOpenTablesOf order env by old.set (files_at env from) tables

  -- the live tables are there in their levels, by what names and ids mean, and the open ones are
  -- the store's
  pub record HasTablesToRead (meaning : Meaning) (live : List LiveTable) : Type 0 where
    pub agrees : Agrees by.format meaning
    pub has_open : HasOpenTables
    pub has_live : HasLiveTables by.format.order meaning old (files_at env from) live
    pub levels : LevelOrder by.format.order live

  -- A value of a key, or none, is found in tables and passes over none that can't be read: these
  -- are the first of the version's files that may have the key, in order; of each the table was
  -- read, and has nothing of the key unless it is the last.
  pub record PassesOverNone (sequence : ℕ) (key : List ℕ) (value : Option (List ℕ)) : Type 0 where
    pub looked : List NewFile
    pub first : AreTriedFirst by.format.order key (new_files_of old.current) looked
    pub found : Lookup (List ℕ)
    pub value_is : value ≡ value_found found
    pub finds : HasOpenTables
        → FindsInLast order env by (sought_key sequence key) from tables looked found
    pub all : found ≡ Absent → AreAllTried by.format.order key (new_files_of old.current) looked

  module _ (sequence : ℕ) (key : List ℕ) (result : Result (Option (List ℕ)) Status)
      (new : OpenStoreValue C) (to : E) (now : TableCache E C FP F) where
    -- Memory has the key, whose value is copied. Nothing changes.
    pub record GetsFromMemory : Type 0 where
      pub found : Lookup (List ℕ)
      pub there : is_absent found ≡ false
      pub finds : FindsInMemory old sequence key found
      pub copy : IfOk result (λ copy. copy ≡ value_found found)
      pub memory : IfErr result IsOutOfMemory
      pub nothing_changes : (new ≡ old) × (to ≡ from) × (now ≡ tables)

    -- Memory lacks the key, which is searched for in the tables of the version, whose levels are
    -- apart. The file that the search charges has one seek less then, and nothing else of the store
    -- changes.
    pub record GetsFromTables : Type 0 where
      pub none : FindsInMemory old sequence key Absent
      pub apart : AreDisjointLevels by.format.order (new_files_of old.current)
      pub searched : Result (Lookup (List ℕ) × GetStats) Status
      pub searches : LooksUpNewest order env by (sought_key sequence key) from tables old.current
          searched to now
      pub result_is : result ≡ value_searched searched
      pub charges : new ≡ with_charge old (charge_of searched)

    -- what a look-up of a key at a number returns and leaves
    pub record LooksUpKey : Type 0 where
      -- the key's value at that number, or none, in each history that memory and tables show from
      -- that number on, or from one before it
      pub finds : HasOpenTables → (meaning : Meaning) → Agrees by.format meaning
          → (history : History) (since : ℕ) → since ≤ sequence
          → HasView by.format.order meaning old (files_at env from) history since
          → IfOk result (IsValueAt (entries_of history) sequence key)
      -- No file changes, nor does a lock. An error is out of memory, a table that can't be read,
      -- which counts no failure, or a failure that was counted.
      pub reads : ReadsFile env (λ status. IsTableFault by.format status.code) from to result
      -- where the live tables are there, that is since the format lacks a compressor
      pub lacks : (meaning : Meaning) (live : List LiveTable) → HasTablesToRead meaning live
          → FailsFor env (λ status. (status.code ≡ NotSupported)
          × LacksCompressor by.format meaning) from to result
      -- the open tables are those of the store still
      pub still_open : HasOpenTables → AreOpenTablesOf order env by new.set (files_at env to) now
      -- memory first, and then the tables
      pub way : GetsFromMemory ⊎ GetsFromTables
