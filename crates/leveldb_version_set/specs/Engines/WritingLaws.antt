-- What each step of an engine makes of a store that it has open: the statements that the contracts
-- of module `laws::writing` name.
use Rattle.std.specs.Prelude.{◌≡◌, ◌<◌, ◌≤◌, ◌+◌, ◌^◌, ℕ, List, [], ◌∷◌, ◌++◌, length, Option, None, Some, Contains}
use Rattle.std.specs.Cmp.{IsTotalOrder}
use Rattle.std.specs.declared.cmp.Ordering.{Ordering}
use Rattle.leveldb_base.specs.declared.types.FileType.{FileType}
use Rattle.leveldb_base.specs.History.{Entry, History, Item, entries_of, greatest, placed}
use Rattle.leveldb_base.specs.KeyTypes.{greatest_sequence}
use Rattle.leveldb_base.specs.Names.{IsFileName, MayHaveNumber, file_path}
use Rattle.leveldb_base.specs.Types.{Pair}
use Rattle.leveldb_env.specs.Env.{AreBytes, BeforeOrAfter, Files, PrefixAppended, SameBut, bytes_of, emptied, extended, in_folder, kept_file, synced}
use Rattle.leveldb_mem.specs.Log.{frame_at}
use Rattle.leveldb_mem.specs.Log.Writer.{frame}
use Rattle.leveldb_mem.specs.WriteBatch.{BatchOf}
use Rattle.leveldb_files.specs.Stores.Contents.{Store}
use Rattle.leveldb_files.specs.Histories.Holds.{Holds}
use Rattle.leveldb_files.specs.Levels.Levels.{CanBeAdded, IsBounded, LiveTable}
use Rattle.leveldb_version_set.specs.Sets.LogEdit.{AppendingAndSyncing, edit_record, set_appended, with_bytes_kept, written_edit}
use Rattle.leveldb_files.specs.Stores.Paths.{log_path, table_path}
use Rattle.leveldb_files.specs.Stores.Store.{HasTable, HasTables, IsStore, OneTableReading, SameEntries}
use Rattle.leveldb_files.specs.Steps.StoreSteps.{AppendedAreBytes, IsKept, IsUnread, KeepsHistory, MakesFile}
use Rattle.leveldb_files.specs.Edits.Edit.{Edit, NewFile}
use Rattle.leveldb_files.specs.Edits.VersionSet.{level_file, live_after}
use Rattle.leveldb_version_set.specs.Sets.VersionSetValue.{VersionSetValue, with_number_given}
use Rattle.leveldb_version_set.specs.Engines.Writing.{EngineMemory, IsNumberedUpTo, IsObsolete, IsTrackedBy, IsWrittenBy, ShowsHistory, switched_memory, table_edit}

module _ (store : List ℕ) (cmp : List ℕ → List ℕ → Ordering)
    (IsTableOf : List ℕ → List Pair → Type 0) where
  -- ---- files that the set doesn't know yet

  -- there is no file of a number that wasn't given yet
  abbrev pub NextNumbersAreFree : Type 0
  NextNumbersAreFree = (files : Files) (edits : List Edit) (set : VersionSetValue)
      → IsTrackedBy store cmp IsTableOf files edits set → (kind : FileType) (n : ℕ)
      → set.next_file ≤ n → MayHaveNumber kind n → files (file_path store kind n) ≡ None

  -- the number of each live table is below the next one
  abbrev pub LiveNumbersAreBelow : Type 0
  LiveNumbersAreBelow = (files : Files) (edits : List Edit) (set : VersionSetValue)
      → IsTrackedBy store cmp IsTableOf files edits set → (file : NewFile) → file.number < 2 ^ 64
      → (live_after edits).file (level_file file) ≡ Some file → file.number < set.next_file

  -- where the number of a name is below this one, so is that of each name with its path
  abbrev pub NamesAreNumbered : Type 0
  NamesAreNumbered = (name : List ℕ) (n : ℕ) (kind : FileType) → IsFileName name n kind
      → (next : ℕ) → n < next → IsNumberedUpTo store (in_folder store name) next

  -- ---- a store that is tracked stays so

  -- a number is given
  abbrev pub TrackedAfterGiving : Type 0
  TrackedAfterGiving = (files : Files) (edits : List Edit) (set : VersionSetValue)
      → IsTrackedBy store cmp IsTableOf files edits set
      → IsTrackedBy store cmp IsTableOf files edits (with_number_given set)

  -- a log is synced
  abbrev pub TrackedAfterSyncs : Type 0
  TrackedAfterSyncs = (files : Files) (edits : List Edit) (set : VersionSetValue)
      → IsTrackedBy store cmp IsTableOf files edits set → (n : ℕ) → n < 2 ^ 64
      → IsTrackedBy store cmp IsTableOf (synced (log_path store n) files) edits set

  -- a log is made of a number that was given, above those of all logs
  abbrev pub TrackedAfterNewLogs : Type 0
  TrackedAfterNewLogs = (files : Files) (edits : List Edit) (set : VersionSetValue)
      → IsTrackedBy store cmp IsTableOf files edits set → set.next_file + 1 < 2 ^ 64
      → (now : Files) → MakesFile (log_path store set.next_file) files now
      → IsTrackedBy store cmp IsTableOf now edits (with_number_given set)

  -- a file changes that isn't read
  abbrev pub TrackedAfterUnread : Type 0
  TrackedAfterUnread = (files : Files) (edits : List Edit) (set : VersionSetValue)
      → IsTrackedBy store cmp IsTableOf files edits set → (path : List ℕ)
      → IsUnread store files path → IsNumberedUpTo store path set.next_file → (now : Files)
      → SameBut path files now → AppendedAreBytes now
      → IsTrackedBy store cmp IsTableOf now edits set

  -- ---- a store that is written stays so

  -- the log is synced
  abbrev pub WrittenAfterSyncs : Type 0
  WrittenAfterSyncs = (files : Files) (edits : List Edit) (memory : EngineMemory)
      → IsWrittenBy store cmp IsTableOf files edits memory
      → IsWrittenBy store cmp IsTableOf (synced (log_path store memory.log) files) edits memory

  -- a file changes that isn't read
  abbrev pub WrittenAfterUnread : Type 0
  WrittenAfterUnread = (files : Files) (edits : List Edit) (memory : EngineMemory)
      → IsWrittenBy store cmp IsTableOf files edits memory → (path : List ℕ)
      → IsUnread store files path → IsNumberedUpTo store path memory.set.next_file → (now : Files)
      → SameBut path files now → AppendedAreBytes now
      → IsWrittenBy store cmp IsTableOf now edits memory

  -- a number is given
  abbrev pub WrittenAfterGiving : Type 0
  WrittenAfterGiving = (files : Files) (edits : List Edit) (memory : EngineMemory)
      → IsWrittenBy store cmp IsTableOf files edits memory
      → IsWrittenBy store cmp IsTableOf files edits
      (record memory { set = with_number_given memory.set })

  -- ---- which files aren't read

  -- what is missing under the name of a table
  abbrev pub NewTablesAreUnread : Type 0
  NewTablesAreUnread = (files : Files) (edits : List Edit) (memory : EngineMemory)
      → IsWrittenBy store cmp IsTableOf files edits memory → (n : ℕ) → n < 2 ^ 64
      → files (table_path store n) ≡ None → IsUnread store files (table_path store n)

  -- what is obsolete
  abbrev pub ObsoleteFilesAreUnread : Type 0
  ObsoleteFilesAreUnread = (files : Files) (edits : List Edit) (memory : EngineMemory)
      → IsWrittenBy store cmp IsTableOf files edits memory → (name : List ℕ) (n : ℕ)
      (kind : FileType) → IsFileName name n kind → IsObsolete memory.set kind n
      → IsUnread store files (in_folder store name)

  -- ---- the table of the immutable memtable

  -- A table that is kept has exactly the entries of the immutable memtable, and it may be added to
  -- the live ones.
  pub record HasImm (files : Files) (edits : List Edit) (memory : EngineMemory)
      (table : LiveTable) : Type 0 where
    pub has : HasTable store cmp IsTableOf files table
    pub kept : IsKept (files (table_path store table.file.number))
    pub level_fits : table.file.level < 7
    pub entries : SameEntries table.entries memory.imm
    pub added : (tables : List LiveTable)
        → HasTables store cmp IsTableOf files (live_after edits) tables
        → CanBeAdded cmp tables table

  -- the keys of each table that is there are in the range of its file
  abbrev pub TablesAreInRange : Type 0
  TablesAreInRange = (files : Files) (table : LiveTable)
      → HasTable store cmp IsTableOf files table → IsBounded cmp table

  -- a table of the immutable memtable may be added to level 0, if its number is above those of all
  -- live tables
  abbrev pub ImmMayGoToLevelZero : Type 0
  ImmMayGoToLevelZero = TablesAreInRange → (files : Files) (edits : List Edit)
      (memory : EngineMemory) → IsWrittenBy store cmp IsTableOf files edits memory
      → (table : LiveTable) → HasTable store cmp IsTableOf files table → table.file.level ≡ 0
      → SameEntries table.entries memory.imm
      → ((file : NewFile) → file.number < 2 ^ 64
      → (live_after edits).file (level_file file) ≡ Some file
      → file.number < table.file.number)
      → (tables : List LiveTable) → HasTables store cmp IsTableOf files (live_after edits) tables
      → OneTableReading IsTableOf → CanBeAdded cmp tables table

  module _ (allowed : Store → Type 0) where
    -- the files are a store that holds the history
    abbrev pub Keeps : ℕ → Files → Files → Type 0
    Keeps = KeepsHistory store cmp IsTableOf allowed

    -- ---- a switch

    -- What making a log of the next number leaves, at each moment.
    pub record NewLogIsWritten (files : Files) (edits : List Edit) (memory : EngineMemory)
        (now : Files) : Type 0 where
      -- each history is kept
      pub keeps : (bound : ℕ) → Keeps bound files now
      -- the engine may go on with the log that it has
      pub stays : IsWrittenBy store cmp IsTableOf now edits
          (record memory { set = with_number_given memory.set })
      -- or with the new one, if that is there, the log before is kept, and the immutable memtable
      -- has no entries yet
      pub switches : now (log_path store memory.set.next_file) ≡ Some (kept_file [])
          → IsKept (files (log_path store memory.log)) → memory.imm ≡ []
          → IsWrittenBy store cmp IsTableOf now edits (switched_memory memory)

    -- a log of the next number may be made
    abbrev pub NewLogsAreWritten : Type 0
    NewLogsAreWritten = (files : Files) (edits : List Edit) (memory : EngineMemory)
        → IsWrittenBy store cmp IsTableOf files edits memory → memory.set.next_file + 1 < 2 ^ 64
        → (now : Files) → BeforeOrAfter (emptied (log_path store memory.set.next_file)) files now
        → NewLogIsWritten files edits memory now

    -- ---- the table's edit

    -- What logging the table's edit leaves: each history is kept at each moment, and after it the
    -- immutable memtable has no entries any more.
    pub record ImmBecomesTable (files : Files) (edits : List Edit) (memory : EngineMemory)
        (w : IsWrittenBy store cmp IsTableOf files edits memory) (edit : Edit) : Type 0 where
      pub keeps : (bound : ℕ) → memory.set.last_sequence ≤ bound → (now : Files)
          → AppendingAndSyncing w.manifest.path
          (frame w.manifest.writer (edit_record memory.set edit)) files now
          → Keeps bound files now
      pub after : IsWrittenBy store cmp IsTableOf
          (with_bytes_kept w.manifest.path (frame w.manifest.writer (edit_record memory.set edit))
          files)
          (edits ++ written_edit memory.set edit ∷ [])
          (record memory { set = set_appended w.manifest memory.set edit; imm = [] })

    -- the table's edit may be logged
    abbrev pub ImmBecomesTableByEdits : Type 0
    ImmBecomesTableByEdits = OneTableReading IsTableOf → IsTotalOrder cmp → TablesAreInRange
        → (files : Files) (edits : List Edit) (memory : EngineMemory)
        (w : IsWrittenBy store cmp IsTableOf files edits memory) (table : LiveTable)
        → HasImm files edits memory table
        → memory.set.next_file < 2 ^ 64 → table.file.number < 2 ^ 64 → table.file.size < 2 ^ 64
        → AreBytes table.file.smallest → AreBytes table.file.largest
        → ImmBecomesTable files edits memory w (table_edit memory.log table.file)

    -- ---- batches

    -- the files hold the history
    abbrev pub HoldsHistory : Files → History → ℕ → ℕ → Option (List Entry) → Type 0
    HoldsHistory = Holds store (IsStore store cmp IsTableOf) allowed

    -- While a batch is appended to the log it is pending; after it the history and the log have it.
    pub record BatchIsWritten (files : Files) (edits : List Edit) (memory : EngineMemory)
        (w : IsWrittenBy store cmp IsTableOf files edits memory) (history : History)
        (durable : ℕ) (items : List Item) (text : List ℕ) : Type 0 where
      pub meanwhile : (now : Files)
          → PrefixAppended (log_path store memory.log)
          (frame_at (length (bytes_of w.writable.log.file)) text) files now
          → HoldsHistory now history memory.set.last_sequence durable
          (Some (placed (memory.set.last_sequence + 1) items))
      pub after : HoldsHistory
          (extended (log_path store memory.log)
          (frame_at (length (bytes_of w.writable.log.file)) text) files)
          (history ++ placed (memory.set.last_sequence + 1) items ∷ [])
          (memory.set.last_sequence + length items) durable None
      pub written : AreBytes (frame_at (length (bytes_of w.writable.log.file)) text)
          → (mem : List Entry)
          → SameEntries mem (memory.mem ++ placed (memory.set.last_sequence + 1) items)
          → IsWrittenBy store cmp IsTableOf
          (extended (log_path store memory.log)
          (frame_at (length (bytes_of w.writable.log.file)) text) files) edits
          (record memory {
            set = record memory.set {
              last_sequence = memory.set.last_sequence + length items;
            };
            mem = mem;
          })

    -- a batch that takes the next numbers may be appended to the log
    abbrev pub BatchesAreWritten : Type 0
    BatchesAreWritten = OneTableReading IsTableOf → (files : Files) (edits : List Edit)
        (memory : EngineMemory) (w : IsWrittenBy store cmp IsTableOf files edits memory)
        (history : History) (durable : ℕ)
        → HoldsHistory files history memory.set.last_sequence durable None
        → (items : List Item) (text : List ℕ)
        → BatchOf text (memory.set.last_sequence + 1) items
        → memory.set.last_sequence + 1 ≤ greatest_sequence
        → memory.set.last_sequence + length items ≤ greatest_sequence
        → BatchIsWritten files edits memory w history durable items text

    -- a sync of the log makes all of the history durable
    abbrev pub SyncedLogsAreDurable : Type 0
    SyncedLogsAreDurable = (files : Files) (edits : List Edit) (memory : EngineMemory)
        → IsWrittenBy store cmp IsTableOf files edits memory → (history : History) (durable : ℕ)
        → HoldsHistory files history memory.set.last_sequence durable None
        → HoldsHistory (synced (log_path store memory.log) files) history
        memory.set.last_sequence (length history) None

    -- ---- what is shown

    -- a store that is written shows what it holds
    abbrev pub WrittenIsShown : Type 0
    WrittenIsShown = OneTableReading IsTableOf → (files : Files) (edits : List Edit)
        (memory : EngineMemory) → IsWrittenBy store cmp IsTableOf files edits memory
        → (history : History) (last durable : ℕ) → HoldsHistory files history last durable None
        → (tables : List LiveTable) → HasTables store cmp IsTableOf files (live_after edits) tables
        → ShowsHistory cmp memory tables history (greatest (entries_of history))

-- ---- what is shown after a table

module _ (cmp : List ℕ → List ℕ → Ordering) where
  -- what was shown is shown with the table in place of the immutable memtable
  abbrev pub NewTableIsShown : Type 0
  NewTableIsShown = (memory : EngineMemory) (table : LiveTable) (tables : List LiveTable)
      (history : History) (from : ℕ) → IsTotalOrder cmp
      → SameEntries table.entries memory.imm → CanBeAdded cmp tables table
      → ((one : LiveTable) → Contains tables one → IsBounded cmp one)
      → ShowsHistory cmp memory tables history from
      → ShowsHistory cmp (record memory { imm = [] }) (table ∷ tables) history from

  -- memory may have the same entries in another order
  abbrev pub SameMemoryShows : Type 0
  SameMemoryShows = (memory other : EngineMemory) (tables : List LiveTable) (history : History)
      (from : ℕ) → SameEntries memory.mem other.mem
      → SameEntries memory.imm other.imm
      → ShowsHistory cmp memory tables history from
      → ShowsHistory cmp other tables history from
