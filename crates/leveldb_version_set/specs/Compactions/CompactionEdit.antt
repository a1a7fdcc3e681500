-- The edit of a compaction, and that it may be logged.
use Rattle.std.specs.Prelude.{◌≡◌, ◌≢◌, ◌≤◌, ◌<◌, ◌+◌, ◌^◌, ◌↔◌, ℕ, Bool, List, [], ◌∷◌, ◌++◌, Some, None, Contains}
use Rattle.std.specs.Cmp.{IsTotalOrder}
use Rattle.std.specs.List.Sorted.{IsStrictlySortedBy}
use Rattle.std.specs.declared.cmp.Ordering.{Ordering}
use Rattle.std.specs.declared.cmp.Ordering.TheVariants.{Less}
use Rattle.leveldb_base.specs.KeyTypes.{internal_cmp}
use Rattle.leveldb_base.specs.Thinning.{Drops}
use Rattle.leveldb_base.specs.Types.{Pair}
use Rattle.leveldb_env.specs.Env.{AreBytes, Files}
use Rattle.leveldb_mem.specs.Log.Writer.{frame}
use Rattle.leveldb_version_set.specs.Compactions.Compaction.{AreKnownByNumber, Compacts, IsCompaction, MayCompact, ReplacesInputs, files_of_tables, moved}
use Rattle.leveldb_version.specs.Versions.DeeperLevels.{IsBaseLevelFor}
use Rattle.leveldb_files.specs.Stores.Contents.{Store}
use Rattle.leveldb_files.specs.Levels.Levels.{AreDisjoint, LiveTable, table_entries}
use Rattle.leveldb_version_set.specs.Sets.LogEdit.{AppendingAndSyncing, edit_record, set_appended, with_bytes_kept, written_edit}
use Rattle.leveldb_files.specs.Stores.Paths.{table_path}
use Rattle.leveldb_files.specs.Stores.Store.{HasTable, HasTables, OneTableReading}
use Rattle.leveldb_files.specs.Steps.StoreSteps.{EditRefines, IsKept, KeepsHistory, TablesAreKept}
use Rattle.leveldb_files.specs.Edits.Edit.{Edit, FieldFits, IsEncodable, LevelFile, NewFile, Pointer, adds, empty_edit, file_order}
use Rattle.leveldb_files.specs.Edits.VersionSet.{FileSet, level_file, live_after}
use Rattle.leveldb_version_set.specs.Sets.VersionSetValue.{VersionSetValue}
use Rattle.leveldb_version_set.specs.Engines.Writing.{EngineMemory, IsWrittenBy}
use Rattle.leveldb_version_set.specs.Engines.WritingLaws.{TablesAreInRange}

-- ---- the edit

-- A compaction's edit deletes the files of its inputs and adds those of its outputs. It names the
-- log that is written, and may set compaction pointers.
pub record IsCompactionEdit (log : ℕ) (inputs outputs : List LiveTable) (edit : Edit)
    : Type 0 where
  pub comparator : edit.comparator ≡ None
  pub log_number : edit.log_number ≡ Some log
  pub deleted : (at : LevelFile) → Contains edit.deleted at
      ↔ ((table : LiveTable) × Contains inputs table × (level_file table.file ≡ at))
  pub added : (file : NewFile) → Contains edit.added file
      ↔ ((table : LiveTable) × Contains outputs table × (table.file ≡ file))

-- such an edit, as a caller gives it to the set, which adds its numbers
abbrev pub compaction_edit : ℕ → List Pointer → List LevelFile → List NewFile → Edit
compaction_edit log pointers deleted added = record empty_edit {
  log_number = Some log;
  pointers = pointers;
  deleted = deleted;
  added = added;
}

-- it sets the level's pointer to the greatest key of its inputs of that level
pub record SetsPointer (cmp : List ℕ → List ℕ → Ordering) (level : ℕ) (inputs : List NewFile)
    (edit : Edit) : Type 0 where
  pub key : List ℕ
  pub pointers : edit.pointers ≡ record { level = level; key = key } ∷ []
  pub there : (input : NewFile) × Contains inputs input × (input.level ≡ level)
      × (input.largest ≡ key)
  pub greatest : (input : NewFile) → Contains inputs input → input.level ≡ level
      → internal_cmp cmp key input.largest ≢ Less

-- a compaction in full, manual or not, with the edit that is logged of it
pub record IsCompactionBy (cmp : List ℕ → List ℕ → Ordering) (smallest level file_size : ℕ)
    (manual : Bool) (log : ℕ) (before inputs outputs after : List LiveTable) (edit : Edit)
    : Type 0 where
  pub compaction : IsCompaction cmp smallest level file_size manual before inputs outputs after
  pub edit_is : IsCompactionEdit log inputs outputs edit
  pub pointer : SetsPointer cmp level (files_of_tables inputs) edit

-- ---- outputs in files

module _ (store : List ℕ) (cmp : List ℕ → List ℕ → Ordering)
    (IsTableOf : List ℕ → List Pair → Type 0) where
  -- A compaction of a level has made its outputs of its inputs, which are live tables that it may
  -- take: they are tables of the next level that are there and kept, no user key is in two of
  -- them, and no more was dropped than may go.
  pub record HasMadeOutputs (files : Files) (smallest level : ℕ)
      (before inputs outputs : List LiveTable) : Type 0 where
    pub may : MayCompact cmp (files_of_tables before) level (files_of_tables inputs)
    pub there : (table : LiveTable) → Contains inputs table → Contains before table
    pub each : (table : LiveTable) → Contains outputs table
        → HasTable store cmp IsTableOf files table
        × IsKept (files (table_path store table.file.number)) × (table.file.level ≡ level + 1)
        × (table.file.number < 2 ^ 64)
    pub known : AreKnownByNumber outputs
    pub apart : (a b : LiveTable) → Contains outputs a → Contains outputs b
        → a.file.number ≢ b.file.number → AreDisjoint cmp a.file b.file
    pub drops : Drops smallest (IsBaseLevelFor cmp (level + 1) (files_of_tables before))
        (table_entries inputs) (table_entries outputs)

  -- ---- laws

  -- outputs that were made so are a compaction's
  abbrev pub MadeOutputsCompact : Type 0
  MadeOutputsCompact = TablesAreInRange store cmp IsTableOf → (files : Files)
      (smallest level : ℕ) (before inputs outputs after : List LiveTable)
      → HasMadeOutputs files smallest level before inputs outputs
      → ReplacesInputs before inputs outputs after
      → Compacts cmp smallest level before inputs outputs after

  -- live tables are known by their levels and numbers
  abbrev pub LiveTablesAreKnown : Type 0
  LiveTablesAreKnown = OneTableReading IsTableOf → (files : Files) (set : FileSet)
      (tables : List LiveTable) → HasTables store cmp IsTableOf files set tables
      → AreKnownByNumber tables

  -- a table that is kept and moved to the next level is the output of a compaction of it alone
  abbrev pub MovesCompact : Type 0
  MovesCompact = (files : Files) (set : FileSet) (smallest level : ℕ) (before : List LiveTable)
      (table : LiveTable) → HasTables store cmp IsTableOf files set before
      → Contains before table → table.file.level ≡ level
      → IsKept (files (table_path store table.file.number))
      → MayCompact cmp (files_of_tables before) level (table.file ∷ [])
      → HasMadeOutputs files smallest level before (table ∷ []) (moved table ∷ [])

  module _ (allowed : Store → Type 0) where
    -- What logging an edit keeps and leaves: every history at each moment on the way; then the
    -- tables that were there by the edit are live, the store is written on, and the immutable
    -- memtable has no entries.
    pub record EditIsLogged (files : Files) (edits : List Edit) (memory : EngineMemory)
        (w : IsWrittenBy store cmp IsTableOf files edits memory) (edit : Edit) : Type 0 where
      pub keeps : (bound : ℕ) → memory.set.last_sequence ≤ bound → (now : Files)
          → AppendingAndSyncing w.manifest.path
          (frame w.manifest.writer (edit_record memory.set edit)) files now
          → KeepsHistory store cmp IsTableOf allowed bound files now
      pub tables : (tables : List LiveTable)
          → HasTables store cmp IsTableOf files
          (live_after (edits ++ written_edit memory.set edit ∷ [])) tables
          → HasTables store cmp IsTableOf
          (with_bytes_kept w.manifest.path (frame w.manifest.writer (edit_record memory.set edit))
          files)
          (live_after (edits ++ written_edit memory.set edit ∷ [])) tables
      pub written : IsWrittenBy store cmp IsTableOf
          (with_bytes_kept w.manifest.path (frame w.manifest.writer (edit_record memory.set edit))
          files)
          (edits ++ written_edit memory.set edit ∷ [])
          (record memory { set = set_appended w.manifest memory.set edit; imm = [] })

    -- an edit may be logged that names the log which is written, changes nothing that is shown,
    -- and leaves kept tables alone
    abbrev pub EditsAreLogged : Type 0
    EditsAreLogged = (files : Files) (edits : List Edit) (memory : EngineMemory)
        (w : IsWrittenBy store cmp IsTableOf files edits memory) (edit : Edit)
        → edit.log_number ≡ Some memory.log
        → ((bound : ℕ) → memory.set.last_sequence ≤ bound
        → EditRefines store cmp IsTableOf bound files edits (written_edit memory.set edit))
        → TablesAreKept store files (live_after (edits ++ written_edit memory.set edit ∷ []))
        → IsEncodable (written_edit memory.set edit) → AreBytes (edit_record memory.set edit)
        → EditIsLogged files edits memory w edit

    -- the same of a compaction's edit, which leaves the memory as it is
    pub record CompactionIsLogged (files : Files) (edits : List Edit) (memory : EngineMemory)
        (w : IsWrittenBy store cmp IsTableOf files edits memory) (edit : Edit)
        (after : List LiveTable) : Type 0 where
      pub keeps : (bound : ℕ) → memory.set.last_sequence ≤ bound → (now : Files)
          → AppendingAndSyncing w.manifest.path
          (frame w.manifest.writer (edit_record memory.set edit)) files now
          → KeepsHistory store cmp IsTableOf allowed bound files now
      pub tables : HasTables store cmp IsTableOf
          (with_bytes_kept w.manifest.path (frame w.manifest.writer (edit_record memory.set edit))
          files)
          (live_after (edits ++ written_edit memory.set edit ∷ [])) after
      pub written : IsWrittenBy store cmp IsTableOf
          (with_bytes_kept w.manifest.path (frame w.manifest.writer (edit_record memory.set edit))
          files)
          (edits ++ written_edit memory.set edit ∷ [])
          (record memory { set = set_appended w.manifest memory.set edit })

    -- a compaction's edit may be logged once its outputs are made, where the immutable memtable has
    -- no entries
    abbrev pub CompactionsAreLogged : Type 0
    CompactionsAreLogged = OneTableReading IsTableOf → IsTotalOrder cmp
        → TablesAreInRange store cmp IsTableOf → (files : Files) (edits : List Edit)
        (memory : EngineMemory) (w : IsWrittenBy store cmp IsTableOf files edits memory)
        → memory.imm ≡ [] → (smallest level : ℕ)
        (before inputs outputs after : List LiveTable)
        → HasTables store cmp IsTableOf files (live_after edits) before
        → HasMadeOutputs files smallest level before inputs outputs
        → ReplacesInputs before inputs outputs after → (edit : Edit)
        → IsCompactionEdit memory.log inputs outputs edit
        → IsEncodable (written_edit memory.set edit) → AreBytes (edit_record memory.set edit)
        → CompactionIsLogged files edits memory w edit after

-- a compaction's edit can be written where its numbers and levels fit and its deleted files are in
-- order, and its record is bytes where its keys are
abbrev pub CompactionEditsFit : Type 0
CompactionEditsFit = (set : VersionSetValue) (log : ℕ) (pointers : List Pointer)
    (deleted : List LevelFile) (added : List NewFile) → log < 2 ^ 64 → set.next_file < 2 ^ 64
    → set.last_sequence < 2 ^ 64
    → ((pointer : Pointer) → Contains pointers pointer → (pointer.level < 7) × AreBytes pointer.key)
    → ((at : LevelFile) → Contains deleted at → (at.0 < 7) × (at.1 < 2 ^ 64))
    → IsStrictlySortedBy file_order deleted
    → ((file : NewFile) → Contains added file → FieldFits (adds file) × AreBytes file.smallest
    × AreBytes file.largest)
    → IsEncodable (written_edit set (compaction_edit log pointers deleted added))
    × AreBytes (edit_record set (compaction_edit log pointers deleted added))
