-- Compactions of an open store: what one of them leaves, what those of a range leave, and why they
-- fail.
use Rattle.std.specs.Prelude.{◌≢◌, ◌≡◌, ◌≤◌, ◌<◌, ◌⊎◌, ◌↔◌, ◌+◌, ◌++◌, ◌^◌, ◌∷◌, [], false, if◌then◌else◌, ℕ, List, All, Contains, Option, None, Some, Result, IfErr, IfOk, OnErr, OnOk, IsTrue, fold, map, Bool}
use Rattle.std.specs.declared.cmp.Ordering.{Ordering}
use Rattle.std.specs.declared.cmp.Ordering.TheVariants.{Less}
use Rattle.leveldb_base.specs.Entries.{entry_of_pair}
use Rattle.leveldb_base.specs.Error.{IsOutOfMemory}
use Rattle.leveldb_base.specs.KeyTypes.{user_part}
use Rattle.leveldb_base.specs.Types.{Pair}
use Rattle.leveldb_base.specs.declared.cmp.Cmp.{Ghosts as CmpGhosts}
use Rattle.leveldb_base.specs.declared.cmp.internal.InternalKeyCmp.{InternalKeyCmp}
use Rattle.leveldb_base.specs.declared.error.Status.{Status}
use Rattle.leveldb_base.specs.declared.error.StatusCode.TheVariants.{NotSupported}
use Rattle.leveldb_base.specs.declared.types.FileMetaData.{FileMetaData}
use Rattle.leveldb_env.specs.Env.{AreBytes}
use Rattle.leveldb_env.specs.declared.env.Env.{Ghosts}
use Rattle.leveldb_env.specs.declared.filter.FilterPolicy.{Ghosts as FilterGhosts}
use Rattle.leveldb_version.specs.Versions.Change.{IsVersionAfter}
use Rattle.leveldb_version_set.specs.Compactions.Compaction.{IsWithinInputs, MayCompact, MayMove, MergesOrMoves, files_of_tables}
use Rattle.leveldb_version_set.specs.Compactions.CompactionEdit.{HasMadeOutputs, IsCompactionBy, SetsPointer}
use Rattle.leveldb_version_set.specs.Sets.CurrentVersion.{IsCurrent}
use Rattle.leveldb_files.specs.Stores.Format.{Agrees, IsTableFault, IsTableOf, LacksCompressor, Meaning}
use Rattle.leveldb_files.specs.Levels.Levels.{AreDisjoint, LiveTable, table_entries}
use Rattle.leveldb_version_set.specs.Sets.LogEdit.{set_appended}
use Rattle.leveldb_version_set.specs.Engines.Opening.{FitsEdit}
use Rattle.leveldb_files.specs.Levels.Overlap.{UserRange, is_overlapped}
use Rattle.leveldb_files.specs.Stores.Paths.{table_path}
use Rattle.leveldb_version_set.specs.Compactions.Picking.{CompactionValue, IsAskedFor, needs_compaction}
use Rattle.leveldb_files.specs.Levels.Summary.{files_of_level}
use Rattle.leveldb_version.specs.Tables.TableCache.{TableOptions, files_at}
use Rattle.leveldb_version.specs.Versions.Version.{new_files_of}
use Rattle.leveldb_files.specs.Edits.Edit.{Edit, LevelFile, NewFile}
use Rattle.leveldb_version.specs.Edits.VersionEdit.{new_file_of}
use Rattle.leveldb_files.specs.Edits.VersionSet.{level_file}
use Rattle.leveldb_version_set.specs.Sets.VersionSetValue.{AreFileNumbersUsedUp, OpenManifest, VersionSetValue, broken, in_use}
use Rattle.leveldb_version.specs.declared.table_cache.TableCache.{TableCache}
use Rattle.leveldb_store.specs.Tables.BuildTable.{IsNotBuilt, TableChoices}
use Rattle.leveldb_store.specs.Keeping.KeptBytes.{NewTablesLoseNothing}
use Rattle.leveldb_store.specs.Keeping.LoggedEdits.{LogsByScore}
use Rattle.leveldb_store.specs.Keeping.OpenStore.{AreInLevels, AreNumbersGiven, IsUnbroken, OpenStoreValue}
use Rattle.leveldb_store.specs.Keeping.OpenTables.{AreOpenTablesOf}
use Rattle.leveldb_store.specs.Openings.Opening.{GivesNumbers, TakesBackNew}
use Rattle.leveldb_store.specs.Tables.Outputs.{ChangesNewTables}
use Rattle.leveldb_store.specs.Reading.Read.{HasOpenTables, in_memory}
use Rattle.leveldb_store.specs.Writing.Room.{AreEntriesNotBuilt, FailsFor}
use Rattle.leveldb_store.specs.Keeping.SoundCall.{BreaksForCause, IsSoundCall}
use Rattle.leveldb_store.specs.Writing.Switch.{AreFileNumbersTooFew, IsManifestLost}
use Rattle.leveldb_store.specs.Keeping.Written.{HasLiveTables, IsWritten, SparesRest}
use Rattle.leveldb_store.specs.Keeping.WrittenFrom.{AddsNoEntry, KeepsWrittenFrom}

-- ---- the files of a compaction

-- What is known of an open store and of a compaction of its version, whatever is in the files.
pub record IsOfStore {C : Type 0} (models_disk : Bool) (cmp : List ℕ → List ℕ → Ordering)
    (value : OpenStoreValue C) (it : CompactionValue C) : Type 0 where
  -- the version has the live files, which are in levels, and whose numbers were given
  pub current : IsCurrent cmp value.cmp value.set value.current
  pub given : AreNumbersGiven value.set value.set.full.added
  pub levels : AreInLevels models_disk cmp value.set.full.added
  -- the compaction may take its files of that version
  pub version_is : it.version ≡ value.current
  pub may : MayCompact cmp (new_files_of value.current) it.level (new_files_of it.inputs)

-- A compaction moves its one file alone: this one, which isn't turned round.
pub record IsMovedAlone {C : Type 0} (cmp : List ℕ → List ℕ → Ordering) (it : CompactionValue C)
    (file : FileMetaData) : Type 0 where
  pub alone : new_files_of it.inputs ≡ new_file_of (it.level, file) ∷ []
  pub may : MayMove cmp it.max_file_size it.level it.manual (new_files_of it.version)
      (new_files_of it.inputs)
  pub ordered : cmp (user_part file.largest) (user_part file.smallest) ≢ Less
  pub smallest : AreBytes file.smallest
  pub largest : AreBytes file.largest

-- Files that take the place of those that a compaction takes, whatever is in them: they are of the
-- next level and lie within those, and any two are apart.
pub record AreReplacements {C : Type 0} (cmp : List ℕ → List ℕ → Ordering)
    (it : CompactionValue C) (files : List NewFile) : Type 0 where
  pub within : (file : NewFile) → Contains files file
      → (file.level ≡ it.level + 1) × IsWithinInputs cmp (new_files_of it.inputs) file
  pub apart : (a b : NewFile) → Contains files a → Contains files b → (a ≡ b) ⊎ AreDisjoint cmp a b
  -- an edit may have them
  pub fit : All FitsEdit files

-- the files of a level, from their metadata
abbrev pub of_level : ℕ → List FileMetaData → List NewFile
of_level level files = map (λ (file : FileMetaData). new_file_of (level, file)) files

-- ---- the edit

-- numbers of files were given, and then a call on the manifest may have failed
abbrev pub GivesNumbersOrBreaks : VersionSetValue → VersionSetValue → Type 0
GivesNumbersOrBreaks old new = GivesNumbers old new
    ⊎ ((given : VersionSetValue) × GivesNumbers old given
    × (new ≡ record given { manifest = broken }))

-- An edit deletes the files that a compaction takes, and adds others to the next level. It names
-- the log that is written, and sets the pointer of the compaction's level.
pub record ReplacesFiles {C : Type 0} (cmp : List ℕ → List ℕ → Ordering) (log : ℕ)
    (it : CompactionValue C) (edit : Edit) : Type 0 where
  pub comparator : edit.comparator ≡ None
  pub log_number : edit.log_number ≡ Some log
  pub deleted : (at : LevelFile) → Contains edit.deleted at
      ↔ ((file : NewFile) × Contains (new_files_of it.inputs) file × (level_file file ≡ at))
  pub added : AreReplacements cmp it edit.added
  pub pointer : SetsPointer cmp it.level (new_files_of it.inputs) edit

-- Numbers were given, and then the edit of a compaction was logged, which the version follows.
pub record LogsCompaction {C : Type 0} (cmp : List ℕ → List ℕ → Ordering)
    (it : CompactionValue C) (old new : OpenStoreValue C) : Type 0 where
  pub given : VersionSetValue
  pub gives : GivesNumbers old.set given
  pub manifest : OpenManifest
  pub was_in_use : given.manifest ≡ in_use manifest
  pub edit : Edit
  pub replaces : ReplacesFiles cmp old.log.number it edit
  pub set : new.set ≡ set_appended manifest given edit
  pub current : IsVersionAfter cmp edit old.current new.current

-- the edit of a compaction was logged, if there is one, and else nothing changed
abbrev pub LogsPicked : {C : Type 0} → (List ℕ → List ℕ → Ordering) → Option (CompactionValue C)
    → OpenStoreValue C → OpenStoreValue C → Type 0
LogsPicked cmp None old new = new ≡ old
LogsPicked cmp (Some it) old new = LogsCompaction cmp it old new

-- What the compaction for which a store's version asks leaves, by a level's score or else by reads.
pub record CompactsIfAsked {C : Type 0} (cmp : List ℕ → List ℕ → Ordering) (max_file_size : ℕ)
    (old : OpenStoreValue C) (result : Result (Unit {0}) Status) (new : OpenStoreValue C)
    : Type 0 where
  -- Ok: that one was logged, or none is asked for
  pub logged : OnOk result ((picked : Option (CompactionValue C))
      × IsAskedFor cmp old.set.full.pointers old.current max_file_size picked
      × LogsPicked cmp picked old new)
  -- and so a file is taken from the level whose score asks for it
  pub by_score : OnOk result (LogsByScore old.set new.set)
  -- Err: the files are those that they were
  pub err : OnErr result (new.set.full ≡ old.set.full)
  -- and memory was out, or the version asks for that compaction still
  pub asks : IfErr result (λ e. IsOutOfMemory e ⊎ IsTrue (needs_compaction new.current))

-- ---- one compaction

-- `by` says what tables are opened with; the store, the environment and the open tables are those
-- at the beginning.
module _ {E F C FP : Type 0} (order : CmpGhosts (InternalKeyCmp C)) (env : Ghosts E F)
    (by : TableOptions C FP) (old : OpenStoreValue C) (from : E)
    (tables : TableCache E C FP F) where
  -- a store that is written, whose open tables are its own, and whose live tables these are
  pub record HasTablesWritten (meaning : Meaning) (live : List LiveTable) : Type 0 where
    pub has_open : HasOpenTables order env by old from tables
    pub agrees : Agrees by.format meaning
    pub written : IsWritten by.format.order meaning old (files_at env from)
    pub has_live : HasLiveTables by.format.order meaning old (files_at env from) live

  -- whatever a call returns that may drop entries, each history stays at each moment on the way,
  -- and is shown from the smallest held number on, where the open tables are the store's
  abbrev pub KeepsTablesFrom : ℕ → OpenStoreValue C → E → Type 0
  KeepsTablesFrom smallest new to = HasOpenTables order env by old from tables
      → (meaning : Meaning) → Agrees by.format meaning
      → KeepsWrittenFrom by.format.order meaning smallest old (env.observed from) new
      (env.observed to)

  -- the open tables of a store stay its own
  abbrev pub KeepsOpenTables : OpenStoreValue C → E → TableCache E C FP F → Type 0
  KeepsOpenTables new to now = HasOpenTables order env by old from tables
      → AreOpenTablesOf order env by new.set (files_at env to) now

  -- An input can't be read, or its keys are out of order. In a written store the only reason is a
  -- compressor that the format lacks.
  pub record AreInputsLost (status : Status) : Type 0 where
    pub fault : IsTableFault by.format status.code
    pub lacks : (meaning : Meaning) (live : List LiveTable) → HasTablesWritten meaning live
        → (status.code ≡ NotSupported) × LacksCompressor by.format meaning

  module _ {D P : Type 0} {keys : CmpGhosts D} {filters : FilterGhosts P}
      (choices : TableChoices keys filters) where
    -- No table is built of some pairs. Of a store that is written they are entries of its tables,
    -- or in memory.
    pub record AreInputsNotBuilt (status : Status) : Type 0 where
      pub pairs : List Pair
      pub not_built : IsNotBuilt choices pairs status
      pub theirs : (meaning : Meaning) (live : List LiveTable) → HasTablesWritten meaning live
          → All (λ pair. Contains (in_memory old ++ table_entries live) (entry_of_pair pair)) pairs

    -- Why the tables of a compaction aren't merged, where the device didn't fail: out of memory;
    -- the numbers of files are used up; no table is built of what it leaves; or a table that it
    -- takes can't be read.
    abbrev pub FailsToMerge : OpenStoreValue C → Status → Type 0
    FailsToMerge new status = IsOutOfMemory status
        ⊎ AreFileNumbersUsedUp new.set.next_file status
        ⊎ AreInputsNotBuilt status ⊎ AreInputsLost status

    -- What making files that take the place of those of a compaction leaves of an open store.
    -- `files` are they, of the next level; `smallest` is the smallest number at which the store is
    -- read.
    pub record MakesReplacements {X : Type 0} (smallest : ℕ) (it : CompactionValue C)
        (files : X → List NewFile) (result : Result X Status) (new : OpenStoreValue C) (to : E)
        (now : TableCache E C FP F) : Type 0 where
      -- numbers of files may have been given, and nothing else of the store changes
      pub gives : GivesNumbers old.set new.set
      pub back : TakesBackNew old.set new.set
      pub rest : new ≡ record old { set = new.set }
      -- no file changes, now and at each moment on the way, but tables of these numbers
      pub changes : ChangesNewTables env old.set.store old.set.next_file new.set.next_file from to
      -- whatever the tables have, the files fit, and their numbers were given
      pub fit : IfOk result (λ made. AreReplacements by.format.order it (files made)
          × AreNumbersGiven new.set (files made))
      -- of a store that is written they are tables of all entries of its inputs but those that may
      -- go, or the one input
      pub made : IfOk result (λ made. (meaning : Meaning) (live : List LiveTable)
          → HasTablesWritten meaning live → (inputs outputs : List LiveTable)
          × (files_of_tables inputs ≡ new_files_of it.inputs)
          × (files_of_tables outputs ≡ files made)
          × HasMadeOutputs old.set.store by.format.order (IsTableOf by.format.order meaning)
          (files_at env to) smallest it.level live inputs outputs
          × MergesOrMoves by.format.order smallest it.level it.max_file_size it.manual live inputs
          outputs)
      pub still_open : KeepsOpenTables new to now
      pub cause : FailsFor (FailsToMerge new) (env.failures from) (env.failures to) result

    -- Why a compaction fails, where the device didn't: its tables aren't merged, or the manifest is
    -- lost.
    abbrev pub FailsToCompact : OpenStoreValue C → E → Status → Type 0
    FailsToCompact new to status = FailsToMerge new status ⊎ IsManifestLost env old from to status

    -- Of a store that is written, a compaction in full: of its live tables it takes those of these
    -- files, and makes others of all their entries but those that may go, or moves the one.
    abbrev pub CompactsInFull : ℕ → (it : CompactionValue C) (new : OpenStoreValue C)
        → LogsCompaction by.format.order it old new → E → Type 0
    CompactsInFull smallest it new logged to = (meaning : Meaning) (before : List LiveTable)
        → HasTablesWritten meaning before → (inputs outputs after : List LiveTable)
        × HasLiveTables by.format.order meaning new (files_at env to) after
        × IsCompactionBy by.format.order smallest it.level it.max_file_size it.manual
        old.log.number before inputs outputs after logged.edit

    -- What a compaction of an open store's current version leaves, where there is no immutable
    -- memtable.
    pub record CompactsStore (smallest : ℕ) (it : CompactionValue C)
        (result : Result (Unit {0}) Status) (new : OpenStoreValue C) (to : E)
        (now : TableCache E C FP F) : Type 0 where
      pub keeps : KeepsTablesFrom smallest new to
      -- Ok: its edit was logged, and of a written store it is a compaction in full
      pub logged : OnOk result ((edit : LogsCompaction by.format.order it old new)
          × CompactsInFull smallest it new edit to)
      pub usable : OnOk result (IsUnbroken new)
      -- Err: files and version are as they were, but numbers may have been given, and the set may
      -- be broken
      pub err : OnErr result (GivesNumbersOrBreaks old.set new.set × (new.current ≡ old.current))
      -- what is in memory stays
      pub memory : new ≡ record old { set = new.set; current = new.current }
      -- no table is deleted or changes whose number was given before: those that it takes are there
      pub given : IsTrue env.models_disk → (number : ℕ) → number < 2 ^ 64
          → number < old.set.next_file
          → files_at env to (table_path old.set.store number)
          ≡ files_at env from (table_path old.set.store number)
      pub rest : SparesRest env.models_disk old (env.observed from) new (env.observed to)
      -- whatever the files are, none loses a byte, where the numbers of its tables are new
      pub kept : NewTablesLoseNothing env old.set.store from to old.set.next_file
      pub still_open : KeepsOpenTables new to now
      pub sound : IsSoundCall env by.format.order (Agrees by.format) old from result new to
      pub breaks : BreaksForCause env old from result new to
      pub cause : FailsFor (FailsToCompact new to) (env.failures from) (env.failures to) result

-- ---- a range

-- the deepest of levels 1 to 5 of which a file overlaps the range, or 1
abbrev pub deepest_overlapped : (List ℕ → List ℕ → Ordering) → UserRange → List NewFile → ℕ
deepest_overlapped cmp range files =
    fold (λ deepest level. if is_overlapped cmp level range files then level else deepest) 1
    (2 ∷ 3 ∷ 4 ∷ 5 ∷ [])

-- no file of these levels, from 0 to the last of them, overlaps the range
abbrev pub AreClearOf : (List ℕ → List ℕ → Ordering) → UserRange → ℕ → List NewFile → Type 0
AreClearOf cmp range last files =
    (level : ℕ) → level ≤ last → is_overlapped cmp level range files ≡ false

-- the levels above this one have the files that they had
abbrev pub KeepsLevelsAbove : ℕ → List NewFile → List NewFile → Type 0
KeepsLevelsAbove level before after = (other : ℕ) → other < level
    → files_of_level other after ≡ files_of_level other before

module _ {E F C FP : Type 0} (order : CmpGhosts (InternalKeyCmp C)) (env : Ghosts E F)
    (by : TableOptions C FP) (old : OpenStoreValue C) (from : E)
    (tables : TableCache E C FP F) where
  -- What several compactions in a row, or none, keep of an open store that isn't broken, with the
  -- deletions after each. `Excused` says why one fails, by the store that is left. What is said of
  -- a store that is written holds where its open tables are its own.
  pub record KeepsCompacted (smallest : ℕ) (Excused : OpenStoreValue C → Status → Type 0)
      (result : Result (Unit {0}) Status) (new : OpenStoreValue C) (to : E)
      (now : TableCache E C FP F) : Type 0 where
    -- each history stays at every moment, and is shown from the smallest held number on
    pub keeps : KeepsTablesFrom order env by old from tables smallest new to
    -- an Ok breaks nothing
    pub usable : OnOk result (IsUnbroken new)
    -- other files stay, and what the store isn't to change
    pub rest : SparesRest env.models_disk old (env.observed from) new (env.observed to)
    pub still_open : KeepsOpenTables order env by old from tables new to now
    -- Ok: of a store that is written no entry is new
    pub none_new : OnOk result (HasOpenTables order env by old from tables → (meaning : Meaning)
        → Agrees by.format meaning → IsWritten by.format.order meaning old (files_at env from)
        → AddsNoEntry by.format.order meaning old (files_at env from) new (files_at env to))
    pub sound : IsSoundCall env by.format.order
        (λ meaning. HasOpenTables order env by old from tables × Agrees by.format meaning) old from
        result new to
    pub cause : FailsFor (Excused new) (env.failures from) (env.failures to) result

  module _ {D P : Type 0} {keys : CmpGhosts D} {filters : FilterGhosts P}
      (choices : TableChoices keys filters) where
    -- What compactions keep where what is in memory stays. A manifest that is lost counts as an
    -- input that can't be read.
    pub record CompactsTables (smallest : ℕ) (result : Result (Unit {0}) Status)
        (new : OpenStoreValue C) (to : E) (now : TableCache E C FP F) : Type 0 where
      pub keeps : KeepsCompacted smallest (FailsToMerge order env by old from tables choices) result
          new to now
      pub memory : new ≡ record old { set = new.set; current = new.current }

    -- Why a range isn't compacted, where the device didn't fail: as tables aren't; the numbers of
    -- files are too few for two tables and a log; or no table is built of the entries in memory.
    abbrev pub FailsToCompactRange : OpenStoreValue C → Status → Type 0
    FailsToCompactRange new status = FailsToMerge order env by old from tables choices new status
        ⊎ AreFileNumbersTooFew old.set.next_file 3 status
        ⊎ AreEntriesNotBuilt choices (Some old.mem) status
        ⊎ AreEntriesNotBuilt choices old.imm status

    -- What compactions of a range leave of an open store that isn't broken.
    pub record CompactsRange (smallest : ℕ) (range : UserRange) (result : Result (Unit {0}) Status)
        (new : OpenStoreValue C) (to : E) (now : TableCache E C FP F) : Type 0 where
      pub keeps : KeepsCompacted smallest FailsToCompactRange result new to now
      -- Ok: nothing is in memory but in tables
      pub tables_made : OnOk result ((new.mem.entries ≡ []) × (new.imm ≡ None))
      -- and no file overlaps the range, from level 0 to the deepest that did
      pub clear : OnOk result (AreClearOf by.format.order range
          (deepest_overlapped by.format.order range old.set.full.added) new.set.full.added)
