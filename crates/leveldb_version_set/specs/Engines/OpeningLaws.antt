-- What each step of an opening makes of a store's files: the statements that the contracts of
-- module `laws::opening` name.
use Rattle.std.specs.Prelude.{◌≡◌, ◌≢◌, ◌<◌, ◌≤◌, ◌+◌, ◌^◌, ℕ, Bool, List, [], ◌∷◌, ◌++◌, None, Contains, length, map}
use Rattle.std.specs.declared.cmp.Ordering.{Ordering}
use Rattle.leveldb_base.specs.declared.types.FileType.TheVariants.{Log}
use Rattle.leveldb_base.specs.History.{Entry, History}
use Rattle.leveldb_base.specs.KeyTypes.{greatest_sequence}
use Rattle.leveldb_base.specs.Names.{IsFileName}
use Rattle.leveldb_base.specs.Types.{Pair}
use Rattle.leveldb_env.specs.Env.{Files, SameBut, in_folder, synced}
use Rattle.leveldb_mem.specs.Log.Writer.{frame}
use Rattle.leveldb_files.specs.Stores.Contents.{Contents, Store}
use Rattle.leveldb_files.specs.Histories.Holds.{Holds, MatchesHistory}
use Rattle.leveldb_files.specs.Levels.Levels.{LiveTable}
use Rattle.leveldb_version_set.specs.Sets.LogEdit.{AppendingAndSyncing, edit_record, new_records, set_appended, set_begun, with_bytes_kept, written_edit}
use Rattle.leveldb_version_set.specs.Sets.NewManifest.{MakingManifest, manifest_bytes, with_manifest}
use Rattle.leveldb_version_set.specs.Engines.Opening.{AreLogTables, FitsEdit, IsLogToWrite, IsRecoveredBut, opened_memory, tables_edit}
use Rattle.leveldb_files.specs.Stores.Paths.{current_path, log_path}
use Rattle.leveldb_version_set.specs.Sets.Recover.{IsRead, IsReusable, IsUsable, ReadManifest, set_going_on, set_starting_anew}
use Rattle.leveldb_files.specs.Stores.Store.{IsManagedBy, IsStore, LogIsReplayed, OneTableReading}
use Rattle.leveldb_files.specs.Steps.StoreLaws.{IsSafeStore}
use Rattle.leveldb_files.specs.Steps.StoreSteps.{AppendedAreBytes, AreLogsBelow, IsKept, IsUnread, KeepsHistory, MakesFile, TablesAreKept}
use Rattle.leveldb_files.specs.Edits.Edit.{Edit}
use Rattle.leveldb_files.specs.Edits.VersionSet.{live_after}
use Rattle.leveldb_version_set.specs.Sets.VersionSetValue.{OpenManifest, VersionSetValue, in_use, unmade, with_number_given}
use Rattle.leveldb_version_set.specs.Engines.Writing.{EngineMemory, IsNumberedUpTo, IsRecoveredBy, IsTrackedBy, IsWrittenBy, NumbersAreBelow}

module _ (store : List ℕ) (cmp : List ℕ → List ℕ → Ordering)
    (IsTableOf : List ℕ → List Pair → Type 0) where
  -- ---- a store is recovered

  -- Whether a set that was recovered goes on with the manifest that was read or begins a new one,
  -- it tracks the store.
  pub record RecoveredIsTracked (old : VersionSetValue) (manifest : ReadManifest) (files : Files)
      : Type 0 where
    pub goes_on : (reuse : Bool) (limit : ℕ) → IsReusable reuse limit manifest
        → IsTrackedBy store cmp IsTableOf (synced (in_folder store manifest.name) files)
        manifest.edits (set_going_on old manifest)
    pub starts_anew : (set_starting_anew old manifest).next_file < 2 ^ 64
        → IsTrackedBy store cmp IsTableOf files manifest.edits (set_starting_anew old manifest)

  -- So it does if `CURRENT` is kept, the edits read a store, and the numbers of all names were
  -- marked as used before.
  abbrev pub RecoveredSetsTrack : Type 0
  RecoveredSetsTrack = (comparator : List ℕ) (old : VersionSetValue) (manifest : ReadManifest)
      (files : Files) → old.store ≡ store → IsRead store files manifest
      → IsUsable cmp comparator manifest.edits → IsKept (files (current_path store))
      → AppendedAreBytes files → NumbersAreBelow store files old.next_file → (contents : Contents)
      → IsManagedBy store cmp IsTableOf files manifest.edits contents
      → RecoveredIsTracked old manifest files

  -- the live tables of a tracked store are kept, if it is safe
  abbrev pub SafeStoresKeepTables : (Store → Type 0) → Type 0
  SafeStoresKeepTables allowed = (files : Files) (edits : List Edit) (set : VersionSetValue)
      → IsTrackedBy store cmp IsTableOf files edits set → (bound durable : ℕ) (history : History)
      → IsSafeStore store cmp IsTableOf allowed bound durable history files
      → TablesAreKept store files (live_after edits)

  -- Syncing the logs that are replayed, one after another, makes a store recovered.
  pub record SyncsRecover (files : Files) (edits : List Edit) (set : VersionSetValue)
      : Type 0 where
    -- at first these logs aren't kept: all that are there
    pub first : IsTrackedBy store cmp IsTableOf files edits set
        → TablesAreKept store files (live_after edits) → (logs : List ℕ)
        → ((name : List ℕ) (n : ℕ) → IsFileName name n Log → LogIsReplayed (live_after edits) n
        → files (in_folder store name) ≢ None → Contains logs n)
        → IsRecoveredBut store cmp IsTableOf logs files edits set
    -- a sync of one leaves the others
    pub next : (n : ℕ) (logs : List ℕ) → n < 2 ^ 64
        → IsRecoveredBut store cmp IsTableOf (n ∷ logs) files edits set
        → IsRecoveredBut store cmp IsTableOf logs (synced (log_path store n) files) edits set
    -- in the end none is left
    pub last : IsRecoveredBut store cmp IsTableOf [] files edits set
        → IsRecoveredBy store cmp IsTableOf files edits set

  -- so stores are recovered by syncs
  abbrev pub StoresAreRecovered : Type 0
  StoresAreRecovered = (files : Files) (edits : List Edit) (set : VersionSetValue)
      → SyncsRecover files edits set

  -- ---- a store that is recovered stays so

  -- a number is given
  abbrev pub RecoveredAfterGiving : Type 0
  RecoveredAfterGiving = (files : Files) (edits : List Edit) (set : VersionSetValue)
      → IsRecoveredBy store cmp IsTableOf files edits set
      → IsRecoveredBy store cmp IsTableOf files edits (with_number_given set)

  -- entries get numbers
  abbrev pub RecoveredAfterNumbering : Type 0
  RecoveredAfterNumbering = (files : Files) (edits : List Edit) (set : VersionSetValue)
      → IsRecoveredBy store cmp IsTableOf files edits set → (last : ℕ)
      → set.last_sequence ≤ last
      → IsRecoveredBy store cmp IsTableOf files edits (record set { last_sequence = last })

  -- a log is synced
  abbrev pub RecoveredAfterSyncs : Type 0
  RecoveredAfterSyncs = (files : Files) (edits : List Edit) (set : VersionSetValue)
      → IsRecoveredBy store cmp IsTableOf files edits set → (n : ℕ) → n < 2 ^ 64
      → IsRecoveredBy store cmp IsTableOf (synced (log_path store n) files) edits set

  -- a log of the next number is made
  abbrev pub RecoveredAfterNewLogs : Type 0
  RecoveredAfterNewLogs = (files : Files) (edits : List Edit) (set : VersionSetValue)
      → IsRecoveredBy store cmp IsTableOf files edits set → set.next_file + 1 < 2 ^ 64
      → (now : Files) → MakesFile (log_path store set.next_file) files now
      → IsRecoveredBy store cmp IsTableOf now edits (with_number_given set)

  -- a file changes that isn't read
  abbrev pub RecoveredAfterUnread : Type 0
  RecoveredAfterUnread = (files : Files) (edits : List Edit) (set : VersionSetValue)
      → IsRecoveredBy store cmp IsTableOf files edits set → (path : List ℕ)
      → IsUnread store files path → IsNumberedUpTo store path set.next_file → (now : Files)
      → SameBut path files now → AppendedAreBytes now
      → IsRecoveredBy store cmp IsTableOf now edits set

  -- ---- an opening ends

  module _ (allowed : Store → Type 0) where
    -- The files are a store that an engine writes with this memory, and they hold each history that
    -- these contents match, all of it durable.
    pub record IsOpened (found : Contents) (now : Files) (edits : List Edit)
        (memory : EngineMemory) : Type 0 where
      pub written : IsWrittenBy store cmp IsTableOf now edits memory
      pub holds : (history : History)
          → MatchesHistory allowed memory.set.last_sequence found history
          → Holds store (IsStore store cmp IsTableOf) allowed now history memory.set.last_sequence
          (length history) None

    -- What logging an edit at the end of an opening leaves: each history is kept at each moment,
    -- and after it the store is open.
    pub record EndsOpening (found : Contents) (files : Files) (edits : List Edit)
        (set : VersionSetValue) (edit : Edit) (log : ℕ) (mem : List Entry) : Type 0 where
      -- where a manifest is in use, the edit is appended to it
      pub appending : (manifest : OpenManifest) → set.manifest ≡ in_use manifest → (bound : ℕ)
          → set.last_sequence ≤ bound → (now : Files)
          → AppendingAndSyncing manifest.path (frame manifest.writer (edit_record set edit)) files
          now → KeepsHistory store cmp IsTableOf allowed bound files now
      pub appended : (manifest : OpenManifest) → set.manifest ≡ in_use manifest
          → IsOpened found
          (with_bytes_kept manifest.path (frame manifest.writer (edit_record set edit)) files)
          (edits ++ written_edit set edit ∷ [])
          (opened_memory (set_appended manifest set edit) log mem)
      -- where none is made yet, the edit begins one
      pub making : set.manifest ≡ unmade → (bound : ℕ) → set.last_sequence ≤ bound
          → (now : Files)
          → MakingManifest store set.manifest_number (manifest_bytes (new_records set edit)) files
          now → KeepsHistory store cmp IsTableOf allowed bound files now
      pub made : set.manifest ≡ unmade
          → IsOpened found
          (with_manifest store set.manifest_number (manifest_bytes (new_records set edit)) files)
          (set.full ∷ written_edit set edit ∷ [])
          (opened_memory (set_begun set edit) log mem)

    -- an opening may end with the edit that has tables in place of the logs below the one to write
    abbrev pub OpeningsEnd : Type 0
    OpeningsEnd = OneTableReading IsTableOf → (files : Files) (edits : List Edit)
        (set : VersionSetValue) → IsRecoveredBy store cmp IsTableOf files edits set
        → (found : Contents) → IsManagedBy store cmp IsTableOf files edits found
        → found.last ≡ set.last_sequence → set.last_sequence ≤ greatest_sequence
        → (log : ℕ) (mem : List Entry) → IsLogToWrite store files set log mem
        → (tables : List LiveTable) → AreLogTables store cmp IsTableOf files edits log tables
        → set.next_file < 2 ^ 64
        → ((table : LiveTable) → Contains tables table → FitsEdit table.file)
        → EndsOpening found files edits set
        (tables_edit log (map (λ table. table.file) tables)) log mem

    -- or without an edit, where a manifest is in use and no log is below the one to write
    abbrev pub OpeningsGoOn : Type 0
    OpeningsGoOn = (files : Files) (edits : List Edit) (set : VersionSetValue)
        → IsRecoveredBy store cmp IsTableOf files edits set
        → (found : Contents) → IsManagedBy store cmp IsTableOf files edits found
        → found.last ≡ set.last_sequence → set.last_sequence ≤ greatest_sequence
        → (log : ℕ) (mem : List Entry) → IsLogToWrite store files set log mem
        → AreLogsBelow store files (live_after edits) log []
        → (manifest : OpenManifest) → set.manifest ≡ in_use manifest
        → IsOpened found files edits (opened_memory set log mem)
