-- What holds of every store: the statements that the contracts of module `laws` name.
--
-- `store` is a store's path, `cmp` the order of its user keys, `IsTableOf` says which bytes are a
-- table of which pairs, and `allowed` which store may be there.
use Rattle.leveldb_table.specs.Table.{DecodesOne, OneTable}
use Rattle.std.specs.Prelude.{◌++◌, ◌+◌, ◌<◌, ◌^◌, ◌↔◌, ◌∷◌, ◌≡◌, ◌≢◌, ◌≤◌, AllPairs, Bool, Contains, List, None, Option, Some, [], false, length, map, ℕ}
use Rattle.std.specs.Cmp.{IsTotalOrder}
use Rattle.std.specs.Str.{bytes_eq}
use Rattle.std.specs.declared.cmp.Ordering.{Ordering}
use Rattle.leveldb_base.specs.Entries.{FindsNewest}
use Rattle.leveldb_base.specs.declared.types.Lookup.{Lookup}
use Rattle.leveldb_base.specs.Layers.{AreLayered, IsOlder}
use Rattle.leveldb_base.specs.declared.types.FileType.{FileType}
use Rattle.leveldb_base.specs.declared.types.FileType.TheVariants.{Log, Table, Descriptor, Current}
use Rattle.leveldb_base.specs.History.{Entry, History, Item, count_of, greatest, placed}
use Rattle.leveldb_base.specs.KeyTypes.{greatest_sequence, internal_cmp}
use Rattle.leveldb_base.specs.Names.{IsFileName}
use Rattle.leveldb_base.specs.Types.{Pair}
use Rattle.leveldb_env.specs.declared.env.Env.{Ghosts}
use Rattle.leveldb_env.specs.Env.{File, Files, FilesCrashTo, SameBut, BeforeOrAfter, PrefixAppended, Within, AreBytes, bytes_of, extended, in_folder, renamed, synced}
use Rattle.leveldb_mem.specs.Log.{frame_at}
use Rattle.leveldb_mem.specs.WriteBatch.{Batch, BatchOf}
use Rattle.leveldb_files.specs.Stores.Contents.{Contents, Store, made, missing, no_contents}
use Rattle.leveldb_files.specs.Histories.Holds.{IsHonest, MatchesHistory, IsSafe, Holds}
use Rattle.leveldb_files.specs.Levels.Levels.{LiveTable, LevelOrder, IsInRange, IsBounded, table_entries, CanBeAdded, IsSearchedBefore}
use Rattle.leveldb_files.specs.Levels.Overlap.{file_range, output_level}
use Rattle.leveldb_files.specs.Stores.Paths.{current_path, log_path}
use Rattle.leveldb_files.specs.Stores.Store.{HasEdits, HasNoStore, HasTable, HasTables, IsManaged, IsStore, IsStoreTable, LastNumbersFit, OneTableReading, SameContents, SameEntries}
use Rattle.leveldb_files.specs.Steps.StoreSteps.{AreTablesAfter, EditRefines, EditsRefine, AppendedAreBytes, HasAddedTables, HasNextCurrent, IsAboveLogs, IsAllKept, IsCuttable, IsCutStore, IsKept, IsManifestOpen, IsNew, IsPartOf, IsSafeFor, IsUnnamed, IsUnread, IsWritable, KeepsHistory, MakesFile, Risk, SameButNextFile, SwapsTables, SwitchesLog, TablesAreKept}
use Rattle.leveldb_files.specs.Edits.Edit.{Edit, IsEdit, NewFile}
use Rattle.leveldb_files.specs.Edits.VersionSet.{live_after}

module _ (store : List ℕ) (cmp : List ℕ → List ℕ → Ordering)
    (IsTableOf : List ℕ → List Pair → Type 0) where
  -- ---- reading, and what a crash leaves

  -- files are a store with one contents
  abbrev pub OneStoreReading : Type 0
  OneStoreReading = OneTableReading IsTableOf → (files : Files) (these those : Contents)
      → IsStore store cmp IsTableOf files these → IsStore store cmp IsTableOf files those
      → SameContents these those

  -- An honest crash leaves a store by the first edits of the manifest with the first batches of the
  -- last log: no fewer of either than are kept, and each whole.
  abbrev pub CrashesCutStores : Type 0
  CrashesCutStores = (files : Files) (edits : List Edit) (number : ℕ) (batches : List Batch)
      (kept_edits kept_batches : ℕ)
      (s : IsCuttable store cmp IsTableOf files edits number batches kept_edits kept_batches)
      (left : Files) → FilesCrashTo files left → IsHonest store files left
      → IsCutStore store cmp IsTableOf files edits number batches kept_edits kept_batches s left

  -- ---- edits

  -- an edit that swaps tables changes nothing that is shown
  abbrev pub SwapsRefine : Type 0
  SwapsRefine = OneTableReading IsTableOf → (bound : ℕ) (files : Files) (edits : List Edit)
      (edit : Edit)
      → SwapsTables store cmp IsTableOf bound files (live_after edits)
      (live_after (edits ++ edit ∷ []))
      → EditRefines store cmp IsTableOf bound files edits edit

  -- an edit that has tables in place of logs changes nothing that is shown
  abbrev pub SwitchesRefine : Type 0
  SwitchesRefine = OneTableReading IsTableOf → (bound : ℕ) (files : Files) (edits : List Edit)
      (edit : Edit)
      → SwitchesLog store cmp IsTableOf bound files (live_after edits)
      (live_after (edits ++ edit ∷ []))
      → EditRefines store cmp IsTableOf bound files edits edit

  -- Other edits that leave the same files and numbers change nothing that is shown, such as the
  -- full edit with which a new manifest begins.
  abbrev pub FullEditsRefine : Type 0
  FullEditsRefine = (bound : ℕ) (files : Files) (edits others : List Edit)
      → SameButNextFile (live_after edits) (live_after others) → LastNumbersFit others
      → EditsRefine store cmp IsTableOf bound files edits others

  -- edits that refine others which refine the first ones refine the first ones
  abbrev pub EditsRefineOnwards : Type 0
  EditsRefineOnwards = (bound : ℕ) (files : Files) (edits others last : List Edit)
      → EditsRefine store cmp IsTableOf bound files edits others
      → EditsRefine store cmp IsTableOf bound files others last
      → EditsRefine store cmp IsTableOf bound files edits last

  -- After an edit the live tables are those that it adds, and those from before that it leaves
  -- alone.
  abbrev pub EditsLeaveTables : Type 0
  EditsLeaveTables = (files : Files) (edits : List Edit) (edit : Edit)
      (before added after : List LiveTable)
      → HasTables store cmp IsTableOf files (live_after edits) before
      → HasAddedTables store cmp IsTableOf files edit added
      → AreTablesAfter edit before added after
      → HasTables store cmp IsTableOf files (live_after (edits ++ edit ∷ [])) after

  -- ---- what stays open

  -- after a batch is appended, another may be
  abbrev pub BatchesStayWritable : Type 0
  BatchesStayWritable = (files : Files) (edits : List Edit) (w : IsWritable store files edits)
      → (first : ℕ) (items : List Item) (text : List ℕ) → BatchOf text first items
      → AppendedAreBytes (extended (log_path store w.log.number)
      (frame_at (length (bytes_of w.log.file)) text) files)
      → IsWritable store (extended (log_path store w.log.number)
      (frame_at (length (bytes_of w.log.file)) text) files) edits

  -- after a sync of the last log, a batch may be appended
  abbrev pub SyncsStayWritable : Type 0
  SyncsStayWritable = (files : Files) (edits : List Edit) (w : IsWritable store files edits)
      → IsWritable store (synced (log_path store w.log.number) files) edits

  -- after an edit is appended, the manifest has it, and another may be
  abbrev pub EditsStayOpen : Type 0
  EditsStayOpen = (files : Files) (edits : List Edit) (m : IsManifestOpen store files edits)
      (text : List ℕ) → text ≢ [] → (edit : Edit) → IsEdit text edit
      → IsManifestOpen store (extended (in_folder store m.has_edits.name)
      (frame_at (length (bytes_of m.has_edits.manifest)) text) files) (edits ++ edit ∷ [])

  -- ---- files that aren't read

  -- a file for another use than `CURRENT`, manifests, tables and logs: a temporary one, the lock's
  abbrev pub OthersAreUnread : Type 0
  OthersAreUnread = (files : Files) (name : List ℕ) (n : ℕ) (kind : FileType)
      → IsFileName name n kind → kind ≢ Current → kind ≢ Descriptor → kind ≢ Table → kind ≢ Log
      → IsUnread store files (in_folder store name)

  -- what isn't read stays unread, whatever becomes of it or of another file that isn't read
  abbrev pub UnreadStays : Type 0
  UnreadStays = (path other : List ℕ) (old new : Files) → SameBut path old new
      → IsUnread store old path → IsUnread store old other → IsUnread store new other

  -- where `CURRENT` is missing no manifest is read, whether it is there or not
  abbrev pub ManifestsAreUnread : Type 0
  ManifestsAreUnread = (files : Files) → files (current_path store) ≡ None → (name : List ℕ)
      (n : ℕ) → IsFileName name n Descriptor → IsUnread store files (in_folder store name)

  -- what the edits of a kept manifest don't name, as a file that is obsolete
  abbrev pub ObsoleteIsUnread : Type 0
  ObsoleteIsUnread = (files : Files) (edits : List Edit) (e : HasEdits store files edits)
      → e.current.since ≡ [] → e.manifest.since ≡ [] → (path : List ℕ)
      → bytes_eq path (current_path store) ≡ false
      → bytes_eq path (in_folder store e.name) ≡ false → IsUnnamed store (live_after edits) path
      → IsUnread store files path

  module _ (allowed : Store → Type 0) where
    -- whatever an honest crash leaves of the files is a store that carries a prefix of the history
    abbrev pub IsSafeStore : ℕ → ℕ → History → Files → Type 0
    IsSafeStore = IsSafe store (IsStore store cmp IsTableOf) allowed

    -- the files are a store that holds the history
    abbrev pub StoreHolds : Files → History → ℕ → ℕ → Option (List Entry) → Type 0
    StoreHolds = Holds store (IsStore store cmp IsTableOf) allowed

    -- what is missing under the name of a table or a manifest, where a store is safe
    abbrev pub MissingIsUnread : Type 0
    MissingIsUnread = (files : Files) (name : List ℕ) (n : ℕ) (kind : FileType)
        → IsFileName name n kind → kind ≢ Current → kind ≢ Log
        → files (in_folder store name) ≡ None → files (current_path store) ≢ None
        → (bound durable : ℕ) (history : History)
        → IsSafeStore bound durable history files
        → IsUnread store files (in_folder store name)

    -- ---- what is safe

    -- where no store is, a crash leaves none
    abbrev pub NoStoreIsSafe : Type 0
    NoStoreIsSafe = (files : Files) → HasNoStore store files → (bound : ℕ)
        (history : History) → MatchesHistory allowed bound no_contents history
        → IsSafeStore bound (length history) history files

    -- where all that is read is kept, a crash leaves all of it
    abbrev pub KeptIsSafe : Type 0
    KeptIsSafe = (files : Files) (contents : Contents)
        → IsAllKept store cmp IsTableOf files contents → (bound : ℕ) (history : History)
        → MatchesHistory allowed bound contents history
        → IsSafeStore bound (length history) history files

    -- Where all that is read is kept, the files hold each history that the contents match, all of
    -- it durable: no number is taken past the last one of the contents.
    abbrev pub KeptHolds : Type 0
    KeptHolds = (files : Files) (contents : Contents)
        → IsAllKept store cmp IsTableOf files contents → (bound : ℕ) (history : History)
        → MatchesHistory allowed bound contents history
        → StoreHolds files history contents.last
        (length history) None

    -- the live tables of a safe store are kept: a crash could cut them to another size
    abbrev pub SafeTablesAreKept : Type 0
    SafeTablesAreKept = (files : Files) → AppendedAreBytes files → (bound durable : ℕ)
        (history : History)
        → IsSafeStore bound durable history files
        → (contents : Contents) (m : IsManaged store cmp IsTableOf files contents)
        → TablesAreKept store files (live_after m.edits)

    -- `CURRENT` of a safe store is kept: a crash could leave another byte at its end
    abbrev pub SafeCurrentIsKept : Type 0
    SafeCurrentIsKept = (files : Files) → AppendedAreBytes files → (bound durable : ℕ)
        (history : History)
        → IsSafeStore bound durable history files
        → IsKept (files (current_path store))

    -- ---- steps

    -- what the old files hold, those hold that keep each history
    abbrev pub KeepingHolds : Type 0
    KeepingHolds = (old new : Files) (history : History) (last durable : ℕ)
        (pending : Option (List Entry))
        → KeepsHistory store cmp IsTableOf allowed (last + count_of pending) old new
        → StoreHolds old history last durable pending
        → StoreHolds new history last durable pending

    -- While a batch is appended to the last log, it is pending; after it the history has it, and
    -- the next one may be appended.
    pub record BatchAppends (files : Files) (edits : List Edit)
        (w : IsWritable store files edits) (history : History) (last durable : ℕ)
        (items : List Item) (text : List ℕ) : Type 0 where
      pub meanwhile : (now : Files)
          → PrefixAppended (log_path store w.log.number)
          (frame_at (length (bytes_of w.log.file)) text) files now
          → StoreHolds now history last durable
          (Some (placed (last + 1) items))
      pub after : StoreHolds
          (extended (log_path store w.log.number) (frame_at (length (bytes_of w.log.file)) text)
          files)
          (history ++ placed (last + 1) items ∷ []) (last + length items) durable None
      pub writable : AppendedAreBytes (extended (log_path store w.log.number)
          (frame_at (length (bytes_of w.log.file)) text) files)
          → IsWritable store (extended (log_path store w.log.number)
          (frame_at (length (bytes_of w.log.file)) text) files) edits

    -- a batch whose numbers fit may be appended to the last log
    abbrev pub BatchesAppend : Type 0
    BatchesAppend = (files : Files) (edits : List Edit) (w : IsWritable store files edits)
        (history : History) (last durable : ℕ)
        → StoreHolds files history last durable None
        → (items : List Item) (text : List ℕ) → BatchOf text (last + 1) items
        → last + 1 ≤ greatest_sequence → last + length items ≤ greatest_sequence
        → BatchAppends files edits w history last durable items text

    -- after a sync of the last log all is durable
    abbrev pub SyncMakesDurable : Type 0
    SyncMakesDurable = (files : Files) (edits : List Edit) (w : IsWritable store files edits)
        (history : History) (last durable : ℕ)
        → StoreHolds files history last durable None
        → StoreHolds
        (synced (log_path store w.log.number) files) history last (length history) None

    -- a sync of any file keeps each history
    abbrev pub SyncsKeep : Type 0
    SyncsKeep = (name : List ℕ) (files : Files)
        → ((file : File) → files name ≡ Some file → AreBytes file.since) → (bound : ℕ)
        → KeepsHistory store cmp IsTableOf allowed bound files (synced name files)

    -- a new log whose number is above those of all logs keeps each history, at each moment
    abbrev pub NewLogsKeep : Type 0
    NewLogsKeep = (files : Files) (n : ℕ) → n < 2 ^ 64 → IsAboveLogs store files n
        → files (current_path store) ≢ None → files (log_path store n) ≡ None → (bound : ℕ)
        (now : Files) → MakesFile (log_path store n) files now
        → KeepsHistory store cmp IsTableOf allowed bound files now

    -- any change of a file that isn't read keeps each history: it is made, appended to, synced or
    -- deleted
    abbrev pub UnreadKeeps : Type 0
    UnreadKeeps = (path : List ℕ) (old new : Files) → SameBut path old new → AppendedAreBytes old
        → IsUnread store old path → (bound : ℕ)
        → KeepsHistory store cmp IsTableOf allowed bound old new

    -- an edit that is appended to the manifest keeps each history, at each moment
    abbrev pub EditAppendsKeep : Type 0
    EditAppendsKeep = (files : Files) (edits : List Edit) (m : IsManifestOpen store files edits)
        → AppendedAreBytes files → (text : List ℕ) → text ≢ [] → (edit : Edit) → IsEdit text edit
        → (bound : ℕ) → EditRefines store cmp IsTableOf bound files edits edit → (now : Files)
        → PrefixAppended (in_folder store m.has_edits.name)
        (frame_at (length (bytes_of m.has_edits.manifest)) text) files now
        → KeepsHistory store cmp IsTableOf allowed bound files now

    -- the rename that puts another manifest in the place of the one in use keeps each history, on
    -- either side
    abbrev pub RenamesKeep : Type 0
    RenamesKeep = (files : Files) (edits others : List Edit) → HasEdits store files edits
        → AppendedAreBytes files → (temp : List ℕ) → HasNextCurrent store files temp others
        → (bound : ℕ) → EditsRefine store cmp IsTableOf bound files edits others → (now : Files)
        → BeforeOrAfter (renamed (in_folder store temp) (current_path store)) files now
        → KeepsHistory store cmp IsTableOf allowed bound files now

    -- the rename that makes the first `CURRENT` keeps each history, on either side
    abbrev pub FirstCurrentKeeps : Type 0
    FirstCurrentKeeps = (files : Files) → HasNoStore store files
        → (temp : List ℕ) (edits : List Edit) → HasNextCurrent store files temp edits
        → (n : IsNew (live_after edits)) → LastNumbersFit edits
        → allowed (made (Some n.comparator)) → (bound : ℕ) (now : Files)
        → BeforeOrAfter (renamed (in_folder store temp) (current_path store)) files now
        → KeepsHistory store cmp IsTableOf allowed bound files now

-- ---- contents and histories

module _ (allowed : Store → Type 0) where
  -- where no store is, the contents match the empty history
  abbrev pub NothingMatches : Type 0
  NothingMatches = allowed missing → (bound : ℕ)
      → MatchesHistory allowed bound no_contents []

  -- contents match a history with an empty batch at its end exactly if they match it without
  abbrev pub EmptyBatchesMatch : Type 0
  EmptyBatchesMatch = (bound : ℕ) (contents : Contents) (history : History)
      → MatchesHistory allowed bound contents history
      ↔ MatchesHistory allowed bound contents (history ++ [] ∷ [])

  -- a set of entries matches a history of one batch that has these entries
  abbrev pub SetsMatch : Type 0
  SetsMatch = (bound : ℕ) (contents : Contents) (found : List Entry)
      → SameEntries contents.entries found → greatest found ≤ contents.last
      → contents.last ≤ bound → allowed contents.store
      → MatchesHistory allowed bound contents (found ∷ [])

-- ---- tables

-- bytes are a store's table of one list of pairs, as they are of any table's
abbrev pub OneStoreTable : (ℕ → List ℕ → List ℕ → Type 0) → Type 0
OneStoreTable Decodes = (cmp : List ℕ → List ℕ → Ordering)
    (meaning : List ℕ → Option (List ℕ → List ℕ → Bool)) → DecodesOne Decodes
    → OneTable Decodes (internal_cmp cmp) → OneTableReading (IsStoreTable Decodes cmp meaning)

-- the keys of a store's table are in the range that its edit says
abbrev pub TablesAreBounded : (ℕ → List ℕ → List ℕ → Type 0) → Type 0
TablesAreBounded Decodes = (store : List ℕ) (cmp : List ℕ → List ℕ → Ordering)
    → IsTotalOrder cmp → (meaning : List ℕ → Option (List ℕ → List ℕ → Bool)) (files : Files)
    (table : LiveTable) → HasTable store cmp (IsStoreTable Decodes cmp meaning) files table
    → IsBounded cmp table

-- ---- steps of a call

module _ (store : List ℕ) (reads : Files → Contents → Type 0) (allowed : Store → Type 0) where
  -- what is safe for a part of a risk is safe for all of it
  abbrev pub PartsAreSafe : Type 0
  PartsAreSafe = (durable least : ℕ) (risk whole : Risk) (files : Files) → IsPartOf risk whole
      → least ≤ durable → IsSafeFor store reads allowed durable risk files
      → IsSafeFor store reads allowed least whole files

-- two steps, each safe for a part of what is at risk at each of its moments, are safe together
abbrev pub StepsCompose : {E F : Type 0} → Ghosts E F → List ℕ → (Files → Contents → Type 0)
    → (Store → Type 0) → Type 0
StepsCompose {E = E} env store reads allowed = (least durable later : ℕ)
    (first second whole : Risk) (a b c : E) → IsPartOf first whole → IsPartOf second whole
    → least ≤ durable → least ≤ later
    → Within (IsSafeFor store reads allowed durable first) (env.observed a) (env.observed b)
    → Within (IsSafeFor store reads allowed later second) (env.observed b) (env.observed c)
    → Within (IsSafeFor store reads allowed least whole) (env.observed a) (env.observed c)

-- ---- levels

-- tables may be left out whose range lacks the key: what the others find of it all find
abbrev pub RangesLeaveOut : Type 0
RangesLeaveOut = (cmp : List ℕ → List ℕ → Ordering) (all some : List LiveTable)
    → ((table : LiveTable) → Contains all table → IsBounded cmp table)
    → ((table : LiveTable) → Contains some table → Contains all table)
    → (key : List ℕ)
    → ((table : LiveTable) → Contains all table → IsInRange cmp table.file key
    → Contains some table)
    → (s : ℕ) (found : Lookup (List ℕ))
    → FindsNewest (table_entries some) s key found → FindsNewest (table_entries all) s key found

-- tables in the order in which they are searched are layered, the newer ones first
abbrev pub LevelsAreLayered : Type 0
LevelsAreLayered = (cmp : List ℕ → List ℕ → Ordering) → IsTotalOrder cmp
    → (all : List LiveTable) → LevelOrder cmp all
    → ((table : LiveTable) → Contains all table → IsBounded cmp table)
    → (tables : List LiveTable)
    → ((table : LiveTable) → Contains tables table → Contains all table)
    → AllPairs IsSearchedBefore tables
    → AreLayered (map (λ (table : LiveTable). table.entries) tables)

-- a table that may be added keeps the order of levels
abbrev pub AddingKeepsOrder : Type 0
AddingKeepsOrder = (cmp : List ℕ → List ℕ → Ordering) → IsTotalOrder cmp
    → (tables : List LiveTable) (table : LiveTable) → LevelOrder cmp tables
    → ((one : LiveTable) → Contains tables one → IsBounded cmp one)
    → CanBeAdded cmp tables table → LevelOrder cmp (table ∷ tables)

-- A bounded table may be added to the level that is picked for its range, if its entries are newer
-- than those of all tables and its number is greater than theirs in level 0.
abbrev pub OutputLevelsCanTake : Type 0
OutputLevelsCanTake = (cmp : List ℕ → List ℕ → Ordering) (tables : List LiveTable)
    (files : List NewFile)
    → ((one : LiveTable) → Contains tables one → Contains files one.file) → (table : LiveTable)
    → table.file.level ≡ output_level cmp (file_range table.file) files → IsBounded cmp table
    → IsOlder (table_entries tables) table.entries
    → ((one : LiveTable) → Contains tables one → one.file.level ≡ 0 → table.file.level ≡ 0
    → one.file.number < table.file.number)
    → CanBeAdded cmp tables table
