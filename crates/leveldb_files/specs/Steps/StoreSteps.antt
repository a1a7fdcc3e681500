-- What the steps of an engine ask of a store's files, and what they make of them.
use Rattle.std.specs.Prelude.{◌≡◌, ◌≢◌, ◌≤◌, ◌<◌, ◌^◌, ◌⊎◌, ◌↔◌, false, true, ℕ, List, [], ◌∷◌, ◌++◌, length, take, max, Option, Some, None, IsSome, Contains}
use Rattle.std.specs.declared.cmp.Ordering.{Ordering}
use Rattle.std.specs.Str.{bytes_eq}
use Rattle.leveldb_base.specs.declared.types.FileType.TheVariants.{Log, Table, Temp}
use Rattle.leveldb_base.specs.History.{Entry, History, SameView, AreUpTo, greatest}
use Rattle.leveldb_base.specs.KeyTypes.{greatest_sequence}
use Rattle.leveldb_base.specs.Names.{IsFileName, file_name}
use Rattle.leveldb_base.specs.Types.{Pair}
pub use Rattle.leveldb_env.specs.Env.{AppendedAreBytes}
use Rattle.leveldb_env.specs.Env.{File, Files, FilesCrashTo, AreBytes, BeforeOrAfter, bytes_of, created, emptied, in_folder}
use Rattle.leveldb_mem.specs.Log.{End, clean, IsLogFile}
use Rattle.leveldb_mem.specs.WriteBatch.{Batch}
use Rattle.leveldb_files.specs.Stores.Batches.{Each, IsRecordOf, all_entries}
use Rattle.leveldb_files.specs.Stores.Contents.{Store, Contents}
use Rattle.leveldb_files.specs.Edits.Current.{IsCurrentText}
use Rattle.leveldb_files.specs.Histories.Holds.{Carries, IsHonest, IsSafe}
use Rattle.leveldb_files.specs.Levels.Levels.{LiveTable, LevelOrder, table_entries}
use Rattle.leveldb_files.specs.Stores.Paths.{current_path, log_path, table_path}
use Rattle.leveldb_files.specs.Stores.Store.{HasEdits, HasLog, HasTable, HasTables, IsManaged, IsManagedBy, IsManifest, LogIsReplayed, IsStore, ReplayedLog, SameEntries, log_entries}
use Rattle.leveldb_files.specs.Edits.Edit.{Edit, LevelFile, NewFile}
use Rattle.leveldb_files.specs.Edits.VersionSet.{FileSet, is_same_file, level_file, live_after}

-- ---- what is kept

-- all bytes of what is there are kept
abbrev pub IsKept : Option File → Type 0
IsKept None = Unit {0}
IsKept (Some file) = file.since ≡ []

-- the live tables are kept
abbrev pub TablesAreKept : List ℕ → Files → FileSet → Type 0
TablesAreKept store files set = (file : NewFile) → file.number < 2 ^ 64
    → set.file (level_file file) ≡ Some file → IsKept (files (table_path store file.number))

-- the live tables and the logs that are replayed are kept
pub record AreKept (store : List ℕ) (set : FileSet) (files : Files) : Type 0 where
  pub tables : TablesAreKept store files set
  pub logs : (name : List ℕ) (n : ℕ) → IsFileName name n Log → LogIsReplayed set n
      → IsKept (files (in_folder store name))

module _ (store : List ℕ) (cmp : List ℕ → List ℕ → Ordering)
    (IsTableOf : List ℕ → List Pair → Type 0) where
  -- all that is read is kept
  pub record IsAllKept (files : Files) (contents : Contents) : Type 0 where
    pub managed : IsManaged store cmp IsTableOf files contents
    pub current : managed.has_edits.current.since ≡ []
    pub manifest : managed.has_edits.manifest.since ≡ []
    pub kept : AreKept store (live_after managed.edits) files

  -- whatever history the old files carry, the new ones do too, now and after an honest crash
  pub record KeepsHistory (allowed : Store → Type 0) (bound : ℕ) (old new : Files)
      : Type 0 where
    pub now : (history : History)
        → Carries store (IsStore store cmp IsTableOf) allowed bound history old
        → Carries store (IsStore store cmp IsTableOf) allowed bound history new
    pub crash : (durable : ℕ) (history : History)
        → IsSafe store (IsStore store cmp IsTableOf) allowed bound durable history old
        → IsSafe store (IsStore store cmp IsTableOf) allowed bound durable history new

-- ---- the manifest

-- `CURRENT` is kept and names a manifest, which has these edits and ends cleanly
pub record IsManifestOpen (store : List ℕ) (files : Files) (edits : List Edit) : Type 0 where
  pub has_edits : HasEdits store files edits
  pub current_kept : has_edits.current.since ≡ []
  pub clean_end : IsLogFile (bytes_of has_edits.manifest) has_edits.is.records clean

-- The new contents show what the old ones show, from their own last number on, which isn't below
-- the old one, and no entry of them is new.
pub record Refines (bound : ℕ) (old new : Contents) : Type 0 where
  pub later : old.last ≤ new.last
  pub bounded : new.last ≤ bound
  pub store : new.store ≡ old.store
  pub same : (t : ℕ) → new.last ≤ t → SameView new.entries old.entries t
  pub none_new : (entry : Entry) → Contains new.entries entry → Contains old.entries entry

module _ (store : List ℕ) (cmp : List ℕ → List ℕ → Ordering)
    (IsTableOf : List ℕ → List Pair → Type 0) where
  -- Whatever an honest crash leaves of these files: what is a store by the first edits is one by
  -- the others too, whose contents refine its own.
  abbrev pub EditsRefine : ℕ → Files → List Edit → List Edit → Type 0
  EditsRefine bound files edits others = (left : Files) (contents : Contents)
      → FilesCrashTo files left → IsHonest store files left → contents.last ≤ bound
      → IsManagedBy store cmp IsTableOf left edits contents
      → (now : Contents) × IsManagedBy store cmp IsTableOf left others now
      × Refines bound contents now

  -- one more edit changes nothing that is shown, whatever an honest crash leaves of these files
  abbrev pub EditRefines : ℕ → Files → List Edit → Edit → Type 0
  EditRefines bound files edits edit = EditsRefine bound files edits (edits ++ edit ∷ [])

-- ---- the last log

-- The log of this number is replayed, and it is the last one that may have batches: those above it
-- are empty. All other logs that are replayed are kept.
pub record IsLastLog (store : List ℕ) (files : Files) (set : FileSet) (number : ℕ) : Type 0 where
  pub replayed : LogIsReplayed set number
  pub empty_after : (name : List ℕ) (n : ℕ) (other : File) → IsFileName name n Log
      → LogIsReplayed set n → number < n → files (in_folder store name) ≡ Some other
      → bytes_of other ≡ []
  pub others_kept : (name : List ℕ) (n : ℕ) → IsFileName name n Log → LogIsReplayed set n
      → name ≢ file_name Log number → IsKept (files (in_folder store name))

-- each log below this number that is replayed ends cleanly
abbrev pub AreCleanBefore : List ℕ → Files → FileSet → ℕ → Type 0
AreCleanBefore store files set number = (n : ℕ) (other : File) → n < number → LogIsReplayed set n
    → files (log_path store n) ≡ Some other
    → (records : List (List ℕ)) × IsLogFile (bytes_of other) records clean

-- the log that is written is the last one, and ends cleanly, as those before it do
pub record IsLogOpen (store : List ℕ) (files : Files) (set : FileSet) : Type 0 where
  pub number : ℕ
  pub fits : number < 2 ^ 64
  pub last : IsLastLog store files set number
  pub clean_before : AreCleanBefore store files set number
  pub file : File
  pub there : files (log_path store number) ≡ Some file
  pub records : List (List ℕ)
  pub clean_end : IsLogFile (bytes_of file) records clean
  pub batches : List Batch
  pub each : Each IsRecordOf records batches

-- A batch may be appended: `CURRENT`, the manifest and the live tables are kept, and the last log
-- is open.
pub record IsWritable (store : List ℕ) (files : Files) (edits : List Edit) : Type 0 where
  pub has_edits : HasEdits store files edits
  pub current : has_edits.current.since ≡ []
  pub manifest : has_edits.manifest.since ≡ []
  pub tables : TablesAreKept store files (live_after edits)
  pub log : IsLogOpen store files (live_after edits)
  pub bytes : AreBytes log.file.since

-- all logs that are there have a smaller number
abbrev pub IsAboveLogs : List ℕ → Files → ℕ → Type 0
IsAboveLogs store files n = (name : List ℕ) (k : ℕ) → IsFileName name k Log
    → files (in_folder store name) ≢ None → k < n

-- an empty file is made under this path, whether one that was there would have been kept or not
abbrev pub MakesFile : List ℕ → Files → Files → Type 0
MakesFile path old new =
    BeforeOrAfter (created path) old new ⊎ BeforeOrAfter (emptied path) old new

-- ---- files that aren't read

-- no live table and no log that is replayed is under this path
pub record IsUnnamed (store : List ℕ) (set : FileSet) (path : List ℕ) : Type 0 where
  pub tables : (file : NewFile) → file.number < 2 ^ 64 → set.file (level_file file) ≡ Some file
      → bytes_eq path (table_path store file.number) ≡ false
  pub logs : (name : List ℕ) (n : ℕ) → IsFileName name n Log → LogIsReplayed set n
      → bytes_eq path (in_folder store name) ≡ false

-- Whatever an honest crash leaves of these files, what is under this path isn't read.
pub record IsUnread (store : List ℕ) (files : Files) (path : List ℕ) : Type 0 where
  -- it isn't `CURRENT`
  pub not_current : bytes_eq path (current_path store) ≡ false
  -- it isn't the manifest that `CURRENT` names
  pub not_manifest : (left : Files) (file : File) (name : List ℕ) (n : ℕ)
      → FilesCrashTo files left → IsHonest store files left
      → left (current_path store) ≡ Some file → IsCurrentText (bytes_of file) name n
      → bytes_eq path (in_folder store name) ≡ false
  -- it is neither a live table nor a log that is replayed
  pub unnamed : (left : Files) (edits : List Edit) → FilesCrashTo files left
      → IsHonest store files left → HasEdits store left edits
      → IsUnnamed store (live_after edits) path
  -- where no store is there yet, its name is neither a table's nor a log's
  pub bare : (files (current_path store) ≢ None)
      ⊎ ((name : List ℕ) (n : ℕ) → (IsFileName name n Table ⊎ IsFileName name n Log)
      → bytes_eq path (in_folder store name) ≡ false)

-- ---- the edits of an engine

-- no file of the edit is of this level and number
pub record LeavesAlone (edit : Edit) (at : LevelFile) : Type 0 where
  pub deleted : (file : LevelFile) → Contains edit.deleted file → is_same_file file at ≡ false
  pub added : (file : NewFile) → Contains edit.added file
      → is_same_file (level_file file) at ≡ false

-- each level and number is added once
abbrev pub AddsOnce : Edit → Type 0
AddsOnce edit = (file other : NewFile) → Contains edit.added file → Contains edit.added other
    → is_same_file (level_file other) (level_file file) ≡ true → other ≡ file

-- tables after an edit: those that it adds, and those from before that it leaves alone
abbrev pub AreTablesAfter : Edit → List LiveTable → List LiveTable → List LiveTable → Type 0
AreTablesAfter edit before added after = (table : LiveTable) → Contains after table
    ↔ (Contains added table ⊎ (Contains before table × LeavesAlone edit (level_file table.file)))

-- the sets have the same files, comparator and numbers, but for the next file's number, which is
-- set
pub record SameButNextFile (old new : FileSet) : Type 0 where
  pub file : (file : NewFile) → new.file (level_file file) ≡ old.file (level_file file)
  pub comparator : new.comparator ≡ old.comparator
  pub log_number : new.log_number ≡ old.log_number
  pub previous_log : new.previous_log ≡ old.previous_log
  pub next_file : IsSome new.next_file
  pub last_sequence : new.last_sequence ≡ old.last_sequence

-- the last sequence number rises, to a bound at most, and is one that an entry can have
pub record LastRises (bound : ℕ) (old new : FileSet) : Type 0 where
  pub before : ℕ
  pub last : ℕ
  pub old_last : old.last_sequence ≡ Some before
  pub new_last : new.last_sequence ≡ Some last
  pub later : before ≤ last
  pub bounded : last ≤ bound
  pub fits : last ≤ greatest_sequence

-- By the new set the logs from this number on are replayed, as they are by the old one, and no
-- others are.
pub record ReplaysFrom (log : ℕ) (old new : FileSet) : Type 0 where
  pub new_log : new.log_number ≡ Some log
  pub no_previous : (n : ℕ) → new.previous_log ≡ Some n → 0 < n → ⊥
  pub still : (n : ℕ) → log ≤ n → LogIsReplayed old n

-- the logs below this number that are there and are replayed are these, and they are kept
pub record AreLogsBelow (store : List ℕ) (files : Files) (set : FileSet) (log : ℕ)
    (logs : List ReplayedLog) : Type 0 where
  pub each : (one : ReplayedLog) → Contains logs one → HasLog store files one
      × LogIsReplayed set one.number × (one.number < log) × (one.number < 2 ^ 64)
  pub all : (n : ℕ) → n < log → LogIsReplayed set n → files (log_path store n) ≢ None
      → (one : ReplayedLog) × Contains logs one × (one.number ≡ n)
  pub kept : (n : ℕ) → n < log → LogIsReplayed set n → IsKept (files (log_path store n))

-- a store is new by this set: it has no table, and no number was given to an entry
pub record IsNew (set : FileSet) : Type 0 where
  pub comparator : List ℕ
  pub comparator_is : set.comparator ≡ Some comparator
  pub log_is : IsSome set.log_number
  pub next_file_is : IsSome set.next_file
  pub last_is : set.last_sequence ≡ Some 0
  pub no_table : (file : NewFile) → set.file (level_file file) ≡ Some file → ⊥

module _ (store : List ℕ) (cmp : List ℕ → List ℕ → Ordering)
    (IsTableOf : List ℕ → List Pair → Type 0) (files : Files) where
  -- the tables are those that are live, and they are kept
  pub record HasKeptTables (set : FileSet) (tables : List LiveTable) : Type 0 where
    pub has : HasTables store cmp IsTableOf files set tables
    pub kept : TablesAreKept store files set

  -- the tables are those that an edit adds: each is there, and each level and number is added once
  pub record HasAddedTables (edit : Edit) (tables : List LiveTable) : Type 0 where
    pub each : (table : LiveTable) → Contains tables table
        → HasTable store cmp IsTableOf files table × Contains edit.added table.file
        × (table.file.number < 2 ^ 64)
    pub all : (file : NewFile) → Contains edit.added file
        → (table : LiveTable) × Contains tables table × (table.file ≡ file)
    pub once : AddsOnce edit

module _ (store : List ℕ) (cmp : List ℕ → List ℕ → Ordering)
    (IsTableOf : List ℕ → List Pair → Type 0) (bound : ℕ) (files : Files) (old new : FileSet) where
  -- The edit of a compaction, as it changes the set: tables are replaced by others that show the
  -- same, and the logs stay.
  pub record SwapsTables : Type 0 where
    -- the tables that were live, and those that are live then, whose levels are in order
    pub before : List LiveTable
    pub has_before : HasKeptTables store cmp IsTableOf files old before
    pub after : List LiveTable
    pub has_after : HasKeptTables store cmp IsTableOf files new after
    pub levels : LevelOrder cmp after
    -- no entry is new
    pub none_new : (entry : Entry) → Contains (table_entries after) entry
        → Contains (table_entries before) entry
    -- and from the greatest number of the tables on the same is shown
    pub same : (t : ℕ) → greatest (table_entries before) ≤ t
        → SameView (table_entries after) (table_entries before) t
    -- the single values
    pub comparator : new.comparator ≡ old.comparator
    pub log_number : new.log_number ≡ old.log_number
    pub previous_log : new.previous_log ≡ old.previous_log
    pub next_file : IsSome new.next_file
    pub last : LastRises bound old new

  -- The edit of a switch, as it changes the set: the logs below a number aren't replayed any more,
  -- since new tables have their entries.
  pub record SwitchesLog : Type 0 where
    -- the new tables are live beside those that were, and the levels are in order
    pub before : List LiveTable
    pub has_before : HasKeptTables store cmp IsTableOf files old before
    pub added : List LiveTable
    pub has_after : HasKeptTables store cmp IsTableOf files new (added ++ before)
    pub levels : LevelOrder cmp (added ++ before)
    -- the logs from this number on are replayed still, and those below it aren't any more
    pub log : ℕ
    pub logs : ReplaysFrom log old new
    pub taken : List ReplayedLog
    pub has_taken : AreLogsBelow store files old log taken
    -- the single values
    pub comparator : new.comparator ≡ old.comparator
    pub next_file : IsSome new.next_file
    pub last : LastRises bound old new
    -- the new tables have exactly the entries of those logs, none of them above the last number
    pub wrote : SameEntries (table_entries added) (log_entries taken)
    pub reached : AreUpTo last.last (table_entries added)

-- ---- a new manifest

-- A temporary file is kept that names a manifest, which is kept and has these edits: it may be
-- renamed to `CURRENT`.
pub record HasNextCurrent (store : List ℕ) (files : Files) (temp : List ℕ) (edits : List Edit)
    : Type 0 where
  pub temp_number : ℕ
  pub temp_name : IsFileName temp temp_number Temp
  pub text : File
  pub text_there : files (in_folder store temp) ≡ Some text
  pub text_kept : text.since ≡ []
  pub name : List ℕ
  pub number : ℕ
  pub named : IsCurrentText (bytes_of text) name number
  pub manifest : File
  pub manifest_there : files (in_folder store name) ≡ Some manifest
  pub manifest_kept : manifest.since ≡ []
  pub is : IsManifest manifest edits

-- ---- what a crash cuts

-- A journal as far as it was written: what its kept bytes are read as, and what all of them are
-- read as. There are bytes that would complete the record that may have been cut short at its end.
pub record IsTornJournal (file : File) (kept written : List (List ℕ)) : Type 0 where
  pub kept_end : End
  pub kept_read : IsLogFile file.kept kept kept_end
  pub end : End
  pub read : IsLogFile (bytes_of file) written end
  pub missing : List ℕ
  pub records : List (List ℕ)
  pub whole : IsLogFile (bytes_of file ++ missing) records clean

-- The new contents are the old ones, but that of the last log's batches there are the first k.
-- `last` is the last number that the manifest says.
pub record IsCutTo (batches : List Batch) (k last : ℕ) (old new : Contents) : Type 0 where
  pub in_tables : List Entry
  pub before : List Batch
  pub old_entries : old.entries ≡ in_tables ++ all_entries (before ++ batches)
  pub new_entries : new.entries ≡ in_tables ++ all_entries (before ++ take k batches)
  pub old_last : old.last ≡ max last (greatest (all_entries (before ++ batches)))
  pub new_last : new.last ≡ max last (greatest (all_entries (before ++ take k batches)))
  pub store : new.store ≡ old.store

module _ (store : List ℕ) (cmp : List ℕ → List ℕ → Ordering)
    (IsTableOf : List ℕ → List Pair → Type 0) where
  -- By these edits the files are a store of which all is kept but the last log. That log is empty,
  -- or those before it end cleanly.
  pub record IsKeptButLog (files : Files) (edits : List Edit) (number : ℕ) : Type 0 where
    pub contents : Contents
    pub managed : IsManagedBy store cmp IsTableOf files edits contents
    pub tables : TablesAreKept store files (live_after edits)
    pub logs : IsLastLog store files (live_after edits) number
    pub clean_before : AreCleanBefore store files (live_after edits) number
        ⊎ ((file : File) → files (log_path store number) ≡ Some file → bytes_of file ≡ [])

  -- A store whose manifest and last log may both be cut by a crash. `kept_edits` and `kept_batches`
  -- say how many records of each are kept.
  pub record IsCuttable (files : Files) (edits : List Edit) (number : ℕ) (batches : List Batch)
      (kept_edits kept_batches : ℕ) : Type 0 where
    -- `CURRENT` is kept, and the manifest that it names is a journal of these edits
    pub has_edits : HasEdits store files edits
    pub current_kept : has_edits.current.since ≡ []
    pub manifest_kept : List (List ℕ)
    pub manifest : IsTornJournal has_edits.manifest manifest_kept has_edits.is.records
    pub kept_edits_are : kept_edits ≡ length manifest_kept
    -- the last log is a journal of these batches
    pub fits : number < 2 ^ 64
    pub file : File
    pub there : files (log_path store number) ≡ Some file
    pub log_kept : List (List ℕ)
    pub log_written : List (List ℕ)
    pub log : IsTornJournal file log_kept log_written
    pub kept_batches_are : kept_batches ≡ length log_kept
    pub each_batch : Each IsRecordOf log_written batches
    -- by as many of the edits as a crash may leave the files are a store, of which all else is kept
    pub each : (count : ℕ) → kept_edits ≤ count → count ≤ length edits
        → IsKeptButLog files (take count edits) number

  -- what a crash left of it: a store by the first of its edits, with the first of its batches
  pub record IsCutStore (files : Files) (edits : List Edit) (number : ℕ) (batches : List Batch)
      (kept_edits kept_batches : ℕ)
      (s : IsCuttable files edits number batches kept_edits kept_batches) (left : Files)
      : Type 0 where
    pub count : ℕ
    pub enough : kept_edits ≤ count
    pub there : count ≤ length edits
    pub k : ℕ
    pub enough_batches : kept_batches ≤ k
    pub there_batches : k ≤ length batches
    pub has_edits : HasEdits store left (take count edits)
    pub contents : Contents
    pub managed : IsManagedBy store cmp IsTableOf left (take count edits) contents
    pub cut : IsCutTo batches k (s.each count enough there).managed.last
        (s.each count enough there).contents contents

-- ---- steps of a call

-- a history of which a crash may leave a prefix, and a number that nothing left may pass
pub record Risk : Type 0 where
  pub history : History
  pub bound : ℕ

-- one risk is a part of another: its history is a prefix of the other's, and its bound no greater
pub record IsPartOf (risk whole : Risk) : Type 0 where
  pub bound : risk.bound ≤ whole.bound
  pub rest : History
  pub history : whole.history ≡ risk.history ++ rest

module _ (store : List ℕ) (reads : Files → Contents → Type 0) where
  -- a crash leaves a prefix of what is at risk, with at least `durable` batches
  abbrev pub IsSafeFor : (Store → Type 0) → ℕ → Risk → Files → Type 0
  IsSafeFor allowed durable risk files =
      IsSafe store reads allowed risk.bound durable risk.history files
