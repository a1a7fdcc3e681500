-- What each step of an opening returns and leaves of a store's files, and why it fails.
use Rattle.std.specs.Prelude.{◌≡◌, ◌≢◌, ◌≤◌, ◌<◌, ◌⊎◌, ◌+◌, ◌%◌, ◌^◌, ℕ, Bool, false, true, List, [], ◌∷◌, ◌++◌, map, Contains, Option, None, Some, IsSome, IfNone, IfSome, Result, OnErr, OnOk, IfOk, IsErrAnd, IsTrue, length, max}
use Rattle.std.specs.BTreeSet.{BTreeSet}
use Rattle.std.specs.List.Sorted.{IsStrictlySortedBy}
use Rattle.std.specs.Ordering.{nat_cmp}
use Rattle.std.specs.declared.cmp.Ordering.{Ordering}
use Rattle.leveldb_base.specs.Error.{IsOutOfMemory}
use Rattle.leveldb_base.specs.History.{AreUpTo, Entry, greatest}
use Rattle.leveldb_base.specs.Names.{IsFileName, file_name}
use Rattle.leveldb_base.specs.declared.cmp.Cmp.{Ghosts as CmpGhosts}
use Rattle.leveldb_base.specs.declared.error.Status.{Status}
use Rattle.leveldb_base.specs.declared.error.StatusCode.TheVariants.{Corruption, InvalidArgument, NotSupported}
use Rattle.leveldb_base.specs.declared.types.FileMetaData.{FileMetaData}
use Rattle.leveldb_base.specs.declared.types.FileType.{FileType}
use Rattle.leveldb_base.specs.declared.types.FileType.TheVariants.{Log}
use Rattle.leveldb_env.specs.Env.{BeforeOrAfter, ChangesFiles, Files, FilesUnchanged, Run, SameLocks, created, emptied, in_folder, synced}
use Rattle.leveldb_env.specs.declared.env.Env.{Ghosts}
use Rattle.leveldb_env.specs.declared.filter.FilterPolicy.{Ghosts as FilterGhosts}
use Rattle.leveldb_mem.specs.Log.{bad, clean, log_block_size}
use Rattle.leveldb_mem.specs.Log.Writer.{new_writer}
use Rattle.leveldb_mem.specs.MemTable.{MemTableState}
use Rattle.leveldb_mem.specs.WriteBatch.{Batch}
use Rattle.leveldb_files.specs.Stores.Batches.{AreInOrder, all_entries}
use Rattle.leveldb_files.specs.Levels.Levels.{LiveTable, table_entries}
use Rattle.leveldb_version_set.specs.Sets.LogEdit.{LogEditResult}
use Rattle.leveldb_version_set.specs.Sets.NewManifest.{MakingManifest, with_manifest}
use Rattle.leveldb_version_set.specs.Sets.NewStore.{first_edit, first_manifest}
use Rattle.leveldb_files.specs.Stores.Contents.{Contents}
use Rattle.leveldb_version_set.specs.Engines.Opening.{tables_edit}
use Rattle.leveldb_files.specs.Stores.Paths.{current_path, log_path}
use Rattle.leveldb_version_set.specs.Sets.Recover.{SyncsManifestAtMost, Recovers}
use Rattle.leveldb_files.specs.Stores.Store.{HasEdits, HasLog, HasNoStore, HasTable, LogIsReplayed, ReplayedLog as StoreLog, SameEntries, log_batches, log_entries}
use Rattle.leveldb_files.specs.Edits.Edit.{Edit, IsEncodable, NewFile}
use Rattle.leveldb_files.specs.Edits.VersionSet.{ListsFiles, live_after}
use Rattle.leveldb_version_set.specs.Compactions.Inputs.{AreOrdered}
use Rattle.leveldb_version.specs.Edits.VersionEdit.{new_file_of}
use Rattle.leveldb_version_set.specs.Sets.VersionSetValue.{AreFileNumbersUsedUp, OpenManifest, VersionSetValue, broken, in_use, new_version_set, unmade, with_number_given}
use Rattle.leveldb_version_set.specs.Engines.Writing.{NumbersAreBelow}
use Rattle.leveldb_store.specs.Tables.BuildTable.{TableChoices}
use Rattle.leveldb_files.specs.Stores.Format.{Agrees, Format, IsTableOf, Meaning}
use Rattle.leveldb_store.specs.Openings.Listing.{AreNamesIn}
use Rattle.leveldb_store.specs.Keeping.KeptBytes.{HasNewNumbers, LosesNoBytesMeanwhile, LosesNothing}
use Rattle.leveldb_store.specs.Keeping.OpenStore.{AreInLevels, AreNumbersGiven, HasOwnManifest, IsUnbroken, OpenStoreValue}
use Rattle.leveldb_store.specs.Openings.Opening.{AreMadeTables, GivesNumbers, SameButTables}
use Rattle.leveldb_store.specs.Openings.OpeningState.{HasComparator, IsRecoveredWith, with_comparator}
use Rattle.leveldb_store.specs.Openings.OpensStore.{AreTablesThere, HasHugeManifest, HasOtherComparator, HasSharedUserKey, IsBareFolder, IsDamaged, IsForbidden, IsForbiddenAs, IsManifestThere, IsNumberFound, IsOpenedAs, IsSound, IsTableOrLog, IsTableThere, KeepsFound, LacksCurrent, LacksUsableEdits, LeavesFewNumbers, SameBesideOwn, WhyNotOpenable}
use Rattle.leveldb_store.specs.Logs.FoundLogs.{HasLogNotKept, LacksNumbersFor, LogBeginsWith, LogsBeginWith}
use Rattle.leveldb_store.specs.Logs.ReplayLog.{FailsAtLog, HasCauseOr, IsUnusable, MakesTablesOnly, table_files}
use Rattle.leveldb_store.specs.Writing.Room.{IsFull}
use Rattle.leveldb_store.specs.Keeping.SoundCall.{BytesAreAppended}
use Rattle.leveldb_store.specs.Writing.Switch.{MayGiveNumber}
use Rattle.leveldb_store.specs.declared.open_store.OpenLog.{OpenLog}
use Rattle.leveldb_store.specs.declared.opening.recovered_set.RecoveredSet.{RecoveredSet}
use Rattle.leveldb_store.specs.declared.opening.replay.Replay.{Replay}
use Rattle.leveldb_store.specs.declared.opening.replay.UsedLog.{UsedLog}
use Rattle.leveldb_store.specs.declared.opening.replay_log.ReplayedLog.{ReplayedLog}

-- ---- which store is there

-- one of the names is
abbrev pub HasTableOrLog : List (List ℕ) → Type 0
HasTableOrLog names = (name : List ℕ) × Contains names name × IsTableOrLog name

-- no store was there, and the files are those of a new one, or on the way to it
pub record IsBeingMade (store comparator : List ℕ) (files now : Files) : Type 0 where
  pub bare : HasNoStore store files
  pub encodable : IsEncodable (first_edit comparator)
  pub making : MakingManifest store 1 (first_manifest comparator) files now

-- no store was there, and a new one was made
pub record IsMade (store comparator : List ℕ) (files now : Files) : Type 0 where
  pub bare : HasNoStore store files
  pub encodable : IsEncodable (first_edit comparator)
  pub made : now ≡ with_manifest store 1 (first_manifest comparator) files

module _ {E F : Type 0} (env : Ghosts E F) (store comparator : List ℕ)
    (create_if_missing error_if_exists : Bool) (from : E) where
  -- Why no store is found or made, beside out of memory: not even the lock's file is there, or the
  -- options forbid it, or the store is damaged.
  abbrev pub WhyNotFound : Status → Type 0
  WhyNotFound status = ((status.code ≡ Corruption) × (IsTrue env.models_disk
      → IsBareFolder store (env.observed from).disk.files))
      ⊎ IsForbiddenAs env.models_disk store create_if_missing error_if_exists
      (env.observed from).disk.files status
      ⊎ ((status.code ≡ Corruption) × (IsTrue env.models_disk
      → LacksCurrent store (env.observed from).disk.files))

  -- A store was found, and nothing changed; or there was none, and a new one was made.
  pub record FindsStore {T : Type 0} (result : Result T Status) (to : E) : Type 0 where
    pub ok : OnOk result (IsTrue env.models_disk
        → (((env.observed from).disk.files (current_path store) ≢ None)
        × ((env.observed to).disk.files ≡ (env.observed from).disk.files))
        ⊎ IsMade store comparator (env.observed from).disk.files (env.observed to).disk.files)
    -- what the options forbid isn't opened, nor tables or logs without `CURRENT`, and all files
    -- stay
    pub stays : IsTrue env.models_disk → IsForbidden store create_if_missing error_if_exists
        (env.observed from).disk.files ⊎ LacksCurrent store (env.observed from).disk.files
        → OnOk result ⊥
        × Run (FilesUnchanged (env.observed from).disk.files) (env.observed from)
        (env.observed to)
    -- at each moment the files are the same, or on the way to a new store
    pub run : IsTrue env.models_disk
        → Run (λ files. (files ≡ (env.observed from).disk.files)
        ⊎ IsBeingMade store comparator (env.observed from).disk.files files) (env.observed from)
        (env.observed to)
    pub bytes : BytesAreAppended env from to
    pub locks : SameLocks env.models_disk (env.observed from) (env.observed to)
    pub cause : HasCauseOr WhyNotFound (env.failures from) (env.failures to) result

-- ---- names and their numbers

-- one of the names has this number
abbrev pub HasNumber : List (List ℕ) → ℕ → Type 0
HasNumber names n = (name : List ℕ) × (kind : FileType) × Contains names name
    × IsFileName name n kind

-- the numbers of all these names are used
pub record MarksNames (old : VersionSetValue) (names : List (List ℕ)) (new : VersionSetValue)
    : Type 0 where
  pub gives : GivesNumbers old new
  pub used : (name : List ℕ) (n : ℕ) (kind : FileType) → Contains names name
      → IsFileName name n kind → n < new.next_file
  -- the next number is the old one, or comes after that of a name
  pub reached : (new.next_file ≡ old.next_file) ⊎ ((n : ℕ) × HasNumber names n
      × (new.next_file ≡ n + 1))

-- by the manifest's log number and that of the log before it, a log of this number is replayed
abbrev pub IsReplayed : ℕ → ℕ → ℕ → Type 0
IsReplayed log previous n = (log ≤ n) ⊎ ((n ≡ previous) × (0 < n))

-- among these names, a log that is replayed is under another name than its number's
pub record HasMisnamedLog (names : List (List ℕ)) (log previous : ℕ) : Type 0 where
  pub name : List ℕ
  pub n : ℕ
  pub is_there : Contains names name
  pub is_log : IsFileName name n Log
  pub replayed : IsReplayed log previous n
  pub misnamed : name ≢ file_name Log n

-- the numbers in rising order of the logs among these names that are replayed, each of which is
-- under its own name
pub record AreReplayedLogs (names : List (List ℕ)) (log previous : ℕ) (numbers : List ℕ)
    : Type 0 where
  pub each : (n : ℕ) → Contains numbers n
      → IsReplayed log previous n × Contains names (file_name Log n) × (n < 2 ^ 64)
  pub all : (name : List ℕ) (n : ℕ) → Contains names name → IsFileName name n Log
      → IsReplayed log previous n → (name ≡ file_name Log n) × Contains numbers n
  pub rising : IsStrictlySortedBy nat_cmp numbers

-- the number of a log's name has come, if that is one that is replayed
pub record AddsLog (log previous : ℕ) (name : List ℕ) (old new : List ℕ) : Type 0 where
  pub kept : (n : ℕ) → Contains old n → Contains new n
  pub added : (n : ℕ) → IsFileName name n Log → IsReplayed log previous n
      → (name ≡ file_name Log n) × Contains new n
  pub no_other : (n : ℕ) → Contains new n → Contains old n
      ⊎ (IsReplayed log previous n × (name ≡ file_name Log n) × (n < 2 ^ 64))
  pub rising : IsStrictlySortedBy nat_cmp old → IsStrictlySortedBy nat_cmp new

-- the table of one of these files isn't there, or has another size than its edit says
pub record LacksTable (store : List ℕ) (files : Files) (live : List NewFile) : Type 0 where
  pub file : NewFile
  pub is_live : Contains live file
  pub not_there : IsTableThere store files file → ⊥

-- ---- syncs

-- all bytes of a log are kept, which is made if it is missing
abbrev pub with_log_kept : List ℕ → ℕ → Files → Files
with_log_kept store n files = synced (log_path store n) (created (log_path store n) files)

-- all bytes of these logs are kept
abbrev pub with_logs_kept : List ℕ → List ℕ → Files → Files
with_logs_kept store [] files = files
with_logs_kept store (n ∷ logs) files = with_logs_kept store logs (with_log_kept store n files)

-- on the way to one log kept
abbrev pub IsBeingKept : List ℕ → ℕ → Files → Files → Type 0
IsBeingKept store n old files = (files ≡ old) ⊎ (files ≡ created (log_path store n) old)
    ⊎ (files ≡ with_log_kept store n old)

-- on the way to all of them kept: the first of them are, and perhaps the next one is made
pub record AreBeingKept (store : List ℕ) (logs : List ℕ) (old files : Files) : Type 0 where
  pub front : List ℕ
  pub rest : List ℕ
  pub logs_are : logs ≡ front ++ rest
  pub now : (files ≡ with_logs_kept store front old)
      ⊎ ((n : ℕ) × (more : List ℕ) × (rest ≡ n ∷ more)
      × (files ≡ created (log_path store n) (with_logs_kept store front old)))

-- ---- the log to which batches are appended

-- the number of the log to write: of the one that is used on, or the next number
abbrev pub number_to_write : {C : Type 0} → Option (UsedLog C) → ℕ → ℕ
number_to_write None next = next
number_to_write (Some log) next = log.number

-- how many bytes it has
abbrev pub size_to_write : {C : Type 0} → Option (UsedLog C) → ℕ
size_to_write None = 0
size_to_write (Some log) = log.size

-- its entries
abbrev pub entries_to_write : {C : Type 0} → Option (UsedLog C) → List Entry
entries_to_write None = []
entries_to_write (Some log) = log.entries.kept.entries

-- the set once that log has its number
abbrev pub set_to_write : {C : Type 0} → Option (UsedLog C) → VersionSetValue → VersionSetValue
set_to_write None set = with_number_given set
set_to_write (Some log) set = set

-- the files with that log: a new one is empty
abbrev pub files_to_write : {C : Type 0} → Option (UsedLog C) → List ℕ → ℕ → Files → Files
files_to_write None store next = emptied (log_path store next)
files_to_write (Some log) store next = created (log_path store log.number)

module _ {E F : Type 0} (env : Ghosts E F) (store : List ℕ) where
  -- A log of this number and size is open, once the files have changed so.
  pub record OpensFile (change : Files → Files) (n size : ℕ) (from : E)
      (result : Result (OpenLog E F) Status) (to : E) : Type 0 where
    pub does : ChangesFiles env.models_disk change (BeforeOrAfter change) (env.observed from)
        (env.observed to) result
    pub locks : SameLocks env.models_disk (env.observed from) (env.observed to)
    pub number : IfOk result (λ log. log.number ≡ n)
    pub file : IfOk result (λ log. log.file ≡ record {
      path = log_path store n;
      writer = new_writer log_block_size (size % log_block_size);
    })

  -- What opening the log to write returns and leaves, with its entries.
  pub record OpensLog {C : Type 0} (cmp : C) (used : Option (UsedLog C)) (old : VersionSetValue)
      (from : E) (result : Result (OpenLog E F × MemTableState C) Status) (new : VersionSetValue)
      (to : E) : Type 0 where
    pub set : OnOk result (new ≡ set_to_write used old)
    pub fits : OnOk result (IfNone used (old.next_file + 1 < 2 ^ 64))
    -- whether it can be opened or not, its number is one that a file can have
    pub number_fits : number_to_write used old.next_file < 2 ^ 64
    pub err : OnErr result (MayGiveNumber old new)
    pub does : ChangesFiles env.models_disk (files_to_write used store old.next_file)
        (BeforeOrAfter (files_to_write used store old.next_file)) (env.observed from)
        (env.observed to) result
    pub locks : SameLocks env.models_disk (env.observed from) (env.observed to)
    pub number : IfOk result (λ it. it.0.number ≡ number_to_write used old.next_file)
    pub file : IfOk result (λ it. it.0.file ≡ record {
      path = log_path store (number_to_write used old.next_file);
      writer = new_writer log_block_size (size_to_write used % log_block_size);
    })
    pub order : IfOk result (λ it. it.1.cmp ≡ cmp)
    pub entries : IfOk result (λ it. it.1.kept.entries ≡ entries_to_write used)
    pub cause : HasCauseOr (AreFileNumbersUsedUp old.next_file) (env.failures from)
        (env.failures to) result

-- ---- the edit with which an opening ends

-- the files of tables that were made, of level 0
abbrev pub made_files : List FileMetaData → List NewFile
made_files made = map (λ file. new_file_of (0, file)) made

-- What logging the edit returns and leaves that has these tables in place of the logs below a
-- number; or memory is out, and nothing was done.
abbrev pub LogsTables : {E F : Type 0} → Ghosts E F → ℕ → List FileMetaData → VersionSetValue
    → E → Result (Unit {0}) Status → VersionSetValue → E → Type 0
LogsTables env log made old from result new to =
    (IsErrAnd result IsOutOfMemory × (new ≡ old) × (to ≡ from))
    ⊎ LogEditResult env.models_disk old (tables_edit log (made_files made)) (env.observed from)
    (env.failures from) result new (env.observed to) (env.failures to)

-- so it does if that is wanted, and else nothing is done
abbrev pub LogsIfWanted : {E F : Type 0} → Ghosts E F → Bool → ℕ → List FileMetaData
    → VersionSetValue → E → Result (Unit {0}) Status → VersionSetValue → E → Type 0
LogsIfWanted env true log made old from result new to =
    LogsTables env log made old from result new to
LogsIfWanted env false log made old from result new to = (new ≡ old) × (to ≡ from) × OnErr result ⊥

-- ---- the replay of all logs

-- the entries of a log that were in no table are in tables, one at most, that were made since
pub record TablesAll {E F C : Type 0} (env : Ghosts E F) (format : Format) (log : ReplayedLog C)
    (old : VersionSetValue) (files : List NewFile) (new : VersionSetValue) (at : E)
    : Type 0 where
  pub tables : List LiveTable
  pub files_are : files ≡ table_files log ++ map (λ (table : LiveTable). table.file) tables
  pub made_tables : IsTrue env.models_disk → (meaning : Meaning) → Agrees format meaning
      → AreMadeTables format.order meaning old new (env.observed at).disk.files tables
  pub entries : SameEntries (table_entries tables) log.rest.kept.entries
  -- each table's number was given, if those of the tables before were
  pub given : AreNumbersGiven old (table_files log) → AreNumbersGiven new files
  -- and none is turned round, if none of those was
  pub ordered : AreOrdered format.order (table_files log) → AreOrdered format.order files
  -- where there was an entry, a number was given
  pub few : (new.next_file ≡ old.next_file)
      ⊎ ((log.rest.kept.entries ≢ []) × (new.next_file ≡ old.next_file + 1))

-- a bad end of a log ends the history: the logs after it are empty
abbrev pub BadEndsEnd : List StoreLog → Type 0
BadEndsEnd logs = (front : List StoreLog) (one : StoreLog) (later : List StoreLog)
    → logs ≡ front ++ one ∷ later → one.end ≡ bad → (other : StoreLog) → Contains later other
    → other.size ≡ 0

-- these are the logs of these numbers, in their order, and their batches rise
pub record AreLogs (store : List ℕ) (files : Files) (numbers : List ℕ) (logs : List StoreLog)
    : Type 0 where
  pub numbers_are : map (λ (log : StoreLog). log.number) logs ≡ numbers
  pub each : (log : StoreLog) → Contains logs log → HasLog store files log
  pub in_order : AreInOrder 0 (log_batches logs)
  pub ends : BadEndsEnd logs

-- no logs of these numbers are so
abbrev pub AreDamagedLogs : List ℕ → Files → List ℕ → Type 0
AreDamagedLogs store files numbers =
    (logs : List StoreLog) → AreLogs store files numbers logs → ⊥

-- Of logs and the tables that were made of them: all entries are in tables; or those of the last
-- log are in memory, which goes on to be used, and all others are in tables.
abbrev pub AreInTablesBut : {C : Type 0} → Option (UsedLog C) → List StoreLog → List LiveTable
    → Type 0
AreInTablesBut None logs tables = SameEntries (table_entries tables) (log_entries logs)
AreInTablesBut (Some used) logs tables = (front : List StoreLog) × (last : StoreLog)
    × (logs ≡ front ++ last ∷ []) × (last.number ≡ used.number) × (last.end ≡ clean)
    × (last.size ≡ used.size)
    × SameEntries used.entries.kept.entries (all_entries last.batches)
    × SameEntries (table_entries tables) (log_entries front)

-- These logs were replayed, one after another, since the set was `old`: their entries are in tables
-- that were made since, and in memory.
pub record HasReplayedLogs {C : Type 0} (cmp : List ℕ → List ℕ → Ordering) (meaning : Meaning)
    (old : VersionSetValue) (from : Files) (numbers : List ℕ) (replay : Replay C)
    (new : VersionSetValue) (at : Files) : Type 0 where
  pub gives : GivesNumbers old new
  pub same : SameButTables old new from at
  pub logs : List StoreLog
  pub are_logs : AreLogs old.store from numbers logs
  pub last_is : replay.last ≡ greatest (log_entries logs)
  pub clean_is : replay.is_clean ≡ true → (log : StoreLog) → Contains logs log
      → log.end ≡ clean
  pub bad_is : replay.is_clean ≡ false
      → (log : StoreLog) × Contains logs log × (log.end ≡ bad)
  pub tables : List LiveTable
  pub files_are : map (λ (table : LiveTable). table.file) tables
      ≡ map (λ file. new_file_of (0, file)) replay.tables.items
  pub made_tables : AreMadeTables cmp meaning old new at tables
  pub tables_made : AreInTablesBut replay.used logs tables
  -- where no log is left aside, there is none but the one that is used on
  pub leaves : replay.leaves_log ≡ false → tables ≡ []
      × ((log : StoreLog) → Contains logs log
      → IfSome replay.used (λ used. log.number ≡ used.number) × IsSome replay.used)

module _ {E F : Type 0} (env : Ghosts E F) where
  -- there is at most a table for each batch with which the log of this number begins
  abbrev pub MakesFewTables : ℕ → VersionSetValue → E → VersionSetValue → Type 0
  MakesFewTables number set from now = (batches : List Batch)
      × (IsTrue env.models_disk
      → LogBeginsWith set.store (env.observed from).disk.files number batches)
      × (now.next_file ≤ set.next_file + length batches)

  -- there is at most a table for each batch with which these logs begin
  abbrev pub MakeFewTables : List ℕ → VersionSetValue → E → VersionSetValue → Type 0
  MakeFewTables numbers set from now = (batches : List Batch)
      × (IsTrue env.models_disk
      → LogsBeginWith set.store (env.observed from).disk.files numbers batches)
      × (now.next_file ≤ set.next_file + length batches)

module _ {E F D FP : Type 0} (env : Ghosts E F) {order : CmpGhosts D} {filters : FilterGhosts FP}
    (choices : TableChoices order filters) where
  -- why logs aren't replayed, where nothing was counted, beside out of memory: from `next` on the
  -- numbers of files are too few for their tables; batches of one aren't kept; or they are damaged
  abbrev pub WhyNotReplayed : List ℕ → Files → List ℕ → ℕ → Status → Type 0
  WhyNotReplayed store files numbers next status =
      LacksNumbersFor env.models_disk store files numbers next 0 status
      ⊎ ((log : HasLogNotKept choices env.models_disk store files status)
      × Contains numbers log.number)
      ⊎ ((status.code ≡ Corruption)
      × (IsTrue env.models_disk → AreDamagedLogs store files numbers))

  -- after what was replayed before, the log of this number is replayed too
  abbrev pub ReplaysLogAfter : {C : Type 0} → ℕ → Replay C → VersionSetValue → E → Replay C
      → VersionSetValue → E → Type 0
  ReplaysLogAfter number old set from new now to = IsTrue env.models_disk → (meaning : Meaning)
      → Agrees choices.format meaning → (first : VersionSetValue) (start : Files)
      (numbers : List ℕ)
      → HasReplayedLogs choices.format.order meaning first start numbers old set
      (env.observed from).disk.files
      → HasReplayedLogs choices.format.order meaning first start (numbers ++ number ∷ []) new now
      (env.observed to).disk.files

  -- whatever logs come after it, these and those before it aren't logs of a store
  abbrev pub DamagesLogs : {C : Type 0} → ℕ → Replay C → VersionSetValue → E → Type 0
  DamagesLogs number old set from = (meaning : Meaning) → Agrees choices.format meaning
      → (first : VersionSetValue) (start : Files) (numbers later : List ℕ)
      → HasReplayedLogs choices.format.order meaning first start numbers old set
      (env.observed from).disk.files
      → AreDamagedLogs first.store start (numbers ++ number ∷ later)

  -- What replaying one more log returns and leaves. It is used on only if it may.
  pub record ReplaysNext {C : Type 0} (limit number : ℕ) (may_go_on : Bool) (old : Replay C)
      (set : VersionSetValue) (from : E) (result : Result (Unit {0}) Status) (new : Replay C)
      (now : VersionSetValue) (to : E) : Type 0 where
    pub spares : MakesTablesOnly env set from now to
    pub ok : OnOk result (ReplaysLogAfter number old set from new now to)
    pub used : OnOk result (IfSome new.used (λ used. IsTrue may_go_on × (used.number ≡ number)))
    -- no entry in memory has a number past the last one, and the memtable isn't full
    pub up_to : OnOk result (AreUpTo new.last (entries_to_write new.used))
    pub room : OnOk result (IfSome new.used (λ used. IsFull limit used.entries.kept → ⊥))
    -- each table's number was given, if those of the tables before were
    pub given : OnOk result (AreNumbersGiven set (made_files old.tables.items)
        → AreNumbersGiven now (made_files new.tables.items))
    -- and none is turned round, if none of those was
    pub ordered : OnOk result (AreOrdered choices.format.order (made_files old.tables.items)
        → AreOrdered choices.format.order (made_files new.tables.items))
    pub few : OnOk result (MakesFewTables env number set from now)
    pub cause : HasCauseOr (λ status. FailsAtLog env choices set number from status
        ⊎ ((status.code ≡ Corruption)
        × (IsTrue env.models_disk → DamagesLogs number old set from)))
        (env.failures from) (env.failures to) result

  -- what replaying the logs of these numbers returns and leaves
  pub record ReplaysLogs {C : Type 0} (limit : ℕ) (old : VersionSetValue) (numbers : List ℕ)
      (from : E) (result : Result (Replay C) Status) (new : VersionSetValue) (to : E)
      : Type 0 where
    pub spares : MakesTablesOnly env old from new to
    pub ok : IfOk result (λ replay. IsTrue env.models_disk → (meaning : Meaning)
        → Agrees choices.format meaning
        → HasReplayedLogs choices.format.order meaning old (env.observed from).disk.files numbers
        replay new (env.observed to).disk.files)
    -- a log is used on only if that is wanted, and it isn't below the manifest's log number
    pub from_log : IfOk result (λ replay. IfSome replay.used (λ used.
        old.log_number ≤ used.number))
    -- no entry in memory has a number past the last one, and the memtable isn't full
    pub up_to : IfOk result (λ replay. AreUpTo replay.last (entries_to_write replay.used))
    pub room : IfOk result (λ replay. IfSome replay.used (λ used.
        IsFull limit used.entries.kept → ⊥))
    -- each table's number was given, and none is turned round
    pub given : IfOk result (λ replay. AreNumbersGiven new (made_files replay.tables.items))
    pub ordered : IfOk result (λ replay.
        AreOrdered choices.format.order (made_files replay.tables.items))
    pub few : OnOk result (MakeFewTables env numbers old from new)
    pub cause : HasCauseOr (WhyNotReplayed old.store (env.observed from).disk.files numbers
        old.next_file) (env.failures from) (env.failures to) result

module _ {E F : Type 0} (env : Ghosts E F) where
  -- Which log is used on: none unless that is wanted. Where it is, the last one is, unless it is
  -- below the manifest's log number, ends badly or fills a memtable.
  pub record UsesLastLog {C : Type 0} (wanted : Bool) (limit : ℕ) (old : VersionSetValue)
      (numbers : List ℕ) (from : E) (result : Result (Replay C) Status) : Type 0 where
    pub used : IfOk result (λ replay. IsSome replay.used → IsTrue wanted)
    pub unused : IfOk result (λ replay. IsTrue wanted → replay.used ≡ None
        → IsTrue env.models_disk → (front : List ℕ) (number : ℕ)
        → numbers ≡ front ++ number ∷ [] → old.log_number ≤ number
        → IsUnusable limit old.store (env.observed from).disk.files number)

-- ---- the version set

module _ {E F : Type 0} (env : Ghosts E F) (store : List ℕ) (set : VersionSetValue)
    (names : List (List ℕ)) (from : E) where
  -- why a set isn't one of these files: the table of a live one is missing or has another size, or
  -- its number isn't given; or a log has another name than its number's
  abbrev pub WhyUnchecked : Status → Type 0
  WhyUnchecked status = (status.code ≡ Corruption) × ((IsTrue env.models_disk
      → LacksTable store (env.observed from).disk.files set.full.added)
      ⊎ (AreNumbersGiven set set.full.added → ⊥)
      ⊎ HasMisnamedLog names set.log_number set.previous_log)

  -- The live tables of the set are there with their sizes, their numbers were given, the next one
  -- fits into 64 bits, and these are the numbers of the logs that are replayed.
  pub record IsChecked (logs : List ℕ) : Type 0 where
    pub tables : IsTrue env.models_disk
        → AreTablesThere store (env.observed from).disk.files set.full.added
    pub given : AreNumbersGiven set set.full.added
    pub fits : set.next_file < 2 ^ 64
    pub logs_are : AreReplayedLogs names set.log_number set.previous_log logs

  -- what checking the set returns, by the names in the folder
  pub record ChecksSet (result : Result (BTreeSet ℕ) Status) (to : E) : Type 0 where
    pub ok : IfOk result (λ logs. IsChecked logs.keys)
    pub still : IsTrue env.models_disk
        → Run (FilesUnchanged (env.observed from).disk.files) (env.observed from)
        (env.observed to)
    pub locks : SameLocks env.models_disk (env.observed from) (env.observed to)
    pub cause : HasCauseOr WhyUnchecked (env.failures from) (env.failures to) result

-- A set has what these edits leave: the live files, the last number, and in rising order the
-- numbers of the logs that are replayed, each of which is under its own name.
pub record IsSetOfEdits (store : List ℕ) (files : Files) (edits : List Edit)
    (set : VersionSetValue) (logs : List ℕ) : Type 0 where
  pub live : ListsFiles (live_after edits) set.full.added
  pub last : (live_after edits).last_sequence ≡ Some set.last_sequence
  pub each : (n : ℕ) → Contains logs n → LogIsReplayed (live_after edits) n × (n < 2 ^ 64)
  pub all : (name : List ℕ) (n : ℕ) → IsFileName name n Log → LogIsReplayed (live_after edits) n
      → files (in_folder store name) ≢ None → (name ≡ file_name Log n) × Contains logs n
  pub rising : IsStrictlySortedBy nat_cmp logs

-- a number is found at or past the one before this
abbrev pub ComesAfterFound : List ℕ → Files → ℕ → Type 0
ComesAfterFound store files next =
    (last : ℕ) × IsNumberFound store files last × (next ≤ last + 1)

-- what isn't supported in the files of a set: tables share a user key, the manifest is huge, or a
-- number is too great for two more
abbrev pub IsUnsupported : List ℕ → Format → Files → Type 0
IsUnsupported store format files = HasSharedUserKey store files format.order
    ⊎ HasHugeManifest store files format.order_name ⊎ LeavesFewNumbers store files 2

module _ {E F : Type 0} (env : Ghosts E F) (format : Format) (reuse : Bool) (limit : ℕ)
    (store : List ℕ) (from : E) where
  -- The set is what the manifest that `CURRENT` names leaves, once the numbers of all names are
  -- used; and these are the numbers of the logs that are replayed.
  pub record IsRecoveredSet (anew : Bool) (set : VersionSetValue) (logs : List ℕ) (to : E)
      : Type 0 where
    pub marked : VersionSetValue
    pub gives : GivesNumbers (new_version_set store format.order_name) marked
    pub below : IsTrue env.models_disk
        → NumbersAreBelow store (env.observed from).disk.files marked.next_file
    -- the next number came after one that is found
    pub after_names : IsTrue env.models_disk
        → ComesAfterFound store (env.observed from).disk.files marked.next_file
    pub recovers : Recovers env.models_disk format.order format.order_name reuse limit marked
        (env.observed from) anew set (env.observed to)
    pub fits : set.next_file < 2 ^ 64
    -- the number of each live table was given, and they are in levels
    pub given : AreNumbersGiven set set.full.added
    pub levels : AreInLevels env.models_disk format.order set.full.added
    -- each live table is there, as long as its edit says
    pub tables : IsTrue env.models_disk
        → AreTablesThere store (env.observed to).disk.files set.full.added
    pub names : List (List ℕ)
    pub lists : AreNamesIn env store from names
    pub logs_are : AreReplayedLogs names set.log_number set.previous_log logs

  -- Why no set is recovered, where nothing was counted, beside out of memory: `CURRENT` is missing,
  -- as it is where not even the file of the store's lock is there; the comparator is another; the
  -- files are damaged; or it isn't supported.
  abbrev pub WhyNotRecovered : Status → Type 0
  WhyNotRecovered status =
      let where_modelled : (Files → Type 0) → Type 0
      = λ Holds. IsTrue env.models_disk → Holds (env.observed from).disk.files in
      ((status.code ≡ Corruption) × where_modelled (λ files. files (current_path store) ≡ None))
      ⊎ ((status.code ≡ InvalidArgument) × where_modelled (HasOtherComparator store format))
      ⊎ ((status.code ≡ Corruption) × where_modelled (IsDamaged store format))
      ⊎ ((status.code ≡ NotSupported) × where_modelled (IsUnsupported store format))

  -- what recovering the set returns and leaves
  pub record RecoversSet (result : Result (RecoveredSet E F) Status) (to : E) : Type 0 where
    pub ok : IfOk result (λ it. IsRecoveredSet it.needs_new_manifest it.versions it.logs.keys to)
    pub files : IsTrue env.models_disk → SyncsManifestAtMost env.models_disk format.order
        format.order_name reuse limit (new_version_set store format.order_name)
        (env.observed from) (env.observed to)
    -- at each moment nothing but the store's own files has changed
    pub others : IsTrue env.models_disk
        → Run (SameBesideOwn store (env.observed from).disk.files) (env.observed from)
        (env.observed to)
    pub locks : SameLocks env.models_disk (env.observed from) (env.observed to)
    pub cause : HasCauseOr WhyNotRecovered (env.failures from) (env.failures to) result

module _ {E F : Type 0} (env : Ghosts E F) (format : Format) (store : List ℕ) (from : E) where
  -- The set is read alone: but for its manifest, which is broken, it is recovered as where no
  -- manifest is used on, and so without a change of a file. These are the numbers of its logs.
  pub record IsSetToRead (set : VersionSetValue) (logs : List ℕ) (to : E) : Type 0 where
    pub broken_is : set.manifest ≡ broken
    pub recovered : IsRecoveredSet env format false 0 store from true
        (record set { manifest = unmade }) logs to

  -- what reading the set alone returns
  pub record ReadsSet (result : Result (VersionSetValue × BTreeSet ℕ) Status) (to : E)
      : Type 0 where
    pub ok : IfOk result (λ it. IsSetToRead it.0 it.1.keys to)
    pub still : IsTrue env.models_disk
        → Run (FilesUnchanged (env.observed from).disk.files) (env.observed from)
        (env.observed to)
    pub locks : SameLocks env.models_disk (env.observed from) (env.observed to)
    pub cause : HasCauseOr (WhyNotRecovered env format false 0 store from) (env.failures from)
        (env.failures to) result

-- ---- the store

-- The set of a store that may be written once its logs are replayed: its numbers fit, those of live
-- tables were given, which are there with their sizes and in levels in this order of user keys, and
-- it may log edits. Its manifest is in use, unless the next edit begins a new one.
pub record MayBeWritten (models_disk : Bool) (order : List ℕ → List ℕ → Ordering)
    (store : List ℕ) (anew : Bool) (set : VersionSetValue) (files : Files) : Type 0 where
  pub path : set.store ≡ store
  pub fits : set.next_file < 2 ^ 64
  pub manifest_fits : set.manifest_number < set.next_file
  pub given : AreNumbersGiven set set.full.added
  pub levels : AreInLevels models_disk order set.full.added
  pub tables : IsTrue models_disk → AreTablesThere store files set.full.added
  pub unbroken : set.manifest ≢ broken
  pub goes_on : anew ≡ false → (manifest : OpenManifest) × (set.manifest ≡ in_use manifest)
  -- a manifest in use is there, in the store's folder
  pub own : IsTrue models_disk → HasOwnManifest set
  pub there : IsTrue models_disk → (manifest : OpenManifest) → set.manifest ≡ in_use manifest
      → files manifest.path ≢ None

module _ {E F : Type 0} (env : Ghosts E F) (format : Format) (store : List ℕ)
    (create_if_missing error_if_exists : Bool) (from : E) where
  -- A set that was recovered, with the numbers of its logs.
  pub record IsRecoveredStore (it : RecoveredSet E F) (to : E) : Type 0 where
    pub may : MayBeWritten env.models_disk format.order store it.needs_new_manifest it.versions
        (env.observed to).disk.files
    -- of sound files it is the store that they were, or a new one
    pub recovered : IsTrue env.models_disk → (meaning : Meaning) → Agrees format meaning
        → (contents : Contents)
        → IsSound format.order meaning store (env.observed from).disk.files contents
        → IsRecoveredWith store format.order meaning
        (with_comparator format.order_name contents) it.versions it.logs.keys
        (env.observed to).disk.files
    -- whatever the files are, it is what the edits leave that the manifest had
    pub tracks : IsTrue env.models_disk → (edits : List Edit)
        → HasEdits store (env.observed from).disk.files edits
        → IsSetOfEdits store (env.observed from).disk.files edits it.versions it.logs.keys
    -- and a log is the one that was there
    pub same_logs : IsTrue env.models_disk → (edits : List Edit)
        → HasEdits store (env.observed from).disk.files edits → (log : StoreLog)
        → HasLog store (env.observed to).disk.files log
        → HasLog store (env.observed from).disk.files log
    -- no file has a number that is given from now on
    pub new_numbers : IsTrue env.models_disk
        → HasNewNumbers store it.versions (env.observed to).disk.files
    -- at most one number was given after those that were found
    pub numbers : IsTrue env.models_disk → (next : ℕ)
        × ComesAfterFound store (env.observed from).disk.files next
        × (it.versions.next_file ≤ next + 1)
    -- its logs are those that were there
    pub logs : IsTrue env.models_disk → (number : ℕ) (batches : List Batch)
        → Contains it.logs.keys number
        → LogBeginsWith store (env.observed to).disk.files number batches
        → LogBeginsWith store (env.observed from).disk.files number batches
    pub rising : IsStrictlySortedBy nat_cmp it.logs.keys
    -- and if its logs are damaged, so is the store
    pub damage : IsTrue env.models_disk
        → AreDamagedLogs store (env.observed to).disk.files it.logs.keys
        → IsDamaged store format (env.observed from).disk.files

  -- What recovering a store returns and leaves: it is found or made, its set is recovered, and its
  -- logs are kept.
  pub record RecoversStore (result : Result (RecoveredSet E F) Status) (to : E) : Type 0 where
    pub ok : IfOk result (λ it. IsRecoveredStore it to)
    pub keeps : IsTrue env.models_disk → (meaning : Meaning) → Agrees format meaning
        → (contents : Contents)
        → IsSound format.order meaning store (env.observed from).disk.files contents
        → KeepsFound format.order meaning store format.order_name contents (env.observed from)
        (env.observed to)
    pub stays : IsTrue env.models_disk
        → IsForbidden store create_if_missing error_if_exists
        (env.observed from).disk.files ⊎ LacksCurrent store
        (env.observed from).disk.files ⊎ LacksUsableEdits store format
        (env.observed from).disk.files
        → OnOk result ⊥
        × Run (FilesUnchanged (env.observed from).disk.files) (env.observed from)
        (env.observed to)
    pub others : IsTrue env.models_disk
        → Run (SameBesideOwn store (env.observed from).disk.files) (env.observed from)
        (env.observed to)
    pub kept : LosesNothing env store from to
    pub bytes : BytesAreAppended env from to
    pub locks : SameLocks env.models_disk (env.observed from) (env.observed to)
    pub cause : HasCauseOr
        (WhyNotOpenable env store format create_if_missing error_if_exists from)
        (env.failures from) (env.failures to) result

-- The store is open with the entries of these logs: they are in memory, and in tables that are
-- live and there. Its last number is this one or the greatest of theirs. `cmp` is the order of user
-- keys, and `meaning` what names and ids in the files mean.
pub record HoldsLogs {C : Type 0} (cmp : List ℕ → List ℕ → Ordering) (meaning : Meaning)
    (store : List ℕ) (last : ℕ) (logs : List StoreLog) (value : OpenStoreValue C) (files : Files)
    : Type 0 where
  pub tables : List LiveTable
  pub each : (table : LiveTable) → Contains tables table
      → HasTable store cmp (IsTableOf cmp meaning) files table
      × Contains value.set.full.added table.file
  pub entries : SameEntries (table_entries tables ++ value.mem.entries) (log_entries logs)
  pub last_is : value.set.last_sequence ≡ max last (greatest (log_entries logs))

module _ {E F : Type 0} (env : Ghosts E F) (format : Format) (store : List ℕ)
    (set : VersionSetValue) (logs : List ℕ) (from : E) where
  -- the store was recovered with these contents
  abbrev pub WasRecovered : Meaning → Contents → Type 0
  WasRecovered meaning contents = HasComparator format.order_name contents
      × IsRecoveredWith store format.order meaning contents set logs
      (env.observed from).disk.files

module _ {E F D FP : Type 0} (env : Ghosts E F) {order : CmpGhosts D} {filters : FilterGhosts FP}
    (choices : TableChoices order filters) (store : List ℕ) (set : VersionSetValue)
    (logs : List ℕ) (from : E) where
  -- why a store that was recovered isn't opened, where nothing was counted, beside out of memory:
  -- the numbers of files are too few for the tables of its logs and a log; batches of one of them
  -- aren't kept; or they are damaged
  abbrev pub WhyNotBegun : Status → Type 0
  WhyNotBegun status =
      LacksNumbersFor env.models_disk store (env.observed from).disk.files logs set.next_file 1
      status
      ⊎ ((log : HasLogNotKept choices env.models_disk store (env.observed from).disk.files status)
      × Contains logs log.number)
      ⊎ ((status.code ≡ Corruption)
      × (IsTrue env.models_disk → AreDamagedLogs store (env.observed from).disk.files logs))

  -- What opening a store that was recovered returns and leaves: what its logs have comes to memory
  -- or to tables, and batches may be appended.
  pub record OpensToWrite {C : Type 0} (limit : ℕ) (result : Result (OpenStoreValue C) Status)
      (to : E) : Type 0 where
    pub path : IfOk result (λ value. value.set.store ≡ store)
    pub unbroken : IfOk result IsUnbroken
    pub room : IfOk result (λ value. IsFull limit value.mem → ⊥)
    pub tables : IfOk result (λ value. IsTrue env.models_disk
        → AreTablesThere store (env.observed to).disk.files value.set.full.added)
    pub manifest : IfOk result (λ value. IsTrue env.models_disk
        → IsManifestThere (env.observed to).disk.files value.set)
    -- whatever the files are, each live file is live still
    pub live : IfOk result (λ value. IsTrue env.models_disk → (file : NewFile)
        → Contains set.full.added file → Contains value.set.full.added file)
    -- and the logs are batches in order, whose entries are in memory and in live tables
    pub replayed : IfOk result (λ value. IsTrue env.models_disk → (meaning : Meaning)
        → Agrees choices.format meaning → (them : List StoreLog)
        × AreLogs store (env.observed from).disk.files logs them
        × HoldsLogs choices.format.order meaning store set.last_sequence them value
        (env.observed to).disk.files)
    pub keeps : IsTrue env.models_disk → (meaning : Meaning) → Agrees choices.format meaning
        → (contents : Contents)
        → WasRecovered env choices.format store set logs from meaning contents
        → KeepsFound choices.format.order meaning store choices.format.order_name contents
        (env.observed from) (env.observed to)
    pub opens : IsTrue env.models_disk → (meaning : Meaning) → Agrees choices.format meaning
        → (contents : Contents)
        → WasRecovered env choices.format store set logs from meaning contents
        → IfOk result (λ value. IsOpenedAs choices.format.order meaning store
        choices.format.order_name contents value (env.observed to).disk.files)
    pub others : IsTrue env.models_disk
        → Run (SameBesideOwn store (env.observed from).disk.files) (env.observed from)
        (env.observed to)
    -- where the numbers that are given are new, no byte is lost
    pub kept : IsTrue env.models_disk → HasNewNumbers store set (env.observed from).disk.files
        → LosesNoBytesMeanwhile env store from to
    -- and no file has one that is given then
    pub numbers : IfOk result (λ value. IsTrue env.models_disk
        → NumbersAreBelow store (env.observed from).disk.files set.next_file
        → NumbersAreBelow store (env.observed to).disk.files value.set.next_file)
    pub bytes : BytesAreAppended env from to
    pub locks : SameLocks env.models_disk (env.observed from) (env.observed to)
    pub cause : HasCauseOr WhyNotBegun (env.failures from) (env.failures to) result
