-- A store that was recovered is opened: its logs are replayed, the log to write is opened, and an
-- edit is logged where one is wanted.
use Rattle.std.specs.Prelude.{◌≢◌, All, Contains, IfSome, IsTrue, OnOk, Result, Ok, Err, max, fold}
use Rattle.std.specs.Option.{option_map}
use Rattle.std.proofs.Common.{◌||◌, ◌≡◌, ◌⊎◌, ◌∙◌, ◌<◌, ◌≤◌, ◌^◌, inl, inr, ⊎_elim, ℕ, Bool, true, false, List, Option, None, Some, ap, arith, refl, subst, sym}
use Rattle.std.proofs.lemmas.List.Elements.{All-contains, All-contains_itself, All-weaker}
use Rattle.std.specs.Cmp.Lexicographic.{bytes_decides}
use Rattle.leveldb_base.proofs.NamesLemmas.{made_name, made_paths_apart}
use Rattle.leveldb_base.specs.Error.{IsOutOfMemory}
use Rattle.leveldb_base.proofs.HistoryLemmas.{in_none}
use Rattle.leveldb_base.specs.History.{AreUpTo, Entry, greatest}
use Rattle.leveldb_base.specs.Types.{Pair}
use Rattle.leveldb_base.specs.Names.{file_name}
use Rattle.leveldb_base.specs.declared.cmp.Cmp.{Ghosts as CmpGhosts}
use Rattle.leveldb_base.specs.declared.error.Status.{Status}
use Rattle.leveldb_base.specs.declared.types.FileMetaData.{FileMetaData}
use Rattle.leveldb_base.specs.declared.types.FileType.TheVariants.{Descriptor, Log, Table}
use Rattle.leveldb_env.proofs.EnvLemmas.{Run-call, Run-mono, Run-trans, SameBut-created, SameBut-emptied, begun}
use Rattle.leveldb_env.specs.Env.{BeforeOrAfter, Files, HasCause, Run, SameBut, SameLocks, bytes_of}
use Rattle.leveldb_env.specs.WholeFiles.{IsLost, IsLostUnobserved}
use Rattle.leveldb_env.specs.declared.env.Env.{Ghosts}
use Rattle.leveldb_env.specs.declared.filter.FilterPolicy.{Ghosts as FilterGhosts}
use Rattle.leveldb_version_set.proofs.Sets.TracksLemmas.{not_unmade, one_in_use}
use Rattle.leveldb_mem.specs.Log.Writer.{WriterState}
use Rattle.leveldb_mem.specs.MemTable.{Kept, MemTableState, memory_of_entries}
use Rattle.leveldb_files.specs.Stores.Contents.{Contents}
use Rattle.leveldb_version_set.specs.Sets.CurrentFile.{temp_path}
use Rattle.leveldb_version_set.specs.Sets.LogEdit.{LogEditResult}
use Rattle.leveldb_files.proofs.Stores.ManagedLemmas.{table_on}
use Rattle.leveldb_files.specs.Levels.Levels.{LiveTable}
use Rattle.leveldb_files.specs.Stores.Store.{HasTable, log_entries}
use Rattle.leveldb_version.specs.Edits.FullEdit.{files_after, files_with}
use Rattle.leveldb_version_set.specs.Engines.Opening.{IsMadeBefore, tables_edit}
use Rattle.leveldb_files.specs.Stores.Paths.{IsFilePath, log_path, manifest_path, table_path}
use Rattle.leveldb_files.specs.Steps.StoreSteps.{KeepsHistory}
use Rattle.leveldb_files.specs.Edits.Edit.{Edit, NewFile}
use Rattle.leveldb_version_set.specs.Sets.VersionSetValue.{AreFileNumbersUsedUp, ManifestState, OpenManifest, VersionSetValue, broken, in_use, unmade, with_number_given}
use Rattle.leveldb_store.proofs.Logs.FoundLogsLemmas.{lacks_one_more}
use Rattle.leveldb_store.proofs.Keeping.GivenNumbersLemmas.{given_later}
use Rattle.leveldb_store.proofs.Openings.OpeningBytesLemmas.{log_bytes, logging_bytes, made_above, made_keys_bytes, made_tables_there, written_below}
use Rattle.leveldb_store.proofs.Openings.FoundFilesLemmas.{held_entries, made_with_each, still_with_each}
use Rattle.leveldb_store.proofs.Reading.ViewListsLemmas.{pairwise_of}
use Rattle.leveldb_store.proofs.Openings.OpeningEndLemmas.{IsOpenValue, edit_logged, log_spared, logged_manifest, logging_keeps, logging_spares, made_levels_fit, went_on}
use Rattle.leveldb_store.proofs.Openings.OpeningFrontLemmas.{keeps_found_then}
use Rattle.leveldb_store.proofs.Keeping.KeptBytesLemmas.{loses_at_tables, meanwhile_none, meanwhile_then, numbered_below, numbered_beside, numbers_at_tables, numbers_then, table_numbers_below}
use Rattle.leveldb_store.proofs.Openings.OpeningKeptLemmas.{logging_loses, logging_numbers, loses_at_log, number_is_new}
use Rattle.leveldb_store.proofs.Openings.OpeningLogLemmas.{HasLogOpen, IsReplayedWith, log_opened, log_opening_keeps, replayed_recovered, replaying_keeps}
use Rattle.leveldb_store.proofs.Openings.OpeningRecoverLemmas.{cause_of_step}
use Rattle.leveldb_store.proofs.Openings.OpeningSameLemmas.{spares_then}
use Rattle.leveldb_store.proofs.Keeping.TableKeepsLemmas.{is_log_path, is_table_path, types_apart}
use Rattle.leveldb_store.specs.Tables.BuildTable.{TableChoices}
use Rattle.leveldb_files.specs.Stores.Format.{Agrees, Format, IsTableOf, Meaning}
use Rattle.leveldb_store.specs.Logs.FoundLogs.{HasLogNotKept, LacksNumbersFor, LogsBeginWith}
use Rattle.leveldb_store.specs.Keeping.KeptBytes.{HasNewNumbers, LosesNoBytesMeanwhile}
use Rattle.leveldb_version_set.specs.Engines.Writing.{NumbersAreBelow}
use Rattle.leveldb_store.specs.Keeping.OpenStore.{AreInLevels, AreNumbersGiven, HasOwnManifest, OpenStoreValue}
use Rattle.leveldb_store.specs.Openings.Opening.{SameButTables}
use Rattle.leveldb_store.specs.Openings.OpeningSteps.{AreDamagedLogs, OpensToWrite, LogsIfWanted, MayBeWritten, OpensLog, ReplaysLogs, WasRecovered, WhyNotBegun, WhyNotReplayed, entries_to_write, files_to_write, made_files, number_to_write, set_to_write, size_to_write, AreLogs, HasReplayedLogs, HoldsLogs}
use Rattle.leveldb_store.specs.Openings.OpensStore.{AreTablesThere, IsOpenedAs, IsTableThere, KeepsFound, SameBesideOwn}
use Rattle.leveldb_store.proofs.Openings.TableSizesLemmas.{IsSized}
use Rattle.leveldb_store.specs.Logs.ReplayLog.{HasCauseOr}
use Rattle.leveldb_store.specs.Writing.Room.{IsFull}
use Rattle.leveldb_store.specs.Keeping.SoundCall.{BytesAreAppended}
use Rattle.leveldb_store.specs.declared.open_store.OpenLog.{OpenLog}
use Rattle.leveldb_store.specs.declared.opening.replay.Replay.{Replay}
use Rattle.leveldb_store.specs.declared.opening.replay.UsedLog.{UsedLog}

-- ---- the log to write

-- opening it changes it alone
log_alone : {C : Type 0} (used : Option (UsedLog C)) (store : List ℕ) (next : ℕ) (old now : Files) → BeforeOrAfter (files_to_write used store next) old now → SameBut (log_path store (number_to_write used next)) old now
log_alone None store next old now passes = SameBut-emptied (log_path store next) old now passes
log_alone (Some used) store next old now passes = SameBut-created (log_path store used.number) old now passes

-- the set is the same but for a number
pub set_to_write_is : {C : Type 0} (used : Option (UsedLog C)) (set : VersionSetValue) → ((set_to_write used set).store ≡ set.store) × ((set_to_write used set).manifest ≡ set.manifest)
    × ((set_to_write used set).manifest_number ≡ set.manifest_number)
set_to_write_is None set = (refl, refl, refl)
set_to_write_is (Some used) set = (refl, refl, refl)

-- and has the same last number
last_to_write : {C : Type 0} (used : Option (UsedLog C)) (set : VersionSetValue) → (set_to_write used set).last_sequence ≡ set.last_sequence
last_to_write None set = refl
last_to_write (Some used) set = refl

-- and its next number is no smaller
next_to_write : {C : Type 0} (used : Option (UsedLog C)) (set : VersionSetValue) → set.next_file ≤ (set_to_write used set).next_file
next_to_write None set = omega arith
next_to_write (Some used) set = omega arith

-- the same files
full_to_write : {C : Type 0} (used : Option (UsedLog C)) (set : VersionSetValue) → (set_to_write used set).full ≡ set.full
full_to_write None set = refl
full_to_write (Some used) set = refl

-- numbers that were given stay so, and those of live files are
given_to_write : {C : Type 0} (used : Option (UsedLog C)) (set : VersionSetValue) (files : List NewFile) → AreNumbersGiven set files → AreNumbersGiven (set_to_write used set) files
given_to_write None set files given = given_later set (with_number_given set) (omega arith) files given
given_to_write (Some used) set files given = given

live_to_write : {C : Type 0} (used : Option (UsedLog C)) (set : VersionSetValue) → AreNumbersGiven set set.full.added → AreNumbersGiven (set_to_write used set) (set_to_write used set).full.added
live_to_write None set given = given_later set (with_number_given set) (omega arith) set.full.added given
live_to_write (Some used) set given = given

-- a memtable with its entries isn't full if that of the log that is used on isn't
not_full_to_write : {C : Type 0} (limit : ℕ) (used : Option (UsedLog C)) → IfSome used (λ it. IsFull limit it.entries.kept → ⊥) → (kept : Kept) → kept.entries ≡ entries_to_write used → IsFull limit kept → ⊥
not_full_to_write limit None room kept is full = full.0 is
not_full_to_write limit (Some used) room kept is full =
    let same = ap memory_of_entries is in
    let least = full.1 in room (λ none. full.0 (is ∙ none), omega (arith, same, least))

in_use_unbroken : (manifest : OpenManifest) → in_use manifest ≡ broken → ⊥
in_use_unbroken manifest e = cc

-- an edit that isn't wanted is so for both reasons
pub neither : (a b : Bool) → (a || b) ≡ false → (a ≡ false) × (b ≡ false)
neither true b e = absurd (cc)
neither false b e = (refl, e)

-- ---- a set with the manifest of another

-- the sets have one path and one manifest
record SameManifest (old new : VersionSetValue) : Type 0 where
  pub store : new.store ≡ old.store
  pub manifest : new.manifest ≡ old.manifest
  pub number : new.manifest_number ≡ old.manifest_number

own_still : (old new : VersionSetValue) → SameManifest old new → HasOwnManifest old → HasOwnManifest new
own_still old new same own manifest used = subst (λ s. IsFilePath Descriptor s manifest.path) (sym same.store) (own manifest (sym same.manifest ∙ used))

module _ {E F D FP : Type 0} (env : Ghosts E F) {order : CmpGhosts D} {filters : FilterGhosts FP} (choices : TableChoices order filters) (limit : ℕ) (store : List ℕ) (anew : Bool) (set : VersionSetValue) (logs : List ℕ)
    (from : E) (may : MayBeWritten env.models_disk choices.format.order store anew set (env.observed from).disk.files) where
  abbrev format : Format
  format = choices.format

  abbrev first : Files
  first = (env.observed from).disk.files

  -- the table of a file is there with its size, whose number is one that a file can have
  abbrev HasFile : Files → NewFile → Type 0
  HasFile files file = (file.number < 2 ^ 64) × IsTableThere store files file

  abbrev Begins : (C : Type 0) → Result (OpenStoreValue C) Status → E → Type 0
  Begins C result to = OpensToWrite env choices store set logs from limit result to

  abbrev Why : Status → Type 0
  Why = WhyNotBegun env choices store set logs from

  -- what keeps each history of a store that was recovered
  abbrev Keeps : E → Type 0
  Keeps to = (meaning : Meaning) → Agrees format meaning → (contents : Contents) → WasRecovered env format store set logs from meaning contents
      → KeepsFound format.order meaning store format.order_name contents (env.observed from) (env.observed to)

  -- an error at any of the steps
  refused_at : (C : Type 0) (to : E) (status : Status) → (IsTrue env.models_disk → Keeps to) → (IsTrue env.models_disk → Run (SameBesideOwn store first) (env.observed from) (env.observed to))
      → (IsTrue env.models_disk → HasNewNumbers store set first → LosesNoBytesMeanwhile env store from to)
      → BytesAreAppended env from to
      → SameLocks env.models_disk (env.observed from) (env.observed to) → HasCauseOr {T = OpenStoreValue C} Why (env.failures from) (env.failures to) (Err status) → Begins C (Err status) to
  refused_at C to status keeps spares loses bytes locks cause = record {
    path = tt;
    unbroken = tt;
    room = tt;
    tables = tt;
    manifest = tt;
    live = tt;
    replayed = tt;
    keeps = keeps;
    opens = λ modelled meaning agrees contents was. tt;
    others = spares;
    kept = loses;
    numbers = tt;
    bytes = bytes;
    locks = locks;
    cause = cause;
  }

  -- memory was out before any step
  pub nothing_begun : (C : Type 0) (status : Status) → IsOutOfMemory status → Begins C (Err status) from
  nothing_begun C status memory = refused_at C from status
      (λ modelled meaning agrees contents was allowed there can bound reached. begun (env.observed from) (record { now = λ history c. c; crash = λ durable history s. s }))
      (λ modelled. begun (env.observed from) (λ path other. refl))
      (λ modelled numbers. meanwhile_none env store from) (λ modelled before. before) (λ modelled. refl)
      (record { later = omega arith; ok = tt; uncounted = λ why. refl; cause = inl (inl memory) })

  -- ---- the logs are replayed

  module _ {C : Type 0} (result : Result (Replay C) Status) (set1 : VersionSetValue) (e1 : E) (replays : ReplaysLogs env choices limit set logs from result set1 e1) where
    abbrev second : Files
    second = (env.observed e1).disk.files

    same1 : SameManifest set set1
    same1 = record {
      store = ap (λ (s : VersionSetValue). s.store) replays.spares.numbers.set;
      manifest = ap (λ (s : VersionSetValue). s.manifest) replays.spares.numbers.set;
      number = ap (λ (s : VersionSetValue). s.manifest_number) replays.spares.numbers.set;
    }

    given1 : AreNumbersGiven set1 set1.full.added
    given1 =
        let numbers = replays.spares.numbers in
        subst (λ (s : VersionSetValue). AreNumbersGiven s s.full.added) (sym numbers.set)
        (given_later set (record set { next_file = set1.next_file; given = set1.given }) numbers.rises set.full.added may.given)

    -- live tables are there still
    live_there : IsTrue env.models_disk → All (HasFile second) set.full.added
    live_there modelled =
        All-weaker (Contains set.full.added) (HasFile second) each set.full.added (All-contains_itself set.full.added)
      where
        each : (file : NewFile) → Contains set.full.added file → HasFile second file
        each file c =
            let given : file.number < set.next_file = All-contains (λ (f : NewFile). f.number < set.next_file) set.full.added file may.given c in
            let next = may.fits in
            let fits : file.number < 2 ^ 64 = omega (arith, given, next) in
            let there : IsTableThere store first file = All-contains (IsTableThere store first) set.full.added file (may.tables modelled) c in (
              fits,
              subst (IsSized file.size) (sym ((replays.spares.run modelled).has (table_path store file.number) (λ n least less n_fits is.
                  let same : file.number ≡ n = (made_paths_apart store file.number n Table Table fits n_fits (is ∙ ap (λ s. table_path s n) may.path)).0 in
                  omega (arith, same, least, given)))) there,
            )

    -- a path is no table's that was made
    unmade_path : (path : List ℕ) → ((n : ℕ) → n < 2 ^ 64 → path ≢ table_path store n) → (now : Files) → SameButTables set set1 first now → now path ≡ first path
    unmade_path path other now same = same path (λ n least less fits is. other n fits (is ∙ ap (λ s. table_path s n) may.path))

    spares1 : IsTrue env.models_disk → Run (SameBesideOwn store first) (env.observed from) (env.observed e1)
    spares1 modelled = Run-mono
        (λ now same path other. unmade_path path (λ n fits is. other (inl (Table, tt, (file_name Table n, n, made_name Table n fits, is)))) now same)
        (replays.spares.run modelled)

    -- no byte is lost, where the numbers that are given are new
    loses1 : IsTrue env.models_disk → HasNewNumbers store set first → LosesNoBytesMeanwhile env store from e1
    loses1 modelled numbers = Run-mono (λ now same. loses_at_tables store set set1 may.path first now (table_numbers_below store first set.next_file numbers.below) same) (replays.spares.run modelled)

    keeps1 : IsTrue env.models_disk → Keeps e1
    keeps1 modelled meaning agrees contents was allowed there can bound reached =
        replaying_keeps env modelled store format.order meaning contents set set1 logs from e1 was.1 replays.spares allowed bound

    why_not_replayed : (status : Status) → WhyNotReplayed env choices set.store first logs set.next_file status → IsOutOfMemory status ⊎ Why status
    why_not_replayed status (inl lacks) = inr (inl (subst (λ s. LacksNumbersFor env.models_disk s first logs set.next_file 1 status) may.path (lacks_one_more env.models_disk set.store first logs set.next_file 0 status lacks)))
    why_not_replayed status (inr (inl kept)) = inr (inr (inl (subst (λ s. (log : HasLogNotKept choices env.models_disk s first status) × Contains logs log.number) may.path kept)))
    why_not_replayed status (inr (inr damaged)) = inr (inr (inr (damaged.0, λ modelled. subst (λ s. AreDamagedLogs s first logs) may.path (damaged.1 modelled))))

  pub replay_refused : {C : Type 0} (status : Status) (set1 : VersionSetValue) (e1 : E) → ReplaysLogs env choices {C = C} limit set logs from (Err status) set1 e1 → Begins C (Err status) e1
  replay_refused {C} status set1 e1 replays = refused_at C e1 status (keeps1 (Err status) set1 e1 replays) (spares1 (Err status) set1 e1 replays) (loses1 (Err status) set1 e1 replays) replays.spares.bytes replays.spares.locks
      (cause_of_step (env.failures from) (env.failures from) (env.failures e1) status refl (why_not_replayed (Err status) set1 e1 replays status) replays.cause)

  -- ---- the log to write is opened

  module _ {C : Type 0} (replay : Replay C) (set1 : VersionSetValue) (e1 : E) (replays : ReplaysLogs env choices limit set logs from (Ok replay) set1 e1) (set2 : VersionSetValue)
      (set2_is : set2 ≡ record set1 { last_sequence = max set1.last_sequence replay.last }) where
    abbrev replayed_files : Files
    replayed_files = (env.observed e1).disk.files

    same2 : SameManifest set set2
    same2 =
        let same = same1 (Ok replay) set1 e1 replays in
        record {
          store = ap (λ (s : VersionSetValue). s.store) set2_is ∙ same.store;
          manifest = ap (λ (s : VersionSetValue). s.manifest) set2_is ∙ same.manifest;
          number = ap (λ (s : VersionSetValue). s.manifest_number) set2_is ∙ same.number;
        }

    -- the tables that were made are there
    made_there : IsTrue env.models_disk → All (HasFile replayed_files) (made_files replay.tables.items)
    made_there modelled =
        All-weaker (Contains files) (HasFile replayed_files) each files (All-contains_itself files)
      where
        files : List NewFile
        files = made_files replay.tables.items

        each : (file : NewFile) → Contains files file → HasFile replayed_files file
        each file c =
            let given : file.number < set1.next_file = All-contains (λ (f : NewFile). f.number < set1.next_file) files file replays.given c in
            let next = replays.spares.fits may.fits in (
              omega (arith, given, next),
              subst (λ s. IsTableThere s replayed_files file) may.path (made_tables_there format set first logs replay set1 replayed_files (replays.ok modelled) file c),
            )

    replayed : IsTrue env.models_disk → (meaning : Meaning) → Agrees format meaning → (contents : Contents) → WasRecovered env format store set logs from meaning contents
        → IsReplayedWith store format.order meaning contents replay.used replay.leaves_log replay.tables.items set2 replayed_files
    replayed modelled meaning agrees contents was =
        replayed_recovered env modelled store format.order meaning contents set set1 logs from e1 was.1 replays.spares replay (replays.ok modelled meaning agrees) replays.from_log set2 set2_is

    module _ (cmp : C) (result : Result (OpenLog E F × MemTableState C) Status) (set3 : VersionSetValue) (e2 : E) (opens : OpensLog env store cmp replay.used set2 e1 result set3 e2) where
      abbrev log_files : Files
      log_files = (env.observed e2).disk.files

      run2 : IsTrue env.models_disk → Run (BeforeOrAfter (files_to_write replay.used store set2.next_file) replayed_files) (env.observed e1) (env.observed e2)
      run2 modelled = Run-call modelled opens.does

      spares2 : IsTrue env.models_disk → Run (SameBesideOwn store first) (env.observed from) (env.observed e2)
      spares2 modelled =
          let before = spares1 (Ok replay) set1 e1 replays modelled in
          Run-trans before (λ now spares. spares_then store first replayed_files now before.has spares)
          (Run-mono (λ now passes. log_spared replay.used store set2.next_file opens.number_fits replayed_files now passes) (run2 modelled))

      loses2 : IsTrue env.models_disk → HasNewNumbers store set first → LosesNoBytesMeanwhile env store from e2
      loses2 modelled numbers =
          meanwhile_then env store (loses1 (Ok replay) set1 e1 replays modelled numbers)
          (Run-mono (λ now passes. loses_at_log store replay.used set2.next_file replayed_files now no_log passes) (run2 modelled))
        where
          next : ℕ
          next = set2.next_file

          same_next : next ≡ set1.next_file
          same_next = ap (λ (s : VersionSetValue). s.next_file) set2_is

          fits : next < 2 ^ 64
          fits = let before = replays.spares.fits may.fits in omega (arith, same_next, before)

          -- a new log isn't there yet
          no_log : replayed_files (log_path store next) ≡ None
          no_log = unmade_path (Ok replay) set1 e1 replays (log_path store next)
              (λ n n_fits is. let apart = types_apart store (log_path store next) (table_path store n) Log Table (is_log_path store next fits) (is_table_path store n n_fits) (λ e. cc) in
              let never : true ≡ false = sym ((bytes_decides (log_path store next) (table_path store n)).1 is) ∙ apart in cc)
              replayed_files (replays.spares.run modelled).has
              ∙ number_is_new store first set.next_file numbers.below Log next fits (let rises = replays.spares.numbers.rises in omega (arith, same_next, rises))

      keeps2 : IsTrue env.models_disk → Keeps e2
      keeps2 modelled meaning agrees contents was = keeps_found_then store format.order_name format.order meaning contents contents (env.observed from) (env.observed e1) (env.observed e2) (inl refl)
          (keeps1 (Ok replay) set1 e1 replays modelled meaning agrees contents was)
          (λ allowed there can bound reached. Run-mono
          (λ now passes. log_opening_keeps store format.order meaning contents replay.leaves_log replay.tables.items set2 replayed_files replay.used (replayed modelled meaning agrees contents was)
          (λ it. IsTrue (allowed it)) bound now passes)
          (run2 modelled))

      locks2 : SameLocks env.models_disk (env.observed from) (env.observed e2)
      locks2 modelled = opens.locks modelled ∙ replays.spares.locks modelled

      bytes2 : BytesAreAppended env from e2
      bytes2 modelled before = log_bytes env store cmp replay.used set2 e1 result set3 e2 opens modelled (replays.spares.bytes modelled before)

      -- a manifest's file stays
      manifest_still : IsTrue env.models_disk → (path : List ℕ) → IsFilePath Descriptor store path → log_files path ≡ first path
      manifest_still modelled path is =
          log_alone replay.used store set2.next_file replayed_files log_files (run2 modelled).has path
          (types_apart store path_of_log path Log Descriptor (is_log_path store (number_to_write replay.used set2.next_file) opens.number_fits) is (λ e. cc))
          ∙ unmade_path (Ok replay) set1 e1 replays path
          (λ n fits same. let apart = types_apart store path (table_path store n) Descriptor Table is (is_table_path store n fits) (λ e. cc) in
          let never : true ≡ false = sym ((bytes_decides path (table_path store n)).1 same) ∙ apart in cc)
          replayed_files (replays.spares.run modelled).has
        where
          path_of_log : List ℕ
          path_of_log = log_path store (number_to_write replay.used set2.next_file)

      -- so does a table's
      tables_still : IsTrue env.models_disk → (files : List NewFile) → All (HasFile replayed_files) files → All (HasFile log_files) files
      tables_still modelled files all = All-weaker (HasFile replayed_files) (HasFile log_files)
          (λ file has. (
            has.0,
            subst (IsSized file.size) (sym (log_alone replay.used store set2.next_file replayed_files log_files (run2 modelled).has (table_path store file.number)
                (types_apart store (log_path store (number_to_write replay.used set2.next_file)) (table_path store file.number) Log Table
                (is_log_path store (number_to_write replay.used set2.next_file) opens.number_fits) (is_table_path store file.number has.0) (λ e. cc)))) has.1,
          )) files all

      -- the number of each file is below those that are given then
      numbers2 : OnOk result (IsTrue env.models_disk → NumbersAreBelow store first set.next_file → NumbersAreBelow store log_files set3.next_file)
      numbers2 = by result opens.set
        where
          number : ℕ
          number = number_to_write replay.used set2.next_file

          by : (r : Result (OpenLog E F × MemTableState C) Status) → OnOk r (set3 ≡ set_to_write replay.used set2)
              → OnOk r (IsTrue env.models_disk → NumbersAreBelow store first set.next_file → NumbersAreBelow store log_files set3.next_file)
          by (Ok pair) is = λ modelled below.
              let rises = replays.spares.numbers.rises in
              let same = ap (λ (s : VersionSetValue). s.next_file) set2_is in
              let more = next_to_write replay.used set2 in
              let now = ap (λ (s : VersionSetValue). s.next_file) is in
              let less = written_below format set first logs replay set1 replayed_files (replays.ok modelled) (subst (λ s. NumbersAreBelow s first set.next_file) (sym may.path) below) set2 (omega (arith, rises, same)) opens.number_fits in
              numbers_then store replayed_files log_files set1.next_file set3.next_file (omega (arith, same, more, now))
              (numbered_beside store (log_path store number) replayed_files log_files (log_alone replay.used store set2.next_file replayed_files log_files (run2 modelled).has) set3.next_file
              (numbered_below store Log number opens.number_fits set3.next_file (omega (arith, less, now))))
              (numbers_at_tables store set set1 may.path first replayed_files rises (replays.spares.run modelled).has below)
          by (Err status) is = tt

    -- there is no number for a new log
    no_number : (status : Status) → AreFileNumbersUsedUp set2.next_file status → Why status
    no_number status used = inl (record {
      batches = replays.few.0;
      begin = λ modelled. subst (λ s. LogsBeginWith s first logs replays.few.0) may.path (replays.few.1 modelled);
      too_few = record {
        code = used.code;
        too_few =
            let few = replays.few.2 in
            let next = ap (λ (s : VersionSetValue). s.next_file) set2_is in
            let last = used.last in
            omega (arith, few, next, last);
      };
    })

    pub log_refused : (cmp : C) (status : Status) (set3 : VersionSetValue) (e2 : E) → OpensLog env store cmp replay.used set2 e1 (Err status) set3 e2 → Begins C (Err status) e2
    log_refused cmp status set3 e2 opens = refused_at C e2 status (keeps2 cmp (Err status) set3 e2 opens) (spares2 cmp (Err status) set3 e2 opens) (loses2 cmp (Err status) set3 e2 opens) (bytes2 cmp (Err status) set3 e2 opens) (locks2 cmp (Err status) set3 e2 opens)
        (cause_of_step (env.failures from) (env.failures e1) (env.failures e2) status replays.cause.ok (λ used. inr (no_number status used)) opens.cause)

    -- ---- an edit is logged where one is wanted

    module _ (cmp : C) (pair : OpenLog E F × MemTableState C) (set3 : VersionSetValue) (e2 : E) (opens : OpensLog env store cmp replay.used set2 e1 (Ok pair) set3 e2) where
      abbrev N : ℕ
      N = pair.0.number

      abbrev made : List FileMetaData
      made = replay.tables.items

      same3 : SameManifest set set3
      same3 =
          let to_write = set_to_write_is replay.used set2 in
          record {
            store = ap (λ (s : VersionSetValue). s.store) opens.set ∙ to_write.0 ∙ same2.store;
            manifest = ap (λ (s : VersionSetValue). s.manifest) opens.set ∙ to_write.1 ∙ same2.manifest;
            number = ap (λ (s : VersionSetValue). s.manifest_number) opens.set ∙ to_write.2 ∙ same2.number;
          }

      path3 : set3.store ≡ store
      path3 = same3.store ∙ may.path

      own3 : IsTrue env.models_disk → HasOwnManifest set3
      own3 modelled = own_still set set3 same3 (may.own modelled)

      fits3 : set3.manifest_number < 2 ^ 64
      fits3 = let same = same3.number in let below = may.manifest_fits in let fits = may.fits in omega (arith, same, below, fits)

      unbroken3 : set3.manifest ≢ broken
      unbroken3 is = may.unbroken (sym same3.manifest ∙ is)

      there3 : IsTrue env.models_disk → (manifest : OpenManifest) → set3.manifest ≡ in_use manifest → log_files cmp (Ok pair) set3 e2 opens manifest.path ≢ None
      there3 modelled manifest used gone =
          let is = sym same3.manifest ∙ used in
          may.there modelled manifest is
          (sym (manifest_still cmp (Ok pair) set3 e2 opens modelled manifest.path (subst (λ s. IsFilePath Descriptor s manifest.path) may.path (may.own modelled manifest is))) ∙ gone)

      has_open : IsTrue env.models_disk → (meaning : Meaning) → Agrees format meaning → (contents : Contents) → WasRecovered env format store set logs from meaning contents
          → HasLogOpen store format.order meaning contents replay.leaves_log made set3 N (size_to_write replay.used) (entries_to_write replay.used) (env.observed e2).disk.files
      has_open modelled meaning agrees contents was =
          subst (λ s. HasLogOpen store format.order meaning contents replay.leaves_log made s N (size_to_write replay.used) (entries_to_write replay.used) (env.observed e2).disk.files) (sym opens.set)
          (subst (λ n. HasLogOpen store format.order meaning contents replay.leaves_log made (set_to_write replay.used set2) n (size_to_write replay.used) (entries_to_write replay.used)
          (env.observed e2).disk.files) (sym opens.number)
          (log_opened store format.order meaning contents replay.leaves_log made set2 replayed_files replay.used (replayed modelled meaning agrees contents was) opens.fits (env.observed e2).disk.files
          (opens.does.ok modelled)))

      -- the numbers of live files were given, and those of the tables that were made
      live3 : AreNumbersGiven set3 set3.full.added
      live3 = subst (λ (s : VersionSetValue). AreNumbersGiven s s.full.added) (sym opens.set) (live_to_write replay.used set2
          (subst (λ (s : VersionSetValue). AreNumbersGiven s s.full.added) (sym set2_is) (given1 (Ok replay) set1 e1 replays)))

      full3 : set3.full ≡ set.full
      full3 = ap (λ (s : VersionSetValue). s.full) opens.set ∙ full_to_write replay.used set2 ∙ ap (λ (s : VersionSetValue). s.full) set2_is ∙ ap (λ (s : VersionSetValue). s.full) replays.spares.numbers.set

      levels3 : AreInLevels env.models_disk format.order set3.full.added
      levels3 = subst (λ (e : Edit). AreInLevels env.models_disk format.order e.added) (sym full3) may.levels

      -- live tables are there, and those that were made
      live_there3 : IsTrue env.models_disk → All (HasFile (log_files cmp (Ok pair) set3 e2 opens)) set3.full.added
      live_there3 modelled = subst (λ (e : Edit). All (HasFile (log_files cmp (Ok pair) set3 e2 opens)) e.added) (sym full3)
          (tables_still cmp (Ok pair) set3 e2 opens modelled set.full.added (live_there (Ok replay) set1 e1 replays modelled))

      made_there3 : IsTrue env.models_disk → All (HasFile (log_files cmp (Ok pair) set3 e2 opens)) (made_files made)
      made_there3 modelled = tables_still cmp (Ok pair) set3 e2 opens modelled (made_files made) (made_there modelled)

      made3 : AreNumbersGiven set3 (made_files made)
      made3 = subst (λ (s : VersionSetValue). AreNumbersGiven s (made_files made)) (sym opens.set) (given_to_write replay.used set2 (made_files made)
          (subst (λ (s : VersionSetValue). AreNumbersGiven s (made_files made)) (sym set2_is) replays.given))

      module _ (wanted : Bool) (unwanted : wanted ≡ false → (anew ≡ false) × (replay.leaves_log ≡ false)) where
        module _ (result : Result (Unit {0}) Status) (set4 : VersionSetValue) (e3 : E) where
          -- what is logged, whether an edit is wanted or not
          keeps3 : (b : Bool) → LogsIfWanted env b N made set3 e2 result set4 e3 → IsTrue env.models_disk → (meaning : Meaning) → Agrees format meaning → (contents : Contents)
              → WasRecovered env format store set logs from meaning contents → KeepsFound format.order meaning store format.order_name contents (env.observed e2) (env.observed e3)
          keeps3 true logged modelled meaning agrees contents was allowed there can bound reached =
              logging_keeps env modelled store format.order meaning format.order_name contents was.0 replay.leaves_log made set3 N (size_to_write replay.used) (entries_to_write replay.used) e2 e3
              (has_open modelled meaning agrees contents was) set4 result (λ it. IsTrue (allowed it)) bound reached logged
          keeps3 false logged modelled meaning agrees contents was allowed there can bound reached = subst
              (λ e. Run (KeepsHistory store format.order (IsTableOf format.order meaning) (λ it. IsTrue (allowed it)) bound (env.observed e2).disk.files) (env.observed e2) (env.observed e)) (sym logged.1)
              (begun (env.observed e2) (record { now = λ history c. c; crash = λ durable history s. s }))

          spares3 : (b : Bool) → LogsIfWanted env b N made set3 e2 result set4 e3 → IsTrue env.models_disk → Run (SameBesideOwn store (env.observed e2).disk.files) (env.observed e2) (env.observed e3)
          spares3 true logged modelled = subst (λ s. Run (SameBesideOwn s (env.observed e2).disk.files) (env.observed e2) (env.observed e3)) path3
              (logging_spares env made set3 N e2 e3 set4 modelled (own3 modelled) fits3 result logged)
          spares3 false logged modelled = subst (λ e. Run (SameBesideOwn store (env.observed e2).disk.files) (env.observed e2) (env.observed e)) (sym logged.1) (begun (env.observed e2) (λ path other. refl))

          loses3 : (b : Bool) → LogsIfWanted env b N made set3 e2 result set4 e3 → IsTrue env.models_disk → HasNewNumbers store set first → LosesNoBytesMeanwhile env store e2 e3
          loses3 true logged modelled numbers = subst (λ s. LosesNoBytesMeanwhile env s e2 e3) path3
              (logging_loses env made set3 N e2 e3 set4 modelled fits3 no_manifest result logged)
            where
              fits : set.manifest_number < 2 ^ 64
              fits = let below = may.manifest_fits in let next = may.fits in omega (arith, below, next)

              path : List ℕ
              path = manifest_path store set.manifest_number

              no_manifest : set3.manifest ≡ unmade → (env.observed e2).disk.files (manifest_path set3.store set3.manifest_number) ≡ None
              no_manifest is = ap (λ s. (env.observed e2).disk.files (manifest_path s set3.manifest_number)) path3
                  ∙ ap (λ n. (env.observed e2).disk.files (manifest_path store n)) same3.number
                  ∙ manifest_still cmp (Ok pair) set3 e2 opens modelled path (file_name Descriptor set.manifest_number, set.manifest_number, made_name Descriptor set.manifest_number fits, refl)
                  ∙ numbers.manifest (sym same3.manifest ∙ is)
          loses3 false logged modelled numbers = subst (λ e. LosesNoBytesMeanwhile env store e2 e) (sym logged.1)
              (meanwhile_none env store e2)

          numbers3 : (b : Bool) → LogsIfWanted env b N made set3 e2 result set4 e3 → IsTrue env.models_disk → NumbersAreBelow store (env.observed e2).disk.files set3.next_file
              → NumbersAreBelow store (env.observed e3).disk.files set3.next_file
          numbers3 true logged modelled below = subst (λ s. NumbersAreBelow s (env.observed e3).disk.files set3.next_file) path3
              (logging_numbers env made set3 N e2 e3 set4 modelled given fits3 result logged (subst (λ s. NumbersAreBelow s (env.observed e2).disk.files set3.next_file) (sym path3) below))
            where
              given : set3.manifest_number < set3.next_file
              given =
                  let was = may.manifest_fits in
                  let same = same3.number in
                  let rises = replays.spares.numbers.rises in
                  let next = ap (λ (s : VersionSetValue). s.next_file) set2_is in
                  let more = next_to_write replay.used set2 in
                  let now = ap (λ (s : VersionSetValue). s.next_file) opens.set in
                  omega (arith, was, same, rises, next, more, now)
          numbers3 false logged modelled below = subst (λ e. NumbersAreBelow store (env.observed e).disk.files set3.next_file) (sym logged.1) below

          all_lose : LogsIfWanted env wanted N made set3 e2 result set4 e3 → IsTrue env.models_disk → HasNewNumbers store set first → LosesNoBytesMeanwhile env store from e3
          all_lose logged modelled numbers =
              meanwhile_then env store (loses2 cmp (Ok pair) set3 e2 opens modelled numbers) (loses3 wanted logged modelled numbers)

          module _ (logged : LogsIfWanted env wanted N made set3 e2 result set4 e3) (locks : SameLocks env.models_disk (env.observed e2) (env.observed e3)) where
            all_keep : IsTrue env.models_disk → Keeps e3
            all_keep modelled meaning agrees contents was = keeps_found_then store format.order_name format.order meaning contents contents (env.observed from) (env.observed e2) (env.observed e3)
                (inl refl) (keeps2 cmp (Ok pair) set3 e2 opens modelled meaning agrees contents was) (keeps3 wanted logged modelled meaning agrees contents was)

            all_spare : IsTrue env.models_disk → Run (SameBesideOwn store first) (env.observed from) (env.observed e3)
            all_spare modelled =
                let before = spares2 cmp (Ok pair) set3 e2 opens modelled in
                Run-trans before (λ now spares. spares_then store first (env.observed e2).disk.files now before.has spares) (spares3 wanted logged modelled)

            all_bytes : BytesAreAppended env from e3
            all_bytes modelled before = logging_bytes env made set3 N e2 e3 set4
                (λ modelled. made_keys_bytes format set first logs replay set1 replayed_files (replays.ok modelled)) wanted result logged
                modelled (bytes2 cmp (Ok pair) set3 e2 opens modelled before)

            all_locks : SameLocks env.models_disk (env.observed from) (env.observed e3)
            all_locks modelled = locks modelled ∙ locks2 cmp (Ok pair) set3 e2 opens modelled

        -- ---- it isn't logged

        module _ (status : Status) (set4 : VersionSetValue) (e3 : E) where
          abbrev Cause : Type 0
          Cause = HasCauseOr {T = Unit {0}} Why (env.failures e2) (env.failures e3) (Err status)

          -- only what isn't modelled loses a file that is there
          lost_cause : (Lost : Status → Type 0) → ((e : Status) → Lost e → IsOutOfMemory e ⊎ (Why e × (env.failures e3 ≡ env.failures e2))) → ((e : Status) → IsOutOfMemory e → Lost e)
              → HasCause {T = Unit {0}} Lost (env.failures e2) (env.failures e3) (Err status) → Cause
          lost_cause Lost to memory cause = record {
            later = cause.later;
            ok = tt;
            uncounted = λ why. ⊎_elim (λ (out : IsOutOfMemory status). cause.uncounted (memory status out)) (λ (it : Why status × (env.failures e3 ≡ env.failures e2)). it.1) why;
            cause = ⊎_elim (λ (lost : Lost status). inl (to status lost)) (λ counted. inr counted) cause.cause;
          }

          edit_cause : LogEditResult env.models_disk set3 (tables_edit N (made_files made)) (env.observed e2) (env.failures e2) (Err status) set4 (env.observed e3) (env.failures e3) → (state : ManifestState)
              → set3.manifest ≡ state → Cause
          edit_cause logs unmade is = lost_cause (IsLostUnobserved env.models_disk (temp_path set3.store set3.manifest_number) (env.failures e2) (env.failures e3))
              (λ e lost. ⊎_elim (λ memory. inl memory) (λ it. inr (inr (inr (it.0.code, λ modelled. absurd (it.1 modelled))), it.2)) lost) (λ e memory. inl memory)
              (logs.not_made (made_levels_fit N made) is).cause
          edit_cause logs (in_use manifest) is = lost_cause (IsLost env.models_disk manifest.path (env.observed e2) (env.failures e2) (env.failures e3))
              (λ e lost. ⊎_elim (λ memory. inl memory) (λ it. inr (inr (inr (it.0.code, λ modelled. absurd (there3 modelled manifest is (it.1 modelled)))), it.2)) lost) (λ e memory. inl memory)
              (logs.used (made_levels_fit N made) manifest is).cause
          edit_cause logs broken is = absurd (unbroken3 is)

          logged_cause : (b : Bool) → LogsIfWanted env b N made set3 e2 (Err status) set4 e3 → Cause
          logged_cause true (inl none) = record {
            later = let same = ap env.failures none.2 in omega (arith, same);
            ok = tt;
            uncounted = λ why. ap env.failures none.2;
            cause = inl (inl none.0);
          }
          logged_cause true (inr logs) = edit_cause logs set3.manifest refl
          logged_cause false logged = absurd logged.2

          pub edit_refused : LogsIfWanted env wanted N made set3 e2 (Err status) set4 e3 → SameLocks env.models_disk (env.observed e2) (env.observed e3) → Begins C (Err status) e3
          edit_refused logged locks = refused_at C e3 status (all_keep (Err status) set4 e3 logged locks) (all_spare (Err status) set4 e3 logged locks) (all_lose (Err status) set4 e3 logged)
              (all_bytes (Err status) set4 e3 logged locks) (all_locks (Err status) set4 e3 logged locks)
              (cause_of_step (env.failures from) (env.failures e2) (env.failures e3) status (opens.cause.ok ∙ replays.cause.ok) (λ why. inr why) (logged_cause wanted logged))

        -- ---- the store is open

        module _ (done : Unit {0}) (set4 : VersionSetValue) (e3 : E) (logged : LogsIfWanted env wanted N made set3 e2 (Ok done) set4 e3) (locks : SameLocks env.models_disk (env.observed e2) (env.observed e3)) where
          -- the set may log edits
          pub record IsEnded : Type 0 where
            pub path : set4.store ≡ store
            pub used : OpenManifest
            pub is_in_use : set4.manifest ≡ in_use used
            pub last : set4.last_sequence ≡ set3.last_sequence
            pub next : set4.next_file ≡ set3.next_file
            pub same_tables : IsTrue env.models_disk → (n : ℕ) → n < 2 ^ 64
                → (env.observed e3).disk.files (table_path store n) ≡ (env.observed e2).disk.files (table_path store n)
            pub own : IsTrue env.models_disk → IsFilePath Descriptor store used.path
            pub there : IsTrue env.models_disk → (env.observed e3).disk.files used.path ≢ None
            pub given : AreNumbersGiven set4 set4.full.added
            pub levels : AreInLevels env.models_disk format.order set4.full.added
            pub tables : IsTrue env.models_disk → All (HasFile (env.observed e3).disk.files) set4.full.added
            -- its files are those after the edit, or no log is left aside and they are as they were
            pub files : (set4.full.added ≡ files_after (tables_edit N (made_files made)) set3.full.added)
                ⊎ ((replay.leaves_log ≡ false) × (set4.full.added ≡ set3.full.added))

          ended_by : (b : Bool) → wanted ≡ b → LogsIfWanted env b N made set3 e2 (Ok done) set4 e3 → IsEnded
          ended_by true is logs =
              let it = logged_manifest env made set3 N e2 e3 set4 done logs in
              record {
                path = it.store ∙ path3;
                used = it.manifest;
                is_in_use = it.is_in_use;
                last = it.last;
                next = it.next;
                same_tables = λ modelled n fits. subst (λ s. (env.observed e3).disk.files (table_path s n) ≡ (env.observed e2).disk.files (table_path s n)) path3
                    (it.tables modelled (own3 modelled) fits3 n fits);
                own = λ modelled. subst (λ s. IsFilePath Descriptor s it.manifest.path) path3 (it.own (own3 modelled) fits3);
                there = λ modelled. it.there modelled fits3 (there3 modelled);
                given = it.given live3 made3;
                levels = it.levels format.order replays.ordered levels3;
                tables = λ modelled. All-weaker (HasFile (env.observed e2).disk.files) (HasFile (env.observed e3).disk.files)
                    (λ file has. (
                      has.0,
                      subst (IsSized file.size) (sym (subst (λ s. (env.observed e3).disk.files (table_path s file.number) ≡ (env.observed e2).disk.files (table_path s file.number)) path3
                          (it.tables modelled (own3 modelled) fits3 file.number has.0))) has.1,
                    )) set4.full.added
                    (All-weaker (λ (file : NewFile). Contains set3.full.added file ⊎ Contains (made_files made) file) (HasFile (env.observed e2).disk.files)
                    (λ file which. ⊎_elim
                    (λ (c : Contains set3.full.added file). All-contains (HasFile (env.observed e2).disk.files) set3.full.added file (live_there3 modelled) c)
                    (λ (c : Contains (made_files made) file). All-contains (HasFile (env.observed e2).disk.files) (made_files made) file (made_there3 modelled) c) which)
                    set4.full.added it.live);
                files = inl it.files;
              }
          ended_by false is same =
              let on = may.goes_on (unwanted is).0 in
              record {
                path = ap (λ (s : VersionSetValue). s.store) same.0 ∙ path3;
                used = on.0;
                is_in_use = ap (λ (s : VersionSetValue). s.manifest) same.0 ∙ same3.manifest ∙ on.1;
                last = ap (λ (s : VersionSetValue). s.last_sequence) same.0;
                next = ap (λ (s : VersionSetValue). s.next_file) same.0;
                same_tables = λ modelled n fits. ap (λ e. (env.observed e).disk.files (table_path store n)) same.1;
                own = λ modelled. subst (λ s. IsFilePath Descriptor s on.0.path) may.path (may.own modelled on.0 on.1);
                there = λ modelled. subst (λ e. (env.observed e).disk.files on.0.path ≢ None) (sym same.1) (there3 modelled on.0 (same3.manifest ∙ on.1));
                given = subst (λ (s : VersionSetValue). AreNumbersGiven s s.full.added) (sym same.0) live3;
                levels = subst (λ (s : VersionSetValue). AreInLevels env.models_disk format.order s.full.added) (sym same.0) levels3;
                tables = λ modelled. subst (λ e. All (HasFile (env.observed e).disk.files) set4.full.added) (sym same.1)
                    (subst (λ (s : VersionSetValue). All (HasFile (env.observed e2).disk.files) s.full.added) (sym same.0) (live_there3 modelled));
                files = inr ((unwanted is).1, ap (λ (s : VersionSetValue). s.full.added) same.0);
              }

          is_ended : IsEnded
          is_ended = ended_by wanted refl logged

          pub ended_path : set4.store ≡ store
          ended_path = is_ended.path

          pub ended_own : IsTrue env.models_disk → HasOwnManifest set4
          ended_own modelled manifest used =
              let same = one_in_use manifest is_ended.used (sym used ∙ is_ended.is_in_use) in
              subst (λ s. IsFilePath Descriptor s manifest.path) (sym is_ended.path) (subst (λ (m : OpenManifest). IsFilePath Descriptor store m.path) (sym same) (is_ended.own modelled))

          pub ended_given : AreNumbersGiven set4 set4.full.added
          ended_given = is_ended.given

          pub ended_levels : AreInLevels env.models_disk format.order set4.full.added
          ended_levels = is_ended.levels

          pub ended_made : set4.manifest ≡ unmade → ⊥
          ended_made is = not_unmade is_ended.used (sym is_ended.is_in_use ∙ is)

          -- no entry in memory has a number past the last one
          pub ended_up_to : (entries : List Entry) → entries ≡ entries_to_write replay.used → AreUpTo set4.last_sequence entries
          ended_up_to entries is entry c =
              let most = replays.up_to entry (subst (λ es. Contains es entry) is c) in
              let last = is_ended.last ∙ ap (λ (s : VersionSetValue). s.last_sequence) opens.set ∙ last_to_write replay.used set2 ∙ ap (λ (s : VersionSetValue). s.last_sequence) set2_is in
              omega (arith, most, last)

          -- a live file is live still
          live_on : IsTrue env.models_disk → (file : NewFile) → Contains set.full.added file → Contains set4.full.added file
          live_on modelled file c = ⊎_elim
              (λ (more : set4.full.added ≡ files_after (tables_edit N (made_files made)) set3.full.added).
              subst (λ files. Contains files file) (sym more) (still_with_each (made_files made) set3.full.added file apart before))
              (λ (same : (replay.leaves_log ≡ false) × (set4.full.added ≡ set3.full.added)).
              subst (λ files. Contains files file) (sym same.1) before)
              is_ended.files
            where
              before : Contains set3.full.added file
              before = subst (λ (e : Edit). Contains e.added file) (sym full3) c

              apart : (one : NewFile) → Contains (made_files made) one → file.number ≡ one.number → ⊥
              apart one there same =
                  let given : file.number < set.next_file = All-contains (λ (f : NewFile). f.number < set.next_file) set.full.added file may.given c in
                  let above = made_above format set first logs replay set1 replayed_files (replays.ok modelled) one there in
                  omega (arith, given, above, same)

          -- a table is as it was once the logs were replayed
          table_same : IsTrue env.models_disk → (n : ℕ) → n < 2 ^ 64
              → (env.observed e3).disk.files (table_path store n) ≡ replayed_files (table_path store n)
          table_same modelled n fits = is_ended.same_tables modelled n fits
              ∙ log_alone replay.used store set2.next_file replayed_files (log_files cmp (Ok pair) set3 e2 opens)
              (run2 cmp (Ok pair) set3 e2 opens modelled).has (table_path store n)
              (types_apart store (log_path store (number_to_write replay.used set2.next_file)) (table_path store n) Log Table
              (is_log_path store (number_to_write replay.used set2.next_file) opens.number_fits) (is_table_path store n fits) (λ e. cc))

          module _ (modelled : IsTrue env.models_disk) (meaning : Meaning) (agrees : Agrees format meaning) where
            abbrev IsTable : List ℕ → List Pair → Type 0
            IsTable = IsTableOf format.order meaning

            abbrev read : HasReplayedLogs format.order meaning set first logs replay set1 replayed_files
            read = replays.ok modelled meaning agrees

            -- a table that was made is there, and live
            made_is_there : (table : LiveTable) → Contains read.tables table
                → HasTable store format.order IsTable (env.observed e3).disk.files table
            made_is_there table c =
                let made_table = read.made_tables.each table c in
                table_on store format.order IsTable replayed_files (env.observed e3).disk.files table
                (ap (option_map bytes_of) (table_same modelled table.file.number made_table.3.number))
                (subst (λ s. HasTable s format.order IsTable replayed_files table) may.path made_table.0)

            made_is_live : (table : LiveTable) → Contains read.tables table → Contains set4.full.added table.file
            made_is_live table c = ⊎_elim
                (λ (more : set4.full.added ≡ files_after (tables_edit N (made_files made)) set3.full.added).
                subst (λ files. Contains files table.file) (sym more)
                (subst (λ (files : List NewFile). Contains (fold files_with set3.full.added files) table.file) read.files_are
                (made_with_each read.tables set3.full.added (pairwise_of IsMadeBefore read.tables read.made_tables.rising) table c)))
                (λ (same : (replay.leaves_log ≡ false) × (set4.full.added ≡ set3.full.added)).
                absurd (in_none table (subst (λ tables. Contains tables table) (read.leaves same.0).0 c)))
                is_ended.files

            logs_read : AreLogs store first logs read.logs
            logs_read = subst (λ s. AreLogs s first logs read.logs) may.path read.are_logs

            last_read : set4.last_sequence ≡ max set.last_sequence (greatest (log_entries read.logs))
            last_read =
                let kept : set1.last_sequence ≡ set.last_sequence = ap (λ (s : VersionSetValue). s.last_sequence) replays.spares.numbers.set in
                let last : replay.last ≡ greatest (log_entries read.logs) = read.last_is in
                is_ended.last ∙ ap (λ (s : VersionSetValue). s.last_sequence) opens.set ∙ last_to_write replay.used set2
                ∙ ap (λ (s : VersionSetValue). s.last_sequence) set2_is ∙ (λ i. max (kept i) (last i))

            -- so the logs are held in a store that is open with this set and these entries
            holds_read : (value : OpenStoreValue C) → value.set ≡ set4 → value.mem.entries ≡ entries_to_write replay.used
                → HoldsLogs format.order meaning store set.last_sequence read.logs value (env.observed e3).disk.files
            holds_read value set_is mem_is = record {
              tables = read.tables;
              each = λ table c. (
                made_is_there table c,
                subst (λ (s : VersionSetValue). Contains s.full.added table.file) (sym set_is) (made_is_live table c),
              );
              entries = held_entries replay.used read.logs read.tables value.mem.entries mem_is read.tables_made;
              last_is = ap (λ (s : VersionSetValue). s.last_sequence) set_is ∙ last_read;
            }

          -- nothing was counted
          counted : (b : Bool) → LogsIfWanted env b N made set3 e2 (Ok done) set4 e3 → env.failures e3 ≡ env.failures e2
          counted true (inl none) = absurd none.0
          counted true (inr logs) = by set3.manifest refl
            where
              by : (state : ManifestState) → set3.manifest ≡ state → env.failures e3 ≡ env.failures e2
              by unmade at = (logs.not_made (made_levels_fit N made) at).cause.ok
              by (in_use manifest) at = (logs.used (made_levels_fit N made) manifest at).cause.ok
              by broken at = absurd (unbroken3 at)
          counted false same = ap env.failures same.1

          none_counted : env.failures e3 ≡ env.failures from
          none_counted = counted wanted logged ∙ opens.cause.ok ∙ replays.cause.ok

          module _ (value : OpenStoreValue C) (is : IsOpenValue set4 N (size_to_write replay.used) (entries_to_write replay.used) value) where
            opened_by : (b : Bool) → wanted ≡ b → LogsIfWanted env b N made set3 e2 (Ok done) set4 e3 → IsTrue env.models_disk → (meaning : Meaning) → Agrees format meaning → (contents : Contents)
                → WasRecovered env format store set logs from meaning contents → IsOpenedAs format.order meaning store format.order_name contents value (env.observed e3).disk.files
            opened_by true want logs modelled meaning agrees contents was =
                edit_logged env modelled store format.order meaning format.order_name contents was.0 replay.leaves_log made set3 N (size_to_write replay.used) (entries_to_write replay.used) e2 e3
                (has_open modelled meaning agrees contents was) set4 done value is logs
            opened_by false want same modelled meaning agrees contents was =
                let on = may.goes_on (unwanted want).0 in
                subst (λ e. IsOpenedAs format.order meaning store format.order_name contents value (env.observed e).disk.files) (sym same.1)
                (went_on store format.order meaning format.order_name contents was.0 replay.leaves_log made set3 N (size_to_write replay.used) (entries_to_write replay.used) (env.observed e2).disk.files
                (has_open modelled meaning agrees contents was) on.0 (same3.manifest ∙ on.1) (unwanted want).1 value
                (subst (λ s. IsOpenValue s N (size_to_write replay.used) (entries_to_write replay.used) value) same.0 is))

            pub all_begun : Begins C (Ok value) e3
            all_begun = record {
              path = ap (λ (s : VersionSetValue). s.store) is.set_is ∙ is_ended.path;
              unbroken = record {
                manifest = λ e. in_use_unbroken is_ended.used (sym is_ended.is_in_use ∙ sym (ap (λ (s : VersionSetValue). s.manifest) is.set_is) ∙ e);
                log = ap (λ (w : WriterState). w.broken) is.writer;
              };
              room = not_full_to_write limit replay.used replays.room value.mem is.mem_is;
              tables = λ modelled. subst (λ (s : VersionSetValue). AreTablesThere store (env.observed e3).disk.files s.full.added) (sym is.set_is)
                  (All-weaker (HasFile (env.observed e3).disk.files) (IsTableThere store (env.observed e3).disk.files)
                  (λ file has. has.1) set4.full.added (is_ended.tables modelled));
              manifest = λ modelled one used.
                  let same = one_in_use one is_ended.used (sym used ∙ ap (λ (s : VersionSetValue). s.manifest) is.set_is ∙ is_ended.is_in_use) in
                  subst (λ (m : OpenManifest). (env.observed e3).disk.files m.path ≢ None) (sym same) (is_ended.there modelled);
              live = λ modelled file c. subst (λ (s : VersionSetValue). Contains s.full.added file) (sym is.set_is) (live_on modelled file c);
              replayed = λ modelled meaning agrees. (
                (replays.ok modelled meaning agrees).logs,
                logs_read modelled meaning agrees,
                holds_read modelled meaning agrees value is.set_is is.mem_is,
              );
              keeps = all_keep (Ok done) set4 e3 logged locks;
              opens = opened_by wanted refl logged;
              others = all_spare (Ok done) set4 e3 logged locks;
              kept = all_lose (Ok done) set4 e3 logged;
              numbers = λ modelled below. subst (λ n. NumbersAreBelow store (env.observed e3).disk.files n) (sym (ap (λ (s : VersionSetValue). s.next_file) is.set_is ∙ is_ended.next))
                  (numbers3 (Ok done) set4 e3 wanted logged modelled (numbers2 cmp (Ok pair) set3 e2 opens modelled below));
              bytes = all_bytes (Ok done) set4 e3 logged locks;
              locks = all_locks (Ok done) set4 e3 logged locks;
              cause = record { later = omega (arith, none_counted); ok = none_counted; uncounted = tt; cause = tt };
            }

      -- there is no memory for the version of the live files
      pub unversioned : (status : Status) → IsOutOfMemory status → Begins C (Err status) e2
      unversioned status memory = edit_refused true (λ e. absurd (cc)) status set3 e2
          (inl (memory, refl, refl)) (λ modelled. refl)
