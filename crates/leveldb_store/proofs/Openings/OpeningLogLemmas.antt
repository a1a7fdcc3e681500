-- An opening once all logs were replayed, and once the log to which batches are appended is open.
use Rattle.std.specs.Prelude.{◌≢◌, AllPairs, Contains, IfNone, IfSome, IsSome, IsTrue, max}
use Rattle.std.proofs.Common.{◌≡◌, ◌∙◌, ◌⊎◌, inl, inr, ⊎_elim, ◌+◌, ◌≤◌, ◌<◌, ◌^◌, ℕ, Bool, true, false, List, [], ◌∷◌, ◌++◌, map, length, Option, None, Some, ap, arith, refl, subst, sym}
use Rattle.std.proofs.lemmas.Bool.{cases_lt}
use Rattle.std.proofs.lemmas.Cmp.{ranked}
use Rattle.std.proofs.lemmas.List.Elements.{All-contains, Contains-append_left, Contains-push, Contains-push_cases}
use Rattle.std.proofs.lemmas.Map.Keys.{sorted_tail}
use Rattle.std.proofs.lemmas.Map.Views.{All-after_first}
use Rattle.std.specs.Cmp.Lexicographic.{bytes_decides}
use Rattle.std.specs.List.{cons_option, filter_map, last_or}
use Rattle.std.specs.List.Sorted.{IsStrictlySortedBy}
use Rattle.std.specs.Ordering.{nat_cmp}
use Rattle.std.specs.Str.{bytes_eq}
use Rattle.std.specs.declared.cmp.Ordering.{Ordering}
use Rattle.std.specs.declared.cmp.Ordering.TheVariants.{Equal, Greater, Less}
use Rattle.leveldb_base.proofs.EntriesLemmas.{in_map, map_in}
use Rattle.leveldb_base.proofs.HistoryLemmas.{in_front, in_none, in_rest}
use Rattle.leveldb_base.proofs.NamesLemmas.{made_name}
use Rattle.leveldb_base.specs.History.{Entry, greatest}
use Rattle.leveldb_base.specs.KeyTypes.{greatest_sequence}
use Rattle.leveldb_base.specs.Names.{IsFileName, file_name}
use Rattle.leveldb_base.specs.Types.{Pair}
use Rattle.leveldb_base.specs.declared.types.FileMetaData.{FileMetaData}
use Rattle.leveldb_base.specs.declared.types.FileType.TheVariants.{Log, Table}
use Rattle.leveldb_env.proofs.EnvLemmas.{SameBut-emptied, at_same, with_file-itself}
use Rattle.leveldb_env.specs.Env.{BeforeOrAfter, Files, Run, SameBut, bytes_of, created, emptied, in_folder, kept_file, or_empty, with_file}
use Rattle.leveldb_mem.specs.Log.{IsLogFile}
use Rattle.leveldb_env.specs.declared.env.Env.{Ghosts}
use Rattle.leveldb_mem.specs.WriteBatch.{Batch}
use Rattle.leveldb_files.proofs.Steps.KeepsLemmas.{new_log_keeps}
use Rattle.leveldb_files.proofs.Stores.LogsLemmas.{above_before}
use Rattle.leveldb_files.proofs.Stores.ManagedLemmas.{kinds_apart, log_on, managed_on, numbers_apart, same_bytes, table_on}
use Rattle.leveldb_files.proofs.Steps.NewLogLemmas.{with_new_log}
use Rattle.leveldb_files.proofs.Histories.NumbersLemmas.{greatest_append}
use Rattle.leveldb_files.proofs.Stores.OneStoreLemmas.{logs_in, one_rising}
use Rattle.leveldb_version_set.proofs.Engines.RecoveringLemmas.{recovered_after_new_log, recovered_numbered}
use Rattle.leveldb_files.proofs.Histories.SafeLemmas.{some_is}
use Rattle.leveldb_version_set.proofs.Sets.TrackedLemmas.{live_is_below, logs_still, next_is_free}
use Rattle.leveldb_files.specs.Stores.Batches.{AreInOrder, all_entries, batch_entries}
use Rattle.leveldb_files.specs.Stores.Contents.{Contents, Store}
use Rattle.leveldb_files.specs.Levels.Levels.{LiveTable}
use Rattle.leveldb_version_set.specs.Engines.Opening.{AreLogTables, FitsEdit, IsLogToWrite, IsMadeBefore}
use Rattle.leveldb_files.specs.Stores.Paths.{current_path, log_path, table_path}
use Rattle.leveldb_files.specs.Stores.Store.{HasLog, HasLogs, IsManagedBy, LastNumbersFit, LogIsReplayed, LogsRise, ReplayedLog, log_batches, log_entries}
use Rattle.leveldb_files.specs.Steps.StoreSteps.{AreLogsBelow, IsAboveLogs, IsKept, KeepsHistory}
use Rattle.leveldb_files.specs.Edits.Edit.{Edit, NewFile}
use Rattle.leveldb_files.specs.Edits.VersionSet.{FileSet, level_file, live_after}
use Rattle.leveldb_version_set.specs.Sets.VersionSetValue.{VersionSetValue, with_number_given}
use Rattle.leveldb_version_set.specs.Engines.Writing.{IsRecoveredBy}
use Rattle.leveldb_files.specs.Stores.Format.{IsTableOf, Meaning}
use Rattle.leveldb_store.specs.Openings.Opening.{IsMadeTable}
use Rattle.leveldb_store.specs.Openings.OpeningSteps.{AreInTablesBut, HasReplayedLogs, entries_to_write, files_to_write, made_files, number_to_write, set_to_write, size_to_write}
use Rattle.leveldb_store.specs.Logs.ReplayLog.{MakesTablesOnly}
use Rattle.leveldb_store.specs.declared.opening.replay.Replay.{Replay}
use Rattle.leveldb_store.specs.declared.opening.replay.UsedLog.{UsedLog}
use Rattle.leveldb_store.specs.Openings.OpeningState.{IsRecoveredWith}
use Rattle.leveldb_store.proofs.Writing.SwitchLemmas.{log_is_no_table, logs_apart}
use Rattle.leveldb_store.proofs.Keeping.TableKeepsLemmas.{KeepsHistory-refl, one_reading_of}

-- ---- the store between these steps

-- All logs were replayed: the files are a store with these contents, by edits that the set tracks,
-- and the set's last number is theirs. The entries of the logs are in tables that were made, and in
-- memory.
pub record IsReplayedWith {C : Type 0} (store : List ℕ) (cmp : List ℕ → List ℕ → Ordering)
    (meaning : Meaning) (contents : Contents) (used : Option (UsedLog C)) (leaves : Bool)
    (made : List FileMetaData) (set : VersionSetValue) (files : Files) : Type 0 where
  pub edits : List Edit
  pub by : IsRecoveredBy store cmp (IsTableOf cmp meaning) files edits set
  pub managed : IsManagedBy store cmp (IsTableOf cmp meaning) files edits contents
  pub last : contents.last ≡ set.last_sequence
  pub last_fits : set.last_sequence ≤ greatest_sequence
  pub next_fits : set.next_file < 2 ^ 64
  pub log_below : set.log_number ≤ set.next_file
  pub logs : List ReplayedLog
  pub has_logs : HasLogs store files (live_after edits) logs
  pub tables : List LiveTable
  pub files_are : map (λ (table : LiveTable). table.file) tables ≡ made_files made
  pub each : (table : LiveTable) → Contains tables table
      → IsMadeTable cmp meaning store files table
  pub above : (table : LiveTable) (file : NewFile) → Contains tables table
      → file.number < 2 ^ 64 → (live_after edits).file (level_file file) ≡ Some file
      → file.number < table.file.number
  pub rising : AllPairs IsMadeBefore tables
  pub tables_made : AreInTablesBut used logs tables
  pub stays : leaves ≡ false → (tables ≡ []) × ((log : ReplayedLog) → Contains logs log
      → IfSome used (λ it. log.number ≡ it.number) × IsSome used)
  pub from_log : IfSome used (λ it. set.log_number ≤ it.number)

-- The log to write is open, has this size and these entries, and the entries of the logs below it
-- are in tables that were made.
pub record HasLogOpen (store : List ℕ) (cmp : List ℕ → List ℕ → Ordering) (meaning : Meaning)
    (contents : Contents) (leaves : Bool) (made : List FileMetaData) (set : VersionSetValue)
    (log size : ℕ) (mem : List Entry) (files : Files) : Type 0 where
  pub edits : List Edit
  pub by : IsRecoveredBy store cmp (IsTableOf cmp meaning) files edits set
  pub managed : IsManagedBy store cmp (IsTableOf cmp meaning) files edits contents
  pub last : contents.last ≡ set.last_sequence
  pub last_fits : set.last_sequence ≤ greatest_sequence
  pub next_fits : set.next_file < 2 ^ 64
  pub to_write : IsLogToWrite store files set log mem
  pub size_is : length (bytes_of to_write.file) ≡ size
  pub tables : List LiveTable
  pub files_are : map (λ (table : LiveTable). table.file) tables ≡ made_files made
  pub log_tables : AreLogTables store cmp (IsTableOf cmp meaning) files edits log tables
  pub fit : (table : LiveTable) → Contains tables table → FitsEdit table.file
  pub none_below : leaves ≡ false → AreLogsBelow store files (live_after edits) log []

-- ---- numbers

less_below : (m n : ℕ) (o : Ordering) → o ≡ nat_cmp m n → o ≡ Less → m < n
less_below m n Less e f = ranked m n Less e
less_below m n Equal e f = absurd cc
less_below m n Greater e f = absurd cc

abbrev number_of : ReplayedLog → ℕ
number_of log = log.number

-- logs whose numbers are in order rise
rising_logs : (logs : List ReplayedLog) → IsStrictlySortedBy nat_cmp (map number_of logs)
    → LogsRise logs
rising_logs [] sorted = tt
rising_logs (log ∷ logs) sorted = (
  λ later c. less_below log.number later.number (nat_cmp log.number later.number) refl
      (All-contains (λ n. nat_cmp log.number n ≡ Less) (map number_of logs) later.number
      (All-after_first nat_cmp log.number (map number_of logs) sorted)
      (map_in number_of logs later c)),
  rising_logs logs (sorted_tail nat_cmp log.number (map number_of logs) sorted),
)

-- the last number of edits is one that an entry can have
last_fits_after : (edits : List Edit) (o : Option ℕ) (n : ℕ)
    → IfSome o (λ k. k ≤ greatest_sequence) → LastNumbersFit edits
    → last_or o (filter_map (λ (edit : Edit). edit.last_sequence) edits) ≡ Some n
    → n ≤ greatest_sequence
last_fits_after [] None n fits each is = absurd (cc)
last_fits_after [] (Some k) n fits each is = let e = some_is k n is in omega (arith, fits, e)
last_fits_after (edit ∷ edits) o n fits each is = by
    (λ x fits. last_fits_after edits x n fits
    (λ other k c. each other k (in_rest edit other edits c))) edit.last_sequence refl is
  where
    by : ((x : Option ℕ) → IfSome x (λ k. k ≤ greatest_sequence)
        → last_or x (filter_map (λ (edit : Edit). edit.last_sequence) edits) ≡ Some n
        → n ≤ greatest_sequence) → (x : Option ℕ) → edit.last_sequence ≡ x
        → last_or o (cons_option x (filter_map (λ (edit : Edit). edit.last_sequence) edits))
        ≡ Some n → n ≤ greatest_sequence
    by rest None e last = rest o fits last
    by rest (Some k) e last = rest (Some k) (each edit k (in_front edit edits) e) last

-- so is the greatest number of batches in order
greatest_in_order : (low : ℕ) (batches : List Batch) → AreInOrder low batches
    → greatest (all_entries batches) ≤ greatest_sequence
greatest_in_order low [] order = omega arith
greatest_in_order low (batch ∷ batches) order =
    let here = order.2 in
    let rest = greatest_in_order (max low (greatest (batch_entries batch))) batches order.3 in
    let both = greatest_append (batch_entries batch) (all_entries batches) in
    omega (arith, here, rest, both)

-- ---- paths

apart_is : (a b : List ℕ) → bytes_eq a b ≡ false → a ≢ b
apart_is a b apart same =
    let never : true ≡ false = sym ((bytes_decides a b).1 same) ∙ apart in cc

-- ---- after the replay

module _ {C : Type 0} (store : List ℕ) (cmp : List ℕ → List ℕ → Ordering) (meaning : Meaning)
    (contents : Contents) (set set1 : VersionSetValue) (numbers : List ℕ) (files files1 : Files)
    (r : IsRecoveredWith store cmp meaning contents set numbers files)
    (by1 : IsRecoveredBy store cmp (IsTableOf cmp meaning) files1 r.edits set1)
    (next_fits : set1.next_file < 2 ^ 64) (replay : Replay C)
    (h : HasReplayedLogs cmp meaning set files numbers replay set1 files1)
    (from_log : IfSome replay.used (λ used. set.log_number ≤ used.number)) where
  abbrev T : List ℕ → List Pair → Type 0
  T = IsTableOf cmp meaning

  abbrev live : FileSet
  live = live_after r.edits

  path_is : set.store ≡ store
  path_is = r.by.tracked.store_is

  in_numbers : (log : ReplayedLog) → Contains h.logs log → Contains numbers log.number
  in_numbers log c =
      subst (λ ns. Contains ns log.number) h.are_logs.numbers_are (map_in number_of h.logs log c)

  -- the logs are all that are replayed
  has_logs : HasLogs store files live h.logs
  has_logs = record {
    each = λ log c. let n = r.each log.number (in_numbers log c) in
        (subst (λ s. HasLog s files log) path_is (h.are_logs.each log c), n.1, n.0);
    all = λ name n is replayed some. (
      (r.managed.has_logs.all name n is replayed some).0,
      in_map number_of h.logs n (subst (λ ns. Contains ns n) (sym h.are_logs.numbers_are)
          (r.all name n is replayed some)),
    );
    rising = rising_logs h.logs
        (subst (IsStrictlySortedBy nat_cmp) (sym h.are_logs.numbers_are) r.rising);
  }

  logs_are : h.logs ≡ r.managed.logs
  logs_are = one_rising h.logs r.managed.logs has_logs.rising r.managed.has_logs.rising
      (logs_in store cmp T (one_reading_of cmp meaning) files live h.logs r.managed.logs has_logs
      r.managed.has_logs)
      (logs_in store cmp T (one_reading_of cmp meaning) files live r.managed.logs h.logs
      r.managed.has_logs has_logs)

  -- the last number is the manifest's or a log's
  manifest_last : r.managed.last ≡ set.last_sequence
  manifest_last = some_is r.managed.last set.last_sequence (sym r.managed.last_is ∙ r.last)

  last_is : contents.last ≡ max set.last_sequence replay.last
  last_is = ap (λ (c : Contents). c.last) r.managed.is
      ∙ ap (λ n. max n (greatest (log_entries r.managed.logs))) manifest_last
      ∙ ap (λ logs. max set.last_sequence (greatest (log_entries logs))) (sym logs_are)
      ∙ ap (λ n. max set.last_sequence n) (sym h.last_is)

  last_fits : max set.last_sequence replay.last ≤ greatest_sequence
  last_fits =
      let manifest = last_fits_after r.edits None set.last_sequence tt r.managed.numbers_fit
      r.last in
      let logs = greatest_in_order 0 (log_batches h.logs) h.are_logs.in_order in
      let same = h.last_is in
      omega (arith, manifest, logs, same)

  -- ---- what stays

  unmoved : (path : List ℕ)
      → ((n : ℕ) → set.next_file ≤ n → n < set1.next_file → path ≢ table_path store n)
      → files1 path ≡ files path
  unmoved path others = h.same path
      (λ n least less fits is. others n least less (is ∙ ap (λ s. table_path s n) path_is))

  same_log : (name : List ℕ) (n : ℕ) → IsFileName name n Log
      → files1 (in_folder store name) ≡ files (in_folder store name)
  same_log name n is = unmoved (in_folder store name)
      (λ k least less. apart_is (in_folder store name) (table_path store k)
      (kinds_apart store name (file_name Table k) n k Log Table is
      (made_name Table k (omega (arith, less, next_fits))) (λ e. cc)))

  same_table : (k : ℕ) → k < 2 ^ 64 → k < set.next_file
      → files1 (table_path store k) ≡ files (table_path store k)
  same_table k fits below = unmoved (table_path store k)
      (λ n least less. apart_is (table_path store k) (table_path store n)
      (numbers_apart store (file_name Table k) (file_name Table n) k n Table Table
      (made_name Table k fits) (made_name Table n (omega (arith, less, next_fits)))
      (λ e. omega (arith, e, below, least))))

  live_below : (file : NewFile) → file.number < 2 ^ 64
      → live.file (level_file file) ≡ Some file → file.number < set.next_file
  live_below file fits is = live_is_below store cmp T files r.edits set r.by.tracked file fits is

  managed1 : IsManagedBy store cmp T files1 r.edits contents
  managed1 = managed_on store cmp T files files1 r.edits contents (record {
    tables = λ file fits is. same_bytes (files (table_path store file.number))
        (files1 (table_path store file.number))
        (same_table file.number fits (live_below file fits is));
    logs = λ name n is replayed. same_bytes (files (in_folder store name))
        (files1 (in_folder store name)) (same_log name n is);
  }) r.managed

  has_logs1 : HasLogs store files1 live h.logs
  has_logs1 = logs_still store cmp T files files1 live h.logs
      (λ name n is replayed. same_bytes (files (in_folder store name))
      (files1 (in_folder store name)) (same_log name n is)) has_logs

  -- ---- the set

  set1_last : set1.last_sequence ≡ set.last_sequence
  set1_last = ap (λ (v : VersionSetValue). v.last_sequence) h.gives.set

  set1_log : set1.log_number ≡ set.log_number
  set1_log = ap (λ (v : VersionSetValue). v.log_number) h.gives.set

  abbrev numbered : VersionSetValue
  numbered = record set1 { last_sequence = max set1.last_sequence replay.last }

  log_from : (used : Option (UsedLog C)) → IfSome used (λ it. set.log_number ≤ it.number)
      → IfSome used (λ it. numbered.log_number ≤ it.number)
  log_from None from = tt
  log_from (Some used) from = omega (arith, from, set1_log)

  pub replayed_files : IsReplayedWith store cmp meaning contents replay.used replay.leaves_log
      replay.tables.items numbered files1
  replayed_files = record {
    edits = r.edits;
    by = recovered_numbered store cmp T files1 r.edits set1 by1 numbered.last_sequence
        (omega arith);
    managed = managed1;
    last = last_is ∙ ap (λ n. max n replay.last) (sym set1_last);
    last_fits = omega (arith, last_fits, set1_last);
    next_fits = next_fits;
    log_below = omega (arith, r.log_below, set1_log, h.gives.rises);
    logs = h.logs;
    has_logs = has_logs1;
    tables = h.tables;
    files_are = h.files_are;
    each = λ table c.
        subst (λ s. IsMadeTable cmp meaning s files1 table) path_is (h.made_tables.each table c);
    above = λ table file c fits is.
        let least = (h.made_tables.numbers table c).0 in
        let below = live_below file fits is in
        omega (arith, least, below);
    rising = h.made_tables.rising;
    tables_made = h.tables_made;
    stays = h.leaves;
    from_log = log_from replay.used from_log;
  }

module _ {E F : Type 0} (env : Ghosts E F) (modelled : IsTrue env.models_disk)
    (store : List ℕ) (cmp : List ℕ → List ℕ → Ordering) (meaning : Meaning)
    (contents : Contents) (set set1 : VersionSetValue) (numbers : List ℕ) (from to : E)
    (r : IsRecoveredWith store cmp meaning contents set numbers (env.observed from).disk.files)
    (makes : MakesTablesOnly env set from set1 to) where
  kept : IsRecoveredBy store cmp (IsTableOf cmp meaning) (env.observed to).disk.files r.edits set1
      × ((allowed : Store → Bool) (bound : ℕ)
      → Run (KeepsHistory store cmp (IsTableOf cmp meaning) (λ it. IsTrue (allowed it)) bound
      (env.observed from).disk.files) (env.observed from) (env.observed to))
  kept = (subst (λ s. (edits : List Edit)
      → IsRecoveredBy s cmp (IsTableOf cmp meaning) (env.observed from).disk.files edits set
      → IsRecoveredBy s cmp (IsTableOf cmp meaning) (env.observed to).disk.files edits set1
      × ((allowed : Store → Bool) (bound : ℕ)
      → Run (KeepsHistory s cmp (IsTableOf cmp meaning) (λ it. IsTrue (allowed it)) bound
      (env.observed from).disk.files) (env.observed from) (env.observed to)))
      r.by.tracked.store_is (makes.keeps modelled cmp meaning)) r.edits r.by

  -- while logs are replayed, each history is kept
  pub replaying_keeps : (allowed : Store → Bool) (bound : ℕ)
      → Run (KeepsHistory store cmp (IsTableOf cmp meaning) (λ it. IsTrue (allowed it)) bound
      (env.observed from).disk.files) (env.observed from) (env.observed to)
  replaying_keeps allowed bound = kept.1 allowed bound

  -- and then they are in tables and in memory
  pub replayed_recovered : {C : Type 0} (replay : Replay C)
      → HasReplayedLogs cmp meaning set (env.observed from).disk.files numbers replay set1
      (env.observed to).disk.files
      → IfSome replay.used (λ used. set.log_number ≤ used.number) → (now : VersionSetValue)
      → now ≡ record set1 { last_sequence = max set1.last_sequence replay.last }
      → IsReplayedWith store cmp meaning contents replay.used replay.leaves_log
      replay.tables.items now (env.observed to).disk.files
  replayed_recovered replay h from_log now is =
      subst (λ v. IsReplayedWith store cmp meaning contents replay.used replay.leaves_log
      replay.tables.items v (env.observed to).disk.files) (sym is)
      (replayed_files store cmp meaning contents set set1 numbers (env.observed from).disk.files
      (env.observed to).disk.files r kept.0 (makes.fits r.next_fits) replay h from_log)

-- ---- the log to write

-- what is there isn't missing
there_is : {A : Type 0} (found : Option A) (a : A) → found ≡ Some a → found ≢ None
there_is found a there gone = let never : Some a ≡ None = sym there ∙ gone in cc

-- of the logs that are replayed, those below a number
logs_below : (store : List ℕ) (files : Files) (set : FileSet) (logs : List ReplayedLog)
    → HasLogs store files set logs → (log : ℕ) → log < 2 ^ 64
    → ((n : ℕ) → n < log → LogIsReplayed set n → IsKept (files (log_path store n)))
    → (taken : List ReplayedLog)
    → ((one : ReplayedLog) → Contains taken one → Contains logs one × (one.number < log))
    → ((one : ReplayedLog) → Contains logs one → one.number < log → Contains taken one)
    → AreLogsBelow store files set log taken
logs_below store files set logs has log fits kept taken among all = record {
  each = λ one c. let a = among one c in let h = has.each one a.0 in (h.0, h.1, a.1, h.2);
  all = λ n less replayed some.
      let x = (has.all (file_name Log n) n (made_name Log n (omega (arith, less, fits))) replayed
      some).1 in
      (x.0, all x.0 x.1 (subst (λ k. k < log) (sym x.2) less), x.2);
  kept = kept;
}

module _ {C : Type 0} (store : List ℕ) (cmp : List ℕ → List ℕ → Ordering) (meaning : Meaning)
    (contents : Contents) (leaves : Bool) (made : List FileMetaData) (set : VersionSetValue)
    (files : Files) where
  -- ---- one is used on

  module _ (used : UsedLog C)
      (h : IsReplayedWith store cmp meaning contents (Some used) leaves made set files) where
    abbrev front : List ReplayedLog
    front = h.tables_made.0

    abbrev last : ReplayedLog
    last = h.tables_made.1

    split : h.logs ≡ front ++ last ∷ []
    split = h.tables_made.2

    number : last.number ≡ used.number
    number = h.tables_made.3

    last_in : Contains h.logs last
    last_in = subst (λ logs. Contains logs last) (sym split) (Contains-push front last)

    abbrev has_last : HasLog store files last
    has_last = (h.has_logs.each last last_in).0

    log_fits : used.number < 2 ^ 64
    log_fits = subst (λ n. n < 2 ^ 64) number (h.has_logs.each last last_in).2

    log_there : files (log_path store used.number) ≡ Some has_last.0
    log_there = subst (λ n. files (log_path store n) ≡ Some has_last.0) number has_last.1

    front_less : (one : ReplayedLog) → Contains front one → one.number < used.number
    front_less one c =
        let less = above_before front last [] (subst LogsRise split h.has_logs.rising) one c in
        omega (arith, less, number)

    front_or_last : (one : ReplayedLog) → Contains h.logs one → Contains front one ⊎ (last ≡ one)
    front_or_last one c =
        Contains-push_cases front last one (subst (λ logs. Contains logs one) split c)

    most : (one : ReplayedLog) → Contains h.logs one → one.number ≤ used.number
    most one c = ⊎_elim
        (λ (before : Contains front one). let less = front_less one before in omega (arith, less))
        (λ (is : last ≡ one). let same = ap number_of is in omega (arith, same, number))
        (front_or_last one c)

    kept_below : (n : ℕ) → n < used.number → LogIsReplayed (live_after h.edits) n
        → IsKept (files (log_path store n))
    kept_below n less replayed =
        h.by.kept.logs (file_name Log n) n (made_name Log n (omega (arith, less, log_fits))) replayed

    abbrev used_to_write : IsLogToWrite store files set used.number used.entries.kept.entries
    used_to_write = record {
      fits = log_fits;
      from_log = h.from_log;
      greatest = λ name n is some. ⊎_elim
          (λ (less : n < set.log_number). let from = h.from_log in omega (arith, less, from))
          (λ (least : set.log_number ≤ n).
          let one = (h.has_logs.all name n is
          (inl (set.log_number, h.by.tracked.tracks.left.log_number, least)) some).1 in
          let at_most = most one.0 one.1 in let same = one.2 in omega (arith, at_most, same))
          (cases_lt n set.log_number);
      file = has_last.0;
      there = log_there;
      records = has_last.2.records;
      clean_end = subst (λ e. IsLogFile (bytes_of has_last.0) has_last.2.records e) h.tables_made.4
          has_last.2.read;
      batches = last.batches;
      each = has_last.2.each;
      mem_is = h.tables_made.6;
    }

    used_tables : AreLogTables store cmp (IsTableOf cmp meaning) files h.edits used.number h.tables
    used_tables = record {
      each = λ table c. let m = h.each table c in (m.0, m.1, m.2);
      above = h.above;
      rising = h.rising;
      taken = front;
      has_taken = logs_below store files (live_after h.edits) h.logs h.has_logs used.number
          log_fits kept_below front
          (λ one c. (
            subst (λ logs. Contains logs one) (sym split)
                (Contains-append_left front (last ∷ []) one c),
            front_less one c,
          ))
          (λ one c less. ⊎_elim
          (λ (before : Contains front one). before)
          (λ (is : last ≡ one).
          let same = ap number_of is in absurd (omega (arith, same, number, less)))
          (front_or_last one c));
      entries = h.tables_made.7;
    }

    pub used_open : HasLogOpen store cmp meaning contents leaves made set used.number used.size
        used.entries.kept.entries files
    used_open = record {
      edits = h.edits;
      by = h.by;
      managed = h.managed;
      last = h.last;
      last_fits = h.last_fits;
      next_fits = h.next_fits;
      to_write = used_to_write;
      size_is = sym has_last.2.size ∙ h.tables_made.5;
      tables = h.tables;
      files_are = h.files_are;
      log_tables = used_tables;
      fit = λ table c. (h.each table c).3;
      none_below = λ none. logs_below store files (live_after h.edits) h.logs h.has_logs
          used.number log_fits kept_below []
          (λ one c. absurd (in_none one c))
          (λ one c less.
          let same = ((h.stays none).1 one c).0 in absurd (omega (arith, same, less)));
    }

    pub used_created : created (log_path store used.number) files ≡ files
    used_created =
        let path = log_path store used.number in
        ap (λ o. with_file path o files) (ap or_empty log_there ∙ sym log_there)
        ∙ with_file-itself path files

  -- ---- a new one is made

  module _ (h : IsReplayedWith {C = C} store cmp meaning contents None leaves made set files)
    where
      abbrev n : ℕ
      n = set.next_file

      abbrev path : List ℕ
      path = log_path store n

      abbrev later : Files
      later = emptied path files

      above_logs : IsAboveLogs store files n
      above_logs name k is some = h.by.tracked.numbers name k Log is some

      has_current : files (current_path store) ≢ None
      has_current = there_is (files (current_path store)) h.by.tracked.has_edits.current
          h.by.tracked.has_edits.current_there

      pub new_keeps : (allowed : Store → Type 0) (bound : ℕ) (at : Files)
          → BeforeOrAfter (emptied path) files at
          → KeepsHistory store cmp (IsTableOf cmp meaning) allowed bound files at
      new_keeps allowed bound at passes =
          new_log_keeps store cmp (IsTableOf cmp meaning) allowed files n h.next_fits above_logs
          has_current
          (next_is_free store cmp (IsTableOf cmp meaning) files h.edits set h.by.tracked Log n
          (omega arith) h.next_fits) bound at (inr passes)

      module _ (more : n + 1 < 2 ^ 64) where
        then : IsRecoveredBy store cmp (IsTableOf cmp meaning) later h.edits (with_number_given set)
        then = recovered_after_new_log store cmp (IsTableOf cmp meaning) files h.edits set h.by more
            later (inr (inr refl))

        same : SameBut path files later
        same = SameBut-emptied path files later (inr refl)

        same_below : (k : ℕ) → k < n → later (log_path store k) ≡ files (log_path store k)
        same_below k less = same (log_path store k)
            (logs_apart store n k h.next_fits (omega (arith, less, h.next_fits))
            (λ e. omega (arith, e, less)))

        below : (one : ReplayedLog) → Contains h.logs one → one.number < n
        below one c =
            let has = h.has_logs.each one c in
            above_logs (file_name Log one.number) one.number (made_name Log one.number has.2)
            (there_is (files (log_path store one.number)) has.0.0 has.0.1)

        -- the logs below it are those that were there
        below_it : (taken : List ReplayedLog)
            → ((one : ReplayedLog) → Contains taken one → Contains h.logs one)
            → ((one : ReplayedLog) → Contains h.logs one → Contains taken one)
            → AreLogsBelow store later (live_after h.edits) n taken
        below_it taken among all = record {
          each = λ one c.
              let has = h.has_logs.each one (among one c) in
              let less = below one (among one c) in (
                log_on store cmp (IsTableOf cmp meaning) files later one
                    (same_bytes (files (log_path store one.number)) (later (log_path store one.number))
                    (same_below one.number less)) has.0,
                has.1,
                less,
                has.2,
              );
          all = λ k less replayed some.
              let x = (h.has_logs.all (file_name Log k) k
              (made_name Log k (omega (arith, less, h.next_fits))) replayed
              (λ gone. some (same_below k less ∙ gone))).1 in
              (x.0, all x.0 x.1, x.2);
          kept = λ k less replayed. then.kept.logs (file_name Log k) k
              (made_name Log k (omega (arith, less, h.next_fits))) replayed;
        }

        abbrev new_to_write : IsLogToWrite store later (with_number_given set) n []
        new_to_write = record {
          fits = h.next_fits;
          from_log = h.log_below;
          greatest = λ name k is some.
              let less = then.tracked.numbers name k Log is some in omega (arith, less);
          file = kept_file [];
          there = at_same path (Some (kept_file [])) files;
          records = [];
          clean_end = refl;
          batches = [];
          each = tt;
          mem_is = λ entry. (λ c. c, λ c. c);
        }

        table_same : (k : ℕ) → later (table_path store k) ≡ files (table_path store k)
        table_same k = same (table_path store k) (log_is_no_table store n k)

        new_tables : AreLogTables store cmp (IsTableOf cmp meaning) later h.edits n h.tables
        new_tables = record {
          each = λ table c.
              let m = h.each table c in
              let at = table.file.number in (
                table_on store cmp (IsTableOf cmp meaning) files later table
                    (same_bytes (files (table_path store at)) (later (table_path store at))
                    (table_same at)) m.0,
                m.1,
                subst IsKept (sym (table_same at)) m.2,
              );
          above = h.above;
          rising = h.rising;
          taken = h.logs;
          has_taken = below_it h.logs (λ one c. c) (λ one c. c);
          entries = h.tables_made;
        }

        pub new_open : HasLogOpen store cmp meaning contents leaves made (with_number_given set) n 0
            [] later
        new_open = record {
          edits = h.edits;
          by = then;
          managed = with_new_log store cmp (IsTableOf cmp meaning) files h.edits contents h.managed n
              h.next_fits above_logs;
          last = h.last;
          last_fits = h.last_fits;
          next_fits = more;
          to_write = new_to_write;
          size_is = refl;
          tables = h.tables;
          files_are = h.files_are;
          log_tables = new_tables;
          fit = λ table c. (h.each table c).3;
          none_below = λ none. below_it [] (λ one c. absurd (in_none one c))
              (λ one c. let never : false ≡ true = ((h.stays none).1 one c).1 in absurd (cc));
        }

  -- ---- either way

  -- while the log is opened, each history is kept
  pub log_opening_keeps : (used : Option (UsedLog C))
      → IsReplayedWith store cmp meaning contents used leaves made set files
      → (allowed : Store → Type 0) (bound : ℕ) (now : Files)
      → BeforeOrAfter (files_to_write used store set.next_file) files now
      → KeepsHistory store cmp (IsTableOf cmp meaning) allowed bound files now
  log_opening_keeps None h allowed bound now passes = new_keeps h allowed bound now passes
  log_opening_keeps (Some used) h allowed bound now passes =
      let is : now ≡ files = ⊎_elim (λ (is : now ≡ files). is)
      (λ (is : now ≡ created (log_path store used.number) files). is ∙ used_created used h)
      passes in
      subst (KeepsHistory store cmp (IsTableOf cmp meaning) allowed bound files) (sym is)
      (KeepsHistory-refl files)

  -- and then it may be written
  pub log_opened : (used : Option (UsedLog C))
      → IsReplayedWith store cmp meaning contents used leaves made set files
      → IfNone used (set.next_file + 1 < 2 ^ 64) → (now : Files)
      → now ≡ files_to_write used store set.next_file files
      → HasLogOpen store cmp meaning contents leaves made (set_to_write used set)
      (number_to_write used set.next_file) (size_to_write used) (entries_to_write used) now
  log_opened None h more now is =
      subst (HasLogOpen store cmp meaning contents leaves made (with_number_given set)
      set.next_file 0 []) (sym is) (new_open h more)
  log_opened (Some used) h more now is =
      subst (HasLogOpen store cmp meaning contents leaves made set used.number used.size
      used.entries.kept.entries) (sym (is ∙ used_created used h)) (used_open used h)
