-- What a switch of the log makes of an open store, and that the store is written on.
use Rattle.std.proofs.Common.{◌≡◌, ◌∙◌, ◌∷◌, ◌++◌, ◌+◌, ◌-◌, ◌^◌, ◌<◌, ◌≤◌, ◌%◌, inl, inr, ⊎_elim, ℕ, Bool, true, false, List, [], None, Some, Ok, Err, Result, ap, append-nil, arith, drop, get_or, length, length-append, refl, subst, sym}
use Rattle.std.specs.Prelude.{◌≢◌, All, Contains, IsTrue, codes, slice_index_or}
use Rattle.std.specs.Cmp.Lexicographic.{bytes_decides}
use Rattle.std.specs.Str.{bytes_eq}
use Rattle.std.specs.declared.cmp.Ordering.{Ordering}
use Rattle.std.proofs.lemmas.List.{append_cancel_left}
use Rattle.std.proofs.lemmas.List.Elements.{All-contains_itself}
use Rattle.leveldb_base.proofs.HistoryLemmas.{in_none}
use Rattle.leveldb_base.proofs.EntriesLemmas.{map_in}
use Rattle.leveldb_base.proofs.NamesLemmas.{made_name, made_paths_apart}
use Rattle.leveldb_base.specs.Error.{IsOutOfMemory}
use Rattle.leveldb_base.specs.History.{Entry, History, SameView, entries_of, greatest}
use Rattle.leveldb_base.specs.Layers.{IsOlder}
use Rattle.leveldb_base.specs.Names.{file_name, six_digits}
use Rattle.leveldb_base.specs.Types.{Pair}
use Rattle.leveldb_base.specs.declared.error.Status.{Status}
use Rattle.leveldb_base.specs.declared.types.FileType.TheVariants.{Log, Table}
use Rattle.leveldb_env.proofs.EnvLemmas.{Run-call, Run-mono, SameBut-emptied, SameBut-synced, at_same, begun, bytes_eq-apart, call, cause_same, synced-same}
use Rattle.leveldb_env.specs.Env.{BeforeOrAfter, ChangesFiles, File, Files, HasCause, Observed, Run, SameBut, SameLocks, bytes_of, emptied, file_kept, kept_file, synced}
use Rattle.leveldb_env.specs.declared.env.Env.{Ghosts}
use Rattle.leveldb_mem.specs.Log.{log_block_size}
use Rattle.leveldb_mem.specs.Log.Writer.{IsWriterBroken, WriterState, broken_writer, new_writer}
use Rattle.leveldb_files.proofs.Steps.KeepsLemmas.{sync_keeps}
use Rattle.leveldb_version_set.proofs.Sets.LogKeepsLemmas.{keeps_then}
use Rattle.leveldb_files.proofs.Histories.SafeLemmas.{some_is}
use Rattle.leveldb_version_set.proofs.Engines.ShownLemmas.{same_memory_shows}
use Rattle.leveldb_version_set.proofs.Engines.SwitchLogLemmas.{new_log_written}
use Rattle.leveldb_version_set.proofs.Engines.WrittenLemmas.{written_given, written_synced}
use Rattle.leveldb_version_set.specs.Sets.CurrentVersion.{VersionsValue}
use Rattle.leveldb_files.specs.Stores.Contents.{Store}
use Rattle.leveldb_files.specs.Levels.Levels.{LiveTable, table_entries}
use Rattle.leveldb_files.specs.Stores.Paths.{log_path, table_path}
use Rattle.leveldb_files.specs.Stores.Store.{HasTable, SameEntries}
use Rattle.leveldb_files.specs.Steps.StoreSteps.{IsKept, KeepsHistory}
use Rattle.leveldb_files.specs.Edits.Edit.{Edit, NewFile}
use Rattle.leveldb_version_set.specs.Sets.VersionSetValue.{AreFileNumbersUsedUp, VersionSetValue, with_number_given}
use Rattle.leveldb_version_set.specs.Engines.Writing.{EngineMemory, IsWrittenBy, ShowsHistory, switched_memory}
use Rattle.leveldb_version_set.specs.Engines.WritingLaws.{NewLogIsWritten}
use Rattle.leveldb_files.specs.Stores.Format.{IsTableOf, Meaning}
use Rattle.leveldb_store.specs.Keeping.OpenStore.{OpenLogValue, OpenStoreValue}
use Rattle.leveldb_store.proofs.Keeping.KeptBytesLemmas.{kept_by_new, loses_syncing, spares_kept_none, spares_kept_then}
use Rattle.leveldb_store.specs.Keeping.KeptBytes.{IsKeptPath}
use Rattle.leveldb_store.proofs.Keeping.GivenTablesLemmas.{given_same}
use Rattle.leveldb_store.specs.Writing.Switch.{MayGiveNumber, SwitchesLog}
use Rattle.leveldb_store.specs.Writing.Write.{StaysOrBreaks, SyncsLog, open_log_path, with_writer}
use Rattle.leveldb_store.specs.Keeping.Written.{HasLiveTables, IsDataPath, IsWritten, KeepsStore, KeepsTables, HasView, SparesRest, memory_of, imm_entries}

-- ---- names

-- two texts with these extensions are apart
ends_apart : (these those : List ℕ) → these ++ codes ".log" ≡ those ++ codes ".ldb" → ⊥
ends_apart [] [] e = let third = ap (λ z. get_or z 2 0) e in omega (arith, third)
ends_apart [] (b ∷ those) e = let long = ap length e in omega (arith, long, length-append those (codes ".ldb"))
ends_apart (a ∷ these) [] e = let long = ap length e in omega (arith, long, length-append these (codes ".log"))
ends_apart (a ∷ these) (b ∷ those) e = ends_apart these those (ap (drop 1) e)

-- a log's path is no table's, whatever their numbers are
pub log_is_no_table : (store : List ℕ) (n k : ℕ) → bytes_eq (log_path store n) (table_path store k) ≡ false
log_is_no_table store n k = bytes_eq-apart (log_path store n) (table_path store k)
    (λ e. ends_apart (six_digits n) (six_digits k) (ap (drop 1) (append_cancel_left store (codes "/" ++ file_name Log n) (codes "/" ++ file_name Table k) e)))

-- logs of two numbers have two paths
pub logs_apart : (store : List ℕ) (n k : ℕ) → n < 2 ^ 64 → k < 2 ^ 64 → n ≢ k → bytes_eq (log_path store n) (log_path store k) ≡ false
logs_apart store n k fits other_fits differ = bytes_eq-apart (log_path store n) (log_path store k)
    (λ e. differ (made_paths_apart store n k Log Log fits other_fits e).0)

-- a change of a log changes nothing but data
pub others_stay : (store : List ℕ) (n : ℕ) → n < 2 ^ 64 → (before after : Files) → SameBut (log_path store n) before after → (path : List ℕ) → (IsDataPath store path → ⊥) → after path ≡ before path
others_stay store n fits before after same path other = by (bytes_eq (log_path store n) path) refl
  where
    by : (b : Bool) → bytes_eq (log_path store n) path ≡ b → after path ≡ before path
    by true e = absurd (other (Log, tt, (file_name Log n, n, made_name Log n fits, sym ((bytes_decides (log_path store n) path).0 e))))
    by false e = same path e

-- and no table
pub tables_same : (store : List ℕ) (n : ℕ) (before after : Files) → SameBut (log_path store n) before after → (k : ℕ) → after (table_path store k) ≡ before (table_path store k)
tables_same store n before after same k = same (table_path store k) (log_is_no_table store n k)

-- ---- what is shown

same_entries : (these those : List Entry) → these ≡ those → SameEntries these those
same_entries these those e = λ entry. (subst (λ es. Contains es entry) e, subst (λ es. Contains es entry) (sym e))

-- where there was no immutable memtable, the memtable may become it
waits_shown : (cmp : List ℕ → List ℕ → Ordering) (before after : EngineMemory) (tables : List LiveTable) (history : History) (from : ℕ) → before.imm ≡ [] → after.mem ≡ [] → after.imm ≡ before.mem
    → ShowsHistory cmp before tables history from → ShowsHistory cmp after tables history from
waits_shown cmp before after tables history from none empty waits s = record {
  same = λ t late. subst (λ es. SameView es (entries_of history) t) (sym all) (s.same t late);
  up_to = λ entry c. s.up_to entry (subst (λ es. Contains es entry) all c);
  imm_older = λ a b in_a in_b same_key. absurd (in_none b (subst (λ es. Contains es b) empty in_b));
  tables_older = subst (IsOlder (table_entries tables)) (sym memory) s.tables_older;
  levels = s.levels;
}
  where
    all : after.mem ++ (after.imm ++ table_entries tables) ≡ before.mem ++ (before.imm ++ table_entries tables)
    all = ap (λ es. es ++ (after.imm ++ table_entries tables)) empty ∙ ap (λ es. es ++ table_entries tables) waits ∙ ap (λ es. before.mem ++ (es ++ table_entries tables)) (sym none)

    memory : after.mem ++ after.imm ≡ before.mem ++ before.imm
    memory = ap (λ es. es ++ after.imm) empty ∙ waits ∙ sym (append-nil before.mem) ∙ ap (λ es. before.mem ++ es) (sym none)

module _ (cmp : List ℕ → List ℕ → Ordering) (meaning : Meaning) where
  abbrev IsTable : List ℕ → List Pair → Type 0
  IsTable = IsTableOf cmp meaning

  abbrev pub Keeps : (Store → Type 0) → List ℕ → ℕ → Files → Files → Type 0
  Keeps allowed store = KeepsHistory store cmp IsTable allowed

  pub keeps_same : (allowed : Store → Type 0) (store : List ℕ) (bound : ℕ) (files now : Files) → now ≡ files → Keeps allowed store bound files now
  keeps_same allowed store bound files now same = subst (Keeps allowed store bound files) (sym same) (record { now = λ history c. c; crash = λ durable history s. s })

  table_stays : (store : List ℕ) (before after : Files) (table : LiveTable) → after (table_path store table.file.number) ≡ before (table_path store table.file.number)
      → HasTable store cmp IsTable before table → HasTable store cmp IsTable after table
  table_stays store before after table same has = record {
    file = has.file;
    there = same ∙ has.there;
    pairs = has.pairs;
    read = has.read;
    each = has.each;
    size = has.size;
    smallest = has.smallest;
    largest = has.largest;
  }

module _ {C : Type 0} (cmp : List ℕ → List ℕ → Ordering) (meaning : Meaning) where
  -- the set has the same files, whose tables stay
  pub tables_stay : (old new : OpenStoreValue C) (before after : Files) (tables : List LiveTable) → new.set.store ≡ old.set.store → new.set.full ≡ old.set.full
      → ((file : NewFile) → Contains old.set.full.added file → after (table_path old.set.store file.number) ≡ before (table_path old.set.store file.number))
      → HasLiveTables cmp meaning old before tables → HasLiveTables cmp meaning new after tables
  tables_stay old new before after tables same_store same_full same has = record {
    files_are = has.files_are ∙ sym (ap (λ (e : Edit). e.added) same_full);
    each = subst (λ s. All (HasTable s cmp (IsTableOf cmp meaning) after) tables) (sym same_store)
        (λ k d here.
        let table = slice_index_or tables k d in
        let live : Contains old.set.full.added table.file = subst (λ files. Contains files table.file) has.files_are (map_in (λ (t : LiveTable). t.file) tables table (All-contains_itself tables k d here)) in
        table_stays cmp meaning old.set.store before after table (same table.file live) (has.each k d here));
  }

  -- what was shown is shown by the same memory where the tables stay
  pub shows_stay : (old new : OpenStoreValue C) (before after : Files) (history : History) (since : ℕ) → new.set.store ≡ old.set.store → new.set.full ≡ old.set.full
      → new.mem.entries ≡ old.mem.entries → imm_entries new.imm ≡ imm_entries old.imm
      → ((file : NewFile) → Contains old.set.full.added file → after (table_path old.set.store file.number) ≡ before (table_path old.set.store file.number))
      → HasView cmp meaning old before history since → HasView cmp meaning new after history since
  shows_stay old new before after history since same_store same_full mem imm same s = record {
    tables = s.tables;
    has = tables_stay old new before after s.tables same_store same_full same s.has;
    shows = same_memory_shows cmp (memory_of old) (memory_of new) s.tables history since
        (same_entries old.mem.entries new.mem.entries (sym mem)) (same_entries (imm_entries old.imm) (imm_entries new.imm) (sym imm)) s.shows;
  }

  -- ---- what is written

  -- the files are written with these, where the writer is at the log's end
  pub written_as : (value : OpenStoreValue C) (files : Files) (edits : List Edit) → IsWrittenBy value.set.store cmp (IsTableOf cmp meaning) files edits (memory_of value) → (file : File)
      → files (open_log_path value) ≡ Some file → value.log.writer ≡ new_writer log_block_size (length (bytes_of file) % log_block_size) → IsWritten cmp meaning value files
  written_as value files edits by file there writer = record {
    edits = edits;
    by = by;
    writer = writer ∙ ap (λ (f : File). new_writer log_block_size (length (bytes_of f) % log_block_size))
        (some_is file by.writable.log.file (sym there ∙ subst (λ n. files (log_path value.set.store n) ≡ Some by.writable.log.file) by.log_is by.writable.log.there));
  }

  module _ (allowed : Store → Type 0) where
    module _ (old : OpenStoreValue C) where
      -- the store with the next number given
      abbrev pub given : OpenStoreValue C
      given = record old { set = with_number_given old.set }

      abbrev store : List ℕ
      store = old.set.store

      abbrev path : List ℕ
      path = open_log_path old

      abbrev next_path : List ℕ
      next_path = log_path store old.set.next_file

      -- the value after a switch
      pub record IsSwitched (new : OpenStoreValue C) : Type 0 where
        pub set : new.set ≡ with_number_given old.set
        pub log : new.log ≡ record { number = old.set.next_file; writer = new_writer log_block_size 0 }
        pub mem : new.mem.entries ≡ []
        pub imm : new.imm ≡ Some old.mem

      module _ (from : Observed) (w : IsWritten cmp meaning old from.disk.files) where
        abbrev first : Files
        first = from.disk.files

        abbrev log_file : File
        log_file = w.by.writable.log.file

        fits : old.log.number < 2 ^ 64
        fits = subst (λ n. n < 2 ^ 64) w.by.log_is w.by.writable.log.fits

        there : first path ≡ Some log_file
        there = subst (λ n. first (log_path store n) ≡ Some log_file) w.by.log_is w.by.writable.log.there

        less : old.log.number < old.set.next_file
        less = w.by.tracked.numbers (file_name Log old.log.number) old.log.number Log (made_name Log old.log.number fits) (λ gone. let never : Some log_file ≡ None = sym there ∙ gone in cc)

        -- ---- no call

        written_given_there : IsWritten cmp meaning given first
        written_given_there = written_as given first w.edits (written_given store cmp (IsTableOf cmp meaning) first w.edits (memory_of old) w.by) log_file there w.writer

        pub keeps_given : KeepsStore cmp meaning allowed old from given from
        keeps_given = record {
          moments = λ bound reached. begun from (keeps_same cmp meaning allowed store bound first first refl);
          written = λ unbroken. written_given_there;
          shows = λ history since s. shows_stay old given first first history since refl refl refl refl (λ file live. refl) s;
        }

        -- ---- the log is synced

        sync_passes : (bound : ℕ) (files : Files) → BeforeOrAfter (synced path) first files → Keeps cmp meaning allowed store bound first files
        sync_passes bound files (inl same) = keeps_same cmp meaning allowed store bound first files same
        sync_passes bound files (inr is) = subst (Keeps cmp meaning allowed store bound first) (sym is) (sync_keeps store cmp (IsTableOf cmp meaning) allowed path first (λ file here. w.by.tracked.bytes path file here) bound)

        module _ {models_disk : Bool} (modelled : IsTrue models_disk) where
          sync_run : {mid : Observed} {result : Result (Unit {0}) Status} → ChangesFiles models_disk (synced path) (BeforeOrAfter (synced path)) from mid result
              → (bound : ℕ) → Run (Keeps cmp meaning allowed store bound first) from mid
          sync_run does bound = Run-mono (sync_passes bound) (Run-call modelled does)

          -- a sync that failed
          pub keeps_unsynced : (to : Observed) (status : Status) → ChangesFiles {T = Unit {0}} models_disk (synced path) (BeforeOrAfter (synced path)) from to (Err status) → to.disk.files ≡ first
              → (writer : WriterState) → (writer.broken ≡ false → writer ≡ old.log.writer) → KeepsStore cmp meaning allowed old from (with_writer given writer) to
          keeps_unsynced to status does undone writer usable = record {
            moments = λ bound reached. sync_run does bound;
            written = λ unbroken. subst (IsWritten cmp meaning (with_writer given writer)) (sym undone)
                (subst (λ it. IsWritten cmp meaning (with_writer given it) first) (sym (usable unbroken.log)) written_given_there);
            shows = λ history since s. shows_stay old (with_writer given writer) first to.disk.files history since refl refl refl refl (λ file live. ap (λ (f : Files). f (table_path store file.number)) undone) s;
          }

          -- ---- and a log is made

          module _ (mid to : Observed) (syncing : ChangesFiles {T = Unit {0}} models_disk (synced path) (BeforeOrAfter (synced path)) from mid (Ok tt)) {T : Type 0} (result : Result T Status)
              (opening : ChangesFiles models_disk (emptied next_path) (BeforeOrAfter (emptied next_path)) mid to result) (more : old.set.next_file + 1 < 2 ^ 64) where
            abbrev second : Files
            second = mid.disk.files

            synced_is : second ≡ synced path first
            synced_is = syncing.ok modelled

            written_second : IsWrittenBy store cmp (IsTableOf cmp meaning) second w.edits (memory_of old)
            written_second = subst (λ f. IsWrittenBy store cmp (IsTableOf cmp meaning) f w.edits (memory_of old)) (sym synced_is) (written_synced store cmp (IsTableOf cmp meaning) first w.edits (memory_of old) w.by)

            made : (files : Files) → BeforeOrAfter (emptied next_path) second files → NewLogIsWritten store cmp (IsTableOf cmp meaning) allowed second w.edits (memory_of old) files
            made files passes = new_log_written store cmp (IsTableOf cmp meaning) second w.edits (memory_of old) written_second more files passes allowed

            run : (bound : ℕ) → Run (Keeps cmp meaning allowed store bound first) from to
            run bound = call modelled (sync_run syncing bound)
                (λ files passes. keeps_then store cmp (IsTableOf cmp meaning) allowed bound first second files (sync_run syncing bound).has ((made files passes).keeps bound)) opening

            kept_second : second path ≡ Some (file_kept log_file)
            kept_second = ap (λ (f : Files). f path) synced_is ∙ synced-same path first log_file there

            tables_then : (file : NewFile) → to.disk.files (table_path store file.number) ≡ first (table_path store file.number)
            tables_then file = tables_same store old.set.next_file second to.disk.files (SameBut-emptied next_path second to.disk.files (opening.now modelled)) file.number
                ∙ tables_same store old.log.number first second (SameBut-synced path first second (syncing.now modelled)) file.number

            -- the log's file wasn't made
            pub keeps_unmade : KeepsStore cmp meaning allowed old from given to
            keeps_unmade = record {
              moments = λ bound reached. run bound;
              written = λ unbroken. written_as given to.disk.files w.edits (made to.disk.files (opening.now modelled)).stays (file_kept log_file)
                  (SameBut-emptied next_path second to.disk.files (opening.now modelled) path (logs_apart store old.set.next_file old.log.number (omega (arith, more)) fits (λ same. omega (arith, same, less))) ∙ kept_second)
                  (w.writer ∙ ap (λ (b : List ℕ). new_writer log_block_size (length b % log_block_size)) (sym (append-nil (bytes_of log_file))));
              shows = λ history since s. shows_stay old given first to.disk.files history since refl refl refl refl (λ file live. tables_then file) s;
            }

            -- the log was switched
            pub keeps_switched : (new : OpenStoreValue C) → IsSwitched new → old.imm ≡ None → to.disk.files ≡ emptied next_path second → KeepsStore cmp meaning allowed old from new to
            keeps_switched new switched none made_is = record {
              moments = λ bound reached. run bound;
              written = λ unbroken. written_as new to.disk.files w.edits (subst (λ (m : EngineMemory). IsWrittenBy m.set.store cmp (IsTableOf cmp meaning) to.disk.files w.edits m) memory_is by_new) (kept_file [])
                  (ap to.disk.files path_is ∙ new_there) (ap (λ (l : OpenLogValue). l.writer) switched.log);
              shows = λ history since s. record {
                tables = s.tables;
                has = tables_stay old new first to.disk.files s.tables (ap (λ (v : VersionSetValue). v.store) switched.set) (ap (λ (v : VersionSetValue). v.full) switched.set) (λ file live. tables_then file) s.has;
                shows = waits_shown cmp (memory_of old) (memory_of new) s.tables history since none_wait switched.mem (ap imm_entries switched.imm) s.shows;
              };
            }
              where
                none_wait : imm_entries old.imm ≡ []
                none_wait = ap imm_entries none

                new_there : to.disk.files next_path ≡ Some (kept_file [])
                new_there = ap (λ (f : Files). f next_path) made_is ∙ at_same next_path (Some (kept_file [])) second

                by_new : IsWrittenBy store cmp (IsTableOf cmp meaning) to.disk.files w.edits (switched_memory (memory_of old))
                by_new = (made to.disk.files (opening.now modelled)).switches new_there (subst IsKept (sym kept_second) refl) none_wait

                memory_is : switched_memory (memory_of old) ≡ memory_of new
                memory_is = λ i. record {
                  set = sym switched.set i;
                  log = sym (ap (λ (l : OpenLogValue). l.number) switched.log) i;
                  mem = sym switched.mem i;
                  imm = sym (ap imm_entries switched.imm) i;
                }

                path_is : open_log_path new ≡ next_path
                path_is = λ i. log_path ((switched.set i).store) ((switched.log i).number)

-- ---- what the call changes

module _ {E F C : Type 0} (env : Ghosts E F) (old : OpenStoreValue C) (from : E) where
  -- ---- a sync

  -- a fact of each value that a sync may leave
  stays_or_breaks : (P : OpenStoreValue C → Type 0) → ((writer : WriterState) → P (with_writer old writer)) → (new : OpenStoreValue C) (to : E) (status : Status) → StaysOrBreaks env old from new to status → P new
  stays_or_breaks P all new to status = ⊎_elim
      (λ (stays : IsOutOfMemory status × (new ≡ old) × (to ≡ from)). subst P (sym stays.1) (all old.log.writer))
      (λ (breaks : new ≡ with_writer old (broken_writer old.log.writer)). subst P (sym breaks) (all (broken_writer old.log.writer)))

  left_by_sync : (P : OpenStoreValue C → Type 0) → ((writer : WriterState) → P (with_writer old writer)) → (result : Result (Unit {0}) Status) (new : OpenStoreValue C) (to : E) → SyncsLog env old from result new to → P new
  left_by_sync P all (Ok value) new to sync = subst P (sym sync.ok) (all old.log.writer)
  left_by_sync P all (Err status) new to sync = stays_or_breaks P all new to status sync.err

  -- a sync changes nothing but the log
  pub sync_spares : old.log.number < 2 ^ 64 → (result : Result (Unit {0}) Status) (new : OpenStoreValue C) (to : E) → SyncsLog env old from result new to → SparesRest env.models_disk old (env.observed from) new (env.observed to)
  sync_spares fits result new to sync = record {
    store = left_by_sync (λ (v : OpenStoreValue C). v.set.store ≡ old.set.store) (λ writer. refl) result new to sync;
    cmp = left_by_sync (λ (v : OpenStoreValue C). v.cmp ≡ old.cmp) (λ writer. refl) result new to sync;
    last = left_by_sync (λ (v : OpenStoreValue C). v.set.last_sequence ≡ old.set.last_sequence) (λ writer. refl) result new to sync;
    kept_to = left_by_sync (λ (v : OpenStoreValue C). v.kept_to ≡ old.kept_to) (λ writer. refl) result new to sync;
    files = λ modelled. others_stay old.set.store old.log.number fits (env.observed from).disk.files (env.observed to).disk.files
        (SameBut-synced (open_log_path old) (env.observed from).disk.files (env.observed to).disk.files ((sync.does modelled).now modelled));
    numbers = left_by_sync (λ (v : OpenStoreValue C). old.set.next_file ≤ v.set.next_file) (λ writer. omega arith) result new to sync;
    tables = λ modelled. given_same old.set (env.observed from).disk.files (env.observed to).disk.files (λ number fits given. tables_same old.set.store old.log.number (env.observed from).disk.files (env.observed to).disk.files
        (SameBut-synced (open_log_path old) (env.observed from).disk.files (env.observed to).disk.files ((sync.does modelled).now modelled)) number);
    kept = λ modelled. Run-mono (loses_syncing (IsKeptPath old.set old.kept_to) (open_log_path old) (env.observed from).disk.files) (Run-call modelled (sync.does modelled));
    locks = sync.locks;
  }

-- ---- what a switch changes

module _ {E F C : Type 0} (env : Ghosts E F) (old : OpenStoreValue C) (from : E) (more : old.set.next_file + 1 < 2 ^ 64) where
  abbrev next : OpenStoreValue C
  next = record old { set = with_number_given old.set }

  -- what spares the rest after a number was given spares it before
  abbrev pub spares_before : {models_disk : Bool} {at : Observed} {new : OpenStoreValue C} {to : Observed} → SparesRest models_disk next at new to → SparesRest models_disk old at new to
  spares_before {at = at} rest = record {
    store = rest.store;
    cmp = rest.cmp;
    last = rest.last;
    kept_to = rest.kept_to;
    files = rest.files;
    numbers = let least = rest.numbers in omega (arith, least);
    tables = λ modelled number fits given. rest.tables modelled number fits (omega (arith, given));
    kept = spares_kept_then old.set (with_number_given old.set) refl (omega arith) refl (spares_kept_none old.set old.kept_to at) rest.kept;
    locks = rest.locks;
  }

  number_left : (status : Status) → AreFileNumbersUsedUp old.set.next_file status → ⊥
  number_left status up = let last = up.last in omega (arith, last, more)

  -- a sync that failed
  pub unsynced : (new : OpenStoreValue C) (to : E) (status : Status) → SyncsLog env next from (Err status) new to → SparesRest env.models_disk next (env.observed from) new (env.observed to) → SwitchesLog env old from (Err status) new to
  unsynced new to status sync rest = record {
    set = tt;
    log = tt;
    waits = tt;
    empty = tt;
    places = tt;
    err = stays_or_breaks env next from (λ (v : OpenStoreValue C). MayGiveNumber old.set v.set × (v.log.number ≡ old.log.number) × (v.mem ≡ old.mem) × (v.imm ≡ old.imm)) (λ writer. (inr refl, refl, refl, refl)) new to status sync.err;
    current = stays_or_breaks env next from (λ (v : OpenStoreValue C). v.current ≡ old.current) (λ writer. refl) new to status sync.err;
    tables = stays_or_breaks env next from (λ (v : OpenStoreValue C). KeepsTables env.models_disk old.set (env.observed from) v.set (env.observed to))
        (λ writer. record { live = λ file there. there; files = λ modelled number fits given. ap (λ (f : Files). f (table_path old.set.store number)) (sync.undone modelled) }) new to status sync.err;
    rest = spares_before rest;
    cause = cause_same (Err status) (λ e lost. inr lost) (λ e fails. ⊎_elim (λ up. absurd (number_left e up)) (λ lost. lost) fails) sync.cause;
  }

  module _ (mid : E) (sync : SyncsLog env next from (Ok tt) next mid) (rest : SparesRest env.models_disk next (env.observed from) next (env.observed mid)) (to : E)
      {T : Type 0} (result : Result T Status) (opening : ChangesFiles env.models_disk (emptied (log_path old.set.store old.set.next_file)) (BeforeOrAfter (emptied (log_path old.set.store old.set.next_file))) (env.observed mid) (env.observed to) result)
      (locks : SameLocks env.models_disk (env.observed mid) (env.observed to)) where
    -- no table changes
    same_tables : IsTrue env.models_disk → (number : ℕ) → (env.observed to).disk.files (table_path old.set.store number) ≡ (env.observed from).disk.files (table_path old.set.store number)
    same_tables modelled number =
        tables_same old.set.store old.set.next_file (env.observed mid).disk.files (env.observed to).disk.files
        (SameBut-emptied (log_path old.set.store old.set.next_file) (env.observed mid).disk.files (env.observed to).disk.files (opening.now modelled)) number
        ∙ tables_same old.set.store old.log.number (env.observed from).disk.files (env.observed mid).disk.files
        (SameBut-synced (open_log_path old) (env.observed from).disk.files (env.observed mid).disk.files ((sync.does modelled).now modelled)) number

    keeps_tables : (new : OpenStoreValue C) → new.set ≡ with_number_given old.set → KeepsTables env.models_disk old.set (env.observed from) new.set (env.observed to)
    keeps_tables new set = record {
      live = λ file there. subst (λ (v : VersionSetValue). Contains v.full.added file) (sym set) there;
      files = λ modelled number fits given. same_tables modelled number;
    }

    spares : (new : OpenStoreValue C) → new.set ≡ with_number_given old.set → new.cmp ≡ old.cmp → new.kept_to ≡ old.kept_to → SparesRest env.models_disk old (env.observed from) new (env.observed to)
    spares new set same_cmp same_keeps = record {
      store = ap (λ (v : VersionSetValue). v.store) set;
      cmp = same_cmp;
      last = ap (λ (v : VersionSetValue). v.last_sequence) set;
      kept_to = same_keeps;
      files = λ modelled path other. others_stay old.set.store old.set.next_file (omega (arith, more)) (env.observed mid).disk.files (env.observed to).disk.files
          (SameBut-emptied (log_path old.set.store old.set.next_file) (env.observed mid).disk.files (env.observed to).disk.files (opening.now modelled)) path other
          ∙ rest.files modelled path other;
      numbers = omega (arith, ap (λ (v : VersionSetValue). v.next_file) set);
      tables = λ modelled. given_same old.set (env.observed from).disk.files (env.observed to).disk.files (λ number fits given. same_tables modelled number);
      kept = spares_kept_then old.set old.set refl (omega arith) refl (spares_before rest).kept (λ modelled. Run-mono
          (λ now passes. kept_by_new old.set old.kept_to Log old.set.next_file (omega (arith, more)) (omega arith) (env.observed mid).disk.files now
          (SameBut-emptied (log_path old.set.store old.set.next_file) (env.observed mid).disk.files now passes)) (Run-call modelled opening));
      locks = λ modelled. locks modelled ∙ rest.locks modelled;
    }

    -- the log's file wasn't made
    pub unmade : (status : Status) → HasCause {T = T} IsOutOfMemory (env.failures mid) (env.failures to) (Err status) → SwitchesLog env old from (Err status) next to
    unmade status cause = record {
      set = tt;
      log = tt;
      waits = tt;
      empty = tt;
      places = tt;
      err = (inr refl, refl, refl, refl);
      current = refl;
      tables = keeps_tables next refl;
      rest = spares next refl refl refl;
      cause = record {
        later = omega (arith, cause.later, sync.cause.ok);
        ok = tt;
        uncounted = λ fails. ⊎_elim (λ up. absurd (number_left status up))
            (λ lost. ⊎_elim
            (λ there. ⊎_elim (λ memory. cause.uncounted memory ∙ sync.cause.ok) (λ missing. missing.2) there)
            (λ (broken : (old.log.writer.broken ≡ true) × IsWriterBroken status). let never : true ≡ false = sym broken.0 ∙ sync.usable in cc) lost) fails;
        cause = ⊎_elim (λ memory. inl (inr (inl (inl memory))))
            (λ counted. inr (⊎_elim (λ (one : env.failures to ≡ env.failures mid + 1). inl (one ∙ ap (λ n. n + 1) sync.cause.ok))
            (λ (most : (env.failures mid ≡ 2 ^ 64 - 1) × (env.failures to ≡ env.failures mid)). inr (sym sync.cause.ok ∙ most.0, most.1 ∙ sync.cause.ok)) counted)) cause.cause;
      };
    }

    -- the log was switched
    pub switched : (new : OpenStoreValue C) → new.cmp ≡ old.cmp → new.kept_to ≡ old.kept_to → new.current ≡ old.current → new.set ≡ with_number_given old.set → new.log ≡ record { number = old.set.next_file; writer = new_writer log_block_size 0 } → new.mem.entries ≡ [] → new.mem.places ≡ 0 → new.imm ≡ Some old.mem
        → env.failures to ≡ env.failures mid → SwitchesLog env old from (Ok tt) new to
    switched new same_cmp same_keeps same_current set log empty places waits counted = record {
      set = set;
      log = log;
      waits = waits;
      empty = empty;
      places = places;
      err = tt;
      current = same_current;
      tables = keeps_tables new set;
      rest = spares new set same_cmp same_keeps;
      cause = record { later = omega (arith, counted, sync.cause.ok); ok = counted ∙ sync.cause.ok; uncounted = tt; cause = tt };
    }

-- ---- that the store is written on

module _ {E F C : Type 0} (env : Ghosts E F) (old : OpenStoreValue C) (from : E) (modelled : IsTrue env.models_disk) (cmp : List ℕ → List ℕ → Ordering) (meaning : Meaning) (allowed : Store → Type 0)
    (w : IsWritten cmp meaning old (env.observed from).disk.files) where
  abbrev first_next : OpenStoreValue C
  first_next = record old { set = with_number_given old.set }

  abbrev Kept : E → OpenStoreValue C → Type 0
  Kept to new = KeepsStore cmp meaning allowed old (env.observed from) new (env.observed to)

  -- after a sync that failed
  pub unsynced_keeps : (new : OpenStoreValue C) (to : E) (status : Status) → SyncsLog env first_next from (Err status) new to → KeepsStore cmp meaning allowed old (env.observed from) new (env.observed to)
  unsynced_keeps new to status sync = ⊎_elim
      (λ (stays : IsOutOfMemory status × (new ≡ first_next) × (to ≡ from)). subst (Kept to) (sym stays.1) (keeps old.log.writer (λ usable. refl)))
      (λ (breaks : new ≡ with_writer first_next (broken_writer old.log.writer)). subst (Kept to) (sym breaks) (keeps (broken_writer old.log.writer) (λ usable. let never : true ≡ false = usable in cc)))
      sync.err
    where
      keeps : (writer : WriterState) → (writer.broken ≡ false → writer ≡ old.log.writer) → Kept to (with_writer first_next writer)
      keeps writer usable = keeps_unsynced cmp meaning allowed old (env.observed from) w modelled (env.observed to) status (sync.does modelled) (sync.undone modelled) writer usable

-- ---- facts of values after a call

module _ {C : Type 0} where
  -- the store with another set
  abbrev pub with_set : OpenStoreValue C → VersionSetValue → OpenStoreValue C
  with_set value set = record value { set = set }

  -- the store after a number was given is it with another set
  pub after_giving : (before old : OpenStoreValue C) → before ≡ old → (now : VersionsValue C)
      → now ≡ record { set = with_number_given before.set; current = before.current }
      → record before { set = now.set; current = now.current } ≡ with_set old (with_number_given old.set)
  after_giving before old same now is =
      ap (λ (v : VersionsValue C). record before { set = v.set; current = v.current }) is
      ∙ ap (λ (v : OpenStoreValue C). with_set v (with_number_given v.set)) same

module _ {E F C : Type 0} (env : Ghosts E F) (from : E) {before now new : OpenStoreValue C} (same : new ≡ before) (given : before ≡ now) (to : E) where
  -- a sync that was made, said of the value after it
  pub sync_made : SyncsLog env before from (Ok tt) new to → SyncsLog env now from (Ok tt) now to
  sync_made sync = subst (λ v. SyncsLog env v from (Ok tt) v to) given (subst (λ v. SyncsLog env before from (Ok tt) v to) same sync)

  pub spared_by_sync : SparesRest env.models_disk before (env.observed from) new (env.observed to) → SparesRest env.models_disk now (env.observed from) now (env.observed to)
  spared_by_sync rest = subst (λ v. SparesRest env.models_disk v (env.observed from) v (env.observed to)) given (subst (λ v. SparesRest env.models_disk before (env.observed from) v (env.observed to)) same rest)
