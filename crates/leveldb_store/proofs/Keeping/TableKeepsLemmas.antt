-- What a table of the entries that wait keeps of a store that is written, while it is made and
-- while its edit is logged.
use Rattle.std.specs.Prelude.{◌≢◌, All, Contains}
use Rattle.std.proofs.Common.{◌≡◌, ◌∙◌, ◌∷◌, ◌++◌, ◌+◌, ◌≤◌, ◌<◌, ◌^◌, ◌%◌, not, cond, inl, inr, ⊎_elim, ℕ, Bool, true, false, List, [], length, map, None, Some, ap, arith, refl, subst, sym}
use Rattle.std.proofs.lemmas.List.Elements.{All-contains, All-contains_itself, All-head, All-push, All-tail, All-weaker, Contains-append_cases, Contains-append_left, Contains-append_right, Contains-push, Contains-push_cases}
use Rattle.std.specs.Cmp.{IsTotalOrder}
use Rattle.std.specs.List.{filter}
use Rattle.std.specs.Str.{bytes_eq}
use Rattle.std.specs.declared.cmp.Ordering.{Ordering}
use Rattle.leveldb_base.proofs.EntriesLemmas.{in_map, map_in}
use Rattle.leveldb_base.proofs.HistoryLemmas.{in_cases, in_front, in_rest}
use Rattle.leveldb_base.proofs.NamesLemmas.{made_name}
use Rattle.leveldb_base.specs.History.{Entry, History, entries_of, greatest}
use Rattle.leveldb_base.specs.KeyTypes.{internal_cmp}
use Rattle.leveldb_base.specs.Names.{file_name}
use Rattle.leveldb_base.specs.Types.{Pair}
use Rattle.leveldb_base.specs.declared.types.FileType.{FileType}
use Rattle.leveldb_base.specs.declared.types.FileType.TheVariants.{Descriptor, Log, Table}
use Rattle.leveldb_env.proofs.EnvLemmas.{SameBut-appending, SameBut-synced, SameBut-trans, appended}
use Rattle.leveldb_env.specs.Compressor.{Decodes}
use Rattle.leveldb_env.specs.Env.{Files, SameBut, bytes_of, extended, in_folder}
use Rattle.leveldb_mem.specs.Log.{log_block_size}
use Rattle.leveldb_mem.specs.Log.Writer.{frame, new_writer}
use Rattle.leveldb_table.proofs.TableReaderLemmas.{one_table}
use Rattle.leveldb_table.specs.Table.{DecodesOne}
use Rattle.leveldb_files.proofs.Steps.KeepsLemmas.{unread_keeps}
use Rattle.leveldb_version_set.proofs.Engines.LogTablesLemmas.{same_place}
use Rattle.leveldb_files.proofs.Stores.ManagedLemmas.{kinds_apart, numbers_apart, same_bytes, table_on}
use Rattle.leveldb_files.proofs.Stores.OneStoreLemmas.{flat_in, in_flat, tables_in}
use Rattle.leveldb_files.proofs.Levels.OutputLevelLemmas.{output_level_is_free}
use Rattle.leveldb_files.proofs.Histories.SafeLemmas.{some_is}
use Rattle.leveldb_version_set.proofs.Engines.ShownLemmas.{same_memory_shows, new_table_is_shown}
use Rattle.leveldb_files.proofs.Levels.TablesLemmas.{one_store_table, tables_bounded}
use Rattle.leveldb_version_set.proofs.Sets.TrackedLemmas.{live_is_below, next_is_free, numbered_up_to}
use Rattle.leveldb_files.proofs.Histories.ViewsLemmas.{same_sets, view_trans}
use Rattle.leveldb_version_set.proofs.Engines.ImmLemmas.{imm_in_logs, imm_becomes_table}
use Rattle.leveldb_version_set.proofs.Engines.WrittenLemmas.{new_table_unread, written_given, written_unread}
use Rattle.leveldb_files.specs.Stores.Contents.{Store}
use Rattle.leveldb_version.specs.Edits.FullEdit.{files_with}
use Rattle.leveldb_files.specs.Levels.Levels.{CanBeAdded, IsBounded, LiveTable, table_entries}
use Rattle.leveldb_version_set.specs.Sets.LogEdit.{AppendingAndSyncing, edit_record, set_appended, with_bytes_kept, written_edit}
use Rattle.leveldb_version_set.specs.Engines.Opening.{FitsEdit}
use Rattle.leveldb_files.specs.Levels.Overlap.{file_range, output_level}
use Rattle.leveldb_files.specs.Stores.Paths.{IsFilePath, log_path, table_path}
use Rattle.leveldb_files.specs.Stores.Store.{HasTable, HasTables, OneTableReading, SameEntries}
use Rattle.leveldb_files.specs.Steps.StoreSteps.{AppendedAreBytes, IsKept, IsUnread, KeepsHistory}
use Rattle.leveldb_files.specs.Edits.Edit.{Edit, NewFile}
use Rattle.leveldb_files.specs.Edits.VersionSet.{is_same_file, level_file, live_after}
use Rattle.leveldb_version_set.specs.Sets.VersionSetValue.{VersionSetValue, with_number_given}
use Rattle.leveldb_version_set.specs.Engines.Writing.{EngineMemory, IsNumberedUpTo, IsWrittenBy, ShowsHistory, table_edit}
use Rattle.leveldb_version_set.specs.Engines.WritingLaws.{HasImm, TablesAreInRange, ImmBecomesTable}
use Rattle.leveldb_store.proofs.Keeping.LevelForLemmas.{output_level_fits}
use Rattle.leveldb_files.specs.Stores.Format.{IsTableOf, Meaning}
use Rattle.leveldb_store.specs.Keeping.OpenStore.{OpenStoreValue}
use Rattle.leveldb_store.specs.Keeping.Written.{HasLiveTables, IsWritten, KeepsShown, HasView, memory_of, imm_entries}

-- ---- lists

-- what is so of each element
all_of : {A : Type 0} (P : A → Type 0) (xs : List A) → ((x : A) → Contains xs x → P x) → All P xs
all_of P xs each = All-weaker (Contains xs) P each xs (All-contains_itself xs)

-- a filter that all pass
filter_all : {A : Type 0} (p : A → Bool) (xs : List A) → All (λ x. p x ≡ true) xs
    → filter p xs ≡ xs
filter_all p [] all = refl
filter_all p (x ∷ xs) all =
    ap (λ b. cond b (x ∷ filter p xs) (filter p xs)) (All-head (λ y. p y ≡ true) x xs all)
    ∙ ap (λ ys. x ∷ ys) (filter_all p xs (All-tail (λ y. p y ≡ true) x xs all))

itself : (entries : List Entry) → SameEntries entries entries
itself entries entry = (λ c. c, λ c. c)

-- ---- histories

module _ {store : List ℕ} {cmp : List ℕ → List ℕ → Ordering}
    {IsTableOf : List ℕ → List Pair → Type 0} {allowed : Store → Type 0} {bound : ℕ} where
  pub KeepsHistory-refl : (files : Files)
      → KeepsHistory store cmp IsTableOf allowed bound files files
  KeepsHistory-refl files = record {
    now = λ history carries. carries;
    crash = λ durable history safe. safe;
  }

  pub KeepsHistory-trans : {old mid new : Files}
      → KeepsHistory store cmp IsTableOf allowed bound old mid
      → KeepsHistory store cmp IsTableOf allowed bound mid new
      → KeepsHistory store cmp IsTableOf allowed bound old new
  KeepsHistory-trans first second = record {
    now = λ history carries. second.now history (first.now history carries);
    crash = λ durable history safe. second.crash durable history (first.crash durable history safe);
  }

-- ---- paths

-- files of two types are apart
pub types_apart : (store path other : List ℕ) (k l : FileType) → IsFilePath k store path
    → IsFilePath l store other → k ≢ l → bytes_eq path other ≡ false
types_apart store path other k l p q differ =
    subst (λ z. bytes_eq z other ≡ false) (sym p.3)
    (subst (λ z. bytes_eq (in_folder store p.0) z ≡ false) (sym q.3)
    (kinds_apart store p.0 q.0 p.1 q.1 k l p.2 q.2 differ))

pub is_table_path : (store : List ℕ) (n : ℕ) → n < 2 ^ 64
    → IsFilePath Table store (table_path store n)
is_table_path store n fits = (file_name Table n, n, made_name Table n fits, refl)

pub is_log_path : (store : List ℕ) (n : ℕ) → n < 2 ^ 64 → IsFilePath Log store (log_path store n)
is_log_path store n fits = (file_name Log n, n, made_name Log n fits, refl)

-- appended to and synced, a file alone changes
pub appending_and_syncing : (path bytes : List ℕ) (old now : Files)
    → AppendingAndSyncing path bytes old now → SameBut path old now
appending_and_syncing path bytes old now (inl part) = SameBut-appending path bytes old now part
appending_and_syncing path bytes old now (inr done) =
    SameBut-trans path
    (SameBut-appending path bytes old (extended path bytes old) (appended path bytes old))
    (SameBut-synced path (extended path bytes old) now (inr done))

-- ---- what is shown

module _ (cmp : List ℕ → List ℕ → Ordering) where
  -- memory of the same entries, whatever the set and the log are, and the same tables in any order
  pub shows_again : (memory other : EngineMemory) (these those : List LiveTable)
      (history : History) (from : ℕ) → other.mem ≡ memory.mem
      → other.imm ≡ memory.imm
      → ((table : LiveTable) → Contains these table → Contains those table)
      → ((table : LiveTable) → Contains those table → Contains these table)
      → ShowsHistory cmp memory these history from → ShowsHistory cmp other those history from
  shows_again memory other these those history from mem imm to back s =
      same_memory_shows cmp memory other those history from
      (λ entry.
      subst (λ es. SameEntries memory.mem es) (sym mem) (itself memory.mem) entry)
      (λ entry.
      subst (λ es. SameEntries memory.imm es) (sym imm) (itself memory.imm) entry)
      (record {
        same = λ t late. view_trans now before (entries_of history) t
            (same_sets now before same t) (s.same t late);
        up_to = λ entry c. s.up_to entry ((same entry).0 c);
        imm_older = s.imm_older;
        tables_older = λ a b in_a in_b same_key. s.tables_older a b (moved those these back a in_a)
            in_b same_key;
        levels = record {
          disjoint = λ a b c d. s.levels.disjoint a b (back a c) (back b d);
          deeper = λ a b c d. s.levels.deeper a b (back a c) (back b d);
          newer = λ a b c d. s.levels.newer a b (back a c) (back b d);
        };
      })
    where
      moved : (xs ys : List LiveTable)
          → ((table : LiveTable) → Contains xs table → Contains ys table)
          → (entry : Entry) → Contains (table_entries xs) entry
          → Contains (table_entries ys) entry
      moved xs ys so entry c =
          let t = in_flat (λ (table : LiveTable). table.entries) xs entry c in
          flat_in (λ (table : LiveTable). table.entries) ys t.0 entry (so t.0 t.1) t.2

      front : List Entry
      front = memory.mem ++ memory.imm

      now : List Entry
      now = memory.mem ++ (memory.imm ++ table_entries those)

      before : List Entry
      before = memory.mem ++ (memory.imm ++ table_entries these)

      over : (xs ys : List LiveTable)
          → ((table : LiveTable) → Contains xs table → Contains ys table)
          → (entry : Entry)
          → Contains (memory.mem ++ (memory.imm ++ table_entries xs)) entry
          → Contains (memory.mem ++ (memory.imm ++ table_entries ys)) entry
      over xs ys so entry c = ⊎_elim
          (λ (r : Contains memory.mem entry).
          Contains-append_left memory.mem (memory.imm ++ table_entries ys) entry r)
          (λ (rest : Contains (memory.imm ++ table_entries xs) entry).
          Contains-append_right memory.mem (memory.imm ++ table_entries ys) entry
          (⊎_elim
          (λ (w : Contains memory.imm entry).
          Contains-append_left memory.imm (table_entries ys) entry w)
          (λ (t : Contains (table_entries xs) entry).
          Contains-append_right memory.imm (table_entries ys) entry (moved xs ys so entry t))
          (Contains-append_cases memory.imm (table_entries xs) entry rest)))
          (Contains-append_cases memory.mem (memory.imm ++ table_entries xs) entry c)

      same : SameEntries now before
      same entry = (over those these back entry, over these those to entry)

-- ---- the live files with one more

-- a file of another number isn't replaced
pub files_with_new : (files : List NewFile) (file : NewFile)
    → ((other : NewFile) → Contains files other → other.number ≢ file.number)
    → files_with files file ≡ files ++ file ∷ []
files_with_new files file apart = ap (λ fs. fs ++ file ∷ []) (filter_all keeps files all)
  where
    keeps : NewFile → Bool
    keeps other = not (is_same_file (level_file other) (level_file file))

    all : All (λ other. keeps other ≡ true) files
    all = all_of (λ other. keeps other ≡ true) files
        (λ other c. by other c (is_same_file (level_file other) (level_file file)) refl)
      where
        by : (other : NewFile) → Contains files other → (b : Bool)
            → is_same_file (level_file other) (level_file file) ≡ b → keeps other ≡ true
        by other c false e = ap not e
        by other c true e = absurd (apart other c (same_place other file e).1)

-- ---- a store that is written

module _ (cmp : List ℕ → List ℕ → Ordering) (meaning : Meaning) where
  module _ (store : List ℕ) (files : Files) (edits : List Edit) (memory : EngineMemory)
      (w : IsWrittenBy store cmp (IsTableOf cmp meaning) files edits memory) where
    -- a file of the set is live, and has a number that a file can have
    live_file : (file : NewFile) → Contains memory.set.full.added file
        → ((live_after edits).file (level_file file) ≡ Some file) × (file.number < 2 ^ 64)
    live_file file c =
        let live = (w.tracked.tracks.left.full.added.live file).0 c in
        let found = w.tracked.managed.has_tables.all file live in
        let fits = (w.tracked.managed.has_tables.each found.0 found.1).2 in
        (live, subst (λ (f : NewFile). f.number < 2 ^ 64) found.2 fits)

    -- it is below the next one
    pub live_below : (file : NewFile) → Contains memory.set.full.added file
        → (file.number < 2 ^ 64) × (file.number < memory.set.next_file)
    live_below file c =
        let l = live_file file c in (
          l.1,
          live_is_below store cmp (IsTableOf cmp meaning) files edits memory.set w.tracked file
              l.1 l.0,
        )

    -- so tables in the order of the set's files are those that are live
    pub live_tables : (tables : List LiveTable)
        → map (λ (table : LiveTable). table.file) tables ≡ memory.set.full.added
        → All (HasTable store cmp (IsTableOf cmp meaning) files) tables
        → HasTables store cmp (IsTableOf cmp meaning) files (live_after edits) tables
    live_tables tables files_are each = record {
      each = λ table c.
          let l = live_file table.file (subst (λ fs. Contains fs table.file) files_are
          (map_in (λ (t : LiveTable). t.file) tables table c)) in (
            All-contains (HasTable store cmp (IsTableOf cmp meaning) files) tables table each c,
            l.0,
            l.1,
          );
      all = λ file live.
          in_map (λ (t : LiveTable). t.file) tables file
          (subst (λ fs. Contains fs file) (sym files_are)
          ((w.tracked.tracks.left.full.added.live file).1 live));
    }

  -- the log's file is the same where it was not changed
  same_log : (store : List ℕ) (old new : Files) (edits more : List Edit)
      (memory then : EngineMemory)
      (w : IsWrittenBy store cmp (IsTableOf cmp meaning) old edits memory)
      (v : IsWrittenBy store cmp (IsTableOf cmp meaning) new more then)
      → then.log ≡ memory.log → new (log_path store memory.log) ≡ old (log_path store memory.log)
      → w.writable.log.file ≡ v.writable.log.file
  same_log store old new edits more memory then w v log same =
      let here : old (log_path store memory.log) ≡ Some w.writable.log.file =
      ap (λ n. old (log_path store n)) (sym w.log_is) ∙ w.writable.log.there in
      let there : new (log_path store memory.log) ≡ Some v.writable.log.file =
      ap (λ n. new (log_path store n)) (sym (v.log_is ∙ log)) ∙ v.writable.log.there in
      some_is w.writable.log.file v.writable.log.file (sym here ∙ sym same ∙ there)

-- ---- live tables

module _ {C : Type 0} (cmp : List ℕ → List ℕ → Ordering) (meaning : Meaning) where
  -- they are there where their files are as they were
  pub live_on : (value then : OpenStoreValue C) (old new : Files) (tables : List LiveTable)
      → then.set.store ≡ value.set.store → then.set.full ≡ value.set.full
      → ((table : LiveTable) → Contains tables table
      → new (table_path value.set.store table.file.number)
      ≡ old (table_path value.set.store table.file.number))
      → HasLiveTables cmp meaning value old tables → HasLiveTables cmp meaning then new tables
  live_on value then old new tables store full same has =
      let T = IsTableOf cmp meaning in
      record {
        files_are = has.files_are ∙ ap (λ (e : Edit). e.added) (sym full);
        each = subst (λ s. All (HasTable s cmp T new) tables) (sym store)
            (all_of (HasTable value.set.store cmp T new) tables
            (λ table c.
            table_on value.set.store cmp T old new table
            (same_bytes (old (table_path value.set.store table.file.number))
            (new (table_path value.set.store table.file.number)) (same table c))
            (All-contains (HasTable value.set.store cmp T old) tables table has.each c)));
      }

  -- so a store that is written is so with its log's writer
  pub written_again : (value then : OpenStoreValue C) (old new : Files) (edits : List Edit)
      (is : IsWritten cmp meaning value old)
      (v : IsWrittenBy value.set.store cmp (IsTableOf cmp meaning) new edits (memory_of then))
      → then.set.store ≡ value.set.store → then.log ≡ value.log
      → new (log_path value.set.store value.log.number)
      ≡ old (log_path value.set.store value.log.number)
      → IsWritten cmp meaning then new
  written_again value then old new edits is v store log same =
      by then.set.store (sym store)
    where
      file : is.by.writable.log.file ≡ v.writable.log.file
      file = same_log cmp meaning value.set.store old new is.edits edits (memory_of value)
          (memory_of then) is.by v (ap (λ (l : _). l.number) log) same

      Written : List ℕ → Type 0
      Written s = (w : IsWrittenBy s cmp (IsTableOf cmp meaning) new edits (memory_of then))
          × (then.log.writer
          ≡ new_writer log_block_size (length (bytes_of w.writable.log.file) % log_block_size))

      here : Written value.set.store
      here = (
        v,
        ap (λ (l : _). l.writer) log ∙ is.writer
            ∙ ap (λ f. new_writer log_block_size (length (bytes_of f) % log_block_size)) file,
      )

      by : (s : List ℕ) → value.set.store ≡ s → IsWritten cmp meaning then new
      by s e = let w = subst Written (sym store) here in
          record { edits = edits; by = w.0; writer = w.1 }

-- ---- the bytes of a store's tables

module _ (cmp : List ℕ → List ℕ → Ordering) (meaning : Meaning) where
  decode_one : DecodesOne (Decodes meaning.codings)
  decode_one id stored text other these those = some_is text other (sym these ∙ those)

  -- they have one list of pairs
  pub one_reading_of : OneTableReading (IsTableOf cmp meaning)
  one_reading_of = one_store_table (Decodes meaning.codings) cmp meaning.filters decode_one
      (one_table (Decodes meaning.codings) (internal_cmp cmp))

  -- and their keys are in the range of the file
  pub in_range_of : IsTotalOrder cmp → (store : List ℕ)
      → TablesAreInRange store cmp (IsTableOf cmp meaning)
  in_range_of total store files table has =
      tables_bounded cmp total (Decodes meaning.codings) meaning.filters store files table has

-- ---- the table is made, and its edit is logged

module _ {C : Type 0} (cmp : List ℕ → List ℕ → Ordering) (meaning : Meaning)
    (old : OpenStoreValue C) (from : Files) (is : IsWritten cmp meaning old from)
    (next_fits : old.set.next_file + 1 < 2 ^ 64) where
  abbrev pub store : List ℕ
  store = old.set.store

  abbrev pub T : List ℕ → List Pair → Type 0
  T = IsTableOf cmp meaning

  abbrev pub n : ℕ
  n = old.set.next_file

  abbrev pub path : List ℕ
  path = table_path store n

  -- the store with one more number given
  abbrev pub given : OpenStoreValue C
  given = record old { set = with_number_given old.set }

  n_fits : n < 2 ^ 64
  n_fits = omega (arith, next_fits)

  is_path : IsFilePath Table store path
  is_path = is_table_path store n n_fits

  w : IsWrittenBy store cmp T from is.edits (memory_of given)
  w = written_given store cmp T from is.edits (memory_of old) is.by

  log_fits : old.log.number < 2 ^ 64
  log_fits = omega (arith, is.by.writable.log.fits, is.by.log_is)

  is_log : IsFilePath Log store (log_path store old.log.number)
  is_log = is_log_path store old.log.number log_fits

  -- nothing is under its path
  unread : IsUnread store from path
  unread = new_table_unread store cmp T from is.edits (memory_of old) is.by n n_fits
      (next_is_free store cmp T from is.edits old.set is.by.tracked Table n (omega arith) n_fits)

  numbered : IsNumberedUpTo store path (n + 1)
  numbered = numbered_up_to store cmp T (file_name Table n) n Table (made_name Table n n_fits)
      (n + 1) (omega arith)

  -- the path of a live table is another one
  apart : (file : NewFile) → Contains old.set.full.added file
      → bytes_eq path (table_path store file.number) ≡ false
  apart file c =
      let l = live_below cmp meaning store from is.edits (memory_of old) is.by file c in
      numbers_apart store (file_name Table n) (file_name Table file.number) n file.number Table
      Table (made_name Table n n_fits) (made_name Table file.number l.0)
      (λ e. omega (arith, l.1, e))

  file_of : (tables : List LiveTable)
      → map (λ (table : LiveTable). table.file) tables ≡ old.set.full.added
      → (table : LiveTable) → Contains tables table → Contains old.set.full.added table.file
  file_of tables files_are table c = subst (λ fs. Contains fs table.file) files_are
      (map_in (λ (t : LiveTable). t.file) tables table c)

  -- ---- while it is made

  module _ (mid : Files) (same : SameBut path from mid) where
    -- each history is kept
    pub keeps_made : (allowed : Store → Type 0) (bound : ℕ)
        → KeepsHistory store cmp T allowed bound from mid
    keeps_made allowed bound =
        unread_keeps store cmp T allowed path from mid same is.by.tracked.bytes unread bound

    -- what was shown is shown
    pub shows_made : (history : History) → KeepsShown cmp meaning old from history given mid history
    shows_made history since s = record {
      tables = s.tables;
      has = live_on cmp meaning old given from mid s.tables refl refl
          (λ table c. same (table_path store table.file.number)
          (apart table.file (file_of s.tables s.has.files_are table c))) s.has;
      shows = shows_again cmp (memory_of old) (memory_of given) s.tables s.tables history since
          refl refl (λ table c. c) (λ table c. c) s.shows;
    }

    module _ (bytes : AppendedAreBytes mid) where
      pub w_made : IsWrittenBy store cmp T mid is.edits (memory_of given)
      w_made = written_unread store cmp T from is.edits (memory_of given) w path unread numbered
          mid same bytes

      -- the store is written on
      pub written_made : IsWritten cmp meaning given mid
      written_made = written_again cmp meaning old given from mid is.edits is w_made refl refl
          (same (log_path store old.log.number)
          (types_apart store path (log_path store old.log.number) Table Log is_path is_log
          (λ e. cc)))

      -- ---- the table that was made

      module _ (total : IsTotalOrder cmp) (file : NewFile)
          (level : file.level ≡ output_level cmp (file_range file) old.set.full.added)
          (number : file.number ≡ n) (edit_fits : FitsEdit file)
          (has : HasTable store cmp T mid
          (record { file = file; entries = imm_entries old.imm }))
          (kept : IsKept (mid (table_path store file.number))) where
        abbrev pub table : LiveTable
        table = record { file = file; entries = imm_entries old.imm }

        one : OneTableReading T
        one = one_reading_of cmp meaning

        range : TablesAreInRange store cmp T
        range = in_range_of cmp meaning total store

        above : (other : NewFile) → other.number < 2 ^ 64
            → (live_after is.edits).file (level_file other) ≡ Some other
            → other.number < file.number
        above other fits live = subst (λ k. other.number < k) (sym number)
            (live_is_below store cmp T from is.edits old.set is.by.tracked other fits live)

        addable : (tables : List LiveTable)
            → HasTables store cmp T mid (live_after is.edits) tables
            → CanBeAdded cmp tables table
        addable tables has_tables =
            output_level_is_free cmp tables old.set.full.added
            (λ other c. (w_made.tracked.tracks.left.full.added.live other.file).1
            (has_tables.each other c).1)
            table level (range mid table has)
            (λ a b in_tables in_table same_key. w_made.tracked.managed.fit.below a b
            (tables_in store cmp T one mid (live_after is.edits) tables
            w_made.tracked.managed.tables has_tables w_made.tracked.managed.has_tables a in_tables)
            (imm_in_logs store cmp T mid is.edits (memory_of given) w_made b in_table))
            (λ other c other_level its_level. above other.file (has_tables.each other c).2
            (has_tables.each other c).1)

        waits : HasImm store cmp T mid is.edits (memory_of given) table
        waits = record {
          has = has;
          kept = kept;
          level_fits = omega (
            arith,
            level,
            output_level_fits cmp (file_range file)
                old.set.full.added,
          );
          entries = itself (imm_entries old.imm);
          added = addable;
        }

        abbrev pub edit : Edit
        edit = table_edit old.log.number file

        tables_made : (allowed : Store → Type 0)
            → ImmBecomesTable store cmp T allowed mid is.edits (memory_of given) w_made edit
        tables_made allowed = imm_becomes_table store cmp T allowed one total range mid is.edits
            (memory_of given) w_made table waits next_fits edit_fits.number edit_fits.size
            edit_fits.smallest edit_fits.largest

        -- ---- while its edit is logged

        abbrev pub manifest : List ℕ
        manifest = w_made.manifest.path

        abbrev pub framed : List ℕ
        framed = frame w_made.manifest.writer (edit_record given.set edit)

        pub keeps_logged : (allowed : Store → Type 0) (bound : ℕ) → old.set.last_sequence ≤ bound
            → (now : Files) → AppendingAndSyncing manifest framed mid now
            → KeepsHistory store cmp T allowed bound mid now
        keeps_logged allowed bound late now passes = (tables_made allowed).keeps bound late now passes

        is_manifest : IsFilePath Descriptor store manifest
        is_manifest =
            let used = w_made.tracked.tracks.used w_made.manifest w_made.is_in_use in (
              used.opened.has_edits.name,
              used.opened.has_edits.number,
              used.opened.has_edits.named.0,
              used.path,
            )

        module _ (now : Files) (passes : AppendingAndSyncing manifest framed mid now) where
          others : (k : FileType) (other : List ℕ) → IsFilePath k store other → Descriptor ≢ k
              → now other ≡ mid other
          others k other its differ =
              appending_and_syncing manifest framed mid now passes other
              (types_apart store manifest other Descriptor k is_manifest its differ)

          same_tables : (tables : List LiveTable)
              → map (λ (t : LiveTable). t.file) tables ≡ old.set.full.added
              → (t : LiveTable) → Contains tables t
              → now (table_path store t.file.number) ≡ mid (table_path store t.file.number)
          same_tables tables files_are t c =
              let l = live_below cmp meaning store from is.edits (memory_of old) is.by t.file
              (file_of tables files_are t c) in
              others Table (table_path store t.file.number) (is_table_path store t.file.number l.0)
              (λ e. cc)

          same_open_log : now (log_path store old.log.number) ≡ mid (log_path store old.log.number)
          same_open_log = others Log (log_path store old.log.number) is_log (λ e. cc)

          -- an error leaves the set's files, and what was shown is shown
          pub shows_failed : (set : VersionSetValue) → set.store ≡ store
              → set.full ≡ old.set.full → (history : History)
              → KeepsShown cmp meaning old from history (record old { set = set }) now history
          shows_failed set same_store full history since s =
              let then = shows_made history since s in
              record {
                tables = then.tables;
                has = live_on cmp meaning given (record old { set = set }) mid now then.tables
                    same_store full (same_tables then.tables then.has.files_are) then.has;
                shows = shows_again cmp (memory_of given) (memory_of (record old { set = set }))
                    then.tables then.tables history since refl refl (λ t c. c) (λ t c. c)
                    then.shows;
              }

        -- ---- after it

        abbrev pub done : OpenStoreValue C
        done = record old {
          set = set_appended w_made.manifest given.set edit;
          imm = None;
        }

        module _ (now : Files) (now_is : now ≡ with_bytes_kept manifest framed mid) where
          passes : AppendingAndSyncing manifest framed mid now
          passes = inr now_is

          w_done : IsWrittenBy store cmp T now
              (is.edits ++ written_edit given.set edit ∷ []) (memory_of done)
          w_done = subst
              (λ f. IsWrittenBy store cmp T f (is.edits ++ written_edit given.set edit ∷ [])
              (memory_of done)) (sym now_is) (tables_made (λ any. Unit {0})).after

          -- the store is written on
          pub written_done : IsWritten cmp meaning done now
          written_done = written_again cmp meaning given done mid now
              (is.edits ++ written_edit given.set edit ∷ []) written_made w_done refl refl
              (same_open_log now passes)

          added_is : done.set.full.added ≡ old.set.full.added ++ file ∷ []
          added_is = files_with_new old.set.full.added file
              (λ other c e.
              let l = live_below cmp meaning store from is.edits (memory_of old) is.by other c in
              omega (arith, l.1, e, number))

          module _ (history : History) (since : ℕ) (s : HasView cmp meaning old from history since)
            where
              then : HasView cmp meaning given mid history since
              then = shows_made history since s

              abbrev all : List LiveTable
              all = then.tables ++ table ∷ []

              has_tables : HasTables store cmp T mid (live_after is.edits) then.tables
              has_tables = live_tables cmp meaning store mid is.edits (memory_of given) w_made
                  then.tables then.has.files_are then.has.each

              bounded : (t : LiveTable) → Contains then.tables t → IsBounded cmp t
              bounded t c = range mid t
                  (All-contains (HasTable store cmp T mid) then.tables t then.has.each c)

              -- what was shown is shown, with one table more
              in_place : ShowsHistory cmp (memory_of done) (table ∷ then.tables) history since
              in_place = shows_again cmp (record (memory_of given) { imm = [] }) (memory_of done)
                  (table ∷ then.tables) (table ∷ then.tables) history since refl refl (λ t c. c)
                  (λ t c. c)
                  (new_table_is_shown cmp (memory_of given) table then.tables history since total
                  (itself (imm_entries old.imm)) (addable then.tables has_tables) bounded
                  then.shows)

              to_end : (t : LiveTable) → Contains (table ∷ then.tables) t → Contains all t
              to_end t c = ⊎_elim
                  (λ (here : table ≡ t). subst (Contains all) here (Contains-push then.tables table))
                  (λ (rest : Contains then.tables t).
                  Contains-append_left then.tables (table ∷ []) t rest)
                  (in_cases table t then.tables c)

              from_end : (t : LiveTable) → Contains all t → Contains (table ∷ then.tables) t
              from_end t c = ⊎_elim
                  (λ (rest : Contains then.tables t). in_rest table t then.tables rest)
                  (λ (here : table ≡ t).
                  subst (Contains (table ∷ then.tables)) here (in_front table then.tables))
                  (Contains-push_cases then.tables table t c)

              before : HasLiveTables cmp meaning given now then.tables
              before = live_on cmp meaning given given mid now then.tables refl refl
                  (same_tables now passes then.tables then.has.files_are) then.has

              new_there : now (table_path store file.number) ≡ mid (table_path store file.number)
              new_there = others now passes Table (table_path store file.number)
                  (is_table_path store file.number edit_fits.number) (λ e. cc)

              pub shows_done : HasView cmp meaning done now history since
              shows_done = record {
                tables = all;
                has = record {
                  files_are = map_pushed then.tables
                      ∙ ap (λ fs. fs ++ file ∷ []) then.has.files_are ∙ sym added_is;
                  each = All-push (HasTable store cmp T now) then.tables table before.each
                      (table_on store cmp T mid now table
                      (same_bytes (mid (table_path store file.number))
                      (now (table_path store file.number)) new_there) has);
                };
                shows = shows_again cmp (memory_of done) (memory_of done) (table ∷ then.tables) all
                    history since refl refl to_end from_end in_place;
              }
                where
                  map_pushed : (tables : List LiveTable)
                      → map (λ (t : LiveTable). t.file) (tables ++ table ∷ [])
                      ≡ map (λ (t : LiveTable). t.file) tables ++ file ∷ []
                  map_pushed [] = refl
                  map_pushed (t ∷ tables) = ap (λ fs. t.file ∷ fs) (map_pushed tables)
