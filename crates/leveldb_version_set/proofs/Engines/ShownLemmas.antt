-- What an engine has in memory and in tables of a store that it writes shows what the store holds.
use Rattle.leveldb_base.proofs.HistoryLemmas.{in_none}
use Rattle.leveldb_base.proofs.NamesLemmas.{made_name}
use Rattle.leveldb_base.specs.History.{Entry, entries_of, greatest}
use Rattle.leveldb_base.specs.Layers.{IsOlder}
use Rattle.leveldb_base.specs.Names.{file_name}
use Rattle.leveldb_base.specs.Types.{Pair}
use Rattle.leveldb_base.specs.declared.types.FileType.TheVariants.{Log}
use Rattle.leveldb_env.specs.Env.{Files, bytes_of}
use Rattle.leveldb_mem.proofs.LawsLemmas.{log_laws}
use Rattle.leveldb_mem.specs.Log.{IsLogFile, clean}
use Rattle.leveldb_files.proofs.Stores.BatchesLemmas.{one_batches}
use Rattle.leveldb_files.proofs.Levels.LevelsLemmas.{adding_keeps_order}
use Rattle.leveldb_files.proofs.Stores.LogsLemmas.{PartsAt, batches_parts, order_above, order_after, parts_at}
use Rattle.leveldb_files.proofs.Histories.NumbersLemmas.{up_to_greatest}
use Rattle.leveldb_files.proofs.Stores.OneStoreLemmas.{one_store, one_table, tables_in}
use Rattle.leveldb_files.proofs.Histories.SafeLemmas.{some_is}
use Rattle.leveldb_files.proofs.Histories.ViewsLemmas.{same_sets, turned, view_trans}
use Rattle.leveldb_version_set.proofs.Engines.LogsBelowLemmas.{in_logs, log_of}
use Rattle.leveldb_version_set.proofs.Engines.ImmLemmas.{in_back_of, in_front_of, imm_in_logs}
use Rattle.leveldb_files.specs.Stores.Batches.{AreInOrder, Each, IsRecordOf, all_entries}
use Rattle.leveldb_files.specs.Stores.Contents.{Contents, Store}
use Rattle.leveldb_files.specs.Histories.Holds.{Carries}
use Rattle.leveldb_files.specs.Levels.Levels.{LevelOrder, LiveTable, table_entries}
use Rattle.leveldb_files.specs.Stores.Paths.{log_path}
use Rattle.leveldb_files.specs.Stores.Store.{HasTables, IsManagedBy, IsStore, OneTableReading, ReplayedLog, SameEntries, log_batches, log_entries}
use Rattle.leveldb_files.specs.Edits.Edit.{Edit}
use Rattle.leveldb_files.specs.Edits.VersionSet.{live_after}
use Rattle.leveldb_version_set.specs.Engines.Writing.{EngineMemory, IsWrittenBy}
use Rattle.leveldb_version_set.specs.Engines.WritingLaws.{SameMemoryShows, NewTableIsShown, WrittenIsShown}
use Rattle.std.proofs.Common.{◌++◌, ◌+◌, ◌<◌, ◌∙◌, ◌≡◌, ◌≤◌, ◌⊎◌, List, None, Some, [], ap, append-nil, arith, inl, inr, refl, subst, sym, ℕ, ⊎_elim}
use Rattle.std.proofs.lemmas.Bool.{cases_lt}
use Rattle.std.proofs.lemmas.List.Elements.{Contains-append_cases, Contains-append_left, Contains-append_right}
use Rattle.std.specs.Prelude.{Contains, max}
use Rattle.std.specs.declared.cmp.Ordering.{Ordering}

module _ (store : List ℕ) (cmp : List ℕ → List ℕ → Ordering)
    (IsTableOf : List ℕ → List Pair → Type 0) (allowed : Store → Type 0) where
  module _ (files : Files) (edits : List Edit) (memory : EngineMemory)
      (w : IsWrittenBy store cmp IsTableOf files edits memory) where
    abbrev m : IsManagedBy store cmp IsTableOf files edits w.tracked.contents
    m = w.tracked.managed

    -- ---- its logs

    -- the log that is written has one list of batches
    one_last : (log : ReplayedLog) → Contains m.logs log → log.number ≡ memory.log
        → log.batches ≡ w.writable.log.batches
    one_last log c number =
        let has = (m.has_logs.each log c).0 in
        let last = w.writable.log in
        let file = some_is has.0 last.file
        (sym has.1 ∙ ap (λ k. files (log_path store k)) (number ∙ sym w.log_is) ∙ last.there) in
        let records = (log_laws.one (bytes_of last.file) has.2.records last.records log.end clean
        (subst (λ f. IsLogFile (bytes_of f) has.2.records log.end) file has.2.read)
        last.clean_end).0 in
        one_batches last.records log.batches last.batches
        (subst (λ rs. Each IsRecordOf rs log.batches) records has.2.each) last.each

    -- it is there
    last_log : (log : ReplayedLog) × Contains m.logs log × (log.number ≡ memory.log)
    last_log =
        let last = w.writable.log in
        let a = (m.has_logs.all (file_name Log last.number) last.number
        (made_name Log last.number last.fits) last.last.replayed
        (λ gone. let never : Some last.file ≡ None = sym last.there ∙ gone in absurd (cc))).1 in
        (a.0, a.1, a.2 ∙ w.log_is)

    -- the logs after it have no batches
    none_after : (log : ReplayedLog) → Contains m.logs log → memory.log < log.number
        → log.batches ≡ []
    none_after log c more =
        let h = m.has_logs.each log c in
        let none = w.writable.log.last.empty_after (file_name Log log.number) log.number h.0.0
        (made_name Log log.number h.2) h.1 (omega (arith, more, w.log_is)) h.0.1 in
        let records = (log_laws.one [] h.0.2.records [] log.end clean
        (subst (λ b. IsLogFile b h.0.2.records log.end) none h.0.2.read) refl).0 in
        one_batches [] log.batches []
        (subst (λ rs. Each IsRecordOf rs log.batches) records h.0.2.each) tt

    -- the entries of logs are those in memory
    mem_in_logs : (entry : Entry) → Contains memory.mem entry
        → Contains (log_entries m.logs) entry
    mem_in_logs entry c = in_logs m.logs last_log.0 entry last_log.1
        (subst (λ bs. Contains (all_entries bs) entry)
        (sym (one_last last_log.0 last_log.1 last_log.2)) ((w.mem_is entry).0 c))

    logs_in_memory : (entry : Entry) → Contains (log_entries m.logs) entry
        → Contains (memory.mem ++ memory.imm) entry
    logs_in_memory entry c = by (cases_lt l.0.number memory.log) (cases_lt memory.log l.0.number)
      where
        l : (log : ReplayedLog) × Contains m.logs log × Contains (all_entries log.batches) entry
        l = log_of m.logs entry c

        by : (l.0.number < memory.log) ⊎ (memory.log ≤ l.0.number)
            → (memory.log < l.0.number) ⊎ (l.0.number ≤ memory.log)
            → Contains (memory.mem ++ memory.imm) entry
        by (inl less) other = Contains-append_right memory.mem memory.imm entry
            ((w.imm_is entry).1 (l.0, l.1, less, l.2))
        by (inr most) (inl more) = absurd (in_none entry
            (subst (λ bs. Contains (all_entries bs) entry) (none_after l.0 l.1 more) l.2))
        by (inr most) (inr least) = Contains-append_left memory.mem memory.imm entry
            ((w.mem_is entry).1 (subst (λ bs. Contains (all_entries bs) entry)
            (one_last l.0 l.1 (omega (arith, most, least))) l.2))

    memory_in_logs : (entry : Entry) → Contains (memory.mem ++ memory.imm) entry
        → Contains (log_entries m.logs) entry
    memory_in_logs entry c = ⊎_elim
        (λ (r : Contains memory.mem entry). mem_in_logs entry r)
        (λ (waits : Contains memory.imm entry).
        imm_in_logs store cmp IsTableOf files edits memory w entry waits)
        (Contains-append_cases memory.mem memory.imm entry c)

    -- the entries of the immutable memtable are older than those of the memtable
    imm_older : IsOlder memory.imm memory.mem
    imm_older a b in_a in_b same_key =
        let low = up_to_greatest (log_entries p.front) a in_front in
        let up = order_above (max 0 (greatest (all_entries (log_batches p.front))))
        (log_batches p.back) order b in_back in
        omega (arith, low, up)
      where
        p : PartsAt memory.log m.logs
        p = parts_at memory.log m.logs m.has_logs.rising

        order : AreInOrder (max 0 (greatest (all_entries (log_batches p.front))))
            (log_batches p.back)
        order = order_after 0 (log_batches p.front) (log_batches p.back)
            (subst (AreInOrder 0) (ap log_batches p.parts ∙ batches_parts p.front p.back)
            m.fit.rise)

        in_front : Contains (log_entries p.front) a
        in_front = let l = (w.imm_is a).0 in_a in
            in_logs p.front l.0 a (in_front_of memory.log m.logs p l.0 l.1 l.2) l.3

        in_back : Contains (log_entries p.back) b
        in_back = in_logs p.back last_log.0 b
            (in_back_of memory.log m.logs p last_log.0 last_log.1
            (omega (arith, last_log.2)))
            (subst (λ bs. Contains (all_entries bs) b)
            (sym (one_last last_log.0 last_log.1 last_log.2)) ((w.mem_is b).0 in_b))

    -- ---- its tables

    module _ (one : OneTableReading IsTableOf) (tables : List LiveTable)
        (has : HasTables store cmp IsTableOf files (live_after edits) tables) where
      abbrev shown : List Entry
      shown = memory.mem ++ (memory.imm ++ table_entries tables)

      -- a live table is one of them
      live_in : (table : LiveTable) → Contains tables table → Contains m.tables table
      live_in table c =
          let h = has.each table c in
          let u = m.has_tables.all table.file h.1 in
          let file : u.0.file ≡ table.file = u.2 in
          let entries = one_table store cmp IsTableOf one files u.0 table file
          (m.has_tables.each u.0 u.1).0 h.0 in
          let same : u.0 ≡ table = λ i. record { file = file i; entries = entries i } in
          subst (Contains m.tables) same u.1

      levels : LevelOrder cmp tables
      levels = record {
        disjoint = λ a b c d. m.fit.levels.disjoint a b (live_in a c) (live_in b d);
        deeper = λ a b c d. m.fit.levels.deeper a b (live_in a c) (live_in b d);
        newer = λ a b c d. m.fit.levels.newer a b (live_in a c) (live_in b d);
      }

      to : (entry : Entry) → Contains (table_entries tables) entry
          → Contains (table_entries m.tables) entry
      to = tables_in store cmp IsTableOf one files (live_after edits) tables m.tables has
          m.has_tables

      from : (entry : Entry) → Contains (table_entries m.tables) entry
          → Contains (table_entries tables) entry
      from = tables_in store cmp IsTableOf one files (live_after edits) m.tables tables
          m.has_tables has

      tables_older : IsOlder (table_entries tables) (memory.mem ++ memory.imm)
      tables_older a b in_a in_b same_key =
          m.fit.below a b (to a in_a) (memory_in_logs b in_b)

      -- ---- what they have

      regrouped : (entry : Entry) → Contains shown entry
          → Contains (memory.mem ++ memory.imm) entry
          ⊎ Contains (table_entries tables) entry
      regrouped entry c = ⊎_elim
          (λ (r : Contains memory.mem entry).
          inl (Contains-append_left memory.mem memory.imm entry r))
          (λ (rest : Contains (memory.imm ++ table_entries tables) entry). ⊎_elim
          (λ (waits : Contains memory.imm entry).
          inl (Contains-append_right memory.mem memory.imm entry waits))
          (λ (t : Contains (table_entries tables) entry). inr t)
          (Contains-append_cases memory.imm (table_entries tables) entry rest))
          (Contains-append_cases memory.mem (memory.imm ++ table_entries tables) entry c)

      shown_is : SameEntries shown w.tracked.contents.entries
      shown_is entry = (
        λ c. subst (λ (x : Contents). Contains x.entries entry) (sym m.is) (⊎_elim
            (λ (l : Contains (memory.mem ++ memory.imm) entry).
            Contains-append_right (table_entries m.tables) (log_entries m.logs) entry
            (memory_in_logs entry l))
            (λ (t : Contains (table_entries tables) entry).
            Contains-append_left (table_entries m.tables) (log_entries m.logs) entry
            (to entry t)) (regrouped entry c)),
        λ c. ⊎_elim
            (λ (t : Contains (table_entries m.tables) entry).
            Contains-append_right memory.mem (memory.imm ++ table_entries tables) entry
            (Contains-append_right memory.imm (table_entries tables) entry (from entry t)))
            (λ (l : Contains (log_entries m.logs) entry). ⊎_elim
            (λ (r : Contains memory.mem entry).
            Contains-append_left memory.mem (memory.imm ++ table_entries tables) entry r)
            (λ (waits : Contains memory.imm entry).
            Contains-append_right memory.mem (memory.imm ++ table_entries tables) entry
            (Contains-append_left memory.imm (table_entries tables) entry waits))
            (Contains-append_cases memory.mem memory.imm entry (logs_in_memory entry l)))
            (Contains-append_cases (table_entries m.tables) (log_entries m.logs) entry
            (subst (λ (x : Contents). Contains x.entries entry) m.is c)),
      )

  -- ---- what is shown

  pub written_is_shown : WrittenIsShown store cmp IsTableOf allowed
  written_is_shown one files edits memory w history last durable holds tables has = record {
    same = λ t late.
        view_trans (shown files edits memory w one tables has) found.contents.entries
        (entries_of history) t
        (same_sets (shown files edits memory w one tables has) found.contents.entries same t)
        (found.matches.same t late);
    up_to = λ entry c. found.matches.up_to entry ((same entry).0 c);
    imm_older = imm_older files edits memory w;
    tables_older = tables_older files edits memory w one tables has;
    levels = levels files edits memory w one tables has;
  }
    where
      Found : Type 0
      Found = Carries store (IsStore store cmp IsTableOf) allowed (last + 0) history files

      found : Found
      found = ⊎_elim (λ (c : Found). c) (λ (c : Found). c) holds.now

      same : SameEntries (shown files edits memory w one tables has) found.contents.entries
      same entry =
          let is = one_store store cmp IsTableOf one files w.tracked.contents found.contents
          (inr (record {
            edits = edits;
            has_edits = w.writable.has_edits;
            managed = w.tracked.managed;
          })) found.read in
          let here = shown_is files edits memory w one tables has entry in
          (λ c. (is.entries entry).0 (here.0 c), λ c. here.1 ((is.entries entry).1 c))

-- ---- what is shown of other memory

-- parts of the same entries make lists of the same entries
both_same : (a b c d : List Entry) → SameEntries a b → SameEntries c d
    → SameEntries (a ++ c) (b ++ d)
both_same a b c d left right entry = (
  λ e. ⊎_elim
      (λ (l : Contains a entry). Contains-append_left b d entry ((left entry).0 l))
      (λ (r : Contains c entry). Contains-append_right b d entry ((right entry).0 r))
      (Contains-append_cases a c entry e),
  λ e. ⊎_elim
      (λ (l : Contains b entry). Contains-append_left a c entry ((left entry).1 l))
      (λ (r : Contains d entry). Contains-append_right a c entry ((right entry).1 r))
      (Contains-append_cases b d entry e),
)

itself : (entries : List Entry) → SameEntries entries entries
itself entries entry = (λ c. c, λ c. c)

module _ (cmp : List ℕ → List ℕ → Ordering) where
  -- a table in place of the entries that wait
  pub new_table_is_shown : NewTableIsShown cmp
  new_table_is_shown memory table tables history from total entries can bounded s = record {
    same = λ t late. view_trans now before (entries_of history) t (same_sets now before same t)
        (s.same t late);
    up_to = λ entry c. s.up_to entry ((same entry).0 c);
    imm_older = λ a b none in_b same_key. absurd (in_none a none);
    tables_older = older;
    levels = adding_keeps_order cmp total tables table s.levels bounded can;
  }
    where
      now : List Entry
      now = memory.mem ++ (table.entries ++ table_entries tables)

      before : List Entry
      before = memory.mem ++ (memory.imm ++ table_entries tables)

      same : SameEntries now before
      same = both_same memory.mem memory.mem (table.entries ++ table_entries tables)
          (memory.imm ++ table_entries tables) (itself memory.mem)
          (both_same table.entries memory.imm (table_entries tables) (table_entries tables)
          entries (itself (table_entries tables)))

      older : IsOlder (table.entries ++ table_entries tables) (memory.mem ++ [])
      older a b in_a in_b same_key = ⊎_elim
          (λ (new : Contains table.entries a).
          s.imm_older a b ((entries a).0 new) mem same_key)
          (λ (old : Contains (table_entries tables) a).
          s.tables_older a b old (Contains-append_left memory.mem memory.imm b mem)
          same_key)
          (Contains-append_cases table.entries (table_entries tables) a in_a)
        where
          mem : Contains memory.mem b
          mem = subst (λ es. Contains es b) (append-nil memory.mem) in_b

  -- memory of the same entries
  pub same_memory_shows : SameMemoryShows cmp
  same_memory_shows memory other tables history from mem imm s = record {
    same = λ t late. view_trans now before (entries_of history) t
        (same_sets now before (turned before now same) t) (s.same t late);
    up_to = λ entry c. s.up_to entry ((same entry).1 c);
    imm_older = λ a b in_a in_b same_key.
        s.imm_older a b ((imm a).1 in_a) ((mem b).1 in_b) same_key;
    tables_older = λ a b in_a in_b same_key.
        s.tables_older a b in_a
        ((both_same memory.mem other.mem memory.imm other.imm mem imm b).1
        in_b) same_key;
    levels = s.levels;
  }
    where
      now : List Entry
      now = other.mem ++ (other.imm ++ table_entries tables)

      before : List Entry
      before = memory.mem ++ (memory.imm ++ table_entries tables)

      same : SameEntries before now
      same = both_same memory.mem other.mem (memory.imm ++ table_entries tables)
          (other.imm ++ table_entries tables) mem
          (both_same memory.imm other.imm (table_entries tables) (table_entries tables)
          imm (itself (table_entries tables)))
