-- A store whose last log changes: it has more batches, or fewer.
use Rattle.leveldb_base.proofs.NamesLemmas.{made_name}
use Rattle.leveldb_base.specs.History.{Entry, greatest}
use Rattle.leveldb_base.specs.Names.{IsFileName, file_name}
use Rattle.leveldb_base.specs.Types.{Pair}
use Rattle.leveldb_base.specs.declared.types.FileType.TheVariants.{Log}
use Rattle.leveldb_env.specs.Env.{File, Files, SameBut, bytes_of, in_folder}
use Rattle.leveldb_mem.proofs.LawsLemmas.{log_laws}
use Rattle.leveldb_mem.specs.Log.{End, IsLogFile, bad, clean}
use Rattle.leveldb_mem.specs.WriteBatch.{Batch}
use Rattle.leveldb_files.proofs.Stores.BatchesLemmas.{one_batches}
use Rattle.leveldb_files.proofs.Stores.LogsLemmas.{SplitsAt, above_before, all_append, batches_at, below_after, in_split, order_above, order_append, rising_at, split_after, split_at, split_before, splits_at}
use Rattle.leveldb_files.proofs.Stores.ManagedLemmas.{log_on, numbers_apart, same_bytes, tables_on, tables_same}
use Rattle.leveldb_files.proofs.Histories.NumbersLemmas.{greatest_append}
use Rattle.leveldb_files.proofs.Histories.SafeLemmas.{some_is}
use Rattle.leveldb_files.specs.Stores.Batches.{AreInOrder, Each, IsRecordOf, all_entries}
use Rattle.leveldb_files.specs.Stores.Contents.{Contents, made}
use Rattle.leveldb_files.specs.Levels.Levels.{table_entries}
use Rattle.leveldb_files.specs.Stores.Paths.{log_path}
use Rattle.leveldb_files.specs.Stores.Store.{FitTogether, HasLog, HasLogs, IsManagedBy, LogIsReplayed, LogsRise, ReplayedLog, contents_of, log_batches, log_entries}
use Rattle.leveldb_files.specs.Edits.Edit.{Edit}
use Rattle.leveldb_files.specs.Edits.VersionSet.{live_after}
use Rattle.std.proofs.Common.{◌++◌, ◌<◌, ◌^◌, ◌∙◌, ◌∷◌, ◌≡◌, ◌≤◌, ◌⊎◌, Bool, List, None, Some, [], ap, append-nil, append_assoc, arith, false, inl, inr, length, refl, subst, sym, true, ℕ, ⊎_elim}
use Rattle.std.proofs.lemmas.List.{nil_from_length}
use Rattle.std.proofs.lemmas.List.Elements.{Contains-append_cases, Contains-append_left, Contains-append_right}
use Rattle.std.specs.Cmp.Lexicographic.{bytes_decides}
use Rattle.std.specs.Prelude.{◌≢◌, Contains, max}
use Rattle.std.specs.Str.{bytes_eq}
use Rattle.std.specs.declared.cmp.Ordering.{Ordering}

-- the contents with these batches too
abbrev pub with_batches : Contents → List Batch → Contents
with_batches contents more =
    record {
      store = contents.store;
      entries = contents.entries ++ all_entries more;
      last = max contents.last (greatest (all_entries more));
    }

pub with_none : (contents : Contents) → with_batches contents [] ≡ contents
with_none contents = let e = append-nil contents.entries in
    let l : max contents.last 0 ≡ contents.last = omega arith in
    λ i. record { store = contents.store; entries = e i; last = l i }

module _ (store : List ℕ) (cmp : List ℕ → List ℕ → Ordering)
    (IsTableOf : List ℕ → List Pair → Type 0) where
  -- Only the log of this number differs. Those after it are empty, and those before it end cleanly,
  -- unless it is empty itself. It had these batches, and has those: they rise too after any before
  -- them, and each of their entries was there or is above the last number.
  module _ (old new : Files) (edits : List Edit) (contents : Contents)
      (m : IsManagedBy store cmp IsTableOf old edits contents) (n : ℕ) (fits : n < 2 ^ 64)
      (replayed : LogIsReplayed (live_after edits) n)
      (empty_after : (log : ReplayedLog) → Contains m.logs log → n < log.number → log.size ≡ 0)
      (same : SameBut (log_path store n) old new)
      (was now : File)
      (clean_before : (log : ReplayedLog) → Contains m.logs log → log.number < n
      → (log.end ≡ clean) ⊎ (bytes_of now ≡ []))
      (there : old (log_path store n) ≡ Some was)
      (there_now : new (log_path store n) ≡ Some now)
      (records found : List (List ℕ)) (end found_end : End)
      (read : IsLogFile (bytes_of was) records end)
      (read_now : IsLogFile (bytes_of now) found found_end)
      (batches now_batches : List Batch) (each : Each IsRecordOf records batches)
      (each_now : Each IsRecordOf found now_batches)
      (rises : (before : List Batch) → greatest (all_entries (before ++ batches)) ≤ contents.last
      → AreInOrder 0 (before ++ batches) → AreInOrder 0 (before ++ now_batches))
      (known : (later : Entry) → Contains (all_entries now_batches) later
      → Contains (all_entries batches) later ⊎ (contents.last < later.sequence)) where
    named : IsFileName (file_name Log n) n Log
    named = made_name Log n fits

    pub its : (file_name Log n ≡ file_name Log n)
        × ((log : ReplayedLog) × Contains m.logs log × (log.number ≡ n))
    its = m.has_logs.all (file_name Log n) n named replayed
        (λ gone. let never : Some was ≡ None = sym there ∙ gone in absurd (cc))

    -- the last log before
    abbrev pub old_log : ReplayedLog
    old_log = its.1.0

    number_is : old_log.number ≡ n
    number_is = its.1.2

    pub split : SplitsAt m.logs old_log
    split = splits_at m.logs old_log its.1.1

    abbrev pub earlier : List ReplayedLog
    earlier = split.earlier

    abbrev pub later_logs : List ReplayedLog
    later_logs = split.later

    old_batches : old_log.batches ≡ batches
    old_batches = let has = (m.has_logs.each old_log its.1.1).0 in
        let file = some_is has.0 was
        (sym has.1 ∙ ap (λ k. old (log_path store k)) number_is ∙ there) in
        let same_records =
        (log_laws.one (bytes_of was) has.2.records records old_log.end end
        (subst (λ f. IsLogFile (bytes_of f) has.2.records old_log.end) file has.2.read) read).0
        in
        one_batches records old_log.batches batches
        (subst (λ rs. Each IsRecordOf rs old_log.batches) same_records has.2.each) each

    -- the last log now
    abbrev pub new_log : ReplayedLog
    new_log =
        record { number = n; batches = now_batches; end = found_end; size = length (bytes_of now) }

    abbrev pub new_logs : List ReplayedLog
    new_logs = earlier ++ new_log ∷ later_logs

    rising_old : LogsRise (earlier ++ old_log ∷ later_logs)
    rising_old = subst LogsRise split.parts m.has_logs.rising

    in_old : (log : ReplayedLog) → Contains earlier log → Contains m.logs log
    in_old log c =
        subst (λ ls. Contains ls log) (sym split.parts)
        (split_before earlier old_log later_logs log c)

    late_in_old : (log : ReplayedLog) → Contains later_logs log → Contains m.logs log
    late_in_old log c =
        subst (λ ls. Contains ls log) (sym split.parts)
        (split_after earlier old_log later_logs log c)

    below_last : (log : ReplayedLog) → Contains earlier log → log.number < n
    below_last log c = let l = above_before earlier old_log later_logs rising_old log c in
        omega (arith, l, number_is)

    above_last : (log : ReplayedLog) → Contains later_logs log → n < log.number
    above_last log c = let l = below_after earlier old_log later_logs rising_old log c in
        omega (arith, l, number_is)

    size_none : (log : ReplayedLog) → Contains later_logs log → log.size ≡ 0
    size_none log c = empty_after log (late_in_old log c) (above_last log c)

    -- the logs after it have no batches
    no_batches : (log : ReplayedLog) → Contains later_logs log → log.batches ≡ []
    no_batches log c =
        let has = (m.has_logs.each log (late_in_old log c)).0 in
        let none : bytes_of has.0 ≡ [] = nil_from_length (bytes_of has.0)
        (sym has.2.size ∙ size_none log c) in
        let no_records = (log_laws.one [] has.2.records [] log.end clean
        (subst (λ b. IsLogFile b has.2.records log.end) none has.2.read) refl).0 in
        one_batches [] log.batches []
        (subst (λ rs. Each IsRecordOf rs log.batches) no_records has.2.each) tt

    pub before_it : List Batch
    before_it = log_batches earlier

    pub batches_were : log_batches m.logs ≡ before_it ++ batches
    unfolding before_it
    batches_were = ap log_batches split.parts
        ∙ batches_at earlier old_log later_logs no_batches
        ∙ ap (λ bs. log_batches earlier ++ bs) old_batches

    pub batches_now : log_batches new_logs ≡ before_it ++ now_batches
    unfolding before_it
    batches_now = batches_at earlier new_log later_logs no_batches

    last_is : contents.last ≡ max m.last (greatest (log_entries m.logs))
    last_is = ap (λ (c : Contents). c.last) m.is

    fit : FitTogether cmp m.tables new_logs m.last
    fit = record {
      rise =
          subst (AreInOrder 0) (sym batches_now)
          (rises before_it low (subst (AreInOrder 0) batches_were m.fit.rise));
      ends = λ a b in_a in_b less is_bad.
          bad_ends a b less is_bad (in_split earlier new_log later_logs a in_a)
          (in_split earlier new_log later_logs b in_b);
      numbered = m.fit.numbered;
      below = λ entry later t l. ⊎_elim
          (λ (early : Contains (all_entries before_it) later). m.fit.below entry later t
          (was_in_log later
          (Contains-append_left (all_entries before_it) (all_entries batches) later early)))
          (λ (late : Contains (all_entries now_batches) later). ⊎_elim
          (λ (old_one : Contains (all_entries batches) later). m.fit.below entry later t
          (was_in_log later
          (Contains-append_right (all_entries before_it)
          (all_entries batches) later old_one)))
          (λ (up : contents.last < later.sequence). let n = (m.fit.numbered entry t).1 in
          omega (arith, up, n, last_is)) (known later late))
          (Contains-append_cases (all_entries before_it) (all_entries now_batches) later
          (subst (λ es. Contains es later)
          (ap all_entries batches_now ∙ all_append before_it now_batches) l));
      levels = m.fit.levels;
    }
      where
        bad_ends : (a b : ReplayedLog) → a.number < b.number → a.end ≡ bad
            → Contains earlier a ⊎ ((new_log ≡ a) ⊎ Contains later_logs a)
            → Contains earlier b ⊎ ((new_log ≡ b) ⊎ Contains later_logs b) → b.size ≡ 0
        bad_ends a b less is_bad (inl early) (inl early_b) =
            m.fit.ends a b (in_old a early) (in_old b early_b) less is_bad
        bad_ends a b less is_bad (inl early) (inr (inl f)) = ⊎_elim
            (λ (is_clean : a.end ≡ clean).
            absurd (let never : clean ≡ bad = sym is_clean ∙ is_bad in cc))
            (λ (none : bytes_of now ≡ []).
            subst (λ (x : ReplayedLog). x.size ≡ 0) f (ap length none))
            (clean_before a (in_old a early) (below_last a early))
        bad_ends a b less is_bad (inl early) (inr (inr late_b)) = size_none b late_b
        bad_ends a b less is_bad (inr (inl e)) (inl early_b) =
            let number = ap (λ (x : ReplayedLog). x.number) e in
            let l = below_last b early_b in absurd (omega (arith, l, less, number))
        bad_ends a b less is_bad (inr (inl e)) (inr (inl f)) =
            let number = ap (λ (x : ReplayedLog). x.number) e in
            let other = ap (λ (x : ReplayedLog). x.number) f in
            absurd (omega (arith, less, number, other))
        bad_ends a b less is_bad (inr (inl e)) (inr (inr late_b)) = size_none b late_b
        bad_ends a b less is_bad (inr (inr late)) (inl early_b) =
            let l = below_last b early_b in
            let up = above_last a late in absurd (omega (arith, l, up, less))
        bad_ends a b less is_bad (inr (inr late)) (inr (inl f)) =
            let up = above_last a late in
            let other = ap (λ (x : ReplayedLog). x.number) f in
            absurd (omega (arith, up, less, other))
        bad_ends a b less is_bad (inr (inr late)) (inr (inr late_b)) = size_none b late_b

        low : greatest (all_entries (before_it ++ batches)) ≤ contents.last
        low = let e = ap (λ bs. greatest (all_entries bs)) batches_were in omega (arith, e, last_is)

        was_in_log : (later : Entry) → Contains (all_entries before_it ++ all_entries batches) later
            → Contains (log_entries m.logs) later
        was_in_log later c =
            subst (λ es. Contains es later)
            (sym (ap all_entries batches_were ∙ all_append before_it batches)) c

    old_there : (name : List ℕ) → new (in_folder store name) ≢ None
        → old (in_folder store name) ≢ None
    old_there name some = by (bytes_eq (log_path store n) (in_folder store name)) refl
      where
        by : (b : Bool) → bytes_eq (log_path store n) (in_folder store name) ≡ b
            → old (in_folder store name) ≢ None
        by true e = λ gone. let never : Some was ≡ None = sym there
            ∙ ap old ((bytes_decides (log_path store n) (in_folder store name)).0 e) ∙ gone in cc
        by false e = λ gone. some (same (in_folder store name) e ∙ gone)

    -- a log of another number stays as it was
    stays_there : (log : ReplayedLog) → Contains m.logs log → n ≢ log.number
        → HasLog store new log × LogIsReplayed (live_after edits) log.number × (log.number < 2 ^ 64)
    stays_there log c differ =
        let h = m.has_logs.each log c in
        let apart = numbers_apart store (file_name Log n)
        (file_name Log log.number) n log.number Log Log named (made_name Log log.number h.2)
        differ in (
          log_on store cmp IsTableOf old new log
              (same_bytes (old (log_path store log.number)) (new (log_path store log.number))
              (same (log_path store log.number) apart)) h.0,
          h.1,
          h.2,
        )

    has_logs : HasLogs store new (live_after edits) new_logs
    has_logs = record {
      each = λ log c. each_log log (in_split earlier new_log later_logs log c);
      all = λ name k is is_replayed some.
          let h = m.has_logs.all name k is is_replayed (old_there name some) in (
            h.0,
            found_log h.1.0 k h.1.2
                (in_split earlier old_log later_logs h.1.0
                (subst (λ ls. Contains ls h.1.0) split.parts h.1.1)),
          );
      rising = rising_at earlier old_log new_log later_logs number_is rising_old;
    }
      where
        each_log : (log : ReplayedLog)
            → Contains earlier log ⊎ ((new_log ≡ log) ⊎ Contains later_logs log)
            → HasLog store new log × LogIsReplayed (live_after edits) log.number
            × (log.number < 2 ^ 64)
        each_log log (inl early) = stays_there log (in_old log early)
            (λ e. let l = below_last log early in omega (arith, l, e))
        each_log log (inr (inl e)) = subst
            (λ (l : ReplayedLog). HasLog store new l × LogIsReplayed (live_after edits) l.number
            × (l.number < 2 ^ 64)) e (
              (
                now,
                there_now,
                record { records = found; read = read_now; each = each_now; size = refl },
              ),
              replayed,
              fits,
            )
        each_log log (inr (inr late)) = stays_there log (late_in_old log late)
            (λ e. let l = above_last log late in omega (arith, l, e))

        found_log : (log : ReplayedLog) (k : ℕ) → log.number ≡ k
            → Contains earlier log ⊎ ((old_log ≡ log) ⊎ Contains later_logs log)
            → (other : ReplayedLog) × Contains new_logs other × (other.number ≡ k)
        found_log log k is (inl early) =
            (log, split_before earlier new_log later_logs log early, is)
        found_log log k is (inr (inl e)) = (
          new_log,
          split_at earlier new_log later_logs,
          sym number_is ∙ ap (λ (x : ReplayedLog). x.number) e ∙ is,
        )
        found_log log k is (inr (inr late)) =
            (log, split_after earlier new_log later_logs log late, is)

    pub with_now :
        IsManagedBy store cmp IsTableOf new edits
        (contents_of m.comparator m.tables new_logs m.last)
    with_now = record {
      comparator = m.comparator;
      comparator_is = m.comparator_is;
      log_is = m.log_is;
      next_file_is = m.next_file_is;
      last = m.last;
      last_is = m.last_is;
      numbers_fit = m.numbers_fit;
      tables = m.tables;
      has_tables = tables_on store cmp IsTableOf (live_after edits) old new m.tables
          (tables_same store cmp IsTableOf (live_after edits) (file_name Log n) n Log old new named
          (λ e. cc) same) m.has_tables;
      logs = new_logs;
      has_logs = has_logs;
      fit = fit;
      is = refl;
    }

  -- it has some batches more
  module _ (old new : Files) (edits : List Edit) (contents : Contents)
      (m : IsManagedBy store cmp IsTableOf old edits contents) (n : ℕ) (fits : n < 2 ^ 64)
      (replayed : LogIsReplayed (live_after edits) n)
      (empty_after : (log : ReplayedLog) → Contains m.logs log → n < log.number → log.size ≡ 0)
      (same : SameBut (log_path store n) old new)
      (was now : File)
      (clean_before : (log : ReplayedLog) → Contains m.logs log → log.number < n
      → (log.end ≡ clean) ⊎ (bytes_of now ≡ []))
      (there : old (log_path store n) ≡ Some was)
      (there_now : new (log_path store n) ≡ Some now)
      (records found : List (List ℕ)) (end found_end : End)
      (read : IsLogFile (bytes_of was) records end)
      (read_now : IsLogFile (bytes_of now) found found_end)
      (batches more : List Batch) (each : Each IsRecordOf records batches)
      (each_now : Each IsRecordOf found (batches ++ more))
      (order : AreInOrder contents.last more) where
    rises : (before : List Batch) → greatest (all_entries (before ++ batches)) ≤ contents.last
        → AreInOrder 0 (before ++ batches) → AreInOrder 0 (before ++ (batches ++ more))
    rises before low is =
        subst (AreInOrder 0) (append_assoc before batches more)
        (order_append 0 contents.last (before ++ batches) more (omega arith) low is order)

    known : (later : Entry) → Contains (all_entries (batches ++ more)) later
        → Contains (all_entries batches) later ⊎ (contents.last < later.sequence)
    known later c =
        ⊎_elim (λ (old_one : Contains (all_entries batches) later). inl old_one)
        (λ (new_one : Contains (all_entries more) later). inr
        (order_above contents.last more order later new_one))
        (Contains-append_cases (all_entries batches) (all_entries more) later
        (subst (λ es. Contains es later) (all_append batches more) c))

    abbrev before : List Batch
    before = before_it old new edits contents m n fits replayed empty_after same was now clean_before there
        there_now records found end found_end read read_now batches
        (batches ++ more) each each_now rises known

    abbrev logs : List ReplayedLog
    logs = new_logs old new edits contents m n fits replayed empty_after same was now clean_before there
        there_now records found end found_end read read_now batches
        (batches ++ more) each each_now rises known

    entries_now : log_entries logs ≡ log_entries m.logs ++ all_entries more
    entries_now = ap all_entries
        (batches_now old new edits contents m n fits replayed empty_after same was now clean_before there there_now records found end found_end read read_now batches
        (batches ++ more) each each_now rises known
        ∙ sym (append_assoc before batches more)
        ∙ ap (λ bs. bs ++ more)
        (sym
        (batches_were old new edits contents m n fits replayed empty_after same was now clean_before there there_now records found end found_end read read_now batches
        (batches ++ more) each each_now rises known)))
        ∙ all_append (log_batches m.logs) more

    pub with_more : IsManagedBy store cmp IsTableOf new edits (with_batches contents more)
    with_more = subst (IsManagedBy store cmp IsTableOf new edits)
        (λ i. record { store = stores i; entries = entries i; last = lasts i })
        (with_now old new edits contents m n fits replayed empty_after same was now clean_before there
        there_now records found end found_end read read_now batches
        (batches ++ more) each each_now rises known)
      where
        stores : made (Some m.comparator) ≡ contents.store
        stores = sym (ap (λ (c : Contents). c.store) m.is)

        entries : table_entries m.tables ++ log_entries logs ≡ contents.entries ++ all_entries more
        entries = ap (λ es. table_entries m.tables ++ es) entries_now
            ∙ sym (append_assoc (table_entries m.tables) (log_entries m.logs) (all_entries more))
            ∙ sym (ap (λ (c : Contents). c.entries ++ all_entries more) m.is)

        lasts :
            max m.last (greatest (log_entries logs))
            ≡ max contents.last (greatest (all_entries more))
        lasts = let l : contents.last ≡ max m.last (greatest (log_entries m.logs)) =
            ap (λ (c : Contents). c.last) m.is in
            let g = ap greatest entries_now
            ∙ greatest_append (log_entries m.logs) (all_entries more) in
            omega (arith, l, g)
