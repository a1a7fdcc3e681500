-- An edit that has tables in the place of tables and logs changes nothing that is shown.
use Rattle.leveldb_base.proofs.HistoryLemmas.{in_none}
use Rattle.leveldb_base.proofs.NamesLemmas.{made_name}
use Rattle.leveldb_base.specs.History.{Entry, SameView, greatest}
use Rattle.leveldb_base.specs.Names.{file_name}
use Rattle.leveldb_base.specs.Types.{Pair}
use Rattle.leveldb_base.specs.declared.types.FileType.TheVariants.{Log}
use Rattle.leveldb_env.specs.Env.{Files, FilesCrashTo}
use Rattle.leveldb_files.proofs.Stores.KeptLemmas.{kept_left, tables_left}
use Rattle.leveldb_files.proofs.Stores.LogsLemmas.{PartsAt, batches_parts, entries_parts, order_above, order_after, order_low, parts_at}
use Rattle.leveldb_files.proofs.Stores.ManagedLemmas.{log_on}
use Rattle.leveldb_files.proofs.Histories.NumbersLemmas.{up_to_greatest}
use Rattle.leveldb_files.proofs.Stores.OneStoreLemmas.{tables_in}
use Rattle.leveldb_files.proofs.Histories.SafeLemmas.{some_is}
use Rattle.leveldb_files.proofs.Steps.SwapEditLemmas.{edit_fits, replayed_by}
use Rattle.leveldb_files.proofs.Steps.SwitchEditLemmas.{entries_in_logs, one_has_log}
use Rattle.leveldb_files.proofs.Histories.ViewsLemmas.{greatest_most, same_sets, same_with_later, view_trans}
use Rattle.leveldb_files.specs.Stores.Batches.{AreInOrder, all_entries}
use Rattle.leveldb_files.specs.Stores.Contents.{Contents}
use Rattle.leveldb_files.specs.Levels.Levels.{LiveTable, table_entries}
use Rattle.leveldb_files.specs.Stores.Paths.{log_path}
use Rattle.leveldb_files.specs.Stores.Store.{HasLog, HasTables, IsManagedBy, LogIsReplayed, OneTableReading, ReplayedLog, SameEntries, contents_of, log_batches, log_entries}
use Rattle.leveldb_files.specs.Steps.StoreSteps.{Refines}
use Rattle.leveldb_files.specs.Edits.Edit.{Edit}
use Rattle.leveldb_files.specs.Edits.VersionSet.{live_after}
use Rattle.leveldb_version_set.specs.Compactions.Replacing.{ReplacesTables, ReplacingRefines, SwapsReplace, SwitchesReplace}
use Rattle.std.proofs.Common.{◌++◌, ◌∙◌, ◌∷◌, ◌≡◌, ◌≤◌, ◌<◌, ◌^◌, List, None, Some, [], ap, append-nil, arith, inl, inr, refl, subst, sym, ℕ, ⊎_elim}
use Rattle.std.proofs.lemmas.List.Concat.{flat_map-append}
use Rattle.std.proofs.lemmas.List.Elements.{Contains-append_cases, Contains-append_left, Contains-append_right}
use Rattle.std.specs.Prelude.{Contains, IsSome, max}
use Rattle.std.specs.declared.cmp.Ordering.{Ordering}

-- two lists in a row have what two others have of each
each_in_both : (a b x y : List Entry) → ((e : Entry) → Contains a e → Contains x e)
    → ((e : Entry) → Contains b e → Contains y e) → (e : Entry) → Contains (a ++ b) e
    → Contains (x ++ y) e
each_in_both a b x y left right e c = ⊎_elim
    (λ (l : Contains a e). Contains-append_left x y e (left e l))
    (λ (r : Contains b e). Contains-append_right x y e (right e r))
    (Contains-append_cases a b e c)

module _ (store : List ℕ) (cmp : List ℕ → List ℕ → Ordering)
    (IsTableOf : List ℕ → List Pair → Type 0) (one : OneTableReading IsTableOf) where
  module _ (bound : ℕ) (files : Files) (edits : List Edit) (edit : Edit)
      (s :
      ReplacesTables store cmp IsTableOf bound files (live_after edits)
      (live_after (edits ++ edit ∷ [])))
      (left : Files) (contents : Contents) (leaves : FilesCrashTo files left)
      (most : contents.last ≤ bound)
      (m : IsManagedBy store cmp IsTableOf left edits contents) where
    p : PartsAt s.log m.logs
    p = parts_at s.log m.logs m.has_logs.rising

    abbrev now : Contents
    now = contents_of m.comparator s.after p.back s.last.last

    front_log : (l : ReplayedLog) → Contains p.front l → Contains m.logs l
    front_log l c =
        subst (λ ls. Contains ls l) (sym p.parts) (Contains-append_left p.front p.back l c)

    back_log : (l : ReplayedLog) → Contains p.back l → Contains m.logs l
    back_log l c =
        subst (λ ls. Contains ls l) (sym p.parts) (Contains-append_right p.front p.back l c)

    -- ---- the logs that are taken

    taken_has : (l : ReplayedLog) → Contains p.front l → Contains s.taken l
    taken_has l c = subst (Contains s.taken) {x = found.0}
        (one_has_log store files found.0 l found.2 (s.has_taken.each found.0 found.1).0 was)
        found.1
      where
        h : HasLog store left l × LogIsReplayed (live_after edits) l.number × (l.number < 2 ^ 64)
        h = m.has_logs.each l (front_log l c)

        was : HasLog store files l
        was = log_on store cmp IsTableOf left files l
            (sym (kept_left (files (log_path store l.number)) (left (log_path store l.number))
            (s.has_taken.kept l.number (p.before l c) h.1) (leaves (log_path store l.number)))) h.0

        found : (other : ReplayedLog) × Contains s.taken other × (other.number ≡ l.number)
        found = s.has_taken.all l.number (p.before l c) h.1
            (λ gone. let never : Some was.0 ≡ None = sym was.1 ∙ gone in cc)

    front_has : (l : ReplayedLog) → Contains s.taken l → Contains p.front l
    front_has l c =
        let h = s.has_taken.each l c in
        let bytes = kept_left (files (log_path store l.number)) (left (log_path store l.number))
        (s.has_taken.kept l.number h.2 h.1) (leaves (log_path store l.number)) in
        let is = log_on store cmp IsTableOf files left l bytes h.0 in
        let a = m.has_logs.all (file_name Log l.number) l.number (made_name Log l.number h.3) h.1
        (λ gone. let never : Some is.0 ≡ None = sym is.1 ∙ gone in cc) in
        let same = one_has_log store left a.1.0 l a.1.2 (m.has_logs.each a.1.0 a.1.1).0 is in
        ⊎_elim (λ (f : Contains p.front l). f)
        (λ (b : Contains p.back l). let up = p.from l b in absurd (omega (arith, up, h.2)))
        (Contains-append_cases p.front p.back l
        (subst (λ ls. Contains ls l) p.parts (subst (Contains m.logs) same a.1.1)))

    taken_in_front : (entry : Entry) → Contains (log_entries s.taken) entry
        → Contains (log_entries p.front) entry
    taken_in_front = entries_in_logs s.taken p.front front_has

    front_in_taken : (entry : Entry) → Contains (log_entries p.front) entry
        → Contains (log_entries s.taken) entry
    front_in_taken = entries_in_logs p.front s.taken taken_has

    front_in_logs : (entry : Entry) → Contains (log_entries p.front) entry
        → Contains (log_entries m.logs) entry
    front_in_logs = entries_in_logs p.front m.logs front_log

    back_in_logs : (entry : Entry) → Contains (log_entries p.back) entry
        → Contains (log_entries m.logs) entry
    back_in_logs = entries_in_logs p.back m.logs back_log

    entries_are : log_entries m.logs ≡ log_entries p.front ++ log_entries p.back
    entries_are = ap log_entries p.parts ∙ entries_parts p.front p.back

    order : AreInOrder 0 (log_batches p.front ++ log_batches p.back)
    order = subst (AreInOrder 0) (ap log_batches p.parts ∙ batches_parts p.front p.back) m.fit.rise

    order_back : AreInOrder (max 0 (greatest (all_entries (log_batches p.front))))
        (log_batches p.back)
    order_back = order_after 0 (log_batches p.front) (log_batches p.back) order

    -- ---- the tables

    has_before : HasTables store cmp IsTableOf left (live_after edits) s.before
    has_before = tables_left store cmp IsTableOf files left (live_after edits) s.before s.has_before.kept leaves
        s.has_before.has

    tables_were : (entry : Entry) → Contains (table_entries m.tables) entry
        → Contains (table_entries s.before) entry
    tables_were = tables_in store cmp IsTableOf one left (live_after edits) m.tables s.before
        m.has_tables has_before

    were_tables : (entry : Entry) → Contains (table_entries s.before) entry
        → Contains (table_entries m.tables) entry
    were_tables = tables_in store cmp IsTableOf one left (live_after edits) s.before m.tables
        has_before m.has_tables

    last_is : m.last ≡ s.last.before
    last_is = some_is m.last s.last.before (sym m.last_is ∙ s.last.old_last)

    -- ---- what was there

    abbrev was : List Entry
    was = table_entries s.before ++ log_entries s.taken

    -- it is numbered from 1 to the last number, and is below the logs that stay
    was_numbered : (entry : Entry) → Contains was entry
        → (0 < entry.sequence) × (entry.sequence ≤ s.last.last)
    was_numbered entry c = ⊎_elim
        (λ (i : Contains (table_entries s.before) entry).
        let n = m.fit.numbered entry (were_tables entry i) in
        (n.0, omega (arith, n.1, last_is, s.last.later)))
        (λ (t : Contains (log_entries s.taken) entry). (
          order_above 0 (log_batches m.logs) m.fit.rise entry
              (front_in_logs entry (taken_in_front entry t)),
          s.reached entry t,
        ))
        (Contains-append_cases (table_entries s.before) (log_entries s.taken) entry c)

    was_below : (entry later : Entry) → Contains was entry → Contains (log_entries p.back) later
        → entry.sequence < later.sequence
    was_below entry later c l = ⊎_elim
        (λ (i : Contains (table_entries s.before) entry).
        m.fit.below entry later (were_tables entry i) (back_in_logs later l))
        (λ (t : Contains (log_entries s.taken) entry).
        let up = order_above (max 0 (greatest (all_entries (log_batches p.front))))
        (log_batches p.back) order_back later l in
        let low = up_to_greatest (log_entries p.front) entry (taken_in_front entry t) in
        omega (arith, up, low))
        (Contains-append_cases (table_entries s.before) (log_entries s.taken) entry c)

    was_these : SameEntries (was ++ log_entries p.back)
        (table_entries m.tables ++ log_entries m.logs)
    was_these entry = (
      λ c. ⊎_elim
          (λ (x : Contains was entry). each_in_both (table_entries s.before) (log_entries s.taken)
          (table_entries m.tables) (log_entries m.logs) were_tables
          (λ e d. front_in_logs e (taken_in_front e d)) entry x)
          (λ (b : Contains (log_entries p.back) entry). Contains-append_right
          (table_entries m.tables) (log_entries m.logs) entry (back_in_logs entry b))
          (Contains-append_cases was (log_entries p.back) entry c),
      λ c. ⊎_elim
          (λ (t : Contains (table_entries m.tables) entry). Contains-append_left was
          (log_entries p.back) entry
          (Contains-append_left (table_entries s.before) (log_entries s.taken) entry
          (tables_were entry t)))
          (λ (l : Contains (log_entries m.logs) entry). each_in_both (log_entries p.front)
          (log_entries p.back) was (log_entries p.back)
          (λ e d. Contains-append_right (table_entries s.before) (log_entries s.taken) e
          (front_in_taken e d)) (λ e d. d) entry (subst (λ es. Contains es entry) entries_are l))
          (Contains-append_cases (table_entries m.tables) (log_entries m.logs) entry c),
    )

    -- ---- the store after it

    managed : IsManagedBy store cmp IsTableOf left (edits ++ edit ∷ []) now
    managed = record {
      comparator = m.comparator;
      comparator_is = s.comparator ∙ m.comparator_is;
      log_is = s.log_number m.log_is;
      next_file_is = s.next_file;
      last = s.last.last;
      last_is = s.last.new_last;
      numbers_fit = edit_fits bound edits edit s.last m.numbers_fit;
      tables = s.after;
      has_tables = tables_left store cmp IsTableOf files left (live_after (edits ++ edit ∷ [])) s.after
          s.has_after.kept leaves s.has_after.has;
      logs = p.back;
      has_logs = record {
        each = λ l c. let h = m.has_logs.each l (back_log l c) in
            (h.0, (s.logs l.number).1 (h.1, p.from l c), h.2);
        all = λ name n is replayed some.
            let r = (s.logs n).0 replayed in
            let up = r.1 in
            let a = m.has_logs.all name n is r.0 some in (
              a.0,
              (
                a.1.0,
                ⊎_elim
                    (λ (f : Contains p.front a.1.0). let low = p.before a.1.0 f in let e = a.1.2 in
                    absurd (omega (arith, low, e, up))) (λ (b : Contains p.back a.1.0). b)
                    (Contains-append_cases p.front p.back a.1.0
                    (subst (λ ls. Contains ls a.1.0) p.parts a.1.1)),
                a.1.2,
              ),
            );
        rising = p.rising;
      };
      fit = record {
        rise = order_low 0 (max 0 (greatest (all_entries (log_batches p.front))))
            (log_batches p.back) (omega arith) order_back;
        ends = λ a b in_a in_b. m.fit.ends a b (back_log a in_a) (back_log b in_b);
        numbered = λ entry c. was_numbered entry (s.none_new entry c);
        below = λ entry later c l. was_below entry later (s.none_new entry c) l;
        levels = s.levels;
      };
      is = refl;
    }

    -- ---- what is shown

    old_last : contents.last ≡ max m.last (greatest (log_entries m.logs))
    old_last = ap (λ (c : Contents). c.last) m.is

    logs_greatest : greatest (log_entries m.logs) ≤ max s.last.last (greatest (log_entries p.back))
    logs_greatest =
        greatest_most (max s.last.last (greatest (log_entries p.back))) (log_entries m.logs)
        (λ entry c. ⊎_elim
        (λ (f : Contains (log_entries p.front) entry). let n =
        s.reached entry (front_in_taken entry f) in omega (arith, n))
        (λ (b : Contains (log_entries p.back) entry). let n =
        up_to_greatest (log_entries p.back) entry b in omega (arith, n))
        (Contains-append_cases (log_entries p.front) (log_entries p.back) entry
        (subst (λ es. Contains es entry) entries_are c)))

    back_greatest : greatest (log_entries p.back) ≤ greatest (log_entries m.logs)
    back_greatest = greatest_most (greatest (log_entries m.logs)) (log_entries p.back)
        (λ entry c. up_to_greatest (log_entries m.logs) entry (back_in_logs entry c))

    same_view : (t : ℕ) → max s.last.last (greatest (log_entries p.back)) ≤ t
        → SameView (table_entries s.after ++ log_entries p.back)
        (table_entries m.tables ++ log_entries m.logs) t
    same_view t late = view_trans (table_entries s.after ++ log_entries p.back)
        (was ++ log_entries p.back) (table_entries m.tables ++ log_entries m.logs) t
        (same_with_later (table_entries s.after) was (log_entries p.back) t
        (greatest_most (greatest was) (table_entries s.after)
        (λ entry c. up_to_greatest was entry (s.none_new entry c))) was_below
        (λ later l. order_above 0 (log_batches m.logs) m.fit.rise later (back_in_logs later l))
        (s.same t (greatest_most t was
        (λ entry c. let n = (was_numbered entry c).1 in omega (arith, n, late)))))
        (same_sets (was ++ log_entries p.back) (table_entries m.tables ++ log_entries m.logs)
        was_these t)

    refines : Refines bound contents now
    refines = record {
      later = omega (arith, old_last, last_is, s.last.later, logs_greatest);
      bounded = omega (arith, old_last, most, s.last.bounded, back_greatest);
      store = sym (ap (λ (c : Contents). c.store) m.is);
      same = λ t late. subst (λ (c : Contents). SameView now.entries c.entries t) (sym m.is)
          (same_view t late);
      none_new = λ entry c. subst (λ (c : Contents). Contains c.entries entry) (sym m.is)
          ((was_these entry).0 (each_in_both (table_entries s.after) (log_entries p.back) was
          (log_entries p.back) s.none_new (λ e d. d) entry c));
    }

module _ (store : List ℕ) (cmp : List ℕ → List ℕ → Ordering)
    (IsTableOf : List ℕ → List Pair → Type 0) where
  pub replacing_refines : ReplacingRefines store cmp IsTableOf
  replacing_refines one bound files edits edit s left contents leaves honest most m = (
    now store cmp IsTableOf one bound files edits edit s left contents leaves most m,
    managed store cmp IsTableOf one bound files edits edit s left contents leaves most m,
    refines store cmp IsTableOf one bound files edits edit s left contents leaves most m,
  )

  -- ---- the cases

  pub swaps_replace : SwapsReplace store cmp IsTableOf
  swaps_replace bound files old new s = record {
    before = s.before;
    has_before = s.has_before;
    after = s.after;
    has_after = s.has_after;
    levels = s.levels;
    log = 0;
    logs = λ n. (
      λ r. (
        replayed_by new old n (sym s.log_number) (sym s.previous_log) r,
        omega arith,
      ),
      λ r. replayed_by old new n s.log_number s.previous_log r.0,
    );
    taken = [];
    has_taken = record {
      each = λ l c. absurd (in_none l c);
      all = λ n less replayed some. absurd (omega (arith, less));
      kept = λ n less replayed. absurd (omega (arith, less));
    };
    none_new = λ entry c.
        subst (λ es. Contains es entry) (sym (append-nil (table_entries s.before)))
        (s.none_new entry c);
    same = subst
        (λ es. (t : ℕ) → greatest es ≤ t → SameView (table_entries s.after) es t)
        (sym (append-nil (table_entries s.before))) s.same;
    comparator = s.comparator;
    log_number = λ some. subst IsSome (sym s.log_number) some;
    next_file = s.next_file;
    last = s.last;
    reached = λ entry c. absurd (in_none entry c);
  }

  pub switches_replace : SwitchesReplace store cmp IsTableOf
  switches_replace bound files old new s = record {
    before = s.before;
    has_before = s.has_before;
    after = s.added ++ s.before;
    has_after = s.has_after;
    levels = s.levels;
    log = s.log;
    logs = λ n. (
      λ r. let up = from_log n r in (s.logs.still n up, up),
      λ r. inl (s.log, s.logs.new_log, r.1),
    );
    taken = s.taken;
    has_taken = s.has_taken;
    none_new = λ entry c. (same_entries entry).0 c;
    same = λ t late. same_sets (table_entries (s.added ++ s.before))
        (table_entries s.before ++ log_entries s.taken) same_entries t;
    comparator = s.comparator;
    log_number = λ some. subst IsSome (sym s.logs.new_log) refl;
    next_file = s.next_file;
    last = s.last;
    reached = λ entry c. s.reached entry ((s.wrote entry).1 c);
  }
    where
      from_log : (n : ℕ) → LogIsReplayed new n → s.log ≤ n
      from_log n (inl h) =
          let same : Some s.log ≡ Some h.0 = sym s.logs.new_log ∙ h.1 in
          let e = some_is s.log h.0 same in
          omega (arith, h.2, e)
      from_log n (inr h) = absurd (s.logs.no_previous n h.0 h.1)

      after_are : table_entries (s.added ++ s.before)
          ≡ table_entries s.added ++ table_entries s.before
      after_are = flat_map-append (λ (t : LiveTable). t.entries) s.added s.before

      turn : (a b x y : List Entry) → ((e : Entry) → Contains a e → Contains y e)
          → ((e : Entry) → Contains b e → Contains x e) → (e : Entry) → Contains (a ++ b) e
          → Contains (x ++ y) e
      turn a b x y first second e c = ⊎_elim
          (λ (l : Contains a e). Contains-append_right x y e (first e l))
          (λ (r : Contains b e). Contains-append_left x y e (second e r))
          (Contains-append_cases a b e c)

      same_entries : SameEntries (table_entries (s.added ++ s.before))
          (table_entries s.before ++ log_entries s.taken)
      same_entries entry = (
        λ c. turn (table_entries s.added) (table_entries s.before) (table_entries s.before)
            (log_entries s.taken) (λ e d. (s.wrote e).0 d) (λ e d. d) entry
            (subst (λ es. Contains es entry) after_are c),
        λ c. subst (λ es. Contains es entry) (sym after_are)
            (turn (table_entries s.before) (log_entries s.taken) (table_entries s.added)
            (table_entries s.before) (λ e d. d) (λ e d. (s.wrote e).1 d) entry c),
      )
