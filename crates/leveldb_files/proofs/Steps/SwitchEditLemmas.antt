-- The edit of a switch: the logs below a number aren't replayed any more, and new tables have all
-- their entries.
use Rattle.leveldb_files.proofs.Steps.SwapEditLemmas.{edit_fits}
use Rattle.leveldb_base.proofs.NamesLemmas.{made_name}
use Rattle.leveldb_base.specs.History.{Entry, SameView, greatest}
use Rattle.leveldb_base.specs.Names.{file_name}
use Rattle.leveldb_base.specs.Types.{Pair}
use Rattle.leveldb_base.specs.declared.types.FileType.TheVariants.{Log}
use Rattle.leveldb_env.specs.Env.{Files, FilesCrashTo}
use Rattle.leveldb_files.proofs.Stores.KeptLemmas.{kept_left, tables_left}
use Rattle.leveldb_files.proofs.Stores.LogsLemmas.{PartsAt, batches_parts, entries_parts, order_above, order_after, order_low, parts_at}
use Rattle.leveldb_files.proofs.Stores.ManagedLemmas.{log_on}
use Rattle.leveldb_files.proofs.Histories.NumbersLemmas.{up_to_greatest}
use Rattle.leveldb_files.proofs.Stores.OneStoreLemmas.{flat_in, in_flat, one_log, tables_in}
use Rattle.leveldb_files.proofs.Histories.SafeLemmas.{some_is}
use Rattle.leveldb_files.proofs.Histories.ViewsLemmas.{greatest_most, same_sets}
use Rattle.leveldb_files.specs.Stores.Batches.{AreInOrder, all_entries, batch_entries}
use Rattle.leveldb_files.specs.Stores.Contents.{Contents}
use Rattle.leveldb_files.specs.Levels.Levels.{LiveTable, table_entries}
use Rattle.leveldb_files.specs.Stores.Paths.{log_path}
use Rattle.leveldb_files.specs.Stores.Store.{HasLog, IsLog, IsManagedBy, LogIsReplayed, OneTableReading, ReplayedLog, SameEntries, contents_of, log_batches, log_entries}
use Rattle.leveldb_files.specs.Steps.StoreSteps.{EditRefines, Refines, SwitchesLog}
use Rattle.leveldb_files.specs.Edits.Edit.{Edit}
use Rattle.leveldb_files.specs.Edits.VersionSet.{live_after}
use Rattle.std.proofs.Common.{◌++◌, ◌∙◌, ◌∷◌, ◌≡◌, ◌≤◌, List, None, Some, [], ap, arith, inl, inr, refl, subst, sym, ℕ, ⊎_elim}
use Rattle.std.proofs.lemmas.List.Concat.{flat_map-append}
use Rattle.std.proofs.lemmas.List.Elements.{Contains-append_cases, Contains-append_left, Contains-append_right}
use Rattle.std.specs.Prelude.{Contains, IsSome, max}
use Rattle.std.specs.declared.cmp.Ordering.{Ordering}

-- logs that are among others have no more entries
pub entries_in_logs : (these those : List ReplayedLog)
    → ((log : ReplayedLog) → Contains these log → Contains those log) → (entry : Entry)
    → Contains (log_entries these) entry → Contains (log_entries those) entry
entries_in_logs these those so entry c =
    let b = in_flat batch_entries (log_batches these) entry c in
    let l = in_flat (λ (log : ReplayedLog). log.batches) these b.0 b.1 in
    flat_in batch_entries (log_batches those) b.0 entry
    (flat_in (λ (log : ReplayedLog). log.batches) those l.0 b.0 (so l.0 l.1) l.2) b.2

-- one log of each number
pub one_has_log : (store : List ℕ) (files : Files) (a b : ReplayedLog) → a.number ≡ b.number
    → HasLog store files a → HasLog store files b → a ≡ b
one_has_log store files a b number p q =
    let file = some_is p.0 q.0 (sym p.1 ∙ ap (λ n. files (log_path store n)) number ∙ q.1) in
    one_log q.0 a b number (subst (λ f. IsLog f a) file p.2) q.2

module _ (store : List ℕ) (cmp : List ℕ → List ℕ → Ordering)
    (IsTableOf : List ℕ → List Pair → Type 0) (one : OneTableReading IsTableOf) where
  module _ (bound : ℕ) (files : Files) (edits : List Edit) (edit : Edit)
      (s :
      SwitchesLog store cmp IsTableOf bound files (live_after edits)
      (live_after (edits ++ edit ∷ [])))
      (left : Files) (contents : Contents) (leaves : FilesCrashTo files left)
      (most : contents.last ≤ bound)
      (m : IsManagedBy store cmp IsTableOf left edits contents) where
    abbrev after : List LiveTable
    after = s.added ++ s.before

    p : PartsAt s.log m.logs
    p = parts_at s.log m.logs m.has_logs.rising

    abbrev now : Contents
    now = contents_of m.comparator after p.back s.last.last

    in_front_too : (l : ReplayedLog) → Contains p.front l → Contains m.logs l
    in_front_too l c =
        subst (λ ls. Contains ls l) (sym p.parts) (Contains-append_left p.front p.back l c)

    in_back_too : (l : ReplayedLog) → Contains p.back l → Contains m.logs l
    in_back_too l c =
        subst (λ ls. Contains ls l) (sym p.parts) (Contains-append_right p.front p.back l c)

    from_log : (n : ℕ) → LogIsReplayed (live_after (edits ++ edit ∷ [])) n → s.log ≤ n
    from_log n (inl h) =
        let same : Some s.log ≡ Some h.0 = sym s.logs.new_log ∙ h.1 in
        let e = some_is s.log h.0 same in
        omega (arith, h.2, e)
    from_log n (inr h) = absurd (s.logs.no_previous n h.0 h.1)

    front_taken : (l : ReplayedLog) → Contains p.front l → Contains s.taken l
    front_taken l c =
        let h = m.has_logs.each l (in_front_too l c) in
        let less = p.before l c in
        let bytes = kept_left (files (log_path store l.number)) (left (log_path store l.number))
        (s.has_taken.kept l.number less h.1) (leaves (log_path store l.number)) in
        let was = log_on store cmp IsTableOf left files l (sym bytes) h.0 in
        let t = s.has_taken.all l.number less h.1
        (λ gone. let never : Some was.0 ≡ None = sym was.1 ∙ gone in cc) in
        subst (Contains s.taken)
        (one_has_log store files t.0 l t.2 (s.has_taken.each t.0 t.1).0 was) t.1

    taken_front : (l : ReplayedLog) → Contains s.taken l → Contains p.front l
    taken_front l c =
        let h = s.has_taken.each l c in
        let bytes = kept_left (files (log_path store l.number)) (left (log_path store l.number))
        (s.has_taken.kept l.number h.2 h.1) (leaves (log_path store l.number)) in
        let is = log_on store cmp IsTableOf files left l bytes h.0 in
        let a = m.has_logs.all (file_name Log l.number) l.number (made_name Log l.number h.3) h.1
        (λ gone. let never : Some is.0 ≡ None = sym is.1 ∙ gone in cc) in
        let same = one_has_log store left a.1.0 l a.1.2 (m.has_logs.each a.1.0 a.1.1).0 is in
        ⊎_elim (λ (f : Contains p.front l). f)
        (λ (b : Contains p.back l). let up = p.from l b in absurd (omega (arith, up, h.2)))
        (Contains-append_cases p.front p.back l
        (subst (λ ls. Contains ls l) p.parts (subst (Contains m.logs) same a.1.1)))

    -- the table has what the logs in front had
    wrote : SameEntries (table_entries s.added) (log_entries p.front)
    wrote entry = (
      λ c. entries_in_logs s.taken p.front taken_front entry ((s.wrote entry).0 c),
      λ c. (s.wrote entry).1 (entries_in_logs p.front s.taken front_taken entry c),
    )

    before_here : SameEntries (table_entries m.tables) (table_entries s.before)
    before_here = let has =
        tables_left store cmp IsTableOf files left
        (live_after edits) s.before s.has_before.kept leaves s.has_before.has in
        λ entry. (
          tables_in store cmp IsTableOf one left
              (live_after edits) m.tables s.before m.has_tables has entry,
          tables_in store cmp IsTableOf one left
              (live_after edits) s.before m.tables has m.has_tables entry,
        )

    entries_are : log_entries m.logs ≡ log_entries p.front ++ log_entries p.back
    entries_are = ap log_entries p.parts ∙ entries_parts p.front p.back

    after_are : table_entries after ≡ table_entries s.added ++ table_entries s.before
    after_are = flat_map-append (λ (t : LiveTable). t.entries) s.added s.before

    order : AreInOrder 0 (log_batches p.front ++ log_batches p.back)
    order = subst (AreInOrder 0) (ap log_batches p.parts ∙ batches_parts p.front p.back) m.fit.rise

    last_is : m.last ≡ s.last.before
    last_is = some_is m.last s.last.before (sym m.last_is ∙ s.last.old_last)

    managed : IsManagedBy store cmp IsTableOf left (edits ++ edit ∷ []) now
    managed = record {
      comparator = m.comparator;
      comparator_is = s.comparator ∙ m.comparator_is;
      log_is = subst IsSome (sym s.logs.new_log) refl;
      next_file_is = s.next_file;
      last = s.last.last;
      last_is = s.last.new_last;
      numbers_fit = edit_fits bound edits edit s.last m.numbers_fit;
      tables = after;
      has_tables =
          tables_left store cmp IsTableOf files left
          (live_after (edits ++ edit ∷ [])) after s.has_after.kept leaves s.has_after.has;
      logs = p.back;
      has_logs = record {
        each = λ l c. let h = m.has_logs.each l (in_back_too l c) in
            (h.0, inl (s.log, s.logs.new_log, p.from l c), h.2);
        all = λ name n is replayed some.
            let up = from_log n replayed in
            let a = m.has_logs.all name n is (s.logs.still n up) some in (
              a.0,
              (
                a.1.0,
                ⊎_elim
                    (λ (f : Contains p.front a.1.0). let low = p.before a.1.0 f in let e = a.1.2 in
                    absurd (omega (arith, low, e, up))) (λ (b : Contains p.back a.1.0). b)
                    (Contains-append_cases p.front p.back a.1.0
                    (subst (λ ls. Contains ls a.1.0) p.parts a.1.1)),
                a.1.2,
              ),
            );
        rising = p.rising;
      };
      fit = record {
        rise =
            order_low 0 (max 0 (greatest (all_entries (log_batches p.front)))) (log_batches p.back)
            (omega arith) (order_after 0 (log_batches p.front) (log_batches p.back) order);
        ends = λ a b in_a in_b. m.fit.ends a b (in_back_too a in_a) (in_back_too b in_b);
        numbered = λ entry c. ⊎_elim
            (λ (t : Contains (table_entries s.added) entry). (
              order_above 0 (log_batches m.logs) m.fit.rise entry
                  (entries_in_logs p.front m.logs in_front_too entry ((wrote entry).0 t)),
              s.reached entry t,
            ))
            (λ (i : Contains (table_entries s.before) entry). let n =
            m.fit.numbered entry ((before_here entry).1 i) in
            (n.0, omega (arith, n.1, last_is, s.last.later)))
            (Contains-append_cases (table_entries s.added) (table_entries s.before) entry
            (subst (λ es. Contains es entry) after_are c));
        below = λ entry later c l. ⊎_elim
            (λ (t : Contains (table_entries s.added) entry).
            let up = order_above (max 0 (greatest (all_entries (log_batches p.front))))
            (log_batches p.back)
            (order_after 0 (log_batches p.front) (log_batches p.back) order) later l in
            let low = up_to_greatest (log_entries p.front) entry ((wrote entry).0 t) in
            omega (arith, up, low))
            (λ (i : Contains (table_entries s.before) entry). m.fit.below entry later
            ((before_here entry).1 i) (entries_in_logs p.back m.logs in_back_too later l))
            (Contains-append_cases (table_entries s.added) (table_entries s.before) entry
            (subst (λ es. Contains es entry) after_are c));
        levels = s.levels;
      };
      is = refl;
    }

    same_entries :
        SameEntries ((table_entries s.added ++ table_entries s.before) ++ log_entries p.back)
        (table_entries m.tables ++ log_entries m.logs)
    same_entries entry = (
      λ c. ⊎_elim
          (λ (x : Contains (table_entries s.added ++ table_entries s.before) entry). ⊎_elim
          (λ (t : Contains (table_entries s.added) entry). Contains-append_right
          (table_entries m.tables) (log_entries m.logs) entry
          (entries_in_logs p.front m.logs in_front_too entry ((wrote entry).0 t)))
          (λ (i : Contains (table_entries s.before) entry). Contains-append_left
          (table_entries m.tables) (log_entries m.logs) entry ((before_here entry).1 i))
          (Contains-append_cases (table_entries s.added) (table_entries s.before) entry x))
          (λ (b : Contains (log_entries p.back) entry). Contains-append_right
          (table_entries m.tables) (log_entries m.logs) entry
          (entries_in_logs p.back m.logs in_back_too entry b))
          (Contains-append_cases (table_entries s.added ++ table_entries s.before)
          (log_entries p.back) entry c),
      λ c. ⊎_elim
          (λ (t : Contains (table_entries m.tables) entry). Contains-append_left
          (table_entries s.added ++ table_entries s.before) (log_entries p.back) entry
          (Contains-append_right (table_entries s.added) (table_entries s.before) entry
          ((before_here entry).0 t)))
          (λ (l : Contains (log_entries m.logs) entry). ⊎_elim
          (λ (f : Contains (log_entries p.front) entry). Contains-append_left
          (table_entries s.added ++ table_entries s.before) (log_entries p.back) entry
          (Contains-append_left (table_entries s.added) (table_entries s.before) entry
          ((wrote entry).1 f)))
          (λ (b : Contains (log_entries p.back) entry). Contains-append_right
          (table_entries s.added ++ table_entries s.before) (log_entries p.back) entry b)
          (Contains-append_cases (log_entries p.front) (log_entries p.back) entry
          (subst (λ es. Contains es entry) entries_are l)))
          (Contains-append_cases (table_entries m.tables) (log_entries m.logs) entry c),
    )

    old_last : contents.last ≡ max m.last (greatest (log_entries m.logs))
    old_last = ap (λ (c : Contents). c.last) m.is

    parts_greatest : greatest (log_entries m.logs) ≤ max s.last.last (greatest (log_entries p.back))
    parts_greatest =
        greatest_most (max s.last.last (greatest (log_entries p.back))) (log_entries m.logs)
        (λ entry c. ⊎_elim
        (λ (f : Contains (log_entries p.front) entry). let n =
        s.reached entry ((wrote entry).1 f) in omega (arith, n))
        (λ (b : Contains (log_entries p.back) entry). let n =
        up_to_greatest (log_entries p.back) entry b in omega (arith, n))
        (Contains-append_cases (log_entries p.front) (log_entries p.back) entry
        (subst (λ es. Contains es entry) entries_are c)))

    back_greatest : greatest (log_entries p.back) ≤ greatest (log_entries m.logs)
    back_greatest = greatest_most (greatest (log_entries m.logs)) (log_entries p.back)
        (λ entry c.
        up_to_greatest (log_entries m.logs) entry
        (entries_in_logs p.back m.logs in_back_too entry c))

    refines : Refines bound contents now
    refines = record {
      later = omega (arith, old_last, last_is, s.last.later, parts_greatest);
      bounded = omega (arith, old_last, most, s.last.bounded, back_greatest);
      store = sym (ap (λ (c : Contents). c.store) m.is);
      same =
          λ t late.
          subst (λ (c : Contents). SameView now.entries c.entries t) (sym m.is)
          (subst
          (λ es.
          SameView (es ++ log_entries p.back) (table_entries m.tables ++ log_entries m.logs) t)
          (sym after_are)
          (same_sets ((table_entries s.added ++ table_entries s.before) ++ log_entries p.back)
          (table_entries m.tables ++ log_entries m.logs) same_entries t));
      none_new =
          λ entry c.
          subst (λ (c : Contents). Contains c.entries entry) (sym m.is)
          ((same_entries entry).0
          (subst (λ es. Contains (es ++ log_entries p.back) entry) after_are c));
    }

  pub switch_refines : (bound : ℕ) (files : Files) (edits : List Edit) (edit : Edit)
      → SwitchesLog store cmp IsTableOf bound files (live_after edits)
      (live_after (edits ++ edit ∷ []))
      → EditRefines store cmp IsTableOf bound files edits edit
  switch_refines bound files edits edit s left contents leaves honest most m = (
    now bound files edits edit s left contents leaves most m,
    managed bound files edits edit s left contents leaves most m,
    refines bound files edits edit s left contents leaves most m,
  )
