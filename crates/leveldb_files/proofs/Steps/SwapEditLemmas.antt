-- The edit of a compaction: tables are replaced by others with the same view. Whatever a crash
-- leaves of the logs, it shows the same.
use Rattle.std.specs.Option.{option_or}
use Rattle.leveldb_files.proofs.Edits.VersionSetLemmas.{applies_in_order}
use Rattle.leveldb_base.specs.History.{Entry, SameView, greatest}
use Rattle.leveldb_base.specs.Types.{Pair}
use Rattle.leveldb_env.specs.Env.{Files}
use Rattle.leveldb_files.proofs.Stores.KeptLemmas.{tables_left}
use Rattle.leveldb_files.proofs.Stores.LogsLemmas.{order_above}
use Rattle.leveldb_files.proofs.Histories.NumbersLemmas.{up_to_greatest as up_greatest}
use Rattle.leveldb_files.proofs.Stores.OneStoreLemmas.{tables_in}
use Rattle.leveldb_files.proofs.Histories.SafeLemmas.{some_is}
use Rattle.leveldb_files.proofs.Histories.ViewsLemmas.{append_sets, greatest_most, same_sets, same_with_later, turned, view_trans}
use Rattle.leveldb_files.specs.Stores.Contents.{Contents}
use Rattle.leveldb_files.specs.Levels.Levels.{table_entries}
use Rattle.leveldb_files.specs.Stores.Store.{IsManagedBy, LogIsReplayed, LastNumbersFit, OneTableReading, SameEntries, contents_of, log_batches, log_entries}
use Rattle.leveldb_files.specs.Steps.StoreSteps.{EditRefines, LastRises, Refines, SwapsTables}
use Rattle.leveldb_files.specs.Edits.Edit.{Edit}
use Rattle.leveldb_files.specs.Edits.VersionSet.{FileSet, live_after}
use Rattle.std.proofs.Common.{◌++◌, ◌∙◌, ◌∷◌, ◌≡◌, ◌≤◌, List, Some, [], ap, arith, inl, inr, refl, subst, sym, ℕ, ⊎_elim}
use Rattle.std.proofs.lemmas.List.Elements.{Contains-append_cases, Contains-append_left, Contains-append_right, Contains-push_cases}
use Rattle.std.specs.Prelude.{Contains, IsSome, max}
use Rattle.std.specs.declared.cmp.Ordering.{Ordering}

-- which logs are replayed goes by two numbers
pub replayed_by : (old new : FileSet) (n : ℕ) → new.log_number ≡ old.log_number
    → new.previous_log ≡ old.previous_log → LogIsReplayed old n → LogIsReplayed new n
replayed_by old new n log previous (inl (l, is, le)) = inl (l, log ∙ is, le)
replayed_by old new n log previous (inr (is, pos)) = inr (previous ∙ is, pos)

-- the edit's last sequence number is the set's, so it fits where that does
pub edit_fits : (bound : ℕ) (edits : List Edit) (edit : Edit)
    → LastRises bound (live_after edits) (live_after (edits ++ edit ∷ [])) → LastNumbersFit edits
    → LastNumbersFit (edits ++ edit ∷ [])
edit_fits bound edits edit rises fits one n c is = ⊎_elim
    (λ (old : Contains edits one). fits one n old is)
    (λ (e : edit ≡ one).
    let set : (live_after (edits ++ edit ∷ [])).last_sequence ≡ Some n =
    (applies_in_order edits edit).last_sequence
    ∙ ap (λ o. option_or o (live_after edits).last_sequence)
    (ap (λ (x : Edit). x.last_sequence) e ∙ is) in
    let same = some_is rises.last n (sym rises.new_last ∙ set) in
    omega (arith, same, rises.fits))
    (Contains-push_cases edits edit one c)

module _ (store : List ℕ) (cmp : List ℕ → List ℕ → Ordering)
    (IsTableOf : List ℕ → List Pair → Type 0) (one : OneTableReading IsTableOf) where
  pub swap_refines : (bound : ℕ) (files : Files) (edits : List Edit) (edit : Edit)
      → SwapsTables store cmp IsTableOf bound files (live_after edits)
      (live_after (edits ++ edit ∷ []))
      → EditRefines store cmp IsTableOf bound files edits edit
  swap_refines bound files edits edit s left contents leaves honest most m = (now, managed, refines)
    where
      now : Contents
      now = contents_of m.comparator s.after m.logs s.last.last

      before_here : SameEntries (table_entries m.tables) (table_entries s.before)
      before_here = let has =
          tables_left store cmp IsTableOf files left
          (live_after edits) s.before s.has_before.kept leaves s.has_before.has in
          λ entry. (
            tables_in store cmp IsTableOf one left
                (live_after edits) m.tables s.before m.has_tables has entry,
            tables_in store cmp IsTableOf one left
                (live_after edits) s.before m.tables has m.has_tables entry,
          )

      old_entry : (entry : Entry) → Contains (table_entries s.after) entry
          → Contains (table_entries m.tables) entry
      old_entry entry c = (before_here entry).1 (s.none_new entry c)

      last_is : m.last ≡ s.last.before
      last_is = some_is m.last s.last.before (sym m.last_is ∙ s.last.old_last)

      managed : IsManagedBy store cmp IsTableOf left (edits ++ edit ∷ []) now
      managed = record {
        comparator = m.comparator;
        comparator_is = s.comparator ∙ m.comparator_is;
        log_is = subst IsSome (sym s.log_number) m.log_is;
        next_file_is = s.next_file;
        last = s.last.last;
        last_is = s.last.new_last;
        numbers_fit = edit_fits bound edits edit s.last m.numbers_fit;
        tables = s.after;
        has_tables =
            tables_left store cmp IsTableOf files left
            (live_after (edits ++ edit ∷ [])) s.after s.has_after.kept leaves s.has_after.has;
        logs = m.logs;
        has_logs = record {
          each = λ log c. let h = m.has_logs.each log c in (
            h.0,
            replayed_by (live_after edits)
                (live_after (edits ++ edit ∷ [])) log.number s.log_number s.previous_log h.1,
            h.2,
          );
          all =
              λ name n is replayed some.
              m.has_logs.all name n is
              (replayed_by (live_after (edits ++ edit ∷ [])) (live_after edits) n (sym s.log_number)
              (sym s.previous_log) replayed) some;
          rising = m.has_logs.rising;
        };
        fit = record {
          rise = m.fit.rise;
          ends = m.fit.ends;
          numbered = λ entry c. let n = m.fit.numbered entry (old_entry entry c) in
              (n.0, omega (arith, n.1, last_is, s.last.later));
          below = λ entry later c l. m.fit.below entry later (old_entry entry c) l;
          levels = s.levels;
        };
        is = refl;
      }

      old_is : contents.last ≡ max m.last (greatest (log_entries m.logs))
      old_is = ap (λ (c : Contents). c.last) m.is

      same_view : (t : ℕ) → max s.last.last (greatest (log_entries m.logs)) ≤ t
          → SameView (table_entries s.after ++ log_entries m.logs)
          (table_entries m.tables ++ log_entries m.logs) t
      same_view t late =
          view_trans (table_entries s.after ++ log_entries m.logs)
          (table_entries s.before ++ log_entries m.logs)
          (table_entries m.tables ++ log_entries m.logs) t
          (same_with_later (table_entries s.after) (table_entries s.before) (log_entries m.logs) t
          (greatest_most (greatest (table_entries s.before)) (table_entries s.after)
          (λ entry c. up_greatest (table_entries s.before) entry (s.none_new entry c)))
          (λ entry later c l. m.fit.below entry later ((before_here entry).1 c) l)
          (λ later l. order_above 0 (log_batches m.logs) m.fit.rise later l)
          (s.same t (omega (arith, late, before_low))))
          (same_sets (table_entries s.before ++ log_entries m.logs)
          (table_entries m.tables ++ log_entries m.logs)
          (append_sets (table_entries s.before) (table_entries m.tables) (log_entries m.logs)
          (turned (table_entries m.tables) (table_entries s.before) before_here)) t)
        where
          before_low : greatest (table_entries s.before) ≤ s.last.last
          before_low = greatest_most s.last.last (table_entries s.before)
              (λ entry c. let n = m.fit.numbered entry ((before_here entry).1 c) in
              omega (arith, n.1, last_is, s.last.later))

      refines : Refines bound contents now
      refines = record {
        later = omega (arith, old_is, last_is, s.last.later);
        bounded = omega (arith, old_is, most, s.last.bounded);
        store = sym (ap (λ (c : Contents). c.store) m.is);
        same =
            λ t late.
            subst (λ (c : Contents). SameView now.entries c.entries t) (sym m.is)
            (same_view t late);
        none_new = λ entry c. subst (λ (c : Contents). Contains c.entries entry) (sym m.is) (⊎_elim
            (λ (out : Contains (table_entries s.after) entry). Contains-append_left
            (table_entries m.tables) (log_entries m.logs) entry (old_entry entry out))
            (λ (new : Contains (log_entries m.logs) entry). Contains-append_right
            (table_entries m.tables) (log_entries m.logs) entry new)
            (Contains-append_cases (table_entries s.after) (log_entries m.logs) entry c));
      }
