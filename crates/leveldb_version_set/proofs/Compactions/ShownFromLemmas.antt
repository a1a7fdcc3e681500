-- After a compaction the same is shown, from the smallest held number on.
use Rattle.leveldb_base.specs.History.{Entry, History, SameView, entries_of, greatest}
use Rattle.leveldb_version_set.proofs.Compactions.CompactionLemmas.{keeps}
use Rattle.leveldb_files.proofs.Histories.ViewsLemmas.{greatest_most, view_trans}
use Rattle.leveldb_version_set.specs.Compactions.CompactionLaws.{KeepsLevelsAndViews}
use Rattle.leveldb_files.specs.Levels.Levels.{LiveTable, table_entries}
use Rattle.leveldb_version_set.specs.Compactions.ShownFrom.{CompactionsKeepShown, KeepsFrom, ShownIsKept}
use Rattle.leveldb_version_set.specs.Engines.Writing.{EngineMemory, ShowsHistory}
use Rattle.std.proofs.Common.{◌++◌, ◌≡◌, ◌≤◌, ◌⊎◌, List, append_assoc, arith, inl, inr, subst, sym, ℕ, ⊎_elim}
use Rattle.std.specs.Prelude.{Contains}
use Rattle.std.specs.declared.cmp.Ordering.{Ordering}

-- ---- what is shown from a number on

-- a call that keeps what is shown from every number on keeps it so, where what is shown from a
-- number on is shown from later ones on
pub keeps_each : (smallest : ℕ) (history : History) (Was Is : ℕ → Type 0)
    → ((a b : ℕ) → a ≤ b → Is a → Is b) → ((since : ℕ) → Was since → Is since)
    → KeepsFrom smallest history Was Is
keeps_each smallest history Was Is later each since from was late is =
    later since from late (each since was)

-- two calls in a row
pub keeps_both : (smallest : ℕ) (history : History) (A B C : ℕ → Type 0)
    → KeepsFrom smallest history A B → KeepsFrom smallest history B C
    → KeepsFrom smallest history A C
keeps_both smallest history A B C first second since from was late is =
    second from from (first since from was late is) (omega arith) is

-- ---- compactions

module _ (cmp : List ℕ → List ℕ → Ordering) where
  pub compactions_keep_shown : CompactionsKeepShown cmp
  compactions_keep_shown memory smallest level before inputs outputs after history total bounded
      known is_compaction since from s later is_from = record {
        same = λ t late. view_trans now was (entries_of history) t
            (subst (λ es. SameView es was t) grouped_now
            (subst (λ es. SameView (held ++ table_entries after) es t) grouped_was
            (λ key value. let v = compacted.views t (late_enough t late) key value in
            (v.1, v.0))))
            (s.same t (omega (arith, later, late)));
        up_to = λ entry c. s.up_to entry (regroup entry c);
        imm_older = s.imm_older;
        tables_older = compacted.older;
        levels = compacted.order;
      }
    where
      held : List Entry
      held = memory.mem ++ memory.imm

      now : List Entry
      now = memory.mem ++ (memory.imm ++ table_entries after)

      was : List Entry
      was = memory.mem ++ (memory.imm ++ table_entries before)

      grouped_now : held ++ table_entries after ≡ now
      grouped_now = append_assoc memory.mem memory.imm (table_entries after)

      grouped_was : held ++ table_entries before ≡ was
      grouped_was = append_assoc memory.mem memory.imm (table_entries before)

      compacted : KeepsLevelsAndViews cmp smallest before after held
      compacted = keeps cmp total smallest level before inputs outputs after held s.levels bounded
          known s.tables_older is_compaction

      regroup : (entry : Entry) → Contains now entry → Contains was entry
      regroup entry c = subst (λ es. Contains es entry) grouped_was
          (compacted.thins.made entry (subst (λ es. Contains es entry) (sym grouped_now) c))

      late_enough : (t : ℕ) → from ≤ t
          → (smallest ≤ t) ⊎ (greatest (held ++ table_entries before) ≤ t)
      late_enough t late = ⊎_elim
          (λ (low : smallest ≤ from). inl (omega (arith, low, late)))
          (λ (low : greatest (entries_of history) ≤ from).
          inr (greatest_most t (held ++ table_entries before) (λ entry c.
          let up = s.up_to entry (subst (λ es. Contains es entry) grouped_was c) in
          omega (arith, up, low, late)))) is_from

  -- what is shown from a number on is shown from each later one on
  pub shown_later : (memory : EngineMemory) (tables : List LiveTable) (history : History)
      (since then : ℕ) → since ≤ then → ShowsHistory cmp memory tables history since
      → ShowsHistory cmp memory tables history then
  shown_later memory tables history since then later s = record {
    same = λ t late. s.same t (omega (arith, later, late));
    up_to = s.up_to;
    imm_older = s.imm_older;
    tables_older = s.tables_older;
    levels = s.levels;
  }

  pub shown_is_kept : ShownIsKept cmp
  shown_is_kept = record {
    both = λ smallest a b c these those others history first second.
        keeps_both smallest history (ShowsHistory cmp a these history)
        (ShowsHistory cmp b those history) (ShowsHistory cmp c others history) first second;
    all = λ smallest memory other before after history each.
        keeps_each smallest history (ShowsHistory cmp memory before history)
        (ShowsHistory cmp other after history) (shown_later other after history) each;
    later = shown_later;
  }
