-- The edit of a compaction changes nothing that is shown, and it may be logged. A table that is
-- moved is a compaction's output.
use Rattle.leveldb_base.proofs.HistoryLemmas.{in_front, in_none}
use Rattle.leveldb_base.proofs.ThinningLemmas.{at_most_greatest}
use Rattle.leveldb_base.specs.CmpLaws.{user_part-internal_key}
use Rattle.leveldb_base.specs.History.{Entry, SameView, greatest}
use Rattle.leveldb_base.specs.KeyTypes.{user_part}
use Rattle.leveldb_base.specs.Layers.{IsOlder}
use Rattle.leveldb_base.specs.Types.{Pair}
use Rattle.leveldb_env.specs.Env.{AreBytes, Files}
use Rattle.leveldb_mem.specs.Log.Writer.{frame}
use Rattle.leveldb_version_set.proofs.Compactions.CompactionLemmas.{keeps, newer_where_it_stays, of_input}
use Rattle.leveldb_version_set.proofs.Sets.EditLoggedLemmas.{edits_are_logged, from_log, new_log, still}
use Rattle.leveldb_files.proofs.Edits.EditTablesLemmas.{live_then, tables_then}
use Rattle.leveldb_version_set.proofs.Engines.LogTablesLemmas.{same_place}
use Rattle.leveldb_version_set.proofs.Engines.LogsBelowLemmas.{log_of}
use Rattle.leveldb_files.proofs.Stores.LogsLemmas.{PartsAt, parts_at}
use Rattle.leveldb_files.proofs.Stores.OneStoreLemmas.{one_table}
use Rattle.leveldb_version.proofs.Versions.PairwiseLemmas.{each_first}
use Rattle.leveldb_version_set.proofs.Compactions.ReplacingLemmas.{replacing_refines}
use Rattle.leveldb_files.proofs.Histories.SafeLemmas.{some_is}
use Rattle.leveldb_version_set.proofs.Sets.TracksLemmas.{NumbersAre, numbers_are}
use Rattle.leveldb_files.proofs.Edits.VersionSetLemmas.{applies_in_order, is_same_file-refl}
use Rattle.leveldb_files.proofs.Histories.ViewsLemmas.{greatest_most, same_sets, view_trans}
use Rattle.leveldb_version_set.proofs.Engines.ImmLemmas.{front_is_in, logs_below, only_one, same_number}
use Rattle.leveldb_version_set.specs.Compactions.Compaction.{AreKnownByNumber, Compacts, IsTight, ReplacesInputs, moved}
use Rattle.leveldb_version_set.specs.Compactions.CompactionEdit.{CompactionsAreLogged, EditIsLogged, HasMadeOutputs, IsCompactionEdit, LiveTablesAreKnown, MadeOutputsCompact, MovesCompact}
use Rattle.leveldb_version_set.specs.Compactions.CompactionLaws.{KeepsLevelsAndViews}
use Rattle.leveldb_files.specs.Stores.Contents.{Contents, Store}
use Rattle.leveldb_files.specs.Levels.Levels.{LevelOrder, LiveTable, table_entries}
use Rattle.leveldb_version_set.specs.Sets.LogEdit.{edit_record, set_appended, with_bytes_kept, written_edit}
use Rattle.leveldb_files.specs.Stores.Paths.{table_path}
use Rattle.leveldb_version_set.specs.Compactions.Replacing.{ReplacesTables}
use Rattle.leveldb_files.specs.Stores.Store.{HasTable, HasTables, IsInternalPair, IsManagedBy, LogIsReplayed, OneTableReading, SameEntries, log_entries}
use Rattle.leveldb_files.specs.Steps.StoreSteps.{AreLogsBelow, AreTablesAfter, EditRefines, HasAddedTables, IsKept, LeavesAlone, TablesAreKept}
use Rattle.leveldb_files.specs.Edits.Edit.{Edit, IsEncodable, LevelFile, NewFile}
use Rattle.leveldb_files.specs.Edits.VersionSet.{FileSet, is_same_file, level_file, live_after}
use Rattle.leveldb_version_set.specs.Engines.Writing.{EngineMemory, IsWrittenBy}
use Rattle.leveldb_version_set.specs.Engines.WritingLaws.{TablesAreInRange}
use Rattle.std.proofs.Common.{◌++◌, ◌+◌, ◌<◌, ◌^◌, ◌∙◌, ◌∷◌, ◌≡◌, ◌≤◌, Bool, List, Some, [], ap, arith, false, inl, inr, refl, subst, sym, true, ℕ, ⊎_elim}
use Rattle.std.proofs.lemmas.List.Elements.{Contains-append_cases, Contains-append_left, Contains-append_right}
use Rattle.std.specs.Cmp.{IsTotalOrder}
use Rattle.std.specs.Option.{option_or}
use Rattle.std.specs.Prelude.{Contains, IsSome, max}
use Rattle.std.specs.declared.cmp.Ordering.{Ordering}

true_is_false : {A : Type 0} {b : Bool} → b ≡ true → b ≡ false → A
true_is_false t f = let never : true ≡ false = sym t ∙ f in cc

-- ---- tables

module _ (store : List ℕ) (cmp : List ℕ → List ℕ → Ordering)
    (IsTableOf : List ℕ → List Pair → Type 0) where
  -- an entry of a pair has the user key of the pair's key
  key_of : (pair : Pair) (entry : Entry) → IsInternalPair pair entry
      → entry.key ≡ user_part pair.0
  key_of pair entry is = sym (user_part-internal_key entry.key entry.sequence is.kind)
      ∙ ap user_part (sym is.key)

  -- the file of a table that is there has the range of its keys
  pub tight_of : (files : Files) (table : LiveTable) → HasTable store cmp IsTableOf files table
      → IsTight table
  tight_of files table has = record {
    first = let first = has.smallest in
        let e = each_first IsInternalPair has.pairs table.entries
        (table.file.smallest, first.0) has.each
        (subst (λ ps. Contains ps (table.file.smallest, first.0)) (sym first.2)
        (in_front (table.file.smallest, first.0) first.1)) in
        (e.0, e.1, key_of (table.file.smallest, first.0) e.0 e.2);
    last = let last = has.largest in
        let e = each_first IsInternalPair has.pairs table.entries
        (table.file.largest, last.1) has.each
        (subst (λ ps. Contains ps (table.file.largest, last.1)) (sym last.2)
        (Contains-append_right last.0 ((table.file.largest, last.1) ∷ [])
        (table.file.largest, last.1) (in_front (table.file.largest, last.1) []))) in
        (e.0, e.1, key_of (table.file.largest, last.1) e.0 e.2);
  }

  pub made_outputs_compact : MadeOutputsCompact store cmp IsTableOf
  made_outputs_compact ranges files smallest level before inputs outputs after_it h others = record {
    may = h.may;
    there = h.there;
    made = record {
      levels = λ a c. (h.each a c).2;
      bounded = λ a c. ranges files a (h.each a c).0;
      tight = λ a c. tight_of files a (h.each a c).0;
      known = h.known;
      apart = h.apart;
    };
    drops = h.drops;
    after_is = others;
  }

  module _ (one : OneTableReading IsTableOf) where
    -- live tables of one file are one
    pub one_live : (files : Files) (a b : LiveTable) → a.file ≡ b.file
        → HasTable store cmp IsTableOf files a → HasTable store cmp IsTableOf files b → a ≡ b
    one_live files a b file p q =
        let entries = one_table store cmp IsTableOf one files a b file p q in
        λ i. record { file = file i; entries = entries i }

    -- live tables are each there known
    pub live_known : (files : Files) (set : FileSet) (tables : List LiveTable)
        → HasTables store cmp IsTableOf files set tables → AreKnownByNumber tables
    live_known files set tables has a b c d level number =
        let h = has.each a c in
        let k = has.each b d in
        let at : level_file a.file ≡ level_file b.file = λ i. (level i, number i) in
        let file = some_is a.file b.file (sym h.1 ∙ ap set.file at ∙ k.1) in
        one_live files a b file h.0 k.0

    -- whichever list they are in, their levels are in order
    pub live_order : (files : Files) (set : FileSet) (these those : List LiveTable)
        → HasTables store cmp IsTableOf files set these
        → HasTables store cmp IsTableOf files set those → LevelOrder cmp these
        → LevelOrder cmp those
    live_order files set these those p q order = record {
      disjoint = λ a b c d. order.disjoint a b (among a c) (among b d);
      deeper = λ a b c d. order.deeper a b (among a c) (among b d);
      newer = λ a b c d. order.newer a b (among a c) (among b d);
    }
      where
        among : (table : LiveTable) → Contains those table → Contains these table
        among table c =
            let h = q.each table c in
            let u = p.all table.file h.1 in
            subst (Contains these) (one_live files u.0 table u.2 (p.each u.0 u.1).0 h.0) u.1

  pub live_tables_are_known : LiveTablesAreKnown store cmp IsTableOf
  live_tables_are_known one files set tables has = live_known one files set tables has

-- ---- the edit of a compaction

module _ (store : List ℕ) (cmp : List ℕ → List ℕ → Ordering)
    (IsTableOf : List ℕ → List Pair → Type 0) (allowed : Store → Type 0) where
  module _ (one : OneTableReading IsTableOf) (total : IsTotalOrder cmp)
      (ranges : TablesAreInRange store cmp IsTableOf) (files : Files) (edits : List Edit)
      (memory : EngineMemory) (w : IsWrittenBy store cmp IsTableOf files edits memory)
      (none : memory.imm ≡ []) (smallest level : ℕ)
      (before inputs outputs after_it : List LiveTable)
      (has : HasTables store cmp IsTableOf files (live_after edits) before)
      (h : HasMadeOutputs store cmp IsTableOf files smallest level before inputs outputs)
      (others : ReplacesInputs before inputs outputs after_it) (plain : Edit)
      (is : IsCompactionEdit memory.log inputs outputs plain)
      (can : IsEncodable (written_edit memory.set plain)) where
    abbrev edit : Edit
    edit = written_edit memory.set plain

    abbrev then : List Edit
    then = edits ++ edit ∷ []

    abbrev m : IsManagedBy store cmp IsTableOf files edits w.tracked.contents
    m = w.tracked.managed

    n : NumbersAre edits memory.set plain
    n = numbers_are edits memory.set plain

    p : PartsAt memory.log m.logs
    p = parts_at memory.log m.logs m.has_logs.rising

    -- ---- its tables

    is_compaction : Compacts cmp smallest level before inputs outputs after_it
    is_compaction = made_outputs_compact store cmp IsTableOf ranges files smallest level before inputs
        outputs after_it h others

    order : LevelOrder cmp before
    order = live_order store cmp IsTableOf one files (live_after edits) m.tables before
        m.has_tables has m.fit.levels

    known : AreKnownByNumber before
    known = live_known store cmp IsTableOf one files (live_after edits) before has

    no_memory : IsOlder (table_entries before) []
    no_memory a b c d k = absurd (in_none b d)

    compacted : KeepsLevelsAndViews cmp smallest before after_it []
    compacted = keeps cmp total smallest level before inputs outputs after_it [] order
        (λ a c. ranges files a (has.each a c).0) known no_memory is_compaction

    -- no table that stays is of the level and number of an output
    no_other_stays : (o t : LiveTable) → Contains outputs o → Contains before t
        → (Contains inputs t → ⊥) → o.file.level ≡ t.file.level
        → o.file.number ≡ t.file.number → ⊥
    no_other_stays o t out old stays same_level number =
        let x = (is_compaction.made.tight o out).first in
        let from = of_input cmp total smallest level before inputs outputs after_it [] order
        (λ a c. ranges files a (has.each a c).0) known no_memory is_compaction o x.0 out x.1 in
        let same = same_number store cmp IsTableOf one files o t number (h.each o out).0
        (has.each t old).0 in
        let at = (h.each o out).2 in
        ⊎_elim
        (λ (less : x.0.sequence < x.0.sequence). omega (arith, less))
        (λ (deep : level + 1 < t.file.level). omega (arith, deep, at, same_level))
        (newer_where_it_stays cmp total smallest level before inputs outputs after_it [] order
        (λ a c. ranges files a (has.each a c).0) known no_memory is_compaction from.0 t x.0 x.0 from.1
        old stays from.2 (subst (λ es. Contains es x.0) same x.1) refl)

    alone : (t : LiveTable) → Contains before t → (Contains inputs t → ⊥)
        → LeavesAlone edit (level_file t.file)
    alone t old stays = record { deleted = deleted; added = added }
      where
        deleted : (at : LevelFile) → Contains edit.deleted at
            → is_same_file at (level_file t.file) ≡ false
        deleted at c = by (is_same_file at (level_file t.file)) refl
          where
            by : (b : Bool) → is_same_file at (level_file t.file) ≡ b
                → is_same_file at (level_file t.file) ≡ false
            by false e = e
            by true e =
                let a = (is.deleted at).0 c in
                let same = same_place a.0.file t.file
                (subst (λ x. is_same_file x (level_file t.file) ≡ true) (sym a.2) e) in
                absurd (stays (subst (Contains inputs)
                (known a.0 t (h.there a.0 a.1) old same.0 same.1) a.1))

        added : (file : NewFile) → Contains edit.added file
            → is_same_file (level_file file) (level_file t.file) ≡ false
        added file c = by (is_same_file (level_file file) (level_file t.file)) refl
          where
            by : (b : Bool) → is_same_file (level_file file) (level_file t.file) ≡ b
                → is_same_file (level_file file) (level_file t.file) ≡ false
            by false e = e
            by true e =
                let o = (is.added file).0 c in
                let same = same_place o.0.file t.file
                (subst (λ (x : NewFile). is_same_file (level_file x) (level_file t.file) ≡ true)
                (sym o.2) e) in
                absurd (no_other_stays o.0 t o.1 old stays same.0 same.1)

    tables_after : AreTablesAfter edit before outputs after_it
    tables_after t = (
      λ c. ⊎_elim
          (λ (o : Contains outputs t). inl o)
          (λ (s : Contains before t × (Contains inputs t → ⊥)). inr (s.0, alone t s.0 s.1))
          ((others t).0 c),
      λ c. ⊎_elim
          (λ (o : Contains outputs t). (others t).1 (inl o))
          (λ (s : Contains before t × LeavesAlone edit (level_file t.file)).
          (others t).1 (inr (
            s.0,
            λ there. true_is_false (is_same_file-refl (level_file t.file))
                (s.1.deleted (level_file t.file)
                ((is.deleted (level_file t.file)).1 (t, there, refl))),
          )))
          c,
    )

    added : HasAddedTables store cmp IsTableOf files edit outputs
    added = record {
      each = λ t c. let k = h.each t c in
          (k.0, (is.added t.file).1 (t, c, refl), k.3);
      all = λ file c. (is.added file).0 c;
      once = λ file other c d e.
          let x = (is.added file).0 c in
          let y = (is.added other).0 d in
          let same = same_place other file e in
          let tables = h.known y.0 x.0 y.1 x.1
          (ap (λ (f : NewFile). f.level) y.2 ∙ same.0 ∙ ap (λ (f : NewFile). f.level) (sym x.2))
          (ap (λ (f : NewFile). f.number) y.2 ∙ same.1
          ∙ ap (λ (f : NewFile). f.number) (sym x.2)) in
          sym y.2 ∙ ap (λ (t : LiveTable). t.file) tables ∙ x.2;
    }

    tables_kept : TablesAreKept store files (live_after then)
    tables_kept file fits live = ⊎_elim
        (λ (new : Contains edit.added file
        × (is_same_file (level_file file) (level_file file) ≡ true)).
        let x = (is.added file).0 new.0 in
        subst (λ (f : NewFile). IsKept (files (table_path store f.number))) x.2
        (h.each x.0 x.1).1)
        (λ (old : ((live_after edits).file (level_file file) ≡ Some file)
        × LeavesAlone edit (level_file file)). w.writable.tables file fits old.0)
        (live_then edits edit (level_file file) file live)

    tables_then_are : HasTables store cmp IsTableOf files (live_after then) after_it
    tables_then_are = tables_then store cmp IsTableOf files edits edit before outputs after_it has added
        tables_after

    -- ---- its logs

    log_named : (live_after then).log_number ≡ Some memory.log
    log_named =
        new_log store cmp IsTableOf allowed files edits memory w plain is.log_number

    logs_from : (k : ℕ) → LogIsReplayed (live_after then) k → memory.log ≤ k
    logs_from = from_log store cmp IsTableOf allowed files edits memory w plain is.log_number

    taken : AreLogsBelow store files (live_after edits) memory.log p.front
    taken = logs_below store cmp IsTableOf files edits memory w p

    -- they have no entries, since the immutable memtable has none
    nothing : (entry : Entry) → Contains (log_entries p.front) entry → ⊥
    nothing entry c =
        let l = log_of p.front entry c in
        in_none entry (subst (λ es. Contains es entry) none ((w.imm_is entry).1
        (l.0, front_is_in memory.log m.logs p l.0 l.1, p.before l.0 l.1, l.2)))

    -- ---- it changes nothing that is shown

    was_is : SameEntries (table_entries before) (table_entries before ++ log_entries p.front)
    was_is entry = (
      λ c. Contains-append_left (table_entries before) (log_entries p.front) entry c,
      λ c. ⊎_elim (λ (b : Contains (table_entries before) entry). b)
          (λ (l : Contains (log_entries p.front) entry). absurd (nothing entry l))
          (Contains-append_cases (table_entries before) (log_entries p.front) entry c),
    )

    found_last : w.tracked.contents.last ≡ max m.last (greatest (log_entries m.logs))
    found_last = ap (λ (c : Contents). c.last) m.is

    same_view : (t : ℕ) → greatest (table_entries before ++ log_entries p.front) ≤ t
        → SameView (table_entries after_it) (table_entries before ++ log_entries p.front) t
    same_view t late = view_trans (table_entries after_it) (table_entries before)
        (table_entries before ++ log_entries p.front) t
        (λ key value. let v = compacted.views t (inr low) key value in (v.1, v.0))
        (same_sets (table_entries before) (table_entries before ++ log_entries p.front) was_is t)
      where
        low : greatest (table_entries before) ≤ t
        low = greatest_most t (table_entries before) (λ entry c.
            let up = at_most_greatest (table_entries before ++ log_entries p.front) entry
            ((was_is entry).0 c) in
            omega (arith, up, late))

    replaces : (bound : ℕ) → memory.set.last_sequence ≤ bound
        → ReplacesTables store cmp IsTableOf bound files (live_after edits) (live_after then)
    replaces bound most = record {
      before = before;
      has_before = record { has = has; kept = w.writable.tables };
      after = after_it;
      has_after = record { has = tables_then_are; kept = tables_kept };
      levels = compacted.order;
      log = memory.log;
      logs = λ k. (
        λ r. let up = logs_from k r in (
          still store cmp IsTableOf allowed files edits memory w plain is.log_number k up,
          up,
        ),
        λ r. inl (memory.log, log_named, r.1),
      );
      taken = p.front;
      has_taken = taken;
      none_new = λ entry c. (was_is entry).0 (compacted.none_new entry c);
      same = same_view;
      comparator = (applies_in_order edits edit).comparator
          ∙ ap (λ o. option_or o (live_after edits).comparator) is.comparator;
      log_number = λ some. subst IsSome (sym log_named) refl;
      next_file = subst IsSome (sym n.next_file) refl;
      last = record {
        before = m.last;
        last = memory.set.last_sequence;
        old_last = m.last_is;
        new_last = n.last_sequence;
        later = omega (arith, found_last, w.reached);
        bounded = most;
        fits = w.last_fits;
      };
      reached = λ entry c. absurd (nothing entry c);
    }

    refines : (bound : ℕ) → memory.set.last_sequence ≤ bound
        → EditRefines store cmp IsTableOf bound files edits edit
    refines bound most =
        replacing_refines store cmp IsTableOf one bound files edits edit (replaces bound most)

    logged : AreBytes (edit_record memory.set plain)
        → EditIsLogged store cmp IsTableOf allowed files edits memory w plain
    logged bytes = edits_are_logged store cmp IsTableOf allowed files edits memory w plain
        is.log_number refines tables_kept can bytes

  pub compactions_are_logged : CompactionsAreLogged store cmp IsTableOf allowed
  compactions_are_logged one total ranges files edits memory w none smallest level before inputs
      outputs after_it has h others plain is can bytes = record {
        keeps = it.keeps;
        tables = it.tables after_it (tables_then_are one total ranges files edits memory w none
            smallest level before inputs outputs after_it has h others plain is can);
        written = subst (λ es. IsWrittenBy store cmp IsTableOf
            (with_bytes_kept w.manifest.path
            (frame w.manifest.writer (edit_record memory.set plain)) files)
            (edits ++ written_edit memory.set plain ∷ [])
            (record memory { set = set_appended w.manifest memory.set plain; imm = es }))
            (sym none) it.written;
      }
    where
      it : EditIsLogged store cmp IsTableOf allowed files edits memory w plain
      it = logged one total ranges files edits memory w none smallest level before inputs outputs
          after_it has h others plain is can bytes

-- ---- moves

module _ (store : List ℕ) (cmp : List ℕ → List ℕ → Ordering)
    (IsTableOf : List ℕ → List Pair → Type 0) where
  pub moves_compact : MovesCompact store cmp IsTableOf
  moves_compact files set smallest level before table has there at kept may = record {
    may = may;
    there = λ a c. subst (Contains before) (only_one table a c) there;
    each = λ a c. subst (λ (t : LiveTable). HasTable store cmp IsTableOf files t
        × IsKept (files (table_path store t.file.number)) × (t.file.level ≡ level + 1)
        × (t.file.number < 2 ^ 64)) (only_one (moved table) a c)
        (moved_has, kept, ap (λ k. k + 1) at, (has.each table there).2);
    known = λ a b c d level_is number_is.
        sym (only_one (moved table) a c) ∙ only_one (moved table) b d;
    apart = λ a b c d differ. absurd (differ (ap (λ (t : LiveTable). t.file.number)
        (sym (only_one (moved table) a c) ∙ only_one (moved table) b d)));
    drops = record { made = λ entry c. c; kept = λ entry c. inl c };
  }
    where
      h : HasTable store cmp IsTableOf files table
      h = (has.each table there).0

      moved_has : HasTable store cmp IsTableOf files (moved table)
      moved_has = record {
        file = h.file;
        there = h.there;
        pairs = h.pairs;
        read = h.read;
        each = h.each;
        size = h.size;
        smallest = h.smallest;
        largest = h.largest;
      }
