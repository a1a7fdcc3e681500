-- Tables take the place of the logs below a number: their edit changes nothing that is shown.
use Rattle.leveldb_base.proofs.EntriesLemmas.{in_map}
use Rattle.leveldb_base.proofs.HistoryLemmas.{in_none}
use Rattle.leveldb_base.specs.History.{AreUpTo, Entry, greatest}
use Rattle.leveldb_base.specs.KeyTypes.{greatest_sequence}
use Rattle.leveldb_base.specs.Types.{Pair}
use Rattle.leveldb_env.specs.Env.{Files}
use Rattle.leveldb_files.proofs.Edits.EditTablesLemmas.{live_then, tables_then}
use Rattle.leveldb_version_set.proofs.Engines.LogsBelowLemmas.{below_in_logs, in_logs, log_of}
use Rattle.leveldb_files.proofs.Histories.NumbersLemmas.{up_to_greatest}
use Rattle.leveldb_files.proofs.Histories.SafeLemmas.{some_is}
use Rattle.leveldb_files.proofs.Steps.SwitchEditLemmas.{switch_refines}
use Rattle.leveldb_version_set.proofs.Sets.TracksLemmas.{NumbersAre, numbers_are}
use Rattle.leveldb_files.proofs.Edits.VersionSetLemmas.{applies_in_order}
use Rattle.leveldb_files.specs.Stores.Contents.{Contents}
use Rattle.leveldb_files.specs.Levels.Levels.{LevelOrder, LiveTable, table_entries}
use Rattle.leveldb_version_set.specs.Sets.LogEdit.{written_edit}
use Rattle.leveldb_version_set.specs.Engines.Opening.{tables_edit}
use Rattle.leveldb_files.specs.Stores.Paths.{table_path}
use Rattle.leveldb_files.specs.Stores.Store.{IsManagedBy, LogIsReplayed, OneTableReading, ReplayedLog, SameEntries, log_entries}
use Rattle.leveldb_files.specs.Steps.StoreSteps.{AreLogsBelow, AreTablesAfter, EditRefines, HasAddedTables, IsKept, LeavesAlone, ReplaysFrom, SwitchesLog, TablesAreKept}
use Rattle.leveldb_files.specs.Edits.Edit.{Edit, NewFile}
use Rattle.leveldb_files.specs.Edits.VersionSet.{is_same_file, level_file, live_after}
use Rattle.leveldb_version_set.specs.Sets.VersionSetValue.{VersionSetValue}
use Rattle.leveldb_version_set.specs.Engines.Writing.{IsTrackedBy}
use Rattle.std.proofs.Common.{◌++◌, ◌∙◌, ◌∷◌, ◌≡◌, ◌≤◌, ◌==◌, ◌&&◌, Bool, List, Some, [], ap, arith, false, inl, inr, map, refl, subst, sym, true, ℕ, ⊎_elim}
use Rattle.std.proofs.lemmas.Bool.{eqb-true}
use Rattle.std.proofs.lemmas.List.Elements.{Contains-append_cases, Contains-append_left, Contains-append_right}
use Rattle.std.specs.Prelude.{Contains, IsSome, max}
use Rattle.std.specs.declared.cmp.Ordering.{Ordering}

-- ---- files of levels

both_true : (a b : Bool) → (a && b) ≡ true → (a ≡ true) × (b ≡ true)
both_true true b e = (refl, e)
both_true false b e = absurd cc

-- files of the same place have one level and one number
pub same_place : (a b : NewFile) → is_same_file (level_file a) (level_file b) ≡ true
    → (a.level ≡ b.level) × (a.number ≡ b.number)
same_place a b e =
    let both = both_true (a.level == b.level) (a.number == b.number) e in
    (eqb-true a.level b.level both.0, eqb-true a.number b.number both.1)

-- ---- tables in place of logs

-- What it is to an edit that tables take the place of the logs below a number: the edit changes
-- nothing that is shown, the tables are kept after it, and then the logs from that number on are
-- replayed, as they were before.
pub record TakesLogs (store : List ℕ) (cmp : List ℕ → List ℕ → Ordering)
    (IsTableOf : List ℕ → List Pair → Type 0) (files : Files) (edits : List Edit)
    (set : VersionSetValue) (log : ℕ) (edit : Edit) : Type 0 where
  pub refines : (bound : ℕ) → set.last_sequence ≤ bound
      → EditRefines store cmp IsTableOf bound files edits (written_edit set edit)
  pub tables_kept : TablesAreKept store files (live_after (edits ++ written_edit set edit ∷ []))
  pub from_log : (k : ℕ) → LogIsReplayed (live_after (edits ++ written_edit set edit ∷ [])) k
      → log ≤ k
  pub still : (k : ℕ) → log ≤ k → LogIsReplayed (live_after edits) k

-- an entry of a log that is taken is one of all logs
pub taken_in_logs : (store : List ℕ) (cmp : List ℕ → List ℕ → Ordering)
    (IsTableOf : List ℕ → List Pair → Type 0) (files : Files) (edits : List Edit)
    (found : Contents) (m : IsManagedBy store cmp IsTableOf files edits found) (log : ℕ)
    (taken : List ReplayedLog) → AreLogsBelow store files (live_after edits) log taken
    → (entry : Entry) → Contains (log_entries taken) entry → Contains (log_entries m.logs) entry
taken_in_logs store cmp IsTableOf files edits found m log taken has_taken entry c =
    let l = log_of taken entry c in
    let h = has_taken.each l.0 l.1 in
    let i = below_in_logs store files (live_after edits) m.logs log entry m.has_logs (record {
      log = l.0;
      has = h.0;
      replayed = h.1;
      less = h.2;
      fits = h.3;
      is_entry = l.2;
    }) in
    in_logs m.logs i.0 entry i.1 i.3

module _ (store : List ℕ) (cmp : List ℕ → List ℕ → Ordering)
    (IsTableOf : List ℕ → List Pair → Type 0) (one : OneTableReading IsTableOf) (files : Files)
    (edits : List Edit) (set : VersionSetValue)
    (t : IsTrackedBy store cmp IsTableOf files edits set)
    (kept : TablesAreKept store files (live_after edits)) (found : Contents)
    (m : IsManagedBy store cmp IsTableOf files edits found)
    (last_most : found.last ≤ set.last_sequence) (last_fits : set.last_sequence ≤ greatest_sequence)
    (log : ℕ) (from : set.log_number ≤ log) (tables : List LiveTable)
    (new_kept : (table : LiveTable) → Contains tables table
    → IsKept (files (table_path store table.file.number)))
    (added : HasAddedTables store cmp IsTableOf files
    (written_edit set (tables_edit log (map (λ table. table.file) tables))) tables)
    (apart : (table other : LiveTable) → Contains tables table → Contains m.tables other
    → is_same_file (level_file table.file) (level_file other.file) ≡ false)
    (levels : LevelOrder cmp (tables ++ m.tables)) (taken : List ReplayedLog)
    (has_taken : AreLogsBelow store files (live_after edits) log taken)
    (wrote : SameEntries (table_entries tables) (log_entries taken)) where
  abbrev plain : Edit
  plain = tables_edit log (map (λ (table : LiveTable). table.file) tables)

  abbrev edit : Edit
  edit = written_edit set plain

  abbrev then : List Edit
  then = edits ++ edit ∷ []

  numbers_then : NumbersAre edits set plain
  numbers_then = numbers_are edits set plain

  -- ---- its tables

  tables_after : AreTablesAfter edit m.tables tables (tables ++ m.tables)
  tables_after t = (
    λ c. ⊎_elim
        (λ (f : Contains tables t). inl f)
        (λ (g : Contains m.tables t). inr (
          g,
          record {
            deleted = λ at d. absurd (in_none at d);
            added = λ file d.
                let x = in_map (λ (s : LiveTable). s.file) tables file d in
                subst (λ (f : NewFile). is_same_file (level_file f) (level_file t.file) ≡ false)
                x.2 (apart x.0 t x.1 g);
          },
        )) (Contains-append_cases tables m.tables t c),
    λ c. ⊎_elim
        (λ (f : Contains tables t). Contains-append_left tables m.tables t f)
        (λ (g : Contains m.tables t × LeavesAlone edit (level_file t.file)).
        Contains-append_right tables m.tables t g.0) c,
  )

  tables_kept : TablesAreKept store files (live_after then)
  tables_kept file file_fits live = ⊎_elim
      (λ (new : Contains edit.added file
      × (is_same_file (level_file file) (level_file file) ≡ true)).
      let x = in_map (λ (s : LiveTable). s.file) tables file new.0 in
      subst (λ (f : NewFile). IsKept (files (table_path store f.number))) x.2
      (new_kept x.0 x.1))
      (λ (old : ((live_after edits).file (level_file file) ≡ Some file)
      × LeavesAlone edit (level_file file)). kept file file_fits old.0)
      (live_then edits edit (level_file file) file live)

  -- ---- its logs

  still : (k : ℕ) → log ≤ k → LogIsReplayed (live_after edits) k
  still k most = inl
      (set.log_number, t.tracks.left.log_number, omega (arith, most, from))

  replays : ReplaysFrom log (live_after edits) (live_after then)
  replays = record {
    new_log = numbers_then.log_number;
    no_previous = λ k e pos. let zero = some_is 0 k (sym numbers_then.previous_log ∙ e) in
        omega (arith, zero, pos);
    still = still;
  }

  -- an entry of a log that is taken is one of all
  in_taken : (entry : Entry) → Contains (log_entries taken) entry
      → Contains (log_entries m.logs) entry
  in_taken =
      taken_in_logs store cmp IsTableOf files edits found m log taken has_taken

  found_last : found.last ≡ max m.last (greatest (log_entries m.logs))
  found_last = ap (λ (c : Contents). c.last) m.is

  reached : AreUpTo set.last_sequence (table_entries tables)
  reached entry c =
      let low = up_to_greatest (log_entries m.logs) entry (in_taken entry ((wrote entry).0 c)) in
      omega (arith, low, found_last, last_most)

  -- ---- it keeps what is shown

  switches : (bound : ℕ) → set.last_sequence ≤ bound
      → SwitchesLog store cmp IsTableOf bound files (live_after edits) (live_after then)
  switches bound most = record {
    before = m.tables;
    has_before = record { has = m.has_tables; kept = kept };
    added = tables;
    has_after = record {
      has = tables_then store cmp IsTableOf files edits edit m.tables tables
          (tables ++ m.tables) m.has_tables added tables_after;
      kept = tables_kept;
    };
    levels = levels;
    log = log;
    logs = replays;
    taken = taken;
    has_taken = has_taken;
    comparator = (applies_in_order edits edit).comparator;
    next_file = subst IsSome (sym numbers_then.next_file) refl;
    last = record {
      before = m.last;
      last = set.last_sequence;
      old_last = m.last_is;
      new_last = numbers_then.last_sequence;
      later = omega (arith, found_last, last_most);
      bounded = most;
      fits = last_fits;
    };
    wrote = wrote;
    reached = reached;
  }

  refines : (bound : ℕ) → set.last_sequence ≤ bound
      → EditRefines store cmp IsTableOf bound files edits edit
  refines bound most =
      switch_refines store cmp IsTableOf one bound files edits edit (switches bound most)

  -- no log below the number is replayed any more
  from_log : (k : ℕ) → LogIsReplayed (live_after then) k → log ≤ k
  from_log k (inl x) =
      let e = some_is log x.0 (sym numbers_then.log_number ∙ x.1) in omega (arith, x.2, e)
  from_log k (inr x) = absurd (replays.no_previous k x.0 x.1)

  pub takes_logs : TakesLogs store cmp IsTableOf files edits set log plain
  takes_logs = record {
    refines = refines;
    tables_kept = tables_kept;
    from_log = from_log;
    still = still;
  }
