-- The immutable memtable becomes a table: its edit takes the place of the logs that have its
-- entries.
use Rattle.leveldb_base.proofs.HistoryLemmas.{in_cases, in_front, in_none}
use Rattle.leveldb_base.proofs.NamesLemmas.{made_name, one_reading}
use Rattle.leveldb_base.specs.History.{Entry}
use Rattle.leveldb_base.specs.Names.{IsFileName, file_name}
use Rattle.leveldb_base.specs.Types.{Pair}
use Rattle.leveldb_base.specs.declared.types.FileType.TheVariants.{Log}
use Rattle.leveldb_env.specs.Env.{AreBytes, Files, bytes_of}
use Rattle.leveldb_files.proofs.Stores.BatchesLemmas.{each_one}
use Rattle.leveldb_version_set.proofs.Sets.EditLoggedLemmas.{edits_are_logged}
use Rattle.leveldb_version_set.proofs.Sets.EditRecordLemmas.{KeysAreBytes, tables_edit_fits, tables_record_bytes}
use Rattle.leveldb_files.proofs.Levels.LevelsLemmas.{adding_keeps_order, no_common}
use Rattle.leveldb_version_set.proofs.Engines.LogTablesLemmas.{TakesLogs, same_place, takes_logs}
use Rattle.leveldb_version_set.proofs.Engines.LogsBelowLemmas.{in_logs, log_of}
use Rattle.leveldb_files.proofs.Stores.LogsLemmas.{PartsAt, parts_at}
use Rattle.leveldb_files.proofs.Stores.OneStoreLemmas.{one_entry, tables_in}
use Rattle.leveldb_files.proofs.Histories.SafeLemmas.{some_is}
use Rattle.leveldb_version_set.proofs.Sets.TracksLemmas.{NumbersAre, numbers_are}
use Rattle.leveldb_files.specs.Stores.Batches.{Each}
use Rattle.leveldb_files.specs.Stores.Contents.{Store}
use Rattle.leveldb_files.specs.Levels.Levels.{LevelOrder, LiveTable, table_entries}
use Rattle.leveldb_version_set.specs.Sets.LogEdit.{edit_record, written_edit}
use Rattle.leveldb_files.specs.Stores.Paths.{table_path}
use Rattle.leveldb_files.specs.Stores.Store.{HasTable, IsFirstKey, IsInternalPair, IsManagedBy, OneTableReading, ReplayedLog, SameEntries, log_entries}
use Rattle.leveldb_files.specs.Steps.StoreSteps.{AreLogsBelow, HasAddedTables, IsKept}
use Rattle.leveldb_files.specs.Edits.Edit.{Edit, FieldFits, IsEncodable, NewFile, adds}
use Rattle.leveldb_files.specs.Edits.VersionSet.{is_same_file, level_file, live_after}
use Rattle.leveldb_version_set.specs.Sets.VersionSetValue.{VersionSetValue}
use Rattle.leveldb_version_set.specs.Compactions.CompactionEdit.{EditIsLogged}
use Rattle.leveldb_version_set.specs.Engines.Writing.{EngineMemory, IsWrittenBy, table_edit}
use Rattle.leveldb_version_set.specs.Engines.WritingLaws.{HasImm, TablesAreInRange, ImmBecomesTableByEdits, ImmMayGoToLevelZero}
use Rattle.std.proofs.Common.{◌++◌, ◌<◌, ◌^◌, ◌∙◌, ◌∷◌, ◌≡◌, ◌≤◌, ◌⊎◌, Bool, List, [], ap, append-nil, arith, false, inl, inr, refl, subst, sym, true, ℕ, ⊎_elim}
use Rattle.std.proofs.lemmas.Bool.{cases_lt}
use Rattle.std.proofs.lemmas.List.Elements.{Contains-append_cases, Contains-append_left}
use Rattle.std.specs.Cmp.{IsTotalOrder}
use Rattle.std.specs.Prelude.{Contains}
use Rattle.std.specs.declared.cmp.Ordering.{Ordering}

-- ---- entries of logs

-- a log below a number is in front of it, and one from it on is at the back
pub in_front_of : (n : ℕ) (logs : List ReplayedLog) (p : PartsAt n logs) (log : ReplayedLog)
    → Contains logs log → log.number < n → Contains p.front log
in_front_of n logs p log c less = ⊎_elim
    (λ (f : Contains p.front log). f)
    (λ (b : Contains p.back log). let up = p.from log b in absurd (omega (arith, up, less)))
    (Contains-append_cases p.front p.back log (subst (λ ls. Contains ls log) p.parts c))

pub in_back_of : (n : ℕ) (logs : List ReplayedLog) (p : PartsAt n logs) (log : ReplayedLog)
    → Contains logs log → n ≤ log.number → Contains p.back log
in_back_of n logs p log c most = ⊎_elim
    (λ (f : Contains p.front log). let low = p.before log f in absurd (omega (arith, low, most)))
    (λ (b : Contains p.back log). b)
    (Contains-append_cases p.front p.back log (subst (λ ls. Contains ls log) p.parts c))

pub front_is_in : (n : ℕ) (logs : List ReplayedLog) (p : PartsAt n logs) (log : ReplayedLog)
    → Contains p.front log → Contains logs log
front_is_in n logs p log c =
    subst (λ ls. Contains ls log) (sym p.parts) (Contains-append_left p.front p.back log c)

-- ---- files of levels

pub only_one : {A : Type 0} (x y : A) → Contains (x ∷ []) y → x ≡ y
only_one x y c =
    ⊎_elim (λ (e : x ≡ y). e) (λ (none : Contains [] y). absurd (in_none y none))
    (in_cases x y [] c)

-- a table that has a first key has an entry
an_entry : (key : List ℕ) (pairs : List Pair) (entries : List Entry) → IsFirstKey key pairs
    → Each IsInternalPair pairs entries → (entry : Entry) × Contains entries entry
an_entry key pairs [] first each =
    absurd (subst (λ ps. Each IsInternalPair ps []) first.2 each)
an_entry key pairs (entry ∷ entries) first each = (entry, in_front entry entries)

-- the file that an edit adds has a number of 64 bits
number_fits : (set : VersionSetValue) (log : ℕ) (file : NewFile)
    → IsEncodable (written_edit set (table_edit log file)) → file.number < 2 ^ 64
number_fits set log file can = (can.fits 4 (adds file) (omega arith)).1

module _ (store : List ℕ) (cmp : List ℕ → List ℕ → Ordering)
    (IsTableOf : List ℕ → List Pair → Type 0) where
  -- tables of one number have the same entries
  pub same_number : OneTableReading IsTableOf → (files : Files) (a b : LiveTable)
      → a.file.number ≡ b.file.number → HasTable store cmp IsTableOf files a
      → HasTable store cmp IsTableOf files b → a.entries ≡ b.entries
  same_number one files a b number p q =
      let file = some_is p.file q.file
      (sym p.there ∙ ap (λ n. files (table_path store n)) number ∙ q.there) in
      let pairs = one (bytes_of q.file) p.pairs q.pairs
      (subst (λ f. IsTableOf (bytes_of f) p.pairs) file p.read) q.read in
      each_one IsInternalPair one_entry q.pairs a.entries b.entries
      (subst (λ ps. Each IsInternalPair ps a.entries) pairs p.each) q.each

  -- the logs below the one that is written are those below its number, of the logs that are replayed
  pub logs_below : (files : Files) (edits : List Edit) (memory : EngineMemory)
      (w : IsWrittenBy store cmp IsTableOf files edits memory)
      (p : PartsAt memory.log w.tracked.managed.logs)
      → AreLogsBelow store files (live_after edits) memory.log p.front
  logs_below files edits memory w p = record {
    each = λ log c. let t = m.has_logs.each log (front_is_in memory.log m.logs p log c) in
        (t.0, t.1, p.before log c, t.2);
    all = λ k less replayed some.
        let a = m.has_logs.all (file_name Log k) k
        (made_name Log k (log_fits k (omega (arith, less)))) replayed some in
        (a.1.0, in_front_of memory.log m.logs p a.1.0 a.1.1 (omega (arith, less, a.1.2)), a.1.2);
    kept = λ k less replayed.
        let name = made_name Log k (log_fits k (omega (arith, less))) in
        w.writable.log.last.others_kept (file_name Log k) k name replayed
        (λ e.
        let same = (one_reading (file_name Log k) k w.writable.log.number Log Log name
        (subst (λ z. IsFileName z w.writable.log.number Log) (sym e)
        (made_name Log w.writable.log.number w.writable.log.fits))).0 in
        omega (arith, same, less, w.log_is));
  }
    where
      m : IsManagedBy store cmp IsTableOf files edits w.tracked.contents
      m = w.tracked.managed

      log_fits : (k : ℕ) → k ≤ memory.log → k < 2 ^ 64
      log_fits k most = omega (arith, most, w.writable.log.fits, w.log_is)

  -- the entries of the immutable memtable are in logs
  pub imm_in_logs : (files : Files) (edits : List Edit) (memory : EngineMemory)
      (w : IsWrittenBy store cmp IsTableOf files edits memory) (entry : Entry)
      → Contains memory.imm entry → Contains (log_entries w.tracked.managed.logs) entry
  imm_in_logs files edits memory w entry c =
      let l = (w.imm_is entry).0 c in
      in_logs w.tracked.managed.logs l.0 entry l.1 l.3

  -- so a table of them may be added to level 0
  pub imm_may_go_to_level_zero : ImmMayGoToLevelZero store cmp IsTableOf
  imm_may_go_to_level_zero ranges files edits memory w table has level entries numbers tables
      has_tables one = record {
        bounded = ranges files table has;
        newer = λ a b in_tables in_table same_key.
            w.tracked.managed.fit.below a b
            (tables_in store cmp IsTableOf one files (live_after edits) tables
            w.tracked.managed.tables has_tables w.tracked.managed.has_tables a in_tables)
            (imm_in_logs files edits memory w b ((entries b).0 in_table));
        above = λ a c less. absurd (omega (arith, level, less));
        beside = λ a c same deep. absurd (omega (arith, level, same, deep));
        number = λ a c a_level its_level. let h = has_tables.each a c in numbers a.file h.2 h.1;
      }

module _ (store : List ℕ) (cmp : List ℕ → List ℕ → Ordering)
    (IsTableOf : List ℕ → List Pair → Type 0) (allowed : Store → Type 0) where
  -- ---- the edit

  module _ (one : OneTableReading IsTableOf) (total : IsTotalOrder cmp)
      (ranges : TablesAreInRange store cmp IsTableOf) (files : Files) (edits : List Edit)
      (memory : EngineMemory) (w : IsWrittenBy store cmp IsTableOf files edits memory)
      (table : LiveTable) (h : HasImm store cmp IsTableOf files edits memory table)
      (can : IsEncodable (written_edit memory.set (table_edit memory.log table.file))) where
    abbrev plain : Edit
    plain = table_edit memory.log table.file

    abbrev edit : Edit
    edit = written_edit memory.set plain

    abbrev then : List Edit
    then = edits ++ edit ∷ []

    abbrev m : IsManagedBy store cmp IsTableOf files edits w.tracked.contents
    m = w.tracked.managed

    n : NumbersAre edits memory.set plain
    n = numbers_are edits memory.set plain

    p : PartsAt memory.log m.logs
    p = parts_at memory.log m.logs m.has_logs.rising

    -- ---- its table

    fits : table.file.number < 2 ^ 64
    fits = number_fits memory.set memory.log table.file can

    -- no live table is of its level and number
    no_twin : (other : LiveTable) → Contains m.tables other
        → (other.file.level ≡ table.file.level) → (other.file.number ≡ table.file.number) → ⊥
    no_twin other c level number = by (cases_lt 0 other.file.level)
      where
        by : (0 < other.file.level) ⊎ (other.file.level ≤ 0) → ⊥
        by (inl deep) =
            let has = (m.has_tables.each other c).0 in
            let here = h.added m.tables m.has_tables in
            let e = an_entry other.file.smallest has.pairs other.entries has.smallest has.each in
            let same = same_number store cmp IsTableOf one files other table number has h.has in
            no_common cmp total other table (ranges files other has) here.bounded
            (here.beside other c level deep) e.0 e.0 e.1
            (subst (λ es. Contains es e.0) same e.1) refl
        by (inr top) =
            let less = (h.added m.tables m.has_tables).number other c (omega (arith, top))
            (omega (arith, top, level)) in
            omega (arith, less, number)

    apart : (other : LiveTable) → Contains m.tables other
        → is_same_file (level_file table.file) (level_file other.file) ≡ false
    apart other c = by (is_same_file (level_file table.file) (level_file other.file)) refl
      where
        by : (b : Bool) → is_same_file (level_file table.file) (level_file other.file) ≡ b
            → is_same_file (level_file table.file) (level_file other.file) ≡ false
        by false e = e
        by true e = let same = same_place table.file other.file e in
            absurd (no_twin other c (sym same.0) (sym same.1))

    added : HasAddedTables store cmp IsTableOf files edit (table ∷ [])
    added = record {
      each = λ t c. subst
          (λ (x : LiveTable). HasTable store cmp IsTableOf files x × Contains edit.added x.file
          × (x.file.number < 2 ^ 64)) (only_one table t c)
          (h.has, in_front table.file [], fits);
      all = λ file c. (table, in_front table [], only_one table.file file c);
      once = λ file other c d e. sym (only_one table.file other d) ∙ only_one table.file file c;
    }

    levels : LevelOrder cmp (table ∷ m.tables)
    levels = adding_keeps_order cmp total m.tables table m.fit.levels
        (λ other c. ranges files other (m.has_tables.each other c).0)
        (h.added m.tables m.has_tables)

    -- ---- its logs

    taken : AreLogsBelow store files (live_after edits) memory.log p.front
    taken = logs_below store cmp IsTableOf files edits memory w p

    wrote : SameEntries (table_entries (table ∷ [])) (log_entries p.front)
    wrote entry = (
      λ c. let l = (w.imm_is entry).0 ((h.entries entry).0
          (subst (λ es. Contains es entry) (append-nil table.entries) c)) in
          in_logs p.front l.0 entry (in_front_of memory.log m.logs p l.0 l.1 l.2) l.3,
      λ c. let l = log_of p.front entry c in
          subst (λ es. Contains es entry) (sym (append-nil table.entries))
          ((h.entries entry).1 ((w.imm_is entry).1
          (l.0, front_is_in memory.log m.logs p l.0 l.1, p.before l.0 l.1, l.2))),
    )

    -- ---- its table takes the place of its logs

    takes : TakesLogs store cmp IsTableOf files edits memory.set memory.log plain
    takes = takes_logs store cmp IsTableOf one files edits memory.set w.tracked w.writable.tables
        w.tracked.contents m w.reached w.last_fits memory.log w.from_log (table ∷ [])
        (λ t c. subst (λ (x : LiveTable). IsKept (files (table_path store x.file.number)))
        (only_one table t c) h.kept)
        added
        (λ t other c d. subst
        (λ (x : LiveTable). is_same_file (level_file x.file) (level_file other.file) ≡ false)
        (only_one table t c) (apart other d))
        levels p.front taken wrote

  -- so its edit may be logged, as each edit that names the log and changes nothing that is shown
  pub imm_becomes_table : ImmBecomesTableByEdits store cmp IsTableOf allowed
  imm_becomes_table one total ranges files edits memory w table h next_fits number_fits size_fits
      first last = record { keeps = logged.keeps; after = logged.written }
    where
      can : IsEncodable (written_edit memory.set (table_edit memory.log table.file))
      can = tables_edit_fits memory.set memory.log (table.file ∷ [])
          (omega (arith, w.writable.log.fits, w.log_is)) next_fits (omega (arith, w.last_fits))
          (λ file c. subst (λ (x : NewFile). FieldFits (adds x)) (only_one table.file file c)
          (h.level_fits, number_fits, size_fits))

      bytes : AreBytes (edit_record memory.set (table_edit memory.log table.file))
      bytes = tables_record_bytes memory.set memory.log (table.file ∷ [])
          (λ file c. subst KeysAreBytes (only_one table.file file c) (first, last))

      takes_its_logs : TakesLogs store cmp IsTableOf files edits memory.set memory.log
          (table_edit memory.log table.file)
      takes_its_logs = takes one total ranges files edits memory w table h can

      logged : EditIsLogged store cmp IsTableOf allowed files edits memory w
          (table_edit memory.log table.file)
      logged = edits_are_logged store cmp IsTableOf allowed files edits memory w
          (table_edit memory.log table.file) refl takes_its_logs.refines takes_its_logs.tables_kept
          can bytes
