-- One more log is replayed after others: what comes of their tables and entries.
use Rattle.std.specs.Prelude.{AllPairs, Contains, IfSome, IsSome, if◌then◌else◌}
use Rattle.std.proofs.Common.{◌≡◌, ◌∙◌, ◌⊎◌, inl, inr, ⊎_elim, ◌<◌, ℕ, zero, suc, Bool, true, false, List, [], ◌∷◌, ◌++◌, None, Some, ap, append-nil, append_assoc, arith, map, refl, subst, sym}
use Rattle.std.proofs.lemmas.List.{map-append, map_push}
use Rattle.std.proofs.lemmas.List.Concat.{flat_map-append}
use Rattle.std.proofs.lemmas.List.Elements.{All-append, Contains-append_cases, Contains-append_left, Contains-append_right, Contains-get_or, Contains-push_cases}
use Rattle.std.proofs.lemmas.List.Kept.{AllPairs-cons}
use Rattle.std.specs.declared.cmp.Ordering.{Ordering}
use Rattle.leveldb_base.proofs.HistoryLemmas.{in_front, in_rest}
use Rattle.leveldb_base.specs.History.{Entry, greatest}
use Rattle.leveldb_base.specs.declared.types.FileMetaData.{FileMetaData}
use Rattle.leveldb_env.specs.Env.{Files}
use Rattle.leveldb_mem.specs.Log.{bad, clean}
use Rattle.leveldb_files.proofs.Stores.LogsLemmas.{all_append, batches_last, order_above, order_append}
use Rattle.leveldb_files.proofs.Histories.NumbersLemmas.{greatest_append, up_to_greatest}
use Rattle.leveldb_files.proofs.Stores.OneStoreLemmas.{flat_in}
use Rattle.leveldb_files.specs.Stores.Batches.{AreInOrder, all_entries}
use Rattle.leveldb_files.specs.Levels.Levels.{LiveTable, table_entries}
use Rattle.leveldb_version_set.specs.Engines.Opening.{IsMadeBefore}
use Rattle.leveldb_files.specs.Stores.Paths.{log_path}
use Rattle.leveldb_files.specs.Stores.Store.{HasLog, ReplayedLog as StoreLog, SameEntries, log_batches, log_entries}
use Rattle.leveldb_files.specs.Edits.Edit.{NewFile}
use Rattle.leveldb_version.specs.Edits.VersionEdit.{new_file_of}
use Rattle.leveldb_version_set.specs.Sets.VersionSetValue.{VersionSetValue}
use Rattle.leveldb_files.specs.Stores.Format.{Meaning}
use Rattle.leveldb_store.specs.Openings.Opening.{AreMadeTables, GivesNumbers, IsMadeTable, ReplaysLog, SameButTables}
use Rattle.leveldb_store.specs.Openings.OpeningSteps.{AreDamagedLogs, AreLogs, AreInTablesBut, HasReplayedLogs}
use Rattle.leveldb_store.specs.Logs.ReplayLog.{IsDamagedLog, log_in_memory, table_files}
use Rattle.leveldb_store.specs.declared.opening.replay.Replay.{Replay}
use Rattle.leveldb_store.specs.declared.opening.replay.UsedLog.{UsedLog}
use Rattle.leveldb_store.specs.declared.opening.replay_log.ReplayedLog.{ReplayedLog}
use Rattle.leveldb_store.proofs.Logs.ReplayDamageLemmas.{BadEndsEnd-push, after_bad_end, damaged_next, log_stays}
use Rattle.leveldb_store.proofs.Logs.ReplayFilesLemmas.{GivesNumbers-trans, SameButTables-trans, same_store}
use Rattle.leveldb_store.proofs.Logs.ReplayLogLemmas.{IsMadeTable-stays}

-- ---- lists

AllPairs-append : {X : Type 0} (R : X → X → Type 0) (xs ys : List X) → AllPairs R xs → AllPairs R ys
    → ((x y : X) → Contains xs x → Contains ys y → R x y) → AllPairs R (xs ++ ys)
AllPairs-append R [] ys first second across = second
AllPairs-append R (x ∷ xs) ys first second across = AllPairs-cons R x (xs ++ ys)
    (All-append (R x) xs ys (λ k d within. first zero (suc k) d (omega arith) (omega (arith, within)))
    (λ k d within. across x _ (in_front x xs) (Contains-get_or ys k d within)))
    (AllPairs-append R xs ys
    (λ i j d less within. first (suc i) (suc j) d (omega (arith, less)) (omega (arith, within))) second
    (λ y z c there. across y z (in_rest x y xs c) there))

tables_append : (these those : List LiveTable)
    → table_entries (these ++ those) ≡ table_entries these ++ table_entries those
tables_append these those = flat_map-append (λ (t : LiveTable). t.entries) these those

-- two lists that have the entries of two others have them together
both_entries : (these those ones others : List Entry) → SameEntries these ones
    → SameEntries those others → SameEntries (these ++ those) (ones ++ others)
both_entries these those ones others first second entry = (
  λ c. ⊎_elim
      (λ (here : Contains these entry). Contains-append_left ones others entry ((first entry).0 here))
      (λ (there : Contains those entry). Contains-append_right ones others entry
      ((second entry).0 there))
      (Contains-append_cases these those entry c),
  λ c. ⊎_elim
      (λ (here : Contains ones entry). Contains-append_left these those entry ((first entry).1 here))
      (λ (there : Contains others entry). Contains-append_right these those entry
      ((second entry).1 there))
      (Contains-append_cases ones others entry c),
)

-- ---- tables

-- tables that were made, and then others of newer entries
AreMadeTables-more : (cmp : List ℕ → List ℕ → Ordering) (meaning : Meaning)
    (first set now : VersionSetValue) (before after : Files) (tables more : List LiveTable)
    → GivesNumbers first set → GivesNumbers set now → SameButTables set now before after
    → AreMadeTables cmp meaning first set before tables
    → AreMadeTables cmp meaning set now after more
    → ((a b : Entry) → Contains (table_entries tables) a → Contains (table_entries more) b
    → a.sequence < b.sequence) → AreMadeTables cmp meaning first now after (tables ++ more)
AreMadeTables-more cmp meaning first set now before after tables more gives gives_more same was made newer =
    record {
      each = λ table c. ⊎_elim
          (λ (earlier : Contains tables table).
          IsMadeTable-stays cmp meaning first.store set now before after table (same_store gives)
          (was.numbers table earlier).1 same (was.each table earlier))
          (λ (come : Contains more table).
          subst (λ s. IsMadeTable cmp meaning s after table) (same_store gives) (made.each table come))
          (Contains-append_cases tables more table c);
      numbers = λ table c.
          let rises = gives.rises in
          let rises_more = gives_more.rises in
          ⊎_elim
          (λ (earlier : Contains tables table).
          let n = was.numbers table earlier in
          (n.0, omega (arith, n.1, rises_more)))
          (λ (come : Contains more table).
          let n = made.numbers table come in
          (omega (arith, n.0, rises), n.1))
          (Contains-append_cases tables more table c);
      rising = AllPairs-append IsMadeBefore tables more was.rising made.rising
          (λ x y c d. record {
            number = let m = was.numbers x c in let n = made.numbers y d in omega (arith, m.1, n.0);
            older = λ a b in_a in_b key. newer a b
                (flat_in (λ (t : LiveTable). t.entries) tables x a c in_a)
                (flat_in (λ (t : LiveTable). t.entries) more y b d in_b);
          });
    }

-- ---- after what was replayed before

module _ {C : Type 0} (cmp : List ℕ → List ℕ → Ordering) (meaning : Meaning)
    (first set : VersionSetValue) (start before : Files) (numbers : List ℕ) (old : Replay C)
    (was : HasReplayedLogs cmp meaning first start numbers old set before) (number : ℕ) where
  -- the logs are those that were there
  same_log : (n : ℕ) → before (log_path set.store n) ≡ start (log_path first.store n)
  same_log n = ap (λ s. before (log_path s n)) (same_store was.gives)
      ∙ log_stays first set start before was.same n

  log_from : (log : StoreLog) → HasLog set.store before log → HasLog first.store start log
  log_from log has = (has.0, sym (same_log log.number) ∙ has.1, has.2)

  log_now : (log : StoreLog) → HasLog first.store start log → HasLog set.store before log
  log_now log has = (has.0, same_log log.number ∙ has.1, has.2)

  pub damaged_after : IsDamagedLog set.store before number old.last → (later : List ℕ)
      → AreDamagedLogs first.store start (numbers ++ number ∷ later)
  damaged_after never later = damaged_next first.store start numbers was.logs was.are_logs number later
      (λ log number_is has order. never log number_is (log_now log has)
      (subst (λ n. AreInOrder n log.batches) (sym was.last_is) order))

  pub missing_after : before (log_path set.store number) ≡ None → (later : List ℕ)
      → AreDamagedLogs first.store start (numbers ++ number ∷ later)
  missing_after gone later = damaged_next first.store start numbers was.logs was.are_logs number later
      (λ log number_is has order.
      let there = log_now log has in
      let never : Some there.0 ≡ None = sym there.1
      ∙ ap (λ n. before (log_path set.store n)) number_is ∙ gone in
      cc)

  pub torn_after : old.is_clean ≡ false → (log : StoreLog) → log.number ≡ number
      → HasLog set.store before log → 0 < log.size → (later : List ℕ)
      → AreDamagedLogs first.store start (numbers ++ number ∷ later)
  torn_after torn log number_is has some later =
      let one = was.bad_is torn in
      after_bad_end first.store start numbers was.logs was.are_logs number later one.0 one.1 one.2 log
      number_is (log_from log has) some

  -- where one of them ends badly, that is known
  known_bad : (one : StoreLog) → Contains was.logs one → one.end ≡ bad → old.is_clean ≡ false
  known_bad one there is_bad = by old.is_clean refl
    where
      by : (b : Bool) → old.is_clean ≡ b → old.is_clean ≡ false
      by true is = absurd (let never : bad ≡ clean = sym is_bad ∙ was.clean_is is one there in cc)
      by false is = is

  -- ---- the log is replayed

  module _ (none : old.used ≡ None) (log : ReplayedLog C) (mid : VersionSetValue) (between : Files)
      (gives : GivesNumbers set mid) (same : SameButTables set mid before between)
      (replays : ReplaysLog cmp meaning set old.last number before (log_in_memory log) mid log.last
      between)
      (empty : old.is_clean ≡ false → log.size ≡ 0) where
    abbrev logs : List StoreLog
    logs = was.logs ++ replays.log ∷ []

    has_log : HasLog first.store start replays.log
    has_log = log_from replays.log replays.has_log

    in_logs : (P : StoreLog → Type 0) → ((one : StoreLog) → Contains was.logs one → P one)
        → P replays.log → (one : StoreLog) → Contains logs one → P one
    in_logs P before_it it one c = ⊎_elim (λ (there : Contains was.logs one). before_it one there)
        (λ (e : replays.log ≡ one). subst P e it)
        (Contains-push_cases was.logs replays.log one c)

    are_logs : AreLogs first.store start (numbers ++ number ∷ []) logs
    are_logs = record {
      numbers_are = map_push (λ (one : StoreLog). one.number) was.logs replays.log
          ∙ ap (λ ns. ns ++ replays.log.number ∷ []) was.are_logs.numbers_are
          ∙ ap (λ n. numbers ++ n ∷ []) replays.number_is;
      each = in_logs (HasLog first.store start) was.are_logs.each has_log;
      in_order = subst (AreInOrder 0) (sym (batches_last was.logs replays.log))
          (order_append 0 old.last (log_batches was.logs) replays.log.batches (omega arith)
          (let is = was.last_is in omega (arith, is)) was.are_logs.in_order replays.in_order);
      ends = BadEndsEnd-push was.logs replays.log was.are_logs.ends
          (λ one there is_bad. replays.size ∙ empty (known_bad one there is_bad));
    }

    entries_are : log_entries logs ≡ log_entries was.logs ++ all_entries replays.log.batches
    entries_are = ap all_entries (batches_last was.logs replays.log)
        ∙ all_append (log_batches was.logs) replays.log.batches

    last_is : log.last ≡ greatest (log_entries logs)
    last_is =
        let both = ap greatest entries_are
        ∙ greatest_append (log_entries was.logs) (all_entries replays.log.batches) in
        let last = replays.last_is in
        let last_before = was.last_is in
        omega (arith, both, last, last_before)

    end_is : (b : Bool) → log.is_clean ≡ b → replays.log.end ≡ (if b then clean else bad)
    end_is b is = replays.end ∙ ap (λ (c : Bool). if c then clean else bad) is

    clean_is : old.is_clean ≡ true → log.is_clean ≡ true → (one : StoreLog) → Contains logs one
        → one.end ≡ clean
    clean_is first_clean then_clean = in_logs (λ one. one.end ≡ clean) (was.clean_is first_clean)
        (end_is true then_clean)

    bad_is : (old.is_clean ≡ false) ⊎ (log.is_clean ≡ false)
        → (one : StoreLog) × Contains logs one × (one.end ≡ bad)
    bad_is (inl before_it) =
        let one = was.bad_is before_it in
        (one.0, Contains-append_left was.logs (replays.log ∷ []) one.0 one.1, one.2)
    bad_is (inr it) = (
      replays.log,
      Contains-append_right was.logs (replays.log ∷ []) replays.log (in_front replays.log []),
      end_is false it,
    )

    -- ---- entries

    tables_made_before : SameEntries (table_entries was.tables) (log_entries was.logs)
    tables_made_before = subst (λ used. AreInTablesBut used was.logs was.tables) none was.tables_made

    -- those before it are older than its own
    older : (a b : Entry) → Contains (table_entries was.tables) a
        → Contains (table_entries replays.tables ++ log.rest.kept.entries) b → a.sequence < b.sequence
    older a b c d =
        let most = up_to_greatest (log_entries was.logs) a ((tables_made_before a).0 c) in
        let least = order_above old.last replays.log.batches replays.in_order b
        ((replays.entries b).0 d) in
        let is = was.last_is in
        omega (arith, most, least, is)

    made_tables : AreMadeTables cmp meaning first mid between (was.tables ++ replays.tables)
    made_tables = AreMadeTables-more cmp meaning first set mid before between was.tables replays.tables
        was.gives gives same was.made_tables replays.made_tables
        (λ a b c d. older a b c
        (Contains-append_left (table_entries replays.tables) log.rest.kept.entries b d))

    -- the sets and files
    gives_mid : GivesNumbers first mid
    gives_mid = GivesNumbers-trans was.gives gives

    same_mid : SameButTables first mid start between
    same_mid = SameButTables-trans was.gives gives start before between was.same same

    -- it is used on
    module _ (new : Replay C) (is_clean : log.is_clean ≡ true) (not_in_tables : table_files log ≡ []) where
      no_tables : (tables : List LiveTable) → map (λ (table : LiveTable). table.file) tables ≡ []
          → tables ≡ []
      no_tables [] e = refl
      no_tables (table ∷ tables) e = absurd (cc)

      no_table : replays.tables ≡ []
      no_table = no_tables replays.tables (replays.files_are ∙ not_in_tables)

      tables_are : was.tables ++ replays.tables ≡ was.tables
      tables_are = ap (λ ts. was.tables ++ ts) no_table ∙ append-nil was.tables

      pub HasReplayedLogs-used : (used : UsedLog C) → used.number ≡ number → used.size ≡ log.size
          → used.entries.kept.entries ≡ log.rest.kept.entries → new.used ≡ Some used
          → new.last ≡ log.last → new.is_clean ≡ old.is_clean
          → new.tables.items ≡ old.tables.items → new.leaves_log ≡ old.leaves_log
          → HasReplayedLogs cmp meaning first start (numbers ++ number ∷ []) new mid between
      HasReplayedLogs-used used number_is size_is entries_is used_is last clean_still items leaves = record {
        gives = gives_mid;
        same = same_mid;
        logs = logs;
        are_logs = are_logs;
        last_is = last ∙ last_is;
        clean_is = λ e. clean_is (sym clean_still ∙ e) is_clean;
        bad_is = λ e. bad_is (inl (sym clean_still ∙ e));
        tables = was.tables;
        files_are = was.files_are
            ∙ sym (ap (map (λ (file : FileMetaData). new_file_of (0, file))) items);
        made_tables = subst (AreMadeTables cmp meaning first mid between) tables_are made_tables;
        tables_made = subst (λ it. AreInTablesBut it logs was.tables) (sym used_is) (
          was.logs,
          replays.log,
          refl,
          replays.number_is ∙ sym number_is,
          end_is true is_clean,
          replays.size ∙ sym size_is,
          subst (λ es. SameEntries es (all_entries replays.log.batches)) (sym entries_is)
              (subst (λ ts. SameEntries (table_entries ts ++ log.rest.kept.entries)
              (all_entries replays.log.batches)) no_table replays.entries),
          tables_made_before,
        );
        leaves = λ e.
            let none_left = was.leaves (sym leaves ∙ e) in (
              none_left.0,
              in_logs
                  (λ one. IfSome new.used (λ it. one.number ≡ it.number) × IsSome new.used)
                  (λ one there. absurd (let never : false ≡ true =
                  subst (λ it. IsSome it) none (none_left.1 one there).1 in cc))
                  (subst
                  (λ it. IfSome it (λ some. replays.log.number ≡ some.number) × IsSome it)
                  (sym used_is) (replays.number_is ∙ sym number_is, refl)),
            );
      }

    -- its rest comes to tables too
    module _ (new : Replay C) (now : VersionSetValue) (after : Files)
        (gives_more : GivesNumbers mid now) (same_more : SameButTables mid now between after) (more : List LiveTable)
        (made_more : AreMadeTables cmp meaning mid now after more)
        (rest : SameEntries (table_entries more) log.rest.kept.entries) where
      all_newer : (a b : Entry) → Contains (table_entries (was.tables ++ replays.tables)) a
          → Contains (table_entries more) b → a.sequence < b.sequence
      all_newer a b c d = ⊎_elim
          (λ (early : Contains (table_entries was.tables) a). older a b early
          (Contains-append_right (table_entries replays.tables) log.rest.kept.entries b
          ((rest b).0 d)))
          (λ (own : Contains (table_entries replays.tables) a). replays.newer a b own ((rest b).0 d))
          (Contains-append_cases (table_entries was.tables) (table_entries replays.tables) a
          (subst (λ es. Contains es a) (tables_append was.tables replays.tables) c))

      abbrev all_tables : List LiveTable
      all_tables = (was.tables ++ replays.tables) ++ more

      all_in_tables : SameEntries (table_entries all_tables) (log_entries logs)
      all_in_tables = subst (λ es. SameEntries es (log_entries logs))
          (sym (tables_append (was.tables ++ replays.tables) more
          ∙ ap (λ es. es ++ table_entries more) (tables_append was.tables replays.tables)
          ∙ append_assoc (table_entries was.tables) (table_entries replays.tables)
          (table_entries more)))
          (subst (SameEntries (table_entries was.tables
          ++ (table_entries replays.tables ++ table_entries more))) (sym entries_are)
          (both_entries (table_entries was.tables) (table_entries replays.tables ++ table_entries more)
          (log_entries was.logs) (all_entries replays.log.batches) tables_made_before
          (λ entry.
          let own = replays.entries entry in
          let joined = both_entries (table_entries replays.tables) (table_entries more)
          (table_entries replays.tables) log.rest.kept.entries (λ e. (λ c. c, λ c. c)) rest entry in
          (λ c. own.0 (joined.0 c), λ c. joined.1 (own.1 c)))))

      pub HasReplayedLogs-tables_made : (files : List FileMetaData)
          → map (λ (file : FileMetaData). new_file_of (0, file)) files
          ≡ table_files log ++ map (λ (table : LiveTable). table.file) more → new.used ≡ None
          → new.last ≡ log.last
          → (new.is_clean ≡ true → (old.is_clean ≡ true) × (log.is_clean ≡ true))
          → (new.is_clean ≡ false → (old.is_clean ≡ false) ⊎ (log.is_clean ≡ false))
          → new.tables.items ≡ old.tables.items ++ files → new.leaves_log ≡ true
          → HasReplayedLogs cmp meaning first start (numbers ++ number ∷ []) new now after
      HasReplayedLogs-tables_made files are unused last cleans worsens items leaves = record {
        gives = GivesNumbers-trans gives_mid gives_more;
        same = SameButTables-trans gives_mid gives_more start between after same_mid same_more;
        logs = logs;
        are_logs = are_logs;
        last_is = last ∙ last_is;
        clean_is = λ e. clean_is (cleans e).0 (cleans e).1;
        bad_is = λ e. bad_is (worsens e);
        tables = all_tables;
        files_are = map-append file_of (was.tables ++ replays.tables) more
            ∙ ap (λ fs. fs ++ map file_of more) (map-append file_of was.tables replays.tables)
            ∙ append_assoc (map file_of was.tables) (map file_of replays.tables) (map file_of more)
            ∙ ap (λ fs. fs ++ (map file_of replays.tables ++ map file_of more)) was.files_are
            ∙ ap (λ fs. map new_of old.tables.items ++ (fs ++ map file_of more)) replays.files_are
            ∙ ap (λ fs. map new_of old.tables.items ++ fs) (sym are)
            ∙ sym (map-append new_of old.tables.items files) ∙ sym (ap (map new_of) items);
        made_tables = AreMadeTables-more cmp meaning first mid now between after
            (was.tables ++ replays.tables) more gives_mid gives_more same_more made_tables made_more
            all_newer;
        tables_made = subst (λ it. AreInTablesBut it logs all_tables) (sym unused) all_in_tables;
        leaves = λ e. absurd (let never : true ≡ false = sym leaves ∙ e in cc);
      }
        where
          file_of : LiveTable → NewFile
          file_of table = table.file

          new_of : FileMetaData → NewFile
          new_of file = new_file_of (0, file)
