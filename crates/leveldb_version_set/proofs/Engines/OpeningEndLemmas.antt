-- The end of an opening: tables take the place of logs, and the store is one that an engine writes.
use Rattle.leveldb_base.proofs.EntriesLemmas.{in_map, map_in}
use Rattle.leveldb_base.proofs.HistoryLemmas.{in_none}
use Rattle.leveldb_base.proofs.NamesLemmas.{made_name}
use Rattle.leveldb_base.specs.History.{Entry, History}
use Rattle.leveldb_base.specs.KeyTypes.{greatest_sequence}
use Rattle.leveldb_base.specs.Layers.{IsOlder}
use Rattle.leveldb_base.specs.Names.{IsFileName, file_name}
use Rattle.leveldb_base.specs.Types.{Pair}
use Rattle.leveldb_base.specs.declared.types.FileType.{FileType}
use Rattle.leveldb_base.specs.declared.types.FileType.TheVariants.{Current, Descriptor, Log, Table, Temp}
use Rattle.leveldb_env.specs.Env.{AreBytes, File, Files, in_folder}
use Rattle.leveldb_mem.specs.Log.Writer.{after_frame, frame}
use Rattle.leveldb_version_set.proofs.Sets.EditRecordLemmas.{KeysAreBytes, tables_edit_fits, tables_record_bytes}
use Rattle.leveldb_version_set.proofs.Sets.EditTrackedLemmas.{after, after_both, appended_tracked, begun_tracked, same_made, same_of}
use Rattle.leveldb_files.proofs.Stores.KeptLemmas.{kept_holds}
use Rattle.leveldb_version_set.proofs.Sets.LogKeepsLemmas.{appended_edits_keep}
use Rattle.leveldb_version_set.proofs.Engines.LogTablesLemmas.{TakesLogs, same_place, taken_in_logs, takes_logs}
use Rattle.leveldb_files.proofs.Histories.MatchesLemmas.{matches_refined}
use Rattle.leveldb_version_set.proofs.Sets.NewManifestKeepsLemmas.{begun_edits_keep, both_same}
use Rattle.leveldb_files.proofs.Stores.OneStoreLemmas.{flat_in}
use Rattle.leveldb_version_set.proofs.Sets.TracksLemmas.{numbers_are}
use Rattle.leveldb_files.specs.Stores.Contents.{Contents, Store}
use Rattle.leveldb_files.specs.Histories.Holds.{Holds, MatchesHistory}
use Rattle.leveldb_files.specs.Levels.Levels.{AreDisjoint, LevelOrder, LiveTable}
use Rattle.leveldb_version_set.specs.Sets.LogEdit.{edit_record, new_manifest, new_records, set_appended, set_begun, with_bytes_kept, written_edit}
use Rattle.leveldb_version_set.specs.Sets.NewManifest.{manifest_bytes, with_manifest}
use Rattle.leveldb_version_set.specs.Engines.Opening.{AreLogTables, FitsEdit, IsLogToWrite, IsMadeBefore, opened_memory, tables_edit}
use Rattle.leveldb_version_set.specs.Engines.OpeningLaws.{EndsOpening, IsOpened, OpeningsEnd, OpeningsGoOn}
use Rattle.leveldb_files.specs.Stores.Paths.{log_path, table_path}
use Rattle.leveldb_files.specs.Stores.Store.{IsManagedBy, IsStore, LogIsReplayed, OneTableReading, log_entries}
use Rattle.leveldb_files.specs.Steps.StoreSteps.{EditRefines, HasAddedTables, IsAllKept, IsKept, IsWritable, Refines, SameButNextFile}
use Rattle.leveldb_version_set.specs.Sets.Tracks.{IsInUse}
use Rattle.leveldb_files.specs.Edits.Edit.{Edit, FieldFits, IsEncodable, NewFile, adds}
use Rattle.leveldb_files.specs.Edits.VersionSet.{is_same_file, level_file, live_after}
use Rattle.leveldb_version_set.specs.Sets.VersionSetValue.{OpenManifest, VersionSetValue, in_use, unmade}
use Rattle.leveldb_version_set.specs.Engines.Writing.{IsRecoveredBy, IsTrackedBy, IsWrittenBy}
use Rattle.std.proofs.Common.{◌++◌, ◌<◌, ◌^◌, ◌∙◌, ◌∷◌, ◌≡◌, ◌≤◌, ◌⊎◌, Bool, List, None, Some, [], ap, arith, false, inl, inr, length, map, refl, subst, sym, true, ℕ, ⊎_elim}
use Rattle.std.proofs.lemmas.Bool.{cases_lt}
use Rattle.std.proofs.lemmas.List.{get_or_default}
use Rattle.std.proofs.lemmas.List.Elements.{Contains-append_cases}
use Rattle.std.specs.Prelude.{◌≢◌, AllPairs, Contains, IsSome, slice_index_or}
use Rattle.std.specs.declared.cmp.Ordering.{Ordering}

-- ---- tables in the order in which they were made

-- of two tables one was made before the other
made_in_order : (tables : List LiveTable) → AllPairs IsMadeBefore tables → (a b : LiveTable)
    → Contains tables a → Contains tables b → (a ≡ b) ⊎ (IsMadeBefore a b ⊎ IsMadeBefore b a)
made_in_order tables rising a b c d = ⊎_elim
    (λ (less : c.0 < d.0). inr (inl
    (subst (λ x. IsMadeBefore x b) c.2
    (subst (IsMadeBefore (slice_index_or tables c.0 a))
    (get_or_default tables d.0 a b d.1 ∙ d.2) (rising c.0 d.0 a less d.1)))))
    (λ (most : d.0 ≤ c.0). ⊎_elim
    (λ (less : d.0 < c.0). inr (inr
    (subst (λ x. IsMadeBefore x a) d.2
    (subst (IsMadeBefore (slice_index_or tables d.0 b))
    (get_or_default tables c.0 b a c.1 ∙ c.2) (rising d.0 c.0 b less c.1)))))
    (λ (least : c.0 ≤ d.0). inl
    (let same : c.0 ≡ d.0 = omega (arith, most, least) in
    sym c.2 ∙ ap (λ k. slice_index_or tables k a) same
    ∙ get_or_default tables d.0 a b d.1 ∙ d.2))
    (cases_lt d.0 c.0))
    (cases_lt c.0 d.0)

-- so tables of one number are the same
one_of_number : (tables : List LiveTable) → AllPairs IsMadeBefore tables → (a b : LiveTable)
    → Contains tables a → Contains tables b → a.file.number ≡ b.file.number → a ≡ b
one_of_number tables rising a b c d same = ⊎_elim
    (λ (e : a ≡ b). e)
    (λ (either : IsMadeBefore a b ⊎ IsMadeBefore b a). absurd (⊎_elim
    (λ (before : IsMadeBefore a b). let less = before.number in omega (arith, less, same))
    (λ (after : IsMadeBefore b a). let less = after.number in omega (arith, less, same)) either))
    (made_in_order tables rising a b c d)

module _ (store : List ℕ) (cmp : List ℕ → List ℕ → Ordering)
    (IsTableOf : List ℕ → List Pair → Type 0) where
  -- ---- a recovered store with a log to write

  module _ (files : Files) (edits : List Edit) (set : VersionSetValue)
      (r : IsRecoveredBy store cmp IsTableOf files edits set) (found : Contents)
      (m : IsManagedBy store cmp IsTableOf files edits found)
      (last_is : found.last ≡ set.last_sequence) (last_fits : set.last_sequence ≤ greatest_sequence)
      (log : ℕ) (mem : List Entry) (w : IsLogToWrite store files set log mem)
      (none_below : (name : List ℕ) (k : ℕ) → IsFileName name k Log
      → LogIsReplayed (live_after edits) k → files (in_folder store name) ≢ None → log ≤ k)
      (manifest : OpenManifest) (is : set.manifest ≡ in_use manifest) where
    u : IsInUse store files edits manifest
    u = subst (λ s. IsInUse s files edits manifest) r.tracked.store_is
        (r.tracked.tracks.used manifest is)

    named : IsFileName (file_name Log log) log Log
    named = made_name Log log w.fits

    replayed : LogIsReplayed (live_after edits) log
    replayed = inl (set.log_number, r.tracked.tracks.left.log_number, w.from_log)

    there_is : (path : List ℕ) (file : File) → files path ≡ Some file → files path ≢ None
    there_is path file there gone = let never : Some file ≡ None = sym there ∙ gone in cc

    abbrev writable : IsWritable store files edits
    writable = record {
      has_edits = u.opened.has_edits;
      current = u.opened.current_kept;
      manifest = u.manifest_kept;
      tables = r.kept.tables;
      log = record {
        number = log;
        fits = w.fits;
        last = record {
          replayed = replayed;
          empty_after = λ name n other its again less there.
              let most = w.greatest name n its (there_is (in_folder store name) other there) in
              absurd (omega (arith, most, less));
          others_kept = λ name n its again differ. r.kept.logs name n its again;
        };
        clean_before = λ n other less again there.
            let least = none_below (file_name Log n) n
            (made_name Log n (omega (arith, less, w.fits))) again
            (there_is (log_path store n) other there) in
            absurd (omega (arith, least, less));
        file = w.file;
        there = w.there;
        records = w.records;
        clean_end = w.clean_end;
        batches = w.batches;
        each = w.each;
      };
      bytes = r.tracked.bytes (log_path store log) w.file w.there;
    }

    written : IsWrittenBy store cmp IsTableOf files edits (opened_memory set log mem)
    written = record {
      tracked = record {
        tracks = r.tracked.tracks;
        store_is = r.tracked.store_is;
        has_edits = r.tracked.has_edits;
        contents = found;
        managed = m;
        numbers = r.tracked.numbers;
        manifest_below = r.tracked.manifest_below;
        number_is = r.tracked.number_is;
        bytes = r.tracked.bytes;
      };
      manifest = manifest;
      is_in_use = is;
      writable = writable;
      log_is = refl;
      from_log = w.from_log;
      mem_is = w.mem_is;
      imm_is = λ entry. (
        λ c. absurd (in_none entry c),
        λ i. let h = m.has_logs.each i.0 i.1 in
            let least = none_below (file_name Log i.0.number) i.0.number
            (made_name Log i.0.number h.2) h.1
            (there_is (log_path store i.0.number) h.0.0 h.0.1) in
            absurd (omega (arith, least, i.2)),
      );
      reached = omega (arith, last_is);
      last_fits = last_fits;
    }

    kept : IsAllKept store cmp IsTableOf files found
    kept = record {
      managed = record { edits = edits; has_edits = u.opened.has_edits; managed = m };
      current = u.opened.current_kept;
      manifest = u.manifest_kept;
      kept = r.kept;
    }

    -- the store is open, with what matched the contents that these refine
    pub opened : (allowed : Store → Type 0) (before : Contents)
        → ((history : History) → MatchesHistory allowed set.last_sequence before history
        → MatchesHistory allowed set.last_sequence found history)
        → IsOpened store cmp IsTableOf allowed before files edits (opened_memory set log mem)
    opened allowed before matches = record {
      written = written;
      holds = λ history t. subst
          (λ last. Holds store (IsStore store cmp IsTableOf) allowed files history last
          (length history) None) last_is
          (kept_holds store cmp IsTableOf allowed set.last_sequence history files found kept
          (matches history t));
    }

  pub openings_go_on : (allowed : Store → Type 0) → OpeningsGoOn store cmp IsTableOf allowed
  openings_go_on allowed files edits set r found m last_is last_fits log mem w below manifest
      is =
      opened files edits set r found m last_is last_fits log mem w none_below manifest is allowed
      found (λ history t. t)
    where
      none_below : (name : List ℕ) (k : ℕ) → IsFileName name k Log
          → LogIsReplayed (live_after edits) k → files (in_folder store name) ≢ None → log ≤ k
      none_below name k its replayed some = ⊎_elim
          (λ (less : k < log).
          let own = (m.has_logs.all name k its replayed some).0 in
          let none = below.all k less replayed
          (subst (λ z. files (in_folder store z) ≢ None) own some) in
          absurd (in_none none.0 none.1))
          (λ (least : log ≤ k). least)
          (cases_lt k log)

  -- ---- the edit with which an opening ends

  module _ (one : OneTableReading IsTableOf) (files : Files) (edits : List Edit)
      (set : VersionSetValue) (r : IsRecoveredBy store cmp IsTableOf files edits set)
      (found : Contents) (m : IsManagedBy store cmp IsTableOf files edits found)
      (last_is : found.last ≡ set.last_sequence) (last_fits : set.last_sequence ≤ greatest_sequence)
      (log : ℕ) (mem : List Entry) (w : IsLogToWrite store files set log mem)
      (tables : List LiveTable) (a : AreLogTables store cmp IsTableOf files edits log tables)
      (next_fits : set.next_file < 2 ^ 64)
      (fit : (table : LiveTable) → Contains tables table → FitsEdit table.file) where
    abbrev added_files : List NewFile
    added_files = map (λ (table : LiveTable). table.file) tables

    abbrev plain : Edit
    plain = tables_edit log added_files

    abbrev edit : Edit
    edit = written_edit set plain

    abbrev then : List Edit
    then = edits ++ edit ∷ []

    can : IsEncodable edit
    can = tables_edit_fits set log added_files w.fits next_fits (omega (arith, last_fits))
        (λ file c.
        let x = in_map (λ (t : LiveTable). t.file) tables file c in
        let f = fit x.0 x.1 in
        let top = (a.each x.0 x.1).1 in
        subst (λ (f : NewFile). FieldFits (adds f)) x.2
        (omega (arith, top), f.number, f.size))

    bytes : AreBytes (edit_record set plain)
    bytes = tables_record_bytes set log added_files
        (λ file c.
        let x = in_map (λ (t : LiveTable). t.file) tables file c in
        let f = fit x.0 x.1 in subst KeysAreBytes x.2 (f.smallest, f.largest))

    -- ---- its tables

    -- their entries are in logs
    table_in_logs : (table : LiveTable) (entry : Entry) → Contains tables table
        → Contains table.entries entry → Contains (log_entries m.logs) entry
    table_in_logs table entry c d =
        taken_in_logs store cmp IsTableOf files edits found m log a.taken a.has_taken entry
        ((a.entries entry).0 (flat_in (λ (t : LiveTable). t.entries) tables table entry c d))

    -- so they are newer than those of all live tables
    above_live : (x y : LiveTable) → Contains m.tables x → Contains tables y
        → IsOlder x.entries y.entries
    above_live x y c d older newer in_x in_y same = m.fit.below older newer
        (flat_in (λ (t : LiveTable). t.entries) m.tables x older c in_x)
        (table_in_logs y newer d in_y)

    level_of : (table : LiveTable) → Contains tables table → table.file.level ≡ 0
    level_of table c = (a.each table c).1

    number_above : (x y : LiveTable) → Contains m.tables x → Contains tables y
        → x.file.number < y.file.number
    number_above x y c d = let h = m.has_tables.each x c in a.above y x.file d h.2 h.1

    levels : LevelOrder cmp (tables ++ m.tables)
    levels = record { disjoint = disjoint; deeper = deeper; newer = newer }
      where
        cases : (x : LiveTable) → Contains (tables ++ m.tables) x
            → Contains tables x ⊎ Contains m.tables x
        cases x c = Contains-append_cases tables m.tables x c

        disjoint : (x y : LiveTable) → Contains (tables ++ m.tables) x
            → Contains (tables ++ m.tables) y → x.file.level ≡ y.file.level
            → 0 < x.file.level → x.file.number ≢ y.file.number → AreDisjoint cmp x.file y.file
        disjoint x y c d same deep differ = by (cases x c) (cases y d)
          where
            by : Contains tables x ⊎ Contains m.tables x → Contains tables y ⊎ Contains m.tables y
                → AreDisjoint cmp x.file y.file
            by (inl f) g = let top = level_of x f in absurd (omega (arith, top, deep))
            by (inr f) (inl g) = let top = level_of y g in absurd (omega (arith, top, same, deep))
            by (inr f) (inr g) = m.fit.levels.disjoint x y f g same deep differ

        deeper : (x y : LiveTable) → Contains (tables ++ m.tables) x
            → Contains (tables ++ m.tables) y → x.file.level < y.file.level
            → IsOlder y.entries x.entries
        deeper x y c d less = by (cases x c) (cases y d)
          where
            by : Contains tables x ⊎ Contains m.tables x → Contains tables y ⊎ Contains m.tables y
                → IsOlder y.entries x.entries
            by f (inl g) = let top = level_of y g in absurd (omega (arith, top, less))
            by (inl f) (inr g) = above_live y x g f
            by (inr f) (inr g) = m.fit.levels.deeper x y f g less

        newer : (x y : LiveTable) → Contains (tables ++ m.tables) x
            → Contains (tables ++ m.tables) y → x.file.level ≡ 0 → y.file.level ≡ 0
            → x.file.number < y.file.number → IsOlder x.entries y.entries
        newer x y c d x_top y_top less = by (cases x c) (cases y d)
          where
            by : Contains tables x ⊎ Contains m.tables x → Contains tables y ⊎ Contains m.tables y
                → IsOlder x.entries y.entries
            by (inl f) (inl g) = ⊎_elim
                (λ (e : x ≡ y).
                let same = ap (λ (t : LiveTable). t.file.number) e in
                absurd (omega (arith, same, less)))
                (λ (either : IsMadeBefore x y ⊎ IsMadeBefore y x). ⊎_elim
                (λ (before : IsMadeBefore x y). before.older)
                (λ (after : IsMadeBefore y x).
                let more = after.number in absurd (omega (arith, more, less))) either)
                (made_in_order tables a.rising x y f g)
            by (inl f) (inr g) =
                let more = number_above y x g f in absurd (omega (arith, more, less))
            by (inr f) (inl g) = above_live x y f g
            by (inr f) (inr g) = m.fit.levels.newer x y f g x_top y_top less

    apart : (table other : LiveTable) → Contains tables table → Contains m.tables other
        → is_same_file (level_file table.file) (level_file other.file) ≡ false
    apart table other c d =
        by (is_same_file (level_file table.file) (level_file other.file)) refl
      where
        by : (b : Bool) → is_same_file (level_file table.file) (level_file other.file) ≡ b
            → is_same_file (level_file table.file) (level_file other.file) ≡ false
        by false e = e
        by true e =
            let same = (same_place table.file other.file e).1 in
            let less = number_above other table d c in
            absurd (omega (arith, same, less))

    added : HasAddedTables store cmp IsTableOf files edit tables
    added = record {
      each = λ table c. (
        (a.each table c).0,
        map_in (λ (t : LiveTable). t.file) tables table c,
        (fit table c).number,
      );
      all = λ file c. in_map (λ (t : LiveTable). t.file) tables file c;
      once = λ file other c d e.
          let x = in_map (λ (t : LiveTable). t.file) tables file c in
          let y = in_map (λ (t : LiveTable). t.file) tables other d in
          let same : y.0.file.number ≡ x.0.file.number =
          ap (λ (f : NewFile). f.number) y.2 ∙ (same_place other file e).1
          ∙ sym (ap (λ (f : NewFile). f.number) x.2) in
          sym y.2 ∙ ap (λ (t : LiveTable). t.file)
          (one_of_number tables a.rising y.0 x.0 y.1 x.1 same) ∙ x.2;
    }

    takes : TakesLogs store cmp IsTableOf files edits set log plain
    takes = takes_logs store cmp IsTableOf one files edits set r.tracked r.kept.tables found m
        (omega (arith, last_is)) last_fits log w.from_log tables (λ table c. (a.each table c).2)
        added apart levels a.taken a.has_taken a.entries

    -- ---- the store after it

    -- Where files have edits that leave the same, and the logs and tables are as they were, the
    -- store is open.
    module _ (now : Files) (those : List Edit) (set_then : VersionSetValue)
        (t : IsTrackedBy store cmp IsTableOf now those set_then)
        (log_is_then : set_then.log_number ≡ log)
        (last_is_then : set_then.last_sequence ≡ set.last_sequence)
        (same_left : SameButNextFile (live_after then) (live_after those))
        (refined : Refines set.last_sequence found t.contents)
        (same_log : (name : List ℕ) (k : ℕ) → IsFileName name k Log
        → now (in_folder store name) ≡ files (in_folder store name))
        (same_table : (k : ℕ) → k < 2 ^ 64
        → now (table_path store k) ≡ files (table_path store k)) (manifest : OpenManifest)
        (is : set_then.manifest ≡ in_use manifest) where
      from_log : (k : ℕ) → LogIsReplayed (live_after those) k → log ≤ k
      from_log k (inl x) =
          takes.from_log k (inl (x.0, sym same_left.log_number ∙ x.1, x.2))
      from_log k (inr x) = takes.from_log k (inr (sym same_left.previous_log ∙ x.0, x.1))

      recovered : IsRecoveredBy store cmp IsTableOf now those set_then
      recovered = record {
        tracked = t;
        kept = record {
          tables = λ file file_fits live. subst IsKept (sym (same_table file.number file_fits))
              (takes.tables_kept file file_fits (sym (same_left.file file) ∙ live));
          logs = λ name k its replayed. subst IsKept (sym (same_log name k its))
              (r.kept.logs name k its (takes.still k (from_log k replayed)));
        };
      }

      to_write : IsLogToWrite store now set_then log mem
      to_write = record {
        fits = w.fits;
        from_log = omega (arith, log_is_then);
        greatest = λ name k its some.
            w.greatest name k its (λ gone. some (same_log name k its ∙ gone));
        file = w.file;
        there = same_log (file_name Log log) log (made_name Log log w.fits) ∙ w.there;
        records = w.records;
        clean_end = w.clean_end;
        batches = w.batches;
        each = w.each;
        mem_is = w.mem_is;
      }

      pub opened_then : (allowed : Store → Type 0)
          → IsOpened store cmp IsTableOf allowed found now those
          (opened_memory set_then log mem)
      opened_then allowed =
          opened now those set_then recovered t.contents t.managed
          (let more = refined.later in let most = refined.bounded in
          omega (arith, more, most, last_is, last_is_then))
          (omega (arith, last_fits, last_is_then)) log mem to_write
          (λ name k its replayed some. from_log k replayed) manifest is allowed found
          (λ history matches. subst (λ last. MatchesHistory allowed last t.contents history)
          (sym last_is_then)
          (matches_refined allowed set.last_sequence found t.contents history refined
          (subst (λ last. MatchesHistory allowed last found history) last_is_then matches)))

    same_to_itself : SameButNextFile (live_after then) (live_after then)
    same_to_itself = record {
      file = λ file. refl;
      comparator = refl;
      log_number = refl;
      previous_log = refl;
      next_file = subst IsSome (sym (numbers_are edits set plain).next_file) refl;
      last_sequence = refl;
    }

    -- ---- either way

    least : found.last ≤ set.last_sequence
    least = omega (arith, last_is)

    exact : EditRefines store cmp IsTableOf set.last_sequence files edits edit
    exact = takes.refines set.last_sequence (omega arith)

    appended_opens : (allowed : Store → Type 0) (manifest : OpenManifest)
        → set.manifest ≡ in_use manifest → IsOpened store cmp IsTableOf allowed found
        (with_bytes_kept manifest.path (frame manifest.writer (edit_record set plain)) files) then
        (opened_memory (set_appended manifest set plain) log mem)
    appended_opens allowed manifest is = opened_then
        (with_bytes_kept manifest.path (frame manifest.writer (edit_record set plain)) files) then
        (set_appended manifest set plain)
        (appended_tracked store cmp IsTableOf files edits set r.tracked found m least plain can
        exact manifest is bytes) refl refl same_to_itself
        (after store cmp IsTableOf files edits set r.tracked found m least plain can exact manifest
        is bytes).2 (λ name k its. same name k Log its (λ e. cc))
        (λ k k_fits. same (file_name Table k) k Table (made_name Table k k_fits) (λ e. cc))
        (record manifest { writer = after_frame manifest.writer (edit_record set plain) }) refl
        allowed
      where
        same : (name : List ℕ) (k : ℕ) (kind : FileType) → IsFileName name k kind
            → Descriptor ≢ kind
            → with_bytes_kept manifest.path (frame manifest.writer (edit_record set plain)) files
            (in_folder store name) ≡ files (in_folder store name)
        same = same_of store cmp IsTableOf files edits set r.tracked found m least plain can exact
            manifest is bytes

    begun_opens : (allowed : Store → Type 0) (is : set.manifest ≡ unmade)
        → IsOpened store cmp IsTableOf allowed found
        (with_manifest store set.manifest_number (manifest_bytes (new_records set plain)) files)
        (set.full ∷ edit ∷ []) (opened_memory (set_begun set plain) log mem)
    begun_opens allowed is = opened_then
        (with_manifest store set.manifest_number (manifest_bytes (new_records set plain)) files)
        (set.full ∷ edit ∷ []) (set_begun set plain)
        (begun_tracked store cmp IsTableOf files edits set r.tracked found m least plain can exact
        is) refl refl (both_same files edits set plain r.tracked.tracks can)
        (after_both store cmp IsTableOf files edits set r.tracked found m least plain can exact
        is).2
        (λ name k its. same name k Log its (λ e. cc) (λ e. cc) (λ e. cc))
        (λ k k_fits. same (file_name Table k) k Table (made_name Table k k_fits) (λ e. cc) (λ e. cc)
        (λ e. cc))
        (new_manifest set plain) refl allowed
      where
        same : (name : List ℕ) (k : ℕ) (kind : FileType) → IsFileName name k kind
            → Descriptor ≢ kind → Temp ≢ kind → Current ≢ kind
            → with_manifest store set.manifest_number (manifest_bytes (new_records set plain)) files
            (in_folder store name) ≡ files (in_folder store name)
        same = same_made store cmp IsTableOf files edits set r.tracked found m least plain can exact
            is

    ends : (allowed : Store → Type 0)
        → EndsOpening store cmp IsTableOf allowed found files edits set plain log mem
    ends allowed = record {
      appending = λ manifest is bound most moment passes.
          appended_edits_keep store cmp IsTableOf allowed files edits set plain r.tracked.tracks
          r.tracked.store_is r.tracked.bytes can bytes bound (takes.refines bound most) manifest is
          moment passes;
      appended = λ manifest is. appended_opens allowed manifest is;
      making = λ is bound most moment passes.
          begun_edits_keep store cmp IsTableOf allowed files edits set plain r.tracked.tracks
          r.tracked.store_is r.tracked.bytes can bound (takes.refines bound most) is moment passes;
      made = λ is. begun_opens allowed is;
    }

  pub openings_end : (allowed : Store → Type 0) → OpeningsEnd store cmp IsTableOf allowed
  openings_end allowed one files edits set r found m last_is last_fits log mem w tables a
      next_fits fit =
      ends one files edits set r found m last_is last_fits log mem w tables a next_fits fit
      allowed
