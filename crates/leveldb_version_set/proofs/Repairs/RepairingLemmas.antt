-- What a repair left: all that is read of it is kept, so it holds the set of its tables' entries;
-- and a manifest of the one edit makes tables such a store. Until then each history is kept.
use Rattle.leveldb_base.proofs.EntriesLemmas.{in_map, map_in}
use Rattle.leveldb_base.proofs.HistoryLemmas.{in_cases, in_none}
use Rattle.leveldb_base.proofs.NamesLemmas.{made_name}
use Rattle.leveldb_base.specs.History.{Entry, greatest}
use Rattle.leveldb_base.specs.KeyTypes.{greatest_sequence}
use Rattle.leveldb_base.specs.Names.{IsFileName, file_name}
use Rattle.leveldb_base.specs.Types.{Pair}
use Rattle.leveldb_base.specs.declared.types.FileType.{FileType}
use Rattle.leveldb_base.specs.declared.types.FileType.TheVariants.{Current, Descriptor, Log, Table, Temp}
use Rattle.leveldb_env.proofs.EnvLemmas.{at_other, at_same}
use Rattle.leveldb_env.specs.Env.{File, Files, deleted, in_folder, kept_file}
use Rattle.leveldb_files.proofs.Edits.CurrentLemmas.{written_current}
use Rattle.leveldb_files.proofs.Edits.EditTablesLemmas.{tables_then}
use Rattle.leveldb_files.proofs.Histories.HistoriesLemmas.{matches_set}
use Rattle.leveldb_files.proofs.Stores.KeptLemmas.{kept_holds}
use Rattle.leveldb_version_set.proofs.Sets.LogKeepsLemmas.{bytes_of_some}
use Rattle.leveldb_files.proofs.Stores.ManagedLemmas.{same_bytes, table_on}
use Rattle.leveldb_version_set.proofs.Sets.NewManifestKeepsLemmas.{elsewhere, framed_is_manifest, step_one, step_three, step_three_is, step_two, temp_manifest, text_file, to_manifest}
use Rattle.leveldb_files.proofs.Histories.NumbersLemmas.{up_to_greatest}
use Rattle.leveldb_files.proofs.Stores.OneStoreLemmas.{in_flat}
use Rattle.leveldb_version.proofs.Versions.PairwiseLemmas.{each_second}
use Rattle.leveldb_version_set.proofs.Repairs.RepairingKeepsLemmas.{repair_keeps}
use Rattle.leveldb_files.proofs.Histories.SafeLemmas.{some_is}
use Rattle.leveldb_files.proofs.Edits.EditLemmas.{written_is_read}
use Rattle.leveldb_files.proofs.Edits.VersionSetLemmas.{none_is_some}
use Rattle.leveldb_files.proofs.Histories.ViewsLemmas.{greatest_most}
use Rattle.leveldb_version_set.specs.Compactions.Compaction.{files_of_tables}
use Rattle.leveldb_files.specs.Stores.Contents.{Contents, Store, made}
use Rattle.leveldb_files.specs.Edits.Current.{IsCurrentText, current_text}
use Rattle.leveldb_version_set.specs.Sets.CurrentFile.{temp_path}
use Rattle.leveldb_version_set.specs.Repairs.Found.{HasNoTableNorLog}
use Rattle.leveldb_files.specs.Histories.Holds.{Holds}
use Rattle.leveldb_files.specs.Levels.Levels.{LevelOrder, LiveTable, table_entries}
use Rattle.leveldb_version_set.specs.Sets.NewManifest.{MakingManifest}
use Rattle.leveldb_files.specs.Stores.Paths.{current_path, manifest_path, table_path}
use Rattle.leveldb_version_set.specs.Repairs.Repairing.{AreLevelOne, HasRepairedTables, HoldOldOrFound, IsRepairedStore, IsAmidRepair, ManifestRepairs, repaired_contents, repaired_edit, repaired_manifest}
use Rattle.leveldb_files.specs.Stores.Store.{FitTogether, HasTables, IsInternalPair, IsManagedBy, IsManifest, IsStore, LastNumbersFit, LogIsReplayed, SameEntries, contents_of}
use Rattle.leveldb_files.specs.Steps.StoreSteps.{AddsOnce, AreKept, HasAddedTables, IsAllKept, IsKept, LeavesAlone}
use Rattle.leveldb_files.specs.Edits.Edit.{Edit, IsEncodable, NewFile, edit_bytes}
use Rattle.leveldb_files.specs.Edits.VersionSet.{FileSet, level_file, live_after}
use Rattle.std.proofs.Common.{◌<◌, ◌==◌, ◌^◌, ◌∙◌, ◌∷◌, ◌≡◌, ◌≤◌, ◌⊎◌, List, None, Option, Some, [], ap, append-nil, arith, inl, inr, refl, subst, sym, ℕ, ⊎_elim}
use Rattle.std.proofs.lemmas.Bool.{and_parts, eqb-true}
use Rattle.std.proofs.lemmas.List.Elements.{All-cons, All-nil}
use Rattle.std.specs.Prelude.{◌≢◌, Contains, max}
use Rattle.std.specs.declared.cmp.Ordering.{Ordering}

-- sets of the same entries have one greatest number
same_greatest : (these those : List Entry) → SameEntries these those
    → greatest these ≡ greatest those
same_greatest these those same =
    let low = most these those (λ entry. (same entry).0) in
    let high = most those these (λ entry. (same entry).1) in
    omega (arith, low, high)
  where
    most : (es fs : List Entry) → ((entry : Entry) → Contains es entry → Contains fs entry)
        → greatest es ≤ greatest fs
    most es fs among = greatest_most (greatest fs) es
        (λ entry c. up_to_greatest fs entry (among entry c))

module _ (store : List ℕ) (cmp : List ℕ → List ℕ → Ordering)
    (IsTableOf : List ℕ → List Pair → Type 0) where
  abbrev LevelOne : Files → List LiveTable → Type 0
  LevelOne = AreLevelOne store cmp IsTableOf

  abbrev Tables : ℕ → ℕ → ℕ → List LiveTable → Files → Type 0
  Tables = HasRepairedTables store cmp IsTableOf

  -- ---- the tables alone

  -- their levels are in order
  pub level_one_order : (files : Files) (tables : List LiveTable) → LevelOne files tables
      → LevelOrder cmp tables
  level_one_order files tables are = record {
    disjoint = λ a b in_a in_b same deep differ. are.apart a b in_a in_b differ;
    deeper = λ a b in_a in_b less.
        let one = (are.each a in_a).2 in
        let other = (are.each b in_b).2 in absurd (omega (arith, one, other, less));
    newer = λ a b in_a in_b zero.
        let one = (are.each a in_a).2 in absurd (omega (arith, one, zero));
  }

  -- the numbers of their entries are those that entries may have
  level_one_fits : (files : Files) (tables : List LiveTable) → LevelOne files tables
      → greatest (table_entries tables) ≤ greatest_sequence
  level_one_fits files tables are = greatest_most greatest_sequence (table_entries tables)
      (λ entry c.
      let t = in_flat (λ (table : LiveTable). table.entries) tables entry c in
      let h = (are.each t.0 t.1).0 in
      let p = each_second IsInternalPair h.pairs t.0.entries entry h.each t.2 in
      let fits = p.2.fits in omega (arith, fits))

  -- they are there where tables are as they were
  level_one_again : (tables : List LiveTable) (files now : Files)
      → ((name : List ℕ) (k : ℕ) → IsFileName name k Table
      → now (in_folder store name) ≡ files (in_folder store name))
      → LevelOne files tables → LevelOne now tables
  level_one_again tables files now same_table are = record {
    each = λ table c.
        let h = are.each table c in
        let n = table.file.number in
        let same : now (table_path store n) ≡ files (table_path store n) =
        same_table (file_name Table n) n (made_name Table n h.3) in (
          table_on store cmp IsTableOf files now table
              (same_bytes (files (table_path store n)) (now (table_path store n)) same) h.0,
          subst IsKept (sym same) h.1,
          h.2,
          h.3,
        );
    known = are.known;
    apart = are.apart;
  }

  -- so are those of a repair where logs are, too
  pub tables_again : (manifest next last : ℕ) (tables : List LiveTable) (files now : Files)
      → ((name : List ℕ) (k : ℕ) → IsFileName name k Table
      → now (in_folder store name) ≡ files (in_folder store name))
      → ((name : List ℕ) (k : ℕ) → IsFileName name k Log
      → now (in_folder store name) ≡ files (in_folder store name))
      → Tables manifest next last tables files → Tables manifest next last tables now
  tables_again manifest next last tables files now same_table same_log has = record {
    level_one = level_one_again tables files now same_table has.level_one;
    past = has.past;
    numbers = has.numbers;
    last_is = has.last_is;
    numbered = has.numbered;
    above_logs = λ name k is some.
        has.above_logs name k is (λ none. some (same_log name k is ∙ none));
  }

  module _ (comparator : List ℕ) (manifest next last : ℕ) (tables : List LiveTable) where
    abbrev edit : Edit
    edit = repaired_edit comparator next last (files_of_tables tables)

    abbrev edits : List Edit
    edits = edit ∷ []

    abbrev set : FileSet
    set = live_after edits

    abbrev contents : Contents
    contents = repaired_contents comparator tables last

    module _ (files : Files) (has : Tables manifest next last tables files) where
      -- ---- the tables are live, and no log is replayed

      added_once : AddsOnce edit
      added_once file other in_file in_other same =
          let a = in_map (λ (t : LiveTable). t.file) tables file in_file in
          let b = in_map (λ (t : LiveTable). t.file) tables other in_other in
          let both = and_parts (other.level == file.level) (other.number == file.number) same in
          let levels = ap (λ (f : NewFile). f.level) b.2
          ∙ eqb-true other.level file.level both.0 ∙ sym (ap (λ (f : NewFile). f.level) a.2) in
          let numbers = ap (λ (f : NewFile). f.number) b.2
          ∙ eqb-true other.number file.number both.1 ∙ sym (ap (λ (f : NewFile). f.number) a.2) in
          sym b.2 ∙ ap (λ (t : LiveTable). t.file)
          (has.level_one.known b.0 a.0 b.1 a.1 levels numbers) ∙ a.2

      added : HasAddedTables store cmp IsTableOf files edit tables
      added = record {
        each = λ table c. let h = has.level_one.each table c in
            (h.0, map_in (λ (t : LiveTable). t.file) tables table c, h.3);
        all = λ file c. in_map (λ (t : LiveTable). t.file) tables file c;
        once = added_once;
      }

      none_before : HasTables store cmp IsTableOf files (live_after []) []
      none_before = record {
        each = λ table c. absurd (in_none table c);
        all = λ file live. absurd (none_is_some live);
      }

      has_tables : HasTables store cmp IsTableOf files set tables
      has_tables = tables_then store cmp IsTableOf files [] edit [] tables tables none_before added
          (λ table. (
            λ c. inl c,
            λ either. ⊎_elim (λ (c : Contains tables table). c)
                (λ (o : Contains [] table × LeavesAlone edit (level_file table.file)).
                absurd (in_none table o.0)) either,
          ))

      no_log : (name : List ℕ) (n : ℕ) → IsFileName name n Log → LogIsReplayed set n
          → files (in_folder store name) ≢ None → ⊥
      no_log name n is (inl from) some =
          let below = has.above_logs name n is some in
          let same = some_is next from.0 from.1 in
          omega (arith, below, same, from.2)
      no_log name n is (inr previous) some =
          let zero = some_is 0 n previous.0 in omega (arith, zero, previous.1)

      -- ---- they are a store

      fit : FitTogether cmp tables [] last
      fit = record {
        rise = tt;
        ends = λ a b in_a. absurd (in_none a in_a);
        numbered = λ entry c. (
          has.numbered entry c,
          subst (λ n. entry.sequence ≤ n) (sym has.last_is)
              (up_to_greatest (table_entries tables) entry c),
        );
        below = λ entry later c l. absurd (in_none later l);
        levels = level_one_order files tables has.level_one;
      }

      numbers_fit : LastNumbersFit edits
      numbers_fit one n c is = ⊎_elim
          (λ (same : edit ≡ one).
          let number : last ≡ n = some_is last n
          (subst (λ (it : Edit). it.last_sequence ≡ Some n) (sym same) is) in
          subst (λ m. m ≤ greatest_sequence) (sym has.last_is ∙ number)
          (level_one_fits files tables has.level_one))
          (λ (none : Contains [] one). absurd (in_none one none))
          (in_cases edit one [] c)

      contents_are : contents ≡ contents_of comparator tables [] last
      contents_are =
          let entries = sym (append-nil (table_entries tables)) in
          let number : last ≡ max last 0 = omega arith in
          λ i. record { store = made (Some comparator); entries = entries i; last = number i }

      pub repaired_managed : IsManagedBy store cmp IsTableOf files edits contents
      repaired_managed = record {
        comparator = comparator;
        comparator_is = refl;
        log_is = refl;
        next_file_is = refl;
        last = last;
        last_is = refl;
        numbers_fit = numbers_fit;
        tables = tables;
        has_tables = has_tables;
        logs = [];
        has_logs = record {
          each = λ one c. absurd (in_none one c);
          all = λ name n is replayed some. absurd (no_log name n is replayed some);
          rising = tt;
        };
        fit = fit;
        is = contents_are;
      }

      -- ---- all that is read is kept

      kept : AreKept store set files
      kept = record {
        tables = λ file fits live.
            let t = has_tables.all file live in
            subst (λ (f : NewFile). IsKept (files (table_path store f.number))) t.2
            (has.level_one.each t.0 t.1).1;
        logs = λ name n is replayed.
            kept_if_there (files (in_folder store name)) (no_log name n is replayed);
      }
        where
          kept_if_there : (file : Option File) → (file ≢ None → ⊥) → IsKept file
          kept_if_there None never = tt
          kept_if_there (Some file) never =
              absurd (never (λ e. let wrong : Some file ≡ None = e in cc))

    pub repaired_is_kept : (files : Files)
        → IsRepairedStore store cmp IsTableOf comparator manifest next last tables files
        → IsAllKept store cmp IsTableOf files contents
    repaired_is_kept files r = record {
      managed = record {
        edits = edits;
        has_edits = r.edits.has_edits;
        managed = repaired_managed files r.has;
      };
      current = r.edits.current;
      manifest = r.edits.manifest;
      kept = kept files r.has;
    }

    pub repaired_holds : (allowed : Store → Type 0) (files : Files)
        → IsRepairedStore store cmp IsTableOf comparator manifest next last tables files
        → allowed (made (Some comparator)) → (found : List Entry)
        → SameEntries (table_entries tables) found
        → Holds store (IsStore store cmp IsTableOf) allowed files (found ∷ []) (greatest found) 1
        None
    repaired_holds allowed files r may found same =
        subst (λ n. Holds store (IsStore store cmp IsTableOf) allowed files (found ∷ []) n 1 None)
        last_found
        (kept_holds store cmp IsTableOf allowed last (found ∷ []) files contents
        (repaired_is_kept files r)
        (matches_set allowed last contents found same (omega (arith, last_found)) (omega arith)
        may))
      where
        last_found : last ≡ greatest found
        last_found = r.has.last_is ∙ same_greatest (table_entries tables) found same

    -- until then each history is kept
    pub repairs_hold : (allowed : Store → Type 0) (taken : ℕ) (old now : Files)
        → IsAmidRepair store taken next old now → (HasNoTableNorLog store old → ⊥)
        → (now (current_path store) ≡ old (current_path store))
        ⊎ IsRepairedStore store cmp IsTableOf comparator manifest next last tables now
        → allowed (made (Some comparator)) → (found : List Entry)
        → SameEntries (table_entries tables) found
        → HoldOldOrFound store cmp IsTableOf allowed found old now
    repairs_hold allowed taken old now r some either may found same = ⊎_elim
        (λ (still : now (current_path store) ≡ old (current_path store)).
        inl (repair_keeps store cmp IsTableOf allowed taken next old now r still some))
        (λ (done : IsRepairedStore store cmp IsTableOf comparator manifest next last tables now).
        inr (repaired_holds allowed now done may found same))
        either

    -- ---- its manifest

    module _ (fits : manifest < 2 ^ 64) (files : Files)
        (has : Tables manifest next last tables files) (can : IsEncodable edit) where
      abbrev bytes : List ℕ
      bytes = repaired_manifest comparator next last (files_of_tables tables)

      is_manifest : IsManifest (kept_file bytes) edits
      is_manifest = framed_is_manifest (edit_bytes edit ∷ []) edits
          (written_is_read edit can, tt)
          (All-cons (λ text. text ≢ []) (edit_bytes edit) []
          (bytes_of_some edit can
          (λ e. let never : Some comparator ≡ None = ap (λ (it : Edit). it.comparator) e in cc))
          (All-nil (λ text. text ≢ [])))

      abbrev path : List ℕ
      path = manifest_path store manifest

      abbrev temp : List ℕ
      temp = temp_path store manifest

      abbrev to : List ℕ
      to = current_path store

      abbrev text : Option File
      text = text_file store manifest fits

      abbrev Making : Files → Type 0
      Making = MakingManifest store manifest bytes files

      abbrev Repaired : Files → Type 0
      Repaired = IsRepairedStore store cmp IsTableOf comparator manifest next last tables

      -- `CURRENT` names the manifest, which is there
      repaired_then : (now : Files) → Making now → now to ≡ text
          → now path ≡ Some (kept_file bytes) → Repaired now
      repaired_then now making current there = record {
        edits = record {
          has_edits = record {
            current = kept_file (current_text manifest);
            current_there = current;
            name = file_name Descriptor manifest;
            number = manifest;
            named = subst (λ t. IsCurrentText t (file_name Descriptor manifest) manifest)
                (sym (append-nil (current_text manifest))) (written_current manifest fits);
            manifest = kept_file bytes;
            there = there;
            is = is_manifest;
          };
          current = refl;
          manifest = refl;
        };
        manifest_is = refl;
        has = tables_again manifest next last tables files now
            (stays Table (λ d. cc) (λ d. cc) (λ d. cc)) (stays Log (λ d. cc) (λ d. cc) (λ d. cc))
            has;
      }
        where
          stays : (kind : FileType) → Descriptor ≢ kind → Temp ≢ kind → Current ≢ kind
              → (name : List ℕ) (k : ℕ) → IsFileName name k kind
              → now (in_folder store name) ≡ files (in_folder store name)
          stays kind no_manifest no_temp no_current name k is = elsewhere store manifest fits bytes
              files now making name k kind is no_manifest no_temp no_current

      repaired_or_still : (now : Files) → Making now → (now to ≡ files to) ⊎ Repaired now
      repaired_or_still now making = ⊎_elim (λ (still : now to ≡ files to). inl still)
          (λ (both : (now to ≡ text) × (now path ≡ Some (kept_file bytes))).
          inr (repaired_then now making both.0 both.1))
          making.current

      abbrev one : Files
      one = step_one store manifest fits bytes files

      abbrev two : Files
      two = step_two store manifest fits bytes files

      abbrev three : Files
      three = step_three store manifest fits bytes files

      three_current : three to ≡ text
      three_current = at_same to text (deleted temp two)

      three_manifest : three path ≡ Some (kept_file bytes)
      three_manifest =
          at_other to text (deleted temp two) path (to_manifest store manifest fits)
          ∙ at_other temp None two path (temp_manifest store manifest fits)
          ∙ at_other temp text one path (temp_manifest store manifest fits)
          ∙ at_same path (Some (kept_file bytes)) files

      three_making : Making three
      three_making = record {
        others = λ other away apart far.
            at_other to text (deleted temp two) other far
            ∙ at_other temp None two other apart
            ∙ at_other temp text one other apart
            ∙ at_other path (Some (kept_file bytes)) files other away;
        current = inr (three_current, three_manifest);
      }

      pub manifest_repairs : ManifestRepairs store cmp IsTableOf comparator manifest next last
          tables files
      manifest_repairs = record {
        meanwhile = repaired_or_still;
        after = subst Repaired (step_three_is store manifest fits bytes files)
            (repaired_then three three_making three_current three_manifest);
      }
