-- A store that an opening makes where none is: what is read of it, and that it is sound.
use Rattle.std.specs.Prelude.{◌≢◌, Contains, IsSomeAnd, IsTrue}
use Rattle.std.proofs.Common.{◌≡◌, ◌⊎◌, ◌∙◌, ◌∷◌, ◌<◌, ◌^◌, inl, inr, ⊎_elim, ℕ, Bool, true, false, List, [], None, Some, ap, append-nil, arith, refl, subst, sym}
use Rattle.std.proofs.lemmas.List.Elements.{All-cons, All-nil}
use Rattle.std.specs.Cmp.Lexicographic.{bytes_decides}
use Rattle.std.specs.Str.{bytes_eq}
use Rattle.std.specs.declared.cmp.Ordering.{Ordering}
use Rattle.leveldb_base.proofs.HistoryLemmas.{in_cases, in_none}
use Rattle.leveldb_base.proofs.NamesLemmas.{made_name}
use Rattle.leveldb_base.specs.Names.{IsFileName, file_name}
use Rattle.leveldb_base.specs.Types.{Pair}
use Rattle.leveldb_base.specs.declared.types.FileType.{FileType}
use Rattle.leveldb_base.specs.declared.types.FileType.TheVariants.{Current, Descriptor, Log, Temp}
use Rattle.leveldb_env.proofs.EnvLemmas.{at_other, at_same}
use Rattle.leveldb_env.specs.Env.{Files, bytes_of, deleted, in_folder, kept_file, with_file}
use Rattle.leveldb_files.proofs.Steps.FirstCurrentLemmas.{new_managed}
use Rattle.leveldb_files.proofs.Histories.HistoriesLemmas.{matches_nothing}
use Rattle.leveldb_files.proofs.Stores.KeptLemmas.{kept_safe}
use Rattle.leveldb_version_set.proofs.Sets.LogKeepsLemmas.{bytes_of_some}
use Rattle.leveldb_files.proofs.Stores.ManagedLemmas.{kinds_apart, numbers_apart}
use Rattle.leveldb_version_set.proofs.Sets.NewManifestKeepsLemmas.{framed_is_manifest, manifest_named, step_three_is, temp_named, three_bytes, to_manifest}
use Rattle.leveldb_version_set.proofs.Sets.NewStoreLemmas.{new_store_is_kept}
use Rattle.leveldb_files.proofs.Histories.SafeLemmas.{some_is}
use Rattle.leveldb_files.proofs.Edits.EditLemmas.{written_is_read}
use Rattle.leveldb_files.proofs.Edits.VersionSetLemmas.{none_is_some}
use Rattle.leveldb_files.proofs.Edits.CurrentLemmas.{one_current, written_current}
use Rattle.leveldb_files.specs.Stores.Contents.{Contents, Store, made}
use Rattle.leveldb_files.specs.Edits.Current.{IsCurrentText, current_text}
use Rattle.leveldb_version_set.specs.Sets.CurrentFile.{temp_path}
use Rattle.leveldb_files.specs.Histories.Holds.{MatchesHistory}
use Rattle.leveldb_version_set.specs.Sets.NewManifest.{with_manifest}
use Rattle.leveldb_version_set.specs.Sets.NewStore.{first_edit, first_manifest}
use Rattle.leveldb_files.specs.Stores.Paths.{current_path, manifest_path}
use Rattle.leveldb_version_set.specs.Sets.Recover.{IsNamed}
use Rattle.leveldb_files.specs.Stores.Store.{HasEdits, HasNoStore, IsManaged, IsManifest, LastNumbersFit, contents_of}
use Rattle.leveldb_files.specs.Steps.StoreSteps.{AppendedAreBytes, IsAllKept, IsNew, KeepsHistory}
use Rattle.leveldb_files.specs.Edits.Edit.{Edit, IsEncodable, edit_bytes}
use Rattle.leveldb_files.specs.Edits.VersionSet.{live_after}
use Rattle.leveldb_version_set.specs.Sets.VersionSetLaws.{NewStoreIsKept}
use Rattle.leveldb_store.proofs.Keeping.TableKeepsLemmas.{KeepsHistory-refl}
use Rattle.leveldb_files.specs.Stores.Format.{IsTableOf, Meaning}
use Rattle.leveldb_store.specs.Openings.OpeningSteps.{IsBeingMade, IsMade}
use Rattle.leveldb_store.specs.Openings.OpensStore.{IsOwnPath, IsSound, SameBesideOwn}

first_fits : 1 < 2 ^ 64
first_fits = omega arith

-- ---- which files change

-- a path that isn't the store's own is apart from each of its paths
pub apart_from_own : (store own path : List ℕ) → IsOwnPath store own → (IsOwnPath store path → ⊥) → bytes_eq own path ≡ false
apart_from_own store own path is other = by (bytes_eq own path) refl
  where
    by : (b : Bool) → bytes_eq own path ≡ b → bytes_eq own path ≡ false
    by true e = absurd (other (subst (IsOwnPath store) ((bytes_decides own path).0 e) is))
    by false e = e

module _ (store : List ℕ) where
  manifest_own : IsOwnPath store (manifest_path store 1)
  manifest_own = inl (Descriptor, tt, (file_name Descriptor 1, 1, made_name Descriptor 1 first_fits, refl))

  temp_own : IsOwnPath store (temp_path store 1)
  temp_own = inl (Temp, tt, (file_name Temp 1, 1, made_name Temp 1 first_fits, refl))

  -- on the way to a new store nothing changes but the store's own files
  pub making_spares : (comparator : List ℕ) (files now : Files) → IsBeingMade store comparator files now → SameBesideOwn store files now
  making_spares comparator files now being path other =
      being.making.others path (apart_from_own store (manifest_path store 1) path manifest_own other) (apart_from_own store (temp_path store 1) path temp_own other)
      (apart_from_own store (current_path store) path (inr refl) other)

-- ---- what is read

module _ (store comparator : List ℕ) (files now : Files) (is : IsMade store comparator files now) where
  abbrev bytes : List ℕ
  bytes = first_manifest comparator

  abbrev pub made_edits : List Edit
  made_edits = first_edit comparator ∷ []

  abbrev there : Files
  there = with_file (manifest_path store 1) (Some (kept_file bytes)) files

  abbrev made_files : Files
  made_files = with_manifest store 1 bytes files

  is_manifest : IsManifest (kept_file bytes) made_edits
  is_manifest = framed_is_manifest (edit_bytes (first_edit comparator) ∷ []) made_edits (written_is_read (first_edit comparator) is.encodable, tt)
      (All-cons (λ text. text ≢ []) (edit_bytes (first_edit comparator)) []
      (bytes_of_some (first_edit comparator) is.encodable (λ e. let never : Some comparator ≡ None = ap (λ (it : Edit). it.comparator) e in cc)) (All-nil (λ text. text ≢ [])))

  made_has_edits : HasEdits store made_files made_edits
  made_has_edits = record {
    current = kept_file (current_text 1);
    current_there = at_same (current_path store) (Some (kept_file (current_text 1))) (deleted (temp_path store 1) there);
    name = file_name Descriptor 1;
    number = 1;
    named = subst (λ b. IsCurrentText b (file_name Descriptor 1) 1) (sym (append-nil (current_text 1))) (written_current 1 first_fits);
    manifest = kept_file bytes;
    there = at_other (current_path store) (Some (kept_file (current_text 1))) (deleted (temp_path store 1) there) (manifest_path store 1) (to_manifest store 1 first_fits)
        ∙ at_other (temp_path store 1) None there (manifest_path store 1)
        (kinds_apart store (file_name Temp 1) (file_name Descriptor 1) 1 1 Temp Descriptor (temp_named store 1 first_fits) (manifest_named store 1 first_fits) (λ d. cc))
        ∙ at_same (manifest_path store 1) (Some (kept_file bytes)) files;
    is = is_manifest;
  }

  -- a log isn't there
  made_no_log : (name : List ℕ) (k : ℕ) → IsFileName name k Log → made_files (in_folder store name) ≡ None
  made_no_log name k is_log =
      at_other (current_path store) (Some (kept_file (current_text 1))) (deleted (temp_path store 1) there) (in_folder store name)
      (kinds_apart store (file_name Current 0) name 0 k Current Log (made_name Current 0 refl) is_log (λ d. cc))
      ∙ at_other (temp_path store 1) None there (in_folder store name) (kinds_apart store (file_name Temp 1) name 1 k Temp Log (temp_named store 1 first_fits) is_log (λ d. cc))
      ∙ at_other (manifest_path store 1) (Some (kept_file bytes)) files (in_folder store name)
      (kinds_apart store (file_name Descriptor 1) name 1 k Descriptor Log (manifest_named store 1 first_fits) is_log (λ d. cc)) ∙ is.bare.no_log name k is_log

  -- the manifest that is named is its first one
  pub named_manifest : (name : List ℕ) (number : ℕ) → IsNamed store now name number → now (in_folder store name) ≡ Some (kept_file bytes)
  named_manifest name number named =
      let current : now (current_path store) ≡ Some (kept_file (current_text 1))
      = ap (λ (f : Files). f (current_path store)) is.made ∙ at_same (current_path store) (Some (kept_file (current_text 1))) (deleted (temp_path store 1) there) in
      let text : IsCurrentText (current_text 1) name number
      = subst (λ b. IsCurrentText b name number) (append-nil (current_text 1)) (subst (λ file. IsSomeAnd file (λ f. IsCurrentText (bytes_of f) name number)) current named) in
      let same : name ≡ file_name Descriptor 1 = (one_current (current_text 1) name (file_name Descriptor 1) number 1 text (written_current 1 first_fits)).0 in
      ap (λ n. now (in_folder store n)) same ∙ ap (λ (f : Files). f (manifest_path store 1)) is.made
      ∙ at_other (current_path store) (Some (kept_file (current_text 1))) (deleted (temp_path store 1) there) (manifest_path store 1) (to_manifest store 1 first_fits)
      ∙ at_other (temp_path store 1) None there (manifest_path store 1)
      (kinds_apart store (file_name Temp 1) (file_name Descriptor 1) 1 1 Temp Descriptor (temp_named store 1 first_fits) (manifest_named store 1 first_fits) (λ d. cc))
      ∙ at_same (manifest_path store 1) (Some (kept_file bytes)) files

  -- no log is there
  pub made_no_log_there : (name : List ℕ) (k : ℕ) → IsFileName name k Log → now (in_folder store name) ≡ None
  made_no_log_there name k is_log = ap (λ (f : Files). f (in_folder store name)) is.made ∙ made_no_log name k is_log

  -- a file with a greater number is as it was
  pub there_before : (name : List ℕ) (n : ℕ) (kind : FileType) → IsFileName name n kind → 2 < n → now (in_folder store name) ≡ files (in_folder store name)
  there_before name n kind named more =
      ap (λ (f : Files). f (in_folder store name)) is.made
      ∙ at_other (current_path store) (Some (kept_file (current_text 1))) (deleted (temp_path store 1) there) (in_folder store name)
      (numbers_apart store (file_name Current 0) name 0 n Current kind (made_name Current 0 refl) named (λ e. omega (arith, e, more)))
      ∙ at_other (temp_path store 1) None there (in_folder store name) (numbers_apart store (file_name Temp 1) name 1 n Temp kind (temp_named store 1 first_fits) named (λ e. omega (arith, e, more)))
      ∙ at_other (manifest_path store 1) (Some (kept_file bytes)) files (in_folder store name)
      (numbers_apart store (file_name Descriptor 1) name 1 n Descriptor kind (manifest_named store 1 first_fits) named (λ e. omega (arith, e, more)))

  abbrev is_new : IsNew (live_after made_edits)
  is_new = record { comparator = comparator; comparator_is = refl; log_is = refl; next_file_is = refl; last_is = refl; no_table = λ file live. none_is_some live }

  numbers_fit : LastNumbersFit made_edits
  numbers_fit one_edit n c is_last = ⊎_elim
      (λ (same : first_edit comparator ≡ one_edit). let zero : 0 ≡ n = some_is 0 n (subst (λ (it : Edit). it.last_sequence ≡ Some n) (sym same) is_last) in omega (arith, zero))
      (λ (none : Contains [] one_edit). absurd (in_none one_edit none))
      (in_cases (first_edit comparator) one_edit [] c)

  abbrev pub made_contents : Contents
  made_contents = contents_of comparator [] [] 0

  -- the new store has its first edit
  pub made_edits_there : HasEdits store now made_edits
  made_edits_there = subst (λ f. HasEdits store f made_edits) (sym is.made) made_has_edits

  -- and is read as one without entries, whatever the order of keys and the tables are
  pub made_is_managed : (cmp : List ℕ → List ℕ → Ordering) (IsTable : List ℕ → List Pair → Type 0) → IsManaged store cmp IsTable now made_contents
  made_is_managed cmp IsTable = subst (λ f. IsManaged store cmp IsTable f made_contents) (sym is.made) (record {
    edits = made_edits;
    has_edits = made_has_edits;
    managed = new_managed store cmp IsTable made_files made_edits is_new numbers_fit made_no_log;
  })

-- ---- what is kept

module _ (store comparator : List ℕ) (cmp : List ℕ → List ℕ → Ordering) (meaning : Meaning) (files : Files) (old_bytes : AppendedAreBytes files) where
  abbrev IsTable : List ℕ → List Pair → Type 0
  IsTable = IsTableOf cmp meaning

  kept : (allowed : Store → Bool) → IsTrue (allowed (made (Some comparator))) → HasNoStore store files → IsEncodable (first_edit comparator)
      → NewStoreIsKept store cmp IsTable (λ it. IsTrue (allowed it)) comparator files
  kept allowed may bare can = new_store_is_kept store cmp IsTable (λ it. IsTrue (allowed it)) comparator files bare old_bytes can may

  -- each history is kept while a store is made, where it may be there
  pub making_keeps : (allowed : Store → Bool) → IsTrue (allowed (made (Some comparator))) → (bound : ℕ) (now : Files) → (now ≡ files) ⊎ IsBeingMade store comparator files now
      → KeepsHistory store cmp IsTable (λ it. IsTrue (allowed it)) bound files now
  making_keeps allowed may bound now (inl same) = subst (KeepsHistory store cmp IsTable (λ it. IsTrue (allowed it)) bound files) (sym same) (KeepsHistory-refl files)
  making_keeps allowed may bound now (inr being) = (kept allowed may being.bare being.encodable).meanwhile bound now being.making

  module _ (now : Files) (is : IsMade store comparator files now) where
    abbrev any : Store → Bool
    any it = true

    abbrev contents : Contents
    contents = contents_of comparator [] [] 0

    all_kept : IsAllKept store cmp IsTable now contents
    all_kept = subst (λ f. IsAllKept store cmp IsTable f contents) (sym is.made) (kept any refl is.bare is.encodable).after

    matches : MatchesHistory (λ it. IsTrue (any it)) 0 contents []
    matches =
        let m = matches_nothing (λ it. IsTrue (any it)) refl 0 in
        record { same = m.same; up_to = m.up_to; reached = m.reached; bounded = m.bounded; store = refl }

    -- the new store is sound
    pub made_is_sound : IsSound cmp meaning store now contents
    made_is_sound = record {
      read = inr all_kept.managed;
      bytes = subst AppendedAreBytes (step_three_is store 1 first_fits (first_manifest comparator) files ∙ sym is.made) (three_bytes store 1 first_fits (first_manifest comparator) files old_bytes);
      allowed = any;
      bound = 0;
      durable = 0;
      history = [];
      safe = kept_safe store cmp IsTable (λ it. IsTrue (any it)) 0 [] now contents all_kept matches;
    }
