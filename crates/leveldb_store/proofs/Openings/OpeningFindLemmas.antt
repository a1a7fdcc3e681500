-- Which store an opening finds, by the names of its folder.
use Rattle.std.specs.Set.{is_member}
use Rattle.std.specs.Prelude.{Contains, nat_eq, IsTrue, IsSome, IsUtf8, OnOk, codes, ◌≢◌}
use Rattle.std.proofs.Common.{◌≡◌, ◌⊎◌, inl, inr, ⊎_elim, ℕ, Bool, true, false, List, [], ◌∷◌, ◌++◌, Option, None, Some, Ok, Err, Result, refl, sym, ◌∙◌, ap, subst, arith, lit<}
use Rattle.std.proofs.lemmas.Bool.Decides.{Decides-eqb}
use Rattle.std.proofs.lemmas.Map.Made.{is_member-Decides}
use Rattle.std.proofs.lemmas.List.Elements.{All-cons, All-nil, Contains-append_cases}
use Rattle.std.proofs.lemmas.Str.Parse.{digit_from_value}
use Rattle.std.specs.List.Sorted.{IsStrictlySortedBy}
use Rattle.std.specs.Str.Parse.{AllDigits}
use Rattle.leveldb_base.proofs.HistoryLemmas.{in_cases, in_none}
use Rattle.leveldb_base.specs.Error.{IsOutOfMemory}
use Rattle.leveldb_base.specs.Names.{IsFileName, IsNumber, IsNumbered}
use Rattle.leveldb_base.specs.declared.error.Status.{Status}
use Rattle.leveldb_base.specs.declared.error.StatusCode.TheVariants.{AlreadyExists, Corruption}
use Rattle.leveldb_base.specs.declared.types.FileType.{FileType}
use Rattle.leveldb_base.specs.declared.types.FileType.TheVariants.{Current, DBLock, Descriptor, InfoLog, Log, Table, Temp}
use Rattle.leveldb_env.proofs.EnvLemmas.{Run-call, Run-mono, Run-trans}
use Rattle.leveldb_env.specs.Env.{ChangesFiles, Files, FilesUnchanged, HasCause, ListsChildren, Run, SameLocks, in_folder}
use Rattle.leveldb_env.specs.WholeFiles.{IsLostUnobserved}
use Rattle.leveldb_env.specs.declared.env.Env.{Ghosts}
use Rattle.leveldb_version_set.proofs.Sets.RecoverLemmas.{cause_of_error}
use Rattle.leveldb_version_set.specs.Sets.CurrentFile.{temp_path}
use Rattle.leveldb_version_set.specs.Sets.NewManifest.{MakingManifest, with_manifest}
use Rattle.leveldb_version_set.specs.Sets.NewStore.{MakeStoreResult, first_edit, first_manifest}
use Rattle.leveldb_files.specs.Stores.Paths.{current_path}
use Rattle.leveldb_files.specs.Stores.Store.{HasNoStore}
use Rattle.leveldb_files.specs.Steps.StoreSteps.{AppendedAreBytes}
use Rattle.leveldb_files.specs.Edits.Edit.{FieldFits, IsEncodable, comparator_is, file_order, last_sequence_is, log_is, next_file_is}
use Rattle.leveldb_store.specs.Openings.OpeningSteps.{FindsStore, HasTableOrLog, IsBeingMade, IsMade, WhyNotFound}
use Rattle.leveldb_store.specs.Openings.OpensStore.{IsBareFolder, IsForbidden, LacksCurrent}
use Rattle.leveldb_store.specs.Logs.ReplayLog.{HasCauseOr}

-- ---- names have no slash

no_slash_in_digits : (text : List ℕ) → AllDigits 10 text → Contains text 47 → ⊥
no_slash_in_digits [] all there = in_none 47 there
no_slash_in_digits (digit ∷ text) all there = ⊎_elim
    (λ (same : digit ≡ 47). let range = digit_from_value digit all.0 in omega (arith, range, same))
    (λ (rest : Contains text 47). no_slash_in_digits text all.1 rest)
    (in_cases digit 47 text there)

-- no number of these is 47
abbrev NoneIs47 : List ℕ → Type 0
NoneIs47 [] = Unit {0}
NoneIs47 (x ∷ xs) = (x ≡ 47 → ⊥) × NoneIs47 xs

not_among : (xs : List ℕ) → NoneIs47 xs → Contains xs 47 → ⊥
not_among [] none there = in_none 47 there
not_among (x ∷ xs) none there = ⊎_elim (λ same. none.0 same) (λ rest. not_among xs none.1 rest) (in_cases x 47 xs there)

extension_has_none : (text more name : List ℕ) (n : ℕ) → IsNumber text n → NoneIs47 more → name ≡ text ++ more → Contains name 47 → ⊥
extension_has_none text more name n number none is there = ⊎_elim
    (λ front. no_slash_in_digits text number.digits.1 front)
    (λ back. not_among more none back)
    (Contains-append_cases text more 47 (subst (λ t. Contains t 47) is there))

no_slash_in_table : (name : List ℕ) (n : ℕ) → IsFileName name n Table → Contains name 47 → ⊥
no_slash_in_table name n (inl (text, number, is)) = extension_has_none text (codes ".ldb") name n number (λ e. omega (arith, e), (λ e. omega (arith, e), (λ e. omega (arith, e), (λ e. omega (arith, e), tt)))) is
no_slash_in_table name n (inr (text, number, is)) = extension_has_none text (codes ".sst") name n number (λ e. omega (arith, e), (λ e. omega (arith, e), (λ e. omega (arith, e), (λ e. omega (arith, e), tt)))) is

pub no_slash_in_log : (name : List ℕ) (n : ℕ) → IsFileName name n Log → Contains name 47 → ⊥
no_slash_in_log name n (text, number, is) = extension_has_none text (codes ".log") name n number (λ e. omega (arith, e), (λ e. omega (arith, e), (λ e. omega (arith, e), (λ e. omega (arith, e), tt)))) is

-- nor is one in the name of any file of a store
numbered_has_none : (front back name : List ℕ) (n : ℕ) → (Contains front 47 → ⊥) → (Contains back 47 → ⊥) → IsNumbered front back name n → Contains name 47 → ⊥
numbered_has_none front back name n front_none back_none (text, number, is) there = ⊎_elim
    (λ before. ⊎_elim (λ at. front_none at) (λ at. no_slash_in_digits text number.digits.1 at) (Contains-append_cases front text 47 before))
    (λ at. back_none at)
    (Contains-append_cases (front ++ text) back 47 (subst (λ t. Contains t 47) is there))

word_has_none : (word name : List ℕ) → is_member nat_eq word 47 ≡ false → name ≡ word → Contains name 47 → ⊥
word_has_none word name none is there = let never : false ≡ true = sym none ∙ (is_member-Decides Decides-eqb word 47).1 (subst (λ t. Contains t 47) is there) in cc never

pub no_slash_in_name : (name : List ℕ) (n : ℕ) (kind : FileType) → IsFileName name n kind → Contains name 47 → ⊥
no_slash_in_name name n Log is = no_slash_in_log name n is
no_slash_in_name name n DBLock is = word_has_none (codes "LOCK") name refl is.0
no_slash_in_name name n Table is = no_slash_in_table name n is
no_slash_in_name name n Descriptor is = numbered_has_none (codes "MANIFEST-") [] name n (word_has_none (codes "MANIFEST-") (codes "MANIFEST-") refl refl) (λ there. in_none 47 there) is
no_slash_in_name name n Current is = word_has_none (codes "CURRENT") name refl is.0
no_slash_in_name name n Temp is = numbered_has_none [] (codes ".dbtmp") name n (λ there. in_none 47 there) (word_has_none (codes ".dbtmp") (codes ".dbtmp") refl refl) is
no_slash_in_name name n InfoLog (inl is, zero) = word_has_none (codes "LOG") name refl is
no_slash_in_name name n InfoLog (inr is, zero) = word_has_none (codes "LOG.old") name refl is

no_slash_in_current : Contains (codes "CURRENT") 47 → ⊥
no_slash_in_current = not_among (codes "CURRENT") (λ e. omega (arith, e), (λ e. omega (arith, e), (λ e. omega (arith, e), (λ e. omega (arith, e), (λ e. omega (arith, e), (λ e. omega (arith, e), (λ e. omega (arith, e), tt)))))))

-- ---- what is there

none_of : {A : Type 0} (o : Option A) → (IsSome o → ⊥) → o ≡ None
none_of None not = refl
none_of (Some x) not = absurd (not refl)

some_of : {A : Type 0} (o : Option A) → o ≢ None → IsSome o
some_of None not = absurd (not refl)
some_of (Some x) not = refl

not_none : {A : Type 0} (o : Option A) → IsSome o → o ≢ None
not_none None is none = absurd (cc is)
not_none (Some x) is none = absurd (cc none)

module _ (store : List ℕ) (files : Files) (names : List (List ℕ)) (lists : ListsChildren files store names) where
  -- a name without a slash is listed if its file is there
  pub listed : (name : List ℕ) → (Contains name 47 → ⊥) → files (in_folder store name) ≢ None → Contains names name
  listed name no_slash there = (lists.each name).1 (no_slash, some_of (files (in_folder store name)) there)

  pub no_current : (Contains names (codes "CURRENT") → ⊥) → files (current_path store) ≡ None
  no_current not = none_of (files (current_path store)) (λ some. not ((lists.each (codes "CURRENT")).1 (no_slash_in_current, some)))

  pub no_store : (Contains names (codes "CURRENT") → ⊥) → (HasTableOrLog names → ⊥) → HasNoStore store files
  no_store not none = record {
    no_current = no_current not;
    no_table = λ name n is. none_of (files (in_folder store name)) (λ some. none (name, (lists.each name).1 (no_slash_in_table name n is, some), (n, inl is)));
    no_log = λ name n is. none_of (files (in_folder store name)) (λ some. none (name, (lists.each name).1 (no_slash_in_log name n is, some), (n, inr is)));
  }

  pub lacks_current : (Contains names (codes "CURRENT") → ⊥) → HasTableOrLog names → LacksCurrent store files
  lacks_current not has = record {
    no_current = no_current not;
    name = has.0;
    is = has.2;
    there = not_none (files (in_folder store has.0)) ((lists.each has.0).0 has.1).1;
  }

-- ---- causes

-- more excuses of a call, where nothing is counted
pub cause_or : {T : Type 0} {P Q : Status → Type 0} {f0 f1 f2 : ℕ} (result : Result T Status) → f1 ≡ f0 → ((e : Status) → P e → IsOutOfMemory e ⊎ (Q e × (f2 ≡ f0))) → ((e : Status) → IsOutOfMemory e → P e)
    → HasCause P f1 f2 result → HasCauseOr Q f0 f2 result
cause_or {P = P} {Q = Q} {f2 = f2} result same to memory cause = subst (λ f. ((e : Status) → P e → IsOutOfMemory e ⊎ (Q e × (f2 ≡ f))) → HasCauseOr Q f f2 result) same (λ also. by result also cause) to
  where
    by : {T : Type 0} {f1 : ℕ} (result : Result T Status) → ((e : Status) → P e → IsOutOfMemory e ⊎ (Q e × (f2 ≡ f1))) → HasCause P f1 f2 result → HasCauseOr Q f1 f2 result
    by (Ok value) also cause = record { later = cause.later; ok = cause.ok; uncounted = tt; cause = tt }
    by (Err status) also cause = record {
      later = cause.later;
      ok = tt;
      uncounted = λ why. ⊎_elim (λ out. cause.uncounted (memory status out)) (λ it. it.1) why;
      cause = ⊎_elim (λ p. inl (also status p)) (λ counted. inr counted) cause.cause;
    }

-- the edit of a new store can be written
no_deleted : IsStrictlySortedBy file_order []
unfolding IsStrictlySortedBy
no_deleted = tt

pub first_is_encodable : (comparator : List ℕ) → IsUtf8 comparator → IsEncodable (first_edit comparator)
first_is_encodable comparator text = record {
  fits = All-cons FieldFits (comparator_is comparator) (log_is 0 ∷ next_file_is 2 ∷ last_sequence_is 0 ∷ []) text
      (All-cons FieldFits (log_is 0) (next_file_is 2 ∷ last_sequence_is 0 ∷ []) (lit< tt)
      (All-cons FieldFits (next_file_is 2) (last_sequence_is 0 ∷ []) (lit< tt) (All-cons FieldFits (last_sequence_is 0) [] (lit< tt) (All-nil FieldFits))));
  ordered = no_deleted;
}

-- ---- what an opening finds

module _ {E F : Type 0} (env : Ghosts E F) (store comparator : List ℕ) (create_if_missing error_if_exists : Bool) (from mid : E) where
  abbrev pub Found : {T : Type 0} → Result T Status → E → Type 0
  Found result to = FindsStore env store comparator create_if_missing error_if_exists from result to

  -- what isn't opened
  abbrev Refused : Type 0
  Refused = IsForbidden store create_if_missing error_if_exists (env.observed from).disk.files ⊎ LacksCurrent store (env.observed from).disk.files

  module _ (still : IsTrue env.models_disk → Run (FilesUnchanged (env.observed from).disk.files) (env.observed from) (env.observed mid))
      (locks : SameLocks env.models_disk (env.observed from) (env.observed mid)) where
    -- no call but the listing was made
    stayed : {U : Type 0} (result : Result U Status) → OnOk result (IsTrue env.models_disk → ((env.observed from).disk.files (current_path store) ≢ None) × ((env.observed mid).disk.files ≡ (env.observed from).disk.files))
        → (IsTrue env.models_disk → Refused → OnOk result ⊥)
        → HasCauseOr (WhyNotFound env store comparator create_if_missing error_if_exists from) (env.failures from) (env.failures mid) result → Found result mid
    stayed result there never cause = record {
      ok = found_there result there;
      stays = λ modelled is. (never modelled is, still modelled);
      run = λ modelled. Run-mono (λ files same. inl same) (still modelled);
      bytes = λ modelled. subst AppendedAreBytes (sym ((still modelled).has));
      locks = locks;
      cause = cause;
    }
      where
        found_there : {U : Type 0} (result : Result U Status)
            → OnOk result (IsTrue env.models_disk → ((env.observed from).disk.files (current_path store) ≢ None) × ((env.observed mid).disk.files ≡ (env.observed from).disk.files))
            → OnOk result (IsTrue env.models_disk → (((env.observed from).disk.files (current_path store) ≢ None) × ((env.observed mid).disk.files ≡ (env.observed from).disk.files))
            ⊎ IsMade store comparator (env.observed from).disk.files (env.observed mid).disk.files)
        found_there (Ok done) there = λ modelled. inl (there modelled)
        found_there (Err status) there = tt

    -- nothing is listed
    pub unlisted : {T U : Type 0} (status : Status)
        → HasCauseOr {T = T} (λ e. (e.code ≡ Corruption) × (IsTrue env.models_disk → IsBareFolder store (env.observed from).disk.files)) (env.failures from) (env.failures mid) (Err status)
        → Found {T = U} (Err status) mid
    unlisted status cause = stayed (Err status) tt (λ modelled is. tt) (cause_of_error status
        (λ why. ⊎_elim
        (λ (memory : IsOutOfMemory status). inl memory)
        (λ (it : ((status.code ≡ Corruption) × (IsTrue env.models_disk → IsBareFolder store (env.observed from).disk.files)) × (env.failures mid ≡ env.failures from)).
        inr (inl it.0, it.1))
        why)
        (λ excused. ⊎_elim (λ memory. inl (inl memory)) (λ it. inr it.1) excused) cause)

    module _ (uncounted : env.failures mid ≡ env.failures from) where
      pub refused : {U : Type 0} (status : Status) → WhyNotFound env store comparator create_if_missing error_if_exists from status → Found {T = U} (Err status) mid
      refused status why = stayed (Err status) tt (λ modelled is. tt)
          (record { later = omega (arith, uncounted); ok = tt; uncounted = λ excused. uncounted; cause = inl (inr (why, uncounted)) })

      module _ (names : List (List ℕ)) (lists : IsTrue env.models_disk → ListsChildren (env.observed from).disk.files store names) where
        -- `CURRENT` is there
        module _ (has : Contains names (codes "CURRENT")) where
          current_there : IsTrue env.models_disk → (env.observed from).disk.files (current_path store) ≢ None
          current_there modelled = not_none ((env.observed from).disk.files (current_path store)) (((lists modelled).each (codes "CURRENT")).0 has).1

          pub must_not_be : {U : Type 0} → error_if_exists ≡ true → (status : Status) → status.code ≡ AlreadyExists → Found {T = U} (Err status) mid
          must_not_be forbids status code = refused status (inr (inl (inl (code, forbids, current_there))))

          pub is_found : {U : Type 0} (value : U) → error_if_exists ≡ false → Found (Ok value) mid
          is_found value may = stayed (Ok value) (λ modelled. (current_there modelled, (still modelled).has))
              may_find
              (record { later = omega (arith, uncounted); ok = uncounted; uncounted = tt; cause = tt })
            where
              may_find : IsTrue env.models_disk → Refused → ⊥
              may_find modelled (inl (inl exists)) = let never : false ≡ true = sym may ∙ exists.0 in absurd (cc never)
              may_find modelled (inl (inr none)) = current_there modelled none.1
              may_find modelled (inr lacks) = current_there modelled lacks.no_current

        -- neither `CURRENT` nor a table nor a log is there
        module _ (not : Contains names (codes "CURRENT") → ⊥) (text : IsUtf8 comparator) (none : HasTableOrLog names → ⊥) (creates : create_if_missing ≡ true) (to : E) where
          bare : IsTrue env.models_disk → HasNoStore store (env.observed from).disk.files
          bare modelled = no_store store (env.observed from).disk.files names (lists modelled) not none

          may_make : IsTrue env.models_disk → Refused → ⊥
          may_make modelled (inl (inl exists)) = exists.1 (bare modelled).no_current
          may_make modelled (inl (inr missing)) = let never : false ≡ true = sym missing.0 ∙ creates in absurd (cc never)
          may_make modelled (inr lacks) = ⊎_elim
              (λ (table : IsFileName lacks.name lacks.is.0 Table). lacks.there ((bare modelled).no_table lacks.name lacks.is.0 table))
              (λ (log : IsFileName lacks.name lacks.is.0 Log). lacks.there ((bare modelled).no_log lacks.name lacks.is.0 log))
              lacks.is.1

          being_made : IsTrue env.models_disk → (files : Files) → MakingManifest store 1 (first_manifest comparator) (env.observed mid).disk.files files
              → (files ≡ (env.observed from).disk.files) ⊎ IsBeingMade store comparator (env.observed from).disk.files files
          being_made modelled files making = inr (record {
            bare = bare modelled;
            encodable = first_is_encodable comparator text;
            making = subst (λ old. MakingManifest store 1 (first_manifest comparator) old files) ((still modelled).has) making;
          })

          run_made : {U : Type 0} (result : Result U Status)
              → ChangesFiles env.models_disk (with_manifest store 1 (first_manifest comparator)) (MakingManifest store 1 (first_manifest comparator)) (env.observed mid) (env.observed to) result
              → IsTrue env.models_disk → Run (λ files. (files ≡ (env.observed from).disk.files) ⊎ IsBeingMade store comparator (env.observed from).disk.files files) (env.observed from) (env.observed to)
          run_made result made modelled = Run-trans (Run-mono (λ files same. inl same) (still modelled)) (being_made modelled) (Run-call modelled made)

          lost_is_why : (status : Status) → IsLostUnobserved env.models_disk (temp_path store 1) (env.failures mid) (env.failures to) status
              → IsOutOfMemory status ⊎ (WhyNotFound env store comparator create_if_missing error_if_exists from status × (env.failures to ≡ env.failures from))
          lost_is_why status (inl memory) = inl memory
          lost_is_why status (inr lost) = inr (inr (inr (lost.0.code, λ modelled. absurd (lost.1 modelled))), lost.2 ∙ uncounted)

          pub made : {U : Type 0} (value : U) (done : Unit {0}) → MakeStoreResult env.models_disk store comparator (env.observed mid) (env.failures mid) (Ok done) (env.observed to) (env.failures to) → Found (Ok value) to
          made value done makes = record {
            ok = λ modelled. inr (record {
              bare = bare modelled;
              encodable = first_is_encodable comparator text;
              made = (makes.does modelled).ok modelled ∙ ap (with_manifest store 1 (first_manifest comparator)) ((still modelled).has);
            });
            stays = λ modelled is. absurd (may_make modelled is);
            run = λ modelled. run_made (Ok done) (makes.does modelled) modelled;
            bytes = λ modelled before. makes.bytes modelled (subst AppendedAreBytes (sym ((still modelled).has)) before);
            locks = λ modelled. makes.locks modelled ∙ locks modelled;
            cause = let cause = cause_or (Ok done) uncounted lost_is_why (λ e memory. inl memory) makes.cause in record { later = cause.later; ok = cause.ok; uncounted = tt; cause = tt };
          }

          pub not_made : {U : Type 0} (status : Status) → MakeStoreResult env.models_disk store comparator (env.observed mid) (env.failures mid) (Err status) (env.observed to) (env.failures to) → Found {T = U} (Err status) to
          not_made status makes = record {
            ok = tt;
            stays = λ modelled is. absurd (may_make modelled is);
            run = λ modelled. run_made (Err status) (makes.does modelled) modelled;
            bytes = λ modelled before. makes.bytes modelled (subst AppendedAreBytes (sym ((still modelled).has)) before);
            locks = λ modelled. makes.locks modelled ∙ locks modelled;
            cause = let cause = cause_or (Err status) uncounted lost_is_why (λ e memory. inl memory) makes.cause in record { later = cause.later; ok = tt; uncounted = cause.uncounted; cause = cause.cause };
          }
