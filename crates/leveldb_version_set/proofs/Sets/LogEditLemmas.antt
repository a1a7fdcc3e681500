-- What the files and the set are at each step of logging an edit.
use Rattle.std.specs.Prelude.{◌≢◌, IsErr, IsErrAnd, IsTrue, OnErr, OnOk, IfErr}
use Rattle.std.proofs.Common.{◌≡◌, ◌⊎◌, ◌++◌, ◌∷◌, ◌≤◌, inl, inr, ⊎_elim, ℕ, Bool, true, false, List, [], Option, None, Some, Result, Ok, Err, sym, subst, ◌∙◌, ap, refl, length, length-append, flat_map, map, arith}
use Rattle.std.proofs.lemmas.List.Concat.{flat_map-cons}
use Rattle.std.proofs.lemmas.Result.{IfErr-weaker, IfOk-from_err}
use Rattle.std.specs.List.{All}
use Rattle.std.specs.Option.{option_map, option_or, option_to_list, unwrap_or}
use Rattle.leveldb_base.specs.declared.error.Status.{Status}
use Rattle.leveldb_env.specs.declared.env.Env.{Ghosts}
use Rattle.leveldb_env.specs.Env.{AppendedAreBytes, BeforeOrAfter, ChangesFiles, File, Files, HasCause, Observed, PrefixAppended, Run, extended, longer_file, synced}
use Rattle.leveldb_env.proofs.EnvLemmas.{ChangesFiles-refused, cause_refused, Run-call, Run-mono, appended, at_same, begun, call, cause_same, nothing_appended}
use Rattle.leveldb_env.specs.WholeFiles.{IsLost, IsLostUnobserved}
use Rattle.leveldb_mem.specs.Log.LogFile.{AppendsRecord, IsFileLost, LogFileState, SyncsRecords, broken_log, with_record}
use Rattle.leveldb_mem.specs.Log.Writer.{after_frame, frame}
use Rattle.leveldb_base.specs.Error.{IsOutOfMemory}
use Rattle.leveldb_version.specs.Edits.FullEdit.{files_after, full_after}
use Rattle.leveldb_version.proofs.ExitLemmas.{excused, nothing_done}
use Rattle.leveldb_version_set.specs.Sets.CurrentFile.{temp_path}
use Rattle.leveldb_version_set.specs.Sets.LogEdit.{AppendingAndSyncing, AppendsEdit, BeginsManifest, LogEditResult, edit_record, new_manifest, new_records, set_appended, set_begun, with_bytes_kept}
use Rattle.leveldb_version_set.specs.Sets.NewManifest.{MakingManifest, manifest_bytes, with_manifest}
use Rattle.leveldb_files.specs.Edits.Edit.{Edit, Field, LevelsFit, adds, comparator_is, deletes, edit_bytes, field_bytes, last_sequence_is, log_is, next_file_is, points, previous_log_is}
use Rattle.leveldb_version_set.specs.Sets.VersionSetValue.{ManifestState, OpenManifest, VersionSetValue, broken, in_use, manifest_state, unmade}
use Rattle.leveldb_files.proofs.Edits.EditLemmas.{length-field-pos}
use Rattle.leveldb_files.proofs.Edits.VersionSetLemmas.{holds_of_element}

-- ---- a record and a sync

module _ (path bytes : List ℕ) {models_disk : Bool} {v0 v1 v2 : Observed} {result : Result (Unit {0}) Status} (modelled : IsTrue models_disk)
    (append : ChangesFiles {T = Unit {0}} models_disk (extended path bytes) (PrefixAppended path bytes) v0 v1 (Ok tt))
    (sync : ChangesFiles models_disk (synced path) (BeforeOrAfter (synced path)) v1 v2 result) where
  append_and_sync : ChangesFiles models_disk (with_bytes_kept path bytes) (AppendingAndSyncing path bytes) v0 v2 result
  append_and_sync =
      let first = v0.disk.files in
      let run : Run (AppendingAndSyncing path bytes first) v0 v2 = call modelled (Run-mono (λ files p. inl p) (Run-call modelled append))
      (λ files passes. ⊎_elim
      (λ still. inl (subst (PrefixAppended path bytes first) (sym (still ∙ append.ok modelled)) (appended path bytes first)))
      (λ done. inr (done ∙ ap (synced path) (append.ok modelled))) passes) sync in
      record {
        ok = λ t. subst (λ (f : Files). OnOk result (v2.disk.files ≡ f)) (ap (synced path) (append.ok modelled)) (sync.ok modelled);
        now = λ t. run.has;
        time = run.time;
      }

-- ---- a record in a manifest, which is synced

-- a file that isn't there isn't there once bytes are appended
none_longer : (path bytes : List ℕ) (files : Files) → (extended path bytes files path ≡ None → files path ≡ None) × (files path ≡ None → extended path bytes files path ≡ None)
none_longer path bytes files =
    let here = at_same path (option_map (longer_file bytes) (files path)) files in
    (λ none. never_longer (files path) (sym here ∙ none), λ none. here ∙ ap (option_map (longer_file bytes)) none)
  where
    never_longer : (file : Option File) → option_map (longer_file bytes) file ≡ None → file ≡ None
    never_longer None none = refl
    never_longer (Some file) none = absurd (cc)

module _ {E F : Type 0} (env : Ghosts E F) (old : LogFileState) (usable : old.writer.broken ≡ false) (from : E) where
  -- a log that isn't broken loses its file, or is out of memory
  only_lost : {result : Result (Unit {0}) Status} {to : E} → HasCause (IsFileLost env old from to) (env.failures from) (env.failures to) result
      → HasCause (IsLost env.models_disk old.path (env.observed from) (env.failures from) (env.failures to)) (env.failures from) (env.failures to) result
  only_lost {result} cause = cause_same result
      (λ e lost. ⊎_elim (λ its. its) (λ broken. absurd (let never : false ≡ true = sym usable ∙ broken.0 in cc)) lost)
      (λ e lost. inl lost) cause

  module _ (text : List ℕ) where
    abbrev bytes : List ℕ
    bytes = frame old.writer text

    -- the record wasn't appended
    pub unappended : {status : Status} {new : LogFileState} {to : E} → AppendsRecord env old from text (Err status) new to
        → (IsOutOfMemory status × (new ≡ old) × (IsTrue env.models_disk → (env.observed to).disk.files ≡ (env.observed from).disk.files)) ⊎ (new.writer.broken ≡ true)
    unappended appends = ⊎_elim
        (λ memory. inl (memory.0, memory.1, λ modelled. ap (λ e. (env.observed e).disk.files) memory.2))
        (λ breaks. inr (ap (λ (l : LogFileState). l.writer.broken) breaks)) appends.err

    pub unappended_does : {status : Status} {new : LogFileState} {to : E} → AppendsRecord env old from text (Err status) new to → IsTrue env.models_disk
        → Run (AppendingAndSyncing old.path bytes (env.observed from).disk.files) (env.observed from) (env.observed to)
    unappended_does appends modelled = Run-mono (λ files p. inl p) (Run-call modelled (appends.does modelled))

    pub unappended_cause : {status : Status} {new : LogFileState} {to : E} → AppendsRecord env old from text (Err status) new to
        → HasCause {T = Unit {0}} (IsLost env.models_disk old.path (env.observed from) (env.failures from) (env.failures to)) (env.failures from) (env.failures to) (Err status)
    unappended_cause appends = only_lost appends.cause

    module _ {mid : LogFileState} {e1 : E} (appends : AppendsRecord env old from text (Ok tt) mid e1) {result : Result (Unit {0}) Status} {new : LogFileState} {to : E}
        (syncs : SyncsRecords env mid e1 result new to) where
      abbrev At : LogFileState → Type 0
      At log = SyncsRecords env log e1 result new to

      abbrev synced_then : At (with_record old text)
      synced_then = subst At appends.ok syncs

      pub appended_does : IsTrue env.models_disk → ChangesFiles env.models_disk (with_bytes_kept old.path bytes) (AppendingAndSyncing old.path bytes) (env.observed from) (env.observed to) result
      appended_does modelled = append_and_sync old.path bytes modelled (appends.does modelled) (synced_then.does modelled)

      pub appended_ok : OnOk result (new ≡ with_record old text)
      appended_ok = synced_then.ok

      pub appended_err : (Other : Status → Type 0) → IfErr result (λ status. Other status ⊎ (new.writer.broken ≡ true))
      appended_err Other = by result synced_then.err
        where
          by : (answer : Result (Unit {0}) Status) → OnErr answer (new ≡ broken_log (with_record old text)) → IfErr answer (λ status. Other status ⊎ (new.writer.broken ≡ true))
          by (Ok value) err = tt
          by (Err status) err = inr (ap (λ (l : LogFileState). l.writer.broken) err)

      pub appended_cause : HasCause (IsLost env.models_disk old.path (env.observed from) (env.failures from) (env.failures to)) (env.failures from) (env.failures to) result
      appended_cause =
          let same = appends.cause.ok in
          let there = λ (modelled : IsTrue env.models_disk). (appends.does modelled).ok modelled in
          subst (λ f. HasCause (IsLost env.models_disk old.path (env.observed from) f (env.failures to)) f (env.failures to) result) same
          (cause_same result
          (λ e lost. ⊎_elim
          (λ its. ⊎_elim (λ memory. inl memory)
          (λ gone. inr (gone.0, (λ modelled. (none_longer old.path bytes (env.observed from).disk.files).0 (sym (ap (λ (f : Files). f old.path) (there modelled)) ∙ gone.1 modelled)), gone.2)) its)
          (λ broken. absurd (let never : false ≡ true = sym usable ∙ broken.0 in cc)) lost)
          (λ e lost. inl (⊎_elim (λ memory. inl memory)
          (λ gone. inr (gone.0, (λ modelled. ap (λ (f : Files). f old.path) (there modelled) ∙ (none_longer old.path bytes (env.observed from).disk.files).1 (gone.1 modelled)), gone.2)) lost))
          synced_then.cause)

-- ---- the bytes of an edit

no_field : (fields : List Field) → flat_map field_bytes fields ≡ [] → length fields ≡ 0
no_field [] none = refl
no_field (field ∷ fields) none =
    let positive : 1 ≤ length (field_bytes field) = length-field-pos field in
    let total : length (field_bytes field ++ flat_map field_bytes fields) ≡ 0 = ap length (sym (flat_map-cons field_bytes field fields) ∙ none) in
    absurd (omega (arith, positive, total, length-append (field_bytes field) (flat_map field_bytes fields)))

some_field : (a b c rest : List Field) → length c ≡ 1 → flat_map field_bytes (a ++ (b ++ (c ++ rest))) ≡ [] → ⊥
some_field a b c rest one none =
    let total : length (a ++ (b ++ (c ++ rest))) ≡ 0 = no_field (a ++ (b ++ (c ++ rest))) none in
    omega (arith, one, total, length-append a (b ++ (c ++ rest)), length-append b (c ++ rest), length-append c rest)

-- an edit that sets a previous log has bytes
pub has_bytes : (edit : Edit) → edit.previous_log ≡ Some 0 → edit_bytes edit ≡ [] → ⊥
unfolding edit_bytes
has_bytes edit is none = some_field (map comparator_is (option_to_list edit.comparator)) (map log_is (option_to_list edit.log_number))
    (map previous_log_is (option_to_list edit.previous_log))
    (map next_file_is (option_to_list edit.next_file) ++ (map last_sequence_is (option_to_list edit.last_sequence) ++ (map points edit.pointers ++ (map deletes edit.deleted ++ map adds edit.added))))
    (ap (λ log. length (map previous_log_is (option_to_list log))) is) none

-- ---- the set

-- the log's number after an edit that has the set's numbers
pub log_of : (number : Option ℕ) (n : ℕ) → unwrap_or (option_or number (Some n)) n ≡ unwrap_or number n
log_of None n = refl
log_of (Some number) n = refl

-- what is in use or broken isn't unmade
pub is_made : (is_broken : Bool) (manifest : OpenManifest) → manifest_state is_broken (Some manifest) ≡ unmade → ⊥
is_made true manifest is = absurd (cc is)
is_made false manifest is = absurd (cc is)

-- the manifest that is in use
pub used_one : (is_broken : Bool) (manifest other : OpenManifest) → manifest_state is_broken (Some manifest) ≡ in_use other → (is_broken ≡ false) × (manifest ≡ other)
used_one true manifest other is = absurd (cc is)
used_one false manifest other is = (refl, cc)

-- what isn't broken
pub not_broken : (is_broken : Bool) (manifest : Option OpenManifest) → is_broken ≡ false → manifest_state is_broken manifest ≡ broken → ⊥
not_broken true manifest unbroken is = absurd (cc unbroken)
not_broken false None unbroken is = absurd (cc is)
not_broken false (Some manifest) unbroken is = absurd (cc is)

-- what is broken is so whatever it was
pub is_so : (is_broken : Bool) (manifest : Option OpenManifest) → is_broken ≡ true → manifest_state is_broken manifest ≡ broken
is_so true manifest is = refl
is_so false manifest is = absurd (cc is)

-- the set with a new manifest
pub begun_view : {inside set : VersionSetValue} (logged full : Edit) (log : ℕ) (state : ManifestState) → inside ≡ set → full ≡ full_after set.full logged → log ≡ unwrap_or logged.log_number set.log_number
    → state ≡ in_use (new_manifest set logged) → record inside { full = full; given = None; log_number = log; previous_log = 0; manifest = state } ≡ set_begun set logged
begun_view {inside} {set} logged full log state same a b c =
    ap {A = VersionSetValue} (λ s. record s { full = full; given = None; log_number = log; previous_log = 0; manifest = state }) same
    ∙ ap (λ f. record set { full = f; given = None; log_number = log; previous_log = 0; manifest = state }) a
    ∙ ap (λ n. record set { full = full_after set.full logged; given = None; log_number = n; previous_log = 0; manifest = state }) b
    ∙ ap (λ m. record set { full = full_after set.full logged; given = None; log_number = unwrap_or logged.log_number set.log_number; previous_log = 0; manifest = m }) c

-- the set with a record more in its manifest
pub appended_view : {inside set : VersionSetValue} (manifest : OpenManifest) (logged full : Edit) (log : ℕ) (state : ManifestState) → inside ≡ set → full ≡ full_after set.full logged
    → log ≡ unwrap_or logged.log_number set.log_number → state ≡ in_use (record manifest { writer = after_frame manifest.writer (edit_record set logged) })
    → record inside { full = full; given = None; log_number = log; previous_log = 0; manifest = state } ≡ set_appended manifest set logged
appended_view {inside} {set} manifest logged full log state same a b c =
    ap {A = VersionSetValue} (λ s. record s { full = full; given = None; log_number = log; previous_log = 0; manifest = state }) same
    ∙ ap (λ f. record set { full = f; given = None; log_number = log; previous_log = 0; manifest = state }) a
    ∙ ap (λ n. record set { full = full_after set.full logged; given = None; log_number = n; previous_log = 0; manifest = state }) b
    ∙ ap (λ m. record set { full = full_after set.full logged; given = None; log_number = unwrap_or logged.log_number set.log_number; previous_log = 0; manifest = m }) c

-- the state of a manifest that is there and not broken
pub state_of : (is_broken : Bool) (manifest other : OpenManifest) → is_broken ≡ false → manifest ≡ other → manifest_state is_broken (Some manifest) ≡ in_use other
state_of true manifest other unbroken is = absurd (cc unbroken)
state_of false manifest other unbroken is = ap in_use is

-- the set as it was
pub same_view : {inside set : VersionSetValue} (full : Edit) (state : ManifestState) → inside ≡ set → full ≡ inside.full → state ≡ inside.manifest → record inside { full = full; manifest = state } ≡ set
same_view {inside} {set} full state same a b =
    ap (λ f. record inside { full = f; manifest = state }) a ∙ ap (λ m. record inside { full = inside.full; manifest = m }) b ∙ same

-- the set with a broken manifest
pub broken_view : {inside set : VersionSetValue} (full : Edit) (state : ManifestState) → inside ≡ set → full ≡ inside.full → state ≡ broken → record inside { full = full; manifest = state } ≡ record set { manifest = broken }
broken_view {inside} {set} full state same a b =
    ap (λ f. record inside { full = f; manifest = state }) a ∙ ap (λ m. record inside { full = inside.full; manifest = m }) b ∙ ap {A = VersionSetValue} (λ s. record s { manifest = broken }) same

-- ---- a manifest that was made

pub made_changes : {T : Type 0} {x : T} {models_disk : Bool} {v0 v1 : Observed} {store to : List ℕ} {n m : ℕ} {bytes all : List ℕ} {result : Result T Status} → store ≡ to → n ≡ m → bytes ≡ all → result ≡ Ok x
    → ChangesFiles models_disk (with_manifest store n bytes) (MakingManifest store n bytes) v0 v1 result
    → ChangesFiles {T = Unit {0}} models_disk (with_manifest to m all) (MakingManifest to m all) v0 v1 (Ok tt)
made_changes {T} {x} {models_disk} {v0} {v1} {store} {to} {n} {m} {bytes} {all} {result} a b c d changes =
    let one = subst (λ r. ChangesFiles models_disk (with_manifest store n bytes) (MakingManifest store n bytes) v0 v1 r) d changes in
    let two = subst (λ s. ChangesFiles {T = T} models_disk (with_manifest s n bytes) (MakingManifest s n bytes) v0 v1 (Ok x)) a one in
    let three = subst (λ k. ChangesFiles {T = T} models_disk (with_manifest to k bytes) (MakingManifest to k bytes) v0 v1 (Ok x)) b two in
    let four = subst (λ z. ChangesFiles {T = T} models_disk (with_manifest to m z) (MakingManifest to m z) v0 v1 (Ok x)) c three in
    record { ok = four.ok; now = four.now; time = four.time }

pub ok_cause : {T : Type 0} {Excused Other : Status → Type 0} {before now : ℕ} {x : T} {result : Result T Status} → result ≡ Ok x → HasCause Excused before now result → HasCause {T = Unit {0}} Other before now (Ok tt)
ok_cause {before = before} {now = now} is cause = record { later = cause.later; ok = subst (λ r. OnOk r (now ≡ before)) is cause.ok; uncounted = tt; cause = tt }

-- ---- memory was out before the first call

-- what has no manifest has none in use
pub none_used : (is_broken : Bool) (manifest : OpenManifest) → manifest_state is_broken None ≡ in_use manifest → ⊥
none_used true manifest is = absurd (cc is)
none_used false manifest is = absurd (cc is)

module _ {models_disk : Bool} {set new : VersionSetValue} {edit : Edit} {observed : Observed} {failed : ℕ} (result : Result (Unit {0}) Status) (refused : IsErr result)
    (memory : IfErr result IsOutOfMemory) (same : new ≡ set) where
  pub not_appended : {manifest : OpenManifest} → AppendsEdit models_disk manifest set edit observed failed result new observed failed
  not_appended = record {
    does = λ modelled. nothing_done refused (inl (nothing_appended _ _ observed.disk.files));
    ok = IfOk-from_err result _ refused;
    err = IfErr-weaker result IsOutOfMemory _ (λ status why. inl (why, same, λ modelled. refl)) memory;
    cause = excused result refused (IfErr-weaker result IsOutOfMemory _ (λ status why. inl why) memory);
  }

  pub not_begun : BeginsManifest models_disk set edit observed failed result new observed failed
  not_begun = record {
    does = λ modelled. nothing_done refused (record { others = λ other a b c. refl; current = inl refl });
    bytes = λ modelled kept. kept;
    ok = IfOk-from_err result _ refused;
    err = IfErr-weaker result IsOutOfMemory _ (λ status why. inl (why, same, λ modelled. refl)) memory;
    cause = excused result refused (IfErr-weaker result IsOutOfMemory _ (λ status why. inl why) memory);
  }

-- ---- a manifest that was not made

module _ {T : Type 0} {models_disk : Bool} {set new : VersionSetValue} {edit : Edit} {before after : Observed} {failed now_failed : ℕ} (made : Result T Status) (status : Status)
    (was : made ≡ Err status) where
  -- it breaks the set
  pub not_made : (store : List ℕ) (n : ℕ) (bytes : List ℕ) → store ≡ set.store → n ≡ set.manifest_number → bytes ≡ manifest_bytes (new_records set edit)
      → (result : Result (Unit {0}) Status) → IsErrAnd result (λ it. it ≡ status)
      → (IsTrue models_disk → ChangesFiles models_disk (with_manifest store n bytes) (MakingManifest store n bytes) before after made)
      → (IsTrue models_disk → AppendedAreBytes before.disk.files → AppendedAreBytes after.disk.files)
      → HasCause (IsLostUnobserved models_disk (temp_path store n) failed now_failed) failed now_failed made
      → new ≡ record set { manifest = broken } → BeginsManifest models_disk set edit before failed result new after now_failed
  not_made store n bytes a b d (Ok done) same does appended cause breaks = absurd same
  not_made store n bytes a b d (Err it) same does appended cause breaks = record {
    does = λ modelled. ChangesFiles-refused refl
        (subst (λ all. Run (MakingManifest set.store set.manifest_number all before.disk.files) before after) d
        (subst (λ k. Run (MakingManifest set.store k bytes before.disk.files) before after) b
        (subst (λ path. Run (MakingManifest path n bytes before.disk.files) before after) a (Run-call modelled (does modelled)))));
    bytes = appended;
    ok = tt;
    err = inr breaks;
    cause = cause_refused {T = T} (subst (λ e. HasCause {T = T} (IsLostUnobserved models_disk (temp_path set.store set.manifest_number) failed now_failed) failed now_failed (Err e)) (sym same)
        (subst (λ answer. HasCause (IsLostUnobserved models_disk (temp_path set.store set.manifest_number) failed now_failed) failed now_failed answer) was
        (subst (λ k. HasCause (IsLostUnobserved models_disk (temp_path set.store k) failed now_failed) failed now_failed made) b
        (subst (λ path. HasCause (IsLostUnobserved models_disk (temp_path path n) failed now_failed) failed now_failed made) a cause))));
  }

-- ---- levels

pub All-unmap : {X Y : Type 0} (P : Y → Type 0) (f : X → Y) (xs : List X) → All P (map f xs) → All (λ x. P (f x)) xs
All-unmap P f xs all = λ i d there. holds_of_element P f xs i d there all

-- ---- the whole call

-- an edit of levels that there are, given to a set that isn't broken, is appended or begins a
-- manifest
pub logged_by : {models_disk : Bool} {set : VersionSetValue} {edit : Edit} {before after : Observed} {failed now_failed : ℕ} {result : Result (Unit {0}) Status} {new : VersionSetValue}
    → set.manifest ≢ broken → LevelsFit edit
    → ((manifest : OpenManifest) → set.manifest ≡ in_use manifest → AppendsEdit models_disk manifest set edit before failed result new after now_failed)
    → (set.manifest ≡ unmade → BeginsManifest models_disk set edit before failed result new after now_failed)
    → LogEditResult models_disk set edit before failed result new after now_failed
logged_by usable fits used not_made = record {
  broken_before = λ is. absurd (usable is);
  levels = λ works unfit. absurd (unfit fits);
  used = λ fit manifest is. used manifest is;
  not_made = λ fit is. not_made is;
}

-- memory was out before anything was done
pub unlogged : {models_disk : Bool} {set : VersionSetValue} {edit : Edit} (before : Observed) (failed : ℕ) (status : Status)
    → IsOutOfMemory status → set.manifest ≢ broken → LevelsFit edit
    → LogEditResult models_disk set edit before failed (Err status) set before failed
unlogged before failed status memory usable fits = logged_by usable fits
    (λ manifest is. record {
      does = λ modelled.
          let run = begun before (inl (nothing_appended _ _ before.disk.files)) in
          record { ok = λ t. tt; now = λ t. run.has; time = run.time };
      ok = tt;
      err = inl (memory, refl, λ modelled. refl);
      cause = record { later = omega arith; ok = tt; uncounted = λ why. refl; cause = inl (inl memory) };
    })
    (λ is. record {
      does = λ modelled.
          let run = begun before (record { others = λ other a b c. refl; current = inl refl }) in
          record { ok = λ t. tt; now = λ t. run.has; time = run.time };
      bytes = λ modelled kept. kept;
      ok = tt;
      err = inl (memory, refl, λ modelled. refl);
      cause = record { later = omega arith; ok = tt; uncounted = λ why. refl; cause = inl (inl memory) };
    })

module _ {models_disk : Bool} {set : VersionSetValue} {edit : Edit} {before after : Observed} {failed now_failed : ℕ} {new : VersionSetValue} (usable : set.manifest ≢ broken) (fits : LevelsFit edit) where
  -- the files after an edit that is logged
  pub files_logged : LogEditResult models_disk set edit before failed (Ok tt) new after now_failed → new.full.added ≡ files_after edit set.full.added
  files_logged logs = by set.manifest refl
    where
      by : (state : ManifestState) → set.manifest ≡ state → new.full.added ≡ files_after edit set.full.added
      by unmade is = ap (λ (s : VersionSetValue). s.full.added) (logs.not_made fits is).ok
      by (in_use manifest) is = ap (λ (s : VersionSetValue). s.full.added) (logs.used fits manifest is).ok
      by broken is = absurd (usable is)

  -- and after one that isn't
  pub files_unlogged : {status : Status} → LogEditResult models_disk set edit before failed (Err status) new after now_failed → new.full ≡ set.full
  files_unlogged logs = by set.manifest refl
    where
      by : (state : ManifestState) → set.manifest ≡ state → new.full ≡ set.full
      by unmade is = ⊎_elim (λ memory. ap (λ (s : VersionSetValue). s.full) memory.1) (λ breaks. ap (λ (s : VersionSetValue). s.full) breaks) (logs.not_made fits is).err
      by (in_use manifest) is = ⊎_elim (λ memory. ap (λ (s : VersionSetValue). s.full) memory.1) (λ breaks. ap (λ (s : VersionSetValue). s.full) breaks) (logs.used fits manifest is).err
      by broken is = absurd (usable is)
