-- How a version set is recovered, a step at a time.
use Rattle.std.specs.Prelude.{◌↔◌, ◌^◌, IfSome, IsErrAnd, IsSome, IsSomeAnd, IsTrue, Result, Ok, Err, if◌then◌else◌, max, string_bytes}
use Rattle.std.proofs.Common.{◌≡◌, ◌⊎◌, inl, inr, ⊎_elim, ℕ, ◌≤◌, ◌<◌, ◌+◌, Bool, true, false, List, length, Option, None, Some, refl, sym, ◌∙◌, ap, subst, arith}
use Rattle.std.specs.Option.{unwrap_or}
use Rattle.std.specs.declared.cmp.Ordering.{Ordering}
use Rattle.leveldb_base.specs.Error.{IsOutOfMemory}
use Rattle.leveldb_base.specs.declared.error.Status.{Status}
use Rattle.leveldb_base.specs.declared.error.StatusCode.TheVariants.{NotFound, NotSupported}
use Rattle.leveldb_env.specs.Env.{BeforeOrAfter, ChangesFiles, File, Files, HasCause, IsMissing, Observed, bytes_of, created, in_folder, or_empty, synced, with_file}
use Rattle.leveldb_env.specs.WholeFiles.{IsFoundOr, IsLost, IsMissingFile}
use Rattle.leveldb_env.proofs.EnvLemmas.{Within-mono, Within-trans, with_file-itself}
use Rattle.leveldb_env.proofs.WholeFilesLemmas.{found_cause}
use Rattle.leveldb_mem.specs.Log.{End, IsLogFile, bad, clean}
use Rattle.leveldb_mem.specs.Log.Files.{HasReadCause, IsHuge}
use Rattle.leveldb_files.specs.Edits.Current.{IsCurrentText}
use Rattle.leveldb_version_set.specs.Sets.CurrentFile.{IsCurrentUnread}
use Rattle.leveldb_files.specs.Stores.Paths.{current_path}
use Rattle.leveldb_version_set.specs.Sets.Recover.{HasRecordOfNoEdit, IsNamed, IsRead, IsUsable, ReadManifest, WhyUnrecovered, WhyUnusable, lost, no_edit, too_long, unread, unusable, used_up}
use Rattle.leveldb_version_set.specs.Sets.RecoverSteps.{IsFileUnread, IsManifestAt, IsManifestRead, IsManifestUnread, IsRecoveryPlan, IsSizedLog, IsSizedReplay}
use Rattle.leveldb_version_set.specs.Sets.Replay.{AreReplayed, IsNoLogOfEdits, HasReplayCause, IsNoManifest, IsReplayOf, IsReplayOfFile}
use Rattle.leveldb_version_set.specs.Sets.Usable.{next_number_of}
use Rattle.leveldb_files.specs.Edits.Edit.{Edit}
use Rattle.leveldb_files.specs.Edits.VersionSet.{live_after}
use Rattle.leveldb_version_set.specs.Sets.VersionSetValue.{VersionSetValue}
use Rattle.leveldb_version_set.specs.declared.version_set.recover.RecoveryPlan.{RecoveryPlan}
use Rattle.leveldb_version_set.specs.declared.version_set.replay.Replayed.{Replayed}

-- ---- causes

-- an error of the one type of result and of the other, with more excuses
pub cause_of_error : {T U : Type 0} {P Q : Status → Type 0} {before now : ℕ} (status : Status) → (P status → Q status) → (Q status → P status ⊎ (now ≡ before))
    → HasCause {T = T} P before now (Err status) → HasCause {T = U} Q before now (Err status)
cause_of_error status to from cause = record {
  later = cause.later;
  ok = tt;
  uncounted = λ q. ⊎_elim (λ p. cause.uncounted p) (λ e. e) (from q);
  cause = ⊎_elim (λ p. inl (to p)) (λ counted. inr counted) cause.cause;
}

-- an error of a call that counts nothing
cause_uncounted : {T : Type 0} {Q : Status → Type 0} {before now : ℕ} (status : Status) → now ≡ before → Q status → HasCause {T = T} Q before now (Err status)
cause_uncounted status same why = record { later = omega (arith, same); ok = tt; uncounted = λ q. same; cause = inl why }

-- ---- reading a log and its size

nothing_counted : {T : Type 0} (models_disk : Bool) (path : List ℕ) (old : Observed) (f0 f1 : ℕ) (answer : Result T Status) (got : T) → answer ≡ Ok got → HasReplayCause models_disk path old f0 f1 answer → f1 ≡ f0
nothing_counted {T} models_disk path old f0 f1 answer got is cause =
    let P : Result T Status → Type 0 = λ r. HasReplayCause models_disk path old f0 f1 r in
    ⊎_elim
    (λ (read : HasReadCause models_disk path old f0 f1 (Ok got)). ⊎_elim
    (λ (h : HasCause (IsMissing models_disk path old) f0 f1 (Ok got)). h.ok)
    (λ (h : IsErrAnd (Ok got) (IsHuge models_disk (old.disk.files path)) × (f1 ≡ f0)). h.1)
    read)
    (λ (h : IsErrAnd (Ok got) (IsNoManifest models_disk (old.disk.files path)) × (f1 ≡ f0)). h.1)
    (subst P is cause)

-- an error of the replay where its file is found
pub replay_refused : {T U : Type 0} (models_disk : Bool) (path : List ℕ) (old : Observed) (f0 f1 : ℕ) (answer : Result T Status) (status : Status)
    → IsFoundOr path answer (Err status) → HasReplayCause models_disk path old f0 f1 answer → HasCause {T = U} (IsFileUnread models_disk path old f0 f1) f0 f1 (Err status)
replay_refused {T} models_disk path old f0 f1 answer status found cause =
    ⊎_elim
    (λ (read : HasReadCause models_disk path old f0 f1 answer). ⊎_elim
    (λ (h : HasCause (IsMissing models_disk path old) f0 f1 answer).
    cause_of_error {T = T} status (λ lost. inl lost)
    (λ why. ⊎_elim (λ lost. inl lost) (λ other. inr other.0) why)
    (found_cause path answer (Err status) (λ none. none) found h))
    (λ (h : IsErrAnd answer (IsHuge models_disk (old.disk.files path)) × (f1 ≡ f0)).
    cause_uncounted status h.1 (inr (h.1, inl (as_it_was answer (IsHuge models_disk (old.disk.files path)) found h.0 (λ e huge gone. absurd (cc (sym huge.0 ∙ gone)))))))
    read)
    (λ (h : IsErrAnd answer (IsNoManifest models_disk (old.disk.files path)) × (f1 ≡ f0)).
    cause_uncounted status h.1 (inr (h.1, inr (as_it_was answer (IsNoManifest models_disk (old.disk.files path)) found h.0 (λ e none gone. absurd (cc (sym none.0 ∙ gone)))))))
    cause
  where
    -- an error that isn't `NotFound` stays
    as_it_was : (answer : Result T Status) (P : Status → Type 0) → IsFoundOr path answer (Err status) → IsErrAnd answer P → ((e : Status) → P e → e.code ≡ NotFound → ⊥) → P status
    as_it_was (Ok value) P found err other = absurd err
    as_it_was (Err e) P (inl same) err other = let kept : e ≡ status = cc (same.1) in subst P kept err
    as_it_was (Err e) P (inr gone) err other = absurd (other e err gone.0)

pub size_unread : {T U V : Type 0} (models_disk : Bool) (path : List ℕ) (old mid : Observed) (f0 f1 f2 : ℕ) (replayed : Result T Status) (got : T) (answer : Result V Status) (status : Status)
    → replayed ≡ Ok got → HasReplayCause models_disk path old f0 f1 replayed → (IsTrue models_disk → mid.disk.files ≡ old.disk.files)
    → IsFoundOr path answer (Err status) → HasCause (IsMissing models_disk path mid) f1 f2 answer → HasCause {T = U} (IsFileUnread models_disk path old f0 f2) f0 f2 (Err status)
size_unread {V = V} models_disk path old mid f0 f1 f2 replayed got answer status is read still found size =
    let same = nothing_counted models_disk path old f0 f1 replayed got is read in
    let Kept : Type 0 = IsTrue models_disk → old.disk.files path ≡ None in
    let gone : (IsTrue models_disk → mid.disk.files path ≡ None) → Kept = λ none modelled. sym (ap (λ (f : Files). f path) (still modelled)) ∙ none modelled in
    let here : HasCause {T = V} (λ e. IsOutOfMemory e ⊎ (IsMissingFile path e × Kept × (f2 ≡ f1))) f1 f2 (Err status) = found_cause path answer (Err status) gone found size in
    let P : ℕ → Type 0 = λ n. HasCause {T = V} (λ e. IsOutOfMemory e ⊎ (IsMissingFile path e × Kept × (f2 ≡ n))) n f2 (Err status) in
    let there : HasCause {T = V} (IsLost models_disk path old f0 f2) f0 f2 (Err status) = subst P same here in
    cause_of_error status (λ lost. inl lost) (λ why. ⊎_elim (λ lost. inl lost) (λ other. inr other.0) why) there

-- the manifest was replayed, and then its size asked for
pub sized_replay : (models_disk : Bool) (path : List ℕ) (old mid : Observed) (left : Replayed) (end : End) (size : ℕ)
    → IsReplayOfFile models_disk (old.disk.files path) left end → (IsTrue models_disk → mid.disk.files ≡ old.disk.files)
    → (IsTrue models_disk → IfSome (mid.disk.files path) (λ file. size ≡ length (bytes_of file)))
    → IsSizedReplay models_disk (old.disk.files path) left end size
sized_replay models_disk path old mid left end size replay still sized = record {
  records = replay.records;
  replayed = replay.replayed;
  log = λ modelled.
      let P : Files → Type 0 = λ f. IfSome (f path) (λ file. size ≡ length (bytes_of file)) in
      both (old.disk.files path) (replay.log modelled) (subst P (still modelled) (sized modelled));
}
  where
    both : (file : Option File) → IsSomeAnd file (λ it. IsLogFile (bytes_of it) replay.records end) → IfSome file (λ it. size ≡ length (bytes_of it)) → IsSizedLog file replay.records end size
    both None log length_is = log
    both (Some file) log length_is = (log, sym length_is)

-- ---- reading the manifest

memory_or_uncounted : (models_disk : Bool) (store : List ℕ) (before : Observed) (failed now_failed : ℕ) (e : Status) → IsManifestUnread models_disk store before failed now_failed e
    → IsOutOfMemory e ⊎ (now_failed ≡ failed)
memory_or_uncounted models_disk store before failed now_failed e (inl (inl (inl memory))) = inl memory
memory_or_uncounted models_disk store before failed now_failed e (inl (inl (inr gone))) = inr gone.2
memory_or_uncounted models_disk store before failed now_failed e (inl (inr none)) = inr none.2
memory_or_uncounted models_disk store before failed now_failed e (inr (name, n, named, inl (inl memory))) = inl memory
memory_or_uncounted models_disk store before failed now_failed e (inr (name, n, named, inl (inr gone))) = inr gone.2
memory_or_uncounted models_disk store before failed now_failed e (inr (name, n, named, inr huge)) = inr huge.0

module _ (models_disk : Bool) (store : List ℕ) (old : Observed) where
  pub current_refused : {T U : Type 0} (f0 f1 : ℕ) (status : Status) → HasCause {T = T} (IsCurrentUnread models_disk store old f0 f1) f0 f1 (Err status)
      → HasCause {T = U} (IsManifestUnread models_disk store old f0 f1) f0 f1 (Err status)
  current_refused f0 f1 status cause = cause_of_error status (λ current. inl current)
      (λ why. ⊎_elim (λ memory. inl (inl (inl memory))) (λ e. inr e) (memory_or_uncounted models_disk store old f0 f1 status why)) cause

  log_then : (path : List ℕ) (mid : Observed) (f0 f2 : ℕ) (e : Status) → (IsTrue models_disk → mid.disk.files ≡ old.disk.files) → IsFileUnread models_disk path mid f0 f2 e → IsFileUnread models_disk path old f0 f2 e
  log_then path mid f0 f2 e still (inl (inl memory)) = inl (inl memory)
  log_then path mid f0 f2 e still (inl (inr gone)) = inl (inr (gone.0, λ modelled. sym (ap (λ (f : Files). f path) (still modelled)) ∙ gone.1 modelled, gone.2))
  log_then path mid f0 f2 e still (inr (same, inl huge)) = inr (
    same,
    inl (
      huge.0,
      λ modelled.
          let P : Files → Type 0 = λ f. IsSomeAnd (f path) (λ file. 2 ^ 64 ≤ length (bytes_of file)) in
          subst P (still modelled) (huge.1 modelled),
    ),
  )
  log_then path mid f0 f2 e still (inr (same, inr none)) = inr (
    same,
    inr (
      none.0,
      λ modelled.
          let P : Files → Type 0 = λ f. IsSomeAnd (f path) (λ file. IsNoLogOfEdits (bytes_of file)) in
          subst P (still modelled) (none.1 modelled),
    ),
  )

  pub named_unread : {T U : Type 0} (path name : List ℕ) (n : ℕ) (mid : Observed) (f0 f1 f2 : ℕ) (status : Status) → path ≡ in_folder store name
      → (IsTrue models_disk → IsNamed store old.disk.files name n) → (IsTrue models_disk → mid.disk.files ≡ old.disk.files) → f1 ≡ f0
      → HasCause {T = T} (IsFileUnread models_disk path mid f1 f2) f1 f2 (Err status) → HasCause {T = U} (IsManifestUnread models_disk store old f0 f2) f0 f2 (Err status)
  named_unread {T} path name n mid f0 f1 f2 status path_is named still same cause =
      let P : List ℕ → Type 0 = λ p. HasCause {T = T} (IsFileUnread models_disk p mid f1 f2) f1 f2 (Err status) in
      let Q : ℕ → Type 0 = λ f. HasCause {T = T} (IsFileUnread models_disk (in_folder store name) mid f f2) f f2 (Err status) in
      let here : Q f0 = subst Q same (subst P path_is cause) in
      cause_of_error status
      (λ why. inr (name, n, named, log_then (in_folder store name) mid f0 f2 status still why))
      (λ why. ⊎_elim (λ memory. inl (inl (inl memory))) (λ e. inr e) (memory_or_uncounted models_disk store old f0 f2 status why)) here

-- ---- what is read

pub some_and : {A : Type 0} (P : A → Type 0) (o : Option A) → IsSomeAnd o P → (x : A) × (o ≡ Some x) × P x
some_and P None h = absurd h
some_and P (Some x) h = (x, refl, h)

pub and_some : {A : Type 0} (P : A → Type 0) (o : Option A) (x : A) → o ≡ Some x → P x → IsSomeAnd o P
and_some {A} P o x e p = let Q : Option A → Type 0 = λ z. IsSomeAnd z P in subst Q (sym e) p

-- a manifest that `CURRENT` names was read, while the files stayed as they were
pub manifest_read : (models_disk : Bool) (store : List ℕ) (old mid : Observed) (path opened : List ℕ) (number : ℕ) (records : List (List ℕ)) (end : End) (size : ℕ)
    → IsManifestAt models_disk store old.disk.files path number → (IsTrue models_disk → mid.disk.files ≡ old.disk.files) → opened ≡ path
    → (IsTrue models_disk → IsSizedLog (mid.disk.files opened) records end size)
    → IsManifestRead models_disk store old.disk.files path number records end size
manifest_read models_disk store old mid path opened number records end size at still same read = record {
  at = at;
  read = λ modelled. subst (λ p. IsSizedLog (old.disk.files p) records end size) same
      (subst (λ (f : Files). IsSizedLog (f opened) records end size) (still modelled) (read modelled));
}

module _ (models_disk : Bool) (old : VersionSetValue) (files : Files) (path : List ℕ) (number : ℕ) (records : List (List ℕ)) (end : End) (size : ℕ)
    (read : IsManifestRead models_disk old.store files path number records end size) where
  abbrev manifest_of : (left : Replayed) → AreReplayed records left → ReadManifest
  manifest_of left replayed = record { name = read.at.name; number = number; size = size; edits = replayed.edits; end = end }

  is_read : (left : Replayed) (replayed : AreReplayed records left) → IsTrue models_disk → IsRead old.store files (manifest_of left replayed)
  is_read left replayed modelled =
      let current = some_and (λ (file : File). IsCurrentText (bytes_of file) read.at.name number) (files (current_path old.store)) (read.at.named modelled) in
      let log = some_and (λ (file : File). IsLogFile (bytes_of file) records end × (length (bytes_of file) ≡ size)) (files path) (read.read modelled) in
      record {
        has_edits = record {
          current = current.0;
          current_there = current.1;
          name = read.at.name;
          number = number;
          named = current.2;
          manifest = log.0;
          there = ap files (sym read.at.path_is) ∙ log.1;
          is = record { records = records; end = end; read = log.2.0; each = replayed.each };
        };
        name = refl;
        number = refl;
        end = refl;
        size = log.2.1;
      }

-- the number of the next file, by edits and by what they left
next_same : (old_next number : ℕ) (edits : List Edit) (left : Replayed) → IsReplayOf edits left
    → next_number_of old_next number left
    ≡ max old_next (max (unwrap_or (live_after edits).next_file 0) (max number (max (unwrap_or (live_after edits).log_number 0) (unwrap_or (live_after edits).previous_log 0))) + 1)
next_same old_next number edits left is = λ i. max old_next (max (unwrap_or (is.next_file i) 0) (max number (max (unwrap_or (is.log_number i) 0) (unwrap_or (is.previous_log i) 0))) + 1)

end_is_clean : (is_clean : Bool) → (if is_clean then clean else bad) ≡ clean → IsTrue is_clean
end_is_clean true e = refl
end_is_clean false e = absurd (cc)

clean_end : (is_clean : Bool) → IsTrue is_clean → (if is_clean then clean else bad) ≡ clean
clean_end true e = refl
clean_end false e = absurd (cc)

-- ---- the plan

module _ (models_disk : Bool) (cmp : List ℕ → List ℕ → Ordering) (comparator : List ℕ) (reuse : Bool) (limit : ℕ) (old : VersionSetValue) (before : Observed) where
  abbrev pub Why : ℕ → ℕ → Status → Type 0
  Why failed now_failed status = WhyUnrecovered models_disk cmp comparator reuse limit old before failed now_failed status

  pub why_memory : (failed now_failed : ℕ) (e : Status) → Why failed now_failed e → IsOutOfMemory e ⊎ (now_failed ≡ failed)
  why_memory failed now_failed e (unread (inl (inl memory))) = inl memory
  why_memory failed now_failed e (unread (inl (inr gone))) = inr gone.2
  why_memory failed now_failed e (unread (inr none)) = inr none.2
  why_memory failed now_failed e (lost name n named (inl memory)) = inl memory
  why_memory failed now_failed e (lost name n named (inr gone)) = inr gone.2
  why_memory failed now_failed e (too_long name n same named huge) = inr same
  why_memory failed now_failed e (no_edit name n same code none) = inr same
  why_memory failed now_failed e (unusable manifest same read why) = inr same
  why_memory failed now_failed e (used_up manifest same code read many) = inr same

  why_unread : (failed now_failed : ℕ) (e : Status) → IsManifestUnread models_disk old.store before failed now_failed e → Why failed now_failed e
  why_unread failed now_failed e (inl current) = unread current
  why_unread failed now_failed e (inr (name, n, named, inl gone)) = lost name n named gone
  why_unread failed now_failed e (inr (name, n, named, inr (same, inl huge))) = too_long name n same named huge
  why_unread failed now_failed e (inr (name, n, named, inr (same, inr none))) = no_edit name n same none.0 (λ modelled. (named modelled, has_no_edit (in_folder old.store name) name refl (none.1 modelled)))
    where
      has_no_edit : (path : List ℕ) (name : List ℕ) → path ≡ in_folder old.store name → IsSomeAnd (before.disk.files path) (λ file. IsNoLogOfEdits (bytes_of file)) → HasRecordOfNoEdit old.store before.disk.files name
      has_no_edit path name at has =
          let log = some_and (λ (file : File). IsNoLogOfEdits (bytes_of file)) (before.disk.files path) has in
          record {
            manifest = log.0;
            there = ap before.disk.files (sym at) ∙ log.1;
            records = log.2.records;
            end = log.2.end;
            read = log.2.read;
            bytes = log.2.bytes;
            is_record = log.2.is_record;
            no_edit = log.2.no_edit;
          }

  pub plan_unread : {T U : Type 0} (store : List ℕ) (f0 f1 : ℕ) (status : Status) → store ≡ old.store → HasCause {T = T} (IsManifestUnread models_disk store before f0 f1) f0 f1 (Err status)
      → HasCause {T = U} (Why f0 f1) f0 f1 (Err status)
  plan_unread {T} store f0 f1 status is cause =
      let P : List ℕ → Type 0 = λ s. HasCause {T = T} (IsManifestUnread models_disk s before f0 f1) f0 f1 (Err status) in
      cause_of_error status (why_unread f0 f1 status)
      (λ why. ⊎_elim (λ memory. inl (inl (inl (inl memory)))) (λ e. inr e) (why_memory f0 f1 status why)) (subst P is cause)

  module _ (path : List ℕ) (number : ℕ) (records : List (List ℕ)) (end : End) (size : ℕ) (read : IsManifestRead models_disk old.store before.disk.files path number records end size)
      (f0 f1 : ℕ) (same : f1 ≡ f0) where
    module _ (left : Replayed) (replayed : AreReplayed records left) where
      pub plan_unusable : {U : Type 0} (status : Status) → ((edits : List Edit) → IsReplayOf edits left → WhyUnusable cmp comparator edits status) → HasCause {T = U} (Why f0 f1) f0 f1 (Err status)
      plan_unusable status why = cause_uncounted status same (unusable (manifest_of models_disk old before.disk.files path number records end size read left replayed) same
          (is_read models_disk old before.disk.files path number records end size read left replayed) (why replayed.edits replayed.left))

      pub plan_used_up : {U : Type 0} (status : Status) → (status.code ≡ NotSupported) × (2 ^ 64 ≤ next_number_of old.next_file number left + 1) → HasCause {T = U} (Why f0 f1) f0 f1 (Err status)
      plan_used_up status why = cause_uncounted status same (used_up (manifest_of models_disk old before.disk.files path number records end size read left replayed) same why.0
          (is_read models_disk old before.disk.files path number records end size read left replayed)
          (subst (λ n. 2 ^ 64 ≤ n + 1) (next_same old.next_file number replayed.edits left replayed.left) why.1))

  pub plan_made : (plan : RecoveryPlan) (records : List (List ℕ)) (is_clean : Bool) → IsManifestRead models_disk old.store before.disk.files (string_bytes plan.path) plan.number records (if is_clean then clean else bad) plan.size
      → AreReplayed records plan.left → ((edits : List Edit) → IsReplayOf edits plan.left → IsUsable cmp comparator edits)
      → plan.next_file ≡ next_number_of old.next_file plan.number plan.left → plan.next_file + 1 < 2 ^ 64
      → IsTrue plan.reuses ↔ (IsTrue reuse × IsTrue is_clean × (plan.size < limit))
      → IsRecoveryPlan models_disk cmp comparator reuse limit old before.disk.files plan
  plan_made plan records is_clean read replayed usable next fits reuses =
      let end : End = if is_clean then clean else bad in
      record {
        manifest = manifest_of models_disk old before.disk.files (string_bytes plan.path) plan.number records end plan.size read plan.left replayed;
        read = is_read models_disk old before.disk.files (string_bytes plan.path) plan.number records end plan.size read plan.left replayed;
        usable = usable replayed.edits replayed.left;
        path = read.at.path_is;
        number = refl;
        size = refl;
        reuses = (
          λ it. let all = reuses.0 it in record { wanted = all.0; clean_end = clean_end is_clean all.1; short = all.2 },
          λ it. reuses.1 (it.wanted, end_is_clean is_clean it.clean_end, it.short),
        );
        left = replayed.left;
        next_file = next ∙ next_same old.next_file plan.number replayed.edits plan.left replayed.left;
        fits = fits;
      }

-- ---- the manifest that goes on to be used

there_or_empty : (file : Option File) → IsSome file → or_empty file ≡ file
there_or_empty None some = absurd (cc)
there_or_empty (Some file) some = refl

created_there : (path : List ℕ) (files : Files) → IsSome (files path) → created path files ≡ files
created_there path files some = ap (λ file. with_file path file files) (there_or_empty (files path) some) ∙ with_file-itself path files

-- a file that is there is opened, and isn't synced
pub reopened_unsynced : {F T : Type 0} (models_disk : Bool) (path opened name : List ℕ) (old mid new : Observed) (file : F) (failed status : Status) → IsTrue models_disk → IsSome (old.disk.files path)
    → opened ≡ path → name ≡ opened → ChangesFiles models_disk (created opened) (BeforeOrAfter (created opened)) old mid (Ok file)
    → ChangesFiles {T = Unit {0}} models_disk (synced name) (BeforeOrAfter (synced name)) mid new (Err failed) → ChangesFiles {T = T} models_disk (synced path) (BeforeOrAfter (synced path)) old new (Err status)
reopened_unsynced {F} {T} models_disk path opened name old mid new file failed status modelled there opened_is name_is open_does sync_does =
    let P : List ℕ → Type 0 = λ z. ChangesFiles {T = F} models_disk (created z) (BeforeOrAfter (created z)) old mid (Ok file) in
    let Q : List ℕ → Type 0 = λ z. ChangesFiles {T = Unit {0}} models_disk (synced z) (BeforeOrAfter (synced z)) mid new (Err failed) in
    let opens : P path = subst P opened_is open_does in
    let syncs : Q path = subst Q (name_is ∙ opened_is) sync_does in
    let first : mid.disk.files ≡ old.disk.files = opens.ok modelled ∙ created_there path old.disk.files there in
    let passes : (files : Files) → BeforeOrAfter (synced path) mid.disk.files files → BeforeOrAfter (synced path) old.disk.files files =
    λ files passes. ⊎_elim (λ (e : files ≡ mid.disk.files). inl (e ∙ first)) (λ (e : files ≡ synced path mid.disk.files). inr (e ∙ ap (synced path) first)) passes in
    record {
      ok = λ t. tt;
      now = λ t. passes new.disk.files (syncs.now t);
      time = Within-trans
          (Within-mono (λ files passes. ⊎_elim (λ (e : files ≡ old.disk.files). inl e) (λ (e : files ≡ created path old.disk.files). inl (e ∙ created_there path old.disk.files there)) passes) opens.time)
          (Within-mono passes syncs.time);
    }

-- a file that is there is opened and synced
pub reopened : {F T : Type 0} (models_disk : Bool) (path opened name : List ℕ) (old mid new : Observed) (file : F) (done : Unit {0}) (result : T) → IsTrue models_disk → IsSome (old.disk.files path)
    → opened ≡ path → name ≡ opened → ChangesFiles models_disk (created opened) (BeforeOrAfter (created opened)) old mid (Ok file)
    → ChangesFiles models_disk (synced name) (BeforeOrAfter (synced name)) mid new (Ok done) → ChangesFiles models_disk (synced path) (BeforeOrAfter (synced path)) old new (Ok result)
reopened {F} {T} models_disk path opened name old mid new file done result modelled there opened_is name_is open_does sync_does =
    let P : List ℕ → Type 0 = λ z. ChangesFiles {T = F} models_disk (created z) (BeforeOrAfter (created z)) old mid (Ok file) in
    let Q : List ℕ → Type 0 = λ z. ChangesFiles {T = Unit {0}} models_disk (synced z) (BeforeOrAfter (synced z)) mid new (Ok done) in
    let opens : P path = subst P opened_is open_does in
    let syncs : Q path = subst Q (name_is ∙ opened_is) sync_does in
    let first : mid.disk.files ≡ old.disk.files = opens.ok modelled ∙ created_there path old.disk.files there in
    let last : new.disk.files ≡ synced path old.disk.files = syncs.ok modelled ∙ ap (synced path) first in
    record {
      ok = λ t. last;
      now = λ t. inr last;
      time = Within-trans
          (Within-mono (λ files passes. ⊎_elim (λ (e : files ≡ old.disk.files). inl e) (λ (e : files ≡ created path old.disk.files). inl (e ∙ created_there path old.disk.files there)) passes) opens.time)
          (Within-mono (λ files passes. ⊎_elim (λ (e : files ≡ mid.disk.files). inl (e ∙ first)) (λ (e : files ≡ synced path mid.disk.files). inr (e ∙ ap (synced path) first)) passes) syncs.time);
    }
