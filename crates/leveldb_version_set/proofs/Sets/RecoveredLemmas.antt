-- What a version set is once it is recovered, and what stands where it isn't.
use Rattle.std.specs.Prelude.{◌%◌, IsTrue, Result, Ok, Err, string_bytes}
use Rattle.std.proofs.Common.{◌≡◌, inl, inr, ⊎_elim, ℕ, ◌+◌, Bool, true, false, List, [], None, refl, sym, ◌∙◌, ap, subst, arith}
use Rattle.std.specs.Option.{unwrap_or}
use Rattle.std.specs.declared.cmp.Ordering.{Ordering}
use Rattle.leveldb_base.specs.Error.{IsOutOfMemory}
use Rattle.leveldb_base.specs.declared.error.Status.{Status}
use Rattle.leveldb_env.specs.Env.{BeforeOrAfter, ChangesFiles, File, Files, FilesUnchanged, HasCause, Observed, Run, SameLocks, bytes_of, in_folder, synced}
use Rattle.leveldb_env.proofs.EnvLemmas.{Run-mono, call}
use Rattle.leveldb_mem.specs.Log.{log_block_size}
use Rattle.leveldb_mem.specs.Log.Writer.{new_writer}
use Rattle.leveldb_files.specs.Edits.Current.{IsCurrentText}
use Rattle.leveldb_files.specs.Stores.Paths.{current_path}
use Rattle.leveldb_version_set.specs.Sets.Recover.{IsNamed, IsRead, SyncsManifestAtMost, ReadManifest, ReadSetResult, RecoverResult, WhyUnrecovered, lost, no_edit, set_going_on, set_starting_anew, too_long, unread, unusable, used_up}
use Rattle.leveldb_version_set.specs.Sets.RecoverSteps.{IsRecoveryPlan, set_installed}
use Rattle.leveldb_version_set.specs.Sets.VersionSetValue.{VersionSetValue, broken, in_use, unmade}
use Rattle.leveldb_version_set.specs.declared.version_set.recover.RecoveryPlan.{RecoveryPlan}
use Rattle.leveldb_version_set.proofs.Sets.RecoverLemmas.{and_some, why_memory, cause_of_error}

is_named : (store : List ℕ) (files : Files) (manifest : ReadManifest) → IsRead store files manifest → IsNamed store files manifest.name manifest.number
is_named store files manifest read =
    let has = read.has_edits in
    let P : List ℕ → Type 0 = λ name. IsCurrentText (bytes_of has.current) name manifest.number in
    let Q : ℕ → Type 0 = λ n. IsCurrentText (bytes_of has.current) has.name n in
    and_some (λ (file : File). IsCurrentText (bytes_of file) manifest.name manifest.number) (files (current_path store)) has.current has.current_there (subst P read.name (subst Q read.number has.named))

module _ (models_disk : Bool) (cmp : List ℕ → List ℕ → Ordering) (comparator : List ℕ) (reuse : Bool) (limit : ℕ) (old new : VersionSetValue) (before : Observed) where
  -- nothing was done but reading
  pub nothing_recovered : (after : Observed) (f0 f1 : ℕ) (status : Status) → (IsTrue models_disk → Run (FilesUnchanged before.disk.files) before after) → SameLocks models_disk before after → new ≡ old
      → HasCause {T = Bool} (WhyUnrecovered models_disk cmp comparator reuse limit old before f0 f1) f0 f1 (Err status)
      → RecoverResult models_disk cmp comparator reuse limit old before f0 (Err status) new after f1
  nothing_recovered after f0 f1 status still locks same cause = record {
    ok = tt;
    err = same;
    files = λ modelled. record { manifest = []; number = 0; run = Run-mono (λ files e. inl e) (still modelled); synced_named = inl (still modelled); unusable = λ none. still modelled };
    locks = locks;
    cause = cause;
  }

  -- nothing was done but reading, and then memory was out
  pub planned_then_out_of_memory : {after : Observed} {f0 f1 : ℕ} {status : Status} → new ≡ old → (IsTrue models_disk → Run (FilesUnchanged before.disk.files) before after) → SameLocks models_disk before after
      → f1 ≡ f0 → IsOutOfMemory status → RecoverResult models_disk cmp comparator reuse limit old before f0 (Err status) new after f1
  planned_then_out_of_memory {after} {f0} {f1} {status} new_is still locks same memory = nothing_recovered after f0 f1 status still locks new_is
      (record { later = omega (arith, same); ok = tt; uncounted = λ why. same; cause = inl (unread (inl (inl memory))) })

  module _ (plan : RecoveryPlan) (is : IsRecoveryPlan models_disk cmp comparator reuse limit old before.disk.files plan) where
    pub starting_anew : set_installed old plan false ≡ set_starting_anew old is.manifest
    starting_anew = λ i. record old {
      full = is.left.full i;
      next_file = is.next_file i + 1;
      given = None;
      manifest_number = is.next_file i;
      last_sequence = unwrap_or (is.left.last_sequence i) 0;
      log_number = unwrap_or (is.left.log_number i) 0;
      previous_log = unwrap_or (is.left.previous_log i) 0;
      manifest = unmade;
    }

    going_on : set_installed old plan true ≡ set_going_on old is.manifest
    going_on = λ i. record old {
      full = is.left.full i;
      next_file = is.next_file i;
      given = None;
      manifest_number = is.number i;
      last_sequence = unwrap_or (is.left.last_sequence i) 0;
      log_number = unwrap_or (is.left.log_number i) 0;
      previous_log = unwrap_or (is.left.previous_log i) 0;
      manifest = in_use (record { path = is.path i; writer = new_writer log_block_size (is.size i % log_block_size) });
    }

    pub recovered_anew : (after : Observed) (f0 f1 : ℕ) → (IsTrue models_disk → Run (FilesUnchanged before.disk.files) before after) → SameLocks models_disk before after → f1 ≡ f0
        → plan.reuses ≡ false → new ≡ set_installed old plan false
        → RecoverResult models_disk cmp comparator reuse limit old before f0 (Ok true) new after f1
    recovered_anew after f0 f1 still locks same anew is_new = record {
      ok = record {
        manifest = is.manifest;
        read = is.read;
        usable = is.usable;
        goes_on = λ reusable. absurd (let never : true ≡ false = sym (is.reuses.1 reusable) ∙ anew in cc);
        starts_anew = λ not. (refl, is_new ∙ starting_anew, λ modelled. (still modelled).has);
      };
      err = tt;
      files = λ modelled. record { manifest = []; number = 0; run = Run-mono (λ files e. inl e) (still modelled); synced_named = inl (still modelled); unusable = λ none. still modelled };
      locks = locks;
      cause = record { later = omega (arith, same); ok = same; uncounted = tt; cause = tt };
    }

    module _ (mid after : Observed) (f0 f1 f2 : ℕ) (still : IsTrue models_disk → Run (FilesUnchanged before.disk.files) before mid) (locks : SameLocks models_disk before mid)
        (more_locks : SameLocks models_disk mid after) (same : f1 ≡ f0) (reuses : plan.reuses ≡ true) where
      syncs_named : {T : Type 0} (result : Result T Status) → IsTrue models_disk
          → ChangesFiles models_disk (synced (string_bytes plan.path)) (BeforeOrAfter (synced (string_bytes plan.path))) mid after result
          → SyncsManifestAtMost models_disk cmp comparator reuse limit old before after
      syncs_named {T} result modelled does =
          let path : List ℕ = in_folder old.store is.manifest.name in
          let P : List ℕ → Type 0 = λ p. ChangesFiles {T = T} models_disk (synced p) (BeforeOrAfter (synced p)) mid after result in
          let there : mid.disk.files ≡ before.disk.files = (still modelled).has in
          let moved : (files : Files) → BeforeOrAfter (synced path) mid.disk.files files → BeforeOrAfter (synced path) before.disk.files files
          = λ files passes. ⊎_elim (λ (e : files ≡ mid.disk.files). inl (e ∙ there)) (λ (e : files ≡ synced path mid.disk.files). inr (e ∙ ap (synced path) there)) passes in
          record {
            manifest = is.manifest.name;
            number = is.manifest.number;
            run = call modelled (Run-mono (λ files e. inl e) (still modelled)) moved (subst P is.path does);
            synced_named = inr ((is.reuses.0 reuses).wanted, is_named old.store before.disk.files is.manifest (is.read modelled));
            unusable = λ none. absurd (none is.manifest.edits (is.read modelled).has_edits is.usable);
          }

      pub recovered_going_on : {T : Type 0} (value : T)
          → (IsTrue models_disk → ChangesFiles models_disk (synced (string_bytes plan.path)) (BeforeOrAfter (synced (string_bytes plan.path))) mid after (Ok value))
          → f2 ≡ f1 → new ≡ set_installed old plan true
          → RecoverResult models_disk cmp comparator reuse limit old before f0 (Ok false) new after f2
      recovered_going_on value does last is_new = record {
        ok = record {
          manifest = is.manifest;
          read = is.read;
          usable = is.usable;
          goes_on = λ reusable. (
            refl,
            is_new ∙ going_on,
            λ modelled. (does modelled).ok modelled ∙ ap (synced (string_bytes plan.path)) (still modelled).has ∙ ap (λ p. synced p before.disk.files) is.path,
          );
          starts_anew = λ not. absurd (not (is.reuses.0 reuses));
        };
        err = tt;
        files = λ modelled. syncs_named (Ok value) modelled (does modelled);
        locks = λ modelled. more_locks modelled ∙ locks modelled;
        cause = record { later = omega (arith, same, last); ok = last ∙ same; uncounted = tt; cause = tt };
      }

      pub reopening_refused : {T : Type 0} (status : Status)
          → (IsTrue models_disk → ChangesFiles {T = T} models_disk (synced (string_bytes plan.path)) (BeforeOrAfter (synced (string_bytes plan.path))) mid after (Err status))
          → HasCause {T = T} IsOutOfMemory f1 f2 (Err status) → new ≡ old
          → RecoverResult models_disk cmp comparator reuse limit old before f0 (Err status) new after f2
      reopening_refused {T} status does cause same_set =
          let P : ℕ → Type 0 = λ f. HasCause {T = T} IsOutOfMemory f f2 (Err status) in
          record {
            ok = tt;
            err = same_set;
            files = λ modelled. syncs_named (Err status) modelled (does modelled);
            locks = λ modelled. more_locks modelled ∙ locks modelled;
            cause = cause_of_error status (λ memory. unread (inl (inl memory))) (λ why. why_memory models_disk cmp comparator reuse limit old before f0 f2 status why) (subst P same cause);
          }

-- ---- a set that is read alone

-- the causes are the same whichever manifests are used on
pub why_as_well : {models_disk : Bool} {cmp : List ℕ → List ℕ → Ordering} {comparator : List ℕ} {reuse : Bool} {limit : ℕ} {old : VersionSetValue} {before : Observed} {f0 f1 : ℕ} {status : Status} (other : Bool) (most : ℕ)
    → WhyUnrecovered models_disk cmp comparator reuse limit old before f0 f1 status → WhyUnrecovered models_disk cmp comparator other most old before f0 f1 status
why_as_well other most (unread why) = unread why
why_as_well other most (lost name n named why) = lost name n named why
why_as_well other most (too_long name n same named huge) = too_long name n same named huge
why_as_well other most (no_edit name n same code it) = no_edit name n same code it
why_as_well other most (unusable manifest same read why) = unusable manifest same read why
why_as_well other most (used_up manifest same code read many) = used_up manifest same code read many

module _ (models_disk : Bool) (cmp : List ℕ → List ℕ → Ordering) (comparator : List ℕ) (old : VersionSetValue) (before after : Observed) (f0 f1 : ℕ)
    (still : IsTrue models_disk → Run (FilesUnchanged before.disk.files) before after) (locks : SameLocks models_disk before after) where
  -- nothing was planned
  pub set_unread : {T : Type 0} (reuse : Bool) (limit : ℕ) (status : Status) → HasCause {T = T} (WhyUnrecovered models_disk cmp comparator reuse limit old before f0 f1) f0 f1 (Err status)
      → ReadSetResult models_disk cmp comparator old before f0 (Err status) old after f1
  set_unread reuse limit status cause = record {
    ok = tt;
    err = refl;
    still = still;
    locks = locks;
    cause = cause_of_error status (λ why. why_as_well false 0 why) (λ why. inl (why_as_well reuse limit why)) cause;
  }

  -- what was planned is read
  pub set_read : (reuse : Bool) (limit : ℕ) (plan : RecoveryPlan) → IsRecoveryPlan models_disk cmp comparator reuse limit old before.disk.files plan → f1 ≡ f0
      → (set new : VersionSetValue) → set ≡ set_installed old plan false → new ≡ record set { manifest = broken }
      → ReadSetResult models_disk cmp comparator old before f0 (Ok tt) new after f1
  set_read reuse limit plan is same set new set_is new_is = record {
    ok = record {
      manifest = is.manifest;
      read = is.read;
      usable = is.usable;
      set = new_is ∙ ap (λ (s : VersionSetValue). record s { manifest = broken }) (set_is ∙ starting_anew models_disk cmp comparator reuse limit old new before plan is);
    };
    err = tt;
    still = still;
    locks = locks;
    cause = record { later = omega (arith, same); ok = same; uncounted = tt; cause = tt };
  }

-- what is read alone is recovered as where no manifest is used on
pub read_is_recovered : (models_disk : Bool) (cmp : List ℕ → List ℕ → Ordering) (comparator : List ℕ) (old : VersionSetValue) (before : Observed) (f0 : ℕ) (set : VersionSetValue) (after : Observed) (f1 : ℕ)
    → ReadSetResult models_disk cmp comparator old before f0 (Ok tt) set after f1
    → RecoverResult models_disk cmp comparator false 0 old before f0 (Ok true) (record set { manifest = unmade }) after f1
read_is_recovered models_disk cmp comparator old before f0 set after f1 reads = record {
  ok = record {
    manifest = reads.ok.manifest;
    read = reads.ok.read;
    usable = reads.ok.usable;
    goes_on = λ reusable. absurd (let never : false ≡ true = reusable.wanted in cc);
    starts_anew = λ not. (refl, ap (λ (s : VersionSetValue). record s { manifest = unmade }) reads.ok.set, λ modelled. (reads.still modelled).has);
  };
  err = tt;
  files = λ modelled. record { manifest = []; number = 0; run = Run-mono (λ files e. inl e) (reads.still modelled); synced_named = inl (reads.still modelled); unusable = λ none. reads.still modelled };
  locks = reads.locks;
  cause = record { later = reads.cause.later; ok = reads.cause.ok; uncounted = tt; cause = tt };
}

-- or neither is
pub unread_is_unrecovered : (models_disk : Bool) (cmp : List ℕ → List ℕ → Ordering) (comparator : List ℕ) (old : VersionSetValue) (before : Observed) (f0 : ℕ) (status : Status) (set : VersionSetValue) (after : Observed) (f1 : ℕ)
    → ReadSetResult models_disk cmp comparator old before f0 (Err status) set after f1
    → RecoverResult models_disk cmp comparator false 0 old before f0 (Err status) old after f1
unread_is_unrecovered models_disk cmp comparator old before f0 status set after f1 reads =
    nothing_recovered models_disk cmp comparator false 0 old old before after f0 f1 status reads.still reads.locks refl
    (record { later = reads.cause.later; ok = tt; uncounted = reads.cause.uncounted; cause = reads.cause.cause })
