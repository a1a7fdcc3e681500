-- What appends to a log's file, and syncs of it, make of the log.
use Rattle.std.specs.Prelude.{◌≢◌, IsErrAnd, IsTrue, OnErr, OnOk, IfErr, IfOk}
use Rattle.std.proofs.Common.{◌≡◌, ◌∙◌, ◌⊎◌, inl, inr, ⊎_elim, ℕ, Bool, true, false, List, [], None, Ok, Err, Result, ap, arith, refl, subst, sym}
use Rattle.leveldb_base.specs.declared.error.Status.{Status}
use Rattle.leveldb_base.specs.declared.error.StatusCode.TheVariants.{IOError, NotFound, OutOfMemory}
use Rattle.leveldb_base.specs.Error.{IsOutOfMemory}
use Rattle.leveldb_env.proofs.EnvLemmas.{Within-refl, cause_same}
use Rattle.leveldb_env.proofs.WholeFilesLemmas.{ChangesFiles-found, found_cause, found_ok}
use Rattle.leveldb_env.specs.Env.{BeforeOrAfter, ChangesFiles, Files, HasCause, IsGone, Observed, PrefixAppended, extended, synced}
use Rattle.leveldb_env.specs.EnvFile.{Appends, Opened, Syncs, opened}
use Rattle.leveldb_env.specs.WholeFiles.{IsFoundOr, IsLost}
use Rattle.leveldb_env.specs.declared.env.Env.{Ghosts}
use Rattle.leveldb_mem.specs.Log.LogFile.{AppendsRecord, IsFileLost, LogFileState, SyncsRecords, broken_log}
use Rattle.leveldb_mem.specs.Log.Writer.{AddsRecord, FailsToAdd, Flushes, IsWriterBroken, SameWriterAndSink, WriterState, broken_writer, frame}

-- ---- files that must be there

-- what an Ok says is said where the file is found
ok_found : {T : Type 0} (P : Type 0) (name : List ℕ) (answer result : Result T Status) → IsFoundOr name answer result → OnOk answer P → OnOk result P
ok_found P name answer (Ok value) found ok = subst (λ r. OnOk r P) (found_ok name answer value found) ok
ok_found P name answer (Err status) found ok = tt

-- and so what an Err says
err_found : {T : Type 0} (P : Type 0) (name : List ℕ) (answer result : Result T Status) → IsFoundOr name answer result → OnErr answer P → OnErr result P
err_found P name answer (Ok value) found err = tt
err_found P name (Ok value) (Err status) found err = absurd (cc found)
err_found P name (Err raw) (Err status) found err = err

lost_cause : {T : Type 0} {models_disk : Bool} (observed : Observed) {before now : ℕ} (path name : List ℕ) (answer result : Result T Status)
    → (IsTrue models_disk → name ≡ path) → IsFoundOr path answer result → HasCause (IsGone models_disk name observed) before now answer
    → HasCause (IsLost models_disk path observed before now) before now result
lost_cause {T} {models_disk} observed {before} {now} path name answer result named found cause =
    found_cause {Gone = IsTrue models_disk × (observed.disk.files name ≡ None)} {Kept = IsTrue models_disk → observed.disk.files path ≡ None} path answer result
    (λ gone modelled. subst (λ p. observed.disk.files p ≡ None) (named modelled) gone.1) found
    (cause_same answer
    (λ e excused. ⊎_elim (λ memory. inl memory) (λ gone. inr (gone.0, (gone.1, gone.2))) excused)
    (λ e excused. ⊎_elim (λ memory. inl memory) (λ gone. inr (gone.0, gone.1.0, gone.1.1)) excused)
    cause)

-- a broken writer's error is no missing file
found_broken : {T : Type 0} (name : List ℕ) (answer result : Result T Status) → IsErrAnd answer IsWriterBroken → IsFoundOr name answer result → result ≡ answer
found_broken name (Ok value) result broken found = absurd broken
found_broken name (Err status) result broken (inl other) = other.1
found_broken name (Err status) result broken (inr missing) = let never : IOError ≡ NotFound = sym broken.code ∙ missing.0 in absurd (cc never)

module _ {E F : Type 0} (env : Ghosts E F) (old : LogFileState) (from : E) where
  -- the log with another state of its writer
  abbrev with : WriterState → LogFileState
  with writer = record old { writer = writer }

  -- a broken log is the same with a broken writer
  broken_is : old.writer.broken ≡ true → old ≡ broken_log old
  broken_is is = ap (λ b. with (record old.writer { broken = b })) is

  -- ---- a call that changes nothing

  still : {T : Type 0} {change : Files → Files} {Passes : Files → Files → Type 0} (status : Status) → Passes (env.observed from).disk.files (env.observed from).disk.files
      → ChangesFiles {T = T} env.models_disk change Passes (env.observed from) (env.observed from) (Err status)
  still {Passes = Passes} status passes = record { ok = λ modelled. tt; now = λ modelled. passes; time = Within-refl (env.observed from) (Passes (env.observed from).disk.files) }

  still_cause : (status : Status) → IsFileLost env old from from status → HasCause {T = Unit {0}} (IsFileLost env old from from) (env.failures from) (env.failures from) (Err status)
  still_cause status lost = record { later = omega arith; ok = tt; uncounted = λ excused. refl; cause = inl lost }

  -- a call that the device was given
  device_cause : {to : E} (name : List ℕ) (answer result : Result (Unit {0}) Status) → old.writer.broken ≡ false → (IsTrue env.models_disk → name ≡ old.path)
      → IsFoundOr old.path answer result → HasCause (IsGone env.models_disk name (env.observed from)) (env.failures from) (env.failures to) answer
      → HasCause (IsFileLost env old from to) (env.failures from) (env.failures to) result
  device_cause {to} name answer result usable named found cause =
      cause_same result (λ e lost. inl lost)
      (λ e lost. ⊎_elim (λ same. same) (λ broken. let never : false ≡ true = sym usable ∙ broken.0 in absurd (cc never)) lost)
      (lost_cause (env.observed from) old.path name answer result named found cause)

  -- ---- syncs

  -- a broken log isn't synced
  not_synced : (status : Status) → old.writer.broken ≡ true → IsWriterBroken status → SyncsRecords env old from (Err status) old from
  not_synced status is why = record {
    does = λ modelled. still status (inl refl);
    undone = λ modelled. refl;
    locks = λ modelled. refl;
    path = refl;
    ok = tt;
    usable = tt;
    err = broken_is is;
    broken = λ broken. (refl, refl);
    cause = still_cause status (inr (is, why));
  }

  module _ (file : F) (named : IsTrue env.models_disk → env.name_of file ≡ old.path) where
    synced_by : {to : E} {after : F} {last : WriterState} (answer result : Result (Unit {0}) Status) → old.writer.broken ≡ false → Flushes (Syncs env) old.writer (opened from file) answer last (opened to after)
        → IsFoundOr old.path answer result → SyncsRecords env old from result (with last) to
    synced_by {to} {after} {last} answer result usable flushes found = record {
      does = λ modelled. ChangesFiles-found old.path answer result found
          (subst (λ p. ChangesFiles env.models_disk (synced p) (BeforeOrAfter (synced p)) (env.observed from) (env.observed to) answer) (named modelled) flushes.flushed.does);
      undone = err_found (IsTrue env.models_disk → (env.observed to).disk.files ≡ (env.observed from).disk.files) old.path answer result found flushes.flushed.undone;
      locks = flushes.flushed.locks;
      path = refl;
      ok = ok_found (with last ≡ old) old.path answer result found (same_of answer flushes.ok);
      usable = of_ok result usable;
      err = err_found (with last ≡ broken_log old) old.path answer result found (broken_of answer flushes.err);
      broken = λ broken. let never : false ≡ true = sym usable ∙ broken in absurd (cc never);
      cause = device_cause (env.name_of file) answer result usable named found flushes.flushed.cause;
    }
      where
        of_ok : (result : Result (Unit {0}) Status) → old.writer.broken ≡ false → OnOk result (old.writer.broken ≡ false)
        of_ok (Ok value) is = is
        of_ok (Err status) is = tt

        same_of : (answer : Result (Unit {0}) Status) → OnOk answer (last ≡ old.writer) → OnOk answer (with last ≡ old)
        same_of (Ok value) is = ap with is
        same_of (Err status) is = tt

        broken_of : (answer : Result (Unit {0}) Status) → OnErr answer (last ≡ broken_writer old.writer) → OnErr answer (with last ≡ broken_log old)
        broken_of (Ok value) is = tt
        broken_of (Err status) is = ap with is

    -- the file was synced, or the log is broken
    pub syncs_records : {to : E} {after : F} {last : WriterState} (answer result : Result (Unit {0}) Status)
        → (old.writer.broken ≡ false → Flushes (Syncs env) old.writer (opened from file) answer last (opened to after))
        → (old.writer.broken ≡ true → IsErrAnd answer IsWriterBroken × (last ≡ old.writer) × (to ≡ from) × (after ≡ file))
        → IsFoundOr old.path answer result → SyncsRecords env old from result (with last) to
    syncs_records {to} {after} {last} answer result usable broken found = by old.writer.broken refl
      where
        refused : (answer result : Result (Unit {0}) Status) → old.writer.broken ≡ true → IsErrAnd answer IsWriterBroken → result ≡ answer → SyncsRecords env old from result old from
        refused (Ok value) result is why same = absurd why
        refused (Err status) result is why same = subst (λ r. SyncsRecords env old from r old from) (sym same) (not_synced status is why)

        by : (b : Bool) → old.writer.broken ≡ b → SyncsRecords env old from result (with last) to
        by false is = synced_by answer result is (usable is) found
        by true is =
            let all = broken is in
            subst (λ w. SyncsRecords env old from result (with w) to) (sym all.1)
            (subst (λ e. SyncsRecords env old from result old e) (sym all.2) (refused answer result is all.0 (found_broken old.path answer result all.0 found)))

  -- ---- appends

  module _ (file : F) (named : IsTrue env.models_disk → env.name_of file ≡ old.path) (text : List ℕ) (some : text ≢ []) where
    abbrev bytes : List ℕ
    bytes = frame old.writer text

    -- nothing was done
    not_appended : (status : Status) → IsFileLost env old from from status → (IsOutOfMemory status × (old ≡ old) × (from ≡ from)) ⊎ (old ≡ broken_log old) → AppendsRecord env old from text (Err status) old from
    not_appended status lost stays = record {
      does = λ modelled. still status (inl refl);
      locks = λ modelled. refl;
      path = refl;
      ok = tt;
      usable = tt;
      err = stays;
      broken = λ is. (refl, refl);
      cause = still_cause status lost;
    }

    put_does : {to : E} {after : F} {answer : Result (Unit {0}) Status} → Appends env (opened from file) bytes answer (opened to after)
        → IsTrue env.models_disk → ChangesFiles env.models_disk (extended old.path bytes) (PrefixAppended old.path bytes) (env.observed from) (env.observed to) answer
    put_does {to} {answer = answer} appends modelled =
        subst (λ p. ChangesFiles env.models_disk (extended p bytes) (PrefixAppended p bytes) (env.observed from) (env.observed to) answer) (named modelled) appends.does

    -- the record is there
    appended_ok : {to : E} {after : F} {last : WriterState} (count : ℕ) → (old.writer.broken ≡ true → ⊥) → AddsRecord (Appends env) old.writer (opened from file) text count last (opened to after)
        → AppendsRecord env old from text (Ok tt) (with last) to
    appended_ok {to} {after} {last} count usable adds =
        let put = adds.put some in
        record {
          does = put_does put;
          locks = put.locks;
          path = refl;
          ok = ap with adds.writer;
          usable = unbroken old.writer.broken refl;
          err = tt;
          broken = λ broken. absurd (usable broken);
          cause = record { later = put.cause.later; ok = put.cause.ok; uncounted = tt; cause = tt };
        }
      where
        unbroken : (b : Bool) → old.writer.broken ≡ b → old.writer.broken ≡ false
        unbroken false is = is
        unbroken true is = absurd (usable is)

    failed_put : {to : E} {after : F} {last : WriterState} (raw status : Status) → old.writer.broken ≡ false → FailsToAdd (Appends env) old.writer (opened from file) text raw last (opened to after)
        → IsFoundOr {T = Unit {0}} old.path (Err raw) (Err status) → AppendsRecord env old from text (Err status) (with last) to
    failed_put {to} {after} {last} raw status usable fails found = ⊎_elim
        (λ (memory : IsOutOfMemory raw × SameWriterAndSink old.writer (opened from file) last (opened to after)).
        subst (λ w. AppendsRecord env old from text (Err status) (with w) to) (sym memory.1.same_writer)
        (subst (λ e. AppendsRecord env old from text (Err status) old e) (sym (ap (λ (o : Opened E F). o.env) memory.1.same_sink))
        (not_appended status (inl (inl (memory_found memory.0 found))) (inl (memory_found memory.0 found, refl, refl)))))
        (λ (failed : Appends env (opened from file) bytes (Err raw) (opened to after) × (last ≡ broken_writer old.writer)). record {
          does = λ modelled. ChangesFiles-found old.path (Err raw) (Err status) found (put_does failed.0 modelled);
          locks = failed.0.locks;
          path = refl;
          ok = tt;
          usable = tt;
          err = inr (ap with failed.1);
          broken = λ broken. let never : false ≡ true = sym usable ∙ broken in absurd (cc never);
          cause = device_cause (env.name_of file) (Err raw) (Err status) usable named found failed.0.cause;
        })
        fails.why
      where
        memory_found : IsOutOfMemory raw → IsFoundOr {T = Unit {0}} old.path (Err raw) (Err status) → IsOutOfMemory status
        memory_found memory (inl other) = subst (λ (r : Result (Unit {0}) Status). IfErr r IsOutOfMemory) (sym other.1) memory
        memory_found memory (inr missing) = let never : OutOfMemory ≡ NotFound = sym memory.0 ∙ missing.0 in absurd (cc never)

    -- the record is not there, or a part of it
    appended_err : {to : E} {after : F} {last : WriterState} (raw status : Status)
        → (old.writer.broken ≡ false → FailsToAdd (Appends env) old.writer (opened from file) text raw last (opened to after))
        → (old.writer.broken ≡ true → IsWriterBroken raw × (last ≡ old.writer) × (to ≡ from) × (after ≡ file))
        → IsFoundOr {T = Unit {0}} old.path (Err raw) (Err status) → AppendsRecord env old from text (Err status) (with last) to
    appended_err {to} {after} {last} raw status usable broken found = by old.writer.broken refl
      where
        same_status : IsWriterBroken raw → IsFoundOr {T = Unit {0}} old.path (Err raw) (Err status) → IsWriterBroken status
        same_status why (inl other) = subst (λ (r : Result (Unit {0}) Status). IfErr r IsWriterBroken) (sym other.1) why
        same_status why (inr missing) = let never : IOError ≡ NotFound = sym why.code ∙ missing.0 in absurd (cc never)

        by : (b : Bool) → old.writer.broken ≡ b → AppendsRecord env old from text (Err status) (with last) to
        by false is = failed_put raw status is (usable is) found
        by true is =
            let all = broken is in
            subst (λ w. AppendsRecord env old from text (Err status) (with w) to) (sym all.1)
            (subst (λ e. AppendsRecord env old from text (Err status) old e) (sym all.2)
            (not_appended status (inr (is, same_status all.0 found)) (inr (broken_is is))))

    found_unit : (raw status : Status) → IsFoundOr {T = ℕ} old.path (Err raw) (Err status) → IsFoundOr {T = Unit {0}} old.path (Err raw) (Err status)
    found_unit raw status (inl other) = let same : status ≡ raw = cc (other.1) in inl (other.0, ap Err same)
    found_unit raw status (inr missing) = inr missing

    -- the record was appended
    pub record_appended : {to : E} {after : F} {last : WriterState} (answer : Result ℕ Status) (count : ℕ)
        → IfOk answer (λ n. AddsRecord (Appends env) old.writer (opened from file) text n last (opened to after))
        → (old.writer.broken ≡ true → IsErrAnd answer IsWriterBroken × (last ≡ old.writer) × (to ≡ from) × (after ≡ file))
        → IsFoundOr old.path answer (Ok count) → AppendsRecord env old from text (Ok tt) (with last) to
    record_appended {to} {after} {last} answer count ok broken found =
        let is : answer ≡ Ok count = found_ok old.path answer count found in
        appended_ok count
        (λ why. subst (λ (r : Result ℕ Status). IsErrAnd r IsWriterBroken) is (broken why).0)
        (subst (λ (r : Result ℕ Status). IfOk r (λ n. AddsRecord (Appends env) old.writer (opened from file) text n last (opened to after))) is ok)

    -- or it was not
    pub record_refused : {to : E} {after : F} {last : WriterState} (answer : Result ℕ Status) (status : Status)
        → (old.writer.broken ≡ false → IfErr answer (λ raw. FailsToAdd (Appends env) old.writer (opened from file) text raw last (opened to after)))
        → (old.writer.broken ≡ true → IsErrAnd answer IsWriterBroken × (last ≡ old.writer) × (to ≡ from) × (after ≡ file))
        → IsFoundOr old.path answer (Err status) → AppendsRecord env old from text (Err status) (with last) to
    record_refused (Ok value) status err broken found = let never : Err status ≡ Ok value = found in absurd (cc never)
    record_refused (Err raw) status err broken found = appended_err raw status err broken (found_unit raw status found)
