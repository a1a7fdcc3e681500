-- What reading the next batch of a log returns and leaves, by what its reader found.
use Rattle.std.specs.Prelude.{◌<◌, IfErr, IfOk, IsTrue}
use Rattle.std.proofs.Common.{◌≡◌, ◌∙◌, ◌⊎◌, inl, inr, ⊎_elim, ℕ, ◌+◌, true, false, Bool, List, Result, Ok, Err, ap, arith, refl, subst, sym}
use Rattle.leveldb_base.specs.Error.{IsOutOfMemory}
use Rattle.leveldb_base.specs.declared.error.Status.{Status}
use Rattle.leveldb_base.specs.declared.error.StatusCode.TheVariants.{Corruption, NotFound, NotSupported}
use Rattle.leveldb_env.proofs.EnvFileLemmas.{IsFurther-given, IsGivenUp-given, IsReadOut-given}
use Rattle.leveldb_env.proofs.EnvLemmas.{begun}
use Rattle.leveldb_env.proofs.WholeFilesLemmas.{found_cause}
use Rattle.leveldb_env.specs.Env.{FilesUnchanged, HasCause, Run, SameLocks}
use Rattle.leveldb_env.specs.EnvFile.{IsFurther, Opened, Reads, opened}
use Rattle.leveldb_env.specs.WholeFiles.{IsFoundOr, IsLost}
use Rattle.leveldb_env.specs.declared.env.Env.{Ghosts}
use Rattle.leveldb_mem.specs.Log.Reader.{FindsEnd, FindsRecord, FindsWrongChecksum, HoldsOfRest, IsTorn, ReaderState, StopsReading, at_end, whatever_follows}
use Rattle.leveldb_mem.specs.WriteBatch.{Batch, IsBatch}
use Rattle.leveldb_mem.specs.declared.log.reader.Found.{Found}
use Rattle.leveldb_version_set.proofs.Sets.RecoverLemmas.{cause_of_error}
use Rattle.leveldb_files.specs.Stores.Batches.{IsRecordOf}
use Rattle.leveldb_store.specs.Logs.LogReplay.{FailsToReadBatch, FindsBatch, HasReadBatches, LogReplayState, ReadsBatch}
use Rattle.leveldb_store.specs.declared.log_replay.NextBatch.{NextBatch}
use Rattle.leveldb_store.specs.declared.log_replay.NextBatch.TheVariants.{BadEnd, CleanEnd, More}
use Rattle.leveldb_store.proofs.Logs.LogReplayLemmas.{has_read_more, never_too_much, no_log, read_out_clean, read_out_torn, read_out_wrong, record_comes, some_left}

-- what was found or not, with the error of a file that must be there
found_refused : {T U : Type 0} (name : List ℕ) (status error : Status)
    → IsFoundOr {T = T} name (Err status) (Err error)
    → IsFoundOr {T = U} name (Err status) (Err error)
found_refused name status error (inl other) =
    inl (other.0, ap (λ e. Err e) (let same : Err error ≡ Err status = other.1 in cc))
found_refused name status error (inr missing) = inr missing

-- which is the same one where no file is missing
found_code : {T : Type 0} (name : List ℕ) (status error : Status)
    → (status.code ≡ NotFound → ⊥) → IsFoundOr {T = T} name (Err status) (Err error)
    → error.code ≡ status.code
found_code name status error there (inl other) =
    let here : error ≡ status = (let same : Err error ≡ Err status = other.1 in cc) in
    ap (λ (e : Status). e.code) here
found_code name status error there (inr missing) = absurd (there missing.0)

module _ {E F : Type 0} (env : Ghosts E F) (number : ℕ) (path : List ℕ) (size left : ℕ) (from : E)
    (file : F) (core : ReaderState)
    (named : IsTrue env.models_disk → env.name_of file ≡ path) where
  abbrev log_at : ReaderState → F → ℕ → LogReplayState
  log_at reader at left = record {
    number = number;
    path = path;
    size = size;
    reader = reader;
    offset = env.offset_of at;
    left = left;
  }

  abbrev old : LogReplayState
  old = log_at core file left

  module _ (next : ReaderState) (to : E) (after : F) (batch : Batch) where
    abbrev until : Opened E F
    until = opened to after

    -- the files are as they were, and this is the cause of an Err
    reads_so : {bytes : List ℕ} → IsFurther env (opened from file) bytes until
        → (result : Result NextBatch Status) (new : LogReplayState)
        → new ≡ record old { reader = new.reader; offset = new.offset; left = new.left }
        → ((batches : List Batch)
        → HasReadBatches env.models_disk (env.observed from).disk.files old batches
        → IfOk result (λ found. FindsBatch env.models_disk (env.observed from).disk.files old
        batches found batch new))
        → (result ≡ Ok More → new.left < old.left)
        → ((batches : List Batch)
        → HasReadBatches env.models_disk (env.observed from).disk.files old batches
        → IfErr result (FailsToReadBatch env.models_disk old.path (env.observed from)
        (env.failures from) (env.failures to)))
        → ReadsBatch env old from result batch new to
    reads_so further result new same finds fewer why = record {
      run = further.still;
      locks = further.locks;
      same = same;
      finds = finds;
      fewer = fewer;
      cause = λ batches has. uncounted result (why batches has);
    }
      where
        uncounted : (result : Result NextBatch Status)
            → IfErr result (FailsToReadBatch env.models_disk old.path (env.observed from)
            (env.failures from) (env.failures to))
            → HasCause (FailsToReadBatch env.models_disk old.path (env.observed from)
            (env.failures from) (env.failures to)) (env.failures from) (env.failures to) result
        uncounted (Ok value) why = record {
          later = omega (arith, further.counted);
          ok = further.counted;
          uncounted = tt;
          cause = tt;
        }
        uncounted (Err status) why = record {
          later = omega (arith, further.counted);
          ok = tt;
          uncounted = λ excused. further.counted;
          cause = inl why;
        }

    -- the end between two records
    pub reads_clean : FindsEnd (Reads env) core (opened from file) next until
        → ReadsBatch env old from (Ok CleanEnd) batch (log_at next after left) to
    reads_clean finds = reads_so (IsReadOut-given env finds.come.reads).further (Ok CleanEnd)
        (log_at next after left) refl
        (λ batches has. read_out_clean env refl named has finds)
        (λ more. absurd (cc)) (λ batches has. tt)

    -- damage
    pub reads_torn : HoldsOfRest (Reads env) (IsTorn core.checked core.size core.offset) core.unread
        (opened from file) until
        → ReadsBatch env old from (Ok BadEnd) batch (log_at next after left) to
    reads_torn (at_end bytes come holds) =
        reads_so (IsReadOut-given env come.reads).further (Ok BadEnd)
        (log_at next after left) refl
        (λ batches has. read_out_torn env refl named has (at_end bytes come holds))
        (λ more. absurd (cc)) (λ batches has. tt)
    reads_torn (whatever_follows bytes come holds) =
        reads_so (IsFurther-given env come.reads) (Ok BadEnd)
        (log_at next after left) refl
        (λ batches has. read_out_torn env refl named has (whatever_follows bytes come holds))
        (λ more. absurd (cc)) (λ batches has. tt)

    -- a wrong checksum
    pub reads_wrong : FindsWrongChecksum (Reads env) core (opened from file) next until
        → ReadsBatch env old from (Ok BadEnd) batch (log_at next after left) to
    reads_wrong finds = reads_so (IsFurther-given env finds.come.reads) (Ok BadEnd)
        (log_at next after left) refl
        (λ batches has. read_out_wrong env refl named has finds)
        (λ more. absurd (cc)) (λ batches has. tt)

    -- ---- a record

    module _ {text : List ℕ} (finds : FindsRecord (Reads env) core (opened from file) text next until)
      where
        further : IsFurther env (opened from file) finds.come.given until
        further = IsFurther-given env finds.come.reads

        -- one batch more
        pub reads_more : (fewer : ℕ) → fewer + 1 ≡ left → IsRecordOf text batch
            → ReadsBatch env old from (Ok More) batch (log_at next after fewer) to
        reads_more fewer one is = reads_so further (Ok More) (log_at next after fewer) refl
            (λ batches has. has_read_more has (Reads env) finds (log_at next after fewer) refl refl
            refl (record_comes env refl named has finds) batch is one)
            (λ more. omega (arith, one)) (λ batches has. tt)

        -- none may follow
        pub reads_past : (status : Status) → status.code ≡ Corruption → left ≡ 0
            → ReadsBatch env old from (Err status) batch (log_at next after left) to
        reads_past status code none = reads_so further (Err status) (log_at next after left) refl
            (λ batches has. tt) (λ more. absurd (cc))
            (λ batches has. inr (
              inl (
                code,
                λ modelled. absurd (let some = some_left has (Reads env) finds
                    (log_at next after left) refl refl refl (record_comes env refl named has finds)
                    modelled in omega (arith, some, none)),
              ),
              further.counted,
            ))

        -- it is no batch
        pub reads_no_batch : (fewer : ℕ) (status : Status)
            → IsOutOfMemory status ⊎ ((status.code ≡ Corruption) × (IsBatch text → ⊥))
            → ReadsBatch env old from (Err status) batch (log_at next after fewer) to
        reads_no_batch fewer status why = reads_so further (Err status) (log_at next after fewer) refl
            (λ batches has. tt) (λ more. absurd (cc))
            (λ batches has. ⊎_elim (λ memory. inl (inl memory))
            (λ (never : (status.code ≡ Corruption) × (IsBatch text → ⊥)). inr (
              inl (
                never.0,
                λ modelled. no_log has (Reads env) finds (log_at next after fewer) refl refl refl
                    (record_comes env refl named has finds) modelled never.1,
              ),
              further.counted,
            )) why)

    -- ---- an error of a read

    abbrev Lost : Status → Type 0
    Lost = IsLost env.models_disk path (env.observed from) (env.failures from) (env.failures to)

    -- more is read than a file of a disk that is modelled has
    abbrev TooMuch : Status → Type 0
    TooMuch status = (status.code ≡ NotSupported) × (IsTrue env.models_disk → ⊥)
        × (env.failures to ≡ env.failures from)

    module _ {T : Type 0} {Fails : Status → Type 0} (lost : (s : Status) → Lost s → Fails s)
        (too_much : (s : Status) → TooMuch s → Fails s)
        (uncounted : (s : Status) → Fails s → Lost s ⊎ (env.failures to ≡ env.failures from)) where
      -- the cause of an error of a read, among others
      pub stopped_cause : (batches : List Batch)
          → HasReadBatches env.models_disk (env.observed from).disk.files old batches
          → (status error : Status)
          → StopsReading (Reads env) (opened from file) status until
          → IsFoundOr {T = Found} path (Err status) (Err error)
          → HasCause {T = T} Fails (env.failures from) (env.failures to) (Err error)
      stopped_cause batches has status error (inl up) found =
          cause_of_error error (lost error) (uncounted error)
          (found_cause path (Err status) (Err error)
          (λ gone modelled.
          ap (env.observed from).disk.files (sym (named modelled)) ∙ gone modelled)
          (found_refused path status error found) (IsGivenUp-given env up).cause)
      stopped_cause batches has status error (inr much) found =
          let further = IsFurther-given env much.given_before in
          record {
            later = omega (arith, further.counted);
            ok = tt;
            uncounted = λ excused. further.counted;
            cause = inl (too_much error (
              found_code path status error (λ code. absurd (cc (sym much.code ∙ code))) found
                  ∙ much.code,
              never_too_much env refl named has much.given_before much.many,
              further.counted,
            ));
          }

      -- whatever the reader was
      pub refused_cause : (answer : Result Found Status) (error : Status)
          → (core.failed ≡ false
          → IfErr answer (λ status. StopsReading (Reads env) (opened from file) status until))
          → IsFoundOr path answer (Err error) → (batches : List Batch)
          → HasReadBatches env.models_disk (env.observed from).disk.files old batches
          → HasCause {T = T} Fails (env.failures from) (env.failures to) (Err error)
      refused_cause (Ok value) error stops found batches has =
          absurd (let never : Err error ≡ Ok value = found in cc)
      refused_cause (Err status) error stops found batches has = stopped_cause batches has status
          error (stops (ap (λ (r : ReaderState). r.failed) has.reader)) found

    -- no file changes meanwhile, and no lock
    pub stopped_still : (answer : Result Found Status) (error : Status)
        → (core.failed ≡ false
        → IfErr answer (λ status. StopsReading (Reads env) (opened from file) status until))
        → (core.failed ≡ true → (to ≡ from) × (after ≡ file)) → IsFoundOr path answer (Err error)
        → (IsTrue env.models_disk
        → Run (FilesUnchanged (env.observed from).disk.files) (env.observed from)
        (env.observed to)) × SameLocks env.models_disk (env.observed from) (env.observed to)
    stopped_still (Ok value) error stops failed found =
        absurd (let never : Err error ≡ Ok value = found in cc)
    stopped_still (Err status) error stops failed found = by core.failed refl
      where
        Still : Type 0
        Still = (IsTrue env.models_disk
            → Run (FilesUnchanged (env.observed from).disk.files) (env.observed from)
            (env.observed to)) × SameLocks env.models_disk (env.observed from) (env.observed to)

        of_stop : StopsReading (Reads env) (opened from file) status until → Still
        of_stop (inl up) = let is = IsGivenUp-given env up in (is.still, is.locks)
        of_stop (inr much) = let is = IsFurther-given env much.given_before in (is.still, is.locks)

        by : (b : Bool) → core.failed ≡ b → Still
        by false is = of_stop (stops is)
        by true is = (
          λ modelled. subst (λ t. Run (FilesUnchanged (env.observed from).disk.files)
              (env.observed from) (env.observed t)) (sym (failed is).0)
              (begun (env.observed from) refl),
          λ modelled. ap (λ t. (env.observed t).disk.locked) (failed is).0,
        )

    pub reads_stopped : (answer : Result Found Status) (error : Status)
        → (core.failed ≡ false
        → IfErr answer (λ status. StopsReading (Reads env) (opened from file) status until))
        → (core.failed ≡ true → (to ≡ from) × (after ≡ file))
        → IsFoundOr path answer (Err error)
        → ReadsBatch env old from (Err error) batch (log_at next after left) to
    reads_stopped answer error stops failed found =
        let still = stopped_still answer error stops failed found in
        record {
          run = still.0;
          locks = still.1;
          same = refl;
          finds = λ batches has. tt;
          fewer = λ more. absurd (cc);
          cause = refused_cause (λ s lost. inl lost) (λ s much. inr (inr (much.0, much.1), much.2))
              (λ s why. ⊎_elim (λ lost. inl lost) (λ other. inr other.1) why) answer error stops
              found;
        }
