-- A log that is read as far as it is found.
use Rattle.std.specs.Prelude.{◌↔◌, All, Contains, IfErr, IfOk, IsTrue}
use Rattle.std.proofs.Common.{◌≡◌, ◌∙◌, inl, inr, ⊎_elim, ℕ, Bool, false, true, List, [], ◌∷◌, ◌++◌, Ok, Err, Result, ap, append-nil, append_assoc, arith, drop, refl, subst, sym}
use Rattle.std.proofs.lemmas.List.Elements.{All-contains, All-nil, All-push}
use Rattle.leveldb_base.proofs.HistoryLemmas.{in_front, in_rest}
use Rattle.leveldb_base.specs.Error.{IsOutOfMemory}
use Rattle.leveldb_base.specs.declared.error.Status.{Status}
use Rattle.leveldb_base.specs.declared.error.StatusCode.TheVariants.{Corruption}
use Rattle.leveldb_env.proofs.EnvFileLemmas.{IsFurther-given}
use Rattle.leveldb_env.specs.Env.{Files, bytes_of}
use Rattle.leveldb_env.specs.EnvFile.{IsFurther, Reads, opened}
use Rattle.leveldb_env.specs.WholeFiles.{IsFoundOr}
use Rattle.leveldb_env.specs.declared.env.Env.{Ghosts}
use Rattle.leveldb_mem.proofs.LawsLemmas.{each_reads, logs_append, usual_size}
use Rattle.leveldb_mem.specs.Log.{End, IsLogFile, bad, clean, log_block_size, offset_after}
use Rattle.leveldb_mem.specs.Log.Reader.{FindsRecord, ReaderState, StopsReading}
use Rattle.leveldb_mem.specs.WriteBatch.{Batch}
use Rattle.leveldb_mem.specs.WriteBatchLaws.{BatchOf-one}
use Rattle.leveldb_mem.specs.declared.log.reader.Found.{Found}
use Rattle.leveldb_files.specs.Stores.Batches.{Each, IsRecordOf}
use Rattle.leveldb_version_set.specs.Repairs.Found.{IsFoundLog, IsNumberedBatch}
use Rattle.leveldb_files.specs.Stores.Paths.{log_path}
use Rattle.leveldb_store.specs.Logs.LogReplay.{HasReadBatches, IsLogToRead, IsReadOutAs, LogReplayState, ReadsBatch}
use Rattle.leveldb_store.specs.Logs.NextFound.{AreAllFound, BeginsAt, FailsToFindBatch, FindsAfter, FindsNextBatch, HasEntryNumbers, HasFoundBatches, IsFileToRead, TellsNumbered}
use Rattle.leveldb_store.specs.declared.log_replay.NextBatch.{NextBatch}
use Rattle.leveldb_store.specs.declared.log_replay.NextBatch.TheVariants.{BadEnd as ReadBadEnd, CleanEnd as ReadCleanEnd, More as ReadMore}
use Rattle.leveldb_store.specs.declared.log_replay.next_found.NextFound.{NextFound}
use Rattle.leveldb_store.specs.declared.log_replay.next_found.NextFound.TheVariants.{BadEnd, CleanEnd, More, NoBatch}
use Rattle.leveldb_store.proofs.Logs.LogReplayLemmas.{has_read_same, next_in_file, record_comes, some_left}
use Rattle.leveldb_store.proofs.Logs.ReadBatchLemmas.{refused_cause, stopped_still}

-- ---- a log that is opened

-- the log of a number is that in the file of its path
pub file_is_log : (models_disk : Bool) (store : List ℕ) (number : ℕ) (files : Files)
    (path : List ℕ) → path ≡ log_path store number → (result : Result LogReplayState Status)
    → IfOk result (IsFileToRead models_disk path number files)
    → IfOk result (IsLogToRead models_disk store number files)
file_is_log models_disk store number files path is (Ok log) opens = record {
  number_is = opens.number_is;
  path_is = opens.path_is ∙ is;
  none_read = opens.none_read;
}
file_is_log models_disk store number files path is (Err status) opens = tt

-- no batch is found yet
pub has_found_none : {models_disk : Bool} {files : Files} {log : LogReplayState}
    → HasReadBatches models_disk files log [] → HasFoundBatches models_disk files log []
has_found_none has = record { read = has; numbered = All-nil HasEntryNumbers }

-- where the log's file is the same, as much was found of it
pub has_found_same : (models_disk : Bool) (files others : Files) (log : LogReplayState)
    (batches : List Batch) → (IsTrue models_disk → others log.path ≡ files log.path)
    → HasFoundBatches models_disk files log batches
    → HasFoundBatches models_disk others log batches
has_found_same models_disk files others log batches same has = record {
  read = has_read_same models_disk files others log batches same has.read;
  numbered = has.numbered;
}

-- the file begins with the batches that were found
pub has_begun_at : {models_disk : Bool} {files : Files} {log : LogReplayState}
    {batches : List Batch} → HasReadBatches models_disk files log batches → IsTrue models_disk
    → BeginsAt (files log.path) batches
has_begun_at {log = log} has modelled = let was = has.file modelled in (
  was.0,
  was.1,
  record {
    records = has.records;
    front = has.front;
    rest = log.reader.unread ++ drop log.offset (bytes_of was.0);
    parts = was.2.parts;
    read = has.read;
    each = has.each;
  },
)

-- ---- numbers

numbered_by : (text : List ℕ) (batch : Batch) → IsRecordOf text batch → HasEntryNumbers batch
    → IsNumberedBatch text batch
numbered_by text batch is has = record {
  record_is = is;
  from_one = has.from_one;
  first_fits = has.first_fits;
  fits = has.fits;
}

pub has_numbers : (text : List ℕ) (batch : Batch) → IsNumberedBatch text batch
    → HasEntryNumbers batch
has_numbers text batch is = record {
  from_one = is.from_one;
  first_fits = is.first_fits;
  fits = is.fits;
}

-- by one test it is told whether a record is such a batch
pub tells_numbered : (text : List ℕ) (batch : Batch) (told : Bool) → IsRecordOf text batch
    → IsTrue told ↔ HasEntryNumbers batch → TellsNumbered text batch told
tells_numbered text batch true is both = numbered_by text batch is (both.0 refl)
tells_numbered text batch false is both = λ any other.
    let one = BatchOf-one text any.first batch.first any.items batch.items other.record_is is in
    let same : any ≡ batch = λ i. record { first = one.0 i; items = one.1 i } in
    let never : false ≡ true = both.1 (subst HasEntryNumbers same (has_numbers text any other)) in
    cc

-- records of batches with such numbers
each_numbered : (records : List (List ℕ)) (batches : List Batch) → Each IsRecordOf records batches
    → ((batch : Batch) → Contains batches batch → HasEntryNumbers batch)
    → Each IsNumberedBatch records batches
each_numbered [] [] each has = tt
each_numbered [] (batch ∷ batches) each has = absurd each
each_numbered (text ∷ records) [] each has = absurd each
each_numbered (text ∷ records) (batch ∷ batches) each has = (
  numbered_by text batch each.0 (has batch (in_front batch batches)),
  each_numbered records batches each.1 (λ b c. has b (in_rest batch b batches c)),
)

all_numbered : (records : List (List ℕ)) (batches : List Batch) → Each IsRecordOf records batches
    → All HasEntryNumbers batches → Each IsNumberedBatch records batches
all_numbered records batches each numbered = each_numbered records batches each
    (λ batch c. All-contains HasEntryNumbers batches batch numbered c)

-- ---- the end

-- batches that are all of the log up to its end are all that is found of it
all_found : (models_disk : Bool) (files : Files) (log : LogReplayState) (batches : List Batch)
    (end : End) → IsReadOutAs models_disk files log batches end → All HasEntryNumbers batches
    → AreAllFound models_disk files log batches
all_found models_disk files log batches end out numbered modelled = let at = out modelled in (
  at.0,
  at.1,
  record {
    front = at.2.records;
    rest = [];
    end = end;
    read = subst (λ rs. IsLogFile (bytes_of at.0) rs end) (sym (append-nil at.2.records)) at.2.read;
    each = all_numbered at.2.records batches at.2.each numbered;
    stops = tt;
  },
)

-- bytes of records and then of one that is no such batch
found_up_to : (bytes front rest text : List ℕ) (records : List (List ℕ)) (batches : List Batch)
    → bytes ≡ front ++ rest → IsLogFile front (records ++ text ∷ []) clean
    → Each IsNumberedBatch records batches
    → ((batch : Batch) → IsNumberedBatch text batch → ⊥) → IsFoundLog bytes batches
found_up_to bytes front rest text records batches parts read each none =
    let offset = offset_after log_block_size 0 front in
    let after = each_reads true log_block_size offset rest usual_size in
    record {
      front = records;
      rest = text ∷ after.0;
      end = after.1;
      read = subst (λ bs. IsLogFile bs (records ++ text ∷ after.0) after.1) (sym parts)
          (subst (λ rs. IsLogFile (front ++ rest) rs after.1)
          (append_assoc records (text ∷ []) after.0)
          (logs_append true log_block_size 0 (records ++ text ∷ []) after.0 front rest after.1
          usual_size (omega arith) read after.2));
      each = each;
      stops = none;
    }

-- ---- calls

module _ {E F : Type 0} (env : Ghosts E F) (old : LogReplayState) (from : E) (batch : Batch)
    (new : LogReplayState) (to : E) where
  abbrev files : Files
  files = (env.observed from).disk.files

  -- what is read is what is found
  as_found : (found : NextFound) (read : NextBatch)
      → ReadsBatch env old from (Ok read) batch new to
      → ((batches : List Batch) → HasFoundBatches env.models_disk files old batches
      → FindsAfter env.models_disk files old batches found batch new)
      → (found ≡ More → read ≡ ReadMore)
      → FindsNextBatch env old from (Ok found) batch new to
  as_found found read reads finds more = record {
    run = reads.run;
    locks = reads.locks;
    same = reads.same;
    finds = finds;
    fewer = λ is. let here : found ≡ More = cc in reads.fewer (ap (λ r. Ok r) (more here));
    cause = λ batches has. let was = reads.cause batches has.read in
        record { later = was.later; ok = was.ok; uncounted = tt; cause = tt };
  }

  pub finds_clean : ReadsBatch env old from (Ok ReadCleanEnd) batch new to
      → FindsNextBatch env old from (Ok CleanEnd) batch new to
  finds_clean reads = as_found CleanEnd ReadCleanEnd reads
      (λ batches has. let out = reads.finds batches has.read in
      (all_found env.models_disk files old batches clean out has.numbered, out))
      (λ more. absurd (cc))

  pub finds_bad : ReadsBatch env old from (Ok ReadBadEnd) batch new to
      → FindsNextBatch env old from (Ok BadEnd) batch new to
  finds_bad reads = as_found BadEnd ReadBadEnd reads
      (λ batches has. let out = reads.finds batches has.read in
      (all_found env.models_disk files old batches bad out has.numbered, out))
      (λ more. absurd (cc))

  pub finds_more : HasEntryNumbers batch → ReadsBatch env old from (Ok ReadMore) batch new to
      → FindsNextBatch env old from (Ok More) batch new to
  finds_more numbered reads = as_found More ReadMore reads
      (λ batches has. record {
        read = reads.finds batches has.read;
        numbered = All-push HasEntryNumbers batches batch has.numbered numbered;
      })
      (λ more. refl)

module _ {E F : Type 0} (env : Ghosts E F) (number : ℕ) (path : List ℕ) (size left : ℕ) (from : E)
    (file : F) (core : ReaderState)
    (named : IsTrue env.models_disk → env.name_of file ≡ path) where
  abbrev log_at : ReaderState → F → LogReplayState
  log_at reader at = record {
    number = number;
    path = path;
    size = size;
    reader = reader;
    offset = env.offset_of at;
    left = left;
  }

  module _ (next : ReaderState) (to : E) (after : F) (batch : Batch) where
    abbrev before : LogReplayState
    before = log_at core file

    abbrev now : LogReplayState
    now = log_at next after

    abbrev FailsTo : Status → Type 0
    FailsTo = FailsToFindBatch env.models_disk path (env.observed from) (env.failures from)
        (env.failures to)

    module _ {text : List ℕ}
        (finds : FindsRecord (Reads env) core (opened from file) text next (opened to after)) where
      further : IsFurther env (opened from file) finds.come.given (opened to after)
      further = IsFurther-given env finds.come.reads

      counted : env.failures to ≡ env.failures from
      counted = further.counted

      -- an Err after a record
      finds_no_more : (status : Status) → ((batches : List Batch)
          → HasFoundBatches env.models_disk (env.observed from).disk.files before batches
          → FailsTo status) → FindsNextBatch env before from (Err status) batch now to
      finds_no_more status why = record {
        run = further.still;
        locks = further.locks;
        same = refl;
        finds = λ batches has. tt;
        fewer = λ more. absurd (cc);
        cause = λ batches has. record {
          later = omega (arith, counted);
          ok = tt;
          uncounted = λ excused. counted;
          cause = inl (why batches has);
        };
      }

      -- none may follow
      pub finds_past : (status : Status) → status.code ≡ Corruption → left ≡ 0
          → FindsNextBatch env before from (Err status) batch now to
      finds_past status code none = finds_no_more status (λ batches has. inr (
        inl code,
        λ modelled. let some = some_left has.read (Reads env) finds now refl refl refl
            (record_comes env refl named has.read finds) modelled in
            absurd (omega (arith, some, none)),
        counted,
      ))

      -- memory is out
      pub finds_no_memory : (status : Status) → IsOutOfMemory status
          → FindsNextBatch env before from (Err status) batch now to
      finds_no_memory status memory = finds_no_more status (λ batches has. inl (inl memory))

      -- it is no such batch
      pub finds_no_batch : ((any : Batch) → IsNumberedBatch text any → ⊥)
          → FindsNextBatch env before from (Ok NoBatch) batch now to
      finds_no_batch none = record {
        run = further.still;
        locks = further.locks;
        same = refl;
        finds = λ batches has modelled.
            let at = next_in_file has.read (Reads env) finds now refl refl refl
            (record_comes env refl named has.read finds) modelled in (
              at.0,
              at.1,
              found_up_to (bytes_of at.0) at.2 at.3 text has.read.records batches at.4 at.5
                  (all_numbered has.read.records batches has.read.each has.numbered) none,
            );
        fewer = λ more. absurd (cc);
        cause = λ batches has. record {
          later = omega (arith, counted);
          ok = counted;
          uncounted = tt;
          cause = tt;
        };
      }

    -- an error of a read
    pub finds_stopped : (answer : Result Found Status) (error : Status)
        → (core.failed ≡ false → IfErr answer (λ status.
        StopsReading (Reads env) (opened from file) status (opened to after)))
        → (core.failed ≡ true → (to ≡ from) × (after ≡ file))
        → IsFoundOr path answer (Err error)
        → FindsNextBatch env before from (Err error) batch now to
    finds_stopped answer error stops failed found =
        let still = stopped_still env number path size left from file core named next to after batch
        answer error stops failed found in
        record {
          run = still.0;
          locks = still.1;
          same = refl;
          finds = λ batches has. tt;
          fewer = λ more. absurd (cc);
          cause = λ batches has. refused_cause env number path size left from file core named next
              to after batch (λ s lost. inl lost) (λ s much. inr (inr much.0, much.1, much.2))
              (λ s why. ⊎_elim (λ lost. inl lost) (λ other. inr other.2) why) answer error stops
              found batches has.read;
        }
