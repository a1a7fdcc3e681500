-- Logs that are read to memory alone, one after another.
use Rattle.std.specs.Prelude.{◌↔◌, Contains, IsSome, IsTrue, if◌then◌else◌}
use Rattle.std.proofs.Common.{◌≡◌, ◌∙◌, ◌⊎◌, inl, inr, ⊎_elim, ◌<◌, ◌≤◌, ◌+◌, ◌*◌, ◌^◌, ℕ, Bool, true, false, List, [], ◌∷◌, ◌++◌, Option, None, Some, Ok, Err, Result, ap, append-nil, append_assoc, arith, length, map, refl, subst, sym}
use Rattle.std.proofs.lemmas.List.{map-append}
use Rattle.std.proofs.lemmas.List.Elements.{Contains-append_cases, Contains-append_left, Contains-append_right, Contains-push, Contains-push_cases}
use Rattle.leveldb_base.proofs.HistoryLemmas.{in_none}
use Rattle.leveldb_base.specs.Error.{IsOutOfMemory}
use Rattle.leveldb_base.specs.History.{AreUpTo, Entry, greatest}
use Rattle.leveldb_base.specs.declared.error.Status.{Status}
use Rattle.leveldb_base.specs.declared.error.StatusCode.TheVariants.{Corruption, NotSupported}
use Rattle.leveldb_env.proofs.EnvLemmas.{Run-trans, begun}
use Rattle.leveldb_env.specs.Env.{Files, FilesUnchanged, HasCause, Run, SameLocks, bytes_of}
use Rattle.leveldb_env.specs.WholeFiles.{IsLost}
use Rattle.leveldb_env.specs.declared.env.Env.{Ghosts}
use Rattle.leveldb_mem.specs.Log.{bad, clean}
use Rattle.leveldb_mem.specs.MemTable.{FailsToPrepare, bytes_in, memory_of_entries}
use Rattle.leveldb_mem.specs.WriteBatch.{Batch}
use Rattle.leveldb_files.proofs.Stores.LogsLemmas.{all_append, batches_parts, order_append}
use Rattle.leveldb_files.proofs.Histories.NumbersLemmas.{greatest_append, up_to_greatest}
use Rattle.leveldb_version_set.proofs.Sets.RecoverLemmas.{cause_of_error}
use Rattle.leveldb_files.specs.Stores.Batches.{AreInOrder, all_entries, batch_entries}
use Rattle.leveldb_files.specs.Stores.Paths.{log_path}
use Rattle.leveldb_files.specs.Stores.Store.{HasLog, ReplayedLog as StoreLog, log_batches, log_entries}
use Rattle.leveldb_store.specs.Logs.FoundLogs.{AreLogsTooLarge, IsBatchTooLarge, LogsBeginWith}
use Rattle.leveldb_store.specs.Logs.LogReplay.{FailsToReadBatch, HasReadBatches, IsLogToRead, IsNoLog, IsReadOutAs, LogReplayState, ReadsBatch}
use Rattle.leveldb_store.specs.Openings.OpeningSteps.{AreDamagedLogs, AreLogs}
use Rattle.leveldb_store.specs.Logs.ReadLogs.{AreInMemory, HasReadLogs, ReadsLog, ReadsLogs, WhyLogsUnread}
use Rattle.leveldb_store.specs.Logs.ReplayLog.{Follows, HasCauseOr, IsDamagedLog, TakesBatch}
use Rattle.leveldb_store.specs.declared.log_replay.NextBatch.{NextBatch}
use Rattle.leveldb_store.specs.declared.log_replay.NextBatch.TheVariants.{BadEnd, CleanEnd, More}
use Rattle.leveldb_store.specs.declared.opening.replay_log.ReplayedLog.{ReplayedLog}
use Rattle.leveldb_store.proofs.Logs.FoundLogsLemmas.{logs_before, logs_then}
use Rattle.leveldb_store.proofs.Logs.LogReplayLemmas.{has_begun, has_read_same}
use Rattle.leveldb_store.proofs.Logs.ReplayDamageLemmas.{BadEndsEnd-push, damaged_next, filled_after_bad_end}
use Rattle.leveldb_store.proofs.Logs.ReplayLogLemmas.{all_more, all_of_more, all_of_none}
use Rattle.leveldb_store.proofs.Logs.ReplayStoreLemmas.{no_log_damaged, unfollowed_damaged}

-- ---- what is in memory

module _ {C : Type 0} where
  -- no batch is there
  pub AreInMemory-none : (log : ReplayedLog C) → log.rest.kept.entries ≡ [] → log.rest.kept.places ≡ 0 → log.last ≡ 0 → AreInMemory [] log
  AreInMemory-none log none places last =
      let are = all_of_none log.rest.kept.entries none in
      record { in_order = tt; last_is = last; are = are.0; grows = are.1; places = places }

  -- one batch more
  pub AreInMemory-more : {batches : List Batch} {old new : ReplayedLog C} → AreInMemory batches old → (batch : Batch) → Follows old.last batch → TakesBatch old batch new
      → AreInMemory (batches ++ batch ∷ []) new
  AreInMemory-more {batches} {old} {new} was batch follows takes =
      let more = all_of_more batches old.rest.kept.entries new.rest.kept.entries batch was.are was.grows takes.gains takes.grows in
      record {
        in_order = order_append 0 old.last batches (batch ∷ []) (omega arith) (omega (arith, was.last_is)) was.in_order
            (follows.above, follows.first_fits, follows.all_fit, tt);
        last_is =
            let both = greatest_append (all_entries batches) (batch_entries batch) in
            let all = ap greatest (all_more batches batch) in
            omega (arith, takes.last, was.last_is, both, all);
        are = more.0;
        grows = more.1;
        places = takes.places was.places;
      }

  -- no entry is past the last number, with a batch more
  pub up_to_taken : (old : ReplayedLog C) (batch : Batch) (new : ReplayedLog C) → AreUpTo old.last old.rest.kept.entries → TakesBatch old batch new → AreUpTo new.last new.rest.kept.entries
  up_to_taken old batch new before takes entry c = ⊎_elim
      (λ (was : Contains old.rest.kept.entries entry). let least = before entry was in let last = takes.last in omega (arith, least, last))
      (λ (come : Contains (batch_entries batch) entry). let least = up_to_greatest (batch_entries batch) entry come in let last = takes.last in omega (arith, least, last))
      (Contains-append_cases old.rest.kept.entries (batch_entries batch) entry ((takes.gains entry).0 c))

  -- whether the logs end cleanly doesn't count
  in_memory_as_well : {batches : List Batch} {log : ReplayedLog C} (b : Bool) → AreInMemory batches log → AreInMemory batches (record log { is_clean = b })
  in_memory_as_well b was = record { in_order = was.in_order; last_is = was.last_is; are = was.are; grows = was.grows; places = was.places }

  -- the next batch is too large with those
  too_large : (batches : List Batch) (log : ReplayedLog C) (batch : Batch) (status : Status) → AreInMemory batches log
      → (status.code ≡ NotSupported) × (2 ^ 31 ≤ memory_of_entries log.rest.kept.entries + (64 * (log.rest.kept.places + length batch.items) + bytes_in batch.items))
      → IsBatchTooLarge (batches ++ batch ∷ []) status
  too_large batches log batch status was large = record {
    code = large.0;
    front = [];
    kept = batches;
    batch = batch;
    parts = refl;
    too_large = let grows = was.grows.memory in let none = was.places in let most = large.1 in omega (arith, grows, none, most);
  }

-- ---- one log

module _ {E F C : Type 0} (env : Ghosts E F) (store : List ℕ) (number : ℕ) (old : ReplayedLog C) (from : E) where
  abbrev files : Files
  files = (env.observed from).disk.files

  abbrev Unread : List ℕ → Status → Type 0
  Unread = WhyLogsUnread env.models_disk store files

  -- the batches that were read of the log are in memory, after those that were there
  pub record ReadingLog (log : ReplayedLog C) (read : LogReplayState) (at : E) : Type 0 where
    pub still : IsTrue env.models_disk → Run (FilesUnchanged files) (env.observed from) (env.observed at)
    pub locks : SameLocks env.models_disk (env.observed from) (env.observed at)
    pub counted : env.failures at ≡ env.failures from
    pub path_is : read.path ≡ log_path store number
    pub batches : List Batch
    pub has_read : HasReadBatches env.models_disk files read batches
    pub in_memory : (before : List Batch) → AreInMemory before old → AreInMemory (before ++ batches) log
    pub up_to : AreUpTo log.last log.rest.kept.entries
    pub clean_is : log.is_clean ≡ old.is_clean
    pub cmp_is : log.rest.cmp ≡ old.rest.cmp
    -- after a bad end it is empty
    pub empty : old.is_clean ≡ false → read.size ≡ 0

  -- an error after calls that change nothing
  failed : {to : E} (status : Status) (new : ReplayedLog C) → (IsTrue env.models_disk → Run (FilesUnchanged files) (env.observed from) (env.observed to))
      → SameLocks env.models_disk (env.observed from) (env.observed to)
      → ((numbers later : List ℕ) → HasReadLogs env.models_disk store files numbers old → HasCauseOr {T = Unit {0}} (Unread (numbers ++ number ∷ later)) (env.failures from) (env.failures to) (Err status))
      → ReadsLog env store number old from (Err status) new to
  failed status new still locks cause = record { still = still; locks = locks; cmp = tt; up_to = tt; ok = λ numbers was. tt; cause = cause }

  -- the log isn't opened
  pub ReadsLog-unopened : {T : Type 0} {to : E} (status : Status) → (IsTrue env.models_disk → Run (FilesUnchanged files) (env.observed from) (env.observed to))
      → SameLocks env.models_disk (env.observed from) (env.observed to)
      → HasCause {T = T} (IsLost env.models_disk (log_path store number) (env.observed from) (env.failures from) (env.failures to)) (env.failures from) (env.failures to) (Err status)
      → ReadsLog env store number old from (Err status) old to
  ReadsLog-unopened {to = to} status still locks cause = failed status old still locks (λ numbers later was. cause_of_error status
      (λ lost. ⊎_elim (λ memory. inl memory)
      (λ missing. inr (
        inr (inl (
          missing.0.code,
          λ modelled. damaged_next store files numbers was.logs (was.are_logs modelled) number later
              (λ log number_is has order. let never : Some has.0 ≡ None = sym has.1 ∙ ap (λ n. files (log_path store n)) number_is ∙ missing.1 modelled in cc),
        )),
        missing.2,
      )) lost)
      (λ why. ⊎_elim (λ memory. inl (inl memory)) (λ it. inr it.1) why) cause)

  -- a log before it ends badly, and it isn't empty
  pub ReadsLog-torn : {to : E} (read : LogReplayState) (status : Status) → (IsTrue env.models_disk → Run (FilesUnchanged files) (env.observed from) (env.observed to))
      → SameLocks env.models_disk (env.observed from) (env.observed to) → env.failures to ≡ env.failures from
      → IsLogToRead env.models_disk store number files read → old.is_clean ≡ false → 0 < read.size → status.code ≡ Corruption
      → ReadsLog env store number old from (Err status) old to
  ReadsLog-torn read status still locks same opens torn some code = failed status old still locks (λ numbers later was. record {
    later = omega (arith, same);
    ok = tt;
    uncounted = λ why. same;
    cause = inl (inr (
      inr (inl (
        code,
        λ modelled.
            let one = was.bad_is torn in
            filled_after_bad_end store files numbers was.logs (was.are_logs modelled) number later one.0 one.1 one.2 (λ log number_is has.
            let there = opens.none_read.file modelled in
            let same_file : Some has.0 ≡ Some there.0 = sym has.1 ∙ ap (λ n. files (log_path store n)) number_is ∙ ap files (sym opens.path_is) ∙ there.1 in
            let one_file : has.0 ≡ there.0 = cc in
            let size = has.2.size ∙ ap (λ f. length (bytes_of f)) one_file ∙ there.2.size in
            omega (arith, size, some)),
      )),
      same,
    ));
  })

  -- no batch is read yet
  pub ReadingLog-none : {at : E} (read : LogReplayState) → (IsTrue env.models_disk → Run (FilesUnchanged files) (env.observed from) (env.observed at))
      → SameLocks env.models_disk (env.observed from) (env.observed at) → env.failures at ≡ env.failures from
      → IsLogToRead env.models_disk store number files read → AreUpTo old.last old.rest.kept.entries → (old.is_clean ≡ false → read.size ≡ 0) → ReadingLog old read at
  ReadingLog-none read still locks counted opens up_to empty = record {
    still = still;
    locks = locks;
    counted = counted;
    path_is = opens.path_is;
    batches = [];
    has_read = opens.none_read;
    in_memory = λ before was. subst (λ bs. AreInMemory bs old) (sym (append-nil before)) was;
    up_to = up_to;
    clean_is = refl;
    cmp_is = refl;
    empty = empty;
  }

  module _ {log : ReplayedLog C} {read : LogReplayState} {at : E} (so_far : ReadingLog log read at) where
    -- there is no memory
    pub ReadsLog-out_of_memory : (status : Status) → IsOutOfMemory status → ReadsLog env store number old from (Err status) log at
    ReadsLog-out_of_memory status memory = failed status log so_far.still so_far.locks (λ numbers later was. record {
      later = omega (arith, so_far.counted);
      ok = tt;
      uncounted = λ why. so_far.counted;
      cause = inl (inl memory);
    })

    -- the files are as they were
    same : IsTrue env.models_disk → (env.observed at).disk.files read.path ≡ files read.path
    same modelled = ap (λ (f : Files). f read.path) (so_far.still modelled).has

    read_now : HasReadBatches env.models_disk (env.observed at).disk.files read so_far.batches
    read_now = has_read_same env.models_disk files (env.observed at).disk.files read so_far.batches same so_far.has_read

    module _ {result : Result NextBatch Status} {batch : Batch} {next : LogReplayState} {to : E} (reads : ReadsBatch env read at result batch next to) where
      still_read : IsTrue env.models_disk → Run (FilesUnchanged files) (env.observed from) (env.observed to)
      still_read modelled = let first = so_far.still modelled in Run-trans first (λ now is. is ∙ first.has) (reads.run modelled)

      locks_read : SameLocks env.models_disk (env.observed from) (env.observed to)
      locks_read modelled = reads.locks modelled ∙ so_far.locks modelled

    -- reading stops
    pub ReadsLog-stopped : (status : Status) {batch : Batch} {next : LogReplayState} {to : E} → ReadsBatch env read at (Err status) batch next to → ReadsLog env store number old from (Err status) log to
    ReadsLog-stopped status {to = to} reads = failed status log (still_read reads) (locks_read reads) (λ numbers later was. cause_of_error status (why numbers later was) (uncounted numbers later)
        (subst (λ count. HasCause {T = NextBatch} (FailsToReadBatch env.models_disk read.path (env.observed at) count (env.failures to)) count (env.failures to) (Err status))
        so_far.counted (reads.cause so_far.batches read_now)))
      where
        Fails : Type 0
        Fails = FailsToReadBatch env.models_disk read.path (env.observed at) (env.failures from) (env.failures to) status

        why : (numbers later : List ℕ) → HasReadLogs env.models_disk store files numbers old → Fails
            → IsOutOfMemory status ⊎ (Unread (numbers ++ number ∷ later) status × (env.failures to ≡ env.failures from))
        why numbers later was (inl (inl memory)) = inl memory
        why numbers later was (inl (inr missing)) = inr (
          inr (inl (
            missing.0.code,
            λ modelled. damaged_next store files numbers was.logs (was.are_logs modelled) number later
                (λ log number_is has order.
                let never : Some has.0 ≡ None = sym has.1 ∙ ap (λ n. files (log_path store n)) number_is ∙ ap files (sym so_far.path_is) ∙ sym (same modelled) ∙ missing.1 modelled in cc),
          )),
          missing.2,
        )
        why numbers later was (inr (inl torn, counted)) = inr (
          inr (inl (
            torn.0,
            λ modelled. damaged_next store files numbers was.logs (was.are_logs modelled) number later
                (no_log_damaged store files number (greatest (log_entries was.logs)) read.path so_far.path_is (subst (λ file. IsNoLog file) (same modelled) (torn.1 modelled))),
          )),
          counted,
        )
        why numbers later was (inr (inr huge, counted)) = inr (inr (inr huge), counted)

        uncounted : (numbers later : List ℕ) → IsOutOfMemory status ⊎ (Unread (numbers ++ number ∷ later) status × (env.failures to ≡ env.failures from)) → Fails ⊎ (env.failures to ≡ env.failures from)
        uncounted numbers later (inl memory) = inl (inl (inl memory))
        uncounted numbers later (inr other) = inr other.1

    -- a batch is read
    module _ {batch : Batch} {next : LogReplayState} {to : E} (reads : ReadsBatch env read at (Ok More) batch next to) where
      read_more : HasReadBatches env.models_disk files next (so_far.batches ++ batch ∷ [])
      read_more = has_read_same env.models_disk (env.observed at).disk.files files next (so_far.batches ++ batch ∷ [])
          (λ modelled. ap (λ (f : Files). f next.path) (sym (so_far.still modelled).has)) (reads.finds so_far.batches read_now)

      path_more : next.path ≡ log_path store number
      path_more = ap (λ (r : LogReplayState). r.path) reads.same ∙ so_far.path_is

      counted_more : env.failures to ≡ env.failures from
      counted_more = (reads.cause so_far.batches read_now).ok ∙ so_far.counted

      pub fewer_to_read : next.left < read.left
      fewer_to_read = reads.fewer refl

      -- and taken
      pub ReadingLog-more : {new : ReplayedLog C} → Follows log.last batch → TakesBatch log batch new → ReadingLog new next to
      ReadingLog-more {new} follows takes = record {
        still = still_read reads;
        locks = locks_read reads;
        counted = counted_more;
        path_is = path_more;
        batches = so_far.batches ++ batch ∷ [];
        has_read = read_more;
        in_memory = λ before was. subst (λ bs. AreInMemory bs new) (append_assoc before so_far.batches (batch ∷ [])) (AreInMemory-more (so_far.in_memory before was) batch follows takes);
        up_to = up_to_taken log batch new so_far.up_to takes;
        clean_is = ap (λ (l : ReplayedLog C). l.is_clean) takes.rest ∙ so_far.clean_is;
        cmp_is = takes.cmp ∙ so_far.cmp_is;
        empty = λ torn. ap (λ (r : LogReplayState). r.size) reads.same ∙ so_far.empty torn;
      }

      -- it doesn't follow
      pub ReadsLog-unfollowed : (status : Status) → status.code ≡ Corruption → (Follows log.last batch → ⊥) → ReadsLog env store number old from (Err status) log to
      ReadsLog-unfollowed status code never = failed status log (still_read reads) (locks_read reads) (λ numbers later was. record {
        later = omega (arith, counted_more);
        ok = tt;
        uncounted = λ why. counted_more;
        cause = inl (inr (
          inr (inl (
            code,
            λ modelled.
                let before = log_batches was.logs in
                let last = (so_far.in_memory before was.in_memory).last_is in
                let all = ap greatest (all_append before so_far.batches) in
                let both = greatest_append (all_entries before) (all_entries so_far.batches) in
                damaged_next store files numbers was.logs (was.are_logs modelled) number later
                (unfollowed_damaged store files number (greatest (log_entries was.logs)) log.last so_far.batches batch path_more (omega (arith, last, all, both)) read_more modelled never),
          )),
          counted_more,
        ));
      })

      -- or is too large
      pub ReadsLog-untaken : (status : Status) (new : ReplayedLog C) → FailsToPrepare log.rest.kept (length batch.items) (bytes_in batch.items) status → ReadsLog env store number old from (Err status) new to
      ReadsLog-untaken status new (inr memory) = failed status new (still_read reads) (locks_read reads) (λ numbers later was. record {
        later = omega (arith, counted_more);
        ok = tt;
        uncounted = λ why. counted_more;
        cause = inl (inl memory);
      })
      ReadsLog-untaken status new (inl large) = failed status new (still_read reads) (locks_read reads) (λ numbers later was. record {
        later = omega (arith, counted_more);
        ok = tt;
        uncounted = λ why. counted_more;
        cause = inl (inr (inl (large_with numbers later was), counted_more));
      })
        where
          large_with : (numbers later : List ℕ) → HasReadLogs env.models_disk store files numbers old → AreLogsTooLarge env.models_disk store files (numbers ++ number ∷ later) status
          large_with numbers later was =
              let before = log_batches was.logs in
              record {
                batches = before ++ (so_far.batches ++ batch ∷ []);
                begin = λ modelled. subst (λ ns. LogsBeginWith store files ns (before ++ (so_far.batches ++ batch ∷ []))) (append_assoc numbers (number ∷ []) later)
                    (logs_before store files (numbers ++ number ∷ []) later (before ++ (so_far.batches ++ batch ∷ []))
                    (logs_then store files numbers before (was.begin modelled) number (so_far.batches ++ batch ∷ []) (has_begun store number files path_more read_more modelled)));
                too_large = subst (λ bs. IsBatchTooLarge bs status) (append_assoc before so_far.batches (batch ∷ []))
                    (too_large (before ++ so_far.batches) log batch status (so_far.in_memory before was.in_memory) large);
              }

    -- ---- the end

    module _ (is_clean : Bool) {found : NextBatch} {batch : Batch} {next : LogReplayState} {to : E} (reads : ReadsBatch env read at (Ok found) batch next to)
        (ends : IsReadOutAs env.models_disk (env.observed at).disk.files read so_far.batches (if is_clean then clean else bad)) (new : ReplayedLog C) where
      abbrev whole : StoreLog
      whole = record { number = number; batches = so_far.batches; end = if is_clean then clean else bad; size = read.size }

      whole_log : IsTrue env.models_disk → HasLog store files whole
      whole_log modelled = let is = ends modelled in (
        is.0,
        ap files (sym so_far.path_is) ∙ sym (same modelled) ∙ is.1,
        record { records = is.2.records; read = is.2.read; each = is.2.each; size = is.2.size },
      )

      module _ (numbers : List ℕ) (was : HasReadLogs env.models_disk store files numbers old) where
        abbrev logs : List StoreLog
        logs = was.logs ++ whole ∷ []

        batches_are : log_batches logs ≡ log_batches was.logs ++ so_far.batches
        batches_are = batches_parts was.logs (whole ∷ []) ∙ ap (λ bs. log_batches was.logs ++ bs) (append-nil so_far.batches)

        -- where one of them ends badly, that is known
        is_empty : (one : StoreLog) → Contains was.logs one → one.end ≡ bad → whole.size ≡ 0
        is_empty one there is_bad = by old.is_clean refl
          where
            by : (b : Bool) → old.is_clean ≡ b → whole.size ≡ 0
            by true is = absurd (let never : bad ≡ clean = sym is_bad ∙ was.clean_is is one there in cc)
            by false is = so_far.empty is

        one_more : AreInMemory (log_batches was.logs ++ so_far.batches) new
            → (new.is_clean ≡ true → (old.is_clean ≡ true) × (is_clean ≡ true)) → (new.is_clean ≡ false → (old.is_clean ≡ false) ⊎ (is_clean ≡ false))
            → HasReadLogs env.models_disk store files (numbers ++ number ∷ []) new
        one_more in_memory all_clean one_bad = record {
          logs = logs;
          in_memory = now_in_memory;
          are_logs = λ modelled. let are = was.are_logs modelled in record {
            numbers_are = map-append (λ (log : StoreLog). log.number) was.logs (whole ∷ []) ∙ ap (λ ns. ns ++ number ∷ []) are.numbers_are;
            each = λ log c. ⊎_elim (λ (there : Contains was.logs log). are.each log there) (λ (last : whole ≡ log). subst (HasLog store files) last (whole_log modelled))
                (Contains-push_cases was.logs whole log c);
            in_order = now_in_memory.in_order;
            ends = BadEndsEnd-push was.logs whole are.ends is_empty;
          };
          begin = λ modelled. subst (LogsBeginWith store files (numbers ++ number ∷ [])) (sym batches_are)
              (logs_then store files numbers (log_batches was.logs) (was.begin modelled) number so_far.batches (has_begun store number files so_far.path_is so_far.has_read modelled));
          clean_is = λ is log c. ⊎_elim (λ (there : Contains was.logs log). was.clean_is (all_clean is).0 log there)
              (λ (last : whole ≡ log). ap (λ (l : StoreLog). l.end) (sym last) ∙ ap (λ b. if b then clean else bad) (all_clean is).1) (Contains-push_cases was.logs whole log c);
          bad_is = λ is. ⊎_elim
              (λ (before : old.is_clean ≡ false). let one = was.bad_is before in (one.0, Contains-append_left was.logs (whole ∷ []) one.0 one.1, one.2))
              (λ (here : is_clean ≡ false). (whole, Contains-push was.logs whole, ap (λ b. if b then clean else bad) here)) (one_bad is);
        }
          where
            now_in_memory : AreInMemory (log_batches logs) new
            now_in_memory = subst (λ bs. AreInMemory bs new) (sym batches_are) in_memory

      counted_then : env.failures to ≡ env.failures from
      counted_then = (reads.cause so_far.batches read_now).ok ∙ so_far.counted

      ended : new.rest.cmp ≡ log.rest.cmp → AreUpTo new.last new.rest.kept.entries
          → ((numbers : List ℕ) → HasReadLogs env.models_disk store files numbers old → HasReadLogs env.models_disk store files (numbers ++ number ∷ []) new)
          → ReadsLog env store number old from (Ok tt) new to
      ended cmp up_to more = record {
        still = still_read reads;
        locks = locks_read reads;
        cmp = cmp ∙ so_far.cmp_is;
        up_to = up_to;
        ok = more;
        cause = λ numbers later was. record { later = omega (arith, counted_then); ok = counted_then; uncounted = tt; cause = tt };
      }

    pub ReadsLog-clean : {batch : Batch} {next : LogReplayState} {to : E} → ReadsBatch env read at (Ok CleanEnd) batch next to → ReadsLog env store number old from (Ok tt) log to
    ReadsLog-clean reads = ended true reads (reads.finds so_far.batches read_now) log refl so_far.up_to
        (λ numbers was. one_more true reads (reads.finds so_far.batches read_now) log numbers was (so_far.in_memory (log_batches was.logs) was.in_memory)
        (λ is. (sym so_far.clean_is ∙ is, refl)) (λ is. inl (sym so_far.clean_is ∙ is)))

    pub ReadsLog-bad : {batch : Batch} {next : LogReplayState} {to : E} → ReadsBatch env read at (Ok BadEnd) batch next to → ReadsLog env store number old from (Ok tt) (record log { is_clean = false }) to
    ReadsLog-bad reads = ended false reads (reads.finds so_far.batches read_now) (record log { is_clean = false }) refl so_far.up_to
        (λ numbers was. one_more false reads (reads.finds so_far.batches read_now) (record log { is_clean = false }) numbers was
        (in_memory_as_well false (so_far.in_memory (log_batches was.logs) was.in_memory))
        (λ is. absurd (let never : false ≡ true = is in cc)) (λ is. inr refl))

-- ---- all logs

-- where the first of numbers is asked for and none is there, there are none
pub none_left : (numbers : List ℕ) (found : Option ℕ) → found ≡ None → (IsSome found ↔ (0 < length numbers)) → numbers ≡ []
none_left [] found none variant = refl
none_left (number ∷ numbers) found none variant = absurd (let never : false ≡ true = subst (λ (o : Option ℕ). IsSome o) none (variant.1 (omega arith)) in cc)

module _ {E F C : Type 0} (env : Ghosts E F) (store : List ℕ) (cmp : C) (numbers : List ℕ) (from : E) where
  -- the first of these logs are in memory, and these are left
  pub record ReadingLogs (rest : List ℕ) (log : ReplayedLog C) (at : E) : Type 0 where
    pub front : List ℕ
    pub numbers_are : front ++ rest ≡ numbers
    pub still : IsTrue env.models_disk → Run (FilesUnchanged (env.observed from).disk.files) (env.observed from) (env.observed at)
    pub locks : SameLocks env.models_disk (env.observed from) (env.observed at)
    pub counted : env.failures at ≡ env.failures from
    pub has_read : HasReadLogs env.models_disk store (env.observed from).disk.files front log
    pub up_to : AreUpTo log.last log.rest.kept.entries
    pub cmp_is : log.rest.cmp ≡ cmp

  -- none is read yet
  pub ReadingLogs-none : (log : ReplayedLog C) → log.rest.kept.entries ≡ [] → log.rest.kept.places ≡ 0 → log.last ≡ 0 → log.is_clean ≡ true → log.rest.cmp ≡ cmp → ReadingLogs numbers log from
  ReadingLogs-none log none places last is_clean cmp_is = record {
    front = [];
    numbers_are = refl;
    still = λ modelled. begun (env.observed from) refl;
    locks = λ modelled. refl;
    counted = refl;
    has_read = record {
      logs = [];
      in_memory = AreInMemory-none log none places last;
      are_logs = λ modelled. record { numbers_are = refl; each = λ one c. absurd (in_none one c); in_order = tt; ends = λ front one later parts. absurd (no_part front one later parts) };
      begin = λ modelled. refl;
      clean_is = λ is one c. absurd (in_none one c);
      bad_is = λ is. absurd (let never : true ≡ false = sym is_clean ∙ is in cc);
    };
    up_to = λ entry c. absurd (in_none entry (subst (λ es. Contains es entry) none c));
    cmp_is = cmp_is;
  }
    where
      no_part : {X : Type 0} (front : List X) (one : X) (later : List X) → [] ≡ front ++ one ∷ later → ⊥
      no_part [] one later e = cc
      no_part (x ∷ front) one later e = cc

  module _ {number : ℕ} {rest : List ℕ} {log : ReplayedLog C} {at : E} (so_far : ReadingLogs (number ∷ rest) log at)
      {result : Result (Unit {0}) Status} {new : ReplayedLog C} {to : E} (reads : ReadsLog env store number log at result new to) where
    was_then : HasReadLogs env.models_disk store (env.observed at).disk.files so_far.front log
    was_then = by so_far.has_read
      where
        by : HasReadLogs env.models_disk store (env.observed from).disk.files so_far.front log → HasReadLogs env.models_disk store (env.observed at).disk.files so_far.front log
        by was = record {
          logs = was.logs;
          in_memory = was.in_memory;
          are_logs = λ modelled. subst (λ f. AreLogs store f so_far.front was.logs) (sym (so_far.still modelled).has) (was.are_logs modelled);
          begin = λ modelled. subst (λ f. LogsBeginWith store f so_far.front (log_batches was.logs)) (sym (so_far.still modelled).has) (was.begin modelled);
          clean_is = was.clean_is;
          bad_is = was.bad_is;
        }

    still_then : IsTrue env.models_disk → Run (FilesUnchanged (env.observed from).disk.files) (env.observed from) (env.observed to)
    still_then modelled = let first = so_far.still modelled in Run-trans first (λ now is. is ∙ first.has) (reads.still modelled)

    locks_then : SameLocks env.models_disk (env.observed from) (env.observed to)
    locks_then modelled = reads.locks modelled ∙ so_far.locks modelled

  -- one more is read
  read_next : {number : ℕ} {rest : List ℕ} {log : ReplayedLog C} {at : E} (so_far : ReadingLogs (number ∷ rest) log at) (new : ReplayedLog C) (to : E)
      → ReadsLog env store number log at (Ok tt) new to → ReadingLogs rest new to
  read_next {number} {rest} {log} {at} so_far new to reads = record {
    front = front;
    numbers_are = append_assoc so_far.front (number ∷ []) rest ∙ so_far.numbers_are;
    still = still_then so_far reads;
    locks = locks_then so_far reads;
    counted = (reads.cause so_far.front [] (was_then so_far reads)).ok ∙ so_far.counted;
    has_read = back (reads.ok so_far.front (was_then so_far reads));
    up_to = reads.up_to;
    cmp_is = reads.cmp ∙ so_far.cmp_is;
  }
    where
      front : List ℕ
      front = so_far.front ++ number ∷ []

      back : HasReadLogs env.models_disk store (env.observed at).disk.files front new → HasReadLogs env.models_disk store (env.observed from).disk.files front new
      back is = record {
        logs = is.logs;
        in_memory = is.in_memory;
        are_logs = λ modelled. subst (λ f. AreLogs store f front is.logs) (so_far.still modelled).has (is.are_logs modelled);
        begin = λ modelled. subst (λ f. LogsBeginWith store f front (log_batches is.logs)) (so_far.still modelled).has (is.begin modelled);
        clean_is = is.clean_is;
        bad_is = is.bad_is;
      }

  pub ReadingLogs-more : {left : List ℕ} {log : ReplayedLog C} {at : E} → ReadingLogs left log at → (number : ℕ) (rest : List ℕ) → left ≡ number ∷ rest → (new : ReplayedLog C) (to : E)
      → ReadsLog env store number log at (Ok tt) new to → ReadingLogs rest new to
  ReadingLogs-more {left} {log} {at} reading number rest first new to reads = read_next (subst (λ ns. ReadingLogs ns log at) first reading) new to reads

  -- one isn't
  stopped_next : {number : ℕ} {rest : List ℕ} {log : ReplayedLog C} {at : E} (so_far : ReadingLogs (number ∷ rest) log at) (status : Status) (new : ReplayedLog C) (to : E)
      → ReadsLog env store number log at (Err status) new to → ReadsLogs env store cmp numbers from (Err status) to
  stopped_next {number} {rest} {log} {at} so_far status new to reads = record {
    still = still_then so_far reads;
    locks = locks_then so_far reads;
    cmp_is = tt;
    ok = tt;
    cause = cause_of_error status (λ why. ⊎_elim (λ memory. inl memory) (λ it. inr (as_first status it.0, it.1)) why) (λ why. ⊎_elim (λ memory. inl (inl memory)) (λ it. inr it.1) why)
        (subst (λ count. HasCauseOr {T = Unit {0}} (WhyLogsUnread env.models_disk store (env.observed at).disk.files all) count (env.failures to) (Err status)) so_far.counted
        (reads.cause so_far.front rest (was_then so_far reads)));
  }
    where
      all : List ℕ
      all = so_far.front ++ number ∷ rest

      as_first : (e : Status) → WhyLogsUnread env.models_disk store (env.observed at).disk.files all e → WhyLogsUnread env.models_disk store (env.observed from).disk.files numbers e
      as_first e (inl large) = inl (record {
        batches = large.batches;
        begin = λ modelled. subst (λ ns. LogsBeginWith store (env.observed from).disk.files ns large.batches) so_far.numbers_are
            (subst (λ f. LogsBeginWith store f all large.batches) (so_far.still modelled).has (large.begin modelled));
        too_large = large.too_large;
      })
      as_first e (inr (inl torn)) = inr (inl (
        torn.0,
        λ modelled. subst (AreDamagedLogs store (env.observed from).disk.files) so_far.numbers_are
            (subst (λ f. AreDamagedLogs store f all) (so_far.still modelled).has (torn.1 modelled)),
      ))
      as_first e (inr (inr huge)) = inr (inr huge)

  pub ReadsLogs-stopped : {left : List ℕ} {log : ReplayedLog C} {at : E} → ReadingLogs left log at → (number : ℕ) (rest : List ℕ) → left ≡ number ∷ rest → (status : Status) (new : ReplayedLog C) (to : E)
      → ReadsLog env store number log at (Err status) new to → ReadsLogs env store cmp numbers from (Err status) to
  ReadsLogs-stopped {left} {log} {at} reading number rest first status new to reads = stopped_next (subst (λ ns. ReadingLogs ns log at) first reading) status new to reads

  -- all are
  pub ReadsLogs-done : {left : List ℕ} {log : ReplayedLog C} {at : E} → ReadingLogs left log at → left ≡ [] → ReadsLogs env store cmp numbers from (Ok log) at
  ReadsLogs-done {log = log} so_far none = record {
    still = so_far.still;
    locks = so_far.locks;
    cmp_is = so_far.cmp_is;
    ok = subst (λ ns. HasReadLogs env.models_disk store (env.observed from).disk.files ns log)
        (sym (append-nil so_far.front) ∙ ap (λ rest. so_far.front ++ rest) (sym none) ∙ so_far.numbers_are) so_far.has_read;
    cause = record { later = omega (arith, so_far.counted); ok = so_far.counted; uncounted = tt; cause = tt };
  }
