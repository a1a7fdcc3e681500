-- The replay of the log of a number: its batches are read and taken, one after another.
use Rattle.std.specs.Prelude.{◌≢◌, IsTrue, if◌then◌else◌, max}
use Rattle.std.proofs.Common.{◌≡◌, ◌∙◌, ◌⊎◌, inl, inr, ⊎_elim, ℕ, zero, suc, ◌+◌, ◌*◌, ◌^◌, ◌≤◌, ◌<◌, true, false, Bool, List, [], ◌∷◌, ◌++◌, None, Result, Ok, Err, ap, append_assoc, arith, length, refl, subst, sym}
use Rattle.leveldb_base.specs.Error.{IsOutOfMemory}
use Rattle.leveldb_base.specs.History.{AreUpTo, Item, greatest}
use Rattle.leveldb_base.specs.declared.cmp.Cmp.{Ghosts as CmpGhosts}
use Rattle.leveldb_base.specs.declared.error.Status.{Status}
use Rattle.leveldb_base.specs.declared.error.StatusCode.TheVariants.{Corruption, NotSupported}
use Rattle.leveldb_env.specs.Env.{Files, FilesUnchanged, HasCause, Run, SameLocks}
use Rattle.leveldb_env.specs.WholeFiles.{IsLost, IsMissingFile}
use Rattle.leveldb_env.specs.declared.env.Env.{Ghosts}
use Rattle.leveldb_env.specs.declared.filter.FilterPolicy.{Ghosts as FilterGhosts}
use Rattle.leveldb_mem.specs.Log.{bad, clean}
use Rattle.leveldb_mem.specs.MemTable.{bytes_in}
use Rattle.leveldb_mem.specs.WriteBatch.{Batch}
use Rattle.leveldb_files.proofs.Stores.LogsLemmas.{order_after}
use Rattle.leveldb_version_set.proofs.Sets.RecoverLemmas.{cause_of_error}
use Rattle.leveldb_files.specs.Stores.Batches.{AreInOrder, all_entries}
use Rattle.leveldb_files.specs.Stores.Paths.{log_path}
use Rattle.leveldb_files.specs.Stores.Store.{HasLog, ReplayedLog as StoreLog}
use Rattle.leveldb_version_set.specs.Sets.VersionSetValue.{VersionSetValue}
use Rattle.leveldb_store.specs.Tables.BuildTable.{TableChoices}
use Rattle.leveldb_files.specs.Stores.Format.{Format}
use Rattle.leveldb_store.specs.Logs.FoundLogs.{FailsToTable}
use Rattle.leveldb_store.specs.Logs.LogReplay.{FailsToReadBatch, HasReadBatches, IsLogToRead, IsNoLog, IsReadOutAs, LogReplayState, ReadsBatch}
use Rattle.leveldb_store.specs.Openings.Opening.{AreMadeTables}
use Rattle.leveldb_store.specs.Logs.ReplayLog.{FailsAtBatch, FailsToReplay, Follows, HasReplayed, IsDamagedLog, IsNotFull, MakesTablesOnly, ReplaysFile, TakesNextBatch}
use Rattle.leveldb_store.specs.Writing.Room.{AreFull}
use Rattle.leveldb_store.specs.declared.log_replay.NextBatch.{NextBatch}
use Rattle.leveldb_store.specs.declared.log_replay.NextBatch.TheVariants.{BadEnd, CleanEnd, More}
use Rattle.leveldb_store.specs.declared.opening.replay_log.ReplayedLog.{ReplayedLog}
use Rattle.leveldb_store.proofs.Logs.LogReplayLemmas.{begins_log, has_begun, has_read_same}
use Rattle.leveldb_store.proofs.Logs.ReplayDamageLemmas.{log_stays}
use Rattle.leveldb_store.proofs.Logs.ReplayFilesLemmas.{MakesTablesOnly-still, MakesTablesOnly-trans}
use Rattle.leveldb_store.proofs.Logs.ReplayLogLemmas.{HasReplayed-none, full_more, replayed_up_to}

-- ---- damage

-- a file that is no log of batches is a damaged log's
pub no_log_damaged : (store : List ℕ) (files : Files) (number last : ℕ) (path : List ℕ)
    → path ≡ log_path store number → IsNoLog (files path) → IsDamagedLog store files number last
no_log_damaged store files number last path path_is never log number_is has order = never log (
  has.0,
  ap files (path_is ∙ sym (ap (log_path store) number_is)) ∙ has.1,
  has.2,
)

-- so is one with a batch that doesn't follow
pub unfollowed_damaged : (store : List ℕ) (files : Files) (number last now : ℕ) {models_disk : Bool}
    {log : LogReplayState} (batches : List Batch) (batch : Batch)
    → log.path ≡ log_path store number → now ≡ max last (greatest (all_entries batches))
    → HasReadBatches models_disk files log (batches ++ batch ∷ []) → IsTrue models_disk
    → (Follows now batch → ⊥) → IsDamagedLog store files number last
unfollowed_damaged store files number last now {log = read} batches batch path_is now_is has modelled never
    log number_is has_log order =
    let begins = begins_log files has modelled log (
      has_log.0,
      ap files (path_is ∙ sym (ap (log_path store) number_is)) ∙ has_log.1,
      has_log.2,
    ) in
    let after = order_after last batches (batch ∷ begins.0)
    (subst (AreInOrder last) (begins.1 ∙ append_assoc batches (batch ∷ []) begins.0) order) in
    never (record {
      above = omega (arith, after.0, now_is);
      first_fits = after.1;
      all_fit = after.2;
    })

-- ---- a record of 2^64 bytes

-- there are batches of any size
batch_of_size : (size : ℕ) → (batch : Batch) × (size ≤ 64 * length batch.items + bytes_in batch.items)
batch_of_size size = (record { first = 0; items = items size }, most size)
  where
    items : ℕ → List Item
    items zero = []
    items (suc n) = record { key = []; value = None } ∷ items n

    most : (n : ℕ) → n ≤ 64 * length (items n) + bytes_in (items n)
    most zero = omega arith
    most (suc n) = let fewer = most n in omega (arith, fewer)

-- and of some none is kept
too_large : {D FP : Type 0} {order : CmpGhosts D} {filters : FilterGhosts FP}
    (choices : TableChoices order filters) (next : ℕ) (status : Status)
    → status.code ≡ NotSupported → (batches : List Batch) × FailsToTable choices next batches status
too_large choices next status code =
    let large = batch_of_size (2 ^ 31) in (
      large.0 ∷ [],
      inr (inl (record {
        code = code;
        front = [];
        kept = [];
        batch = large.0;
        parts = refl;
        too_large = let most = large.1 in omega (arith, most);
      })),
    )

-- ---- the replay

-- what was replayed is so where no file changes
replayed_still : {E F C : Type 0} (env : Ghosts E F) (format : Format) {first now : VersionSetValue}
    {last : ℕ} {batches : List Batch} {log : ReplayedLog C} {at to : E}
    → HasReplayed env format first last batches log now at
    → (IsTrue env.models_disk → Run (FilesUnchanged (env.observed at).disk.files) (env.observed at)
    (env.observed to)) → HasReplayed env format first last batches log now to
replayed_still env format {first} {now} was run = record {
  in_order = was.in_order;
  last_is = was.last_is;
  numbers = was.numbers;
  tables = was.tables;
  files_are = was.files_are;
  made_tables = λ modelled meaning agrees. subst
      (λ files. AreMadeTables format.order meaning first now files was.tables)
      (sym (run modelled).has) (was.made_tables modelled meaning agrees);
  entries = was.entries;
  newer = was.newer;
  given = was.given;
  ordered = was.ordered;
  in_memory = was.in_memory;
  places = was.places;
  few = was.few;
}

module _ {E F D FP C : Type 0} (env : Ghosts E F) {order : CmpGhosts D}
    {filters : FilterGhosts FP} (choices : TableChoices order filters) (limit : ℕ)
    (set : VersionSetValue) (last number : ℕ) (from : E) where
  -- the batches that were read of the log are replayed
  pub record Replaying (cmp : C) (log : ReplayedLog C) (read : LogReplayState)
      (now : VersionSetValue) (at : E) : Type 0 where
    pub spares : MakesTablesOnly env set from now at
    pub counted : env.failures at ≡ env.failures from
    pub batches : List Batch
    pub path_is : read.path ≡ log_path set.store number
    pub has_read : HasReadBatches env.models_disk (env.observed from).disk.files read batches
    pub replayed : HasReplayed env choices.format set last batches log now at
    pub room : IsNotFull limit log
    pub filled : (log.tables.items ≡ []) ⊎ AreFull limit (all_entries batches)
    pub cmp_is : log.rest.cmp ≡ cmp
    pub size : log.size ≡ read.size
    pub not_ended : log.is_clean ≡ false

  -- an error after calls that made tables only
  failed : {now : VersionSetValue} {to : E} (status : Status)
      → MakesTablesOnly env set from now to
      → HasCause {T = ReplayedLog C} (FailsToReplay env choices set last number from to)
      (env.failures from) (env.failures to) (Err status)
      → ReplaysFile env choices limit {C = C} set last number from (Err status) now to
  failed status spares cause = record {
    spares = spares;
    replays = λ modelled meaning agrees. tt;
    room = tt;
    unusable = tt;
    given = tt;
    ordered = tt;
    up_to = tt;
    batches = tt;
    cause = cause;
  }

  -- the log isn't opened
  pub ReplaysFile-unread : {T : Type 0} {to : E} (status : Status)
      → (IsTrue env.models_disk → Run (FilesUnchanged (env.observed from).disk.files)
      (env.observed from) (env.observed to))
      → SameLocks env.models_disk (env.observed from) (env.observed to)
      → HasCause {T = T} (IsLost env.models_disk (log_path set.store number) (env.observed from)
      (env.failures from) (env.failures to)) (env.failures from) (env.failures to) (Err status)
      → ReplaysFile env choices limit {C = C} set last number from (Err status) set to
  ReplaysFile-unread {to = to} status run locks cause = failed status
      (MakesTablesOnly-still env set run locks)
      (cause_of_error status (λ lost. inl lost)
      (λ why. ⊎_elim (λ lost. inl lost) (λ other. inr other.1) why) cause)

  -- no batch is read yet
  pub Replaying-none : {at : E} (cmp : C) (log : ReplayedLog C) (read : LogReplayState)
      → (IsTrue env.models_disk → Run (FilesUnchanged (env.observed from).disk.files)
      (env.observed from) (env.observed at))
      → SameLocks env.models_disk (env.observed from) (env.observed at)
      → env.failures at ≡ env.failures from
      → IsLogToRead env.models_disk set.store number (env.observed from).disk.files read
      → log.tables.items ≡ [] → log.rest.kept.entries ≡ [] → log.rest.kept.places ≡ 0
      → log.last ≡ last → log.rest.cmp ≡ cmp → log.size ≡ read.size → log.is_clean ≡ false
      → Replaying cmp log read set at
  Replaying-none {at} cmp log read run locks counted opens tables rest places is cmp_is size ended = record {
    spares = MakesTablesOnly-still env set run locks;
    counted = counted;
    batches = [];
    path_is = opens.path_is;
    has_read = opens.none_read;
    replayed = HasReplayed-none env choices.format set last log at tables rest places is;
    room = inl rest;
    filled = inl tables;
    cmp_is = cmp_is;
    size = size;
    not_ended = ended;
  }

  module _ {cmp : C} {log : ReplayedLog C} {read : LogReplayState} {now : VersionSetValue} {at : E}
      (so_far : Replaying cmp log read now at) where
    -- there is no memory
    pub ReplaysFile-out_of_memory : (status : Status) → IsOutOfMemory status
        → ReplaysFile env choices limit {C = C} set last number from (Err status) now at
    ReplaysFile-out_of_memory status memory = failed status so_far.spares (record {
      later = omega (arith, so_far.counted);
      ok = tt;
      uncounted = λ excused. so_far.counted;
      cause = inl (inl (inl memory));
    })

    -- the log's file is as it was
    still : IsTrue env.models_disk
        → (env.observed at).disk.files read.path ≡ (env.observed from).disk.files read.path
    still modelled = subst
        (λ path. (env.observed at).disk.files path ≡ (env.observed from).disk.files path)
        (sym so_far.path_is)
        (log_stays set now (env.observed from).disk.files (env.observed at).disk.files
        (so_far.spares.run modelled).has number)

    read_now : HasReadBatches env.models_disk (env.observed at).disk.files read so_far.batches
    read_now = has_read_same env.models_disk (env.observed from).disk.files
        (env.observed at).disk.files read so_far.batches still so_far.has_read

    module _ {result : Result NextBatch Status} {batch : Batch} {next : LogReplayState} {to : E}
        (reads : ReadsBatch env read at result batch next to) where
      same_path : next.path ≡ read.path
      same_path = ap (λ (r : LogReplayState). r.path) reads.same

      spares_read : MakesTablesOnly env set from now to
      spares_read = MakesTablesOnly-trans env so_far.spares
          (MakesTablesOnly-still env now reads.run reads.locks)

    -- reading stops
    pub ReplaysFile-stopped : (status : Status) {batch : Batch} {next : LogReplayState} {to : E}
        → ReadsBatch env read at (Err status) batch next to
        → ReplaysFile env choices limit {C = C} set last number from (Err status) now to
    ReplaysFile-stopped status {to = to} reads = failed status (spares_read reads)
        (cause_of_error status why uncounted
        (subst (λ count. HasCause {T = NextBatch} (FailsToReadBatch env.models_disk read.path
        (env.observed at) count (env.failures to)) count (env.failures to) (Err status))
        so_far.counted (reads.cause so_far.batches read_now)))
      where
        why : FailsToReadBatch env.models_disk read.path (env.observed at) (env.failures from)
            (env.failures to) status → FailsToReplay env choices set last number from to status
        why (inl (inl memory)) = inl (inl memory)
        why (inl (inr missing)) = inl (inr (
          subst (λ path. IsMissingFile path status) so_far.path_is missing.0,
          λ modelled. ap (env.observed from).disk.files (sym so_far.path_is)
              ∙ sym (still modelled) ∙ missing.1 modelled,
          missing.2,
        ))
        why (inr (inl torn, same)) = inr (
          inr (
            torn.0,
            λ modelled. no_log_damaged set.store (env.observed from).disk.files number last
                read.path so_far.path_is
                (subst (λ file. IsNoLog file) (still modelled) (torn.1 modelled)),
          ),
          same,
        )
        why (inr (inr huge, same)) =
            let large = too_large choices set.next_file status huge.0 in inr (
              inl (large.0, λ modelled. absurd (huge.1 modelled), large.1),
              same,
            )

        uncounted : FailsToReplay env choices set last number from to status
            → FailsToReadBatch env.models_disk read.path (env.observed at) (env.failures from)
            (env.failures to) status ⊎ (env.failures to ≡ env.failures from)
        uncounted (inl (inl memory)) = inl (inl (inl memory))
        uncounted (inl (inr missing)) = inr missing.2
        uncounted (inr other) = inr other.1

    -- a batch is read
    module _ {batch : Batch} {next : LogReplayState} {to : E}
        (reads : ReadsBatch env read at (Ok More) batch next to) where
      read_more : HasReadBatches env.models_disk (env.observed from).disk.files next
          (so_far.batches ++ batch ∷ [])
      read_more = has_read_same env.models_disk (env.observed at).disk.files
          (env.observed from).disk.files next (so_far.batches ++ batch ∷ [])
          (λ modelled. subst
          (λ path. (env.observed from).disk.files path ≡ (env.observed at).disk.files path)
          (sym (same_path reads)) (sym (still modelled)))
          (reads.finds so_far.batches read_now)

      path_more : next.path ≡ log_path set.store number
      path_more = same_path reads ∙ so_far.path_is

      counted_more : env.failures to ≡ env.failures from
      counted_more = (reads.cause so_far.batches read_now).ok ∙ so_far.counted

      pub fewer_left : next.left < read.left
      fewer_left = reads.fewer refl

      -- what was replayed is so still
      replayed_more : HasReplayed env choices.format set last so_far.batches log now to
      replayed_more = replayed_still env choices.format so_far.replayed reads.run

      -- and taken
      pub Replaying-more : {new : ReplayedLog C} {made : VersionSetValue} {after : E}
          → TakesNextBatch env choices limit batch log now to (Ok tt) new made after
          → Replaying cmp new next made after
      Replaying-more takes =
          let more = takes.ok set last so_far.batches replayed_more in
          record {
            spares = MakesTablesOnly-trans env (spares_read reads) takes.spares;
            counted = takes.cause.ok ∙ counted_more;
            batches = so_far.batches ++ batch ∷ [];
            path_is = path_more;
            has_read = read_more;
            replayed = more.0;
            room = takes.room;
            filled = ⊎_elim
                (λ same. ⊎_elim (λ none. inl (same ∙ none))
                (λ full. inr (full_more limit so_far.batches batch full)) so_far.filled)
                (λ full. inr full) more.1;
            cmp_is = takes.cmp ∙ so_far.cmp_is;
            size = takes.size ∙ so_far.size
                ∙ sym (ap (λ (r : LogReplayState). r.size) reads.same);
            not_ended = takes.bad ∙ so_far.not_ended;
          }

      -- no entry is past the last number
      pub up_to_more : AreUpTo log.last log.rest.kept.entries
      up_to_more = replayed_up_to env choices.format so_far.replayed

      abbrev Why : Status → Type 0
      Why e = FailsAtBatch env choices batch log now to e
          ⊎ ((e.code ≡ Corruption) × (Follows log.last batch → ⊥))

      -- or not
      pub ReplaysFile-refused : (status : Status) {new : ReplayedLog C} {made : VersionSetValue}
          {after : E} → TakesNextBatch env choices limit batch log now to (Err status) new made after
          → ReplaysFile env choices limit {C = C} set last number from (Err status) made after
      ReplaysFile-refused status {after = after} takes = failed status
          (MakesTablesOnly-trans env (spares_read reads) takes.spares)
          (cause_of_error status why uncounted
          (subst (λ count. HasCause {T = Unit {0}} (λ e. IsOutOfMemory e ⊎ (Why e
          × (env.failures after ≡ count))) count (env.failures after) (Err status)) counted_more
          takes.cause))
        where
          why : IsOutOfMemory status ⊎ (Why status × (env.failures after ≡ env.failures from))
              → FailsToReplay env choices set last number from after status
          why (inl memory) = inl (inl memory)
          why (inr (inl fails, same)) = inr (
            inl (
              so_far.batches ++ batch ∷ [],
              has_begun set.store number (env.observed from).disk.files path_more read_more,
              fails set last so_far.batches replayed_more,
            ),
            same,
          )
          why (inr (inr torn, same)) = inr (
            inr (
              torn.0,
              λ modelled. unfollowed_damaged set.store (env.observed from).disk.files number last
                  log.last so_far.batches batch path_more so_far.replayed.last_is read_more modelled
                  torn.1,
            ),
            same,
          )

          uncounted : FailsToReplay env choices set last number from after status
              → (IsOutOfMemory status ⊎ (Why status × (env.failures after ≡ env.failures from)))
              ⊎ (env.failures after ≡ env.failures from)
          uncounted (inl (inl memory)) = inl (inl memory)
          uncounted (inl (inr missing)) = inr missing.2
          uncounted (inr other) = inr other.1

    -- ---- the end

    module _ (is_clean : Bool) {found : NextBatch} {batch : Batch} {next : LogReplayState} {to : E}
        (reads : ReadsBatch env read at (Ok found) batch next to)
        (ends : IsReadOutAs env.models_disk (env.observed at).disk.files read so_far.batches
        (if is_clean then clean else bad)) where
      abbrev ended : ReplayedLog C
      ended = record log { is_clean = is_clean }

      abbrev whole : StoreLog
      whole = record {
        number = number;
        batches = so_far.batches;
        end = if is_clean then clean else bad;
        size = read.size;
      }

      whole_log : IsTrue env.models_disk
          → HasLog set.store (env.observed from).disk.files whole
      whole_log modelled = let is = ends modelled in (
        is.0,
        ap (env.observed from).disk.files (sym so_far.path_is) ∙ sym (still modelled) ∙ is.1,
        record {
          records = is.2.records;
          read = is.2.read;
          each = is.2.each;
          size = is.2.size;
        },
      )

      now_replayed : HasReplayed env choices.format set last so_far.batches log now to
      now_replayed = replayed_still env choices.format so_far.replayed reads.run

      replayed_log : (which : (is_clean ≡ false) ⊎ (log.tables.items ≢ []))
          → ((if is_clean then clean else bad) ≡ bad) ⊎ AreFull limit (all_entries so_far.batches)
      replayed_log which = ⊎_elim (λ is. inl (ap (λ b. if b then clean else bad) is))
          (λ some. ⊎_elim (λ none. absurd (some none)) (λ full. inr full) so_far.filled) which

      pub ReplaysFile-ended : ReplaysFile env choices limit set last number from (Ok ended) now to
      ReplaysFile-ended = record {
        spares = spares_read reads;
        replays = λ modelled meaning agrees. record {
          log = whole;
          number_is = refl;
          has_log = whole_log modelled;
          end = refl;
          size = sym so_far.size;
          in_order = now_replayed.in_order;
          last_is = now_replayed.last_is;
          tables = now_replayed.tables;
          files_are = now_replayed.files_are;
          made_tables = now_replayed.made_tables modelled meaning agrees;
          entries = now_replayed.entries;
          newer = now_replayed.newer;
        };
        room = so_far.room;
        unusable = λ modelled which. record {
          log = whole;
          number_is = refl;
          has_log = whole_log modelled;
          why = replayed_log which;
        };
        given = now_replayed.given;
        ordered = now_replayed.ordered;
        up_to = replayed_up_to env choices.format so_far.replayed;
        batches = record {
          batches = so_far.batches;
          begins = has_begun set.store number (env.observed from).disk.files so_far.path_is
              so_far.has_read;
          in_memory = now_replayed.in_memory;
          few = now_replayed.few;
        };
        cause = record {
          later = omega (arith, (reads.cause so_far.batches read_now).ok, so_far.counted);
          ok = (reads.cause so_far.batches read_now).ok ∙ so_far.counted;
          uncounted = tt;
          cause = tt;
        };
      }

    pub ReplaysFile-clean : {batch : Batch} {next : LogReplayState} {to : E}
        → ReadsBatch env read at (Ok CleanEnd) batch next to
        → ReplaysFile env choices limit set last number from
        (Ok (record log { is_clean = true })) now to
    ReplaysFile-clean reads = ReplaysFile-ended true reads (reads.finds so_far.batches read_now)

    pub ReplaysFile-bad : {batch : Batch} {next : LogReplayState} {to : E}
        → ReadsBatch env read at (Ok BadEnd) batch next to
        → ReplaysFile env choices limit set last number from (Ok log) now to
    ReplaysFile-bad {to = to} reads = subst
        (λ (l : ReplayedLog C). ReplaysFile env choices limit set last number from (Ok l) now to)
        (ap (λ b. record log { is_clean = b }) (sym so_far.not_ended))
        (ReplaysFile-ended false reads (reads.finds so_far.batches read_now))
