-- The logs of a folder that are read to memory, one after another, as far as they are found.
use Rattle.std.specs.Prelude.{◌↔◌, ◌≢◌, All, Any, Contains, IfErr, IfOk, IsTrue, string_bytes}
use Rattle.std.specs.Global.{Global}
use Rattle.std.proofs.Common.{◌≡◌, ◌∙◌, ◌⊎◌, inl, inr, ⊎_elim, ◌<◌, ◌≤◌, ◌+◌, ℕ, List, [], ◌∷◌, ◌++◌, None, Some, Ok, Err, Result, Vec, ap, append-nil, append_assoc, arith, get_or, length, refl, subst, sym, take}
use Rattle.std.proofs.lemmas.List.{take_all, take_more}
use Rattle.std.proofs.lemmas.List.Concat.{flat_map-append}
use Rattle.std.proofs.lemmas.List.Elements.{All-contains, Contains-push}
use Rattle.leveldb_base.proofs.EntriesLemmas.{in_map}
use Rattle.leveldb_base.proofs.HistoryLemmas.{in_cases, in_none}
use Rattle.leveldb_base.proofs.NamesLemmas.{one_reading}
use Rattle.leveldb_base.specs.Error.{IsOutOfMemory}
use Rattle.leveldb_base.specs.History.{AreUpTo, Entry}
use Rattle.leveldb_base.specs.Names.{IsFileName}
use Rattle.leveldb_base.specs.declared.error.Status.{Status}
use Rattle.leveldb_base.specs.declared.types.FileType.TheVariants.{Log}
use Rattle.leveldb_env.proofs.EnvLemmas.{Run-trans, begun}
use Rattle.leveldb_env.specs.Env.{Files, FilesUnchanged, HasCause, Run, SameLocks, bytes_of, in_folder}
use Rattle.leveldb_env.specs.WholeFiles.{IsLost}
use Rattle.leveldb_env.specs.declared.env.Env.{Ghosts}
use Rattle.leveldb_mem.specs.MemTable.{MemTableState}
use Rattle.leveldb_mem.specs.WriteBatch.{Batch}
use Rattle.leveldb_files.proofs.Stores.BatchesLemmas.{each_more}
use Rattle.leveldb_version_set.proofs.Repairs.FoundLemmas.{one_found_log}
use Rattle.leveldb_files.proofs.Stores.LogsLemmas.{all_append}
use Rattle.leveldb_files.proofs.Stores.OneStoreLemmas.{flat_in, in_flat}
use Rattle.leveldb_version_set.proofs.Sets.RecoverLemmas.{cause_of_error}
use Rattle.leveldb_files.specs.Stores.Batches.{Each, all_entries, batch_entries}
use Rattle.leveldb_version_set.specs.Repairs.Found.{IsFoundLog}
use Rattle.leveldb_store.proofs.Logs.NextFoundLemmas.{has_begun_at, has_found_none, has_found_same}
use Rattle.leveldb_store.proofs.Openings.OpeningFindLemmas.{listed, no_slash_in_log}
use Rattle.leveldb_store.specs.Openings.Listing.{AreFilesIn, MatchesName}
use Rattle.leveldb_store.specs.Logs.LogReplay.{LogReplayState}
use Rattle.leveldb_store.specs.Logs.NextFound.{AreAllFound, BeginsAt, FailsToFindBatch, FindsNextBatch, HasEntryNumbers, HasFoundBatches, IsFileToRead, IsFoundAt}
use Rattle.leveldb_store.specs.Logs.ReplayLog.{HasCauseOr}
use Rattle.leveldb_store.specs.declared.log_replay.next_found.NextFound.{NextFound}
use Rattle.leveldb_store.specs.declared.log_replay.next_found.NextFound.TheVariants.{BadEnd, CleanEnd, More, NoBatch}
use Rattle.leveldb_store.specs.declared.opening.listing.ListedFile.{ListedFile}
use Rattle.leveldb_repair.proofs.FoundLogsLemmas.{each_left, each_right, have_entry}
use Rattle.leveldb_repair.specs.FoundLogs.{AddsBatch, AreAllTables, FindsLog, FindsLogs, HasLargeBatch, HaveEntries, HaveEntry, HaveRuns, IsFoundIn, IsInLog, IsMissingLog, IsTooLargeAlone, WhyNotFound, found_entries}
use Rattle.leveldb_repair.specs.declared.found_logs.memtables.Memtables.{Memtables}

-- ---- one file

pub alone : (P : ListedFile → Type 0) (file : ListedFile) → P file → Any P (file ∷ [])
alone P file has = (0, file, omega arith, refl, has)

pub alone_is : (P : ListedFile → Type 0) (file : ListedFile) → Any P (file ∷ []) → P file
alone_is P file (k, other, inside, is, has) = ⊎_elim
    (λ (same : file ≡ other). subst P (sym same) has)
    (λ (none : Contains [] other). absurd (in_none other none))
    (in_cases file other [] (k, inside, is))

-- a file was read, and no file changed
pub record Tells {E F : Type 0} (env : Ghosts E F) (path : List ℕ) (from : E)
    (result : Result (Unit {0}) Status) (to : E) : Type 0 where
  pub run : IsTrue env.models_disk → Run (FilesUnchanged (env.observed from).disk.files)
      (env.observed from) (env.observed to)
  pub locks : SameLocks env.models_disk (env.observed from) (env.observed to)
  pub cause : HasCause (IsLost env.models_disk path (env.observed from) (env.failures from)
      (env.failures to)) (env.failures from) (env.failures to) result

module _ {E F C : Type 0} (env : Ghosts E F) (store : List ℕ) (file : ListedFile)
    (old : Memtables C) (from : E) where
  abbrev files : Files
  files = (env.observed from).disk.files

  abbrev path : List ℕ
  path = in_folder store (string_bytes file.name)

  abbrev Why : Status → Type 0
  Why = WhyNotFound env.models_disk store files (file ∷ [])

  -- no file changed from there to here
  abbrev Still : E → Type 0
  Still to = IsTrue env.models_disk
      → Run (FilesUnchanged files) (env.observed from) (env.observed to)

  abbrev SameLock : E → Type 0
  SameLock to = SameLocks env.models_disk (env.observed from) (env.observed to)

  -- how far the log was read, to memory
  pub record FindingLog (memory : Memtables C) (read : LogReplayState) (at : E) : Type 0 where
    pub still : Still at
    pub locks : SameLock at
    pub counted : env.failures at ≡ env.failures from
    pub is_log : file.kind ≡ Log
    pub path_is : read.path ≡ path
    pub batches : List Batch
    pub found : HasFoundBatches env.models_disk files read batches
    pub have : (entries : List Entry) → HaveEntries entries old
        → HaveEntries (entries ++ all_entries batches) memory
    pub up_to : AreUpTo memory.last memory.latest.kept.entries
    pub cmp : memory.cmp ≡ old.cmp

  -- ---- it fails

  failed : (status : Status) (new : Memtables C) (to : E) → Still to → SameLock to
      → HasCauseOr {T = Unit {0}} Why (env.failures from) (env.failures to) (Err status)
      → FindsLog env store file old from (Err status) new to
  failed status new to still locks cause = record {
    still = still;
    locks = locks;
    finds = tt;
    up_to = tt;
    cmp = tt;
    cause = cause;
  }

  -- nothing was counted
  uncounted_cause : (status : Status) (to : E) → env.failures to ≡ env.failures from
      → IsOutOfMemory status ⊎ Why status
      → HasCauseOr {T = Unit {0}} Why (env.failures from) (env.failures to) (Err status)
  uncounted_cause status to counted why = record {
    later = omega (arith, counted);
    ok = tt;
    uncounted = λ excused. counted;
    cause = inl (⊎_elim (λ memory. inl memory) (λ other. inr (other, counted)) why);
  }

  -- memory is out
  pub FindsLog-out_of_memory : (status : Status) (new : Memtables C) (to : E) → Still to
      → SameLock to → env.failures to ≡ env.failures from → IsOutOfMemory status
      → FindsLog env store file old from (Err status) new to
  FindsLog-out_of_memory status new to still locks counted memory = failed status new to still locks
      (uncounted_cause status to counted (inl memory))

  -- ---- its file

  module _ (is_log : file.kind ≡ Log) (at to : E) (still : Still at)
      (counted : env.failures at ≡ env.failures from) (p : List ℕ) (p_is : p ≡ path)
      (status : Status) where
    -- the file is missing
    lost_why : IsLost env.models_disk p (env.observed at) (env.failures from) (env.failures to)
        status → IsOutOfMemory status ⊎ (Why status × (env.failures to ≡ env.failures from))
    lost_why (inl memory) = inl memory
    lost_why (inr missing) = inr (
      inl (
        missing.0.code,
        λ modelled. alone (IsMissingLog store files) file (
          is_log,
          ap files (sym p_is) ∙ sym (ap (λ (f : Files). f p) (still modelled).has)
              ∙ missing.1 modelled,
        ),
      ),
      missing.2,
    )

    lost_or_not : IsOutOfMemory status ⊎ (Why status × (env.failures to ≡ env.failures from))
        → IsLost env.models_disk p (env.observed at) (env.failures from) (env.failures to) status
        ⊎ (env.failures to ≡ env.failures from)
    lost_or_not (inl memory) = inl (inl memory)
    lost_or_not (inr other) = inr other.1

    lost_cause : {T : Type 0} → HasCause {T = T} (IsLost env.models_disk p (env.observed at)
        (env.failures at) (env.failures to)) (env.failures at) (env.failures to) (Err status)
        → HasCauseOr {T = Unit {0}} Why (env.failures from) (env.failures to) (Err status)
    lost_cause {T} cause = cause_of_error {T = T} status lost_why lost_or_not
        (subst (λ n. HasCause {T = T} (IsLost env.models_disk p (env.observed at) n
        (env.failures to)) n (env.failures to) (Err status)) counted cause)

    -- or it isn't one of a disk that is modelled
    batch_why : FailsToFindBatch env.models_disk p (env.observed at) (env.failures from)
        (env.failures to) status
        → IsOutOfMemory status ⊎ (Why status × (env.failures to ≡ env.failures from))
    batch_why (inl lost) = lost_why lost
    batch_why (inr (inl code, never, same)) =
        inr (inl (code, λ modelled. absurd (never modelled)), same)
    batch_why (inr (inr code, never, same)) =
        inr (inr (code, λ modelled. absurd (never modelled)), same)

    batch_or_not : IsOutOfMemory status ⊎ (Why status × (env.failures to ≡ env.failures from))
        → FailsToFindBatch env.models_disk p (env.observed at) (env.failures from)
        (env.failures to) status ⊎ (env.failures to ≡ env.failures from)
    batch_or_not (inl memory) = inl (inl (inl memory))
    batch_or_not (inr other) = inr other.1

    batch_cause : {T : Type 0} → HasCause {T = T} (FailsToFindBatch env.models_disk p
        (env.observed at) (env.failures at) (env.failures to)) (env.failures at) (env.failures to)
        (Err status)
        → HasCauseOr {T = Unit {0}} Why (env.failures from) (env.failures to) (Err status)
    batch_cause {T} cause = cause_of_error {T = T} status batch_why batch_or_not
        (subst (λ n. HasCause {T = T} (FailsToFindBatch env.models_disk p (env.observed at) n
        (env.failures to)) n (env.failures to) (Err status)) counted cause)

  -- it can't be opened
  pub FindsLog-unopened : file.kind ≡ Log → (status : Status) (to : E) → Still to → SameLock to
      → (p : List ℕ) → p ≡ path
      → HasCause {T = LogReplayState} (IsLost env.models_disk p (env.observed from)
      (env.failures from) (env.failures to)) (env.failures from) (env.failures to) (Err status)
      → FindsLog env store file old from (Err status) old to
  FindsLog-unopened is_log status to still locks p p_is cause = failed status old to still locks
      (lost_cause is_log from to (λ modelled. begun (env.observed from) refl) refl p p_is status
      {T = LogReplayState} cause)

  -- it is no log
  pub FindsLog-other : file.kind ≢ Log → AreUpTo old.last old.latest.kept.entries
      → FindsLog env store file old from (Ok tt) old from
  FindsLog-other other up_to = record {
    still = λ modelled. begun (env.observed from) refl;
    locks = λ modelled. refl;
    finds = (
      [],
      λ modelled. inr (other, refl),
      λ entries have. subst (λ es. HaveEntries es old) (sym (append-nil entries)) have,
    );
    up_to = up_to;
    cmp = refl;
    cause = record { later = omega arith; ok = refl; uncounted = tt; cause = tt };
  }

  -- none of it is read
  pub FindingLog-none : file.kind ≡ Log → (read : LogReplayState) (at : E) → Still at → SameLock at
      → env.failures at ≡ env.failures from → (p : List ℕ) (number : ℕ) → p ≡ path
      → IsFileToRead env.models_disk p number files read
      → AreUpTo old.last old.latest.kept.entries → FindingLog old read at
  FindingLog-none is_log read at still locks counted p number p_is opens up_to = record {
    still = still;
    locks = locks;
    counted = counted;
    is_log = is_log;
    path_is = opens.path_is ∙ p_is;
    batches = [];
    found = has_found_none opens.none_read;
    have = λ entries have. subst (λ es. HaveEntries es old) (sym (append-nil entries)) have;
    up_to = up_to;
    cmp = refl;
  }

  module _ {memory : Memtables C} {read : LogReplayState} {at : E}
      (so_far : FindingLog memory read at) where
    -- the files are as they were
    same_path : IsTrue env.models_disk → (env.observed at).disk.files read.path ≡ files read.path
    same_path modelled = ap (λ (f : Files). f read.path) (so_far.still modelled).has

    found_now : HasFoundBatches env.models_disk (env.observed at).disk.files read so_far.batches
    found_now = has_found_same env.models_disk files (env.observed at).disk.files read
        so_far.batches same_path so_far.found

    module _ {result : Result NextFound Status} {batch : Batch} {next : LogReplayState} {to : E}
        (finds : FindsNextBatch env read at result batch next to) where
      still_found : Still to
      still_found modelled = let first = so_far.still modelled in
          Run-trans first (λ now is. is ∙ first.has) (finds.run modelled)

      locks_found : SameLock to
      locks_found modelled = finds.locks modelled ∙ so_far.locks modelled

    -- reading stops
    pub FindsLog-stopped : (status : Status) {batch : Batch} {next : LogReplayState} {to : E}
        → FindsNextBatch env read at (Err status) batch next to
        → FindsLog env store file old from (Err status) memory to
    FindsLog-stopped status {to = to} finds = failed status memory to (still_found finds)
        (locks_found finds) (batch_cause so_far.is_log at to so_far.still so_far.counted read.path
        so_far.path_is status {T = NextFound} (finds.cause so_far.batches found_now))

    -- a batch is read
    module _ {batch : Batch} {next : LogReplayState} {to : E}
        (finds : FindsNextBatch env read at (Ok More) batch next to) where
      path_more : next.path ≡ path
      path_more = ap (λ (r : LogReplayState). r.path) finds.same ∙ so_far.path_is

      found_more : HasFoundBatches env.models_disk files next (so_far.batches ++ batch ∷ [])
      found_more = has_found_same env.models_disk (env.observed at).disk.files files next
          (so_far.batches ++ batch ∷ [])
          (λ modelled. ap (λ (f : Files). f next.path) (sym (so_far.still modelled).has))
          (finds.finds so_far.batches found_now)

      counted_more : env.failures to ≡ env.failures from
      counted_more = (finds.cause so_far.batches found_now).ok ∙ so_far.counted

      pub numbered_more : HasEntryNumbers batch
      numbered_more = All-contains HasEntryNumbers (so_far.batches ++ batch ∷ []) batch
          found_more.numbered (Contains-push so_far.batches batch)

      pub fewer_found : next.left < read.left
      fewer_found = finds.fewer refl

      -- and added
      pub FindingLog-more : {new : Memtables C} → AddsBatch memory batch new
          → FindingLog new next to
      FindingLog-more {new} adds = record {
        still = still_found finds;
        locks = locks_found finds;
        counted = counted_more;
        is_log = so_far.is_log;
        path_is = path_more;
        batches = so_far.batches ++ batch ∷ [];
        found = found_more;
        have = λ entries have. subst (λ es. HaveEntries es new)
            (append_assoc entries (all_entries so_far.batches) (batch_entries batch)
            ∙ ap (λ es. entries ++ es) (sym (all_append so_far.batches (batch ∷ [])
            ∙ ap (λ es. all_entries so_far.batches ++ es) (append-nil (batch_entries batch)))))
            (adds.have (entries ++ all_entries so_far.batches) (so_far.have entries have));
        up_to = adds.up_to;
        cmp = adds.cmp ∙ so_far.cmp;
      }

      -- or not
      pub FindsLog-unadded : (status : Status) (new : Memtables C)
          → IsOutOfMemory status ⊎ IsTooLargeAlone batch status
          → FindsLog env store file old from (Err status) new to
      FindsLog-unadded status new why = failed status new to (still_found finds)
          (locks_found finds) (uncounted_cause status to counted_more (⊎_elim
          (λ (memory : IsOutOfMemory status). inl memory)
          (λ (large : IsTooLargeAlone batch status). inr (inr (
            large.0,
            λ modelled. alone (HasLargeBatch store files) file (
              so_far.is_log,
              so_far.batches,
              batch,
              subst (λ p. BeginsAt (files p) (so_far.batches ++ batch ∷ [])) path_more
                  (has_begun_at found_more.read modelled),
              found_more.numbered,
              large.1,
            ),
          ))) why))

    -- ---- the end

    module _ {found : NextFound} {batch : Batch} {next : LogReplayState} {to : E}
        (finds : FindsNextBatch env read at (Ok found) batch next to)
        (all : AreAllFound env.models_disk (env.observed at).disk.files read so_far.batches) where
      counted_then : env.failures to ≡ env.failures from
      counted_then = (finds.cause so_far.batches found_now).ok ∙ so_far.counted

      found_in : IsTrue env.models_disk → IsFoundIn store files file so_far.batches
      found_in modelled = inl (
        so_far.is_log,
        subst (λ o. IsFoundAt o so_far.batches) (same_path modelled ∙ ap files so_far.path_is)
            (all modelled),
      )

      ended : (later : E) → Still later → SameLock later → env.failures later ≡ env.failures from
          → FindsLog env store file old from (Ok tt) memory later
      ended later still locks counted = record {
        still = still;
        locks = locks;
        finds = (so_far.batches, found_in, so_far.have);
        up_to = so_far.up_to;
        cmp = so_far.cmp;
        cause = record { later = omega (arith, counted); ok = counted; uncounted = tt; cause = tt };
      }

      -- where nothing is left out
      whole : FindsLog env store file old from (Ok tt) memory to
      whole = ended to (still_found finds) (locks_found finds) counted_then

      -- or something is told of what is
      told : (result : Result (Unit {0}) Status) (later : E) (p : List ℕ) → p ≡ next.path
          → Tells env p to result later → FindsLog env store file old from result memory later
      told (Ok tt) later p p_is tells = ended later
          (λ modelled. let first = still_found finds modelled in
          Run-trans first (λ now is. is ∙ first.has) (tells.run modelled))
          (λ modelled. tells.locks modelled ∙ locks_found finds modelled)
          (tells.cause.ok ∙ counted_then)
      told (Err status) later p p_is tells = failed status memory later
          (λ modelled. let first = still_found finds modelled in
          Run-trans first (λ now is. is ∙ first.has) (tells.run modelled))
          (λ modelled. tells.locks modelled ∙ locks_found finds modelled)
          (lost_cause so_far.is_log to later (still_found finds) counted_then p
          (p_is ∙ ap (λ (r : LogReplayState). r.path) finds.same ∙ so_far.path_is)
          status {T = Unit {0}} tells.cause)

    -- between two records
    pub FindsLog-clean : {batch : Batch} {next : LogReplayState} {to : E}
        → FindsNextBatch env read at (Ok CleanEnd) batch next to
        → FindsLog env store file old from (Ok tt) memory to
    FindsLog-clean finds = whole finds (finds.finds so_far.batches found_now).0

    -- at a bad end
    pub FindsLog-bad : {batch : Batch} {next : LogReplayState} {to : E}
        → FindsNextBatch env read at (Ok BadEnd) batch next to
        → (result : Result (Unit {0}) Status) (later : E) (p : List ℕ) → p ≡ next.path
        → Tells env p to result later → FindsLog env store file old from result memory later
    FindsLog-bad finds = told finds (finds.finds so_far.batches found_now).0

    -- at a record that is no batch
    pub FindsLog-no_batch : {batch : Batch} {next : LogReplayState} {to : E}
        → FindsNextBatch env read at (Ok NoBatch) batch next to
        → (result : Result (Unit {0}) Status) (later : E) (p : List ℕ) → p ≡ next.path
        → Tells env p to result later → FindsLog env store file old from result memory later
    FindsLog-no_batch finds = told finds (finds.finds so_far.batches found_now)

-- ---- exactly the entries of a folder's logs

module _ {E F : Type 0} (env : Ghosts E F) (store : List ℕ) (from : E)
    (modelled : IsTrue env.models_disk) (listing : List ListedFile) (found : List (List Batch))
    (each : Each (IsFoundIn store (env.observed from).disk.files) listing found)
    (are : AreFilesIn env store from listing) where
  abbrev disk : Files
  disk = (env.observed from).disk.files

  -- an entry that is found is in a log
  is_in_log : (entry : Entry) → Contains (found_entries found) entry → IsInLog store disk entry
  is_in_log entry c =
      let batches = in_flat all_entries found entry c in
      let file = each_right (IsFoundIn store disk) listing found each batches.0 batches.1 in
      ⊎_elim
      (λ (log : (file.0.kind ≡ Log)
      × IsFoundAt (disk (in_folder store (string_bytes file.0.name))) batches.0). (
        string_bytes file.0.name,
        log.1.0,
        log.1.1,
        (
          file.0.number,
          subst (λ kind. IsFileName (string_bytes file.0.name) file.0.number kind) log.0
              (All-contains MatchesName listing file.0 are.2.named file.1),
          batches.0,
          log.1.2,
          batches.2,
        ),
      ))
      (λ (other : (file.0.kind ≢ Log) × (batches.0 ≡ [])). absurd (in_none entry
      (subst (λ bs. Contains (all_entries bs) entry) other.1 batches.2)))
      file.2

  -- a log of the folder is among the files
  log_listed : (name : List ℕ) (n : ℕ) → IsFileName name n Log → disk (in_folder store name) ≢ None
      → (file : ListedFile) × Contains listing file × (file.kind ≡ Log)
      × (string_bytes file.name ≡ name)
  log_listed name n is there =
      let c = listed store disk are.0 (are.1 modelled) name (no_slash_in_log name n is) there in
      let at = in_map (λ (file : ListedFile). string_bytes file.name) listing name
      (are.2.all name n Log c is) in
      let reads : IsFileName name at.0.number at.0.kind =
      subst (λ t. IsFileName t at.0.number at.0.kind) at.2
      (All-contains MatchesName listing at.0 are.2.named at.1) in
      (at.0, at.1, (one_reading name at.0.number n at.0.kind Log reads is).1, at.2)

  -- and so what is found of it
  is_found : (entry : Entry) → IsInLog store disk entry → Contains (found_entries found) entry
  is_found entry (name, file, there, has) =
      let at = log_listed name has.0 has.1
      (λ none. let never : Some file ≡ None = sym there ∙ none in cc) in
      let some = each_left (IsFoundIn store disk) listing found each at.0 at.1 in
      ⊎_elim
      (λ (log : (at.0.kind ≡ Log)
      × IsFoundAt (disk (in_folder store (string_bytes at.0.name))) some.0).
      let here : Some log.1.0 ≡ Some file =
      sym log.1.1 ∙ ap (λ t. disk (in_folder store t)) at.3 ∙ there in
      let same_file : log.1.0 ≡ file = cc in
      let same : some.0 ≡ has.2 = one_found_log (bytes_of file) some.0 has.2
      (subst (λ f. IsFoundLog (bytes_of f) some.0) same_file log.1.2) has.3 in
      flat_in all_entries found some.0 entry some.1
      (subst (λ bs. Contains (all_entries bs) entry) (sym same) has.4))
      (λ (other : (at.0.kind ≢ Log) × (some.0 ≡ [])). absurd (other.0 at.2))
      some.2

  pub exactly_in_logs : {C : Type 0} (tables : List (MemTableState C)) → HaveRuns (found_entries found) tables
      → (entry : Entry) → HaveEntry tables entry ↔ IsInLog store disk entry
  exactly_in_logs {C} tables have entry =
      let both = have_entry (found_entries found) tables have entry in (
        λ has. is_in_log entry (both.0 has),
        λ is. both.1 (is_found entry is),
      )

-- ---- all of them

module _ {E F C : Type 0} (env : Ghosts E F) (store : List ℕ) (cmp : C)
    (listing : List ListedFile) (from : E) where
  abbrev listed_files : Files
  listed_files = (env.observed from).disk.files

  abbrev WhyAny : Status → Type 0
  WhyAny = WhyNotFound env.models_disk store listed_files listing

  -- of the first of the files all that is found is in memory
  pub record FindingLogs (count : ℕ) (memory : Memtables C) (at : E) : Type 0 where
    pub still : IsTrue env.models_disk
        → Run (FilesUnchanged listed_files) (env.observed from) (env.observed at)
    pub locks : SameLocks env.models_disk (env.observed from) (env.observed at)
    pub counted : env.failures at ≡ env.failures from
    pub found : List (List Batch)
    pub each : IsTrue env.models_disk → Each (IsFoundIn store listed_files) (take count listing) found
    pub have : HaveEntries (found_entries found) memory
    pub up_to : AreUpTo memory.last memory.latest.kept.entries
    pub cmp_is : memory.cmp ≡ cmp

  pub FindingLogs-none : (memory : Memtables C) → HaveEntries [] memory → memory.cmp ≡ cmp
      → AreUpTo memory.last memory.latest.kept.entries → FindingLogs 0 memory from
  FindingLogs-none memory have cmp_is up_to = record {
    still = λ modelled. begun (env.observed from) refl;
    locks = λ modelled. refl;
    counted = refl;
    found = [];
    each = λ modelled. tt;
    have = have;
    up_to = up_to;
    cmp_is = cmp_is;
  }

  module _ (i : ℕ) {memory : Memtables C} {at : E} (so_far : FindingLogs i memory at)
      (file : ListedFile) (inside : i < length listing) (is : file ≡ get_or listing i file) where
    module _ {result : Result (Unit {0}) Status} {new : Memtables C} {to : E}
        (finds : FindsLog env store file memory at result new to) where
      still_then : IsTrue env.models_disk
          → Run (FilesUnchanged listed_files) (env.observed from) (env.observed to)
      still_then modelled = let first = so_far.still modelled in
          Run-trans first (λ now same. same ∙ first.has) (finds.still modelled)

      locks_then : SameLocks env.models_disk (env.observed from) (env.observed to)
      locks_then modelled = finds.locks modelled ∙ so_far.locks modelled

    -- of one more
    pub FindingLogs-more : {new : Memtables C} {to : E}
        → FindsLog env store file memory at (Ok tt) new to → FindingLogs (i + 1) new to
    FindingLogs-more {new} finds = record {
      still = still_then finds;
      locks = locks_then finds;
      counted = finds.cause.ok ∙ so_far.counted;
      found = so_far.found ++ finds.finds.0 ∷ [];
      each = λ modelled. subst
          (λ fs. Each (IsFoundIn store listed_files) fs (so_far.found ++ finds.finds.0 ∷ []))
          (sym (take_more listing i file inside ∙ ap (λ f. take i listing ++ f ∷ []) (sym is)))
          (each_more (IsFoundIn store listed_files) (take i listing) so_far.found file finds.finds.0
          (so_far.each modelled)
          (subst (λ fs. IsFoundIn store fs file finds.finds.0) (so_far.still modelled).has
          (finds.finds.1 modelled)));
      have = subst (λ es. HaveEntries es new)
          (sym (flat_map-append all_entries so_far.found (finds.finds.0 ∷ [])
          ∙ ap (λ es. found_entries so_far.found ++ es) (append-nil (all_entries finds.finds.0))))
          (finds.finds.2 (found_entries so_far.found) so_far.have);
      up_to = finds.up_to;
      cmp_is = finds.cmp ∙ so_far.cmp_is;
    }

    -- or why not
    one_of : (P : Files → ListedFile → Type 0) → IsTrue env.models_disk
        → Any (P (env.observed at).disk.files) (file ∷ []) → Any (P listed_files) listing
    one_of P modelled some = (
      i,
      file,
      inside,
      sym is,
      subst (λ fs. P fs file) (so_far.still modelled).has
          (alone_is (P (env.observed at).disk.files) file some),
    )

    why_one : (status : Status)
        → WhyNotFound env.models_disk store (env.observed at).disk.files (file ∷ []) status
        → WhyAny status
    why_one status (inl missing) = inl (
      missing.0,
      λ modelled. one_of (λ fs. IsMissingLog store fs) modelled (missing.1 modelled),
    )
    why_one status (inr large) = inr (
      large.0,
      λ modelled. one_of (λ fs. HasLargeBatch store fs) modelled (large.1 modelled),
    )

    pub FindsLogs-stopped : (status : Status) {new : Memtables C} {to : E}
        → FindsLog env store file memory at (Err status) new to
        → FindsLogs env store cmp listing from (Err status) to
    FindsLogs-stopped status {to = to} finds = record {
      still = still_then finds;
      locks = locks_then finds;
      order = tt;
      finds = tt;
      exactly = tt;
      cause = cause_of_error {T = Unit {0}} status
          (λ why. ⊎_elim (λ (memory : IsOutOfMemory status). inl memory)
          (λ other. inr (why_one status other.0, other.1)) why)
          (λ why. ⊎_elim (λ (memory : IsOutOfMemory status). inl (inl memory))
          (λ other. inr other.1) why)
          (subst (λ n. HasCauseOr {T = Unit {0}}
          (WhyNotFound env.models_disk store (env.observed at).disk.files (file ∷ [])) n
          (env.failures to) (Err status)) so_far.counted finds.cause);
    }

  -- of all
  pub FindsLogs-done : (i : ℕ) {memory : Memtables C} {at : E} → FindingLogs i memory at
      → length listing ≤ i → (result : Result (Vec (MemTableState C) Global) Status)
      → IfOk result (λ tables. AreAllTables memory tables.items) → IfErr result IsOutOfMemory
      → FindsLogs env store cmp listing from result at
  FindsLogs-done i {memory} {at} so_far past (Ok tables) all out = record {
    still = so_far.still;
    locks = so_far.locks;
    order = subst (λ c. All (λ (table : MemTableState C). table.cmp ≡ c) tables.items)
        so_far.cmp_is (all (found_entries so_far.found) so_far.have).1;
    finds = (so_far.found, (all (found_entries so_far.found) so_far.have).0, each);
    exactly = λ modelled are. exactly_in_logs env store from modelled listing so_far.found
        (each modelled) are tables.items (all (found_entries so_far.found) so_far.have).0;
    cause = record {
      later = let same = so_far.counted in omega (arith, same);
      ok = so_far.counted;
      uncounted = tt;
      cause = tt;
    };
  }
    where
      each : IsTrue env.models_disk → Each (IsFoundIn store listed_files) listing so_far.found
      each modelled = subst (λ fs. Each (IsFoundIn store listed_files) fs so_far.found)
          (take_all i listing past) (so_far.each modelled)
  FindsLogs-done i {memory} {at} so_far past (Err status) all out = record {
    still = so_far.still;
    locks = so_far.locks;
    order = tt;
    finds = tt;
    exactly = tt;
    cause = record {
      later = let same = so_far.counted in omega (arith, same);
      ok = tt;
      uncounted = λ excused. so_far.counted;
      cause = inl (inl out);
    };
  }
