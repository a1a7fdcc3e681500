-- An opening that ends under its lock: the store isn't opened and the lock is given back, or it is
-- opened.
use Rattle.std.specs.Prelude.{Result, if◌then◌else◌, is_ok}
use Rattle.std.proofs.Common.{◌≡◌, ◌≢◌, ◌<◌, ◌≤◌, ◌⊎◌, ◌∙◌, ⊎_elim, inl, inr, ℕ, Bool, true, false, List, refl, sym, ap, subst, arith, Some, None, Ok, Err, IsTrue}
use Rattle.leveldb_base.specs.Error.{IsOutOfMemory, text_of}
use Rattle.leveldb_base.specs.Names.{file_name}
use Rattle.leveldb_base.specs.declared.error.Status.{Status}
use Rattle.leveldb_base.specs.declared.error.StatusCode.TheVariants.{NotSupported}
use Rattle.leveldb_base.specs.declared.types.FileType.TheVariants.{DBLock}
use Rattle.leveldb_env.specs.Env.{BeforeOrAfter, ChangesFiles, ChangesLocks, Files, FilesUnchanged, HasCause, Run, created, lock_set, same}
use Rattle.leveldb_env.specs.Options.{Boxed, OptionsOf}
use Rattle.leveldb_env.specs.declared.env.Env.{Ghosts}
use Rattle.leveldb_env.specs.declared.filter.FilterPolicy.{Ghosts as FilterGhosts}
use Rattle.leveldb_env.proofs.EnvLemmas.{Run-call, Run-mono, Run-trans, SameBut-created, call}
use Rattle.leveldb_files.proofs.Steps.BytesLemmas.{bytes_stay}
use Rattle.leveldb_files.specs.Stores.Contents.{made}
use Rattle.leveldb_files.specs.Histories.Holds.{Holds}
use Rattle.leveldb_files.specs.Stores.Paths.{lock_path}
use Rattle.leveldb_files.specs.Steps.StoreSteps.{AppendedAreBytes}
use Rattle.leveldb_store.specs.Tables.BuildTable.{TableChoices}
use Rattle.leveldb_files.specs.Stores.Format.{Agrees, Format, HasCompressorError, Meaning}
use Rattle.leveldb_store.proofs.Keeping.KeptBytesLemmas.{loses_made, loses_none, meanwhile_then}
use Rattle.leveldb_store.specs.Logs.FoundLogs.{HasLogNotKept}
use Rattle.leveldb_store.specs.Keeping.KeptBytes.{IsNotReplaced, LosesNothing}
use Rattle.leveldb_store.specs.Keeping.OpenStore.{OpenStoreValue}
use Rattle.leveldb_store.specs.Openings.OpensStore.{FailsToOpen, HasOtherComparator, LacksUsableEdits, WhyNotOpenable}
use Rattle.leveldb_store.specs.Writing.Room.{FailsFor, HasFailed}
use Rattle.leveldb_store.specs.Keeping.SoundCall.{BytesAreAppended}
use Rattle.rusty_leveldb.specs.Engines.Boxes.{InternalOrder}
use Rattle.rusty_leveldb.specs.Engines.Calls.{EngineOpens}
use Rattle.rusty_leveldb.specs.Machines.Causes.{Cause, IsCausedBy, Setting, bad_operand, compressor_failed, device_failed, out_of_memory, store_exists, too_large}
use Rattle.rusty_leveldb.specs.Engines.Engine.{AnswersAs, formats_of, IsOpening, IsStoreName, Recalls, scene}
use Rattle.rusty_leveldb.specs.Engines.Frame.{IsOwn, Spares}
use Rattle.rusty_leveldb.specs.Machines.Machine.{IsEarly}
use Rattle.rusty_leveldb.specs.Engines.Serves.{TakesStep, IsSpared, Reads, Represents, refusal_of, setting_between}
use Rattle.rusty_leveldb.specs.Machines.State.{Opening, State, open_store, refused}
use Rattle.rusty_leveldb.specs.Openings.Unopened.{FailsToUnlock, MakesLockAlone, OpenExcused}
use Rattle.rusty_leveldb.proofs.Openings.LeftOpeningLemmas.{LeavesUnopened}
use Rattle.rusty_leveldb.proofs.Openings.LockLemmas.{lock_edits, lock_reads}
use Rattle.rusty_leveldb.proofs.Machines.MachineLemmas.{risk_opening}
use Rattle.rusty_leveldb.proofs.Openings.OpeningLemmas.{contents, fits_or_not, is_sound, lock_spares, opening_holds, opening_run, other_lacks, taken_holds}
use Rattle.rusty_leveldb.proofs.Engines.ReadsLemmas.{IsNamed}
use Rattle.rusty_leveldb.proofs.Engines.RowLemmas.{unopened_row}
use Rattle.rusty_leveldb.proofs.Openings.UnderLockLemmas.{IsTaken, LooksNoFurther, but, excused_late, late_spares, made_aside, never_here, own_not_aside, same_current, set_other, set_same, unlock_failed, unlock_fails}
use Rattle.rusty_leveldb.proofs.Openings.UnopenedLemmas.{comparator_there, found_in, in_order, lacking, not_kept_causes, other, unwanted}
use Rattle.rusty_leveldb.proofs.Openings.UnopenedStepLemmas.{settles, unopened_goes}

pub made_bytes : (store : List ℕ) (files now : Files)
    → BeforeOrAfter (created (lock_path store)) files now → AppendedAreBytes files
    → AppendedAreBytes now
made_bytes store files now (inl is) bytes = subst AppendedAreBytes (sym is) bytes
made_bytes store files now (inr is) bytes =
    subst AppendedAreBytes (sym is) ((bytes_stay files bytes).make (lock_path store))

module _ {E C FP F P : Type 0} {B : Boxed} {keys : InternalOrder C} {key_filters : FilterGhosts P}
    (env : Ghosts E F) (choices : OptionsOf C FP B → TableChoices keys key_filters)
    (options : OptionsOf C FP B) (store : List ℕ) (asked : Opening) (from taken opened to : E)
    (e : Status)
    (took : IsTrue env.models_disk → IsTaken store (env.observed from) (env.observed taken))
    (opens : LeavesUnopened env store asked.format asked.create_if_missing asked.error_if_exists taken
    opened)
    (opens_cause : FailsFor {T = OpenStoreValue C} (FailsToOpen env store (choices options)
    asked.create_if_missing asked.error_if_exists taken opened) (env.failures taken)
    (env.failures opened) (Err e))
    (asked_is : formats_of choices options ≡ asked.format)
    (bytes_go : BytesAreAppended env taken opened)
    (result : Result (Unit {0}) Status)
    (does : ChangesFiles env.models_disk same FilesUnchanged (env.observed opened) (env.observed to)
    result)
    (lock : List ℕ) (lock_is : lock ≡ lock_path store)
    (relocks : ChangesLocks env.models_disk (lock_set lock false) (env.observed opened)
    (env.observed to) result)
    (freed : HasCause (λ _. ⊥) (env.failures opened) (env.failures to) result)
    (counted : env.failures taken ≡ env.failures from) where
  abbrev formats : OptionsOf C FP B → Format
  formats = formats_of choices

  abbrev here : Files
  here = (env.observed taken).disk.files

  abbrev mid : ℕ
  mid = env.failures opened

  later : env.failures from ≤ mid
  later = omega (arith, counted, opens_cause.later)

  -- why it isn't opened
  why : OpenExcused env store (choices options) asked from e ⊎ HasFailed (env.failures from) mid
  why = ⊎_elim
      (λ (fails : FailsToOpen env store (choices options) asked.create_if_missing
      asked.error_if_exists taken opened e). inl
      (excused_late env store asked from taken took (choices options) asked_is opened e fails))
      (λ count. inr (⊎_elim
      (λ (more : env.failures taken < mid). inl (omega (arith, more, counted)))
      (λ full. inr (sym counted ∙ full)) count)) opens_cause.cause

  -- it isn't opened for these causes, by the format that is asked for
  abbrev FailsAsked : Type 0
  FailsAsked = IsOutOfMemory e
      ⊎ ((WhyNotOpenable env store asked.format asked.create_if_missing asked.error_if_exists taken e
      ⊎ HasLogNotKept (choices options) env.models_disk store here e) × (mid ≡ env.failures taken))

  fails_asked : FailsToOpen env store (choices options) asked.create_if_missing
      asked.error_if_exists taken opened e → FailsAsked
  fails_asked (inl memory) = inl memory
  fails_asked (inr (inl openable, count)) = inr (
    inl (subst (λ f. WhyNotOpenable env store f asked.create_if_missing asked.error_if_exists taken e)
        asked_is openable),
    count,
  )
  fails_asked (inr (inr log, count)) = inr (inr log, count)

  -- the lock is as it was, or held still since giving it back failed
  module _ (modelled : IsTrue env.models_disk) where
    same_locks : (env.observed opened).disk.locked ≡ (env.observed taken).disk.locked
    same_locks = opens.locks modelled

    end_files : (env.observed to).disk.files ≡ (env.observed opened).disk.files
    end_files = does.now modelled

    unlock_end : ((env.observed to).disk.locked (lock_path store)
        ≡ (env.observed from).disk.locked (lock_path store))
        ⊎ (((env.observed to).disk.locked (lock_path store) ≡ true)
        × FailsToUnlock env opened to)
    unlock_end = by result (relocks modelled) does relocks freed
      where
        by : (r : Result (Unit {0}) Status)
            → (env.observed to).disk.locked ≡ (if is_ok r
            then lock_set lock false (env.observed opened).disk.locked
            else (env.observed opened).disk.locked)
            → ChangesFiles env.models_disk same FilesUnchanged (env.observed opened)
            (env.observed to) r
            → ChangesLocks env.models_disk (lock_set lock false) (env.observed opened)
            (env.observed to) r
            → HasCause (λ _. ⊥) mid (env.failures to) r
            → ((env.observed to).disk.locked (lock_path store)
            ≡ (env.observed from).disk.locked (lock_path store))
            ⊎ (((env.observed to).disk.locked (lock_path store) ≡ true)
            × FailsToUnlock env opened to)
        by (Ok nothing) set files locks cause = inl (ap (λ (l : List ℕ → Bool). l (lock_path store)) set
            ∙ ap (λ n. lock_set n false (env.observed opened).disk.locked (lock_path store)) lock_is
            ∙ set_same (lock_path store) false (env.observed opened).disk.locked
            ∙ sym (took modelled).was_free)
        by (Err status) set files locks cause = inr (
          ap (λ (l : List ℕ → Bool). l (lock_path store)) (set ∙ same_locks) ∙ (took modelled).held,
          unlock_fails env (lock_set lock false) opened to status files locks cause,
        )

    lock_end : ((env.observed to).disk.locked (lock_path store)
        ≡ (env.observed from).disk.locked (lock_path store))
        ⊎ (((env.observed to).disk.locked (lock_path store) ≡ true)
        × HasFailed mid (env.failures to))
    lock_end = ⊎_elim (λ still. inl still)
        (λ held. inr (held.0, unlock_failed env opened to held.1)) unlock_end

    other_locks : (path : List ℕ) → path ≢ lock_path store
        → (env.observed to).disk.locked path ≡ (env.observed taken).disk.locked path
    other_locks path differs = by result (relocks modelled)
      where
        by : (r : Result (Unit {0}) Status)
            → (env.observed to).disk.locked ≡ (if is_ok r
            then lock_set lock false (env.observed opened).disk.locked
            else (env.observed opened).disk.locked)
            → (env.observed to).disk.locked path ≡ (env.observed taken).disk.locked path
        by (Ok nothing) set = ap (λ (l : List ℕ → Bool). l path) set
            ∙ set_other lock false (env.observed opened).disk.locked path
            (λ is. differs (is ∙ lock_is)) ∙ ap (λ (l : List ℕ → Bool). l path) same_locks
        by (Err status) set = ap (λ (l : List ℕ → Bool). l path) (set ∙ same_locks)

    spares : Spares store (IsOwn store) (env.observed from).disk (env.observed to).disk
    spares = late_spares store (env.observed from) (env.observed taken) (env.observed to)
        (took modelled)
        (λ path foreign no_aside. ap (λ (f : Files). f path) end_files
        ∙ opens.others modelled path foreign) other_locks

    -- where it looks no further, all files stay
    unchanged : LooksNoFurther store asked here
        → Run (FilesUnchanged here) (env.observed taken) (env.observed opened)
    unchanged looks = opens.stays modelled looks

    made_run : LooksNoFurther store asked here
        → MakesLockAlone store (env.observed from) (env.observed to)
    made_run looks =
        let both = Run-trans (took modelled).run (λ files is.
        subst (BeforeOrAfter (created (lock_path store)) (env.observed from).disk.files) (sym is)
        (took modelled).run.has) (unchanged looks) in
        call modelled both (λ files is.
        subst (BeforeOrAfter (created (lock_path store)) (env.observed from).disk.files) (sym is)
        both.has) does

    -- ---- the step

    module _ (opening : Opening) (is : IsOpening store asked opening) (meaning : Meaning)
        (agrees : Agrees opening.format meaning) (old : State)
        (was : Represents store meaning (Recalls keys env formats store meaning) None
        (env.observed from).disk old) where
      same_format : opening.format ≡ asked.format
      same_format = ap (λ (o : Opening). o.format) is.same

      opens_so : LeavesUnopened env store opening.format asked.create_if_missing
          asked.error_if_exists taken opened
      opens_so = subst (λ (f : Format). LeavesUnopened env store f asked.create_if_missing
          asked.error_if_exists taken opened) (sym same_format) opens

      bytes_taken : AppendedAreBytes here
      bytes_taken = made_bytes store (env.observed from).disk.files here (took modelled).run.has
          was.disk_is.bytes

      bytes_end : AppendedAreBytes (env.observed to).disk.files
      bytes_end = subst AppendedAreBytes (sym end_files) (bytes_go modelled bytes_taken)

      abbrev Spared : Files → Type 0
      Spared = IsSpared store meaning old (risk_opening opening old)

      early_run : Run Spared (env.observed from) (env.observed taken)
      early_run = Run-mono (λ files passes. lock_spares store meaning opening agrees
          (env.observed from) old was.disk_is files
          (SameBut-created (lock_path store) (env.observed from).disk.files files passes))
          (took modelled).run

      then_freed : Run Spared (env.observed taken) (env.observed opened)
          → Run Spared (env.observed from) (env.observed to)
      then_freed run =
          let both = Run-trans early_run (λ files s. s) run in
          call modelled both (λ files is. subst Spared (sym is) both.has) does

      -- with the causes that come early all files stay
      abbrev Late : Type 0
      Late = (cause : Cause) × IsCausedBy (setting_between meaning (env.failures from) mid) old
          (open_store opening) (refusal_of e) cause
          × ((IsEarly cause → ⊥) ⊎ LooksNoFurther store asked here)

      abbrev setting : Setting
      setting = setting_between meaning (env.failures from) mid

      other_there : HasOtherComparator store asked.format here
          → HasOtherComparator store asked.format (env.observed from).disk.files
      other_there one = record {
        edits = one.edits;
        has_edits = lock_edits store here (env.observed from).disk.files
            (λ path apart. sym (but env store asked from taken took modelled path apart)) one.edits
            one.has_edits;
        name = one.name;
        named = one.named;
        other = one.other;
      }

      lacks : HasOtherComparator store asked.format (env.observed from).disk.files
          → LacksUsableEdits store asked.format here
      lacks one = subst (λ (f : Format). LacksUsableEdits store f here) same_format
          (other_lacks store meaning opening agrees (env.observed from) old was.disk_is here
          (but env store asked from taken took modelled) one.name
          (comparator_there store meaning (env.observed from).disk.files old.store
          (found_in store meaning (env.observed from).disk old was.disk_is) one.edits one.has_edits
          one.name one.named)
          (λ same_name. one.other (same_name ∙ ap (λ (f : Format). f.order_name) same_format)))

      late_of : FailsAsked ⊎ HasFailed (env.failures taken) mid → Late
      late_of (inl (inl memory)) =
          (out_of_memory, (tt, memory.0, ap text_of memory.1), inl (λ never. never))
      late_of (inl (inr (inl (inl bare), count))) =
          absurd ((took modelled).there (bare.1 modelled (file_name DBLock 0)))
      late_of (inl (inr (inl (inr (inl (inl there))), count))) = (
        store_exists,
        (
          there.0,
          unwanted env store meaning asked opening is agrees from modelled old was.disk_is setting e
              there.1 (λ gone. there.2 modelled
              (same_current env store asked from taken took modelled ∙ gone)),
        ),
        inr (inl (inl (there.1, there.2 modelled))),
      )
      late_of (inl (inr (inl (inr (inl (inr none))), count))) = (
        bad_operand,
        (
          none.0,
          inr (lacking env store meaning asked opening is agrees from modelled old was.disk_is setting
              e none.1 (sym (same_current env store asked from taken took modelled) ∙ none.2 modelled)),
        ),
        inr (inl (inr (none.1, none.2 modelled))),
      )
      late_of (inl (inr (inl (inr (inr (inl one))), count))) =
          let there = other_there (one.1 modelled) in (
            bad_operand,
            (
              one.0,
              inr (other env store meaning asked opening is agrees from modelled old was.disk_is setting
                  e there),
            ),
            inr (inr (inr (lacks there))),
          )
      late_of (inl (inr (inl (inr (inr (inr (inl damage)))), count))) =
          let found = found_in store meaning (env.observed from).disk old was.disk_is in
          let read = in_order store asked.format (env.observed from).disk.files meaning
          (subst (λ (f : Format). f.order ≡ meaning.orders f.order_name) same_format agrees.order)
          found.contents found.read in
          absurd (damage.1 modelled meaning read.0 found.contents read.1
          (lock_reads store (env.observed from).disk.files here
          (but env store asked from taken took modelled) meaning read.0 found.contents read.2))
      late_of (inl (inr (inl (inr (inr (inr (inr not)))), count))) =
          (too_large, (tt, not.0), inl (λ never. never))
      late_of (inl (inr (inr log, count))) =
          ⊎_elim
          (λ (memory : IsOutOfMemory e).
          (out_of_memory, (tt, memory.0, ap text_of memory.1), inl (λ never. never)))
          (λ other. ⊎_elim
          (λ (code : e.code ≡ NotSupported). (too_large, (tt, code), inl (λ never. never)))
          (λ fails. (
            compressor_failed,
            subst (λ (f : Format). HasCompressorError f e.code) (asked_is ∙ sym same_format) fails,
            inl (λ never. never),
          )) other) (not_kept_causes (choices options) log.batches e log.fails)
      late_of (inr (inl more)) =
          (device_failed, (tt, inl (omega (arith, more, counted))), inl (λ never. never))
      late_of (inr (inr full)) =
          (device_failed, (tt, inr (sym counted ∙ full)), inl (λ never. never))

      abbrev Refused : Type 0
      Refused = TakesStep store meaning (Recalls keys env formats store meaning)
          (scene env None from) (open_store opening) (refused (refusal_of e))
          (scene env None to) old

      -- all files have stayed
      stays_goes : LooksNoFurther store asked here → (cause : Cause) → IsCausedBy setting old (open_store opening)
          (refusal_of e) cause → Refused
      stays_goes barred cause comes =
          unopened_goes env formats store meaning opening from old was to e old.store (inl refl)
          (taken_holds store meaning opening agrees (env.observed from) old was.disk_is
          (env.observed to) (SameBut-created (lock_path store) (env.observed from).disk.files
          (env.observed to).disk.files (made_run barred).has))
          bytes_end
          (then_freed (Run-mono (λ files is. subst Spared (sym is) early_run.has)
          (unchanged barred)))
          spares mid later freed.later lock_end cause comes (λ early. refl)

      -- some may have changed
      settles_goes : IsNamed opening.format.order_name old.store → (cause : Cause)
          → IsCausedBy setting old (open_store opening) (refusal_of e) cause → (IsEarly cause → ⊥)
          → Refused
      settles_goes fits cause comes late =
          let same_but = but env store asked from taken took modelled in
          let keeps = opens_so.keeps modelled meaning agrees
          (contents store meaning opening agrees (env.observed from) old was.disk_is fits
          (env.observed taken) same_but bytes_taken)
          (is_sound store meaning opening agrees (env.observed from) old was.disk_is fits
          (env.observed taken) same_but bytes_taken) in
          let settled = settles store meaning opening old.store (env.observed opened).disk.files
          old.history old.last old.durable old.pending
          (opening_holds store meaning opening agrees (env.observed from) old was.disk_is fits
          (env.observed taken) same_but bytes_taken (env.observed opened) keeps) in
          unopened_goes env formats store meaning opening from old was to e settled.there settled.stays
          (subst (λ (f : Files). Holds store (Reads store meaning) (λ now. now ≡ settled.there) f
          old.history old.last old.durable old.pending) (sym end_files) settled.holds)
          bytes_end
          (then_freed (opening_run store meaning opening agrees (env.observed from) old was.disk_is fits
          (env.observed taken) same_but bytes_taken (env.observed opened) keeps))
          spares mid later freed.later lock_end cause comes (λ early. absurd (late early))

      pub late_goes : Refused
      late_goes =
          let why_so = late_of (⊎_elim (λ fails. inl (fails_asked fails)) (λ count. inr count)
          opens_cause.cause) in
          ⊎_elim
          (λ (late : IsEarly why_so.0 → ⊥). ⊎_elim
          (λ (fits : IsNamed opening.format.order_name old.store).
          settles_goes fits why_so.0 why_so.1 late)
          (λ (differs : (name : List ℕ) × (old.store ≡ made (Some name))
          × (name ≢ opening.format.order_name)).
          stays_goes (inr (inr (subst (λ (f : Format). LacksUsableEdits store f here) same_format
          (other_lacks store meaning opening agrees (env.observed from) old was.disk_is here
          (but env store asked from taken took modelled) differs.0 differs.1 differs.2))))
          why_so.0 why_so.1)
          (fits_or_not store meaning opening agrees (env.observed from) old was.disk_is))
          (λ (barred : LooksNoFurther store asked here). stays_goes barred why_so.0 why_so.1) why_so.2

  -- the step, if the options say of names and ids what they mean
  stepped : (opening : Opening) → IsOpening store asked opening → (meaning : Meaning)
      → Agrees opening.format meaning
      → AnswersAs keys env formats store meaning None from (open_store opening)
      (refused (refusal_of e)) None to
  stepped opening is meaning agrees modelled old was =
      late_goes modelled opening is meaning agrees old was

  -- neither the lock nor the opening loses a byte
  nothing_lost : LosesNothing env store from to
  nothing_lost modelled there = meanwhile_then env store
      (Run-mono
      (λ now made. loses_made (IsNotReplaced store) (lock_path store) (env.observed from).disk.files now made)
      (took modelled).run)
      (meanwhile_then env store
      (opens.kept modelled
      (λ gone. there (sym (same_current env store asked from taken took modelled) ∙ gone)))
      (Run-mono (λ now same. loses_none (IsNotReplaced store) (env.observed opened).disk.files now same)
      (Run-call modelled does)))

  pub late_opens : IsStoreName store × IsTrue asked.fits × IsTrue asked.compresses
      → EngineOpens env choices store options asked from (Err e) to
  late_opens well = record {
    ok = tt;
    err = λ opening is meaning agrees. unopened_row keys env formats store opening meaning from to e
        (stepped opening is meaning agrees);
    found = tt;
    opened = tt;
    ends = tt;
    tidy = tt;
    held = tt;
    others = spares;
    aside = λ modelled path is some.
        ap (λ (f : Files). f path) (end_files modelled)
        ∙ opens.others modelled path (own_not_aside store path is)
        ∙ made_aside store (env.observed from).disk.files here (took modelled).run.has path is some;
    step = stepped;
    time = λ modelled.
        let first = (took modelled).run.time.later in
        let second = opens.time modelled in
        let third = does.time.later in omega (arith, first, second, third);
    misnamed = λ no. absurd (no well);
    never_opens = λ modelled never.
        (tt, made_run modelled (never_here env store asked from taken took modelled never));
    kept = nothing_lost;
    unopened = λ modelled. ⊎_elim (λ same_lock. inl same_lock)
        (λ held. inr (record {
          held = held.0;
          mid = opened;
          later = later;
          time = λ told.
              let first = (took told).run.time.later in
              let second = opens.time told in omega (arith, first, second);
          ended = why;
          unlock = held.1;
        })) (unlock_end modelled);
    cause = record {
      later = omega (arith, later, freed.later);
      cause = ⊎_elim (λ (because : OpenExcused env store (choices options) asked from e). inl because)
          (λ (failed : HasFailed (env.failures from) mid). inr (⊎_elim
          (λ (less : env.failures from < mid). inl (omega (arith, less, freed.later)))
          (λ full. inr full) failed)) why;
    };
  }
