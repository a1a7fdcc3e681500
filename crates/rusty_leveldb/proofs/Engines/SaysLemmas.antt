-- From the step of the machine that a call is to its row of the headline, and the laws of the
-- relations that the calls name.
use Rattle.std.proofs.Common.{◌≡◌, ⊎_elim, inl, inr, ℕ, Bool, false, List, [], ◌∷◌, ◌++◌, refl, sym, ◌∙◌, ap, subst, Option, Some, None, Ok, Err, IsTrue, append_assoc}
use Rattle.std.specs.Prelude.{map, OnOk, Result}
use Rattle.std.specs.Option.{option_map}
use Rattle.std.specs.declared.cmp.Ordering.{Ordering}
use Rattle.std.proofs.lemmas.Bool.Decides.{Decides-eqb}
use Rattle.std.proofs.lemmas.Slice.Eq.{starts_is}
use Rattle.leveldb_base.specs.Cmp.{bytewise}
use Rattle.leveldb_base.specs.History.{Item}
use Rattle.leveldb_base.specs.declared.error.Status.{Status}
use Rattle.leveldb_base.specs.declared.error.StatusCode.{StatusCode}
use Rattle.leveldb_env.specs.declared.env.Env.{Ghosts}
use Rattle.leveldb_env.specs.Env.{Disk, Files, AppendedAreBytes, in_folder, is_under}
use Rattle.leveldb_env.specs.Env as calls
use Rattle.leveldb_env.specs.Options.{Boxed, OptionsOf}
use Rattle.leveldb_env.proofs.EnvLemmas.{Run-mono}
use Rattle.leveldb_iter.specs.declared.moves.Move.{Move}
use Rattle.leveldb_iter.specs.declared.moves.Step.{Step as WalkStep}
use Rattle.leveldb_iter.specs.declared.snapshot.Snapshot.{Snapshot as HeldSnapshot}
use Rattle.leveldb_files.proofs.Histories.SafeLemmas.{front_honest}
use Rattle.leveldb_files.specs.Histories.Holds.{IsHonest}
use Rattle.leveldb_files.specs.Stores.Format.{Format, Meaning, Agrees, HasCompressorError}
use Rattle.leveldb_files.specs.Stores.Store.{HasNoStore}
use Rattle.leveldb_env.specs.declared.filter.FilterPolicy.{Ghosts as FilterGhosts}
use Rattle.leveldb_store.specs.Tables.BuildTable.{TableChoices}
use Rattle.rusty_leveldb.specs.Headline as headline
use Rattle.rusty_leveldb.specs.Headline.{Batch, UserStore, StoreMode, is_closed, fresh_store, Call, CallOutcome, CallRow}
use Rattle.rusty_leveldb.specs.Machines.State.{Snapshot, Opening, State, Request, open_store, write, get, walk, get_snapshot, release_snapshot, flush, compact_range, close, abandon, Answer, done, found, walked, snapshot, refused}
use Rattle.rusty_leveldb.specs.Machines.Causes.{Setting, CompressorFails, block_format}
use Rattle.rusty_leveldb.specs.Machines.Runs.{new_state}
use Rattle.rusty_leveldb.specs.Machines.Shown.{HasFault, IsEncodingFault, changes_of, snapshot_number, walk_move_of, IsCallOf, IsOutcomeOf, store_mode_of, IsShownAs, IsRowOf, written_by, IsOpenedIn}
use Rattle.rusty_leveldb.specs.Engines.Boxes.{EngineOf, InternalOrder}
use Rattle.rusty_leveldb.specs.Engines.Calls.{EngineAbandons, EngineCloses, EngineCompacts, EngineFlushes, EngineGets, EngineHolds, EngineOpens, EngineReleases, EngineWalks, EngineWrites}
use Rattle.rusty_leveldb.specs.Engines.Engine.{Answers, AnswersAs, IsOpening, Recalls, formats_of, scene}
use Rattle.rusty_leveldb.specs.Engines.Rows.{RepresentsAt}
use Rattle.rusty_leveldb.specs.Engines.Serves.{StandsFor, TakesStep, done_or, found_or, given_engine, refusal_of, setting_between, snapshot_of, snapshot_or}
use Rattle.rusty_leveldb.specs.Engines.Witness.{IsHeldBy, showing_in, stored}
use Rattle.rusty_leveldb.specs.Programs.Lives.{with_name}
use Rattle.rusty_leveldb.specs.Says.{Place, Showing, HasEncodingError, move_for, IsFailure, DoneOr, FoundOr, SnapshotOr, WalkedOr, batch_of, CrashLeaves, IsHeadlineRow, Says, SaysReleased, SaysAbandoned, IsOpenedAs, SaysOpened, HasNothingUnder, ArePrefixesLeft, IsShowing}
use Rattle.rusty_leveldb.specs.Walks.Walks.{move_of, walk_of, walked_or}
use Rattle.rusty_leveldb.proofs.Engines.Crashes.{crash_between, crash_inside}
use Rattle.rusty_leveldb.proofs.Engines.ReadsLemmas.{nothing_stands}
use Rattle.rusty_leveldb.proofs.Headline.RowLemmas.{steps_are_rows}
use Rattle.rusty_leveldb.proofs.Headline.StoryLemmas.{order_after, opens_in_any, opened_format, inside_told, between_told, new_shown}
use Rattle.rusty_leveldb.proofs.Machines.MachineLemmas.{change}
use Rattle.rusty_leveldb.proofs.Programs.CallsMade.{each_led_to, refused_with, same_moves}
use Rattle.rusty_leveldb.proofs.Programs.StoreNames.{named, opens_so}

-- ---- calls

-- the batch of a request is that of its call
same_batch : (request : Request) (answer : Answer) (call : Call) → IsCallOf request answer call
    → written_by request ≡ batch_of call
same_batch (open_store opening) answer call is = sym (ap batch_of is)
same_batch (write items sync) answer call is = sym (ap batch_of is)
same_batch (get at key) answer call is = sym (ap batch_of is)
same_batch (walk at moves) answer call is = sym (ap batch_of is)
same_batch get_snapshot answer call is = sym (ap batch_of is)
same_batch (release_snapshot one) (refused refusal) call is = sym (ap batch_of is.1)
same_batch (release_snapshot one) done call is = sym (ap batch_of is)
same_batch (release_snapshot one) (found value) call is = sym (ap batch_of is)
same_batch (release_snapshot one) (walked landings) call is = sym (ap batch_of is)
same_batch (release_snapshot one) (snapshot other) call is = sym (ap batch_of is)
same_batch flush answer call is = sym (ap batch_of is)
same_batch (compact_range from to) answer call is = sym (ap batch_of is)
same_batch close answer call is = sym (ap batch_of is)
same_batch abandon answer call is = sym (ap batch_of is)

-- a compressor that is told to have failed did, with the code of the refusal
abbrev EncodesFail : Meaning → Answer → CallOutcome → Type 0
EncodesFail meaning (refused refusal) outcome =
    outcome ≡ headline.failed headline.compressor_failed → HasEncodingError meaning refusal.code
EncodesFail meaning answer outcome = Unit {0}

failure_returned : (status : Status) (meaning : Meaning) (outcome : CallOutcome)
    → IsOutcomeOf (refused (refusal_of status)) outcome
    → EncodesFail meaning (refused (refusal_of status)) outcome → IsFailure status meaning outcome
failure_returned status meaning outcome is encodes = (refused_with status outcome is, encodes)

done_returned : {T : Type 0} (result : Result T Status) (meaning : Meaning) (outcome : CallOutcome)
    → IsOutcomeOf (done_or result) outcome → EncodesFail meaning (done_or result) outcome
    → DoneOr result meaning outcome
done_returned (Ok value) meaning outcome is encodes = is
done_returned (Err status) meaning outcome is encodes =
    failure_returned status meaning outcome is encodes

-- a compressor of a format is one of those that ids mean
encoding_error : (format : Format) (meaning : Meaning) (code : StatusCode) → Agrees format meaning
    → HasCompressorError format code → HasEncodingError meaning code
encoding_error format meaning code agrees error =
    (error.id, error.coding, agrees.codings error.id error.coding error.is_set, error.block, error.fails)

-- what an outcome tells of the device
no_encodes : (Encodes : Type 0) (before after : ℕ) (outcome : CallOutcome)
    → HasFault Encodes before after outcome → HasFault (Unit {0}) before after outcome
no_encodes Encodes before after headline.done f = tt
no_encodes Encodes before after (headline.found value) f = tt
no_encodes Encodes before after (headline.walked results) f = f
no_encodes Encodes before after (headline.snapshot number) f = tt
no_encodes Encodes before after (headline.barred mode) f = tt
no_encodes Encodes before after (headline.failed headline.out_of_memory) f = tt
no_encodes Encodes before after (headline.failed headline.device_failed) f = f
no_encodes Encodes before after (headline.failed headline.lock_is_held) f = tt
no_encodes Encodes before after (headline.failed headline.bad_argument) f = tt
no_encodes Encodes before after (headline.failed headline.store_exists) f = tt
no_encodes Encodes before after (headline.failed headline.not_supported) f = tt
no_encodes Encodes before after (headline.failed headline.compressor_failed) f = tt

-- ---- steps

module _ {E C FP F : Type 0} {B : Boxed} (keys : InternalOrder C) (env : Ghosts E F)
    (formats : OptionsOf C FP B → Format) where
  abbrev shown_in : Showing (EngineOf E C FP F B)
  shown_in = showing_in keys env formats

  module _ (place : Place) (before : Option (EngineOf E C FP F B)) (from : E) (request : Request)
      (answer : Answer) (after : Option (EngineOf E C FP F B)) (to : E) (old : State)
      (store : UserStore) (was : RepresentsAt keys env formats place.name place.meaning before from old)
      (shown : IsShownAs old store)
      (goes : TakesStep place.name place.meaning
      (Recalls keys env formats place.name place.meaning) (scene env before from) request answer
      (scene env after to) old) where
    abbrev setting : Setting
    setting = setting_between place.meaning (env.failures from) (env.failures to)

    -- the step is a row
    pub step_row : IsRowOf old.format.order setting old store request answer goes.new
    step_row = steps_are_rows old.format.order setting old goes.new request answer store
        was.disk_is.is_state shown refl goes.step

    -- and so is what a crash leaves inside it
    pub step_crash : (call : Call) → IsCallOf request answer call
        → calls.Run (CrashLeaves shown_in place store (batch_of call)) (env.observed from)
        (env.observed to)
    step_crash call is_call = Run-mono
        (λ files spared left is.
        let c = crash_inside place.name place.meaning old goes.new request files left
        was.disk_is.is_state goes.represents.disk_is.is_state spared is.crashes is.honest is.free in
        let told = inside_told old store was.disk_is.is_state shown request goes.new c.0
        (change setting old goes.new request answer goes.step) c.1 in (
          told.cut,
          ⊎_elim (λ none. inl none)
              (λ some. inr (some ∙ same_batch request answer call is_call)) told.asked,
          told.told.left,
          told.told.row,
          (c.0, c.2, ap (λ (s : State). s.mode) c.1.state, told.told.shown),
        )) goes.moments

    -- the order of keys stays, but in an opening
    pub step_order : (order : List ℕ → List ℕ → Ordering) → old.format.order ≡ order
        → IsOpenedIn order request → goes.new.format.order ≡ order
    step_order order is opened = order_after order old goes.new request is opened
        (change setting old goes.new request answer goes.step)

    -- a row of this call
    pub row_from : (order : List ℕ → List ℕ → Ordering) → old.format.order ≡ order
        → (call : Call) (Returned : Meaning → CallOutcome → Type 0) (After : UserStore → Type 0)
        → (row : IsRowOf old.format.order setting old store request answer goes.new) → row.call ≡ call
        → Returned place.meaning row.outcome → After row.next
        → IsHeadlineRow env shown_in place order store call Returned After from to
    row_from order is call Returned After row is_call returned next = record {
      outcome = row.outcome;
      returned = returned;
      faults = no_encodes _ _ _ row.outcome row.faults;
      next = row.next;
      row = subst (λ o. CallRow o store.mode store call row.outcome row.next) is
          (subst (λ c. CallRow old.format.order store.mode store c row.outcome row.next) is_call
          row.row);
      after = next;
      crash = subst (λ c. calls.Run (CrashLeaves shown_in place store (batch_of c))
          (env.observed from) (env.observed to)) is_call (step_crash row.call row.asked);
    }

  -- what a row tells of compressors, where these are the format's
  row_encodes : (meaning : Meaning) (old : State) (request : Request) (answer : Answer)
      (outcome : CallOutcome) (before after : ℕ)
      → HasFault (IsEncodingFault old request answer) before after outcome
      → ((code : StatusCode) → outcome ≡ headline.failed headline.compressor_failed
      → CompressorFails (block_format old request) code → HasEncodingError meaning code)
      → EncodesFail meaning answer outcome
  row_encodes meaning old request (refused refusal) outcome before after faults encodes =
      λ is. encodes refusal.code is
      (subst (λ o. HasFault (IsEncodingFault old request (refused refusal)) before after o) is faults)
  row_encodes meaning old request done outcome before after faults encodes = tt
  row_encodes meaning old request (found value) outcome before after faults encodes = tt
  row_encodes meaning old request (walked landings) outcome before after faults encodes = tt
  row_encodes meaning old request (snapshot one) outcome before after faults encodes = tt

  -- ---- calls of an open store

  module _ (before : EngineOf E C FP F B) (from : E) (after : EngineOf E C FP F B) (to : E) where
    -- what a call is to the machine
    abbrev Steps : Request → Answer → Type 0
    Steps request answer = Answers keys env formats (Some before) from request answer (Some after) to

    -- what it says
    abbrev SaysOf : Call → (Meaning → CallOutcome → Type 0) → Type 0
    SaysOf call Returned = Says env shown_in before from call Returned after to

    -- a call that is barred where the store is closed, and of which a compressor that fails is one
    -- of the store's format
    pub record Translates (request : Request) (answer : Answer) (call : Call)
        (Returned : Meaning → CallOutcome → Type 0) : Type 0 where
      pub opened : (order : List ℕ → List ℕ → Ordering) → IsOpenedIn order request
      pub is_call : (asked : Call) → IsCallOf request answer asked → asked ≡ call
      pub returned : (meaning : Meaning) (outcome : CallOutcome) → IsOutcomeOf answer outcome
          → EncodesFail meaning answer outcome → Returned meaning outcome
      pub barred : (order : List ℕ → List ℕ → Ordering) (store next : UserStore)
          → CallRow order is_closed store call (headline.failed headline.compressor_failed) next → ⊥
      pub encodes : (old : State) (code : StatusCode) → CompressorFails (block_format old request) code
          → HasCompressorError old.format code

    says_as : (request : Request) (answer : Answer) (call : Call)
        (Returned : Meaning → CallOutcome → Type 0) → Translates request answer call Returned
        → Steps request answer → SaysOf call Returned
    says_as request answer call Returned is step modelled place order store shown =
        let old = shown.0 in
        let goes = step place.name place.meaning modelled old shown.1 in
        let row = step_row place (Some before) from request answer (Some after) to old store shown.1
        shown.2 goes in
        let is_call = is.is_call row.call row.asked in
        row_from place (Some before) from request answer (Some after) to old store shown.1 shown.2
        goes order shown.3 call Returned
        (shown_in.shows place order after (env.observed to).disk) row is_call
        (is.returned place.meaning row.outcome row.told
        (row_encodes place.meaning old request answer row.outcome (env.failures from)
        (env.failures to) row.faults
        (λ code failed fails. encoding_error old.format place.meaning code
        (shown.1.disk_is.agrees (λ closed_so. is.barred old.format.order store row.next
        (subst (λ o. CallRow old.format.order is_closed store call o row.next) failed
        (subst (λ c. CallRow old.format.order is_closed store c row.outcome row.next) is_call
        (subst (λ mode. CallRow old.format.order mode store row.call row.outcome row.next)
        (shown.2.mode ∙ ap store_mode_of closed_so) row.row)))))
        (is.encodes old code fails)))) (
          goes.new,
          goes.represents,
          row.shown,
          step_order place (Some before) from request answer (Some after) to old store shown.1
              shown.2 goes order shown.3 (is.opened order),
        )

    pub says_written : (items : List Item) (sync : Bool) (result : Result (Unit {0}) Status)
        → Steps (write items sync) (done_or result)
        → SaysOf (headline.write (changes_of items) sync) (DoneOr result)
    says_written items sync result = says_as (write items sync) (done_or result)
        (headline.write (changes_of items) sync) (DoneOr result) (record {
          opened = λ order. tt;
          is_call = λ asked is. is;
          returned = done_returned result;
          barred = λ order store next row. absurd (let f : headline.failed headline.compressor_failed
              ≡ headline.barred is_closed = row.0 in cc);
          encodes = λ old code fails. fails;
        })

    pub says_flushed : (result : Result (Unit {0}) Status) → Steps flush (done_or result)
        → SaysOf headline.flush (DoneOr result)
    says_flushed result = says_as flush (done_or result) headline.flush (DoneOr result) (record {
      opened = λ order. tt;
      is_call = λ asked is. is;
      returned = done_returned result;
      barred = λ order store next row. absurd (let f : headline.failed headline.compressor_failed
          ≡ headline.barred is_closed = row.0 in cc);
      encodes = λ old code fails. absurd fails;
    })

    pub says_compacted : (low high : List ℕ) (result : Result (Unit {0}) Status)
        → Steps (compact_range low high) (done_or result)
        → SaysOf headline.compact_range (DoneOr result)
    says_compacted low high result = says_as (compact_range low high) (done_or result)
        headline.compact_range (DoneOr result) (record {
          opened = λ order. tt;
          is_call = λ asked is. is;
          returned = done_returned result;
          barred = λ order store next row. absurd (let f : headline.failed headline.compressor_failed
              ≡ headline.barred is_closed = row.0 in cc);
          encodes = λ old code fails. fails;
        })

    pub says_closed : (result : Result (Unit {0}) Status) → Steps close (done_or result)
        → SaysOf headline.close (DoneOr result)
    says_closed result = says_as close (done_or result) headline.close (DoneOr result) (record {
      opened = λ order. tt;
      is_call = λ asked is. is;
      returned = done_returned result;
      barred = λ order store next row. absurd (let f : headline.failed headline.compressor_failed
          ≡ headline.barred is_closed = row.0 in cc);
      encodes = λ old code fails. absurd fails;
    })

    pub says_found : (at : Option Snapshot) (key : List ℕ) (result : Result (Option (List ℕ)) Status)
        → Steps (get at key) (found_or result)
        → SaysOf (headline.get (snapshot_number at) key) (FoundOr result)
    says_found at key result = says_as (get at key) (found_or result)
        (headline.get (snapshot_number at) key) (FoundOr result) (record {
          opened = λ order. tt;
          is_call = λ asked is. is;
          returned = by result;
          barred = λ order store next row. absurd (let f : headline.failed headline.compressor_failed
              ≡ headline.barred is_closed = row.0 in cc);
          encodes = λ old code fails. absurd fails;
        })
      where
        by : (result : Result (Option (List ℕ)) Status) (meaning : Meaning) (outcome : CallOutcome)
            → IsOutcomeOf (found_or result) outcome → EncodesFail meaning (found_or result) outcome
            → FoundOr result meaning outcome
        by (Ok value) meaning outcome is encodes = is
        by (Err status) meaning outcome is encodes =
            failure_returned status meaning outcome is encodes

    pub says_snapshot : (result : Result HeldSnapshot Status)
        → Steps get_snapshot (snapshot_or result)
        → SaysOf headline.get_snapshot (SnapshotOr result)
    says_snapshot result = says_as get_snapshot (snapshot_or result) headline.get_snapshot
        (SnapshotOr result) (record {
          opened = λ order. tt;
          is_call = λ asked is. is;
          returned = by result;
          barred = λ order store next row. absurd (let f : headline.failed headline.compressor_failed
              ≡ headline.barred is_closed = row.0 in cc);
          encodes = λ old code fails. absurd fails;
        })
      where
        by : (result : Result HeldSnapshot Status) (meaning : Meaning) (outcome : CallOutcome)
            → IsOutcomeOf (snapshot_or result) outcome → EncodesFail meaning (snapshot_or result) outcome
            → SnapshotOr result meaning outcome
        by (Ok value) meaning outcome is encodes = is
        by (Err status) meaning outcome is encodes =
            failure_returned status meaning outcome is encodes

    pub says_walked : (at : Option Snapshot) (moves : List Move) (given : List WalkStep)
        (result : Result (Unit {0}) Status) → Steps (walk_of at moves) (walked_or given result)
        → SaysOf (headline.walk (snapshot_number at) (map walk_move_of (map move_of moves)))
        (WalkedOr given result)
    says_walked at moves given result = says_as (walk_of at moves) (walked_or given result)
        (headline.walk (snapshot_number at) (map walk_move_of (map move_of moves)))
        (WalkedOr given result) (record {
          opened = λ order. tt;
          is_call = λ asked is. is;
          returned = by result;
          barred = λ order store next row. absurd (let f : headline.failed headline.compressor_failed
              ≡ headline.barred is_closed = row.0 in cc);
          encodes = λ old code fails. absurd fails;
        })
      where
        by : (result : Result (Unit {0}) Status) (meaning : Meaning) (outcome : CallOutcome)
            → IsOutcomeOf (walked_or given result) outcome → EncodesFail meaning (walked_or given result) outcome
            → WalkedOr given result meaning outcome
        by (Ok value) meaning outcome is encodes = (is.0, each_led_to given is.0 is.2, is.1)
        by (Err status) meaning outcome is encodes =
            failure_returned status meaning outcome is encodes

    -- the release of a snapshot
    released : (one : HeldSnapshot) (result : Result (Unit {0}) Status) (asked : Call)
        → IsCallOf (release_snapshot (snapshot_of one)) (done_or result) asked
        → (number : ℕ) × OnOk result (number ≡ one.number)
        × (asked ≡ headline.release_snapshot number)
    released one (Ok nothing) asked is = (one.number, refl, is)
    released one (Err status) asked is = (is.0, tt, is.1)

    pub says_released : (one : HeldSnapshot) (result : Result (Unit {0}) Status)
        → Steps (release_snapshot (snapshot_of one)) (done_or result)
        → SaysReleased env shown_in before from one result after to
    says_released one result step modelled place order store shown =
        let old = shown.0 in
        let request = release_snapshot (snapshot_of one) in
        let goes = step place.name place.meaning modelled old shown.1 in
        let row = step_row place (Some before) from request (done_or result) (Some after) to old
        store shown.1 shown.2 goes in
        let named = released one result row.call row.asked in (
          named.0,
          named.1,
          row_from place (Some before) from request (done_or result) (Some after) to old store
              shown.1 shown.2 goes order shown.3 (headline.release_snapshot named.0) (DoneOr result)
              (shown_in.shows place order after (env.observed to).disk) row named.2
              (done_returned result place.meaning row.outcome row.told
              (row_encodes place.meaning old request (done_or result) row.outcome
              (env.failures from) (env.failures to) row.faults
              (λ code failed fails. absurd fails))) (
                goes.new,
                goes.represents,
                row.shown,
                step_order place (Some before) from request (done_or result) (Some after) to old
                    store shown.1 shown.2 goes order shown.3 tt,
              ),
        )

  -- ---- a call that gives the store up

  pub says_abandoned : (before : EngineOf E C FP F B) (from : E)
      (result : Result (Unit {0}) Status) (to : E)
      → Answers keys env formats (Some before) from abandon (done_or result) None to
      → SaysAbandoned env shown_in before from result to
  says_abandoned before from result to step modelled place order store shown =
      let old = shown.0 in
      let goes = step place.name place.meaning modelled old shown.1 in
      let row = step_row place (Some before) from abandon (done_or result) None to old store shown.1
      shown.2 goes in
      row_from place (Some before) from abandon (done_or result) None to old store shown.1 shown.2
      goes order shown.3 headline.abandon (DoneOr result)
      (shown_in.holds place (env.observed to).disk) row row.asked
      (done_returned result place.meaning row.outcome row.told
      (row_encodes place.meaning old abandon (done_or result) row.outcome (env.failures from)
      (env.failures to) row.faults (λ code failed fails. absurd fails)))
      (goes.new, goes.represents.disk_is, goes.represents.memory_is, row.shown)

-- ---- openings

module _ {E C FP F : Type 0} {B : Boxed} (keys : InternalOrder C) (env : Ghosts E F)
    (formats : OptionsOf C FP B → Format) where
  pub says_opened : (name : List ℕ) (asked : Opening) (from : E)
      (result : Result (EngineOf E C FP F B) Status) (to : E)
      → ((opening : Opening) → IsOpening name asked opening → (meaning : Meaning)
      → Agrees opening.format meaning
      → AnswersAs keys env formats name meaning None from (open_store opening) (done_or result)
      (given_engine result) to)
      → SaysOpened env (showing_in keys env formats) name asked.format from result to
  says_opened name asked from result to step modelled meaning agrees store held =
      let fits = named name in
      let opening : Opening = with_name fits.0 asked in
      let place : Place = record { name = name; meaning = meaning } in
      let old = held.0 in
      let was : RepresentsAt keys env formats name meaning None from old =
      record { disk_is = held.1; memory_is = held.2 } in
      let goes = step opening (opens_so name fits.0 asked fits.1) meaning agrees modelled old was in
      let row = step_row keys env formats place None from (open_store opening) (done_or result)
      (given_engine result) to old store was held.3 goes in
      let closed_so : store.mode ≡ is_closed = held.3.mode ∙ ap store_mode_of held.2 in
      record {
        outcome = row.outcome;
        returned = done_returned result meaning row.outcome row.told
            (row_encodes keys env formats meaning old (open_store opening) (done_or result)
            row.outcome (env.failures from) (env.failures to) row.faults
            (λ code failed fails. encoding_error opening.format meaning code agrees fails));
        faults = no_encodes _ _ _ row.outcome row.faults;
        next = row.next;
        row = opens_in_any old.format.order asked.format.order store row.next row.call row.outcome
            closed_so row.asked row.row;
        after = by result row.next goes row.shown;
        crash = subst (λ c. calls.Run (CrashLeaves (showing_in keys env formats) place store
            (batch_of c)) (env.observed from) (env.observed to)) row.asked
            (step_crash keys env formats place None from (open_store opening) (done_or result)
            (given_engine result) to old store was held.3 goes row.call row.asked);
      }
    where
      by : (result : Result (EngineOf E C FP F B) Status) (next : UserStore)
          → (goes : TakesStep name meaning (Recalls keys env formats name meaning)
          (scene env None from) (open_store (with_name (named name).0 asked))
          (done_or result) (scene env (given_engine result) to) held.0)
          → IsShownAs goes.new next
          → IsOpenedAs env (showing_in keys env formats)
          (record { name = name; meaning = meaning }) asked.format.order result
          (env.observed to).disk next
      by (Ok engine) next goes is = (
        goes.new,
        goes.represents,
        is,
        opened_format (setting_between meaning (env.failures from) (env.failures to))
            (with_name (named name).0 asked) held.0 goes.new held.0.mode
            goes.step,
      )
      by (Err status) next goes is =
          (goes.new, goes.represents.disk_is, goes.represents.memory_is, is)

-- ---- the laws

any_format : Format
any_format = record {
  order = bytewise;
  order_name = [];
  codings = λ id. None;
  policy_name = [];
  matches = λ filter key. false;
}

child_is_under : (folder child : List ℕ) → IsTrue (is_under folder (in_folder folder child))
child_is_under folder child =
    (starts_is Decides-eqb (in_folder folder child) (folder ++ 47 ∷ [])
    (is_under folder (in_folder folder child)) refl).1 child
    (sym (append_assoc folder (47 ∷ []) child))

-- of relations by which memory and disk show what the disk does
module _ {M : Type 0}
    (shows : Place → (List ℕ → List ℕ → Ordering) → M → Disk → UserStore → Type 0)
    (on_disk : (place : Place) (order : List ℕ → List ℕ → Ordering) (memory : M) (disk : Disk)
    (store : UserStore) → shows place order memory disk store
    → (state : State) × StandsFor place.name place.meaning disk state × IsShownAs state store) where
  abbrev the_showing : Showing M
  the_showing = record { shows = shows; holds = IsHeldBy; is_honest = IsHonest }

  fresh_held : (place : Place) (disk : Disk) → HasNothingUnder place.name disk
      → AppendedAreBytes disk.files → IsHeldBy place disk (fresh_store [] 0 is_closed)
  fresh_held place disk nothing bytes =
      let none : (child : List ℕ) → (disk.files (in_folder place.name child) ≡ None)
      × (disk.locked (in_folder place.name child) ≡ false) = λ child.
      nothing (in_folder place.name child) (child_is_under place.name child) in
      let bare : HasNoStore place.name disk.files = record {
        no_current = (none _).0;
        no_table = λ child n is. (none child).0;
        no_log = λ child n is. (none child).0;
      } in (
        new_state any_format,
        nothing_stands place.name place.meaning any_format disk bare bytes (none _).1,
        refl,
        new_shown any_format,
      )

  crash_leaves : (place : Place) (disk : Disk) (state : State) (store : UserStore)
      → StandsFor place.name place.meaning disk state → IsShownAs state store
      → CrashLeaves the_showing place store None disk.files
  crash_leaves place disk state store stands shown left is =
      let c = crash_between place.name place.meaning state disk left stands
      (record { files = is.crashes; free = is.free }) is.honest in
      let told = between_told state store stands.is_state shown c.0 c.1 in (
        None,
        inl refl,
        told.left,
        told.row,
        (c.0, c.2, ap (λ (s : State). s.mode) c.1.state, told.shown),
      )

  prefix_honest : (name : List ℕ) (files left : Files) → ArePrefixesLeft files left
      → IsHonest name files left
  prefix_honest name files left are path file crashed journal there is =
      let one = are path file there in
      front_honest file one.0 one.1 one.2 file crashed refl (sym one.3 ∙ is)

  laws : IsShowing the_showing
  laws = record {
    fresh = fresh_held;
    closed = λ place disk store held. held.3.mode ∙ ap store_mode_of held.2;
    crash_held = λ place disk store held. crash_leaves place disk held.0 store held.1 held.3;
    crash_shown = λ place order memory disk store shown.
        let on = on_disk place order memory disk store shown in
        crash_leaves place disk on.0 store on.1 on.2;
    prefixes = prefix_honest;
  }

pub is_showing : {E C FP F : Type 0} {B : Boxed} (keys : InternalOrder C) (env : Ghosts E F)
    (formats : OptionsOf C FP B → Format) → IsShowing (showing_in keys env formats)
is_showing keys env formats = laws (showing_in keys env formats).shows
    (λ place order memory disk store shown. (shown.0, shown.1.disk_is, shown.2))

pub stored_is_showing : IsShowing stored
stored_is_showing = laws stored.shows (λ place order memory disk store shown. absurd shown)

-- ---- by the record of a call

module _ {E C FP F P : Type 0} {B : Boxed} {keys : InternalOrder C} {key_filters : FilterGhosts P}
    {env : Ghosts E F} {choices : OptionsOf C FP B → TableChoices keys key_filters}
    {before : EngineOf E C FP F B} {from : E} {after : EngineOf E C FP F B} {to : E} where
  pub write_says : {items : List Item} {sync : Bool} {result : Result (Unit {0}) Status}
      → EngineWrites env choices before from items sync result after to
      → Says env (showing_in keys env (formats_of choices)) before from (headline.write (changes_of items) sync) (DoneOr result) after to
  write_says {items = items} {sync = sync} {result = result} does =
      says_written keys env (formats_of choices) before from after to items sync result does.step

  pub flush_says : {result : Result (Unit {0}) Status}
      → EngineFlushes env choices before from result after to
      → Says env (showing_in keys env (formats_of choices)) before from headline.flush (DoneOr result) after to
  flush_says {result = result} does =
      says_flushed keys env (formats_of choices) before from after to result does.step

  pub compact_says : {low high : List ℕ} {result : Result (Unit {0}) Status}
      → EngineCompacts env choices before from low high result after to
      → Says env (showing_in keys env (formats_of choices)) before from headline.compact_range (DoneOr result) after to
  compact_says {low = low} {high = high} {result = result} does =
      says_compacted keys env (formats_of choices) before from after to low high result does.step

  pub close_says : {result : Result (Unit {0}) Status}
      → EngineCloses env choices before from result after to → Says env (showing_in keys env (formats_of choices)) before from headline.close (DoneOr result) after to
  close_says {result = result} does =
      says_closed keys env (formats_of choices) before from after to result does.step

  pub get_says : {at : Option Snapshot} {key : List ℕ} {result : Result (Option (List ℕ)) Status}
      → EngineGets env choices before from at key result after to
      → Says env (showing_in keys env (formats_of choices)) before from (headline.get (snapshot_number at) key) (FoundOr result) after to
  get_says {at = at} {key = key} {result = result} does =
      says_found keys env (formats_of choices) before from after to at key result does.step

  pub walk_says : {moves : List Move} {given : List WalkStep} {result : Result (Unit {0}) Status}
      (at : Option HeldSnapshot)
      → EngineWalks env choices before from (option_map snapshot_of at) moves given result after to
      → Says env (showing_in keys env (formats_of choices)) before from
      (headline.walk (option_map (λ one. one.number) at) (map move_for moves))
      (WalkedOr given result) after to
  walk_says {moves = moves} {given = given} {result = result} at does =
      subst (λ number. Says env (showing_in keys env (formats_of choices)) before from
      (headline.walk number (map move_for moves)) (WalkedOr given result) after to) (same_number at)
      (subst (λ ways. Says env (showing_in keys env (formats_of choices)) before from
      (headline.walk (snapshot_number (option_map snapshot_of at)) ways) (WalkedOr given result)
      after to) (same_moves moves)
      (says_walked keys env (formats_of choices) before from after to (option_map snapshot_of at)
      moves given result does.step))
    where
      same_number : (at : Option HeldSnapshot)
          → snapshot_number (option_map snapshot_of at) ≡ option_map (λ (one : HeldSnapshot). one.number) at
      same_number None = refl
      same_number (Some one) = refl

  pub hold_says : {result : Result HeldSnapshot Status}
      → EngineHolds env choices before from result after to
      → Says env (showing_in keys env (formats_of choices)) before from headline.get_snapshot (SnapshotOr result) after to
  hold_says {result = result} does =
      says_snapshot keys env (formats_of choices) before from after to result does.step

  pub release_says : {one : HeldSnapshot} {result : Result (Unit {0}) Status}
      → EngineReleases env choices before from one result after to
      → SaysReleased env (showing_in keys env (formats_of choices)) before from one result after to
  release_says {one = one} {result = result} does =
      says_released keys env (formats_of choices) before from after to one result does.step

module _ {E C FP F : Type 0} {B : Boxed} {keys : InternalOrder C} {env : Ghosts E F}
    {formats : OptionsOf C FP B → Format} {before : EngineOf E C FP F B} {from to : E}
    {result : Result (Unit {0}) Status} where
  pub abandon_says : EngineAbandons keys env formats before from result to
      → SaysAbandoned env (showing_in keys env formats) before from result to
  abandon_says does = says_abandoned keys env formats before from result to does.step

module _ {E C FP F P : Type 0} {B : Boxed} {keys : InternalOrder C} {key_filters : FilterGhosts P}
    {env : Ghosts E F} {choices : OptionsOf C FP B → TableChoices keys key_filters}
    {name : List ℕ} {options : OptionsOf C FP B} {asked : Opening} {from to : E}
    {result : Result (EngineOf E C FP F B) Status} where
  pub open_says : EngineOpens env choices name options asked from result to
      → SaysOpened env (showing_in keys env (formats_of choices)) name asked.format from result to
  open_says does = says_opened keys env (formats_of choices) name asked from result to does.step
