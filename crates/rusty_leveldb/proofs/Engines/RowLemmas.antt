-- From the step of the machine that a call is to its row.
use Rattle.std.specs.Prelude.{OnOk, OnErr, IfOk, IfErr, Result, map}
use Rattle.std.proofs.Common.{◌≡◌, ◌⊎◌, inl, inr, ℕ, Bool, List, Option, Some, None, refl, sym, subst, Ok, Err}
use Rattle.leveldb_base.specs.History.{Item}
use Rattle.leveldb_base.specs.declared.error.Status.{Status}
use Rattle.leveldb_env.specs.Env as calls
use Rattle.leveldb_env.specs.declared.env.Env.{Ghosts}
use Rattle.leveldb_env.specs.Options.{Boxed, OptionsOf}
use Rattle.leveldb_iter.specs.declared.moves.Move.{Move}
use Rattle.leveldb_iter.specs.declared.moves.Step.{Step as WalkStep}
use Rattle.leveldb_iter.specs.declared.snapshot.Snapshot.{Snapshot as HeldSnapshot}
use Rattle.leveldb_files.specs.Stores.Format.{Format, Meaning}
use Rattle.rusty_leveldb.specs.Engines.Boxes.{EngineOf, InternalOrder}
use Rattle.rusty_leveldb.specs.Machines.Causes.{Cause, out_of_memory, device_failed, lock_is_held, bad_operand, store_exists, used_up, too_large, compressor_failed, lacks_compressor, IsCausedBy, IsBrokenRefusal, IsClosedRefusal, Setting}
use Rattle.rusty_leveldb.specs.Engines.Engine.{Answers, AnswersAs}
use Rattle.rusty_leveldb.specs.Machines.Machine.{AllDurable, Breaks, Closes, Gives, Keeps, KeepsOrBreaks, LeavesRefused, Opens, Rejects, Releases, Risk, Step, Writes, added_batch, risk_between, risk_of}
use Rattle.rusty_leveldb.specs.Engines.Rows.{FindsValue, FromEachState, FromStatesOf, IsAbandoned, IsMemoryOrDevice, NotClosed, NotCompacted, NotFlushed, NotOpened, NotUnlocked, NotWritten, RejectsByMode, Row, StaysAsItWas, WalksView}
use Rattle.rusty_leveldb.specs.Engines.Serves.{IsSpared, done_or, found_or, refusal_of, setting_between, snapshot_of, snapshot_or}
use Rattle.rusty_leveldb.specs.Machines.State.{Answer, Mode, Opening, open_mode, open_store, broken, closed, Request, Snapshot, State, abandon, close, compact_range, done, flush, found, get, get_snapshot, refused, release_snapshot, snapshot, walked, write}
use Rattle.rusty_leveldb.specs.Walks.Walks.{landing_of, walk_of, walked_or}

-- ---- from a step to a row

-- nothing has changed
kept : (old new : State) → new ≡ old → Keeps old new
kept old new same = subst (λ s. Keeps old s) (sym same) (record { state = refl; durable = inl refl })

-- a step of any mode, with this answer, is one of this row
abbrev IsRowOf : Request → Answer → Row → Type 0
IsRowOf request answer row = (setting : Setting) (old new : State) (mode : Mode)
    → Step mode setting old request answer new → row setting old new

writes : (items : List Item) (sync : Bool)
    → IsRowOf (write items sync) done (λ _ old new. Writes old items sync new)
writes items sync setting old new closed step = absurd step
writes items sync setting old new broken step = absurd step
writes items sync setting old new open_mode step = step.1

module _ (items : List Item) (sync : Bool) (e : Status) (setting : Setting) (old new : State) where
  left : (cause : Cause) → IsCausedBy setting old (write items sync) (refusal_of e) cause
      → KeepsOrBreaks old cause (added_batch old items) new → NotWritten items e setting old new
  left out_of_memory comes (inl keeps) = inl keeps
  left out_of_memory comes (inr breaks) = inr (inl comes.1, breaks.1)
  left device_failed comes (inl keeps) = inl keeps
  left device_failed comes (inr breaks) = inr (inr comes.1, breaks.1)
  left cause comes (inl keeps) = inl keeps
  left cause comes (inr breaks) = absurd breaks.0

not_written : (items : List Item) (sync : Bool) (e : Status)
    → IsRowOf (write items sync) (refused (refusal_of e)) (NotWritten items e)
not_written items sync e setting old new closed step = inl (kept old new step.1)
not_written items sync e setting old new broken step = inl (kept old new step.1)
not_written items sync e setting old new open_mode step =
    left items sync e setting old new step.cause step.comes step.leaves

flushes : IsRowOf flush done (λ _ old new. AllDurable old new)
flushes setting old new closed step = absurd step
flushes setting old new broken step = absurd step
flushes setting old new open_mode step = step.1

compacts : (low high : List ℕ)
    → IsRowOf (compact_range low high) done (λ _ old new. Keeps old new)
compacts low high setting old new closed step = absurd step
compacts low high setting old new broken step = absurd step
compacts low high setting old new open_mode step = step.1

-- a request that its mode refuses
rejects_closed : (e : Status) (old new : State) → old.mode ≡ closed
    → Rejects IsClosedRefusal old (refused (refusal_of e)) new → RejectsByMode e old new
rejects_closed e old new is rejects = inl (is, rejects)

rejects_broken : (e : Status) (old new : State) → old.mode ≡ broken
    → Rejects IsBrokenRefusal old (refused (refusal_of e)) new → RejectsByMode e old new
rejects_broken e old new is rejects = inr (is, rejects)

module _ (e : Status) (setting : Setting) (old new : State) where
  left_unsynced : (cause : Cause) → IsCausedBy setting old flush (refusal_of e) cause
      → LeavesRefused setting old flush (refusal_of e) cause new → NotFlushed e setting old new
  left_unsynced out_of_memory comes (inl keeps) = inr (inl (comes.1, inl keeps))
  left_unsynced out_of_memory comes (inr breaks) = inr (inl (comes.1, inr breaks.1))
  left_unsynced device_failed comes breaks = inr (inr (comes.1, breaks))
  left_unsynced lock_is_held comes leaves = absurd comes.0
  left_unsynced bad_operand comes leaves = absurd comes.1
  left_unsynced store_exists comes leaves = absurd comes.1
  left_unsynced used_up comes leaves = absurd comes.1
  left_unsynced too_large comes leaves = absurd comes.0
  left_unsynced compressor_failed comes leaves = absurd comes
  left_unsynced lacks_compressor comes leaves = absurd comes.0

  left_unclosed : (cause : Cause) → IsCausedBy setting old close (refusal_of e) cause
      → LeavesRefused setting old close (refusal_of e) cause new → NotClosed e setting old new
  left_unclosed out_of_memory comes breaks = inr (inl comes.1, breaks)
  left_unclosed device_failed comes breaks = inr (inr comes.1, breaks)
  left_unclosed lock_is_held comes breaks = absurd comes.0
  left_unclosed bad_operand comes breaks = absurd comes.1
  left_unclosed store_exists comes breaks = absurd comes.1
  left_unclosed used_up comes breaks = absurd comes.1
  left_unclosed too_large comes breaks = absurd comes.0
  left_unclosed compressor_failed comes breaks = absurd comes
  left_unclosed lacks_compressor comes breaks = absurd comes.0

  not_flushed : (mode : Mode) → old.mode ≡ mode
      → Step mode setting old flush (refused (refusal_of e)) new → NotFlushed e setting old new
  not_flushed closed is step = inl (rejects_closed e old new is step)
  not_flushed broken is step = inl (rejects_broken e old new is step)
  not_flushed open_mode is step = left_unsynced step.cause step.comes step.leaves

  not_closed : (mode : Mode) → old.mode ≡ mode
      → Step mode setting old close (refused (refusal_of e)) new → NotClosed e setting old new
  not_closed closed is step = inl (rejects_closed e old new is step)
  not_closed broken is step = inl (rejects_broken e old new is step)
  not_closed open_mode is step = left_unclosed step.cause step.comes step.leaves

module _ (low high : List ℕ) (e : Status) (setting : Setting) (old new : State) where
  left_uncompacted : (cause : Cause) → IsCausedBy setting old (compact_range low high) (refusal_of e) cause
      → LeavesRefused setting old (compact_range low high) (refusal_of e) cause new
      → Keeps old new ⊎ (IsMemoryOrDevice setting e × Breaks old None new)
  left_uncompacted out_of_memory comes (inl keeps) = inl keeps
  left_uncompacted out_of_memory comes (inr breaks) = inr (inl comes.1, breaks.1)
  left_uncompacted device_failed comes (inl keeps) = inl keeps
  left_uncompacted device_failed comes (inr breaks) = inr (inr comes.1, breaks.1)
  left_uncompacted cause comes (inl keeps) = inl keeps
  left_uncompacted cause comes (inr breaks) = absurd breaks.0

  not_compacted : (mode : Mode) → old.mode ≡ mode
      → Step mode setting old (compact_range low high) (refused (refusal_of e)) new
      → NotCompacted e setting old new
  not_compacted closed is step = inl (rejects_closed e old new is step)
  not_compacted broken is step = inl (rejects_broken e old new is step)
  not_compacted open_mode is step =
      inr (is, left_uncompacted step.cause step.comes step.leaves)

finds : (at : Option Snapshot) (key : List ℕ) (value : Option (List ℕ))
    → IsRowOf (get at key) (found value) (FindsValue at key value)
finds at key value setting old new closed step = absurd step
finds at key value setting old new broken step = step.1
finds at key value setting old new open_mode step = step.1

not_found : (at : Option Snapshot) (key : List ℕ) (e : Status)
    → IsRowOf (get at key) (refused (refusal_of e)) StaysAsItWas
not_found at key e setting old new closed step = step.1
not_found at key e setting old new broken step = step.leaves
not_found at key e setting old new open_mode step = step.leaves

goes : (at : Option Snapshot) (moves : List Move) (given : List WalkStep)
    → IsRowOf (walk_of at moves) (walked (map landing_of given)) (WalksView at moves given)
goes at moves given setting old new closed step = absurd step
goes at moves given setting old new broken step = step.1
goes at moves given setting old new open_mode step = step.1

not_gone : (at : Option Snapshot) (moves : List Move) (e : Status)
    → IsRowOf (walk_of at moves) (refused (refusal_of e)) StaysAsItWas
not_gone at moves e setting old new closed step = step.1
not_gone at moves e setting old new broken step = step.leaves
not_gone at moves e setting old new open_mode step = step.leaves

gives : (one : Snapshot) → IsRowOf get_snapshot (snapshot one) (λ _ old new. Gives old one new)
gives one setting old new closed step = absurd step
gives one setting old new broken step = step.1
gives one setting old new open_mode step = step.1

not_given : (e : Status) → IsRowOf get_snapshot (refused (refusal_of e)) StaysAsItWas
not_given e setting old new closed step = step.1
not_given e setting old new broken step = step.leaves
not_given e setting old new open_mode step = step.leaves

releases : (one : Snapshot)
    → IsRowOf (release_snapshot one) done (λ _ old new. Releases old one new)
releases one setting old new closed step = absurd step
releases one setting old new broken step = step.1
releases one setting old new open_mode step = step.1

not_released : (one : Snapshot) (e : Status)
    → IsRowOf (release_snapshot one) (refused (refusal_of e)) StaysAsItWas
not_released one e setting old new closed step = step.1
not_released one e setting old new broken step = step.leaves
not_released one e setting old new open_mode step = step.leaves

closes : IsRowOf close done (λ _ old new. Closes old new)
closes setting old new closed step = absurd step
closes setting old new broken step = absurd step
closes setting old new open_mode step = step.1

opens : (opening : Opening)
    → IsRowOf (open_store opening) done (λ _ old new. Opens old opening new)
opens opening setting old new closed step = step.1
opens opening setting old new broken step = absurd step
opens opening setting old new open_mode step = absurd step

not_opened : (opening : Opening) (e : Status)
    → IsRowOf (open_store opening) (refused (refusal_of e)) (NotOpened opening e)
not_opened opening e setting old new closed step = (step.cause, step.comes, step.leaves)
not_opened opening e setting old new broken step = absurd step
not_opened opening e setting old new open_mode step = absurd step

abandons : (setting : Setting) (old new : State) (mode : Mode) → old.mode ≡ mode
    → Step mode setting old abandon done new → IsAbandoned setting old new
abandons setting old new closed is step = inr (is, step.1)
abandons setting old new broken is step = inl step.1
abandons setting old new open_mode is step = inl step.1

not_unlocked : (e : Status) → IsRowOf abandon (refused (refusal_of e)) NotUnlocked
not_unlocked e setting old new closed step = absurd (cc step.0)
not_unlocked e setting old new broken step = step.leaves
not_unlocked e setting old new open_mode step = step.leaves

-- ---- the calls

module _ {E C FP F : Type 0} {B : Boxed} (keys : InternalOrder C) (env : Ghosts E F)
    (formats : OptionsOf C FP B → Format) where
  -- a step of the machine, for a store of this name and meaning, is one of its row
  takes : (risk : State → State → Risk) (store : List ℕ) (meaning : Meaning)
      (before : Option (EngineOf E C FP F B)) (from : E) (request : Request) (answer : Answer)
      (after : Option (EngineOf E C FP F B)) (to : E) (row : Row)
      → ((setting : Setting) (old new : State) → Step old.mode setting old request answer new
      → row setting old new)
      → ((old new : State) → risk_of request old new ≡ risk old new)
      → AnswersAs keys env formats store meaning before from request answer after to
      → FromStatesOf keys env formats risk store meaning before from after to row
  takes risk store meaning before from request answer after to row leads same step modelled old was =
      let goes = step modelled old was in (
        goes.new,
        goes.represents,
        leads (setting_between meaning (env.failures from) (env.failures to)) old goes.new goes.step,
        subst (λ r. calls.Run (IsSpared store meaning old r) (env.observed from) (env.observed to))
            (same old goes.new) goes.moments,
      )

  -- an opening
  module _ (name : List ℕ) (opening : Opening) (meaning : Meaning) (from to : E) where
    pub open_row : (engine : EngineOf E C FP F B)
        → AnswersAs keys env formats name meaning None from (open_store opening) done (Some engine) to
        → FromStatesOf keys env formats (risk_of (open_store opening)) name meaning None from
        (Some engine) to (λ _ old new. Opens old opening new)
    open_row engine step = takes (risk_of (open_store opening)) name meaning None from
        (open_store opening) done (Some engine) to _
        (λ setting old new. opens opening setting old new old.mode) (λ old new. refl) step

    pub unopened_row : (e : Status)
        → AnswersAs keys env formats name meaning None from (open_store opening)
        (refused (refusal_of e)) None to
        → FromStatesOf keys env formats (risk_of (open_store opening)) name meaning None from None to
        (NotOpened opening e)
    unopened_row e step = takes (risk_of (open_store opening)) name meaning None from
        (open_store opening) (refused (refusal_of e)) None to _
        (λ setting old new. not_opened opening e setting old new old.mode) (λ old new. refl) step

  -- an engine that is given up
  pub abandon_row : (engine : EngineOf E C FP F B) (from : E) (result : Result (Unit {0}) Status)
      (to : E) → Answers keys env formats (Some engine) from abandon (done_or result) None to
      → OnOk result (FromEachState keys env formats (Some engine) from None to IsAbandoned)
      × OnErr result (FromEachState keys env formats (Some engine) from None to NotUnlocked)
  abandon_row engine from (Ok nothing) to step = (
    λ store meaning. takes (λ old new. risk_between new) store meaning (Some engine) from abandon
        done None to _ (λ setting old new. abandons setting old new old.mode refl)
        (λ old new. refl) (step store meaning),
    tt,
  )
  abandon_row engine from (Err e) to step = (
    tt,
    λ store meaning. takes (λ old new. risk_between new) store meaning (Some engine) from abandon
        (refused (refusal_of e)) None to _ (λ setting old new. not_unlocked e setting old new old.mode)
        (λ old new. refl) (step store meaning),
  )

  module _ (before : EngineOf E C FP F B) (from : E) (after : EngineOf E C FP F B) (to : E) where
    -- what a call is that keeps its engine, by its row
    abbrev Takes : Row → Type 0
    Takes row = FromEachState keys env formats (Some before) from (Some after) to row

    -- what it is to the machine
    abbrev Steps : Request → Answer → Type 0
    Steps request answer = Answers keys env formats (Some before) from request answer (Some after) to

    in_mode : (request : Request) (answer : Answer) (row : Row)
        → ((setting : Setting) (old new : State) → Step old.mode setting old request answer new
        → row setting old new)
        → ((old new : State) → risk_of request old new ≡ risk_between new)
        → Steps request answer → Takes row
    in_mode request answer row leads same step store meaning =
        takes (λ old new. risk_between new) store meaning (Some before) from request answer
        (Some after) to row leads same (step store meaning)

    is_row : (request : Request) (answer : Answer) (row : Row) → IsRowOf request answer row
        → ((old new : State) → risk_of request old new ≡ risk_between new)
        → Steps request answer → Takes row
    is_row request answer row is =
        in_mode request answer row (λ setting old new. is setting old new old.mode)

    -- a write
    pub write_row : (items : List Item) (sync : Bool) (result : Result (Unit {0}) Status)
        → Steps (write items sync) (done_or result)
        → OnOk result (Takes (λ _ old new. Writes old items sync new))
        × IfErr result (λ e. Takes (NotWritten items e))
    write_row items sync (Ok nothing) step =
        (is_row (write items sync) done _ (writes items sync) (λ old new. refl) step, tt)
    write_row items sync (Err e) step = (
      tt,
      is_row (write items sync) (refused (refusal_of e)) _
          (not_written items sync e) (λ old new. refl) step,
    )

    -- a flush
    pub flush_row : (result : Result (Unit {0}) Status) → Steps flush (done_or result)
        → OnOk result (Takes (λ _ old new. AllDurable old new))
        × IfErr result (λ e. Takes (NotFlushed e))
    flush_row (Ok nothing) step = (is_row flush done _ flushes (λ old new. refl) step, tt)
    flush_row (Err e) step = (
      tt,
      in_mode flush (refused (refusal_of e)) _
          (λ setting old new. not_flushed e setting old new old.mode refl) (λ old new. refl) step,
    )

    -- a compaction
    pub compact_row : (low high : List ℕ) (result : Result (Unit {0}) Status)
        → Steps (compact_range low high) (done_or result)
        → OnOk result (Takes (λ _ old new. Keeps old new))
        × IfErr result (λ e. Takes (NotCompacted e))
    compact_row low high (Ok nothing) step =
        (is_row (compact_range low high) done _ (compacts low high) (λ old new. refl) step, tt)
    compact_row low high (Err e) step = (
      tt,
      in_mode (compact_range low high) (refused (refusal_of e)) _
          (λ setting old new. not_compacted low high e setting old new old.mode refl)
          (λ old new. refl) step,
    )

    -- a look-up
    pub get_row : (at : Option Snapshot) (key : List ℕ) (result : Result (Option (List ℕ)) Status)
        → Steps (get at key) (found_or result)
        → IfOk result (λ value. Takes (FindsValue at key value))
        × OnErr result (Takes StaysAsItWas)
    get_row at key (Ok value) step =
        (is_row (get at key) (found value) _ (finds at key value) (λ old new. refl) step, tt)
    get_row at key (Err e) step = (
      tt,
      is_row (get at key) (refused (refusal_of e)) _
          (not_found at key e) (λ old new. refl) step,
    )

    -- a walk
    pub walk_row : (at : Option Snapshot) (moves : List Move) (given : List WalkStep)
        (result : Result (Unit {0}) Status) → Steps (walk_of at moves) (walked_or given result)
        → OnOk result (Takes (WalksView at moves given)) × OnErr result (Takes StaysAsItWas)
    walk_row at moves given (Ok nothing) step = (
      is_row (walk_of at moves)
          (walked (map landing_of given)) _ (goes at moves given) (λ old new. refl) step,
      tt,
    )
    walk_row at moves given (Err e) step = (
      tt,
      is_row (walk_of at moves) (refused (refusal_of e)) _
          (not_gone at moves e) (λ old new. refl) step,
    )

    -- a snapshot that is asked for
    pub snapshot_row : (result : Result HeldSnapshot Status) → Steps get_snapshot (snapshot_or result)
        → IfOk result (λ one. Takes (λ _ old new. Gives old (snapshot_of one) new))
        × OnErr result (Takes StaysAsItWas)
    snapshot_row (Ok one) step = (
      is_row get_snapshot (snapshot (snapshot_of one)) _
          (gives (snapshot_of one)) (λ old new. refl) step,
      tt,
    )
    snapshot_row (Err e) step =
        (tt, is_row get_snapshot (refused (refusal_of e)) _ (not_given e) (λ old new. refl) step)

    -- one that is released
    pub release_row : (one : Snapshot) (result : Result (Unit {0}) Status)
        → Steps (release_snapshot one) (done_or result)
        → OnOk result (Takes (λ _ old new. Releases old one new)) × OnErr result (Takes StaysAsItWas)
    release_row one (Ok nothing) step =
        (is_row (release_snapshot one) done _ (releases one) (λ old new. refl) step, tt)
    release_row one (Err e) step = (
      tt,
      is_row (release_snapshot one) (refused (refusal_of e)) _
          (not_released one e) (λ old new. refl) step,
    )

    -- a close
    pub close_row : (result : Result (Unit {0}) Status) → Steps close (done_or result)
        → OnOk result (Takes (λ _ old new. Closes old new))
        × IfErr result (λ e. Takes (NotClosed e))
    close_row (Ok nothing) step = (is_row close done _ closes (λ old new. refl) step, tt)
    close_row (Err e) step = (
      tt,
      in_mode close (refused (refusal_of e)) _
          (λ setting old new. not_closed e setting old new old.mode refl) (λ old new. refl) step,
    )
