-- What the engine's clauses say: from every state that memory and disk represent, a step of the
-- machine.
--
-- `store` is the store's path, `meaning` what names and ids in its files mean, and `Recalls memory
-- disk state` what the engine's memory has to do with the files and the state.
use Rattle.std.specs.Prelude.{◌≡◌, ◌≤◌, ◌↔◌, ℕ, Bool, List, Option, Some, None, Result, Ok, Err, All, false, map, IsTrue}
use Rattle.std.specs.declared.cmp.Ordering.{Ordering}
use Rattle.leveldb_base.specs.Cmp.{bytewise}
use Rattle.leveldb_base.specs.declared.error.Status.{Status}
use Rattle.leveldb_base.specs.Error.{text_of}
use Rattle.leveldb_base.specs.History.{History}
use Rattle.leveldb_env.specs.Env.{Files, Disk, FilesCrashTo, Observed}
use Rattle.leveldb_iter.specs.declared.snapshot.Snapshot.{Snapshot as HeldSnapshot}
use Rattle.leveldb_env.specs.Env as calls
use Rattle.leveldb_files.specs.Stores.Paths.{lock_path}
use Rattle.leveldb_files.specs.Stores.Contents.{Contents, Store, made}
use Rattle.leveldb_files.specs.Stores.Format.{Agrees, IsTableOf, Meaning}
use Rattle.rusty_leveldb.specs.Engines.Frame.{IsOwn, MayTouch, Spares, IsSyncing, SameBytes}
use Rattle.leveldb_files.specs.Histories.Holds.{Carries, IsHonest, IsSafe, Holds}
use Rattle.leveldb_files.specs.Stores.Store.{IsStore}
use Rattle.leveldb_files.specs.Steps.StoreSteps.{AppendedAreBytes}
use Rattle.rusty_leveldb.specs.Machines.State.{State, IsState, closed, Request, Refusal, Answer, Snapshot, done, found, refused, snapshot}
use Rattle.rusty_leveldb.specs.Machines.Causes.{Setting}
use Rattle.rusty_leveldb.specs.Machines.Machine.{Step, StaysOr, Risk, risk_of}
use Rattle.rusty_leveldb.specs.Machines.Runs.{Event, RunsEvents, last_moment, StopsAt}

-- the order of users' keys in a store: that of the comparator that its files name
abbrev pub order_of : Meaning → Store → List ℕ → List ℕ → Ordering
order_of meaning (made (Some name)) = meaning.orders name
order_of meaning there = bytewise

-- how the store's files are read: as a manifest, tables and logs, in its comparator's order
abbrev pub Reads : List ℕ → Meaning → Files → Contents → Type 0
Reads store meaning files contents =
    let cmp = order_of meaning contents.store in
    IsStore store cmp (IsTableOf cmp meaning) files contents

-- the files are read as contents that match this history, and that know of this last number
abbrev pub AreReadAs : List ℕ → Meaning → Files → History → ℕ → Type 0
AreReadAs store meaning files history last =
    (c : Carries store (Reads store meaning) (λ any. Unit {0}) last history files)
    × (c.contents.last ≡ last)

-- ---- results as answers

-- a snapshot as the machine has it
abbrev pub snapshot_of : HeldSnapshot → Snapshot
snapshot_of one = record { number = one.number; sequence = one.sequence }

-- a refusal as a call answers it; no text is the empty text
abbrev pub refusal_of : Status → Refusal
refusal_of status = record { code = status.code; text = text_of status.err }

-- done, or refused
abbrev pub done_or : {T : Type 0} → Result T Status → Answer
done_or (Ok value) = done
done_or (Err status) = refused (refusal_of status)

-- what a look-up found, or refused
abbrev pub found_or : Result (Option (List ℕ)) Status → Answer
found_or (Ok value) = found value
found_or (Err status) = refused (refusal_of status)

-- the snapshot that was given out, or refused
abbrev pub snapshot_or : Result HeldSnapshot Status → Answer
snapshot_or (Ok one) = snapshot (snapshot_of one)
snapshot_or (Err status) = refused (refusal_of status)

-- the engine that an opening gave, or none
abbrev pub given_engine : {M : Type 0} → Result M Status → Option M
given_engine (Ok memory) = Some memory
given_engine (Err status) = None

-- ---- around a call

-- before or after a call: the engine's memory, if there is an engine, what is observed of the
-- environment, and how many of its calls have failed
pub record Scene (M : Type 0) : Type 1 where
  pub memory : Option M
  pub observed : Observed
  pub failures : ℕ

-- the setting of a call between these counts of failed calls
abbrev pub setting_between : Meaning → ℕ → ℕ → Setting
setting_between meaning before after =
    record { before = before; after = after; meaning = meaning }

-- what no engine remembers
abbrev pub recalls_nothing : Unit {0} → Disk → State → Type 0
recalls_nothing memory disk state = ⊥

-- these requests had these answers at these moments
pub record IsConversation (requests : List Request) (answers : List Answer) (moments : List ℕ)
    (events : List Event) : Type 0 where
  pub requests_are : map (λ event. event.request) events ≡ requests
  pub answers_are : map (λ event. event.answer) events ≡ answers
  pub moments_are : map (λ event. event.moment) events ≡ moments

-- ---- crashes

-- these were the files at a moment that has come, and an honest crash at that moment leaves this
-- disk, with no lock held
pub record IsHonestlyLeft (store : List ℕ) (now : Observed) (moment : ℕ) (files : Files)
    (left : Disk) : Type 0 where
  pub come : moment ≤ now.moment
  pub stood : now.at_moment moment files
  pub leaves : FilesCrashTo files left.files
  pub honest : IsHonest store files left.files
  pub free : (path : List ℕ) → left.locked path ≡ false

-- where moments are observed: at this one the files were these alone, so it is inside no call that
-- changes them
pub record IsBetweenCalls (models_moments : Bool) (now : Observed) (moment : ℕ) (files : Files)
    : Type 0 where
  pub modelled : IsTrue models_moments
  pub alone : (others : Files) → now.at_moment moment others → others ≡ files

-- ---- the engine's clauses

module _ (store : List ℕ) (meaning : Meaning) where
  -- The disk represents a state: it holds the state's store and history, what was appended to each
  -- file are bytes, and the lock is as said. A store that is open says of names and ids what they
  -- mean.
  pub record StandsFor (disk : Disk) (state : State) : Type 0 where
    pub is_state : IsState state
    pub holds : Holds store (Reads store meaning) (λ now. now ≡ state.store) disk.files
        state.history state.last state.durable state.pending
    pub bytes : AppendedAreBytes disk.files
    pub locked : disk.locked (lock_path store) ≡ state.locked
    pub agrees : (state.mode ≡ closed → ⊥) → Agrees state.format meaning

  -- a crash now leaves a prefix of what is at risk, with at least what was durable before the
  -- request, and the store that was there or one that the opening at work has made
  abbrev pub IsSpared : State → Risk → Files → Type 0
  IsSpared old risk files = IsSafe store (Reads store meaning) (StaysOr risk.opening old.store)
      risk.bound old.durable risk.history files

  -- the same at each moment of a request, its end among them; what was observed before stays
  abbrev pub AtEachMoment : Request → State → State → Observed → Observed → Type 0
  AtEachMoment request old new before after =
      calls.Run (IsSpared old (risk_of request old new)) before after

  module _ {M : Type 0} (Recalls : M → Disk → State → Type 0) where
    -- what memory there is represents the state; of a store that is closed there may be none
    abbrev pub IsRecalled : Option M → Disk → State → Type 0
    IsRecalled None disk state = state.mode ≡ closed
    IsRecalled (Some memory) disk state = Recalls memory disk state

    -- memory and disk represent the state
    pub record Represents (memory : Option M) (disk : Disk) (state : State) : Type 0 where
      pub disk_is : StandsFor disk state
      pub memory_is : IsRecalled memory disk state

    -- From this state, a step to one that memory and disk represent then, and at each moment of the
    -- call what a crash leaves is spared. All files stay as they are but those that the request may
    -- touch, and where it only syncs, all bytes do.
    pub record TakesStep (from : Scene M) (request : Request) (answer : Answer) (to : Scene M)
        (old : State)
        : Type 0 where
      pub new : State
      pub represents : Represents to.memory to.observed.disk new
      pub later : from.failures ≤ to.failures
      pub step : Step old.mode (setting_between meaning from.failures to.failures) old request
          answer new
      pub moments : AtEachMoment request old new from.observed to.observed
      pub spares : Spares store (MayTouch store old.mode request) from.observed.disk
          to.observed.disk
      pub bytes : IsSyncing request → SameBytes from.observed.disk.files to.observed.disk.files

    -- from every state that memory and disk represent
    abbrev pub Serves : Scene M → Request → Answer → Scene M → Type 0
    Serves from request answer to = (old : State) → Represents from.memory from.observed.disk old
        → TakesStep from request answer to old

    -- A run of these requests with these answers, each given at its moment, to a state that memory
    -- and disk represent then; what isn't the store's stays as it is. No answer came before the run
    -- began, the last as it ended, and all of them had come by a moment exactly if the run had
    -- ended by then. Wherever an honest crash comes in the run, it stops there, and the disk that
    -- is left represents the state of the crash.
    pub record Runs (models_moments : Bool) (from : Scene M) (requests : List Request)
        (answers : List Answer) (moments : List ℕ) (to : Scene M) (old : State) : Type 0 where
      pub events : List Event
      pub asked : IsConversation requests answers moments events
      pub new : State
      pub run : RunsEvents meaning from.failures old events to.failures new
      pub represents : Represents to.memory to.observed.disk new
      pub others : Spares store (IsOwn store) from.observed.disk to.observed.disk
      pub since : All (λ event. from.observed.moment ≤ event.moment) events
      pub last : last_moment from.observed.moment events ≡ to.observed.moment
      pub ends : (moment : ℕ) → from.observed.moment ≤ moment
          → All (λ event. event.moment ≤ moment) events ↔ (to.observed.moment ≤ moment)
      pub stops : (moment : ℕ) (inside : Bool) (files : Files) (left : Disk)
          → from.observed.moment ≤ moment → IsHonestlyLeft store to.observed moment files left
          → (inside ≡ false → IsBetweenCalls models_moments to.observed moment files)
          → (then : State)
          × StopsAt meaning from.observed.moment from.failures old events moment inside
          to.failures new then
          × StandsFor left then
