-- What holds of the machine and of disks that hold its history, whatever names in files mean.
use Rattle.std.specs.Prelude.{◌≡◌, ◌≢◌, ◌≤◌, ◌⊎◌, ℕ, List, [], ◌∷◌, ◌++◌, map, flat_map, take, Option, Some, None, All, Contains, length, replicate, ◌+◌, true, false, IsTrue, nat_le, if◌then◌else◌}
use Rattle.leveldb_base.specs.Cmp.{IsExactOrder}
use Rattle.leveldb_base.specs.History.{Item, Entry, History, IsPlaced, IsView, RiseAbove, SameView, entries_of}
use Rattle.leveldb_base.specs.Types.{Pair}
use Rattle.leveldb_env.specs.declared.env.Env.{Ghosts}
use Rattle.leveldb_env.specs.Env.{Files, Disk, FilesCrashTo, DiskCrashesTo, Since}
use Rattle.leveldb_mem.specs.WriteBatch.{IsShort}
use Rattle.leveldb_files.specs.Stores.Paths.{lock_path}
use Rattle.leveldb_files.specs.Stores.Contents.{Contents}
use Rattle.leveldb_files.specs.Stores.Format.{Format, Meaning}
use Rattle.leveldb_files.specs.Stores.Store.{HasNoStore, SameContents}
use Rattle.leveldb_files.specs.Steps.StoreSteps.{AppendedAreBytes}
use Rattle.leveldb_files.specs.Histories.Holds.{IsHonest, CarriesPrefix}
use Rattle.rusty_leveldb.specs.Machines.State.{State, IsState, broken, closed, Opening, Snapshot, Request, open_store, write, get, walk, get_snapshot, release_snapshot, flush, close, abandon, Move, advance, prev, Landing, stands_on, nowhere, move_refused, Answer, done, found, walked, snapshot, Refusal, refused}
use Rattle.leveldb_base.specs.KeyTypes.{IsLongKey}
use Rattle.rusty_leveldb.specs.Machines.Causes.{Setting, Cause, TakesLock, IsLongBatch, IsCausedBy, IsClosedRefusal, IsBrokenRefusal}
use Rattle.rusty_leveldb.specs.Machines.Machine.{IsSequenceOf, Step, StaysOr, risk_between, risk_of, Crashes}
use Rattle.rusty_leveldb.specs.Machines.Runs.{Event, RunsEvents, setting_of, Ending, goes_on, crashes, Life, Lives, new_state}
use Rattle.rusty_leveldb.specs.Engines.Serves.{Reads, StandsFor, IsSpared, AtEachMoment}

-- ---- disks

-- files have one reading
abbrev pub OneReading : Type 0
OneReading = (store : List ℕ) (meaning : Meaning) (files : Files) (these those : Contents)
    → Reads store meaning files these → Reads store meaning files those
    → SameContents these those

-- where neither `CURRENT` nor a table nor a log is, and the lock isn't held, a new store is
-- represented
abbrev pub NothingStands : Type 0
NothingStands = (store : List ℕ) (meaning : Meaning) (format : Format) (disk : Disk)
    → HasNoStore store disk.files → AppendedAreBytes disk.files
    → disk.locked (lock_path store) ≡ false → StandsFor store meaning disk (new_state format)

-- an honest crash between two requests leaves a disk that represents a state of the crash row
abbrev pub CrashBetween : Type 0
CrashBetween = (store : List ℕ) (meaning : Meaning) (old : State) (disk left : Disk)
    → StandsFor store meaning disk old → DiskCrashesTo disk left
    → IsHonest store disk.files left.files
    → (after : State) × Crashes old (risk_between old) after
    × StandsFor store meaning left after

-- and so does one at a moment inside a request that led from the old state to the new one
abbrev pub CrashInside : Type 0
CrashInside = (store : List ℕ) (meaning : Meaning) (old new : State) (request : Request)
    (files : Files) (left : Disk)
    → IsState old → IsState new → IsSpared store meaning old (risk_of request old new) files
    → FilesCrashTo files left.files → IsHonest store files left.files
    → ((name : List ℕ) → left.locked name ≡ false)
    → (after : State) × Crashes old (risk_of request old new) after
    × StandsFor store meaning left after

-- From a call's moments: wherever an honest crash comes since the call began, what is left carries
-- a prefix of what was at risk, the pending batch included, with all that was durable as the call
-- began.
abbrev pub CrashSince : {E F : Type 0} → Ghosts E F → Type 0
CrashSince {E = E} env = (store : List ℕ) (meaning : Meaning) (old new : State)
    (request : Request) (from to : E)
    → AtEachMoment store meaning request old new (env.observed from) (env.observed to)
    → (files left : Files) → Since (env.observed to) (env.observed from).moment files left
    → IsHonest store files left
    → let risk = risk_of request old new in
    CarriesPrefix store (Reads store meaning) (StaysOr risk.opening old.store) risk.bound
    old.durable risk.history left

-- ---- refusals

-- a refusal has one of the causes, or the store was closed, or it broke earlier
abbrev pub RefusalHasCause : Type 0
RefusalHasCause = (setting : Setting) (old new : State)
    (request : Request) (refusal : Refusal)
    → Step old.mode setting old request (refused refusal) new
    → ((cause : Cause) × IsCausedBy setting old request refusal cause)
    ⊎ ((old.mode ≡ closed) × IsClosedRefusal refusal)
    ⊎ ((old.mode ≡ broken) × IsBrokenRefusal refusal)

-- a batch is too long where a key or a value of one of its items is
abbrev pub LongItemMakesLongBatch : Type 0
LongItemMakesLongBatch = (items : List Item) (one : Item) → Contains items one
    → (IsShort one → ⊥) → IsLongBatch items

-- ---- states whose numbers fit

-- a step leads from a state to a state
abbrev pub StepFits : Type 0
StepFits = (setting : Setting) (old new : State)
    (request : Request) (answer : Answer)
    → IsState old → Step old.mode setting old request answer new → IsState new

-- and so does a crash between two requests
abbrev pub CrashFits : Type 0
CrashFits = (old new : State) → IsState old → Crashes old (risk_between old) new → IsState new

-- or inside one that would have led on
abbrev pub CrashInsideFits : Type 0
CrashInsideFits = (setting : Setting) (old next new : State)
    (request : Request) (answer : Answer) → IsState old
    → Step old.mode setting old request answer next
    → Crashes old (risk_of request old next) new → IsState new

-- so do lives, one after another
abbrev pub LivesFit : Type 0
LivesFit = (meaning : Meaning) (lives : List Life) (before after : ℕ)
    (old new : State) → IsState old → Lives meaning before old lives after new → IsState new

-- ---- what is durable

-- the whole begins with the part
abbrev pub BeginsWith : History → History → Type 0
BeginsWith whole part = (more : History) × (whole ≡ part ++ more)

-- these requests make the whole history durable, once they are done
abbrev pub IsDoneSync : Request → Answer → Type 0
IsDoneSync (write items sync) done = IsTrue sync
IsDoneSync flush done = Unit {0}
IsDoneSync close done = Unit {0}
IsDoneSync request answer = ⊥

-- whatever lives follow, the history begins with the batches that were durable
abbrev pub DurableStays : Type 0
DurableStays = (meaning : Meaning) (lives : List Life) (before after : ℕ)
    (old last : State) → IsState old → Lives meaning before old lives after last
    → BeginsWith last.history (take old.durable old.history)

-- and after a synced write, a flush or a close that was done it begins with the history as of that
-- answer
abbrev pub SyncedStays : Type 0
SyncedStays = (meaning : Meaning) (setting : Setting) (old next last : State)
    (request : Request) (answer : Answer) (lives : List Life) (before after : ℕ)
    → IsState old → Step old.mode setting old request answer next → IsDoneSync request answer
    → Lives meaning before next lives after last → BeginsWith last.history next.history

-- an answer came by the end of its life
abbrev pub IsInTime : ℕ → Ending → Type 0
IsInTime moment goes_on = Unit {0}
IsInTime moment (crashes at inside counted) = moment ≤ at

-- Lives have a state before and after each answer that came in time: what was answered before it
-- leads there, and the rest of its life and the later ones lead on.
abbrev pub EachAnswerParts : Type 0
EachAnswerParts = (meaning : Meaning) (earlier later : List Life) (start : ℕ) (ending : Ending)
    (answered undone : List Event) (one : Event) (before after : ℕ) (old last : State)
    → let whole : Life =
    record { start = start; events = answered ++ one ∷ undone; ending = ending } in
    let front : Life = record { start = start; events = answered; ending = goes_on } in
    let rest : Life = record { start = one.moment; events = undone; ending = ending } in
    IsInTime one.moment ending → Lives meaning before old (earlier ++ whole ∷ later) after last
    → (failures : ℕ) × (state : State) × (next : State)
    × Lives meaning before old (earlier ++ front ∷ []) failures state
    × Step state.mode (setting_of meaning failures one) state one.request one.answer next
    × Lives meaning one.failures next (rest ∷ later) after last

-- ---- what a history is made of

-- what a batch was asked to do, without its numbers
abbrev pub items_of : List Entry → List Item
items_of entries = map (λ entry. record { key = entry.key; value = entry.value }) entries

-- the batches of a history, without their numbers
abbrev pub batches_of : History → List (List Item)
batches_of history = map (λ batch. items_of batch) history

-- some elements of a list, in its order
abbrev pub IsSubsequence : {A : Type 0} → List A → List A → Type 0
IsSubsequence [] whole = Unit {0}
IsSubsequence (x ∷ some) [] = ⊥
IsSubsequence (x ∷ some) (y ∷ whole) =
    ((x ≡ y) × IsSubsequence some whole) ⊎ IsSubsequence (x ∷ some) whole

-- the batch that a request asks for
abbrev pub asked_by : Request → List (List Item)
asked_by (write items sync) = items ∷ []
asked_by request = []

-- of these events those whose request had begun by a moment: their answers came by then, or next
abbrev pub begun_by : ℕ → List Event → List Event
begun_by moment [] = []
begun_by moment (event ∷ events) =
    event ∷ (if nat_le event.moment moment then begun_by moment events else [])

-- the events whose request had begun by the end of a life
abbrev pub begun_until : Ending → List Event → List Event
begun_until goes_on events = events
begun_until (crashes moment inside counted) events = begun_by moment events

-- the batches that were asked for in these lives by writes that had begun, in order
abbrev pub asked_in : List Life → List (List Item)
asked_in lives = flat_map
    (λ life. flat_map (λ event. asked_by event.request) (begun_until life.ending life.events))
    lives

-- the batches of every history that lives lead to were asked for by writes, whole and in order
abbrev pub HistoryIsAsked : Type 0
HistoryIsAsked = (meaning : Meaning) (format : Format) (lives : List Life) (after : ℕ)
    (last : State) → Lives meaning 0 (new_state format) lives after last
    → IsSubsequence (batches_of last.history) (asked_in lives)

-- they are placed batches whose entries rise strictly in sequence, from 1 on
abbrev pub HistoryIsPlaced : Type 0
HistoryIsPlaced = (meaning : Meaning) (format : Format) (lives : List Life) (after : ℕ)
    (last : State) → Lives meaning 0 (new_state format) lives after last
    → All IsPlaced last.history × RiseAbove 0 (entries_of last.history)

-- After a synced write, a flush or a close that was done all batches after that answer's history
-- were asked for so, and are placed.
abbrev pub MoreIsAsked : Type 0
MoreIsAsked = (meaning : Meaning) (setting : Setting) (old next last : State)
    (request : Request) (answer : Answer) (lives : List Life) (before after : ℕ)
    → IsState old → Step old.mode setting old request answer next → IsDoneSync request answer
    → Lives meaning before next lives after last
    → (more : History) × (last.history ≡ next.history ++ more)
    × IsSubsequence (batches_of more) (asked_in lives) × All IsPlaced more

-- ---- a value that was written with a sync

-- none of these batches is of the key
abbrev pub NoneHasKey : List ℕ → List (List Item) → Type 0
NoneHasKey key batches = (batch : List Item) → Contains batches batch
    → (item : Item) → Contains batch item → item.key ≢ key

-- After a synced write of a value that was done, and no later write of its key, a look-up of the
-- key in any life finds that value, if it isn't refused.
abbrev pub SyncedIsRead : Type 0
SyncedIsRead = (meaning : Meaning) (setting later : Setting)
    (old written last new : State) (key value : List ℕ) (lives : List Life) (before after : ℕ)
    (looked : Option (List ℕ))
    → IsState old
    → Step old.mode setting old (write (record { key = key; value = Some value } ∷ []) true) done
    written
    → NoneHasKey key (asked_in lives) → Lives meaning before written lives after last
    → Step last.mode later last (get None key) (found looked) new → looked ≡ Some value

-- ---- what a snapshot reads

-- none of these events opens the store
abbrev pub NoneOpens : List Event → Type 0
NoneOpens events = All (λ event. TakesLock event.request → ⊥) events

-- Until the store is opened again, the view at each number up to the last one stays as it is.
abbrev pub ViewsStay : Type 0
ViewsStay = (meaning : Meaning) (events : List Event) (before after : ℕ) (old last : State)
    → IsState old → NoneOpens events → RunsEvents meaning before old events after last
    → (s : ℕ) → s ≤ old.last → SameView (entries_of old.history) (entries_of last.history) s

-- requests after which a snapshot may not be held any more
abbrev pub MayRelease : Snapshot → Request → Type 0
MayRelease one (open_store opening) = Unit {0}
MayRelease one (release_snapshot other) = other ≡ one
MayRelease one close = Unit {0}
MayRelease one abandon = Unit {0}
MayRelease one request = ⊥

-- A snapshot stays held until it is released, or the store is closed or opened again.
abbrev pub HeldStays : Type 0
HeldStays = (meaning : Meaning) (events : List Event) (before after : ℕ) (old last : State)
    (one : Snapshot) → All (λ event. MayRelease one event.request → ⊥) events
    → RunsEvents meaning before old events after last
    → Contains old.held one → Contains last.held one

-- A snapshot is given out after a look-up of a key. Whatever requests but an opening come then, a
-- look-up of the key at the snapshot finds what that one found, if it isn't refused.
abbrev pub SnapshotIsRead : Type 0
SnapshotIsRead = (meaning : Meaning) (first second later : Setting) (old taken last new : State)
    (one : Snapshot) (key : List ℕ) (earlier now : Option (List ℕ)) (events : List Event)
    (before after : ℕ)
    → IsState old → Step old.mode first old (get None key) (found earlier) old
    → Step old.mode second old get_snapshot (snapshot one) taken
    → NoneOpens events → RunsEvents meaning before taken events after last
    → Step last.mode later last (get (Some one) key) (found now) new → now ≡ earlier

-- ---- what a walk gives

-- a move of a walk led to a pair or to no position
abbrev pub HasLanded : Landing → Type 0
HasLanded (stands_on pair) = Unit {0}
HasLanded nowhere = Unit {0}
HasLanded (move_refused refusal) = ⊥

-- A walk that goes forward once more than its view has pairs gives the view, each key once and in
-- order, and ends there, unless a move is refused.
abbrev pub ForwardWalkGivesView : Type 0
ForwardWalkGivesView = (setting : Setting) (old new : State) (at : Option Snapshot)
    (sequence : ℕ) (pairs : List Pair) (landings : List Landing)
    → IsExactOrder old.format.order → IsSequenceOf old at sequence
    → IsView old.format.order (entries_of old.history) sequence pairs
    → Step old.mode setting old (walk at (replicate (length pairs + 1) advance)) (walked landings)
    new
    → All HasLanded landings → landings ≡ map stands_on pairs ++ nowhere ∷ []

-- A walk that came to a pair, went on to another and then back is at the first one again, unless
-- that last move is refused.
abbrev pub PrevUndoesAdvance : Type 0
PrevUndoesAdvance = (setting : Setting) (old new : State) (at : Option Snapshot)
    (moves : List Move) (one : Move) (landings : List Landing) (here there : Pair) (back : Landing)
    → length landings ≡ length moves
    → Step old.mode setting old (walk at (moves ++ one ∷ advance ∷ prev ∷ []))
    (walked (landings ++ stands_on here ∷ stands_on there ∷ back ∷ [])) new
    → HasLanded back → back ≡ stands_on here

-- ---- an example

-- an answer that came at this moment, with no failure
abbrev pub answered_at : ℕ → Request → Answer → Event
answered_at moment request answer =
    record { moment = moment; request = request; answer = answer; failures = 0 }

-- a life that makes a store and writes a value with a sync, cut short right after that, and one
-- that finds the value
abbrev pub written_and_found : Opening → List ℕ → List ℕ → List Life
written_and_found opening key value =
    record {
      start = 0;
      events =
          answered_at 1 (open_store opening) done
          ∷ answered_at 2 (write (record { key = key; value = Some value } ∷ []) true) done
          ∷ answered_at 3 (get None key) (found (Some value))
          ∷ [];
      ending = crashes 2 false 0;
    }
    ∷ record {
      start = 0;
      events =
          answered_at 1 (open_store opening) done
          ∷ answered_at 2 (get None key) (found (Some value))
          ∷ [];
      ending = goes_on;
    }
    ∷ []

-- these lives may be, if neither the key nor the batch is too long
abbrev pub SyncedCanBeFound : Type 0
SyncedCanBeFound = (meaning : Meaning) (opening : Opening) (key value : List ℕ)
    → (IsLongKey key → ⊥) → (IsLongBatch (record { key = key; value = Some value } ∷ []) → ⊥)
    → IsTrue opening.fits → IsTrue opening.compresses → IsTrue opening.create_if_missing
    → opening.error_if_exists ≡ false
    → (last : State)
    × Lives meaning 0 (new_state opening.format) (written_and_found opening key value) 0 last
