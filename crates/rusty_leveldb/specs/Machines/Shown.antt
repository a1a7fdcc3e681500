-- The machine is maps: how a state shows the store of the headline, and that its runs are stories.
use Rattle.std.specs.Prelude.{◌≡◌, ◌≤◌, ◌<◌, ◌⊎◌, ◌↔◌, ℕ, List, [], ◌∷◌, ◌++◌, map, length, take, option_map, option_to_list, Option, Some, None, Result, Ok, Err, All, Contains}
use Rattle.std.specs.declared.cmp.Ordering.{Ordering}
use Rattle.leveldb_base.specs.declared.error.StatusCode.{StatusCode}
use Rattle.leveldb_base.specs.declared.error.StatusCode.TheVariants.{OutOfMemory, LockError, InvalidArgument, AlreadyExists, NotSupported}
use Rattle.leveldb_base.specs.Cmp.{IsExactOrder}
use Rattle.leveldb_base.specs.History.{Item, Entry, History, entries_of, with_batch, AreUpTo, HasValueAt, IsFoundSet}
use Rattle.leveldb_files.specs.Stores.Format.{Format, Meaning}
use Rattle.leveldb_store.specs.Writing.Room.{HasFailed}
use Rattle.rusty_leveldb.specs.Headline as headline
use Rattle.rusty_leveldb.specs.Headline.{Batch, Map, map_of, StoreMode, is_open, is_broken, is_closed, UserStore, fresh_store, WalkMove, Call, Why, CallOutcome, barred, failed, CallRow, returned, crash, IsStory}
use Rattle.rusty_leveldb.specs.Machines.State.{Mode, open_mode, broken, closed, Snapshot, State, IsState, Move, seek_to_first, advance, prev, seek, reset, Request, open_store, write, get, walk, get_snapshot, release_snapshot, flush, compact_range, close, abandon, Landing, stands_on, nowhere, move_refused, Answer, done, found, walked, snapshot, refused}
use Rattle.rusty_leveldb.specs.Machines.Causes.{Setting, IsClosedRefusal, IsBrokenRefusal, CompressorFails, block_format}
use Rattle.rusty_leveldb.specs.Machines.Machine.{Step}
use Rattle.rusty_leveldb.specs.Machines.Runs.{Event, Ending, goes_on, crashes, Life, Lives, new_state}
use Rattle.rusty_leveldb.specs.Repairs.Repair.{repaired_state}

-- ---- requests are calls, and answers are outcomes

-- what the items of a batch change
abbrev pub changes_of : List Item → Batch
changes_of items = map (λ item. record { key = item.key; value = item.value }) items

-- the number of a snapshot at which is read
abbrev pub snapshot_number : Option Snapshot → Option ℕ
snapshot_number at = option_map (λ one. one.number) at

-- the move of the headline that a move is
abbrev pub walk_move_of : Move → WalkMove
walk_move_of seek_to_first = headline.seek_to_first
walk_move_of advance = headline.advance
walk_move_of prev = headline.prev
walk_move_of (seek key) = headline.seek key
walk_move_of reset = headline.reset

-- the call that a request is
abbrev pub call_of : Request → Call
call_of (open_store opening) = headline.open_store
call_of (write items sync) = headline.write (changes_of items) sync
call_of (get at key) = headline.get (snapshot_number at) key
call_of (walk at moves) = headline.walk (snapshot_number at) (map walk_move_of moves)
call_of get_snapshot = headline.get_snapshot
call_of (release_snapshot one) = headline.release_snapshot one.number
call_of flush = headline.flush
call_of (compact_range from to) = headline.compact_range
call_of close = headline.close
call_of abandon = headline.abandon

-- The call as which a request is told. A release that is refused may be told of another number,
-- since a snapshot of an earlier opening may have one that this opening gave out again.
abbrev pub IsCallOf : Request → Answer → Call → Type 0
IsCallOf (release_snapshot one) (refused refusal) call =
    (number : ℕ) × (call ≡ headline.release_snapshot number)
IsCallOf request answer call = call ≡ call_of request

-- the code of a failure; a failed call of the device and a compressor choose theirs
abbrev pub HasCode : Why → StatusCode → Type 0
HasCode headline.out_of_memory code = code ≡ OutOfMemory
HasCode headline.device_failed code = Unit {0}
HasCode headline.lock_is_held code = code ≡ LockError
HasCode headline.bad_argument code = code ≡ InvalidArgument
HasCode headline.store_exists code = code ≡ AlreadyExists
HasCode headline.not_supported code = code ≡ NotSupported
HasCode headline.compressor_failed code = Unit {0}

-- what a move of a walk returns
abbrev pub IsResultOf : Landing → Result (Option headline.Pair) Why → Type 0
IsResultOf (stands_on pair) result = result ≡ Ok (Some pair)
IsResultOf nowhere result = result ≡ Ok None
IsResultOf (move_refused refusal) result =
    (why : Why) × (result ≡ Err why) × HasCode why refusal.code

-- each in turn
abbrev pub AreResultsOf : List Landing → List (Result (Option headline.Pair) Why) → Type 0
AreResultsOf [] [] = Unit {0}
AreResultsOf (landing ∷ landings) (result ∷ results) =
    IsResultOf landing result × AreResultsOf landings results
AreResultsOf _ _ = ⊥

-- the outcome that an answer is
abbrev pub IsOutcomeOf : Answer → CallOutcome → Type 0
IsOutcomeOf done outcome = outcome ≡ headline.done
IsOutcomeOf (found looked) outcome = outcome ≡ headline.found looked
IsOutcomeOf (walked landings) outcome = (results : List (Result (Option headline.Pair) Why))
    × (outcome ≡ headline.walked results) × AreResultsOf landings results
IsOutcomeOf (snapshot one) outcome = outcome ≡ headline.snapshot one.number
IsOutcomeOf (refused refusal) outcome =
    ((outcome ≡ barred is_closed) × IsClosedRefusal refusal)
    ⊎ ((outcome ≡ barred is_broken) × IsBrokenRefusal refusal)
    ⊎ ((why : Why) × (outcome ≡ failed why) × HasCode why refusal.code)

-- A fault that is told of has come: a call of the device failed between these counts, in a move of a
-- walk too, or a compressor failed, which is said so.
abbrev pub HasFault : Type 0 → ℕ → ℕ → CallOutcome → Type 0
HasFault Encodes before after (failed headline.device_failed) = HasFailed before after
HasFault Encodes before after (failed headline.compressor_failed) = Encodes
HasFault Encodes before after (headline.walked results) =
    Contains results (Err headline.device_failed) → HasFailed before after
HasFault Encodes before after outcome = Unit {0}

-- a compressor failed with the code of a refusal as the request wrote a block
abbrev pub IsEncodingFault : State → Request → Answer → Type 0
IsEncodingFault old request (refused refusal) =
    CompressorFails (block_format old request) refusal.code
IsEncodingFault old request answer = ⊥

-- ---- the store that a state shows

-- the map has the values that keys have in these entries, at a number that none of them is past
abbrev pub HasMap : List Entry → Map → Type 0
HasMap entries map = (s : ℕ) → AreUpTo s entries → (key value : List ℕ)
    → HasValueAt entries s key value ↔ (map key ≡ Some value)

-- Batches show a history: there are as many, and the map of the first ones has the values of the
-- first ones of the history. Of a store that was repaired the first batch is the view of what was
-- found.
pub record AreShownAs (history : History) (batches : List Batch) : Type 0 where
  pub count : length batches ≡ length history
  pub maps : (n : ℕ) → HasMap (entries_of (take n history)) (map_of (take n batches))

-- the mode of the headline that a mode is
abbrev pub store_mode_of : Mode → StoreMode
store_mode_of open_mode = is_open
store_mode_of broken = is_broken
store_mode_of closed = is_closed

-- a snapshot is shown by its number and how many batches it shows: their map has the values at its
-- sequence
pub record IsHeldAs (history : History) (batches : List Batch) (one : Snapshot) (held : ℕ × ℕ)
    : Type 0 where
  pub number : held.0 ≡ one.number
  pub within : held.1 ≤ length batches
  pub map : (key value : List ℕ) → HasValueAt (entries_of history) one.sequence key value
      ↔ (map_of (take held.1 batches) key ≡ Some value)

-- each in turn
abbrev pub AreHeldAs : History → List Batch → List Snapshot → List (ℕ × ℕ) → Type 0
AreHeldAs history batches [] [] = Unit {0}
AreHeldAs history batches (one ∷ others) (held ∷ rest) =
    IsHeldAs history batches one held × AreHeldAs history batches others rest
AreHeldAs history batches _ _ = ⊥

-- the state shows the store
pub record IsShownAs (state : State) (store : UserStore) : Type 0 where
  pub batches : AreShownAs state.history store.batches
  -- also with what is pending
  pub pending : AreShownAs (with_batch state.history state.pending)
      (store.batches ++ option_to_list store.pending)
  -- what a sync covered, and maybe more
  pub durable : store.durable ≤ state.durable
  pub held : AreHeldAs state.history store.batches state.held store.held
  pub given : store.given ≡ state.given
  pub mode : store.mode ≡ store_mode_of state.mode

-- ---- the story of a run

-- each event of a run is told, in turn
abbrev pub TellsEvents : List Event → List headline.StoryEvent → Type 0
TellsEvents [] [] = Unit {0}
TellsEvents (event ∷ events) (returned call outcome ∷ told) =
    IsCallOf event.request event.answer call
    × IsOutcomeOf event.answer outcome × TellsEvents events told
TellsEvents _ _ = ⊥

-- the batch that a request writes
abbrev pub written_by : Request → Option Batch
written_by (write items sync) = Some (changes_of items)
written_by request = None

-- a crash before the first of these events cut short its write, or none
abbrev pub IsWriteCutShort : List Event → Option Batch → Type 0
IsWriteCutShort [] cut = cut ≡ None
IsWriteCutShort (event ∷ later) cut = (cut ≡ None) ⊎ (cut ≡ written_by event.request)

-- what was answered by the moment of a crash is told, and then the crash
pub record TellsCrash (events : List Event) (moment : ℕ) (told : List headline.StoryEvent)
    : Type 0 where
  pub done : List Event
  pub undone : List Event
  pub split : events ≡ done ++ undone
  pub by_then : All (λ event. event.moment ≤ moment) done
  pub not_yet : All (λ event. moment < event.moment) undone
  pub before : List headline.StoryEvent
  pub answers : TellsEvents done before
  pub cut : Option Batch
  pub is_cut : IsWriteCutShort undone cut
  pub told_is : told ≡ before ++ crash cut ∷ []

-- a life is told to its end
abbrev pub TellsLife : List Event → Ending → List headline.StoryEvent → Type 0
TellsLife events goes_on told = TellsEvents events told
TellsLife events (crashes moment inside counted) told = TellsCrash events moment told

-- one life after another
abbrev pub TellsLives : List Life → List headline.StoryEvent → Type 0
TellsLives [] told = told ≡ []
TellsLives (life ∷ lives) told = (front rest : List headline.StoryEvent)
    × (told ≡ front ++ rest) × TellsLife life.events life.ending front × TellsLives lives rest

-- ---- the laws

-- an opening is asked for in this order of keys
abbrev pub IsOpenedIn : (List ℕ → List ℕ → Ordering) → Request → Type 0
IsOpenedIn cmp (open_store opening) = opening.format.order ≡ cmp
IsOpenedIn cmp request = Unit {0}

-- and so is each opening of these lives
abbrev pub AreOpenedIn : (List ℕ → List ℕ → Ordering) → List Life → Type 0
AreOpenedIn cmp lives = All (λ life. All (λ event. IsOpenedIn cmp event.request) life.events) lives

-- a step of the machine is a row of the headline, between stores that the states show
pub record IsRowOf (cmp : List ℕ → List ℕ → Ordering) (setting : Setting) (old : State)
    (store : UserStore) (request : Request) (answer : Answer) (new : State) : Type 0 where
  pub call : Call
  pub outcome : CallOutcome
  pub next : UserStore
  pub asked : IsCallOf request answer call
  pub told : IsOutcomeOf answer outcome
  pub faults : HasFault (IsEncodingFault old request answer) setting.before setting.after outcome
  pub row : CallRow cmp store.mode store call outcome next
  pub shown : IsShownAs new next

-- each step, if keys have one order at every opening
abbrev pub StepsAreRows : Type 0
StepsAreRows = (cmp : List ℕ → List ℕ → Ordering) (setting : Setting) (old new : State)
    (request : Request) (answer : Answer) (store : UserStore)
    → IsState old → IsShownAs old store → old.format.order ≡ cmp
    → Step old.mode setting old request answer new → IsRowOf cmp setting old store request answer new

-- so lives from a state on, with their crashes, are told by a story from the store that it shows
abbrev pub LivesAreStories : Type 0
LivesAreStories = (cmp : List ℕ → List ℕ → Ordering) (meaning : Meaning) (lives : List Life)
    (before after : ℕ) (old last : State) (store : UserStore)
    → IsState old → IsShownAs old store → old.format.order ≡ cmp → AreOpenedIn cmp lives
    → Lives meaning before old lives after last
    → (events : List headline.StoryEvent) × (new : UserStore)
    × TellsLives lives events × IsStory cmp store events new × IsShownAs last new

-- and from where no store is yet they are told by a story from the store of no batch
abbrev pub RunsAreStories : Type 0
RunsAreStories = (meaning : Meaning) (format : Format) (lives : List Life) (after : ℕ)
    (last : State) → AreOpenedIn format.order lives
    → Lives meaning 0 (new_state format) lives after last
    → (events : List headline.StoryEvent) × (new : UserStore) × TellsLives lives events
    × IsStory format.order (fresh_store [] 0 is_closed) events new × IsShownAs last new

-- a store that was repaired shows one batch, and lives may go on from it
abbrev pub RepairsAreShown : Type 0
RepairsAreShown = (format : Format) (entries : List Entry) → IsExactOrder format.order
    → IsFoundSet entries
    → (batch : Batch) × IsState (repaired_state format entries)
    × IsShownAs (repaired_state format entries) (fresh_store (batch ∷ []) 1 is_closed)
