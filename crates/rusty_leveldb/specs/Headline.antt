-- The promise of the store: which map it is, what its calls return, and what a crash leaves of it.
-- Read it from the top, as a table. A store is a list of batches, and its map is what they make of
-- the empty one (`map_of`). `UserStore` is all that its user knows of it. `CrashRow` is a crash,
-- wherever it comes, also inside an opening that recovers from a crash. `AllowedRow` has a line for
-- each call that is done and each that fails, by the store before it and after it; `CallRow` looks
-- at the mode first. A story (`IsStory`) is any list of these events. All that the calls of `run`
-- and `lives` do, from an empty folder on, is a story that begins with a fresh store of no batch.
-- Of files, sequence numbers and options nothing is said here, nor when exactly a call fails for
-- which of its causes: that is `IsCausedBy` (Machines/Causes.antt).
use Rattle.std.specs.Prelude.{◌≡◌, ◌≤◌, ◌+◌, ◌-◌, ◌⊎◌, ◌↔◌, ℕ, Bool, not, if◌then◌else◌, nat_lt, List, [], ◌∷◌, ◌++◌, length, take, fold, position, slice_get, option_and_then, option_to_list, Option, Some, None, IsSome, Result, Ok, Err, All, Contains, IsTrue, bytes_eq}
use Rattle.std.specs.Ordering.{is_lt}
use Rattle.std.specs.declared.cmp.Ordering.{Ordering}

-- ---- a map, and the batches that change it

-- a key that is given a value, or none, which deletes it
pub record KeyChange : Type 0 where
  pub key : List ℕ
  pub value : Option (List ℕ)

-- changes that are made together or not at all, in order
abbrev pub Batch : Type 0
Batch = List KeyChange

-- the value of each key that has one
abbrev pub Map : Type 0
Map = List ℕ → Option (List ℕ)

-- the map after a change
abbrev pub with_change : Map → KeyChange → Map
with_change map change = λ key. if bytes_eq change.key key then change.value else map key

-- the map that batches make of the empty one, in order
abbrev pub map_of : List Batch → Map
map_of batches = fold (λ map batch. fold with_change map batch) (λ key. None) batches

-- a key with its value
abbrev pub Pair : Type 0
Pair = List ℕ × List ℕ

module _ (cmp : List ℕ → List ℕ → Ordering) where
  -- each key is before all that come after it
  abbrev pub AreRising : List Pair → Type 0
  AreRising [] = Unit {0}
  AreRising (one ∷ pairs) = All (λ two. IsTrue (is_lt (cmp one.0 two.0))) pairs × AreRising pairs

  -- all pairs of a map, in the order of keys
  pub record IsListing (map : Map) (pairs : List Pair) : Type 0 where
    pub sorted : AreRising pairs
    pub exactly : (key value : List ℕ) → Contains pairs (key, value) ↔ (map key ≡ Some value)

-- ---- the store, its calls, and what they return

-- open; broken, so that it is only read until it was abandoned and opened again; closed
pub data StoreMode : Type 0 where
  is_open is_broken is_closed : StoreMode

-- What its user knows of a store: its batches, and how many, from the first on, no crash takes
-- away; the snapshots that are held, each by its number and how many batches it shows; all numbers
-- given out since it was opened, none of which comes again; and the batch of a write that failed as
-- it was appended, which the next opening may find (an open store has none).
pub record UserStore : Type 0 where
  pub batches : List Batch
  pub durable : ℕ
  pub held : List (ℕ × ℕ)
  pub given : List ℕ
  pub pending : Option Batch
  pub mode : StoreMode

-- a store of these batches, with no snapshot and nothing pending
abbrev pub fresh_store : List Batch → ℕ → StoreMode → UserStore
fresh_store all count mode =
    record { batches = all; durable = count; held = []; given = []; pending = None; mode = mode }

-- a move of a walk
pub data WalkMove : Type 0 where
  seek_to_first advance prev reset : WalkMove
  seek : List ℕ → WalkMove

-- A call. A write has a batch, and says whether it is synced; a look-up and a walk read the store
-- now, or at the snapshot of a number.
pub data Call : Type 0 where
  open_store get_snapshot flush compact_range close abandon : Call
  write : Batch → Bool → Call
  get : Option ℕ → List ℕ → Call
  walk : Option ℕ → List WalkMove → Call
  release_snapshot : ℕ → Call

-- why a call fails, its mode apart
pub data Why : Type 0 where
  out_of_memory device_failed lock_is_held bad_argument : Why
  store_exists not_supported compressor_failed : Why

-- what a call returns, or that its mode bars it; a walk: the pair at each new position, or none
pub data CallOutcome : Type 0 where
  done : CallOutcome
  found : Option (List ℕ) → CallOutcome
  walked : List (Result (Option Pair) Why) → CallOutcome
  snapshot : ℕ → CallOutcome
  failed : Why → CallOutcome
  barred : StoreMode → CallOutcome

-- why a read may fail, and each move of a walk
abbrev pub read_causes : List Why
read_causes = out_of_memory ∷ device_failed ∷ bad_argument ∷ not_supported ∷ []

-- why a call may fail
abbrev pub causes : Call → List Why
causes open_store = lock_is_held ∷ store_exists ∷ compressor_failed ∷ read_causes
causes (write batch sync) = compressor_failed ∷ read_causes
causes compact_range = compressor_failed ∷ read_causes
causes (get at key) = read_causes
causes (walk at moves) = read_causes
causes get_snapshot = out_of_memory ∷ not_supported ∷ []
causes (release_snapshot number) = bad_argument ∷ []
causes flush = out_of_memory ∷ device_failed ∷ []
causes close = out_of_memory ∷ device_failed ∷ []
causes abandon = device_failed ∷ []

-- a call that fails does so for one of its causes
abbrev pub IsCaused : Call → CallOutcome → Type 0
IsCaused call (failed why) = Contains (causes call) why
IsCaused call outcome = Unit {0}

-- ---- walks: a list of pairs, and an optional position in it

module _ (cmp : List ℕ → List ℕ → Ordering) (pairs : List Pair) where
  -- the position, if the list has it
  abbrev pub within : ℕ → Option ℕ
  within i = if nat_lt i (length pairs) then Some i else None

  -- the position to which a move leads
  abbrev pub moved_to : Option ℕ → WalkMove → Option ℕ
  moved_to at seek_to_first = within 0
  moved_to None advance = within 0
  moved_to (Some i) advance = within (i + 1)
  moved_to None prev = None
  moved_to (Some i) prev = if nat_lt 0 i then Some (i - 1) else None
  moved_to at (seek key) = position (λ pair. not (is_lt (cmp pair.0 key))) pairs
  moved_to at reset = None

  -- what moves return, one after another; one that fails leaves no position, and a reset never does
  abbrev pub AreMoves : Option ℕ → List WalkMove → List (Result (Option Pair) Why) → Type 0
  AreMoves at [] [] = Unit {0}
  AreMoves at (move ∷ moves) (Ok there ∷ results) =
      (there ≡ option_and_then (slice_get pairs) (moved_to at move))
      × AreMoves (moved_to at move) moves results
  AreMoves at (reset ∷ moves) (Err why ∷ results) = ⊥
  AreMoves at (move ∷ moves) (Err why ∷ results) =
      Contains read_causes why × AreMoves None moves results
  AreMoves at _ _ = ⊥

-- ---- the rows: crashes, calls, stories

-- the batches that were handed on, also that of a write which a crash cuts short
abbrev pub handed_on : UserStore → Option Batch → List Batch
handed_on store cut = store.batches ++ option_to_list store.pending ++ option_to_list cut

-- A crash, which cuts short a write of this batch in an open store, or no write. It leaves the
-- first batches, each whole, with all that were durable; and all that it leaves is durable.
pub record CrashRow (old : UserStore) (cut : Option Batch) (new : UserStore) : Type 0 where
  pub writing : IsSome cut → old.mode ≡ is_open
  pub count : ℕ
  pub enough : old.durable ≤ count
  pub there : count ≤ length (handed_on old cut)
  pub rest : new ≡ fresh_store (take count (handed_on old cut)) count is_closed

-- the batches that a read shows, now or at a snapshot that is held
abbrev pub IsShown : UserStore → Option ℕ → List Batch → Type 0
IsShown store None shown = shown ≡ store.batches
IsShown store (Some number) shown =
    (count : ℕ) × Contains store.held (number, count) × (shown ≡ take count store.batches)

-- the store, broken, with this batch pending
abbrev pub broken_with : UserStore → Option Batch → UserStore
broken_with store batch = record store { pending = batch; mode = is_broken }

-- nothing changes; or it is broken, out of memory or by a failing device alone
abbrev pub MayLeaveBroken : UserStore → Option Batch → Why → UserStore → Type 0
MayLeaveBroken old batch why new = (new ≡ old)
    ⊎ (Contains (causes flush) why × ((new ≡ broken_with old None) ⊎ (new ≡ broken_with old batch)))

-- the store, closed, with no snapshot held
abbrev pub at_rest : UserStore → UserStore
at_rest store = record store { held = []; given = []; mode = is_closed }

-- a call returned, or a crash came
pub data StoryEvent : Type 0 where
  returned : Call → CallOutcome → StoryEvent
  crash : Option Batch → StoryEvent

module _ (cmp : List ℕ → List ℕ → Ordering) where
  -- what each call does that the mode allows, done or failed
  abbrev pub AllowedRow : UserStore → Call → CallOutcome → UserStore → Type 0
  AllowedRow old open_store done new = (all : List Batch)
      × ((all ≡ old.batches) ⊎ (all ≡ old.batches ++ option_to_list old.pending))
      × (new ≡ fresh_store all old.durable is_open)
  AllowedRow old open_store (failed why) new = new ≡ old
  AllowedRow old (write batch sync) done new = new ≡ record old {
    batches = old.batches ++ batch ∷ [];
    durable = if sync then length old.batches + 1 else old.durable;
  }
  AllowedRow old (write batch sync) (failed why) new = MayLeaveBroken old (Some batch) why new
  AllowedRow old (get at key) (found value) new = (new ≡ old)
      × (shown : List Batch) × IsShown old at shown × (value ≡ map_of shown key)
  AllowedRow old (get at key) (failed why) new = new ≡ old
  AllowedRow old (walk at moves) (walked results) new = (new ≡ old)
      × (shown : List Batch) × (pairs : List Pair) × IsShown old at shown
      × IsListing cmp (map_of shown) pairs × AreMoves cmp pairs None moves results
  AllowedRow old (walk at moves) (failed why) new = new ≡ old
  AllowedRow old get_snapshot (snapshot number) new = (Contains old.given number → ⊥)
      × (new ≡ record old {
        held = old.held ++ (number, length old.batches) ∷ [];
        given = old.given ++ number ∷ [];
      })
  AllowedRow old get_snapshot (failed why) new = new ≡ old
  AllowedRow old (release_snapshot number) done new = (front back : List (ℕ × ℕ)) × (count : ℕ)
      × (old.held ≡ front ++ (number, count) ∷ back) × (new ≡ record old { held = front ++ back })
  AllowedRow old (release_snapshot number) (failed why) new =
      ((count : ℕ) → Contains old.held (number, count) → ⊥) × (new ≡ old)
  AllowedRow old flush done new = new ≡ record old { durable = length old.batches }
  AllowedRow old flush (failed why) new = MayLeaveBroken old None why new
  AllowedRow old compact_range done new = new ≡ old
  AllowedRow old compact_range (failed why) new = MayLeaveBroken old None why new
  AllowedRow old close done new = new ≡ record (at_rest old) { durable = length old.batches }
  AllowedRow old close (failed why) new = new ≡ broken_with old None
  AllowedRow old abandon done new = new ≡ at_rest old
  AllowedRow old abandon (failed why) new = new ≡ at_rest old
  AllowedRow old call outcome new = ⊥

  -- the old store's mode is looked at first: a broken one isn't written, nor an open one opened
  abbrev pub CallRow : StoreMode → UserStore → Call → CallOutcome → UserStore → Type 0
  CallRow is_closed old open_store outcome new =
      IsCaused open_store outcome × AllowedRow old open_store outcome new
  CallRow is_closed old abandon outcome new = (outcome ≡ done) × (new ≡ old)
  CallRow is_closed old call outcome new = (outcome ≡ barred is_closed) × (new ≡ old)
  CallRow mode old open_store done new = ⊥
  CallRow is_broken old (write batch sync) outcome new = (outcome ≡ barred is_broken) × (new ≡ old)
  CallRow is_broken old flush outcome new = (outcome ≡ barred is_broken) × (new ≡ old)
  CallRow is_broken old compact_range outcome new = (outcome ≡ barred is_broken) × (new ≡ old)
  CallRow is_broken old close outcome new = (outcome ≡ barred is_broken) × (new ≡ old)
  CallRow mode old call outcome new = IsCaused call outcome × AllowedRow old call outcome new

  -- these calls that returned, and these crashes, lead from one store to another
  abbrev pub IsStory : UserStore → List StoryEvent → UserStore → Type 0
  IsStory old [] new = new ≡ old
  IsStory old (returned call outcome ∷ events) new =
      (next : UserStore) × CallRow old.mode old call outcome next × IsStory next events new
  IsStory old (crash cut ∷ events) new =
      (next : UserStore) × CrashRow old cut next × IsStory next events new
