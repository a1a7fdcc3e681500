-- The laws that users of a store rely on, over maps: each follows from the rows of the headline.
use Rattle.std.specs.Prelude.{◌≡◌, ◌≢◌, ◌≤◌, ◌+◌, ◌⊎◌, ℕ, false, All, List, [], ◌∷◌, ◌++◌, length, map, replicate, take, Option, Some, None, Result, Ok, IsOk}
use Rattle.std.specs.Ordering.{is_lt}
use Rattle.std.specs.declared.cmp.Ordering.{Ordering}
use Rattle.rusty_leveldb.specs.Headline.{KeyChange, Batch, Map, map_of, Pair, IsListing, UserStore, fresh_store, is_open, is_closed, WalkMove, advance, prev, open_store, abandon, close, get, walk, release_snapshot, Why, done, found, walked, AreMoves, CrashRow, CallRow, StoryEvent, returned, crash, IsStory}

-- a story leads to the store, from a fresh one of no batch on
abbrev pub IsReached : (List ℕ → List ℕ → Ordering) → UserStore → Type 0
IsReached cmp store =
    (events : List StoryEvent) × IsStory cmp (fresh_store [] 0 is_closed) events store

-- ---- batches

-- A batch is atomic in reads: all look-ups and walks, now or at one snapshot, see the same first
-- batches, each of them whole; and now they see all.
abbrev pub BatchesAreReadWhole : Type 0
BatchesAreReadWhole = (cmp : List ℕ → List ℕ → Ordering) (store : UserStore) (at : Option ℕ)
    → IsReached cmp store
    → (n : ℕ) × (at ≡ None → n ≡ length store.batches)
    × ((key : List ℕ) (value : Option (List ℕ)) (new : UserStore)
    → CallRow cmp store.mode store (get at key) (found value) new
    → value ≡ map_of (take n store.batches) key)
    × ((moves : List WalkMove) (results : List (Result (Option Pair) Why)) (new : UserStore)
    → CallRow cmp store.mode store (walk at moves) (walked results) new
    → (pairs : List Pair) × IsListing cmp (map_of (take n store.batches)) pairs
    × AreMoves cmp pairs None moves results)

-- a batch is atomic in recovery: one whose write a crash cuts short is there whole, after all that
-- was there, or not at all
abbrev pub BatchIsLeftWhole : Type 0
BatchIsLeftWhole = (cmp : List ℕ → List ℕ → Ordering) (old : UserStore) (batch : Batch)
    (new : UserStore) → IsReached cmp old → CrashRow old (Some batch) new
    → ((n : ℕ) × (new.batches ≡ take n old.batches)) ⊎ (new.batches ≡ old.batches ++ batch ∷ [])

-- in a batch the later entry of a key wins
abbrev pub LaterEntryWins : Type 0
LaterEntryWins = (batches : List Batch) (front back : Batch) (change : KeyChange)
    → All (λ later. later.key ≢ change.key) back
    → map_of (batches ++ (front ++ change ∷ back) ∷ []) change.key ≡ change.value

-- ---- durability

-- what is durable stays, whatever calls and crashes come
abbrev pub DurableIsKept : Type 0
DurableIsKept = (cmp : List ℕ → List ℕ → Ordering) (old : UserStore) (events : List StoryEvent)
    (last : UserStore) → IsReached cmp old → IsStory cmp old events last
    → (old.durable ≤ last.durable)
    × (take old.durable last.batches ≡ take old.durable old.batches)

-- after a store is abandoned and opened its whole history is there
abbrev pub AbandonedIsWhole : Type 0
AbandonedIsWhole = (cmp : List ℕ → List ℕ → Ordering) (old : UserStore) (new : UserStore)
    → IsReached cmp old → old.mode ≡ is_open
    → IsStory cmp old (returned abandon done ∷ returned open_store done ∷ []) new
    → (new.batches ≡ old.batches) × (new.mode ≡ is_open)

-- ---- snapshots

-- the snapshot of this number isn't released, nor is the store closed or opened
abbrev pub KeepsSnapshot : ℕ → StoryEvent → Type 0
KeepsSnapshot number (returned (release_snapshot other) outcome) = other ≢ number
KeepsSnapshot number (returned open_store outcome) = ⊥
KeepsSnapshot number (returned close outcome) = ⊥
KeepsSnapshot number (returned abandon outcome) = ⊥
KeepsSnapshot number (returned call outcome) = Unit {0}
KeepsSnapshot number (crash cut) = ⊥

-- a look-up at a snapshot that is held finds the same before and after writes and compactions
abbrev pub SnapshotReadsTheSame : Type 0
SnapshotReadsTheSame = (cmp : List ℕ → List ℕ → Ordering) (old last : UserStore) (number : ℕ)
    (key : List ℕ) (before after : Option (List ℕ)) (events : List StoryEvent)
    → IsReached cmp old
    → CallRow cmp old.mode old (get (Some number) key) (found before) old
    → All (KeepsSnapshot number) events → IsStory cmp old events last
    → CallRow cmp last.mode last (get (Some number) key) (found after) last
    → after ≡ before

-- ---- walks

-- no two pairs have one key
abbrev pub HaveKeysOnce : List Pair → Type 0
HaveKeysOnce [] = Unit {0}
HaveKeysOnce (one ∷ pairs) = All (λ two. one.0 ≢ two.0) pairs × HaveKeysOnce pairs

-- a walk that goes forward gives each pair of the map, each key once, and ends
abbrev pub ForwardWalkGivesMap : Type 0
ForwardWalkGivesMap = (cmp : List ℕ → List ℕ → Ordering) (values : Map) (pairs : List Pair)
    (results : List (Result (Option Pair) Why))
    → ((key : List ℕ) → is_lt (cmp key key) ≡ false) → IsListing cmp values pairs
    → AreMoves cmp pairs None (replicate (length pairs + 1) advance) results → All IsOk results
    → HaveKeysOnce pairs × (results ≡ map (λ pair. Ok (Some pair)) pairs ++ Ok None ∷ [])

-- a move back after one forward leads to where the walk was
abbrev pub PrevLeadsBack : Type 0
PrevLeadsBack = (cmp : List ℕ → List ℕ → Ordering) (pairs : List Pair) (at : Option ℕ)
    (move : WalkMove) (here there : Pair) (back : Option Pair)
    → AreMoves cmp pairs at (move ∷ advance ∷ prev ∷ [])
    (Ok (Some here) ∷ Ok (Some there) ∷ Ok back ∷ [])
    → back ≡ Some here
