-- Which entries a compaction drops, and what those that it leaves show. A list represents the set
-- of its elements. The smallest held number is the oldest snapshot's, or, where none is held, the
-- last number: each number that a store is still read at is at or above it. A store tells it by its
-- snapshots (`IsSmallestHeld` of leveldb_iter), and hands it to the call that compacts.
use Rattle.std.specs.Prelude.{◌≡◌, ◌≤◌, ◌<◌, ◌⊎◌, ◌↔◌, ◌&&◌, ◌||◌, ◌++◌, ℕ, Bool, true, not, nat_le, nat_lt, is_none, List, [], ◌∷◌, Option, Some, None, Contains}
use Rattle.std.specs.List.{filter, list_any}
use Rattle.std.specs.Str.{bytes_eq}
use Rattle.std.specs.declared.cmp.Ordering.{Ordering}
use Rattle.leveldb_base.specs.Cmp.{IsExactOrder}
use Rattle.leveldb_base.specs.Entries.{AreSorted}
use Rattle.leveldb_base.specs.History.{Entry, SameView, greatest}

-- ---- what may be dropped

-- of its key these entries have a newer one, at or below the smallest held number
pub record IsShadowed (smallest : ℕ) (entries : List Entry) (entry : Entry) : Type 0 where
  -- the one that shadows it
  pub newer : Entry
  pub there : Contains entries newer
  pub key_is : newer.key ≡ entry.key
  pub above : entry.sequence < newer.sequence
  -- each held number shows this one, or one that is newer still
  pub held : newer.sequence ≤ smallest

-- a deletion at or below the smallest held number
pub record IsOldDeletion (smallest : ℕ) (entry : Entry) : Type 0 where
  pub deletion : entry.value ≡ None
  pub held : entry.sequence ≤ smallest

-- such a deletion, where no older entry of its key is left
pub record IsSpent (smallest : ℕ) (left : List Entry) (entry : Entry) : Type 0 where
  pub old : IsOldDeletion smallest entry
  pub last : (older : Entry) → Contains left older → older.key ≡ entry.key
      → older.sequence < entry.sequence → ⊥

-- the new entries are old ones, and those that they lack are shadowed or spent
pub record Thins (smallest : ℕ) (old new : List Entry) : Type 0 where
  pub made : (entry : Entry) → Contains new entry → Contains old entry
  pub kept : (entry : Entry) → Contains old entry
      → Contains new entry ⊎ (IsShadowed smallest old entry ⊎ IsSpent smallest new entry)

-- ---- what a compaction drops, where it sees its inputs alone

-- No more goes than may go: what an input shadows, and spent deletions of keys that pass the test
-- `IsLast`: no deeper level has them, as the ranges of its files tell. A table that is moved keeps
-- all.
pub record Drops (smallest : ℕ) (IsLast : List ℕ → Type 0) (inputs outputs : List Entry)
    : Type 0 where
  pub made : (entry : Entry) → Contains outputs entry → Contains inputs entry
  pub kept : (entry : Entry) → Contains inputs entry → Contains outputs entry
      ⊎ (IsShadowed smallest inputs entry ⊎ (IsSpent smallest outputs entry × IsLast entry.key))

-- No less goes: no output is shadowed by an input, or is an old deletion of such a key.
pub record HaveGone (smallest : ℕ) (IsLast : List ℕ → Type 0) (inputs outputs : List Entry)
    : Type 0 where
  pub shadowed : (entry : Entry) → Contains outputs entry → IsShadowed smallest inputs entry → ⊥
  pub deletions : (entry : Entry) → Contains outputs entry → IsOldDeletion smallest entry
      → IsLast entry.key → ⊥

-- exactly what may go does: so it is where tables are merged
pub record DropsAll (smallest : ℕ) (IsLast : List ℕ → Type 0) (inputs outputs : List Entry)
    : Type 0 where
  pub drops : Drops smallest IsLast inputs outputs
  pub gone : HaveGone smallest IsLast inputs outputs

-- ---- the rule as tests

-- an entry shadows another one
abbrev pub shadows : ℕ → Entry → Entry → Bool
shadows smallest newer entry = bytes_eq newer.key entry.key
    && (nat_lt entry.sequence newer.sequence && nat_le newer.sequence smallest)

-- an old deletion of a key that no deeper level has
abbrev pub is_last_deletion : ℕ → (List ℕ → Bool) → Entry → Bool
is_last_deletion smallest is_last entry =
    nat_le entry.sequence smallest && (is_none entry.value && is_last entry.key)

-- one of these entries goes, by the others and the test of its key
abbrev pub goes : ℕ → (List ℕ → Bool) → List Entry → Entry → Bool
goes smallest is_last entries entry = list_any (λ newer. shadows smallest newer entry) entries
    || is_last_deletion smallest is_last entry

-- the entries that don't go, in their order
abbrev pub thinned : ℕ → (List ℕ → Bool) → List Entry → List Entry
thinned smallest is_last entries =
    filter (λ entry. not (goes smallest is_last entries entry)) entries

-- an entry goes, as the entry just before it among sorted ones tells
abbrev pub goes_after : ℕ → (List ℕ → Bool) → Option Entry → Entry → Bool
goes_after smallest is_last None entry = is_last_deletion smallest is_last entry
goes_after smallest is_last (Some before) entry =
    (bytes_eq before.key entry.key && nat_le before.sequence smallest)
    || is_last_deletion smallest is_last entry

-- ---- laws

-- Thinned entries show the same at each number from the smallest held one on, and from the greatest
-- of them on.
abbrev pub ThinningKeepsViews : Type 0
ThinningKeepsViews = (smallest t : ℕ) (old new : List Entry)
    → (smallest ≤ t) ⊎ (greatest old ≤ t) → Thins smallest old new → SameView old new t

-- what doesn't go is left, whatever the order of the entries
abbrev pub ThinnedDropsAll : Type 0
ThinnedDropsAll = (smallest : ℕ) (is_last : List ℕ → Bool) (entries : List Entry)
    → DropsAll smallest (λ key. is_last key ≡ true) entries (thinned smallest is_last entries)

-- and no other set is
abbrev pub OneSetIsLeft : Type 0
OneSetIsLeft = (smallest : ℕ) (is_last : List ℕ → Bool) (inputs these those : List Entry)
    → DropsAll smallest (λ key. is_last key ≡ true) inputs these
    → DropsAll smallest (λ key. is_last key ≡ true) inputs those
    → (entry : Entry) → Contains these entry ↔ Contains those entry

-- of sorted entries the first, and each by the one before it, is known to go
pub record EntryBeforeTells : Type 0 where
  pub first : (cmp : List ℕ → List ℕ → Ordering) → IsExactOrder cmp → (smallest : ℕ)
      (is_last : List ℕ → Bool) (entry : Entry) (rest : List Entry) → AreSorted cmp (entry ∷ rest)
      → goes smallest is_last (entry ∷ rest) entry ≡ goes_after smallest is_last None entry
  pub next : (cmp : List ℕ → List ℕ → Ordering) → IsExactOrder cmp → (smallest : ℕ)
      (is_last : List ℕ → Bool) (front : List Entry) (before entry : Entry) (rest : List Entry)
      → AreSorted cmp ((front ++ before ∷ []) ++ entry ∷ rest)
      → goes smallest is_last ((front ++ before ∷ []) ++ entry ∷ rest) entry
      ≡ goes_after smallest is_last (Some before) entry

-- Five versions of key 1, where the numbers 4 and 7 are held: 7 and 9 are left, and 3, which 4
-- shows; and nothing of key 2, which no deeper level has.
abbrev pub ThinnedExample : Type 0
ThinnedExample = thinned 4 (bytes_eq (2 ∷ [])) (
    record { sequence = 9; key = 1 ∷ []; value = None }
    ∷ record { sequence = 7; key = 1 ∷ []; value = Some (7 ∷ []) }
    ∷ record { sequence = 3; key = 1 ∷ []; value = Some (3 ∷ []) }
    ∷ record { sequence = 2; key = 1 ∷ []; value = None }
    ∷ record { sequence = 1; key = 1 ∷ []; value = Some [] }
    ∷ record { sequence = 4; key = 2 ∷ []; value = None }
    ∷ record { sequence = 1; key = 2 ∷ []; value = Some [] } ∷ [])
    ≡ record { sequence = 9; key = 1 ∷ []; value = None }
    ∷ record { sequence = 7; key = 1 ∷ []; value = Some (7 ∷ []) }
    ∷ record { sequence = 3; key = 1 ∷ []; value = Some (3 ∷ []) } ∷ []
