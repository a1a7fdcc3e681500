-- Entries as pairs of an internal key and a value, their order, and the newest entry of a key.
use Rattle.std.specs.Prelude.{◌≡◌, ◌⊎◌, ◌<◌, ◌≤◌, ◌^◌, ℕ, Bool, true, false, List, [], ◌∷◌, map, if◌then◌else◌, Option, Some, None, Contains}
use Rattle.std.specs.Borrow.{Bor}
use Rattle.std.specs.Str.{bytes_eq}
use Rattle.std.specs.Cmp.{IsTotalOrder}
use Rattle.std.specs.declared.cmp.Ordering.{Ordering}
use Rattle.std.specs.declared.cmp.Ordering.TheVariants.{Less}
use Rattle.leveldb_base.specs.declared.key_types.ValueType.{ValueType}
use Rattle.leveldb_base.specs.declared.key_types.ValueType.TheVariants.{TypeDeletion, TypeValue}
use Rattle.leveldb_base.specs.declared.types.Lookup.{Lookup}
use Rattle.leveldb_base.specs.declared.types.Lookup.TheVariants.{Value, Deleted, Absent}
use Rattle.leveldb_base.specs.KeyTypes.{internal_key, user_part, sequence_part, type_part, internal_cmp}
use Rattle.leveldb_base.specs.Cmp.{IsExactOrder}
use Rattle.leveldb_base.specs.Types.{Pair, pair_at, seek_position}
use Rattle.leveldb_base.specs.History.{Entry, IsNewest, AreRising}

-- ---- entries as pairs

-- the type of an entry that has this value, or is a deletion
abbrev pub type_of : Option (List ℕ) → ValueType
type_of None = TypeDeletion
type_of (Some value) = TypeValue

-- the bytes of a value; a deletion has none
abbrev pub bytes_of_value : Option (List ℕ) → List ℕ
bytes_of_value None = []
bytes_of_value (Some value) = value

-- the value, or the deletion, that a type and bytes represent
abbrev pub value_of : ValueType → List ℕ → Option (List ℕ)
value_of TypeDeletion bytes = None
value_of TypeValue bytes = Some bytes

-- an entry as a pair: its internal key, and the bytes of its value
abbrev pub internal_pair : Entry → Pair
internal_pair entry =
    (internal_key entry.key entry.sequence (type_of entry.value), bytes_of_value entry.value)

-- the entry that an internal key and its value represent
abbrev pub entry_of_pair : Pair → Entry
entry_of_pair pair = record {
  sequence = sequence_part pair.0;
  key = user_part pair.0;
  value = value_of (type_part pair.0) pair.1;
}

-- the entries that pairs represent, in their order
abbrev pub entries_of_pairs : List Pair → List Entry
entries_of_pairs pairs = map entry_of_pair pairs

-- ---- the order of entries

-- an entry is before another: its key is, or it is the newer one of the same key
abbrev pub IsBeforeEntry : (List ℕ → List ℕ → Ordering) → Entry → Entry → Type 0
IsBeforeEntry cmp a b = (cmp a.key b.key ≡ Less) ⊎ ((a.key ≡ b.key) × (b.sequence < a.sequence))

-- each entry is before all that follow
abbrev pub AreSorted : (List ℕ → List ℕ → Ordering) → List Entry → Type 0
AreSorted cmp [] = Unit {0}
AreSorted cmp (entry ∷ entries) =
    ((other : Entry) → Contains entries other → IsBeforeEntry cmp entry other)
    × AreSorted cmp entries

-- an entry is before the entries of a key at or below s
abbrev pub IsBeforeKeyAt : (List ℕ → List ℕ → Ordering) → List ℕ → ℕ → Entry → Type 0
IsBeforeKeyAt cmp key s entry =
    (cmp entry.key key ≡ Less) ⊎ ((entry.key ≡ key) × (s < entry.sequence))

-- ---- the newest entry of a key; a list represents the set of its elements

-- the key's newest entry at or below s has this value or is a deletion, and no other is as new
pub record HasNewest (entries : List Entry) (s : ℕ) (key : List ℕ)
    (value : Option (List ℕ)) : Type 0 where
  -- the newest entry
  pub entry : Entry
  -- no entry of its key at or below s is newer
  pub newest : IsNewest entries s entry
  -- it is of this key
  pub key_is : entry.key ≡ key
  -- and has this value, or is a deletion
  pub value_is : entry.value ≡ value
  -- another entry of the key with the same number is this one
  pub only : (other : Entry) → IsNewest entries s other → other.key ≡ key → other ≡ entry

-- there is no entry of the key
abbrev pub is_absent : {V : Type 0} → Lookup V → Bool
is_absent (Value value) = false
is_absent Deleted = false
is_absent Absent = true

-- the value that was found; a deletion and no entry are none
abbrev pub value_found : {V : Type 0} → Lookup V → Option V
value_found (Value value) = Some value
value_found Deleted = None
value_found Absent = None

-- what a look-up found by reference
abbrev pub lookup_copied : Lookup (Bor (List ℕ)) → Lookup (List ℕ)
lookup_copied (Value value) = Value value.now
lookup_copied Deleted = Deleted
lookup_copied Absent = Absent

-- what an entry says of its key that has this value, or is a deletion
abbrev pub lookup_of : Option (List ℕ) → Lookup (List ℕ)
lookup_of None = Deleted
lookup_of (Some value) = Value value

-- What is found of a key at s: the value or the deletion of its newest entry at or below s, or
-- nothing where it has no such entry.
abbrev pub FindsNewest : List Entry → ℕ → List ℕ → Lookup (List ℕ) → Type 0
FindsNewest entries s key (Value value) = HasNewest entries s key (Some value)
FindsNewest entries s key Deleted = HasNewest entries s key None
FindsNewest entries s key Absent =
    (entry : Entry) → Contains entries entry → entry.key ≡ key → entry.sequence ≤ s → ⊥

-- what a pair says of a key: its value or deletion, where the pair is one of the key
abbrev pub found_at : List ℕ → Option Pair → Lookup (List ℕ)
found_at key None = Absent
found_at key (Some pair) =
    if bytes_eq (user_part pair.0) key then lookup_of (value_of (type_part pair.0) pair.1)
    else Absent

-- ---- laws

-- the pair of an entry represents that entry
abbrev pub PairIsRead : Type 0
PairIsRead = (entry : Entry) → entry.sequence < 2 ^ 56
    → entry_of_pair (internal_pair entry) ≡ entry

-- pairs whose internal keys rise represent sorted entries
abbrev pub RisingIsSorted : Type 0
RisingIsSorted = (cmp : List ℕ → List ℕ → Ordering) → IsExactOrder cmp
    → (pairs : List Pair) → AreRising (internal_cmp cmp) pairs
    → AreSorted cmp (entries_of_pairs pairs)

-- internal keys are ordered totally where users' keys are ordered exactly
abbrev pub InternalIsTotal : Type 0
InternalIsTotal = (cmp : List ℕ → List ℕ → Ordering) → IsExactOrder cmp
    → IsTotalOrder (internal_cmp cmp)

-- Of pairs whose internal keys rise, the first at or after an internal key says what is found of
-- its user key at its sequence number.
abbrev pub FirstIsNewest : Type 0
FirstIsNewest = (cmp : List ℕ → List ℕ → Ordering) → IsExactOrder cmp
    → (pairs : List Pair) → AreRising (internal_cmp cmp) pairs → (sought : List ℕ)
    → let first = pair_at pairs (seek_position (internal_cmp cmp) pairs sought) in
    let key = user_part sought in
    FindsNewest (entries_of_pairs pairs) (sequence_part sought) key (found_at key first)

-- the same for the internal key that is made to look a key up at s
abbrev pub FirstOfKeyIsNewest : Type 0
FirstOfKeyIsNewest = (cmp : List ℕ → List ℕ → Ordering) → IsExactOrder cmp
    → (pairs : List Pair) → AreRising (internal_cmp cmp) pairs
    → (key : List ℕ) (s : ℕ) (kind : ValueType) → s < 2 ^ 56
    → let sought = internal_key key s kind in
    let first = pair_at pairs (seek_position (internal_cmp cmp) pairs sought) in
    FindsNewest (entries_of_pairs pairs) s key (found_at key first)
