-- Where a walk is in a block.
use Rattle.std.specs.Prelude.{◌≡◌, ℕ, suc, ◌-◌, ◌<◌, ◌≤◌, nat_lt, if◌then◌else◌, List, [], ◌∷◌, ◌++◌, length, take, drop, flat_map, slice_get, slice_index, slice_range, Option, None, Some, IfSome, IsSomeAnd}
use Rattle.std.specs.Option.{option_map}
use Rattle.std.specs.declared.cmp.Ordering.{Ordering}
use Rattle.leveldb_base.specs.Types.{Pair, count_before, position_within}
use Rattle.leveldb_table.specs.Block.{BlockEntry, BlockRead, entry_bytes, key_of, pairs_of, restart_points}
use Rattle.leveldb_table.specs.declared.block.walk.Spot.{Spot}

-- the key of the last entry, or the one before all of them
abbrev pub last_key : Option (List ℕ) → List BlockEntry → Option (List ℕ)
last_key last [] = last
last_key last (entry ∷ entries) = last_key (Some (key_of last entry)) entries

-- where the entry of this number begins, or where the last one ends
abbrev pub start_of : List BlockEntry → ℕ → ℕ
start_of entries i = length (flat_map entry_bytes (take i entries))

-- how many entries begin before an offset
abbrev pub entries_before : ℕ → List BlockEntry → ℕ
entries_before offset [] = 0
entries_before offset (entry ∷ entries) =
    if nat_lt 0 offset then suc
    (entries_before (offset - length (entry_bytes entry)) entries) else 0

-- a restart point is at the offset
abbrev pub IsRestartPoint : List BlockEntry → ℕ → Type 0
IsRestartPoint entries offset =
    (j : ℕ) × (j < length (restart_points entries))
    × (slice_index (restart_points entries) j ≡ offset)

-- an entry begins at the offset, with this key
abbrev pub HasKeyAt : List BlockEntry → ℕ → List ℕ → Type 0
HasKeyAt entries offset key =
    (value : List ℕ)
    × (slice_get (pairs_of None entries) (entries_before offset entries) ≡ Some (key, value))

-- all entries before the offset have keys before this key
abbrev pub CanSeekFrom : (List ℕ → List ℕ → Ordering) → List BlockEntry → List ℕ → ℕ → Type 0
CanSeekFrom cmp entries key offset =
    entries_before offset entries ≤ count_before cmp key (pairs_of None entries)

-- the front of a key that the first of these entries shares is one of this key
abbrev pub SharesPrefixOf : List ℕ → Option (List ℕ) → List BlockEntry → Type 0
SharesPrefixOf key last [] = Unit {0}
SharesPrefixOf key last (entry ∷ entries) =
    (entry.shared ≤ length key) × (take entry.shared key ++ entry.rest ≡ key_of last entry)

-- an entry begins at this offset, whose key can be put together from this one
pub record CanLoad (entries : List BlockEntry) (key : List ℕ) (start : ℕ) : Type 0 where
  pub index : ℕ
  pub within : index < length entries
  pub begins : start ≡ start_of entries index
  pub serves : SharesPrefixOf key (last_key None (take index entries)) (drop index entries)

-- An entry begins and ends where the spot says, its key is this one, and its value lies where the
-- spot says.
pub record IsSpot (bytes : List ℕ) (entries : List BlockEntry) (key : List ℕ)
    (spot : Spot) : Type 0 where
  pub pair : slice_get (pairs_of None entries) (entries_before spot.start entries)
      ≡ Some (key, slice_range bytes spot.value spot.next)
  pub begins : spot.start ≡ start_of entries (entries_before spot.start entries)
  pub ends : spot.next ≡ start_of entries (suc (entries_before spot.start entries))
  pub ordered : spot.value ≤ spot.next

-- What a position in a block is to its callers: the bytes in its room for a key, which are the key
-- of the entry where it is at one, and where that entry lies.
pub record BlockPlace : Type 0 where
  pub key : List ℕ
  pub spot : Option Spot

-- no position, or one of the block
abbrev pub IsWithin : List ℕ → List BlockEntry → List ℕ → Option Spot → Type 0
IsWithin bytes entries key spot = IfSome spot (IsSpot bytes entries key)

-- the position, as a number of pairs before it
abbrev pub position_of : List BlockEntry → Option Spot → Option ℕ
position_of entries spot = option_map (λ spot. entries_before spot.start entries) spot

-- the number of the pair at the position, or how many pairs there are where there is no position
abbrev pub number_of : List BlockEntry → Option Spot → ℕ
number_of entries None = length (pairs_of None entries)
number_of entries (Some spot) = entries_before spot.start entries

-- What a walk over a block is to its callers: the block, the bytes in its room for a key, which are
-- the key of the pair where it is at one, and how many pairs are before the position: all of them
-- where it is at none.
pub record BlockPosition (C : Type 0) : Type 0 where
  pub block : BlockRead C
  pub key : List ℕ
  pub at : ℕ

module _ {C : Type 0} where
  -- a walk's pairs: those of its block
  abbrev pub pairs_over : BlockPosition C → List Pair
  pairs_over walk = pairs_of None walk.block.entries

  -- its position among them, if it has one
  abbrev pub position_over : BlockPosition C → Option ℕ
  position_over walk = position_within (pairs_over walk) walk.at

-- the pair of this key and a value, if there is one
abbrev pub pair_with : List ℕ → Option (List ℕ) → Option Pair
pair_with key value = option_map (λ value. (key, value)) value

-- the position is that of the entry that begins at the one offset and ends at the other
abbrev pub IsEntryBetween : List ℕ → List BlockEntry → List ℕ → Option Spot → ℕ → ℕ → Type 0
IsEntryBetween bytes entries key spot start next =
    IsSomeAnd spot
    (λ there. IsSpot bytes entries key there × (there.start ≡ start) × (there.next ≡ next))

-- the position is that of the entry that ends at the offset
abbrev pub IsEntryEndingAt : List ℕ → List BlockEntry → List ℕ → Option Spot → ℕ → Type 0
IsEntryEndingAt bytes entries key spot next =
    IsSomeAnd spot (λ there. IsSpot bytes entries key there × (there.next ≡ next))
