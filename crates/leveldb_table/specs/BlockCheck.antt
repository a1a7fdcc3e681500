-- What reading and checking the bytes of a block gives.
use Rattle.std.specs.Prelude.{◌≡◌, ℕ, ◌-◌, ◌^◌, ◌<◌, Bool, true, false, nat_eq, List, [], ◌∷◌, ◌++◌, length, drop, flat_map, Option, None, Some}
use Rattle.std.specs.List.{All}
use Rattle.std.specs.Borrow.{Bor}
use Rattle.std.specs.declared.cmp.Ordering.{Ordering}
use Rattle.byteorder.specs.Endian.{little_number}
use Rattle.leveldb_base.specs.Varint.{varint}
use Rattle.leveldb_table.specs.Block.{BlockEntry, parts_bytes, entry_bytes, key_of, pairs_of, LengthsFit, SharesFrom, AreEntries, RiseAfter, KeysRise, restart_points}
use Rattle.leveldb_table.specs.declared.block.entry.EntryParts.{EntryParts}
use Rattle.leveldb_table.specs.declared.block.entry.Lengths.{Lengths}

-- the number, and the bytes after it
abbrev pub borrowed_number : Option (ℕ × Bor (List ℕ)) → Option (ℕ × List ℕ)
borrowed_number None = None
borrowed_number (Some read) = Some (read.0, read.1.now)

-- what reading a number at the front of some bytes gives: the number and what follows it, or
-- nothing where no encoding of a number of 32 bits is there
abbrev pub ReadsNumber : List ℕ → Option (ℕ × List ℕ) → Type 0
ReadsNumber bytes (Some (n, left)) = (n < 2 ^ 32) × (bytes ≡ varint n ++ left)
ReadsNumber bytes None = (n : ℕ) (left : List ℕ) → n < 2 ^ 32 → bytes ≡ varint n ++ left → ⊥

-- what reading an entry's three lengths at the front of some bytes gives: the lengths and what
-- follows them, or nothing where no encodings of three numbers of 32 bits are there
abbrev pub ReadsLengths : List ℕ → Option (Lengths × Bor (List ℕ)) → Type 0
ReadsLengths bytes (Some read) =
    (read.0.shared < 2 ^ 32) × (read.0.rest < 2 ^ 32) × (read.0.value < 2 ^ 32)
    × (bytes ≡ varint read.0.shared
    ++ (varint read.0.rest ++ (varint read.0.value ++ read.1.now)))
ReadsLengths bytes None =
    (shared rest value : ℕ) (left : List ℕ) → shared < 2 ^ 32 → rest < 2 ^ 32 → value < 2 ^ 32
    → bytes ≡ varint shared ++ (varint rest ++ (varint value ++ left)) → ⊥

-- an entry of these parts
abbrev pub block_entry : Bool → ℕ → List ℕ → List ℕ → BlockEntry
block_entry restart shared rest value =
    record { restart = restart; shared = shared; rest = rest; value = value }

-- the entry of these parts, named by a restart point or not
abbrev pub entry_in : Bool → EntryParts → BlockEntry
entry_in restart parts = block_entry restart parts.shared parts.rest.now parts.value.now

-- what reading an entry at the front of some bytes gives: its parts and what follows it, or
-- nothing where none is there
abbrev pub ReadsEntry : List ℕ → Option (EntryParts × Bor (List ℕ)) → Type 0
ReadsEntry bytes (Some read) =
    LengthsFit (entry_in false read.0)
    × (bytes ≡ parts_bytes read.0.shared read.0.rest.now read.0.value.now ++ read.1.now)
ReadsEntry bytes None =
    (entry : BlockEntry) (left : List ℕ) → LengthsFit entry → bytes ≡ entry_bytes entry ++ left → ⊥

-- the number in the last four bytes
abbrev pub count_at_end : List ℕ → ℕ
count_at_end bytes = little_number 4 (drop (length bytes - 4) bytes)

-- the key before an entry, where the entry isn't the first
abbrev pub key_before : Bool → List ℕ → Option (List ℕ)
key_before true key = None
key_before false key = Some key

-- the entry shares no more than it may with the key before it, and its own key is after that one
abbrev pub CanFollow : (List ℕ → List ℕ → Ordering) → Option (List ℕ) → BlockEntry → Type 0
CanFollow cmp last entry =
    SharesFrom last entry × RiseAfter cmp last ((key_of last entry, []) ∷ [])

-- the bytes and the restart points are those of these entries, whose keys rise strictly
pub record HasEntriesAndPoints (cmp : List ℕ → List ℕ → Ordering) (bytes points : List ℕ)
    (entries : List BlockEntry) : Type 0 where
  pub allowed : AreEntries None entries
  pub sorted : KeysRise cmp (pairs_of None entries)
  pub encoded : bytes ≡ flat_map entry_bytes entries
  pub marked : points ≡ restart_points entries

-- What checking bytes of entries and restart points finds: that they fit, and perhaps that the
-- comparator accepts all keys, or that they don't.
abbrev pub FindsEntries : (List ℕ → Bool) → (List ℕ → List ℕ → Ordering) → List ℕ → List ℕ
    → Option Bool → Type 0
FindsEntries accepts cmp bytes points (Some accepted) =
    (entries : List BlockEntry) × HasEntriesAndPoints cmp bytes points entries
    × (accepted ≡ true → All (λ pair. accepts pair.0 ≡ true) (pairs_of None entries))
FindsEntries accepts cmp bytes points None =
    (entries : List BlockEntry) → HasEntriesAndPoints cmp bytes points entries → ⊥

-- whether the first of these points is this offset
abbrev pub begins : ℕ → List ℕ → Bool
begins offset [] = false
begins offset (point ∷ points) = nat_eq point offset

-- the points that are left after an entry
abbrev pub points_after : Bool → List ℕ → List ℕ
points_after true [] = []
points_after true (point ∷ points) = points
points_after false points = points
