-- A block: sorted pairs as bytes. A list of pairs has several encodings, since an entry may share
-- any part of its key with the key before it, and any entry that shares nothing may be a restart
-- point.
use Rattle.std.specs.Prelude.{◌≡◌, ℕ, ◌+◌, ◌^◌, ◌<◌, ◌≤◌, Bool, true, List, [], ◌∷◌, ◌++◌, length, take, flat_map, Option, None, Some, if◌then◌else◌}
use Rattle.std.specs.List.{All}
use Rattle.std.specs.declared.cmp.Ordering.{Ordering}
use Rattle.std.specs.declared.cmp.Ordering.TheVariants.{Less}
use Rattle.leveldb_base.specs.Types.{Pair}
use Rattle.leveldb_base.specs.Varint.{little, varint}

-- A pair as it is in a block: whether a restart point names it, how many bytes its key shares with
-- the key before it, the rest of its key, and its value.
pub record BlockEntry : Type 0 where
  pub restart : Bool
  pub shared : ℕ
  pub rest : List ℕ
  pub value : List ℕ

-- the three lengths, the rest of the key, and the value
abbrev pub parts_bytes : ℕ → List ℕ → List ℕ → List ℕ
parts_bytes shared rest value =
    varint shared ++ (varint (length rest) ++ (varint (length value) ++ (rest ++ value)))

-- the bytes of an entry in a block
unfoldable pub entry_bytes : BlockEntry → List ℕ
entry_bytes entry = parts_bytes entry.shared entry.rest entry.value

-- the entry's key, after the key before it
abbrev pub key_of : Option (List ℕ) → BlockEntry → List ℕ
key_of None entry = entry.rest
key_of (Some last) entry = take entry.shared last ++ entry.rest

-- the pairs of entries that follow a key
abbrev pub pairs_of : Option (List ℕ) → List BlockEntry → List Pair
pairs_of last [] = []
pairs_of last (entry ∷ entries) =
    (key_of last entry, entry.value) ∷ pairs_of (Some (key_of last entry)) entries

-- the lengths have 32 bits
pub record LengthsFit (entry : BlockEntry) : Type 0 where
  pub shared_fits : entry.shared < 2 ^ 32
  pub rest_fits : length entry.rest < 2 ^ 32
  pub value_fits : length entry.value < 2 ^ 32

-- The first entry is a restart point. An entry shares no more than the key before it has, and at a
-- restart point nothing.
abbrev pub SharesFrom : Option (List ℕ) → BlockEntry → Type 0
SharesFrom None entry = (entry.restart ≡ true) × (entry.shared ≡ 0)
SharesFrom (Some last) entry =
    (entry.shared ≤ length last) × (entry.restart ≡ true → entry.shared ≡ 0)

-- entries that may follow a key
abbrev pub AreEntries : Option (List ℕ) → List BlockEntry → Type 0
AreEntries last [] = Unit {0}
AreEntries last (entry ∷ entries) =
    LengthsFit entry × SharesFrom last entry × AreEntries (Some (key_of last entry)) entries

-- keys that rise strictly after a key
abbrev pub RiseAfter : (List ℕ → List ℕ → Ordering) → Option (List ℕ) → List Pair → Type 0
RiseAfter cmp last [] = Unit {0}
RiseAfter cmp None (pair ∷ pairs) = RiseAfter cmp (Some pair.0) pairs
RiseAfter cmp (Some last) (pair ∷ pairs) =
    (cmp last pair.0 ≡ Less) × RiseAfter cmp (Some pair.0) pairs

-- keys rise strictly
abbrev pub KeysRise : (List ℕ → List ℕ → Ordering) → List Pair → Type 0
KeysRise cmp pairs = RiseAfter cmp None pairs

-- where the entries begin that restart points name, the first entry beginning at this offset
abbrev pub points_from : ℕ → List BlockEntry → List ℕ
points_from offset [] = []
points_from offset (entry ∷ entries) =
    if entry.restart then offset ∷ points_from (offset + length (entry_bytes entry)) entries else
    points_from (offset + length (entry_bytes entry)) entries

-- the offsets of all restart points; without an entry there is one all the same
abbrev pub restart_points : List BlockEntry → List ℕ
restart_points [] = 0 ∷ []
restart_points (entry ∷ entries) = points_from 0 (entry ∷ entries)

-- the entries one after the other, the offsets of the restart points, and how many these are
unfoldable pub block_bytes : List BlockEntry → List ℕ
block_bytes entries =
    flat_map entry_bytes entries ++ (flat_map (little 4) (restart_points entries)
    ++ little 4 (length (restart_points entries)))

-- the bytes are a block of these entries, whose keys rise strictly
pub record HasEntries (cmp : List ℕ → List ℕ → Ordering) (bytes : List ℕ)
    (entries : List BlockEntry) : Type 0 where
  pub encoded : bytes ≡ block_bytes entries
  pub allowed : AreEntries None entries
  pub sorted : KeysRise cmp (pairs_of None entries)
  pub points_fit : All (λ offset. offset < 2 ^ 32) (restart_points entries)
  pub count_fits : length (restart_points entries) < 2 ^ 32

-- the bytes are a block of these pairs under a comparator
pub record IsBlock (cmp : List ℕ → List ℕ → Ordering) (bytes : List ℕ)
    (pairs : List Pair) : Type 0 where
  pub entries : List BlockEntry
  pub encoded : HasEntries cmp bytes entries
  pub pairs_are : pairs ≡ pairs_of None entries

-- the bytes are no block under a comparator
abbrev pub IsNoBlock : (List ℕ → List ℕ → Ordering) → List ℕ → Type 0
IsNoBlock cmp bytes = (pairs : List Pair) → IsBlock cmp bytes pairs → ⊥

-- What a block in memory knows: its entries end at the limit, and where it is said, the comparator
-- accepts all keys.
pub record AreEntriesEndingAt (accepts : List ℕ → Bool) (cmp : List ℕ → List ℕ → Ordering)
    (bytes : List ℕ) (limit : ℕ) (accepted : Bool) (entries : List BlockEntry) : Type 0 where
  pub encoded : HasEntries cmp bytes entries
  pub ends : limit ≡ length (flat_map entry_bytes entries)
  pub each_accepted : accepted ≡ true → All (λ pair. accepts pair.0 ≡ true) (pairs_of None entries)

-- there are such entries
abbrev pub HasEntriesEndingAt : (List ℕ → Bool) → (List ℕ → List ℕ → Ordering) → List ℕ → ℕ → Bool
    → Type 0
HasEntriesEndingAt accepts cmp bytes limit accepted =
    (entries : List BlockEntry) × AreEntriesEndingAt accepts cmp bytes limit accepted entries

-- What a block in memory is to its callers: the order of its keys, its bytes, and the entries that
-- these are.
pub record BlockRead (C : Type 0) : Type 0 where
  pub cmp : C
  pub contents : List ℕ
  pub entries : List BlockEntry
