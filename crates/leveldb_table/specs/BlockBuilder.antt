-- What a block builder has, and what it makes of it.
use Rattle.std.specs.Prelude.{◌≡◌, ℕ, suc, ◌+◌, ◌*◌, ◌%◌, ◌^◌, ◌<◌, ◌≤◌, ◌⊎◌, Bool, true, false, nat_eq, if◌then◌else◌, List, [], ◌∷◌, ◌++◌, length, drop, flat_map, None}
use Rattle.std.specs.List.{All}
use Rattle.std.specs.declared.cmp.Ordering.{Ordering}
use Rattle.leveldb_base.specs.Types.{Pair}
use Rattle.leveldb_table.specs.Block.{BlockEntry, entry_bytes, pairs_of, AreEntries, KeysRise, restart_points, block_bytes, IsBlock}
use Rattle.leveldb_table.specs.BlockCheck.{key_before}
use Rattle.leveldb_table.specs.BlockWalk.{last_key}

-- at each multiple of the interval a restart point names an entry, the first having this number
abbrev pub AreSpaced : ℕ → ℕ → List BlockEntry → Type 0
AreSpaced interval i [] = Unit {0}
AreSpaced interval i (entry ∷ entries) =
    (entry.restart ≡ nat_eq (i % interval) 0) × AreSpaced interval (i + 1) entries

-- the restart points that an entry at an offset brings
abbrev pub points_more : Bool → ℕ → List ℕ
points_more true offset = offset ∷ []
points_more false offset = []

-- the key of the last pair, or none
abbrev pub last_added : List Pair → List ℕ
last_added [] = []
last_added (pair ∷ []) = pair.0
last_added (pair ∷ next ∷ pairs) = last_added (next ∷ pairs)

-- how many bytes at the front two keys share
abbrev pub shared_len : List ℕ → List ℕ → ℕ
shared_len [] key = 0
shared_len (b ∷ last) [] = 0
shared_len (b ∷ last) (c ∷ key) = if nat_eq b c then suc (shared_len last key) else 0

-- The entry of a pair after others. At a restart point its key is whole, else without what it
-- shares with the key before it.
abbrev pub entry_after : ℕ → List BlockEntry → List ℕ → List ℕ → BlockEntry
entry_after interval entries key value =
    let restart = nat_eq (length entries % interval) 0 in
    let shared = if restart then 0 else shared_len (last_added (pairs_of None entries)) key in
    record { restart = restart; shared = shared; rest = drop shared key; value = value }

-- entries, and after them those of further pairs
abbrev pub entries_after : ℕ → List BlockEntry → List Pair → List BlockEntry
entries_after interval entries [] = entries
entries_after interval entries (pair ∷ pairs) =
    entries_after interval (entries ++ entry_after interval entries pair.0 pair.1 ∷ []) pairs

-- the block of these pairs: at each multiple of the interval a restart point, where the key is
-- whole, and each other key without what it shares with the one before it
abbrev pub block_made : ℕ → List Pair → List ℕ
block_made interval pairs = block_bytes (entries_after interval [] pairs)

-- the text is that block, and a block under a comparator
pub record IsMade (cmp : List ℕ → List ℕ → Ordering) (interval : ℕ) (pairs : List Pair)
    (text : List ℕ) : Type 0 where
  pub block : IsBlock cmp text pairs
  pub exact : text ≡ block_made interval pairs

-- the bytes of the entries, four for each restart point that is set, and four for their count
abbrev pub estimate : List BlockEntry → Bool → ℕ
estimate entries begun =
    length (flat_map entry_bytes entries)
    + 4 * (if begun then length (restart_points entries) else 0) + 4

-- the entry would begin at an offset of more than 32 bits, or have a key or a value that long
abbrev pub IsEntryTooLarge : List BlockEntry → List ℕ → List ℕ → Type 0
IsEntryTooLarge entries key value =
    (2 ^ 32 ≤ length (flat_map entry_bytes entries)) ⊎ (2 ^ 32 ≤ length key)
    ⊎ (2 ^ 32 ≤ length value)

-- The bytes are these entries: at each multiple of the interval a restart point, where the key is
-- whole, and each other key without what it shares with the one before it. The further points are
-- the restart points after the first, which is set where there are entries.
pub record AreEntriesBuilt (cmp : List ℕ → List ℕ → Ordering) (interval : ℕ)
    (bytes points last : List ℕ) (count : ℕ) (begun : Bool)
    (entries : List BlockEntry) : Type 0 where
  pub some_interval : 1 ≤ interval
  pub encoded : bytes ≡ flat_map entry_bytes entries
  pub pointed : 0 ∷ points ≡ restart_points entries
  pub spaced : AreSpaced interval 0 entries
  pub exact : entries_after interval [] (pairs_of None entries) ≡ entries
  pub allowed : AreEntries None entries
  pub sorted : KeysRise cmp (pairs_of None entries)
  pub reached : last_key None entries ≡ key_before (nat_eq count 0) last
  pub cleared : count ≡ 0 → last ≡ []
  pub counted : count ≡ length entries
  pub begins : 0 < count → begun ≡ true
  pub points_fit : All (λ offset. offset < 2 ^ 32) points
  pub count_fits : length points + 1 < 2 ^ 32

-- some entries have been added
abbrev pub HasEntriesBuilt : (List ℕ → List ℕ → Ordering) → ℕ → List ℕ → List ℕ → List ℕ → ℕ → Bool
    → Type 0
HasEntriesBuilt cmp interval bytes points last count begun =
    (entries : List BlockEntry)
    × AreEntriesBuilt cmp interval bytes points last count begun entries

-- What a block builder is to its callers: its order, after how many entries restart points come,
-- the entries of the pairs that were added, whether the first restart point is set, and for how
-- many bytes of entries it has room.
pub record BlockBuilt (C : Type 0) : Type 0 where
  pub cmp : C
  pub interval : ℕ
  pub entries : List BlockEntry
  pub begun : Bool
  pub room : ℕ

-- a pair was added to some entries: with the entry that it gets after them it is the last of their
-- pairs
pub record AddsEntry (interval : ℕ) (old new : List BlockEntry) (key value : List ℕ) : Type 0 where
  pub pairs : pairs_of None new ≡ pairs_of None old ++ (key, value) ∷ []
  pub entry : new ≡ old ++ entry_after interval old key value ∷ []
