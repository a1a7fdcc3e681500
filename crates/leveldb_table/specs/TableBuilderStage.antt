-- How far a table is built: what a builder has put, and what it keeps for later.
use Rattle.std.specs.Prelude.{◌≡◌, ◌≢◌, ℕ, ◌+◌, ◌/◌, ◌<◌, Bool, true, List, [], ◌∷◌, ◌++◌, length, flat_map, map}
use Rattle.std.specs.List.{AllByRecursion}
use Rattle.std.specs.declared.cmp.Ordering.{Ordering}
use Rattle.std.specs.declared.cmp.Ordering.TheVariants.{Less}
use Rattle.leveldb_base.specs.BlockHandle.{Handle, handle_bytes, HandleFits}
use Rattle.leveldb_base.specs.Types.{Pair}
use Rattle.leveldb_env.specs.FilterBlock.{FiltersBuilt, started, with_key, IsKeyKept}
use Rattle.leveldb_table.specs.Block.{KeysRise}
use Rattle.leveldb_table.specs.BlockBuilder.{last_added, block_made, IsMade}
use Rattle.leveldb_table.specs.Table.{Part, IsPart, HasBlockAt, IsStoredUnder, index_pair, keys_for, filters_before, with_trailer, AreLinked, blocks_len}

-- What a builder keeps: its filters, how many bytes it has put, the index's pairs, those of the
-- open block, and the count of all pairs; and after how many pairs restart points come in the data
-- blocks and in the index.
pub record Stage (FP : Type 0) : Type 0 where
  pub filter : FiltersBuilt FP
  pub offset : ℕ
  pub lines : List Pair
  pub open_pairs : List Pair
  pub count : ℕ
  pub interval : ℕ
  pub index_interval : ℕ

-- a table that is built, from its parts
abbrev pub stage_of : {FP : Type 0} → FiltersBuilt FP → ℕ → List Pair → List Pair → ℕ → ℕ → ℕ
    → Stage FP
stage_of filter offset lines open_pairs count interval index_interval =
    record {
      filter = filter;
      offset = offset;
      lines = lines;
      open_pairs = open_pairs;
      count = count;
      interval = interval;
      index_interval = index_interval;
    }

-- one more pair in the open block, and its key in the open filter
abbrev pub with_pair : {FP : Type 0} → Pair → Stage FP → Stage FP
with_pair pair stage =
    stage_of (with_key pair.0 stage.filter) stage.offset stage.lines
    (stage.open_pairs ++ pair ∷ []) (stage.count + 1) stage.interval stage.index_interval

-- the first key, or none
abbrev pub first_key : List Pair → List ℕ
first_key [] = []
first_key (pair ∷ pairs) = pair.0

-- each index key is the separator of its block's last key and the next block's first, the last
-- one's of this key
abbrev pub AreSeparated : (List ℕ → List ℕ → List ℕ) → List Part → List ℕ → Type 0
AreSeparated sep [] next = Unit {0}
AreSeparated sep (part ∷ []) next = part.index_key ≡ sep (last_added part.pairs) next
AreSeparated sep (part ∷ other ∷ parts) next =
    (part.index_key ≡ sep (last_added part.pairs) (first_key other.pairs))
    × AreSeparated sep (other ∷ parts) next

-- the filters that are made or open keep each key for this offset
abbrev pub KeepsAll : {FP : Type 0} → (List ℕ → List ℕ → Bool) → FiltersBuilt FP → ℕ → List Pair
    → Type 0
KeepsAll matches building offset pairs =
    AllByRecursion (λ pair. IsKeyKept matches building.filters building.keys offset pair.0) pairs

-- The file so far has these data blocks one after the other, as they are made at the interval and
-- stored under the id, and they and the open block have these pairs. The next key, which is after
-- the blocks, is the open block's first where it has one. The filters that are made are those of
-- these blocks.
pub record IsLaidOut {FP : Type 0} (Decodes : ℕ → List ℕ → List ℕ → Type 0)
    (accepts : List ℕ → Bool) (cmp : List ℕ → List ℕ → Ordering)
    (sep : List ℕ → List ℕ → List ℕ) (matches : List ℕ → List ℕ → Bool)
    (make : List (List ℕ) → List ℕ) (id : ℕ)
    (stage : Stage FP) (next written : List ℕ) (pairs : List Pair) : Type 0 where
  pub parts : List Part
  pub each : AllByRecursion (IsPart Decodes cmp written) parts
  pub exact : AllByRecursion (λ part. HasBlockAt Decodes written part.handle
      (block_made stage.interval part.pairs)) parts
  pub under : AllByRecursion (λ part. IsStoredUnder written id part.handle) parts
  pub lined : stage.lines ≡ map index_pair parts
  pub separated : AreSeparated sep parts next
  pub linked : AreLinked 0 (map (λ part. part.handle) parts)
  pub placed : stage.offset ≡ blocks_len (map (λ part. part.handle) parts)
  pub whole : length written ≡ stage.offset
  pub pairs_are : pairs ≡ flat_map (λ part. part.pairs) parts ++ stage.open_pairs
  pub sorted : KeysRise cmp pairs
  pub accepted : AllByRecursion (λ pair. accepts pair.0 ≡ true) pairs
  pub kept : AllByRecursion
      (λ part. KeepsAll matches stage.filter part.handle.offset part.pairs) parts
  pub open_kept : KeepsAll matches stage.filter stage.offset stage.open_pairs
  pub made : stage.filter.filters ≡ filters_before make parts (stage.offset / 2048)
  pub open_keys : stage.filter.keys
      ≡ keys_for (stage.offset / 2048) parts ++ map (λ pair. pair.0) stage.open_pairs
  pub counted : stage.count ≡ length pairs

-- the index's keys and after them those of the open block rise, and the open block's filter is
-- open
pub record AreReady {FP : Type 0} (accepts : List ℕ → Bool)
    (cmp index_cmp : List ℕ → List ℕ → Ordering) (stage : Stage FP) : Type 0 where
  pub order : index_cmp ≡ cmp
  pub rise : KeysRise cmp (stage.lines ++ stage.open_pairs)
  pub accepted : AllByRecursion (λ pair. accepts pair.0 ≡ true) (stage.lines ++ stage.open_pairs)
  pub filtered : stage.offset / 2048 ≡ length stage.filter.filters

-- an accepted key is after these keys
pub record Follows {FP : Type 0} (accepts : List ℕ → Bool) (cmp : List ℕ → List ℕ → Ordering)
    (stage : Stage FP) (next : List ℕ) : Type 0 where
  pub accepted : accepts next ≡ true
  pub after : stage.lines ++ stage.open_pairs ≢ []
      → cmp (last_added (stage.lines ++ stage.open_pairs)) next ≡ Less

-- A builder none of whose calls failed: it is ready so, and the open block has a pair where any
-- was added.
pub record IsSound {FP : Type 0} (accepts : List ℕ → Bool)
    (cmp index_cmp : List ℕ → List ℕ → Ordering) (stage : Stage FP) : Type 0 where
  pub ready : AreReady accepts cmp index_cmp stage
  pub some : 0 < stage.count → stage.open_pairs ≢ []
  pub none : stage.count ≡ 0 → stage.lines ++ stage.open_pairs ≡ []

-- The open block is put after the file, as it is made at the interval and stored under the id, and
-- gets its line in the index.
pub record Closes {FP : Type 0} (Decodes : ℕ → List ℕ → List ℕ → Type 0)
    (cmp : List ℕ → List ℕ → Ordering)
    (sep : List ℕ → List ℕ → List ℕ) (make : List (List ℕ) → List ℕ) (id : ℕ) (next : List ℕ)
    (old : Stage FP) (bytes : List ℕ) (new : Stage FP) : Type 0 where
  pub text : List ℕ
  pub stored : List ℕ
  pub handle : Handle
  pub made : IsMade cmp old.interval old.open_pairs text
  pub decoded : Decodes id stored text
  pub begins : handle.offset ≡ old.offset
  pub size : handle.size ≡ length stored
  pub fits : HandleFits handle
  pub encoded : bytes ≡ with_trailer id stored
  pub ends : new.offset ≡ old.offset + length stored + 5
  pub line : new.lines
      ≡ old.lines ++ (sep (last_added old.open_pairs) next, handle_bytes handle) ∷ []
  pub none_open : new.open_pairs ≡ []
  pub started : new.filter ≡ started make new.offset old.filter
  pub count : new.count ≡ old.count
  pub same_intervals : (new.interval ≡ old.interval) × (new.index_interval ≡ old.index_interval)
