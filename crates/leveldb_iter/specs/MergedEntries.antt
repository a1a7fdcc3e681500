-- A merge of pairs that represent entries, such as those of memtables and tables.
use Rattle.std.specs.Prelude.{◌↔◌, ℕ, List, map, All, Contains}
use Rattle.std.specs.declared.cmp.Ordering.{Ordering}
use Rattle.leveldb_base.specs.Cmp.{IsExactOrder, internal_accepts}
use Rattle.leveldb_base.specs.Entries.{AreSorted, entries_of_pairs}
use Rattle.leveldb_base.specs.History.{Entry, entries_of}
use Rattle.leveldb_base.specs.KeyTypes.{internal_cmp}
use Rattle.leveldb_base.specs.Layers.{AreLayered}
use Rattle.leveldb_base.specs.Types.{Pair}
use Rattle.leveldb_iter.specs.Walk.{KeyOrder, IsSortedIn}
use Rattle.leveldb_iter.specs.Merge.{HaveOnePairAKey, IsMerge}

-- the order of internal keys, by an order of users' keys
abbrev pub internal_order : KeyOrder → KeyOrder
internal_order order =
    record { accepts = internal_accepts order.accepts; cmp = internal_cmp order.cmp }

-- The pairs of the merge represent exactly the entries of the lists, sorted.
pub record MergesEntries (cmp : List ℕ → List ℕ → Ordering) (lists : List (List Pair))
    (merged : List Pair) : Type 0 where
  -- they are sorted by key, and of one key the newest is first
  pub sorted : AreSorted cmp (entries_of_pairs merged)
  -- each is an entry of a list, and each entry of a list is one of them
  pub exactly : (entry : Entry) → Contains (entries_of_pairs merged) entry
      ↔ Contains (entries_of (map entries_of_pairs lists)) entry

-- ---- laws

-- a merge in the order of internal keys merges the entries, if pairs of equal key are the same pair
abbrev pub MergeIsOfEntries : Type 0
MergeIsOfEntries = (order : KeyOrder) → IsExactOrder order.cmp
    → (lists : List (List Pair)) (merged : List Pair)
    → IsMerge (internal_order order) lists merged
    → HaveOnePairAKey (internal_order order) lists → MergesEntries order.cmp lists merged

-- layers of entries, of which the newer come first, have a merge, and no two pairs of equal key
abbrev pub LayersHaveMerge : Type 0
LayersHaveMerge = (order : KeyOrder) → IsExactOrder order.cmp → (lists : List (List Pair))
    → All (IsSortedIn (internal_order order)) lists
    → AreLayered (map entries_of_pairs lists)
    → (merged : List Pair) × IsMerge (internal_order order) lists merged
    × HaveOnePairAKey (internal_order order) lists
