-- Layers of entries have a merge which a merge of walks over them is over.
use Rattle.std.proofs.Common.{◌≡◌, List, length}
use Rattle.std.specs.Prelude.{All, map}
use Rattle.leveldb_base.specs.Cmp.{IsExactOrder}
use Rattle.leveldb_base.specs.Entries.{entries_of_pairs}
use Rattle.leveldb_base.specs.Layers.{AreLayered}
use Rattle.leveldb_base.specs.Types.{Pair}
use Rattle.leveldb_base.specs.declared.cmp.Cmp.{Ghosts as CmpGhosts}
use Rattle.leveldb_iter.specs.Children.{AreOver}
use Rattle.leveldb_iter.specs.Merge.{HaveOnePairAKey}
use Rattle.leveldb_iter.specs.MergedEntries.{MergesEntries, internal_order}
use Rattle.leveldb_iter.specs.MergingIter.{AreMerged}
use Rattle.leveldb_iter.specs.Walk.{IsSortedIn, KeyOrder, key_order}
use Rattle.leveldb_iter.specs.declared.walk.Walk.{Ghosts as WalkGhosts}
use Rattle.leveldb_iter.proofs.MergedEntriesLemmas.{layers_have_merge, merge_is_of_entries}

-- Walks over layers of entries, the newer first, are over the merge of these.
module _ {E T I C : Type 0} (walk : WalkGhosts I E T) (cmp : CmpGhosts C) (compares : C) (order : KeyOrder) (exact : IsExactOrder order.cmp)
    (ordered : internal_order order ≡ key_order cmp compares) (world : E × T) (children : List I) (lists : List (List Pair))
    (counted : length lists ≡ length children) (over : AreOver walk world children (internal_order order) lists)
    (sorted : All (IsSortedIn (internal_order order)) lists) (layered : AreLayered (map entries_of_pairs lists)) where
  -- the merge of their lists, in which pairs of equal key are the same pair
  pub layers_merged : (merged : List Pair) × AreMerged walk cmp world compares children (internal_order order) lists merged
      × MergesEntries order.cmp lists merged × HaveOnePairAKey (internal_order order) lists
  layers_merged =
      let has = layers_have_merge order exact lists sorted layered in (
        has.0,
        record { counted = counted; over = over; merge = has.1; ordered = ordered },
        merge_is_of_entries order exact lists has.0 has.1 has.2,
        has.2,
      )
