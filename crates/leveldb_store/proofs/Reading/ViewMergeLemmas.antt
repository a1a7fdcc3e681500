-- The view above the merge of walks.
use Rattle.std.proofs.Common.{List, None, refl, ℕ}
use Rattle.leveldb_base.specs.Entries.{entries_of_pairs}
use Rattle.leveldb_base.specs.Types.{Pair}
use Rattle.leveldb_base.specs.View.{view_of}
use Rattle.leveldb_base.specs.declared.cmp.Cmp.{Ghosts as CmpGhosts}
use Rattle.leveldb_iter.specs.DbIter.{IsViewOf}
use Rattle.leveldb_iter.specs.MergedEntries.{internal_order}
use Rattle.leveldb_iter.specs.MergingIter.{AreMerged, IsMergeAt, IsMergeOver}
use Rattle.leveldb_iter.specs.Walk.{KeyOrder}
use Rattle.leveldb_iter.specs.declared.merging_iter.MergeCore.{MergeCore}
use Rattle.leveldb_iter.specs.declared.walk.Walk.{Ghosts as WalkGhosts}
use Rattle.leveldb_store.specs.Reading.View.{IsMergeToView}

module _ {E T I C : Type 0} (child : WalkGhosts I E T) (cmp : CmpGhosts C) (world : E × T) where
  -- what a view is over
  pub view_over : (merge : WalkGhosts (MergeCore C I) E T) (compares : C) (children : List I) (it : MergeCore C I) (sequence : ℕ)
      → ((order : KeyOrder) (pairs : List Pair) → IsMergeOver child cmp world it order pairs → merge.over world it order pairs)
      → ((order : KeyOrder) (lists : List (List Pair)) (pairs : List Pair) → AreMerged child cmp world compares children order lists pairs → IsMergeAt child cmp world it order pairs None)
      → (order : KeyOrder) (below : List Pair) → IsMergeToView child cmp compares children world order below
      → IsViewOf merge world it sequence order below (view_of sequence (entries_of_pairs below))
  view_over merge compares children it sequence over at order below is = record {
    over = over (internal_order order) below (None, at (internal_order order) is.lists below is.merged);
    exact = is.exact;
    accepts = is.accepts;
    view = refl;
  }
