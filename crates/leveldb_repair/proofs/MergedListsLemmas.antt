-- A merge that was made of walks is over their lists merged.
use Rattle.std.specs.Prelude.{length}
use Rattle.std.proofs.Common.{◌≡◌, List, None, refl}
use Rattle.leveldb_base.specs.Types.{Pair}
use Rattle.leveldb_base.specs.declared.cmp.Cmp.{Ghosts as CmpGhosts}
use Rattle.leveldb_iter.specs.Children.{AreOver}
use Rattle.leveldb_iter.specs.Merge.{IsMerge}
use Rattle.leveldb_iter.specs.MergingIter.{AreMerged, IsMergeAt, IsMergeOver}
use Rattle.leveldb_iter.specs.Walk.{KeyOrder, key_order}
use Rattle.leveldb_iter.specs.declared.merging_iter.MergeCore.{MergeCore}
use Rattle.leveldb_iter.specs.declared.walk.Walk.{Ghosts as WalkGhosts}

-- what `MergeCore::new` says of where it is: over each merge of the lists of its children
module _ {E T I C : Type 0} (walk : WalkGhosts I E T) (cmp : CmpGhosts C) (compares : C)
    (children : List I) (it : MergeCore C I) where
  pub over_merges : ((world : E × T) (order : KeyOrder) (lists : List (List Pair)) (pairs : List Pair)
      → AreMerged walk cmp world compares children order lists pairs
      → IsMergeAt walk cmp world it order pairs None)
      → (world : E × T) (lists : List (List Pair)) → length lists ≡ length children
      → AreOver walk world children (key_order cmp compares) lists
      → (pairs : List Pair) → IsMerge (key_order cmp compares) lists pairs
      → IsMergeOver walk cmp world it (key_order cmp compares) pairs
  over_merges made world lists counted over pairs merge = (
    None,
    made world (key_order cmp compares) lists pairs (record {
      counted = counted;
      over = over;
      merge = merge;
      ordered = refl;
    }),
  )
