-- The merge of the tables that a compaction takes.
use Rattle.std.specs.Prelude.{◌≡◌, List, None}
use Rattle.leveldb_base.specs.Types.{Pair}
use Rattle.leveldb_base.specs.declared.cmp.Cmp.{Ghosts as CmpGhosts}
use Rattle.leveldb_base.specs.declared.cmp.internal.InternalKeyCmp.{InternalKeyCmp}
use Rattle.leveldb_base.specs.declared.error.Status.{Status}
use Rattle.leveldb_iter.specs.MergingIter.{AreMerged, FailsMerged, FailsOrClashes, IsMergeAt, merged_here}
use Rattle.leveldb_iter.specs.Walk.{KeyOrder}
use Rattle.leveldb_iter.specs.declared.merging_iter.MergeCore.{MergeCore}
use Rattle.leveldb_iter.specs.declared.walk.Walk.{Ghosts as WalkGhosts}
use Rattle.leveldb_version.specs.Versions.Version.{VersionValue}
use Rattle.leveldb_version.specs.Walks.VersionIters.{AreVersionIters}
use Rattle.leveldb_version.specs.declared.version_iter.VersionIter.{VersionIter}

-- A merge of walks over the tables of a version, by this comparator's order of internal keys. None
-- of the walks has begun.
pub record MergesTablesOf {E T C : Type 0} (walk : WalkGhosts (VersionIter C) E T)
    (order : CmpGhosts (InternalKeyCmp C)) (cmp : C) (version : VersionValue C)
    (merge : MergeCore (InternalKeyCmp C) (VersionIter C)) : Type 0 where
  -- the walks
  pub walks : List (VersionIter C)
  pub over_tables : AreVersionIters version walks
  -- in each world in which they are over lists, it is over the merge of these, at no position
  pub is_at : (world : E × T) (by : KeyOrder) (lists : List (List Pair)) (pairs : List Pair)
      → AreMerged walk order world (record { 0 = cmp }) walks by lists pairs
      → IsMergeAt walk order world merge by pairs None
  pub none : merged_here walk merge ≡ None
  -- it fails for no other cause than one of them, or that two of them have different pairs of a key
  pub fails : (from to : E × T) (status : Status) → FailsMerged walk order from merge to status
      → FailsOrClashes walk order from (record { 0 = cmp }) walks to status
