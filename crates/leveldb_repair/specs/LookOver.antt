-- What a look over all pairs of a walk finds, and why it comes to no end.
use Rattle.std.specs.Prelude.{◌≡◌, ◌≢◌, ◌⊎◌, ◌↔◌, ◌<◌, ◌≤◌, List, [], length, Contains, Result, OnOk, IfOk, IfErr, IsTrue}
use Rattle.leveldb_base.specs.Cmp.{IsPreorderOn}
use Rattle.leveldb_base.specs.Entries.{entries_of_pairs}
use Rattle.leveldb_base.specs.Error.{IsOutOfMemory}
use Rattle.leveldb_base.specs.History.{greatest}
use Rattle.leveldb_base.specs.Types.{Pair}
use Rattle.leveldb_base.specs.declared.error.Status.{Status}
use Rattle.leveldb_base.specs.declared.error.StatusCode.TheVariants.{Corruption}
use Rattle.leveldb_iter.specs.Merge.{HaveOnePairAKey, IsMerge}
use Rattle.leveldb_iter.specs.Walk.{KeyOrder}
use Rattle.leveldb_iter.specs.declared.walk.Walk.{Ghosts as WalkGhosts}
use Rattle.leveldb_repair.specs.declared.look_over.LookedOver.{LookedOver}

-- pairs of internal keys, the greatest number of their entries, and whether there is one
pub record AreLookedOver (pairs : List Pair) (found : LookedOver) : Type 0 where
  -- each key has a tag
  pub tagged : (pair : Pair) → Contains pairs pair → 8 ≤ length pair.0
  -- the greatest number, or 0
  pub last : found.last ≡ greatest (entries_of_pairs pairs)
  -- whether there is a pair
  pub any : IsTrue found.any ↔ (pairs ≢ [])

module _ {E T W : Type 0} (walk : WalkGhosts W E T) where
  -- In this world a walk is over these lists merged: over each merge of them. Lists that have
  -- different pairs of one key have several merges.
  abbrev pub IsOverMerges : E × T → W → KeyOrder → List (List Pair) → Type 0
  IsOverMerges world it order lists =
      (pairs : List Pair) → IsMerge order lists pairs → walk.over world it order pairs

  -- each list that a walk is over in this world has a pair whose key has no tag
  abbrev pub IsOverTagless : E × T → W → Type 0
  IsOverTagless world it = (pair : Pair) × (length pair.0 < 8)
      × ((order : KeyOrder) (pairs : List Pair) → walk.over world it order pairs
      → Contains pairs pair)

  -- What a look over all pairs of a walk finds, and what it leaves.
  pub record LooksOver (start : E × T) (it : W) (result : Result LookedOver Status) (end : E × T)
      (now : W) : Type 0 where
    -- the pairs of the walk were read, all of them
    pub ok : IfOk result (λ found. (read : List Pair) × AreLookedOver read found
        × ((order : KeyOrder) (pairs : List Pair) → walk.over start it order pairs → pairs ≡ read))
    -- so if it is over lists merged, these have one pair of each key
    pub one : OnOk result ((order : KeyOrder) (lists : List (List Pair)) (pairs : List Pair)
        → IsPreorderOn order.accepts order.cmp → IsMerge order lists pairs
        → IsOverMerges start it order lists → HaveOnePairAKey order lists)
    -- the walk is over the same lists, and can go over them again
    pub same : (order : KeyOrder) (pairs : List Pair)
        → walk.over start it order pairs → walk.over end now order pairs
    -- only moves of the walk were made
    pub kept : walk.keeps start end
    -- one of them failed, memory is out, or a key has no tag
    pub cause : IfErr result (λ status. walk.fails start it end status ⊎ IsOutOfMemory status
        ⊎ ((status.code ≡ Corruption) × IsOverTagless start it))
    -- each error that it may have from now on is one that it might have had
    pub excuses : (later : E × T) (status : Status)
        → walk.fails end now later status → walk.fails start it later status
