-- A walk beside the borrows that its moves need.
use Rattle.std.specs.Prelude.{◌≡◌, ◌⊎◌, Result}
use Rattle.std.specs.Borrow.{MutBor}
use Rattle.leveldb_base.specs.declared.error.Status.{Status}
use Rattle.leveldb_base.specs.Error.{IsOutOfMemory}
use Rattle.leveldb_iter.specs.declared.walk_iter.WalkIter.{WalkIter}

-- a move's errors, or out of memory
abbrev pub OrOutOfMemory : {W It : Type 0} → (W → It → W → Status → Type 0)
    → W → It → W → Status → Type 0
OrOutOfMemory fails world it later status = fails world it later status ⊎ IsOutOfMemory status

module _ {E T S : Type 0} where
  -- the walk is beside these borrows
  pub record IsBeside (walk : S) (env : MutBor E) (tables : MutBor T)
      (it : WalkIter E T S) : Type 0 where
    -- it is this walk
    pub walk_is : it.walk ≡ walk
    -- the environment is the one that was borrowed, and as it was
    pub env_is : (it.env.ghost_name ≡ env.ghost_name) × (it.env.now ≡ env.now)
    -- and so are the tables
    pub tables_are : (it.tables.ghost_name ≡ tables.ghost_name) × (it.tables.now ≡ tables.now)

  -- The walk makes this move, and the borrows stay.
  pub record MakesMove {R : Type 0} (Move : E × T → S → Result R Status → E × T → S → Type 0)
      (old : WalkIter E T S) (result : Result R Status) (new : WalkIter E T S) : Type 0 where
    -- the move
    pub moves : Move (old.env.now, old.tables.now) old.walk result
        (new.env.now, new.tables.now) new.walk
    -- the environment is the one that was borrowed
    pub env_reference : new.env.ghost_name ≡ old.env.ghost_name
    -- and so are the tables
    pub tables_reference : new.tables.ghost_name ≡ old.tables.ghost_name
