-- What a cache of blocks holds: blocks of several tables, each under its table's number and its
-- offset.
use Rattle.std.specs.Prelude.{◌≡◌, ◌≢◌, ◌⊎◌, ◌≤◌, ◌<◌, ◌^◌, ℕ, List, [], ◌++◌, Some}
use Rattle.std.specs.declared.cmp.Ordering.{Ordering}
use Rattle.leveldb_base.specs.BlockHandle.{Handle}
use Rattle.leveldb_base.specs.Varint.{little}
use Rattle.leveldb_base.specs.declared.cmp.Cmp.{Ghosts as CmpGhosts}
use Rattle.leveldb_env.specs.Compressor.{Codings, Decodes}
use Rattle.leveldb_table.specs.Block.{BlockRead}
use Rattle.leveldb_table.specs.Cache.{Cached, value_of}
use Rattle.leveldb_table.specs.Table.{HasBlockAt}
use Rattle.leveldb_table.specs.declared.block_cache.CachedBlock.{CachedBlock}

-- the key of the block at an offset of a table
abbrev pub cache_key : ℕ → ℕ → List ℕ
cache_key id offset = little 8 id ++ little 8 offset

module _ {C : Type 0} (order : CmpGhosts C) where
  -- what a file has at its handle, ordered so
  pub record IsBlockOfFile (codings : Codings) (cmp : List ℕ → List ℕ → Ordering) (bytes : List ℕ)
      (offset : ℕ) (held : CachedBlock C) : Type 0 where
    pub begins : held.handle.offset ≡ offset
    pub is_there : HasBlockAt (Decodes codings) bytes held.handle held.block.contents
    pub ordered : order.cmp held.block.cmp ≡ cmp

  -- all blocks that are held under a table's number are those of this file
  abbrev pub HoldsOnlyOf : Codings → (List ℕ → List ℕ → Ordering) → ℕ → List ℕ
      → Cached (CachedBlock C) → Type 0
  HoldsOnlyOf codings cmp id bytes cache =
      (offset : ℕ) (held : CachedBlock C) → offset < 2 ^ 64
      → value_of (cache_key id offset) cache.pairs ≡ Some held
      → IsBlockOfFile codings cmp bytes offset held

module _ {C : Type 0} where
  -- a copy of the block that is held at the handle, and has its size there
  pub record IsCachedAt (id : ℕ) (handle : Handle) (cache : Cached (CachedBlock C))
      (block : BlockRead C) : Type 0 where
    pub held : CachedBlock C
    pub found : value_of (cache_key id handle.offset) cache.pairs ≡ Some held
    pub fits : handle.offset < 2 ^ 64
    pub size : held.handle.size ≡ handle.size
    pub contents : block.contents ≡ held.block.contents
    pub ordered : block.cmp ≡ held.block.cmp

  -- What was held may be gone, and what is new is under this table's number, at an offset where it
  -- has this property.
  pub record GainsBlocks (id : ℕ) (Right : ℕ → CachedBlock C → Type 0)
      (old new : Cached (CachedBlock C)) : Type 0 where
    pub capacity : new.capacity ≡ old.capacity
    pub given : new.given ≡ old.given
    pub each : (key : List ℕ) (held : CachedBlock C) → value_of key new.pairs ≡ Some held
        → (value_of key old.pairs ≡ Some held)
        ⊎ ((offset : ℕ) × (key ≡ cache_key id offset) × Right offset held)

  -- each key has a number that was given
  abbrev pub IsNumbered : Cached (CachedBlock C) → Type 0
  IsNumbered cache =
      (key : List ℕ) (held : CachedBlock C) → value_of key cache.pairs ≡ Some held
      → (id : ℕ) × (offset : ℕ) × (key ≡ cache_key id offset) × (id ≤ cache.given)

-- ---- laws

-- nothing is held under a number that is not given yet
abbrev pub NewIdsHoldNone : {C : Type 0} → CmpGhosts C → Type 0
NewIdsHoldNone {C} order =
    (codings : Codings) (cmp : List ℕ → List ℕ → Ordering) (id : ℕ) (bytes : List ℕ)
    (cache : Cached (CachedBlock C))
    → IsNumbered cache → cache.given < id → id < 2 ^ 64 → HoldsOnlyOf order codings cmp id bytes
    cache

-- Each key has a given number in an empty cache, after one more number is given, and after a table
-- of a given number gathers blocks.
pub record StayNumbered (C : Type 0) : Type 0 where
  pub empty : (capacity given : ℕ)
      → IsNumbered {C = C} (record { pairs = []; capacity = capacity; given = given })
  pub raised : (cache : Cached (CachedBlock C)) (given : ℕ) → cache.given ≤ given
      → IsNumbered cache → IsNumbered (record cache { given = given })
  pub gathered : (id : ℕ) (old new : Cached (CachedBlock C)) → id ≤ old.given
      → GainsBlocks id (λ _ _. Unit {0}) old new → IsNumbered old → IsNumbered new

-- what a table gathers leaves what is held of its file, and what is held under other numbers
pub record StayHeld {C : Type 0} (order : CmpGhosts C) : Type 0 where
  pub own : (codings : Codings) (cmp : List ℕ → List ℕ → Ordering) (id : ℕ) (bytes : List ℕ)
      (old new : Cached (CachedBlock C))
      → GainsBlocks id (IsBlockOfFile order codings cmp bytes) old new
      → HoldsOnlyOf order codings cmp id bytes old → HoldsOnlyOf order codings cmp id bytes new
  pub others : (codings : Codings) (cmp : List ℕ → List ℕ → Ordering) (id other : ℕ)
      (bytes : List ℕ) (old new : Cached (CachedBlock C))
      → id < 2 ^ 64 → other < 2 ^ 64 → id ≢ other → GainsBlocks id (λ _ _. Unit {0}) old new
      → HoldsOnlyOf order codings cmp other bytes old
      → HoldsOnlyOf order codings cmp other bytes new
