-- Where a walk over a table is: at a line of the index, and at a pair of the data block that the
-- line names.
use Rattle.std.specs.Prelude.{◌≡◌, ◌+◌, ◌<◌, ℕ, Bool, List, [], ◌∷◌, ◌++◌, length, map, Option, None, Some, Result, Ok, Err, OnOk, OnErr, IfOk, IfErr, is_some}
use Rattle.std.specs.declared.cmp.Ordering.{Ordering}
use Rattle.leveldb_base.specs.BlockHandle.{Handle, handle_bytes, HandleFits}
use Rattle.leveldb_base.specs.Error.{IsOutOfMemory}
use Rattle.leveldb_base.specs.Types.{Pair, pair_at}
use Rattle.leveldb_base.specs.declared.cmp.Cmp.{Ghosts as CmpGhosts}
use Rattle.leveldb_base.specs.declared.error.Status.{Status}
use Rattle.leveldb_env.specs.declared.env.Env.{Ghosts as EnvGhosts}
use Rattle.leveldb_env.specs.Compressor.{Codings, Decodes}
use Rattle.leveldb_table.specs.Block.{BlockRead}
use Rattle.leveldb_table.specs.Cache.{Cached}
use Rattle.leveldb_table.specs.Table.{Part, HasBlockAt, index_pair}
use Rattle.leveldb_table.specs.BlockCache.{HoldsOnlyOf, IsBlockOfFile, GainsBlocks}
use Rattle.leveldb_table.specs.TableReader.{pairs_in, HasParts}
use Rattle.leveldb_table.specs.TableBlock.{ForBytesOf, IsLackError, ReadsFile}
use Rattle.leveldb_table.specs.BlockWalk.{BlockPosition, pairs_over, position_over}
use Rattle.leveldb_table.specs.declared.block_cache.CachedBlock.{CachedBlock}

-- What a walk over a table is to its callers: the walk over the index's lines, and the one over the
-- data block where it is, if it has read one.
pub record TablePlace (C : Type 0) : Type 0 where
  pub index : BlockPosition C
  pub inner : Option (BlockPosition C)

-- a position in a table: a line of its index, the pairs of that line's block, and the position
-- among these
pub record TablePosition : Type 0 where
  pub line : Option ℕ
  pub pairs : List Pair
  pub inner : Option ℕ

-- what a step comes to: a position, or an error
abbrev pub Outcome : Type 0
Outcome = Result TablePosition Status

-- `n` pairs of data blocks are before the position: those of the blocks before the one of the
-- index's line, and those before the position in that one.
pub record IsAtPair (parts : List Part) (line : Option ℕ) (pairs : List Pair) (position : Option ℕ)
    (n : ℕ) : Type 0 where
  pub before : List Part
  pub part : Part
  pub after : List Part
  pub inner : ℕ
  pub parted : parts ≡ before ++ part ∷ after
  pub at_line : line ≡ Some (length before)
  pub same : pairs ≡ part.pairs
  pub at_position : position ≡ Some inner
  pub within : inner < length part.pairs
  pub counts : n ≡ length (pairs_in before) + inner

-- it is at no position, or so
abbrev pub IsAtPairOrNone : List Part → Option ℕ → List Pair → Option ℕ → Option ℕ → Type 0
IsAtPairOrNone parts line pairs position None = position ≡ None
IsAtPairOrNone parts line pairs position (Some n) = IsAtPair parts line pairs position n

-- the index's line names a handle, and there the file has these bytes for a block
pub record IsNamed (codings : Codings) (bytes : List ℕ) (line : Option Pair)
    (contents : List ℕ) : Type 0 where
  pub key : List ℕ
  pub handle : Handle
  pub fits : HandleFits handle
  pub names : line ≡ Some (key, handle_bytes handle)
  pub is_there : HasBlockAt (Decodes codings) bytes handle contents

module _ {C : Type 0} where
  -- its block, its pairs and its position where there may be no walk
  abbrev pub inner_block : Option (BlockPosition C) → Option (BlockRead C)
  inner_block None = None
  inner_block (Some walk) = Some walk.block

  -- the pairs of its block, none where there is no walk
  abbrev pub inner_pairs : Option (BlockPosition C) → List Pair
  inner_pairs None = []
  inner_pairs (Some walk) = pairs_over walk

  -- its position, none where there is no walk
  abbrev pub inner_position : Option (BlockPosition C) → Option ℕ
  inner_position None = None
  inner_position (Some walk) = position_over walk

  -- the pair at the walk's position
  abbrev pub current_of : TablePlace C → Option Pair
  current_of core = pair_at (inner_pairs core.inner) (inner_position core.inner)

  -- A step in the open block, which stays with its pairs, as the index does. What is said of the
  -- position holds after an Ok; after an Err the walk is at no pair. An error is out of memory.
  pub record StepsInside (Goes : Type 0) (old : TablePlace C) (result : Result Bool Status)
      (new : TablePlace C) : Type 0 where
    pub block : inner_block new.inner ≡ inner_block old.inner
    pub pairs : inner_pairs new.inner ≡ inner_pairs old.inner
    pub index : new.index ≡ old.index
    pub ok : OnOk result Goes
    -- the result says whether it is at a pair
    pub there : IfOk result (λ there. there ≡ is_some (inner_position new.inner))
    pub err : OnErr result (inner_position new.inner ≡ None)
    pub memory : IfErr result IsOutOfMemory

  -- a walk's position
  abbrev pub table_position : TablePlace C → TablePosition
  table_position core =
      record {
        line = position_over core.index;
        pairs = inner_pairs core.inner;
        inner = inner_position core.inner;
      }

module _ {C : Type 0} (order : CmpGhosts C) where
  -- The index is that of these data blocks, in this order of keys, and the walk is at this
  -- position of their pairs.
  pub record IsAtPosition (cmp : List ℕ → List ℕ → Ordering) (parts : List Part)
      (core : TablePlace C) (position : Option ℕ) : Type 0 where
    pub lines : pairs_over core.index ≡ map index_pair parts
    pub ordered : order.cmp core.index.block.cmp ≡ cmp
    pub at : IsAtPairOrNone parts (position_over core.index) (inner_pairs core.inner)
        (inner_position core.inner) position

  -- Holds is so wherever the file has data blocks that are fit, what the cache holds under the
  -- number is the file's, and At says where the walk is.
  abbrev pub GivenParts : Codings → (List ℕ → Bool) → (List ℕ → List ℕ → Ordering) → ℕ
      → List ℕ → Cached (CachedBlock C)
      → (Fit At Holds : List Part → Option ℕ → Type 0) → Type 0
  GivenParts codings accepts cmp id bytes cache Fit At Holds =
      (parts : List Part) (position : Option ℕ)
      → HasParts codings accepts cmp bytes parts → Fit parts position
      → HoldsOnlyOf order codings cmp id bytes cache → At parts position → Holds parts position

  -- A move of a walk over a table's file, with this number in a cache of blocks. Whatever the file
  -- is, the move is a step from block to block: it leads to where the walk then is, or it fails,
  -- out of memory, at a failure of the device, or since a block on its way is lacking or empty, as
  -- the step says; after an Err the walk is at no pair. Where the file has data blocks that are
  -- fit, it fails for none of them, and the walk goes from its position among all their pairs to
  -- this one.
  pub record MovesInTable {E F T : Type 0} (env : EnvGhosts E F) (codings : Codings)
      (accepts : List ℕ → Bool) (cmp : List ℕ → List ℕ → Ordering) (id : ℕ) (file : F)
      (Fit : List Part → Type 0) (to : List Pair → Option ℕ → Option ℕ)
      (Step : Codings → (List ℕ → List ℕ → Ordering) → List ℕ → TablePlace C → Outcome
      → Type 0)
      (old_env : E) (old_cache : Cached (CachedBlock C)) (old : TablePlace C)
      (result : Result T Status)
      (new_env : E) (new_cache : Cached (CachedBlock C))
      (new : TablePlace C) : Type 0 where
    pub reads : ReadsFile env (IsLackError env codings (λ bytes status.
        GivenParts codings accepts cmp id bytes old_cache (λ parts position. Fit parts)
        (λ parts position. IsAtPosition cmp parts old position) (λ parts position. ⊥)
        × (HoldsOnlyOf order codings cmp id bytes old_cache → Step codings cmp bytes old
        (Err status))) old_env file) old_env new_env result
    pub ok : ForBytesOf env old_env file (λ bytes.
        GivenParts codings accepts cmp id bytes old_cache (λ parts position. Fit parts)
        (λ parts position. IsAtPosition cmp parts old position)
        (λ parts position.
        OnOk result (IsAtPosition cmp parts new (to (pairs_in parts) position))))
    pub steps : ForBytesOf env old_env file (λ bytes. HoldsOnlyOf order codings cmp id bytes
        old_cache → OnOk result (Step codings cmp bytes old (Ok (table_position new))))
    pub err : OnErr result (inner_position new.inner ≡ None)
    pub gathers : GainsBlocks id (λ offset held. ForBytesOf env old_env file
        (λ bytes. IsBlockOfFile order codings cmp bytes offset held)) old_cache new_cache
    pub same_lines : pairs_over new.index ≡ pairs_over old.index
    pub same_order : new.index.block.cmp ≡ old.index.block.cmp
