-- How a walk over a table goes into the data block that a line of the index names.
use Rattle.std.specs.Prelude.{◌≡◌, ◌++◌, ℕ, Bool, true, if◌then◌else◌, List, length, map, Option, None, Some, Result, Ok, Err, OnOk, OnErr}
use Rattle.std.specs.Borrow.{MutBor}
use Rattle.std.specs.Option.{IsSomeAnd}
use Rattle.std.specs.declared.cmp.Ordering.{Ordering}
use Rattle.leveldb_base.specs.BlockHandle.{Handle}
use Rattle.leveldb_base.specs.Types.{Pair, next_position, previous_position, seek_position, position_within, pair_at}
use Rattle.leveldb_base.specs.declared.cmp.Cmp.{Ghosts as CmpGhosts}
use Rattle.leveldb_base.specs.declared.error.Status.{Status}
use Rattle.leveldb_env.specs.declared.env.Env.{Ghosts as EnvGhosts}
use Rattle.leveldb_env.specs.Compressor.{Codings, Decodes}
use Rattle.leveldb_table.specs.Block.{BlockRead, HasEntries}
use Rattle.leveldb_table.specs.Cache.{Cached}
use Rattle.leveldb_table.specs.Table.{Part, HasBlockAt, index_pair, named_part}
use Rattle.leveldb_table.specs.BlockCache.{HoldsOnlyOf, IsBlockOfFile, GainsBlocks}
use Rattle.leveldb_table.specs.TableReader.{OpenTable, pairs_in, lines_of}
use Rattle.leveldb_table.specs.TableBlock.{ForBytesOf, IsLackError, ReadsFile}
use Rattle.leveldb_table.specs.BlockWalk.{pairs_over, position_over}
use Rattle.leveldb_table.specs.TableReaderWalk.{TablePlace, Outcome, IsNamed, IsAtPair, IsAtPosition, GivenParts, inner_position, table_position}
use Rattle.leveldb_table.specs.declared.block_cache.CachedBlock.{CachedBlock}

-- the one borrow is the other: of the same place, with the same value
pub record IsSameBorrow {A : Type 0} (old new : MutBor A) : Type 0 where
  pub same_place : new.ghost_name ≡ old.ghost_name
  pub same_value : new.now ≡ old.now

-- After a line of the index comes the line of the first data block that isn't among those in
-- front, and the position is that of the first pair after theirs.
pub record IsAfterLine (parts : List Part) (line position : Option ℕ) : Type 0 where
  pub before : List Part
  pub after : List Part
  pub parted : parts ≡ before ++ after
  pub next : next_position (map index_pair parts) line
      ≡ position_within (map index_pair parts) (length before)
  pub to : position ≡ position_within (pairs_in parts) (length (pairs_in before))

-- the walk is at the first pair of the line's block, and the position is the one before
pub record IsBeforeBlock (parts : List Part) (line position : Option ℕ) : Type 0 where
  pub pairs : List Pair
  pub inner : Option ℕ
  pub n : ℕ
  pub is_there : IsAtPair parts line pairs inner n
  pub first : previous_position inner ≡ None
  pub to : position ≡ previous_position (Some n)

-- where a look-up goes: to the first pair at or after the key, but to no position where the
-- filters don't let the key pass at the block that the index names for it
abbrev pub let_position : (List ℕ → List ℕ → Ordering) → (ℕ → List ℕ → Bool) → List ℕ → List Part
    → Option ℕ
let_position cmp may_contain key parts =
    elim (named_part cmp key parts) [
      | None ↦ None
      | Some part ↦ if may_contain part.handle.offset key then
          seek_position cmp (pairs_in parts) key else None
    ]

-- where a walk goes for a key, and where for a look-up
abbrev pub IsKeyPosition : (List ℕ → Bool) → (List ℕ → List ℕ → Ordering) → List ℕ → List Part
    → Option ℕ → Type 0
IsKeyPosition accepts cmp key parts position =
    (accepts key ≡ true) × (position ≡ seek_position cmp (pairs_in parts) key)

-- as IsKeyPosition, where the filters let the key pass; else it leads to no position
abbrev pub IsLetPosition : (List ℕ → Bool) → (List ℕ → List ℕ → Ordering) → (ℕ → List ℕ → Bool)
    → List ℕ → List Part → Option ℕ → Type 0
IsLetPosition accepts cmp may_contain key parts position =
    (accepts key ≡ true) × (position ≡ let_position cmp may_contain key parts)

module _ {C : Type 0} (order : CmpGhosts C) where
  -- the block that a file has at a handle, in this order of keys
  abbrev pub IsBlockAt : Codings → (List ℕ → List ℕ → Ordering) → List ℕ → Handle
      → Option (BlockRead C) → Type 0
  IsBlockAt codings cmp bytes handle block =
      IsSomeAnd block (λ there. HasBlockAt (Decodes codings) bytes handle there.contents
      × (order.cmp there.cmp ≡ cmp) × HasEntries cmp there.contents there.entries)

  -- the block that the file has where a line of the index says
  abbrev pub IsBlockOf : Codings → (List ℕ → List ℕ → Ordering) → List ℕ → Option Pair
      → Option (BlockRead C) → Type 0
  IsBlockOf codings cmp bytes line block =
      IsSomeAnd block (λ there. IsNamed codings bytes line there.contents
      × (order.cmp there.cmp ≡ cmp) × HasEntries cmp there.contents there.entries)

module _ {C : Type 0} where
  -- the line of the index
  abbrev pub line_of : TablePlace C → Option Pair
  line_of core = pair_at (pairs_over core.index) (position_over core.index)

  -- a walk over this table that is at no position: its index is the table's
  pub record StartsOver {FP F : Type 0} (table : OpenTable C FP F)
      (core : TablePlace C) : Type 0 where
    pub lines : pairs_over core.index ≡ lines_of table
    pub ordered : core.index.block.cmp ≡ table.index.cmp
    pub position : core.inner ≡ None

module _ {C : Type 0} (order : CmpGhosts C) where
  -- the index is that of these data blocks, in this order of keys
  pub record IsIndexed (cmp : List ℕ → List ℕ → Ordering) (parts : List Part)
      (core : TablePlace C) : Type 0 where
    pub lines : pairs_over core.index ≡ map index_pair parts
    pub ordered : order.cmp core.index.block.cmp ≡ cmp

  -- As a move does, but from a line of the index: where the file has data blocks, the walk moves
  -- to the position that is fit for them.
  pub record MovesFromLine {E F T : Type 0} (env : EnvGhosts E F) (codings : Codings)
      (accepts : List ℕ → Bool) (cmp : List ℕ → List ℕ → Ordering) (id : ℕ) (file : F)
      (Fit : List Part → Option ℕ → Type 0) (Step : Codings → (List ℕ → List ℕ → Ordering) → List ℕ
      → TablePlace C → Outcome → Type 0)
      (old_env : E) (old_cache : Cached (CachedBlock C)) (old : TablePlace C)
      (result : Result T Status)
      (new_env : E) (new_cache : Cached (CachedBlock C))
      (new : TablePlace C) : Type 0 where
    pub reads : ReadsFile env (IsLackError env codings (λ bytes status.
        GivenParts order codings accepts cmp id bytes old_cache Fit
        (λ parts position. IsIndexed cmp parts old) (λ parts position. ⊥)
        × (HoldsOnlyOf order codings cmp id bytes old_cache → Step codings cmp bytes old
        (Err status))) old_env file) old_env new_env result
    pub ok : ForBytesOf env old_env file (λ bytes.
        GivenParts order codings accepts cmp id bytes old_cache Fit
        (λ parts position. IsIndexed cmp parts old)
        (λ parts position. OnOk result (IsAtPosition order cmp parts new position)))
    pub steps : ForBytesOf env old_env file (λ bytes. HoldsOnlyOf order codings cmp id bytes
        old_cache → OnOk result (Step codings cmp bytes old (Ok (table_position new))))
    pub err : OnErr result (inner_position new.inner ≡ None)
    pub gathers : GainsBlocks id (λ offset held. ForBytesOf env old_env file
        (λ bytes. IsBlockOfFile order codings cmp bytes offset held)) old_cache new_cache
    pub same_lines : pairs_over new.index ≡ pairs_over old.index
    pub same_order : new.index.block.cmp ≡ old.index.block.cmp
