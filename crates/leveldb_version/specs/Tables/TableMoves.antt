-- Moves of a walk over the table of a number, which a cache of open tables opens where it isn't
-- open.
use Rattle.std.specs.Prelude.{◌≡◌, ◌≢◌, ◌<◌, ◌≤◌, ◌^◌, ℕ, Bool, true, List, Option, None, Some, Result, Ok, false, IfOk, IsErrAnd, OnErr, OnOk, IsTrue, is_some}
use Rattle.std.specs.declared.cmp.Ordering.{Ordering}
use Rattle.leveldb_base.specs.Cmp.{internal_accepts}
use Rattle.leveldb_base.specs.Error.{IsOutOfMemory}
use Rattle.leveldb_base.specs.Types.{Pair, position_within, last_position, seek_position}
use Rattle.leveldb_base.specs.declared.cmp.Cmp.{Ghosts as CmpGhosts}
use Rattle.leveldb_base.specs.declared.cmp.internal.InternalKeyCmp.{InternalKeyCmp}
use Rattle.leveldb_base.specs.declared.error.Status.{Status}
use Rattle.leveldb_base.specs.declared.error.StatusCode.TheVariants.{NotSupported}
use Rattle.leveldb_env.specs.Compressor.{Codings}
use Rattle.leveldb_env.specs.Env.{Files}
use Rattle.leveldb_env.specs.declared.env.Env.{Ghosts as EnvGhosts}
use Rattle.leveldb_table.specs.BlockWalk.{position_over}
use Rattle.leveldb_table.specs.Cache.{Cached}
use Rattle.leveldb_table.specs.OpenTable.{file_of, id_of}
use Rattle.leveldb_table.specs.Table.{Part}
use Rattle.leveldb_table.specs.TableBlock.{FailsFor, KeepsDisk, ReadsFile}
use Rattle.leveldb_table.specs.TableReader.{OpenTable, pairs_in}
use Rattle.leveldb_table.specs.TableReaderBlocks.{IsAfterLine, IsBeforeBlock, IsIndexed, StartsOver}
use Rattle.leveldb_table.specs.TableReaderSteps.{StepsInTable, step_to}
use Rattle.leveldb_table.specs.TableReaderWalk.{IsAtPosition, StepsInside, TablePlace, current_of, inner_pairs, inner_position}
use Rattle.leveldb_table.specs.declared.block_cache.CachedBlock.{CachedBlock}
use Rattle.leveldb_table.specs.declared.table_reader.walk.TableStep.{TableStep}
use Rattle.leveldb_table.specs.declared.table_reader.walk.TableStep.TheVariants.{First, Last, NextBlock, BlockBefore, Seek}
use Rattle.leveldb_files.specs.Stores.Format.{Agrees, IsTableFault, IsTableOf, LacksCompressor, Meaning}
use Rattle.leveldb_files.specs.Stores.Store.{IsLastKey, any_user_key}
use Rattle.leveldb_version.specs.Tables.TableCache.{HasBytesAt, IsSameOrClosed, MatchesFiles, TableOptions, files_at, key_order, path_at, store_of, tables_of}
use Rattle.leveldb_version.specs.declared.table_cache.TableCache.{TableCache}

-- ---- tables in files

-- a table in a file: the file's bytes, the data blocks that its index names, and its last key
pub record FileTable : Type 0 where
  pub bytes : List ℕ
  pub parts : List Part
  pub largest : List ℕ

-- the pairs of a table
abbrev pub table_pairs : FileTable → List Pair
table_pairs table = pairs_in table.parts

-- the file at a path is this table of internal keys, by what names and ids mean
pub record IsTableAt (cmp : List ℕ → List ℕ → Ordering) (meaning : Meaning) (files : Files)
    (path : List ℕ) (table : FileTable) : Type 0 where
  pub there : HasBytesAt files path table.bytes
  pub is : IsTableOf cmp meaning table.bytes (table_pairs table)
  pub parted : is.parts ≡ table.parts
  pub last : IsLastKey table.largest (table_pairs table)

-- the move leads to the first pair or to the last
abbrev pub IsToEnd : TableStep → Type 0
IsToEnd First = Unit {0}
IsToEnd Last = Unit {0}
IsToEnd NextBlock = ⊥
IsToEnd BlockBefore = ⊥
IsToEnd (Seek key) = ⊥

-- ---- a walk over a table, which may not have begun

module _ {C : Type 0} where
  -- the pair that it is at
  abbrev pub core_here : Option (TablePlace C) → Option Pair
  core_here None = None
  core_here (Some core) = current_of core

  -- its position in its block
  abbrev pub core_position : Option (TablePlace C) → Option ℕ
  core_position None = None
  core_position (Some core) = inner_position core.inner

  -- it is at no pair, and its index stays
  abbrev pub LeavesPairs : Option (TablePlace C) → Option (TablePlace C) → Type 0
  LeavesPairs None new = new ≡ None
  LeavesPairs (Some old) None = ⊥
  LeavesPairs (Some old) (Some new) = (new.inner ≡ None) × (new.index ≡ old.index)

  -- a step inside the block where it is, if it has begun
  abbrev pub StepsInBlock : (List Pair → Option ℕ → Option ℕ) → Option (TablePlace C)
      → Result Bool Status → Option (TablePlace C) → Type 0
  StepsInBlock to None result new = (new ≡ None) × (result ≡ Ok false)
  StepsInBlock to (Some old) result None = ⊥
  StepsInBlock to (Some old) result (Some new) = StepsInside (inner_position new.inner
      ≡ to (inner_pairs old.inner) (inner_position old.inner)) old result new

  -- from where the walk is, this move leads to this position in a table of these data blocks
  abbrev pub IsLedTo : TableStep → (List ℕ → List ℕ → Ordering) → List Part
      → Option (TablePlace C) → Option ℕ → Type 0
  IsLedTo First cmp parts core position = position ≡ position_within (pairs_in parts) 0
  IsLedTo Last cmp parts core position = position ≡ last_position (pairs_in parts)
  IsLedTo (Seek key) cmp parts core position =
      (position ≡ seek_position cmp (pairs_in parts) key.now)
      × (internal_accepts any_user_key key.now ≡ true)
  IsLedTo NextBlock cmp parts None position = ⊥
  IsLedTo NextBlock cmp parts (Some core) position =
      IsAfterLine parts (position_over core.index) position
  IsLedTo BlockBefore cmp parts None position = ⊥
  IsLedTo BlockBefore cmp parts (Some core) position =
      IsBeforeBlock parts (position_over core.index) position

module _ {C : Type 0} (order : CmpGhosts C) where
  -- if it has begun, its index is that of these data blocks
  abbrev pub IsIndexedFor : (List ℕ → List ℕ → Ordering) → List Part
      → Option (TablePlace C) → Type 0
  IsIndexedFor cmp parts None = Unit {0}
  IsIndexedFor cmp parts (Some core) = IsIndexed order cmp parts core

  -- it is at this position of their pairs
  abbrev pub IsAtInTable : (List ℕ → List ℕ → Ordering) → List Part
      → Option (TablePlace C) → Option ℕ → Type 0
  IsAtInTable cmp parts None position = position ≡ None
  IsAtInTable cmp parts (Some core) position = IsAtPosition order cmp parts core position

module _ {C FP F : Type 0} where
  -- the walk that makes a move in an open table: the one that has begun, or a new one
  abbrev pub IsWalkIn : OpenTable C FP F → Option (TablePlace C) → TablePlace C
      → Type 0
  IsWalkIn table None walk = StartsOver table walk
  IsWalkIn table (Some core) walk = walk ≡ core

module _ {E C FP F : Type 0} (order : CmpGhosts C) where
  -- What a move in an open table comes to: the walk makes it, or there is no memory to begin one.
  pub data StepsInOpen (env : EnvGhosts E F) (codings : Codings) (table : OpenTable C FP F)
      (to : TableStep) (old_env : E) (old_blocks : Cached (CachedBlock C))
      (old : Option (TablePlace C)) (result : Result Bool Status) (new_env : E)
      (new_blocks : Cached (CachedBlock C)) (new : Option (TablePlace C)) : Type 0 where
    stepped : (from at : TablePlace C) → IsWalkIn table old from → new ≡ Some at
        → StepsInTable order env codings (order.cmp table.cmp) (id_of table) (file_of table)
        (step_to order to) old_env old_blocks from result new_env new_blocks at
        → StepsInOpen env codings table to old_env old_blocks old result new_env new_blocks new
    not_begun : old ≡ None → new ≡ None → new_env ≡ old_env → new_blocks ≡ old_blocks
        → IsErrAnd result IsOutOfMemory
        → StepsInOpen env codings table to old_env old_blocks old result new_env new_blocks new

-- ---- the cache

module _ {E C FP F : Type 0} (order : CmpGhosts (InternalKeyCmp C)) (env : EnvGhosts E F)
    (by : TableOptions C FP) where
  -- the disk is modelled, and each open table is that of its number, opened with these options
  pub record AreTablesMatched (state : E) (cache : TableCache E C FP F) : Type 0 where
    pub modelled : IsTrue env.models_disk
    pub matches : MatchesFiles order env by (files_at env state) cache

  -- What a call that only reads leaves of the disk and of the open tables.
  pub record KeepsTables (old_env : E) (old : TableCache E C FP F) (new_env : E)
      (new : TableCache E C FP F) : Type 0 where
    -- the disk stays as it is
    pub disk : KeepsDisk env old_env new_env
    -- the count of failures doesn't fall
    pub later : env.failures old_env ≤ env.failures new_env
    -- the path and the room for tables stay
    pub path : store_of new ≡ store_of old
    pub room : (tables_of new).capacity ≡ (tables_of old).capacity
    -- the open tables go on to match the files
    pub matches : AreTablesMatched old_env old → AreTablesMatched new_env new

  -- What a move in the table of a number comes to.
  pub record MovesInNumbered (number : ℕ) (to : TableStep) (old_env : E)
      (old : TableCache E C FP F) (core : Option (TablePlace (InternalKeyCmp C)))
      (result : Result Bool Status) (new_env : E) (new : TableCache E C FP F)
      (new_core : Option (TablePlace (InternalKeyCmp C))) : Type 0 where
    -- Where the number's file is a table by a meaning that the format agrees with, and the walk is
    -- over it, the move leads to its position, unless it fails, which it does for no fault of the
    -- table but that the format lacks a compressor. The walk is over the table still.
    pub table : AreTablesMatched old_env old → (meaning : Meaning) → Agrees by.format meaning
        → (table : FileTable)
        → IsTableAt by.format.order meaning (files_at env old_env) (path_at old number) table
        → IsIndexedFor order (key_order by.format) table.parts core
        → ((position : Option ℕ) → IsLedTo to (key_order by.format) table.parts core position
        → OnOk result (IsAtInTable order (key_order by.format) table.parts new_core position))
        × IsIndexedFor order (key_order by.format) table.parts new_core
        × FailsFor env (λ status. (status.code ≡ NotSupported) × LacksCompressor by.format meaning)
        old_env new_env result
    -- the result says whether it is at a pair
    pub there : IfOk result (λ there. there ≡ is_some (core_position new_core))
    -- after an error it is at none
    pub err : OnErr result (core_position new_core ≡ None)
    -- an error is out of memory, a failure of the device, or a fault of the table
    pub reads : ReadsFile env (λ status. IsTableFault by.format status.code) old_env new_env result
    -- the open tables are those of the files still
    pub keeps : KeepsTables old_env old new_env new
    -- no other table is opened
    pub others : (other : ℕ) → other < 2 ^ 64 → other ≢ number → IsSameOrClosed other old new
