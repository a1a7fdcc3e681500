-- Walks over tables that are found in a store's folder: which list such a walk is over, where it
-- is, and why a move fails.
use Rattle.std.specs.Prelude.{◌≡◌, ◌⊎◌, ◌-◌, ◌<◌, ◌≤◌, ◌^◌, ℕ, Bool, true, false, List, length, Option, None, Result, IfOk, IsSomeAnd, IsTrue, is_some}
use Rattle.std.specs.Str.{bytes_eq}
use Rattle.std.specs.declared.cmp.Ordering.{Ordering}
use Rattle.leveldb_base.specs.Error.{IsOutOfMemory}
use Rattle.leveldb_base.specs.Types.{Pair, last_position, next_position, position_within, previous_position, seek_position}
use Rattle.leveldb_base.specs.declared.cmp.Cmp.{Ghosts as CmpGhosts}
use Rattle.leveldb_base.specs.declared.cmp.internal.InternalKeyCmp.{InternalKeyCmp}
use Rattle.leveldb_base.specs.declared.error.Status.{Status}
use Rattle.leveldb_base.specs.declared.error.StatusCode.TheVariants.{Corruption}
use Rattle.leveldb_env.specs.Compressor.{Codings, Decodes}
use Rattle.leveldb_env.specs.Env.{bytes_of}
use Rattle.leveldb_env.specs.declared.env.Env.{Ghosts as EnvGhosts}
use Rattle.leveldb_iter.specs.Walk.{KeyOrder, IsSortedIn, key_order}
use Rattle.leveldb_table.specs.BlockCache.{HoldsOnlyOf}
use Rattle.leveldb_table.specs.Cache.{Cached}
use Rattle.leveldb_table.specs.OpenTable.{file_of, id_of}
use Rattle.leveldb_table.specs.Table.{Part}
use Rattle.leveldb_table.specs.TableBlock.{FileHas, HasLackCode, IsLackError, KeepsDisk, ReadsFile}
use Rattle.leveldb_table.specs.TableReader.{HasParts, IsNoIndex, OpenTable, pairs_in}
use Rattle.leveldb_table.specs.TableReaderBlocks.{IsIndexed}
use Rattle.leveldb_table.specs.TableReaderMoves.{Backward, Forward, ToFirst, ToKey, ToLast}
use Rattle.leveldb_table.specs.TableReaderSteps.{StepTo}
use Rattle.leveldb_table.specs.TableReaderWalk.{IsAtPosition, MovesInTable, TablePlace, current_of, inner_position}
use Rattle.leveldb_table.specs.declared.block_cache.CachedBlock.{CachedBlock}
use Rattle.leveldb_files.specs.Stores.Paths.{table_path}
use Rattle.leveldb_files.specs.Stores.Store.{IsStoreTable}
use Rattle.leveldb_version.specs.Tables.TableCache.{ForBytesAt, HasBytesAt, files_at}
use Rattle.leveldb_repair.specs.declared.found_walk.files.ReadFiles.{ReadFiles}
use Rattle.leveldb_repair.specs.declared.found_walk.table.FoundMove.{FoundMove}
use Rattle.leveldb_repair.specs.declared.found_walk.table.FoundMove.TheVariants.{Before, First, Last, Next, Seek}
use Rattle.leveldb_repair.specs.declared.found_walk.table.FoundTable.{FoundTable}

-- ---- a move

-- where it leads, in a list that is in this order
abbrev pub way_of : FoundMove → (List ℕ → List ℕ → Ordering) → List Pair → Option ℕ → Option ℕ
way_of Next cmp pairs position = next_position pairs position
way_of Before cmp pairs position = previous_position position
way_of (Seek key) cmp pairs position = seek_position cmp pairs key.now
way_of First cmp pairs position = position_within pairs 0
way_of Last cmp pairs position = last_position pairs

-- its key is accepted, if it has one; else where it leads isn't said
abbrev pub IsFit : (List ℕ → Bool) → FoundMove → Type 0
IsFit accepts Next = Unit {0}
IsFit accepts Before = Unit {0}
IsFit accepts (Seek key) = accepts key.now ≡ true
IsFit accepts First = Unit {0}
IsFit accepts Last = Unit {0}

-- what it is from block to block
abbrev pub found_step : {C : Type 0} → CmpGhosts C → FoundMove → StepTo C
found_step order Next = Forward
found_step order Before = Backward
found_step order (Seek key) = ToKey order key.now
found_step order First = ToFirst
found_step order Last = ToLast

-- ---- the walk

-- the pair that it is at
abbrev pub found_here : {E C F : Type 0} → FoundTable E C F → Option Pair
found_here it = current_of it.core

module _ {E F : Type 0} (env : EnvGhosts E F) where
  -- out of memory, at a failure of the device that was counted from one environment to another, or
  -- for this reason
  abbrev pub FailsBetweenOr : Type 0 → E → E → Status → Type 0
  FailsBetweenOr Why state later status = IsOutOfMemory status
      ⊎ (env.failures state < env.failures later) ⊎ (env.failures later ≡ 2 ^ 64 - 1) ⊎ Why

  -- a file is none of the tables that may be made meanwhile
  abbrev pub IsNoNewTable : {K : Type 0} → ReadFiles K → F → Type 0
  IsNoNewTable files file = (n : ℕ) → files.below ≤ n → n < 2 ^ 64
      → bytes_eq (table_path files.store.now n) (env.name_of file) ≡ false

  -- What a move leaves of the world: what tables are read with, the disk at each moment, and no
  -- failure is forgotten.
  pub record KeepsFound {K : Type 0} (first second : E × ReadFiles K) : Type 0 where
    pub files_stay : second.1 ≡ first.1
    pub disk : KeepsDisk env first.0 second.0
    pub later : env.failures first.0 ≤ env.failures second.0

module _ {E C FP F : Type 0} (order : CmpGhosts C) (env : EnvGhosts E F) (codings : Codings)
    (table : OpenTable C FP F) where
  -- what a move comes to in an open table, whatever its file is
  abbrev pub MovesInOpen : FoundMove → E → Cached (CachedBlock C) → TablePlace C
      → Result Bool Status → E → Cached (CachedBlock C) → TablePlace C → Type 0
  MovesInOpen to old_env old_blocks old result new_env new_blocks new =
      MovesInTable order env codings (order.accepts table.cmp) (order.cmp table.cmp) (id_of table)
      (file_of table) (λ parts. IsFit (order.accepts table.cmp) to)
      (way_of to (order.cmp table.cmp)) (found_step order to) old_env old_blocks old result new_env
      new_blocks new

module _ {E C F : Type 0} (order : CmpGhosts (InternalKeyCmp C)) (env : EnvGhosts E F) where
  module _ (codings : Codings) where
    -- The disk is modelled, and the walk's file has these bytes, with these data blocks, which are
    -- decoded; the walk has the index of these, and no block in memory but of the file.
    pub record IsFoundThere (state : E) (it : FoundTable E C F) (bytes : List ℕ)
        (parts : List Part) : Type 0 where
      pub has : FileHas env state (file_of it.table) bytes
      pub parts_are : HasParts codings (order.accepts it.table.cmp) (order.cmp it.table.cmp) bytes
          parts
      pub holds : HoldsOnlyOf order codings (order.cmp it.table.cmp) (id_of it.table) bytes
          it.blocks
      pub indexed : IsIndexed order (order.cmp it.table.cmp) parts it.core
      pub sorted : IsSortedIn (key_order order it.table.cmp) (pairs_in parts)

    -- What a move comes to, whatever the file is: as a move of a walk over a table does.
    pub record MovesInFound (to : FoundMove) (old_env : E) (old : FoundTable E C F)
        (result : Result Bool Status) (new_env : E) (new : FoundTable E C F) : Type 0 where
      -- it is a walk over the same table
      pub table : new.table ≡ old.table
      pub moves : MovesInOpen order env codings old.table to old_env old.blocks old.core result
          new_env new.blocks new.core
      -- the result says whether it is at a pair
      pub there : IfOk result (λ there. there ≡ is_some (inner_position new.core.inner))

  module _ {K : Type 0} (codings : K → Codings) where
    -- what stored blocks are decoded with
    abbrev pub codings_in : E × ReadFiles K → Codings
    codings_in world = codings world.1.compressors.now

    -- The walk is over the pairs of its table, which are in the order of internal keys, and whose
    -- blocks are decoded by the compressors. Its file is no table that may be made meanwhile.
    pub record IsFoundOver (world : E × ReadFiles K) (it : FoundTable E C F) (keys : KeyOrder)
        (pairs : List Pair) : Type 0 where
      pub bytes : List ℕ
      pub parts : List Part
      pub there : IsFoundThere (codings_in world) world.0 it bytes parts
      pub old : IsNoNewTable env world.1 (file_of it.table)
      pub keys_are : keys ≡ key_order order it.table.cmp
      pub pairs_are : pairs ≡ pairs_in parts

    -- and at this position of them
    pub record IsFoundAt (world : E × ReadFiles K) (it : FoundTable E C F) (keys : KeyOrder)
        (pairs : List Pair) (position : Option ℕ) : Type 0 where
      pub over : IsFoundOver world it keys pairs
      pub at : IsAtPosition order keys.cmp over.parts it.core position

    -- Why a move fails that begins in one world and ends in another: out of memory, at a failure of
    -- the device, or since a block is lacking; and where the walk is over a table, for no block.
    pub record FailsInFound (world : E × ReadFiles K) (it : FoundTable E C F)
        (later : E × ReadFiles K) (status : Status) : Type 0 where
      pub fault : FailsBetweenOr env (HasLackCode env (codings_in world) status) world.0 later.0
          status
      pub sound : (keys : KeyOrder) (pairs : List Pair) → IsFoundOver world it keys pairs
          → FailsBetweenOr env ⊥ world.0 later.0 status

-- ---- opening

-- what a call says that opens the file at a path, and returns how many bytes it has
pub record OpensFile {E F : Type 0} (env : EnvGhosts E F) (path : List ℕ) (old : E)
    (result : Result (F × ℕ) Status) (new : E) : Type 0 where
  pub ok : IfOk result (λ opened. IsTrue env.models_disk → (env.name_of opened.0 ≡ path)
      × IsSomeAnd (files_at env old path) (λ file. opened.1 ≡ length (bytes_of file)))
  -- it fails out of memory, at a failure of the device, or since the file is missing
  pub reads : ReadsFile env (λ status. (status.code ≡ Corruption)
      × (IsTrue env.models_disk → files_at env old path ≡ None)) old new result

module _ {E C F : Type 0} (order : CmpGhosts (InternalKeyCmp C)) (env : EnvGhosts E F)
    (cmp : CmpGhosts C) (codings : Codings) where
  -- A walk over a table in this order of users' keys, at no position. Whatever bytes its file has,
  -- if they are a table of some pairs, whatever its filters are, it is over these.
  pub record IsNewFound (compares : C) (Has : List ℕ → Type 0) (state : E) (it : FoundTable E C F)
      : Type 0 where
    pub ordered : it.table.cmp ≡ record { 0 = compares }
    pub left : it.core.inner ≡ None
    pub there : (bytes : List ℕ) (pairs : List Pair) → Has bytes
        → IsStoreTable (Decodes codings) (cmp.cmp compares) (λ name. None) bytes pairs
        → (parts : List Part) × (pairs ≡ pairs_in parts)
        × IsFoundThere order env codings state it bytes parts

  -- what a call says that opens a table in a file of this size
  pub record OpensFound (compares : C) (file : F) (size : ℕ) (old : E)
      (result : Result (FoundTable E C F) Status) (new : E) : Type 0 where
    -- it fails out of memory, at a failure of the device, or since the file has no index
    pub reads : ReadsFile env (IsLackError env codings
        (IsNoIndex codings (order.cmp (record { 0 = compares })) size) old file) old new result
    pub file_is : IfOk result (λ it. file_of it.table ≡ file)
    pub ok : IfOk result (IsNewFound compares
        (λ bytes. FileHas env old file bytes × (size ≡ length bytes)) new)

  -- and one that opens the table in the file at a path
  pub record OpensFoundAt (compares : C) (path : List ℕ) (old : E)
      (result : Result (FoundTable E C F) Status) (new : E) : Type 0 where
    -- it fails out of memory, at a failure of the device, or since the file is missing or has no
    -- index
    pub reads : ReadsFile env (λ status. HasLackCode env codings status
        × (IsTrue env.models_disk → ForBytesAt (files_at env old) path (λ bytes.
        IsNoIndex codings (order.cmp (record { 0 = compares })) (length bytes) bytes status)))
        old new result
    pub path_is : IfOk result (λ it. IsTrue env.models_disk
        → env.name_of (file_of it.table) ≡ path)
    pub ok : IfOk result (IsNewFound compares
        (λ bytes. IsTrue env.models_disk × HasBytesAt (files_at env old) path bytes) new)

-- ---- while other files change

-- An environment after other calls than reads of found tables: no file has changed but tables of
-- the numbers that may be made, and no failure is forgotten.
pub record ChangesBesideFound {E K F : Type 0} (env : EnvGhosts E F) (files : ReadFiles K)
    (from to : E) : Type 0 where
  pub later : env.failures from ≤ env.failures to
  pub kept : IsTrue env.models_disk → (path : List ℕ)
      → ((n : ℕ) → files.below ≤ n → n < 2 ^ 64
      → bytes_eq (table_path files.store.now n) path ≡ false)
      → files_at env to path ≡ files_at env from path

-- tables are made in this store from this number on, and no found table is one of them
pub record MakesFrom {E K : Type 0} (store : List ℕ) (first : ℕ) (world : E × ReadFiles K) : Type 0
  where
    pub below : world.1.below ≤ first
    pub store_is : world.1.store.now ≡ store
