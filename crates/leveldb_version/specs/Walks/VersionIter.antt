-- Walks over the tables of files, one after the other: which list such a walk is over, and where it
-- is.
use Rattle.std.specs.Prelude.{◌≡◌, ◌⊎◌, ◌-◌, ◌<◌, ◌≤◌, ◌^◌, ℕ, Bool, Result, IfOk, IfErr, IsSome, IsTrue, OnOk, OnErr, is_some, List, [], Option, None, Some, length, map, slice_index_or}
use Rattle.std.specs.Ordering.{is_lt}
use Rattle.std.specs.declared.cmp.Ordering.{Ordering}
use Rattle.leveldb_base.specs.Error.{IsOutOfMemory}
use Rattle.leveldb_base.specs.KeyTypes.{internal_cmp}
use Rattle.leveldb_base.specs.Types.{Pair}
use Rattle.leveldb_base.specs.declared.cmp.Cmp.{Ghosts as CmpGhosts}
use Rattle.leveldb_base.specs.declared.cmp.internal.InternalKeyCmp.{InternalKeyCmp}
use Rattle.leveldb_base.specs.declared.error.Status.{Status}
use Rattle.leveldb_base.specs.declared.error.StatusCode.TheVariants.{NotSupported}
use Rattle.leveldb_base.specs.declared.types.FileMetaData.{FileMetaData}
use Rattle.leveldb_env.specs.Compressor.{Codings}
use Rattle.leveldb_env.specs.declared.env.Env.{Ghosts as EnvGhosts}
use Rattle.leveldb_env.specs.declared.filter.FilterPolicy.{Ghosts as FilterGhosts}
use Rattle.leveldb_iter.specs.Walk.{KeyOrder, IsSortedIn, key_order}
use Rattle.leveldb_table.specs.Table.{AreAccepted, AreParted, Part}
use Rattle.leveldb_table.specs.TableReader.{pairs_in}
use Rattle.leveldb_table.specs.TableReaderWalk.{IsAtPairOrNone, TablePlace}
use Rattle.leveldb_table.specs.declared.table_reader.walk.TableStep.{TableStep}
use Rattle.leveldb_files.specs.Stores.Batches.{Each}
use Rattle.leveldb_files.specs.Stores.Format.{Agrees, IsTableFault, LacksCompressor, Meaning}
use Rattle.leveldb_version.specs.Tables.TableCache.{TableOptions, files_at, options_by, path_at, table_at}
use Rattle.leveldb_version.specs.Tables.TableMoves.{AreTablesMatched, FileTable, IsAtInTable, IsIndexedFor, IsLedTo, IsTableAt, KeepsTables, core_here, core_position, table_pairs}
use Rattle.leveldb_version.specs.Edits.VersionEdit.{new_file_of}
use Rattle.leveldb_version.specs.declared.table_cache.moves.ReadTables.{ReadTables}
use Rattle.leveldb_version.specs.declared.version_iter.VersionIter.{VersionIter}

-- ---- tables after one another

-- a table as a block of all pairs, under its last key
abbrev pub table_part : FileTable → Part
table_part table = record {
  handle = record { offset = 0; size = 0 };
  index_key = table.largest;
  pairs = table_pairs table;
}

-- tables as such blocks
abbrev pub table_parts : List FileTable → List Part
table_parts tables = map table_part tables

-- the table of this number in a list, or one without pairs
abbrev pub table_in : List FileTable → ℕ → FileTable
table_in tables i = slice_index_or tables i (record { bytes = []; parts = []; largest = [] })

-- each open table's number was given
abbrev pub AreOpenGiven : {E C FP K F : Type 0} → E × ReadTables E C FP K F → Type 0
AreOpenGiven world = (number : ℕ) → number < 2 ^ 64
    → IsSome (table_at world.1.cache.now number) → number < world.1.below

module _ {E C FP K F : Type 0} (env : EnvGhosts E F) (cmp : CmpGhosts C) (filters : FilterGhosts FP)
    (codings : K → Codings) where
  -- what tables are opened with
  abbrev pub reading : ReadTables E C FP K F → TableOptions C FP
  reading tables = options_by cmp filters (codings tables.compressors.now) tables.cmp tables.policy

  -- out of memory, at a failure of the device that was counted from one world to another, or for
  -- this reason
  abbrev pub FailsOr : Type 0 → E × ReadTables E C FP K F → E × ReadTables E C FP K F
      → Status → Type 0
  FailsOr Why world later status = IsOutOfMemory status
      ⊎ (env.failures world.0 < env.failures later.0) ⊎ (env.failures later.0 ≡ 2 ^ 64 - 1) ⊎ Why

module _ {E C FP K F : Type 0} (order : CmpGhosts (InternalKeyCmp C)) (env : EnvGhosts E F)
    (cmp : CmpGhosts C) (filters : FilterGhosts FP) (codings : K → Codings) where
  -- the files are these tables, by what names and ids mean, their numbers were given, and the walk
  -- that has begun is over the one of the file where it is
  pub record AreTablesThere (meaning : Meaning) (world : E × ReadTables E C FP K F)
      (it : VersionIter C) (tables : List FileTable) : Type 0 where
    pub matched : AreTablesMatched order env (reading env cmp filters codings world.1) world.0
        world.1.cache.now
    pub agrees : Agrees (reading env cmp filters codings world.1).format meaning
    pub each : Each (λ file table. ((new_file_of file).number < 2 ^ 64)
        × ((new_file_of file).largest ≡ table.largest)
        × IsTableAt (reading env cmp filters codings world.1).format.order meaning
        (files_at env world.0)
        (path_at world.1.cache.now (new_file_of file).number) table
        × ((new_file_of file).number < world.1.below)) it.files.now tables
    pub indexed : IsIndexedFor order (order.cmp (record { 0 = world.1.cmp }))
        (table_in tables it.at).parts it.core

  -- The walk is over the pairs of these tables, which are in the order of internal keys, one table
  -- after the other.
  pub record IsOverTables (world : E × ReadTables E C FP K F) (it : VersionIter C)
      (keys : KeyOrder) (pairs : List Pair) : Type 0 where
    pub meaning : Meaning
    pub tables : List FileTable
    pub there : AreTablesThere meaning world it tables
    pub keys_are : keys ≡ key_order order (record { 0 = world.1.cmp })
    pub pairs_are : pairs ≡ pairs_in (table_parts tables)
    pub sorted : IsSortedIn keys pairs
    pub parted : AreParted keys.cmp (table_parts tables)
    pub accepted : AreAccepted keys.accepts (table_parts tables)

  -- and at this position of them
  pub record IsAtInTables (world : E × ReadTables E C FP K F) (it : VersionIter C)
      (keys : KeyOrder) (pairs : List Pair) (position : Option ℕ) : Type 0 where
    pub over : IsOverTables world it keys pairs
    -- the position in the table where it is
    pub inner : Option ℕ
    pub in_table : IsAtInTable order keys.cmp (table_in over.tables it.at).parts it.core inner
    pub at : IsAtPairOrNone (table_parts over.tables) (Some it.at)
        (table_pairs (table_in over.tables it.at)) inner position

  -- Why a move fails that begins in one world and ends in another: for a fault of a table; and
  -- where the files are tables, only since the format lacks a compressor.
  pub record FailsInTables (world : E × ReadTables E C FP K F) (it : VersionIter C)
      (later : E × ReadTables E C FP K F) (status : Status) : Type 0 where
    pub fault : FailsOr env cmp filters codings (IsTableFault
        (reading env cmp filters codings world.1).format status.code) world later status
    pub lacks : (meaning : Meaning) (tables : List FileTable)
        → AreTablesThere meaning world it tables
        → FailsOr env cmp filters codings ((status.code ≡ NotSupported)
        × LacksCompressor (reading env cmp filters codings world.1).format meaning) world later
        status

  -- What a move leaves of the world: tables are read by the same cache, with the same options, and
  -- none is opened whose number wasn't given.
  pub record KeepsReading (first second : E × ReadTables E C FP K F) : Type 0 where
    pub cmp_stays : second.1.cmp ≡ first.1.cmp
    pub policy_stays : second.1.policy ≡ first.1.policy
    pub compressors_stay : second.1.compressors ≡ first.1.compressors
    pub below_stays : second.1.below ≡ first.1.below
    pub reference : second.1.cache.ghost_name ≡ first.1.cache.ghost_name
    pub tables : KeepsTables order env (reading env cmp filters codings first.1) first.0
        first.1.cache.now second.0 second.1.cache.now
    pub given : AreOpenGiven first → AreOpenGiven second

  -- ---- its steps

  -- What a call leaves of a walk and its world: this, and tables that were there are there.
  pub record StaysThere (old_world : E × ReadTables E C FP K F) (old : VersionIter C)
      (new_world : E × ReadTables E C FP K F) (new : VersionIter C) : Type 0 where
    pub kept : KeepsReading old_world new_world
    pub files : new.files.now ≡ old.files.now
    pub there : (meaning : Meaning) (tables : List FileTable)
        → AreTablesThere meaning old_world old tables
        → AreTablesThere meaning new_world new tables

  -- a move, its result and its errors, wherever it leads
  pub record MovesThere {R : Type 0} (old_world : E × ReadTables E C FP K F)
      (old : VersionIter C) (result : Result R Status)
      (new_world : E × ReadTables E C FP K F) (new : VersionIter C) : Type 0 where
    pub stays : StaysThere old_world old new_world new
    pub cause : IfErr result (FailsInTables old_world old new_world)
    pub err : OnErr result (core_position new.core ≡ None)

  -- a move in the table of the file where it is
  pub record StepsInFile (to : TableStep) (old_world : E × ReadTables E C FP K F)
      (old : VersionIter C) (result : Result Bool Status)
      (new_world : E × ReadTables E C FP K F) (new : VersionIter C) : Type 0 where
    pub moves : MovesThere old_world old result new_world new
    pub there : IfOk result (λ there. there ≡ is_some (core_position new.core))
    pub at : new.at ≡ old.at
    pub ok : (meaning : Meaning) (tables : List FileTable)
        → AreTablesThere meaning old_world old tables → old.at < length tables
        → let keys = order.cmp (record { 0 = old_world.1.cmp }) in
        let parts = (table_in tables old.at).parts in (position : Option ℕ)
        → IsLedTo to keys parts old.core position
        → OnOk result (IsAtInTable order keys parts new.core position)

  -- a move in the table of the file of this index, or past the last to no position
  pub record MovesToFile (at : ℕ) (to : TableStep) (old_world : E × ReadTables E C FP K F)
      (old : VersionIter C) (result : Result Bool Status)
      (new_world : E × ReadTables E C FP K F) (new : VersionIter C) : Type 0 where
    pub moves : MovesThere old_world old result new_world new
    pub there : IfOk result (λ there. there ≡ is_some (core_position new.core))
    pub past : length old.files.now ≤ at → core_position new.core ≡ None
    pub at_file : at < length old.files.now → new.at ≡ at
    -- a file's table has a pair, or the move fails: only past the last file it returns `false`
    pub some : at < length old.files.now → IfOk result IsTrue
    pub ok : (meaning : Meaning) (tables : List FileTable)
        → AreTablesThere meaning old_world old tables → at < length tables
        → let keys = order.cmp (record { 0 = old_world.1.cmp }) in
        let parts = (table_in tables at).parts in (position : Option ℕ)
        → IsLedTo {C = InternalKeyCmp C} to keys parts None position
        → OnOk result (IsAtInTable order keys parts new.core position)

-- a file's largest key is before this one
abbrev pub ends_before_key : (List ℕ → List ℕ → Ordering) → List ℕ → ℕ × FileMetaData → Bool
ends_before_key cmp key file = is_lt (internal_cmp cmp (new_file_of file).largest key)

-- a turn to a file: the walk in it is the one that had begun, or none if that was in another
abbrev pub KeepsTableOrNone : {C : Type 0} → ℕ → Option (TablePlace C) → ℕ
    → Option (TablePlace C) → Type 0
KeepsTableOrNone old_at old at new = (new ≡ None) ⊎ ((old_at ≡ at) × (new ≡ old))

-- the pair that it is at
abbrev pub version_here : {C : Type 0} → VersionIter C → Option Pair
version_here it = core_here it.core
