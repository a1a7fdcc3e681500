-- What `build_table` makes of a walk, what changes on the way, and why it fails.
use Rattle.std.specs.Prelude.{◌≡◌, ◌≢◌, ◌⊎◌, ℕ, Bool, true, false, List, [], ◌++◌, length, take, max, slice_get, All, Contains, Option, None, Some, Result, Ok, IfOk, IsTrue}
use Rattle.std.specs.declared.cmp.Ordering.{Ordering}
use Rattle.leveldb_base.specs.Error.{IsOutOfMemory}
use Rattle.leveldb_base.specs.History.{AreRising, Entry}
use Rattle.leveldb_base.specs.KeyTypes.{user_part}
use Rattle.leveldb_base.specs.Types.{Pair}
use Rattle.leveldb_base.specs.declared.cmp.Cmp.{Ghosts as CmpGhosts}
use Rattle.leveldb_base.specs.declared.cmp.internal.InternalKeyCmp.{InternalKeyCmp}
use Rattle.leveldb_base.specs.declared.error.Status.{Status}
use Rattle.leveldb_base.specs.declared.types.FileMetaData.{FileMetaData}
use Rattle.leveldb_env.specs.Compressor.{Codings, Decodes}
use Rattle.leveldb_env.specs.Env.{Files, HasCause, Run, SameBut, SameLocks, kept_file}
use Rattle.leveldb_env.specs.Options.{Boxed, OptionsOf}
use Rattle.leveldb_env.specs.Sink.{PutsAll}
use Rattle.leveldb_env.specs.declared.compressor.CompressorList.{CompressorList}
use Rattle.leveldb_env.specs.declared.env.Env.{Ghosts as EnvGhosts}
use Rattle.leveldb_env.specs.declared.filter.FilterPolicy.{Ghosts as FilterGhosts}
use Rattle.leveldb_iter.specs.Walk.{KeyOrder}
use Rattle.leveldb_iter.specs.declared.walk.Walk.{Ghosts as WalkGhosts}
use Rattle.leveldb_table.specs.TableBuilder.{TableBuilt, IsBegun, IsBuiltTable, IsMeaningOf, IsNewBuilder, KeepsChoices}
use Rattle.leveldb_table.specs.TableBuilderAdd.{IsAddError}
use Rattle.leveldb_table.specs.TableBuilderFinish.{IsFinishError}
use Rattle.leveldb_files.specs.Stores.Batches.{Each}
use Rattle.leveldb_version_set.specs.Engines.Opening.{FitsEdit}
use Rattle.leveldb_files.specs.Stores.Paths.{table_path}
use Rattle.leveldb_files.specs.Stores.Store.{HasTable, IsFirstKey, IsInternalPair, IsLastKey, IsStoreTable}
use Rattle.leveldb_files.specs.Steps.StoreSteps.{AppendedAreBytes}
use Rattle.leveldb_version.specs.Edits.VersionEdit.{new_file_of}
use Rattle.leveldb_files.specs.Stores.Format.{Format, format_of}

-- ---- how a builder gets the pairs of a walk

-- a builder may be given these pairs in turn: their keys are accepted and rise
pub record CanBeBuilt (accepts : List ℕ → Bool) (cmp : List ℕ → List ℕ → Ordering)
    (pairs : List Pair) : Type 0 where
  pub accepted : All (λ pair. accepts pair.0 ≡ true) pairs
  pub rising : AreRising cmp pairs

-- these pairs were added: some bytes were put, and the builder has put these after what it had put
-- before
pub record AddsPairs {S : Type 0} (puts : S → List ℕ → Result (Unit {0}) Status → S → Type 0)
    (old new : List ℕ → List Pair → Type 0) (from : S) (pairs : List Pair) (to : S) : Type 0 where
  pub bytes : List ℕ
  pub put : PutsAll puts from bytes to
  pub begun : (written : List ℕ) (before : List Pair) → old written before
      → new (written ++ bytes) (before ++ pairs)

-- how many of the pairs a walk has passed that is at this position, after it was at the first
abbrev pub passed : List Pair → Option ℕ → ℕ
passed pairs None = length pairs
passed pairs (Some i) = i

-- the table that a builder of these choices makes of pairs
abbrev pub IsTableUnder : {C FP : Type 0} → CmpGhosts C → FilterGhosts FP → Codings → C → FP → ℕ
    → ℕ → ℕ → List ℕ → List Pair → Type 0
IsTableUnder order filters codings cmp policy id interval index_interval =
    IsBuiltTable codings (order.accepts cmp) (order.cmp cmp) (order.shortest_sep cmp)
    (order.short_succ cmp) (filters.matches policy) (filters.filter_for policy) id
    (filters.name policy) interval index_interval

-- A sink that takes all: the bytes that were put so far. No put of it fails.
abbrev pub puts_all : List ℕ → List ℕ → Result (Unit {0}) Status → List ℕ → Type 0
puts_all old bytes result new = (result ≡ Ok tt) × (new ≡ old ++ bytes)

-- nor does a flush, which changes nothing
abbrev pub flushes_all : List ℕ → Result (Unit {0}) Status → List ℕ → Type 0
flushes_all old result new = (result ≡ Ok tt) × (new ≡ old)

module _ {C FP : Type 0} (order : CmpGhosts C) (filters : FilterGhosts FP) (codings : Codings) where
  -- nothing is put, no pair is added and no call has failed
  pub record IsUnused (core : TableBuilt C FP) : Type 0 where
    pub begun : IsBegun codings order filters core [] []
    pub unbroken : core.broken ≡ false
    pub none : core.count ≡ 0

  -- The builder has taken these pairs, by its calls alone.
  pub record HasTaken {S : Type 0} (puts : S → List ℕ → Result (Unit {0}) Status → S → Type 0)
      (core : TableBuilt C FP) (from : S) (pairs : List Pair)
      (mid : TableBuilt C FP) (to : S) : Type 0 where
    pub adds : AddsPairs puts (IsBegun codings order filters core)
        (IsBegun codings order filters mid) from pairs to
    pub choices : KeepsChoices core mid
    pub unbroken : mid.broken ≡ false

  module _ {S : Type 0} (puts : S → List ℕ → Result (Unit {0}) Status → S → Type 0)
      (core : TableBuilt C FP) (from : S) (pairs : List Pair) where
    -- The builder took the first of these pairs and not the next one, for a cause of its own.
    pub record StopsAtPair (status : Status) : Type 0 where
      pub count : ℕ
      pub pair : Pair
      pub next : slice_get pairs count ≡ Some pair
      pub mid : TableBuilt C FP
      pub at : S
      pub taken : HasTaken puts core from (take count pairs) mid at
      pub to : S
      pub cause : IsAddError order filters codings mid puts pair at status to

    -- The builder took all of them and didn't finish the table, for a cause of its own.
    pub record StopsAtEnd (flushes : S → Result (Unit {0}) Status → S → Type 0) (status : Status)
        : Type 0 where
      pub mid : TableBuilt C FP
      pub at : S
      pub taken : HasTaken puts core from pairs mid at
      pub to : S
      pub cause : IsFinishError order filters codings mid puts flushes at status to

  -- Though no put fails, the builder takes some of the pairs alone, and fails at the next one or at
  -- the end.
  abbrev pub StopsBuilding : TableBuilt C FP → List Pair → Status → Type 0
  StopsBuilding core pairs status = StopsAtPair puts_all core [] pairs status
      ⊎ StopsAtEnd puts_all core [] pairs flushes_all status

-- ---- the walk whose pairs go into a table

-- A walk that reads no file: whatever becomes of the environment, it is where it is and has no new
-- error, and its moves leave the environment as it is.
pub record ReadsNoFile {E T W : Type 0} (walk : WalkGhosts W E T) : Type 0 where
  pub stays_over : (from to : E) (tables : T) (it : W) (keys : KeyOrder) (pairs : List Pair)
      → walk.over (from, tables) it keys pairs → walk.over (to, tables) it keys pairs
  pub stays : (from to : E) (tables : T) (it : W) (keys : KeyOrder) (pairs : List Pair)
      (position : Option ℕ) → walk.is_at (from, tables) it keys pairs position
      → walk.is_at (to, tables) it keys pairs position
  pub excuses : (from to : E) (tables : T) (it : W) (later : E × T) (status : Status)
      → walk.fails (to, tables) it later status → walk.fails (from, tables) it later status
  pub still : (from to : E × T) → walk.keeps from to → to.0 ≡ from.0

-- a walk that was moved is over the same list, with no new error
pub record StaysOver {E T W : Type 0} (walk : WalkGhosts W E T) (old_world : E × T) (old : W)
    (new_world : E × T) (new : W) : Type 0 where
  pub same : (keys : KeyOrder) (pairs : List Pair) → walk.over old_world old keys pairs
      → walk.over new_world new keys pairs
  pub excuses : (later : E × T) (status : Status) → walk.fails new_world new later status
      → walk.fails old_world old later status

-- an error that a walk may have in a world
abbrev pub WalkFails : {E T W : Type 0} → WalkGhosts W E T → E × T → W → Status → Type 0
WalkFails {E} {T} walk world it status = (later : E × T) × walk.fails world it later status

-- ---- what a table is built with

-- How a store's files are read; and the order of internal keys, the filter policy for them, the
-- compressor's id, the size of blocks and the restart interval, all of which builders are given.
pub record TableChoices {C FP : Type 0} (order : CmpGhosts C) (filters : FilterGhosts FP)
    : Type 0 where
  pub format : Format
  pub cmp : C
  pub policy : FP
  pub id : ℕ
  pub block_size : ℕ
  pub restarts : ℕ

-- The choices of options. `keys` and `key_filters` are the orders and the policies of internal keys
-- that are made of those of users' keys.
abbrev pub choices_of : {C FP : Type 0} {B : Boxed} → CmpGhosts C → FilterGhosts FP
    → (keys : CmpGhosts (InternalKeyCmp C)) (key_filters : FilterGhosts FP)
    → (CompressorList B.compressors B.compressor → Codings) → OptionsOf C FP B
    → TableChoices keys key_filters
choices_of cmp filters keys key_filters codings options = record {
  format = format_of cmp filters codings options;
  cmp = record { 0 = options.cmp };
  policy = options.filter_policy;
  id = options.compressor;
  block_size = options.block_size;
  restarts = options.block_restart_interval;
}

-- ---- what `build_table` does

module _ {C FP : Type 0} {order : CmpGhosts C} {filters : FilterGhosts FP}
    (choices : TableChoices order filters) (pairs : List Pair) where
  -- Why no table of the pairs is built, whatever sink it is put into: out of memory; or a new
  -- builder of these choices takes some of the pairs, and fails at the next one or at the end for a
  -- cause of its own.
  abbrev pub IsNotBuilt : Status → Type 0
  IsNotBuilt status =
      IsOutOfMemory status
      ⊎ ((core : TableBuilt C FP)
      × IsNewBuilder order filters choices.cmp choices.policy choices.id choices.block_size
      choices.restarts core
      × StopsBuilding order filters choices.format.codings core pairs status)

  -- these bytes are the table that a builder of these choices makes of the pairs
  abbrev pub IsTableBuilt : List ℕ → Type 0
  IsTableBuilt bytes =
      IsTableUnder order filters choices.format.codings choices.cmp choices.policy choices.id
      (max 1 choices.restarts) 1 bytes pairs

  -- The file has the table of the pairs, all of it kept, and its metadata is the table's. Where no
  -- disk is modelled, the bytes of the file are left open, but not the metadata.
  pub record IsTableFile (models_disk : Bool) (store : List ℕ) (files : Files) (file : FileMetaData)
      : Type 0 where
    pub bytes : List ℕ
    pub built : IsTableBuilt bytes
    pub kept : IsTrue models_disk → files (table_path store file.num) ≡ Some (kept_file bytes)
    pub size : file.size ≡ length bytes
    pub smallest : IsFirstKey file.smallest pairs
    pub largest : IsLastKey file.largest pairs

  -- In a level the file is a table of the store, with the entries of the pairs, whatever names of
  -- filter policies mean besides this one's.
  abbrev pub IsTableOfStore : List ℕ → Files → FileMetaData → Type 0
  IsTableOfStore store files file =
      (meaning : List ℕ → Option (List ℕ → List ℕ → Bool)) (level : ℕ) (entries : List Entry)
      → IsMeaningOf meaning choices.format.policy_name
      (λ key. choices.format.matches (user_part key))
      → Each IsInternalPair pairs entries
      → HasTable store choices.format.order
      (IsStoreTable (Decodes choices.format.codings) choices.format.order meaning) files
      (record { file = new_file_of (level, file); entries = entries })

  -- what making the table of a walk's pairs under a number returns and leaves
  pub record MakesTable {E F : Type 0} (env : EnvGhosts E F) (Fails : Status → Type 0)
      (store : List ℕ) (number : ℕ) (old : E) (result : Result FileMetaData Status) (new : E)
      : Type 0 where
    pub number_is : IfOk result (λ file. (file.num ≡ number) × (file.allowed_seeks ≡ 0))
    -- an edit may have the file, in any level
    pub fits : IfOk result (λ file. (level : ℕ) → FitsEdit (new_file_of (level, file)))
    -- over no pair no call is made, and the file has no byte
    pub none : pairs ≡ [] → (new ≡ old) × IfOk result (λ file. file.size ≡ 0)
    -- else the file is made, and it is a table of the store
    pub made : pairs ≢ [] → IfOk result
        (IsTableFile env.models_disk store (env.observed new).disk.files)
    pub has : pairs ≢ [] → IsTrue env.models_disk
        → IfOk result (IsTableOfStore store (env.observed new).disk.files)
    -- now and at each moment on the way no other file changes, nor does a lock
    pub run : IsTrue env.models_disk → Run (SameBut (table_path store number)
        (env.observed old).disk.files) (env.observed old) (env.observed new)
    -- what was appended to each file are bytes, if they were before
    pub bytes : IsTrue env.models_disk → AppendedAreBytes (env.observed old).disk.files
        → AppendedAreBytes (env.observed new).disk.files
    pub locks : SameLocks env.models_disk (env.observed old) (env.observed new)
    -- Out of memory; or no table was built or the walk failed, and no failure was counted; or the
    -- device failed. Keys out of order are no cause: those of the walk rise.
    pub cause : HasCause (λ status. IsOutOfMemory status
        ⊎ ((IsNotBuilt status ⊎ Fails status) × (env.failures new ≡ env.failures old)))
        (env.failures old) (env.failures new) result

-- no table is built of some of these pairs
pub record AreSomeNotBuilt {C FP : Type 0} {order : CmpGhosts C} {filters : FilterGhosts FP}
    (choices : TableChoices order filters) (pairs : List Pair) (status : Status) : Type 0 where
  pub some : List Pair
  pub among : (pair : Pair) → Contains some pair → Contains pairs pair
  pub not_built : IsNotBuilt choices some status
