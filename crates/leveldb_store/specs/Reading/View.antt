-- A walk over the view of an open store at a sequence number: which pairs it is over, why its moves
-- fail, and what they leave.
use Rattle.std.specs.Prelude.{◌≡◌, ◌≤◌, ◌⊎◌, ◌++◌, ℕ, map, Some, true, List, [], ◌∷◌, Option, None, Result, IfErr, OnOk}
use Rattle.std.specs.declared.cmp.Ordering.{Ordering}
use Rattle.leveldb_base.specs.Cmp.{IsExactOrder}
use Rattle.leveldb_base.specs.Entries.{entries_of_pairs, internal_pair}
use Rattle.leveldb_base.specs.Error.{IsOutOfMemory}
use Rattle.leveldb_base.specs.History.{AreRising, AreUpTo, Entry, History, IsView, entries_of}
use Rattle.leveldb_base.specs.KeyTypes.{greatest_sequence, internal_cmp}
use Rattle.leveldb_base.specs.Types.{Pair}
use Rattle.leveldb_base.specs.View.{view_of}
use Rattle.leveldb_base.specs.declared.cmp.Cmp.{Ghosts as CmpGhosts}
use Rattle.leveldb_base.specs.declared.cmp.internal.InternalKeyCmp.{InternalKeyCmp}
use Rattle.leveldb_base.specs.declared.error.Status.{Status}
use Rattle.leveldb_base.specs.declared.error.StatusCode.TheVariants.{Corruption, InvalidArgument, NotSupported}
use Rattle.leveldb_base.specs.declared.types.LdbIterator.{Ghosts as IteratorGhosts}
use Rattle.leveldb_env.specs.Compressor.{Codings}
use Rattle.leveldb_env.specs.declared.env.Env.{Ghosts}
use Rattle.leveldb_env.specs.declared.filter.FilterPolicy.{Ghosts as FilterGhosts}
use Rattle.leveldb_iter.specs.Children.{AnyFails}
use Rattle.leveldb_iter.specs.Merge.{HaveOnePairAKey}
use Rattle.leveldb_iter.specs.MergedEntries.{internal_order}
use Rattle.leveldb_iter.specs.MergingIter.{AreMerged}
use Rattle.leveldb_iter.specs.Moves.{IsRefusedFor, LandsAt, SeeksLongKey}
use Rattle.leveldb_iter.specs.Walk.{KeyOrder, WalkLaws}
use Rattle.leveldb_iter.specs.declared.db_iter.ViewWalk.{ViewWalk}
use Rattle.leveldb_iter.specs.declared.merging_iter.MergeCore.{MergeCore}
use Rattle.leveldb_iter.specs.declared.moves.Move.{Move}
use Rattle.leveldb_iter.specs.declared.moves.Step.{Step}
use Rattle.leveldb_iter.specs.declared.in_memory.InMemory.{InMemory}
use Rattle.leveldb_iter.specs.declared.walk.Walk.{Ghosts as WalkGhosts}
use Rattle.leveldb_mem.specs.MemTable.{Kept}
use Rattle.leveldb_table.specs.TableBlock.{KeepsDisk}
use Rattle.leveldb_files.specs.Stores.Batches.{Each}
use Rattle.leveldb_files.specs.Stores.Format.{Agrees, Format, IsTableFault, LacksCompressor, Meaning}
use Rattle.leveldb_version.specs.Tables.TableCache.{TableOptions, files_at}
use Rattle.leveldb_version.specs.Walks.VersionIter.{KeepsReading, reading}
use Rattle.leveldb_version.specs.Walks.VersionIters.{AreVersionIters}
use Rattle.leveldb_version.specs.declared.table_cache.TableCache.{TableCache}
use Rattle.leveldb_version.specs.declared.table_cache.moves.ReadTables.{ReadTables}
use Rattle.leveldb_version.specs.declared.version_iter.VersionIter.{VersionIter}
use Rattle.leveldb_store.specs.Keeping.OpenStore.{OpenStoreValue}
use Rattle.leveldb_store.specs.Keeping.OpenTables.{AreOpenTablesOf}
use Rattle.leveldb_store.specs.Reading.Read.{HasOpenTables}
use Rattle.leveldb_store.specs.Writing.Room.{HasFailed}
use Rattle.leveldb_store.specs.Keeping.Written.{HasView}
use Rattle.leveldb_store.specs.declared.store_walk.StoreWalk.{StoreWalk}
use Rattle.leveldb_store.specs.declared.store_walk.StoreWalk.TheVariants.{Memory, Tables}

module _ {E F T : Type 0} (env : Ghosts E F) where
  -- why a move fails between two worlds: out of memory, at a failure of the device that was
  -- counted, or for this cause
  abbrev pub FailsBetween : E × T → E × T → (Status → Type 0) → Status → Type 0
  FailsBetween from to Why status = IsOutOfMemory status
      ⊎ HasFailed (env.failures from.0) (env.failures to.0) ⊎ Why status

  -- an error that isn't out of memory, and was counted in no call of the very move, may come at any
  -- time
  abbrev pub CountsErrors : {W : Type 0} → (E × T → W → E × T → Status → Type 0) → Type 0
  CountsErrors {W} fails = (from to : E × T) (it : W) (status : Status) → fails from it to status
      → FailsBetween from to (λ e. (other : E × T) → fails from it other e) status

-- any key, in this order of keys
abbrev pub any_in_order : (List ℕ → List ℕ → Ordering) → KeyOrder
any_in_order cmp = record { accepts = λ key. true; cmp = cmp }

-- why a move over memory and whole tables isn't supported: the format lacks a compressor
abbrev pub IsOfNoCompressor : Format → Meaning → Status → Type 0
IsOfNoCompressor format meaning status = (status.code ≡ NotSupported)
    × LacksCompressor format meaning

-- The open tables of a store as its walks read them, with this order of users' keys, filter
-- policy and compressors.
pub record IsReadingOf {E F C FP K : Type 0} (value : OpenStoreValue C) (order : C) (policy : FP)
    (compressors : K) (tables : TableCache E C FP F) (it : ReadTables E C FP K F) : Type 0 where
  -- these are open
  pub cache_is : it.cache.now ≡ tables
  -- to be read with these
  pub order_is : it.cmp ≡ order
  pub policy_is : it.policy ≡ policy
  pub compressors_are : it.compressors.now ≡ compressors
  -- the numbers that were given are those that the store has given
  pub below_is : it.below ≡ value.set.next_file

-- `cmp`, `filters` and `codings` say what comparators, filter policies and compressors mean.
module _ {E F C FP K : Type 0} (env : Ghosts E F) (cmp : CmpGhosts C) (filters : FilterGhosts FP)
    (codings : K → Codings) where
  -- what tables are opened and read with
  abbrev pub options_in : E × ReadTables E C FP K F → TableOptions C FP
  options_in world = reading env cmp filters codings world.1

module _ {E F C FP K : Type 0} (keys : CmpGhosts (InternalKeyCmp C)) (env : Ghosts E F)
    (cmp : CmpGhosts C) (filters : FilterGhosts FP) (codings : K → Codings) where
  -- An environment, and the tables of an open store, which are read from its files.
  pub record IsWorldOf (value : OpenStoreValue C) (world : E × ReadTables E C FP K F)
      : Type 0 where
    -- they are read in the store's order of users' keys
    pub order_is : cmp.cmp world.1.cmp ≡ cmp.cmp value.cmp
    -- the numbers that were given are those that the store has given
    pub below_is : world.1.below ≡ value.set.next_file
    -- the tables that are open are the store's
    pub has_open : HasOpenTables keys env (options_in env cmp filters codings world) value world.0
        world.1.cache.now

  -- In such a world memory and tables show a history, from this number on, by what names and ids
  -- mean.
  pub record ShowsIn (value : OpenStoreValue C) (meaning : Meaning) (history : History) (since : ℕ)
      (world : E × ReadTables E C FP K F) : Type 0 where
    pub is_world : IsWorldOf value world
    pub agrees : Agrees (options_in env cmp filters codings world).format meaning
    pub shows : HasView (cmp.cmp value.cmp) meaning value (files_at env world.0) history since

  -- What any walk of this type leaves, and how failures are counted.
  pub record ReadsAlone {W : Type 0} (walk : WalkGhosts W E (ReadTables E C FP K F)) : Type 0
    where
      -- tables are read with the same options from the same files, and no failure is forgotten
      pub leaves : (from to : E × ReadTables E C FP K F) → walk.keeps from to
          → KeepsReading keys env cmp filters codings from to
      -- the world of an open store stays that
      pub stays : (value : OpenStoreValue C) (from to : E × ReadTables E C FP K F)
          → walk.keeps from to → IsWorldOf value from → IsWorldOf value to
      -- errors are counted, or may come at any time
      pub counts : CountsErrors env walk.fails

  -- A walk over the view of an open store at a sequence number.
  pub record ViewsStore {W : Type 0} (walk : WalkGhosts W E (ReadTables E C FP K F))
      (value : OpenStoreValue C) (sequence : ℕ) (it : W) : Type 0 where
    -- it is over the view at that number of each history that memory and tables show from there on,
    -- or from a number before it, and at no position
    pub over : (world : E × ReadTables E C FP K F) (meaning : Meaning) (history : History)
        (since : ℕ) → since ≤ sequence → ShowsIn value meaning history since world
        → (pairs : List Pair) × IsView (cmp.cmp value.cmp) (entries_of history) sequence pairs
        × walk.is_at world it (any_in_order (cmp.cmp value.cmp)) pairs None
    -- and so at no pair
    pub none : walk.here it ≡ None
    -- what holds of walks holds of this one
    pub laws : WalkLaws walk.over walk.is_at walk.here walk.fails walk.keeps
    -- an error that memory and failures don't explain is the fault of a table
    pub fault : (from to : E × ReadTables E C FP K F) (status : Status)
        → walk.fails from it to status → FailsBetween env from to (λ e. IsTableFault
        (options_in env cmp filters codings from).format e.code) status
    -- and where memory and tables show a history, it comes since the format lacks a compressor
    pub lacks : (from : E × ReadTables E C FP K F) (meaning : Meaning) (history : History)
        (since : ℕ) → ShowsIn value meaning history since from
        → (to : E × ReadTables E C FP K F) (status : Status) → walk.fails from it to status
        → FailsBetween env from to (IsOfNoCompressor
        (options_in env cmp filters codings from).format meaning) status

-- ---- moves in the view

-- why a move fails between two counts of failed calls: out of memory, at a failure that was
-- counted, for this cause, or since its key is too long
abbrev pub MoveFails : (Status → Type 0) → ℕ → ℕ → Move → Status → Type 0
MoveFails Why from to one status = IsOutOfMemory status ⊎ HasFailed from to ⊎ Why status
    ⊎ ((status.code ≡ InvalidArgument) × SeeksLongKey one)

-- moves in a list of pairs, one after another, with the steps that say where they lead, each
-- between the count of failed calls at the end of the one before and its own
abbrev pub MakesMoves : (List ℕ → List ℕ → Ordering) → (Status → Type 0) → List Pair → Option ℕ → ℕ
    → List Move → List Step → ℕ → Type 0
MakesMoves cmp Why pairs position from [] [] to = to ≡ from
MakesMoves cmp Why pairs position from (one ∷ moves) (step ∷ steps) to =
    (mid : ℕ) × (from ≤ mid) × (next : Option ℕ)
    × LandsAt (any_in_order cmp) pairs position one step next
    × IsRefusedFor step one (MoveFails Why from mid one)
    × MakesMoves cmp Why pairs next mid moves steps to
MakesMoves cmp Why pairs position from moves steps to = ⊥

-- What a call does that makes moves of a walk over the view of a store at a sequence number, from
-- no position on: `given` are the steps that it adds, `by` says what tables are opened with.
pub record WalksStore {E F C FP : Type 0} (keys : CmpGhosts (InternalKeyCmp C)) (env : Ghosts E F)
    (by : TableOptions C FP) (value : OpenStoreValue C) (from : E)
    (tables : TableCache E C FP F) (sequence : ℕ) (moves : List Move) (given : List Step)
    (result : Result (Unit {0}) Status) (to : E) (left : TableCache E C FP F) : Type 0 where
  -- the moves are made in the view at that number of each history that memory and tables show from
  -- there on, or from a number before it; one fails for no fault of a table but that the format
  -- lacks a compressor
  pub walks : HasOpenTables keys env by value from tables → (meaning : Meaning)
      → Agrees by.format meaning → (history : History) (since : ℕ) → since ≤ sequence
      → HasView by.format.order meaning value (files_at env from) history since
      → OnOk result ((pairs : List Pair)
      × IsView by.format.order (entries_of history) sequence pairs
      × MakesMoves by.format.order (IsOfNoCompressor by.format meaning) pairs None
      (env.failures from) moves given (env.failures to))
  -- over whatever files, each move has a step, and one that failed a cause
  pub refused : OnOk result (Each (λ one step. IsRefusedFor step one
      (MoveFails (λ e. IsTableFault by.format e.code) (env.failures from) (env.failures to) one))
      moves given)
  -- no walk is made where there is no memory for it
  pub none : IfErr result (λ e. IsOutOfMemory e × (given ≡ []) × (to ≡ from) × (left ≡ tables))
  -- no file changes, nor does a lock, and no failure is forgotten
  pub kept : KeepsDisk env from to
  pub later : env.failures from ≤ env.failures to
  -- the open tables stay those of the store
  pub still_open : HasOpenTables keys env by value from tables
      → AreOpenTablesOf keys env by value.set (files_at env to) left

-- ---- over the merge of walks

-- children are merged to these pairs, in an exact order that accepts all keys
pub record IsMergeToView {E T I C : Type 0} (child : WalkGhosts I E T) (cmp : CmpGhosts C)
    (compares : C) (children : List I) (world : E × T) (order : KeyOrder) (below : List Pair)
    : Type 0 where
  pub lists : List (List Pair)
  pub merged : AreMerged child cmp world compares children (internal_order order) lists below
  -- pairs of equal key are the same pair
  pub one : HaveOnePairAKey (internal_order order) lists
  pub exact : IsExactOrder order.cmp
  pub accepts : (key : List ℕ) → order.accepts key ≡ true

-- A walk over the view at a sequence number of what these children are over.
pub record ViewsMerge {E T I C : Type 0} (child : WalkGhosts I E T) (cmp : CmpGhosts C)
    (walk : WalkGhosts (ViewWalk (MergeCore C I)) E T) (compares : C) (children : List I)
    (sequence : ℕ) (it : ViewWalk (MergeCore C I)) : Type 0 where
  -- it is over the view of the entries of the merge, at no position
  pub over : (world : E × T) (order : KeyOrder) (below : List Pair)
      → IsMergeToView child cmp compares children world order below
      → walk.is_at world it order (view_of sequence (entries_of_pairs below)) None
  -- and so at no pair
  pub none : walk.here it ≡ None
  -- what holds of walks holds of this one
  pub laws : WalkLaws walk.over walk.is_at walk.here walk.fails walk.keeps
  -- its errors are those of a child, of memory, and of pairs that are no entries or that differ
  -- though they have one key
  pub fails : (world later : E × T) (status : Status) → walk.fails world it later status
      → AnyFails child world children later status ⊎ IsOutOfMemory status
      ⊎ ((status.code ≡ Corruption) × ((order : KeyOrder) (below : List Pair)
      → IsMergeToView child cmp compares children world order below → ⊥))

-- ---- its children

-- a walk over the entries of a memtable, in the order of internal keys
pub record IsOverMemory {M : Type 0} (iterator : IteratorGhosts M)
    (cmp : List ℕ → List ℕ → Ordering) (it : InMemory M) (entries : List Entry) : Type 0 where
  pub pairs_are : iterator.pairs it.0 ≡ map internal_pair entries
  pub order_is : iterator.order it.0 ≡ internal_cmp cmp
  pub sorted : AreRising (internal_cmp cmp) (map internal_pair entries)
  pub numbered : AreUpTo greatest_sequence entries

-- the entries of the immutable memtable as a layer, if there is one
abbrev pub imm_layers : Option Kept → List (List Entry)
imm_layers None = []
imm_layers (Some imm) = imm.entries ∷ []

-- walks over what is in memory of a store, and then over the tables of its version
pub record AreChildrenOf {C M : Type 0} (iterator : IteratorGhosts M)
    (cmp : List ℕ → List ℕ → Ordering) (value : OpenStoreValue C) (children : List (StoreWalk C M))
    : Type 0 where
  -- over the log's memtable, and over the immutable one
  pub memory : List (InMemory M)
  pub over_memory : Each (IsOverMemory iterator cmp) memory
      (value.mem.entries ∷ imm_layers value.imm)
  -- over the tables
  pub tables : List (VersionIter C)
  pub over_tables : AreVersionIters value.current tables
  pub are : children ≡ map Memory memory ++ map Tables tables
