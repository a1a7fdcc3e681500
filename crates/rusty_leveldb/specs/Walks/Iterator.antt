-- Iterators over a store's view: over which pairs they are, what their moves do, and what a call
-- does that makes one.
use Rattle.std.specs.Prelude.{◌≡◌, ◌⊎◌, ℕ, true, false, List, [], ◌∷◌, Option, None, Some, Result, Ok, IfErr, IfOk, IsErrAnd, IsTrue, MatchResult, OnErr}
use Rattle.std.specs.Borrow.{MutBor}
use Rattle.std.specs.declared.cmp.Ordering.{Ordering}
use Rattle.leveldb_base.specs.History.{IsView, entries_of}
use Rattle.leveldb_base.specs.Types.{Pair, next_position, pair_at}
use Rattle.leveldb_base.specs.declared.cmp.Cmp.{Ghosts as CmpGhosts}
use Rattle.leveldb_base.specs.declared.error.Status.{Status}
use Rattle.leveldb_base.specs.declared.error.StatusCode.TheVariants.{InvalidArgument}
use Rattle.leveldb_env.specs.Compressor.{Codings}
use Rattle.leveldb_env.specs.Options.{Boxed, OptionsOf}
use Rattle.leveldb_env.specs.declared.compressor.CompressorList.{CompressorList}
use Rattle.leveldb_env.specs.declared.env.Env.{Ghosts}
use Rattle.leveldb_env.specs.declared.filter.FilterPolicy.{Ghosts as FilterGhosts}
use Rattle.leveldb_iter.specs.Walk.{WalkLaws}
use Rattle.leveldb_iter.specs.declared.walk.Walk.{Ghosts as WalkGhosts}
use Rattle.leveldb_files.specs.Stores.Format.{Format, IsTableFault, Meaning, format_of}
use Rattle.leveldb_version.specs.Walks.VersionIter.{KeepsReading}
use Rattle.leveldb_version.specs.declared.table_cache.TableCache.{TableCache}
use Rattle.leveldb_version.specs.declared.table_cache.moves.ReadTables.{ReadTables}
use Rattle.leveldb_store.specs.Keeping.OpenStore.{OpenStoreValue}
use Rattle.leveldb_store.specs.Reading.View.{FailsBetween, IsOfNoCompressor, IsReadingOf, IsWorldOf, ReadsAlone, ViewsStore, any_in_order, options_in}
use Rattle.rusty_leveldb.specs.Engines.Boxes.{EngineOf, InternalOrder}
use Rattle.rusty_leveldb.specs.Machines.Causes.{IsNotHeld}
use Rattle.rusty_leveldb.specs.Engines.Engine.{IsClosed, Recalls, WalkExcused, held_in, engine_options}
use Rattle.rusty_leveldb.specs.Machines.Machine.{IsSequenceOf}
use Rattle.rusty_leveldb.specs.Engines.Serves.{Represents}
use Rattle.rusty_leveldb.specs.Machines.State.{Snapshot, State}
use Rattle.rusty_leveldb.specs.declared.db_iter.StoreIterator.{StoreIterator}

-- to which position of pairs a move leads from one, in this order of keys
abbrev pub MoveRule : Type 0
MoveRule = (List ℕ → List ℕ → Ordering) → List Pair → Option ℕ → Option ℕ

-- no cause
abbrev pub no_cause : Status → Type 0
no_cause status = ⊥

-- the result of a move that can't fail
abbrev pub ok_move : Result (Unit {0}) Status
ok_move = Ok tt

module _ {E F C FP K V : Type 0} where
  -- what an iterator reads from: the environment, and a store's tables
  abbrev pub world_in : StoreIterator E C FP K V F → E × ReadTables E C FP K F
  world_in it = (it.env.now, it.tables)

  -- the pair that it is at
  abbrev pub pair_in : WalkGhosts V E (ReadTables E C FP K F)
      → StoreIterator E C FP K V F → Option Pair
  pair_in walk it = walk.here it.view

-- why a move fails from one iterator to the next: out of memory, at a failure that was counted, for
-- a cause of its own, or since a table can't be read, for this cause
abbrev pub IteratorFails : {E F C FP K V : Type 0} → Ghosts E F
    → (Status → Type 0) → (Status → Type 0) → StoreIterator E C FP K V F
    → StoreIterator E C FP K V F → Status → Type 0
IteratorFails env Own Unreadable old new =
    FailsBetween env (world_in old) (world_in new) (λ e. Own e ⊎ Unreadable e)

-- an open store whose history an iterator shows: the format of its tables, and what names and ids
-- in them mean
pub record ShownStore (C : Type 0) : Type 0 where
  pub value : OpenStoreValue C
  pub format : Format
  pub meaning : Meaning

-- the store of this value, with these
abbrev pub shown_store : {C : Type 0} → OpenStoreValue C → Format → Meaning → ShownStore C
shown_store value format meaning = record { value = value; format = format; meaning = meaning }

-- a move isn't supported in a store: the format lacks a compressor
abbrev pub IsUnsupportedIn : {C : Type 0} → ShownStore C → Status → Type 0
IsUnsupportedIn shown = IsOfNoCompressor shown.format shown.meaning

-- `cmp`, `filters` and `codings` say what comparators, filter policies and compressors mean, and
-- `walk` over which list a view is.
module _ {E F C FP K V : Type 0} (keys : InternalOrder C) (env : Ghosts E F) (cmp : CmpGhosts C)
    (filters : FilterGhosts FP) (codings : K → Codings)
    (walk : WalkGhosts V E (ReadTables E C FP K F)) where
  -- An iterator that reads tables of this format, whatever its files are.
  pub record IsIterator (format : Format) (it : StoreIterator E C FP K V F) : Type 0 where
    pub format_is : (options_in env cmp filters codings (world_in it)).format ≡ format
    -- a move fails out of memory, at a failure that is counted, or at a table that can't be read
    pub fails : (to : E × ReadTables E C FP K F) (status : Status)
        → walk.fails (world_in it) it.view to status
        → FailsBetween env (world_in it) to (λ e. IsTableFault format e.code) status
    -- its moves only read
    pub reads : ReadsAlone keys env cmp filters codings walk
    -- what holds of each walk holds of its view
    pub laws : WalkLaws walk.over walk.is_at walk.here walk.fails walk.keeps

  -- An iterator over these pairs of an open store, at this position of them.
  pub record IteratesAt (shown : ShownStore C) (pairs : List Pair) (position : Option ℕ)
      (it : StoreIterator E C FP K V F) : Type 0 where
    pub is_iterator : IsIterator shown.format it
    pub is_at : walk.is_at (world_in it) it.view (any_in_order shown.format.order) pairs position
    -- so the pair is the one at its position
    pub pair_is : pair_in walk it ≡ pair_at pairs position
    -- a move fails for no damage of a table, but may not be supported
    pub fails : (to : E × ReadTables E C FP K F) (status : Status)
        → walk.fails (world_in it) it.view to status
        → FailsBetween env (world_in it) to (IsUnsupportedIn shown) status
    -- the open tables are the store's
    pub has_open : IsWorldOf keys env cmp filters codings shown.value (world_in it)

  -- What a move of an iterator does that leads this way, and that may fail for a cause of its own.
  pub record MovesIterator {R : Type 0} (Own : Status → Type 0) (way : MoveRule)
      (old : StoreIterator E C FP K V F) (result : Result R Status)
      (new : StoreIterator E C FP K V F) : Type 0 where
    -- in a store's view it leads to this position; where it fails it leaves none
    pub moves : (shown : ShownStore C) (pairs : List Pair) (position : Option ℕ)
        → IteratesAt shown pairs position old → MatchResult result
        (λ _. IteratesAt shown pairs (way shown.format.order pairs position) new)
        (λ e. IteratesAt shown pairs None new
        × IteratorFails env Own (IsUnsupportedIn shown) old new e)
    -- over whatever files it stays an iterator, and an error has a cause
    pub stays : (format : Format) → IsIterator format old → IsIterator format new
        × IfErr result (IteratorFails env Own (λ e. IsTableFault format e.code) old new)
    -- no file changes, nor does a lock, no failure is forgotten, and the cache is the same borrow
    pub keeps : (format : Format) → IsIterator format old
        → KeepsReading keys env cmp filters codings (world_in old) (world_in new)
    -- after an error it is at no pair
    pub none : OnErr result (pair_in walk new ≡ None)
    -- the environment is the one that it borrowed
    pub reference : new.env.ghost_name ≡ old.env.ghost_name

  -- it is advanced, at these pairs one after another, until it is at none
  abbrev pub Scans : StoreIterator E C FP K V F → List Pair
      → StoreIterator E C FP K V F → Type 0
  Scans it [] end = MovesIterator no_cause (λ _. next_position) it (Ok false) end
      × (pair_in walk end ≡ None)
  Scans it (pair ∷ found) end = (next : StoreIterator E C FP K V F)
      × MovesIterator no_cause (λ _. next_position) it (Ok true) next
      × (pair_in walk next ≡ Some pair) × Scans next found end

  -- a scan from no position is at all pairs, in their order
  abbrev pub ScanGivesPairs : Type 0
  ScanGivesPairs = (shown : ShownStore C) (pairs found : List Pair)
      (it end : StoreIterator E C FP K V F)
      → IteratesAt shown pairs None it → Scans it found end → found ≡ pairs

-- ---- a call that makes one

-- An iterator that is made over an open store at a sequence number, beside borrows of the
-- environment and of the store's open tables, which are read with this policy and these
-- compressors.
pub record IsMadeOver {E F C FP K V : Type 0} (keys : InternalOrder C) (env : Ghosts E F)
    (cmp : CmpGhosts C) (filters : FilterGhosts FP) (codings : K → Codings)
    (walk : WalkGhosts V E (ReadTables E C FP K F)) (value : OpenStoreValue C) (policy : FP)
    (compressors : K) (environment : MutBor E) (tables : TableCache E C FP F)
    (sequence : ℕ) (it : StoreIterator E C FP K V F) : Type 0 where
  pub views : ViewsStore keys env cmp filters codings walk value sequence it.view
  pub reads : ReadsAlone keys env cmp filters codings walk
  pub reading : IsReadingOf value value.cmp policy compressors tables it.tables
  pub reference : it.env.ghost_name ≡ environment.ghost_name
  pub env_is : it.env.now ≡ environment.now

module _ {E C FP F V : Type 0} {B : Boxed} (keys : InternalOrder C) (env : Ghosts E F)
    (cmp : CmpGhosts C) (filters : FilterGhosts FP)
    (codings : CompressorList B.compressors B.compressor → Codings)
    (walk : WalkGhosts V E (ReadTables E C FP (CompressorList B.compressors B.compressor) F))
  where
    -- which format options have
    abbrev formats : OptionsOf C FP B → Format
    formats = format_of {B = B} cmp filters codings

    -- A call that makes an iterator over a store's view, now or at a snapshot.
    pub record EngineIterates (before : EngineOf E C FP F B) (from : E) (at : Option Snapshot)
        (result : Result
        (StoreIterator E C FP (CompressorList B.compressors B.compressor) V F) Status)
        : Type 0 where
      -- where the disk is observed, it is over the view of each state that the engine and the disk
      -- represent, at no position
      pub over : IfOk result (λ it. IsTrue env.models_disk → (store : List ℕ) (meaning : Meaning)
          (state : State)
          → Represents store meaning (Recalls keys env formats store meaning) (Some before)
          (env.observed from).disk state
          → (sequence : ℕ) × IsSequenceOf state at sequence × (pairs : List Pair)
          × IsView state.format.order (entries_of state.history) sequence pairs
          × IteratesAt keys env cmp filters codings walk
          (shown_store before.store state.format meaning) pairs None it)
      -- over whatever files it is an iterator, at no pair
      pub is : IfOk result (IsIterator keys env cmp filters codings walk
          (formats (engine_options before)))
      pub none : IfOk result (λ it. pair_in walk it ≡ None)
      -- the environment and the open tables are as before
      pub env_is : IfOk result (λ it. it.env.now ≡ from)
      pub tables_are : IfOk result (λ it. it.tables.cache.now ≡ before.tables)
      -- a closed store has none, nor has a snapshot that isn't held
      pub refused : IsClosed before.mode ⊎ IsNotHeld (held_in before) at
          → IsErrAnd result (λ e. e.code ≡ InvalidArgument)
      -- why there is none
      pub cause : IfErr result (WalkExcused before at)
