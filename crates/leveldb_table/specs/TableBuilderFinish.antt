-- How the last of a table is put, why a table wasn't finished, and what an error leaves in the
-- sink: a prefix of what would be there.
use Rattle.std.specs.Prelude.{◌≡◌, ◌≢◌, ◌⊎◌, ℕ, ◌+◌, true, false, List, [], ◌∷◌, ◌++◌, length, None, Result, Ok, IsErrAnd}
use Rattle.std.specs.declared.cmp.Ordering.{Ordering}
use Rattle.leveldb_base.specs.Cmp.{bytewise}
use Rattle.leveldb_base.specs.BlockHandle.{Handle, handle_bytes}
use Rattle.leveldb_base.specs.Error.{IsOutOfMemory}
use Rattle.leveldb_base.specs.Types.{Pair}
use Rattle.leveldb_base.specs.declared.cmp.Cmp.{Ghosts as CmpGhosts}
use Rattle.leveldb_base.specs.declared.error.Status.{Status}
use Rattle.leveldb_env.specs.Compressor.{Codings, Decodes, IsUnset}
use Rattle.leveldb_env.specs.FilterBlock.{IsFilterBlock, IsFilterNotMade, finished}
use Rattle.leveldb_env.specs.declared.filter.FilterPolicy.{Ghosts as PolicyGhosts}
use Rattle.leveldb_table.specs.BlockBuilder.{IsMade}
use Rattle.leveldb_table.specs.Footer.{footer_bytes}
use Rattle.leveldb_table.specs.Table.{with_trailer, filter_key}
use Rattle.leveldb_table.specs.PutBlock.{PutsBlock, IsPutError, IsNoMetaindex, StopsFrom, StopsAtFooter}
use Rattle.leveldb_table.specs.TableBuilderStage.{Stage}
use Rattle.leveldb_table.specs.TableBuilder.{TableBuilt, stage, last_of, order_of, policy_of, IsBegun, IsBroken, IsBuiltTable, IsEnd, FinishesTable, PutsEnd}
use Rattle.leveldb_table.specs.TableBuilderAdd.{ClosesOpen, IsNotClosed}

-- The filters of a stage whose blocks are all closed weren't made, or they weren't put after the
-- data blocks; or they were, and then came what is said of their handle, their end and the sink.
abbrev pub StopsAtFilters : {FP : Type 0} → (List (List ℕ) → Type 0) → (List (List ℕ) → List ℕ)
    → Stage FP
    → {S : Type 0} → (S → List ℕ → Result (Unit {0}) Status → S → Type 0)
    → (Handle → ℕ → S → Status → S → Type 0) → S → Status → S → Type 0
StopsAtFilters too_large make last {S} puts Rest from status to =
    ((to ≡ from) × IsFilterNotMade too_large make last.filter.filters last.filter.keys status)
    ⊎ ((filters : List ℕ)
    × IsFilterBlock filters (finished make last.filter.filters last.filter.keys)
    × (IsPutError puts (with_trailer 0 filters) (last.offset + length filters + 5) from status to
    ⊎ ((handle : Handle) × (end : ℕ) × (mid : S)
    × PutsBlock puts 0 filters from last.offset handle end mid × Rest handle end mid status to)))

-- Under an id without a compressor no more than the filters was put: there is no metaindex, or it
-- can't be stored.
abbrev pub StopsUnset : {FP : Type 0} → (List (List ℕ) → Type 0) → (List (List ℕ) → List ℕ) → ℕ
    → List ℕ → Stage FP
    → {S : Type 0} → (S → List ℕ → Result (Unit {0}) Status → S → Type 0) → S → Status → S → Type 0
StopsUnset too_large make id name last puts from status to =
    StopsAtFilters too_large make last puts (λ filters end from status to. (to ≡ from)
    × (IsNoMetaindex name filters status ⊎ IsUnset id status)) from status to

-- Where the putting of what follows the data blocks stopped, and why, at a stage whose blocks are
-- all closed.
module _ {FP : Type 0} (codings : Codings) (cmp : List ℕ → List ℕ → Ordering)
    (too_large : List (List ℕ) → Type 0) (make : List (List ℕ) → List ℕ)
    (id : ℕ) (name : List ℕ) (last : Stage FP)
    {S : Type 0} (puts : S → List ℕ → Result (Unit {0}) Status → S → Type 0)
    (flushes : S → Result (Unit {0}) Status → S → Type 0) where
  -- The index wasn't made out of memory, or it wasn't put; or it was, and the footer wasn't. The
  -- metaindex has this handle.
  abbrev pub StopsFromIndex : Handle → ℕ → S → Status → S → Type 0
  StopsFromIndex meta offset from status to =
      ((to ≡ from) × IsOutOfMemory status)
      ⊎ ((text : List ℕ) × IsMade cmp last.index_interval last.lines text
      × StopsFrom puts codings id text offset
      (λ index. StopsAtFooter puts flushes (footer_bytes meta index)) from status to)

  -- The metaindex wasn't made or wasn't put; or it was, and what follows it wasn't. The filters
  -- have this handle.
  abbrev pub StopsFromMetaindex : Handle → ℕ → S → Status → S → Type 0
  StopsFromMetaindex filters offset from status to =
      ((to ≡ from) × IsNoMetaindex name filters status)
      ⊎ ((text : List ℕ)
      × IsMade bytewise last.index_interval ((filter_key name, handle_bytes filters) ∷ []) text
      × StopsFrom puts codings id text offset StopsFromIndex from status to)

  -- The filters weren't made or weren't put; or they were, and what follows them wasn't.
  abbrev pub StopsFromFilters : S → Status → S → Type 0
  StopsFromFilters from status to =
      StopsAtFilters too_large make last puts StopsFromMetaindex from status to

module _ {C FP : Type 0} (order : CmpGhosts C) (policy : PolicyGhosts FP) (codings : Codings)
    (core : TableBuilt C FP) where
  -- The rest of a table: the open block as it is closed, where there is one, and after it the
  -- filters, the metaindex, the index and the footer.
  pub record IsRest (bytes : List ℕ) : Type 0 where
    pub last : Stage FP
    pub closed : List ℕ
    pub closes : (((stage core).open_pairs ≡ []) × (last ≡ stage core) × (closed ≡ []))
        ⊎ (((stage core).open_pairs ≢ []) × ClosesOpen order policy codings core
        (order.short_succ core.block.cmp (last_of core)) closed last)
    pub ended : List ℕ
    pub size : ℕ
    pub ends : IsEnd (Decodes codings) (order.cmp core.block.cmp)
        (policy.filter_for core.filter.policy) core.compressor (policy.name core.filter.policy)
        last ended size
    pub joined : bytes ≡ closed ++ ended

  -- after what was put before, the rest makes the table of the pairs that were added
  abbrev pub RestMakesTable : Type 0
  RestMakesTable = core.broken ≡ false → (written bytes : List ℕ) (pairs : List Pair)
      → IsBegun codings order policy core written pairs → IsRest bytes
      → IsBuiltTable codings (order.accepts (order_of core)) (order.cmp (order_of core))
      (order.shortest_sep (order_of core)) (order.short_succ (order_of core))
      (policy.matches (policy_of core)) (policy.filter_for (policy_of core)) core.compressor
      (policy.name (policy_of core)) core.block.interval core.index.interval (written ++ bytes)
      pairs

module _ {C FP : Type 0} (order : CmpGhosts C) (policy : PolicyGhosts FP) (codings : Codings)
    (core : TableBuilt C FP)
    {S : Type 0} (puts : S → List ℕ → Result (Unit {0}) Status → S → Type 0) where
  -- no block is open; or the open one is closed before the successor of its last key, in one put
  abbrev pub ClosesRest : Stage FP → S → S → Type 0
  ClosesRest last from to =
      (((stage core).open_pairs ≡ []) × (last ≡ stage core) × (to ≡ from))
      ⊎ (((stage core).open_pairs ≢ []) × (bytes : List ℕ) × puts from bytes (Ok tt) to
      × ClosesOpen order policy codings core (order.short_succ core.block.cmp (last_of core)) bytes
      last)

  -- there is an open block, and it wasn't closed so
  abbrev pub IsLeftOpen : S → Status → S → Type 0
  IsLeftOpen from status to =
      ((stage core).open_pairs ≢ []) × IsNotClosed order policy codings core puts
      (order.short_succ core.block.cmp (last_of core)) from status to

  -- Why a table wasn't finished: its builder was broken; or the open block wasn't closed; or no
  -- block was left open, and what follows the data blocks wasn't put.
  abbrev pub IsFinishError : (S → Result (Unit {0}) Status → S → Type 0) → S → Status → S → Type 0
  IsFinishError flushes from status to =
      ((core.broken ≡ true) × IsBroken status × (to ≡ from))
      ⊎ ((core.broken ≡ false) × IsLeftOpen from status to)
      ⊎ ((core.broken ≡ false) × (last : Stage FP) × (mid : S) × ClosesRest last from mid
      × StopsFromFilters codings (order.cmp core.block.cmp) (policy.too_large core.filter.policy)
      (policy.filter_for core.filter.policy) core.compressor
      (policy.name core.filter.policy) last puts flushes mid status to)

  -- What finishing comes to where no table can be made: a broken builder puts nothing; under an id
  -- without a compressor an open block isn't closed, and without one at most the filters are put.
  pub record CannotFinish (from : S) (result : Result ℕ Status) (to : S) : Type 0 where
    pub broken : core.broken ≡ true → IsErrAnd result IsBroken × (to ≡ from)
    pub unset : core.broken ≡ false → (stage core).open_pairs ≢ [] → codings core.compressor ≡ None
        → IsErrAnd result (λ status. IsUnset core.compressor status ⊎ IsOutOfMemory status)
        × (to ≡ from)
    pub unset_rest : core.broken ≡ false → (stage core).open_pairs ≡ []
        → codings core.compressor ≡ None
        → IsErrAnd result (λ status. StopsUnset (policy.too_large core.filter.policy)
        (policy.filter_for core.filter.policy) core.compressor (policy.name core.filter.policy)
        (stage core) puts from status to)

module _ {C FP : Type 0} (order : CmpGhosts C) (policy : PolicyGhosts FP) (codings : Codings)
    (core : TableBuilt C FP)
    {S : Type 0} (puts : S → List ℕ → Result (Unit {0}) Status → S → Type 0)
    (flushes : S → Result (Unit {0}) Status → S → Type 0) where
  -- The table was finished by these puts and no others: one of the open block, where there is one,
  -- one each of the filters, the metaindex and the index, and one of the footer. Then the sink was
  -- flushed.
  pub record PutsRest (from : S) (size : ℕ) (to : S) : Type 0 where
    pub last : Stage FP
    pub mid : S
    pub closed : ClosesRest order policy codings core puts last from mid
    pub ended : PutsEnd puts flushes (Decodes codings) (order.cmp core.block.cmp)
        (policy.filter_for core.filter.policy) core.compressor (policy.name core.filter.policy) last
        mid size to

  -- the table was finished: it is the one of the pairs that were added, by these puts
  pub record IsFinished (from : S) (size : ℕ) (to : S) : Type 0 where
    pub finishes : FinishesTable puts flushes
        (IsBegun codings order policy core)
        (IsBuiltTable codings (order.accepts (order_of core)) (order.cmp (order_of core))
        (order.shortest_sep (order_of core)) (order.short_succ (order_of core))
        (policy.matches (policy_of core)) (policy.filter_for (policy_of core)) core.compressor
        (policy.name (policy_of core)) core.block.interval core.index.interval) from size to
    pub pieces : PutsRest from size to
    pub unbroken : core.broken ≡ false
