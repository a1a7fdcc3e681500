-- Why no table is built of pairs: three causes; and where a builder stopped.
use Rattle.std.specs.Prelude.{Contains, IsSomeAnd, IsTrue, slice_get}
use Rattle.std.proofs.Common.{◌≡◌, ◌⊎◌, ◌∙◌, inl, inr, ⊎_elim, ℕ, true, false, List, [], ◌∷◌, ◌++◌, length, take, Option, None, Some, Ok, Err, refl, sym, subst, arith}
use Rattle.std.proofs.lemmas.List.{take-append-le, take_all}
use Rattle.leveldb_base.specs.BlockHandle.{Handle}
use Rattle.leveldb_base.specs.Error.{IsOutOfMemory}
use Rattle.leveldb_base.specs.Types.{Pair}
use Rattle.leveldb_base.specs.declared.cmp.Cmp.{Ghosts as CmpGhosts}
use Rattle.leveldb_base.specs.declared.error.Status.{Status}
use Rattle.leveldb_base.specs.declared.error.StatusCode.TheVariants.{NotSupported}
use Rattle.leveldb_env.specs.Compressor.{Coding, Codings, IsEncodeError}
use Rattle.leveldb_env.specs.FilterBlock.{IsFilterNotMade}
use Rattle.leveldb_env.specs.declared.filter.FilterPolicy.{Ghosts as FilterGhosts}
use Rattle.leveldb_table.specs.Block.{BlockEntry}
use Rattle.leveldb_table.specs.Footer.{footer_bytes}
use Rattle.leveldb_table.specs.PutBlock.{IsNoMetaindex, IsNotPut, IsPutError, StopsAtFooter, StopsFrom}
use Rattle.leveldb_table.specs.TableBuilder.{IsNewBuilder, TableBuilt}
use Rattle.leveldb_table.specs.TableBuilderAdd.{IsAddError, IsNotAdded, IsNotClosed, IsNotLined}
use Rattle.leveldb_table.specs.TableBuilderFinish.{IsFinishError, StopsFromFilters, StopsFromIndex}
use Rattle.leveldb_store.specs.Tables.BuildTable.{AreSomeNotBuilt, HasTaken, IsNotBuilt, TableChoices, flushes_all, puts_all}
use Rattle.leveldb_store.specs.Tables.TableFile.{IsAddFault, IsFinishFault}
use Rattle.leveldb_files.specs.Stores.Format.{HasCompressorError}

-- ---- three causes

module _ (codings : Codings) (status : Status) where
  -- out of memory, what isn't supported, or a compressor that is set
  abbrev Fault : Type 0
  Fault = IsOutOfMemory status ⊎ (status.code ≡ NotSupported)
      ⊎ ((id : ℕ) × (coding : Coding) × (codings id ≡ Some coding) × (block : List ℕ)
      × IsTrue (coding.encode_fails block status.code))

  memory_fault : IsOutOfMemory status → Fault
  memory_fault memory = inl memory

  unsupported_fault : status.code ≡ NotSupported → Fault
  unsupported_fault code = inr (inl code)

  set_fault : (id : ℕ) (block : List ℕ) (coding : Option Coding) → codings id ≡ coding
      → IsSomeAnd coding (λ c. IsEncodeError c block status) → Fault
  set_fault id block None is fails = absurd fails
  set_fault id block (Some coding) is fails = inr (inr (id, coding, is, block, fails))

  not_added_fault : (entries : List BlockEntry) (count : ℕ) (pair : Pair)
      → IsNotAdded entries count pair status → Fault
  not_added_fault entries count pair (inl memory) = memory_fault memory
  not_added_fault entries count pair (inr (inl long)) = unsupported_fault long.0
  not_added_fault entries count pair (inr (inr large)) = unsupported_fault large.0

  filter_fault : (too_large : List (List ℕ) → Type 0) (make : List (List ℕ)
      → List ℕ) (filters keys : List (List ℕ))
      → IsFilterNotMade too_large make filters keys status → Fault
  filter_fault too_large make filters keys (inl memory) = memory_fault memory
  filter_fault too_large make filters keys (inr large) = unsupported_fault large.0

  metaindex_fault : (name : List ℕ) (filters : Handle) → IsNoMetaindex name filters status → Fault
  metaindex_fault name filters (inl memory) = memory_fault memory
  metaindex_fault name filters (inr large) = unsupported_fault large.0

  put_fault : (bytes : List ℕ) (count : ℕ) (from to : List ℕ)
      → IsPutError puts_all bytes count from status to → Fault
  put_fault bytes count from to (inl (fits, failed)) =
      let never : Err status ≡ Ok tt = failed.0 in absurd (cc never)
  put_fault bytes count from to (inr (_, inl memory)) = memory_fault memory
  put_fault bytes count from to (inr (_, inr long)) = unsupported_fault long.0

  not_put_fault : (id : ℕ) (text : List ℕ) (offset : ℕ) (from to : List ℕ)
      → IsNotPut puts_all codings id text offset from status to → Fault
  not_put_fault id text offset from to (inl unset) = unsupported_fault unset.2.0
  not_put_fault id text offset from to (inr (inl (_, inl memory))) = memory_fault memory
  not_put_fault id text offset from to (inr (inl (_, inr fails))) =
      set_fault id text (codings id) refl fails
  not_put_fault id text offset from to (inr (inr put)) = put_fault _ _ from to put.2

  stops_fault : (id : ℕ) (text : List ℕ) (offset : ℕ) (Rest : Handle → ℕ → List ℕ → Status → List ℕ
      → Type 0)
      → ((handle : Handle) (end : ℕ) (mid to : List ℕ) → Rest handle end mid status to → Fault)
      → (from to : List ℕ) → StopsFrom puts_all codings id text offset Rest from status to
      → Fault
  stops_fault id text offset Rest so from to (inl not_put) =
      not_put_fault id text offset from to not_put
  stops_fault id text offset Rest so from to (inr later) = so later.2 later.3 later.4 to later.6

  footer_fault : (bytes : List ℕ) (offset : ℕ) (from to : List ℕ)
      → StopsAtFooter puts_all flushes_all bytes offset from status to → Fault
  footer_fault bytes offset from to (inl long) = unsupported_fault long.1.0
  footer_fault bytes offset from to (inr (inl failed)) =
      let never : Err status ≡ Ok tt = failed.0 in absurd (cc never)
  footer_fault bytes offset from to (inr (inr flushed)) =
      let never : Err status ≡ Ok tt = flushed.2.0 in absurd (cc never)

  module _ {C FP : Type 0} (order : CmpGhosts C) (filters : FilterGhosts FP) where
    lined_fault : (core : TableBuilt C FP) (next : List ℕ) (handle : Handle)
        → IsNotLined order filters codings core next handle status → Fault
    lined_fault core next handle (inl memory) = memory_fault memory
    lined_fault core next handle (inr (inl large)) = unsupported_fault large.0
    lined_fault core next handle (inr (inr due)) =
        filter_fault (filters.too_large core.filter.policy)
        (filters.filter_for core.filter.policy) core.filter.filters core.filter.keys due.1

    closed_fault : (core : TableBuilt C FP) (next : List ℕ) (from to : List ℕ)
        → IsNotClosed order filters codings core puts_all next from status to → Fault
    closed_fault core next from to (inl memory) = memory_fault memory.1
    closed_fault core next from to (inr (inl put)) =
        not_put_fault core.compressor put.0 core.offset from to put.2
    closed_fault core next from to (inr (inr lined)) = lined_fault core next lined.0 lined.2

    add_fault : (core : TableBuilt C FP) (pair : Pair) (from to : List ℕ)
        → core.broken ≡ false → IsAddError order filters codings core puts_all pair from status to → Fault
    add_fault core pair from to usable (inl broke) =
        let never : false ≡ true = sym usable ∙ broke.0 in absurd (cc never)
    add_fault core pair from to usable (inr (_, inl room)) = not_added_fault _ _ pair room.2
    add_fault core pair from to usable (inr (_, inr (inl closed))) =
        closed_fault core pair.0 from to closed.1
    add_fault core pair from to usable (inr (_, inr (inr next))) =
        not_added_fault [] core.count pair next.3

    finish_fault : (core : TableBuilt C FP) (from to : List ℕ) → core.broken ≡ false
        → IsFinishError order filters codings core puts_all flushes_all from status to → Fault
    finish_fault core from to usable (inl broke) =
        let never : false ≡ true = sym usable ∙ broke.0 in absurd (cc never)
    finish_fault core from to usable (inr (inl left)) = closed_fault core _ from to left.1.1
    finish_fault core from to usable (inr (inr (_, last, mid, _, stops))) = at_filters stops
      where
        at_index : (meta : Handle) (end : ℕ) (mid to : List ℕ)
            → StopsFromIndex codings (order.cmp core.block.cmp)
            (filters.too_large core.filter.policy) (filters.filter_for core.filter.policy)
            core.compressor (filters.name core.filter.policy) last puts_all
            flushes_all meta end mid status to → Fault
        at_index meta end mid to (inl memory) = memory_fault memory.1
        at_index meta end mid to (inr made) = stops_fault core.compressor made.0 end
            (λ index. StopsAtFooter puts_all flushes_all (footer_bytes meta index))
            (λ index offset at then footer.
            footer_fault (footer_bytes meta index) offset at then footer)
            mid to made.2

        at_filters : StopsFromFilters codings (order.cmp core.block.cmp)
            (filters.too_large core.filter.policy) (filters.filter_for core.filter.policy)
            core.compressor (filters.name core.filter.policy) last puts_all
            flushes_all mid status to → Fault
        at_filters (inl unmade) = filter_fault (filters.too_large core.filter.policy)
            (filters.filter_for core.filter.policy) last.filter.filters last.filter.keys unmade.1
        at_filters (inr (text, _, inl failed)) = put_fault _ _ mid to failed
        at_filters (inr (text, _, inr (handle, end, at, _, inl none))) =
            metaindex_fault _ handle none.1
        at_filters (inr (text, _, inr (handle, end, at, _, inr meta))) =
            stops_fault core.compressor meta.0 end
            (StopsFromIndex codings (order.cmp core.block.cmp)
            (filters.too_large core.filter.policy) (filters.filter_for core.filter.policy)
            core.compressor (filters.name core.filter.policy) last puts_all
            flushes_all) at_index at to meta.2

-- Memory is out; it isn't supported, as an entry, a filter or a count that is too large, or an id
-- without a compressor; or a compressor that is set fails for a block.
pub not_built_causes : {C FP : Type 0} {order : CmpGhosts C} {filters : FilterGhosts FP}
    (choices : TableChoices order filters) (pairs : List Pair) (status : Status)
    → IsNotBuilt choices pairs status
    → IsOutOfMemory status ⊎ (status.code ≡ NotSupported)
    ⊎ HasCompressorError choices.format status.code
not_built_causes choices pairs status (inl memory) = inl memory
not_built_causes {order = order} {filters = filters} choices pairs status
    (inr (core, new, stops)) = ⊎_elim (λ memory. inl memory)
    (λ other. inr (⊎_elim (λ code. inl code)
    (λ is. inr (record { id = is.0; coding = is.1; is_set = is.2; block = is.3; fails = is.4 }))
    other))
    (⊎_elim
    (λ at_pair. add_fault choices.format.codings status order filters at_pair.mid at_pair.pair
    at_pair.at at_pair.to at_pair.taken.unbroken at_pair.cause)
    (λ at_end. finish_fault choices.format.codings status order filters at_end.mid at_end.at at_end.to
    at_end.taken.unbroken at_end.cause) stops)

-- ---- where a builder stopped

-- the pairs that a builder took, and the next one
next_of : (pairs : List Pair) (pair : Pair)
    → slice_get (pairs ++ pair ∷ []) (length pairs) ≡ Some pair
next_of [] pair = refl
next_of (first ∷ pairs) pair = next_of pairs pair

taken_of : (pairs : List Pair) (pair : Pair) → take (length pairs) (pairs ++ pair ∷ []) ≡ pairs
taken_of pairs pair = take-append-le (length pairs) pairs (pair ∷ []) (omega arith)
    ∙ take_all (length pairs) pairs (omega arith)

module _ {C FP : Type 0} {order : CmpGhosts C} {filters : FilterGhosts FP}
    (choices : TableChoices order filters) {core mid : TableBuilt C FP} {written : List ℕ}
    {pairs : List Pair}
    (is_new : IsNewBuilder order filters choices.cmp choices.policy choices.id choices.block_size
    choices.restarts core)
    (taken : HasTaken order filters choices.format.codings puts_all core [] pairs mid written)
    {status : Status} where
  -- it doesn't take the next pair
  pub not_built_next : (pair : Pair)
      → IsAddFault order filters choices.format.codings mid pair status
      → IsNotBuilt choices (pairs ++ pair ∷ []) status
  not_built_next pair fault =
      let failed = fault written in
      inr (
        core,
        is_new,
        inl (record {
          count = length pairs;
          pair = pair;
          next = next_of pairs pair;
          mid = mid;
          at = written;
          taken = subst (λ ps. HasTaken order filters choices.format.codings puts_all core [] ps mid
              written) (sym (taken_of pairs pair)) taken;
          to = failed.0;
          cause = failed.1;
        }),
      )

  -- it doesn't finish
  pub not_built_end : IsFinishFault order filters choices.format.codings mid status
      → IsNotBuilt choices pairs status
  not_built_end fault =
      let failed = fault written in
      inr (
        core,
        is_new,
        inr (record {
          mid = mid;
          at = written;
          taken = taken;
          to = failed.0;
          cause = failed.1;
        }),
      )

-- of some of more pairs no table is built either
pub some_not_built : {C FP : Type 0} {order : CmpGhosts C} {filters : FilterGhosts FP}
    (choices : TableChoices order filters) {pairs more : List Pair} {status : Status}
    → ((pair : Pair) → Contains pairs pair → Contains more pair)
    → IsNotBuilt choices pairs status → AreSomeNotBuilt choices more status
some_not_built choices {pairs} among not =
    record { some = pairs; among = among; not_built = not }

pub more_not_built : {C FP : Type 0} {order : CmpGhosts C} {filters : FilterGhosts FP}
    (choices : TableChoices order filters) {pairs more : List Pair} {status : Status}
    → ((pair : Pair) → Contains pairs pair → Contains more pair)
    → AreSomeNotBuilt choices pairs status → AreSomeNotBuilt choices more status
more_not_built choices among not = record {
  some = not.some;
  among = λ pair there. among pair (not.among pair there);
  not_built = not.not_built;
}
