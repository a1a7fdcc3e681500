-- An error of a table builder: puts, and then a cause of its own, or one that failed or a flush
-- that did.
use Rattle.std.proofs.Common.{◌≡◌, ◌≢◌, ◌⊎◌, ◌∙◌, inl, inr, ⊎_elim, ℕ, ◌+◌, List, [], ◌++◌, length, Result, Ok, Err, refl, subst, sym}
use Rattle.leveldb_base.specs.BlockHandle.{Handle}
use Rattle.leveldb_base.specs.Types.{Pair}
use Rattle.leveldb_base.specs.declared.cmp.Cmp.{Ghosts as CmpGhosts}
use Rattle.leveldb_base.specs.declared.error.Status.{Status}
use Rattle.leveldb_env.proofs.SinkLemmas.{PutsAll-none, PutsAll-one, PutsAll-trans}
use Rattle.leveldb_env.specs.Compressor.{Codings}
use Rattle.leveldb_env.specs.Sink.{PutsAll}
use Rattle.leveldb_env.specs.declared.filter.FilterPolicy.{Ghosts as FilterGhosts}
use Rattle.leveldb_table.specs.Footer.{footer_bytes}
use Rattle.leveldb_table.specs.PutBlock.{IsNotPut, IsPutError, PutsBlock, StopsAtFooter, StopsFrom}
use Rattle.leveldb_table.specs.Table.{with_trailer}
use Rattle.leveldb_table.specs.TableBuilder.{TableBuilt}
use Rattle.leveldb_table.specs.TableBuilderAdd.{IsAddError, IsNotClosed}
use Rattle.leveldb_table.specs.TableBuilderFinish.{IsFinishError, StopsFromFilters, StopsFromIndex, StopsFromMetaindex}
use Rattle.leveldb_table.specs.TableBuilderStage.{Stage}
use Rattle.leveldb_store.specs.Tables.BuildTable.{flushes_all, puts_all}
use Rattle.leveldb_store.specs.Tables.TableFile.{IsAddFault, IsFinishFault}

-- a block that a sink takes which takes all
pub put_all : {S : Type 0} {puts : S → List ℕ → Result (Unit {0}) Status → S → Type 0} {id : ℕ}
    {stored : List ℕ} {from to : S} {offset : ℕ} {handle : Handle} {end : ℕ} (written : List ℕ)
    → PutsBlock puts id stored from offset handle end to
    → PutsBlock puts_all id stored written offset handle end (written ++ with_trailer id stored)
put_all written block = record {
  put = (refl, refl);
  begins = block.begins;
  size = block.size;
  fits = block.fits;
  ends = block.ends;
}

module _ {S : Type 0} (puts : S → List ℕ → Result (Unit {0}) Status → S → Type 0)
    (flushes : S → Result (Unit {0}) Status → S → Type 0) (status : Status) where
  -- of some bytes all were put, and then a put failed or a flush
  pub record FailsAfter (from to : S) : Type 0 where
    pub bytes : List ℕ
    pub mid : S
    pub put : PutsAll puts from bytes mid
    pub failed : ((more : List ℕ) × puts mid more (Err status) to) ⊎ flushes mid (Err status) to

  -- some bytes were put, and then this stopped it; or a put failed, or a flush
  abbrev pub Stops : Type 0 → S → S → Type 0
  Stops Own from to = (Own × (bytes : List ℕ) × PutsAll puts from bytes to) ⊎ FailsAfter from to

  own_stops : {Own : Type 0} {from to : S} → to ≡ from → Own → Stops Own from to
  own_stops {Own} {from} same own = subst (Stops Own from) (sym same)
      (inl (own, [], PutsAll-none puts from))

  put_stops : {Own : Type 0} {from to : S} {bytes : List ℕ} → puts from bytes (Err status) to
      → Stops Own from to
  put_stops {from = from} {bytes = bytes} failed = inr (record {
    bytes = [];
    mid = from;
    put = PutsAll-none puts from;
    failed = inl (bytes, failed);
  })

  flush_stops : {Own : Type 0} {from to : S} → flushes from (Err status) to → Stops Own from to
  flush_stops {from = from} failed = inr (record {
    bytes = [];
    mid = from;
    put = PutsAll-none puts from;
    failed = inr failed;
  })

  -- after a put
  after_put : {Own : Type 0} {from mid to : S} {bytes : List ℕ} → puts from bytes (Ok tt) mid
      → Stops Own mid to → Stops Own from to
  after_put put (inl own) = inl (own.0, _, PutsAll-trans puts (PutsAll-one puts put) own.2)
  after_put put (inr fails) = inr (record {
    bytes = _;
    mid = fails.mid;
    put = PutsAll-trans puts (PutsAll-one puts put) fails.put;
    failed = fails.failed;
  })

  -- for a cause in other words
  stops_so : {Own Other : Type 0} {from to : S} → (Own → Other) → Stops Own from to
      → Stops Other from to
  stops_so so (inl own) = inl (so own.0, own.1, own.2)
  stops_so so (inr fails) = inr fails

  -- whatever was put before, a sink that takes all is left so
  abbrev Faults : (List ℕ → Status → List ℕ → Type 0) → Type 0
  Faults Error = (written : List ℕ) → (to : List ℕ) × Error written status to

  put_error : (bytes : List ℕ) (count : ℕ) (from to : S)
      → IsPutError puts bytes count from status to
      → Stops (Faults (IsPutError puts_all bytes count)) from to
  put_error bytes count from to (inl (fits, failed)) = put_stops failed
  put_error bytes count from to (inr (same, why)) =
      own_stops same (λ written. (written, inr (refl, why)))

  module _ (codings : Codings) where
    not_put : (id : ℕ) (text : List ℕ) (offset : ℕ) (from to : S)
        → IsNotPut puts codings id text offset from status to
        → Stops (Faults (IsNotPut puts_all codings id text offset)) from to
    not_put id text offset from to (inl unset) =
        own_stops unset.0 (λ written. (written, inl (refl, unset.1, unset.2)))
    not_put id text offset from to (inr (inl (same, why))) =
        own_stops same (λ written. (written, inr (inl (refl, why))))
    not_put id text offset from to (inr (inr (stored, decoded, put))) =
        stops_so (λ own written. let is = own written in
        (is.0, inr (inr (stored, decoded, is.1)))) (put_error _ _ from to put)

    stops_from : (id : ℕ) (text : List ℕ) (offset : ℕ)
        (Rest : Handle → ℕ → S → Status → S → Type 0)
        (Fault : Handle → ℕ → List ℕ → Status → List ℕ → Type 0)
        → ((handle : Handle) (end : ℕ) (mid to : S) → Rest handle end mid status to
        → Stops (Faults (Fault handle end)) mid to)
        → (from to : S) → StopsFrom puts codings id text offset Rest from status to
        → Stops (Faults (StopsFrom puts_all codings id text offset Fault)) from to
    stops_from id text offset Rest Fault so from to (inl not) =
        stops_so (λ own written. let is = own written in (is.0, inl is.1))
        (not_put id text offset from to not)
    stops_from id text offset Rest Fault so from to
        (inr (stored, decoded, handle, end, mid, block, rest)) =
        after_put block.put (stops_so (λ own written.
        let next = written ++ with_trailer id stored in let is = own next in
        (is.0, inr (stored, decoded, handle, end, next, put_all written block, is.1)))
        (so handle end mid to rest))

    at_footer : (bytes : List ℕ) (offset : ℕ) (from to : S)
        → StopsAtFooter puts flushes bytes offset from status to
        → Stops (Faults (StopsAtFooter puts_all flushes_all bytes offset)) from to
    at_footer bytes offset from to (inl long) =
        own_stops long.0 (λ written. (written, inl (refl, long.1)))
    at_footer bytes offset from to (inr (inl failed)) = put_stops failed
    at_footer bytes offset from to (inr (inr (mid, put, flushed))) =
        after_put put (flush_stops flushed)

    module _ {C FP : Type 0} (order : CmpGhosts C) (filters : FilterGhosts FP)
        (core : TableBuilt C FP) where
      not_closed : (next : List ℕ) (from to : S)
          → IsNotClosed order filters codings core puts next from status to
          → Stops (Faults (IsNotClosed order filters codings core puts_all next)) from to
      not_closed next from to (inl (same, memory)) =
          own_stops same (λ written. (written, inl (refl, memory)))
      not_closed next from to (inr (inl (text, made, put))) =
          stops_so (λ own written. let is = own written in (is.0, inr (inl (text, made, is.1))))
          (not_put core.compressor text core.offset from to put)
      not_closed next from to (inr (inr (handle, (stored, is, end, block), lined))) =
          after_put block.put (own_stops refl (λ written. (
            written ++ with_trailer core.compressor stored,
            inr (inr (handle, (stored, is, end, put_all written block), lined)),
          )))

      -- a pair wasn't added
      pub add_stops : (pair : Pair) (from to : S)
          → IsAddError order filters codings core puts pair from status to
          → Stops (IsAddFault order filters codings core pair status) from to
      add_stops pair from to (inl (broke, is, same)) =
          own_stops same (λ written. (written, inl (broke, is, refl)))
      add_stops pair from to (inr (usable, inl (room, same, why))) =
          own_stops same (λ written. (written, inr (usable, inl (room, refl, why))))
      add_stops pair from to (inr (usable, inr (inl (full, closed)))) =
          stops_so (λ own written. let is = own written in
          (is.0, inr (usable, inr (inl (full, is.1))))) (not_closed pair.0 from to closed)
      add_stops pair from to (inr (usable, inr (inr (full, handle, (stored, is, end, block), why)))) =
          after_put block.put (own_stops refl (λ written. (
            written ++ with_trailer core.compressor stored,
            inr (usable, inr (inr (full, handle, (stored, is, end, put_all written block), why))),
          )))

      -- what follows the data blocks wasn't put
      module _ (last : Stage FP) where
        abbrev FromIndex : {T : Type 0} → (T → List ℕ → Result (Unit {0}) Status → T → Type 0)
            → (T → Result (Unit {0}) Status → T → Type 0) → Handle → ℕ → T → Status → T → Type 0
        FromIndex some_puts some_flushes = StopsFromIndex codings (order.cmp core.block.cmp)
            (filters.too_large core.filter.policy) (filters.filter_for core.filter.policy)
            core.compressor (filters.name core.filter.policy) last some_puts some_flushes

        abbrev FromMetaindex : {T : Type 0} → (T → List ℕ → Result (Unit {0}) Status → T → Type 0)
            → (T → Result (Unit {0}) Status → T → Type 0) → Handle → ℕ → T → Status → T → Type 0
        FromMetaindex some_puts some_flushes = StopsFromMetaindex codings
            (order.cmp core.block.cmp) (filters.too_large core.filter.policy)
            (filters.filter_for core.filter.policy) core.compressor
            (filters.name core.filter.policy) last some_puts some_flushes

        abbrev FromFilters : {T : Type 0} → (T → List ℕ → Result (Unit {0}) Status → T → Type 0)
            → (T → Result (Unit {0}) Status → T → Type 0) → T → Status → T → Type 0
        FromFilters some_puts some_flushes = StopsFromFilters codings
            (order.cmp core.block.cmp) (filters.too_large core.filter.policy)
            (filters.filter_for core.filter.policy) core.compressor
            (filters.name core.filter.policy) last some_puts some_flushes

        at_index : (meta : Handle) (end : ℕ) (from to : S)
            → FromIndex puts flushes meta end from status to
            → Stops (Faults (FromIndex puts_all flushes_all meta end)) from to
        at_index meta end from to (inl (same, memory)) =
            own_stops same (λ written. (written, inl (refl, memory)))
        at_index meta end from to (inr (text, made, stops)) =
            stops_so (λ own written. let is = own written in (is.0, inr (text, made, is.1)))
            (stops_from core.compressor text end
            (λ index. StopsAtFooter puts flushes (footer_bytes meta index))
            (λ index. StopsAtFooter puts_all flushes_all (footer_bytes meta index))
            (λ index offset mid then footer.
            at_footer (footer_bytes meta index) offset mid then footer) from to stops)

        at_metaindex : (handle : Handle) (end : ℕ) (from to : S)
            → FromMetaindex puts flushes handle end from status to
            → Stops (Faults (FromMetaindex puts_all flushes_all handle end)) from to
        at_metaindex handle end from to (inl (same, none)) =
            own_stops same (λ written. (written, inl (refl, none)))
        at_metaindex handle end from to (inr (text, made, stops)) =
            stops_so (λ own written. let is = own written in (is.0, inr (text, made, is.1)))
            (stops_from core.compressor text end (FromIndex puts flushes)
            (FromIndex puts_all flushes_all) at_index from to stops)

        at_filters : (from to : S) → FromFilters puts flushes from status to
            → Stops (Faults (FromFilters puts_all flushes_all)) from to
        at_filters from to (inl (same, unmade)) =
            own_stops same (λ written. (written, inl (refl, unmade)))
        at_filters from to (inr (text, is, inl failed)) =
            stops_so (λ own written. let fault = own written in
            (fault.0, inr (text, is, inl fault.1))) (put_error _ _ from to failed)
        at_filters from to (inr (text, is, inr (handle, end, mid, block, rest))) =
            after_put block.put (stops_so (λ own written.
            let next = written ++ with_trailer 0 text in let fault = own next in
            (fault.0, inr (text, is, inr (handle, end, next, put_all written block, fault.1))))
            (at_metaindex handle end mid to rest))

      -- a table wasn't finished
      pub finish_stops : (from to : S)
          → IsFinishError order filters codings core puts flushes from status to
          → Stops (IsFinishFault order filters codings core status) from to
      finish_stops from to (inl (broke, is, same)) =
          own_stops same (λ written. (written, inl (broke, is, refl)))
      finish_stops from to (inr (inl (usable, left))) =
          stops_so (λ own written. let is = own written in
          (is.0, inr (inl (usable, (left.0, is.1))))) (not_closed _ from to left.1)
      finish_stops from to (inr (inr (usable, last, mid, inl (none, is, same), stops))) =
          subst (λ s. Stops (IsFinishFault order filters codings core status) s to) same
          (stops_so (λ own written. let fault = own written in
          (fault.0, inr (inr (usable, last, written, inl (none, is, refl), fault.1))))
          (at_filters last mid to stops))
      finish_stops from to (inr (inr (usable, last, mid, inr (some, bytes, put, closes), stops))) =
          after_put put (stops_so (λ own written.
          let next = written ++ bytes in let fault = own next in (
            fault.0,
            inr (inr (
              usable,
              last,
              next,
              inr (some, bytes, (refl, refl), closes),
              fault.1,
            )),
          )) (at_filters last mid to stops))
