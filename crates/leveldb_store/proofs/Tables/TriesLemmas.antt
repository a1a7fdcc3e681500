-- What a table builder puts until a call of it fails: a prefix of what it leaves where it doesn't
-- finish its table, or of the rest of its table.
use Rattle.std.proofs.Common.{◌≡◌, ◌≢◌, ◌⊎◌, ◌∙◌, inl, inr, ⊎_elim, ℕ, ◌+◌, ◌<◌, ◌^◌, Bool, false, true, List, [], ◌∷◌, ◌++◌, length, Option, None, Some, Result, Ok, Err, refl, ap, subst, sym, append_assoc, arith}
use Rattle.std.proofs.lemmas.List.{append-nil}
use Rattle.leveldb_base.specs.BlockHandle.{Handle, handle_bytes}
use Rattle.leveldb_base.specs.Cmp.{bytewise}
use Rattle.leveldb_base.specs.Error.{IsOutOfMemory}
use Rattle.leveldb_base.specs.Types.{Pair}
use Rattle.leveldb_base.specs.declared.cmp.Cmp.{Ghosts as CmpGhosts}
use Rattle.leveldb_base.specs.declared.error.Status.{Status}
use Rattle.leveldb_base.specs.declared.error.StatusCode.TheVariants.{IOError, OutOfMemory}
use Rattle.leveldb_env.proofs.SinkLemmas.{PutsAll-none, PutsAll-one, PutsAll-trans}
use Rattle.leveldb_env.specs.Compressor.{Codings, Decodes}
use Rattle.leveldb_env.specs.FilterBlock.{IsFilterBlock, finished}
use Rattle.leveldb_env.specs.Sink.{PutsAll}
use Rattle.leveldb_env.specs.declared.filter.FilterPolicy.{Ghosts as FilterGhosts}
use Rattle.leveldb_table.specs.Block.{BlockEntry, pairs_of}
use Rattle.leveldb_table.specs.BlockBuilder.{IsMade}
use Rattle.leveldb_table.specs.Footer.{footer_bytes}
use Rattle.leveldb_table.specs.PutBlock.{IsNotPut, PutsBlock, StopsAtFooter}
use Rattle.leveldb_table.specs.Table.{filter_key, with_trailer}
use Rattle.leveldb_table.specs.TableBuilder.{IsEnd, IsPlaced, TableBuilt, last_of, stage}
use Rattle.leveldb_table.specs.TableBuilderAdd.{IsAddError, IsNotClosed, IsNotLined, IsStored, PutsOpen}
use Rattle.leveldb_table.specs.TableBuilderFinish.{ClosesRest, IsFinishError, IsRest, RestMakesTable, StopsFromFilters, StopsFromIndex, StopsFromMetaindex}
use Rattle.leveldb_table.specs.TableBuilderStage.{Stage}
use Rattle.leveldb_table.proofs.TableBuilderStageLemmas.{some_pairs}
use Rattle.leveldb_store.specs.Tables.BuildTable.{flushes_all, puts_all}
use Rattle.leveldb_store.specs.Tables.TableFile.{IsUnfinishedWith, MayPut}
use Rattle.leveldb_store.proofs.Tables.StopsLemmas.{put_all}

-- out of memory
abbrev no_memory : Status
no_memory = record { code = OutOfMemory; err = None }

memory_is_out : IsOutOfMemory no_memory
memory_is_out = (refl, refl)

-- ---- a prefix of what was to be put

module _ {S : Type 0} (puts : S → List ℕ → Result (Unit {0}) Status → S → Type 0)
    (flushes : S → Result (Unit {0}) Status → S → Type 0) (status : Status) where
  -- of these bytes a prefix was put, and then no more, or a put of what followed it failed, or a
  -- flush
  pub record PutsPrefix (whole : List ℕ) (from to : S) : Type 0 where
    pub done : List ℕ
    pub rest : List ℕ
    pub split : whole ≡ done ++ rest
    pub mid : S
    pub put : PutsAll puts from done mid
    pub after : (to ≡ mid)
        ⊎ ((more : List ℕ) × (left : List ℕ) × (rest ≡ more ++ left)
        × puts mid more (Err status) to)
        ⊎ flushes mid (Err status) to

  -- so it is of some bytes that may be put
  abbrev pub Leaves : (List ℕ → Type 0) → S → S → Type 0
  Leaves May from to = (bytes : List ℕ) × May bytes × PutsPrefix bytes from to

  leaves_still : {May : List ℕ → Type 0} {from to : S} (bytes : List ℕ) → to ≡ from → May bytes
      → Leaves May from to
  leaves_still {from = from} bytes same may = (
    bytes,
    may,
    record {
      done = [];
      rest = bytes;
      split = refl;
      mid = from;
      put = PutsAll-none puts from;
      after = inl same;
    },
  )

  leaves_put : {May : List ℕ → Type 0} {from to : S} (bytes left : List ℕ)
      → puts from bytes (Err status) to → May (bytes ++ left) → Leaves May from to
  leaves_put {from = from} bytes left failed may = (
    bytes ++ left,
    may,
    record {
      done = [];
      rest = bytes ++ left;
      split = refl;
      mid = from;
      put = PutsAll-none puts from;
      after = inr (inl (bytes, left, refl, failed));
    },
  )

  leaves_flush : {May : List ℕ → Type 0} {from to : S} → flushes from (Err status) to → May []
      → Leaves May from to
  leaves_flush {from = from} failed may = (
    [],
    may,
    record {
      done = [];
      rest = [];
      split = refl;
      mid = from;
      put = PutsAll-none puts from;
      after = inr (inr failed);
    },
  )

  -- after a put
  after_put : {Next May : List ℕ → Type 0} {from mid to : S} {bytes : List ℕ}
      → puts from bytes (Ok tt) mid → ((rest : List ℕ) → Next rest → May (bytes ++ rest))
      → Leaves Next mid to → Leaves May from to
  after_put {bytes = bytes} put so (rest, may, prefix) = (
    bytes ++ rest,
    so rest may,
    record {
      done = bytes ++ prefix.done;
      rest = prefix.rest;
      split = ap (λ b. bytes ++ b) prefix.split ∙ sym (append_assoc bytes prefix.done prefix.rest);
      mid = prefix.mid;
      put = PutsAll-trans puts (PutsAll-one puts put) prefix.put;
      after = prefix.after;
    },
  )

  leaves_so : {These Those : List ℕ → Type 0} {from to : S}
      → ((bytes : List ℕ) → These bytes → Those bytes) → Leaves These from to
      → Leaves Those from to
  leaves_so so (bytes, may, prefix) = (bytes, so bytes may, prefix)

-- ---- what is left where each put takes all

-- whatever was put before, it fails so with these bytes after it
abbrev FailsWith : (List ℕ → Status → List ℕ → Type 0) → List ℕ → Type 0
FailsWith Error bytes =
    (written : List ℕ) → (status : Status) × Error written status (written ++ bytes)

fails_still : (Error : List ℕ → Status → List ℕ → Type 0) (status : Status)
    → ((written : List ℕ) → Error written status written) → FailsWith Error []
fails_still Error status is written =
    (status, subst (Error written status) (sym (append-nil written)) (is written))

fails_one : (Error : List ℕ → Status → List ℕ → Type 0) (status : Status) (piece : List ℕ)
    → ((written : List ℕ) → Error written status (written ++ piece))
    → FailsWith Error (piece ++ [])
fails_one Error status piece is written = (
  status,
  subst (λ b. Error written status (written ++ b)) (sym (append-nil piece)) (is written),
)

fails_after : (Next Error : List ℕ → Status → List ℕ → Type 0) (piece bytes : List ℕ)
    → ((written : List ℕ) (status : Status) (to : List ℕ) → Next (written ++ piece) status to
    → Error written status to)
    → FailsWith Next bytes → FailsWith Error (piece ++ bytes)
fails_after Next Error piece bytes so next written =
    let is = next (written ++ piece) in (
      is.0,
      subst (Error written is.0) (append_assoc written piece bytes) (so written is.0 _ is.1),
    )

-- a block that fits
module _ (offset : ℕ) (stored : List ℕ) (fits : offset + length stored + 5 < 2 ^ 64) where
  abbrev placed_at : Handle
  placed_at = record { offset = offset; size = length stored }

  is_placed : IsPlaced offset stored placed_at
  is_placed =
      (refl, refl, record { offset = omega (arith, fits); size = omega (arith, fits) })

  is_put : (id : ℕ) (written : List ℕ) → PutsBlock puts_all id stored written offset placed_at
      (offset + length stored + 5) (written ++ with_trailer id stored)
  is_put id written = record {
    put = (refl, refl);
    begins = refl;
    size = refl;
    fits = is_placed.2;
    ends = refl;
  }

-- ---- what follows the data blocks

module _ {C FP : Type 0} (order : CmpGhosts C) (filters : FilterGhosts FP) (codings : Codings)
    (core : TableBuilt C FP) where
  module _ (last : Stage FP) where
    abbrev FromIndex : {T : Type 0} → (T → List ℕ → Result (Unit {0}) Status → T → Type 0)
        → (T → Result (Unit {0}) Status → T → Type 0) → Handle → ℕ → T → Status → T → Type 0
    FromIndex some_puts some_flushes = StopsFromIndex codings (order.cmp core.block.cmp)
        (filters.too_large core.filter.policy) (filters.filter_for core.filter.policy)
        core.compressor (filters.name core.filter.policy) last some_puts some_flushes

    abbrev FromMetaindex : {T : Type 0} → (T → List ℕ → Result (Unit {0}) Status → T → Type 0)
        → (T → Result (Unit {0}) Status → T → Type 0) → Handle → ℕ → T → Status → T → Type 0
    FromMetaindex some_puts some_flushes = StopsFromMetaindex codings
        (order.cmp core.block.cmp) (filters.too_large core.filter.policy)
        (filters.filter_for core.filter.policy) core.compressor
        (filters.name core.filter.policy) last some_puts some_flushes

    abbrev FromFilters : {T : Type 0} → (T → List ℕ → Result (Unit {0}) Status → T → Type 0)
        → (T → Result (Unit {0}) Status → T → Type 0) → T → Status → T → Type 0
    FromFilters some_puts some_flushes = StopsFromFilters codings
        (order.cmp core.block.cmp) (filters.too_large core.filter.policy)
        (filters.filter_for core.filter.policy) core.compressor
        (filters.name core.filter.policy) last some_puts some_flushes

    -- the index and the footer
    record IsIndexRest (meta : Handle) (offset : ℕ) (bytes : List ℕ) : Type 0 where
      pub text : List ℕ
      pub made : IsMade (order.cmp core.block.cmp) last.index_interval last.lines text
      pub stored : List ℕ
      pub decoded : Decodes codings core.compressor stored text
      pub index : Handle
      pub placed : IsPlaced offset stored index
      pub encoded : bytes ≡ with_trailer core.compressor stored ++ footer_bytes meta index

    -- and the metaindex before them
    record IsMetaRest (filter : Handle) (offset : ℕ) (bytes : List ℕ) : Type 0 where
      pub text : List ℕ
      pub made : IsMade bytewise last.index_interval
          ((filter_key (filters.name core.filter.policy), handle_bytes filter) ∷ []) text
      pub stored : List ℕ
      pub decoded : Decodes codings core.compressor stored text
      pub meta : Handle
      pub placed : IsPlaced offset stored meta
      pub others : List ℕ
      pub rest : IsIndexRest meta (offset + length stored + 5) others
      pub encoded : bytes ≡ with_trailer core.compressor stored ++ others

    -- and the filters before them
    abbrev IsEndRest : List ℕ → Type 0
    IsEndRest bytes = (size : ℕ) × IsEnd (Decodes codings) (order.cmp core.block.cmp)
        (filters.filter_for core.filter.policy) core.compressor (filters.name core.filter.policy)
        last bytes size

    end_is : (texts others : List ℕ) (filter : Handle) (end : ℕ)
        → IsFilterBlock texts (finished (filters.filter_for core.filter.policy)
        last.filter.filters last.filter.keys)
        → IsPlaced last.offset texts filter → end ≡ last.offset + length texts + 5
        → IsMetaRest filter end others → IsEndRest (with_trailer 0 texts ++ others)
    end_is texts others filter end block placed end_is_at meta =
        let index = meta.rest in (
          index.index.offset + index.index.size + 5 + 48,
          record {
            filters = texts;
            meta_text = meta.text;
            meta_stored = meta.stored;
            index_text = index.text;
            index_stored = index.stored;
            filter = filter;
            meta = meta.meta;
            index = index.index;
            filter_block = block;
            meta_made = meta.made;
            index_made = index.made;
            meta_decoded = meta.decoded;
            index_decoded = index.decoded;
            filter_placed = placed;
            meta_placed = (
              omega (arith, meta.placed.0, end_is_at, placed.0, placed.1),
              meta.placed.1,
              meta.placed.2,
            );
            index_placed = (
              omega (arith, index.placed.0, meta.placed.0, meta.placed.1),
              index.placed.1,
              index.placed.2,
            );
            encoded = ap (λ b. with_trailer 0 texts ++ b) (meta.encoded
                ∙ ap (λ b. with_trailer core.compressor meta.stored ++ b) index.encoded);
            ends = refl;
          },
        )

    -- what may be put where it stops
    abbrev MayIndex : Handle → ℕ → List ℕ → Type 0
    MayIndex meta offset bytes = FailsWith (FromIndex puts_all flushes_all meta offset) bytes
        ⊎ IsIndexRest meta offset bytes

    abbrev MayMetaindex : Handle → ℕ → List ℕ → Type 0
    MayMetaindex filter offset bytes =
        FailsWith (FromMetaindex puts_all flushes_all filter offset) bytes
        ⊎ IsMetaRest filter offset bytes

    abbrev MayFilters : List ℕ → Type 0
    MayFilters bytes =
        FailsWith (FromFilters puts_all flushes_all) bytes ⊎ IsEndRest bytes

    -- where it stops
    module _ {S : Type 0} (puts : S → List ℕ → Result (Unit {0}) Status → S → Type 0)
        (flushes : S → Result (Unit {0}) Status → S → Type 0) (status : Status) where
      at_footer : (bytes : List ℕ) (offset : ℕ) (from to : S)
          → StopsAtFooter puts flushes bytes offset from status to
          → Leaves puts flushes status (λ b. b ≡ bytes) from to
      at_footer bytes offset from to (inl long) = leaves_still puts flushes status bytes long.0 refl
      at_footer bytes offset from to (inr (inl failed)) =
          leaves_put puts flushes status bytes [] failed (append-nil bytes)
      at_footer bytes offset from to (inr (inr (mid, put, flushed))) =
          after_put puts flushes status {Next = λ b. b ≡ []} put
          (λ rest none. ap (λ b. bytes ++ b) none ∙ append-nil bytes)
          (leaves_flush puts flushes status flushed refl)

      -- a block that isn't put
      not_put : {May : List ℕ → Type 0} (block_id : ℕ) (text : List ℕ) (offset : ℕ) (from to : S)
          → (((written : List ℕ)
          → IsNotPut puts_all codings block_id text offset written status written) → May [])
          → ((stored : List ℕ) → Decodes codings block_id stored text
          → offset + length stored + 5 < 2 ^ 64
          → (left : List ℕ) × May (with_trailer block_id stored ++ left))
          → IsNotPut puts codings block_id text offset from status to
          → Leaves puts flushes status May from to
      not_put block_id text offset from to still some (inl unset) =
          leaves_still puts flushes status [] unset.0
          (still (λ written. inl (refl, unset.1, unset.2)))
      not_put block_id text offset from to still some (inr (inl (same, why))) =
          leaves_still puts flushes status [] same (still (λ written. inr (inl (refl, why))))
      not_put block_id text offset from to still some
          (inr (inr (stored, decoded, inl (fits, failed)))) =
          let left = some stored decoded fits in
          leaves_put puts flushes status (with_trailer block_id stored) left.0 failed left.1
      not_put block_id text offset from to still some
          (inr (inr (stored, decoded, inr (same, why)))) =
          leaves_still puts flushes status [] same
          (still (λ written. inr (inr (stored, decoded, inr (refl, why)))))

      at_index : (meta : Handle) (offset : ℕ) (from to : S)
          → FromIndex puts flushes meta offset from status to
          → Leaves puts flushes status (MayIndex meta offset) from to
      at_index meta offset from to (inl (same, memory)) = leaves_still puts flushes status [] same
          (inl (fails_still (FromIndex puts_all flushes_all meta offset) status
          (λ written. inl (refl, memory))))
      at_index meta offset from to (inr (text, made, inl not)) =
          not_put core.compressor text offset from to
          (λ still. inl (fails_still (FromIndex puts_all flushes_all meta offset) status
          (λ written. inr (text, made, inl (still written)))))
          (λ stored decoded fits. (
            footer_bytes meta (placed_at offset stored fits),
            inr (record {
              text = text;
              made = made;
              stored = stored;
              decoded = decoded;
              index = placed_at offset stored fits;
              placed = is_placed offset stored fits;
              encoded = refl;
            }),
          )) not
      at_index meta offset from to
          (inr (text, made, inr (stored, decoded, index, end, mid, block, footer))) =
          after_put puts flushes status {Next = λ b. b ≡ footer_bytes meta index} block.put
          (λ rest is. inr (record {
            text = text;
            made = made;
            stored = stored;
            decoded = decoded;
            index = index;
            placed = (block.begins, block.size, block.fits);
            encoded = ap (λ b. with_trailer core.compressor stored ++ b) is;
          }))
          (at_footer (footer_bytes meta index) end mid to footer)

      at_metaindex : (filter : Handle) (offset : ℕ) (from to : S)
          → FromMetaindex puts flushes filter offset from status to
          → Leaves puts flushes status (MayMetaindex filter offset) from to
      at_metaindex filter offset from to (inl (same, none)) =
          leaves_still puts flushes status [] same
          (inl (fails_still (FromMetaindex puts_all flushes_all filter offset) status
          (λ written. inl (refl, none))))
      at_metaindex filter offset from to (inr (text, made, inl not)) =
          not_put core.compressor text offset from to
          (λ still. inl (fails_still (FromMetaindex puts_all flushes_all filter offset) status
          (λ written. inr (text, made, inl (still written)))))
          (λ stored decoded fits. (
            [],
            inl (fails_one (FromMetaindex puts_all flushes_all filter offset) no_memory
                (with_trailer core.compressor stored) (λ written. inr (
                  text,
                  made,
                  inr (
                    stored,
                    decoded,
                    placed_at offset stored fits,
                    offset + length stored + 5,
                    written ++ with_trailer core.compressor stored,
                    is_put offset stored fits core.compressor written,
                    inl (refl, memory_is_out),
                  ),
                ))),
          )) not
      at_metaindex filter offset from to
          (inr (text, made, inr (stored, decoded, meta, end, mid, block, index))) =
          after_put puts flushes status {Next = MayIndex meta end} block.put
          (λ rest. ⊎_elim
          (λ (fails : FailsWith (FromIndex puts_all flushes_all meta end) rest).
          inl (fails_after (FromIndex puts_all flushes_all meta end)
          (FromMetaindex puts_all flushes_all filter offset) (with_trailer core.compressor stored)
          rest (λ written why then failed. inr (
            text,
            made,
            inr (
              stored,
              decoded,
              meta,
              end,
              written ++ with_trailer core.compressor stored,
              put_all written block,
              failed,
            ),
          )) fails))
          (λ (is : IsIndexRest meta end rest). inr (record {
            text = text;
            made = made;
            stored = stored;
            decoded = decoded;
            meta = meta;
            placed = (block.begins, block.size, block.fits);
            others = rest;
            rest = subst (λ n. IsIndexRest meta n rest) block.ends is;
            encoded = refl;
          })))
          (at_index meta end mid to index)

      at_filters : (from to : S) → FromFilters puts flushes from status to
          → Leaves puts flushes status MayFilters from to
      at_filters from to (inl (same, unmade)) = leaves_still puts flushes status [] same
          (inl (fails_still (FromFilters puts_all flushes_all) status
          (λ written. inl (refl, unmade))))
      at_filters from to (inr (texts, is, inl (inl (fits, failed)))) =
          leaves_put puts flushes status (with_trailer 0 texts) [] failed
          (inl (fails_one (FromFilters puts_all flushes_all) no_memory (with_trailer 0 texts)
          (λ written. inr (
            texts,
            is,
            inr (
              placed_at last.offset texts fits,
              last.offset + length texts + 5,
              written ++ with_trailer 0 texts,
              is_put last.offset texts fits 0 written,
              inl (refl, inl memory_is_out),
            ),
          ))))
      at_filters from to (inr (texts, is, inl (inr (same, why)))) =
          leaves_still puts flushes status [] same
          (inl (fails_still (FromFilters puts_all flushes_all) status
          (λ written. inr (texts, is, inl (inr (refl, why))))))
      at_filters from to (inr (texts, is, inr (filter, end, mid, block, meta))) =
          after_put puts flushes status {Next = MayMetaindex filter end} block.put
          (λ rest. ⊎_elim
          (λ (fails : FailsWith (FromMetaindex puts_all flushes_all filter end) rest).
          inl (fails_after (FromMetaindex puts_all flushes_all filter end)
          (FromFilters puts_all flushes_all) (with_trailer 0 texts) rest
          (λ written why then failed. inr (
            texts,
            is,
            inr (filter, end, written ++ with_trailer 0 texts, put_all written block, failed),
          )) fails))
          (λ (others : IsMetaRest filter end rest). inr (end_is texts rest filter end is
          (block.begins, block.size, block.fits) block.ends others)))
          (at_metaindex filter end mid to meta)

  -- ---- a builder's calls

  abbrev Unfinished : List ℕ → Status → List ℕ → Type 0
  Unfinished = IsFinishError order filters codings core puts_all flushes_all

  -- it may put nothing more
  pub may_none : core.broken ≡ false → IsUnfinishedWith order filters codings core []
  may_none usable = by (stage core).open_pairs refl
    where
      by : (open_pairs : List Pair) → (stage core).open_pairs ≡ open_pairs
          → IsUnfinishedWith order filters codings core []
      by [] none = fails_still Unfinished no_memory (λ written. inr (inr (
        usable,
        stage core,
        written,
        inl (none, refl, refl),
        inl (refl, inl memory_is_out),
      )))
      by (pair ∷ pairs) some = fails_still Unfinished no_memory (λ written. inr (inl (
        usable,
        (
          (λ none. let never : pair ∷ pairs ≡ [] = sym some ∙ none in absurd (cc never)),
          inl (refl, memory_is_out),
        ),
      )))

  -- whether it is broken or not
  pub may_nothing : MayPut order filters codings core []
  may_nothing = by core.broken refl
    where
      by : (b : Bool) → core.broken ≡ b → MayPut order filters codings core []
      by false usable = inl (may_none usable)
      by true broke = inl (fails_still Unfinished (record { code = IOError; err = None })
          (λ written. inl (broke, record { code = refl; text = tt }, refl)))

  -- it may put the open block
  may_open : core.broken ≡ false → (stage core).open_pairs ≢ [] → {stored : List ℕ}
      → IsStored codings core.compressor (order.cmp core.block.cmp) core.block.interval
      (stage core).open_pairs stored
      → (handle : Handle) (end : ℕ)
      → ((written : List ℕ) → PutsBlock puts_all core.compressor stored written core.offset handle
      end (written ++ with_trailer core.compressor stored))
      → IsUnfinishedWith order filters codings core (with_trailer core.compressor stored ++ [])
  may_open usable some {stored} is handle end put =
      fails_one Unfinished no_memory (with_trailer core.compressor stored) (λ written. inr (inl (
        usable,
        (some, inr (inr (handle, (stored, is, end, put written), inl memory_is_out))),
      )))

  module _ {S : Type 0} (puts : S → List ℕ → Result (Unit {0}) Status → S → Type 0)
      (flushes : S → Result (Unit {0}) Status → S → Type 0) (status : Status) where
    abbrev LeavesIt : S → S → Type 0
    LeavesIt = Leaves puts flushes status (MayPut order filters codings core)

    -- it may have put the open block where that wasn't closed
    not_closed : core.broken ≡ false → (stage core).open_pairs ≢ [] → (next : List ℕ)
        (from to : S) → IsNotClosed order filters codings core puts next from status to
        → LeavesIt from to
    not_closed usable some next from to (inl (same, memory)) =
        leaves_still puts flushes status [] same (inl (may_none usable))
    not_closed usable some next from to (inr (inl (text, made, put))) =
        not_put (stage core) puts flushes status core.compressor text core.offset from to
        (λ still. inl (may_none usable))
        (λ stored decoded fits. (
          [],
          inl (may_open usable some (record { text = text; made = made; decoded = decoded })
              (placed_at core.offset stored fits) (core.offset + length stored + 5)
              (is_put core.offset stored fits core.compressor)),
        )) put
    not_closed usable some next from to (inr (inr (handle, (stored, is, end, block), lined))) =
        after_put puts flushes status {Next = λ b. b ≡ []} block.put
        (λ rest none. inl (subst (λ b. IsUnfinishedWith order filters codings core
        (with_trailer core.compressor stored ++ b)) (sym none)
        (may_open usable some is handle end (λ written. put_all written block))))
        (leaves_still puts flushes status [] refl refl)

    some_open : core.block.entries ≢ [] → (stage core).open_pairs ≢ []
    some_open some = some_pairs core.block.entries (by core.block.entries some)
      where
        by : (entries : List BlockEntry) → entries ≢ [] → 0 < length entries
        by [] none = absurd (none refl)
        by (entry ∷ entries) others = omega arith

    -- a pair wasn't added
    pub add_leaves : (pair : Pair) (from to : S)
        → IsAddError order filters codings core puts pair from status to → LeavesIt from to
    add_leaves pair from to (inl (broke, is, same)) = leaves_still puts flushes status [] same
        (inl (fails_still Unfinished status (λ written. inl (broke, is, refl))))
    add_leaves pair from to (inr (usable, inl (room, same, why))) =
        leaves_still puts flushes status [] same (inl (may_none usable))
    add_leaves pair from to (inr (usable, inr (inl (full, closed)))) =
        not_closed usable (some_open full.0) pair.0 from to closed
    add_leaves pair from to
        (inr (usable, inr (inr (full, handle, (stored, is, end, block), why)))) =
        after_put puts flushes status {Next = λ b. b ≡ []} block.put
        (λ rest none. inl (subst (λ b. IsUnfinishedWith order filters codings core
        (with_trailer core.compressor stored ++ b)) (sym none)
        (may_open usable (some_open full.0) is handle end (λ written. put_all written block))))
        (leaves_still puts flushes status [] refl refl)

    -- a table wasn't finished
    module _ (makes : RestMakesTable order filters codings core) where
      whole : core.broken ≡ false → (bytes : List ℕ) → IsRest order filters codings core bytes
          → MayPut order filters codings core bytes
      whole usable bytes rest = inr (λ written pairs begun. makes usable written bytes pairs begun
          rest)

      pub finish_leaves : (from to : S)
          → IsFinishError order filters codings core puts flushes from status to
          → LeavesIt from to
      finish_leaves from to (inl (broke, is, same)) = leaves_still puts flushes status [] same
          (inl (fails_still Unfinished status (λ written. inl (broke, is, refl))))
      finish_leaves from to (inr (inl (usable, left))) =
          not_closed usable left.0 _ from to left.1
      finish_leaves from to (inr (inr (usable, last, mid, inl (none, is, same), stops))) =
          subst (λ s. LeavesIt s to) same
          (leaves_so puts flushes status {These = MayFilters last} (λ bytes. ⊎_elim
          (λ (fails : FailsWith (FromFilters last puts_all flushes_all) bytes).
          inl (λ written. let failed = fails written in (
            failed.0,
            inr (inr (usable, last, written, inl (none, is, refl), failed.1)),
          )))
          (λ (end : IsEndRest last bytes). whole usable bytes (record {
            last = last;
            closed = [];
            closes = inl (none, is, refl);
            ended = bytes;
            size = end.0;
            ends = end.1;
            joined = refl;
          })))
          (at_filters last puts flushes status mid to stops))
      finish_leaves from to
          (inr (inr (usable, last, mid, inr (some, bytes, put, closes), stops))) =
          after_put puts flushes status {Next = MayFilters last} put
          (λ rest. ⊎_elim
          (λ (fails : FailsWith (FromFilters last puts_all flushes_all) rest).
          inl (fails_after (FromFilters last puts_all flushes_all) Unfinished bytes rest
          (λ written why then failed. inr (inr (
            usable,
            last,
            written ++ bytes,
            inr (some, bytes, (refl, refl), closes),
            failed,
          ))) fails))
          (λ (end : IsEndRest last rest). whole usable (bytes ++ rest) (record {
            last = last;
            closed = bytes;
            closes = inr (some, closes);
            ended = rest;
            size = end.0;
            ends = end.1;
            joined = refl;
          })))
          (at_filters last puts flushes status mid to stops)
