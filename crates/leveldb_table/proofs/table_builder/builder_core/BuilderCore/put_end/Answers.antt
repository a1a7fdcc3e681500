use Rattle.std.proofs.Common.{sym, ap, refl, ◌∙◌, subst, ◌+◌, inl, inr}
use Rattle.std.proofs.lemmas.Result.{IfOk-weaker, IfOk-from_err}
use Rattle.leveldb_env.specs.contracts.compressor.CompressorListCompressors.TheImpl
use Rattle.leveldb_table.specs.TableBuilder.{IsPlaced}
use Rattle.leveldb_table.proofs.TableLemmas.{IfErr-with}
use Rattle.leveldb_table.proofs.TableBuilderFinishLemmas.{block_placed, block_ends}
use Rattle.leveldb_table.proofs.RefusalLemmas.{IfErr-passed}
use Rattle.leveldb_table.proofs.table_builder.builder_core.BuilderCore.put_end.Goals as goal

pub returns-in_err-finish-clause-cause : goal.returns-in_err-finish-clause-cause
returns-in_err-finish-clause-cause g c =
    rw (← c.self.view_is) (IfErr-passed _ c.from_residual.result c.from_residual.ensures.1 (inl (refl, c.in_err-finish.ensures.cause)))

pub returns-in_err-filters-clause-cause : goal.returns-in_err-filters-clause-cause
returns-in_err-filters-clause-cause g c =
    rw (← c.self.view_is) (IfErr-passed _ c.from_residual-in_err-filters.result c.from_residual-in_err-filters.ensures.1 (inr (c.in_ok-finish.field-0.items, c.in_ok-finish.ensures.ok, inl c.in_err-filters.ensures.err)))

pub returns-in_err-meta-clause-cause : goal.returns-in_err-meta-clause-cause
returns-in_err-meta-clause-cause g c =
    let placed = c.in_ok-filters.filters in
    rw (← c.self.view_is) (IfErr-passed _ c.from_residual-in_err-meta.result c.from_residual-in_err-meta.ensures.1 (inr (c.in_ok-finish.field-0.items, c.in_ok-finish.ensures.ok, inr (placed.handle, placed.end, _, c.in_ok-filters.ensures.ok, inl (refl, rw (sym c.filter_name-name.ensures) c.in_err-meta.ensures.cause)))))

pub returns-in_err-meta-2-clause-cause : goal.returns-in_err-meta-2-clause-cause
returns-in_err-meta-2-clause-cause g c =
    let placed = c.in_ok-filters.filters in
    rw (← c.self.view_is) (IfErr-passed _ c.from_residual-in_err-meta-2.result c.from_residual-in_err-meta-2.ensures.1 (
    inr (
      c.in_ok-finish.field-0.items,
      c.in_ok-finish.ensures.ok,
      inr (placed.handle, placed.end, _, c.in_ok-filters.ensures.ok, inr (c.in_ok-meta.meta.items, rw (sym c.filter_name-name.ensures, sym c.interval.ensures.same) c.in_ok-meta.ensures.ok, inl c.in_err-meta-2.ensures.cause)),
    )
    ))

pub returns-in_err-lines-clause-cause : goal.returns-in_err-lines-clause-cause
returns-in_err-lines-clause-cause g c =
    let placed = c.in_ok-filters.filters in
    let meta = c.in_ok-meta-2.ensures.ok in
    rw (← c.self.view_is) (IfErr-passed _ c.from_residual-in_err-lines.result c.from_residual-in_err-lines.ensures.1 (
    inr (
      c.in_ok-finish.field-0.items,
      c.in_ok-finish.ensures.ok,
      inr (
        placed.handle,
        placed.end,
        _,
        c.in_ok-filters.ensures.ok,
        inr (
          c.in_ok-meta.meta.items,
          rw (sym c.filter_name-name.ensures, sym c.interval.ensures.same) c.in_ok-meta.ensures.ok,
          inr (meta.0, meta.1, c.in_ok-meta-2.meta.handle, c.in_ok-meta-2.meta.end, _, meta.2, inl (refl, c.in_err-lines.ensures.memory)),
        ),
      ),
    )
    ))

pub returns-in_err-index-clause-cause : goal.returns-in_err-index-clause-cause
returns-in_err-index-clause-cause g c =
    let placed = c.in_ok-filters.filters in
    let meta = c.in_ok-meta-2.ensures.ok in
    rw (← c.self.view_is) (IfErr-passed _ c.from_residual-in_err-index.result c.from_residual-in_err-index.ensures.1 (
    inr (
      c.in_ok-finish.field-0.items,
      c.in_ok-finish.ensures.ok,
      inr (
        placed.handle,
        placed.end,
        _,
        c.in_ok-filters.ensures.ok,
        inr (
          c.in_ok-meta.meta.items,
          rw (sym c.filter_name-name.ensures, sym c.interval.ensures.same) c.in_ok-meta.ensures.ok,
          inr (meta.0, meta.1, c.in_ok-meta-2.meta.handle, c.in_ok-meta-2.meta.end, _, meta.2, inr (c.in_ok-lines.lines.items, c.in_ok-lines.ensures.ok, inl c.in_err-index.ensures.cause)),
        ),
      ),
    )
    ))

pub returns-clause-cause : goal.returns-clause-cause
returns-clause-cause g c =
    let placed = c.in_ok-filters.filters in
    let meta = c.in_ok-meta-2.ensures.ok in
    let index = c.in_ok-index.ensures.ok in
    rw (← c.self.view_is) (IfErr-with c.put_footer.result _ _ (λ status why.
    inr (
      c.in_ok-finish.field-0.items,
      c.in_ok-finish.ensures.ok,
      inr (
        placed.handle,
        placed.end,
        _,
        c.in_ok-filters.ensures.ok,
        inr (
          c.in_ok-meta.meta.items,
          rw (sym c.filter_name-name.ensures, sym c.interval.ensures.same) c.in_ok-meta.ensures.ok,
          inr (
            meta.0,
            meta.1,
            c.in_ok-meta-2.meta.handle,
            c.in_ok-meta-2.meta.end,
            _,
            meta.2,
            inr (
              c.in_ok-lines.lines.items,
              c.in_ok-lines.ensures.ok,
              inr (index.0, index.1, c.in_ok-index.index.handle, c.in_ok-index.index.end, _, index.2, rw c.new-footer.ensures at why),
            ),
          ),
        ),
      ),
    )) c.put_footer.ensures.cause)

pub returns-clause-unset : goal.returns-clause-unset
returns-clause-unset g c = λ unset. absurd (c.in_ok-meta-2.ensures.unset (ap (λ core. (TheImpl.ghosts g.dyn-1).codings c.args.compressors.now core.compressor) c.self.view_is ∙ unset)).0

pub returns-clause-ok : goal.returns-clause-ok
returns-clause-ok g c =
    let puts = g.S.Sink.puts in
    let filters = c.in_ok-filters.ensures.ok in
    let meta = c.in_ok-meta-2.ensures.ok in
    let index = c.in_ok-index.ensures.ok in
    rw (← c.self.view_is) (IfOk-weaker c.put_footer.result _ _ (λ size footer. record {
      bytes = _;
      mid = footer.mid;
      ended = record {
        filters = c.in_ok-finish.field-0.items;
        meta_text = c.in_ok-meta.meta.items;
        meta_stored = meta.0;
        index_text = c.in_ok-lines.lines.items;
        index_stored = index.0;
        filter = c.in_ok-filters.filters.handle;
        meta = c.in_ok-meta-2.meta.handle;
        index = c.in_ok-index.index.handle;
        filter_block = c.in_ok-finish.ensures.ok;
        meta_made = rw (sym c.filter_name-name.ensures, sym c.interval.ensures.same) c.in_ok-meta.ensures.ok;
        index_made = c.in_ok-lines.ensures.ok;
        meta_decoded = meta.1;
        index_decoded = index.1;
        filter_placed = block_placed puts filters;
        meta_placed = subst (λ at. IsPlaced at meta.0 c.in_ok-meta-2.meta.handle) (block_ends puts filters) (block_placed puts meta.2);
        index_placed = subst (λ at. IsPlaced at index.0 c.in_ok-index.index.handle) (block_ends puts meta.2) (block_placed puts index.2);
        encoded = refl;
        ends = footer.ends ∙ ap (λ n. n + 48) (block_ends puts index.2);
      };
      put = (_, filters.put, (_, meta.2.put, (_, index.2.put, (_, rw c.new-footer.ensures at footer.put, refl))));
      flushed = footer.flushed;
    }) c.put_footer.ensures.ok)

pub returns-in_err-finish-clause-ok : goal.returns-in_err-finish-clause-ok
returns-in_err-finish-clause-ok g c = IfOk-from_err _ _ c.from_residual.ensures.0

pub returns-in_err-finish-clause-unset : goal.returns-in_err-finish-clause-unset
returns-in_err-finish-clause-unset g c = λ unset. c.from_residual.ensures.0

pub returns-in_err-filters-clause-ok : goal.returns-in_err-filters-clause-ok
returns-in_err-filters-clause-ok g c = IfOk-from_err _ _ c.from_residual-in_err-filters.ensures.0

pub returns-in_err-filters-clause-unset : goal.returns-in_err-filters-clause-unset
returns-in_err-filters-clause-unset g c = λ unset. c.from_residual-in_err-filters.ensures.0

pub returns-in_err-meta-clause-ok : goal.returns-in_err-meta-clause-ok
returns-in_err-meta-clause-ok g c = IfOk-from_err _ _ c.from_residual-in_err-meta.ensures.0

pub returns-in_err-meta-clause-unset : goal.returns-in_err-meta-clause-unset
returns-in_err-meta-clause-unset g c = λ unset. c.from_residual-in_err-meta.ensures.0

pub returns-in_err-meta-2-clause-ok : goal.returns-in_err-meta-2-clause-ok
returns-in_err-meta-2-clause-ok g c = IfOk-from_err _ _ c.from_residual-in_err-meta-2.ensures.0

pub returns-in_err-meta-2-clause-unset : goal.returns-in_err-meta-2-clause-unset
returns-in_err-meta-2-clause-unset g c = λ unset. c.from_residual-in_err-meta-2.ensures.0

pub returns-in_err-lines-clause-ok : goal.returns-in_err-lines-clause-ok
returns-in_err-lines-clause-ok g c = IfOk-from_err _ _ c.from_residual-in_err-lines.ensures.0

pub returns-in_err-lines-clause-unset : goal.returns-in_err-lines-clause-unset
returns-in_err-lines-clause-unset g c = λ unset. c.from_residual-in_err-lines.ensures.0

pub returns-in_err-index-clause-ok : goal.returns-in_err-index-clause-ok
returns-in_err-index-clause-ok g c = IfOk-from_err _ _ c.from_residual-in_err-index.ensures.0

pub returns-in_err-index-clause-unset : goal.returns-in_err-index-clause-unset
returns-in_err-index-clause-unset g c = λ unset. c.from_residual-in_err-index.ensures.0
