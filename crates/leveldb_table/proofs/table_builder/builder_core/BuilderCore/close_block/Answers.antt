use Rattle.std.proofs.Common.{◌∙◌, ◌≡◌, ◌+◌, ◌/◌, ◌<◌, ◌≤◌, length, sym, subst, arith, refl, inl, inr, ap}
use Rattle.std.proofs.lemmas.List.{append-nil}
use Rattle.std.specs.Prelude.{IfErr}
use Rattle.leveldb_base.specs.BlockHandle.{handle_bytes}
use Rattle.leveldb_env.specs.Compressor.{IsUnset}
use Rattle.leveldb_env.specs.contracts.compressor.CompressorListCompressors.TheImpl
use Rattle.leveldb_table.specs.Block.{pairs_of}
use Rattle.leveldb_table.specs.Table.{with_trailer}
use Rattle.leveldb_table.specs.TableBuilderAdd.{IsNotClosed}
use Rattle.leveldb_table.proofs.TableLemmas.{IfErr-below, OnOk-with, OnOk-both, is_line}
use Rattle.leveldb_table.proofs.RefusalLemmas.{IfErr-passed, IsErrAnd-passed, OnOk-refused}
use Rattle.leveldb_table.proofs.table_builder.builder_core.BuilderCore.close_block.Goals as goal

pub returns-in_err-separator-clause-cause : goal.returns-in_err-separator-clause-cause
returns-in_err-separator-clause-cause g c =
    subst (λ core. IfErr c.from_residual.result (λ status. IsNotClosed g.C.Cmp g.FP.FilterPolicy ((TheImpl.ghosts g.dyn-1).codings c.args.compressors.now) core g.S.Sink.puts c.args.next.now c.args.sink.now status c.args.sink.now)) c.self.view_is (IfErr-passed _ c.from_residual.result c.from_residual.ensures.1 (inl (refl, c.in_err-separator.ensures.cause)))

pub returns-in_err-fresh-clause-cause : goal.returns-in_err-fresh-clause-cause
returns-in_err-fresh-clause-cause g c =
    subst (λ core. IfErr c.from_residual-in_err-fresh.result (λ status. IsNotClosed g.C.Cmp g.FP.FilterPolicy ((TheImpl.ghosts g.dyn-1).codings c.args.compressors.now) core g.S.Sink.puts c.args.next.now c.args.sink.now status c.args.sink.now)) c.self.view_is (IfErr-passed _ c.from_residual-in_err-fresh.result c.from_residual-in_err-fresh.ensures.1 (inl (refl, c.in_err-fresh.ensures.memory)))

pub returns-in_err-block-clause-cause : goal.returns-in_err-block-clause-cause
returns-in_err-block-clause-cause g c =
    subst (λ core. IfErr c.from_residual-in_err-block.result (λ status. IsNotClosed g.C.Cmp g.FP.FilterPolicy ((TheImpl.ghosts g.dyn-1).codings c.args.compressors.now) core g.S.Sink.puts c.args.next.now c.args.sink.now status c.args.sink.now)) c.self.view_is (IfErr-passed _ c.from_residual-in_err-block.result c.from_residual-in_err-block.ensures.1 (inl (refl, c.in_err-block.ensures.memory)))

pub returns-in_err-placed-clause-cause : goal.returns-in_err-placed-clause-cause
returns-in_err-placed-clause-cause g c =
    subst (λ core. IfErr c.from_residual-in_err-placed.result (λ status. IsNotClosed g.C.Cmp g.FP.FilterPolicy ((TheImpl.ghosts g.dyn-1).codings c.args.compressors.now) core g.S.Sink.puts c.args.next.now c.args.sink.now status c.put_encoded.new.sink)) c.self.view_is (IfErr-passed _ c.from_residual-in_err-placed.result c.from_residual-in_err-placed.ensures.1 (inr (inl (c.in_ok-block.block.items, rw (sym c.replace.ensures.value) c.in_ok-block.ensures.ok, c.in_err-placed.ensures.cause))))

pub add_handle-requires-clause-rise : goal.add_handle-requires-clause-rise
add_handle-requires-clause-rise g c =
    let requires = rw (← c.self.view_is) at c.requires in
    let last = rw (← c.self.view_is) at c.last_key-last.ensures in
    let order = g.met.C.Cmp.preorder c.self.inside.block.cmp in
    let separates = g.met.C.Cmp.separates c.self.inside.block.cmp in
    let line = is_line order (g.C.Cmp.shortest_sep c.self.inside.block.cmp) separates (pairs_of _ c.self.inside.index.entries) (pairs_of _ c.self.inside.block.entries) c.args.next.now (handle_bytes c.in_ok-placed.placed.handle)
    requires.closable.some requires.closable.ready.rise requires.closable.ready.accepted requires.closable.accepted requires.closable.after in
    rw (requires.closable.ready.order, c.deref.ensures.value, c.in_ok-separator.ensures.ok, c.order.ensures, last) line.rise

pub returns-in_err-add_handle-clause-cause : goal.returns-in_err-add_handle-clause-cause
returns-in_err-add_handle-clause-cause g c =
    let last = rw (← c.self.view_is) at c.last_key-last.ensures in
    let placed = c.in_ok-placed.ensures.ok in
    let large = rw (c.deref.ensures.value, c.in_ok-separator.ensures.ok, c.order.ensures, last) at c.in_err-add_handle.ensures.too_large in
    let why = c.in_err-add_handle.ensures.cause in
    subst (λ core. IfErr c.from_residual-in_err-add_handle.result (λ status. IsNotClosed g.C.Cmp g.FP.FilterPolicy ((TheImpl.ghosts g.dyn-1).codings c.args.compressors.now) core g.S.Sink.puts c.args.next.now c.args.sink.now status c.put_encoded.new.sink)) c.self.view_is (IfErr-passed _ c.from_residual-in_err-add_handle.result c.from_residual-in_err-add_handle.ensures.1 (
    inr (
    inr (
      c.in_ok-placed.placed.handle,
      (placed.0, record { text = c.in_ok-block.block.items; made = rw (sym c.replace.ensures.value) c.in_ok-block.ensures.ok; decoded = placed.1 }, c.in_ok-placed.placed.end, placed.2),
      elim why [ inl code ↦ inr (inl (code, large code)) | inr memory ↦ inl memory ],
    )
    )
    ))

pub returns-clause-cause : goal.returns-clause-cause
returns-clause-cause g c =
    let requires = rw (← c.self.view_is) at c.requires in
    let placed = c.in_ok-placed.ensures.ok in
    let handle = c.in_ok-placed.placed.handle in
    let filters = c.self.inside.filter.filters in
    let ends : c.in_ok-placed.placed.end ≡ handle.offset + handle.size + 5 = rw (placed.2.begins, placed.2.size) placed.2.ends in
    let within : length filters ≤ c.in_ok-placed.placed.end / 2048 = omega (arith, requires.closable.ready.filtered, placed.2.ends) in
    subst (λ core. IfErr c.start_block.result (λ status. IsNotClosed g.C.Cmp g.FP.FilterPolicy ((TheImpl.ghosts g.dyn-1).codings c.args.compressors.now) core g.S.Sink.puts c.args.next.now c.args.sink.now status c.put_encoded.new.sink)) c.self.view_is (IfErr-below c.start_block.result _ _ (length filters) (c.in_ok-placed.placed.end / 2048) within c.start_block.ensures.none (λ due status why.
    inr (
    inr (
      handle,
      (placed.0, record { text = c.in_ok-block.block.items; made = rw (sym c.replace.ensures.value) c.in_ok-block.ensures.ok; decoded = placed.1 }, c.in_ok-placed.placed.end, placed.2),
      inr (inr (subst (λ end. length filters < end / 2048) ends due, why)),
    )
    )) c.start_block.ensures.cause)

pub returns-clause-ok : goal.returns-clause-ok
returns-clause-ok g c =
    let last = rw (← c.self.view_is) at c.last_key-last.ensures in
    let placed = c.in_ok-placed.ensures.ok in
    let sep = c.deref.ensures.value ∙ c.in_ok-separator.ensures.ok in
    let line = rw (c.deref.ensures.value, c.in_ok-separator.ensures.ok, c.order.ensures, last) at c.in_ok-add_handle.ensures.ok in
    let old = c.replace.ensures.value in
    rw (← c.self.view_is) (OnOk-with c.start_block.result _ _ (λ made. (
      with_trailer c.self.inside.compressor placed.0,
      placed.2.put,
      record {
        text = c.in_ok-block.block.items;
        stored = placed.0;
        handle = c.in_ok-placed.placed.handle;
        made = rw (sym old) c.in_ok-block.ensures.ok;
        decoded = placed.1;
        begins = placed.2.begins;
        size = placed.2.size;
        fits = placed.2.fits;
        encoded = refl;
        ends = placed.2.ends;
        line = line;
        none_open = rw (c.replace.ensures.after, c.in_ok-fresh.ensures.none) refl;
        started = made;
        count = refl;
        same_intervals = (rw (c.replace.ensures.after, c.in_ok-fresh.ensures.interval) refl, c.in_ok-add_handle.ensures.interval);
      },
    )) c.start_block.ensures.ok)

pub returns-clause-ready : goal.returns-clause-ready
returns-clause-ready g c =
    let requires = rw (← c.self.view_is) at c.requires in
    let last = rw (← c.self.view_is) at c.last_key-last.ensures in
    let order = g.met.C.Cmp.preorder c.self.inside.block.cmp in
    let separates = g.met.C.Cmp.separates c.self.inside.block.cmp in
    let line = is_line order (g.C.Cmp.shortest_sep c.self.inside.block.cmp) separates (pairs_of _ c.self.inside.index.entries) (pairs_of _ c.self.inside.block.entries) c.args.next.now (handle_bytes c.in_ok-placed.placed.handle)
    requires.closable.some requires.closable.ready.rise requires.closable.ready.accepted requires.closable.accepted requires.closable.after in
    OnOk-both c.start_block.result _ _ _ (λ made opened. (
      record {
        order = rw (c.in_ok-add_handle.ensures.order, c.replace.ensures.after, c.in_ok-fresh.ensures.order) requires.closable.ready.order;
        rise = rw (c.replace.ensures.after, c.in_ok-fresh.ensures.order, c.in_ok-fresh.ensures.none, append-nil, c.in_ok-add_handle.ensures.ok, c.deref.ensures.value, c.in_ok-separator.ensures.ok, c.order.ensures, last) line.rise;
        accepted = rw (c.replace.ensures.after, c.in_ok-fresh.ensures.order, c.in_ok-fresh.ensures.none, append-nil, c.in_ok-add_handle.ensures.ok, c.deref.ensures.value, c.in_ok-separator.ensures.ok, c.order.ensures, last) line.accepted;
        filtered = sym opened;
      },
      rw (c.replace.ensures.after, c.in_ok-fresh.ensures.none) refl,
    )) c.start_block.ensures.ok c.start_block.ensures.open

pub returns-in_err-separator-clause-ok : goal.returns-in_err-separator-clause-ok
returns-in_err-separator-clause-ok g c = OnOk-refused _ _ c.from_residual.result c.from_residual.ensures.1

pub returns-in_err-separator-clause-ready : goal.returns-in_err-separator-clause-ready
returns-in_err-separator-clause-ready g c = OnOk-refused _ _ c.from_residual.result c.from_residual.ensures.1

pub returns-in_err-separator-clause-still : goal.returns-in_err-separator-clause-still
returns-in_err-separator-clause-still g c = (refl, c.requires.broken)

pub returns-in_err-fresh-clause-ok : goal.returns-in_err-fresh-clause-ok
returns-in_err-fresh-clause-ok g c = OnOk-refused _ _ c.from_residual-in_err-fresh.result c.from_residual-in_err-fresh.ensures.1

pub returns-in_err-fresh-clause-ready : goal.returns-in_err-fresh-clause-ready
returns-in_err-fresh-clause-ready g c = OnOk-refused _ _ c.from_residual-in_err-fresh.result c.from_residual-in_err-fresh.ensures.1

pub returns-in_err-fresh-clause-still : goal.returns-in_err-fresh-clause-still
returns-in_err-fresh-clause-still g c = (refl, c.requires.broken)

pub returns-in_err-block-clause-ok : goal.returns-in_err-block-clause-ok
returns-in_err-block-clause-ok g c = OnOk-refused _ _ c.from_residual-in_err-block.result c.from_residual-in_err-block.ensures.1

pub returns-in_err-block-clause-ready : goal.returns-in_err-block-clause-ready
returns-in_err-block-clause-ready g c = OnOk-refused _ _ c.from_residual-in_err-block.result c.from_residual-in_err-block.ensures.1

pub returns-in_err-block-clause-still : goal.returns-in_err-block-clause-still
returns-in_err-block-clause-still g c = (ap (λ core. core.count) c.self.view_is, ap (λ core. core.broken) c.self.view_is ∙ c.requires.broken)

pub returns-in_err-placed-clause-ok : goal.returns-in_err-placed-clause-ok
returns-in_err-placed-clause-ok g c = OnOk-refused _ _ c.from_residual-in_err-placed.result c.from_residual-in_err-placed.ensures.1

pub returns-in_err-placed-clause-ready : goal.returns-in_err-placed-clause-ready
returns-in_err-placed-clause-ready g c = OnOk-refused _ _ c.from_residual-in_err-placed.result c.from_residual-in_err-placed.ensures.1

pub returns-in_err-placed-clause-still : goal.returns-in_err-placed-clause-still
returns-in_err-placed-clause-still g c = (ap (λ core. core.count) c.self.view_is, ap (λ core. core.broken) c.self.view_is ∙ c.requires.broken)

pub returns-in_err-add_handle-clause-ok : goal.returns-in_err-add_handle-clause-ok
returns-in_err-add_handle-clause-ok g c = OnOk-refused _ _ c.from_residual-in_err-add_handle.result c.from_residual-in_err-add_handle.ensures.1

pub returns-in_err-add_handle-clause-ready : goal.returns-in_err-add_handle-clause-ready
returns-in_err-add_handle-clause-ready g c = OnOk-refused _ _ c.from_residual-in_err-add_handle.result c.from_residual-in_err-add_handle.ensures.1

pub returns-in_err-add_handle-clause-still : goal.returns-in_err-add_handle-clause-still
returns-in_err-add_handle-clause-still g c = (ap (λ core. core.count) c.self.view_is, ap (λ core. core.broken) c.self.view_is ∙ c.requires.broken)

pub returns-in_err-separator-clause-choices : goal.returns-in_err-separator-clause-choices
returns-in_err-separator-clause-choices g c = record { same_order = refl; same_policy = refl; same_compressor = refl; same_size = refl; same_intervals = (refl, refl) }

pub returns-in_err-fresh-clause-choices : goal.returns-in_err-fresh-clause-choices
returns-in_err-fresh-clause-choices g c = record { same_order = refl; same_policy = refl; same_compressor = refl; same_size = refl; same_intervals = (refl, refl) }

pub returns-in_err-block-clause-choices : goal.returns-in_err-block-clause-choices
returns-in_err-block-clause-choices g c =
    record {
      same_order = ap (λ builder. builder.cmp) c.replace.ensures.after ∙ c.in_ok-fresh.ensures.order ∙ ap (λ core. core.block.cmp) c.self.view_is;
      same_policy = ap (λ core. core.filter.policy) c.self.view_is;
      same_compressor = ap (λ core. core.compressor) c.self.view_is;
      same_size = ap (λ core. core.block_size) c.self.view_is;
      same_intervals = (ap (λ builder. builder.interval) c.replace.ensures.after ∙ c.in_ok-fresh.ensures.interval ∙ ap (λ core. core.block.interval) c.self.view_is, ap (λ core. core.index.interval) c.self.view_is);
    }

pub returns-in_err-placed-clause-choices : goal.returns-in_err-placed-clause-choices
returns-in_err-placed-clause-choices g c =
    record {
      same_order = ap (λ builder. builder.cmp) c.replace.ensures.after ∙ c.in_ok-fresh.ensures.order ∙ ap (λ core. core.block.cmp) c.self.view_is;
      same_policy = ap (λ core. core.filter.policy) c.self.view_is;
      same_compressor = ap (λ core. core.compressor) c.self.view_is;
      same_size = ap (λ core. core.block_size) c.self.view_is;
      same_intervals = (ap (λ builder. builder.interval) c.replace.ensures.after ∙ c.in_ok-fresh.ensures.interval ∙ ap (λ core. core.block.interval) c.self.view_is, ap (λ core. core.index.interval) c.self.view_is);
    }

pub returns-in_err-add_handle-clause-choices : goal.returns-in_err-add_handle-clause-choices
returns-in_err-add_handle-clause-choices g c =
    record {
      same_order = ap (λ builder. builder.cmp) c.replace.ensures.after ∙ c.in_ok-fresh.ensures.order ∙ ap (λ core. core.block.cmp) c.self.view_is;
      same_policy = ap (λ core. core.filter.policy) c.self.view_is;
      same_compressor = ap (λ core. core.compressor) c.self.view_is;
      same_size = ap (λ core. core.block_size) c.self.view_is;
      same_intervals = (ap (λ builder. builder.interval) c.replace.ensures.after ∙ c.in_ok-fresh.ensures.interval ∙ ap (λ core. core.block.interval) c.self.view_is, c.add_handle.ensures.interval ∙ ap (λ core. core.index.interval) c.self.view_is);
    }

pub returns-clause-still : goal.returns-clause-still
returns-clause-still g c = (ap (λ core. core.count) c.self.view_is, ap (λ core. core.broken) c.self.view_is ∙ c.requires.broken)

pub returns-in_err-separator-clause-unset : goal.returns-in_err-separator-clause-unset
returns-in_err-separator-clause-unset g c = λ unset. (IsErrAnd-passed _ c.from_residual.result c.from_residual.ensures.1 (inr c.in_err-separator.ensures.cause), refl)

pub returns-in_err-fresh-clause-unset : goal.returns-in_err-fresh-clause-unset
returns-in_err-fresh-clause-unset g c = λ unset. (IsErrAnd-passed _ c.from_residual-in_err-fresh.result c.from_residual-in_err-fresh.ensures.1 (inr c.in_err-fresh.ensures.memory), refl)

pub returns-in_err-block-clause-unset : goal.returns-in_err-block-clause-unset
returns-in_err-block-clause-unset g c = λ unset. (IsErrAnd-passed _ c.from_residual-in_err-block.result c.from_residual-in_err-block.ensures.1 (inr c.in_err-block.ensures.memory), refl)

pub returns-in_err-placed-clause-unset : goal.returns-in_err-placed-clause-unset
returns-in_err-placed-clause-unset g c = λ unset.
    let none = c.in_err-placed.ensures.unset (ap (λ core. (TheImpl.ghosts g.dyn-1).codings c.args.compressors.now core.compressor) c.self.view_is ∙ unset) in
    (IsErrAnd-passed _ c.from_residual-in_err-placed.result c.from_residual-in_err-placed.ensures.1 (inl (subst (λ id. IsUnset id c.in_err-placed.field-0.0) (ap (λ core. core.compressor) c.self.view_is) none.0)), none.1)

pub returns-in_err-add_handle-clause-unset : goal.returns-in_err-add_handle-clause-unset
returns-in_err-add_handle-clause-unset g c = λ unset. absurd (c.in_ok-placed.ensures.unset (ap (λ core. (TheImpl.ghosts g.dyn-1).codings c.args.compressors.now core.compressor) c.self.view_is ∙ unset)).0

pub returns-clause-unset : goal.returns-clause-unset
returns-clause-unset g c = λ unset. absurd (c.in_ok-placed.ensures.unset (ap (λ core. (TheImpl.ghosts g.dyn-1).codings c.args.compressors.now core.compressor) c.self.view_is ∙ unset)).0
