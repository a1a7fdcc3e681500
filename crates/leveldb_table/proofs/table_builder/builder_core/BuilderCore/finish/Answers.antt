use Rattle.std.proofs.Common.{◌++◌, ◌∙◌, sym, refl, append_assoc, inl, inr, subst}
use Rattle.std.proofs.lemmas.Bool.{true≢false}
use Rattle.std.proofs.lemmas.Result.{err_from_is_err_and, IfOk-weaker, IfOk-from_err}
use Rattle.std.specs.Prelude.{IfErr, IfOk}
use Rattle.leveldb_env.proofs.SinkLemmas.{PutsAll-trans}
use Rattle.leveldb_env.specs.contracts.compressor.CompressorListCompressors.TheImpl.{ghosts as compressors}
use Rattle.leveldb_env.proofs.FilterBlockLemmas.{keeps_keys}
use Rattle.leveldb_table.specs.TableBuilder.{TableBuilt, stage}
use Rattle.leveldb_table.specs.TableBuilderFinish.{CannotFinish, IsFinishError, IsFinished, RestMakesTable}
use Rattle.leveldb_table.proofs.TableLemmas.{IfErr-with}
use Rattle.leveldb_table.proofs.TableBuilderFinishLemmas.{rest_makes, sound_unlined, refused_with, stops_unset_at, table_made, PutsEnd-all, PutsEnd-same}
use Rattle.leveldb_table.proofs.RefusalLemmas.{IfErr-passed}
use Rattle.leveldb_table.proofs.table_builder.builder_core.BuilderCore.finish.Goals as goal

pub returns-in_err-check_unbroken-clause-cause : goal.returns-in_err-check_unbroken-clause-cause
returns-in_err-check_unbroken-clause-cause g c =
    IfErr-passed _ c.from_residual.result c.from_residual.ensures.1 (inl (c.in_err-check_unbroken.ensures.err.0, c.in_err-check_unbroken.ensures.err.1, refl))

pub returns-in_err-close_last-clause-cause : goal.returns-in_err-close_last-clause-cause
returns-in_err-close_last-clause-cause g c =
    let unbroken = rw (← c.self.view_is) at c.in_ok-check_unbroken.ensures.ok in
    subst (λ core. IfErr c.from_residual-in_err-close_last.result (λ status. IsFinishError g.C.Cmp g.FP.FilterPolicy ((compressors g.dyn-1).codings c.args.compressors.now) core g.S.Sink.puts g.S.Sink.flushes c.args.sink.now status c.close_last.new.sink)) c.self.view_is (IfErr-passed _ c.from_residual-in_err-close_last.result c.from_residual-in_err-close_last.ensures.1 (inr (inl (unbroken, c.in_err-close_last.ensures.cause))))

pub returns-clause-cause : goal.returns-clause-cause
returns-clause-cause g c =
    let unbroken = rw (← c.self.view_is) at c.in_ok-check_unbroken.ensures.ok in
    let cause = rw (c.in_ok-close_last.ensures.order, c.close_last.ensures.choices.same_policy, c.close_last.ensures.choices.same_compressor) at c.put_end.ensures.cause in
    subst (λ core. IfErr c.put_end.result (λ status. IsFinishError g.C.Cmp g.FP.FilterPolicy ((compressors g.dyn-1).codings c.args.compressors.now) core g.S.Sink.puts g.S.Sink.flushes c.args.sink.now status c.put_end.new.sink)) c.self.view_is (IfErr-with c.put_end.result _ _ (λ status why. inr (inr (unbroken, stage c.close_last.new.self, c.close_last.new.sink, c.in_ok-close_last.ensures.rest, why))) cause)

pub returns-in_err-check_unbroken-clause-cannot : goal.returns-in_err-check_unbroken-clause-cannot
returns-in_err-check_unbroken-clause-cannot g c =
    let p = err_from_is_err_and c.from_residual.result c.from_residual.ensures.1 in
    let failed = c.in_err-check_unbroken.ensures.err in
    rw (p.1, p.2) (record {
      broken = λ broken. (failed.1, refl);
      unset = λ unbroken some unset. absurd (true≢false (sym failed.0 ∙ unbroken));
      unset_rest = λ unbroken none unset. absurd (true≢false (sym failed.0 ∙ unbroken));
    })

pub returns-in_err-close_last-clause-cannot : goal.returns-in_err-close_last-clause-cannot
returns-in_err-close_last-clause-cannot g c =
    let unbroken = rw (← c.self.view_is) at c.in_ok-check_unbroken.ensures.ok in
    let p = err_from_is_err_and c.from_residual-in_err-close_last.result c.from_residual-in_err-close_last.ensures.1 in
    let failed = c.in_err-close_last.ensures in
    rw (← c.self.view_is, p.1, p.2) (record {
      broken = λ broken. absurd (true≢false (sym broken ∙ unbroken));
      unset = λ unbroken some unset. failed.unset some unset;
      unset_rest = λ unbroken none unset. absurd (failed.cause.0 none);
    })

pub returns-clause-cannot : goal.returns-clause-cannot
returns-clause-cannot g c =
    let unbroken = rw (← c.self.view_is) at c.in_ok-check_unbroken.ensures.ok in
    let it = c.self.inside in
    let core : TableBuilt g.row.C.Denot g.row.FP.Denot = record { block = it.block; index = it.index; filter = it.filter; offset = it.offset; count = it.count; broken = it.broken; compressor = it.compressor; block_size = it.block_size } in
    let self = c.self.inside in
    let cause = rw (c.in_ok-close_last.ensures.order, c.close_last.ensures.choices.same_policy, c.close_last.ensures.choices.same_compressor) at c.put_end.ensures.cause in
    subst (λ core. CannotFinish g.C.Cmp g.FP.FilterPolicy ((compressors g.dyn-1).codings c.args.compressors.now) core g.S.Sink.puts c.args.sink.now c.put_end.result c.put_end.new.sink) c.self.view_is (record {
      broken = λ broken. absurd (true≢false (sym broken ∙ unbroken));
      unset = λ unbroken some unset. absurd (c.in_ok-close_last.ensures.unset some unset).0;
      unset_rest = λ unbroken none unset. elim c.in_ok-close_last.ensures.rest [
        | inl (left, same, still) ↦
            refused_with c.put_end.result _ _ (λ status. stops_unset_at ((compressors g.dyn-1).codings c.args.compressors.now) (g.C.Cmp.cmp self.block.cmp) (g.FP.FilterPolicy.too_large self.filter.policy) (g.FP.FilterPolicy.filter_for self.filter.policy)
            self.compressor (g.FP.FilterPolicy.name self.filter.policy) (stage c.close_last.new.self) g.S.Sink.puts g.S.Sink.flushes unset (stage core) c.close_last.new.sink c.args.sink.now status c.put_end.new.sink same still)
            (c.put_end.ensures.unset (rw c.close_last.ensures.choices.same_compressor unset)) cause
        | inr closed ↦ absurd (closed.0 none)
      ];
    })

pub returns-clause-ok : goal.returns-clause-ok
returns-clause-ok g c =
    let unbroken = rw (← c.self.view_is) at c.in_ok-check_unbroken.ensures.ok in
    let self = c.self.inside in
    let mid = c.close_last.new.self in
    let last = c.in_ok-close_last.ensures.ok in
    let keeps = keeps_keys g.FP.FilterPolicy.filter_for g.FP.FilterPolicy.matches g.met.FP.FilterPolicy.finds in
    subst (λ core. IfOk c.put_end.result (λ size. IsFinished g.C.Cmp g.FP.FilterPolicy ((compressors g.dyn-1).codings c.args.compressors.now) core g.S.Sink.puts g.S.Sink.flushes c.args.sink.now size c.put_end.new.sink)) c.self.view_is (IfOk-weaker c.put_end.result _ _ (λ size end. record {
      finishes = record {
        bytes = last.bytes ++ end.bytes;
        mid = end.mid;
        put = PutsAll-trans g.S.Sink.puts last.put (PutsEnd-all g.S.Sink.puts g.S.Sink.flushes end);
        flushed = end.flushed;
        made = λ written pairs begun.
            let laid = last.laid written pairs begun in
            rw (sym (append_assoc written last.bytes end.bytes)) (table_made _ (g.met.C.Cmp.preorder self.block.cmp) (g.C.Cmp.shortest_sep self.block.cmp) (g.met.C.Cmp.separates self.block.cmp)
            g.FP.FilterPolicy.filter_for g.FP.FilterPolicy.matches keeps g.FP.FilterPolicy.name self.filter.policy (g.C.Cmp.cmp mid.index.cmp) (g.C.Cmp.short_succ self.block.cmp) self.compressor (stage mid) last.next (written ++ last.bytes) end.bytes pairs size self.block.interval self.index.interval
            c.in_ok-close_last.ensures.order c.close_last.ensures.choices.same_policy c.close_last.ensures.choices.same_intervals laid.0 laid.1 (rw c.close_last.ensures.choices.same_compressor at end.ended));
      };
      pieces = record {
        last = stage c.close_last.new.self;
        mid = c.close_last.new.sink;
        closed = c.in_ok-close_last.ensures.rest;
        ended = PutsEnd-same g.S.Sink.puts g.S.Sink.flushes g.FP.FilterPolicy.filter_for g.FP.FilterPolicy.name c.in_ok-close_last.ensures.order c.close_last.ensures.choices.same_policy c.close_last.ensures.choices.same_compressor end;
      };
      unbroken = unbroken;
    }) c.put_end.ensures.ok)

pub returns-in_err-check_unbroken-clause-rest : goal.returns-in_err-check_unbroken-clause-rest
returns-in_err-check_unbroken-clause-rest g c =
    let failed = c.in_err-check_unbroken.ensures.err in
    λ unbroken. absurd (true≢false (sym failed.0 ∙ unbroken))

pub returns-in_err-close_last-clause-rest : goal.returns-in_err-close_last-clause-rest
returns-in_err-close_last-clause-rest g c =
    let self = c.self.inside in
    let cmp = self.block.cmp in
    let keeps = keeps_keys g.FP.FilterPolicy.filter_for g.FP.FilterPolicy.matches g.met.FP.FilterPolicy.finds in
    subst (λ core. RestMakesTable g.C.Cmp g.FP.FilterPolicy ((compressors g.dyn-1).codings c.args.compressors.now) core) c.self.view_is (λ unbroken. rest_makes g.C.Cmp g.FP.FilterPolicy _ _ (g.met.C.Cmp.preorder cmp) (g.met.C.Cmp.separates cmp) (g.met.C.Cmp.succeeds cmp) keeps (sound_unlined _ (self.sound unbroken)))

pub returns-clause-rest : goal.returns-clause-rest
returns-clause-rest g c =
    let self = c.self.inside in
    let cmp = self.block.cmp in
    let keeps = keeps_keys g.FP.FilterPolicy.filter_for g.FP.FilterPolicy.matches g.met.FP.FilterPolicy.finds in
    subst (λ core. RestMakesTable g.C.Cmp g.FP.FilterPolicy ((compressors g.dyn-1).codings c.args.compressors.now) core) c.self.view_is (λ unbroken. rest_makes g.C.Cmp g.FP.FilterPolicy _ _ (g.met.C.Cmp.preorder cmp) (g.met.C.Cmp.separates cmp) (g.met.C.Cmp.succeeds cmp) keeps (sound_unlined _ (self.sound unbroken)))

pub returns-in_err-check_unbroken-clause-ok : goal.returns-in_err-check_unbroken-clause-ok
returns-in_err-check_unbroken-clause-ok g c = IfOk-from_err _ _ c.from_residual.ensures.0

pub returns-in_err-close_last-clause-ok : goal.returns-in_err-close_last-clause-ok
returns-in_err-close_last-clause-ok g c = IfOk-from_err _ _ c.from_residual-in_err-close_last.ensures.0
