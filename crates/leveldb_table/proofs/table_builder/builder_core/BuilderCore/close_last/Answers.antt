use Rattle.std.proofs.Common.{◌≡◌, ◌≢◌, ◌∙◌, [], length, sym, ap, subst, arith, refl, None, inl, inr}
use Rattle.std.specs.declared.cmp.Ordering.TheVariants.{Greater}
use Rattle.std.proofs.lemmas.List.{append-nil, nil_from_length}
use Rattle.std.proofs.lemmas.Result.{err_from_is_err_and}
use Rattle.leveldb_env.proofs.SinkLemmas.{PutsAll-one, PutsAll-none}
use Rattle.leveldb_env.proofs.FilterBlockLemmas.{keeps_keys}
use Rattle.leveldb_table.specs.Block.{pairs_of}
use Rattle.leveldb_table.specs.TableBuilderStage.{first_key}
use Rattle.leveldb_table.specs.TableBuilder.{stage, last_of}
use Rattle.leveldb_table.proofs.TableLemmas.{OnOk-with, IfErr-with}
use Rattle.leveldb_table.proofs.TableBuilderStageLemmas.{laid_closed, last_open, some_pairs}
use Rattle.leveldb_table.proofs.TableBuilderFinishLemmas.{succeeds_last}
use Rattle.leveldb_table.proofs.table_builder.builder_core.BuilderCore.close_last.Goals as goal

pub close_block-requires-clause-closable : goal.close_block-requires-clause-closable
close_block-requires-clause-closable g c =
    let self = c.args.self.now in
    let some = some_pairs self.block.entries (omega (arith, c.if-entries-eq0.false, c.entries.ensures, ap (λ builder. length builder.block.entries) c.self.view_is)) in
    let is = succeeds_last (g.met.C.Cmp.preorder self.block.cmp) (g.C.Cmp.short_succ self.block.cmp) (g.met.C.Cmp.succeeds self.block.cmp) (pairs_of None self.index.entries) (pairs_of None self.block.entries)
    some c.requires.sound.accepted in
    record {
      ready = c.requires.sound;
      some = some;
      accepted = rw (c.deref.ensures.value, c.in_ok-next.ensures.ok, c.order.ensures, ap (λ builder. builder.block.cmp) c.self.view_is, c.last_key-last.ensures) is.0;
      after = rw (c.deref.ensures.value, c.in_ok-next.ensures.ok, c.order.ensures, ap (λ builder. builder.block.cmp) c.self.view_is, c.last_key-last.ensures) is.1;
    }

pub returns-clause-ok : goal.returns-clause-ok
returns-clause-ok g c =
    let self = c.args.self.now in
    let cmp = g.C.Cmp.cmp self.block.cmp in
    let some = some_pairs self.block.entries (omega (arith, c.if-entries-eq0.false, c.entries.ensures, ap (λ builder. length builder.block.entries) c.self.view_is)) in
    let is = succeeds_last (g.met.C.Cmp.preorder self.block.cmp) (g.C.Cmp.short_succ self.block.cmp) (g.met.C.Cmp.succeeds self.block.cmp) (pairs_of None self.index.entries) (pairs_of None self.block.entries)
    some c.requires.sound.accepted in
    let keeps = keeps_keys g.FP.FilterPolicy.filter_for g.FP.FilterPolicy.matches g.met.FP.FilterPolicy.finds in
    let next : c.deref.result.now ≡ g.C.Cmp.short_succ self.block.cmp (last_of self) =
    c.deref.ensures.value ∙ c.in_ok-next.ensures.ok ∙ ap (λ key. g.C.Cmp.short_succ c.order.result.now key) c.last_key-last.ensures
    ∙ ap (λ order. g.C.Cmp.short_succ order (last_of self)) (c.order.ensures ∙ ap (λ builder. builder.block.cmp) c.self.view_is) in
    OnOk-with c.close_block.result _ _ (λ closed. record {
      next = c.deref.result.now;
      bytes = closed.0;
      put = PutsAll-one g.S.Sink.puts closed.1;
      laid = λ written pairs begun. (
        laid_closed _ (g.C.Cmp.accepts self.block.cmp) cmp (g.C.Cmp.shortest_sep self.block.cmp) g.FP.FilterPolicy.filter_for g.FP.FilterPolicy.matches keeps
            (stage self) (stage c.close_block.new.self) self.compressor c.deref.result.now closed.0 written pairs some c.close_block.ensures.choices.same_policy closed.2 begun,
        record {
          none_open = closed.2.none_open;
          accepted = λ _. rw next is.0;
          after = λ _. rw next
              (subst (λ k. cmp k (g.C.Cmp.short_succ self.block.cmp (last_of self)) ≢ Greater) (sym (last_open pairs _ (pairs_of None self.block.entries) begun.pairs_are some)) is.1);
          successor = λ _. rw next
              (ap (g.C.Cmp.short_succ self.block.cmp) (sym (last_open pairs _ (pairs_of None self.block.entries) begun.pairs_are some)));
        },
      );
    }) c.close_block.ensures.ok

pub returns-in_err-next-clause-cause : goal.returns-in_err-next-clause-cause
returns-in_err-next-clause-cause g c =
    let some = some_pairs c.args.self.now.block.entries (omega (arith, c.if-entries-eq0.false, c.entries.ensures, ap (λ builder. length builder.block.entries) c.self.view_is)) in
    let p = err_from_is_err_and c.from_residual.result c.from_residual.ensures.1 in
    rw (p.1, p.2) (some, inl (refl, c.in_err-next.ensures.cause))

pub returns-clause-cause : goal.returns-clause-cause
returns-clause-cause g c =
    let some = some_pairs c.args.self.now.block.entries (omega (arith, c.if-entries-eq0.false, c.entries.ensures, ap (λ builder. length builder.block.entries) c.self.view_is)) in
    IfErr-with c.close_block.result _ _ (λ status why. (some, why)) (rw (c.deref.ensures.value, c.in_ok-next.ensures.ok, c.order.ensures, ap (λ builder. builder.block.cmp) c.self.view_is, c.last_key-last.ensures) at c.close_block.ensures.cause)

pub returns-clause-rest : goal.returns-clause-rest
returns-clause-rest g c =
    let some = some_pairs c.args.self.now.block.entries (omega (arith, c.if-entries-eq0.false, c.entries.ensures, ap (λ builder. length builder.block.entries) c.self.view_is)) in
    let next = rw (c.deref.ensures.value, c.in_ok-next.ensures.ok, c.order.ensures, ap (λ builder. builder.block.cmp) c.self.view_is, c.last_key-last.ensures) at c.close_block.ensures.ok in
    OnOk-with c.close_block.result _ _ (λ closed. inr (some, closed.0, closed.1, closed.2)) next

pub returns-then-entries-eq0-clause-ok : goal.returns-then-entries-eq0-clause-ok
returns-then-entries-eq0-clause-ok g c =
    let self = c.args.self.now in
    let none = ap (pairs_of None) (nil_from_length self.block.entries (sym (ap (λ builder. length builder.block.entries) c.self.view_is) ∙ sym c.entries.ensures ∙ c.if-entries-eq0.true)) in
    let unlined = c.requires.some none in
    record {
      next = first_key (stage self).open_pairs;
      bytes = [];
      put = PutsAll-none g.S.Sink.puts c.args.sink.now;
      laid = λ written pairs begun. (
        rw append-nil begun,
        record {
          none_open = none;
          accepted = λ some. absurd (some unlined);
          after = λ some. absurd (some unlined);
          successor = λ some. absurd (some unlined);
        },
      );
    }
