use Rattle.std.proofs.Common.{◌≡◌, [], true, length, ◌∙◌, sym, ap, subst, arith, refl, inl, inr, None}
use Rattle.std.specs.declared.cmp.Ordering.TheVariants.{Less, Greater}
use Rattle.leveldb_env.proofs.SinkLemmas.{PutsAll-one, PutsAll-none}
use Rattle.leveldb_env.proofs.FilterBlockLemmas.{keeps_keys}
use Rattle.leveldb_table.specs.Block.{pairs_of}
use Rattle.leveldb_table.specs.BlockBuilder.{estimate}
use Rattle.leveldb_table.specs.TableBuilderStage.{Follows, first_key}
use Rattle.leveldb_table.specs.TableBuilder.{stage, IsFull}
use Rattle.leveldb_table.proofs.TableLemmas.{OnOk-with, OnOk-both, IfErr-with, is_line}
use Rattle.leveldb_table.proofs.TableBuilderAddLemmas.{is_full, not_full}
use Rattle.leveldb_table.proofs.table_builder.builder_core.BuilderCore.make_room.Goals.{else-entries-gt0-via-then-entries-gt0+else-size_estimate-self, else-entries-gt0-via-else-entries-gt0}
use Rattle.leveldb_table.proofs.TableBuilderStageLemmas.{laid_anew, follows_closed, laid_room, follows_all, after_open, some_pairs}
use Rattle.leveldb_table.proofs.table_builder.builder_core.BuilderCore.make_room.Goals as goal

pub close_block-requires-clause-closable : goal.close_block-requires-clause-closable
close_block-requires-clause-closable g c =
    let some = some_pairs c.args.self.now.block.entries (omega (arith, c.if-entries-gt0.true, c.entries.ensures, ap (λ builder. length builder.block.entries) c.self.view_is)) in
    let less = after_open (g.C.Cmp.cmp c.args.self.now.block.cmp) (pairs_of None c.args.self.now.index.entries) (pairs_of None c.args.self.now.block.entries) c.args.next.now some c.requires.sound.1.after in
    record {
      ready = c.requires.sound.0;
      some = some;
      accepted = c.requires.sound.1.accepted;
      after = λ e. let clash : Less ≡ Greater = sym less ∙ e in cc;
    }

pub returns-then-size_estimate-self-clause-ok : goal.returns-then-size_estimate-self-clause-ok
returns-then-size_estimate-self-clause-ok g c =
    let some = some_pairs c.args.self.now.block.entries (omega (arith, c.if-entries-gt0.true, c.entries.ensures, ap (λ builder. length builder.block.entries) c.self.view_is)) in
    let keeps = keeps_keys g.FP.FilterPolicy.filter_for g.FP.FilterPolicy.matches g.met.FP.FilterPolicy.finds in
    let cmp = g.C.Cmp.cmp c.args.self.now.block.cmp in
    OnOk-with c.close_block.result _ _ (λ closed. record {
      bytes = closed.0;
      put = PutsAll-one g.S.Sink.puts closed.1;
      laid = λ written pairs begun. (
        laid_anew _ (g.C.Cmp.accepts c.args.self.now.block.cmp) cmp (g.C.Cmp.shortest_sep c.args.self.now.block.cmp) g.FP.FilterPolicy.filter_for g.FP.FilterPolicy.matches keeps
            (stage c.args.self.now) (stage c.close_block.new.self) c.args.self.now.compressor c.args.next.now closed.0 written pairs some c.close_block.ensures.choices.same_policy closed.2 begun,
        follows_all _ (g.C.Cmp.accepts c.args.self.now.block.cmp) cmp (g.C.Cmp.shortest_sep c.args.self.now.block.cmp) g.FP.FilterPolicy.filter_for g.FP.FilterPolicy.matches keeps (g.FP.FilterPolicy.matches c.args.self.now.filter.policy)
            (stage c.args.self.now) (first_key (stage c.args.self.now).open_pairs) c.args.next.now written pairs c.requires.some c.requires.sound.1 begun,
      );
    }) c.close_block.ensures.ok

pub returns-clause-ok : goal.returns-clause-ok
returns-clause-ok g c =
    let keeps = keeps_keys g.FP.FilterPolicy.filter_for g.FP.FilterPolicy.matches g.met.FP.FilterPolicy.finds in
    let cmp = g.C.Cmp.cmp c.args.self.now.block.cmp in
    record {
      bytes = [];
      put = PutsAll-none g.S.Sink.puts c.args.sink.now;
      laid = λ written pairs begun. (
        laid_room _ (g.C.Cmp.accepts c.args.self.now.block.cmp) cmp (g.C.Cmp.shortest_sep c.args.self.now.block.cmp) g.FP.FilterPolicy.filter_for g.FP.FilterPolicy.matches keeps (g.FP.FilterPolicy.matches c.args.self.now.filter.policy)
            (stage c.args.self.now) c.args.next.now written pairs c.requires.some begun,
        follows_all _ (g.C.Cmp.accepts c.args.self.now.block.cmp) cmp (g.C.Cmp.shortest_sep c.args.self.now.block.cmp) g.FP.FilterPolicy.filter_for g.FP.FilterPolicy.matches keeps (g.FP.FilterPolicy.matches c.args.self.now.filter.policy)
            (stage c.args.self.now) (first_key (stage c.args.self.now).open_pairs) c.args.next.now written pairs c.requires.some c.requires.sound.1 begun,
      );
    }

pub returns-then-size_estimate-self-clause-room : goal.returns-then-size_estimate-self-clause-room
returns-then-size_estimate-self-clause-room g c =
    let full = is_full c.args.self.now (omega (arith, c.if-entries-gt0.true, c.entries.ensures, ap (λ builder. length builder.block.entries) c.self.view_is)) (omega (arith, c.if-size_estimate-self.true, rw c.self.inside.started.0 at c.size_estimate.ensures, ap (λ builder. builder.block_size) c.self.view_is, ap (λ builder. estimate builder.block.entries true) c.self.view_is)) in
    let some = some_pairs c.args.self.now.block.entries (omega (arith, c.if-entries-gt0.true, c.entries.ensures, ap (λ builder. length builder.block.entries) c.self.view_is)) in
    let keeps = keeps_keys g.FP.FilterPolicy.filter_for g.FP.FilterPolicy.matches g.met.FP.FilterPolicy.finds in
    let cmp = g.C.Cmp.cmp c.args.self.now.block.cmp in
    let less = after_open cmp (pairs_of None c.args.self.now.index.entries) (pairs_of None c.args.self.now.block.entries) c.args.next.now some c.requires.sound.1.after in
    let line = is_line (g.met.C.Cmp.preorder c.args.self.now.block.cmp) (g.C.Cmp.shortest_sep c.args.self.now.block.cmp) (g.met.C.Cmp.separates c.args.self.now.block.cmp)
    (pairs_of None c.args.self.now.index.entries) (pairs_of None c.args.self.now.block.entries) c.args.next.now [] some c.requires.sound.0.rise c.requires.sound.0.accepted c.requires.sound.1.accepted
    (λ e. let clash : Less ≡ Greater = sym less ∙ e in cc) in
    OnOk-both c.close_block.result _ _ _ (λ closed ready. (
      inr (full, ready.1, closed.0, closed.1, closed.2),
      (
        ready.0,
        subst (λ o. Follows (g.C.Cmp.accepts o) (g.C.Cmp.cmp o) (stage c.close_block.new.self) c.args.next.now) (sym c.close_block.ensures.choices.same_order)
            (follows_closed _ (g.C.Cmp.accepts c.args.self.now.block.cmp) cmp (g.C.Cmp.shortest_sep c.args.self.now.block.cmp) g.FP.FilterPolicy.filter_for g.FP.FilterPolicy.matches keeps
            (stage c.args.self.now) (stage c.close_block.new.self) c.args.self.now.compressor c.args.next.now closed.0 closed.2 c.requires.sound.1.accepted (line.before less)),
      ),
    ))
    c.close_block.ensures.ok c.close_block.ensures.ready

pub returns-then-size_estimate-self-clause-cause : goal.returns-then-size_estimate-self-clause-cause
returns-then-size_estimate-self-clause-cause g c =
    let full = is_full c.args.self.now (omega (arith, c.if-entries-gt0.true, c.entries.ensures, ap (λ builder. length builder.block.entries) c.self.view_is)) (omega (arith, c.if-size_estimate-self.true, rw c.self.inside.started.0 at c.size_estimate.ensures, ap (λ builder. builder.block_size) c.self.view_is, ap (λ builder. estimate builder.block.entries true) c.self.view_is)) in
    IfErr-with c.close_block.result _ _ (λ status why. (full, why)) c.close_block.ensures.cause

pub returns-clause-room : goal.returns-clause-room
returns-clause-room g c =
    let room : IsFull c.args.self.now → ⊥ =
    elim c.else-entries-gt0.branch [
      | else-entries-gt0-via-then-entries-gt0+else-size_estimate-self w ↦ not_full c.args.self.now (inr (omega (arith, w.if-size_estimate-self.false, rw c.self.inside.started.0 at w.size_estimate.ensures, ap (λ builder. builder.block_size) c.self.view_is, ap (λ builder. estimate builder.block.entries true) c.self.view_is)))
      | else-entries-gt0-via-else-entries-gt0 w ↦ not_full c.args.self.now (inl (omega (arith, w.if-entries-gt0.false, c.entries.ensures, ap (λ builder. length builder.block.entries) c.self.view_is)))
    ]
    in (inl (room, refl, refl, refl), c.requires.sound)
