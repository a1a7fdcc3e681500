use Rattle.std.proofs.Common.{◌++◌, ◌∷◌, [], ◌+◌, ◌∙◌, sym, ap, subst, refl, None, inl, inr, arith}
use Rattle.leveldb_env.proofs.FilterBlockLemmas.{keeps_keys}
use Rattle.leveldb_table.specs.Block.{pairs_of}
use Rattle.leveldb_table.specs.TableBuilder.{TableBuilt, stage}
use Rattle.leveldb_table.specs.PutBlock.{IsTooLong}
use Rattle.leveldb_table.specs.TableBuilderStage.{with_pair}
use Rattle.leveldb_table.proofs.TableLemmas.{last_pushed}
use Rattle.leveldb_table.proofs.TableBuilderAddLemmas.{taken_after, takes_no_pair, broken_clash}
use Rattle.leveldb_table.proofs.TableBuilderStageLemmas.{laid_added, after_all, open_rises, sound_added}
use Rattle.leveldb_table.proofs.RefusalLemmas.{IfErr-passed, OnOk-refused}
use Rattle.leveldb_table.proofs.table_builder.builder_core.BuilderCore.add.Goals as goal

pub make_room-requires-clause-sound : goal.make_room-requires-clause-sound
make_room-requires-clause-sound g c =
    let core = c.self.inside in
    let requires = rw (← c.self.view_is) at c.requires in
    let unbroken = rw (← c.self.view_is) at c.in_ok-check_unbroken.ensures.ok in
    let sound = core.sound unbroken in (
      sound.ready,
      record {
        accepted = requires.accepted unbroken;
        after = after_all (g.C.Cmp.cmp core.block.cmp) (pairs_of None core.index.entries) (pairs_of None core.block.entries) c.args.key.now core.count sound.some sound.none (requires.rising unbroken);
      },
    )

pub add-requires : goal.add-requires
add-requires g c =
    let ready = c.in_ok-make_room.ensures.room.1 in
    rw (ap (λ builder. builder.block) c.self-2.view_is) (open_rises (stage c.make_room.new.self) c.args.key.now c.args.value.now ready.0 ready.1)

pub invariant_of-self-inside-2 : goal.invariant_of-self-inside-2
invariant_of-self-inside-2 g c =
    let same = c.self-2.view_is in
    let after = c.self-2.inside in
    let mid : TableBuilt g.row.C.Denot g.row.FP.Denot = record { block = after.block; index = after.index; filter = after.filter; offset = after.offset; count = after.count; broken = after.broken; compressor = after.compressor; block_size = after.block_size } in
    let ready = rw (← same) at c.in_ok-make_room.ensures.room.1 in (
      (c.in_ok-add.ensures.ok.1, after.started.1),
      (
        λ _. rw (c.in_ok-add.ensures.order, c.in_ok-add.ensures.interval, c.in_ok-add.ensures.ok.0.pairs, c.in_ok-add_key.ensures.ok, c.in_ok-self-inside.ensures.ok)
            (sound_added (stage mid) c.args.key.now c.args.value.now ready.0 ready.1),
        tt,
      ),
    )

pub returns-in_err-check_unbroken-clause-err : goal.returns-in_err-check_unbroken-clause-err
returns-in_err-check_unbroken-clause-err g c =
    let broken = c.in_err-check_unbroken.ensures.err in
    IfErr-passed _ c.from_residual.result c.from_residual.ensures.1 (record {
      refused = broken.0;
      still = refl;
      cause = inl (broken.0, broken.1, refl);
      sink = inl refl;
      unset = λ unbroken full none. absurd (broken_clash broken.0 unbroken);
      broken = λ _. (broken.1, refl, refl);
    })

pub returns-in_err-make_room-clause-err : goal.returns-in_err-make_room-clause-err
returns-in_err-make_room-clause-err g c =
    let it = c.self.inside in
    let core : TableBuilt g.row.C.Denot g.row.FP.Denot = record { block = it.block; index = it.index; filter = it.filter; offset = it.offset; count = it.count; broken = it.broken; compressor = it.compressor; block_size = it.block_size } in
    let unbroken = rw (← c.self.view_is) at c.in_ok-check_unbroken.ensures.ok in
    rw (← c.self.view_is) (IfErr-passed _ c.from_residual-in_err-make_room.result c.from_residual-in_err-make_room.ensures.1 (takes_no_pair unbroken c.make_room.ensures.still.1 c.make_room.ensures.still.0
    (inr (inl c.in_err-make_room.ensures.cause))
    (λ full none. c.in_err-make_room.ensures.unset full none)))

pub returns-in_err-add_key-clause-err : goal.returns-in_err-add_key-clause-err
returns-in_err-add_key-clause-err g c =
    let it = c.self.inside in
    let core : TableBuilt g.row.C.Denot g.row.FP.Denot = record { block = it.block; index = it.index; filter = it.filter; offset = it.offset; count = it.count; broken = it.broken; compressor = it.compressor; block_size = it.block_size } in
    let unbroken = rw (← c.self.view_is) at c.in_ok-check_unbroken.ensures.ok in
    rw (← c.self.view_is) (IfErr-passed _ c.from_residual-in_err-add_key.result c.from_residual-in_err-add_key.ensures.1 (takes_no_pair unbroken (ap (λ builder. builder.broken) c.self-2.view_is ∙ c.make_room.ensures.still.1) (ap (λ builder. builder.count) c.self-2.view_is ∙ c.make_room.ensures.still.0)
    (taken_after g.C.Cmp g.FP.FilterPolicy _ core g.S.Sink.puts (c.args.key.now, c.args.value.now) c.make_room.new.self c.args.sink.now c.in_err-add_key.field-0.0 c.make_room.new.sink c.in_ok-make_room.ensures.room.0 (inl c.in_err-add_key.ensures.memory))
    (λ full none. absurd (c.in_ok-make_room.ensures.unset full none).0)))

pub returns-in_err-add-clause-err : goal.returns-in_err-add-clause-err
returns-in_err-add-clause-err g c =
    let large = rw (ap (λ builder. builder.block) c.self-2.view_is) at c.in_err-add.ensures.too_large.0 in
    let it = c.self.inside in
    let core : TableBuilt g.row.C.Denot g.row.FP.Denot = record { block = it.block; index = it.index; filter = it.filter; offset = it.offset; count = it.count; broken = it.broken; compressor = it.compressor; block_size = it.block_size } in
    let unbroken = rw (← c.self.view_is) at c.in_ok-check_unbroken.ensures.ok in
    rw (← c.self.view_is) (IfErr-passed _ c.from_residual-in_err-add.result c.from_residual-in_err-add.ensures.1 (takes_no_pair unbroken (ap (λ builder. builder.broken) c.self-2.view_is ∙ c.make_room.ensures.still.1) (ap (λ builder. builder.count) c.self-2.view_is ∙ c.make_room.ensures.still.0)
    (taken_after g.C.Cmp g.FP.FilterPolicy _ core g.S.Sink.puts (c.args.key.now, c.args.value.now) c.make_room.new.self c.args.sink.now c.in_err-add.field-0.0 c.make_room.new.sink c.in_ok-make_room.ensures.room.0 (elim c.in_err-add.ensures.cause [ inl code ↦ inr (inr (code, large code)) | inr memory ↦ inl memory ]))
    (λ full none. absurd (c.in_ok-make_room.ensures.unset full none).0)))

pub returns-in_err-self-inside-clause-err : goal.returns-in_err-self-inside-clause-err
returns-in_err-self-inside-clause-err g c =
    let it = c.self.inside in
    let core : TableBuilt g.row.C.Denot g.row.FP.Denot = record { block = it.block; index = it.index; filter = it.filter; offset = it.offset; count = it.count; broken = it.broken; compressor = it.compressor; block_size = it.block_size } in
    let unbroken = rw (← c.self.view_is) at c.in_ok-check_unbroken.ensures.ok in
    rw (← c.self.view_is) (IfErr-passed _ c.from_residual-in_err-self-inside.result c.from_residual-in_err-self-inside.ensures.1 (takes_no_pair unbroken (ap (λ builder. builder.broken) c.self-2.view_is ∙ c.make_room.ensures.still.1) (ap (λ builder. builder.count) c.self-2.view_is ∙ c.make_room.ensures.still.0)
    (taken_after g.C.Cmp g.FP.FilterPolicy _ core g.S.Sink.puts (c.args.key.now, c.args.value.now) c.make_room.new.self c.args.sink.now c.in_err-self-inside.field-0.0 c.make_room.new.sink c.in_ok-make_room.ensures.room.0 (inr (inl (subst (λ n. IsTooLong (n + 1) c.in_err-self-inside.field-0.0) (ap (λ builder. builder.count) c.self-2.view_is ∙ c.make_room.ensures.still.0) c.in_err-self-inside.ensures.cause))))
    (λ full none. absurd (c.in_ok-make_room.ensures.unset full none).0)))

pub returns-clause-ok : goal.returns-clause-ok
returns-clause-ok g c =
    let same = c.self-2.view_is in
    let after = c.self-2.inside in
    let mid : TableBuilt g.row.C.Denot g.row.FP.Denot = record { block = after.block; index = after.index; filter = after.filter; offset = after.offset; count = after.count; broken = after.broken; compressor = after.compressor; block_size = after.block_size } in
    let made = c.in_ok-make_room.ensures in
    let all_laid = rw (← same) at made.ok.laid in
    let room = rw (← same) at made.room in
    let old = c.self.inside in
    let requires = rw (← c.self.view_is) at c.requires in
    let unbroken = rw (← c.self.view_is) at c.in_ok-check_unbroken.ensures.ok in
    let choices = rw (← same) at c.make_room.ensures.choices in
    let keeps = keeps_keys g.FP.FilterPolicy.filter_for g.FP.FilterPolicy.matches g.met.FP.FilterPolicy.finds in
    rw (← c.self.view_is) (record {
      added = record {
        bytes = made.ok.bytes;
        put = made.ok.put;
        begun = λ written pairs begun.
            let laid = all_laid written pairs begun in
            rw (c.in_ok-add.ensures.order, c.in_ok-add.ensures.interval, choices.same_order, c.in_ok-add.ensures.ok.0.pairs, c.in_ok-add_key.ensures.ok, c.in_ok-self-inside.ensures.ok, choices.same_compressor)
            (laid_added _ (g.C.Cmp.accepts old.block.cmp) (g.C.Cmp.cmp old.block.cmp) (g.C.Cmp.shortest_sep old.block.cmp) g.FP.FilterPolicy.filter_for g.FP.FilterPolicy.matches keeps
            (stage mid) c.args.key.now c.args.value.now (written ++ made.ok.bytes) pairs (requires.accepted unbroken) laid.1 room.1.0.filtered
            (rw (sym choices.same_policy) at laid.0));
      };
      full = λ full.
          elim room.0 [
            | inl left ↦ absurd (left.0 full)
            | inr closed ↦ c.in_ok-add.ensures.ok.0.pairs ∙ ap (λ entries. pairs_of None entries ++ (c.args.key.now, c.args.value.now) ∷ []) closed.1
          ];
      closed = λ full.
          elim room.0 [
            | inl left ↦ absurd (left.0 full)
            | inr (is, empty, bytes, put, closes) ↦
                record {
                  bytes = bytes;
                  mid = stage mid;
                  put = put;
                  closes = closes;
                  added = rw (c.in_ok-add.ensures.interval, c.in_ok-add.ensures.ok.0.pairs, c.in_ok-add_key.ensures.ok, c.in_ok-self-inside.ensures.ok) refl;
                }
          ];
      stored = λ full none. (made.unset full none).0;
      room = λ not_full.
          elim room.0 [
            | inl left ↦ (
              rw (c.in_ok-add.ensures.interval, c.in_ok-add.ensures.ok.0.pairs, c.in_ok-add_key.ensures.ok, c.in_ok-self-inside.ensures.ok) (ap (with_pair (c.args.key.now, c.args.value.now)) left.1),
              left.3,
            )
            | inr closed ↦ absurd (not_full closed.0)
          ];
      last = rw (c.in_ok-add.ensures.ok.0.pairs) (last_pushed (pairs_of None mid.block.entries) (c.args.key.now, c.args.value.now));
      count = c.in_ok-self-inside.ensures.ok ∙ ap (λ n. n + 1) (ap (λ builder. builder.count) c.self-2.view_is ∙ c.make_room.ensures.still.0);
      counted = omega arith;
      unbroken = (unbroken, refl);
    })

pub returns-in_err-check_unbroken-clause-ok : goal.returns-in_err-check_unbroken-clause-ok
returns-in_err-check_unbroken-clause-ok g c = OnOk-refused _ _ c.from_residual.result c.from_residual.ensures.1

pub returns-in_err-make_room-clause-ok : goal.returns-in_err-make_room-clause-ok
returns-in_err-make_room-clause-ok g c = OnOk-refused _ _ c.from_residual-in_err-make_room.result c.from_residual-in_err-make_room.ensures.1

pub returns-in_err-add_key-clause-ok : goal.returns-in_err-add_key-clause-ok
returns-in_err-add_key-clause-ok g c = OnOk-refused _ _ c.from_residual-in_err-add_key.result c.from_residual-in_err-add_key.ensures.1

pub returns-in_err-add-clause-ok : goal.returns-in_err-add-clause-ok
returns-in_err-add-clause-ok g c = OnOk-refused _ _ c.from_residual-in_err-add.result c.from_residual-in_err-add.ensures.1

pub returns-in_err-self-inside-clause-ok : goal.returns-in_err-self-inside-clause-ok
returns-in_err-self-inside-clause-ok g c = OnOk-refused _ _ c.from_residual-in_err-self-inside.result c.from_residual-in_err-self-inside.ensures.1

pub returns-in_err-check_unbroken-clause-choices : goal.returns-in_err-check_unbroken-clause-choices
returns-in_err-check_unbroken-clause-choices g c = record { same_order = refl; same_policy = refl; same_compressor = refl; same_size = refl; same_intervals = (refl, refl) }

pub returns-clause-err : goal.returns-clause-err
returns-clause-err g c = tt
