use Rattle.std.proofs.Common.{rules, ◌≡◌, ◌++◌, ◌∷◌, [], ◌+◌, take, refl, sym, ◌∙◌, ap, append_assoc}
use Rattle.std.proofs.lemmas.List.{take_all, take_more}
use Rattle.leveldb_iter.proofs.MovesLemmas.{moves_more}
use Rattle.leveldb_iter.proofs.moves.make_moves.Goals as goal

pub loop-one-init : goal.loop-one-init
loop-one-init g c = (search rules, [], search rules, (refl, refl))

pub loop-one-preserved : goal.loop-one-preserved
loop-one-preserved g c =
    let so_far = c.loop-one.invariant in
    let moves = c.args.moves.now in
    let i = c.loop-one.one-index in
    let step = c.make_move-step.result in
    let pushed : c.push.new.self.items ≡ c.loop-one.steps.items ++ step ∷ [] = search rules in
    let given : c.push.new.self.items ≡ c.args.steps.now.items ++ (so_far.1 ++ step ∷ []) =
    pushed ∙ ap (λ items. items ++ step ∷ []) so_far.2 ∙ append_assoc c.args.steps.now.items so_far.1 (step ∷ []) in
    let more : take (i + 1) moves ≡ take i moves ++ c.one-item.result ∷ [] =
    take_more moves i c.one-item.result c.loop-one-test.true ∙ ap (λ one. take i moves ++ one ∷ []) (sym c.one-item.is) in (
      search rules,
      so_far.1 ++ step ∷ [],
      given,
      rw more (moves_more g.W.Walk (take i moves) so_far.1 _ _ so_far.3 c.make_move-step.ensures),
    )

pub returns : goal.returns
returns g c =
    let so_far = c.loop-one.invariant in
    let all : take c.loop-one.one-index c.args.moves.now ≡ c.args.moves.now = take_all c.loop-one.one-index c.args.moves.now c.loop-one-test.false in
    (so_far.1, so_far.2, rw all at so_far.3)
