use Rattle.std.proofs.Common.{◌≡◌, ◌*◌, ◌/◌, drop, sym, ◌∙◌, ap, ap₂, refl, arith}
use Rattle.std.proofs.lemmas.List.{take_rest}
use Rattle.leveldb_base.specs.Cmp.{bytewise}
use Rattle.leveldb_base.proofs.WordsLemmas.{bytewise-word, unequal-then, equal-then}
use Rattle.leveldb_base.proofs.cmp.words.cmp_by_words.Goals as goal

pub loop-i-init : goal.loop-i-init
loop-i-init c = refl

pub returns-then-x-y : goal.returns-then-x-y
returns-then-x-y c =
    let word = bytewise-word c.loop-i.i c.args.a.now c.args.b.now _ _ (omega arith) (omega arith)
    (λ k. omega (arith, c.type_inv.a k)) (λ k. omega (arith, c.type_inv.b k)) c.read_u64-x.ensures c.read_u64-y.ensures in
    c.cmp.ensures ∙ sym (c.loop-i.invariant ∙ word ∙ unequal-then _ _ _ c.if-x-y.true)

pub loop-i-preserved : goal.loop-i-preserved
loop-i-preserved c =
    let word = bytewise-word c.loop-i.i c.args.a.now c.args.b.now _ _ (omega arith) (omega arith)
    (λ k. omega (arith, c.type_inv.a k)) (λ k. omega (arith, c.type_inv.b k)) c.read_u64-x.ensures c.read_u64-y.ensures in
    c.loop-i.invariant ∙ word ∙ equal-then _ _ _ c.if-x-y.false

pub returns : goal.returns
returns c =
    let at : c.loop-i.i ≡ c.min-words.result / 8 = omega arith in
    let a : _ = take_rest c.args.a.now (c.min-words.result / 8 * 8) in
    let b : _ = take_rest c.args.b.now (c.min-words.result / 8 * 8) in
    c.cmp_by_bytes.ensures ∙ ap₂ bytewise a b
    ∙ sym (c.loop-i.invariant ∙ ap (λ n. bytewise (drop (n * 8) c.args.a.now) (drop (n * 8) c.args.b.now)) at)
