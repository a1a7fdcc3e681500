use Rattle.std.proofs.Common.{◌≡◌, sym, ◌∙◌, refl, arith}
use Rattle.leveldb_base.proofs.WordsLemmas.{bytewise-byte, bytewise-end, unequal-then, equal-then}
use Rattle.leveldb_base.proofs.cmp.words.cmp_by_bytes.Goals as goal

pub loop-i-init : goal.loop-i-init
loop-i-init c = refl

pub returns-then-a-i : goal.returns-then-a-i
returns-then-a-i c =
    let step = bytewise-byte c.loop-i.i c.args.a.now c.args.b.now (omega arith) (omega arith) in
    c.cmp.ensures ∙ sym (c.loop-i.invariant ∙ step ∙ unequal-then _ _ _ c.if-a-i.true)

pub loop-i-preserved : goal.loop-i-preserved
loop-i-preserved c =
    let step = bytewise-byte c.loop-i.i c.args.a.now c.args.b.now (omega arith) (omega arith) in
    c.loop-i.invariant ∙ step ∙ equal-then _ _ _ c.if-a-i.false

pub returns : goal.returns
returns c =
    let end : c.loop-i.i ≡ c.min-i-end.result = omega arith in
    c.cmp-2.ensures ∙ sym (c.loop-i.invariant ∙ bytewise-end c.loop-i.i c.args.a.now c.args.b.now (end ∙ c.min-i-end.ensures))
