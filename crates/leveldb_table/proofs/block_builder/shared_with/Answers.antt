use Rattle.std.proofs.Common.{◌≡◌, ◌<◌, length, take, subst, arith}
use Rattle.leveldb_table.proofs.BlockBuilderLemmas.{front_differs, front_whole}
use Rattle.leveldb_table.proofs.block_builder.shared_with.Goals as goal

pub returns-then-last-i-clause-longest : goal.returns-then-last-i-clause-longest
returns-then-last-i-clause-longest c = λ no.
    let here : c.loop-i.i < length c.args.last.now = omega (arith, c.min-longest.ensures) in
    let there : c.loop-i.i < length c.args.key.now = omega (arith, c.min-longest.ensures) in
    front_differs c.args.last.now c.args.key.now c.loop-i.i c.loop-i.invariant here there c.if-last-i.true

pub returns-clause-longest : goal.returns-clause-longest
returns-clause-longest c = λ no.
    let end : c.loop-i.i ≡ c.min-longest.result = omega arith in
    front_whole c.args.last.now c.args.key.now c.min-longest.result (subst (λ n. take n c.args.last.now ≡ take n c.args.key.now) end c.loop-i.invariant) c.min-longest.ensures
