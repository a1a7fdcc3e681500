use Rattle.std.proofs.Common.{◌≡◌, Bool, true, false, string_bytes, Some, sym, ◌∙◌, ap}
use Rattle.std.specs.Str.{bytes_eq}
use Rattle.leveldb_env.proofs.PicksLemmas.{next_tail}
use Rattle.leveldb_env.proofs.mem_env.picks.find_tail.Goals as goal
use Rattle.leveldb_env.proofs.mem_env.picks.find_tail.Goals.{After-eq}

-- what the test of the names says
tested : (c : After-eq) (b : Bool) → c.eq.result ≡ b → bytes_eq c.args.name.now (string_bytes c.loop-given-item.result.0) ≡ b
tested c b is = ap (bytes_eq c.args.name.now) (sym c.as_str.ensures.value) ∙ sym c.eq.ensures ∙ is

pub returns-then-eq : goal.returns-then-eq
returns-then-eq c =
    let same = tested (goal.at.returns-then-eq c).After-eq true c.if-eq.true in
    ap Some c.as_slice.ensures.value
    ∙ sym (next_tail c.args.name.now c.args.tails.now c.loop-given.given-index c.loop-given-item.result true c.loop-given-test.true c.loop-given-item.is same)
    ∙ c.loop-given.invariant

pub loop-given-preserved : goal.loop-given-preserved
loop-given-preserved c =
    let other = tested (goal.at.loop-given-preserved c).After-eq false c.if-eq.false in
    sym (next_tail c.args.name.now c.args.tails.now c.loop-given.given-index c.loop-given-item.result false c.loop-given-test.true c.loop-given-item.is other)
    ∙ c.loop-given.invariant
