use Rattle.std.proofs.Common.{None, arith}
use Rattle.std.proofs.lemmas.Result.{err_from_is_err_and}
use Rattle.leveldb_repair.proofs.LookOverLemmas.{looked_more, looked_none, looks_begun, looks_ended, looks_endless, looks_next, looks_tagless, looks_unbegun, looks_unmoved}
use Rattle.leveldb_repair.proofs.look_over.look_over.Goals as goal

pub returns-in_err-seek_to_first : goal.returns-in_err-seek_to_first
returns-in_err-seek_to_first g c =
    let moves = c.in_err-seek_to_first.ensures.moves in
    let failed = err_from_is_err_and c.from_residual.result c.from_residual.ensures.1 in
    rw failed.1 (rw failed.2 (looks_unbegun g.W.Walk _ _ moves.same moves.kept moves.cause moves.excuses))

pub loop-init : goal.loop-init
loop-init g c =
    let moves = c.in_ok-seek_to_first.ensures.moves in
    looks_begun g.W.Walk _ _ looked_none moves.kept (λ order pairs over. moves.ok order pairs None over) moves.excuses

pub returns-in_default : goal.returns-in_default
returns-in_default g c =
    looks_ended g.W.Walk _ _ g.met.W.Walk.laws c.loop.invariant c.in_default.ensures

pub returns-then-key-lt-TAG_LEN : goal.returns-then-key-lt-TAG_LEN
returns-then-key-lt-TAG_LEN g c =
    let failed = err_from_is_err_and c.err.result c.err.ensures.code in
    rw failed.1 (looks_tagless g.W.Walk _ _ g.met.W.Walk.laws c.loop.invariant c.in-Some.ensures (omega (arith, c.if-key-lt-TAG_LEN.true)) failed.2)

pub returns-in_err-advance : goal.returns-in_err-advance
returns-in_err-advance g c =
    let moves = c.in_err-advance.ensures.moves in
    let failed = err_from_is_err_and c.from_residual-in_err-advance.result c.from_residual-in_err-advance.ensures.1 in
    rw failed.1 (rw failed.2 (looks_unmoved g.W.Walk _ _ g.met.W.Walk.laws c.loop.invariant moves.same moves.kept moves.cause moves.excuses))

pub loop-preserved : goal.loop-preserved
loop-preserved g c =
    let moves = c.in_ok-advance.ensures.moves in
    looks_next g.W.Walk _ _ g.met.W.Walk.laws c.loop.invariant c.in-Some.ensures
    (looked_more _ c.loop.invariant.looked (omega (arith, c.if-key-lt-TAG_LEN.false)) c.parse_internal_key-sequence.ensures.sequence c.max.ensures)
    moves.kept moves.ok moves.excuses

pub returns : goal.returns
returns g c = looks_endless g.W.Walk _ _ g.met.W.Walk.laws c.loop.invariant c.from.ensures
