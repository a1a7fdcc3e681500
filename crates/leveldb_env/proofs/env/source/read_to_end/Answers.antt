use Rattle.std.proofs.Common.{rules, ◌<◌, length, take, length-take, arith}
use Rattle.leveldb_env.proofs.SourceLemmas.{GivesSome-more}
use Rattle.leveldb_env.proofs.env.source.read_to_end.Goals as goal

pub loop-all-preserved : goal.loop-all-preserved
loop-all-preserved g c =
    let some : 0 < length (take c.in_ok-count.count c.read_some.new.target) = simp length-take (omega (arith, c.in_ok-count.ensures.fits)) in
    let more = GivesSome-more g.S.Source.gives c.loop-all.invariant.1 some c.in_ok-count.ensures.gives in
    (grind arith, rw c.in_ok-extend_from_slice.ensures.items more)

pub returns-in_err-extend_from_slice-clause-err : goal.returns-in_err-extend_from_slice-clause-err
returns-in_err-extend_from_slice-clause-err g c =
    let some : 0 < length (take c.in_ok-count.count c.read_some.new.target) = simp length-take (omega (arith, c.in_ok-count.ensures.fits)) in
    let more = GivesSome-more g.S.Source.gives c.loop-all.invariant.1 some c.in_ok-count.ensures.gives in
    search (rules, more)
