use Rattle.std.proofs.Common.{◌-◌, ◌+◌, ◌<◌, ◌≤◌, take, drop, length, subst, sym, ◌∙◌, length-take, length-drop, arith, Ok}
use Rattle.leveldb_env.specs.Source.{GivesSome}
use Rattle.leveldb_env.proofs.SourceLemmas.{GivesSome-more}
use Rattle.leveldb_mem.proofs.ReaderLemmas.{take-appended, range-appended, range-appended_all}
use Rattle.leveldb_mem.proofs.log.reader.draw.Goals as goal

pub loop-count-preserved : goal.loop-count-preserved
loop-count-preserved g c =
    let xs = c.loop-count.target in
    let ys = c.read_some.new.target in
    let at = c.loop-count.count in
    let more = c.in_ok-more.more in
    let inside : at ≤ length xs = omega arith in
    let before : c.args.there ≤ at = omega arith in
    let few : more ≤ length ys = omega (arith, c.in_ok-more.ensures.fits) in
    let some : 0 < length (take more ys) = simp length-take (omega arith) in
    let given = GivesSome-more g.S.Source.gives c.loop-count.invariant.3 some c.in_ok-more.ensures.gives in (
      omega arith,
      omega arith,
      take-appended xs ys c.args.there at _ inside before ∙ c.loop-count.invariant.2,
      subst (λ z. GivesSome g.S.Source.gives c.args.source.now z c.read_some.new.self) (sym (range-appended xs ys c.args.there at _ inside before more few)) given,
    )

pub returns-then-more-eq0-clause-short : goal.returns-then-more-eq0-clause-short
returns-then-more-eq0-clause-short g c = λ short.
    let xs = c.loop-count.target in
    let ys = c.read_some.new.target in
    let at = c.loop-count.count in
    let inside : at ≤ length xs = omega arith in
    let before : c.args.there ≤ at = omega arith in
    let source = c.args.source.now in
    let size = c.min-size.result in
    let room = length (take (at + size - at) (drop at xs)) in
    let nothing = subst (λ n. g.S.Source.gives c.loop-count.source room (Ok (take n ys)) c.read_some.new.self) c.if-more-eq0.true c.in_ok-more.ensures.gives in
    record {
      mid = c.loop-count.source;
      given_before = subst (λ z. GivesSome g.S.Source.gives source z c.loop-count.source) (sym (range-appended_all xs ys c.args.there at _ inside before)) c.loop-count.invariant.3;
      at_end = (room, simp (length-take, length-drop) (omega (arith, c.min-size.ensures)), nothing);
    }
