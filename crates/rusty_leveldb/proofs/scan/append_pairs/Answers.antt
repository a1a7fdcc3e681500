-- Pairs come one after another, until there is none or enough of them came.
use Rattle.std.proofs.Common.{rules, ◌≡◌, ◌++◌, ◌∷◌, ◌+◌, ◌∙◌, [], Some, None, ap, append-nil, append_assoc, arith, refl, subst, sym}
use Rattle.std.proofs.lemmas.Bool.Decides.{nat_tests}
use Rattle.std.specs.Prelude.{map}
use Rattle.leveldb_base.specs.Types.{copied_pair}
use Rattle.rusty_leveldb.specs.Walks.Scan.{bytes_of_copy}
use Rattle.rusty_leveldb.proofs.Walks.ScanWalkLemmas.{HaveCome, kept_on, none_came, none_left, one_copied, one_more}
use Rattle.rusty_leveldb.proofs.scan.append_pairs.Goals as goal

pub loop-i-init : goal.loop-i-init
loop-i-init g c = (
  [],
  sym (append-nil c.args.pairs.now.items),
  none_came g.W.Walk g.met.W.Walk.laws c.args.scan (c.args.env.now, c.args.tables.now)
      c.args.walk.now,
)

pub returns-in-None : goal.returns-in-None
returns-in-None g c =
    let so_far = c.loop-i.invariant in
    let here : g.W.Walk.here c.go.new.walk ≡ None = sym c.current.ensures
    ∙ sym c.in_ok-pair.ensures.ok ∙ ap copied_pair c.in-None.is in (
      so_far.0,
      so_far.1,
      record {
        ok = λ order pairs over accepts. none_left g.W.Walk g.met.W.Walk.laws c.args.scan
            (c.args.env.now, c.args.tables.now) c.args.walk.now c.loop-i.i
            (map bytes_of_copy so_far.0) so_far.2
            (λ none. c.in_ok-go.ensures.first (grind (arith, nat_tests, none)))
            (λ some. c.in_ok-go.ensures.next (grind (arith, nat_tests, some))) refl here order
            pairs over accepts c.args.count c.loop-i-test.true;
        kept = kept_on g.W.Walk g.met.W.Walk.laws c.args.scan
            (c.args.env.now, c.args.tables.now) c.args.walk.now c.loop-i.i
            (map bytes_of_copy so_far.0) so_far.2
            (λ none. c.in_ok-go.ensures.first (grind (arith, nat_tests, none)))
            (λ some. c.in_ok-go.ensures.next (grind (arith, nat_tests, some)));
        cause = tt;
      },
    )

pub loop-i-preserved : goal.loop-i-preserved
loop-i-preserved g c =
    let so_far = c.loop-i.invariant in
    let pair = c.in-Some.pair in
    let here : g.W.Walk.here c.go.new.walk ≡ Some (bytes_of_copy pair) = sym c.current.ensures
    ∙ sym c.in_ok-pair.ensures.ok ∙ ap copied_pair c.in-Some.is in (
      so_far.0 ++ pair ∷ [],
      c.in_ok-push-in-Some.ensures.items ∙ ap (λ items. items ++ pair ∷ []) so_far.1
          ∙ append_assoc c.args.pairs.now.items so_far.0 (pair ∷ []),
      subst (λ given. HaveCome g.W.Walk c.args.scan (c.args.env.now, c.args.tables.now)
          c.args.walk.now (c.loop-i.i + 1) given (c.go.new.env, c.go.new.tables) c.go.new.walk)
          (one_copied so_far.0 pair)
          (one_more g.W.Walk g.met.W.Walk.laws c.args.scan (c.args.env.now, c.args.tables.now)
          c.args.walk.now c.loop-i.i (map bytes_of_copy so_far.0) so_far.2
          (λ none. c.in_ok-go.ensures.first (grind (arith, nat_tests, none)))
          (λ some. c.in_ok-go.ensures.next (grind (arith, nat_tests, some))) refl
          (bytes_of_copy pair) here),
    )
