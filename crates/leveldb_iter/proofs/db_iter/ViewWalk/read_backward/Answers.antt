use Rattle.std.proofs.Common.{arith, refl, inr, sym, ◌∙◌, ap, subst, not}
use Rattle.std.specs.Bool.{then_some}
use Rattle.std.proofs.lemmas.Bool.{false≢true}
use Rattle.leveldb_base.specs.Types.{Pair}
use Rattle.leveldb_iter.specs.DbIterSteps.{IsEntryRead}
use Rattle.leveldb_base.proofs.OrderLemmas.{bytes_same}
use Rattle.leveldb_iter.proofs.db_iter.ViewWalk.read_backward.Goals as goal

pub returns-then-ne-clause-ok : goal.returns-then-ne-clause-ok
returns-then-ne-clause-ok g c =
    let saved : Pair = (c.args.self.now.saved_key.items, c.args.self.now.saved_value.items) in
    let read = subst (IsEntryRead (g.M.Walk.here c.args.self.now.walk)) c.in-Some.is c.in_ok-kind.ensures.ok in (
      inr (
        read.0,
        saved,
        read.1,
        omega (arith, read.3, c.if-sequence-self.false),
        ap (λ b. then_some b saved) c.if-taken.true,
        (λ same. false≢true (sym (c.if-ne.ensures ∙ ap not (bytes_same c.in-Some.user.now c.as_slice.result.now (read.4 ∙ sym same ∙ sym c.as_slice.ensures.value))))),
      ),
      refl,
    )
