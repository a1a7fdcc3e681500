use Rattle.std.proofs.Common.{ap, ◌∙◌, arith}
use Rattle.leveldb_mem.specs.Placed.{Placed}
use Rattle.leveldb_mem.proofs.LaidLemmas.{laid-take, pairs-take}
use Rattle.leveldb_mem.proofs.skipmap.placed.PlacedPairs.drop_tail.Goals as goal

pub invariant_of-self : goal.invariant_of-self
invariant_of-self c =
    let it = c.self.inside in
    let laid = c.self.invariant in (
      rw c.truncate.ensures.items (laid-take laid.0),
      laid.1,
      laid.2,
      laid.3,
      omega (arith, laid.4, c.truncate.ensures.len, c.truncate.ensures.capacity, c.len.ensures, laid.0.within, it.text.ok.0),
      omega (arith, laid.5, c.truncate.ensures.len, c.len.ensures, laid.0.within, it.text.ok.0),
      laid.6,
    )

pub returns-clause-pairs : goal.returns-clause-pairs
returns-clause-pairs c = rw c.truncate.ensures.items (pairs-take c.self.invariant.0) ∙ ap (λ (z : Placed). z.pairs) c.self.view_is
