use Rattle.std.proofs.Common.{◌∙◌, ap, sym, length}
use Rattle.leveldb_mem.specs.Placed.{Placed, head}
use Rattle.leveldb_mem.proofs.PlacedLemmas.{length_is, length-nodes_after}
use Rattle.leveldb_mem.proofs.skipmap.placed.PlacedPairs.len.Goals as goal

pub returns-clause-value : goal.returns-clause-value
returns-clause-value c =
    let order_is = ap (λ (z : Placed). z.order) c.self.view_is in
    sym (length-nodes_after c.self.inside.words.items head c.self.inside.count) ∙ ap length order_is ∙ length_is c.self.invariant.0 order_is (ap (λ (z : Placed). z.pairs) c.self.view_is)

pub returns-clause-nodes : goal.returns-clause-nodes
returns-clause-nodes c = length_is c.self.invariant.0 (ap (λ (z : Placed). z.order) c.self.view_is) (ap (λ (z : Placed). z.pairs) c.self.view_is)
