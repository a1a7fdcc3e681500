use Rattle.std.proofs.Common.{ap, arith, length}
use Rattle.leveldb_mem.specs.Placed.{Placed, head, nodes_after, pairs_length}
use Rattle.leveldb_mem.proofs.PlacedLemmas.{length-pairs_of_nodes, length-nodes_after}
use Rattle.leveldb_mem.proofs.skipmap.placed.PlacedPairs.memory.Goals as goal

pub returns-clause-value : goal.returns-clause-value
returns-clause-value c =
    let it = c.self.inside in
    let nodes = nodes_after it.words.items head it.count in
    omega (
      arith,
      ap (λ (z : Placed). length z.pairs) c.self.view_is,
      ap (λ (z : Placed). pairs_length z.pairs) c.self.view_is,
      length-pairs_of_nodes it.text.items it.words.items nodes,
      length-nodes_after it.words.items head it.count,
      c.self.invariant.0.filled,
    )
