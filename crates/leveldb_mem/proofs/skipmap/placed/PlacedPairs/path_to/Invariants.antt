use Rattle.std.proofs.Common.{◌+◌, ◌-◌, ◌∷◌, length}
use Rattle.leveldb_mem.specs.Placed.{head, rank, nodes_after}
use Rattle.leveldb_mem.proofs.PathLemmas.{Searches, IsPast}
use Rattle.leveldb_mem.proofs.skipmap.placed.PlacedPairs.path_to.Given as goal

abbrev pub invariant-descent : goal.invariant-descent
invariant-descent g l =
    let it = l.self-inside in
    Searches (g.P.Probe.passes l.probe) it.text.items it.words.items (nodes_after it.words.items head it.count) l.from l.node l.height l.path
    × IsPast (g.P.Probe.passes l.probe) it.text.items it.words.items l.stop

abbrev pub decreases-descent : goal.decreases-descent
decreases-descent g l =
    let it = l.self-inside in
    let nodes = nodes_after it.words.items head it.count in
    l.height + (length nodes + 1 - rank (head ∷ nodes) l.node)
