use Rattle.std.proofs.Common.{◌≤◌, arith, length}
use Rattle.leveldb_mem.specs.Placed.{place_of}
use Rattle.leveldb_mem.proofs.Halving.{count-le}
use Rattle.leveldb_mem.proofs.skipmap.SkipMap.first_by.Goals as goal

pub after-requires-clause-node : goal.after-requires-clause-node
after-requires-clause-node g c =
    let it = c.self.inside in
    let path = c.path_to-path in
    let le = count-le (g.P.Probe.passes c.args.probe.now) it.pairs.pairs in
    let within : place_of it.pairs.order path.result ≤ length it.pairs.order = omega (arith, path.ensures.place, le, path.ensures.nodes) in
    within
