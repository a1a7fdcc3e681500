use Rattle.std.proofs.Common.{◌≤◌, arith, length}
use Rattle.std.specs.Ordering.{is_lt}
use Rattle.leveldb_mem.specs.Placed.{place_of}
use Rattle.leveldb_mem.proofs.Halving.{count-le, count_before-is}
use Rattle.leveldb_mem.proofs.skipmap.SkipMap.first_at.Goals as goal

pub after-requires-clause-node : goal.after-requires-clause-node
after-requires-clause-node g c =
    let it = c.self.inside in
    let path = c.path_before-path in
    let cmp = g.C.Cmp.cmp it.cmp in
    let le = count-le (λ k. is_lt (cmp k c.args.key.now)) it.pairs.pairs in
    let same = count_before-is cmp c.args.key.now it.pairs.pairs in
    let within : place_of it.pairs.order path.result ≤ length it.pairs.order = omega (arith, path.ensures.place, same, le, path.ensures.nodes) in
    within
