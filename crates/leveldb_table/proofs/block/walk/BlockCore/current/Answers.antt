use Rattle.std.proofs.Common.{length, ap, arith}
use Rattle.leveldb_table.proofs.BlockWalkLemmas.{fronts, ends_within}
use Rattle.leveldb_table.proofs.block.walk.BlockCore.current.Goals as goal

pub slice_bounds-result-end : goal.slice_bounds-result-end
slice_bounds-result-end g c =
    let ends = ends_within (fronts c.block.inside.entries.1) c.self.inside.key.items c.self.inside.spot c.in_ok-spot.spot (rw (← c.block.view_is, ← c.self.view_is) at c.requires) c.in_ok-spot.was in
    omega (arith, ends, ap length c.as_slice-2.ensures)
