use Rattle.std.proofs.Common.{arith}
use Rattle.leveldb_table.proofs.BlockWalkLemmas.{fronts, ends_within}
use Rattle.leveldb_table.proofs.block.walk.BlockCore.shared_value.Goals as goal

pub slice-requires-clause-in_bounds : goal.slice-requires-clause-in_bounds
slice-requires-clause-in_bounds g c =
    let ends = ends_within (fronts c.block.inside.entries.1) c.self.inside.key.items c.self.inside.spot c.in-Some.spot (rw (← c.block.view_is, ← c.self.view_is) at c.requires) c.in-Some.is in
    omega (arith, ends)
