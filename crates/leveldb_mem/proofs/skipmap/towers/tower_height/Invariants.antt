use Rattle.std.proofs.Common.{◌-◌}
use Rattle.leveldb_mem.proofs.TowersLemmas.{Draws}
use Rattle.leveldb_mem.proofs.skipmap.towers.tower_height.Given as goal

abbrev pub invariant-drawing : goal.invariant-drawing
invariant-drawing g l = Draws (g.G.Rng.stream l.fn.rng) (g.G.Rng.stream l.rng) l.height

abbrev pub decreases-drawing : goal.decreases-drawing
decreases-drawing g l = 12 - l.height
