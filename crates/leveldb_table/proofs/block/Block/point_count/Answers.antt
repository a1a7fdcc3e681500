use Rattle.std.proofs.Common.{arith}
use Rattle.leveldb_table.proofs.BlockWalkLemmas.{sizes, points_some, points_first}
use Rattle.leveldb_table.proofs.block.Block.point_count.Goals as goal

pub overflow_sub-result : goal.overflow_sub-result
overflow_sub-result g c = omega (arith, sizes c.self.inside.entries.1, c.len.ensures.value)

pub overflow_sub-result-2 : goal.overflow_sub-result-2
overflow_sub-result-2 g c = omega (arith, sizes c.self.inside.entries.1, c.len.ensures.value)

pub returns-clause-count : goal.returns-clause-count
returns-clause-count g c = rw (← c.self.view_is) (omega (arith, sizes c.self.inside.entries.1, c.len.ensures.value))

pub returns-clause-some : goal.returns-clause-some
returns-clause-some g c =
    omega (arith, sizes c.self.inside.entries.1, c.len.ensures.value, points_some c.self.inside.entries.0 c.self.inside.entries.1.encoded.allowed)

pub returns-clause-first : goal.returns-clause-first
returns-clause-first g c = rw (← c.self.view_is) (points_first c.self.inside.entries.0 c.self.inside.entries.1.encoded.allowed)
