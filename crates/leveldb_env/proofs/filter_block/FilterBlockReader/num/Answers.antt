use Rattle.std.proofs.Common.{arith, ap, length}
use Rattle.leveldb_env.proofs.FilterBlockLemmas.{whole_size, same_filters}
use Rattle.leveldb_env.proofs.filter_block.FilterBlockReader.num.Goals as goal

pub overflow_sub-result : goal.overflow_sub-result
overflow_sub-result g c = let held = c.self.inside.held.1 in omega (arith, whole_size held.block, held.ends)

pub overflow_sub-result-2 : goal.overflow_sub-result-2
overflow_sub-result-2 g c = let held = c.self.inside.held.1 in omega (arith, whole_size held.block, held.ends)

pub returns : goal.returns
returns g c =
    let held = c.self.inside.held.1 in
    omega (arith, whole_size held.block, held.ends, ap length (same_filters c.self.view_is))
