use Rattle.std.proofs.Common.{arith}
use Rattle.leveldb_table.proofs.BlockCheckLemmas.{begins_read, begins_test}
use Rattle.leveldb_table.proofs.block.entry.begins_at.Goals as goal

pub returns-then-points-ge4 : goal.returns-then-points-ge4
returns-then-points-ge4 c = begins_read c.args.points.now c.args.offset c.read_u32.result (omega arith) c.read_u32.ensures

pub returns-else-points-ge4 : goal.returns-else-points-ge4
returns-else-points-ge4 c = begins_test c.args.points.now c.args.offset (omega arith)
