use Rattle.std.proofs.Common.{arith}
use Rattle.leveldb_base.proofs.VarintLemmas.{reads_wide}
use Rattle.leveldb_base.proofs.varint.get_varint32.Goals as goal

pub returns-in-Err : goal.returns-in-Err
returns-in-Err c = reads_wide c.args.src.now c.in_ok-n.n c.in_ok-n.used c.in_ok-n.ensures (omega (arith, c.in-Err.ensures))
