use Rattle.std.proofs.Common.{arith}
use Rattle.leveldb_base.proofs.CrcLemmas.{masked-unmasked}
use Rattle.leveldb_base.proofs.crc.unmask_crc.Goals as goal

pub returns-clause-undone : goal.returns-clause-undone
returns-clause-undone c = rw c.rotate_left.ensures (masked-unmasked c.args.kept (omega arith))
