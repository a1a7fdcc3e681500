use Rattle.std.proofs.Common.{arith}
use Rattle.leveldb_base.proofs.CrcLemmas.{unmasked-masked}
use Rattle.leveldb_base.proofs.crc.mask_crc.Goals as goal

pub returns-clause-undone : goal.returns-clause-undone
returns-clause-undone c = rw c.rotate_right.ensures (unmasked-masked c.args.sum (omega arith))
