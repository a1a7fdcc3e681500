use Rattle.std.proofs.Common.{arith}
use Rattle.leveldb_base.proofs.CrcLemmas.{crc_register-mixed}
use Rattle.leveldb_base.proofs.crc.register.mixed.Goals as goal

pub returns : goal.returns
returns c = rw c.to_le_bytes.ensures (crc_register-mixed c.args.register c.args.word (omega arith) (omega arith))
