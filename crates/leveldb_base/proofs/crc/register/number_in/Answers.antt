use Rattle.std.proofs.Common.{arith}
use Rattle.leveldb_base.proofs.CrcLemmas.{crc_register-bytes}
use Rattle.leveldb_base.proofs.crc.register.number_in.Goals as goal

pub returns : goal.returns
returns c =
    crc_register-bytes c.args.a c.args.b c.args.c c.args.d c.from_le_bytes.result (omega arith) (omega arith) (omega arith) (omega arith)
    c.from_le_bytes.ensures (omega arith)
