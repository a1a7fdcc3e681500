use Rattle.std.proofs.Common.{arith}
use Rattle.leveldb_base.proofs.CrcLemmas.{get_or-TABLES}
use Rattle.leveldb_base.proofs.crc.register.byte_then_zeros.Goals as goal

pub returns : goal.returns
returns c = get_or-TABLES c.args.zeros c.args.byte (omega arith) (omega arith)
