use Rattle.std.proofs.Common.{ap₂}
use Rattle.std.specs.Int.Bits.{bit_xor}
use Rattle.leveldb_base.proofs.crc.register.Lanes.joined.Goals as goal

pub returns : goal.returns
returns c = ap₂ bit_xor (ap₂ bit_xor c.moved.ensures c.moved-2.ensures) (ap₂ bit_xor c.moved-3.ensures c.moved-4.ensures)
