use Rattle.std.proofs.Common.{◌∙◌, ap}
use Rattle.std.specs.Int.Bits.{bit_xor}
use Rattle.leveldb_base.specs.Crc.{crc_of}
use Rattle.leveldb_base.proofs.crc.register.Digest.finalize.Goals as goal

pub returns-clause-text : goal.returns-clause-text
unfolding crc_of
returns-clause-text c = λ text read. ap (λ register. bit_xor register 0xffffffff) (c.self.view_is ∙ read)
