use Rattle.std.proofs.Common.{arith}
use Rattle.std.proofs.lemmas.Grind.{common_steps}
use Rattle.leveldb_base.specs.Crc.{crc_register}
use Rattle.leveldb_base.proofs.crc.register.after_bytes.Goals as goal

pub returns : goal.returns
unfolding crc_register
returns c = grind (arith, common_steps)
