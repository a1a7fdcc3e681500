use Rattle.std.proofs.Common.{refl}
use Rattle.leveldb_base.specs.Crc.{crc_zeros}
use Rattle.leveldb_base.proofs.crc.register.Lanes.zero.Goals as goal

pub returns : goal.returns
unfolding crc_zeros
returns c = refl
