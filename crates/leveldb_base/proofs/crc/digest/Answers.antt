use Rattle.leveldb_base.specs.Crc.{crc_register}
use Rattle.leveldb_base.proofs.crc.digest.Goals as goal

pub returns-clause-fresh : goal.returns-clause-fresh
unfolding crc_register
returns-clause-fresh c = c.new.ensures
