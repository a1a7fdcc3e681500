use Rattle.leveldb_env.specs.FilterBlockLaws.{one_reading}
use Rattle.leveldb_env.proofs.FilterBlockLemmas.{one_block}
use Rattle.leveldb_env.proofs.laws.filter_blocks_have_one_reading.Goals as goal

pub returns : goal.returns
returns c = record { reading = one_reading; encoding = one_block }
