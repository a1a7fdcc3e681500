use Rattle.byteorder.specs.Numbers.{little_number-reads_back}
use Rattle.leveldb_base.proofs.VarintLemmas.{little-little_number}
use Rattle.leveldb_base.proofs.laws.fixed_integers_are_their_bytes.Goals as goal

pub returns : goal.returns
returns c = record { bytes = little-little_number; number = little_number-reads_back }
