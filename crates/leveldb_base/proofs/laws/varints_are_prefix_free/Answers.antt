use Rattle.leveldb_base.proofs.VarintLemmas.{one_number}
use Rattle.leveldb_base.proofs.laws.varints_are_prefix_free.Goals as goal

pub returns : goal.returns
returns c = one_number
