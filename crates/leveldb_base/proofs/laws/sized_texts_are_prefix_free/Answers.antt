use Rattle.leveldb_base.proofs.VarintLemmas.{one_sized}
use Rattle.leveldb_base.proofs.laws.sized_texts_are_prefix_free.Goals as goal

pub returns : goal.returns
returns c = one_sized
