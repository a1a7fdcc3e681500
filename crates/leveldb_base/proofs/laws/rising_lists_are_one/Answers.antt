use Rattle.leveldb_base.proofs.HistoryLemmas.{one_rising_list}
use Rattle.leveldb_base.proofs.laws.rising_lists_are_one.Goals as goal

pub returns : goal.returns
returns c = one_rising_list
