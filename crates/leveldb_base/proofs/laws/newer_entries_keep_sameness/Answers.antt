use Rattle.leveldb_base.proofs.HistoryLemmas.{same_with_more}
use Rattle.leveldb_base.proofs.laws.newer_entries_keep_sameness.Goals as goal

pub returns : goal.returns
returns c = same_with_more
