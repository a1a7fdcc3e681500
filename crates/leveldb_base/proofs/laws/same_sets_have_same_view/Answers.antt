use Rattle.leveldb_base.proofs.HistoryLemmas.{view_passes, shared_view_is_same}
use Rattle.leveldb_base.proofs.laws.same_sets_have_same_view.Goals as goal

pub returns-clause-passes : goal.returns-clause-passes
returns-clause-passes c = view_passes

pub returns-clause-shared : goal.returns-clause-shared
returns-clause-shared c = shared_view_is_same
