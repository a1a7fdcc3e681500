use Rattle.leveldb_base.proofs.ConsistentLemmas.{each_has_view}
use Rattle.leveldb_base.proofs.HistoryLemmas.{one_view}
use Rattle.leveldb_base.proofs.laws.views_are_unique.Goals as goal

pub returns-clause-one : goal.returns-clause-one
returns-clause-one c = one_view

pub returns-clause-each : goal.returns-clause-each
returns-clause-each c = each_has_view
