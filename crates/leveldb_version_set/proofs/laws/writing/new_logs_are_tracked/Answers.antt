use Rattle.leveldb_version_set.proofs.Engines.SwitchLogLemmas.{tracked_after_new_log}
use Rattle.leveldb_version_set.proofs.laws.writing.new_logs_are_tracked.Goals as goal

pub returns : goal.returns
returns g c = λ store. tracked_after_new_log store g.F.StoreFormat.cmp g.F.StoreFormat.is_table
