use Rattle.leveldb_version_set.proofs.Engines.SwitchLogLemmas.{new_log_written}
use Rattle.leveldb_version_set.proofs.laws.writing.logs_may_be_switched.Goals as goal

pub returns : goal.returns
returns g c = λ store files edits memory w fits now passes.
    new_log_written store g.F.StoreFormat.cmp g.F.StoreFormat.is_table files edits memory w fits
    now passes g.F.StoreFormat.allowed
