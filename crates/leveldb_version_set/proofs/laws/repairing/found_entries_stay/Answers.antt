use Rattle.leveldb_version_set.proofs.Repairs.RepairingFoundLemmas.{crash_leaves_found, found_stays}
use Rattle.leveldb_version_set.proofs.laws.repairing.found_entries_stay.Goals as goal

pub returns-clause-meanwhile : goal.returns-clause-meanwhile
returns-clause-meanwhile g c = λ store taken next meant old now r.
    found_stays store g.F.StoreFormat.is_table taken next old now r meant

pub returns-clause-crash : goal.returns-clause-crash
returns-clause-crash g c = λ store taken next meant old now left r.
    crash_leaves_found store g.F.StoreFormat.is_table taken next old now r meant left
