use Rattle.leveldb_version_set.proofs.Repairs.RepairingKeepsLemmas.{repair_keeps}
use Rattle.leveldb_version_set.proofs.Repairs.RepairingLemmas.{repairs_hold}
use Rattle.leveldb_version_set.proofs.laws.repairing.repairs_keep_histories.Goals as goal
use Rattle.std.proofs.Common.{◌+◌}

pub returns-clause-keeps : goal.returns-clause-keeps
returns-clause-keeps g c = λ store. repair_keeps store g.F.StoreFormat.cmp g.F.StoreFormat.is_table
    g.F.StoreFormat.allowed

pub returns-clause-holds : goal.returns-clause-holds
returns-clause-holds g c = λ store comparator taken next last tables old now.
    repairs_hold store g.F.StoreFormat.cmp g.F.StoreFormat.is_table comparator (taken + 1) next last
    tables g.F.StoreFormat.allowed taken old now
