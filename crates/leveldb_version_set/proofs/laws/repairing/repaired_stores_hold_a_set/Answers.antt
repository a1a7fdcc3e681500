use Rattle.leveldb_version_set.proofs.Repairs.RepairingLemmas.{repaired_holds, repaired_is_kept}
use Rattle.leveldb_version_set.proofs.laws.repairing.repaired_stores_hold_a_set.Goals as goal

pub returns-clause-kept : goal.returns-clause-kept
returns-clause-kept g c = λ store. repaired_is_kept store g.F.StoreFormat.cmp
    g.F.StoreFormat.is_table

pub returns-clause-holds : goal.returns-clause-holds
returns-clause-holds g c = λ store comparator manifest next last tables files.
    repaired_holds store g.F.StoreFormat.cmp g.F.StoreFormat.is_table comparator manifest next last
    tables g.F.StoreFormat.allowed files
