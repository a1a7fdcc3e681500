use Rattle.leveldb_version_set.proofs.Repairs.RepairingKeepsLemmas.{manifests_go_on}
use Rattle.leveldb_version_set.proofs.Repairs.RepairingLemmas.{manifest_repairs}
use Rattle.leveldb_version_set.proofs.laws.repairing.manifests_make_repaired_stores.Goals as goal

pub returns-clause-made : goal.returns-clause-made
returns-clause-made g c = λ store comparator manifest next last tables files fits has can.
    manifest_repairs store g.F.StoreFormat.cmp g.F.StoreFormat.is_table comparator manifest next
    last tables fits files has can

pub returns-clause-part : goal.returns-clause-part
returns-clause-part g c = manifests_go_on
