use Rattle.leveldb_version_set.proofs.Repairs.FoundLemmas.{found_goes_by_bytes, one_found_log, one_found_set}
use Rattle.leveldb_version_set.proofs.Repairs.RepairingFoundLemmas.{one_readable_table}
use Rattle.leveldb_version_set.proofs.laws.repairing.found_entries_are_a_set.Goals as goal

pub returns-clause-log : goal.returns-clause-log
returns-clause-log g c = one_found_log

pub returns-clause-table : goal.returns-clause-table
returns-clause-table g c = one_readable_table

pub returns-clause-one : goal.returns-clause-one
returns-clause-one g c = λ store. one_found_set store g.F.StoreFormat.is_table

pub returns-clause-bytes : goal.returns-clause-bytes
returns-clause-bytes g c = λ store. found_goes_by_bytes store g.F.StoreFormat.is_table
