use Rattle.leveldb_version_set.proofs.Repairs.RepairingFoundLemmas.{filters_are_ignored, found_shows_the_same, stores_are_found, table_is_readable}
use Rattle.leveldb_version_set.proofs.laws.repairing.stores_are_found.Goals as goal

pub returns-clause-contents : goal.returns-clause-contents
returns-clause-contents c = stores_are_found

pub returns-clause-shows : goal.returns-clause-shows
returns-clause-shows c = found_shows_the_same

pub returns-clause-tables : goal.returns-clause-tables
returns-clause-tables c = table_is_readable

pub returns-clause-filters : goal.returns-clause-filters
returns-clause-filters c = filters_are_ignored
