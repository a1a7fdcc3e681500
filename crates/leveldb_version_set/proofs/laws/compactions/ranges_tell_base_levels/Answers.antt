use Rattle.leveldb_version_set.proofs.Compactions.CompactionLemmas.{ranges_tell_base_level}
use Rattle.leveldb_version.proofs.Versions.DeeperLevelsLemmas.{test_tells_base_level}
use Rattle.leveldb_version_set.proofs.laws.compactions.ranges_tell_base_levels.Goals as goal

pub returns-clause-tables : goal.returns-clause-tables
returns-clause-tables c = ranges_tell_base_level

pub returns-clause-test : goal.returns-clause-test
returns-clause-test c = test_tells_base_level
