use Rattle.leveldb_version_set.proofs.Compactions.CompactionOutputsLemmas.{fewer_tables_fit, inputs_are_tables, replaced_tables_exist}
use Rattle.leveldb_version_set.proofs.laws.compactions.compacted_tables_exist.Goals as goal

pub returns-clause-inputs : goal.returns-clause-inputs
returns-clause-inputs c = inputs_are_tables

pub returns-clause-after : goal.returns-clause-after
returns-clause-after c = replaced_tables_exist

pub returns-clause-fewer : goal.returns-clause-fewer
returns-clause-fewer c = fewer_tables_fit
