use Rattle.leveldb_version_set.proofs.Compactions.CompactionOutputsLemmas.{cuts_are_apart, cuts_grow, keys_are_cut}
use Rattle.leveldb_version_set.proofs.laws.compactions.outputs_are_cut_between_keys.Goals as goal

pub returns-clause-apart : goal.returns-clause-apart
returns-clause-apart c = cuts_are_apart

pub returns-clause-grow : goal.returns-clause-grow
returns-clause-grow c = cuts_grow

pub returns-clause-keys : goal.returns-clause-keys
returns-clause-keys c = keys_are_cut
