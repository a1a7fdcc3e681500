use Rattle.leveldb_iter.proofs.MergedEntriesLemmas.{merge_is_of_entries, layers_have_merge}
use Rattle.leveldb_iter.proofs.laws.merges_are_of_entries.Goals as goal

pub returns-clause-entries : goal.returns-clause-entries
returns-clause-entries c = merge_is_of_entries

pub returns-clause-layers : goal.returns-clause-layers
returns-clause-layers c = layers_have_merge
