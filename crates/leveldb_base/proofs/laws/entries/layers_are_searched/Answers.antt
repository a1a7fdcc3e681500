use Rattle.leveldb_base.proofs.LayersLemmas.{layers_are_searched, found_is_value, found_by_key}
use Rattle.leveldb_base.proofs.laws.entries.layers_are_searched.Goals as goal

pub returns-clause-layers : goal.returns-clause-layers
returns-clause-layers c = layers_are_searched

pub returns-clause-value : goal.returns-clause-value
returns-clause-value c = found_is_value

pub returns-clause-by_key : goal.returns-clause-by_key
returns-clause-by_key c = found_by_key
