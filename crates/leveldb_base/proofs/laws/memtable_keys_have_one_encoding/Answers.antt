use Rattle.leveldb_base.proofs.KeyTypesLemmas.{one_SplitsInto, front_key-lookup_key, front_key-memtable_key}
use Rattle.leveldb_base.proofs.laws.memtable_keys_have_one_encoding.Goals as goal

pub returns-clause-only : goal.returns-clause-only
returns-clause-only c = one_SplitsInto

pub returns-clause-entry : goal.returns-clause-entry
returns-clause-entry c = front_key-memtable_key

pub returns-clause-looked_up : goal.returns-clause-looked_up
returns-clause-looked_up c = front_key-lookup_key
