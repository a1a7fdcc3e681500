use Rattle.leveldb_base.proofs.KeyTypesLemmas.{internal_key-parts}
use Rattle.leveldb_base.proofs.laws.internal_keys_have_one_encoding.Goals as goal

pub returns-clause-written : goal.returns-clause-written
returns-clause-written c = internal_key-parts
