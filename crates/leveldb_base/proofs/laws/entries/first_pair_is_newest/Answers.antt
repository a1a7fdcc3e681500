use Rattle.leveldb_base.proofs.EntriesLemmas.{first_is_newest, first_of_key_is_newest}
use Rattle.leveldb_base.proofs.laws.entries.first_pair_is_newest.Goals as goal

pub returns-clause-any : goal.returns-clause-any
returns-clause-any c = first_is_newest

pub returns-clause-made : goal.returns-clause-made
returns-clause-made c = first_of_key_is_newest
