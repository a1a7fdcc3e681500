use Rattle.leveldb_base.proofs.EntriesLemmas.{pair_is_read, rising_is_sorted, internal_is_total}
use Rattle.leveldb_base.proofs.laws.entries.pairs_represent_entries.Goals as goal

pub returns-clause-read : goal.returns-clause-read
returns-clause-read c = pair_is_read

pub returns-clause-sorted : goal.returns-clause-sorted
returns-clause-sorted c = rising_is_sorted

pub returns-clause-total : goal.returns-clause-total
returns-clause-total c = internal_is_total
