use Rattle.leveldb_base.proofs.ConsistentLemmas.{batches_are_history, history_is_consistent, rising_is_consistent}
use Rattle.leveldb_base.proofs.laws.histories_are_consistent.Goals as goal

pub returns-clause-rising : goal.returns-clause-rising
returns-clause-rising c = rising_is_consistent

pub returns-clause-history : goal.returns-clause-history
returns-clause-history c = history_is_consistent

pub returns-clause-batches : goal.returns-clause-batches
returns-clause-batches c = batches_are_history
