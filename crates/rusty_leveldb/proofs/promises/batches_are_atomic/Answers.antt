use Rattle.rusty_leveldb.proofs.Headline.LawLemmas.{batch_is_left_whole, batches_are_read_whole, later_entry_wins}
use Rattle.rusty_leveldb.proofs.promises.batches_are_atomic.Goals as goal

pub returns-clause-reads : goal.returns-clause-reads
returns-clause-reads c = batches_are_read_whole

pub returns-clause-recovery : goal.returns-clause-recovery
returns-clause-recovery c = batch_is_left_whole

pub returns-clause-later : goal.returns-clause-later
returns-clause-later c = later_entry_wins
