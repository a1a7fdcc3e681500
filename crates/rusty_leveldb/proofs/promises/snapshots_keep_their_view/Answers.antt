use Rattle.rusty_leveldb.proofs.Machines.ViewsLemmas.{held_stays, snapshot_is_read, views_stay}
use Rattle.rusty_leveldb.proofs.promises.snapshots_keep_their_view.Goals as goal

pub returns-clause-views : goal.returns-clause-views
returns-clause-views c = views_stay

pub returns-clause-held : goal.returns-clause-held
returns-clause-held c = held_stays

pub returns-clause-reads : goal.returns-clause-reads
returns-clause-reads c = snapshot_is_read
