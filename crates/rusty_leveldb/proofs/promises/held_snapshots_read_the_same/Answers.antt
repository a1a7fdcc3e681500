use Rattle.rusty_leveldb.proofs.Headline.LawLemmas.{snapshot_reads_the_same}
use Rattle.rusty_leveldb.proofs.promises.held_snapshots_read_the_same.Goals as goal

pub returns : goal.returns
returns c = snapshot_reads_the_same
