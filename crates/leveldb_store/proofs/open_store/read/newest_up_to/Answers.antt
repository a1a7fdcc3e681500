use Rattle.leveldb_store.proofs.Reading.ReadLemmas.{finds_up_to}
use Rattle.leveldb_store.proofs.open_store.read.newest_up_to.Goals as goal

pub returns : goal.returns
returns g c = finds_up_to c.args.memtable.now.kept.entries c.args.last c.args.key.now _ c.iter.ensures.numbered (rw c.min.ensures at c.newest.ensures)
