use Rattle.leveldb_mem.proofs.MemTableLemmas.{entries_numbered, rising_walked}
use Rattle.leveldb_mem.proofs.memtable.MemTable.iter.Goals as goal

pub returns-clause-sorted : goal.returns-clause-sorted
returns-clause-sorted g c =
    let it = c.self.inside.map in
    rw (← c.self.view_is) (rising_walked (g.C.Cmp.cmp it.cmp.0) it.pairs c.self.invariant.0 c.iter.ensures.sorted.rising)

pub returns-clause-numbered : goal.returns-clause-numbered
returns-clause-numbered g c = rw (← c.self.view_is) (entries_numbered c.self.inside.map.pairs)
