use Rattle.std.proofs.Common.{arith}
use Rattle.leveldb_mem.proofs.MemTableLemmas.{length-walked}
use Rattle.leveldb_mem.proofs.memtable.MemTable.previous.Goals as goal

pub previous-requires : goal.previous-requires
previous-requires g c =
    let it = c.self.inside.map in
    let there = rw (← c.self.view_is) at c.requires in
    omega (arith, there, length-walked it.pairs)

pub returns-clause-position : goal.returns-clause-position
returns-clause-position g c = rw (← c.self.view_is) c.previous.ensures.position

pub returns-clause-within : goal.returns-clause-within
returns-clause-within g c =
    let it = c.self.inside.map in
    rw (← c.self.view_is) (λ x e. omega (arith, c.previous.ensures.within x e, length-walked it.pairs))
