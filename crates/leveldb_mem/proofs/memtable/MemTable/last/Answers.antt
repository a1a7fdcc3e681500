use Rattle.std.proofs.Common.{◌∙◌, arith}
use Rattle.leveldb_mem.proofs.MemTableLemmas.{length-walked, last_walked}
use Rattle.leveldb_mem.proofs.memtable.MemTable.last.Goals as goal

pub returns-clause-position : goal.returns-clause-position
returns-clause-position g c =
    let it = c.self.inside.map in
    rw (← c.self.view_is) (c.last.ensures.position ∙ last_walked it.pairs)

pub returns-clause-within : goal.returns-clause-within
returns-clause-within g c =
    let it = c.self.inside.map in
    rw (← c.self.view_is) (λ x e. omega (arith, c.last.ensures.within x e, length-walked it.pairs))
