use Rattle.std.proofs.Common.{◌∙◌, arith}
use Rattle.leveldb_mem.proofs.MemTableLemmas.{length-walked, within_walked}
use Rattle.leveldb_mem.proofs.memtable.MemTable.first.Goals as goal

pub returns-clause-position : goal.returns-clause-position
returns-clause-position g c = rw (← c.self.view_is) (c.first.ensures.position ∙ within_walked c.self.inside.map.pairs 0)

pub returns-clause-within : goal.returns-clause-within
returns-clause-within g c =
    let it = c.self.inside.map in
    rw (← c.self.view_is) (λ x e. omega (arith, c.first.ensures.within x e, length-walked it.pairs))
