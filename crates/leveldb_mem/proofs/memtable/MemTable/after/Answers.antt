use Rattle.std.proofs.Common.{◌∙◌, arith}
use Rattle.leveldb_mem.proofs.MemTableLemmas.{length-walked, within_walked}
use Rattle.leveldb_mem.proofs.memtable.MemTable.after.Goals as goal

pub after-requires : goal.after-requires
after-requires g c =
    let it = c.self.inside.map in
    let there = rw (← c.self.view_is) at c.requires in
    omega (arith, there, length-walked it.pairs)

pub returns-clause-position : goal.returns-clause-position
returns-clause-position g c = rw (← c.self.view_is) (c.after.ensures.position ∙ within_walked c.self.inside.map.pairs _)

pub returns-clause-within : goal.returns-clause-within
returns-clause-within g c =
    let it = c.self.inside.map in
    rw (← c.self.view_is) (λ x e. omega (arith, c.after.ensures.within x e, length-walked it.pairs))
