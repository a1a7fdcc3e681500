use Rattle.std.proofs.Common.{◌∙◌, ap, sym, subst, arith}
use Rattle.std.specs.Ordering.{is_lt}
use Rattle.leveldb_base.specs.Types.{position_within}
use Rattle.leveldb_base.specs.KeyTypes.{front_key, internal_cmp}
use Rattle.leveldb_mem.specs.Searching.{count_while, IsParted}
use Rattle.leveldb_mem.proofs.MemTableLemmas.{parted_walked, count_walked, length-walked, within_walked}
use Rattle.leveldb_mem.proofs.memtable.MemTable.first_at.Goals as goal

pub first_by-requires : goal.first_by-requires
first_by-requires g c =
    let it = c.self.inside.map in
    let key = c.args.key.now in
    let same = ap (λ m. m.0) c.comparator-cmp.ensures.value in
    let parted = parted_walked (g.met.C.Cmp.preorder it.cmp.0) (g.met.C.UserCmp.accepts_all it.cmp.0) c.comparator-cmp.ensures.sorted key in
    subst (λ z. IsParted (λ k. is_lt (internal_cmp (g.C.Cmp.cmp z) (front_key k) key)) it.pairs) (sym same) parted

pub returns-clause-position : goal.returns-clause-position
returns-clause-position g c =
    let it = c.self.inside.map in
    let key = c.args.key.now in
    let same = ap (λ m. m.0) c.comparator-cmp.ensures.value in
    let count = ap (λ z. count_while (λ k. is_lt (internal_cmp (g.C.Cmp.cmp z) (front_key k) key)) it.pairs) same ∙ count_walked (g.C.Cmp.cmp it.cmp.0) key it.pairs c.self.invariant.0 in
    rw (← c.self.view_is) (c.first_by.ensures.position ∙ ap (position_within it.pairs) count ∙ within_walked it.pairs _)

pub returns-clause-within : goal.returns-clause-within
returns-clause-within g c =
    let it = c.self.inside.map in
    rw (← c.self.view_is) (λ x e. omega (arith, c.first_by.ensures.within x e, length-walked it.pairs))
