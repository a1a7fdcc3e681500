use Rattle.std.proofs.Common.{refl, sym, ap, subst, ◌∙◌}
use Rattle.leveldb_base.specs.Types.{position_within}
use Rattle.leveldb_base.specs.declared.types.Lookup.TheVariants.{Absent}
use Rattle.leveldb_mem.specs.Placed.{rank}
use Rattle.leveldb_mem.specs.Searching.{count_while, IsParted}
use Rattle.leveldb_mem.proofs.MemTableLemmas.{as_of, parted_as_of, finds_as_of, gives_nothing}
use Rattle.leveldb_mem.proofs.SkipMapLemmas.{at_index, beyond}
use Rattle.leveldb_mem.proofs.memtable.MemTable.newest.Goals as goal

pub first_by-requires : goal.first_by-requires
first_by-requires g c =
    let it = c.self.inside.map in
    let o = g.met.C.Cmp.preorder it.cmp.0 in
    let same = ap (λ m. m.0) c.comparator-cmp.ensures.value in
    let parted = parted_as_of o (g.met.C.UserCmp.accepts_all it.cmp.0) (g.met.C.UserCmp.exact it.cmp.0) c.comparator-cmp.ensures.sorted c.args.key.now c.args.sequence c.requires in
    subst (λ z. IsParted (λ k. as_of (g.C.Cmp.cmp z) k c.args.key.now c.args.sequence) it.pairs) (sym same) parted

pub returns-in-None : goal.returns-in-None
returns-in-None g c =
    let it = c.self.inside.map in
    let key = c.args.key.now in
    let sequence = c.args.sequence in
    let o = g.met.C.Cmp.preorder it.cmp.0 in
    let all = g.met.C.UserCmp.accepts_all it.cmp.0 in
    let exact = g.met.C.UserCmp.exact it.cmp.0 in
    let sorted = c.comparator-cmp.ensures.sorted in
    let same = ap (λ m. m.0) c.comparator-cmp.ensures.value in
    let count_is = ap (λ z. count_while (λ k. as_of (g.C.Cmp.cmp z) k key sequence) it.pairs) same in
    let past = beyond it.pairs _ (c.in-None.ensures.position ∙ ap (position_within it.pairs) count_is) in
    rw (← c.self.view_is) (finds_as_of o all exact sorted key sequence c.requires _ refl Absent (gives_nothing it.pairs _ key past))

pub returns-in-Some : goal.returns-in-Some
returns-in-Some g c =
    let it = c.self.inside.map in
    let key = c.args.key.now in
    let sequence = c.args.sequence in
    let o = g.met.C.Cmp.preorder it.cmp.0 in
    let all = g.met.C.UserCmp.accepts_all it.cmp.0 in
    let exact = g.met.C.UserCmp.exact it.cmp.0 in
    let sorted = c.comparator-cmp.ensures.sorted in
    let same = ap (λ m. m.0) c.comparator-cmp.ensures.value in
    let count_is = ap (λ z. count_while (λ k. as_of (g.C.Cmp.cmp z) k key sequence) it.pairs) same in
    let index = at_index it.pairs _ (rank it.nodes c.in-Some.node) (c.in-Some.ensures.position ∙ ap (position_within it.pairs) count_is) in
    let given = rw (← c.self.view_is) at c.given_at.ensures in
    rw (← c.self.view_is) (finds_as_of o all exact sorted key sequence c.requires (rank it.nodes c.in-Some.node) index.0 _ given)
