use Rattle.std.proofs.Common.{◌≡◌, ◌≤◌, ◌∙◌, ◌∷◌, inr, Some, refl, slice_index, ap, arith, length}
use Rattle.std.specs.Ordering.{is_lt}
use Rattle.leveldb_mem.specs.Placed.{head, rank}
use Rattle.leveldb_mem.specs.Searching.{key_at, count_while}
use Rattle.leveldb_mem.specs.SkipMap.{HasNode}
use Rattle.leveldb_mem.proofs.Rising.{parted_by_order}
use Rattle.leveldb_mem.proofs.SkipMapLemmas.{accepted_key, count_of_key, before_head, before_node, before_has, for_some}
use Rattle.leveldb_mem.proofs.skipmap.SkipMap.previous.Goals as goal

pub path_to-requires-clause-parted : goal.path_to-requires-clause-parted
path_to-requires-clause-parted g c =
    let it = c.self.inside in
    let there = rw (← c.self.view_is) at c.requires in
    let within : rank it.pairs.order c.args.node ≤ length it.pairs.order = omega (arith, there, c.self.invariant.2) in
    let o = g.met.C.Cmp.preorder it.cmp in
    let i = rank it.pairs.order c.args.node in
    let ok = accepted_key o c.self.invariant.0 i there in
    inr (rw c.key.ensures.value (parted_by_order o c.self.invariant.0 (key_at it.pairs.pairs i) ok))

pub returns-then-before-eq-HEAD-clause-position : goal.returns-then-before-eq-HEAD-clause-position
returns-then-before-eq-HEAD-clause-position g c =
    let it = c.self.inside in
    let there = rw (← c.self.view_is) at c.requires in
    let within : rank it.pairs.order c.args.node ≤ length it.pairs.order = omega (arith, there, c.self.invariant.2) in
    let o = g.met.C.Cmp.preorder it.cmp in
    let i = rank it.pairs.order c.args.node in
    let before = slice_index c.path_to.result 0 in
    let count = ap (λ k. count_while (λ z. is_lt (g.C.Cmp.cmp it.cmp z k)) it.pairs.pairs) c.key.ensures.value ∙ count_of_key o c.self.invariant.0 i there in
    let is : rank (head ∷ it.pairs.order) before ≡ i = c.path_to.ensures.place ∙ count in
    rw (← c.self.view_is) (before_head it.pairs.order i before within is c.if-before-eq-HEAD.true)

pub returns-else-before-eq-HEAD-clause-position : goal.returns-else-before-eq-HEAD-clause-position
returns-else-before-eq-HEAD-clause-position g c =
    let it = c.self.inside in
    let there = rw (← c.self.view_is) at c.requires in
    let within : rank it.pairs.order c.args.node ≤ length it.pairs.order = omega (arith, there, c.self.invariant.2) in
    let o = g.met.C.Cmp.preorder it.cmp in
    let i = rank it.pairs.order c.args.node in
    let before = slice_index c.path_to.result 0 in
    let count = ap (λ k. count_while (λ z. is_lt (g.C.Cmp.cmp it.cmp z k)) it.pairs.pairs) c.key.ensures.value ∙ count_of_key o c.self.invariant.0 i there in
    let is : rank (head ∷ it.pairs.order) before ≡ i = c.path_to.ensures.place ∙ count in
    rw (← c.self.view_is) (before_node it.pairs.order i before within is c.if-before-eq-HEAD.false)

pub returns-else-before-eq-HEAD-clause-within : goal.returns-else-before-eq-HEAD-clause-within
returns-else-before-eq-HEAD-clause-within g c =
    let it = c.self.inside in
    let there = rw (← c.self.view_is) at c.requires in
    let within : rank it.pairs.order c.args.node ≤ length it.pairs.order = omega (arith, there, c.self.invariant.2) in
    let o = g.met.C.Cmp.preorder it.cmp in
    let i = rank it.pairs.order c.args.node in
    let before = slice_index c.path_to.result 0 in
    let count = ap (λ k. count_while (λ z. is_lt (g.C.Cmp.cmp it.cmp z k)) it.pairs.pairs) c.key.ensures.value ∙ count_of_key o c.self.invariant.0 i there in
    let is : rank (head ∷ it.pairs.order) before ≡ i = c.path_to.ensures.place ∙ count in
    let there_before = before_has it.pairs.order i before within is c.if-before-eq-HEAD.false in
    rw (← c.self.view_is) (for_some (HasNode it.pairs.order it.pairs.pairs) (Some before) before refl (omega (arith, there_before, c.self.invariant.2)))
