use Rattle.std.proofs.Common.{◌≡◌, ◌∙◌, ◌+◌, ◌-◌, take, drop, slice_index, ap, sym, arith, length}
use Rattle.std.proofs.lemmas.Grind.{get_or_default_zero}
use Rattle.leveldb_mem.specs.Placed.{Placed}
use Rattle.leveldb_mem.proofs.PlacedLemmas.{node_is, pair_is, length_is}
use Rattle.leveldb_mem.proofs.skipmap.placed.PlacedPairs.pair.Goals as goal

pub overflow_sub-node : goal.overflow_sub-node
overflow_sub-node c =
    let is = node_is c.self.invariant.0 (ap (λ (z : Placed). z.order) c.self.view_is) c.args.node c.requires in
    omega (arith, is.low)

pub overflow_sub-node-2 : goal.overflow_sub-node-2
overflow_sub-node-2 c =
    let is = node_is c.self.invariant.0 (ap (λ (z : Placed). z.order) c.self.view_is) c.args.node c.requires in
    omega (arith, is.low)

pub overflow_sub-node-3 : goal.overflow_sub-node-3
overflow_sub-node-3 c =
    let is = node_is c.self.invariant.0 (ap (λ (z : Placed). z.order) c.self.view_is) c.args.node c.requires in
    omega (arith, is.low)

pub index-requires : goal.index-requires
index-requires c =
    let is = node_is c.self.invariant.0 (ap (λ (z : Placed). z.order) c.self.view_is) c.args.node c.requires in
    omega (arith, is.within, is.linked, is.low, c.self.inside.words.ok.0)

pub index-requires-2 : goal.index-requires-2
index-requires-2 c =
    let is = node_is c.self.invariant.0 (ap (λ (z : Placed). z.order) c.self.view_is) c.args.node c.requires in
    omega (arith, is.within, is.linked, is.low, c.self.inside.words.ok.0)

pub index-requires-3 : goal.index-requires-3
index-requires-3 c =
    let is = node_is c.self.invariant.0 (ap (λ (z : Placed). z.order) c.self.view_is) c.args.node c.requires in
    omega (arith, is.within, is.linked, is.low, c.self.inside.words.ok.0)

pub slice_bounds-result-end : goal.slice_bounds-result-end
slice_bounds-result-end c =
    let it = c.self.inside in
    let is = node_is c.self.invariant.0 (ap (λ (z : Placed). z.order) c.self.view_is) c.args.node c.requires in
    let start : c.index.result.now ≡ slice_index it.words.items (c.args.node - 4) =
    c.index.ensures ∙ get_or_default_zero it.words.items (c.args.node - 4) c.index.result.now (omega (arith, is.within, is.linked, is.low)) in
    let key : c.index-2.result.now ≡ slice_index it.words.items (c.args.node - 3) =
    c.index-2.ensures ∙ get_or_default_zero it.words.items (c.args.node - 3) c.index-2.result.now (omega (arith, is.within, is.linked, is.low)) in
    let value : c.index-3.result.now ≡ slice_index it.words.items (c.args.node - 2) =
    c.index-3.ensures ∙ get_or_default_zero it.words.items (c.args.node - 2) c.index-3.result.now (omega (arith, is.within, is.linked, is.low)) in
    omega (arith, start, key, is.cut, c.self.invariant.0.within, it.text.ok.0, ap length c.deref.ensures.value)

pub slice_bounds-result-end-2 : goal.slice_bounds-result-end-2
slice_bounds-result-end-2 c =
    let it = c.self.inside in
    let is = node_is c.self.invariant.0 (ap (λ (z : Placed). z.order) c.self.view_is) c.args.node c.requires in
    let start : c.index.result.now ≡ slice_index it.words.items (c.args.node - 4) =
    c.index.ensures ∙ get_or_default_zero it.words.items (c.args.node - 4) c.index.result.now (omega (arith, is.within, is.linked, is.low)) in
    let key : c.index-2.result.now ≡ slice_index it.words.items (c.args.node - 3) =
    c.index-2.ensures ∙ get_or_default_zero it.words.items (c.args.node - 3) c.index-2.result.now (omega (arith, is.within, is.linked, is.low)) in
    let value : c.index-3.result.now ≡ slice_index it.words.items (c.args.node - 2) =
    c.index-3.ensures ∙ get_or_default_zero it.words.items (c.args.node - 2) c.index-3.result.now (omega (arith, is.within, is.linked, is.low)) in
    omega (arith, start, key, value, is.cut, c.self.invariant.0.within, it.text.ok.0, ap length c.deref-2.ensures.value)

pub returns-clause-value : goal.returns-clause-value
returns-clause-value c =
    let it = c.self.inside in
    let is = node_is c.self.invariant.0 (ap (λ (z : Placed). z.order) c.self.view_is) c.args.node c.requires in
    let start : c.index.result.now ≡ slice_index it.words.items (c.args.node - 4) =
    c.index.ensures ∙ get_or_default_zero it.words.items (c.args.node - 4) c.index.result.now (omega (arith, is.within, is.linked, is.low)) in
    let key : c.index-2.result.now ≡ slice_index it.words.items (c.args.node - 3) =
    c.index-2.ensures ∙ get_or_default_zero it.words.items (c.args.node - 3) c.index-2.result.now (omega (arith, is.within, is.linked, is.low)) in
    let value : c.index-3.result.now ≡ slice_index it.words.items (c.args.node - 2) =
    c.index-3.ensures ∙ get_or_default_zero it.words.items (c.args.node - 2) c.index-3.result.now (omega (arith, is.within, is.linked, is.low)) in
    let pair = pair_is c.self.invariant.0 (ap (λ (z : Placed). z.order) c.self.view_is) (ap (λ (z : Placed). z.pairs) c.self.view_is) c.args.node c.requires in
    (λ i. (
      take (start i + key i - start i) (drop (start i) (c.deref.ensures.value i)),
      take (start i + key i + value i - (start i + key i)) (drop (start i + key i) (c.deref-2.ensures.value i)),
    )) ∙ sym pair

pub returns-clause-nodes : goal.returns-clause-nodes
returns-clause-nodes c = length_is c.self.invariant.0 (ap (λ (z : Placed). z.order) c.self.view_is) (ap (λ (z : Placed). z.pairs) c.self.view_is)
