use Rattle.std.proofs.Common.{◌≡◌, ◌∙◌, ◌∷◌, slice_index, ap, subst, sym, arith}
use Rattle.std.proofs.lemmas.Grind.{get_or_default_zero}
use Rattle.leveldb_mem.specs.Placed.{Placed, IsAt, head, rank}
use Rattle.leveldb_mem.proofs.PlacedLemmas.{skip_list_of, after_is, rank-after_head, node_or_head, length_is}
use Rattle.leveldb_mem.proofs.skipmap.placed.PlacedPairs.after.Goals as goal

pub index-requires : goal.index-requires
index-requires c =
    let it = c.self.inside in
    let laid = c.self.invariant.0 in
    let order_is = ap (λ (z : Placed). z.order) c.self.view_is in
    let is = node_or_head (skip_list_of laid order_is c.requires.some) c.args.node c.requires.node in
    omega (arith, is.within, is.linked, it.words.ok.0)

pub returns-clause-at : goal.returns-clause-at
returns-clause-at c =
    let it = c.self.inside in
    let laid = c.self.invariant.0 in
    let order_is = ap (λ (z : Placed). z.order) c.self.view_is in
    let skip = skip_list_of laid order_is c.requires.some in
    let is = node_or_head skip c.args.node c.requires.node in
    let read : c.index.result.now ≡ slice_index it.words.items c.args.node =
    c.index.ensures ∙ get_or_default_zero it.words.items c.args.node c.index.result.now (omega (arith, is.within, is.linked)) in
    subst (λ n. IsAt c.args.self.now.order (rank (head ∷ c.args.self.now.order) c.args.node) n) (sym read) (after_is skip c.args.node c.requires.node)

pub returns-clause-nodes : goal.returns-clause-nodes
returns-clause-nodes c = length_is c.self.invariant.0 (ap (λ (z : Placed). z.order) c.self.view_is) (ap (λ (z : Placed). z.pairs) c.self.view_is)

pub returns-clause-later : goal.returns-clause-later
returns-clause-later c = rank-after_head (skip_list_of c.self.invariant.0 (ap (λ (z : Placed). z.order) c.self.view_is) c.requires.some) c.args.node
