use Rattle.std.proofs.Common.{◌≡◌, ◌∙◌, ◌<◌, ◌-◌, ◌+◌, ◌⊎◌, List, length, slice_index, ap, subst, sym, arith, refl}
use Rattle.std.proofs.lemmas.Grind.{get_or_default_zero}
use Rattle.leveldb_base.specs.Types.{Pair}
use Rattle.leveldb_mem.specs.Searching.{IsParted}
use Rattle.leveldb_mem.specs.Placed.{Placed, head, rank, nodes_after}
use Rattle.leveldb_mem.proofs.PlacedLemmas.{skip_list, length_is, pair_is}
use Rattle.leveldb_mem.proofs.PathLemmas.{IsPast, searches_from, searched_within, searched_there, searched_next, searched_along, searched_down, searched, found}
use Rattle.leveldb_mem.proofs.skipmap.placed.PlacedPairs.path_to.Goals.{else-next-ne0-via-then-next-ne0+then-next-stop+else-is_after, else-next-ne0-via-then-next-ne0+else-next-stop, else-next-ne0-via-else-next-ne0}
use Rattle.leveldb_mem.proofs.skipmap.placed.PlacedPairs.path_to.Goals as goal

pub descent-init : goal.descent-init
descent-init g c =
    let it = c.self.inside in
    let words = it.words.items in
    let text = it.text.items in
    let test = g.P.Probe.passes c.args.probe.now in
    let nodes = nodes_after words head it.count in
    let pairs_are = ap (λ (z : Placed). z.pairs) c.self.view_is in
    let skip = skip_list c.self.invariant.0 (omega (arith, ap (λ (z : Placed). length z.order) c.self.view_is, c.requires.some)) in
    let which = subst (λ (ps : List Pair). (c.args.from ≡ 1) ⊎ IsParted (g.P.Probe.passes c.args.probe.now) ps) (sym pairs_are) c.requires.parted in
    (searches_from test text skip c.requires.from.1 which _ refl, λ other. absurd (other refl))

pub index-requires : goal.index-requires
index-requires g c =
    let it = c.self.inside in
    let words = it.words.items in
    let text = it.text.items in
    let test = g.P.Probe.passes c.args.probe.now in
    let nodes = nodes_after words head it.count in
    let pairs_are = ap (λ (z : Placed). z.pairs) c.self.view_is in
    let skip = skip_list c.self.invariant.0 (omega (arith, ap (λ (z : Placed). length z.order) c.self.view_is, c.requires.some)) in
    let which = subst (λ (ps : List Pair). (c.args.from ≡ 1) ⊎ IsParted (g.P.Probe.passes c.args.probe.now) ps) (sym pairs_are) c.requires.parted in
    let within = searched_within test text skip c.requires.from.1 which c.descent.invariant.0 c.descent-test.true in
    omega (arith, within, it.words.ok.0)

pub key-requires : goal.key-requires
key-requires g c =
    let it = c.self.inside in
    let words = it.words.items in
    let text = it.text.items in
    let test = g.P.Probe.passes c.args.probe.now in
    let nodes = nodes_after words head it.count in
    let pairs_are = ap (λ (z : Placed). z.pairs) c.self.view_is in
    let skip = skip_list c.self.invariant.0 (omega (arith, ap (λ (z : Placed). length z.order) c.self.view_is, c.requires.some)) in
    let which = subst (λ (ps : List Pair). (c.args.from ≡ 1) ⊎ IsParted (g.P.Probe.passes c.args.probe.now) ps) (sym pairs_are) c.requires.parted in
    let within = searched_within test text skip c.requires.from.1 which c.descent.invariant.0 c.descent-test.true in
    let next : c.index.result.now ≡ slice_index words (c.descent.node + (c.descent.height - 1)) =
    c.index.ensures ∙ get_or_default_zero words (c.descent.node + (c.descent.height - 1)) c.index.result.now within in
    subst (λ ns. rank ns c.index.result.now < length ns) (ap (λ (z : Placed). z.order) c.self.view_is)
    (searched_next test text skip c.requires.from.1 which c.descent.invariant.0 c.descent-test.true c.index.result.now next c.if-next-ne0.true).1

pub descent-smaller-then-is_after : goal.descent-smaller-then-is_after
descent-smaller-then-is_after g c =
    let it = c.self.inside in
    let words = it.words.items in
    let text = it.text.items in
    let test = g.P.Probe.passes c.args.probe.now in
    let nodes = nodes_after words head it.count in
    let pairs_are = ap (λ (z : Placed). z.pairs) c.self.view_is in
    let skip = skip_list c.self.invariant.0 (omega (arith, ap (λ (z : Placed). length z.order) c.self.view_is, c.requires.some)) in
    let which = subst (λ (ps : List Pair). (c.args.from ≡ 1) ⊎ IsParted (g.P.Probe.passes c.args.probe.now) ps) (sym pairs_are) c.requires.parted in
    let within = searched_within test text skip c.requires.from.1 which c.descent.invariant.0 c.descent-test.true in
    let next : c.index.result.now ≡ slice_index words (c.descent.node + (c.descent.height - 1)) =
    c.index.ensures ∙ get_or_default_zero words (c.descent.node + (c.descent.height - 1)) c.index.result.now within in
    let later = searched_next test text skip c.requires.from.1 which c.descent.invariant.0 c.descent-test.true c.index.result.now next c.if-next-ne0.true in
    let there = searched_there test text skip c.requires.from.1 which c.descent.invariant.0 c.descent-test.true in
    omega (arith, later.0, there)

pub descent-preserved-then-is_after : goal.descent-preserved-then-is_after
descent-preserved-then-is_after g c =
    let it = c.self.inside in
    let words = it.words.items in
    let text = it.text.items in
    let test = g.P.Probe.passes c.args.probe.now in
    let nodes = nodes_after words head it.count in
    let pairs_are = ap (λ (z : Placed). z.pairs) c.self.view_is in
    let skip = skip_list c.self.invariant.0 (omega (arith, ap (λ (z : Placed). length z.order) c.self.view_is, c.requires.some)) in
    let which = subst (λ (ps : List Pair). (c.args.from ≡ 1) ⊎ IsParted (g.P.Probe.passes c.args.probe.now) ps) (sym pairs_are) c.requires.parted in
    let within = searched_within test text skip c.requires.from.1 which c.descent.invariant.0 c.descent-test.true in
    let next : c.index.result.now ≡ slice_index words (c.descent.node + (c.descent.height - 1)) =
    c.index.ensures ∙ get_or_default_zero words (c.descent.node + (c.descent.height - 1)) c.index.result.now within in
    let order_are = ap (λ (z : Placed). z.order) c.self.view_is in
    let key_is = c.key.ensures.value ∙ ap (λ (p : Pair). p.0) (pair_is c.self.invariant.0 order_are pairs_are c.index.result.now
    (subst (λ ns. rank ns c.index.result.now < length ns) order_are (searched_next test text skip c.requires.from.1 which c.descent.invariant.0 c.descent-test.true c.index.result.now next c.if-next-ne0.true).1)) in (
      searched_along test text skip c.requires.from.1 which c.descent.invariant.0 c.descent-test.true c.index.result.now next c.if-next-ne0.true
          (ap (g.P.Probe.passes c.args.probe.now) (sym key_is) ∙ sym c.is_after.ensures ∙ c.if-is_after.true),
      c.descent.invariant.1,
    )

pub descent-preserved : goal.descent-preserved
descent-preserved g c =
    let it = c.self.inside in
    let words = it.words.items in
    let text = it.text.items in
    let test = g.P.Probe.passes c.args.probe.now in
    let nodes = nodes_after words head it.count in
    let pairs_are = ap (λ (z : Placed). z.pairs) c.self.view_is in
    let skip = skip_list c.self.invariant.0 (omega (arith, ap (λ (z : Placed). length z.order) c.self.view_is, c.requires.some)) in
    let which = subst (λ (ps : List Pair). (c.args.from ≡ 1) ⊎ IsParted (g.P.Probe.passes c.args.probe.now) ps) (sym pairs_are) c.requires.parted in
    let within = searched_within test text skip c.requires.from.1 which c.descent.invariant.0 c.descent-test.true in
    let next : c.index.result.now ≡ slice_index words (c.descent.node + (c.descent.height - 1)) =
    c.index.ensures ∙ get_or_default_zero words (c.descent.node + (c.descent.height - 1)) c.index.result.now within in
    let order_are = ap (λ (z : Placed). z.order) c.self.view_is in
    let past : IsPast test text words c.index.result.now =
    λ other. elim c.else-next-ne0.branch [
      | else-next-ne0-via-then-next-ne0+then-next-stop+else-is_after w ↦
          let key_is = w.key.ensures.value ∙ ap (λ (p : Pair). p.0) (pair_is c.self.invariant.0 order_are pairs_are c.index.result.now
          (subst (λ ns. rank ns c.index.result.now < length ns) order_are (searched_next test text skip c.requires.from.1 which c.descent.invariant.0 c.descent-test.true c.index.result.now next other).1)) in
          ap test (sym key_is) ∙ sym w.is_after.ensures ∙ w.if-is_after.false
      | else-next-ne0-via-then-next-ne0+else-next-stop w ↦
          let same = w.if-next-stop.false in
          subst (IsPast test text words) (sym same) c.descent.invariant.1 other
      | else-next-ne0-via-else-next-ne0 w ↦ absurd (other w.if-next-ne0.false)
    ] in
    (searched_down test text skip c.requires.from.1 which c.descent.invariant.0 c.descent-test.true c.index.result.now next past, past)

pub returns-clause-place : goal.returns-clause-place
returns-clause-place g c =
    let it = c.self.inside in
    let words = it.words.items in
    let text = it.text.items in
    let test = g.P.Probe.passes c.args.probe.now in
    let nodes = nodes_after words head it.count in
    let pairs_are = ap (λ (z : Placed). z.pairs) c.self.view_is in
    let skip = skip_list c.self.invariant.0 (omega (arith, ap (λ (z : Placed). length z.order) c.self.view_is, c.requires.some)) in
    let which = subst (λ (ps : List Pair). (c.args.from ≡ 1) ⊎ IsParted (g.P.Probe.passes c.args.probe.now) ps) (sym pairs_are) c.requires.parted in
    let to = searched test text skip c.requires.from.1 which c.descent.invariant.0 (omega (arith, c.descent-test.false)) in
    rw (← c.self.view_is) (found (g.P.Probe.passes c.args.probe.now) it.text.items skip c.args.from c.requires.from.0 c.requires.from.1 which c.descent.path to)

pub returns-clause-nodes : goal.returns-clause-nodes
returns-clause-nodes g c = length_is c.self.invariant.0 (ap (λ (z : Placed). z.order) c.self.view_is) (ap (λ (z : Placed). z.pairs) c.self.view_is)
