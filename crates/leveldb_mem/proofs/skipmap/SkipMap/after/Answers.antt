use Rattle.std.proofs.Common.{◌∙◌, ap, arith}
use Rattle.leveldb_base.specs.Types.{position_within}
use Rattle.leveldb_mem.proofs.SkipMapLemmas.{place_at}
use Rattle.leveldb_mem.proofs.skipmap.SkipMap.after.Goals as goal

pub returns-clause-position : goal.returns-clause-position
returns-clause-position g c =
    let it = c.self.inside in
    let there = rw (← c.self.view_is) at c.requires in
    rw (← c.self.view_is) (place_at it.pairs.pairs c.after.ensures.nodes c.after.ensures.at c.as_node.result c.as_node.ensures.none c.as_node.ensures.there
    ∙ ap (position_within it.pairs.pairs) (c.after.ensures.later (omega (arith, there, c.self.invariant.2))))
