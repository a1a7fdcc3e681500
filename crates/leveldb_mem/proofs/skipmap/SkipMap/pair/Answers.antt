use Rattle.std.proofs.Common.{◌∙◌, [], Some, ap, sym}
use Rattle.std.proofs.lemmas.Option.{slice_get-get_or}
use Rattle.leveldb_mem.specs.Placed.{rank}
use Rattle.leveldb_mem.proofs.skipmap.SkipMap.pair.Goals as goal

pub returns : goal.returns
returns g c =
    let it = c.self.inside in
    let there = rw (← c.self.view_is) at c.requires in
    rw (← c.self.view_is)
    (slice_get-get_or it.pairs.pairs (rank it.pairs.order c.args.node) ([], []) there ∙ ap (λ p. Some p) (sym c.pair.ensures.value))
