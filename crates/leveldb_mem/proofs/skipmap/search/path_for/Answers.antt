use Rattle.std.proofs.Common.{◌∙◌, take, subst, sym}
use Rattle.leveldb_mem.specs.Placed.{IsPathTo}
use Rattle.leveldb_mem.proofs.Halving.{count_all}
use Rattle.leveldb_mem.proofs.skipmap.search.path_for.Goals as goal

pub returns-then-is_last_before-clause-place : goal.returns-then-is_last_before-clause-place
returns-then-is_last_before-clause-place g c =
    c.path_to_end-end.ensures.place
    ∙ sym (count_all (g.P.Probe.passes c.args.probe.now) c.args.pairs.now.pairs c.requires (c.is_last_before.ensures.0 c.if-is_last_before.true))

pub returns-then-is_last_before-clause-path : goal.returns-then-is_last_before-clause-path
returns-then-is_last_before-clause-path g c =
    let end = c.path_to_end-end in
    subst (λ n. IsPathTo c.args.pairs.now.words end.result 12 (take n c.args.pairs.now.order)) (sym end.ensures.place) end.ensures.path

pub returns-clause-path : goal.returns-clause-path
returns-clause-path g c =
    let path = c.path_to in
    subst (λ n. IsPathTo c.args.pairs.now.words path.result 12 (take n c.args.pairs.now.order)) (sym path.ensures.place) path.ensures.path
