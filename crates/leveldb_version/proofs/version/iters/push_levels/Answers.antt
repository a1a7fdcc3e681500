use Rattle.std.proofs.Common.{◌≡◌, ◌+◌, ◌-◌, ◌∙◌, arith, ap, subst, sym, take}
use Rattle.leveldb_version.specs.Walks.VersionIters.{AreWalksOf}
use Rattle.leveldb_version.proofs.Walks.VersionItersLemmas.{deep_levels, levels_among, no_files, some_files, walks_empty, walks_level}
use Rattle.leveldb_version.proofs.version.iters.push_levels.Goals as goal
use Rattle.leveldb_version.proofs.version.iters.push_levels.Goals.{then-not-is_empty+in_ok-push, else-not-is_empty}

pub loop-level-preserved : goal.loop-level-preserved
loop-level-preserved g c =
    let level = c.loop-level.level in
    let files = c.args.files.now in
    let old = c.args.iters.now.items in
    let before = c.loop-level.iters.items in
    let part = c.part_of_level-part.result.now in
    let is = c.is_empty.ensures in
    let same = c.part_of_level-part.ensures in
    let next : level + 1 - 1 ≡ level = omega arith in
    subst (λ n. AreWalksOf old (levels_among (take n deep_levels) files) c.if-not-is_empty.iters.items) (sym next)
    (elim c.if-not-is_empty.branch [
      | then-not-is_empty+in_ok-push w ↦
          subst (AreWalksOf old (levels_among (take level deep_levels) files)) (sym (ap (λ its. its.items) w.iters-is ∙ w.in_ok-push.ensures.items))
          (walks_level old before level files w.new_version_iter.result (omega arith) (omega arith) c.loop-level.invariant (w.new_version_iter.ensures.over ∙ same)
          (some_files part _ c.is_empty.result is w.if-not-is_empty.true same) w.new_version_iter.ensures.not_begun)
      | else-not-is_empty w ↦
          subst (AreWalksOf old (levels_among (take level deep_levels) files)) (sym (ap (λ its. its.items) w.iters-is))
          (walks_empty old before level files (omega arith) (omega arith) c.loop-level.invariant
          (no_files part _ c.is_empty.result is w.if-not-is_empty.false same))
    ])
