use Rattle.std.proofs.Common.{◌∷◌, ◌++◌, ◌∙◌, [], ap, append_assoc, subst, sym}
use Rattle.leveldb_version.specs.Walks.VersionIters.{AreWalksOf, each_alone}
use Rattle.leveldb_version.proofs.Walks.VersionItersLemmas.{last_alone, walks_alone}
use Rattle.leveldb_version.proofs.version.iters.push_alone.Goals as goal

pub loop-rest-preserved : goal.loop-rest-preserved
loop-rest-preserved g c =
    let before = c.loop-rest.invariant in
    let file = c.in-Some.field-0-0.now in
    let left = c.in-Some.rest.now in
    let parts = c.in-Some.ensures.cases.0 in (
      file ∷ before.0,
      before.1 ∙ ap (λ fs. fs ++ before.0) parts ∙ append_assoc left (file ∷ []) before.0,
      subst (AreWalksOf c.args.iters.now.items (each_alone (file ∷ before.0))) (sym c.in_ok-push.ensures.items)
          (walks_alone c.args.iters.now.items c.loop-rest.iters.items file before.0 c.new_version_iter.result before.2
          (c.new_version_iter.ensures.over ∙ last_alone c.loop-rest.left.now left file parts) c.new_version_iter.ensures.not_begun),
    )
