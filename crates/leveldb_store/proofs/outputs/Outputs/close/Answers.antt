use Rattle.std.specs.Prelude.{IsTrue, is_some}
use Rattle.std.proofs.Common.{◌∙◌, ◌∷◌, ◌++◌, [], ap, refl, subst, sym}
use Rattle.std.proofs.lemmas.Result.{err_from_is_err_and}
use Rattle.leveldb_store.proofs.Tables.OutputsLemmas.{open_finished, open_unfinished, pushed_is}
use Rattle.leveldb_store.proofs.outputs.Outputs.close.Goals as goal

pub returns-in_err-made-clause-finishes : goal.returns-in_err-made-clause-finishes
returns-in_err-made-clause-finishes g c = λ store first next tables pairs have.
    let is = sym (ap (λ v. v.unfinished) c.self.view_is) ∙ sym c.in-Some.ensures.value in
    let failed = err_from_is_err_and c.from_residual.result c.from_residual.ensures.1 in
    rw failed.1 (rw failed.2 (open_unfinished _ g.E.Env store have is _ _ c.in_err-made.ensures.err c.in_err-made.ensures.left))

pub returns-clause-finishes : goal.returns-clause-finishes
returns-clause-finishes g c = λ store first next tables pairs have.
    let inside = sym c.in-Some.ensures.value in
    let is = sym (ap (λ v. v.unfinished) c.self.view_is) ∙ inside in
    let room = c.self.inside.room (subst (λ o. IsTrue (is_some o)) (sym inside) refl) in
    let pushed = pushed_is _ c.push.result (c.push.ensures.succeeds room) c.push.ensures.items in
    open_finished _ g.E.Env store have is tt _ c.in_ok-made.made (pushed ∙ ap (λ d. d ++ c.in_ok-made.made ∷ []) (ap (λ v. v.done) c.self.view_is)) c.in_ok-made.ensures.ok c.in_ok-made.ensures.made
