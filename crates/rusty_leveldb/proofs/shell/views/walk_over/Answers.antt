-- The walk's steps, or why it wasn't made.
use Rattle.std.proofs.Common.{◌≡◌, ◌++◌, ◌∙◌, ap}
use Rattle.std.proofs.lemmas.Result.{err_from_is_err_and}
use Rattle.rusty_leveldb.proofs.shell.views.walk_over.Goals as goal

pub returns-in_err-walk : goal.returns-in_err-walk
returns-in_err-walk g c =
    let p = err_from_is_err_and c.from_residual.result c.from_residual.ensures.1 in
    let made = c.in_err-walk.ensures in
    rw (p.1, p.2) (rw made.2.none at made.2)

pub returns : goal.returns
returns g c =
    let made = c.in_ok-walk.ensures in
    let same : c.walk.new.steps.items ≡ made.0 = made.1 ∙ ap (λ steps. steps ++ made.0) c.new-steps.ensures.items in
    rw same made.2
