-- A closed store, a snapshot that isn't held, or one that is released.
use Rattle.std.specs.Prelude.{Contains}
use Rattle.std.proofs.Common.{◌∙◌, ap, subst, sym}
use Rattle.std.proofs.lemmas.Result.{err_from_is_err_and}
use Rattle.rusty_leveldb.specs.Engines.Engine.{held_in}
use Rattle.rusty_leveldb.specs.Engines.Serves.{snapshot_of}
use Rattle.rusty_leveldb.proofs.Engines.SnapshotLemmas.{closed_releases, is_released, releases_none, releases_serves}
use Rattle.rusty_leveldb.proofs.db_impl.snapshots.Engine+E+C+FP.release_snapshot.Goals as goal

pub returns-in_err-check_not_closed : goal.returns-in_err-check_not_closed
returns-in_err-check_not_closed g c = λ at.
    let p = err_from_is_err_and c.from_residual.result c.from_residual.ensures.1 in
    rw (p.1, p.2) (closed_releases g.E.Env _ c.args.self.now c.args.snapshot
    c.in_err-check_not_closed.field-0.0 at c.in_err-check_not_closed.ensures.cause)

pub returns-in_err-check_held : goal.returns-in_err-check_held
returns-in_err-check_held g c = λ at.
    let p = err_from_is_err_and c.from_residual-in_err-check_held.result
    c.from_residual-in_err-check_held.ensures.1 in
    rw (p.1, p.2) (releases_none g.E.Env _ c.args.self.now c.in_ok-check_not_closed.ensures.ok
    c.args.snapshot c.in_err-check_held.field-0.0 at
    c.in_err-check_held.ensures.cause)

pub returns : goal.returns
returns g c =
    let held = subst (λ e. Contains (held_in e) (snapshot_of c.args.snapshot)) (sym c.self.view_is)
    c.in_ok-check_held.ensures.ok in
    rw (← c.self.view_is) (releases_serves g.E.Env _ _
    (λ closed. c.in_ok-check_not_closed.ensures.ok (sym (ap (λ v. v.mode) c.self.view_is) ∙ closed))
    c.release.new.self c.args.snapshot (is_released c.self.inside.snapshots c.release.new.self
    c.args.snapshot c.release.result c.release.ensures.held c.release.ensures.releases held))
