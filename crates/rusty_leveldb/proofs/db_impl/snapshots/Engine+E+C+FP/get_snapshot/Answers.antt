-- A closed store, no memory or no number, or the snapshot that was given out.
use Rattle.std.proofs.Common.{◌∙◌, ap, sym}
use Rattle.std.proofs.lemmas.Result.{err_from_is_err_and}
use Rattle.rusty_leveldb.proofs.Engines.SnapshotLemmas.{closed_gives, gives_none, gives_serves}
use Rattle.rusty_leveldb.proofs.db_impl.snapshots.Engine+E+C+FP.get_snapshot.Goals as goal

pub returns-in_err-check_not_closed : goal.returns-in_err-check_not_closed
returns-in_err-check_not_closed g c = λ at.
    let p = err_from_is_err_and c.from_residual.result c.from_residual.ensures.1 in
    rw (p.1, p.2) (closed_gives g.E.Env _ c.args.self.now c.in_err-check_not_closed.field-0.0 at
    c.in_err-check_not_closed.ensures.cause)

pub returns-in_err-snapshot : goal.returns-in_err-snapshot
returns-in_err-snapshot g c = λ at.
    let p = err_from_is_err_and c.from_residual-in_err-snapshot.result
    c.from_residual-in_err-snapshot.ensures.1 in
    rw (p.1, p.2, c.in_err-snapshot.ensures.err, ← c.self.view_is) (gives_none g.E.Env _ _
    (λ closed. c.in_ok-check_not_closed.ensures.ok (sym (ap (λ v. v.mode) c.self.view_is) ∙ closed))
    c.in_err-snapshot.field-0.0 at c.in_err-snapshot.ensures.cause)

-- the snapshot's number has 64 bits
pub returns : goal.returns
returns g c =
    let typed = rw c.in_ok-snapshot.was at c.new_snapshot.type_inv in
    rw (← c.self.view_is) (gives_serves g.E.Env _ _
    (λ closed. c.in_ok-check_not_closed.ensures.ok (sym (ap (λ v. v.mode) c.self.view_is) ∙ closed))
    c.new_snapshot.new.self c.in_ok-snapshot.snapshot typed.1.1.1.1.1.0.1.1.0.1
    (rw c.last_sequence-last.ensures at c.in_ok-snapshot.ensures.gives))
