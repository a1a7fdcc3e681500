-- A closed store, a snapshot that isn't held, a key that is too long, or what the store's look-up
-- returned.
use Rattle.std.specs.Prelude.{Contains}
use Rattle.std.proofs.Common.{◌∙◌, Some, ap, inl, inr, subst, sym}
use Rattle.std.proofs.lemmas.Result.{err_from_is_err_and}
use Rattle.rusty_leveldb.specs.Engines.Engine.{held_in}
use Rattle.rusty_leveldb.specs.Engines.Serves.{snapshot_of}
use Rattle.rusty_leveldb.proofs.Engines.CallsLemmas.{get_closed_serves, get_misfit_serves, get_serves_in}
use Rattle.rusty_leveldb.proofs.Engines.ReadingLemmas.{still_unbroken}
use Rattle.rusty_leveldb.proofs.db_impl.read.Engine+E+C+FP.get_at.Goals as goal

pub returns-in_err-check_not_closed : goal.returns-in_err-check_not_closed
returns-in_err-check_not_closed g c =
    let p = err_from_is_err_and c.from_residual.result c.from_residual.ensures.1 in
    rw (p.1, p.2) (get_closed_serves g.E.Env _ c.args.self.now (Some (snapshot_of c.args.snapshot))
    c.args.key.now c.args.env.now c.in_err-check_not_closed.field-0.0
    c.in_err-check_not_closed.ensures.cause)

pub returns-in_err-check_held : goal.returns-in_err-check_held
returns-in_err-check_held g c =
    let p = err_from_is_err_and c.from_residual-in_err-check_held.result
    c.from_residual-in_err-check_held.ensures.1 in
    let unheld = c.in_err-check_held.ensures.cause in
    rw (p.1, p.2) (get_misfit_serves g.E.Env _ c.args.self.now (Some (snapshot_of c.args.snapshot))
    c.args.key.now c.args.env.now c.in_ok-check_not_closed.ensures.ok
    c.in_err-check_held.field-0.0 unheld.0 (inl unheld.1))

pub returns-in_err-check_key_size : goal.returns-in_err-check_key_size
returns-in_err-check_key_size g c =
    let p = err_from_is_err_and c.from_residual-in_err-check_key_size.result
    c.from_residual-in_err-check_key_size.ensures.1 in
    let long = c.in_err-check_key_size.ensures.long in
    rw (p.1, p.2) (get_misfit_serves g.E.Env _ c.args.self.now (Some (snapshot_of c.args.snapshot))
    c.args.key.now c.args.env.now c.in_ok-check_not_closed.ensures.ok
    c.in_err-check_key_size.field-0.0 long.0 (inr long.1))

pub returns : goal.returns
returns g c = rw (← c.self.view_is) (get_serves_in g.E.Env _ _ (Some (snapshot_of c.args.snapshot))
    c.args.key.now c.args.env.now
    (λ closed. c.in_ok-check_not_closed.ensures.ok (sym (ap (λ v. v.mode) c.self.view_is) ∙ closed))
    c.cmp-self-inside.result c.cmp-self-inside.ensures c.sequence-sequence.result (
      subst (λ e. Contains (held_in e) (snapshot_of c.args.snapshot)) (sym c.self.view_is)
          c.in_ok-check_held.ensures.ok,
      c.sequence-sequence.ensures,
    )
    c.in_ok-check_key_size.ensures.ok c.get.new.env c.get.result c.get.new.self c.get.new.tables
    c.get.ensures)

pub invariant_of-self : goal.invariant_of-self
invariant_of-self g c = λ opened. still_unbroken g.E.Env _ _ _ _ _ _ _ _ _ _ c.get.ensures
    (c.self.invariant opened)
