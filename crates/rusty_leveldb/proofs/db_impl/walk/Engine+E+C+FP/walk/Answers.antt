-- A closed store, a snapshot that isn't held, no memory, or the store's walk.
use Rattle.std.proofs.Common.{[], sym, ◌∙◌, ap, append-nil, subst, ◌++◌}
use Rattle.std.specs.Option.{option_map}
use Rattle.std.proofs.lemmas.Result.{err_from_is_err_and}
use Rattle.rusty_leveldb.specs.Engines.Engine.{IsEngineSequence}
use Rattle.rusty_leveldb.specs.Engines.Serves.{snapshot_of}
use Rattle.rusty_leveldb.proofs.Walks.WalkCallLemmas.{walk_closed_serves, walk_serves_in, walk_starved_serves, walk_unheld_serves}
use Rattle.rusty_leveldb.proofs.db_impl.walk.Engine+E+C+FP.walk.Goals as goal

pub returns-in_err-check_not_closed : goal.returns-in_err-check_not_closed
returns-in_err-check_not_closed g c =
    let p = err_from_is_err_and c.from_residual.result c.from_residual.ensures.1 in
    rw (p.1, p.2) (
      [],
      sym (append-nil c.args.steps.now.items),
      walk_closed_serves g.E.Env _ c.args.self.now (option_map snapshot_of c.args.at) c.args.moves.now c.args.env.now
          c.in_err-check_not_closed.field-0.0 c.in_err-check_not_closed.ensures.cause,
    )

pub returns-in_err-sequence : goal.returns-in_err-sequence
returns-in_err-sequence g c =
    let p = err_from_is_err_and c.from_residual-in_err-sequence.result c.from_residual-in_err-sequence.ensures.1 in
    let unheld = c.in_err-sequence.ensures.cause in
    rw (p.1, p.2) (
      [],
      sym (append-nil c.args.steps.now.items),
      walk_unheld_serves g.E.Env _ c.args.self.now (option_map snapshot_of c.args.at) c.args.moves.now c.args.env.now
          c.in_ok-check_not_closed.ensures.ok c.in_err-sequence.field-0.0 unheld.0 unheld.1,
    )

pub returns-in_err-reserve : goal.returns-in_err-reserve
returns-in_err-reserve g c =
    let p = err_from_is_err_and c.from_residual-in_err-reserve.result c.from_residual-in_err-reserve.ensures.1 in
    rw p.1 (
      [],
      c.reserve.ensures.items ∙ sym (append-nil c.args.steps.now.items),
      walk_starved_serves g.E.Env _ c.args.self.now (option_map snapshot_of c.args.at) c.args.moves.now c.args.env.now
          c.in_ok-check_not_closed.ensures.ok _ p.2,
    )

pub returns : goal.returns
returns g c =
    let walks = c.walk.ensures in (
      walks.0,
      walks.1 ∙ ap (λ items. items ++ walks.0) c.reserve.ensures.items,
      rw (← c.self.view_is)
          (walk_serves_in g.E.Env _ _ (option_map snapshot_of c.args.at) c.args.moves.now c.args.env.now
          (λ closed. c.in_ok-check_not_closed.ensures.ok (sym (ap (λ v. v.mode) c.self.view_is) ∙ closed))
          c.cmp-self-inside.result c.cmp-self-inside.ensures c.in_ok-sequence.sequence
          (subst (λ e. IsEngineSequence e (option_map snapshot_of c.args.at) c.in_ok-sequence.sequence) (sym c.self.view_is)
          c.in_ok-sequence.ensures.ok) c.walk.new.env c.walk.new.tables walks.0 c.walk.result walks.2),
    )
