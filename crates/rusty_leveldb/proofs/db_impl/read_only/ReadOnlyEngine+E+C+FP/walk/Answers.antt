-- No memory for the steps, or the store's walk.
use Rattle.std.proofs.Common.{[], sym, ◌∙◌, ap, append-nil, ◌++◌}
use Rattle.std.proofs.lemmas.Result.{err_from_is_err_and}
use Rattle.rusty_leveldb.proofs.Openings.ReadAloneLemmas.{walks_in, walks_starved}
use Rattle.rusty_leveldb.proofs.db_impl.read_only.ReadOnlyEngine+E+C+FP.walk.Goals as goal

pub returns-in_err-reserve : goal.returns-in_err-reserve
returns-in_err-reserve g c =
    let p = err_from_is_err_and c.from_residual.result c.from_residual.ensures.1 in
    rw p.1 (
      [],
      c.reserve.ensures.items ∙ sym (append-nil c.args.steps.now.items),
      walks_starved g.E.Env _ c.args.self.now c.args.env.now c.args.moves.now _ p.2,
    )

pub returns : goal.returns
returns g c =
    let walks = c.walk.ensures in (
      walks.0,
      walks.1 ∙ ap (λ items. items ++ walks.0) c.reserve.ensures.items,
      rw (← c.self.view_is) (walks_in g.E.Env _ _ c.args.env.now c.args.moves.now
          c.cmp-self-inside.result c.cmp-self-inside.ensures c.last_sequence-last.result
          c.last_sequence-last.ensures c.walk.new.env c.walk.new.tables walks.0 c.walk.result
          walks.2),
    )
