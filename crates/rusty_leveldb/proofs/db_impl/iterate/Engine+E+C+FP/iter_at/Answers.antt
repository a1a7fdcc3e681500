-- A closed store, a snapshot that isn't held, no memory, or an iterator over the store's view.
use Rattle.std.proofs.Common.{inl, inr, refl}
use Rattle.std.specs.Option.{option_map}
use Rattle.std.proofs.lemmas.Result.{err_from_is_err_and}
use Rattle.rusty_leveldb.specs.Engines.Serves.{snapshot_of}
use Rattle.rusty_leveldb.proofs.Walks.IteratingLemmas.{iterates_by, made_reference, unmade}
use Rattle.rusty_leveldb.proofs.db_impl.iterate.Engine+E+C+FP.iter_at.Goals as goal

pub returns-in_err-check_not_closed-clause-iterates : goal.returns-in_err-check_not_closed-clause-iterates
returns-in_err-check_not_closed-clause-iterates g c =
    let p = err_from_is_err_and c.from_residual.result c.from_residual.ensures.1 in
    let closed = c.in_err-check_not_closed.ensures.cause in
    rw (p.1, p.2, ← c.self.view_is) (unmade _ g.E.Env g.C.Cmp g.FP.FilterPolicy _ _ _ c.args.env.now (option_map snapshot_of c.args.at)
    c.in_err-check_not_closed.field-0.0 (λ why. closed.1) (inl closed))

pub returns-in_err-sequence-clause-iterates : goal.returns-in_err-sequence-clause-iterates
returns-in_err-sequence-clause-iterates g c =
    let p = err_from_is_err_and c.from_residual-in_err-sequence.result c.from_residual-in_err-sequence.ensures.1 in
    let unheld = c.in_err-sequence.ensures.cause in
    rw (p.1, p.2, ← c.self.view_is) (unmade _ g.E.Env g.C.Cmp g.FP.FilterPolicy _ _ _ c.args.env.now (option_map snapshot_of c.args.at)
    c.in_err-sequence.field-0.0 (λ why. unheld.0) (inr (inl unheld)))

pub returns-clause-reference : goal.returns-clause-reference
returns-clause-reference g c =
    made_reference _ g.E.Env g.C.Cmp g.FP.FilterPolicy _ _ _ _ _ _ _ _ c.iter_over.result c.iter_over.ensures.made

pub returns-clause-iterates : goal.returns-clause-iterates
returns-clause-iterates g c = rw (← c.self.view_is) (iterates_by _ g.E.Env g.C.Cmp g.FP.FilterPolicy _ _ _ c.args.env.now (option_map snapshot_of c.args.at)
    c.in_ok-check_not_closed.ensures.ok c.in_ok-sequence.sequence c.in_ok-sequence.ensures.ok _ _ refl refl c.iter_over.result c.iter_over.ensures.made c.iter_over.ensures.cause)
