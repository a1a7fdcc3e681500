use Rattle.std.proofs.lemmas.Result.{err_from_is_err_and}
use Rattle.rusty_leveldb.proofs.Engines.SaysLemmas.{open_says}
use Rattle.rusty_leveldb.proofs.db_impl.store.Store+E+Engine+E+C+FP.open.Goals as goal

pub returns-in_err-engine-clause-says : goal.returns-in_err-engine-clause-says
returns-in_err-engine-clause-says g c =
    let p = err_from_is_err_and c.from_residual.result c.from_residual.ensures.1 in
    rw (p.1, p.2) (c.open.new.env, tt, open_says c.in_err-engine.ensures)

pub returns-clause-says : goal.returns-clause-says
returns-clause-says g c = (c.open.new.env, c.around.ensures.env, rw c.around.ensures.state (open_says c.in_ok-engine.ensures))

pub returns-in_err-engine-clause-opens : goal.returns-in_err-engine-clause-opens
returns-in_err-engine-clause-opens g c =
    let p = err_from_is_err_and c.from_residual.result c.from_residual.ensures.1 in
    rw (p.1, p.2) (c.open.new.env, tt, c.in_err-engine.ensures)

pub returns-clause-opens : goal.returns-clause-opens
returns-clause-opens g c = (c.open.new.env, c.around.ensures.env, rw c.around.ensures.state c.in_ok-engine.ensures)
