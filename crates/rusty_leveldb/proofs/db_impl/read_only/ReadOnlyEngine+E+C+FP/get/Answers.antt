-- A key that is too long, or what the store's look-up returned.
use Rattle.std.proofs.lemmas.Result.{err_from_is_err_and}
use Rattle.rusty_leveldb.proofs.Openings.ReadAloneLemmas.{gets_in, gets_misfit}
use Rattle.rusty_leveldb.proofs.db_impl.read_only.ReadOnlyEngine+E+C+FP.get.Goals as goal

pub returns-in_err-check_key_size : goal.returns-in_err-check_key_size
returns-in_err-check_key_size g c =
    let p = err_from_is_err_and c.from_residual.result c.from_residual.ensures.1 in
    let long = c.in_err-check_key_size.ensures.long in
    rw (p.1, p.2) (gets_misfit g.E.Env _ c.args.self.now c.args.env.now c.args.key.now
    c.in_err-check_key_size.field-0.0 long.0 long.1)

pub returns : goal.returns
returns g c = rw (← c.self.view_is) (gets_in g.E.Env _ _ c.args.env.now c.args.key.now
    c.cmp-self-inside.result c.cmp-self-inside.ensures c.last_sequence-last.result
    c.last_sequence-last.ensures c.in_ok-check_key_size.ensures.ok c.get.new.env c.get.result
    c.get.new.self c.get.new.tables c.get.ensures)
