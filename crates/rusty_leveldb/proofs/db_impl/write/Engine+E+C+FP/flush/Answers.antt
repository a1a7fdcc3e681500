-- Refused by the mode, or what the sync returned.
use Rattle.std.proofs.Common.{◌≡◌, ◌∙◌, ap}
use Rattle.std.proofs.lemmas.Result.{err_from_is_err_and}
use Rattle.rusty_leveldb.specs.Engines.EngineValue.{mode_of}
use Rattle.rusty_leveldb.specs.Machines.State.{open_mode}
use Rattle.rusty_leveldb.proofs.Engines.CallsLemmas.{flush_serves, refused_flushes}
use Rattle.rusty_leveldb.proofs.Engines.EngineLemmas.{follows_unbroken}
use Rattle.rusty_leveldb.proofs.db_impl.write.Engine+E+C+FP.flush.Goals as goal

pub returns-in_err-check_open : goal.returns-in_err-check_open
returns-in_err-check_open g c =
    let p = err_from_is_err_and c.from_residual.result c.from_residual.ensures.1 in
    rw (p.1, p.2) (refused_flushes g.E.Env _ c.args.self.now c.in_err-check_open.field-0.0
    c.args.env.now c.in_err-check_open.ensures.cause)

pub returns : goal.returns
returns g c =
    let opened : mode_of c.self.inside.mode ≡ open_mode =
    ap (λ v. v.mode) c.self.view_is ∙ c.in_ok-check_open.ensures.ok in
    rw (← c.self.view_is) (flush_serves g.E.Env _ _ c.args.env.now opened
    c.sync-synced.new.self c.sync-synced.new.env (c.self.invariant opened) _ c.mode_by-self-inside.ensures
    c.sync-synced.result c.sync-synced.ensures.syncs c.sync-synced.ensures.batches
    c.sync-synced.ensures.sound)

pub invariant_of-self : goal.invariant_of-self
invariant_of-self g c = follows_unbroken _ _ c.mode_by-self-inside.ensures
