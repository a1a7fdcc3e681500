-- A sync that failed, a lock that wasn't given back, or closed.
use Rattle.std.proofs.Common.{◌≡◌, ◌∙◌, ap}
use Rattle.rusty_leveldb.specs.Engines.EngineValue.{mode_of}
use Rattle.rusty_leveldb.specs.Machines.State.{open_mode}
use Rattle.rusty_leveldb.proofs.Engines.CallsLemmas.{close_locked_serves, close_unsynced_serves, closed_serves}
use Rattle.rusty_leveldb.proofs.db_impl.close.Engine+E+C+FP.close.Goals as goal

pub returns-in-Err : goal.returns-in-Err
returns-in-Err g c =
    let opened : mode_of c.self.inside.mode ≡ open_mode =
    ap (λ v. v.mode) c.self.view_is ∙ c.in_ok-check_open.ensures.ok in
    rw (← c.self.view_is) (close_unsynced_serves g.E.Env _ _ c.args.env.now opened
    c.sync.new.self c.sync.new.env c.in-Err.status
    c.in-Err.ensures.syncs c.in-Err.ensures.batches c.in-Err.ensures.sound)

pub returns-in-Err-give_back : goal.returns-in-Err-give_back
returns-in-Err-give_back g c =
    let opened : mode_of c.self.inside.mode ≡ open_mode =
    ap (λ v. v.mode) c.self.view_is ∙ c.in_ok-check_open.ensures.ok in
    rw (← c.self.view_is) (close_locked_serves g.E.Env _ _ c.args.env.now opened
    c.sync.new.self c.sync.new.env c.in_default.ensures.syncs
    c.in_default.ensures.batches c.in_default.ensures.sound c.give_back.new.env c.deref.result.now
    c.deref.ensures c.in-Err-give_back.status c.in-Err-give_back.ensures.does
    c.in-Err-give_back.ensures.locks c.in-Err-give_back.ensures.cause)

pub returns : goal.returns
returns g c =
    let opened : mode_of c.self.inside.mode ≡ open_mode =
    ap (λ v. v.mode) c.self.view_is ∙ c.in_ok-check_open.ensures.ok in
    rw (← c.self.view_is) (closed_serves g.E.Env _ _ c.args.env.now opened
    c.sync.new.self c.sync.new.env c.in_default.ensures.syncs
    c.in_default.ensures.batches c.in_default.ensures.sound c.give_back.new.env c.deref.result.now
    c.deref.ensures c.in_default-give_back.ensures.does c.in_default-give_back.ensures.locks
    c.in_default-give_back.ensures.cause)
