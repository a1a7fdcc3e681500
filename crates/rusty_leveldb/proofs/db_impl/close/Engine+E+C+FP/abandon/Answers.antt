-- Closed before, or what giving back the lock returned.
use Rattle.std.proofs.Common.{◌≡◌, ◌∙◌, refl, sym, ap, arith, Ok}
use Rattle.rusty_leveldb.specs.declared.db_impl.engine.Mode.{Mode}
use Rattle.rusty_leveldb.specs.declared.db_impl.engine.Mode.TheVariants.{Open, Broken, Closed}
use Rattle.rusty_leveldb.specs.Engines.EngineValue.{mode_of}
use Rattle.rusty_leveldb.specs.Machines.State as machine
use Rattle.rusty_leveldb.specs.Machines.State.{closed}
use Rattle.rusty_leveldb.proofs.Engines.ClosingLemmas.{abandon_answers, abandoned_closed}
use Rattle.rusty_leveldb.proofs.Engines.Others.{spares_still}
use Rattle.rusty_leveldb.proofs.Engines.RestLemmas.{abandon_lock, abandon_others}
use Rattle.rusty_leveldb.proofs.Engines.RowLemmas.{abandon_row}
use Rattle.rusty_leveldb.proofs.db_impl.close.Engine+E+C+FP.abandon.Goals as goal

-- only a closed engine has this mode
when_closed : (mode : Mode) → mode_of mode ≡ closed → mode ≡ Closed
when_closed Open is = absurd (let never : machine.open_mode ≡ closed = is in cc)
when_closed Broken is = absurd (let never : machine.broken ≡ closed = is in cc)
when_closed Closed is = refl

pub returns-then-eq : goal.returns-then-eq
returns-then-eq g c =
    let is : c.self.inside.mode ≡ Closed = grind arith in
    let closed_is : c.args.self.mode ≡ closed =
    sym (ap (λ v. v.mode) c.self.view_is) ∙ ap mode_of is in
    let step = abandoned_closed g.E.Env _ c.args.self c.args.env.now closed_is in
    let row = abandon_row _ g.E.Env _ c.args.self c.args.env.now (Ok tt) c.args.env.now step in
    record {
      ok = row.0;
      err = row.1;
      refused_by_mode = λ closed. (refl, tt);
      step = step;
      others = λ modelled own. spares_still c.args.self.store.set.store (λ path. ⊥)
          (g.E.Env.observed c.args.env.now).disk;
      lock = λ modelled usable. absurd (usable closed_is);
      time = λ modelled. omega arith;
      cause = record { later = omega arith; ok = refl; uncounted = tt; cause = tt };
    }

pub returns : goal.returns
returns g c =
    let differs : c.self.inside.mode ≡ Closed → ⊥ = λ is. grind arith in
    let open_still : c.args.self.mode ≡ closed → ⊥ =
    λ is. differs (when_closed c.self.inside.mode (ap (λ v. v.mode) c.self.view_is ∙ is)) in
    let lock : c.deref.result.now ≡ c.args.self.lock =
    c.deref.ensures ∙ ap (λ v. v.lock) c.self.view_is in
    let step = abandon_answers g.E.Env _ c.args.self c.args.env.now c.give_back.new.env open_still
    c.deref.result.now lock c.give_back.result c.give_back.ensures.does
    c.give_back.ensures.locks c.give_back.ensures.cause in
    let row = abandon_row _ g.E.Env _ c.args.self c.args.env.now c.give_back.result
    c.give_back.new.env step in
    record {
      ok = row.0;
      err = row.1;
      refused_by_mode = λ closed. absurd (open_still closed);
      step = step;
      others = abandon_others g.E.Env c.args.self c.args.env.now c.give_back.new.env
          c.give_back.result c.give_back.ensures.does c.deref.result.now lock
          c.give_back.ensures.locks;
      lock = λ modelled usable. abandon_lock g.E.Env c.args.self c.args.env.now c.give_back.new.env
          c.give_back.result c.give_back.ensures.does c.deref.result.now lock
          c.give_back.ensures.locks modelled;
      time = λ modelled. c.give_back.ensures.does.time.later;
      cause = c.give_back.ensures.cause;
    }
