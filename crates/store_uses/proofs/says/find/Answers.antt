use Rattle.store_uses.proofs.SaysLemmas.{held_is_found, nothing_found}
use Rattle.store_uses.proofs.says.find.Goals as goal

pub returns-in_err-db : goal.returns-in_err-db
returns-in_err-db g c value holds =
    nothing_found _ _ c.from_residual.result c.from_residual.ensures.1

pub returns-in_err-found : goal.returns-in_err-found
returns-in_err-found g c value holds =
    nothing_found _ _ c.from_residual-in_err-found.result c.from_residual-in_err-found.ensures.1

pub returns-in_err-abandon : goal.returns-in_err-abandon
returns-in_err-abandon g c value holds =
    nothing_found _ _ c.from_residual-in_err-abandon.result c.from_residual-in_err-abandon.ensures.1

pub returns : goal.returns
returns g c value holds =
    held_is_found _ _ _ _ c.args.env.now c.in_ok-db.ensures.says.0 c.in_ok-db.db.env.now
    c.get.new.self.env.now c.in_ok-db.db.state c.get.new.self.state c.args.key.now value
    c.in_ok-found.found holds c.in_ok-db.ensures.says.1 c.in_ok-db.ensures.says.2
    c.in_ok-found.ensures.says
