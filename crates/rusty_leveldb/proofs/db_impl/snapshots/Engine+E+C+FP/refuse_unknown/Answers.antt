-- A closed store, or a snapshot that is never held.
use Rattle.std.proofs.Common.{rules}
use Rattle.rusty_leveldb.proofs.Engines.UnknownLemmas.{unknown_closed, unknown_refused, unknown_unheld}
use Rattle.rusty_leveldb.proofs.db_impl.snapshots.Engine+E+C+FP.refuse_unknown.Goals as goal

pub returns-in-Err : goal.returns-in-Err
returns-in-Err g c =
    unknown_closed g.E.Env _ c.args.self.now c.in-Err.status c.in-Err.ensures.cause

pub returns-in-Ok : goal.returns-in-Ok
returns-in-Ok g c =
    unknown_refused g.E.Env _ c.args.self.now c.new.result c.in-Ok.ensures.ok c.new.ensures.code
    (unknown_unheld c.args.self.now.snapshots.held c.newest.result
    (rw (← c.self.view_is) c.newest.ensures) (search (rules, c.newest.type_inv)))
