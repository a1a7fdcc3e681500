-- The snapshot that is named, or none.
use Rattle.std.proofs.Common.{sym}
use Rattle.rusty_leveldb.proofs.Programs.TurnLemmas.{held_none, held_one}
use Rattle.rusty_leveldb.proofs.shell.views.get_at.Goals as goal

pub returns-in-Some : goal.returns-in-Some
returns-in-Some g c = rw (held_one c.args.taken.now c.args.number c.in-Some.snapshot
    (sym c.in-Some.ensures)) c.get_at.ensures

pub returns-in-None : goal.returns-in-None
returns-in-None g c = rw (held_none c.args.taken.now c.args.number (sym c.in-None.ensures))
    (c.refuse_unknown.ensures.get_at c.args.key.now c.args.env.now)
