-- A walk now, at the snapshot that is named, or none.
use Rattle.std.proofs.Common.{sym}
use Rattle.rusty_leveldb.proofs.Programs.TurnLemmas.{held_none, held_one}
use Rattle.rusty_leveldb.proofs.shell.views.walk.Goals as goal

pub returns-in_default : goal.returns-in_default
returns-in_default g c = rw c.in_default.is c.walk_over.ensures

pub returns-in-Some-named : goal.returns-in-Some-named
returns-in-Some-named g c = rw (
  c.in-Some.is,
  held_one c.args.taken.now c.in-Some.number
      c.in-Some-named.snapshot (sym c.in-Some-named.ensures),
) c.walk_over-in-Some-named.ensures

pub returns-in-None : goal.returns-in-None
returns-in-None g c =
    rw (c.in-Some.is, held_none c.args.taken.now c.in-Some.number (sym c.in-None.ensures))
    (c.refuse_unknown.ensures.walk c.args.moves.now c.args.env.now)
