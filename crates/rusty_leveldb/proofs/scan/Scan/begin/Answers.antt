-- Each scan begins by the move that leads there.
use Rattle.std.proofs.Common.{refl}
use Rattle.rusty_leveldb.proofs.Walks.ScanWalkLemmas.{from_fewer}
use Rattle.rusty_leveldb.proofs.scan.Scan.begin.Goals as goal

pub returns-in-First : goal.returns-in-First
returns-in-First g c = rw c.in-First.is (from_fewer g.W.Walk g.met.W.Walk.laws
    (λ order pairs position at. (at.0, refl)) c.seek_to_first.ensures.moves)

pub returns-in-From : goal.returns-in-From
returns-in-From g c = rw c.in-From.is (from_fewer g.W.Walk g.met.W.Walk.laws
    (λ order pairs position at. (at, refl)) c.seek.ensures.moves)

pub returns-in-Before : goal.returns-in-Before
returns-in-Before g c = rw c.in-Before.is (from_fewer g.W.Walk g.met.W.Walk.laws
    (λ order pairs position at. (at, refl)) c.seek_before.ensures)

pub returns-in-Last : goal.returns-in-Last
returns-in-Last g c = rw c.in-Last.is (from_fewer g.W.Walk g.met.W.Walk.laws
    (λ order pairs position at. (at.0, refl)) c.seek_to_last.ensures.moves)
