-- From the first pair that isn't before the key to the one before it, or else to the last.
use Rattle.rusty_leveldb.proofs.Walks.ScanWalkLemmas.{done, sought, two_moves}
use Rattle.rusty_leveldb.proofs.scan.seek_before.Goals as goal

pub returns-in_ok-prev : goal.returns-in_ok-prev
returns-in_ok-prev g c = two_moves g.W.Walk g.met.W.Walk.laws
    (λ order pairs position from at. (
      at,
      (sought g.W.Walk g.met.W.Walk.laws order pairs c.args.key.now _ _ at).0 c.valid.result
          c.valid.ensures c.if-valid.true,
    )) c.in_ok-seek.ensures.moves (done g.W.Walk g.met.W.Walk.laws c.in_ok-prev.ensures.moves)

pub returns-else-valid : goal.returns-else-valid
returns-else-valid g c = two_moves g.W.Walk g.met.W.Walk.laws
    (λ order pairs position from at. (
      g.met.W.Walk.laws.over_list _ _ order pairs _ at,
      (sought g.W.Walk g.met.W.Walk.laws order pairs c.args.key.now _ _ at).1 c.valid.result
          c.valid.ensures c.if-valid.false,
    )) c.in_ok-seek.ensures.moves c.seek_to_last.ensures.moves
