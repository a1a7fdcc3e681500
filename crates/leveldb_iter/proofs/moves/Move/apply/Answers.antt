use Rattle.leveldb_iter.specs.declared.moves.Move.TheVariants.{First, Seek}
use Rattle.leveldb_iter.proofs.MovesLemmas.{led_from, over_of}
use Rattle.leveldb_iter.proofs.moves.Move.apply.Goals as goal

pub returns-in-First : goal.returns-in-First
returns-in-First g c = rw c.in-First.is (led_from g.W.Walk g.met.W.Walk.laws First (over_of g.W.Walk g.met.W.Walk.laws First _ _) c.seek_to_first.ensures.moves)

pub returns-in-Seek : goal.returns-in-Seek
returns-in-Seek g c =
    let one = Seek c.in-Seek.key in
    let moves = rw c.deref.ensures.value at c.seek.ensures.moves in
    rw c.in-Seek.is (led_from g.W.Walk g.met.W.Walk.laws one
    (λ order pairs position at. (over_of g.W.Walk g.met.W.Walk.laws one _ _ order pairs position at, at.1)) moves)
