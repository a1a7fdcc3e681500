use Rattle.leveldb_iter.proofs.children.step_child.Goals as goal

pub returns-in-First : goal.returns-in-First
returns-in-First g c = rw c.in-First.is c.seek_to_first.ensures.moves

pub returns-in-Last : goal.returns-in-Last
returns-in-Last g c = rw c.in-Last.is c.seek_to_last.ensures.moves

pub returns-in-Seek : goal.returns-in-Seek
returns-in-Seek g c = rw c.in-Seek.is c.seek.ensures.moves
