use Rattle.leveldb_mem.proofs.LaidLemmas.{lasts_are, lasts_place}
use Rattle.leveldb_mem.proofs.skipmap.placed.PlacedPairs.path_to_end.Goals as goal

pub returns-clause-path : goal.returns-clause-path
returns-clause-path c = rw (← c.self.view_is) (lasts_are c.self.invariant.0)

pub returns-clause-place : goal.returns-clause-place
returns-clause-place c = rw (← c.self.view_is) (lasts_place c.self.invariant.0)
