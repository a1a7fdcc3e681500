use Rattle.std.proofs.Common.{refl}
use Rattle.leveldb_repair.proofs.found_walk.table.FoundTable.go.Goals as goal

pub returns : goal.returns
returns g c = record {
  table = refl;
  moves = c.move_in.ensures.moves;
  there = c.move_in.ensures.there;
}
