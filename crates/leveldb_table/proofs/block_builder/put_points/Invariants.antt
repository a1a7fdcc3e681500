use Rattle.std.proofs.Common.{◌≡◌, ◌++◌, ◌∷◌, take, flat_map}
use Rattle.leveldb_base.specs.Varint.{little}
use Rattle.leveldb_table.proofs.block_builder.put_points.Given as goal

abbrev pub invariant-loop-point : goal.invariant-loop-point
invariant-loop-point l = l.buffer.items ≡ l.fn.buffer.items ++ flat_map (little 4) (0 ∷ take l.point-index l.points.items)
