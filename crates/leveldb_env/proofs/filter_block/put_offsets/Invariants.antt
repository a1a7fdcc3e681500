use Rattle.std.proofs.Common.{◌≡◌, ◌++◌, take, flat_map}
use Rattle.leveldb_base.specs.Varint.{little}
use Rattle.leveldb_env.proofs.filter_block.put_offsets.Given as goal

abbrev pub invariant-loop-offset : goal.invariant-loop-offset
invariant-loop-offset l = l.block.items ≡ l.fn.block.items ++ flat_map (little 4) (take l.offset-index l.offsets)
