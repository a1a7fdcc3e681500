use Rattle.std.proofs.Common.{◌≡◌, take}
use Rattle.leveldb_table.proofs.block_builder.shared_with.Given as goal

abbrev pub invariant-loop-i : goal.invariant-loop-i
invariant-loop-i l = take l.i l.last ≡ take l.i l.key
