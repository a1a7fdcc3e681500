use Rattle.std.proofs.Common.{◌-◌, ◌^◌}
use Rattle.leveldb_repair.proofs.LookOverLemmas.{LooksSoFar}
use Rattle.leveldb_repair.proofs.look_over.look_over.Given as goal

-- the pairs that the walk has passed were looked over
abbrev pub invariant-loop : goal.invariant-loop
invariant-loop g l = LooksSoFar g.W.Walk (l.fn.env, l.fn.tables) l.fn.walk (l.env, l.tables) l.walk l.found

abbrev pub decreases-loop : goal.decreases-loop
decreases-loop g l = 2 ^ 128 - l.counter
