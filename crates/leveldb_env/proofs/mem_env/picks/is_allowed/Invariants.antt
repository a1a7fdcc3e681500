use Rattle.std.proofs.Common.{take}
use Rattle.leveldb_env.specs.MemEnv.{files_of}
use Rattle.leveldb_env.specs.Picks.{IsAllowed, tails_of}
use Rattle.leveldb_env.proofs.mem_env.picks.is_allowed.Given as goal

abbrev pub invariant-loop-i : goal.invariant-loop-i
invariant-loop-i l = IsAllowed (files_of l.files) (tails_of (take l.i l.tails))
