use Rattle.std.proofs.Common.{◌≡◌, drop}
use Rattle.std.specs.Map.{lookup}
use Rattle.std.specs.Str.{bytes_eq}
use Rattle.leveldb_env.specs.Picks.{tails_of}
use Rattle.leveldb_env.proofs.mem_env.picks.find_tail.Given as goal

abbrev pub invariant-loop-given : goal.invariant-loop-given
invariant-loop-given l = lookup (bytes_eq l.name) (tails_of (drop l.given-index l.tails)) ≡ lookup (bytes_eq l.name) (tails_of l.tails)
