use Rattle.std.proofs.Common.{◌≡◌, ◌++◌}
use Rattle.leveldb_env.specs.Picks.{tails_of}
use Rattle.leveldb_env.proofs.PicksLemmas.{tails_in}
use Rattle.leveldb_env.proofs.mem_env.picks.list_tails.Given as goal

abbrev pub invariant-loop-name : goal.invariant-loop-name
invariant-loop-name l = tails_of l.tails.items ++ tails_in l.name-iterator ≡ tails_in l.files.entries
