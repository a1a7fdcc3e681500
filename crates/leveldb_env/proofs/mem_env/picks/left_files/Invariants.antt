use Rattle.leveldb_env.specs.Picks.{tails_of}
use Rattle.leveldb_env.proofs.PicksLemmas.{Leaving}
use Rattle.leveldb_env.proofs.mem_env.picks.left_files.Given as goal

abbrev pub invariant-loop-name : goal.invariant-loop-name
invariant-loop-name l = Leaving l.files (tails_of l.tails) l.name-iterator l.left
