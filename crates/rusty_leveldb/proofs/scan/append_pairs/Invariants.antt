use Rattle.std.specs.Prelude.{map}
use Rattle.std.specs.Global.{Vec}
use Rattle.std.proofs.Common.{◌≡◌, ◌++◌, ℕ, List}
use Rattle.rusty_leveldb.specs.Walks.Scan.{bytes_of_copy}
use Rattle.rusty_leveldb.proofs.Walks.ScanWalkLemmas.{HaveCome}
use Rattle.rusty_leveldb.proofs.scan.append_pairs.Given as goal

abbrev pub invariant-loop-i : goal.invariant-loop-i
invariant-loop-i g l = (given : List (Vec ℕ × Vec ℕ)) × (l.pairs.items ≡ l.fn.pairs.items ++ given)
    × HaveCome g.W.Walk l.fn.scan (l.fn.env, l.fn.tables) l.fn.walk l.i (map bytes_of_copy given)
    (l.env, l.tables) l.walk
