use Rattle.std.proofs.Common.{◌≡◌, ◌≤◌, ◌+◌, ◌-◌, ◌++◌, List, length, take, vec_len, vec_capacity}
use Rattle.leveldb_iter.specs.declared.moves.Step.{Step}
use Rattle.leveldb_iter.specs.Moves.{MovesAll}
use Rattle.leveldb_iter.proofs.moves.make_moves.Given as goal

abbrev pub invariant-loop-one : goal.invariant-loop-one
invariant-loop-one g l =
    (vec_len l.steps + (length l.moves - l.one-index) ≤ vec_capacity l.steps)
    × (given : List Step) × (l.steps.items ≡ l.fn.steps.items ++ given)
    × MovesAll g.W.Walk (l.fn.env, l.fn.tables) l.fn.walk (take l.one-index l.moves) given (l.env, l.tables) l.walk
