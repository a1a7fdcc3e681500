use Rattle.std.proofs.Common.{◌==◌, ◌≤◌}
use Rattle.std.specs.List.{position_or_len}
use Rattle.leveldb_env.proofs.compressor.index_of.Given as goal

abbrev pub invariant-loop-at : goal.invariant-loop-at
invariant-loop-at g l = l.at ≤ position_or_len (λ listed. listed.id == l.id) l.listed
