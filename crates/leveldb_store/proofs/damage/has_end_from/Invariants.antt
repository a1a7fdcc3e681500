use Rattle.std.proofs.Common.{◌≤◌, ◌<◌, ◌%◌, ℕ, drop}
use Rattle.leveldb_mem.specs.Log.{log_block_size}
use Rattle.leveldb_store.specs.Logs.Damage.{StartsWithEnd}
use Rattle.leveldb_store.proofs.damage.has_end_from.Given as goal

abbrev pub invariant-loop-at : goal.invariant-loop-at
invariant-loop-at l = (k : ℕ) → l.from ≤ k → k < l.at
    → StartsWithEnd (k % log_block_size) (drop k l.text) → ⊥
