use Rattle.std.proofs.Common.{◌≡◌, ◌<◌, ◌*◌, ◌||◌, ℕ, length, take}
use Rattle.std.specs.Prelude.{slice_index}
use Rattle.leveldb_env.specs.Filter.{keys_at}
use Rattle.leveldb_env.specs.Bloom.{has_bit, is_probe}
use Rattle.leveldb_env.proofs.filter.bloom.set_keys.Given as goal

abbrev pub invariant-loop-i : goal.invariant-loop-i
invariant-loop-i l =
    ((bit : ℕ) → has_bit l.bytes bit ≡ (has_bit l.initial.bytes bit || is_probe (8 * length l.initial.bytes) l.count (take l.i (keys_at l.key_offsets l.keys)) bit))
    × ((k : ℕ) → slice_index l.bytes k < 256)
