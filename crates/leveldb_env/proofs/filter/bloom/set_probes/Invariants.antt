use Rattle.std.proofs.Common.{◌≡◌, ◌*◌, ◌||◌, ℕ, List, length, take}
use Rattle.std.specs.Prelude.{◌==◌}
use Rattle.std.specs.List.{list_any}
use Rattle.std.specs.Int.{w32, rotate_left}
use Rattle.leveldb_env.specs.Bloom.{bloom_hash, probes, has_bit}
use Rattle.leveldb_env.proofs.BloomLemmas.{hash_at}
use Rattle.leveldb_env.proofs.filter.bloom.set_probes.Given as goal

pub record Setting (count counter bits delta probe : ℕ) (key before bytes : List ℕ) : Type 0 where
  pub delta_is : delta ≡ rotate_left w32 (bloom_hash key) 15
  pub bits_is : bits ≡ 8 * length before
  pub probe_is : probe ≡ hash_at key counter
  pub set : (bit : ℕ) → has_bit bytes bit ≡ (has_bit before bit || list_any (λ p. p == bit) (take counter (probes bits count key)))

abbrev pub invariant-loop : goal.invariant-loop
invariant-loop l = Setting l.count l.counter l.bits l.delta l.probe l.key l.initial.bytes l.bytes
