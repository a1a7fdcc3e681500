use Rattle.std.proofs.Common.{◌≡◌, true, take}
use Rattle.std.specs.List.{list_all}
use Rattle.std.specs.Int.{w32, rotate_left}
use Rattle.leveldb_env.specs.Bloom.{bloom_hash, probes, has_bit, bits_of, count_in}
use Rattle.leveldb_env.proofs.BloomLemmas.{hash_at}
use Rattle.leveldb_env.proofs.filter.bloom.has_probes.Given as goal

abbrev pub invariant-loop : goal.invariant-loop
invariant-loop l =
    (l.delta ≡ rotate_left w32 (bloom_hash l.key) 15) × (l.probe ≡ hash_at l.key l.counter)
    × (list_all (has_bit l.filter) (take l.counter (probes (bits_of l.filter) (count_in l.filter) l.key)) ≡ true)
