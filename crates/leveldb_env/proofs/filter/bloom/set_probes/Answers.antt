use Rattle.std.proofs.Common.{◌≡◌, ◌+◌, ◌*◌, ◌%◌, ◌<◌, ◌≤◌, ◌^◌, ◌||◌, ap, ap₂, sym, ◌∙◌, arith, refl, length, get_or}
use Rattle.std.specs.Prelude.{◌==◌}
use Rattle.std.proofs.Math.Bool.{or-false}
use Rattle.std.proofs.lemmas.List.{take_all}
use Rattle.std.specs.List.{list_any}
use Rattle.std.specs.Int.{w32, rotate_left}
use Rattle.leveldb_env.specs.Bloom.{probes, has_bit}
use Rattle.leveldb_env.specs.FilterLaws.{length-probes, get_or-probes}
use Rattle.leveldb_env.proofs.BloomLemmas.{has_bit-more, hash_at-first, hash_at-more}
use Rattle.leveldb_env.proofs.filter.bloom.set_probes.Goals as goal

pub loop-init : goal.loop-init
loop-init c = record {
  delta_is = c.rotate_left-delta.ensures ∙ ap (λ h. rotate_left w32 h 15) c.bloom_hash-probe.ensures;
  bits_is = refl;
  probe_is = hash_at-first c.args.key.now c.bloom_hash-probe.result c.bloom_hash-probe.ensures (omega arith);
  set = λ bit. sym (or-false (has_bit c.args.bytes.now bit));
}

pub loop-preserved : goal.loop-preserved
loop-preserved c =
    let bits = 8 * length c.args.bytes.now
    in let places = probes bits c.args.count c.args.key.now
    in let there : c.loop.counter < length places = omega (arith, length-probes bits c.args.count c.args.key.now)
    in let place : c.loop.probe % bits ≡ get_or places c.loop.counter 0 =
    ap (λ h. h % bits) c.loop.invariant.probe_is ∙ sym (get_or-probes bits c.args.count c.args.key.now c.loop.counter c.loop-test.true)
    in record {
      delta_is = c.loop.invariant.delta_is;
      bits_is = refl;
      probe_is = ap₂ (λ h d. (h + d) % 2 ^ 32) c.loop.invariant.probe_is c.loop.invariant.delta_is ∙ hash_at-more c.args.key.now c.loop.counter;
      set = λ bit.
          c.set_bit.ensures bit ∙ ap (λ b. b || (c.loop.probe % bits == bit)) (c.loop.invariant.set bit)
          ∙ has_bit-more (has_bit c.args.bytes.now bit) places c.loop.counter bit (c.loop.probe % bits) there place;
    }

pub returns : goal.returns
returns c = λ bit.
    let bits = 8 * length c.args.bytes.now
    in let places = probes bits c.args.count c.args.key.now
    in let all : length places ≤ c.loop.counter = omega (arith, length-probes bits c.args.count c.args.key.now)
    in c.loop.invariant.set bit
    ∙ ap (λ ps. has_bit c.args.bytes.now bit || list_any (λ p. p == bit) ps) (take_all c.loop.counter places all)
