use Rattle.std.proofs.Common.{◌≡◌, ◌+◌, ◌%◌, ◌<◌, ◌≤◌, ◌^◌, ◌&&◌, ap, ap₂, sym, ◌∙◌, arith, length, get_or}
use Rattle.std.proofs.lemmas.List.{take_all}
use Rattle.std.proofs.lemmas.List.Folds.{list_all_more}
use Rattle.std.specs.List.{list_all}
use Rattle.leveldb_env.specs.Bloom.{probes, has_bit, bits_of, count_in}
use Rattle.leveldb_env.specs.FilterLaws.{length-probes, get_or-probes}
use Rattle.leveldb_env.proofs.BloomLemmas.{has_bit-clear, has_bit-found, list_all-fails, hash_at-more}
use Rattle.leveldb_env.proofs.filter.bloom.has_probes.Goals as goal

pub returns-then-filter-bit-eq0 : goal.returns-then-filter-bit-eq0
returns-then-filter-bit-eq0 c =
    let bytes = c.args.filter.now
    in let places = probes (bits_of c.args.filter.now) (count_in c.args.filter.now) c.args.key.now
    in let there : c.loop.counter < length places = omega (arith, length-probes (bits_of c.args.filter.now) (count_in c.args.filter.now) c.args.key.now)
    in let place : get_or places c.loop.counter 0 ≡ c.loop.probe % bits_of c.args.filter.now =
    get_or-probes (bits_of c.args.filter.now) (count_in c.args.filter.now) c.args.key.now c.loop.counter c.loop-test.true ∙ ap (λ h. h % bits_of c.args.filter.now) (sym c.loop.invariant.1)
    in sym (list_all-fails (has_bit bytes) places c.loop.counter 0 there
    (ap (has_bit bytes) place ∙ has_bit-clear bytes (c.loop.probe % bits_of c.args.filter.now) c.if-filter-bit-eq0.true))

pub loop-preserved : goal.loop-preserved
loop-preserved c =
    let bytes = c.args.filter.now
    in let places = probes (bits_of c.args.filter.now) (count_in c.args.filter.now) c.args.key.now
    in let there : c.loop.counter < length places = omega (arith, length-probes (bits_of c.args.filter.now) (count_in c.args.filter.now) c.args.key.now)
    in let place : get_or places c.loop.counter 0 ≡ c.loop.probe % bits_of c.args.filter.now =
    get_or-probes (bits_of c.args.filter.now) (count_in c.args.filter.now) c.args.key.now c.loop.counter c.loop-test.true ∙ ap (λ h. h % bits_of c.args.filter.now) (sym c.loop.invariant.1)
    in (
      c.loop.invariant.0,
      ap₂ (λ h d. (h + d) % 2 ^ 32) c.loop.invariant.1 c.loop.invariant.0 ∙ hash_at-more c.args.key.now c.loop.counter,
      list_all_more (has_bit bytes) places c.loop.counter 0 there
          ∙ ap₂ (λ a b. a && b) c.loop.invariant.2 (ap (has_bit bytes) place ∙ has_bit-found bytes (c.loop.probe % bits_of c.args.filter.now) c.if-filter-bit-eq0.false),
    )

pub returns : goal.returns
returns c =
    let places = probes (bits_of c.args.filter.now) (count_in c.args.filter.now) c.args.key.now
    in let all : length places ≤ c.loop.counter = omega (arith, length-probes (bits_of c.args.filter.now) (count_in c.args.filter.now) c.args.key.now)
    in sym (ap (list_all (has_bit c.args.filter.now)) (sym (take_all c.loop.counter places all)) ∙ c.loop.invariant.2)
