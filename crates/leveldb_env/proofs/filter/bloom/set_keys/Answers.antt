use Rattle.std.proofs.Common.{◌*◌, ◌<◌, ◌≤◌, ◌||◌, ap, ap₂, sym, ◌∙◌, arith, length, take}
use Rattle.std.specs.Prelude.{◌==◌}
use Rattle.std.specs.List.{list_any}
use Rattle.std.proofs.Math.Bool.{or-false}
use Rattle.std.proofs.lemmas.List.{take_all}
use Rattle.leveldb_env.specs.Filter.{keys_at}
use Rattle.leveldb_env.specs.Bloom.{probes, has_bit, is_probe}
use Rattle.leveldb_env.proofs.FilterLemmas.{length-keys_at}
use Rattle.leveldb_env.proofs.BloomLemmas.{is_probe-more}
use Rattle.leveldb_env.proofs.filter.bloom.set_keys.Goals as goal

pub loop-i-init : goal.loop-i-init
loop-i-init c = (λ bit. sym (or-false (has_bit c.args.bytes.now bit)), λ k. omega (arith, c.type_inv.bytes k))

pub loop-i-preserved : goal.loop-i-preserved
loop-i-preserved c =
    let keys = keys_at c.args.key_offsets.now c.args.keys.now
    in let there : c.loop-i.i < length keys = omega (arith, length-keys_at c.args.key_offsets.now c.args.keys.now)
    in (
      λ bit. c.set_probes.ensures bit
          ∙ ap (λ b. b || list_any (λ probe. probe == bit) (probes (8 * length c.loop-i.bytes) c.args.count c.key_at.result.now)) (c.loop-i.invariant.0 bit)
          ∙ ap₂ (λ n key. (has_bit c.args.bytes.now bit || is_probe (8 * length c.args.bytes.now) c.args.count (take c.loop-i.i keys) bit)
          || list_any (λ probe. probe == bit) (probes (8 * n) c.args.count key)) c.loop-i.auto.bytes c.key_at.ensures
          ∙ is_probe-more (has_bit c.args.bytes.now bit) (8 * length c.args.bytes.now) c.args.count keys c.loop-i.i bit there,
      λ k. omega (arith, c.type_inv.bytes k),
    )

pub returns-clause-bits : goal.returns-clause-bits
returns-clause-bits c = λ bit.
    let keys = keys_at c.args.key_offsets.now c.args.keys.now
    in let all : length keys ≤ c.loop-i.i = omega (arith, length-keys_at c.args.key_offsets.now c.args.keys.now)
    in c.loop-i.invariant.0 bit
    ∙ ap (λ ks. has_bit c.args.bytes.now bit || is_probe (8 * length c.args.bytes.now) c.args.count ks bit) (take_all c.loop-i.i keys all)

pub returns-clause-bytes : goal.returns-clause-bytes
returns-clause-bytes c = c.loop-i.invariant.1
