use Rattle.std.proofs.Common.{◌≡◌, ◌*◌, ◌-◌, ◌^◌, ◌≤◌, ◌||◌, ap, ap₂, sym, ◌∙◌, arith, length, [], ◌∷◌, ◌++◌, take, drop, replicate}
use Rattle.std.proofs.Math.Seq.{take-append_seam}
use Rattle.leveldb_env.specs.Filter.{keys_at}
use Rattle.leveldb_env.specs.Bloom.{bits_len, has_bit, is_probe, probe_count}
use Rattle.leveldb_env.proofs.FilterLemmas.{length-keys_at}
use Rattle.leveldb_env.proofs.BloomLemmas.{refused, fresh_zeros, has_bit-zeros, bloom_filter-is}
use Rattle.leveldb_env.proofs.filter.bloom.BloomPolicyFilterPolicy.create_filter.Goals as goal

pub returns-in_default-clause-cause : goal.returns-in_default-clause-cause
returns-in_default-clause-cause c =
    let keys = keys_at c.args.key_offsets.now c.args.keys.now
    in let large : 2 ^ 32 ≤ 8 * bits_len c.self.inside.bits_per_key (length c.args.key_offsets.now) = c.in_default.ensures
    in let same : bits_len c.self.inside.bits_per_key (length c.args.key_offsets.now) ≡ bits_len c.args.self.now (length keys) =
    ap₂ bits_len c.self.view_is (sym (length-keys_at c.args.key_offsets.now c.args.keys.now))
    in refused c.err.result (2 ^ 32 ≤ 8 * bits_len c.args.self.now (length keys)) c.err.ensures.code (omega (arith, large, same))

pub returns-clause-fits : goal.returns-clause-fits
returns-clause-fits c too_large =
    let keys = keys_at c.args.key_offsets.now c.args.keys.now
    in let large : 2 ^ 32 ≤ 8 * bits_len c.args.self.now (length keys) = too_large
    in let same : c.in-Some.len ≡ bits_len c.args.self.now (length keys) =
    c.in-Some.ensures.0 ∙ ap₂ bits_len c.self.view_is (sym (length-keys_at c.args.key_offsets.now c.args.keys.now))
    in omega (arith, large, same, c.in-Some.ensures.1)

pub returns-clause-ok : goal.returns-clause-ok
returns-clause-ok c =
    let keys = keys_at c.args.key_offsets.now c.args.keys.now
    in let bytes = c.set_keys.new.bytes
    in let len = c.in-Some.len
    in let count = c.probe_count-count.result
    in let zeros : c.deref_mut.result.now ≡ replicate len 0 =
    c.deref_mut.ensures.value ∙ c.in_ok-resize.ensures.items
    ∙ ap₂ (λ items n. take len items ++ replicate (len - n) 0) c.in_ok-filter.ensures.items c.in_ok-filter.ensures.len ∙ fresh_zeros len
    in let whole : length bytes ≡ length c.deref_mut.result.now = c.set_keys.auto.bytes
    in let long : length bytes ≡ len = whole ∙ c.deref_mut.ensures.len ∙ c.in_ok-resize.ensures.len
    in let same : len ≡ bits_len c.args.self.now (length keys) =
    c.in-Some.ensures.0 ∙ ap₂ bits_len c.self.view_is (sym (length-keys_at c.args.key_offsets.now c.args.keys.now))
    in c.in_ok-push.ensures.items
    ∙ ap (λ b. b ++ count ∷ [])
    (ap (λ n. take n (bytes ++ drop (length bytes) c.resize.new.self.items)) (sym (whole ∙ c.deref_mut.ensures.len))
    ∙ take-append_seam bytes (drop (length bytes) c.resize.new.self.items))
    ∙ bloom_filter-is c.args.self.now keys bytes count (long ∙ same) (c.probe_count-count.ensures ∙ ap probe_count c.self.view_is)
    c.set_keys.ensures.bytes
    (λ bit. c.set_keys.ensures.bits bit
    ∙ ap₂ (λ b n. b || is_probe (8 * n) count keys bit) (ap (λ z. has_bit z bit) zeros ∙ has_bit-zeros len bit) (sym whole))
