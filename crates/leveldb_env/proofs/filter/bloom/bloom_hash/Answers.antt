use Rattle.std.proofs.Common.{◌≡◌, ◌%◌, ap, sym, ◌∙◌, arith, length, [], ◌∷◌, ◌++◌, drop}
use Rattle.std.proofs.lemmas.Bool.{eqb-true, eqb-false}
use Rattle.leveldb_env.specs.Bloom.{hash_after}
use Rattle.leveldb_env.proofs.BloomLemmas.{hash_after-none, hash_after-rest, bloom_hash-words}
use Rattle.leveldb_env.proofs.filter.bloom.bloom_hash.Goals as goal

pub returns-then-is_empty : goal.returns-then-is_empty
returns-then-is_empty c =
    let rest = c.as_chunks.result.1.now
    in hash_after-none c.hash_words-hash.result rest (eqb-true (length rest) 0 (sym c.is_empty.ensures ∙ c.if-is_empty.true))
    ∙ ap (λ hash. hash_after hash rest) c.hash_words-hash.ensures
    ∙ bloom_hash-words c.args.key.now rest c.as_chunks.result.0.now c.as_chunks.ensures.front c.as_chunks.ensures.back

pub returns : goal.returns
returns c =
    let rest = c.as_chunks.result.1.now
    in let left : length rest ≡ length c.args.key.now % 4 = c.as_chunks.ensures.back_len
    in let some : length rest ≡ 0 → ⊥ = eqb-false (length rest) 0 (sym c.is_empty.ensures ∙ c.if-is_empty.false)
    in c.mixed.ensures
    ∙ hash_after-rest c.hash_words-hash.result rest (c.copy_from_slice.new.self ++ drop (length rest) (0 ∷ 0 ∷ 0 ∷ 0 ∷ []))
    (omega (arith, some)) (omega (arith, left)) (ap (λ bytes. bytes ++ drop (length rest) (0 ∷ 0 ∷ 0 ∷ 0 ∷ [])) c.copy_from_slice.ensures.after)
    ∙ ap (λ hash. hash_after hash rest) c.hash_words-hash.ensures
    ∙ bloom_hash-words c.args.key.now rest c.as_chunks.result.0.now c.as_chunks.ensures.front c.as_chunks.ensures.back
