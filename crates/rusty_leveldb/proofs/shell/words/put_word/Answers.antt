use Rattle.std.proofs.Common.{rules, ◌≡◌, ◌++◌, ◌∷◌, [], ℕ, List, take, slice_index_or, sym, ap, ◌∙◌, append-nil, append_assoc}
use Rattle.std.proofs.lemmas.List.{take_more}
use Rattle.hex.specs.Hex.{encode_lower, lower_digits}
use Rattle.rusty_leveldb.proofs.Programs.Words.{encode_none, encode_more}
use Rattle.rusty_leveldb.proofs.shell.words.put_word.Goals as goal

pub loop-byte-init : goal.loop-byte-init
loop-byte-init c = rw encode_none (sym (append-nil c.args.out.now.items))

pub loop-byte-preserved : goal.loop-byte-preserved
loop-byte-preserved c =
    let out = c.args.out.now.items in
    let bytes = c.args.bytes.now in
    let i = c.loop-byte.byte-index in
    let pushed : c.extend_from_slice-in-loop-byte.new.self.items ≡ c.loop-byte.out.items ++ encode_lower (slice_index_or bytes i 0 ∷ []) = search rules in
    pushed ∙ ap (λ (xs : List ℕ). xs ++ encode_lower (slice_index_or bytes i 0 ∷ [])) c.loop-byte.invariant
    ∙ append_assoc out (encode_lower (take i bytes)) (encode_lower (slice_index_or bytes i 0 ∷ []))
    ∙ ap (λ (xs : List ℕ). out ++ xs) (sym (encode_more lower_digits (take i bytes) (slice_index_or bytes i 0 ∷ [])) ∙ ap encode_lower (sym (take_more bytes i 0 c.loop-byte-test.true)))
