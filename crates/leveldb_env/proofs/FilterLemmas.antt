-- Keys that are stored one after another: where each begins and ends.
use Rattle.std.proofs.Common.{◌≡◌, ℕ, zero, suc, ◌+◌, ◌-◌, ◌<◌, ◌≤◌, min, max, refl, sym, ap, ap₂, ◌∙◌, arith, List, [], ◌∷◌, ◌++◌, append_assoc, append-nil, length, take, drop, get_or}
use Rattle.std.specs.List.{concat, slice_range}
use Rattle.std.proofs.lemmas.List.{length-append, length-drop, drop_min, take_min}
use Rattle.std.proofs.lemmas.List.Folds.{concat-append}
use Rattle.std.proofs.Math.Seq.{take-append_seam, drop-append_seam}
use Rattle.leveldb_env.specs.Filter.{first_offset, keys_at}

-- where each key begins, if the first begins here
abbrev pub starts : ℕ → List (List ℕ) → List ℕ
starts at [] = []
starts at (key ∷ keys) = at ∷ starts (at + length key) keys

-- one key more
pub starts-more : (at : ℕ) (keys : List (List ℕ)) (key : List ℕ) → starts at (keys ++ key ∷ []) ≡ starts at keys ++ (at + length (concat keys)) ∷ []
starts-more at [] key = let same : at ≡ at + 0 = omega arith in ap (λ n. n ∷ []) same
starts-more at (first ∷ keys) key =
    let place : at + length first + length (concat keys) ≡ at + length (first ++ concat keys) = omega (arith, length-append first (concat keys))
    in ap (λ offsets. at ∷ offsets) (starts-more (at + length first) keys key ∙ ap (λ n. starts (at + length first) keys ++ n ∷ []) place)

-- where the first key of some ends
first_end : (at : ℕ) (keys : List (List ℕ)) (end : ℕ) → end ≡ at + length (concat keys) → first_offset (starts at keys) end ≡ at
first_end at [] end is = omega (arith, is)
first_end at (key ∷ keys) end is = refl

cuts_after : (front : List ℕ) (keys : List (List ℕ)) → keys_at (starts (length front) keys) (front ++ concat keys) ≡ keys
cuts_after front [] = refl
cuts_after front (key ∷ keys) =
    let rest = concat keys
    in let whole = front ++ (key ++ rest)
    in let total : length whole ≡ length front + length key + length rest = omega (arith, length-append front (key ++ rest), length-append key rest)
    in let end : first_offset (starts (length front + length key) keys) (length whole) ≡ length front + length key = first_end (length front + length key) keys (length whole) total
    in let wide : length front + length key - length front ≡ length key = omega arith
    in let first : slice_range whole (length front) (first_offset (starts (length front + length key) keys) (length whole)) ≡ key =
    ap (λ e. take (e - length front) (drop (length front) whole)) end
    ∙ ap₂ take wide (drop-append_seam front (key ++ rest)) ∙ take-append_seam key rest
    in let others : keys_at (starts (length front + length key) keys) whole ≡ keys =
    ap₂ (λ n w. keys_at (starts n keys) w) (sym (length-append front key)) (sym (append_assoc front key rest)) ∙ cuts_after (front ++ key) keys
    in ap₂ (λ k ks. k ∷ ks) first others

-- the keys are cut out again
pub keys_at-starts : (keys : List (List ℕ)) → keys_at (starts 0 keys) (concat keys) ≡ keys
keys_at-starts keys = cuts_after [] keys

-- one key more after the others
pub concat-more : (keys : List (List ℕ)) (key : List ℕ) → concat (keys ++ key ∷ []) ≡ concat keys ++ key
concat-more keys key = concat-append keys (key ∷ []) ∙ ap (λ k. concat keys ++ k) (append-nil key)

pub length-keys_at : (offsets keys : List ℕ) → length (keys_at offsets keys) ≡ length offsets
length-keys_at [] keys = refl
length-keys_at (offset ∷ offsets) keys = ap suc (length-keys_at offsets keys)

pub get_or-keys_at : (offsets keys : List ℕ) (i : ℕ) → i < length offsets
    → get_or (keys_at offsets keys) i [] ≡ slice_range keys (get_or offsets i 0) (first_offset (drop (i + 1) offsets) (length keys))
get_or-keys_at [] keys i there = absurd (omega arith)
get_or-keys_at (offset ∷ offsets) keys zero there = refl
get_or-keys_at (offset ∷ offsets) keys (suc i) there =
    let place : suc i + 1 ≡ suc (i + 1) = omega arith
    in get_or-keys_at offsets keys i (omega arith)
    ∙ ap (λ n. slice_range keys (get_or offsets i 0) (first_offset (drop n (offset ∷ offsets)) (length keys))) (sym place)

-- the offset after the first `count` keys, and the end after all of them
pub first_offset-drop : (offsets : List ℕ) (i end : ℕ) → i < length offsets → first_offset (drop i offsets) end ≡ get_or offsets i 0
first_offset-drop [] i end there = absurd (omega arith)
first_offset-drop (offset ∷ offsets) zero end there = refl
first_offset-drop (offset ∷ offsets) (suc i) end there = first_offset-drop offsets i end (omega arith)

pub first_offset-end : (offsets : List ℕ) (i end : ℕ) → length offsets ≤ i → first_offset (drop i offsets) end ≡ end
first_offset-end [] zero end past = refl
first_offset-end [] (suc i) end past = refl
first_offset-end (offset ∷ offsets) zero end past = absurd (omega arith)
first_offset-end (offset ∷ offsets) (suc i) end past = first_offset-end offsets i end (omega arith)

-- bytes cut between an offset and the next, each of which may be past the end, and the next before
-- the first
pub slice_range-clamped : (keys : List ℕ) (offset next begin end : ℕ) → begin ≡ min offset (length keys)
    → end ≡ max (min next (length keys)) begin → slice_range keys begin end ≡ slice_range keys offset next
slice_range-clamped keys offset next begin end begins ends =
    let rest = drop offset keys
    in let size : length rest ≡ length keys - offset = length-drop offset keys
    in let counts : min (end - begin) (length rest) ≡ min (next - offset) (length rest) = omega (arith, begins, ends, size)
    in ap (λ z. take (end - begin) z) (ap (λ n. drop n keys) begins ∙ drop_min offset keys)
    ∙ sym (take_min (end - begin) rest) ∙ ap (λ n. take n rest) counts ∙ take_min (next - offset) rest
