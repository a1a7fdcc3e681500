-- Bits of bytes, the hash word by word, and what a Bloom filter's code computes.
use Rattle.std.proofs.Common.{◌≡◌, ◌≢◌, ℕ, zero, suc, ◌+◌, ◌*◌, ◌/◌, ◌%◌, ◌^◌, ◌<◌, Bool, true, false, cond, ◌||◌, ◌&&◌, refl, sym, ap, ap₂, ◌∙◌, arith, inl, inr, List, [], ◌∷◌, length, get_or, set, take, ◌≤◌, ◌++◌, drop, fold, ◌-◌, Ok, Err, Result, IfErr, replicate}
use Rattle.std.specs.Prelude.{◌==◌, if◌then◌else◌, IsErrAnd, nat_le, nat_lt}
use Rattle.std.specs.List.{list_any, list_all}
use Rattle.std.specs.Int.{w8, bit_at, w32, rotate_left}
use Rattle.std.specs.Int.Bits.{bit_or, bit_and, bit_xor}
use Rattle.std.proofs.Math.Nat.{pow-suc, zero-mul}
use Rattle.std.proofs.Math.Pow.{pow-lt}
use Rattle.std.proofs.lemmas.Nat.{pow_pos, mul-mod_first}
use Rattle.std.proofs.lemmas.Nat.Bits.{bit_at-lt, same_from_bits_below, bit_at_set_same, bit_at_set_other, and_pow, bit_at-zero}
use Rattle.std.proofs.lemmas.Bool.Decides.{eqb_tells}
use Rattle.std.proofs.Math.Bool.{or-true, or-false, or_assoc, and-false}
use Rattle.std.proofs.lemmas.List.{get_or-set_same, get_or-set_other}
use Rattle.std.proofs.lemmas.List.FromFn.{fill_by_all}
use Rattle.std.proofs.lemmas.List.Folds.{list_any_more}
use Rattle.leveldb_env.specs.Bloom.{probes, has_bit, number_with, bytes_with, is_probe, mixed, hash_after, bloom_hash, probe_count, bits_len, bloom_filter, bits_of, count_in, matches_all}
use Rattle.leveldb_env.specs.FilterLaws.{bit_at-number_with}
use Rattle.std.specs.Simd.{first_chunks}
use Rattle.byteorder.specs.Endian.{little_number}
use Rattle.leveldb_base.specs.declared.error.Status.{Status}
use Rattle.leveldb_base.specs.declared.error.StatusCode.TheVariants.{NotSupported}
use Rattle.leveldb_env.specs.Filter.{IsFilterError}
use Rattle.std.proofs.lemmas.Bool.{leb-false, ltb-false}

-- a byte with one bit more
abbrev pub with_bit : List ℕ → ℕ → ℕ
with_bit bytes bit = bit_or (get_or bytes (bit / 8) 0) (1 * 2 ^ (bit % 8) % 2 ^ 8)

-- the bit itself
has_bit-set_same : (bytes : List ℕ) (bit : ℕ) → bit < 8 * length bytes → has_bit (set bytes (bit / 8) (with_bit bytes bit)) bit ≡ true
has_bit-set_same bytes bit below =
    let inside : bit / 8 < length bytes = omega arith
    in ap (λ byte. bit_at byte (bit % 8) == 1) (get_or-set_same bytes (bit / 8) (with_bit bytes bit) 0 inside)
    ∙ ap (λ n. n == 1) (bit_at_set_same w8 (get_or bytes (bit / 8) 0) (bit % 8) (omega arith))

-- another bit of the same byte, and one of another byte
has_bit-set_other : (bytes : List ℕ) (bit other : ℕ) → bit < 8 * length bytes → bit ≢ other
    → has_bit (set bytes (bit / 8) (with_bit bytes bit)) other ≡ has_bit bytes other
has_bit-set_other bytes bit other below differs = elim (eqb_tells (other / 8) (bit / 8)) [
  | inl same ↦
      let inside : bit / 8 < length bytes = omega arith
      in let apart : other % 8 ≢ bit % 8 = λ equal. differs (omega (arith, same.1))
      in ap (λ i. bit_at (get_or (set bytes (bit / 8) (with_bit bytes bit)) i 0) (other % 8) == 1) same.1
      ∙ ap (λ byte. bit_at byte (other % 8) == 1) (get_or-set_same bytes (bit / 8) (with_bit bytes bit) 0 inside)
      ∙ ap (λ n. n == 1) (bit_at_set_other w8 (get_or bytes (bit / 8) 0) (bit % 8) (omega arith) (other % 8) apart)
      ∙ ap (λ i. bit_at (get_or bytes i 0) (other % 8) == 1) (sym same.1)
  | inr apart ↦ ap (λ byte. bit_at byte (other % 8) == 1) (get_or-set_other bytes (bit / 8) (other / 8) (with_bit bytes bit) 0 apart.1)
]

-- a bit is set and no other
pub has_bit-set : (bytes : List ℕ) (bit other : ℕ) → bit < 8 * length bytes
    → has_bit (set bytes (bit / 8) (with_bit bytes bit)) other ≡ (has_bit bytes other || (bit == other))
has_bit-set bytes bit other below = elim (eqb_tells bit other) [
  | inl same ↦
      ap (has_bit (set bytes (bit / 8) (with_bit bytes bit))) (sym same.1) ∙ has_bit-set_same bytes bit below
      ∙ sym (ap (λ b. has_bit bytes other || b) same.0 ∙ or-true (has_bit bytes other))
  | inr differs ↦
      has_bit-set_other bytes bit other below differs.1
      ∙ sym (ap (λ b. has_bit bytes other || b) differs.0 ∙ or-false (has_bit bytes other))
]

-- the test `byte & (1 << k)` of a bit
and_bit : (byte k : ℕ) → k < 8 → bit_and byte (1 * 2 ^ k % 2 ^ 8) ≡ bit_at byte k * 2 ^ k
and_bit byte k few =
    let fits : 2 ^ k < 2 ^ 8 = pow-lt {i = k} {j = 8} few
    in let mask : 1 * 2 ^ k % 2 ^ 8 ≡ 2 ^ k = omega arith
    in ap (bit_and byte) mask ∙ and_pow byte k

clear_one : (bit power : ℕ) → bit < 2 → 0 < power → bit * power ≡ 0 → (bit == 1) ≡ false
clear_one zero power small some none = refl
clear_one (suc zero) power small some none = absurd (omega arith)
clear_one (suc (suc bit)) power small some none = absurd (omega arith)

set_one : (bit power : ℕ) → bit < 2 → bit * power ≢ 0 → (bit == 1) ≡ true
set_one zero power small some = absurd (some (zero-mul power))
set_one (suc zero) power small some = refl
set_one (suc (suc bit)) power small some = absurd (omega arith)

-- a bit that the test finds, and one that it doesn't
pub has_bit-clear : (bytes : List ℕ) (bit : ℕ) → bit_and (get_or bytes (bit / 8) 0) (1 * 2 ^ (bit % 8) % 2 ^ 8) ≡ 0 → has_bit bytes bit ≡ false
has_bit-clear bytes bit clear =
    let byte = get_or bytes (bit / 8) 0
    in clear_one (bit_at byte (bit % 8)) (2 ^ (bit % 8)) (bit_at-lt byte (bit % 8)) (pow_pos (bit % 8)) (sym (and_bit byte (bit % 8) (omega arith)) ∙ clear)

pub has_bit-found : (bytes : List ℕ) (bit : ℕ) → bit_and (get_or bytes (bit / 8) 0) (1 * 2 ^ (bit % 8) % 2 ^ 8) ≢ 0 → has_bit bytes bit ≡ true
has_bit-found bytes bit found =
    let byte = get_or bytes (bit / 8) 0
    in set_one (bit_at byte (bit % 8)) (2 ^ (bit % 8)) (bit_at-lt byte (bit % 8)) (λ none. found (and_bit byte (bit % 8) (omega arith) ∙ none))

-- one element that fails
pub list_all-fails : {X : Type 0} (p : X → Bool) (xs : List X) (n : ℕ) (d : X) → n < length xs → p (get_or xs n d) ≡ false → list_all p xs ≡ false
list_all-fails p [] n d there fails = absurd (omega arith)
list_all-fails p (x ∷ xs) zero d there fails = ap (λ b. b && list_all p xs) fails
list_all-fails p (x ∷ xs) (suc n) d there fails = ap (λ b. p x && b) (list_all-fails p xs n d (omega arith) fails) ∙ and-false (p x)

-- bytes stay bytes
pub set-bytes : (bytes : List ℕ) (i byte : ℕ) → byte < 256 → ((k : ℕ) → get_or bytes k 0 < 256) → (k : ℕ) → get_or (set bytes i byte) k 0 < 256
set-bytes [] i byte small each k = omega arith
set-bytes (b ∷ bytes) zero byte small each zero = small
set-bytes (b ∷ bytes) zero byte small each (suc k) = each (suc k)
set-bytes (b ∷ bytes) (suc i) byte small each zero = each 0
set-bytes (b ∷ bytes) (suc i) byte small each (suc k) = set-bytes bytes i byte small (λ n. each (suc n)) k

doubled : (set : Bool) (others half whole : ℕ) → whole ≡ half * 2 → others < half → (if set then 1 else 0) + 2 * others < whole
doubled true others half whole twice below = omega arith
doubled false others half whole twice below = omega arith

pub number_with-lt : (bits : ℕ) (picks : ℕ → Bool) → number_with bits picks < 2 ^ bits
number_with-lt zero picks = omega arith
number_with-lt (suc bits) picks = doubled (picks 0) (number_with bits (λ bit. picks (bit + 1))) (2 ^ bits) (2 ^ suc bits) (pow-suc 2 bits) (number_with-lt bits (λ bit. picks (bit + 1)))

-- the bit of a number is what a test of it says
tested : (n : ℕ) (set : Bool) → n < 2 → (n == 1) ≡ set → n ≡ (if set then 1 else 0)
tested zero set small says = ap (λ b. cond b 1 0) says
tested (suc zero) set small says = ap (λ b. cond b 1 0) says
tested (suc (suc n)) set small says = absurd (omega arith)

-- a bit of a byte, as a test picks it
bit_is : (bytes : List ℕ) (picks : ℕ → Bool) → ((bit : ℕ) → has_bit bytes bit ≡ picks bit) → (k i : ℕ) → i < 8
    → bit_at (get_or bytes k 0) i ≡ (if picks (8 * k + i) then 1 else 0)
bit_is bytes picks same k i inside =
    let byte : (8 * k + i) / 8 ≡ k = omega arith
    in let place : (8 * k + i) % 8 ≡ i = omega arith
    in tested (bit_at (get_or bytes k 0) i) (picks (8 * k + i)) (bit_at-lt (get_or bytes k 0) i)
    (ap₂ (λ b p. bit_at (get_or bytes b 0) p == 1) (sym byte) (sym place) ∙ same (8 * k + i))

-- bytes are those that have their bits
pub bytes_with-is : (bytes : List ℕ) (picks : ℕ → Bool) → ((k : ℕ) → get_or bytes k 0 < 256) → ((bit : ℕ) → has_bit bytes bit ≡ picks bit)
    → bytes ≡ bytes_with (length bytes) picks
unfolding bytes_with
bytes_with-is bytes picks small same =
    fill_by_all (λ i. number_with 8 (λ bit. picks (8 * i + bit))) bytes (length bytes) 0 refl
    (λ k below.
    same_from_bits_below 8 (get_or bytes k 0) (number_with 8 (λ bit. picks (8 * k + bit))) (small k) (number_with-lt 8 (λ bit. picks (8 * k + bit)))
    (λ i inside. bit_is bytes picks same k i inside ∙ sym (bit_at-number_with 8 (λ bit. picks (8 * k + bit)) i inside)))

-- one probe more among those that are set
pub has_bit-more : (before : Bool) (places : List ℕ) (n bit place : ℕ) → n < length places → place ≡ get_or places n 0
    → ((before || list_any (λ probe. probe == bit) (take n places)) || (place == bit)) ≡ (before || list_any (λ probe. probe == bit) (take (n + 1) places))
has_bit-more before places n bit place there is =
    ap (λ p. (before || list_any (λ probe. probe == bit) (take n places)) || (p == bit)) is
    ∙ or_assoc before (list_any (λ probe. probe == bit) (take n places)) (get_or places n 0 == bit)
    ∙ ap (λ b. before || b) (sym (list_any_more (λ probe. probe == bit) places n 0 there))

-- the probes of one key more
pub is_probe-more : (before : Bool) (bits count : ℕ) (keys : List (List ℕ)) (i bit : ℕ) → i < length keys
    → ((before || is_probe bits count (take i keys) bit) || list_any (λ probe. probe == bit) (probes bits count (get_or keys i [])))
    ≡ (before || is_probe bits count (take (i + 1) keys) bit)
is_probe-more before bits count keys i bit there =
    or_assoc before (is_probe bits count (take i keys) bit) (list_any (λ probe. probe == bit) (probes bits count (get_or keys i [])))
    ∙ ap (λ b. before || b) (sym (list_any_more (λ key. list_any (λ probe. probe == bit) (probes bits count key)) keys i [] there))

-- the hash after some words of four bytes
pub hash_after-words : (count hash : ℕ) (text : List ℕ) → count * 4 ≤ length text
    → hash_after (fold (λ h word. mixed 16 h (little_number 4 word)) hash (first_chunks 4 count text)) (drop (count * 4) text) ≡ hash_after hash text
unfolding hash_after
hash_after-words zero hash text long = refl
hash_after-words (suc count) hash [] long = absurd (omega arith)
hash_after-words (suc count) hash (a ∷ []) long = absurd (omega arith)
hash_after-words (suc count) hash (a ∷ b ∷ []) long = absurd (omega arith)
hash_after-words (suc count) hash (a ∷ b ∷ c ∷ []) long = absurd (omega arith)
hash_after-words (suc count) hash (a ∷ b ∷ c ∷ d ∷ rest) long =
    let next = mixed 16 hash (little_number 4 (a ∷ b ∷ c ∷ d ∷ []))
    in let place : suc count * 4 ≡ suc (suc (suc (suc (count * 4)))) = omega arith
    in ap (λ n. hash_after (fold (λ h word. mixed 16 h (little_number 4 word)) next (first_chunks 4 count rest)) (drop n (a ∷ b ∷ c ∷ d ∷ rest))) place
    ∙ hash_after-words count next rest (omega arith)

-- the hash after one to three bytes, as a word with zeros after them
pub hash_after-rest : (hash : ℕ) (rest word : List ℕ) → 0 < length rest → length rest < 4 → word ≡ rest ++ drop (length rest) (0 ∷ 0 ∷ 0 ∷ 0 ∷ [])
    → mixed 24 hash (little_number 4 word) ≡ hash_after hash rest
unfolding hash_after
hash_after-rest hash [] word some few is = absurd (omega arith)
hash_after-rest hash (a ∷ []) word some few is = ap (λ w. mixed 24 hash (little_number 4 w)) is
hash_after-rest hash (a ∷ b ∷ []) word some few is = ap (λ w. mixed 24 hash (little_number 4 w)) is
hash_after-rest hash (a ∷ b ∷ c ∷ []) word some few is = ap (λ w. mixed 24 hash (little_number 4 w)) is
hash_after-rest hash (a ∷ b ∷ c ∷ d ∷ rest) word some few is = absurd (omega arith)

-- the hash after nothing
pub hash_after-none : (hash : ℕ) (rest : List ℕ) → length rest ≡ 0 → hash ≡ hash_after hash rest
unfolding hash_after
hash_after-none hash [] none = refl
hash_after-none hash (a ∷ rest) none = absurd (omega arith)

-- a key's hash by its words, and then by what is left of it
pub bloom_hash-words : (key rest : List ℕ) (words : List (List ℕ)) → words ≡ first_chunks 4 (length key / 4) key → rest ≡ drop (length key / 4 * 4) key
    → hash_after (fold (λ h word. mixed 16 h (little_number 4 word)) (bit_xor 0xbc9f1d34 (length key % 2 ^ 32 * 0xc6a4a793 % 2 ^ 32)) words) rest ≡ bloom_hash key
unfolding bloom_hash
bloom_hash-words key rest words front back =
    ap₂ (λ w r. hash_after (fold (λ h word. mixed 16 h (little_number 4 word)) (bit_xor 0xbc9f1d34 (length key % 2 ^ 32 * 0xc6a4a793 % 2 ^ 32)) w) r) front back
    ∙ ap (λ n. hash_after (fold (λ h word. mixed 16 h (little_number 4 word)) (bit_xor 0xbc9f1d34 n) (first_chunks 4 (length key / 4) key)) (drop (length key / 4 * 4) key))
    (mul-mod_first (length key) 0xc6a4a793 (2 ^ 32))
    ∙ hash_after-words (length key / 4) (bit_xor 0xbc9f1d34 (length key * 0xc6a4a793 % 2 ^ 32)) key (omega arith)

-- the hash by which a key's n-th probe goes
abbrev pub hash_at : List ℕ → ℕ → ℕ
hash_at key n = (bloom_hash key + n * rotate_left w32 (bloom_hash key) 15) % 2 ^ 32

next_hash : (hash delta n : ℕ) → ((hash + n * delta) % 2 ^ 32 + delta) % 2 ^ 32 ≡ (hash + (n + 1) * delta) % 2 ^ 32
next_hash hash delta n = omega arith

pub hash_at-more : (key : List ℕ) (n : ℕ) → (hash_at key n + rotate_left w32 (bloom_hash key) 15) % 2 ^ 32 ≡ hash_at key (n + 1)
hash_at-more key n = next_hash (bloom_hash key) (rotate_left w32 (bloom_hash key) 15) n

pub hash_at-first : (key : List ℕ) (hash : ℕ) → hash ≡ bloom_hash key → hash < 2 ^ 32 → hash ≡ hash_at key 0
hash_at-first key hash is fits = omega (arith, is)

-- a filter that isn't supported
pub refused : {X : Type 0} (answer : Result X Status) (too_large : Type 0) → IsErrAnd answer (λ status. status.code ≡ NotSupported) → too_large
    → IfErr answer (IsFilterError too_large)
refused (Ok x) too_large code large = tt
refused (Err status) too_large code large = inr (code, large)

get_or-zeros : (n i : ℕ) → get_or {A = ℕ} (replicate {A = ℕ} n 0) i 0 ≡ 0
get_or-zeros zero i = refl
get_or-zeros (suc n) zero = refl
get_or-zeros (suc n) (suc i) = get_or-zeros n i

-- an empty vector is filled up with zeros alone
pub fresh_zeros : (n : ℕ) → take {A = ℕ} n [] ++ replicate (n - 0) 0 ≡ replicate n 0
fresh_zeros zero = refl
fresh_zeros (suc n) = let whole : suc n - 0 ≡ suc n = omega arith in ap (λ m. replicate m 0) whole

-- no bit of zeros is set
pub has_bit-zeros : (n bit : ℕ) → has_bit (replicate n 0) bit ≡ false
has_bit-zeros n bit =
    ap (λ byte. bit_at byte (bit % 8) == 1) (get_or-zeros n (bit / 8)) ∙ ap (λ b. b == 1) (bit_at-zero (bit % 8))

-- bytes with the bits of the keys' probes, and the count after them
pub bloom_filter-is : (bits_per_key : ℕ) (keys : List (List ℕ)) (bytes : List ℕ) (count : ℕ)
    → length bytes ≡ bits_len bits_per_key (length keys) → count ≡ probe_count bits_per_key → ((k : ℕ) → get_or bytes k 0 < 256)
    → ((bit : ℕ) → has_bit bytes bit ≡ is_probe (8 * length bytes) count keys bit) → bytes ++ count ∷ [] ≡ bloom_filter bits_per_key keys
unfolding bloom_filter
bloom_filter-is bits_per_key keys bytes count long few small same =
    ap (λ b. b ++ count ∷ []) (bytes_with-is bytes (is_probe (8 * length bytes) count keys) small same)
    ∙ ap₂ (λ n c. bytes_with n (is_probe (8 * n) c keys) ++ c ∷ []) long few

neither : (a b c : Bool) → (a || b || c) ≡ false → (a ≡ false) × (b ≡ false) × (c ≡ false)
neither true b c none = absurd (cc)
neither false true c none = absurd (cc)
neither false false c none = (refl, refl, none)

pub matches_all-none : (filter : List ℕ) → matches_all filter ≡ false → (1 < length filter) × (count_in filter ≤ 30) × (bits_of filter < 2 ^ 32)
matches_all-none filter something =
    let none = neither (nat_le (length filter) 1) (nat_lt 30 (count_in filter)) (nat_le (2 ^ 32) (bits_of filter)) something
    in (leb-false (length filter) 1 none.0, ltb-false 30 (count_in filter) none.1, leb-false (2 ^ 32) (bits_of filter) none.2)
