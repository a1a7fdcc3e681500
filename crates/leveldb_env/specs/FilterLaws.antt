-- A key of which a filter was made matches it, in a Bloom filter and in one of internal keys. The
-- impls of `FilterPolicy` cite `bloom_finds` and `cut_keys_find` as their law, where the checker
-- takes no term of proofs/; the rest is what these two stand on.
use Rattle.std.proofs.Common.{◌≡◌, ℕ, zero, suc, ◌+◌, ◌-◌, ◌*◌, ◌/◌, ◌%◌, ◌^◌, ◌<◌, Bool, true, false, cond, refl, ap, ap₂, ◌∙◌, arith, List, [], ◌∷◌, ◌++◌, length, get_or, map}
use Rattle.std.specs.Prelude.{Contains, ◌==◌, if◌then◌else◌}
use Rattle.std.specs.List.{list_any, list_all}
use Rattle.std.specs.Int.{w32, rotate_left, bit_at}
use Rattle.std.proofs.lemmas.Nat.Bits.{bit_at_lowest, bit_at-suc}
use Rattle.std.proofs.lemmas.Bool.{or_right, eq-eqb}
use Rattle.std.proofs.lemmas.List.{length-append, get_or_default, length-map, get_or-map}
use Rattle.std.proofs.Math.ListN.{get_or-append}
use Rattle.std.proofs.Math.Seq.{get_or-append_seam}
use Rattle.std.proofs.lemmas.List.FromFn.{length-map-range_with_len, get_or-map-range_with_len}
use Rattle.std.proofs.lemmas.List.Folds.{list_any-from_Any}
use Rattle.std.proofs.lemmas.List.Sums.{list_all-from_AllPass}
use Rattle.leveldb_env.specs.Bloom.{bloom_hash, probes, probe_count, has_bit, bits_len, number_with, bytes_with, is_probe, bloom_filter, bloom_matches, bits_of, count_in, matches_all}
use Rattle.leveldb_base.specs.KeyTypes.{user_part}

pub length-probes : (bits count : ℕ) (key : List ℕ) → length (probes bits count key) ≡ count
unfolding probes
length-probes bits count key = length-map-range_with_len
    (λ n. (bloom_hash key + n * rotate_left w32 (bloom_hash key) 15) % 2 ^ 32 % bits) 0 count

pub get_or-probes : (bits count : ℕ) (key : List ℕ) (n : ℕ) → n < count
    → get_or (probes bits count key) n 0 ≡
    (bloom_hash key + n * rotate_left w32 (bloom_hash key) 15) % 2 ^ 32 % bits
unfolding probes
get_or-probes bits count key n below =
    get_or-map-range_with_len
    (λ n. (bloom_hash key + n * rotate_left w32
    (bloom_hash key) 15) % 2 ^ 32 % bits) 0 count n n 0 below (omega arith)

pub length-bytes_with : (len : ℕ) (picks : ℕ → Bool) → length (bytes_with len picks) ≡ len
unfolding bytes_with
length-bytes_with len picks = length-map-range_with_len
    (λ i. number_with 8 (λ bit. picks (8 * i + bit))) 0 len

pub get_or-bytes_with : (len : ℕ) (picks : ℕ → Bool) (i : ℕ) → i < len
    → get_or (bytes_with len picks) i 0 ≡ number_with 8 (λ bit. picks (8 * i + bit))
unfolding bytes_with
get_or-bytes_with len picks i below = get_or-map-range_with_len
    (λ i. number_with 8 (λ bit. picks (8 * i + bit))) 0 len i i 0 below (omega arith)

next : (i : ℕ) → i + 1 ≡ suc i
next i = omega arith

lowest_bit : (set : Bool) (others : ℕ)
    → ((if set then 1 else 0) + 2 * others) % 2 ≡ (if set then 1 else 0)
lowest_bit true others = omega arith
lowest_bit false others = omega arith

without_lowest : (set : Bool) (others : ℕ) → ((if set then 1 else 0) + 2 * others) / 2 ≡ others
without_lowest true others = omega arith
without_lowest false others = omega arith

-- a bit of a number whose bits a test picks
pub bit_at-number_with : (bits : ℕ) (picks : ℕ → Bool) (i : ℕ) → i < bits
    → bit_at (number_with bits picks) i ≡ (if picks i then 1 else 0)
bit_at-number_with zero picks i below = absurd (omega arith)
bit_at-number_with (suc bits) picks zero below =
    bit_at_lowest (number_with (suc bits) picks)
    ∙ lowest_bit (picks 0) (number_with bits (λ bit. picks (bit + 1)))
bit_at-number_with (suc bits) picks (suc i) below =
    bit_at-suc (number_with (suc bits) picks) i
    ∙ ap (λ n. bit_at n i) (without_lowest (picks 0) (number_with bits (λ bit. picks (bit + 1))))
    ∙ bit_at-number_with bits (λ bit. picks (bit + 1)) i (omega arith)
    ∙ ap (λ n. cond (picks n) 1 0) (next i)

tested : (set : Bool) → ((if set then 1 else 0) == 1) ≡ set
tested true = refl
tested false = refl

-- a bit of the bytes is set where the test picks it
pub has_bit-bytes_with : (len : ℕ) (picks : ℕ → Bool) (rest : List ℕ) (bit : ℕ) → bit < 8 * len
    → has_bit (bytes_with len picks ++ rest) bit ≡ picks bit
has_bit-bytes_with len picks rest bit below =
    let inside : bit / 8 < len = omega arith
    in let within : bit / 8 < length (bytes_with len picks) = omega
    (arith, length-bytes_with len picks)
    in let byte : get_or (bytes_with len picks ++ rest) (bit / 8) 0 ≡ number_with 8
    (λ j. picks (8 * (bit / 8) + j)) =
    get_or-append (bytes_with len picks) rest 0 (bit / 8) within
    ∙ get_or-bytes_with len picks (bit / 8) inside
    in let parts : 8 * (bit / 8) + bit % 8 ≡ bit = omega arith
    in ap (λ n. bit_at n (bit % 8) == 1) byte
    ∙ ap (λ n. n == 1) (bit_at-number_with 8
    (λ j. picks (8 * (bit / 8) + j)) (bit % 8) (omega arith) ∙ ap (λ n. cond (picks n) 1 0) parts)
    ∙ tested (picks bit)

-- a probe of a key of some keys
pub is_probe-Contains : (bits count : ℕ) (keys : List (List ℕ)) (key : List ℕ) (n : ℕ) (d : ℕ)
    → Contains keys key → n < length (probes bits count key)
    → is_probe bits count keys (get_or (probes bits count key) n d) ≡ true
is_probe-Contains bits count keys key n d there below =
    let probe = get_or (probes bits count key) n d
    in let here : list_any (λ p. p == probe) (probes bits count key) ≡ true =
    list_any-from_Any (λ p. p == probe) (probes bits count key) (
      n,
      probe,
      below,
      get_or_default
          (probes bits count key) n probe d below,
      eq-eqb probe probe refl,
    )
    in list_any-from_Any (λ k. list_any
    (λ p. p == probe) (probes bits count k)) keys (there.0, key, there.1, there.2, here)

pub probes-lt : (bits count : ℕ) (key : List ℕ) (n : ℕ) (d : ℕ) → 0 < bits
    → n < length (probes bits count key) → get_or (probes bits count key) n d < bits
probes-lt bits count key n d some below =
    let counted : n < count = omega (arith, length-probes bits count key)
    in let place : get_or (probes bits count key) n d ≡
    (bloom_hash key + n * rotate_left w32 (bloom_hash key) 15) % 2 ^ 32 % bits =
    get_or_default (probes bits count key) n d 0 below ∙ get_or-probes bits count key n counted
    in omega (arith, place)

-- each probe of a key of some keys is set in the bytes of their probes
probes_set : (len count : ℕ) (keys : List (List ℕ)) (key rest : List ℕ) → 0 < len
    → Contains keys key
    → list_all (has_bit (bytes_with len (is_probe (8 * len) count keys) ++ rest))
    (probes (8 * len) count key) ≡ true
probes_set len count keys key rest some there =
    list_all-from_AllPass (has_bit (bytes_with len (is_probe (8 * len) count keys) ++ rest))
    (probes (8 * len) count key)
    (λ n d below.
    has_bit-bytes_with len (is_probe (8 * len) count keys) rest
    (get_or (probes (8 * len) count key) n d)
    (probes-lt (8 * len) count key n d (omega arith) below)
    ∙ is_probe-Contains (8 * len) count keys key n d there below)

-- the count of probes is after the bytes
pub count_in-append : (bytes : List ℕ) (count : ℕ) → count_in (bytes ++ count ∷ []) ≡ count
count_in-append bytes count =
    let place : length (bytes ++ count ∷ []) - 1 ≡ length bytes = omega
    (arith, length-append bytes (count ∷ []))
    in ap (λ n. get_or (bytes ++ count ∷ []) n 0) place ∙ get_or-append_seam bytes count [] 0

pub bits_len-some : (bits_per_key keys : ℕ) → 0 < bits_len bits_per_key keys
bits_len-some bits_per_key keys = omega arith

-- a key of which a filter was made matches it
pub bloom_finds : (bits_per_key : ℕ) (keys : List (List ℕ)) (key : List ℕ) → Contains keys key
    → bloom_matches key (bloom_filter bits_per_key keys) ≡ true
unfolding bloom_filter bloom_matches
bloom_finds bits_per_key keys key there =
    let len = bits_len bits_per_key (length keys)
    in let count = probe_count bits_per_key
    in let picks = is_probe (8 * len) count keys
    in let filter = bytes_with len picks ++ count ∷ []
    in let long : length filter - 1 ≡ len = omega
    (arith, length-append (bytes_with len picks) (count ∷ []), length-bytes_with len picks)
    in or_right (matches_all filter)
    (list_all (has_bit filter) (probes (bits_of filter) (count_in filter) key))
    (ap₂ (λ n c. list_all (has_bit filter) (probes (8 * n) c key)) long
    (count_in-append (bytes_with len picks) count)
    ∙ probes_set len count keys key (count ∷ []) (bits_len-some bits_per_key (length keys)) there)

Contains-map : (f : List ℕ → List ℕ) (keys : List (List ℕ)) (key : List ℕ) → Contains keys key
    → Contains (map f keys) (f key)
Contains-map f keys key there = (
  there.0,
  omega (arith, there.1, length-map keys f),
  get_or-map f keys there.0 key
      (f key) there.1 ∙ ap f there.2,
)

pub cut_keys_find : (filter_for : List (List ℕ) → List ℕ) (matches : List ℕ → List ℕ → Bool)
    → ((keys : List (List ℕ)) (key : List ℕ) → Contains keys key
    → matches key (filter_for keys) ≡ true)
    → (keys : List (List ℕ)) (key : List ℕ) → Contains keys key
    → matches (user_part key) (filter_for (map user_part keys)) ≡ true
cut_keys_find filter_for matches finds keys key there = finds (map user_part keys) (user_part key)
    (Contains-map user_part keys key there)
