-- The Bloom filter: the bits of a key, what is made of keys, and which keys match what was made.
use Rattle.std.specs.Prelude.{ℕ, zero, suc, ◌+◌, ◌-◌, ◌*◌, ◌/◌, ◌%◌, ◌^◌, ◌≤◌, min, max, Bool, ◌||◌, ◌==◌, nat_lt, nat_le, if◌then◌else◌, List, [], ◌∷◌, ◌++◌, length, map, slice_index, bit_xor}
use Rattle.std.specs.List.{list_any, list_all, range_with_len}
use Rattle.std.specs.Int.{w32, rotate_left, div_ceil, bit_at}
use Rattle.byteorder.specs.Endian.{little_number}

-- ---- the hash, of 32 bits

-- a number goes in: the sum is multiplied, and the product's high bits are put onto its low ones
unfoldable pub mixed : ℕ → ℕ → ℕ → ℕ
mixed shift hash number = let product = (hash + number) * 0xc6a4a793 % 2 ^ 32 in bit_xor product
    (product / 2 ^ shift)

-- a text goes in: four bytes at a time as a number, the lowest first, then the one to three that
-- are left
unfoldable pub hash_after : ℕ → List ℕ → ℕ
hash_after hash [] = hash
hash_after hash (a ∷ b ∷ c ∷ d ∷ rest) = hash_after
    (mixed 16 hash (little_number 4 (a ∷ b ∷ c ∷ d ∷ []))) rest
hash_after hash rest = mixed 24 hash (little_number (length rest) rest)

-- the hash of a key: it begins with a seed and the key's length
unfoldable pub bloom_hash : List ℕ → ℕ
bloom_hash key = hash_after (bit_xor 0xbc9f1d34 (length key * 0xc6a4a793 % 2 ^ 32)) key

-- ---- the bits of a key

-- how many probes a key has: 69 of a hundred bits that it is given, at least 1 and at most 30
abbrev pub probe_count : ℕ → ℕ
probe_count bits_per_key = max 1 (min 30 (bits_per_key * 69 / 100))

-- Among `bits` bits a key has `count` probes: the first is its hash, and each next one is further
-- by the hash rotated left by 15.
unfoldable pub probes : ℕ → ℕ → List ℕ → List ℕ
probes bits count key = map
    (λ n. (bloom_hash key + n * rotate_left w32 (bloom_hash key) 15) % 2 ^ 32 % bits)
    (range_with_len 0 count)

-- whether a bit is set; a byte has eight of them, the lowest first
abbrev pub has_bit : List ℕ → ℕ → Bool
has_bit bytes bit = bit_at (slice_index bytes (bit / 8)) (bit % 8) == 1

-- ---- the filter

-- how many bytes the keys' bits take, of which there are at least 64
abbrev pub bits_len : ℕ → ℕ → ℕ
bits_len bits_per_key keys = div_ceil (max 64 (keys * bits_per_key)) 8

-- a number whose bits are set where a test says so
abbrev pub number_with : ℕ → (ℕ → Bool) → ℕ
number_with zero picks = 0
number_with (suc bits) picks = (if picks 0 then 1 else 0) + 2 * number_with bits
    (λ bit. picks (bit + 1))

-- `len` bytes, in which exactly the bits are set that a test picks
unfoldable pub bytes_with : ℕ → (ℕ → Bool) → List ℕ
bytes_with len picks = map (λ i. number_with 8 (λ bit. picks (8 * i + bit))) (range_with_len 0 len)

-- whether a bit is a probe of one of the keys
abbrev pub is_probe : ℕ → ℕ → List (List ℕ) → ℕ → Bool
is_probe bits count keys bit = list_any
    (λ key. list_any (λ probe. probe == bit) (probes bits count key)) keys

-- the bits of the keys' probes and no others, and after them how many probes a key has
unfoldable pub bloom_filter : ℕ → List (List ℕ) → List ℕ
bloom_filter bits_per_key keys =
    let len = bits_len bits_per_key (length keys) in
    let count = probe_count bits_per_key in
    bytes_with len (is_probe (8 * len) count keys) ++ count ∷ []

-- the filter's bits can't be numbered in 32 bits
abbrev pub HasTooManyBits : ℕ → List (List ℕ) → Type 0
HasTooManyBits bits_per_key keys = 2 ^ 32 ≤ 8 * bits_len bits_per_key (length keys)

-- ---- what matches

-- how many bits a filter has, and how many probes a key has there
abbrev pub bits_of : List ℕ → ℕ
bits_of filter = 8 * (length filter - 1)

-- how many bits a key has in a filter, which its last byte says
abbrev pub count_in : List ℕ → ℕ
count_in filter = slice_index filter (length filter - 1)

-- a filter that rules no key out: it has no bits, more than 30 probes a key, or bits that can't be
-- numbered in 32 bits
abbrev pub matches_all : List ℕ → Bool
matches_all filter = nat_le (length filter) 1 || nat_lt 30 (count_in filter) || nat_le (2 ^ 32)
    (bits_of filter)

-- such a filter lets every key pass, and another one those of which each probe is set
unfoldable pub bloom_matches : List ℕ → List ℕ → Bool
bloom_matches key filter = matches_all filter || list_all (has_bit filter)
    (probes (bits_of filter) (count_in filter) key)
