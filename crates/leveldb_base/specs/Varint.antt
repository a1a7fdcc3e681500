-- Numbers as bytes, as LevelDB's table and log formats write them.
use Rattle.std.specs.Prelude.{◌≡◌, ℕ, zero, suc, ◌+◌, ◌*◌, ◌/◌, ◌%◌, ◌^◌, ◌<◌, ◌≤◌, true, false, nat_lt, List, [], ◌∷◌, ◌++◌, length, take, Option, None, Some}
use Rattle.byteorder.specs.Endian.{little_bytes}

-- the lowest `width` bytes of a number, the lowest first
abbrev pub little : ℕ → ℕ → List ℕ
little width n = little_bytes width n

-- Seven bits a byte, the lowest group first; a byte from 128 on says that more follow.
-- The last group of several isn't 0, so each number has one encoding.
abbrev pub IsVarint : List ℕ → ℕ → Type 0
IsVarint [] n = ⊥
IsVarint (b ∷ []) n = (b < 128) × (n ≡ b)
IsVarint (b ∷ c ∷ bytes) n =
    (128 ≤ b) × (b < 256) × (high : ℕ) × (0 < high)
    × (n + 128 ≡ b + 128 * high) × IsVarint (c ∷ bytes) high

-- the encoding of a number that has at most `groups` groups after its lowest
abbrev pub varint_within : ℕ → ℕ → List ℕ
varint_within zero n = n ∷ []
varint_within (suc groups) n =
    elim (nat_lt n 128) [ true ↦ n ∷ [] | false ↦ (n % 128 + 128) ∷ varint_within groups (n / 128) ]

-- the encoding of a number
unfoldable pub varint : ℕ → List ℕ
varint n = varint_within n n

-- a text after its length
abbrev pub sized : List ℕ → List ℕ
sized text = varint (length text) ++ text

-- What reading a number of `bits` bits at the front of some bytes gives: the number and the length
-- of its encoding, or nothing where no encoding of such a number is a prefix of the bytes.
abbrev pub ReadsVarint : ℕ → List ℕ → Option (ℕ × ℕ) → Type 0
ReadsVarint bits bytes (Some (n, used)) =
    (n < 2 ^ bits) × (used ≤ length bytes) × IsVarint (take used bytes) n
ReadsVarint bits bytes None =
    (n : ℕ) (rest : List ℕ) → n < 2 ^ bits → bytes ≡ varint n ++ rest → ⊥

-- What reading a text after its length gives: the text and what follows it, or nothing where no
-- such text is a prefix of the bytes. A length has 64 bits.
abbrev pub ReadsSized : List ℕ → Option (List ℕ × List ℕ) → Type 0
ReadsSized bytes (Some (text, rest)) = bytes ≡ sized text ++ rest
ReadsSized bytes None =
    (text rest : List ℕ) → length text < 2 ^ 64 → bytes ≡ sized text ++ rest → ⊥
