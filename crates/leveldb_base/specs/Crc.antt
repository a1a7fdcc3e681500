-- CRC32C, the checksum of LevelDB's logs and tables, bit by bit.
use Rattle.std.specs.Prelude.{◌≡◌, ℕ, zero, suc, ◌+◌, ◌*◌, ◌/◌, ◌%◌, ◌^◌, ◌-◌, nat_eq, if◌then◌else◌, List, [], ◌∷◌, length, fold, bit_xor}
use Rattle.std.specs.Int.{w32, rotate_left, rotate_right}
use Rattle.std.specs.Simd.Lanes.{zip2, chunk}

-- one bit leaves the register: where it was a one, the polynomial is taken off
abbrev pub crc_shift : ℕ → ℕ
crc_shift register =
    if nat_eq (register % 2) 1 then bit_xor (register / 2) 0x82f63b78 else register / 2

-- `bits` bits leave the register
abbrev pub crc_shifts : ℕ → ℕ → ℕ
crc_shifts zero register = register
crc_shifts (suc bits) register = crc_shifts bits (crc_shift register)

-- the register after a byte
unfoldable pub crc_byte : ℕ → ℕ → ℕ
crc_byte register byte = crc_shifts 8 (bit_xor register byte)

-- the register after a text
unfoldable pub crc_register : ℕ → List ℕ → ℕ
crc_register register text = fold crc_byte register text

-- the register after `bytes` zero bytes
unfoldable pub crc_zeros : ℕ → ℕ → ℕ
crc_zeros bytes register = crc_shifts (8 * bytes) register

-- The register that four side by side stand for, each of which took one word of every block of
-- sixteen bytes: so many zero bytes follow each.
abbrev pub lanes_register : ℕ → ℕ → ℕ → ℕ → ℕ
lanes_register first second third fourth =
    bit_xor (bit_xor (crc_zeros 16 first) (crc_zeros 12 second))
    (bit_xor (crc_zeros 8 third) (crc_zeros 4 fourth))

-- What is left of a text at an offset, once the parts of some terms of a multiple of the polynomial
-- are taken off: of each the quotient's bytes from the offset and the term on.
unfoldable pub reduced : List ℕ → List ℕ → ℕ → List ℕ → List ℕ
reduced [] quotient offset text = text
reduced (term ∷ terms) quotient offset text =
    reduced terms quotient offset
    (zip2 bit_xor text (chunk (offset + term) (length text) quotient))

-- the register of a digest that has read the text: it is all ones at first
abbrev pub HasRead : ℕ → List ℕ → Type 0
HasRead register text = register ≡ crc_register 0xffffffff text

-- the checksum of a text: the register is all ones at first, and complemented at the end
unfoldable pub crc_of : List ℕ → ℕ
crc_of text = bit_xor (crc_register 0xffffffff text) 0xffffffff

-- a checksum as files keep it, rotated right by 15 bits and a constant added, since a checksum of
-- bytes that hold checksums is weak
abbrev pub masked : ℕ → ℕ
masked sum = (rotate_right w32 sum 15 + 0xa282ead8) % 2 ^ 32

-- the constant taken off, and rotated back
abbrev pub unmasked : ℕ → ℕ
unmasked kept = rotate_left w32 ((kept + (2 ^ 32 - 0xa282ead8)) % 2 ^ 32) 15
