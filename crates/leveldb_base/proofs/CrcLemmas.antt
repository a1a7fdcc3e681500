-- A text read in pieces, and a checksum masked and unmasked.
use Rattle.std.proofs.Common.{◌≡◌, ℕ, ◌+◌, ◌-◌, ◌*◌, ◌/◌, ◌%◌, ◌^◌, ◌<◌, List, ◌++◌, sym, ap, ◌∙◌, arith, zero, suc, refl, ap₂, zero-add, suc-add, nat_eq, cond, one-add, zero-mul, [], ◌∷◌, length, get_or, map, rules, add-zero, take, drop, fold}
use Rattle.std.specs.Int.Bits.{bit_xor, bit_or, xor_zero_r, xor_assoc, xor_zero_l}
use Rattle.std.specs.Int.{w32, rotate_left, rotate_right, to_le_bytes, from_le_bytes}
use Rattle.std.proofs.lemmas.List.Sums.{fold-append}
use Rattle.std.proofs.lemmas.Nat.{or_shifted, or_comm, xor_comm, xor_shr, xor_mod, xor_block, le_bytes_4}
use Rattle.leveldb_base.specs.Crc.{crc_byte, crc_register, crc_of, masked, unmasked, HasRead, crc_shift, crc_shifts, crc_zeros, lanes_register}
use Rattle.std.proofs.Math.Nat.{pow-suc, mul_assoc}
use Rattle.std.specs.List.{range_with_len}
use Rattle.std.proofs.lemmas.List.{get_or-map, length-map, take-append-drop, take_all}
use Rattle.std.proofs.lemmas.List.FromFn.{get_or-range_with_len, length-range_with_len}
use Rattle.leveldb_base.specs.declared.crc.tables.TheConstants.{TABLES}
use Rattle.std.proofs.Math.Seq.{take-add}
use Rattle.std.specs.Simd.{first_chunks}

-- ---- a text read in pieces, and a checksum masked and unmasked

-- the register after two pieces is that after the whole
pub crc_register-append : (register : ℕ) (a b : List ℕ) → crc_register register (a ++ b) ≡ crc_register (crc_register register a) b
unfolding crc_register
crc_register-append register a b = fold-append crc_byte register a b

-- a digest that reads on has read both texts
pub HasRead-append : (register : ℕ) (a b : List ℕ) → HasRead register a → HasRead (crc_register register b) (a ++ b)
HasRead-append register a b read = ap (λ r. crc_register r b) read ∙ sym (crc_register-append 0xffffffff a b)

-- the checksum of two pieces
pub crc_of-append : (a b : List ℕ) → crc_of (a ++ b) ≡ bit_xor (crc_register (crc_register 0xffffffff a) b) 0xffffffff
unfolding crc_of
crc_of-append a b = ap (λ register. bit_xor register 0xffffffff) (crc_register-append 0xffffffff a b)

-- turned right by 15 bits, and left
turned_right : (n : ℕ) → n < 2 ^ 32 → rotate_right w32 n 15 ≡ n % 2 ^ 15 * 2 ^ 17 + n / 2 ^ 15
turned_right n fits =
    let high : n * 2 ^ 17 % 2 ^ 32 ≡ n % 2 ^ 15 * 2 ^ 17 = omega arith
    in ap (bit_or (n / 2 ^ 15)) high ∙ or_comm (n / 2 ^ 15) (n % 2 ^ 15 * 2 ^ 17) ∙ or_shifted (n % 2 ^ 15) 17 (n / 2 ^ 15) (omega arith)

turned_left : (n : ℕ) → n < 2 ^ 32 → rotate_left w32 n 15 ≡ n % 2 ^ 17 * 2 ^ 15 + n / 2 ^ 17
turned_left n fits =
    let high : n * 2 ^ 15 % 2 ^ 32 ≡ n % 2 ^ 17 * 2 ^ 15 = omega arith
    in ap (λ bits. bit_or bits (n / 2 ^ 17)) high ∙ or_shifted (n % 2 ^ 17) 15 (n / 2 ^ 17) (omega arith)

pub unmasked-masked : (sum : ℕ) → sum < 2 ^ 32 → unmasked (masked sum) ≡ sum
unmasked-masked sum fits =
    let turned = sum % 2 ^ 15 * 2 ^ 17 + sum / 2 ^ 15
    in let right : rotate_right w32 sum 15 ≡ turned = turned_right sum fits
    in let taken_off : ((turned + 0xa282ead8) % 2 ^ 32 + (2 ^ 32 - 0xa282ead8)) % 2 ^ 32 ≡ turned = omega arith
    in let back : turned % 2 ^ 17 * 2 ^ 15 + turned / 2 ^ 17 ≡ sum = omega arith
    in ap (λ n. rotate_left w32 (((n + 0xa282ead8) % 2 ^ 32 + (2 ^ 32 - 0xa282ead8)) % 2 ^ 32) 15) right
    ∙ ap (λ n. rotate_left w32 n 15) taken_off ∙ turned_left turned (omega arith) ∙ back

pub masked-unmasked : (kept : ℕ) → kept < 2 ^ 32 → masked (unmasked kept) ≡ kept
masked-unmasked kept fits =
    let n = (kept + (2 ^ 32 - 0xa282ead8)) % 2 ^ 32
    in let turned = n % 2 ^ 17 * 2 ^ 15 + n / 2 ^ 17
    in let left : rotate_left w32 n 15 ≡ turned = turned_left n (omega arith)
    in let back : turned % 2 ^ 15 * 2 ^ 17 + turned / 2 ^ 15 ≡ n = omega arith
    in ap (λ m. (rotate_right w32 m 15 + 0xa282ead8) % 2 ^ 32) left
    ∙ ap (λ m. (m + 0xa282ead8) % 2 ^ 32) (turned_right turned (omega arith) ∙ back) ∙ omega arith

-- ---- bits that leave the register of CRC32C: what several bits do, and that the register of a sum is the sum of the registers

pub crc_shifts-add : (m n register : ℕ) → crc_shifts (m + n) register ≡ crc_shifts n (crc_shifts m register)
crc_shifts-add zero n register = ap (λ k. crc_shifts k register) (zero-add n)
crc_shifts-add (suc m) n register = ap (λ k. crc_shifts k register) (suc-add m n) ∙ crc_shifts-add m n (crc_shift register)

-- the middle two change sides
pub xor_swap : (a b c d : ℕ) → bit_xor (bit_xor a b) (bit_xor c d) ≡ bit_xor (bit_xor a c) (bit_xor b d)
xor_swap a b c d =
    xor_assoc a b (bit_xor c d) ∙ ap (bit_xor a) (sym (xor_assoc b c d) ∙ ap (λ bc. bit_xor bc d) (xor_comm b c) ∙ xor_assoc c b d)
    ∙ sym (xor_assoc a c (bit_xor b d))

-- the register after a bit, from its upper bits and that bit
after_bit : ℕ → ℕ → ℕ
after_bit upper bit = cond (nat_eq bit 1) (bit_xor upper 0x82f63b78) upper

after_bit-xor : (upper other bit more : ℕ) → bit < 2 → more < 2
    → after_bit (bit_xor upper other) (bit_xor bit more) ≡ bit_xor (after_bit upper bit) (after_bit other more)
unfolding after_bit
after_bit-xor upper other zero zero _ _ = refl
after_bit-xor upper other zero (suc zero) _ _ = xor_assoc upper other 0x82f63b78
after_bit-xor upper other (suc zero) zero _ _ =
    xor_assoc upper other 0x82f63b78 ∙ ap (bit_xor upper) (xor_comm other 0x82f63b78) ∙ sym (xor_assoc upper 0x82f63b78 other)
after_bit-xor upper other (suc zero) (suc zero) _ _ =
    sym (xor_zero_r (bit_xor upper other)) ∙ xor_swap upper other 0x82f63b78 0x82f63b78
after_bit-xor upper other (suc (suc bit)) more bit_in more_in = absurd (omega arith)
after_bit-xor upper other zero (suc (suc more)) bit_in more_in = absurd (omega arith)
after_bit-xor upper other (suc zero) (suc (suc more)) bit_in more_in = absurd (omega arith)

crc_shift-xor : (a b : ℕ) → crc_shift (bit_xor a b) ≡ bit_xor (crc_shift a) (crc_shift b)
unfolding after_bit
crc_shift-xor a b =
    ap₂ after_bit (xor_shr a b 1) (xor_mod a b 1) ∙ after_bit-xor (a / 2) (b / 2) (a % 2) (b % 2) (omega arith) (omega arith)

pub crc_shifts-xor : (bits a b : ℕ) → crc_shifts bits (bit_xor a b) ≡ bit_xor (crc_shifts bits a) (crc_shifts bits b)
crc_shifts-xor zero a b = refl
crc_shifts-xor (suc bits) a b = ap (crc_shifts bits) (crc_shift-xor a b) ∙ crc_shifts-xor bits (crc_shift a) (crc_shift b)

crc_shift-double : (register : ℕ) → crc_shift (register * 2) ≡ register
unfolding after_bit
crc_shift-double register =
    let upper : register * 2 / 2 ≡ register = omega arith
    in let bit : register * 2 % 2 ≡ 0 = omega arith
    in ap₂ after_bit upper bit

-- zeros leave
pub crc_shifts-up : (bits register : ℕ) → crc_shifts bits (register * 2 ^ bits) ≡ register
crc_shifts-up zero register = omega arith
crc_shifts-up (suc bits) register =
    let doubled : register * 2 ^ suc bits ≡ register * 2 ^ bits * 2 = rw (pow-suc, ← mul_assoc) refl
    in ap (λ r. crc_shifts bits (crc_shift r)) doubled ∙ ap (crc_shifts bits) (crc_shift-double (register * 2 ^ bits)) ∙ crc_shifts-up bits register

-- ---- zero bytes that follow a register, and the register of a text as the sum of those of its bytes

pub crc_zeros-none : (register : ℕ) → crc_zeros 0 register ≡ register
unfolding crc_zeros
crc_zeros-none register = refl

pub crc_zeros-xor : (bytes a b : ℕ) → crc_zeros bytes (bit_xor a b) ≡ bit_xor (crc_zeros bytes a) (crc_zeros bytes b)
unfolding crc_zeros
crc_zeros-xor bytes a b = crc_shifts-xor (8 * bytes) a b

pub crc_zeros-add : (m n register : ℕ) → crc_zeros (m + n) register ≡ crc_zeros n (crc_zeros m register)
unfolding crc_zeros
crc_zeros-add m n register =
    let bits : 8 * (m + n) ≡ 8 * m + 8 * n = omega arith
    in ap (λ count. crc_shifts count register) bits ∙ crc_shifts-add (8 * m) (8 * n) register

pub crc_zeros-up : (register : ℕ) → crc_zeros 1 (register * 256) ≡ register
unfolding crc_zeros
crc_zeros-up register = crc_shifts-up 8 register

pub crc_zeros-empty : (bytes : ℕ) → crc_zeros bytes 0 ≡ 0
unfolding crc_zeros
crc_zeros-empty bytes = ap (crc_shifts (8 * bytes)) (sym (zero-mul (2 ^ (8 * bytes)))) ∙ crc_shifts-up (8 * bytes) 0

pub crc_byte-zeros : (register byte : ℕ) → crc_byte register byte ≡ crc_zeros 1 (bit_xor register byte)
unfolding crc_zeros crc_byte
crc_byte-zeros register byte = refl

pub crc_byte-empty : (byte : ℕ) → crc_byte 0 byte ≡ crc_zeros 1 byte
crc_byte-empty byte = crc_byte-zeros 0 byte ∙ ap (crc_zeros 1) (xor_zero_l byte)

-- the upper bytes of a number and its lowest
xor_parts : (n : ℕ) → bit_xor (n % 256) (n / 256 * 256) ≡ n
xor_parts n =
    let upper : n / 256 * 2 ^ 8 + 0 ≡ n / 256 * 256 = omega arith
    in let lowest : 0 * 2 ^ 8 + n % 256 ≡ n % 256 = omega arith
    in let whole : n / 256 * 256 + n % 256 ≡ n = omega arith
    in xor_comm (n % 256) (n / 256 * 256) ∙ sym (ap₂ bit_xor upper lowest) ∙ xor_block 8 (n / 256) 0 0 (n % 256) (omega arith) (omega arith)
    ∙ ap₂ (λ a b. a * 256 + b) (xor_zero_r (n / 256)) (xor_zero_l (n % 256)) ∙ whole

-- the upper bytes of a register wait while a byte is read
pub crc_byte-parts : (register other byte : ℕ)
    → bit_xor (crc_byte register (bit_xor byte (other % 256))) (other / 256) ≡ crc_byte (bit_xor register other) byte
crc_byte-parts register other byte =
    let low = other % 256
    in let high = other / 256 * 256
    in let read : crc_byte register (bit_xor byte low) ≡ crc_zeros 1 (bit_xor register (bit_xor byte low)) = crc_byte-zeros register (bit_xor byte low)
    in let waiting : other / 256 ≡ crc_zeros 1 high = sym (crc_zeros-up (other / 256))
    in let order : bit_xor (bit_xor register (bit_xor byte low)) high ≡ bit_xor (bit_xor register (bit_xor low high)) byte =
    ap (λ r. bit_xor (bit_xor register r) high) (xor_comm byte low) ∙ ap (λ r. bit_xor r high) (sym (xor_assoc register low byte))
    ∙ xor_assoc (bit_xor register low) byte high ∙ ap (bit_xor (bit_xor register low)) (xor_comm byte high)
    ∙ sym (xor_assoc (bit_xor register low) high byte) ∙ ap (λ r. bit_xor r byte) (xor_assoc register low high)
    in ap₂ bit_xor read waiting ∙ sym (crc_zeros-xor 1 (bit_xor register (bit_xor byte low)) high)
    ∙ ap (crc_zeros 1) (order ∙ ap (λ r. bit_xor (bit_xor register r) byte) (xor_parts other))
    ∙ sym (crc_byte-zeros (bit_xor register other) byte)

-- a register's part in what a text leaves, and the text's part
pub crc_register-apart : (register : ℕ) (text : List ℕ) → crc_register register text ≡ bit_xor (crc_zeros (length text) register) (crc_register 0 text)
unfolding crc_register
crc_register-apart register [] = sym (xor_zero_r (crc_zeros 0 register) ∙ crc_zeros-none register)
crc_register-apart register (byte ∷ text) =
    let count = length text
    in let first : crc_zeros count (crc_byte register byte) ≡ bit_xor (crc_zeros (suc count) register) (crc_zeros count (crc_byte 0 byte)) =
    ap (crc_zeros count) (crc_byte-zeros register byte ∙ crc_zeros-xor 1 register byte)
    ∙ crc_zeros-xor count (crc_zeros 1 register) (crc_zeros 1 byte)
    ∙ ap₂ bit_xor (sym (crc_zeros-add 1 count register) ∙ ap (λ n. crc_zeros n register) (one-add count)) (ap (crc_zeros count) (sym (crc_byte-zeros 0 byte)))
    in crc_register-apart (crc_byte register byte) text ∙ ap (λ r. bit_xor r (crc_register 0 text)) first
    ∙ xor_assoc (crc_zeros (suc count) register) (crc_zeros count (crc_byte 0 byte)) (crc_register 0 text)
    ∙ ap (bit_xor (crc_zeros (suc count) register)) (sym (crc_register-apart (crc_byte 0 byte) text))

-- the first byte's part, and that of the others
pub crc_zeros-register : (behind : ℕ) (byte : ℕ) (text : List ℕ)
    → crc_zeros behind (crc_register 0 (byte ∷ text)) ≡ bit_xor (crc_zeros (behind + length text + 1) byte) (crc_zeros behind (crc_register 0 text))
unfolding crc_register
crc_zeros-register behind byte text =
    let count = length text
    in let first : crc_zeros behind (crc_zeros count (crc_byte 0 byte)) ≡ crc_zeros (behind + count + 1) byte =
    ap (λ r. crc_zeros behind (crc_zeros count r)) (crc_byte-zeros 0 byte) ∙ ap (crc_zeros behind) (sym (crc_zeros-add 1 count byte))
    ∙ sym (crc_zeros-add (1 + count) behind byte) ∙ (let sum : 1 + count + behind ≡ behind + count + 1 = omega arith in ap (λ n. crc_zeros n byte) sum)
    in ap (crc_zeros behind) (crc_register-apart (crc_byte 0 byte) text)
    ∙ crc_zeros-xor behind (crc_zeros count (crc_byte 0 byte)) (crc_register 0 text)
    ∙ ap (λ r. bit_xor r (crc_zeros behind (crc_register 0 text))) first

-- ---- the tables hold what a byte becomes when zero bytes follow it

-- tables, each with the entries of the one before it moved by a zero byte
abbrev tables_from : ℕ → List ℕ → List (List ℕ)
tables_from zero table = []
tables_from (suc count) table = table ∷ tables_from count (map (crc_shifts 8) table)

TABLES-computed : TABLES ≡ tables_from 16 (map (crc_shifts 8) (range_with_len 0 256))
TABLES-computed = refl

get_or-tables_from : (count : ℕ) (table : List ℕ) (k i : ℕ) → k < count → i < length table
    → get_or (get_or (tables_from count table) k []) i 0 ≡ crc_shifts (8 * k) (get_or table i 0)
get_or-tables_from zero table k i k_in i_in = absurd (omega arith)
get_or-tables_from (suc count) table zero i k_in i_in = refl
get_or-tables_from (suc count) table (suc k) i k_in i_in =
    get_or-tables_from count (map (crc_shifts 8) table) k i (omega arith) (rw length-map i_in)
    ∙ ap (crc_shifts (8 * k)) (get_or-map (crc_shifts 8) table i 0 0 i_in)
    ∙ sym (crc_shifts-add 8 (8 * k) (get_or table i 0))
    ∙ (let more : 8 + 8 * k ≡ 8 * suc k = omega arith in ap (λ bits. crc_shifts bits (get_or table i 0)) more)

pub get_or-TABLES : (count byte : ℕ) → count < 16 → byte < 256 → get_or (get_or TABLES count []) byte 0 ≡ crc_zeros (count + 1) byte
unfolding crc_zeros
get_or-TABLES count byte count_in byte_in =
    ap (λ tables. get_or (get_or tables count []) byte 0) TABLES-computed
    ∙ get_or-tables_from 16 (map (crc_shifts 8) (range_with_len 0 256)) count byte count_in (rw (length-map, length-range_with_len) byte_in)
    ∙ ap (crc_shifts (8 * count)) (get_or-map (crc_shifts 8) (range_with_len 0 256) byte 0 0 (rw length-range_with_len byte_in))
    ∙ sym (crc_shifts-add 8 (8 * count) (get_or (range_with_len 0 256) byte 0))
    ∙ (let entry : get_or (range_with_len 0 256) byte 0 ≡ byte = get_or-range_with_len 0 256 byte 0 byte_in ∙ zero-add byte
    in let more : 8 + 8 * count ≡ 8 * (count + 1) = omega arith
    in ap₂ crc_shifts more entry)

-- ---- a register fed a word or a block at a time

-- a list of four by its elements
pub four_elements : (word : List ℕ) → length word ≡ 4 → get_or word 0 0 ∷ get_or word 1 0 ∷ get_or word 2 0 ∷ get_or word 3 0 ∷ [] ≡ word
four_elements [] h = absurd (omega arith)
four_elements (a ∷ []) h = absurd (omega arith)
four_elements (a ∷ b ∷ []) h = absurd (omega arith)
four_elements (a ∷ b ∷ c ∷ []) h = absurd (omega arith)
four_elements (a ∷ b ∷ c ∷ d ∷ []) h = refl
four_elements (a ∷ b ∷ c ∷ d ∷ e ∷ rest) h = absurd (omega (arith, h))

-- the part of the byte and the lowest byte of a register, and that of the others
pub crc_byte-apart : (register byte : ℕ) → bit_xor (crc_zeros 1 (bit_xor byte (register % 256))) (register / 256) ≡ crc_byte register byte
crc_byte-apart register byte =
    ap (λ r. bit_xor r (register / 256)) (sym (crc_byte-empty (bit_xor byte (register % 256))))
    ∙ crc_byte-parts 0 register byte ∙ ap (λ r. crc_byte r byte) (xor_zero_l register)

-- the parts of a word's four bytes
pub crc_zeros-word : (behind a b c d : ℕ)
    → bit_xor (bit_xor (crc_zeros (behind + 3 + 1) a) (crc_zeros (behind + 2 + 1) b)) (bit_xor (crc_zeros (behind + 1 + 1) c) (crc_zeros (behind + 1) d))
    ≡ crc_zeros behind (crc_register 0 (a ∷ b ∷ c ∷ d ∷ []))
unfolding crc_register
crc_zeros-word behind a b c d =
    let first = crc_zeros (behind + 3 + 1) a
    in let second = crc_zeros (behind + 2 + 1) b
    in let third = crc_zeros (behind + 1 + 1) c
    in let last = crc_zeros (behind + 1) d
    in let end : crc_zeros behind (crc_register 0 (d ∷ [])) ≡ last =
    crc_zeros-register behind d [] ∙ ap₂ bit_xor (ap (λ n. crc_zeros (n + 1) d) (add-zero behind)) (crc_zeros-empty behind) ∙ xor_zero_r last
    in xor_assoc first second (bit_xor third last)
    ∙ sym (crc_zeros-register behind a (b ∷ c ∷ d ∷ [])
    ∙ ap (bit_xor first) (crc_zeros-register behind b (c ∷ d ∷ [])
    ∙ ap (bit_xor second) (crc_zeros-register behind c (d ∷ []) ∙ ap (bit_xor third) end)))

-- a text read by chunks
pub fold-first_chunks : (size count register : ℕ) (text : List ℕ) → fold crc_register register (first_chunks size count text) ≡ crc_register register (take (count * size) text)
unfolding crc_register
fold-first_chunks size zero register text = rw zero-mul refl
fold-first_chunks size (suc count) register text =
    fold-first_chunks size count (crc_register register (take size text)) (drop size text)
    ∙ sym (crc_register-append register (take size text) (take (count * size) (drop size text)))
    ∙ ap (crc_register register) (sym (take-add size (count * size) text))
    ∙ (let more : size + count * size ≡ suc count * size = omega arith in ap (λ n. crc_register register (take n text)) more)

-- a text read by chunks, and then what is left of it
pub crc_register-chunks : (size register : ℕ) (text : List ℕ) (chunks : List (List ℕ)) (rest : List ℕ)
    → chunks ≡ first_chunks size (length text / size) text → rest ≡ drop (length text / size * size) text
    → crc_register (fold crc_register register chunks) rest ≡ crc_register register text
crc_register-chunks size register text chunks rest front back =
    let count = length text / size
    in ap₂ crc_register (ap (fold crc_register register) front ∙ fold-first_chunks size count register text) back
    ∙ sym (crc_register-append register (take (count * size) text) (drop (count * size) text))
    ∙ ap (crc_register register) (take-append-drop (count * size) text)

-- a sum of two registers, and a word after it
crc_register-xor : (a b : ℕ) (word : List ℕ) → length word ≡ 4
    → crc_register (bit_xor a b) word ≡ bit_xor (bit_xor (crc_zeros 4 a) (crc_zeros 4 b)) (crc_register 0 word)
crc_register-xor a b word long =
    let read : crc_zeros (length word) (bit_xor a b) ≡ bit_xor (crc_zeros 4 a) (crc_zeros 4 b) =
    ap (λ n. crc_zeros n (bit_xor a b)) long ∙ crc_zeros-xor 4 a b
    in crc_register-apart (bit_xor a b) word ∙ ap (λ r. bit_xor r (crc_register 0 word)) read

-- the parts of a register and of three words after it
words_apart : (register : ℕ) (first second third : List ℕ) → length first ≡ 4 → length second ≡ 4 → length third ≡ 4
    → bit_xor (bit_xor (bit_xor (crc_zeros 8 (crc_register 0 first)) (crc_zeros 4 (crc_register 0 second))) (crc_zeros 0 (crc_register 0 third))) (crc_zeros 12 register)
    ≡ crc_register (crc_register (crc_register register first) second) third
words_apart register first second third e f g =
    let x = crc_register 0 first
    in let y = crc_register 0 second
    in let z = crc_register 0 third
    in let one : crc_register register first ≡ bit_xor (crc_zeros 4 register) x =
    crc_register-apart register first ∙ ap (λ n. bit_xor (crc_zeros n register) x) e
    in let two : crc_register (crc_register register first) second ≡ bit_xor (bit_xor (crc_zeros 8 register) (crc_zeros 4 x)) y =
    ap (λ r. crc_register r second) one ∙ crc_register-xor (crc_zeros 4 register) x second f
    ∙ ap (λ r. bit_xor (bit_xor r (crc_zeros 4 x)) y) (sym (crc_zeros-add 4 4 register))
    in let three : crc_register (crc_register (crc_register register first) second) third
    ≡ bit_xor (bit_xor (bit_xor (crc_zeros 12 register) (crc_zeros 8 x)) (crc_zeros 4 y)) z =
    ap (λ r. crc_register r third) two ∙ crc_register-xor (bit_xor (crc_zeros 8 register) (crc_zeros 4 x)) y third g
    ∙ ap (λ r. bit_xor (bit_xor r (crc_zeros 4 y)) z)
    (crc_zeros-xor 4 (crc_zeros 8 register) (crc_zeros 4 x) ∙ ap₂ bit_xor (sym (crc_zeros-add 8 4 register)) (sym (crc_zeros-add 4 4 x)))
    in let a = crc_zeros 12 register
    in let b = crc_zeros 8 x
    in let c = crc_zeros 4 y
    in ap (λ r. bit_xor (bit_xor (bit_xor b c) r) a) (crc_zeros-none z) ∙ xor_comm (bit_xor (bit_xor b c) z) a
    ∙ sym (xor_assoc a (bit_xor b c) z) ∙ ap (λ r. bit_xor r z) (sym (xor_assoc a b c)) ∙ sym three

-- the parts of a block's four words
pub crc_register-block : (register : ℕ) (block : List ℕ) (words : List (List ℕ)) → length block ≡ 16 → words ≡ first_chunks 4 (length block / 4) block
    → bit_xor (bit_xor (bit_xor (crc_zeros 8 (crc_register 0 (get_or words 1 []))) (crc_zeros 4 (crc_register 0 (get_or words 2 [])))) (crc_zeros 0 (crc_register 0 (get_or words 3 []))))
    (crc_zeros 12 (crc_register register (get_or words 0 [])))
    ≡ crc_register register block
crc_register-block register block words long is =
    let chunks : words ≡ first_chunks 4 4 block = is ∙ ap (λ n. first_chunks 4 (n / 4) block) long
    in let second = take 4 (drop 4 block)
    in let third = take 4 (drop 4 (drop 4 block))
    in let last = take 4 (drop 4 (drop 4 (drop 4 block)))
    in ap (λ ws. bit_xor (bit_xor (bit_xor (crc_zeros 8 (crc_register 0 (get_or ws 1 []))) (crc_zeros 4 (crc_register 0 (get_or ws 2 [])))) (crc_zeros 0 (crc_register 0 (get_or ws 3 []))))
    (crc_zeros 12 (crc_register register (get_or ws 0 [])))) chunks
    ∙ words_apart (crc_register register (take 4 block)) second third last (search rules) (search rules) (search rules)
    ∙ fold-first_chunks 4 4 register block
    ∙ ap (crc_register register) (take_all 16 block (omega arith))

-- a register mixed into the bytes that it meets
mixed : ℕ → List ℕ → List ℕ
mixed other [] = []
mixed other (byte ∷ text) = bit_xor byte (other % 256) ∷ mixed (other / 256) text

crc_register-mixed_in : (register other : ℕ) (text : List ℕ) → other < 256 ^ length text → crc_register register (mixed other text) ≡ crc_register (bit_xor register other) text
unfolding mixed crc_register
crc_register-mixed_in register other [] fits =
    let none : 0 ≡ other = omega arith in sym (xor_zero_r register) ∙ ap (bit_xor register) none
crc_register-mixed_in register other (byte ∷ text) fits =
    crc_register-mixed_in (crc_byte register (bit_xor byte (other % 256))) (other / 256) text (omega (arith, pow-suc 256 (length text)))
    ∙ ap (λ r. crc_register r text) (crc_byte-parts register other byte)

pub crc_register-mixed : (register : ℕ) (word : List ℕ) → register < 2 ^ 32 → length word ≡ 4
    → crc_register 0 (bit_xor (get_or word 0 0) (register % 256) ∷ bit_xor (get_or word 1 0) (register / 256 % 256) ∷ bit_xor (get_or word 2 0) (register / 65536 % 256) ∷ bit_xor (get_or word 3 0) (register / 16777216 % 256) ∷ [])
    ≡ crc_register register word
unfolding mixed
crc_register-mixed register word fits long =
    let a = get_or word 0 0
    in let b = get_or word 1 0
    in let c = get_or word 2 0
    in let d = get_or word 3 0
    in let third : register / 65536 ≡ register / 256 / 256 = omega arith
    in let last : register / 16777216 ≡ register / 256 / 256 / 256 = omega arith
    in ap₂ (λ p q. crc_register 0 (bit_xor a (register % 256) ∷ bit_xor b (register / 256 % 256) ∷ bit_xor c (p % 256) ∷ bit_xor d (q % 256) ∷ [])) third last
    ∙ crc_register-mixed_in 0 register (a ∷ b ∷ c ∷ d ∷ []) fits
    ∙ ap₂ crc_register (xor_zero_l register) (four_elements word long)

-- ---- four registers side by side

-- four zero bytes follow a register
four_zeros : (register : ℕ) → crc_register register (0 ∷ 0 ∷ 0 ∷ 0 ∷ []) ≡ crc_zeros 4 register
unfolding crc_register crc_byte
four_zeros register =
    let none : crc_register 0 (0 ∷ 0 ∷ 0 ∷ 0 ∷ []) ≡ 0 = refl
    in crc_register-apart register (0 ∷ 0 ∷ 0 ∷ 0 ∷ []) ∙ ap (bit_xor (crc_zeros 4 register)) none ∙ xor_zero_r (crc_zeros 4 register)

-- an empty register that reads a number's bytes is that number before four zero bytes
pub crc_register-le_bytes : (n : ℕ) → n < 2 ^ 32 → crc_register 0 (to_le_bytes w32 n) ≡ crc_zeros 4 n
crc_register-le_bytes n fits =
    let read : crc_register 0 (bit_xor 0 (n % 256) ∷ bit_xor 0 (n / 256 % 256) ∷ bit_xor 0 (n / 65536 % 256) ∷ bit_xor 0 (n / 16777216 % 256) ∷ [])
    ≡ crc_register n (0 ∷ 0 ∷ 0 ∷ 0 ∷ []) = crc_register-mixed n (0 ∷ 0 ∷ 0 ∷ 0 ∷ []) fits refl
    in let bytes : bit_xor 0 (n % 256) ∷ bit_xor 0 (n / 256 % 256) ∷ bit_xor 0 (n / 65536 % 256) ∷ bit_xor 0 (n / 16777216 % 256) ∷ [] ≡ to_le_bytes w32 n =
    rw (xor_zero_l (n % 256), xor_zero_l (n / 256 % 256), xor_zero_l (n / 65536 % 256), xor_zero_l (n / 16777216 % 256)) refl
    in ap (crc_register 0) (sym bytes) ∙ read ∙ four_zeros n

-- a byte of four, or 0 past them
byte_of_four : (a b c d : ℕ) → a < 256 → b < 256 → c < 256 → d < 256 → (i : ℕ) → get_or (a ∷ b ∷ c ∷ d ∷ []) i 0 < 256
byte_of_four a b c d p q r s zero = p
byte_of_four a b c d p q r s (suc zero) = q
byte_of_four a b c d p q r s (suc (suc zero)) = r
byte_of_four a b c d p q r s (suc (suc (suc zero))) = s
byte_of_four a b c d p q r s (suc (suc (suc (suc i)))) = omega arith

-- the same of the bytes that a number was read of
pub crc_register-bytes : (a b c d n : ℕ) → a < 256 → b < 256 → c < 256 → d < 256 → n ≡ from_le_bytes w32 (a ∷ b ∷ c ∷ d ∷ []) → n < 2 ^ 32
    → crc_register 0 (a ∷ b ∷ c ∷ d ∷ []) ≡ crc_zeros 4 n
crc_register-bytes a b c d n p q r s is fits =
    ap (crc_register 0) (sym (le_bytes_4 (a ∷ b ∷ c ∷ d ∷ []) n refl (byte_of_four a b c d p q r s) is)) ∙ crc_register-le_bytes n fits

-- a number's bytes, and zero bytes behind them
pub crc_zeros-le_bytes : (zeros n : ℕ) → n < 2 ^ 32 → crc_zeros zeros (crc_register 0 (to_le_bytes w32 n)) ≡ crc_zeros (4 + zeros) n
crc_zeros-le_bytes zeros n fits = ap (crc_zeros zeros) (crc_register-le_bytes n fits) ∙ sym (crc_zeros-add 4 zeros n)

-- registers that have a block's four words, the first of them after what came before
pub lanes_register-block : (register a b c d : ℕ) (block : List ℕ) (words : List (List ℕ)) → length block ≡ 16 → words ≡ first_chunks 4 (length block / 4) block
    → crc_register register (get_or words 0 []) ≡ crc_zeros 4 a → crc_register 0 (get_or words 1 []) ≡ crc_zeros 4 b
    → crc_register 0 (get_or words 2 []) ≡ crc_zeros 4 c → crc_register 0 (get_or words 3 []) ≡ crc_zeros 4 d
    → lanes_register a b c d ≡ crc_register register block
lanes_register-block register a b c d block words long is first second third fourth =
    let x = crc_zeros 16 a
    in let y = crc_zeros 12 b
    in let z = crc_zeros 8 c
    in let w = crc_zeros 4 d
    in let one : crc_zeros 12 (crc_register register (get_or words 0 [])) ≡ x = ap (crc_zeros 12) first ∙ sym (crc_zeros-add 4 12 a)
    in let two : crc_zeros 8 (crc_register 0 (get_or words 1 [])) ≡ y = ap (crc_zeros 8) second ∙ sym (crc_zeros-add 4 8 b)
    in let three : crc_zeros 4 (crc_register 0 (get_or words 2 [])) ≡ z = ap (crc_zeros 4) third ∙ sym (crc_zeros-add 4 4 c)
    in let four : crc_zeros 0 (crc_register 0 (get_or words 3 [])) ≡ w = crc_zeros-none (crc_register 0 (get_or words 3 [])) ∙ fourth
    in let order : bit_xor (bit_xor x y) (bit_xor z w) ≡ bit_xor (bit_xor (bit_xor y z) w) x =
    xor_assoc x y (bit_xor z w) ∙ xor_comm x (bit_xor y (bit_xor z w)) ∙ ap (λ r. bit_xor r x) (sym (xor_assoc y z w))
    in order ∙ sym (ap₂ bit_xor (ap₂ bit_xor (ap₂ bit_xor two three) four) one) ∙ crc_register-block register block words long is

-- registers that are sums
lanes_register-xor : (a b c d p q r s : ℕ)
    → lanes_register (bit_xor a p) (bit_xor b q) (bit_xor c r) (bit_xor d s) ≡ bit_xor (lanes_register a b c d) (lanes_register p q r s)
lanes_register-xor a b c d p q r s =
    ap₂ bit_xor
    (ap₂ bit_xor (crc_zeros-xor 16 a p) (crc_zeros-xor 12 b q) ∙ xor_swap (crc_zeros 16 a) (crc_zeros 16 p) (crc_zeros 12 b) (crc_zeros 12 q))
    (ap₂ bit_xor (crc_zeros-xor 8 c r) (crc_zeros-xor 4 d s) ∙ xor_swap (crc_zeros 8 c) (crc_zeros 8 r) (crc_zeros 4 d) (crc_zeros 4 s))
    ∙ xor_swap (bit_xor (crc_zeros 16 a) (crc_zeros 12 b)) (bit_xor (crc_zeros 16 p) (crc_zeros 12 q)) (bit_xor (crc_zeros 8 c) (crc_zeros 4 d))
    (bit_xor (crc_zeros 8 r) (crc_zeros 4 s))

-- zero bytes before others
crc_zeros-swap : (m n register : ℕ) → crc_zeros m (crc_zeros n register) ≡ crc_zeros n (crc_zeros m register)
crc_zeros-swap m n register =
    let sum : n + m ≡ m + n = omega arith
    in sym (crc_zeros-add n m register) ∙ ap (λ count. crc_zeros count register) sum ∙ crc_zeros-add m n register

-- a block's worth of zero bytes follows each
lanes_register-zeros : (a b c d : ℕ) → lanes_register (crc_zeros 16 a) (crc_zeros 16 b) (crc_zeros 16 c) (crc_zeros 16 d) ≡ crc_zeros 16 (lanes_register a b c d)
lanes_register-zeros a b c d =
    ap₂ bit_xor
    (ap (bit_xor (crc_zeros 16 (crc_zeros 16 a))) (crc_zeros-swap 12 16 b) ∙ sym (crc_zeros-xor 16 (crc_zeros 16 a) (crc_zeros 12 b)))
    (ap₂ bit_xor (crc_zeros-swap 8 16 c) (crc_zeros-swap 4 16 d) ∙ sym (crc_zeros-xor 16 (crc_zeros 8 c) (crc_zeros 4 d)))
    ∙ sym (crc_zeros-xor 16 (bit_xor (crc_zeros 16 a) (crc_zeros 12 b)) (bit_xor (crc_zeros 8 c) (crc_zeros 4 d)))

-- registers after one block more, whose own are these
pub lanes_register-after : (a b c d p q r s : ℕ) (block : List ℕ) → length block ≡ 16 → lanes_register p q r s ≡ crc_register 0 block
    → lanes_register (bit_xor (crc_zeros 16 a) p) (bit_xor (crc_zeros 16 b) q) (bit_xor (crc_zeros 16 c) r) (bit_xor (crc_zeros 16 d) s)
    ≡ crc_register (lanes_register a b c d) block
lanes_register-after a b c d p q r s block long alone =
    let before = lanes_register a b c d
    in lanes_register-xor (crc_zeros 16 a) (crc_zeros 16 b) (crc_zeros 16 c) (crc_zeros 16 d) p q r s
    ∙ ap₂ bit_xor (lanes_register-zeros a b c d) alone
    ∙ sym (crc_register-apart before block ∙ ap (λ count. bit_xor (crc_zeros count before) (crc_register 0 block)) long)
