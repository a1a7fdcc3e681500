-- A text divided by a multiple of CRC32C's polynomial: what is left of it leaves the same register.
use Rattle.std.proofs.Common.{◌≡◌, ℕ, ◌+◌, ◌-◌, ◌*◌, ◌/◌, ◌%◌, ◌^◌, ◌<◌, ◌≤◌, List, ◌++◌, sym, ap, ◌∙◌, arith, zero, suc, refl, ap₂, [], ◌∷◌, length, take, drop, All, replicate, length-append, length-drop, subst, inl, inr, Bool, true, false, nat_eq, if◌then◌else◌, ◌⊎◌, one-add, get_or, fold, Fits, w8}
use Rattle.std.proofs.lemmas.List.Elements.{All-append}
use Rattle.std.specs.List.{concat}
use Rattle.std.proofs.Math.Seq.{take-add, take-append-add, drop-append-add}
use Rattle.std.proofs.Math.Nat.{pow-suc, mul_comm}
use Rattle.std.proofs.Math.Pow.{pow-add}
use Rattle.std.proofs.lemmas.Bool.{cases_lt}
use Rattle.std.specs.Int.{w32, to_le_bytes}
use Rattle.std.specs.Int.Bits.{bit_xor, xor_zero_r, xor_assoc, xor_zero_l, xor_self}
use Rattle.std.specs.Simd.Lanes.{zip2, chunk, put_chunk, Each1}
use Rattle.std.proofs.lemmas.Nat.{xor_comm, xor_block, xor_lt}
use Rattle.std.proofs.lemmas.Simd.{length-zip2, length-chunk, Each1-get_or, length-put_chunk, take_more_put_chunk, put_chunk_is}
use Rattle.std.proofs.lemmas.List.{length-replicate, append_assoc, take-append-le, take_at, drop_at, drop-append-le, drop-take, drop-drop, drop-replicate, take-append-drop, length-take-le, take-replicate, take_all, drop_all, append-nil, take_more, get_or-take, get_or-drop}
use Rattle.std.proofs.lemmas.List.Folds.{concat-append}
use borrow.Rule.Slice.PartMut.{put_mid, mid_of}
use Rattle.leveldb_base.specs.Crc.{crc_byte, crc_register, crc_shift, crc_shifts, crc_zeros, reduced}
use Rattle.leveldb_base.specs.declared.crc.quotient.TheConstants.{TERMS}
use Rattle.leveldb_base.proofs.CrcLemmas.{crc_register-append, crc_register-apart, crc_shifts-xor, crc_shifts-up, crc_shifts-add, crc_zeros-add, crc_zeros-xor, crc_zeros-empty, crc_zeros-none, crc_byte-zeros, crc_zeros-le_bytes, xor_swap}

-- ---- the register of a sum of texts, and of texts with zeros

pub crc_register-zeros : (register count : ℕ) → crc_register register (replicate count 0) ≡ crc_zeros count register
unfolding crc_register
crc_register-zeros register zero = sym (crc_zeros-none register)
crc_register-zeros register (suc count) =
    crc_register-zeros (crc_byte register 0) count
    ∙ ap (crc_zeros count) (crc_byte-zeros register 0 ∙ ap (crc_zeros 1) (xor_zero_r register))
    ∙ sym (crc_zeros-add 1 count register) ∙ ap (λ n. crc_zeros n register) (one-add count)

-- the register of the bytewise sum of two texts
crc_register-sum : (r q : ℕ) (a b : List ℕ) → length a ≡ length b
    → crc_register (bit_xor r q) (zip2 bit_xor a b) ≡ bit_xor (crc_register r a) (crc_register q b)
unfolding crc_register
crc_register-sum r q [] [] same = refl
crc_register-sum r q [] (y ∷ b) same = absurd (omega arith)
crc_register-sum r q (x ∷ a) [] same = absurd (omega arith)
crc_register-sum r q (x ∷ a) (y ∷ b) same =
    let byte : crc_byte (bit_xor r q) (bit_xor x y) ≡ bit_xor (crc_byte r x) (crc_byte q y) =
    crc_byte-zeros (bit_xor r q) (bit_xor x y) ∙ ap (crc_zeros 1) (xor_swap r q x y) ∙ crc_zeros-xor 1 (bit_xor r x) (bit_xor q y)
    ∙ sym (ap₂ bit_xor (crc_byte-zeros r x) (crc_byte-zeros q y))
    in ap (λ register. crc_register register (zip2 bit_xor a b)) byte ∙ crc_register-sum (crc_byte r x) (crc_byte q y) a b (omega arith)

-- the same of two that an empty register reads
crc_register-both : (a b : List ℕ) → length a ≡ length b → crc_register 0 (zip2 bit_xor a b) ≡ bit_xor (crc_register 0 a) (crc_register 0 b)
crc_register-both a b same = crc_register-sum 0 0 a b same

-- zeros before a text, and after it
crc_register-between : (front after : ℕ) (text : List ℕ)
    → crc_register 0 (replicate front 0 ++ (text ++ replicate after 0)) ≡ crc_zeros after (crc_register 0 text)
crc_register-between front after text =
    crc_register-append 0 (replicate front 0) (text ++ replicate after 0)
    ∙ ap (λ register. crc_register register (text ++ replicate after 0)) (crc_register-zeros 0 front ∙ crc_zeros-empty front)
    ∙ crc_register-append 0 text (replicate after 0) ∙ crc_register-zeros (crc_register 0 text) after

-- ---- a register stays within its bits

if_either : (P : ℕ → Type 0) (test : Bool) (a b : ℕ) → P a → P b → P (if test then a else b)
if_either P true a b first second = first
if_either P false a b first second = second

crc_shift-fits : (register : ℕ) → register < 2 ^ 32 → crc_shift register < 2 ^ 32
crc_shift-fits register fits =
    if_either (λ r. r < 2 ^ 32) (nat_eq (register % 2) 1) (bit_xor (register / 2) 0x82f63b78) (register / 2)
    (xor_lt 32 (register / 2) 0x82f63b78 (omega arith) (omega arith)) (omega arith)

crc_shifts-fits : (bits register : ℕ) → register < 2 ^ 32 → crc_shifts bits register < 2 ^ 32
crc_shifts-fits zero register fits = fits
crc_shifts-fits (suc bits) register fits = crc_shifts-fits bits (crc_shift register) (crc_shift-fits register fits)

crc_byte-fits : (register byte : ℕ) → register < 2 ^ 32 → byte < 256 → crc_byte register byte < 2 ^ 32
unfolding crc_byte
crc_byte-fits register byte fits small = crc_shifts-fits 8 (bit_xor register byte) (xor_lt 32 register byte fits (omega arith))

-- ---- the multiple leaves nothing in the register

-- the sum of what a function gives for each of these
abbrev sum_over : (ℕ → ℕ) → List ℕ → ℕ
sum_over part [] = 0
sum_over part (term ∷ terms) = bit_xor (part term) (sum_over part terms)

sum_over-xor : (f g : ℕ → ℕ) (terms : List ℕ) → sum_over (λ t. bit_xor (f t) (g t)) terms ≡ bit_xor (sum_over f terms) (sum_over g terms)
sum_over-xor f g [] = refl
sum_over-xor f g (term ∷ terms) =
    ap (bit_xor (bit_xor (f term) (g term))) (sum_over-xor f g terms) ∙ xor_swap (f term) (g term) (sum_over f terms) (sum_over g terms)

sum_over-same : (f g : ℕ → ℕ) (terms : List ℕ) → ((t : ℕ) → f t ≡ g t) → sum_over f terms ≡ sum_over g terms
sum_over-same f g [] same = refl
sum_over-same f g (term ∷ terms) same = ap₂ bit_xor (same term) (sum_over-same f g terms same)

-- what bits do that leave it
sum_over-shifts : (bits : ℕ) (f : ℕ → ℕ) (terms : List ℕ) → sum_over (λ t. crc_shifts bits (f t)) terms ≡ crc_shifts bits (sum_over f terms)
sum_over-shifts bits f [] = sym (ap (crc_shifts bits) (let none : 0 * 2 ^ bits ≡ 0 = omega arith in sym none) ∙ crc_shifts-up bits 0)
sum_over-shifts bits f (term ∷ terms) =
    ap (bit_xor (crc_shifts bits (f term))) (sum_over-shifts bits f terms) ∙ sym (crc_shifts-xor bits (f term) (sum_over f terms))

sum_over-zeros : (bytes : ℕ) (f : ℕ → ℕ) (terms : List ℕ) → sum_over (λ t. crc_zeros bytes (f t)) terms ≡ crc_zeros bytes (sum_over f terms)
unfolding crc_zeros
sum_over-zeros bytes f terms = sum_over-shifts (8 * bytes) f terms

-- so many bytes of a register: what the multiple's degree leaves is what its other terms leave
abbrev Vanishes : ℕ → Type 0
Vanishes register = crc_zeros 266 register ≡ sum_over (λ term. crc_zeros term register) TERMS

Vanishes-xor : (a b : ℕ) → Vanishes a → Vanishes b → Vanishes (bit_xor a b)
Vanishes-xor a b first second =
    crc_zeros-xor 266 a b ∙ ap₂ bit_xor first second ∙ sym (sum_over-xor (λ t. crc_zeros t a) (λ t. crc_zeros t b) TERMS)
    ∙ sum_over-same (λ t. bit_xor (crc_zeros t a) (crc_zeros t b)) (λ t. crc_zeros t (bit_xor a b)) TERMS (λ t. sym (crc_zeros-xor t a b))

-- bits and bytes leave in any order
crc_zeros-shifts : (bytes bits register : ℕ) → crc_zeros bytes (crc_shifts bits register) ≡ crc_shifts bits (crc_zeros bytes register)
unfolding crc_zeros
crc_zeros-shifts bytes bits register =
    sym (crc_shifts-add bits (8 * bytes) register) ∙ (let order : bits + 8 * bytes ≡ 8 * bytes + bits = omega arith in ap (λ n. crc_shifts n register) order)
    ∙ crc_shifts-add (8 * bytes) bits register

Vanishes-shifts : (bits register : ℕ) → Vanishes register → Vanishes (crc_shifts bits register)
Vanishes-shifts bits register is =
    crc_zeros-shifts 266 bits register ∙ ap (crc_shifts bits) is ∙ sym (sum_over-shifts bits (λ t. crc_zeros t register) TERMS)
    ∙ sum_over-same (λ t. crc_shifts bits (crc_zeros t register)) (λ t. crc_zeros t (crc_shifts bits register)) TERMS (λ t. sym (crc_zeros-shifts t bits register))

Vanishes-top : Vanishes (2 ^ 31)
unfolding crc_zeros
Vanishes-top = refl

Vanishes-none : Vanishes 0
unfolding crc_zeros
Vanishes-none = refl

Vanishes-bit : (bits : ℕ) → bits ≤ 31 → Vanishes (2 ^ bits)
Vanishes-bit bits few =
    let left = 31 - bits in
    let whole : 2 ^ bits * 2 ^ left ≡ 2 ^ 31 = sym (pow-add 2 bits left) ∙ (let sum : bits + left ≡ 31 = omega arith in ap (λ n. 2 ^ n) sum)
    in subst Vanishes (ap (crc_shifts left) (sym whole) ∙ crc_shifts-up left (2 ^ bits)) (Vanishes-shifts left (2 ^ 31) Vanishes-top)

-- one bit more
vanishes_more : (bits register : ℕ) → bits ≤ 31 → register < 2 ^ suc bits → ((other : ℕ) → other < 2 ^ bits → Vanishes other)
    → (register < 2 ^ bits) ⊎ (2 ^ bits ≤ register) → Vanishes register
vanishes_more bits register few fits others (inl below) = others register below
vanishes_more bits register few fits others (inr above) =
    let twice : 2 ^ suc bits ≡ 2 * 2 ^ bits = pow-suc 2 bits ∙ mul_comm (2 ^ bits) 2 in
    let rest = register - 2 ^ bits in
    let below : rest < 2 ^ bits = omega (arith, twice) in
    let sum : bit_xor (2 ^ bits) rest ≡ register =
    (let top : 2 ^ bits ≡ 1 * 2 ^ bits + 0 = omega arith in let low : rest ≡ 0 * 2 ^ bits + rest = omega arith in ap₂ bit_xor top low)
    ∙ xor_block bits 1 0 0 rest (omega arith) below ∙ ap (λ low. 1 * 2 ^ bits + low) (xor_zero_l rest) ∙ omega arith in
    subst Vanishes sum (Vanishes-xor (2 ^ bits) rest (Vanishes-bit bits few) (others rest below))

-- a register of so many bits
vanishes_within : (bits : ℕ) → bits ≤ 32 → (register : ℕ) → register < 2 ^ bits → Vanishes register
vanishes_within zero few register fits = subst Vanishes (let none : 0 ≡ register = omega arith in none) Vanishes-none
vanishes_within (suc bits) few register fits =
    vanishes_more bits register (omega arith) fits (vanishes_within bits (omega arith)) (cases_lt register (2 ^ bits))

-- any register
pub vanishes : (register : ℕ) → register < 2 ^ 32 → Vanishes register
vanishes register fits = vanishes_within 32 (omega arith) register fits

-- the register stays within its bits
crc_register-fits : (register : ℕ) (text : List ℕ) → register < 2 ^ 32 → All (λ byte. byte < 256) text → crc_register register text < 2 ^ 32
unfolding crc_register
crc_register-fits register [] fits bytes = fits
crc_register-fits register (byte ∷ text) fits bytes =
    crc_register-fits (crc_byte register byte) text (crc_byte-fits register byte fits (bytes 0 0 (omega arith)))
    (λ k d within. bytes (suc k) d (omega arith))

-- ---- what is left of a text, and the register after it

-- so many bytes of each term are in the quotient
abbrev Within : List ℕ → ℕ → ℕ → Type 0
Within terms far long = All (λ term. term + far ≤ long) terms

later : (term : ℕ) (terms : List ℕ) (far long : ℕ) → Within (term ∷ terms) far long → Within terms far long
later term terms far long within = λ k d lt. within (suc k) d (omega arith)

module _ {X Y Z : Type 0} (f : X → Y → Z) where
  zip2-append : (a b : List X) (c d : List Y) → length a ≡ length c → zip2 f (a ++ b) (c ++ d) ≡ zip2 f a c ++ zip2 f b d
  zip2-append [] b [] d same = refl
  zip2-append [] b (y ∷ c) d same = absurd (omega arith)
  zip2-append (x ∷ a) b [] d same = absurd (omega arith)
  zip2-append (x ∷ a) b (y ∷ c) d same = ap (λ l. f x y ∷ l) (zip2-append a b c d (omega arith))

-- the register after what is left is a sum
crc_register-reduced : (terms quotient : List ℕ) (offset : ℕ) (text : List ℕ) → Within terms (offset + length text) (length quotient)
    → crc_register 0 (reduced terms quotient offset text)
    ≡ bit_xor (crc_register 0 text) (sum_over (λ term. crc_register 0 (chunk (offset + term) (length text) quotient)) terms)
unfolding reduced
crc_register-reduced [] quotient offset text within = sym (xor_zero_r (crc_register 0 text))
crc_register-reduced (term ∷ terms) quotient offset text within =
    let part = chunk (offset + term) (length text) quotient in
    let first : term + (offset + length text) ≤ length quotient = within 0 0 (omega arith) in
    let long : length part ≡ length text = length-chunk (offset + term) (length text) quotient (omega arith) in
    let next = zip2 bit_xor text part in
    let same : length next ≡ length text = length-zip2 bit_xor text part (sym long) in
    let rest = λ (n : ℕ). sum_over (λ t. crc_register 0 (chunk (offset + t) n quotient)) terms in
    crc_register-reduced terms quotient offset next (subst (λ n. Within terms (offset + n) (length quotient)) (sym same) (later term terms _ _ within))
    ∙ ap₂ bit_xor (crc_register-both text part (sym long)) (ap rest same)
    ∙ xor_assoc (crc_register 0 text) (crc_register 0 part) (rest (length text))

-- what is left of two texts, one after the other
pub reduced-append : (terms quotient : List ℕ) (offset : ℕ) (a b : List ℕ) → Within terms (offset + (length a + length b)) (length quotient)
    → reduced terms quotient offset (a ++ b) ≡ reduced terms quotient offset a ++ reduced terms quotient (offset + length a) b
unfolding reduced
reduced-append [] quotient offset a b within = refl
reduced-append (term ∷ terms) quotient offset a b within =
    let first : term + (offset + (length a + length b)) ≤ length quotient = within 0 0 (omega arith) in
    let near = chunk (offset + term) (length a) quotient in
    let far = chunk (offset + length a + term) (length b) quotient in
    let near_long : length near ≡ length a = length-chunk (offset + term) (length a) quotient (omega arith) in
    let far_long : length far ≡ length b = length-chunk (offset + length a + term) (length b) quotient (omega arith) in
    let on : offset + term + length a ≡ offset + length a + term = omega arith in
    let parts : chunk (offset + term) (length (a ++ b)) quotient ≡ near ++ far =
    ap (λ n. take n (drop (offset + term) quotient)) (length-append a b) ∙ take-add (length a) (length b) (drop (offset + term) quotient)
    ∙ ap (λ l. near ++ take (length b) l) (drop-drop (length a) (offset + term) quotient ∙ ap (λ n. drop n quotient) on) in
    let front = zip2 bit_xor a near in
    let back = zip2 bit_xor b far in
    let front_long : length front ≡ length a = length-zip2 bit_xor a near (sym near_long) in
    let back_long : length back ≡ length b = length-zip2 bit_xor b far (sym far_long) in
    ap (λ part. reduced terms quotient offset (zip2 bit_xor (a ++ b) part)) parts
    ∙ ap (reduced terms quotient offset) (zip2-append bit_xor a b near far (sym near_long))
    ∙ reduced-append terms quotient offset front back
    (subst (λ n. Within terms (offset + n) (length quotient)) (sym (ap₂ (λ x y. x + y) front_long back_long)) (later term terms _ _ within))
    ∙ ap (λ n. reduced terms quotient offset front ++ reduced terms quotient (offset + n) back) front_long

pub length-reduced : (terms quotient : List ℕ) (offset : ℕ) (text : List ℕ) → Within terms (offset + length text) (length quotient)
    → length (reduced terms quotient offset text) ≡ length text
unfolding reduced
length-reduced [] quotient offset text within = refl
length-reduced (term ∷ terms) quotient offset text within =
    let part = chunk (offset + term) (length text) quotient in
    let first : term + (offset + length text) ≤ length quotient = within 0 0 (omega arith) in
    let long : length part ≡ length text = length-chunk (offset + term) (length text) quotient (omega arith) in
    let same : length (zip2 bit_xor text part) ≡ length text = length-zip2 bit_xor text part (sym long) in
    length-reduced terms quotient offset (zip2 bit_xor text part) (subst (λ n. Within terms (offset + n) (length quotient)) (sym same) (later term terms _ _ within))
    ∙ same

-- what is left depends on no bytes further on
chunk-front : (k n i : ℕ) (bytes : List ℕ) → k + n ≤ i → i ≤ length bytes → chunk k n (take i bytes) ≡ chunk k n bytes
chunk-front k n i bytes before fits =
    let front = take i bytes in
    let long : length front ≡ i = length-take-le i bytes fits in
    let inside : n ≤ length (drop k front) = omega (arith, length-drop k front) in
    sym (ap (chunk k n) (sym (take-append-drop i bytes)) ∙ ap (take n) (drop-append-le k front (drop i bytes) (omega arith))
    ∙ take-append-le n (drop k front) (drop i bytes) inside)

pub reduced-front : (terms bytes : List ℕ) (offset : ℕ) (text : List ℕ) (i : ℕ) → Within terms (offset + length text) i → i ≤ length bytes
    → reduced terms (take i bytes) offset text ≡ reduced terms bytes offset text
unfolding reduced
reduced-front [] bytes offset text i within fits = refl
reduced-front (term ∷ terms) bytes offset text i within fits =
    let part = chunk (offset + term) (length text) bytes in
    let first : term + (offset + length text) ≤ i = within 0 0 (omega arith) in
    let kept : chunk (offset + term) (length text) (take i bytes) ≡ part = chunk-front (offset + term) (length text) i bytes (omega arith) fits in
    let long : length part ≡ length text = length-chunk (offset + term) (length text) bytes (omega arith) in
    let same : length (zip2 bit_xor text part) ≡ length text = length-zip2 bit_xor text part (sym long) in
    ap (λ p. reduced terms (take i bytes) offset (zip2 bit_xor text p)) kept
    ∙ reduced-front terms bytes offset (zip2 bit_xor text part) i
    (subst (λ n. Within terms (offset + n) i) (sym same) (later term terms _ _ within)) fits

-- the terms are lower than the degree
pub low_term : (k d : ℕ) → k < 5 → get_or TERMS k d ≤ 143
low_term zero d lt = omega arith
low_term (suc zero) d lt = omega arith
low_term (suc (suc zero)) d lt = omega arith
low_term (suc (suc (suc zero))) d lt = omega arith
low_term (suc (suc (suc (suc zero)))) d lt = omega arith
low_term (suc (suc (suc (suc (suc k))))) d lt = absurd (omega arith)

pub terms_within : (far long : ℕ) → 143 + far ≤ long → Within TERMS far long
terms_within far long fits = λ k d lt. let low = low_term k d lt in omega arith

-- the lanes of a vector are bytes
pub below : (lanes : List ℕ) (k d : ℕ) → k < length lanes → Each1 (Fits w8) lanes → get_or lanes k d < 256
below lanes k d lt fit = (Each1-get_or (Fits w8) lanes k d lt fit).fits

-- one block more is divided
put_more : (i : ℕ) (bytes a b : List ℕ) → i + length a + length b ≤ length bytes → put_chunk (i + length a) (put_chunk i bytes a) b ≡ put_chunk i bytes (a ++ b)
put_more i bytes a b fits =
    let once = put_chunk i bytes a in
    let room : length once ≡ length bytes = length-put_chunk i bytes a in
    let front : take (i + length a) once ≡ take i bytes ++ a = take_more_put_chunk i bytes a (i + length a) refl (omega arith) in
    let past : drop (length b) (drop (i + length a) once) ≡ drop (length (a ++ b)) (drop i bytes) =
    ap (λ l. drop (length b) (drop (i + length a) l)) (put_chunk_is i bytes a (omega arith) ∙ sym (append_assoc (take i bytes) a (drop (length a) (drop i bytes))))
    ∙ ap (drop (length b)) (drop_at (take i bytes ++ a) (drop (length a) (drop i bytes)) (i + length a)
    (length-append (take i bytes) a ∙ ap (λ n. n + length a) (length-take-le i bytes (omega arith))))
    ∙ drop-drop (length b) (length a) (drop i bytes) ∙ ap (λ n. drop n (drop i bytes)) (sym (length-append a b)) in
    put_chunk_is (i + length a) once b (omega arith) ∙ ap₂ (λ x y. x ++ (b ++ y)) front past
    ∙ append_assoc (take i bytes) a (b ++ drop (length (a ++ b)) (drop i bytes)) ∙ ap (λ l. take i bytes ++ l) (sym (append_assoc a b (drop (length (a ++ b)) (drop i bytes))))
    ∙ sym (put_chunk_is i bytes (a ++ b) (omega (arith, length-append a b)))

module _ (old bytes done block : List ℕ) (at : ℕ) (far : length done ≡ at) (wide : length block ≡ 16) (room : 266 + at + 16 ≤ length bytes) where
  abbrev pub next_of : List ℕ
  next_of = reduced TERMS bytes at block

  abbrev pub after_next : List ℕ
  after_next = put_chunk (266 + at) bytes next_of

  next_long : length next_of ≡ 16
  next_long = length-reduced TERMS bytes at block (terms_within (at + length block) (length bytes) (omega arith)) ∙ wide

  more_quotient : chunk 266 (at + 16) after_next ≡ chunk 266 at bytes ++ next_of
  more_quotient =
      let long = next_long in
      sym (drop-take 266 (at + 16) after_next)
      ∙ ap (drop 266) (take_more_put_chunk (266 + at) bytes next_of (266 + (at + 16)) (omega arith) (omega arith))
      ∙ drop-append-le 266 (take (266 + at) bytes) next_of (omega (arith, length-take-le (266 + at) bytes (omega arith)))
      ∙ ap (λ l. l ++ next_of) (drop-take 266 at bytes)

  pub divides_next : chunk 266 at bytes ≡ reduced TERMS bytes 0 done → chunk 266 (at + 16) after_next ≡ reduced TERMS after_next 0 (done ++ block)
  divides_next is =
      let long = next_long in
      let both : length (done ++ block) ≡ at + 16 = length-append done block ∙ ap₂ (λ x y. x + y) far wide in
      let front : take (266 + at) after_next ≡ take (266 + at) bytes =
      ap (take (266 + at)) (put_chunk_is (266 + at) bytes next_of (omega arith))
      ∙ take_at (take (266 + at) bytes) (next_of ++ drop (length next_of) (drop (266 + at) bytes)) (266 + at) (length-take-le (266 + at) bytes (omega arith)) in
      let room_after : length after_next ≡ length bytes = length-put_chunk (266 + at) bytes next_of in
      let within = terms_within (0 + length (done ++ block)) (266 + at) (omega arith) in
      more_quotient ∙ ap₂ (λ x n. x ++ reduced TERMS bytes n block) is (let start : at ≡ 0 + length done = omega arith in start)
      ∙ sym (reduced-append TERMS bytes 0 done block (terms_within (0 + (length done + length block)) (length bytes) (omega arith)))
      ∙ sym (reduced-front TERMS bytes 0 (done ++ block) (266 + at) within (omega arith))
      ∙ ap (λ l. reduced TERMS l 0 (done ++ block)) (sym front)
      ∙ reduced-front TERMS after_next 0 (done ++ block) (266 + at) within (omega arith)

  pub small_next : All (λ byte. byte < 256) (chunk 266 at bytes) → All (λ byte. byte < 256) next_of → All (λ byte. byte < 256) (chunk 266 (at + 16) after_next)
  small_next before next = subst (All (λ byte. byte < 256)) (sym more_quotient) (All-append (λ byte. byte < 256) (chunk 266 at bytes) next_of before next)

  pub keeps_others : 266 + at + 16 ≤ length old → bytes ≡ put_chunk 266 old (chunk 266 at bytes) → after_next ≡ put_chunk 266 old (chunk 266 (at + 16) after_next)
  keeps_others wide_old is =
      let q = chunk 266 at bytes in
      let long : length q ≡ at = length-chunk 266 at bytes (omega arith) in
      let next = next_long in
      ap₂ (λ n l. put_chunk (266 + n) l next_of) (sym long) is ∙ put_more 266 old q next_of (omega arith)
      ∙ ap (put_chunk 266 old) (sym more_quotient)

-- a text of blocks
pub crc_register-concat : (register : ℕ) (blocks : List (List ℕ)) → fold crc_register register blocks ≡ crc_register register (concat blocks)
unfolding crc_register
crc_register-concat register [] = refl
crc_register-concat register (block ∷ blocks) =
    crc_register-concat (crc_register register block) blocks ∙ sym (crc_register-append register block (concat blocks))

-- ---- a text that was divided

-- the register and zeros, as many bytes as the degree
pub in_front : ℕ → List ℕ
in_front register = to_le_bytes w32 register ++ replicate 262 0

length-in_front : (register : ℕ) → length (in_front register) ≡ 266
unfolding in_front
length-in_front register = length-append (to_le_bytes w32 register) (replicate 262 0)

-- the front of a quotient of no text, and what is after it
front_of : (register : ℕ) → take 266 (to_le_bytes w32 register ++ replicate 4870 0) ≡ in_front register
unfolding in_front
front_of register =
    take-append-add (to_le_bytes w32 register) (replicate 4870 0) 262 ∙ ap (λ l. to_le_bytes w32 register ++ l) (take-replicate 262 4870 0 (omega arith))

rest_of : (register : ℕ) → drop 266 (to_le_bytes w32 register ++ replicate 4870 0) ≡ replicate 4608 0
rest_of register = drop-append-add (to_le_bytes w32 register) (replicate 4870 0) 262 ∙ drop-replicate 262 4870 0

-- they leave what as many zero bytes after the register do
crc_register-in_front : (register : ℕ) → register < 2 ^ 32 → crc_register 0 (in_front register) ≡ crc_zeros 266 register
unfolding in_front
crc_register-in_front register fits =
    crc_register-append 0 (to_le_bytes w32 register) (replicate 262 0) ∙ crc_register-zeros (crc_register 0 (to_le_bytes w32 register)) 262
    ∙ crc_zeros-le_bytes 262 register fits

-- what a later term takes off: the quotient between zeros
later_term : (register term : ℕ) (quotient : List ℕ) (after : ℕ) → 4 ≤ term → term ≤ 266 → 266 ≤ after
    → crc_register 0 (chunk term (length quotient + after) (in_front register ++ (quotient ++ replicate after 0)))
    ≡ crc_zeros (after - 266 + term) (crc_register 0 quotient)
unfolding in_front
later_term register term quotient after some few long =
    let bytes = to_le_bytes w32 register in
    let padded = quotient ++ replicate after 0 in
    let front = 266 - term in
    let back = after - 266 + term in
    let in_bytes : 4 + (term - 4) ≡ term = omega arith in
    let dropped : drop term (bytes ++ replicate 262 0) ≡ replicate front 0 =
    ap (λ n. drop n (bytes ++ replicate 262 0)) (sym in_bytes) ∙ drop-append-add bytes (replicate 262 0) (term - 4)
    ∙ drop-replicate (term - 4) 262 0 ∙ (let left : 262 - (term - 4) ≡ front = omega arith in ap (λ n. replicate n 0) left) in
    let cut : drop term (in_front register ++ padded) ≡ replicate front 0 ++ padded =
    drop-append-le term (in_front register) padded (omega (arith, length-in_front register)) ∙ ap (λ l. l ++ padded) dropped in
    let blank : List ℕ = replicate front 0 in
    let count : length quotient + after ≡ length blank + (length quotient + back) = omega (arith, length-replicate {A = ℕ} front 0) in
    let taken : take (length quotient + after) (blank ++ padded) ≡ blank ++ (quotient ++ replicate back 0) =
    ap (λ n. take n (blank ++ padded)) count ∙ take-append-add blank padded (length quotient + back)
    ∙ ap (λ l. blank ++ l) (take-append-add quotient (replicate after 0) back
    ∙ ap (λ l. quotient ++ l) (take-replicate back after 0 (omega arith))) in
    ap (crc_register 0) (ap (take (length quotient + after)) cut ∙ taken) ∙ crc_register-between front back quotient

-- what the term takes off that is the lowest: the register is in it, too
first_term : (register : ℕ) (quotient : List ℕ) (after : ℕ) → register < 2 ^ 32 → 266 ≤ after
    → crc_register 0 (chunk 0 (length quotient + after) (in_front register ++ (quotient ++ replicate after 0)))
    ≡ bit_xor (crc_zeros (length quotient + after) register) (crc_zeros (after - 266) (crc_register 0 quotient))
first_term register quotient after fits long =
    let front = in_front register in
    let padded = quotient ++ replicate after 0 in
    let back = after - 266 in
    let many = length quotient in
    let own = crc_register 0 quotient in
    let read = crc_register 0 front in
    let count : many + after ≡ length front + (many + back) = omega (arith, length-in_front register) in
    let taken : take (many + after) (front ++ padded) ≡ front ++ (quotient ++ replicate back 0) =
    ap (λ n. take n (front ++ padded)) count ∙ take-append-add front padded (many + back)
    ∙ ap (λ l. front ++ l) (take-append-add quotient (replicate after 0) back ∙ ap (λ l. quotient ++ l) (take-replicate back after 0 (omega arith))) in
    let zeros : crc_zeros back (crc_zeros many read) ≡ crc_zeros (many + after) register =
    ap (λ r. crc_zeros back (crc_zeros many r)) (crc_register-in_front register fits)
    ∙ ap (crc_zeros back) (sym (crc_zeros-add 266 many register)) ∙ sym (crc_zeros-add (266 + many) back register)
    ∙ (let sum : 266 + many + back ≡ many + after = omega arith in ap (λ n. crc_zeros n register) sum) in
    ap (crc_register 0) taken ∙ crc_register-append 0 front (quotient ++ replicate back 0)
    ∙ crc_register-append read quotient (replicate back 0) ∙ crc_register-zeros (crc_register read quotient) back
    ∙ ap (crc_zeros back) (crc_register-apart read quotient) ∙ crc_zeros-xor back (crc_zeros many read) own
    ∙ ap (λ r. bit_xor r (crc_zeros back own)) zeros

-- what all of them take off
taken_off : (register : ℕ) (quotient : List ℕ) (after : ℕ) → register < 2 ^ 32 → All (λ byte. byte < 256) quotient → 266 ≤ after
    → sum_over (λ term. crc_register 0 (chunk (0 + term) (length quotient + after) (in_front register ++ (quotient ++ replicate after 0)))) TERMS
    ≡ bit_xor (crc_zeros (length quotient + after) register) (crc_zeros after (crc_register 0 quotient))
taken_off register quotient after fits bytes long =
    let own = crc_register 0 quotient in
    let back = after - 266 in
    let at = λ (term : ℕ) (some : 4 ≤ term) (few : term ≤ 266). later_term register term quotient after some few long in
    let moved : sum_over (λ term. crc_zeros (back + term) own) TERMS ≡ crc_zeros after own =
    sum_over-same (λ term. crc_zeros (back + term) own) (λ term. crc_zeros back (crc_zeros term own)) TERMS
    (λ term. (let order : back + term ≡ term + back = omega arith in ap (λ n. crc_zeros n own) order) ∙ crc_zeros-add term back own)
    ∙ sum_over-zeros back (λ term. crc_zeros term own) TERMS
    ∙ ap (crc_zeros back) (sym (vanishes own (crc_register-fits 0 quotient (omega arith) bytes)))
    ∙ sym (crc_zeros-add 266 back own) ∙ (let sum : 266 + back ≡ after = omega arith in ap (λ n. crc_zeros n own) sum) in
    let lowest = crc_zeros (length quotient + after) register in
    let none : back + 0 ≡ back = omega arith in
    ap₂ bit_xor (first_term register quotient after fits long ∙ ap (λ n. bit_xor lowest (crc_zeros n own)) (sym none))
    (ap₂ bit_xor (at 71 (omega arith) (omega arith)) (ap₂ bit_xor (at 88 (omega arith) (omega arith))
    (ap₂ bit_xor (at 121 (omega arith) (omega arith)) (ap₂ bit_xor (at 143 (omega arith) (omega arith)) refl))))
    ∙ xor_assoc lowest (crc_zeros (back + 0) own) _ ∙ ap (bit_xor lowest) moved

-- both sides have it
xor_cancel : (a x y : ℕ) → bit_xor a x ≡ bit_xor a y → x ≡ y
xor_cancel a x y same =
    let once = λ (z : ℕ). sym (xor_assoc a a z) ∙ ap (λ zero. bit_xor zero z) (xor_self a) ∙ xor_zero_l z in
    sym (once x) ∙ ap (bit_xor a) same ∙ once y

-- the register after a text is that after what is left of it
pub divided : (register : ℕ) (text quotient left whole : List ℕ) → register < 2 ^ 32 → All (λ byte. byte < 256) quotient
    → whole ≡ in_front register ++ (quotient ++ replicate (length left) 0) → 266 ≤ length left → length text ≡ length quotient + length left
    → quotient ++ left ≡ reduced TERMS whole 0 text → crc_register 0 left ≡ crc_register register text
divided register text quotient left whole fits bytes is long count all =
    let after = length left in
    let many = length text in
    let own = crc_zeros after (crc_register 0 quotient) in
    let before = crc_zeros many register in
    let room : length whole ≡ 266 + many = ap length is ∙ length-append (in_front register) (quotient ++ replicate after 0)
    ∙ ap₂ (λ x y. x + y) (length-in_front register) (length-append quotient (replicate after 0) ∙ ap (λ n. length quotient + n) (length-replicate after 0) ∙ sym count) in
    let off : sum_over (λ term. crc_register 0 (chunk (0 + term) many whole)) TERMS ≡ bit_xor before own =
    ap₂ (λ n bytes. sum_over (λ term. crc_register 0 (chunk (0 + term) n bytes)) TERMS) count is ∙ taken_off register quotient after fits bytes long
    ∙ ap (λ n. bit_xor (crc_zeros n register) own) (sym count) in
    let sides : bit_xor own (crc_register 0 left) ≡ bit_xor (crc_register 0 text) (bit_xor before own) =
    sym (crc_register-append 0 quotient left ∙ crc_register-apart (crc_register 0 quotient) left) ∙ ap (crc_register 0) all
    ∙ crc_register-reduced TERMS whole 0 text (terms_within (0 + many) (length whole) (omega arith)) ∙ ap (bit_xor (crc_register 0 text)) off in
    let order : bit_xor (crc_register 0 text) (bit_xor before own) ≡ bit_xor own (bit_xor before (crc_register 0 text)) =
    sym (xor_assoc (crc_register 0 text) before own) ∙ xor_comm (bit_xor (crc_register 0 text) before) own
    ∙ ap (bit_xor own) (xor_comm (crc_register 0 text) before) in
    xor_cancel own (crc_register 0 left) (bit_xor before (crc_register 0 text)) (sides ∙ order) ∙ sym (crc_register-apart register text)

-- ---- as a body writes it

-- a part that is written at the front of what is from an offset on
pub put_rest : (at rest : ℕ) (bytes next : List ℕ) → at + rest ≡ length bytes → length next ≤ rest
    → put_mid at rest bytes (put_chunk 0 (mid_of at rest bytes) next) ≡ put_chunk at bytes next
put_rest at rest bytes next whole fits =
    let tail = drop at bytes in
    let long : length tail ≡ rest = omega (arith, length-drop at bytes) in
    let all : take rest tail ≡ tail = take_all rest tail (omega arith) in
    let none : drop rest tail ≡ [] = drop_all rest tail (omega arith) in
    ap₂ (λ part past. take at bytes ++ (put_chunk 0 part next ++ past)) all none
    ∙ ap (λ l. take at bytes ++ l) (append-nil (put_chunk 0 tail next) ∙ put_chunk_is 0 tail next (omega arith))
    ∙ sym (put_chunk_is at bytes next (omega arith))

-- none is written
pub put_chunk_none : (at : ℕ) (bytes : List ℕ) → put_chunk at bytes [] ≡ bytes
put_chunk_none at [] = refl
put_chunk_none zero (byte ∷ bytes) = refl
put_chunk_none (suc at) (byte ∷ bytes) = ap (λ l. byte ∷ l) (put_chunk_none at bytes)

-- nothing is left of an empty text
pub reduced-none : (terms quotient : List ℕ) (offset : ℕ) → reduced terms quotient offset [] ≡ []
unfolding reduced
reduced-none [] quotient offset = refl
reduced-none (term ∷ terms) quotient offset = reduced-none terms quotient offset

-- one block more
pub concat-more : (blocks : List (List ℕ)) (index : ℕ) → index < length blocks → concat (take (index + 1) blocks) ≡ concat (take index blocks) ++ get_or blocks index []
concat-more blocks index lt =
    ap concat (take_more blocks index [] lt) ∙ concat-append (take index blocks) (get_or blocks index [] ∷ [])
    ∙ ap (λ l. concat (take index blocks) ++ l) (append-nil (get_or blocks index []))

-- blocks of sixteen bytes
length-concat : (blocks : List (List ℕ)) → ((i : ℕ) → i < length blocks → length (get_or blocks i []) ≡ 16) → length (concat blocks) ≡ 16 * length blocks
length-concat [] wide = refl
length-concat (block ∷ blocks) wide =
    let first : length block ≡ 16 = wide 0 (omega arith) in
    let rest : length (concat blocks) ≡ 16 * length blocks = length-concat blocks (λ i lt. wide (suc i) (omega arith)) in
    length-append block (concat blocks) ∙ omega (arith, first, rest)

-- blocks of which some are divided
module _ (register : ℕ) (blocks : List (List ℕ)) (many : ℕ) (fresh bytes : List ℕ) (fits : register < 2 ^ 32)
    (wide : (i : ℕ) → i < length blocks → length (get_or blocks i []) ≡ 16) (count : many + 17 ≡ length blocks) (most : length blocks ≤ 288)
    (fresh_is : fresh ≡ to_le_bytes w32 register ++ replicate 4870 0) where
  abbrev far : ℕ
  far = 16 * many

  abbrev quotient : List ℕ
  quotient = chunk 266 far bytes

  abbrev text : List ℕ
  text = concat blocks

  abbrev left : List ℕ
  left = reduced TERMS bytes far (concat (drop many blocks))

  front_long : length (concat (take many blocks)) ≡ far
  front_long =
      let some : length (take many blocks) ≡ many = length-take-le many blocks (omega arith) in
      length-concat (take many blocks) (λ i lt. ap length (get_or-take many blocks i [] (omega arith)) ∙ wide i (omega arith)) ∙ ap (λ n. 16 * n) some

  back_long : length (concat (drop many blocks)) ≡ 272
  back_long =
      let some : length (drop many blocks) ≡ 17 = omega (arith, length-drop many blocks) in
      length-concat (drop many blocks) (λ i lt. ap length (get_or-drop many blocks i []) ∙ wide (many + i) (omega arith)) ∙ ap (λ n. 16 * n) some

  whole_is : concat (take many blocks) ++ concat (drop many blocks) ≡ text
  whole_is = sym (concat-append (take many blocks) (drop many blocks)) ∙ ap concat (take-append-drop many blocks)

  pub after_divided : bytes ≡ put_chunk 266 fresh quotient → All (λ byte. byte < 256) quotient → quotient ≡ reduced TERMS bytes 0 (concat (take many blocks))
      → crc_register 0 left ≡ fold crc_register register blocks
  after_divided same small is =
      let zeros : List ℕ = replicate 4870 0 in
      let four = to_le_bytes w32 register in
      let room_fresh : length fresh ≡ 4874 = ap length fresh_is ∙ length-append four zeros ∙ ap (λ n. 4 + n) (length-replicate {A = ℕ} 4870 0) in
      let room : length bytes ≡ 4874 = ap length same ∙ length-put_chunk 266 fresh quotient ∙ room_fresh in
      let long : length quotient ≡ far = length-chunk 266 far bytes (omega arith) in
      let front = front_long in
      let back = back_long in
      let left_long : length left ≡ 272 = length-reduced TERMS bytes far (concat (drop many blocks)) (terms_within (far + length (concat (drop many blocks))) (length bytes) (omega arith)) ∙ back in
      let text_long : length text ≡ length quotient + length left = ap length (sym whole_is) ∙ length-append (concat (take many blocks)) (concat (drop many blocks)) ∙ omega arith in
      let ahead : take 266 fresh ≡ in_front register = ap (take 266) fresh_is ∙ front_of register in
      let past : drop (length quotient) (drop 266 fresh) ≡ replicate (4608 - far) 0 =
      ap (λ l. drop (length quotient) (drop 266 l)) fresh_is ∙ ap (drop (length quotient)) (rest_of register) ∙ drop-replicate (length quotient) 4608 0
      ∙ ap (λ n. replicate (4608 - n) 0) long in
      let all : bytes ≡ in_front register ++ (quotient ++ replicate (4608 - far) 0) =
      same ∙ put_chunk_is 266 fresh quotient (omega arith) ∙ ap₂ (λ x y. x ++ (quotient ++ y)) ahead past in
      let end = 266 + length text in
      let cut : take end bytes ≡ in_front register ++ (quotient ++ replicate (length left) 0) =
      ap (take end) all ∙ (let e : end ≡ length (in_front register) + (length quotient + length left) = omega (arith, length-in_front register) in
      ap (λ n. take n (in_front register ++ (quotient ++ replicate (4608 - far) 0))) e)
      ∙ take-append-add (in_front register) (quotient ++ replicate (4608 - far) 0) (length quotient + length left)
      ∙ ap (λ l. in_front register ++ l) (take-append-add quotient (replicate (4608 - far) 0) (length left)
      ∙ ap (λ l. quotient ++ l) (take-replicate (length left) (4608 - far) 0 (omega arith))) in
      let both : quotient ++ left ≡ reduced TERMS bytes 0 text =
      ap₂ (λ x n. x ++ reduced TERMS bytes n (concat (drop many blocks))) is (let start : far ≡ 0 + length (concat (take many blocks)) = omega arith in start)
      ∙ sym (reduced-append TERMS bytes 0 (concat (take many blocks)) (concat (drop many blocks))
      (terms_within (0 + (length (concat (take many blocks)) + length (concat (drop many blocks)))) (length bytes) (omega arith)))
      ∙ ap (reduced TERMS bytes 0) whole_is in
      let ahead_only : reduced TERMS (take end bytes) 0 text ≡ reduced TERMS bytes 0 text =
      reduced-front TERMS bytes 0 text end (terms_within (0 + length text) end (omega arith)) (omega arith) in
      divided register text quotient left (take end bytes) fits small
      cut (omega arith) text_long (both ∙ sym ahead_only)
      ∙ sym (crc_register-concat register blocks)
