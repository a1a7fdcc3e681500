-- Fragments of a log: none is a prefix of another, and what the bytes of a header say.
use Rattle.std.proofs.Common.{◌≡◌, ◌≤◌, List, [], ◌∷◌, ◌++◌, length, refl, sym, ◌∙◌, ap, arith, append_assoc, ℕ, ◌+◌, ◌-◌, ◌/◌, ◌%◌, ◌<◌, Bool, true, false, if◌then◌else◌, nat_lt, length-append, ◌≢◌, ◌*◌, replicate}
use Rattle.std.proofs.lemmas.List.{append_cancel_left}
use Rattle.std.proofs.lemmas.Bool.{lt-ltb, le-ltb}
use Rattle.leveldb_base.specs.Varint.{little}
use Rattle.leveldb_base.proofs.VarintLemmas.{apart}
use Rattle.leveldb_mem.specs.Log.{filler, room, Fragment, checksum, IsChecksum, fragment_bytes, IsFragment, IsDamagedFragment, fragment_of, NoFragment}

-- ---- texts that begin with the same bytes

module _ {A : Type 0} where
  pub same_head : {a b : A} {x y : List A} → a ∷ x ≡ b ∷ y → a ≡ b
  same_head e = cc

  pub same_tail : {a b : A} {x y : List A} → a ∷ x ≡ b ∷ y → x ≡ y
  same_tail e = cc

  -- a text that is a prefix of another
  pub in_front : (a b c x y : List A) → a ≡ b ++ c → a ++ x ≡ y → b ++ (c ++ x) ≡ y
  in_front a b c x y is e = sym (append_assoc b c x) ∙ ap (λ z. z ++ x) (sym is) ∙ e

  -- a front of a text that begins a longer one
  pub split : (whole more before x : List A) → length before ≤ length whole → whole ++ more ≡ before ++ x → (rest : List A) × (whole ≡ before ++ rest) × (rest ++ more ≡ x)
  split whole more [] x few e = (whole, refl, e)
  split [] more (b ∷ before) x few e = absurd (omega arith)
  split (c ∷ whole) more (b ∷ before) x few e =
      let others = split whole more before x (omega arith) (same_tail e) in
      (others.0, ap (λ z. z ∷ whole) (same_head e) ∙ ap (λ z. b ∷ z) others.1, others.2)

-- ---- one fragment begins no other

pub length-checksum : (fragment : Fragment) → length (checksum fragment) ≡ 4
unfolding checksum
length-checksum fragment = refl

-- what is taken as a checksum has four bytes
pub length-sum : (checked : Bool) (fragment : Fragment) (sum : List ℕ) → IsChecksum checked fragment sum → length sum ≡ 4
length-sum true fragment sum is = ap length is ∙ length-checksum fragment
length-sum false fragment sum is = is

-- a header has seven bytes
pub length-fragment_bytes : (sum : List ℕ) (fragment : Fragment) → length sum ≡ 4 → length (fragment_bytes sum fragment) ≡ 7 + length fragment.part
unfolding fragment_bytes
length-fragment_bytes sum fragment four =
    let whole = length-append sum (little 2 (length fragment.part) ++ fragment.type ∷ fragment.part) in
    omega arith

same_number : (m n : ℕ) → m < 65536 → n < 65536 → m % 256 ≡ n % 256 → m / 256 % 256 ≡ n / 256 % 256 → m ≡ n
same_number m n small_m small_n low high = omega arith

-- the bytes of fragments that are short enough for their length's two bytes are theirs alone
pub same_bytes : (these those x y : List ℕ) (f g : Fragment) → length these ≡ 4 → length those ≡ 4 → length f.part < 65536 → length g.part < 65536
    → fragment_bytes these f ++ x ≡ fragment_bytes those g ++ y → (these ≡ those) × (f ≡ g) × (x ≡ y)
unfolding fragment_bytes
same_bytes these those x y f g four_f four_g small_f small_g e =
    let spread : (sum x : List ℕ) (f : Fragment) → fragment_bytes sum f ++ x ≡ sum ++ (little 2 (length f.part) ++ f.type ∷ (f.part ++ x)) =
    λ sum x f. append_assoc sum (little 2 (length f.part) ++ f.type ∷ f.part) x in
    let header = apart these those (little 2 (length f.part) ++ f.type ∷ (f.part ++ x)) (little 2 (length g.part) ++ g.type ∷ (g.part ++ y)) (four_f ∙ sym four_g) (sym (spread these x f) ∙ e ∙ spread those y g) in
    let lengths = same_number (length f.part) (length g.part) small_f small_g (same_head header.1) (same_head (same_tail header.1)) in
    let types = same_head (same_tail (same_tail header.1)) in
    let parts = apart f.part g.part x y lengths (same_tail (same_tail (same_tail header.1))) in
    (header.0, ap (λ type. fragment_of type f.part) types ∙ ap (fragment_of g.type) parts.0, parts.1)

-- a fragment with the right checksum is one where checksums aren't asked for
abbrev pub unchecked : (checked : Bool) (size : ℕ) (fragment : Fragment) (offset : ℕ) (bytes : List ℕ) → IsFragment checked size fragment offset bytes → IsFragment false size fragment offset bytes
unchecked checked size fragment offset bytes is = record { sum = is.sum; within = is.within; summed = length-sum checked fragment is.sum is.summed; bytes_are = is.bytes_are }

-- how long a fragment is
pub length-fragment : (checked : Bool) (size : ℕ) (f : Fragment) (offset : ℕ) (a : List ℕ) → IsFragment checked size f offset a → length a ≡ length (filler size offset) + (7 + length f.part)
length-fragment checked size f offset a is =
    let header = length-fragment_bytes is.sum f (length-sum checked f is.sum is.summed) in
    ap length is.bytes_are ∙ length-append (filler size offset) (fragment_bytes is.sum f) ∙ ap (λ n. length (filler size offset) + n) header

module _ (checked : Bool) (size : ℕ) (fits : size ≤ 32768) where
  pub short : (offset : ℕ) (part : List ℕ) → length part ≤ room size offset → length part < 65536
  short offset part h =
      elim (nat_lt (size - offset) 7) as (λ t. length part ≤ (if t then size else size - offset) - 7 → length part < 65536) [
        | true ↦ λ k. omega arith
        | false ↦ λ k. omega arith
      ] h

  -- two fragments at the front of one text are the same: their checksums, themselves, and what
  -- follows
  pub alike : (offset : ℕ) (f g : Fragment) (a b x y : List ℕ) (is_f : IsFragment checked size f offset a) (is_g : IsFragment checked size g offset b)
      → a ++ x ≡ b ++ y → (is_f.sum ≡ is_g.sum) × (f ≡ g) × (x ≡ y)
  alike offset f g a b x y is_f is_g e =
      let before = filler size offset in
      let these = fragment_bytes is_f.sum f in
      let those = fragment_bytes is_g.sum g in
      let whole : (before ++ these) ++ x ≡ (before ++ those) ++ y = ap (λ z. z ++ x) (sym is_f.bytes_are) ∙ e ∙ ap (λ z. z ++ y) is_g.bytes_are in
      same_bytes is_f.sum is_g.sum x y f g (length-sum checked f is_f.sum is_f.summed) (length-sum checked g is_g.sum is_g.summed)
      (short offset f.part is_f.within) (short offset g.part is_g.within)
      (append_cancel_left before (these ++ x) (those ++ y) (sym (append_assoc before these x) ∙ whole ∙ append_assoc before those y))

  -- one fragment begins no other
  pub one_fragment : (offset : ℕ) (f g : Fragment) (a b x y : List ℕ) → IsFragment checked size f offset a → IsFragment checked size g offset b
      → a ++ x ≡ b ++ y → (f ≡ g) × (a ≡ b) × (x ≡ y)
  one_fragment offset f g a b x y is_f is_g e =
      let same = alike offset f g a b x y is_f is_g e in
      let bytes = is_f.bytes_are ∙ ap (λ z. filler size offset ++ fragment_bytes z f) same.0 ∙ ap (λ z. filler size offset ++ fragment_bytes is_g.sum z) same.1 ∙ sym is_g.bytes_are in
      (same.1, bytes, same.2)

-- a fragment with the right checksum is determined by its type and its data
pub same_fragment : (size : ℕ) (f : Fragment) (offset : ℕ) (a b : List ℕ) → IsFragment true size f offset a → IsFragment true size f offset b → a ≡ b
same_fragment size f offset a b is_a is_b = is_a.bytes_are ∙ ap (λ z. filler size offset ++ fragment_bytes z f) (is_a.summed ∙ sym is_b.summed) ∙ sym is_b.bytes_are

-- ---- what the seven bytes of a header say of the fragment that is there, if one is

-- where a header fits there is no filler, and what is left of the block is for the data
pub filler-fits : (size offset : ℕ) → 7 ≤ size - offset → filler size offset ≡ []
filler-fits size offset wide = ap (λ t. elim t as (λ b. List ℕ) [ true ↦ replicate (size - offset) 0 | false ↦ [] ]) (le-ltb (size - offset) 7 wide)

pub room-fits : (size offset : ℕ) → 7 ≤ size - offset → room size offset ≡ size - offset - 7
room-fits size offset wide = ap (λ t. (if t then size else size - offset) - 7) (le-ltb (size - offset) 7 wide)

-- where none fits there are zeros, and the next block is for the data
pub filler-ends : (size offset : ℕ) → size - offset < 7 → filler size offset ≡ replicate (size - offset) 0
filler-ends size offset narrow = ap (λ t. elim t as (λ b. List ℕ) [ true ↦ replicate (size - offset) 0 | false ↦ [] ]) (lt-ltb (size - offset) 7 narrow)

pub room-ends : (size offset : ℕ) → size - offset < 7 → room size offset ≡ size - 7
room-ends size offset narrow = ap (λ t. (if t then size else size - offset) - 7) (lt-ltb (size - offset) 7 narrow)

-- What the seven bytes after the filler say of a fragment that is there: its checksum, its length
-- and its type; its data follows.
pub header_says : (checked : Bool) (size : ℕ) → size ≤ 32768 → (f : Fragment) (offset : ℕ) (front more : List ℕ) (is : IsFragment checked size f offset front) (sum rest : List ℕ) (low high type : ℕ)
    → length sum ≡ 4 → front ++ more ≡ filler size offset ++ (sum ++ low ∷ high ∷ type ∷ rest) → (is.sum ≡ sum) × (length f.part ≡ low + 256 * high) × (f.type ≡ type) × (f.part ++ more ≡ rest)
unfolding fragment_bytes
header_says checked size fits f offset front more is sum rest low high type four e =
    let before = filler size offset in
    let header = little 2 (length f.part) ++ f.type ∷ f.part in
    let whole : (before ++ (is.sum ++ header)) ++ more ≡ before ++ (sum ++ low ∷ high ∷ type ∷ rest) = ap (λ z. z ++ more) (sym is.bytes_are) ∙ e in
    let after_filler = append_cancel_left before ((is.sum ++ header) ++ more) (sum ++ low ∷ high ∷ type ∷ rest) (sym (append_assoc before (is.sum ++ header) more) ∙ whole) in
    let parts = apart is.sum sum (header ++ more) (low ∷ high ∷ type ∷ rest) (length-sum checked f is.sum is.summed ∙ sym four) (sym (append_assoc is.sum header more) ∙ after_filler) in
    let low_is : length f.part % 256 ≡ low = same_head parts.1 in
    let high_is : length f.part / 256 % 256 ≡ high = same_head (same_tail parts.1) in
    let few = short checked size fits offset f.part is.within in
    (parts.0, omega arith, same_head (same_tail (same_tail parts.1)), same_tail (same_tail (same_tail parts.1)))

-- where there are fewer bytes than filler and a header take, there is no fragment
pub none_short : (checked : Bool) (size offset : ℕ) (bytes : List ℕ) → length bytes < length (filler size offset) + 7 → NoFragment checked size offset bytes
none_short checked size offset bytes few f front more e is =
    let whole = ap length e in
    let both = length-append front more in
    let long = length-fragment checked size f offset front is in
    omega arith

-- nor where other bytes are there than the filler
pub none_unfilled : (checked : Bool) (size offset : ℕ) (before rest : List ℕ) → length before ≡ length (filler size offset) → before ≢ filler size offset → NoFragment checked size offset (before ++ rest)
none_unfilled checked size offset before rest count other f front more e is =
    let there = e ∙ ap (λ z. z ++ more) is.bytes_are ∙ append_assoc (filler size offset) (fragment_bytes is.sum f) more in
    other (apart before (filler size offset) rest (fragment_bytes is.sum f ++ more) count there).0

module _ (size offset : ℕ) (sum part : List ℕ) (low high type : ℕ) where
  -- filler, a header and data
  abbrev pub headed : List ℕ
  headed = filler size offset ++ (sum ++ low ∷ high ∷ type ∷ part)

  headed_bytes : length part ≡ low + 256 * high → low < 256 → high < 256 → headed ≡ filler size offset ++ fragment_bytes sum (fragment_of type part)
  unfolding fragment_bytes
  headed_bytes count low_byte high_byte =
      let low_is : length part % 256 ≡ low = omega arith in
      let high_is : length part / 256 % 256 ≡ high = omega arith in
      ap (λ z. filler size offset ++ (sum ++ z ∷ high ∷ type ∷ part)) (sym low_is) ∙ ap (λ z. filler size offset ++ (sum ++ (length part % 256) ∷ z ∷ type ∷ part)) (sym high_is)

  -- data of the length that the header says, within the block and after a checksum that is taken,
  -- is a fragment
  pub headed_fragment : (checked : Bool) → length part ≡ low + 256 * high → low < 256 → high < 256 → length part ≤ room size offset → IsChecksum checked (fragment_of type part) sum
      → IsFragment checked size (fragment_of type part) offset headed
  headed_fragment checked count low_byte high_byte within summed = record { sum = sum; within = within; summed = summed; bytes_are = headed_bytes count low_byte high_byte }

  -- after another checksum it is damaged
  pub headed_damaged : length sum ≡ 4 → length part ≡ low + 256 * high → low < 256 → high < 256 → length part ≤ room size offset → sum ≢ checksum (fragment_of type part)
      → IsDamagedFragment size (fragment_of type part) offset headed
  headed_damaged four count low_byte high_byte within other = record {
    unchecked = record { sum = sum; within = within; summed = four; bytes_are = headed_bytes count low_byte high_byte };
    wrong = other;
  }

  module _ (checked : Bool) (fits : size ≤ 32768) (four : length sum ≡ 4) where
    -- a fragment past its block is none
    pub none_past_block : room size offset < low + 256 * high → NoFragment checked size offset headed
    none_past_block long f front more e is =
        let tells = header_says checked size fits f offset front more is sum part low high type four (sym e) in
        let count = tells.1 in
        let within = is.within in
        omega arith

    -- nor is one whose data is cut short
    pub none_cut_short : length part < low + 256 * high → NoFragment checked size offset headed
    none_cut_short few f front more e is =
        let tells = header_says checked size fits f offset front more is sum part low high type four (sym e) in
        let count = tells.1 in
        let whole = ap length tells.3 in
        let both = length-append f.part more in
        omega arith
