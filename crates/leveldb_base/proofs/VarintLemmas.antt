-- Each number has one varint, none is a prefix of another, and how long they are.
use Rattle.std.proofs.Common.{◌≡◌, ℕ, zero, suc, ◌+◌, ◌*◌, ◌/◌, ◌%◌, ◌^◌, ◌<◌, ◌≤◌, true, false, nat_lt, List, [], ◌∷◌, ◌++◌, length, take, drop, Option, None, Some, refl, sym, ◌∙◌, ap, arith, append_assoc, length-append, set, ◌≢◌, get_or, subst, inl, inr, length-drop}
use Rattle.std.specs.List.{All, IsSplitAt}
use Rattle.std.proofs.lemmas.List.{append_cancel_left, take-append-drop, length-take-le, take_more_set, drop-set-lt, drop-drop, length-set, take_more, drop_more}
use Rattle.std.proofs.lemmas.List.Elements.{All-nil, All-cons, All-append}
use Rattle.std.proofs.lemmas.Bool.{ltb-true, ltb-false, cases_lt}
use Rattle.std.proofs.Math.Nat.{pow-suc, one-le-pow, pow-succ', div-div-eq-div-mul, div-one, pow-le-pow_right, le-mul_of_pos_right, mul-le-mul_right, mod-eq_of_lt}
use Rattle.leveldb_base.specs.Varint.{IsVarint, varint_within, varint, sized, ReadsVarint, ReadsSized, little}
use Rattle.std.specs.Int.{byte_at, bytes_low_first}
use Rattle.byteorder.specs.Endian.{little_number}
use Rattle.byteorder.specs.Numbers.{little_from-cons}
use Rattle.std.proofs.lemmas.Nat.{pow-add}
use Rattle.leveldb_base.specs.Types.{pair_of}
use Rattle.std.specs.Borrow.{Bor}
use Rattle.std.specs.Prelude.{MatchOption}

-- ---- one encoding

-- fronts of one length of one text are the same
pub apart : (a b x y : List ℕ) → length a ≡ length b → a ++ x ≡ b ++ y → (a ≡ b) × (x ≡ y)
apart [] [] x y l e = (refl, e)
apart [] (c ∷ b) x y l e = absurd (omega (arith, l))
apart (c ∷ a) [] x y l e = absurd (omega (arith, l))
apart (c ∷ a) (d ∷ b) x y l e =
    let head : c ≡ d = cc in
    let tail : a ++ x ≡ b ++ y = cc in
    let rest = apart a b x y (omega (arith, l)) tail in
    (ap (λ z. z ∷ a) head ∙ ap (λ z. d ∷ z) rest.0, rest.1)

-- and so are backs
pub apart_right : (a b x y : List ℕ) → length x ≡ length y → a ++ x ≡ b ++ y → (a ≡ b) × (x ≡ y)
apart_right a b x y l e = apart a b x y (omega (arith, l, length-append a x, length-append b y, ap length e)) e

-- one more byte in front
pub IsVarint-front : (b : ℕ) (bytes : List ℕ) (n high : ℕ) → 128 ≤ b → b < 256 → 0 < high → n + 128 ≡ b + 128 * high → IsVarint bytes high → IsVarint (b ∷ bytes) n
IsVarint-front b [] n high low top some e h = absurd h
IsVarint-front b (c ∷ bytes) n high low top some e h = (low, top, high, some, e, h)

IsVarint-varint_within : (groups n : ℕ) → n ≤ groups → IsVarint (varint_within groups n) n
IsVarint-varint_within zero n h = (omega (arith, h), refl)
IsVarint-varint_within (suc groups) n h =
    elim (nat_lt n 128) as (λ t. nat_lt n 128 ≡ t → IsVarint (elim t [ true ↦ n ∷ [] | false ↦ (n % 128 + 128) ∷ varint_within groups (n / 128) ]) n) [
      | true ↦ λ e. (ltb-true n 128 e, refl)
      | false ↦ λ e. let big : 128 ≤ n = ltb-false n 128 e in
          IsVarint-front (n % 128 + 128) (varint_within groups (n / 128)) n (n / 128) (omega arith) (omega arith) (omega arith) (omega arith)
          (IsVarint-varint_within groups (n / 128) (omega arith))
    ] refl

-- what is written encodes the number
pub IsVarint-varint : (n : ℕ) → IsVarint (varint n) n
unfolding varint
IsVarint-varint n = IsVarint-varint_within n n (omega arith)

-- no encoding is a prefix of another
pub one_varint : (a b x y : List ℕ) (m n : ℕ) → IsVarint a m → IsVarint b n → a ++ x ≡ b ++ y → (a ≡ b) × (m ≡ n)
one_varint [] b x y m n f g e = absurd f
one_varint (c ∷ a) [] x y m n f g e = absurd g
one_varint (c ∷ []) (d ∷ []) x y m n f g e =
    let h : c ≡ d = cc in (ap (λ z. z ∷ []) h, f.1 ∙ h ∙ sym g.1)
one_varint (c ∷ []) (d ∷ d' ∷ b) x y m n f g e = let h : c ≡ d = cc in absurd (omega (arith, h, f.0, g.0))
one_varint (c ∷ c' ∷ a) (d ∷ []) x y m n f g e = let h : c ≡ d = cc in absurd (omega (arith, h, f.0, g.0))
one_varint (c ∷ c' ∷ a) (d ∷ d' ∷ b) x y m n f g e =
    let h : c ≡ d = cc in
    let tail : (c' ∷ a) ++ x ≡ (d' ∷ b) ++ y = cc in
    let r = one_varint (c' ∷ a) (d' ∷ b) x y f.2 g.2 f.5 g.5 tail in
    let p = f.4 in let q = g.4 in let s = r.1 in
    (ap (λ z. z ∷ c' ∷ a) h ∙ ap (λ z. d ∷ z) r.0, omega (arith, h, s, p, q))

-- each number has one encoding
pub one_encoding : (a b : List ℕ) (m n : ℕ) → m ≡ n → IsVarint a m → IsVarint b n → a ≡ b
one_encoding [] b m n e f g = absurd f
one_encoding (c ∷ a) [] m n e f g = absurd g
one_encoding (c ∷ []) (d ∷ []) m n e f g = ap (λ z. z ∷ []) (sym f.1 ∙ e ∙ g.1)
one_encoding (c ∷ []) (d ∷ d' ∷ b) m n e f g = let p = g.4 in absurd (omega (arith, e, f.0, f.1, g.0, p, g.3))
one_encoding (c ∷ c' ∷ a) (d ∷ []) m n e f g = let p = f.4 in absurd (omega (arith, e, g.0, g.1, f.0, p, f.3))
one_encoding (c ∷ c' ∷ a) (d ∷ d' ∷ b) m n e f g =
    let p = f.4 in let q = g.4 in
    let low : c ≡ d = omega (arith, e, p, q, f.0, f.1, g.0, g.1) in
    let high : f.2 ≡ g.2 = omega (arith, e, p, q, f.0, f.1, g.0, g.1) in
    ap (λ z. z ∷ c' ∷ a) low ∙ ap (λ z. d ∷ z) (one_encoding (c' ∷ a) (d' ∷ b) f.2 g.2 high f.5 g.5)

-- what encodes a number is what is written for it
pub varint_only : (bytes : List ℕ) (n : ℕ) → IsVarint bytes n → bytes ≡ varint n
varint_only bytes n f = one_encoding bytes (varint n) n n refl f (IsVarint-varint n)

-- a number at the front of some bytes, and what follows
pub one_number : (m n : ℕ) (x y : List ℕ) → varint m ++ x ≡ varint n ++ y → (m ≡ n) × (x ≡ y)
one_number m n x y e =
    let r = one_varint (varint m) (varint n) x y m n (IsVarint-varint m) (IsVarint-varint n) e in
    (r.1, append_cancel_left (varint n) _ _ (ap (λ z. z ++ x) (sym r.0) ∙ e))

-- a text after its length, and what follows
pub one_sized : (s t x y : List ℕ) → sized s ++ x ≡ sized t ++ y → (s ≡ t) × (x ≡ y)
one_sized s t x y e =
    let n = one_number (length s) (length t) (s ++ x) (t ++ y) (sym (append_assoc (varint (length s)) s x) ∙ e ∙ append_assoc (varint (length t)) t y) in
    apart s t x y n.0 n.1

-- a number below 128 is its own byte
pub varint-small : (n : ℕ) → n < 128 → varint n ≡ n ∷ []
varint-small n h = sym (varint_only (n ∷ []) n (h, refl))

-- the lowest group of a larger number, and the rest
pub varint-large : (n : ℕ) → 128 ≤ n → varint n ≡ (n % 128 + 128) ∷ varint (n / 128)
varint-large n h =
    sym (varint_only ((n % 128 + 128) ∷ varint (n / 128)) n
    (IsVarint-front (n % 128 + 128) (varint (n / 128)) n (n / 128) (omega arith) (omega arith) (omega arith) (omega arith) (IsVarint-varint (n / 128))))

pub length-encoding-pos : (bytes : List ℕ) (n : ℕ) → IsVarint bytes n → 1 ≤ length bytes
length-encoding-pos [] n f = absurd f
length-encoding-pos (b ∷ bytes) n f = omega arith

-- no encoding is empty
pub length-varint-pos : (n : ℕ) → 1 ≤ length (varint n)
length-varint-pos n = length-encoding-pos (varint n) n (IsVarint-varint n)

-- the bytes of a encoding are bytes
All-encoding : (bytes : List ℕ) (n : ℕ) → IsVarint bytes n → All (λ b. b < 256) bytes
All-encoding [] n f = absurd f
All-encoding (b ∷ []) n f = All-cons (λ z. z < 256) b [] (omega (arith, f.0)) (All-nil (λ z. z < 256))
All-encoding (b ∷ c ∷ bytes) n f = All-cons (λ z. z < 256) b (c ∷ bytes) f.1 (All-encoding (c ∷ bytes) f.2 f.5)

pub All-varint : (n : ℕ) → All (λ b. b < 256) (varint n)
All-varint n = All-encoding (varint n) n (IsVarint-varint n)

pub All-sized : (text : List ℕ) → All (λ b. b < 256) text → All (λ b. b < 256) (sized text)
All-sized text h = All-append (λ b. b < 256) (varint (length text)) text (All-varint (length text)) h

length-encoding-le : (groups : ℕ) (bytes : List ℕ) (n : ℕ) → n < 128 ^ groups → 1 ≤ groups → IsVarint bytes n → length bytes ≤ groups
length-encoding-le groups [] n h some f = absurd f
length-encoding-le groups (b ∷ []) n h some f = omega (arith, some)
length-encoding-le zero (b ∷ c ∷ bytes) n h some f = absurd (omega (arith, some))
length-encoding-le (suc zero) (b ∷ c ∷ bytes) n h some f = let p = f.4 in absurd (omega (arith, h, f.0, f.3, p))
length-encoding-le (suc (suc groups)) (b ∷ c ∷ bytes) n h some f =
    let p = f.4 in
    let power = pow-suc 128 (suc groups) in
    let high : f.2 < 128 ^ suc groups = omega (arith, h, f.1, p, power) in
    let rest = length-encoding-le (suc groups) (c ∷ bytes) f.2 high (omega arith) f.5 in
    omega (arith, rest)

pub length-varint-small : (n : ℕ) → n < 128 → length (varint n) ≡ 1
length-varint-small n h = ap length (varint-small n h)

pub length-varint-large : (n : ℕ) → 128 ≤ n → length (varint n) ≡ length (varint (n / 128)) + 1
length-varint-large n h = let e = ap length (varint-large n h) in omega (arith, e)

-- a number below 128 to the power of k has at most k bytes
pub length-varint-le : (groups n : ℕ) → n < 128 ^ groups → 1 ≤ groups → length (varint n) ≤ groups
length-varint-le groups n h some = length-encoding-le groups (varint n) n h some (IsVarint-varint n)

pub length-varint_32 : (n : ℕ) → n < 2 ^ 32 → length (varint n) ≤ 5
length-varint_32 n h = length-varint-le 5 n (omega arith) (omega arith)

pub length-varint_64 : (n : ℕ) → n < 2 ^ 64 → length (varint n) ≤ 10
length-varint_64 n h = length-varint-le 10 n (omega arith) (omega arith)

-- how long encodings are, for tactics
pub ruleset varint_lengths = (length-varint-small, length-varint-large, length-varint-pos, length-varint_32, length-varint_64)

length-encoding-gt : (groups : ℕ) (bytes : List ℕ) (n : ℕ) → 128 ^ groups ≤ n → IsVarint bytes n → groups < length bytes
length-encoding-gt groups [] n h f = absurd f
length-encoding-gt zero (b ∷ bytes) n h f = omega arith
length-encoding-gt (suc groups) (b ∷ []) n h f =
    let power = pow-suc 128 groups in
    let some = one-le-pow groups 128 (omega arith) in
    absurd (omega (arith, h, f.0, f.1, power, some))
length-encoding-gt (suc groups) (b ∷ c ∷ bytes) n h f =
    let p = f.4 in
    let power = pow-suc 128 groups in
    let high : 128 ^ groups ≤ f.2 = omega (arith, h, f.1, p, power) in
    let rest = length-encoding-gt groups (c ∷ bytes) f.2 high f.5 in
    omega (arith, rest)

-- a number from 128 to the power of k on has more than k bytes
pub length-varint-gt : (groups n : ℕ) → 128 ^ groups ≤ n → groups < length (varint n)
length-varint-gt groups n h = length-encoding-gt groups (varint n) n h (IsVarint-varint n)

-- what a read of a number says: the number's encoding is at the front
pub read_number : (bits : ℕ) (bytes : List ℕ) (n used : ℕ) → ReadsVarint bits bytes (Some (n, used))
    → (used ≡ length (varint n)) × (bytes ≡ varint n ++ drop used bytes)
read_number bits bytes n used f =
    let same = varint_only (take used bytes) n f.2 in
    (sym (length-take-le used bytes f.1) ∙ ap length same, sym (take-append-drop used bytes) ∙ ap (λ z. z ++ drop used bytes) same)

-- a number that was written is read
pub read_written : (bits n : ℕ) (rest : List ℕ) (r : Option (ℕ × ℕ)) → n < 2 ^ bits → ReadsVarint bits (varint n ++ rest) r → r ≡ Some (n, length (varint n))
read_written bits n rest None h f = absurd (f n rest h refl)
read_written bits n rest (Some (m, used)) h f =
    let front = read_number bits (varint n ++ rest) m used f in
    let same = one_number n m rest (drop used (varint n ++ rest)) front.1 in
    let number = sym same.0 in
    let size = front.0 ∙ ap (λ z. length (varint z)) number in
    cc

-- a sized text that was written is read
pub read_sized : (text rest : List ℕ) (r : Option (List ℕ × List ℕ)) → length text < 2 ^ 64 → ReadsSized (sized text ++ rest) r → r ≡ Some (text, rest)
read_sized text rest None h f = absurd (f text rest h refl)
read_sized text rest (Some (t, x)) h f =
    let same = one_sized text t rest x f in
    let s = same.0 in let r = same.1 in
    cc

-- ---- bytes to a number and back

-- a byte of a number, by its index
byte_at-pow : (i n : ℕ) → byte_at i n ≡ n / 256 ^ i % 256
byte_at-pow zero n = ap (λ z. z % 256) (sym (div-one n))
byte_at-pow (suc i) n = refl

-- the bytes of a number above its lowest are those of the rest
byte_at-above : (i b n : ℕ) → b < 256 → byte_at (suc i) (b + 256 * n) ≡ byte_at i n
byte_at-above i b n h =
    let rest : (b + 256 * n) / 256 ≡ n = omega arith in
    ap (λ p. (b + 256 * n) / p % 256) (pow-succ' 256 i)
    ∙ ap (λ q. q % 256) (sym (div-div-eq-div-mul (b + 256 * n) 256 (256 ^ i)))
    ∙ ap (λ q. q / 256 ^ i % 256) rest ∙ sym (byte_at-pow i n)

bytes_above : (i width b n : ℕ) → b < 256 → bytes_low_first (suc i) width (b + 256 * n) ≡ bytes_low_first i width n
bytes_above i zero b n h = refl
bytes_above i (suc width) b n h =
    ap (λ z. z ∷ bytes_low_first (suc (suc i)) width (b + 256 * n)) (byte_at-above i b n h)
    ∙ ap (λ z. byte_at i n ∷ z) (bytes_above (suc i) width b n h)

-- the bytes of the number that some bytes make are these bytes
pub little-little_number : (width : ℕ) (bytes : List ℕ) → width ≤ length bytes → All (λ b. b < 256) bytes → little width (little_number width bytes) ≡ take width bytes
little-little_number zero bytes h small = refl
little-little_number (suc width) [] h small = absurd (omega (arith, h))
little-little_number (suc width) (b ∷ bytes) h small =
    let byte : b < 256 = small 0 0 (omega arith) in
    let rest = little-little_number width bytes (omega (arith, h)) (λ k d l. small (suc k) d (omega (arith, l))) in
    let moved = little_from-cons 0 width b bytes in
    let n = little_number width bytes in
    let low : (b + 256 * n) % 256 ≡ b = omega arith in
    ap (λ z. little (suc width) (b + 256 * z)) moved
    ∙ ap (λ z. z ∷ bytes_low_first 1 width (b + 256 * n)) low
    ∙ ap (λ z. b ∷ z) (bytes_above 0 width b n byte ∙ rest)

-- ---- the steps of the loops that write and read varints

-- `used` bytes of the encoding of n are written over the old ones, and the rest of the number is
-- left
pub record Writes (n : ℕ) (old dst : List ℕ) (used rest : ℕ) : Type 0 where
  pub within : used ≤ length dst
  pub front : take used dst ++ varint rest ≡ varint n
  pub behind : drop used dst ≡ drop used old

module _ {n : ℕ} {old dst : List ℕ} {used rest : ℕ} (w : Writes n old dst used rest) where
  -- what is written and what is left are the whole encoding
  writes_length : used + length (varint rest) ≡ length (varint n)
  writes_length =
      let whole = ap length w.front in
      let parts = length-append (take used dst) (varint rest) in
      let size = length-take-le used dst w.within in
      omega (arith, whole, parts, size)

  -- there is room for one more byte
  pub writes_room : length (varint n) ≤ length dst → used < length dst
  writes_room room =
      let whole = writes_length in
      let some = length-varint-pos rest in
      omega (arith, room, whole, some)

  writes_behind : (byte : ℕ) → drop (used + 1) (set dst used byte) ≡ drop (used + 1) old
  writes_behind byte =
      drop-set-lt (used + 1) dst used byte (omega arith) ∙ sym (drop-drop 1 used dst) ∙ ap (drop 1) w.behind ∙ drop-drop 1 used old

  -- a group that others follow
  pub writes_more : length (varint n) ≤ length dst → 128 ≤ rest → Writes n old (set dst used (rest % 128 + 128)) (used + 1) (rest / 128)
  writes_more room large =
      let byte = rest % 128 + 128 in
      let free = writes_room room in
      record {
        within = omega (arith, free, length-set dst used byte);
        front = ap (λ z. z ++ varint (rest / 128)) (take_more_set dst used byte free)
            ∙ append_assoc (take used dst) (byte ∷ []) (varint (rest / 128))
            ∙ ap (λ z. take used dst ++ z) (sym (varint-large rest large)) ∙ w.front;
        behind = writes_behind byte;
      }

  -- the last group
  pub writes_last : length (varint n) ≤ length dst → rest < 128 → (used + 1 ≡ length (varint n)) × (set dst used rest ≡ varint n ++ drop (length (varint n)) old)
  writes_last room small =
      let free = writes_room room in
      let whole = writes_length in
      let one = length-varint-small rest small in
      let size : used + 1 ≡ length (varint n) = omega (arith, whole, one) in
      let front : take (used + 1) (set dst used rest) ≡ varint n =
      take_more_set dst used rest free ∙ ap (λ z. take used dst ++ z) (sym (varint-small rest small)) ∙ w.front in (
        size,
        sym (take-append-drop (used + 1) (set dst used rest))
            ∙ ap (λ z. z ++ drop (used + 1) (set dst used rest)) front
            ∙ ap (λ z. varint n ++ z) (writes_behind rest)
            ∙ ap (λ k. varint n ++ drop k old) size,
      )

-- ---- the steps of the loop that reads varints

-- groups that others follow, and the number that they make
abbrev pub AreGroups : List ℕ → ℕ → Type 0
AreGroups [] n = n ≡ 0
AreGroups (b ∷ front) n = (128 ≤ b) × (b < 256) × (high : ℕ) × (n + 128 ≡ b + 128 * high) × AreGroups front high

AreGroups-lt : (front : List ℕ) (n : ℕ) → AreGroups front n → n < 128 ^ length front
AreGroups-lt [] n f = omega (arith, f)
AreGroups-lt (b ∷ front) n f =
    let number = f.3 in
    let rest = AreGroups-lt front f.2 f.4 in
    let power = pow-suc 128 (length front) in
    omega (arith, f.1, number, rest, power)

-- one more group
AreGroups-append : (front : List ℕ) (n b : ℕ) → AreGroups front n → 128 ≤ b → b < 256 → AreGroups (front ++ b ∷ []) (n + b % 128 * 128 ^ length front)
AreGroups-append [] n b f low top = (low, top, 0, omega (arith, f, low, top), refl)
AreGroups-append (c ∷ front) n b f low top =
    let number = f.3 in
    let power = pow-suc 128 (length front) in
    let rest = AreGroups-append front f.2 b f.4 low top in
    let scaled = ap (λ p. b % 128 * p) power in
    (f.0, f.1, f.2 + b % 128 * 128 ^ length front, omega (arith, number, scaled), rest)

-- the last group
IsVarint-append : (front : List ℕ) (n b : ℕ) → AreGroups front n → b < 128 → (0 < length front → 0 < b) → IsVarint (front ++ b ∷ []) (n + b * 128 ^ length front)
IsVarint-append [] n b f top some = (top, omega (arith, f))
IsVarint-append (c ∷ front) n b f top some =
    let number = f.3 in
    let power = pow-suc 128 (length front) in
    let scaled = ap (λ p. b * p) power in
    let above : 0 < b = some (omega arith) in
    let grown = le-mul_of_pos_right b (one-le-pow (length front) 128 (omega arith)) in
    IsVarint-front c (front ++ b ∷ []) (n + b * 128 ^ suc (length front)) (f.2 + b * 128 ^ length front) f.0 f.1 (omega (arith, above, grown)) (omega (arith, number, scaled))
    (IsVarint-append front f.2 b f.4 top (λ _. above))

-- a encoding that begins with these groups goes on with one of the rest of its number
groups_front : (front bytes y rest : List ℕ) (n m : ℕ) → AreGroups front n → IsVarint bytes m → front ++ y ≡ bytes ++ rest
    → (tail : List ℕ) × (high : ℕ) × IsVarint tail high × (y ≡ tail ++ rest) × (m ≡ n + high * 128 ^ length front) × (0 < length front + m → 0 < high)
groups_front [] bytes y rest n m f g e = (bytes, m, g, e, omega (arith, f), λ h. omega (arith, h))
groups_front (c ∷ front) [] y rest n m f g e = absurd g
groups_front (c ∷ front) (b ∷ []) y rest n m f g e = let h : c ≡ b = cc in absurd (omega (arith, h, f.0, g.0))
groups_front (c ∷ front) (b ∷ b' ∷ bytes) y rest n m f g e =
    let h : c ≡ b = cc in
    let e' : front ++ y ≡ (b' ∷ bytes) ++ rest = cc in
    let r = groups_front front (b' ∷ bytes) y rest f.2 g.2 f.4 g.5 e' in
    let number = f.3 in
    let whole = g.4 in
    let some = g.3 in
    let equal = r.4 in
    let scaled = ap (λ p. r.1 * p) (pow-suc 128 (length front)) in
    (r.0, r.1, r.2, r.3, omega (arith, number, whole, h, equal, scaled), λ l. r.5 (omega (arith, some)))

-- a encoding of a number above 0 doesn't begin with a zero byte
no_zero : (tail : List ℕ) (high : ℕ) (x rest : List ℕ) → IsVarint tail high → 0 < high → 0 ∷ x ≡ tail ++ rest → ⊥
no_zero [] high x rest f some e = absurd f
no_zero (b ∷ []) high x rest f some e = let h : 0 ≡ b = cc in omega (arith, h, some, f.1)
no_zero (b ∷ c ∷ tail) high x rest f some e = let h : 0 ≡ b = cc in omega (arith, h, f.0)

-- a encoding of 0 or 1 doesn't begin with a larger byte
no_large : (tail : List ℕ) (high b : ℕ) (x rest : List ℕ) → IsVarint tail high → high ≤ 1 → 1 < b → b ∷ x ≡ tail ++ rest → ⊥
no_large [] high b x rest f small large e = absurd f
no_large (c ∷ []) high b x rest f small large e = let h : b ≡ c = cc in omega (arith, h, small, large, f.1)
no_large (c ∷ d ∷ tail) high b x rest f small large e = let some = f.3 in let number = f.4 in omega (arith, small, some, number, f.0)

-- seven bits a group
pow-128 : (i : ℕ) → 128 ^ i ≡ 2 ^ (7 * i)
pow-128 zero = refl
pow-128 (suc i) =
    let seven : 7 * suc i ≡ 7 * i + 7 = omega arith in
    rw (pow-suc 128 i, pow-128 i, seven, pow-add 2 (7 * i) 7) refl

-- the first i bytes are groups of n that others follow
pub record ReadsGroups (bytes : List ℕ) (i n : ℕ) : Type 0 where
  pub few : i ≤ 9
  pub groups : AreGroups (take i bytes) n

module _ {bytes : List ℕ} {i n : ℕ} (r : ReadsGroups bytes i n) where
  -- one more group doesn't leave 64 bits
  shifted : (group : ℕ) → i ≤ length bytes → group < 128 → (i ≡ 9 → group ≤ 1)
      → (n + group * 128 ^ i < 2 ^ 64) × (group * 2 ^ (7 * i) % 2 ^ 64 ≡ group * 128 ^ i)
  shifted group within small last =
      let below = AreGroups-lt (take i bytes) n r.groups in
      let number : n < 128 ^ i = subst (λ k. n < 128 ^ k) (length-take-le i bytes within) below in
      let fits : n + group * 128 ^ i < 2 ^ 64 = elim (cases_lt i 9) [
        | inl early ↦
            let scaled = mul-le-mul_right {m = group} {n = 127} (128 ^ i) (omega (arith, small)) in
            let most = pow-le-pow_right {n = 128} (omega arith) {i = suc i} {j = 9} early in
            let power = pow-suc 128 i in
            omega (arith, number, scaled, most, power)
        | inr late ↦
            let nine : i ≡ 9 = omega (arith, late, r.few) in
            let scaled = mul-le-mul_right {m = group} {n = 1} (128 ^ i) (last nine) in
            let power = ap (λ k. 128 ^ k) nine in
            omega (arith, number, scaled, power)
      ] in
      (fits, rw (← pow-128 i) (mod-eq_of_lt (omega (arith, fits))))

  -- the number with one more group fits 64 bits
  pub reads_fits : i < length bytes → (i ≡ 9 → get_or bytes i 0 ≤ 1) → n + get_or bytes i 0 % 128 * 2 ^ (7 * i) % 2 ^ 64 < 2 ^ 64
  reads_fits within last =
      let b = get_or bytes i 0 in
      let sum = shifted (b % 128) (omega (arith, within)) (omega arith) (λ e. let small = last e in omega (arith, small)) in
      rw sum.1 sum.0

  -- one more group that others follow
  pub reads_more : i < length bytes → i ≢ 9 → 128 ≤ get_or bytes i 0 → get_or bytes i 0 < 256
      → ReadsGroups bytes (i + 1) (n + get_or bytes i 0 % 128 * 2 ^ (7 * i) % 2 ^ 64)
  reads_more within early low top =
      let b = get_or bytes i 0 in
      let sum = shifted (b % 128) (omega (arith, within)) (omega arith) (λ e. absurd (early e)) in
      let size = length-take-le i bytes (omega (arith, within)) in
      let grown = AreGroups-append (take i bytes) n b r.groups low top in
      record {
        few = omega (arith, early, r.few);
        groups = rw (take_more bytes i 0 within, sum.1) (subst (λ k. AreGroups (take i bytes ++ b ∷ []) (n + b % 128 * 128 ^ k)) size grown);
      }

  -- the last group
  pub reads_last : i < length bytes → (i ≡ 9 → get_or bytes i 0 ≤ 1) → get_or bytes i 0 < 128 → (0 < i → 0 < get_or bytes i 0)
      → ReadsVarint 64 bytes (Some (n + get_or bytes i 0 % 128 * 2 ^ (7 * i) % 2 ^ 64, i + 1))
  reads_last within last small some =
      let b = get_or bytes i 0 in
      let same : b % 128 ≡ b = omega (arith, small) in
      let sum = shifted b (omega (arith, within)) small last in
      let size = length-take-le i bytes (omega (arith, within)) in
      let spelled = IsVarint-append (take i bytes) n b r.groups small (λ l. some (omega (arith, l, size))) in
      let whole = subst (λ k. IsVarint (take i bytes ++ b ∷ []) (n + b * 128 ^ k)) size spelled in
      rw (same, sum.1) (sum.0, omega (arith, within), rw (take_more bytes i 0 within) whole)

  -- the encoding of a number whose first i groups these are goes on with one of the rest of the
  -- number
  rest_spelled : (m : ℕ) (rest : List ℕ) → i ≤ length bytes → bytes ≡ varint m ++ rest
      → (tail : List ℕ) × (high : ℕ) × IsVarint tail high × (drop i bytes ≡ tail ++ rest) × (m ≡ n + high * 128 ^ i) × (0 < i → 0 < high)
  rest_spelled m rest within e =
      let size = length-take-le i bytes within in
      let f = groups_front (take i bytes) (varint m) (drop i bytes) rest n m r.groups (IsVarint-varint m) (take-append-drop i bytes ∙ e) in
      (f.0, f.1, f.2, f.3, f.4 ∙ ap (λ k. n + f.1 * 128 ^ k) size, λ l. f.5 (omega (arith, l, size)))

  -- the bytes end within the encoding
  pub reads_cut : i ≤ length bytes → length bytes ≤ i → (m : ℕ) (rest : List ℕ) → m < 2 ^ 64 → bytes ≡ varint m ++ rest → ⊥
  reads_cut within done m rest fits e =
      let f = rest_spelled m rest within e in
      let size = ap length f.3 in
      let parts = length-append f.0 rest in
      let none = length-drop i bytes in
      let some = length-encoding-pos f.0 f.1 f.2 in
      omega (arith, size, parts, none, some, done)

  -- a zero group ends no encoding of several
  pub reads_zero : i < length bytes → get_or bytes i 0 ≡ 0 → 0 < i → (m : ℕ) (rest : List ℕ) → m < 2 ^ 64 → bytes ≡ varint m ++ rest → ⊥
  reads_zero within zero_group several m rest fits e =
      let f = rest_spelled m rest (omega (arith, within)) e in
      let high = f.5 several in
      no_zero f.0 f.1 (drop (i + 1) bytes) rest f.2 high (ap (λ z. z ∷ drop (i + 1) bytes) (sym zero_group) ∙ sym (drop_more bytes i 0 within) ∙ f.3)

  -- the tenth group of a number of 64 bits is at most one
  pub reads_tenth : i < length bytes → i ≡ 9 → 1 < get_or bytes i 0 → (m : ℕ) (rest : List ℕ) → m < 2 ^ 64 → bytes ≡ varint m ++ rest → ⊥
  reads_tenth within tenth large m rest fits e =
      let f = rest_spelled m rest (omega (arith, within)) e in
      let power = ap (λ k. f.1 * 128 ^ k) tenth in
      let whole = f.4 in
      let high : f.1 ≤ 1 = omega (arith, whole, power, fits) in
      no_large f.0 f.1 (get_or bytes i 0) (drop (i + 1) bytes) rest f.2 high large (sym (drop_more bytes i 0 within) ∙ f.3)

-- a number of more than 32 bits is none of 32
pub reads_wide : (bytes : List ℕ) (n used : ℕ) → ReadsVarint 64 bytes (Some (n, used)) → 2 ^ 32 ≤ n → ReadsVarint 32 bytes None
reads_wide bytes n used f wide m rest fits e =
    let front = read_number 64 bytes n used f in
    let same = one_number m n rest (drop used bytes) (sym e ∙ front.1) in
    let number = same.0 in
    omega (arith, number, wide, fits)

-- what follows a length is cut where the length says
pub reads_sized : (bytes behind : List ℕ) (size used : ℕ) (r : Option (Bor (List ℕ) × Bor (List ℕ))) → ReadsVarint 64 bytes (Some (size, used)) → behind ≡ drop used bytes
    → MatchOption r (length behind < size) (λ p. IsSplitAt behind size p.0.now p.1.now) → ReadsSized bytes (pair_of r)
reads_sized bytes behind size used (Some refs) f same g =
    let front = read_number 64 bytes size used f in
    let text = refs.0.now in
    let rest = refs.1.now in
    front.1
    ∙ ap (λ z. varint size ++ z) (sym same ∙ sym (take-append-drop size behind) ∙ ap (λ z. z ++ drop size behind) (sym g.1) ∙ ap (λ z. text ++ z) (sym g.2))
    ∙ sym (append_assoc (varint size) text rest)
    ∙ ap (λ k. (varint k ++ text) ++ rest) (sym g.3)
reads_sized bytes behind size used None f same g = λ text rest fits e.
    let front = read_number 64 bytes size used f in
    let one = one_number (length text) size (text ++ rest) (drop used bytes) (sym (append_assoc (varint (length text)) text rest) ∙ sym e ∙ front.1) in
    let number = one.0 in
    let whole = ap length (one.1 ∙ sym same) in
    let parts = length-append text rest in
    omega (arith, number, whole, parts, g)
