-- The order of lists of bytes by the big-endian numbers of their first bytes.
use Rattle.std.proofs.Common.{◌≡◌, ℕ, zero, suc, ◌+◌, ◌*◌, ◌^◌, ◌<◌, ◌≤◌, List, [], ◌∷◌, length, take, drop, min, ◌-◌, slice_index, refl, sym, ap, ap₂, subst, ◌∙◌, arith}
use Rattle.std.proofs.Math.Nat.{mul-le-mul_right}
use Rattle.std.specs.declared.cmp.Ordering.{Ordering}
use Rattle.std.specs.declared.cmp.Ordering.TheVariants.{Less, Equal, Greater}
use Rattle.std.specs.Ordering.{MatchOrdering, nat_cmp, ordering_then}
use Rattle.std.specs.Cmp.{nat_cmp_is}
use Rattle.std.proofs.lemmas.Cmp.{ranked}
use Rattle.std.proofs.lemmas.List.{take_rest, drop-drop, get_or-drop, length-drop}
use Rattle.byteorder.specs.Endian.{big_from, big_number}
use Rattle.byteorder.specs.Numbers.{big_from-cons, big_from-lt}
use Rattle.leveldb_base.specs.Cmp.{bytewise}

-- a sum of multiples of w is less, where its multiple is
multiple-lt : (x y w p q : ℕ) → x < y → p < w → x * w + p < y * w + q
multiple-lt x y w p q h small =
    let more : suc x * w ≤ y * w = mul-le-mul_right w h in
    omega arith

-- numbers of two digits to base w are compared by the first digit, then by the second
digits-cmp : (x y w p q : ℕ) (first second : Ordering)
    → MatchOrdering first (x < y) (x ≡ y) (y < x) → MatchOrdering second (p < q) (p ≡ q) (q < p) → p < w → q < w
    → ordering_then first second ≡ nat_cmp (x * w + p) (y * w + q)
digits-cmp x y w p q Less second h g small other =
    nat_cmp_is (x * w + p) (y * w + q) Less (multiple-lt x y w p q h small)
digits-cmp x y w p q Greater second h g small other =
    nat_cmp_is (x * w + p) (y * w + q) Greater (multiple-lt y x w q p h other)
digits-cmp x y w p q Equal Less h g small other =
    let e : x * w ≡ y * w = ap (λ n. n * w) h in
    nat_cmp_is (x * w + p) (y * w + q) Less (omega arith)
digits-cmp x y w p q Equal Equal h g small other =
    let e : x * w ≡ y * w = ap (λ n. n * w) h in
    nat_cmp_is (x * w + p) (y * w + q) Equal (omega arith)
digits-cmp x y w p q Equal Greater h g small other =
    let e : x * w ≡ y * w = ap (λ n. n * w) h in
    nat_cmp_is (x * w + p) (y * w + q) Greater (omega arith)

then-assoc : (a b c : Ordering)
    → ordering_then (ordering_then a b) c ≡ ordering_then a (ordering_then b c)
then-assoc Less b c = refl
then-assoc Equal b c = refl
then-assoc Greater b c = refl

decided : (x y : ℕ) (r rest : Ordering) → MatchOrdering r (x < y) (x ≡ y) (y < x) → (x ≡ y → ⊥)
    → ordering_then r rest ≡ r
decided x y Less rest h other = refl
decided x y Equal rest h other = absurd (other h)
decided x y Greater rest h other = refl

-- unequal numbers decide alone
pub unequal-then : (x y : ℕ) (rest : Ordering) → (x ≡ y → ⊥)
    → ordering_then (nat_cmp x y) rest ≡ nat_cmp x y
unequal-then x y rest other = decided x y (nat_cmp x y) rest (ranked x y (nat_cmp x y) refl) other

-- equal ones leave it to what follows
pub equal-then : (x y : ℕ) (rest : Ordering) → x ≡ y → ordering_then (nat_cmp x y) rest ≡ rest
equal-then x y rest e = ap (λ r. ordering_then r rest) (sym (nat_cmp_is x y Equal e))

-- The numbers of the first n bytes are compared as these bytes are, and where they are equal the
-- other bytes decide.
pub bytewise-number : (n : ℕ) (a b : List ℕ) → n ≤ length a → n ≤ length b
    → ((k : ℕ) → slice_index a k < 256) → ((k : ℕ) → slice_index b k < 256)
    → bytewise a b
    ≡ ordering_then (nat_cmp (big_number n a) (big_number n b)) (bytewise (drop n a) (drop n b))
bytewise-number zero a b h g ha hb = refl
bytewise-number (suc n) [] b h g ha hb = absurd (omega arith)
bytewise-number (suc n) (x ∷ a) [] h g ha hb = absurd (omega arith)
bytewise-number (suc n) (x ∷ a) (y ∷ b) h g ha hb =
    let first = nat_cmp x y in
    let rest = bytewise (drop n a) (drop n b) in
    let p = big_from 0 n a in
    let q = big_from 0 n b in
    let digits = digits-cmp x y (256 ^ n) p q first (nat_cmp p q) (ranked x y first refl)
    (ranked p q (nat_cmp p q) refl) (big_from-lt 0 n a (λ k. ha (suc k)))
    (big_from-lt 0 n b (λ k. hb (suc k))) in
    let others = bytewise-number n a b (omega arith) (omega arith) (λ k. ha (suc k))
    (λ k. hb (suc k)) in
    let whole = ap₂ (λ l r. nat_cmp (x * 256 ^ n + l) (y * 256 ^ n + r))
    (sym (big_from-cons 0 n x a)) (sym (big_from-cons 0 n y b)) in
    ap (ordering_then first) others ∙ sym (then-assoc first (nat_cmp p q) rest)
    ∙ ap (λ r. ordering_then r rest) (digits ∙ whole)

byte-step : (i : ℕ) (a b : List ℕ) → i < length a → i < length b
    → bytewise (drop i a) (drop i b)
    ≡ ordering_then (nat_cmp (slice_index a i) (slice_index b i))
    (bytewise (drop (suc i) a) (drop (suc i) b))
byte-step i [] b h g = absurd (omega arith)
byte-step i (x ∷ a) [] h g = absurd (omega arith)
byte-step zero (x ∷ a) (y ∷ b) h g = refl
byte-step (suc i) (x ∷ a) (y ∷ b) h g = byte-step i a b (omega arith) (omega arith)

-- the byte at an index decides, or those after it do
pub bytewise-byte : (i : ℕ) (a b : List ℕ) → i < length a → i < length b
    → bytewise (drop i a) (drop i b)
    ≡ ordering_then (nat_cmp (slice_index a i) (slice_index b i))
    (bytewise (drop (i + 1) a) (drop (i + 1) b))
bytewise-byte i a b h g =
    let next : suc i ≡ i + 1 = omega arith in
    let rest : ℕ → Ordering = λ n. bytewise (drop n a) (drop n b) in
    byte-step i a b h g
    ∙ ap (λ n. ordering_then (nat_cmp (slice_index a i) (slice_index b i)) (rest n)) next

-- the same for a word of eight bytes: x and y are what is read from it on
pub bytewise-word : (i : ℕ) (a b : List ℕ) (x y : ℕ)
    → (i + 1) * 8 ≤ length a → (i + 1) * 8 ≤ length b
    → ((k : ℕ) → slice_index a k < 256) → ((k : ℕ) → slice_index b k < 256)
    → x ≡ big_number 8 (take (length a - i * 8) (drop (i * 8) a))
    → y ≡ big_number 8 (take (length b - i * 8) (drop (i * 8) b))
    → bytewise (drop (i * 8) a) (drop (i * 8) b)
    ≡ ordering_then (nat_cmp x y) (bytewise (drop ((i + 1) * 8) a) (drop ((i + 1) * 8) b))
bytewise-word i a b x y h g ha hb first second =
    let at : ℕ = i * 8 in
    let low : (xs : List ℕ) → ((k : ℕ) → slice_index xs k < 256)
    → (k : ℕ) → slice_index (drop at xs) k < 256 =
    λ xs all k. subst (λ (n : ℕ). n < 256) (sym (get_or-drop at xs k 0)) (all (at + k)) in
    let room : (xs : List ℕ) → (i + 1) * 8 ≤ length xs → 8 ≤ length (drop at xs) =
    λ xs long. let e = length-drop at xs in omega arith in
    let left : x ≡ big_number 8 (drop at a) = first ∙ ap (big_number 8) (take_rest a at) in
    let right : y ≡ big_number 8 (drop at b) = second ∙ ap (big_number 8) (take_rest b at) in
    let next : at + 8 ≡ (i + 1) * 8 = omega arith in
    let after : (xs : List ℕ) → drop 8 (drop at xs) ≡ drop ((i + 1) * 8) xs =
    λ xs. drop-drop 8 at xs ∙ ap (λ n. drop n xs) next in
    bytewise-number 8 (drop at a) (drop at b) (room a h) (room b g) (low a ha) (low b hb)
    ∙ ap₂ ordering_then (ap₂ nat_cmp (sym left) (sym right)) (ap₂ bytewise (after a) (after b))

-- numbers are compared as the next ones are
next-cmp : (x y : ℕ) (r : Ordering) → MatchOrdering r (x < y) (x ≡ y) (y < x) → r ≡ nat_cmp (suc x) (suc y)
next-cmp x y Less h = nat_cmp_is (suc x) (suc y) Less (omega arith)
next-cmp x y Equal h = nat_cmp_is (suc x) (suc y) Equal (omega arith)
next-cmp x y Greater h = nat_cmp_is (suc x) (suc y) Greater (omega arith)

-- after all bytes of the shorter list the lengths decide
pub bytewise-end : (n : ℕ) (a b : List ℕ) → n ≡ min (length a) (length b)
    → bytewise (drop n a) (drop n b) ≡ nat_cmp (length a) (length b)
bytewise-end zero [] [] e = refl
bytewise-end zero [] (y ∷ b) e = nat_cmp_is 0 (suc (length b)) Less (omega arith)
bytewise-end zero (x ∷ a) [] e = nat_cmp_is (suc (length a)) 0 Greater (omega arith)
bytewise-end zero (x ∷ a) (y ∷ b) e = absurd (omega arith)
bytewise-end (suc n) [] b e = absurd (omega arith)
bytewise-end (suc n) (x ∷ a) [] e = absurd (omega arith)
bytewise-end (suc n) (x ∷ a) (y ∷ b) e =
    let l = length a in
    let r = length b in
    bytewise-end n a b (omega arith) ∙ next-cmp l r (nat_cmp l r) (ranked l r (nat_cmp l r) refl)
