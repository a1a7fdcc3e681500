-- Positions in a list of pairs, and counts of the pairs at its front.
use Rattle.std.proofs.Common.{◌≡◌, ℕ, zero, suc, ◌+◌, ◌-◌, ◌<◌, ◌≤◌, Bool, true, false, List, [], ◌∷◌, ◌++◌, length, take, drop, ⊎_elim, subst, refl, sym, ◌∙◌, ap, arith, add-one, Some, None}
use Rattle.std.specs.declared.cmp.Ordering.{Ordering}
use Rattle.std.specs.Ordering.{is_lt}
use Rattle.std.specs.Cmp.{IsTotalOrder}
use Rattle.std.specs.Prelude.{Contains, if◌then◌else◌, nat_lt, slice_get}
use Rattle.std.proofs.lemmas.Bool.Decides.{nat_tests}
use Rattle.leveldb_base.specs.Types.{Pair, position_within, previous_position, last_position, pair_at}
use Rattle.leveldb_base.specs.History.{AreRising}
use Rattle.leveldb_base.proofs.OrderLemmas.{lt_turn, le_le}
use Rattle.leveldb_base.proofs.HistoryLemmas.{in_none, in_front, in_rest, in_cases, each_after}

-- ---- positions

pub position_in : (pairs : List Pair) (n : ℕ) → n < length pairs → position_within pairs n ≡ Some n
position_in pairs n h =
    let t : nat_lt n (length pairs) ≡ true = grind (arith, nat_tests) in
    ap (λ b. if b then Some n else None) t

pub position_out : (pairs : List Pair) (n : ℕ) → length pairs ≤ n → position_within pairs n ≡ None
position_out pairs n h =
    let t : nat_lt n (length pairs) ≡ false = grind (arith, nat_tests) in
    ap (λ b. if b then Some n else None) t

-- there is no pair after the last
past_end : (pairs : List Pair) (n : ℕ) → length pairs ≤ n → slice_get pairs n ≡ None
past_end [] n h = refl
past_end (pair ∷ pairs) zero h = absurd (omega arith)
past_end (pair ∷ pairs) (suc n) h = past_end pairs n (omega arith)

-- the pair at a position if the list has it
pub at_within : (pairs : List Pair) (n : ℕ) → pair_at pairs (position_within pairs n) ≡ slice_get pairs n
at_within pairs n = by (nat_lt n (length pairs)) refl
  where
    by : (b : Bool) → nat_lt n (length pairs) ≡ b → pair_at pairs (if b then Some n else None) ≡ slice_get pairs n
    by true e = refl
    by false e = let h : length pairs ≤ n = grind (arith, nat_tests) in sym (past_end pairs n h)

pub previous_of_suc : (n : ℕ) → previous_position (Some (suc n)) ≡ Some n
previous_of_suc n =
    let t : nat_lt 0 (suc n) ≡ true = grind (arith, nat_tests) in
    let m : suc n - 1 ≡ n = omega arith in
    ap (λ b. if b then Some (suc n - 1) else None) t ∙ ap (λ k. Some k) m

-- the last pair is the one before the end
pub last_before_end : (pairs : List Pair) → last_position pairs ≡ previous_position (Some (length pairs))
last_before_end [] = refl
last_before_end (pair ∷ pairs) = sym (previous_of_suc (length pairs))

-- the pair after a list of others
pub at_seam : (xs ys : List Pair) (p : Pair) → slice_get (xs ++ p ∷ ys) (length xs) ≡ Some p
at_seam [] ys p = refl
at_seam (x ∷ xs) ys p = at_seam xs ys p

-- ---- counts

-- how many pairs at the front have a key that passes; `count_before` is one such count
abbrev pub count_while : (List ℕ → Bool) → List Pair → ℕ
count_while test [] = 0
count_while test (pair ∷ pairs) = if test pair.0 then count_while test pairs + 1 else 0

pub count_in : (t : List ℕ → Bool) (pair : Pair) (pairs : List Pair) → t pair.0 ≡ true → count_while t (pair ∷ pairs) ≡ suc (count_while t pairs)
count_in t pair pairs p = ap (λ b. if b then count_while t pairs + 1 else 0) p ∙ add-one (count_while t pairs)

pub count_out : (t : List ℕ → Bool) (pair : Pair) (pairs : List Pair) → t pair.0 ≡ false → count_while t (pair ∷ pairs) ≡ 0
count_out t pair pairs p = ap (λ b. if b then count_while t pairs + 1 else 0) p

pub count_none : (t : List ℕ → Bool) (pairs : List Pair) → ((q : Pair) → Contains pairs q → t q.0 ≡ false) → count_while t pairs ≡ 0
count_none t [] none = refl
count_none t (pair ∷ pairs) none = count_out t pair pairs (none pair (in_front pair pairs))

pub count_over : (t : List ℕ → Bool) (xs ys : List Pair) → ((q : Pair) → Contains xs q → t q.0 ≡ true) → count_while t (xs ++ ys) ≡ length xs + count_while t ys
count_over t [] ys all = omega arith
count_over t (x ∷ xs) ys all =
    let more = count_over t xs ys (λ q c. all q (in_rest x q xs c)) in
    let one = count_in t x (xs ++ ys) (all x (in_front x xs)) in
    omega (arith, more, one)

-- the pairs that are counted pass
pub front_passes : (t : List ℕ → Bool) (pairs : List Pair) (q : Pair) → Contains (take (count_while t pairs) pairs) q → t q.0 ≡ true
front_passes t [] q c = absurd (in_none q c)
front_passes t (p ∷ pairs) q c = by (front_passes t pairs q) (t p.0) refl
  where
    by : (Contains (take (count_while t pairs) pairs) q → t q.0 ≡ true) → (b : Bool) → t p.0 ≡ b → t q.0 ≡ true
    by more true e = ⊎_elim
        (λ (is : p ≡ q). ap (λ (x : Pair). t x.0) (sym is) ∙ e)
        (λ (d : Contains (take (count_while t pairs) pairs) q). more d)
        (in_cases p q (take (count_while t pairs) pairs) (subst (λ n. Contains (take n (p ∷ pairs)) q) (count_in t p pairs e) c))
    by more false e = absurd (in_none q (subst (λ n. Contains (take n (p ∷ pairs)) q) (count_out t p pairs e) c))

-- where keys rise, the pairs after those before a key aren't before it
pub back_fails : {cmp : List ℕ → List ℕ → Ordering} → IsTotalOrder cmp → (key : List ℕ) (pairs : List Pair) (q : Pair) → AreRising cmp pairs
    → Contains (drop (count_while (λ k. is_lt (cmp k key)) pairs) pairs) q → is_lt (cmp q.0 key) ≡ false
back_fails {cmp} total key [] q rising c = absurd (in_none q c)
back_fails {cmp} total key (p ∷ pairs) q rising c = by (back_fails total key pairs q rising.1) (is_lt (cmp p.0 key)) refl
  where
    by : (Contains (drop (count_while (λ k. is_lt (cmp k key)) pairs) pairs) q → is_lt (cmp q.0 key) ≡ false) → (b : Bool) → is_lt (cmp p.0 key) ≡ b → is_lt (cmp q.0 key) ≡ false
    by more true e = more (subst (λ n. Contains (drop n (p ∷ pairs)) q) (count_in (λ k. is_lt (cmp k key)) p pairs e) c)
    by more false e = ⊎_elim
        (λ (is : p ≡ q). ap (λ (x : Pair). is_lt (cmp x.0 key)) (sym is) ∙ e)
        (λ (d : Contains pairs q). le_le total key p.0 q.0 e (lt_turn total p.0 q.0 (each_after cmp p.0 pairs q rising.0 d)))
        (in_cases p q pairs (subst (λ n. Contains (drop n (p ∷ pairs)) q) (count_out (λ k. is_lt (cmp k key)) p pairs e) c))
