-- What a search in a list of pairs finds.
use Rattle.std.proofs.Common.{◌≡◌, ◌⊎◌, ℕ, zero, suc, ◌+◌, ◌-◌, ◌<◌, ◌≤◌, Bool, true, false, cond, List, [], ◌∷◌, length, refl, sym, ◌∙◌, ap, arith, ⊎_elim}
use Rattle.std.proofs.lemmas.Bool.{false≢true, cases_Bool}
use Rattle.std.specs.Ordering.{is_lt}
use Rattle.std.specs.declared.cmp.Ordering.{Ordering}
use Rattle.leveldb_base.specs.Types.{Pair, count_before}
use Rattle.leveldb_mem.specs.Searching.{key_at, count_while, IsParted}

-- keys before the first place pass, and those from the second on don't
pub record Brackets (test : List ℕ → Bool) (pairs : List Pair) (low high : ℕ) : Type 0 where
  pub below : (i : ℕ) → i < low → test (key_at pairs i) ≡ true
  pub above : (i : ℕ) → high ≤ i → i < length pairs → test (key_at pairs i) ≡ false

module _ (test : List ℕ → Bool) where
  -- the count is the place before which all pass, and where none does
  pub count_at : (pairs : List Pair) (n : ℕ) → n ≤ length pairs → ((i : ℕ) → i < n → test (key_at pairs i) ≡ true)
      → (n < length pairs → test (key_at pairs n) ≡ false) → count_while test pairs ≡ n
  count_at [] n h below at = omega arith
  count_at (pair ∷ pairs) zero h below at = ap (λ b. cond b (count_while test pairs + 1) 0) (at (omega arith))
  count_at (pair ∷ pairs) (suc n) h below at =
      let rest : count_while test pairs ≡ n = count_at pairs n (omega arith) (λ i p. below (suc i) (omega arith)) (λ p. at (omega arith)) in
      ap (λ b. cond b (count_while test pairs + 1) 0) (below 0 (omega arith)) ∙ omega (arith, rest)

  pub count-le : (pairs : List Pair) → count_while test pairs ≤ length pairs
  count-le [] = omega arith
  count-le (pair ∷ pairs) =
      elim (test pair.0) as (λ b. cond b (count_while test pairs + 1) 0 ≤ length (pair ∷ pairs)) [
        | true ↦ omega (arith, count-le pairs)
        | false ↦ omega arith
      ]

  -- the keys before the count pass
  pub before_count : (pairs : List Pair) (i : ℕ) → i < count_while test pairs → test (key_at pairs i) ≡ true
  before_count [] i h = absurd (omega (arith, h))
  before_count (pair ∷ pairs) i h = first i (test pair.0) refl h (λ j. before_count pairs j)
    where
      first : (i : ℕ) (b : Bool) → test pair.0 ≡ b → i < cond b (count_while test pairs + 1) 0
          → ((j : ℕ) → j < count_while test pairs → test (key_at pairs j) ≡ true) → test (key_at (pair ∷ pairs) i) ≡ true
      first i false e h more = absurd (omega (arith, h))
      first zero true e h more = e
      first (suc i) true e h more = more i (omega (arith, h))

  -- and the key there, if there is one, doesn't
  pub at_count : (pairs : List Pair) → count_while test pairs < length pairs → test (key_at pairs (count_while test pairs)) ≡ false
  at_count [] h = absurd (omega (arith, h))
  at_count (pair ∷ pairs) h = first (test pair.0) refl h (at_count pairs)
    where
      first : (b : Bool) → test pair.0 ≡ b → cond b (count_while test pairs + 1) 0 < length (pair ∷ pairs)
          → (count_while test pairs < length pairs → test (key_at pairs (count_while test pairs)) ≡ false)
          → test (key_at (pair ∷ pairs) (cond b (count_while test pairs + 1) 0)) ≡ false
      first false e h more = e
      first true e h more =
          let shift : count_while test pairs + 1 ≡ suc (count_while test pairs) = omega arith in
          ap (λ n. test (key_at (pair ∷ pairs) n)) shift ∙ more (omega (arith, h))

  -- all pass where the last does, and those that do are at the front
  pub count_all : (pairs : List Pair) → IsParted test pairs → (length pairs ≡ 0) ⊎ (test (key_at pairs (length pairs - 1)) ≡ true) → count_while test pairs ≡ length pairs
  count_all pairs parted which =
      count_at pairs (length pairs) (omega arith)
      (λ i h. ⊎_elim
      (λ (none : length pairs ≡ 0). absurd (omega (arith, none, h)))
      (λ (pass : test (key_at pairs (length pairs - 1)) ≡ true). parted i (length pairs - 1) (omega (arith, h)) (omega (arith, h)) pass) which)
      (λ h. absurd (omega (arith, h)))

  module _ {pairs : List Pair} (parted : IsParted test pairs) where
    pub raised : {low high : ℕ} (middle : ℕ) → middle < length pairs → Brackets test pairs low high → test (key_at pairs middle) ≡ true → Brackets test pairs (middle + 1) high
    raised middle h brackets e = record { below = λ i p. parted i middle (omega arith) h e; above = brackets.above }

    pub lowered : {low high : ℕ} (middle : ℕ) → Brackets test pairs low high → test (key_at pairs middle) ≡ false → Brackets test pairs low middle
    lowered middle brackets e = record {
      below = brackets.below;
      above = λ i p q. ⊎_elim
          (λ (t : test (key_at pairs i) ≡ true). absurd (false≢true (sym e ∙ parted middle i p q t)))
          (λ (f : test (key_at pairs i) ≡ false). f) (cases_Bool (test (key_at pairs i)));
    }

-- a count of keys before a key is a count of keys that pass
pub count_before-is : (cmp : List ℕ → List ℕ → Ordering) (key : List ℕ) (pairs : List Pair) → count_while (λ k. is_lt (cmp k key)) pairs ≡ count_before cmp key pairs
count_before-is cmp key [] = refl
count_before-is cmp key (pair ∷ pairs) = ap (λ n. cond (is_lt (cmp pair.0 key)) (n + 1) 0) (count_before-is cmp key pairs)

-- the keys that pass are those before this one
abbrev pub PassesBefore : (List ℕ → Bool) → (List ℕ → List ℕ → Ordering) → List ℕ → Type 0
PassesBefore passes cmp key = (other : List ℕ) → passes other ≡ is_lt (cmp other key)

-- the keys that pass are those before a key
module _ (cmp : List ℕ → List ℕ → Ordering) (key : List ℕ) {passes : List ℕ → Bool} (before : PassesBefore passes cmp key) where
  -- so as many pass as are before it
  pub count_passing : (pairs : List Pair) → count_while passes pairs ≡ count_before cmp key pairs
  count_passing [] = refl
  count_passing (pair ∷ pairs) =
      ap (λ b. cond b (count_while passes pairs + 1) 0) (before pair.0) ∙ ap (λ n. cond (is_lt (cmp pair.0 key)) (n + 1) 0) (count_passing pairs)

  -- and they are at the front where those before it are
  pub parted_passing : (pairs : List Pair) → IsParted (λ k. is_lt (cmp k key)) pairs → IsParted passes pairs
  parted_passing pairs parted i j le within pass = before (key_at pairs i) ∙ parted i j le within (sym (before (key_at pairs j)) ∙ pass)
