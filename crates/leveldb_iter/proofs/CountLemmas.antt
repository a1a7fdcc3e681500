-- How many pairs at the front of a list have a key that passes a test.
use Rattle.std.proofs.Common.{◌≡◌, ℕ, zero, suc, ◌+◌, ◌<◌, ◌≤◌, Bool, true, false, cond, List, [], ◌∷◌, length, get_or, refl, ◌∙◌, ap, arith}
use Rattle.std.specs.Prelude.{Contains}
use Rattle.std.proofs.lemmas.List.Elements.{at_from_Contains}
use Rattle.std.specs.Ordering.{is_lt}
use Rattle.std.specs.declared.cmp.Ordering.{Ordering}
use Rattle.std.specs.declared.cmp.Ordering.TheVariants.{Less}
use Rattle.leveldb_base.specs.Types.{Pair, count_before}
use Rattle.leveldb_base.specs.History.{IsBeforeAll, AreRising}
use Rattle.leveldb_iter.specs.Merge.{count_while}

-- the pair of an index that the list has
abbrev pub pair_of_index : List Pair → ℕ → Pair
pair_of_index pairs i = get_or pairs i ([], [])

module _ (test : List ℕ → Bool) where
  pub count_at : (pairs : List Pair) (n : ℕ) → n ≤ length pairs → ((i : ℕ) → i < n → test (pair_of_index pairs i).0 ≡ true)
      → (n < length pairs → test (pair_of_index pairs n).0 ≡ false) → count_while test pairs ≡ n
  count_at [] n h below at = omega arith
  count_at (pair ∷ pairs) zero h below at = ap (λ b. cond b (count_while test pairs + 1) 0) (at (omega arith))
  count_at (pair ∷ pairs) (suc n) h below at =
      let rest : count_while test pairs ≡ n = count_at pairs n (omega arith) (λ i p. below (suc i) (omega arith)) (λ p. at (omega arith)) in
      ap (λ b. cond b (count_while test pairs + 1) 0) (below 0 (omega arith)) ∙ omega (arith, rest)

  pub count-le : (pairs : List Pair) → count_while test pairs ≤ length pairs
  count-le [] = omega arith
  count-le (pair ∷ pairs) =
      elim (test pair.0) as (λ b. cond b (count_while test pairs + 1) 0 ≤ length (pair ∷ pairs)) [
        | true ↦ omega (arith, count-le pairs)
        | false ↦ omega arith
      ]

  -- the keys before the count pass
  pub before_count : (pairs : List Pair) (i : ℕ) → i < count_while test pairs → test (pair_of_index pairs i).0 ≡ true
  before_count [] i h = absurd (omega (arith, h))
  before_count (pair ∷ pairs) i h = first i (test pair.0) refl h (λ j. before_count pairs j)
    where
      first : (i : ℕ) (b : Bool) → test pair.0 ≡ b → i < cond b (count_while test pairs + 1) 0
          → ((j : ℕ) → j < count_while test pairs → test (pair_of_index pairs j).0 ≡ true) → test (pair_of_index (pair ∷ pairs) i).0 ≡ true
      first i false e h more = absurd (omega (arith, h))
      first zero true e h more = e
      first (suc i) true e h more = more i (omega (arith, h))

  -- and the key there, if there is one, doesn't
  pub at_count : (pairs : List Pair) → count_while test pairs < length pairs → test (pair_of_index pairs (count_while test pairs)).0 ≡ false
  at_count [] h = absurd (omega (arith, h))
  at_count (pair ∷ pairs) h = first (test pair.0) refl h (at_count pairs)
    where
      first : (b : Bool) → test pair.0 ≡ b → cond b (count_while test pairs + 1) 0 < length (pair ∷ pairs)
          → (count_while test pairs < length pairs → test (pair_of_index pairs (count_while test pairs)).0 ≡ false)
          → test (pair_of_index (pair ∷ pairs) (cond b (count_while test pairs + 1) 0)).0 ≡ false
      first false e h more = e
      first true e h more =
          let shift : count_while test pairs + 1 ≡ suc (count_while test pairs) = omega arith in
          ap (λ n. test (pair_of_index (pair ∷ pairs) n).0) shift ∙ more (omega (arith, h))

-- tests that answer alike at every pair count alike
pub count-same : (these those : List ℕ → Bool) (pairs : List Pair) → ((i : ℕ) → i < length pairs → these (pair_of_index pairs i).0 ≡ those (pair_of_index pairs i).0)
    → count_while these pairs ≡ count_while those pairs
count-same these those [] same = refl
count-same these those (pair ∷ pairs) same =
    ap (λ b. cond b (count_while these pairs + 1) 0) (same 0 (omega arith))
    ∙ ap (λ n. cond (those pair.0) (n + 1) 0) (count-same these those pairs (λ i h. same (suc i) (omega arith)))

pub count-none : (pairs : List Pair) → count_while (λ key. false) pairs ≡ 0
count-none [] = refl
count-none (pair ∷ pairs) = refl

pub count-all : (pairs : List Pair) → count_while (λ key. true) pairs ≡ length pairs
count-all [] = refl
count-all (pair ∷ pairs) = omega (arith, count-all pairs)

pub count_before-is : (cmp : List ℕ → List ℕ → Ordering) (key : List ℕ) (pairs : List Pair) → count_before cmp key pairs ≡ count_while (λ k. is_lt (cmp k key)) pairs
count_before-is cmp key [] = refl
count_before-is cmp key (pair ∷ pairs) = ap (λ n. cond (is_lt (cmp pair.0 key)) (n + 1) 0) (count_before-is cmp key pairs)

module _ (cmp : List ℕ → List ℕ → Ordering) where
  before_at : (key : List ℕ) (pairs : List Pair) → IsBeforeAll cmp key pairs → (i : ℕ) → i < length pairs → cmp key (pair_of_index pairs i).0 ≡ Less
  before_at key [] all i h = absurd (omega (arith, h))
  before_at key (pair ∷ pairs) all zero h = all.0
  before_at key (pair ∷ pairs) all (suc i) h = before_at key pairs all.1 i (omega arith)

  -- each key is before those after it
  pub rising_at : (pairs : List Pair) → AreRising cmp pairs → (i j : ℕ) → i < j → j < length pairs → cmp (pair_of_index pairs i).0 (pair_of_index pairs j).0 ≡ Less
  rising_at [] rising i j p q = absurd (omega (arith, q))
  rising_at (pair ∷ pairs) rising i zero p q = absurd (omega (arith, p))
  rising_at (pair ∷ pairs) rising zero (suc j) p q = before_at pair.0 pairs rising.0 j (omega arith)
  rising_at (pair ∷ pairs) rising (suc i) (suc j) p q = rising_at pairs rising.1 i j (omega arith) (omega arith)

-- the index of a pair that the list has
pub index_of : (pairs : List Pair) (pair : Pair) → Contains pairs pair → (i : ℕ) × (i < length pairs) × (pair_of_index pairs i ≡ pair)
index_of pairs pair c = let position = at_from_Contains pairs pair c in (position.0, position.1, position.2 ([], []))
