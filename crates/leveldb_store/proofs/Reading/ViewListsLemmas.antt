-- Lists side by side, and each element of a list before each later one.
use Rattle.std.specs.Prelude.{AllPairs, slice_get, slice_index_or}
use Rattle.std.proofs.Common.{◌≡◌, ℕ, zero, suc, List, [], ◌∷◌, ◌++◌, Some, length, refl, subst, arith}
use Rattle.leveldb_version.proofs.Versions.PairwiseLemmas.{Pairwise}
use Rattle.leveldb_files.specs.Stores.Batches.{Each}

-- ---- two lists side by side

module _ {A B : Type 0} (R : A → B → Type 0) where
  pub each_append : (xs more : List A) (ys others : List B) → Each R xs ys → Each R more others
      → Each R (xs ++ more) (ys ++ others)
  each_append [] more [] others first second = second
  each_append [] more (y ∷ ys) others first second = absurd first
  each_append (x ∷ xs) more [] others first second = absurd first
  each_append (x ∷ xs) more (y ∷ ys) others first second =
      (first.0, each_append xs more ys others first.1 second)

  pub each_by_index : (xs : List A) (ys : List B) → length ys ≡ length xs
      → ((k : ℕ) (x : A) (y : B) → slice_get xs k ≡ Some x → slice_get ys k ≡ Some y → R x y)
      → Each R xs ys
  each_by_index [] [] same by = tt
  each_by_index [] (y ∷ ys) same by = absurd (omega (arith, same))
  each_by_index (x ∷ xs) [] same by = absurd (omega (arith, same))
  each_by_index (x ∷ xs) (y ∷ ys) same by = (
    by zero x y refl refl,
    each_by_index xs ys (omega (arith, same)) (λ k a b p q. by (suc k) a b p q),
  )

  pub each_at : (xs : List A) (ys : List B) (k : ℕ) (x : A) (otherwise : B) → Each R xs ys
      → slice_get xs k ≡ Some x → R x (slice_index_or ys k otherwise)
  each_at [] ys k x otherwise each at = absurd cc
  each_at (a ∷ xs) [] k x otherwise each at = absurd each
  each_at (a ∷ xs) (b ∷ ys) zero x otherwise each at =
      let is : a ≡ x = cc in subst (λ one. R one b) is each.0
  each_at (a ∷ xs) (b ∷ ys) (suc k) x otherwise each at = each_at xs ys k x otherwise each.1 at

-- ---- each element and each later one

pub pairwise_of : {A : Type 0} (R : A → A → Type 0) (xs : List A) → AllPairs R xs → Pairwise R xs
pairwise_of R [] pairs = tt
pairwise_of {A} R (x ∷ xs) pairs = (
  λ y c. let k = c.0 in let within = c.1 in
      subst (R x) c.2 (pairs zero (suc k) y (omega arith) (omega (arith, within))),
  pairwise_of R xs (λ i j d less within. pairs (suc i) (suc j) d (omega (arith, less)) (omega (arith, within))),
)
