-- What holds of each element of a list and each later one, and of the elements of two lists.
use Rattle.std.specs.Prelude.{Contains, AllPairs, filter, reverse, slice_index_or}
use Rattle.std.proofs.Common.{◌≡◌, ⊎_elim, suc, ◌+◌, Bool, true, false, List, [], ◌∷◌, ◌++◌, cond, length, map, refl, sym, ◌∙◌, ap, subst, arith}
use Rattle.std.proofs.lemmas.Cmp.{upto}
use Rattle.std.proofs.lemmas.Grind.{reverse_onto}
use Rattle.std.proofs.lemmas.List.Elements.{Contains-append_cases}
use Rattle.std.proofs.lemmas.List.Kept.{AllPairs-cons}
use Rattle.std.proofs.lemmas.List.Sorted.{Contains-permutation, IsPermutation-reverse, IsPermutation-sym}
use Rattle.std.specs.Cmp.{IsTotalOrder}
use Rattle.std.specs.List.{IsDistinct}
use Rattle.std.specs.List.Sorted.{IsSorted}
use Rattle.std.specs.Ordering.{is_gt, is_lt}
use Rattle.std.specs.declared.cmp.Ordering.{Ordering}
use Rattle.leveldb_base.proofs.EntriesLemmas.{in_map, map_in}
use Rattle.leveldb_base.proofs.HistoryLemmas.{in_cases, in_front, in_none, in_rest}
use Rattle.leveldb_files.proofs.Levels.LevelsLemmas.{reversed}
use Rattle.leveldb_version.proofs.Versions.SearchLemmas.{all_from_contains, kept_passes}
use Rattle.leveldb_version.proofs.Tables.TablesInTurnLemmas.{of_all}
use Rattle.leveldb_files.specs.Stores.Batches.{Each}

-- it holds of each element and each later one
abbrev pub Pairwise : {A : Type 0} → (A → A → Type 0) → List A → Type 0
Pairwise R [] = Unit {0}
Pairwise {A} R (x ∷ xs) = ((y : A) → Contains xs y → R x y) × Pairwise R xs

pub pairwise_more : {A : Type 0} (R S : A → A → Type 0) (xs : List A) → ((x y : A) → Contains xs x → Contains xs y → R x y → S x y) → Pairwise R xs → Pairwise S xs
pairwise_more R S [] more pairs = tt
pairwise_more R S (x ∷ xs) more pairs = (
  λ y c. more x y (in_front x xs) (in_rest x y xs c) (pairs.0 y c),
  pairwise_more R S xs (λ a b c d. more a b (in_rest x a xs c) (in_rest x b xs d)) pairs.1,
)

pub pairwise_both : {A : Type 0} (R S : A → A → Type 0) (xs : List A) → Pairwise R xs → Pairwise S xs → Pairwise (λ x y. R x y × S x y) xs
pairwise_both R S [] these those = tt
pairwise_both R S (x ∷ xs) these those = ((λ y c. (these.0 y c, those.0 y c)), pairwise_both R S xs these.1 those.1)

pub pairwise_of_map : {A B : Type 0} (R : B → B → Type 0) (f : A → B) (xs : List A) → Pairwise R (map f xs) → Pairwise (λ x y. R (f x) (f y)) xs
pairwise_of_map R f [] pairs = tt
pairwise_of_map R f (x ∷ xs) pairs = ((λ y c. pairs.0 (f y) (map_in f xs y c)), pairwise_of_map R f xs pairs.1)

pub pairwise_map : {A B : Type 0} (R : B → B → Type 0) (f : A → B) (xs : List A) → Pairwise (λ x y. R (f x) (f y)) xs → Pairwise R (map f xs)
pairwise_map R f [] pairs = tt
pairwise_map R f (x ∷ xs) pairs = (
  λ y c. let from = in_map f xs y c in subst (R (f x)) from.2 (pairs.0 from.0 from.1),
  pairwise_map R f xs pairs.1,
)

pub pairwise_filter : {A : Type 0} (R : A → A → Type 0) (p : A → Bool) (xs : List A) → Pairwise R xs → Pairwise R (filter p xs)
pairwise_filter R p [] pairs = tt
pairwise_filter {A} R p (x ∷ xs) pairs = by (p x) (pairwise_filter R p xs pairs.1)
  where
    by : (b : Bool) → Pairwise R (filter p xs) → Pairwise R (cond b (x ∷ filter p xs) (filter p xs))
    by true rest = ((λ y c. pairs.0 y (kept_passes p xs y c).0), rest)
    by false rest = rest

pub pairwise_append : {A : Type 0} (R : A → A → Type 0) (xs ys : List A) → Pairwise R xs → Pairwise R ys → ((x y : A) → Contains xs x → Contains ys y → R x y) → Pairwise R (xs ++ ys)
pairwise_append R [] ys first second across = second
pairwise_append R (x ∷ xs) ys first second across = (
  λ y c. ⊎_elim
      (λ (here : Contains xs y). first.0 y here)
      (λ (there : Contains ys y). across x y (in_front x xs) there)
      (Contains-append_cases xs ys y c),
  pairwise_append R xs ys first.1 second (λ a b c d. across a b (in_rest x a xs c) d),
)

pub in_reverse : {A : Type 0} (xs : List A) (x : A) → Contains (reverse xs) x → Contains xs x
in_reverse xs x c = Contains-permutation (reverse xs) xs x (IsPermutation-sym xs (reverse xs) (IsPermutation-reverse xs)) c

pub pairwise_reverse : {A : Type 0} (R : A → A → Type 0) (xs : List A) → Pairwise (λ x y. R y x) xs → Pairwise R (reverse xs)
pairwise_reverse R [] pairs = tt
pairwise_reverse {A} R (x ∷ xs) pairs = subst (Pairwise R) (sym (reverse_onto xs x []))
    (pairwise_append R (reverse xs) (x ∷ []) (pairwise_reverse R xs pairs.1) ((λ y c. absurd (in_none y c)), tt)
    (λ a b c d. ⊎_elim
    (λ (same : x ≡ b). subst (R a) same (pairs.0 a (in_reverse xs a c)))
    (λ (none : Contains [] b). absurd (in_none b none))
    (in_cases x b [] d)))

pub pairwise_distinct : {A : Type 0} (same : A → A → Bool) (xs : List A) → IsDistinct same xs → Pairwise (λ x y. same x y ≡ false) xs
unfolding IsDistinct
pairwise_distinct same [] once = tt
pairwise_distinct same (x ∷ xs) once = (of_all (λ y. same x y ≡ false) xs once.0, pairwise_distinct same xs once.1)

-- no element of a sorted list is before an earlier one
pub pairwise_sorted : {A : Type 0} {R : A → A → Ordering} → IsTotalOrder R → (xs : List A) → IsSorted R xs → Pairwise (λ x y. is_lt (R y x) ≡ false) xs
pairwise_sorted total [] sorted = tt
pairwise_sorted total (x ∷ []) sorted = ((λ y c. absurd (in_none y c)), tt)
pairwise_sorted {A} {R} total (x ∷ next ∷ xs) sorted =
    let rest = pairwise_sorted total (next ∷ xs) (λ k d low high. let shift : suc k + 1 ≡ suc (k + 1) = omega arith in
    subst (λ n. is_lt (R (slice_index_or (x ∷ next ∷ xs) n d) (slice_index_or (next ∷ xs) k d)) ≡ false) shift (sorted (suc k) d (omega arith) (omega (arith, high)))) in
    (from rest, rest)
  where
    to : (a b : A) → is_lt (R b a) ≡ false → is_gt (R a b) ≡ false
    to a b e = sym (reversed (R a b)) ∙ ap is_lt (sym (total.antisymm b a)) ∙ e

    back : (a b : A) → is_gt (R a b) ≡ false → is_lt (R b a) ≡ false
    back a b e = ap is_lt (total.antisymm b a) ∙ reversed (R a b) ∙ e

    first : is_lt (R next x) ≡ false
    first = sorted 0 x (omega arith) (omega arith)

    from : Pairwise (λ a b. is_lt (R b a) ≡ false) (next ∷ xs) → (y : A) → Contains (next ∷ xs) y → is_lt (R y x) ≡ false
    from rest y c = ⊎_elim
        (λ (same : next ≡ y). subst (λ z. is_lt (R z x) ≡ false) same first)
        (λ (later : Contains xs y). back x y (upto total x next y (to x next first) (to next y (rest.0 y later))))
        (in_cases next y xs c)

pub all_pairs : {A : Type 0} (R : A → A → Type 0) (xs : List A) → Pairwise R xs → AllPairs R xs
all_pairs R [] pairs = λ i j d less within. absurd (omega (arith, within))
all_pairs R (x ∷ xs) pairs = AllPairs-cons R x xs (all_from_contains (R x) xs pairs.0) (all_pairs R xs pairs.1)

-- ---- two lists

-- where each element has a partner, there is a list of them
pub choose : {A B : Type 0} (R : A → B → Type 0) (xs : List A) → ((x : A) → Contains xs x → (y : B) × R x y) → (ys : List B) × Each R xs ys
choose R [] each = ([], tt)
choose R (x ∷ xs) each =
    let first = each x (in_front x xs) in
    let rest = choose R xs (λ y c. each y (in_rest x y xs c)) in
    (first.0 ∷ rest.0, (first.1, rest.1))

pub each_second : {A B : Type 0} (R : A → B → Type 0) (xs : List A) (ys : List B) (y : B) → Each R xs ys → Contains ys y → (x : A) × Contains xs x × R x y
each_second R xs [] y e c = absurd (in_none y c)
each_second R [] (b ∷ ys) y e c = absurd e
each_second R (a ∷ xs) (b ∷ ys) y e c = ⊎_elim
    (λ (is : b ≡ y). (a, in_front a xs, subst (R a) is e.0))
    (λ (rest : Contains ys y). let found = each_second R xs ys y e.1 rest in (found.0, in_rest a found.0 xs found.1, found.2))
    (in_cases b y ys c)

pub each_first : {A B : Type 0} (R : A → B → Type 0) (xs : List A) (ys : List B) (x : A) → Each R xs ys → Contains xs x → (y : B) × Contains ys y × R x y
each_first R [] ys x e c = absurd (in_none x c)
each_first R (a ∷ xs) [] x e c = absurd e
each_first R (a ∷ xs) (b ∷ ys) x e c = ⊎_elim
    (λ (is : a ≡ x). (b, in_front b ys, subst (λ z. R z b) is e.0))
    (λ (rest : Contains xs x). let found = each_first R xs ys x e.1 rest in (found.0, in_rest b found.0 ys found.1, found.2))
    (in_cases a x xs c)

pub each_more_of : {A B : Type 0} (R S : A → B → Type 0) (xs : List A) (ys : List B) → ((x : A) (y : B) → R x y → S x y) → Each R xs ys → Each S xs ys
each_more_of R S [] [] more e = tt
each_more_of R S [] (b ∷ ys) more e = absurd e
each_more_of R S (a ∷ xs) [] more e = absurd e
each_more_of R S (a ∷ xs) (b ∷ ys) more e = (more a b e.0, each_more_of R S xs ys more e.1)

pub each_of_map : {A B D : Type 0} (R : D → B → Type 0) (f : A → D) (xs : List A) (ys : List B) → Each (λ x y. R (f x) y) xs ys → Each R (map f xs) ys
each_of_map R f [] [] e = tt
each_of_map R f [] (b ∷ ys) e = absurd e
each_of_map R f (a ∷ xs) [] e = absurd e
each_of_map R f (a ∷ xs) (b ∷ ys) e = (e.0, each_of_map R f xs ys e.1)

pub as_long : {A B : Type 0} (R : A → B → Type 0) (xs : List A) (ys : List B) → Each R xs ys → length ys ≡ length xs
as_long R [] [] e = refl
as_long R [] (b ∷ ys) e = absurd e
as_long R (a ∷ xs) [] e = absurd e
as_long R (a ∷ xs) (b ∷ ys) e = let rest = as_long R xs ys e.1 in omega (arith, rest)

-- what holds of partners that are later on in both lists
pub pairwise_each : {A B : Type 0} (R : A → B → Type 0) (P : A → A → Type 0) (Q : B → B → Type 0) (xs : List A) (ys : List B) → Each R xs ys → Pairwise P xs
    → ((a x : A) (b y : B) → R a b → R x y → P a x → Q b y) → Pairwise Q ys
pairwise_each R P Q [] [] e pairs along = tt
pairwise_each R P Q [] (b ∷ ys) e pairs along = absurd e
pairwise_each R P Q (a ∷ xs) [] e pairs along = absurd e
pairwise_each R P Q (a ∷ xs) (b ∷ ys) e pairs along = (
  λ y c. let from = each_second R xs ys y e.1 c in along a from.0 b y e.0 from.2 (pairs.0 from.0 from.1),
  pairwise_each R P Q xs ys e.1 pairs.1 along,
)
