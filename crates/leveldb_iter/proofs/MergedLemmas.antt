-- Sorted lists have a merge: each pair is put where it belongs, unless its key is there. Where
-- pairs of equal key are the same pair, it has exactly their pairs, and is the only one.
use Rattle.std.proofs.Common.{◌≡◌, ◌⊎◌, inl, inr, ⊎_elim, ℕ, zero, suc, ◌<◌, true, List, [], ◌∷◌, length, get_or, refl, sym, ◌∙◌, ap, subst, arith}
use Rattle.std.specs.Prelude.{Contains, All, Any}
use Rattle.std.specs.declared.cmp.Ordering.{Ordering}
use Rattle.std.specs.declared.cmp.Ordering.TheVariants.{Less, Equal, Greater}
use Rattle.std.specs.Ordering.{ordering_reverse}
use Rattle.std.specs.Cmp.{IsTotalOrder}
use Rattle.leveldb_base.specs.History.{AreRising}
use Rattle.leveldb_base.specs.Types.{Pair}
use Rattle.leveldb_base.proofs.HistoryLemmas.{in_none, in_front, in_rest, in_cases, each_after, all_after, one_rising_list}
use Rattle.leveldb_base.proofs.OrderLemmas.{lt_less}
use Rattle.std.proofs.lemmas.Cmp.{tied_itself}
use Rattle.std.proofs.lemmas.List.Elements.{All-contains, Contains-get_or}
use Rattle.leveldb_iter.specs.Merge.{IsMerge, IsPairOf, EachHasMerge, MergeIsExact, OneMerge}
use Rattle.leveldb_iter.specs.Walk.{IsSortedIn, KeyOrder}

-- ---- some element of a list by its first

pub any_front : {X : Type 0} {P : X → Type 0} (x : X) (xs : List X) → P x → Any P (x ∷ xs)
any_front x xs p = (0, x, omega arith, refl, p)

pub any_rest : {X : Type 0} {P : X → Type 0} (x : X) (xs : List X) → Any P xs → Any P (x ∷ xs)
any_rest x xs any = (suc any.0, any.1, (let h = any.2 in omega arith), any.3, any.4)

pub any_none : {X : Type 0} {P : X → Type 0} → Any P [] → ⊥
any_none any = let h = any.2 in omega arith

pub any_cases : {X : Type 0} {P : X → Type 0} (x : X) (xs : List X) → Any P (x ∷ xs) → P x ⊎ Any P xs
any_cases {X} {P} x xs any = by any.0 any.1 any.2 any.3 any.4
  where
    by : (k : ℕ) (y : X) → k < length (x ∷ xs) → get_or (x ∷ xs) k y ≡ y → P y → P x ⊎ Any P xs
    by zero y h e p = inl (subst P (sym e) p)
    by (suc k) y h e p = inr (k, y, omega arith, e, p)

-- ---- a pair put into a sorted list

module _ (cmp : List ℕ → List ℕ → Ordering) where
  -- a pair put before the first whose key is after its own, unless its key is there
  abbrev pub with_pair : Pair → List Pair → List Pair
  with_pair p [] = p ∷ []
  with_pair p (x ∷ xs) =
      elim (cmp x.0 p.0) [
        | Less ↦ x ∷ with_pair p xs
        | Equal ↦ x ∷ xs
        | Greater ↦ p ∷ x ∷ xs
      ]

  -- and each of these pairs
  abbrev pub with_pairs : List Pair → List Pair → List Pair
  with_pairs [] xs = xs
  with_pairs (p ∷ ps) xs = with_pair p (with_pairs ps xs)

  -- one pair of each key of these lists
  abbrev pub merge_of : List (List Pair) → List Pair
  merge_of [] = []
  merge_of (list ∷ lists) = with_pairs list (merge_of lists)

  -- one of these has a key
  abbrev HasKey : List Pair → List ℕ → Type 0
  HasKey xs key = (kept : Pair) × Contains xs kept × (cmp kept.0 key ≡ Equal)

  -- by cases on how the first pair is to that which is put
  abbrev placed : Pair → Pair → List Pair → List Pair → Ordering → List Pair
  placed p x xs more r =
      elim r [
        | Less ↦ x ∷ more
        | Equal ↦ x ∷ xs
        | Greater ↦ p ∷ x ∷ xs
      ]

  -- it is there, or one that was there
  in_with_pair : (p : Pair) (xs : List Pair) (q : Pair) → Contains (with_pair p xs) q → (p ≡ q) ⊎ Contains xs q
  in_with_pair p [] q c = in_cases p q [] c
  in_with_pair p (x ∷ xs) q c = by (in_with_pair p xs q) (cmp x.0 p.0) c
    where
      by : (Contains (with_pair p xs) q → (p ≡ q) ⊎ Contains xs q) → (r : Ordering) → Contains (placed p x xs (with_pair p xs) r) q → (p ≡ q) ⊎ Contains (x ∷ xs) q
      by more Less c = ⊎_elim
          (λ (e : x ≡ q). inr (subst (λ y. Contains (x ∷ xs) y) e (in_front x xs)))
          (λ (d : Contains (with_pair p xs) q). ⊎_elim (λ (e : p ≡ q). inl e) (λ (f : Contains xs q). inr (in_rest x q xs f)) (more d))
          (in_cases x q (with_pair p xs) c)
      by more Equal c = inr c
      by more Greater c = in_cases p q (x ∷ xs) c

  -- what was there still is
  still_there : (p : Pair) (xs : List Pair) (q : Pair) → Contains xs q → Contains (with_pair p xs) q
  still_there p [] q c = absurd (in_none q c)
  still_there p (x ∷ xs) q c = by (still_there p xs q) (cmp x.0 p.0)
    where
      by : (Contains xs q → Contains (with_pair p xs) q) → (r : Ordering) → Contains (placed p x xs (with_pair p xs) r) q
      by more Less = ⊎_elim
          (λ (e : x ≡ q). subst (λ y. Contains (x ∷ with_pair p xs) y) e (in_front x (with_pair p xs)))
          (λ (d : Contains xs q). in_rest x q (with_pair p xs) (more d))
          (in_cases x q xs c)
      by more Equal = c
      by more Greater = in_rest p q (x ∷ xs) c

  in_with_pairs : (ps xs : List Pair) (q : Pair) → Contains (with_pairs ps xs) q → Contains ps q ⊎ Contains xs q
  in_with_pairs [] xs q c = inr c
  in_with_pairs (p ∷ ps) xs q c = ⊎_elim
      (λ (e : p ≡ q). inl (subst (λ y. Contains (p ∷ ps) y) e (in_front p ps)))
      (λ (d : Contains (with_pairs ps xs) q). ⊎_elim (λ (f : Contains ps q). inl (in_rest p q ps f)) (λ (f : Contains xs q). inr f) (in_with_pairs ps xs q d))
      (in_with_pair p (with_pairs ps xs) q c)

  all_still_there : (ps xs : List Pair) (q : Pair) → Contains xs q → Contains (with_pairs ps xs) q
  all_still_there [] xs q c = c
  all_still_there (p ∷ ps) xs q c = still_there p (with_pairs ps xs) q (all_still_there ps xs q c)

  in_merge_of : (lists : List (List Pair)) (q : Pair) → Contains (merge_of lists) q → IsPairOf lists q
  in_merge_of [] q c = absurd (in_none q c)
  in_merge_of (list ∷ lists) q c = ⊎_elim
      (λ (d : Contains list q). any_front list lists d)
      (λ (d : Contains (merge_of lists) q). any_rest list lists (in_merge_of lists q d))
      (in_with_pairs list (merge_of lists) q c)

  module _ (total : IsTotalOrder cmp) where
    -- its key is there
    own_key : (p : Pair) (xs : List Pair) → HasKey (with_pair p xs) p.0
    own_key p [] = (p, in_front p [], tied_itself total p.0)
    own_key p (x ∷ xs) = by (own_key p xs) (cmp x.0 p.0) refl
      where
        by : HasKey (with_pair p xs) p.0 → (r : Ordering) → cmp x.0 p.0 ≡ r → HasKey (placed p x xs (with_pair p xs) r) p.0
        by more Less e = (more.0, in_rest x more.0 (with_pair p xs) more.1, more.2)
        by more Equal e = (x, in_front x xs, e)
        by more Greater e = (p, in_front p (x ∷ xs), tied_itself total p.0)

    own_keys : (ps xs : List Pair) (q : Pair) → Contains ps q → HasKey (with_pairs ps xs) q.0
    own_keys [] xs q c = absurd (in_none q c)
    own_keys (p ∷ ps) xs q c = ⊎_elim
        (λ (e : p ≡ q). subst (λ (y : Pair). HasKey (with_pair p (with_pairs ps xs)) y.0) e (own_key p (with_pairs ps xs)))
        (λ (d : Contains ps q). let more = own_keys ps xs q d in (more.0, still_there p (with_pairs ps xs) more.0 more.1, more.2))
        (in_cases p q ps c)

    keys_of_lists : (lists : List (List Pair)) (q : Pair) → IsPairOf lists q → HasKey (merge_of lists) q.0
    keys_of_lists [] q any = absurd (any_none any)
    keys_of_lists (list ∷ lists) q any = ⊎_elim
        (λ (d : Contains list q). own_keys list (merge_of lists) q d)
        (λ (d : IsPairOf lists q). let more = keys_of_lists lists q d in (more.0, all_still_there list (merge_of lists) more.0 more.1, more.2))
        (any_cases list lists any)

    with_pair_rises : (p : Pair) (xs : List Pair) → AreRising cmp xs → AreRising cmp (with_pair p xs)
    with_pair_rises p [] rising = (tt, tt)
    with_pair_rises p (x ∷ xs) rising = by (with_pair_rises p xs rising.1) (cmp x.0 p.0) refl
      where
        by : AreRising cmp (with_pair p xs) → (r : Ordering) → cmp x.0 p.0 ≡ r → AreRising cmp (placed p x xs (with_pair p xs) r)
        by more Less e = (
          all_after cmp x.0 (with_pair p xs) (λ q c. ⊎_elim
              (λ (f : p ≡ q). ap (λ (y : Pair). cmp x.0 y.0) (sym f) ∙ e)
              (λ (d : Contains xs q). lt_less (cmp x.0 q.0) (each_after cmp x.0 xs q rising.0 d))
              (in_with_pair p xs q c)),
          more,
        )
        by more Equal e = rising
        by more Greater e =
            let less : cmp p.0 x.0 ≡ Less = total.antisymm p.0 x.0 ∙ ap ordering_reverse e in
            ((less, all_after cmp p.0 xs (λ q c. total.trans p.0 x.0 q.0 less (lt_less (cmp x.0 q.0) (each_after cmp x.0 xs q rising.0 c)))), rising)

    with_pairs_rises : (ps xs : List Pair) → AreRising cmp xs → AreRising cmp (with_pairs ps xs)
    with_pairs_rises [] xs rising = rising
    with_pairs_rises (p ∷ ps) xs rising = with_pair_rises p (with_pairs ps xs) (with_pairs_rises ps xs rising)

    merge_of_rises : (lists : List (List Pair)) → AreRising cmp (merge_of lists)
    merge_of_rises [] = tt
    merge_of_rises (list ∷ lists) = with_pairs_rises list (merge_of lists) (merge_of_rises lists)

-- one pair of each key of sorted lists, put into one another, are a merge
merge_of_is : (order : KeyOrder) → IsTotalOrder order.cmp → (lists : List (List Pair)) → All (IsSortedIn order) lists → IsMerge order lists (merge_of order.cmp lists)
merge_of_is order total lists each = record {
  each = each;
  sorted = record {
    rising = merge_of_rises order.cmp total lists;
    accepted = λ k d h.
        let merged = merge_of order.cmp lists in
        let pair = get_or merged k d in
        let any = in_merge_of order.cmp lists pair (Contains-get_or merged k d h) in
        let list = each any.0 any.1 any.2 in
        All-contains (λ (x : Pair). order.accepts x.0 ≡ true) any.1 pair (subst (All (λ (x : Pair). order.accepts x.0 ≡ true)) any.3 list.accepted) any.4;
  };
  from = in_merge_of order.cmp lists;
  keys = keys_of_lists order.cmp total lists;
}

pub each_has_merge : EachHasMerge
each_has_merge order total lists each = (merge_of order.cmp lists, merge_of_is order total lists each)

pub merge_is_exact : MergeIsExact
merge_is_exact order lists merged merge one pair = (
  merge.from pair,
  λ any.
      let kept = merge.keys pair any in
      subst (Contains merged) (one kept.0 pair (merge.from kept.0 kept.1) any kept.2) kept.1,
)

pub one_merge : OneMerge
one_merge order total lists these those a b one =
    let this = merge_is_exact order lists these a one in
    let that = merge_is_exact order lists those b one in
    one_rising_list order.cmp total these those ((a.sorted).rising) ((b.sorted).rising)
    (λ pair. ((λ c. (that pair).1 ((this pair).0 c)), (λ c. (this pair).1 ((that pair).0 c))))
