-- The choice of the child that is at the first pair.
use Rattle.std.proofs.Common.{◌≡◌, ◌≢◌, ◌⊎◌, ⊎_elim, ℕ, ◌+◌, ◌<◌, ◌≤◌, Bool, true, List, length, refl, sym, ◌∙◌, ap, subst, arith, Option, Some, None}
use Rattle.std.specs.Prelude.{option_and_then}
use Rattle.std.proofs.lemmas.Bool.{cases_lt}
use Rattle.std.proofs.lemmas.Option.{slice_get_past, same_Some}
use Rattle.std.specs.Ordering.{ordering_reverse}
use Rattle.std.specs.declared.cmp.Ordering.{Ordering}
use Rattle.std.specs.declared.cmp.Ordering.TheVariants.{Less, Equal, Greater}
use Rattle.leveldb_base.specs.Cmp.{IsPreorderOn}
use Rattle.leveldb_base.specs.Types.{Pair}
use Rattle.leveldb_base.specs.declared.types.Direction.{Direction}
use Rattle.leveldb_base.specs.declared.types.Direction.TheVariants.{Forward, Reverse}
use Rattle.leveldb_iter.specs.Children.{IsFirstOf, IsBest, IsTie, IsJoined, IsBetter, best_pair, head_of, order_in}
use Rattle.leveldb_iter.specs.declared.children.Best.{Best}
use Rattle.leveldb_iter.specs.declared.children.Tie.{Tie}
use Rattle.leveldb_iter.specs.declared.children.Tie.TheVariants.{Alone, Shared, Clash}
use Rattle.leveldb_iter.specs.declared.walk.Walk.{Ghosts as WalkGhosts}
use Rattle.leveldb_iter.proofs.CutLemmas.{irreflexive, first_trans}

-- how the best pair is to those of the children before a number
abbrev pub TieSoFar : (List ℕ → List ℕ → Ordering) → (ℕ → Option Pair) → ℕ → ℕ → Pair → Tie → Type 0
TieSoFar cmp heads n i pair Alone = (k : ℕ) (other : Pair) → k < n → heads k ≡ Some other → cmp other.0 pair.0 ≡ Equal → k ≡ i
TieSoFar cmp heads n i pair Shared = (k : ℕ) (other : Pair) → k < n → heads k ≡ Some other → cmp other.0 pair.0 ≡ Equal → other ≡ pair
TieSoFar cmp heads n i pair Clash = IsTie cmp heads i pair Clash

-- this one is the best of the children before a number
abbrev pub IsBestSoFar : (List ℕ → List ℕ → Ordering) → Direction → (ℕ → Option Pair) → ℕ → ℕ → Pair → Tie → Type 0
IsBestSoFar cmp d heads n i pair tie = (heads i ≡ Some pair) × ((k : ℕ) (other : Pair) → k < n → heads k ≡ Some other → IsFirstOf cmp d pair.0 other.0)
    × TieSoFar cmp heads n i pair tie

-- what was found among those before a number
abbrev pub SoFar : (List ℕ → List ℕ → Ordering) → Direction → (ℕ → Option Pair) → ℕ → Option Best → Type 0
SoFar cmp d heads n None = (k : ℕ) → k < n → heads k ≡ None
SoFar cmp d heads n (Some best) = IsBestSoFar cmp d heads n best.index (best_pair best) best.tie

-- its number, and how the others are to it
abbrev pub index_found : Option Best → Option (ℕ × Tie)
index_found None = None
index_found (Some best) = Some (best.index, best.tie)

pub head_past : {E T I : Type 0} (walk : WalkGhosts I E T) (children : List I) (k : ℕ) → length children ≤ k → head_of walk children k ≡ None
head_past walk children k h = ap (option_and_then walk.here) (slice_get_past children k h)

-- what is found stands before the number
pub better_within : (cmp : List ℕ → List ℕ → Ordering) (d : Direction) (i : ℕ) (here : Option Pair) (best new : Option Best) → IsBetter cmp d best i here new
    → ((x : Best) → best ≡ Some x → x.index < i) → (x : Best) → new ≡ Some x → x.index < i + 1
better_within cmp d i None best new b w x e = let l = w x (sym b ∙ e) in omega arith
better_within cmp d i (Some pair) best None b w x e = absurd b
better_within cmp d i (Some pair) None (Some new) b w x e = let s : new.index ≡ x.index = ap (λ (y : Best). y.index) (same_Some new x e) in omega (arith, b.0)
better_within cmp d i (Some pair) (Some old) (Some new) b w x e =
    let s : new.index ≡ x.index = ap (λ (y : Best). y.index) (same_Some new x e) in
    let l = w old refl in
    ⊎_elim
    (λ first. omega (arith, first.1, s))
    (λ rest. ⊎_elim
    (λ equal. omega (arith, equal.1, s, l))
    (λ kept. let same : new.index ≡ old.index = ap (λ (y : Best). y.index) kept.1 in omega (arith, same, s, l)) rest) b

-- a number before the next one
last_or : (P : Type 0) (n k : ℕ) → k < n + 1 → (k < n → P) → (k ≡ n → P) → P
last_or P n k lt below at = ⊎_elim below (λ ge. at (omega (arith, lt, ge))) (cases_lt k n)

module _ {accepts : List ℕ → Bool} {cmp : List ℕ → List ℕ → Ordering} (o : IsPreorderOn accepts cmp) where
  -- ---- two keys

  equal_in : (d : Direction) (a b : List ℕ) → order_in cmp d a b ≡ Equal → cmp a b ≡ Equal
  equal_in Forward a b e = e
  equal_in Reverse a b e = by (cmp a b) e
    where
      by : (r : Ordering) → ordering_reverse r ≡ Equal → r ≡ Equal
      by Less e = absurd cc
      by Equal e = refl
      by Greater e = absurd cc

  not_equal_in : (d : Direction) (a b : List ℕ) → order_in cmp d a b ≡ Greater → cmp a b ≢ Equal
  not_equal_in Forward a b e f = cc
  not_equal_in Reverse a b e f = let r = ap ordering_reverse f in cc

  -- the one that isn't first comes after the other
  first_of_greater : (d : Direction) (a b : List ℕ) → accepts a ≡ true → accepts b ≡ true → order_in cmp d a b ≢ Less → IsFirstOf cmp d b a
  first_of_greater Forward a b p q h = h
  first_of_greater Reverse a b p q h = λ l. h (sym (o.turned b a q p) ∙ l)

  first_of_less : (d : Direction) (a b : List ℕ) → accepts a ≡ true → accepts b ≡ true → order_in cmp d a b ≡ Less → IsFirstOf cmp d a b
  first_of_less Forward a b p q e = λ l. let t = o.turned a b p q in let r : ordering_reverse (cmp b a) ≡ Greater = ap ordering_reverse l in cc
  first_of_less Reverse a b p q e = λ l. let r : ordering_reverse (cmp a b) ≡ Greater = ap ordering_reverse l in cc

  first_of_itself : (d : Direction) (a b : List ℕ) → accepts a ≡ true → a ≡ b → IsFirstOf cmp d a b
  first_of_itself Forward a b p e = subst (λ x. cmp x a ≢ Less) e (irreflexive o a p)
  first_of_itself Reverse a b p e = subst (λ x. cmp a x ≢ Less) e (irreflexive o a p)

  -- what is before one that is first is equal to none that isn't before that
  none_equal : (d : Direction) (a b c : List ℕ) → accepts a ≡ true → accepts b ≡ true → accepts c ≡ true → order_in cmp d a b ≡ Less → IsFirstOf cmp d b c → cmp c a ≢ Equal
  none_equal Forward a b c p q r e h f = h (o.alike c a b r p q f ∙ e)
  none_equal Reverse a b c p q r e h f =
      h (o.turned b c q r ∙ ap ordering_reverse (o.alike c a b r p q f) ∙ e)

  module _ (d : Direction) (heads : ℕ → Option Pair) (accepted : (k : ℕ) (pair : Pair) → heads k ≡ Some pair → accepts pair.0 ≡ true) where
    -- ---- one more child

    -- which is at no pair
    skipped : (n i : ℕ) (pair : Pair) (tie : Tie) → heads n ≡ None → IsBestSoFar cmp d heads n i pair tie → IsBestSoFar cmp d heads (n + 1) i pair tie
    skipped n i pair tie e s = (s.0, (λ k other lt at. last_or (IsFirstOf cmp d pair.0 other.0) n k lt (λ l. s.1 k other l at) (λ q. absurd (none k other at q))), tied tie s.2)
      where
        none : (k : ℕ) (other : Pair) → heads k ≡ Some other → k ≡ n → ⊥
        none k other at q = let f = sym (ap heads q ∙ e) ∙ at in cc

        tied : (tie : Tie) → TieSoFar cmp heads n i pair tie → TieSoFar cmp heads (n + 1) i pair tie
        tied Alone t = λ k other lt at equal. last_or (k ≡ i) n k lt (λ l. t k other l at equal) (λ q. absurd (none k other at q))
        tied Shared t = λ k other lt at equal. last_or (other ≡ pair) n k lt (λ l. t k other l at equal) (λ q. absurd (none k other at q))
        tied Clash t = t

    -- which is the first at a pair, or before the one found so far
    first_found : (n : ℕ) (pair : Pair) → heads n ≡ Some pair → ((k : ℕ) (other : Pair) → k < n → heads k ≡ Some other → IsFirstOf cmp d pair.0 other.0 × (cmp other.0 pair.0 ≢ Equal))
        → IsBestSoFar cmp d heads (n + 1) n pair Alone
    first_found n pair e before = (
      e,
      (λ k other lt at. last_or (IsFirstOf cmp d pair.0 other.0) n k lt (λ l. (before k other l at).0)
          (λ q.
          let same : other ≡ pair = same_Some other pair (sym at ∙ ap heads q ∙ e) in
          first_of_itself d pair.0 other.0 (accepted n pair e) (ap (λ (x : Pair). x.0) (sym same)))),
      (λ k other lt at equal. last_or (k ≡ n) n k lt (λ l. absurd ((before k other l at).1 equal)) (λ q. q)),
    )

    beaten : (n i : ℕ) (old pair : Pair) (tie : Tie) → heads n ≡ Some pair → order_in cmp d pair.0 old.0 ≡ Less → IsBestSoFar cmp d heads n i old tie → IsBestSoFar cmp d heads (n + 1) n pair Alone
    beaten n i old pair tie e less s = first_found n pair e (λ k other l at.
        let p = accepted n pair e in
        let q = accepted i old s.0 in
        let r = accepted k other at in
        let f = s.1 k other l at in
        (first_trans o d pair.0 old.0 other.0 p q r (first_of_less d pair.0 old.0 p q less) f, none_equal d pair.0 old.0 other.0 p q r less f))

    -- whose key is equal
    equalled : (n i : ℕ) (old pair : Pair) (tie new_tie : Tie) → heads n ≡ Some pair → order_in cmp d pair.0 old.0 ≡ Equal → IsJoined tie old pair new_tie
        → IsBestSoFar cmp d heads n i old tie → IsBestSoFar cmp d heads (n + 1) i old new_tie
    equalled n i old pair tie new_tie e equal join s = (
      s.0,
      (λ k other lt at. last_or (IsFirstOf cmp d old.0 other.0) n k lt (λ l. s.1 k other l at)
          (λ q.
          let same : other ≡ pair = same_Some other pair (sym at ∙ ap heads q ∙ e) in
          subst (λ (x : Pair). IsFirstOf cmp d old.0 x.0) (sym same)
          (first_of_greater d pair.0 old.0 (accepted n pair e) (accepted i old s.0) (λ less. let c = sym equal ∙ less in cc)))),
      tied tie new_tie join s.2,
    )
      where
        at_last : (k : ℕ) (other : Pair) → heads k ≡ Some other → k ≡ n → other ≡ pair
        at_last k other at q = same_Some other pair (sym at ∙ ap heads q ∙ e)

        clash : (tie : Tie) → (tie ≡ Clash) ⊎ (pair ≢ old) → TieSoFar cmp heads n i old tie → IsTie cmp heads i old Clash
        clash Clash j t = t
        clash Alone j t = ⊎_elim (λ (c : Alone ≡ Clash). absurd cc) (λ (differ : pair ≢ old). (n, pair, e, equal_in d pair.0 old.0 equal, differ)) j
        clash Shared j t = ⊎_elim (λ (c : Shared ≡ Clash). absurd cc) (λ (differ : pair ≢ old). (n, pair, e, equal_in d pair.0 old.0 equal, differ)) j

        shared : (tie : Tie) → tie ≢ Clash → pair ≡ old → TieSoFar cmp heads n i old tie → TieSoFar cmp heads (n + 1) i old Shared
        shared Clash isnt same t = absurd (isnt refl)
        shared Alone isnt same t = λ k other lt at equal. last_or (other ≡ old) n k lt
            (λ l. same_Some other old (sym at ∙ ap heads (t k other l at equal) ∙ s.0)) (λ q. at_last k other at q ∙ same)
        shared Shared isnt same t = λ k other lt at equal. last_or (other ≡ old) n k lt (λ l. t k other l at equal) (λ q. at_last k other at q ∙ same)

        tied : (tie new_tie : Tie) → IsJoined tie old pair new_tie → TieSoFar cmp heads n i old tie → TieSoFar cmp heads (n + 1) i old new_tie
        tied tie Alone j t = absurd j
        tied tie Shared j t = shared tie j.0 j.1 t
        tied tie Clash j t = clash tie j t

    -- whose key is after
    kept : (n i : ℕ) (old pair : Pair) (tie : Tie) → heads n ≡ Some pair → order_in cmp d pair.0 old.0 ≡ Greater → IsBestSoFar cmp d heads n i old tie → IsBestSoFar cmp d heads (n + 1) i old tie
    kept n i old pair tie e greater s = (
      s.0,
      (λ k other lt at. last_or (IsFirstOf cmp d old.0 other.0) n k lt (λ l. s.1 k other l at)
          (λ q. subst (λ (x : Pair). IsFirstOf cmp d old.0 x.0) (sym (at_last k other at q))
          (first_of_greater d pair.0 old.0 (accepted n pair e) (accepted i old s.0) (λ less. let c = sym greater ∙ less in cc)))),
      tied tie s.2,
    )
      where
        at_last : (k : ℕ) (other : Pair) → heads k ≡ Some other → k ≡ n → other ≡ pair
        at_last k other at q = same_Some other pair (sym at ∙ ap heads q ∙ e)

        never : {A : Type 0} (k : ℕ) (other : Pair) → heads k ≡ Some other → cmp other.0 old.0 ≡ Equal → k ≡ n → A
        never k other at equal q = absurd (not_equal_in d pair.0 old.0 greater (subst (λ (x : Pair). cmp x.0 old.0 ≡ Equal) (at_last k other at q) equal))

        tied : (tie : Tie) → TieSoFar cmp heads n i old tie → TieSoFar cmp heads (n + 1) i old tie
        tied Alone t = λ k other lt at equal. last_or (k ≡ i) n k lt (λ l. t k other l at equal) (never k other at equal)
        tied Shared t = λ k other lt at equal. last_or (other ≡ old) n k lt (λ l. t k other l at equal) (never k other at equal)
        tied Clash t = t

    -- the best by its parts
    by_parts : (n : ℕ) (new : Best) (i : ℕ) (pair : Pair) (tie : Tie) → new.index ≡ i → best_pair new ≡ pair → new.tie ≡ tie → IsBestSoFar cmp d heads n i pair tie → SoFar cmp d heads n (Some new)
    by_parts n new i pair tie e f g s =
        subst (λ t. IsBestSoFar cmp d heads n new.index (best_pair new) t) (sym g)
        (subst (λ p. IsBestSoFar cmp d heads n new.index p tie) (sym f)
        (subst (λ j. IsBestSoFar cmp d heads n j pair tie) (sym e) s))

    -- one more
    pub more : (n : ℕ) (here : Option Pair) → heads n ≡ here → (best new : Option Best) → IsBetter cmp d best n here new → SoFar cmp d heads n best → SoFar cmp d heads (n + 1) new
    more n None e None new b s = subst (SoFar cmp d heads (n + 1)) (sym b) (λ k lt. last_or (heads k ≡ None) n k lt (λ l. s k l) (λ q. ap heads q ∙ e))
    more n None e (Some best) new b s = subst (SoFar cmp d heads (n + 1)) (sym b) (skipped n best.index (best_pair best) best.tie e s)
    more n (Some pair) e best None b s = absurd b
    more n (Some pair) e None (Some new) b s = by_parts (n + 1) new n pair Alone b.0 b.1 b.2
        (first_found n pair e (λ k other l at. absurd (let f = sym (s k l) ∙ at in cc)))
    more n (Some pair) e (Some old) (Some new) b s = ⊎_elim
        (λ first. by_parts (n + 1) new n pair Alone first.1 first.2 first.3 (beaten n old.index (best_pair old) pair old.tie e first.0 s))
        (λ rest. ⊎_elim
        (λ equal. by_parts (n + 1) new old.index (best_pair old) new.tie equal.1 equal.2 refl (equalled n old.index (best_pair old) pair old.tie new.tie e equal.0 equal.3 s))
        (λ last. subst (λ x. SoFar cmp d heads (n + 1) (Some x)) (sym last.1) (kept n old.index (best_pair old) pair old.tie e last.0 s)) rest) b

    -- all of them
    pub best_in_all : (n : ℕ) → ((k : ℕ) → n ≤ k → heads k ≡ None) → (best : Option Best) → SoFar cmp d heads n best → IsBest cmp d heads (index_found best)
    best_in_all n none None s = λ k. ⊎_elim (s k) (none k) (cases_lt k n)
    best_in_all n none (Some best) s = (best_pair best, s.0, (λ k other at. s.1 k other (below k other at) at), tied best.tie s.2)
      where
        below : (k : ℕ) (other : Pair) → heads k ≡ Some other → k < n
        below k other at = ⊎_elim (λ (l : k < n). l) (λ (ge : n ≤ k). let f = sym (none k ge) ∙ at in absurd cc) (cases_lt k n)

        tied : (tie : Tie) → TieSoFar cmp heads n best.index (best_pair best) tie → IsTie cmp heads best.index (best_pair best) tie
        tied Alone t = λ k other at equal. t k other (below k other at) at equal
        tied Shared t = λ k other at equal. t k other (below k other at) at equal
        tied Clash t = t
