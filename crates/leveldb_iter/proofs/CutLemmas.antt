-- What is beside a cut of a rising list.
use Rattle.std.proofs.Common.{◌≡◌, ◌≢◌, ◌⊎◌, ⊎_elim, ℕ, ◌-◌, ◌<◌, ◌≤◌, Bool, true, false, List, [], length, refl, sym, ◌∙◌, ap, subst, arith, Option, Some, None}
use Rattle.std.specs.Prelude.{Contains}
use Rattle.std.proofs.lemmas.Bool.{cases_lt, cases_order, false≢true}
use Rattle.std.proofs.lemmas.Option.{slice_get-get_or}
use Rattle.std.proofs.lemmas.List.Elements.{Contains-get_or}
use Rattle.std.proofs.lemmas.Grind.{common_steps}
use Rattle.std.specs.Ordering.{ordering_reverse}
use Rattle.std.specs.declared.cmp.Ordering.{Ordering}
use Rattle.std.specs.declared.cmp.Ordering.TheVariants.{Less, Equal, Greater}
use Rattle.leveldb_base.specs.Cmp.{IsPreorderOn}
use Rattle.leveldb_base.specs.CmpLaws.{itself_equal}
use Rattle.leveldb_base.specs.Types.{Pair, position_within, previous_position, pair_at}
use Rattle.leveldb_base.specs.History.{AreRising}
use Rattle.leveldb_base.specs.declared.types.Direction.{Direction}
use Rattle.leveldb_base.specs.declared.types.Direction.TheVariants.{Forward, Reverse}
use Rattle.leveldb_base.proofs.OrderLemmas.{is_false}
use Rattle.leveldb_iter.specs.Merge.{IsCut, count_while, beside_cut}
use Rattle.leveldb_iter.specs.Children.{IsFirstOf}
use Rattle.leveldb_iter.proofs.CountLemmas.{pair_of_index, index_of, before_count, at_count, count-le, rising_at}

-- a cut parts the pairs of a list
abbrev pub IsCutThrough : (List ℕ → List ℕ → Ordering) → (List ℕ → Bool) → List Pair → Type 0
IsCutThrough cmp before pairs = (a b : Pair) → Contains pairs a → Contains pairs b → cmp a.0 b.0 ≡ Less → before b.0 ≡ true → before a.0 ≡ true

-- a key on this side of the cut
abbrev pub IsOnSide : Direction → (List ℕ → Bool) → List ℕ → Type 0
IsOnSide Forward before key = before key ≡ false
IsOnSide Reverse before key = before key ≡ true

-- the first in this direction of the pairs on this side, or none where there are none
abbrev pub IsFirstBeside : (List ℕ → List ℕ → Ordering) → Direction → (List ℕ → Bool) → List Pair → Option Pair → Type 0
IsFirstBeside cmp d before pairs None = (q : Pair) → Contains pairs q → IsOnSide d before q.0 → ⊥
IsFirstBeside cmp d before pairs (Some p) = Contains pairs p × IsOnSide d before p.0 × ((q : Pair) → Contains pairs q → IsOnSide d before q.0 → IsFirstOf cmp d p.0 q.0)

pub within_in : (pairs : List Pair) (n : ℕ) → n < length pairs → position_within pairs n ≡ Some n
within_in pairs n h = grind (arith, common_steps)

pub within_past : (pairs : List Pair) (n : ℕ) → length pairs ≤ n → position_within pairs n ≡ None
within_past pairs n h = grind (arith, common_steps)

pub previous_in : (n : ℕ) → 0 < n → previous_position (Some n) ≡ Some (n - 1)
previous_in n h = grind (arith, common_steps)

pub at_some : (pairs : List Pair) (position : Option ℕ) (n : ℕ) → position ≡ Some n → n < length pairs → pair_at pairs position ≡ Some (pair_of_index pairs n)
at_some pairs position n e h = ap (pair_at pairs) e ∙ slice_get-get_or pairs n ([], []) h

module _ {accepts : List ℕ → Bool} {cmp : List ℕ → List ℕ → Ordering} (o : IsPreorderOn accepts cmp) where
  pub asym : (a b : List ℕ) → accepts a ≡ true → accepts b ≡ true → cmp a b ≡ Less → cmp b a ≢ Less
  asym a b p q l m = let t = o.turned a b p q in let r : ordering_reverse (cmp b a) ≡ Greater = ap ordering_reverse m in cc

  pub irreflexive : (a : List ℕ) → accepts a ≡ true → cmp a a ≢ Less
  irreflexive a p l = let e = itself_equal o a p in cc

  -- one that is not after one that isn't after a third isn't after that
  pub not_less_trans : (a b c : List ℕ) → accepts a ≡ true → accepts b ≡ true → accepts c ≡ true → cmp a b ≢ Less → cmp b c ≢ Less → cmp a c ≢ Less
  not_less_trans a b c p q r h k l = by (cmp a b) refl
    where
      by : (x : Ordering) → cmp a b ≡ x → ⊥
      by Less e = h e
      by Equal e = k (sym (o.alike a b c p q r e) ∙ l)
      by Greater e =
          let ba : cmp b a ≡ Less = o.turned b a q p ∙ ap ordering_reverse e in
          k (o.less b a c q p r ba l)

  -- neither before the other
  pub equal_of_both : (a b : List ℕ) → accepts a ≡ true → accepts b ≡ true → cmp a b ≢ Less → cmp b a ≢ Less → cmp a b ≡ Equal
  equal_of_both a b p q h k = by (cmp a b) refl
    where
      by : (x : Ordering) → cmp a b ≡ x → x ≡ Equal
      by Less e = absurd (h e)
      by Equal e = refl
      by Greater e = absurd (k (o.turned b a q p ∙ ap ordering_reverse e))

  pub first_trans : (d : Direction) (a b c : List ℕ) → accepts a ≡ true → accepts b ≡ true → accepts c ≡ true → IsFirstOf cmp d a b → IsFirstOf cmp d b c → IsFirstOf cmp d a c
  first_trans Forward a b c p q r h k = not_less_trans c b a r q p k h
  first_trans Reverse a b c p q r h k = not_less_trans a b c p q r h k

  pub first_both : (d : Direction) (a b : List ℕ) → accepts a ≡ true → accepts b ≡ true → IsFirstOf cmp d a b → IsFirstOf cmp d b a → cmp a b ≡ Equal
  first_both Forward a b p q h k = equal_of_both a b p q k h
  first_both Reverse a b p q h k = equal_of_both a b p q h k

  -- ---- equal keys

  pub equal_turned : (a b : List ℕ) → accepts a ≡ true → accepts b ≡ true → cmp a b ≡ Equal → cmp b a ≡ Equal
  equal_turned a b p q e = o.turned b a q p ∙ ap ordering_reverse e

  -- every key is compared alike with equal ones
  pub equal_right : (a b c : List ℕ) → accepts a ≡ true → accepts b ≡ true → accepts c ≡ true → cmp a b ≡ Equal → cmp c a ≡ cmp c b
  equal_right a b c p q r e = o.turned c a r p ∙ ap ordering_reverse (o.alike a b c p q r e) ∙ sym (o.turned c b r q)

  -- of equal ones each is first
  pub first_of_equal : (d : Direction) (a b : List ℕ) → accepts a ≡ true → accepts b ≡ true → cmp a b ≡ Equal → IsFirstOf cmp d a b
  first_of_equal Forward a b p q e = λ l. let f = sym (equal_turned a b p q e) ∙ l in cc
  first_of_equal Reverse a b p q e = λ l. let f = sym e ∙ l in cc

  -- and on the same side of a cut
  pub same_side : (before : List ℕ → Bool) → IsCut (record { accepts = accepts; cmp = cmp }) before → (d : Direction) (a b : List ℕ) → accepts a ≡ true → accepts b ≡ true → cmp a b ≡ Equal
      → IsOnSide d before a → IsOnSide d before b
  same_side before cut Forward a b p q e f = is_false (before b) (λ t. false≢true (sym f ∙ cut a b p q (first_of_equal Forward a b p q e) t))
  same_side before cut Reverse a b p q e t = cut b a q p (first_of_equal Reverse a b p q e) t

  -- a cut of the keys parts the pairs of a list
  pub cut_through : (before : List ℕ → Bool) → IsCut (record { accepts = accepts; cmp = cmp }) before → (pairs : List Pair) → ((pair : Pair) → Contains pairs pair → accepts pair.0 ≡ true) → IsCutThrough cmp before pairs
  cut_through before cut pairs accepted a b ca cb less t = cut a.0 b.0 (accepted a ca) (accepted b cb) (asym a.0 b.0 (accepted a ca) (accepted b cb) less) t

  module _ (pairs : List Pair) (rising : AreRising cmp pairs) (accepted : (pair : Pair) → Contains pairs pair → accepts pair.0 ≡ true) where
    ok : (i : ℕ) → i < length pairs → accepts (pair_of_index pairs i).0 ≡ true
    ok i h = accepted (pair_of_index pairs i) (Contains-get_or pairs i ([], []) h)

    -- of two pairs, the one that isn't behind
    pub in_order : (i j : ℕ) → i ≤ j → j < length pairs → cmp (pair_of_index pairs j).0 (pair_of_index pairs i).0 ≢ Less
    in_order i j h k =
        ⊎_elim
        (λ (e : i ≡ j). subst (λ m. cmp (pair_of_index pairs j).0 (pair_of_index pairs m).0 ≢ Less) (sym e) (irreflexive (pair_of_index pairs j).0 (ok j k)))
        (λ (w : (i < j) ⊎ (j < i)).
        ⊎_elim
        (λ (lt : i < j). asym (pair_of_index pairs i).0 (pair_of_index pairs j).0 (ok i (omega arith)) (ok j k) (rising_at cmp pairs rising i j lt k))
        (λ (gt : j < i). absurd (omega arith)) w)
        (cases_order i j)

    -- pairs with Equal keys are one
    pub one_pair : (a b : Pair) → Contains pairs a → Contains pairs b → cmp a.0 b.0 ≡ Equal → a ≡ b
    one_pair a b ca cb e =
        let pa = index_of pairs a ca in
        let pb = index_of pairs b cb in
        let i = pa.0 in
        let j = pb.0 in
        let same : cmp (pair_of_index pairs i).0 (pair_of_index pairs j).0 ≡ Equal = ap (λ (x : Pair). cmp x.0 (pair_of_index pairs j).0) pa.2 ∙ ap (λ (x : Pair). cmp a.0 x.0) pb.2 ∙ e in
        ⊎_elim
        (λ (s : i ≡ j). sym pa.2 ∙ ap (pair_of_index pairs) s ∙ pb.2)
        (λ (w : (i < j) ⊎ (j < i)).
        ⊎_elim
        (λ (lt : i < j). let l = rising_at cmp pairs rising i j lt pb.1 in absurd cc)
        (λ (gt : j < i).
        let l = rising_at cmp pairs rising j i gt pa.1 in
        let t = o.turned (pair_of_index pairs i).0 (pair_of_index pairs j).0 (ok i pa.1) (ok j pb.1) in
        let r : ordering_reverse (cmp (pair_of_index pairs j).0 (pair_of_index pairs i).0) ≡ Greater = ap ordering_reverse l in
        absurd cc) w)
        (cases_order i j)

    module _ (before : List ℕ → Bool) (cut : IsCutThrough cmp before pairs) where
      -- a pair behind one that isn't before the cut isn't either
      not_before : (i j : ℕ) → i ≤ j → j < length pairs → before (pair_of_index pairs i).0 ≡ false → before (pair_of_index pairs j).0 ≡ true → ⊥
      not_before i j h k f t =
          ⊎_elim
          (λ (e : i ≡ j). false≢true (sym f ∙ ap (λ m. before (pair_of_index pairs m).0) e ∙ t))
          (λ (w : (i < j) ⊎ (j < i)).
          ⊎_elim
          (λ (lt : i < j).
          false≢true (sym f ∙ cut (pair_of_index pairs i) (pair_of_index pairs j) (Contains-get_or pairs i ([], []) (omega arith)) (Contains-get_or pairs j ([], []) k) (rising_at cmp pairs rising i j lt k) t))
          (λ (gt : j < i). absurd (omega arith)) w)
          (cases_order i j)

      -- a position of a pair on either side
      pub behind_cut : (q : Pair) → Contains pairs q → before q.0 ≡ false → (i : ℕ) × (i < length pairs) × (count_while before pairs ≤ i) × (pair_of_index pairs i ≡ q)
      behind_cut q c f =
          let p = index_of pairs q c in
          ⊎_elim
          (λ (lt : p.0 < count_while before pairs). absurd (false≢true (sym f ∙ ap (λ (x : Pair). before x.0) (sym p.2) ∙ before_count before pairs p.0 lt)))
          (λ (ge : count_while before pairs ≤ p.0). (p.0, p.1, ge, p.2))
          (cases_lt p.0 (count_while before pairs))

      pub before_cut : (q : Pair) → Contains pairs q → before q.0 ≡ true → (i : ℕ) × (i < length pairs) × (i < count_while before pairs) × (pair_of_index pairs i ≡ q)
      before_cut q c t =
          let p = index_of pairs q c in
          ⊎_elim
          (λ (lt : p.0 < count_while before pairs). (p.0, p.1, lt, p.2))
          (λ (ge : count_while before pairs ≤ p.0).
          absurd (not_before (count_while before pairs) p.0 ge p.1 (at_count before pairs (omega (arith, p.1))) (ap (λ (x : Pair). before x.0) p.2 ∙ t)))
          (cases_lt p.0 (count_while before pairs))

      first_ahead : IsFirstBeside cmp Forward before pairs (pair_at pairs (beside_cut Forward before pairs))
      first_ahead =
          let n = count_while before pairs in
          ⊎_elim
          (λ (lt : n < length pairs).
          subst (IsFirstBeside cmp Forward before pairs) (sym (at_some pairs (position_within pairs n) n (within_in pairs n lt) lt)) (
            Contains-get_or pairs n ([], []) lt,
            at_count before pairs lt,
            λ q c f. let p = behind_cut q c f in subst (λ (x : Pair). cmp x.0 (pair_of_index pairs n).0 ≢ Less) p.3 (in_order n p.0 p.2 p.1),
          ))
          (λ (ge : length pairs ≤ n).
          subst (λ position. IsFirstBeside cmp Forward before pairs (pair_at pairs position)) (sym (within_past pairs n ge)) (λ q c f. let p = behind_cut q c f in omega (arith, p.1, p.2)))
          (cases_lt n (length pairs))

      first_behind : IsFirstBeside cmp Reverse before pairs (pair_at pairs (beside_cut Reverse before pairs))
      first_behind =
          let n = count_while before pairs in
          let most = count-le before pairs in
          ⊎_elim
          (λ (lt : 0 < n).
          subst (IsFirstBeside cmp Reverse before pairs) (sym (at_some pairs (previous_position (Some n)) (n - 1) (previous_in n lt) (omega arith))) (
            Contains-get_or pairs (n - 1) ([], []) (omega arith),
            before_count before pairs (n - 1) (omega arith),
            λ q c f. let p = before_cut q c f in subst (λ (x : Pair). cmp (pair_of_index pairs (n - 1)).0 x.0 ≢ Less) p.3 (in_order p.0 (n - 1) (omega (arith, p.2)) (omega arith)),
          ))
          (λ (ge : n ≤ 0).
          let none : n ≡ 0 = omega arith in
          subst (λ m. IsFirstBeside cmp Reverse before pairs (pair_at pairs (previous_position (Some m)))) (sym none) (λ q c f. let p = before_cut q c f in omega (arith, p.2)))
          (cases_lt 0 n)

      -- beside the cut is the pair that comes first on that side
      pub first_beside : (d : Direction) → IsFirstBeside cmp d before pairs (pair_at pairs (beside_cut d before pairs))
      first_beside Forward = first_ahead
      first_beside Reverse = first_behind
