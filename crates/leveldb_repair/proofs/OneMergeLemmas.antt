-- Sorted lists that have but one merge have one pair of each key.
use Rattle.std.proofs.Common.{◌≡◌, ◌⊎◌, inl, inr, ⊎_elim, List, [], ◌∷◌, map, refl, sym, ◌∙◌, ap, subst, true, ℕ}
use Rattle.std.specs.Prelude.{All, Contains}
use Rattle.std.specs.declared.cmp.Ordering.{Ordering}
use Rattle.std.specs.declared.cmp.Ordering.TheVariants.{Less, Equal, Greater}
use Rattle.std.proofs.lemmas.List.Elements.{All-contains, All-cons, All-head, All-nil, All-tail}
use Rattle.leveldb_base.proofs.EntriesLemmas.{in_map, map_in}
use Rattle.leveldb_base.proofs.HistoryLemmas.{in_cases, in_none}
use Rattle.leveldb_base.specs.Cmp.{IsPreorderOn}
use Rattle.leveldb_base.specs.History.{AreRising, IsBeforeAll}
use Rattle.leveldb_base.specs.Types.{Pair}
use Rattle.std.specs.Ordering.{ordering_reverse}
use Rattle.leveldb_iter.specs.Merge.{HaveOnePairAKey, IsMerge, IsPairOf}
use Rattle.leveldb_iter.specs.Walk.{KeyOrder, IsSortedIn}

-- this pair where a comparison is `Equal`, else the other
abbrev pub chosen : Ordering → Pair → Pair → Pair
chosen Equal own other = own
chosen Less own other = other
chosen Greater own other = other

module _ {order : KeyOrder} (o : IsPreorderOn order.accepts order.cmp) where
  turned_equal : (a b : List ℕ) → order.accepts a ≡ true → order.accepts b ≡ true
      → order.cmp a b ≡ Equal → order.cmp b a ≡ Equal
  turned_equal a b p q e = o.turned b a q p ∙ ap ordering_reverse e

  -- every key is compared alike with equal ones
  alike_right : (a b c : List ℕ) → order.accepts a ≡ true → order.accepts b ≡ true
      → order.accepts c ≡ true → order.cmp a b ≡ Equal → order.cmp c a ≡ order.cmp c b
  alike_right a b c p q r e =
      o.turned c a r p ∙ ap ordering_reverse (o.alike a b c p q r e) ∙ sym (o.turned c b r q)

  -- a key before all of these isn't equal to one
  before_none : (key : List ℕ) (pairs : List Pair) → IsBeforeAll order.cmp key pairs
      → (pair : Pair) → Contains pairs pair → order.cmp key pair.0 ≡ Less
  before_none key [] before pair c = absurd (in_none pair c)
  before_none key (first ∷ pairs) before pair c = ⊎_elim
      (λ (e : first ≡ pair). subst (λ (p : Pair). order.cmp key p.0 ≡ Less) e before.0)
      (λ (rest : Contains pairs pair). before_none key pairs before.1 pair rest)
      (in_cases first pair pairs c)

  -- of sorted pairs, those of equal key are one
  one_of_sorted : (pairs : List Pair) → AreRising order.cmp pairs
      → All (λ pair. order.accepts pair.0 ≡ true) pairs → (a b : Pair) → Contains pairs a
      → Contains pairs b → order.cmp a.0 b.0 ≡ Equal → a ≡ b
  one_of_sorted [] rising accepted a b ca cb equal = absurd (in_none a ca)
  one_of_sorted (first ∷ pairs) rising accepted a b ca cb equal =
      by (one_of_sorted pairs rising.1
      (All-tail (λ (p : Pair). order.accepts p.0 ≡ true) first pairs accepted) a b)
      (in_cases first a pairs ca) (in_cases first b pairs cb)
    where
      ok : (pair : Pair) → Contains (first ∷ pairs) pair → order.accepts pair.0 ≡ true
      ok pair c = All-contains (λ (p : Pair). order.accepts p.0 ≡ true) (first ∷ pairs) pair accepted c

      less : {pair : Pair} → Contains pairs pair → order.cmp first.0 pair.0 ≡ Less
      less {pair} c = before_none first.0 pairs rising.0 pair c

      by : (Contains pairs a → Contains pairs b → order.cmp a.0 b.0 ≡ Equal → a ≡ b)
          → (first ≡ a) ⊎ Contains pairs a → (first ≡ b) ⊎ Contains pairs b → a ≡ b
      by rest (inl e) (inl f) = sym e ∙ f
      by rest (inl e) (inr c) =
          let l : order.cmp a.0 b.0 ≡ Less = ap (λ (p : Pair). order.cmp p.0 b.0) (sym e) ∙ less c in
          absurd (let f : Equal ≡ Less = sym equal ∙ l in cc)
      by rest (inr c) (inl f) =
          let l : order.cmp b.0 a.0 ≡ Less = ap (λ (p : Pair). order.cmp p.0 a.0) (sym f) ∙ less c in
          let t = turned_equal a.0 b.0 (ok a ca) (ok b cb) equal in
          absurd (let g : Equal ≡ Less = sym t ∙ l in cc)
      by rest (inr c) (inr d) = rest c d equal

  -- ---- a pair in place of that of its key

  module _ (own : Pair) (accepts_own : order.accepts own.0 ≡ true) where
    abbrev pub turn : Pair → Pair
    turn pair = chosen (order.cmp pair.0 own.0) own pair

    turn_equal : (pair : Pair) → order.cmp pair.0 own.0 ≡ Equal → turn pair ≡ own
    turn_equal pair e = ap (λ r. chosen r own pair) e

    -- it is this pair, of equal key, or the one that was there
    turn_is : (pair : Pair)
        → ((turn pair ≡ own) × (order.cmp pair.0 own.0 ≡ Equal)) ⊎ (turn pair ≡ pair)
    turn_is pair = by (order.cmp pair.0 own.0) refl
      where
        by : (r : Ordering) → order.cmp pair.0 own.0 ≡ r
            → ((turn pair ≡ own) × (order.cmp pair.0 own.0 ≡ Equal)) ⊎ (turn pair ≡ pair)
        by Less e = inr (ap (λ r. chosen r own pair) e)
        by Equal e = inl (ap (λ r. chosen r own pair) e, e)
        by Greater e = inr (ap (λ r. chosen r own pair) e)

    turn_accepted : (pair : Pair) → order.accepts pair.0 ≡ true → order.accepts (turn pair).0 ≡ true
    turn_accepted pair a = ⊎_elim
        (λ (is : (turn pair ≡ own) × (order.cmp pair.0 own.0 ≡ Equal)).
        ap (λ (p : Pair). order.accepts p.0) is.0 ∙ accepts_own)
        (λ (is : turn pair ≡ pair). ap (λ (p : Pair). order.accepts p.0) is ∙ a)
        (turn_is pair)

    -- it is compared as the one that was there
    turn_left : (pair : Pair) (key : List ℕ) → order.accepts pair.0 ≡ true
        → order.accepts key ≡ true → order.cmp (turn pair).0 key ≡ order.cmp pair.0 key
    turn_left pair key a k = ⊎_elim
        (λ (is : (turn pair ≡ own) × (order.cmp pair.0 own.0 ≡ Equal)).
        ap (λ (p : Pair). order.cmp p.0 key) is.0
        ∙ sym (o.alike pair.0 own.0 key a accepts_own k is.1))
        (λ (is : turn pair ≡ pair). ap (λ (p : Pair). order.cmp p.0 key) is)
        (turn_is pair)

    turn_right : (key : List ℕ) (pair : Pair) → order.accepts key ≡ true
        → order.accepts pair.0 ≡ true → order.cmp key (turn pair).0 ≡ order.cmp key pair.0
    turn_right key pair k a = ⊎_elim
        (λ (is : (turn pair ≡ own) × (order.cmp pair.0 own.0 ≡ Equal)).
        ap (λ (p : Pair). order.cmp key p.0) is.0
        ∙ sym (alike_right pair.0 own.0 key a accepts_own k is.1))
        (λ (is : turn pair ≡ pair). ap (λ (p : Pair). order.cmp key p.0) is)
        (turn_is pair)

    before_turned : (first : Pair) (pairs : List Pair) → order.accepts first.0 ≡ true
        → All (λ pair. order.accepts pair.0 ≡ true) pairs → IsBeforeAll order.cmp first.0 pairs
        → IsBeforeAll order.cmp (turn first).0 (map turn pairs)
    before_turned first [] a all before = tt
    before_turned first (pair ∷ pairs) a all before =
        let b = All-head (λ (p : Pair). order.accepts p.0 ≡ true) pair pairs all in (
          turn_left first (turn pair).0 a (turn_accepted pair b)
              ∙ turn_right first.0 pair a b ∙ before.0,
          before_turned first pairs a
              (All-tail (λ (p : Pair). order.accepts p.0 ≡ true) pair pairs all) before.1,
        )

    turned_rising : (pairs : List Pair) → All (λ pair. order.accepts pair.0 ≡ true) pairs
        → AreRising order.cmp pairs → AreRising order.cmp (map turn pairs)
    turned_rising [] all rising = tt
    turned_rising (pair ∷ pairs) all rising =
        let rest = All-tail (λ (p : Pair). order.accepts p.0 ≡ true) pair pairs all in (
          before_turned pair pairs (All-head (λ (p : Pair). order.accepts p.0 ≡ true) pair pairs all)
              rest rising.0,
          turned_rising pairs rest rising.1,
        )

    turned_accepted : (pairs : List Pair) → All (λ pair. order.accepts pair.0 ≡ true) pairs
        → All (λ pair. order.accepts pair.0 ≡ true) (map turn pairs)
    turned_accepted [] all = All-nil (λ (p : Pair). order.accepts p.0 ≡ true)
    turned_accepted (pair ∷ pairs) all = All-cons (λ (p : Pair). order.accepts p.0 ≡ true) (turn pair) (map turn pairs)
        (turn_accepted pair (All-head (λ (p : Pair). order.accepts p.0 ≡ true) pair pairs all))
        (turned_accepted pairs (All-tail (λ (p : Pair). order.accepts p.0 ≡ true) pair pairs all))

    -- where it is one of the lists, this makes a merge of them of a merge
    module _ (lists : List (List Pair)) (pairs : List Pair) (merge : IsMerge order lists pairs)
        (is_own : IsPairOf lists own) where
      accepted_of : (pair : Pair) → Contains pairs pair → order.accepts pair.0 ≡ true
      accepted_of pair c = All-contains (λ (p : Pair). order.accepts p.0 ≡ true) pairs pair
          merge.sorted.accepted c

      accepted_in : (pair : Pair) → IsPairOf lists pair → order.accepts pair.0 ≡ true
      accepted_in pair any =
          let each = All-contains (IsSortedIn order) lists any.1 merge.each (any.0, any.2, any.3) in
          All-contains (λ (p : Pair). order.accepts p.0 ≡ true) any.1 pair each.accepted any.4

      turned_merge : IsMerge order lists (map turn pairs)
      turned_merge = record {
        each = merge.each;
        sorted = record {
          rising = turned_rising pairs merge.sorted.accepted merge.sorted.rising;
          accepted = turned_accepted pairs merge.sorted.accepted;
        };
        from = λ pair c.
            let was = in_map turn pairs pair c in
            ⊎_elim
            (λ (is : (turn was.0 ≡ own) × (order.cmp (was.0).0 own.0 ≡ Equal)).
            subst (IsPairOf lists) (sym is.0 ∙ was.2) is_own)
            (λ (is : turn was.0 ≡ was.0).
            subst (IsPairOf lists) (sym is ∙ was.2) (merge.from was.0 was.1))
            (turn_is was.0);
        keys = λ pair any.
            let kept = merge.keys pair any in (
              turn kept.0,
              map_in turn pairs kept.0 kept.1,
              turn_left kept.0 pair.0 (accepted_of kept.0 kept.1) (accepted_in pair any) ∙ kept.2,
            );
      }

      -- so if the merge is the only one, it has the pair
      own_there : ((those : List Pair) → IsMerge order lists those → those ≡ pairs)
          → Contains pairs own
      own_there only =
          let kept = merge.keys own is_own in
          subst (λ those. Contains those own) (only (map turn pairs) turned_merge)
          (subst (Contains (map turn pairs)) (turn_equal kept.0 kept.2)
          (map_in turn pairs kept.0 kept.1))

  -- lists with but one merge have one pair of each key
  pub one_merge_one_pair : (lists : List (List Pair)) (pairs : List Pair) → IsMerge order lists pairs
      → ((those : List Pair) → IsMerge order lists those → those ≡ pairs)
      → HaveOnePairAKey order lists
  one_merge_one_pair lists pairs merge only a b is_a is_b equal =
      let accepted = λ (pair : Pair) (any : IsPairOf lists pair).
      All-contains (λ (p : Pair). order.accepts p.0 ≡ true) any.1 pair
      (All-contains (IsSortedIn order) lists any.1 merge.each (any.0, any.2, any.3)).accepted
      any.4 in
      one_of_sorted pairs merge.sorted.rising merge.sorted.accepted a b
      (own_there a (accepted a is_a) lists pairs merge is_a only)
      (own_there b (accepted b is_b) lists pairs merge is_b only) equal
