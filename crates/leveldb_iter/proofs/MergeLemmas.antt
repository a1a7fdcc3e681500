-- Positions in a merge of sorted lists, and in the lists.
use Rattle.std.proofs.Common.{◌≡◌, ◌≢◌, ⊎_elim, ℕ, ◌+◌, ◌-◌, ◌<◌, ◌≤◌, Bool, true, false, List, [], length, refl, sym, ◌∙◌, ap, subst, arith, Option, Some, None}
use Rattle.std.specs.Prelude.{Contains, not, if◌then◌else◌}
use Rattle.std.proofs.lemmas.Bool.{cases_lt, false≢true}
use Rattle.std.proofs.lemmas.Option.{same_Some}
use Rattle.std.proofs.lemmas.List.{get_or_past, get_or_default}
use Rattle.std.proofs.lemmas.List.Elements.{Contains-get_or, All-contains}
use Rattle.leveldb_base.proofs.HistoryLemmas.{in_none}
use Rattle.leveldb_base.proofs.OrderLemmas.{lt_less, not_less}
use Rattle.std.specs.Ordering.{ordering_reverse, is_lt}
use Rattle.std.specs.declared.cmp.Ordering.{Ordering}
use Rattle.std.specs.declared.cmp.Ordering.TheVariants.{Less, Equal, Greater}
use Rattle.leveldb_base.specs.Cmp.{IsPreorderOn}
use Rattle.leveldb_base.specs.Types.{Pair, position_within, previous_position, next_position, pair_at}
use Rattle.leveldb_base.specs.History.{AreRising}
use Rattle.leveldb_base.specs.declared.types.Direction.{Direction}
use Rattle.leveldb_base.specs.declared.types.Direction.TheVariants.{Forward, Reverse}
use Rattle.leveldb_iter.specs.declared.children.Tie.TheVariants.{Alone, Shared, Clash}
use Rattle.leveldb_iter.specs.Merge.{count_while, beside_cut, HaveOnePairAKey, IsCut, IsMerge, IsPairOf}
use Rattle.leveldb_iter.specs.Children.{IsFirstOf, IsTie, list_at}
use Rattle.leveldb_iter.specs.Walk.{KeyOrder}
use Rattle.leveldb_iter.proofs.CountLemmas.{pair_of_index, before_count, at_count, count-le, count_at, rising_at}
use Rattle.leveldb_iter.proofs.CutLemmas.{IsFirstBeside, IsOnSide, asym, not_less_trans, within_in, within_past, previous_in, at_some, cut_through, equal_right, equal_turned, first_beside, first_both, first_of_equal, first_trans, in_order, one_pair, same_side}

-- the next position in a direction
abbrev pub toward : Direction → List Pair → Option ℕ → Option ℕ
toward Forward pairs position = next_position pairs position
toward Reverse pairs position = previous_position position

-- the cut on the other side of a key: after it, or in reverse before it
abbrev pub past : Direction → (List ℕ → List ℕ → Ordering) → List ℕ → List ℕ → Bool
past Forward cmp key k = not (is_lt (cmp key k))
past Reverse cmp key k = is_lt (cmp k key)

is_less : (r : Ordering) → (r ≢ Less → ⊥) → is_lt r ≡ true
is_less Less h = refl
is_less Equal h = absurd (h (λ e. cc))
is_less Greater h = absurd (h (λ e. cc))

is_greater : (r : Ordering) → r ≢ Less → r ≢ Equal → r ≡ Greater
is_greater Less h k = absurd (h refl)
is_greater Equal h k = absurd (k refl)
is_greater Greater h k = refl

not_after : (r : Ordering) → r ≢ Less → not (is_lt r) ≡ true
not_after r h = ap not (not_less r h)

after : (r : Ordering) → r ≡ Less → not (is_lt r) ≡ false
after r e = ap (λ x. not (is_lt x)) e

beside_cut-same : (d : Direction) (these those : List ℕ → Bool) (pairs : List Pair) → count_while these pairs ≡ count_while those pairs → beside_cut d these pairs ≡ beside_cut d those pairs
beside_cut-same Forward these those pairs e = ap (position_within pairs) e
beside_cut-same Reverse these those pairs e = ap (λ n. previous_position (Some n)) e

none_some : {A : Type 0} (x : A) (o : Option A) → o ≡ None → o ≡ Some x → ⊥
none_some x o e f = cc

module _ {accepts : List ℕ → Bool} {cmp : List ℕ → List ℕ → Ordering} (o : IsPreorderOn accepts cmp) (p : List ℕ) (accepts_p : accepts p ≡ true) where
  -- the other side of a key is a cut
  pub cut_past : (d : Direction) → IsCut (record { accepts = accepts; cmp = cmp }) (past d cmp p)
  cut_past Forward a b q r le t = not_after (cmp p a) (not_less_trans o p b a accepts_p r q (λ l. false≢true (sym (after (cmp p b) l) ∙ t)) le)
  cut_past Reverse a b q r le t = is_less (cmp a p) (λ h. not_less_trans o b a p r q accepts_p le h (lt_less (cmp b p) t))

  module _ (pairs : List Pair) (rising : AreRising cmp pairs) (accepted : (pair : Pair) → Contains pairs pair → accepts pair.0 ≡ true) (before : List ℕ → Bool) where
    ok : (i : ℕ) → i < length pairs → accepts (pair_of_index pairs i).0 ≡ true
    ok i h = accepted (pair_of_index pairs i) (Contains-get_or pairs i ([], []) h)

    -- a list that is at that key passes it
    pub passed_own : (d : Direction) (own : Pair) → pair_at pairs (beside_cut d before pairs) ≡ Some own → cmp own.0 p ≡ Equal
        → beside_cut d (past d cmp p) pairs ≡ toward d pairs (beside_cut d before pairs)
    passed_own Forward own e equal =
        let n = count_while before pairs in
        let test = past Forward cmp p in
        ⊎_elim
        (λ (lt : n < length pairs).
        let is : pair_of_index pairs n ≡ own = same_Some (pair_of_index pairs n) own (sym (at_some pairs (position_within pairs n) n (within_in pairs n lt) lt) ∙ e) in
        let at_p : cmp (pair_of_index pairs n).0 p ≡ Equal = ap (λ (x : Pair). cmp x.0 p) is ∙ equal in
        let counted : count_while test pairs ≡ n + 1 = count_at test pairs (n + 1) (omega arith)
        (λ i h.
        let within : i < length pairs = omega arith in
        let alike = o.alike (pair_of_index pairs n).0 p (pair_of_index pairs i).0 (ok n lt) accepts_p (ok i within) at_p in
        not_after (cmp p (pair_of_index pairs i).0) (λ l. in_order o pairs rising accepted i n (omega arith) lt (alike ∙ l)))
        (λ h.
        let less : cmp (pair_of_index pairs n).0 (pair_of_index pairs (n + 1)).0 ≡ Less = rising_at cmp pairs rising n (n + 1) (omega arith) h in
        let alike = o.alike (pair_of_index pairs n).0 p (pair_of_index pairs (n + 1)).0 (ok n lt) accepts_p (ok (n + 1) h) at_p in
        after (cmp p (pair_of_index pairs (n + 1)).0) (sym alike ∙ less)) in
        ap (position_within pairs) counted ∙ ap (next_position pairs) (sym (within_in pairs n lt)))
        (λ (ge : length pairs ≤ n). absurd (none_some own (pair_at pairs (position_within pairs n)) (ap (pair_at pairs) (within_past pairs n ge)) e))
        (cases_lt n (length pairs))
    passed_own Reverse own e equal =
        let n = count_while before pairs in
        let most = count-le before pairs in
        let test = past Reverse cmp p in
        ⊎_elim
        (λ (pos : 0 < n).
        let lt : n - 1 < length pairs = omega arith in
        let is : pair_of_index pairs (n - 1) ≡ own = same_Some (pair_of_index pairs (n - 1)) own (sym (at_some pairs (previous_position (Some n)) (n - 1) (previous_in n pos) lt) ∙ e) in
        let at_p : cmp (pair_of_index pairs (n - 1)).0 p ≡ Equal = ap (λ (x : Pair). cmp x.0 p) is ∙ equal in
        let counted : count_while test pairs ≡ n - 1 = count_at test pairs (n - 1) (omega arith)
        (λ i h.
        let less : cmp (pair_of_index pairs i).0 (pair_of_index pairs (n - 1)).0 ≡ Less = rising_at cmp pairs rising i (n - 1) h lt in
        let alike = equal_right o (pair_of_index pairs (n - 1)).0 p (pair_of_index pairs i).0 (ok (n - 1) lt) accepts_p (ok i (omega arith)) at_p in
        ap is_lt (sym alike ∙ less))
        (λ h. ap is_lt at_p) in
        ap (λ m. previous_position (Some m)) counted ∙ ap previous_position (sym (previous_in n pos)))
        (λ (ge : n ≤ 0). let none : n ≡ 0 = omega arith in absurd (none_some own (pair_at pairs (previous_position (Some n))) (ap (λ m. pair_at pairs (previous_position (Some m))) none) e))
        (cases_lt 0 n)

    -- one that is at another, which comes later, or at none, stays
    pub passed_other : (d : Direction) → IsCut (record { accepts = accepts; cmp = cmp }) before → IsOnSide d before p
        → ((own : Pair) → pair_at pairs (beside_cut d before pairs) ≡ Some own → IsFirstOf cmp d p own.0 × (cmp own.0 p ≢ Equal))
        → beside_cut d (past d cmp p) pairs ≡ beside_cut d before pairs
    passed_other Forward cut side later =
        let n = count_while before pairs in
        let test = past Forward cmp p in
        let counted : count_while test pairs ≡ n = count_at test pairs n (count-le before pairs)
        (λ i h.
        let within : i < length pairs = omega (arith, h, count-le before pairs) in
        not_after (cmp p (pair_of_index pairs i).0) (λ l. false≢true (sym side
        ∙ cut p (pair_of_index pairs i).0 accepts_p (ok i within) (asym o p (pair_of_index pairs i).0 accepts_p (ok i within) l) (before_count before pairs i h))))
        (λ h.
        let own = pair_of_index pairs n in
        let rule = later own (at_some pairs (position_within pairs n) n (within_in pairs n h) h) in
        let greater = is_greater (cmp own.0 p) rule.0 rule.1 in
        after (cmp p own.0) (o.turned p own.0 accepts_p (ok n h) ∙ ap ordering_reverse greater)) in
        beside_cut-same Forward test before pairs counted
    passed_other Reverse cut side later =
        let n = count_while before pairs in
        let most = count-le before pairs in
        let test = past Reverse cmp p in
        let counted : count_while test pairs ≡ n = count_at test pairs n most
        (λ i h.
        let lt : n - 1 < length pairs = omega arith in
        let own = pair_of_index pairs (n - 1) in
        let rule = later own (at_some pairs (previous_position (Some n)) (n - 1) (previous_in n (omega arith)) lt) in
        let within : i < length pairs = omega arith in
        is_less (cmp (pair_of_index pairs i).0 p) (λ not_before.
        not_less_trans o own.0 (pair_of_index pairs i).0 p (ok (n - 1) lt) (ok i within) accepts_p (in_order o pairs rising accepted i (n - 1) (omega arith) lt) not_before
        (is_before own (ok (n - 1) lt) rule.0 rule.1)))
        (λ h.
        let next = (pair_of_index pairs n).0 in
        not_less (cmp next p) (λ l. false≢true (sym (at_count before pairs h) ∙ cut next p (ok n h) accepts_p (asym o next p (ok n h) accepts_p l) side))) in
        beside_cut-same Reverse test before pairs counted
      where
        is_before : (own : Pair) → accepts own.0 ≡ true → cmp p own.0 ≢ Less → cmp own.0 p ≢ Equal → cmp own.0 p ≡ Less
        is_before own a first differs = lt_less (cmp own.0 p) (is_less (cmp own.0 p) (λ h.
            let greater = is_greater (cmp own.0 p) h differs in
            first (o.turned p own.0 accepts_p a ∙ ap ordering_reverse greater)))

-- ---- a merge by the numbers of its lists

-- a merge of the lists by their numbers
pub record IsMergeByNumber (order : KeyOrder) (lists : List (List Pair)) (pairs : List Pair) : Type 0 where
  -- the merge is sorted
  pub rising : AreRising order.cmp pairs
  -- its keys are accepted
  pub accepted : (pair : Pair) → Contains pairs pair → order.accepts pair.0 ≡ true
  -- each list is sorted
  pub each : (k : ℕ) → AreRising order.cmp (list_at lists k)
  -- and its keys are accepted
  pub each_accepted : (k : ℕ) (pair : Pair) → Contains (list_at lists k) pair → order.accepts pair.0 ≡ true
  -- each pair of the merge is one of a list
  pub from : (pair : Pair) → Contains pairs pair → (k : ℕ) × Contains (list_at lists k) pair
  -- each key of a list is one of the merge
  pub keys : (k : ℕ) (pair : Pair) → Contains (list_at lists k) pair → (kept : Pair) × Contains pairs kept × (order.cmp kept.0 pair.0 ≡ Equal)

in_some_list : (lists : List (List Pair)) (k : ℕ) (pair : Pair) → Contains (list_at lists k) pair → k < length lists
in_some_list lists k pair c = ⊎_elim
    (λ (lt : k < length lists). lt)
    (λ (ge : length lists ≤ k). absurd (in_none pair (subst (λ l. Contains l pair) (get_or_past lists k [] ge) c)))
    (cases_lt k (length lists))

-- a pair of the list of a number is one of a list, and the other way round
pub pair_of_list : (lists : List (List Pair)) (k : ℕ) (pair : Pair) → Contains (list_at lists k) pair → IsPairOf lists pair
pair_of_list lists k pair c = (k, list_at lists k, in_some_list lists k pair c, get_or_default lists k (list_at lists k) [] (in_some_list lists k pair c), c)

pub list_of_pair : (lists : List (List Pair)) (pair : Pair) → IsPairOf lists pair → (k : ℕ) × Contains (list_at lists k) pair
list_of_pair lists pair any = (any.0, subst (λ l. Contains l pair) (sym any.3 ∙ get_or_default lists any.0 any.1 [] any.2) any.4)

pub by_number : {order : KeyOrder} {lists : List (List Pair)} {pairs : List Pair} → IsMerge order lists pairs → IsMergeByNumber order lists pairs
by_number {order} {lists} {pairs} m = record {
  rising = (m.sorted).rising;
  accepted = λ pair c. All-contains (λ (x : Pair). order.accepts x.0 ≡ true) pairs pair m.sorted.accepted c;
  each = λ k. ⊎_elim (λ (lt : k < length lists). (m.each k [] lt).rising) (λ (ge : length lists ≤ k). subst (AreRising order.cmp) (sym (get_or_past lists k [] ge)) tt) (cases_lt k (length lists));
  each_accepted = λ k pair c. All-contains (λ (x : Pair). order.accepts x.0 ≡ true) (list_at lists k) pair (m.each k [] (in_some_list lists k pair c)).accepted c;
  from = λ pair c. list_of_pair lists pair (m.from pair c);
  keys = λ k pair c. m.keys pair (pair_of_list lists k pair c);
}

-- ---- the best of the lists' pairs beside a cut

-- the pair of the one that was found
abbrev pub pair_found : (ℕ → Option Pair) → Option ℕ → Option Pair
pair_found heads None = None
pair_found heads (Some i) = heads i

module _ {order : KeyOrder} (o : IsPreorderOn order.accepts order.cmp) (lists : List (List Pair)) (pairs : List Pair) (merge : IsMergeByNumber order lists pairs)
    (before : List ℕ → Bool) (cut : IsCut order before) (d : Direction) (heads : ℕ → Option Pair) (are : (k : ℕ) → heads k ≡ pair_at (list_at lists k) (beside_cut d before (list_at lists k))) where
  -- the merge's own pair is the first beside the cut
  pub own_first : IsFirstBeside order.cmp d before pairs (pair_at pairs (beside_cut d before pairs))
  own_first = first_beside o pairs merge.rising merge.accepted before (cut_through o before cut pairs merge.accepted) d

  -- and that of each list there
  pub head_first : (k : ℕ) (head : Option Pair) → heads k ≡ head → IsFirstBeside order.cmp d before (list_at lists k) head
  head_first k head e = subst (IsFirstBeside order.cmp d before (list_at lists k)) (sym (are k) ∙ e)
      (first_beside o (list_at lists k) (merge.each k) (merge.each_accepted k) before (cut_through o before cut (list_at lists k) (merge.each_accepted k)) d)

  -- a list with a key on this side has a pair there that comes no later
  found_at : (k : ℕ) (pair : Pair) → Contains (list_at lists k) pair → IsOnSide d before pair.0 → (head : Pair) × (heads k ≡ Some head) × Contains (list_at lists k) head × IsFirstOf order.cmp d head.0 pair.0
  found_at k pair c side = by (heads k) refl
    where
      by : (head : Option Pair) → heads k ≡ head → (head : Pair) × (heads k ≡ Some head) × Contains (list_at lists k) head × IsFirstOf order.cmp d head.0 pair.0
      by None e = absurd (head_first k None e pair c side)
      by (Some head) e = let first = head_first k (Some head) e in (head, e, first.0, first.2 pair c side)

  -- the merge's own pair comes no later than any of them
  pub own_before : (own : Pair) → IsFirstBeside order.cmp d before pairs (Some own) → (k : ℕ) (head : Pair) → heads k ≡ Some head → IsFirstOf order.cmp d own.0 head.0
  own_before own first k head e =
      let there = head_first k (Some head) e in
      let kept = merge.keys k head there.0 in
      let p = merge.accepted own first.0 in
      let q = merge.accepted kept.0 kept.1 in
      let r = merge.each_accepted k head there.0 in
      first_trans o d own.0 (kept.0).0 head.0 p q r
      (first.2 kept.0 kept.1 (same_side o before cut d head.0 (kept.0).0 r q (equal_turned o (kept.0).0 head.0 q r kept.2) there.1))
      (first_of_equal o d (kept.0).0 head.0 q r kept.2)

  -- Of a pair that is a first of them, where those of equal key are the same.
  module _ (i : ℕ) (best : Pair) (at : heads i ≡ Some best) (first : (k : ℕ) (other : Pair) → heads k ≡ Some other → IsFirstOf order.cmp d best.0 other.0)
      (same : (k : ℕ) (other : Pair) → heads k ≡ Some other → order.cmp other.0 best.0 ≡ Equal → other ≡ best) where
    in_list : Contains (list_at lists i) best
    in_list = (head_first i (Some best) at).0

    on_side : IsOnSide d before best.0
    on_side = (head_first i (Some best) at).1

    best_accepted : order.accepts best.0 ≡ true
    best_accepted = merge.each_accepted i best in_list

    -- it is the only pair of its key
    pub only_pair : (other : Pair) → IsPairOf lists other → order.cmp other.0 best.0 ≡ Equal → other ≡ best
    only_pair other any equal =
        let from = list_of_pair lists other any in
        let k = from.0 in
        let a = merge.each_accepted k other from.1 in
        let found = found_at k other from.1 (same_side o before cut d best.0 other.0 best_accepted a (equal_turned o other.0 best.0 a best_accepted equal) on_side) in
        let head = found.0 in
        let h = merge.each_accepted k head found.2 in
        let no_later = first_trans o d head.0 other.0 best.0 h a best_accepted found.3 (first_of_equal o d other.0 best.0 a best_accepted equal) in
        let head_equal = first_both o d head.0 best.0 h best_accepted no_later (first k head found.1) in
        let is_best : head ≡ best = same k head found.1 head_equal in
        let with_other : order.cmp other.0 head.0 ≡ Equal = ap (λ (x : Pair). order.cmp other.0 x.0) is_best ∙ equal in
        one_pair o (list_at lists k) (merge.each k) (merge.each_accepted k) other head from.1 found.2 with_other ∙ is_best

    -- and the merge's own
    pub best_is_own : (own : Option Pair) → IsFirstBeside order.cmp d before pairs own → own ≡ Some best
    best_is_own None first_own =
        let kept = merge.keys i best in_list in
        let q = merge.accepted kept.0 kept.1 in
        absurd (first_own kept.0 kept.1 (same_side o before cut d best.0 (kept.0).0 best_accepted q (equal_turned o (kept.0).0 best.0 q best_accepted kept.2) on_side))
    best_is_own (Some own) first_own =
        let from = merge.from own first_own.0 in
        let p = merge.accepted own first_own.0 in
        let found = found_at from.0 own from.1 first_own.1 in
        let h = merge.each_accepted from.0 found.0 found.2 in
        let best_first = first_trans o d best.0 (found.0).0 own.0 best_accepted h p (first from.0 found.0 found.1) found.3 in
        let equal = first_both o d own.0 best.0 p best_accepted (own_before own first_own i best at) best_first in
        ap (λ (x : Pair). Some x) (only_pair own (pair_of_list lists from.0 own from.1) equal)

  -- where none is at a pair, the merge isn't
  pub none_is_own : ((k : ℕ) → heads k ≡ None) → (own : Option Pair) → IsFirstBeside order.cmp d before pairs own → own ≡ None
  none_is_own none None first = refl
  none_is_own none (Some own) first =
      let from = merge.from own first.0 in
      absurd (head_first from.0 None (none from.0) own from.1 first.1)

  -- those of equal key are the same unless there is a clash
  pub same_unless : (i : ℕ) (best : Pair) → heads i ≡ Some best → (shared : Bool) → IsTie order.cmp heads i best (if shared then Shared else Alone)
      → (k : ℕ) (other : Pair) → heads k ≡ Some other → order.cmp other.0 best.0 ≡ Equal → other ≡ best
  same_unless i best at true tie = tie
  same_unless i best at false tie = λ k other e equal. same_Some other best (sym e ∙ ap heads (tie k other e equal) ∙ at)

  -- and where the lists have one pair a key there is none
  pub no_clash : HaveOnePairAKey order lists → (i : ℕ) (best : Pair) → heads i ≡ Some best → IsTie order.cmp heads i best Clash → ⊥
  no_clash one i best at tie =
      let own = head_first i (Some best) at in
      let other = head_first tie.0 (Some tie.1) tie.2 in
      tie.4 (one tie.1 best (pair_of_list lists tie.0 tie.1 other.0) (pair_of_list lists i best own.0) tie.3)
