-- Moves of a merge, in two halves: its children come beside a cut, and one of them is chosen.
use Rattle.std.proofs.Common.{◌≡◌, ◌≢◌, inl, inr, ⊎_elim, ℕ, ◌-◌, ◌<◌, ◌≤◌, Bool, true, false, List, [], length, get_or, refl, sym, ◌∙◌, ap, subst, arith, Option, Some, None, Result, Ok, Err}
use Rattle.std.specs.Prelude.{slice_get, option_and_then, is_some, if◌then◌else◌, OnOk, OnErr, IfErr, Contains}
use Rattle.std.specs.Ordering.{is_lt}
use Rattle.std.specs.Str.{bytes_eq}
use Rattle.std.specs.declared.cmp.Ordering.TheVariants.{Equal}
use Rattle.std.proofs.lemmas.Bool.{cases_lt, false≢true}
use Rattle.std.proofs.lemmas.List.{get_or_past}
use Rattle.std.proofs.lemmas.List.Elements.{Contains-get_or}
use Rattle.std.proofs.lemmas.Option.{slice_get-get_or, slice_get_within, get_or_from_slice_get}
use Rattle.leveldb_base.specs.Cmp.{IsPreorderOn}
use Rattle.leveldb_base.specs.CmpLaws.{itself_equal}
use Rattle.leveldb_base.specs.declared.cmp.Cmp.{Ghosts as CmpGhosts}
use Rattle.leveldb_base.specs.Types.{Pair, IsPosition, position_within, previous_position, next_position, last_position, seek_position, pair_at}
use Rattle.leveldb_base.specs.declared.error.Status.{Status}
use Rattle.leveldb_base.specs.declared.error.StatusCode.TheVariants.{Corruption}
use Rattle.leveldb_base.specs.declared.types.Direction.{Direction}
use Rattle.leveldb_base.specs.declared.types.Direction.TheVariants.{Forward, Reverse}
use Rattle.leveldb_base.proofs.OrderLemmas.{bytes_same, same_bytes}
use Rattle.leveldb_base.proofs.PositionLemmas.{last_before_end}
use Rattle.leveldb_iter.specs.declared.children.Tie.TheVariants.{Alone, Shared}
use Rattle.leveldb_iter.specs.declared.walk.Walk.{Ghosts as WalkGhosts}
use Rattle.leveldb_iter.specs.declared.merging_iter.MergeCore.{MergeCore}
use Rattle.leveldb_iter.specs.Walk.{KeyOrder, key_order, Way, WalkLaws, MovesWalk, Resets}
use Rattle.leveldb_iter.specs.Merge.{HaveOnePairAKey, IsCut, count_while, beside_cut}
use Rattle.leveldb_iter.specs.Children.{list_at, head_of, same_key, AnyFails, AreOver, AreEachAt, AreEachLedTo, StepsOne, StepsEach, StepsAtKey, StepsCurrent, previous_or_last, IsChosen, IsTie}
use Rattle.leveldb_iter.specs.MergingIter.{AreMerged, AreBesideCut, IsAtMergedPair, IsPlacedAt, IsMergeOfLists, IsMergeOfListsAt, IsMergeOver, IsMergeAt, FailsMerged, merged_here, Readies}
use Rattle.leveldb_iter.specs.MergingIterLaws.{merged_over_lists}
use Rattle.leveldb_iter.proofs.CountLemmas.{count-none, count-all, count_before-is, count-le}
use Rattle.leveldb_iter.proofs.CutLemmas.{IsFirstBeside, within_in, within_past, previous_in}
use Rattle.leveldb_iter.proofs.MergeLemmas.{IsMergeByNumber, by_number, pair_of_list, past, toward, passed_own, passed_other, cut_past, own_first, head_first, own_before, only_pair, best_is_own, none_is_own, same_unless, no_clash}
use Rattle.leveldb_iter.proofs.ChildrenLemmas.{same_or, within_some, no_position, steps_some}

-- ---- positions

-- beside a cut is a position of the list
in_range_at : (pairs : List Pair) (n : ℕ) (position : Option ℕ) → position ≡ Some n → n < length pairs → IsPosition pairs position
in_range_at pairs n position e h = subst (IsPosition pairs) (sym e) h

beside_in_range : (d : Direction) (before : List ℕ → Bool) (pairs : List Pair) → IsPosition pairs (beside_cut d before pairs)
beside_in_range Forward before pairs =
    let n = count_while before pairs in
    ⊎_elim
    (λ (lt : n < length pairs). in_range_at pairs n (position_within pairs n) (within_in pairs n lt) lt)
    (λ (ge : length pairs ≤ n). subst (IsPosition pairs) (sym (within_past pairs n ge)) tt)
    (cases_lt n (length pairs))
beside_in_range Reverse before pairs =
    let n = count_while before pairs in
    ⊎_elim
    (λ (lt : 0 < n). in_range_at pairs (n - 1) (previous_position (Some n)) (previous_in n lt) (omega (arith, count-le before pairs)))
    (λ (ge : n ≤ 0). let none : n ≡ 0 = omega arith in subst (λ m. IsPosition pairs (previous_position (Some m))) (sym none) tt)
    (cases_lt 0 n)

-- from the last pair before a cut to the first after it, and back
over_cut : (before : List ℕ → Bool) (pairs : List Pair) → next_position pairs (beside_cut Reverse before pairs) ≡ beside_cut Forward before pairs
over_cut before pairs =
    let n = count_while before pairs in
    ⊎_elim
    (λ (lt : 0 < n). ap (next_position pairs) (previous_in n lt) ∙ ap (position_within pairs) (omega arith))
    (λ (ge : n ≤ 0). let none : n ≡ 0 = omega arith in ap (λ m. next_position pairs (previous_position (Some m))) none ∙ ap (position_within pairs) (sym none))
    (cases_lt 0 n)

back_over_cut : (before : List ℕ → Bool) (pairs : List Pair) → previous_or_last pairs (beside_cut Forward before pairs) ≡ beside_cut Reverse before pairs
back_over_cut before pairs =
    let n = count_while before pairs in
    ⊎_elim
    (λ (lt : n < length pairs). ap (previous_or_last pairs) (within_in pairs n lt))
    (λ (ge : length pairs ≤ n).
    let all : length pairs ≡ n = omega (arith, count-le before pairs, ge) in
    ap (previous_or_last pairs) (within_past pairs n ge) ∙ last_before_end pairs ∙ ap (λ m. previous_position (Some m)) all)
    (cases_lt n (length pairs))

-- from a pair to the one before
back_from : (pairs : List Pair) (position : Option ℕ) (p : Pair) → pair_at pairs position ≡ Some p → previous_position position ≡ previous_or_last pairs position
back_from pairs None p e = absurd cc
back_from pairs (Some i) p e = refl

in_list_at : (pairs : List Pair) (position : Option ℕ) (p : Pair) → pair_at pairs position ≡ Some p → Contains pairs p
in_list_at pairs None p e = absurd cc
in_list_at pairs (Some i) p e =
    let h = slice_get_within pairs i p e in
    subst (Contains pairs) (get_or_from_slice_get pairs i p ([], []) e) (Contains-get_or pairs i ([], []) h)

none_in_none : (position : Option ℕ) → pair_at [] position ≡ None
none_in_none None = refl
none_in_none (Some i) = refl

map_ok : {R : Type 0} {P Q : Type 0} (result : Result R Status) → (P → Q) → OnOk result P → OnOk result Q
map_ok (Ok r) f p = f p
map_ok (Err s) f p = tt

module _ {E T I C : Type 0} (walk : WalkGhosts I E T) (laws : WalkLaws walk.over walk.is_at walk.here walk.fails walk.keeps)
    (cmp : CmpGhosts C) (preorder : (c : C) → IsPreorderOn (cmp.accepts c) (cmp.cmp c)) where
  -- the pairs that children are at
  heads_are : (world : E × T) (children : List I) (order : KeyOrder) (lists : List (List Pair)) (position : List Pair → Option ℕ) → length lists ≡ length children
      → AreEachAt walk world children order lists position → (k : ℕ) → head_of walk children k ≡ pair_at (list_at lists k) (position (list_at lists k))
  heads_are world children order lists position counted each k = by (slice_get children k) refl
    where
      by : (found : Option I) → slice_get children k ≡ found → head_of walk children k ≡ pair_at (list_at lists k) (position (list_at lists k))
      by None e =
          let past_all : length lists ≤ k = ⊎_elim (λ (lt : k < length children). absurd (within_some children k lt e)) (λ ge. omega (arith, ge, counted)) (cases_lt k (length children)) in
          let none = get_or_past lists k [] past_all in
          ap (option_and_then walk.here) e ∙ sym (ap (λ l. pair_at l (position l)) none ∙ none_in_none (position []))
      by (Some child) e = let list = list_at lists k in ap (option_and_then walk.here) e ∙ laws.at_position world child order list (position list) (each k child e)

  -- the order of a merge is a preorder
  ordered : {world : E × T} {c : C} {children : List I} {order : KeyOrder} {lists : List (List Pair)} {pairs : List Pair} → AreMerged walk cmp world c children order lists pairs → IsPreorderOn order.accepts order.cmp
  ordered {world} {c} {children} {order} s = subst (λ (o : KeyOrder). IsPreorderOn o.accepts o.cmp) (sym s.ordered) (preorder c)

  numbered : {world : E × T} {c : C} {children : List I} {order : KeyOrder} {lists : List (List Pair)} {pairs : List Pair} → AreMerged walk cmp world c children order lists pairs → IsMergeByNumber order lists pairs
  numbered s = by_number s.merge

  -- ---- the first half: every child makes a step

  -- every child has a step that leads it beside a cut, and so has the merge
  pub record ComesBeside (Step : E × T → I → KeyOrder → List Pair → Option ℕ → Type 0) (step to : Way) (d : Direction) (world : E × T) (c : C) (children : List I) (order : KeyOrder) (lists : List (List Pair)) (pairs : List Pair) (position : Option ℕ) : Type 0 where
    pub merged : AreMerged walk cmp world c children order lists pairs
    pub before : List ℕ → Bool
    pub cut : IsCut order before
    pub each : AreEachLedTo walk world children order lists Step step (beside_cut d before)
    pub leads : to order pairs position ≡ beside_cut d before pairs

  abbrev stays_merged : {old_world new_world : E × T} {c new_c : C} {children new_children : List I} {order : KeyOrder} {lists : List (List Pair)} {pairs : List Pair} (s : AreMerged walk cmp old_world c children order lists pairs)
      → new_c ≡ c → length new_children ≡ length children → AreOver walk new_world new_children order lists → AreMerged walk cmp new_world new_c new_children order lists pairs
  stays_merged s same counted over = record {
    counted = s.counted ∙ sym counted;
    over = over;
    merge = s.merge;
    ordered = s.ordered ∙ ap (key_order cmp) (sym same);
  }

  pub ready_each : {Step : E × T → I → KeyOrder → List Pair → Option ℕ → Type 0} {From : E × T → MergeCore C I → KeyOrder → List (List Pair) → List Pair → Option ℕ → Type 0} {step to : Way} {d : Direction} {old_world : E × T} (old : MergeCore C I)
      {result : Result (Unit {0}) Status} {new_world : E × T} {new_cmp : C} {new_children : List I} {new_current : Option ℕ} {children : List I}
      → children ≡ old.children.items → StepsEach walk Step step old_world children result new_world new_children → new_cmp ≡ old.cmp → new_current ≡ None
      → ((order : KeyOrder) (lists : List (List Pair)) (pairs : List Pair) (position : Option ℕ) → From old_world old order lists pairs position → ComesBeside Step step to d old_world old.cmp old.children.items order lists pairs position)
      → Readies walk cmp From to d old_world old result new_world new_cmp new_children new_current
  ready_each {Step} {From} {step} {to} {d} {old_world} old {result} {new_world} {new_cmp} {new_children} {new_current} {children} lent steps same none come =
      let m : StepsEach walk Step step old_world old.children.items result new_world new_children = subst (λ xs. StepsEach walk Step step old_world xs result new_world new_children) lent steps in
      record {
        no_current = none;
        ok = λ order lists pairs position from.
            let comes = come order lists pairs position from in
            let merged = comes.merged in
            map_ok result
            (λ (each : AreEachAt walk new_world new_children order lists (beside_cut d comes.before)). record {
              merged = stays_merged merged same m.counted (m.over order lists merged.over);
              before = comes.before;
              cut = comes.cut;
              each = each;
              at = comes.leads;
            })
            (m.ok order lists (beside_cut d comes.before) comes.each);
        same = λ order lists pairs s. stays_merged s same m.counted (m.over order lists s.over);
        kept = m.kept;
        cause = m.cause;
        excuses = m.excuses;
      }

  -- to the first pairs, from wherever the children are
  pub first_comes : (Step : E × T → I → KeyOrder → List Pair → Option ℕ → Type 0) (to : Way) {world : E × T} {c : C} {children : List I} {order : KeyOrder} {lists : List (List Pair)} {pairs : List Pair} {position : Option ℕ} (s : AreMerged walk cmp world c children order lists pairs)
      → ((child : I) (list : List Pair) → walk.over world child order list → Step world child order list None) → to order pairs position ≡ position_within pairs 0
      → ComesBeside Step (λ _ list _. position_within list 0) to Forward world c children order lists pairs position
  first_comes Step to {world} {c} {children} {order} {lists} {pairs} {position} s from leads = record {
    merged = s;
    before = λ key. false;
    cut = λ a b p q le t. t;
    each = λ k child e. let list = list_at lists k in (None, from child list (s.over k child e), ap (position_within list) (sym (count-none list)));
    leads = leads ∙ ap (position_within pairs) (sym (count-none pairs));
  }

  to_last : (list : List Pair) → last_position list ≡ beside_cut Reverse (λ key. true) list
  to_last list = last_before_end list ∙ ap (λ n. previous_position (Some n)) (sym (count-all list))

  -- to the last
  pub last_comes : (Step : E × T → I → KeyOrder → List Pair → Option ℕ → Type 0) {world : E × T} {c : C} {children : List I} {order : KeyOrder} {lists : List (List Pair)} {pairs : List Pair} {position : Option ℕ} (s : AreMerged walk cmp world c children order lists pairs)
      → ((child : I) (list : List Pair) → walk.over world child order list → Step world child order list None)
      → ComesBeside Step (λ _ list _. last_position list) (λ _ list _. last_position list) Reverse world c children order lists pairs position
  last_comes Step {world} {c} {children} {order} {lists} {pairs} {position} s from = record {
    merged = s;
    before = λ key. true;
    cut = λ a b p q le t. refl;
    each = λ k child e. let list = list_at lists k in (None, from child list (s.over k child e), to_last list);
    leads = to_last pairs;
  }

  -- to the first at or after a key
  pub key_comes : (key : List ℕ) (Step : E × T → I → KeyOrder → List Pair → Option ℕ → Type 0) {world : E × T} {c : C} {children : List I} {order : KeyOrder} {lists : List (List Pair)} {pairs : List Pair} {position : Option ℕ} (s : AreMerged walk cmp world c children order lists pairs) → order.accepts key ≡ true
      → ((child : I) (list : List Pair) → walk.over world child order list → Step world child order list None)
      → ComesBeside Step (λ o list _. seek_position o.cmp list key) (λ o list _. seek_position o.cmp list key) Forward world c children order lists pairs position
  key_comes key Step {world} {c} {children} {order} {lists} {pairs} {position} s accepted from = record {
    merged = s;
    before = λ k. is_lt (order.cmp k key);
    cut = cut_past (ordered s) key accepted Reverse;
    each = λ k child e. let list = list_at lists k in (None, from child list (s.over k child e), ap (position_within list) (count_before-is order.cmp key list));
    leads = ap (position_within pairs) (count_before-is order.cmp key pairs);
  }

  module _ {world : E × T} {old : MergeCore C I} {order : KeyOrder} {lists : List (List Pair)} {pairs : List Pair} {position : Option ℕ} (at : IsMergeOfListsAt walk cmp world old order lists pairs position) where
    -- how a merge is placed whose current child is known
    placed_at : (i : ℕ) (d : Direction) → old.current ≡ Some i → old.direction ≡ d → IsPlacedAt walk cmp world old.cmp old.children.items order lists pairs (Some i) old.shared d position
    placed_at i d e f =
        subst (λ c. IsPlacedAt walk cmp world old.cmp old.children.items order lists pairs c old.shared d position) e
        (subst (λ x. IsPlacedAt walk cmp world old.cmp old.children.items order lists pairs old.current old.shared x position) f at.placed)

    pub placed_none : old.current ≡ None → AreMerged walk cmp world old.cmp old.children.items order lists pairs × (position ≡ None)
    placed_none e = subst (λ c. IsPlacedAt walk cmp world old.cmp old.children.items order lists pairs c old.shared old.direction position) e at.placed

    -- from before the cut to after it
    pub forward_comes : (Step : E × T → I → KeyOrder → List Pair → Option ℕ → Type 0) (i : ℕ) → old.current ≡ Some i → old.direction ≡ Reverse
        → ((child : I) (list : List Pair) (p : Option ℕ) → walk.is_at world child order list p → Step world child order list p)
        → ComesBeside Step (λ _. next_position) (λ _. next_position) Forward world old.cmp old.children.items order lists pairs position
    forward_comes Step i e f from =
        let side = (placed_at i Reverse e f).0 in
        record {
          merged = side.merged;
          before = side.before;
          cut = side.cut;
          each = λ k child s.
              let list = list_at lists k in
              let here = beside_cut Reverse side.before list in
              (here, from child list here (side.each k child s), over_cut side.before list);
          leads = ap (next_position pairs) side.at ∙ over_cut side.before pairs;
        }

    -- and back
    pub reverse_comes : (Step : E × T → I → KeyOrder → List Pair → Option ℕ → Type 0) (i : ℕ) → old.current ≡ Some i → old.direction ≡ Forward
        → ((child : I) (list : List Pair) (p : Option ℕ) → walk.is_at world child order list p → Step world child order list p)
        → ComesBeside Step (λ _. previous_or_last) (λ _ _. previous_position) Reverse world old.cmp old.children.items order lists pairs position
    reverse_comes Step i e f from =
        let placed = placed_at i Forward e f in
        let side = placed.0 in
        let own = placed.1 in
        record {
          merged = side.merged;
          before = side.before;
          cut = side.cut;
          each = λ k child s.
              let list = list_at lists k in
              let here = beside_cut Forward side.before list in
              (here, from child list here (side.each k child s), back_over_cut side.before list);
          leads = back_from pairs position own.pair own.same ∙ ap (previous_or_last pairs) side.at ∙ back_over_cut side.before pairs;
        }

  -- ---- the first half: the children at the current pair make a step, and the cut moves past it

  module _ (d : Direction) {world : E × T} {c : C} {children : List I} {order : KeyOrder} {lists : List (List Pair)} {pairs : List Pair} {position : Option ℕ} (i : ℕ) (shared : Bool)
      (side : AreBesideCut walk cmp world c children order lists pairs d position) (own : IsAtMergedPair walk children i shared order lists pairs position) where
    abbrev merged : AreMerged walk cmp world c children order lists pairs
    merged = side.merged

    o : IsPreorderOn order.accepts order.cmp
    o = ordered merged

    m : IsMergeByNumber order lists pairs
    m = numbered merged

    abbrev p : Pair
    p = own.pair

    heads : (k : ℕ) → head_of walk children k ≡ pair_at (list_at lists k) (beside_cut d side.before (list_at lists k))
    heads = heads_are world children order lists (beside_cut d side.before) merged.counted side.each

    own_pair : pair_at pairs (beside_cut d side.before pairs) ≡ Some p
    own_pair = ap (pair_at pairs) (sym side.at) ∙ own.same

    first : IsFirstBeside order.cmp d side.before pairs (Some p)
    first = subst (IsFirstBeside order.cmp d side.before pairs) own_pair (own_first o lists pairs m side.before side.cut d (head_of walk children) heads)

    p_accepted : order.accepts p.0 ≡ true
    p_accepted = m.accepted p first.0

    equal_itself : order.cmp p.0 p.0 ≡ Equal
    equal_itself = itself_equal o p.0 p_accepted

    -- the cut after the pair
    abbrev after : List ℕ → Bool
    after = past d order.cmp p.0

    -- a child at an equal key goes on
    goes_on : (k : ℕ) (h : Pair) → head_of walk children k ≡ Some h → order.cmp h.0 p.0 ≡ Equal → beside_cut d after (list_at lists k) ≡ toward d (list_at lists k) (beside_cut d side.before (list_at lists k))
    goes_on k h e equal = passed_own o p.0 p_accepted (list_at lists k) (m.each k) (m.each_accepted k) side.before d h (sym (heads k) ∙ e) equal

    -- the others stay
    stays_put : (k : ℕ) → ((h : Pair) → head_of walk children k ≡ Some h → order.cmp h.0 p.0 ≢ Equal) → beside_cut d after (list_at lists k) ≡ beside_cut d side.before (list_at lists k)
    stays_put k apart = passed_other o p.0 p_accepted (list_at lists k) (m.each k) (m.each_accepted k) side.before d side.cut first.1
        (λ h e. let there = heads k ∙ e in (own_before o lists pairs m side.before side.cut d (head_of walk children) heads p first k h there, apart h there))

    -- the current child by its number
    current_child : i < length children → (child : I) → (was : I) × (slice_get children i ≡ Some was)
    current_child h child = (get_or children i child, slice_get-get_or children i child h)

    module _ (to : Way) (new_world : E × T) (new : List I) (leads : (list : List Pair) (q : Option ℕ) → to order list q ≡ toward d list q) (h : i < length children) where
      -- where a child is that went on, or stayed
      went_on : (k : ℕ) (child : I) (head : Pair) → head_of walk children k ≡ Some head → order.cmp head.0 p.0 ≡ Equal
          → walk.is_at new_world child order (list_at lists k) (to order (list_at lists k) (beside_cut d side.before (list_at lists k))) → walk.is_at new_world child order (list_at lists k) (beside_cut d after (list_at lists k))
      went_on k child head e equal =
          let list = list_at lists k in
          subst (walk.is_at new_world child order list) (leads list (beside_cut d side.before list) ∙ sym (goes_on k head e equal))

      stayed : (k : ℕ) (child : I) → ((head : Pair) → head_of walk children k ≡ Some head → order.cmp head.0 p.0 ≢ Equal)
          → walk.is_at new_world child order (list_at lists k) (beside_cut d side.before (list_at lists k)) → walk.is_at new_world child order (list_at lists k) (beside_cut d after (list_at lists k))
      stayed k child apart = subst (walk.is_at new_world child order (list_at lists k)) (sym (stays_put k apart))

      -- the current child alone made the step
      each_alone : shared ≡ false → StepsOne walk {R = Unit {0}} walk.is_at to i world children (Ok (tt {0})) new_world new → AreEachAt walk new_world new order lists (beside_cut d after)
      each_alone alone one k child s = same_or i k
          (λ (at_i : k ≡ i).
          let was = current_child h child in
          let move = one.step was.0 child was.1 (ap (slice_get new) (sym at_i) ∙ s) in
          let list = list_at lists i in
          let came = move.ok order list (beside_cut d side.before list) (side.each i was.0 was.1) in
          subst (λ j. walk.is_at new_world child order (list_at lists j) (beside_cut d after (list_at lists j))) (sym at_i) (went_on i child p own.own equal_itself came))
          (λ other.
          let list = list_at lists k in
          stayed k child (λ head e equal. other (own.alone alone k head e equal))
          (laws.stays world new_world one.kept child order list (beside_cut d side.before list) (side.each k child (sym (one.rest k other) ∙ s))))

      -- those at its key did
      each_shared : StepsAtKey walk to i world children (Ok (tt {0})) new_world new → AreEachAt walk new_world new order lists (beside_cut d after)
      each_shared steps k child s =
          let came = steps.ok order lists (beside_cut d side.before) side.each k child s in
          same_or i k
          (λ (at_i : k ≡ i). went_on k child p (ap (head_of walk children) at_i ∙ own.own) equal_itself (came.0 at_i))
          (λ other. by_key (head_of walk children k) refl (same_key (head_of walk children k) (head_of walk children i)) refl (came.1 other))
        where
          is_there : (head : Option Pair) → Bool
          is_there head = same_key head (head_of walk children i)

          by_key : (head : Option Pair) → head_of walk children k ≡ head → (b : Bool) → same_key (head_of walk children k) (head_of walk children i) ≡ b
              → walk.is_at new_world child order (list_at lists k) (if b then to order (list_at lists k) (beside_cut d side.before (list_at lists k)) else beside_cut d side.before (list_at lists k))
              → walk.is_at new_world child order (list_at lists k) (beside_cut d after (list_at lists k))
          by_key None e true f came = let none = sym f ∙ ap is_there e in absurd cc
          by_key (Some head) e true f came =
              let same : bytes_eq head.0 p.0 ≡ true = sym (ap is_there e ∙ ap (same_key (Some head)) own.own) ∙ f in
              went_on k child head e (subst (λ key. order.cmp key p.0 ≡ Equal) (sym (same_bytes head.0 p.0 same)) equal_itself) came
          by_key None e false f came = stayed k child (λ head there equal. let none = sym e ∙ there in cc) came
          by_key (Some head) e false f came = stayed k child
              (λ other there equal.
              let in_list = (head_first o lists pairs m side.before side.cut d (head_of walk children) heads k (Some other) there).0 in
              let is_p : other ≡ p = own.only other (pair_of_list lists k other in_list) equal in
              let same : bytes_eq other.0 p.0 ≡ true = bytes_same other.0 p.0 (ap (λ (x : Pair). x.0) is_p) in
              false≢true (sym f ∙ ap is_there there ∙ ap (same_key (Some other)) own.own ∙ same)) came

      each_current : (StepsCurrent walk to i shared world children (Ok (tt {0})) new_world new) → AreEachAt walk new_world new order lists (beside_cut d after)
      each_current steps = by shared refl steps
        where
          by : (b : Bool) → shared ≡ b → StepsCurrent walk to i b world children (Ok (tt {0})) new_world new → AreEachAt walk new_world new order lists (beside_cut d after)
          by true e steps = each_shared steps
          by false e steps = each_alone e steps

      pub passes : {new_c : C} → StepsCurrent walk to i shared world children (Ok (tt {0})) new_world new → new_c ≡ c → (goal : Option ℕ) → goal ≡ toward d pairs position
          → AreBesideCut walk cmp new_world new_c new order lists pairs d goal
      passes steps same_cmp goal leads_to =
          let left = steps_some walk laws to i shared (Ok (tt {0})) h steps in
          record {
            merged = stays_merged merged same_cmp left.counted (left.over order lists merged.over);
            before = after;
            cut = cut_past o p.0 p_accepted d;
            each = each_current steps;
            at = leads_to ∙ ap (toward d pairs) side.at ∙ sym (passed_own o p.0 p_accepted pairs m.rising m.accepted side.before d p own_pair equal_itself);
          }

  pub ready_own : (d : Direction) (i : ℕ) {to : Way} {old_world : E × T} (old : MergeCore C I)
      {result : Result (Unit {0}) Status} {new_world : E × T} {new_cmp : C} {new_children : List I} {new_current : Option ℕ} {children : List I}
      → children ≡ old.children.items → old.current ≡ Some i → old.direction ≡ d → i < length old.children.items
      → ((order : KeyOrder) (list : List Pair) (q : Option ℕ) → to order list q ≡ toward d list q)
      → StepsCurrent walk to i old.shared old_world children result new_world new_children → new_cmp ≡ old.cmp → new_current ≡ None
      → Readies walk cmp (IsMergeOfListsAt walk cmp) to d old_world old result new_world new_cmp new_children new_current
  ready_own d i {to} {old_world} old {result} {new_world} {new_cmp} {new_children} {new_current} {children} lent e f h leads steps same_cmp none =
      let all : StepsCurrent walk to i old.shared old_world old.children.items result new_world new_children = subst (λ xs. StepsCurrent walk to i old.shared old_world xs result new_world new_children) lent steps in
      let left = steps_some walk laws to i old.shared result h all in
      record {
        no_current = none;
        ok = λ order lists pairs position at. by result all order lists pairs position at;
        same = λ order lists pairs s. stays_merged s same_cmp left.counted (left.over order lists s.over);
        kept = left.kept;
        cause = left.cause;
        excuses = left.excuses;
      }
    where
      by : (result : Result (Unit {0}) Status) → StepsCurrent walk to i old.shared old_world old.children.items result new_world new_children
          → (order : KeyOrder) (lists : List (List Pair)) (pairs : List Pair) (position : Option ℕ) → IsMergeOfListsAt walk cmp old_world old order lists pairs position
          → OnOk result (AreBesideCut walk cmp new_world new_cmp new_children order lists pairs d (to order pairs position))
      by (Ok u) all order lists pairs position at =
          let placed = placed_at at i d e f in
          passes d i old.shared placed.0 placed.1 to new_world new_children (leads order) h all same_cmp (to order pairs position) (leads order pairs position)
      by (Err s) all order lists pairs position at = tt

  -- ---- the second half

  -- at no position
  pub resting : {world : E × T} (it : MergeCore C I) {order : KeyOrder} {lists : List (List Pair)} {pairs : List Pair} → it.current ≡ None → IsMergeOfLists walk cmp world it order lists pairs → IsMergeOfListsAt walk cmp world it order lists pairs None
  resting {world} it {order} {lists} {pairs} none s = record { placed = subst (λ c. IsPlacedAt walk cmp world it.cmp it.children.items order lists pairs c it.shared it.direction None) (sym none) (s, refl) }

  -- a merge that is left at no position has the errors that it had
  rests : {old_world : E × T} (old : MergeCore C I) {new_world : E × T} (new : MergeCore C I) → new.current ≡ None
      → ((order : KeyOrder) (lists : List (List Pair)) (pairs : List Pair) → IsMergeOfLists walk cmp old_world old order lists pairs → IsMergeOfLists walk cmp new_world new order lists pairs)
      → ((later : E × T) (status : Status) → AnyFails walk new_world new.children.items later status → AnyFails walk old_world old.children.items later status)
      → (later : E × T) (status : Status) → FailsMerged walk cmp new_world new later status → FailsMerged walk cmp old_world old later status
  rests {old_world} old {new_world} new none stays excuses later status failed = ⊎_elim
      (λ (any : AnyFails walk new_world new.children.items later status). inl (excuses later status any))
      (λ clash. inr (
        clash.0,
        λ order lists pairs position at. clash.1 order lists pairs None (resting new none (stays order lists pairs (merged_over_lists old_world old order lists pairs position at))),
      ))
      failed

  -- over the same pairs, at no position
  at_none : {old_world : E × T} (old : MergeCore C I) {new_world : E × T} (new : MergeCore C I) → new.current ≡ None
      → ((order : KeyOrder) (lists : List (List Pair)) (pairs : List Pair) → IsMergeOfLists walk cmp old_world old order lists pairs → IsMergeOfLists walk cmp new_world new order lists pairs)
      → (order : KeyOrder) (pairs : List Pair) → IsMergeOver walk cmp old_world old order pairs → IsMergeAt walk cmp new_world new order pairs None
  at_none {old_world} old {new_world} new none stays order pairs over =
      let at = over.1 in
      (at.0, resting new none (stays order at.0 pairs (merged_over_lists old_world old order at.0 pairs over.0 at.1)))

  -- a merge that is moved to no position
  pub reset_to_none : (old new : MergeCore C I) → new.cmp ≡ old.cmp → new.children ≡ old.children → new.current ≡ None
      → Resets (IsMergeOver walk cmp) (IsMergeAt walk cmp) (merged_here walk) (FailsMerged walk cmp) walk.keeps old new
  reset_to_none old new same_cmp same_children none = record {
    at_none = λ world. at_none old new none (stays world);
    none = ap (option_and_then (head_of walk new.children.items)) none;
    excuses = λ world. rests old new none (stays world) (λ later status any. subst (λ v. AnyFails walk world v later status) (ap (λ v. v.items) same_children) any);
  }
    where
      stays : (world : E × T) (order : KeyOrder) (lists : List (List Pair)) (pairs : List Pair) → IsMergeOfLists walk cmp world old order lists pairs → IsMergeOfLists walk cmp world new order lists pairs
      stays world order lists pairs s =
          let items = ap (λ v. v.items) same_children in
          stays_merged s same_cmp (ap length items) (subst (λ xs. AreOver walk world xs order lists) (sym items) s.over)

  -- Of a move from there, of which something is known over each list that the merge is over.
  module _ (From : E × T → MergeCore C I → KeyOrder → List Pair → Option ℕ → Type 0) (Begins : E × T → MergeCore C I → KeyOrder → List (List Pair) → List Pair → Option ℕ → Type 0) (to : Way) (d : Direction)
      (old_world : E × T) (old : MergeCore C I) (new_world : E × T) (mid : MergeCore C I)
      (begins : (order : KeyOrder) (pairs : List Pair) (position : Option ℕ) → From old_world old order pairs position → (lists : List (List Pair)) × Begins old_world old order lists pairs position)
      (always : (order : KeyOrder) (lists : List (List Pair)) (pairs : List Pair) (position : Option ℕ) → IsMergeOfListsAt walk cmp old_world old order lists pairs position → (start : Option ℕ) × Begins old_world old order lists pairs start) where
    -- a first half that failed
    pub refused : {R : Type 0} (status : Status) → Readies walk cmp Begins to d old_world old (Err status) new_world mid.cmp mid.children.items mid.current
        → MovesWalk (IsMergeOver walk cmp) (IsMergeAt walk cmp) (merged_here walk) (FailsMerged walk cmp) walk.keeps {R = R} From to old_world old (Err status) new_world mid
    refused status r = record {
      ok = λ order pairs position from. tt;
      same = λ order pairs over. (None, at_none old mid r.no_current r.same order pairs over);
      err = at_none old mid r.no_current r.same;
      none = ap (option_and_then (head_of walk mid.children.items)) r.no_current;
      kept = r.kept;
      cause = inl r.cause;
      excuses = rests old mid r.no_current r.same r.excuses;
    }

    -- the choice
    module _ (new : MergeCore C I) (r : Readies walk cmp Begins to d old_world old (Ok (tt {0})) new_world mid.cmp mid.children.items mid.current)
        (same_cmp : new.cmp ≡ mid.cmp) (same_children : new.children ≡ mid.children) (same_direction : new.direction ≡ d) (chosen : Result (Unit {0}) Status)
        (best : ((k : ℕ) (pair : Pair) → head_of walk mid.children.items k ≡ Some pair → cmp.accepts mid.cmp pair.0 ≡ true) → IsChosen (cmp.cmp mid.cmp) d (head_of walk mid.children.items) chosen new.current new.shared) where
      same_items : new.children.items ≡ mid.children.items
      same_items = ap (λ v. v.items) same_children

      merged_then : (order : KeyOrder) (lists : List (List Pair)) (pairs : List Pair) → AreMerged walk cmp new_world mid.cmp mid.children.items order lists pairs → AreMerged walk cmp new_world new.cmp new.children.items order lists pairs
      merged_then order lists pairs s = stays_merged s same_cmp (ap length same_items) (subst (λ xs. AreOver walk new_world xs order lists) (sym same_items) s.over)

      stays_of : (order : KeyOrder) (lists : List (List Pair)) (pairs : List Pair) → IsMergeOfLists walk cmp old_world old order lists pairs → IsMergeOfLists walk cmp new_world new order lists pairs
      stays_of order lists pairs s = merged_then order lists pairs (r.same order lists pairs s)

      excused : (later : E × T) (status : Status) → AnyFails walk new_world new.children.items later status → AnyFails walk old_world old.children.items later status
      excused later status any = r.excuses later status (subst (λ xs. AnyFails walk new_world xs later status) same_items any)

      module _ {order : KeyOrder} {lists : List (List Pair)} {pairs : List Pair} {goal : Option ℕ} (near : AreBesideCut walk cmp new_world mid.cmp mid.children.items order lists pairs d goal) where
        abbrev now : AreMerged walk cmp new_world mid.cmp mid.children.items order lists pairs
        now = near.merged

        now_ordered : IsPreorderOn order.accepts order.cmp
        now_ordered = ordered now

        now_numbered : IsMergeByNumber order lists pairs
        now_numbered = numbered now

        abbrev heads_now : ℕ → Option Pair
        heads_now = head_of walk mid.children.items

        heads_there : (k : ℕ) → heads_now k ≡ pair_at (list_at lists k) (beside_cut d near.before (list_at lists k))
        heads_there = heads_are new_world mid.children.items order lists (beside_cut d near.before) now.counted near.each

        accepted : (k : ℕ) (pair : Pair) → heads_now k ≡ Some pair → cmp.accepts mid.cmp pair.0 ≡ true
        accepted k pair e = ap (λ (o : KeyOrder). o.accepts pair.0) (sym now.ordered)
            ∙ now_numbered.each_accepted k pair (head_first now_ordered lists pairs now_numbered near.before near.cut d heads_now heads_there k (Some pair) e).0

        is_chosen : IsChosen order.cmp d heads_now chosen new.current new.shared
        is_chosen = subst (λ (o : KeyOrder). IsChosen o.cmp d heads_now chosen new.current new.shared) (sym now.ordered) (best accepted)

        merge_first : IsFirstBeside order.cmp d near.before pairs (pair_at pairs (beside_cut d near.before pairs))
        merge_first = own_first now_ordered lists pairs now_numbered near.before near.cut d heads_now heads_there

        by_choice : (found : Option ℕ) (shared : Bool) → IsChosen order.cmp d heads_now (Ok (tt {0})) found shared → IsPlacedAt walk cmp new_world mid.cmp mid.children.items order lists pairs found shared d goal
        by_choice None shared none =
            let nothing = none_is_own now_ordered lists pairs now_numbered near.before near.cut d heads_now heads_there none (pair_at pairs (beside_cut d near.before pairs)) merge_first in
            (now, near.at ∙ no_position pairs (beside_cut d near.before pairs) (beside_in_range d near.before pairs) (ap is_some nothing))
        by_choice (Some i) shared b =
            let pair = b.0 in
            let same = same_unless now_ordered lists pairs now_numbered near.before near.cut d heads_now heads_there i pair b.1 shared b.3 in
            let is_own = best_is_own now_ordered lists pairs now_numbered near.before near.cut d heads_now heads_there i pair b.1 b.2 same (pair_at pairs (beside_cut d near.before pairs)) merge_first in (
              near,
              record {
                pair = pair;
                own = b.1;
                same = ap (pair_at pairs) near.at ∙ is_own;
                only = only_pair now_ordered lists pairs now_numbered near.before near.cut d heads_now heads_there i pair b.1 b.2 same;
                alone = λ e. (let tie : IsTie order.cmp heads_now i pair Alone = subst (λ s. IsTie order.cmp heads_now i pair (if s then Shared else Alone)) e b.3 in tie);
              },
            )

        arrived : chosen ≡ Ok (tt {0}) → IsMergeOfListsAt walk cmp new_world new order lists pairs goal
        arrived e = record {
          placed =
              subst (λ x. IsPlacedAt walk cmp new_world x new.children.items order lists pairs new.current new.shared new.direction goal) (sym same_cmp)
              (subst (λ xs. IsPlacedAt walk cmp new_world mid.cmp xs order lists pairs new.current new.shared new.direction goal) (sym same_items)
              (subst (λ x. IsPlacedAt walk cmp new_world mid.cmp mid.children.items order lists pairs new.current new.shared x goal) (sym same_direction)
              (by_choice new.current new.shared (subst (λ x. IsChosen order.cmp d heads_now x new.current new.shared) e is_chosen))));
        }

        clashed : (status : Status) → chosen ≡ Err status → HaveOnePairAKey order lists → ⊥
        clashed status e one =
            let clash : IsChosen order.cmp d heads_now (Err status) new.current new.shared = subst (λ x. IsChosen order.cmp d heads_now x new.current new.shared) e is_chosen in
            let b = clash.1 in
            no_clash now_ordered lists pairs now_numbered near.before near.cut d heads_now heads_there one clash.0 b.0 b.1 b.3

      -- which leads to the pair
      pub arrives : {R : Type 0} (result : R) → chosen ≡ Ok (tt {0}) → MovesWalk (IsMergeOver walk cmp) (IsMergeAt walk cmp) (merged_here walk) (FailsMerged walk cmp) walk.keeps From to old_world old (Ok result) new_world new
      arrives result e = record {
        ok = λ order pairs position from.
            let lists = begins order pairs position from in
            (lists.0, arrived (r.ok order lists.0 pairs position lists.1) e);
        same = λ order pairs over.
            let at = over.1 in
            let start = always order at.0 pairs over.0 at.1 in
            (to order pairs start.0, (at.0, arrived (r.ok order at.0 pairs start.0 start.1) e));
        err = λ order pairs s. tt;
        none = tt;
        kept = r.kept;
        cause = tt;
        excuses = λ later status failed. ⊎_elim
            (λ (any : AnyFails walk new_world new.children.items later status). inl (excused later status any))
            (λ clash. inr (
              clash.0,
              λ order lists pairs position at.
                  let start = always order lists pairs position at in
                  clash.1 order lists pairs (to order pairs start.0) (arrived (r.ok order lists pairs start.0 start.1) e),
            ))
            failed;
      }

      -- or finds a clash
      pub clashes : {R : Type 0} (status : Status) → chosen ≡ Err status → status.code ≡ Corruption → new.current ≡ None
          → MovesWalk (IsMergeOver walk cmp) (IsMergeAt walk cmp) (merged_here walk) (FailsMerged walk cmp) walk.keeps {R = R} From to old_world old (Err status) new_world new
      clashes status e code none = record {
        ok = λ order pairs position from. tt;
        same = λ order pairs over. (None, at_none old new none stays_of order pairs over);
        err = at_none old new none stays_of;
        none = ap (option_and_then (head_of walk new.children.items)) none;
        kept = r.kept;
        cause = inr (
          code,
          λ order lists pairs position at.
              let start = always order lists pairs position at in
              clashed (r.ok order lists pairs start.0 start.1) status e,
        );
        excuses = rests old new none stays_of excused;
      }

      pub chooses : IfErr chosen (λ status. status.code ≡ Corruption) → OnErr chosen (new.current ≡ None)
          → MovesWalk (IsMergeOver walk cmp) (IsMergeAt walk cmp) (merged_here walk) (FailsMerged walk cmp) walk.keeps From to old_world old chosen new_world new
      chooses = by chosen refl
        where
          by : (x : Result (Unit {0}) Status) → chosen ≡ x → IfErr x (λ status. status.code ≡ Corruption) → OnErr x (new.current ≡ None)
              → MovesWalk (IsMergeOver walk cmp) (IsMergeAt walk cmp) (merged_here walk) (FailsMerged walk cmp) walk.keeps From to old_world old x new_world new
          by (Ok u) e code none = arrives u e
          by (Err status) e code none = clashes status e code none

  -- ---- where moves begin

  -- a seek by this key begins over these pairs, and over these lists
  abbrev pub SeeksOver : List ℕ → E × T → MergeCore C I → KeyOrder → List Pair → Option ℕ → Type 0
  SeeksOver key world it order pairs position = IsMergeOver walk cmp world it order pairs × (order.accepts key ≡ true)

  abbrev pub SeeksFrom : List ℕ → E × T → MergeCore C I → KeyOrder → List (List Pair) → List Pair → Option ℕ → Type 0
  SeeksFrom key world it order lists pairs position = IsMergeOfLists walk cmp world it order lists pairs × (order.accepts key ≡ true)

  module _ (world : E × T) (it : MergeCore C I) where
    pub begins_at : (order : KeyOrder) (pairs : List Pair) (position : Option ℕ) → IsMergeAt walk cmp world it order pairs position → (lists : List (List Pair)) × IsMergeOfListsAt walk cmp world it order lists pairs position
    begins_at order pairs position at = at

    pub always_at : (order : KeyOrder) (lists : List (List Pair)) (pairs : List Pair) (position : Option ℕ) → IsMergeOfListsAt walk cmp world it order lists pairs position
        → (start : Option ℕ) × IsMergeOfListsAt walk cmp world it order lists pairs start
    always_at order lists pairs position at = (position, at)

    pub begins_over : (order : KeyOrder) (pairs : List Pair) (position : Option ℕ) → IsMergeOver walk cmp world it order pairs → (lists : List (List Pair)) × IsMergeOfLists walk cmp world it order lists pairs
    begins_over order pairs position over = let at = over.1 in (at.0, merged_over_lists world it order at.0 pairs over.0 at.1)

    pub always_over : (order : KeyOrder) (lists : List (List Pair)) (pairs : List Pair) (position : Option ℕ) → IsMergeOfListsAt walk cmp world it order lists pairs position
        → (start : Option ℕ) × IsMergeOfLists walk cmp world it order lists pairs
    always_over order lists pairs position at = (None, merged_over_lists world it order lists pairs position at)

    module _ (key : List ℕ) where
      pub begins_key : (order : KeyOrder) (pairs : List Pair) (position : Option ℕ) → SeeksOver key world it order pairs position
          → (lists : List (List Pair)) × SeeksFrom key world it order lists pairs position
      begins_key order pairs position from = let over = begins_over order pairs position from.0 in (over.0, (over.1, from.1))

      accepts_key : {order : KeyOrder} {lists : List (List Pair)} {pairs : List Pair} → IsMergeOfLists walk cmp world it order lists pairs → order.accepts key ≡ cmp.accepts it.cmp key
      accepts_key s = ap (λ (o : KeyOrder). o.accepts key) s.ordered

      pub always_key : cmp.accepts it.cmp key ≡ true → (order : KeyOrder) (lists : List (List Pair)) (pairs : List Pair) (position : Option ℕ) → IsMergeOfListsAt walk cmp world it order lists pairs position
          → (start : Option ℕ) × SeeksFrom key world it order lists pairs start
      always_key accepted order lists pairs position at =
          let s = merged_over_lists world it order lists pairs position at in
          (None, (s, accepts_key s ∙ accepted))

      -- a key that isn't accepted leads to no position
      pub unsought : (new : MergeCore C I) → cmp.accepts it.cmp key ≡ false → new.cmp ≡ it.cmp → new.children ≡ it.children → new.current ≡ None
          → MovesWalk (IsMergeOver walk cmp) (IsMergeAt walk cmp) (merged_here walk) (FailsMerged walk cmp) walk.keeps (λ w i order pairs _. IsMergeOver walk cmp w i order pairs × (order.accepts key ≡ true))
          (λ order pairs _. seek_position order.cmp pairs key) world it (Ok (tt {0})) world new
      unsought new refuses same_cmp same_children none =
          let rests_there = reset_to_none it new same_cmp same_children none in
          record {
            ok = λ order pairs position from.
                let over = begins_over order pairs position from.0 in
                absurd (false≢true (sym refuses ∙ sym (accepts_key over.1) ∙ from.1));
            same = λ order pairs over. (None, rests_there.at_none world order pairs over);
            err = λ order pairs over. tt;
            none = tt;
            kept = laws.keeps_itself world;
            cause = tt;
            excuses = rests_there.excuses world;
          }

-- the pair of the current child is the merge's
pub current_here : {E T I : Type 0} (walk : WalkGhosts I E T) (children : List I) (current : Option ℕ) (i : ℕ) (child : I) → current ≡ Some i → i < length children → child ≡ get_or children i child
    → walk.here child ≡ option_and_then (head_of walk children) current
current_here walk children current i child is within own =
    ap (option_and_then walk.here) (sym (slice_get-get_or children i child within ∙ ap (λ c. Some c) (sym own)))
    ∙ ap (option_and_then (head_of walk children)) (sym is)
