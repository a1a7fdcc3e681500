-- Steps of one child of a merge, and of all.
use Rattle.std.proofs.Common.{◌≡◌, ◌≢◌, ◌⊎◌, inl, inr, ⊎_elim, ℕ, zero, suc, ◌+◌, ◌<◌, ◌≤◌, Bool, true, false, List, [], ◌∷◌, length, get_or, refl, sym, ◌∙◌, ap, subst, arith, Option, Some, None, Result, Ok, Err}
use Rattle.std.specs.Prelude.{slice_get, option_and_then, if◌then◌else◌, OnOk, IfErr, Any, is_some}
use Rattle.std.proofs.lemmas.Bool.{cases_order, cases_lt, false≢true}
use Rattle.std.proofs.Math.ListN.{set}
use Rattle.std.proofs.lemmas.List.{length-set, get_or-set_same}
use Rattle.std.proofs.lemmas.Option.{slice_get-get_or, slice_get_within, get_or_from_slice_get}
use Rattle.leveldb_base.specs.Types.{Pair, IsPosition, pair_at}
use Rattle.leveldb_base.specs.declared.error.Status.{Status}
use Rattle.leveldb_iter.specs.declared.children.ChildStep.{ChildStep}
use Rattle.leveldb_iter.specs.declared.children.ChildStep.TheVariants.{First, Last, Next, Prev, PrevOrLast, Seek}
use Rattle.leveldb_iter.specs.declared.walk.Walk.{Ghosts as WalkGhosts}
use Rattle.leveldb_iter.specs.Walk.{KeyOrder, Way, WalkLaws, SeeksLast}
use Rattle.leveldb_iter.specs.Children.{list_at, head_of, same_key, AnyFails, AreOver, AreEachAt, AreEachLedTo, step_from, step_to, MovesChild, previous_or_last, StepsOne, StepsEach, StepsAtKey, StepsCurrent}
use Rattle.leveldb_iter.proofs.CutLemmas.{at_some}

-- ---- elements by their index

any_at : {X : Type 0} {P : X → Type 0} (xs : List X) (k : ℕ) (x : X) → slice_get xs k ≡ Some x → P x → Any P xs
any_at xs k x e p = (k, x, slice_get_within xs k x e, get_or_from_slice_get xs k x x e, p)

of_any : {X : Type 0} {P : X → Type 0} (xs : List X) → Any P xs → (k : ℕ) × (x : X) × (slice_get xs k ≡ Some x) × P x
of_any xs any = (any.0, any.1, slice_get-get_or xs any.0 any.1 any.2 ∙ ap (λ x. Some x) any.3, any.4)

pub within_some : {X : Type 0} (xs : List X) (k : ℕ) → k < length xs → slice_get xs k ≡ None → ⊥
within_some [] k h e = omega (arith, h)
within_some (x ∷ xs) zero h e = cc
within_some (x ∷ xs) (suc k) h e = within_some xs k (omega (arith, h)) e

-- two numbers are the same, or they aren't
pub same_or : {A : Type 0} (i k : ℕ) → (k ≡ i → A) → (k ≢ i → A) → A
same_or i k same other = ⊎_elim
    same
    (λ (w : (k < i) ⊎ (i < k)). other (λ e. ⊎_elim (λ (l : k < i). omega (arith, l, e)) (λ (g : i < k). omega (arith, g, e)) w))
    (cases_order k i)

-- a position without a pair is none
pub no_position : (pairs : List Pair) (position : Option ℕ) → IsPosition pairs position → is_some (pair_at pairs position) ≡ false → position ≡ None
no_position pairs None h e = refl
no_position pairs (Some i) h e = absurd (false≢true (sym e ∙ ap is_some (at_some pairs (Some i) i refl h)))

slice_get-set_other : {X : Type 0} (xs : List X) (i k : ℕ) (x : X) → k ≢ i → slice_get (set xs i x) k ≡ slice_get xs k
slice_get-set_other [] i k x other = refl
slice_get-set_other (y ∷ ys) zero zero x other = absurd (other refl)
slice_get-set_other (y ∷ ys) zero (suc k) x other = refl
slice_get-set_other (y ∷ ys) (suc i) zero x other = refl
slice_get-set_other (y ∷ ys) (suc i) (suc k) x other = slice_get-set_other ys i k x (λ e. other (ap suc e))

-- the child of a number makes a step where it is
pub one_steps : {E T I R : Type 0} (walk : WalkGhosts I E T) {From : E × T → I → KeyOrder → List Pair → Option ℕ → Type 0} {to : Way} {old_world : E × T} (old : List I) (i : ℕ) (it new_it : I)
    {result : Result R Status} {new_world : E × T} → i < length old → it ≡ get_or old i it → MovesChild walk From to old_world it result new_world new_it
    → StepsOne walk From to i old_world old result new_world (set old i new_it)
one_steps walk {From} {to} {old_world} old i it new_it {result} {new_world} within own moves = record {
  counted = length-set old i new_it;
  step = λ child new_child was is.
      let same : it ≡ child = own ∙ get_or_from_slice_get old i child it was in
      let new_same : new_it ≡ new_child = sym (get_or-set_same old i new_it new_it within) ∙ get_or_from_slice_get (set old i new_it) i new_child new_it is in
      subst (λ after. MovesChild walk From to old_world child result new_world after) new_same
      (subst (λ before. MovesChild walk From to old_world before result new_world new_it) same moves);
  rest = λ k other. slice_get-set_other old i k new_it other;
  kept = moves.kept;
}

module _ {E T I : Type 0} (walk : WalkGhosts I E T) (laws : WalkLaws walk.over walk.is_at walk.here walk.fails walk.keeps) where
  -- from no position back to the last pair
  pub back_from_none : {R : Type 0} {old_world : E × T} {old : I} {result : Result R Status} {new_world : E × T} {new : I} → is_some (walk.here old) ≡ false
      → SeeksLast walk.over walk.is_at walk.here walk.fails walk.keeps old_world old result new_world new → MovesChild walk walk.is_at (λ _. previous_or_last) old_world old result new_world new
  back_from_none {R} {old_world} {old} {result} {new_world} {new} e m = record {
    ok = λ order pairs position at.
        let none = no_position pairs position (laws.in_range old_world old order pairs position at) (ap is_some (sym (laws.at_position old_world old order pairs position at)) ∙ e) in
        subst (λ p. OnOk result (walk.is_at new_world new order pairs (previous_or_last pairs p))) (sym none) (m.ok order pairs position (laws.over_list old_world old order pairs position at));
    same = m.same;
    err = m.err;
    none = m.none;
    kept = m.kept;
    cause = m.cause;
    excuses = m.excuses;
  }

  -- a step leads from the same where this is left of the world
  pub from_stays : (first second : E × T) → walk.keeps first second → (step : ChildStep) (it : I) (order : KeyOrder) (pairs : List Pair) (position : Option ℕ)
      → step_from walk step first it order pairs position → step_from walk step second it order pairs position
  from_stays first second k First it order pairs position from = laws.stays_over first second k it order pairs from
  from_stays first second k Last it order pairs position from = laws.stays_over first second k it order pairs from
  from_stays first second k Next it order pairs position from = laws.stays first second k it order pairs position from
  from_stays first second k Prev it order pairs position from = laws.stays first second k it order pairs position from
  from_stays first second k PrevOrLast it order pairs position from = laws.stays first second k it order pairs position from
  from_stays first second k (Seek key) it order pairs position from = (laws.stays_over first second k it order pairs from.0, from.1)

  -- ---- a step of one child

  module _ {R : Type 0} {From : E × T → I → KeyOrder → List Pair → Option ℕ → Type 0} {to : Way} {i : ℕ} {old_world : E × T} {old : List I} {result : Result R Status} {new_world : E × T} {new : List I}
      (h : i < length old) (one : StepsOne walk From to i old_world old result new_world new) where
    -- what the child of its number was
    was_at : (child : I) → (was : I) × (slice_get old i ≡ Some was)
    was_at child = (get_or old i child, slice_get-get_or old i child h)

    -- each is still over its list
    pub one_over : (order : KeyOrder) (lists : List (List Pair)) → AreOver walk old_world old order lists → AreOver walk new_world new order lists
    one_over order lists over k child e = same_or i k
        (λ (at_i : k ≡ i).
        let was = was_at child in
        let move = one.step was.0 child was.1 (ap (slice_get new) (sym at_i) ∙ e) in
        subst (λ j. walk.over new_world child order (list_at lists j)) (sym at_i) (move.same order (list_at lists i) (over i was.0 was.1)))
        (λ other. laws.stays_over old_world new_world one.kept child order (list_at lists k) (over k child (sym (one.rest k other) ∙ e)))

    pub one_excuses : (later : E × T) (status : Status) → AnyFails walk new_world new later status → AnyFails walk old_world old later status
    one_excuses later status any =
        let it = of_any new any in
        let child = it.1 in
        same_or i it.0
        (λ (at_i : it.0 ≡ i).
        let was = was_at child in
        let move = one.step was.0 child was.1 (ap (slice_get new) (sym at_i) ∙ it.2) in
        any_at old i was.0 was.1 (move.excuses later status it.3))
        (λ other. any_at old it.0 child (sym (one.rest it.0 other) ∙ it.2) (laws.excuses old_world new_world one.kept child later status it.3))

  pub one_cause : {R : Type 0} {From : E × T → I → KeyOrder → List Pair → Option ℕ → Type 0} {to : Way} {i : ℕ} {old_world : E × T} {old : List I} {status : Status} {new_world : E × T} {new : List I}
      → i < length old → StepsOne walk {R = R} From to i old_world old (Err status) new_world new → AnyFails walk old_world old new_world status
  one_cause {R} {From} {to} {i} {old_world} {old} {status} {new_world} {new} h one = by (slice_get old i) refl
    where
      by : (found : Option I) → slice_get old i ≡ found → AnyFails walk old_world old new_world status
      by None e = absurd (within_some old i h e)
      by (Some was) e =
          let lt : i < length new = omega (arith, h, one.counted) in
          any_at old i was e ((one.step was (get_or new i was) e (slice_get-get_or new i was lt)).cause)

  -- ---- steps of all

  -- So many children have made the step.
  pub record SteppedSome (step : ChildStep) (to : Way) (old_world : E × T) (old : List I) (i : ℕ) (world : E × T) (now : List I) : Type 0 where
    -- there are as many children
    pub counted : length now ≡ length old
    -- each of them came to where its step leads
    pub came : (order : KeyOrder) (lists : List (List Pair)) (position : List Pair → Option ℕ) → AreEachLedTo walk old_world old order lists (step_from walk step) to position
        → (k : ℕ) (child : I) → k < i → slice_get now k ≡ Some child → walk.is_at world child order (list_at lists k) (position (list_at lists k))
    -- the others are the same
    pub rest : (k : ℕ) (child : I) → i ≤ k → slice_get now k ≡ Some child → slice_get old k ≡ Some child
    -- each is still over its list
    pub over : (order : KeyOrder) (lists : List (List Pair)) → AreOver walk old_world old order lists → AreOver walk world now order lists
    -- this is left of what they read from
    pub kept : walk.keeps old_world world
    -- an error that one may have from now on is one that one might have had before
    pub excuses : (later : E × T) (status : Status) → AnyFails walk world now later status → AnyFails walk old_world old later status

  pub none_stepped : (step : ChildStep) (to : Way) (world : E × T) (children : List I) → SteppedSome step to world children 0 world children
  none_stepped step to world children = record {
    counted = refl;
    came = λ order lists position each k child lt e. absurd (omega (arith, lt));
    rest = λ k child h e. e;
    over = λ order lists over. over;
    kept = laws.keeps_itself world;
    excuses = λ later status any. any;
  }

  module _ {step : ChildStep} {to : Way} {old_world : E × T} {old : List I} {i : ℕ} {world : E × T} {now : List I} {new_world : E × T} {new : List I} (some : SteppedSome step to old_world old i world now) where
    -- one more makes the step
    pub one_more : i < length now → StepsOne walk {R = Unit {0}} (step_from walk step) to i world now (Ok (tt {0})) new_world new → SteppedSome step to old_world old (i + 1) new_world new
    one_more h one = record {
      counted = one.counted ∙ some.counted;
      came = λ order lists position each k child lt e. same_or i k
          (λ (at_i : k ≡ i).
          let was = was_at h one child in
          let list = list_at lists i in
          let led = each i was.0 (some.rest i was.0 (omega arith) was.1) in
          let move = one.step was.0 child was.1 (ap (slice_get new) (sym at_i) ∙ e) in
          let came : walk.is_at new_world child order list (to order list led.0) = move.ok order list led.0 (from_stays old_world world some.kept step was.0 order list led.0 led.1) in
          subst (λ j. walk.is_at new_world child order (list_at lists j) (position (list_at lists j))) (sym at_i)
          (subst (walk.is_at new_world child order list) led.2 came))
          (λ other. laws.stays world new_world one.kept child order (list_at lists k) (position (list_at lists k))
          (some.came order lists position each k child (before_it k lt other) (sym (one.rest k other) ∙ e)));
      rest = λ k child above e. some.rest k child (omega (arith, above)) (sym (one.rest k (not_it k above)) ∙ e);
      over = λ order lists over. one_over h one order lists (some.over order lists over);
      kept = laws.keeps_on old_world world new_world some.kept one.kept;
      excuses = λ later status any. some.excuses later status (one_excuses h one later status any);
    }
      where
        before_it : (k : ℕ) → k < i + 1 → k ≢ i → k < i
        before_it k lt other = ⊎_elim (λ (l : k < i). l) (λ (ge : i ≤ k). absurd (other (omega (arith, lt, ge)))) (cases_lt k i)

        not_it : (k : ℕ) → i + 1 ≤ k → k ≢ i
        not_it k above e = omega (arith, above, e)

    -- and one fails
    pub one_fails : (status : Status) → i < length now → StepsOne walk {R = Unit {0}} (step_from walk step) to i world now (Err status) new_world new → StepsEach walk (step_from walk step) to old_world old (Err status) new_world new
    one_fails status h one = record {
      counted = one.counted ∙ some.counted;
      ok = λ order lists position each. tt;
      over = λ order lists over. one_over h one order lists (some.over order lists over);
      kept = laws.keeps_on old_world world new_world some.kept one.kept;
      cause = some.excuses new_world status (one_cause h one);
      excuses = λ later after any. some.excuses later after (one_excuses h one later after any);
    }

  -- or none does
  pub all_stepped : {step : ChildStep} {to : Way} {old_world : E × T} {old : List I} {i : ℕ} {world : E × T} {now : List I} → SteppedSome step to old_world old i world now → length now ≤ i
      → StepsEach walk (step_from walk step) to old_world old (Ok (tt {0})) world now
  all_stepped {step} {to} {old_world} {old} {i} {world} {now} some h = record {
    counted = some.counted;
    ok = λ order lists position each k child e. some.came order lists position each k child (omega (arith, slice_get_within now k child e, h)) e;
    over = some.over;
    kept = some.kept;
    cause = tt;
    excuses = some.excuses;
  }

  -- ---- a step of those at one key

  -- a step to the next pair or to the one before begins at any position
  from_any : (step : ChildStep) → (step ≡ Next) ⊎ (step ≡ Prev) → (world : E × T) (it : I) (order : KeyOrder) (pairs : List Pair) (position : Option ℕ)
      → walk.is_at world it order pairs position → step_from walk step world it order pairs position
  from_any step moves world it order pairs position at = ⊎_elim
      (λ (e : step ≡ Next). subst (λ s. step_from walk s world it order pairs position) (sym e) at)
      (λ (e : step ≡ Prev). subst (λ s. step_from walk s world it order pairs position) (sym e) at)
      moves

  -- Of the children before a number, but the one of this other number, those at its key have made
  -- the step.
  pub record SteppedAtKey (to : Way) (own : ℕ) (old_world : E × T) (old : List I) (i : ℕ) (world : E × T) (now : List I) : Type 0 where
    -- there are as many children
    pub counted : length now ≡ length old
    -- each of them came to where the step leads, or is where it was
    pub came : (order : KeyOrder) (lists : List (List Pair)) (position : List Pair → Option ℕ) → AreEachAt walk old_world old order lists position
        → (k : ℕ) (child : I) → k < i → k ≢ own → slice_get now k ≡ Some child
        → walk.is_at world child order (list_at lists k) (if same_key (head_of walk old k) (head_of walk old own) then to order (list_at lists k) (position (list_at lists k)) else position (list_at lists k))
    -- the others are the same
    pub rest : (k : ℕ) → (k ≡ own) ⊎ (i ≤ k) → slice_get now k ≡ slice_get old k
    -- each is still over its list
    pub over : (order : KeyOrder) (lists : List (List Pair)) → AreOver walk old_world old order lists → AreOver walk world now order lists
    -- this is left of what they read from
    pub kept : walk.keeps old_world world
    -- an error that one may have from now on is one that one might have had before
    pub excuses : (later : E × T) (status : Status) → AnyFails walk world now later status → AnyFails walk old_world old later status

  pub none_at_key : (to : Way) (own : ℕ) (world : E × T) (children : List I) → SteppedAtKey to own world children 0 world children
  none_at_key to own world children = record {
    counted = refl;
    came = λ order lists position each k child lt. absurd (omega (arith, lt));
    rest = λ k any. refl;
    over = λ order lists over. over;
    kept = laws.keeps_itself world;
    excuses = λ later status any. any;
  }

  module _ {to : Way} {own : ℕ} {old_world : E × T} {old : List I} {i : ℕ} {world : E × T} {now : List I} (some : SteppedAtKey to own old_world old i world now) where
    -- the heads of those that haven't made it
    head_left : (k : ℕ) → (k ≡ own) ⊎ (i ≤ k) → head_of walk now k ≡ head_of walk old k
    head_left k any = ap (option_and_then walk.here) (some.rest k any)

    -- one more is elsewhere
    pub one_stays : (i ≡ own) ⊎ (same_key (head_of walk now i) (head_of walk now own) ≡ false) → SteppedAtKey to own old_world old (i + 1) world now
    one_stays apart = record {
      counted = some.counted;
      came = λ order lists position each k child lt other e. same_or i k
          (λ (at_i : k ≡ i).
          let list = list_at lists k in
          let elsewhere : same_key (head_of walk old k) (head_of walk old own) ≡ false = not_there k other at_i in
          subst (λ b. walk.is_at world child order list (if b then to order list (position list) else position list)) (sym elsewhere)
          (laws.stays old_world world some.kept child order list (position list) (each k child (sym (some.rest k (inr (omega (arith, at_i)))) ∙ e))))
          (λ differs. some.came order lists position each k child (below k lt differs) other e);
      rest = λ k any. some.rest k (⊎_elim (λ (e : k ≡ own). inl e) (λ (ge : i + 1 ≤ k). inr (omega (arith, ge))) any);
      over = some.over;
      kept = some.kept;
      excuses = some.excuses;
    }
      where
        below : (k : ℕ) → k < i + 1 → k ≢ i → k < i
        below k lt other = ⊎_elim (λ (l : k < i). l) (λ (ge : i ≤ k). absurd (other (omega (arith, lt, ge)))) (cases_lt k i)

        not_there : (k : ℕ) → k ≢ own → k ≡ i → same_key (head_of walk old k) (head_of walk old own) ≡ false
        not_there k other at_i = ⊎_elim
            (λ (e : i ≡ own). absurd (other (at_i ∙ e)))
            (λ (f : same_key (head_of walk now i) (head_of walk now own) ≡ false).
            ap (λ n. same_key (head_of walk old n) (head_of walk old own)) at_i
            ∙ ap (λ h. same_key h (head_of walk old own)) (sym (head_left i (inr (omega arith))))
            ∙ ap (same_key (head_of walk now i)) (sym (head_left own (inl refl))) ∙ f)
            apart

    module _ {step : ChildStep} {new_world : E × T} {new : List I} (moves : (step ≡ Next) ⊎ (step ≡ Prev)) (leads : step_to step ≡ to) where
      -- where the child of this number comes to
      one_came : {k : ℕ} (h : k < length now) (one : StepsOne walk {R = Unit {0}} (step_from walk step) (step_to step) k world now (Ok (tt {0})) new_world new)
          → (k ≡ own) ⊎ (i ≤ k) → (order : KeyOrder) (lists : List (List Pair)) (position : List Pair → Option ℕ) → AreEachAt walk old_world old order lists position
          → (child : I) → slice_get new k ≡ Some child → walk.is_at new_world child order (list_at lists k) (to order (list_at lists k) (position (list_at lists k)))
      one_came {k} h one any order lists position each child e =
          let was = was_at h one child in
          let list = list_at lists k in
          let here = laws.stays old_world world some.kept was.0 order list (position list) (each k was.0 (sym (some.rest k any) ∙ was.1)) in
          subst (λ (w : Way). walk.is_at new_world child order list (w order list (position list))) leads
          ((one.step was.0 child was.1 e).ok order list (position list) (from_any step moves world was.0 order list (position list) here))

      -- one more is at the key, and makes the step
      pub one_more_at_key : i < length now → i ≢ own → same_key (head_of walk now i) (head_of walk now own) ≡ true
          → StepsOne walk {R = Unit {0}} (step_from walk step) (step_to step) i world now (Ok (tt {0})) new_world new → SteppedAtKey to own old_world old (i + 1) new_world new
      one_more_at_key h apart there one = record {
        counted = one.counted ∙ some.counted;
        came = λ order lists position each k child lt other e. same_or i k
            (λ (at_i : k ≡ i).
            let came : walk.is_at new_world child order (list_at lists i) (to order (list_at lists i) (position (list_at lists i))) =
            one_came h one (inr (omega arith)) order lists position each child (ap (slice_get new) (sym at_i) ∙ e) in
            let here : same_key (head_of walk old i) (head_of walk old own) ≡ true =
            ap (λ x. same_key x (head_of walk old own)) (sym (head_left i (inr (omega arith)))) ∙ ap (same_key (head_of walk now i)) (sym (head_left own (inl refl))) ∙ there in
            subst (λ n. walk.is_at new_world child order (list_at lists n) (if same_key (head_of walk old n) (head_of walk old own) then to order (list_at lists n) (position (list_at lists n)) else position (list_at lists n))) (sym at_i)
            (subst (λ b. walk.is_at new_world child order (list_at lists i) (if b then to order (list_at lists i) (position (list_at lists i)) else position (list_at lists i))) (sym here) came))
            (λ differs.
            let list = list_at lists k in
            let here = if same_key (head_of walk old k) (head_of walk old own) then to order list (position list) else position list in
            laws.stays world new_world one.kept child order list here (some.came order lists position each k child (below k lt differs) other (sym (one.rest k differs) ∙ e)));
        rest = λ k any. one.rest k (not_it k any) ∙ some.rest k (⊎_elim (λ (e : k ≡ own). inl e) (λ (ge : i + 1 ≤ k). inr (omega (arith, ge))) any);
        over = λ order lists over. one_over h one order lists (some.over order lists over);
        kept = laws.keeps_on old_world world new_world some.kept one.kept;
        excuses = λ later status any. some.excuses later status (one_excuses h one later status any);
      }
        where
          below : (k : ℕ) → k < i + 1 → k ≢ i → k < i
          below k lt other = ⊎_elim (λ (l : k < i). l) (λ (ge : i ≤ k). absurd (other (omega (arith, lt, ge)))) (cases_lt k i)

          not_it : (k : ℕ) → (k ≡ own) ⊎ (i + 1 ≤ k) → k ≢ i
          not_it k any e = ⊎_elim (λ (q : k ≡ own). apart (sym e ∙ q)) (λ (ge : i + 1 ≤ k). omega (arith, ge, e)) any

      -- or fails
      pub one_fails_at_key : {k : ℕ} (status : Status) → k < length now → StepsOne walk {R = Unit {0}} (step_from walk step) (step_to step) k world now (Err status) new_world new
          → StepsAtKey walk to own old_world old (Err status) new_world new
      one_fails_at_key status h one = record {
        counted = one.counted ∙ some.counted;
        ok = λ order lists position each. tt;
        over = λ order lists over. one_over h one order lists (some.over order lists over);
        kept = laws.keeps_on old_world world new_world some.kept one.kept;
        cause = some.excuses new_world status (one_cause h one);
        excuses = λ later after any. some.excuses later after (one_excuses h one later after any);
      }

      -- all others have, and at last this one
      own_at_key : length now ≤ i → own < length now → StepsOne walk {R = Unit {0}} (step_from walk step) (step_to step) own world now (Ok (tt {0})) new_world new
          → StepsAtKey walk to own old_world old (Ok (tt {0})) new_world new
      own_at_key all h one = record {
        counted = one.counted ∙ some.counted;
        ok = λ order lists position each k child e. (
          (λ is_own.
              let came = one_came h one (inl refl) order lists position each child (ap (slice_get new) (sym is_own) ∙ e) in
              subst (λ n. walk.is_at new_world child order (list_at lists n) (to order (list_at lists n) (position (list_at lists n)))) (sym is_own) came),
          (λ other.
              let list = list_at lists k in
              let here = if same_key (head_of walk old k) (head_of walk old own) then to order list (position list) else position list in
              laws.stays world new_world one.kept child order list here
              (some.came order lists position each k child (omega (arith, slice_get_within new k child e, all, one.counted)) other (sym (one.rest k other) ∙ e))),
        );
        over = λ order lists over. one_over h one order lists (some.over order lists over);
        kept = laws.keeps_on old_world world new_world some.kept one.kept;
        cause = tt;
        excuses = λ later after any. some.excuses later after (one_excuses h one later after any);
      }

      pub last_at_key : (result : Result (Unit {0}) Status) → length now ≤ i → own < length now → StepsOne walk (step_from walk step) (step_to step) own world now result new_world new
          → StepsAtKey walk to own old_world old result new_world new
      last_at_key (Ok u) all h one = own_at_key all h one
      last_at_key (Err status) all h one = one_fails_at_key status h one

  -- ---- a step of the current child, or of those at its key

  -- What it leaves, whichever make it.
  pub record StepsSome (old_world : E × T) (old : List I) (result : Result (Unit {0}) Status) (new_world : E × T) (new : List I) : Type 0 where
    -- there are as many children
    pub counted : length new ≡ length old
    -- each is still over its list
    pub over : (order : KeyOrder) (lists : List (List Pair)) → AreOver walk old_world old order lists → AreOver walk new_world new order lists
    -- this is left of what they read from
    pub kept : walk.keeps old_world new_world
    -- the error is one that a child may have
    pub cause : IfErr result (AnyFails walk old_world old new_world)
    -- and so is each that one may have from now on
    pub excuses : (later : E × T) (status : Status) → AnyFails walk new_world new later status → AnyFails walk old_world old later status

  pub steps_some : (to : Way) (i : ℕ) (shared : Bool) {old_world : E × T} {old : List I} (result : Result (Unit {0}) Status) {new_world : E × T} {new : List I} → i < length old
      → StepsCurrent walk to i shared old_world old result new_world new → StepsSome old_world old result new_world new
  steps_some to i true result h s = record { counted = s.counted; over = s.over; kept = s.kept; cause = s.cause; excuses = s.excuses }
  steps_some to i false {old_world} {old} result {new_world} {new} h s = record {
    counted = s.counted;
    over = one_over h s;
    kept = s.kept;
    cause = caused result s;
    excuses = one_excuses h s;
  }
    where
      caused : (result : Result (Unit {0}) Status) → StepsOne walk walk.is_at to i old_world old result new_world new → IfErr result (AnyFails walk old_world old new_world)
      caused (Ok u) s = tt
      caused (Err status) s = one_cause h s

  -- a step to the next pair or to the one before begins at any position
  pub one_from_any : {R : Type 0} {to : Way} {i : ℕ} {old_world : E × T} {old : List I} {result : Result R Status} {new_world : E × T} {new : List I} (step : ChildStep) → (step ≡ Next) ⊎ (step ≡ Prev)
      → StepsOne walk (step_from walk step) to i old_world old result new_world new → StepsOne walk walk.is_at to i old_world old result new_world new
  one_from_any {R} {to} {i} {old_world} {old} {result} {new_world} {new} step moves s = ⊎_elim
      (λ (e : step ≡ Next). subst (λ x. StepsOne walk (step_from walk x) to i old_world old result new_world new) e s)
      (λ (e : step ≡ Prev). subst (λ x. StepsOne walk (step_from walk x) to i old_world old result new_world new) e s)
      moves
