-- Whole moves in a view.
use Rattle.std.proofs.Common.{◌≡◌, ℕ, Bool, true, List, length, refl, sym, ap, subst, Option, Some, None, Result, Ok, Err}
use Rattle.std.specs.Prelude.{OnErr}
use Rattle.leveldb_base.specs.Types.{Pair, position_within, next_position, previous_position, last_position, seek_position, count_before}
use Rattle.leveldb_base.specs.declared.error.Status.{Status}
use Rattle.leveldb_base.specs.declared.types.Direction.{Direction}
use Rattle.leveldb_base.specs.Entries.{entries_of_pairs}
use Rattle.leveldb_base.specs.History.{IsView}
use Rattle.leveldb_base.proofs.EntriesLemmas.{rising_is_sorted}
use Rattle.leveldb_base.proofs.ViewLemmas.{sorted_has_view}
use Rattle.leveldb_base.proofs.PositionLemmas.{last_before_end}
use Rattle.leveldb_iter.specs.declared.db_iter.ViewWalk.{ViewWalk}
use Rattle.leveldb_iter.specs.declared.walk.Walk.{Ghosts as WalkGhosts}
use Rattle.leveldb_iter.specs.DbIter.{IsViewOf, IsPlaced, IsAtOrBefore, IsViewAt, IsViewOver, view_pair, view_here, FailsOver, FailsView}
use Rattle.leveldb_iter.specs.DbIterSteps.{IsOnScan, IsOnScanBack, IsFoundNext, IsFoundPrevious, IsLeft, IsLeftBack, IsSought, IsWhole, KeepsBelow, MovesBelow, number_after}
use Rattle.leveldb_iter.specs.MergedEntries.{internal_order}
use Rattle.leveldb_iter.specs.Walk.{KeyOrder, Way, WalkLaws, MovesWalk, Advances, StepsBack, SeeksFirst, Resets}
use Rattle.leveldb_iter.proofs.DbIterLemmas.{kept_itself, widened}

-- the pair that is saved
abbrev pub saved_of : {M : Type 0} → ViewWalk M → Pair
saved_of it = (it.saved_key.items, it.saved_value.items)

module _ {E T M : Type 0} (walk : WalkGhosts M E T) (laws : WalkLaws walk.over walk.is_at walk.here walk.fails walk.keeps) where
  -- a view goes with what is left of the walk below
  view_kept : {old_world new_world : E × T} {old new : M} {s : ℕ} {order : KeyOrder} {below pairs : List Pair} → KeepsBelow walk old_world old new_world new
      → IsViewOf walk old_world old s order below pairs → IsViewOf walk new_world new s order below pairs
  view_kept {order = order} {below} keeps view = record { over = keeps.over (internal_order order) below view.over; exact = view.exact; accepts = view.accepts; view = view.view }

  -- with no direction it is at no position
  pub rests : (world : E × T) (it : ViewWalk M) (order : KeyOrder) (below pairs : List Pair) → it.at ≡ None → IsViewOf walk world it.walk it.sequence order below pairs → IsViewAt walk world it order pairs None
  rests world it order below pairs none view = record {
    below = below;
    view = view;
    placed = subst (λ d. IsPlaced walk world it.walk it.sequence order d (saved_of it) below pairs None) (sym none) refl;
  }

  -- Where a move comes from and where it leads, as situations.
  pub record Enters {R : Type 0} (From : E × T → ViewWalk M → KeyOrder → List Pair → Option ℕ → Type 0) (to : Way) (Start : KeyOrder → List Pair → List Pair → ℕ → Type 0) (End : R → KeyOrder → List Pair → List Pair → ℕ → Type 0)
      (old_world : E × T) (old : ViewWalk M) (value : R) (new_world : E × T) (new : ViewWalk M) (order : KeyOrder) (pairs : List Pair) (position : Option ℕ) : Type 0 where
    pub below : List Pair
    pub number : ℕ
    pub view : IsViewOf walk old_world old.walk old.sequence order below pairs
    pub start : Start order below pairs number
    pub end : End value order below pairs number → IsPlaced walk new_world new.walk old.sequence order new.at (saved_of new) below pairs (to order pairs position)

  module _ {R S : Type 0} {From : E × T → ViewWalk M → KeyOrder → List Pair → Option ℕ → Type 0} {to : Way} {Start : KeyOrder → List Pair → List Pair → ℕ → Type 0} {End : R → KeyOrder → List Pair → List Pair → ℕ → Type 0}
      {old_world : E × T} (old : ViewWalk M) {new_world : E × T} (new : ViewWalk M) (value : R)
      (same : new.sequence ≡ old.sequence) (enters : (order : KeyOrder) (pairs : List Pair) (position : Option ℕ) → From old_world old order pairs position → Enters From to Start End old_world old value new_world new order pairs position)
      (from_over : (order : KeyOrder) (pairs : List Pair) → IsViewOver walk old_world old order pairs → (position : Option ℕ) × From old_world old order pairs position) where
    -- it succeeds
    pub arrived : (result : S) → MovesBelow walk Start End old_world old.walk (Ok value) new_world new.walk
        → MovesWalk (IsViewOver walk) (IsViewAt walk) (view_here walk) (FailsView walk) walk.keeps From to old_world old (Ok result) new_world new
    arrived result m =
        let at : (order : KeyOrder) (pairs : List Pair) (position : Option ℕ) → From old_world old order pairs position → IsViewAt walk new_world new order pairs (to order pairs position) = λ order pairs position from.
        let e = enters order pairs position from in
        record {
          below = e.below;
          view = subst (λ s. IsViewOf walk new_world new.walk s order e.below pairs) (sym same) (view_kept m.keeps e.view);
          placed = subst (λ s. IsPlaced walk new_world new.walk s order new.at (saved_of new) e.below pairs (to order pairs position)) (sym same) (e.end (m.ok order e.below pairs e.number e.start));
        } in
        let over : (order : KeyOrder) (pairs : List Pair) → IsViewOver walk old_world old order pairs → IsViewOver walk new_world new order pairs = λ order pairs was.
        let from = from_over order pairs was in (to order pairs from.0, at order pairs from.0 from.1) in
        let keeps = m.keeps in
        record {
          ok = at;
          same = over;
          err = λ order pairs was. tt;
          none = tt;
          kept = keeps.kept;
          cause = tt;
          excuses = widened walk laws m.keeps over;
        }

    -- or fails
    pub refused : (status : Status) → MovesBelow walk Start End old_world old.walk (Err status) new_world new.walk → new.at ≡ None
        → MovesWalk (IsViewOver walk) (IsViewAt walk) (view_here walk) (FailsView walk) walk.keeps {R = S} From to old_world old (Err status) new_world new
    refused status m none =
        let resting : (order : KeyOrder) (pairs : List Pair) → IsViewOver walk old_world old order pairs → IsViewAt walk new_world new order pairs None = λ order pairs was.
        let at = was.1 in
        rests new_world new order at.below pairs none (subst (λ s. IsViewOf walk new_world new.walk s order at.below pairs) (sym same) (view_kept m.keeps at.view)) in
        let keeps = m.keeps in
        record {
          ok = λ order pairs position from. tt;
          same = λ order pairs was. (None, resting order pairs was);
          err = resting;
          none = ap (λ d. view_pair d (walk.here new.walk) (saved_of new)) none;
          kept = keeps.kept;
          cause = widened walk laws (kept_itself walk laws old_world old.walk) (λ order pairs was.
              let from = from_over order pairs was in
              let e = enters order pairs from.0 from.1 in
              (e.below, e.number, e.start)) new_world status m.cause;
          excuses = widened walk laws m.keeps (λ order pairs was. (None, resting order pairs was));
        }

  -- a move whose last part gives its result
  pub finished : {From : E × T → ViewWalk M → KeyOrder → List Pair → Option ℕ → Type 0} {to : Way} {Start : KeyOrder → List Pair → List Pair → ℕ → Type 0} {End : Unit {0} → KeyOrder → List Pair → List Pair → ℕ → Type 0}
      {old_world : E × T} (old : ViewWalk M) {new_world : E × T} (new : ViewWalk M) → new.sequence ≡ old.sequence
      → (enters : (order : KeyOrder) (pairs : List Pair) (position : Option ℕ) → From old_world old order pairs position → Enters From to Start End old_world old (tt {0}) new_world new order pairs position)
      → ((order : KeyOrder) (pairs : List Pair) → IsViewOver walk old_world old order pairs → (position : Option ℕ) × From old_world old order pairs position)
      → (result : Result (Unit {0}) Status) → MovesBelow walk Start End old_world old.walk result new_world new.walk → OnErr result (new.at ≡ None)
      → MovesWalk (IsViewOver walk) (IsViewAt walk) (view_here walk) (FailsView walk) walk.keeps From to old_world old result new_world new
  finished old new same enters from_over (Ok u) m none = arrived old new u same enters from_over u m
  finished old new same enters from_over (Err status) m none = refused old new (tt {0}) same enters from_over status m none

  -- the errors of a new view
  pub made_fails : (it : ViewWalk M) → it.at ≡ None → (world later : E × T) (status : Status) → FailsView walk world it later status
      → FailsOver walk (λ order pairs. (below : List Pair) × IsViewOf walk world it.walk it.sequence order below pairs) world it.walk later status
  made_fails it none world later status fails = widened walk laws (kept_itself walk laws world it.walk) (λ order pairs view. (None, rests world it order view.0 pairs none view.1)) later status fails

  -- a scan at a sequence number, by another name
  pub next_at : {number s : ℕ} {skip : Option (List ℕ)} {world new_world : E × T} {inner new : M} (direction : Option Direction) (saved : Pair) {result : Result (Unit {0}) Status} → number ≡ s
      → MovesBelow walk (IsOnScan walk world inner number skip) (λ (u : Unit {0}). IsFoundNext walk new_world new number direction saved) world inner result new_world new
      → MovesBelow walk (IsOnScan walk world inner s skip) (λ (u : Unit {0}). IsFoundNext walk new_world new s direction saved) world inner result new_world new
  next_at {skip = skip} {world} {new_world} {inner} {new} direction saved {result} same m =
      subst (λ n. MovesBelow walk (IsOnScan walk world inner n skip) (λ (u : Unit {0}). IsFoundNext walk new_world new n direction saved) world inner result new_world new) same m

  pub previous_at : {number s : ℕ} {world new_world : E × T} {inner new : M} (direction : Option Direction) (saved : Pair) {result : Result (Unit {0}) Status} → number ≡ s
      → MovesBelow walk (IsOnScanBack walk world inner number None) (λ (u : Unit {0}). IsFoundPrevious walk new_world new number direction saved) world inner result new_world new
      → MovesBelow walk (IsOnScanBack walk world inner s None) (λ (u : Unit {0}). IsFoundPrevious walk new_world new s direction saved) world inner result new_world new
  previous_at {world = world} {new_world} {inner} {new} direction saved {result} same m =
      subst (λ n. MovesBelow walk (IsOnScanBack walk world inner n None) (λ (u : Unit {0}). IsFoundPrevious walk new_world new n direction saved) world inner result new_world new) same m

  -- ---- each move

  next_is : (pairs : List Pair) (position : Option ℕ) → position_within pairs (number_after position) ≡ next_position pairs position
  next_is pairs None = refl
  next_is pairs (Some n) = refl

  module _ {old_world : E × T} {old : ViewWalk M} {new_world : E × T} {new : ViewWalk M} where
    pub enters_next : (order : KeyOrder) (pairs : List Pair) (position : Option ℕ) → IsViewAt walk old_world old order pairs position
        → Enters (IsViewAt walk) (λ _. next_position) (IsLeft walk old_world old.walk old.sequence old.at (saved_of old)) (λ (u : Unit {0}). IsFoundNext walk new_world new.walk old.sequence new.at (saved_of new))
        old_world old (tt {0}) new_world new order pairs position
    enters_next order pairs position at = record {
      below = at.below;
      number = number_after position;
      view = at.view;
      start = (at.view, position, refl, at.placed);
      end = λ found. subst (IsPlaced walk new_world new.walk old.sequence order new.at (saved_of new) at.below pairs) (next_is pairs position) found;
    }

    pub enters_previous : (direction : Direction) → old.at ≡ Some direction → (order : KeyOrder) (pairs : List Pair) (position : Option ℕ) → IsViewAt walk old_world old order pairs position
        → Enters (IsViewAt walk) (λ _ _. previous_position) (IsLeftBack walk old_world old.walk old.sequence direction (saved_of old)) (λ (u : Unit {0}). IsFoundPrevious walk new_world new.walk old.sequence new.at (saved_of new))
        old_world old (tt {0}) new_world new order pairs position
    enters_previous direction is order pairs position at =
        let placed : (n : ℕ) × (position ≡ Some n) × IsAtOrBefore walk old_world old.walk old.sequence order direction (saved_of old) at.below pairs n =
        subst (λ d. IsPlaced walk old_world old.walk old.sequence order d (saved_of old) at.below pairs position) is at.placed in
        record {
          below = at.below;
          number = placed.0;
          view = at.view;
          start = (at.view, placed.2);
          end = λ found. subst (λ p. IsPlaced walk new_world new.walk old.sequence order new.at (saved_of new) at.below pairs (previous_position p)) (sym placed.1) found;
        }

    pub enters_key : (key : List ℕ) (order : KeyOrder) (pairs : List Pair) (position : Option ℕ) → IsViewOver walk old_world old order pairs × (order.accepts key ≡ true)
        → Enters (λ world it order pairs _. IsViewOver walk world it order pairs × (order.accepts key ≡ true)) (λ order pairs _. seek_position order.cmp pairs key)
        (IsSought walk old_world old.walk old.sequence key) (λ (u : Unit {0}). IsFoundNext walk new_world new.walk old.sequence new.at (saved_of new)) old_world old (tt {0}) new_world new order pairs position
    enters_key key order pairs position from =
        let over = from.0 in
        let at = over.1 in
        record { below = at.below; number = count_before order.cmp key pairs; view = at.view; start = (at.view, refl); end = λ found. found }

    pub enters_last : (order : KeyOrder) (pairs : List Pair) (position : Option ℕ) → IsViewOver walk old_world old order pairs
        → Enters (λ world it order pairs _. IsViewOver walk world it order pairs) (λ _ pairs _. last_position pairs)
        (IsWhole walk old_world old.walk old.sequence) (λ (u : Unit {0}). IsFoundPrevious walk new_world new.walk old.sequence new.at (saved_of new)) old_world old (tt {0}) new_world new order pairs position
    enters_last order pairs position over =
        let at = over.1 in
        record {
          below = at.below;
          number = length pairs;
          view = at.view;
          start = (at.view, refl);
          end = λ found. subst (IsPlaced walk new_world new.walk old.sequence order new.at (saved_of new) at.below pairs) (sym (last_before_end pairs)) found;
        }

  -- over a view it accepts any key
  pub key_from_over : {world : E × T} {it : ViewWalk M} (key : List ℕ) (order : KeyOrder) (pairs : List Pair) → IsViewOver walk world it order pairs
      → (position : Option ℕ) × (IsViewOver walk world it order pairs × (order.accepts key ≡ true))
  key_from_over key order pairs was =
      let at = was.1 in
      let view = at.view in
      (None, (was, view.accepts key))

  -- ---- at no position

  -- it is where it was, but at no position
  module _ (old new : ViewWalk M) (same_walk : new.walk ≡ old.walk) (same : new.sequence ≡ old.sequence) (none : new.at ≡ None) where
    pub reset_over : (world : E × T) (order : KeyOrder) (pairs : List Pair) → IsViewOver walk world old order pairs → IsViewAt walk world new order pairs None
    reset_over world order pairs was =
        let at = was.1 in
        rests world new order at.below pairs none
        (subst (λ s. IsViewOf walk world new.walk s order at.below pairs) (sym same) (subst (λ it. IsViewOf walk world it old.sequence order at.below pairs) (sym same_walk) at.view))

    pub reset_excuses : (world later : E × T) (status : Status) → FailsView walk world new later status → FailsView walk world old later status
    reset_excuses world later status fails =
        widened walk laws (kept_itself walk laws world old.walk) (λ order pairs was. (None, reset_over world order pairs was)) later status
        (subst (λ it. FailsOver walk (IsViewOver walk world new) world it later status) same_walk fails)

    pub resets : Resets (IsViewOver walk) (IsViewAt walk) (view_here walk) (FailsView walk) walk.keeps old new
    resets = record {
      at_none = reset_over;
      none = ap (λ d. view_pair d (walk.here new.walk) (saved_of new)) none;
      excuses = reset_excuses;
    }

    -- the first pair is the one after no position
    pub first_after_reset : {R S : Type 0} {old_world new_world : E × T} {newest : ViewWalk M} {value : R} (other : S)
        → Advances (IsViewOver walk) (IsViewAt walk) (view_here walk) (FailsView walk) walk.keeps old_world new (Ok value) new_world newest
        → SeeksFirst (IsViewOver walk) (IsViewAt walk) (view_here walk) (FailsView walk) walk.keeps old_world old (Ok other) new_world newest
    first_after_reset {old_world = old_world} other m = record {
      ok = λ order pairs position was. m.ok order pairs None (reset_over old_world order pairs was);
      same = λ order pairs was. m.same order pairs (None, reset_over old_world order pairs was);
      err = λ order pairs was. tt;
      none = tt;
      kept = m.kept;
      cause = tt;
      excuses = λ later status fails. reset_excuses old_world later status (m.excuses later status fails);
    }

    pub first_fails : {R S : Type 0} {old_world new_world : E × T} {newest : ViewWalk M} {status : Status}
        → Advances (IsViewOver walk) (IsViewAt walk) (view_here walk) (FailsView walk) walk.keeps {R = R} old_world new (Err status) new_world newest
        → SeeksFirst (IsViewOver walk) (IsViewAt walk) (view_here walk) (FailsView walk) walk.keeps {R = S} old_world old (Err status) new_world newest
    first_fails {old_world = old_world} {new_world} {status = status} m = record {
      ok = λ order pairs position was. tt;
      same = λ order pairs was. m.same order pairs (None, reset_over old_world order pairs was);
      err = λ order pairs was. m.err order pairs (None, reset_over old_world order pairs was);
      none = m.none;
      kept = m.kept;
      cause = reset_excuses old_world new_world status m.cause;
      excuses = λ later after fails. reset_excuses old_world later after (m.excuses later after fails);
    }

  -- before the first pair and from no position it stays at none
  pub stays_at_none : {world : E × T} (it : ViewWalk M) (result : Bool) → it.at ≡ None → StepsBack (IsViewOver walk) (IsViewAt walk) (view_here walk) (FailsView walk) walk.keeps world it (Ok result) world it
  stays_at_none {world} it result none = record {
    ok = λ order pairs position at.
        let placed : position ≡ None = subst (λ d. IsPlaced walk world it.walk it.sequence order d (saved_of it) at.below pairs position) none at.placed in
        subst (λ p. IsViewAt walk world it order pairs (previous_position p)) (sym placed) (rests world it order at.below pairs none at.view);
    same = λ order pairs was. was;
    err = λ order pairs was. tt;
    none = tt;
    kept = laws.keeps_itself world;
    cause = tt;
    excuses = λ later status fails. fails;
  }

  -- ---- the view

  -- the pairs are the view of the entries below
  pub view_is_view : (world : E × T) (inner : M) (s : ℕ) (order : KeyOrder) (below pairs : List Pair) → IsViewOf walk world inner s order below pairs → IsView order.cmp (entries_of_pairs below) s pairs
  view_is_view world inner s order below pairs view =
      let sorted = laws.sorted world inner (internal_order order) below view.over in
      subst (IsView order.cmp (entries_of_pairs below) s) (sym view.view)
      (sorted_has_view order.cmp view.exact (entries_of_pairs below) s (rising_is_sorted order.cmp view.exact below sorted.rising))
