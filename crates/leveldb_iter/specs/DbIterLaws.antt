-- The laws of a view as a walk. They are in specs/ since its impl of `Walk` proves them by this,
-- and the checker takes no term of proofs/ there.
use Rattle.std.proofs.Common.{◌≡◌, ℕ, ◌++◌, ◌∷◌, [], List, length, refl, sym, ◌∙◌, ap, subst, inl, inr, Option, Some, None}
use Rattle.std.specs.Prelude.{slice_get}
use Rattle.std.specs.Option.{option_map}
use Rattle.std.proofs.lemmas.Option.{slice_get_within}
use Rattle.leveldb_base.specs.Entries.{entries_of_pairs}
use Rattle.leveldb_base.specs.History.{AreRising}
use Rattle.leveldb_base.specs.Scan.{count_shown}
use Rattle.leveldb_base.specs.Types.{Pair, IsPosition, pair_at}
use Rattle.leveldb_base.specs.View.{view_of}
use Rattle.leveldb_base.specs.declared.error.Status.{Status}
use Rattle.leveldb_base.specs.declared.types.Direction.{Direction}
use Rattle.leveldb_base.specs.declared.types.Direction.TheVariants.{Forward, Reverse}
use Rattle.leveldb_base.proofs.EntriesLemmas.{rising_is_sorted}
use Rattle.leveldb_base.proofs.PositionLemmas.{at_seam}
use Rattle.leveldb_base.proofs.ViewLemmas.{sorted_has_view}
use Rattle.leveldb_iter.specs.declared.db_iter.ViewWalk.{ViewWalk}
use Rattle.leveldb_iter.specs.declared.walk.Walk.{Ghosts as WalkGhosts}
use Rattle.leveldb_iter.specs.DbIter.{IsViewOf, IsAtOrBefore, IsPlaced, IsViewAt, IsViewOver, view_pair, view_here, FailsView, user_pair}
use Rattle.leveldb_iter.specs.MergedEntries.{internal_order}
use Rattle.leveldb_iter.specs.Walk.{KeyOrder, IsSortedIn, WalkLaws}

-- the pair at the front of the latter of two lists
pub at_front : (front back : List Pair)
    → slice_get (front ++ back) (length front) ≡ slice_get back 0
at_front [] back = refl
at_front (pair ∷ front) back = at_front front back

module _ {E T M : Type 0} {walk : WalkGhosts M E T}
    (laws : WalkLaws walk.over walk.is_at walk.here walk.fails walk.keeps) where
  -- the pair at its position is the one that it says
  shown_at : (world : E × T) (inner : M) (s : ℕ) (order : KeyOrder) (direction : Direction)
      (saved : Pair) (below pairs : List Pair) (n : ℕ)
      → IsAtOrBefore walk world inner s order direction saved below pairs n
      → (pair : Pair) × (view_pair (Some direction) (walk.here inner) saved ≡ Some pair)
      × (slice_get pairs n ≡ Some pair)
  shown_at world inner s order Forward saved below pairs n entry =
      let here : walk.here inner ≡ Some entry.pair =
      laws.at_position world inner (internal_order order) below (Some (length entry.front)) entry.at
      ∙ ap (λ list. slice_get list (length entry.front)) entry.parted
      ∙ at_front entry.front (entry.pair ∷ entry.back) in
      (user_pair entry.pair, ap (option_map user_pair) here, entry.shown)
  shown_at world inner s order Reverse saved below pairs n b = (
    saved,
    refl,
    ap (slice_get pairs) (sym b.counted)
        ∙ ap (λ list. slice_get list (count_shown s (entries_of_pairs b.front))) b.view
        ∙ at_seam (view_of s (entries_of_pairs b.front)) b.more saved,
  )

  -- the list has its position
  placed_in_range : (world : E × T) (inner : M) (s : ℕ) (order : KeyOrder)
      (direction : Option Direction) (saved : Pair) (below pairs : List Pair)
      (position : Option ℕ) → IsPlaced walk world inner s order direction saved below pairs position
      → IsPosition pairs position
  placed_in_range world inner s order None saved below pairs position placed =
      subst (IsPosition pairs) (sym placed) tt
  placed_in_range world inner s order (Some direction) saved below pairs position placed =
      let shown = shown_at world inner s order direction saved below pairs placed.0 placed.2 in
      subst (IsPosition pairs) (sym placed.1)
      (slice_get_within pairs placed.0 shown.0 shown.2)

  -- and the pair there is its own
  placed_at_position : (world : E × T) (inner : M) (s : ℕ) (order : KeyOrder)
      (direction : Option Direction) (saved : Pair) (below pairs : List Pair)
      (position : Option ℕ) → IsPlaced walk world inner s order direction saved below pairs position
      → view_pair direction (walk.here inner) saved ≡ pair_at pairs position
  placed_at_position world inner s order None saved below pairs position placed =
      sym (ap (pair_at pairs) placed)
  placed_at_position world inner s order (Some direction) saved below pairs position placed =
      let shown = shown_at world inner s order direction saved below pairs placed.0 placed.2 in
      shown.1 ∙ sym (ap (pair_at pairs) placed.1 ∙ shown.2)

  module _ (first second : E × T) (kept : walk.keeps first second) (inner : M) (s : ℕ)
      (order : KeyOrder) where
    view_stays : (below pairs : List Pair) → IsViewOf walk first inner s order below pairs
        → IsViewOf walk second inner s order below pairs
    view_stays below pairs view = record {
      over = laws.stays_over first second kept inner (internal_order order) below view.over;
      exact = view.exact;
      accepts = view.accepts;
      view = view.view;
    }

    placed_at_stays : (direction : Direction) (saved : Pair) (below pairs : List Pair) (n : ℕ)
        → IsAtOrBefore walk first inner s order direction saved below pairs n
        → IsAtOrBefore walk second inner s order direction saved below pairs n
    placed_at_stays Forward saved below pairs n entry = record {
      front = entry.front;
      pair = entry.pair;
      back = entry.back;
      parted = entry.parted;
      at = laws.stays first second kept inner (internal_order order) below _ entry.at;
      shown = entry.shown;
      rest = entry.rest;
    }
    placed_at_stays Reverse saved below pairs n b = record {
      front = b.front;
      back = b.back;
      parted = b.parted;
      at = laws.stays first second kept inner (internal_order order) below _ b.at;
      more = b.more;
      view = b.view;
      counted = b.counted;
      after = b.after;
    }

    placed_stays : (direction : Option Direction) (saved : Pair) (below pairs : List Pair)
        (position : Option ℕ)
        → IsPlaced walk first inner s order direction saved below pairs position
        → IsPlaced walk second inner s order direction saved below pairs position
    placed_stays None saved below pairs position placed = placed
    placed_stays (Some direction) saved below pairs position placed = (
      placed.0,
      placed.1,
      placed_at_stays direction saved below pairs placed.0 placed.2,
    )

  -- what is left of a world has a view at its position
  view_at_stays : (first second : E × T) → walk.keeps first second → (it : ViewWalk M)
      (order : KeyOrder) (pairs : List Pair) (position : Option ℕ)
      → IsViewAt walk first it order pairs position → IsViewAt walk second it order pairs position
  view_at_stays first second kept it order pairs position at = record {
    below = at.below;
    view = view_stays first second kept it.walk it.sequence order at.below pairs at.view;
    placed = placed_stays first second kept it.walk it.sequence order it.at
        (it.saved_key.items, it.saved_value.items) at.below pairs position at.placed;
  }

  -- and with no new error
  view_excuses : (first second : E × T) → walk.keeps first second → (it : ViewWalk M)
      (later : E × T) (status : Status) → FailsView walk second it later status
      → FailsView walk first it later status
  unfolding view_at_stays
  view_excuses first second kept it later status (inl fails) =
      inl (laws.excuses first second kept it.walk later status fails)
  view_excuses first second kept it later status (inr (inl memory)) = inr (inl memory)
  view_excuses first second kept it later status (inr (inr corrupt)) =
      inr (inr (
        corrupt.0,
        λ order pairs over. corrupt.1 order pairs
            (over.0, view_at_stays first second kept it order pairs over.0 over.1),
      ))

  -- the view of sorted entries is sorted
  view_sorted : (world : E × T) (inner : M) (s : ℕ) (order : KeyOrder) (below pairs : List Pair)
      → IsViewOf walk world inner s order below pairs → IsSortedIn order pairs
  view_sorted world inner s order below pairs view =
      let sorted = laws.sorted world inner (internal_order order) below view.over in
      let is_view = sorted_has_view order.cmp view.exact (entries_of_pairs below) s
      (rising_is_sorted order.cmp view.exact below sorted.rising) in
      record {
        rising = subst (λ list. AreRising order.cmp list) (sym view.view) is_view.sorted;
        accepted = λ i d h. view.accepts _;
      }

  -- a view is a walk
  pub view_laws : WalkLaws (IsViewOver walk) (IsViewAt walk) (view_here walk) (FailsView walk)
      walk.keeps
  view_laws = record {
    sorted = λ world it order pairs over.
        let at = over.1 in
        view_sorted world it.walk it.sequence order at.below pairs at.view;
    over_list = λ world it order pairs position at. (position, at);
    in_range = λ world it order pairs position at.
        placed_in_range world it.walk it.sequence order it.at
        (it.saved_key.items, it.saved_value.items) at.below pairs position at.placed;
    at_position = λ world it order pairs position at.
        placed_at_position world it.walk it.sequence order it.at
        (it.saved_key.items, it.saved_value.items) at.below pairs position at.placed;
    keeps_itself = laws.keeps_itself;
    keeps_on = laws.keeps_on;
    stays_over = λ first second kept it order pairs over.
        (over.0, view_at_stays first second kept it order pairs over.0 over.1);
    stays = view_at_stays;
    excuses = view_excuses;
  }
