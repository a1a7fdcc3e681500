-- The laws of a merge as a walk. They are in specs/ since its impl of `Walk` proves them by this,
-- and the checker takes no term of proofs/ there.
use Rattle.std.proofs.Common.{◌≡◌, ⊎_elim, inl, inr, ℕ, List, sym, ◌∙◌, ap, subst, Option, Some, None}
use Rattle.std.specs.Prelude.{option_and_then}
use Rattle.std.proofs.lemmas.Option.{slice_get_within}
use Rattle.leveldb_base.specs.declared.cmp.Cmp.{Ghosts as CmpGhosts}
use Rattle.leveldb_base.specs.declared.error.Status.{Status}
use Rattle.leveldb_base.specs.Types.{Pair, IsPosition, pair_at}
use Rattle.leveldb_iter.specs.declared.walk.Walk.{Ghosts as WalkGhosts}
use Rattle.leveldb_iter.specs.declared.merging_iter.MergeCore.{MergeCore}
use Rattle.leveldb_iter.specs.Walk.{KeyOrder, IsSortedIn, WalkLaws}
use Rattle.leveldb_iter.specs.Merge.{beside_cut}
use Rattle.leveldb_iter.specs.Children.{AnyFails, head_of, list_at}
use Rattle.leveldb_iter.specs.MergingIter.{AreMerged, AreBesideCut, IsPlacedAt, IsMergeOfListsAt, IsMergeOver, IsMergeAt, merged_here, FailsMerged}

-- a position with a pair is one of the list
position_of_pair : (pairs : List Pair) (position : Option ℕ) (pair : Pair)
    → pair_at pairs position ≡ Some pair → IsPosition pairs position
position_of_pair pairs None pair e = tt
position_of_pair pairs (Some i) pair e = slice_get_within pairs i pair e

module _ {E T I C : Type 0} {walk : WalkGhosts I E T} {cmp : CmpGhosts C} where
  -- a merge at a position is over its lists and pairs
  pub merged_over_lists : (world : E × T) (it : MergeCore C I) (order : KeyOrder)
      (lists : List (List Pair)) (pairs : List Pair) (position : Option ℕ)
      → IsMergeOfListsAt walk cmp world it order lists pairs position
      → AreMerged walk cmp world it.cmp it.children.items order lists pairs
  merged_over_lists world it order lists pairs position at = by it.current at.placed
    where
      by : (current : Option ℕ) → IsPlacedAt walk cmp world it.cmp it.children.items order lists
          pairs current it.shared it.direction position
          → AreMerged walk cmp world it.cmp it.children.items order lists pairs
      by None placed = placed.0
      by (Some i) placed = let side = placed.0 in side.merged

  -- the merged pairs are sorted
  pub merged_sorted : (world : E × T) (it : MergeCore C I) (order : KeyOrder) (pairs : List Pair)
      → IsMergeOver walk cmp world it order pairs → IsSortedIn order pairs
  merged_sorted world it order pairs s =
      let at = s.1 in
      let merged = merged_over_lists world it order at.0 pairs s.0 at.1 in
      let merge = merged.merge in merge.sorted

  -- the pair of the current child is the one at the merge's position
  pub merged_at_position : (world : E × T) (it : MergeCore C I) (order : KeyOrder)
      (pairs : List Pair) (position : Option ℕ)
      → IsMergeAt walk cmp world it order pairs position
      → merged_here walk it ≡ pair_at pairs position
  merged_at_position world it order pairs position at = by it.current (at.1).placed
    where
      by : (current : Option ℕ) → IsPlacedAt walk cmp world it.cmp it.children.items order at.0
          pairs current it.shared it.direction position
          → option_and_then (head_of walk it.children.items) current ≡ pair_at pairs position
      by None placed = sym (ap (pair_at pairs) placed.1)
      by (Some i) placed = let own = placed.1 in own.own ∙ sym own.same

  -- and the pairs have that position
  pub merged_in_range : (world : E × T) (it : MergeCore C I) (order : KeyOrder)
      (pairs : List Pair) (position : Option ℕ)
      → IsMergeAt walk cmp world it order pairs position → IsPosition pairs position
  merged_in_range world it order pairs position at = by it.current (at.1).placed
    where
      by : (current : Option ℕ) → IsPlacedAt walk cmp world it.cmp it.children.items order at.0
          pairs current it.shared it.direction position → IsPosition pairs position
      by None placed = subst (IsPosition pairs) (sym placed.1) tt
      by (Some i) placed = let own = placed.1 in position_of_pair pairs position own.pair own.same

  -- what moves leave of a world has the children over their lists
  abbrev pub merged_stays_over : (first second : E × T)
      → ((child : I) (order : KeyOrder) (list : List Pair)
      → walk.over first child order list → walk.over second child order list)
      → (compares : C) (children : List I) (order : KeyOrder) (lists : List (List Pair))
      (pairs : List Pair)
      → AreMerged walk cmp first compares children order lists pairs
      → AreMerged walk cmp second compares children order lists pairs
  merged_stays_over first second stays compares children order lists pairs s = record {
    counted = s.counted;
    over = λ k child e. stays child order (list_at lists k) (s.over k child e);
    merge = s.merge;
    ordered = s.ordered;
  }

  -- and at their positions
  pub placed_stays : (first second : E × T)
      → ((child : I) (order : KeyOrder) (list : List Pair)
      → walk.over first child order list → walk.over second child order list)
      → ((child : I) (order : KeyOrder) (list : List Pair) (position : Option ℕ)
      → walk.is_at first child order list position → walk.is_at second child order list position)
      → (it : MergeCore C I) (order : KeyOrder) (lists : List (List Pair)) (pairs : List Pair)
      (position : Option ℕ) → IsMergeOfListsAt walk cmp first it order lists pairs position
      → IsMergeOfListsAt walk cmp second it order lists pairs position
  placed_stays first second over at it order lists pairs position was =
      record { placed = by it.current was.placed }
    where
      by : (current : Option ℕ) → IsPlacedAt walk cmp first it.cmp it.children.items order lists
          pairs current it.shared it.direction position
          → IsPlacedAt walk cmp second it.cmp it.children.items order lists pairs current
          it.shared it.direction position
      by None placed = (
        merged_stays_over first second over it.cmp it.children.items order lists pairs placed.0,
        placed.1,
      )
      by (Some i) placed =
          let side = placed.0 in
          let moved : AreBesideCut walk cmp second it.cmp it.children.items order lists pairs
          it.direction position = record {
            merged = merged_stays_over first second over it.cmp it.children.items order lists
                pairs side.merged;
            before = side.before;
            cut = side.cut;
            each = λ k child e.
                let list = list_at lists k in
                let here = beside_cut it.direction side.before list in
                at child order list here (side.each k child e);
            at = side.at;
          } in
          (moved, placed.1)

  pub merged_stays : (first second : E × T)
      → ((child : I) (order : KeyOrder) (list : List Pair)
      → walk.over first child order list → walk.over second child order list)
      → ((child : I) (order : KeyOrder) (list : List Pair) (position : Option ℕ)
      → walk.is_at first child order list position → walk.is_at second child order list position)
      → (it : MergeCore C I) (order : KeyOrder) (pairs : List Pair) (position : Option ℕ)
      → IsMergeAt walk cmp first it order pairs position
      → IsMergeAt walk cmp second it order pairs position
  merged_stays first second over at it order pairs position was =
      (was.0, placed_stays first second over at it order was.0 pairs position was.1)

  -- a merge has no new errors where its children have none and stay where they are
  pub merged_excuses : (first second : E × T)
      → ((child : I) (order : KeyOrder) (list : List Pair)
      → walk.over first child order list → walk.over second child order list)
      → ((child : I) (order : KeyOrder) (list : List Pair) (position : Option ℕ)
      → walk.is_at first child order list position → walk.is_at second child order list position)
      → ((child : I) (later : E × T) (status : Status) → walk.fails second child later status
      → walk.fails first child later status)
      → (it : MergeCore C I) (later : E × T) (status : Status)
      → FailsMerged walk cmp second it later status → FailsMerged walk cmp first it later status
  merged_excuses first second over at excuses it later status failed = ⊎_elim
      (λ (any : AnyFails walk second it.children.items later status).
      inl (any.0, any.1, any.2, any.3, excuses any.1 later status any.4))
      (λ clash. inr (
        clash.0,
        λ order lists pairs position was. clash.1 order lists pairs position
            (placed_stays first second over at it order lists pairs position was),
      ))
      failed

module _ {E T I C : Type 0} {walk : WalkGhosts I E T} {cmp : CmpGhosts C} where
  -- a merge of walks is a walk
  pub merged_laws : WalkLaws walk.over walk.is_at walk.here walk.fails walk.keeps
      → WalkLaws (IsMergeOver walk cmp) (IsMergeAt walk cmp) (merged_here walk)
      (FailsMerged walk cmp) walk.keeps
  merged_laws laws = record {
    sorted = merged_sorted;
    over_list = λ world it order pairs position at. (position, at);
    in_range = merged_in_range;
    at_position = merged_at_position;
    keeps_itself = laws.keeps_itself;
    keeps_on = laws.keeps_on;
    stays_over = λ first second keeps it order pairs was. (
      was.0,
      merged_stays first second (laws.stays_over first second keeps)
          (laws.stays first second keeps) it order pairs was.0 was.1,
    );
    stays = λ first second keeps.
        merged_stays first second (laws.stays_over first second keeps)
        (laws.stays first second keeps);
    excuses = λ first second keeps.
        merged_excuses first second (laws.stays_over first second keeps)
        (laws.stays first second keeps) (laws.excuses first second keeps);
  }
