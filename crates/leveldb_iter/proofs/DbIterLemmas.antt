-- Moves in a view, step by step.
use Rattle.std.proofs.Common.{◌≡◌, ◌⊎◌, inl, inr, ⊎_elim, ℕ, ◌+◌, ◌<◌, ◌≤◌, Bool, true, false, List, [], ◌∷◌, ◌++◌, length, refl, sym, ◌∙◌, ap, subst, arith, Option, Some, None, Result, Ok, Err, append_assoc, length-append}
use Rattle.std.specs.Prelude.{slice_get, is_some, IfOk, IfErr, IsErrAnd, nat_le}
use Rattle.std.specs.Bool.{then_some}
use Rattle.std.proofs.lemmas.Bool.{leb-true, and_parts}
use Rattle.std.proofs.lemmas.Option.{slice_get_within, get_or_from_slice_get}
use Rattle.leveldb_base.specs.Cmp.{IsExactOrder}
use Rattle.leveldb_base.specs.Entries.{entry_of_pair, entries_of_pairs, value_of, AreSorted}
use Rattle.leveldb_base.specs.Error.{IsOutOfMemory}
use Rattle.leveldb_base.specs.KeyTypes.{user_part, type_part}
use Rattle.leveldb_base.specs.Scan.{IsScanning, count_shown}
use Rattle.leveldb_base.specs.Types.{Pair, pair_at, position_within, next_position, previous_position}
use Rattle.leveldb_base.specs.View.{view_of, is_newest}
use Rattle.leveldb_base.specs.declared.error.Status.{Status}
use Rattle.leveldb_base.specs.declared.key_types.ValueType.TheVariants.{TypeDeletion, TypeValue}
use Rattle.leveldb_base.specs.declared.types.Direction.{Direction}
use Rattle.leveldb_base.specs.declared.types.Direction.TheVariants.{Forward, Reverse}
use Rattle.leveldb_base.proofs.PositionLemmas.{position_in, at_within, previous_of_suc}
use Rattle.leveldb_base.proofs.EntriesLemmas.{entries_append, rising_is_sorted}
use Rattle.leveldb_base.proofs.ScanLemmas.{each_scan_starts, each_scan_steps, each_scan_ends, each_scan_resumes}
use Rattle.leveldb_iter.specs.declared.entry.Seen.{Seen}
use Rattle.leveldb_iter.specs.declared.entry.Seen.TheVariants.{End, Shown, Passed}
use Rattle.leveldb_iter.specs.declared.walk.Walk.{Ghosts as WalkGhosts}
use Rattle.leveldb_iter.specs.DbIter.{IsAtEntry, IsBeforeEntries, IsPlaced, FailsOver}
use Rattle.leveldb_iter.specs.DbIterSteps.{IsNoEntry, FailsToRead, IsSeen, IsOnScan, IsFoundNext, IsNextStep, IsLeft, KeepsBelow, MovesBelow, number_after}
use Rattle.leveldb_iter.specs.MergedEntries.{internal_order}
use Rattle.leveldb_iter.specs.Walk.{KeyOrder, Way, WalkLaws, MovesWalk, Advances, SeeksFirst}

-- ---- results

map_if_ok : {R : Type 0} {P Q : R → Type 0} (result : Result R Status) → ((r : R) → P r → Q r) → IfOk result P → IfOk result Q
map_if_ok (Ok r) f p = f r p
map_if_ok (Err s) f p = tt

map_if_err : {R : Type 0} {P Q : Status → Type 0} (result : Result R Status) → ((s : Status) → P s → Q s) → IfErr result P → IfErr result Q
map_if_err (Ok r) f p = tt
map_if_err (Err s) f p = f s p

-- ---- positions

pub none_from_is_some : {X : Type 0} (here : Option X) → is_some here ≡ false → here ≡ None
none_from_is_some None is_not = refl
none_from_is_some (Some x) is_not = absurd cc

-- the pair at the front of the latter of two lists
pub at_front : (front back : List Pair) → slice_get (front ++ back) (length front) ≡ slice_get back 0
at_front [] back = refl
at_front (pair ∷ front) back = at_front front back

more_length : (front back : List Pair) (pair : Pair) → length front < length (front ++ pair ∷ back)
more_length front back pair = omega (arith, length-append front (pair ∷ back))

module _ {E T M : Type 0} (walk : WalkGhosts M E T) (laws : WalkLaws walk.over walk.is_at walk.here walk.fails walk.keeps) where
  -- ---- what is left of the walk below

  pub kept_itself : (world : E × T) (inner : M) → KeepsBelow walk world inner world inner
  kept_itself world inner = record { over = λ order list over. over; kept = laws.keeps_itself world; excuses = λ later status fails. fails }

  pub kept_on : {old_world mid_world new_world : E × T} {old mid new : M} → KeepsBelow walk old_world old mid_world mid → KeepsBelow walk mid_world mid new_world new → KeepsBelow walk old_world old new_world new
  kept_on {old_world} {mid_world} {new_world} first second = record {
    over = λ order list over. second.over order list (first.over order list over);
    kept = laws.keeps_on old_world mid_world new_world first.kept second.kept;
    excuses = λ later status fails. first.excuses later status (second.excuses later status fails);
  }

  -- errors of a later situation are errors of an earlier one
  pub widened : {Before After : KeyOrder → List Pair → Type 0} {old_world new_world : E × T} {old new : M} → KeepsBelow walk old_world old new_world new
      → ((order : KeyOrder) (pairs : List Pair) → Before order pairs → After order pairs)
      → (later : E × T) (status : Status) → FailsOver walk After new_world new later status → FailsOver walk Before old_world old later status
  widened keeps later-is later status (inl fails) = inl (keeps.excuses later status fails)
  widened keeps later-is later status (inr (inl memory)) = inr (inl memory)
  widened keeps later-is later status (inr (inr corrupt)) = inr (inr (corrupt.0, λ order pairs before. corrupt.1 order pairs (later-is order pairs before)))

  -- nothing moved
  pub stayed : {R : Type 0} {From : KeyOrder → List Pair → List Pair → ℕ → Type 0} (To : R → KeyOrder → List Pair → List Pair → ℕ → Type 0) (world : E × T) (inner : M) (value : R)
      → ((order : KeyOrder) (below pairs : List Pair) (n : ℕ) → From order below pairs n → To value order below pairs n)
      → MovesBelow walk From To world inner (Ok value) world inner
  stayed To world inner value holds = record { ok = holds; keeps = kept_itself world inner; cause = tt }

  -- one part after another
  pub joined : {R S : Type 0} {From : KeyOrder → List Pair → List Pair → ℕ → Type 0} {Mid : R → KeyOrder → List Pair → List Pair → ℕ → Type 0} {To : S → KeyOrder → List Pair → List Pair → ℕ → Type 0}
      {old_world mid_world new_world : E × T} {old mid new : M} {value : R} {result : Result S Status}
      → MovesBelow walk From Mid old_world old (Ok value) mid_world mid → MovesBelow walk (Mid value) To mid_world mid result new_world new → MovesBelow walk From To old_world old result new_world new
  joined {result = result} first second = record {
    ok = map_if_ok result (λ r to order below pairs n from. to order below pairs n (first.ok order below pairs n from)) second.ok;
    keeps = kept_on first.keeps second.keeps;
    cause = map_if_err result (λ s. widened first.keeps (λ order pairs from. (from.0, from.1, first.ok order from.0 pairs from.1 from.2)) _ s) second.cause;
  }

  -- a part that failed, whatever was to come
  pub failed : {R S : Type 0} {From : KeyOrder → List Pair → List Pair → ℕ → Type 0} {Mid : R → KeyOrder → List Pair → List Pair → ℕ → Type 0} {To : S → KeyOrder → List Pair → List Pair → ℕ → Type 0}
      {old_world new_world : E × T} {old new : M} {status : Status}
      → MovesBelow walk From Mid old_world old (Err status) new_world new → MovesBelow walk From To old_world old (Err status) new_world new
  failed first = record { ok = tt; keeps = first.keeps; cause = first.cause }

  -- ---- what the walk below is at

  -- a pair below has a tag
  tagged : (world : E × T) (inner : M) (order : KeyOrder) (below : List Pair) (position : Option ℕ) (pair : Pair) → walk.is_at world inner (internal_order order) below position → walk.here inner ≡ Some pair → 8 ≤ length pair.0
  tagged world inner order below position pair at here = by position (sym (laws.at_position world inner (internal_order order) below position at) ∙ here)
    where
      by : (found : Option ℕ) → pair_at below found ≡ Some pair → 8 ≤ length pair.0
      by None e = absurd cc
      by (Some i) e =
          let sorted = laws.sorted world inner (internal_order order) below (laws.over_list world inner (internal_order order) below position at) in
          let accepted = subst (λ (x : Pair). (internal_order order).accepts x.0 ≡ true) (get_or_from_slice_get below i pair ([], []) e) (sorted.accepted i ([], []) (slice_get_within below i pair e)) in
          leb-true 8 (length pair.0) (and_parts (nat_le 8 (length pair.0)) (order.accepts (user_part pair.0)) accepted).0

  -- a part that can't read the pair that it is at
  pub unread : {R : Type 0} {From : KeyOrder → List Pair → List Pair → ℕ → Type 0} {To : R → KeyOrder → List Pair → List Pair → ℕ → Type 0} {world : E × T} {inner mid : M} {status : Status} → mid ≡ inner
      → ((order : KeyOrder) (below pairs : List Pair) (n : ℕ) → From order below pairs n → (position : Option ℕ) × walk.is_at world inner (internal_order order) below position)
      → FailsToRead (walk.here inner) status → MovesBelow walk From To world inner (Err status) world mid
  unread {From = From} {To} {world} {inner} {mid} {status} same at fails = subst (λ it. MovesBelow walk From To world inner (Err status) world it) (sym same) (record { ok = tt; keeps = kept_itself world inner; cause = by fails })
    where
      by : FailsToRead (walk.here inner) status → FailsOver walk (λ order pairs. (below : List Pair) × (n : ℕ) × From order below pairs n) world inner world status
      by (inl memory) = inr (inl memory)
      by (inr short) = inr (inr (
        short.0,
        λ order pairs from.
            let place = at order from.0 pairs from.1 from.2 in
            let long = tagged world inner order from.0 place.0 short.1 place.1 short.2 in
            let few = short.3 in
            omega (arith, long, few),
      ))

  -- the entries below are sorted
  pub sorted_entries : (world : E × T) (inner : M) (order : KeyOrder) (below : List Pair) (position : Option ℕ) → IsExactOrder order.cmp → walk.is_at world inner (internal_order order) below position → AreSorted order.cmp (entries_of_pairs below)
  sorted_entries world inner order below position exact at =
      let sorted = laws.sorted world inner (internal_order order) below (laws.over_list world inner (internal_order order) below position at) in
      rising_is_sorted order.cmp exact below sorted.rising

  -- it is at the first entry of the latter of two parts
  at_back : (world : E × T) (inner : M) (order : KeyOrder) (below front back : List Pair) → below ≡ front ++ back → walk.is_at world inner (internal_order order) below (position_within below (length front)) → walk.here inner ≡ slice_get back 0
  at_back world inner order below front back parted at =
      laws.at_position world inner (internal_order order) below (position_within below (length front)) at
      ∙ at_within below (length front) ∙ ap (λ list. slice_get list (length front)) parted ∙ at_front front back

  -- ---- one entry of a scan forward

  -- after so many pairs of the view the entry is passed, and the walk below is still at it
  pub record IsPassing (world : E × T) (inner : M) (s : ℕ) (skip : Option (List ℕ)) (order : KeyOrder) (below pairs : List Pair) (n : ℕ) : Type 0 where
    pub front : List Pair
    pub pair : Pair
    pub back : List Pair
    pub parted : below ≡ front ++ pair ∷ back
    pub at : walk.is_at world inner (internal_order order) below (Some (length front))
    pub scanning : IsScanning s pairs n skip (entries_of_pairs back)

  -- the entry at the front of those to come, with all that the situation says
  module _ {world : E × T} {inner : M} {s : ℕ} {skip : Option (List ℕ)} {order : KeyOrder} {below pairs : List Pair} {n : ℕ} (on : IsOnScan walk world inner s skip order below pairs n) where
    -- at no entry there is no further position
    ends : IsNoEntry (walk.here inner) → position_within pairs n ≡ None
    ends none = by on.back refl
      where
        by : (back : List Pair) → on.back ≡ back → position_within pairs n ≡ None
        by [] e = each_scan_ends s pairs n skip (subst (λ list. IsScanning s pairs n skip (entries_of_pairs list)) e on.scanning)
        by (pair ∷ back) e =
            let here : walk.here inner ≡ Some pair = at_back world inner order below on.front (pair ∷ back) (on.parted ∙ ap (λ list. on.front ++ list) e) on.at in
            let no : None ≡ Some pair = sym none ∙ here in
            absurd cc

    -- at a pair, that is the first of those to come
    pub first_is : (pair : Pair) → walk.here inner ≡ Some pair → (back : List Pair) × (on.back ≡ pair ∷ back)
    first_is pair here = by on.back refl
      where
        by : (back : List Pair) → on.back ≡ back → (rest : List Pair) × (back ≡ pair ∷ rest)
        by [] e =
            let none : walk.here inner ≡ None = at_back world inner order below on.front [] (on.parted ∙ ap (λ list. on.front ++ list) e) on.at in
            cc
        by (first ∷ back) e =
            let own : walk.here inner ≡ Some first = at_back world inner order below on.front (first ∷ back) (on.parted ∙ ap (λ list. on.front ++ list) e) on.at in
            let both : Some first ≡ Some pair = sym own ∙ here in
            let is : first ≡ pair = cc in
            (back, ap (λ p. p ∷ back) is)

    module _ (pair : Pair) (back : List Pair) (e : on.back ≡ pair ∷ back) where
      parted_here : below ≡ on.front ++ pair ∷ back
      parted_here = on.parted ∙ ap (λ list. on.front ++ list) e

      at_here : walk.is_at world inner (internal_order order) below (Some (length on.front))
      at_here = subst (walk.is_at world inner (internal_order order) below)
          (position_in below (length on.front) (subst (λ list. length on.front < length list) (sym parted_here) (more_length on.front back pair))) on.at

      scanning_here : IsScanning s pairs n skip (entry_of_pair pair ∷ entries_of_pairs back)
      scanning_here = subst (λ list. IsScanning s pairs n skip (entries_of_pairs list)) e on.scanning

      passing : (next : Option (List ℕ)) → IsScanning s pairs n next (entries_of_pairs back) → IsPassing world inner s next order below pairs n
      passing next scanning = record { front = on.front; pair = pair; back = back; parted = parted_here; at = at_here; scanning = scanning }

      found : is_newest s skip (entry_of_pair pair) ≡ true → type_part pair.0 ≡ TypeValue → (position_within pairs n ≡ Some n) × IsAtEntry walk world inner s order below pairs n
      found newest kind =
          let step = each_scan_steps s pairs n skip (entry_of_pair pair) (entries_of_pairs back) scanning_here in
          let stops = step.stops pair.1 newest (ap (λ k. value_of k pair.1) kind) in
          (stops.1, record { front = on.front; pair = pair; back = back; parted = parted_here; at = at_here; shown = stops.0; rest = stops.2 })

      passed_over : (skipping : Bool) (key : List ℕ)
          → ((is_newest s skip (entry_of_pair pair) ≡ false) × (then_some skipping key ≡ skip))
          ⊎ ((is_newest s skip (entry_of_pair pair) ≡ true) × (type_part pair.0 ≡ TypeDeletion) × (then_some skipping key ≡ Some (user_part pair.0)))
          → IsPassing world inner s (then_some skipping key) order below pairs n
      passed_over skipping key seen =
          let step = each_scan_steps s pairs n skip (entry_of_pair pair) (entries_of_pairs back) scanning_here in
          passing (then_some skipping key) (⊎_elim
          (λ (hidden : (is_newest s skip (entry_of_pair pair) ≡ false) × (then_some skipping key ≡ skip)).
          subst (λ next. IsScanning s pairs n next (entries_of_pairs back)) (sym hidden.1) (step.skips hidden.0))
          (λ (deleted : (is_newest s skip (entry_of_pair pair) ≡ true) × (type_part pair.0 ≡ TypeDeletion) × (then_some skipping key ≡ Some (user_part pair.0))).
          subst (λ next. IsScanning s pairs n next (entries_of_pairs back)) (sym deleted.2) (step.passes deleted.0 (ap (λ k. value_of k pair.1) deleted.1)))
          seen)

    pub found_here : (direction : Option Direction) (saved : Pair) → direction ≡ Some Forward
        → (pair : Pair) × (walk.here inner ≡ Some pair) × (is_newest s skip (entry_of_pair pair) ≡ true) × (type_part pair.0 ≡ TypeValue)
        → IsFoundNext walk world inner s direction saved order below pairs n
    found_here direction saved forward seen =
        let first = first_is seen.0 seen.1 in
        let is = found seen.0 first.0 first.1 seen.2 seen.3 in
        subst (λ d. IsPlaced walk world inner s order d saved below pairs (position_within pairs n)) (sym forward) (n, is.0, is.1)

    pub found_none : (direction : Option Direction) (saved : Pair) → direction ≡ None → IsNoEntry (walk.here inner) → IsFoundNext walk world inner s direction saved order below pairs n
    found_none direction saved is_none none = subst (λ d. IsPlaced walk world inner s order d saved below pairs (position_within pairs n)) (sym is_none) (ends none)

    pub passing_here : (skipping : Bool) (key : List ℕ) → IsSeen s skip (walk.here inner) key (Passed skipping) → IsPassing world inner s (then_some skipping key) order below pairs n
    passing_here skipping key seen =
        let first = first_is seen.0 seen.1 in
        passed_over seen.0 first.0 first.1 skipping key seen.2

  -- the walk below goes on from an entry that was passed
  module _ {R : Type 0} {old_world : E × T} {old : M} {result : Result R Status} {new_world : E × T} {new : M} (m : Advances walk.over walk.is_at walk.here walk.fails walk.keeps old_world old result new_world new) where
    pub advance_keeps : KeepsBelow walk old_world old new_world new
    advance_keeps = record { over = m.same; kept = m.kept; excuses = m.excuses }

  -- a scan goes on after the entry that was passed
  module _ {old_world new_world : E × T} {old new : M} {s : ℕ} {skip : Option (List ℕ)} {order : KeyOrder} {below pairs : List Pair} {n : ℕ} (p : IsPassing old_world old s skip order below pairs n)
      (at : walk.is_at new_world new (internal_order order) below (next_position below (Some (length p.front)))) where
    longer : length (p.front ++ p.pair ∷ []) ≡ length p.front + 1
    longer = length-append p.front (p.pair ∷ [])

    regrouped : below ≡ (p.front ++ p.pair ∷ []) ++ p.back
    regrouped = p.parted ∙ sym (append_assoc p.front (p.pair ∷ []) p.back)

    at_next : walk.is_at new_world new (internal_order order) below (position_within below (length (p.front ++ p.pair ∷ [])))
    at_next = subst (λ k. walk.is_at new_world new (internal_order order) below (position_within below k)) (sym longer) at

    onward : IsOnScan walk new_world new s skip order below pairs n
    onward = record {
      front = p.front ++ p.pair ∷ [];
      back = p.back;
      parted = regrouped;
      at = at_next;
      scanning = p.scanning;
    }

  -- the walk below that moved is the one before, which wasn't changed
  pub same_moved : {R : Type 0} {From : E × T → M → KeyOrder → List Pair → Option ℕ → Type 0} {to : Way} {world : E × T} {inner mid : M} {result : Result R Status} {new_world : E × T} {new : M} → mid ≡ inner
      → MovesWalk walk.over walk.is_at walk.here walk.fails walk.keeps From to world mid result new_world new → MovesWalk walk.over walk.is_at walk.here walk.fails walk.keeps From to world inner result new_world new
  same_moved {From = From} {to} {world} {result = result} {new_world} {new} same m = subst (λ it. MovesWalk walk.over walk.is_at walk.here walk.fails walk.keeps From to world it result new_world new) same m

  -- ---- a step of a scan forward

  pub step_unread : {world : E × T} {inner mid : M} {s : ℕ} {skip : Option (List ℕ)} {To : Option Bool → KeyOrder → List Pair → List Pair → ℕ → Type 0} {status : Status} → mid ≡ inner → FailsToRead (walk.here inner) status
      → MovesBelow walk (IsOnScan walk world inner s skip) To world inner (Err status) world mid
  step_unread same fails = unread same (λ order below pairs n on. (position_within below (length on.front), on.at)) fails

  module _ {world : E × T} {inner mid : M} {s : ℕ} {skip : Option (List ℕ)} (saved : Pair) {seen : Seen} (same : mid ≡ inner) (sees : IsSeen s skip (walk.here inner) saved.0 seen) where
    -- no entry is left
    pub step_ends : (direction : Option Direction) → seen ≡ End → direction ≡ None
        → MovesBelow walk (IsOnScan walk world inner s skip) (IsNextStep walk world mid s direction saved) world inner (Ok None) world mid
    step_ends direction is none =
        subst (λ it. MovesBelow walk (IsOnScan walk world inner s skip) (IsNextStep walk world it s direction saved) world inner (Ok None) world it) (sym same)
        (stayed (IsNextStep walk world inner s direction saved) world inner None
        (λ order below pairs n on. found_none on direction saved none (subst (IsSeen s skip (walk.here inner) saved.0) is sees)))

    -- the entry is shown
    pub step_shows : (direction : Option Direction) → seen ≡ Shown → direction ≡ Some Forward
        → MovesBelow walk (IsOnScan walk world inner s skip) (IsNextStep walk world mid s direction saved) world inner (Ok None) world mid
    step_shows direction is forward =
        subst (λ it. MovesBelow walk (IsOnScan walk world inner s skip) (IsNextStep walk world it s direction saved) world inner (Ok None) world it) (sym same)
        (stayed (IsNextStep walk world inner s direction saved) world inner None
        (λ order below pairs n on. found_here on direction saved forward (subst (IsSeen s skip (walk.here inner) saved.0) is sees)))

    module _ {skipping valid : Bool} {new_world : E × T} {new : M} (is : seen ≡ Passed skipping)
        (m : Advances walk.over walk.is_at walk.here walk.fails walk.keeps world mid (Ok valid) new_world new) (valid_is : valid ≡ is_some (walk.here new)) where
      went_on : {order : KeyOrder} {below pairs : List Pair} {n : ℕ} → IsOnScan walk world inner s skip order below pairs n
          → IsOnScan walk new_world new s (then_some skipping saved.0) order below pairs n
      went_on {order = order} {below} on =
          let p = passing_here on skipping saved.0 (subst (IsSeen s skip (walk.here inner) saved.0) is sees) in
          onward p ((same_moved same m).ok (internal_order order) below (Some (length p.front)) p.at)

      -- the entry is passed, and another is there
      pub step_passes : (direction : Option Direction)
          → MovesBelow walk (IsOnScan walk world inner s skip) (IsNextStep walk new_world new s direction saved) world inner (Ok (Some skipping)) new_world new
      step_passes direction = record {
        ok = λ order below pairs n on. went_on on;
        keeps = advance_keeps (same_moved same m);
        cause = tt;
      }

      -- or none is
      pub step_passes_last : (direction : Option Direction) → valid ≡ false → direction ≡ None
          → MovesBelow walk (IsOnScan walk world inner s skip) (IsNextStep walk new_world new s direction saved) world inner (Ok None) new_world new
      step_passes_last direction is_not none = record {
        ok = λ order below pairs n on.
            found_none (went_on on) direction saved none
            (none_from_is_some (walk.here new) (sym valid_is ∙ is_not));
        keeps = advance_keeps (same_moved same m);
        cause = tt;
      }

  -- ---- a whole scan forward

  -- another value
  pub revalued : {R S : Type 0} {From : KeyOrder → List Pair → List Pair → ℕ → Type 0} {To : R → KeyOrder → List Pair → List Pair → ℕ → Type 0} {Other : S → KeyOrder → List Pair → List Pair → ℕ → Type 0}
      {old_world new_world : E × T} {old new : M} {value : R} (other : S) → ((order : KeyOrder) (below pairs : List Pair) (n : ℕ) → To value order below pairs n → Other other order below pairs n)
      → MovesBelow walk From To old_world old (Ok value) new_world new → MovesBelow walk From Other old_world old (Ok other) new_world new
  revalued other holds m = record { ok = λ order below pairs n from. holds order below pairs n (m.ok order below pairs n from); keeps = m.keeps; cause = tt }

  -- out of memory, whatever was to come
  pub runs_out : {From : KeyOrder → List Pair → List Pair → ℕ → Type 0} (To : Unit {0} → KeyOrder → List Pair → List Pair → ℕ → Type 0) {old_world new_world : E × T} {old new : M} (result : Result (Unit {0}) Status)
      → KeepsBelow walk old_world old new_world new → IsErrAnd result IsOutOfMemory → MovesBelow walk From To old_world old result new_world new
  runs_out To (Ok u) keeps is = absurd is
  runs_out To (Err status) keeps is = record { ok = tt; keeps = keeps; cause = inr (inl is) }

  module _ {start world : E × T} {old now : M} {s : ℕ} {first skip : Option (List ℕ)}
      (so_far : MovesBelow walk (IsOnScan walk start old s first) (λ (u : Unit {0}). IsOnScan walk world now s skip) start old (Ok (tt {0})) world now) where
    module _ {number : ℕ} (same : number ≡ s) {new_world : E × T} {new : M} (direction : Option Direction) (saved : Pair) {result : Result (Option Bool) Status}
        (step : MovesBelow walk (IsOnScan walk world now number skip) (IsNextStep walk new_world new number direction saved) world now result new_world new) where
      pub scan_steps : MovesBelow walk (IsOnScan walk start old s first) (IsNextStep walk new_world new s direction saved) start old result new_world new
      scan_steps = joined so_far
          (subst (λ n. MovesBelow walk (IsOnScan walk world now n skip) (IsNextStep walk new_world new n direction saved) world now result new_world new) same step)

  module _ {From : KeyOrder → List Pair → List Pair → ℕ → Type 0} {world new_world : E × T} {old new : M} {s : ℕ} (direction : Option Direction) (saved : Pair) {value : Option Bool}
      (m : MovesBelow walk From (IsNextStep walk new_world new s direction saved) world old (Ok value) new_world new) where
    -- it ends
    pub scan_found : value ≡ None → MovesBelow walk From (λ (u : Unit {0}). IsFoundNext walk new_world new s direction saved) world old (Ok (tt {0})) new_world new
    scan_found is = revalued (tt {0}) (λ order below pairs n to. subst (λ v. IsNextStep walk new_world new s direction saved v order below pairs n) is to) m

    -- or goes on
    pub scan_more : {skipping : Bool} → value ≡ Some skipping → MovesBelow walk From (λ (u : Unit {0}). IsOnScan walk new_world new s (then_some skipping saved.0)) world old (Ok (tt {0})) new_world new
    scan_more is = revalued (tt {0}) (λ order below pairs n to. subst (λ v. IsNextStep walk new_world new s direction saved v order below pairs n) is to) m

  -- ---- to the entry after the pair that it is at

  over_previous : (below : List Pair) (front : List Pair) → next_position below (previous_position (Some (length front))) ≡ position_within below (length front)
  over_previous below [] = refl
  over_previous below (pair ∷ front) = ap (next_position below) (previous_of_suc (length front)) ∙ ap (position_within below) (omega arith)

  module _ {world : E × T} {inner : M} {s : ℕ} (direction : Option Direction) (saved : Pair) where
    -- from no position to the first entry
    pub leaves_none : {R : Type 0} {value : R} {new_world : E × T} {new : M} (key : List ℕ) → direction ≡ None → SeeksFirst walk.over walk.is_at walk.here walk.fails walk.keeps world inner (Ok value) new_world new
        → MovesBelow walk (IsLeft walk world inner s direction saved) (λ skipping. IsOnScan walk new_world new s (then_some skipping key)) world inner (Ok false) new_world new
    leaves_none key none m = record {
      ok = λ order below pairs n from.
          let view = from.0 in
          let placed : from.1 ≡ None = subst (λ d. IsPlaced walk world inner s order d saved below pairs from.1) none from.3 in
          let zero_is : n ≡ 0 = from.2 ∙ ap number_after placed in
          record {
            front = [];
            back = below;
            parted = refl;
            at = m.ok (internal_order order) below None view.over;
            scanning = subst (λ k. IsScanning s pairs k None (entries_of_pairs below)) (sym zero_is)
                (subst (λ list. IsScanning s list 0 None (entries_of_pairs below)) (sym view.view) (each_scan_starts s (entries_of_pairs below)));
          };
      keeps = record { over = m.same; kept = m.kept; excuses = m.excuses };
      cause = tt;
    }

    module _ {mid : M} {R : Type 0} {value : R} {new_world : E × T} {new : M} (same : mid ≡ inner) (m : Advances walk.over walk.is_at walk.here walk.fails walk.keeps world mid (Ok value) new_world new) where
      -- from the entry that is shown to the one after it
      pub leaves_forward : (key : List ℕ) → direction ≡ Some Forward → ((pair : Pair) → walk.here inner ≡ Some pair → key ≡ user_part pair.0)
          → MovesBelow walk (IsLeft walk world inner s direction saved) (λ skipping. IsOnScan walk new_world new s (then_some skipping key)) world inner (Ok true) new_world new
      leaves_forward key forward own = record {
        ok = λ order below pairs n from.
            let view = from.0 in
            let placed = subst (λ d. IsPlaced walk world inner s order d saved below pairs from.1) forward from.3 in
            let entry : IsAtEntry walk world inner s order below pairs placed.0 = placed.2 in
            let number : n ≡ placed.0 + 1 = from.2 ∙ ap number_after placed.1 in
            let here : walk.here inner ≡ Some entry.pair = laws.at_position world inner (internal_order order) below (Some (length entry.front)) entry.at
            ∙ ap (λ list. slice_get list (length entry.front)) entry.parted ∙ at_front entry.front (entry.pair ∷ entry.back) in
            let p : IsPassing world inner s (Some key) order below pairs n = record {
              front = entry.front;
              pair = entry.pair;
              back = entry.back;
              parted = entry.parted;
              at = entry.at;
              scanning = subst (λ k. IsScanning s pairs k (Some key) (entries_of_pairs entry.back)) (sym number)
                  (subst (λ k. IsScanning s pairs (placed.0 + 1) (Some k) (entries_of_pairs entry.back)) (sym (own entry.pair here)) entry.rest);
            } in
            onward p ((same_moved same m).ok (internal_order order) below (Some (length p.front)) p.at);
        keeps = advance_keeps (same_moved same m);
        cause = tt;
      }

      -- from before the entries of the saved key to the first of them
      pub leaves_reverse : direction ≡ Some Reverse
          → MovesBelow walk (IsLeft walk world inner s direction saved) (λ skipping. IsOnScan walk new_world new s (then_some skipping saved.0)) world inner (Ok true) new_world new
      leaves_reverse reverse = record {
        ok = λ order below pairs n from.
            let view = from.0 in
            let placed = subst (λ d. IsPlaced walk world inner s order d saved below pairs from.1) reverse from.3 in
            let b : IsBeforeEntries walk world inner s order saved below pairs placed.0 = placed.2 in
            let number : n ≡ placed.0 + 1 = from.2 ∙ ap number_after placed.1 in
            let front = entries_of_pairs b.front in
            let back = entries_of_pairs b.back in
            let whole : entries_of_pairs below ≡ front ++ back = ap entries_of_pairs b.parted ∙ entries_append b.front b.back in
            let sorted = subst (AreSorted order.cmp) whole (sorted_entries world inner order below (previous_position (Some (length b.front))) view.exact b.at) in
            let shown : view_of s (front ++ back) ≡ view_of s front ++ saved ∷ b.more = ap (view_of s) (sym whole) ∙ sym view.view ∙ b.view in
            let scan = each_scan_resumes order.cmp view.exact s front back saved b.more sorted shown b.after in
            record {
              front = b.front;
              back = b.back;
              parted = b.parted;
              at = subst (walk.is_at new_world new (internal_order order) below) (over_previous below b.front)
                  ((same_moved same m).ok (internal_order order) below (previous_position (Some (length b.front))) b.at);
              scanning = subst (λ k. IsScanning s pairs k (Some saved.0) back) (ap (λ k. k + 1) b.counted ∙ sym number)
                  (subst (λ list. IsScanning s list (count_shown s front + 1) (Some saved.0) back) (ap (view_of s) (sym whole) ∙ sym view.view) scan);
            };
        keeps = advance_keeps (same_moved same m);
        cause = tt;
      }
