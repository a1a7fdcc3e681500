-- Moves back in a view, step by step.
use Rattle.std.proofs.Common.{◌≡◌, ◌≢◌, ◌⊎◌, inl, inr, ⊎_elim, ℕ, ◌<◌, ◌≤◌, Bool, true, false, List, [], ◌∷◌, ◌++◌, length, suc, add-one, refl, sym, ◌∙◌, ap, subst, arith, Option, Some, None, Result, Ok, Err, append_assoc, length-append}
use Rattle.std.specs.Prelude.{slice_get, is_some, Contains}
use Rattle.std.specs.Bool.{then_some}
use Rattle.std.specs.Option.{option_map, option_to_list}
use Rattle.std.proofs.lemmas.Bool.{cases_lt}
use Rattle.std.specs.declared.cmp.Ordering.TheVariants.{Less}
use Rattle.std.specs.Ordering.{is_lt}
use Rattle.leveldb_base.specs.Entries.{entry_of_pair, entries_of_pairs, value_of, AreSorted}
use Rattle.leveldb_base.specs.History.{Entry}
use Rattle.leveldb_base.specs.KeyTypes.{user_part, sequence_part, type_part}
use Rattle.leveldb_base.specs.Scan.{ScanStepsBack, count_shown, shown_pair}
use Rattle.leveldb_base.specs.Types.{Pair, pair_at, previous_position}
use Rattle.leveldb_base.specs.View.{view_of, shown_in}
use Rattle.leveldb_base.specs.declared.error.Status.{Status}
use Rattle.leveldb_base.specs.declared.types.Direction.{Direction}
use Rattle.leveldb_base.specs.declared.types.Direction.TheVariants.{Reverse}
use Rattle.leveldb_base.proofs.HistoryLemmas.{in_cases}
use Rattle.leveldb_base.proofs.OrderLemmas.{not_lt, exact_total, lt_itself}
use Rattle.leveldb_base.proofs.PositionLemmas.{previous_of_suc}
use Rattle.leveldb_base.proofs.EntriesLemmas.{entries_append, key_le}
use Rattle.leveldb_base.proofs.ScanLemmas.{skip_after, shown_append, sorted_front, sorted_back}
use Rattle.leveldb_base.proofs.BackwardLemmas.{each_scan_steps_back, each_previous_is_last}
use Rattle.leveldb_iter.specs.declared.walk.Walk.{Ghosts as WalkGhosts}
use Rattle.leveldb_iter.specs.DbIterSteps.{IsNoEntry, FailsToRead, IsEndBack, IsFoundBack, IsTaken, IsOnScanBack, IsFoundPrevious, IsStepBack, KeepsBelow, MovesBelow}
use Rattle.leveldb_iter.specs.MergedEntries.{internal_order}
use Rattle.leveldb_iter.specs.Walk.{KeyOrder, WalkLaws, StepsBack}
use Rattle.leveldb_iter.proofs.DbIterLemmas.{none_from_is_some, at_front, sorted_entries, unread, same_moved, stayed, joined, revalued}

-- ---- the last of a list

-- a list is empty, or it has a last element
pub last_of : (pairs : List Pair) → (pairs ≡ []) ⊎ ((before : List Pair) × (last : Pair) × (pairs ≡ before ++ last ∷ []))
last_of [] = inl refl
last_of (pair ∷ pairs) = by (last_of pairs)
  where
    by : (pairs ≡ []) ⊎ ((before : List Pair) × (last : Pair) × (pairs ≡ before ++ last ∷ [])) → ((pair ∷ pairs) ≡ []) ⊎ ((before : List Pair) × (last : Pair) × ((pair ∷ pairs) ≡ before ++ last ∷ []))
    by (inl none) = inr ([], pair, ap (λ list. pair ∷ list) none)
    by (inr some) = inr (pair ∷ some.0, some.1, ap (λ list. pair ∷ list) some.2)

pub last_length : (before : List Pair) (last : Pair) → length (before ++ last ∷ []) ≡ suc (length before)
last_length before last = length-append before (last ∷ []) ∙ add-one (length before)

-- the position before the end of a front is that of its last pair
pub before_end : (front before : List Pair) (last : Pair) → front ≡ before ++ last ∷ [] → previous_position (Some (length front)) ≡ Some (length before)
before_end front before last e = ap (λ list. previous_position (Some (length list))) e ∙ ap (λ n. previous_position (Some n)) (last_length before last) ∙ previous_of_suc (length before)

pub last_before : (front before back : List Pair) (last : Pair) → front ≡ before ++ last ∷ [] → front ++ back ≡ before ++ last ∷ back
last_before front before back last e = ap (λ list. list ++ back) e ∙ append_assoc before (last ∷ []) back

module _ {E T M : Type 0} (walk : WalkGhosts M E T) (laws : WalkLaws walk.over walk.is_at walk.here walk.fails walk.keeps) where
  -- ---- one entry of a scan back

  -- before all entries it is at none
  pub here_before_all : (world : E × T) (inner : M) (order : KeyOrder) (below front : List Pair) → walk.is_at world inner (internal_order order) below (previous_position (Some (length front))) → front ≡ [] → walk.here inner ≡ None
  here_before_all world inner order below front at none =
      laws.at_position world inner (internal_order order) below (previous_position (Some (length front))) at ∙ ap (λ list. pair_at below (previous_position (Some (length list)))) none

  -- else it is at the last of those at the front
  pub here_last : (world : E × T) (inner : M) (order : KeyOrder) (below front back before : List Pair) (last : Pair) → below ≡ front ++ back → walk.is_at world inner (internal_order order) below (previous_position (Some (length front)))
      → front ≡ before ++ last ∷ [] → walk.here inner ≡ Some last
  here_last world inner order below front back before last parted at e =
      laws.at_position world inner (internal_order order) below (previous_position (Some (length front))) at
      ∙ ap (pair_at below) (before_end front before last e)
      ∙ ap (λ list. slice_get list (length before)) (parted ∙ last_before front before back last e) ∙ at_front before (last ∷ back)

  module _ {world : E × T} {inner : M} {s : ℕ} {found : Option Pair} {order : KeyOrder} {below pairs : List Pair} {n : ℕ} (on : IsOnScanBack walk world inner s found order below pairs n) where
    abbrev gone_over : List Entry
    gone_over = entries_of_pairs on.over

    abbrev after_all : List Entry
    after_all = entries_of_pairs on.rest

    back_split : entries_of_pairs (on.over ++ on.rest) ≡ gone_over ++ after_all
    back_split = entries_append on.over on.rest

    all_split : entries_of_pairs below ≡ entries_of_pairs on.front ++ (gone_over ++ after_all)
    all_split = ap entries_of_pairs on.parted ∙ entries_append on.front (on.over ++ on.rest) ∙ ap (λ list. entries_of_pairs on.front ++ list) back_split

    all_sorted : AreSorted order.cmp (entries_of_pairs below)
    all_sorted = sorted_entries walk laws world inner order below (previous_position (Some (length on.front))) on.exact on.at

    -- the view of all is that of the entries up to the rest, and more
    rest_shown : (more : List Pair) × (pairs ≡ view_of s (entries_of_pairs on.front ++ gone_over) ++ more)
    rest_shown = (
      shown_in s (skip_after s (entries_of_pairs on.front ++ gone_over)) after_all,
      on.view ∙ ap (view_of s) (all_split ∙ sym (append_assoc (entries_of_pairs on.front) gone_over after_all)) ∙ shown_append s None (entries_of_pairs on.front ++ gone_over) after_all,
    )

    count_is : count_shown s (entries_of_pairs on.front ++ gone_over) ≡ n
    count_is = ap (count_shown s) (sym (entries_append on.front on.over)) ∙ on.shown

    -- the scan ends before a key that it found, or before all entries with none
    placed_back : (taken : Bool) (saved : Pair) → found ≡ then_some taken saved → view_of s (entries_of_pairs on.front ++ gone_over) ≡ view_of s (entries_of_pairs on.front) ++ option_to_list found
        → (found ≡ None → on.front ≡ []) → IsFoundPrevious walk world inner s (then_some taken Reverse) saved order below pairs n
    placed_back false saved is ends whole =
        let none : view_of s (entries_of_pairs on.front ++ gone_over) ≡ [] = ends ∙ ap (λ f. view_of s (entries_of_pairs on.front) ++ option_to_list f) is ∙ ap (λ list. view_of s (entries_of_pairs list) ++ []) (whole is) in
        let zero_is : n ≡ 0 = sym count_is ∙ ap length none in
        ap (λ k. previous_position (Some k)) zero_is
    placed_back true saved is ends whole =
        let last : view_of s (entries_of_pairs on.front ++ gone_over) ≡ view_of s (entries_of_pairs on.front) ++ saved ∷ [] = ends ∙ ap (λ f. view_of s (entries_of_pairs on.front) ++ option_to_list f) is in
        let position = (each_previous_is_last s (entries_of_pairs on.front ++ gone_over) after_all).pair (view_of s (entries_of_pairs on.front)) saved last in
        let more = rest_shown in (
          count_shown s (entries_of_pairs on.front),
          ap (λ k. previous_position (Some k)) (sym count_is) ∙ position.0,
          record {
            front = on.front;
            back = on.over ++ on.rest;
            parted = on.parted;
            at = on.at;
            more = more.0;
            view = more.1 ∙ ap (λ list. list ++ more.0) last ∙ append_assoc (view_of s (entries_of_pairs on.front)) (saved ∷ []) more.0;
            counted = refl;
            after = on.after saved is;
          },
        )

    -- at no entry it is before all
    none_before : IsNoEntry (walk.here inner) → on.front ≡ []
    none_before none = ⊎_elim
        (λ (empty : on.front ≡ []). empty)
        (λ (some : (before : List Pair) × (last : Pair) × (on.front ≡ before ++ last ∷ [])).
        let here : walk.here inner ≡ Some some.1 = here_last world inner order below on.front (on.over ++ on.rest) some.0 some.1 on.parted on.at some.2 in
        let no : None ≡ Some some.1 = sym none ∙ here in
        absurd cc)
        (last_of on.front)

    pub ends_before_all : (taken : Bool) (saved : Pair) → found ≡ then_some taken saved → IsNoEntry (walk.here inner) → IsFoundPrevious walk world inner s (then_some taken Reverse) saved order below pairs n
    ends_before_all taken saved is none =
        let empty = none_before none in
        placed_back taken saved is
        (ap (λ list. view_of s (entries_of_pairs list ++ gone_over)) empty ∙ on.finds ∙ sym (ap (λ list. view_of s (entries_of_pairs list) ++ option_to_list found) empty))
        (λ e. empty)

    -- the entry that it is at is the last at the front
    module _ (before : List Pair) (last : Pair) (e : on.front ≡ before ++ last ∷ []) where
      front_split : entries_of_pairs on.front ≡ entries_of_pairs before ++ entry_of_pair last ∷ []
      front_split = ap entries_of_pairs e ∙ entries_append before (last ∷ [])

      sorted_here : AreSorted order.cmp (entries_of_pairs before ++ entry_of_pair last ∷ (gone_over ++ after_all))
      sorted_here = subst (AreSorted order.cmp)
          (all_split ∙ ap (λ list. list ++ (gone_over ++ after_all)) front_split ∙ append_assoc (entries_of_pairs before) (entry_of_pair last ∷ []) (gone_over ++ after_all)) all_sorted

      sorted_to : AreSorted order.cmp (entries_of_pairs before ++ entry_of_pair last ∷ gone_over)
      sorted_to = sorted_front order.cmp on.exact (entries_of_pairs before ++ entry_of_pair last ∷ gone_over) after_all
          (subst (AreSorted order.cmp) (sym (append_assoc (entries_of_pairs before) (entry_of_pair last ∷ gone_over) after_all)) sorted_here)

      step_laws : ScanStepsBack s (entries_of_pairs before) (entry_of_pair last) gone_over found
      step_laws = each_scan_steps_back order.cmp on.exact s (entries_of_pairs before) (entry_of_pair last) gone_over found sorted_to on.finds

      -- a visible entry of another key ends the scan
      stops_here : (own : Pair) → sequence_part last.0 ≤ s → found ≡ Some own → own.0 ≢ user_part last.0
          → view_of s (entries_of_pairs on.front ++ gone_over) ≡ view_of s (entries_of_pairs on.front) ++ option_to_list found
      stops_here own seen is other =
          ap (λ list. view_of s (list ++ gone_over)) front_split
          ∙ ap (view_of s) (append_assoc (entries_of_pairs before) (entry_of_pair last ∷ []) gone_over)
          ∙ step_laws.stops own seen is other
          ∙ sym (ap (λ list. view_of s list ++ option_to_list found) front_split ∙ ap (λ f. view_of s (entries_of_pairs before ++ entry_of_pair last ∷ []) ++ option_to_list f) is)

      -- any other is gone over
      module _ (new_found : Option Pair) (unseen : s < sequence_part last.0 → new_found ≡ found) (same_key : sequence_part last.0 ≤ s → (own : Pair) → found ≡ Some own → own.0 ≡ user_part last.0)
          (takes : sequence_part last.0 ≤ s → new_found ≡ shown_pair (entry_of_pair last)) where
        finds_here : view_of s (entry_of_pair last ∷ gone_over) ≡ option_to_list new_found
        finds_here = ⊎_elim
            (λ (past : s < sequence_part last.0). step_laws.unseen past ∙ sym (ap option_to_list (unseen past)))
            (λ (seen : sequence_part last.0 ≤ s). step_laws.takes seen (same_key seen) ∙ sym (ap option_to_list (takes seen)))
            (cases_lt s (sequence_part last.0))

        own_key : (value : Option (List ℕ)) (own : Pair) → option_map (λ v. (user_part last.0, v)) value ≡ Some own → user_part last.0 ≡ own.0
        own_key None own is = absurd cc
        own_key (Some v) own is = let pair_is : (user_part last.0, v) ≡ own = cc in ap (λ (p : Pair). p.0) pair_is

        after_here : (own : Pair) → new_found ≡ Some own → (entry : Entry) → Contains (entry_of_pair last ∷ (gone_over ++ after_all)) entry → entry.sequence ≤ s → order.cmp entry.key own.0 ≢ Less
        after_here own is entry c low = ⊎_elim
            (λ (past : s < sequence_part last.0). ⊎_elim
            (λ (same : entry_of_pair last ≡ entry). let number : sequence_part last.0 ≡ entry.sequence = ap (λ (x : Entry). x.sequence) same in absurd (omega (arith, past, number, low)))
            (λ (d : Contains (gone_over ++ after_all) entry). on.after own (sym (unseen past) ∙ is) entry (subst (λ list. Contains list entry) (sym back_split) d) low)
            (in_cases (entry_of_pair last) entry (gone_over ++ after_all) c))
            (λ (seen : sequence_part last.0 ≤ s).
            let key : user_part last.0 ≡ own.0 = own_key (value_of (type_part last.0) last.1) own (sym (takes seen) ∙ is) in
            not_lt (order.cmp entry.key own.0) (ap (λ k. is_lt (order.cmp entry.key k)) (sym key) ∙ ⊎_elim
            (λ (same : entry_of_pair last ≡ entry). ap (λ (x : Entry). is_lt (order.cmp x.key (user_part last.0))) (sym same) ∙ lt_itself (exact_total on.exact) (user_part last.0))
            (λ (d : Contains (gone_over ++ after_all) entry). key_le order.cmp on.exact (entry_of_pair last) entry ((sorted_back order.cmp on.exact (entries_of_pairs before) (entry_of_pair last ∷ (gone_over ++ after_all)) sorted_here).0 entry d))
            (in_cases (entry_of_pair last) entry (gone_over ++ after_all) c)))
            (cases_lt s (sequence_part last.0))

        module _ {new_world : E × T} {new : M} (at : walk.is_at new_world new (internal_order order) below (previous_position (previous_position (Some (length on.front))))) where
          at_before : walk.is_at new_world new (internal_order order) below (previous_position (Some (length before)))
          at_before = subst (λ p. walk.is_at new_world new (internal_order order) below (previous_position p)) (before_end on.front before last e) at

          backward : IsOnScanBack walk new_world new s new_found order below pairs n
          backward = record {
            front = before;
            over = last ∷ on.over;
            rest = on.rest;
            parted = on.parted ∙ last_before on.front before (on.over ++ on.rest) last e;
            at = at_before;
            view = on.view;
            exact = on.exact;
            shown = ap (λ list. count_shown s (entries_of_pairs list)) (sym (last_before on.front before on.over last e)) ∙ on.shown;
            finds = finds_here;
            after = λ own is entry c low. after_here own is entry (subst (λ list. Contains (entry_of_pair last ∷ list) entry) back_split c) low;
          }

    -- it is at the entry that was found to be there
    last_here : (pair : Pair) → walk.here inner ≡ Some pair → (before : List Pair) × (on.front ≡ before ++ pair ∷ [])
    last_here pair here = ⊎_elim
        (λ (empty : on.front ≡ []). let none : walk.here inner ≡ None = here_before_all world inner order below on.front on.at empty in let no : None ≡ Some pair = sym none ∙ here in absurd cc)
        (λ (some : (before : List Pair) × (last : Pair) × (on.front ≡ before ++ last ∷ [])).
        let own : Some some.1 ≡ Some pair = sym (here_last world inner order below on.front (on.over ++ on.rest) some.0 some.1 on.parted on.at some.2) ∙ here in
        let is : some.1 ≡ pair = cc in
        (some.0, some.2 ∙ ap (λ p. some.0 ++ p ∷ []) is))
        (last_of on.front)

    pub ends_back : (taken : Bool) (saved : Pair) → found ≡ then_some taken saved → IsEndBack s found (walk.here inner) → IsFoundPrevious walk world inner s (then_some taken Reverse) saved order below pairs n
    ends_back taken saved is end = ⊎_elim
        (λ (none : IsNoEntry (walk.here inner)). ends_before_all taken saved is none)
        (λ (stop : (pair : Pair) × (own : Pair) × (walk.here inner ≡ Some pair) × (sequence_part pair.0 ≤ s) × (found ≡ Some own) × (own.0 ≢ user_part pair.0)).
        let last = last_here stop.0 stop.2 in
        placed_back taken saved is (stops_here last.0 stop.0 last.1 stop.1 stop.3 stop.4 stop.5) (λ none. let no : None ≡ Some stop.1 = sym none ∙ stop.4 in absurd cc))
        end

    pub goes_back : {new_found : Option Pair} {new_world : E × T} {new : M} → IsFoundBack s found new_found (walk.here inner)
        → walk.is_at new_world new (internal_order order) below (previous_position (previous_position (Some (length on.front))))
        → IsOnScanBack walk new_world new s new_found order below pairs n
    goes_back {new_found} b at =
        let last = last_here b.pair b.here_is in
        backward last.0 b.pair last.1 new_found b.unseen b.same_key b.takes at

  pub back_keeps : {R : Type 0} {old_world : E × T} {old : M} {result : Result R Status} {new_world : E × T} {new : M} → StepsBack walk.over walk.is_at walk.here walk.fails walk.keeps old_world old result new_world new → KeepsBelow walk old_world old new_world new
  back_keeps m = record { over = m.same; kept = m.kept; excuses = m.excuses }

  -- ---- a step of a scan back

  pub step_back_unread : {world : E × T} {inner mid : M} {s : ℕ} {found : Option Pair} {To : Option Bool → KeyOrder → List Pair → List Pair → ℕ → Type 0} {status : Status} → mid ≡ inner → FailsToRead (walk.here inner) status
      → MovesBelow walk (IsOnScanBack walk world inner s found) To world inner (Err status) world mid
  step_back_unread same fails = unread walk laws same (λ order below pairs n on. (previous_position (Some (length on.front)), on.at)) fails

  module _ {world : E × T} {inner mid : M} {s : ℕ} (taken : Bool) (saved new_saved : Pair) {seen : Option Bool} (same : mid ≡ inner) (takes : IsTaken s (then_some taken saved) (walk.here inner) saved new_saved seen) where
    pub step_back_ends : (direction : Option Direction) → seen ≡ None → direction ≡ then_some taken Reverse
        → MovesBelow walk (IsOnScanBack walk world inner s (then_some taken saved)) (IsStepBack walk world mid s direction new_saved) world inner (Ok None) world mid
    step_back_ends direction is reverse =
        let end : IsEndBack s (then_some taken saved) (walk.here inner) × (new_saved ≡ saved) = subst (IsTaken s (then_some taken saved) (walk.here inner) saved new_saved) is takes in
        subst (λ it. MovesBelow walk (IsOnScanBack walk world inner s (then_some taken saved)) (IsStepBack walk world it s direction new_saved) world inner (Ok None) world it) (sym same)
        (stayed walk laws (IsStepBack walk world inner s direction new_saved) world inner None
        (λ order below pairs n on. subst (λ d. IsFoundPrevious walk world inner s d new_saved order below pairs n) (sym reverse)
        (ends_back on taken new_saved (ap (then_some taken) (sym end.1)) end.0)))

    module _ {now valid : Bool} {new_world : E × T} {new : M} (is : seen ≡ Some now)
        (m : StepsBack walk.over walk.is_at walk.here walk.fails walk.keeps world mid (Ok valid) new_world new) (valid_is : valid ≡ is_some (walk.here new)) where
      went_back : {order : KeyOrder} {below pairs : List Pair} {n : ℕ} → IsOnScanBack walk world inner s (then_some taken saved) order below pairs n
          → IsOnScanBack walk new_world new s (then_some now new_saved) order below pairs n
      went_back {order = order} {below} on =
          goes_back on (subst (IsTaken s (then_some taken saved) (walk.here inner) saved new_saved) is takes)
          ((same_moved walk laws same m).ok (internal_order order) below (previous_position (Some (length on.front))) on.at)

      pub step_back_passes : (direction : Option Direction)
          → MovesBelow walk (IsOnScanBack walk world inner s (then_some taken saved)) (IsStepBack walk new_world new s direction new_saved) world inner (Ok (Some now)) new_world new
      step_back_passes direction = record {
        ok = λ order below pairs n on. went_back on;
        keeps = back_keeps (same_moved walk laws same m);
        cause = tt;
      }

      pub step_back_passes_last : (direction : Option Direction) → valid ≡ false → direction ≡ then_some now Reverse
          → MovesBelow walk (IsOnScanBack walk world inner s (then_some taken saved)) (IsStepBack walk new_world new s direction new_saved) world inner (Ok None) new_world new
      step_back_passes_last direction is_not reverse = record {
        ok = λ order below pairs n on. subst (λ d. IsFoundPrevious walk new_world new s d new_saved order below pairs n) (sym reverse)
            (ends_before_all (went_back on) now new_saved refl
            (none_from_is_some (walk.here new) (sym valid_is ∙ is_not)));
        keeps = back_keeps (same_moved walk laws same m);
        cause = tt;
      }

  -- ---- a whole scan back

  module _ {start world : E × T} {old now : M} {s : ℕ} {found : Option Pair}
      (so_far : MovesBelow walk (IsOnScanBack walk start old s None) (λ (u : Unit {0}). IsOnScanBack walk world now s found) start old (Ok (tt {0})) world now) where
    pub back_steps : {number : ℕ} → number ≡ s → {new_world : E × T} {new : M} (direction : Option Direction) (saved : Pair) {result : Result (Option Bool) Status}
        → MovesBelow walk (IsOnScanBack walk world now number found) (IsStepBack walk new_world new number direction saved) world now result new_world new
        → MovesBelow walk (IsOnScanBack walk start old s None) (IsStepBack walk new_world new s direction saved) start old result new_world new
    back_steps {number} same {new_world} {new} direction saved {result} step = joined walk laws so_far
        (subst (λ n. MovesBelow walk (IsOnScanBack walk world now n found) (IsStepBack walk new_world new n direction saved) world now result new_world new) same step)

  module _ {From : KeyOrder → List Pair → List Pair → ℕ → Type 0} {world new_world : E × T} {old new : M} {s : ℕ} (direction : Option Direction) (saved : Pair) {value : Option Bool}
      (m : MovesBelow walk From (IsStepBack walk new_world new s direction saved) world old (Ok value) new_world new) where
    -- it ends
    pub back_found : value ≡ None → MovesBelow walk From (λ (u : Unit {0}). IsFoundPrevious walk new_world new s direction saved) world old (Ok (tt {0})) new_world new
    back_found is = revalued walk laws (tt {0}) (λ order below pairs n to. subst (λ v. IsStepBack walk new_world new s direction saved v order below pairs n) is to) m

    -- or goes on
    pub back_more : {taken : Bool} → value ≡ Some taken → MovesBelow walk From (λ (u : Unit {0}). IsOnScanBack walk new_world new s (then_some taken saved)) world old (Ok (tt {0})) new_world new
    back_more is = revalued walk laws (tt {0}) (λ order below pairs n to. subst (λ v. IsStepBack walk new_world new s direction saved v order below pairs n) is to) m
