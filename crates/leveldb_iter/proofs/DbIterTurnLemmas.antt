-- Turns in a view, and seeks.
use Rattle.std.proofs.Common.{◌≡◌, inl, ⊎_elim, ℕ, ◌<◌, ◌≤◌, ◌^◌, Bool, true, false, List, [], ◌∷◌, ◌++◌, length, take, drop, refl, sym, ◌∙◌, ap, subst, arith, Some, None, Result, Ok, Err, append-nil}
use Rattle.std.specs.Prelude.{slice_get, OnOk, IfOk, IfErr, Contains}
use Rattle.std.specs.Str.{bytes_eq}
use Rattle.std.proofs.lemmas.Bool.{false≢true}
use Rattle.std.proofs.lemmas.List.Elements.{Contains-append_right, Contains-append_cases}
use Rattle.std.specs.declared.cmp.Ordering.TheVariants.{Less}
use Rattle.std.specs.Ordering.{is_lt}
use Rattle.leveldb_base.specs.Cmp.{IsExactOrder}
use Rattle.leveldb_base.specs.Entries.{entry_of_pair, entries_of_pairs, AreSorted}
use Rattle.leveldb_base.specs.History.{Entry}
use Rattle.leveldb_base.specs.KeyTypes.{user_part}
use Rattle.leveldb_base.specs.Scan.{IsScanning, count_shown}
use Rattle.leveldb_base.specs.Types.{Pair, position_within, previous_position, last_position, seek_position, count_before}
use Rattle.leveldb_base.specs.View.{view_of, shown_in}
use Rattle.leveldb_base.specs.declared.error.Status.{Status}
use Rattle.leveldb_base.specs.declared.key_types.ValueType.TheVariants.{TypeValue}
use Rattle.leveldb_base.specs.declared.types.Direction.{Direction}
use Rattle.leveldb_base.specs.declared.types.Direction.TheVariants.{Forward, Reverse}
use Rattle.leveldb_base.proofs.HistoryLemmas.{in_none, in_front, in_rest, in_cases}
use Rattle.leveldb_base.proofs.OrderLemmas.{not_lt, exact_total, lt_itself}
use Rattle.leveldb_base.proofs.PositionLemmas.{last_before_end}
use Rattle.leveldb_base.proofs.EntriesLemmas.{entries_append, key_le}
use Rattle.leveldb_base.proofs.ScanLemmas.{skip_after, shown_append, sorted_front, sorted_back, each_seek_of_pairs}
use Rattle.leveldb_iter.specs.declared.walk.Walk.{Ghosts as WalkGhosts}
use Rattle.leveldb_iter.specs.DbIter.{IsAtEntry, IsBeforeEntries, IsAtOrBefore, FailsOver, user_pair}
use Rattle.leveldb_iter.specs.DbIterSteps.{IsOnScan, IsOnScanBack, IsTurning, IsLeftBack, IsSought, IsWhole, MovesBelow}
use Rattle.leveldb_iter.specs.MergedEntries.{internal_order}
use Rattle.leveldb_iter.specs.Walk.{KeyOrder, WalkLaws, StepsBack}
use Rattle.leveldb_iter.proofs.DbIterLemmas.{at_front, sorted_entries, stayed, joined}
use Rattle.leveldb_iter.proofs.DbIterBackLemmas.{last_of, before_end, last_before, here_before_all, here_last, back_keeps}
use Rattle.leveldb_base.specs.CmpLaws.{internal_accepts-internal_key}
use Rattle.leveldb_base.specs.History.{AreRising}
use Rattle.leveldb_base.specs.KeyTypes.{internal_key, internal_cmp}
use Rattle.leveldb_base.proofs.EntriesLemmas.{key_between}
use Rattle.leveldb_base.proofs.OrderLemmas.{same_bytes, bytes_same, both, not_less}
use Rattle.leveldb_base.proofs.PositionLemmas.{count_over, count_none}
use Rattle.leveldb_base.proofs.ScanLemmas.{sorted_across, back_shows}
use Rattle.leveldb_base.proofs.ViewLemmas.{shown_is, sorted_has_view}
use Rattle.leveldb_iter.specs.DbIterSteps.{is_at_key}
use Rattle.leveldb_iter.specs.Walk.{SeeksKey, SeeksLast}
use Rattle.leveldb_iter.proofs.CountLemmas.{count_at, count-le, count_before-is, rising_at, pair_of_index}
use Rattle.std.proofs.lemmas.Option.{slice_get_within, get_or_from_slice_get}
use Rattle.std.proofs.lemmas.List.{length-take-le, take-append-drop}
use Rattle.std.specs.declared.cmp.Ordering.{Ordering}

-- the pair at a position has as many before its key
count_of_key : (cmp : List ℕ → List ℕ → Ordering) → IsExactOrder cmp → (pairs : List Pair) → AreRising cmp pairs → (n : ℕ) (pair : Pair) → slice_get pairs n ≡ Some pair
    → count_before cmp pair.0 pairs ≡ n
count_of_key cmp exact pairs rising n pair e =
    let h = slice_get_within pairs n pair e in
    let own : pair_of_index pairs n ≡ pair = get_or_from_slice_get pairs n pair ([], []) e in
    count_before-is cmp pair.0 pairs ∙ count_at (λ k. is_lt (cmp k pair.0)) pairs n (omega (arith, h))
    (λ i lt. ap is_lt (ap (λ (p : Pair). cmp (pair_of_index pairs i).0 p.0) (sym own) ∙ rising_at cmp pairs rising i n lt h))
    (λ lt. ap (λ (p : Pair). is_lt (cmp p.0 pair.0)) own ∙ lt_itself (exact_total exact) pair.0)

-- the entries before those of a key show as many pairs as are before the key in the view
module _ (cmp : List ℕ → List ℕ → Ordering) (exact : IsExactOrder cmp) (key : List ℕ) (s : ℕ) (front back : List Entry) (sorted : AreSorted cmp (front ++ back))
    (fronts : (entry : Entry) → Contains front entry → is_lt (cmp entry.key key) ≡ true) (backs : (entry : Entry) → Contains back entry → is_lt (cmp entry.key key) ≡ false) where
  shown_before : count_shown s front ≡ count_before cmp key (view_of s (front ++ back))
  shown_before =
      let all : (q : Pair) → Contains (view_of s front) q → is_lt (cmp q.0 key) ≡ true = λ q c.
      let from = shown_is cmp exact s None front tt (sorted_front cmp exact front back sorted) q c in
      ap (λ k. is_lt (cmp k key)) (sym from.key_is) ∙ fronts from.entry from.newest.there in
      let none = count_none (λ k. is_lt (cmp k key)) (shown_in s (skip_after s front) back) (λ q c.
      let from = back_shows cmp exact s front back sorted q c in
      ap (λ k. is_lt (cmp k key)) (sym from.key_is) ∙ backs from.entry from.newest.there) in
      let whole = count_over (λ k. is_lt (cmp k key)) (view_of s front) (shown_in s (skip_after s front) back) all in
      let parts = ap (count_before cmp key) (shown_append s None front back) in
      omega (arith, none, whole, parts)

module _ {E T M : Type 0} (walk : WalkGhosts M E T) (laws : WalkLaws walk.over walk.is_at walk.here walk.fails walk.keeps) where
  module _ {world : E × T} {inner : M} {s : ℕ} {key : List ℕ} {order : KeyOrder} {below pairs : List Pair} {n : ℕ} (on : IsTurning walk world inner s key order below pairs n) where
    split_here : entries_of_pairs below ≡ entries_of_pairs on.front ++ entries_of_pairs on.back
    split_here = ap entries_of_pairs on.parted ∙ entries_append on.front on.back

    sorted_turning : AreSorted order.cmp (entries_of_pairs on.front ++ entries_of_pairs on.back)
    sorted_turning = subst (AreSorted order.cmp) split_here (sorted_entries walk laws world inner order below (Some (length on.front)) on.exact on.at)

    -- so many pairs are before the key in the view
    number_is : count_before order.cmp key pairs ≡ n
    number_is =
        let view = sorted_has_view order.cmp on.exact (entries_of_pairs below) s (sorted_entries walk laws world inner order below (Some (length on.front)) on.exact on.at) in
        let shown = on.shown in
        ap (λ k. count_before order.cmp k pairs) (sym shown.2) ∙ count_of_key order.cmp on.exact pairs (subst (AreRising order.cmp) (sym on.view) view.sorted) n shown.0 shown.1

    module _ {new_world : E × T} {new : M} (at : walk.is_at new_world new (internal_order order) below (previous_position (Some (length on.front)))) where
      -- at another entry of the key it goes on
      pub turns_on : is_at_key key (walk.here new) ≡ true → IsTurning walk new_world new s key order below pairs n
      turns_on is = ⊎_elim
          (λ (empty : on.front ≡ []).
          let none : walk.here new ≡ None = here_before_all walk laws new_world new order below on.front at empty in
          absurd (false≢true (sym (ap (is_at_key key) none) ∙ is)))
          (λ (some : (before : List Pair) × (last : Pair) × (on.front ≡ before ++ last ∷ [])).
          let here = here_last walk laws new_world new order below on.front on.back some.0 some.1 on.parted at some.2 in
          let same : user_part some.1.0 ≡ key = same_bytes (user_part some.1.0) key (sym (ap (is_at_key key) here) ∙ is) in
          let own = on.own in
          record {
            front = some.0;
            back = some.1 ∷ on.back;
            parted = on.parted ∙ last_before on.front some.0 on.back some.1 some.2;
            at = subst (walk.is_at new_world new (internal_order order) below) (before_end on.front some.0 some.1 some.2) at;
            view = on.view;
            exact = on.exact;
            from = λ entry c. ⊎_elim
                (λ (e : entry_of_pair some.1 ≡ entry).
                let key_is : key ≡ entry.key = sym same ∙ ap (λ (x : Entry). x.key) e in
                not_lt (order.cmp entry.key key) (ap (λ k. is_lt (order.cmp k key)) (sym key_is) ∙ lt_itself (exact_total on.exact) key))
                (λ (d : Contains (entries_of_pairs on.back) entry). on.from entry d)
                (in_cases (entry_of_pair some.1) entry (entries_of_pairs on.back) c);
            own = (own.0, in_rest (entry_of_pair some.1) own.0 (entries_of_pairs on.back) own.1, own.2);
            shown = on.shown;
          })
          (last_of on.front)

      -- the entries before those of the key are of keys before it
      front_less : is_at_key key (walk.here new) ≡ false → (entry : Entry) → Contains (entries_of_pairs on.front) entry → is_lt (order.cmp entry.key key) ≡ true
      front_less is entry c =
          let own = on.own in
          ⊎_elim
          (λ (less : order.cmp entry.key own.0.key ≡ Less). ap (λ k. is_lt (order.cmp entry.key k)) (sym own.2) ∙ ap is_lt less)
          (λ (same : (entry.key ≡ own.0.key) × (own.0.sequence < entry.sequence)). absurd (not_own (same.0 ∙ own.2)))
          (sorted_across order.cmp on.exact (entries_of_pairs on.front) (entries_of_pairs on.back) sorted_turning entry own.0 c own.1)
        where
          not_own : entry.key ≡ key → ⊥
          not_own same = ⊎_elim
              (λ (empty : on.front ≡ []). in_none entry (subst (λ list. Contains (entries_of_pairs list) entry) empty c))
              (λ (some : (before : List Pair) × (last : Pair) × (on.front ≡ before ++ last ∷ [])).
              let here = here_last walk laws new_world new order below on.front on.back some.0 some.1 on.parted at some.2 in
              let other : user_part some.1.0 ≡ key → ⊥ = λ e. both (bytes_eq (user_part some.1.0) key) (bytes_same (user_part some.1.0) key e) (sym (ap (is_at_key key) here) ∙ is) in
              let split : entries_of_pairs on.front ≡ entries_of_pairs some.0 ++ entry_of_pair some.1 ∷ [] = ap entries_of_pairs some.2 ∙ entries_append some.0 (some.1 ∷ []) in
              let own = on.own in
              let last_in : Contains (entries_of_pairs on.front) (entry_of_pair some.1) = subst (λ list. Contains list (entry_of_pair some.1)) (sym split)
              (Contains-append_right (entries_of_pairs some.0) (entry_of_pair some.1 ∷ []) (entry_of_pair some.1) (in_front (entry_of_pair some.1) [])) in
              let second = sorted_across order.cmp on.exact (entries_of_pairs on.front) (entries_of_pairs on.back) sorted_turning (entry_of_pair some.1) own.0 last_in own.1 in
              let front_sorted = subst (AreSorted order.cmp) split (sorted_front order.cmp on.exact (entries_of_pairs on.front) (entries_of_pairs on.back) sorted_turning) in
              ⊎_elim
              (λ (d : Contains (entries_of_pairs some.0) entry).
              let first = sorted_across order.cmp on.exact (entries_of_pairs some.0) (entry_of_pair some.1 ∷ []) front_sorted entry (entry_of_pair some.1) d (in_front (entry_of_pair some.1) []) in
              other (key_between order.cmp on.exact entry (entry_of_pair some.1) own.0 first second (same ∙ sym own.2) ∙ same))
              (λ (d : Contains (entry_of_pair some.1 ∷ []) entry). ⊎_elim
              (λ (e : entry_of_pair some.1 ≡ entry). other (ap (λ (x : Entry). x.key) e ∙ same))
              (λ (none : Contains [] entry). in_none entry none)
              (in_cases (entry_of_pair some.1) entry [] d))
              (Contains-append_cases (entries_of_pairs some.0) (entry_of_pair some.1 ∷ []) entry (subst (λ list. Contains list entry) split c)))
              (last_of on.front)

      -- at another key or at none it is before all entries of the key
      pub turned : is_at_key key (walk.here new) ≡ false → IsOnScanBack walk new_world new s None order below pairs n
      turned is =
          let count = shown_before order.cmp on.exact key s (entries_of_pairs on.front) (entries_of_pairs on.back) sorted_turning (front_less is) (λ entry c. not_less (order.cmp entry.key key) (on.from entry c)) in
          record {
            front = on.front;
            over = [];
            rest = on.back;
            parted = on.parted;
            at = at;
            view = on.view;
            exact = on.exact;
            shown = ap (λ list. count_shown s (entries_of_pairs list)) (append-nil on.front) ∙ count
                ∙ ap (λ list. count_before order.cmp key (view_of s list)) (sym split_here) ∙ ap (count_before order.cmp key) (sym on.view) ∙ number_is;
            finds = refl;
            after = λ own none. let no : None ≡ Some own = none in absurd cc;
          }

  -- ---- a whole turn

  module _ {start world : E × T} {old now : M} {s : ℕ} {key : List ℕ}
      (so_far : MovesBelow walk (IsTurning walk start old s key) (λ (u : Unit {0}). IsTurning walk world now s key) start old (Ok (tt {0})) world now) where
    pub turn_fails : {status : Status} {new_world : E × T} {new : M} {To : Unit {0} → KeyOrder → List Pair → List Pair → ℕ → Type 0} → StepsBack walk.over walk.is_at walk.here walk.fails walk.keeps {R = Bool} world now (Err status) new_world new
        → MovesBelow walk (IsTurning walk start old s key) To start old (Err status) new_world new
    turn_fails {status} {new_world} {new} {To} m =
        let step : MovesBelow walk (IsTurning walk world now s key) To world now (Err status) new_world new = record { ok = tt; keeps = back_keeps walk laws m; cause = inl m.cause } in
        joined walk laws so_far step

    module _ {valid : Bool} {new_world : E × T} {new : M} (m : StepsBack walk.over walk.is_at walk.here walk.fails walk.keeps world now (Ok valid) new_world new) where
      pub turn_more : is_at_key key (walk.here new) ≡ true → MovesBelow walk (IsTurning walk start old s key) (λ (u : Unit {0}). IsTurning walk new_world new s key) start old (Ok (tt {0})) new_world new
      turn_more is =
          let step : MovesBelow walk (IsTurning walk world now s key) (λ (u : Unit {0}). IsTurning walk new_world new s key) world now (Ok (tt {0})) new_world new = record {
            ok = λ order below pairs n on. turns_on on (m.ok (internal_order order) below (Some (length on.front)) on.at) is;
            keeps = back_keeps walk laws m;
            cause = tt;
          } in
          joined walk laws so_far step

      pub turn_ends : is_at_key key (walk.here new) ≡ false → MovesBelow walk (IsTurning walk start old s key) (λ (u : Unit {0}). IsOnScanBack walk new_world new s None) start old (Ok (tt {0})) new_world new
      turn_ends is =
          let step : MovesBelow walk (IsTurning walk world now s key) (λ (u : Unit {0}). IsOnScanBack walk new_world new s None) world now (Ok (tt {0})) new_world new = record {
            ok = λ order below pairs n on. turned on (m.ok (internal_order order) below (Some (length on.front)) on.at) is;
            keeps = back_keeps walk laws m;
            cause = tt;
          } in
          joined walk laws so_far step

  -- ---- to before the entries of the pair that it is at

  module _ {world : E × T} {inner : M} {s : ℕ} {direction : Direction} (saved : Pair) where
    -- it is there
    pub leaves_back_reverse : direction ≡ Reverse → MovesBelow walk (IsLeftBack walk world inner s direction saved) (λ (u : Unit {0}). IsOnScanBack walk world inner s None) world inner (Ok (tt {0})) world inner
    leaves_back_reverse reverse = stayed walk laws (λ u. IsOnScanBack walk world inner s None) world inner (tt {0}) (λ order below pairs n from.
        let view = from.0 in
        let b : IsBeforeEntries walk world inner s order saved below pairs n = subst (λ d. IsAtOrBefore walk world inner s order d saved below pairs n) reverse from.1 in
        record {
          front = b.front;
          over = [];
          rest = b.back;
          parted = b.parted;
          at = b.at;
          view = view.view;
          exact = view.exact;
          shown = ap (λ list. count_shown s (entries_of_pairs list)) (append-nil b.front) ∙ b.counted;
          finds = refl;
          after = λ own none. let no : None ≡ Some own = none in absurd cc;
        })

    -- the entry that is shown is one of its key
    pub begins_turn : {mid : M} (key : List ℕ) → mid ≡ inner → direction ≡ Forward → ((pair : Pair) → walk.here inner ≡ Some pair → key ≡ user_part pair.0)
        → MovesBelow walk (IsLeftBack walk world inner s direction saved) (λ (u : Unit {0}). IsTurning walk world mid s key) world inner (Ok (tt {0})) world mid
    begins_turn {mid} key same forward own =
        subst (λ it. MovesBelow walk (IsLeftBack walk world inner s direction saved) (λ (u : Unit {0}). IsTurning walk world it s key) world inner (Ok (tt {0})) world it) (sym same)
        (stayed walk laws (λ u. IsTurning walk world inner s key) world inner (tt {0}) (λ order below pairs n from.
        let view = from.0 in
        let entry : IsAtEntry walk world inner s order below pairs n = subst (λ d. IsAtOrBefore walk world inner s order d saved below pairs n) forward from.1 in
        let here : walk.here inner ≡ Some entry.pair = laws.at_position world inner (internal_order order) below (Some (length entry.front)) entry.at
        ∙ ap (λ list. slice_get list (length entry.front)) entry.parted ∙ at_front entry.front (entry.pair ∷ entry.back) in
        let key_is = own entry.pair here in
        let split : entries_of_pairs below ≡ entries_of_pairs entry.front ++ entry_of_pair entry.pair ∷ entries_of_pairs entry.back = ap entries_of_pairs entry.parted ∙ entries_append entry.front (entry.pair ∷ entry.back) in
        let sorted = subst (AreSorted order.cmp) split (sorted_entries walk laws world inner order below (Some (length entry.front)) view.exact entry.at) in
        record {
          front = entry.front;
          back = entry.pair ∷ entry.back;
          parted = entry.parted;
          at = entry.at;
          view = view.view;
          exact = view.exact;
          from = λ other c. not_lt (order.cmp other.key key) (ap (λ k. is_lt (order.cmp other.key k)) key_is ∙ ⊎_elim
              (λ (e : entry_of_pair entry.pair ≡ other). ap (λ (x : Entry). is_lt (order.cmp x.key (user_part entry.pair.0))) (sym e) ∙ lt_itself (exact_total view.exact) (user_part entry.pair.0))
              (λ (d : Contains (entries_of_pairs entry.back) other). key_le order.cmp view.exact (entry_of_pair entry.pair) other
              ((sorted_back order.cmp view.exact (entries_of_pairs entry.front) (entry_of_pair entry.pair ∷ entries_of_pairs entry.back) sorted).0 other d))
              (in_cases (entry_of_pair entry.pair) other (entries_of_pairs entry.back) c));
          own = (entry_of_pair entry.pair, in_front (entry_of_pair entry.pair) (entries_of_pairs entry.back), sym key_is);
          shown = (user_pair entry.pair, entry.shown, sym key_is);
        }))

    pub leaves_back_forward : {mid : M} {key : List ℕ} → mid ≡ inner → direction ≡ Forward → ((pair : Pair) → walk.here inner ≡ Some pair → key ≡ user_part pair.0)
        → {number : ℕ} → number ≡ s → {result : Result (Unit {0}) Status} {new_world : E × T} {new : M}
        → MovesBelow walk (IsTurning walk world mid number key) (λ (u : Unit {0}). IsOnScanBack walk new_world new number None) world mid result new_world new
        → MovesBelow walk (IsLeftBack walk world inner s direction saved) (λ (u : Unit {0}). IsOnScanBack walk new_world new s None) world inner result new_world new
    leaves_back_forward {mid} {key} same forward own same_number {result} {new_world} {new} turn =
        joined walk laws (begins_turn key same forward own)
        (subst (λ k. MovesBelow walk (IsTurning walk world mid k key) (λ (u : Unit {0}). IsOnScanBack walk new_world new k None) world mid result new_world new) same_number turn)

  -- ---- seeks

  -- to the first entry of a key at or below a number
  pub key_sought : {world : E × T} {inner : M} {s : ℕ} (key sought : List ℕ) {R : Type 0} {result : Result R Status} {new_world : E × T} {new : M} → s < 2 ^ 56 → sought ≡ internal_key key s TypeValue
      → SeeksKey walk.over walk.is_at walk.here walk.fails walk.keeps sought world inner result new_world new
      → MovesBelow walk (IsSought walk world inner s key) (λ (r : R). IsOnScan walk new_world new s None) world inner result new_world new
  key_sought {world} {inner} {s} key sought {result = result} {new_world} {new} small is m = record {
    ok = from_ok result (λ order below pairs n from.
        let view = from.0 in
        m.ok (internal_order order) below None
        (view.over, ap (internal_order order).accepts is ∙ internal_accepts-internal_key order.accepts key s TypeValue (view.accepts key)));
    keeps = record { over = m.same; kept = m.kept; excuses = m.excuses };
    cause = map_err result m.cause;
  }
    where
      from_ok : {R : Type 0} (result : Result R Status) → ((order : KeyOrder) (below pairs : List Pair) (n : ℕ) → IsSought walk world inner s key order below pairs n → OnOk result (walk.is_at new_world new (internal_order order) below (seek_position (internal_cmp order.cmp) below sought)))
          → IfOk result (λ (r : R). (order : KeyOrder) (below pairs : List Pair) (n : ℕ) → IsSought walk world inner s key order below pairs n → IsOnScan walk new_world new s None order below pairs n)
      from_ok (Err status) at = tt
      from_ok (Ok value) at = λ order below pairs n from.
          let view = from.0 in
          let before = count_before (internal_cmp order.cmp) (internal_key key s TypeValue) below in
          let sorted = laws.sorted world inner (internal_order order) below view.over in
          let few : before ≤ length below = subst (λ k. k ≤ length below) (sym (count_before-is (internal_cmp order.cmp) (internal_key key s TypeValue) below)) (count-le (λ k. is_lt (internal_cmp order.cmp k (internal_key key s TypeValue))) below) in
          let size : length (take before below) ≡ before = length-take-le before below few in
          record {
            front = take before below;
            back = drop before below;
            parted = sym (take-append-drop before below);
            at = subst (λ k. walk.is_at new_world new (internal_order order) below (position_within below k)) (sym size)
                (subst (λ k. walk.is_at new_world new (internal_order order) below (seek_position (internal_cmp order.cmp) below k)) is (at order below pairs n from));
            scanning = subst (λ k. IsScanning s pairs k None (entries_of_pairs (drop before below))) (ap (count_before order.cmp key) (sym view.view) ∙ sym from.1)
                (subst (λ list. IsScanning s list (count_before order.cmp key (view_of s (entries_of_pairs below))) None (entries_of_pairs (drop before below))) (sym view.view)
                (each_seek_of_pairs order.cmp view.exact below sorted.rising key s TypeValue small));
          }

      map_err : {R : Type 0} (result : Result R Status) → IfErr result (walk.fails world inner new_world)
          → IfErr result (FailsOver walk (λ order pairs. (below : List Pair) × (n : ℕ) × IsSought walk world inner s key order below pairs n) world inner new_world)
      map_err (Ok value) c = tt
      map_err (Err status) c = inl c

  -- to the last entry
  pub last_sought : {world : E × T} {inner : M} {s : ℕ} {R : Type 0} {result : Result R Status} {new_world : E × T} {new : M} → SeeksLast walk.over walk.is_at walk.here walk.fails walk.keeps world inner result new_world new
      → MovesBelow walk (IsWhole walk world inner s) (λ (r : R). IsOnScanBack walk new_world new s None) world inner result new_world new
  last_sought {world} {inner} {s} {result = result} {new_world} {new} m = record {
    ok = from_ok result (λ order below pairs n from. let view = from.0 in m.ok (internal_order order) below None view.over);
    keeps = record { over = m.same; kept = m.kept; excuses = m.excuses };
    cause = map_err result m.cause;
  }
    where
      from_ok : {R : Type 0} (result : Result R Status) → ((order : KeyOrder) (below pairs : List Pair) (n : ℕ) → IsWhole walk world inner s order below pairs n → OnOk result (walk.is_at new_world new (internal_order order) below (last_position below)))
          → IfOk result (λ (r : R). (order : KeyOrder) (below pairs : List Pair) (n : ℕ) → IsWhole walk world inner s order below pairs n → IsOnScanBack walk new_world new s None order below pairs n)
      from_ok (Err status) at = tt
      from_ok (Ok value) at = λ order below pairs n from.
          let view = from.0 in
          record {
            front = below;
            over = [];
            rest = [];
            parted = sym (append-nil below);
            at = subst (walk.is_at new_world new (internal_order order) below) (last_before_end below) (at order below pairs n from);
            view = view.view;
            exact = view.exact;
            shown = ap (λ list. count_shown s (entries_of_pairs list)) (append-nil below) ∙ ap length (sym view.view) ∙ sym from.1;
            finds = refl;
            after = λ own none. let no : None ≡ Some own = none in absurd cc;
          }

      map_err : {R : Type 0} (result : Result R Status) → IfErr result (walk.fails world inner new_world)
          → IfErr result (FailsOver walk (λ order pairs. (below : List Pair) × (n : ℕ) × IsWhole walk world inner s order below pairs n) world inner new_world)
      map_err (Ok value) c = tt
      map_err (Err status) c = inl c
