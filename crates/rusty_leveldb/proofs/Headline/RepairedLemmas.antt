-- A store that was repaired shows one batch: the view of what was found.
use Rattle.std.proofs.Common.{◌≡◌, ◌≤◌, ◌⊎◌, ⊎_elim, inl, inr, ℕ, zero, suc, Bool, true, false, List, [], ◌∷◌, take, refl, sym, ◌∙◌, ap, subst, arith, Some, None, Contains, append-nil}
use Rattle.std.specs.Prelude.{◌↔◌, fold, map, bytes_eq, if◌then◌else◌}
use Rattle.std.specs.Cmp.Lexicographic.{bytes_decides}
use Rattle.std.specs.Ordering.{is_lt}
use Rattle.std.specs.declared.cmp.Ordering.{Ordering}
use Rattle.std.specs.declared.cmp.Ordering.TheVariants.{Less}
use Rattle.std.proofs.lemmas.List.{take_all}
use Rattle.std.proofs.lemmas.List.Elements.{All-nil}
use Rattle.leveldb_base.specs.Cmp.{IsExactOrder}
use Rattle.leveldb_base.specs.History.{Entry, IsPlaced, AreUpTo, HasValueAt, AreRising, IsBeforeAll, IsView, entries_of, greatest, IsFoundSet}
use Rattle.leveldb_base.specs.Types.{Pair}
use Rattle.leveldb_base.proofs.HistoryLemmas.{in_none, in_front, in_rest, in_cases}
use Rattle.leveldb_base.proofs.OrderLemmas.{lt_itself, exact_total}
use Rattle.leveldb_base.proofs.ConsistentLemmas.{each_has_view}
use Rattle.leveldb_files.proofs.Histories.NumbersLemmas.{up_to_greatest}
use Rattle.leveldb_files.specs.Stores.Format.{Format}
use Rattle.rusty_leveldb.specs.Headline.{Batch, Map, with_change, map_of, is_closed, fresh_store}
use Rattle.rusty_leveldb.specs.Machines.State.{IsState}
use Rattle.rusty_leveldb.specs.Machines.Shown.{HasMap, AreShownAs, IsShownAs, RepairsAreShown}
use Rattle.rusty_leveldb.specs.Repairs.Repair.{repaired_state}
use Rattle.rusty_leveldb.proofs.Headline.MapLemmas.{none_shown}
use Rattle.rusty_leveldb.proofs.Headline.ShownLemmas.{shown_with_none}

-- ---- a batch that sets each pair

abbrev sets : List Pair → Batch
sets pairs = map (λ (pair : Pair). record { key = pair.0; value = Some pair.1 }) pairs

-- a pair of the key is there, or there is none and the map has it
abbrev Set : List Pair → Map → List ℕ → List ℕ → Type 0
Set pairs before key value = Contains pairs (key, value)
    ⊎ (((other : List ℕ) → Contains pairs (key, other) → ⊥) × (before key ≡ Some value))

module _ (cmp : List ℕ → List ℕ → Ordering) (order : IsExactOrder cmp) where
  -- a key that is before others isn't one of them
  not_among : (key : List ℕ) (pairs : List Pair) → IsBeforeAll cmp key pairs
      → (value : List ℕ) → Contains pairs (key, value) → ⊥
  not_among key [] before value c = in_none (key, value) c
  not_among key (pair ∷ pairs) before value c = ⊎_elim
      (λ (e : pair ≡ (key, value)). let k : pair.0 ≡ key = ap (λ (p : Pair). p.0) e in
      let self : cmp key key ≡ Less = subst (λ k. cmp key k ≡ Less) k before.0 in
      let f : false ≡ true = sym (lt_itself (exact_total order) key) ∙ ap is_lt self in cc)
      (λ (rest : Contains pairs (key, value)). not_among key pairs before.1 value rest)
      (in_cases pair (key, value) pairs c)

  module _ (pair : Pair) (pairs : List Pair) (before : Map) (rising : AreRising cmp (pair ∷ pairs))
      (key value : List ℕ) where
    there : (b : Bool) → bytes_eq pair.0 key ≡ b
        → Contains pairs (key, value)
        ⊎ (((other : List ℕ) → Contains pairs (key, other) → ⊥)
        × ((if b then Some pair.1 else before key) ≡ Some value)) → Set (pair ∷ pairs) before key value
    there b e (inl c) = inl (in_rest pair (key, value) pairs c)
    there true e (inr none) =
        let k : pair.0 ≡ key = (bytes_decides pair.0 key).0 e in
        let v : pair.1 ≡ value = let s = none.1 in cc in
        inl (subst (Contains (pair ∷ pairs))
        (ap (λ n. (n, pair.1)) k ∙ ap (λ n. (key, n)) v) (in_front pair pairs))
    there false e (inr none) = inr (
      λ other c. ⊎_elim
          (λ (is : pair ≡ (key, other)). let k : pair.0 ≡ key = ap (λ (p : Pair). p.0) is in
          let f : false ≡ true = sym e ∙ (bytes_decides pair.0 key).1 k in absurd (cc))
          (λ (rest : Contains pairs (key, other)). none.0 other rest)
          (in_cases pair (key, other) pairs c),
      none.1,
    )

    back : (b : Bool) → bytes_eq pair.0 key ≡ b → Set (pair ∷ pairs) before key value
        → Contains pairs (key, value)
        ⊎ (((other : List ℕ) → Contains pairs (key, other) → ⊥)
        × ((if b then Some pair.1 else before key) ≡ Some value))
    back b e (inl c) = ⊎_elim here (λ (rest : Contains pairs (key, value)). inl rest)
        (in_cases pair (key, value) pairs c)
      where
        here : pair ≡ (key, value) → Contains pairs (key, value)
            ⊎ (((other : List ℕ) → Contains pairs (key, other) → ⊥)
            × ((if b then Some pair.1 else before key) ≡ Some value))
        here is =
            let k : pair.0 ≡ key = ap (λ (p : Pair). p.0) is in
            let v : pair.1 ≡ value = ap (λ (p : Pair). p.1) is in
            let t : b ≡ true = sym e ∙ (bytes_decides pair.0 key).1 k in
            inr (
              λ other c. not_among pair.0 pairs rising.0 other
                  (subst (λ n. Contains pairs (n, other)) (sym k) c),
              ap (λ b. if b then Some pair.1 else before key) t ∙ ap Some v,
            )
    back true e (inr none) = absurd (none.0 pair.1 (subst (λ n. Contains (pair ∷ pairs) (n, pair.1))
        ((bytes_decides pair.0 key).0 e) (in_front pair pairs)))
    back false e (inr none) =
        inr (λ other c. none.0 other (in_rest pair (key, other) pairs c), none.1)

  set_all : (pairs : List Pair) (before : Map) → AreRising cmp pairs → (key value : List ℕ)
      → (fold with_change before (sets pairs) key ≡ Some value) ↔ Set pairs before key value
  set_all [] before rising key value = (
    λ e. inr (λ other c. in_none (key, other) c, e),
    λ s. ⊎_elim (λ (c : Contains [] (key, value)). absurd (in_none (key, value) c))
        (λ (none : ((other : List ℕ) → Contains [] (key, other) → ⊥) × (before key ≡ Some value)).
        none.1) s,
  )
  set_all (pair ∷ pairs) before rising key value =
      let rest = set_all pairs (with_change before (record { key = pair.0; value = Some pair.1 }))
      rising.1 key value in (
        λ e. there pair pairs before rising key value (bytes_eq pair.0 key) refl (rest.0 e),
        λ s. rest.1 (back pair pairs before rising key value (bytes_eq pair.0 key) refl s),
      )

-- ---- a view that all entries are in

seen_all : (entries : List Entry) (s t : ℕ) → AreUpTo s entries → AreUpTo t entries
    → (key value : List ℕ) → HasValueAt entries s key value → HasValueAt entries t key value
seen_all entries s t up_s up_t key value has = record {
  entry = has.entry;
  newest = record {
    there = has.newest.there;
    seen = up_t has.entry has.newest.there;
    newest = λ other c k seen. has.newest.newest other c k (up_s other c);
  };
  key_is = has.key_is;
  value_is = has.value_is;
}

module _ (format : Format) (order : IsExactOrder format.order) (found : List Entry)
    (is : IsFoundSet found) where
  view : (pairs : List Pair) × IsView format.order found (greatest found) pairs
  view = each_has_view format.order order found (greatest found) is.one

  pub batch : Batch
  batch = sets view.0

  batch_has : HasMap found (map_of (batch ∷ []))
  unfolding batch
  batch_has s up key value =
      let set = set_all format.order order view.0 (λ key. None) view.1.sorted key value in
      let exactly = view.1.exactly key value in (
        λ has. set.1 (inl (exactly.1
            (seen_all found s (greatest found) up (up_to_greatest found) key value has))),
        λ e. seen_all found (greatest found) s (up_to_greatest found) up key value
            (exactly.0 (only (set.0 e))),
      )
    where
      only : Set view.0 (λ key. None) key value → Contains view.0 (key, value)
      only (inl c) = c
      only (inr none) = absurd (let f : None ≡ Some value = none.1 in cc)

  all_entries : entries_of (found ∷ []) ≡ found
  all_entries = append-nil found

  found_shown : AreShownAs (found ∷ []) (batch ∷ [])
  found_shown = record { count = refl; maps = by }
    where
      by : (n : ℕ) → HasMap (entries_of (take n (found ∷ []))) (map_of (take n (batch ∷ [])))
      by zero = none_shown
      by (suc n) =
          subst (λ x. HasMap (entries_of (take (suc n) (found ∷ []))) (map_of x))
          (sym (take_all (suc n) (batch ∷ []) (omega arith)))
          (subst (λ x. HasMap (entries_of x) (map_of (batch ∷ [])))
          (sym (take_all (suc n) (found ∷ []) (omega arith)))
          (subst (λ es. HasMap es (map_of (batch ∷ []))) (sym all_entries) batch_has))

  pub repaired_shown : IsShownAs (repaired_state format found) (fresh_store (batch ∷ []) 1 is_closed)
  repaired_shown = record {
    batches = found_shown;
    pending = shown_with_none (found ∷ []) (batch ∷ []) found_shown;
    durable = omega arith;
    held = tt;
    given = refl;
    mode = refl;
  }

  low : greatest (entries_of (found ∷ [])) ≤ greatest found
  low = let e = ap greatest all_entries in omega arith

  pub repaired_is_state : IsState (repaired_state format found)
  repaired_is_state = record {
    history = record { begins = is; placed = All-nil IsPlaced; rising = tt };
    reached = low;
    pending = let l = low in omega arith;
    durable = omega arith;
    held = λ one c. absurd (in_none one c);
    mode = record { held = refl; given = refl };
  }

pub repairs_are_shown : RepairsAreShown
repairs_are_shown format entries order is = (
  batch format order entries is,
  repaired_is_state format order entries is,
  repaired_shown format order entries is,
)
