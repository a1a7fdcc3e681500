-- What sorted entries show is their view.
use Rattle.std.proofs.Common.{◌≡◌, ◌⊎◌, ⊎_elim, ℕ, ◌<◌, ◌≤◌, Bool, true, false, not, List, [], ◌∷◌, ◌++◌, refl, sym, ◌∙◌, ap, subst, arith, Option, Some, None, inl, inr}
use Rattle.std.specs.Prelude.{Contains, if◌then◌else◌, nat_le}
use Rattle.std.specs.Str.{bytes_eq}
use Rattle.std.proofs.lemmas.Bool.{leb-true, le-leb, and_parts, and_from}
use Rattle.std.proofs.lemmas.List.Elements.{Contains-append_left, Contains-append_right, Contains-append_cases}
use Rattle.std.specs.declared.cmp.Ordering.{Ordering}
use Rattle.std.specs.declared.cmp.Ordering.TheVariants.{Less}
use Rattle.std.specs.Ordering.{is_lt}
use Rattle.leveldb_base.specs.Cmp.{IsExactOrder}
use Rattle.leveldb_base.specs.Types.{Pair}
use Rattle.leveldb_base.specs.History.{Entry, IsNewest, AreRising}
use Rattle.leveldb_base.specs.Entries.{AreSorted}
use Rattle.leveldb_base.specs.View.{pair_for, is_skipped, is_newest, shown_in, view_of, SortedHasView}
use Rattle.leveldb_base.proofs.OrderLemmas.{is_true, is_false, both, same_bytes, bytes_same}
use Rattle.leveldb_base.proofs.HistoryLemmas.{in_none, in_front, in_rest, in_cases, all_after}
use Rattle.leveldb_base.proofs.EntriesLemmas.{newer_before, key_le}

in_pair_for : (key : List ℕ) (value : Option (List ℕ)) (pair : Pair) → Contains (pair_for key value) pair → (key ≡ pair.0) × (value ≡ Some pair.1)
in_pair_for key None pair c = absurd (in_none pair c)
in_pair_for key (Some value) pair c = ⊎_elim
    (λ (e : (key, value) ≡ pair). (ap (λ (x : Pair). x.0) e, ap (λ (x : Pair). Some x.1) e))
    (λ (d : Contains [] pair). absurd (in_none pair d))
    (in_cases (key, value) pair [] c)

pair_there : (key : List ℕ) (value : Option (List ℕ)) (v : List ℕ) → value ≡ Some v → Contains (pair_for key value) (key, v)
pair_there key value v e = subst (λ x. Contains (pair_for key x) (key, v)) (sym e) (in_front (key, v) [])

module _ (cmp : List ℕ → List ℕ → Ordering) (exact : IsExactOrder cmp) (s : ℕ) where
  -- the key to skip is at or before those of the entries at or below s that follow
  abbrev pub IsPast : Option (List ℕ) → List Entry → Type 0
  IsPast None es = Unit {0}
  IsPast (Some skip) es = (x : Entry) → Contains es x → x.sequence ≤ s → is_lt (cmp x.key skip) ≡ false

  -- entries show the pair: it is of a newest entry of theirs, and not of the key to skip
  pub record IsShownFrom (skip : Option (List ℕ)) (es : List Entry) (pair : Pair) : Type 0 where
    pub entry : Entry
    pub newest : IsNewest es s entry
    pub key_is : entry.key ≡ pair.0
    pub value_is : entry.value ≡ Some pair.1
    pub unskipped : is_skipped skip pair.0 ≡ false

  pub tested : (skip : Option (List ℕ)) (e : Entry) → is_newest s skip e ≡ true → (e.sequence ≤ s) × (is_skipped skip e.key ≡ false)
  tested skip e t =
      let parts = and_parts (nat_le e.sequence s) (not (is_skipped skip e.key)) t in
      (leb-true e.sequence s parts.0, is_false (is_skipped skip e.key) (λ f. let g : false ≡ true = sym (ap not f) ∙ parts.1 in cc))

  pub untested : (skip : Option (List ℕ)) (e : Entry) → is_newest s skip e ≡ false → e.sequence ≤ s → is_skipped skip e.key ≡ true
  untested skip e t low = is_true (is_skipped skip e.key) (λ f. both (is_newest s skip e) (and_from (nat_le e.sequence s) (not (is_skipped skip e.key)) (le-leb e.sequence s low) (ap not f)) t)

  pub shown_is : (skip : Option (List ℕ)) (es : List Entry) → IsPast skip es → AreSorted cmp es → (pair : Pair) → Contains (shown_in s skip es) pair → IsShownFrom skip es pair
  shown_is skip [] past sorted pair c = absurd (in_none pair c)
  shown_is skip (e ∷ es) past sorted pair c =
      by (shown_is (Some e.key) es (λ x d low. key_le cmp exact e x (sorted.0 x d)) sorted.1 pair) (shown_is skip es (later skip past) sorted.1 pair) (is_newest s skip e) refl c
    where
      later : (skip : Option (List ℕ)) → IsPast skip (e ∷ es) → IsPast skip es
      later None p = tt
      later (Some m) p = λ x d. p x (in_rest e x es d)

      -- a key after e's isn't the one to skip before it
      still_unskipped : (skip : Option (List ℕ)) → IsPast skip (e ∷ es) → e.sequence ≤ s → (o : Entry) → Contains es o → bytes_eq e.key o.key ≡ false → is_skipped skip o.key ≡ false
      still_unskipped None p t o d u = refl
      still_unskipped (Some m) p t o d u = is_false (bytes_eq m o.key) (λ f.
          let same = same_bytes m o.key f in
          let first = p e (in_front e es) t in
          let apart : cmp e.key o.key ≡ Less = ⊎_elim (λ l. l) (λ (same : (e.key ≡ o.key) × (o.sequence < e.sequence)). both (bytes_eq e.key o.key) (bytes_same e.key o.key same.0) u) (sorted.0 o d) in
          both (is_lt (cmp e.key m)) (ap (λ z. is_lt (cmp e.key z)) same ∙ ap is_lt apart) first)

      own : is_newest s skip e ≡ true → Contains (pair_for e.key e.value) pair → IsShownFrom skip (e ∷ es) pair
      own t d =
          let is = in_pair_for e.key e.value pair d in
          let seen = tested skip e t in
          record {
            entry = e;
            newest = record {
              there = in_front e es;
              seen = seen.0;
              newest = λ other f k l. ⊎_elim
                  (λ (g : e ≡ other). let same = ap (λ (x : Entry). x.sequence) g in omega arith)
                  (λ (g : Contains es other). let less = newer_before cmp exact e other (sorted.0 other g) (sym k) in omega arith)
                  (in_cases e other es f);
            };
            key_is = is.0;
            value_is = is.1;
            unskipped = ap (is_skipped skip) (sym is.0) ∙ seen.1;
          }

      -- from the entries after e, of another key or where e is above s
      from_later : (from : Option (List ℕ)) → (f : IsShownFrom from es pair) → (e.key ≡ f.entry.key → e.sequence ≤ s → ⊥) → is_skipped skip pair.0 ≡ false → IsShownFrom skip (e ∷ es) pair
      from_later from f other unskipped = record {
        entry = f.entry;
        newest = record {
          there = in_rest e f.entry es f.newest.there;
          seen = f.newest.seen;
          newest = λ o d k l. ⊎_elim
              (λ (g : e ≡ o). absurd (other (ap (λ (x : Entry). x.key) g ∙ k) (subst (λ (x : Entry). x.sequence ≤ s) (sym g) l)))
              (λ (g : Contains es o). f.newest.newest o g k l)
              (in_cases e o es d);
        };
        key_is = f.key_is;
        value_is = f.value_is;
        unskipped = unskipped;
      }

      by : (Contains (shown_in s (Some e.key) es) pair → IsShownFrom (Some e.key) es pair) → (Contains (shown_in s skip es) pair → IsShownFrom skip es pair) → (b : Bool) → is_newest s skip e ≡ b
          → Contains (if b then pair_for e.key e.value ++ shown_in s (Some e.key) es else shown_in s skip es) pair → IsShownFrom skip (e ∷ es) pair
      by one two true t d = ⊎_elim
          (λ (f : Contains (pair_for e.key e.value) pair). own t f)
          (λ (f : Contains (shown_in s (Some e.key) es) pair).
          let from = one f in
          let apart : bytes_eq e.key from.entry.key ≡ false = ap (bytes_eq e.key) from.key_is ∙ from.unskipped in
          from_later (Some e.key) from (λ k l. both (bytes_eq e.key from.entry.key) (bytes_same e.key from.entry.key k) apart)
          (ap (is_skipped skip) (sym from.key_is) ∙ still_unskipped skip past (tested skip e t).0 from.entry from.newest.there apart))
          (Contains-append_cases (pair_for e.key e.value) (shown_in s (Some e.key) es) pair d)
      by one two false t d =
          let from = two d in
          from_later skip from (λ k l. both (is_skipped skip e.key) (untested skip e t l) (ap (is_skipped skip) (k ∙ from.key_is) ∙ from.unskipped)) from.unskipped

  pub is_shown : (skip : Option (List ℕ)) (es : List Entry) → AreSorted cmp es → (o : Entry) (value : List ℕ) → IsNewest es s o → o.value ≡ Some value → is_skipped skip o.key ≡ false
      → Contains (shown_in s skip es) (o.key, value)
  is_shown skip [] sorted o value newest is unskipped = absurd (in_none o newest.there)
  is_shown skip (e ∷ es) sorted o value newest is unskipped =
      by (is_shown (Some e.key) es sorted.1 o value) (is_shown skip es sorted.1 o value) (is_newest s skip e) refl (in_cases e o es newest.there)
    where
      in_es : Contains es o → IsNewest es s o
      in_es d = record { there = d; seen = newest.seen; newest = λ other f. newest.newest other (in_rest e other es f) }

      by : (IsNewest es s o → o.value ≡ Some value → is_skipped (Some e.key) o.key ≡ false → Contains (shown_in s (Some e.key) es) (o.key, value))
          → (IsNewest es s o → o.value ≡ Some value → is_skipped skip o.key ≡ false → Contains (shown_in s skip es) (o.key, value))
          → (b : Bool) → is_newest s skip e ≡ b → (e ≡ o) ⊎ Contains es o → Contains (if b then pair_for e.key e.value ++ shown_in s (Some e.key) es else shown_in s skip es) (o.key, value)
      by one two true t (inl same) =
          Contains-append_left (pair_for e.key e.value) (shown_in s (Some e.key) es) (o.key, value)
          (subst (λ (x : Entry). Contains (pair_for x.key x.value) (o.key, value)) (sym same) (pair_there o.key o.value value is))
      by one two true t (inr d) =
          Contains-append_right (pair_for e.key e.value) (shown_in s (Some e.key) es) (o.key, value)
          (one (in_es d) is (is_false (bytes_eq e.key o.key) (λ f.
          let k = same_bytes e.key o.key f in
          let high = newest.newest e (in_front e es) k (tested skip e t).0 in
          let low = newer_before cmp exact e o (sorted.0 o d) k in
          omega arith)))
      by one two false t (inl same) =
          both (is_skipped skip o.key) (ap (λ (x : Entry). is_skipped skip x.key) (sym same) ∙ untested skip e t (subst (λ (x : Entry). x.sequence ≤ s) (sym same) newest.seen)) unskipped
      by one two false t (inr d) = two (in_es d) is unskipped

  pub rises : (skip : Option (List ℕ)) (es : List Entry) → IsPast skip es → AreSorted cmp es → AreRising cmp (shown_in s skip es)
  rises skip [] past sorted = tt
  rises skip (e ∷ es) past sorted = by (rises (Some e.key) es after_e sorted.1) (rises skip es (later skip past) sorted.1) (is_newest s skip e)
    where
      later : (skip : Option (List ℕ)) → IsPast skip (e ∷ es) → IsPast skip es
      later None p = tt
      later (Some m) p = λ x d. p x (in_rest e x es d)

      after_e : IsPast (Some e.key) es
      after_e x d low = key_le cmp exact e x (sorted.0 x d)

      with_own : (value : Option (List ℕ)) → AreRising cmp (shown_in s (Some e.key) es) → AreRising cmp (pair_for e.key value ++ shown_in s (Some e.key) es)
      with_own None rest = rest
      with_own (Some value) rest = (
        all_after cmp e.key (shown_in s (Some e.key) es) (λ q c.
            let from = shown_is (Some e.key) es after_e sorted.1 q c in
            ap (cmp e.key) (sym from.key_is) ∙ ⊎_elim
            (λ l. l)
            (λ (same : (e.key ≡ from.entry.key) × (from.entry.sequence < e.sequence)). both (bytes_eq e.key q.0) (bytes_same e.key q.0 (same.0 ∙ from.key_is)) from.unskipped)
            (sorted.0 from.entry from.newest.there)),
        rest,
      )

      by : AreRising cmp (shown_in s (Some e.key) es) → AreRising cmp (shown_in s skip es) → (b : Bool)
          → AreRising cmp (if b then pair_for e.key e.value ++ shown_in s (Some e.key) es else shown_in s skip es)
      by one two true = with_own e.value one
      by one two false = two

pub sorted_has_view : SortedHasView
sorted_has_view cmp exact entries s sorted = record {
  sorted = rises cmp exact s None entries tt sorted;
  exactly = λ key value. (
    (λ c.
        let from = shown_is cmp exact s None entries tt sorted (key, value) c in
        record { entry = from.entry; newest = from.newest; key_is = from.key_is; value_is = from.value_is }),
    (λ shows. subst (λ k. Contains (view_of s entries) (k, value)) shows.key_is (is_shown cmp exact s None entries sorted shows.entry value shows.newest shows.value_is refl)),
  );
}
