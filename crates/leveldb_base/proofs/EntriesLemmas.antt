-- Entries as pairs, their order, and the newest entry of a key.
use Rattle.std.proofs.Common.{◌≡◌, ◌≢◌, ◌⊎◌, inl, inr, ⊎_elim, ℕ, ◌<◌, ◌≤◌, ◌^◌, Bool, true, false, List, [], ◌∷◌, ◌++◌, map, take, drop, refl, sym, ◌∙◌, ap, subst, arith, Option, Some, None}
use Rattle.std.specs.Prelude.{Contains, if◌then◌else◌, slice_get}
use Rattle.std.specs.Borrow.{Bor}
use Rattle.std.specs.Str.{bytes_eq}
use Rattle.std.specs.declared.cmp.Ordering.{Ordering}
use Rattle.std.specs.declared.cmp.Ordering.TheVariants.{Less, Equal, Greater}
use Rattle.std.specs.Ordering.{is_lt, nat_cmp, ordering_then}
use Rattle.std.specs.Cmp.{nat_cmp_total, nat_cmp_is, tied_itself}
use Rattle.std.proofs.lemmas.Bool.{cases_lt}
use Rattle.std.proofs.lemmas.Cmp.{ranked, then_total, on_total, back_total}
use Rattle.std.proofs.lemmas.List.{map-append}
use Rattle.std.proofs.lemmas.List.Elements.{Contains-append_right, Contains-append_cases}
use Rattle.leveldb_base.specs.declared.key_types.ValueType.{ValueType}
use Rattle.leveldb_base.specs.KeyTypes.{internal_key, internal_cmp, user_part, sequence_part, type_part}
use Rattle.leveldb_base.specs.Cmp.{IsExactOrder}
use Rattle.leveldb_base.specs.CmpLaws.{user_part-internal_key, sequence_part-internal_key}
use Rattle.leveldb_base.specs.Types.{Pair, count_before, pair_at, seek_position}
use Rattle.leveldb_base.specs.History.{Entry, IsBeforeAll, AreRising}
use Rattle.leveldb_base.specs.declared.types.Lookup.{Lookup}
use Rattle.leveldb_base.specs.declared.types.Lookup.TheVariants.{Value, Deleted, Absent}
use Rattle.leveldb_base.specs.Entries.{type_of, bytes_of_value, value_of, entry_of_pair, entries_of_pairs, IsBeforeEntry, AreSorted, IsBeforeKeyAt, FindsNewest, HasNewest, found_at, is_absent, lookup_copied, lookup_of, PairIsRead, RisingIsSorted, InternalIsTotal, FirstIsNewest, FirstOfKeyIsNewest}
use Rattle.leveldb_base.proofs.OrderLemmas.{lt_less, both, lt_turn, lt_itself, same_bytes, bytes_same, exact_total}
use Rattle.leveldb_base.proofs.HistoryLemmas.{in_none, in_front, in_rest, in_cases}
use Rattle.leveldb_base.proofs.KeyTypesLemmas.{type_part-internal_key}
use Rattle.leveldb_base.proofs.PositionLemmas.{at_within, count_while, count_in, count_out, front_passes, back_fails}

-- ---- entries as pairs

-- the elements of a list under a function
pub map_in : {A B : Type 0} (f : A → B) (xs : List A) (x : A) → Contains xs x → Contains (map f xs) (f x)
map_in f [] x c = absurd (in_none x c)
map_in f (y ∷ xs) x c = by (map_in f xs x) (in_cases y x xs c)
  where
    by : (Contains xs x → Contains (map f xs) (f x)) → (y ≡ x) ⊎ Contains xs x → Contains (f y ∷ map f xs) (f x)
    by more (inl e) = subst (λ z. Contains (f y ∷ map f xs) z) (ap f e) (in_front (f y) (map f xs))
    by more (inr d) = in_rest (f y) (f x) (map f xs) (more d)

pub in_map : {A B : Type 0} (f : A → B) (xs : List A) (y : B) → Contains (map f xs) y → (x : A) × Contains xs x × (f x ≡ y)
in_map f [] y c = absurd (in_none y c)
in_map f (x ∷ xs) y c = by (in_map f xs y) (in_cases (f x) y (map f xs) c)
  where
    by : (Contains (map f xs) y → (z : _) × Contains xs z × (f z ≡ y)) → (f x ≡ y) ⊎ Contains (map f xs) y → (z : _) × Contains (x ∷ xs) z × (f z ≡ y)
    by more (inl e) = (x, in_front x xs, e)
    by more (inr d) = let rest = more d in (rest.0, in_rest x rest.0 xs rest.1, rest.2)

same_value : (value : Option (List ℕ)) → value_of (type_of value) (bytes_of_value value) ≡ value
same_value None = refl
same_value (Some value) = refl

pub pair_is_read : PairIsRead
pair_is_read e small =
    let kind = type_of e.value in
    let number = sequence_part-internal_key e.key e.sequence kind small in
    let user = user_part-internal_key e.key e.sequence kind in
    let value = ap (λ k. value_of k (bytes_of_value e.value)) (type_part-internal_key e.key e.sequence kind small) ∙ same_value e.value in
    λ i. record { sequence = number i; key = user i; value = value i }

-- ---- the order of internal keys

then_parts : (r t : Ordering) → ordering_then r t ≡ Less → (r ≡ Less) ⊎ ((r ≡ Equal) × (t ≡ Less))
then_parts Less t e = inl refl
then_parts Equal t e = inr (refl, e)
then_parts Greater t e = cc

number_less : (m n : ℕ) (o : Ordering) → o ≡ nat_cmp m n → o ≡ Less → m < n
number_less m n Less e f = ranked m n Less e
number_less m n Equal e f = absurd cc
number_less m n Greater e f = absurd cc

pub internal_is_total : InternalIsTotal
internal_is_total cmp exact = then_total (on_total user_part (exact_total exact)) (back_total (on_total sequence_part nat_cmp_total))

module _ (cmp : List ℕ → List ℕ → Ordering) (exact : IsExactOrder cmp) where
  not_before_itself : {A : Type 0} (a b : List ℕ) → a ≡ b → cmp a b ≡ Less → A
  not_before_itself a b e less = both (is_lt (cmp a a)) (ap (λ x. is_lt (cmp a x)) e ∙ ap is_lt less) (lt_itself (exact_total exact) a)

  -- of one key the entry before is newer
  pub newer_before : (a b : Entry) → IsBeforeEntry cmp a b → a.key ≡ b.key → b.sequence < a.sequence
  newer_before a b (inl less) e = not_before_itself a.key b.key e less
  newer_before a b (inr same) e = same.1

  -- the key of the entry before is at or before the other's
  pub key_le : (a b : Entry) → IsBeforeEntry cmp a b → is_lt (cmp b.key a.key) ≡ false
  key_le a b (inl less) = lt_turn (exact_total exact) a.key b.key (ap is_lt less)
  key_le a b (inr same) = ap (λ x. is_lt (cmp b.key x)) same.0 ∙ lt_itself (exact_total exact) b.key

  -- between entries of one key are entries of that key
  pub key_between : (a b c : Entry) → IsBeforeEntry cmp a b → IsBeforeEntry cmp b c → a.key ≡ c.key → b.key ≡ a.key
  key_between a b c (inl less) second e = both (is_lt (cmp a.key b.key)) (ap is_lt less) (ap (λ x. is_lt (cmp x b.key)) e ∙ key_le b c second)
  key_between a b c (inr same) second e = sym same.0

  -- an entry is before another where its key is less, or where of one key its number is greater
  pub entry_before : (a b : Entry) → ordering_then (cmp a.key b.key) (nat_cmp b.sequence a.sequence) ≡ Less → IsBeforeEntry cmp a b
  entry_before a b less = ⊎_elim
      (λ (l : cmp a.key b.key ≡ Less). inl l)
      (λ (l : (cmp a.key b.key ≡ Equal) × (nat_cmp b.sequence a.sequence ≡ Less)).
      inr (exact.exact a.key b.key l.0, number_less b.sequence a.sequence (nat_cmp b.sequence a.sequence) refl l.1))
      (then_parts (cmp a.key b.key) (nat_cmp b.sequence a.sequence) less)

  first_before : (p : Pair) (pairs : List Pair) → IsBeforeAll (internal_cmp cmp) p.0 pairs → (o : Entry) → Contains (entries_of_pairs pairs) o → IsBeforeEntry cmp (entry_of_pair p) o
  first_before p [] all o c = absurd (in_none o c)
  first_before p (q ∷ pairs) all o c = ⊎_elim
      (λ (e : entry_of_pair q ≡ o). subst (λ x. IsBeforeEntry cmp (entry_of_pair p) x) e (entry_before (entry_of_pair p) (entry_of_pair q) all.0))
      (λ (d : Contains (entries_of_pairs pairs) o). first_before p pairs all.1 o d)
      (in_cases (entry_of_pair q) o (entries_of_pairs pairs) c)

  sorted_pairs : (pairs : List Pair) → AreRising (internal_cmp cmp) pairs → AreSorted cmp (entries_of_pairs pairs)
  sorted_pairs [] rising = tt
  sorted_pairs (p ∷ pairs) rising = (first_before p pairs rising.0, sorted_pairs pairs rising.1)

pub rising_is_sorted : RisingIsSorted
rising_is_sorted cmp exact pairs rising = sorted_pairs cmp exact pairs rising

-- ---- what a look-up finds

-- one answer alone is that there is no entry
pub absent_is : {V : Type 0} (found : Lookup V) → is_absent found ≡ true → found ≡ Absent
absent_is (Value value) e = cc
absent_is Deleted e = cc
absent_is Absent e = refl

-- a copy is that answer where the original is
pub absent_copied : (found : Lookup (Bor (List ℕ))) → is_absent (lookup_copied found) ≡ is_absent found
absent_copied (Value value) = refl
absent_copied Deleted = refl
absent_copied Absent = refl

-- ---- the newest entry of a key

-- the newest entry of a key in one set is its newest together with a set that has no entry of the
-- key
pub newest_after : (xs ys : List Entry) (s : ℕ) (key : List ℕ) (value : Option (List ℕ)) → FindsNewest xs s key Absent → HasNewest ys s key value → HasNewest (xs ++ ys) s key value
newest_after xs ys s key value none has = record {
  entry = has.entry;
  newest = record {
    there = Contains-append_right xs ys has.entry has.newest.there;
    seen = has.newest.seen;
    newest = λ other c k seen.
        ⊎_elim
        (λ (d : Contains xs other). absurd (none other d (k ∙ has.key_is) seen))
        (λ (d : Contains ys other). has.newest.newest other d k seen)
        (Contains-append_cases xs ys other c);
  };
  key_is = has.key_is;
  value_is = has.value_is;
  only = λ other newest k. has.only other (record {
    there = ⊎_elim (λ (d : Contains xs other). absurd (none other d k newest.seen)) (λ (d : Contains ys other). d) (Contains-append_cases xs ys other newest.there);
    seen = newest.seen;
    newest = λ more c l seen. newest.newest more (Contains-append_right xs ys more c) l seen;
  }) k;
}

-- the newest entry of a key is what is found of it
pub finds_entry : (entries : List Entry) (s : ℕ) (key : List ℕ) (value : Option (List ℕ)) → HasNewest entries s key value → FindsNewest entries s key (lookup_of value)
finds_entry entries s key None has = has
finds_entry entries s key (Some value) has = has

-- what one set finds of a key, it finds together with a set that has no entry of the key
pub finds_after : (xs ys : List Entry) (s : ℕ) (key : List ℕ) (found : Lookup (List ℕ)) → FindsNewest xs s key Absent → FindsNewest ys s key found → FindsNewest (xs ++ ys) s key found
finds_after xs ys s key Absent none more = λ e c k seen. ⊎_elim (λ d. none e d k seen) (λ d. more e d k seen) (Contains-append_cases xs ys e c)
finds_after xs ys s key Deleted none has = newest_after xs ys s key None none has
finds_after xs ys s key (Value value) none has = newest_after xs ys s key (Some value) none has

-- ---- the first pair at or after an internal key

module _ (cmp : List ℕ → List ℕ → Ordering) (exact : IsExactOrder cmp) (sought : List ℕ) where
  abbrev test : List ℕ → Bool
  test key = is_lt (internal_cmp cmp key sought)

  -- the pair at this index says what is found
  abbrev FindsAt : List Pair → ℕ → Type 0
  FindsAt pairs n = FindsNewest (entries_of_pairs pairs) (sequence_part sought) (user_part sought) (found_at (user_part sought) (slice_get pairs n))

  -- a pair before the key that is sought, and one at or after it
  pub before_sought : (p : Pair) → test p.0 ≡ true → IsBeforeKeyAt cmp (user_part sought) (sequence_part sought) (entry_of_pair p)
  before_sought p t = ⊎_elim
      (λ (l : cmp (user_part p.0) (user_part sought) ≡ Less). inl l)
      (λ (l : (cmp (user_part p.0) (user_part sought) ≡ Equal) × (nat_cmp (sequence_part sought) (sequence_part p.0) ≡ Less)).
      inr (exact.exact (user_part p.0) (user_part sought) l.0, number_less (sequence_part sought) (sequence_part p.0) (nat_cmp (sequence_part sought) (sequence_part p.0)) refl l.1))
      (then_parts (cmp (user_part p.0) (user_part sought)) (nat_cmp (sequence_part sought) (sequence_part p.0)) (lt_less (internal_cmp cmp p.0 sought) t))

  pub from_sought : (p : Pair) → test p.0 ≡ false → cmp (user_part p.0) (user_part sought) ≢ Less
  from_sought p f less =
      let less_now : test p.0 ≡ true = ap (λ o. is_lt (ordering_then o (nat_cmp (sequence_part sought) (sequence_part p.0)))) less in
      both (test p.0) less_now f

  low_enough : (p : Pair) → test p.0 ≡ false → user_part p.0 ≡ user_part sought → sequence_part p.0 ≤ sequence_part sought
  low_enough p f same = ⊎_elim
      (λ (above : sequence_part sought < sequence_part p.0).
      let tied : cmp (user_part p.0) (user_part sought) ≡ Equal = ap (λ x. cmp x (user_part sought)) same ∙ tied_itself (exact_total exact) (user_part sought) in
      let less_now : test p.0 ≡ true =
      ap (λ o. is_lt (ordering_then o (nat_cmp (sequence_part sought) (sequence_part p.0)))) tied ∙ ap is_lt (sym (nat_cmp_is (sequence_part sought) (sequence_part p.0) Less above)) in
      both (test p.0) less_now f)
      (λ (low : sequence_part p.0 ≤ sequence_part sought). low)
      (cases_lt (sequence_part sought) (sequence_part p.0))

  first_finds : (pairs : List Pair) → AreRising (internal_cmp cmp) pairs → FindsAt pairs (count_while test pairs)
  first_finds [] rising = λ entry c k low. in_none entry c
  first_finds (p ∷ pairs) rising = by (first_finds pairs rising.1) (test p.0) refl
    where
      skipped : test p.0 ≡ true → FindsNewest (entry_of_pair p ∷ []) (sequence_part sought) (user_part sought) Absent
      skipped t other c k low =
          let is : entry_of_pair p ≡ other = ⊎_elim (λ (e : entry_of_pair p ≡ other). e) (λ (d : Contains [] other). absurd (in_none other d)) (in_cases (entry_of_pair p) other [] c) in
          ⊎_elim
          (λ (l : cmp (user_part p.0) (user_part sought) ≡ Less). not_before_itself cmp exact (user_part p.0) (user_part sought) (ap (λ (x : Entry). x.key) is ∙ k) l)
          (λ (l : (user_part p.0 ≡ user_part sought) × (sequence_part sought < sequence_part p.0)).
          let number = ap (λ (x : Entry). x.sequence) is in let above = l.1 in omega arith)
          (before_sought p t)

      found : test p.0 ≡ false → (b : Bool) → bytes_eq (user_part p.0) (user_part sought) ≡ b
          → FindsNewest (entries_of_pairs (p ∷ pairs)) (sequence_part sought) (user_part sought) (if b then lookup_of (value_of (type_part p.0) p.1) else Absent)
      found f true t =
          let same = same_bytes (user_part p.0) (user_part sought) t in
          let seen = low_enough p f same in
          finds_entry (entries_of_pairs (p ∷ pairs)) (sequence_part sought) (user_part sought) (value_of (type_part p.0) p.1) (record {
            entry = entry_of_pair p;
            newest = record {
              there = in_front (entry_of_pair p) (entries_of_pairs pairs);
              seen = seen;
              newest = λ other c k low. ⊎_elim
                  (λ (e : entry_of_pair p ≡ other). let number = ap (λ (x : Entry). x.sequence) e in omega arith)
                  (λ (d : Contains (entries_of_pairs pairs) other).
                  let less = newer_before cmp exact (entry_of_pair p) other (first_before cmp exact p pairs rising.0 other d) (sym k) in omega arith)
                  (in_cases (entry_of_pair p) other (entries_of_pairs pairs) c);
            };
            key_is = same;
            value_is = refl;
            only = λ other newest k. ⊎_elim
                (λ (e : entry_of_pair p ≡ other). sym e)
                (λ (d : Contains (entries_of_pairs pairs) other).
                let less = newer_before cmp exact (entry_of_pair p) other (first_before cmp exact p pairs rising.0 other d) (same ∙ sym k) in
                let most = newest.newest (entry_of_pair p) (in_front (entry_of_pair p) (entries_of_pairs pairs)) (same ∙ sym k) seen in
                absurd (omega arith))
                (in_cases (entry_of_pair p) other (entries_of_pairs pairs) newest.there);
          })
      found f false t = λ other c k low. ⊎_elim
          (λ (e : entry_of_pair p ≡ other). both (bytes_eq (user_part p.0) (user_part sought)) (bytes_same (user_part p.0) (user_part sought) (ap (λ (x : Entry). x.key) e ∙ k)) t)
          (λ (d : Contains (entries_of_pairs pairs) other). ⊎_elim
          (λ (l : cmp (user_part p.0) other.key ≡ Less). from_sought p f (ap (cmp (user_part p.0)) (sym k) ∙ l))
          (λ (l : (user_part p.0 ≡ other.key) × (other.sequence < sequence_part p.0)).
          both (bytes_eq (user_part p.0) (user_part sought)) (bytes_same (user_part p.0) (user_part sought) (l.0 ∙ k)) t)
          (first_before cmp exact p pairs rising.0 other d))
          (in_cases (entry_of_pair p) other (entries_of_pairs pairs) c)

      by : FindsAt pairs (count_while test pairs) → (b : Bool) → test p.0 ≡ b → FindsAt (p ∷ pairs) (count_while test (p ∷ pairs))
      by more true t =
          subst (FindsAt (p ∷ pairs)) (sym (count_in test p pairs t))
          (finds_after (entry_of_pair p ∷ []) (entries_of_pairs pairs) (sequence_part sought) (user_part sought) (found_at (user_part sought) (slice_get pairs (count_while test pairs))) (skipped t) more)
      by more false t = subst (FindsAt (p ∷ pairs)) (sym (count_out test p pairs t)) (found t (bytes_eq (user_part p.0) (user_part sought)) refl)

pub first_is_newest : FirstIsNewest
first_is_newest cmp exact pairs rising sought =
    subst (λ at. FindsNewest (entries_of_pairs pairs) (sequence_part sought) (user_part sought) (found_at (user_part sought) at))
    (sym (at_within pairs (count_before (internal_cmp cmp) sought pairs))) (first_finds cmp exact sought pairs rising)

pub first_of_key_is_newest : FirstOfKeyIsNewest
first_of_key_is_newest cmp exact pairs rising key s kind small =
    let sought = internal_key key s kind in
    let at = pair_at pairs (seek_position (internal_cmp cmp) pairs sought) in
    subst (λ user. FindsNewest (entries_of_pairs pairs) s user (found_at user at)) (user_part-internal_key key s kind)
    (subst (λ n. FindsNewest (entries_of_pairs pairs) n (user_part sought) (found_at (user_part sought) at)) (sequence_part-internal_key key s kind small)
    (first_is_newest cmp exact pairs rising sought))

-- ---- the entries on both sides of a seek

pub entries_append : (xs ys : List Pair) → entries_of_pairs (xs ++ ys) ≡ entries_of_pairs xs ++ entries_of_pairs ys
entries_append xs ys = map-append entry_of_pair xs ys

module _ (cmp : List ℕ → List ℕ → Ordering) (exact : IsExactOrder cmp) (pairs : List Pair) (rising : AreRising (internal_cmp cmp) pairs)
    (key : List ℕ) (s : ℕ) (kind : ValueType) (small : s < 2 ^ 56) where
  abbrev sought_at : ℕ
  sought_at = count_before (internal_cmp cmp) (internal_key key s kind) pairs

  pub before_seek : (entry : Entry) → Contains (entries_of_pairs (take sought_at pairs)) entry → IsBeforeKeyAt cmp key s entry
  before_seek entry c =
      let sought = internal_key key s kind in
      let it = in_map entry_of_pair (take sought_at pairs) entry c in
      let passes = front_passes (λ k. is_lt (internal_cmp cmp k sought)) pairs it.0 it.1 in
      subst (λ x. IsBeforeKeyAt cmp key s x) it.2
      (subst (λ user. IsBeforeKeyAt cmp user s (entry_of_pair it.0)) (user_part-internal_key key s kind)
      (subst (λ n. IsBeforeKeyAt cmp (user_part sought) n (entry_of_pair it.0)) (sequence_part-internal_key key s kind small) (before_sought cmp exact sought it.0 passes)))

  pub from_seek : (entry : Entry) → Contains (entries_of_pairs (drop sought_at pairs)) entry → cmp entry.key key ≢ Less
  from_seek entry c =
      let sought = internal_key key s kind in
      let it = in_map entry_of_pair (drop sought_at pairs) entry c in
      let fails = back_fails (internal_is_total cmp exact) sought pairs it.0 rising it.1 in
      subst (λ (x : Entry). cmp x.key key ≢ Less) it.2
      (subst (λ user. cmp (user_part it.0.0) user ≢ Less) (user_part-internal_key key s kind) (from_sought cmp exact sought it.0 fails))
