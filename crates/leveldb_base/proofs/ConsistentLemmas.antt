-- Consistent entries: that those of a history are, and that they have a view.
use Rattle.std.proofs.Common.{◌≡◌, ◌⊎◌, inl, inr, ⊎_elim, ℕ, ◌<◌, ◌+◌, List, [], ◌∷◌, ◌++◌, refl, sym, ◌∙◌, ap, subst, arith}
use Rattle.std.specs.Prelude.{Contains, max}
use Rattle.std.proofs.lemmas.Cmp.{ranked, on_total, then_total, back_total}
use Rattle.std.proofs.lemmas.List.Elements.{All-head, All-tail, Contains-append_cases}
use Rattle.std.specs.Cmp.{IsTotalOrder, nat_cmp_total}
use Rattle.std.specs.Ordering.{nat_cmp, ordering_reverse, ordering_then}
use Rattle.std.specs.declared.cmp.Ordering.{Ordering}
use Rattle.std.specs.declared.cmp.Ordering.TheVariants.{Less, Equal, Greater}
use Rattle.leveldb_base.specs.Cmp.{IsExactOrder}
use Rattle.leveldb_base.specs.Entries.{AreSorted, IsBeforeEntry}
use Rattle.leveldb_base.specs.History.{AreAbove, AreConsistent, AreUpTo, BatchesAreHistory, EachHasView, Entry, HistoryIsConsistent, IsFoundSet, IsPlaced, Item, RiseAbove, RisingIsConsistent, entries_of, greatest, placed}
use Rattle.leveldb_base.specs.View.{view_of}
use Rattle.leveldb_base.proofs.EntriesLemmas.{entry_before}
use Rattle.leveldb_base.proofs.HistoryLemmas.{in_cases, in_front, in_none, in_rest, same_sets, view_passes}
use Rattle.leveldb_base.proofs.OrderLemmas.{exact_total}
use Rattle.leveldb_base.proofs.ThinningLemmas.{at_most_greatest}
use Rattle.leveldb_base.proofs.ViewLemmas.{sorted_has_view}

-- ---- entries whose sequences rise

-- each number rises above those before
pub rise_all : (low : ℕ) (entries : List Entry) → RiseAbove low entries → AreAbove low entries
rise_all low [] r entry c = absurd (in_none entry c)
rise_all low (first ∷ entries) r entry c = ⊎_elim
    (λ (e : first ≡ entry).
    let n : first.sequence ≡ entry.sequence = ap (λ (x : Entry). x.sequence) e in
    let high = r.0 in omega (arith, n, high))
    (λ (rest : Contains entries entry).
    let high = rise_all first.sequence entries r.1 entry rest in
    let first_high = r.0 in omega (arith, high, first_high))
    (in_cases first entry entries c)

-- so no two have one number
pub rising_is_consistent : RisingIsConsistent
rising_is_consistent low [] r a b in_a in_b key number = absurd (in_none a in_a)
rising_is_consistent low (first ∷ entries) r a b in_a in_b key number = ⊎_elim
    (λ (is_a : first ≡ a). ⊎_elim
    (λ (is_b : first ≡ b). sym is_a ∙ is_b)
    (λ (rest : Contains entries b).
    let n : first.sequence ≡ a.sequence = ap (λ (x : Entry). x.sequence) is_a in
    let high = rise_all first.sequence entries r.1 b rest in
    absurd (omega (arith, n, high, number)))
    (in_cases first b entries in_b))
    (λ (rest : Contains entries a). ⊎_elim
    (λ (is_b : first ≡ b).
    let n : first.sequence ≡ b.sequence = ap (λ (x : Entry). x.sequence) is_b in
    let high = rise_all first.sequence entries r.1 a rest in
    absurd (omega (arith, n, high, number)))
    (λ (others : Contains entries b).
    rising_is_consistent first.sequence entries r.1 a b rest others key number)
    (in_cases first b entries in_b))
    (in_cases first a entries in_a)

-- entries that rise from 1 on may be the first of a history
pub rising_is_found : (entries : List Entry) → RiseAbove 0 entries → IsFoundSet entries
rising_is_found entries r = record {
  numbered = rise_all 0 entries r;
  one = rising_is_consistent 0 entries r;
}

-- ---- the entries of a history

-- consistent entries and greater ones
consistent_more : (entries more : List Entry) (last : ℕ) → AreConsistent entries
    → AreConsistent more → AreUpTo last entries → AreAbove last more
    → AreConsistent (entries ++ more)
consistent_more entries more last one one_more low above a b in_a in_b key number = ⊎_elim
    (λ (old_a : Contains entries a). ⊎_elim
    (λ (old_b : Contains entries b). one a b old_a old_b key number)
    (λ (new_b : Contains more b).
    let up = low a old_a in let high = above b new_b in absurd (omega (arith, up, high, number)))
    (Contains-append_cases entries more b in_b))
    (λ (new_a : Contains more a). ⊎_elim
    (λ (old_b : Contains entries b).
    let up = low b old_b in let high = above a new_a in absurd (omega (arith, up, high, number)))
    (λ (new_b : Contains more b). one_more a b new_a new_b key number)
    (Contains-append_cases entries more b in_b))
    (Contains-append_cases entries more a in_a)

pub history_is_consistent : HistoryIsConsistent
history_is_consistent [] is = λ a b in_a. absurd (in_none a in_a)
history_is_consistent (first ∷ later) is =
    consistent_more first (entries_of later) (greatest first) is.begins.one
    (rising_is_consistent (greatest first) (entries_of later) is.rising) (at_most_greatest first)
    (rise_all (greatest first) (entries_of later) is.rising)

-- ---- placed batches as a history

-- the first of entries that rise rise
pub rise_front : (low : ℕ) (front rest : List Entry) → RiseAbove low (front ++ rest)
    → RiseAbove low front
rise_front low [] rest r = tt
rise_front low (entry ∷ front) rest r = (r.0, rise_front entry.sequence front rest r.1)

-- and the others rise above them all
pub rise_rest : (low : ℕ) (front rest : List Entry) → RiseAbove low (front ++ rest)
    → RiseAbove (max low (greatest front)) rest
rise_rest low [] rest r = subst (λ n. RiseAbove n rest) (omega arith) r
rise_rest low (entry ∷ front) rest r =
    let up = r.0 in
    subst (λ n. RiseAbove n rest) (omega (arith, up)) (rise_rest entry.sequence front rest r.1)

-- the other way round
pub rise_both : (low : ℕ) (front rest : List Entry) → RiseAbove low front
    → RiseAbove (max low (greatest front)) rest → RiseAbove low (front ++ rest)
rise_both low [] rest r s = subst (λ n. RiseAbove n rest) (omega arith) s
rise_both low (entry ∷ front) rest r s =
    let up = r.0 in (
      up,
      rise_both entry.sequence front rest r.1
          (subst (λ n. RiseAbove n rest) (omega (arith, up)) s),
    )

-- a batch that is placed above a number rises above it
pub rise_placed : (low first : ℕ) (items : List Item) → low < first
    → RiseAbove low (placed first items)
rise_placed low first [] lt = tt
rise_placed low first (item ∷ items) lt = (lt, rise_placed first (first + 1) items (omega arith))

-- and a placed batch whose numbers are at least 1 rises from 1 on
placed_rise : (first : ℕ) (items : List Item) → AreAbove 0 (placed first items)
    → RiseAbove 0 (placed first items)
placed_rise first [] numbered = tt
placed_rise first (item ∷ items) numbered = rise_placed 0 first (item ∷ items)
    (numbered (record { sequence = first; key = item.key; value = item.value })
    (in_front _ (placed (first + 1) items)))

pub batches_are_history : BatchesAreHistory
batches_are_history [] each = (λ is. tt, λ r. tt)
batches_are_history (first ∷ later) each = (
  λ is.
      let one = All-head IsPlaced first later each in
      let numbered = subst (AreAbove 0) one.2 is.begins.numbered in
      rise_both 0 first (entries_of later)
      (subst (RiseAbove 0) (sym one.2) (placed_rise one.0 one.1 numbered))
      (subst (λ n. RiseAbove n (entries_of later)) (sym from_zero) is.rising),
  λ r. record {
    begins = rising_is_found first (rise_front 0 first (entries_of later) r);
    placed = All-tail IsPlaced first later each;
    rising = subst (λ n. RiseAbove n (entries_of later)) from_zero
        (rise_rest 0 first (entries_of later) r);
  },
)
  where
    from_zero : max 0 (greatest first) ≡ greatest first
    from_zero = omega arith

-- ---- a view of consistent entries

module _ (cmp : List ℕ → List ℕ → Ordering) where
  -- how entries are ordered: by key, and of one key the newer first
  abbrev entry_cmp : Entry → Entry → Ordering
  entry_cmp a b = ordering_then (cmp a.key b.key) (nat_cmp b.sequence a.sequence)

  -- the entry before the first and the rest, or the first alone, or the first before the others
  abbrev put : Ordering → Entry → Entry → List Entry → List Entry → List Entry
  put Less entry first rest others = entry ∷ first ∷ rest
  put Equal entry first rest others = first ∷ rest
  put Greater entry first rest others = first ∷ others

  -- sorted entries and one more, at its position; none where an entry of its key and number is
  -- there
  abbrev inserted : Entry → List Entry → List Entry
  inserted entry [] = entry ∷ []
  inserted entry (first ∷ rest) = put (entry_cmp entry first) entry first rest (inserted entry rest)

  abbrev sorted_of : List Entry → List Entry
  sorted_of [] = []
  sorted_of (entry ∷ entries) = inserted entry (sorted_of entries)

module _ (cmp : List ℕ → List ℕ → Ordering) (exact : IsExactOrder cmp) where
  entry_total : IsTotalOrder (entry_cmp cmp)
  entry_total = then_total (on_total (λ (e : Entry). e.key) (exact_total exact))
      (back_total (on_total (λ (e : Entry). e.sequence) nat_cmp_total))

  -- an entry that is after another: the other is before it
  after_entry : (a b : Entry) → entry_cmp cmp a b ≡ Greater → IsBeforeEntry cmp b a
  after_entry a b greater = entry_before cmp exact b a
      (entry_total.antisymm b a ∙ ap ordering_reverse greater)

  before_trans : (a b c : Entry) → IsBeforeEntry cmp a b → IsBeforeEntry cmp b c
      → IsBeforeEntry cmp a c
  before_trans a b c (inl less) (inl more) =
      inl ((exact_total exact).trans a.key b.key c.key less more)
  before_trans a b c (inl less) (inr more) = inl (subst (λ k. cmp a.key k ≡ Less) more.0 less)
  before_trans a b c (inr same) (inl more) = inl (subst (λ k. cmp k c.key ≡ Less) (sym same.0) more)
  before_trans a b c (inr same) (inr more) =
      let newer = same.1 in let older = more.1 in
      inr (same.0 ∙ more.0, omega (arith, newer, older))

  -- entries that are equal in the order are of one key and number
  same_parts : (r t : Ordering) → ordering_then r t ≡ Equal → (r ≡ Equal) × (t ≡ Equal)
  same_parts Less t e = cc
  same_parts Equal t e = (refl, e)
  same_parts Greater t e = cc

  equal_key : (a b : Entry) → entry_cmp cmp a b ≡ Equal → a.key ≡ b.key
  equal_key a b equal = exact.exact a.key b.key
      (same_parts (cmp a.key b.key) (nat_cmp b.sequence a.sequence) equal).0

  equal_number : (a b : Entry) → entry_cmp cmp a b ≡ Equal → a.sequence ≡ b.sequence
  equal_number a b equal = sym (ranked b.sequence a.sequence Equal
      (sym (same_parts (cmp a.key b.key) (nat_cmp b.sequence a.sequence) equal).1))

  -- ---- what is in a list when an entry is put in

  from_inserted : (entry : Entry) (es : List Entry) (o : Entry) → Contains (inserted cmp entry es) o
      → (entry ≡ o) ⊎ Contains es o
  from_inserted entry [] o c = in_cases entry o [] c
  from_inserted entry (first ∷ rest) o c =
      by (entry_cmp cmp entry first) (from_inserted entry rest o) c
    where
      by : (r : Ordering) → (Contains (inserted cmp entry rest) o → (entry ≡ o) ⊎ Contains rest o)
          → Contains (put cmp r entry first rest (inserted cmp entry rest)) o
          → (entry ≡ o) ⊎ Contains (first ∷ rest) o
      by Less more c = in_cases entry o (first ∷ rest) c
      by Equal more c = inr c
      by Greater more c = ⊎_elim
          (λ (e : first ≡ o). inr (subst (Contains (first ∷ rest)) e (in_front first rest)))
          (λ (d : Contains (inserted cmp entry rest) o). ⊎_elim
          (λ (e : entry ≡ o). inl e)
          (λ (d : Contains rest o). inr (in_rest first o rest d))
          (more d))
          (in_cases first o (inserted cmp entry rest) c)

  still_there : (entry : Entry) (es : List Entry) (o : Entry) → Contains es o
      → Contains (inserted cmp entry es) o
  still_there entry [] o c = absurd (in_none o c)
  still_there entry (first ∷ rest) o c =
      by (entry_cmp cmp entry first) (still_there entry rest o)
    where
      by : (r : Ordering) → (Contains rest o → Contains (inserted cmp entry rest) o)
          → Contains (put cmp r entry first rest (inserted cmp entry rest)) o
      by Less more = in_rest entry o (first ∷ rest) c
      by Equal more = c
      by Greater more = ⊎_elim
          (λ (e : first ≡ o). subst (Contains (first ∷ inserted cmp entry rest)) e
          (in_front first (inserted cmp entry rest)))
          (λ (d : Contains rest o). in_rest first o (inserted cmp entry rest) (more d))
          (in_cases first o rest c)

  -- no other entry has its key and number
  abbrev IsOnly : Entry → List Entry → Type 0
  IsOnly entry es = (o : Entry) → Contains es o → entry.key ≡ o.key → entry.sequence ≡ o.sequence
      → entry ≡ o

  now_there : (entry : Entry) (es : List Entry) → IsOnly entry es
      → Contains (inserted cmp entry es) entry
  now_there entry [] only = in_front entry []
  now_there entry (first ∷ rest) only =
      by (entry_cmp cmp entry first) refl
      (now_there entry rest (λ o c. only o (in_rest first o rest c)))
    where
      by : (r : Ordering) → entry_cmp cmp entry first ≡ r
          → Contains (inserted cmp entry rest) entry
          → Contains (put cmp r entry first rest (inserted cmp entry rest)) entry
      by Less e more = in_front entry (first ∷ rest)
      by Equal e more = subst (Contains (first ∷ rest))
          (sym (only first (in_front first rest) (equal_key entry first e)
          (equal_number entry first e)))
          (in_front first rest)
      by Greater e more = in_rest first entry (inserted cmp entry rest) more

  -- ---- the entries sorted

  inserted_sorted : (entry : Entry) (es : List Entry) → AreSorted cmp es
      → AreSorted cmp (inserted cmp entry es)
  inserted_sorted entry [] sorted = (λ o c. absurd (in_none o c), tt)
  inserted_sorted entry (first ∷ rest) sorted =
      by (entry_cmp cmp entry first) refl (inserted_sorted entry rest sorted.1)
    where
      by : (r : Ordering) → entry_cmp cmp entry first ≡ r → AreSorted cmp (inserted cmp entry rest)
          → AreSorted cmp (put cmp r entry first rest (inserted cmp entry rest))
      by Less e more = (
        λ o c. ⊎_elim
            (λ (is : first ≡ o).
            subst (IsBeforeEntry cmp entry) is (entry_before cmp exact entry first e))
            (λ (d : Contains rest o).
            before_trans entry first o (entry_before cmp exact entry first e) (sorted.0 o d))
            (in_cases first o rest c),
        sorted,
      )
      by Equal e more = sorted
      by Greater e more = (
        λ o c. ⊎_elim
            (λ (is : entry ≡ o). subst (IsBeforeEntry cmp first) is (after_entry entry first e))
            (λ (d : Contains rest o). sorted.0 o d)
            (from_inserted entry rest o c),
        more,
      )

  are_sorted : (entries : List Entry) → AreSorted cmp (sorted_of cmp entries)
  are_sorted [] = tt
  are_sorted (entry ∷ entries) = inserted_sorted entry (sorted_of cmp entries) (are_sorted entries)

  from_sorted : (entries : List Entry) (o : Entry) → Contains (sorted_of cmp entries) o
      → Contains entries o
  from_sorted [] o c = c
  from_sorted (entry ∷ entries) o c = ⊎_elim
      (λ (e : entry ≡ o). subst (Contains (entry ∷ entries)) e (in_front entry entries))
      (λ (d : Contains (sorted_of cmp entries) o). in_rest entry o entries (from_sorted entries o d))
      (from_inserted entry (sorted_of cmp entries) o c)

  to_sorted : (entries : List Entry) → AreConsistent entries → (o : Entry) → Contains entries o
      → Contains (sorted_of cmp entries) o
  to_sorted [] one o c = c
  to_sorted (entry ∷ entries) one o c = ⊎_elim
      (λ (e : entry ≡ o). subst (Contains (inserted cmp entry (sorted_of cmp entries))) e
      (now_there entry (sorted_of cmp entries) (λ other d. one entry other (in_front entry entries)
      (in_rest entry other entries (from_sorted entries other d)))))
      (λ (d : Contains entries o). still_there entry (sorted_of cmp entries) o
      (to_sorted entries (λ a b in_a in_b. one a b (in_rest entry a entries in_a)
      (in_rest entry b entries in_b)) o d))
      (in_cases entry o entries c)

pub each_has_view : EachHasView
each_has_view cmp exact entries s one =
    let sorted = sorted_of cmp entries in (
      view_of s sorted,
      view_passes cmp sorted entries s (view_of s sorted)
          (same_sets sorted entries
          (λ o. (from_sorted cmp exact entries o, to_sorted cmp exact entries one o)) s)
          (sorted_has_view cmp exact sorted s (are_sorted cmp exact entries)),
    )
