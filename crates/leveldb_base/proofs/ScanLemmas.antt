-- What scans of sorted entries show, and scans forward.
use Rattle.std.proofs.Common.{◌≡◌, ◌≢◌, ◌⊎◌, inl, inr, ⊎_elim, ℕ, ◌+◌, ◌<◌, ◌≤◌, Bool, true, false, List, [], ◌∷◌, ◌++◌, length, take, drop, refl, sym, ◌∙◌, ap, subst, arith, Option, Some, None, append_assoc, append-nil, length-append}
use Rattle.std.specs.Prelude.{Contains, if◌then◌else◌, nat_le, slice_get, ◌&&◌, not}
use Rattle.std.specs.Str.{bytes_eq}
use Rattle.std.proofs.lemmas.Bool.{leb-true, and_parts}
use Rattle.std.proofs.lemmas.List.{append_cancel_left, take-append-drop}
use Rattle.std.proofs.lemmas.List.Elements.{Contains-append_left, Contains-append_right}
use Rattle.std.specs.declared.cmp.Ordering.{Ordering}
use Rattle.std.specs.declared.cmp.Ordering.TheVariants.{Less}
use Rattle.std.specs.Ordering.{is_lt}
use Rattle.leveldb_base.specs.KeyTypes.{internal_key, internal_cmp}
use Rattle.leveldb_base.specs.Cmp.{IsExactOrder}
use Rattle.leveldb_base.specs.Types.{Pair, count_before}
use Rattle.leveldb_base.specs.History.{Entry, AreRising}
use Rattle.leveldb_base.specs.Entries.{IsBeforeEntry, AreSorted, IsBeforeKeyAt, entries_of_pairs}
use Rattle.leveldb_base.specs.View.{pair_for, is_skipped, is_newest, shown_in, view_of}
use Rattle.leveldb_base.specs.Scan.{count_shown, IsScanning, EachScanStarts, EachScanSteps, EachScanEnds, EachScanSeeks, EachSeekOfPairs, EachScanResumes}
use Rattle.leveldb_base.proofs.OrderLemmas.{not_less, both, is_false, tied, lt_itself, exact_total, same_bytes, bytes_same}
use Rattle.leveldb_base.proofs.HistoryLemmas.{in_none, in_front, in_rest, in_cases, each_after, one_list}
use Rattle.leveldb_base.proofs.PositionLemmas.{position_in, position_out, at_seam, count_while, count_none, count_over}
use Rattle.leveldb_base.proofs.EntriesLemmas.{key_le, rising_is_sorted, entries_append, before_seek, from_seek}
use Rattle.leveldb_base.proofs.ViewLemmas.{IsShownFrom, IsPast, shown_is, is_shown, rises}

-- ---- what is shown, in parts

-- the key to skip after entries
abbrev pub skip_from : ℕ → Option (List ℕ) → List Entry → Option (List ℕ)
skip_from s skip [] = skip
skip_from s skip (entry ∷ entries) = skip_from s (if is_newest s skip entry then Some entry.key else skip) entries

abbrev pub skip_after : ℕ → List Entry → Option (List ℕ)
skip_after s front = skip_from s None front

pub shown_append : (s : ℕ) (skip : Option (List ℕ)) (xs ys : List Entry) → shown_in s skip (xs ++ ys) ≡ shown_in s skip xs ++ shown_in s (skip_from s skip xs) ys
shown_append s skip [] ys = refl
shown_append s skip (x ∷ xs) ys = by (shown_append s (Some x.key) xs ys) (shown_append s skip xs ys) (is_newest s skip x)
  where
    by : shown_in s (Some x.key) (xs ++ ys) ≡ shown_in s (Some x.key) xs ++ shown_in s (skip_from s (Some x.key) xs) ys → shown_in s skip (xs ++ ys) ≡ shown_in s skip xs ++ shown_in s (skip_from s skip xs) ys
        → (b : Bool) → (if b then pair_for x.key x.value ++ shown_in s (Some x.key) (xs ++ ys) else shown_in s skip (xs ++ ys))
        ≡ (if b then pair_for x.key x.value ++ shown_in s (Some x.key) xs else shown_in s skip xs) ++ shown_in s (skip_from s (if b then Some x.key else skip) xs) ys
    by one two true = ap (λ z. pair_for x.key x.value ++ z) one ∙ sym (append_assoc (pair_for x.key x.value) (shown_in s (Some x.key) xs) (shown_in s (skip_from s (Some x.key) xs) ys))
    by one two false = two

pub shown_one : (s : ℕ) (skip : Option (List ℕ)) (e : Entry) (es : List Entry) → is_newest s skip e ≡ true → shown_in s skip (e ∷ es) ≡ pair_for e.key e.value ++ shown_in s (Some e.key) es
shown_one s skip e es t = ap (λ b. if b then pair_for e.key e.value ++ shown_in s (Some e.key) es else shown_in s skip es) t

pub shown_not : (s : ℕ) (skip : Option (List ℕ)) (e : Entry) (es : List Entry) → is_newest s skip e ≡ false → shown_in s skip (e ∷ es) ≡ shown_in s skip es
shown_not s skip e es t = ap (λ b. if b then pair_for e.key e.value ++ shown_in s (Some e.key) es else shown_in s skip es) t

-- ---- the key to skip

-- the key to skip is that of an entry at or below s
from_skip : (s : ℕ) (skip : Option (List ℕ)) (xs : List Entry) (d : List ℕ) → skip_from s skip xs ≡ Some d → (skip ≡ Some d) ⊎ ((o : Entry) × Contains xs o × (o.key ≡ d) × (o.sequence ≤ s))
from_skip s skip [] d e = inl e
from_skip s skip (x ∷ xs) d e = by (from_skip s (Some x.key) xs d) (from_skip s skip xs d) (is_newest s skip x) refl e
  where
    later : ((o : Entry) × Contains xs o × (o.key ≡ d) × (o.sequence ≤ s)) → (o : Entry) × Contains (x ∷ xs) o × (o.key ≡ d) × (o.sequence ≤ s)
    later (o, c, k, l) = (o, in_rest x o xs c, k, l)

    by : (skip_from s (Some x.key) xs ≡ Some d → (Some x.key ≡ Some d) ⊎ ((o : Entry) × Contains xs o × (o.key ≡ d) × (o.sequence ≤ s)))
        → (skip_from s skip xs ≡ Some d → (skip ≡ Some d) ⊎ ((o : Entry) × Contains xs o × (o.key ≡ d) × (o.sequence ≤ s)))
        → (b : Bool) → is_newest s skip x ≡ b → skip_from s (if b then Some x.key else skip) xs ≡ Some d → (skip ≡ Some d) ⊎ ((o : Entry) × Contains (x ∷ xs) o × (o.key ≡ d) × (o.sequence ≤ s))
    by one two true t f = ⊎_elim
        (λ (g : Some x.key ≡ Some d). let k : x.key ≡ d = cc in inr (x, in_front x xs, k, leb-true x.sequence s (and_parts (nat_le x.sequence s) (not (is_skipped skip x.key)) t).0))
        (λ (g : (o : Entry) × Contains xs o × (o.key ≡ d) × (o.sequence ≤ s)). inr (later g))
        (one f)
    by one two false t f = ⊎_elim
        (λ (g : skip ≡ Some d). inl g)
        (λ (g : (o : Entry) × Contains xs o × (o.key ≡ d) × (o.sequence ≤ s)). inr (later g))
        (two f)

-- the key to skip after entries is that of one of them at or below s
pub skip_within : (s : ℕ) (xs : List Entry) (d : List ℕ) → skip_after s xs ≡ Some d → (o : Entry) × Contains xs o × (o.key ≡ d) × (o.sequence ≤ s)
skip_within s xs d e = ⊎_elim (λ (f : None ≡ Some d). cc) (λ (g : (o : Entry) × Contains xs o × (o.key ≡ d) × (o.sequence ≤ s)). g) (from_skip s None xs d e)

module _ (cmp : List ℕ → List ℕ → Ordering) (exact : IsExactOrder cmp) where
  -- parts of sorted entries
  pub sorted_front : (xs ys : List Entry) → AreSorted cmp (xs ++ ys) → AreSorted cmp xs
  sorted_front [] ys sorted = tt
  sorted_front (x ∷ xs) ys sorted = ((λ o c. sorted.0 o (Contains-append_left xs ys o c)), sorted_front xs ys sorted.1)

  pub sorted_back : (xs ys : List Entry) → AreSorted cmp (xs ++ ys) → AreSorted cmp ys
  sorted_back [] ys sorted = sorted
  sorted_back (x ∷ xs) ys sorted = sorted_back xs ys sorted.1

  pub sorted_across : (xs ys : List Entry) → AreSorted cmp (xs ++ ys) → (a b : Entry) → Contains xs a → Contains ys b → IsBeforeEntry cmp a b
  sorted_across [] ys sorted a b c d = absurd (in_none a c)
  sorted_across (x ∷ xs) ys sorted a b c d = ⊎_elim
      (λ (e : x ≡ a). subst (λ z. IsBeforeEntry cmp z b) e (sorted.0 b (Contains-append_right xs ys b d)))
      (λ (f : Contains xs a). sorted_across xs ys sorted.1 a b f d)
      (in_cases x a xs c)

  module _ (s : ℕ) (front back : List Entry) (sorted : AreSorted cmp (front ++ back)) where
    pub skip_past : (m : Option (List ℕ)) → skip_after s front ≡ m → IsPast cmp exact s m back
    skip_past None e = tt
    skip_past (Some d) e = λ x c low.
        let o = skip_within s front d e in
        ap (λ k. is_lt (cmp x.key k)) (sym o.2) ∙ key_le cmp exact o.0 x (sorted_across front back sorted o.0 x o.1 c)

    pub back_shows : (q : Pair) → Contains (shown_in s (skip_after s front) back) q → IsShownFrom cmp exact s (skip_after s front) back q
    back_shows q c = shown_is cmp exact s (skip_after s front) back (skip_past (skip_after s front) refl) (sorted_back front back sorted) q c

-- ---- steps of a scan

pub each_scan_steps : EachScanSteps
each_scan_steps s view position skip entry rest scan = record {
  stops = λ value t is.
      let next : shown_in s skip (entry ∷ rest) ≡ (entry.key, value) ∷ shown_in s (Some entry.key) rest =
      shown_one s skip entry rest t ∙ ap (λ v. pair_for entry.key v ++ shown_in s (Some entry.key) rest) is in
      let whole : view ≡ scan.shown ++ (entry.key, value) ∷ shown_in s (Some entry.key) rest = scan.parted ∙ ap (λ z. scan.shown ++ z) next in
      let size = ap length whole ∙ length-append scan.shown ((entry.key, value) ∷ shown_in s (Some entry.key) rest) in
      let count = scan.count in (
        ap (slice_get view) (sym scan.count) ∙ ap (λ z. slice_get z (length scan.shown)) whole ∙ at_seam scan.shown (shown_in s (Some entry.key) rest) (entry.key, value),
        position_in view position (omega (arith, size)),
        record {
          shown = scan.shown ++ (entry.key, value) ∷ [];
          parted = whole ∙ sym (append_assoc scan.shown ((entry.key, value) ∷ []) (shown_in s (Some entry.key) rest));
          count = length-append scan.shown ((entry.key, value) ∷ []) ∙ ap (λ n. n + 1) scan.count;
        },
      );
  passes = λ t is. record {
    shown = scan.shown;
    parted = scan.parted ∙ ap (λ z. scan.shown ++ z) (shown_one s skip entry rest t ∙ ap (λ v. pair_for entry.key v ++ shown_in s (Some entry.key) rest) is);
    count = scan.count;
  };
  skips = λ t. record { shown = scan.shown; parted = scan.parted ∙ ap (λ z. scan.shown ++ z) (shown_not s skip entry rest t); count = scan.count };
}

pub each_scan_ends : EachScanEnds
each_scan_ends s view position skip scan =
    let size = ap length (scan.parted ∙ append-nil scan.shown) in
    let count = scan.count in
    position_out view position (omega (arith, size))

pub each_scan_starts : EachScanStarts
each_scan_starts s entries = record { shown = []; parted = refl; count = refl }

-- ---- seeks

module _ (cmp : List ℕ → List ℕ → Ordering) (exact : IsExactOrder cmp) (key : List ℕ) (s : ℕ) (front back : List Entry) (sorted : AreSorted cmp (front ++ back))
    (fronts : (entry : Entry) → Contains front entry → IsBeforeKeyAt cmp key s entry)
    (backs : (entry : Entry) → Contains back entry → cmp entry.key key ≢ Less) where
  front_less : (o : Entry) → Contains front o → o.sequence ≤ s → is_lt (cmp o.key key) ≡ true
  front_less o c low = ⊎_elim (λ (l : cmp o.key key ≡ Less). ap is_lt l) (λ (h : (o.key ≡ key) × (s < o.sequence)). let past = h.1 in absurd (omega arith)) (fronts o c)

  back_unskipped : (x : Entry) → Contains back x → (m : Option (List ℕ)) → skip_after s front ≡ m → is_skipped m x.key ≡ false
  back_unskipped x c None e = refl
  back_unskipped x c (Some d) e = is_false (bytes_eq d x.key) (λ f.
      let o = skip_within s front d e in
      both (is_lt (cmp x.key key)) (ap (λ k. is_lt (cmp k key)) (sym (same_bytes d x.key f) ∙ sym o.2) ∙ front_less o.0 o.1 o.3) (not_less (cmp x.key key) (backs x c)))

  sought : count_shown s front ≡ count_before cmp key (view_of s (front ++ back))
  sought =
      let all : (q : Pair) → Contains (view_of s front) q → is_lt (cmp q.0 key) ≡ true = λ q c.
      let from = shown_is cmp exact s None front tt (sorted_front cmp exact front back sorted) q c in
      ap (λ k. is_lt (cmp k key)) (sym from.key_is) ∙ front_less from.entry from.newest.there from.newest.seen in
      let none : count_while (λ k. is_lt (cmp k key)) (shown_in s (skip_after s front) back) ≡ 0 = count_none (λ k. is_lt (cmp k key)) (shown_in s (skip_after s front) back) (λ q c.
      let from = back_shows cmp exact s front back sorted q c in
      ap (λ k. is_lt (cmp k key)) (sym from.key_is) ∙ not_less (cmp from.entry.key key) (backs from.entry from.newest.there)) in
      let whole = count_over (λ k. is_lt (cmp k key)) (view_of s front) (shown_in s (skip_after s front) back) all in
      let parts = ap (count_before cmp key) (shown_append s None front back) in
      omega (arith, none, whole, parts)

-- a key to skip that no entry has changes nothing
unskipped_shown : (s : ℕ) (skip : Option (List ℕ)) (es : List Entry) → ((x : Entry) → Contains es x → is_skipped skip x.key ≡ false) → shown_in s skip es ≡ shown_in s None es
unskipped_shown s skip [] unskipped = refl
unskipped_shown s skip (e ∷ es) unskipped =
    let same : is_newest s skip e ≡ is_newest s None e = ap (λ b. nat_le e.sequence s && not b) (unskipped e (in_front e es)) in
    let rest = unskipped_shown s skip es (λ x c. unskipped x (in_rest e x es c)) in
    ap (λ b. if b then pair_for e.key e.value ++ shown_in s (Some e.key) es else shown_in s skip es) same
    ∙ ap (λ z. if is_newest s None e then pair_for e.key e.value ++ shown_in s (Some e.key) es else z) rest

pub each_scan_seeks : EachScanSeeks
each_scan_seeks cmp exact key s front back sorted fronts backs =
    let unskipped : (x : Entry) → Contains back x → is_skipped (skip_after s front) x.key ≡ false = λ x c.
    back_unskipped cmp exact key s front back sorted fronts backs x c (skip_after s front) refl in
    record {
      shown = view_of s front;
      parted = shown_append s None front back ∙ ap (λ z. view_of s front ++ z) (unskipped_shown s (skip_after s front) back unskipped);
      count = sought cmp exact key s front back sorted fronts backs;
    }

pub each_seek_of_pairs : EachSeekOfPairs
each_seek_of_pairs cmp exact pairs rising key s kind small =
    let n = count_before (internal_cmp cmp) (internal_key key s kind) pairs in
    let front = entries_of_pairs (take n pairs) in
    let back = entries_of_pairs (drop n pairs) in
    let whole : front ++ back ≡ entries_of_pairs pairs = sym (entries_append (take n pairs) (drop n pairs)) ∙ ap entries_of_pairs (take-append-drop n pairs) in
    subst (λ all. IsScanning s (view_of s all) (count_before cmp key (view_of s all)) None back) whole
    (each_scan_seeks cmp exact key s front back (subst (AreSorted cmp) (sym whole) (rising_is_sorted cmp exact pairs rising))
    (before_seek cmp exact pairs rising key s kind small) (from_seek cmp exact pairs rising key s kind small))

-- ---- a scan forward after one backward

module _ (cmp : List ℕ → List ℕ → Ordering) (exact : IsExactOrder cmp) (s : ℕ) (front back : List Entry) (pair : Pair) (more : List Pair) (sorted : AreSorted cmp (front ++ back))
    (e : view_of s (front ++ back) ≡ view_of s front ++ pair ∷ more) (after : (entry : Entry) → Contains back entry → entry.sequence ≤ s → cmp entry.key pair.0 ≢ Less) where
  back_sorted : AreSorted cmp back
  back_sorted = sorted_back cmp exact front back sorted

  rest_is : shown_in s (skip_after s front) back ≡ pair ∷ more
  rest_is = append_cancel_left (view_of s front) (shown_in s (skip_after s front) back) (pair ∷ more) (sym (shown_append s None front back) ∙ e)

  pair_past : IsPast cmp exact s (Some pair.0) back
  pair_past x c low = not_less (cmp x.key pair.0) (after x c low)

  back_past : IsPast cmp exact s (skip_after s front) back
  back_past = skip_past cmp exact s front back sorted (skip_after s front) refl

  pair_from : IsShownFrom cmp exact s (skip_after s front) back pair
  pair_from = back_shows cmp exact s front back sorted pair (subst (λ z. Contains z pair) (sym rest_is) (in_front pair more))

  more_rising : AreRising cmp (pair ∷ more)
  more_rising = subst (AreRising cmp) rest_is (rises cmp exact s (skip_after s front) back back_past back_sorted)

  -- what follows the pair's key isn't of the key to skip after `front`
  unskipped : (q : Pair) → IsShownFrom cmp exact s (Some pair.0) back q → (m : Option (List ℕ)) → IsPast cmp exact s m back → IsShownFrom cmp exact s m back pair → is_skipped m q.0 ≡ false
  unskipped q from None past fp = refl
  unskipped q from (Some d) past fp = is_false (bytes_eq d q.0) (λ t.
      let low : is_lt (cmp pair.0 d) ≡ false = ap (λ k. is_lt (cmp k d)) (sym fp.key_is) ∙ past fp.entry fp.newest.there fp.newest.seen in
      let high : is_lt (cmp q.0 pair.0) ≡ false = ap (λ k. is_lt (cmp k pair.0)) (sym from.key_is) ∙ pair_past from.entry from.newest.there from.newest.seen in
      let same = same_bytes d q.0 t in
      let is = exact.exact pair.0 q.0 (tied (exact_total exact) pair.0 q.0 (ap (λ k. is_lt (cmp pair.0 k)) (sym same) ∙ low) high) in
      both (bytes_eq pair.0 q.0) (bytes_same pair.0 q.0 is) from.unskipped)

  left : shown_in s (Some pair.0) back ≡ more
  left = one_list cmp (exact_total exact) (shown_in s (Some pair.0) back) more (rises cmp exact s (Some pair.0) back pair_past back_sorted) more_rising.1 to from
    where
      to : (q : Pair) → Contains (shown_in s (Some pair.0) back) q → Contains more q
      to q c =
          let it = shown_is cmp exact s (Some pair.0) back pair_past back_sorted q c in
          let there : Contains (shown_in s (skip_after s front) back) q =
          subst (λ k. Contains (shown_in s (skip_after s front) back) (k, q.1)) it.key_is
          (is_shown cmp exact s (skip_after s front) back back_sorted it.entry q.1 it.newest it.value_is (ap (is_skipped (skip_after s front)) it.key_is ∙ unskipped q it (skip_after s front) back_past pair_from)) in
          ⊎_elim
          (λ (f : pair ≡ q). both (bytes_eq pair.0 q.0) (bytes_same pair.0 q.0 (ap (λ (x : Pair). x.0) f)) it.unskipped)
          (λ (d : Contains more q). d)
          (in_cases pair q more (subst (λ z. Contains z q) rest_is there))

      from : (q : Pair) → Contains more q → Contains (shown_in s (Some pair.0) back) q
      from q c =
          let it = back_shows cmp exact s front back sorted q (subst (λ z. Contains z q) (sym rest_is) (in_rest pair q more c)) in
          let less = each_after cmp pair.0 more q more_rising.0 c in
          let apart : bytes_eq pair.0 q.0 ≡ false = is_false (bytes_eq pair.0 q.0) (λ t.
          let same = same_bytes pair.0 q.0 t in
          both (is_lt (cmp pair.0 pair.0)) (ap (λ k. is_lt (cmp pair.0 k)) same ∙ less) (lt_itself (exact_total exact) pair.0)) in
          subst (λ k. Contains (shown_in s (Some pair.0) back) (k, q.1)) it.key_is
          (is_shown cmp exact s (Some pair.0) back back_sorted it.entry q.1 it.newest it.value_is (ap (bytes_eq pair.0) it.key_is ∙ apart))

pub each_scan_resumes : EachScanResumes
each_scan_resumes cmp exact s front back pair more sorted e after = record {
  shown = view_of s front ++ pair ∷ [];
  parted = e ∙ sym (append_assoc (view_of s front) (pair ∷ []) more) ∙ ap (λ z. (view_of s front ++ pair ∷ []) ++ z) (sym (left cmp exact s front back pair more sorted e after));
  count = length-append (view_of s front) (pair ∷ []);
}
