-- Lists whose keys rise strictly: where a key stands among them, and how one comes to them.
use Rattle.std.proofs.Common.{◌≡◌, ◌≢◌, ℕ, zero, suc, ◌-◌, ◌<◌, ◌≤◌, Bool, true, false, List, [], ◌∷◌, ◌++◌, length, take, drop, get_or, refl, sym, ◌∙◌, ap, subst, arith, ◌⊎◌, ⊎_elim}
use Rattle.std.specs.List.{insert}
use Rattle.std.proofs.lemmas.Bool.{cases_order, cases_lt}
use Rattle.std.proofs.lemmas.List.{take-append-drop, take_at, drop_at}
use Rattle.std.proofs.lemmas.List.Elements.{All-get_or, All-append, All-cons, All-take, All-drop, Contains-get_or, at_from_Contains}
use Rattle.std.specs.Ordering.{is_lt, is_eq, ordering_reverse}
use Rattle.std.specs.declared.cmp.Ordering.{Ordering}
use Rattle.std.specs.declared.cmp.Ordering.TheVariants.{Less, Equal, Greater}
use Rattle.leveldb_base.specs.Cmp.{IsPreorderOn}
use Rattle.leveldb_base.specs.Types.{Pair, count_before}
use Rattle.leveldb_base.specs.History.{IsBeforeAll, AreRising}
use Rattle.leveldb_mem.specs.Searching.{key_at, count_while, IsParted}
use Rattle.leveldb_mem.specs.SkipMap.{IsSorted, IsGap, InsertsPair, HasKey}
use Rattle.leveldb_mem.proofs.Halving.{count-le, before_count, at_count, count_before-is}

-- the keys before the place are before this one, and it is before the others
pub record FitsAt (cmp : List ℕ → List ℕ → Ordering) (pairs : List Pair) (at : ℕ) (key : List ℕ) : Type 0 where
  pub within : at ≤ length pairs
  pub after : (i : ℕ) → i < at → cmp (key_at pairs i) key ≡ Less
  pub before : (i : ℕ) → at ≤ i → i < length pairs → cmp key (key_at pairs i) ≡ Less

pub is_less : (r : Ordering) → is_lt r ≡ true → r ≡ Less
is_less Less e = refl
is_less Equal e = cc
is_less Greater e = cc

pub not_less : (r : Ordering) → is_lt r ≡ false → r ≢ Less
not_less Less e h = cc
not_less Equal e h = cc
not_less Greater e h = cc

greater : (r : Ordering) → r ≢ Less → r ≢ Equal → ordering_reverse r ≡ Less
greater Less h k = absurd (h refl)
greater Equal h k = absurd (k refl)
greater Greater h k = refl

module _ (cmp : List ℕ → List ℕ → Ordering) where
  -- a key before all of these is before each
  before_at : (key : List ℕ) (pairs : List Pair) → IsBeforeAll cmp key pairs → (i : ℕ) → i < length pairs → cmp key (key_at pairs i) ≡ Less
  before_at key [] all i h = absurd (omega (arith, h))
  before_at key (pair ∷ pairs) all zero h = all.0
  before_at key (pair ∷ pairs) all (suc i) h = before_at key pairs all.1 i (omega arith)

  before_from : (key : List ℕ) (pairs : List Pair) → ((i : ℕ) → i < length pairs → cmp key (key_at pairs i) ≡ Less) → IsBeforeAll cmp key pairs
  before_from key [] each = tt
  before_from key (pair ∷ pairs) each = (each 0 (omega arith), before_from key pairs (λ i h. each (suc i) (omega arith)))

  -- each key is before those after it
  pub rising_at : (pairs : List Pair) → AreRising cmp pairs → (i j : ℕ) → i < j → j < length pairs → cmp (key_at pairs i) (key_at pairs j) ≡ Less
  rising_at [] rising i j p q = absurd (omega (arith, q))
  rising_at (pair ∷ pairs) rising i zero p q = absurd (omega (arith, p))
  rising_at (pair ∷ pairs) rising zero (suc j) p q = before_at pair.0 pairs rising.0 j (omega arith)
  rising_at (pair ∷ pairs) rising (suc i) (suc j) p q = rising_at pairs rising.1 i j (omega arith) (omega arith)

  before_all-insert : (key : List ℕ) (pairs : List Pair) (at : ℕ) (pair : Pair) → IsBeforeAll cmp key pairs → cmp key pair.0 ≡ Less → IsBeforeAll cmp key (insert pairs at pair)
  before_all-insert key [] zero pair all h = (h, tt)
  before_all-insert key [] (suc at) pair all h = (h, tt)
  before_all-insert key (first ∷ pairs) zero pair all h = (h, all)
  before_all-insert key (first ∷ pairs) (suc at) pair all h = (all.0, before_all-insert key pairs at pair all.1 h)

  -- a pair that comes where its key fits keeps the keys rising
  pub rising-insert : (pairs : List Pair) (at : ℕ) (pair : Pair) → AreRising cmp pairs → FitsAt cmp pairs at pair.0 → AreRising cmp (insert pairs at pair)
  rising-insert [] zero pair rising fits = (tt, tt)
  rising-insert [] (suc at) pair rising fits = (tt, tt)
  rising-insert (first ∷ pairs) zero pair rising fits = (before_from pair.0 (first ∷ pairs) (λ i h. fits.before i (omega arith) h), rising)
  rising-insert (first ∷ pairs) (suc at) pair rising fits = (
    before_all-insert first.0 pairs at pair rising.0 (fits.after 0 (omega arith)),
    rising-insert pairs at pair rising.1 record {
      within = omega (arith, fits.within);
      after = λ i h. fits.after (suc i) (omega arith);
      before = λ i h k. fits.before (suc i) (omega arith) (omega arith);
    },
  )

-- a pair that was put at a place has come between the others
pub inserts_at : (pairs new : List Pair) (at : ℕ) (pair : Pair) → new ≡ insert pairs at pair → InsertsPair pairs pair new
inserts_at pairs new at pair e = record { front = take at pairs; back = drop at pairs; before = sym (take-append-drop at pairs); after = e }

module _ {accepts : List ℕ → Bool} {cmp : List ℕ → List ℕ → Ordering} (o : IsPreorderOn accepts cmp) {pairs : List Pair} (sorted : IsSorted accepts cmp pairs) where
  accepted_at : (i : ℕ) → i < length pairs → accepts (key_at pairs i) ≡ true
  accepted_at i h = All-get_or (λ (pair : Pair). accepts pair.0 ≡ true) pairs i ([], []) h sorted.accepted

  -- the keys before an accepted key are all at the front
  pub parted_by_order : (key : List ℕ) → accepts key ≡ true → IsParted (λ k. is_lt (cmp k key)) pairs
  parted_by_order key ok i j p q h =
      ⊎_elim
      (λ (e : i ≡ j). subst (λ n. is_lt (cmp (key_at pairs n) key) ≡ true) (sym e) h)
      (λ (w : (i < j) ⊎ (j < i)).
      ⊎_elim
      (λ (lt : i < j). ap is_lt (o.less (key_at pairs i) (key_at pairs j) key (accepted_at i (omega arith)) (accepted_at j q) ok (rising_at cmp pairs sorted.rising i j lt q) (is_less (cmp (key_at pairs j) key) h)))
      (λ (gt : j < i). absurd (omega arith)) w)
      (cases_order i j)

  -- where a key is neither after the key at an index nor Equal to it, and after all those before,
  -- it fits there
  pub fits_at : (key : List ℕ) → accepts key ≡ true → (at : ℕ) → at ≤ length pairs → ((i : ℕ) → i < at → cmp (key_at pairs i) key ≡ Less)
      → (at < length pairs → cmp (key_at pairs at) key ≢ Less) → (at < length pairs → cmp (key_at pairs at) key ≢ Equal) → FitsAt cmp pairs at key
  fits_at key ok at within after here other = record {
    within = within;
    after = after;
    before = λ i p q.
        let at_in : at < length pairs = omega arith in
        let first : cmp key (key_at pairs at) ≡ Less = o.turned key (key_at pairs at) ok (accepted_at at at_in) ∙ greater (cmp (key_at pairs at) key) (here at_in) (other at_in) in
        ⊎_elim
        (λ (e : i ≡ at). subst (λ n. cmp key (key_at pairs n) ≡ Less) (sym e) first)
        (λ (w : (i < at) ⊎ (at < i)).
        ⊎_elim
        (λ (lt : i < at). absurd (omega arith))
        (λ (gt : at < i). o.less key (key_at pairs at) (key_at pairs i) ok (accepted_at at at_in) (accepted_at i q) first (rising_at cmp pairs sorted.rising at i gt q)) w)
        (cases_order i at);
  }

  pub sorted-insert : (at : ℕ) (pair : Pair) → accepts pair.0 ≡ true → FitsAt cmp pairs at pair.0 → IsSorted accepts cmp (insert pairs at pair)
  sorted-insert at pair ok fits =
      let Accepted = λ (p : Pair). accepts p.0 ≡ true in
      record {
        rising = rising-insert cmp pairs at pair sorted.rising fits;
        accepted = All-append Accepted (take at pairs) (pair ∷ drop at pairs) (All-take Accepted at pairs sorted.accepted)
            (All-cons Accepted pair (drop at pairs) ok (All-drop Accepted at pairs sorted.accepted));
      }

  -- what fits is Equal to none of the keys
  pub fits_alone : (key : List ℕ) → accepts key ≡ true → (at : ℕ) → FitsAt cmp pairs at key → HasKey cmp pairs key → ⊥
  fits_alone key ok at fits has =
      let place = at_from_Contains pairs has.0 has.1 in
      let i = place.0 in
      let same : key_at pairs i ≡ (has.0).0 = ap (λ (p : Pair). p.0) (place.2 ([], [])) in
      let equal : cmp (key_at pairs i) key ≡ Equal = ap (λ k. cmp k key) same ∙ has.2 in
      ⊎_elim
      (λ (lt : i < at). let less = fits.after i lt in cc)
      (λ (ge : at ≤ i).
      let turned = o.turned (key_at pairs i) key (accepted_at i place.1) ok in
      let less = fits.before i ge place.1 in
      let greater' : ordering_reverse (cmp key (key_at pairs i)) ≡ Greater = ap ordering_reverse less in
      cc)
      (cases_lt i at)

  -- where an accepted key fits is a gap
  fits_gap : (key : List ℕ) → accepts key ≡ true → (at : ℕ) → FitsAt cmp pairs at key → IsGap accepts cmp pairs key at
  fits_gap key ok at fits = record {
    within = fits.within;
    sorted = λ value. sorted-insert at (key, value) ok fits;
    alone = fits_alone key ok at fits;
  }

  -- after the last key is a gap, where that is before this one
  pub gap_after : (key : List ℕ) → accepts key ≡ true → (end : ℕ) → end ≡ length pairs → 0 < length pairs → cmp (key_at pairs (length pairs - 1)) key ≡ Less
      → IsGap accepts cmp pairs key end
  gap_after key ok end whole some last =
      let after : (i : ℕ) → i < end → cmp (key_at pairs i) key ≡ Less =
      λ i h. is_less (cmp (key_at pairs i) key) (parted_by_order key ok i (length pairs - 1) (omega (arith, h, whole)) (omega (arith, some)) (ap is_lt last)) in
      fits_gap key ok end (fits_at key ok end (omega (arith, whole)) after (λ h. absurd (omega (arith, h, whole))) (λ h. absurd (omega (arith, h, whole))))

  -- the count of keys before an accepted key is a gap, where the key there isn't Equal
  pub gap_at : (key : List ℕ) → accepts key ≡ true → (at : ℕ) → at ≡ count_before cmp key pairs → (at < length pairs → cmp (key_at pairs at) key ≢ Equal)
      → IsGap accepts cmp pairs key at
  gap_at key ok at count other =
      let test = λ (k : List ℕ). is_lt (cmp k key) in
      let whole : at ≡ count_while test pairs = count ∙ sym (count_before-is cmp key pairs) in
      let within : at ≤ length pairs = omega (arith, whole, count-le test pairs) in
      let here : at < length pairs → cmp (key_at pairs at) key ≢ Less = λ h. not_less (cmp (key_at pairs at) key) (ap (λ n. test (key_at pairs n)) whole ∙ at_count test pairs (omega (arith, whole, h))) in
      fits_gap key ok at (fits_at key ok at within (λ i h. is_less (cmp (key_at pairs i) key) (before_count test pairs i (omega (arith, whole, h)))) here other)

-- a pair there whose key is Equal
pub key_there : (cmp : List ℕ → List ℕ → Ordering) (pairs : List Pair) (key : List ℕ) (at : ℕ) → at < length pairs → cmp (key_at pairs at) key ≡ Equal → HasKey cmp pairs key
key_there cmp pairs key at h e = (get_or pairs at ([], []), Contains-get_or pairs at ([], []) h, e)

pub is_equal : (r : Ordering) → is_eq r ≡ true → r ≡ Equal
is_equal Less e = cc
is_equal Equal e = refl
is_equal Greater e = cc

pub not_equal : (r : Ordering) → is_eq r ≡ false → r ≢ Equal
not_equal Less e h = cc
not_equal Equal e h = cc
not_equal Greater e h = cc

-- bytes that became a pair at an index
pub placed_at : (pairs pairs' new : List Pair) (tail key value : List ℕ) (at n : ℕ) → pairs' ≡ pairs → tail ≡ key ++ value → n ≡ length key
    → new ≡ insert pairs' at (take n tail, drop n tail) → new ≡ insert pairs at (key, value)
placed_at pairs pairs' new tail key value at n same whole size e =
    let front : take n tail ≡ key = ap (take n) whole ∙ take_at key value n (sym size) in
    let back : drop n tail ≡ value = ap (drop n) whole ∙ drop_at key value n (sym size) in
    e ∙ ap (λ ps. insert ps at (take n tail, drop n tail)) same ∙ ap (λ k. insert pairs at (k, drop n tail)) front ∙ ap (λ v. insert pairs at (key, v)) back
