-- Scans backward of sorted entries.
use Rattle.std.proofs.Common.{◌≡◌, ◌≢◌, ⊎_elim, ℕ, suc, ◌<◌, ◌≤◌, true, false, List, [], ◌∷◌, ◌++◌, length, refl, sym, ◌∙◌, ap, subst, arith, add-one, Option, Some, None, append_assoc, length-append}
use Rattle.std.specs.Prelude.{Contains, nat_le, slice_get}
use Rattle.std.specs.Option.{option_to_list, option_map}
use Rattle.std.specs.Str.{bytes_eq}
use Rattle.std.proofs.lemmas.Bool.{leb-true, le-leb, and_parts, and_from}
use Rattle.std.proofs.lemmas.List.Elements.{Contains-append_cases}
use Rattle.std.specs.declared.cmp.Ordering.{Ordering}
use Rattle.leveldb_base.specs.Cmp.{IsExactOrder}
use Rattle.leveldb_base.specs.Types.{Pair, previous_position}
use Rattle.leveldb_base.specs.History.{Entry}
use Rattle.leveldb_base.specs.Entries.{AreSorted}
use Rattle.leveldb_base.specs.View.{pair_for, is_skipped, is_newest, shown_in, view_of}
use Rattle.leveldb_base.specs.Scan.{count_shown, shown_pair, EachScanStepsBack, EachPreviousIsLast}
use Rattle.leveldb_base.proofs.OrderLemmas.{both, is_false, exact_total, same_bytes, bytes_same}
use Rattle.leveldb_base.proofs.HistoryLemmas.{in_none, in_front, in_cases, one_list}
use Rattle.leveldb_base.proofs.PositionLemmas.{previous_of_suc, at_seam}
use Rattle.leveldb_base.proofs.EntriesLemmas.{key_le, key_between}
use Rattle.leveldb_base.proofs.ViewLemmas.{IsShownFrom, IsPast, shown_is, is_shown, rises}
use Rattle.leveldb_base.proofs.ScanLemmas.{skip_after, shown_append, shown_one, shown_not, sorted_back, sorted_across, skip_within, skip_past, back_shows}

no_elements : (xs : List Pair) → ((q : Pair) → Contains xs q → ⊥) → xs ≡ []
no_elements [] none = refl
no_elements (x ∷ xs) none = absurd (none x (in_front x xs))

module _ (cmp : List ℕ → List ℕ → Ordering) (exact : IsExactOrder cmp) (s : ℕ) (front : List Entry) (entry : Entry) (over : List Entry) (found : Option Pair)
    (sorted : AreSorted cmp (front ++ entry ∷ over)) (e : view_of s over ≡ option_to_list found) where
  over_sorted : AreSorted cmp over
  over_sorted = (sorted_back cmp exact front (entry ∷ over) sorted).1

  -- what `over` shows after a key to skip, it shows with none
  by_itself : (m : Option (List ℕ)) (q : Pair) → IsShownFrom cmp exact s m over q → Contains (view_of s over) q
  by_itself m q from =
      subst (λ k. Contains (view_of s over) (k, q.1)) from.key_is (is_shown cmp exact s None over over_sorted from.entry q.1 from.newest from.value_is refl)

  the_found : (f : Option Pair) (q : Pair) → Contains (option_to_list f) q → f ≡ Some q
  the_found None q c = absurd (in_none q c)
  the_found (Some p) q c = ⊎_elim (λ (g : p ≡ q). ap (λ x. Some x) g) (λ (d : Contains [] q). absurd (in_none q d)) (in_cases p q [] c)

  list_given : (key : List ℕ) (value : Option (List ℕ)) → pair_for key value ++ [] ≡ option_to_list (option_map (λ v. (key, v)) value)
  list_given key None = refl
  list_given key (Some value) = refl

  first_newest : entry.sequence ≤ s → is_newest s None entry ≡ true
  first_newest low = and_from (nat_le entry.sequence s) true (le-leb entry.sequence s low) refl

  first_unseen : s < entry.sequence → is_newest s None entry ≡ false
  first_unseen past = is_false (is_newest s None entry) (λ t. let low = leb-true entry.sequence s (and_parts (nat_le entry.sequence s) true t).0 in omega arith)

  entry_past : IsPast cmp exact s (Some entry.key) over
  entry_past x c low = key_le cmp exact entry x ((sorted_back cmp exact front (entry ∷ over) sorted).0 x c)

  takes : entry.sequence ≤ s → ((pair : Pair) → found ≡ Some pair → pair.0 ≡ entry.key) → view_of s (entry ∷ over) ≡ option_to_list (shown_pair entry)
  takes low same =
      let none : shown_in s (Some entry.key) over ≡ [] = no_elements (shown_in s (Some entry.key) over) (λ q c.
      let from = shown_is cmp exact s (Some entry.key) over entry_past over_sorted q c in
      let is = same q (the_found found q (subst (λ list. Contains list q) e (by_itself (Some entry.key) q from))) in
      both (bytes_eq entry.key q.0) (bytes_same entry.key q.0 (sym is)) from.unskipped) in
      shown_one s None entry over (first_newest low) ∙ ap (λ z. pair_for entry.key entry.value ++ z) none ∙ list_given entry.key entry.value

  regrouped : front ++ entry ∷ over ≡ (front ++ entry ∷ []) ++ over
  regrouped = sym (append_assoc front (entry ∷ []) over)

  sorted_again : AreSorted cmp ((front ++ entry ∷ []) ++ over)
  sorted_again = subst (AreSorted cmp) regrouped sorted

  stops : (pair : Pair) → entry.sequence ≤ s → found ≡ Some pair → pair.0 ≢ entry.key → view_of s (front ++ entry ∷ over) ≡ view_of s (front ++ entry ∷ []) ++ pair ∷ []
  stops pair low is other =
      ap (view_of s) regrouped ∙ shown_append s None (front ++ entry ∷ []) over
      ∙ ap (λ z. view_of s (front ++ entry ∷ []) ++ z)
      (one_list cmp (exact_total exact) (shown_in s m over) (view_of s over)
      (rises cmp exact s m over (skip_past cmp exact s (front ++ entry ∷ []) over sorted_again m refl) over_sorted) (rises cmp exact s None over tt over_sorted)
      (λ q c. by_itself m q (back_shows cmp exact s (front ++ entry ∷ []) over sorted_again q c)) back
      ∙ e ∙ ap option_to_list is)
    where
      m : Option (List ℕ)
      m = skip_after s (front ++ entry ∷ [])

      unskipped : (q : Pair) → IsShownFrom cmp exact s None over q → q.0 ≡ pair.0 → (n : Option (List ℕ)) → skip_after s (front ++ entry ∷ []) ≡ n → is_skipped n q.0 ≡ false
      unskipped q from k None f = refl
      unskipped q from k (Some d) f = is_false (bytes_eq d q.0) (λ t.
          let o = skip_within s (front ++ entry ∷ []) d f in
          let key : o.0.key ≡ q.0 = o.2 ∙ same_bytes d q.0 t in
          ⊎_elim
          (λ (c : Contains front o.0).
          let one = sorted_across cmp exact front (entry ∷ over) sorted o.0 entry c (in_front entry over) in
          let two = (sorted_back cmp exact front (entry ∷ over) sorted).0 from.entry from.newest.there in
          other (sym k ∙ sym key ∙ sym (key_between cmp exact o.0 entry from.entry one two (key ∙ sym from.key_is))))
          (λ (c : Contains (entry ∷ []) o.0). ⊎_elim
          (λ (g : entry ≡ o.0). other (sym k ∙ sym key ∙ ap (λ (x : Entry). x.key) (sym g)))
          (λ (g : Contains [] o.0). in_none o.0 g)
          (in_cases entry o.0 [] c))
          (Contains-append_cases front (entry ∷ []) o.0 o.1))

      back : (q : Pair) → Contains (view_of s over) q → Contains (shown_in s (skip_after s (front ++ entry ∷ [])) over) q
      back q c =
          let from = shown_is cmp exact s None over tt over_sorted q c in
          let same : found ≡ Some q = the_found found q (subst (λ list. Contains list q) e c) in
          let pairs : pair ≡ q = cc in
          subst (λ k. Contains (shown_in s (skip_after s (front ++ entry ∷ [])) over) (k, q.1)) from.key_is
          (is_shown cmp exact s (skip_after s (front ++ entry ∷ [])) over over_sorted from.entry q.1 from.newest from.value_is
          (ap (is_skipped (skip_after s (front ++ entry ∷ []))) from.key_is ∙ unskipped q from (ap (λ (x : Pair). x.0) (sym pairs)) (skip_after s (front ++ entry ∷ [])) refl))

pub each_scan_steps_back : EachScanStepsBack
each_scan_steps_back cmp exact s front entry over found sorted e = record {
  unseen = λ past. shown_not s None entry over (first_unseen cmp exact s front entry over found sorted e past) ∙ e;
  takes = takes cmp exact s front entry over found sorted e;
  stops = stops cmp exact s front entry over found sorted e;
}

-- ---- the position before

pub each_previous_is_last : EachPreviousIsLast
each_previous_is_last s front back = record {
  pair = λ before pair e.
      let size : count_shown s front ≡ suc (length before) = ap length e ∙ length-append before (pair ∷ []) ∙ add-one (length before) in
      let whole : view_of s (front ++ back) ≡ before ++ pair ∷ shown_in s (skip_after s front) back =
      shown_append s None front back ∙ ap (λ z. z ++ shown_in s (skip_after s front) back) e ∙ append_assoc before (pair ∷ []) (shown_in s (skip_after s front) back) in
      (ap (λ n. previous_position (Some n)) size ∙ previous_of_suc (length before), ap (λ z. slice_get z (length before)) whole ∙ at_seam before (shown_in s (skip_after s front) back) pair);
  none = λ e. ap (λ n. previous_position (Some n)) (ap length e);
}
