-- Entries that a compaction drops: what the others show, and which they are.
use Rattle.std.proofs.Common.{◌≡◌, ◌⊎◌, inl, inr, ⊎_elim, ℕ, ◌<◌, ◌≤◌, Bool, true, false, ◌&&◌, ◌||◌, not, List, [], ◌∷◌, ◌++◌, refl, sym, ◌∙◌, ap, subst, arith, Option, Some, None}
use Rattle.std.specs.Prelude.{Contains, cond, nat_le, nat_lt, is_none}
use Rattle.std.specs.List.{filter, list_any}
use Rattle.std.specs.Str.{bytes_eq}
use Rattle.std.proofs.lemmas.Bool.{leb-true, leb-false, le-leb, lt-ltb, ltb-true, and_parts, and_from}
use Rattle.std.proofs.lemmas.List.Elements.{Contains-append_cases, Contains-append_left, Contains-append_right}
use Rattle.std.specs.declared.cmp.Ordering.{Ordering}
use Rattle.leveldb_base.specs.Cmp.{IsExactOrder}
use Rattle.leveldb_base.specs.Entries.{AreSorted, IsBeforeEntry}
use Rattle.leveldb_base.specs.History.{AreUpTo, Entry, HasValueAt, IsNewest, greatest}
use Rattle.leveldb_base.specs.Thinning.{DropsAll, EntryBeforeTells, IsOldDeletion, IsShadowed, IsSpent, OneSetIsLeft, ThinnedDropsAll, ThinningKeepsViews, Thins, goes, goes_after, is_last_deletion, shadows, thinned}
use Rattle.leveldb_base.proofs.EntriesLemmas.{newer_before, key_between}
use Rattle.leveldb_base.proofs.HistoryLemmas.{in_none, in_front, in_rest, in_cases}
use Rattle.leveldb_base.proofs.OrderLemmas.{both, bytes_same, same_bytes}
use Rattle.leveldb_base.proofs.ScanLemmas.{sorted_across, sorted_back, sorted_front}

-- ---- tests of elements

-- where a test finds an element, it passes
pub found_by : {A : Type 0} (test : A → Bool) (xs : List A) → list_any test xs ≡ true
    → (x : A) × Contains xs x × (test x ≡ true)
found_by test [] e = cc
found_by test (y ∷ xs) e = by (test y) refl (found_by test xs) e
  where
    by : (b : Bool) → test y ≡ b
        → (list_any test xs ≡ true → (x : _) × Contains xs x × (test x ≡ true))
        → (b || list_any test xs) ≡ true → (x : _) × Contains (y ∷ xs) x × (test x ≡ true)
    by true is more f = (y, in_front y xs, is)
    by false is more f = let rest = more f in (rest.0, in_rest y rest.0 xs rest.1, rest.2)

-- and one that passes is found
pub finds_it : {A : Type 0} (test : A → Bool) (xs : List A) (x : A) → Contains xs x
    → test x ≡ true → list_any test xs ≡ true
finds_it test [] x c e = absurd (in_none x c)
finds_it test (y ∷ xs) x c e = by (finds_it test xs x) (test y) refl (in_cases y x xs c)
  where
    by : (Contains xs x → test x ≡ true → list_any test xs ≡ true) → (b : Bool) → test y ≡ b
        → (y ≡ x) ⊎ Contains xs x → (b || list_any test xs) ≡ true
    by more true is at = refl
    by more false is (inl same) = both (test x) e (ap test (sym same) ∙ is)
    by more false is (inr rest) = more rest e

-- what a filter leaves was there and passes
pub of_filter : {A : Type 0} (test : A → Bool) (xs : List A) (x : A)
    → Contains (filter test xs) x → Contains xs x × (test x ≡ true)
of_filter test [] x c = absurd (in_none x c)
of_filter test (y ∷ xs) x c = by (test y) refl (of_filter test xs x) c
  where
    by : (b : Bool) → test y ≡ b
        → (Contains (filter test xs) x → Contains xs x × (test x ≡ true))
        → Contains (cond b (y ∷ filter test xs) (filter test xs)) x
        → Contains (y ∷ xs) x × (test x ≡ true)
    by false is more d = let rest = more d in (in_rest y x xs rest.0, rest.1)
    by true is more d = ⊎_elim
        (λ (same : y ≡ x). (
          subst (λ z. Contains (y ∷ xs) z) same (in_front y xs),
          ap test (sym same) ∙ is,
        ))
        (λ (d : Contains (filter test xs) x). let rest = more d in (
          in_rest y x xs rest.0,
          rest.1,
        ))
        (in_cases y x (filter test xs) d)

-- and it leaves what passes
pub in_filter : {A : Type 0} (test : A → Bool) (xs : List A) (x : A) → Contains xs x
    → test x ≡ true → Contains (filter test xs) x
in_filter test [] x c e = absurd (in_none x c)
in_filter test (y ∷ xs) x c e = by (in_filter test xs x) (test y) refl (in_cases y x xs c)
  where
    by : (Contains xs x → test x ≡ true → Contains (filter test xs) x) → (b : Bool)
        → test y ≡ b → (y ≡ x) ⊎ Contains xs x
        → Contains (cond b (y ∷ filter test xs) (filter test xs)) x
    by more true is (inl same) =
        subst (λ z. Contains (y ∷ filter test xs) z) same (in_front y (filter test xs))
    by more true is (inr rest) = in_rest y x (filter test xs) (more rest e)
    by more false is (inl same) = both (test x) e (ap test (sym same) ∙ is)
    by more false is (inr rest) = more rest e

either : (a b : Bool) → (a || b) ≡ true → (a ≡ true) ⊎ (b ≡ true)
either true b e = inl refl
either false b e = inr e

from_left : (a b : Bool) → a ≡ true → (a || b) ≡ true
from_left true b e = refl
from_left false b e = cc

from_right : (a b : Bool) → b ≡ true → (a || b) ≡ true
from_right true b e = refl
from_right false b e = e

not_so : (b : Bool) → not b ≡ true → b ≡ false
not_so true e = cc
not_so false e = refl

so_not : (b : Bool) → b ≡ false → not b ≡ true
so_not true e = cc
so_not false e = refl

-- tests that pass each where the other does are one
same_test : (a b : Bool) → (a ≡ true → b ≡ true) → (b ≡ true → a ≡ true) → a ≡ b
same_test true b to from = sym (to refl)
same_test false true to from = from refl
same_test false false to from = refl

no_value : (value : Option (List ℕ)) → is_none value ≡ true → value ≡ None
no_value None e = refl
no_value (Some value) e = cc

-- ---- a key has a newest entry, or none that is seen

module _ (s : ℕ) (key : List ℕ) where
  -- an entry of the key that a reader at s sees
  abbrev Seen : Entry → Type 0
  Seen entry = (entry.key ≡ key) × (entry.sequence ≤ s)

  seen_or : (entry : Entry) → Seen entry ⊎ (Seen entry → ⊥)
  seen_or entry = by (bytes_eq entry.key key) (nat_le entry.sequence s) refl refl
    where
      by : (a b : Bool) → bytes_eq entry.key key ≡ a → nat_le entry.sequence s ≡ b
          → Seen entry ⊎ (Seen entry → ⊥)
      by true true e f = inl (same_bytes entry.key key e, leb-true entry.sequence s f)
      by true false e f =
          inr (λ h. let past = leb-false entry.sequence s f in let low = h.1 in omega arith)
      by false b e f = inr (λ h. both _ (bytes_same entry.key key h.0) e)

  abbrev Newest : List Entry → Type 0
  Newest entries = (entry : Entry) × Contains entries entry × Seen entry
      × ((other : Entry) → Contains entries other → Seen other → other.sequence ≤ entry.sequence)

  abbrev Unseen : List Entry → Type 0
  Unseen entries = (entry : Entry) → Contains entries entry → Seen entry → ⊥

  -- how great the sequence of an entry is that is this one
  same_number : (a b : Entry) → a ≡ b → a.sequence ≡ b.sequence
  same_number a b e = ap (λ (x : Entry). x.sequence) e

  newest_or : (entries : List Entry) → Newest entries ⊎ Unseen entries
  newest_or [] = inr (λ entry c seen. in_none entry c)
  newest_or (first ∷ rest) = by (newest_or rest) (seen_or first)
    where
      -- the newest of the rest is that of all, where the first isn't above it
      stays : (found : Newest rest) → (Seen first → first.sequence ≤ found.0.sequence)
          → Newest (first ∷ rest)
      stays found low = (
        found.0,
        in_rest first found.0 rest found.1,
        found.2,
        (λ other c seen. ⊎_elim
            (λ (e : first ≡ other).
            let at = same_number first other e in
            let le = low (subst Seen (sym e) seen) in
            omega arith)
            (λ (d : Contains rest other). found.3 other d seen)
            (in_cases first other rest c)),
      )

      -- the first is it, where none of the rest that is seen is above it
      leads : Seen first
          → ((other : Entry) → Contains rest other → Seen other → other.sequence ≤ first.sequence)
          → Newest (first ∷ rest)
      leads is low = (
        first,
        in_front first rest,
        is,
        (λ other c seen. ⊎_elim
            (λ (e : first ≡ other). let at = same_number first other e in omega arith)
            (λ (d : Contains rest other). low other d seen)
            (in_cases first other rest c)),
      )

      by : Newest rest ⊎ Unseen rest → Seen first ⊎ (Seen first → ⊥)
          → Newest (first ∷ rest) ⊎ Unseen (first ∷ rest)
      by (inl found) (inr unseen) = inl (stays found (λ is. absurd (unseen is)))
      by (inr none) (inr unseen) = inr (λ other c seen. ⊎_elim
          (λ (e : first ≡ other). unseen (subst Seen (sym e) seen))
          (λ (d : Contains rest other). none other d seen) (in_cases first other rest c))
      by (inr none) (inl is) = inl (leads is (λ other d seen. absurd (none other d seen)))
      by (inl found) (inl is) = higher (nat_le first.sequence found.0.sequence) refl
        where
          higher : (b : Bool) → nat_le first.sequence found.0.sequence ≡ b
              → Newest (first ∷ rest) ⊎ Unseen (first ∷ rest)
          higher true e =
              inl (stays found (λ seen. leb-true first.sequence found.0.sequence e))
          higher false e = inl (leads is (λ other d seen.
              let most = found.3 other d seen in
              let past = leb-false first.sequence found.0.sequence e in
              omega arith))

-- ---- thinned entries show the same

module _ (smallest t : ℕ) (old new : List Entry) (held : smallest ≤ t)
    (thins : Thins smallest old new) where
  -- what is seen as the newest isn't shadowed
  unshadowed : {A : Type 0} (entry : Entry) → IsNewest old t entry
      → IsShadowed smallest old entry → A
  unshadowed entry newest shadow =
      let low = shadow.held in
      let above = shadow.above in
      let most = newest.newest shadow.newer shadow.there shadow.key_is (omega arith) in
      absurd (omega arith)

  still_shown : (key value : List ℕ) → HasValueAt old t key value → HasValueAt new t key value
  still_shown key value shown = record {
    entry = shown.entry;
    newest = record {
      there = by (thins.kept shown.entry shown.newest.there);
      seen = shown.newest.seen;
      newest = λ other c. shown.newest.newest other (thins.made other c);
    };
    key_is = shown.key_is;
    value_is = shown.value_is;
  }
    where
      by : Contains new shown.entry
          ⊎ (IsShadowed smallest old shown.entry ⊎ IsSpent smallest new shown.entry)
          → Contains new shown.entry
      by (inl c) = c
      by (inr (inl shadow)) = unshadowed shown.entry shown.newest shadow
      by (inr (inr spent)) = let f : None ≡ Some value = sym spent.old.deletion ∙ shown.value_is in cc

  shown_before : (key value : List ℕ) → HasValueAt new t key value → HasValueAt old t key value
  shown_before key value shown = record {
    entry = shown.entry;
    newest = record {
      there = thins.made shown.entry shown.newest.there;
      seen = shown.newest.seen;
      newest = λ other c k seen. most other c k seen (newest_or t shown.entry.key old);
    };
    key_is = shown.key_is;
    value_is = shown.value_is;
  }
    where
      -- the newest of the old entries is the one that is shown, or above no other
      highest : (found : Newest t shown.entry.key old)
          → Contains new found.0
          ⊎ (IsShadowed smallest old found.0 ⊎ IsSpent smallest new found.0)
          → found.0.sequence ≤ shown.entry.sequence
      highest found (inl c) = shown.newest.newest found.0 c found.2.0 found.2.1
      highest found (inr (inl shadow)) = unshadowed found.0
          (record {
            there = found.1;
            seen = found.2.1;
            newest = λ other d k low. found.3 other d (k ∙ found.2.0, low);
          }) shadow
      highest found (inr (inr spent)) =
          by (nat_le found.0.sequence shown.entry.sequence) refl
        where
          by : (b : Bool) → nat_le found.0.sequence shown.entry.sequence ≡ b
              → found.0.sequence ≤ shown.entry.sequence
          by true e = leb-true found.0.sequence shown.entry.sequence e
          by false e = absurd (spent.last shown.entry shown.newest.there (sym found.2.0)
              (leb-false found.0.sequence shown.entry.sequence e))

      most : (other : Entry) → Contains old other → other.key ≡ shown.entry.key
          → other.sequence ≤ t
          → Newest t shown.entry.key old ⊎ Unseen t shown.entry.key old
          → other.sequence ≤ shown.entry.sequence
      most other c k seen (inr none) = absurd (none other c (k, seen))
      most other c k seen (inl found) =
          let low = found.3 other c (k, seen) in
          let high = highest found (thins.kept found.0 found.1) in
          omega arith

-- no entry is above the greatest
pub at_most_greatest : (entries : List Entry) → AreUpTo (greatest entries) entries
at_most_greatest [] entry c = absurd (in_none entry c)
at_most_greatest (first ∷ rest) entry c = ⊎_elim
    (λ (e : first ≡ entry). let at = ap (λ (x : Entry). x.sequence) e in omega arith)
    (λ (d : Contains rest entry). let low = at_most_greatest rest entry d in omega arith)
    (in_cases first entry rest c)

-- What shadows is an old entry, and so is what is spent: so a held number may be taken for smaller
-- where it is above all of them.
pub thins_at : (smallest n : ℕ) (old new : List Entry) → AreUpTo n old → Thins smallest old new
    → Thins n old new
thins_at smallest n old new up thins = record {
  made = thins.made;
  kept = λ entry c. by entry c (thins.kept entry c);
}
  where
    by : (entry : Entry) → Contains old entry
        → Contains new entry ⊎ (IsShadowed smallest old entry ⊎ IsSpent smallest new entry)
        → Contains new entry ⊎ (IsShadowed n old entry ⊎ IsSpent n new entry)
    by entry c (inl there) = inl there
    by entry c (inr (inl shadow)) =
        inr (inl (record {
          newer = shadow.newer;
          there = shadow.there;
          key_is = shadow.key_is;
          above = shadow.above;
          held = up shadow.newer shadow.there;
        }))
    by entry c (inr (inr spent)) =
        inr (inr (record {
          old = record { deletion = spent.old.deletion; held = up entry c };
          last = spent.last;
        }))

pub thinning_keeps_views : ThinningKeepsViews
thinning_keeps_views smallest t old new (inl held) thins = λ key value. (
  still_shown smallest t old new held thins key value,
  shown_before smallest t old new held thins key value,
)
thinning_keeps_views smallest t old new (inr late) thins =
    let at = thins_at smallest t old new
    (λ entry c. let low = at_most_greatest old entry c in omega (arith, low, late)) thins in
    λ key value. (
      still_shown t t old new (omega arith) at key value,
      shown_before t t old new (omega arith) at key value,
    )

-- ---- the tests and what they tell

module _ (smallest : ℕ) where
  shadowing : (newer entry : Entry) → shadows smallest newer entry ≡ true
      → (newer.key ≡ entry.key) × (entry.sequence < newer.sequence) × (newer.sequence ≤ smallest)
  shadowing newer entry e =
      let parts = and_parts (bytes_eq newer.key entry.key)
      (nat_lt entry.sequence newer.sequence && nat_le newer.sequence smallest) e in
      let numbers = and_parts (nat_lt entry.sequence newer.sequence)
      (nat_le newer.sequence smallest) parts.1 in (
        same_bytes newer.key entry.key parts.0,
        ltb-true entry.sequence newer.sequence numbers.0,
        leb-true newer.sequence smallest numbers.1,
      )

  shadow_found : (entries : List Entry) (entry : Entry)
      → list_any (λ newer. shadows smallest newer entry) entries ≡ true
      → IsShadowed smallest entries entry
  shadow_found entries entry e =
      let found = found_by (λ newer. shadows smallest newer entry) entries e in
      let is = shadowing found.0 entry found.2 in
      record { newer = found.0; there = found.1; key_is = is.0; above = is.1; held = is.2 }

  shadow_tested : (entries : List Entry) (entry : Entry) → IsShadowed smallest entries entry
      → list_any (λ newer. shadows smallest newer entry) entries ≡ true
  shadow_tested entries entry shadow =
      finds_it (λ newer. shadows smallest newer entry) entries shadow.newer shadow.there
      (and_from (bytes_eq shadow.newer.key entry.key)
      (nat_lt entry.sequence shadow.newer.sequence && nat_le shadow.newer.sequence smallest)
      (bytes_same shadow.newer.key entry.key shadow.key_is)
      (and_from (nat_lt entry.sequence shadow.newer.sequence)
      (nat_le shadow.newer.sequence smallest)
      (lt-ltb entry.sequence shadow.newer.sequence shadow.above)
      (le-leb shadow.newer.sequence smallest shadow.held)))

  module _ (is_last : List ℕ → Bool) where
    deletion_found : (entry : Entry) → is_last_deletion smallest is_last entry ≡ true
        → IsOldDeletion smallest entry × (is_last entry.key ≡ true)
    deletion_found entry e =
        let parts = and_parts (nat_le entry.sequence smallest)
        (is_none entry.value && is_last entry.key) e in
        let rest = and_parts (is_none entry.value) (is_last entry.key) parts.1 in (
          record {
            deletion = no_value entry.value rest.0;
            held = leb-true entry.sequence smallest parts.0;
          },
          rest.1,
        )

    deletion_tested : (entry : Entry) → IsOldDeletion smallest entry
        → is_last entry.key ≡ true → is_last_deletion smallest is_last entry ≡ true
    deletion_tested entry old last =
        and_from (nat_le entry.sequence smallest) (is_none entry.value && is_last entry.key)
        (le-leb entry.sequence smallest old.held)
        (and_from (is_none entry.value) (is_last entry.key) (ap is_none old.deletion) last)

    -- ---- what goes

    module _ (entries : List Entry) where
      -- what is left was there and doesn't go
      pub left_stays : (entry : Entry) → Contains (thinned smallest is_last entries) entry
          → Contains entries entry × (goes smallest is_last entries entry ≡ false)
      left_stays entry c =
          let parts = of_filter (λ e. not (goes smallest is_last entries e)) entries entry c in
          (parts.0, not_so (goes smallest is_last entries entry) parts.1)

      shadowed_goes : (entry : Entry) → IsShadowed smallest entries entry
          → goes smallest is_last entries entry ≡ true
      shadowed_goes entry shadow = from_left _ _ (shadow_tested entries entry shadow)

      deletion_goes : (entry : Entry) → IsOldDeletion smallest entry → is_last entry.key ≡ true
          → goes smallest is_last entries entry ≡ true
      deletion_goes entry old last = from_right _ _ (deletion_tested entry old last)

      -- older entries of the key of an old deletion are shadowed by it
      spent : (entry : Entry) → Contains entries entry → IsOldDeletion smallest entry
          → IsSpent smallest (thinned smallest is_last entries) entry
      spent entry c old = record {
        old = old;
        last = λ older left key_is less.
            let stays = left_stays older left in
            both (goes smallest is_last entries older)
            (shadowed_goes older (record {
              newer = entry;
              there = c;
              key_is = sym key_is;
              above = less;
              held = old.held;
            })) stays.1;
      }

      why_gone : (entry : Entry) → Contains entries entry
          → goes smallest is_last entries entry ≡ true → IsShadowed smallest entries entry
          ⊎ (IsSpent smallest (thinned smallest is_last entries) entry
          × (is_last entry.key ≡ true))
      why_gone entry c e = ⊎_elim
          (λ (shadow : list_any (λ newer. shadows smallest newer entry) entries ≡ true).
          inl (shadow_found entries entry shadow))
          (λ (deletion : is_last_deletion smallest is_last entry ≡ true).
          let old = deletion_found entry deletion in inr (spent entry c old.0, old.1))
          (either (list_any (λ newer. shadows smallest newer entry) entries)
          (is_last_deletion smallest is_last entry) e)

      kept_or : (entry : Entry) → Contains entries entry
          → Contains (thinned smallest is_last entries) entry ⊎ (IsShadowed smallest entries entry
          ⊎ (IsSpent smallest (thinned smallest is_last entries) entry
          × (is_last entry.key ≡ true)))
      kept_or entry c = by (goes smallest is_last entries entry) refl
        where
          by : (b : Bool) → goes smallest is_last entries entry ≡ b
              → Contains (thinned smallest is_last entries) entry
              ⊎ (IsShadowed smallest entries entry
              ⊎ (IsSpent smallest (thinned smallest is_last entries) entry
              × (is_last entry.key ≡ true)))
          by true e = inr (why_gone entry c e)
          by false e = inl (in_filter (λ x. not (goes smallest is_last entries x)) entries entry c
              (so_not (goes smallest is_last entries entry) e))

pub thinned_drops_all : ThinnedDropsAll
thinned_drops_all smallest is_last entries = record {
  drops = record {
    made = λ entry c. (left_stays smallest is_last entries entry c).0;
    kept = kept_or smallest is_last entries;
  };
  gone = record {
    shadowed = λ entry c shadow. both (goes smallest is_last entries entry)
        (shadowed_goes smallest is_last entries entry shadow)
        (left_stays smallest is_last entries entry c).1;
    deletions = λ entry c old last. both (goes smallest is_last entries entry)
        (deletion_goes smallest is_last entries entry old last)
        (left_stays smallest is_last entries entry c).1;
  };
}

-- ---- one set is left

-- what one list of outputs has, each other one has
pub left_in_each : (smallest : ℕ) (IsLast : List ℕ → Type 0) (inputs these those : List Entry)
    → DropsAll smallest IsLast inputs these → DropsAll smallest IsLast inputs those
    → (entry : Entry) → Contains these entry → Contains those entry
left_in_each smallest IsLast inputs these those first second entry c =
    by (second.drops.kept entry (first.drops.made entry c))
  where
    by : Contains those entry
        ⊎ (IsShadowed smallest inputs entry ⊎ (IsSpent smallest those entry × IsLast entry.key))
        → Contains those entry
    by (inl there) = there
    by (inr (inl shadow)) = absurd (first.gone.shadowed entry c shadow)
    by (inr (inr spent)) = absurd (first.gone.deletions entry c spent.0.old spent.1)

pub one_set_is_left : OneSetIsLeft
one_set_is_left smallest is_last inputs these those first second entry = (
  left_in_each smallest (λ key. is_last key ≡ true) inputs these those first second entry,
  left_in_each smallest (λ key. is_last key ≡ true) inputs those these second first entry,
)

-- ---- sorted entries: the one just before tells

module _ (cmp : List ℕ → List ℕ → Ordering) (exact : IsExactOrder cmp) where
  module _ (smallest : ℕ) (is_last : List ℕ → Bool) where
    -- an entry isn't shadowed by those after it, nor by itself
    not_from_rest : {A : Type 0} (entry newer : Entry) (rest : List Entry)
        → AreSorted cmp (entry ∷ rest) → Contains (entry ∷ rest) newer
        → newer.key ≡ entry.key → entry.sequence < newer.sequence → A
    not_from_rest entry newer rest sorted c key_is above = ⊎_elim
        (λ (same : entry ≡ newer).
        let at = ap (λ (x : Entry). x.sequence) same in absurd (omega arith))
        (λ (d : Contains rest newer).
        let less = newer_before cmp exact entry newer (sorted.0 newer d) (sym key_is) in
        absurd (omega arith))
        (in_cases entry newer rest c)

    first_tells : (entry : Entry) (rest : List Entry) → AreSorted cmp (entry ∷ rest)
        → goes smallest is_last (entry ∷ rest) entry ≡ goes_after smallest is_last None entry
    first_tells entry rest sorted = same_test _ _ to (from_right _ _)
      where
        to : goes smallest is_last (entry ∷ rest) entry ≡ true
            → is_last_deletion smallest is_last entry ≡ true
        to e = ⊎_elim
            (λ (shadow : list_any (λ newer. shadows smallest newer entry) (entry ∷ rest) ≡ true).
            let is = shadow_found smallest (entry ∷ rest) entry shadow in
            not_from_rest entry is.newer rest sorted is.there is.key_is is.above)
            (λ (deletion : is_last_deletion smallest is_last entry ≡ true). deletion)
            (either (list_any (λ newer. shadows smallest newer entry) (entry ∷ rest))
            (is_last_deletion smallest is_last entry) e)

    module _ (front : List Entry) (before entry : Entry) (rest : List Entry)
        (sorted : AreSorted cmp ((front ++ before ∷ []) ++ entry ∷ rest)) where
      abbrev all_of : List Entry
      all_of = (front ++ before ∷ []) ++ entry ∷ rest

      abbrev is_met : Bool
      is_met = bytes_eq before.key entry.key && nat_le before.sequence smallest

      before_there : Contains all_of before
      before_there = Contains-append_left (front ++ before ∷ []) (entry ∷ rest) before
          (Contains-append_right front (before ∷ []) before (in_front before []))

      before_it : IsBeforeEntry cmp before entry
      before_it = sorted_across cmp exact (front ++ before ∷ []) (entry ∷ rest) sorted before entry
          (Contains-append_right front (before ∷ []) before (in_front before []))
          (in_front entry rest)

      met : is_met ≡ true → list_any (λ newer. shadows smallest newer entry) all_of ≡ true
      met e =
          let parts = and_parts (bytes_eq before.key entry.key) (nat_le before.sequence smallest) e in
          let key_is = same_bytes before.key entry.key parts.0 in
          shadow_tested smallest all_of entry (record {
            newer = before;
            there = before_there;
            key_is = key_is;
            above = newer_before cmp exact before entry before_it key_is;
            held = leb-true before.sequence smallest parts.1;
          })

      -- what shadows it is the one before, or before that and newer
      shadowed_by : (newer : Entry) → Contains (front ++ before ∷ []) newer
          → newer.key ≡ entry.key → newer.sequence ≤ smallest → is_met ≡ true
      shadowed_by newer c key_is held = ⊎_elim
          (λ (d : Contains front newer).
          let first = sorted_across cmp exact front (before ∷ [])
          (sorted_front cmp exact (front ++ before ∷ []) (entry ∷ rest) sorted) newer before d
          (in_front before []) in
          let same = key_between cmp exact newer before entry first before_it key_is in
          let less = newer_before cmp exact newer before first (sym same) in
          and_from (bytes_eq before.key entry.key) (nat_le before.sequence smallest)
          (bytes_same before.key entry.key (same ∙ key_is))
          (le-leb before.sequence smallest (omega arith)))
          (λ (d : Contains (before ∷ []) newer). ⊎_elim
          (λ (is : before ≡ newer).
          and_from (bytes_eq before.key entry.key) (nat_le before.sequence smallest)
          (bytes_same before.key entry.key (ap (λ (x : Entry). x.key) is ∙ key_is))
          (le-leb before.sequence smallest
          (subst (λ (x : Entry). x.sequence ≤ smallest) (sym is) held)))
          (λ (none : Contains [] newer). absurd (in_none newer none))
          (in_cases before newer [] d))
          (Contains-append_cases front (before ∷ []) newer c)

      seen_before : IsShadowed smallest all_of entry → is_met ≡ true
      seen_before shadow = ⊎_elim
          (λ (c : Contains (front ++ before ∷ []) shadow.newer).
          shadowed_by shadow.newer c shadow.key_is shadow.held)
          (λ (c : Contains (entry ∷ rest) shadow.newer).
          not_from_rest entry shadow.newer rest
          (sorted_back cmp exact (front ++ before ∷ []) (entry ∷ rest) sorted) c shadow.key_is shadow.above)
          (Contains-append_cases (front ++ before ∷ []) (entry ∷ rest) shadow.newer shadow.there)

      before_tells : goes smallest is_last all_of entry
          ≡ goes_after smallest is_last (Some before) entry
      before_tells = ap (λ b. b || is_last_deletion smallest is_last entry)
          (same_test (list_any (λ newer. shadows smallest newer entry) all_of) is_met
          (λ e. seen_before (shadow_found smallest all_of entry e)) met)

pub entry_before_tells : EntryBeforeTells
entry_before_tells = record { first = first_tells; next = before_tells }
