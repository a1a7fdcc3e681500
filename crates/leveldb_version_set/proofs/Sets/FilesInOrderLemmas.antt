-- Live files that are found by level and number: one is taken out, and one is added.
use Rattle.std.specs.Prelude.{Contains}
use Rattle.std.proofs.Common.{◌≡◌, ◌∙◌, ◌⊎◌, inl, inr, ⊎_elim, ◌==◌, ◌&&◌, ℕ, ◌+◌, ◌<◌, Bool, true, false, cond, not, List, [], ◌∷◌, ◌++◌, map, Option, None, Some, ap, arith, refl, subst, sym}
use Rattle.std.specs.BTreeMap.{get, insert_entry, is_at}
use Rattle.std.specs.Cmp.{both_ways, nat_cmp_is, tied_then, unsigned_ties}
use Rattle.std.specs.List.{AllByRecursion, filter}
use Rattle.std.specs.List.Sorted.{IsStrictlySortedBy}
use Rattle.std.specs.Map.{keys_of, remove_entry, values_of}
use Rattle.std.specs.Ordering.{is_eq, match_ordering, nat_cmp}
use Rattle.std.specs.declared.cmp.Ordering.TheVariants.{Greater, Less}
use Rattle.std.proofs.lemmas.Bool.{eq-eqb, eqb-true}
use Rattle.std.proofs.lemmas.List.Elements.{Contains-push_cases}
use Rattle.leveldb_base.proofs.HistoryLemmas.{in_front, in_rest}
use Rattle.leveldb_base.specs.declared.types.FileMetaData.{FileMetaData}
use Rattle.leveldb_version_set.specs.Sets.FilesInOrder.{ArePlaced, ordered_files}
use Rattle.leveldb_version.specs.Edits.FullEdit.{files_without}
use Rattle.leveldb_files.specs.Edits.Edit.{LevelFile, file_order}
use Rattle.leveldb_version.specs.Edits.VersionEdit.{new_file_of}
use Rattle.leveldb_files.specs.Edits.VersionSet.{is_same_file, level_file}
use Rattle.leveldb_version_set.specs.declared.version_set.files_in_order.FilesInOrder.{FilesInOrder}
use Rattle.leveldb_version.proofs.Edits.FullEditLemmas.{kept_was_there, map-filter}
use Rattle.leveldb_files.proofs.Levels.SummaryLemmas.{map-append}
use Rattle.leveldb_files.proofs.Edits.VersionSetLemmas.{is_same_file-refl}

-- ---- tests

both_true : (p q : Bool) → (p && q) ≡ true → (p ≡ true) × (q ≡ true)
both_true true q e = (refl, e)
both_true false q e = absurd (cc)

-- files of the same level and number
same_place : (a b : LevelFile) → is_same_file a b ≡ true → a ≡ b
same_place a b e =
    let both = both_true (a.0 == b.0) (a.1 == b.1) e in
    let levels = eqb-true a.0 b.0 both.0 in
    let numbers = eqb-true a.1 b.1 both.1 in
    λ i. (levels i, numbers i)

-- a look-up by level and number compares both
looked_up : (at other : LevelFile) → is_at (file_order at) other ≡ is_same_file at other
looked_up at other =
    sym (tied_then (nat_cmp at.0 other.0) (nat_cmp at.1 other.1))
    ∙ (λ i. sym (unsigned_ties at.0 other.0) i && sym (unsigned_ties at.1 other.1) i)

not_true : (b : Bool) → b ≡ false → not b ≡ true
not_true b e = ap not e

true_not : (b : Bool) → not b ≡ true → b ≡ false
true_not true e = absurd (cc)
true_not false e = refl

never_both : (b : Bool) → b ≡ true → b ≡ false → ⊥
never_both b e f = absurd (let both : true ≡ false = sym e ∙ f in cc)

-- ---- filters

module _ {A : Type 0} where
  -- tests that agree on what a list has keep the same of it
  same_kept : (p q : A → Bool) (xs : List A) → ((x : A) → Contains xs x → p x ≡ q x)
      → filter p xs ≡ filter q xs
  same_kept p q [] agree = refl
  same_kept p q (x ∷ xs) agree =
      let rest = same_kept p q xs (λ y c. agree y (in_rest x y xs c)) in
      let here = agree x (in_front x xs) in
      λ i. cond (here i) (x ∷ rest i) (rest i)

  -- a test that all pass keeps all
  all_kept : (p : A → Bool) (xs : List A) → ((x : A) → Contains xs x → p x ≡ true)
      → filter p xs ≡ xs
  all_kept p [] pass = refl
  all_kept p (x ∷ xs) pass =
      let rest = all_kept p xs (λ y c. pass y (in_rest x y xs c)) in
      let here = pass x (in_front x xs) in
      λ i. cond (here i) (x ∷ rest i) (rest i)

-- ---- entries in order

module _ {X : Type 0} where
  -- none of the keys after this one is it
  none_after : (n : ℕ) (entries : List (ℕ × X))
      → AllByRecursion (λ key. nat_cmp n key ≡ Less) (keys_of entries)
      → filter (λ entry. not (is_at (nat_cmp n) entry.0)) entries ≡ entries
  none_after n [] above = refl
  none_after n (entry ∷ entries) above =
      let rest = none_after n entries above.1 in
      let here = above.0 in
      λ i. cond (not (is_eq (here i))) (entry ∷ rest i) (rest i)

  -- without the entry of a key
  removed_kept : (n : ℕ) (entries : List (ℕ × X)) → IsStrictlySortedBy nat_cmp (keys_of entries)
      → remove_entry (is_at (nat_cmp n)) entries
      ≡ filter (λ entry. not (is_at (nat_cmp n) entry.0)) entries
  unfolding IsStrictlySortedBy
  removed_kept n [] sorted = refl
  removed_kept n (entry ∷ entries) sorted =
      by (is_at (nat_cmp n) entry.0) refl (removed_kept n entries sorted.1)
    where
      Kept : List (ℕ × X)
      Kept = filter (λ it. not (is_at (nat_cmp n) it.0)) entries

      by : (here : Bool) → is_at (nat_cmp n) entry.0 ≡ here
          → remove_entry (is_at (nat_cmp n)) entries ≡ Kept
          → cond here entries (entry ∷ remove_entry (is_at (nat_cmp n)) entries)
          ≡ cond (not here) (entry ∷ Kept) Kept
      by true e rest =
          let same : n ≡ entry.0 = eqb-true n entry.0 (unsigned_ties n entry.0 ∙ e) in
          sym (none_after n entries (subst (λ key. AllByRecursion (λ other. nat_cmp key other ≡ Less) (keys_of entries)) (sym same) sorted.0))
      by false e rest = ap (λ them. entry ∷ them) rest

  -- an entry after all others
  put_at_end : (n : ℕ) (x : X) (entries : List (ℕ × X))
      → ((entry : ℕ × X) → Contains entries entry → entry.0 < n)
      → insert_entry nat_cmp entries n x ≡ entries ++ (n, x) ∷ []
  put_at_end n x [] below = refl
  put_at_end n x (entry ∷ entries) below =
      let here : Greater ≡ nat_cmp n entry.0 =
      nat_cmp_is n entry.0 Greater (below entry (in_front entry entries)) in
      let rest = put_at_end n x entries (λ other c. below other (in_rest entry other entries c)) in
      ap (λ o. match_ordering o ((n, x) ∷ entry ∷ entries) ((entry.0, x) ∷ entries)
      (entry ∷ insert_entry nat_cmp entries n x)) (sym here)
      ∙ ap (λ them. entry ∷ them) rest

-- ---- the level and number of an entry

abbrev Entry : Type 0
Entry = ℕ × (ℕ × FileMetaData)

abbrev place_of : Entry → LevelFile
place_of entry = level_file (new_file_of entry.1)

cond_some : (here : Bool) (old : Option ℕ) (n : ℕ) → cond here None old ≡ Some n
    → (here ≡ false) × (old ≡ Some n)
cond_some true old n e = absurd (cc)
cond_some false old n e = (refl, e)

some_same : (a b : ℕ) → Some a ≡ Some b → a ≡ b
some_same a b e = cc

-- the values of entries
pub values_mapped : {K X Y : Type 0} (f : X → Y) (entries : List (K × X))
    → map f (values_of entries) ≡ map (λ entry. f entry.1) entries
values_mapped f [] = refl
values_mapped f (entry ∷ entries) = ap (λ them. f entry.1 ∷ them) (values_mapped f entries)

pub none_is : (found : Option ℕ) → ((n : ℕ) → found ≡ Some n → ⊥) → found ≡ None
none_is None never = refl
none_is (Some n) never = absurd (never n refl)

-- ---- one is taken out

module _ (it new : FilesInOrder) (at : LevelFile) (is : ArePlaced it) where
  -- it isn't there
  module _ (none : get file_order it.places at ≡ None)
      (places : new.places.entries ≡ it.places.entries)
      (files : new.files.entries ≡ it.files.entries) (next : new.next ≡ it.next) where
    others : (entry : Entry) → Contains it.files.entries entry
        → is_same_file (place_of entry) at ≡ false
    others entry c = by (is_same_file (place_of entry) at) refl
      where
        by : (same : Bool) → is_same_file (place_of entry) at ≡ same → same ≡ false
        by true e =
            let there : get file_order it.places at ≡ Some entry.0 = subst
            (λ place. get file_order it.places place ≡ Some entry.0)
            (same_place (place_of entry) at e) (is.placed entry c) in
            absurd (let both : None ≡ Some entry.0 = sym none ∙ there in cc)
        by false e = refl

    pub none_removed : ordered_files new ≡ files_without (ordered_files it) at
    none_removed =
        ap (map (λ entry. new_file_of entry.1)) files
        ∙ ap (map (λ entry. new_file_of entry.1)) (sym (all_kept (λ entry. not (is_same_file (place_of entry) at)) it.files.entries
        (λ entry c. not_true (is_same_file (place_of entry) at) (others entry c))))
        ∙ map-filter (λ entry. new_file_of entry.1) (λ file. not (is_same_file (level_file file) at))
        it.files.entries

  -- it is there
  module _ (n : ℕ) (found : get file_order it.places at ≡ Some n)
      (sorted : IsStrictlySortedBy nat_cmp (keys_of new.files.entries))
      (files : new.files.entries ≡ remove_entry (is_at (nat_cmp n)) it.files.entries)
      (places : (other : LevelFile) → get file_order new.places other
      ≡ cond (is_at (file_order at) other) None (get file_order it.places other))
      (next : new.next ≡ it.next) where
    abbrev keeps : Entry → Bool
    keeps entry = not (is_at (nat_cmp n) entry.0)

    kept : new.files.entries ≡ filter keeps it.files.entries
    kept = files ∙ removed_kept n it.files.entries is.ordered

    agree : (entry : Entry) → Contains it.files.entries entry
        → keeps entry ≡ not (is_same_file (place_of entry) at)
    agree entry c = ap not (both_ways (is_at (nat_cmp n) entry.0) (is_same_file (place_of entry) at)
        (λ e.
        let same : n ≡ entry.0 = eqb-true n entry.0 (unsigned_ties n entry.0 ∙ e) in
        let mine : place_of entry ≡ at = is.own at entry c (found ∙ ap Some same) in
        subst (λ place. is_same_file (place_of entry) place ≡ true) mine
        (is_same_file-refl (place_of entry)))
        (λ e.
        let there : get file_order it.places at ≡ Some entry.0 =
        subst (λ place. get file_order it.places place ≡ Some entry.0)
        (same_place (place_of entry) at e) (is.placed entry c) in
        let same : n ≡ entry.0 = some_same n entry.0 (sym found ∙ there) in
        subst (λ key. is_at (nat_cmp n) key ≡ true) same (sym (unsigned_ties n n) ∙ eq-eqb n n refl)))

    pub one_removed : ordered_files new ≡ files_without (ordered_files it) at
    one_removed =
        ap (map (λ entry. new_file_of entry.1))
        (kept ∙ same_kept keeps (λ entry. not (is_same_file (place_of entry) at)) it.files.entries agree)
        ∙ map-filter (λ entry. new_file_of entry.1) (λ file. not (is_same_file (level_file file) at))
        it.files.entries

    was_there : (entry : Entry) → Contains new.files.entries entry
        → Contains it.files.entries entry × (keeps entry ≡ true)
    was_there entry c = kept_was_there keeps it.files.entries entry
        (subst (λ entries. Contains entries entry) kept c)

    was_found : (other : LevelFile) (place : ℕ) → get file_order new.places other ≡ Some place
        → (is_at (file_order at) other ≡ false) × (get file_order it.places other ≡ Some place)
    was_found other place e = cond_some (is_at (file_order at) other)
        (get file_order it.places other) place (sym (places other) ∙ e)

    still_placed : (entry : Entry) → Contains new.files.entries entry
        → get file_order new.places (place_of entry) ≡ Some entry.0
    still_placed entry c =
        let was = was_there entry c in
        let other : is_same_file (place_of entry) at ≡ false =
        true_not (is_same_file (place_of entry) at) (sym (agree entry was.0) ∙ was.1) in
        places (place_of entry)
        ∙ ap (λ here. cond here None (get file_order it.places (place_of entry)))
        (looked_up at (place_of entry) ∙ turned other)
        ∙ is.placed entry was.0
      where
        turned : is_same_file (place_of entry) at ≡ false → is_same_file at (place_of entry) ≡ false
        turned other = by (is_same_file at (place_of entry)) refl
          where
            by : (same : Bool) → is_same_file at (place_of entry) ≡ same → same ≡ false
            by true e = absurd (never_both (is_same_file (place_of entry) at)
                (subst (λ place. is_same_file place at ≡ true) (same_place at (place_of entry) e)
                (is_same_file-refl at)) other)
            by false e = refl

    pub removed_placed : ArePlaced new
    removed_placed = record {
      ordered = sorted;
      placed = still_placed;
      before = λ other place e. subst (λ end. place < end) (sym next)
          (is.before other place (was_found other place e).1);
      own = λ other entry c e. is.own other entry (was_there entry c).0
          (was_found other entry.0 e).1;
    }

-- ---- one is added

module _ (it new : FilesInOrder) (file : ℕ × FileMetaData) (is : ArePlaced it)
    (none : get file_order it.places (level_file (new_file_of file)) ≡ None)
    (sorted : IsStrictlySortedBy nat_cmp (keys_of new.files.entries))
    (files : new.files.entries ≡ insert_entry nat_cmp it.files.entries it.next file)
    (places : (other : LevelFile) → get file_order new.places other
    ≡ cond (is_at (file_order (level_file (new_file_of file))) other) (Some it.next)
    (get file_order it.places other)) (next : new.next ≡ it.next + 1) where
  abbrev at_file : LevelFile
  at_file = level_file (new_file_of file)

  below : (entry : Entry) → Contains it.files.entries entry → entry.0 < it.next
  below entry c = is.before (place_of entry) entry.0 (is.placed entry c)

  at_end : new.files.entries ≡ it.files.entries ++ (it.next, file) ∷ []
  at_end = files ∙ put_at_end it.next file it.files.entries below

  pub one_added : ordered_files new ≡ ordered_files it ++ new_file_of file ∷ []
  one_added =
      ap (map (λ entry. new_file_of entry.1)) at_end
      ∙ map-append (λ entry. new_file_of entry.1) it.files.entries ((it.next, file) ∷ [])

  either : (entry : Entry) → Contains new.files.entries entry
      → Contains it.files.entries entry ⊎ ((it.next, file) ≡ entry)
  either entry c = Contains-push_cases it.files.entries (it.next, file) entry
      (subst (λ entries. Contains entries entry) at_end c)

  now_placed : (entry : Entry) → Contains new.files.entries entry
      → get file_order new.places (place_of entry) ≡ Some entry.0
  now_placed entry c = places (place_of entry) ∙ ⊎_elim
      (λ (old : Contains it.files.entries entry).
      old_place old (is_at (file_order at_file) (place_of entry)) refl)
      (λ (same : (it.next, file) ≡ entry).
      subst (λ (e : Entry). cond (is_at (file_order at_file) (place_of e)) (Some it.next)
      (get file_order it.places (place_of e)) ≡ Some e.0) same
      (ap (λ here. cond here (Some it.next) (get file_order it.places at_file))
      (looked_up at_file at_file ∙ is_same_file-refl at_file)))
      (either entry c)
    where
      old_place : Contains it.files.entries entry → (here : Bool)
          → is_at (file_order at_file) (place_of entry) ≡ here
          → cond here (Some it.next) (get file_order it.places (place_of entry)) ≡ Some entry.0
      old_place old true e =
          let same : at_file ≡ place_of entry =
          same_place at_file (place_of entry) (sym (looked_up at_file (place_of entry)) ∙ e) in
          let there : get file_order it.places at_file ≡ Some entry.0 =
          subst (λ place. get file_order it.places place ≡ Some entry.0) (sym same)
          (is.placed entry old) in
          absurd (let both : None ≡ Some entry.0 = sym none ∙ there in cc)
      old_place old false e = is.placed entry old

  -- what is found is the new file, or was found before
  now_found : (other : LevelFile) (place : ℕ) → get file_order new.places other ≡ Some place
      → ((at_file ≡ other) × (it.next ≡ place)) ⊎ (get file_order it.places other ≡ Some place)
  now_found other place e = by (is_at (file_order at_file) other) refl (sym (places other) ∙ e)
    where
      by : (here : Bool) → is_at (file_order at_file) other ≡ here
          → cond here (Some it.next) (get file_order it.places other) ≡ Some place
          → ((at_file ≡ other) × (it.next ≡ place)) ⊎ (get file_order it.places other ≡ Some place)
      by true e found = inl (
        same_place at_file other (sym (looked_up at_file other) ∙ e),
        some_same it.next place found,
      )
      by false e found = inr found

  now_own : (other : LevelFile) (entry : Entry) → Contains new.files.entries entry
      → get file_order new.places other ≡ Some entry.0 → place_of entry ≡ other
  now_own other entry c e = ⊎_elim
      (λ (mine : (at_file ≡ other) × (it.next ≡ entry.0)). ⊎_elim
      (λ (old : Contains it.files.entries entry).
      absurd (let less = below entry old in let same = mine.1 in omega (arith, less, same)))
      (λ (same : (it.next, file) ≡ entry).
      ap (λ (one : Entry). place_of one) (sym same) ∙ mine.0)
      (either entry c))
      (λ (was : get file_order it.places other ≡ Some entry.0). ⊎_elim
      (λ (old : Contains it.files.entries entry). is.own other entry old was)
      (λ (same : (it.next, file) ≡ entry).
      absurd (let less = is.before other entry.0 was in let key = ap (λ (one : Entry). one.0) same in omega (arith, less, key)))
      (either entry c))
      (now_found other entry.0 e)

  pub added_placed : ArePlaced new
  added_placed = record {
    ordered = sorted;
    placed = now_placed;
    before = λ other place e. ⊎_elim
        (λ (mine : (at_file ≡ other) × (it.next ≡ place)).
        let same = mine.1 in omega (arith, same, next))
        (λ (was : get file_order it.places other ≡ Some place).
        let less = is.before other place was in omega (arith, less, next))
        (now_found other place e);
    own = now_own;
  }
