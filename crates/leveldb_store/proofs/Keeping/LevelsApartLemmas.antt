-- Levels whose files are apart, and how they stay so.
use Rattle.std.specs.Prelude.{◌≢◌, All, Contains, IsPermutation, IsTrue, filter, fold, map}
use Rattle.std.specs.Cmp.{IsTotalOrder}
use Rattle.std.specs.List.{AllByRecursion, IsDistinct}
use Rattle.std.specs.Ordering.{nat_cmp, ordering_reverse, ordering_then}
use Rattle.std.specs.declared.cmp.Ordering.{Ordering}
use Rattle.std.specs.declared.cmp.Ordering.TheVariants.{Equal, Greater, Less}
use Rattle.std.proofs.Common.{◌≡◌, ◌∙◌, ◌⊎◌, ◌==◌, ◌++◌, ◌∷◌, ◌<◌, inl, inr, ⊎_elim, ℕ, Bool, true, false, cond, not, List, [], ap, arith, refl, subst, sym}
use Rattle.std.proofs.lemmas.Bool.{eqb-true}
use Rattle.std.proofs.lemmas.List.Elements.{All-contains, All-head, All-tail, Contains-append_left, Contains-push, Contains-push_cases}
use Rattle.std.proofs.lemmas.List.Sorted.{Contains-permutation, IsPermutation-sym}
use Rattle.leveldb_base.proofs.HistoryLemmas.{in_front, in_rest}
use Rattle.leveldb_base.specs.History.{AreRising, IsBeforeAll}
use Rattle.leveldb_base.specs.KeyTypes.{internal_cmp, sequence_part, user_part}
use Rattle.leveldb_base.specs.Types.{Pair}
use Rattle.leveldb_version_set.proofs.Sets.DisjointLemmas.{usable_disjoint}
use Rattle.leveldb_version.proofs.Versions.DisjointLemmas.{fewer_disjoint, picked_disjoint}
use Rattle.leveldb_version.proofs.Versions.SearchLemmas.{all_from_contains, kept_passes, passes_kept}
use Rattle.leveldb_version_set.specs.Compactions.Inputs.{AreOrdered}
use Rattle.leveldb_version.specs.Edits.FullEdit.{files_with, files_without}
use Rattle.leveldb_files.specs.Levels.Overlap.{file_range, output_level}
use Rattle.leveldb_version_set.specs.Sets.Recover.{IsUsable}
use Rattle.leveldb_version.specs.Versions.Search.{AreDisjointLevels}
use Rattle.leveldb_files.specs.Stores.Store.{IsFirstKey, IsLastKey}
use Rattle.leveldb_files.specs.Levels.Summary.{files_of_level}
use Rattle.leveldb_files.specs.Edits.Edit.{Edit, LevelFile, NewFile}
use Rattle.leveldb_files.specs.Edits.VersionSet.{ListsFiles, is_same_file, level_file, live_after}
use Rattle.leveldb_store.specs.Keeping.OpenStore.{AreInLevels}

-- ---- keys

not_less_itself : (o : Ordering) → o ≡ ordering_reverse o → o ≢ Less
not_less_itself Less same = λ e. let never : Less ≡ Greater = same in cc
not_less_itself Equal same = λ e. let never : Equal ≡ Less = e in cc
not_less_itself Greater same = λ e. let never : Greater ≡ Less = e in cc

module _ (cmp : List ℕ → List ℕ → Ordering) (total : IsTotalOrder cmp) where
  -- internal keys in order have user keys in order
  users_in_order : (a b : List ℕ) → internal_cmp cmp a b ≢ Greater
      → cmp (user_part b) (user_part a) ≢ Less
  users_in_order a b in_order less =
      let more : cmp (user_part a) (user_part b) ≡ Greater =
      total.antisymm (user_part a) (user_part b) ∙ ap ordering_reverse less in
      in_order (ap (λ o. ordering_then o (nat_cmp (sequence_part b) (sequence_part a))) more)

  -- what is before all keys is before the last
  before_last : (key : List ℕ) (front : List Pair) (last value : List ℕ)
      → IsBeforeAll (internal_cmp cmp) key (front ++ (last, value) ∷ [])
      → internal_cmp cmp key last ≡ Less
  before_last key [] last value before = before.0
  before_last key (pair ∷ front) last value before = before_last key front last value before.1

  -- the first of rising keys isn't after the last
  pub range_in_order : (pairs : List Pair) → AreRising (internal_cmp cmp) pairs
      → (smallest largest : List ℕ) → IsFirstKey smallest pairs → IsLastKey largest pairs
      → cmp (user_part largest) (user_part smallest) ≢ Less
  range_in_order pairs rising smallest largest (value, rest, first) (front, last_value, last) =
      by front (sym first ∙ last) (subst (AreRising (internal_cmp cmp)) first rising)
    where
      by : (front : List Pair) → (smallest, value) ∷ rest ≡ front ++ (largest, last_value) ∷ []
          → AreRising (internal_cmp cmp) ((smallest, value) ∷ rest)
          → cmp (user_part largest) (user_part smallest) ≢ Less
      by [] same rises =
          let one : (smallest, value) ≡ (largest, last_value) = cc in
          let e : smallest ≡ largest = ap (λ (pair : Pair). pair.0) one in
          subst (λ key. cmp (user_part key) (user_part smallest) ≢ Less) e
          (not_less_itself (cmp (user_part smallest) (user_part smallest))
          (total.antisymm (user_part smallest) (user_part smallest)))
      by (pair ∷ front) same rises =
          let rest_is : rest ≡ front ++ (largest, last_value) ∷ [] = cc in
          let less = before_last smallest front largest last_value
          (subst (IsBeforeAll (internal_cmp cmp) smallest) rest_is rises.0) in
          users_in_order smallest largest
          (λ greater. let never : Less ≡ Greater = sym less ∙ greater in cc)

  -- ---- the files of a store

  -- those that edits leave with which a store may begin
  usable_apart : (comparator : List ℕ) (edits : List Edit) → IsUsable cmp comparator edits
      → (files : List NewFile) → ListsFiles (live_after edits) files → AreDisjointLevels cmp files
  usable_apart comparator edits usable files lists = usable_disjoint cmp total comparator edits
      usable files (λ file c. (lists.live file).0 c)

module _ (cmp : List ℕ → List ℕ → Ordering) where
  -- in another order
  pub permuted_apart : (these those : List NewFile) → IsPermutation these those
      → AreDisjointLevels cmp these → AreDisjointLevels cmp those
  permuted_apart these those same = fewer_disjoint cmp these those (λ file c.
      Contains-permutation those these file (IsPermutation-sym these those same) c)

  -- what is among the files with one more
  with_cases : (files : List NewFile) (file other : NewFile)
      → Contains (files_with files file) other → Contains files other ⊎ (file ≡ other)
  with_cases files file other c = ⊎_elim
      (λ (kept : Contains (files_without files (level_file file)) other).
      inl (kept_passes _ files other kept).0)
      (λ (same : file ≡ other). inr same)
      (Contains-push_cases (files_without files (level_file file)) file other c)

  -- with a file of level 0 more
  apart_with_zero : (files : List NewFile) (file : NewFile) → file.level ≡ 0
      → AreDisjointLevels cmp files → AreDisjointLevels cmp (files_with files file)
  apart_with_zero files file zero apart level deep = record {
    ordered = λ other c. (apart level deep).ordered other (still other c);
    apart = λ a b c d. (apart level deep).apart a b (still a c) (still b d);
  }
    where
      here : NewFile → Bool
      here other = other.level == level

      still : (other : NewFile) → Contains (files_of_level level (files_with files file)) other
          → Contains (files_of_level level files) other
      still other c =
          let it = kept_passes here (files_with files file) other c in
          let at : other.level ≡ level = eqb-true other.level level it.1 in
          ⊎_elim
          (λ (there : Contains files other). passes_kept here files other there it.1)
          (λ (same : file ≡ other). absurd
          (omega (arith, sym (ap (λ (f : NewFile). f.level) same) ∙ zero, at, deep)))
          (with_cases files file other it.0)

  -- with one more in the level that is picked for it
  apart_with_picked : (files : List NewFile) (file : NewFile)
      → file.level ≡ output_level cmp (file_range file) files
      → cmp (user_part file.largest) (user_part file.smallest) ≢ Less
      → AreDisjointLevels cmp files → AreDisjointLevels cmp (files_with files file)
  apart_with_picked files file picked in_order apart =
      fewer_disjoint cmp (files ++ file ∷ []) (files_with files file)
      (λ other c. ⊎_elim
      (λ (there : Contains files other). Contains-append_left files (file ∷ []) other there)
      (λ (same : file ≡ other). subst (Contains (files ++ file ∷ [])) same
      (Contains-push files file))
      (with_cases files file other c))
      (picked_disjoint cmp files file picked in_order apart)

-- ---- the files of a set in levels

-- none of the files is of this level and number
abbrev AreOthers : LevelFile → List NewFile → Type 0
AreOthers at files = AllByRecursion (λ other. is_same_file at other ≡ false) (map level_file files)

others_kept : (at : LevelFile) (x : NewFile) (files : List NewFile) (kept : Bool)
    → is_same_file at (level_file x) ≡ false → AreOthers at files → AreOthers at (cond kept (x ∷ files) files)
others_kept at x files true e others = (e, others)
others_kept at x files false e others = others

still_others : (at : LevelFile) (keeps : NewFile → Bool) (files : List NewFile) → AreOthers at files
    → AreOthers at (filter keeps files)
still_others at keeps [] others = tt
still_others at keeps (x ∷ files) others =
    others_kept at x (filter keeps files) (keeps x) others.0 (still_others at keeps files others.1)

once_kept : (x : NewFile) (files : List NewFile) (kept : Bool) → AreOthers (level_file x) files
    → IsDistinct is_same_file (map level_file files)
    → IsDistinct is_same_file (map level_file (cond kept (x ∷ files) files))
unfolding IsDistinct
once_kept x files true others once = (others, once)
once_kept x files false others once = once

still_once : (keeps : NewFile → Bool) (files : List NewFile)
    → IsDistinct is_same_file (map level_file files)
    → IsDistinct is_same_file (map level_file (filter keeps files))
unfolding IsDistinct
still_once keeps [] once = tt
still_once keeps (x ∷ files) once = once_kept x (filter keeps files) (keeps x)
    (still_others (level_file x) keeps files once.0) (still_once keeps files once.1)

others_then : (at : LevelFile) (files : List NewFile) (x : NewFile) → AreOthers at files
    → is_same_file at (level_file x) ≡ false → AreOthers at (files ++ x ∷ [])
others_then at [] x others e = (e, tt)
others_then at (y ∷ files) x others e = (others.0, others_then at files x others.1 e)

once_then : (files : List NewFile) (x : NewFile) → IsDistinct is_same_file (map level_file files)
    → ((file : NewFile) → Contains files file
    → is_same_file (level_file file) (level_file x) ≡ false)
    → IsDistinct is_same_file (map level_file (files ++ x ∷ []))
unfolding IsDistinct
once_then [] x once apart = (tt, tt)
once_then (y ∷ files) x once apart = (
  others_then (level_file y) files x once.0 (apart y (in_front y files)),
  once_then files x once.1 (λ file c. apart file (in_rest y file files c)),
)

is_false : (b : Bool) → not b ≡ true → b ≡ false
is_false true e = absurd cc
is_false false e = refl

-- a file more, in place of the one of its level and number
once_with : (files : List NewFile) (file : NewFile)
    → IsDistinct is_same_file (map level_file files)
    → IsDistinct is_same_file (map level_file (files_with files file))
once_with files file once =
    let keeps : NewFile → Bool = λ other. not (is_same_file (level_file other) (level_file file)) in
    once_then (filter keeps files) file (still_once keeps files once)
    (λ other c. is_false (is_same_file (level_file other) (level_file file))
    (kept_passes keeps files other c).1)

module _ (models_disk : Bool) (cmp : List ℕ → List ℕ → Ordering) where
  -- those that edits leave with which a store may begin
  pub usable_levels : IsTotalOrder cmp → (comparator : List ℕ) (edits : List Edit)
      → IsUsable cmp comparator edits → (files : List NewFile)
      → ListsFiles (live_after edits) files
      → (IsTrue models_disk → All (λ (file : NewFile). file.level < 7) files)
      → AreInLevels models_disk cmp files
  usable_levels total comparator edits usable files lists seven = record {
    apart = usable_apart cmp total comparator edits usable files lists;
    once = lists.once;
    ordered = λ file c. users_in_order cmp total file.smallest file.largest
        (usable.ranges file ((lists.live file).0 c)).in_order;
    seven = seven;
  }

  ordered_with : (files : List NewFile) (file : NewFile)
      → cmp (user_part file.largest) (user_part file.smallest) ≢ Less → AreOrdered cmp files
      → AreOrdered cmp (files_with files file)
  ordered_with files file in_order ordered other c = ⊎_elim
      (λ (there : Contains files other). ordered other there)
      (λ (same : file ≡ other). subst (λ (one : NewFile).
      cmp (user_part one.largest) (user_part one.smallest) ≢ Less) same in_order)
      (with_cases cmp files file other c)

  seven_with : (files : List NewFile) (file : NewFile) → file.level < 7
      → All (λ (one : NewFile). one.level < 7) files
      → All (λ (one : NewFile). one.level < 7) (files_with files file)
  seven_with files file less all =
      let P : NewFile → Type 0 = λ one. one.level < 7 in
      all_from_contains P (files_with files file) (λ other c. ⊎_elim
      (λ (there : Contains files other). All-contains P files other all there)
      (λ (same : file ≡ other). subst P same less)
      (with_cases cmp files file other c))

  -- with one more in the level that is picked for it
  pub levels_with_picked : (files : List NewFile) (file : NewFile)
      → file.level ≡ output_level cmp (file_range file) files → file.level < 7
      → cmp (user_part file.largest) (user_part file.smallest) ≢ Less
      → AreInLevels models_disk cmp files → AreInLevels models_disk cmp (files_with files file)
  levels_with_picked files file picked less in_order levels = record {
    apart = apart_with_picked cmp files file picked in_order levels.apart;
    once = once_with files file levels.once;
    ordered = ordered_with files file in_order levels.ordered;
    seven = λ modelled. seven_with files file less (levels.seven modelled);
  }

  -- with files of level 0 more
  pub levels_with_zeros : (added files : List NewFile)
      → All (λ (file : NewFile). file.level ≡ 0) added → AreOrdered cmp added
      → AreInLevels models_disk cmp files
      → AreInLevels models_disk cmp (fold files_with files added)
  levels_with_zeros [] files zeros ordered levels = levels
  levels_with_zeros (file ∷ added) files zeros ordered levels =
      let zero = All-head (λ (f : NewFile). f.level ≡ 0) file added zeros in
      levels_with_zeros added (files_with files file)
      (All-tail (λ (f : NewFile). f.level ≡ 0) file added zeros)
      (λ other c. ordered other (in_rest file other added c)) (record {
        apart = apart_with_zero cmp files file zero levels.apart;
        once = once_with files file levels.once;
        ordered = ordered_with files file (ordered file (in_front file added)) levels.ordered;
        seven = λ modelled. seven_with files file (omega (arith, zero)) (levels.seven modelled);
      })
