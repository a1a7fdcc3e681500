-- The order of a version's files, and the part of them that is a level.
use Rattle.std.proofs.Common.{◌≡◌, ◌≢◌, ◌∙◌, ◌∷◌, ◌++◌, ◌+◌, ◌-◌, ◌<◌, ◌≤◌, ◌^◌, ◌==◌, ℕ, zero, suc, Bool, true, false, cond, List, [], ap, arith, drop, get_or, leb, length, ltb, map, refl, slice_set, subst, sym, take}
use Rattle.std.proofs.lemmas.Bool.{eq-eqb, eqb-true, leb-true, leb-false, ltb-true, ltb-false}
use Rattle.leveldb_base.proofs.OrderLemmas.{is_false}
use Rattle.std.proofs.lemmas.Cmp.{back_total, nat_cmp_total, on_total, ranked, then_total, tied_itself}
use Rattle.std.proofs.lemmas.Bool.Decides.{nat_tests}
use Rattle.std.proofs.lemmas.List.{append-nil, drop_all, get_or-drop, get_or-map, get_or-take, length-drop, length-map, length-take, map_more, take_all}
use Rattle.std.proofs.lemmas.Fn.{always_returns_same}
use Rattle.std.proofs.lemmas.List.Elements.{All-map, All-weaker, filter_passes}
use Rattle.std.proofs.lemmas.List.Kept.{IsSortedBy-filter}
use Rattle.std.proofs.lemmas.List.Sorted.{IsNonDecreasingBy-from_all_adjacent, ranks_by}
use Rattle.std.specs.Borrow.{Bor}
use Rattle.std.specs.Cmp.{IsTotalOrder}
use Rattle.std.specs.Fn.{Called, Mut}
use Rattle.std.specs.List.{AllWithin, filter}
use Rattle.std.specs.List.Sorted.{IsNonDecreasingBy, IsPartitionPoint, IsSorted, IsSortedBy, IsSortedByClosure, IsSortedByKey}
use Rattle.std.specs.Ordering.{is_lt, nat_cmp, ordering_reverse, ordering_then}
use Rattle.std.specs.declared.cmp.Ordering.{Ordering}
use Rattle.std.specs.declared.cmp.Ordering.TheVariants.{Equal, Greater, Less}
use Rattle.leveldb_base.specs.KeyTypes.{internal_cmp, sequence_part, user_part}
use Rattle.leveldb_base.specs.declared.types.FileMetaData.{FileMetaData}
use Rattle.leveldb_files.specs.Levels.Summary.{files_of_level}
use Rattle.leveldb_version.specs.Versions.Version.{AreInVersionOrder, FilesFit, IsRangeOfLevel, at_level, is_named, version_order, after_seek}
use Rattle.leveldb_files.specs.Edits.Edit.{LevelFile, NewFile}
use Rattle.leveldb_version.specs.Edits.VersionEdit.{new_file_of}

-- ---- the files of a level

map_either : (file : ℕ × FileMetaData) (files : List (ℕ × FileMetaData)) (others : List NewFile) (kept : Bool)
    → map new_file_of files ≡ others
    → map new_file_of (cond kept (file ∷ files) files) ≡ cond kept (new_file_of file ∷ others) others
map_either file files others true e = ap (λ l. new_file_of file ∷ l) e
map_either file files others false e = e

-- the files of a level are the same before and after their seeks are left out
pub at_level_map : (level : ℕ) (files : List (ℕ × FileMetaData))
    → map new_file_of (at_level level files) ≡ files_of_level level (map new_file_of files)
at_level_map level [] = refl
at_level_map level (file ∷ files) =
    map_either file (at_level level files) (files_of_level level (map new_file_of files))
    (file.0 == level) (at_level_map level files)

pub at_level_length : (level : ℕ) (files : List (ℕ × FileMetaData))
    → length (at_level level files) ≡ length (files_of_level level (map new_file_of files))
at_level_length level files =
    sym (length-map (at_level level files) new_file_of) ∙ ap length (at_level_map level files)

-- ---- a part of a list as a filter

module _ {A : Type 0} (p : A → Bool) where
  filter_yes : (x : A) (xs : List A) → p x ≡ true → filter p (x ∷ xs) ≡ x ∷ filter p xs
  filter_yes x xs e = ap (λ b. cond b (x ∷ filter p xs) (filter p xs)) e

  filter_no : (x : A) (xs : List A) → p x ≡ false → filter p (x ∷ xs) ≡ filter p xs
  filter_no x xs e = ap (λ b. cond b (x ∷ filter p xs) (filter p xs)) e

  -- what passes is a part of the list
  pub part_is_filter : (xs : List A) (i n : ℕ) → i + n ≤ length xs
      → AllWithin (λ x. p x ≡ false) xs 0 i → AllWithin (λ x. p x ≡ true) xs i (i + n)
      → AllWithin (λ x. p x ≡ false) xs (i + n) (length xs)
      → take n (drop i xs) ≡ filter p xs
  part_is_filter [] zero zero within below at above = refl
  part_is_filter [] zero (suc n) within below at above = absurd (omega arith)
  part_is_filter [] (suc i) n within below at above = absurd (omega arith)
  part_is_filter (x ∷ xs) (suc i) n within below at above =
      part_is_filter xs i n (omega arith)
      (λ k d low high. below (suc k) d (omega arith) (omega arith))
      (λ k d low high. at (suc k) d (omega arith) (omega arith))
      (λ k d low high. above (suc k) d (omega arith) (omega arith))
      ∙ sym (filter_no x xs (below 0 x (omega arith) (omega arith)))
  part_is_filter (x ∷ xs) zero (suc n) within below at above =
      ap (λ l. x ∷ l) (part_is_filter xs 0 n (omega arith)
      (λ k d low high. absurd (omega arith))
      (λ k d low high. at (suc k) d (omega arith) (omega arith))
      (λ k d low high. above (suc k) d (omega arith) (omega arith)))
      ∙ sym (filter_yes x xs (at 0 x (omega arith) (omega arith)))
  part_is_filter (x ∷ xs) zero zero within below at above =
      part_is_filter xs 0 0 (omega arith)
      (λ k d low high. absurd (omega arith))
      (λ k d low high. absurd (omega arith))
      (λ k d low high. above (suc k) d (omega arith) (omega arith))
      ∙ sym (filter_no x xs (above 0 x (omega arith) (omega arith)))

-- ---- a level among files in the order of their levels

module _ (level : ℕ) (files : List (ℕ × FileMetaData)) (i j : ℕ) (i_in : i ≤ length files) (j_in : j ≤ length files)
    (start : IsPartitionPoint (λ (f : ℕ × FileMetaData). ltb f.0 level ≡ true) (λ (f : ℕ × FileMetaData). ltb f.0 level ≡ false) files i)
    (end : IsPartitionPoint (λ (f : ℕ × FileMetaData). leb f.0 level ≡ true) (λ (f : ℕ × FileMetaData). leb f.0 level ≡ false) files j) where
  below_start : (k : ℕ) (d : ℕ × FileMetaData) → k < i → (get_or files k d).0 < level
  below_start k d h = ltb-true (get_or files k d).0 level (start.0 k d (omega arith) h)

  from_start : (k : ℕ) (d : ℕ × FileMetaData) → i ≤ k → k < length files → level ≤ (get_or files k d).0
  from_start k d h l = ltb-false (get_or files k d).0 level (start.1 k d h l)

  below_end : (k : ℕ) (d : ℕ × FileMetaData) → k < j → (get_or files k d).0 ≤ level
  below_end k d h = leb-true (get_or files k d).0 level (end.0 k d (omega arith) h)

  from_end : (k : ℕ) (d : ℕ × FileMetaData) → j ≤ k → k < length files → level < (get_or files k d).0
  from_end k d h l = leb-false (get_or files k d).0 level (end.1 k d h l)

  other_level : (f : ℕ × FileMetaData) → f.0 ≢ level → (f.0 == level) ≡ false
  other_level f differ = is_false (f.0 == level) (λ t. differ (eqb-true f.0 level t))

  start_before_end : i ≤ j
  start_before_end = by files refl
    where
      by : (fs : List (ℕ × FileMetaData)) → files ≡ fs → i ≤ j
      by [] e = let n = ap length e in omega (arith, i_in, n)
      by (f ∷ fs) e = by_leb (leb i j) refl
        where
          by_leb : (b : Bool) → leb i j ≡ b → i ≤ j
          by_leb true t = leb-true i j t
          by_leb false t =
              let less = leb-false i j t in
              let below = below_start j f less in
              let past = from_end j f (omega arith) (omega (arith, less, i_in)) in
              absurd (omega (arith, below, past))

  part_is_level : take (j - i) (drop i files) ≡ at_level level files
  part_is_level = part_is_filter (λ (f : ℕ × FileMetaData). f.0 == level) files i (j - i)
      (omega (arith, start_before_end, j_in))
      (λ k d low high. other_level (get_or files k d)
      (λ e. let below = below_start k d high in omega (arith, e, below)))
      (λ k d low high. eq-eqb (get_or files k d).0 level
      (let from = from_start k d low (omega (arith, start_before_end, high, j_in)) in
      let upto = below_end k d (omega (arith, start_before_end, high)) in
      omega (arith, from, upto)))
      (λ k d low high. other_level (get_or files k d)
      (λ e. let past = from_end k d (omega (arith, start_before_end, low)) high in omega (arith, e, past)))

  -- the two are where the files of the level begin and end
  pub level_between : IsRangeOfLevel level files i j
  level_between = record {
    ordered = start_before_end;
    within = j_in;
    lesser = λ k d inside.
        let first : k < i = omega (arith, inside, length-take i files) in
        subst (λ (f : ℕ × FileMetaData). f.0 < level) (sym (get_or-take i files k d first)) (below_start k d first);
    here = part_is_level;
    greater = λ k d inside.
        let last : j + k < length files = omega (arith, inside, length-drop j files) in
        subst (λ (f : ℕ × FileMetaData). level < f.0) (sym (get_or-drop j files k d))
        (from_end (j + k) d (omega arith) last);
  }

-- ---- orders

-- an order that answers as a total one does is total
total_alike : {K : Type 0} {R S : K → K → Ordering} → IsTotalOrder R → ((x y : K) → S x y ≡ R x y) → IsTotalOrder S
total_alike total same = record {
  antisymm = λ x y. same x y ∙ total.antisymm x y ∙ ap ordering_reverse (sym (same y x));
  trans = λ x y z p q. same x z ∙ total.trans x y z (sym (same x y) ∙ p) (sym (same y z) ∙ q);
  congr = λ x y z p. same x z ∙ total.congr x y z (sym (same x y) ∙ p) ∙ sym (same y z);
}

then_equal : (o : Ordering) → ordering_then o Equal ≡ o
then_equal Less = refl
then_equal Equal = refl
then_equal Greater = refl

level_cmp_equal : (a b : ℕ) → nat_cmp a b ≡ Equal → a ≡ b
level_cmp_equal a b e = grind (arith, nat_tests)

module _ {cmp : List ℕ → List ℕ → Ordering} (total : IsTotalOrder cmp) where
  pub internal_total : IsTotalOrder (internal_cmp cmp)
  internal_total = then_total (on_total user_part total) (back_total (on_total sequence_part nat_cmp_total))

  -- the number by which a file of level 0 is in order, and the key of any other
  abbrev number_key : NewFile → ℕ
  number_key file = cond (file.level == 0) file.number 0

  abbrev smallest_key : NewFile → List ℕ
  smallest_key file = cond (file.level == 0) [] file.smallest

  abbrev by_keys : NewFile → NewFile → Ordering
  by_keys a b = ordering_then (nat_cmp a.level b.level)
      (ordering_then (nat_cmp (number_key a) (number_key b)) (internal_cmp cmp (smallest_key a) (smallest_key b)))

  by_keys_total : IsTotalOrder by_keys
  by_keys_total = then_total (on_total (λ (f : NewFile). f.level) nat_cmp_total)
      (then_total (on_total number_key nat_cmp_total) (on_total smallest_key internal_total))

  in_level : (a b : NewFile) (is_zero : Bool)
      → cond is_zero (nat_cmp a.number b.number) (internal_cmp cmp a.smallest b.smallest)
      ≡ ordering_then (nat_cmp (cond is_zero a.number 0) (cond is_zero b.number 0))
      (internal_cmp cmp (cond is_zero [] a.smallest) (cond is_zero [] b.smallest))
  in_level a b true =
      sym (ap (λ o. ordering_then (nat_cmp a.number b.number) o) (tied_itself internal_total [])
      ∙ then_equal (nat_cmp a.number b.number))
  in_level a b false = refl

  same_order : (a b : NewFile) → version_order cmp a b ≡ by_keys a b
  same_order a b = by (nat_cmp a.level b.level) refl
    where
      rest : Ordering
      rest = cond (a.level == 0) (nat_cmp a.number b.number) (internal_cmp cmp a.smallest b.smallest)

      keys : Ordering
      keys = ordering_then (nat_cmp (number_key a) (number_key b)) (internal_cmp cmp (smallest_key a) (smallest_key b))

      by : (o : Ordering) → nat_cmp a.level b.level ≡ o → ordering_then o rest ≡ ordering_then o keys
      by Less e = refl
      by Greater e = refl
      by Equal e = in_level a b (a.level == 0) ∙ ap (λ (n : ℕ). ordering_then
          (nat_cmp (number_key a) (cond (n == 0) b.number 0))
          (internal_cmp cmp (smallest_key a) (cond (n == 0) [] b.smallest))) (level_cmp_equal a.level b.level e)

  pub version_total : IsTotalOrder (version_order cmp)
  version_total = total_alike by_keys_total same_order

  -- the files of a level are in order
  pub level_in_order : (level : ℕ) (files : List NewFile) → AreInVersionOrder cmp files
      → AreInVersionOrder cmp (files_of_level level files)
  level_in_order level files sorted =
      IsSortedBy-filter (λ a b. is_lt (version_order cmp a b)) (ranks_by version_total (λ (f : NewFile). f))
      (λ (f : NewFile). f.level == level) files sorted

-- a list whose images are sorted
pub sorted_map : {X Y : Type 0} (lt : Y → Y → Bool) (f : X → Y) (xs : List X)
    → IsSortedBy (λ x y. lt (f x) (f y)) xs → IsSortedBy lt (map f xs)
sorted_map {X} lt f xs sorted k d low high = by xs refl
  where
    within : k + 1 < length xs
    within = subst (λ (n : ℕ). k + 1 < n) (length-map xs f) high

    at : (i : ℕ) (x : X) → i < length xs → get_or (map f xs) i d ≡ f (get_or xs i x)
    at i x less = get_or-map f xs i x d less

    by : (ys : List X) → xs ≡ ys → lt (get_or (map f xs) (k + 1) d) (get_or (map f xs) k d) ≡ false
    by [] e = let n = ap length e in absurd (omega (arith, within, n))
    by (x ∷ ys) e =
        ap (λ z. lt z (get_or (map f xs) k d)) (at (k + 1) x within)
        ∙ ap (λ z. lt (f (get_or xs (k + 1) x)) z) (at k x (omega (arith, within)))
        ∙ sorted k x low within

-- ---- levels in order

module _ (cmp : List ℕ → List ℕ → Ordering) where
  level_not_less : (a b : NewFile) → is_lt (version_order cmp b a) ≡ false → a.level ≤ b.level
  level_not_less a b e = by (nat_cmp b.level a.level) refl e
    where
      by : (o : Ordering) → nat_cmp b.level a.level ≡ o
          → is_lt (ordering_then o (cond (b.level == 0) (nat_cmp b.number a.number) (internal_cmp cmp b.smallest a.smallest))) ≡ false
          → a.level ≤ b.level
      by Less same f = cc
      by Equal same f = let equal = level_cmp_equal b.level a.level same in omega (arith, equal)
      by Greater same f = let less = ranked b.level a.level Greater (sym same) in omega (arith, less)

  -- levels don't fall
  pub levels_rise : (files : List (ℕ × FileMetaData)) → AreInVersionOrder cmp (map new_file_of files)
      → IsNonDecreasingBy (λ (file : ℕ × FileMetaData). file.0) files
  levels_rise files sorted =
      IsNonDecreasingBy-from_all_adjacent (λ (file : ℕ × FileMetaData). file.0) files (λ k d within.
      level_not_less (new_file_of (get_or files k d)) (new_file_of (get_or files (k + 1) d))
      (sym (ap (λ z. is_lt (version_order cmp z (get_or (map new_file_of files) k (new_file_of d))))
      (get_or-map new_file_of files (k + 1) d (new_file_of d) within)
      ∙ ap (λ z. is_lt (version_order cmp (new_file_of (get_or files (k + 1) d)) z))
      (get_or-map new_file_of files k d (new_file_of d) (omega (arith, within))))
      ∙ sorted k (new_file_of d) (omega arith)
      (subst (λ (n : ℕ). k + 1 < n) (sym (length-map files new_file_of)) within)))

  same_level_order : (a b : NewFile) → a.level ≡ b.level → 0 < a.level
      → version_order cmp a b ≡ internal_cmp cmp a.smallest b.smallest
  same_level_order a b same deep =
      ap (λ (n : ℕ). ordering_then (nat_cmp a.level n) (cond (a.level == 0) (nat_cmp a.number b.number) (internal_cmp cmp a.smallest b.smallest))) (sym same)
      ∙ ap (λ o. ordering_then o (cond (a.level == 0) (nat_cmp a.number b.number) (internal_cmp cmp a.smallest b.smallest))) (tied_itself nat_cmp_total a.level)
      ∙ ap (λ z. cond z (nat_cmp a.number b.number) (internal_cmp cmp a.smallest b.smallest))
      (is_false (a.level == 0) (λ t. let zero_level = eqb-true a.level 0 t in omega (arith, zero_level, deep)))

  -- the files of a level from 1 on are in the order of their smallest keys
  pub keys_rise : (level : ℕ) → 0 < level → (files : List NewFile)
      → AreInVersionOrder cmp (files_of_level level files)
      → IsSortedByKey (λ (file : NewFile). file.smallest) (internal_cmp cmp) (files_of_level level files)
  keys_rise level deep files sorted k d low high =
      let these = files_of_level level files in
      let at = filter_passes (λ (file : NewFile). file.level == level) files in
      let first = eqb-true (get_or these k d).level level (at k d (omega (arith, high))) in
      let second = eqb-true (get_or these (k + 1) d).level level (at (k + 1) d high) in
      sym (ap is_lt (same_level_order (get_or these (k + 1) d) (get_or these k d) (second ∙ sym first)
      (omega (arith, second, deep))))
      ∙ sorted k d low high

-- ---- seeks

seek_leaves : (at : LevelFile) (file : ℕ × FileMetaData) → new_file_of (after_seek at file) ≡ new_file_of file
seek_leaves at file = by (is_named at file)
  where
    by : (b : Bool) → new_file_of (cond b (file.0, record file.1 { allowed_seeks = file.1.allowed_seeks - 1 }) file) ≡ new_file_of file
    by true = refl
    by false = refl

-- seeks change nothing of a file that an edit says
pub seeks_leave : (at : LevelFile) (files : List (ℕ × FileMetaData))
    → map new_file_of (map (after_seek at) files) ≡ map new_file_of files
seeks_leave at [] = refl
seeks_leave at (file ∷ files) =
    ap (λ z. z ∷ map new_file_of (map (after_seek at) files)) (seek_leaves at file)
    ∙ ap (λ z. new_file_of file ∷ z) (seeks_leave at files)

-- one element more of a list that is mapped in place
mapped_more : {A : Type 0} (f : A → A) (xs : List A) (i : ℕ) (d : A) → i < length xs
    → slice_set (map f (take i xs) ++ drop i xs) i (f (get_or (map f (take i xs) ++ drop i xs) i d))
    ≡ map f (take (suc i) xs) ++ drop (suc i) xs
mapped_more f [] i d within = absurd (omega arith)
mapped_more f (x ∷ xs) zero d within = refl
mapped_more f (x ∷ xs) (suc i) d within = ap (λ l. f x ∷ l) (mapped_more f xs i d (omega arith))

pub mapped_in_place : {A : Type 0} (f : A → A) (xs ys : List A) (i : ℕ) (d y : A) → i < length xs
    → ys ≡ map f (take i xs) ++ drop i xs → y ≡ f (get_or ys i d)
    → slice_set ys i y ≡ map f (take (i + 1) xs) ++ drop (i + 1) xs
mapped_in_place {A} f xs ys i d y within is y_is =
    let e : suc i ≡ i + 1 = omega arith in
    ap (slice_set ys i) y_is
    ∙ ap (λ (l : List A). slice_set l i (f (get_or l i d))) is
    ∙ mapped_more f xs i d within
    ∙ ap (λ (n : ℕ). map f (take n xs) ++ drop n xs) e

-- files stay in order when one takes a seek; the list is written as a `Vec` has it after a change
-- of its slice
pub seeks_keep_order : (cmp : List ℕ → List ℕ → Ordering) (at : LevelFile)
    (xs ys : List (ℕ × FileMetaData)) (n : ℕ) → AreInVersionOrder cmp (map new_file_of xs)
    → ys ≡ map (after_seek at) xs → n ≡ length xs
    → AreInVersionOrder cmp (map new_file_of (take n (ys ++ drop (length ys) xs)))
seeks_keep_order cmp at xs ys n sorted is n_is =
    subst (λ (files : List NewFile). AreInVersionOrder cmp files) (sym (ap (map new_file_of) same ∙ ap (map new_file_of) is ∙ seeks_leave at xs)) sorted
  where
    long : length ys ≡ length xs
    long = ap length is ∙ length-map xs (after_seek at)

    same : take n (ys ++ drop (length ys) xs) ≡ ys
    same = ap (λ l. take n (ys ++ l)) (drop_all (length ys) xs (omega (arith, long)))
        ∙ ap (take n) (append-nil ys) ∙ take_all n ys (omega (arith, long, n_is))

-- the number and the size of a file have 64 bits
abbrev Fits : ℕ × FileMetaData → Type 0
Fits file = (file.1.num < 2 ^ 64) × (file.1.size < 2 ^ 64)

-- and have the numbers and the sizes that they had
pub seeks_keep_fit : (at : LevelFile) (xs ys : List (ℕ × FileMetaData)) (n : ℕ) → FilesFit xs
    → ys ≡ map (after_seek at) xs → n ≡ length xs → FilesFit (take n (ys ++ drop (length ys) xs))
seeks_keep_fit at xs ys n fits is n_is =
    subst FilesFit (sym same) (subst FilesFit (sym is)
    (All-map Fits (after_seek at) xs (All-weaker Fits (λ file. Fits (after_seek at file)) after xs fits)))
  where
    long : length ys ≡ length xs
    long = ap length is ∙ length-map xs (after_seek at)

    same : take n (ys ++ drop (length ys) xs) ≡ ys
    same = ap (λ l. take n (ys ++ l)) (drop_all (length ys) xs (omega (arith, long)))
        ∙ ap (take n) (append-nil ys) ∙ take_all n ys (omega (arith, long, n_is))

    after : (file : ℕ × FileMetaData) → Fits file → Fits (after_seek at file)
    after file small = by (is_named at file)
      where
        by : (b : Bool) → Fits (cond b (file.0, record file.1 { allowed_seeks = file.1.allowed_seeks - 1 }) file)
        by true = small
        by false = small

-- a sort of files by a closure that compares them so leaves them in order
pub sorted_by_closure : {R : NewFile → NewFile → Ordering} → IsTotalOrder R
    → {F : Type 0} {g : Mut F (Bor (ℕ × FileMetaData) × (Bor (ℕ × FileMetaData) × Unit {0})) Ordering} {f : F}
    (xs : List (ℕ × FileMetaData)) → IsSortedByClosure g f xs
    → ((a : Bor (ℕ × FileMetaData) × (Bor (ℕ × FileMetaData) × Unit {0})) (r : Ordering) (f' : F) → Called g f a r f'
    → (r ≡ R (new_file_of a.0.now) (new_file_of a.1.0.now)) × (f' ≡ f))
    → IsSorted R (map new_file_of xs)
sorted_by_closure {R = R} total {g = g} {f = f} xs sorted answers =
    sorted_map (λ a b. is_lt (R a b)) new_file_of xs
    (sorted (λ x y. is_lt (R (new_file_of x) (new_file_of y))) (ranks_by total new_file_of)
    (always_returns_same g (λ a r. is_lt r ≡ is_lt (R (new_file_of a.0.now) (new_file_of a.1.0.now))) f
    (λ a r f' k. let one = answers a r f' k in (ap is_lt one.0, one.1))))

-- ---- a list that is made of another, one after another

module _ {A B : Type 0} (f : A → B) where
  pub made_more : (xs : List A) (i : ℕ) (x : A) (y : B) (ys after : List B) → i < length xs → x ≡ get_or xs i x
      → ys ≡ map f (take i xs) → y ≡ f x → after ≡ ys ++ y ∷ [] → after ≡ map f (take (i + 1) xs)
  made_more xs i x y ys after inside is so one more =
      more ∙ (ap (λ z. ys ++ z ∷ []) one ∙ (ap (λ zs. zs ++ f x ∷ []) so
      ∙ sym (map_more f xs i x inside ∙ ap (λ z. map f (take i xs) ++ f z ∷ []) (sym is))))
