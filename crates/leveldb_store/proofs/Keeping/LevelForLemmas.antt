-- The level that is picked for a table, whatever the order of the files.
use Rattle.std.proofs.Common.{◌≡◌, ◌∙◌, ◌∷◌, ◌+◌, ◌-◌, ◌<◌, ◌^◌, ◌==◌, ℕ, Bool, true, false, cond, List, [], ap, arith, leb, length, not, refl, sym}
use Rattle.std.proofs.lemmas.List.Sorted.{list_any-IsPermutation, sum_by-IsPermutation}
use Rattle.std.proofs.lemmas.List.Sums.{sum_by-cons, take_while-cons}
use Rattle.std.specs.List.{filter, list_any, sum_by}
use Rattle.std.specs.Prelude.{◌&&◌, ◌||◌, IsPermutation, min}
use Rattle.std.specs.declared.cmp.Ordering.{Ordering}
use Rattle.leveldb_files.specs.Levels.Overlap.{UserRange, greatest_overlap, is_overlapped, may_go_to, output_level, overlapping, overlaps}
use Rattle.leveldb_files.specs.Levels.Summary.{files_of_level, total_size}
use Rattle.leveldb_files.specs.Edits.Edit.{NewFile}

-- ---- lists

-- a test of what another test keeps
any_kept : {A : Type 0} (p q : A → Bool) (xs : List A)
    → list_any p (filter q xs) ≡ list_any (λ x. q x && p x) xs
any_kept p q [] = refl
any_kept p q (x ∷ xs) = by (q x) (any_kept p q xs)
  where
    by : (b : Bool) → list_any p (filter q xs) ≡ list_any (λ y. q y && p y) xs
        → list_any p (cond b (x ∷ filter q xs) (filter q xs))
        ≡ ((b && p x) || list_any (λ y. q y && p y) xs)
    by true rest = ap (λ b. p x || b) rest
    by false rest = rest

-- a sum over what a test keeps
sum_kept : {A : Type 0} (f : A → ℕ) (q : A → Bool) (xs : List A)
    → sum_by f (filter q xs) ≡ sum_by (λ x. cond (q x) (f x) 0) xs
sum_kept f q [] = refl
sum_kept f q (x ∷ xs) =
    by (q x) (sum_kept f q xs) ∙ sym (sum_by-cons (λ y. cond (q y) (f y) 0) x xs)
  where
    by : (b : Bool) → sum_by f (filter q xs) ≡ sum_by (λ y. cond (q y) (f y) 0) xs
        → sum_by f (cond b (x ∷ filter q xs) (filter q xs))
        ≡ cond b (f x) 0 + sum_by (λ y. cond (q y) (f y) 0) xs
    by true rest = sum_by-cons f x (filter q xs) ∙ ap (λ n. f x + n) rest
    by false rest = omega (arith, rest)

-- ---- the level

-- how many of two steps are made in a row, if any may be made
abbrev steps_made : Bool → Bool → Bool → ℕ
steps_made stays first second =
    cond stays 0 (length {A = ℕ} (cond first (1 ∷ cond second (2 ∷ []) []) []))

seven_levels : (a b c : Bool) → steps_made a b c < 7
seven_levels true b c = omega arith
seven_levels false false c = omega arith
seven_levels false true false = omega arith
seven_levels false true true = omega arith

module _ (cmp : List ℕ → List ℕ → Ordering) (range : UserRange) where
  level_is : (files : List NewFile) → output_level cmp range files
      ≡ steps_made (is_overlapped cmp 0 range files) (may_go_to cmp range files 1)
      (may_go_to cmp range files 2)
  level_is files =
      let goes : ℕ → Bool = may_go_to cmp range files in
      ap (λ (levels : List ℕ). cond (is_overlapped cmp 0 range files) 0 (length {A = ℕ} levels))
      (take_while-cons goes 1 (2 ∷ [])
      ∙ ap (λ (levels : List ℕ). cond (goes 1) (1 ∷ levels) []) (take_while-cons goes 2 []))

  -- it is one of the seven
  pub output_level_fits : (files : List NewFile) → output_level cmp range files < 7
  output_level_fits files = omega (
    arith,
    level_is files,
    seven_levels
        (is_overlapped cmp 0 range files) (may_go_to cmp range files 1) (may_go_to cmp range files 2),
  )

  module _ (these those : List NewFile) (same : IsPermutation these those) where
    pub overlapped_alike : (level : ℕ) → is_overlapped cmp level range these
        ≡ is_overlapped cmp level range those
    overlapped_alike level =
        let here : NewFile → Bool = λ file. file.level == level in
        any_kept (overlaps cmp range) here these
        ∙ list_any-IsPermutation (λ file. here file && overlaps cmp range file) these those same
        ∙ sym (any_kept (overlaps cmp range) here those)

    pub size_alike : (level : ℕ) → total_size (overlapping cmp level range these)
        ≡ total_size (overlapping cmp level range those)
    size_alike level =
        let here : NewFile → Bool = λ file. file.level == level in
        let size : NewFile → ℕ = λ file. cond (overlaps cmp range file) file.size 0 in
        let sum : (files : List NewFile)
        → sum_by (λ (file : NewFile). file.size) (overlapping cmp level range files)
        ≡ sum_by (λ file. cond (here file) (size file) 0) files =
        λ files. sum_kept (λ (file : NewFile). file.size) (overlaps cmp range)
        (files_of_level level files) ∙ sum_kept size here files in
        ap (λ n. min n (2 ^ 64 - 1)) (sum these
        ∙ sym (sum_by-IsPermutation (λ file. cond (here file) (size file) 0) these those same)
        ∙ sym (sum those))

    goes_alike : (level : ℕ) → may_go_to cmp range these level ≡ may_go_to cmp range those level
    goes_alike level =
        ap (λ over. not over
        && leb (total_size (overlapping cmp (level + 1) range these)) greatest_overlap)
        (overlapped_alike level)
        ∙ ap (λ size. not (is_overlapped cmp level range those) && leb size greatest_overlap)
        (size_alike (level + 1))

    -- files in another order have the same level
    pub output_level_alike : output_level cmp range these ≡ output_level cmp range those
    output_level_alike = level_is these
        ∙ ap (λ stays. steps_made stays (may_go_to cmp range these 1)
        (may_go_to cmp range these 2)) (overlapped_alike 0)
        ∙ ap (λ first. steps_made (is_overlapped cmp 0 range those) first
        (may_go_to cmp range these 2)) (goes_alike 1)
        ∙ ap (λ second. steps_made (is_overlapped cmp 0 range those)
        (may_go_to cmp range those 1) second) (goes_alike 2)
        ∙ sym (level_is those)
