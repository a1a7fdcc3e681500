-- Which of a version's files each of its walks has, and in which order.
use Rattle.std.specs.Prelude.{Contains, reverse}
use Rattle.std.proofs.Common.{◌≡◌, ◌⊎◌, inl, inr, ⊎_elim, ℕ, zero, suc, ◌==◌, ◌<◌, List, [], ◌∷◌, map, refl, sym, ◌∙◌, ap, subst, arith}
use Rattle.std.proofs.lemmas.Bool.{eq-eqb, eqb-true}
use Rattle.std.proofs.lemmas.List.Elements.{Contains-append_cases, Contains-append_left, Contains-append_right}
use Rattle.std.proofs.lemmas.List.Sorted.{Contains-permutation, IsPermutation-reverse}
use Rattle.std.specs.declared.cmp.Ordering.{Ordering}
use Rattle.std.specs.declared.cmp.Ordering.TheVariants.{Less}
use Rattle.leveldb_base.proofs.EntriesLemmas.{in_map, map_in}
use Rattle.leveldb_base.proofs.HistoryLemmas.{in_cases, in_front, in_none, in_rest}
use Rattle.leveldb_base.specs.KeyTypes.{user_part}
use Rattle.leveldb_base.specs.declared.types.FileMetaData.{FileMetaData}
use Rattle.leveldb_files.proofs.Stores.OneStoreLemmas.{flat_in, in_flat}
use Rattle.leveldb_version.proofs.Versions.PairwiseLemmas.{Pairwise, in_reverse, pairwise_append, pairwise_filter, pairwise_map, pairwise_more, pairwise_of_map, pairwise_reverse}
use Rattle.leveldb_version.proofs.Versions.SearchLemmas.{kept_passes, passes_kept}
use Rattle.leveldb_version.proofs.Tables.TablesInTurnLemmas.{AreInTurn, of_all}
use Rattle.leveldb_version.proofs.Walks.VersionItersLemmas.{deep_levels, levels_among}
use Rattle.leveldb_version.specs.Versions.Version.{at_level}
use Rattle.leveldb_files.specs.Edits.Edit.{NewFile}
use Rattle.leveldb_version.specs.Edits.VersionEdit.{new_file_of}
use Rattle.leveldb_version.specs.Walks.VersionIters.{each_alone, files_of_walks, if_some}

-- the first is in a level above, or of a greater number in level 0
abbrev pub IsWalkedBefore : NewFile → NewFile → Type 0
IsWalkedBefore a b = (a.level < b.level) ⊎ ((a.level ≡ 0) × (b.level ≡ 0) × (b.number < a.number))

-- so of each two files
abbrev pub AreWalkedBefore : List (ℕ × FileMetaData) → List (ℕ × FileMetaData) → Type 0
AreWalkedBefore these those = (a b : ℕ × FileMetaData) → Contains these a → Contains those b → IsWalkedBefore (new_file_of a) (new_file_of b)

in_one : {A : Type 0} (x y : A) → Contains (x ∷ []) y → x ≡ y
in_one x y c = ⊎_elim (λ (same : x ≡ y). same) (λ (none : Contains [] y). absurd (in_none y none)) (in_cases x y [] c)

in_if_some : {A : Type 0} (xs ys : List A) → Contains (if_some xs) ys → ys ≡ xs
in_if_some [] ys c = absurd (in_none ys c)
in_if_some (x ∷ xs) ys c = sym (in_one (x ∷ xs) ys c)

if_some_in : {A : Type 0} (xs : List A) (x : A) → Contains xs x → Contains (if_some xs) xs
if_some_in [] x c = absurd (in_none x c)
if_some_in (y ∷ xs) x c = in_front (y ∷ xs) []

one_pairwise : (part : List (ℕ × FileMetaData)) → Pairwise AreWalkedBefore (if_some part)
one_pairwise [] = tt
one_pairwise (x ∷ xs) = ((λ y c. absurd (in_none y c)), tt)

rising : (x y : ℕ) (ys : List ℕ) → x < y → Pairwise (λ a b. a < b) (y ∷ ys) → Pairwise (λ a b. a < b) (x ∷ y ∷ ys)
rising x y ys less rest = (
  λ z c. ⊎_elim
      (λ (same : y ≡ z). subst (λ n. x < n) same less)
      (λ (later : Contains ys z). let more = rest.0 z later in omega (arith, less, more))
      (in_cases y z ys c),
  rest,
)

deep_rise : Pairwise (λ a b. a < b) deep_levels
deep_rise = rising 1 2 (3 ∷ 4 ∷ 5 ∷ 6 ∷ []) (omega arith) (rising 2 3 (4 ∷ 5 ∷ 6 ∷ []) (omega arith) (rising 3 4 (5 ∷ 6 ∷ []) (omega arith)
    (rising 4 5 (6 ∷ []) (omega arith) (rising 5 6 [] (omega arith) ((λ y c. absurd (in_none y c)), tt)))))

deep_above : (level : ℕ) → Contains deep_levels level → 0 < level
deep_above level c = of_all (λ l. 0 < l) deep_levels (omega arith, (omega arith, (omega arith, (omega arith, (omega arith, (omega arith, tt)))))) level c

deep_all : (level : ℕ) → 0 < level → level < 7 → Contains deep_levels level
deep_all zero some fits = absurd (omega (arith, some))
deep_all (suc zero) some fits = in_front 1 (2 ∷ 3 ∷ 4 ∷ 5 ∷ 6 ∷ [])
deep_all (suc (suc zero)) some fits = in_rest 1 2 (2 ∷ 3 ∷ 4 ∷ 5 ∷ 6 ∷ []) (in_front 2 (3 ∷ 4 ∷ 5 ∷ 6 ∷ []))
deep_all (suc (suc (suc zero))) some fits = in_rest 1 3 (2 ∷ 3 ∷ 4 ∷ 5 ∷ 6 ∷ []) (in_rest 2 3 (3 ∷ 4 ∷ 5 ∷ 6 ∷ []) (in_front 3 (4 ∷ 5 ∷ 6 ∷ [])))
deep_all (suc (suc (suc (suc zero)))) some fits = in_rest 1 4 (2 ∷ 3 ∷ 4 ∷ 5 ∷ 6 ∷ []) (in_rest 2 4 (3 ∷ 4 ∷ 5 ∷ 6 ∷ []) (in_rest 3 4 (4 ∷ 5 ∷ 6 ∷ []) (in_front 4 (5 ∷ 6 ∷ []))))
deep_all (suc (suc (suc (suc (suc zero))))) some fits =
    in_rest 1 5 (2 ∷ 3 ∷ 4 ∷ 5 ∷ 6 ∷ []) (in_rest 2 5 (3 ∷ 4 ∷ 5 ∷ 6 ∷ []) (in_rest 3 5 (4 ∷ 5 ∷ 6 ∷ []) (in_rest 4 5 (5 ∷ 6 ∷ []) (in_front 5 (6 ∷ [])))))
deep_all (suc (suc (suc (suc (suc (suc zero)))))) some fits =
    in_rest 1 6 (2 ∷ 3 ∷ 4 ∷ 5 ∷ 6 ∷ []) (in_rest 2 6 (3 ∷ 4 ∷ 5 ∷ 6 ∷ []) (in_rest 3 6 (4 ∷ 5 ∷ 6 ∷ []) (in_rest 4 6 (5 ∷ 6 ∷ []) (in_rest 5 6 (6 ∷ []) (in_front 6 [])))))
deep_all (suc (suc (suc (suc (suc (suc (suc level))))))) some fits = absurd (omega (arith, fits))

module _ (files : List (ℕ × FileMetaData)) where
  in_level : (level : ℕ) (file : ℕ × FileMetaData) → Contains (at_level level files) file → Contains files file × (file.0 ≡ level)
  in_level level file c = let kept = kept_passes (λ (f : ℕ × FileMetaData). f.0 == level) files file c in (kept.0, eqb-true file.0 level kept.1)

  level_in : (level : ℕ) (file : ℕ × FileMetaData) → Contains files file → file.0 ≡ level → Contains (at_level level files) file
  level_in level file c at = passes_kept (λ (f : ℕ × FileMetaData). f.0 == level) files file c (eq-eqb file.0 level at)

  in_alone : (part : List (ℕ × FileMetaData)) → Contains (each_alone (at_level 0 files)) part → (file : ℕ × FileMetaData) × Contains (at_level 0 files) file × (part ≡ file ∷ [])
  in_alone part c =
      let from = in_map (λ (f : ℕ × FileMetaData). f ∷ []) (reverse (at_level 0 files)) part c in
      (from.0, in_reverse (at_level 0 files) from.0 from.1, sym from.2)

  in_levels : (levels : List ℕ) (part : List (ℕ × FileMetaData)) → Contains (levels_among levels files) part → (level : ℕ) × Contains levels level × (part ≡ at_level level files)
  in_levels levels part c =
      let from = in_flat (λ l. if_some (at_level l files)) levels part c in
      (from.0, from.1, in_if_some (at_level from.0 files) part from.2)

  -- a walk has one file of level 0, or all files of a deeper level
  pub walk_is : (part : List (ℕ × FileMetaData)) → Contains (files_of_walks files) part
      → ((file : ℕ × FileMetaData) × Contains (at_level 0 files) file × (part ≡ file ∷ [])) ⊎ ((level : ℕ) × (0 < level) × (part ≡ at_level level files))
  walk_is part c = ⊎_elim
      (λ (alone : Contains (each_alone (at_level 0 files)) part). inl (in_alone part alone))
      (λ (deep : Contains (levels_among deep_levels files) part). let from = in_levels deep_levels part deep in inr (from.0, deep_above from.0 from.1, from.2))
      (Contains-append_cases (each_alone (at_level 0 files)) (levels_among deep_levels files) part c)

  pub walk_within : (part : List (ℕ × FileMetaData)) → Contains (files_of_walks files) part → (file : ℕ × FileMetaData) → Contains part file → Contains files file
  walk_within part c file d = by (walk_is part c)
    where
      by : ((one : ℕ × FileMetaData) × Contains (at_level 0 files) one × (part ≡ one ∷ [])) ⊎ ((level : ℕ) × (0 < level) × (part ≡ at_level level files)) → Contains files file
      by (inl (one, there, is)) = subst (Contains files) (in_one one file (subst (λ p. Contains p file) is d)) (in_level 0 one there).0
      by (inr (level, deep, is)) = (in_level level file (subst (λ p. Contains p file) is d)).0

  -- each file has a walk
  pub walk_of : (file : ℕ × FileMetaData) → Contains files file → file.0 < 7 → (part : List (ℕ × FileMetaData)) × Contains (files_of_walks files) part × Contains part file
  walk_of file c fits = by file.0 refl
    where
      by : (level : ℕ) → file.0 ≡ level → (part : List (ℕ × FileMetaData)) × Contains (files_of_walks files) part × Contains part file
      by zero at = (
        file ∷ [],
        Contains-append_left (each_alone (at_level 0 files)) (levels_among deep_levels files) (file ∷ [])
            (map_in (λ (f : ℕ × FileMetaData). f ∷ []) (reverse (at_level 0 files)) file
            (Contains-permutation (at_level 0 files) (reverse (at_level 0 files)) file (IsPermutation-reverse (at_level 0 files)) (level_in 0 file c at))),
        in_front file [],
      )
      by (suc n) at =
          let there = level_in (suc n) file c at in (
            at_level (suc n) files,
            Contains-append_right (each_alone (at_level 0 files)) (levels_among deep_levels files) (at_level (suc n) files)
                (flat_in (λ l. if_some (at_level l files)) deep_levels (suc n) (at_level (suc n) files) (deep_all (suc n) (omega arith) (omega (arith, fits, at)))
                (if_some_in (at_level (suc n) files) file there)),
            there,
          )

  levels_layered : (levels : List ℕ) → Pairwise (λ a b. a < b) levels → Pairwise AreWalkedBefore (levels_among levels files)
  levels_layered [] rise = tt
  levels_layered (level ∷ levels) rise =
      pairwise_append AreWalkedBefore (if_some (at_level level files)) (levels_among levels files) (one_pairwise (at_level level files)) (levels_layered levels rise.1)
      (λ part other c d a b in_a in_b.
      let from = in_levels levels other d in
      let at_a = (in_level level a (subst (λ p. Contains p a) (in_if_some (at_level level files) part c) in_a)).1 in
      let at_b = (in_level from.0 b (subst (λ p. Contains p b) from.2 in_b)).1 in
      let less = rise.0 from.0 from.1 in
      inl (omega (arith, at_a, at_b, less)))

  -- the walks are in the order of their files' levels, and in level 0 the greater numbers first
  pub walks_layered : Pairwise (λ a b. a.level ≡ 0 → b.level ≡ 0 → a.number < b.number) (map new_file_of files) → Pairwise AreWalkedBefore (files_of_walks files)
  walks_layered rise =
      pairwise_append AreWalkedBefore (each_alone (at_level 0 files)) (levels_among deep_levels files) alone (levels_layered deep_levels deep_rise)
      (λ part other c d a b in_a in_b.
      let one = in_alone part c in
      let from = in_levels deep_levels other d in
      let at_one = (in_level 0 one.0 one.1).1 in
      let at_a = ap (λ (f : ℕ × FileMetaData). f.0) (in_one one.0 a (subst (λ p. Contains p a) one.2 in_a)) in
      let at_b = (in_level from.0 b (subst (λ p. Contains p b) from.2 in_b)).1 in
      let above = deep_above from.0 from.1 in
      inl (omega (arith, at_one, at_a, at_b, above)))
    where
      newer : Pairwise (λ x y. IsWalkedBefore (new_file_of y) (new_file_of x)) (at_level 0 files)
      newer = pairwise_more (λ x y. (new_file_of x).level ≡ 0 → (new_file_of y).level ≡ 0 → (new_file_of x).number < (new_file_of y).number) (λ x y. IsWalkedBefore (new_file_of y) (new_file_of x)) (at_level 0 files)
          (λ x y c d less. let at_x = (in_level 0 x c).1 in let at_y = (in_level 0 y d).1 in inr (at_y, at_x, less at_x at_y))
          (pairwise_filter (λ x y. (new_file_of x).level ≡ 0 → (new_file_of y).level ≡ 0 → (new_file_of x).number < (new_file_of y).number) (λ (f : ℕ × FileMetaData). f.0 == 0) files
          (pairwise_of_map (λ a b. a.level ≡ 0 → b.level ≡ 0 → a.number < b.number) new_file_of files rise))

      alone : Pairwise AreWalkedBefore (each_alone (at_level 0 files))
      alone = pairwise_map AreWalkedBefore (λ (f : ℕ × FileMetaData). f ∷ []) (reverse (at_level 0 files))
          (pairwise_more (λ x y. IsWalkedBefore (new_file_of x) (new_file_of y)) (λ x y. AreWalkedBefore (x ∷ []) (y ∷ [])) (reverse (at_level 0 files))
          (λ x y c d before a b in_a in_b. subst (λ f. IsWalkedBefore (new_file_of f) (new_file_of b)) (in_one x a in_a) (subst (λ f. IsWalkedBefore (new_file_of x) (new_file_of f)) (in_one y b in_b) before))
          (pairwise_reverse (λ x y. IsWalkedBefore (new_file_of x) (new_file_of y)) (at_level 0 files) newer))

  -- the user keys of a walk's files rise
  pub walk_turns : (cmp : List ℕ → List ℕ → Ordering) → Pairwise (λ a b. a.level ≡ b.level → 0 < a.level → cmp (user_part a.largest) (user_part b.smallest) ≡ Less) (map new_file_of files)
      → (part : List (ℕ × FileMetaData)) → Contains (files_of_walks files) part → AreInTurn cmp (map new_file_of part)
  walk_turns cmp rise part c = by (walk_is part c)
    where
      turns : (xs : List NewFile) → Pairwise (λ a b. cmp (user_part a.largest) (user_part b.smallest) ≡ Less) xs → AreInTurn cmp xs
      turns [] pairs = tt
      turns (x ∷ xs) pairs = (pairs.0, turns xs pairs.1)

      by : ((file : ℕ × FileMetaData) × Contains (at_level 0 files) file × (part ≡ file ∷ [])) ⊎ ((level : ℕ) × (0 < level) × (part ≡ at_level level files)) → AreInTurn cmp (map new_file_of part)
      by (inl (file, there, is)) = subst (λ p. AreInTurn cmp (map new_file_of p)) (sym is) ((λ later none. absurd (in_none later none)), tt)
      by (inr (level, deep, is)) = subst (λ p. AreInTurn cmp (map new_file_of p)) (sym is)
          (turns (map new_file_of (at_level level files)) (pairwise_map (λ a b. cmp (user_part a.largest) (user_part b.smallest) ≡ Less) new_file_of (at_level level files)
          (pairwise_more (λ x y. x.0 ≡ y.0 → 0 < x.0 → cmp (user_part (new_file_of x).largest) (user_part (new_file_of y).smallest) ≡ Less) (λ x y. cmp (user_part (new_file_of x).largest) (user_part (new_file_of y).smallest) ≡ Less) (at_level level files)
          (λ x y c d less. let at_x = (in_level level x c).1 in less (at_x ∙ sym (in_level level y d).1) (omega (arith, at_x, deep)))
          (pairwise_filter (λ x y. x.0 ≡ y.0 → 0 < x.0 → cmp (user_part (new_file_of x).largest) (user_part (new_file_of y).smallest) ≡ Less) (λ (f : ℕ × FileMetaData). f.0 == level) files
          (pairwise_of_map (λ a b. a.level ≡ b.level → 0 < a.level → cmp (user_part a.largest) (user_part b.smallest) ≡ Less) new_file_of files rise)))))
