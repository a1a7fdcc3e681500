-- What a search through the files below a level tells of a key.
use Rattle.std.specs.Prelude.{Contains, All, is_some, not}
use Rattle.std.proofs.Common.{◌≡◌, ◌∙◌, ◌<◌, ◌≤◌, ◌==◌, ◌+◌, ◌++◌, ⊎_elim, ℕ, Bool, true, false, List, ◌∷◌, Option, None, Some, ap, arith, drop, get_or, leb, length, map, refl, subst, sym, take}
use Rattle.std.proofs.lemmas.Bool.{leb-true}
use Rattle.std.proofs.lemmas.List.{get_or-drop, get_or-take, length-drop, length-take, map-append, take-append-drop}
use Rattle.std.proofs.lemmas.List.Elements.{All-contains, Contains-append_cases, Contains-append_right}
use Rattle.std.proofs.lemmas.List.Sorted.{Contains-permutation, IsPermutation-sym}
use Rattle.std.specs.Borrow.{Bor}
use Rattle.std.specs.List.Sorted.{IsPartitionPoint}
use Rattle.std.specs.Option.{option_copied, option_map}
use Rattle.std.specs.declared.cmp.Ordering.{Ordering}
use Rattle.leveldb_base.proofs.EntriesLemmas.{in_map}
use Rattle.leveldb_base.proofs.HistoryLemmas.{in_front, in_none}
use Rattle.leveldb_base.proofs.OrderLemmas.{is_false}
use Rattle.leveldb_base.specs.declared.types.FileMetaData.{FileMetaData}
use Rattle.leveldb_version.proofs.Versions.DeeperLevelsLemmas.{test_tells_base_level}
use Rattle.leveldb_version.proofs.Versions.SearchLemmas.{in_order_back, kept_passes, passes_kept}
use Rattle.leveldb_version.specs.Versions.DeeperLevels.{is_base_level_for}
use Rattle.leveldb_version.specs.Versions.Search.{AreDisjointLevels, TakesNextFile}
use Rattle.leveldb_files.specs.Levels.Summary.{files_of_level}
use Rattle.leveldb_version.specs.Versions.Version.{AreInVersionOrder}
use Rattle.leveldb_files.specs.Edits.Edit.{NewFile}
use Rattle.leveldb_version.specs.Edits.VersionEdit.{new_file_of}

-- ---- the files below a level

-- the last files of a version are in its order
pub last_in_order : (cmp : List ℕ → List ℕ → Ordering) (files : List (ℕ × FileMetaData)) (count : ℕ) → AreInVersionOrder cmp (map new_file_of files)
    → AreInVersionOrder cmp (map new_file_of (drop count files))
last_in_order cmp files count sorted =
    in_order_back cmp (map new_file_of (take count files)) (map new_file_of (drop count files))
    (subst (AreInVersionOrder cmp) (sym (sym (map-append new_file_of (take count files) (drop count files)) ∙ ap (map new_file_of) (take-append-drop count files))) sorted)

module _ (level : ℕ) (files : List (ℕ × FileMetaData)) (count : ℕ) (bound : count ≤ length files)
    (point : IsPartitionPoint (λ (f : ℕ × FileMetaData). leb f.0 level ≡ true) (λ (f : ℕ × FileMetaData). leb f.0 level ≡ false) files count) where
  before : All (λ (f : ℕ × FileMetaData). f.0 ≤ level) (take count files)
  before k d within =
      let less : k < count = let long = length-take count files in omega (arith, within, long, bound) in
      let same = ap (λ (f : ℕ × FileMetaData). f.0) (get_or-take count files k d less) in
      let most = leb-true (get_or files k d).0 level (point.0 k d (omega arith) less) in
      omega (arith, same, most)

  after : All (λ (f : ℕ × FileMetaData). level < f.0) (drop count files)
  after k d within =
      let long = length-drop count files in
      let same = ap (λ (f : ℕ × FileMetaData). f.0) (get_or-drop count files k d) in
      let other = point.1 (count + k) d (omega arith) (omega (arith, within, long)) in
      let above = above_level (get_or files (count + k) d).0 other in
      omega (arith, same, above)
    where
      above_level : (n : ℕ) → leb n level ≡ false → level < n
      above_level n e = grind arith

  parts : map new_file_of (take count files) ++ map new_file_of (drop count files) ≡ map new_file_of files
  parts = sym (map-append new_file_of (take count files) (drop count files)) ∙ ap (map new_file_of) (take-append-drop count files)

  -- a file below the level is among them
  deeper_there : (file : NewFile) → Contains (map new_file_of files) file → level < file.level → Contains (map new_file_of (drop count files)) file
  deeper_there file c deep = ⊎_elim
      (λ (d : Contains (map new_file_of (take count files)) file).
      let one = in_map new_file_of (take count files) file d in
      let most = All-contains (λ (f : ℕ × FileMetaData). f.0 ≤ level) (take count files) one.0 before one.1 in
      let same = ap (λ (f : NewFile). f.level) one.2 in
      absurd (omega (arith, most, same, deep)))
      (λ (d : Contains (map new_file_of (drop count files)) file). d)
      (Contains-append_cases (map new_file_of (take count files)) (map new_file_of (drop count files)) file (subst (λ (fs : List NewFile). Contains fs file) (sym parts) c))

  -- and they are files below the level
  there_deeper : (file : NewFile) → Contains (map new_file_of (drop count files)) file → Contains (map new_file_of files) file × (level < file.level)
  there_deeper file c =
      let one = in_map new_file_of (drop count files) file c in
      let more = All-contains (λ (f : ℕ × FileMetaData). level < f.0) (drop count files) one.0 after one.1 in
      let same = ap (λ (f : NewFile). f.level) one.2 in (
        subst (λ (fs : List NewFile). Contains fs file) parts (Contains-append_right (map new_file_of (take count files)) (map new_file_of (drop count files)) file c),
        omega (arith, more, same),
      )

  module _ (cmp : List ℕ → List ℕ → Ordering) (key : List ℕ) where
    apart_below : AreDisjointLevels cmp (map new_file_of files) → AreDisjointLevels cmp (map new_file_of (drop count files))
    apart_below apart n positive = record {
      ordered = λ file c. (apart n positive).ordered file (up file c);
      apart = λ a b c d. (apart n positive).apart a b (up a c) (up b d);
    }
      where
        up : (file : NewFile) → Contains (files_of_level n (map new_file_of (drop count files))) file → Contains (files_of_level n (map new_file_of files)) file
        up file c =
            let kept = kept_passes (λ (f : NewFile). f.level == n) (map new_file_of (drop count files)) file c in
            passes_kept (λ (f : NewFile). f.level == n) (map new_file_of files) file (there_deeper file kept.0).0 kept.1

    -- a search through them that finds a file or none tells whether the key is in a range below the
    -- level
    pub search_tells : (found : Option (Bor (ℕ × FileMetaData))) (new : List NewFile)
        → TakesNextFile cmp key (map new_file_of (drop count files)) (option_map new_file_of (option_copied found)) new
        → AreDisjointLevels cmp (map new_file_of files) → not (is_some found) ≡ is_base_level_for cmp level (map new_file_of files) key
    search_tells None new takes apart =
        sym ((test_tells_base_level cmp level (map new_file_of files) key).1 (λ file c deep range. ⊎_elim
        (λ (never : None ≡ Some file). absurd cc)
        (λ (d : Contains new file). in_none file (subst (λ (fs : List NewFile). Contains fs file) (takes.none_left refl) d))
        (takes.others (apart_below apart) file (deeper_there file c deep) range)))
    search_tells (Some one) new takes apart =
        sym (is_false (is_base_level_for cmp level (map new_file_of files) key) (λ yes.
        let file = new_file_of one.now in
        let range = (takes.first (apart_below apart)).0 in
        let there = there_deeper file (Contains-permutation (file ∷ (new ++ takes.passed)) (map new_file_of (drop count files)) file
        (IsPermutation-sym (map new_file_of (drop count files)) (file ∷ (new ++ takes.passed)) takes.once) (in_front file (new ++ takes.passed))) in
        (test_tells_base_level cmp level (map new_file_of files) key).0 yes file there.0 there.1 range))

pub turned_round : (a b : Bool) → not a ≡ b → a ≡ not b
turned_round true b e = ap not e
turned_round false b e = ap not e
