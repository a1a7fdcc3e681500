-- When the files of each level are apart.
use Rattle.std.specs.Prelude.{◌≢◌, Contains}
use Rattle.std.proofs.Common.{◌≡◌, ◌⊎◌, inl, inr, ⊎_elim, ℕ, ◌==◌, ◌<◌, ◌≤◌, List, [], ◌∷◌, ◌++◌, Some, sym, ◌∙◌, ap, subst, arith}
use Rattle.std.proofs.lemmas.Bool.{eq-eqb, eqb-true}
use Rattle.std.proofs.lemmas.List.Elements.{Contains-push_cases}
use Rattle.std.specs.Cmp.{IsTotalOrder}
use Rattle.std.specs.Ordering.{nat_cmp, ordering_reverse, ordering_then}
use Rattle.std.specs.declared.cmp.Ordering.{Ordering}
use Rattle.std.specs.declared.cmp.Ordering.TheVariants.{Greater, Less}
use Rattle.leveldb_base.specs.KeyTypes.{internal_cmp, sequence_part, user_part}
use Rattle.leveldb_files.proofs.Levels.OutputLevelLemmas.{apart_from, free_down_to, none_passes}
use Rattle.leveldb_version.proofs.Versions.SearchLemmas.{kept_passes, passes_kept, same_or_not}
use Rattle.leveldb_files.specs.Levels.Levels.{AreDisjoint}
use Rattle.leveldb_files.specs.Levels.Overlap.{file_range, output_level, overlaps}
use Rattle.leveldb_version.specs.Versions.Search.{AreDisjointLevels}
use Rattle.leveldb_files.specs.Levels.Summary.{files_of_level}
use Rattle.leveldb_files.specs.Edits.Edit.{Edit, NewFile}
use Rattle.leveldb_files.specs.Edits.VersionSet.{level_file, live_after}

pub fewer_disjoint : (cmp : List ℕ → List ℕ → Ordering) (old new : List NewFile) → ((file : NewFile) → Contains new file → Contains old file) → AreDisjointLevels cmp old → AreDisjointLevels cmp new
fewer_disjoint cmp old new there levels level deep = record {
  ordered = λ file c. (levels level deep).ordered file (more file c);
  apart = λ a b c d. (levels level deep).apart a b (more a c) (more b d);
}
  where
    more : (file : NewFile) → Contains (files_of_level level new) file → Contains (files_of_level level old) file
    more file c = let kept = kept_passes (λ (f : NewFile). f.level == level) new file c in passes_kept (λ (f : NewFile). f.level == level) old file (there file kept.0) kept.1

-- ---- the level that is picked

other_way : (cmp : List ℕ → List ℕ → Ordering) (a b : NewFile) → AreDisjoint cmp a b → AreDisjoint cmp b a
other_way cmp a b (inl before) = inr before
other_way cmp a b (inr after) = inl after

pub picked_disjoint : (cmp : List ℕ → List ℕ → Ordering) (files : List NewFile) (file : NewFile) → file.level ≡ output_level cmp (file_range file) files
    → cmp (user_part file.largest) (user_part file.smallest) ≢ Less → AreDisjointLevels cmp files → AreDisjointLevels cmp (files ++ file ∷ [])
picked_disjoint cmp files file picked up levels level deep = record {
  ordered = λ one c. ⊎_elim
      (λ (old : Contains files one). (levels level deep).ordered one (kept one old (in_level one c).1))
      (λ (same : file ≡ one). subst (λ (f : NewFile). cmp (user_part f.largest) (user_part f.smallest) ≢ Less) same up)
      (Contains-push_cases files file one (in_level one c).0);
  apart = λ a b c d.
      let p = in_level a c in
      let q = in_level b d in
      ⊎_elim
      (λ (old_a : Contains files a). ⊎_elim
      (λ (old_b : Contains files b). (levels level deep).apart a b (kept a old_a p.1) (kept b old_b q.1))
      (λ (new_b : file ≡ b). inr (subst (AreDisjoint cmp a) new_b (free a old_a p.1 (ap (λ (f : NewFile). f.level) new_b ∙ q.1))))
      (Contains-push_cases files file b q.0))
      (λ (new_a : file ≡ a). ⊎_elim
      (λ (old_b : Contains files b). inr (subst (λ f. AreDisjoint cmp f b) new_a (other_way cmp b file (free b old_b q.1 (ap (λ (f : NewFile). f.level) new_a ∙ p.1)))))
      (λ (new_b : file ≡ b). inl (sym new_a ∙ new_b))
      (Contains-push_cases files file b q.0))
      (Contains-push_cases files file a p.0);
}
  where
    in_level : (one : NewFile) → Contains (files_of_level level (files ++ file ∷ [])) one → Contains (files ++ file ∷ []) one × (one.level ≡ level)
    in_level one c = let both = kept_passes (λ (f : NewFile). f.level == level) (files ++ file ∷ []) one c in (both.0, eqb-true one.level level both.1)

    kept : (one : NewFile) → Contains files one → one.level ≡ level → Contains (files_of_level level files) one
    kept one c at = passes_kept (λ (f : NewFile). f.level == level) files one c (eq-eqb one.level level at)

    -- no file of its level overlaps it
    free : (one : NewFile) → Contains files one → one.level ≡ level → file.level ≡ level → AreDisjoint cmp one file
    free one c at here =
        let most : level ≤ output_level cmp (file_range file) files = omega (arith, here, picked) in
        let above : 0 < output_level cmp (file_range file) files = omega (arith, most, deep) in
        apart_from cmp one file (none_passes (overlaps cmp (file_range file)) (files_of_level level files) (free_down_to cmp (file_range file) files level above most) one (kept one c at))
