-- The files of each level are apart where a store may begin with the edits that leave them.
use Rattle.std.specs.Prelude.{◌≢◌, Contains}
use Rattle.std.proofs.Common.{◌≡◌, ◌⊎◌, inl, inr, ⊎_elim, ℕ, ◌==◌, ◌<◌, ◌≤◌, List, [], ◌∷◌, ◌++◌, Some, sym, ◌∙◌, ap, subst, arith}
use Rattle.std.proofs.lemmas.Bool.{eq-eqb, eqb-true}
use Rattle.std.proofs.lemmas.List.Elements.{Contains-push_cases}
use Rattle.std.specs.Cmp.{IsTotalOrder}
use Rattle.std.specs.Ordering.{nat_cmp, ordering_reverse, ordering_then}
use Rattle.std.specs.declared.cmp.Ordering.{Ordering}
use Rattle.std.specs.declared.cmp.Ordering.TheVariants.{Greater, Less}
use Rattle.leveldb_base.specs.KeyTypes.{internal_cmp, sequence_part, user_part}
use Rattle.leveldb_files.proofs.Levels.OutputLevelLemmas.{apart_from, free_down_to, none_passes}
use Rattle.leveldb_version.proofs.Versions.SearchLemmas.{kept_passes, passes_kept, same_or_not}
use Rattle.leveldb_files.specs.Levels.Levels.{AreDisjoint}
use Rattle.leveldb_files.specs.Levels.Overlap.{file_range, output_level, overlaps}
use Rattle.leveldb_version_set.specs.Sets.Recover.{IsUsable}
use Rattle.leveldb_version.specs.Versions.Search.{AreDisjointLevels}
use Rattle.leveldb_files.specs.Levels.Summary.{files_of_level}
use Rattle.leveldb_files.specs.Edits.Edit.{Edit, NewFile}
use Rattle.leveldb_files.specs.Edits.VersionSet.{level_file, live_after}

not_turned : {cmp : List ℕ → List ℕ → Ordering} → IsTotalOrder cmp → (smallest largest : List ℕ) → internal_cmp cmp smallest largest ≢ Greater → cmp (user_part largest) (user_part smallest) ≢ Less
not_turned {cmp} total smallest largest up less = up (ap (λ o. ordering_then o (nat_cmp (sequence_part largest) (sequence_part smallest))) (total.antisymm (user_part smallest) (user_part largest) ∙ ap ordering_reverse less))

pub usable_disjoint : (cmp : List ℕ → List ℕ → Ordering) → IsTotalOrder cmp → (comparator : List ℕ) (edits : List Edit) → IsUsable cmp comparator edits → (files : List NewFile)
    → ((file : NewFile) → Contains files file → (live_after edits).file (level_file file) ≡ Some file) → AreDisjointLevels cmp files
usable_disjoint cmp total comparator edits usable files live level deep = record {
  ordered = λ file c. not_turned total file.smallest file.largest (usable.ranges file (live file (in_level file c).0)).in_order;
  apart = apart;
}
  where
    in_level : (file : NewFile) → Contains (files_of_level level files) file → Contains files file × (file.level ≡ level)
    in_level file c = let kept = kept_passes (λ (f : NewFile). f.level == level) files file c in (kept.0, eqb-true file.level level kept.1)

    same_some : {A : Type 0} {x y : A} → Some x ≡ Some y → x ≡ y
    same_some e = cc

    apart : (a b : NewFile) → Contains (files_of_level level files) a → Contains (files_of_level level files) b → (a ≡ b) ⊎ AreDisjoint cmp a b
    apart a b c d =
        let p = in_level a c in
        let q = in_level b d in
        ⊎_elim
        (λ (same : a.number ≡ b.number).
        let at : level_file a ≡ level_file b = λ i. ((p.1 ∙ sym q.1) i, same i) in
        inl (same_some (sym (live a p.0) ∙ ap (live_after edits).file at ∙ live b q.0)))
        (λ (differ : a.number ≢ b.number). inr (usable.disjoint a b (record {
          a_live = live a p.0;
          b_live = live b q.0;
          same_level = p.1 ∙ sym q.1;
          not_level_zero = let at = p.1 in omega (arith, at, deep);
          others = differ;
        })))
        (same_or_not a.number b.number)
