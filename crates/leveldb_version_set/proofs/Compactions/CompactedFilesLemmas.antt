-- The files of a compaction alone, whatever is in them: those of each level stay apart.
use Rattle.std.proofs.Common.{◌≡◌, ◌≢◌, ◌⊎◌, inl, inr, ⊎_elim, ℕ, ◌+◌, ◌==◌, false, true, List, rules, sym, ◌∙◌, ap, subst, arith}
use Rattle.std.specs.Prelude.{Contains}
use Rattle.std.specs.Cmp.{IsTotalOrder}
use Rattle.std.specs.Ordering.{is_lt}
use Rattle.std.specs.declared.cmp.Ordering.{Ordering}
use Rattle.std.specs.declared.cmp.Ordering.TheVariants.{Less}
use Rattle.std.proofs.lemmas.Bool.{eqb-true}
use Rattle.leveldb_base.specs.KeyTypes.{user_part}
use Rattle.leveldb_base.proofs.OrderLemmas.{le_lt, lt_le, lt_less, not_less}
use Rattle.leveldb_version_set.proofs.Compactions.CompactionLemmas.{IsOutside, IsPlaced, begins_after, ends_first, lies_in, outside}
use Rattle.leveldb_version.proofs.Versions.DeeperLevelsLemmas.{meets}
use Rattle.leveldb_version.proofs.Versions.SearchLemmas.{kept_passes, passes_kept}
use Rattle.leveldb_version_set.specs.Compactions.Compaction.{IsWithinInputs, MayCompact}
use Rattle.leveldb_version_set.specs.Compactions.CompactionLaws.{CompactedFilesStayApart}
use Rattle.leveldb_files.specs.Levels.Levels.{AreDisjoint}
use Rattle.leveldb_version.specs.Versions.Search.{AreDisjointLevels}
use Rattle.leveldb_files.specs.Levels.Summary.{files_of_level}
use Rattle.leveldb_files.specs.Edits.Edit.{NewFile}

module _ (cmp : List ℕ → List ℕ → Ordering) (total : IsTotalOrder cmp) (level : ℕ)
    (files inputs outputs after : List NewFile) (levels : AreDisjointLevels cmp files)
    (may : MayCompact cmp files level inputs)
    (made : (file : NewFile) → Contains outputs file
    → (file.level ≡ level + 1) × IsWithinInputs cmp inputs file)
    (apart : (a b : NewFile) → Contains outputs a → Contains outputs b
    → (a ≡ b) ⊎ AreDisjoint cmp a b)
    (after_is : (file : NewFile) → Contains after file
    → Contains outputs file ⊎ (Contains files file × (Contains inputs file → ⊥))) where
  abbrev Stays : NewFile → Type 0
  Stays file = Contains files file × (Contains inputs file → ⊥)

  in_files : (file : NewFile) → Contains files file → (n : ℕ) → file.level ≡ n
      → Contains (files_of_level n files) file
  in_files file there n at = passes_kept (λ (f : NewFile). f.level == n) files file there
      (ap (λ k. k == n) at ∙ n_is n)
    where
      n_is : (k : ℕ) → (k == k) ≡ true
      n_is k = search rules

  -- an output is apart from a file that stays in its level
  beside : (r o : NewFile) → Stays r → r.level ≡ level + 1 → Contains outputs o
      → AreDisjoint cmp r o
  beside r o stays at out = by (outside cmp may.low may.high r
      (λ e. stays.1 ((may.next r stays.0 at).1 e)))
    where
      ordered : is_lt (cmp (user_part r.largest) (user_part r.smallest)) ≡ false
      ordered = not_less _ ((levels (level + 1) (omega arith)).ordered r
          (in_files r stays.0 (level + 1) at))

      placed : (a : NewFile) → Contains inputs a → IsPlaced cmp may.low may.high r a
      placed a there = ⊎_elim
          (λ (x : a.level ≡ level).
          inl (lies_in cmp may.low may.high a (may.covered a there x)))
          (λ (x : a.level ≡ level + 1).
          let meet = meets cmp may.low may.high a ((may.next a (may.there a there) x).0 there) in
          inr (
            meet.0,
            meet.1,
            ⊎_elim
                (λ (same : r ≡ a). absurd (stays.1 (subst (Contains inputs) (sym same) there)))
                (λ (d : AreDisjoint cmp r a). d)
                ((levels (level + 1) (omega arith)).apart r a (in_files r stays.0 (level + 1) at)
                (in_files a (may.there a there) (level + 1) x)),
          ))
          (may.levels a there)

      within : IsWithinInputs cmp inputs o
      within = (made o out).1

      by : IsOutside cmp may.low may.high r → AreDisjoint cmp r o
      by (inl less) =
          let a = within.from in
          inl (lt_less _ (lt_le total (user_part r.largest) (user_part a.0.smallest)
          (user_part o.smallest)
          (ends_first cmp total may.low may.high r a.0 ordered less (placed a.0 a.1))
          (not_less _ a.2)))
      by (inr less) =
          let a = within.to in
          inr (lt_less _ (le_lt total (user_part o.largest) (user_part a.0.largest)
          (user_part r.smallest) (not_less _ a.2)
          (begins_after cmp total may.low may.high r a.0 ordered less (placed a.0 a.1))))

  stay_apart : AreDisjointLevels cmp after
  stay_apart n deep = record { ordered = ordered; apart = apart_then }
    where
      in_level : (file : NewFile) → Contains (files_of_level n after) file
          → Contains after file × (file.level ≡ n)
      in_level file c = let kept = kept_passes (λ (f : NewFile). f.level == n) after file c in
          (kept.0, eqb-true file.level n kept.1)

      ordered : (file : NewFile) → Contains (files_of_level n after) file
          → cmp (user_part file.largest) (user_part file.smallest) ≢ Less
      ordered file c =
          let at = in_level file c in
          ⊎_elim (λ (o : Contains outputs file). (made file o).1.ordered)
          (λ (s : Stays file). (levels n deep).ordered file (in_files file s.0 n at.1))
          (after_is file at.0)

      apart_then : (a b : NewFile) → Contains (files_of_level n after) a
          → Contains (files_of_level n after) b → (a ≡ b) ⊎ AreDisjoint cmp a b
      apart_then a b c d = by (after_is a (in_level a c).0) (after_is b (in_level b d).0)
        where
          same : a.level ≡ b.level
          same = (in_level a c).1 ∙ sym (in_level b d).1

          by : Contains outputs a ⊎ Stays a → Contains outputs b ⊎ Stays b
              → (a ≡ b) ⊎ AreDisjoint cmp a b
          by (inl o) (inl q) = apart a b o q
          by (inr s) (inr t) = (levels n deep).apart a b (in_files a s.0 n (in_level a c).1)
              (in_files b t.0 n (in_level b d).1)
          by (inr s) (inl q) = inr (beside a b s (same ∙ (made b q).0) q)
          by (inl o) (inr t) =
              inr (turn (beside b a t (sym same ∙ (made a o).0) o))
            where
              turn : AreDisjoint cmp b a → AreDisjoint cmp a b
              turn (inl x) = inr x
              turn (inr x) = inl x

pub compacted_files_stay_apart : CompactedFilesStayApart
compacted_files_stay_apart cmp total level files inputs outputs after levels may made apart after_is =
    stay_apart cmp total level files inputs outputs after levels may made apart after_is
