-- Files of which none is turned round.
use Rattle.std.specs.Prelude.{◌≢◌, Contains}
use Rattle.std.specs.declared.cmp.Ordering.{Ordering}
use Rattle.std.specs.declared.cmp.Ordering.TheVariants.{Less}
use Rattle.std.proofs.Common.{◌≡◌, ◌⊎◌, ⊎_elim, ◌∷◌, ◌++◌, ℕ, List, [], subst, sym}
use Rattle.std.proofs.lemmas.List.{map-append}
use Rattle.std.proofs.lemmas.List.Elements.{Contains-append_cases, Contains-push_cases}
use Rattle.leveldb_base.proofs.HistoryLemmas.{in_none}
use Rattle.leveldb_base.specs.KeyTypes.{user_part}
use Rattle.leveldb_base.specs.declared.types.FileMetaData.{FileMetaData}
use Rattle.leveldb_files.specs.Edits.Edit.{NewFile}
use Rattle.leveldb_version_set.specs.Compactions.Inputs.{AreOrdered}
use Rattle.leveldb_version.specs.Edits.VersionEdit.{new_file_of}
use Rattle.leveldb_store.specs.Openings.OpeningSteps.{made_files}

module _ (cmp : List ℕ → List ℕ → Ordering) where
  -- where there is none
  pub none_ordered : (tables : List FileMetaData) → tables ≡ [] → AreOrdered cmp (made_files tables)
  none_ordered tables none file c = absurd (in_none file
      (subst (λ (list : List FileMetaData). Contains (made_files list) file) none c))

  -- with one more
  pub ordered_push : (files : List NewFile) (one : NewFile)
      → cmp (user_part one.largest) (user_part one.smallest) ≢ Less → AreOrdered cmp files
      → AreOrdered cmp (files ++ one ∷ [])
  ordered_push files one in_order ordered file c = ⊎_elim
      (λ (there : Contains files file). ordered file there)
      (λ (same : one ≡ file). subst (λ (f : NewFile).
      cmp (user_part f.largest) (user_part f.smallest) ≢ Less) same in_order)
      (Contains-push_cases files one file c)

  -- those of some tables and of others
  pub ordered_append : (these those : List FileMetaData) → AreOrdered cmp (made_files these)
      → AreOrdered cmp (made_files those) → AreOrdered cmp (made_files (these ++ those))
  ordered_append these those ordered others = subst (AreOrdered cmp)
      (sym (map-append (λ (file : FileMetaData). new_file_of (0, file)) these those))
      (λ file c. ⊎_elim (λ (here : Contains (made_files these) file). ordered file here)
      (λ (there : Contains (made_files those) file). others file there)
      (Contains-append_cases (made_files these) (made_files those) file c))
