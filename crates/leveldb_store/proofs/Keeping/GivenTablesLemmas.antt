-- Which tables keep their bytes or are gone, when files change.
use Rattle.std.specs.Prelude.{IsSomeAnd}
use Rattle.std.proofs.Common.{◌≡◌, ◌≢◌, ◌∙◌, ◌≤◌, ◌<◌, ◌^◌, ⊎_elim, ℕ, List, Option, None, Some, arith, refl, subst, sym}
use Rattle.leveldb_base.proofs.NamesLemmas.{made_paths_apart}
use Rattle.leveldb_base.specs.declared.types.FileType.{FileType}
use Rattle.leveldb_base.specs.declared.types.FileType.TheVariants.{Table}
use Rattle.leveldb_env.proofs.EnvLemmas.{bytes_eq-apart}
use Rattle.leveldb_env.specs.Env.{File, Files, SameBut, bytes_of}
use Rattle.leveldb_files.specs.Stores.Paths.{IsFilePath, table_path}
use Rattle.leveldb_version.specs.Tables.TableCache.{IsSameOrGone}
use Rattle.leveldb_version_set.specs.Sets.VersionSetValue.{VersionSetValue}
use Rattle.leveldb_store.proofs.Keeping.TableKeepsLemmas.{is_table_path, types_apart}
use Rattle.leveldb_store.specs.Writing.Switch.{RemovesNoOther}
use Rattle.leveldb_store.specs.Keeping.Written.{KeepsGivenTables}

-- ---- one file

pub same_or_gone : (old new : Option File) → new ≡ old → IsSameOrGone old new
same_or_gone old None same = tt
same_or_gone old (Some file) same =
    subst (λ o. IsSomeAnd o (λ before. bytes_of before ≡ bytes_of file)) same refl

gone : (old new : Option File) → new ≡ None → IsSameOrGone old new
gone old new none = subst (IsSameOrGone old) (sym none) tt

in_turn : (old mid new : Option File) → IsSameOrGone old mid → IsSameOrGone mid new
    → IsSameOrGone old new
in_turn old mid None first second = tt
in_turn old None (Some file) first second = absurd second
in_turn None (Some mid) (Some file) first second = absurd first
in_turn (Some old) (Some mid) (Some file) first second = first ∙ second

-- ---- the tables of numbers that were given

-- each of their files is the same
abbrev pub SameGiven : VersionSetValue → Files → Files → Type 0
SameGiven set before after = (number : ℕ) → number < 2 ^ 64 → number < set.next_file
    → after (table_path set.store number) ≡ before (table_path set.store number)

module _ (set : VersionSetValue) where
  pub given_same : (before after : Files) → SameGiven set before after
      → KeepsGivenTables set before after
  given_same before after same number fits given =
      same_or_gone (before (table_path set.store number)) (after (table_path set.store number))
      (same number fits given)

  pub same_then : (before mid after : Files) → SameGiven set before mid
      → SameGiven set mid after → SameGiven set before after
  same_then before mid after first second number fits given =
      second number fits given ∙ first number fits given

  -- a file of another type changes
  pub same_beside : (path : List ℕ) (k : FileType) → IsFilePath k set.store path → k ≢ Table
      → (before after : Files) → SameBut path before after → SameGiven set before after
  same_beside path k its other before after passes number fits given =
      passes (table_path set.store number) (types_apart set.store path
      (table_path set.store number) k Table its (is_table_path set.store number fits) other)

  -- a table of a new number is made
  pub same_beside_new : (n : ℕ) → n < 2 ^ 64 → set.next_file ≤ n → (before after : Files)
      → SameBut (table_path set.store n) before after → SameGiven set before after
  same_beside_new n n_fits least before after passes number fits given =
      passes (table_path set.store number) (bytes_eq-apart _ _ (λ e.
      let same = (made_paths_apart set.store n number Table Table n_fits fits e).0 in
      omega (arith, same, least, given)))

  -- files are deleted, all of them obsolete
  pub given_removed : (kept_to : Option ℕ) (before after : Files)
      → RemovesNoOther set kept_to before after → KeepsGivenTables set before after
  given_removed kept_to before after removes number fits given =
      let path = table_path set.store number in
      ⊎_elim (λ same. same_or_gone (before path) (after path) same)
      (λ deleted. gone (before path) (after path) deleted.1) (removes path)

-- one change after another, while numbers are given
pub given_then : (set later : VersionSetValue) → later.store ≡ set.store
    → set.next_file ≤ later.next_file → (before mid after : Files)
    → KeepsGivenTables set before mid → KeepsGivenTables later mid after
    → KeepsGivenTables set before after
given_then set later store least before mid after first second number fits given =
    let path = table_path set.store number in
    in_turn (before path) (mid path) (after path) (first number fits given)
    (subst (λ s. IsSameOrGone (mid (table_path s number)) (after (table_path s number))) store
    (second number fits (omega (arith, given, least))))
