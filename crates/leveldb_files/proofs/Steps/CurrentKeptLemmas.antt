-- `CURRENT` is kept in a safe store, since a crash could leave another byte in place of its
-- newline.
use Rattle.leveldb_base.proofs.NamesLemmas.{made_name}
use Rattle.leveldb_base.specs.History.{History}
use Rattle.leveldb_base.specs.Names.{file_name}
use Rattle.leveldb_base.specs.Types.{Pair}
use Rattle.leveldb_base.specs.declared.types.FileType.TheVariants.{Current, Descriptor, Log}
use Rattle.leveldb_env.proofs.EnvLemmas.{at_other, at_same}
use Rattle.leveldb_env.specs.Env.{AreBytes, File, FileCrashesTo, Files, FilesCrashTo, bytes_of, in_folder, kept_file, with_file}
use Rattle.leveldb_mem.specs.Log.{HonestTail, log_block_size}
use Rattle.leveldb_files.proofs.Histories.HonestCrashLemmas.{all_honest, all_kept, all_leaves}
use Rattle.leveldb_files.proofs.Stores.ManagedLemmas.{kinds_apart}
use Rattle.leveldb_files.proofs.Histories.SafeLemmas.{leaves_with, some_is}
use Rattle.leveldb_files.specs.Stores.Contents.{Contents, Store}
use Rattle.leveldb_files.specs.Histories.Holds.{IsHonest, IsSafe}
use Rattle.leveldb_files.specs.Stores.Paths.{IsJournal, current_path}
use Rattle.leveldb_files.specs.Stores.Store.{IsStore}
use Rattle.leveldb_files.specs.Steps.StoreSteps.{AppendedAreBytes, IsKept}
use Rattle.std.proofs.Common.{◌++◌, ◌∙◌, ◌∷◌, ◌≡◌, Bool, List, None, Option, Some, [], ap, append-nil, arith, false, inl, inr, length, refl, subst, suc, sym, true, zero, ℕ}
use Rattle.std.proofs.lemmas.List.{same_from_push}
use Rattle.std.specs.Cmp.Lexicographic.{bytes_decides}
use Rattle.std.specs.Str.{bytes_eq}
use Rattle.std.specs.declared.cmp.Ordering.{Ordering}

-- a zero after bytes
zero_after : (front : List ℕ) → AreBytes front → AreBytes (front ++ 0 ∷ [])
zero_after [] are zero = omega arith
zero_after [] are (suc i) = omega arith
zero_after (b ∷ front) are zero = are zero
zero_after (b ∷ front) are (suc i) = zero_after front (λ k. are (suc k)) i

module _ (store : List ℕ) (cmp : List ℕ → List ℕ → Ordering)
    (IsTableOf : List ℕ → List Pair → Type 0) where
  -- `CURRENT` is no journal
  no_journal : IsJournal store (current_path store) → ⊥
  no_journal (inl (name, n, is, same)) = let never : true ≡ false =
      sym ((bytes_decides (current_path store) (in_folder store name)).1 same)
      ∙ kinds_apart store (file_name Current 0) name 0 n Current Log (made_name Current 0 refl) is
      (λ d. cc) in cc
  no_journal (inr (name, n, is, same)) = let never : true ≡ false =
      sym ((bytes_decides (current_path store) (in_folder store name)).1 same)
      ∙ kinds_apart store (file_name Current 0) name 0 n Current Descriptor
      (made_name Current 0 refl) is (λ d. cc) in cc

  -- a crash may leave anything of it
  spoiled_honest : (files : Files) (file : Option File)
      → IsHonest store files (with_file (current_path store) file (all_kept files))
  spoiled_honest files file name was is journal there found =
      by (bytes_eq (current_path store) name) refl
    where
      by : (b : Bool) → bytes_eq (current_path store) name ≡ b
          → HonestTail log_block_size (bytes_of was) (bytes_of is)
      by true e =
          absurd
          (no_journal
          (subst (IsJournal store) (sym ((bytes_decides (current_path store) name).0 e)) journal))
      by false e =
          all_honest store files name was is journal there
          (sym (at_other (current_path store) file (all_kept files) name e) ∙ found)

  pub safe_current_kept :
      (files : Files) (bytes : AppendedAreBytes files) (allowed : Store → Type 0) (bound durable : ℕ)
      (history : History)
      → IsSafe store (IsStore store cmp IsTableOf) allowed bound durable history files
      → (current : File) → files (current_path store) ≡ Some current → current.since ≡ []
  safe_current_kept files bytes allowed bound durable history safe current there =
      by current.since refl
    where
      by : (since : List ℕ) → current.since ≡ since → current.since ≡ []
      by [] e = e
      by (b ∷ more) e = absurd (spoiled (safe left leaves honest).carries.read)
        where
          now : File
          now = kept_file (current.kept ++ 0 ∷ [])

          left : Files
          left = with_file (current_path store) (Some now) (all_kept files)

          leaves : FilesCrashTo files left
          leaves = leaves_with (current_path store) files files (all_kept files) (Some now)
              (λ other away. refl) (all_leaves files bytes)
              (subst (λ f. FileCrashesTo f (Some now)) (sym there) (
                0 ∷ [],
                zero_after [] (λ i. omega arith),
                (let l = ap length e in omega (arith, l)),
                refl,
              ))

          honest : IsHonest store files left
          honest = spoiled_honest files (Some now)

          spoiled : {contents : Contents} → IsStore store cmp IsTableOf left contents → ⊥
          spoiled (inl bare) = let never : None ≡ Some now = sym bare.0.no_current
              ∙ at_same (current_path store) (Some now) (all_kept files) in cc
          spoiled (inr m) =
              let h = m.has_edits in
              let same : h.current
              ≡ now =
              some_is h.current now
              (sym h.current_there ∙ at_same (current_path store) (Some now) (all_kept files))
              in
              let text : (current.kept ++ 0 ∷ []) ++ [] ≡ h.name ++ 10 ∷ [] = sym (ap bytes_of same)
              ∙ h.named.1 in
              let last =
              (same_from_push current.kept h.name 0 10
              (sym (append-nil (current.kept ++ 0 ∷ [])) ∙ text)).1 in
              omega (arith, last)

  pub current_kept : (files : Files) (bytes : AppendedAreBytes files) (allowed : Store → Type 0)
      (bound durable : ℕ) (history : History)
      → IsSafe store (IsStore store cmp IsTableOf) allowed bound durable history files
      → IsKept (files (current_path store))
  current_kept files bytes allowed bound durable history safe =
      by (files (current_path store)) refl
    where
      by : (file : Option File) → files (current_path store) ≡ file → IsKept file
      by None e = tt
      by (Some file) e =
          safe_current_kept files bytes allowed bound durable history safe file e
