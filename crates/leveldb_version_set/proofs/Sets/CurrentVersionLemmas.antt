-- The current version of a version set: its files are those of the set.
use Rattle.std.specs.Prelude.{◌&&◌, All, IsPermutation, OnErr, OnOk, is_none, map}
use Rattle.std.proofs.Common.{◌≡◌, ◌∙◌, ◌∷◌, ◌-◌, ◌<◌, ◌^◌, ℕ, Bool, true, false, cond, List, [], Err, None, Ok, Option, Result, Some, ap, arith, refl, subst, sym}
use Rattle.std.proofs.lemmas.List.Elements.{All-nil}
use Rattle.std.proofs.lemmas.List.Sorted.{IsPermutation-map, IsPermutation-refl}
use Rattle.std.specs.List.{list_any}
use Rattle.std.specs.declared.cmp.Ordering.{Ordering}
use Rattle.leveldb_base.specs.declared.error.Status.{Status}
use Rattle.leveldb_base.specs.declared.types.FileMetaData.{FileMetaData}
use Rattle.leveldb_version.proofs.Versions.ChangeLemmas.{versions_follow_edits}
use Rattle.leveldb_version.proofs.Versions.SearchLemmas.{all_from_contains, each_fits}
use Rattle.leveldb_version.specs.Versions.Change.{IsVersionAfter}
use Rattle.leveldb_version_set.specs.Sets.CurrentVersion.{IsCurrent, VersionsValue}
use Rattle.leveldb_version.specs.Edits.FullEdit.{files_after}
use Rattle.leveldb_version.specs.Versions.Version.{AreInVersionOrder, FilesFit, IsVersionOf, VersionValue, after_seek, charged, has_last_seek, is_named, new_files_of, with_first_seeks}
use Rattle.leveldb_files.specs.Edits.Edit.{Edit, LevelFile, NewFile}
use Rattle.leveldb_version.specs.Edits.VersionEdit.{new_file_of}
use Rattle.leveldb_version_set.specs.Sets.VersionSetValue.{VersionSetValue}

-- files have the same ranges with whatever seeks
same_with_seeks : (files : List (ℕ × FileMetaData))
    → map new_file_of (map with_first_seeks files) ≡ map new_file_of files
same_with_seeks [] = refl
same_with_seeks (file ∷ files) = ap (λ fs. new_file_of file ∷ fs) (same_with_seeks files)

-- a version of the set's files is current
pub made_current : {C : Type 0} (order : List ℕ → List ℕ → Ordering) (cmp : C)
    (set : VersionSetValue) (files : List (ℕ × FileMetaData)) (version : VersionValue C)
    → IsVersionOf order cmp files version → map new_file_of files ≡ set.full.added
    → FilesFit version.files → IsCurrent order cmp set version
made_current order cmp set files version is same fit = record {
  cmp_is = is.cmp_is;
  in_order = is.in_order;
  fit = all_from_contains (λ (file : NewFile). (file.number < 2 ^ 64) × (file.size < 2 ^ 64))
      (new_files_of version) (each_fits version.files fit);
  same_files = subst (λ live. IsPermutation live (new_files_of version))
      (same_with_seeks files ∙ same)
      (IsPermutation-map new_file_of (map with_first_seeks files) version.files is.files_are);
}

-- and of no files the empty one
pub none_current : {C : Type 0} {order : List ℕ → List ℕ → Ordering} {cmp : C}
    {set : VersionSetValue} → set.full.added ≡ []
    → IsCurrent order cmp set (record { cmp = cmp; files = []; chosen = None })
none_current none = record {
  cmp_is = refl;
  same_files = subst (λ files. IsPermutation files []) (sym none) (IsPermutation-refl []);
  in_order = λ k file least within. absurd (omega arith);
  fit = All-nil (λ (file : NewFile). (file.number < 2 ^ 64) × (file.size < 2 ^ 64));
}

-- a set with a version
abbrev pub with_version : {C : Type 0} → VersionSetValue → VersionValue C → VersionsValue C
with_version set current = record { set = set; current = current }

-- ---- calls on numbers

-- a call that changes numbers alone keeps the files, after an Ok and after an Err
pub only_numbers : {T : Type 0} (result : Result T Status) (old after new : VersionSetValue)
    → after.full ≡ old.full → OnOk result (new ≡ after) → OnErr result (new ≡ old)
    → new.full ≡ old.full
only_numbers (Ok value) old after new same ok err = ap (λ (s : VersionSetValue). s.full) ok ∙ same
only_numbers (Err status) old after new same ok err = ap (λ (s : VersionSetValue). s.full) err

module _ {T C : Type 0} (current : VersionValue C) where
  -- what it makes of the set it makes of the set with its version, after an Ok
  pub versions_after_ok : (result : Result T Status) (after new : VersionSetValue)
      → OnOk result (new ≡ after) → OnOk {T = T} {E = Status} result (with_version new current ≡ with_version after current)
  versions_after_ok (Ok value) after new ok = ap (λ (s : VersionSetValue). with_version s current) ok
  versions_after_ok (Err status) after new ok = tt

  -- and after an Err
  pub versions_after_err : (result : Result T Status) (old new : VersionSetValue)
      → OnErr result (new ≡ old) → OnErr {T = T} {E = Status} result (with_version new current ≡ with_version old current)
  versions_after_err (Ok value) old new err = tt
  versions_after_err (Err status) old new err = ap (λ (s : VersionSetValue). with_version s current) err

-- ---- other sets

-- it is current for each set of these files
pub still_current : {C : Type 0} {order : List ℕ → List ℕ → Ordering} (cmp : C)
    (old new : VersionSetValue) (version : VersionValue C) → new.full ≡ old.full
    → IsCurrent order cmp old version → IsCurrent order cmp new version
still_current cmp old new version same is = record {
  cmp_is = is.cmp_is;
  in_order = is.in_order;
  fit = is.fit;
  same_files = subst (λ (full : Edit). IsPermutation full.added (new_files_of version))
      (sym same) is.same_files;
}

-- ---- seeks

-- a file is the same but for its seeks
same_after_seek : (at : LevelFile) (file : ℕ × FileMetaData)
    → new_file_of (after_seek at file) ≡ new_file_of file
same_after_seek at file = by (is_named at file)
  where
    by : (b : Bool) → new_file_of (cond b
        (file.0, record file.1 { allowed_seeks = file.1.allowed_seeks - 1 }) file)
        ≡ new_file_of file
    by true = refl
    by false = refl

same_after_seeks : (at : LevelFile) (files : List (ℕ × FileMetaData))
    → map new_file_of (map (after_seek at) files) ≡ map new_file_of files
same_after_seeks at [] = refl
same_after_seeks at (file ∷ files) =
    λ i. same_after_seek at file i ∷ same_after_seeks at files i

-- a charge keeps the comparator
pub charged_cmp : {C : Type 0} (version : VersionValue C) (charge : Option LevelFile)
    → (charged version charge).0.cmp ≡ version.cmp
charged_cmp version None = refl
charged_cmp {C} version (Some at) =
    by (is_none version.chosen && list_any (has_last_seek at) version.files)
  where
    by : (b : Bool) → (cond {A = VersionValue C × Bool} b
        (record version { chosen = Some at }, true)
        (record version { files = map (after_seek at) version.files }, false)).0.cmp ≡ version.cmp
    by true = refl
    by false = refl

-- a version is current still when a file is charged with a seek
pub charged_current : {C : Type 0} {order : List ℕ → List ℕ → Ordering} (cmp : C)
    (set : VersionSetValue) (version : VersionValue C) → IsCurrent order cmp set version
    → (charge : Option LevelFile) → IsCurrent order cmp set (charged version charge).0
charged_current cmp set version is None = is
charged_current {C} {order} cmp set version is (Some at) =
    by (is_none version.chosen && list_any (has_last_seek at) version.files)
  where
    by : (b : Bool) → IsCurrent order cmp set (cond {A = VersionValue C × Bool} b
        (record version { chosen = Some at }, true)
        (record version { files = map (after_seek at) version.files }, false)).0
    by true = record {
      cmp_is = is.cmp_is;
      same_files = is.same_files;
      in_order = is.in_order;
      fit = is.fit;
    }
    by false = record {
      cmp_is = is.cmp_is;
      in_order = subst (AreInVersionOrder order) (sym (same_after_seeks at version.files)) is.in_order;
      fit = subst (All (λ (file : NewFile). (file.number < 2 ^ 64) × (file.size < 2 ^ 64)))
          (sym (same_after_seeks at version.files)) is.fit;
      same_files = subst (IsPermutation set.full.added)
          (sym (same_after_seeks at version.files)) is.same_files;
    }

-- ---- an edit

-- the version after an edit is current for the set after it
pub current_after : {C : Type 0} {order : List ℕ → List ℕ → Ordering} (cmp : C) (edit : Edit)
    (set next : VersionSetValue) (old new : VersionValue C) → IsCurrent order cmp set old
    → next.full.added ≡ files_after edit set.full.added → IsVersionAfter order edit old new
    → FilesFit new.files → IsCurrent order cmp next new
current_after {order = order} cmp edit set next old new is added after fit = record {
  cmp_is = after.same_cmp ∙ is.cmp_is;
  in_order = after.in_order;
  fit = all_from_contains (λ (file : NewFile). (file.number < 2 ^ 64) × (file.size < 2 ^ 64))
      (new_files_of new) (each_fits new.files fit);
  same_files = subst (λ files. IsPermutation files (new_files_of new)) (sym added)
      (versions_follow_edits order edit set.full.added old new is.same_files after);
}
