-- What a version set is: the files that the edits of its manifest leave, and its current version.
use Rattle.std.specs.Prelude.{◌≡◌, ◌<◌, ◌^◌, ℕ, List, [], None, All, IsPermutation}
use Rattle.std.specs.declared.cmp.Ordering.{Ordering}
use Rattle.leveldb_version.specs.Versions.Version.{AreInVersionOrder, VersionValue, new_files_of}
use Rattle.leveldb_files.specs.Edits.Edit.{NewFile}
use Rattle.leveldb_version_set.specs.Sets.VersionSetValue.{VersionSetValue, new_version_set}

-- a version set with its version
pub record VersionsValue (C : Type 0) : Type 0 where
  -- the files as the manifest's edits leave them, their numbers, and the manifest
  pub set : VersionSetValue
  -- the same files by levels, with the seeks that each may take
  pub current : VersionValue C

-- the version has this comparator, and the live files of the set, up to their seeks, in the order
-- of a version; their numbers and their sizes have 64 bits
pub record IsCurrent {C : Type 0} (order : List ℕ → List ℕ → Ordering) (cmp : C)
    (set : VersionSetValue) (version : VersionValue C) : Type 0 where
  pub cmp_is : version.cmp ≡ cmp
  pub same_files : IsPermutation set.full.added (new_files_of version)
  pub in_order : AreInVersionOrder order (new_files_of version)
  pub fit : All (λ (file : NewFile). (file.number < 2 ^ 64) × (file.size < 2 ^ 64))
      (new_files_of version)

-- a version set without files, for a store that isn't read yet
abbrev pub new_versions : {C : Type 0} → List ℕ → List ℕ → C → VersionsValue C
new_versions store comparator cmp = record {
  set = new_version_set store comparator;
  current = record { cmp = cmp; files = []; chosen = None };
}
