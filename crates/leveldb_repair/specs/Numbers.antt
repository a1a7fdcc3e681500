-- The numbers of a store's files: those of names, and those that manifests name.
use Rattle.std.specs.Prelude.{◌≡◌, ◌⊎◌, ◌≤◌, ◌+◌, ℕ, List, ◌∷◌, [], All, Any, Contains, IfOk, IsTrue, None, Result, Some, flat_map, string_bytes}
use Rattle.leveldb_base.specs.declared.error.Status.{Status}
use Rattle.leveldb_base.specs.declared.error.StatusCode.TheVariants.{Corruption}
use Rattle.leveldb_base.specs.declared.types.FileType.TheVariants.{Descriptor}
use Rattle.leveldb_env.specs.Env.{File, Files, FilesUnchanged, ListsChildren, Run, SameLocks, in_folder}
use Rattle.leveldb_env.specs.declared.env.Env.{Ghosts}
use Rattle.leveldb_files.specs.Edits.Edit.{Edit, IsEdit}
use Rattle.leveldb_files.specs.Stores.Batches.{Each}
use Rattle.leveldb_version_set.specs.Engines.Writing.{NumbersAreBelow}
use Rattle.leveldb_version_set.specs.Repairs.Repairing.{IsGreatestInFolder, IsNumberIn, numbers_in}
use Rattle.leveldb_store.specs.Logs.ReplayLog.{HasCauseOr}
use Rattle.leveldb_store.specs.Openings.Listing.{AreFilesIn, AreFilesOf}
use Rattle.leveldb_store.specs.declared.opening.listing.ListedFile.{ListedFile}

-- the greatest number of these files, or 0
pub record IsGreatestNumber (listed : List ListedFile) (greatest : ℕ) : Type 0 where
  -- none is above it
  pub above : All (λ (file : ListedFile). file.number ≤ greatest) listed
  -- and one has it, or it is 0
  pub some : (greatest ≡ 0) ⊎ Any (λ (file : ListedFile). file.number ≡ greatest) listed
  -- so if these are the files of a folder, no name there has a greater number
  pub below : (store : List ℕ) (files : Files) (names : List (List ℕ))
      → ListsChildren files store names → AreFilesOf names listed
      → NumbersAreBelow store files (greatest + 1)

-- the number is the greatest of the least one and of those that there are
pub record IsRaised (Among : ℕ → Type 0) (least number : ℕ) : Type 0 where
  pub at_least : least ≤ number
  pub above : (n : ℕ) → Among n → n ≤ number
  pub some : (number ≡ least) ⊎ Among number

-- each of the records is an edit, and one of these names the number
abbrev pub IsNumberInRecords : List (List ℕ) → ℕ → Type 0
IsNumberInRecords records n =
    (edits : List Edit) × Each IsEdit records edits × Contains (flat_map numbers_in edits) n

module _ (store : List ℕ) (files : Files) where
  -- the file is a manifest in the folder, and names the number
  abbrev pub IsNumberInListed : ListedFile → ℕ → Type 0
  IsNumberInListed file n = (file.kind ≡ Descriptor) × (there : File)
      × (files (in_folder store (string_bytes file.name)) ≡ Some there) × IsNumberIn there n

  -- the file is a manifest that is missing
  abbrev pub IsMissingManifest : ListedFile → Type 0
  IsMissingManifest file = (file.kind ≡ Descriptor)
      × (files (in_folder store (string_bytes file.name)) ≡ None)

module _ {E F : Type 0} (env : Ghosts E F) (store : List ℕ) where
  -- A manifest among these files is missing: why their numbers aren't found, where neither memory
  -- is out nor the device fails.
  abbrev pub WhyNoNumbers : E → List ListedFile → Status → Type 0
  WhyNoNumbers from listed status = (status.code ≡ Corruption) × (IsTrue env.models_disk
      → Any (IsMissingManifest store (env.observed from).disk.files) listed)

  -- a number is raised to those that a file names, if it is a manifest
  pub record RaisesToFile (file : ListedFile) (least : ℕ) (from : E) (result : Result ℕ Status)
      (to : E) : Type 0 where
    -- no file changes, at any moment, and no lock does
    pub still : IsTrue env.models_disk → Run (FilesUnchanged (env.observed from).disk.files)
        (env.observed from) (env.observed to)
    pub locks : SameLocks env.models_disk (env.observed from) (env.observed to)
    pub at_least : IfOk result (λ number. least ≤ number)
    pub raised : IfOk result (λ number. IsTrue env.models_disk
        → IsRaised (IsNumberInListed store (env.observed from).disk.files file) least number)
    pub cause : HasCauseOr (WhyNoNumbers from (file ∷ [])) (env.failures from) (env.failures to)
        result

  -- what finding the greatest number returns and leaves
  pub record FindsGreatest (listed : List ListedFile) (from : E) (result : Result ℕ Status)
      (to : E) : Type 0 where
    -- no file changes, at any moment, and no lock does
    pub still : IsTrue env.models_disk → Run (FilesUnchanged (env.observed from).disk.files)
        (env.observed from) (env.observed to)
    pub locks : SameLocks env.models_disk (env.observed from) (env.observed to)
    -- no listed file has a greater number
    pub above : IfOk result (λ greatest. All (λ (file : ListedFile). file.number ≤ greatest) listed)
    -- if these are the files of the folder, it is the greatest of their names and manifests
    pub greatest : IfOk result (λ greatest. IsTrue env.models_disk
        → AreFilesIn env store from listed
        → IsGreatestInFolder store (env.observed from).disk.files greatest)
    pub cause : HasCauseOr (WhyNoNumbers from listed) (env.failures from) (env.failures to) result
