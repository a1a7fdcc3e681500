-- A manifest of one edit, such as that with which a store begins that isn't there yet.
use Rattle.std.specs.Prelude.{ℕ, Bool, List, [], ◌∷◌, Some, Result, IsTrue}
use Rattle.leveldb_base.specs.declared.error.Status.{Status}
use Rattle.leveldb_env.specs.Env.{AppendedAreBytes, ChangesFiles, HasCause, Observed, SameLocks}
use Rattle.leveldb_env.specs.WholeFiles.{IsLostUnobserved}
use Rattle.leveldb_version_set.specs.Sets.CurrentFile.{temp_path}
use Rattle.leveldb_version_set.specs.Sets.NewManifest.{MakingManifest, manifest_bytes, with_manifest}
use Rattle.leveldb_files.specs.Edits.Edit.{Edit, edit_bytes, empty_edit}

-- the one edit of a new store: its comparator's name, no log yet, the number after the manifest's,
-- and no entry
abbrev pub first_edit : List ℕ → Edit
first_edit comparator = record empty_edit {
  comparator = Some comparator;
  log_number = Some 0;
  next_file = Some 2;
  last_sequence = Some 0;
}

-- the bytes of its manifest, whose number is 1
abbrev pub first_manifest : List ℕ → List ℕ
first_manifest comparator = manifest_bytes (edit_bytes (first_edit comparator) ∷ [])

-- What making a manifest of this number with one edit, which `CURRENT` then names, returns and
-- leaves: it is made, or a call of the environment failed. Then `CURRENT` may name it, too.
pub record MakesManifest (models_disk : Bool) (store : List ℕ) (n : ℕ) (edit : Edit)
    (before : Observed) (failed : ℕ) (result : Result (Unit {0}) Status) (after : Observed)
    (now_failed : ℕ) : Type 0 where
  pub does : IsTrue models_disk → ChangesFiles models_disk
      (with_manifest store n (manifest_bytes (edit_bytes edit ∷ [])))
      (MakingManifest store n (manifest_bytes (edit_bytes edit ∷ []))) before after result
  -- what is appended to files are bytes, also where the call fails
  pub bytes : IsTrue models_disk → AppendedAreBytes before.disk.files
      → AppendedAreBytes after.disk.files
  pub locks : SameLocks models_disk before after
  pub cause : HasCause (IsLostUnobserved models_disk (temp_path store n) failed now_failed)
      failed now_failed result

-- the same of a new store's manifest
abbrev pub MakeStoreResult : Bool → List ℕ → List ℕ → Observed → ℕ → Result (Unit {0}) Status
    → Observed → ℕ → Type 0
MakeStoreResult models_disk store comparator =
    MakesManifest models_disk store 1 (first_edit comparator)
