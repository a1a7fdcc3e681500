-- What logging an edit does to a version set and to its manifest.
use Rattle.std.specs.Prelude.{◌≡◌, ◌≢◌, ◌⊎◌, ◌<◌, ◌^◌, ℕ, Bool, List, [], ◌∷◌, Some, None, Result, IfErr, IsErrAnd, IsTrue, OnOk}
use Rattle.std.specs.Option.{option_or, unwrap_or}
use Rattle.leveldb_base.specs.declared.error.Status.{Status}
use Rattle.leveldb_base.specs.declared.error.StatusCode.TheVariants.{InvalidArgument}
use Rattle.leveldb_base.specs.Error.{IsOutOfMemory}
use Rattle.leveldb_env.specs.Env.{AppendedAreBytes, AreBytes, ChangesFiles, Files, FilesUnchanged, HasCause, Observed, PrefixAppended, Run, extended, synced}
use Rattle.leveldb_env.specs.WholeFiles.{IsLost, IsLostUnobserved}
use Rattle.leveldb_mem.specs.Log.{log_block_size}
use Rattle.leveldb_mem.specs.Log.Writer.{IsWriterBroken, after_frame, frame, new_writer}
use Rattle.leveldb_version_set.specs.Sets.CurrentFile.{temp_path}
use Rattle.leveldb_version.specs.Edits.FullEdit.{full_after}
use Rattle.leveldb_version_set.specs.Sets.NewManifest.{MakingManifest, manifest_bytes, with_manifest}
use Rattle.leveldb_files.specs.Stores.Paths.{manifest_path}
use Rattle.leveldb_files.specs.Edits.Edit.{Edit, LevelsFit, edit_bytes}
use Rattle.leveldb_version_set.specs.Sets.VersionSetValue.{OpenManifest, VersionSetValue, broken, in_use, unmade}

-- ---- the edit and the set

-- The edit as it is written: with the set's numbers, and no previous log. A log number of its own
-- stays.
abbrev pub written_edit : VersionSetValue → Edit → Edit
written_edit set edit = record edit {
  log_number = option_or edit.log_number (Some set.log_number);
  previous_log = Some 0;
  next_file = Some set.next_file;
  last_sequence = Some set.last_sequence;
}

-- the set after the edit: the number that was given last may not be taken back any more
abbrev pub after_edit : VersionSetValue → Edit → VersionSetValue
after_edit set edit = record set {
  full = full_after set.full edit;
  given = None;
  log_number = unwrap_or edit.log_number set.log_number;
  previous_log = 0;
}

-- ---- into the manifest in use

-- the record that is written for the edit
abbrev pub edit_record : VersionSetValue → Edit → List ℕ
edit_record set edit = edit_bytes (written_edit set edit)

-- the manifest has these bytes more, and all of it is kept
abbrev pub with_bytes_kept : List ℕ → List ℕ → Files → Files
with_bytes_kept path bytes files = synced path (extended path bytes files)

-- on the way to that: some of the bytes were appended, or all is done
abbrev pub AppendingAndSyncing : List ℕ → List ℕ → Files → Files → Type 0
AppendingAndSyncing path bytes old files =
    PrefixAppended path bytes old files ⊎ (files ≡ with_bytes_kept path bytes old)

-- the set with the edit appended to its manifest
abbrev pub set_appended : OpenManifest → VersionSetValue → Edit → VersionSetValue
set_appended manifest set edit = record (after_edit set edit) {
  manifest = in_use (record manifest {
    writer = after_frame manifest.writer (edit_record set edit);
  });
}

-- The edit is appended to the manifest in use, which is then synced. Else memory is out and nothing
-- was done, or the set is broken.
pub record AppendsEdit (models_disk : Bool) (manifest : OpenManifest) (old : VersionSetValue)
    (edit : Edit) (before : Observed) (failed : ℕ) (result : Result (Unit {0}) Status)
    (new : VersionSetValue) (after : Observed) (now_failed : ℕ) : Type 0 where
  -- what the call makes of the files, and what they are meanwhile
  pub does : IsTrue models_disk → ChangesFiles models_disk
      (with_bytes_kept manifest.path (frame manifest.writer (edit_record old edit)))
      (AppendingAndSyncing manifest.path (frame manifest.writer (edit_record old edit)))
      before after result
  -- the set after an Ok and after an Err
  pub ok : OnOk result (new ≡ set_appended manifest old edit)
  pub err : IfErr result (λ status.
      (IsOutOfMemory status × (new ≡ old)
      × (IsTrue models_disk → after.disk.files ≡ before.disk.files))
      ⊎ (new ≡ record old { manifest = broken }))
  -- an Err is out of memory, the manifest is missing, or a failure was counted
  pub cause : HasCause (IsLost models_disk manifest.path before failed now_failed)
      failed now_failed result

-- The edit's record is bytes, and the next file's number has 64 bits; or the call fails before it
-- does anything.
abbrev pub WritesBytes : Bool → VersionSetValue → Edit → Observed → Result (Unit {0}) Status
    → Observed → Type 0
WritesBytes models_disk old edit before result after =
    (AreBytes (edit_record old edit) × (old.next_file < 2 ^ 64))
    ⊎ (OnOk result ⊥
    × (IsTrue models_disk → Run (FilesUnchanged before.disk.files) before after))

-- ---- into a new manifest

-- the records of a new manifest: one edit of all that there is, and the edit
abbrev pub new_records : VersionSetValue → Edit → List (List ℕ)
new_records set edit = edit_bytes set.full ∷ edit_record set edit ∷ []

-- the new manifest in use, after its two records
abbrev pub new_manifest : VersionSetValue → Edit → OpenManifest
new_manifest set edit = record {
  path = manifest_path set.store set.manifest_number;
  writer = after_frame (after_frame (new_writer log_block_size 0) (edit_bytes set.full))
      (edit_record set edit);
}

-- the set with the edit in a new manifest
abbrev pub set_begun : VersionSetValue → Edit → VersionSetValue
set_begun set edit = record (after_edit set edit) { manifest = in_use (new_manifest set edit) }

-- The edit begins a new manifest of the number that the set has for it, and `CURRENT` names it.
-- Else memory is out and nothing was done, or the set is broken: no other manifest is begun.
pub record BeginsManifest (models_disk : Bool) (old : VersionSetValue)
    (edit : Edit) (before : Observed) (failed : ℕ) (result : Result (Unit {0}) Status)
    (new : VersionSetValue) (after : Observed) (now_failed : ℕ) : Type 0 where
  -- what the call makes of the files, and what they are meanwhile
  pub does : IsTrue models_disk → ChangesFiles models_disk
      (with_manifest old.store old.manifest_number (manifest_bytes (new_records old edit)))
      (MakingManifest old.store old.manifest_number (manifest_bytes (new_records old edit)))
      before after result
  -- what is appended to files are bytes, also where the call fails
  pub bytes : IsTrue models_disk → AppendedAreBytes before.disk.files
      → AppendedAreBytes after.disk.files
  -- the set after an Ok and after an Err
  pub ok : OnOk result (new ≡ set_begun old edit)
  pub err : IfErr result (λ status.
      (IsOutOfMemory status × (new ≡ old)
      × (IsTrue models_disk → after.disk.files ≡ before.disk.files))
      ⊎ (new ≡ record old { manifest = broken }))
  -- an Err is out of memory, or a failure was counted; or, where no disk is observed, the temporary
  -- file is missing that was just made
  pub cause : HasCause (IsLostUnobserved models_disk (temp_path old.store old.manifest_number)
      failed now_failed) failed now_failed result

-- ---- what the call returns and leaves

-- the edit names a level that there isn't
pub record NamesUnknownLevel (edit : Edit) (status : Status) : Type 0 where
  pub code : status.code ≡ InvalidArgument
  pub unknown : LevelsFit edit → ⊥

-- A broken set does nothing, nor does one that is given an edit of a level that there isn't. Else
-- the edit is appended to the manifest in use, or begins a new one.
pub record LogEditResult (models_disk : Bool) (old : VersionSetValue)
    (edit : Edit) (before : Observed) (failed : ℕ) (result : Result (Unit {0}) Status)
    (new : VersionSetValue) (after : Observed) (now_failed : ℕ) : Type 0 where
  pub broken_before : old.manifest ≡ broken → IsErrAnd result IsWriterBroken
      × (new ≡ old) × Run (FilesUnchanged before.disk.files) before after
      × (now_failed ≡ failed)
  pub levels : old.manifest ≢ broken → (LevelsFit edit → ⊥)
      → IsErrAnd result (NamesUnknownLevel edit)
      × (new ≡ old) × Run (FilesUnchanged before.disk.files) before after
      × (now_failed ≡ failed)
  pub used : LevelsFit edit → (manifest : OpenManifest) → old.manifest ≡ in_use manifest
      → AppendsEdit models_disk manifest old edit before failed result new after now_failed
  pub not_made : LevelsFit edit → old.manifest ≡ unmade
      → BeginsManifest models_disk old edit before failed result new after now_failed
