-- What holds of every version set: the statements that the contracts of module `laws` name.
use Rattle.std.specs.Prelude.{◌≡◌, ◌≤◌, ◌<◌, ◌^◌, ℕ, Bool, List, [], ◌∷◌, ◌++◌, Some}
use Rattle.std.specs.declared.cmp.Ordering.{Ordering}
use Rattle.leveldb_base.specs.Types.{Pair}
use Rattle.leveldb_env.specs.Env.{AreBytes, Files, in_folder, synced}
use Rattle.leveldb_mem.specs.Log.Writer.{frame}
use Rattle.leveldb_files.specs.Stores.Contents.{Store, made}
use Rattle.leveldb_version.specs.Edits.FullEdit.{full_after}
use Rattle.leveldb_version_set.specs.Sets.LogEdit.{AppendingAndSyncing, edit_record, new_records, set_appended, set_begun, with_bytes_kept, written_edit}
use Rattle.leveldb_version_set.specs.Sets.NewManifest.{MakingManifest, manifest_bytes, with_manifest}
use Rattle.leveldb_version_set.specs.Sets.NewStore.{first_edit, first_manifest}
use Rattle.leveldb_files.specs.Stores.Paths.{current_path}
use Rattle.leveldb_version_set.specs.Sets.Recover.{IsNamed, IsRead, IsReusable, IsUsable, ReadManifest, set_going_on, set_starting_anew}
use Rattle.leveldb_files.specs.Stores.Store.{HasNoStore, contents_of}
use Rattle.leveldb_files.specs.Steps.StoreSteps.{AppendedAreBytes, EditRefines, IsAllKept, IsKept, KeepsHistory}
use Rattle.leveldb_version_set.specs.Sets.Tracks.{Tracks}
use Rattle.leveldb_files.specs.Edits.Edit.{Edit, IsEncodable}
use Rattle.leveldb_files.specs.Edits.VersionSet.{IsFullEdit, live_after}
use Rattle.leveldb_version_set.specs.Sets.VersionSetValue.{OpenManifest, VersionSetValue, in_use, unmade, with_number_free, with_number_given, with_numbers_used}

-- an edit of all that there is stays one when another edit is applied to it
abbrev pub FullEditsStayFull : Type 0
FullEditsStayFull = (edits : List Edit) (full edit : Edit) → IsFullEdit (live_after edits) full
    → IsFullEdit (live_after (edits ++ edit ∷ [])) (full_after full edit)

-- ---- which set tracks its manifest

-- A set that goes on with a kept `CURRENT` and a usable manifest tracks it, once that is synced.
abbrev pub GoingOnIsTracked : Type 0
GoingOnIsTracked = (cmp : List ℕ → List ℕ → Ordering) (comparator : List ℕ) (reuse : Bool)
    (limit : ℕ) (old : VersionSetValue) (manifest : ReadManifest) (files : Files)
    → IsRead old.store files manifest → IsUsable cmp comparator manifest.edits
    → IsReusable reuse limit manifest → IsKept (files (current_path old.store))
    → Tracks (synced (in_folder old.store manifest.name) files) manifest.edits
    (set_going_on old manifest)

-- So does one that is to begin a new manifest.
abbrev pub StartingAnewIsTracked : Type 0
StartingAnewIsTracked = (cmp : List ℕ → List ℕ → Ordering) (comparator : List ℕ)
    (old : VersionSetValue) (manifest : ReadManifest) (files : Files)
    → IsRead old.store files manifest → IsUsable cmp comparator manifest.edits
    → IsKept (files (current_path old.store))
    → (set_starting_anew old manifest).next_file < 2 ^ 64
    → Tracks files manifest.edits (set_starting_anew old manifest)

-- after an edit is appended the set tracks the manifest, which has it
abbrev pub AppendedEditsAreTracked : Type 0
AppendedEditsAreTracked = (files : Files) (edits : List Edit) (set : VersionSetValue) (edit : Edit)
    → Tracks files edits set → IsEncodable (written_edit set edit)
    → (manifest : OpenManifest) → set.manifest ≡ in_use manifest
    → Tracks (with_bytes_kept manifest.path (frame manifest.writer (edit_record set edit)) files)
    (edits ++ written_edit set edit ∷ []) (set_appended manifest set edit)

-- after an edit began a new manifest the set tracks that, which has two edits
abbrev pub BegunEditsAreTracked : Type 0
BegunEditsAreTracked = (files : Files) (edits : List Edit) (set : VersionSetValue) (edit : Edit)
    → Tracks files edits set → IsEncodable (written_edit set edit) → set.manifest ≡ unmade
    → Tracks
    (with_manifest set.store set.manifest_number (manifest_bytes (new_records set edit)) files)
    (set.full ∷ written_edit set edit ∷ []) (set_begun set edit)

-- the text of `CURRENT` names a manifest of this name
abbrev pub NamesManifest : List ℕ → Files → List ℕ → Type 0
NamesManifest store files name = (n : ℕ) × IsNamed store files name n

-- What a set does between two edits leaves it tracking: numbers of files are given, taken back and
-- marked, entries get numbers, and other files than `CURRENT` and the manifest change.
pub record StaysTracked (files : Files) (edits : List Edit) (set : VersionSetValue)
    : Type 0 where
  pub given : Tracks files edits (with_number_given set)
  pub free : (n : ℕ) → set.given ≡ Some n → Tracks files edits (with_number_free set n)
  pub used : (n : ℕ) → Tracks files edits (with_numbers_used set n)
  pub numbered : (last : ℕ) → set.last_sequence ≤ last
      → Tracks files edits (record set { last_sequence = last })
  pub others : (now : Files) → now (current_path set.store) ≡ files (current_path set.store)
      → ((name : List ℕ) → NamesManifest set.store files name
      → now (in_folder set.store name) ≡ files (in_folder set.store name))
      → Tracks now edits set

-- a set that tracks its manifest goes on to do so
abbrev pub SetsStayTracked : Type 0
SetsStayTracked = (files : Files) (edits : List Edit) (set : VersionSetValue)
    → Tracks files edits set → StaysTracked files edits set

module _ (store : List ℕ) (cmp : List ℕ → List ℕ → Ordering)
    (IsTableOf : List ℕ → List Pair → Type 0) (allowed : Store → Type 0) where
  -- ---- what is kept on the way

  -- an edit that changes nothing that is shown keeps each history while it is appended and synced
  abbrev pub AppendedEditsKeep : Type 0
  AppendedEditsKeep = (files : Files) (edits : List Edit) (set : VersionSetValue) (edit : Edit)
      → Tracks files edits set → set.store ≡ store → AppendedAreBytes files
      → IsEncodable (written_edit set edit) → AreBytes (edit_record set edit)
      → (bound : ℕ) → EditRefines store cmp IsTableOf bound files edits (written_edit set edit)
      → (manifest : OpenManifest) → set.manifest ≡ in_use manifest → (now : Files)
      → AppendingAndSyncing manifest.path (frame manifest.writer (edit_record set edit)) files now
      → KeepsHistory store cmp IsTableOf allowed bound files now

  -- so does one that begins a new manifest, before and after `CURRENT` names that
  abbrev pub BegunEditsKeep : Type 0
  BegunEditsKeep = (files : Files) (edits : List Edit) (set : VersionSetValue) (edit : Edit)
      → Tracks files edits set → set.store ≡ store → AppendedAreBytes files
      → IsEncodable (written_edit set edit)
      → (bound : ℕ) → EditRefines store cmp IsTableOf bound files edits (written_edit set edit)
      → set.manifest ≡ unmade → (now : Files)
      → MakingManifest store set.manifest_number (manifest_bytes (new_records set edit)) files now
      → KeepsHistory store cmp IsTableOf allowed bound files now

  -- Where no store is there, each history is kept while the first manifest is made, and then the
  -- store is there, has no entry, and all that is read of it is kept.
  pub record NewStoreIsKept (comparator : List ℕ) (files : Files) : Type 0 where
    pub meanwhile : (bound : ℕ) (now : Files)
        → MakingManifest store 1 (first_manifest comparator) files now
        → KeepsHistory store cmp IsTableOf allowed bound files now
    pub after : IsAllKept store cmp IsTableOf
        (with_manifest store 1 (first_manifest comparator) files)
        (contents_of comparator [] [] 0)

  -- new stores are kept
  abbrev pub NewStoresAreKept : Type 0
  NewStoresAreKept = (comparator : List ℕ) (files : Files) → HasNoStore store files
      → AppendedAreBytes files → IsEncodable (first_edit comparator)
      → allowed (made (Some comparator)) → NewStoreIsKept comparator files
