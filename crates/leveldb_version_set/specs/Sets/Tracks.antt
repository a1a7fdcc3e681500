-- That a version set is what the edits of a store's manifest leave, and that the next edit may be
-- logged.
use Rattle.std.specs.Prelude.{◌≡◌, ◌≤◌, ◌<◌, ◌%◌, ◌^◌, ℕ, List, [], length, None, Some, IfSome, IsSome}
use Rattle.std.specs.Option.{unwrap_or}
use Rattle.leveldb_env.specs.Env.{Files, bytes_of, in_folder}
use Rattle.leveldb_mem.specs.Log.{log_block_size}
use Rattle.leveldb_mem.specs.Log.Writer.{new_writer}
use Rattle.leveldb_files.specs.Stores.Store.{HasEdits}
use Rattle.leveldb_files.specs.Steps.StoreSteps.{IsManifestOpen}
use Rattle.leveldb_files.specs.Edits.Edit.{Edit, IsEncodable}
use Rattle.leveldb_files.specs.Edits.VersionSet.{IsFullEdit, live_after}
use Rattle.leveldb_version_set.specs.Sets.VersionSetValue.{OpenManifest, VersionSetValue, in_use, unmade}

-- an edit sets none of the numbers
pub record SetsNoNumber (edit : Edit) : Type 0 where
  pub log_number : edit.log_number ≡ None
  pub previous_log : edit.previous_log ≡ None
  pub next_file : edit.next_file ≡ None
  pub last_sequence : edit.last_sequence ≡ None

-- The set is what these edits leave: their files in one edit that can be written, and their
-- numbers. The next file's number and the last entry's may have risen since, and a number that may
-- be taken back isn't below the one that the edits give to the next file.
pub record IsLeftBy (edits : List Edit) (set : VersionSetValue) : Type 0 where
  pub full : IsFullEdit (live_after edits) set.full
  pub writable : IsEncodable set.full
  pub no_numbers : SetsNoNumber set.full
  pub comparator : IsSome set.full.comparator
  pub log_number : (live_after edits).log_number ≡ Some set.log_number
  pub previous_log : unwrap_or (live_after edits).previous_log 0 ≡ set.previous_log
  pub next_file : IfSome (live_after edits).next_file (λ n. n ≤ set.next_file)
  pub given : IfSome (live_after edits).next_file (λ n. IfSome set.given (λ given. n ≤ given))
  pub last_sequence : IfSome (live_after edits).last_sequence (λ n. n ≤ set.last_sequence)

-- the manifest is the one that `CURRENT` names, it is kept and has these edits, and its writer is
-- at its end
pub record IsInUse (store : List ℕ) (files : Files) (edits : List Edit) (manifest : OpenManifest)
    : Type 0 where
  pub opened : IsManifestOpen store files edits
  pub manifest_kept : opened.has_edits.manifest.since ≡ []
  pub path : manifest.path ≡ in_folder store opened.has_edits.name
  pub writer : manifest.writer
      ≡ new_writer log_block_size (length (bytes_of opened.has_edits.manifest) % log_block_size)

-- `CURRENT` is kept and names a manifest of these edits, whose number is below this one, which a
-- file can have
pub record IsNumberedBelow (store : List ℕ) (files : Files) (edits : List Edit) (n : ℕ)
    : Type 0 where
  pub has_edits : HasEdits store files edits
  pub current_kept : has_edits.current.since ≡ []
  pub below : has_edits.number < n
  pub fits : n < 2 ^ 64

-- The set is what the edits of the files' manifest leave; the manifest in use is that one, or a new
-- one may be made. Of the files of a broken set nothing is said.
pub record Tracks (files : Files) (edits : List Edit) (set : VersionSetValue) : Type 0 where
  pub left : IsLeftBy edits set
  pub used : (manifest : OpenManifest) → set.manifest ≡ in_use manifest
      → IsInUse set.store files edits manifest
  pub not_made : set.manifest ≡ unmade
      → IsNumberedBelow set.store files edits set.manifest_number
