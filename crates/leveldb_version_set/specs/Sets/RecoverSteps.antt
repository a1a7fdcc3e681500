-- What the steps of recovering a version set return, and why they fail.
use Rattle.std.specs.Prelude.{◌≡◌, ◌<◌, ◌+◌, ◌⊎◌, ◌↔◌, ◌^◌, ◌%◌, ℕ, Bool, List, None, Option, Result, IsSomeAnd, IsTrue, if◌then◌else◌, length, string_bytes}
use Rattle.std.specs.Option.{unwrap_or}
use Rattle.std.specs.declared.cmp.Ordering.{Ordering}
use Rattle.leveldb_base.specs.declared.error.Status.{Status}
use Rattle.leveldb_env.specs.declared.env.Env.{Ghosts}
use Rattle.leveldb_env.specs.Env.{File, Files, FilesUnchanged, Observed, Run, SameLocks, bytes_of, in_folder}
use Rattle.leveldb_env.specs.WholeFiles.{IsLost}
use Rattle.leveldb_mem.specs.Log.{End, IsLogFile, log_block_size}
use Rattle.leveldb_mem.specs.Log.Files.{IsHuge}
use Rattle.leveldb_mem.specs.Log.Writer.{new_writer}
use Rattle.leveldb_version_set.specs.Sets.CurrentFile.{IsCurrentUnread}
use Rattle.leveldb_version_set.specs.Sets.Recover.{IsNamed, IsRead, IsReusable, IsUsable, ReadManifest, RecoverResult, next_number_after}
use Rattle.leveldb_version_set.specs.Sets.Replay.{AreReplayed, IsNoManifest, IsReplayOf}
use Rattle.leveldb_version.specs.Edits.VersionEdit.{edit_of}
use Rattle.leveldb_version_set.specs.Sets.VersionSetValue.{VersionSetValue, in_use, unmade}
use Rattle.leveldb_version_set.specs.declared.version_set.recover.RecoveryPlan.{RecoveryPlan}
use Rattle.leveldb_version_set.specs.declared.version_set.replay.Replayed.{Replayed}

-- ---- reading the manifest

-- the file is there, and is a log of these records before this end, of this size
abbrev pub IsSizedLog : Option File → List (List ℕ) → End → ℕ → Type 0
IsSizedLog file records end size = IsSomeAnd file (λ file.
    IsLogFile (bytes_of file) records end × (length (bytes_of file) ≡ size))

-- the value has what the records of a file leave, which has this end and this size
pub record IsSizedReplay (models_disk : Bool) (file : Option File) (left : Replayed) (end : End)
    (size : ℕ) : Type 0 where
  pub records : List (List ℕ)
  pub replayed : AreReplayed records left
  pub log : IsTrue models_disk → IsSizedLog file records end size

-- the manifest's file is missing, or has a record of 2^64 bytes, or one that encodes no edit; or
-- memory was out
abbrev pub IsFileUnread : Bool → List ℕ → Observed → ℕ → ℕ → Status → Type 0
IsFileUnread models_disk path before failed now_failed e =
    IsLost models_disk path before failed now_failed e
    ⊎ ((now_failed ≡ failed) × (IsHuge models_disk (before.disk.files path) e
    ⊎ IsNoManifest models_disk (before.disk.files path) e))

-- the manifest of this path and number is the one that `CURRENT` names
pub record IsManifestAt (models_disk : Bool) (store : List ℕ) (files : Files) (path : List ℕ)
    (number : ℕ) : Type 0 where
  pub name : List ℕ
  pub path_is : path ≡ in_folder store name
  pub named : IsTrue models_disk → IsNamed store files name number

-- and it has this size and these records before this end
pub record IsManifestRead (models_disk : Bool) (store : List ℕ) (files : Files) (path : List ℕ)
    (number : ℕ) (records : List (List ℕ)) (end : End) (size : ℕ) : Type 0 where
  pub at : IsManifestAt models_disk store files path number
  pub read : IsTrue models_disk → IsSizedLog (files path) records end size

-- `CURRENT` names no manifest, or one that isn't read
abbrev pub IsManifestUnread : Bool → List ℕ → Observed → ℕ → ℕ → Status → Type 0
IsManifestUnread models_disk store before failed now_failed status =
    IsCurrentUnread models_disk store before failed now_failed status
    ⊎ ((name : List ℕ) × (n : ℕ)
    × (IsTrue models_disk → IsNamed store before.disk.files name n)
    × IsFileUnread models_disk (in_folder store name) before failed now_failed status)

-- ---- what the set is to become

-- The plan has what was read of a manifest that a store may begin with: where it is and its size,
-- whether it goes on to be used, what its edits leave, and the number of the next file.
pub record IsRecoveryPlan (models_disk : Bool) (cmp : List ℕ → List ℕ → Ordering)
    (comparator : List ℕ) (reuse : Bool) (limit : ℕ) (old : VersionSetValue) (files : Files)
    (plan : RecoveryPlan) : Type 0 where
  pub manifest : ReadManifest
  pub read : IsTrue models_disk → IsRead old.store files manifest
  pub usable : IsUsable cmp comparator manifest.edits
  pub path : string_bytes plan.path ≡ in_folder old.store manifest.name
  pub number : plan.number ≡ manifest.number
  pub size : plan.size ≡ manifest.size
  pub reuses : IsTrue plan.reuses ↔ IsReusable reuse limit manifest
  pub left : IsReplayOf manifest.edits plan.left
  pub next_file : plan.next_file ≡ next_number_after old manifest.edits manifest.number
  pub fits : plan.next_file + 1 < 2 ^ 64

-- the set that was planned, with the manifest that was read where it goes on to be used, else with
-- a new one to be made, which takes a number
abbrev pub set_installed : VersionSetValue → RecoveryPlan → Bool → VersionSetValue
set_installed old plan goes_on = record old {
  full = edit_of plan.left.full;
  next_file = if goes_on then plan.next_file else plan.next_file + 1;
  given = None;
  manifest_number = if goes_on then plan.number else plan.next_file;
  last_sequence = unwrap_or plan.left.last_sequence 0;
  log_number = unwrap_or plan.left.log_number 0;
  previous_log = unwrap_or plan.left.previous_log 0;
  manifest = if goes_on then in_use (record {
    path = string_bytes plan.path;
    writer = new_writer log_block_size (plan.size % log_block_size);
  }) else unmade;
}

-- Whatever reading led to the plan, so that the files stayed as they were, carrying it out does the
-- rest of recovering.
abbrev pub AppliesPlan : {E F : Type 0} → Ghosts E F → RecoveryPlan → VersionSetValue → E
    → Result Bool Status → VersionSetValue → E → Type 0
AppliesPlan {E} env plan old read result new after =
    (cmp : List ℕ → List ℕ → Ordering) (comparator : List ℕ) (reuse : Bool) (limit : ℕ)
    (start : E)
    → IsRecoveryPlan env.models_disk cmp comparator reuse limit old
    (env.observed start).disk.files plan
    → (IsTrue env.models_disk → Run (FilesUnchanged (env.observed start).disk.files)
    (env.observed start) (env.observed read))
    → SameLocks env.models_disk (env.observed start) (env.observed read)
    → RecoverResult env.models_disk cmp comparator reuse limit old (env.observed start)
    (env.failures read) result new (env.observed after) (env.failures after)
