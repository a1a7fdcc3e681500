-- What the records of a manifest leave, and why they leave nothing.
use Rattle.std.specs.Prelude.{◌≡◌, ◌≤◌, ◌⊎◌, ◌↔◌, ℕ, Bool, List, [], Contains, IfSome, IsErrAnd, IsSomeAnd, IsTrue, Option, Result, drop, fold}
use Rattle.std.specs.Option.{option_or}
use Rattle.leveldb_base.specs.declared.error.Status.{Status}
use Rattle.leveldb_base.specs.declared.error.StatusCode.TheVariants.{Corruption}
use Rattle.leveldb_base.specs.Error.{IsOutOfMemory}
use Rattle.leveldb_base.specs.KeyTypes.{greatest_sequence}
use Rattle.leveldb_env.specs.declared.env.Env.{Ghosts}
use Rattle.leveldb_env.specs.Env.{File, Observed, bytes_of}
use Rattle.leveldb_env.specs.EnvFile.{IsFurther, Opened, opened_file}
use Rattle.leveldb_mem.specs.Log.{End, IsLogFile}
use Rattle.leveldb_mem.specs.Log.Files.{HasReadCause, IsReadAsLog, StopsReadingFile}
use Rattle.leveldb_mem.specs.Log.Reader.{HoldsOfRest, StopsReading}
use Rattle.leveldb_files.specs.Stores.Batches.{Each}
use Rattle.leveldb_version.specs.Edits.FullEdit.{full_after}
use Rattle.leveldb_files.specs.Stores.Store.{LastNumbersFit}
use Rattle.leveldb_files.specs.Edits.Edit.{Edit, IsEdit, NewFile, empty_edit}
use Rattle.leveldb_version.specs.Edits.VersionEdit.{edit_of}
use Rattle.leveldb_files.specs.Edits.VersionSet.{live_after}
use Rattle.leveldb_version.specs.declared.version_edit.VersionEdit.{VersionEdit}
use Rattle.leveldb_version_set.specs.declared.version_set.replay.Replayed.{Replayed}

-- the edit's last sequence number, if it sets one, is at most the greatest
abbrev pub LastNumberFits : Edit → Type 0
LastNumberFits edit = IfSome edit.last_sequence (λ n. n ≤ greatest_sequence)

-- the edit of all that there is, with its files apart
abbrev pub with_files : VersionEdit → List NewFile → Edit
with_files full files = record (edit_of full) { added = files }

-- these edits leave this edit of all that there is, and the value has their numbers
pub record AreLeft (edits : List Edit) (all : Edit) (it : Replayed) : Type 0 where
  pub full : all ≡ fold full_after empty_edit edits
  pub log_number : it.log_number ≡ (live_after edits).log_number
  pub previous_log : it.previous_log ≡ (live_after edits).previous_log
  pub next_file : it.next_file ≡ (live_after edits).next_file
  pub last_sequence : it.last_sequence ≡ (live_after edits).last_sequence
  -- whether each last sequence number is at most the greatest
  pub numbers_fit : IsTrue it.numbers_fit ↔ LastNumbersFit edits

-- the value has what these edits leave
abbrev pub IsReplayOf : List Edit → Replayed → Type 0
IsReplayOf edits it = AreLeft edits (edit_of it.full) it

-- the second value has the numbers that one more edit leaves of the first, and the edit of all is
-- what it leaves of the one before
pub record IsOneMore (edit old_full : Edit) (old : Replayed) (new_full : Edit) (new : Replayed)
    : Type 0 where
  pub full : new_full ≡ full_after old_full edit
  pub log_number : new.log_number ≡ option_or edit.log_number old.log_number
  pub previous_log : new.previous_log ≡ option_or edit.previous_log old.previous_log
  pub next_file : new.next_file ≡ option_or edit.next_file old.next_file
  pub last_sequence : new.last_sequence ≡ option_or edit.last_sequence old.last_sequence
  pub numbers_fit : IsTrue new.numbers_fit ↔ (IsTrue old.numbers_fit × LastNumberFits edit)

-- the bytes encode an edit, and the second value and its files have what it leaves of the first
pub record TakesEdit (bytes : List ℕ) (old : Replayed) (old_files : List NewFile) (new : Replayed)
    (new_files : List NewFile) : Type 0 where
  pub edit : Edit
  pub is_edit : IsEdit bytes edit
  pub more : IsOneMore edit (with_files old.full old_files) old (with_files new.full new_files) new

-- the records encode edits, which leave this edit of all that there is and the value's numbers
pub record AreReplayedTo (records : List (List ℕ)) (full : Edit) (it : Replayed) : Type 0 where
  pub edits : List Edit
  pub each : Each IsEdit records edits
  pub left : AreLeft edits full it

-- the records encode edits, and the value has what these leave
abbrev pub AreReplayed : List (List ℕ) → Replayed → Type 0
AreReplayed records it = AreReplayedTo records (edit_of it.full) it

-- the bytes encode no edit
pub record EncodesNoEdit (bytes : List ℕ) (status : Status) : Type 0 where
  pub code : status.code ≡ Corruption
  pub none : (edit : Edit) → IsEdit bytes edit → ⊥

-- ---- reading records one after another

-- The bytes are a log with a record before its first bad end that encodes no edit.
pub record IsNoLogOfEdits (text : List ℕ) : Type 0 where
  pub records : List (List ℕ)
  pub end : End
  pub read : IsLogFile text records end
  pub bytes : List ℕ
  pub is_record : Contains records bytes
  pub no_edit : (edit : Edit) → IsEdit bytes edit → ⊥

module _ {S : Type 0} (gives : S → ℕ → Result (List ℕ) Status → S → Type 0) where
  -- all that a source still gives is a log with this end, whose records leave this edit of all and
  -- the value's numbers
  pub record ReplaysRestTo (from : S) (full : Edit) (left : Replayed) (end : End) (to : S)
      : Type 0 where
    pub records : List (List ℕ)
    pub replayed : AreReplayedTo records full left
    pub read : HoldsOfRest gives (λ text. IsLogFile text records end) [] from to

  -- the value has all that they leave
  abbrev pub ReplaysRest : S → Replayed → End → S → Type 0
  ReplaysRest from left end to = ReplaysRestTo from (edit_of left.full) left end to

  -- memory was out once the source was read
  pub record RunsOut (from : S) (status : Status) (to : S) : Type 0 where
    pub memory : IsOutOfMemory status
    pub read : HoldsOfRest gives (λ text. Unit {0}) [] from to

  -- a record of the source encodes no edit
  pub record GivesNoEdit (from : S) (status : Status) (to : S) : Type 0 where
    pub code : status.code ≡ Corruption
    pub has : HoldsOfRest gives IsNoLogOfEdits [] from to

  -- why a replay stops
  abbrev pub StopsReplay : S → Status → S → Type 0
  StopsReplay from status to = StopsReading gives from status to
      ⊎ (GivesNoEdit from status to ⊎ RunsOut from status to)

-- ---- the same of a file

module _ {E F : Type 0} (env : Ghosts E F) where
  -- The file was read further on, what it has from its offset on is a log with this end, and the
  -- value has what its records leave.
  pub record ReplaysFileRest (old : Opened E F) (left : Replayed) (end : End) (new : Opened E F)
      : Type 0 where
    pub records : List (List ℕ)
    pub replayed : AreReplayed records left
    pub read : IsReadAsLog env old records end new

  -- the file was read further on, and a record of it encodes no edit
  pub record FindsNoEdit (old : Opened E F) (status : Status) (new : Opened E F) : Type 0 where
    pub code : status.code ≡ Corruption
    pub bytes : List ℕ
    pub further : IsFurther env old bytes new
    pub has : IsTrue env.models_disk → IfSome (opened_file env old) (λ file.
        IsNoLogOfEdits (drop (env.offset_of old.file) (bytes_of file)))

  -- why the replay of the file stopped
  abbrev pub StopsFileReplay : Opened E F → Status → Opened E F → Type 0
  StopsFileReplay old status new = StopsReadingFile env old status new ⊎ FindsNoEdit old status new

-- the file of a disk that is modelled is a log with this end, and the value has what its records
-- leave
pub record IsReplayOfFile (models_disk : Bool) (file : Option File) (left : Replayed) (end : End)
    : Type 0 where
  pub records : List (List ℕ)
  pub replayed : AreReplayed records left
  pub log : IsTrue models_disk → IsSomeAnd file (λ file. IsLogFile (bytes_of file) records end)

-- the file of a disk that is modelled has a record that encodes no edit
abbrev pub IsNoManifest : Bool → Option File → Status → Type 0
IsNoManifest models_disk file status = (status.code ≡ Corruption)
    × (IsTrue models_disk → IsSomeAnd file (λ file. IsNoLogOfEdits (bytes_of file)))

-- why the replay of a file failed: as its reading does, or since a record encodes no edit
abbrev pub HasReplayCause : {T : Type 0} → Bool → List ℕ → Observed → ℕ → ℕ → Result T Status
    → Type 0
HasReplayCause models_disk path observed before now result =
    HasReadCause models_disk path observed before now result
    ⊎ (IsErrAnd result (IsNoManifest models_disk (observed.disk.files path)) × (now ≡ before))
