-- What reading a store's manifest makes of a version set, and why it is refused.
use Rattle.std.specs.Prelude.{◌≡◌, ◌≢◌, ◌≤◌, ◌<◌, ◌+◌, ◌%◌, ◌^◌, ◌⊎◌, ℕ, Bool, false, true, List, fold, length, max, IfOk, IsSome, IsSomeAnd, IsTrue, OnErr, OnOk, None, Some, Result, Contains}
use Rattle.std.specs.Option.{unwrap_or}
use Rattle.std.specs.declared.cmp.Ordering.{Ordering}
use Rattle.std.specs.declared.cmp.Ordering.TheVariants.{Less}
use Rattle.leveldb_base.specs.declared.error.Status.{Status}
use Rattle.leveldb_base.specs.declared.error.StatusCode.TheVariants.{Corruption, InvalidArgument, NotSupported}
use Rattle.leveldb_base.specs.KeyTypes.{internal_cmp}
use Rattle.leveldb_env.specs.Env.{BeforeOrAfter, File, Files, FilesUnchanged, HasCause, Observed, Run, SameLocks, bytes_of, in_folder, synced}
use Rattle.leveldb_env.specs.WholeFiles.{IsLost}
use Rattle.leveldb_mem.specs.Log.{End, IsLogFile, clean, log_block_size}
use Rattle.leveldb_mem.specs.Log.Files.{IsHuge}
use Rattle.leveldb_mem.specs.Log.Writer.{new_writer}
use Rattle.leveldb_files.specs.Edits.Current.{IsCurrentText}
use Rattle.leveldb_version_set.specs.Sets.CurrentFile.{IsCurrentUnread}
use Rattle.leveldb_version.specs.Edits.FullEdit.{full_after}
use Rattle.leveldb_files.specs.Levels.Levels.{AreDisjoint}
use Rattle.leveldb_files.specs.Stores.Paths.{current_path}
use Rattle.leveldb_files.specs.Stores.Store.{HasEdits, LastNumbersFit}
use Rattle.leveldb_files.specs.Edits.Edit.{Edit, NewFile, IsEdit, empty_edit}
use Rattle.leveldb_files.specs.Edits.VersionSet.{FileSet, IsKeyRange, level_file, live_after}
use Rattle.leveldb_version_set.specs.Sets.VersionSetValue.{VersionSetValue, broken, in_use, unmade}

-- ---- which edits a store may begin with

module _ (cmp : List ℕ → List ℕ → Ordering) where
  -- two files of one level from 1 on are apart, but for a user key that one ends and the other
  -- begins with
  pub record ShareUserKey (a b : NewFile) : Type 0 where
    pub touch : AreDisjoint cmp a b → ⊥
    pub apart : (internal_cmp cmp a.largest b.smallest ≡ Less)
        ⊎ (internal_cmp cmp b.largest a.smallest ≡ Less)

  -- two files of one level from 1 on have keys in common, or one lies within the other
  pub record Overlap (a b : NewFile) : Type 0 where
    pub after : internal_cmp cmp a.largest b.smallest ≢ Less
    pub before : internal_cmp cmp b.largest a.smallest ≢ Less

  -- two files of the set are in one level from 1 on
  pub record AreBeside (set : FileSet) (a b : NewFile) : Type 0 where
    pub a_live : set.file (level_file a) ≡ Some a
    pub b_live : set.file (level_file b) ≡ Some b
    pub same_level : a.level ≡ b.level
    pub not_level_zero : 0 < a.level
    pub others : a.number ≢ b.number

  -- The edits give the comparator of this name, log number, next file and last sequence number, and
  -- no number past the greatest. Each file's keys are a range, and files that are beside one
  -- another have no user key in common.
  pub record IsUsable (comparator : List ℕ) (edits : List Edit) : Type 0 where
    pub comparator_is : (live_after edits).comparator ≡ Some comparator
    pub log_is : IsSome (live_after edits).log_number
    pub next_file_is : IsSome (live_after edits).next_file
    pub last_is : IsSome (live_after edits).last_sequence
    pub numbers_fit : LastNumbersFit edits
    pub ranges : (file : NewFile) → (live_after edits).file (level_file file) ≡ Some file
        → IsKeyRange cmp file.smallest file.largest
    pub disjoint : (a b : NewFile) → AreBeside (live_after edits) a b → AreDisjoint cmp a b

  -- Why edits are no beginning of a store: one of the four values isn't given; the comparator has
  -- another name; a last sequence number is past the greatest; or by the comparator that is asked
  -- for a file's keys are no range, or two files overlap, or share a user key.
  pub data WhyUnusable (comparator : List ℕ) (edits : List Edit) (status : Status) : Type 0 where
    no_comparator : status.code ≡ Corruption → (live_after edits).comparator ≡ None
        → WhyUnusable comparator edits status
    no_log : status.code ≡ Corruption → (live_after edits).log_number ≡ None
        → WhyUnusable comparator edits status
    no_next_file : status.code ≡ Corruption → (live_after edits).next_file ≡ None
        → WhyUnusable comparator edits status
    no_last : status.code ≡ Corruption → (live_after edits).last_sequence ≡ None
        → WhyUnusable comparator edits status
    other_comparator : status.code ≡ InvalidArgument → (name : List ℕ)
        → (live_after edits).comparator ≡ Some name → name ≢ comparator
        → WhyUnusable comparator edits status
    number_too_great : status.code ≡ Corruption → (LastNumbersFit edits → ⊥)
        → WhyUnusable comparator edits status
    no_range : status.code ≡ Corruption → (live_after edits).comparator ≡ Some comparator
        → (file : NewFile)
        → (live_after edits).file (level_file file) ≡ Some file
        → (IsKeyRange cmp file.smallest file.largest → ⊥) → WhyUnusable comparator edits status
    overlapping : status.code ≡ Corruption → (live_after edits).comparator ≡ Some comparator
        → (a b : NewFile) → AreBeside (live_after edits) a b → Overlap a b
        → WhyUnusable comparator edits status
    shared_user_key : status.code ≡ NotSupported → (a b : NewFile)
        → AreBeside (live_after edits) a b → ShareUserKey a b
        → WhyUnusable comparator edits status

-- ---- the set

-- the greatest number that edits and the name of their manifest have for a file
abbrev pub greatest_file_number : FileSet → ℕ → ℕ
greatest_file_number set manifest = max (unwrap_or set.next_file 0)
    (max manifest (max (unwrap_or set.log_number 0) (unwrap_or set.previous_log 0)))

-- the number that the next file takes: above those of the edits, and not below the old one
abbrev pub next_number_after : VersionSetValue → List Edit → ℕ → ℕ
next_number_after old edits manifest =
    max old.next_file (greatest_file_number (live_after edits) manifest + 1)

-- the set that these edits leave, but for its manifest and the number of the next file
abbrev pub set_left : VersionSetValue → List Edit → VersionSetValue
set_left old edits = record old {
  full = fold full_after empty_edit edits;
  given = None;
  last_sequence = unwrap_or (live_after edits).last_sequence 0;
  log_number = unwrap_or (live_after edits).log_number 0;
  previous_log = unwrap_or (live_after edits).previous_log 0;
}

-- ---- whether the manifest goes on to be used

-- what was read of the manifest: its name and number, its size, its edits and its end
pub record ReadManifest : Type 0 where
  pub name : List ℕ
  pub number : ℕ
  pub size : ℕ
  pub edits : List Edit
  pub end : End

-- a manifest is used on where that is wanted, its end is clean and its size below the limit
pub record IsReusable (reuse : Bool) (limit : ℕ) (manifest : ReadManifest) : Type 0 where
  pub wanted : reuse ≡ true
  pub clean_end : manifest.end ≡ clean
  pub short : manifest.size < limit

-- the set that goes on with the manifest that was read: the next edit is appended to it
abbrev pub set_going_on : VersionSetValue → ReadManifest → VersionSetValue
set_going_on old manifest = record (set_left old manifest.edits) {
  next_file = next_number_after old manifest.edits manifest.number;
  manifest_number = manifest.number;
  manifest = in_use (record {
    path = in_folder old.store manifest.name;
    writer = new_writer log_block_size (manifest.size % log_block_size);
  });
}

-- the set whose next edit begins a new manifest, which takes the next number
abbrev pub set_starting_anew : VersionSetValue → ReadManifest → VersionSetValue
set_starting_anew old manifest = record (set_left old manifest.edits) {
  next_file = next_number_after old manifest.edits manifest.number + 1;
  manifest_number = next_number_after old manifest.edits manifest.number;
  manifest = unmade;
}

-- the set that is read alone: its next edit would begin a new manifest, but no edit is logged
abbrev pub set_read_alone : VersionSetValue → ReadManifest → VersionSetValue
set_read_alone old manifest = record (set_starting_anew old manifest) { manifest = broken }

-- ---- what the call returns and leaves

-- `CURRENT` names this manifest, which was read to its first bad end
pub record IsRead (store : List ℕ) (files : Files) (manifest : ReadManifest) : Type 0 where
  pub has_edits : HasEdits store files manifest.edits
  pub name : has_edits.name ≡ manifest.name
  pub number : has_edits.number ≡ manifest.number
  pub end : has_edits.is.end ≡ manifest.end
  pub size : length (bytes_of has_edits.manifest) ≡ manifest.size

-- the text of `CURRENT` names this manifest
abbrev pub IsNamed : List ℕ → Files → List ℕ → ℕ → Type 0
IsNamed store files name n =
    IsSomeAnd (files (current_path store)) (λ file. IsCurrentText (bytes_of file) name n)

-- the manifest of this name has a record before its first bad end that is no edit
pub record HasRecordOfNoEdit (store : List ℕ) (files : Files) (name : List ℕ) : Type 0 where
  pub manifest : File
  pub there : files (in_folder store name) ≡ Some manifest
  pub records : List (List ℕ)
  pub end : End
  pub read : IsLogFile (bytes_of manifest) records end
  pub bytes : List ℕ
  pub is_record : Contains records bytes
  pub no_edit : (edit : Edit) → IsEdit bytes edit → ⊥

module _ (models_disk : Bool) (cmp : List ℕ → List ℕ → Ordering) (comparator : List ℕ)
    (reuse : Bool) (limit : ℕ) where
  -- The manifest that was read has edits that a store may begin with, and the set is what they
  -- leave. It goes on with the manifest, which is synced; or it is to begin a new one, and `anew`
  -- says so.
  pub record Recovers (old : VersionSetValue) (before : Observed) (anew : Bool)
      (new : VersionSetValue) (after : Observed) : Type 0 where
    pub manifest : ReadManifest
    pub read : IsTrue models_disk → IsRead old.store before.disk.files manifest
    pub usable : IsUsable cmp comparator manifest.edits
    pub goes_on : IsReusable reuse limit manifest
        → (anew ≡ false) × (new ≡ set_going_on old manifest)
        × (IsTrue models_disk
        → after.disk.files ≡ synced (in_folder old.store manifest.name) before.disk.files)
    pub starts_anew : (IsReusable reuse limit manifest → ⊥)
        → (anew ≡ true) × (new ≡ set_starting_anew old manifest)
        × (IsTrue models_disk → after.disk.files ≡ before.disk.files)

  -- Why no set is recovered, where that isn't a failure that was counted: `CURRENT` names no
  -- manifest; the manifest that it names is missing, or has a record of 2^64 bytes, or one that is
  -- no edit; its edits can't be used; or the numbers of files are used up.
  pub data WhyUnrecovered (old : VersionSetValue) (before : Observed) (failed now_failed : ℕ)
      (status : Status) : Type 0 where
    unread : IsCurrentUnread models_disk old.store before failed now_failed status
        → WhyUnrecovered old before failed now_failed status
    lost : (name : List ℕ) (n : ℕ)
        → (IsTrue models_disk → IsNamed old.store before.disk.files name n)
        → IsLost models_disk (in_folder old.store name) before failed now_failed status
        → WhyUnrecovered old before failed now_failed status
    too_long : (name : List ℕ) (n : ℕ) → now_failed ≡ failed
        → (IsTrue models_disk → IsNamed old.store before.disk.files name n)
        → IsHuge models_disk (before.disk.files (in_folder old.store name)) status
        → WhyUnrecovered old before failed now_failed status
    no_edit : (name : List ℕ) (n : ℕ) → now_failed ≡ failed → status.code ≡ Corruption
        → (IsTrue models_disk → IsNamed old.store before.disk.files name n
        × HasRecordOfNoEdit old.store before.disk.files name)
        → WhyUnrecovered old before failed now_failed status
    unusable : (manifest : ReadManifest) → now_failed ≡ failed
        → (IsTrue models_disk → IsRead old.store before.disk.files manifest)
        → WhyUnusable cmp comparator manifest.edits status
        → WhyUnrecovered old before failed now_failed status
    used_up : (manifest : ReadManifest) → now_failed ≡ failed → status.code ≡ NotSupported
        → (IsTrue models_disk → IsRead old.store before.disk.files manifest)
        → 2 ^ 64 ≤ next_number_after old manifest.edits manifest.number + 1
        → WhyUnrecovered old before failed now_failed status

  -- the files are as they were, or the manifest that `CURRENT` named, and which may be used on, was
  -- synced
  pub record SyncsManifestAtMost (old : VersionSetValue) (before after : Observed) : Type 0 where
    pub manifest : List ℕ
    pub number : ℕ
    pub run : Run (BeforeOrAfter (synced (in_folder old.store manifest)) before.disk.files)
        before after
    pub synced_named : Run (FilesUnchanged before.disk.files) before after
        ⊎ ((reuse ≡ true) × IsNamed old.store before.disk.files manifest number)
    -- where no edits can be used, nothing changes
    pub unusable : ((edits : List Edit) → HasEdits old.store before.disk.files edits
        → IsUsable cmp comparator edits → ⊥)
        → Run (FilesUnchanged before.disk.files) before after

  -- What the call returns and leaves. A refusal leaves the set as it was.
  pub record RecoverResult (old : VersionSetValue) (before : Observed) (failed : ℕ)
      (result : Result Bool Status) (new : VersionSetValue) (after : Observed) (now_failed : ℕ)
      : Type 0 where
    pub ok : IfOk result (λ anew. Recovers old before anew new after)
    pub err : OnErr result (new ≡ old)
    pub files : IsTrue models_disk → SyncsManifestAtMost old before after
    pub locks : SameLocks models_disk before after
    pub cause : HasCause (WhyUnrecovered old before failed now_failed) failed now_failed result

module _ (models_disk : Bool) (cmp : List ℕ → List ℕ → Ordering) (comparator : List ℕ) where
  -- The manifest that was read has edits that a store may begin with, and the set is what they
  -- leave, to be read alone.
  pub record IsSetRead (old : VersionSetValue) (before : Observed) (new : VersionSetValue)
      : Type 0 where
    pub manifest : ReadManifest
    pub read : IsTrue models_disk → IsRead old.store before.disk.files manifest
    pub usable : IsUsable cmp comparator manifest.edits
    pub set : new ≡ set_read_alone old manifest

  -- What reading a set alone returns. No file changes at any moment, nor does a lock. It fails for
  -- the causes that recovering has, whatever is used on, and leaves the set as it was then.
  pub record ReadSetResult (old : VersionSetValue) (before : Observed) (failed : ℕ)
      (result : Result (Unit {0}) Status) (new : VersionSetValue) (after : Observed)
      (now_failed : ℕ) : Type 0 where
    pub ok : OnOk result (IsSetRead old before new)
    pub err : OnErr result (new ≡ old)
    pub still : IsTrue models_disk → Run (FilesUnchanged before.disk.files) before after
    pub locks : SameLocks models_disk before after
    pub cause : HasCause
        (WhyUnrecovered models_disk cmp comparator false 0 old before failed now_failed) failed
        now_failed result
