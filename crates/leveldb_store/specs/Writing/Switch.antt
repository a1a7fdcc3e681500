-- What a switch of the log, the table of the immutable memtable, and the removal of obsolete files
-- change of an open store, and why each fails.
use Rattle.std.specs.Prelude.{◌≡◌, ◌≢◌, ◌⊎◌, ◌≤◌, ◌<◌, ◌+◌, ◌-◌, ◌^◌, ℕ, List, [], ◌∷◌, All, Contains, Option, None, Some, Result, Ok, Err, IfErr, IsErrAnd, IsSome, OnErr, OnOk, IsTrue, length}
use Rattle.leveldb_base.specs.Error.{IsOutOfMemory}
use Rattle.leveldb_base.specs.Names.{IsFileName}
use Rattle.leveldb_base.specs.Types.{Pair}
use Rattle.std.specs.declared.cmp.Ordering.{Ordering}
use Rattle.leveldb_base.specs.declared.cmp.Cmp.{Ghosts as CmpGhosts}
use Rattle.leveldb_base.specs.declared.error.Status.{Status}
use Rattle.leveldb_base.specs.declared.error.StatusCode.TheVariants.{NotFound, NotSupported, OutOfMemory}
use Rattle.leveldb_base.specs.declared.types.FileType.{FileType}
use Rattle.leveldb_env.specs.Env.{BeforeOrAfter, ChangesFiles, Files, HasCause, IsEmptyFolder, IsMissing, Run, SameLocks, deleted, in_folder}
use Rattle.leveldb_env.specs.WholeFiles.{IsLost}
use Rattle.leveldb_env.specs.declared.env.Env.{Ghosts}
use Rattle.leveldb_env.specs.declared.filter.FilterPolicy.{Ghosts as FilterGhosts}
use Rattle.leveldb_mem.specs.Log.{log_block_size}
use Rattle.leveldb_mem.specs.Log.Writer.{IsWriterBroken, new_writer}
use Rattle.leveldb_version_set.specs.Sets.LogEdit.{set_appended}
use Rattle.leveldb_files.specs.Levels.Overlap.{file_range, output_level}
use Rattle.leveldb_version.specs.Versions.Change.{IsVersionAfter}
use Rattle.leveldb_version.specs.Versions.Version.{VersionValue}
use Rattle.leveldb_files.specs.Edits.Edit.{NewFile}
use Rattle.leveldb_version_set.specs.Sets.VersionSetValue.{AreFileNumbersUsedUp, OpenManifest, VersionSetValue, broken, in_use, with_number_given}
use Rattle.leveldb_version_set.specs.Engines.Writing.{IsObsolete, table_edit}
use Rattle.leveldb_store.specs.Tables.BuildTable.{IsNotBuilt, TableChoices}
use Rattle.leveldb_store.specs.Keeping.KeptBytes.{IsKept}
use Rattle.leveldb_store.specs.Keeping.OpenStore.{OpenStoreValue}
use Rattle.leveldb_store.specs.Writing.Write.{IsLogLost}
use Rattle.leveldb_store.specs.Keeping.Written.{KeepsTables, SparesRest}

-- the set is as it was, or one more number is given
abbrev pub MayGiveNumber : VersionSetValue → VersionSetValue → Type 0
MayGiveNumber old new = (new ≡ old) ⊎ (new ≡ with_number_given old)

-- from the next one on, the numbers of files are too few for `count` files
pub record AreFileNumbersTooFew (next count : ℕ) (status : Status) : Type 0 where
  pub code : status.code ≡ NotSupported
  pub too_few : 2 ^ 64 ≤ next + count

-- The set after the edit of a table, whose number was the next one, in the level that is picked for
-- its range of user keys, of this order.
pub record LogsTable (cmp : List ℕ → List ℕ → Ordering) (old : VersionSetValue) (log : ℕ)
    (new : VersionSetValue) : Type 0 where
  pub manifest : OpenManifest
  pub was_in_use : old.manifest ≡ in_use manifest
  pub file : NewFile
  pub level : file.level ≡ output_level cmp (file_range file) old.full.added
  pub number : file.number ≡ old.next_file
  pub set : new ≡ set_appended manifest (with_number_given old) (table_edit log file)

-- a version after the edit of a table in place of the logs below a number
abbrev pub GainsTable : {C : Type 0} → (List ℕ → List ℕ → Ordering) → ℕ → VersionValue C
    → VersionValue C → Type 0
GainsTable order log old new = (file : NewFile) × IsVersionAfter order (table_edit log file) old new

module _ {E F C : Type 0} (env : Ghosts E F) (old : OpenStoreValue C) (from : E) where
  -- ---- a switch of the log

  -- out of memory, the numbers of files are used up, the log is missing, or a call on it failed
  -- before
  abbrev pub FailsToSwitch : E → Status → Type 0
  FailsToSwitch to status = AreFileNumbersUsedUp old.set.next_file status
      ⊎ IsLogLost env old from to status

  -- The log was synced, batches go to one of the next number, and the memtable is the immutable
  -- one. After an Err the entries are where they were; a number may have been given, and the log's
  -- writer be broken.
  pub record SwitchesLog (result : Result (Unit {0}) Status) (new : OpenStoreValue C) (to : E)
      : Type 0 where
    pub set : OnOk result (new.set ≡ with_number_given old.set)
    pub log : OnOk result (new.log
        ≡ record { number = old.set.next_file; writer = new_writer log_block_size 0 })
    pub waits : OnOk result (new.imm ≡ Some old.mem)
    pub empty : OnOk result (new.mem.entries ≡ [])
    pub places : OnOk result (new.mem.places ≡ 0)
    pub err : OnErr result (MayGiveNumber old.set new.set
        × (new.log.number ≡ old.log.number)
        × (new.mem ≡ old.mem) × (new.imm ≡ old.imm))
    pub current : new.current ≡ old.current
    pub tables : KeepsTables env.models_disk old.set (env.observed from) new.set (env.observed to)
    pub rest : SparesRest env.models_disk old (env.observed from) new (env.observed to)
    pub cause : HasCause (FailsToSwitch to) (env.failures from) (env.failures to) result

  -- ---- the table of the immutable memtable

  -- the manifest is missing, or a call on it failed before
  abbrev pub IsManifestLost : E → Status → Type 0
  IsManifestLost to status =
      ((manifest : OpenManifest) × (old.set.manifest ≡ in_use manifest)
      × IsLost env.models_disk manifest.path (env.observed from) (env.failures from)
      (env.failures to) status)
      ⊎ ((old.set.manifest ≡ broken) × IsWriterBroken status)

  -- Why the entries aren't in a table: the numbers of files are used up; out of memory; no table
  -- was built of them, and no failure was counted; or the manifest is lost.
  abbrev pub FailsToWriteLevel0Table : {D FP : Type 0} {order : CmpGhosts D}
      {filters : FilterGhosts FP} → TableChoices order filters → List Pair → E → Status → Type 0
  FailsToWriteLevel0Table choices pairs to status = AreFileNumbersUsedUp old.set.next_file status
      ⊎ IsOutOfMemory status
      ⊎ (IsNotBuilt choices pairs status × (env.failures to ≡ env.failures from))
      ⊎ IsManifestLost to status

  -- The entries of the immutable memtable are in a table, which the set has in the level that is
  -- picked for it; `pairs` are they. After an Err they are where they were; a number may have been
  -- given, and the set be broken.
  pub record WritesLevel0Table {D FP : Type 0} {order : CmpGhosts D} {filters : FilterGhosts FP}
      (choices : TableChoices order filters) (pairs : List Pair)
      (result : Result (Unit {0}) Status) (new : OpenStoreValue C) (to : E) : Type 0 where
    pub logged : OnOk result (LogsTable choices.format.order old.set old.log.number new.set)
    pub none_waits : OnOk result (new.imm ≡ None)
    pub waits : OnErr result (new.imm ≡ old.imm)
    -- the version has the table, and else stays as it was
    pub current : OnOk result
        (GainsTable choices.format.order old.log.number old.current new.current)
    pub same_current : OnErr result (new.current ≡ old.current)
    pub tables : KeepsTables env.models_disk old.set (env.observed from) new.set (env.observed to)
    pub err : OnErr result (MayGiveNumber old.set new.set
        ⊎ (new.set ≡ record (with_number_given old.set) { manifest = broken }))
    -- where the set was broken before, no call is made
    pub broken_before : old.set.manifest ≡ broken → (new ≡ old) × (to ≡ from)
    pub mem : new.mem ≡ old.mem
    pub log : new.log ≡ old.log
    pub rest : SparesRest env.models_disk old (env.observed from) new (env.observed to)
    pub cause : HasCause (FailsToWriteLevel0Table choices pairs to) (env.failures from)
        (env.failures to) result

-- ---- obsolete files

-- Why a call that goes on after an error returned the first one. The count of failed calls doesn't
-- fall, and an Ok isn't counted. An Err is excused, or the count rose or is at its greatest.
pub record HasFirstCause {T : Type 0} (Excused : Status → Type 0) (before now : ℕ)
    (result : Result T Status) : Type 0 where
  pub later : before ≤ now
  pub ok : OnOk result (now ≡ before)
  pub cause : IfErr result
      (λ e. Excused e ⊎ (before < now) ⊎ ((before ≡ 2 ^ 64 - 1) × (now ≡ before)))

-- the error says that memory was out
abbrev pub IsMemoryOut : Result (Unit {0}) Status → Type 0
IsMemoryOut result = IsErrAnd result (λ status. status.code ≡ OutOfMemory)

-- What two calls in a row return together: the first error, but one that says that memory was out
-- before any other.
pub record IsFirstError (first next both : Result (Unit {0}) Status) : Type 0 where
  pub ok : OnOk both ((first ≡ Ok tt) × (next ≡ Ok tt))
  pub err : IfErr both (λ e. (first ≡ Err e) ⊎ (next ≡ Err e))
  pub earlier : OnErr first ((both ≡ first) ⊎ IsMemoryOut next)
  pub memory : IsMemoryOut first ⊎ IsMemoryOut next → IsMemoryOut both

-- the files without these
abbrev pub without_files : List (List ℕ) → Files → Files
without_files [] files = files
without_files (path ∷ paths) files = deleted path (without_files paths files)

module _ (set : VersionSetValue) (kept_to : Option ℕ) where
  -- a name of an obsolete file that isn't kept
  abbrev pub IsObsoleteName : List ℕ → Type 0
  IsObsoleteName name =
      (n : ℕ) × (kind : FileType) × IsFileName name n kind × IsObsolete set kind n
      × (IsKept kept_to n → ⊥)

  -- a path of such a file
  abbrev pub IsObsoletePath : List ℕ → Type 0
  IsObsoletePath path =
      (name : List ℕ) × IsObsoleteName name × (path ≡ in_folder set.store name)

  -- each file stays as it is, or is one of these and gone
  abbrev pub RemovesNoOther : Files → Files → Type 0
  RemovesNoOther before after = (path : List ℕ) → (after path ≡ before path)
      ⊎ (IsObsoletePath path × (after path ≡ None))

  -- some files were removed, all of them such ones
  abbrev pub AreRemoved : Files → Files → Type 0
  AreRemoved before after =
      (paths : List (List ℕ)) × All IsObsoletePath paths × (after ≡ without_files paths before)

-- a file was deleted, or the call failed
pub record DeletesFile {E F : Type 0} (env : Ghosts E F) (from : E) (path : List ℕ)
    (result : Result (Unit {0}) Status) (to : E) : Type 0 where
  pub does : IsTrue env.models_disk → ChangesFiles env.models_disk (deleted path)
      (BeforeOrAfter (deleted path)) (env.observed from) (env.observed to) result
  pub locks : SameLocks env.models_disk (env.observed from) (env.observed to)
  pub cause : HasCause (IsMissing env.models_disk path (env.observed from))
      (env.failures from) (env.failures to) result

module _ {E F : Type 0} (env : Ghosts E F) (set : VersionSetValue) (from : E) where
  -- The files of these names that are there still are those whose own deletion failed: for each of
  -- them a failure was counted, unless the count is at its greatest.
  pub record LeavesFailed (IsOne : List ℕ → Type 0) (to : E) : Type 0 where
    pub failed : List (List ℕ)
    pub left : (name : List ℕ) → IsOne name
        → IsSome ((env.observed to).disk.files (in_folder set.store name)) → Contains failed name
    pub counted : (env.failures from + length failed ≤ env.failures to)
        ⊎ (2 ^ 64 - 1 ≤ env.failures to)

  -- the folder wasn't listed, and no file changed
  abbrev pub IsUnlisted : Result (Unit {0}) Status → E → Type 0
  IsUnlisted result to = OnOk result ⊥ × (IsTrue env.models_disk
      → (env.observed to).disk.files ≡ (env.observed from).disk.files)

module _ {E F : Type 0} (env : Ghosts E F) (set : VersionSetValue) (kept_to : Option ℕ)
    (from : E) where
  -- Obsolete files that aren't kept were removed, and no others; after an Err some of them may be
  -- there still. A set that is broken removes none.
  pub record RemovesObsolete (result : Result (Unit {0}) Status) (to : E) : Type 0 where
    -- now and at each moment on the way
    pub run : IsTrue env.models_disk
        → Run (RemovesNoOther set kept_to (env.observed from).disk.files) (env.observed from)
        (env.observed to)
    pub all : set.manifest ≢ broken → OnOk result (IsTrue env.models_disk → (path : List ℕ)
        → IsObsoletePath set kept_to path → (env.observed to).disk.files path ≡ None)
    -- a deletion that fails stops no other, unless memory is out
    pub left : set.manifest ≢ broken → IsMemoryOut result ⊎ IsUnlisted env set from result to
        ⊎ (IsTrue env.models_disk → LeavesFailed env set from (IsObsoleteName set kept_to) to)
    pub broken_keeps : set.manifest ≡ broken → (result ≡ Ok tt) × (to ≡ from)
    pub locks : SameLocks env.models_disk (env.observed from) (env.observed to)
    -- out of memory, the folder has no file, or a call of the device failed; where no disk is
    -- modelled, a file may be missing that was listed
    pub cause : HasFirstCause (IsEmptyFolder env.models_disk set.store (env.observed from))
        (env.failures from) (env.failures to) result

  -- ---- one file after the other

  -- the file of a name was deleted, or it isn't to be removed and no call was made
  abbrev pub RemovesName : List ℕ → Result (Unit {0}) Status → E → Type 0
  RemovesName name result to =
      (IsObsoleteName set kept_to name × DeletesFile env from (in_folder set.store name) result to)
      ⊎ ((IsObsoleteName set kept_to name → ⊥) × (result ≡ Ok tt) × (to ≡ from))

  -- Of the files of these names in the folder, each of which was there, those that are to be
  -- removed were deleted, or some of them after an Err.
  pub record RemovesNames (names : List (List ℕ)) (result : Result (Unit {0}) Status) (to : E)
      : Type 0 where
    pub run : IsTrue env.models_disk
        → Run (AreRemoved set kept_to (env.observed from).disk.files) (env.observed from)
        (env.observed to)
    pub all : OnOk result (IsTrue env.models_disk → (name : List ℕ) → Contains names name
        → IsObsoleteName set kept_to name
        → (env.observed to).disk.files (in_folder set.store name) ≡ None)
    pub left : IsMemoryOut result ⊎ (IsTrue env.models_disk
        → LeavesFailed env set from (λ name. Contains names name × IsObsoleteName set kept_to name)
        to)
    pub locks : SameLocks env.models_disk (env.observed from) (env.observed to)
    pub cause : HasFirstCause (λ status. IsOutOfMemory status
        ⊎ ((status.code ≡ NotFound) × (IsTrue env.models_disk → ⊥)))
        (env.failures from) (env.failures to) result
