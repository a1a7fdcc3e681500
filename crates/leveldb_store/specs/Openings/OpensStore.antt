-- What opening a store returns and leaves of its files, and why it fails.
use Rattle.std.specs.Prelude.{◌≡◌, ◌≢◌, ◌≤◌, ◌+◌, ◌^◌, ◌⊎◌, ℕ, All, Bool, false, List, None, Some, OnOk, IfOk, IsSomeAnd, IsTrue, Result, length}
use Rattle.std.specs.List.Sorted.{IsStrictlySortedBy}
use Rattle.std.specs.Ordering.{nat_cmp}
use Rattle.std.specs.declared.cmp.Ordering.{Ordering}
use Rattle.leveldb_base.specs.Error.{IsOutOfMemory}
use Rattle.leveldb_base.specs.History.{History}
use Rattle.leveldb_base.specs.Names.{IsFileName}
use Rattle.leveldb_base.specs.declared.cmp.Cmp.{Ghosts as CmpGhosts}
use Rattle.leveldb_base.specs.declared.error.Status.{Status}
use Rattle.leveldb_base.specs.declared.error.StatusCode.TheVariants.{AlreadyExists, Corruption, InvalidArgument, NotSupported}
use Rattle.leveldb_base.specs.declared.types.FileType.{FileType}
use Rattle.leveldb_base.specs.declared.types.FileType.TheVariants.{Log, Table}
use Rattle.leveldb_env.specs.Env.{Files, FilesUnchanged, Observed, Run, SameLocks, bytes_of, in_folder}
use Rattle.leveldb_env.specs.declared.env.Env.{Ghosts}
use Rattle.leveldb_env.specs.declared.filter.FilterPolicy.{Ghosts as FilterGhosts}
use Rattle.leveldb_mem.specs.WriteBatch.{Batch}
use Rattle.leveldb_files.specs.Stores.Contents.{Contents, Store, made}
use Rattle.leveldb_files.specs.Histories.Holds.{Holds, IsSafe, MatchesHistory}
use Rattle.leveldb_version_set.specs.Sets.NewStore.{first_manifest}
use Rattle.leveldb_files.specs.Stores.Paths.{current_path, table_path}
use Rattle.leveldb_version_set.specs.Sets.Recover.{AreBeside, IsNamed, IsUsable, ShareUserKey}
use Rattle.leveldb_files.specs.Stores.Store.{HasEdits, IsStore}
use Rattle.leveldb_files.specs.Steps.StoreSteps.{AppendedAreBytes, KeepsHistory}
use Rattle.leveldb_files.specs.Edits.Edit.{Edit, NewFile}
use Rattle.leveldb_files.specs.Edits.VersionSet.{FileSet, live_after}
use Rattle.leveldb_version_set.specs.Engines.Writing.{NumbersAreBelow}
use Rattle.leveldb_version_set.specs.Sets.VersionSetValue.{OpenManifest, VersionSetValue, in_use}
use Rattle.leveldb_store.specs.Tables.BuildTable.{TableChoices}
use Rattle.leveldb_store.specs.Logs.FoundLogs.{HasLogNotKept, LogsBeginWith}
use Rattle.leveldb_files.specs.Stores.Format.{Agrees, Format, IsTableOf, Meaning}
use Rattle.leveldb_store.specs.Keeping.KeptBytes.{LosesNothing}
use Rattle.leveldb_store.specs.Keeping.OpenStore.{IsUnbroken, OpenStoreValue}
use Rattle.leveldb_store.specs.Openings.FoundFiles.{HoldsFoundLogs, IsEachLive}
use Rattle.leveldb_store.specs.Writing.Room.{IsFull}
use Rattle.leveldb_store.specs.Keeping.Written.{IsDataPath, IsWritten}

-- ---- files that change

-- a path of a file that an opening makes or changes: of a file with data, or `CURRENT`
abbrev pub IsOwnPath : List ℕ → List ℕ → Type 0
IsOwnPath store path = IsDataPath store path ⊎ (path ≡ current_path store)

-- the same files but at such paths
abbrev pub SameBesideOwn : List ℕ → Files → Files → Type 0
SameBesideOwn store old new =
    (path : List ℕ) → (IsOwnPath store path → ⊥) → new path ≡ old path

-- ---- a store that is opened

-- `cmp` is the order of user keys, and `meaning` what names and ids in the files mean.
module _ (cmp : List ℕ → List ℕ → Ordering) (meaning : Meaning) (store : List ℕ) where
  -- Files that an opening may find: a store with these contents or none, which is safe, whatever
  -- history it holds.
  pub record IsSound (files : Files) (contents : Contents) : Type 0 where
    pub read : IsStore store cmp (IsTableOf cmp meaning) files contents
    pub bytes : AppendedAreBytes files
    pub allowed : Store → Bool
    pub bound : ℕ
    pub durable : ℕ
    pub history : History
    pub safe : IsSafe store (IsStore store cmp (IsTableOf cmp meaning))
        (λ it. IsTrue (allowed it)) bound durable history files

  -- each history is kept at each moment, where the store that is there may be there, and the one
  -- that the opening makes
  abbrev pub KeepsFound : List ℕ → Contents → Observed → Observed → Type 0
  KeepsFound comparator contents from to = (allowed : Store → Bool)
      → IsTrue (allowed contents.store) → IsTrue (allowed (made (Some comparator))) → (bound : ℕ)
      → contents.last ≤ bound
      → Run (KeepsHistory store cmp (IsTableOf cmp meaning) (λ it. IsTrue (allowed it)) bound
      from.disk.files) from to

  -- The store is open: it is written with what is in memory, its last number is that of the
  -- contents, and it holds each history that these match, all of it durable.
  pub record IsOpenedAs {C : Type 0} (comparator : List ℕ) (contents : Contents)
      (value : OpenStoreValue C) (files : Files) : Type 0 where
    pub written : IsWritten cmp meaning value files
    pub last : value.set.last_sequence ≡ contents.last
    pub holds : (allowed : Store → Bool) → IsTrue (allowed (made (Some comparator)))
        → (history : History)
        → MatchesHistory (λ any. Unit {0}) contents.last contents history
        → Holds store (IsStore store cmp (IsTableOf cmp meaning)) (λ it. IsTrue (allowed it)) files
        history contents.last (length history) None

-- the table of this file is there, and has as many bytes as its edit says
abbrev pub IsTableThere : List ℕ → Files → NewFile → Type 0
IsTableThere store files file = IsSomeAnd (files (table_path store file.number))
    (λ there. length (bytes_of there) ≡ file.size)

-- so is the table of each of these files
abbrev pub AreTablesThere : List ℕ → Files → List NewFile → Type 0
AreTablesThere store files = All (IsTableThere store files)

-- the manifest that a set has in use is there
abbrev pub IsManifestThere : Files → VersionSetValue → Type 0
IsManifestThere files set = (manifest : OpenManifest) → set.manifest ≡ in_use manifest
    → files manifest.path ≢ None

-- ---- files that are no store

-- the name is a table's or a log's
abbrev pub IsTableOrLog : List ℕ → Type 0
IsTableOrLog name = (n : ℕ) × (IsFileName name n Table ⊎ IsFileName name n Log)

-- `CURRENT` is missing, and a table or a log is there
pub record LacksCurrent (store : List ℕ) (files : Files) : Type 0 where
  pub no_current : files (current_path store) ≡ None
  pub name : List ℕ
  pub is : IsTableOrLog name
  pub there : files (in_folder store name) ≢ None

module _ (store : List ℕ) (format : Format) where
  -- `CURRENT` is there and names no manifest with edits that an opening may begin with: one of the
  -- two is damaged, or the comparator has another name
  abbrev pub LacksUsableEdits : Files → Type 0
  LacksUsableEdits files = (files (current_path store) ≢ None)
      × ((edits : List Edit) → HasEdits store files edits
      → IsUsable format.order format.order_name edits → ⊥)

  -- the store's manifest names a comparator that isn't this one
  pub record HasOtherComparator (files : Files) : Type 0 where
    pub edits : List Edit
    pub has_edits : HasEdits store files edits
    pub name : List ℕ
    pub named : (live_after edits).comparator ≡ Some name
    pub other : name ≢ format.order_name

  -- An order in which a store of this kind may be read: it is the format's, or the store's
  -- comparator has another name.
  abbrev pub IsOrderFor : Store → (List ℕ → List ℕ → Ordering) → Type 0
  IsOrderFor there order = (order ≡ format.order)
      ⊎ ((name : List ℕ) × (there ≡ made (Some name)) × (name ≢ format.order_name))

  -- nothing is read of the files, in whatever order that may be, whatever names and ids mean
  abbrev pub IsDamaged : Files → Type 0
  IsDamaged files = (meaning : Meaning) (order : List ℕ → List ℕ → Ordering) (contents : Contents)
      → IsOrderFor contents.store order
      → IsStore store order (IsTableOf order meaning) files contents → ⊥

-- ---- what isn't supported

-- a number of files that the manifest's edits have: of the next file, or of a log
abbrev pub IsNumberOf : FileSet → ℕ → Type 0
IsNumberOf set n =
    (set.next_file ≡ Some n) ⊎ (set.log_number ≡ Some n) ⊎ (set.previous_log ≡ Some n)

module _ (store : List ℕ) (files : Files) where
  -- a file has this number: it is 2 or less, as in a new store, or that of a name in the folder or
  -- of the manifest's edits
  abbrev pub IsNumberFound : ℕ → Type 0
  IsNumberFound n = (n ≤ 2)
      ⊎ ((name : List ℕ) × (kind : FileType) × IsFileName name n kind
      × (files (in_folder store name) ≢ None))
      ⊎ ((edits : List Edit) × HasEdits store files edits × IsNumberOf (live_after edits) n)

  -- a number is found after which there aren't `count` more for files
  pub record LeavesFewNumbers (count : ℕ) : Type 0 where
    pub last : ℕ
    pub is_found : IsNumberFound last
    pub too_few : 2 ^ 64 ≤ last + 1 + count

  -- a number is found after which there aren't enough for a manifest, a log, and a table for each
  -- batch with which logs begin
  pub record LacksNumbers : Type 0 where
    pub logs : List ℕ
    pub rising : IsStrictlySortedBy nat_cmp logs
    pub batches : List Batch
    pub begin : LogsBeginWith store files logs batches
    pub few : LeavesFewNumbers (length batches + 2)

  -- the manifest that `CURRENT` names, or the one with which a new store of this comparator begins,
  -- has 2^64 bytes or more
  abbrev pub HasHugeManifest : List ℕ → Type 0
  HasHugeManifest comparator =
      ((name : List ℕ) × (number : ℕ) × IsNamed store files name number
      × IsSomeAnd (files (in_folder store name)) (λ file. 2 ^ 64 ≤ length (bytes_of file)))
      ⊎ ((files (current_path store) ≡ None) × (2 ^ 64 ≤ length (first_manifest comparator)))

  -- two live tables, which are beside each other in one level from 1 on, share a user key
  pub record HasSharedUserKey (cmp : List ℕ → List ℕ → Ordering) : Type 0 where
    pub edits : List Edit
    pub has_edits : HasEdits store files edits
    pub a : NewFile
    pub b : NewFile
    pub beside : AreBeside cmp (live_after edits) a b
    pub share : ShareUserKey cmp a b

-- ---- a store that isn't opened

module _ (store : List ℕ) where
  -- nothing is in the store's folder, not even the file of its lock
  abbrev pub IsBareFolder : Files → Type 0
  IsBareFolder files = (name : List ℕ) → files (in_folder store name) ≡ None

  module _ (create_if_missing error_if_exists : Bool) (files : Files) where
    -- the options forbid it: a store is there that must not be, or none is and none is to be made
    abbrev pub IsForbidden : Type 0
    IsForbidden = (IsTrue error_if_exists × (files (current_path store) ≢ None))
        ⊎ ((create_if_missing ≡ false) × (files (current_path store) ≡ None))

-- the options forbid it, and the status says so
abbrev pub IsForbiddenAs : Bool → List ℕ → Bool → Bool → Files → Status → Type 0
IsForbiddenAs models_disk store create_if_missing error_if_exists files status =
    ((status.code ≡ AlreadyExists) × IsTrue error_if_exists
    × (IsTrue models_disk → files (current_path store) ≢ None))
    ⊎ ((status.code ≡ InvalidArgument) × (create_if_missing ≡ false)
    × (IsTrue models_disk → files (current_path store) ≡ None))

-- ---- the call

module _ {E F : Type 0} (env : Ghosts E F) (store : List ℕ) (format : Format)
    (create_if_missing error_if_exists : Bool) (from : E) where
  -- what holds of the files where they are modelled
  abbrev pub where_modelled : (Files → Type 0) → Type 0
  where_modelled Holds = IsTrue env.models_disk → Holds (env.observed from).disk.files

  -- Why files can't be opened as a store, where nothing was counted, beside out of memory: not even
  -- the file of its lock is there; the options forbid it; its comparator is another; it is damaged;
  -- or it isn't supported, since tables share a user key, or a manifest or a number is too great.
  abbrev pub WhyNotOpenable : Status → Type 0
  WhyNotOpenable status =
      ((status.code ≡ Corruption) × where_modelled (IsBareFolder store))
      ⊎ IsForbiddenAs env.models_disk store create_if_missing error_if_exists
      (env.observed from).disk.files status
      ⊎ ((status.code ≡ InvalidArgument) × where_modelled (HasOtherComparator store format))
      ⊎ ((status.code ≡ Corruption) × where_modelled (IsDamaged store format))
      ⊎ ((status.code ≡ NotSupported) × where_modelled (λ files.
      HasSharedUserKey store files format.order ⊎ HasHugeManifest store files format.order_name
      ⊎ LacksNumbers store files))

  -- An opening. Its lock is the caller's.
  pub record OpensStore {C : Type 0} (limit : ℕ) (result : Result (OpenStoreValue C) Status)
      (to : E) : Type 0 where
    pub path : IfOk result (λ value. value.set.store ≡ store)
    pub unbroken : IfOk result IsUnbroken
    -- the log's memtable isn't full
    pub room : IfOk result (λ value. IsFull limit value.mem → ⊥)
    -- each live table is there, as long as its edit says, whatever the files were
    pub tables : IfOk result (λ value. IsTrue env.models_disk
        → AreTablesThere store (env.observed to).disk.files value.set.full.added)
    -- and so is the manifest
    pub manifest : IfOk result (λ value. IsTrue env.models_disk
        → IsManifestThere (env.observed to).disk.files value.set)
    -- whatever the files are, each one that the manifest's edits leave live is live still
    pub live : IfOk result (λ value. IsTrue env.models_disk → (edits : List Edit)
        → HasEdits store (env.observed from).disk.files edits
        → IsEachLive edits value.set.full.added)
    -- and the logs that they have replayed are batches in order, whose entries are in memory and in
    -- live tables
    pub replayed : IfOk result (λ value. IsTrue env.models_disk → (meaning : Meaning)
        → Agrees format meaning → (edits : List Edit)
        → HasEdits store (env.observed from).disk.files edits
        → HoldsFoundLogs format.order meaning store edits (env.observed from).disk.files value
        (env.observed to).disk.files)
    -- of files that are sound it keeps each history, and opens the store that they are or a new one
    pub keeps : IsTrue env.models_disk → (meaning : Meaning) → Agrees format meaning
        → (contents : Contents)
        → IsSound format.order meaning store (env.observed from).disk.files contents
        → KeepsFound format.order meaning store format.order_name contents (env.observed from)
        (env.observed to)
    pub opens : IsTrue env.models_disk → (meaning : Meaning) → Agrees format meaning
        → (contents : Contents)
        → IsSound format.order meaning store (env.observed from).disk.files contents
        → IfOk result (λ value. IsOpenedAs format.order meaning store format.order_name contents
        value (env.observed to).disk.files)
    -- what the options forbid isn't opened, nor tables or logs without `CURRENT`, nor what has no
    -- usable edits, and all files stay
    pub stays : IsTrue env.models_disk
        → IsForbidden store create_if_missing error_if_exists
        (env.observed from).disk.files ⊎ LacksCurrent store
        (env.observed from).disk.files ⊎ LacksUsableEdits store format
        (env.observed from).disk.files
        → OnOk result ⊥
        × Run (FilesUnchanged (env.observed from).disk.files) (env.observed from)
        (env.observed to)
    -- at each moment nothing but the store's own files has changed
    pub others : IsTrue env.models_disk
        → Run (SameBesideOwn store (env.observed from).disk.files) (env.observed from)
        (env.observed to)
    -- whatever the files are, no file of a store that is there loses a byte, but for `CURRENT`
    pub kept : LosesNothing env store from to
    -- and no file has a number that is given from now on
    pub numbers : IfOk result (λ value. IsTrue env.models_disk
        → NumbersAreBelow store (env.observed to).disk.files value.set.next_file)
    pub locks : SameLocks env.models_disk (env.observed from) (env.observed to)

module _ {E F D FP : Type 0} (env : Ghosts E F) (store : List ℕ) {keys : CmpGhosts D}
    {filters : FilterGhosts FP} (choices : TableChoices keys filters)
    (create_if_missing error_if_exists : Bool) (from : E) where
  -- why a store isn't opened, where nothing was counted, beside out of memory: its files can't be,
  -- or a log begins with batches that aren't kept in memory and in tables
  abbrev pub WhyNotOpened : Status → Type 0
  WhyNotOpened status =
      WhyNotOpenable env store choices.format create_if_missing error_if_exists from status
      ⊎ HasLogNotKept choices env.models_disk store (env.observed from).disk.files status

  -- Why a store isn't opened, where the device didn't fail.
  abbrev pub FailsToOpen : E → Status → Type 0
  FailsToOpen to status = IsOutOfMemory status
      ⊎ (WhyNotOpened status × (env.failures to ≡ env.failures from))
