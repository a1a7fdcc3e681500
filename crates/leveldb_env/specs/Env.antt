-- What a disk holds, what an environment reports of it as time goes on, and what its calls return
-- and change.
use Rattle.std.specs.Prelude.{◌≡◌, ◌≤◌, ◌<◌, ℕ, Bool, true, false, if◌then◌else◌, List, [], ◌∷◌, ◌++◌, length, slice_index, nat_eq, Option, None, Some, ◌⊎◌, ◌-◌, ◌+◌, ◌^◌, take, drop, Result, is_ok, OnOk, IfErr, IsTrue, IsSome, Contains, ◌↔◌}
use Rattle.std.specs.Option.{option_map}
use Rattle.std.specs.Map.{update}
use Rattle.std.specs.Str.{bytes_eq}
use Rattle.std.specs.List.{starts_with, IsDistinct}
use Rattle.leveldb_base.specs.Error.{IsOutOfMemory}
use Rattle.leveldb_base.specs.declared.error.Status.{Status}
use Rattle.leveldb_base.specs.declared.error.StatusCode.TheVariants.{NotFound, LockError}

-- the bytes that a crash keeps, and those that were appended since
pub record File : Type 0 where
  -- the bytes that a crash keeps
  pub kept : List ℕ
  -- those appended since, of which it may keep any prefix, or others in their place
  pub since : List ℕ

-- all that is read
abbrev pub bytes_of : File → List ℕ
bytes_of file = file.kept ++ file.since

-- which file each name has
abbrev pub Files : Type 0
Files = List ℕ → Option File

-- which file each name has, and which names are locked
pub record Disk : Type 0 where
  -- the file of each name
  pub files : Files
  -- whether a name is locked
  pub locked : List ℕ → Bool

-- ---- what a call makes of the files

-- this under the name, and under every other what was there
abbrev pub with_file : List ℕ → Option File → Files → Files
with_file name file files = update bytes_eq files name file

-- a file whose bytes are all kept
abbrev pub kept_file : List ℕ → File
kept_file bytes = record { kept = bytes; since = [] }

-- an empty file under the name
abbrev pub emptied : List ℕ → Files → Files
emptied name files = with_file name (Some (kept_file [])) files

-- a missing file is an empty one
abbrev pub or_empty : Option File → Option File
or_empty None = Some (kept_file [])
or_empty (Some file) = Some file

-- a missing name is an empty file
abbrev pub created : List ℕ → Files → Files
created name files = with_file name (or_empty (files name)) files

-- no file under the name
abbrev pub deleted : List ℕ → Files → Files
deleted name files = with_file name None files

-- a file is moved from one name to the other; a missing one moves nothing
abbrev pub moved : List ℕ → List ℕ → Files → Option File → Files
moved from to files None = files
moved from to files (Some file) = with_file to (Some file) (deleted from files)

-- the file of one name is moved to the other
abbrev pub renamed : List ℕ → List ℕ → Files → Files
renamed from to files = moved from to files (files from)

-- bytes appended to a file
abbrev pub longer_file : List ℕ → File → File
longer_file bytes file = record file { since = file.since ++ bytes }

-- bytes appended to the name's file
abbrev pub extended : List ℕ → List ℕ → Files → Files
extended name bytes files = with_file name (option_map (longer_file bytes) (files name)) files

-- all bytes of the file kept
abbrev pub file_kept : File → File
file_kept file = kept_file (bytes_of file)

-- all bytes of the name's file kept
abbrev pub synced : List ℕ → Files → Files
synced name files = with_file name (option_map file_kept (files name)) files

-- the name of a file in a folder
abbrev pub in_folder : List ℕ → List ℕ → List ℕ
in_folder folder child = folder ++ 47 ∷ child

-- whether a name is under a folder
abbrev pub is_under : List ℕ → List ℕ → Bool
is_under folder name = starts_with nat_eq name (folder ++ 47 ∷ [])

-- no name under the folder
abbrev pub without_folder : List ℕ → Files → Files
without_folder folder files = λ name. if is_under folder name then None else files name

-- the files stay as they are
abbrev pub same : Files → Files
same files = files

-- a name locked or free, the others as before
abbrev pub lock_set : List ℕ → Bool → (List ℕ → Bool) → List ℕ → Bool
lock_set name held locked = λ other. if bytes_eq name other then held else locked other

-- ---- what a crash leaves

-- bytes are numbers below 256
abbrev pub AreBytes : List ℕ → Type 0
AreBytes bytes = (i : ℕ) → slice_index bytes i < 256

-- what was appended to each file are bytes
abbrev pub AppendedAreBytes : Files → Type 0
AppendedAreBytes files =
    (name : List ℕ) (file : File) → files name ≡ Some file → AreBytes file.since

-- of a file: its kept bytes and after them any, at most as many as were appended since; then all
-- are kept
abbrev pub FileCrashesTo : Option File → Option File → Type 0
FileCrashesTo None left = left ≡ None
FileCrashesTo (Some file) left = (tail : List ℕ) × AreBytes tail × (length tail ≤ length file.since)
    × (left ≡ Some (kept_file (file.kept ++ tail)))

-- of all files: the same names
abbrev pub FilesCrashTo : Files → Files → Type 0
FilesCrashTo files left = (name : List ℕ) → FileCrashesTo (files name) (left name)

-- of a disk: its files so, and no lock held
pub record DiskCrashesTo (disk left : Disk) : Type 0 where
  -- the same names, with what a crash leaves of each file
  pub files : FilesCrashTo disk.files left.files
  -- no lock is held
  pub free : (name : List ℕ) → left.locked name ≡ false

-- The disk now; the moment, a number that doesn't fall; and what the files were at each moment, or
-- inside the call that began at it. Locks are no part of a moment, since a crash frees them.
pub record Observed : Type 1 where
  -- the disk now
  pub disk : Disk
  -- the moment now
  pub moment : ℕ
  -- these were the files at that moment, or inside the call that began at it
  pub at_moment : ℕ → Files → Type 0

-- From old to new the files were at each moment some that have P, and of the moments before nothing
-- is forgotten or added.
pub record Within (P : Files → Type 0) (old new : Observed) : Type 0 where
  -- the moment doesn't fall
  pub later : old.moment ≤ new.moment
  -- of the moments before, nothing is added
  pub before : (m : ℕ) (files : Files) → m < old.moment → new.at_moment m files
      → old.at_moment m files
  -- at each moment from old to new the files had P
  pub meanwhile : (m : ℕ) (files : Files) → old.moment ≤ m → m < new.moment → new.at_moment m files
      → P files
  -- nothing is forgotten
  pub kept : (m : ℕ) (files : Files) → m ≤ old.moment → old.at_moment m files
      → new.at_moment m files

-- at some moment from t on these were the files, and a crash then leaves those of them
abbrev pub Since : Observed → ℕ → Files → Files → Type 0
Since observed t files left = (m : ℕ) × (t ≤ m) × (m ≤ observed.moment) × observed.at_moment m files
    × FilesCrashTo files left

-- ---- what a call does to the disk

-- An Ok makes this change of the files. Until then, and at an Err, they are as the call may leave
-- them.
pub record ChangesFiles {T : Type 0} (models_disk : Bool) (change : Files → Files)
    (Passes : Files → Files → Type 0) (old new : Observed) (result : Result T Status) : Type 0 where
  -- an Ok has made the change
  pub ok : IsTrue models_disk → OnOk result (new.disk.files ≡ change old.disk.files)
  -- whatever the result is, the files are as the call may leave them
  pub now : IsTrue models_disk → Passes old.disk.files new.disk.files
  -- and so they were at each moment of the call
  pub time : Within (Passes old.disk.files) old new

-- either side of a change that is done at once
abbrev pub BeforeOrAfter : (Files → Files) → Files → Files → Type 0
BeforeOrAfter change old files = (files ≡ old) ⊎ (files ≡ change old)

-- nothing, or any prefix of the bytes, is appended to the file
abbrev pub PrefixAppended : List ℕ → List ℕ → Files → Files → Type 0
PrefixAppended name bytes old files = (files ≡ old)
    ⊎ ((n : ℕ) × (files ≡ extended name (take n bytes) old))

-- the files stay as they are
abbrev pub FilesUnchanged : Files → Files → Type 0
FilesUnchanged old files = files ≡ old

-- what the files are meanwhile is left open
abbrev pub AnyFiles : Files → Files → Type 0
AnyFiles old files = Unit {0}

-- an Ok makes this change of the locks, an Err none
abbrev pub ChangesLocks : {T : Type 0} → Bool → ((List ℕ → Bool) → List ℕ → Bool) → Observed
    → Observed → Result T Status → Type 0
ChangesLocks models_disk change old new result = IsTrue models_disk
    → new.disk.locked ≡ (if is_ok result then change old.disk.locked else old.disk.locked)

-- no lock changes
abbrev pub SameLocks : Bool → Observed → Observed → Type 0
SameLocks models_disk old new = IsTrue models_disk → new.disk.locked ≡ old.disk.locked

-- ---- why a call fails

-- The count of failed calls before and after: it grows by one at each failure of the device, up to
-- its greatest. An Err is one that is excused, and then it isn't counted, or it was counted.
pub record HasCause {T : Type 0} (Excused : Status → Type 0) (before now : ℕ)
    (result : Result T Status) : Type 0 where
  -- the count doesn't fall
  pub later : before ≤ now
  -- an Ok isn't counted
  pub ok : OnOk result (now ≡ before)
  -- nor is an Err that is excused
  pub uncounted : IfErr result (λ e. Excused e → now ≡ before)
  -- every Err is excused or counted, or the count is at its greatest
  pub cause : IfErr result
      (λ e. Excused e ⊎ (now ≡ before + 1) ⊎ ((before ≡ 2 ^ 64 - 1) × (now ≡ before)))

-- out of memory, or `NotFound` for a name that a disk that is modelled lacks
abbrev pub IsMissing : Bool → List ℕ → Observed → Status → Type 0
IsMissing models_disk name observed e = IsOutOfMemory e
    ⊎ ((e.code ≡ NotFound) × (IsTrue models_disk → observed.disk.files name ≡ None))

-- out of memory, or `NotFound` for an open file whose name is gone from a disk that is modelled
abbrev pub IsGone : Bool → List ℕ → Observed → Status → Type 0
IsGone models_disk name observed e = IsOutOfMemory e
    ⊎ ((e.code ≡ NotFound) × IsTrue models_disk × (observed.disk.files name ≡ None))

-- out of memory, or `NotFound` for a folder without a name
abbrev pub IsEmptyFolder : Bool → List ℕ → Observed → Status → Type 0
IsEmptyFolder models_disk folder observed e =
    IsOutOfMemory e ⊎ ((e.code ≡ NotFound)
    × (IsTrue models_disk → (child : List ℕ) → observed.disk.files (in_folder folder child) ≡ None))

-- `LockError` for a name whose lock is so already
abbrev pub LockIs : Bool → Bool → List ℕ → Observed → Status → Type 0
LockIs models_disk held name observed e = (e.code ≡ LockError)
    × (IsTrue models_disk → observed.disk.locked name ≡ held)

-- out of memory, or `LockError` for a name that is locked
abbrev pub IsLocked : Bool → List ℕ → Observed → Status → Type 0
IsLocked models_disk name observed e = IsOutOfMemory e ⊎ LockIs models_disk true name observed e

-- ---- what a read gives

-- The first n bytes of a target are those of a file from an offset on: no more than there are, and
-- none only at its end or for an empty target.
pub record ReadsFrom (offset n : ℕ) (target file : List ℕ) : Type 0 where
  -- the first n bytes of the target are the file's from the offset on
  pub bytes_are : take n target ≡ take n (drop offset file)
  -- the file has so many
  pub no_more : n ≤ length (drop offset file)
  -- none were read only for an empty target or at the end
  pub none : n ≡ 0 → (target ≡ []) ⊎ (drop offset file ≡ [])

-- the same of the file of a name, which is there
abbrev pub ReadsAt : Option File → ℕ → ℕ → List ℕ → Type 0
ReadsAt None offset n target = ⊥
ReadsAt (Some file) offset n target = ReadsFrom offset n target (bytes_of file)

-- the parts after the `/` of the names in this folder, each once
pub record ListsChildren (files : Files) (folder : List ℕ) (children : List (List ℕ)) : Type 0 where
  -- a child is listed exactly if it has no `/` and is a file of the folder
  pub each : (child : List ℕ) → Contains children child
      ↔ ((Contains child 47 → ⊥) × IsSome (files (in_folder folder child)))
  -- none twice
  pub once : IsDistinct bytes_eq children

-- ---- a run of calls

-- now, and at each moment since the first, the files have P
pub record Run (P : Files → Type 0) (first now : Observed) : Type 0 where
  -- the files have P now
  pub has : P now.disk.files
  -- and had it at each moment since the first
  pub time : Within P first now

-- the same but at this name
abbrev pub SameBut : List ℕ → Files → Files → Type 0
SameBut name old files = (other : List ℕ) → bytes_eq name other ≡ false → files other ≡ old other
