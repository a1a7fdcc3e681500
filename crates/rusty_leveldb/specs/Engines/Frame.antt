-- What a call leaves alone: the files that a request may not touch, and all locks but the store's.
use Rattle.std.specs.Prelude.{◌≡◌, ◌≢◌, ◌⊎◌, ℕ, List, None, Option}
use Rattle.std.specs.Option.{option_map}
use Rattle.leveldb_base.specs.declared.types.FileType.{FileType}
use Rattle.leveldb_base.specs.declared.types.FileType.TheVariants.{Log, InfoLog}
use Rattle.leveldb_env.specs.Env.{File, Files, Disk, bytes_of, or_empty}
use Rattle.leveldb_files.specs.Stores.Paths.{IsFilePath, lock_path}
use Rattle.leveldb_store.specs.Keeping.SetAside.{IsAsidePath}
use Rattle.leveldb_store.specs.Keeping.Written.{IsData}
use Rattle.rusty_leveldb.specs.Machines.State.{Mode, open_mode, closed, Request, open_store, write, flush, compact_range, close}

-- ---- the files that may be touched

-- the types of files that a store makes; it makes no `LOG`
abbrev pub IsOwned : FileType → Type 0
IsOwned InfoLog = ⊥
IsOwned kind = Unit {0}

-- a log
abbrev pub IsLogType : FileType → Type 0
IsLogType Log = Unit {0}
IsLogType kind = ⊥

-- The types of files that a request may make, change or delete, by the mode of the store: a broken
-- or closed store touches no file, and no read does.
abbrev pub Touches : Mode → Request → FileType → Type 0
Touches closed (open_store opening) kind = IsOwned kind
Touches open_mode (write items sync) kind = IsData kind
Touches open_mode (compact_range from to) kind = IsData kind
Touches open_mode flush kind = IsLogType kind
Touches open_mode close kind = IsLogType kind
Touches mode request kind = ⊥

-- a path of a file that the store makes
abbrev pub IsStorePath : List ℕ → List ℕ → Type 0
IsStorePath store path = (kind : FileType) × IsOwned kind × IsFilePath kind store path

-- or one at which an opening sets a damaged one aside
abbrev pub IsOwn : List ℕ → List ℕ → Type 0
IsOwn store path = IsStorePath store path ⊎ IsAsidePath store path

-- a path of a file that the request may make, change or delete
abbrev pub MayTouch : List ℕ → Mode → Request → List ℕ → Type 0
MayTouch store closed (open_store opening) path = IsOwn store path
MayTouch store mode request path =
    (kind : FileType) × Touches mode request kind × IsFilePath kind store path

-- the same where the store's log has this path, of whatever number it is
abbrev pub MayTouchOrLog : List ℕ → Mode → Request → List ℕ → List ℕ → Type 0
MayTouchOrLog store mode request log path =
    MayTouch store mode request path ⊎ (Touches mode request Log × (path ≡ log))

-- ---- what stays

-- a file stays as it is, or a missing one is made, empty
abbrev pub IsKeptOrMade : Option File → Option File → Type 0
IsKeptOrMade before after = (after ≡ before) ⊎ (after ≡ or_empty before)

-- what a call spares that touches files at these paths alone
pub record Spares (store : List ℕ) (May : List ℕ → Type 0) (before after : Disk) : Type 0 where
  -- every other file stays as it is
  pub files : (path : List ℕ) → (May path → ⊥) → after.files path ≡ before.files path
  -- the lock's file stays, or is made where it is missing
  pub lock_file : IsKeptOrMade (before.files (lock_path store)) (after.files (lock_path store))
  -- every other lock stays as it is
  pub locks : (path : List ℕ) → path ≢ lock_path store → after.locked path ≡ before.locked path

-- each file that was set aside stays as it is
abbrev pub KeepsAside : List ℕ → Files → Files → Type 0
KeepsAside store before after = (path : List ℕ) → IsAsidePath store path → before path ≢ None
    → after path ≡ before path

-- a request that adds no bytes: it makes a crash keep those that are there
abbrev pub IsSyncing : Request → Type 0
IsSyncing flush = Unit {0}
IsSyncing close = Unit {0}
IsSyncing request = ⊥

-- each file has the bytes that it had, however many of them a crash keeps
abbrev pub SameBytes : Files → Files → Type 0
SameBytes before after =
    (path : List ℕ) → option_map bytes_of (after path) ≡ option_map bytes_of (before path)
