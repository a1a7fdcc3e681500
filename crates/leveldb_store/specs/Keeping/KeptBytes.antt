-- Which bytes of a store's files a call keeps, whatever the files are.
use Rattle.std.specs.Prelude.{◌≡◌, ◌≢◌, ◌≤◌, ◌<◌, ◌^◌, ◌++◌, ◌⊎◌, ℕ, Bool, List, Option, None, Some, IsTrue}
use Rattle.leveldb_base.specs.Names.{IsFileName}
use Rattle.leveldb_base.specs.declared.types.FileType.{FileType}
use Rattle.leveldb_base.specs.declared.types.FileType.TheVariants.{Temp}
use Rattle.leveldb_env.specs.Env.{File, Files, Observed, Run, bytes_of, in_folder}
use Rattle.leveldb_env.specs.declared.env.Env.{Ghosts}
use Rattle.leveldb_files.specs.Stores.Paths.{IsFilePath, current_path, manifest_path, table_path}
use Rattle.leveldb_version_set.specs.Sets.VersionSetValue.{VersionSetValue, unmade}
use Rattle.leveldb_version_set.specs.Engines.Writing.{NumbersAreBelow}

-- ---- bytes

-- bytes that begin with these
abbrev pub BeginWith : List ℕ → List ℕ → Type 0
BeginWith first bytes = (rest : List ℕ) × (bytes ≡ first ++ rest)

-- A file is there still, and begins with the bytes that it had; and those of them that a crash kept
-- it keeps.
abbrev pub KeepsItsBytes : File → Option File → Type 0
KeepsItsBytes before None = ⊥
KeepsItsBytes before (Some after) =
    BeginWith (bytes_of before) (bytes_of after) × BeginWith before.kept after.kept

-- no file at one of these paths is lost, and none loses a byte
abbrev pub LosesNoBytesAt : (List ℕ → Type 0) → Files → Files → Type 0
LosesNoBytesAt IsOne before after = (path : List ℕ) → IsOne path → (file : File)
    → before path ≡ Some file → KeepsItsBytes file (after path)

-- a path of a file that an opening doesn't replace, as it does `CURRENT` by way of a temporary file
abbrev pub IsNotReplaced : List ℕ → List ℕ → Type 0
IsNotReplaced store path = ((path ≡ current_path store) ⊎ IsFilePath Temp store path) → ⊥

-- no file is lost, and none loses a byte, but for those that are replaced
abbrev pub LosesNoBytes : List ℕ → Files → Files → Type 0
LosesNoBytes store = LosesNoBytesAt (IsNotReplaced store)

-- ---- numbers

-- the number of each table that is there is below this
abbrev pub TableNumbersAreBelow : List ℕ → Files → ℕ → Type 0
TableNumbersAreBelow store files next =
    (n : ℕ) → n < 2 ^ 64 → files (table_path store n) ≢ None → n < next

-- No file has a number that a set gives from now on, nor that of a manifest that its next edit
-- begins.
pub record HasNewNumbers (store : List ℕ) (set : VersionSetValue) (files : Files) : Type 0 where
  pub below : NumbersAreBelow store files set.next_file
  pub manifest : set.manifest ≡ unmade
      → files (manifest_path store set.manifest_number) ≡ None

-- a store that keeps its files up to a number, if one is given, keeps one of this number
abbrev pub IsKept : Option ℕ → ℕ → Type 0
IsKept None n = ⊥
IsKept (Some last) n = n ≤ last

-- it keeps each file of its folder that is there and has a store's name
abbrev pub AreKept : List ℕ → Files → Option ℕ → Type 0
AreKept store files kept_to = (name : List ℕ) (n : ℕ) (kind : FileType) → IsFileName name n kind
    → files (in_folder store name) ≢ None → IsKept kept_to n

-- a path of a file that such a store keeps, and whose number the set gave or passed over
abbrev pub IsKeptPath : VersionSetValue → Option ℕ → List ℕ → Type 0
IsKeptPath set kept_to path = (name : List ℕ) × (n : ℕ) × (kind : FileType)
    × IsFileName name n kind × (n < set.next_file) × IsKept kept_to n
    × (path ≡ in_folder set.store name)

-- no such file loses a byte, now and at each moment on the way
abbrev pub SparesKept : Bool → VersionSetValue → Option ℕ → Observed → Observed → Type 0
SparesKept models_disk set kept_to from to = IsTrue models_disk
    → Run (LosesNoBytesAt (IsKeptPath set kept_to) from.disk.files) from to

-- a file of the folder has this number
abbrev pub HasNumberThere : List ℕ → Files → ℕ → Type 0
HasNumberThere store files n = (name : List ℕ) × (kind : FileType) × IsFileName name n kind
    × (files (in_folder store name) ≢ None)

-- ---- calls

module _ {E F : Type 0} (env : Ghosts E F) (store : List ℕ) (from to : E) where
  -- no byte is lost, now and at each moment on the way
  abbrev pub LosesNoBytesMeanwhile : Type 0
  LosesNoBytesMeanwhile = Run (LosesNoBytes store (env.observed from).disk.files)
      (env.observed from) (env.observed to)

  -- of a store that is there, so that `CURRENT` is, no byte is lost so
  abbrev pub LosesNothing : Type 0
  LosesNothing = IsTrue env.models_disk
      → (env.observed from).disk.files (current_path store) ≢ None → LosesNoBytesMeanwhile

  -- no byte is lost so where no table has the numbers that are given, which begin with this one
  abbrev pub NewTablesLoseNothing : ℕ → Type 0
  NewTablesLoseNothing next = IsTrue env.models_disk
      → TableNumbersAreBelow store (env.observed from).disk.files next → LosesNoBytesMeanwhile
