-- The paths of a store's files, each under the store's own path.
use Rattle.std.specs.Prelude.{◌≡◌, ◌⊎◌, ℕ, List}
use Rattle.leveldb_base.specs.declared.types.FileType.{FileType}
use Rattle.leveldb_base.specs.declared.types.FileType.TheVariants.{Log, DBLock, Descriptor, Table, Current}
use Rattle.leveldb_base.specs.Names.{IsFileName, file_path}
use Rattle.leveldb_env.specs.Env.{in_folder}

-- the file that is locked while a store is open
abbrev pub lock_path : List ℕ → List ℕ
lock_path store = file_path store DBLock 0

-- the file that names the manifest
abbrev pub current_path : List ℕ → List ℕ
current_path store = file_path store Current 0

-- the log of a number, under the name that a store gives to it
abbrev pub log_path : List ℕ → ℕ → List ℕ
log_path store n = file_path store Log n

-- the table of a number, under the name that a store gives to it
abbrev pub table_path : List ℕ → ℕ → List ℕ
table_path store n = file_path store Table n

-- the manifest of a number, under the name that a store gives to it
abbrev pub manifest_path : List ℕ → ℕ → List ℕ
manifest_path store n = file_path store Descriptor n

-- a path in the store's folder whose name says that it is of this type, with a number if such
-- names have one
abbrev pub IsFilePath : FileType → List ℕ → List ℕ → Type 0
IsFilePath kind store path =
    (name : List ℕ) × (n : ℕ) × IsFileName name n kind × (path ≡ in_folder store name)

-- the path of a file that is a list of records: a log or a manifest
abbrev pub IsJournal : List ℕ → List ℕ → Type 0
IsJournal store path = IsFilePath Log store path ⊎ IsFilePath Descriptor store path
