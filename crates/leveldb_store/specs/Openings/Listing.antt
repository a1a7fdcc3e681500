-- The files that are listed in a store's folder.
use Rattle.std.specs.Prelude.{◌≡◌, ◌⊎◌, ℕ, List, [], ◌∷◌, ◌++◌, All, Contains, IsTrue, map, string_bytes}
use Rattle.leveldb_base.specs.Names.{IsFileName}
use Rattle.leveldb_base.specs.declared.types.FileType.{FileType}
use Rattle.leveldb_env.specs.Env.{ListsChildren}
use Rattle.leveldb_env.specs.declared.env.Env.{Ghosts}
use Rattle.leveldb_store.specs.declared.opening.listing.ListedFile.{ListedFile}

-- these are the names of the files in the store's folder
abbrev pub AreNamesIn : {E F : Type 0} → Ghosts E F → List ℕ → E → List (List ℕ) → Type 0
AreNamesIn env store at names =
    IsTrue env.models_disk → ListsChildren (env.observed at).disk.files store names

-- the names of listed files
abbrev pub names_of : List ListedFile → List (List ℕ)
names_of files = map (λ (file : ListedFile). string_bytes file.name) files

-- a listed file has the number and the type of its name
abbrev pub MatchesName : ListedFile → Type 0
MatchesName file = IsFileName (string_bytes file.name) file.number file.kind

-- the name is of no file of a store
abbrev pub IsForeign : List ℕ → Type 0
IsForeign name = (n : ℕ) (kind : FileType) → IsFileName name n kind → ⊥

-- the file of a name has come, if it is one of a store
abbrev pub AddsFile : List ℕ → List ListedFile → List ListedFile → Type 0
AddsFile name old new = (IsForeign name × (new ≡ old))
    ⊎ ((file : ListedFile) × MatchesName file × (string_bytes file.name ≡ name)
    × (new ≡ old ++ file ∷ []))

-- these are the files of a store among these names
pub record AreFilesOf (names : List (List ℕ)) (files : List ListedFile) : Type 0 where
  pub named : All MatchesName files
  pub there : (name : List ℕ) → Contains (names_of files) name → Contains names name
  pub all : (name : List ℕ) (n : ℕ) (kind : FileType) → Contains names name
      → IsFileName name n kind → Contains (names_of files) name

-- these are the files of a store in its folder
abbrev pub AreFilesIn : {E F : Type 0} → Ghosts E F → List ℕ → E → List ListedFile → Type 0
AreFilesIn env store at files =
    (names : List (List ℕ)) × AreNamesIn env store at names × AreFilesOf names files
