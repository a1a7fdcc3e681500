-- The names of a store's files: those that it gives, and the number and type that a name has.
use Rattle.std.specs.Prelude.{◌≡◌, ◌⊎◌, ◌-◌, ◌^◌, ◌<◌, ℕ, List, [], ◌++◌, Result, Ok, Err, codes, length, replicate}
use Rattle.std.specs.Fmt.{decimal}
use Rattle.std.specs.Str.Parse.{IsNumeral, digits_value}
use Rattle.leveldb_base.specs.declared.error.Status.{Status}
use Rattle.leveldb_base.specs.declared.error.StatusCode.TheVariants.{InvalidArgument}
use Rattle.leveldb_base.specs.declared.types.FileType.{FileType}
use Rattle.leveldb_base.specs.declared.types.FileType.TheVariants.{Log, DBLock, Table, Descriptor, Current, Temp, InfoLog}

-- the text is decimal digits alone, one at least, of a number of 64 bits
pub record IsNumber (text : List ℕ) (n : ℕ) : Type 0 where
  -- digits alone, one at least
  pub digits : IsNumeral 10 text
  -- they represent this number, zeros before it left aside
  pub value : n ≡ digits_value 10 text
  -- which has at most 64 bits
  pub fits : n < 2 ^ 64

-- the name is a number's text between these two
abbrev pub IsNumbered : List ℕ → List ℕ → List ℕ → ℕ → Type 0
IsNumbered front back name n = (text : List ℕ) × IsNumber text n × (name ≡ front ++ text ++ back)

-- a name without a number, of this type
abbrev pub IsWord : List ℕ → FileType → Type 0
IsWord name DBLock = name ≡ codes "LOCK"
IsWord name Current = name ≡ codes "CURRENT"
IsWord name InfoLog = (name ≡ codes "LOG") ⊎ (name ≡ codes "LOG.old")
IsWord name Log = ⊥
IsWord name Table = ⊥
IsWord name Descriptor = ⊥
IsWord name Temp = ⊥

-- the extension after a number and a dot, of this type
abbrev pub IsExtension : List ℕ → FileType → Type 0
IsExtension text Log = text ≡ codes "log"
IsExtension text Table = (text ≡ codes "ldb") ⊎ (text ≡ codes "sst")
IsExtension text Temp = text ≡ codes "dbtmp"
IsExtension text DBLock = ⊥
IsExtension text Descriptor = ⊥
IsExtension text Current = ⊥
IsExtension text InfoLog = ⊥

-- The name, without a folder, is one of a file of this type and number, which is 0 where it has
-- none.
abbrev pub IsFileName : List ℕ → ℕ → FileType → Type 0
IsFileName name n Log = IsNumbered [] (codes ".log") name n
IsFileName name n DBLock = (name ≡ codes "LOCK") × (n ≡ 0)
IsFileName name n Table = IsNumbered [] (codes ".ldb") name n ⊎ IsNumbered [] (codes ".sst") name n
IsFileName name n Descriptor = IsNumbered (codes "MANIFEST-") [] name n
IsFileName name n Current = (name ≡ codes "CURRENT") × (n ≡ 0)
IsFileName name n Temp = IsNumbered [] (codes ".dbtmp") name n
IsFileName name n InfoLog = ((name ≡ codes "LOG") ⊎ (name ≡ codes "LOG.old")) × (n ≡ 0)

-- What reading a name gives: its number and type, or `InvalidArgument` for no name of a store's
-- file.
abbrev pub ReadsName : List ℕ → Result (ℕ × FileType) Status → Type 0
ReadsName name (Ok found) = IsFileName name found.0 found.1
ReadsName name (Err status) =
    (status.code ≡ InvalidArgument) × ((n : ℕ) (kind : FileType) → IsFileName name n kind → ⊥)

-- a number in decimal digits, with zeros before them where they are fewer than six
abbrev pub six_digits : ℕ → List ℕ
six_digits n = replicate (6 - length (decimal n)) 48 ++ decimal n

-- the name that a store gives to a file of this type
abbrev pub file_name : FileType → ℕ → List ℕ
file_name Log n = six_digits n ++ codes ".log"
file_name DBLock n = codes "LOCK"
file_name Table n = six_digits n ++ codes ".ldb"
file_name Descriptor n = codes "MANIFEST-" ++ six_digits n
file_name Current n = codes "CURRENT"
file_name Temp n = six_digits n ++ codes ".dbtmp"
file_name InfoLog n = codes "LOG"

-- a file of this type may have the number: any of 64 bits where its name has one, and else 0
abbrev pub MayHaveNumber : FileType → ℕ → Type 0
MayHaveNumber Log n = n < 2 ^ 64
MayHaveNumber DBLock n = n ≡ 0
MayHaveNumber Table n = n < 2 ^ 64
MayHaveNumber Descriptor n = n < 2 ^ 64
MayHaveNumber Current n = n ≡ 0
MayHaveNumber Temp n = n < 2 ^ 64
MayHaveNumber InfoLog n = n ≡ 0

-- the whole path of such a file in a store's folder
abbrev pub file_path : List ℕ → FileType → ℕ → List ℕ
file_path store kind n = store ++ (codes "/" ++ file_name kind n)
