-- What is left out of a log or a manifest, which is read up to its first bad end.
use Rattle.std.specs.List.{concat}
use Rattle.std.specs.Prelude.{◌≡◌, ◌≢◌, ◌≤◌, ◌%◌, ◌⊎◌, ◌↔◌, ◌++◌, ◌==◌, ◌||◌, ◌∷◌, [], ℕ, Bool, List, None, Option, Some, IsSomeAnd, IsTrue, drop, false, if◌then◌else◌, length, take, true}
use Rattle.leveldb_base.specs.Names.{IsFileName}
use Rattle.leveldb_base.specs.declared.types.FileType.{FileType}
use Rattle.leveldb_base.specs.declared.types.FileType.TheVariants.{Descriptor, Log}
use Rattle.leveldb_env.specs.Env.{Files, bytes_of, in_folder}
use Rattle.leveldb_mem.specs.Log.{AreFragments, Fragment, IsFragment, IsLogFile, begun_of, clean, filler, log_block_size, offset_after, record_type}
use Rattle.leveldb_version_set.specs.Sets.VersionSetValue.{VersionSetValue}
use Rattle.leveldb_version_set.specs.Engines.Writing.{IsObsolete}

-- ---- records that are lost

-- the fragment has the end of its record: it is all of it, or the last part
abbrev pub EndsRecord : Fragment → Type 0
EndsRecord fragment = (fragment.type ≡ 1) ⊎ (fragment.type ≡ 4)

-- from this offset of a block on, the bytes begin with a whole fragment that ends a record
pub record StartsWithEnd (offset : ℕ) (bytes : List ℕ) : Type 0 where
  pub fragment : Fragment
  pub ends : EndsRecord fragment
  pub front : List ℕ
  pub more : List ℕ
  pub bytes_are : bytes ≡ front ++ more
  pub whole : IsFragment true log_block_size fragment offset front

-- at this offset of a log's bytes, or after it, such a fragment begins
abbrev pub HasEndFrom : List ℕ → ℕ → Type 0
HasEndFrom bytes from =
    (at : ℕ) × (from ≤ at) × StartsWithEnd (at % log_block_size) (drop at bytes)

-- a fragment goes on with a record that these parts have begun: it has the next part, or the last
-- one, if the record has a byte then
abbrev pub ContinuesRecord : List (List ℕ) → Fragment → Type 0
ContinuesRecord [] fragment = (fragment.type ≡ record_type true false)
    ⊎ ((fragment.type ≡ record_type true true) × (fragment.part ≢ []))
ContinuesRecord (first ∷ parts) fragment = (fragment.type ≡ record_type false false)
    ⊎ ((fragment.type ≡ record_type false true)
    × (concat (first ∷ parts) ++ fragment.part ≢ []))

-- no fragment with which bytes begin, from this offset of a block on, goes on with the record that
-- these parts have begun
abbrev pub NoneContinues : List (List ℕ) → ℕ → List ℕ → Type 0
NoneContinues parts offset bytes = (fragment : Fragment) → ContinuesRecord parts fragment
    → (front more : List ℕ) → bytes ≡ front ++ more
    → IsFragment true log_block_size fragment offset front → ⊥

-- A log's bytes lose records: after its whole records comes a bad end, the parts of a record with
-- which none goes on, if it has begun, and somewhere after these a whole fragment comes that ends a
-- record. A torn end, as a crash leaves it, has none.
pub record LosesRecords (bytes : List ℕ) : Type 0 where
  -- the whole records
  pub records : List (List ℕ)
  pub front : List ℕ
  pub read : IsLogFile front records clean
  -- the record that has begun
  pub parts : List (List ℕ)
  pub begun : List ℕ
  pub laid : AreFragments true log_block_size (begun_of true parts)
      (offset_after log_block_size 0 front) begun
  -- what comes after it
  pub rest : List ℕ
  pub bytes_are : bytes ≡ (front ++ begun) ++ rest
  pub none : NoneContinues parts (offset_after log_block_size 0 (front ++ begun)) rest
  pub later : HasEndFrom bytes (length (front ++ begun))

-- ---- files

-- A file of this number and type is a log or a manifest that is left aside: no opening reads it any
-- more.
abbrev pub IsLeftAside : VersionSetValue → FileType → ℕ → Type 0
IsLeftAside set kind number =
    ((kind ≡ Log) ⊎ (kind ≡ Descriptor)) × IsObsolete set kind number

-- the file of this name in the set's folder is such a file, and its bytes lose records
pub record IsDamagedFile (set : VersionSetValue) (files : Files) (name : List ℕ) : Type 0 where
  pub number : ℕ
  pub kind : FileType
  pub named : IsFileName name number kind
  pub aside : IsLeftAside set kind number
  pub loses : IsSomeAnd (files (in_folder set.store name)) (λ file. LosesRecords (bytes_of file))

-- the path of such a file
abbrev pub IsDamagedPath : VersionSetValue → Files → List ℕ → Type 0
IsDamagedPath set files path =
    (name : List ℕ) × IsDamagedFile set files name × (path ≡ in_folder set.store name)

-- there is such a file
abbrev pub HasDamagedFile : VersionSetValue → Files → Type 0
HasDamagedFile set files = (name : List ℕ) × IsDamagedFile set files name

-- the path of the file of this name, if it is damaged
abbrev pub IsPathIfDamaged : VersionSetValue → Files → List ℕ → Option (List ℕ) → Type 0
IsPathIfDamaged set files name None = IsDamagedFile set files name → ⊥
IsPathIfDamaged set files name (Some path) =
    IsDamagedFile set files name × (path ≡ in_folder set.store name)

-- ---- one fragment after the other

-- these parts have begun a record, which says whether one is open, and whether it has data
pub record HasBegun (parts : List (List ℕ)) (is_open has_data : Bool) : Type 0 where
  pub opened : IsTrue is_open ↔ (parts ≢ [])
  pub filled : IsTrue has_data ↔ (concat parts ≢ [])

-- the parts that have begun a record after this fragment
abbrev pub parts_after : List (List ℕ) → Fragment → List (List ℕ)
parts_after parts fragment =
    if (fragment.type == 1) || (fragment.type == 4) then [] else parts ++ fragment.part ∷ []

-- fragments go on, one after another, from a record that these parts have begun to one that those
-- have
abbrev pub ContinueInTurn : List (List ℕ) → List Fragment → List (List ℕ) → Type 0
ContinueInTurn parts [] those = those ≡ parts
ContinueInTurn parts (fragment ∷ fragments) those =
    ContinuesRecord parts fragment × ContinueInTurn (parts_after parts fragment) fragments those

-- the bytes up to an offset are whole fragments in their places, and after them a record is open or
-- isn't, and has data or hasn't
pub record AreWholeUpTo (bytes : List ℕ) (end : ℕ) (is_open has_data : Bool) : Type 0 where
  pub fragments : List Fragment
  pub whole : AreFragments true log_block_size fragments 0 (take end bytes)
  pub parts : List (List ℕ)
  pub placed : ContinueInTurn [] fragments parts
  pub begun : HasBegun parts is_open has_data

-- where the bytes are whole up to this offset, no fragment goes on from there
abbrev pub NoneGoesOn : List ℕ → ℕ → Bool → Bool → Type 0
NoneGoesOn bytes end is_open has_data = (parts : List (List ℕ)) → HasBegun parts is_open has_data
    → NoneContinues parts (end % log_block_size) (drop end bytes)

-- a fragment is of this type, and has data or hasn't
pub record IsOfKind (fragment : Fragment) (kind : ℕ) (has_data : Bool) : Type 0 where
  pub type : fragment.type ≡ kind
  pub filled : IsTrue has_data ↔ (fragment.part ≢ [])

-- from this offset of a block on, so many bytes at the front are a whole fragment of this kind
pub record IsWholeFront (offset : ℕ) (bytes : List ℕ) (count kind : ℕ) (has_data : Bool)
    : Type 0 where
  pub fragment : Fragment
  pub whole : IsFragment true log_block_size fragment offset (take count bytes)
  pub is_kind : IsOfKind fragment kind has_data

-- after the filler that comes at this offset of a block, the bytes begin with a fragment, whatever
-- its checksum is
pub record IsHeaded (offset : ℕ) (bytes fragment : List ℕ) : Type 0 where
  pub header : Fragment
  pub more : List ℕ
  pub bytes_are : bytes ≡ fragment ++ more
  pub unchecked : IsFragment false log_block_size header offset
      (filler log_block_size offset ++ fragment)
