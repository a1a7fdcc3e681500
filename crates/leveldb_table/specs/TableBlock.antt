-- What reading the blocks of a table's file gives.
use Rattle.std.specs.Prelude.{◌≡◌, ◌⊎◌, ◌^◌, ◌<◌, ℕ, List, length, drop, Option, None, Some, Result, IsTrue, IsSomeAnd}
use Rattle.std.specs.declared.cmp.Ordering.{Ordering}
use Rattle.leveldb_base.specs.BlockHandle.{Handle, handle_bytes, HandleFits}
use Rattle.leveldb_base.specs.Types.{Pair}
use Rattle.leveldb_base.specs.Error.{IsOutOfMemory}
use Rattle.leveldb_base.specs.declared.error.Status.{Status}
use Rattle.leveldb_base.specs.declared.error.StatusCode.TheVariants.{Corruption}
use Rattle.leveldb_env.specs.Env.{FilesUnchanged, SameLocks, HasCause, bytes_of, Run}
use Rattle.leveldb_env.specs.declared.env.Env.{Ghosts}
use Rattle.leveldb_env.specs.Compressor.{Coding, Codings, Decodes, IsUnset, IsDecodeError}
use Rattle.leveldb_env.specs.FilterBlock.{IsFilterBlock}
use Rattle.leveldb_table.specs.Block.{IsNoBlock}
use Rattle.leveldb_table.specs.Table.{StoresAt, HasBlockAt}

-- ---- what is not there

-- the file ends before `size` bytes from the offset on
abbrev pub EndsBefore : List ℕ → ℕ → ℕ → Type 0
EndsBefore bytes offset size = length (drop offset bytes) < size

-- nothing is stored at the handle
abbrev pub StoresNothing : List ℕ → Handle → Type 0
StoresNothing bytes handle = (id : ℕ) (stored : List ℕ) → StoresAt bytes handle id stored → ⊥

-- no filter block is at the handle
abbrev pub HasNoFilters : List ℕ → Handle → Type 0
HasNoFilters bytes handle =
    (text : List ℕ) (filters : List (List ℕ)) → StoresAt bytes handle 0 text
    → IsFilterBlock text filters → ⊥

-- these bytes aren't decoded: their id has no compressor, or its compressor fails for these very
-- bytes, with a code of its own
abbrev pub IsUndecodedBy : Option Coding → ℕ → List ℕ → Status → Type 0
IsUndecodedBy None id stored status = IsUnset id status
IsUndecodedBy (Some coding) id stored status = IsDecodeError coding stored status

-- what is stored under this id isn't decoded, and the status says why
abbrev pub IsUndecoded : Codings → ℕ → List ℕ → Status → Type 0
IsUndecoded codings id stored status = IsUndecodedBy (codings id) id stored status

-- No block is at the handle, as a status says: nothing is stored there, or what is stored isn't
-- decoded, or it is decoded to what is no block.
pub data LacksBlock (codings : Codings) (cmp : List ℕ → List ℕ → Ordering) (bytes : List ℕ)
    (handle : Handle) (status : Status) : Type 0 where
  unstored : StoresNothing bytes handle → status.code ≡ Corruption
      → LacksBlock codings cmp bytes handle status
  undecoded : (id : ℕ) (stored : List ℕ) → StoresAt bytes handle id stored
      → IsUndecoded codings id stored status → LacksBlock codings cmp bytes handle status
  no_block : (text : List ℕ) → HasBlockAt (Decodes codings) bytes handle text → IsNoBlock cmp text
      → status.code ≡ Corruption → LacksBlock codings cmp bytes handle status

-- ---- the lines of an index

-- a line of the index names the handle
abbrev pub IsNamedBy : Option Pair → Handle → Type 0
IsNamedBy line handle = IsSomeAnd line (λ pair. pair.1 ≡ handle_bytes handle)

-- there is a line, and it names no handle
abbrev pub NamesNone : Option Pair → Type 0
NamesNone line =
    IsSomeAnd line
    (λ pair. (handle : Handle) → HandleFits handle → pair.1 ≡ handle_bytes handle → ⊥)

-- The line leads to no block, as a status says: it names no handle, or no block is there.
pub data LacksLine (codings : Codings) (cmp : List ℕ → List ℕ → Ordering) (bytes : List ℕ)
    (line : Option Pair) (status : Status) : Type 0 where
  unnamed : NamesNone line → status.code ≡ Corruption → LacksLine codings cmp bytes line status
  lacking : (handle : Handle) → IsNamedBy line handle → LacksBlock codings cmp bytes handle status
      → LacksLine codings cmp bytes line status

-- ---- calls that read

module _ {E F : Type 0} (env : Ghosts E F) where
  -- The disk stays as it is, at each moment too, and no lock changes.
  pub record KeepsDisk (old new : E) : Type 0 where
    pub disk : IsTrue env.models_disk
        → Run (FilesUnchanged (env.observed old).disk.files) (env.observed old) (env.observed new)
    pub locks : SameLocks env.models_disk (env.observed old) (env.observed new)

  -- an open file has these bytes, of a disk that is observed
  pub record FileHas (state : E) (file : F) (bytes : List ℕ) : Type 0 where
    pub modelled : IsTrue env.models_disk
    pub there : IsSomeAnd ((env.observed state).disk.files (env.name_of file))
        (λ found_file. bytes_of found_file ≡ bytes)
    pub fits : length bytes < 2 ^ 64

  -- a call that reads a file fails out of memory, for a cause of its own with no failure counted,
  -- or at a failure that is counted
  abbrev pub FailsFor : {T : Type 0} → (Status → Type 0) → E → E → Result T Status → Type 0
  FailsFor Why old new result =
      HasCause (λ status. IsOutOfMemory status
      ⊎ ((env.failures new ≡ env.failures old) × Why status))
      (env.failures old) (env.failures new) result

  -- it reads so, and leaves the disk as it is
  pub record ReadsFile {T : Type 0} (Why : Status → Type 0) (old new : E)
      (result : Result T Status) : Type 0 where
    pub kept_disk : KeepsDisk old new
    pub cause : FailsFor Why old new result

  -- the file has this property, whatever bytes it has
  abbrev pub ForBytesOf : E → F → (List ℕ → Type 0) → Type 0
  ForBytesOf state file P = (bytes : List ℕ) → FileHas state file bytes → P bytes

  -- the file is damaged so
  abbrev pub IsDamaged : (List ℕ → Type 0) → E → F → Status → Type 0
  IsDamaged Missing state file status = (status.code ≡ Corruption) × ForBytesOf state file Missing

  -- a status may tell that a block is lacking: of damage, or of stored bytes without a compressor
  -- or with one that fails for them
  abbrev pub HasLackCode : Codings → Status → Type 0
  HasLackCode codings status =
      (status.code ≡ Corruption)
      ⊎ ((id : ℕ) × (stored : List ℕ) × IsUndecoded codings id stored status)

  -- a part of the file is lacking, as the status says
  abbrev pub IsLackError : Codings → (List ℕ → Status → Type 0) → E → F → Status → Type 0
  IsLackError codings Lacks state file status =
      HasLackCode codings status × ForBytesOf state file (λ bytes. Lacks bytes status)
