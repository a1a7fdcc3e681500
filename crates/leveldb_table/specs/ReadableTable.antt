-- Readable tables: which bytes are one, and how the file at a path is judged to have one.
use Rattle.std.specs.Prelude.{◌≡◌, ◌≢◌, ◌<◌, ◌^◌, ◌↔◌, ℕ, Bool, true, List, [], ◌∷◌, length, Option, None, Some, IfSome, IsSome, IsSomeAnd, Result, IfOk, OnOk, IsTrue, Contains}
use Rattle.std.specs.List.{AllByRecursion}
use Rattle.std.specs.declared.cmp.Ordering.{Ordering}
use Rattle.std.specs.declared.cmp.Ordering.TheVariants.{Less}
use Rattle.leveldb_base.specs.BlockHandle.{Handle, handle_bytes}
use Rattle.leveldb_base.specs.Cmp.{internal_accepts}
use Rattle.leveldb_base.specs.KeyTypes.{internal_cmp, internal_key, user_part}
use Rattle.leveldb_base.specs.Types.{Pair}
use Rattle.leveldb_base.specs.declared.error.Status.{Status}
use Rattle.leveldb_base.specs.declared.error.StatusCode.TheVariants.{Corruption}
use Rattle.leveldb_base.specs.declared.key_types.ValueType.{ValueType}
use Rattle.leveldb_env.specs.Compressor.{Codings, Decodes}
use Rattle.leveldb_env.specs.Env.{bytes_of}
use Rattle.leveldb_env.specs.declared.env.Env.{Ghosts}
use Rattle.leveldb_table.specs.Block.{IsBlock}
use Rattle.leveldb_table.specs.Table.{HasBlockAt, IsTable, StoresAt}
use Rattle.leveldb_table.specs.TableBlock.{ForBytesOf, HasLackCode, IsUndecoded, ReadsFile}
use Rattle.leveldb_table.specs.TableLaws.{DecodesMore}
use Rattle.leveldb_table.specs.TableReader.{EndsInFooter, HasIndex}

-- ---- readable tables

-- the key has its tag, of a type that there is and a sequence number from 1 on
pub record IsNumberedKey (key : List ℕ) : Type 0 where
  pub user : List ℕ
  pub sequence : ℕ
  pub kind : ValueType
  pub key_is : key ≡ internal_key user sequence kind
  pub from_one : 0 < sequence
  pub fits : sequence < 2 ^ 56

-- The bytes are a table of these pairs, whatever its filters are, and each key has its tag. Of no
-- filter policy it is known what its filters mean.
pub record IsNumberedTable (Decodes : ℕ → List ℕ → List ℕ → Type 0) (accepts : List ℕ → Bool)
    (cmp : List ℕ → List ℕ → Ordering) (bytes : List ℕ) (pairs : List Pair) : Type 0 where
  pub table : IsTable Decodes accepts cmp (λ name. None) user_part bytes pairs
  pub numbered : AllByRecursion (λ pair. IsNumberedKey pair.0) pairs

-- the same under an order of users' keys: such bytes are a readable table of these pairs
abbrev pub IsReadableTable : (ℕ → List ℕ → List ℕ → Type 0) → (List ℕ → List ℕ → Ordering)
    → List ℕ → List Pair → Type 0
IsReadableTable Decodes cmp bytes pairs =
    IsNumberedTable Decodes (internal_accepts (λ key. true)) (internal_cmp cmp) bytes pairs

-- ---- what a file is judged by

-- A test says whether something holds by these codings, and by all that decode more.
abbrev pub TestsByMore : Codings → ((ℕ → List ℕ → List ℕ → Type 0) → Type 0) → Bool → Type 0
TestsByMore codings Holds test =
    (more : Codings) → DecodesMore (Decodes codings) (Decodes more)
    → IsTrue test ↔ Holds (Decodes more)

-- what is stored at a handle isn't decoded, and the status says why
abbrev pub IsUndecodedAt : Codings → List ℕ → Handle → Status → Type 0
IsUndecodedAt codings bytes handle status =
    (id : ℕ) × (stored : List ℕ) × StoresAt bytes handle id stored
    × IsUndecoded codings id stored status

-- a block of a file is at this handle, as its footer says, or a line of its index
pub data IsHandleIn (codings : Codings) (cmp : List ℕ → List ℕ → Ordering) (bytes : List ℕ)
    (handle : Handle) : Type 0 where
  of_metaindex : (index : Handle) → EndsInFooter bytes (length bytes) handle index
      → IsHandleIn codings cmp bytes handle
  of_index : (meta : Handle) → EndsInFooter bytes (length bytes) meta handle
      → IsHandleIn codings cmp bytes handle
  of_line : (lines : List Pair) (meta index : Handle) (line : Pair)
      → HasIndex codings cmp bytes (length bytes) lines meta index → Contains lines line
      → line.1 ≡ handle_bytes handle → IsHandleIn codings cmp bytes handle

-- a block of a file isn't decoded, and the status says why
abbrev pub HasUndecodedBlock : Codings → (List ℕ → List ℕ → Ordering) → List ℕ → Status → Type 0
HasUndecodedBlock codings cmp bytes status =
    (handle : Handle) × IsHandleIn codings cmp bytes handle
    × IsUndecodedAt codings bytes handle status

module _ {E F : Type 0} (env : Ghosts E F) where
  -- the file at a path has these bytes, of a disk that is observed
  pub record PathHas (state : E) (path bytes : List ℕ) : Type 0 where
    pub modelled : IsTrue env.models_disk
    pub there : IsSomeAnd ((env.observed state).disk.files path) (λ file. bytes_of file ≡ bytes)

  -- What a call says that judges the file at a path, in this order of users' keys and by these
  -- codings.
  pub record JudgesTable (codings : Codings) (cmp : List ℕ → List ℕ → Ordering) (path : List ℕ)
      (old : E) (result : Result Bool Status) (new : E) : Type 0 where
    -- whatever bytes the file has: whether they are a readable table
    pub ok : (bytes : List ℕ) → PathHas old path bytes → IfOk result (TestsByMore codings
        (λ Decodes. (pairs : List Pair) × IsReadableTable Decodes cmp bytes pairs))
    -- a file that is missing isn't judged
    pub there : OnOk result (IsTrue env.models_disk
        → IsSome ((env.observed old).disk.files path))
    -- it fails out of memory, at a failure of the device, since the file is missing, or since a
    -- block of it isn't decoded; it changes nothing
    pub reads : ReadsFile env (λ status. HasLackCode env codings status
        × ((bytes : List ℕ) → PathHas old path bytes
        → HasUndecodedBlock codings (internal_cmp cmp) bytes status)) old new result

-- ---- how it is judged

-- The key is accepted and numbered, after the line of the index before, where there is one, and
-- not after its own line.
pub record IsKeyBetween (accepts : List ℕ → Bool) (cmp : List ℕ → List ℕ → Ordering)
    (before : Option (List ℕ)) (line key : List ℕ) : Type 0 where
  pub accepted : accepts key ≡ true
  pub numbered : IsNumberedKey key
  pub after : IfSome before (λ last. cmp last key ≡ Less)
  pub upto : cmp line key ≢ Less

-- there are pairs, and each key is so
abbrev pub AreKeysBetween : (List ℕ → Bool) → (List ℕ → List ℕ → Ordering) → Option (List ℕ)
    → List ℕ → List Pair → Type 0
AreKeysBetween accepts cmp before line pairs =
    (pairs ≢ []) × AllByRecursion (λ pair. IsKeyBetween accepts cmp before line pair.0) pairs

-- A line of the index names a data block, whose keys are between the line before and this one.
pub record LineHolds (Decodes : ℕ → List ℕ → List ℕ → Type 0) (accepts : List ℕ → Bool)
    (cmp : List ℕ → List ℕ → Ordering) (bytes : List ℕ) (before : Option (List ℕ))
    (line : Pair) : Type 0 where
  pub handle : Handle
  pub named : line.1 ≡ handle_bytes handle
  pub text : List ℕ
  pub is_there : HasBlockAt Decodes bytes handle text
  pub pairs : List Pair
  pub block : IsBlock cmp text pairs
  pub accepted : accepts line.0 ≡ true
  pub between : AreKeysBetween accepts cmp before line.0 pairs

-- each of these lines does, the first of them after the line before
abbrev pub LinesHold : (ℕ → List ℕ → List ℕ → Type 0) → (List ℕ → Bool)
    → (List ℕ → List ℕ → Ordering) → List ℕ → Option (List ℕ) → List Pair → Type 0
LinesHold Decodes accepts cmp bytes before [] = Unit {0}
LinesHold Decodes accepts cmp bytes before (line ∷ lines) =
    LineHolds Decodes accepts cmp bytes before line
    × LinesHold Decodes accepts cmp bytes (Some line.0) lines

-- by no codings that decode more is a block at the handle
abbrev pub HasNoBlockByMore : Codings → (List ℕ → List ℕ → Ordering) → List ℕ → Handle → Type 0
HasNoBlockByMore codings cmp bytes handle =
    (more : Codings) → DecodesMore (Decodes codings) (Decodes more) → (text : List ℕ)
    (pairs : List Pair) → HasBlockAt (Decodes more) bytes handle text → IsBlock cmp text pairs → ⊥

-- a line's block isn't decoded, and the status says why
abbrev pub IsUndecodedLine : Codings → List ℕ → List ℕ → Status → Type 0
IsUndecodedLine codings bytes value status =
    (handle : Handle) × (value ≡ handle_bytes handle) × IsUndecodedAt codings bytes handle status

module _ {E F : Type 0} (env : Ghosts E F) where
  -- an open file of this size has this property, whatever bytes it has
  abbrev pub ForFileOf : E → F → ℕ → (List ℕ → Type 0) → Type 0
  ForFileOf state file size P = ForBytesOf env state file (λ bytes. size ≡ length bytes → P bytes)

  -- what a call says that opens the file at a path, and returns how many bytes it has
  pub record OpensJudged (path : List ℕ) (old : E) (result : Result (F × ℕ) Status) (new : E)
      : Type 0 where
    pub ok : IfOk result (λ opened. IsTrue env.models_disk → (env.name_of opened.0 ≡ path)
        × IsSomeAnd ((env.observed old).disk.files path)
        (λ file. opened.1 ≡ length (bytes_of file)))
    -- it fails out of memory, at a failure of the device, or since the file is missing
    pub reads : ReadsFile env (λ status. (status.code ≡ Corruption)
        × (IsTrue env.models_disk → (env.observed old).disk.files path ≡ None)) old new result
