-- A table that goes to its file block by block: what the file has, what changes on the way, and why
-- that stops.
use Rattle.std.specs.Prelude.{◌≡◌, ◌⊎◌, ◌<◌, ◌≤◌, ◌+◌, ◌^◌, ℕ, List, [], ◌∷◌, ◌++◌, length, false, Some, Result, IsTrue}
use Rattle.leveldb_base.specs.Error.{IsOutOfMemory}
use Rattle.leveldb_base.specs.Types.{Pair}
use Rattle.leveldb_base.specs.declared.cmp.Cmp.{Ghosts as CmpGhosts}
use Rattle.leveldb_base.specs.declared.error.Status.{Status}
use Rattle.leveldb_base.specs.declared.types.FileMetaData.{FileMetaData}
use Rattle.leveldb_env.specs.Compressor.{Codings}
use Rattle.leveldb_env.specs.Env.{AreBytes, File, HasCause, Run, SameBut, SameLocks, bytes_of, kept_file}
use Rattle.leveldb_env.specs.EnvFile.{IsLonger, Opened, Syncs, done, failed, opened, opened_file}
use Rattle.leveldb_env.specs.declared.env.Env.{Ghosts as EnvGhosts}
use Rattle.leveldb_env.specs.declared.filter.FilterPolicy.{Ghosts as FilterGhosts}
use Rattle.leveldb_table.specs.BlockBuilder.{last_added}
use Rattle.leveldb_table.specs.TableBuilder.{IsBegun, TableBuilt, last_of, order_of, policy_of}
use Rattle.leveldb_table.specs.TableBuilderAdd.{IsAddError}
use Rattle.leveldb_table.specs.TableBuilderFinish.{IsFinishError}
use Rattle.leveldb_files.specs.Steps.StoreSteps.{AppendedAreBytes}
use Rattle.leveldb_store.specs.Tables.BuildTable.{HasTaken, IsTableUnder, flushes_all, puts_all}

-- ---- what changes

module _ {E F : Type 0} (env : EnvGhosts E F) where
  -- now and at each moment on the way no other file changes, nor does a lock; what is appended are
  -- bytes; and no failure is forgotten
  pub record ChangesOneFile (path : List ℕ) (from to : E) : Type 0 where
    pub run : IsTrue env.models_disk → Run (SameBut path (env.observed from).disk.files)
        (env.observed from) (env.observed to)
    pub bytes : IsTrue env.models_disk → AppendedAreBytes (env.observed from).disk.files
        → AppendedAreBytes (env.observed to).disk.files
    pub locks : SameLocks env.models_disk (env.observed from) (env.observed to)
    pub later : env.failures from ≤ env.failures to

  -- the file is there, on a disk that is modelled
  abbrev pub IsThere : Opened E F → Type 0
  IsThere at = IsTrue env.models_disk → (file : File) × (opened_file env at ≡ Some file)

-- ---- why a call fails

-- an error that isn't counted: out of memory, or one of these, where nothing was counted
abbrev pub IsUncounted : (Status → Type 0) → ℕ → ℕ → Status → Type 0
IsUncounted Own before now status = IsOutOfMemory status ⊎ (Own status × (now ≡ before))

-- why a call fails that writes a table's file, by the counts of failures before and after: for one
-- of these causes, out of memory, or since the device failed
abbrev pub FailsToWrite : {T : Type 0} → (Status → Type 0) → ℕ → ℕ → Result T Status → Type 0
FailsToWrite Own before now result = HasCause (IsUncounted Own before now) before now result

module _ {E F : Type 0} (env : EnvGhosts E F) where
  -- the file has the bytes that it had and after them a prefix of these, now and at each moment on
  -- the way
  abbrev pub GrowsBy : Opened E F → List ℕ → E → Type 0
  GrowsBy from bytes to = IsTrue env.models_disk → (was : File)
      → opened_file env from ≡ Some was
      → Run (λ files. (file : File) × (files (env.name_of from.file) ≡ Some file)
      × (rest : List ℕ) × (bytes_of was ++ bytes ≡ bytes_of file ++ rest))
      (env.observed from.env) (env.observed to)

  -- of bytes that may be put a prefix is appended to the file
  pub record LeavesPart (May : List ℕ → Type 0) (from : Opened E F) (to : E) : Type 0 where
    pub bytes : List ℕ
    pub may : May bytes
    pub grows : GrowsBy from bytes to

  -- a call that writes a table's file failed, for one of these causes or another
  pub record StopsWriting (Own : Status → Type 0) (from : Opened E F) (status : Status) (to : E)
      : Type 0 where
    pub changes : ChangesOneFile env (env.name_of from.file) from.env to
    pub cause : FailsToWrite Own (env.failures from.env) (env.failures to) (failed status)

-- ---- what a table's file is known by

-- the metadata of a table under this number, of this first and this last key: no seeks are counted
pub record IsMetadataOf (number : ℕ) (smallest largest : List ℕ) (file : FileMetaData)
    : Type 0 where
  pub number_is : file.num ≡ number
  pub seeks : file.allowed_seeks ≡ 0
  pub smallest_is : file.smallest ≡ smallest
  pub largest_is : file.largest ≡ largest
  pub bytes : AreBytes largest
  pub fits : file.size < 2 ^ 64

-- ---- the builder beside its file

module _ {C FP : Type 0} (order : CmpGhosts C) (filters : FilterGhosts FP) (codings : Codings) where
  -- the builder doesn't take a pair, though no put fails, whatever was put before
  abbrev pub IsAddFault : TableBuilt C FP → Pair → Status → Type 0
  IsAddFault core pair status = (written : List ℕ) → (to : List ℕ)
      × IsAddError order filters codings core puts_all pair written status to

  -- nor does it finish its table
  abbrev pub IsFinishFault : TableBuilt C FP → Status → Type 0
  IsFinishFault core status = (written : List ℕ) → (to : List ℕ)
      × IsFinishError order filters codings core puts_all flushes_all written status to

  -- with these bytes after what it put before, whatever that was, it doesn't finish it either
  abbrev pub IsUnfinishedWith : TableBuilt C FP → List ℕ → Type 0
  IsUnfinishedWith core bytes = (written : List ℕ) → (status : Status)
      × IsFinishError order filters codings core puts_all flushes_all written status
      (written ++ bytes)

  -- What it may put next where a call fails: bytes with which it doesn't finish its table, or all
  -- that is left of it.
  abbrev pub MayPut : TableBuilt C FP → List ℕ → Type 0
  MayPut core bytes = IsUnfinishedWith core bytes
      ⊎ ((written : List ℕ) (pairs : List Pair)
      → IsBegun codings order filters core written pairs
      → IsTableUnder order filters codings (order_of core) (policy_of core) core.compressor
      core.block.interval core.index.interval (written ++ bytes) pairs)

  module _ {E F : Type 0} (env : EnvGhosts E F) where
    -- a pair was added: the block that was closed, if one was, is appended to the file
    pub record AddsToFile (core : TableBuilt C FP) (from : Opened E F) (pair : Pair)
        (new : TableBuilt C FP) (to : Opened E F) : Type 0 where
      pub bytes : List ℕ
      pub longer : IsLonger env from bytes to
      pub begun : (written : List ℕ) (pairs : List Pair)
          → IsBegun codings order filters core written pairs
          → IsBegun codings order filters new (written ++ bytes) (pairs ++ pair ∷ [])
      pub last : last_of new ≡ pair.0
      pub count : new.count ≡ core.count + 1
      pub counted : new.count < 2 ^ 64
      pub unbroken : new.broken ≡ false

    -- these pairs were added to a builder that had none: the blocks that were closed are appended
    -- to the file
    pub record AddsAllToFile (core : TableBuilt C FP) (from : Opened E F) (pairs : List Pair)
        (new : TableBuilt C FP) (to : Opened E F) : Type 0 where
      pub bytes : List ℕ
      pub longer : IsLonger env from bytes to
      pub taken : HasTaken order filters codings puts_all core [] pairs new bytes
      pub last : last_of new ≡ last_added pairs

    -- the table was finished: what was left of it was appended, and all was synced
    pub record FinishesFile (core : TableBuilt C FP) (from : Opened E F) (size : ℕ) (to : E)
        : Type 0 where
      pub bytes : List ℕ
      pub mid : Opened E F
      pub longer : IsLonger env from bytes mid
      pub file : F
      pub synced : Syncs env mid done (opened to file)
      pub made : (written : List ℕ) (pairs : List Pair)
          → IsBegun codings order filters core written pairs
          → IsTableUnder order filters codings (order_of core) (policy_of core) core.compressor
          core.block.interval core.index.interval (written ++ bytes) pairs
          × (size ≡ length (written ++ bytes))

    -- The table that a new builder makes of the pairs is the file under the path, all of it kept,
    -- and its metadata is the table's. No failure was counted.
    pub record WritesTable (core : TableBuilt C FP) (path : List ℕ) (number : ℕ)
        (smallest : List ℕ) (pairs : List Pair) (made : FileMetaData) (from to : E)
        : Type 0 where
      pub bytes : List ℕ
      pub built : IsTableUnder order filters codings (order_of core) (policy_of core)
          core.compressor core.block.interval core.index.interval bytes pairs
      pub kept : IsTrue env.models_disk
          → (env.observed to).disk.files path ≡ Some (kept_file bytes)
      pub size_is : made.size ≡ length bytes
      pub known : IsMetadataOf number smallest (last_added pairs) made
      pub counted : env.failures to ≡ env.failures from
