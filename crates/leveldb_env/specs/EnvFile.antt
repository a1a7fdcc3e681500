-- An open file, and what the calls on it change of it and of its environment.
use Rattle.std.specs.Prelude.{◌≡◌, ◌⊎◌, ◌≤◌, ◌+◌, ℕ, List, [], ◌++◌, length, take, drop, Option, None, Some, Result, Ok, Err, OnErr, IfOk, IfSome, IsTrue}
use Rattle.leveldb_base.specs.declared.error.Status.{Status}
use Rattle.leveldb_env.specs.declared.env.Env.{Ghosts}
use Rattle.leveldb_env.specs.declared.env.env_file.EnvFile.{EnvFile}
use Rattle.leveldb_env.specs.Env.{AreBytes, File, bytes_of, same, extended, synced, ChangesFiles, BeforeOrAfter, PrefixAppended, FilesUnchanged, SameLocks, HasCause, IsMissing, IsGone, Run}

-- an environment and a file that is open
pub record Opened (E F : Type 0) : Type 0 where
  -- the environment
  pub env : E
  -- one of its files
  pub file : F

-- an environment with one of its open files
abbrev pub opened : {E F : Type 0} → E → F → Opened E F
opened env file = record { env = env; file = file }

-- what is borrowed changes so, and is still the same
pub record ChangesBorrowedFile {E F : Type 0} (Changes : Opened E F → Opened E F → Type 0)
    (old new : EnvFile E F) : Type 0 where
  -- what is borrowed changes so
  pub changes : Changes (opened old.env.now old.file.now) (opened new.env.now new.file.now)
  -- the environment is the same one
  pub same_env : new.env.ghost_name ≡ old.env.ghost_name
  -- and so is the file
  pub same_file : new.file.ghost_name ≡ old.file.ghost_name

-- These bytes come next from an offset of a file on, no more than there is room for, and none only
-- at its end or for no room.
pub record IsNextPiece (offset room : ℕ) (piece file : List ℕ) : Type 0 where
  -- the piece is the file's bytes from the offset on
  pub bytes_are : piece ≡ take (length piece) (drop offset file)
  -- no more than there is room for
  pub fits : length piece ≤ room
  -- none only for no room or at the end
  pub none : piece ≡ [] → (room ≡ 0) ⊎ (drop offset file ≡ [])

-- the same of the file of a name, which is there
abbrev pub IsNextPieceOf : Option File → ℕ → ℕ → List ℕ → Type 0
IsNextPieceOf None offset room piece = ⊥
IsNextPieceOf (Some file) offset room piece = IsNextPiece offset room piece (bytes_of file)

-- what a call returns that was done
abbrev pub done : Result (Unit {0}) Status
done = Ok tt

-- a call failed with this status
abbrev pub failed : Status → Result (Unit {0}) Status
failed status = Err status

-- ---- what a call does

module _ {E F : Type 0} (env : Ghosts E F) where
  -- the file of its name
  abbrev pub opened_file : Opened E F → Option File
  opened_file state = (env.observed state.env).disk.files (env.name_of state.file)

  -- a put is one append
  pub record Appends (old : Opened E F) (bytes : List ℕ) (result : Result (Unit {0}) Status)
      (new : Opened E F) : Type 0 where
    -- the bytes are appended to the file, or at an Err any prefix of them
    pub does : ChangesFiles env.models_disk (extended (env.name_of old.file) bytes)
        (PrefixAppended (env.name_of old.file) bytes) (env.observed old.env)
        (env.observed new.env) result
    -- no lock changes
    pub locks : SameLocks env.models_disk (env.observed old.env) (env.observed new.env)
    -- on a disk that is modelled the file keeps its name
    pub file : IsTrue env.models_disk → env.name_of new.file ≡ env.name_of old.file
    -- an Err is out of memory, the file's name is gone, or the device failed
    pub cause : HasCause (IsGone env.models_disk (env.name_of old.file) (env.observed old.env))
        (env.failures old.env) (env.failures new.env) result
    -- each is a byte
    pub are_bytes : AreBytes bytes

  -- the same where they are borrowed
  abbrev pub AppendsBorrowed : EnvFile E F → List ℕ → Result (Unit {0}) Status → EnvFile E F
      → Type 0
  AppendsBorrowed old bytes result new = ChangesBorrowedFile
      (λ before after. Appends before bytes result after) old new

  -- a flush is one sync
  pub record Syncs (old : Opened E F) (result : Result (Unit {0}) Status) (new : Opened E F)
      : Type 0 where
    -- all bytes of the file are kept
    pub does : ChangesFiles env.models_disk (synced (env.name_of old.file))
        (BeforeOrAfter (synced (env.name_of old.file))) (env.observed old.env)
        (env.observed new.env) result
    -- after an Err the files are as they were
    pub undone : OnErr result (IsTrue env.models_disk
        → (env.observed new.env).disk.files ≡ (env.observed old.env).disk.files)
    -- no lock changes
    pub locks : SameLocks env.models_disk (env.observed old.env) (env.observed new.env)
    -- on a disk that is modelled the file keeps its name
    pub file : IsTrue env.models_disk → env.name_of new.file ≡ env.name_of old.file
    -- an Err is out of memory, the file's name is gone, or the device failed
    pub cause : HasCause (IsGone env.models_disk (env.name_of old.file) (env.observed old.env))
        (env.failures old.env) (env.failures new.env) result

  -- the same where they are borrowed
  abbrev pub SyncsBorrowed : EnvFile E F → Result (Unit {0}) Status → EnvFile E F → Type 0
  SyncsBorrowed old result new = ChangesBorrowedFile
      (λ before after. Syncs before result after) old new

  -- these bytes were appended to the file
  pub record IsLonger (old : Opened E F) (bytes : List ℕ) (new : Opened E F) : Type 0 where
    -- the bytes were appended
    pub does : IsTrue env.models_disk
        → ChangesFiles env.models_disk (extended (env.name_of old.file) bytes)
        (PrefixAppended (env.name_of old.file) bytes) (env.observed old.env)
        (env.observed new.env) done
    -- no lock changes
    pub locks : SameLocks env.models_disk (env.observed old.env) (env.observed new.env)
    -- on a disk that is modelled the file keeps its name
    pub file : IsTrue env.models_disk → env.name_of new.file ≡ env.name_of old.file
    -- no failure was counted
    pub counted : env.failures new.env ≡ env.failures old.env
    -- each is a byte
    pub are_bytes : AreBytes bytes

  -- a put of these bytes was broken off with this error: any prefix of them may be appended
  pub record IsPartlyAppended (old : Opened E F) (bytes : List ℕ) (status : Status)
      (new : Opened E F) : Type 0 where
    -- any prefix of the bytes is appended, at each moment since
    pub passes : IsTrue env.models_disk
        → Run (PrefixAppended (env.name_of old.file) bytes (env.observed old.env).disk.files)
        (env.observed old.env) (env.observed new.env)
    -- no lock changes
    pub locks : SameLocks env.models_disk (env.observed old.env) (env.observed new.env)
    -- on a disk that is modelled the file keeps its name
    pub file : IsTrue env.models_disk → env.name_of new.file ≡ env.name_of old.file
    -- it is out of memory, the file's name is gone, or the device failed
    pub cause : HasCause (IsGone env.models_disk (env.name_of old.file) (env.observed old.env))
        (env.failures old.env) (env.failures new.env) (failed status)

  -- a read is one read of the file
  pub record Reads (old : Opened E F) (room : ℕ) (result : Result (List ℕ) Status)
      (new : Opened E F) : Type 0 where
    -- no file changes
    pub does : ChangesFiles env.models_disk same FilesUnchanged (env.observed old.env)
        (env.observed new.env) result
    -- no lock changes
    pub locks : SameLocks env.models_disk (env.observed old.env) (env.observed new.env)
    -- the piece is what comes next in the file
    pub bytes : IfOk result
        (λ piece. IsTrue env.models_disk
        → IsNextPieceOf (opened_file old) (env.offset_of old.file) room piece)
    -- and the file's offset is after it
    pub offset : IfOk result
        (λ piece. IsTrue env.models_disk
        → env.offset_of new.file ≡ env.offset_of old.file + length piece)
    -- on a disk that is modelled the file keeps its name
    pub file : IsTrue env.models_disk → env.name_of new.file ≡ env.name_of old.file
    -- an Err is out of memory, the file is missing, or the device failed
    pub cause : HasCause (IsMissing env.models_disk (env.name_of old.file) (env.observed old.env))
        (env.failures old.env) (env.failures new.env) result

  -- the same where they are borrowed
  abbrev pub ReadsBorrowed : EnvFile E F → ℕ → Result (List ℕ) Status → EnvFile E F → Type 0
  ReadsBorrowed old room result new = ChangesBorrowedFile
      (λ before after. Reads before room result after) old new

  -- The same file, these bytes further on: they came next, the disk stayed as it was, and nothing
  -- was counted.
  pub record IsFurther (old : Opened E F) (bytes : List ℕ) (new : Opened E F) : Type 0 where
    -- the files are, and were meanwhile, as they were
    pub still : IsTrue env.models_disk
        → Run (FilesUnchanged (env.observed old.env).disk.files) (env.observed old.env)
        (env.observed new.env)
    -- no lock changes
    pub locks : SameLocks env.models_disk (env.observed old.env) (env.observed new.env)
    -- the bytes came next in the file
    pub next : IsTrue env.models_disk
        → IfSome (opened_file old)
        (λ file. drop (env.offset_of old.file) (bytes_of file) ≡ bytes ++ drop
        (env.offset_of old.file + length bytes) (bytes_of file))
    -- the file's offset is after them
    pub offset : IsTrue env.models_disk
        → env.offset_of new.file ≡ env.offset_of old.file + length bytes
    -- on a disk that is modelled the file keeps its name
    pub file : IsTrue env.models_disk → env.name_of new.file ≡ env.name_of old.file
    -- no failure was counted
    pub counted : env.failures new.env ≡ env.failures old.env

  -- the same, and the bytes are all that the file had from its offset on
  pub record IsReadOut (old : Opened E F) (bytes : List ℕ) (new : Opened E F) : Type 0 where
    -- the bytes came next
    pub further : IsFurther old bytes new
    -- and no more follow
    pub all : IsTrue env.models_disk
        → IfSome (opened_file old) (λ file. bytes ≡ drop (env.offset_of old.file) (bytes_of file))

  -- A reading of the file was given up with this error: the disk stayed as it was, and the cause is
  -- that of a read, or out of memory.
  pub record IsGivenUp (old : Opened E F) (status : Status) (new : Opened E F) : Type 0 where
    -- the files are, and were meanwhile, as they were
    pub still : IsTrue env.models_disk
        → Run (FilesUnchanged (env.observed old.env).disk.files) (env.observed old.env)
        (env.observed new.env)
    -- no lock changes
    pub locks : SameLocks env.models_disk (env.observed old.env) (env.observed new.env)
    -- on a disk that is modelled the file keeps its name
    pub file : IsTrue env.models_disk → env.name_of new.file ≡ env.name_of old.file
    -- it is out of memory, the file is missing, or the device failed
    pub cause : HasCause (IsMissing env.models_disk (env.name_of old.file) (env.observed old.env))
        (env.failures old.env) (env.failures new.env) (failed status)
