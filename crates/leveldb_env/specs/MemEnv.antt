-- The disk that an environment in memory holds, and what its calls do.
use Rattle.std.specs.Prelude.{◌≡◌, ◌⊎◌, min, Bool, true, false, ℕ, List, ◌++◌, length, take, drop, Option, None, Some, IfSome, String, string_bytes, codes, Result, OnOk, OnErr, ◌+◌, if◌then◌else◌, nat_eq}
use Rattle.std.specs.BTreeMap.{BTreeMap, get_by_text}
use Rattle.std.specs.BTreeSet.{contains_text}
use Rattle.std.specs.declared.alloc.Global.{Global}
use Rattle.leveldb_base.specs.Error.{status_text, annotated, IsOutOfMemory}
use Rattle.leveldb_base.specs.declared.error.Status.{Status}
use Rattle.leveldb_base.specs.declared.error.StatusCode.TheVariants.{NotFound, LockError}
use Rattle.leveldb_env.specs.declared.mem_env.MemEnv.{MemEnv}
use Rattle.leveldb_env.specs.declared.mem_env.MemHandle.{MemHandle}
use Rattle.leveldb_env.specs.Env.{File, Files, Disk, bytes_of, created, lock_set, Observed, is_under}
use Rattle.std.specs.Set.{is_member}
use Rattle.std.specs.Option.{option_and_then}

-- which file each name has
abbrev pub files_of : BTreeMap (String Global) File → Files
files_of map = λ name. get_by_text map name

-- what an environment in memory holds
abbrev pub disk_of : MemEnv → Disk
disk_of env = record { files = files_of env.files; locked = contains_text env.locks }

-- the time that it returns
abbrev pub time_of : MemEnv → ℕ
time_of env = env.micros

-- no past is reported
abbrev pub mem_observed : MemEnv → Observed
mem_observed env = record { disk = disk_of env; moment = 0; at_moment = λ _ _. ⊥ }

-- the name under which a file was opened
abbrev pub handle_name : MemHandle → List ℕ
handle_name file = string_bytes file.name

-- the offset at which its next read begins
abbrev pub handle_offset : MemHandle → ℕ
handle_offset file = file.offset

-- the same file, `n` bytes further on
pub record IsMovedBy (n : ℕ) (old new : MemHandle) : Type 0 where
  -- the name is the same
  pub name : handle_name new ≡ handle_name old
  -- and the offset has moved
  pub offset : handle_offset new ≡ handle_offset old + n

-- ---- what the calls do

-- A call makes this change of the files, or fails and makes none. Locks and time stay.
pub record ChangesOrFails {T : Type 0} (change : Files → Files) (old new : MemEnv)
    (result : Result T Status) : Type 0 where
  -- an Ok makes the change
  pub ok : OnOk result ((disk_of new).files ≡ change (disk_of old).files)
  -- an Err changes no file
  pub err : OnErr result ((disk_of new).files ≡ (disk_of old).files)
  -- no lock changes
  pub locks : (disk_of new).locked ≡ (disk_of old).locked
  -- nor does the time
  pub time : time_of new ≡ time_of old

-- bytes over the front of a target, as far as both go
abbrev pub copied_over : List ℕ → List ℕ → List ℕ
copied_over bytes target = take (length target) bytes ++ drop (length bytes) target

-- a file's bytes from an offset on are copied over the front of the target; n of them went
abbrev pub CopiesFrom : Option File → ℕ → ℕ → List ℕ → List ℕ → Type 0
CopiesFrom None offset n was now = ⊥
CopiesFrom (Some file) offset n was now = let bytes = drop offset (bytes_of file) in
    (n ≡ min (length was) (length bytes)) × (now ≡ copied_over bytes was)

-- a name that is locked; a missing one is an empty file first
abbrev pub lock_taken : List ℕ → Disk → Disk
lock_taken name disk = record {
  files = created name disk.files;
  locked = lock_set name true disk.locked;
}

-- a name that is free
abbrev pub lock_freed : List ℕ → Disk → Disk
lock_freed name disk = record disk { locked = lock_set name false disk.locked }

-- ---- why a call fails

-- the error for a name that is missing
pub record IsNoSuchFile (files : Files) (name : List ℕ) (e : Status) : Type 0 where
  -- `NotFound`
  pub code : e.code ≡ NotFound
  -- with this text, where there was memory for one
  pub text : IfSome e.err
      (λ text. string_bytes text ≡ status_text NotFound (annotated (codes "no such file") name))
  -- the name has no file
  pub gone : files name ≡ None

-- that, or out of memory
abbrev pub IsNoFileOrMemory : Files → List ℕ → Status → Type 0
IsNoFileOrMemory files name e = IsOutOfMemory e ⊎ IsNoSuchFile files name e

-- the error for a name that is locked
pub record IsAlreadyLocked (locked : List ℕ → Bool) (name : List ℕ) (e : Status) : Type 0 where
  -- `LockError`
  pub code : e.code ≡ LockError
  -- with this text, where there was memory for one
  pub text : IfSome e.err
      (λ text. string_bytes text ≡ status_text LockError (annotated (codes "already locked") name))
  -- the name is locked
  pub held : locked name ≡ true

-- the error for a name that is free; it has no text, since a call that frees takes no memory
pub record IsNotLocked (locked : List ℕ → Bool) (name : List ℕ) (e : Status) : Type 0 where
  -- `LockError`
  pub code : e.code ≡ LockError
  -- with no text
  pub text : e.err ≡ None
  -- the name isn't locked
  pub free : locked name ≡ false

-- the part after a folder and its `/`, of a name that is under it
abbrev pub child_under : List ℕ → List ℕ → Option (List ℕ)
child_under folder name = if is_under folder name then Some
    (drop (length folder + 1) name) else None

-- the text, if it has no `/`
abbrev pub without_slash : List ℕ → Option (List ℕ)
without_slash text = if is_member nat_eq text 47 then None else Some text

-- the same of a name in the folder itself
abbrev pub child_in : List ℕ → List ℕ → Option (List ℕ)
child_in folder name = option_and_then without_slash (child_under folder name)
