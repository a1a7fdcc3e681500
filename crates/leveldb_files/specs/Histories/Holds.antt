-- What a disk keeps of a history of batches, whatever a store's files are.
--
-- `store` is the store's path, `reads files contents` says that the files are a whole store with
-- these contents, and `allowed` says which store may be there.
use Rattle.std.specs.Prelude.{◌≡◌, ◌≤◌, ◌+◌, ◌⊎◌, ℕ, List, length, Option, Some, None, Contains}
use Rattle.leveldb_base.specs.History.{Entry, History, IsPrefixAtLeast, entries_of, greatest, with_batch, count_of, SameView}
use Rattle.leveldb_env.specs.Env.{File, Files, FilesCrashTo, bytes_of}
use Rattle.leveldb_mem.specs.Log.{log_block_size, HonestTail}
use Rattle.leveldb_files.specs.Stores.Contents.{Store, Contents}
use Rattle.leveldb_files.specs.Stores.Paths.{IsJournal}

-- a crash left no log and no manifest with a record that was never written
abbrev pub IsHonest : List ℕ → Files → Files → Type 0
IsHonest store files left = (path : List ℕ) (file crashed : File) → IsJournal store path
    → files path ≡ Some file → left path ≡ Some crashed
    → HonestTail log_block_size (bytes_of file) (bytes_of crashed)

-- Contents that match a history: they show what it shows, from its end on, and have no entry past
-- its end. The greatest number that they know of is at or above its end, and at most `bound`.
pub record MatchesHistory (allowed : Store → Type 0) (bound : ℕ) (contents : Contents)
    (history : History) : Type 0 where
  pub same : (t : ℕ) → greatest (entries_of history) ≤ t
      → SameView contents.entries (entries_of history) t
  pub up_to : (entry : Entry) → Contains contents.entries entry
      → entry.sequence ≤ greatest (entries_of history)
  pub reached : greatest (entries_of history) ≤ contents.last
  pub bounded : contents.last ≤ bound
  pub store : allowed contents.store

module _ (store : List ℕ) (reads : Files → Contents → Type 0) where
  -- the files are a whole store, and its contents match the history
  pub record Carries (allowed : Store → Type 0) (bound : ℕ) (history : History) (files : Files)
      : Type 0 where
    pub contents : Contents
    pub read : reads files contents
    pub matches : MatchesHistory allowed bound contents history

  -- they carry a prefix of the history that has at least `durable` batches
  pub record CarriesPrefix (allowed : Store → Type 0) (bound durable : ℕ) (history : History)
      (files : Files) : Type 0 where
    pub part : History
    pub prefix : IsPrefixAtLeast durable history part
    pub carries : Carries allowed bound part files

  -- whatever files an honest crash leaves now carry such a prefix
  abbrev pub IsSafe : (Store → Type 0) → ℕ → ℕ → History → Files → Type 0
  IsSafe allowed bound durable history files = (left : Files) → FilesCrashTo files left
      → IsHonest store files left → CarriesPrefix allowed bound durable history left

  -- The files hold the history, up to the number `last`, with `durable` batches durable and perhaps
  -- one batch pending.
  pub record Holds (allowed : Store → Type 0) (files : Files) (history : History)
      (last durable : ℕ) (pending : Option (List Entry)) : Type 0 where
    pub now : Carries allowed (last + count_of pending) history files
        ⊎ Carries allowed (last + count_of pending) (with_batch history pending) files
    pub crash : IsSafe allowed (last + count_of pending) durable (with_batch history pending) files

  -- the files hold a prefix of a history that has at least `durable` batches, all of them durable
  pub record HoldsPrefix (allowed : Store → Type 0) (files : Files) (history : History)
      (last durable : ℕ) : Type 0 where
    pub part : History
    pub prefix : IsPrefixAtLeast durable history part
    pub holds : Holds allowed files part last (length part) None

  -- whatever contents are read of the files, now or after an honest crash, this store is there
  pub record ReadsAre (allowed : Store → Type 0) (files : Files) : Type 0 where
    pub now : (contents : Contents) → reads files contents → allowed contents.store
    pub crash : (left : Files) (contents : Contents) → FilesCrashTo files left
        → IsHonest store files left → reads left contents → allowed contents.store
