-- What holds of every history that files hold, however the files are read.
--
-- `store` is a store's path, and `reads files contents` says that the files are a whole store with
-- these contents.
use Rattle.std.specs.Prelude.{◌+◌, ℕ, List, Option}
use Rattle.leveldb_base.specs.History.{Entry, History, count_of, with_batch}
use Rattle.leveldb_env.specs.Env.{Files, FilesCrashTo}
use Rattle.leveldb_files.specs.Stores.Contents.{Store, Contents}
use Rattle.leveldb_files.specs.Histories.Holds.{Holds, HoldsPrefix, IsHonest, ReadsAre}

module _ (store : List ℕ) (reads : Files → Contents → Type 0) (allowed : Store → Type 0) where
  -- An honest crash leaves files that hold a prefix of the history, with no batch pending. A
  -- pending batch may be a part of it, and the numbers of that batch may be taken.
  abbrev pub CrashesHold : Type 0
  CrashesHold = (files left : Files) (history : History) (last durable : ℕ)
      (pending : Option (List Entry)) → Holds store reads allowed files history last durable pending
      → FilesCrashTo files left → IsHonest store files left
      → HoldsPrefix store reads allowed left (with_batch history pending) (last + count_of pending)
      durable

  -- what the files hold where some stores are allowed they hold where more are
  abbrev pub WiderHolds : (Store → Type 0) → Type 0
  WiderHolds wider = ((found : Store) → allowed found → wider found) → (files : Files)
      (history : History) (last durable : ℕ) (pending : Option (List Entry))
      → Holds store reads allowed files history last durable pending
      → Holds store reads wider files history last durable pending

  -- what the files hold where some stores are allowed they hold where only those are that are read
  abbrev pub NarrowerHolds : (Store → Type 0) → Type 0
  NarrowerHolds narrower = (files : Files) → ReadsAre store reads narrower files
      → (history : History) (last durable : ℕ) (pending : Option (List Entry))
      → Holds store reads allowed files history last durable pending
      → Holds store reads narrower files history last durable pending
