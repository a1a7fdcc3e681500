-- The batches with which the logs begin that an opening finds, and why they don't come to memory
-- and to tables.
use Rattle.std.specs.Prelude.{◌≡◌, ◌≤◌, ◌+◌, ◌*◌, ◌^◌, ◌⊎◌, ℕ, Bool, IsTrue, List, [], ◌∷◌, ◌++◌, Some, length, map}
use Rattle.leveldb_base.specs.Entries.{internal_pair}
use Rattle.leveldb_base.specs.History.{Entry}
use Rattle.leveldb_base.specs.declared.cmp.Cmp.{Ghosts as CmpGhosts}
use Rattle.leveldb_base.specs.declared.error.Status.{Status}
use Rattle.leveldb_base.specs.declared.error.StatusCode.TheVariants.{NotSupported}
use Rattle.leveldb_env.specs.Env.{File, Files, bytes_of}
use Rattle.leveldb_env.specs.declared.filter.FilterPolicy.{Ghosts as FilterGhosts}
use Rattle.leveldb_mem.specs.Log.{IsLogFile, clean}
use Rattle.leveldb_mem.specs.MemTable.{GrowsByAll, IsUnion, bytes_in, memory_of_entries}
use Rattle.leveldb_mem.specs.WriteBatch.{Batch}
use Rattle.leveldb_files.specs.Stores.Batches.{Each, IsRecordOf, all_entries}
use Rattle.leveldb_files.specs.Stores.Paths.{log_path}
use Rattle.leveldb_store.specs.Tables.BuildTable.{IsNotBuilt, TableChoices}
use Rattle.leveldb_store.specs.Writing.Switch.{AreFileNumbersTooFew}

-- ---- the batches of logs

-- a log of these bytes begins with these batches
pub record BeginsWithBatches (text : List ℕ) (batches : List Batch) : Type 0 where
  pub records : List (List ℕ)
  pub front : List ℕ
  pub rest : List ℕ
  pub parts : text ≡ front ++ rest
  pub read : IsLogFile front records clean
  pub each : Each IsRecordOf records batches

-- the log of this number is there, and begins with these batches
abbrev pub LogBeginsWith : List ℕ → Files → ℕ → List Batch → Type 0
LogBeginsWith store files number batches = (file : File)
    × (files (log_path store number) ≡ Some file) × BeginsWithBatches (bytes_of file) batches

-- these are batches with which logs of these numbers begin, of one log after another
abbrev pub LogsBeginWith : List ℕ → Files → List ℕ → List Batch → Type 0
LogsBeginWith store files [] batches = batches ≡ []
LogsBeginWith store files (number ∷ numbers) batches = LogsBeginWith store files numbers batches
    ⊎ ((first : List Batch) × (later : List Batch) × (batches ≡ first ++ later)
    × LogBeginsWith store files number first × LogsBeginWith store files numbers later)

-- from `next` on, the numbers of files are too few for `more` files and a table for each batch with
-- which these logs begin
pub record LacksNumbersFor (models_disk : Bool) (store : List ℕ) (files : Files)
    (numbers : List ℕ) (next more : ℕ) (status : Status) : Type 0 where
  pub batches : List Batch
  pub begin : IsTrue models_disk → LogsBeginWith store files numbers batches
  pub too_few : AreFileNumbersTooFew next (length batches + more) status

-- ---- why they aren't kept

-- these are the entries of the last of the batches, as many and as large
pub record AreLastEntries (batches : List Batch) (entries : List Entry) : Type 0 where
  pub front : List Batch
  pub last : List Batch
  pub parts : batches ≡ front ++ last
  pub are : IsUnion [] (all_entries last) entries
  pub grows : GrowsByAll [] (all_entries last) entries

-- The last batch is too large for a memtable that has the entries of some before it: together they
-- count for 2^31 bytes of memory at least.
pub record IsBatchTooLarge (batches : List Batch) (status : Status) : Type 0 where
  pub code : status.code ≡ NotSupported
  pub front : List Batch
  pub kept : List Batch
  pub batch : Batch
  pub parts : batches ≡ front ++ (kept ++ batch ∷ [])
  pub too_large : 2 ^ 31 ≤ memory_of_entries (all_entries kept)
      + (64 * length batch.items + bytes_in batch.items)

-- the logs of these numbers, in rising order, begin with batches that are too large for one
-- memtable
pub record AreLogsTooLarge (models_disk : Bool) (store : List ℕ) (files : Files) (numbers : List ℕ)
    (status : Status) : Type 0 where
  pub batches : List Batch
  pub begin : IsTrue models_disk → LogsBeginWith store files numbers batches
  pub too_large : IsBatchTooLarge batches status

module _ {C FP : Type 0} {order : CmpGhosts C} {filters : FilterGhosts FP}
    (choices : TableChoices order filters) where
  -- no table is built of the entries of the last of the batches
  abbrev pub AreLastNotBuilt : List Batch → Status → Type 0
  AreLastNotBuilt batches status = (entries : List Entry) × AreLastEntries batches entries
      × IsNotBuilt choices (map internal_pair entries) status

  -- why batches of a log aren't kept in memory and in tables: the last one is too large for a
  -- memtable, or no table is built of the last ones
  abbrev pub FailsToKeep : List Batch → Status → Type 0
  FailsToKeep batches status = IsBatchTooLarge batches status ⊎ AreLastNotBuilt batches status

  -- the same where tables take numbers from `next` on: these may be too few for one table a batch
  abbrev pub FailsToTable : ℕ → List Batch → Status → Type 0
  FailsToTable next batches status = AreFileNumbersTooFew next (length batches) status
      ⊎ FailsToKeep batches status

  -- a log begins with batches that aren't kept in memory and in tables
  pub record HasLogNotKept (models_disk : Bool) (store : List ℕ) (files : Files) (status : Status)
      : Type 0 where
    pub number : ℕ
    pub batches : List Batch
    pub begins : IsTrue models_disk → LogBeginsWith store files number batches
    pub fails : FailsToKeep batches status
