-- The entries of a folder's logs, in memory as far as they are found.
use Rattle.std.specs.Prelude.{◌≡◌, ◌≢◌, ◌⊎◌, ◌↔◌, ◌≤◌, ◌+◌, ◌*◌, ◌^◌, ℕ, Bool, List, [], ◌∷◌, ◌++◌, All, Any, Contains, IfOk, IsTrue, OnOk, Result, Some, None, Vec, flat_map, length, max, string_bytes}
use Rattle.std.specs.Global.{Global}
use Rattle.leveldb_base.specs.History.{AreUpTo, Entry, RiseAbove, entries_of, greatest}
use Rattle.leveldb_base.specs.declared.error.Status.{Status}
use Rattle.leveldb_base.specs.declared.error.StatusCode.TheVariants.{Corruption, NotSupported}
use Rattle.leveldb_base.specs.declared.types.FileType.TheVariants.{Log}
use Rattle.leveldb_env.specs.Env.{File, Files, FilesUnchanged, Run, SameLocks, bytes_of, in_folder}
use Rattle.leveldb_env.specs.declared.env.Env.{Ghosts}
use Rattle.leveldb_mem.specs.MemTable.{GrowsByAll, IsUnion, MemTableState, bytes_in, memory_of_entries}
use Rattle.leveldb_mem.specs.WriteBatch.{Batch}
use Rattle.leveldb_files.specs.Stores.Batches.{Each, all_entries, batch_entries}
use Rattle.leveldb_version_set.specs.Repairs.Found.{LogHas}
use Rattle.leveldb_store.specs.Openings.Listing.{AreFilesIn}
use Rattle.leveldb_store.specs.Logs.NextFound.{BeginsAt, HasEntryNumbers, IsFoundAt}
use Rattle.leveldb_store.specs.Logs.ReplayLog.{HasCauseOr}
use Rattle.leveldb_store.specs.declared.opening.listing.ListedFile.{ListedFile}
use Rattle.leveldb_repair.specs.declared.found_logs.memtables.Memtables.{Memtables}

-- ---- entries in memtables

module _ {C : Type 0} where
  -- a memtable has these entries, each once: their numbers rise from 1 on
  pub record HasRun (entries : List Entry) (table : MemTableState C) : Type 0 where
    pub rising : RiseAbove 0 entries
    pub are : IsUnion [] entries table.kept.entries
    pub grows : GrowsByAll [] entries table.kept.entries

  -- memtables have these entries, the first of them the first ones and so on
  pub record HaveRuns (entries : List Entry) (tables : List (MemTableState C)) : Type 0 where
    pub runs : List (List Entry)
    pub parts : entries_of runs ≡ entries
    pub each : Each HasRun runs tables

  -- one of the memtables has the entry
  abbrev pub HaveEntry : List (MemTableState C) → Entry → Type 0
  HaveEntry tables entry = (table : MemTableState C) × Contains tables table
      × Contains table.kept.entries entry

  -- ---- memtables that are filled

  -- they have these entries, and the greatest number of the last one's is known
  pub record HaveEntries (entries : List Entry) (memory : Memtables C) : Type 0 where
    pub before : List Entry
    pub run : List Entry
    pub parts : entries ≡ before ++ run
    pub full : HaveRuns before memory.full.items
    pub latest : HasRun run memory.latest
    pub last : memory.last ≡ greatest run
    pub cmp_full : All (λ (table : MemTableState C). table.cmp ≡ memory.cmp) memory.full.items
    pub cmp_latest : memory.latest.cmp ≡ memory.cmp

  -- the entries stay where they are
  pub record KeepsEntries (old new : Memtables C) : Type 0 where
    pub entries : new.latest.kept.entries ≡ old.latest.kept.entries
    pub order : new.latest.cmp ≡ old.latest.cmp
    pub others : new ≡ record old { latest = new.latest }

  -- a batch's entries are in the last memtable
  pub record InsertsBatch (old : Memtables C) (batch : Batch) (new : Memtables C) : Type 0 where
    pub gains : IsUnion old.latest.kept.entries (batch_entries batch) new.latest.kept.entries
    pub grows : GrowsByAll old.latest.kept.entries (batch_entries batch) new.latest.kept.entries
    pub last : new.last ≡ max old.last (greatest (batch_entries batch))
    pub order : new.latest.cmp ≡ old.latest.cmp
    pub others : new ≡ record old { latest = new.latest; last = new.last }

  -- the last memtable is one that has no entry, after all that there were
  pub record BeginsNext (old new : Memtables C) : Type 0 where
    pub full : new.full.items ≡ old.full.items ++ old.latest ∷ []
    pub none : new.latest.kept.entries ≡ []
    pub places : new.latest.kept.places ≡ 0
    pub order : new.latest.cmp ≡ old.cmp
    pub last : new.last ≡ 0
    pub cmp : new.cmp ≡ old.cmp

  -- a batch's entries came after all others
  pub record AddsBatch (old : Memtables C) (batch : Batch) (new : Memtables C) : Type 0 where
    pub have : (entries : List Entry) → HaveEntries entries old
        → HaveEntries (entries ++ batch_entries batch) new
    pub up_to : AreUpTo new.last new.latest.kept.entries
    pub cmp : new.cmp ≡ old.cmp

  -- these are all memtables that have entries
  abbrev pub AreAllTables : Memtables C → List (MemTableState C) → Type 0
  AreAllTables memory tables = (entries : List Entry) → HaveEntries entries memory
      → HaveRuns entries tables
      × All (λ (table : MemTableState C). table.cmp ≡ memory.cmp) tables

-- a batch counts for 2^31 bytes of memory at least in a memtable of its own
abbrev pub IsLarge : Batch → Type 0
IsLarge batch = 2 ^ 31 ≤ memory_of_entries [] + (64 * length batch.items + bytes_in batch.items)

-- a batch is too large for a memtable of its own
abbrev pub IsTooLargeAlone : Batch → Status → Type 0
IsTooLargeAlone batch status = (status.code ≡ NotSupported) × IsLarge batch

-- ---- the logs of a folder

module _ (store : List ℕ) (files : Files) where
  -- these batches are all that is found of a file of the folder: no file but a log has one
  abbrev pub IsFoundIn : ListedFile → List Batch → Type 0
  IsFoundIn file batches =
      ((file.kind ≡ Log) × IsFoundAt (files (in_folder store (string_bytes file.name))) batches)
      ⊎ ((file.kind ≢ Log) × (batches ≡ []))

  -- a log of the folder has the entry, as far as it is found
  abbrev pub IsInLog : Entry → Type 0
  IsInLog entry = (name : List ℕ) × (file : File) × (files (in_folder store name) ≡ Some file)
      × LogHas name (bytes_of file) entry

  -- the file is a log that is missing
  abbrev pub IsMissingLog : ListedFile → Type 0
  IsMissingLog file = (file.kind ≡ Log)
      × (files (in_folder store (string_bytes file.name)) ≡ None)

  -- The file is a log that begins with batches whose numbers entries may have, and which are found
  -- so; the last of them is too large for a memtable of its own.
  abbrev pub HasLargeBatch : ListedFile → Type 0
  HasLargeBatch file = (file.kind ≡ Log) × (batches : List Batch) × (batch : Batch)
      × BeginsAt (files (in_folder store (string_bytes file.name))) (batches ++ batch ∷ [])
      × All HasEntryNumbers (batches ++ batch ∷ []) × IsLarge batch

-- the entries of batches that are found of files, those of one file after those of another
abbrev pub found_entries : List (List Batch) → List Entry
found_entries found = flat_map all_entries found

-- ---- calls

-- why what is found of these files doesn't come to memory, where the device didn't fail, beside out
-- of memory: a log is missing, or a batch is too large
abbrev pub WhyNotFound : Bool → List ℕ → Files → List ListedFile → Status → Type 0
WhyNotFound models_disk store files listed status =
    ((status.code ≡ Corruption)
    × (IsTrue models_disk → Any (IsMissingLog store files) listed))
    ⊎ ((status.code ≡ NotSupported)
    × (IsTrue models_disk → Any (HasLargeBatch store files) listed))

module _ {E F C : Type 0} (env : Ghosts E F) (store : List ℕ) where
  -- what is found of the file, if it is a log, comes to memory
  pub record FindsLog (file : ListedFile) (old : Memtables C) (from : E)
      (result : Result (Unit {0}) Status) (new : Memtables C) (to : E) : Type 0 where
    -- no file changes, at any moment, and no lock does
    pub still : IsTrue env.models_disk
        → Run (FilesUnchanged (env.observed from).disk.files) (env.observed from)
        (env.observed to)
    pub locks : SameLocks env.models_disk (env.observed from) (env.observed to)
    -- the entries of all its batches came, after those that there were
    pub finds : OnOk result ((batches : List Batch)
        × (IsTrue env.models_disk
        → IsFoundIn store (env.observed from).disk.files file batches)
        × ((entries : List Entry) → HaveEntries entries old
        → HaveEntries (entries ++ all_entries batches) new))
    pub up_to : OnOk result (AreUpTo new.last new.latest.kept.entries)
    pub cmp : OnOk result (new.cmp ≡ old.cmp)
    -- why it failed
    pub cause : HasCauseOr
        (WhyNotFound env.models_disk store (env.observed from).disk.files (file ∷ []))
        (env.failures from) (env.failures to) result

  -- what is found of the logs among these files of the folder
  pub record FindsLogs (cmp : C) (listed : List ListedFile) (from : E)
      (result : Result (Vec (MemTableState C) Global) Status) (to : E) : Type 0 where
    -- no file changes, at any moment, and no lock does
    pub still : IsTrue env.models_disk
        → Run (FilesUnchanged (env.observed from).disk.files) (env.observed from)
        (env.observed to)
    pub locks : SameLocks env.models_disk (env.observed from) (env.observed to)
    -- the memtables are in this order of users' keys
    pub order : IfOk result (λ tables.
        All (λ (table : MemTableState C). table.cmp ≡ cmp) tables.items)
    -- they have the entries of what is found of the logs, one log after another, each as often as
    -- it is there
    pub finds : IfOk result (λ tables. (found : List (List Batch))
        × HaveRuns (found_entries found) tables.items
        × (IsTrue env.models_disk
        → Each (IsFoundIn store (env.observed from).disk.files) listed found))
    -- so if these are the files of the folder, the memtables have exactly the entries of its logs
    pub exactly : IfOk result (λ tables. IsTrue env.models_disk
        → AreFilesIn env store from listed
        → (entry : Entry) → HaveEntry tables.items entry
        ↔ IsInLog store (env.observed from).disk.files entry)
    -- why it failed
    pub cause : HasCauseOr
        (WhyNotFound env.models_disk store (env.observed from).disk.files listed)
        (env.failures from) (env.failures to) result
