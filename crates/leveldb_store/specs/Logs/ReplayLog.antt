-- What each step of a replay of a log makes of memory and of the store's files, and why it fails.
use Rattle.std.specs.Prelude.{◌≡◌, ◌≤◌, ◌<◌, ◌+◌, ◌^◌, ◌⊎◌, ◌≢◌, ℕ, List, [], ◌∷◌, ◌++◌, Contains, false, OnOk, IfOk, IsTrue, Result, length, map, max}
use Rattle.std.specs.declared.cmp.Ordering.{Ordering}
use Rattle.std.specs.declared.cmp.Ordering.TheVariants.{Less}
use Rattle.leveldb_base.specs.Entries.{internal_pair}
use Rattle.leveldb_base.specs.Error.{IsOutOfMemory}
use Rattle.leveldb_base.specs.History.{AreUpTo, Entry, greatest}
use Rattle.leveldb_base.specs.KeyTypes.{greatest_sequence, user_part}
use Rattle.leveldb_base.specs.declared.cmp.Cmp.{Ghosts as CmpGhosts}
use Rattle.leveldb_base.specs.declared.error.Status.{Status}
use Rattle.leveldb_base.specs.declared.error.StatusCode.TheVariants.{Corruption}
use Rattle.leveldb_env.specs.Env.{Files, HasCause, Run, SameLocks}
use Rattle.leveldb_env.specs.WholeFiles.{IsLost}
use Rattle.leveldb_env.specs.declared.env.Env.{Ghosts}
use Rattle.leveldb_env.specs.declared.filter.FilterPolicy.{Ghosts as FilterGhosts}
use Rattle.leveldb_mem.specs.Log.{bad}
use Rattle.leveldb_mem.specs.MemTable.{GrowsByAll, IsUnion, memory_of_entries}
use Rattle.leveldb_mem.specs.WriteBatch.{Batch}
use Rattle.leveldb_files.specs.Stores.Batches.{AreInOrder, all_entries, batch_entries}
use Rattle.leveldb_files.specs.Levels.Levels.{LiveTable, table_entries}
use Rattle.leveldb_files.specs.Stores.Paths.{log_path}
use Rattle.leveldb_files.specs.Stores.Store.{HasLog, ReplayedLog as StoreLog, SameEntries}
use Rattle.leveldb_files.specs.Edits.Edit.{NewFile}
use Rattle.leveldb_version_set.specs.Compactions.Inputs.{AreOrdered}
use Rattle.leveldb_version.specs.Edits.VersionEdit.{new_file_of}
use Rattle.leveldb_version_set.specs.Sets.VersionSetValue.{AreFileNumbersUsedUp, VersionSetValue, with_number_given}
use Rattle.leveldb_store.specs.Tables.BuildTable.{IsNotBuilt, TableChoices}
use Rattle.leveldb_files.specs.Stores.Format.{Agrees, Format, Meaning}
use Rattle.leveldb_store.specs.Logs.FoundLogs.{AreLastEntries, FailsToTable, LogBeginsWith}
use Rattle.leveldb_store.specs.Keeping.OpenStore.{AreNumbersGiven}
use Rattle.leveldb_store.specs.Openings.Opening.{AreMadeTables, GivesNumbers, IsMadeTable, KeepsRecovered, LogInMemory, ReplaysLog, SameButTables}
use Rattle.leveldb_store.specs.Writing.Room.{AreFull}
use Rattle.leveldb_store.specs.Keeping.SoundCall.{BytesAreAppended}
use Rattle.leveldb_store.specs.declared.opening.replay_log.ReplayedLog.{ReplayedLog}

-- ---- memory

-- the files of the tables that were made, of level 0
abbrev pub table_files : {C : Type 0} → ReplayedLog C → List NewFile
table_files log = map (λ file. new_file_of (0, file)) log.tables.items

-- what is in memory of a log
abbrev pub log_in_memory : {C : Type 0} → ReplayedLog C → LogInMemory
log_in_memory log = record {
  tables = table_files log;
  rest = log.rest.kept.entries;
  is_clean = log.is_clean;
  size = log.size;
}

-- No record of a log of this size was replayed: no table was made of it, and nothing of it is in
-- memory. The last number is that before it.
pub record HasReplayedNone {C : Type 0} (cmp : C) (last size : ℕ) (log : ReplayedLog C)
    : Type 0 where
  pub tables : log.tables.items ≡ []
  pub rest : log.rest.kept.entries ≡ []
  pub places : log.rest.kept.places ≡ 0
  pub cmp_is : log.rest.cmp ≡ cmp
  pub last_is : log.last ≡ last
  pub size_is : log.size ≡ size
  pub bad : log.is_clean ≡ false

-- no entry is in the memtable, or it has less memory than this
abbrev pub IsNotFull : {C : Type 0} → ℕ → ReplayedLog C → Type 0
IsNotFull limit log = (log.rest.kept.entries ≡ [])
    ⊎ (memory_of_entries log.rest.kept.entries < limit)

-- a batch begins above the last number, and all its numbers fit
pub record Follows (last : ℕ) (batch : Batch) : Type 0 where
  pub above : last < batch.first
  pub first_fits : batch.first ≤ greatest_sequence
  pub all_fit : greatest (batch_entries batch) ≤ greatest_sequence

-- a batch's entries are among those that are in no table, and the last number is the greatest
pub record TakesBatch {C : Type 0} (old : ReplayedLog C) (batch : Batch) (new : ReplayedLog C)
    : Type 0 where
  pub gains : IsUnion old.rest.kept.entries (batch_entries batch) new.rest.kept.entries
  pub grows : GrowsByAll old.rest.kept.entries (batch_entries batch) new.rest.kept.entries
  -- no room is left over for more
  pub places : old.rest.kept.places ≡ 0 → new.rest.kept.places ≡ 0
  pub last : new.last ≡ max old.last (greatest (batch_entries batch))
  pub rest : new ≡ record old { rest = new.rest; last = new.last }
  pub cmp : new.rest.cmp ≡ old.rest.cmp

-- ---- files

-- why a call failed, beside out of memory and a failure of the device: this, and nothing was
-- counted
abbrev pub HasCauseOr : {T : Type 0} → (Status → Type 0) → ℕ → ℕ → Result T Status → Type 0
HasCauseOr Why before now =
    HasCause (λ status. IsOutOfMemory status ⊎ (Why status × (now ≡ before))) before now

module _ {E F : Type 0} (env : Ghosts E F) where
  -- What a call leaves of the store that may make tables: numbers were given, and no file changed
  -- but tables of these. A store that was recovered is so still, and each history is kept.
  pub record MakesTablesOnly (old : VersionSetValue) (from : E) (new : VersionSetValue) (to : E)
      : Type 0 where
    pub numbers : GivesNumbers old new
    -- a number that a file can have comes next still
    pub fits : old.next_file < 2 ^ 64 → new.next_file < 2 ^ 64
    pub run : IsTrue env.models_disk
        → Run (SameButTables old new (env.observed from).disk.files) (env.observed from)
        (env.observed to)
    pub locks : SameLocks env.models_disk (env.observed from) (env.observed to)
    pub keeps : IsTrue env.models_disk → (cmp : List ℕ → List ℕ → Ordering) (meaning : Meaning)
        → KeepsRecovered cmp meaning old (env.observed from) new (env.observed to)
    -- what was appended to files are bytes still
    pub bytes : BytesAreAppended env from to

  -- ---- what was replayed

  module _ (format : Format) where
    -- These batches were replayed of a log, in order above `last`, and their entries are in tables
    -- that were made since the set was `old`, and in memory.
    pub record HasReplayed {C : Type 0} (old : VersionSetValue) (last : ℕ) (batches : List Batch)
        (log : ReplayedLog C) (now : VersionSetValue) (at : E) : Type 0 where
      pub in_order : AreInOrder last batches
      pub last_is : log.last ≡ max last (greatest (all_entries batches))
      pub numbers : GivesNumbers old now
      pub tables : List LiveTable
      pub files_are : map (λ (table : LiveTable). table.file) tables ≡ table_files log
      pub made_tables : IsTrue env.models_disk → (meaning : Meaning) → Agrees format meaning
          → AreMadeTables format.order meaning old now (env.observed at).disk.files tables
      pub entries : SameEntries (table_entries tables ++ log.rest.kept.entries)
          (all_entries batches)
      pub newer : (a b : Entry) → Contains (table_entries tables) a
          → Contains log.rest.kept.entries b → a.sequence < b.sequence
      -- each table's number was given, and none is turned round
      pub given : AreNumbersGiven now (table_files log)
      pub ordered : AreOrdered format.order (table_files log)
      -- in memory are those of the last batches, and no room for more; and there is at most a table
      -- for each batch before
      pub in_memory : AreLastEntries batches log.rest.kept.entries
      pub places : log.rest.kept.places ≡ 0
      pub few : now.next_file ≤ old.next_file + length in_memory.front

    -- the entries that were in no table are in one under the next number, and none is left
    pub record TablesRest {C : Type 0} (old : ReplayedLog C) (set : VersionSetValue)
        (new : ReplayedLog C) (now : VersionSetValue) (at : E) : Type 0 where
      pub table : LiveTable
      pub number : table.file.number ≡ set.next_file
      pub given : now ≡ with_number_given set
      -- it isn't turned round
      pub ordered : format.order (user_part table.file.largest) (user_part table.file.smallest)
          ≢ Less
      pub made : IsTrue env.models_disk → (meaning : Meaning) → Agrees format meaning
          → IsMadeTable format.order meaning set.store (env.observed at).disk.files table
      pub entries : table.entries ≡ old.rest.kept.entries
      pub files : table_files new ≡ table_files old ++ table.file ∷ []
      pub none_left : new.rest.kept.entries ≡ []
      pub places : new.rest.kept.places ≡ 0
      pub rest : new ≡ record old { tables = new.tables; rest = new.rest }
      pub cmp : new.rest.cmp ≡ old.rest.cmp

-- ---- why a log isn't replayed

-- the file of a log isn't one of batches in order above a number, up to its first bad end
abbrev pub IsDamagedLog : List ℕ → Files → ℕ → ℕ → Type 0
IsDamagedLog store files number last = (log : StoreLog) → log.number ≡ number
    → HasLog store files log → AreInOrder last log.batches → ⊥

-- A log that isn't used on: it ends badly, or a memtable of this limit is full of its entries.
pub record IsUnusable (limit : ℕ) (store : List ℕ) (files : Files) (number : ℕ) : Type 0 where
  pub log : StoreLog
  pub number_is : log.number ≡ number
  pub has_log : HasLog store files log
  pub why : (log.end ≡ bad) ⊎ AreFull limit (all_entries log.batches)

-- ---- calls

module _ {E F : Type 0} (env : Ghosts E F) where
  -- The log of this number begins with these batches. Entries of the last ones are in memory, and
  -- there is at most a table for each batch before.
  pub record KeepsBatches {C : Type 0} (set : VersionSetValue) (number : ℕ) (from : E)
      (log : ReplayedLog C) (now : VersionSetValue) : Type 0 where
    pub batches : List Batch
    pub begins : IsTrue env.models_disk
        → LogBeginsWith set.store (env.observed from).disk.files number batches
    pub in_memory : AreLastEntries batches log.rest.kept.entries
    pub few : now.next_file ≤ set.next_file + length in_memory.front

module _ {E F D FP : Type 0} (env : Ghosts E F) {order : CmpGhosts D} {filters : FilterGhosts FP}
    (choices : TableChoices order filters) where
  -- why no table is made of the entries in memory: the numbers of files are used up, or none is
  -- built of them
  abbrev pub FailsToBuildRest : {C : Type 0} → ReplayedLog C → VersionSetValue → Status → Type 0
  FailsToBuildRest log set status = AreFileNumbersUsedUp set.next_file status
      ⊎ IsNotBuilt choices (map internal_pair log.rest.kept.entries) status

  -- what making a table of the entries in memory returns and leaves
  pub record MakesRestTable {C : Type 0} (old : ReplayedLog C) (set : VersionSetValue) (from : E)
      (result : Result (Unit {0}) Status) (new : ReplayedLog C) (now : VersionSetValue) (to : E)
      : Type 0 where
    pub spares : MakesTablesOnly env set from now to
    pub ok : OnOk result (TablesRest env choices.format old set new now to)
    pub cause : HasCauseOr (FailsToBuildRest old set) (env.failures from) (env.failures to) result

  -- the log of this number begins with batches that don't come to memory and to tables
  abbrev pub FailsAtLog : VersionSetValue → ℕ → E → Status → Type 0
  FailsAtLog set number from status = (batches : List Batch)
      × (IsTrue env.models_disk
      → LogBeginsWith set.store (env.observed from).disk.files number batches)
      × FailsToTable choices set.next_file batches status

  -- Why a log isn't replayed, where the device didn't fail: out of memory, the log is missing or
  -- damaged, or its batches don't come to memory and to tables.
  abbrev pub FailsToReplay : VersionSetValue → ℕ → ℕ → E → E → Status → Type 0
  FailsToReplay set last number from to status =
      IsLost env.models_disk (log_path set.store number) (env.observed from) (env.failures from)
      (env.failures to) status
      ⊎ ((FailsAtLog set number from status ⊎ ((status.code ≡ Corruption)
      × (IsTrue env.models_disk
      → IsDamagedLog set.store (env.observed from).disk.files number last)))
      × (env.failures to ≡ env.failures from))

  -- After what was replayed before, this batch is replayed too. A table comes of it only if the
  -- entries fill a memtable of this limit.
  abbrev pub ReplaysBatch : {C : Type 0} → ℕ → Batch → ReplayedLog C → VersionSetValue → E
      → ReplayedLog C → VersionSetValue → E → Type 0
  ReplaysBatch limit batch old set from new now to =
      (first : VersionSetValue) (last : ℕ) (batches : List Batch)
      → HasReplayed env choices.format first last batches old set from
      → HasReplayed env choices.format first last (batches ++ batch ∷ []) new now to
      × ((new.tables.items ≡ old.tables.items)
      ⊎ AreFull limit (all_entries (batches ++ batch ∷ [])))

  -- after what was replayed before, this batch doesn't come to memory and to tables
  abbrev pub FailsAtBatch : {C : Type 0} → Batch → ReplayedLog C → VersionSetValue → E → Status
      → Type 0
  FailsAtBatch batch old set from status =
      (first : VersionSetValue) (last : ℕ) (batches : List Batch)
      → HasReplayed env choices.format first last batches old set from
      → FailsToTable choices first.next_file (batches ++ batch ∷ []) status

  module _ (limit : ℕ) where
    -- what taking the next batch returns and leaves
    pub record TakesNextBatch {C : Type 0} (batch : Batch) (old : ReplayedLog C)
        (set : VersionSetValue) (from : E) (result : Result (Unit {0}) Status)
        (new : ReplayedLog C) (now : VersionSetValue) (to : E) : Type 0 where
      pub spares : MakesTablesOnly env set from now to
      pub ok : OnOk result (ReplaysBatch limit batch old set from new now to)
      pub room : OnOk result (IsNotFull limit new)
      pub cmp : OnOk result (new.rest.cmp ≡ old.rest.cmp)
      pub size : OnOk result (new.size ≡ old.size)
      pub bad : OnOk result (new.is_clean ≡ old.is_clean)
      pub cause : HasCauseOr (λ status. FailsAtBatch batch old set from status
          ⊎ ((status.code ≡ Corruption) × (Follows old.last batch → ⊥)))
          (env.failures from) (env.failures to) result

    -- what replaying the log of a number returns and leaves
    pub record ReplaysFile {C : Type 0} (set : VersionSetValue) (last number : ℕ) (from : E)
        (result : Result (ReplayedLog C) Status) (now : VersionSetValue) (to : E) : Type 0 where
      pub spares : MakesTablesOnly env set from now to
      pub replays : IsTrue env.models_disk → (meaning : Meaning) → Agrees choices.format meaning
          → IfOk result (λ log. ReplaysLog choices.format.order meaning set last number
          (env.observed from).disk.files (log_in_memory log) now log.last
          (env.observed to).disk.files)
      -- no entry in memory has a number past the last one
      pub up_to : IfOk result (λ log. AreUpTo log.last log.rest.kept.entries)
      pub room : IfOk result (IsNotFull limit)
      -- one that ends badly, or of which a table was made, isn't used on
      pub unusable : IfOk result (λ log. IsTrue env.models_disk
          → (log.is_clean ≡ false) ⊎ (log.tables.items ≢ [])
          → IsUnusable limit set.store (env.observed from).disk.files number)
      -- each table's number was given, and none is turned round
      pub given : IfOk result (λ log. AreNumbersGiven now (table_files log))
      pub ordered : IfOk result (λ log. AreOrdered choices.format.order (table_files log))
      pub batches : IfOk result (λ log. KeepsBatches env set number from log now)
      pub cause : HasCause (FailsToReplay set last number from to) (env.failures from)
          (env.failures to) result
