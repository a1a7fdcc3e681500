-- The steps on the way to room in the memtable.
use Rattle.std.specs.Prelude.{◌≡◌, ◌≢◌, ◌⊎◌, ◌≤◌, ◌+◌, ℕ, List, None, Result, OnErr, OnOk, IsTrue}
use Rattle.std.specs.declared.cmp.Ordering.{Ordering}
use Rattle.leveldb_base.specs.Error.{IsOutOfMemory}
use Rattle.leveldb_base.specs.declared.cmp.Cmp.{Ghosts as CmpGhosts}
use Rattle.leveldb_base.specs.declared.error.Status.{Status}
use Rattle.leveldb_env.specs.declared.env.Env.{Ghosts}
use Rattle.leveldb_env.specs.declared.filter.FilterPolicy.{Ghosts as FilterGhosts}
use Rattle.leveldb_version.specs.Tables.TableCache.{files_at}
use Rattle.leveldb_version_set.specs.Sets.VersionSetValue.{AreFileNumbersUsedUp}
use Rattle.leveldb_version.specs.declared.table_cache.TableCache.{TableCache}
use Rattle.leveldb_store.specs.Tables.BuildTable.{TableChoices}
use Rattle.leveldb_files.specs.Stores.Format.{Agrees, Format, Meaning}
use Rattle.leveldb_store.specs.Keeping.KeptEntries.{KeepsEntries}
use Rattle.leveldb_store.specs.Keeping.LoggedEdits.{LogsTableEdits}
use Rattle.leveldb_store.specs.Keeping.OpenStore.{IsUnbroken, OpenStoreValue}
use Rattle.leveldb_store.specs.Keeping.OpenTables.{ClosesObsolete}
use Rattle.leveldb_store.specs.Writing.Room.{AreEntriesNotBuilt, FailsFor, IsFileLost}
use Rattle.leveldb_store.specs.Keeping.SoundCall.{IsSoundCall}
use Rattle.leveldb_store.specs.Keeping.Written.{IsWritten, KeepsWritten, SparesRest}
use Rattle.leveldb_store.specs.Keeping.WrittenFrom.{AddsNoEntry}

module _ {E F C : Type 0} (env : Ghosts E F) (cmp : List ℕ → List ℕ → Ordering) where
  -- Why no table is made of the immutable memtable, where the device didn't fail: out of memory;
  -- the numbers of files are used up; none is built of it; or a file of the store is lost.
  abbrev pub FailsToCompactMemtable : {D FP : Type 0} {order : CmpGhosts D}
      {filters : FilterGhosts FP} → TableChoices order filters → OpenStoreValue C → E → Status
      → Type 0
  FailsToCompactMemtable choices old from status = IsOutOfMemory status
      ⊎ AreFileNumbersUsedUp old.set.next_file status
      ⊎ AreEntriesNotBuilt choices old.imm status
      ⊎ IsFileLost env cmp old from choices.format status

  -- What a step on the way to room, or several in a row, keep of a store that isn't broken. An Err
  -- has this excuse, or the device failed.
  pub record IsStepToRoom (format : Format) (Excused : Status → Type 0) (old : OpenStoreValue C)
      (from : E) (result : Result (Unit {0}) Status) (new : OpenStoreValue C) (to : E)
      : Type 0 where
    pub keeps : IsTrue env.models_disk → (meaning : Meaning) → Agrees format meaning
        → KeepsWritten cmp meaning old (env.observed from) new (env.observed to)
    pub usable : OnOk result (IsUnbroken new)
    pub rest : SparesRest env.models_disk old (env.observed from) new (env.observed to)
    pub cause : FailsFor Excused (env.failures from) (env.failures to) result
    pub sound : IsSoundCall env cmp (Agrees format) old from result new to

  -- of a store that is written no entry is new, as `AddsNoEntry` says
  abbrev pub AddsNone : Format → OpenStoreValue C → E → OpenStoreValue C → E → Type 0
  AddsNone format old from new to = IsTrue env.models_disk → (meaning : Meaning)
      → Agrees format meaning → IsWritten cmp meaning old (files_at env from)
      → AddsNoEntry cmp meaning old (files_at env from) new (files_at env to)

  -- What a call leaves of the entries in memory that makes tables of them, this many at most, and
  -- deletes obsolete files after each.
  pub record MakesTablesOfMemory {FP : Type 0} (format : Format) (count : ℕ)
      (old : OpenStoreValue C) (from : E) (tables : TableCache E C FP F)
      (result : Result (Unit {0}) Status) (new : OpenStoreValue C) (to : E)
      (now : TableCache E C FP F) : Type 0 where
    -- whatever the files are, Ok or Err, no entry is lost, nor is a live table
    pub entries : KeepsEntries env format old from new to
    -- Ok: of a store that is written no entry is new
    pub none_new : OnOk result (AddsNone format old from new to)
    -- Ok: the edits of these tables were logged, and nothing else
    pub logs : OnOk result (LogsTableEdits count old.set new.set)
    -- a table is closed before its file is deleted
    pub closes : ClosesObsolete env old.set from tables to now

  -- what making a table of the immutable memtable leaves, if there is one
  pub record CompactsMemtable {D FP : Type 0} {order : CmpGhosts D} {filters : FilterGhosts FP}
      (choices : TableChoices order filters) (old : OpenStoreValue C) (from : E)
      (result : Result (Unit {0}) Status) (new : OpenStoreValue C) (to : E) : Type 0 where
    pub step : IsStepToRoom choices.format (FailsToCompactMemtable choices old from) old from result
        new to
    -- Ok: there is none any more, and one number was given at most
    pub none_waits : OnOk result (new.imm ≡ None)
    pub numbers : OnOk result (new.set.next_file ≤ old.set.next_file + 1)
    -- Err: there is one still
    pub waits : OnErr result (new.imm ≢ None)
    pub mem : new.mem ≡ old.mem
