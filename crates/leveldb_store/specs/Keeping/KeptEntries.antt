-- Where the entries that were in memory are after a call, and which live tables stay, whatever the
-- files are.
use Rattle.std.specs.Prelude.{◌≡◌, ◌≤◌, ◌<◌, ◌^◌, ◌⊎◌, ◌++◌, ◌∷◌, ℕ, Bool, List, [], map, Contains, Option, None, Some, IfSome, IsTrue}
use Rattle.std.specs.declared.cmp.Ordering.{Ordering}
use Rattle.leveldb_base.specs.History.{Entry}
use Rattle.leveldb_env.specs.Env.{Observed}
use Rattle.leveldb_env.specs.declared.env.Env.{Ghosts}
use Rattle.leveldb_version_set.specs.Compactions.Compaction.{files_of_tables}
use Rattle.leveldb_files.specs.Stores.Format.{Agrees, Format, IsTableOf, Meaning}
use Rattle.leveldb_files.specs.Levels.Levels.{LiveTable, table_entries}
use Rattle.leveldb_files.specs.Stores.Paths.{table_path}
use Rattle.leveldb_version_set.specs.Compactions.Picking.{CompactionValue}
use Rattle.leveldb_files.specs.Stores.Store.{HasTable, SameEntries}
use Rattle.leveldb_version.specs.Versions.Version.{new_files_of}
use Rattle.leveldb_files.specs.Edits.Edit.{NewFile}
use Rattle.leveldb_version_set.specs.Sets.VersionSetValue.{VersionSetValue}
use Rattle.leveldb_store.specs.Compactions.Compact.{GivesNumbersOrBreaks, LogsCompaction}
use Rattle.leveldb_store.specs.Keeping.OpenStore.{OpenStoreValue}
use Rattle.leveldb_store.specs.Reading.Read.{in_memory}

-- ---- live tables

-- the file of a table whose number was given is the same
abbrev pub IsTableSame : Bool → VersionSetValue → Observed → Observed → ℕ → Type 0
IsTableSame models_disk set from to number = IsTrue models_disk → number < 2 ^ 64
    → number < set.next_file
    → to.disk.files (table_path set.store number) ≡ from.disk.files (table_path set.store number)

-- No live table is lost: each live file stays live, and its table stays as it is.
pub record KeepsLiveTables (models_disk : Bool) (old : VersionSetValue) (from : Observed)
    (new : VersionSetValue) (to : Observed) : Type 0 where
  pub live : (file : NewFile) → Contains old.full.added file → Contains new.full.added file
  pub files : (file : NewFile) → Contains old.full.added file
      → IsTableSame models_disk old from to file.number

-- each live file was live before, or is one of these
abbrev pub AddsNoOther : VersionSetValue → VersionSetValue → List NewFile → Type 0
AddsNoOther old new files = (file : NewFile) → Contains new.full.added file
    → Contains old.full.added file ⊎ Contains files file

-- ---- entries

module _ {E F : Type 0} (env : Ghosts E F) (format : Format) where
  -- A table was added to a set: it is live, and its number wasn't given before. Where the disk is
  -- modelled its file has exactly these entries, by what names and ids mean.
  pub record IsAddedTable (old new : VersionSetValue) (to : E) (table : LiveTable) : Type 0 where
    pub live : Contains new.full.added table.file
    pub fresh : old.next_file ≤ table.file.number
    pub given : table.file.number < new.next_file
    pub fits : table.file.number < 2 ^ 64
    pub there : IsTrue env.models_disk → (meaning : Meaning) → Agrees format meaning
        → HasTable new.store format.order (IsTableOf format.order meaning)
        (env.observed to).disk.files table

  -- a table of these entries was added, and no other
  abbrev pub AddsTableOf : List Entry → VersionSetValue → VersionSetValue → E → Type 0
  AddsTableOf entries old new to = (file : NewFile)
      × IsAddedTable old new to (record { file = file; entries = entries })
      × AddsNoOther old new (file ∷ [])

  -- No entry is lost where tables are made of what is in memory: each is in memory still, or in
  -- tables that were added, and nothing else is. Nor is a live table, and no other is added.
  pub record KeepsEntries {C : Type 0} (old : OpenStoreValue C) (from : E) (new : OpenStoreValue C)
      (to : E) : Type 0 where
    pub added : List LiveTable
    pub each : (table : LiveTable) → Contains added table → IsAddedTable old.set new.set to table
    pub same : SameEntries (in_memory old) (in_memory new ++ table_entries added)
    pub live : KeepsLiveTables env.models_disk old.set (env.observed from) new.set
        (env.observed to)
    pub others : AddsNoOther old.set new.set (files_of_tables added)

-- ---- compactions

-- the numbers of files
abbrev pub file_numbers : List NewFile → List ℕ
file_numbers files = map (λ file. file.number) files

-- the files that a compaction takes, if there is one
abbrev pub files_taken : {C : Type 0} → Option (CompactionValue C) → List NewFile
files_taken None = []
files_taken (Some it) = new_files_of it.inputs

-- No compaction was logged: numbers may have been given, and the manifest may be broken. The live
-- files and the last number stay, and no table changes whose number was given.
pub record CompactsNone {C : Type 0} (models_disk : Bool) (old : OpenStoreValue C)
    (from : Observed) (new : OpenStoreValue C) (to : Observed) : Type 0 where
  pub set : GivesNumbersOrBreaks old.set new.set
  pub current : new.current ≡ old.current
  pub tables : (number : ℕ) → IsTableSame models_disk old.set from to number

-- One compaction was logged at most. Each live table is one that it took, or stays live as it is.
pub record CompactsOnceAtMost {C : Type 0} (cmp : List ℕ → List ℕ → Ordering)
    (models_disk : Bool) (old : OpenStoreValue C) (from : Observed) (new : OpenStoreValue C)
    (to : Observed) : Type 0 where
  pub picked : Option (CompactionValue C)
  pub logged : IfSome picked (λ it. LogsCompaction cmp it old new)
  pub none : picked ≡ None → CompactsNone models_disk old from new to
  pub live : (number : ℕ) → Contains (file_numbers old.set.full.added) number
      → Contains (file_numbers (files_taken picked)) number
      ⊎ (Contains (file_numbers new.set.full.added) number
      × IsTableSame models_disk old.set from to number)

module _ {E F C : Type 0} (env : Ghosts E F) (cmp : List ℕ → List ℕ → Ordering) where
  -- From each of these stores to the next, and from the last of them on, one compaction was logged
  -- at most.
  abbrev pub CompactsThrough : OpenStoreValue C → E → List (OpenStoreValue C × E)
      → OpenStoreValue C → E → Type 0
  CompactsThrough old from [] new to =
      CompactsOnceAtMost cmp env.models_disk old (env.observed from) new (env.observed to)
  CompactsThrough old from (next ∷ more) new to =
      CompactsOnceAtMost cmp env.models_disk old (env.observed from) next.0 (env.observed next.1)
      × CompactsThrough next.0 next.1 more new to

  -- compactions were logged, one after another, and nothing else was done
  abbrev pub CompactsInTurn : OpenStoreValue C → E → OpenStoreValue C → E → Type 0
  CompactsInTurn old from new to = (between : List (OpenStoreValue C × E))
      × CompactsThrough old from between new to

-- What is in memory after a call, and the tables that it made of what was there before, have all
-- entries that were in memory, and no others. The tables were added before anything was compacted.
pub record CompactsMemtables {E F C : Type 0} (env : Ghosts E F) (format : Format)
    (old : OpenStoreValue C) (from : E) (new : OpenStoreValue C) (to : E) : Type 0 where
  -- the store and its environment before anything was compacted
  pub tables_made : OpenStoreValue C
  pub at : E
  pub path : tables_made.set.store ≡ old.set.store
  pub tables : KeepsEntries env format old from tables_made at
  -- and what was done since then
  pub compacts : CompactsInTurn env format.order tables_made at new to
  pub memory : in_memory new ≡ in_memory tables_made
