-- How what was found goes to new tables: which tables they are, what changes meanwhile, and why
-- that stops.
use Rattle.std.specs.Prelude.{◌≡◌, ◌⊎◌, ◌≤◌, ◌+◌, ◌++◌, ℕ, true, false, length, List, [], map, All, Contains, Result, IfErr, IfOk, IsTrue}
use Rattle.leveldb_base.specs.Entries.{entries_of_pairs}
use Rattle.leveldb_base.specs.History.{AreRising}
use Rattle.leveldb_base.specs.KeyTypes.{internal_cmp}
use Rattle.leveldb_base.specs.Types.{Pair}
use Rattle.leveldb_base.specs.declared.cmp.Cmp.{Ghosts as CmpGhosts}
use Rattle.leveldb_base.specs.declared.error.Status.{Status}
use Rattle.leveldb_base.specs.declared.types.FileMetaData.{FileMetaData}
use Rattle.leveldb_env.specs.Env.{Run}
use Rattle.leveldb_env.specs.EnvFile.{failed}
use Rattle.leveldb_env.specs.declared.env.Env.{Ghosts as EnvGhosts}
use Rattle.leveldb_env.specs.declared.filter.FilterPolicy.{Ghosts as FilterGhosts}
use Rattle.leveldb_iter.specs.Walk.{key_order}
use Rattle.leveldb_iter.specs.declared.walk.Walk.{Ghosts as WalkGhosts}
use Rattle.leveldb_files.specs.Stores.Batches.{Each}
use Rattle.leveldb_version_set.specs.Compactions.Compaction.{files_of_tables}
use Rattle.leveldb_version_set.specs.Sets.CurrentVersion.{VersionsValue, new_versions}
use Rattle.leveldb_files.specs.Stores.Format.{Agrees, IsTableOf, Meaning}
use Rattle.leveldb_files.specs.Levels.Levels.{LiveTable, table_entries}
use Rattle.leveldb_version_set.specs.Engines.Opening.{FitsEdit}
pub use Rattle.leveldb_version_set.specs.Repairs.Repairing.{AreLevelOne}
use Rattle.leveldb_files.specs.Stores.Store.{IsInternalPair}
use Rattle.leveldb_files.specs.Edits.Edit.{NewFile}
use Rattle.leveldb_version.specs.Edits.VersionEdit.{new_file_of}
use Rattle.leveldb_store.specs.Tables.BuildTable.{TableChoices}
use Rattle.leveldb_store.specs.Compactions.Merging.{BearsNewTables, IsReachedFrom, FailsOnWay, IsMergeFault, Merge, all_pairs, merge_of}
use Rattle.leveldb_store.specs.Tables.Outputs.{AreTables, ChangesNewTables}
use Rattle.leveldb_store.specs.Tables.TableFile.{FailsToWrite}
use Rattle.leveldb_store.specs.Tables.TableParts.{HaveTableParts}

-- ---- numbers

-- the versions of a store without files whose next number is the second one above this one
abbrev pub versions_above : {C : Type 0} → List ℕ → List ℕ → C → ℕ → VersionsValue C
versions_above store comparator cmp greatest =
    let new = new_versions store comparator cmp in
    record new { set = record new.set { next_file = greatest + 2 } }

-- ---- the tables

-- the files as those of level 1
abbrev pub files_of_level_one : List FileMetaData → List NewFile
files_of_level_one files = map (λ file. new_file_of (1, file)) files

-- ---- writing them

module _ {C FP : Type 0} {order : CmpGhosts C} {filters : FilterGhosts FP}
    (choices : TableChoices order filters) where
  -- a merge that drops nothing: no number is held, no level is known to be the deepest one that
  -- has a user key, and each user key is among the inputs
  abbrev pub merge_of_all : List ℕ → Merge order filters
  merge_of_all store = merge_of choices store 0 (λ user. false) (λ user. true)

  module _ {E F : Type 0} (env : EnvGhosts E F) (store : List ℕ) (first : ℕ) where
    -- Files are tables of exactly the pairs that were read, in their order; they are cut between
    -- user keys, and have the numbers from the first on and below the next.
    pub record HasWritten (read : List Pair) (next : ℕ) (files : List FileMetaData) (to : E)
        : Type 0 where
      -- the keys have tags, and rise
      pub tagged : (pair : Pair) → Contains read pair → 8 ≤ length pair.0
      pub rising : AreRising (internal_cmp choices.format.order) read
      -- the pairs of each table
      pub tables : List (List Pair)
      pub are_tables : AreTables choices env store first next to files tables
      pub all : all_pairs tables ≡ read
      -- without a pair there is no table
      pub none : read ≡ [] → files ≡ []
      -- an edit may have the files, in level 1
      pub fit : All FitsEdit (files_of_level_one files)
      -- there they are tables of a store with the entries of the pairs, whatever names and ids mean
      -- besides
      pub live : IsTrue env.models_disk → (meaning : Meaning) → Agrees choices.format meaning
          → Each IsInternalPair read (entries_of_pairs read) → (live : List LiveTable)
          × AreLevelOne store choices.format.order (IsTableOf choices.format.order meaning)
          (env.observed to).disk.files live
          × (files_of_tables live ≡ files_of_level_one files)
          × (table_entries live ≡ entries_of_pairs read)

    -- What writing the pairs of a walk to new tables leaves and returns, whatever it reads; a walk
    -- that is over a list, and bears new tables, reads that list.
    pub record WritesFound {T W X : Type 0} (walk : WalkGhosts W E T)
        (items : X → List FileMetaData) (start : E × T) (it : W) (result : Result X Status)
        (later : ℕ) (end : E × T) : Type 0 where
      pub ok : IfOk result (λ files. (read : List Pair)
          × HasWritten read later (items files) end.0
          × (BearsNewTables env walk store first start → (pairs : List Pair)
          → walk.over start it (key_order order choices.cmp) pairs → pairs ≡ read))
      -- now and at each moment on the way no file changes but tables of numbers that were given
      pub changes : ChangesNewTables env store first later start.0 end.0
      -- a walk that is over a list, and bears new tables, has a pair for each number that was given
      pub few : BearsNewTables env walk store first start → (pairs : List Pair)
          → walk.over start it (key_order order choices.cmp) pairs
          → later ≤ first + length pairs
      -- now and at each moment on the way a new table is a part of one of some of the list's pairs
      pub parts : BearsNewTables env walk store first start → (pairs : List Pair)
          → walk.over start it (key_order order choices.cmp) pairs → IsTrue env.models_disk
          → Run (HaveTableParts choices (Contains pairs) store first later
          (env.observed start.0).disk.files) (env.observed start.0) (env.observed end.0)
      -- moves of the walk and new tables lead to where it ends, so that what both keep is kept
      pub comes : IsReachedFrom env walk store first start end
      -- A move failed; or, after some pairs were read, at last a call that writes. Where the walk
      -- is over a list, and bears new tables, they are the first of it.
      pub cause : IfErr result (λ status. FailsOnWay env walk store first start it end status
          ⊎ ((mid : ℕ) × (env.failures start.0 ≤ mid) × (read : List Pair)
          × (BearsNewTables env walk store first start → (pairs : List Pair)
          → walk.over start it (key_order order choices.cmp) pairs
          → (rest : List Pair) × (pairs ≡ read ++ rest))
          × FailsToWrite (IsMergeFault (merge_of_all store) later read) mid
          (env.failures end.0) (failed status)))
