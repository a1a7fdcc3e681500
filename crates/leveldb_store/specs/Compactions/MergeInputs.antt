-- The walk that merges the tables of files: which pairs it is over where they are there, and that
-- new tables leave it where it is.
use Rattle.std.specs.Prelude.{◌≡◌, ◌≤◌, ℕ, List}
use Rattle.leveldb_base.specs.Entries.{entries_of_pairs}
use Rattle.leveldb_base.specs.History.{AreRising}
use Rattle.leveldb_base.specs.KeyTypes.{internal_cmp}
use Rattle.leveldb_base.specs.Types.{Pair}
use Rattle.leveldb_base.specs.declared.cmp.Cmp.{Ghosts as CmpGhosts}
use Rattle.leveldb_base.specs.declared.cmp.internal.InternalKeyCmp.{InternalKeyCmp}
use Rattle.leveldb_base.specs.declared.error.Status.{Status}
use Rattle.leveldb_env.specs.Compressor.{Codings}
use Rattle.leveldb_env.specs.declared.env.Env.{Ghosts as EnvGhosts}
use Rattle.leveldb_env.specs.declared.filter.FilterPolicy.{Ghosts as FilterGhosts}
use Rattle.leveldb_iter.specs.Walk.{key_order}
use Rattle.leveldb_iter.specs.declared.merging_iter.MergeCore.{MergeCore}
use Rattle.leveldb_iter.specs.declared.walk.Walk.{Ghosts as WalkGhosts}
use Rattle.leveldb_files.specs.Stores.Batches.{Each}
use Rattle.leveldb_files.specs.Stores.Format.{IsTableFault, Meaning}
use Rattle.leveldb_files.specs.Levels.Levels.{LiveTable, table_entries}
use Rattle.leveldb_files.specs.Stores.Store.{IsInternalPair, SameEntries}
use Rattle.leveldb_version.specs.Tables.TableCache.{store_of}
use Rattle.leveldb_version.specs.Versions.Version.{AreInVersionOrder, VersionValue, new_files_of}
use Rattle.leveldb_version.specs.Walks.VersionIter.{AreOpenGiven, KeepsReading}
use Rattle.leveldb_version.specs.Walks.VersionIters.{AreTablesToWalk}
use Rattle.leveldb_version.specs.declared.table_cache.moves.ReadTables.{ReadTables}
use Rattle.leveldb_version.specs.declared.version_iter.VersionIter.{VersionIter}
use Rattle.leveldb_store.specs.Compactions.Merging.{BearsNewTables}
use Rattle.leveldb_store.specs.Reading.View.{FailsBetween, IsOfNoCompressor, options_in}

-- the tables of this store are read, and none is open or may be opened whose number is the first or
-- above
pub record ReadsBelow {E C FP K F : Type 0} (store : List ℕ) (first : ℕ)
    (world : E × ReadTables E C FP K F) : Type 0 where
  pub given : AreOpenGiven world
  pub below : world.1.below ≤ first
  pub store_is : store_of world.1.cache.now ≡ store

module _ {E F C FP K : Type 0} (keys : CmpGhosts (InternalKeyCmp C)) (env : EnvGhosts E F)
    (cmp : CmpGhosts C) (filters : FilterGhosts FP) (codings : K → Codings)
    (walk : WalkGhosts (MergeCore (InternalKeyCmp C) (VersionIter C)) E (ReadTables E C FP K F))
  where
    -- A walk that merges the tables of a version's files, by this comparator of user keys.
    pub record MergesTablesOf (inputs : VersionValue C) (compares : C)
        (it : MergeCore (InternalKeyCmp C) (VersionIter C)) : Type 0 where
      -- which are in a version's order
      pub in_order : AreInVersionOrder (cmp.cmp inputs.cmp) (new_files_of inputs)
      -- where the tables are there, it is over all their entries, in order
      pub over : (world : E × ReadTables E C FP K F) (meaning : Meaning) (tables : List LiveTable)
          → AreTablesToWalk keys env cmp filters codings inputs meaning world tables
          → cmp.cmp compares ≡ cmp.cmp inputs.cmp
          → (pairs : List Pair)
          × walk.over world it (key_order keys (record { 0 = compares })) pairs
          × AreRising (internal_cmp (cmp.cmp compares)) pairs
          × SameEntries (entries_of_pairs pairs) (table_entries tables)
          × Each IsInternalPair pairs (entries_of_pairs pairs)
      -- and a move fails since the format lacks a compressor, if memory and failures don't explain
      -- it
      pub lacks : (world : E × ReadTables E C FP K F) (meaning : Meaning) (tables : List LiveTable)
          → AreTablesToWalk keys env cmp filters codings inputs meaning world tables
          → cmp.cmp compares ≡ cmp.cmp inputs.cmp
          → (later : E × ReadTables E C FP K F) (status : Status)
          → walk.fails world it later status → FailsBetween env world later (IsOfNoCompressor
          (options_in env cmp filters codings world).format meaning) status
      -- over whatever files, such an error of any walk of this type is the fault of a table
      pub fault : (world : E × ReadTables E C FP K F)
          (any : MergeCore (InternalKeyCmp C) (VersionIter C))
          (later : E × ReadTables E C FP K F) (status : Status)
          → walk.fails world any later status → FailsBetween env world later (λ e. IsTableFault
          (options_in env cmp filters codings world).format e.code) status
      -- its moves only read
      pub leaves : (from to : E × ReadTables E C FP K F) → walk.keeps from to
          → KeepsReading keys env cmp filters codings from to
      -- new tables leave it where it is
      pub bears : (store : List ℕ) (first : ℕ) (world : E × ReadTables E C FP K F)
          → ReadsBelow store first world → BearsNewTables env walk store first world
