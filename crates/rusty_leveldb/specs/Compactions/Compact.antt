-- What a compaction of its store leaves of an engine.
use Rattle.std.specs.Prelude.{◌≡◌, ◌≤◌, ℕ, IsTrue, List, Ok, Result}
use Rattle.leveldb_base.specs.declared.error.Status.{Status}
use Rattle.leveldb_env.specs.declared.env.Env.{Ghosts}
use Rattle.leveldb_env.specs.declared.filter.FilterPolicy.{Ghosts as FilterGhosts}
use Rattle.leveldb_env.specs.Options.{Boxed, OptionsOf}
use Rattle.leveldb_iter.specs.Snapshot.{IsSmallestHeld}
use Rattle.leveldb_store.specs.Tables.BuildTable.{TableChoices}
use Rattle.leveldb_store.specs.Compactions.Compact.{CompactsRange}
use Rattle.leveldb_store.specs.Openings.EndsOpening.{EndsOpening}
use Rattle.leveldb_store.specs.Keeping.KeptEntries.{CompactsMemtables}
use Rattle.leveldb_store.specs.Keeping.OpenStore.{OpenStoreValue}
use Rattle.leveldb_store.specs.Openings.OpensStore.{OpensStore}
use Rattle.leveldb_files.specs.Levels.Overlap.{named_range}
use Rattle.leveldb_version.specs.Tables.TableCache.{table_options}
use Rattle.leveldb_version.specs.declared.table_cache.TableCache.{TableCache}
use Rattle.rusty_leveldb.specs.Engines.Boxes.{EngineOf, InternalOrder}
use Rattle.rusty_leveldb.specs.Engines.Engine.{formats_of, engine_options, tables_by}
use Rattle.rusty_leveldb.specs.Engines.EngineValue.{FollowsStore}
use Rattle.rusty_leveldb.specs.Engines.Tidy.{TidiesOrKeeps}
use Rattle.rusty_leveldb.specs.Machines.State.{Opening}
use Rattle.rusty_leveldb.specs.Openings.Unopened.{MakesLockAlone}

-- nothing of an engine changes but its store, the open tables, what the last removal returned, the
-- mode, and the sink of the options' log
abbrev pub ChangesStore : {E C FP F : Type 0} {B : Boxed} → EngineOf E C FP F B
    → EngineOf E C FP F B → Type 0
ChangesStore before after = after ≡ record before {
  store = after.store;
  options = record (engine_options before) { log = after.options.log };
  tables = after.tables;
  removal = after.removal;
  mode = after.mode;
}

-- The store of an engine is compacted over a range, down to the smallest number at which the engine
-- is read.
pub record EngineCompactsStore {E C FP F P : Type 0} {B : Boxed} {keys : InternalOrder C}
    {key_filters : FilterGhosts P} (env : Ghosts E F)
    (choices : OptionsOf C FP B → TableChoices keys key_filters) (before : EngineOf E C FP F B)
    (from : E) (low high : List ℕ) (result : Result (Unit {0}) Status)
    (after : EngineOf E C FP F B) (to : E) : Type 0 where
  pub smallest : ℕ
  pub is_smallest : IsSmallestHeld before.snapshots.held before.store.set.last_sequence smallest
  pub compacts : CompactsRange keys env (tables_by (formats_of choices) before) before.store from
      before.tables (choices (engine_options before)) smallest (named_range low high) result
      after.store to after.tables
  -- what was in memory is there, or was in a table before anything was compacted
  pub entries : CompactsMemtables env (formats_of choices (engine_options before)) before.store from
      after.store to
  -- obsolete files were removed, or nothing was done
  pub tidy : TidiesOrKeeps env before from result after to
  -- nothing else of the engine changes but the sink of the options' log, and its mode
  pub rest : ChangesStore before after
  -- it is broken where the store is
  pub mode : FollowsStore after.mode after.store

-- How an opening that gave an engine went: its lock was taken and nothing else was done, then its
-- files were opened as a store, and then one compaction was done at most, for which the score of a
-- level asks.
pub record EngineEndsOpening {E C FP F P : Type 0} {B : Boxed} {keys : InternalOrder C}
    {key_filters : FilterGhosts P} (env : Ghosts E F)
    (choices : OptionsOf C FP B → TableChoices keys key_filters) (name : List ℕ)
    (options : OptionsOf C FP B) (asked : Opening) (from : E) (engine : EngineOf E C FP F B)
    (to : E) : Type 0 where
  -- the environment once the lock was taken, and once this store was opened, with its open tables
  pub taken : E
  pub opened : OpenStoreValue C
  pub at : E
  pub tables : TableCache E C FP F
  -- from the call on until the lock was taken all files stayed, but that the lock's may be made
  pub begins : IsTrue env.models_disk
      → MakesLockAlone name (env.observed from) (env.observed taken)
  -- whatever is observed, no moment was taken back until then
  pub in_time : (env.observed from).moment ≤ (env.observed taken).moment
  -- nor had a call of the device failed by then, or by the time that the store was opened
  pub uncounted : (env.failures taken ≡ env.failures from) × (env.failures at ≡ env.failures taken)
  pub opens : OpensStore env name asked.format asked.create_if_missing asked.error_if_exists taken
      options.write_buffer_size (Ok opened) at
  pub ends : EndsOpening keys env (table_options (formats_of choices options) options) opened at
      tables (choices options) (Ok tt) engine.store to engine.tables
