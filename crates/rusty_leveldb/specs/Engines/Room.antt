-- What room in an engine's memtable leaves: a memtable that is full becomes a table, and then the
-- compaction is done for which the store asks; where there is room, the one that is due.
use Rattle.std.specs.Prelude.{◌≡◌, ◌≢◌, ◌⊎◌, ◌++◌, ℕ, Bool, false, true, List, [], None, Result, Ok, Err, IfErr, IsTrue, OnErr, OnOk, is_some}
use Rattle.leveldb_base.specs.Error.{IsOutOfMemory}
use Rattle.leveldb_base.specs.History.{Entry}
use Rattle.leveldb_base.specs.declared.cmp.Cmp.{Ghosts as CmpGhosts}
use Rattle.leveldb_base.specs.declared.cmp.internal.InternalKeyCmp.{InternalKeyCmp}
use Rattle.leveldb_base.specs.declared.error.Status.{Status}
use Rattle.leveldb_env.specs.declared.env.Env.{Ghosts}
use Rattle.leveldb_env.specs.declared.filter.FilterPolicy.{Ghosts as FilterGhosts}
use Rattle.leveldb_env.specs.Options.{Boxed, OptionsOf}
use Rattle.leveldb_iter.specs.Snapshot.{IsSmallestHeld}
use Rattle.leveldb_files.specs.Stores.Format.{Format}
use Rattle.leveldb_files.specs.Stores.Store.{SameEntries}
use Rattle.leveldb_version_set.specs.Compactions.Picking.{needs_compaction}
use Rattle.leveldb_version.specs.Tables.TableCache.{TableOptions}
use Rattle.leveldb_version_set.specs.Sets.VersionSetValue.{VersionSetValue}
use Rattle.leveldb_version.specs.declared.table_cache.TableCache.{TableCache}
use Rattle.leveldb_store.specs.Tables.BuildTable.{TableChoices}
use Rattle.leveldb_store.specs.Compactions.Compact.{FailsToCompactRange, FailsToMerge, KeepsCompacted}
use Rattle.leveldb_store.specs.Keeping.KeptEntries.{CompactsOnceAtMost, KeepsEntries}
use Rattle.leveldb_store.specs.Keeping.LoggedEdits.{LogsByScore, LogsTableEdits}
use Rattle.leveldb_store.specs.Keeping.OpenStore.{OpenStoreValue}
use Rattle.leveldb_store.specs.Reading.Read.{in_memory}
use Rattle.leveldb_store.specs.Writing.Room.{FailsFor, IsFull}
use Rattle.rusty_leveldb.specs.Engines.Boxes.{EngineOf, InternalOrder}
use Rattle.rusty_leveldb.specs.Compactions.Compact.{ChangesStore}
use Rattle.rusty_leveldb.specs.Engines.Engine.{WriteMovesLookedAt, engine_options, formats_of, has_compaction_due, tables_by}
use Rattle.rusty_leveldb.specs.Engines.EngineValue.{FollowsStore}
use Rattle.rusty_leveldb.specs.Engines.Tidy.{TidiesOrKeeps}

-- What was logged: tables of memtables, which take no file away, and then at most one edit of a
-- compaction, which takes one from a level. Where the score of a level asks for a compaction in the
-- files that those leave, there is one, which takes a file from this level and adds none to it.
pub record LogsRoom (old new : VersionSetValue) : Type 0 where
  pub tables_made : VersionSetValue
  pub tables : LogsTableEdits 2 old tables_made
  pub by_score : LogsByScore tables_made new

-- What was logged where a compaction was due, or wasn't: one edit, which takes a file from the level
-- whose score asks for it; or nothing.
abbrev pub LogsIfDue : Bool → VersionSetValue → VersionSetValue → Type 0
LogsIfDue true old new = LogsByScore old new
LogsIfDue false old new = new ≡ old

-- the entries that a write of this batch adds, by what it returns
abbrev pub entries_added : Result (Unit {0}) Status → List Entry → List Entry
entries_added (Ok nothing) batch = batch
entries_added (Err status) batch = []

-- the store with this last number
abbrev pub with_last : {C : Type 0} → ℕ → OpenStoreValue C → OpenStoreValue C
with_last n value = record value { set = record value.set { last_sequence = n } }

-- Where entries are after a write, whatever the files are: each is in memory still, or in a table
-- that was added, and then one compaction may have taken that table. These entries, of a batch, are
-- added to memory.
pub record KeepsOrCompacts {E F C : Type 0} (env : Ghosts E F) (format : Format)
    (batch : List Entry) (old : OpenStoreValue C) (from : E) (new : OpenStoreValue C) (to : E)
    : Type 0 where
  -- the store and its environment once tables were made of what was in memory, and nothing was
  -- compacted yet
  pub tables_made : OpenStoreValue C
  pub at : E
  pub path : tables_made.set.store ≡ old.set.store
  pub tables : KeepsEntries env format old from tables_made at
  -- since then each live table stays as it is but those that one compaction took
  pub compacts : CompactsOnceAtMost format.order env.models_disk tables_made (env.observed at)
      (with_last tables_made.set.last_sequence new) (env.observed to)
  -- and what is in memory stays there, with the batch, and nothing else is
  pub memory : SameEntries (in_memory tables_made ++ batch) (in_memory new)

-- In a store whose memtable has room the compaction is done that is due, or nothing.
pub record CompactsIfDue {E C : Type 0} (due : Bool) (old : OpenStoreValue C) (from : E)
    (result : Result (Unit {0}) Status) (new : OpenStoreValue C) (to : E) : Type 0 where
  -- what is in memory stays
  pub memory : new ≡ record old { set = new.set; current = new.current }
  pub none : due ≡ false → (new ≡ old) × (to ≡ from) × OnErr result ⊥
  pub logs : OnOk result (LogsIfDue due old.set new.set)

-- Room is made in the memtable of a store that isn't broken. Where it was full the compaction is
-- done for which the store asks then, and where it wasn't the one that is due, down to the smallest
-- number at which the store is read.
pub record StoreMakesRoom {E F C FP D P : Type 0} (order : CmpGhosts (InternalKeyCmp C))
    (env : Ghosts E F) (by : TableOptions C FP) (old : OpenStoreValue C) (from : E)
    (tables : TableCache E C FP F) {keys : CmpGhosts D} {filters : FilterGhosts P}
    (choices : TableChoices keys filters) (limit smallest : ℕ) (due : Bool)
    (result : Result (Unit {0}) Status) (new : OpenStoreValue C) (to : E)
    (now : TableCache E C FP F) : Type 0 where
  -- It fails for what a compaction of a range fails for: no tables are made of what is in memory,
  -- or tables aren't merged.
  pub keeps : KeepsCompacted order env by old from tables smallest
      (FailsToCompactRange order env by old from tables choices) result new to now
  -- where it isn't full, no table is made of what is in memory, and nothing fails but a merge
  pub not_full : (IsFull limit old.mem → ⊥) → CompactsIfDue due old from result new to
  pub merges : (IsFull limit old.mem → ⊥)
      → FailsFor (FailsToMerge order env by old from tables choices new) (env.failures from)
      (env.failures to) result
  -- and one that was full is empty then, no place is taken in it, and there is no immutable one
  pub empties : OnOk result (IsFull limit old.mem
      → (new.mem.entries ≡ []) × (new.mem.places ≡ 0) × (new.imm ≡ None))
  pub logs : OnOk result (IsFull limit old.mem → LogsRoom old.set new.set)
  -- Err: there is something to do still. The memtable is full, or there is an immutable one, or the
  -- version asks for a compaction; but where memory was out.
  pub left : IfErr result (λ e. IsFull limit new.mem ⊎ (new.imm ≢ None)
      ⊎ IsTrue (needs_compaction new.current) ⊎ IsOutOfMemory e)
  -- Ok or Err, no entry is lost from memory but into tables
  pub entries : KeepsOrCompacts env by.format [] old from new to

-- The store of an engine makes room so, by the engine's options.
pub record EngineMakesRoom {E C FP F P : Type 0} {B : Boxed} {keys : InternalOrder C}
    {key_filters : FilterGhosts P} (env : Ghosts E F)
    (choices : OptionsOf C FP B → TableChoices keys key_filters) (before : EngineOf E C FP F B)
    (from : E) (result : Result (Unit {0}) Status) (after : EngineOf E C FP F B) (to : E)
    : Type 0 where
  pub smallest : ℕ
  pub is_smallest : IsSmallestHeld before.snapshots.held before.store.set.last_sequence smallest
  pub makes : StoreMakesRoom keys env (tables_by (formats_of choices) before) before.store from
      before.tables (choices (engine_options before)) before.options.write_buffer_size smallest
      (has_compaction_due before) result after.store to after.tables
  pub looks : WriteMovesLookedAt before after
  -- obsolete files were removed, or nothing was done
  pub tidy : TidiesOrKeeps env before from result after to
  -- nothing else of the engine changes but the sink of the options' log, and its mode
  pub rest : ChangesStore (record before { looked_at = after.looked_at }) after
  pub sink : is_some after.options.log ≡ is_some before.options.log
  -- it is broken where the store is
  pub mode : FollowsStore after.mode after.store
