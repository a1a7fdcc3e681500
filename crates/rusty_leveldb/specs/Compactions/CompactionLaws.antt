-- What a store has in live tables alone that has no entry in memory, as a compaction of any range
-- leaves it.
use Rattle.std.specs.Prelude.{◌≡◌, ℕ, List, [], Option, None}
use Rattle.leveldb_base.specs.History.{SameView, entries_of}
use Rattle.leveldb_env.specs.Env.{Files}
use Rattle.leveldb_files.specs.Stores.Format.{Meaning}
use Rattle.leveldb_files.specs.Levels.Levels.{LevelOrder, LiveTable, table_entries}
use Rattle.leveldb_store.specs.Keeping.OpenStore.{OpenStoreValue}
use Rattle.leveldb_store.specs.Keeping.Written.{HasLiveTables}
use Rattle.rusty_leveldb.specs.Engines.Engine.{ShowsViews}
use Rattle.rusty_leveldb.specs.Machines.Machine.{IsSequenceOf}
use Rattle.rusty_leveldb.specs.Machines.State.{IsState, Snapshot, State}

-- Live tables alone show the views of a state's history, and their levels are in order.
pub record HasViewsInTables {C : Type 0} (meaning : Meaning) (value : OpenStoreValue C)
    (files : Files) (state : State) : Type 0 where
  pub tables : List LiveTable
  pub live : HasLiveTables state.format.order meaning value files tables
  pub levels : LevelOrder state.format.order tables
  -- as it is now, and as it was at each snapshot that is held
  pub same : (at : Option Snapshot) (sequence : ℕ) → IsSequenceOf state at sequence
      → SameView (table_entries tables) (entries_of state.history) sequence

-- where memory and live tables show a state's views (`Recalls.shows`), and no entry is in memory,
-- live tables alone do
abbrev pub AreViewsInTables : Type 0 → Type 0
AreViewsInTables C = (meaning : Meaning) (value : OpenStoreValue C) (files : Files)
    (state : State) → IsState state → ShowsViews meaning value files state
    → value.mem.entries ≡ [] → value.imm ≡ None
    → HasViewsInTables meaning value files state
