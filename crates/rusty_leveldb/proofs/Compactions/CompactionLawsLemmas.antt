-- A store that has no entry in memory has its views in tables.
use Rattle.std.proofs.Common.{◌≤◌, ◌++◌, ℕ, List, Option, None, Some, ap, subst, arith}
use Rattle.leveldb_base.specs.History.{Entry, SameView, entries_of}
use Rattle.leveldb_env.specs.Env.{Files}
use Rattle.leveldb_files.specs.Stores.Format.{Meaning}
use Rattle.leveldb_files.specs.Levels.Levels.{table_entries}
use Rattle.leveldb_store.specs.Keeping.OpenStore.{OpenStoreValue}
use Rattle.leveldb_store.specs.Keeping.Written.{imm_entries}
use Rattle.rusty_leveldb.specs.Compactions.CompactionLaws.{AreViewsInTables}
use Rattle.rusty_leveldb.specs.Engines.Engine.{ShowsViews}
use Rattle.rusty_leveldb.specs.Machines.Machine.{IsSequenceOf}
use Rattle.rusty_leveldb.specs.Machines.State.{IsState, Snapshot, State}

-- what is shown from this number on is shown at the number at which the state is read
reads_from : {C : Type 0} (meaning : Meaning) (value : OpenStoreValue C) (files : Files) (state : State)
    → IsState state → (shows : ShowsViews meaning value files state) (at : Option Snapshot) (sequence : ℕ)
    → IsSequenceOf state at sequence → shows.since ≤ sequence
reads_from meaning value files state is shows None sequence e =
    let now = shows.now in
    let reached = is.reached in
    omega (arith, now, reached, e)
reads_from meaning value files state is shows (Some one) sequence e =
    let held = shows.held one e.0 in
    let same = e.1 in
    omega (arith, held, same)

pub views_in_tables : (C : Type 0) → AreViewsInTables C
views_in_tables C meaning value files state is shows empty none =
    let shown = shows.shows.shows in
    let tables = table_entries shows.shows.tables in
    record {
      tables = shows.shows.tables;
      live = shows.shows.has;
      levels = shown.levels;
      same = λ at sequence e.
          let P : List Entry → Type 0 = λ mem.
          SameView (mem ++ (imm_entries value.imm ++ tables)) (entries_of state.history) sequence in
          let Q : List Entry → Type 0 = λ imm.
          SameView (imm ++ tables) (entries_of state.history) sequence in
          subst Q (ap imm_entries none)
          (subst P empty (shown.same sequence (reads_from meaning value files state is shows at sequence e)));
    }
