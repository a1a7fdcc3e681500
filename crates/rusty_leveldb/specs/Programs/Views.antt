-- Snapshots that a store is asked for, by what it gave out.
use Rattle.std.specs.Prelude.{◌^◌, ℕ, List, [], Some, map, Result, Ok, Err, Vec}
use Rattle.std.specs.declared.alloc.Global.{Global}
use Rattle.leveldb_base.specs.declared.error.Status.{Status}
use Rattle.leveldb_env.specs.Options.{Boxed, OptionsOf}
use Rattle.leveldb_env.specs.declared.env.Env.{Ghosts}
use Rattle.leveldb_env.specs.declared.filter.FilterPolicy.{Ghosts as FilterGhosts}
use Rattle.leveldb_iter.specs.declared.moves.Move.{Move}
use Rattle.leveldb_iter.specs.declared.moves.Step.{Step}
use Rattle.leveldb_iter.specs.declared.snapshot.Snapshot.{Snapshot as HeldSnapshot}
use Rattle.leveldb_store.specs.Tables.BuildTable.{TableChoices}
use Rattle.rusty_leveldb.specs.Engines.Boxes.{EngineOf, InternalOrder}
use Rattle.rusty_leveldb.specs.Engines.Calls.{EngineGets, EngineReleases, EngineWalks}
use Rattle.rusty_leveldb.specs.Machines.State.{Answer, Snapshot, refused, walked}
use Rattle.rusty_leveldb.specs.Engines.Serves.{refusal_of}
use Rattle.rusty_leveldb.specs.Walks.Walks.{landing_of}

-- a snapshot that no store gives out, since no number of an entry is that great
abbrev pub no_snapshot : Snapshot
no_snapshot = record { number = 0; sequence = 2 ^ 64 }

-- the same as a list would hold it
abbrev pub never_held : HeldSnapshot
never_held = record { number = 0; sequence = 2 ^ 64 }

-- each call for that snapshot is refused so, and leaves the engine and its environment
pub record RefusesUnknown {E C FP F P : Type 0} {B : Boxed} {keys : InternalOrder C}
    {key_filters : FilterGhosts P} (env : Ghosts E F)
    (choices : OptionsOf C FP B → TableChoices keys key_filters)
    (engine : EngineOf E C FP F B) (status : Status) : Type 0 where
  pub get_at : (key : List ℕ) (at : E)
      → EngineGets env choices engine at (Some no_snapshot) key (Err status) engine at
  pub release : (at : E) → EngineReleases env choices engine at never_held (Err status) engine at
  pub walk : (moves : List Move) (at : E)
      → EngineWalks env choices engine at (Some no_snapshot) moves [] (Err status) engine at

-- where the moves of a walk led, or refused
abbrev pub steps_or : Result (Vec Step Global) Status → Answer
steps_or (Ok steps) = walked (map landing_of steps.items)
steps_or (Err status) = refused (refusal_of status)

-- the steps of a walk, of which there are none where it was refused
abbrev pub steps_in : Result (Vec Step Global) Status → List Step
steps_in (Ok steps) = steps.items
steps_in (Err status) = []
