-- A snapshot that no store gives out is refused, as one that isn't held.
use Rattle.std.proofs.Common.{◌≡◌, ◌<◌, ◌^◌, ℕ, List, map, ap, arith, inl, Some}
use Rattle.leveldb_base.proofs.EntriesLemmas.{in_map}
use Rattle.leveldb_base.specs.declared.error.Status.{Status}
use Rattle.leveldb_base.specs.declared.error.StatusCode.TheVariants.{InvalidArgument}
use Rattle.leveldb_env.specs.Options.{Boxed, OptionsOf}
use Rattle.leveldb_env.specs.declared.env.Env.{Ghosts}
use Rattle.leveldb_env.specs.declared.filter.FilterPolicy.{Ghosts as FilterGhosts}
use Rattle.leveldb_iter.specs.Snapshot.{IsNewest}
use Rattle.leveldb_iter.specs.declared.snapshot.Snapshot.{Snapshot as HeldSnapshot}
use Rattle.leveldb_store.specs.Tables.BuildTable.{TableChoices}
use Rattle.rusty_leveldb.specs.Engines.Boxes.{EngineOf, InternalOrder}
use Rattle.rusty_leveldb.specs.Machines.Causes.{IsNotHeld}
use Rattle.rusty_leveldb.specs.Engines.Engine.{RefusedAsClosed, held_in}
use Rattle.rusty_leveldb.specs.Engines.Serves.{snapshot_of}
use Rattle.rusty_leveldb.specs.Machines.State as machine
use Rattle.rusty_leveldb.specs.Machines.State.{Snapshot}
use Rattle.rusty_leveldb.specs.Programs.Views.{RefusesUnknown, never_held, no_snapshot}
use Rattle.rusty_leveldb.proofs.Engines.CallsLemmas.{get_closed_serves, get_misfit_serves}
use Rattle.rusty_leveldb.proofs.Engines.SnapshotLemmas.{closed_releases, releases_none}
use Rattle.rusty_leveldb.proofs.Walks.WalkCallLemmas.{walk_closed_serves, walk_unheld_serves}

-- it is held by no list whose numbers are of 64 bits
pub unknown_unheld : (held : List HeldSnapshot) (newest : ℕ) → IsNewest held newest → newest < 2 ^ 64
    → IsNotHeld (map snapshot_of held) (Some no_snapshot)
unknown_unheld held newest is fits there =
    let it = in_map snapshot_of held no_snapshot there in
    let most = is.greatest it.0 it.1 in
    let same : it.0.sequence ≡ 2 ^ 64 = ap (λ (s : Snapshot). s.sequence) it.2 in
    absurd (omega (arith, most, same, fits))

module _ {E C FP F P : Type 0} {B : Boxed} {keys : InternalOrder C} {key_filters : FilterGhosts P}
    (env : Ghosts E F) (choices : OptionsOf C FP B → TableChoices keys key_filters)
    (engine : EngineOf E C FP F B) (status : Status) where
  -- a closed store
  pub unknown_closed : RefusedAsClosed engine.mode status
      → RefusesUnknown env choices engine status
  unknown_closed out = record {
    get_at = λ key at. get_closed_serves env choices engine (Some no_snapshot) key at status out;
    release = λ at. closed_releases env choices engine never_held status at out;
    walk = λ moves at. walk_closed_serves env choices engine (Some no_snapshot) moves at status out;
  }

  -- one that isn't
  pub unknown_refused : (engine.mode ≡ machine.closed → ⊥) → status.code ≡ InvalidArgument
      → IsNotHeld (held_in engine) (Some no_snapshot) → RefusesUnknown env choices engine status
  unknown_refused usable code unheld = record {
    get_at = λ key at. get_misfit_serves env choices engine (Some no_snapshot) key at usable status
        code (inl unheld);
    release = λ at. releases_none env choices engine usable never_held status at (code, unheld);
    walk = λ moves at. walk_unheld_serves env choices engine (Some no_snapshot) moves at usable
        status code unheld;
  }
