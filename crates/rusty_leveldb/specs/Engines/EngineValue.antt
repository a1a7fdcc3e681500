-- An engine as clauses see it: what a store that was opened has in memory, and its one mode.
use Rattle.std.specs.Prelude.{◌≡◌, ◌⊎◌, ℕ, List, Option, None, Some, Result, Ok, Err}
use Rattle.leveldb_base.specs.declared.error.Status.{Status}
use Rattle.leveldb_iter.specs.Snapshot.{HeldSnapshots}
use Rattle.leveldb_store.specs.Keeping.OpenStore.{IsUnbroken, OpenStoreValue}
use Rattle.rusty_leveldb.specs.declared.db_impl.engine.Mode.{Mode}
use Rattle.rusty_leveldb.specs.declared.db_impl.engine.Mode.TheVariants.{Open, Broken, Closed}
use Rattle.rusty_leveldb.specs.Machines.State as machine

-- an engine whose options and open tables have these types
pub record EngineValue (C O T : Type 0) : Type 0 where
  -- what it was opened with
  pub options : O
  -- the path of its lock
  pub lock : List ℕ
  -- its store, its open tables, and the snapshots that it holds
  pub store : OpenStoreValue C
  pub tables : T
  pub snapshots : HeldSnapshots
  -- how much memory its memtable took when a write last looked for a compaction
  pub looked_at : ℕ
  -- what the last removal of obsolete files returned
  pub removal : Result (Unit {0}) Status
  -- open, broken or closed
  pub mode : machine.Mode

-- What the last removal of obsolete files returned, after a call that returned this: that of the
-- call, if it is Ok and did one, and else the one before.
abbrev pub removal_after : Result (Unit {0}) Status
    → Result (Option (Result (Unit {0}) Status)) Status → Result (Unit {0}) Status
removal_after last (Ok (Some removal)) = removal
removal_after last (Ok None) = last
removal_after last (Err status) = last

-- the mode that an engine keeps, as the machine has it
abbrev pub mode_of : Mode → machine.Mode
mode_of Open = machine.open_mode
mode_of Broken = machine.broken
mode_of Closed = machine.closed

-- the store of an open engine is unbroken: it may be written to
abbrev pub IsUnbrokenIfOpen : {C : Type 0} → machine.Mode → OpenStoreValue C → Type 0
IsUnbrokenIfOpen mode store = mode ≡ machine.open_mode → IsUnbroken store

-- the mode of an engine that was open when its store was written to: broken if that broke the store
abbrev pub FollowsStore : {C : Type 0} → machine.Mode → OpenStoreValue C → Type 0
FollowsStore mode store = ((mode ≡ machine.open_mode) × IsUnbroken store)
    ⊎ ((mode ≡ machine.broken) × (IsUnbroken store → ⊥))
