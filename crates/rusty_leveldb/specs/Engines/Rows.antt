-- The rows of the machine as a call takes them: from each state that engine and environment
-- represent before it to one that they represent after it.
use Rattle.std.specs.Prelude.{◌≡◌, ◌⊎◌, ℕ, false, List, Option, Some, None, IsTrue, map}
use Rattle.leveldb_base.specs.History.{Item}
use Rattle.leveldb_base.specs.declared.error.Status.{Status}
use Rattle.leveldb_base.specs.declared.error.StatusCode.TheVariants.{OutOfMemory}
use Rattle.leveldb_env.specs.declared.env.Env.{Ghosts}
use Rattle.leveldb_env.specs.Env as calls
use Rattle.leveldb_env.specs.Options.{Boxed, OptionsOf}
use Rattle.leveldb_iter.specs.declared.moves.Move.{Move}
use Rattle.leveldb_iter.specs.declared.moves.Step.{Step}
use Rattle.leveldb_store.specs.Writing.Room.{HasFailed}
use Rattle.leveldb_files.specs.Stores.Format.{Format, Meaning}
use Rattle.rusty_leveldb.specs.Engines.Boxes.{EngineOf, InternalOrder}
use Rattle.rusty_leveldb.specs.Machines.Causes.{Cause, IsCausedBy, IsBrokenRefusal, IsClosedRefusal, Setting}
use Rattle.rusty_leveldb.specs.Engines.Engine.{Recalls}
use Rattle.rusty_leveldb.specs.Machines.Machine.{Abandons, Breaks, Gets, Keeps, Rejects, Risk, StaysClosed, Walks, added_batch, risk_between}
use Rattle.rusty_leveldb.specs.Engines.Serves.{IsSpared, Represents, refusal_of, setting_between}
use Rattle.rusty_leveldb.specs.Machines.State.{Opening, Snapshot, State, broken, closed, open_mode, open_store, refused}
use Rattle.rusty_leveldb.specs.Walks.Walks.{landing_of, move_of}

-- a state before a call and one after it, in the call's setting
abbrev pub Row : Type 1
Row = Setting → State → State → Type 0

-- `formats` says of options which format they have
module _ {E C FP F : Type 0} {B : Boxed} (keys : InternalOrder C) (env : Ghosts E F)
    (formats : OptionsOf C FP B → Format) where
  -- the engine, or none, and its environment represent a state of the store under this name, where
  -- names and ids in its files have this meaning
  abbrev pub RepresentsAt : List ℕ → Meaning → Option (EngineOf E C FP F B) → E → State → Type 0
  RepresentsAt store meaning engine at state = Represents store meaning
      (Recalls keys env formats store meaning) engine (env.observed at).disk state

  -- Where the disk is modelled: from each state that is represented before the call, one that is
  -- represented after it, by this row. A crash at any moment of the call leaves whole batches of
  -- what is at risk, and all that were durable before it.
  abbrev pub FromStatesOf : (State → State → Risk) → List ℕ → Meaning
      → Option (EngineOf E C FP F B) → E → Option (EngineOf E C FP F B) → E → Row → Type 0
  FromStatesOf risk store meaning before from after to row = IsTrue env.models_disk
      → (old : State) → RepresentsAt store meaning before from old
      → (new : State) × RepresentsAt store meaning after to new
      × row (setting_between meaning (env.failures from) (env.failures to)) old new
      × calls.Run (IsSpared store meaning old (risk old new)) (env.observed from) (env.observed to)

  -- The same of a store of any name and meaning, where the history after the call is at risk.
  abbrev pub FromEachState : Option (EngineOf E C FP F B) → E → Option (EngineOf E C FP F B) → E
      → Row → Type 0
  FromEachState before from after to row = (store : List ℕ) (meaning : Meaning)
      → FromStatesOf (λ old new. risk_between new) store meaning before from after to row

-- ---- rows of calls that are Ok, where the machine has no word of its own

-- the value is found, and nothing changes
abbrev pub FindsValue : Option Snapshot → List ℕ → Option (List ℕ) → Row
FindsValue at key value setting old new = Gets old at key value × (new ≡ old)

-- each move led where a walk over the view leads, and nothing changes
abbrev pub WalksView : Option Snapshot → List Move → List Step → Row
WalksView at moves given setting old new =
    Walks setting old at (map move_of moves) (map landing_of given) × (new ≡ old)

-- nothing is held and the lock is free; or the store was closed before, and nothing changes
abbrev pub IsAbandoned : Row
IsAbandoned setting old new = Abandons old false new ⊎ ((old.mode ≡ closed) × (new ≡ old))

-- ---- rows of calls that fail

-- nothing changes
abbrev pub StaysAsItWas : Row
StaysAsItWas setting old new = new ≡ old

-- memory ran out, or a call of the device failed
abbrev pub IsMemoryOrDevice : Setting → Status → Type 0
IsMemoryOrDevice setting e = (e.code ≡ OutOfMemory) ⊎ HasFailed setting.before setting.after

-- A write that fails changes no answer. Out of memory or by the device it may break the store, and
-- then its batch is pending if its append had begun.
abbrev pub NotWritten : List Item → Status → Row
NotWritten items e setting old new = Keeps old new ⊎ (IsMemoryOrDevice setting e
    × (Breaks old None new ⊎ Breaks old (Some (added_batch old items)) new))

-- the store is closed or broken, which refuses the call, and nothing changes
abbrev pub RejectsByMode : Status → State → State → Type 0
RejectsByMode e old new =
    ((old.mode ≡ closed) × Rejects IsClosedRefusal old (refused (refusal_of e)) new)
    ⊎ ((old.mode ≡ broken) × Rejects IsBrokenRefusal old (refused (refusal_of e)) new)

-- A flush that fails changes no answer. Out of memory it may break the store, and by the device it
-- does.
abbrev pub NotFlushed : Status → Row
NotFlushed e setting old new = RejectsByMode e old new
    ⊎ ((e.code ≡ OutOfMemory) × (Keeps old new ⊎ Breaks old None new))
    ⊎ (HasFailed setting.before setting.after × Breaks old None new)

-- A compaction that fails changes no answer. Out of memory or by the device it may break an open
-- store.
abbrev pub NotCompacted : Status → Row
NotCompacted e setting old new = RejectsByMode e old new
    ⊎ ((old.mode ≡ open_mode) × (Keeps old new
    ⊎ (IsMemoryOrDevice setting e × Breaks old None new)))

-- A close that fails breaks a store that was open, out of memory or by the device.
abbrev pub NotClosed : Status → Row
NotClosed e setting old new = RejectsByMode e old new
    ⊎ (IsMemoryOrDevice setting e × Breaks old None new)

-- nothing is held, and the lock is as it was
abbrev pub NotUnlocked : Row
NotUnlocked setting old new = Abandons old old.locked new

-- An opening that fails leaves all as it was but for what is durable, a store that was made
-- meanwhile, and perhaps the lock (`StaysClosed`). It has a cause.
abbrev pub NotOpened : Opening → Status → Row
NotOpened opening e setting old new = (cause : Cause)
    × IsCausedBy setting old (open_store opening) (refusal_of e) cause
    × StaysClosed setting old opening (refusal_of e) cause new
