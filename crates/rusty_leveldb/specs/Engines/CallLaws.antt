-- Why a call is refused, by the machine and by its own record together.
use Rattle.std.specs.Prelude.{◌≡◌, ◌⊎◌, ℕ, Bool, List, Some, None, Err, IsTrue}
use Rattle.leveldb_base.specs.History.{Item}
use Rattle.leveldb_base.specs.declared.error.Status.{Status}
use Rattle.leveldb_env.specs.declared.env.Env.{Ghosts}
use Rattle.leveldb_env.specs.declared.filter.FilterPolicy.{Ghosts as FilterGhosts}
use Rattle.leveldb_env.specs.Options.{Boxed, OptionsOf}
use Rattle.leveldb_files.specs.Stores.Format.{Agrees, Meaning}
use Rattle.leveldb_store.specs.Tables.BuildTable.{TableChoices}
use Rattle.rusty_leveldb.specs.Machines.State.{Opening, Request, State, broken, closed, compact_range, open_store, write}
use Rattle.rusty_leveldb.specs.Machines.Causes.{Cause, IsBrokenRefusal, IsCausedBy, IsClosedRefusal, Setting, too_large}
use Rattle.rusty_leveldb.specs.Engines.Boxes.{EngineOf, InternalOrder}
use Rattle.rusty_leveldb.specs.Engines.Calls.{EngineCompacts, EngineOpens, EngineWrites}
use Rattle.rusty_leveldb.specs.Engines.Engine.{CompactExcused, IsOpening, WriteExcused, formats_of}
use Rattle.rusty_leveldb.specs.Engines.Rows.{RepresentsAt}
use Rattle.rusty_leveldb.specs.Engines.Serves.{refusal_of, setting_between}
use Rattle.rusty_leveldb.specs.Openings.Unopened.{OpenExcused}

-- A refusal has a cause of the machine, or the store was closed, or it broke earlier. What was too
-- large no state of the machine shows: where that is the cause, the call has a reason of its own.
abbrev pub IsExplained : Setting → State → Request → Status → (Status → Type 0) → Type 0
IsExplained setting old request e Reason =
    ((cause : Cause) × IsCausedBy setting old request (refusal_of e) cause
    × (cause ≡ too_large → Reason e))
    ⊎ ((old.mode ≡ closed) × IsClosedRefusal (refusal_of e))
    ⊎ ((old.mode ≡ broken) × IsBrokenRefusal (refusal_of e))

module _ {E C FP F P : Type 0} {B : Boxed} {keys : InternalOrder C} {key_filters : FilterGhosts P}
    (env : Ghosts E F) (choices : OptionsOf C FP B → TableChoices keys key_filters) where
  -- so is each refusal, whatever state was represented, of
  pub record RefusalsAreExplained (options : OptionsOf C FP B) : Type 0 where
    -- a write
    pub writes : (items : List Item) (sync : Bool) (e : Status)
        (before after : EngineOf E C FP F B) (from to : E)
        → EngineWrites env choices before from items sync (Err e) after to
        → IsTrue env.models_disk → (store : List ℕ) (meaning : Meaning) (old : State)
        → RepresentsAt keys env (formats_of choices) store meaning (Some before) from old
        → IsExplained (setting_between meaning (env.failures from) (env.failures to)) old
        (write items sync) e (WriteExcused env choices before from items after.store)
    -- a compaction of a range
    pub compactions : (low high : List ℕ) (e : Status) (before after : EngineOf E C FP F B)
        (from to : E) → EngineCompacts env choices before from low high (Err e) after to
        → IsTrue env.models_disk → (store : List ℕ) (meaning : Meaning) (old : State)
        → RepresentsAt keys env (formats_of choices) store meaning (Some before) from old
        → IsExplained (setting_between meaning (env.failures from) (env.failures to)) old
        (compact_range low high) e (CompactExcused env choices before from low high after.store)
    -- an opening with these options
    pub openings : (name : List ℕ) (asked opening : Opening) (e : Status) (from to : E)
        → EngineOpens env choices name options asked from (Err e) to → IsTrue env.models_disk
        → IsOpening name asked opening → (meaning : Meaning) → Agrees opening.format meaning
        → (old : State)
        → RepresentsAt keys env (formats_of choices) name meaning None from old
        → IsExplained (setting_between meaning (env.failures from) (env.failures to)) old
        (open_store opening) e (OpenExcused env name (choices options) asked from)
