-- A run of commands by its calls: an opening, then each command as that call of the engine which
-- the calls before it left, and at last the engine is given up. So why a reply is a refusal is what
-- the record of its call says, of the memory that those before it left.
use Rattle.std.specs.Prelude.{◌≡◌, ◌⊎◌, ℕ, false, List, [], ◌∷◌, ◌++◌, map, Option, Some, None, Result, Ok, Err, IsErrAnd, slice_get, unwrap_or}
use Rattle.std.specs.Option.{option_map}
use Rattle.leveldb_base.specs.Error.{IsOutOfMemory}
use Rattle.leveldb_base.specs.declared.error.Status.{Status}
use Rattle.leveldb_env.specs.Options.{Boxed, OptionsOf}
use Rattle.leveldb_env.specs.declared.env.Env.{Ghosts}
use Rattle.leveldb_env.specs.declared.filter.FilterPolicy.{Ghosts as FilterGhosts}
use Rattle.leveldb_iter.specs.declared.moves.Step.{Step}
use Rattle.leveldb_iter.specs.declared.snapshot.Snapshot.{Snapshot as HeldSnapshot}
use Rattle.leveldb_mem.specs.WriteBatch.{item_of}
use Rattle.leveldb_store.specs.Tables.BuildTable.{TableChoices}
use Rattle.rusty_leveldb.specs.Engines.Boxes.{EngineOf, InternalOrder}
use Rattle.rusty_leveldb.specs.Engines.Calls.{EngineAbandons, EngineCloses, EngineCompacts, EngineFlushes, EngineGets, EngineHolds, EngineOpens, EngineReleases, EngineWalks, EngineWrites, result_map}
use Rattle.rusty_leveldb.specs.Engines.Engine.{formats_of}
use Rattle.rusty_leveldb.specs.Engines.Serves.{done_or, found_or, snapshot_of, snapshot_or}
use Rattle.rusty_leveldb.specs.Programs.Shell.{IsReplyOf, change_of}
use Rattle.rusty_leveldb.specs.Machines.State.{Answer, Opening, Snapshot}
use Rattle.rusty_leveldb.specs.Programs.Views.{never_held}
use Rattle.rusty_leveldb.specs.Walks.Walks.{walked_or}
use Rattle.rusty_leveldb.specs.declared.shell.commands.Command.{Command}
use Rattle.rusty_leveldb.specs.declared.shell.commands.Command.TheVariants as command
use Rattle.rusty_leveldb.specs.declared.shell.commands.Reply.{Reply}
use Rattle.rusty_leveldb.specs.declared.shell.crash_runs.Report.{Report}

-- ---- snapshots

-- of the snapshots that were given out, counted from 0, the one of this number
abbrev pub held_named : List HeldSnapshot → ℕ → HeldSnapshot
held_named taken number = unwrap_or (slice_get taken number) never_held

-- the same as the machine has it
abbrev pub view_named : List HeldSnapshot → ℕ → Snapshot
view_named taken number = snapshot_of (held_named taken number)

-- the snapshot that a call gave out, if it gave one out
abbrev pub held_by : Result HeldSnapshot Status → List HeldSnapshot
held_by (Ok one) = one ∷ []
held_by (Err status) = []

-- ---- one command

-- the reply is of this answer, and no snapshot was given out
abbrev pub IsReplyAlone : List HeldSnapshot → Answer → Reply → List HeldSnapshot → Type 0
IsReplyAlone taken answer reply left =
    IsReplyOf (map snapshot_of taken) reply answer × (left ≡ taken)

module _ {E C FP F P : Type 0} {B : Boxed} {keys : InternalOrder C} {key_filters : FilterGhosts P}
    (env : Ghosts E F) (choices : OptionsOf C FP B → TableChoices keys key_filters) where
  -- Each command is one call of the engine, and the reply is of its result. `taken` are the
  -- snapshots that were given out before the command, and `left` those after it.
  abbrev pub CallsEngine : EngineOf E C FP F B → E → List HeldSnapshot → Command → Reply
      → EngineOf E C FP F B → E → List HeldSnapshot → Type 0
  CallsEngine before from taken (command.Put key value) reply after to left =
      (result : Result (Unit {0}) Status) × IsReplyAlone taken (done_or result) reply left
      × EngineWrites env choices before from (item_of key.items (Some value.items) ∷ []) false
      result after to
  CallsEngine before from taken (command.Delete key) reply after to left =
      (result : Result (Unit {0}) Status) × IsReplyAlone taken (done_or result) reply left
      × EngineWrites env choices before from (item_of key.items None ∷ []) false result after to
  CallsEngine before from taken (command.Write sync items) reply after to left =
      (result : Result (Unit {0}) Status) × IsReplyAlone taken (done_or result) reply left
      × EngineWrites env choices before from (map change_of items.items) sync result after to
  CallsEngine before from taken (command.Get key) reply after to left =
      (result : Result (Option (List ℕ)) Status) × IsReplyAlone taken (found_or result) reply left
      × EngineGets env choices before from None key.items result after to
  CallsEngine before from taken command.Snap reply after to left =
      (result : Result HeldSnapshot Status)
      × IsReplyOf (map snapshot_of taken) reply (snapshot_or result)
      × (left ≡ taken ++ held_by result) × EngineHolds env choices before from result after to
  CallsEngine before from taken (command.GetAt number key) reply after to left =
      (result : Result (Option (List ℕ)) Status) × IsReplyAlone taken (found_or result) reply left
      × EngineGets env choices before from (Some (view_named taken number)) key.items result
      after to
  CallsEngine before from taken (command.Release number) reply after to left =
      (result : Result (Unit {0}) Status) × IsReplyAlone taken (done_or result) reply left
      × EngineReleases env choices before from (held_named taken number) result after to
  CallsEngine before from taken (command.Walk at moves) reply after to left =
      (given : List Step) × (result : Result (Unit {0}) Status)
      × IsReplyAlone taken (walked_or given result) reply left
      × EngineWalks env choices before from (option_map (view_named taken) at) moves.items given
      result after to
  CallsEngine before from taken (command.Compact low high) reply after to left =
      (result : Result (Unit {0}) Status) × IsReplyAlone taken (done_or result) reply left
      × EngineCompacts env choices before from low.items high.items result after to
  CallsEngine before from taken command.Flush reply after to left =
      (result : Result (Unit {0}) Status) × IsReplyAlone taken (done_or result) reply left
      × EngineFlushes env choices before from result after to
  CallsEngine before from taken command.Close reply after to left =
      (result : Result (Unit {0}) Status) × IsReplyAlone taken (done_or result) reply left
      × EngineCloses env choices before from result after to

  -- ---- commands in turn

  -- commands, one after another, each a call of the engine as the one before it left that
  abbrev pub CallsInTurn : EngineOf E C FP F B → E → List HeldSnapshot → List Command → List Reply
      → EngineOf E C FP F B → E → List HeldSnapshot → Type 0
  CallsInTurn engine from taken [] [] last to left =
      (last ≡ engine) × (to ≡ from) × (left ≡ taken)
  CallsInTurn engine from taken (one ∷ commands) (reply ∷ replies) last to left =
      (next : EngineOf E C FP F B) × (mid : E) × (held : List HeldSnapshot)
      × CallsEngine engine from taken one reply next mid held
      × CallsInTurn next mid held commands replies last to left
  CallsInTurn engine from taken _ _ last to left = ⊥

  -- ---- a run

  -- What comes after an opening that returned this: nothing, or each command in turn, from no
  -- snapshot given out on, and the engine is given up.
  abbrev pub CallsAfter : Result (EngineOf E C FP F B) Status → E → List Command → List Reply
      → Result (Unit {0}) Status → E → Type 0
  CallsAfter (Err status) opened commands given ended to =
      (given ≡ []) × (ended ≡ Err status) × (to ≡ opened)
  CallsAfter (Ok engine) opened commands given ended to =
      (last : EngineOf E C FP F B) × (done : E) × (left : List HeldSnapshot)
      × CallsInTurn engine opened [] commands given last done left
      × EngineAbandons keys env (formats_of choices) last done ended to

  -- a run of commands over the store of this name, which is opened so; or there was no memory
  -- before it began
  abbrev pub RunsByCalls : List ℕ → OptionsOf C FP B → Opening → List Command → E → List Reply
      → Result (Unit {0}) Status → E → Type 0
  RunsByCalls name options asked commands from given ended to =
      (IsErrAnd ended IsOutOfMemory × (given ≡ []) × (to ≡ from))
      ⊎ ((result : Result (EngineOf E C FP F B) Status) × (opened : E)
      × EngineOpens env choices name options asked from result opened
      × CallsAfter result opened commands given ended to)

  -- a life of the store, by its calls: as a run, but that no report tells how giving the engine up
  -- ended
  abbrev pub LivesByCalls : List ℕ → OptionsOf C FP B → Opening → List Command → E → Report → E
      → Type 0
  LivesByCalls name options asked commands from report to =
      (result : Result (EngineOf E C FP F B) Status) × (opened : E)
      × (ended : Result (Unit {0}) Status)
      × EngineOpens env choices name options asked from result opened
      × (report.opened ≡ result_map (λ engine. tt) result)
      × CallsAfter result opened commands (map (λ reply. reply.1) report.replies.items) ended to
