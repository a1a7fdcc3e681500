-- What a run of commands does over a store that is read alone.
use Rattle.std.specs.Prelude.{◌≡◌, ◌≤◌, ℕ, List, [], ◌∷◌, None, Result, OnErr, OnOk, IsTrue}
use Rattle.leveldb_base.specs.History.{History}
use Rattle.leveldb_base.specs.declared.error.Status.{Status}
use Rattle.leveldb_base.specs.declared.error.StatusCode.TheVariants.{InvalidArgument}
use Rattle.leveldb_env.specs.Options.{Boxed, OptionsOf}
use Rattle.leveldb_env.specs.declared.env.Env.{Ghosts}
use Rattle.leveldb_table.specs.TableBlock.{KeepsDisk}
use Rattle.leveldb_files.specs.Stores.Batches.{Each}
use Rattle.leveldb_files.specs.Stores.Format.{Agrees, Format, Meaning}
use Rattle.leveldb_files.specs.Stores.Paths.{current_path}
use Rattle.leveldb_version.specs.Tables.TableCache.{files_at}
use Rattle.rusty_leveldb.specs.Engines.Boxes.{InternalOrder, ReaderOf}
use Rattle.rusty_leveldb.specs.Machines.Causes.{Setting}
use Rattle.rusty_leveldb.specs.Engines.Engine.{IsStoreName}
use Rattle.rusty_leveldb.specs.Machines.Machine.{Responds}
use Rattle.rusty_leveldb.specs.Openings.ReadAlone.{FindsHistory, ReadsHistory, ReadsOnly, opened_state, read_state}
use Rattle.rusty_leveldb.specs.Engines.Serves.{AreReadAs, StandsFor, setting_between}
use Rattle.rusty_leveldb.specs.Programs.Shell.{IsReplyOf}
use Rattle.rusty_leveldb.specs.Machines.State.{Answer, Opening, Request, State, get}
use Rattle.rusty_leveldb.specs.Walks.Walks.{walk_of}
use Rattle.rusty_leveldb.specs.declared.shell.commands.Command.{Command}
use Rattle.rusty_leveldb.specs.declared.shell.commands.Command.TheVariants as command
use Rattle.rusty_leveldb.specs.declared.shell.commands.Reply.{Reply}
use Rattle.rusty_leveldb.specs.declared.shell.commands.Reply.TheVariants as reply

-- the reply is that the command isn't one for a store that is read alone
abbrev pub IsRefusedAlone : Reply → Type 0
IsRefusedAlone (reply.Refused status) = status.code ≡ InvalidArgument
IsRefusedAlone other = ⊥

-- each command but a look-up and a walk over the store as it is now has that reply
abbrev pub RefusesOthers : Command → Reply → Type 0
RefusesOthers (command.Get key) reply = Unit {0}
RefusesOthers (command.Walk None moves) reply = Unit {0}
RefusesOthers other reply = IsRefusedAlone reply

-- the reply is of an answer that the machine gives to the request in this state, which stays
abbrev pub IsMachineReply : Setting → State → Request → Reply → Type 0
IsMachineReply setting state request reply =
    (answer : Answer) × IsReplyOf [] reply answer × Responds setting state request answer state

-- the reply to a command where a store is read alone that an opening would have left in this state
abbrev pub IsAnsweredAlone : Setting → State → Command → Reply → Type 0
IsAnsweredAlone setting state (command.Get key) reply =
    IsMachineReply setting state (get None key.items) reply
IsAnsweredAlone setting state (command.Walk None moves) reply =
    IsMachineReply setting state (walk_of None moves.items) reply
IsAnsweredAlone setting state other reply = IsRefusedAlone reply

-- the replies to commands, one after another, each between the count of failed calls at the end of
-- the one before and its own
abbrev pub AreAnsweredAlone : Meaning → State → ℕ → List Command → List Reply → ℕ → Type 0
AreAnsweredAlone meaning state from [] [] to = to ≡ from
AreAnsweredAlone meaning state from (one ∷ commands) (reply ∷ replies) to =
    (mid : ℕ) × (from ≤ mid) × IsAnsweredAlone (setting_between meaning from mid) state one reply
    × AreAnsweredAlone meaning state mid commands replies to
AreAnsweredAlone meaning state from commands replies to = ⊥

-- One command to an engine that only reads.
pub record ReaderAnswers {E C FP F : Type 0} {B : Boxed} (keys : InternalOrder C)
    (env : Ghosts E F) (formats : OptionsOf C FP B → Format) (before : ReaderOf E C FP F B)
    (from : E) (one : Command) (reply : Reply) (after : ReaderOf E C FP F B) (to : E)
    : Type 0 where
  -- in each history that is read it is answered as in a store that was opened on it
  pub answers : IsTrue env.models_disk → (meaning : Meaning) (history : History)
      → ReadsHistory keys env formats meaning before (files_at env from) history
      → IsAnsweredAlone (setting_between meaning (env.failures from) (env.failures to))
      (read_state formats before history) one reply
  pub others : RefusesOthers one reply
  pub rest : ReadsOnly keys env formats before from after to
  pub later : env.failures from ≤ env.failures to

module _ {E F : Type 0} (env : Ghosts E F) (store : List ℕ) where
  -- What a run of commands does over a store that is read alone, by its result, with the replies
  -- that it gave.
  pub record HasReadAlone (asked : Opening) (commands : List Command) (from : E)
      (given : List Reply) (ended : Result (Unit {0}) Status) (to : E) : Type 0 where
    -- Ok: from each state that the disk represents, which is modelled, each command is answered as
    -- in a store that an opening left with one history that it finds, if the options say of names
    -- and ids what they mean
    pub answers : OnOk ended (IsTrue env.models_disk → (meaning : Meaning)
        → Agrees asked.format meaning → (old : State)
        → StandsFor store meaning (env.observed from).disk old → (history : History) × (last : ℕ)
        × FindsHistory old asked.format history last
        × AreAnsweredAlone meaning (opened_state asked.format history last) (env.failures from)
        commands given (env.failures to))
    -- and so from each history as which the files are read, up to the last number that they have
    pub reads : OnOk ended (IsTrue env.models_disk → (meaning : Meaning)
        → Agrees asked.format meaning → (history : History) (last : ℕ)
        → AreReadAs store meaning (files_at env from) history last
        → AreAnsweredAlone meaning (opened_state asked.format history last) (env.failures from)
        commands given (env.failures to))
    -- over any environment: each command but a look-up and a walk over the store as it is now is
    -- refused
    pub others : OnOk ended (Each RefusesOthers commands given)
    -- Err: no command has a reply
    pub none : OnErr ended (given ≡ [])
    -- no file changes at any moment, nor does a lock
    pub still : KeepsDisk env from to
    -- a store without `CURRENT` isn't read
    pub missing : IsTrue env.models_disk
        → (env.observed from).disk.files (current_path store) ≡ None → OnOk ended ⊥
    -- under a name that is no store's no call is made, nor with options that don't fit
    pub misnamed : (IsStoreName store × IsTrue asked.fits × IsTrue asked.compresses → ⊥)
        → (to ≡ from) × OnOk ended ⊥
