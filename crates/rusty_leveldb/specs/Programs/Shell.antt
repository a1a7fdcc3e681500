-- Commands and replies as requests and answers, and what a run of commands is.
use Rattle.std.specs.Prelude.{◌≡◌, ◌⊎◌, ℕ, false, List, [], ◌∷◌, ◌++◌, length, map, slice_get, unwrap_or, Some, None, Result, OnOk, IsErrAnd, IsTrue}
use Rattle.std.specs.Option.{option_map}
use Rattle.leveldb_base.specs.declared.error.Status.{Status}
use Rattle.leveldb_base.specs.History as history
use Rattle.leveldb_env.specs.declared.env.Env.{Ghosts}
use Rattle.leveldb_base.specs.Error.{IsOutOfMemory}
use Rattle.leveldb_mem.specs.WriteBatch.{item_of}
use Rattle.rusty_leveldb.specs.declared.shell.commands.Command.{Command}
use Rattle.rusty_leveldb.specs.declared.shell.commands.Command.TheVariants as command
use Rattle.rusty_leveldb.specs.declared.shell.commands.Item.{Item}
use Rattle.rusty_leveldb.specs.declared.shell.commands.Item.TheVariants as item
use Rattle.rusty_leveldb.specs.declared.shell.commands.Reply.{Reply}
use Rattle.rusty_leveldb.specs.declared.shell.commands.Reply.TheVariants as reply
use Rattle.leveldb_files.specs.Stores.Format.{Meaning, Agrees}
use Rattle.rusty_leveldb.specs.Machines.State.{State, Opening, Snapshot, Request, open_store, write, get, get_snapshot, release_snapshot, flush, compact_range, close, abandon, Answer, done, found, walked, snapshot, refused}
use Rattle.rusty_leveldb.specs.Engines.Serves.{Represents, Runs, recalls_nothing, refusal_of, done_or}
use Rattle.rusty_leveldb.specs.Engines.Engine.{scene, IsOpening, IsStoreName}
use Rattle.rusty_leveldb.specs.Engines.Frame.{IsOwn, Spares}
use Rattle.rusty_leveldb.specs.Programs.Views.{no_snapshot}
use Rattle.rusty_leveldb.specs.Walks.Walks.{landing_of, walk_of}
use Rattle.rusty_leveldb.specs.Openings.Unopened.{IsLockGivenBack, IsNotKeptUnder, MakesLockAlone, NeverOpens}

-- the change that an item asks for
abbrev pub change_of : Item → history.Item
change_of (item.Put key value) = item_of key.items (Some value.items)
change_of (item.Delete key) = item_of key.items None

-- of the snapshots that were given out, counted from 0, the one of this number
abbrev pub snapshot_named : List Snapshot → ℕ → Snapshot
snapshot_named taken number = unwrap_or (slice_get taken number) no_snapshot

-- the request that a command is, where these snapshots were given out before
abbrev pub request_of : List Snapshot → Command → Request
request_of taken (command.Put key value) =
    write (item_of key.items (Some value.items) ∷ []) false
request_of taken (command.Delete key) = write (item_of key.items None ∷ []) false
request_of taken (command.Write sync items) = write (map change_of items.items) sync
request_of taken (command.Get key) = get None key.items
request_of taken command.Snap = get_snapshot
request_of taken (command.GetAt number key) = get (Some (snapshot_named taken number)) key.items
request_of taken (command.Release number) = release_snapshot (snapshot_named taken number)
request_of taken (command.Walk at moves) =
    walk_of (option_map (snapshot_named taken) at) moves.items
request_of taken (command.Compact from to) = compact_range from.items to.items
request_of taken command.Flush = flush
request_of taken command.Close = close

-- the reply is of this answer; a snapshot's number is how many were given out before it
abbrev pub IsReplyOf : List Snapshot → Reply → Answer → Type 0
IsReplyOf taken reply.Done answer = answer ≡ done
IsReplyOf taken (reply.Value value) answer = answer ≡ found (Some value)
IsReplyOf taken reply.Nothing answer = answer ≡ found None
IsReplyOf taken (reply.Snapshot number) answer =
    (number ≡ length taken) × (one : Snapshot) × (answer ≡ snapshot one)
IsReplyOf taken (reply.Walk steps) answer = answer ≡ walked (map landing_of steps.items)
IsReplyOf taken (reply.Refused status) answer = answer ≡ refused (refusal_of status)

-- the snapshot that an answer gives out, if it gives one out
abbrev pub given_by : Answer → List Snapshot
given_by (snapshot one) = one ∷ []
given_by answer = []

-- a command with the request that it became, the answer to that, and the reply
pub record Turn : Type 0 where
  pub command : Command
  pub request : Request
  pub answer : Answer
  pub reply : Reply

-- the turn of a command after these snapshots were given out
abbrev pub IsTurn : List Snapshot → Turn → Type 0
IsTurn taken turn = (turn.request ≡ request_of taken turn.command)
    × IsReplyOf taken turn.reply turn.answer

-- each turn in its place, where those before it gave out these snapshots
abbrev pub AreTurns : List Snapshot → List Turn → Type 0
AreTurns taken [] = Unit {0}
AreTurns taken (turn ∷ turns) = IsTurn taken turn × AreTurns (taken ++ given_by turn.answer) turns

-- these commands with these replies are these requests with these answers, from an opening on
pub record AreAsked (commands : List Command) (replies : List Reply) (requests : List Request)
    (answers : List Answer) : Type 0 where
  pub turns : List Turn
  pub follow : AreTurns [] turns
  pub commands_are : map (λ turn. turn.command) turns ≡ commands
  pub replies_are : map (λ turn. turn.reply) turns ≡ replies
  pub requests_are : map (λ turn. turn.request) turns ≡ requests
  pub answers_are : map (λ turn. turn.answer) turns ≡ answers

-- ---- runs

-- the run failed, since the store isn't one that is opened
pub record IsStoreUnopened {E F : Type 0} (env : Ghosts E F) (store : List ℕ) (asked : Opening)
    (from : E) (ended : Result (Unit {0}) Status) (to : E) : Type 0 where
  pub lock : IsErrAnd ended
      (IsLockGivenBack env store asked from (IsNotKeptUnder asked.format) to)
  pub files : MakesLockAlone store (env.observed from) (env.observed to)
  -- what isn't the store's stays as it is
  pub others : Spares store (IsOwn store) (env.observed from).disk (env.observed to).disk

module _ {E F : Type 0} (env : Ghosts E F) (store : List ℕ) where
  -- What a run of commands is, by its result, with the replies that it gave. The store was opened,
  -- each command was answered, and at last the store was abandoned; or the run failed with no
  -- reply, since the store wasn't opened, or out of memory before it began.
  abbrev pub RunsCommands : Meaning → E → Opening → List Command → List Reply
      → Result (Unit {0}) Status → E → State → Type 0
  RunsCommands meaning from opening commands given result to old =
      let leads : List Request → List Answer → Type 0 = λ requests answers. (moments : List ℕ)
      × Runs store meaning recalls_nothing env.models_moments (scene env None from) requests
      answers moments (scene env None to) old in
      ((requests : List Request) × (answers : List Answer)
      × AreAsked commands given requests answers
      × leads (open_store opening ∷ (requests ++ abandon ∷ []))
      (done ∷ (answers ++ done_or result ∷ [])))
      ⊎ IsErrAnd result (λ status. (given ≡ [])
      × (leads (open_store opening ∷ []) (refused (refusal_of status) ∷ [])
      ⊎ (IsOutOfMemory status × (to ≡ from))))

  -- what a run of commands over the store does, which is opened as it is asked
  pub record HasRun (asked : Opening) (commands : List Command) (from : E) (given : List Reply)
      (ended : Result (Unit {0}) Status) (to : E) : Type 0 where
    -- from every state that a disk represents which is observed, if the options say of names and
    -- ids what they mean
    pub plays : IsTrue env.models_disk → (opening : Opening) → IsOpening store asked opening
        → (meaning : Meaning) → Agrees opening.format meaning → (old : State)
        → Represents store meaning recalls_nothing None (env.observed from).disk old
        → RunsCommands meaning from opening commands given ended to old
    -- a store that is locked isn't opened, nor one without `CURRENT` or usable edits, nor a missing
    -- one that isn't to be made, or one that is there and must not be
    pub unopened : IsTrue env.models_disk
        → NeverOpens store asked (env.observed from).disk
        → (given ≡ []) × IsStoreUnopened env store asked from ended to
    -- under a name that is no store's no call is made, nor with options that don't fit
    pub misnamed : (IsStoreName store × IsTrue asked.fits × IsTrue asked.compresses → ⊥)
        → (to ≡ from) × (given ≡ []) × OnOk ended ⊥
