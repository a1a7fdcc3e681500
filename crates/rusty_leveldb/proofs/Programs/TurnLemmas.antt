-- One command over an engine: what it names, and how its reply tells what the call returned.
use Rattle.std.specs.Prelude.{Result, slice_get}
use Rattle.std.specs.Option.{option_map}
use Rattle.std.proofs.Common.{◌≡◌, ◌≤◌, ℕ, false, List, [], ◌∷◌, ◌++◌, map, append-nil, refl, sym, ◌∙◌, ap, subst, arith, Option, Some, None, Ok, Err, unwrap_or}
use Rattle.std.proofs.lemmas.Option.{slice_get-map}
use Rattle.std.proofs.lemmas.List.{map-append}
use Rattle.leveldb_base.specs.declared.error.Status.{Status}
use Rattle.leveldb_env.specs.Options.{Boxed, OptionsOf}
use Rattle.leveldb_env.specs.declared.env.Env.{Ghosts}
use Rattle.leveldb_env.specs.declared.filter.FilterPolicy.{Ghosts as FilterGhosts}
use Rattle.leveldb_iter.specs.declared.moves.Move.{Move}
use Rattle.leveldb_iter.specs.declared.moves.Step.{Step}
use Rattle.leveldb_iter.specs.declared.snapshot.Snapshot.{Snapshot as HeldSnapshot}
use Rattle.leveldb_mem.specs.WriteBatch.{item_of}
use Rattle.leveldb_store.specs.Tables.BuildTable.{TableChoices}
use Rattle.leveldb_store.specs.Keeping.SoundCall.{TimeGoesOn}
use Rattle.rusty_leveldb.specs.declared.shell.commands.Command.{Command}
use Rattle.rusty_leveldb.specs.declared.shell.commands.Command.TheVariants as command
use Rattle.rusty_leveldb.specs.declared.shell.commands.Reply.{Reply}
use Rattle.rusty_leveldb.specs.Engines.Boxes.{EngineOf, InternalOrder}
use Rattle.rusty_leveldb.specs.Engines.Engine.{Answers, formats_of}
use Rattle.rusty_leveldb.specs.Programs.RunCalls.{CallsEngine, CallsInTurn, IsReplyAlone, held_by, held_named, view_named}
use Rattle.rusty_leveldb.specs.Engines.Serves.{done_or, found_or, snapshot_of, snapshot_or}
use Rattle.rusty_leveldb.specs.Programs.Shell.{change_of, given_by, request_of, snapshot_named}
use Rattle.rusty_leveldb.specs.Machines.State.{Answer, Request, Snapshot, close, compact_range, flush, get, release_snapshot, write}
use Rattle.rusty_leveldb.specs.Programs.Views.{never_held, no_snapshot}
use Rattle.rusty_leveldb.specs.Walks.Walks.{walk_of, walked_or}
use Rattle.rusty_leveldb.proofs.Programs.Turns.{AnswersCommand}

-- ---- the snapshot of a number

pub held_one : (taken : List HeldSnapshot) (number : ℕ) (one : HeldSnapshot)
    → slice_get taken number ≡ Some one → held_named taken number ≡ one
held_one taken number one is = ap (λ (o : Option HeldSnapshot). unwrap_or o never_held) is

pub held_none : (taken : List HeldSnapshot) (number : ℕ) → slice_get taken number ≡ None
    → held_named taken number ≡ never_held
held_none taken number is = ap (λ (o : Option HeldSnapshot). unwrap_or o never_held) is

-- the machine names the same
named_same : (taken : List HeldSnapshot) (number : ℕ)
    → snapshot_named (map snapshot_of taken) number ≡ view_named taken number
named_same taken number =
    ap (λ (o : Option Snapshot). unwrap_or o no_snapshot) (slice_get-map snapshot_of taken number)
    ∙ of (slice_get taken number)
  where
    of : (o : Option HeldSnapshot)
        → unwrap_or (option_map snapshot_of o) no_snapshot ≡ snapshot_of (unwrap_or o never_held)
    of None = refl
    of (Some one) = refl

-- so does a walk
walks_same : (taken : List HeldSnapshot) (at : Option ℕ) (moves : List Move)
    → walk_of (option_map (snapshot_named (map snapshot_of taken)) at) moves
    ≡ walk_of (option_map (view_named taken) at) moves
walks_same taken None moves = refl
walks_same taken (Some number) moves =
    ap (λ (s : Snapshot). walk_of (Some s) moves) (named_same taken number)

-- ---- the snapshots that answers give out

done_gives_none : (result : Result (Unit {0}) Status) → given_by (done_or result) ≡ []
done_gives_none (Ok nothing) = refl
done_gives_none (Err status) = refl

found_gives_none : (result : Result (Option (List ℕ)) Status) → given_by (found_or result) ≡ []
found_gives_none (Ok value) = refl
found_gives_none (Err status) = refl

walked_gives_none : (given : List Step) (result : Result (Unit {0}) Status)
    → given_by (walked_or given result) ≡ []
walked_gives_none given (Ok nothing) = refl
walked_gives_none given (Err status) = refl

given_held : (result : Result HeldSnapshot Status)
    → map snapshot_of (held_by result) ≡ given_by (snapshot_or result)
given_held (Ok one) = refl
given_held (Err status) = refl

-- ---- one command

module _ {E C FP F P : Type 0} {B : Boxed} {keys : InternalOrder C} {key_filters : FilterGhosts P}
    (env : Ghosts E F) (choices : OptionsOf C FP B → TableChoices keys key_filters)
    (before : EngineOf E C FP F B) (from : E) (taken : List HeldSnapshot) (told : Reply)
    (after : EngineOf E C FP F B) (to : E) (left : List HeldSnapshot) where
  -- what a command does that becomes this request, and is answered so
  abbrev Answered : Command → Type 0
  Answered one = AnswersCommand keys env (formats_of choices) before from (map snapshot_of taken) one
      told after to (map snapshot_of left)

  -- one that takes no snapshot
  answered : (one : Command) (request : Request) (answer : Answer) → given_by answer ≡ []
      → request_of (map snapshot_of taken) one ≡ request → IsReplyAlone taken answer told left
      → Answers keys env (formats_of choices) (Some before) from request answer (Some after) to
      → Answered one
  answered one request answer none asks tells step = record {
    answer = answer;
    tells = tells.0;
    left_is = ap (map snapshot_of) tells.1 ∙ sym (append-nil (map snapshot_of taken))
        ∙ ap (λ (l : List Snapshot). map snapshot_of taken ++ l) (sym none);
    step = subst (λ r. Answers keys env (formats_of choices) (Some before) from r answer (Some after)
        to) (sym asks) step;
  }

  -- each is a step of the machine
  pub calls_step : (one : Command) → CallsEngine env choices before from taken one told after to left
      → Answered one
  calls_step (command.Put key value) is = answered (command.Put key value)
      (write (item_of key.items (Some value.items) ∷ []) false) (done_or is.0) (done_gives_none is.0)
      refl is.1 is.2.step
  calls_step (command.Delete key) is = answered (command.Delete key)
      (write (item_of key.items None ∷ []) false) (done_or is.0) (done_gives_none is.0) refl is.1
      is.2.step
  calls_step (command.Write sync items) is = answered (command.Write sync items)
      (write (map change_of items.items) sync) (done_or is.0) (done_gives_none is.0) refl is.1
      is.2.step
  calls_step (command.Get key) is = answered (command.Get key) (get None key.items) (found_or is.0)
      (found_gives_none is.0) refl is.1 is.2.step
  calls_step command.Snap is = record {
    answer = snapshot_or is.0;
    tells = is.1;
    left_is = ap (map snapshot_of) is.2 ∙ map-append snapshot_of taken (held_by is.0)
        ∙ ap (λ (l : List Snapshot). map snapshot_of taken ++ l) (given_held is.0);
    step = is.3.step;
  }
  calls_step (command.GetAt number key) is = answered (command.GetAt number key)
      (get (Some (view_named taken number)) key.items) (found_or is.0) (found_gives_none is.0)
      (ap (λ (s : Snapshot). get (Some s) key.items) (named_same taken number)) is.1 is.2.step
  calls_step (command.Release number) is = answered (command.Release number)
      (release_snapshot (view_named taken number)) (done_or is.0) (done_gives_none is.0)
      (ap (λ (s : Snapshot). release_snapshot s) (named_same taken number)) is.1 is.2.step
  calls_step (command.Walk at moves) is = answered (command.Walk at moves)
      (walk_of (option_map (view_named taken) at) moves.items) (walked_or is.0 is.1)
      (walked_gives_none is.0 is.1) (walks_same taken at moves.items) is.2 is.3.step
  calls_step (command.Compact low high) is = answered (command.Compact low high)
      (compact_range low.items high.items) (done_or is.0) (done_gives_none is.0) refl is.1 is.2.step
  calls_step command.Flush is =
      answered command.Flush flush (done_or is.0) (done_gives_none is.0) refl is.1 is.2.step
  calls_step command.Close is =
      answered command.Close close (done_or is.0) (done_gives_none is.0) refl is.1 is.2.step

  -- and forgets no failure of the device
  pub calls_later : (one : Command) → CallsEngine env choices before from taken one told after to left
      → env.failures from ≤ env.failures to
  calls_later (command.Put key value) is = is.2.cause.later
  calls_later (command.Delete key) is = is.2.cause.later
  calls_later (command.Write sync items) is = is.2.cause.later
  calls_later (command.Get key) is = is.2.cause.cause.later
  calls_later command.Snap is =
      subst (λ (e : E). env.failures from ≤ env.failures e) (sym is.3.still) (omega arith)
  calls_later (command.GetAt number key) is = is.2.cause.cause.later
  calls_later (command.Release number) is =
      subst (λ (e : E). env.failures from ≤ env.failures e) (sym is.2.still) (omega arith)
  calls_later (command.Walk at moves) is = is.3.later
  calls_later (command.Compact low high) is = is.2.cause.later
  calls_later command.Flush is = is.2.cause.later
  calls_later command.Close is = is.2.cause.later

  -- nor does time fall
  pub calls_time : (one : Command) → CallsEngine env choices before from taken one told after to left
      → TimeGoesOn env from to
  calls_time (command.Put key value) is = is.2.time
  calls_time (command.Delete key) is = is.2.time
  calls_time (command.Write sync items) is = is.2.time
  calls_time (command.Get key) is = is.2.time
  calls_time command.Snap is =
      subst (λ (e : E). TimeGoesOn env from e) (sym is.3.still) (λ modelled. omega arith)
  calls_time (command.GetAt number key) is = is.2.time
  calls_time (command.Release number) is =
      subst (λ (e : E). TimeGoesOn env from e) (sym is.2.still) (λ modelled. omega arith)
  calls_time (command.Walk at moves) is = is.3.time
  calls_time (command.Compact low high) is = is.2.time
  calls_time command.Flush is = is.2.time
  calls_time command.Close is = is.2.time

-- ---- commands in turn

module _ {E C FP F P : Type 0} {B : Boxed} {keys : InternalOrder C} {key_filters : FilterGhosts P}
    (env : Ghosts E F) (choices : OptionsOf C FP B → TableChoices keys key_filters) where
  -- one more after others
  pub calls_more : (engine : EngineOf E C FP F B) (from : E) (taken : List HeldSnapshot)
      (commands : List Command) (replies : List Reply) (mid : EngineOf E C FP F B) (between : E)
      (held : List HeldSnapshot) (one : Command) (told : Reply) (last : EngineOf E C FP F B) (to : E)
      (left : List HeldSnapshot)
      → CallsInTurn env choices engine from taken commands replies mid between held
      → CallsEngine env choices mid between held one told last to left
      → CallsInTurn env choices engine from taken (commands ++ one ∷ []) (replies ++ told ∷ []) last
      to left
  calls_more engine from taken [] [] mid between held one told last to left all is = (
    last,
    to,
    left,
    subst (λ (e : EngineOf E C FP F B). CallsEngine env choices e from taken one told last to left)
        all.0 (subst (λ (a : E). CallsEngine env choices mid a taken one told last to left) all.1
        (subst (λ (h : List HeldSnapshot). CallsEngine env choices mid between h one told last to left)
        all.2 is)),
    (refl, refl, refl),
  )
  calls_more engine from taken [] (reply ∷ replies) mid between held one told last to left all is =
      absurd all
  calls_more engine from taken (first ∷ commands) [] mid between held one told last to left all is =
      absurd all
  calls_more engine from taken (first ∷ commands) (reply ∷ replies) mid between held one told last to
      left all is = (
        all.0,
        all.1,
        all.2,
        all.3,
        calls_more all.0 all.1 all.2 commands replies mid between held one told last to left all.4 is,
      )
