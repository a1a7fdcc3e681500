-- Commands as requests, one turn after another.
use Rattle.std.proofs.Common.{◌≡◌, List, [], ◌∷◌, ◌++◌, append-nil, append_assoc, refl, sym, ◌∙◌, ap, subst, Some}
use Rattle.std.specs.Prelude.{map}
use Rattle.std.proofs.lemmas.List.{map-append}
use Rattle.leveldb_env.specs.Options.{Boxed, OptionsOf}
use Rattle.leveldb_env.specs.declared.env.Env.{Ghosts}
use Rattle.leveldb_files.specs.Stores.Format.{Format}
use Rattle.rusty_leveldb.specs.Engines.Boxes.{EngineOf, InternalOrder}
use Rattle.rusty_leveldb.specs.Engines.Engine.{Answers}
use Rattle.rusty_leveldb.specs.declared.shell.commands.Command.{Command}
use Rattle.rusty_leveldb.specs.declared.shell.commands.Reply.{Reply}
use Rattle.rusty_leveldb.specs.Machines.State.{Answer, Request, Snapshot}
use Rattle.rusty_leveldb.specs.Programs.Shell.{request_of, IsReplyOf, given_by, Turn, IsTurn, AreTurns, AreAsked}

-- One command over an engine, after these snapshots were given out: it becomes a request, whose
-- answer the reply tells; and those that were given out then.
pub record AnswersCommand {E C FP F : Type 0} {B : Boxed} (keys : InternalOrder C)
    (env : Ghosts E F) (formats : OptionsOf C FP B → Format) (before : EngineOf E C FP F B)
    (from : E)
    (taken : List Snapshot) (command : Command) (reply : Reply) (after : EngineOf E C FP F B)
    (to : E) (left : List Snapshot) : Type 0 where
  pub answer : Answer
  pub tells : IsReplyOf taken reply answer
  pub left_is : left ≡ taken ++ given_by answer
  pub step : Answers keys env formats (Some before) from (request_of taken command) answer
      (Some after) to

-- the snapshots that turns gave out
abbrev pub given_out : List Turn → List Snapshot
given_out [] = []
given_out (turn ∷ turns) = given_by turn.answer ++ given_out turns

-- the requests of turns
abbrev pub requests_in : List Turn → List Request
requests_in turns = map (λ (turn : Turn). turn.request) turns

-- their answers
abbrev pub answers_in : List Turn → List Answer
answers_in turns = map (λ (turn : Turn). turn.answer) turns

-- these turns are of these commands and replies, and gave out these snapshots
pub record AreTurnsOf (turns : List Turn) (commands : List Command) (replies : List Reply)
    (taken : List Snapshot) : Type 0 where
  pub follow : AreTurns [] turns
  pub commands_are : map (λ (turn : Turn). turn.command) turns ≡ commands
  pub replies_are : map (λ (turn : Turn). turn.reply) turns ≡ replies
  pub taken_are : given_out turns ≡ taken

-- one turn more
turns_more : (taken : List Snapshot) (turns : List Turn) (turn : Turn) → AreTurns taken turns
    → IsTurn (taken ++ given_out turns) turn → AreTurns taken (turns ++ turn ∷ [])
turns_more taken [] turn are is = (subst (λ t. IsTurn t turn) (append-nil taken) is, tt)
turns_more taken (first ∷ turns) turn are is = (
  are.0,
  turns_more (taken ++ given_by first.answer) turns turn are.1 (subst (λ t. IsTurn t turn)
      (sym (append_assoc taken (given_by first.answer) (given_out turns))) is),
)

given_more : (turns : List Turn) (turn : Turn)
    → given_out (turns ++ turn ∷ []) ≡ given_out turns ++ given_by turn.answer
given_more [] turn = append-nil (given_by turn.answer)
given_more (first ∷ turns) turn =
    ap (λ (l : List Snapshot). given_by first.answer ++ l) (given_more turns turn)
    ∙ sym (append_assoc (given_by first.answer) (given_out turns) (given_by turn.answer))

-- the turn of a command
abbrev pub turn_of : List Snapshot → Command → Answer → Reply → Turn
turn_of taken command answer reply = record {
  command = command;
  request = request_of taken command;
  answer = answer;
  reply = reply;
}

pub turns_of_none : AreTurnsOf [] [] [] []
turns_of_none = record { follow = tt; commands_are = refl; replies_are = refl; taken_are = refl }

pub turns_of_more : (turns : List Turn) (commands : List Command) (replies : List Reply)
    (taken left : List Snapshot) (command : Command) (answer : Answer) (reply : Reply)
    → AreTurnsOf turns commands replies taken → IsReplyOf taken reply answer
    → left ≡ taken ++ given_by answer
    → AreTurnsOf (turns ++ turn_of taken command answer reply ∷ []) (commands ++ command ∷ [])
    (replies ++ reply ∷ []) left
turns_of_more turns commands replies taken left command answer reply are tells left_is =
    let turn : Turn = turn_of taken command answer reply in
    let is : IsTurn taken turn = (refl, tells) in
    record {
      follow = turns_more [] turns turn are.follow
          (subst (λ t. IsTurn t turn) (sym are.taken_are) is);
      commands_are = map-append (λ (t : Turn). t.command) turns (turn ∷ [])
          ∙ ap (λ cs. cs ++ command ∷ []) are.commands_are;
      replies_are = map-append (λ (t : Turn). t.reply) turns (turn ∷ [])
          ∙ ap (λ rs. rs ++ reply ∷ []) are.replies_are;
      taken_are = given_more turns turn ∙ ap (λ l. l ++ given_by answer) are.taken_are
          ∙ sym left_is;
    }

pub turns_asked : (turns : List Turn) (commands : List Command) (replies : List Reply)
    (taken : List Snapshot) → AreTurnsOf turns commands replies taken
    → AreAsked commands replies (requests_in turns) (answers_in turns)
turns_asked turns commands replies taken are = record {
  turns = turns;
  follow = are.follow;
  commands_are = are.commands_are;
  replies_are = are.replies_are;
  requests_are = refl;
  answers_are = refl;
}

-- what the requests and answers of one turn more are
pub requests_more : (turns : List Turn) (turn : Turn)
    → requests_in turns ++ turn.request ∷ [] ≡ requests_in (turns ++ turn ∷ [])
requests_more turns turn = sym (map-append (λ (t : Turn). t.request) turns (turn ∷ []))

pub answers_more : (turns : List Turn) (turn : Turn)
    → answers_in turns ++ turn.answer ∷ [] ≡ answers_in (turns ++ turn ∷ [])
answers_more turns turn = sym (map-append (λ (t : Turn). t.answer) turns (turn ∷ []))
