-- One life of a store: its opening, its commands one after another, and its end.
use Rattle.std.proofs.Common.{◌≡◌, ◌-◌, ℕ, List, [], ◌∷◌, ◌++◌, sym, ◌∙◌, ap, subst, Some, None, Ok, Err, IsTrue}
use Rattle.std.specs.Prelude.{map, OnErr, OnOk}
use Rattle.std.proofs.lemmas.List.{map-append}
use Rattle.leveldb_base.specs.declared.error.Status.{Status}
use Rattle.leveldb_env.specs.declared.env.Env.{Ghosts}
use Rattle.rusty_leveldb.specs.declared.shell.commands.Command.{Command}
use Rattle.rusty_leveldb.specs.declared.shell.commands.Reply.{Reply}
use Rattle.rusty_leveldb.specs.declared.shell.crash_runs.Report.{Report}
use Rattle.rusty_leveldb.specs.Machines.State.{State, Snapshot, Opening, open_store, abandon, Answer, done, refused}
use Rattle.rusty_leveldb.specs.Engines.Serves.{Represents, refusal_of}
use Rattle.rusty_leveldb.specs.Engines.Engine.{Recalls, Answers, IsOpening, no_engine}
use Rattle.rusty_leveldb.specs.Programs.Shell.{AreAsked, Turn}
use Rattle.rusty_leveldb.proofs.Programs.Turns.{AnswersCommand, AreTurnsOf, requests_in, answers_in, turn_of, turns_of_none, turns_of_more, turns_asked, requests_more, answers_more}
use Rattle.rusty_leveldb.specs.Programs.Lives.{requests_of, answers_of, moments_of, IsAlwaysLife}
use Rattle.rusty_leveldb.proofs.Programs.Playing.{LeadsAt, OnlyNow, OpensAs, no_other, first_at, next_one, at_none}
use Rattle.leveldb_env.specs.Options.{Boxed, OptionsOf}
use Rattle.rusty_leveldb.specs.Engines.Boxes.{EngineOf, InternalOrder}
use Rattle.leveldb_files.specs.Stores.Format.{Format, Meaning, Agrees}

-- the moments of replies, from a life's start
abbrev pub Given : ℕ → List (ℕ × Reply) → List ℕ → Type 0
Given start replies moments = map (λ (reply : ℕ × Reply). reply.0) replies ≡ map (λ moment. moment - start) moments

pub given_more : (start : ℕ) (replies : List (ℕ × Reply)) (moments : List ℕ) (moment told : ℕ) (reply : Reply) → Given start replies moments → told ≡ moment - start → Given start (replies ++ (told, reply) ∷ []) (moments ++ moment ∷ [])
given_more start replies moments moment told reply given is = map-append (λ (r : ℕ × Reply). r.0) replies ((told, reply) ∷ [])
    ∙ ap (λ ms. ms ++ told ∷ []) given ∙ ap (λ t. map (λ m. m - start) moments ++ t ∷ []) is ∙ sym (map-append (λ m. m - start) moments (moment ∷ []))

module _ {E F : Type 0} {B : Boxed} (C FP : Type 0) (keys : InternalOrder C) (env : Ghosts E F) (formats : OptionsOf C FP B → Format) (store : List ℕ) where
  -- so far the store was opened and these commands were given these replies
  abbrev pub LivesSoFar : E → Opening → List Command → List (ℕ × Reply) → List Snapshot → List ℕ → EngineOf E C FP F B → E → Type 0
  LivesSoFar from wanted commands replies taken given engine to = (opening : Opening) → IsOpening store wanted opening
      → (meaning : Meaning) → Agrees opening.format meaning → (old : State) → Represents store meaning (Recalls keys env formats store meaning) None (env.observed from).disk old
      → (first : ℕ) × (turns : List Turn) × AreTurnsOf turns commands (map (λ (reply : ℕ × Reply). reply.1) replies) taken
      × LeadsAt C FP keys env formats store meaning from (open_store opening ∷ requests_in turns) (done ∷ answers_in turns) (first ∷ given) (Some engine) to old

module _ {E F : Type 0} {B : Boxed} (C FP : Type 0) (keys : InternalOrder C) (env : Ghosts E F) (formats : OptionsOf C FP B → Format) (only_now : OnlyNow env) (modelled : IsTrue env.models_disk) (store : List ℕ) where
  pub lives_first : (from to : E) (wanted : Opening) (engine : EngineOf E C FP F B) → OpensAs C FP keys env formats store from wanted done (Some engine) to → LivesSoFar C FP keys env formats store from wanted [] [] [] [] engine to
  lives_first from to wanted engine opens opening is meaning agrees old represents = ((env.observed to).moment, [], turns_of_none, first_at keys env formats only_now store meaning modelled from to (Some engine) (open_store opening) done old represents (opens opening is meaning agrees))

  pub lives_more : (from mid to : E) (wanted : Opening) (commands : List Command) (replies : List (ℕ × Reply)) (taken left : List Snapshot) (given : List ℕ) (engine after : EngineOf E C FP F B) (command : Command) (told : ℕ) (reply : Reply)
      → LivesSoFar C FP keys env formats store from wanted commands replies taken given engine mid → AnswersCommand keys env formats engine mid taken command reply after to left
      → LivesSoFar C FP keys env formats store from wanted (commands ++ command ∷ []) (replies ++ (told, reply) ∷ []) left (given ++ (env.observed to).moment ∷ []) after to
  lives_more from mid to wanted commands replies taken left given engine after command told reply lives answered opening is meaning agrees old represents =
      let led = lives opening is meaning agrees old represents in
      let turns = led.1 in
      let turn : Turn = turn_of taken command answered.answer reply in
      let next = next_one keys env formats only_now store meaning modelled None from mid to (open_store opening ∷ requests_in turns) (done ∷ answers_in turns) (led.0 ∷ given) (Some engine) (Some after)
      turn.request turn.answer old led.3 (answered.step store meaning) in (
        led.0,
        turns ++ turn ∷ [],
        subst (λ rs. AreTurnsOf (turns ++ turn ∷ []) (commands ++ command ∷ []) rs left) (sym (map-append (λ (r : ℕ × Reply). r.1) replies ((told, reply) ∷ [])))
            (turns_of_more turns commands (map (λ (r : ℕ × Reply). r.1) replies) taken left command answered.answer reply led.2 answered.tells answered.left_is),
        subst (λ as'. LeadsAt C FP keys env formats store meaning from (open_store opening ∷ requests_in (turns ++ turn ∷ [])) (done ∷ as') (led.0 ∷ (given ++ (env.observed to).moment ∷ [])) (Some after) to old) (answers_more turns turn)
            (subst (λ rs. LeadsAt C FP keys env formats store meaning from (open_store opening ∷ rs) (done ∷ (answers_in turns ++ turn.answer ∷ [])) (led.0 ∷ (given ++ (env.observed to).moment ∷ [])) (Some after) to old) (requests_more turns turn) next),
      )

  -- the life ends
  pub lives_end : (from mid to : E) (wanted : Opening) (commands : List Command) (taken : List Snapshot) (given : List ℕ) (engine : EngineOf E C FP F B) (ending : Answer) (report : Report) → report.opened ≡ Ok tt
      → Given (env.observed from).moment report.replies.items given → LivesSoFar C FP keys env formats store from wanted commands report.replies.items taken given engine mid → Answers keys env formats (Some engine) mid abandon ending None to
      → IsAlwaysLife env store from wanted commands report to
  lives_end from mid to wanted commands taken given engine ending report opened told lives answers_so opening is meaning agrees old represents =
      let led = lives opening is meaning agrees old (no_other (env.observed from).disk old represents) in
      let start = (env.observed from).moment in
      let replies = report.replies.items in
      let requests = requests_in led.1 in
      let answers = answers_in led.1 in
      let next = next_one keys env formats only_now store meaning modelled None from mid to (open_store opening ∷ requests) (done ∷ answers) (led.0 ∷ given) (Some engine) None
      abandon ending old led.3 (answers_so store meaning) in
      let are_asked = turns_asked led.1 commands (map (λ (r : ℕ × Reply). r.1) replies) taken led.2 in
      record {
        requests = open_store opening ∷ (requests ++ abandon ∷ []);
        answers = done ∷ (answers ++ ending ∷ []);
        moments = led.0 ∷ (given ++ (env.observed to).moment ∷ []);
        reported = record {
          first = led.0 - start;
          last = (env.observed to).moment - start;
          ending = ending;
          asked = requests;
          told = answers;
          are_asked = subst (λ o. OnOk o (AreAsked commands (map (λ (r : ℕ × Reply). r.1) replies) requests answers)) (sym opened) are_asked;
          requests_are = ap (λ o. requests_of opening requests o) (sym opened);
          answers_are = ap (λ o. answers_of o answers ending) (sym opened);
          moments_are = ap (λ ms. (led.0 - start) ∷ ms) (map-append (λ m. m - start) given ((env.observed to).moment ∷ []) ∙ ap (λ ms. ms ++ ((env.observed to).moment - start) ∷ []) (sym told))
              ∙ ap (λ o. moments_of o replies (led.0 - start) ((env.observed to).moment - start)) (sym opened);
          no_replies = subst (λ o. OnErr o (replies ≡ [])) (sym opened) tt;
        };
        run = at_none C FP keys env formats only_now store meaning from (open_store opening ∷ (requests ++ abandon ∷ [])) (done ∷ (answers ++ ending ∷ []))
            (led.0 ∷ (given ++ (env.observed to).moment ∷ [])) to old next;
      }

  -- the store wasn't opened
  pub not_lived : (options : OptionsOf C FP B) (from to : E) (wanted : Opening) (commands : List Command) (report : Report) (status : Status) → report.opened ≡ Err status → report.replies.items ≡ []
      → OpensAs C FP keys env formats store from wanted (refused (refusal_of status)) (no_engine options) to → IsAlwaysLife env store from wanted commands report to
  not_lived options from to wanted commands report status opened none opens opening is meaning agrees old represents =
      let start = (env.observed from).moment in
      let last = (env.observed to).moment in
      record {
        requests = open_store opening ∷ [];
        answers = refused (refusal_of status) ∷ [];
        moments = last ∷ [];
        reported = record {
          first = last - start;
          last = last - start;
          ending = done;
          asked = [];
          told = [];
          are_asked = subst (λ o. OnOk o (AreAsked commands (map (λ (r : ℕ × Reply). r.1) report.replies.items) [] [])) (sym opened) tt;
          requests_are = ap (λ o. requests_of opening [] o) (sym opened);
          answers_are = ap (λ o. answers_of o [] done) (sym opened);
          moments_are = ap (λ o. moments_of o report.replies.items (last - start) (last - start)) (sym opened);
          no_replies = subst (λ o. OnErr o (report.replies.items ≡ [])) (sym opened) none;
        };
        run = at_none C FP keys env formats only_now store meaning from (open_store opening ∷ []) (refused (refusal_of status) ∷ []) (last ∷ []) to old
            (first_at keys env formats only_now store meaning modelled from to (no_engine options) (open_store opening) (refused (refusal_of status)) old (no_other (env.observed from).disk old represents) (opens opening is meaning agrees));
      }
