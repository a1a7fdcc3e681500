-- What the report of a life says is a story of the headline, since the life is a run of the machine.
use Rattle.std.proofs.Common.{◌≡◌, ◌≤◌, ◌+◌, ◌-◌, ⊎_elim, inl, inr, ℕ, suc, Bool, true, false, List, [], ◌∷◌, ◌++◌, refl, sym, ◌∙◌, ap, subst, arith, Option, Some, None, Result, Ok, Err, IsTrue}
use Rattle.std.specs.Prelude.{◌↔◌, ◌⊎◌, All, map, OnOk}
use Rattle.std.specs.declared.cmp.Ordering.{Ordering}
use Rattle.std.proofs.lemmas.List.Elements.{All-append, All-cons, All-head, All-nil, All-tail}
use Rattle.leveldb_base.specs.declared.error.Status.{Status}
use Rattle.leveldb_env.specs.Env.{Disk}
use Rattle.leveldb_env.specs.declared.env.Env.{Ghosts}
use Rattle.leveldb_files.specs.Stores.Format.{Agrees, Meaning}
use Rattle.rusty_leveldb.specs.declared.shell.commands.Command.{Command}
use Rattle.rusty_leveldb.specs.declared.shell.commands.Command.TheVariants as command
use Rattle.rusty_leveldb.specs.declared.shell.commands.Reply.{Reply}
use Rattle.rusty_leveldb.specs.declared.shell.crash_runs.Report.{Report}
use Rattle.rusty_leveldb.specs.Engines.Engine.{IsStoreName, scene}
use Rattle.rusty_leveldb.specs.Engines.Serves.{IsConversation, Runs, StandsFor, recalls_nothing, refusal_of}
use Rattle.rusty_leveldb.specs.Engines.Witness.{stored}
use Rattle.rusty_leveldb.specs.Headline.{StoryEvent, UserStore, crash, IsStory}
use Rattle.rusty_leveldb.specs.Machines.Runs as machine
use Rattle.rusty_leveldb.specs.Machines.Shown.{IsOpenedIn, IsShownAs}
use Rattle.rusty_leveldb.specs.Machines.State.{Answer, IsState, Opening, Request, Snapshot, State, abandon, closed, done, open_store, refused}
use Rattle.rusty_leveldb.specs.Programs.Lives.{IsAlwaysLife, IsLife, answers_of, ending_of, requests_of, with_name}
use Rattle.rusty_leveldb.specs.Programs.Shell.{AreAsked, AreTurns, Turn, given_by, request_of}
use Rattle.rusty_leveldb.specs.Programs.Story.{IsLeftAt, IsLifeStory, IsLifeTold, LeadsTo, SaysLived}
use Rattle.rusty_leveldb.specs.Says.{Place}
use Rattle.rusty_leveldb.proofs.Headline.OwnLemmas.{IsOpening, OpensFirst, first_told, run_above}
use Rattle.rusty_leveldb.proofs.Headline.StoryLemmas.{both_told, cut_told}
use Rattle.rusty_leveldb.proofs.Machines.RunsLemmas.{all_front}
use Rattle.rusty_leveldb.proofs.Programs.LifeStories.{TellsOwnLife, life_story}
use Rattle.rusty_leveldb.proofs.Programs.StoreNames.{named, opens_so}

-- what holds of all that a list is mapped to
pub all_mapped : {A B : Type 0} (P : B → Type 0) (f : A → B) (xs : List A) → All P (map f xs)
    → All (λ x. P (f x)) xs
all_mapped P f [] all = All-nil (λ x. P (f x))
all_mapped P f (x ∷ xs) all = All-cons (λ x. P (f x)) x xs (All-head P (f x) (map f xs) all)
    (all_mapped P f xs (All-tail P (f x) (map f xs) all))

-- ---- no command is an opening

module _ (order : List ℕ → List ℕ → Ordering) where
  command_opened : (taken : List Snapshot) (one : Command) → IsOpenedIn order (request_of taken one)
  command_opened taken (command.Put key value) = tt
  command_opened taken (command.Delete key) = tt
  command_opened taken (command.Write sync items) = tt
  command_opened taken (command.Get key) = tt
  command_opened taken command.Snap = tt
  command_opened taken (command.GetAt number key) = tt
  command_opened taken (command.Release number) = tt
  command_opened taken (command.Walk at moves) = tt
  command_opened taken (command.Compact from to) = tt
  command_opened taken command.Flush = tt
  command_opened taken command.Close = tt

  turns_opened : (taken : List Snapshot) (turns : List Turn) → AreTurns taken turns
      → All (IsOpenedIn order) (map (λ turn. turn.request) turns)
  turns_opened taken [] follow = All-nil (IsOpenedIn order)
  turns_opened taken (turn ∷ turns) follow =
      All-cons (IsOpenedIn order) turn.request (map (λ (t : Turn). t.request) turns)
      (subst (IsOpenedIn order) (sym follow.0.0) (command_opened taken turn.command))
      (turns_opened (taken ++ given_by turn.answer) turns follow.1)

  -- a life asks for one opening
  pub requests_opened : (opening : Opening) (asked : List Request) (opened : Result (Unit {0}) Status)
      (commands : List Command) (replies : List Reply) (told : List Answer)
      → opening.format.order ≡ order → OnOk opened (AreAsked commands replies asked told)
      → All (IsOpenedIn order) (requests_of opening asked opened)
  requests_opened opening asked (Ok opened) commands replies told e are =
      All-cons (IsOpenedIn order) (open_store opening) (asked ++ abandon ∷ []) e
      (All-append (IsOpenedIn order) asked (abandon ∷ [])
      (subst (All (IsOpenedIn order)) are.requests_are (turns_opened [] are.turns are.follow))
      (All-cons (IsOpenedIn order) abandon [] tt (All-nil (IsOpenedIn order))))
  requests_opened opening asked (Err status) commands replies told e are =
      All-cons (IsOpenedIn order) (open_store opening) [] e (All-nil (IsOpenedIn order))

-- ---- only the first event opens the store

none_opens : (taken : List Snapshot) (one : Command) → IsOpening (request_of taken one) → ⊥
none_opens taken (command.Put key value) is = is
none_opens taken (command.Delete key) is = is
none_opens taken (command.Write sync items) is = is
none_opens taken (command.Get key) is = is
none_opens taken command.Snap is = is
none_opens taken (command.GetAt number key) is = is
none_opens taken (command.Release number) is = is
none_opens taken (command.Walk at moves) is = is
none_opens taken (command.Compact from to) is = is
none_opens taken command.Flush is = is
none_opens taken command.Close is = is

turns_open_none : (taken : List Snapshot) (turns : List Turn) → AreTurns taken turns
    → All (λ request. IsOpening request → ⊥) (map (λ turn. turn.request) turns)
turns_open_none taken [] follow = All-nil (λ (request : Request). IsOpening request → ⊥)
turns_open_none taken (turn ∷ turns) follow =
    All-cons (λ (request : Request). IsOpening request → ⊥) turn.request
    (map (λ (t : Turn). t.request) turns)
    (λ is. none_opens taken turn.command (subst IsOpening follow.0.0 is))
    (turns_open_none (taken ++ given_by turn.answer) turns follow.1)

pub asked_open_none : (commands : List Command) (replies : List Reply) (asked : List Request)
    (told : List Answer) → AreAsked commands replies asked told
    → All (λ request. IsOpening request → ⊥) (asked ++ abandon ∷ [])
asked_open_none commands replies asked told are =
    All-append (λ (request : Request). IsOpening request → ⊥) asked (abandon ∷ [])
    (subst (All (λ (request : Request). IsOpening request → ⊥)) are.requests_are
    (turns_open_none [] are.turns are.follow))
    (All-cons (λ (request : Request). IsOpening request → ⊥) abandon [] (λ is. is)
    (All-nil (λ (request : Request). IsOpening request → ⊥)))

-- a list that is mapped to none has none
none_mapped : {A B : Type 0} (f : A → B) (xs : List A) → map f xs ≡ [] → xs ≡ []
none_mapped f [] none = refl
none_mapped f (x ∷ xs) none = absurd (cc)

pub opens_first : (opening : Opening) (rest : List Request) (answer : Answer)
    (others : List Answer) (events : List machine.Event)
    → map (λ (event : machine.Event). event.request) events ≡ open_store opening ∷ rest
    → map (λ (event : machine.Event). event.answer) events ≡ answer ∷ others
    → All (λ request. IsOpening request → ⊥) rest → (answer ≡ done) ⊎ (rest ≡ [])
    → OpensFirst events
opens_first opening rest answer others [] are told none ends = tt
opens_first opening rest answer others (event ∷ events) are told none ends =
    let first : event.request ≡ open_store opening = cc in
    let later : map (λ (event : machine.Event). event.request) events ≡ rest = cc in
    let answered : event.answer ≡ answer = cc in (
      (opening, first),
      all_mapped (λ (request : Request). IsOpening request → ⊥)
          (λ (event : machine.Event). event.request) events
          (subst (All (λ (request : Request). IsOpening request → ⊥)) (sym later) none),
      ⊎_elim (λ is_done. inl (answered ∙ is_done))
          (λ nothing. inr (none_mapped (λ (event : machine.Event). event.request) events
          (later ∙ nothing))) ends,
    )

-- so it is in a life
pub life_opens_first : (opening : Opening) (asked : List Request) (opened : Result (Unit {0}) Status)
    (commands : List Command) (replies : List Reply) (told : List Answer) (ending : Answer)
    (events : List machine.Event) → OnOk opened (AreAsked commands replies asked told)
    → map (λ (event : machine.Event). event.request) events ≡ requests_of opening asked opened
    → map (λ (event : machine.Event). event.answer) events ≡ answers_of opened told ending
    → OpensFirst events
life_opens_first opening asked (Ok opened) commands replies told ending events are is answered =
    opens_first opening (asked ++ abandon ∷ []) done (told ++ ending ∷ []) events is answered
    (asked_open_none commands replies asked told are) (inl refl)
life_opens_first opening asked (Err status) commands replies told ending events are is answered =
    opens_first opening [] (refused (refusal_of status)) [] events is answered
    (All-nil (λ (request : Request). IsOpening request → ⊥)) (inr refl)

-- ---- lives, each event told by its own number

-- a store is closed after a crash
pub closed_then : (meaning : Meaning) (last_answer moment : ℕ) (inside : Bool) (failures : ℕ)
    (state : State) (undone : List machine.Event) (end : ℕ) (last new : State)
    → machine.CrashBefore meaning last_answer moment inside failures state undone end last new
    → new.mode ≡ closed
closed_then meaning last_answer moment inside failures state [] end last new cut =
    ap (λ (s : State). s.mode) cut.2.state
closed_then meaning last_answer moment inside failures state (next ∷ later) end last new cut =
    ⊎_elim (λ none. ap (λ (s : State). s.mode) none.2.state)
    (λ some. ap (λ (s : State). s.mode) some.1.state) cut.4

module _ (cmp : List ℕ → List ℕ → Ordering) (meaning : Meaning) where
  -- what came about in a life, up to this state
  record IsOwnLife (events : List machine.Event) (ending : machine.Ending) (store : UserStore)
      (last : State) : Type 0 where
    pub told : List StoryEvent
    pub next : UserStore
    pub tells : TellsOwnLife events ending told
    pub story : IsStory cmp store told next
    pub shown : IsShownAs last next

  own_life : (ending : machine.Ending) (events : List machine.Event) (start before after : ℕ)
      (old new : State) (store : UserStore) → IsState old → IsShownAs old store
      → OpensFirst events → All (λ event. IsOpenedIn cmp event.request) events
      → machine.LifeLeads meaning start before old events ending after new
      → IsOwnLife events ending store new
  own_life machine.goes_on events start before after old new store is shown first opened leads =
      let run = first_told cmp meaning events before after old new store is shown first opened
      leads in
      record {
        told = run.told;
        next = run.next;
        tells = (run.tells, run.own);
        story = run.story;
        shown = run.shown;
      }
  own_life (machine.crashes moment inside counted) events start before after old new store is shown
      first opened leads =
      let stops = leads.0.2 in
      let run = first_told cmp meaning stops.done before stops.failures old stops.state store is
      shown (first_front stops.done stops.undone (subst OpensFirst stops.split first))
      (all_front (λ (e : machine.Event). IsOpenedIn cmp e.request) stops.done stops.undone
      (subst (All (λ (e : machine.Event). IsOpenedIn cmp e.request)) stops.split opened))
      stops.run in
      let cut = cut_told cmp meaning stops.undone (machine.last_moment start stops.done) moment
      inside stops.failures leads.0.0 stops.state leads.0.1 new run.next run.is run.shown
      stops.crash in
      record {
        told = run.told ++ crash cut.cut ∷ [];
        next = cut.told.left;
        tells = (
          record {
            done = stops.done;
            undone = stops.undone;
            split = stops.split;
            by_then = stops.by_then;
            not_yet = stops.not_yet;
            before = run.told;
            answers = run.tells;
            cut = cut.cut;
            is_cut = cut.is_cut;
            told_is = refl;
          },
          run.own,
        );
        story = both_told cmp run.told (crash cut.cut ∷ []) store run.next cut.told.left run.story
            (cut.told.left, cut.told.row, refl);
        shown = cut.told.shown;
      }
    where
      none_front : (front back : List machine.Event) → front ++ back ≡ [] → front ≡ []
      none_front [] back none = refl
      none_front (event ∷ front) back none = absurd (cc)

      first_front : (front back : List machine.Event) → OpensFirst (front ++ back)
          → OpensFirst front
      first_front [] back is = tt
      first_front (event ∷ front) back is = (
        is.0,
        all_front (λ (e : machine.Event). IsOpening e.request → ⊥) front back is.1,
        ⊎_elim (λ is_done. inl is_done) (λ none. inr (none_front front back none)) is.2,
      )

-- ---- a run of the machine, from a store that a disk holds

module _ {E F : Type 0} (env : Ghosts E F) (name : List ℕ) (meaning : Meaning)
    (order : List ℕ → List ℕ → Ordering) (from to : E) (requests : List Request)
    (answers : List Answer) (moments : List ℕ) (old : State) (store : UserStore)
    (is : IsState old) (shown : IsShownAs old store)
    (run : Runs name meaning recalls_nothing env.models_moments (scene env None from) requests
    answers moments (scene env None to) old)
    (first : OpensFirst run.events)
    (opened : All (λ event. IsOpenedIn order event.request) run.events) where
  abbrev place : Place
  place = record { name = name; meaning = meaning }

  -- what came about in it, if it ended so, leads to what the disk holds
  pub record IsToldTo (ending : machine.Ending) (disk : Disk) : Type 0 where
    pub told : List StoryEvent
    pub tells : TellsOwnLife run.events ending told
    pub leads : LeadsTo stored place order store told disk

  pub all_told : IsToldTo machine.goes_on (env.observed to).disk
  all_told =
      let own = own_life order meaning machine.goes_on run.events (env.observed from).moment
      (env.failures from) (env.failures to) old run.new store is shown first opened run.run in
      record {
        told = own.told;
        tells = own.tells;
        leads = (
          own.next,
          own.story,
          (run.new, run.represents.disk_is, run.represents.memory_is, own.shown),
        );
      }

  -- and so does what came about before a crash
  pub crash_told : (moment : ℕ) (left : Disk) → (env.observed from).moment ≤ moment
      → IsLeftAt stored name (env.observed to) moment left
      → IsToldTo (machine.crashes moment true 0) left
  crash_told moment left since at =
      let stops = run.stops moment true at.files left since (record {
        come = at.come;
        stood = at.stood;
        leaves = at.is_left.crashes;
        honest = at.is_left.honest;
        free = at.is_left.free;
      }) (λ never. absurd (let f : true ≡ false = never in cc)) in
      let start = (env.observed from).moment in
      let own = own_life order meaning (machine.crashes moment true 0) run.events start
      (env.failures from) 0 old stops.0 store is shown first opened
      ((env.failures to, run.new, stops.1), refl) in
      record {
        told = own.told;
        tells = own.tells;
        leads = (
          own.next,
          own.story,
          (
            stops.0,
            stops.2,
            closed_then meaning (machine.last_moment start stops.1.done) moment true
                stops.1.failures stops.1.state stops.1.undone (env.failures to) run.new stops.0
                stops.1.crash,
            own.shown,
          ),
        );
      }

-- ---- a life

-- moments that were counted from a start, counted from 0 again
pub moments_again : (start : ℕ) (events : List machine.Event)
    → All (λ event. start ≤ event.moment) events
    → map (λ m. start + m) (map (λ m. m - start) (map (λ (event : machine.Event). event.moment) events))
    ≡ map (λ (event : machine.Event). event.moment) events
moments_again start [] all = refl
moments_again start (event ∷ events) all =
    let low = all 0 event (omega arith) in
    let same : start + (event.moment - start) ≡ event.moment = omega (arith, low) in
    let rest = moments_again start events (λ k d lt. all (suc k) d (omega (arith, lt))) in
    λ i. same i ∷ rest i

module _ {E F : Type 0} (env : Ghosts E F) (name : List ℕ) (asked : Opening)
    (commands : List Command) (from : E) (report : Report) (to : E)
    (is_life : IsAlwaysLife env name from asked commands report to) (meaning : Meaning)
    (agrees : Agrees asked.format meaning) (old : State) (store : UserStore)
    (stands : StandsFor name meaning (env.observed from).disk old) (closed_so : old.mode ≡ closed)
    (shown : IsShownAs old store) where
  abbrev fits : (b : Bool) × (IsTrue b ↔ IsStoreName name)
  fits = named name

  abbrev opening : Opening
  opening = with_name fits.0 asked

  abbrev start : ℕ
  start = (env.observed from).moment

  pub lived : IsLife env name meaning from opening commands report to old
  lived = is_life opening (opens_so name fits.0 asked fits.1) meaning agrees old
      (record { disk_is = stands; memory_is = closed_so })

  abbrev from_start : List ℕ
  from_start = map (λ m. m - start) lived.moments

  -- its events, at moments that count from its start
  pub asked_again : IsConversation lived.requests lived.answers (map (λ m. start + m) from_start)
      lived.run.events
  asked_again = subst
      (λ ms. IsConversation lived.requests lived.answers ms lived.run.events)
      (sym (subst (λ ms. map (λ m. start + m) (map (λ m. m - start) ms) ≡ ms)
      lived.run.asked.moments_are (moments_again start lived.run.events lived.run.since)))
      lived.run.asked

  abbrev replies : List Reply
  replies = map (λ (reply : ℕ × Reply). reply.1) report.replies.items

  first : OpensFirst lived.run.events
  first = life_opens_first opening lived.reported.asked report.opened commands replies
      lived.reported.told lived.reported.ending lived.run.events lived.reported.are_asked
      (lived.run.asked.requests_are ∙ lived.reported.requests_are)
      (lived.run.asked.answers_are ∙ lived.reported.answers_are)

  opened : All (λ event. IsOpenedIn asked.format.order event.request) lived.run.events
  opened = all_mapped (IsOpenedIn asked.format.order) (λ (event : machine.Event). event.request)
      lived.run.events
      (subst (All (IsOpenedIn asked.format.order))
      (sym (lived.run.asked.requests_are ∙ lived.reported.requests_are))
      (requests_opened asked.format.order opening lived.reported.asked report.opened commands
      replies lived.reported.told refl lived.reported.are_asked))

  -- what came about up to its end or its crash is what its report says
  reported : (moment : Option ℕ) (told : List StoryEvent)
      → TellsOwnLife lived.run.events (ending_of start moment) told
      → IsLifeStory commands moment report told
  reported moment told = life_story opening commands report start lived.requests lived.answers
      from_start lived.run.events lived.reported asked_again
      (run_above meaning lived.run.events (env.failures from) (env.failures to) old lived.run.new
      lived.run.run) moment told

  pub life_told : IsLifeTold env stored (record { name = name; meaning = meaning })
      asked.format.order store commands from report to
  life_told =
      let all = all_told env name meaning asked.format.order from to lived.requests lived.answers
      lived.moments old store stands.is_state shown lived.run first opened in
      record {
        leads = (all.told, reported None all.told all.tells, all.leads);
        crashes = λ moment left at.
            let told = crash_told env name meaning asked.format.order from to lived.requests
            lived.answers lived.moments old store stands.is_state shown lived.run first opened
            (start + moment) left (omega arith) at in
            (told.told, reported (Some moment) told.told told.tells, told.leads);
      }

-- so it is from each store that the disk held
pub says_lived : {E F : Type 0} (env : Ghosts E F) (name : List ℕ) (asked : Opening)
    (commands : List Command) (from : E) (report : Report) (to : E)
    → IsAlwaysLife env name from asked commands report to
    → SaysLived env stored name asked.format commands from report to
says_lived env name asked commands from report to is_life meaning agrees store held =
    life_told env name asked commands from report to is_life meaning agrees held.0 store held.1
    held.2 held.3
