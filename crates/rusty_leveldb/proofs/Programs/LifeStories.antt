-- What is told of the lives of a machine is the story of their reports.
use Rattle.std.proofs.Common.{◌≡◌, ◌≤◌, ◌<◌, ◌+◌, ◌-◌, ◌⊎◌, ⊎_elim, inr, ℕ, List, [], ◌∷◌, ◌++◌, refl, sym, ◌∙◌, ap, subst, arith, Option, Some, None, Ok, Err, All, Contains}
use Rattle.std.specs.Prelude.{map, Result, OnOk, OnErr}
use Rattle.std.proofs.lemmas.List.Elements.{All-nil, All-cons, All-head, All-tail, Contains-append_cases}
use Rattle.leveldb_base.proofs.HistoryLemmas.{in_none}
use Rattle.leveldb_base.specs.declared.error.Status.{Status}
use Rattle.rusty_leveldb.specs.declared.shell.commands.Command.{Command}
use Rattle.rusty_leveldb.specs.declared.shell.commands.Reply.{Reply}
use Rattle.rusty_leveldb.specs.declared.shell.crash_runs.Report.{Report}
use Rattle.rusty_leveldb.specs.Headline as headline
use Rattle.rusty_leveldb.specs.Headline.{Batch, Pair, Why, CallOutcome, StoryEvent, returned, crash}
use Rattle.rusty_leveldb.specs.Machines.State.{Opening, Snapshot, Request, open_store, write, get, walk, get_snapshot, release_snapshot, flush, compact_range, close, abandon, Landing, stands_on, nowhere, move_refused, Answer, done, found, walked, snapshot, refused}
use Rattle.rusty_leveldb.specs.Machines.Runs.{Event, Ending, goes_on, crashes}
use Rattle.rusty_leveldb.specs.Machines.Shown.{call_of, IsCallOf, IsResultOf, AreResultsOf, IsOutcomeOf, TellsEvents, written_by, IsWriteCutShort, TellsCrash}
use Rattle.rusty_leveldb.specs.Engines.Serves.{IsConversation, refusal_of}
use Rattle.rusty_leveldb.specs.Programs.Lives.{requests_of, answers_of, moments_of, IsReportOf, ending_of}
use Rattle.rusty_leveldb.specs.Programs.Shell.{AreAsked, AreTurns, Turn, given_by, request_of}
use Rattle.rusty_leveldb.specs.Programs.Story.{AreCalled, AreCutShort, AreEventsOf, AreEventsOfLife, AreMomentsOf, IsCutShort, AreEventsUntil, IsLifeStory}
use Rattle.rusty_leveldb.proofs.Headline.OwnLemmas.{AreOwn, GivesAbove}
use Rattle.rusty_leveldb.proofs.Programs.CallsMade.{AreAbove, numbers, call_for, reply_for, refused_with, numbers_then}

-- ---- a run

-- the commands after the opening, up to `abandon`
pub rest_is : (taken : List Snapshot) (turns : List Turn) (ending : Answer) (events : List Event)
    (told : List StoryEvent) → AreTurns taken turns
    → map (λ (e : Event). e.request) events ≡ map (λ (t : Turn). t.request) turns ++ abandon ∷ []
    → map (λ (e : Event). e.answer) events ≡ map (λ (t : Turn). t.answer) turns ++ ending ∷ []
    → TellsEvents events told → AreOwn taken events told → AreAbove taken → All GivesAbove events
    → (middle : List StoryEvent) × (outcome : CallOutcome)
    × AreEventsOf (numbers taken) (map (λ (t : Turn). t.command) turns)
    (map (λ (t : Turn). t.reply) turns) middle
    × (told ≡ middle ++ returned headline.abandon outcome ∷ []) × IsOutcomeOf ending outcome
rest_is taken [] ending [] told follow requests answers tells own above all = absurd (cc)
rest_is taken [] ending (event ∷ next ∷ events) told follow requests answers tells own above all = absurd (cc)
rest_is taken [] ending (event ∷ []) [] follow requests answers tells own above all = absurd tells
rest_is taken [] ending (event ∷ []) (crash cut ∷ told) follow requests answers tells own above all =
    absurd tells
rest_is taken [] ending (event ∷ []) (returned call outcome ∷ one ∷ told) follow requests answers
    tells own above all = absurd tells.2
rest_is taken [] ending (event ∷ []) (returned call outcome ∷ []) follow requests answers tells own above all =
    let asked : event.request ≡ abandon = cc in
    let is : call ≡ headline.abandon = subst (λ r. IsCallOf r event.answer call) asked tells.0 in
    let answered : event.answer ≡ ending = cc in (
      [],
      outcome,
      refl,
      ap (λ c. returned c outcome ∷ []) is,
      subst (λ a. IsOutcomeOf a outcome) answered tells.1,
    )
rest_is taken (turn ∷ turns) ending [] told follow requests answers tells own above all = absurd (cc)
rest_is taken (turn ∷ turns) ending (event ∷ events) [] follow requests answers tells own above all = absurd tells
rest_is taken (turn ∷ turns) ending (event ∷ events) (crash cut ∷ told) follow requests answers
    tells own above all = absurd tells
rest_is taken (turn ∷ turns) ending (event ∷ events) (returned call outcome ∷ told) follow requests
    answers tells own above all =
    let asked : event.request ≡ turn.request = cc in
    let answered : event.answer ≡ turn.answer = cc in
    let later : map (λ (e : Event). e.request) events
    ≡ map (λ (t : Turn). t.request) turns ++ abandon ∷ [] = cc in
    let later_answers : map (λ (e : Event). e.answer) events
    ≡ map (λ (t : Turn). t.answer) turns ++ ending ∷ [] = cc in
    let call_is : IsCallOf (request_of taken turn.command) turn.answer call =
    subst (λ r. IsCallOf r turn.answer call) (asked ∙ follow.0.0)
    (subst (λ a. IsCallOf event.request a call) answered tells.0) in
    let outcome_is : IsOutcomeOf turn.answer outcome =
    subst (λ a. IsOutcomeOf a outcome) answered tells.1 in
    let own_later : AreOwn (taken ++ given_by turn.answer) events told =
    subst (λ a. AreOwn (taken ++ given_by a) events told) answered own.1 in
    let above_later : AreAbove (taken ++ given_by turn.answer) = λ one c. ⊎_elim
    (λ (a : Contains taken one). above one a)
    (λ (a : Contains (given_by turn.answer) one). All-head GivesAbove event events all one
    (subst (λ a. Contains (given_by a) one) (sym answered) a))
    (Contains-append_cases taken (given_by turn.answer) one c) in
    let rest = rest_is (taken ++ given_by turn.answer) turns ending events told follow.1 later
    later_answers tells.2 own_later above_later
    (All-tail GivesAbove event events all) in (
      returned call outcome ∷ rest.0,
      rest.1,
      (
        call_for taken turn.command turn.answer call above call_is
            (λ one e c. own.0 one (asked ∙ follow.0.0 ∙ e) c),
        reply_for taken turn.reply turn.answer outcome follow.0.1 outcome_is,
        subst (λ given. AreEventsOf given (map (λ (t : Turn). t.command) turns)
            (map (λ (t : Turn). t.reply) turns) rest.0)
            (numbers_then taken turn.answer outcome outcome_is) rest.2,
      ),
      ap (λ rest. returned call outcome ∷ rest) rest.3,
      rest.4,
    )

module _ (opening : Opening) (commands : List Command) (replies : List Reply)
    (asked : List Request) (given : List Answer) (ending : Answer) where
  -- a run whose opening was done
  pub called_is : (events : List Event) (told : List StoryEvent)
      → AreAsked commands replies asked given
      → map (λ (e : Event). e.request) events ≡ open_store opening ∷ (asked ++ abandon ∷ [])
      → map (λ (e : Event). e.answer) events ≡ done ∷ (given ++ ending ∷ [])
      → TellsEvents events told → AreOwn [] events told → All GivesAbove events
      → (outcome : CallOutcome) × AreCalled commands replies outcome told
      × IsOutcomeOf ending outcome
  called_is [] told are requests answers tells own all = absurd (cc)
  called_is (event ∷ events) [] are requests answers tells own all = absurd tells
  called_is (event ∷ events) (crash cut ∷ told) are requests answers tells own all = absurd tells
  called_is (event ∷ events) (returned call outcome ∷ told) are requests answers tells own all =
      let opens : event.request ≡ open_store opening = cc in
      let answered : event.answer ≡ done = cc in
      let later : map (λ (e : Event). e.request) events ≡ asked ++ abandon ∷ [] = cc in
      let later_answers : map (λ (e : Event). e.answer) events ≡ given ++ ending ∷ [] = cc in
      let call_is : call ≡ headline.open_store =
      subst (λ r. IsCallOf r event.answer call) opens tells.0 in
      let outcome_is : outcome ≡ headline.done =
      subst (λ a. IsOutcomeOf a outcome) answered tells.1 in
      let rest = rest_is [] are.turns ending events told are.follow
      (later ∙ ap (λ (rs : List Request). rs ++ abandon ∷ []) (sym are.requests_are))
      (later_answers ∙ ap (λ (answers : List Answer). answers ++ ending ∷ []) (sym are.answers_are))
      tells.2 (subst (λ a. AreOwn (given_by a) events told) answered own.1)
      (λ one there. absurd (in_none one there)) (All-tail GivesAbove event events all) in (
        rest.1,
        (
          rest.0,
          subst (λ cs. AreEventsOf [] cs replies rest.0) are.commands_are
              (subst (λ rs. AreEventsOf [] (map (λ (t : Turn). t.command) are.turns) rs rest.0)
              are.replies_are rest.2),
          λ i. returned (call_is i) (outcome_is i) ∷ rest.3 i,
        ),
        rest.4,
      )

  -- by how its opening ended
  pub run_is : (opened : Result (Unit {0}) Status) (events : List Event) (told : List StoryEvent)
      → OnOk opened (AreAsked commands replies asked given)
      → OnErr opened (replies ≡ [])
      → map (λ (e : Event). e.request) events ≡ requests_of opening asked opened
      → map (λ (e : Event). e.answer) events ≡ answers_of opened given ending
      → TellsEvents events told → AreOwn [] events told → All GivesAbove events
      → AreEventsOfLife opened commands replies told
  run_is (Ok opened) events told are none requests answers tells own all =
      let called = called_is events told are requests answers tells own all in (called.0, called.1)
  run_is (Err status) [] told are none requests answers tells own all = absurd (cc)
  run_is (Err status) (event ∷ next ∷ events) told are none requests answers tells own all = absurd (cc)
  run_is (Err status) (event ∷ []) [] are none requests answers tells own all = absurd tells
  run_is (Err status) (event ∷ []) (crash cut ∷ told) are none requests answers tells own all =
      absurd tells
  run_is (Err status) (event ∷ []) (returned call outcome ∷ one ∷ told) are none requests answers
      tells own all = absurd tells.2
  run_is (Err status) (event ∷ []) (returned call outcome ∷ []) are none requests answers tells own all =
      let opens : event.request ≡ open_store opening = cc in
      let answered : event.answer ≡ refused (refusal_of status) = cc in
      let call_is : call ≡ headline.open_store =
      subst (λ r. IsCallOf r event.answer call) opens tells.0 in (
        none,
        outcome,
        refused_with status outcome (subst (λ a. IsOutcomeOf a outcome) answered tells.1),
        ap (λ c. returned c outcome ∷ []) call_is,
      )

-- ---- moments

-- what is told, each with the moment of its event from a start
abbrev timed : ℕ → List Event → List StoryEvent → List (ℕ × StoryEvent)
timed start [] told = []
timed start (event ∷ events) [] = []
timed start (event ∷ events) (one ∷ told) = (event.moment - start, one) ∷ timed start events told

module _ (start : ℕ) where
  timed_told : (events : List Event) (told : List StoryEvent) → TellsEvents events told
      → map (λ (one : ℕ × StoryEvent). one.1) (timed start events told) ≡ told
  timed_told [] [] tells = refl
  timed_told [] (one ∷ told) tells = absurd tells
  timed_told (event ∷ events) [] tells = absurd tells
  timed_told (event ∷ events) (crash cut ∷ told) tells = absurd tells
  timed_told (event ∷ events) (returned call outcome ∷ told) tells =
      ap (λ rest. returned call outcome ∷ rest) (timed_told events told tells.2)

  timed_moments : (events : List Event) (told : List StoryEvent) (moments : List ℕ)
      → TellsEvents events told
      → map (λ (e : Event). e.moment) events ≡ map (λ moment. start + moment) moments
      → map (λ (one : ℕ × StoryEvent). one.0) (timed start events told) ≡ moments
  timed_moments [] told [] tells are = refl
  timed_moments [] told (moment ∷ moments) tells are = absurd (cc)
  timed_moments (event ∷ events) told [] tells are = absurd (cc)
  timed_moments (event ∷ events) [] (moment ∷ moments) tells are = absurd tells
  timed_moments (event ∷ events) (crash cut ∷ told) (moment ∷ moments) tells are = absurd tells
  timed_moments (event ∷ events) (returned call outcome ∷ told) (moment ∷ moments) tells are =
      let first : event.moment ≡ start + moment = cc in
      let rest : map (λ (e : Event). e.moment) events ≡ map (λ moment. start + moment) moments
      = cc in
      let same : event.moment - start ≡ moment = omega (arith, first) in
      let others = timed_moments events told moments tells.2 rest in
      λ i. same i ∷ others i

  timed_both : (front back : List Event) (a b : List StoryEvent) → TellsEvents front a
      → timed start (front ++ back) (a ++ b) ≡ timed start front a ++ timed start back b
  timed_both [] back [] b tells = refl
  timed_both [] back (one ∷ a) b tells = absurd tells
  timed_both (event ∷ front) back [] b tells = absurd tells
  timed_both (event ∷ front) back (crash cut ∷ a) b tells = absurd tells
  timed_both (event ∷ front) back (returned call outcome ∷ a) b tells =
      ap (λ rest. (event.moment - start, returned call outcome) ∷ rest)
      (timed_both front back a b tells.2)

  module _ (moment : ℕ) where
    all_come : (events : List Event) (told : List StoryEvent)
        → All (λ event. event.moment ≤ start + moment) events
        → All (λ one. one.0 ≤ moment) (timed start events told)
    all_come [] told all = All-nil (λ (one : ℕ × StoryEvent). one.0 ≤ moment)
    all_come (event ∷ events) [] all = All-nil (λ (one : ℕ × StoryEvent). one.0 ≤ moment)
    all_come (event ∷ events) (one ∷ told) all =
        let here = All-head (λ (e : Event). e.moment ≤ start + moment) event events all in
        All-cons (λ (one : ℕ × StoryEvent). one.0 ≤ moment) (event.moment - start, one)
        (timed start events told) (omega (arith, here))
        (all_come events told
        (All-tail (λ (e : Event). e.moment ≤ start + moment) event events all))

    none_come : (events : List Event) (told : List StoryEvent)
        → All (λ event. start + moment < event.moment) events
        → All (λ one. moment < one.0) (timed start events told)
    none_come [] told all = All-nil (λ (one : ℕ × StoryEvent). moment < one.0)
    none_come (event ∷ events) [] all = All-nil (λ (one : ℕ × StoryEvent). moment < one.0)
    none_come (event ∷ events) (one ∷ told) all =
        let here = All-head (λ (e : Event). start + moment < e.moment) event events all in
        All-cons (λ (one : ℕ × StoryEvent). moment < one.0) (event.moment - start, one)
        (timed start events told) (omega (arith, here))
        (none_come events told
        (All-tail (λ (e : Event). start + moment < e.moment) event events all))

-- ---- what would have been told

abbrev result_for : Landing → Result (Option Pair) Why
result_for (stands_on pair) = Ok (Some pair)
result_for nowhere = Ok None
result_for (move_refused refusal) = Err headline.device_failed

abbrev outcome_for : Answer → CallOutcome
outcome_for done = headline.done
outcome_for (found value) = headline.found value
outcome_for (walked landings) = headline.walked (map result_for landings)
outcome_for (snapshot one) = headline.snapshot one.number
outcome_for (refused refusal) = headline.failed headline.device_failed

result_is : (landing : Landing) → IsResultOf landing (result_for landing)
result_is (stands_on pair) = refl
result_is nowhere = refl
result_is (move_refused refusal) = (headline.device_failed, refl, tt)

results_are : (landings : List Landing) → AreResultsOf landings (map result_for landings)
results_are [] = tt
results_are (landing ∷ landings) = (result_is landing, results_are landings)

outcome_is : (answer : Answer) → IsOutcomeOf answer (outcome_for answer)
outcome_is done = refl
outcome_is (found value) = refl
outcome_is (walked landings) = (map result_for landings, refl, results_are landings)
outcome_is (snapshot one) = refl
outcome_is (refused refusal) = inr (inr (headline.device_failed, refl, tt))

release_is : (one : Snapshot) (answer : Answer)
    → IsCallOf (release_snapshot one) answer (headline.release_snapshot one.number)
release_is one done = refl
release_is one (found value) = refl
release_is one (walked landings) = refl
release_is one (snapshot other) = refl
release_is one (refused refusal) = (one.number, refl)

call_is : (request : Request) (answer : Answer) → IsCallOf request answer (call_of request)
call_is (open_store opening) answer = refl
call_is (write items sync) answer = refl
call_is (get at key) answer = refl
call_is (walk at moves) answer = refl
call_is get_snapshot answer = refl
call_is (release_snapshot one) answer = release_is one answer
call_is flush answer = refl
call_is (compact_range from to) answer = refl
call_is close answer = refl
call_is abandon answer = refl

abbrev would_tell : List Event → List StoryEvent
would_tell events = map (λ (e : Event). returned (call_of e.request) (outcome_for e.answer)) events

tells_would : (events : List Event) → TellsEvents events (would_tell events)
tells_would [] = tt
tells_would (event ∷ events) =
    (call_is event.request event.answer, outcome_is event.answer, tells_would events)

tells_both : (front back : List Event) (a b : List StoryEvent) → TellsEvents front a
    → TellsEvents back b → TellsEvents (front ++ back) (a ++ b)
tells_both [] back [] b tells then = then
tells_both [] back (one ∷ a) b tells then = absurd tells
tells_both (event ∷ front) back [] b tells then = absurd tells
tells_both (event ∷ front) back (crash cut ∷ a) b tells then = absurd tells
tells_both (event ∷ front) back (returned call outcome ∷ a) b tells then =
    (tells.0, tells.1, tells_both front back a b tells.2 then)

own_would : (taken : List Snapshot) (events : List Event) → AreOwn taken events (would_tell events)
own_would taken [] = tt
own_would taken (event ∷ events) =
    (λ one e c. ap call_of e, own_would (taken ++ given_by event.answer) events)

own_both : (taken : List Snapshot) (front back : List Event) (a : List StoryEvent)
    → TellsEvents front a → AreOwn taken front a
    → AreOwn taken (front ++ back) (a ++ would_tell back)
own_both taken [] back [] tells own = own_would taken back
own_both taken [] back (one ∷ a) tells own = absurd tells
own_both taken (event ∷ front) back [] tells own = absurd tells
own_both taken (event ∷ front) back (crash cut ∷ a) tells own = absurd tells
own_both taken (event ∷ front) back (returned call outcome ∷ a) tells own =
    (own.0, own_both (taken ++ given_by event.answer) front back a tells.2 own.1)

-- the write that a crash cut short
write_cut : (request : Request) (outcome : CallOutcome) (events : List StoryEvent)
    (cut : Option Batch) → (cut ≡ None) ⊎ (cut ≡ written_by request)
    → IsCutShort (returned (call_of request) outcome ∷ events) cut
write_cut (open_store opening) outcome events cut is = ⊎_elim (λ e. e) (λ e. e) is
write_cut (write items sync) outcome events cut is = is
write_cut (get at key) outcome events cut is = ⊎_elim (λ e. e) (λ e. e) is
write_cut (walk at moves) outcome events cut is = ⊎_elim (λ e. e) (λ e. e) is
write_cut get_snapshot outcome events cut is = ⊎_elim (λ e. e) (λ e. e) is
write_cut (release_snapshot one) outcome events cut is = ⊎_elim (λ e. e) (λ e. e) is
write_cut flush outcome events cut is = ⊎_elim (λ e. e) (λ e. e) is
write_cut (compact_range from to) outcome events cut is = ⊎_elim (λ e. e) (λ e. e) is
write_cut close outcome events cut is = ⊎_elim (λ e. e) (λ e. e) is
write_cut abandon outcome events cut is = ⊎_elim (λ e. e) (λ e. e) is

cut_short : (start : ℕ) (undone : List Event) (cut : Option Batch) → IsWriteCutShort undone cut
    → IsCutShort (map (λ (one : ℕ × StoryEvent). one.1) (timed start undone (would_tell undone)))
    cut
cut_short start [] cut is = is
cut_short start (event ∷ undone) cut is =
    write_cut event.request (outcome_for event.answer)
    (map (λ (one : ℕ × StoryEvent). one.1) (timed start undone (would_tell undone))) cut is

-- ---- a life

-- a life is told, each event by its own number
abbrev pub TellsOwnLife : List Event → Ending → List StoryEvent → Type 0
TellsOwnLife events goes_on told = TellsEvents events told × AreOwn [] events told
TellsOwnLife events (crashes moment inside counted) told =
    (tells : TellsCrash events moment told) × AreOwn [] tells.done tells.before

module _ (events : List Event) (moment : ℕ) (told : List StoryEvent)
    (is_told : (tells : TellsCrash events moment told) × AreOwn [] tells.done tells.before) where
  -- all that would have been told
  abbrev pub all_told : List StoryEvent
  all_told = is_told.0.before ++ would_tell is_told.0.undone

  pub all_tells : TellsEvents events all_told
  all_tells = subst (λ es. TellsEvents es all_told) (sym is_told.0.split)
      (tells_both is_told.0.done is_told.0.undone is_told.0.before (would_tell is_told.0.undone)
      is_told.0.answers (tells_would is_told.0.undone))

  pub all_own : AreOwn [] events all_told
  all_own = subst (λ es. AreOwn [] es all_told) (sym is_told.0.split)
      (own_both [] is_told.0.done is_told.0.undone is_told.0.before is_told.0.answers is_told.1)

  -- what is told is cut short
  pub all_cut : AreCutShort all_told told
  all_cut = (
    is_told.0.before,
    would_tell is_told.0.undone,
    is_told.0.cut,
    refl,
    by is_told.0.undone is_told.0.cut is_told.0.is_cut,
    is_told.0.told_is,
  )
    where
      by : (undone : List Event) (cut : Option Batch) → IsWriteCutShort undone cut
          → IsCutShort (would_tell undone) cut
      by [] cut is = is
      by (event ∷ undone) cut is =
          write_cut event.request (outcome_for event.answer) (would_tell undone) cut is

module _ (opening : Opening) (commands : List Command) (report : Report) (start : ℕ)
    (requests : List Request) (answers : List Answer) (moments : List ℕ) (events : List Event)
    (is : IsReportOf opening commands report requests answers moments)
    (asked : IsConversation requests answers (map (λ moment. start + moment) moments) events)
    (above : All GivesAbove events) where
  moments_are : (opened : Result (Unit {0}) Status) (there : List ℕ)
      → there ≡ moments_of opened report.replies.items is.first is.last
      → AreMomentsOf opened (map (λ (one : ℕ × Reply). one.0) report.replies.items) there
  moments_are (Ok opened) there e = (is.first, is.last, e)
  moments_are (Err status) there e = (is.first, e)

  -- all that would come about
  life_runs : (told : List StoryEvent) → TellsEvents events told → AreOwn [] events told
      → AreEventsOfLife report.opened commands (map (λ (one : ℕ × Reply). one.1) report.replies.items) told
  life_runs told tells own =
      run_is opening commands (map (λ (one : ℕ × Reply). one.1) report.replies.items) is.asked
      is.told is.ending report.opened events told is.are_asked
      (no_replies report.opened is.no_replies) (asked.requests_are ∙ is.requests_are)
      (asked.answers_are ∙ is.answers_are) tells own above
    where
      no_replies : (opened : Result (Unit {0}) Status) → OnErr opened (report.replies.items ≡ [])
          → OnErr opened (map (λ (one : ℕ × Reply). one.1) report.replies.items ≡ [])
      no_replies (Ok opened) none = tt
      no_replies (Err status) none = ap (map (λ (one : ℕ × Reply). one.1)) none

  whole : (all told : List StoryEvent) (moment : Option ℕ) → TellsEvents events all
      → AreOwn [] events all → AreEventsUntil moment (timed start events all) told → IsLifeStory commands moment report told
  whole all told moment tells own come = record {
    timed = timed start events all;
    all = subst (AreEventsOfLife report.opened commands
        (map (λ (one : ℕ × Reply). one.1) report.replies.items))
        (sym (timed_told start events all tells)) (life_runs all tells own);
    moments = moments_are report.opened
        (map (λ (one : ℕ × StoryEvent). one.0) (timed start events all))
        (timed_moments start events all moments tells asked.moments_are ∙ is.moments_are);
    events_are = come;
  }

  pub life_story : (moment : Option ℕ) (told : List StoryEvent)
      → TellsOwnLife events (ending_of start moment) told
      → IsLifeStory commands moment report told
  life_story None told is_told =
      whole told told None is_told.0 is_told.1 (sym (timed_told start events told is_told.0))
  life_story (Some moment) told is_told =
      let tells = is_told.0 in
      whole (all_told events (start + moment) told is_told) told (Some moment)
      (all_tells events (start + moment) told is_told) (all_own events (start + moment) told is_told)
      (record {
        before = timed start tells.done tells.before;
        after = timed start tells.undone (would_tell tells.undone);
        split = ap (λ es. timed start es (all_told events (start + moment) told is_told)) tells.split
            ∙ timed_both start tells.done tells.undone tells.before (would_tell tells.undone)
            tells.answers;
        come = all_come start moment tells.done tells.before tells.by_then;
        to_come = none_come start moment tells.undone (would_tell tells.undone) tells.not_yet;
        cut = tells.cut;
        is_cut = cut_short start tells.undone tells.cut tells.is_cut;
        events_are = tells.told_is
            ∙ ap (λ before. before ++ crash tells.cut ∷ [])
            (sym (timed_told start tells.done tells.before tells.answers));
      })
