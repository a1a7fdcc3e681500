-- Runs of commands, one request after another.
use Rattle.std.proofs.Common.{◌≡◌, ◌<◌, ◌≤◌, ◌+◌, ◌-◌, ◌^◌, inl, inr, ⊎_elim, ℕ, suc, Bool, true, false, ◌⊎◌, List, [], ◌∷◌, ◌++◌, length, take, append-nil, append_assoc, refl, sym, ◌∙◌, ap, subst, arith, Option, Some, None, Result, Ok, Err, IsTrue}
use Rattle.std.specs.Prelude.{OnErr, All}
use Rattle.std.proofs.lemmas.Bool.{cases_lt}
use Rattle.std.proofs.Math.ListN.{get_or}
use Rattle.std.proofs.lemmas.List.{map-append, take_more}
use Rattle.std.proofs.lemmas.List.Elements.{All-nil, All-cons, All-append}
use Rattle.leveldb_base.specs.declared.error.Status.{Status}
use Rattle.leveldb_env.proofs.EnvLemmas.{begun}
use Rattle.leveldb_env.specs.declared.env.Env.{Ghosts}
use Rattle.leveldb_env.specs.Env.{Files, Disk, FilesCrashTo, HasCause, Observed}
use Rattle.rusty_leveldb.specs.declared.shell.commands.Command.{Command}
use Rattle.rusty_leveldb.specs.declared.shell.commands.Reply.{Reply}
use Rattle.rusty_leveldb.specs.Machines.State.{State, Snapshot, Opening, Request, open_store, abandon, Answer, done, refused}
use Rattle.leveldb_files.specs.Histories.Holds.{IsHonest}
use Rattle.rusty_leveldb.specs.Machines.Machine.{Step, Crashes, risk_between}
use Rattle.rusty_leveldb.specs.Machines.Runs.{Event, RunsEvents, CrashesIn, CrashBefore, last_moment, StopsAt, setting_of}
use Rattle.rusty_leveldb.specs.Engines.Serves.{StandsFor, Represents, TakesStep, Runs, recalls_nothing, IsHonestlyLeft, IsBetweenCalls, IsConversation, done_or, refusal_of}
use Rattle.rusty_leveldb.specs.Engines.Engine.{scene, Recalls, Answers, AnswersAs, IsOpening, no_engine}
use Rattle.leveldb_store.specs.Writing.Room.{FailsFor}
use Rattle.rusty_leveldb.proofs.Engines.WritingLemmas.{failed_later}
use Rattle.rusty_leveldb.proofs.Engines.Crashes.{crash_between, crash_inside}
use Rattle.rusty_leveldb.proofs.Engines.Others.{spares_still, spares_own, others_then}
use Rattle.rusty_leveldb.specs.Engines.Frame.{IsOwn}
use Rattle.leveldb_base.specs.Error.{IsOutOfMemory}
use Rattle.rusty_leveldb.specs.Programs.Shell.{RunsCommands, HasRun, Turn}
use Rattle.rusty_leveldb.proofs.Programs.Turns.{AnswersCommand, AreTurnsOf, requests_in, answers_in, turn_of, turns_of_none, turns_of_more, turns_asked, requests_more, answers_more}
use Rattle.leveldb_env.specs.Options.{Boxed, OptionsOf}
use Rattle.rusty_leveldb.specs.Engines.Boxes.{EngineOf, InternalOrder}
use Rattle.leveldb_files.specs.Stores.Format.{Format, Meaning, Agrees}

-- what holds anyway holds of a refusal
pub OnErr-always : {T E P : Type 0} (result : Result T E) → P → OnErr result P
OnErr-always (Ok value) h = tt
OnErr-always (Err error) h = h

-- an answer that came at this moment, after so many failures
abbrev pub event_of : ℕ → Request → Answer → ℕ → Event
event_of moment request answer failures =
    record { moment = moment; request = request; answer = answer; failures = failures }

-- ---- words for runs

module _ {E F : Type 0} (C FP : Type 0) {B : Boxed} (keys : InternalOrder C) (env : Ghosts E F) (formats : OptionsOf C FP B → Format) (store : List ℕ) (meaning : Meaning) where
  -- these requests had these answers, each at its moment, from what the disk has on, and what
  -- engine and disk represent then
  abbrev pub LeadsAt : E → List Request → List Answer → List ℕ → Option (EngineOf E C FP F B) → E → State → Type 0
  LeadsAt from requests answers moments engine to old = Runs store meaning (Recalls keys env formats store meaning) env.models_moments
      (scene env None from) requests answers moments (scene env engine to) old

  -- the same, at some moments
  abbrev pub MoveRule : E → List Request → List Answer → Option (EngineOf E C FP F B) → E → State → Type 0
  MoveRule from requests answers engine to old = (moments : List ℕ) × LeadsAt from requests answers moments engine to old

-- the same where no engine is left
abbrev pub LeadsToNone : {E F : Type 0} → Ghosts E F → List ℕ → Meaning → E → List Request → List Answer → List ℕ → E → State → Type 0
LeadsToNone env store meaning from requests answers moments to old = Runs store meaning recalls_nothing env.models_moments
    (scene env None from) requests answers moments (scene env None to) old

module _ {E F : Type 0} (env : Ghosts E F) (store : List ℕ) where
  -- a run of commands, from every state that the disk represents, where the disk is observed
  abbrev pub RunsCommandsAlways : E → Opening → List Command → List Reply → Result (Unit {0}) Status → E → Type 0
  RunsCommandsAlways from asked commands given result to = IsTrue env.models_disk
      → (opening : Opening) → IsOpening store asked opening → (meaning : Meaning) → Agrees opening.format meaning → (old : State)
      → Represents store meaning (recalls_nothing) None (env.observed from).disk old
      → RunsCommands env store meaning from opening commands given result to old

-- ---- runs

pub run_more : (meaning : Meaning) (before mid : ℕ) (old new last : State) (events : List Event) (event : Event)
    → RunsEvents meaning before old events mid new → mid ≤ event.failures
    → Step new.mode (setting_of meaning mid event) new event.request event.answer last
    → RunsEvents meaning before old (events ++ event ∷ []) event.failures last
run_more meaning before mid old new last [] event run more step = (
  subst (λ n. n ≤ event.failures) run.0 more,
  last,
  subst (λ (s : State). Step s.mode (setting_of meaning before event) s event.request event.answer last) run.1
      (subst (λ n. Step new.mode (setting_of meaning n event) new event.request event.answer last) run.0 step),
  (refl, refl),
)
run_more meaning before mid old new last (first ∷ events) event run more step =
    (run.0, run.1, run.2, run_more meaning first.failures mid run.1 new last events event run.3 more step)

last_more : (start : ℕ) (events : List Event) (event : Event)
    → last_moment start (events ++ event ∷ []) ≡ event.moment
last_more start [] event = refl
last_more start (first ∷ events) event = last_more first.moment events event

-- moments that are at or after one
last_low : (low start : ℕ) (events : List Event) → low ≤ start → All (λ (event : Event). low ≤ event.moment) events
    → low ≤ last_moment start events
last_low low start [] begin all = begin
last_low low start (event ∷ events) begin all =
    last_low low event.moment events (all 0 event (omega arith)) (λ k d lt. all (suc k) d (omega (arith, lt)))

conversation_more : (requests : List Request) (answers : List Answer) (moments : List ℕ)
    (events : List Event) (request : Request) (answer : Answer) (failures moment : ℕ)
    → IsConversation requests answers moments events
    → IsConversation (requests ++ request ∷ []) (answers ++ answer ∷ []) (moments ++ moment ∷ [])
    (events ++ event_of moment request answer failures ∷ [])
conversation_more requests answers moments events request answer failures moment c = record {
  requests_are = map-append (λ (event : Event). event.request) events (now ∷ [])
      ∙ ap (λ rs. rs ++ request ∷ []) c.requests_are;
  answers_are = map-append (λ (event : Event). event.answer) events (now ∷ [])
      ∙ ap (λ as'. as' ++ answer ∷ []) c.answers_are;
  moments_are = map-append (λ (event : Event). event.moment) events (now ∷ [])
      ∙ ap (λ ms. ms ++ moment ∷ []) c.moments_are;
}
  where
    now : Event
    now = event_of moment request answer failures

-- what holds of each holds of the last
All-last : {X : Type 0} (P : X → Type 0) (xs : List X) (last : X) → All P (xs ++ last ∷ []) → P last
All-last P [] last all = all 0 last (omega arith)
All-last P (x ∷ xs) last all = All-last P xs last (λ k d lt. all (suc k) d (omega (arith, lt)))

-- one request more is answered after the moment of a crash
stops_more : (meaning : Meaning) (start before moment : ℕ) (inside : Bool) (mid : ℕ) (old new last then : State)
    (events : List Event) (event : Event) → moment < event.moment
    → (All (λ (event : Event). event.moment ≤ moment) events → ⊥) → mid ≤ event.failures
    → Step new.mode (setting_of meaning mid event) new event.request event.answer last
    → StopsAt meaning start before old events moment inside mid new then
    → StopsAt meaning start before old (events ++ event ∷ []) moment inside event.failures last then
stops_more meaning start before moment inside mid old new last then events event early some more step s =
    by s.undone s.split s.not_yet s.crash
  where
    one : All (λ (o : Event). moment < o.moment) (event ∷ [])
    one = All-cons (λ (o : Event). moment < o.moment) event [] early
        (All-nil (λ (o : Event). moment < o.moment))

    by : (undone : List Event) → events ≡ s.done ++ undone → All (λ (o : Event). moment < o.moment) undone
        → CrashBefore meaning (last_moment start s.done) moment inside s.failures s.state undone mid new then
        → StopsAt meaning start before old (events ++ event ∷ []) moment inside event.failures last then
    by [] split later crash = absurd (some (subst (All (λ (o : Event). o.moment ≤ moment))
        (sym (split ∙ append-nil s.done)) s.by_then))
    by (next ∷ undone) split later crash = record {
      done = s.done;
      undone = (next ∷ undone) ++ event ∷ [];
      split = ap (λ os. os ++ event ∷ []) split ∙ append_assoc s.done (next ∷ undone) (event ∷ []);
      by_then = s.by_then;
      not_yet = All-append (λ (o : Event). moment < o.moment) (next ∷ undone) (event ∷ []) later one;
      failures = s.failures;
      state = s.state;
      run = s.run;
      crash = (
        crash.0,
        crash.1,
        crash.2,
        run_more meaning next.failures mid crash.1 new last undone event crash.3 more step,
        crash.4,
      );
    }

-- an environment's files at its moment are those that they are now and no others
abbrev pub OnlyNow : {E F : Type 0} → Ghosts E F → Type 0
OnlyNow {E = E} env = ((e : E) (files : Files) → (env.observed e).at_moment (env.observed e).moment files
    → files ≡ (env.observed e).disk.files)
    × ((e : E) → IsTrue env.models_moments
    → (env.observed e).at_moment (env.observed e).moment (env.observed e).disk.files)

module _ {E F : Type 0} (env : Ghosts E F) (only_now : OnlyNow env) (store : List ℕ) (meaning : Meaning) where
  -- a crash where the files are those of the disk
  crash_same : (at : E) (old : State) → StandsFor store meaning (env.observed at).disk old → (now : Observed) (moment : ℕ)
      (files : Files) (left : Disk) → files ≡ (env.observed at).disk.files → IsHonestlyLeft store now moment files left
      → (then : State) × Crashes old (risk_between old) then × StandsFor store meaning left then
  crash_same at old stands now moment files left same crash =
      crash_between store meaning old (env.observed at).disk left stands
      (record { files = subst (λ f. FilesCrashTo f left.files) same crash.leaves; free = crash.free })
      (subst (λ f. IsHonest store f left.files) same crash.honest)

  -- a crash at the end
  crash_now : (at : E) (old : State) → StandsFor store meaning (env.observed at).disk old → (moment : ℕ) (files : Files) (left : Disk) → moment ≡ (env.observed at).moment → IsHonestlyLeft store (env.observed at) moment files left
      → (then : State) × Crashes old (risk_between old) then × StandsFor store meaning left then
  crash_now at old stands moment files left is crash =
      crash_same at old stands (env.observed at) moment files left
      (only_now.0 at files (subst (λ n. (env.observed at).at_moment n files) is crash.stood)) crash

-- it is inside a call or not
by_inside : {P : Type 0} (inside : Bool) → (inside ≡ true → P) → (inside ≡ false → P) → P
by_inside true inner outer = inner refl
by_inside false inner outer = outer refl

module _ {E F C FP : Type 0} {B : Boxed} (keys : InternalOrder C) (env : Ghosts E F) (formats : OptionsOf C FP B → Format) (only_now : OnlyNow env) (store : List ℕ) (meaning : Meaning) (modelled : IsTrue env.models_disk) where
  -- nothing was asked yet
  no_requests : (from : E) (engine : Option (EngineOf E C FP F B)) (old : State) → Represents store meaning (Recalls keys env formats store meaning) engine (env.observed from).disk old
      → Runs store meaning (Recalls keys env formats store meaning) env.models_moments (scene env engine from) [] [] [] (scene env engine from) old
  no_requests from engine old is = record {
    events = [];
    asked = record { requests_are = refl; answers_are = refl; moments_are = refl };
    new = old;
    run = (refl, refl);
    represents = is;
    others = spares_still store (IsOwn store) (env.observed from).disk;
    since = All-nil (λ (event : Event). (env.observed from).moment ≤ event.moment);
    last = refl;
    ends = λ moment low. (λ all. low, λ most. All-nil (λ (event : Event). event.moment ≤ moment));
    stops = λ moment inside files left low crash between.
        let c = crash_now env only_now store meaning from old is.disk_is moment files left (omega (arith, low, crash.come)) crash in (
          c.0,
          record {
            done = [];
            undone = [];
            split = refl;
            by_then = All-nil (λ (event : Event). event.moment ≤ moment);
            not_yet = All-nil (λ (event : Event). moment < event.moment);
            failures = env.failures from;
            state = old;
            run = (refl, refl);
            crash = (refl, refl, c.1);
          },
          c.2,
        );
  }

  -- one request more
  module _ (before : Option (EngineOf E C FP F B)) (from mid to : E) (requests : List Request) (answers : List Answer) (moments : List ℕ) (engine after : Option (EngineOf E C FP F B)) (request : Request) (answer : Answer) (old : State)
      (led : Runs store meaning (Recalls keys env formats store meaning) env.models_moments (scene env before from) requests answers moments (scene env engine mid) old) (answers_so : AnswersAs keys env formats store meaning engine mid request answer after to) where
    goes : TakesStep store meaning (Recalls keys env formats store meaning) (scene env engine mid) request answer (scene env after to) led.new
    goes = answers_so modelled led.new led.represents

    abbrev now : Event
    now = event_of (env.observed to).moment request answer (env.failures to)

    -- time doesn't fall, and the last answer came as the run so far ended
    time : (env.observed mid).moment ≤ (env.observed to).moment
    time = goes.moments.time.later

    last_is : last_moment (env.observed from).moment led.events ≡ (env.observed mid).moment
    last_is = led.last

    run_now : RunsEvents meaning (env.failures from) old (led.events ++ now ∷ []) (env.failures to) goes.new
    run_now = run_more meaning (env.failures from) (env.failures mid) old led.new goes.new led.events now led.run goes.later goes.step

    by_now : (moment : ℕ) → (env.observed from).moment ≤ moment → (env.observed to).moment ≤ moment → All (λ (event : Event). event.moment ≤ moment) (led.events ++ now ∷ [])
    by_now moment low most = All-append (λ (event : Event). event.moment ≤ moment) led.events (now ∷ []) ((led.ends moment low).1 (omega (arith, most, time)))
        (All-cons (λ (event : Event). event.moment ≤ moment) now [] most (All-nil (λ (event : Event). event.moment ≤ moment)))

    -- a crash at this moment
    abbrev Stops : ℕ → Bool → Disk → Type 0
    Stops moment inside left = (then : State)
        × StopsAt meaning (env.observed from).moment (env.failures from) old (led.events ++ now ∷ []) moment inside (env.failures to) goes.new then
        × StandsFor store meaning left then

    -- in the last request
    stops_in : (moment : ℕ) (inside : Bool) (left : Disk) → (env.observed from).moment ≤ moment → (env.observed mid).moment ≤ moment → moment < (env.observed to).moment
        → (then : State) × CrashesIn (last_moment (env.observed from).moment led.events) moment inside led.new request goes.new then × StandsFor store meaning left then
        → Stops moment inside left
    stops_in moment inside left low late early c = (
      c.0,
      record {
        done = led.events;
        undone = now ∷ [];
        split = refl;
        by_then = (led.ends moment low).1 late;
        not_yet = All-cons (λ (event : Event). moment < event.moment) now [] early (All-nil (λ (event : Event). moment < event.moment));
        failures = env.failures mid;
        state = led.new;
        run = led.run;
        crash = (goes.later, goes.new, goes.step, (refl, refl), c.1);
      },
      c.2,
    )

    -- once it has called the device
    stops_inside : (moment : ℕ) (inside : Bool) (files : Files) (left : Disk) → (env.observed from).moment ≤ moment → (env.observed mid).moment ≤ moment → moment < (env.observed to).moment
        → IsHonestlyLeft store (env.observed to) moment files left
        → (last_moment (env.observed from).moment led.events < moment) ⊎ IsTrue inside → Stops moment inside left
    stops_inside moment inside files left low late early crash begun =
        let c = crash_inside store meaning led.new goes.new request files left led.represents.disk_is.is_state goes.represents.disk_is.is_state (goes.moments.time.meanwhile moment files late early crash.stood) crash.leaves crash.honest crash.free in
        stops_in moment inside left low late early (c.0, inr (begun, c.1), c.2)

    -- before that
    stops_before : (moment : ℕ) (inside : Bool) (files : Files) (left : Disk) → (env.observed from).moment ≤ moment → moment ≡ (env.observed mid).moment → moment < (env.observed to).moment
        → IsHonestlyLeft store (env.observed to) moment files left → inside ≡ false → IsBetweenCalls env.models_moments (env.observed to) moment files → Stops moment inside left
    stops_before moment inside files left low at early crash out between =
        let here = goes.moments.time.kept (env.observed mid).moment (env.observed mid).disk.files (omega arith) (only_now.1 mid between.modelled) in
        let same = between.alone (env.observed mid).disk.files (subst (λ n. (env.observed to).at_moment n (env.observed mid).disk.files) (sym at) here) in
        let c = crash_same env only_now store meaning mid led.new led.represents.disk_is (env.observed to) moment files left (sym same) crash in
        stops_in moment inside left low (omega (arith, at)) early (c.0, inl (at ∙ sym last_is, out, c.1), c.2)

    -- after it
    stops_after : (moment : ℕ) (inside : Bool) (files : Files) (left : Disk) → (env.observed from).moment ≤ moment → (env.observed to).moment ≤ moment
        → IsHonestlyLeft store (env.observed to) moment files left → Stops moment inside left
    stops_after moment inside files left low end crash =
        let c = crash_now env only_now store meaning to goes.new goes.represents.disk_is moment files left (omega (arith, end, crash.come)) crash in (
          c.0,
          record {
            done = led.events ++ now ∷ [];
            undone = [];
            split = sym (append-nil (led.events ++ now ∷ []));
            by_then = by_now moment low end;
            not_yet = All-nil (λ (event : Event). moment < event.moment);
            failures = env.failures to;
            state = goes.new;
            run = run_now;
            crash = (refl, refl, c.1);
          },
          c.2,
        )

    -- before the last request
    stops_earlier : (moment : ℕ) (inside : Bool) (files : Files) (left : Disk) → (env.observed from).moment ≤ moment → moment < (env.observed mid).moment
        → IsHonestlyLeft store (env.observed to) moment files left
        → (inside ≡ false → IsBetweenCalls env.models_moments (env.observed to) moment files) → Stops moment inside left
    stops_earlier moment inside files left low early crash between =
        let s = led.stops moment inside files left low (record { come = omega (arith, early); stood = goes.moments.time.before moment files early crash.stood; leaves = crash.leaves; honest = crash.honest; free = crash.free })
        (λ out. let b = between out in record { modelled = b.modelled; alone = λ others stood. b.alone others (goes.moments.time.kept moment others (omega (arith, early)) stood) }) in (
          s.0,
          stops_more meaning (env.observed from).moment (env.failures from) moment inside (env.failures mid) old led.new goes.new s.0 led.events now (omega (arith, early, time))
              (λ all. let past = (led.ends moment low).0 all in absurd (omega (arith, early, past))) goes.later goes.step s.1,
          s.2,
        )

    stops_now : (moment : ℕ) (inside : Bool) (files : Files) (left : Disk) → (env.observed from).moment ≤ moment → IsHonestlyLeft store (env.observed to) moment files left
        → (inside ≡ false → IsBetweenCalls env.models_moments (env.observed to) moment files) → Stops moment inside left
    stops_now moment inside files left low crash between = ⊎_elim
        (λ (early : moment < (env.observed mid).moment). stops_earlier moment inside files left low early crash between)
        (λ (late : (env.observed mid).moment ≤ moment). ⊎_elim
        (λ (early : moment < (env.observed to).moment). by_inside inside
        (λ is. stops_inside moment inside files left low late early crash (inr is))
        (λ out. ⊎_elim
        (λ (past : (env.observed mid).moment < moment). stops_inside moment inside files left low late early crash (inl (omega (arith, past, last_is))))
        (λ (at : moment ≤ (env.observed mid).moment). stops_before moment inside files left low (omega (arith, at, late)) early crash out (between out))
        (cases_lt (env.observed mid).moment moment)))
        (λ (end : (env.observed to).moment ≤ moment). stops_after moment inside files left low end crash)
        (cases_lt moment (env.observed to).moment)) (cases_lt moment (env.observed mid).moment)

    from_first : (env.observed from).moment ≤ (env.observed to).moment
    from_first = let low = last_low (env.observed from).moment (env.observed from).moment led.events (omega arith) led.since in omega (arith, low, last_is, time)

    pub next_one : Runs store meaning (Recalls keys env formats store meaning) env.models_moments (scene env before from) (requests ++ request ∷ []) (answers ++ answer ∷ []) (moments ++ (env.observed to).moment ∷ []) (scene env after to) old
    next_one = record {
      events = led.events ++ now ∷ [];
      asked = conversation_more requests answers moments led.events request answer (env.failures to) (env.observed to).moment led.asked;
      new = goes.new;
      run = run_now;
      represents = goes.represents;
      others = others_then store (env.observed from).disk (env.observed mid).disk (env.observed to).disk led.others (spares_own store led.new.mode request (env.observed mid).disk (env.observed to).disk goes.spares);
      since = All-append (λ (event : Event). (env.observed from).moment ≤ event.moment) led.events (now ∷ []) led.since
          (All-cons (λ (event : Event). (env.observed from).moment ≤ event.moment) now [] from_first (All-nil (λ (event : Event). (env.observed from).moment ≤ event.moment)));
      last = last_more (env.observed from).moment led.events now;
      ends = λ moment low. (
        λ all. All-last (λ (event : Event). event.moment ≤ moment) led.events now all,
        λ most. by_now moment low most,
      );
      stops = stops_now;
    }

  pub one_more : (from mid to : E) (requests : List Request) (answers : List Answer) (engine after : Option (EngineOf E C FP F B)) (request : Request) (answer : Answer) (old : State)
      → MoveRule C FP keys env formats store meaning from requests answers engine mid old → Answers keys env formats engine mid request answer after to
      → MoveRule C FP keys env formats store meaning from (requests ++ request ∷ []) (answers ++ answer ∷ []) after to old
  one_more from mid to requests answers engine after request answer old led answers_so = (led.0 ++ (env.observed to).moment ∷ [], next_one None from mid to requests answers led.0 engine after request answer old led.1 (answers_so store meaning))

  pub first_at : (from to : E) (after : Option (EngineOf E C FP F B)) (request : Request) (answer : Answer) (old : State)
      → Represents store meaning (Recalls keys env formats store meaning) None (env.observed from).disk old → AnswersAs keys env formats store meaning None from request answer after to
      → LeadsAt C FP keys env formats store meaning from (request ∷ []) (answer ∷ []) ((env.observed to).moment ∷ []) after to old
  first_at from to after request answer old is answers_so = next_one None from from to [] [] [] None after request answer old (no_requests from None old is) answers_so

  pub first_one : (from to : E) (after : Option (EngineOf E C FP F B)) (request : Request) (answer : Answer) (old : State)
      → Represents store meaning (Recalls keys env formats store meaning) None (env.observed from).disk old → AnswersAs keys env formats store meaning None from request answer after to
      → MoveRule C FP keys env formats store meaning from (request ∷ []) (answer ∷ []) after to old
  first_one from to after request answer old is answers_so = ((env.observed to).moment ∷ [], first_at from to after request answer old is answers_so)

-- ---- commands

-- where no engine stands, none of another kind does
pub no_other : {M N : Type 0} {store : List ℕ} {meaning : Meaning} {this : M → Disk → State → Type 0} {that : N → Disk → State → Type 0} (disk : Disk) (state : State)
    → Represents store meaning this None disk state → Represents store meaning that None disk state
no_other disk state represents = record { disk_is = represents.disk_is; memory_is = represents.memory_is }

module _ {E F : Type 0} {B : Boxed} (C FP : Type 0) (keys : InternalOrder C) (env : Ghosts E F) (formats : OptionsOf C FP B → Format) (store : List ℕ) where
  -- so far the store was opened and these commands were given these replies and snapshots, from
  -- every state that the disk stood for
  abbrev pub RunsCommandsSoFar : E → Opening → List Command → List Reply → List Snapshot → EngineOf E C FP F B → E → Type 0
  RunsCommandsSoFar from wanted commands given taken engine to = IsTrue env.models_disk → (opening : Opening) → IsOpening store wanted opening
      → (meaning : Meaning) → Agrees opening.format meaning → (old : State) → Represents store meaning (Recalls keys env formats store meaning) None (env.observed from).disk old
      → (turns : List Turn) × AreTurnsOf turns commands given taken
      × MoveRule C FP keys env formats store meaning from (open_store opening ∷ requests_in turns) (done ∷ answers_in turns) (Some engine) to old

  -- what an opening of the store answers
  abbrev pub OpensAs : E → Opening → Answer → Option (EngineOf E C FP F B) → E → Type 0
  OpensAs from wanted answer engine to = (opening : Opening) → IsOpening store wanted opening → (meaning : Meaning) → Agrees opening.format meaning → AnswersAs keys env formats store meaning None from (open_store opening) answer engine to

module _ {E F : Type 0} {B : Boxed} (C FP : Type 0) (keys : InternalOrder C) (env : Ghosts E F) (formats : OptionsOf C FP B → Format) (only_now : OnlyNow env) (store : List ℕ) where
  -- the same of a run at whose end no engine stands
  pub at_none : (meaning : Meaning) (from : E) (requests : List Request) (answers : List Answer) (moments : List ℕ) (to : E) (old : State)
      → LeadsAt C FP {B = B} keys env formats store meaning from requests answers moments None to old → LeadsToNone env store meaning from requests answers moments to old
  at_none meaning from requests answers moments to old led = record {
    events = led.events;
    asked = led.asked;
    new = led.new;
    run = led.run;
    represents = no_other (env.observed to).disk led.new led.represents;
    others = led.others;
    since = led.since;
    last = led.last;
    ends = led.ends;
    stops = led.stops;
  }

  leads_to_none : (meaning : Meaning) (from : E) (requests : List Request) (answers : List Answer) (to : E) (old : State)
      → MoveRule C FP {B = B} keys env formats store meaning from requests answers None to old → (moments : List ℕ) × LeadsToNone env store meaning from requests answers moments to old
  leads_to_none meaning from requests answers to old led = (led.0, at_none meaning from requests answers led.0 to old led.1)

  pub play_first : (from to : E) (wanted : Opening) (engine : EngineOf E C FP F B) → OpensAs C FP keys env formats store from wanted done (Some engine) to → RunsCommandsSoFar C FP keys env formats store from wanted [] [] [] engine to
  play_first from to wanted engine opens modelled opening is meaning agrees old represents =
      ([], turns_of_none, first_one keys env formats only_now store meaning modelled from to (Some engine) (open_store opening) done old represents (opens opening is meaning agrees))

  pub play_more : (from mid to : E) (wanted : Opening) (commands : List Command) (given : List Reply) (taken left : List Snapshot) (engine after : EngineOf E C FP F B) (command : Command) (reply : Reply)
      → RunsCommandsSoFar C FP keys env formats store from wanted commands given taken engine mid → AnswersCommand keys env formats engine mid taken command reply after to left
      → RunsCommandsSoFar C FP keys env formats store from wanted (commands ++ command ∷ []) (given ++ reply ∷ []) left after to
  play_more from mid to wanted commands given taken left engine after command reply plays answered modelled opening is meaning agrees old represents =
      let so_far = plays modelled opening is meaning agrees old represents in
      let turns = so_far.0 in
      let turn : Turn = turn_of taken command answered.answer reply in
      let led = one_more keys env formats only_now store meaning modelled from mid to (open_store opening ∷ requests_in turns) (done ∷ answers_in turns) (Some engine) (Some after) turn.request turn.answer old so_far.2 answered.step in (
        turns ++ turn ∷ [],
        turns_of_more turns commands given taken left command answered.answer reply so_far.1 answered.tells answered.left_is,
        subst (λ as'. MoveRule C FP keys env formats store meaning from (open_store opening ∷ requests_in (turns ++ turn ∷ [])) (done ∷ as') (Some after) to old) (answers_more turns turn)
            (subst (λ rs. MoveRule C FP keys env formats store meaning from (open_store opening ∷ rs) (done ∷ (answers_in turns ++ turn.answer ∷ [])) (Some after) to old) (requests_more turns turn) led),
      )

  pub play_end : (from mid to : E) (wanted : Opening) (commands : List Command) (given : List Reply) (taken : List Snapshot) (engine : EngineOf E C FP F B) (result : Result (Unit {0}) Status)
      → RunsCommandsSoFar C FP keys env formats store from wanted commands given taken engine mid → Answers keys env formats (Some engine) mid abandon (done_or result) None to
      → RunsCommandsAlways env store from wanted commands given result to
  play_end from mid to wanted commands given taken engine result plays answers_so modelled opening is meaning agrees old represents =
      let so_far = plays modelled opening is meaning agrees old (no_other (env.observed from).disk old represents) in
      let requests = requests_in so_far.0 in
      let answers = answers_in so_far.0 in
      inl (
        requests,
        answers,
        turns_asked so_far.0 commands given taken so_far.1,
        leads_to_none meaning from (open_store opening ∷ (requests ++ abandon ∷ [])) (done ∷ (answers ++ done_or result ∷ [])) to old
            (one_more keys env formats only_now store meaning modelled from mid to (open_store opening ∷ requests) (done ∷ answers) (Some engine) None abandon (done_or result) old so_far.2 answers_so),
      )

  pub not_opened : (options : OptionsOf C FP B) (from to : E) (wanted : Opening) (commands : List Command) (given : List Reply) (status : Status) → given ≡ []
      → OpensAs C FP keys env formats store from wanted (refused (refusal_of status)) (no_engine options) to → RunsCommandsAlways env store from wanted commands given (Err status) to
  not_opened options from to wanted commands given status none opens modelled opening is meaning agrees old represents =
      inr (
        none,
        inl (leads_to_none meaning from (open_store opening ∷ []) (refused (refusal_of status) ∷ []) to old
            (first_one keys env formats only_now store meaning modelled from to (no_engine options) (open_store opening) (refused (refusal_of status)) old (no_other (env.observed from).disk old represents) (opens opening is meaning agrees))),
      )

-- a run whose store is abandoned at last fails for the same reason
pub abandon_fails : {Excused : Status → Type 0} (before mid after : ℕ)
    (result : Result (Unit {0}) Status) → before ≤ mid → HasCause (λ _. ⊥) mid after result
    → FailsFor Excused before after result
abandon_fails before mid after (Ok nothing) first cause =
    record { later = omega (arith, first, cause.later); cause = tt }
abandon_fails before mid after (Err status) first cause = record {
  later = omega (arith, first, cause.later);
  cause = ⊎_elim (λ never. absurd never)
      (λ counted. inr (failed_later before mid after first cause.later (⊎_elim
      (λ (more : after ≡ mid + 1). inl (omega (arith, more)))
      (λ (full : (mid ≡ 2 ^ 64 - 1) × (after ≡ mid)). inr full.0) counted))) cause.cause;
}

-- a run that had no memory to begin
pub not_begun : {E F : Type 0} (env : Ghosts E F) (store : List ℕ) (asked : Opening) (commands : List Command) (from : E) (given : List Reply) (status : Status) → given ≡ [] → IsOutOfMemory status
    → HasRun env store asked commands from given (Err status) from
not_begun env store asked commands from given status none memory = record {
  plays = λ modelled opening is meaning agrees old represents. inr (none, inr (memory, refl));
  unopened = λ modelled never. (
    none,
    record { lock = inl refl; files = begun (env.observed from) (inl refl); others = spares_still store (IsOwn store) (env.observed from).disk },
  );
  misnamed = λ no. (refl, none, tt);
}

-- a command behind those that were answered
pub commands_up_to : (commands : List Command) (i : ℕ) (command : Command) → i < length commands → command ≡ get_or commands i command → take (i + 1) commands ≡ take i commands ++ command ∷ []
commands_up_to commands i command below is = take_more commands i command below ∙ ap (λ (c : Command). take i commands ++ c ∷ []) (sym is)
