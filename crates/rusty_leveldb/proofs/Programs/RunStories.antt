-- The replies of a run are a story of the headline, since the run is one of the machine.
use Rattle.std.proofs.Common.{◌≡◌, ◌≤◌, ⊎_elim, inl, inr, ℕ, List, [], ◌∷◌, ◌++◌, refl, sym, ◌∙◌, ap, subst, arith, None, Result, Ok, Err}
use Rattle.std.specs.Prelude.{All}
use Rattle.std.specs.declared.cmp.Ordering.{Ordering}
use Rattle.std.proofs.lemmas.List.Elements.{All-cons, All-nil}
use Rattle.leveldb_base.specs.Error.{IsOutOfMemory}
use Rattle.leveldb_base.specs.declared.error.Status.{Status}
use Rattle.leveldb_env.specs.Env.{Files, FilesCrashTo}
use Rattle.leveldb_env.specs.declared.env.Env.{Ghosts}
use Rattle.leveldb_files.specs.Histories.Holds.{IsHonest}
use Rattle.leveldb_files.specs.Stores.Format.{Meaning}
use Rattle.rusty_leveldb.specs.declared.shell.commands.Command.{Command}
use Rattle.rusty_leveldb.specs.declared.shell.commands.Reply.{Reply}
use Rattle.rusty_leveldb.specs.Engines.Engine.{scene}
use Rattle.rusty_leveldb.specs.Engines.Serves.{Runs, StandsFor, recalls_nothing, done_or, refusal_of}
use Rattle.rusty_leveldb.specs.Engines.Witness.{stored}
use Rattle.rusty_leveldb.specs.Headline as headline
use Rattle.rusty_leveldb.specs.Headline.{CallOutcome, StoryEvent, UserStore, returned, crash}
use Rattle.rusty_leveldb.specs.Machines.Runs.{Event}
use Rattle.rusty_leveldb.specs.Machines.Shown.{IsOpenedIn, IsOutcomeOf, IsShownAs, TellsEvents}
use Rattle.rusty_leveldb.specs.Machines.State.{Answer, Opening, Request, State, abandon, closed, done, open_store, refused}
use Rattle.rusty_leveldb.specs.Programs.Lives.{with_name}
use Rattle.rusty_leveldb.specs.Programs.Shell.{AreAsked, HasRun, RunsCommands}
use Rattle.rusty_leveldb.specs.Programs.Story.{AreCalled, IsRunOf, IsRunStory, LeadsTo, SaysRun}
use Rattle.rusty_leveldb.specs.Says.{Place}
use Rattle.rusty_leveldb.proofs.Engines.Crashes.{crash_between}
use Rattle.rusty_leveldb.proofs.Headline.OwnLemmas.{AreOwn, IsOpening, OpensFirst, run_above}
use Rattle.rusty_leveldb.proofs.Headline.StoryLemmas.{between_told}
use Rattle.rusty_leveldb.proofs.Programs.CallsMade.{refused_with}
use Rattle.rusty_leveldb.proofs.Programs.LifeStories.{all_cut, all_own, all_tells, all_told, called_is, run_is}
use Rattle.rusty_leveldb.proofs.Programs.Playing.{OnlyNow}
use Rattle.rusty_leveldb.proofs.Programs.StoreNames.{named, opens_so}
use Rattle.rusty_leveldb.proofs.Programs.Storied as storied
use Rattle.rusty_leveldb.proofs.Programs.Storied.{all_mapped, asked_open_none, opens_first, requests_opened}

module _ {E F : Type 0} (env : Ghosts E F) (only_now : OnlyNow env) (name : List ℕ)
    (meaning : Meaning) (asked : Opening) (commands : List Command) (from to : E)
    (given : List Reply) (opening : Opening) (order_is : opening.format.order ≡ asked.format.order)
    (old : State) (store : UserStore) (stands : StandsFor name meaning (env.observed from).disk old)
    (closed_so : old.mode ≡ closed) (shown : IsShownAs old store) where
  abbrev place : Place
  place = record { name = name; meaning = meaning }

  abbrev order : List ℕ → List ℕ → Ordering
  order = asked.format.order

  -- what came about in a run that ended so
  abbrev CameAbout : Result (Unit {0}) Status → Type 0
  CameAbout ended = IsRunStory env stored place order store commands from given ended to

  -- these requests had these answers
  abbrev LeadsFrom : List Request → List Answer → Type 0
  LeadsFrom requests answers = (moments : List ℕ)
      × Runs name meaning recalls_nothing env.models_moments (scene env None from) requests
      answers moments (scene env None to) old

  -- a run of the machine whose events are told as those of this run
  module _ (ended : Result (Unit {0}) Status) (requests : List Request) (answers : List Answer)
      (leads : LeadsFrom requests answers) (first : OpensFirst leads.1.events)
      (opened : All (IsOpenedIn order) requests)
      (is_run : (told : List StoryEvent) → TellsEvents leads.1.events told
      → AreOwn [] leads.1.events told
      → IsRunOf ended commands given told × (told ≡ [] → ⊥)) where
    opened_so : All (λ event. IsOpenedIn order event.request) leads.1.events
    opened_so = all_mapped (IsOpenedIn order) (λ (event : Event). event.request) leads.1.events
        (subst (All (IsOpenedIn order)) (sym leads.1.asked.requests_are) opened)

    told_so : CameAbout ended
    told_so =
        let all = storied.all_told env name meaning order from to requests answers leads.0 old store
        stands.is_state shown leads.1 first opened_so in
        let run = is_run all.told all.tells.0 all.tells.1 in
        record {
          events = all.told;
          are_events = run.0;
          leads = all.leads;
          nothing = λ none. absurd (run.1 none);
          crashes = λ moment left since at.
              let one = storied.crash_told env name meaning order from to requests answers leads.0
              old store stands.is_state shown leads.1 first opened_so moment left since at in (
                all_told leads.1.events moment one.told one.tells,
                one.told,
                (is_run (all_told leads.1.events moment one.told one.tells)
                    (all_tells leads.1.events moment one.told one.tells)
                    (all_own leads.1.events moment one.told one.tells)).0,
                all_cut leads.1.events moment one.told one.tells,
                one.leads,
              );
        }

  -- the store was opened
  module _ (requests : List Request) (answers : List Answer)
      (are : AreAsked commands given requests answers) where
    ended_so : (ended : Result (Unit {0}) Status) (outcome : CallOutcome)
        (events : List StoryEvent) → IsOutcomeOf (done_or ended) outcome
        → AreCalled commands given outcome events → IsRunOf ended commands given events
    ended_so (Ok value) outcome events is called =
        subst (λ o. AreCalled commands given o events) is called
    ended_so (Err status) outcome events is called =
        inl (outcome, refused_with status outcome is, called)

    opened : (ended : Result (Unit {0}) Status)
        → LeadsFrom (open_store opening ∷ (requests ++ abandon ∷ []))
        (done ∷ (answers ++ done_or ended ∷ [])) → CameAbout ended
    opened ended leads = told_so ended (open_store opening ∷ (requests ++ abandon ∷ []))
        (done ∷ (answers ++ done_or ended ∷ [])) leads
        (opens_first opening (requests ++ abandon ∷ []) done (answers ++ done_or ended ∷ [])
        leads.1.events leads.1.asked.requests_are leads.1.asked.answers_are
        (asked_open_none commands given requests answers are) (inl refl))
        (requests_opened order opening requests (Ok tt) commands given answers order_is are)
        (λ told tells own.
        let called = called_is opening commands given requests answers (done_or ended)
        leads.1.events told are leads.1.asked.requests_are leads.1.asked.answers_are tells own
        (run_above meaning leads.1.events (env.failures from) (env.failures to) old leads.1.new
        leads.1.run) in (
          ended_so ended called.0 told called.2 called.1,
          λ none. let never : returned headline.open_store headline.done
              ∷ (called.1.0 ++ returned headline.abandon called.0 ∷ []) ≡ [] =
              sym called.1.2 ∙ none in absurd (cc),
        ))

  -- it wasn't opened
  unopened : (status : Status) → given ≡ []
      → LeadsFrom (open_store opening ∷ []) (refused (refusal_of status) ∷ [])
      → CameAbout (Err status)
  unopened status none leads = told_so (Err status) (open_store opening ∷ [])
      (refused (refusal_of status) ∷ []) leads
      (opens_first opening [] (refused (refusal_of status)) [] leads.1.events
      leads.1.asked.requests_are leads.1.asked.answers_are
      (All-nil (λ (request : Request). IsOpening request → ⊥)) (inr refl))
      (All-cons (IsOpenedIn order) (open_store opening) [] order_is (All-nil (IsOpenedIn order)))
      (λ told tells own.
      let is = run_is opening commands given [] [] done (Err status) leads.1.events told tt none
      leads.1.asked.requests_are leads.1.asked.answers_are tells own
      (run_above meaning leads.1.events (env.failures from) (env.failures to) old leads.1.new
      leads.1.run) in (
        inr (inl is),
        λ empty. let never : returned headline.open_store is.1 ∷ [] ≡ [] = sym is.3 ∙ empty in
            absurd (cc),
      ))

  -- it didn't begin, so a crash finds the disk as it was
  not_begun : (status : Status) → given ≡ [] → IsOutOfMemory status → to ≡ from
      → CameAbout (Err status)
  not_begun status none memory same = record {
    events = [];
    are_events = inr (inr (none, refl, memory.0));
    leads = subst (λ (at : E). LeadsTo stored place order store [] (env.observed at).disk)
        (sym same) (store, refl, (old, stands, closed_so, shown));
    nothing = λ empty. same;
    crashes = λ moment left since at.
        let now : at.files ≡ (env.observed from).disk.files = files_now moment at.files since
        (subst (λ (e : E). moment ≤ (env.observed e).moment) same at.come)
        (subst (λ (e : E). (env.observed e).at_moment moment at.files) same at.stood) in
        let c = crash_between name meaning old (env.observed from).disk left stands (record {
          files = subst (λ f. FilesCrashTo f left.files) now at.is_left.crashes;
          free = at.is_left.free;
        }) (subst (λ f. IsHonest name f left.files) now at.is_left.honest) in
        let told = between_told old store stands.is_state shown c.0 c.1 in (
          [],
          crash None ∷ [],
          inr (inr (none, refl, memory.0)),
          ([], [], None, refl, refl, refl),
          (
            told.left,
            (told.left, told.row, refl),
            (c.0, c.2, ap (λ (s : State). s.mode) c.1.state, told.shown),
          ),
        );
  }
    where
      files_now : (moment : ℕ) (files : Files) → (env.observed from).moment ≤ moment
          → moment ≤ (env.observed from).moment → (env.observed from).at_moment moment files
          → files ≡ (env.observed from).disk.files
      files_now moment files since come stood =
          let here : moment ≡ (env.observed from).moment = omega (arith, since, come) in
          only_now.0 from files (subst (λ m. (env.observed from).at_moment m files) here stood)

  by_calls : (ended : Result (Unit {0}) Status)
      → RunsCommands env name meaning from opening commands given ended to old → CameAbout ended
  by_calls ended (inl run) = opened run.0 run.1 run.2 ended run.3
  by_calls (Ok value) (inr none) = absurd none
  by_calls (Err status) (inr none) = ⊎_elim (unopened status none.0)
      (λ (early : IsOutOfMemory status × (to ≡ from)). not_begun status none.0 early.0 early.1) none.1

pub run_story : {E F : Type 0} (env : Ghosts E F) → OnlyNow env → (name : List ℕ)
    (asked : Opening) (commands : List Command) (from to : E) (given : List Reply)
    (ended : Result (Unit {0}) Status) → HasRun env name asked commands from given ended to
    → SaysRun env stored name asked.format commands from given ended to
run_story env only_now name asked commands from to given ended run modelled meaning agrees store
    held =
    let fits = named name in
    by_calls env only_now name meaning asked commands from to given (with_name fits.0 asked) refl
    held.0 store held.1 held.2 held.3 ended
    (run.plays modelled (with_name fits.0 asked) (opens_so name fits.0 asked fits.1) meaning agrees
    held.0 (record { disk_is = held.1; memory_is = held.2 }))
