-- Runs and lives of the machine are stories of the headline.
use Rattle.std.proofs.Common.{◌≡◌, ◌≤◌, ◌<◌, ◌⊎◌, ⊎_elim, inl, inr, ℕ, true, false, List, [], ◌∷◌, ◌++◌, length, take, refl, sym, ◌∙◌, ap, subst, arith, Option, Some, None, All, append-nil, length-take}
use Rattle.std.specs.Prelude.{Bool, option_to_list, IsSome, IsTrue}
use Rattle.std.specs.declared.cmp.Ordering.{Ordering}
use Rattle.std.proofs.lemmas.List.{take_all}
use Rattle.std.proofs.lemmas.List.Elements.{All-head, All-tail}
use Rattle.leveldb_base.specs.History.{Item, entries_of, with_batch}
use Rattle.leveldb_files.specs.Stores.Format.{Format, Meaning}
use Rattle.rusty_leveldb.specs.Headline as headline
use Rattle.rusty_leveldb.specs.Headline.{Batch, map_of, UserStore, is_open, is_closed, fresh_store, Call, CallOutcome, CallRow, handed_on, CrashRow, returned, crash, IsStory}
use Rattle.rusty_leveldb.specs.Machines.State.{Mode, open_mode, broken, closed, Opening, State, IsState, Request, open_store, write, done}
use Rattle.rusty_leveldb.specs.Machines.Causes.{Setting}
use Rattle.rusty_leveldb.specs.Machines.Machine.{Step, added_batch, Risk, risk_between, risk_of, Crashes}
use Rattle.rusty_leveldb.specs.Machines.Runs.{Event, setting_of, RunsEvents, CrashBefore, last_moment, Ending, goes_on, crashes, Life, LifeLeads, Lives, new_state}
use Rattle.rusty_leveldb.specs.Machines.Laws.{asked_by}
use Rattle.rusty_leveldb.specs.Machines.Shown.{changes_of, store_mode_of, HasMap, AreShownAs, IsShownAs, written_by, IsWriteCutShort, TellsEvents, TellsLife, TellsLives, IsOpenedIn, AreOpenedIn, LivesAreStories, RunsAreStories}
use Rattle.rusty_leveldb.proofs.Machines.MachineLemmas.{Change, same, opens, stays, keeps, writes, covers, breaks, breaks_with, gives, releases, closes, abandons, change, none_pending, step_fits, crash_between_fits, crash_inside_fits}
use Rattle.rusty_leveldb.proofs.Machines.RunsLemmas.{all_front}
use Rattle.rusty_leveldb.proofs.Machines.LawsLemmas.{new_is_state}
use Rattle.rusty_leveldb.proofs.Headline.MapLemmas.{none_shown, prefix_shown, more_shown}
use Rattle.rusty_leveldb.proofs.Headline.ShownLemmas.{none_pending_shown, shown_with_none}
use Rattle.rusty_leveldb.proofs.Headline.RowLemmas.{steps_are_rows}

-- ---- the order of keys stays

module _ (cmp : List ℕ → List ℕ → Ordering) (old new : State) (request : Request)
    (order : old.format.order ≡ cmp) (opened : IsOpenedIn cmp request) where
  pub order_after : Change old request new → new.format.order ≡ cmp
  order_after (same e) = ap (λ (s : State). s.format.order) e ∙ order
  order_after (opens opening asked o) =
      ap (λ (s : State). s.format.order) o.state ∙ subst (IsOpenedIn cmp) asked opened
  order_after (stays opening setting refusal cause m s) =
      ap (λ (t : State). t.format.order) s.state ∙ order
  order_after (keeps k) = ap (λ (s : State). s.format.order) k.state ∙ order
  order_after (writes items sync asked m w) = ap (λ (s : State). s.format.order) w.state ∙ order
  order_after (covers c) = ap (λ (s : State). s.format.order) c.state ∙ order
  order_after (breaks m b) = ap (λ (s : State). s.format.order) b.state ∙ order
  order_after (breaks_with items asked m b) = ap (λ (s : State). s.format.order) b.state ∙ order
  order_after (gives one m g) = ap (λ (s : State). s.format.order) g.state ∙ order
  order_after (releases one asked m r) = ap (λ (s : State). s.format.order) r.state ∙ order
  order_after (closes asked c) = ap (λ (s : State). s.format.order) c.state ∙ order
  order_after (abandons locked asked a) = ap (λ (s : State). s.format.order) a.state ∙ order

-- the order of keys is none of an opening's row
done_in_any : (a b : List ℕ → List ℕ → Ordering) (old new : UserStore) (outcome : CallOutcome)
    → CallRow a is_closed old headline.open_store outcome new
    → CallRow b is_closed old headline.open_store outcome new
done_in_any a b old new headline.done row = row
done_in_any a b old new (headline.failed why) row = row
done_in_any a b old new (headline.found value) row = absurd row.1
done_in_any a b old new (headline.walked results) row = absurd row.1
done_in_any a b old new (headline.snapshot number) row = absurd row.1
done_in_any a b old new (headline.barred mode) row = absurd row.1

pub opens_in_any : (a b : List ℕ → List ℕ → Ordering) (old new : UserStore) (call : Call)
    (outcome : CallOutcome) → old.mode ≡ is_closed → call ≡ headline.open_store
    → CallRow a old.mode old call outcome new
    → CallRow b old.mode old headline.open_store outcome new
opens_in_any a b old new call outcome closed_so is row =
    subst (λ mode. CallRow b mode old headline.open_store outcome new) (sym closed_so)
    (done_in_any a b old new outcome
    (subst (λ mode. CallRow a mode old headline.open_store outcome new) closed_so
    (subst (λ c. CallRow a old.mode old c outcome new) is row)))

-- an opening that is done has its format
pub opened_format : (at : Setting) (opening : Opening) (old new : State) (mode : Mode)
    → Step mode at old (open_store opening) done new → new.format.order ≡ opening.format.order
opened_format at opening old new closed step = ap (λ (s : State). s.format.order) step.1.state
opened_format at opening old new broken step = absurd step
opened_format at opening old new open_mode step = absurd step

-- ---- crashes

-- what a crash leaves, by the batches that show what was at risk
crash_shown : (old : State) (risk : Risk) (new : State) (batches : List Batch)
    → AreShownAs risk.history batches → (c : Crashes old risk new)
    → IsShownAs new (fresh_store (take c.prefix.count batches) c.prefix.count is_closed)
crash_shown old risk new batches shown c =
    subst (λ s. IsShownAs s (fresh_store (take c.prefix.count batches) c.prefix.count is_closed))
    (sym c.state) (record {
      batches = first;
      pending = shown_with_none new.history (take c.prefix.count batches) first;
      durable = let there = c.prefix.there in let l = ap length c.prefix.first in
          omega (arith, length-take c.prefix.count risk.history);
      held = tt;
      given = refl;
      mode = refl;
    })
  where
    first : AreShownAs new.history (take c.prefix.count batches)
    first = subst (λ h. AreShownAs h (take c.prefix.count batches)) (sym c.prefix.first)
        (prefix_shown risk.history batches shown c.prefix.count)

-- a row of the headline, if these are the batches that were handed on
crash_row : (store : UserStore) (cut : Option Batch) (batches : List Batch) (n : ℕ)
    → (IsSome cut → store.mode ≡ is_open) → store.durable ≤ n → n ≤ length batches
    → batches ≡ handed_on store cut
    → CrashRow store cut (fresh_store (take n batches) n is_closed)
crash_row store cut batches n writing enough there e = record {
  writing = writing;
  count = n;
  enough = enough;
  there = subst (λ b. n ≤ length b) e there;
  rest = ap (λ b. fresh_store (take n b) n is_closed) e;
}

-- what a crash leaves of a store
pub record CrashIsTold (store : UserStore) (cut : Option Batch) (new : State) : Type 0 where
  pub left : UserStore
  pub row : CrashRow store cut left
  pub shown : IsShownAs new left

module _ (old : State) (store : UserStore) (is : IsState old) (shown : IsShownAs old store) where
  -- by what was at risk
  crash_told : (risk : Risk) (new : State) (cut : Option Batch) (batches : List Batch)
      → AreShownAs risk.history batches → batches ≡ handed_on store cut
      → (IsSome cut → store.mode ≡ is_open) → Crashes old risk new → CrashIsTold store cut new
  crash_told risk new cut batches are e writing c = record {
    left = fresh_store (take c.prefix.count batches) c.prefix.count is_closed;
    row = crash_row store cut batches c.prefix.count writing
        (let d = shown.durable in let enough = c.prefix.enough in omega arith)
        (let there = c.prefix.there in let count = are.count in omega arith) e;
    shown = crash_shown old risk new batches are c;
  }

  none_cut : IsSome {T = Batch} None → store.mode ≡ is_open
  none_cut some = absurd (let f : false ≡ true = some in cc)

  -- what was there before the request, and what was pending
  as_before : (risk : Risk) (new : State) → risk.history ≡ with_batch old.history old.pending
      → Crashes old risk new → CrashIsTold store None new
  as_before risk new e c =
      crash_told risk new None (store.batches ++ option_to_list store.pending)
      (subst (λ h. AreShownAs h (store.batches ++ option_to_list store.pending)) (sym e)
      shown.pending) (sym (append-nil (store.batches ++ option_to_list store.pending))) none_cut c

  pub between_told : (new : State) → Crashes old (risk_between old) new → CrashIsTold store None new
  between_told new c = as_before (risk_between old) new refl c

  -- the batch of a write too
  with_written : (items : List Item) (risk : Risk) (new : State) → old.mode ≡ open_mode
      → risk.history ≡ old.history ++ added_batch old items ∷ [] → Crashes old risk new
      → CrashIsTold store (Some (changes_of items)) new
  with_written items risk new m e c =
      crash_told risk new (Some (changes_of items)) (store.batches ++ changes_of items ∷ [])
      (subst (λ h. AreShownAs h (store.batches ++ changes_of items ∷ [])) (sym e)
      (more_shown old.history store.batches shown.batches old.last items is.reached))
      (ap (λ b. b ++ changes_of items ∷ []) (sym (append-nil store.batches)
      ∙ ap (λ p. store.batches ++ option_to_list p)
      (sym (none_pending_shown old store shown (none_pending old is m)))))
      (λ some. shown.mode ∙ ap store_mode_of m) c

  -- ---- inside a request

  module _ (request : Request) (next : State) where
    -- what is at risk if the request leaves the history and what is pending
    unchanged_risk : with_batch next.history next.pending ≡ with_batch old.history old.pending
        → (risk_of request old next).history ≡ with_batch old.history old.pending
    unchanged_risk e = by request
      where
        by : (request : Request)
            → (risk_of request old next).history ≡ with_batch old.history old.pending
        by (open_store opening) = refl
        by request = e

    -- a cut that may be told of the request
    pub record InsideIsTold (new : State) : Type 0 where
      pub cut : Option Batch
      pub asked : (cut ≡ None) ⊎ (cut ≡ written_by request)
      pub told : CrashIsTold store cut new

    left_as_is : (new : State)
        → with_batch next.history next.pending ≡ with_batch old.history old.pending
        → Crashes old (risk_of request old next) new → InsideIsTold new
    left_as_is new e c = record {
      cut = None;
      asked = inl refl;
      told = as_before (risk_of request old next) new (unchanged_risk e) c;
    }

    -- a request that writes these items
    write_at_risk : (items : List Item) (request : Request) → asked_by request ≡ items ∷ []
        → ((risk_of request old next).history ≡ with_batch next.history next.pending)
        × (Some (changes_of items) ≡ written_by request)
    write_at_risk items (write others sync) asked =
        let e : items ≡ others = cc in (refl, ap (λ i. Some (changes_of i)) e)
    write_at_risk items request asked = absurd (cc)

    left_written : (items : List Item) (new : State) → old.mode ≡ open_mode
        → asked_by request ≡ items ∷ []
        → with_batch next.history next.pending ≡ old.history ++ added_batch old items ∷ []
        → Crashes old (risk_of request old next) new → InsideIsTold new
    left_written items new m asked e c =
        let risk = write_at_risk items request asked in
        record {
          cut = Some (changes_of items);
          asked = inr risk.1;
          told = with_written items (risk_of request old next) new m (risk.0 ∙ e) c;
        }

    pub inside_told : (new : State) → Change old request next
        → Crashes old (risk_of request old next) new → InsideIsTold new
    inside_told new (same e) c =
        left_as_is new (ap (λ (s : State). with_batch s.history s.pending) e) c
    inside_told new (opens opening asked o) c = record {
      cut = None;
      asked = inl refl;
      told = as_before (risk_of request old next) new
          (ap (λ r. (risk_of r old next).history) asked) c;
    }
    inside_told new (stays opening setting refusal cause m s) c =
        left_as_is new (ap (λ (t : State). with_batch t.history t.pending) s.state) c
    inside_told new (keeps k) c =
        left_as_is new (ap (λ (s : State). with_batch s.history s.pending) k.state) c
    inside_told new (writes items sync asked m w) c =
        left_written items new m asked
        (ap (λ (s : State). with_batch s.history s.pending) w.state
        ∙ ap (with_batch (old.history ++ added_batch old items ∷ [])) (none_pending old is m)) c
    inside_told new (covers a) c =
        left_as_is new (ap (λ (s : State). with_batch s.history s.pending) a.state) c
    inside_told new (breaks m b) c =
        left_as_is new (ap (λ (s : State). with_batch s.history s.pending) b.state
        ∙ sym (ap (with_batch old.history) (none_pending old is m))) c
    inside_told new (breaks_with items asked m b) c =
        left_written items new m asked
        (ap (λ (s : State). with_batch s.history s.pending) b.state) c
    inside_told new (gives one m g) c =
        left_as_is new (ap (λ (s : State). with_batch s.history s.pending) g.state) c
    inside_told new (releases one asked m r) c =
        left_as_is new (ap (λ (s : State). with_batch s.history s.pending) r.state) c
    inside_told new (closes asked a) c =
        left_as_is new (ap (λ (s : State). with_batch s.history s.pending) a.state) c
    inside_told new (abandons locked asked a) c =
        left_as_is new (ap (λ (s : State). with_batch s.history s.pending) a.state) c

-- ---- stories

module _ (cmp : List ℕ → List ℕ → Ordering) where
  pub both_told : (front rest : List headline.StoryEvent) (a b c : UserStore) → IsStory cmp a front b
      → IsStory cmp b rest c → IsStory cmp a (front ++ rest) c
  both_told [] rest a b c first then = subst (λ s. IsStory cmp s rest c) first then
  both_told (returned call outcome ∷ front) rest a b c first then =
      (first.0, first.1, both_told front rest first.0 b c first.2 then)
  both_told (crash cut ∷ front) rest a b c first then =
      (first.0, first.1, both_told front rest first.0 b c first.2 then)

  -- what came of events that were told, up to this state
  pub record IsTold (Tells : List headline.StoryEvent → Type 0) (store : UserStore) (last : State)
      : Type 0 where
    pub told : List headline.StoryEvent
    pub next : UserStore
    pub tells : Tells told
    pub story : IsStory cmp store told next
    pub shown : IsShownAs last next
    pub is : IsState last
    pub order : last.format.order ≡ cmp

  module _ (meaning : Meaning) where
    run_told : (events : List Event) (before after : ℕ) (old last : State) (store : UserStore)
        → IsState old → IsShownAs old store → old.format.order ≡ cmp
        → All (λ event. IsOpenedIn cmp event.request) events
        → RunsEvents meaning before old events after last → IsTold (TellsEvents events) store last
    run_told [] before after old last store is shown order opened run = record {
      told = [];
      next = store;
      tells = tt;
      story = refl;
      shown = subst (λ s. IsShownAs s store) (sym run.1) shown;
      is = subst IsState (sym run.1) is;
      order = ap (λ (s : State). s.format.order) run.1 ∙ order;
    }
    run_told (event ∷ events) before after old last store is shown order opened run =
        let next = run.1 in
        let setting = setting_of meaning before event in
        let row = steps_are_rows cmp setting old next event.request event.answer store is shown
        order run.2 in
        let rest = run_told events event.failures after next last row.next
        (step_fits setting old next event.request event.answer is run.2) row.shown
        (order_after cmp old next event.request order
        (All-head (λ (e : Event). IsOpenedIn cmp e.request) event events opened)
        (change setting old next event.request event.answer run.2))
        (All-tail (λ (e : Event). IsOpenedIn cmp e.request) event events opened) run.3 in
        record {
          told = returned row.call row.outcome ∷ rest.told;
          next = rest.next;
          tells = (row.asked, row.told, rest.tells);
          story = (row.next, row.row, rest.story);
          shown = rest.shown;
          is = rest.is;
          order = rest.order;
        }

    -- a crash before these events
    pub record CutIsTold (store : UserStore) (undone : List Event) (new : State) : Type 0 where
      pub cut : Option Batch
      pub is_cut : IsWriteCutShort undone cut
      pub told : CrashIsTold store cut new
      pub is : IsState new

    pub cut_told : (undone : List Event) (last_answer moment : ℕ) (inside : Bool) (failures end : ℕ)
        (state last new : State) (store : UserStore) → IsState state → IsShownAs state store
        → CrashBefore meaning last_answer moment inside failures state undone end last new
        → CutIsTold store undone new
    cut_told [] last_answer moment inside failures end state last new store is shown c = record {
      cut = None;
      is_cut = refl;
      told = between_told state store is shown new c.2;
      is = crash_between_fits state new is c.2;
    }
    cut_told (event ∷ later) last_answer moment inside failures end state last new store is shown c =
        let setting = setting_of meaning failures event in
        ⊎_elim
        (λ (out : (moment ≡ last_answer) × (inside ≡ false)
        × Crashes state (risk_between state) new).
        let between : CutIsTold store (event ∷ later) new = record {
          cut = None;
          is_cut = inl refl;
          told = between_told state store is shown new out.2;
          is = crash_between_fits state new is out.2;
        } in between)
        (λ (in' : ((last_answer < moment) ⊎ IsTrue inside)
        × Crashes state (risk_of event.request state c.1) new).
        let told = inside_told state store is shown event.request c.1 new
        (change setting state c.1 event.request event.answer c.2) in'.1 in
        let inner : CutIsTold store (event ∷ later) new = record {
          cut = told.cut;
          is_cut = told.asked;
          told = told.told;
          is = crash_inside_fits setting state c.1 new event.request event.answer is c.2 in'.1;
        } in inner) c.4

    -- the format stays in a crash
    pub order_left : (undone : List Event) (last_answer moment : ℕ) (inside : Bool) (failures end : ℕ)
        (state last new : State) → state.format.order ≡ cmp
        → CrashBefore meaning last_answer moment inside failures state undone end last new
        → new.format.order ≡ cmp
    order_left [] last_answer moment inside failures end state last new order c =
        ap (λ (s : State). s.format.order) c.2.state ∙ order
    order_left (event ∷ later) last_answer moment inside failures end state last new order c =
        ⊎_elim
        (λ (out : (moment ≡ last_answer) × (inside ≡ false)
        × Crashes state (risk_between state) new).
        ap (λ (s : State). s.format.order) out.2.state ∙ order)
        (λ (in' : ((last_answer < moment) ⊎ IsTrue inside)
        × Crashes state (risk_of event.request state c.1) new).
        ap (λ (s : State). s.format.order) in'.1.state ∙ order) c.4

    -- a life to its end
    life_told : (ending : Ending) (events : List Event) (start before after : ℕ)
        (old new : State) (store : UserStore) → IsState old → IsShownAs old store
        → old.format.order ≡ cmp → All (λ event. IsOpenedIn cmp event.request) events
        → LifeLeads meaning start before old events ending after new
        → IsTold (TellsLife events ending) store new
    life_told goes_on events start before after old new store is shown order opened leads =
        run_told events before after old new store is shown order opened leads
    life_told (crashes moment inside counted) events start before after old new store is shown order
        opened leads =
        let stops = leads.0.2 in
        let run = run_told stops.done before stops.failures old stops.state store is shown order
        (all_front (λ (e : Event). IsOpenedIn cmp e.request) stops.done stops.undone
        (subst (All (λ (e : Event). IsOpenedIn cmp e.request)) stops.split opened)) stops.run in
        let cut = cut_told stops.undone (last_moment start stops.done) moment inside stops.failures
        leads.0.0 stops.state leads.0.1 new run.next run.is run.shown stops.crash in
        record {
          told = run.told ++ crash cut.cut ∷ [];
          next = cut.told.left;
          tells = record {
            done = stops.done;
            undone = stops.undone;
            split = stops.split;
            by_then = stops.by_then;
            not_yet = stops.not_yet;
            before = run.told;
            answers = run.tells;
            cut = cut.cut;
            is_cut = cut.is_cut;
            told_is = refl;
          };
          story = both_told run.told (crash cut.cut ∷ []) store run.next cut.told.left run.story
              (cut.told.left, cut.told.row, refl);
          shown = cut.told.shown;
          is = cut.is;
          order = order_left stops.undone (last_moment start stops.done) moment inside
              stops.failures leads.0.0 stops.state leads.0.1 new run.order stops.crash;
        }

    lives_told : (lives : List Life) (before after : ℕ) (old last : State) (store : UserStore)
        → IsState old → IsShownAs old store → old.format.order ≡ cmp → AreOpenedIn cmp lives
        → Lives meaning before old lives after last → IsTold (TellsLives lives) store last
    lives_told [] before after old last store is shown order opened leads = record {
      told = [];
      next = store;
      tells = refl;
      story = refl;
      shown = subst (λ s. IsShownAs s store) (sym leads.1) shown;
      is = subst IsState (sym leads.1) is;
      order = ap (λ (s : State). s.format.order) leads.1 ∙ order;
    }
    lives_told (life ∷ lives) before after old last store is shown order opened leads =
        let one = life_told life.ending life.events life.start before leads.0 old leads.1 store is
        shown order
        (All-head (λ (l : Life). All (λ event. IsOpenedIn cmp event.request) l.events) life lives
        opened) leads.2 in
        let rest = lives_told lives leads.0 after leads.1 last one.next one.is one.shown one.order
        (All-tail (λ (l : Life). All (λ event. IsOpenedIn cmp event.request) l.events) life lives
        opened) leads.3 in
        record {
          told = one.told ++ rest.told;
          next = rest.next;
          tells = (one.told, rest.told, refl, one.tells, rest.tells);
          story = both_told one.told rest.told store one.next rest.next one.story rest.story;
          shown = rest.shown;
          is = rest.is;
          order = rest.order;
        }

pub lives_are_stories : LivesAreStories
lives_are_stories cmp meaning lives before after old last store is shown order opened leads =
    let told = lives_told cmp meaning lives before after old last store is shown order opened
    leads in
    (told.told, told.next, told.tells, told.story, told.shown)

-- ---- from nothing on

nothing_shown : AreShownAs [] []
nothing_shown = record {
  count = refl;
  maps = λ n. subst (λ x. HasMap (entries_of (take n [])) (map_of x))
      (sym (take_all n [] (omega arith)))
      (subst (λ x. HasMap (entries_of x) (map_of [])) (sym (take_all n [] (omega arith)))
      none_shown);
}

pub new_shown : (format : Format) → IsShownAs (new_state format) (fresh_store [] 0 is_closed)
new_shown format = record {
  batches = nothing_shown;
  pending = nothing_shown;
  durable = omega arith;
  held = tt;
  given = refl;
  mode = refl;
}

pub runs_are_stories : RunsAreStories
runs_are_stories meaning format lives after last opened leads =
    lives_are_stories format.order meaning lives 0 after (new_state format) last
    (fresh_store [] 0 is_closed) (new_is_state format) (new_shown format) refl opened leads
