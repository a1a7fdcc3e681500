-- What no life loses, what a history is made of, and what a look-up finds.
use Rattle.std.proofs.Common.{◌≡◌, ◌≢◌, ◌≤◌, ◌<◌, ◌+◌, ⊎_elim, inl, inr, ℕ, true, List, [], ◌∷◌, ◌++◌, length, take, drop, refl, sym, ◌∙◌, ap, subst, arith, Option, Some, None, All, Contains, append-nil, append_assoc, length-take}
use Rattle.std.proofs.lemmas.List.{take-append-drop, map-append}
use Rattle.std.proofs.lemmas.List.Concat.{flat_map-append}
use Rattle.std.proofs.lemmas.List.Elements.{All-nil, All-head, All-tail, Contains-append_right, Contains-append_cases}
use Rattle.leveldb_base.proofs.ConsistentLemmas.{batches_are_history}
use Rattle.leveldb_base.specs.History.{Item, Entry, History, IsPlaced, entries_of, greatest, with_batch, HasValueAt, IsValueAt}
use Rattle.leveldb_base.proofs.HistoryLemmas.{in_none, in_front, in_rest, in_cases}
use Rattle.leveldb_base.proofs.EntriesLemmas.{map_in}
use Rattle.leveldb_files.specs.Stores.Format.{Format, Meaning}
use Rattle.rusty_leveldb.specs.Machines.State.{Mode, open_mode, broken, closed, State, IsState, Request, write, get, flush, close, Answer, done, found}
use Rattle.rusty_leveldb.specs.Machines.Causes.{Setting}
use Rattle.rusty_leveldb.specs.Machines.Machine.{Gets, Step}
use Rattle.rusty_leveldb.specs.Machines.Runs.{Event, setting_of, RunsEvents, CrashBefore, last_moment, StopsAt, Ending, goes_on, crashes, Life, Lives, new_state}
use Rattle.rusty_leveldb.specs.Machines.Laws.{LivesFit, IsDoneSync, DurableStays, SyncedStays, IsInTime, EachAnswerParts, items_of, batches_of, IsSubsequence, asked_in, HistoryIsAsked, HistoryIsPlaced, MoreIsAsked, NoneHasKey, SyncedIsRead}
use Rattle.leveldb_files.proofs.Histories.NumbersLemmas.{up_to, up_to_greatest, entries_more}
use Rattle.rusty_leveldb.proofs.Machines.MachineLemmas.{before_pending, none_pending, step_fits}
use Rattle.rusty_leveldb.proofs.Machines.RunsLemmas.{Since, all_front, since_lives, some_all, some_front, without}

-- ---- what is durable

-- any state is one since its durable part
since_state : (old : State) → IsState old
    → Since ⊥ (take old.durable old.history) (batches_of (with_batch
    (drop old.durable old.history) old.pending)) old
since_state old is = record {
  is = is;
  more = drop old.durable old.history;
  history = sym (take-append-drop old.durable old.history);
  durable = let l = length-take old.durable old.history in omega arith;
  some = some_all (batches_of (with_batch (drop old.durable old.history) old.pending));
  placed = λ never. absurd never;
}

pub lives_fit : LivesFit
lives_fit meaning lives before after old new is leads =
    let since = since_lives meaning ⊥ (take old.durable old.history) (batches_of (with_batch
    (drop old.durable old.history) old.pending)) before old lives after new
    (since_state old is) leads in
    since.is

pub durable_stays : DurableStays
durable_stays meaning lives before after old last is leads =
    let since = since_lives meaning ⊥ (take old.durable old.history) (batches_of (with_batch
    (drop old.durable old.history) old.pending)) before old lives after last
    (since_state old is) leads in
    (since.more, since.history)

module _ (setting : Setting) (old new : State)
    (is : IsState old) where
  durable_in : (mode : Mode) (request : Request) (answer : Answer) → old.mode ≡ mode
      → IsDoneSync request answer → Step mode setting old request answer new
      → (new.durable ≡ length new.history) × (new.pending ≡ None)
  durable_in open_mode (write items sync) done m by s =
      (s.1.synced by, ap (λ (s : State). s.pending) s.1.state ∙ none_pending old is m)
  durable_in open_mode flush done m by s = (
    ap (λ (s : State). s.durable) s.1.state
        ∙ sym (ap (λ (s : State). length s.history) s.1.state),
    ap
        (λ (s : State). s.pending) s.1.state ∙ none_pending old is m,
  )
  durable_in open_mode close done m by s = (
    ap (λ (s : State). s.durable) s.1.state
        ∙ sym (ap (λ (s : State). length s.history) s.1.state),
    ap
        (λ (s : State). s.pending) s.1.state ∙ none_pending old is m,
  )
  durable_in broken (write items sync) done m by s = absurd s
  durable_in broken flush done m by s = absurd s
  durable_in broken close done m by s = absurd s
  durable_in closed (write items sync) done m by s = absurd s
  durable_in closed flush done m by s = absurd s
  durable_in closed close done m by s = absurd s
  durable_in mode request answer m by s = absurd by

  -- what is done so is a new beginning
  since_done : (request : Request) (answer : Answer) → Step old.mode setting old request answer new
      → IsDoneSync request answer → Since (Unit {0}) new.history [] new
  since_done request answer step by =
      let now = durable_in old.mode request answer refl by step in
      record {
        is = step_fits setting old new request answer is step;
        more = [];
        history = sym (append-nil new.history);
        durable = let c = now.0 in omega arith;
        some = subst (λ p. IsSubsequence (batches_of (with_batch [] p)) []) (sym now.1) tt;
        placed = λ always. subst (λ p. All IsPlaced (with_batch [] p)) (sym now.1) (All-nil IsPlaced);
      }

-- ---- what a history is made of

-- what comes after a part was asked for and is placed, also without the pending batch
module _ (part : History) (asked : List (List Item)) (state : State)
    (since : Since (Unit {0}) part asked state) where
  asked_alone : IsSubsequence (batches_of since.more) asked
  asked_alone =
      let rest = without since.more state.pending in
      some_front (batches_of since.more) (batches_of rest.0) asked
      (subst (λ batches. IsSubsequence batches asked) (ap batches_of rest.1
      ∙ map-append items_of since.more rest.0) since.some)

  placed_alone : All IsPlaced since.more
  placed_alone =
      let rest = without since.more state.pending in
      all_front IsPlaced since.more rest.0 (subst (All IsPlaced) rest.1 (since.placed tt))

pub more_is_asked : MoreIsAsked
more_is_asked meaning setting old next last request answer lives before after is step by leads =
    let since = since_lives meaning (Unit {0}) next.history [] before next lives after last
    (since_done setting old next is request answer step by) leads in (
      since.more,
      since.history,
      asked_alone next.history (asked_in lives) last since,
      placed_alone next.history (asked_in lives) last since,
    )

pub synced_stays : SyncedStays
synced_stays meaning setting old next last request answer lives before after is step by leads =
    let more = more_is_asked meaning setting old next last request answer lives before after is step by
    leads in
    (more.0, more.1)

pub new_is_state : (format : Format) → IsState (new_state format)
new_is_state format = record {
  history = tt;
  reached = omega arith;
  pending = omega arith;
  durable = omega arith;
  held = λ one there. absurd (in_none one there);
  mode = record { held = refl; given = refl };
}

-- since the machine was new
since_new : (meaning : Meaning) (format : Format) (lives : List Life) (after : ℕ) (last : State)
    → Lives meaning 0 (new_state format) lives after last
    → Since (Unit {0}) [] (asked_in lives) last
since_new meaning format lives after last leads =
    since_lives meaning (Unit {0}) [] [] 0 (new_state format) lives after last (record {
      is = new_is_state format;
      more = [];
      history = refl;
      durable = omega arith;
      some = tt;
      placed = λ always. All-nil IsPlaced;
    }) leads

pub history_is_asked : HistoryIsAsked
history_is_asked meaning format lives after last leads =
    let since = since_new meaning format lives after last leads in
    subst (λ h. IsSubsequence (batches_of h) (asked_in lives)) (sym since.history) (asked_alone []
    (asked_in lives) last since)

pub history_is_placed : HistoryIsPlaced
history_is_placed meaning format lives after last leads =
    let since = since_new meaning format lives after last leads in
    let each = subst (All IsPlaced) (sym since.history) (placed_alone [] (asked_in lives) last since) in (
      each,
      (batches_are_history last.history each).0
          (before_pending last.history last.pending since.is.history),
    )

-- ---- the states at the answers of lives

-- a run that goes on from another
run_part : (meaning : Meaning) (answered undone : List Event) (before after : ℕ) (old last : State)
    → RunsEvents meaning before old (answered ++ undone) after last
    → (failures : ℕ) × (state : State) × RunsEvents meaning before old answered failures state
    × RunsEvents meaning failures state undone after last
run_part meaning [] undone before after old last run = (before, old, (refl, refl), run)
run_part meaning (one ∷ answered) undone before after old last run =
    let rest = run_part meaning answered undone one.failures after run.1 last run.3 in
    (rest.0, rest.1, (run.0, run.1, run.2, rest.2), rest.3)

-- the last moment of events that go on after one of them
last_after : (start : ℕ) (answered rest : List Event) (one : Event)
    → last_moment start (answered ++ one ∷ rest) ≡ last_moment one.moment rest
last_after start [] rest one = refl
last_after start (x ∷ answered) rest one = last_after x.moment answered rest one

-- an element of a list, and what comes after the front of one
all_at : {A : Type 0} (P : A → Type 0) (front rest : List A) (one : A)
    → All P (front ++ one ∷ rest) → P one
all_at P [] rest one all = All-head P one rest all
all_at P (x ∷ front) rest one all =
    all_at P front rest one (All-tail P x (front ++ one ∷ rest) all)

all_after : {A : Type 0} (P : A → Type 0) (front rest : List A) → All P (front ++ rest)
    → All P rest
all_after P [] rest all = all
all_after P (x ∷ front) rest all = all_after P front rest (All-tail P x (front ++ rest) all)

-- an answer that had come is among those that had
cut_after : (moment : ℕ) (answered undone come late : List Event) (one : Event)
    → one.moment ≤ moment → answered ++ one ∷ undone ≡ come ++ late
    → All (λ other. moment < other.moment) late
    → (rest : List Event) × (come ≡ answered ++ one ∷ rest) × (undone ≡ rest ++ late)
cut_after moment answered undone [] late one by e not_yet =
    absurd (let lt = all_at (λ (other : Event). moment < other.moment) answered undone one (subst
    (λ xs. All (λ other. moment < other.moment) xs) (sym e) not_yet) in omega arith)
cut_after moment [] undone (first ∷ come) late one by e not_yet = (come, cc, cc)
cut_after moment (x ∷ answered) undone (first ∷ come) late one by e not_yet =
    let rest = cut_after moment answered undone come late one by (cc) not_yet in
    let same : first ≡ x = cc in
    (rest.0, ap (λ xs. first ∷ xs) rest.1 ∙ ap (λ y. y ∷ (answered ++ one ∷ rest.0)) same, rest.2)

module _ (meaning : Meaning) (later : List Life) (start : ℕ) (answered undone : List Event)
    (one : Event) (after : ℕ) (last : State) where
  -- the life of all these events, that of those before the one, and that of those after it
  abbrev whole : Ending → Life
  whole ending = record { start = start; events = answered ++ one ∷ undone; ending = ending }

  abbrev front : Life
  front = record { start = start; events = answered; ending = goes_on }

  abbrev rest : Ending → Life
  rest ending = record { start = one.moment; events = undone; ending = ending }

  -- what is to be shown
  abbrev Parts : List Life → Ending → ℕ → State → Type 0
  Parts earlier ending before old =
      (failures : ℕ) × (state : State) × (next : State)
      × Lives meaning before old (earlier ++ front ∷ []) failures state
      × Step state.mode (setting_of meaning failures one) state one.request one.answer next
      × Lives meaning one.failures next (rest ending ∷ later) after last

  parts_now : (ending : Ending) (before : ℕ) (old : State) → IsInTime one.moment ending
      → Lives meaning before old (whole ending ∷ later) after last → Parts [] ending before old
  parts_now goes_on before old in_time leads =
      let run = run_part meaning answered (one ∷ undone) before leads.0 old leads.1 leads.2 in (
        run.0,
        run.1,
        run.3.1,
        (run.0, run.1, run.2, (refl, refl)),
        run.3.2,
        (leads.0, leads.1, run.3.3, leads.3),
      )
  parts_now (crashes moment inside counted) before old in_time leads =
      let stops = leads.2.0.2 in
      let cut = cut_after moment answered undone stops.done stops.undone one in_time stops.split
      stops.not_yet in
      let run = run_part meaning answered (one ∷ cut.0) before stops.failures old stops.state (subst
      (λ xs. RunsEvents meaning before old xs stops.failures stops.state) cut.1 stops.run) in
      let stops_then : StopsAt meaning one.moment one.failures run.3.1 undone moment inside leads.2.0.0
      leads.2.0.1 leads.1 = record {
        done = cut.0;
        undone = stops.undone;
        split = cut.2;
        by_then = all_after (λ (other : Event). other.moment ≤ moment) (one ∷ []) cut.0
            (all_after (λ (other : Event). other.moment ≤ moment) answered (one ∷ cut.0) (subst
            (λ xs. All (λ other. other.moment ≤ moment) xs) cut.1 stops.by_then));
        not_yet = stops.not_yet;
        failures = stops.failures;
        state = stops.state;
        run = run.3.3;
        crash = subst (λ n. CrashBefore meaning n moment inside stops.failures stops.state stops.undone
            leads.2.0.0 leads.2.0.1 leads.1) (ap (last_moment start) cut.1
            ∙ last_after start answered cut.0 one) stops.crash;
      } in (
        run.0,
        run.1,
        run.3.1,
        (run.0, run.1, run.2, (refl, refl)),
        run.3.2,
        (
          leads.0,
          leads.1,
          ((leads.2.0.0, leads.2.0.1, stops_then), leads.2.1),
          leads.3,
        ),
      )

  parts : (earlier : List Life) (ending : Ending) (before : ℕ) (old : State)
      → IsInTime one.moment ending → Lives meaning before old (earlier ++ whole ending ∷ later) after last
      → Parts earlier ending before old
  parts [] ending before old in_time leads = parts_now ending before old in_time leads
  parts (life ∷ earlier) ending before old in_time leads =
      let rest = parts earlier ending leads.0 leads.1 in_time leads.3 in
      (rest.0, rest.1, rest.2, (leads.0, leads.1, leads.2, rest.3), rest.4, rest.5)

pub each_answer_parts : EachAnswerParts
each_answer_parts meaning earlier later start ending answered undone one before after old last
    in_time leads = parts meaning later start answered undone one after last earlier ending before old in_time leads

-- ---- what a look-up finds

-- the batch of an entry
batch_with : (history : History) (entry : Entry) → Contains (entries_of history) entry
    → (batch : List Entry) × Contains history batch × Contains batch entry
batch_with [] entry c = absurd (in_none entry c)
batch_with (batch ∷ history) entry c = ⊎_elim
    (λ (here : Contains batch entry). (batch, in_front batch history, here))
    (λ (there : Contains (entries_of history) entry). let rest =
    batch_with history entry there in (rest.0, in_rest batch rest.0 history rest.1, rest.2))
    (Contains-append_cases batch (entries_of history) entry c)

some_in : {A : Type 0} (some whole : List A) (x : A) → IsSubsequence some whole → Contains some x
    → Contains whole x
some_in [] whole x sub c = absurd (in_none x c)
some_in (y ∷ some) [] x sub c = absurd sub
some_in (y ∷ some) (z ∷ whole) x (inl both) c = ⊎_elim
    (λ (e : y ≡ x). subst (λ w. Contains (z ∷ whole) w) (sym both.0 ∙ e) (in_front z whole))
    (λ (rest : Contains some x). in_rest z x whole (some_in some whole x both.1 rest))
    (in_cases y x some c)
some_in (y ∷ some) (z ∷ whole) x (inr later) c =
    in_rest z x whole (some_in (y ∷ some) whole x later c)

-- entries that came later are of other keys
other_keys : (key : List ℕ) (more : History) (asked : List (List Item))
    → IsSubsequence (batches_of more) asked → NoneHasKey key asked → (entry : Entry)
    → Contains (entries_of more) entry → entry.key ≢ key
other_keys key more asked sub none entry c =
    let at = batch_with more entry c in
    none (items_of at.0) (some_in (batches_of more) asked (items_of at.0) sub
    (map_in items_of more at.0 at.1))
    (record { key = entry.key; value = entry.value }) (map_in (λ (e : Entry). record {
      key =
          e.key;
      value = e.value;
    }) at.0 entry at.2)

module _ (earlier more : List Entry) (last s : ℕ) (key value : List ℕ)
    (low : greatest earlier ≤ last) (seen : last + 1 ≤ s) (others : (entry : Entry)
    → Contains more entry → entry.key ≢ key) where
  abbrev written : Entry
  written = record { sequence = last + 1; key = key; value = Some value }

  abbrev entries : List Entry
  entries = earlier ++ written ∷ more

  there : Contains entries written
  there = Contains-append_right earlier (written ∷ more) written (in_front written more)

  -- of the entries of the key it is the last
  by_place : {P : Type 0} (entry : Entry) → entry.key ≡ key → (entry.sequence ≤ last → P)
      → (written ≡ entry → P) → Contains entries entry → P
  by_place entry k before here c = ⊎_elim
      (λ (old : Contains earlier entry). before (let n =
      up_to last earlier low entry old in omega arith))
      (λ (new : Contains (written ∷ more) entry). ⊎_elim here
      (λ (late : Contains more entry). absurd (others entry late k))
      (in_cases written entry more new))
      (Contains-append_cases earlier (written ∷ more) entry c)

  shown : HasValueAt entries s key value
  shown = record {
    entry = written;
    newest = record {
      there = there;
      seen = seen;
      newest = λ other c k up. by_place {P =
          other.sequence ≤ last + 1} other k (λ le. omega arith) (λ e. let n =
          ap (λ (x : Entry). x.sequence) e in omega arith) c;
    };
    key_is = refl;
    value_is = refl;
  }

  found_alone : (looked : Option (List ℕ)) → IsValueAt entries s key looked → looked ≡ Some value
  found_alone None looks = absurd (looks value shown)
  found_alone (Some other) looks = by_place {P = Some other ≡ Some value} looks.entry looks.key_is
      (λ le. absurd (let up = looks.newest.newest written there (sym looks.key_is) seen in
      omega arith))
      (λ e. sym looks.value_is ∙ ap (λ (x : Entry). x.value) (sym e))
      looks.newest.there

module _ (setting : Setting) (old new : State) where
  -- a look-up that isn't refused was one in the state
  looked_in : (mode : Mode) (key : List ℕ) (looked : Option (List ℕ))
      → Step mode setting old (get None key) (found looked) new → Gets old None key looked
  looked_in open_mode key looked s = s.1.0
  looked_in broken key looked s = s.1.0
  looked_in closed key looked s = absurd s

  -- a write of one item that was done adds a batch of one entry
  one_in : (mode : Mode) (item : Item)
      → Step mode setting old (write (item ∷ []) true) done new
      → (new.history ≡ old.history ++ (record {
        sequence = old.last + 1;
        key = item.key;
        value =
            item.value;
      } ∷ []) ∷ []) × (new.last ≡ old.last + 1)
  one_in open_mode item s = (
    ap (λ (t : State). t.history) s.1.state,
    ap
        (λ (t : State). t.last) s.1.state,
  )
  one_in broken item s = absurd s
  one_in closed item s = absurd s

-- the entry that a write of a value adds
abbrev entry_of : State → List ℕ → List ℕ → Entry
entry_of old key value = record { sequence = old.last + 1; key = key; value = Some value }

pub synced_is_read : SyncedIsRead
synced_is_read meaning setting later old next last new key value lives before after looked is step none
    leads looks =
    found_alone (entries_of old.history)
    (entries_of more) old.last gets.sequence key value is.reached seen
    (other_keys key more (asked_in lives) since.2 none) looked (subst
    (λ es. IsValueAt es gets.sequence key looked) whole gets.looks)
  where
    item : Item
    item = record { key = key; value = Some value }

    since : (more : History) × (last.history ≡ next.history ++ more)
        × IsSubsequence (batches_of more) (asked_in lives) × All IsPlaced more
    since = more_is_asked meaning setting old next last (write
        (item ∷ []) true) done lives before after is step refl leads

    more : History
    more = since.0

    gets : Gets last None key looked
    gets = looked_in later last new last.mode key looked looks

    fits : IsState last
    fits = lives_fit meaning lives before after next last (step_fits setting old next (write
        (item ∷ []) true) done is step) leads

    batch : List Entry
    batch = entry_of old key value ∷ []

    whole : entries_of last.history ≡ entries_of old.history ++ entry_of old key value ∷
        entries_of more
    whole =
        ap entries_of (since.1 ∙ ap (λ h. h ++ more)
        (one_in setting old next old.mode item step).0)
        ∙ flat_map-append (λ (b : List Entry). b) (old.history ++ batch ∷ []) more
        ∙ ap (λ es. es ++ entries_of more) (entries_more old.history batch)
        ∙ append_assoc (entries_of old.history) batch (entries_of more)

    seen : old.last + 1 ≤ gets.sequence
    seen =
        let r = fits.reached in
        let at = gets.at_is in
        let up = up_to_greatest (entries_of last.history) (entry_of old key value)
        (subst (λ es. Contains es (entry_of old key value)) (sym whole)
        (Contains-append_right (entries_of old.history) (entry_of old key value ∷ entries_of more)
        (entry_of old key value) (in_front (entry_of old key value) (entries_of more)))) in
        omega arith
