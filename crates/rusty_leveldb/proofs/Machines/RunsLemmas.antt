-- What runs and lives keep of a history that is durable, and what they add to it.
use Rattle.std.proofs.Common.{◌≡◌, ◌≤◌, ◌<◌, ◌+◌, ◌-◌, ◌⊎◌, ⊎_elim, inl, inr, ℕ, Bool, true, false, List, [], ◌∷◌, ◌++◌, length, flat_map, take, drop, refl, sym, ◌∙◌, ap, subst, arith, Option, Some, None, All, append-nil, append_assoc, length-append, nat_le, if◌then◌else◌, le-leb, leb-true}
use Rattle.std.proofs.Math.Seq.{take-append-add, take-append_seam}
use Rattle.std.proofs.lemmas.List.{take-append-drop, map-append}
use Rattle.std.proofs.lemmas.List.Concat.{flat_map-append}
use Rattle.std.proofs.lemmas.List.Elements.{All-head, All-push, All-tail, All-take}
use Rattle.leveldb_base.specs.History.{Item, Entry, History, IsPlaced, IsPrefixAtLeast, placed, with_batch}
use Rattle.leveldb_files.specs.Stores.Format.{Meaning}
use Rattle.rusty_leveldb.specs.Machines.State.{open_mode, State, IsState, Request, Answer}
use Rattle.rusty_leveldb.specs.Machines.Causes.{Setting}
use Rattle.rusty_leveldb.specs.Machines.Machine.{MayGrow, added_batch, Writes, Breaks, Step, Risk, risk_between, risk_of, Crashes}
use Rattle.rusty_leveldb.specs.Machines.Runs.{Event, setting_of, RunsEvents, CrashesIn, CrashBefore, last_moment, Ending, goes_on, crashes, Life, LifeLeads, Lives}
use Rattle.rusty_leveldb.specs.Machines.Laws.{asked_by, items_of, batches_of, IsSubsequence, begun_by, begun_until, asked_in}
use Rattle.rusty_leveldb.proofs.Machines.MachineLemmas.{Change, same, opens, stays, keeps, writes, covers, breaks, breaks_with, gives, releases, closes, abandons, change, none_pending, step_fits, crash_between_fits, crash_inside_fits, risk_opening, risk_cases}

-- ---- some elements of a list

some_more : {A : Type 0} (some whole more : List A) → IsSubsequence some whole
    → IsSubsequence some (whole ++ more)
some_more [] whole more sub = tt
some_more (x ∷ some) [] more sub = absurd sub
some_more (x ∷ some) (y ∷ whole) more (inl both) = inl (both.0, some_more some whole more both.1)
some_more (x ∷ some) (y ∷ whole) more (inr later) = inr (some_more (x ∷ some) whole more later)

some_last : {A : Type 0} (some whole : List A) (x : A) → IsSubsequence some whole
    → IsSubsequence (some ++ x ∷ []) (whole ++ x ∷ [])
some_last [] [] x sub = inl (refl, tt)
some_last [] (y ∷ whole) x sub = inr (some_last [] whole x tt)
some_last (z ∷ some) [] x sub = absurd sub
some_last (z ∷ some) (y ∷ whole) x (inl both) = inl (both.0, some_last some whole x both.1)
some_last (z ∷ some) (y ∷ whole) x (inr later) = inr (some_last (z ∷ some) whole x later)

pub some_all : {A : Type 0} (all : List A) → IsSubsequence all all
some_all [] = tt
some_all (x ∷ all) = inl (refl, some_all all)

pub some_front : {A : Type 0} (some rest whole : List A) → IsSubsequence (some ++ rest) whole
    → IsSubsequence some whole
some_front [] rest whole sub = tt
some_front (x ∷ some) rest [] sub = absurd sub
some_front (x ∷ some) rest (y ∷ whole) (inl both) = inl (both.0, some_front some rest whole both.1)
some_front (x ∷ some) rest (y ∷ whole) (inr later) = inr (some_front (x ∷ some) rest whole later)

-- ---- the batches that were asked for

-- what holds of each of a list holds of each of its first ones
pub all_front : {A : Type 0} (P : A → Type 0) (front rest : List A) → All P (front ++ rest)
    → All P front
all_front P front rest all = subst (All P) (take-append_seam front rest)
    (All-take P (length front) (front ++ rest) all)

items_placed : (first : ℕ) (items : List Item) → items_of (placed first items) ≡ items
items_placed first [] = refl
items_placed first (item ∷ items) = ap (λ rest. item ∷ rest) (items_placed (first + 1) items)

with_append : (part more : History) (batch : Option (List Entry))
    → with_batch (part ++ more) batch ≡ part ++ with_batch more batch
with_append part more None = refl
with_append part more (Some batch) = append_assoc part more (batch ∷ [])

-- what is pending joins a history, or is forgotten
pub without : (more : History) (batch : Option (List Entry))
    → (rest : History) × (with_batch more batch ≡ more ++ rest)
without more None = ([], sym (append-nil more))
without more (Some batch) = (batch ∷ [], refl)

-- ---- since a durable part

-- The history begins with the part, which is durable. What comes after it, the pending batch
-- included, was asked for; where `Placed` holds, it is placed batches.
pub record Since (Placed : Type 0) (part : History) (asked : List (List Item))
    (state : State) : Type 0 where
  pub is : IsState state
  pub more : History
  pub history : state.history ≡ part ++ more
  pub durable : length part ≤ state.durable
  pub some : IsSubsequence (batches_of (with_batch more state.pending)) asked
  pub placed : Placed → All IsPlaced (with_batch more state.pending)

module _ (Placed : Type 0) (part : History) (asked : List (List Item)) (old : State)
    (since : Since Placed part asked old) where
  -- no batch is new
  fewer : (new : State) (more rest : History) (others : List (List Item)) → IsState new
      → new.history ≡ part ++ more → length part ≤ new.durable
      → with_batch since.more old.pending ≡ with_batch more new.pending ++ rest
      → Since Placed part (asked ++ others) new
  fewer new more rest others is history durable split = record {
    is = is;
    more = more;
    history = history;
    durable = durable;
    some = some_more (batches_of (with_batch more new.pending)) asked others
        (some_front (batches_of (with_batch more new.pending)) (batches_of rest) asked
        (subst (λ batches. IsSubsequence batches asked) (ap batches_of split
        ∙ map-append items_of (with_batch more new.pending) rest) since.some));
    placed = λ was. all_front IsPlaced (with_batch more new.pending) rest
        (subst (All IsPlaced) split (since.placed was));
  }

  -- one batch is new
  newer : (new : State) (more : History) (first : ℕ) (items : List Item) → IsState new
      → new.history ≡ part ++ more → length part ≤ new.durable
      → with_batch more new.pending ≡ with_batch since.more old.pending ++ placed first items ∷ []
      → Since Placed part (asked ++ items ∷ []) new
  newer new more first items is history durable split = record {
    is = is;
    more = more;
    history = history;
    durable = durable;
    some = subst (λ batches. IsSubsequence batches (asked ++ items ∷ []))
        (sym (ap batches_of split ∙ map-append items_of (with_batch since.more old.pending)
        (placed first items ∷ []) ∙ ap (λ i. batches_of
        (with_batch since.more old.pending) ++ i ∷ []) (items_placed first items)))
        (some_last (batches_of (with_batch since.more old.pending)) asked items since.some);
    placed = λ was. subst (All IsPlaced) (sym split)
        (All-push IsPlaced (with_batch since.more old.pending) (placed first items)
        (since.placed was) (first, items, refl));
  }

  part_fits : length part ≤ length old.history
  part_fits = let l = ap length since.history ∙ length-append part since.more in omega arith

  covers_part : (durable : ℕ) → MayGrow old.durable old.history durable → length part ≤ durable
  covers_part durable (inl e) = let d = since.durable in omega arith
  covers_part durable (inr e) = let l = part_fits in omega arith

  -- neither the history nor what is pending has changed
  as_before : (new : State) (others : List (List Item)) → IsState new → new.history ≡ old.history
      → new.pending ≡ old.pending → length part ≤ new.durable → Since Placed part (asked ++ others) new
  as_before new others is history pending durable =
      fewer new since.more [] others is (history
      ∙ since.history) durable (ap (λ p. with_batch since.more p) (sym pending)
      ∙ sym (append-nil (with_batch since.more new.pending)))

  wrote : (items : List Item) (sync : Bool) (new : State) → IsState new → old.mode ≡ open_mode
      → Writes old items sync new → Since Placed part (asked ++ items ∷ []) new
  wrote items sync new is m w = newer new (since.more ++ added_batch old items ∷ [])
      (old.last + 1) items is
      (ap (λ (s : State). s.history) w.state
      ∙ ap (λ h. h ++ added_batch old items ∷ []) since.history
      ∙ append_assoc part since.more (added_batch old items ∷ []))
      (durable w.durable)
      (ap (λ p. with_batch (since.more ++ added_batch old items ∷ []) p) none_then
      ∙ sym (ap (λ p. with_batch since.more p ++ added_batch old items ∷ []) none))
    where
      none : old.pending ≡ None
      none = none_pending old since.is m

      none_then : new.pending ≡ None
      none_then = ap (λ (s : State). s.pending) w.state ∙ none

      durable : MayGrow old.durable old.history new.durable ⊎ (new.durable ≡ length new.history)
          → length part ≤ new.durable
      durable (inl may) = covers_part new.durable may
      durable (inr e) =
          let l = ap (λ (s : State). length s.history) w.state
          ∙ length-append old.history (added_batch old items ∷ []) in
          let f = part_fits in
          omega arith

  broke : (batch : Option (List Entry)) (new : State) → Breaks old batch new
      → (new.history ≡ old.history) × (new.pending ≡ batch) × (length part ≤ new.durable)
  broke batch new b = (
    ap (λ (s : State). s.history) b.state,
    ap
        (λ (s : State). s.pending) b.state,
    covers_part new.durable b.durable,
  )

  opened : (others : List (List Item)) (new : State) → IsState new → new.pending ≡ None
      → length part ≤ new.durable → (new.history ≡ old.history)
      ⊎ (new.history ≡ with_batch old.history old.pending) → Since Placed part (asked ++ others) new
  opened others new is none durable (inl e) =
      let rest = without since.more old.pending in
      fewer new since.more rest.0 others is (e ∙ since.history) durable (rest.1
      ∙ ap (λ p. with_batch since.more p ++ rest.0) (sym none))
  opened others new is none durable (inr e) =
      fewer new (with_batch since.more old.pending) [] others is (e
      ∙ ap (λ h. with_batch h old.pending) since.history
      ∙ with_append part since.more old.pending) durable
      (ap (λ p. with_batch (with_batch since.more old.pending) p) (sym none)
      ∙ sym (append-nil (with_batch (with_batch since.more old.pending) new.pending)))

  -- a history with what was pending is no shorter than the part
  joined_fits : (new : State) → (new.history ≡ old.history)
      ⊎ (new.history ≡ with_batch old.history old.pending) → length part ≤ length new.history
  joined_fits new (inl e) = let l = ap length e in let f = part_fits in omega arith
  joined_fits new (inr e) =
      let l = ap length (e ∙ ap (λ h. with_batch h old.pending) since.history
      ∙ with_append part since.more old.pending)
      ∙ length-append part (with_batch since.more old.pending) in
      omega arith

  changes : (request : Request) (new : State) → IsState new → Change old request new
      → Since Placed part (asked ++ asked_by request) new
  changes request new is (same e) = as_before new (asked_by request) is (ap
      (λ (s : State). s.history) e) (ap (λ (s : State). s.pending) e) (let c =
      ap (λ (s : State). s.durable) e in let d = since.durable in omega arith)
  changes request new is (opens opening asks o) =
      opened (asked_by request) new is (ap (λ (s : State). s.pending) o.state)
      (⊎_elim (λ (e : new.durable ≡ old.durable). let d =
      since.durable in omega arith) (λ (e : new.durable ≡ length new.history). let l =
      joined_fits new o.joins in omega arith) o.durable)
      o.joins
  changes request new is (stays opening setting refusal cause m s) =
      as_before new (asked_by request) is (ap (λ (s : State). s.history) s.state) (ap
      (λ (s : State). s.pending) s.state) (covers_part new.durable s.durable)
  changes request new is (keeps k) =
      as_before new (asked_by request) is (ap (λ (s : State). s.history) k.state) (ap
      (λ (s : State). s.pending) k.state) (covers_part new.durable k.durable)
  changes request new is (writes items sync by m w) =
      subst (λ others. Since Placed part (asked ++ others) new) (sym by) (wrote items sync new is m w)
  changes request new is (covers c) =
      as_before new (asked_by request) is (ap (λ (s : State). s.history) c.state) (ap
      (λ (s : State). s.pending) c.state) (covers_part new.durable (inr (ap
      (λ (s : State). s.durable) c.state)))
  changes request new is (breaks m b) =
      let e = broke None new b in
      as_before new (asked_by request) is e.0 (e.1 ∙ sym (none_pending old since.is m)) e.2
  changes request new is (breaks_with items by m b) =
      let e = broke (Some (added_batch old items)) new b in
      subst (λ others. Since Placed part (asked ++ others) new) (sym by)
      (newer new since.more (old.last + 1) items is (e.0 ∙ since.history) e.2
      (ap (λ p. with_batch since.more p) e.1
      ∙ sym (ap (λ p. with_batch since.more p ++ added_batch old items ∷ [])
      (none_pending old since.is m))))
  changes request new is (gives one m g) =
      as_before new (asked_by request) is (ap (λ (s : State). s.history) g.state) (ap
      (λ (s : State). s.pending) g.state) (let c =
      ap (λ (s : State). s.durable) g.state in let d = since.durable in omega arith)
  changes request new is (releases one asks m r) =
      as_before new (asked_by request) is (ap (λ (s : State). s.history) r.state) (ap
      (λ (s : State). s.pending) r.state) (let c =
      ap (λ (s : State). s.durable) r.state in let d = since.durable in omega arith)
  changes request new is (closes asks c) =
      as_before new (asked_by request) is (ap (λ (s : State). s.history) c.state) (ap
      (λ (s : State). s.pending) c.state) (covers_part new.durable (inr (ap
      (λ (s : State). s.durable) c.state)))
  changes request new is (abandons locked asks a) =
      as_before new (asked_by request) is (ap (λ (s : State). s.history) a.state) (ap
      (λ (s : State). s.pending) a.state) (let c =
      ap (λ (s : State). s.durable) a.state in let d = since.durable in omega arith)

  pub since_step : (setting : Setting) (request : Request) (answer : Answer) (new : State)
      → Step old.mode setting old request answer new → Since Placed part (asked ++ asked_by request) new
  since_step setting request answer new step =
      changes request new (step_fits setting old new request answer since.is step)
      (change setting old new request answer step)

-- ---- crashes

module _ (Placed : Type 0) (part : History) (asked : List (List Item)) where
  -- a crash keeps the part, and finds nothing new
  crash_since : (old : State) (least : ℕ) (risk : History) (new : State) → Since Placed part asked old
      → length part ≤ least → risk ≡ with_batch old.history old.pending → IsState new
      → IsPrefixAtLeast least risk new.history
      → new.pending ≡ None → new.durable ≡ length new.history → Since Placed part asked new
  crash_since old least risk new since low at is prefix none all_durable =
      subst (λ all. Since Placed part all new) (append-nil asked)
      (fewer Placed part asked old since new front rest [] is history durable (sym
      (take-append-drop count whole) ∙ ap (λ p. with_batch front p ++ rest) (sym none)))
    where
      whole : History
      whole = with_batch since.more old.pending

      count : ℕ
      count = prefix.count - length part

      front : History
      front = take count whole

      rest : History
      rest = drop count whole

      sum : prefix.count ≡ length part + count
      sum = let e = prefix.enough in omega arith

      history : new.history ≡ part ++ front
      history =
          prefix.first
          ∙ ap (λ h. take prefix.count h) (at ∙ ap (λ h. with_batch h old.pending) since.history
          ∙ with_append part since.more old.pending)
          ∙ ap (λ n. take n (part ++ whole)) sum ∙ take-append-add part whole count

      durable : length part ≤ new.durable
      durable = let l = ap length history ∙ length-append part front in omega arith

  between_since : (old new : State) → Since Placed part asked old → Crashes old (risk_between old) new
      → Since Placed part asked new
  between_since old new since c = crash_since old old.durable
      (risk_between old).history new since since.durable refl
      (crash_between_fits old new since.is c) c.prefix
      (ap (λ (s : State). s.pending) c.state) (ap (λ (s : State). s.durable) c.state)

module _ (Placed : Type 0) (part : History) where
  more_asked : (asked others : List (List Item)) (new : State) → Since Placed part asked new
      → Since Placed part (asked ++ others) new
  more_asked asked others new since = record {
    is = since.is;
    more = since.more;
    history = since.history;
    durable = since.durable;
    some = some_more (batches_of (with_batch since.more new.pending)) asked others since.some;
    placed = since.placed;
  }

  inside_since : (asked : List (List Item)) (setting : Setting) (old next new : State)
      (request : Request) (answer : Answer) → Since Placed part asked old
      → Step old.mode setting old request answer next
      → Crashes old (risk_of request old next) new → Since Placed part (asked ++ asked_by request) new
  inside_since asked setting old next new request answer since step c =
      let is = crash_inside_fits setting old next new request answer since.is step c in
      let none = ap (λ (s : State). s.pending) c.state in
      let durable = ap (λ (s : State). s.durable) c.state in
      ⊎_elim
      (λ (e : risk_of request old next ≡ risk_between next).
      crash_since Placed part (asked ++ asked_by request) next old.durable
      (risk_of request old next).history new
      (since_step Placed part asked old since setting request answer next step) since.durable
      (ap (λ (r : Risk). r.history) e) is c.prefix none durable)
      (λ (o : (opening : _) × (risk_of request old next ≡ risk_opening opening old)).
      more_asked asked (asked_by request) new
      (crash_since Placed part asked old old.durable
      (risk_of request old next).history new since since.durable (ap
      (λ (r : Risk). r.history) o.1) is c.prefix none durable))
      (risk_cases request old next)

  -- a crash in a request, whether it had called the device or not
  in_since : (asked : List (List Item)) (setting : Setting) (last_answer moment : ℕ) (inside : Bool)
      (old next new : State) (request : Request) (answer : Answer) → Since Placed part asked old
      → Step old.mode setting old request answer next
      → CrashesIn last_answer moment inside old request next new
      → Since Placed part (asked ++ asked_by request) new
  in_since asked setting last_answer moment inside old next new request answer since step (inl none) =
      more_asked asked (asked_by request) new (between_since Placed part asked old new since none.2)
  in_since asked setting last_answer moment inside old next new request answer since step (inr some) =
      inside_since asked setting old next new request answer since step some.1

-- ---- runs and lives

module _ (meaning : Meaning) (Placed : Type 0) (part : History) where
  -- the batches that these events' writes asked for
  abbrev asked_of : List Event → List (List Item)
  asked_of events = flat_map (λ event. asked_by event.request) events

  run_since : (asked : List (List Item)) (before : ℕ) (old : State) (events : List Event)
      (after : ℕ) (new : State) → Since Placed part asked old → RunsEvents meaning before old events after new
      → Since Placed part (asked ++ asked_of events) new
  run_since asked before old [] after new since run =
      subst (λ all. Since Placed part all new) (sym (append-nil asked)) (subst (λ s. Since Placed part asked s)
      (sym run.1) since)
  run_since asked before old (event ∷ events) after new since run =
      subst (λ all. Since Placed part all new) (append_assoc asked (asked_by event.request)
      (asked_of events))
      (run_since (asked ++ asked_by event.request) event.failures run.1 events after new
      (since_step Placed part asked old since (setting_of meaning before event) event.request event.answer run.1
      run.2) run.3)

  -- none of these had come, and only the first had begun
  begun_none : (moment : ℕ) (event : Event) (undone : List Event) → moment < event.moment
      → begun_by moment (event ∷ undone) ≡ event ∷ []
  begun_none moment event undone lt = by_test (nat_le event.moment moment) refl
    where
      by_test : (b : Bool) → nat_le event.moment moment ≡ b
          → event ∷ (if b then begun_by moment undone else []) ≡ event ∷ []
      by_test true e = absurd (let le = leb-true event.moment moment e in omega arith)
      by_test false e = refl

  -- all of these had come
  begun_all : (moment : ℕ) (come undone : List Event) → All (λ event. event.moment ≤ moment) come
      → begun_by moment (come ++ undone) ≡ come ++ begun_by moment undone
  begun_all moment [] undone by = refl
  begun_all moment (event ∷ come) undone by =
      ap (λ b. event ∷ (if b then begun_by moment (come ++ undone) else [])) (le-leb event.moment
      moment (All-head (λ event. event.moment ≤ moment) event come by))
      ∙ ap (λ rest. event ∷ rest) (begun_all moment come undone (All-tail
      (λ event. event.moment ≤ moment) event come by))

  cut_since : (asked : List (List Item)) (last_answer moment : ℕ) (inside : Bool) (failures : ℕ)
      (old : State) (undone : List Event) (end : ℕ) (last new : State)
      → All (λ event. moment < event.moment) undone → Since Placed part asked old
      → CrashBefore meaning last_answer moment inside failures old undone end last new
      → Since Placed part (asked ++ asked_of (begun_by moment undone)) new
  cut_since asked last_answer moment inside failures old [] end last new not_yet since cut =
      subst (λ all. Since Placed part all new) (sym (append-nil asked))
      (between_since Placed part asked old new since cut.2)
  cut_since asked last_answer moment inside failures old (event ∷ undone) end last new not_yet since
      cut =
      subst (λ begun. Since Placed part (asked ++ asked_of begun) new) (sym (begun_none moment event undone
      (All-head (λ event. moment < event.moment) event undone not_yet)))
      (subst (λ all. Since Placed part (asked ++ all) new) (sym (append-nil (asked_by event.request)))
      (in_since Placed part asked (setting_of meaning failures event) last_answer moment inside old cut.1 new
      event.request event.answer since cut.2 cut.4))

  life_since : (asked : List (List Item)) (start before : ℕ) (old : State) (events : List Event)
      (ending : Ending) (after : ℕ) (new : State) → Since Placed part asked old
      → LifeLeads meaning start before old events ending after new
      → Since Placed part (asked ++ asked_of (begun_until ending events)) new
  life_since asked start before old events goes_on after new since leads =
      run_since asked before old events after new since leads
  life_since asked start before old events (crashes moment inside counted) after new since leads =
      let s = leads.0.2 in
      subst (λ all. Since Placed part all new)
      (append_assoc asked (asked_of s.done) (asked_of (begun_by moment s.undone))
      ∙ ap (λ all. asked ++ all) (sym (flat_map-append
      (λ (event : Event). asked_by event.request) s.done (begun_by moment s.undone)))
      ∙ ap (λ all. asked ++ asked_of all) (sym (ap (begun_by moment) s.split
      ∙ begun_all moment s.done s.undone s.by_then)))
      (cut_since (asked ++ asked_of s.done) (last_moment start s.done) moment inside s.failures
      s.state s.undone leads.0.0 leads.0.1 new s.not_yet
      (run_since asked before old s.done s.failures s.state since s.run) s.crash)

  pub since_lives : (asked : List (List Item)) (before : ℕ) (old : State) (lives : List Life)
      (after : ℕ) (new : State) → Since Placed part asked old → Lives meaning before old lives after new
      → Since Placed part (asked ++ asked_in lives) new
  since_lives asked before old [] after new since leads =
      subst (λ all. Since Placed part all new) (sym (append-nil asked)) (subst (λ s. Since Placed part asked s)
      (sym leads.1) since)
  since_lives asked before old (life ∷ lives) after new since leads =
      subst (λ all. Since Placed part all new) (append_assoc asked (asked_of
      (begun_until life.ending life.events)) (asked_in lives))
      (since_lives (asked ++ asked_of (begun_until life.ending life.events)) leads.0 leads.1
      lives after new
      (life_since asked life.start before old life.events life.ending leads.0 leads.1 since leads.2)
      leads.3)
