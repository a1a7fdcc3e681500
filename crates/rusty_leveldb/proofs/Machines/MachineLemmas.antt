-- The ways in which a request changes the state, and that the numbers of a state always fit.
use Rattle.std.proofs.Common.{◌≡◌, ◌≤◌, ◌+◌, ◌⊎◌, ⊎_elim, inl, inr, ℕ, Bool, false, List, [], ◌∷◌, ◌++◌, length, refl, sym, ◌∙◌, ap, subst, arith, Option, Some, None, IsTrue, Contains, length-append}
use Rattle.std.proofs.Math.Seq.{take-append_seam}
use Rattle.std.proofs.lemmas.List.Elements.{Contains-append_left, Contains-append_right, Contains-push, Contains-push_cases, Contains-append_cases}
use Rattle.leveldb_base.specs.History.{Item, Entry, History, IsHistory, placed, entries_of, greatest, with_batch, count_of}
use Rattle.leveldb_base.proofs.HistoryLemmas.{in_none, in_rest}
use Rattle.rusty_leveldb.specs.Machines.State.{Mode, open_mode, broken, closed, Snapshot, Opening, State, SuitsMode, IsState, Request, open_store, write, get, walk, get_snapshot, release_snapshot, flush, compact_range, close, abandon, Refusal, Answer, done, found, walked, snapshot, refused}
use Rattle.rusty_leveldb.specs.Machines.Causes.{Setting, Cause, device_failed, IsClosedRefusal, IsBrokenRefusal}
use Rattle.rusty_leveldb.specs.Machines.Machine.{MayGrow, Keeps, added_batch, Writes, AllDurable, Breaks, Gives, Releases, Closes, Abandons, Opens, StaysClosed, MayBreak, KeepsOrBreaks, Succeeds, LeavesRefused, Responds, Rejects, Step, Risk, risk_between, risk_of, Crashes}
use Rattle.rusty_leveldb.specs.Machines.Laws.{asked_by, StepFits, CrashFits, CrashInsideFits}
use Rattle.leveldb_files.proofs.Histories.NumbersLemmas.{entries_more, greatest_append, placed_greatest, placed_length, history_more, history_part, greatest_part}

-- ---- the ways in which a request changes the state

pub data Change (old : State) (request : Request) (new : State) : Type 0 where
  same : new ≡ old → Change old request new
  opens : (opening : Opening) → request ≡ open_store opening → Opens old opening new
      → Change old request new
  stays : (opening : Opening) (setting : Setting) (refusal : Refusal) (cause : Cause)
      → old.mode ≡ closed → StaysClosed setting old opening refusal cause new
      → Change old request new
  keeps : Keeps old new → Change old request new
  writes : (items : List Item) (sync : Bool) → asked_by request ≡ items ∷ []
      → old.mode ≡ open_mode → Writes old items sync new → Change old request new
  covers : AllDurable old new → Change old request new
  breaks : old.mode ≡ open_mode → Breaks old None new → Change old request new
  breaks_with : (items : List Item) → asked_by request ≡ items ∷ [] → old.mode ≡ open_mode
      → Breaks old (Some (added_batch old items)) new → Change old request new
  gives : (one : Snapshot) → (old.mode ≡ closed → ⊥) → Gives old one new → Change old request new
  releases : (one : Snapshot) → request ≡ release_snapshot one → (old.mode ≡ closed → ⊥)
      → Releases old one new → Change old request new
  closes : request ≡ close → Closes old new → Change old request new
  abandons : (locked : Bool) → request ≡ abandon → Abandons old locked new → Change old request new

-- the mode in which a request is looked at, where there is but one
abbrev NeedsMode : Request → State → Type 0
NeedsMode (open_store opening) old = old.mode ≡ closed
NeedsMode (write items sync) old = old.mode ≡ open_mode
NeedsMode flush old = old.mode ≡ open_mode
NeedsMode (compact_range from to) old = old.mode ≡ open_mode
NeedsMode close old = old.mode ≡ open_mode
NeedsMode get_snapshot old = old.mode ≡ closed → ⊥
NeedsMode (release_snapshot one) old = old.mode ≡ closed → ⊥
NeedsMode request old = Unit {0}

module _ (setting : Setting) (old new : State) where
  succeeded : (request : Request) (answer : Answer) → NeedsMode request old
      → Succeeds setting old request answer new → Change old request new
  succeeded (open_store opening) done m s = opens opening refl s
  succeeded (write items sync) done m s = writes items sync refl m s
  succeeded (get at key) (found value) m s = same s.1
  succeeded (walk at moves) (walked landings) m s = same s.1
  succeeded get_snapshot (snapshot one) m s = gives one m s
  succeeded (release_snapshot one) done m s = releases one refl m s
  succeeded flush done m s = covers s
  succeeded (compact_range from to) done m s = keeps s
  succeeded close done m s = closes refl s
  succeeded abandon done m s = abandons _ refl s
  succeeded request answer m s = absurd s

  kept_or_broken : (request : Request) (cause : Cause) → old.mode ≡ open_mode
      → Keeps old new ⊎ (MayBreak cause × Breaks old None new) → Change old request new
  kept_or_broken request cause m (inl kept) = keeps kept
  kept_or_broken request cause m (inr broke) = breaks m broke.1

  kept_or_broken_with : (items : List Item) (sync : Bool) (cause : Cause) → old.mode ≡ open_mode
      → KeepsOrBreaks old cause (added_batch old items) new → Change old (write items sync) new
  kept_or_broken_with items sync cause m (inl kept) = keeps kept
  kept_or_broken_with items sync cause m (inr broke) =
      ⊎_elim (λ b. breaks m b) (λ b. breaks_with items refl m b) broke.1

  refused_for : (request : Request) (refusal : Refusal) (cause : Cause) → NeedsMode request old
      → LeavesRefused setting old request refusal cause new → Change old request new
  refused_for (open_store opening) refusal cause m s = stays opening setting refusal cause m s
  refused_for (write items sync) refusal cause m s = kept_or_broken_with items sync cause m s
  refused_for flush refusal device_failed m s = breaks m s
  refused_for flush refusal cause m s = kept_or_broken flush cause m s
  refused_for (compact_range from to) refusal cause m s =
      kept_or_broken (compact_range from to) cause m s
  refused_for close refusal cause m s = breaks m s
  refused_for abandon refusal cause m s = abandons _ refl s
  refused_for request refusal cause m s = same s

  responded : (request : Request) (answer : Answer) → NeedsMode request old
      → Responds setting old request answer new → Change old request new
  responded request (refused refusal) m s = refused_for request refusal s.cause m s.leaves
  responded request done m s = succeeded request done m s.1
  responded request (found value) m s = succeeded request (found value) m s.1
  responded request (walked landings) m s = succeeded request (walked landings) m s.1
  responded request (snapshot one) m s = succeeded request (snapshot one) m s.1

  rejected : (Says : Refusal → Type 0) (request : Request) (answer : Answer)
      → Rejects Says old answer new → Change old request new
  rejected Says request (refused refusal) s = same s.1
  rejected Says request done s = absurd s
  rejected Says request (found value) s = absurd s
  rejected Says request (walked landings) s = absurd s
  rejected Says request (snapshot one) s = absurd s

  changed : (mode : Mode) (request : Request) (answer : Answer) → old.mode ≡ mode
      → Step mode setting old request answer new → Change old request new
  changed closed (open_store opening) answer m s = responded (open_store opening) answer m s
  changed closed abandon answer m s = same s.1
  changed closed request answer m s = rejected IsClosedRefusal request answer s
  changed broken (open_store opening) answer m s = absurd s
  changed broken (write items sync) answer m s =
      rejected IsBrokenRefusal (write items sync) answer s
  changed broken flush answer m s = rejected IsBrokenRefusal flush answer s
  changed broken (compact_range from to) answer m s =
      rejected IsBrokenRefusal (compact_range from to) answer s
  changed broken close answer m s = rejected IsBrokenRefusal close answer s
  changed broken (get at key) answer m s = responded (get at key) answer tt s
  changed broken (walk at moves) answer m s = responded (walk at moves) answer tt s
  changed broken get_snapshot answer m s =
      responded get_snapshot answer (λ (c : old.mode ≡ closed). let e : broken ≡ closed = sym m
      ∙ c in cc) s
  changed broken (release_snapshot one) answer m s =
      responded (release_snapshot one) answer
      (λ (c : old.mode ≡ closed). let e : broken ≡ closed = sym m ∙ c in cc) s
  changed broken abandon answer m s = responded abandon answer tt s
  changed open_mode (open_store opening) answer m s = absurd s
  changed open_mode (write items sync) answer m s = responded (write items sync) answer m s
  changed open_mode flush answer m s = responded flush answer m s
  changed open_mode (compact_range from to) answer m s =
      responded (compact_range from to) answer m s
  changed open_mode close answer m s = responded close answer m s
  changed open_mode (get at key) answer m s = responded (get at key) answer tt s
  changed open_mode (walk at moves) answer m s = responded (walk at moves) answer tt s
  changed open_mode get_snapshot answer m s =
      responded get_snapshot answer (λ (c : old.mode ≡ closed). let e : open_mode ≡ closed = sym m
      ∙ c in cc) s
  changed open_mode (release_snapshot one) answer m s =
      responded (release_snapshot one) answer
      (λ (c : old.mode ≡ closed). let e : open_mode ≡ closed = sym m ∙ c in cc) s
  changed open_mode abandon answer m s = responded abandon answer tt s

  -- a step is one of these changes
  pub change : (request : Request) (answer : Answer) → Step old.mode setting old request answer new
      → Change old request new
  change request answer step = changed old.mode request answer refl step

-- ---- histories with what is pending

pub before_pending : (history : History) (batch : Option (List Entry))
    → IsHistory (with_batch history batch) → IsHistory history
before_pending history None is = is
before_pending history (Some batch) is =
    history_part 0 (history ++ batch ∷ []) history is
    (record {
      count = length history;
      enough = omega arith;
      there = let n =
          length_more history batch in omega arith;
      first =
          sym (take-append_seam history (batch ∷ []));
    })
  where
    length_more : (h : History) (b : List Entry) → length (h ++ b ∷ []) ≡ length h + 1
    length_more h b = length-append h (b ∷ [])

-- the numbers of a history and one placed batch
greatest_more : (history : History) (last : ℕ) (items : List Item)
    → greatest (entries_of history) ≤ last
    → greatest (entries_of (history ++ placed (last + 1) items ∷ [])) ≤ last + length items
greatest_more history last items reached =
    let e = ap greatest (entries_more history (placed (last + 1) items))
    ∙ greatest_append (entries_of history) (placed (last + 1) items) in
    let low = placed_greatest last items in
    omega arith

-- ---- the modes

-- what suits a mode speaks of these fields alone
suits_as : (mode : Mode) (s t : State) → t.pending ≡ s.pending → t.locked ≡ s.locked
    → t.held ≡ s.held → t.given ≡ s.given → SuitsMode mode s → SuitsMode mode t
suits_as open_mode s t p l h g suits = (p ∙ suits.0, subst IsTrue (sym l) suits.1)
suits_as broken s t p l h g suits = subst IsTrue (sym l) suits
suits_as closed s t p l h g suits = record { held = h ∙ suits.held; given = g ∙ suits.given }

-- of an open or broken store they are fewer
suits_unclosed : (mode : Mode) → (mode ≡ closed → ⊥) → (s t : State) → t.pending ≡ s.pending
    → t.locked ≡ s.locked → SuitsMode mode s → SuitsMode mode t
suits_unclosed open_mode m s t p l suits = (p ∙ suits.0, subst IsTrue (sym l) suits.1)
suits_unclosed broken m s t p l suits = subst IsTrue (sym l) suits
suits_unclosed closed m s t p l suits = absurd (m refl)

-- a pending batch makes a history no shorter
no_shorter : (history : History) (batch : Option (List Entry))
    → length history ≤ length (with_batch history batch)
no_shorter history None = omega arith
no_shorter history (Some batch) = let l = length-append history (batch ∷ []) in omega arith

module _ (old : State) (is : IsState old) where
  -- an open store has nothing pending
  pub none_pending : old.mode ≡ open_mode → old.pending ≡ None
  none_pending m = let suits : SuitsMode open_mode old =
      subst (λ x. SuitsMode x old) m is.mode in suits.0

  open_locked : old.mode ≡ open_mode → IsTrue old.locked
  open_locked m = let suits : SuitsMode open_mode old =
      subst (λ x. SuitsMode x old) m is.mode in suits.1

  covered_fits : (durable : ℕ) → MayGrow old.durable old.history durable
      → durable ≤ length old.history
  covered_fits durable (inl e) = let c = is.durable in omega arith
  covered_fits durable (inr e) = omega arith

  -- ---- what each change keeps

  keeps_fits : (new : State) → Keeps old new → IsState new
  keeps_fits new k = subst IsState (sym k.state) (record {
    history = is.history;
    reached = is.reached;
    pending = is.pending;
    durable = covered_fits new.durable k.durable;
    held = is.held;
    mode = suits_as old.mode old (record old {
      durable =
          new.durable;
    }) refl refl refl refl is.mode;
  })

  writes_fits : (items : List Item) (sync : Bool) (new : State) → old.mode ≡ open_mode
      → Writes old items sync new → IsState new
  writes_fits items sync new m w = subst IsState (sym w.state) (record {
    history = subst (λ p. IsHistory (with_batch whole p)) (sym none) is_whole;
    reached = reached;
    pending = subst (λ p. greatest (entries_of (with_batch whole p)) ≤
        (old.last + length items) + count_of p) (sym none) (let r = reached in omega arith);
    durable = durable w.durable;
    held = λ one there. let h = is.held one there in (omega arith, h.1);
    mode = suits_as old.mode old (record old {
      history = whole;
      last =
          old.last + length items;
      durable = new.durable;
    }) refl refl refl refl is.mode;
  })
    where
      whole : History
      whole = old.history ++ added_batch old items ∷ []

      none : old.pending ≡ None
      none = none_pending m

      is_whole : IsHistory whole
      is_whole = history_more old.history old.last items is.reached
          (before_pending old.history old.pending is.history)

      reached : greatest (entries_of whole) ≤ old.last + length items
      reached = greatest_more old.history old.last items is.reached

      more : length whole ≡ length old.history + 1
      more = length-append old.history (added_batch old items ∷ [])

      durable : MayGrow old.durable old.history new.durable ⊎ (new.durable ≡ length new.history)
          → new.durable ≤ length whole
      durable (inl may) = let c = covered_fits new.durable may in let m = more in omega arith
      durable (inr e) = let l = ap (λ (s : State). length s.history) w.state in omega arith

  covers_fits : (new : State) → AllDurable old new → IsState new
  covers_fits new c = keeps_fits new (record {
    state = c.state
        ∙ ap (λ n. record old { durable = n }) (sym e);
    durable = inr e;
  })
    where
      e : new.durable ≡ length old.history
      e = ap (λ (s : State). s.durable) c.state

  breaks_fits : (batch : Option (List Entry)) (new : State)
      → IsHistory (with_batch old.history batch)
      → greatest (entries_of (with_batch old.history batch)) ≤ old.last + count_of batch
      → old.mode ≡ open_mode
      → Breaks old batch new → IsState new
  breaks_fits batch new history pending m b = subst IsState (sym b.state) (record {
    history = history;
    reached = is.reached;
    pending = pending;
    durable = covered_fits new.durable b.durable;
    held = is.held;
    mode = open_locked m;
  })

  breaks_none_fits : (new : State) → old.mode ≡ open_mode → Breaks old None new → IsState new
  breaks_none_fits new m b = breaks_fits None new
      (before_pending old.history old.pending is.history) (let r = is.reached in omega arith) m b

  breaks_with_fits : (items : List Item) (new : State) → old.mode ≡ open_mode
      → Breaks old (Some (added_batch old items)) new → IsState new
  breaks_with_fits items new m b =
      breaks_fits (Some (added_batch old items)) new
      (history_more old.history old.last items is.reached
      (before_pending old.history old.pending is.history))
      (let g = greatest_more old.history old.last items is.reached in let l =
      placed_length (old.last + 1) items in omega arith) m b

  gives_fits : (one : Snapshot) (new : State) → (old.mode ≡ closed → ⊥) → Gives old one new
      → IsState new
  gives_fits one new m g = subst IsState (sym g.state) (record {
    history = is.history;
    reached = is.reached;
    pending = is.pending;
    durable = is.durable;
    held = λ other there. ⊎_elim
        (λ (was : Contains old.held other). let h =
        is.held other was in (
          h.0,
          Contains-append_left old.given
              (one.number ∷ []) other.number h.1,
        ))
        (λ (e : one ≡ other). subst (λ x. (x.sequence ≤ old.last)
        × Contains (old.given ++ one.number ∷ []) x.number) e (
          let q =
              g.sequence in omega arith,
          Contains-push old.given one.number,
        ))
        (Contains-push_cases old.held one other there);
    mode = suits_unclosed old.mode m old (record old {
      held = old.held ++ one ∷ [];
      given =
          old.given ++ one.number ∷ [];
    }) refl refl is.mode;
  })

  releases_fits : (one : Snapshot) (new : State) → (old.mode ≡ closed → ⊥) → Releases old one new
      → IsState new
  releases_fits one new m r = subst IsState (sym r.state) (record {
    history = is.history;
    reached = is.reached;
    pending = is.pending;
    durable = is.durable;
    held = λ other there. is.held other (subst (λ held. Contains held other) (sym r.was) (⊎_elim
        (λ (left : Contains r.before other). Contains-append_left r.before
        (one ∷ r.after) other left)
        (λ (right : Contains r.after other). Contains-append_right r.before (one ∷ r.after) other
        (in_rest one other r.after right))
        (Contains-append_cases r.before r.after other there)));
    mode = suits_unclosed old.mode m old (record old {
      held =
          r.before ++ r.after;
    }) refl refl is.mode;
  })

  closed_fits : (durable : ℕ) (locked : Bool) → durable ≤ length old.history
      → IsState (record old {
        held = [];
        given = [];
        mode = closed;
        durable = durable;
        locked =
            locked;
      })
  closed_fits durable locked le = record {
    history = is.history;
    reached = is.reached;
    pending = is.pending;
    durable = le;
    held = λ one there. absurd (in_none one there);
    mode = record { held = refl; given = refl };
  }

  stays_fits : (opening : Opening) (setting : Setting) (refusal : Refusal) (cause : Cause) (new : State)
      → old.mode ≡ closed → StaysClosed setting old opening refusal cause new → IsState new
  stays_fits opening setting refusal cause new m s = subst IsState (sym s.state) (record {
    history = is.history;
    reached = is.reached;
    pending = is.pending;
    durable = covered_fits new.durable s.durable;
    held = is.held;
    mode = subst (λ x. SuitsMode x then) (sym m) (record { held = rest.held; given = rest.given });
  })
    where
      then : State
      then = record old {
        durable = new.durable;
        locked = new.locked;
        store = new.store;
      }

      rest : SuitsMode closed old
      rest = subst (λ x. SuitsMode x old) m is.mode

  joined : (history : History) → (history ≡ old.history)
      ⊎ (history ≡ with_batch old.history old.pending)
      → IsHistory history × (length old.history ≤ length history)
  joined history (inl e) = (
    subst IsHistory (sym e)
        (before_pending old.history old.pending is.history),
    let l = ap length e in omega arith,
  )
  joined history (inr e) = (
    subst IsHistory (sym e) is.history,
    let l = ap length e in let w =
        no_shorter old.history old.pending in omega arith,
  )

  opens_fits : (opening : Opening) (new : State) → Opens old opening new → IsState new
  opens_fits opening new o = subst IsState (sym o.state) (record {
    history = (joined new.history o.joins).0;
    reached = o.reached;
    pending = let r = o.reached in omega arith;
    durable = ⊎_elim
        (λ (e : new.durable ≡ old.durable). let l = (joined new.history o.joins).1 in let c =
        is.durable in omega arith)
        (λ (e : new.durable ≡ length new.history). omega arith)
        o.durable;
    held = λ one there. absurd (in_none one there);
    mode = (refl, refl);
  })

  change_fits : (request : Request) (new : State) → Change old request new → IsState new
  change_fits request new (same e) = subst IsState (sym e) is
  change_fits request new (opens opening asked o) = opens_fits opening new o
  change_fits request new (stays opening setting refusal cause m s) =
      stays_fits opening setting refusal cause new m s
  change_fits request new (keeps k) = keeps_fits new k
  change_fits request new (writes items sync asked m w) = writes_fits items sync new m w
  change_fits request new (covers c) = covers_fits new c
  change_fits request new (breaks m b) = breaks_none_fits new m b
  change_fits request new (breaks_with items asked m b) = breaks_with_fits items new m b
  change_fits request new (gives one m g) = gives_fits one new m g
  change_fits request new (releases one asked m r) = releases_fits one new m r
  change_fits request new (closes asked c) =
      subst IsState (sym c.state) (closed_fits (length old.history) false (omega arith))
  change_fits request new (abandons locked asked a) =
      subst IsState (sym a.state) (closed_fits old.durable locked is.durable)

  crash_fits : (risk : Risk) (new : State) → IsHistory risk.history
      → greatest (entries_of risk.history) ≤ risk.bound → Crashes old risk new → IsState new
  crash_fits risk new history reached c = subst IsState (sym c.state) (record {
    history = history_part old.durable risk.history new.history history c.prefix;
    reached = low;
    pending = let l = low in omega arith;
    durable = omega arith;
    held = λ one there. absurd (in_none one there);
    mode = record { held = refl; given = refl };
  })
    where
      low : greatest (entries_of new.history) ≤ risk.bound
      low = let g = greatest_part old.durable risk.history new.history c.prefix in omega arith

pub step_fits : StepFits
step_fits setting old new request answer is step =
    change_fits old is request new (change setting old new request answer step)

pub crash_between_fits : CrashFits
crash_between_fits old new is c = crash_fits old is (risk_between old) new is.history is.pending c

-- what is at risk in an opening
abbrev pub risk_opening : Opening → State → Risk
risk_opening opening old = record (risk_between old) { opening = Some opening }

-- what is at risk in a request, by whether it is an opening
pub risk_cases : (request : Request) (old new : State)
    → (risk_of request old new ≡ risk_between new) ⊎ ((opening : Opening)
    × (risk_of request old new ≡ risk_opening opening old))
risk_cases (open_store opening) old new = inr (opening, refl)
risk_cases request old new = inl refl

pub crash_inside_fits : CrashInsideFits
crash_inside_fits setting old next new request answer is step c = ⊎_elim
    (λ (e : risk_of request old next ≡ risk_between next). let then =
    step_fits setting old next request answer is step in
    crash_fits old is (risk_between next) new then.history then.pending (subst
    (λ r. Crashes old r new) e c))
    (λ (o : (opening : Opening) × (risk_of request old next ≡ risk_opening opening old)).
    crash_fits old is (risk_opening o.0 old) new is.history is.pending
    (subst (λ r. Crashes old r new) o.1 c))
    (risk_cases request old next)
