-- From its opening on, a run of the machine tells each snapshot by its own number, also where its
-- release fails.
use Rattle.std.proofs.Common.{◌≡◌, ◌<◌, ◌⊎◌, ⊎_elim, inl, inr, ℕ, Bool, true, false, List, [], ◌∷◌, ◌++◌, refl, sym, ◌∙◌, ap, subst, arith, Option, Some, None, All, Contains, append-nil}
use Rattle.std.specs.Prelude.{◌==◌}
use Rattle.std.specs.declared.cmp.Ordering.{Ordering}
use Rattle.std.proofs.lemmas.Bool.{eqb-true, eqb-false}
use Rattle.std.proofs.lemmas.List.Elements.{All-cons, All-head, All-nil, All-tail, Contains-append_left, Contains-append_right, Contains-append_cases, Contains-push, Contains-push_cases}
use Rattle.leveldb_base.specs.History.{Entry, History}
use Rattle.leveldb_base.proofs.HistoryLemmas.{in_none, in_front, in_rest, in_cases}
use Rattle.leveldb_files.specs.Stores.Format.{Meaning}
use Rattle.rusty_leveldb.specs.Headline as headline
use Rattle.rusty_leveldb.specs.Headline.{Batch, UserStore, StoreMode, is_open, is_broken, is_closed, Call, CallOutcome, CallRow, StoryEvent, returned, crash, IsStory}
use Rattle.rusty_leveldb.specs.Machines.State.{Mode, open_mode, broken, closed, Snapshot, Opening, State, IsState, SuitsMode, Request, open_store, write, get, walk, get_snapshot, release_snapshot, flush, compact_range, close, abandon, Refusal, Answer, done, found, walked, snapshot, refused}
use Rattle.rusty_leveldb.specs.Machines.Causes.{Setting, Cause, out_of_memory, device_failed, lock_is_held, bad_operand, store_exists, used_up, too_large, compressor_failed, lacks_compressor, IsCausedBy}
use Rattle.rusty_leveldb.specs.Machines.Machine.{Keeps, Breaks, MayBreak, Gives, LeavesRefused, Succeeds, Responds, Rejects, Step, added_batch}
use Rattle.rusty_leveldb.specs.Machines.Runs.{Event, setting_of, RunsEvents}
use Rattle.rusty_leveldb.specs.Machines.Shown.{IsCallOf, IsOutcomeOf, AreHeldAs, store_mode_of, IsShownAs, IsRowOf, IsOpenedIn, TellsEvents}
use Rattle.rusty_leveldb.specs.Programs.Shell.{given_by}
use Rattle.rusty_leveldb.proofs.Machines.MachineLemmas.{change, step_fits}
use Rattle.rusty_leveldb.proofs.Headline.RowLemmas.{steps_are_rows}
use Rattle.rusty_leveldb.proofs.Headline.StoryLemmas.{order_after, opened_format, opens_in_any}

-- ---- the snapshots that were given out

-- those that are held were given out, each with a number of its own
pub record Known (taken : List Snapshot) (state : State) : Type 0 where
  pub held : (one : Snapshot) → Contains state.held one → Contains taken one
  pub own : (one two : Snapshot) → Contains taken one → Contains taken two
      → one.number ≡ two.number → one ≡ two
  pub above : (one : Snapshot) → Contains taken one → 0 < one.number
  pub given : (state.mode ≡ closed → ⊥) → (one : Snapshot) → Contains taken one
      → Contains state.given one.number

-- no more are held, and no more numbers were given out
record Lesser (old new : State) : Type 0 where
  pub held : (one : Snapshot) → Contains new.held one → Contains old.held one
  pub given : (new.mode ≡ closed → ⊥) → (old.mode ≡ closed → ⊥) × (new.given ≡ old.given)

abbrev NeedsOpen : Request → State → Type 0
NeedsOpen (write items sync) old = old.mode ≡ open_mode
NeedsOpen flush old = old.mode ≡ open_mode
NeedsOpen (compact_range from to) old = old.mode ≡ open_mode
NeedsOpen close old = old.mode ≡ open_mode
NeedsOpen request old = Unit {0}

abbrev pub IsOpening : Request → Type 0
IsOpening (open_store opening) = Unit {0}
IsOpening request = ⊥

module _ (setting : Setting) (old new : State) where
  lesser_same : new ≡ old → Lesser old new
  lesser_same e = subst (Lesser old) (sym e)
      (record { held = λ one c. c; given = λ unclosed. (unclosed, refl) })

  lesser_kept : Keeps old new → Lesser old new
  lesser_kept k = subst (Lesser old) (sym k.state)
      (record { held = λ one c. c; given = λ unclosed. (unclosed, refl) })

  lesser_broken : (batch : Option (List Entry)) → old.mode ≡ open_mode → Breaks old batch new
      → Lesser old new
  lesser_broken batch m b = subst (Lesser old) (sym b.state) (record {
    held = λ one c. c;
    given = λ unclosed. (
      λ (c : old.mode ≡ closed). let never : open_mode ≡ closed = sym m ∙ c in cc,
      refl,
    );
  })

  lesser_either : (cause : Cause) → old.mode ≡ open_mode
      → Keeps old new ⊎ (MayBreak cause × Breaks old None new) → Lesser old new
  lesser_either cause m (inl k) = lesser_kept k
  lesser_either cause m (inr b) = lesser_broken None m b.1

  lesser_done : (request : Request) → (IsOpening request → ⊥)
      → Succeeds setting old request done new → Lesser old new
  lesser_done (open_store opening) none s = absurd (none tt)
  lesser_done (write items sync) none s = subst (Lesser old) (sym s.state)
      (record { held = λ one c. c; given = λ unclosed. (unclosed, refl) })
  lesser_done (release_snapshot one) none s = subst (Lesser old) (sym s.state) (record {
    held = λ other c. subst (λ h. Contains h other) (sym s.was) (⊎_elim
        (λ (a : Contains s.before other). Contains-append_left s.before (one ∷ s.after) other a)
        (λ (a : Contains s.after other). Contains-append_right s.before (one ∷ s.after) other
        (in_rest one other s.after a))
        (Contains-append_cases s.before s.after other c));
    given = λ unclosed. (unclosed, refl);
  })
  lesser_done flush none s = subst (Lesser old) (sym s.state)
      (record { held = λ one c. c; given = λ unclosed. (unclosed, refl) })
  lesser_done (compact_range from to) none s = lesser_kept s
  lesser_done close none s = subst (Lesser old) (sym s.state)
      (record { held = λ one c. absurd (in_none one c); given = λ unclosed. absurd (unclosed refl) })
  lesser_done abandon none s = subst (Lesser old) (sym s.state)
      (record { held = λ one c. absurd (in_none one c); given = λ unclosed. absurd (unclosed refl) })
  lesser_done request none s = absurd s

  lesser_refused : (request : Request) (refusal : Refusal) (cause : Cause)
      → (IsOpening request → ⊥) → NeedsOpen request old
      → LeavesRefused setting old request refusal cause new → Lesser old new
  lesser_refused (open_store opening) refusal cause none m s = absurd (none tt)
  lesser_refused (write items sync) refusal cause none m (inl k) = lesser_kept k
  lesser_refused (write items sync) refusal cause none m (inr b) = ⊎_elim
      (λ (b : Breaks old None new). lesser_broken None m b)
      (λ (b : Breaks old (Some (added_batch old items)) new).
      lesser_broken (Some (added_batch old items)) m b) b.1
  lesser_refused flush refusal device_failed none m s = lesser_broken None m s
  lesser_refused flush refusal cause none m s = lesser_either cause m s
  lesser_refused (compact_range from to) refusal cause none m s = lesser_either cause m s
  lesser_refused close refusal cause none m s = lesser_broken None m s
  lesser_refused abandon refusal cause none m s = subst (Lesser old) (sym s.state)
      (record { held = λ one c. absurd (in_none one c); given = λ unclosed. absurd (unclosed refl) })
  lesser_refused request refusal cause none m s = lesser_same s

  -- a request that gave out no snapshot
  lesser_responded : (request : Request) (answer : Answer) → (IsOpening request → ⊥)
      → NeedsOpen request old → given_by answer ≡ [] → Responds setting old request answer new
      → Lesser old new
  lesser_responded request (refused refusal) none m nothing s =
      lesser_refused request refusal s.cause none m s.leaves
  lesser_responded request done none m nothing s = lesser_done request none s.1
  lesser_responded request (snapshot one) none m nothing s =
      absurd (let never : one ∷ [] ≡ [] = nothing in cc)
  lesser_responded (get at key) (found value) none m nothing s = lesser_same s.1.1
  lesser_responded (walk at moves) (walked landings) none m nothing s = lesser_same s.1.1
  lesser_responded request (found value) none m nothing s = absurd s.1
  lesser_responded request (walked landings) none m nothing s = absurd s.1

  lesser_rejected : (Says : Refusal → Type 0) (answer : Answer) → Rejects Says old answer new
      → Lesser old new
  lesser_rejected Says (refused refusal) s = lesser_same s.1
  lesser_rejected Says done s = absurd s
  lesser_rejected Says (found value) s = absurd s
  lesser_rejected Says (walked landings) s = absurd s
  lesser_rejected Says (snapshot one) s = absurd s

  lesser : (mode : Mode) (request : Request) (answer : Answer) → old.mode ≡ mode
      → (IsOpening request → ⊥) → given_by answer ≡ [] → Step mode setting old request answer new
      → Lesser old new
  lesser closed (open_store opening) answer m none nothing s = absurd (none tt)
  lesser closed abandon answer m none nothing s = lesser_same s.1
  lesser closed request answer m none nothing s = lesser_rejected _ answer s
  lesser broken (open_store opening) answer m none nothing s = absurd (none tt)
  lesser broken (write items sync) answer m none nothing s = lesser_rejected _ answer s
  lesser broken flush answer m none nothing s = lesser_rejected _ answer s
  lesser broken (compact_range from to) answer m none nothing s = lesser_rejected _ answer s
  lesser broken close answer m none nothing s = lesser_rejected _ answer s
  lesser broken (get at key) answer m none nothing s =
      lesser_responded (get at key) answer none tt nothing s
  lesser broken (walk at moves) answer m none nothing s =
      lesser_responded (walk at moves) answer none tt nothing s
  lesser broken get_snapshot answer m none nothing s =
      lesser_responded get_snapshot answer none tt nothing s
  lesser broken (release_snapshot one) answer m none nothing s =
      lesser_responded (release_snapshot one) answer none tt nothing s
  lesser broken abandon answer m none nothing s =
      lesser_responded abandon answer none tt nothing s
  lesser open_mode (open_store opening) answer m none nothing s = absurd (none tt)
  lesser open_mode (write items sync) answer m none nothing s =
      lesser_responded (write items sync) answer none m nothing s
  lesser open_mode flush answer m none nothing s = lesser_responded flush answer none m nothing s
  lesser open_mode (compact_range from to) answer m none nothing s =
      lesser_responded (compact_range from to) answer none m nothing s
  lesser open_mode close answer m none nothing s = lesser_responded close answer none m nothing s
  lesser open_mode (get at key) answer m none nothing s =
      lesser_responded (get at key) answer none tt nothing s
  lesser open_mode (walk at moves) answer m none nothing s =
      lesser_responded (walk at moves) answer none tt nothing s
  lesser open_mode get_snapshot answer m none nothing s =
      lesser_responded get_snapshot answer none tt nothing s
  lesser open_mode (release_snapshot one) answer m none nothing s =
      lesser_responded (release_snapshot one) answer none tt nothing s
  lesser open_mode abandon answer m none nothing s =
      lesser_responded abandon answer none tt nothing s

  -- one that gave out this one
  given_out : (mode : Mode) (request : Request) (one : Snapshot)
      → Step mode setting old request (snapshot one) new → (mode ≡ closed → ⊥) × Gives old one new
  given_out closed (open_store opening) one s = absurd s.1
  given_out closed abandon one s = absurd (let never : snapshot one ≡ done = s.0 in cc)
  given_out closed request one s = absurd s
  given_out broken (open_store opening) one s = absurd s
  given_out broken (write items sync) one s = absurd s
  given_out broken flush one s = absurd s
  given_out broken (compact_range from to) one s = absurd s
  given_out broken close one s = absurd s
  given_out broken get_snapshot one s = (λ (c : broken ≡ closed). absurd (cc), s.1)
  given_out broken request one s = absurd s.1
  given_out open_mode (open_store opening) one s = absurd s
  given_out open_mode get_snapshot one s = (λ (c : open_mode ≡ closed). absurd (cc), s.1)
  given_out open_mode request one s = absurd s.1

  module _ (taken : List Snapshot) (known : Known taken old) where
    known_less : Lesser old new → Known taken new
    known_less less = record {
      held = λ one c. known.held one (less.held one c);
      own = known.own;
      above = known.above;
      given = λ unclosed one c. let was = less.given unclosed in
          subst (λ g. Contains g one.number) (sym was.1) (known.given was.0 one c);
    }

    known_more : (one : Snapshot) → (old.mode ≡ closed → ⊥) → Gives old one new
        → Known (taken ++ one ∷ []) new
    known_more one unclosed g = subst (Known (taken ++ one ∷ [])) (sym g.state) (record {
      held = λ other c. ⊎_elim
          (λ (a : Contains old.held other).
          Contains-append_left taken (one ∷ []) other (known.held other a))
          (λ (e : one ≡ other). subst (Contains (taken ++ one ∷ [])) e (Contains-push taken one))
          (Contains-push_cases old.held one other c);
      own = λ a b c d. both a b (Contains-push_cases taken one a c)
          (Contains-push_cases taken one b d);
      above = λ a c. ⊎_elim (λ (t : Contains taken a). known.above a t)
          (λ (e : one ≡ a). subst (λ (s : Snapshot). 0 < s.number) e g.above)
          (Contains-push_cases taken one a c);
      given = λ unclosed_then a c. ⊎_elim
          (λ (t : Contains taken a). Contains-append_left old.given (one.number ∷ []) a.number
          (known.given unclosed a t))
          (λ (e : one ≡ a). subst (λ (s : Snapshot). Contains (old.given ++ one.number ∷ []) s.number)
          e (Contains-push old.given one.number))
          (Contains-push_cases taken one a c);
    })
      where
        never : (a : Snapshot) → Contains taken a → a.number ≡ one.number → ⊥
        never a t e = g.fresh (subst (Contains old.given) e (known.given unclosed a t))

        both : (a b : Snapshot) → Contains taken a ⊎ (one ≡ a) → Contains taken b ⊎ (one ≡ b)
            → a.number ≡ b.number → a ≡ b
        both a b (inl s) (inl t) e = known.own a b s t e
        both a b (inl s) (inr t) e =
            absurd (never a s (e ∙ ap (λ (s : Snapshot). s.number) (sym t)))
        both a b (inr s) (inl t) e =
            absurd (never b t (sym e ∙ ap (λ (s : Snapshot). s.number) (sym s)))
        both a b (inr s) (inr t) e = sym s ∙ t

    known_then : (request : Request) (answer : Answer) → (IsOpening request → ⊥)
        → Step old.mode setting old request answer new → Known (taken ++ given_by answer) new
    known_then request (snapshot one) none s =
        let g = given_out old.mode request one s in known_more one g.0 g.1
    known_then request (refused refusal) none s = subst (λ t. Known t new) (sym (append-nil taken))
        (known_less (lesser old.mode request (refused refusal) refl none refl s))
    known_then request done none s = subst (λ t. Known t new) (sym (append-nil taken))
        (known_less (lesser old.mode request done refl none refl s))
    known_then request (found value) none s = subst (λ t. Known t new) (sym (append-nil taken))
        (known_less (lesser old.mode request (found value) refl none refl s))
    known_then request (walked landings) none s = subst (λ t. Known t new) (sym (append-nil taken))
        (known_less (lesser old.mode request (walked landings) refl none refl s))

-- none is known where none is held
known_none : (state : State) → state.held ≡ [] → Known [] state
known_none state e = record {
  held = λ one c. subst (λ h. Contains h one) e c;
  own = λ one two c d. absurd (in_none one c);
  above = λ one c. absurd (in_none one c);
  given = λ unclosed one c. absurd (in_none one c);
}

-- after an opening
known_opened : (setting : Setting) (old new : State) (opening : Opening) (answer : Answer)
    → IsState old → Step old.mode setting old (open_store opening) answer new
    → Known [] new × (given_by answer ≡ [])
known_opened setting old new opening answer is step = by old.mode answer refl step
  where
    by : (mode : Mode) (answer : Answer) → old.mode ≡ mode
        → Step mode setting old (open_store opening) answer new
        → Known [] new × (given_by answer ≡ [])
    by closed done m s = (known_none new (ap (λ (t : State). t.held) s.1.state), refl)
    by closed (refused refusal) m s =
        let rest = subst (λ mode. SuitsMode mode old) m is.mode in
        (known_none new (ap (λ (t : State). t.held) s.leaves.state ∙ rest.held), refl)
    by closed (found value) m s = absurd s.1
    by closed (walked landings) m s = absurd s.1
    by closed (snapshot one) m s = absurd s.1
    by broken answer m s = absurd s
    by open_mode answer m s = absurd s

-- ---- a release is told by its own number

-- a release of a snapshot that was given out, or of none, is told so
abbrev pub IsOwn : List Snapshot → Request → Call → Type 0
IsOwn taken request call = (one : Snapshot) → request ≡ release_snapshot one
    → Contains taken one ⊎ (one.number ≡ 0) → call ≡ headline.release_snapshot one.number

-- whether a number is held
pub number_held : (held : List (ℕ × ℕ)) (number : ℕ)
    → ((count : ℕ) × Contains held (number, count))
    ⊎ ((count : ℕ) → Contains held (number, count) → ⊥)
number_held [] number = inr (λ count c. in_none (number, count) c)
number_held (first ∷ held) number =
    by (number_held held number) (first.0 == number) refl
  where
    by : ((count : ℕ) × Contains held (number, count))
        ⊎ ((count : ℕ) → Contains held (number, count) → ⊥)
        → (b : Bool) → (first.0 == number) ≡ b
        → ((count : ℕ) × Contains (first ∷ held) (number, count))
        ⊎ ((count : ℕ) → Contains (first ∷ held) (number, count) → ⊥)
    by (inl there) b e = inl (there.0, in_rest first (number, there.0) held there.1)
    by (inr none) true e = inl (
      first.1,
      subst (Contains (first ∷ held)) (ap (λ n. (n, first.1)) (eqb-true first.0 number e))
          (in_front first held),
    )
    by (inr none) false e = inr (λ count c. ⊎_elim
        (λ (s : first ≡ (number, count)).
        eqb-false first.0 number e (ap (λ (p : ℕ × ℕ). p.0) s))
        (λ (c : Contains held (number, count)). none count c)
        (in_cases first (number, count) held c))

-- what is shown as held is held
held_back : (history : History) (batches : List Batch) (held : List Snapshot)
    (shown : List (ℕ × ℕ)) (number count : ℕ) → AreHeldAs history batches held shown
    → Contains shown (number, count)
    → (one : Snapshot) × Contains held one × (one.number ≡ number)
held_back history batches [] [] number count are c = absurd (in_none (number, count) c)
held_back history batches [] (pair ∷ shown) number count are c = absurd are
held_back history batches (first ∷ held) [] number count are c = absurd are
held_back history batches (first ∷ held) (pair ∷ shown) number count are c = ⊎_elim
    (λ (s : pair ≡ (number, count)). let here : (one : Snapshot) × Contains (first ∷ held) one
    × (one.number ≡ number) =
    (first, in_front first held, sym are.0.number ∙ ap (λ (p : ℕ × ℕ). p.0) s) in here)
    (λ (c : Contains shown (number, count)).
    let rest = held_back history batches held shown number count are.1 c in
    let later : (one : Snapshot) × Contains (first ∷ held) one × (one.number ≡ number) =
    (rest.0, in_rest first rest.0 held rest.1, rest.2) in later)
    (in_cases pair (number, count) shown c)

module _ (cmp : List ℕ → List ℕ → Ordering) (setting : Setting) (old new : State)
    (store : UserStore) (taken : List Snapshot) (known : Known taken old) (is : IsState old)
    (shown : IsShownAs old store) where
  -- a step as a row, with its own number
  pub record IsOwnRow (request : Request) (answer : Answer) : Type 0 where
    pub row : IsRowOf cmp setting old store request answer new
    pub own : IsOwn taken request row.call

  -- a release that is refused is of none that is held
  not_held : (mode : Mode) (one : Snapshot) (refusal : Refusal) → old.mode ≡ mode
      → Step mode setting old (release_snapshot one) (refused refusal) new
      → Contains old.held one → ⊥
  not_held closed one refusal m s c =
      let rest = subst (λ mode. SuitsMode mode old) m is.mode in
      in_none one (subst (λ h. Contains h one) rest.held c)
  not_held broken one refusal m s c = unheld s.cause s.comes
    where
      unheld : (cause : Cause) → IsCausedBy setting old (release_snapshot one) refusal cause → ⊥
      unheld out_of_memory w = w.0
      unheld device_failed w = w.0
      unheld lock_is_held w = w.0
      unheld bad_operand w = w.1 c
      unheld store_exists w = w.1
      unheld used_up w = w.1
      unheld too_large w = w.0
      unheld compressor_failed w = w
      unheld lacks_compressor w = w.0
  not_held open_mode one refusal m s c = unheld s.cause s.comes
    where
      unheld : (cause : Cause) → IsCausedBy setting old (release_snapshot one) refusal cause → ⊥
      unheld out_of_memory w = w.0
      unheld device_failed w = w.0
      unheld lock_is_held w = w.0
      unheld bad_operand w = w.1 c
      unheld store_exists w = w.1
      unheld used_up w = w.1
      unheld too_large w = w.0
      unheld compressor_failed w = w
      unheld lacks_compressor w = w.0

  -- the row of another number that isn't held
  module _ (number own : ℕ) (next : UserStore)
      (none : (count : ℕ) → Contains store.held (own, count) → ⊥) where
    row_again : (mode : StoreMode) (refusal : Refusal) (outcome : CallOutcome)
        → IsOutcomeOf (refused refusal) outcome
        → CallRow cmp mode store (headline.release_snapshot number) outcome next
        → CallRow cmp mode store (headline.release_snapshot own) outcome next
    row_again is_closed refusal outcome told row = row
    row_again is_broken refusal outcome (inl told) row = absurd
        (subst (λ o. CallRow cmp is_broken store (headline.release_snapshot number) o next) told.0
        row).1
    row_again is_broken refusal outcome (inr (inl told)) row = absurd
        (subst (λ o. CallRow cmp is_broken store (headline.release_snapshot number) o next) told.0
        row).1
    row_again is_broken refusal outcome (inr (inr told)) row =
        let was = subst (λ o. CallRow cmp is_broken store (headline.release_snapshot number) o next)
        told.1 row in
        subst (λ o. CallRow cmp is_broken store (headline.release_snapshot own) o next) (sym told.1)
        (was.0, (none, was.1.1))
    row_again is_open refusal outcome (inl told) row = absurd
        (subst (λ o. CallRow cmp is_open store (headline.release_snapshot number) o next) told.0
        row).1
    row_again is_open refusal outcome (inr (inl told)) row = absurd
        (subst (λ o. CallRow cmp is_open store (headline.release_snapshot number) o next) told.0
        row).1
    row_again is_open refusal outcome (inr (inr told)) row =
        let was = subst (λ o. CallRow cmp is_open store (headline.release_snapshot number) o next)
        told.1 row in
        subst (λ o. CallRow cmp is_open store (headline.release_snapshot own) o next) (sym told.1)
        (was.0, (none, was.1.1))

  release_again : (one : Snapshot) (refusal : Refusal)
      → Step old.mode setting old (release_snapshot one) (refused refusal) new
      → IsRowOf cmp setting old store (release_snapshot one) (refused refusal) new
      → IsOwnRow (release_snapshot one) (refused refusal)
  release_again one refusal step row = by (number_held store.held one.number)
    where
      by : ((count : ℕ) × Contains store.held (one.number, count))
          ⊎ ((count : ℕ) → Contains store.held (one.number, count) → ⊥)
          → IsOwnRow (release_snapshot one) (refused refusal)
      by (inr none) = record {
        row = record {
          call = headline.release_snapshot one.number;
          outcome = row.outcome;
          next = row.next;
          asked = (one.number, refl);
          told = row.told;
          faults = row.faults;
          row = row_again row.asked.0 one.number row.next none store.mode refusal row.outcome row.told
              (subst (λ c. CallRow cmp store.mode store c row.outcome row.next) row.asked.1 row.row);
          shown = row.shown;
        };
        own = λ other e c. ap headline.release_snapshot (let same : one ≡ other = cc in
            ap (λ (s : Snapshot). s.number) same);
      }
      by (inl there) = record {
        row = row;
        own = λ other e c. absurd (
            let s = held_back old.history store.batches old.held store.held one.number there.0
            shown.held there.1 in
            let same : one ≡ other = cc in
            ⊎_elim
            (λ (given : Contains taken other).
            let is_one : s.0 ≡ one = known.own s.0 one (known.held s.0 s.1)
            (subst (Contains taken) (sym same) given) s.2 in
            not_held old.mode one refusal refl step (subst (Contains old.held) is_one s.1))
            (λ (zero_so : other.number ≡ 0).
            let low = known.above s.0 (known.held s.0 s.1) in
            let number : s.0.number ≡ 0 =
            s.2 ∙ ap (λ (t : Snapshot). t.number) same ∙ zero_so in
            omega (arith, low, number)) c);
      }

  own_row : (request : Request) (answer : Answer)
      → Step old.mode setting old request answer new
      → IsRowOf cmp setting old store request answer new
      → IsOwnRow request answer
  own_row (release_snapshot one) (refused refusal) step row = release_again one refusal step row
  own_row (release_snapshot one) done step row = record {
    row = row;
    own = λ other e c. row.asked ∙ ap headline.release_snapshot (let same : one ≡ other = cc in
        ap (λ (s : Snapshot). s.number) same);
  }
  own_row (release_snapshot one) (found value) step row = record {
    row = row;
    own = λ other e c. row.asked ∙ ap headline.release_snapshot (let same : one ≡ other = cc in
        ap (λ (s : Snapshot). s.number) same);
  }
  own_row (release_snapshot one) (walked landings) step row = record {
    row = row;
    own = λ other e c. row.asked ∙ ap headline.release_snapshot (let same : one ≡ other = cc in
        ap (λ (s : Snapshot). s.number) same);
  }
  own_row (release_snapshot one) (snapshot given) step row = record {
    row = row;
    own = λ other e c. row.asked ∙ ap headline.release_snapshot (let same : one ≡ other = cc in
        ap (λ (s : Snapshot). s.number) same);
  }
  own_row (open_store opening) answer step row = record { row = row; own = λ one e c. absurd (cc) }
  own_row (write items sync) answer step row = record { row = row; own = λ one e c. absurd (cc) }
  own_row (get at key) answer step row = record { row = row; own = λ one e c. absurd (cc) }
  own_row (walk at moves) answer step row = record { row = row; own = λ one e c. absurd (cc) }
  own_row get_snapshot answer step row = record { row = row; own = λ one e c. absurd (cc) }
  own_row flush answer step row = record { row = row; own = λ one e c. absurd (cc) }
  own_row (compact_range from to) answer step row =
      record { row = row; own = λ one e c. absurd (cc) }
  own_row close answer step row = record { row = row; own = λ one e c. absurd (cc) }
  own_row abandon answer step row = record { row = row; own = λ one e c. absurd (cc) }

-- ---- runs

-- each event is told by its own number, where these were given out before
abbrev pub AreOwn : List Snapshot → List Event → List StoryEvent → Type 0
AreOwn taken [] told = Unit {0}
AreOwn taken (event ∷ events) [] = Unit {0}
AreOwn taken (event ∷ events) (crash cut ∷ told) = Unit {0}
AreOwn taken (event ∷ events) (returned call outcome ∷ told) =
    IsOwn taken event.request call × AreOwn (taken ++ given_by event.answer) events told

-- none of these events opens the store
abbrev pub NoneOpens : List Event → Type 0
NoneOpens events = All (λ event. IsOpening event.request → ⊥) events

-- the first event opens the store, and no other does; it is the only one if it fails
abbrev pub OpensFirst : List Event → Type 0
OpensFirst [] = Unit {0}
OpensFirst (event ∷ events) =
    ((opening : Opening) × (event.request ≡ open_store opening)) × NoneOpens events
    × ((event.answer ≡ done) ⊎ (events ≡ []))

module _ (cmp : List ℕ → List ℕ → Ordering) where
  -- a run that was told, each event by its own number
  pub record IsOwnTold (taken : List Snapshot) (events : List Event) (store : UserStore)
      (last : State) : Type 0 where
    pub told : List StoryEvent
    pub next : UserStore
    pub tells : TellsEvents events told
    pub own : AreOwn taken events told
    pub story : IsStory cmp store told next
    pub shown : IsShownAs last next
    pub is : IsState last

  module _ (meaning : Meaning) where
    none_told : (taken : List Snapshot) (before after : ℕ) (old last : State) (store : UserStore)
        → IsState old → IsShownAs old store
        → RunsEvents meaning before old [] after last → IsOwnTold taken [] store last
    none_told taken before after old last store is shown run = record {
      told = [];
      next = store;
      tells = tt;
      own = tt;
      story = refl;
      shown = subst (λ s. IsShownAs s store) (sym run.1) shown;
      is = subst IsState (sym run.1) is;
    }

    -- one event more, in front
    more_told : (taken later : List Snapshot) (setting : Setting) (old next last : State)
        (store : UserStore) (event : Event) (events : List Event)
        → taken ++ given_by event.answer ≡ later
        → (row : IsRowOf cmp setting old store event.request event.answer next)
        → IsOwn taken event.request row.call
        → IsOwnTold later events row.next last → IsOwnTold taken (event ∷ events) store last
    more_told taken later setting old next last store event events same row own rest = record {
      told = returned row.call row.outcome ∷ rest.told;
      next = rest.next;
      tells = (row.asked, row.told, rest.tells);
      own = (own, subst (λ t. AreOwn t events rest.told) (sym same) rest.own);
      story = (row.next, row.row, rest.story);
      shown = rest.shown;
      is = rest.is;
    }

    rest_told : (taken : List Snapshot) (events : List Event) (before after : ℕ)
        (old last : State) (store : UserStore) → Known taken old → IsState old
        → IsShownAs old store → old.format.order ≡ cmp → NoneOpens events
        → All (λ event. IsOpenedIn cmp event.request) events
        → RunsEvents meaning before old events after last → IsOwnTold taken events store last
    rest_told taken [] before after old last store known is shown order none opened run =
        none_told taken before after old last store is shown run
    rest_told taken (event ∷ events) before after old last store known is shown order none opened
        run =
        let next = run.1 in
        let setting = setting_of meaning before event in
        let not_first = All-head (λ (e : Event). IsOpening e.request → ⊥) event events none in
        let own = own_row cmp setting old next store taken known is shown event.request event.answer
        run.2 (steps_are_rows cmp setting old next event.request event.answer store is shown order
        run.2) in
        let rest = rest_told (taken ++ given_by event.answer) events event.failures after next last
        own.row.next
        (known_then setting old next taken known event.request event.answer not_first run.2)
        (step_fits setting old next event.request event.answer is run.2) own.row.shown
        (order_after cmp old next event.request order
        (All-head (λ (e : Event). IsOpenedIn cmp e.request) event events opened)
        (change setting old next event.request event.answer run.2))
        (All-tail (λ (e : Event). IsOpening e.request → ⊥) event events none)
        (All-tail (λ (e : Event). IsOpenedIn cmp e.request) event events opened) run.3 in
        more_told taken (taken ++ given_by event.answer) setting old next last store event events
        refl own.row own.own rest

    -- the opening is a row in this order of keys, whichever the store had
    first_row : (setting : Setting) (old next : State) (store : UserStore) (event : Event)
        (opening : Opening) → event.request ≡ open_store opening → IsState old → IsShownAs old store
        → Step old.mode setting old event.request event.answer next
        → IsRowOf cmp setting old store event.request event.answer next
    first_row setting old next store event opening opens is shown step =
        let row = steps_are_rows old.format.order setting old next event.request event.answer store
        is shown refl step in
        let call_is : row.call ≡ headline.open_store =
        subst (λ r. IsCallOf r event.answer row.call) opens row.asked in
        record {
          call = row.call;
          outcome = row.outcome;
          next = row.next;
          asked = row.asked;
          told = row.told;
          faults = row.faults;
          row = subst (λ c. CallRow cmp store.mode store c row.outcome row.next) (sym call_is)
              (opens_in_any old.format.order cmp store row.next row.call row.outcome
              (shown.mode ∙ ap store_mode_of (closed_before setting old next opening event.answer
              old.mode refl (subst (λ r. Step old.mode setting old r event.answer next) opens step)))
              call_is row.row);
          shown = row.shown;
        }
      where
        closed_before : (setting : Setting) (old new : State) (opening : Opening) (answer : Answer)
            (mode : Mode) → old.mode ≡ mode → Step mode setting old (open_store opening) answer new
            → old.mode ≡ closed
        closed_before setting old new opening answer closed m step = m
        closed_before setting old new opening answer broken m step = absurd step
        closed_before setting old new opening answer open_mode m step = absurd step

    pub first_told : (events : List Event) (before after : ℕ) (old last : State)
        (store : UserStore) → IsState old → IsShownAs old store → OpensFirst events
        → All (λ event. IsOpenedIn cmp event.request) events
        → RunsEvents meaning before old events after last → IsOwnTold [] events store last
    first_told [] before after old last store is shown first opened run =
        none_told [] before after old last store is shown run
    first_told (event ∷ events) before after old last store is shown first opened run =
        let next = run.1 in
        let setting = setting_of meaning before event in
        let opening = first.0.0 in
        let step = subst (λ r. Step old.mode setting old r event.answer next) first.0.1 run.2 in
        let known = known_opened setting old next opening event.answer is step in
        let row = first_row setting old next store event opening first.0.1 is shown run.2 in
        let is_next = step_fits setting old next event.request event.answer is run.2 in
        let done_rest : event.answer ≡ done → IsOwnTold [] events row.next last = λ done_so.
        rest_told [] events event.failures after next last row.next known.0 is_next row.shown
        (opened_format setting opening old next old.mode
        (subst (λ a. Step old.mode setting old (open_store opening) a next) done_so step)
        ∙ subst (IsOpenedIn cmp) first.0.1
        (All-head (λ (e : Event). IsOpenedIn cmp e.request) event events opened)) first.1
        (All-tail (λ (e : Event). IsOpenedIn cmp e.request) event events opened) run.3 in
        let none_rest : events ≡ [] → IsOwnTold [] events row.next last = λ none.
        subst (λ es. IsOwnTold [] es row.next last) (sym none)
        (none_told [] event.failures after next last row.next is_next row.shown
        (subst (λ es. RunsEvents meaning event.failures next es after last) none run.3)) in
        more_told [] [] setting old next last store event events known.1 row
        (λ one e c. absurd (let never : open_store opening ≡ release_snapshot one =
        sym first.0.1 ∙ e in cc)) (⊎_elim done_rest none_rest first.2)

-- the snapshot that an answer gives out has a number above 0
abbrev pub GivesAbove : Event → Type 0
GivesAbove event = (one : Snapshot) → Contains (given_by event.answer) one → 0 < one.number

gives_above : (setting : Setting) (old new : State) (request : Request) (answer : Answer)
    → Step old.mode setting old request answer new
    → (one : Snapshot) → Contains (given_by answer) one → 0 < one.number
gives_above setting old new request (snapshot given) step one there =
    ⊎_elim (λ (same : given ≡ one). subst (λ (s : Snapshot). 0 < s.number) same
    (given_out setting old new old.mode request given step).1.above)
    (λ (c : Contains [] one). absurd (in_none one c)) (in_cases given one [] there)
gives_above setting old new request done step one there = absurd (in_none one there)
gives_above setting old new request (found value) step one there = absurd (in_none one there)
gives_above setting old new request (walked landings) step one there = absurd (in_none one there)
gives_above setting old new request (refused refusal) step one there = absurd (in_none one there)

-- so in a run
pub run_above : (meaning : Meaning) (events : List Event) (before after : ℕ) (old last : State)
    → RunsEvents meaning before old events after last → All GivesAbove events
run_above meaning [] before after old last run = All-nil GivesAbove
run_above meaning (event ∷ events) before after old last run =
    All-cons GivesAbove event events
    (gives_above (setting_of meaning before event) old run.1 event.request event.answer run.2)
    (run_above meaning events event.failures after run.1 last run.3)
