-- What a snapshot reads stays as it is until the store is opened again.
use Rattle.std.proofs.Common.{◌≡◌, ◌≤◌, ◌+◌, ◌∙◌, ⊎_elim, ℕ, List, [], ◌∷◌, ◌++◌, refl, sym, ap, subst, arith, Option, Some, None, Contains}
use Rattle.std.specs.Prelude.{length}
use Rattle.std.proofs.lemmas.List.Elements.{All-head, All-tail, Contains-append_cases, Contains-append_left, Contains-append_right}
use Rattle.leveldb_base.proofs.ConsistentLemmas.{history_is_consistent}
use Rattle.leveldb_base.proofs.HistoryLemmas.{in_cases}
use Rattle.leveldb_base.specs.History.{AreAbove, AreConsistent, Entry, HasValueAt, IsValueAt, SameView, entries_of}
use Rattle.leveldb_files.proofs.Histories.ViewsLemmas.{view_trans}
use Rattle.leveldb_files.specs.Stores.Format.{Meaning}
use Rattle.rusty_leveldb.specs.Machines.Causes.{Setting, TakesLock}
use Rattle.rusty_leveldb.specs.Machines.Laws.{HeldStays, MayRelease, NoneOpens, SnapshotIsRead, ViewsStay}
use Rattle.rusty_leveldb.specs.Machines.Machine.{Gets, Gives, Step, added_batch}
use Rattle.rusty_leveldb.specs.Machines.Runs.{Event, RunsEvents, setting_of}
use Rattle.rusty_leveldb.specs.Machines.State.{Mode, Request, Snapshot, State, broken, closed, found, get, get_snapshot, open_mode, snapshot}
use Rattle.leveldb_files.proofs.Histories.NumbersLemmas.{entries_more, placed_above}
use Rattle.rusty_leveldb.proofs.Machines.MachineLemmas.{Change, abandons, before_pending, breaks, breaks_with, change, closes, covers, gives, keeps, opens, releases, same, stays, writes}

-- ---- entries past a number aren't seen at it

pub views_more : (entries more : List Entry) (s : ℕ) → AreAbove s more
    → SameView entries (entries ++ more) s
views_more entries more s above key value = (to, back)
  where
    to : HasValueAt entries s key value → HasValueAt (entries ++ more) s key value
    to has = record {
      entry = has.entry;
      newest = record {
        there = Contains-append_left entries more has.entry has.newest.there;
        seen = has.newest.seen;
        newest = λ other c k seen. ⊎_elim
            (λ (old : Contains entries other). has.newest.newest other old k seen)
            (λ (new : Contains more other).
            let high = above other new in absurd (omega (arith, high, seen)))
            (Contains-append_cases entries more other c);
      };
      key_is = has.key_is;
      value_is = has.value_is;
    }

    back : HasValueAt (entries ++ more) s key value → HasValueAt entries s key value
    back has = record {
      entry = has.entry;
      newest = record {
        there = ⊎_elim
            (λ (old : Contains entries has.entry). old)
            (λ (new : Contains more has.entry).
            let high = above has.entry new in let seen = has.newest.seen in
            absurd (omega (arith, high, seen)))
            (Contains-append_cases entries more has.entry has.newest.there);
        seen = has.newest.seen;
        newest = λ other c. has.newest.newest other (Contains-append_left entries more other c);
      };
      key_is = has.key_is;
      value_is = has.value_is;
    }

-- ---- steps

-- what stays of the views up to a number
pub record StaysShown (old new : State) : Type 0 where
  pub later : old.last ≤ new.last
  pub views : (s : ℕ) → s ≤ old.last
      → SameView (entries_of old.history) (entries_of new.history) s

itself : (entries : List Entry) (s : ℕ) → SameView entries entries s
itself entries s key value = (λ has. has, λ has. has)

-- the same history and last number
same_shown : (old new : State) → new.history ≡ old.history → new.last ≡ old.last → StaysShown old new
same_shown old new history last = record {
  later = omega (arith, last);
  views = λ s below. subst (λ h. SameView (entries_of old.history) (entries_of h) s) (sym history)
      (itself (entries_of old.history) s);
}

pub shown_trans : (a b c : State) → StaysShown a b → StaysShown b c → StaysShown a c
shown_trans a b c first second = record {
  later = let one = first.later in let two = second.later in omega (arith, one, two);
  views = λ s below. view_trans (entries_of a.history) (entries_of b.history) (entries_of c.history)
      s (first.views s below)
      (second.views s (let one = first.later in omega (arith, one, below)));
}

module _ (old new : State) (request : Request) (no_opening : TakesLock request → ⊥) where
  changed_shown : Change old request new → StaysShown old new
  changed_shown (same e) =
      same_shown old new (ap (λ (s : State). s.history) e) (ap (λ (s : State). s.last) e)
  changed_shown (opens opening asked o) = absurd (no_opening (subst TakesLock (sym asked) tt))
  changed_shown (stays opening setting refusal cause m s) = same_shown old new
      (ap (λ (t : State). t.history) s.state) (ap (λ (t : State). t.last) s.state)
  changed_shown (keeps k) =
      same_shown old new (ap (λ (s : State). s.history) k.state) (ap (λ (s : State). s.last) k.state)
  changed_shown (writes items sync asked m w) = record {
    later = let last : new.last ≡ old.last + length items = ap (λ (s : State). s.last) w.state in
        omega (arith, last);
    views = λ s below. subst (λ es. SameView (entries_of old.history) es s)
        (sym (ap (λ (t : State). entries_of t.history) w.state
        ∙ entries_more old.history (added_batch old items)))
        (views_more (entries_of old.history) (added_batch old items) s
        (placed_above (old.last + 1) items s (omega (arith, below))));
  }
  changed_shown (covers c) =
      same_shown old new (ap (λ (s : State). s.history) c.state) (ap (λ (s : State). s.last) c.state)
  changed_shown (breaks m b) =
      same_shown old new (ap (λ (s : State). s.history) b.state) (ap (λ (s : State). s.last) b.state)
  changed_shown (breaks_with items asked m b) =
      same_shown old new (ap (λ (s : State). s.history) b.state) (ap (λ (s : State). s.last) b.state)
  changed_shown (gives one m g) =
      same_shown old new (ap (λ (s : State). s.history) g.state) (ap (λ (s : State). s.last) g.state)
  changed_shown (releases one asked m r) =
      same_shown old new (ap (λ (s : State). s.history) r.state) (ap (λ (s : State). s.last) r.state)
  changed_shown (closes asked c) =
      same_shown old new (ap (λ (s : State). s.history) c.state) (ap (λ (s : State). s.last) c.state)
  changed_shown (abandons locked asked a) =
      same_shown old new (ap (λ (s : State). s.history) a.state) (ap (λ (s : State). s.last) a.state)

run_shown : (meaning : Meaning) (events : List Event) (before after : ℕ) (old last : State)
    → NoneOpens events → RunsEvents meaning before old events after last → StaysShown old last
run_shown meaning [] before after old last none run =
    same_shown old last (ap (λ (s : State). s.history) run.1) (ap (λ (s : State). s.last) run.1)
run_shown meaning (event ∷ events) before after old last none run =
    let next = run.1 in
    shown_trans old next last
    (changed_shown old next event.request
    (All-head (λ (e : Event). TakesLock e.request → ⊥) event events none)
    (change (setting_of meaning before event) old next event.request event.answer run.2))
    (run_shown meaning events event.failures after next last
    (All-tail (λ (e : Event). TakesLock e.request → ⊥) event events none) run.3)

pub views_stay : ViewsStay
views_stay meaning events before after old last is none run s below =
    (run_shown meaning events before after old last none run).views s below

-- ---- what stays held

-- a snapshot that is held before is held after
abbrev pub StaysHeld : Snapshot → State → State → Type 0
StaysHeld one old new = Contains old.held one → Contains new.held one

same_held : (one : Snapshot) (old new : State) → new.held ≡ old.held → StaysHeld one old new
same_held one old new is = subst (λ held. Contains held one) (sym is)

module _ (one : Snapshot) (old new : State) (request : Request)
    (kept : MayRelease one request → ⊥) where
  changed_held : Change old request new → StaysHeld one old new
  changed_held (same e) = same_held one old new (ap (λ (s : State). s.held) e)
  changed_held (opens opening asked o) = absurd (kept (subst (MayRelease one) (sym asked) tt))
  changed_held (stays opening setting refusal cause m s) =
      same_held one old new (ap (λ (t : State). t.held) s.state)
  changed_held (keeps k) = same_held one old new (ap (λ (s : State). s.held) k.state)
  changed_held (writes items sync asked m w) =
      same_held one old new (ap (λ (s : State). s.held) w.state)
  changed_held (covers c) = same_held one old new (ap (λ (s : State). s.held) c.state)
  changed_held (breaks m b) = same_held one old new (ap (λ (s : State). s.held) b.state)
  changed_held (breaks_with items asked m b) =
      same_held one old new (ap (λ (s : State). s.held) b.state)
  changed_held (gives other m g) = λ there. subst (λ held. Contains held one)
      (sym (ap (λ (s : State). s.held) g.state))
      (Contains-append_left old.held (other ∷ []) one there)
  changed_held (releases other asked m r) = λ there. subst (λ held. Contains held one)
      (sym (ap (λ (s : State). s.held) r.state)) (⊎_elim
      (λ (front : Contains r.before one). Contains-append_left r.before r.after one front)
      (λ (rest : Contains (other ∷ r.after) one). ⊎_elim
      (λ (is : other ≡ one). absurd (kept (subst (MayRelease one) (sym asked) is)))
      (λ (back : Contains r.after one). Contains-append_right r.before r.after one back)
      (in_cases other one r.after rest))
      (Contains-append_cases r.before (other ∷ r.after) one
      (subst (λ held. Contains held one) r.was there)))
  changed_held (closes asked c) = absurd (kept (subst (MayRelease one) (sym asked) tt))
  changed_held (abandons locked asked a) = absurd (kept (subst (MayRelease one) (sym asked) tt))

pub held_stays : HeldStays
held_stays meaning [] before after old last one none run there =
    subst (λ (s : State). Contains s.held one) (sym run.1) there
held_stays meaning (event ∷ events) before after old last one none run there =
    let next = run.1 in
    held_stays meaning events event.failures after next last one
    (All-tail (λ (e : Event). MayRelease one e.request → ⊥) event events none) run.3
    (changed_held one old next event.request
    (All-head (λ (e : Event). MayRelease one e.request → ⊥) event events none)
    (change (setting_of meaning before event) old next event.request event.answer run.2) there)

-- ---- one value

one_value : (entries : List Entry) (s : ℕ) (key : List ℕ) (these those : Option (List ℕ))
    → AreConsistent entries → IsValueAt entries s key these → IsValueAt entries s key those
    → these ≡ those
one_value entries s key None None one a b = refl
one_value entries s key None (Some value) one a b = absurd (a value b)
one_value entries s key (Some value) None one a b = absurd (b value a)
one_value entries s key (Some value) (Some other) one a b =
    let low = a.newest.newest b.entry b.newest.there (b.key_is ∙ sym a.key_is) b.newest.seen in
    let high = b.newest.newest a.entry a.newest.there (a.key_is ∙ sym b.key_is) a.newest.seen in
    let is = one a.entry b.entry a.newest.there b.newest.there (a.key_is ∙ sym b.key_is)
    (omega (arith, low, high)) in
    sym a.value_is ∙ ap (λ (e : Entry). e.value) is ∙ b.value_is

value_there : (these those : List Entry) (s : ℕ) (key : List ℕ) (value : Option (List ℕ))
    → SameView these those s → IsValueAt those s key value → IsValueAt these s key value
value_there these those s key None alike none = λ value there. none value ((alike key value).0 there)
value_there these those s key (Some value) alike there = (alike key value).1 there

-- ---- what is read

module _ (setting : Setting) (old new : State) where
  -- a look-up that isn't refused was one in the state
  looked_at : (mode : Mode) (at : Option Snapshot) (key : List ℕ) (value : Option (List ℕ))
      → Step mode setting old (get at key) (found value) new → Gets old at key value
  looked_at open_mode at key value s = s.1.0
  looked_at broken at key value s = s.1.0
  looked_at closed at key value s = absurd s

  given_in : (mode : Mode) (one : Snapshot)
      → Step mode setting old get_snapshot (snapshot one) new → Gives old one new
  given_in open_mode one s = s.1
  given_in broken one s = s.1
  given_in closed one s = absurd s

pub snapshot_is_read : SnapshotIsRead
snapshot_is_read meaning first second later old taken last new one key earlier now events before after
    is looks gives_one none run reads =
    one_value (entries_of old.history) old.last key now earlier
    (history_is_consistent old.history (before_pending old.history old.pending is.history))
    (value_there (entries_of old.history) (entries_of last.history) old.last key now
    (stays_so.views old.last (omega arith))
    (subst (λ n. IsValueAt (entries_of last.history) n key now) number second_look.looks))
    (subst (λ n. IsValueAt (entries_of old.history) n key earlier) first_look.at_is first_look.looks)
  where
    first_look : Gets old None key earlier
    first_look = looked_at first old old old.mode None key earlier looks

    second_look : Gets last (Some one) key now
    second_look = looked_at later last new last.mode (Some one) key now reads

    given : Gives old one taken
    given = given_in second old taken old.mode one gives_one

    number : second_look.sequence ≡ old.last
    number = second_look.at_is.1 ∙ given.sequence

    stays_so : StaysShown old last
    stays_so = shown_trans old taken last
        (same_shown old taken (ap (λ (s : State). s.history) given.state)
        (ap (λ (s : State). s.last) given.state))
        (run_shown meaning events before after taken last none run)
