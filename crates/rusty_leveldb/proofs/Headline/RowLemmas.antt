-- A step of the machine is a row of the headline.
use Rattle.std.proofs.Common.{◌≡◌, ◌≤◌, ◌<◌, ◌+◌, ◌⊎◌, ⊎_elim, inl, inr, ℕ, Bool, true, false, List, [], ◌∷◌, ◌++◌, length, refl, sym, ◌∙◌, ap, subst, arith, Option, Some, None, Contains, length-append}
use Rattle.std.specs.Prelude.{◌↔◌, max, option_to_list, if◌then◌else◌}
use Rattle.std.proofs.lemmas.List.{take_all}
use Rattle.std.specs.declared.cmp.Ordering.{Ordering}
use Rattle.leveldb_base.specs.History.{Item, Entry, History, entries_of, with_batch, HasValueAt, IsView}
use Rattle.leveldb_base.proofs.HistoryLemmas.{in_none, in_cases}
use Rattle.leveldb_files.proofs.Histories.NumbersLemmas.{up_to}
use Rattle.rusty_leveldb.specs.Headline as headline
use Rattle.rusty_leveldb.specs.Headline.{Batch, map_of, UserStore, StoreMode, is_open, is_broken, is_closed, fresh_store, at_rest, broken_with, Call, CallOutcome, barred, failed, IsCaused, AllowedRow, CallRow, causes}
use Rattle.rusty_leveldb.specs.Machines.State.{Mode, open_mode, broken, closed, Snapshot, Opening, State, IsState, Move, Request, open_store, write, get, walk, get_snapshot, release_snapshot, flush, compact_range, close, abandon, Refusal, Answer, done, found, walked, snapshot, refused}
use Rattle.rusty_leveldb.specs.Machines.Causes.{Setting, Cause, out_of_memory, device_failed, IsCausedBy, IsClosedRefusal, IsBrokenRefusal}
use Rattle.rusty_leveldb.specs.Machines.Machine.{MayGrow, Keeps, added_batch, Writes, AllDurable, Breaks, Gives, Releases, Closes, Abandons, Opens, StaysClosed, MayBreak, KeepsOrBreaks, LeavesRefused, Responds, Rejects, Step}
use Rattle.rusty_leveldb.specs.Machines.Shown.{changes_of, call_of, HasFault, IsEncodingFault, IsCallOf, IsOutcomeOf, store_mode_of, AreShownAs, IsHeldAs, AreHeldAs, IsShownAs, StepsAreRows}
use Rattle.rusty_leveldb.proofs.Machines.MachineLemmas.{none_pending}
use Rattle.rusty_leveldb.proofs.Headline.MapLemmas.{more_shown, whole_shown}
use Rattle.rusty_leveldb.proofs.Headline.ShownLemmas.{none_pending_shown, shown_with_none, nothing_pending, held_push, held_split, held_more, looked_up, reads_map}
use Rattle.rusty_leveldb.proofs.Headline.WalkRowLemmas.{why_of, has_code, caused, fault_of, listing, walk_told}

-- a store that a state shows, and of which this holds
pub record Leads (P : UserStore → Type 0) (new : State) : Type 0 where
  pub next : UserStore
  pub row : P next
  pub shown : IsShownAs new next

-- ---- what a step leaves

module _ (old : State) (store : UserStore) (is : IsState old) (shown : IsShownAs old store) where
  grown : (durable : ℕ) → MayGrow old.durable old.history durable → store.durable ≤ durable
  grown durable (inl e) = let d = shown.durable in omega arith
  grown durable (inr e) = let d = shown.durable in let c = is.durable in omega arith

  same_row : (new : State) → new ≡ old → Leads (λ next. next ≡ store) new
  same_row new e = record {
    next = store;
    row = refl;
    shown = subst (λ s. IsShownAs s store) (sym e) shown;
  }

  keeps_row : (new : State) → Keeps old new → Leads (λ next. next ≡ store) new
  keeps_row new k = record {
    next = store;
    row = refl;
    shown = subst (λ s. IsShownAs s store) (sym k.state) (record {
      batches = shown.batches;
      pending = shown.pending;
      durable = grown new.durable k.durable;
      held = shown.held;
      given = shown.given;
      mode = shown.mode;
    });
  }

  unopened_row : (setting : Setting) (opening : Opening) (refusal : Refusal) (cause : Cause)
      (new : State) → StaysClosed setting old opening refusal cause new
      → Leads (λ next. next ≡ store) new
  unopened_row setting opening refusal cause new k = record {
    next = store;
    row = refl;
    shown = subst (λ s. IsShownAs s store) (sym k.state) (record {
      batches = shown.batches;
      pending = shown.pending;
      durable = grown new.durable k.durable;
      held = shown.held;
      given = shown.given;
      mode = shown.mode;
    });
  }

  durable_row : (new : State) → AllDurable old new
      → Leads (λ next. next ≡ record store { durable = length store.batches }) new
  durable_row new a = record {
    next = record store { durable = length store.batches };
    row = refl;
    shown = subst (λ s. IsShownAs s (record store { durable = length store.batches }))
        (sym a.state) (record {
          batches = shown.batches;
          pending = shown.pending;
          durable = let c = shown.batches.count in omega arith;
          held = shown.held;
          given = shown.given;
          mode = shown.mode;
        });
  }

  -- a batch is placed after all
  added_shown : (items : List Item) → AreShownAs (old.history ++ added_batch old items ∷ [])
      (store.batches ++ changes_of items ∷ [])
  added_shown items = more_shown old.history store.batches shown.batches old.last items is.reached

  -- the store after a write
  abbrev written : List Item → Bool → UserStore
  written items sync = record store {
    batches = store.batches ++ changes_of items ∷ [];
    durable = if sync then length store.batches + 1 else store.durable;
  }

  writes_row : (items : List Item) (sync : Bool) (new : State) → old.mode ≡ open_mode
      → Writes old items sync new → Leads (λ next. next ≡ written items sync) new
  writes_row items sync new m w = record {
    next = written items sync;
    row = refl;
    shown = subst (λ s. IsShownAs s (written items sync)) (sym w.state) (record {
      batches = added_shown items;
      pending = nothing_pending (old.history ++ added_batch old items ∷ [])
          (store.batches ++ changes_of items ∷ []) old.pending store.pending none
          (none_pending_shown old store shown none) (added_shown items);
      durable = by sync refl;
      held = held_more old.history store.batches old.last items old.held store.held
          (λ one c. (is.held one c).0) shown.held;
      given = shown.given;
      mode = shown.mode;
    });
  }
    where
      none : old.pending ≡ None
      none = none_pending old is m

      longer : length new.history ≡ length old.history + 1
      longer = ap (λ (s : State). length s.history) w.state
          ∙ length-append old.history (added_batch old items ∷ [])

      by : (b : Bool) → sync ≡ b
          → (if b then length store.batches + 1 else store.durable) ≤ new.durable
      by true e = let d = w.synced e in let l = longer in let c = shown.batches.count in omega arith
      by false e = ⊎_elim (λ (may : MayGrow old.durable old.history new.durable).
          grown new.durable may)
          (λ (all : new.durable ≡ length new.history). let l = longer in let c = is.durable in
          let d = shown.durable in omega arith) w.durable

  -- a broken store, with nothing pending or with this batch
  breaks_row : (batch : Option (List Entry)) (changes : Option Batch) (new : State)
      → AreShownAs (with_batch old.history batch) (store.batches ++ option_to_list changes)
      → Breaks old batch new → Leads (λ next. next ≡ broken_with store changes) new
  breaks_row batch changes new are b = record {
    next = broken_with store changes;
    row = refl;
    shown = subst (λ s. IsShownAs s (broken_with store changes)) (sym b.state) (record {
      batches = shown.batches;
      pending = are;
      durable = grown new.durable b.durable;
      held = shown.held;
      given = shown.given;
      mode = refl;
    });
  }

  breaks_none_row : (new : State) → Breaks old None new
      → Leads (λ next. next ≡ broken_with store None) new
  breaks_none_row new b = breaks_row None None new
      (shown_with_none old.history store.batches shown.batches) b

  breaks_with_row : (items : List Item) (new : State)
      → Breaks old (Some (added_batch old items)) new
      → Leads (λ next. next ≡ broken_with store (Some (changes_of items))) new
  breaks_with_row items new b =
      breaks_row (Some (added_batch old items)) (Some (changes_of items)) new (added_shown items) b

  -- the causes that break a store
  breaking : (cause : Cause) → MayBreak cause → Contains (causes headline.flush) (why_of cause)
  breaking out_of_memory m = (0, omega arith, refl)
  breaking device_failed m = (1, omega arith, refl)
  breaking cause m = absurd m

  may_break_row : (cause : Cause) (new : State)
      → Keeps old new ⊎ (MayBreak cause × Breaks old None new)
      → Leads (headline.MayLeaveBroken store None (why_of cause)) new
  may_break_row cause new (inl k) =
      let l = keeps_row new k in record { next = l.next; row = inl l.row; shown = l.shown }
  may_break_row cause new (inr b) =
      let l = breaks_none_row new b.1 in
      record { next = l.next; row = inr (breaking cause b.0, inl l.row); shown = l.shown }

  may_break_with_row : (items : List Item) (cause : Cause) (new : State)
      → KeepsOrBreaks old cause (added_batch old items) new
      → Leads (headline.MayLeaveBroken store (Some (changes_of items)) (why_of cause)) new
  may_break_with_row items cause new (inl k) =
      let l = keeps_row new k in record { next = l.next; row = inl l.row; shown = l.shown }
  may_break_with_row items cause new (inr b) = ⊎_elim
      (λ (alone : Breaks old None new). let l = breaks_none_row new alone in
      let row : headline.MayLeaveBroken store (Some (changes_of items)) (why_of cause) l.next =
      inr (breaking cause b.0, inl l.row) in
      pack l.next row l.shown)
      (λ (with : Breaks old (Some (added_batch old items)) new).
      let l = breaks_with_row items new with in
      let row : headline.MayLeaveBroken store (Some (changes_of items)) (why_of cause) l.next =
      inr (breaking cause b.0, inr l.row) in
      pack l.next row l.shown) b.1
    where
      pack : (next : UserStore) → headline.MayLeaveBroken store (Some (changes_of items)) (why_of cause) next
          → IsShownAs new next
          → Leads (headline.MayLeaveBroken store (Some (changes_of items)) (why_of cause)) new
      pack next row are = record { next = next; row = row; shown = are }

  -- ---- snapshots

  gives_row : (cmp : List ℕ → List ℕ → Ordering) (one : Snapshot) (new : State) → Gives old one new
      → Leads (AllowedRow cmp store headline.get_snapshot (headline.snapshot one.number)) new
  gives_row cmp one new g = record {
    next = record store {
      held = store.held ++ (one.number, length store.batches) ∷ [];
      given = store.given ++ one.number ∷ [];
    };
    row = (λ there. g.fresh (subst (λ l. Contains l one.number) shown.given there), refl);
    shown = subst (λ s. IsShownAs s (record store {
      held = store.held ++ (one.number, length store.batches) ∷ [];
      given = store.given ++ one.number ∷ [];
    })) (sym g.state) (record {
      batches = shown.batches;
      pending = shown.pending;
      durable = shown.durable;
      held = held_push old.history store.batches old.held store.held one
          (one.number, length store.batches) shown.held is_held;
      given = ap (λ l. l ++ one.number ∷ []) shown.given;
      mode = shown.mode;
    });
  }
    where
      is_held : IsHeldAs old.history store.batches one (one.number, length store.batches)
      is_held = record {
        number = refl;
        within = omega arith;
        map = subst (λ b. (key value : List ℕ)
            → HasValueAt (entries_of old.history) one.sequence key value
            ↔ (map_of b key ≡ Some value))
            (sym (take_all (length store.batches) store.batches (omega arith)))
            (whole_shown old.history store.batches shown.batches one.sequence
            (up_to one.sequence (entries_of old.history)
            (let r = is.reached in let q = g.sequence in omega arith)));
      }

  releases_row : (cmp : List ℕ → List ℕ → Ordering) (one : Snapshot) (new : State)
      → Releases old one new
      → Leads (AllowedRow cmp store (headline.release_snapshot one.number) headline.done) new
  releases_row cmp one new r =
      let split = held_split old.history store.batches r.before r.after one store.held
      (subst (λ l. AreHeldAs old.history store.batches l store.held) r.was shown.held) in
      record {
        next = record store { held = split.front ++ split.back };
        row = (split.front, split.back, split.count, split.was, refl);
        shown = subst (λ s. IsShownAs s (record store { held = split.front ++ split.back }))
            (sym r.state) (record {
              batches = shown.batches;
              pending = shown.pending;
              durable = shown.durable;
              held = split.without;
              given = shown.given;
              mode = shown.mode;
            });
      }

  -- ---- closing and opening

  closes_row : (new : State) → Closes old new
      → Leads (λ next. next ≡ record (at_rest store) { durable = length store.batches }) new
  closes_row new c = record {
    next = record (at_rest store) { durable = length store.batches };
    row = refl;
    shown = subst (λ s. IsShownAs s (record (at_rest store) { durable = length store.batches }))
        (sym c.state) (record {
          batches = shown.batches;
          pending = shown.pending;
          durable = let c = shown.batches.count in omega arith;
          held = tt;
          given = refl;
          mode = refl;
        });
  }

  abandons_row : (locked : Bool) (new : State) → Abandons old locked new
      → Leads (λ next. next ≡ at_rest store) new
  abandons_row locked new a = record {
    next = at_rest store;
    row = refl;
    shown = subst (λ s. IsShownAs s (at_rest store)) (sym a.state) (record {
      batches = shown.batches;
      pending = shown.pending;
      durable = shown.durable;
      held = tt;
      given = refl;
      mode = refl;
    });
  }

  -- the batches that an opening finds
  pub record FoundAs (history : History) : Type 0 where
    pub all : List Batch
    pub joins : (all ≡ store.batches) ⊎ (all ≡ store.batches ++ option_to_list store.pending)
    pub shown_so : AreShownAs history all
    pub longer : length store.batches ≤ length all

  found_as : (history : History)
      → (history ≡ old.history) ⊎ (history ≡ with_batch old.history old.pending)
      → FoundAs history
  found_as history (inl e) = record {
    all = store.batches;
    joins = inl refl;
    shown_so = subst (λ h. AreShownAs h store.batches) (sym e) shown.batches;
    longer = omega arith;
  }
  found_as history (inr e) = record {
    all = store.batches ++ option_to_list store.pending;
    joins = inr refl;
    shown_so = subst (λ h. AreShownAs h (store.batches ++ option_to_list store.pending)) (sym e)
        shown.pending;
    longer = omega (arith, length-append store.batches (option_to_list store.pending));
  }

  opens_row : (cmp : List ℕ → List ℕ → Ordering) (opening : Opening) (new : State)
      → Opens old opening new
      → Leads (AllowedRow cmp store headline.open_store headline.done) new
  opens_row cmp opening new o =
      let f = found_as new.history o.joins in
      record {
        next = fresh_store f.all store.durable is_open;
        row = (f.all, f.joins, refl);
        shown = subst (λ s. IsShownAs s (fresh_store f.all store.durable is_open)) (sym o.state)
            (record {
              batches = f.shown_so;
              pending = shown_with_none new.history f.all f.shown_so;
              durable = durable f;
              held = tt;
              given = refl;
              mode = refl;
            });
      }
    where
      durable : (f : FoundAs new.history) → store.durable ≤ new.durable
      durable f = ⊎_elim
          (λ (e : new.durable ≡ old.durable). let d = shown.durable in omega arith)
          (λ (e : new.durable ≡ length new.history). let d = shown.durable in
          let c = shown.batches.count in let b = is.durable in let l = f.longer in
          let k = f.shown_so.count in omega arith) o.durable

-- ---- a number of no snapshot that is held

past : List (ℕ × ℕ) → ℕ
past [] = 0
past (pair ∷ held) = max (pair.0 + 1) (past held)

below_past : (held : List (ℕ × ℕ)) (pair : ℕ × ℕ) → Contains held pair → pair.0 < past held
unfolding past
below_past [] pair c = absurd (in_none pair c)
below_past (first ∷ held) pair c = ⊎_elim
    (λ (e : first ≡ pair). let n : first.0 ≡ pair.0 = ap (λ p. p.0) e in omega arith)
    (λ (rest : Contains held pair). let l = below_past held pair rest in omega arith)
    (in_cases first pair held c)

not_held : (held : List (ℕ × ℕ)) (count : ℕ) → Contains held (past held, count) → ⊥
not_held held count c = let l = below_past held (past held, count) c in omega arith

-- ---- calls

module _ (cmp : List ℕ → List ℕ → Ordering) (setting : Setting) (old new : State)
    (store : UserStore) (is : IsState old) (shown : IsShownAs old store)
    (order : old.format.order ≡ cmp) where
  -- a call that the mode allows
  pub record IsAllowed (request : Request) (answer : Answer) : Type 0 where
    pub outcome : CallOutcome
    pub next : UserStore
    pub told : IsOutcomeOf answer outcome
    pub caused_so : IsCaused (call_of request) outcome
    pub faults : HasFault (IsEncodingFault old request answer) setting.before setting.after outcome
    pub row : AllowedRow cmp store (call_of request) outcome next
    pub shown_so : IsShownAs new next

  -- one that is done
  does : (request : Request) (answer : Answer) (outcome : CallOutcome) → IsOutcomeOf answer outcome
      → IsCaused (call_of request) outcome
      → HasFault (IsEncodingFault old request answer) setting.before setting.after outcome
      → Leads (AllowedRow cmp store (call_of request) outcome) new → IsAllowed request answer
  does request answer outcome told caused_so faults l = record {
    outcome = outcome;
    next = l.next;
    told = told;
    caused_so = caused_so;
    faults = faults;
    row = l.row;
    shown_so = l.shown;
  }

  -- one that fails
  fails : (request : Request) (refusal : Refusal) (cause : Cause)
      → IsCausedBy setting old request refusal cause
      → Leads (AllowedRow cmp store (call_of request) (failed (why_of cause))) new
      → IsAllowed request (refused refusal)
  fails request refusal cause comes l =
      does request (refused refusal) (failed (why_of cause))
      (inr (inr (why_of cause, refl, has_code setting old request refusal cause comes)))
      (caused setting old request refusal cause comes)
      (fault_of setting old request refusal cause comes) l

  open_row : (opening : Opening) (answer : Answer)
      → Responds setting old (open_store opening) answer new
      → IsAllowed (open_store opening) answer
  open_row opening (refused refusal) s =
      fails (open_store opening) refusal s.cause s.comes
      (unopened_row old store is shown setting opening refusal s.cause new s.leaves)
  open_row opening done s =
      does (open_store opening) done headline.done refl tt tt
      (opens_row old store is shown cmp opening new s.1)
  open_row opening (found value) s = absurd s.1
  open_row opening (walked landings) s = absurd s.1
  open_row opening (snapshot one) s = absurd s.1

  write_row : (items : List Item) (sync : Bool) (answer : Answer) → old.mode ≡ open_mode
      → Responds setting old (write items sync) answer new
      → IsAllowed (write items sync) answer
  write_row items sync (refused refusal) m s =
      fails (write items sync) refusal s.cause s.comes
      (may_break_with_row old store is shown items s.cause new s.leaves)
  write_row items sync done m s =
      does (write items sync) done headline.done refl tt tt
      (writes_row old store is shown items sync new m s.1)
  write_row items sync (found value) m s = absurd s.1
  write_row items sync (walked landings) m s = absurd s.1
  write_row items sync (snapshot one) m s = absurd s.1

  get_row : (at : Option Snapshot) (key : List ℕ) (answer : Answer)
      → Responds setting old (get at key) answer new
      → IsAllowed (get at key) answer
  get_row at key (refused refusal) s =
      fails (get at key) refusal s.cause s.comes (same_row old store is shown new s.leaves)
  get_row at key (found value) s =
      let gets = s.1.0 in
      let reads = reads_map old store is shown at gets.sequence gets.at_is in
      let l = same_row old store is shown new s.1.1 in
      record {
        outcome = headline.found value;
        next = l.next;
        told = refl;
        caused_so = tt;
        faults = tt;
        row = (
          l.row,
          reads.shown,
          reads.is,
          looked_up (entries_of old.history) gets.sequence (map_of reads.shown) key value
              (reads.map key) gets.looks,
        );
        shown_so = l.shown;
      }
  get_row at key done s = absurd s.1
  get_row at key (walked landings) s = absurd s.1
  get_row at key (snapshot one) s = absurd s.1

  walk_row : (at : Option Snapshot) (moves : List Move) (answer : Answer)
      → Responds setting old (walk at moves) answer new
      → IsAllowed (walk at moves) answer
  walk_row at moves (refused refusal) s =
      fails (walk at moves) refusal s.cause s.comes (same_row old store is shown new s.leaves)
  walk_row at moves (walked landings) s =
      let walks = s.1.0 in
      let reads = reads_map old store is shown at walks.sequence walks.at_is in
      let l = same_row old store is shown new s.1.1 in
      let told = walk_told cmp walks.pairs old at moves order setting None moves landings
      walks.moves_are in
      record {
        outcome = headline.walked told.results;
        next = l.next;
        told = (told.results, refl, told.told);
        caused_so = tt;
        faults = told.faults;
        row = (
          l.row,
          reads.shown,
          walks.pairs,
          reads.is,
          listing cmp (entries_of old.history) walks.sequence walks.pairs (map_of reads.shown)
              reads.map (subst (λ o. IsView o (entries_of old.history) walks.sequence walks.pairs)
              order walks.view),
          told.are,
        );
        shown_so = l.shown;
      }
  walk_row at moves done s = absurd s.1
  walk_row at moves (found value) s = absurd s.1
  walk_row at moves (snapshot one) s = absurd s.1

  get_snapshot_row : (answer : Answer) → Responds setting old get_snapshot answer new
      → IsAllowed get_snapshot answer
  get_snapshot_row (refused refusal) s =
      fails get_snapshot refusal s.cause s.comes (same_row old store is shown new s.leaves)
  get_snapshot_row (snapshot one) s =
      does get_snapshot (snapshot one) (headline.snapshot one.number) refl tt tt
      (gives_row old store is shown cmp one new s.1)
  get_snapshot_row done s = absurd s.1
  get_snapshot_row (found value) s = absurd s.1
  get_snapshot_row (walked landings) s = absurd s.1

  flush_leaves : (refusal : Refusal) (cause : Cause)
      → LeavesRefused setting old flush refusal cause new
      → Leads (headline.MayLeaveBroken store None (why_of cause)) new
  flush_leaves refusal device_failed l = may_break_row old store is shown device_failed new (inr (tt, l))
  flush_leaves refusal cause l = may_break_row old store is shown cause new l

  flush_row : (answer : Answer) → Responds setting old flush answer new
      → IsAllowed flush answer
  flush_row (refused refusal) s =
      fails flush refusal s.cause s.comes (flush_leaves refusal s.cause s.leaves)
  flush_row done s =
      does flush done headline.done refl tt tt (durable_row old store is shown new s.1)
  flush_row (found value) s = absurd s.1
  flush_row (walked landings) s = absurd s.1
  flush_row (snapshot one) s = absurd s.1

  compact_row : (from to : List ℕ) (answer : Answer)
      → Responds setting old (compact_range from to) answer new
      → IsAllowed (compact_range from to) answer
  compact_row from to (refused refusal) s =
      fails (compact_range from to) refusal s.cause s.comes
      (may_break_row old store is shown s.cause new s.leaves)
  compact_row from to done s =
      does (compact_range from to) done headline.done refl tt tt (keeps_row old store is shown new s.1)
  compact_row from to (found value) s = absurd s.1
  compact_row from to (walked landings) s = absurd s.1
  compact_row from to (snapshot one) s = absurd s.1

  close_row : (answer : Answer) → Responds setting old close answer new
      → IsAllowed close answer
  close_row (refused refusal) s =
      fails close refusal s.cause s.comes (breaks_none_row old store is shown new s.leaves)
  close_row done s =
      does close done headline.done refl tt tt (closes_row old store is shown new s.1)
  close_row (found value) s = absurd s.1
  close_row (walked landings) s = absurd s.1
  close_row (snapshot one) s = absurd s.1

  abandon_row : (answer : Answer) → Responds setting old abandon answer new
      → IsAllowed abandon answer
  abandon_row (refused refusal) s =
      fails abandon refusal s.cause s.comes
      (abandons_row old store is shown old.locked new s.leaves)
  abandon_row done s =
      does abandon done headline.done refl tt tt
      (abandons_row old store is shown false new s.1)
  abandon_row (found value) s = absurd s.1
  abandon_row (walked landings) s = absurd s.1
  abandon_row (snapshot one) s = absurd s.1

  -- ---- by the mode

  pub record IsRowAt (mode : StoreMode) (request : Request) (answer : Answer) : Type 0 where
    pub call : Call
    pub outcome : CallOutcome
    pub next : UserStore
    pub asked : IsCallOf request answer call
    pub told : IsOutcomeOf answer outcome
    pub faults : HasFault (IsEncodingFault old request answer) setting.before setting.after outcome
    pub row : CallRow cmp mode store call outcome next
    pub shown_so : IsShownAs new next

  -- an allowed call whose row it is
  row_of : (mode : StoreMode) (request : Request) (answer : Answer) (call : Call)
      → IsCallOf request answer call → (a : IsAllowed request answer)
      → CallRow cmp mode store call a.outcome a.next → IsRowAt mode request answer
  row_of mode request answer call asked a row = record {
    call = call;
    outcome = a.outcome;
    next = a.next;
    asked = asked;
    told = a.told;
    faults = a.faults;
    row = row;
    shown_so = a.shown_so;
  }

  release_asked : (one : Snapshot) (answer : Answer)
      → IsCallOf (release_snapshot one) answer (headline.release_snapshot one.number)
  release_asked one (refused refusal) = (one.number, refl)
  release_asked one done = refl
  release_asked one (found value) = refl
  release_asked one (walked landings) = refl
  release_asked one (snapshot other) = refl

  -- the release of a snapshot, in a store that is open or broken
  module _ (mode : StoreMode) (as_allowed : (number : ℕ) (outcome : CallOutcome) (next : UserStore)
      → IsCaused (headline.release_snapshot number) outcome
      → AllowedRow cmp store (headline.release_snapshot number) outcome next
      → CallRow cmp mode store (headline.release_snapshot number) outcome next) where
    release_row : (one : Snapshot) (answer : Answer)
        → Responds setting old (release_snapshot one) answer new
        → IsRowAt mode (release_snapshot one) answer
    release_row one (refused refusal) s =
        let l = same_row old store is shown new s.leaves in
        record {
          call = headline.release_snapshot (past store.held);
          outcome = failed (why_of s.cause);
          next = l.next;
          asked = (past store.held, refl);
          told = inr (inr (
            why_of s.cause,
            refl,
            has_code setting old (release_snapshot one) refusal s.cause s.comes,
          ));
          faults = fault_of setting old (release_snapshot one) refusal s.cause s.comes;
          row = as_allowed (past store.held) (failed (why_of s.cause)) l.next
              (caused setting old (release_snapshot one) refusal s.cause s.comes)
              (λ count. not_held store.held count, l.row);
          shown_so = l.shown;
        }
    release_row one done s =
        let l = releases_row old store is shown cmp one new s.1 in
        record {
          call = headline.release_snapshot one.number;
          outcome = headline.done;
          next = l.next;
          asked = refl;
          told = refl;
          faults = tt;
          row = as_allowed one.number headline.done l.next tt l.row;
          shown_so = l.shown;
        }
    release_row one (found value) s = absurd s.1
    release_row one (walked landings) s = absurd s.1
    release_row one (snapshot other) s = absurd s.1

  -- a call that the mode bars
  told_closed : (answer : Answer) → Rejects IsClosedRefusal old answer new
      → IsOutcomeOf answer (barred is_closed) × (new ≡ old)
  told_closed (refused refusal) s = (inl (refl, s.0), s.1)
  told_closed done s = absurd s
  told_closed (found value) s = absurd s
  told_closed (walked landings) s = absurd s
  told_closed (snapshot one) s = absurd s

  told_broken : (answer : Answer) → Rejects IsBrokenRefusal old answer new
      → IsOutcomeOf answer (barred is_broken) × (new ≡ old)
  told_broken (refused refusal) s = (inr (inl (refl, s.0)), s.1)
  told_broken done s = absurd s
  told_broken (found value) s = absurd s
  told_broken (walked landings) s = absurd s
  told_broken (snapshot one) s = absurd s

  bars : (mode : StoreMode) (request : Request) (answer : Answer) (call : Call)
      → IsCallOf request answer call → CallRow cmp mode store call (barred mode) store
      → IsOutcomeOf answer (barred mode) × (new ≡ old) → IsRowAt mode request answer
  unfolding same_row
  bars mode request answer call asked row told = record {
    call = call;
    outcome = barred mode;
    next = store;
    asked = asked;
    told = told.0;
    faults = tt;
    row = row;
    shown_so = (same_row old store is shown new told.1).shown;
  }

  -- abandoning a closed store
  abandoned : (answer : Answer) → (answer ≡ done) × (new ≡ old) → IsRowAt is_closed abandon answer
  abandoned answer s = record {
    call = headline.abandon;
    outcome = headline.done;
    next = store;
    asked = refl;
    told = subst (λ a. IsOutcomeOf a headline.done) (sym s.0) refl;
    faults = tt;
    row = (refl, refl);
    shown_so = subst (λ t. IsShownAs t store) (sym s.1) shown;
  }

  row_at : (mode : Mode) (request : Request) (answer : Answer) → old.mode ≡ mode
      → Step mode setting old request answer new → IsRowAt (store_mode_of mode) request answer
  row_at closed (open_store opening) answer m s =
      let a = open_row opening answer s in
      row_of is_closed (open_store opening) answer headline.open_store refl a (a.caused_so, a.row)
  row_at closed abandon answer m s = abandoned answer s
  row_at closed (write items sync) answer m s =
      bars is_closed (write items sync) answer (call_of (write items sync)) refl (refl, refl)
      (told_closed answer s)
  row_at closed (get at key) answer m s =
      bars is_closed (get at key) answer (call_of (get at key)) refl (refl, refl)
      (told_closed answer s)
  row_at closed (walk at moves) answer m s =
      bars is_closed (walk at moves) answer (call_of (walk at moves)) refl (refl, refl)
      (told_closed answer s)
  row_at closed get_snapshot answer m s =
      bars is_closed get_snapshot answer headline.get_snapshot refl (refl, refl)
      (told_closed answer s)
  row_at closed (release_snapshot one) answer m s =
      bars is_closed (release_snapshot one) answer (headline.release_snapshot one.number)
      (release_asked one answer) (refl, refl) (told_closed answer s)
  row_at closed flush answer m s =
      bars is_closed flush answer headline.flush refl (refl, refl) (told_closed answer s)
  row_at closed (compact_range from to) answer m s =
      bars is_closed (compact_range from to) answer headline.compact_range refl (refl, refl)
      (told_closed answer s)
  row_at closed close answer m s =
      bars is_closed close answer headline.close refl (refl, refl) (told_closed answer s)
  row_at broken (open_store opening) answer m s = absurd s
  row_at broken (write items sync) answer m s =
      bars is_broken (write items sync) answer (call_of (write items sync)) refl (refl, refl)
      (told_broken answer s)
  row_at broken flush answer m s =
      bars is_broken flush answer headline.flush refl (refl, refl) (told_broken answer s)
  row_at broken (compact_range from to) answer m s =
      bars is_broken (compact_range from to) answer headline.compact_range refl (refl, refl)
      (told_broken answer s)
  row_at broken close answer m s =
      bars is_broken close answer headline.close refl (refl, refl) (told_broken answer s)
  row_at broken (get at key) answer m s =
      let a = get_row at key answer s in
      row_of is_broken (get at key) answer (call_of (get at key)) refl a (a.caused_so, a.row)
  row_at broken (walk at moves) answer m s =
      let a = walk_row at moves answer s in
      row_of is_broken (walk at moves) answer (call_of (walk at moves)) refl a (a.caused_so, a.row)
  row_at broken get_snapshot answer m s =
      let a = get_snapshot_row answer s in
      row_of is_broken get_snapshot answer headline.get_snapshot refl a (a.caused_so, a.row)
  row_at broken (release_snapshot one) answer m s =
      release_row is_broken (λ number outcome next c r. (c, r)) one answer s
  row_at broken abandon answer m s =
      let a = abandon_row answer s in
      row_of is_broken abandon answer headline.abandon refl a (a.caused_so, a.row)
  row_at open_mode (open_store opening) answer m s = absurd s
  row_at open_mode (write items sync) answer m s =
      let a = write_row items sync answer m s in
      row_of is_open (write items sync) answer (call_of (write items sync)) refl a
      (a.caused_so, a.row)
  row_at open_mode flush answer m s =
      let a = flush_row answer s in
      row_of is_open flush answer headline.flush refl a (a.caused_so, a.row)
  row_at open_mode (compact_range from to) answer m s =
      let a = compact_row from to answer s in
      row_of is_open (compact_range from to) answer headline.compact_range refl a
      (a.caused_so, a.row)
  row_at open_mode close answer m s =
      let a = close_row answer s in
      row_of is_open close answer headline.close refl a (a.caused_so, a.row)
  row_at open_mode (get at key) answer m s =
      let a = get_row at key answer s in
      row_of is_open (get at key) answer (call_of (get at key)) refl a (a.caused_so, a.row)
  row_at open_mode (walk at moves) answer m s =
      let a = walk_row at moves answer s in
      row_of is_open (walk at moves) answer (call_of (walk at moves)) refl a (a.caused_so, a.row)
  row_at open_mode get_snapshot answer m s =
      let a = get_snapshot_row answer s in
      row_of is_open get_snapshot answer headline.get_snapshot refl a (a.caused_so, a.row)
  row_at open_mode (release_snapshot one) answer m s =
      release_row is_open (λ number outcome next c r. (c, r)) one answer s
  row_at open_mode abandon answer m s =
      let a = abandon_row answer s in
      row_of is_open abandon answer headline.abandon refl a (a.caused_so, a.row)

pub steps_are_rows : StepsAreRows
steps_are_rows cmp setting old new request answer store is shown order step =
    let r = row_at cmp setting old new store is shown order old.mode request answer refl step in
    record {
      call = r.call;
      outcome = r.outcome;
      next = r.next;
      asked = r.asked;
      told = r.told;
      faults = r.faults;
      row = subst (λ mode. CallRow cmp mode store r.call r.outcome r.next) (sym shown.mode) r.row;
      shown = r.shown_so;
    }
