-- What an engine's memory has to do with the disk and the state: its mode, and how what the calls
-- on its store leave is a step of the machine.
use Rattle.std.specs.Prelude.{Contains}
use Rattle.std.proofs.Common.{◌≡◌, ◌≤◌, ◌+◌, ◌∙◌, ⊎_elim, inl, inr, ℕ, true, false, List, length, refl, sym, ap, subst, arith, Option, Some, None, IsTrue}
use Rattle.std.specs.declared.cmp.Ordering.{Ordering}
use Rattle.leveldb_base.specs.History.{Entry, History, count_of, entries_of, greatest, with_batch}
use Rattle.leveldb_env.specs.Env.{Files, Observed, Run}
use Rattle.leveldb_env.specs.Options.{Boxed, OptionsOf}
use Rattle.leveldb_env.specs.declared.env.Env.{Ghosts}
use Rattle.leveldb_env.proofs.EnvLemmas.{Run-mono}
use Rattle.leveldb_iter.specs.Snapshot.{HeldSnapshots}
use Rattle.leveldb_files.specs.Stores.Contents.{Contents, Store, made}
use Rattle.leveldb_files.specs.Histories.Holds.{Carries, Holds, IsSafe}
use Rattle.leveldb_files.specs.Stores.Paths.{lock_path}
use Rattle.leveldb_files.specs.Stores.Store.{IsStore}
use Rattle.leveldb_files.specs.Steps.StoreSteps.{AppendedAreBytes}
use Rattle.leveldb_files.specs.Stores.Format.{Agrees, Format, IsTableOf, Meaning}
use Rattle.leveldb_store.specs.Keeping.OpenStore.{IsUnbroken, OpenStoreValue}
use Rattle.leveldb_store.specs.Writing.WriteBatch.{HoldsBatches, IsOf, SparesBatches}
use Rattle.leveldb_store.specs.Keeping.Written.{IsWritten, KeepsShown, HasView}
use Rattle.rusty_leveldb.specs.Engines.Boxes.{EngineOf, InternalOrder}
use Rattle.rusty_leveldb.specs.Engines.EngineValue.{FollowsStore, IsUnbrokenIfOpen}
use Rattle.rusty_leveldb.specs.Engines.Engine.{HasOwnTables, HasSnapshots, Recalls, ShowsViews, engine_options, scene}
use Rattle.rusty_leveldb.specs.Engines.Frame.{IsSyncing, MayTouch, SameBytes, Spares}
use Rattle.rusty_leveldb.specs.Machines.Machine.{Step, risk_of}
use Rattle.rusty_leveldb.specs.Engines.Serves.{TakesStep, IsSpared, Reads, Represents, StandsFor, setting_between}
use Rattle.rusty_leveldb.specs.Machines.State as machine
use Rattle.rusty_leveldb.specs.Machines.State.{Answer, IsState, Request, State, SuitsMode, open_mode}
use Rattle.rusty_leveldb.proofs.Engines.Bounds.{carries_allow, safe_allow}
use Rattle.rusty_leveldb.proofs.Machines.MachineLemmas.{step_fits}
use Rattle.rusty_leveldb.proofs.Engines.ReadsLemmas.{IsNamed, holds_in, holds_of, if_stays, may_stay, safe_of, stays_if}

-- ---- the mode

module _ {C : Type 0} (mode : machine.Mode) (value : OpenStoreValue C)
    (follows : FollowsStore mode value) where
  -- an engine whose mode follows its store is open only where that is unbroken
  pub follows_unbroken : IsUnbrokenIfOpen mode value
  follows_unbroken opened = ⊎_elim
      (λ (opens : (mode ≡ machine.open_mode) × IsUnbroken value). opens.1)
      (λ (broke : (mode ≡ machine.broken) × (IsUnbroken value → ⊥)).
      absurd (let never : machine.broken ≡ machine.open_mode = sym broke.0 ∙ opened in cc)) follows

  -- and it is open where it is
  pub follows_open : IsUnbroken value → mode ≡ machine.open_mode
  follows_open unbroken = ⊎_elim
      (λ (opens : (mode ≡ machine.open_mode) × IsUnbroken value). opens.0)
      (λ (broke : (mode ≡ machine.broken) × (IsUnbroken value → ⊥)). absurd (broke.1 unbroken))
      follows

  -- and broken where its log's writer is
  pub follows_broken : value.log.writer.broken ≡ true → mode ≡ machine.broken
  follows_broken is = ⊎_elim
      (λ (opens : (mode ≡ machine.open_mode) × IsUnbroken value).
      absurd (let never : true ≡ false = sym is ∙ opens.1.log in cc))
      (λ (broke : (mode ≡ machine.broken) × (IsUnbroken value → ⊥)). broke.0) follows

-- ---- the laws of a store's files and the machine

-- what is held where these stores may be there is held where these others may
pub holds_allow : (store : List ℕ) (reads : Files → Contents → Type 0) (some more : Store → Type 0)
    → ((there : Store) → some there → more there) → (files : Files) (history : History)
    (last durable : ℕ) (pending : Option (List Entry))
    → Holds store reads some files history last durable pending
    → Holds store reads more files history last durable pending
holds_allow store reads some more may files history last durable pending holds =
    let bound = last + count_of pending in
    let all = with_batch history pending in
    record {
      now = ⊎_elim
          (λ (c : Carries store reads some bound history files).
          inl (carries_allow store reads bound history files may c))
          (λ (c : Carries store reads some bound all files).
          inr (carries_allow store reads bound all files may c))
          holds.now;
      crash = safe_allow store reads bound durable all files may holds.crash;
    }

-- the store stays
abbrev pub Stays : State → Store → Type 0
Stays old it = IsTrue (may_stay None old.store it)

-- the store of a state is read in the order of the state's format
module _ (store : List ℕ) (meaning : Meaning) (old : State) (agrees : Agrees old.format meaning)
    (is_named : old.store ≡ made (Some old.format.order_name)) where
  -- how the laws of a store's files read them
  abbrev pub ReadsByOrder : Files → Contents → Type 0
  ReadsByOrder = IsStore store old.format.order (IsTableOf old.format.order meaning)

  pub store_named : IsNamed old.format.order_name old.store
  store_named = subst (IsNamed old.format.order_name) (sym is_named) refl

  stays_named : (there : Store) → Stays old there → IsNamed old.format.order_name there
  stays_named there may =
      subst (IsNamed old.format.order_name) (sym (stays_if None old.store there may)) store_named

  pub held_by_order : (files : Files) (history : History) (last durable : ℕ)
      (pending : Option (List Entry))
      → Holds store (Reads store meaning) (λ now. now ≡ old.store) files history last durable pending
      → Holds store ReadsByOrder (Stays old) files history last durable pending
  held_by_order files history last durable pending holds =
      holds_in store meaning old.format.order_name old.format.order agrees.order (Stays old)
      stays_named files history last durable pending
      (holds_allow store (Reads store meaning) (λ now. now ≡ old.store) (Stays old)
      (if_stays None old.store) files history last durable pending holds)

  pub held_by_state : (files : Files) (history : History) (last durable : ℕ)
      (pending : Option (List Entry))
      → Holds store ReadsByOrder (Stays old) files history last durable pending
      → Holds store (Reads store meaning) (λ now. now ≡ old.store) files history last durable pending
  held_by_state files history last durable pending holds =
      holds_allow store (Reads store meaning) (Stays old) (λ now. now ≡ old.store)
      (stays_if None old.store) files history last durable pending
      (holds_of store meaning old.format.order_name old.format.order agrees.order (Stays old)
      stays_named files history last durable pending holds)

  pub spared_by_state : (bound : ℕ) (history : History) (files : Files)
      → IsSafe store ReadsByOrder (Stays old) bound old.durable history files
      → IsSpared store meaning old
      (record { history = history; bound = bound; opening = None }) files
  spared_by_state bound history files safe =
      safe_allow store (Reads store meaning) bound old.durable history files
      (stays_if None old.store)
      (safe_of store meaning old.format.order_name old.format.order agrees.order (Stays old)
      stays_named bound old.durable history files safe)

-- ---- a call on an engine that isn't closed

module _ {E C FP F : Type 0} {B : Boxed} {keys : InternalOrder C} (env : Ghosts E F)
    (formats : OptionsOf C FP B → Format)
    (store : List ℕ) (meaning : Meaning) (before : EngineOf E C FP F B) (from : E)
    (old : State)
    (was : Represents store meaning (Recalls keys env formats store meaning) (Some before)
    (env.observed from).disk old) (opened : before.mode ≡ machine.open_mode) where
  abbrev pub order : List ℕ → List ℕ → Ordering
  order = old.format.order

  pub state_open : old.mode ≡ open_mode
  state_open = sym was.memory_is.mode ∙ opened

  pub not_closed : old.mode ≡ machine.closed → ⊥
  not_closed is = let never : open_mode ≡ machine.closed = sym state_open ∙ is in cc

  pub agreeing : Agrees old.format meaning
  agreeing = was.disk_is.agrees not_closed

  pub name_is : old.store ≡ made (Some old.format.order_name)
  name_is = was.memory_is.named not_closed

  pub none : old.pending ≡ None
  none = (subst (λ m. SuitsMode m old) state_open was.disk_is.is_state.mode).0

  pub same_format : formats (engine_options before) ≡ old.format
  same_format = was.memory_is.format not_closed

  -- the store holds the history, as the laws of its files say it
  pub is_of : IsOf order meaning (Stays old) before.store (env.observed from).disk.files
      old.history old.durable
  is_of =
      let files = (env.observed from).disk.files in
      let held = held_by_order store meaning old agreeing name_is files old.history old.last
      old.durable None
      (subst (λ p. Holds store (Reads store meaning) (λ now. now ≡ old.store) files old.history
      old.last old.durable p) none was.disk_is.holds) in
      let at_path = subst (λ path. Holds path (IsStore path order (IsTableOf order meaning))
      (Stays old) files old.history old.last old.durable None) (sym was.memory_is.path) held in
      record {
        written = was.memory_is.writes state_open;
        holds = subst (λ last. Holds before.store.set.store
            (IsStore before.store.set.store order (IsTableOf order meaning)) (Stays old) files
            old.history last old.durable None) (sym (was.memory_is.last not_closed)) at_path;
      }

  -- what a store holds in the end, as the machine says it
  module _ (value : OpenStoreValue C) (path : value.set.store ≡ before.store.set.store) where
    at_store : value.set.store ≡ store
    at_store = path ∙ was.memory_is.path

    pub machine_holds : (files : Files) (history : History) (last durable : ℕ)
        (pending : Option (List Entry)) → value.set.last_sequence ≡ last
        → HoldsBatches order meaning (Stays old) value files history durable pending
        → Holds store (Reads store meaning) (λ now. now ≡ old.store) files history last durable
        pending
    machine_holds files history last durable pending last_is holds =
        let at_last = subst (λ l. Holds value.set.store
        (IsStore value.set.store order (IsTableOf order meaning)) (Stays old) files history l durable
        pending) last_is holds in
        held_by_state store meaning old agreeing name_is files history last durable pending
        (subst (λ p. Holds p (IsStore p order (IsTableOf order meaning)) (Stays old) files history
        last durable pending) at_store at_last)

    pub machine_spares : (history : History) (last : ℕ) (pending : Option (List Entry))
        (mid to : Observed) → value.set.last_sequence ≡ last
        → SparesBatches order meaning (Stays old) value history old.durable pending mid to
        → Run (IsSpared store meaning old (record {
          history = with_batch history pending;
          bound = last + count_of pending;
          opening = None;
        })) mid to
    machine_spares history last pending mid to last_is run =
        let all = with_batch history pending in
        Run-mono (λ files safe. spared_by_state store meaning old agreeing name_is
        (last + count_of pending) all files
        (subst (λ p. IsSafe p (IsStore p order (IsTableOf order meaning)) (Stays old)
        (last + count_of pending) old.durable all files) at_store
        (subst (λ l. IsSafe value.set.store (IsStore value.set.store order (IsTableOf order meaning))
        (Stays old) (l + count_of pending) old.durable all files) last_is safe))) run

  -- the state has the snapshots of the state before, unless it is closed
  abbrev pub SameSnapshots : State → Type 0
  SameSnapshots new = (new.mode ≡ machine.closed → ⊥)
      → (new.held ≡ old.held) × (new.given ≡ old.given)

  -- a call that keeps what a store shows, and takes no entry from the history, keeps the views
  pub views_then : (mid : OpenStoreValue C) (here : Files) → ShowsViews meaning mid here old
      → (value : OpenStoreValue C) (files : Files) (new : State) → SameSnapshots new
      → new.format ≡ old.format
      → greatest (entries_of old.history) ≤ greatest (entries_of new.history)
      → KeepsShown order meaning mid here old.history value files new.history
      → (new.mode ≡ machine.closed → ⊥) → ShowsViews meaning value files new
  views_then mid here views value files new snapshots format_is grows shows used = record {
    since = views.since;
    shows = subst (λ (f : Format). HasView f.order meaning value files new.history views.since)
        (sym format_is) (shows views.since views.shows);
    now = let least = views.now in omega (arith, least, grows);
    held = λ one there. views.held one
        (subst (λ held. Contains held one) (snapshots used).0 there);
  }

  -- so where the store is the one before
  pub views_kept : (value : OpenStoreValue C) (files : Files) (new : State) → SameSnapshots new
      → new.format ≡ old.format
      → greatest (entries_of old.history) ≤ greatest (entries_of new.history)
      → KeepsShown order meaning before.store (env.observed from).disk.files old.history value files
      new.history
      → (new.mode ≡ machine.closed → ⊥) → ShowsViews meaning value files new
  views_kept value files new snapshots format_is grows shows used = views_then before.store
      (env.observed from).disk.files (was.memory_is.shows not_closed) value files new snapshots
      format_is grows shows used

  -- or a store that shows them already, and the history stays
  pub views_still : (value : OpenStoreValue C) (files : Files) → ShowsViews meaning value files old
      → (new : State) → SameSnapshots new → new.format ≡ old.format → new.history ≡ old.history
      → (new.mode ≡ machine.closed → ⊥) → ShowsViews meaning value files new
  views_still value files views new snapshots format_is history_is used = views_then value files views
      value files new snapshots format_is
      (let same_end = ap (λ (h : History). greatest (entries_of h)) history_is in
      omega (arith, same_end))
      (subst (KeepsShown order meaning value files old.history value files) (sym history_is)
      (λ since s. s)) used

  -- What the engine and the environment are in the end, for this state of the machine. It has the
  -- store and the format of the state before, and its snapshots.
  pub record Ends (after : EngineOf E C FP F B) (to : E) (new : State) : Type 0 where
    pub lock : after.lock ≡ before.lock
    pub options : formats (engine_options after) ≡ formats (engine_options before)
    pub path : after.store.set.store ≡ before.store.set.store
    pub store_is : new.store ≡ old.store
    pub format_is : new.format ≡ old.format
    pub mode : after.mode ≡ new.mode
    pub last : after.store.set.last_sequence ≡ new.last
    pub views : (new.mode ≡ machine.closed → ⊥)
        → ShowsViews meaning after.store (env.observed to).disk.files new
    pub snapshots : after.snapshots ≡ before.snapshots
    pub same_snapshots : SameSnapshots new
    pub tables : HasOwnTables keys env formats after (env.observed to).disk.files
    pub writes : new.mode ≡ open_mode
        → IsWritten order meaning after.store (env.observed to).disk.files
    pub holds : HoldsBatches order meaning (Stays old) after.store (env.observed to).disk.files
        new.history new.durable new.pending
    pub bytes : AppendedAreBytes (env.observed to).disk.files
    pub locked : (env.observed to).disk.locked (lock_path store) ≡ new.locked

  module _ (after : EngineOf E C FP F B) (to : E) (new : State)
      (ends : Ends after to new) where
    snapshots_then : (new.mode ≡ machine.closed → ⊥) → HasSnapshots after.snapshots new
    snapshots_then used =
        let has : HasSnapshots after.snapshots old =
        subst (λ (s : HeldSnapshots). HasSnapshots s old) (sym ends.snapshots)
        (was.memory_is.snapshots not_closed) in
        let same = ends.same_snapshots used in record {
          held = has.held ∙ sym same.0;
          count = ap (λ (given : List ℕ). length given) same.1 ∙ has.count;
          given = λ number there. has.given number
              (subst (λ given. Contains given number) same.1 there);
        }

    recalled : Recalls keys env formats store meaning after (env.observed to).disk new
    recalled = record {
      mode = ends.mode;
      lock = ends.lock ∙ was.memory_is.lock;
      path = ends.path ∙ was.memory_is.path;
      format = λ in_use. ends.options ∙ same_format ∙ sym ends.format_is;
      named = λ in_use. ends.store_is ∙ name_is
          ∙ ap (λ (f : Format). made (Some f.order_name)) (sym ends.format_is);
      last = λ in_use. ends.last;
      shows = ends.views;
      snapshots = snapshots_then;
      tables = λ in_use. ends.tables;
      writes = λ is. subst (λ (f : Format). IsWritten f.order meaning after.store
          (env.observed to).disk.files) (sym ends.format_is) (ends.writes is);
    }

    stands : IsState new → StandsFor store meaning (env.observed to).disk new
    stands is = record {
      is_state = is;
      holds = subst (λ (s : Store). Holds store (Reads store meaning) (λ now. now ≡ s)
          (env.observed to).disk.files new.history new.last new.durable new.pending)
          (sym ends.store_is)
          (machine_holds after.store ends.path (env.observed to).disk.files new.history new.last
          new.durable new.pending ends.last ends.holds);
      bytes = ends.bytes;
      locked = ends.locked;
      agrees = λ in_use. subst (λ (f : Format). Agrees f meaning) (sym ends.format_is) agreeing;
    }

    pub goes : (request : Request) (answer : Answer) → env.failures from ≤ env.failures to
        → Step old.mode (setting_between meaning (env.failures from) (env.failures to)) old request
        answer new
        → Run (IsSpared store meaning old (risk_of request old new)) (env.observed from)
        (env.observed to)
        → Spares store (MayTouch store old.mode request) (env.observed from).disk
        (env.observed to).disk
        → (IsSyncing request → SameBytes (env.observed from).disk.files (env.observed to).disk.files)
        → TakesStep store meaning (Recalls keys env formats store meaning) (scene env (Some before) from)
        request answer (scene env (Some after) to) old
    goes request answer later step moments spares bytes = record {
      new = new;
      represents = record {
        disk_is = stands (step_fits (setting_between meaning (env.failures from) (env.failures to))
            old new request answer was.disk_is.is_state step);
        memory_is = recalled;
      };
      later = later;
      step = step;
      moments = moments;
      spares = spares;
      bytes = bytes;
    }
