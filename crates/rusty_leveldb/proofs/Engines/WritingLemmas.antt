-- The step of the machine in which a batch is written: first room is made in the memtable, then the
-- batch is appended to the log.
use Rattle.std.specs.Prelude.{Result}
use Rattle.std.proofs.Common.{◌≡◌, ◌≤◌, ◌<◌, ◌+◌, ◌-◌, ◌^◌, ◌⊎◌, ◌∙◌, ⊎_elim, inl, inr, ℕ, zero, suc, Bool, List, [], ◌∷◌, ◌++◌, length, max, refl, sym, ap, subst, arith, Option, Some, None, Ok, Err, IsTrue}
use Rattle.std.specs.declared.cmp.Ordering.{Ordering}
use Rattle.leveldb_base.specs.Error.{IsOutOfMemory}
use Rattle.leveldb_base.specs.History.{Entry, History, Item, count_of, entries_of, greatest, placed, with_batch}
use Rattle.leveldb_base.specs.KeyTypes.{greatest_sequence}
use Rattle.leveldb_base.specs.declared.error.Status.{Status}
use Rattle.leveldb_base.specs.declared.types.FileType.TheVariants.{Log}
use Rattle.leveldb_env.specs.Env.{Files, Run}
use Rattle.leveldb_env.specs.Options.{Boxed, OptionsOf}
use Rattle.leveldb_env.specs.declared.env.Env.{Ghosts}
use Rattle.leveldb_env.specs.declared.filter.FilterPolicy.{Ghosts as FilterGhosts}
use Rattle.leveldb_env.proofs.EnvLemmas.{Run-trans, bytes_eq-apart}
use Rattle.leveldb_mem.specs.WriteBatch.{batch_bytes, max_length}
use Rattle.leveldb_files.proofs.Histories.NumbersLemmas.{entries_more, greatest_append}
use Rattle.leveldb_files.specs.Stores.Paths.{IsFilePath, lock_path}
use Rattle.leveldb_files.specs.Steps.StoreSteps.{AppendedAreBytes}
use Rattle.leveldb_store.specs.Tables.BuildTable.{TableChoices}
use Rattle.leveldb_files.specs.Stores.Format.{Format, Meaning}
use Rattle.leveldb_version.specs.Tables.TableCache.{TableOptions, table_options}
use Rattle.leveldb_store.proofs.Keeping.OpenTablesLemmas.{open_after_batch}
use Rattle.leveldb_store.specs.Keeping.OpenStore.{IsUnbroken, OpenStoreValue}
use Rattle.leveldb_store.specs.Keeping.OpenTables.{AreOpenTablesOf}
use Rattle.leveldb_store.specs.Writing.Room.{HasFailed, ChangesLoggerOnly}
use Rattle.leveldb_store.specs.Keeping.SoundCall.{IsSoundCall, any_meaning}
use Rattle.leveldb_store.specs.Writing.Write.{open_log_path}
use Rattle.leveldb_store.specs.Writing.WriteBatch.{AddsBatch, FailsToWriteBatch, HoldsBatches, IsOf, LeavesHistory, WritesBatch, next_batch}
use Rattle.leveldb_store.specs.Reading.Read.{HasOpenTables}
use Rattle.leveldb_store.specs.Compactions.Compact.{FailsToCompactRange}
use Rattle.leveldb_store.specs.Keeping.Written.{IsDataPath, IsWritten, KeepsShown}
use Rattle.leveldb_store.specs.Keeping.WrittenFrom.{KeepsStoreFrom, KeepsWrittenFrom}
use Rattle.rusty_leveldb.specs.Engines.Boxes.{EngineOf, InternalOrder}
use Rattle.rusty_leveldb.specs.Engines.Room.{EngineMakesRoom}
use Rattle.rusty_leveldb.specs.Engines.EngineValue.{FollowsStore}
use Rattle.rusty_leveldb.specs.Machines.Causes.{Cause, IsCausedBy, Fits, Setting, device_failed, out_of_memory, too_large, used_up}
use Rattle.rusty_leveldb.specs.Engines.Engine.{HasOwnTables, Recalls, ShowsViews, engine_options, scene, formats_of, tables_by}
use Rattle.rusty_leveldb.specs.Engines.Frame.{MayTouch, Spares}
use Rattle.rusty_leveldb.specs.Machines.Machine.{Breaks, Refuses, Risk, Step, Writes, added_batch, risk_between}
use Rattle.rusty_leveldb.specs.Engines.Serves.{TakesStep, IsSpared, Represents, refusal_of, setting_between}
use Rattle.rusty_leveldb.specs.Machines.State as machine
use Rattle.rusty_leveldb.specs.Machines.State.{State, done, open_mode, refused, write}
use Rattle.rusty_leveldb.proofs.Engines.EngineLemmas.{SameSnapshots, Stays, follows_open, goes, is_of, machine_spares, none, not_closed, same_format, state_open, views_still, views_then}
use Rattle.rusty_leveldb.proofs.Engines.HeldViewsLemmas.{MakesTables, agrees_by, by_device, by_memory, has_open, tables_cause, views_held, written_by}
use Rattle.rusty_leveldb.proofs.Engines.KeptLemmas.{kept_holds, kept_last, kept_path, kept_run, kept_spares, spared_first, store_tells, tables_by_stay}
use Rattle.rusty_leveldb.proofs.Engines.Moments.{grows_by, spared_more}
use Rattle.rusty_leveldb.proofs.Engines.ReadsLemmas.{may_stay}
use Rattle.rusty_leveldb.proofs.Engines.SyncLemmas.{log_is_own, log_is_there, risk_now, spares_data}

-- a number up to another is that one, or below it
same_or_below : (n m : ℕ) → n ≤ m → (n ≡ m) ⊎ (n < m)
same_or_below zero zero le = inl refl
same_or_below zero (suc m) le = inr (omega arith)
same_or_below (suc n) zero le = absurd (omega (arith, le))
same_or_below (suc n) (suc m) le = ⊎_elim
    (λ (same : n ≡ m). inl (ap suc same))
    (λ (less : n < m). inr (omega (arith, less)))
    (same_or_below n m (omega (arith, le)))

-- a failure that was counted after others
pub failed_later : (from mid to : ℕ) → from ≤ mid → mid ≤ to → HasFailed mid to → HasFailed from to
failed_later from mid to first second (inl more) = inl (omega (arith, first, more))
failed_later from mid to first second (inr full) = ⊎_elim
    (λ (same : from ≡ mid). inr (same ∙ full))
    (λ (less : from < mid). inl (omega (arith, less, second)))
    (same_or_below from mid first)

-- what making room leaves of the options
pub room_tells : {E C FP F P : Type 0} {B : Boxed} {keys : InternalOrder C}
    {key_filters : FilterGhosts P} (env : Ghosts E F)
    (choices : OptionsOf C FP B → TableChoices keys key_filters) (before : EngineOf E C FP F B)
    (from : E) (result : Result (Unit {0}) Status) (after : EngineOf E C FP F B) (to : E)
    → EngineMakesRoom env choices before from result after to
    → ChangesLoggerOnly (engine_options before) (engine_options after)
room_tells env choices before from result after to made =
    store_tells (record before { looked_at = after.looked_at }) after made.rest
    made.makes.keeps.rest.cmp made.sink

-- what tables are opened with stays
pub room_by : {E C FP F P : Type 0} {B : Boxed} {keys : InternalOrder C}
    {key_filters : FilterGhosts P} (env : Ghosts E F)
    (choices : OptionsOf C FP B → TableChoices keys key_filters) (before : EngineOf E C FP F B)
    (from : E) (result : Result (Unit {0}) Status) (after : EngineOf E C FP F B) (to : E)
    → ((a b : OptionsOf C FP B) → ChangesLoggerOnly a b → formats_of choices b ≡ formats_of choices a)
    → EngineMakesRoom env choices before from result after to
    → tables_by (formats_of choices) after ≡ tables_by (formats_of choices) before
room_by env choices before from result after to ignores made =
    tables_by_stay (formats_of choices) ignores before after
    (room_tells env choices before from result after to made)

-- and so the open tables are those of the store
pub room_tables : {E C FP F P : Type 0} {B : Boxed} {keys : InternalOrder C}
    {key_filters : FilterGhosts P} (env : Ghosts E F)
    (choices : OptionsOf C FP B → TableChoices keys key_filters) (before : EngineOf E C FP F B)
    (from : E) (result : Result (Unit {0}) Status) (after : EngineOf E C FP F B) (to : E)
    → ((a b : OptionsOf C FP B) → ChangesLoggerOnly a b → formats_of choices b ≡ formats_of choices a)
    → EngineMakesRoom env choices before from result after to
    → HasOpenTables keys env (tables_by (formats_of choices) before) before.store from before.tables
    → HasOwnTables keys env (formats_of choices) after (env.observed to).disk.files
room_tables {E} {C} {FP} {F} {B = B} {keys = keys} env choices before from result after to ignores made
    has = subst (λ (by : TableOptions C FP). AreOpenTablesOf keys env by after.store.set
    (env.observed to).disk.files after.tables)
    (sym (room_by env choices before from result after to ignores made))
    (made.makes.keeps.still_open has)

-- and the batch that is written then
pub batch_tells : {E C FP F P : Type 0} {B : Boxed} {keys : InternalOrder C}
    {key_filters : FilterGhosts P} (env : Ghosts E F)
    (choices : OptionsOf C FP B → TableChoices keys key_filters) (before : EngineOf E C FP F B)
    (from : E) (roomy : EngineOf E C FP F B)
    (mid : E) → EngineMakesRoom env choices before from (Ok tt) roomy mid
    → (value : OpenStoreValue C) → value.cmp ≡ roomy.store.cmp
    → ChangesLoggerOnly (engine_options before) (engine_options {E = E} {C = C} {FP = FP} {F = F} {B = B}
    (record roomy { store = value }))
batch_tells {C = C} env choices before from roomy mid made value same =
    let tells = room_tells env choices before from (Ok tt) roomy mid made in
    record {
      rest = ap (λ (c : C). record roomy.options { cmp = c }) same ∙ tells.rest;
      sink = tells.sink;
    }

module _ {E C FP F P : Type 0} {B : Boxed} {keys : InternalOrder C} {key_filters : FilterGhosts P}
    (env : Ghosts E F) (choices : OptionsOf C FP B → TableChoices keys key_filters)
    (store : List ℕ) (meaning : Meaning) (before : EngineOf E C FP F B) (from : E)
    (old : State)
    (was : Represents store meaning (Recalls keys env (formats_of choices) store meaning) (Some before)
    (env.observed from).disk old) (opened : before.mode ≡ machine.open_mode)
    (modelled : IsTrue env.models_disk) where
  abbrev formats : OptionsOf C FP B → Format
  formats = formats_of choices

  abbrev order : List ℕ → List ℕ → Ordering
  order = old.format.order

  abbrev files : Files
  files = (env.observed from).disk.files

  held : IsOf order meaning (Stays old) before.store files old.history old.durable
  held = is_of env formats store meaning before from old was opened

  tables_open : HasOpenTables keys env (tables_by formats before) before.store from before.tables
  tables_open = has_open env choices store meaning before from old was opened modelled

  last_is : before.store.set.last_sequence ≡ old.last
  last_is = was.memory_is.last (not_closed env formats store meaning before from old was opened)

  mode : old.mode ≡ open_mode
  mode = state_open env formats store meaning before from old was opened

  -- a crash now leaves what is at risk, and so it does where one more batch is
  spared_longer : (batch : List Entry) (bound : ℕ) → old.last + 0 ≤ bound
      → IsSpared store meaning old
      (record { history = old.history ++ batch ∷ []; bound = bound; opening = None }) files
  spared_longer batch bound most =
      let risk = risk_now env formats store meaning before from old was opened in
      spared_more store meaning old old risk
      (record { history = old.history ++ batch ∷ []; bound = bound; opening = None }) (omega arith)
      (λ there is. is) (grows_by risk batch bound most) files
      (spared_first env formats store meaning before from old was opened)

  -- what is at risk where this is pending
  abbrev risk_with : Option (List Entry) → Risk
  risk_with pending = record {
    history = with_batch old.history pending;
    bound = old.last + count_of pending;
    opening = None;
  }

  -- ---- why nothing is written

  -- broken, with this pending
  abbrev pub broke : Option (List Entry) → State
  broke pending = record old { pending = pending; mode = machine.broken }

  -- The store wasn't broken by a call that failed; or it was, and then the cause is one that may.
  module _ (items : List Item) (sync : Bool) (status : Status) (to : E) where
    abbrev setting : Setting
    setting = setting_between meaning (env.failures from) (env.failures to)

    abbrev HasCause : Type 0
    HasCause = (cause : Cause) × IsCausedBy setting old (write items sync) (refusal_of status) cause

    makes_tables : MakesTables old (write items sync)
    makes_tables = record { memory = tt; device = tt; writes = tt; reads = tt; format = refl }

    without_memory : IsOutOfMemory status
        → IsCausedBy setting old (write items sync) (refusal_of status) out_of_memory
    without_memory = by_memory env choices store meaning before from old was opened modelled
        (write items sync) makes_tables to status

    as_device_failed : HasFailed (env.failures from) (env.failures to)
        → IsCausedBy setting old (write items sync) (refusal_of status) device_failed
    as_device_failed = by_device env choices store meaning before from old was opened modelled
        (write items sync) makes_tables to status

    -- why no room is made
    room_cause : (left : OpenStoreValue C)
        → FailsToCompactRange keys env (tables_by formats before) before.store from before.tables
        (choices (engine_options before)) left status ⊎ HasFailed (env.failures from) (env.failures to)
        → HasCause
    room_cause = tables_cause env choices store meaning before from old was opened modelled
        (write items sync) makes_tables to status

    -- refused, with nothing changed
    refuses_still : HasCause → Refuses setting old (write items sync) (refusal_of status) old
    refuses_still why = record {
      cause = why.0;
      comes = why.1;
      leaves = inl (record { state = refl; durable = inl refl });
    }

    breaks : (pending : Option (List Entry))
        → ((pending ≡ None) ⊎ (pending ≡ Some (added_batch old items)))
        → Breaks old None (broke pending) ⊎ Breaks old (Some (added_batch old items)) (broke pending)
    breaks pending (inl is) = inl (record {
      state = ap (λ p. broke p) is;
      durable = inl refl;
    })
    breaks pending (inr is) = inr (record {
      state = ap (λ p. broke p) is;
      durable = inl refl;
    })

    -- refused, and the store is broken
    refuses_broken : (pending : Option (List Entry))
        → ((pending ≡ None) ⊎ (pending ≡ Some (added_batch old items)))
        → IsOutOfMemory status ⊎ HasFailed (env.failures from) (env.failures to)
        → Refuses setting old (write items sync) (refusal_of status) (broke pending)
    refuses_broken pending which (inl memory) = record {
      cause = out_of_memory;
      comes = without_memory memory;
      leaves = inr (tt, breaks pending which);
    }
    refuses_broken pending which (inr failed) = record {
      cause = device_failed;
      comes = as_device_failed failed;
      leaves = inr (tt, breaks pending which);
    }

  -- ---- room in the memtable

  module _ (ignores : (a b : OptionsOf C FP B) → ChangesLoggerOnly a b → formats b ≡ formats a)
      (roomy : EngineOf E C FP F B) (mid : E) (result : Result (Unit {0}) Status)
      (made : EngineMakesRoom env choices before from result roomy mid) where
    room_keeps : KeepsStoreFrom order meaning made.smallest (Stays old) before.store
        (env.observed from) roomy.store (env.observed mid)
    room_keeps = (subst (λ (g : Format). KeepsWrittenFrom g.order meaning made.smallest before.store
        (env.observed from) roomy.store (env.observed mid))
        (same_format env formats store meaning before from old was opened)
        (made.makes.keeps.keeps tables_open meaning
        (agrees_by env choices store meaning before from old was opened modelled)))
        (may_stay None old.store) held.written

    room_options : formats (engine_options roomy) ≡ formats (engine_options before)
    room_options = ignores (engine_options before) (engine_options roomy)
        (room_tells env choices before from result roomy mid made)

    room_bytes : AppendedAreBytes (env.observed mid).disk.files
    room_bytes = made.makes.keeps.sound.bytes modelled was.disk_is.bytes

    room_locked : (env.observed mid).disk.locked (lock_path store) ≡ old.locked
    room_locked = ap (λ (l : List ℕ → Bool). l (lock_path store))
        (made.makes.keeps.rest.locks modelled) ∙ was.disk_is.locked

    room_views : ShowsViews meaning roomy.store (env.observed mid).disk.files old
    room_views = views_held env choices store meaning before from old was opened modelled
        made.smallest made.is_smallest roomy.store (env.observed mid).disk.files room_keeps.shows

    room_snapshots : roomy.snapshots ≡ before.snapshots
    room_snapshots = ap (λ (e : EngineOf E C FP F B). e.snapshots) made.rest

  -- no room was made
  module _ (ignores : (a b : OptionsOf C FP B) → ChangesLoggerOnly a b → formats b ≡ formats a)
      (after : EngineOf E C FP F B) (to : E) (items : List Item) (sync : Bool)
      (status : Status)
      (made : EngineMakesRoom env choices before from (Err status) after to) where
    keeps : KeepsStoreFrom order meaning made.smallest (Stays old) before.store (env.observed from)
        after.store (env.observed to)
    keeps = room_keeps ignores after to (Err status) made

    breaks_by : IsUnbroken after.store ⊎ IsOutOfMemory status
        ⊎ HasFailed (env.failures from) (env.failures to)
    breaks_by = made.makes.keeps.sound.breaks modelled meaning (
      tables_open,
      agrees_by env choices store meaning before from old was opened modelled,
    ) (written_by env choices store meaning before from old was opened modelled)

    went : (new : State) → SameSnapshots env formats store meaning before from old was opened new
        → after.mode ≡ new.mode → new.store ≡ old.store
        → new.format ≡ old.format → new.history ≡ old.history → new.last ≡ old.last
        → new.durable ≡ old.durable → new.pending ≡ None → new.locked ≡ old.locked
        → (new.mode ≡ open_mode → IsUnbroken after.store)
        → Refuses (setting items sync status to) old (write items sync) (refusal_of status) new
        → TakesStep store meaning (Recalls keys env formats store meaning) (scene env (Some before) from)
        (write items sync) (refused (refusal_of status)) (scene env (Some after) to) old
    went new snapshots mode_is store_is format_is history_is last_is durable_is pending_is locked_is
        unbroken refuses =
        goes env formats store meaning before from old was opened after to new (record {
          lock = ap (λ (e : EngineOf E C FP F B). e.lock) made.rest;
          options = room_options ignores after to (Err status) made;
          path = made.makes.keeps.rest.store;
          store_is = store_is;
          format_is = format_is;
          mode = mode_is;
          last = kept_last env formats store meaning before from old was opened after.store to
              keeps.moments made.makes.keeps.rest ∙ sym last_is;
          views = views_still env formats store meaning before from old was opened after.store
              (env.observed to).disk.files (room_views ignores after to (Err status) made) new
              snapshots format_is history_is;
          snapshots = room_snapshots ignores after to (Err status) made;
          same_snapshots = snapshots;
          tables = room_tables env choices before from (Err status) after to ignores made tables_open;
          writes = λ is. keeps.written (unbroken is);
          holds = subst (λ h. HoldsBatches order meaning (Stays old) after.store
              (env.observed to).disk.files h new.durable new.pending) (sym history_is)
              (subst (λ d. HoldsBatches order meaning (Stays old) after.store
              (env.observed to).disk.files old.history d new.pending) (sym durable_is)
              (subst (λ p. HoldsBatches order meaning (Stays old) after.store
              (env.observed to).disk.files old.history old.durable p) (sym pending_is)
              (kept_holds env formats store meaning before from old was opened after.store to
              keeps.moments made.makes.keeps.rest)));
          bytes = room_bytes ignores after to (Err status) made;
          locked = room_locked ignores after to (Err status) made ∙ sym locked_is;
        }) (write items sync) (refused (refusal_of status)) made.makes.keeps.cause.later
        (subst (λ m. Step m (setting items sync status to) old (write items sync)
        (refused (refusal_of status)) new) (sym mode) refuses)
        (subst (λ (r : Risk). Run (IsSpared store meaning old r) (env.observed from) (env.observed to))
        same_risk (kept_run env formats store meaning before from old was opened after.store to
        keeps.moments made.makes.keeps.rest
        (risk_now env formats store meaning before from old was opened) refl (omega arith)
        (spared_first env formats store meaning before from old was opened)))
        (kept_spares env formats store meaning before from old was opened after.store to
        keeps.moments made.makes.keeps.rest modelled (write items sync) (λ kind is. is) (λ kind is. is))
        (λ never. absurd never)
      where
        same_risk : risk_now env formats store meaning before from old was opened
            ≡ risk_between new
        same_risk = sym (λ i. record {
          history = with_batch (history_is i) (pending_is i);
          bound = last_is i + count_of (pending_is i);
          opening = None;
        })

    pub room_fails : TakesStep store meaning (Recalls keys env formats store meaning)
        (scene env (Some before) from)
        (write items sync) (refused (refusal_of status)) (scene env (Some after) to) old
    room_fails = ⊎_elim
        (λ (sound : (after.mode ≡ machine.open_mode) × IsUnbroken after.store).
        went old (λ in_use. (refl, refl)) (sound.0 ∙ sym mode) refl refl refl refl refl
        (none env formats store meaning before from old was opened) refl (λ is. sound.1)
        (refuses_still items sync status to
        (room_cause items sync status to after.store made.makes.keeps.cause.cause)))
        (λ (is : (after.mode ≡ machine.broken) × (IsUnbroken after.store → ⊥)).
        went (broke None) (λ in_use. (refl, refl)) is.0 refl refl refl refl refl refl refl
        (λ opens. absurd (let never : machine.broken ≡ open_mode = opens in cc))
        (refuses_broken items sync status to None (inl refl) (⊎_elim
        (λ (sound : IsUnbroken after.store). absurd (is.1 sound)) (λ why. why) breaks_by)))
        made.mode

  -- ---- the batch, where there is room

  module _ (ignores : (a b : OptionsOf C FP B) → ChangesLoggerOnly a b → formats b ≡ formats a)
      (roomy : EngineOf E C FP F B) (mid : E)
      (made : EngineMakesRoom env choices before from (Ok tt) roomy mid)
      (items : List Item) (sync : Bool) (value : OpenStoreValue C) (end_mode : machine.Mode)
      (follows : FollowsStore end_mode value) (to : E) where
    -- the files as room was made
    abbrev here : Files
    here = (env.observed mid).disk.files

    -- the engine in the end
    abbrev after : EngineOf E C FP F B
    after = record roomy { store = value; mode = end_mode }

    -- the batch as the store has it
    abbrev its_batch : List Entry
    its_batch = next_batch roomy.store items

    room_unbroken : IsUnbroken roomy.store
    room_unbroken = made.makes.keeps.usable

    room_written : IsWritten order meaning roomy.store here
    room_written = (room_keeps ignores roomy mid (Ok tt) made).written room_unbroken

    room_held : IsOf order meaning (Stays old) roomy.store here old.history old.durable
    room_held = record {
      written = room_written;
      holds = kept_holds env formats store meaning before from old was opened roomy.store mid
          (room_keeps ignores roomy mid (Ok tt) made).moments made.makes.keeps.rest;
    }

    room_last : roomy.store.set.last_sequence ≡ old.last
    room_last = kept_last env formats store meaning before from old was opened roomy.store mid
        (room_keeps ignores roomy mid (Ok tt) made).moments made.makes.keeps.rest

    same_batch : its_batch ≡ added_batch old items
    same_batch = ap (λ n. placed (n + 1) items) room_last

    in_order : (result : Result (Unit {0}) Status)
        → WritesBatch env (formats (engine_options before)).order roomy.store mid items sync result value to
        → WritesBatch env order roomy.store mid items sync result value to
    in_order result writes = subst (λ (f : Format).
        WritesBatch env f.order roomy.store mid items sync result value to)
        (same_format env formats store meaning before from old was opened) writes

    module _ (result : Result (Unit {0}) Status)
        (writes : WritesBatch env (formats (engine_options before)).order roomy.store mid items sync result
        value to)
        (sound : IsSoundCall {T = Unit {0}} env (formats (engine_options before)).order any_meaning
        roomy.store mid result value to) where
      end_path : value.set.store ≡ before.store.set.store
      end_path = ap (λ (v : OpenStoreValue C). v.set.store) writes.rest ∙ made.makes.keeps.rest.store

      end_options : formats (engine_options after) ≡ formats (engine_options before)
      end_options = ignores (engine_options before) (engine_options after)
          (batch_tells env choices before from roomy mid made value
          (ap (λ (v : OpenStoreValue C). v.cmp) writes.rest))

      end_tables : HasOwnTables keys env formats after (env.observed to).disk.files
      end_tables =
          let by : C → TableOptions C FP = λ c.
          let options = record roomy.options { cmp = c } in table_options (formats options) options
          in
          subst (λ (c : C). AreOpenTablesOf keys env (by c) value.set (env.observed to).disk.files
          roomy.tables) (sym (ap (λ (v : OpenStoreValue C). v.cmp) writes.rest))
          (open_after_batch env (by roomy.store.cmp) (formats (engine_options before)).order roomy.store
          value mid to items sync result writes modelled roomy.tables
          (room_tables env choices before from (Ok tt) roomy mid ignores made tables_open))

      end_bytes : AppendedAreBytes (env.observed to).disk.files
      end_bytes = sound.bytes modelled (room_bytes ignores roomy mid (Ok tt) made)

      end_locked : (env.observed to).disk.locked (lock_path store) ≡ old.locked
      end_locked = ap (λ (l : List ℕ → Bool). l (lock_path store)) (writes.locks modelled)
          ∙ room_locked ignores roomy mid (Ok tt) made

      end_later : env.failures from ≤ env.failures to
      end_later = omega (arith, made.makes.keeps.cause.later, writes.cause.later)

      log_data : IsDataPath store (open_log_path roomy.store)
      log_data = (
        Log,
        tt,
        subst (λ p. IsFilePath Log p (open_log_path roomy.store))
            (kept_path env formats store meaning before from old was opened roomy.store mid
            (room_keeps ignores roomy mid (Ok tt) made).moments made.makes.keeps.rest)
            (log_is_own order meaning roomy.store here room_written),
      )

      end_spares : Spares store (MayTouch store old.mode (write items sync))
          (env.observed from).disk (env.observed to).disk
      end_spares = spares_data env formats store meaning before from old was opened to
          (write items sync) (λ kind is. is)
          (λ path foreign.
          writes.others modelled path (bytes_eq-apart (open_log_path roomy.store) path
          (λ e. foreign (subst (IsDataPath store) e log_data)))
          ∙ made.makes.keeps.rest.files modelled path (λ own. foreign
          (subst (λ p. IsDataPath p path) was.memory_is.path own)))
          (λ path differs. ap (λ (l : List ℕ → Bool). l path)
          (writes.locks modelled ∙ made.makes.keeps.rest.locks modelled))

      -- the moments of both
      both_run : (risk : Risk) → risk.opening ≡ None → old.last ≤ risk.bound
          → IsSpared store meaning old risk files
          → Run (IsSpared store meaning old risk) (env.observed mid) (env.observed to)
          → Run (IsSpared store meaning old risk) (env.observed from) (env.observed to)
      both_run risk no_opening most spared run = Run-trans
          (kept_run env formats store meaning before from old was opened roomy.store mid
          (room_keeps ignores roomy mid (Ok tt) made).moments made.makes.keeps.rest risk
          no_opening most spared) (λ now is. is) run

    -- ---- it is written

    module _ (short : length (batch_bytes 0 items) ≤ max_length)
        (writes : WritesBatch env (formats (engine_options before)).order roomy.store mid items sync (Ok tt)
        value to)
        (sound : IsSoundCall {T = Unit {0}} env (formats (engine_options before)).order any_meaning
        roomy.store mid (Ok tt) value to) where
      adds : AddsBatch order meaning (Stays old) roomy.store (env.observed mid) old.history old.durable
          its_batch sync value (env.observed to)
      adds = (in_order (Ok tt) writes).adds modelled meaning (may_stay None old.store) old.history
          old.durable room_held

      longer : old.history ++ its_batch ∷ [] ≡ old.history ++ added_batch old items ∷ []
      longer = ap (λ b. old.history ++ b ∷ []) same_batch

      abbrev new : State
      new = record old {
        history = old.history ++ added_batch old items ∷ [];
        last = old.last + length items;
        durable = adds.durable_now;
      }

      end_last : value.set.last_sequence ≡ old.last + length items
      end_last = writes.numbers.1 ∙ ap (λ n. n + length items) room_last

      fits : Fits old (write items sync)
      fits = record {
        operands = λ (long : max_length < length (batch_bytes 0 items)). omega (arith, long, short);
        numbers = λ (used : greatest_sequence < old.last + max 1 (length items)).
            no_numbers (length items) used
            (subst (λ n. n + 1 ≤ greatest_sequence) room_last writes.numbers.0.0)
            (subst (λ n. n + length items ≤ greatest_sequence) room_last writes.numbers.0.1);
      }
        where
          no_numbers : (count : ℕ) → greatest_sequence < old.last + max 1 count
              → old.last + 1 ≤ greatest_sequence → old.last + count ≤ greatest_sequence → ⊥
          no_numbers zero used one all = omega (arith, used, one)
          no_numbers (suc count) used one all = omega (arith, used, all)

      wrote : Writes old items sync new
      wrote = record {
        state = refl;
        durable = ⊎_elim (λ (same : adds.durable_now ≡ old.durable). inl (inl same))
            (λ (all : adds.durable_now ≡ length (old.history ++ its_batch ∷ [])).
            inr (all ∙ ap length longer)) adds.grows;
        synced = λ is. adds.synced is ∙ ap length longer;
      }

      end_run : Run (IsSpared store meaning old (record {
        history = old.history ++ added_batch old items ∷ [];
        bound = old.last + length items + 0;
        opening = None;
      })) (env.observed mid) (env.observed to)
      end_run = subst (λ h. Run (IsSpared store meaning old (record {
        history = h;
        bound = old.last + length items + 0;
        opening = None;
      })) (env.observed mid) (env.observed to)) longer
          (machine_spares env formats store meaning before from old was opened value
          (end_path (Ok tt) writes sound) (old.history ++ its_batch ∷ []) (old.last + length items) None
          (env.observed mid) (env.observed to) end_last adds.moments)

      pub write_done : TakesStep store meaning (Recalls keys env formats store meaning)
          (scene env (Some before) from) (write items sync) done (scene env (Some after) to) old
      write_done =
          let nothing = none env formats store meaning before from old was opened in
          goes env formats store meaning before from old was opened after to new (record {
            lock = ap (λ (e : EngineOf E C FP F B). e.lock) made.rest;
            options = end_options (Ok tt) writes sound;
            path = end_path (Ok tt) writes sound;
            store_is = refl;
            format_is = refl;
            mode = follows_open end_mode value follows writes.usable ∙ sym mode;
            last = end_last;
            views = views_then env formats store meaning before from old was opened roomy.store here
                (room_views ignores roomy mid (Ok tt) made) value (env.observed to).disk.files new
                (λ in_use. (refl, refl)) refl
                (let more = ap greatest (entries_more old.history (added_batch old items))
                ∙ greatest_append (entries_of old.history) (added_batch old items) in
                omega (arith, more))
                (subst (KeepsShown order meaning roomy.store here old.history value
                (env.observed to).disk.files) longer adds.shows);
            snapshots = room_snapshots ignores roomy mid (Ok tt) made;
            same_snapshots = λ in_use. (refl, refl);
            tables = end_tables (Ok tt) writes sound;
            writes = λ is. adds.is_of.written;
            holds = subst (λ h. HoldsBatches order meaning (Stays old) value
                (env.observed to).disk.files h adds.durable_now old.pending) longer
                (subst (λ p. HoldsBatches order meaning (Stays old) value
                (env.observed to).disk.files (old.history ++ its_batch ∷ []) adds.durable_now p)
                (sym nothing) adds.is_of.holds);
            bytes = end_bytes (Ok tt) writes sound;
            locked = end_locked (Ok tt) writes sound;
          }) (write items sync) done (end_later (Ok tt) writes sound)
          (subst (λ m. Step m (setting_between meaning (env.failures from) (env.failures to)) old
          (write items sync) done new) (sym mode) (fits, wrote))
          (subst (λ p. Run (IsSpared store meaning old (record {
            history = with_batch (old.history ++ added_batch old items ∷ []) p;
            bound = old.last + length items + count_of p;
            opening = None;
          })) (env.observed from) (env.observed to)) (sym nothing)
          (both_run (Ok tt) writes sound (record {
            history = old.history ++ added_batch old items ∷ [];
            bound = old.last + length items + 0;
            opening = None;
          }) refl (omega arith)
          (spared_longer (added_batch old items) (old.last + length items + 0) (omega arith)) end_run))
          (end_spares (Ok tt) writes sound) (λ never. absurd never)

    -- ---- it isn't written

    module _ (status : Status)
        (writes : WritesBatch env (formats (engine_options before)).order roomy.store mid items sync
        (Err status) value to)
        (sound : IsSoundCall {T = Unit {0}} env (formats (engine_options before)).order any_meaning
        roomy.store mid (Err status) value to) where
      leaves : (pending : Option (List Entry))
          × ((pending ≡ None) ⊎ (pending ≡ Some its_batch))
          × LeavesHistory order meaning (Stays old) roomy.store (env.observed mid) old.history
          old.durable pending value (env.observed to)
      leaves = (in_order (Err status) writes).leaves modelled meaning (may_stay None old.store)
          old.history old.durable room_held

      -- what is pending, as the machine's batch
      which : (leaves.0 ≡ None) ⊎ (leaves.0 ≡ Some (added_batch old items))
      which = ⊎_elim (λ (no : leaves.0 ≡ None). inl no)
          (λ (it : leaves.0 ≡ Some its_batch). inr (it ∙ ap (λ b. Some b) same_batch)) leaves.1

      -- a failure of this call is one of the whole
      failed : HasFailed (env.failures mid) (env.failures to)
          → HasFailed (env.failures from) (env.failures to)
      failed one = failed_later (env.failures from) (env.failures mid) (env.failures to)
          made.makes.keeps.cause.later writes.cause.later one

      breaks_by_batch : IsUnbroken value ⊎ IsOutOfMemory status
          ⊎ HasFailed (env.failures from) (env.failures to)
      breaks_by_batch = ⊎_elim (λ (whole : IsUnbroken value). inl whole)
          (λ why. inr (⊎_elim (λ (memory : IsOutOfMemory status). inl memory)
          (λ (one : HasFailed (env.failures mid) (env.failures to)). inr (failed one)) why))
          (sound.breaks modelled meaning tt
          (subst (λ (g : Format). IsWritten g.order meaning roomy.store here)
          (sym (same_format env formats store meaning before from old was opened)) room_written))

      batch_cause : FailsToWriteBatch env (formats (engine_options before)).order roomy.store mid items to status
          ⊎ ((env.failures to ≡ env.failures mid + 1)
          ⊎ ((env.failures mid ≡ 2 ^ 64 - 1) × (env.failures to ≡ env.failures mid)))
          → HasCause items sync status to
      batch_cause (inl (inl (inl used, same))) = (
        used_up,
        (used.code, subst (λ n. greatest_sequence < n + max 1 (length items)) room_last used.past),
      )
      batch_cause (inl (inl (inr (inl large), same))) = (too_large, (tt, large.0))
      batch_cause (inl (inl (inr (inr memory), same))) =
          (out_of_memory, without_memory items sync status to memory)
      batch_cause (inl (inr (inl (inl memory)))) =
          (out_of_memory, without_memory items sync status to memory)
      batch_cause (inl (inr (inl (inr missing)))) =
          absurd (log_is_there order meaning roomy.store here room_written (missing.1 modelled))
      batch_cause (inl (inr (inr broke_before))) =
          absurd (let never : Bool.true ≡ Bool.false = sym broke_before.0 ∙ room_unbroken.log in cc)
      batch_cause (inr (inl more)) =
          (device_failed, as_device_failed items sync status to (failed (inl (omega arith))))
      batch_cause (inr (inr full)) =
          (device_failed, as_device_failed items sync status to (failed (inr full.0)))

      unwritten : (new : State)
          → SameSnapshots env formats store meaning before from old was opened new
          → end_mode ≡ new.mode → new.store ≡ old.store → new.format ≡ old.format
          → new.history ≡ old.history
          → new.last ≡ old.last → new.durable ≡ old.durable → new.pending ≡ leaves.0
          → new.locked ≡ old.locked
          → (new.mode ≡ open_mode → IsUnbroken value)
          → Refuses (setting items sync status to) old (write items sync) (refusal_of status) new
          → TakesStep store meaning (Recalls keys env formats store meaning) (scene env (Some before) from)
          (write items sync) (refused (refusal_of status)) (scene env (Some after) to) old
      unwritten new snapshots mode_is store_is format_is history_is last_is durable_is pending_is
          locked_is unbroken refuses =
          goes env formats store meaning before from old was opened after to new (record {
            lock = ap (λ (e : EngineOf E C FP F B). e.lock) made.rest;
            options = end_options (Err status) writes sound;
            path = end_path (Err status) writes sound;
            store_is = store_is;
            format_is = format_is;
            mode = mode_is;
            last = writes.err.1 ∙ room_last ∙ sym last_is;
            views = views_then env formats store meaning before from old was opened roomy.store here
                (room_views ignores roomy mid (Ok tt) made) value (env.observed to).disk.files new
                snapshots format_is
                (let same_end = ap (λ (h : History). greatest (entries_of h)) history_is in
                omega (arith, same_end))
                (subst (KeepsShown order meaning roomy.store here old.history value
                (env.observed to).disk.files) (sym history_is) leaves.2.shows);
            snapshots = room_snapshots ignores roomy mid (Ok tt) made;
            same_snapshots = snapshots;
            tables = end_tables (Err status) writes sound;
            writes = λ is. (leaves.2.written (unbroken is)).1;
            holds = subst (λ h. HoldsBatches order meaning (Stays old) value
                (env.observed to).disk.files h new.durable new.pending) (sym history_is)
                (subst (λ d. HoldsBatches order meaning (Stays old) value
                (env.observed to).disk.files old.history d new.pending) (sym durable_is)
                (subst (λ p. HoldsBatches order meaning (Stays old) value
                (env.observed to).disk.files old.history old.durable p) (sym pending_is)
                leaves.2.holds));
            bytes = end_bytes (Err status) writes sound;
            locked = end_locked (Err status) writes sound ∙ sym locked_is;
          }) (write items sync) (refused (refusal_of status)) (end_later (Err status) writes sound)
          (subst (λ m. Step m (setting items sync status to) old (write items sync)
          (refused (refusal_of status)) new) (sym mode) refuses)
          (subst (λ (r : Risk). Run (IsSpared store meaning old r) (env.observed from)
          (env.observed to)) same_risk
          (both_run (Err status) writes sound (risk_with leaves.0) refl (omega arith) (spared_left leaves.0 which)
          (machine_spares env formats store meaning before from old was opened roomy.store
          made.makes.keeps.rest.store old.history old.last leaves.0 (env.observed mid) (env.observed to)
          room_last leaves.2.moments)))
          (end_spares (Err status) writes sound) (λ never. absurd never)
        where
          same_risk : risk_with leaves.0 ≡ risk_between new
          same_risk = sym (λ i. record {
            history = with_batch (history_is i) (pending_is i);
            bound = last_is i + count_of (pending_is i);
            opening = None;
          })

          spared_left : (pending : Option (List Entry))
              → ((pending ≡ None) ⊎ (pending ≡ Some (added_batch old items)))
              → IsSpared store meaning old (record {
                history = with_batch old.history pending;
                bound = old.last + count_of pending;
                opening = None;
              }) files
          spared_left pending (inl is) = subst (λ p. IsSpared store meaning old (record {
            history = with_batch old.history p;
            bound = old.last + count_of p;
            opening = None;
          }) files) (sym is) (spared_first env formats store meaning before from old was opened)
          spared_left pending (inr is) = subst (λ p. IsSpared store meaning old (record {
            history = with_batch old.history p;
            bound = old.last + count_of p;
            opening = None;
          }) files) (sym is) (spared_longer (added_batch old items)
              (old.last + count_of (Some (added_batch old items))) (omega arith))

      pub write_fails : TakesStep store meaning (Recalls keys env formats store meaning)
          (scene env (Some before) from) (write items sync) (refused (refusal_of status))
          (scene env (Some after) to) old
      write_fails = ⊎_elim
          (λ (whole : (end_mode ≡ machine.open_mode) × IsUnbroken value).
          unwritten old (λ in_use. (refl, refl)) (whole.0 ∙ sym mode) refl refl refl refl refl
          (none env formats store meaning before from old was opened
          ∙ sym (leaves.2.written whole.1).0) refl (λ is. whole.1)
          (refuses_still items sync status to (batch_cause writes.cause.cause)))
          (λ (is : (end_mode ≡ machine.broken) × (IsUnbroken value → ⊥)).
          unwritten (broke leaves.0) (λ in_use. (refl, refl)) is.0 refl refl refl refl refl refl refl
          (λ opens. absurd (let never : machine.broken ≡ open_mode = opens in cc))
          (refuses_broken items sync status to leaves.0 which (⊎_elim
          (λ (whole : IsUnbroken value). absurd (is.1 whole)) (λ why. why) breaks_by_batch)))
          follows
