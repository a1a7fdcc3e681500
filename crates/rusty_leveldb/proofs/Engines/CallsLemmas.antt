-- What each call on an engine does, put together: its step, what becomes of the engine, and why it
-- fails.
use Rattle.std.specs.Prelude.{IfErr, OnOk, Result, codes, IfSome, string_bytes, String}
use Rattle.std.specs.declared.alloc.Global.{Global}
use Rattle.std.proofs.Common.{◌≡◌, ◌⊎◌, ◌∙◌, ⊎_elim, inl, inr, ℕ, Bool, false, List, [], refl, sym, ap, subst, arith, Option, Some, None, Ok, Err}
use Rattle.leveldb_base.specs.History.{Item}
use Rattle.leveldb_base.specs.Error.{IsOutOfMemory, text_of}
use Rattle.leveldb_base.specs.declared.error.Status.{Status}
use Rattle.leveldb_base.specs.declared.error.StatusCode.TheVariants.{InvalidArgument, NotSupported}
use Rattle.leveldb_env.specs.Env.{ChangesFiles, ChangesLocks, FilesUnchanged, HasCause, lock_set, same}
use Rattle.leveldb_env.specs.Options.{Boxed, OptionsOf}
use Rattle.leveldb_env.specs.declared.env.Env.{Ghosts}
use Rattle.leveldb_env.specs.declared.filter.FilterPolicy.{Ghosts as FilterGhosts}
use Rattle.leveldb_mem.specs.Log.Writer.{broken_writer}
use Rattle.leveldb_store.specs.Tables.BuildTable.{TableChoices}
use Rattle.leveldb_files.specs.Stores.Format.{Format, IsTableFault, LacksCompressor}
use Rattle.leveldb_version.specs.Tables.TableCache.{table_options}
use Rattle.leveldb_version.specs.declared.table_cache.TableCache.{TableCache}
use Rattle.leveldb_store.specs.Keeping.OpenStore.{IsUnbroken, OpenStoreValue}
use Rattle.leveldb_store.specs.Reading.Read.{LooksUpKey}
use Rattle.leveldb_store.specs.Writing.Room.{FailsFor, HasFailed, ChangesLoggerOnly}
use Rattle.leveldb_store.specs.Keeping.SoundCall.{IsSoundCall, any_meaning}
use Rattle.leveldb_store.specs.Writing.Write.{IsLogLost, SyncsLog, with_writer}
use Rattle.leveldb_store.specs.Writing.WriteBatch.{SyncsBatches}
use Rattle.rusty_leveldb.specs.Engines.Boxes.{EngineOf, InternalOrder}
use Rattle.rusty_leveldb.specs.Engines.EngineValue.{FollowsStore}
use Rattle.leveldb_base.specs.KeyTypes.{IsLongKey}
use Rattle.rusty_leveldb.specs.Engines.Calls.{EngineCloses, EngineFlushes, EngineGets, EngineWrites, IsRefusedByMode, KeepsModeOrBreaks}
use Rattle.rusty_leveldb.specs.Machines.Causes.{IsClosedRefusal, IsBrokenRefusal, IsNotHeld, Setting}
use Rattle.rusty_leveldb.specs.Engines.Engine.{AnswersStill, GetExcused, GetFails, IsClosedOrBroken, RefusedAsBroken, RefusedAsClosed, RefusedByMode, SyncExcused, held_in, engine_options, formats_of, tables_by, IsEngineSequence}
use Rattle.rusty_leveldb.specs.Engines.Frame.{MayTouch}
use Rattle.rusty_leveldb.specs.Machines.Machine.{Step}
use Rattle.rusty_leveldb.specs.Engines.Serves.{refusal_of, setting_between}
use Rattle.rusty_leveldb.specs.Machines.State as machine
use Rattle.rusty_leveldb.specs.Machines.State.{Refusal, Request, Snapshot, State, close, compact_range, flush, get, refused, write}
use Rattle.rusty_leveldb.proofs.Engines.ClosingLemmas.{close_locked, close_unsynced, closed_now, counted_error, flush_goes}
use Rattle.rusty_leveldb.proofs.Engines.EngineLemmas.{follows_broken, follows_open}
use Rattle.rusty_leveldb.proofs.Engines.KeepsOrCompactsLemmas.{kept_as_they_are}
use Rattle.rusty_leveldb.proofs.Engines.Moments.{moments_none}
use Rattle.rusty_leveldb.proofs.Engines.Others.{spares_still}
use Rattle.rusty_leveldb.proofs.Engines.ReadingLemmas.{get_cause, get_closed, get_goes, get_misfit, read_store}
use Rattle.rusty_leveldb.proofs.Engines.RestLemmas.{rest_given, rest_read, rest_still, rest_synced, sync_only}
use Rattle.rusty_leveldb.proofs.Engines.RowLemmas.{close_row, flush_row, get_row, write_row}
use Rattle.rusty_leveldb.proofs.Engines.SyncLemmas.{log_is_data}

-- ---- the mode

-- a text of a broken store
broken_text : (err : Option (String Global))
    → IfSome err (λ text. string_bytes text ≡ codes "IOError: reopen the store")
    → (text_of err ≡ []) ⊎ (text_of err ≡ codes "IOError: reopen the store")
broken_text None is = inl refl
broken_text (Some text) is = inr is

-- an engine that is open is neither closed nor broken
pub open_is_neither : (mode : machine.Mode) → mode ≡ machine.open_mode → IsClosedOrBroken mode → ⊥
open_is_neither mode is = ⊎_elim
    (λ (closed : mode ≡ machine.closed).
    let never : machine.open_mode ≡ machine.closed = sym is ∙ closed in cc)
    (λ (broke : mode ≡ machine.broken).
    let never : machine.open_mode ≡ machine.broken = sym is ∙ broke in cc)

-- nor does its mode refuse a request
pub not_refused : (mode : machine.Mode) (e : Status) → mode ≡ machine.open_mode
    → RefusedByMode mode e → ⊥
not_refused mode e is = ⊎_elim (λ (out : RefusedAsClosed mode e). open_is_neither mode is (inl out.0))
    (λ (down : RefusedAsBroken mode e). open_is_neither mode is (inr down.0))

-- a mode that refuses a request is closed or broken
pub closed_or_broken_by : (mode : machine.Mode) (e : Status) → RefusedByMode mode e → IsClosedOrBroken mode
closed_or_broken_by mode e = ⊎_elim (λ (out : RefusedAsClosed mode e). inl out.0)
    (λ (down : RefusedAsBroken mode e). inr down.0)

-- a request that writes
abbrev pub Writes : Request → Type 0
Writes (write items sync) = Unit {0}
Writes flush = Unit {0}
Writes (compact_range low high) = Unit {0}
Writes close = Unit {0}
Writes request = ⊥

module _ (setting : Setting) (old : State) where
  closed_step : (request : Request) → Writes request → (refusal : Refusal) → IsClosedRefusal refusal
      → Step machine.closed setting old request (refused refusal) old
  closed_step (write items sync) writes refusal says = (says, refl)
  closed_step flush writes refusal says = (says, refl)
  closed_step (compact_range low high) writes refusal says = (says, refl)
  closed_step close writes refusal says = (says, refl)
  closed_step request writes refusal says = absurd writes

  broken_step : (request : Request) → Writes request → (refusal : Refusal) → IsBrokenRefusal refusal
      → Step machine.broken setting old request (refused refusal) old
  broken_step (write items sync) writes refusal says = (says, refl)
  broken_step flush writes refusal says = (says, refl)
  broken_step (compact_range low high) writes refusal says = (says, refl)
  broken_step close writes refusal says = (says, refl)
  broken_step request writes refusal says = absurd writes

module _ {E C FP F P : Type 0} {B : Boxed} {keys : InternalOrder C} {key_filters : FilterGhosts P}
    (env : Ghosts E F) (choices : OptionsOf C FP B → TableChoices keys key_filters)
    (before : EngineOf E C FP F B) where
  abbrev formats : OptionsOf C FP B → Format
  formats = formats_of choices

  -- ---- a call that the mode refuses

  -- the machine refuses it so
  pub refused_stays : (request : Request) → Writes request → (status : Status)
      → RefusedByMode before.mode status
      → AnswersStill keys env formats before request (refused (refusal_of status))
  refused_stays request writes status why at store meaning modelled old was = record {
    new = old;
    represents = was;
    later = omega arith;
    step = ⊎_elim
        (λ (out : RefusedAsClosed before.mode status).
        subst (λ m. Step m setting old request (refused (refusal_of status)) old)
        (sym out.0 ∙ was.memory_is.mode)
        (closed_step setting old request writes (refusal_of status) out.1))
        (λ (down : RefusedAsBroken before.mode status).
        subst (λ m. Step m setting old request (refused (refusal_of status)) old)
        (sym down.0 ∙ was.memory_is.mode)
        (broken_step setting old request writes (refusal_of status)
        (down.1.code, broken_text status.err down.1.text)))
        why;
    moments = moments_none store meaning request old (env.observed at) was.disk_is;
    spares = spares_still store (MayTouch store old.mode request) (env.observed at).disk;
    bytes = λ syncing path. refl;
  }
    where
      setting : Setting
      setting = setting_between meaning (env.failures at) (env.failures at)

  module _ (status : Status) (at : E) (why : RefusedByMode before.mode status) where
    by_mode : IsRefusedByMode {T = Unit {0}} before at (Err status) before at
    by_mode = (refl, refl, why)

    pub refused_writes : (items : List Item) (sync : Bool)
        → EngineWrites env choices before at items sync (Err status) before at
    refused_writes items sync =
        let step = refused_stays (write items sync) tt status why at in
        let row = write_row keys env formats before at before at items sync (Err status) step in
        record {
          ok = row.0;
          err = row.1;
          step = step;
          refused_by_mode = λ refused_by_mode. by_mode;
          misfit = λ opened long. absurd (not_refused before.mode status opened why);
          written = tt;
          waits = tt;
          logs = tt;
          compacts = tt;
          looks = inr (refl, refl, inl why);
          again = λ room. inr refl;
          failed = (inr refl, (refl, λ room. (refl, refl)));
          entries = kept_as_they_are env (formats (engine_options before)) before.store at;
          tidy = inr (refl, tt);
          breaks = inr (inl refl);
          snapshots = refl;
          options = record { rest = refl; sink = refl };
          rest = rest_still env before at (write items sync) (Err status) (inr (status, refl));
          time = λ modelled. omega arith;
          cause = record { later = omega arith; cause = inl (inl why) };
        }

    pub refused_flushes : EngineFlushes env choices before at (Err status) before at
    refused_flushes =
        let step = refused_stays flush tt status why at in
        let row = flush_row keys env formats before at before at (Err status) step in
        record {
          ok = row.0;
          err = row.1;
          step = step;
          refused_by_mode = λ refused_by_mode. by_mode;
          mode = tt;
          failed = (inr refl, inl (closed_or_broken_by before.mode status why));
          memory = refl;
          snapshots = refl;
          looks = refl;
          removal = refl;
          options = record { rest = refl; sink = refl };
          rest = rest_still env before at flush (Err status) (inr (status, refl));
          time = λ modelled. omega arith;
          cause = record {
            later = omega arith;
            ok = tt;
            uncounted = λ e. refl;
            cause = inl (inl why);
          };
        }

    pub refused_closes : EngineCloses env choices before at (Err status) before at
    refused_closes =
        let step = refused_stays close tt status why at in
        let row = close_row keys env formats before at before at (Err status) step in
        record {
          ok = row.0;
          err = row.1;
          step = step;
          refused_by_mode = λ refused_by_mode. by_mode;
          mode = tt;
          failed = ⊎_elim (λ (out : before.mode ≡ machine.closed). inr (out, out))
              (λ (broke : before.mode ≡ machine.broken). inl broke)
              (closed_or_broken_by before.mode status why);
          memory = refl;
          snapshots = refl;
          looks = refl;
          removal = refl;
          options = record { rest = refl; sink = refl };
          rest = rest_still env before at close (Err status) (inr (status, refl));
          time = λ modelled. omega arith;
          cause = record {
            later = omega arith;
            ok = tt;
            uncounted = λ e. refl;
            cause = inl (inl why, refl);
          };
        }

  -- ---- syncs

  module _ (from : E) (opened : before.mode ≡ machine.open_mode) (value : OpenStoreValue C)
      (mid : E) where
    -- a sync keeps the comparator
    sync_cmp : (result : Result (Unit {0}) Status) → SyncsLog env before.store from result value mid
        → value.cmp ≡ before.store.cmp
    sync_cmp (Ok nothing) syncs = ap (λ (v : OpenStoreValue C). v.cmp) syncs.ok
    sync_cmp (Err status) syncs = ⊎_elim
        (λ (still : IsOutOfMemory status × (value ≡ before.store) × (mid ≡ from)).
        ap (λ (v : OpenStoreValue C). v.cmp) still.1)
        (λ (broke : value ≡ with_writer before.store (broken_writer before.store.log.writer)).
        ap (λ (v : OpenStoreValue C). v.cmp) broke) syncs.err

    sync_tells : (result : Result (Unit {0}) Status) (m : machine.Mode)
        → SyncsLog env before.store from result value mid
        → ChangesLoggerOnly (engine_options before) (engine_options {E = E} {C = C} {FP = FP} {F = F} {B = B}
        (record before { store = value; mode = m }))
    sync_tells result m syncs = record {
      rest = ap (λ (c : C). record before.options { cmp = c }) (sync_cmp result syncs);
      sink = refl;
    }

    flush_mode : (m : machine.Mode) → FollowsStore m value → IsUnbroken before.store
        → (result : Result (Unit {0}) Status)
        → SyncsLog env before.store from result value mid → OnOk result (m ≡ before.mode)
    flush_mode m follows unbroken (Ok nothing) syncs = follows_open m value follows
        (subst (λ (v : OpenStoreValue C). IsUnbroken v) (sym syncs.ok) unbroken) ∙ sym opened
    flush_mode m follows unbroken (Err status) syncs = tt

    flush_failed : (m : machine.Mode) → FollowsStore m value
        → (result : Result (Unit {0}) Status)
        → SyncsLog env before.store from result value mid
        → IfErr result (λ e. KeepsModeOrBreaks before (record before { store = value; mode = m })
        × (IsClosedOrBroken m ⊎ IsOutOfMemory e))
    flush_failed m follows (Ok nothing) syncs = tt
    flush_failed m follows (Err status) syncs = (
      ⊎_elim
          (λ (opens : (m ≡ machine.open_mode) × IsUnbroken value). inr (opens.0 ∙ sym opened))
          (λ (broke : (m ≡ machine.broken) × (IsUnbroken value → ⊥)). inl broke.0) follows,
      ⊎_elim
          (λ (still : IsOutOfMemory status × (value ≡ before.store) × (mid ≡ from)). inr still.0)
          (λ (broke : value ≡ with_writer before.store (broken_writer before.store.log.writer)).
          inl (inr (follows_broken m value follows
          (ap (λ (v : OpenStoreValue C). v.log.writer.broken) broke)))) syncs.err,
    )

    flush_cause : (result : Result (Unit {0}) Status)
        → SyncsLog env before.store from result value mid
        → HasCause (SyncExcused env formats before from mid) (env.failures from) (env.failures mid)
        result
    flush_cause (Ok nothing) syncs = record {
      later = syncs.cause.later;
      ok = syncs.cause.ok;
      uncounted = tt;
      cause = tt;
    }
    flush_cause (Err status) syncs = record {
      later = syncs.cause.later;
      ok = tt;
      uncounted = ⊎_elim
          (λ (by_mode : RefusedByMode before.mode status).
          absurd (not_refused before.mode status opened by_mode))
          (λ (lost : IsLogLost env before.store from mid status). syncs.cause.uncounted lost);
      cause = ⊎_elim (λ (lost : IsLogLost env before.store from mid status). inl (inr lost))
          (λ counted. inr counted) syncs.cause.cause;
    }

    pub flush_serves : IsUnbroken before.store → (m : machine.Mode) → FollowsStore m value
        → (result : Result (Unit {0}) Status)
        → SyncsLog env before.store from result value mid
        → SyncsBatches env (formats (engine_options before)).order before.store from result value mid
        → IsSoundCall {T = Unit {0}} env (formats (engine_options before)).order any_meaning before.store
        from result value mid
        → EngineFlushes env choices before from result
        (record before { store = value; mode = m }) mid
    flush_serves unbroken m follows result syncs batches sound =
        let step = flush_goes env formats before from opened value mid unbroken m follows result syncs
        batches sound in
        let row = flush_row keys env formats before from (record before { store = value; mode = m })
        mid result step in
        record {
          ok = row.0;
          err = row.1;
          step = step;
          refused_by_mode = λ refused_by_mode. absurd (open_is_neither before.mode opened refused_by_mode);
          mode = flush_mode m follows unbroken result syncs;
          failed = flush_failed m follows result syncs;
          memory = sync_only env before from opened value mid result syncs;
          snapshots = refl;
          looks = refl;
          removal = refl;
          options = sync_tells result m syncs;
          rest = rest_synced env before from opened value mid result syncs flush log_is_data tt
              (inl (λ held. refl)) m;
          time = sound.time;
          cause = flush_cause result syncs;
        }

    pub close_unsynced_serves : (status : Status)
        → SyncsLog env before.store from (Err status) value mid
        → SyncsBatches env (formats (engine_options before)).order before.store from (Err status) value mid
        → IsSoundCall {T = Unit {0}} env (formats (engine_options before)).order any_meaning before.store
        from (Err status) value mid
        → EngineCloses env choices before from (Err status)
        (record before { store = value; mode = machine.broken }) mid
    close_unsynced_serves status syncs batches sound =
        let step = close_unsynced env formats before from opened value mid status syncs batches sound in
        let row = close_row keys env formats before from
        (record before { store = value; mode = machine.broken }) mid (Err status) step in
        record {
          ok = row.0;
          err = row.1;
          step = step;
          refused_by_mode = λ refused_by_mode. absurd (open_is_neither before.mode opened refused_by_mode);
          mode = tt;
          failed = inl refl;
          memory = sync_only env before from opened value mid (Err status) syncs;
          snapshots = refl;
          looks = refl;
          removal = refl;
          options = sync_tells (Err status) machine.broken syncs;
          rest = rest_synced env before from opened value mid (Err status) syncs close log_is_data tt
              (inr (status, refl)) machine.broken;
          time = sound.time;
          cause = record {
            later = syncs.cause.later;
            ok = tt;
            uncounted = λ excused. excused.1;
            cause = ⊎_elim (λ (lost : IsLogLost env before.store from mid status).
                inl (inr lost, syncs.cause.uncounted lost)) (λ counted. inr counted)
                syncs.cause.cause;
          };
        }

    module _ (syncs : SyncsLog env before.store from (Ok tt) value mid)
        (batches : SyncsBatches env (formats (engine_options before)).order before.store from (Ok tt) value
        mid)
        (sound : IsSoundCall {T = Unit {0}} env (formats (engine_options before)).order any_meaning
        before.store from (Ok tt) value mid)
        (to : E) (lock : List ℕ) (lock_is : lock ≡ before.lock) where
      pub close_locked_serves : (status : Status)
          → ChangesFiles {T = Unit {0}} env.models_disk same FilesUnchanged (env.observed mid)
          (env.observed to) (Err status)
          → ChangesLocks {T = Unit {0}} env.models_disk (lock_set lock false) (env.observed mid)
          (env.observed to) (Err status)
          → HasCause {T = Unit {0}} (λ _. ⊥) (env.failures mid) (env.failures to) (Err status)
          → EngineCloses env choices before from (Err status)
          (record before { store = value; mode = machine.broken }) to
      close_locked_serves status does locks cause =
          let step = close_locked env formats before from opened value mid syncs batches sound to lock
          lock_is status does locks cause in
          let row = close_row keys env formats before from
          (record before { store = value; mode = machine.broken }) to (Err status) step in
          record {
            ok = row.0;
            err = row.1;
            step = step;
            refused_by_mode = λ refused_by_mode. absurd (open_is_neither before.mode opened refused_by_mode);
            mode = tt;
            failed = inl refl;
            memory = sync_only env before from opened value mid (Ok tt) syncs;
            snapshots = refl;
            looks = refl;
            removal = refl;
            options = sync_tells (Ok tt) machine.broken syncs;
            rest = rest_given env before from opened value mid (Ok tt) syncs to lock lock_is
                (Err status) does locks machine.broken;
            time = λ modelled.
                let first = sound.time modelled in
                let second = does.time.later in omega (arith, first, second);
            cause = counted_error (env.failures from) (env.failures mid) (env.failures to) status
                syncs.cause.ok cause;
          }

      pub closed_serves : ChangesFiles {T = Unit {0}} env.models_disk same FilesUnchanged
          (env.observed mid) (env.observed to) (Ok tt)
          → ChangesLocks {T = Unit {0}} env.models_disk (lock_set lock false) (env.observed mid)
          (env.observed to) (Ok tt)
          → HasCause {T = Unit {0}} (λ _. ⊥) (env.failures mid) (env.failures to) (Ok tt)
          → EngineCloses env choices before from (Ok tt)
          (record before { store = value; mode = machine.closed }) to
      closed_serves does locks cause =
          let counted = cause.ok ∙ syncs.cause.ok in
          let step = closed_now env formats before from opened value mid syncs batches sound to lock
          lock_is does locks cause in
          let row = close_row keys env formats before from
          (record before { store = value; mode = machine.closed }) to (Ok tt) step in
          record {
            ok = row.0;
            err = row.1;
            step = step;
            refused_by_mode = λ refused_by_mode. absurd (open_is_neither before.mode opened refused_by_mode);
            mode = refl;
            failed = tt;
            memory = sync_only env before from opened value mid (Ok tt) syncs;
            snapshots = refl;
            looks = refl;
            removal = refl;
            options = sync_tells (Ok tt) machine.closed syncs;
            rest = rest_given env before from opened value mid (Ok tt) syncs to lock lock_is (Ok tt)
                does locks machine.closed;
            time = λ modelled.
                let first = sound.time modelled in
                let second = does.time.later in omega (arith, first, second);
            cause = record {
              later = omega (arith, counted);
              ok = counted;
              uncounted = tt;
              cause = tt;
            };
          }

  -- ---- look-ups

  module _ (snapshot : Option Snapshot) (key : List ℕ) (from : E) where
    -- a look-up that reads nothing fails for this
    unread_fails : (result : Result (Option (List ℕ)) Status)
        → ((Why : Status → Type 0) → IfErr result (GetExcused before snapshot key Why))
        → GetFails keys env formats before from snapshot key result from
    unread_fails result why = record {
      cause = fails (λ e. IsTableFault (formats (engine_options before)) e.code);
      lacks = λ meaning live there. fails (λ e. (e.code ≡ NotSupported)
          × LacksCompressor (formats (engine_options before)) meaning);
    }
      where
        fails : (Why : Status → Type 0)
            → FailsFor (GetExcused before snapshot key Why) (env.failures from) (env.failures from)
            result
        fails Why = record { later = omega arith; cause = by result (why Why) }
          where
            by : (r : Result (Option (List ℕ)) Status)
                → IfErr r (GetExcused before snapshot key Why)
                → IfErr r (λ e. GetExcused before snapshot key Why e
                ⊎ HasFailed (env.failures from) (env.failures from))
            by (Ok value) excused = tt
            by (Err status) excused = inl excused

    pub get_closed_serves : (status : Status) → RefusedAsClosed before.mode status
        → EngineGets env choices before from snapshot key (Err status) before from
    get_closed_serves status why =
        let step = get_closed env formats before snapshot key status why from in
        let row = get_row keys env formats before from before from snapshot key (Err status) step in
        record {
          ok = row.0;
          err = row.1;
          step = step;
          refused_by_mode = λ refused_by_mode. (refl, refl, inl why);
          way = inl (refl, refl, inl why);
          reads = (refl, refl, refl, refl);
          snapshots = refl;
          options = record { rest = refl; sink = refl };
          rest = rest_still env before from (get snapshot key) (Err status) (inr (status, refl));
          time = λ modelled. omega arith;
          cause = unread_fails (Err status) (λ Why. inl why);
        }

    module _ (usable : before.mode ≡ machine.closed → ⊥) where
      pub get_misfit_serves : (status : Status) → status.code ≡ InvalidArgument
          → IsNotHeld (held_in before) snapshot ⊎ IsLongKey key
          → EngineGets env choices before from snapshot key (Err status) before from
      get_misfit_serves status code misfits =
          let step = get_misfit env formats before snapshot key usable status code misfits from in
          let row = get_row keys env formats before from before from snapshot key (Err status) step in
          record {
            ok = row.0;
            err = row.1;
            step = step;
            refused_by_mode = λ refused_by_mode. absurd (usable refused_by_mode);
            way = inl (refl, refl, inr (inl (code, misfits)));
            reads = (refl, refl, refl, refl);
            snapshots = refl;
            options = record { rest = refl; sink = refl };
            rest = rest_still env before from (get snapshot key) (Err status) (inr (status, refl));
            time = λ modelled. omega arith;
            cause = unread_fails (Err status) (λ Why. inr (inl (code, misfits)));
          }

      pub get_serves : (sequence : ℕ) → IsEngineSequence before snapshot sequence → (IsLongKey key → ⊥)
          → (to : E) (result : Result (Option (List ℕ)) Status)
          (value : OpenStoreValue C) (cache : TableCache E C FP F)
          → LooksUpKey keys env (tables_by formats before) before.store from before.tables sequence key
          result value to cache
          → EngineGets env choices before from snapshot key result
          (record before { options = engine_options before; store = value; tables = cache }) to
      get_serves sequence reads short to result value cache looks =
          let same = read_store env formats before snapshot key usable sequence reads short from to
          result value cache looks in
          let step = get_goes env formats before snapshot key usable sequence reads short from to result
          value cache looks in
          let row = get_row keys env formats before from
          (record before { options = engine_options before; store = value; tables = cache }) to snapshot
          key result step in
          record {
            ok = row.0;
            err = row.1;
            step = step;
            refused_by_mode = λ refused_by_mode. absurd (usable refused_by_mode);
            way = inr (sequence, reads, looks.way);
            reads = (refl, same, refl, refl);
            snapshots = refl;
            options = record {
              rest = ap (λ (v : OpenStoreValue C). record before.options { cmp = v.cmp }) same;
              sink = refl;
            };
            rest = rest_read env before from snapshot key result to (engine_options before) value cache same
                looks.reads.kept_disk;
            time = λ modelled. (looks.reads.kept_disk.disk modelled).time.later;
            cause = get_cause env formats before snapshot key usable sequence reads short from to result
                value cache looks;
          }

      -- the same where the options were given the store's order
      pub get_serves_in : (cmp : C) → cmp ≡ before.store.cmp → (sequence : ℕ)
          → IsEngineSequence before snapshot sequence → (IsLongKey key → ⊥) → (to : E)
          (result : Result (Option (List ℕ)) Status) (value : OpenStoreValue C)
          (cache : TableCache E C FP F)
          → (let options : OptionsOf C FP B = record before.options { cmp = cmp } in
          LooksUpKey keys env (table_options (formats options) options) before.store from before.tables
          sequence key result value to cache)
          → EngineGets env choices before from snapshot key result
          (record before {
            options = record before.options { cmp = cmp };
            store = value;
            tables = cache;
          }) to
      get_serves_in cmp same sequence reads short to result value cache looks =
          subst (λ (c : C). EngineGets env choices before from snapshot key result
          (record before {
            options = record before.options { cmp = c };
            store = value;
            tables = cache;
          }) to) (sym same)
          (get_serves sequence reads short to result value cache (subst (λ (c : C).
          let options : OptionsOf C FP B = record before.options { cmp = c } in
          LooksUpKey keys env (table_options (formats options) options) before.store from before.tables
          sequence key result value to cache) same looks))
