-- The step of the machine that a compaction of a range is: no answer changes.
use Rattle.std.specs.Prelude.{IfErr, Result, is_some}
use Rattle.std.proofs.Common.{◌≡◌, ◌+◌, ◌⊎◌, ◌∙◌, ⊎_elim, inl, inr, ℕ, Bool, List, refl, sym, ap, subst, arith, Some, None, Ok, Err, IsTrue}
use Rattle.std.specs.declared.cmp.Ordering.{Ordering}
use Rattle.leveldb_base.specs.Error.{IsOutOfMemory}
use Rattle.leveldb_base.specs.History.{count_of, with_batch}
use Rattle.leveldb_base.specs.KeyTypes.{IsLongKey}
use Rattle.leveldb_base.specs.declared.error.Status.{Status}
use Rattle.leveldb_env.specs.Env.{Files, Run}
use Rattle.leveldb_env.specs.Options.{Boxed, OptionsOf}
use Rattle.leveldb_env.specs.declared.env.Env.{Ghosts}
use Rattle.leveldb_env.specs.declared.filter.FilterPolicy.{Ghosts as FilterGhosts}
use Rattle.leveldb_files.specs.Stores.Format.{Agrees, Format, Meaning}
use Rattle.leveldb_files.specs.Stores.Paths.{lock_path}
use Rattle.leveldb_version.specs.Tables.TableCache.{TableOptions}
use Rattle.leveldb_store.specs.Tables.BuildTable.{TableChoices}
use Rattle.leveldb_store.specs.Compactions.Compact.{FailsToCompactRange}
use Rattle.leveldb_store.specs.Keeping.OpenStore.{IsUnbroken}
use Rattle.leveldb_store.specs.Keeping.OpenTables.{AreOpenTablesOf}
use Rattle.leveldb_store.specs.Reading.Read.{HasOpenTables}
use Rattle.leveldb_store.specs.Writing.Room.{HasFailed, ChangesLoggerOnly}
use Rattle.leveldb_store.specs.Writing.WriteBatch.{HoldsBatches}
use Rattle.leveldb_store.specs.Keeping.Written.{IsWritten}
use Rattle.leveldb_store.specs.Keeping.WrittenFrom.{KeepsStoreFrom, KeepsWrittenFrom}
use Rattle.rusty_leveldb.specs.Engines.Boxes.{EngineOf, InternalOrder}
use Rattle.rusty_leveldb.specs.Compactions.Compact.{EngineCompactsStore}
use Rattle.rusty_leveldb.specs.Machines.Causes.{Cause, IsCausedBy, Fits, Setting, device_failed, out_of_memory}
use Rattle.rusty_leveldb.specs.Engines.Engine.{Answers, Recalls, ShowsViews, formats_of, engine_options, scene, tables_by}
use Rattle.rusty_leveldb.specs.Machines.Machine.{Breaks, Refuses, Risk, Step, risk_between}
use Rattle.rusty_leveldb.specs.Engines.Serves.{TakesStep, IsSpared, Represents, done_or, refusal_of, setting_between}
use Rattle.rusty_leveldb.specs.Machines.State as machine
use Rattle.rusty_leveldb.specs.Machines.State.{Answer, State, compact_range, done, open_mode, refused}
use Rattle.rusty_leveldb.proofs.Engines.EngineLemmas.{SameSnapshots, Stays, follows_open, goes, is_of, none, not_closed, same_format, state_open, views_still}
use Rattle.rusty_leveldb.proofs.Engines.KeptLemmas.{kept_holds, kept_last, kept_run, kept_spares, spared_first, store_tells, tables_by_stay}
use Rattle.rusty_leveldb.proofs.Engines.HeldViewsLemmas.{MakesTables, agrees_by, by_device, by_memory, has_open, tables_cause, views_held, written_by}
use Rattle.rusty_leveldb.proofs.Engines.ReadsLemmas.{may_stay}
use Rattle.rusty_leveldb.proofs.Engines.SyncLemmas.{risk_now}

-- ---- the store of an engine is compacted

-- what a compaction of its store leaves of an engine's options
pub compact_tells : {E C FP F P : Type 0} {B : Boxed} {keys : InternalOrder C}
    {key_filters : FilterGhosts P} (env : Ghosts E F)
    (choices : OptionsOf C FP B → TableChoices keys key_filters) (before : EngineOf E C FP F B)
    (from : E) (low high : List ℕ) (result : Result (Unit {0}) Status)
    (after : EngineOf E C FP F B) (to : E)
    → EngineCompactsStore env choices before from low high result after to
    → is_some after.options.log ≡ is_some before.options.log
    → ChangesLoggerOnly (engine_options before) (engine_options after)
compact_tells env choices before from low high result after to it sink =
    store_tells before after it.rest it.compacts.keeps.rest.cmp sink

module _ {E C FP F P : Type 0} {B : Boxed} {keys : InternalOrder C} {key_filters : FilterGhosts P}
    (env : Ghosts E F) (choices : OptionsOf C FP B → TableChoices keys key_filters)
    (store : List ℕ) (meaning : Meaning) (before : EngineOf E C FP F B) (from : E)
    (old : State)
    (was : Represents store meaning (Recalls keys env (formats_of choices) store meaning) (Some before)
    (env.observed from).disk old) (opened : before.mode ≡ machine.open_mode)
    (modelled : IsTrue env.models_disk)
    (ignores : (a b : OptionsOf C FP B) → ChangesLoggerOnly a b
    → formats_of choices b ≡ formats_of choices a)
    (low high : List ℕ) (result : Result (Unit {0}) Status) (after : EngineOf E C FP F B) (to : E)
    (it : EngineCompactsStore env choices before from low high result after to)
    (sink : is_some after.options.log ≡ is_some before.options.log) where
  abbrev formats : OptionsOf C FP B → Format
  formats = formats_of choices

  abbrev by : TableOptions C FP
  by = tables_by formats before

  abbrev order : List ℕ → List ℕ → Ordering
  order = old.format.order

  abbrev files : Files
  files = (env.observed from).disk.files

  abbrev files_then : Files
  files_then = (env.observed to).disk.files

  same : formats (engine_options before) ≡ old.format
  same = same_format env formats store meaning before from old was opened

  tables_open : HasOpenTables keys env by before.store from before.tables
  tables_open = has_open env choices store meaning before from old was opened modelled

  agrees : Agrees by.format meaning
  agrees = agrees_by env choices store meaning before from old was opened modelled

  written : IsWritten order meaning before.store files
  written = (is_of env formats store meaning before from old was opened).written

  -- what the store keeps, by the machine's format
  keeps : KeepsStoreFrom order meaning it.smallest (Stays old) before.store (env.observed from)
      after.store (env.observed to)
  keeps = (subst (λ (f : Format). KeepsWrittenFrom f.order meaning it.smallest before.store
      (env.observed from) after.store (env.observed to)) same
      (it.compacts.keeps.keeps tables_open meaning agrees)) (may_stay None old.store) written

  last_is : before.store.set.last_sequence ≡ old.last
  last_is = was.memory_is.last (not_closed env formats store meaning before from old was opened)

  -- it shows the views
  views_after : ShowsViews meaning after.store files_then old
  views_after = views_held env choices store meaning before from old was opened modelled it.smallest
      it.is_smallest after.store files_then keeps.shows

  -- ---- why it fails

  abbrev setting : Setting
  setting = setting_between meaning (env.failures from) (env.failures to)

  -- broken, with nothing pending
  abbrev broke : State
  broke = record old { pending = None; mode = machine.broken }

  module _ (status : Status) where
    abbrev HasCause : Type 0
    HasCause = (cause : Cause) × IsCausedBy setting old (compact_range low high) (refusal_of status) cause

    makes_tables : MakesTables old (compact_range low high)
    makes_tables = record { memory = tt; device = tt; writes = tt; reads = tt; format = refl }

    -- refused, with nothing changed
    refuses_still : HasCause → Refuses setting old (compact_range low high) (refusal_of status) old
    refuses_still why = record {
      cause = why.0;
      comes = why.1;
      leaves = inl (record { state = refl; durable = inl refl });
    }

    breaks : Breaks old None broke
    breaks = record { state = refl; durable = inl refl }

    -- refused, and the store is broken
    refuses_broken : IsOutOfMemory status ⊎ HasFailed (env.failures from) (env.failures to)
        → Refuses setting old (compact_range low high) (refusal_of status) broke
    refuses_broken (inl memory) = record {
      cause = out_of_memory;
      comes = by_memory env choices store meaning before from old was opened modelled
          (compact_range low high) makes_tables to status memory;
      leaves = inr (tt, breaks);
    }
    refuses_broken (inr failed) = record {
      cause = device_failed;
      comes = by_device env choices store meaning before from old was opened modelled
          (compact_range low high) makes_tables to status failed;
      leaves = inr (tt, breaks);
    }

  -- ---- the step

  -- the open tables are those of the store
  tables_then : AreOpenTablesOf keys env (tables_by formats after) after.store.set files_then
      after.tables
  tables_then = subst (λ (b : TableOptions C FP).
      AreOpenTablesOf keys env b after.store.set files_then after.tables)
      (sym (tables_by_stay formats ignores before after
      (compact_tells env choices before from low high result after to it sink)))
      (it.compacts.keeps.still_open tables_open)

  went : (answer : Answer) (new : State)
      → SameSnapshots env formats store meaning before from old was opened new
      → after.mode ≡ new.mode → new.store ≡ old.store
      → new.format ≡ old.format → new.history ≡ old.history → new.last ≡ old.last
      → new.durable ≡ old.durable → new.pending ≡ None → new.locked ≡ old.locked
      → (new.mode ≡ open_mode → IsUnbroken after.store)
      → Step open_mode setting old (compact_range low high) answer new
      → TakesStep store meaning (Recalls keys env formats store meaning) (scene env (Some before) from)
      (compact_range low high) answer (scene env (Some after) to) old
  went answer new snapshots mode_is store_is format_is history_is last_is durable_is pending_is
      locked_is unbroken step =
      goes env formats store meaning before from old was opened after to new (record {
        lock = ap (λ (e : EngineOf E C FP F B). e.lock) it.rest;
        options = ignores (engine_options before) (engine_options after)
            (compact_tells env choices before from low high result after to it sink);
        path = it.compacts.keeps.rest.store;
        store_is = store_is;
        format_is = format_is;
        mode = mode_is;
        last = kept_last env formats store meaning before from old was opened after.store to
            keeps.moments it.compacts.keeps.rest ∙ sym last_is;
        views = views_still env formats store meaning before from old was opened after.store
            files_then views_after new snapshots format_is history_is;
        snapshots = ap (λ (e : EngineOf E C FP F B). e.snapshots) it.rest;
        same_snapshots = snapshots;
        tables = tables_then;
        writes = λ is. keeps.written (unbroken is);
        holds = subst (λ h. HoldsBatches order meaning (Stays old) after.store files_then h
            new.durable new.pending) (sym history_is)
            (subst (λ d. HoldsBatches order meaning (Stays old) after.store files_then old.history d
            new.pending) (sym durable_is)
            (subst (λ p. HoldsBatches order meaning (Stays old) after.store files_then old.history
            old.durable p) (sym pending_is)
            (kept_holds env formats store meaning before from old was opened after.store to
            keeps.moments it.compacts.keeps.rest)));
        bytes = it.compacts.keeps.sound.bytes modelled was.disk_is.bytes;
        locked = ap (λ (l : List ℕ → Bool). l (lock_path store))
            (it.compacts.keeps.rest.locks modelled) ∙ was.disk_is.locked ∙ sym locked_is;
      }) (compact_range low high) answer it.compacts.keeps.cause.later
      (subst (λ m. Step m setting old (compact_range low high) answer new)
      (sym (state_open env formats store meaning before from old was opened)) step)
      (subst (λ (r : Risk). Run (IsSpared store meaning old r) (env.observed from) (env.observed to))
      same_risk (kept_run env formats store meaning before from old was opened after.store to
      keeps.moments it.compacts.keeps.rest
      (risk_now env formats store meaning before from old was opened) refl (omega arith)
      (spared_first env formats store meaning before from old was opened)))
      (kept_spares env formats store meaning before from old was opened after.store to
      keeps.moments it.compacts.keeps.rest modelled (compact_range low high) (λ kind is. is)
      (λ kind is. is)) (λ never. absurd never)
    where
      same_risk : risk_now env formats store meaning before from old was opened ≡ risk_between new
      same_risk = sym (λ i. record {
        history = with_batch (history_is i) (pending_is i);
        bound = last_is i + count_of (pending_is i);
        opening = None;
      })

  -- a failed call broke the store only out of memory, or by the device
  breaks_by : (status : Status) → result ≡ Err status → IsUnbroken after.store
      ⊎ IsOutOfMemory status ⊎ HasFailed (env.failures from) (env.failures to)
  breaks_by status fails = subst (λ (r : Result (Unit {0}) Status). IfErr r (λ e.
      IsUnbroken after.store ⊎ IsOutOfMemory e ⊎ HasFailed (env.failures from) (env.failures to)))
      fails (it.compacts.keeps.sound.breaks modelled meaning (tables_open, agrees)
      (written_by env choices store meaning before from old was opened modelled))

  -- it is compacted
  went_done : IsUnbroken after.store → (IsLongKey low → ⊥) → (IsLongKey high → ⊥)
      → TakesStep store meaning (Recalls keys env formats store meaning) (scene env (Some before) from)
      (compact_range low high) done (scene env (Some after) to) old
  went_done unbroken low_fits high_fits =
      went done old (λ in_use. (refl, refl))
      (follows_open after.mode after.store it.mode unbroken
      ∙ sym (state_open env formats store meaning before from old was opened))
      refl refl refl refl refl (none env formats store meaning before from old was opened) refl
      (λ is. unbroken) (fits, record { state = refl; durable = inl refl })
    where
      fits : Fits old (compact_range low high)
      fits = record {
        operands = ⊎_elim low_fits high_fits;
        numbers = λ used. used;
      }

  -- or it isn't
  went_failed : (status : Status) → result ≡ Err status
      → TakesStep store meaning (Recalls keys env formats store meaning) (scene env (Some before) from)
      (compact_range low high) (refused (refusal_of status)) (scene env (Some after) to) old
  went_failed status fails = ⊎_elim
      (λ (sound : (after.mode ≡ machine.open_mode) × IsUnbroken after.store).
      went (refused (refusal_of status)) old (λ in_use. (refl, refl))
      (sound.0 ∙ sym (state_open env formats store meaning before from old was opened))
      refl refl refl refl refl (none env formats store meaning before from old was opened) refl
      (λ is. sound.1) (refuses_still status (tables_cause env choices store meaning before from old was opened modelled
      (compact_range low high) (makes_tables status) to status after.store causes)))
      (λ (is : (after.mode ≡ machine.broken) × (IsUnbroken after.store → ⊥)).
      went (refused (refusal_of status)) broke (λ in_use. (refl, refl)) is.0
      refl refl refl refl refl refl refl
      (λ opens. absurd (let never : machine.broken ≡ open_mode = opens in cc))
      (refuses_broken status (⊎_elim
      (λ (unbroken : IsUnbroken after.store). absurd (is.1 unbroken)) (λ why. why)
      (breaks_by status fails))))
      it.mode
    where
      causes : FailsToCompactRange keys env by before.store from before.tables
          (choices (engine_options before)) after.store status
          ⊎ HasFailed (env.failures from) (env.failures to)
      causes = subst (λ (r : Result (Unit {0}) Status). IfErr r (λ e.
          FailsToCompactRange keys env by before.store from before.tables
          (choices (engine_options before)) after.store e
          ⊎ HasFailed (env.failures from) (env.failures to))) fails it.compacts.keeps.cause.cause

-- so the machine does the request, or refuses it
pub compact_goes : {E C FP F P : Type 0} {B : Boxed} {keys : InternalOrder C}
    {key_filters : FilterGhosts P} (env : Ghosts E F)
    (choices : OptionsOf C FP B → TableChoices keys key_filters)
    (before : EngineOf E C FP F B) (from : E) → before.mode ≡ machine.open_mode
    → ((a b : OptionsOf C FP B) → ChangesLoggerOnly a b → formats_of choices b ≡ formats_of choices a)
    → (low high : List ℕ) (result : Result (Unit {0}) Status) (after : EngineOf E C FP F B) (to : E)
    → EngineCompactsStore env choices before from low high result after to
    → is_some after.options.log ≡ is_some before.options.log
    → (IsLongKey low → ⊥) → (IsLongKey high → ⊥)
    → Answers keys env (formats_of choices) (Some before) from (compact_range low high)
    (done_or result) (Some after) to
compact_goes env choices before from opened ignores low high (Ok nothing) after to it sink
    low_fits high_fits store meaning modelled old was =
    went_done env choices store meaning before from old was opened modelled ignores low high
    (Ok nothing) after to it sink it.compacts.keeps.usable low_fits high_fits
compact_goes env choices before from opened ignores low high (Err status) after to it sink
    low_fits high_fits store meaning modelled old was =
    went_failed env choices store meaning before from old was opened modelled ignores low high
    (Err status) after to it sink status refl
