-- What a compaction of a range does to an engine, put together: its step, what becomes of the
-- engine, and why it fails.
use Rattle.std.specs.Prelude.{OnErr, OnOk, Result, is_some}
use Rattle.std.proofs.Common.{◌≡◌, ◌⊎◌, ◌∙◌, ⊎_elim, inl, inr, ℕ, List, refl, sym, ap, subst, arith, Some, Ok, Err}
use Rattle.leveldb_base.specs.KeyTypes.{IsLongKey}
use Rattle.leveldb_base.specs.declared.error.Status.{Status}
use Rattle.leveldb_base.specs.declared.error.StatusCode.TheVariants.{InvalidArgument}
use Rattle.leveldb_env.specs.Options.{Boxed, OptionsOf}
use Rattle.leveldb_env.specs.declared.env.Env.{Ghosts}
use Rattle.leveldb_env.specs.declared.filter.FilterPolicy.{Ghosts as FilterGhosts}
use Rattle.leveldb_store.specs.Tables.BuildTable.{TableChoices}
use Rattle.leveldb_store.proofs.Keeping.KeptEntriesLemmas.{memory_same}
use Rattle.leveldb_store.specs.Keeping.OpenStore.{IsUnbroken}
use Rattle.leveldb_store.specs.Writing.Room.{FailsFor, ChangesLoggerOnly}
use Rattle.leveldb_files.specs.Stores.Format.{Format, Meaning}
use Rattle.rusty_leveldb.specs.Engines.Boxes.{EngineOf, InternalOrder}
use Rattle.rusty_leveldb.specs.Engines.Calls.{EngineCompacts, KeepsModeOrBreaks}
use Rattle.rusty_leveldb.specs.Compactions.Compact.{EngineCompactsStore}
use Rattle.rusty_leveldb.specs.Machines.Causes.{Setting, bad_operand}
use Rattle.rusty_leveldb.specs.Engines.Engine.{AnswersStill, CompactExcused, RefusedByMode, formats_of, engine_options}
use Rattle.rusty_leveldb.specs.Compactions.CompactionLaws.{HasViewsInTables}
use Rattle.rusty_leveldb.specs.Engines.Frame.{MayTouch}
use Rattle.rusty_leveldb.specs.Machines.Machine.{Refuses, Step}
use Rattle.rusty_leveldb.specs.Engines.Rows.{RepresentsAt}
use Rattle.rusty_leveldb.specs.Engines.Serves.{refusal_of, setting_between}
use Rattle.rusty_leveldb.specs.Machines.State as machine
use Rattle.rusty_leveldb.specs.Machines.State.{State, compact_range, refused}
use Rattle.rusty_leveldb.proofs.Engines.CallsLemmas.{refused_stays, open_is_neither, not_refused}
use Rattle.rusty_leveldb.proofs.Compactions.CompactingLemmas.{compact_goes, compact_tells}
use Rattle.rusty_leveldb.proofs.Compactions.CompactionLawsLemmas.{views_in_tables}
use Rattle.rusty_leveldb.proofs.Engines.EngineLemmas.{follows_open}
use Rattle.rusty_leveldb.proofs.Engines.Moments.{moments_none}
use Rattle.rusty_leveldb.proofs.Engines.Others.{spares_still}
use Rattle.rusty_leveldb.proofs.Engines.RestLemmas.{rest_kept, rest_still}
use Rattle.rusty_leveldb.proofs.Engines.RowLemmas.{compact_row}

module _ {E C FP F P : Type 0} {B : Boxed} {keys : InternalOrder C} {key_filters : FilterGhosts P}
    (env : Ghosts E F) (choices : OptionsOf C FP B → TableChoices keys key_filters)
    (before : EngineOf E C FP F B) (from : E) (low high : List ℕ) where
  abbrev formats : OptionsOf C FP B → Format
  formats = formats_of choices

  -- ---- nothing is done

  -- the mode refuses it
  pub refused_compacts : (status : Status) → RefusedByMode before.mode status
      → EngineCompacts env choices before from low high (Err status) before from
  refused_compacts status why =
      let step = refused_stays env choices before (compact_range low high) tt status why from in
      let row = compact_row keys env formats before from before from low high (Err status) step in
      record {
        ok = row.0;
        err = row.1;
        step = step;
        refused_by_mode = λ refused_by_mode. (refl, refl, why);
        misfit = λ opened long. absurd (not_refused before.mode status opened why);
        mode = tt;
        failed = inr refl;
        last = refl;
        entries = memory_same env (formats (engine_options before)) before.store from;
        tables_made = tt;
        by_tables = tt;
        clear = tt;
        snapshots = refl;
        looks = refl;
        tidy = inr (refl, tt);
        options = record { rest = refl; sink = refl };
        rest = rest_still env before from (compact_range low high) (Err status)
            (inr (status, refl));
        time = λ modelled. omega arith;
        cause = record { later = omega arith; cause = inl (inl why) };
      }

  module _ (opened : before.mode ≡ machine.open_mode) where
    -- an end is too long
    long_still : (status : Status) → status.code ≡ InvalidArgument
        → IsLongKey low ⊎ IsLongKey high
        → AnswersStill keys env formats before (compact_range low high) (refused (refusal_of status))
    long_still status code long at store meaning modelled old was = record {
      new = old;
      represents = was;
      later = omega arith;
      step = subst (λ m. Step m setting old (compact_range low high) (refused (refusal_of status))
          old) (sym opened ∙ was.memory_is.mode) refuses;
      moments = moments_none store meaning (compact_range low high) old (env.observed at)
          was.disk_is;
      spares = spares_still store (MayTouch store old.mode (compact_range low high))
          (env.observed at).disk;
      bytes = λ never. absurd never;
    }
      where
        setting : Setting
        setting = setting_between meaning (env.failures at) (env.failures at)

        refuses : Refuses setting old (compact_range low high) (refusal_of status) old
        refuses = record {
          cause = bad_operand;
          comes = (code, long);
          leaves = inl (record { state = refl; durable = inl refl });
        }

    pub long_compacts : (status : Status) → status.code ≡ InvalidArgument
        → IsLongKey low ⊎ IsLongKey high
        → EngineCompacts env choices before from low high (Err status) before from
    long_compacts status code long =
        let step = long_still status code long from in
        let row = compact_row keys env formats before from before from low high (Err status) step in
        record {
          ok = row.0;
          err = row.1;
          step = step;
          refused_by_mode = λ refused_by_mode. absurd (open_is_neither before.mode opened refused_by_mode);
          misfit = λ is too_long. (refl, refl, code);
          mode = tt;
          failed = inr refl;
          last = refl;
          entries = memory_same env (formats (engine_options before)) before.store from;
          tables_made = tt;
          by_tables = tt;
          clear = tt;
          snapshots = refl;
          looks = refl;
          tidy = inr (refl, tt);
          options = record { rest = refl; sink = refl };
          rest = rest_still env before from (compact_range low high) (Err status)
              (inr (status, refl));
          time = λ modelled. omega arith;
          cause = record { later = omega arith; cause = inl (inr (inl (code, long))) };
        }

    -- ---- the store is compacted, or isn't

    module _ (after : EngineOf E C FP F B) (to : E) where
      mode_then : (result : Result (Unit {0}) Status)
          → EngineCompactsStore env choices before from low high result after to
          → OnOk result (after.mode ≡ before.mode)
      mode_then (Ok nothing) it =
          follows_open after.mode after.store it.mode it.compacts.keeps.usable ∙ sym opened
      mode_then (Err status) it = tt

      failed_then : (result : Result (Unit {0}) Status)
          → EngineCompactsStore env choices before from low high result after to
          → OnErr result (KeepsModeOrBreaks before after)
      failed_then (Ok nothing) it = tt
      failed_then (Err status) it = ⊎_elim
          (λ (opens : (after.mode ≡ machine.open_mode) × IsUnbroken after.store).
          inr (opens.0 ∙ sym opened))
          (λ (broke : (after.mode ≡ machine.broken) × (IsUnbroken after.store → ⊥)). inl broke.0)
          it.mode

      by_tables_then : (result : Result (Unit {0}) Status)
          → EngineCompactsStore env choices before from low high result after to
          → OnOk result ((store : List ℕ) (meaning : Meaning) (state : State)
          → RepresentsAt keys env formats store meaning (Some after) to state
          → HasViewsInTables meaning after.store (env.observed to).disk.files state)
      by_tables_then (Ok nothing) it = λ store meaning state is.
          let opens = follows_open after.mode after.store it.mode it.compacts.keeps.usable in
          views_in_tables C meaning after.store (env.observed to).disk.files state
          is.disk_is.is_state
          (is.memory_is.shows (λ closed.
          let never : machine.open_mode ≡ machine.closed = sym opens ∙ is.memory_is.mode ∙ closed in
          cc)) it.compacts.tables_made.0 it.compacts.tables_made.1
      by_tables_then (Err status) it = tt

      cause_then : (result : Result (Unit {0}) Status)
          → EngineCompactsStore env choices before from low high result after to
          → FailsFor (CompactExcused env choices before from low high after.store)
          (env.failures from) (env.failures to) result
      cause_then (Ok nothing) it = record { later = it.compacts.keeps.cause.later; cause = tt }
      cause_then (Err status) it = record {
        later = it.compacts.keeps.cause.later;
        cause = ⊎_elim (λ why. inl (inr (inr why))) (λ failed. inr failed)
            it.compacts.keeps.cause.cause;
      }

      pub compact_serves : ((a b : OptionsOf C FP B) → ChangesLoggerOnly a b → formats b ≡ formats a)
          → (IsLongKey low → ⊥) → (IsLongKey high → ⊥) → (result : Result (Unit {0}) Status)
          → EngineCompactsStore env choices before from low high result after to
          → is_some after.options.log ≡ is_some before.options.log
          → EngineCompacts env choices before from low high result after to
      compact_serves ignores low_fits high_fits result it sink =
          let step = compact_goes env choices before from opened ignores low high result after to it
          sink low_fits high_fits in
          let row = compact_row keys env formats before from after to low high result step in
          record {
            ok = row.0;
            err = row.1;
            step = step;
            refused_by_mode = λ refused_by_mode. absurd (open_is_neither before.mode opened refused_by_mode);
            misfit = λ is long. absurd (⊎_elim low_fits high_fits long);
            mode = mode_then result it;
            failed = failed_then result it;
            last = it.compacts.keeps.rest.last;
            entries = it.entries;
            tables_made = it.compacts.tables_made;
            by_tables = by_tables_then result it;
            clear = it.compacts.clear;
            snapshots = ap (λ (e : EngineOf E C FP F B). e.snapshots) it.rest;
            looks = ap (λ (e : EngineOf E C FP F B). e.looked_at) it.rest;
            tidy = it.tidy;
            options = compact_tells env choices before from low high result after to it sink;
            rest = rest_kept env before from opened (compact_range low high) result
                (λ kind is. is) (λ kind is. is) (λ held. refl) (λ syncs. syncs) after to
                (ap (λ (e : EngineOf E C FP F B). e.lock) it.rest) it.compacts.keeps.rest;
            time = it.compacts.keeps.sound.time;
            cause = cause_then result it;
          }
