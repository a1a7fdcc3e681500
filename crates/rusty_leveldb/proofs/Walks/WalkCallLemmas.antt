-- What a call does that makes moves of a walk, put together.
use Rattle.std.specs.Prelude.{IfErr, OnErr, Result}
use Rattle.std.proofs.Common.{◌≡◌, inl, inr, ℕ, Bool, List, [], refl, sym, ap, subst, arith, Option, Ok, Err}
use Rattle.leveldb_base.specs.Error.{IsOutOfMemory}
use Rattle.leveldb_base.specs.declared.error.Status.{Status}
use Rattle.leveldb_base.specs.declared.error.StatusCode.TheVariants.{InvalidArgument}
use Rattle.leveldb_env.specs.Options.{Boxed, OptionsOf}
use Rattle.leveldb_env.specs.declared.env.Env.{Ghosts}
use Rattle.leveldb_env.specs.declared.filter.FilterPolicy.{Ghosts as FilterGhosts}
use Rattle.leveldb_iter.specs.declared.moves.Move.{Move}
use Rattle.leveldb_iter.specs.declared.moves.Step.{Step}
use Rattle.leveldb_version.specs.Tables.TableCache.{table_options}
use Rattle.leveldb_version.specs.declared.table_cache.TableCache.{TableCache}
use Rattle.leveldb_store.specs.Tables.BuildTable.{TableChoices}
use Rattle.leveldb_store.specs.Reading.View.{WalksStore}
use Rattle.rusty_leveldb.specs.Engines.Boxes.{EngineOf, InternalOrder}
use Rattle.rusty_leveldb.specs.Engines.Calls.{EngineWalks, IsLockLeft, IsRefusedByMode}
use Rattle.rusty_leveldb.specs.Machines.Causes.{IsNotHeld}
use Rattle.rusty_leveldb.specs.Engines.Engine.{AnswersStill, IsClosed, RefusedAsClosed, WalkExcused, formats_of, held_in, holds_lock, engine_options, tables_by, IsEngineSequence}
use Rattle.rusty_leveldb.specs.Machines.State as machine
use Rattle.rusty_leveldb.specs.Machines.State.{Request, Snapshot, refused}
use Rattle.rusty_leveldb.specs.Engines.Serves.{refusal_of}
use Rattle.rusty_leveldb.specs.Walks.Walks.{walk_of}
use Rattle.rusty_leveldb.proofs.Engines.Others.{spares_same}
use Rattle.rusty_leveldb.proofs.Engines.RestLemmas.{kept_where_still, rest_still, tables_where_still}
use Rattle.rusty_leveldb.proofs.Engines.RowLemmas.{walk_row}
use Rattle.rusty_leveldb.proofs.Walks.WalkingLemmas.{walk_closed, walk_goes, walk_starved, walk_unheld}

module _ {E C FP F P : Type 0} {B : Boxed} {keys : InternalOrder C} {key_filters : FilterGhosts P}
    (env : Ghosts E F) (choices : OptionsOf C FP B → TableChoices keys key_filters)
    (before : EngineOf E C FP F B) (at : Option Snapshot) (moves : List Move) (from : E) where
  -- no walk is made, and nothing changes
  unmade : (status : Status)
      → AnswersStill keys env (formats_of choices) before (walk_of at moves) (refused (refusal_of status))
      → (IsClosed before.mode
      → IsRefusedByMode {T = Unit {0}} before from (Err status) before from)
      → WalkExcused before at status
      → EngineWalks env choices before from at moves [] (Err status) before from
  unmade status still refused_by_mode why =
      let step = still from in
      let row = walk_row keys env (formats_of choices) before from before from at moves [] (Err status)
      step in
      record {
        ok = row.0;
        err = row.1;
        step = step;
        refused_by_mode = refused_by_mode;
        reads = (refl, refl, refl, refl);
        snapshots = refl;
        options = record { rest = refl; sink = refl };
        rest = rest_still env before from (walk_of at moves) (Err status) (inr (status, refl));
        time = λ modelled. omega arith;
        later = omega arith;
        cause = why;
        way = inl (refl, refl, refl, why);
        refused = tt;
        none = refl;
      }

  pub walk_closed_serves : (status : Status) → RefusedAsClosed before.mode status
      → EngineWalks env choices before from at moves [] (Err status) before from
  walk_closed_serves status why = unmade status
      (walk_closed keys env (formats_of choices) before at moves status why)
      (λ refused_by_mode. (refl, refl, inl why)) (inl why)

  module _ (usable : before.mode ≡ machine.closed → ⊥) where
    pub walk_unheld_serves : (status : Status) → status.code ≡ InvalidArgument
        → IsNotHeld (held_in before) at
        → EngineWalks env choices before from at moves [] (Err status) before from
    walk_unheld_serves status code unheld = unmade status
        (walk_unheld keys env (formats_of choices) before at moves usable status code unheld)
        (λ refused_by_mode. absurd (usable refused_by_mode)) (inr (inl (code, unheld)))

    pub walk_starved_serves : (status : Status) → IsOutOfMemory status
        → EngineWalks env choices before from at moves [] (Err status) before from
    walk_starved_serves status out = unmade status
        (walk_starved keys env (formats_of choices) before at moves usable status out)
        (λ refused_by_mode. absurd (usable refused_by_mode)) (inr (inr out))

    module _ (sequence : ℕ) (reads_at : IsEngineSequence before at sequence) (to : E) (left : TableCache E C FP F) (given : List Step)
        (result : Result (Unit {0}) Status)
        (walks : WalksStore keys env (tables_by (formats_of choices) before) before.store from before.tables sequence moves given result to left) where
      -- the engine in the end
      abbrev walked_engine : EngineOf E C FP F B
      walked_engine = record before { options = engine_options before; tables = left }

      locks_stay : (r : Result (Unit {0}) Status) (now was : Bool) → now ≡ was → IsLockLeft (walk_of at moves) r was now
      locks_stay (Ok done) now was same = (same, tt)
      locks_stay (Err status) now was same = (tt, same)

      caused : (r : Result (Unit {0}) Status) → IfErr r (λ e. IsOutOfMemory e × (given ≡ []) × (to ≡ from) × (left ≡ before.tables))
          → IfErr r (WalkExcused before at)
      caused (Ok done) none = tt
      caused (Err status) none = inr (inr none.0)

      steps_none : (r : Result (Unit {0}) Status) → IfErr r (λ e. IsOutOfMemory e × (given ≡ []) × (to ≡ from) × (left ≡ before.tables))
          → OnErr r (given ≡ [])
      steps_none (Ok done) none = tt
      steps_none (Err status) none = none.1

      walk_serves : EngineWalks env choices before from at moves given result walked_engine to
      walk_serves =
          let step = walk_goes keys env (formats_of choices) before at moves usable sequence reads_at
          from to left given result walks in
          let row = walk_row keys env (formats_of choices) before from walked_engine to at moves given
          result step in
          record {
            ok = row.0;
            err = row.1;
            step = step;
            refused_by_mode = λ refused_by_mode. absurd (usable refused_by_mode);
            reads = (refl, refl, refl, refl);
            snapshots = refl;
            options = record { rest = refl; sink = refl };
            rest = record {
              place = (refl, refl);
              others = λ modelled own. spares_same before.store.set.store (env.observed from).disk (env.observed to).disk _ (walks.kept.disk modelled).has
                  (λ path differs. ap (λ (l : List ℕ → Bool). l path) (walks.kept.locks modelled));
              lock = λ modelled. locks_stay result (holds_lock env before to) (holds_lock env before from)
                  (ap (λ (l : List ℕ → Bool). l before.lock) (walks.kept.locks modelled));
              tables = tables_where_still env before from to
                  (λ modelled. (walks.kept.disk modelled).has);
              kept = kept_where_still env before from to walks.kept.disk;
              stay_kept = (omega arith, refl);
              bytes = λ modelled syncs. absurd syncs;
            };
            time = λ modelled. (walks.kept.disk modelled).time.later;
            later = walks.later;
            cause = caused result walks.none;
            way = inr (sequence, reads_at, walks);
            refused = walks.refused;
            none = steps_none result walks.none;
          }

    -- the same where the options were given the store's order before the walk
    pub walk_serves_in : (cmp : C) → cmp ≡ before.store.cmp → (sequence : ℕ) → IsEngineSequence before at sequence → (to : E) (left : TableCache E C FP F) (given : List Step)
        (result : Result (Unit {0}) Status)
        → (let options : OptionsOf C FP B = record before.options { cmp = cmp } in
        WalksStore keys env (table_options (formats_of choices options) options) before.store from before.tables sequence moves given result to left)
        → EngineWalks env choices before from at moves given result (record before { options = record before.options { cmp = cmp }; tables = left }) to
    walk_serves_in cmp same sequence reads_at to left given result walks =
        subst (λ (c : C). EngineWalks env choices before from at moves given result (record before { options = record before.options { cmp = c }; tables = left }) to) (sym same)
        (walk_serves sequence reads_at to left given result (subst (λ (c : C).
        let options : OptionsOf C FP B = record before.options { cmp = c } in
        WalksStore keys env (table_options (formats_of choices options) options) before.store from before.tables sequence moves given result to left) same walks))
