-- The step of the machine in which moves of a walk are made.
use Rattle.std.specs.Prelude.{[], Contains, IfErr, OnOk, Result, map}
use Rattle.std.proofs.Common.{◌≡◌, ◌≤◌, ◌∙◌, ℕ, Bool, List, refl, sym, ap, subst, arith, Option, Some, None, Ok, Err, IsTrue}
use Rattle.leveldb_base.specs.Error.{IsOutOfMemory, text_of}
use Rattle.leveldb_base.specs.History.{IsView, entries_of}
use Rattle.leveldb_base.specs.Types.{Pair}
use Rattle.leveldb_base.specs.declared.error.Status.{Status}
use Rattle.leveldb_base.specs.declared.error.StatusCode.TheVariants.{InvalidArgument}
use Rattle.leveldb_env.specs.Env.{Disk, Files}
use Rattle.leveldb_env.specs.Options.{Boxed, OptionsOf}
use Rattle.leveldb_env.specs.declared.env.Env.{Ghosts}
use Rattle.leveldb_env.proofs.EnvLemmas.{Run-mono}
use Rattle.leveldb_iter.specs.declared.moves.Move.{Move}
use Rattle.leveldb_iter.specs.declared.moves.Step.{Step as Landed}
use Rattle.leveldb_files.specs.Histories.Holds.{Holds}
use Rattle.leveldb_files.specs.Stores.Paths.{lock_path}
use Rattle.leveldb_files.specs.Steps.StoreSteps.{AppendedAreBytes}
use Rattle.leveldb_files.specs.Stores.Format.{Agrees, Format, Meaning}
use Rattle.leveldb_version.specs.declared.table_cache.TableCache.{TableCache}
use Rattle.leveldb_store.specs.Reading.Read.{HasOpenTables}
use Rattle.leveldb_store.specs.Reading.View.{IsOfNoCompressor, MakesMoves, WalksStore}
use Rattle.leveldb_store.specs.Keeping.Written.{IsWritten, HasView}
use Rattle.rusty_leveldb.specs.Engines.Boxes.{EngineOf, InternalOrder}
use Rattle.rusty_leveldb.specs.Machines.Causes.{IsNotHeld, Setting, bad_operand, out_of_memory}
use Rattle.rusty_leveldb.specs.Engines.Engine.{Answers, AnswersStill, Recalls, RefusedAsClosed, ShowsViews, held_in, engine_options, scene, tables_by, IsEngineSequence}
use Rattle.rusty_leveldb.specs.Engines.Frame.{MayTouch}
use Rattle.rusty_leveldb.specs.Machines.Machine.{IsSequenceOf, Responds, Step, risk_between}
use Rattle.rusty_leveldb.specs.Engines.Serves.{TakesStep, IsSpared, Reads, Represents, refusal_of, setting_between}
use Rattle.rusty_leveldb.specs.Machines.State as machine
use Rattle.rusty_leveldb.specs.Machines.State.{Answer, Request, Snapshot, State, refused, walk, walked}
use Rattle.rusty_leveldb.specs.Walks.Walks.{landing_of, move_of, walk_of, walked_or}
use Rattle.rusty_leveldb.proofs.Engines.Moments.{moments_none}
use Rattle.rusty_leveldb.proofs.Engines.Others.{spares_same, spares_still}
use Rattle.rusty_leveldb.proofs.Walks.WalkLemmas.{moves_are}

-- a store that isn't closed responds in either mode
walk_responds : (mode : machine.Mode) (setting : Setting) (old : State) (at : Option Snapshot) (asked : List machine.Move) (answer : Answer)
    → (mode ≡ machine.closed → ⊥) → Responds setting old (walk at asked) answer old → Step mode setting old (walk at asked) answer old
walk_responds machine.open_mode setting old at asked answer usable responds = responds
walk_responds machine.broken setting old at asked answer usable responds = responds
walk_responds machine.closed setting old at asked answer usable responds = absurd (usable refl)

module _ {E C FP F : Type 0} {B : Boxed} (keys : InternalOrder C) (env : Ghosts E F)
    (formats : OptionsOf C FP B → Format) (before : EngineOf E C FP F B)
    (at : Option Snapshot) (moves : List Move) where
  abbrev request : Request
  request = walk_of at moves

  -- ---- where nothing is read

  -- nothing has changed, and the machine responds so
  walk_still : (answer : Answer) → ((store : List ℕ) (meaning : Meaning) (disk : Disk) (old : State)
      → Recalls keys env formats store meaning before disk old → (setting : Setting)
      → Step old.mode setting old request answer old)
      → AnswersStill keys env formats before request answer
  walk_still answer steps from store meaning modelled old was = record {
    new = old;
    represents = was;
    later = omega arith;
    step = steps store meaning (env.observed from).disk old was.memory_is (setting_between meaning (env.failures from) (env.failures from));
    moments = moments_none store meaning request old (env.observed from) was.disk_is;
    spares = spares_still store (MayTouch store old.mode request) (env.observed from).disk;
    bytes = λ never. absurd never;
  }

  -- a closed store
  pub walk_closed : (status : Status) → RefusedAsClosed before.mode status → AnswersStill keys env formats before request (refused (refusal_of status))
  walk_closed status out = walk_still (refused (refusal_of status))
      (λ store meaning disk old recalls setting.
      subst (λ m. Step m setting old request (refused (refusal_of status)) old) (sym out.0 ∙ recalls.mode) (out.1, refl))

  module _ (usable : before.mode ≡ machine.closed → ⊥) where
    -- a snapshot that isn't held
    pub walk_unheld : (status : Status) → status.code ≡ InvalidArgument → IsNotHeld (held_in before) at
        → AnswersStill keys env formats before request (refused (refusal_of status))
    walk_unheld status code unheld = walk_still (refused (refusal_of status))
        (λ store meaning disk old recalls setting.
        let in_use : old.mode ≡ machine.closed → ⊥ = λ is. usable (recalls.mode ∙ is) in
        walk_responds old.mode setting old at (map move_of moves) (refused (refusal_of status)) in_use
        (record {
          cause = bad_operand;
          comes = (code, subst (λ held. IsNotHeld held at) (recalls.snapshots in_use).held unheld);
          leaves = refl;
        }))

    -- no memory
    pub walk_starved : (status : Status) → IsOutOfMemory status → AnswersStill keys env formats before request (refused (refusal_of status))
    walk_starved status out = walk_still (refused (refusal_of status))
        (λ store meaning disk old recalls setting.
        let in_use : old.mode ≡ machine.closed → ⊥ = λ is. usable (recalls.mode ∙ is) in
        walk_responds old.mode setting old at (map move_of moves) (refused (refusal_of status)) in_use
        (record { cause = out_of_memory; comes = (tt, out.0, ap text_of out.1); leaves = refl }))

    -- ---- moves of a walk

    module _ (sequence : ℕ) (reads_at : IsEngineSequence before at sequence) (from to : E) (left : TableCache E C FP F) (given : List Landed) (result : Result (Unit {0}) Status)
        (walks : WalksStore keys env (tables_by formats before) before.store from before.tables sequence moves given result to left) where
      -- the engine in the end
      abbrev after : EngineOf E C FP F B
      after = record before { options = engine_options before; tables = left }

      module _ (store : List ℕ) (meaning : Meaning) (modelled : IsTrue env.models_disk) (old : State)
          (was : Represents store meaning (Recalls keys env formats store meaning) (Some before) (env.observed from).disk old) where
        not_closed : old.mode ≡ machine.closed → ⊥
        not_closed is = usable (was.memory_is.mode ∙ is)

        same_format : formats (engine_options before) ≡ old.format
        same_format = was.memory_is.format not_closed

        agrees : Agrees (formats (engine_options before)) meaning
        agrees = subst (λ (f : Format). Agrees f meaning) (sym same_format) (was.disk_is.agrees not_closed)

        shown : ShowsViews meaning before.store (env.observed from).disk.files old
        shown = was.memory_is.shows not_closed

        shows : HasView (formats (engine_options before)).order meaning before.store (env.observed from).disk.files old.history shown.since
        shows = subst (λ (f : Format). HasView f.order meaning before.store (env.observed from).disk.files old.history shown.since) (sym same_format) shown.shows

        has_open : HasOpenTables keys env (tables_by formats before) before.store from before.tables
        has_open = record { modelled = modelled; are = was.memory_is.tables not_closed }

        same_files : (env.observed to).disk.files ≡ (env.observed from).disk.files
        same_files = (walks.kept.disk modelled).has

        same_locks : (env.observed to).disk.locked ≡ (env.observed from).disk.locked
        same_locks = walks.kept.locks modelled

        last_is : before.store.set.last_sequence ≡ old.last
        last_is = was.memory_is.last not_closed

        -- it is the number of the request, from which on the history is shown
        reads_in : (snapshot : Option Snapshot) → IsEngineSequence before snapshot sequence
            → IsSequenceOf old snapshot sequence × (IsNotHeld old.held snapshot → ⊥) × (shown.since ≤ sequence)
        reads_in None is = (
          is ∙ last_is,
          λ never. never,
          let least = shown.now in let reached = was.disk_is.is_state.reached in omega (arith, least, reached, is, last_is),
        )
        reads_in (Some one) is =
            let held : Contains old.held one = subst (λ held. Contains held one) (was.memory_is.snapshots not_closed).held is.0 in (
              (held, is.1),
              λ unheld. unheld held,
              let least = shown.held one held in omega (arith, least, is.1),
            )

        abbrev setting : Setting
        setting = setting_between meaning (env.failures from) (env.failures to)

        -- the moves of the machine, over its view
        walked_in : (pairs : List Pair) → IsView (formats (engine_options before)).order (entries_of old.history) sequence pairs
            → MakesMoves (formats (engine_options before)).order (IsOfNoCompressor (formats (engine_options before)) meaning) pairs None
            (env.failures from) moves given (env.failures to)
            → Responds setting old request (walked (map landing_of given)) old
        walked_in pairs view made =
            let read = reads_in at reads_at in
            let order_is : old.format.order ≡ (formats (engine_options before)).order = sym (ap (λ (f : Format). f.order) same_format) in
            let moves_in = subst (λ (f : Format). MakesMoves (formats (engine_options before)).order (IsOfNoCompressor f meaning) pairs None
            (env.failures from) moves given (env.failures to)) same_format made in (
              record { operands = read.1; numbers = λ never. never },
              (
                record {
                  sequence = sequence;
                  at_is = read.0;
                  pairs = pairs;
                  view = subst (λ (f : Format). IsView f.order (entries_of old.history) sequence pairs) same_format view;
                  moves_are = moves_are (formats (engine_options before)).order pairs old order_is meaning at (map move_of moves) moves given None (env.failures from) (env.failures to) moves_in;
                },
                refl,
              ),
            )

        responds_with : (r : Result (Unit {0}) Status)
            → OnOk r ((pairs : List Pair) × IsView (formats (engine_options before)).order (entries_of old.history) sequence pairs
            × MakesMoves (formats (engine_options before)).order (IsOfNoCompressor (formats (engine_options before)) meaning) pairs None
            (env.failures from) moves given (env.failures to))
            → IfErr r IsOutOfMemory → Responds setting old request (walked_or given r) old
        responds_with (Ok done) over out = walked_in over.0 over.1 over.2
        responds_with (Err status) over out = record { cause = out_of_memory; comes = (tt, out.0, ap text_of out.1); leaves = refl }

        memory_only : (r : Result (Unit {0}) Status) → IfErr r (λ e. IsOutOfMemory e × (given ≡ []) × (to ≡ from) × (left ≡ before.tables)) → IfErr r IsOutOfMemory
        memory_only (Ok done) none = tt
        memory_only (Err status) none = none.0

        responds : Responds setting old request (walked_or given result) old
        responds = responds_with result (walks.walks has_open meaning agrees old.history shown.since (reads_in at reads_at).2 shows) (memory_only result walks.none)

        walk_went : TakesStep store meaning (Recalls keys env formats store meaning) (scene env (Some before) from) request (walked_or given result)
            (scene env (Some after) to) old
        walk_went = record {
          new = old;
          represents = record {
            disk_is = record {
              is_state = was.disk_is.is_state;
              holds = subst (λ (files : Files). Holds store (Reads store meaning) (λ there. there ≡ old.store) files old.history old.last old.durable old.pending)
                  (sym same_files) was.disk_is.holds;
              bytes = subst AppendedAreBytes (sym same_files) was.disk_is.bytes;
              locked = ap (λ (l : List ℕ → Bool). l (lock_path store)) same_locks ∙ was.disk_is.locked;
              agrees = was.disk_is.agrees;
            };
            memory_is = record {
              mode = was.memory_is.mode;
              lock = was.memory_is.lock;
              path = was.memory_is.path;
              format = was.memory_is.format;
              named = was.memory_is.named;
              last = was.memory_is.last;
              shows = λ in_use. record {
                since = shown.since;
                shows = subst (λ (files : Files). HasView old.format.order meaning before.store files old.history shown.since) (sym same_files) shown.shows;
                now = shown.now;
                held = shown.held;
              };
              snapshots = was.memory_is.snapshots;
              tables = λ in_use. walks.still_open has_open;
              writes = λ is. subst (λ (files : Files). IsWritten old.format.order meaning before.store files) (sym same_files) (was.memory_is.writes is);
            };
          };
          later = walks.later;
          step = walk_responds old.mode (setting_between meaning (env.failures from) (env.failures to)) old at (map move_of moves) (walked_or given result) not_closed responds;
          moments = Run-mono (λ files is. subst (IsSpared store meaning old (risk_between old)) (sym is) was.disk_is.holds.crash) (walks.kept.disk modelled);
          spares = spares_same store (env.observed from).disk (env.observed to).disk (MayTouch store old.mode request) same_files
              (λ path apart. ap (λ (l : List ℕ → Bool). l path) same_locks);
          bytes = λ never. absurd never;
        }

      pub walk_goes : Answers keys env formats (Some before) from request (walked_or given result) (Some after) to
      walk_goes = walk_went
