-- The step of the machine in which a key is looked up.
use Rattle.std.specs.Prelude.{Contains, IfErr, IfOk, Result}
use Rattle.std.proofs.Common.{◌≡◌, ◌≤◌, ◌+◌, ◌-◌, ◌^◌, ◌⊎◌, ◌∙◌, ⊎_elim, inl, inr, ℕ, Bool, List, refl, sym, ap, subst, arith, Option, Some, None, Ok, Err, IsTrue}
use Rattle.std.specs.declared.cmp.Ordering.{Ordering}
use Rattle.leveldb_base.specs.Error.{IsOutOfMemory, text_of}
use Rattle.leveldb_base.specs.History.{History, IsValueAt, entries_of}
use Rattle.leveldb_base.specs.declared.error.Status.{Status}
use Rattle.leveldb_base.specs.declared.error.StatusCode.TheVariants.{InvalidArgument, NotSupported}
use Rattle.leveldb_env.specs.Env.{Disk, Files}
use Rattle.leveldb_env.specs.Options.{Boxed, OptionsOf}
use Rattle.leveldb_env.specs.declared.env.Env.{Ghosts}
use Rattle.leveldb_env.proofs.EnvLemmas.{Run-mono}
use Rattle.leveldb_table.specs.TableBlock.{FailsFor as FailsForWhy}
use Rattle.leveldb_files.specs.Histories.Holds.{Holds}
use Rattle.leveldb_files.specs.Stores.Paths.{lock_path}
use Rattle.leveldb_files.specs.Steps.StoreSteps.{AppendedAreBytes}
use Rattle.leveldb_files.specs.Stores.Format.{Agrees, Format, IsTableFault, LacksCompressor, Meaning}
use Rattle.leveldb_version.specs.Tables.TableCache.{TableOptions, table_options}
use Rattle.leveldb_version.specs.Versions.Version.{VersionValue, charged}
use Rattle.leveldb_version.specs.declared.table_cache.TableCache.{TableCache}
use Rattle.leveldb_store.specs.Keeping.OpenStore.{IsUnbroken, OpenStoreValue}
use Rattle.leveldb_store.specs.Keeping.OpenTables.{AreOpenTablesOf}
use Rattle.leveldb_store.specs.Reading.Read.{GetsFromMemory, GetsFromTables, HasOpenTables, LooksUpKey, charge_of}
use Rattle.leveldb_store.specs.Writing.Room.{FailsFor, HasFailed}
use Rattle.leveldb_store.specs.Keeping.Written.{IsWritten, HasView}
use Rattle.rusty_leveldb.specs.Engines.Boxes.{EngineOf, InternalOrder}
use Rattle.leveldb_base.specs.KeyTypes.{IsLongKey}
use Rattle.rusty_leveldb.specs.Machines.Causes.{Cause, IsCausedBy, IsNotHeld, Misfits, Setting, bad_operand, device_failed, lacks_compressor, out_of_memory}
use Rattle.rusty_leveldb.specs.Engines.Engine.{Answers, AnswersStill, GetExcused, GetFails, IsEngineSequence, Recalls, RefusedAsClosed, ShowsViews, held_in, engine_options, scene, tables_by}
use Rattle.rusty_leveldb.specs.Engines.Frame.{MayTouch}
use Rattle.rusty_leveldb.specs.Machines.Machine.{IsSequenceOf, Responds, Step, risk_between}
use Rattle.rusty_leveldb.specs.Engines.Serves.{TakesStep, IsSpared, Reads, Represents, found_or, refusal_of, setting_between}
use Rattle.rusty_leveldb.specs.Machines.State as machine
use Rattle.rusty_leveldb.specs.Machines.State.{Answer, Snapshot, State, get, refused}
use Rattle.rusty_leveldb.proofs.Engines.Moments.{moments_none}
use Rattle.rusty_leveldb.proofs.Engines.Others.{spares_same, spares_still}

-- a store that isn't closed responds in either mode
pub responds_in : (mode : machine.Mode) (setting : Setting) (old : State) (snapshot : Option Snapshot)
    (key : List ℕ) (answer : Answer) → (mode ≡ machine.closed → ⊥)
    → Responds setting old (get snapshot key) answer old
    → Step mode setting old (get snapshot key) answer old
responds_in machine.open_mode setting old snapshot key answer usable responds = responds
responds_in machine.broken setting old snapshot key answer usable responds = responds
responds_in machine.closed setting old snapshot key answer usable responds = absurd (usable refl)

-- a store of which the seeks of its files have changed shows what it showed, and is written on
module _ {C : Type 0} (cmp : List ℕ → List ℕ → Ordering) (meaning : Meaning)
    (value : OpenStoreValue C) (current : VersionValue C) (files : Files) where
  pub shows_read : (history : History) (since : ℕ) → HasView cmp meaning value files history since
      → HasView cmp meaning (record value { current = current }) files history since
  shows_read history since shown = record {
    tables = shown.tables;
    has = record { files_are = shown.has.files_are; each = shown.has.each };
    shows = shown.shows;
  }

  written_read : IsWritten cmp meaning value files
      → IsWritten cmp meaning (record value { current = current }) files
  written_read written =
      record { edits = written.edits; by = written.by; writer = written.writer }

-- a look-up changes nothing of a store but the seeks of its files
module _ {E C FP F : Type 0} {keys : InternalOrder C} (env : Ghosts E F) (by : TableOptions C FP)
    (old : OpenStoreValue C) (from : E) (tables : TableCache E C FP F) (sequence : ℕ)
    (key : List ℕ) (result : Result (Option (List ℕ)) Status) (new : OpenStoreValue C) (to : E)
    (now : TableCache E C FP F)
    (looks : LooksUpKey keys env by old from tables sequence key result new to now) where
  pub only_seeks : new ≡ record old { current = new.current }
  only_seeks = ⊎_elim
      (λ (memory : GetsFromMemory keys env by old from tables sequence key result new to now).
      seeks_only old.current memory.nothing_changes.0)
      (λ (found : GetsFromTables keys env by old from tables sequence key result new to now).
      seeks_only (charged old.current (charge_of found.searched)).0 found.charges) looks.way
    where
      seeks_only : (current : VersionValue C) → new ≡ record old { current = current }
          → new ≡ record old { current = new.current }
      seeks_only current is = is ∙ ap (λ (c : VersionValue C). record old { current = c })
          (sym (ap (λ (v : OpenStoreValue C). v.current) is))

  -- so that it stays unbroken
  pub still_unbroken : IsUnbroken old → IsUnbroken new
  still_unbroken unbroken = subst (λ (v : OpenStoreValue C). IsUnbroken v) (sym only_seeks)
      (record { manifest = unbroken.manifest; log = unbroken.log })

module _ {E C FP F : Type 0} {B : Boxed} {keys : InternalOrder C} (env : Ghosts E F)
    (formats : OptionsOf C FP B → Format) (before : EngineOf E C FP F B)
    (snapshot : Option Snapshot) (key : List ℕ) where
  -- ---- where nothing is read

  -- nothing has changed, and the machine responds so
  still : (answer : Answer) → ((store : List ℕ) (meaning : Meaning) (disk : Disk) (old : State)
      → Recalls keys env formats store meaning before disk old → (setting : Setting)
      → Step old.mode setting old (get snapshot key) answer old)
      → AnswersStill keys env formats before (get snapshot key) answer
  still answer steps at store meaning modelled old was = record {
    new = old;
    represents = was;
    later = omega arith;
    step = steps store meaning (env.observed at).disk old was.memory_is
        (setting_between meaning (env.failures at) (env.failures at));
    moments = moments_none store meaning (get snapshot key) old (env.observed at) was.disk_is;
    spares = spares_still store (MayTouch store old.mode (get snapshot key)) (env.observed at).disk;
    bytes = λ never. absurd never;
  }

  -- a closed store
  pub get_closed : (status : Status) → RefusedAsClosed before.mode status
      → AnswersStill keys env formats before (get snapshot key) (refused (refusal_of status))
  get_closed status out = still (refused (refusal_of status))
      (λ store meaning disk old recalls setting.
      subst (λ m. Step m setting old (get snapshot key) (refused (refusal_of status)) old)
      (sym out.0 ∙ recalls.mode) (out.1, refl))

  module _ (usable : before.mode ≡ machine.closed → ⊥) where
    -- a snapshot that isn't held, or a key that is too long
    pub get_misfit : (status : Status) → status.code ≡ InvalidArgument
        → IsNotHeld (held_in before) snapshot ⊎ IsLongKey key
        → AnswersStill keys env formats before (get snapshot key) (refused (refusal_of status))
    get_misfit status code misfits = still (refused (refusal_of status))
        (λ store meaning disk old recalls setting.
        let in_use : old.mode ≡ machine.closed → ⊥ = λ is. usable (recalls.mode ∙ is) in
        responds_in old.mode setting old snapshot key (refused (refusal_of status)) in_use
        (record {
          cause = bad_operand;
          comes = (
            code,
            ⊎_elim (λ (unheld : IsNotHeld (held_in before) snapshot).
                inl (subst (λ held. IsNotHeld held snapshot) (recalls.snapshots in_use).held unheld))
                (λ (long : IsLongKey key). inr long) misfits,
          );
          leaves = refl;
        }))

    -- ---- a look-up

    module _ (sequence : ℕ) (reads : IsEngineSequence before snapshot sequence) (short : IsLongKey key → ⊥)
        (from to : E) (result : Result (Option (List ℕ)) Status)
        (value : OpenStoreValue C) (cache : TableCache E C FP F)
        (looks : LooksUpKey keys env (tables_by formats before) before.store from before.tables sequence
        key result value to cache) where
      -- the engine in the end
      abbrev after : EngineOf E C FP F B
      after = record before { options = engine_options before; store = value; tables = cache }

      -- of the store nothing changes but the seeks of its files
      pub read_store : value ≡ record before.store { current = value.current }
      read_store = only_seeks env (tables_by formats before) before.store from before.tables sequence
          key result value to cache looks

      -- what tables are opened with stays
      same_by : tables_by formats after ≡ tables_by formats before
      same_by = ap (λ (v : OpenStoreValue C). let options : OptionsOf C FP B =
          record before.options { cmp = v.cmp } in table_options (formats options) options) read_store

      module _ (store : List ℕ) (meaning : Meaning) (modelled : IsTrue env.models_disk)
          (old : State)
          (was : Represents store meaning (Recalls keys env formats store meaning) (Some before)
          (env.observed from).disk old) where
        not_closed : old.mode ≡ machine.closed → ⊥
        not_closed is = usable (was.memory_is.mode ∙ is)

        same_format : formats (engine_options before) ≡ old.format
        same_format = was.memory_is.format not_closed

        agrees : Agrees (formats (engine_options before)) meaning
        agrees = subst (λ (f : Format). Agrees f meaning) (sym same_format)
            (was.disk_is.agrees not_closed)

        views : ShowsViews meaning before.store (env.observed from).disk.files old
        views = was.memory_is.shows not_closed

        shows : HasView (formats (engine_options before)).order meaning before.store
            (env.observed from).disk.files old.history views.since
        shows = subst (λ (f : Format). HasView f.order meaning before.store
            (env.observed from).disk.files old.history views.since) (sym same_format) views.shows

        has_open : HasOpenTables keys env (tables_by formats before) before.store from before.tables
        has_open = record { modelled = modelled; are = was.memory_is.tables not_closed }

        same_files : (env.observed to).disk.files ≡ (env.observed from).disk.files
        same_files = (looks.reads.kept_disk.disk modelled).has

        same_locks : (env.observed to).disk.locked ≡ (env.observed from).disk.locked
        same_locks = looks.reads.kept_disk.locks modelled

        abbrev setting : Setting
        setting = setting_between meaning (env.failures from) (env.failures to)

        last_is : before.store.set.last_sequence ≡ old.last
        last_is = was.memory_is.last not_closed

        held_is : held_in before ≡ old.held
        held_is = (was.memory_is.snapshots not_closed).held

        -- it is the number of the request, from which on the history is shown
        reads_in : (at : Option Snapshot) → IsEngineSequence before at sequence
            → IsSequenceOf old at sequence × (IsNotHeld old.held at → ⊥) × (views.since ≤ sequence)
        reads_in None is = (
          is ∙ last_is,
          λ never. never,
          let least = views.now in let reached = was.disk_is.is_state.reached in
              omega (arith, least, reached, is, last_is),
        )
        reads_in (Some one) is =
            let held : Contains old.held one = subst (λ held. Contains held one) held_is is.0 in (
              (held, is.1),
              λ unheld. unheld held,
              let least = views.held one held in omega (arith, least, is.1),
            )

        reached : views.since ≤ sequence
        reached = (reads_in snapshot reads).2

        fits : Misfits old (get snapshot key) → ⊥
        fits (inl unheld) = (reads_in snapshot reads).1 unheld
        fits (inr long) = short long

        found : (value : Option (List ℕ)) → IsValueAt (entries_of old.history) sequence key value
            → Responds setting old (get snapshot key) (machine.found value) old
        found value looks_up = (
          record { operands = fits; numbers = λ never. never },
          (
            record {
              sequence = sequence;
              at_is = (reads_in snapshot reads).0;
              looks = looks_up;
            },
            refl,
          ),
        )

        lacks : FailsForWhy env (λ status. (status.code ≡ NotSupported)
            × LacksCompressor (formats (engine_options before)) meaning) from to result
        lacks = looks.lacks meaning shows.tables (record {
          agrees = agrees;
          has_open = has_open;
          has_live = shows.has;
          levels = shows.shows.levels;
        })

        cause_of : (status : Status)
            → (IsOutOfMemory status ⊎ ((env.failures to ≡ env.failures from)
            × ((status.code ≡ NotSupported)
            × LacksCompressor (formats (engine_options before)) meaning)))
            ⊎ ((env.failures to ≡ env.failures from + 1)
            ⊎ ((env.failures from ≡ 2 ^ 64 - 1) × (env.failures to ≡ env.failures from)))
            → (cause : Cause) × IsCausedBy setting old (get snapshot key) (refusal_of status) cause
        cause_of status (inl (inl memory)) = (out_of_memory, (tt, memory.0, ap text_of memory.1))
        cause_of status (inl (inr table)) = (
          lacks_compressor,
          (
            tt,
            table.1.0,
            subst (λ (f : Format). LacksCompressor f meaning) same_format table.1.1,
          ),
        )
        cause_of status (inr (inl more)) = (device_failed, (tt, inl (omega (arith, more))))
        cause_of status (inr (inr full)) = (device_failed, (tt, inr full.0))

        -- the machine stays in its state
        went : (answer : Answer) → Responds setting old (get snapshot key) answer old
            → TakesStep store meaning (Recalls keys env formats store meaning) (scene env (Some before) from)
            (get snapshot key) answer (scene env (Some after) to) old
        went answer responds = record {
          new = old;
          represents = record {
            disk_is = record {
              is_state = was.disk_is.is_state;
              holds = subst (λ (files : Files). Holds store (Reads store meaning)
                  (λ there. there ≡ old.store) files old.history old.last old.durable old.pending)
                  (sym same_files) was.disk_is.holds;
              bytes = subst AppendedAreBytes (sym same_files) was.disk_is.bytes;
              locked = ap (λ (l : List ℕ → Bool). l (lock_path store)) same_locks
                  ∙ was.disk_is.locked;
              agrees = was.disk_is.agrees;
            };
            memory_is = record {
              mode = was.memory_is.mode;
              lock = was.memory_is.lock;
              path = ap (λ (v : OpenStoreValue C). v.set.store) read_store ∙ was.memory_is.path;
              format = λ in_use. ap (λ (by : TableOptions C FP). by.format) same_by
                  ∙ was.memory_is.format in_use;
              named = was.memory_is.named;
              last = λ in_use. ap (λ (v : OpenStoreValue C). v.set.last_sequence) read_store
                  ∙ was.memory_is.last in_use;
              shows = λ in_use. record {
                since = views.since;
                shows = subst (λ (v : OpenStoreValue C).
                    HasView old.format.order meaning v (env.observed to).disk.files old.history
                    views.since) (sym read_store) (subst (λ (files : Files).
                    HasView old.format.order meaning (record before.store { current = value.current })
                    files old.history views.since) (sym same_files)
                    (shows_read old.format.order meaning before.store value.current
                    (env.observed from).disk.files old.history views.since views.shows));
                now = views.now;
                held = views.held;
              };
              snapshots = was.memory_is.snapshots;
              tables = λ in_use. subst (λ (by : TableOptions C FP).
                  AreOpenTablesOf keys env by value.set (env.observed to).disk.files cache)
                  (sym same_by) (looks.still_open has_open);
              writes = λ is. subst (λ (v : OpenStoreValue C).
                  IsWritten old.format.order meaning v (env.observed to).disk.files)
                  (sym read_store) (subst (λ (files : Files). IsWritten old.format.order meaning
                  (record before.store { current = value.current }) files)
                  (sym same_files) (written_read old.format.order meaning before.store
                  value.current (env.observed from).disk.files (was.memory_is.writes is)));
            };
          };
          later = looks.reads.cause.later;
          step = responds_in old.mode setting old snapshot key answer not_closed responds;
          moments = Run-mono (λ files is. subst (IsSpared store meaning old (risk_between old))
              (sym is) was.disk_is.holds.crash) (looks.reads.kept_disk.disk modelled);
          spares = spares_same store (env.observed from).disk (env.observed to).disk
              (MayTouch store old.mode (get snapshot key)) same_files
              (λ path apart. ap (λ (l : List ℕ → Bool). l path) same_locks);
          bytes = λ never. absurd never;
        }

      pub get_goes : Answers keys env formats (Some before) from (get snapshot key) (found_or result)
          (Some after) to
      get_goes store meaning modelled old was = by result refl
        where
          by : (r : Result (Option (List ℕ)) Status) → result ≡ r
              → TakesStep store meaning (Recalls keys env formats store meaning)
              (scene env (Some before) from) (get snapshot key) (found_or r)
              (scene env (Some after) to) old
          by (Ok value) e = went store meaning modelled old was (machine.found value)
              (found store meaning modelled old was value
              (subst (λ r. IfOk r (IsValueAt (entries_of old.history) sequence key)) e (looks.finds
              (has_open store meaning modelled old was) meaning
              (agrees store meaning modelled old was) old.history
              (views store meaning modelled old was).since
              (reached store meaning modelled old was) (shows store meaning modelled old was))))
          by (Err status) e =
              let why = cause_of store meaning modelled old was status
              (subst (λ r. IfErr r (λ e. (IsOutOfMemory e ⊎ ((env.failures to ≡ env.failures from)
              × ((e.code ≡ NotSupported)
              × LacksCompressor (formats (engine_options before)) meaning)))
              ⊎ ((env.failures to ≡ env.failures from + 1)
              ⊎ ((env.failures from ≡ 2 ^ 64 - 1) × (env.failures to ≡ env.failures from))))) e
              (lacks store meaning modelled old was).cause) in
              went store meaning modelled old was (refused (refusal_of status))
              (record { cause = why.0; comes = why.1; leaves = refl })

      -- why it failed, for a cause of its own
      fails_by : (Why : Status → Type 0) → FailsForWhy env Why from to result
          → FailsFor (GetExcused before snapshot key Why) (env.failures from) (env.failures to)
          result
      fails_by Why fails = record { later = fails.later; cause = by result fails.cause }
        where
          by : (r : Result (Option (List ℕ)) Status)
              → IfErr r (λ e. (IsOutOfMemory e ⊎ ((env.failures to ≡ env.failures from) × Why e))
              ⊎ ((env.failures to ≡ env.failures from + 1)
              ⊎ ((env.failures from ≡ 2 ^ 64 - 1) × (env.failures to ≡ env.failures from))))
              → IfErr r (λ e. GetExcused before snapshot key Why e
              ⊎ HasFailed (env.failures from) (env.failures to))
          by (Ok value) why = tt
          by (Err status) (inl (inl memory)) = inl (inr (inr (inl memory)))
          by (Err status) (inl (inr table)) = inl (inr (inr (inr table.1)))
          by (Err status) (inr (inl more)) = inr (inl (omega (arith, more)))
          by (Err status) (inr (inr full)) = inr (inr full.0)

      pub get_cause : GetFails keys env formats before from snapshot key result to
      get_cause = record {
        cause = fails_by (λ e. IsTableFault (formats (engine_options before)) e.code) looks.reads.cause;
        lacks = λ meaning live there. fails_by (λ e. (e.code ≡ NotSupported)
            × LacksCompressor (formats (engine_options before)) meaning) (looks.lacks meaning live there);
      }
