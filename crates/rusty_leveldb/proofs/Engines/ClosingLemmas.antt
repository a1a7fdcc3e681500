-- The steps of the machine in which a store is flushed, closed or abandoned.
use Rattle.std.specs.Prelude.{Result, cond}
use Rattle.std.proofs.Common.{◌≡◌, ◌≢◌, ◌≤◌, ◌+◌, ◌-◌, ◌^◌, ◌⊎◌, ◌∙◌, ⊎_elim, inl, inr, ℕ, Bool, false, List, length, refl, sym, ap, subst, arith, Some, None, Ok, Err, IsTrue}
use Rattle.leveldb_base.specs.Error.{IsOutOfMemory, text_of}
use Rattle.leveldb_base.specs.declared.error.Status.{Status}
use Rattle.leveldb_env.specs.Env.{ChangesFiles, ChangesLocks, Files, FilesUnchanged, HasCause, Run, SameBut, lock_set, same}
use Rattle.leveldb_env.specs.Options.{Boxed, OptionsOf}
use Rattle.leveldb_env.specs.declared.env.Env.{Ghosts}
use Rattle.leveldb_env.proofs.EnvLemmas.{bytes_eq-apart, bytes_eq-same, call}
use Rattle.leveldb_mem.specs.Log.Writer.{broken_writer}
use Rattle.leveldb_files.specs.Histories.Holds.{Holds}
use Rattle.leveldb_files.specs.Stores.Paths.{lock_path}
use Rattle.leveldb_files.specs.Steps.StoreSteps.{AppendedAreBytes}
use Rattle.leveldb_files.specs.Stores.Format.{Format, Meaning}
use Rattle.leveldb_store.specs.Keeping.OpenStore.{IsUnbroken, OpenStoreValue}
use Rattle.leveldb_store.specs.Keeping.SoundCall.{IsSoundCall, any_meaning}
use Rattle.leveldb_store.specs.Writing.Write.{SyncsLog, open_log_path, with_writer}
use Rattle.leveldb_store.specs.Writing.WriteBatch.{MakesDurable, SyncsBatches}
use Rattle.rusty_leveldb.specs.Engines.Boxes.{EngineOf, InternalOrder}
use Rattle.rusty_leveldb.specs.Engines.EngineValue.{FollowsStore}
use Rattle.rusty_leveldb.specs.Machines.Causes.{Cause, IsCausedBy, ReachesDevice, Setting, device_failed, out_of_memory}
use Rattle.rusty_leveldb.specs.Engines.Engine.{Answers, Recalls, engine_options, scene}
use Rattle.rusty_leveldb.specs.Engines.Frame.{MayTouch, SameBytes}
use Rattle.rusty_leveldb.specs.Machines.Machine.{Breaks, LeavesRefused, MayBreak, Responds, Step, closed_state}
use Rattle.rusty_leveldb.specs.Engines.Serves.{TakesStep, IsSpared, Reads, Represents, done_or, refusal_of, setting_between}
use Rattle.rusty_leveldb.specs.Machines.State as machine
use Rattle.rusty_leveldb.specs.Machines.State.{Answer, Request, State, abandon, close, done, flush, open_mode, refused}
use Rattle.rusty_leveldb.proofs.Engines.EngineLemmas.{Stays, follows_broken, follows_open, goes, none, state_open}
use Rattle.rusty_leveldb.proofs.Machines.MachineLemmas.{step_fits}
use Rattle.rusty_leveldb.proofs.Engines.Moments.{moments_none, moments_still}
use Rattle.rusty_leveldb.proofs.Engines.Others.{spares_same, spares_still}
use Rattle.rusty_leveldb.proofs.Engines.SyncLemmas.{durable, ends_durable, goes_broken, log_is_data, risk_now, spares_log, synced_but, synced_bytes, synced_run, with_none}

-- ---- locks

pub freed : (lock : List ℕ) (locked : List ℕ → Bool) → lock_set lock false locked lock ≡ false
freed lock locked = ap (λ b. cond b false (locked lock)) (bytes_eq-same lock)

pub freed_other : (lock name : List ℕ) (locked : List ℕ → Bool) → name ≢ lock
    → lock_set lock false locked name ≡ locked name
freed_other lock name locked differs =
    ap (λ b. cond b false (locked name)) (bytes_eq-apart lock name (λ e. differs (sym e)))

-- why a lock wasn't given back
unlock_cause : (meaning : Meaning) (before mid now : ℕ) (old : State) (request : Request)
    (status : Status) → ReachesDevice request → mid ≡ before
    → HasCause {T = Unit {0}} (λ _. ⊥) mid now (Err status)
    → IsCausedBy (setting_between meaning before now) old request (refusal_of status) device_failed
unlock_cause meaning before mid now old request status reaches same_count cause = ⊎_elim
    (λ (never : ⊥). absurd never)
    (λ counted. (
      reaches,
      ⊎_elim (λ more. inl (omega arith))
          (λ full. inr (sym same_count ∙ full.0)) counted,
    ))
    cause.cause

-- an error that is counted, after calls that weren't
pub counted_error : {Excused : Status → Type 0} (before mid now : ℕ) (status : Status)
    → mid ≡ before → HasCause {T = Unit {0}} (λ _. ⊥) mid now (Err status)
    → HasCause {T = Unit {0}} (λ e. Excused e × (now ≡ before)) before now (Err status)
counted_error before mid now status same_count cause = record {
  later = omega (arith, cause.later);
  ok = tt;
  uncounted = λ excused. excused.1;
  cause = ⊎_elim (λ (never : ⊥). absurd never) (λ counted. inr
      (subst (λ n. (now ≡ n + 1) ⊎ ((n ≡ 2 ^ 64 - 1) × (now ≡ n))) same_count counted)) cause.cause;
}

-- an engine that isn't closed responds
abandons : (mode : machine.Mode) (setting : Setting) (old new : State) (answer : Answer)
    → (mode ≡ machine.closed → ⊥) → Responds setting old abandon answer new
    → Step mode setting old abandon answer new
abandons machine.open_mode setting old new answer differs responds = responds
abandons machine.broken setting old new answer differs responds = responds
abandons machine.closed setting old new answer differs responds = absurd (differs refl)

module _ {E C FP F : Type 0} {B : Boxed} {keys : InternalOrder C} (env : Ghosts E F)
    (formats : OptionsOf C FP B → Format) where
  -- ---- an engine that is open

  module _ (before : EngineOf E C FP F B) (from : E)
      (opened : before.mode ≡ machine.open_mode) where
    module _ (value : OpenStoreValue C) (mid : E) where
      -- ---- a flush

      module _ (unbroken : IsUnbroken before.store) (m : machine.Mode)
          (follows : FollowsStore m value) (store : List ℕ) (meaning : Meaning)
          (modelled : IsTrue env.models_disk) (old : State)
          (was : Represents store meaning (Recalls keys env formats store meaning)
          (Some before) (env.observed from).disk old) where
        flushed : (syncs : SyncsLog env before.store from (Ok tt) value mid)
            → SyncsBatches env (formats (engine_options before)).order before.store from (Ok tt) value mid
            → IsSoundCall {T = Unit {0}} env (formats (engine_options before)).order any_meaning before.store from
            (Ok tt) value mid
            → TakesStep store meaning (Recalls keys env formats store meaning) (scene env (Some before) from)
            flush
            done (scene env (Some (record before { store = value; mode = m })) mid) old
        flushed syncs batches sound =
            let new : State = record old { durable = length old.history } in
            let after : EngineOf E C FP F B = record before { store = value; mode = m } in
            goes env formats store meaning before from old was opened after mid new
            (ends_durable env formats store meaning before from old was opened value m mid
            mid new modelled syncs
            (durable env formats store meaning before from old was opened value mid modelled syncs
            batches) refl (sound.bytes modelled was.disk_is.bytes) (λ in_use. (refl, refl)) refl refl refl
            refl refl
            (none env formats store meaning before from old was opened)
            (follows_open m value follows
            (subst (λ (v : OpenStoreValue C). IsUnbroken v) (sym syncs.ok) unbroken)
            ∙ sym (state_open env formats store meaning before from old was opened))
            (ap (λ (l : List ℕ → Bool). l (lock_path store)) (syncs.locks modelled)
            ∙ was.disk_is.locked))
            flush done syncs.cause.later
            (subst (λ m. Step m (setting_between meaning (env.failures from) (env.failures mid)) old
            flush done new) (sym (state_open env formats store meaning before from old was opened))
            (record { operands = λ never. never; numbers = λ never. never }, record { state = refl }))
            (with_none env formats store meaning before from old was opened (env.observed from)
            (env.observed mid)
            (synced_run env formats store meaning before from old was opened value mid modelled syncs
            batches))
            (spares_log env formats store meaning before from old was opened mid flush log_is_data tt
            (synced_but env formats store meaning before from old was opened value mid modelled syncs
            batches)
            (λ path differs. ap (λ (l : List ℕ → Bool). l path) (syncs.locks modelled)))
            (λ syncing. synced_bytes env formats store meaning before from old was opened value mid
            modelled syncs batches)

        -- memory was out before the device was called
        starved : (status : Status) → IsOutOfMemory status
            → TakesStep store meaning (Recalls keys env formats store meaning) (scene env (Some before) from)
            flush (refused (refusal_of status)) (scene env (Some before) from) old
        starved status memory = record {
          new = old;
          represents = was;
          later = omega arith;
          step = subst (λ m. Step m (setting_between meaning (env.failures from) (env.failures from))
              old flush (refused (refusal_of status)) old)
              (sym (state_open env formats store meaning before from old was opened)) (record {
                cause = out_of_memory;
                comes = (tt, memory.0, ap text_of memory.1);
                leaves = inl (record { state = refl; durable = inl refl });
              });
          moments = moments_none store meaning flush old (env.observed from) was.disk_is;
          spares = spares_still store (MayTouch store old.mode flush) (env.observed from).disk;
          bytes = λ syncing path. refl;
        }

        flush_leaves : (status : Status) (new : State) (cause : Cause) → MayBreak cause
            → Breaks old None new
            → LeavesRefused (setting_between meaning (env.failures from) (env.failures mid)) old flush
            (refusal_of status) cause new
        flush_leaves status new out_of_memory may breaks = inr (tt, breaks)
        flush_leaves status new device_failed may breaks = breaks
        flush_leaves status new cause may breaks = absurd may

        unflushed : (status : Status) → SyncsLog env before.store from (Err status) value mid
            → SyncsBatches env (formats (engine_options before)).order before.store from (Err status) value
            mid
            → IsSoundCall {T = Unit {0}} env (formats (engine_options before)).order any_meaning before.store from
            (Err status) value mid
            → TakesStep store meaning (Recalls keys env formats store meaning) (scene env (Some before) from)
            flush
            (refused (refusal_of status))
            (scene env (Some (record before { store = value; mode = m })) mid) old
        unflushed status syncs batches sound = ⊎_elim
            (λ (still : IsOutOfMemory status × (value ≡ before.store) × (mid ≡ from)).
            subst (λ (x : machine.Mode). TakesStep store meaning (Recalls keys env formats store meaning)
            (scene env (Some before) from) flush (refused (refusal_of status))
            (scene env (Some (record before { store = value; mode = x })) mid) old)
            (opened ∙ sym (follows_open m value follows
            (subst (λ (v : OpenStoreValue C). IsUnbroken v) (sym still.1) unbroken)))
            (subst (λ (v : OpenStoreValue C). TakesStep store meaning (Recalls keys env formats store meaning)
            (scene env (Some before) from) flush (refused (refusal_of status))
            (scene env (Some (record before { store = v })) mid) old) (sym still.1)
            (subst (λ (at : E). TakesStep store meaning (Recalls keys env formats store meaning)
            (scene env (Some before) from) flush (refused (refusal_of status))
            (scene env (Some before) at) old) (sym still.2) (starved status still.0))))
            (λ (broke : value ≡ with_writer before.store (broken_writer before.store.log.writer)).
            goes_broken env formats store meaning before from old was opened value mid status modelled
            syncs batches sound flush m tt tt log_is_data tt (follows_broken m value follows
            (ap (λ (v : OpenStoreValue C). v.log.writer.broken) broke))
            (flush_leaves status _) (λ answer responds. responds) refl)
            syncs.err

      pub flush_goes : IsUnbroken before.store → (m : machine.Mode) → FollowsStore m value
          → (result : Result (Unit {0}) Status) → SyncsLog env before.store from result value mid
          → SyncsBatches env (formats (engine_options before)).order before.store from result value mid
          → IsSoundCall {T = Unit {0}} env (formats (engine_options before)).order any_meaning before.store from result value mid
          → Answers keys env formats (Some before) from flush (done_or result)
          (Some (record before { store = value; mode = m })) mid
      flush_goes unbroken m follows (Ok nothing) syncs batches sound store meaning modelled old was =
          flushed unbroken m follows store meaning modelled old was syncs batches sound
      flush_goes unbroken m follows (Err status) syncs batches sound store meaning modelled old was =
          unflushed unbroken m follows store meaning modelled old was status syncs batches sound

      -- ---- a close

      -- the log wasn't synced
      pub close_unsynced : (status : Status)
          → SyncsLog env before.store from (Err status) value mid
          → SyncsBatches env (formats (engine_options before)).order before.store from (Err status) value mid
          → IsSoundCall {T = Unit {0}} env (formats (engine_options before)).order any_meaning before.store from
          (Err status) value mid
          → Answers keys env formats (Some before) from close (refused (refusal_of status))
          (Some (record before { store = value; mode = machine.broken })) mid
      close_unsynced status syncs batches sound store meaning modelled old was =
          goes_broken env formats store meaning before from old was opened value mid status modelled
          syncs batches sound close machine.broken tt tt log_is_data tt refl (λ cause may breaks. breaks)
          (λ answer responds. responds) refl

      module _ (syncs : SyncsLog env before.store from (Ok tt) value mid)
          (batches : SyncsBatches env (formats (engine_options before)).order before.store from (Ok tt)
          value mid)
          (sound : IsSoundCall {T = Unit {0}} env (formats (engine_options before)).order any_meaning before.store from
          (Ok tt) value mid)
          (to : E) (lock : List ℕ) (lock_is : lock ≡ before.lock) where
        module _ (store : List ℕ) (meaning : Meaning) (modelled : IsTrue env.models_disk)
            (old : State) (was : Represents store meaning (Recalls keys env formats store meaning)
            (Some before) (env.observed from).disk old)
            (still : (env.observed to).disk.files ≡ (env.observed mid).disk.files) where
          all_durable : MakesDurable old.format.order meaning (Stays old) before.store (env.observed from)
              old.history old.durable value (env.observed mid)
          all_durable = durable env formats store meaning before from old was opened value mid modelled
              syncs batches

          same_lock : lock ≡ lock_path store
          same_lock = lock_is ∙ was.memory_is.lock

          mode : old.mode ≡ open_mode
          mode = state_open env formats store meaning before from old was opened

          bytes_now : AppendedAreBytes (env.observed mid).disk.files
          bytes_now = sound.bytes modelled was.disk_is.bytes

          but_log : SameBut (open_log_path before.store) (env.observed from).disk.files
              (env.observed to).disk.files
          but_log = subst (SameBut (open_log_path before.store) (env.observed from).disk.files)
              (sym still) (synced_but env formats store meaning before from old was opened value mid
              modelled syncs batches)

          same_bytes : SameBytes (env.observed from).disk.files (env.observed to).disk.files
          same_bytes = subst (SameBytes (env.observed from).disk.files) (sym still)
              (synced_bytes env formats store meaning before from old was opened value mid modelled
              syncs batches)

          given_back : {result : Result (Unit {0}) Status}
              → ChangesFiles env.models_disk same FilesUnchanged (env.observed mid) (env.observed to)
              result
              → Run (IsSpared store meaning old
              (risk_now env formats store meaning before from old was opened)) (env.observed from)
              (env.observed to)
          given_back does =
              let run = synced_run env formats store meaning before from old was opened value mid
              modelled syncs batches in
              call modelled run (λ files unchanged. subst (IsSpared store meaning old
              (risk_now env formats store meaning before from old was opened)) (sym unchanged) run.has)
              does

        -- the lock wasn't given back: the store is broken
        pub close_locked : (status : Status)
            → ChangesFiles {T = Unit {0}} env.models_disk same FilesUnchanged (env.observed mid)
            (env.observed to) (Err status)
            → ChangesLocks {T = Unit {0}} env.models_disk (lock_set lock false) (env.observed mid)
            (env.observed to) (Err status)
            → HasCause {T = Unit {0}} (λ _. ⊥) (env.failures mid) (env.failures to) (Err status)
            → Answers keys env formats (Some before) from close (refused (refusal_of status))
            (Some (record before { store = value; mode = machine.broken })) to
        close_locked status does relocks caused store meaning modelled old was =
            let still = does.now modelled in
            let new : State =
            record old { durable = length old.history; pending = None; mode = machine.broken } in
            let counted : env.failures mid ≡ env.failures from = syncs.cause.ok in
            goes env formats store meaning before from old was opened
            (record before { store = value; mode = machine.broken }) to new
            (ends_durable env formats store meaning before from old was opened value machine.broken mid to
            new
            modelled syncs (all_durable store meaning modelled old was still) still
            (bytes_now store meaning modelled old was still) (λ in_use. (refl, refl)) refl refl refl refl
            refl refl refl
            (ap (λ (l : List ℕ → Bool). l (lock_path store)) (relocks modelled ∙ syncs.locks modelled)
            ∙ was.disk_is.locked))
            close (refused (refusal_of status)) (omega (arith, caused.later, counted))
            (subst (λ m. Step m (setting_between meaning (env.failures from) (env.failures to)) old close
            (refused (refusal_of status)) new) (sym (mode store meaning modelled old was still))
            (record {
              cause = device_failed;
              comes = unlock_cause meaning (env.failures from) (env.failures mid) (env.failures to) old
                  close status tt counted caused;
              leaves = record { state = refl; durable = inr refl };
            }))
            (given_back store meaning modelled old was still does)
            (spares_log env formats store meaning before from old was opened to close log_is_data tt
            (but_log store meaning modelled old was still)
            (λ path differs. ap (λ (l : List ℕ → Bool). l path)
            (relocks modelled ∙ syncs.locks modelled)))
            (λ syncing. same_bytes store meaning modelled old was still)

        -- it was: the store is closed
        pub closed_now : ChangesFiles {T = Unit {0}} env.models_disk same FilesUnchanged
            (env.observed mid) (env.observed to) (Ok tt)
            → ChangesLocks {T = Unit {0}} env.models_disk (lock_set lock false) (env.observed mid)
            (env.observed to) (Ok tt)
            → HasCause {T = Unit {0}} (λ _. ⊥) (env.failures mid) (env.failures to) (Ok tt)
            → Answers keys env formats (Some before) from close done
            (Some (record before { store = value; mode = machine.closed })) to
        closed_now does relocks caused store meaning modelled old was =
            let still = does.now modelled in
            let new : State =
            record (closed_state old) { durable = length old.history; locked = false } in
            let counted : env.failures mid ≡ env.failures from = syncs.cause.ok in
            goes env formats store meaning before from old was opened
            (record before { store = value; mode = machine.closed }) to new
            (ends_durable env formats store meaning before from old was opened value machine.closed mid to
            new
            modelled syncs (all_durable store meaning modelled old was still) still
            (bytes_now store meaning modelled old was still) (λ in_use. absurd (in_use refl)) refl refl refl
            refl refl
            (none env formats store meaning before from old was opened) refl
            (ap (λ (l : List ℕ → Bool). l (lock_path store)) (relocks modelled)
            ∙ ap (λ l. lock_set l false (env.observed mid).disk.locked (lock_path store))
            (same_lock store meaning modelled old was still)
            ∙ freed (lock_path store) (env.observed mid).disk.locked))
            close done (omega (arith, caused.later, counted))
            (subst (λ m. Step m (setting_between meaning (env.failures from) (env.failures to)) old close
            done new) (sym (mode store meaning modelled old was still))
            (record { operands = λ never. never; numbers = λ never. never }, record { state = refl }))
            (with_none env formats store meaning before from old was opened (env.observed from)
            (env.observed to) (given_back store meaning modelled old was still does))
            (spares_log env formats store meaning before from old was opened to close log_is_data tt
            (but_log store meaning modelled old was still)
            (λ path differs. ap (λ (l : List ℕ → Bool). l path) (relocks modelled)
            ∙ freed_other lock path (env.observed mid).disk.locked
            (λ e. differs (e ∙ same_lock store meaning modelled old was still))
            ∙ ap (λ (l : List ℕ → Bool). l path) (syncs.locks modelled)))
            (λ syncing. same_bytes store meaning modelled old was still)

  -- ---- a store that is abandoned

  -- it was closed before
  pub abandoned_closed : (before : EngineOf E C FP F B) (at : E)
      → before.mode ≡ machine.closed
      → Answers keys env formats (Some before) at abandon done None at
  abandoned_closed before at is_closed store meaning modelled old was =
      let is : old.mode ≡ machine.closed = sym was.memory_is.mode ∙ is_closed in
      record {
        new = old;
        represents = record { disk_is = was.disk_is; memory_is = is };
        later = omega arith;
        step = subst (λ m. Step m (setting_between meaning (env.failures at) (env.failures at)) old
            abandon done old) (sym is) (refl, refl);
        moments = moments_none store meaning abandon old (env.observed at) was.disk_is;
        spares = spares_still store (MayTouch store old.mode abandon) (env.observed at).disk;
        bytes = λ never. absurd never;
      }

  module _ (before : EngineOf E C FP F B) (at now : E)
      (differs : before.mode ≡ machine.closed → ⊥) (lock : List ℕ)
      (lock_is : lock ≡ before.lock) where
    module _ (store : List ℕ) (meaning : Meaning) (modelled : IsTrue env.models_disk) (old : State)
        (was : Represents store meaning (Recalls keys env formats store meaning) (Some before)
        (env.observed at).disk old) (result : Result (Unit {0}) Status)
        (does : ChangesFiles {T = Unit {0}} env.models_disk same FilesUnchanged (env.observed at)
        (env.observed now) result) (later : env.failures at ≤ env.failures now) where
      -- closed, with its lock as said
      let_go : (locked : Bool) (answer : Answer)
          → (env.observed now).disk.locked (lock_path store) ≡ locked
          → ((path : List ℕ) → path ≢ lock_path store
          → (env.observed now).disk.locked path ≡ (env.observed at).disk.locked path)
          → Responds (setting_between meaning (env.failures at) (env.failures now)) old abandon answer
          (record (closed_state old) { locked = locked })
          → TakesStep store meaning (Recalls keys env formats store meaning) (scene env (Some before) at)
          abandon answer (scene env None now) old
      let_go locked answer locked_is others responds =
          let new : State = record (closed_state old) { locked = locked } in
          let setting = setting_between meaning (env.failures at) (env.failures now) in
          let step : Step old.mode setting old abandon answer new =
          abandons old.mode setting old new answer (λ is. differs (was.memory_is.mode ∙ is)) responds in
          record {
            new = new;
            represents = record {
              disk_is = record {
                is_state = step_fits setting old new abandon answer was.disk_is.is_state step;
                holds = subst (λ (files : Files). Holds store (Reads store meaning)
                    (λ there. there ≡ old.store) files old.history old.last old.durable old.pending)
                    (sym (does.now modelled)) was.disk_is.holds;
                bytes = subst AppendedAreBytes (sym (does.now modelled)) was.disk_is.bytes;
                locked = locked_is;
                agrees = λ never. absurd (never refl);
              };
              memory_is = refl;
            };
            later = later;
            step = step;
            moments = moments_still store meaning old modelled was.disk_is does;
            spares = spares_same store (env.observed at).disk (env.observed now).disk
                (MayTouch store old.mode abandon) (does.now modelled) others;
            bytes = λ never. absurd never;
          }

    pub abandon_answers : (result : Result (Unit {0}) Status)
        → ChangesFiles env.models_disk same FilesUnchanged (env.observed at) (env.observed now) result
        → ChangesLocks env.models_disk (lock_set lock false) (env.observed at) (env.observed now) result
        → HasCause (λ _. ⊥) (env.failures at) (env.failures now) result
        → Answers keys env formats (Some before) at abandon (done_or result) None now
    abandon_answers (Ok nothing) does relocks caused store meaning modelled old was =
        let same_lock : lock ≡ lock_path store = lock_is ∙ was.memory_is.lock in
        let_go store meaning modelled old was (Ok nothing) does caused.later false done
        (ap (λ (l : List ℕ → Bool). l (lock_path store)) (relocks modelled)
        ∙ ap (λ l. lock_set l false (env.observed at).disk.locked (lock_path store)) same_lock
        ∙ freed (lock_path store) (env.observed at).disk.locked)
        (λ path apart. ap (λ (l : List ℕ → Bool). l path) (relocks modelled)
        ∙ freed_other lock path (env.observed at).disk.locked (λ e. apart (e ∙ same_lock)))
        (record { operands = λ never. never; numbers = λ never. never }, record { state = refl })
    abandon_answers (Err status) does relocks caused store meaning modelled old was =
        let_go store meaning modelled old was (Err status) does caused.later old.locked
        (refused (refusal_of status))
        (ap (λ (l : List ℕ → Bool). l (lock_path store)) (relocks modelled) ∙ was.disk_is.locked)
        (λ path apart. ap (λ (l : List ℕ → Bool). l path) (relocks modelled))
        (record {
          cause = device_failed;
          comes = unlock_cause meaning (env.failures at) (env.failures at) (env.failures now) old abandon
              status tt refl caused;
          leaves = record { state = refl };
        })
