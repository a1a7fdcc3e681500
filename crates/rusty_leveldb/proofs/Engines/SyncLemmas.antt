-- What a sync of an open store's log leaves, as a step of the machine: a flush, or the first part
-- of a close.
use Rattle.std.specs.Str.{bytes_eq}
use Rattle.std.specs.Cmp.Lexicographic.{bytes_decides}
use Rattle.std.proofs.Common.{◌≡◌, ◌≢◌, ◌≤◌, ◌+◌, ◌-◌, ◌^◌, ◌⊎◌, ◌∙◌, ⊎_elim, inl, inr, ℕ, Bool, true, false, List, length, refl, sym, ap, subst, arith, Some, None, Ok, Err, IsTrue}
use Rattle.std.specs.declared.cmp.Ordering.{Ordering}
use Rattle.leveldb_base.specs.Error.{IsOutOfMemory, text_of}
use Rattle.leveldb_base.specs.History.{History, count_of, entries_of, greatest, with_batch}
use Rattle.leveldb_base.specs.declared.error.Status.{Status}
use Rattle.leveldb_base.specs.declared.types.FileType.{FileType}
use Rattle.leveldb_base.specs.declared.types.FileType.TheVariants.{DBLock, Descriptor, Log, Table, Temp}
use Rattle.leveldb_env.specs.Env.{Files, Observed, Run, SameBut, synced}
use Rattle.leveldb_env.specs.Options.{Boxed, OptionsOf}
use Rattle.leveldb_env.specs.declared.env.Env.{Ghosts}
use Rattle.leveldb_env.proofs.EnvLemmas.{SameBut-synced, bytes_eq-apart}
use Rattle.leveldb_mem.specs.Log.Writer.{WriterState, broken_writer}
use Rattle.leveldb_files.specs.Stores.Paths.{IsFilePath, lock_path, log_path}
use Rattle.leveldb_files.specs.Steps.StoreSteps.{AppendedAreBytes}
use Rattle.leveldb_version_set.specs.Sets.VersionSetValue.{VersionSetValue}
use Rattle.leveldb_version.proofs.Tables.TableCacheLemmas.{ClosesTables-refl}
use Rattle.leveldb_version.specs.Tables.TableCache.{table_options}
use Rattle.leveldb_store.proofs.Keeping.GivenTablesLemmas.{given_same, same_beside}
use Rattle.leveldb_store.proofs.Keeping.OpenTablesLemmas.{stay_open}
use Rattle.leveldb_store.proofs.Keeping.TableKeepsLemmas.{is_log_path, types_apart}
use Rattle.leveldb_files.specs.Stores.Format.{Format, Meaning}
use Rattle.leveldb_store.specs.Keeping.OpenStore.{OpenStoreValue}
use Rattle.leveldb_store.specs.Keeping.OpenTables.{AreOpenTablesOf}
use Rattle.leveldb_store.specs.Keeping.SoundCall.{IsSoundCall, any_meaning}
use Rattle.leveldb_store.specs.Writing.Write.{IsLogLost, SyncsLog, open_log_path, with_writer}
use Rattle.leveldb_store.specs.Writing.WriteBatch.{HoldsBatches, IsOf, LeavesHistory, MakesDurable, SyncsBatches}
use Rattle.leveldb_store.specs.Keeping.Written.{IsData, IsWritten, HasView}
use Rattle.rusty_leveldb.specs.Engines.Boxes.{EngineOf, InternalOrder}
use Rattle.rusty_leveldb.specs.Machines.Causes.{Cause, IsCausedBy, ReachesDevice, Setting, TakesMemory, device_failed, out_of_memory}
use Rattle.rusty_leveldb.specs.Engines.Engine.{HasOwnTables, Recalls, engine_options, scene, tables_by}
use Rattle.rusty_leveldb.specs.Engines.Frame.{IsLogType, MayTouch, SameBytes, Spares, Touches}
use Rattle.rusty_leveldb.specs.Machines.Machine.{Breaks, LeavesRefused, MayBreak, Refuses, Responds, Risk, Step, risk_of}
use Rattle.rusty_leveldb.specs.Engines.Serves.{TakesStep, IsSpared, Represents, refusal_of, setting_between}
use Rattle.rusty_leveldb.specs.Machines.State as machine
use Rattle.rusty_leveldb.specs.Machines.State.{Answer, Request, State, open_mode, refused}
use Rattle.rusty_leveldb.proofs.Engines.EngineLemmas.{Ends, SameSnapshots, Stays, goes, is_of, machine_spares, none, not_closed, same_format, state_open, views_kept}
use Rattle.rusty_leveldb.proofs.Engines.Others.{bytes_same, bytes_synced}
use Rattle.rusty_leveldb.proofs.Engines.ReadsLemmas.{may_stay}

-- ---- files

-- the log to which batches are appended, by its path in the store's folder
pub log_is_there : {C : Type 0} (cmp : List ℕ → List ℕ → Ordering) (meaning : Meaning)
    (value : OpenStoreValue C)
    (files : Files) → IsWritten cmp meaning value files → files (open_log_path value) ≢ None
log_is_there cmp meaning value files written gone =
    let log = written.by.writable.log in
    let there : files (open_log_path value) ≡ Some log.file =
    subst (λ n. files (log_path value.set.store n) ≡ Some log.file) written.by.log_is log.there in
    let never : None ≡ Some log.file = sym gone ∙ there in cc

pub log_is_own : {C : Type 0} (cmp : List ℕ → List ℕ → Ordering) (meaning : Meaning)
    (value : OpenStoreValue C)
    (files : Files) → IsWritten cmp meaning value files
    → IsFilePath Log value.set.store (open_log_path value)
log_is_own cmp meaning value files written =
    let log = written.by.writable.log in
    subst (λ n. IsFilePath Log value.set.store (log_path value.set.store n)) written.by.log_is
    (is_log_path value.set.store log.number log.fits)

lock_is : (store : List ℕ) → IsFilePath DBLock store (lock_path store)
lock_is store = (_, 0, (refl, refl), refl)

-- the lock's file is no log, table, manifest or temporary file
pub lock_is_no_data : (store : List ℕ) (kind : FileType) → IsData kind
    → IsFilePath kind store (lock_path store) → ⊥
lock_is_no_data store kind is_data path = by kind is_data path
  where
    apart : (k : FileType) → (k ≢ DBLock) → IsFilePath k store (lock_path store) → ⊥
    apart k differs p =
        let e = types_apart store (lock_path store) (lock_path store) k DBLock p (lock_is store)
        differs in
        let same : bytes_eq (lock_path store) (lock_path store) ≡ true =
        (bytes_decides (lock_path store) (lock_path store)).1 refl in
        let never : true ≡ false = sym same ∙ e in cc

    by : (k : FileType) → IsData k → IsFilePath k store (lock_path store) → ⊥
    by Log d p = apart Log (λ e. let never : Log ≡ DBLock = e in cc) p
    by Table d p = apart Table (λ e. let never : Table ≡ DBLock = e in cc) p
    by Descriptor d p = apart Descriptor (λ e. let never : Descriptor ≡ DBLock = e in cc) p
    by Temp d p = apart Temp (λ e. let never : Temp ≡ DBLock = e in cc) p
    by k d p = absurd d

log_is_no_table : Log ≢ Table
log_is_no_table is = let never : Log ≡ Table = is in cc

pub log_is_data : (kind : FileType) → IsLogType kind → IsData kind
log_is_data Log t = t
log_is_data kind t = absurd t

-- ---- a call on an engine that is open

module _ {E C FP F : Type 0} {B : Boxed} {keys : InternalOrder C} (env : Ghosts E F)
    (formats : OptionsOf C FP B → Format)
    (store : List ℕ) (meaning : Meaning) (before : EngineOf E C FP F B) (from : E)
    (old : State)
    (was : Represents store meaning (Recalls keys env formats store meaning) (Some before)
    (env.observed from).disk old) (opened : before.mode ≡ machine.open_mode) where
  -- what is at risk where no batch is
  abbrev pub risk_now : Risk
  risk_now = record { history = old.history; bound = old.last + 0; opening = None }

  -- the same with what is pending, which is nothing
  pub with_none : (mid to : Observed) → Run (IsSpared store meaning old risk_now) mid to
      → Run (IsSpared store meaning old (record {
        history = with_batch old.history old.pending;
        bound = old.last + count_of old.pending;
        opening = None;
      })) mid to
  with_none mid to run = subst (λ p. Run (IsSpared store meaning old (record {
    history = with_batch old.history p;
    bound = old.last + count_of p;
    opening = None;
  })) mid to) (sym (none env formats store meaning before from old was opened)) run

  -- What a call spares that changes no file but those that its request may touch, of data.
  pub spares_data : (to : E) (request : Request)
      → ((kind : FileType) → Touches open_mode request kind → IsData kind)
      → ((path : List ℕ) → (MayTouch store open_mode request path → ⊥)
      → (env.observed to).disk.files path ≡ (env.observed from).disk.files path)
      → ((path : List ℕ) → path ≢ lock_path store
      → (env.observed to).disk.locked path ≡ (env.observed from).disk.locked path)
      → Spares store (MayTouch store old.mode request) (env.observed from).disk
      (env.observed to).disk
  spares_data to request of_data same locks =
      subst (λ m. Spares store (MayTouch store m request) (env.observed from).disk
      (env.observed to).disk)
      (sym (state_open env formats store meaning before from old was opened))
      (record {
        files = same;
        lock_file = inl (same (lock_path store) (λ may.
            lock_is_no_data store may.0 (of_data may.0 may.1) may.2));
        locks = locks;
      })

  -- the log is one of the store's
  pub log_touched : IsFilePath Log store (open_log_path before.store)
  log_touched = subst (λ path. IsFilePath Log path (open_log_path before.store))
      was.memory_is.path
      (log_is_own old.format.order meaning before.store (env.observed from).disk.files
      (was.memory_is.writes (state_open env formats store meaning before from old was opened)))

  pub spares_log : (to : E) (request : Request)
      → ((kind : FileType) → Touches open_mode request kind → IsData kind)
      → Touches open_mode request Log
      → SameBut (open_log_path before.store) (env.observed from).disk.files
      (env.observed to).disk.files
      → ((path : List ℕ) → path ≢ lock_path store
      → (env.observed to).disk.locked path ≡ (env.observed from).disk.locked path)
      → Spares store (MayTouch store old.mode request) (env.observed from).disk
      (env.observed to).disk
  spares_log to request of_data touches but locks = spares_data to request of_data
      (λ path foreign. but path (bytes_eq-apart (open_log_path before.store) path
      (λ e. foreign (Log, touches, subst (IsFilePath Log store) e log_touched)))) locks

  -- where only the log changes, the open tables are those of the store still
  pub tables_logged : (value : OpenStoreValue C) (m : machine.Mode) (to : Files)
      → value.set ≡ before.store.set → value.cmp ≡ before.store.cmp
      → SameBut (open_log_path before.store) (env.observed from).disk.files to
      → HasOwnTables keys env formats (record before { store = value; mode = m }) to
  tables_logged value m to set cmp but =
      let here = (env.observed from).disk.files in
      let held = was.memory_is.tables
      (not_closed env formats store meaning before from old was opened) in
      let is_log = log_is_own old.format.order meaning before.store here
      (was.memory_is.writes (state_open env formats store meaning before from old was opened)) in
      let keeps = given_same before.store.set here to (same_beside before.store.set
      (open_log_path before.store) Log is_log log_is_no_table here to but) in
      subst (λ (s : VersionSetValue). AreOpenTablesOf keys env
      (tables_by formats (record before { store = value; mode = m })) s to before.tables) (sym set)
      (subst (λ (c : C). let options : OptionsOf C FP B = record before.options { cmp = c } in
      AreOpenTablesOf keys env (table_options (formats options) options) before.store.set to
      before.tables) (sym cmp) (stay_open env (tables_by formats before) before.store.set
      before.store.set refl (omega arith) here to keeps before.tables before.tables
      (ClosesTables-refl before.tables) held))

  -- ---- a sync that is done

  module _ (value : OpenStoreValue C) (mid : E) (modelled : IsTrue env.models_disk)
      (syncs : SyncsLog env before.store from (Ok tt) value mid)
      (batches : SyncsBatches env (formats (engine_options before)).order before.store from (Ok tt) value
      mid) where
    -- all is durable
    pub durable : MakesDurable old.format.order meaning (Stays old) before.store (env.observed from)
        old.history old.durable value (env.observed mid)
    durable =
        let in_order = subst (λ (f : Format).
        SyncsBatches env f.order before.store from (Ok tt) value mid)
        (same_format env formats store meaning before from old was opened) batches in
        in_order.ok modelled meaning (may_stay None old.store) old.history old.durable
        (is_of env formats store meaning before from old was opened)

    pub synced_files : (env.observed mid).disk.files
        ≡ synced (open_log_path before.store) (env.observed from).disk.files
    synced_files = (syncs.does modelled).ok modelled

    pub synced_but : SameBut (open_log_path before.store) (env.observed from).disk.files
        (env.observed mid).disk.files
    synced_but = SameBut-synced (open_log_path before.store) (env.observed from).disk.files
        (env.observed mid).disk.files (inr synced_files)

    pub synced_bytes : SameBytes (env.observed from).disk.files (env.observed mid).disk.files
    synced_bytes = bytes_synced (open_log_path before.store) (env.observed from).disk.files
        (env.observed mid).disk.files synced_files

    pub synced_last : value.set.last_sequence ≡ old.last
    synced_last = ap (λ (v : OpenStoreValue C). v.set.last_sequence) syncs.ok
        ∙ was.memory_is.last (not_closed env formats store meaning before from old was opened)

    pub synced_run : Run (IsSpared store meaning old risk_now) (env.observed from) (env.observed mid)
    synced_run = machine_spares env formats store meaning before from old was opened value
        (ap (λ (v : OpenStoreValue C). v.set.store) syncs.ok) old.history old.last None
        (env.observed from) (env.observed mid) synced_last durable.moments

  -- what an engine is whose log was synced, in a state in which all is durable
  pub ends_durable : (value : OpenStoreValue C) (m : machine.Mode) (mid to : E) (new : State)
      → IsTrue env.models_disk
      → (syncs : SyncsLog env before.store from (Ok tt) value mid)
      → MakesDurable old.format.order meaning (Stays old) before.store (env.observed from) old.history
      old.durable value (env.observed mid)
      → (env.observed to).disk.files ≡ (env.observed mid).disk.files
      → AppendedAreBytes (env.observed mid).disk.files
      → SameSnapshots env formats store meaning before from old was opened new
      → new.store ≡ old.store → new.format ≡ old.format → new.history ≡ old.history
      → new.last ≡ old.last → new.durable ≡ length old.history → new.pending ≡ None
      → m ≡ new.mode
      → (env.observed to).disk.locked (lock_path store) ≡ new.locked
      → Ends env formats store meaning before from old was opened
      (record before { store = value; mode = m }) to new
  ends_durable value m mid to new modelled syncs durable same bytes snapshots store_is format_is
      history_is last_is durable_is pending_is mode_is locked_is =
      let there = subst (λ (files : Files). IsOf old.format.order meaning (Stays old) value files
      old.history (length old.history)) (sym same) durable.is_of in
      record {
        lock = refl;
        options = ap (λ (v : OpenStoreValue C).
            formats (record before.options { cmp = v.cmp })) syncs.ok;
        path = ap (λ (v : OpenStoreValue C). v.set.store) syncs.ok;
        store_is = store_is;
        format_is = format_is;
        mode = mode_is;
        last = ap (λ (v : OpenStoreValue C). v.set.last_sequence) syncs.ok
            ∙ was.memory_is.last (not_closed env formats store meaning before from old was opened)
            ∙ sym last_is;
        views = views_kept env formats store meaning before from old was opened value
            (env.observed to).disk.files new snapshots format_is
            (let same_end = ap (λ (h : History). greatest (entries_of h)) history_is in
            omega (arith, same_end))
            (λ since s. subst (λ h. HasView old.format.order meaning value
            (env.observed to).disk.files h since) (sym history_is)
            (subst (λ (files : Files). HasView old.format.order meaning value files old.history since)
            (sym same) (durable.shows since s)));
        snapshots = refl;
        same_snapshots = snapshots;
        tables = tables_logged value m (env.observed to).disk.files
            (ap (λ (v : OpenStoreValue C). v.set) syncs.ok)
            (ap (λ (v : OpenStoreValue C). v.cmp) syncs.ok)
            (subst (λ files. SameBut (open_log_path before.store)
            (env.observed from).disk.files files) (sym same) (SameBut-synced
            (open_log_path before.store) (env.observed from).disk.files
            (env.observed mid).disk.files (inr ((syncs.does modelled).ok modelled))));
        writes = λ is. there.written;
        holds = subst (λ h. HoldsBatches old.format.order meaning (Stays old) value
            (env.observed to).disk.files h new.durable new.pending) (sym history_is)
            (subst (λ d. HoldsBatches old.format.order meaning (Stays old) value
            (env.observed to).disk.files old.history d new.pending) (sym durable_is)
            (subst (λ p. HoldsBatches old.format.order meaning (Stays old) value
            (env.observed to).disk.files old.history (length old.history) p) (sym pending_is)
            there.holds));
        bytes = subst AppendedAreBytes (sym same) bytes;
        locked = locked_is;
      }

  -- ---- a sync that fails

  -- why it failed: out of memory, or the device did, and either may break the store
  pub sync_cause : (request : Request) (value : OpenStoreValue C) (mid : E) (status : Status)
      → IsTrue env.models_disk → SyncsLog env before.store from (Err status) value mid
      → TakesMemory request → ReachesDevice request
      → (later : ℕ) → env.failures mid ≤ later
      → (IsOutOfMemory status × IsCausedBy (setting_between meaning (env.failures from) later) old request
      (refusal_of status) out_of_memory)
      ⊎ IsCausedBy (setting_between meaning (env.failures from) later) old request (refusal_of status)
      device_failed
  sync_cause request value mid status modelled syncs takes reaches later most =
      ⊎_elim excused (λ counted. inr (
        reaches,
        ⊎_elim
            (λ (more : env.failures mid ≡ env.failures from + 1). inl (omega (arith, more, most)))
            (λ (full : (env.failures from ≡ 2 ^ 64 - 1) × (env.failures mid ≡ env.failures from)).
            inr full.0) counted,
      )) syncs.cause.cause
    where
      setting : Setting
      setting = setting_between meaning (env.failures from) later

      excused : IsLogLost env before.store from mid status
          → (IsOutOfMemory status × IsCausedBy setting old request (refusal_of status) out_of_memory)
          ⊎ IsCausedBy setting old request (refusal_of status) device_failed
      excused (inl (inl memory)) = inl (memory, (takes, memory.0, ap text_of memory.1))
      excused (inl (inr missing)) = absurd (log_is_there old.format.order meaning before.store
          (env.observed from).disk.files (was.memory_is.writes
          (state_open env formats store meaning before from old was opened)) (missing.1 modelled))
      excused (inr broke) = absurd (let never : true ≡ false = sym broke.0
          ∙ ap (λ (w : WriterState). w.broken) (was.memory_is.writes
          (state_open env formats store meaning before from old was opened)).writer in cc)

  -- the set stays
  pub sync_set : (value : OpenStoreValue C) (mid : E) (status : Status)
      → SyncsLog env before.store from (Err status) value mid
      → (value.set ≡ before.store.set) × (value.cmp ≡ before.store.cmp)
  sync_set value mid status syncs = ⊎_elim
      (λ (still : IsOutOfMemory status × (value ≡ before.store) × (mid ≡ from)). (
        ap (λ (v : OpenStoreValue C). v.set) still.1,
        ap (λ (v : OpenStoreValue C). v.cmp) still.1,
      ))
      (λ (broke : value ≡ with_writer before.store (broken_writer before.store.log.writer)). (
        ap (λ (v : OpenStoreValue C). v.set) broke,
        ap (λ (v : OpenStoreValue C). v.cmp) broke,
      )) syncs.err

  module _ (value : OpenStoreValue C) (mid : E) (status : Status) (modelled : IsTrue env.models_disk)
      (syncs : SyncsLog env before.store from (Err status) value mid)
      (batches : SyncsBatches env (formats (engine_options before)).order before.store from (Err status)
      value mid)
      (sound : IsSoundCall {T = Unit {0}} env (formats (engine_options before)).order any_meaning before.store from
      (Err status) value mid) where
    left : LeavesHistory old.format.order meaning (Stays old) before.store (env.observed from)
        old.history old.durable None value (env.observed mid)
    left =
        let in_order = subst (λ (f : Format).
        SyncsBatches env f.order before.store from (Err status) value mid)
        (same_format env formats store meaning before from old was opened) batches in
        in_order.err modelled meaning (may_stay None old.store) old.history old.durable
        (is_of env formats store meaning before from old was opened)

    -- broken, with nothing pending
    abbrev pub broke_now : State
    broke_now = record old { pending = None; mode = machine.broken }

    pub ends_broken : (m : machine.Mode) → m ≡ machine.broken
        → Ends env formats store meaning before from old was opened
        (record before { store = value; mode = m }) mid broke_now
    ends_broken m mode_is = record {
      lock = refl;
      options = ap (λ (c : C). formats (record before.options { cmp = c }))
          (sync_set value mid status syncs).1;
      path = ap (λ (v : VersionSetValue). v.store) (sync_set value mid status syncs).0;
      store_is = refl;
      format_is = refl;
      mode = mode_is;
      last = ap (λ (v : VersionSetValue). v.last_sequence) (sync_set value mid status syncs).0
          ∙ was.memory_is.last (not_closed env formats store meaning before from old was opened);
      views = views_kept env formats store meaning before from old was opened value
          (env.observed mid).disk.files broke_now (λ in_use. (refl, refl)) refl (omega arith)
          left.shows;
      snapshots = refl;
      same_snapshots = λ in_use. (refl, refl);
      tables = tables_logged value m (env.observed mid).disk.files
          (sync_set value mid status syncs).0 (sync_set value mid status syncs).1
          (λ path differs. ap (λ (f : Files). f path) (syncs.undone modelled));
      writes = λ is. absurd (let never : machine.broken ≡ open_mode = is in cc);
      holds = left.holds;
      bytes = sound.bytes modelled was.disk_is.bytes;
      locked = ap (λ (l : List ℕ → Bool). l (lock_path store)) (syncs.locks modelled)
          ∙ was.disk_is.locked;
    }

    pub failed_run : Run (IsSpared store meaning old risk_now) (env.observed from) (env.observed mid)
    failed_run = machine_spares env formats store meaning before from old was opened before.store refl
        old.history old.last None (env.observed from) (env.observed mid)
        (was.memory_is.last (not_closed env formats store meaning before from old was opened))
        left.moments

    pub failed_but : SameBut (open_log_path before.store) (env.observed from).disk.files
        (env.observed mid).disk.files
    failed_but path differs = ap (λ (f : Files). f path) (syncs.undone modelled)

    -- a request that breaks the store
    pub goes_broken : (request : Request) (m : machine.Mode) → TakesMemory request
        → ReachesDevice request
        → ((kind : FileType) → Touches open_mode request kind → IsData kind)
        → Touches open_mode request Log
        → m ≡ machine.broken
        → ((cause : Cause) → MayBreak cause → Breaks old None broke_now
        → LeavesRefused (setting_between meaning (env.failures from) (env.failures mid)) old request
        (refusal_of status) cause broke_now)
        → ((answer : Answer) → Responds (setting_between meaning (env.failures from)
        (env.failures mid)) old request answer broke_now
        → Step open_mode (setting_between meaning (env.failures from) (env.failures mid)) old request
        answer broke_now)
        → risk_of request old broke_now ≡ risk_now
        → TakesStep store meaning (Recalls keys env formats store meaning) (scene env (Some before) from)
        request
        (refused (refusal_of status)) (scene env (Some (record before { store = value; mode = m })) mid)
        old
    goes_broken request m takes reaches of_data touches mode_is leaves steps risk_is =
        goes env formats store meaning before from old was opened
        (record before { store = value; mode = m }) mid broke_now (ends_broken m mode_is) request
        (refused (refusal_of status)) syncs.cause.later
        (subst (λ x. Step x setting old request (refused (refusal_of status)) broke_now)
        (sym (state_open env formats store meaning before from old was opened))
        (steps (refused (refusal_of status)) refuses))
        (subst (λ r. Run (IsSpared store meaning old r) (env.observed from) (env.observed mid))
        (sym risk_is) failed_run)
        (spares_log mid request of_data touches failed_but
        (λ path differs. ap (λ (l : List ℕ → Bool). l path) (syncs.locks modelled)))
        (λ syncing. bytes_same (env.observed from).disk.files (env.observed mid).disk.files
        (syncs.undone modelled))
      where
        setting : Setting
        setting = setting_between meaning (env.failures from) (env.failures mid)

        breaks : Breaks old None broke_now
        breaks = record { state = refl; durable = inl refl }

        refuses : Refuses setting old request (refusal_of status) broke_now
        refuses = ⊎_elim
            (λ (memory : IsOutOfMemory status
            × IsCausedBy setting old request (refusal_of status) out_of_memory). record {
              cause = out_of_memory;
              comes = memory.1;
              leaves = leaves out_of_memory tt breaks;
            })
            (λ (device : IsCausedBy setting old request (refusal_of status) device_failed). record {
              cause = device_failed;
              comes = device;
              leaves = leaves device_failed tt breaks;
            })
            (sync_cause request value mid status modelled syncs takes reaches (env.failures mid)
            (omega arith))
