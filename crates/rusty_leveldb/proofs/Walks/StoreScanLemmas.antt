-- A scan of a walk over the view of an open store is one of the store, and of its engine.
use Rattle.std.specs.Prelude.{Contains, IfErr, OnErr, OnOk, Result, take}
use Rattle.std.proofs.Common.{◌≡◌, ◌≤◌, ◌⊎◌, ◌∙◌, ⊎_elim, inl, inr, ℕ, Bool, List, [], refl, sym, ap, subst, arith, Option, Some, None, Ok, Err, IsTrue}
use Rattle.std.specs.declared.cmp.Ordering.{Ordering}
use Rattle.leveldb_base.specs.Error.{IsOutOfMemory, text_of}
use Rattle.leveldb_base.specs.History.{History, IsView, entries_of, greatest}
use Rattle.leveldb_base.specs.KeyTypes.{IsLongKey}
use Rattle.leveldb_base.specs.Types.{Pair}
use Rattle.leveldb_base.specs.declared.cmp.Cmp.{Ghosts as CmpGhosts}
use Rattle.leveldb_base.specs.declared.cmp.internal.InternalKeyCmp.{InternalKeyCmp}
use Rattle.leveldb_base.specs.declared.error.Status.{Status}
use Rattle.leveldb_base.specs.declared.error.StatusCode.TheVariants.{InvalidArgument}
use Rattle.leveldb_env.specs.Compressor.{Codings}
use Rattle.leveldb_env.specs.Env as calls
use Rattle.leveldb_env.specs.Env.{Files}
use Rattle.leveldb_env.specs.Options.{Boxed, OptionsOf}
use Rattle.leveldb_env.specs.declared.compressor.CompressorList.{CompressorList}
use Rattle.leveldb_env.specs.declared.env.Env.{Ghosts}
use Rattle.leveldb_env.specs.declared.filter.FilterPolicy.{Ghosts as FilterGhosts}
use Rattle.leveldb_env.proofs.EnvLemmas.{Run-mono}
use Rattle.leveldb_iter.specs.declared.walk.Walk.{Ghosts as WalkGhosts}
use Rattle.leveldb_files.specs.Histories.Holds.{Holds}
use Rattle.leveldb_files.specs.Stores.Format.{Agrees, Format, IsTableFault, LacksCompressor, Meaning}
use Rattle.leveldb_files.specs.Stores.Paths.{lock_path}
use Rattle.leveldb_files.specs.Steps.StoreSteps.{AppendedAreBytes}
use Rattle.leveldb_version.specs.Tables.TableCache.{TableOptions, files_at, options_by}
use Rattle.leveldb_version.specs.Walks.VersionIter.{reading}
use Rattle.leveldb_version.specs.Walks.VersionIterLaws.{reading_stays}
use Rattle.leveldb_version.specs.declared.table_cache.TableCache.{TableCache}
use Rattle.leveldb_version.specs.declared.table_cache.moves.ReadTables.{ReadTables}
use Rattle.leveldb_store.specs.Keeping.OpenStore.{OpenStoreValue}
use Rattle.leveldb_store.specs.Keeping.OpenTables.{AreOpenTablesOf}
use Rattle.leveldb_store.specs.Keeping.Written.{HasView, IsWritten}
use Rattle.leveldb_store.specs.Reading.Read.{HasOpenTables}
use Rattle.leveldb_store.specs.Reading.View.{FailsBetween, IsOfNoCompressor, IsReadingOf, IsWorldOf, ReadsAlone, ShowsIn, ViewsStore, any_in_order, options_in}
use Rattle.leveldb_store.specs.Tables.BuildTable.{TableChoices, choices_of}
use Rattle.leveldb_store.specs.Writing.Room.{FailsFor, HasFailed}
use Rattle.rusty_leveldb.specs.Engines.Boxes.{EngineOf, InternalOrder, ReaderOf}
use Rattle.rusty_leveldb.specs.Engines.Calls.{IsRefusedByMode}
use Rattle.rusty_leveldb.specs.Engines.Engine.{AnswersStill, GetExcused, IsClosed, IsEngineSequence, Recalls, RefusedAsClosed, ShowsViews, engine_options, formats_of, held_in, scene, tables_by}
use Rattle.rusty_leveldb.specs.Engines.Frame.{MayTouch}
use Rattle.rusty_leveldb.specs.Engines.Rows.{FromEachState}
use Rattle.rusty_leveldb.specs.Engines.Serves.{IsSpared, Reads, Represents, TakesStep, refusal_of, setting_between}
use Rattle.rusty_leveldb.specs.Machines.Causes.{Cause, IsCausedBy, IsNotHeld, Setting, bad_operand, device_failed, lacks_compressor, out_of_memory}
use Rattle.rusty_leveldb.specs.Machines.Machine.{IsSequenceOf, Responds, risk_between}
use Rattle.rusty_leveldb.specs.Machines.State as machine
use Rattle.rusty_leveldb.specs.Machines.State.{Snapshot, State, get, refused}
use Rattle.rusty_leveldb.specs.Openings.ReadAlone.{LookUpExcused, ReadsHistory, read_state, reader_options, reader_tables_by}
use Rattle.rusty_leveldb.specs.Walks.Scan.{ScansWalk, scan_key, scanned}
use Rattle.rusty_leveldb.specs.Walks.StoreScan.{EngineScans, ReaderScans, ScansStore, ScansView}
use Rattle.rusty_leveldb.specs.declared.scan.Scan.{Scan}
use Rattle.rusty_leveldb.proofs.Engines.Others.{spares_same}
use Rattle.rusty_leveldb.proofs.Engines.ReadingLemmas.{get_closed, get_misfit, responds_in}
use Rattle.rusty_leveldb.proofs.Openings.ReadAloneLemmas.{disk_still, reads_on, reads_still}

-- ---- a walk over the view

-- the pairs came, of this list
came_of : (result : Result (Unit {0}) Status) (Is : List Pair → Type 0) (Gives : List Pair → Type 0)
    (pairs : List Pair) → Is pairs → OnOk result (Gives pairs)
    → OnOk result ((pairs : List Pair) × Is pairs × Gives pairs)
came_of (Ok nothing) Is Gives pairs is gives = (pairs, is, gives)
came_of (Err status) Is Gives pairs is gives = tt

-- why a scan fails, by what makes a move fail
scan_fails : {E F T : Type 0} (env : Ghosts E F) (from to : E × T) (Why : Status → Type 0)
    (status : Status) → FailsBetween env from to Why status
    → (IsOutOfMemory status ⊎ Why status)
    ⊎ HasFailed (env.failures from.0) (env.failures to.0)
scan_fails env from to Why status (inl memory) = inl (inl memory)
scan_fails env from to Why status (inr (inl failed)) = inr failed
scan_fails env from to Why status (inr (inr why)) = inl (inr why)

module _ {E F C FP K W : Type 0} {keys : CmpGhosts (InternalKeyCmp C)} (env : Ghosts E F)
    (cmp : CmpGhosts C) (filters : FilterGhosts FP) (codings : K → Codings)
    (walk : WalkGhosts W E (ReadTables E C FP K F))
    (reads : ReadsAlone keys env cmp filters codings walk) (value : OpenStoreValue C)
    (sequence : ℕ) (it : W) (views : ViewsStore keys env cmp filters codings walk value sequence it)
    (from to : E) (tables left : ReadTables E C FP K F)
    (order_is : cmp.cmp tables.cmp ≡ cmp.cmp value.cmp)
    (below_is : tables.below ≡ value.set.next_file) (scan : Scan) (count : ℕ) (given : List Pair)
    (result : Result (Unit {0}) Status)
    (made : ScansWalk walk scan count given (from, tables) it result (to, left))
    (none : OnErr result (given ≡ [])) where
  abbrev by : TableOptions C FP
  by = options_in env cmp filters codings (from, tables)

  -- the tables stay borrowed
  pub reference_kept : left.cache.ghost_name ≡ tables.cache.ghost_name
  reference_kept = (reads.leaves (from, tables) (to, left) made.kept).reference

  world : HasOpenTables keys env by value from tables.cache.now
      → IsWorldOf keys env cmp filters codings value (from, tables)
  world has_open = record { order_is = order_is; below_is = below_is; has_open = has_open }

  -- why it fails, by what makes a move fail
  fails_for : (Why : Status → Type 0)
      → ((status : Status) → walk.fails (from, tables) it (to, left) status
      → FailsBetween env (from, tables) (to, left) Why status)
      → FailsFor (λ e. IsOutOfMemory e ⊎ Why e) (env.failures from) (env.failures to) result
  fails_for Why counted = record {
    later = (reads.leaves (from, tables) (to, left) made.kept).tables.later;
    cause = by_result result made.cause;
  }
    where
      by_result : (r : Result (Unit {0}) Status)
          → IfErr r (λ e. walk.fails (from, tables) it (to, left) e ⊎ IsOutOfMemory e)
          → IfErr r (λ e. (IsOutOfMemory e ⊎ Why e)
          ⊎ HasFailed (env.failures from) (env.failures to))
      by_result (Ok nothing) fails = tt
      by_result (Err status) (inr memory) = inl (inl memory)
      by_result (Err status) (inl fails) =
          scan_fails env (from, tables) (to, left) Why status (counted status fails)

  -- the scan is one of the store's view
  pub view_scanned : ScansStore keys env by value from tables.cache.now sequence scan count given
      result to left.cache.now
  view_scanned = record {
    scans = λ has_open meaning agrees history since low shows.
        let shows_in : ShowsIn keys env cmp filters codings value meaning history since (from, tables)
        = record {
          is_world = world has_open;
          agrees = agrees;
          shows = subst (λ (order : List ℕ → List ℕ → Ordering).
              HasView order meaning value (files_at env from) history since) order_is shows;
        } in
        let over = views.over (from, tables) meaning history since low shows_in in (
          subst (λ (order : List ℕ → List ℕ → Ordering). OnOk result ((pairs : List Pair)
              × IsView order (entries_of history) sequence pairs
              × (given ≡ take count (scanned order scan pairs)))) (sym order_is)
              (came_of result (λ pairs. IsView (cmp.cmp value.cmp) (entries_of history) sequence pairs)
              (λ pairs. given ≡ take count (scanned (cmp.cmp value.cmp) scan pairs)) over.0 over.1
              (made.ok (any_in_order (cmp.cmp value.cmp)) over.0
              (views.laws.over_list (from, tables) it (any_in_order (cmp.cmp value.cmp)) over.0 None
              over.2) refl)),
          fails_for (IsOfNoCompressor by.format meaning) (λ status fails.
              views.lacks (from, tables) meaning history since shows_in (to, left) status fails),
        );
    cause = fails_for (λ e. IsTableFault by.format e.code)
        (λ status fails. views.fault (from, tables) (to, left) status fails);
    none = none;
    kept = (reads.leaves (from, tables) (to, left) made.kept).tables.disk;
    still_open = λ has_open. subst (λ (options : TableOptions C FP).
        AreOpenTablesOf keys env options value.set (files_at env to) left.cache.now)
        (reading_stays (from, tables) (to, left)
        (reads.leaves (from, tables) (to, left) made.kept))
        (reads.stays value (from, tables) (to, left) made.kept (world has_open)).has_open.are;
  }

-- there is no memory for a walk
pub view_starved : {E F C FP : Type 0} {keys : CmpGhosts (InternalKeyCmp C)} (env : Ghosts E F)
    (by : TableOptions C FP) (value : OpenStoreValue C) (from : E) (tables : TableCache E C FP F)
    (sequence : ℕ) (scan : Scan) (count : ℕ) (status : Status) → IsOutOfMemory status
    → ScansStore keys env by value from tables sequence scan count [] (Err status) from tables
view_starved env by value from tables sequence scan count status memory = record {
  scans = λ has_open meaning agrees history since low shows.
      (tt, record { later = omega arith; cause = inl (inl memory) });
  cause = record { later = omega arith; cause = inl (inl memory) };
  none = refl;
  kept = disk_still env from;
  still_open = λ has_open. has_open.are;
}

-- ---- what is read with

module _ {E F C FP K : Type 0} {keys : CmpGhosts (InternalKeyCmp C)} (env : Ghosts E F)
    (cmp : CmpGhosts C) (filters : FilterGhosts FP) (codings : K → Codings)
    (value : OpenStoreValue C) (order : C) (policy : FP) (compressors : K)
    (tables : TableCache E C FP F) (it : ReadTables E C FP K F)
    (is : IsReadingOf value order policy compressors tables it) where
  -- a scan in the reading is one with these options and these tables
  pub scanned_by : (from : E) (sequence : ℕ) (scan : Scan) (count : ℕ) (given : List Pair)
      (result : Result (Unit {0}) Status) (to : E) (left now : TableCache E C FP F) → now ≡ left
      → ScansStore keys env (reading env cmp filters codings it) value from it.cache.now sequence
      scan count given result to left
      → ScansStore keys env (options_by cmp filters (codings compressors) order policy) value from
      tables sequence scan count given result to now
  scanned_by from sequence scan count given result to left now same scans =
      rw (same, sym is.cache_is, sym is.order_is, sym is.policy_is, sym is.compressors_are) scans

-- ---- an engine

module _ {E C FP F P : Type 0} {B : Boxed} {keys : InternalOrder C} {key_filters : FilterGhosts P}
    (env : Ghosts E F) (choices : OptionsOf C FP B → TableChoices keys key_filters)
    (before : EngineOf E C FP F B) (at : Option Snapshot) (scan : Scan) (count : ℕ) (from : E) where
  abbrev formats : OptionsOf C FP B → Format
  formats = formats_of choices

  -- a cause that isn't a table's
  excused_too : (Why : Status → Type 0) (status : Status)
      → GetExcused before at (scan_key scan) (λ e. ⊥) status
      → GetExcused before at (scan_key scan) Why status
  excused_too Why status (inl closed) = inl closed
  excused_too Why status (inr (inl misfit)) = inr (inl misfit)
  excused_too Why status (inr (inr (inl memory))) = inr (inr (inl memory))
  excused_too Why status (inr (inr (inr never))) = absurd never

  -- nothing is scanned, and nothing changes
  unscanned : (status : Status)
      → AnswersStill keys env formats before (get at (scan_key scan)) (refused (refusal_of status))
      → (IsClosed before.mode
      → IsRefusedByMode {T = Unit {0}} before from (Err status) before from)
      → GetExcused before at (scan_key scan) (λ e. ⊥) status
      → EngineScans env choices before from at scan count [] (Err status) before from
  unscanned status still refused_by_mode why = record {
    ok = tt;
    err = still from;
    none = refl;
    refused_by_mode = refused_by_mode;
    memory = refl;
    still = disk_still env from;
    cause = record {
      later = omega arith;
      cause = inl (excused_too (λ e. IsTableFault (formats (engine_options before)) e.code) status
          why);
    };
    way = inl (refl, refl, why);
  }

  pub scan_closed : (status : Status) → RefusedAsClosed before.mode status
      → EngineScans env choices before from at scan count [] (Err status) before from
  scan_closed status why = unscanned status
      (get_closed env formats before at (scan_key scan) status why)
      (λ closed. (refl, refl, inl why)) (inl why)

  module _ (usable : before.mode ≡ machine.closed → ⊥) where
    pub scan_misfit : (status : Status) → status.code ≡ InvalidArgument
        → IsNotHeld (held_in before) at ⊎ IsLongKey (scan_key scan)
        → EngineScans env choices before from at scan count [] (Err status) before from
    scan_misfit status code misfits = unscanned status
        (get_misfit env formats before at (scan_key scan) usable status code misfits)
        (λ closed. absurd (usable closed)) (inr (inl (code, misfits)))

    module _ (sequence : ℕ) (reads_at : IsEngineSequence before at sequence) (to : E)
        (left : TableCache E C FP F) (given : List Pair) (result : Result (Unit {0}) Status)
        (scans : ScansStore keys env (tables_by formats before) before.store from before.tables
        sequence scan count given result to left) where
      -- the engine in the end
      abbrev after : EngineOf E C FP F B
      after = record before { tables = left }

      module _ (store : List ℕ) (meaning : Meaning) (modelled : IsTrue env.models_disk)
          (old : State)
          (was : Represents store meaning (Recalls keys env formats store meaning) (Some before)
          (env.observed from).disk old) where
        not_closed : old.mode ≡ machine.closed → ⊥
        not_closed is = usable (was.memory_is.mode ∙ is)

        same_format : formats (engine_options before) ≡ old.format
        same_format = was.memory_is.format not_closed

        shown : ShowsViews meaning before.store (env.observed from).disk.files old
        shown = was.memory_is.shows not_closed

        has_open : HasOpenTables keys env (tables_by formats before) before.store from before.tables
        has_open = record { modelled = modelled; are = was.memory_is.tables not_closed }

        same_files : (env.observed to).disk.files ≡ (env.observed from).disk.files
        same_files = (scans.kept.disk modelled).has

        same_locks : (env.observed to).disk.locked ≡ (env.observed from).disk.locked
        same_locks = scans.kept.locks modelled

        last_is : before.store.set.last_sequence ≡ old.last
        last_is = was.memory_is.last not_closed

        abbrev setting : Setting
        setting = setting_between meaning (env.failures from) (env.failures to)

        -- it is the number of the request, from which on the history is shown
        reads_in : (snapshot : Option Snapshot) → IsEngineSequence before snapshot sequence
            → IsSequenceOf old snapshot sequence × (shown.since ≤ sequence)
        reads_in None is = (
          is ∙ last_is,
          let least = shown.now in let reached = was.disk_is.is_state.reached in
              omega (arith, least, reached, is, last_is),
        )
        reads_in (Some one) is =
            let held : Contains old.held one =
            subst (λ held. Contains held one) (was.memory_is.snapshots not_closed).held is.0 in (
              (held, is.1),
              let least = shown.held one held in omega (arith, least, is.1),
            )

        -- what the scan comes to in the view of the state's history
        in_view : OnOk result ((pairs : List Pair)
            × IsView old.format.order (entries_of old.history) sequence pairs
            × (given ≡ take count (scanned old.format.order scan pairs)))
            × FailsFor (λ e. IsOutOfMemory e ⊎ IsOfNoCompressor old.format meaning e)
            (env.failures from) (env.failures to) result
        in_view = subst (λ (f : Format). OnOk result ((pairs : List Pair)
            × IsView f.order (entries_of old.history) sequence pairs
            × (given ≡ take count (scanned f.order scan pairs)))
            × FailsFor (λ e. IsOutOfMemory e ⊎ IsOfNoCompressor f meaning e)
            (env.failures from) (env.failures to) result) same_format
            (scans.scans has_open meaning
            (subst (λ (f : Format). Agrees f meaning) (sym same_format)
            (was.disk_is.agrees not_closed)) old.history shown.since (reads_in at reads_at).1
            (subst (λ (f : Format). HasView f.order meaning before.store
            (env.observed from).disk.files old.history shown.since) (sym same_format) shown.shows))

        -- the state stays
        still_represents : Represents store meaning (Recalls keys env formats store meaning)
            (Some after) (env.observed to).disk old
        still_represents = record {
          disk_is = record {
            is_state = was.disk_is.is_state;
            holds = subst (λ (files : Files). Holds store (Reads store meaning)
                (λ there. there ≡ old.store) files old.history old.last old.durable old.pending)
                (sym same_files) was.disk_is.holds;
            bytes = subst AppendedAreBytes (sym same_files) was.disk_is.bytes;
            locked = ap (λ (l : List ℕ → Bool). l (lock_path store)) same_locks
                ∙ was.disk_is.locked;
            agrees = was.disk_is.agrees;
          };
          memory_is = record {
            mode = was.memory_is.mode;
            lock = was.memory_is.lock;
            path = was.memory_is.path;
            format = was.memory_is.format;
            named = was.memory_is.named;
            last = was.memory_is.last;
            shows = λ in_use. record {
              since = shown.since;
              shows = subst (λ (files : Files).
                  HasView old.format.order meaning before.store files old.history shown.since)
                  (sym same_files) shown.shows;
              now = shown.now;
              held = shown.held;
            };
            snapshots = was.memory_is.snapshots;
            tables = λ in_use. scans.still_open has_open;
            writes = λ is. subst (λ (files : Files).
                IsWritten old.format.order meaning before.store files) (sym same_files)
                (was.memory_is.writes is);
          };
        }

        -- and a crash leaves at each moment what it left before
        spared : calls.Run (IsSpared store meaning old (risk_between old)) (env.observed from)
            (env.observed to)
        spared = Run-mono (λ files is. subst (IsSpared store meaning old (risk_between old))
            (sym is) was.disk_is.holds.crash) (scans.kept.disk modelled)

        row : OnOk result ((pairs : List Pair)
            × IsView old.format.order (entries_of old.history) sequence pairs
            × (given ≡ take count (scanned old.format.order scan pairs)))
            → OnOk result (ScansView at scan count given setting old old)
        row over = by result over
          where
            by : (r : Result (Unit {0}) Status) → OnOk r ((pairs : List Pair)
                × IsView old.format.order (entries_of old.history) sequence pairs
                × (given ≡ take count (scanned old.format.order scan pairs)))
                → OnOk r (ScansView at scan count given setting old old)
            by (Ok nothing) over =
                (sequence, (reads_in at reads_at).0, over.0, over.1, over.2, refl)
            by (Err status) over = tt

        cause_of : (status : Status)
            → (IsOutOfMemory status ⊎ IsOfNoCompressor old.format meaning status)
            ⊎ HasFailed (env.failures from) (env.failures to)
            → (cause : Cause)
            × IsCausedBy setting old (get at (scan_key scan)) (refusal_of status) cause
        cause_of status (inl (inl memory)) = (out_of_memory, (tt, memory.0, ap text_of memory.1))
        cause_of status (inl (inr lacks)) = (lacks_compressor, (tt, lacks.0, lacks.1))
        cause_of status (inr failed) = (device_failed, (tt, failed))

        refused_so : (status : Status)
            → (IsOutOfMemory status ⊎ IsOfNoCompressor old.format meaning status)
            ⊎ HasFailed (env.failures from) (env.failures to)
            → TakesStep store meaning (Recalls keys env formats store meaning)
            (scene env (Some before) from) (get at (scan_key scan)) (refused (refusal_of status))
            (scene env (Some after) to) old
        refused_so status fails =
            let why = cause_of status fails in record {
              new = old;
              represents = still_represents;
              later = scans.cause.later;
              step = responds_in old.mode setting old at (scan_key scan)
                  (refused (refusal_of status)) not_closed
                  (record { cause = why.0; comes = why.1; leaves = refl });
              moments = spared;
              spares = spares_same store (env.observed from).disk (env.observed to).disk
                  (MayTouch store old.mode (get at (scan_key scan))) same_files
                  (λ path apart. ap (λ (l : List ℕ → Bool). l path) same_locks);
              bytes = λ never. absurd never;
            }

      pub scan_serves : EngineScans env choices before from at scan count given result after to
      scan_serves = record {
        ok = given_in result refl;
        err = refused_in result refl;
        none = scans.none;
        refused_by_mode = λ closed. absurd (usable closed);
        memory = refl;
        still = scans.kept;
        cause = record { later = scans.cause.later; cause = excused result scans.cause.cause };
        way = inr (sequence, reads_at, scans);
      }
        where
          given_in : (r : Result (Unit {0}) Status) → result ≡ r → OnOk r (FromEachState keys env
              formats (Some before) from (Some after) to (ScansView at scan count given))
          given_in (Ok nothing) is = λ store meaning modelled old was. (
            old,
            still_represents store meaning modelled old was,
            subst (λ r. OnOk r (ScansView at scan count given
                (setting_between meaning (env.failures from) (env.failures to)) old old)) is
                (row store meaning modelled old was (in_view store meaning modelled old was).0),
            spared store meaning modelled old was,
          )
          given_in (Err status) is = tt

          refused_in : (r : Result (Unit {0}) Status) → result ≡ r → IfErr r (λ e.
              (store : List ℕ) (meaning : Meaning) → IsTrue env.models_disk → (old : State)
              → Represents store meaning (Recalls keys env formats store meaning) (Some before)
              (env.observed from).disk old
              → TakesStep store meaning (Recalls keys env formats store meaning)
              (scene env (Some before) from) (get at (scan_key scan)) (refused (refusal_of e))
              (scene env (Some after) to) old)
          refused_in (Ok nothing) is = tt
          refused_in (Err status) is = λ store meaning modelled old was.
              refused_so store meaning modelled old was status
              (subst (λ r. IfErr r (λ e. (IsOutOfMemory e ⊎ IsOfNoCompressor old.format meaning e)
              ⊎ HasFailed (env.failures from) (env.failures to))) is
              (in_view store meaning modelled old was).1.cause)

          excused : (r : Result (Unit {0}) Status)
              → IfErr r (λ e. (IsOutOfMemory e
              ⊎ IsTableFault (formats (engine_options before)) e.code)
              ⊎ HasFailed (env.failures from) (env.failures to))
              → IfErr r (λ e. GetExcused before at (scan_key scan)
              (λ e. IsTableFault (formats (engine_options before)) e.code) e
              ⊎ HasFailed (env.failures from) (env.failures to))
          excused (Ok nothing) fails = tt
          excused (Err status) (inl (inl memory)) = inl (inr (inr (inl memory)))
          excused (Err status) (inl (inr fault)) = inl (inr (inr (inr fault)))
          excused (Err status) (inr failed) = inr failed

-- the same by what comparators, filter policies and compressors mean
module _ {E C FP F : Type 0} {B : Boxed} {keys : InternalOrder C} {key_filters : FilterGhosts FP}
    (env : Ghosts E F) (cmp : CmpGhosts C) (filters : FilterGhosts FP)
    (codings : CompressorList B.compressors B.compressor → Codings) (before : EngineOf E C FP F B)
    (at : Option Snapshot) (scan : Scan) (count : ℕ) (from : E)
    (usable : before.mode ≡ machine.closed → ⊥) (sequence : ℕ)
    (reads_at : IsEngineSequence before at sequence) (to : E) (left : TableCache E C FP F)
    (given : List Pair) (result : Result (Unit {0}) Status) where
  pub scan_serves_by : ScansStore keys env (options_by cmp filters
      (codings before.options.compressor_list) before.store.cmp before.options.filter_policy)
      before.store from before.tables sequence scan count given result to left
      → EngineScans env (choices_of cmp filters keys key_filters codings) before from at scan count
      given result (record before { tables = left }) to
  scan_serves_by scans = scan_serves env (choices_of cmp filters keys key_filters codings) before at
      scan count from usable sequence reads_at to left given result scans

-- ---- an engine that only reads

module _ {E C FP F : Type 0} {B : Boxed} {keys : InternalOrder C} (env : Ghosts E F)
    (formats : OptionsOf C FP B → Format) (before : ReaderOf E C FP F B) (scan : Scan) (count : ℕ)
    (from : E) where
  -- the key is too long
  pub read_misfit : (status : Status) → status.code ≡ InvalidArgument → IsLongKey (scan_key scan)
      → ReaderScans keys env formats before from scan count [] (Err status) before from
  read_misfit status code long = record {
    ok = λ modelled meaning history reads. tt;
    err = λ modelled meaning history reads.
        record { cause = bad_operand; comes = (code, inr long); leaves = refl };
    none = refl;
    rest = reads_still env formats before from;
    cause = record { later = omega arith; cause = inl (inl (code, long)) };
  }

  module _ (last : ℕ) (last_is : last ≡ before.store.set.last_sequence) (to : E)
      (left : TableCache E C FP F) (given : List Pair) (result : Result (Unit {0}) Status)
      (scans : ScansStore keys env (reader_tables_by formats before) before.store from
      before.tables last scan count given result to left) where
    -- the engine in the end
    abbrev read_after : ReaderOf E C FP F B
    read_after = record before { tables = left }

    module _ (modelled : IsTrue env.models_disk) (meaning : Meaning) (history : History)
        (reads : ReadsHistory keys env formats meaning before (files_at env from) history) where
      opened : HasOpenTables keys env (reader_tables_by formats before) before.store from
          before.tables
      opened = record { modelled = modelled; are = reads.tables }

      -- what the scan comes to in the view of the history
      read_view : OnOk result ((pairs : List Pair)
          × IsView (formats (reader_options before)).order (entries_of history) last pairs
          × (given ≡ take count (scanned (formats (reader_options before)).order scan pairs)))
          × FailsFor (λ e. IsOutOfMemory e
          ⊎ IsOfNoCompressor (formats (reader_options before)) meaning e)
          (env.failures from) (env.failures to) result
      read_view = scans.scans opened meaning reads.agrees history (greatest (entries_of history))
          (let reached = reads.reached in omega (arith, reached, last_is)) reads.shows

      read_cause : (status : Status)
          → (IsOutOfMemory status
          ⊎ IsOfNoCompressor (formats (reader_options before)) meaning status)
          ⊎ HasFailed (env.failures from) (env.failures to)
          → (cause : Cause) × IsCausedBy (setting_between meaning (env.failures from)
          (env.failures to)) (read_state formats before history) (get None (scan_key scan))
          (refusal_of status) cause
      read_cause status (inl (inl memory)) = (out_of_memory, (tt, memory.0, ap text_of memory.1))
      read_cause status (inl (inr lacks)) = (lacks_compressor, (tt, lacks.0, lacks.1))
      read_cause status (inr failed) = (device_failed, (tt, failed))

      read_refused : (status : Status)
          → (IsOutOfMemory status
          ⊎ IsOfNoCompressor (formats (reader_options before)) meaning status)
          ⊎ HasFailed (env.failures from) (env.failures to)
          → Responds (setting_between meaning (env.failures from) (env.failures to))
          (read_state formats before history) (get None (scan_key scan))
          (refused (refusal_of status)) (read_state formats before history)
      read_refused status fails =
          let why = read_cause status fails in record { cause = why.0; comes = why.1; leaves = refl }

      read_still : ReadsHistory keys env formats meaning read_after (files_at env to) history
      read_still = reads_on env formats before read_after refl refl (files_at env from)
          (files_at env to) (scans.kept.disk modelled).has meaning history
          (scans.still_open opened) reads

    pub read_scans : ReaderScans keys env formats before from scan count given result read_after to
    read_scans = record {
      ok = λ modelled meaning history reads. subst (λ n. OnOk result ((pairs : List Pair)
          × IsView (formats (reader_options before)).order (entries_of history) n pairs
          × (given ≡ take count (scanned (formats (reader_options before)).order scan pairs))))
          last_is (read_view modelled meaning history reads).0;
      err = refused_in result refl;
      none = scans.none;
      rest = record {
        still = scans.kept;
        keeps = λ modelled meaning history reads. read_still modelled meaning history reads;
        store = refl;
        options = refl;
      };
      cause = record { later = scans.cause.later; cause = excused result scans.cause.cause };
    }
      where
        refused_in : (r : Result (Unit {0}) Status) → result ≡ r → IfErr r (λ e.
            IsTrue env.models_disk → (meaning : Meaning) (history : History)
            → ReadsHistory keys env formats meaning before (files_at env from) history
            → Responds (setting_between meaning (env.failures from) (env.failures to))
            (read_state formats before history) (get None (scan_key scan))
            (refused (refusal_of e)) (read_state formats before history))
        refused_in (Ok nothing) is = tt
        refused_in (Err status) is = λ modelled meaning history reads.
            read_refused modelled meaning history reads status
            (subst (λ r. IfErr r (λ e. (IsOutOfMemory e
            ⊎ IsOfNoCompressor (formats (reader_options before)) meaning e)
            ⊎ HasFailed (env.failures from) (env.failures to))) is
            (read_view modelled meaning history reads).1.cause)

        excused : (r : Result (Unit {0}) Status)
            → IfErr r (λ e. (IsOutOfMemory e
            ⊎ IsTableFault (formats (reader_options before)) e.code)
            ⊎ HasFailed (env.failures from) (env.failures to))
            → IfErr r (λ e. LookUpExcused (scan_key scan)
            (λ e. IsTableFault (formats (reader_options before)) e.code) e
            ⊎ HasFailed (env.failures from) (env.failures to))
        excused (Ok nothing) fails = tt
        excused (Err status) (inl (inl memory)) = inl (inr (inl memory))
        excused (Err status) (inl (inr fault)) = inl (inr (inr fault))
        excused (Err status) (inr failed) = inr failed
