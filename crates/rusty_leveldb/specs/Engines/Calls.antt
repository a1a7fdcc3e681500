-- What each call on an engine does: one record a call, the same of an engine and of a store that
-- holds its environment. Each names the row of the machine that the call takes, Ok and Err.
use Rattle.std.specs.Prelude.{◌≡◌, ◌≤◌, ◌⊎◌, ℕ, Bool, false, List, [], Option, Some, None, Result, Ok, Err, OnOk, OnErr, IfOk, IfErr, IsErrAnd, IsTrue, MatchResult}
use Rattle.leveldb_base.specs.History.{Entry, Item}
use Rattle.leveldb_base.specs.declared.error.Status.{Status}
use Rattle.leveldb_base.specs.Error.{IsOutOfMemory}
use Rattle.leveldb_base.specs.KeyTypes.{IsLongKey}
use Rattle.leveldb_base.specs.declared.error.StatusCode.TheVariants.{InvalidArgument}
use Rattle.leveldb_env.specs.declared.env.Env.{Ghosts}
use Rattle.leveldb_env.specs.declared.filter.FilterPolicy.{Ghosts as FilterGhosts}
use Rattle.leveldb_env.specs.Env.{HasCause}
use Rattle.leveldb_env.specs.Options.{Boxed, OptionsOf}
use Rattle.leveldb_iter.specs.Moves.{IsRefusedFor}
use Rattle.leveldb_iter.specs.Snapshot.{Gives as AddsHeld, Releases as DropsHeld}
use Rattle.leveldb_iter.specs.declared.moves.Move.{Move}
use Rattle.leveldb_iter.specs.declared.moves.Step.{Step}
use Rattle.leveldb_iter.specs.declared.snapshot.Snapshot.{Snapshot as HeldSnapshot}
use Rattle.leveldb_mem.specs.MemTable.{IsUnion}
use Rattle.leveldb_store.specs.Tables.BuildTable.{TableChoices}
use Rattle.leveldb_store.specs.Compactions.Compact.{AreClearOf, deepest_overlapped}
use Rattle.leveldb_store.specs.Logs.FoundLogs.{HasLogNotKept}
use Rattle.leveldb_store.specs.Keeping.KeptBytes.{LosesNothing, SparesKept}
use Rattle.leveldb_store.specs.Keeping.KeptEntries.{CompactsMemtables}
use Rattle.leveldb_store.specs.Reading.Read.{GetsFromMemory, GetsFromTables}
use Rattle.leveldb_store.specs.Writing.Removal.{LeavesObsolete}
use Rattle.leveldb_store.specs.Writing.Room.{FailsFor, IsFull, ChangesLoggerOnly}
use Rattle.leveldb_store.specs.Keeping.SoundCall.{TimeGoesOn}
use Rattle.leveldb_store.specs.Reading.View.{MoveFails, WalksStore}
use Rattle.leveldb_store.specs.Writing.Write.{open_log_path, with_writer}
use Rattle.leveldb_store.specs.Writing.WriteBatch.{IsNotBegun, next_batch}
use Rattle.leveldb_store.specs.Keeping.Written.{KeepsGivenTables}
use Rattle.leveldb_files.specs.Stores.Batches.{Each}
use Rattle.leveldb_files.specs.Stores.Format.{Format, IsTableFault, Meaning, Agrees}
use Rattle.leveldb_files.specs.Levels.Overlap.{named_range}
use Rattle.rusty_leveldb.specs.Machines.Causes.{IsLongBatch}
use Rattle.rusty_leveldb.specs.Machines.State.{Opening, Request, Snapshot, State, open_mode, open_store, write, get, get_snapshot, release_snapshot, flush, compact_range, close, abandon}
use Rattle.rusty_leveldb.specs.Engines.Serves.{AreReadAs, done_or, found_or, given_engine, snapshot_of, snapshot_or}
use Rattle.rusty_leveldb.specs.Engines.Engine.{IsClosed, IsBroken, IsClosedOrBroken, IsEngineSequence, RefusedByMode, AnswersAs, Answers, WriteExcused, SyncExcused, CloseExcused, CompactExcused, GetExcused, GetFails, SnapshotExcused, ReleaseExcused, WalkExcused, IsStoreName, IsOpening, HasOwnLock, WriteMovesLookedAt, formats_of, holds_lock, engine_options, has_compaction_due, tables_by}
use Rattle.rusty_leveldb.specs.Engines.Frame.{IsOwn, IsSyncing, KeepsAside, MayTouchOrLog, SameBytes, Spares}
use Rattle.rusty_leveldb.specs.Machines.Machine.{AllDurable, Closes, Gives, Keeps, Opens, Releases, Writes, risk_of}
use Rattle.rusty_leveldb.specs.Engines.Tidy.{TidiesOrKeeps}
use Rattle.rusty_leveldb.specs.Engines.Room.{EngineMakesRoom, LogsIfDue, LogsRoom, KeepsOrCompacts, entries_added}
use Rattle.rusty_leveldb.specs.Engines.Rows.{FindsValue, FromEachState, FromStatesOf, IsAbandoned, NotClosed, NotCompacted, NotFlushed, NotOpened, NotUnlocked, NotWritten, RepresentsAt, Row, StaysAsItWas, WalksView}
use Rattle.rusty_leveldb.specs.Openings.Unopened.{IsLockGivenBack, IsLockHeld, MakesLockAlone, NeverOpens, OpenExcused}
use Rattle.rusty_leveldb.specs.Engines.Boxes.{EngineOf, InternalOrder}
use Rattle.rusty_leveldb.specs.Compactions.Compact.{EngineEndsOpening}
use Rattle.rusty_leveldb.specs.Compactions.CompactionLaws.{HasViewsInTables}
use Rattle.rusty_leveldb.specs.Walks.Walks.{walk_of, walked_or}

-- ---- what a call leaves alone, whatever the files are

-- whether a lock is held after a call that is Ok
abbrev pub held_after : Request → Bool → Bool
held_after close held = false
held_after abandon held = false
held_after request held = held

-- whether a lock is held before and after a call: an Ok frees it, or leaves it, as an Err does
abbrev pub IsLockLeft : {T : Type 0} → Request → Result T Status → Bool → Bool → Type 0
IsLockLeft request result before after =
    OnOk result (after ≡ held_after request before) × OnErr result (after ≡ before)

module _ {E C FP F : Type 0} {B : Boxed} (env : Ghosts E F) where
  -- where the disk is modelled, no file changes but these, and no lock but the engine's
  abbrev pub SparesBut : EngineOf E C FP F B → (List ℕ → Type 0) → E → E → Type 0
  SparesBut engine May from to = IsTrue env.models_disk → HasOwnLock engine
      → Spares engine.store.set.store May (env.observed from).disk (env.observed to).disk

  -- What a call leaves alone, also of files that are damaged.
  pub record LeavesRest {T : Type 0} (before : EngineOf E C FP F B) (from : E)
      (request : Request) (result : Result T Status) (after : EngineOf E C FP F B) (to : E)
      : Type 0 where
    -- the lock's name and the store's path
    pub place : (after.lock ≡ before.lock)
        × (after.store.set.store ≡ before.store.set.store)
    -- all files but those that the request may touch
    pub others : SparesBut before (MayTouchOrLog before.store.set.store before.mode request
        (open_log_path after.store)) from to
    -- and the lock, but that closing frees it
    pub lock : IsTrue env.models_disk
        → IsLockLeft request result (holds_lock env before from) (holds_lock env before to)
    -- no table changes whose number was given, though it may be deleted
    pub tables : IsTrue env.models_disk → KeepsGivenTables before.store.set
        (env.observed from).disk.files (env.observed to).disk.files
    -- no file that is kept since the opening found damage loses a byte, now and at each moment on
    -- the way, if its number was given
    pub kept : SparesKept env.models_disk before.store.set before.store.kept_to
        (env.observed from) (env.observed to)
    -- and it is kept, and its number given, still
    pub stay_kept : (before.store.set.next_file ≤ after.store.set.next_file)
        × (after.store.kept_to ≡ before.store.kept_to)
    -- a sync adds no byte
    pub bytes : IsTrue env.models_disk → IsSyncing request
        → SameBytes (env.observed from).disk.files (env.observed to).disk.files

-- ---- what becomes of an engine

module _ {E C FP F : Type 0} {B : Boxed} where
  -- what a read leaves of an engine: its mode, its store but for the version (of which a look-up
  -- charges a file with a seek, and may choose it), when a compaction was last looked for, and what
  -- the last removal of obsolete files returned
  abbrev pub IsReadOnly : EngineOf E C FP F B → EngineOf E C FP F B → Type 0
  IsReadOnly before after = (after.mode ≡ before.mode)
      × (after.store ≡ record before.store { current = after.store.current })
      × (after.looked_at ≡ before.looked_at) × (after.removal ≡ before.removal)

  -- its mode is as before, or the call broke it
  abbrev pub KeepsModeOrBreaks : EngineOf E C FP F B → EngineOf E C FP F B → Type 0
  KeepsModeOrBreaks before after = IsBroken after.mode ⊎ (after.mode ≡ before.mode)

  -- the memtable of an engine is full
  abbrev pub IsMemtableFull : EngineOf E C FP F B → Type 0
  IsMemtableFull engine = IsFull engine.options.write_buffer_size engine.store.mem

  -- no answer changes: the last number is as before, and where the memtable wasn't full so are the
  -- entries in memory
  abbrev pub KeepsMemory : EngineOf E C FP F B → EngineOf E C FP F B → Type 0
  KeepsMemory before after =
      (after.store.set.last_sequence ≡ before.store.set.last_sequence)
      × ((IsMemtableFull before → ⊥)
      → (after.store.mem.entries ≡ before.store.mem.entries)
      × (after.store.imm ≡ before.store.imm))

  -- The batch of these items was written into the memtable that was there, or, where that was full,
  -- into an empty one.
  abbrev pub WritesIntoRoom : EngineOf E C FP F B → List Item → EngineOf E C FP F B → Type 0
  WritesIntoRoom before items after =
      let Gains : List Entry → Type 0 = λ entries.
      IsUnion entries (next_batch before.store items) after.store.mem.entries in
      ((IsMemtableFull before → ⊥) × Gains before.store.mem.entries)
      ⊎ (IsMemtableFull before × Gains [])

  -- there is no immutable memtable; or it is the one that there was, where the memtable that is
  -- written to wasn't full
  abbrev pub MakesNoImm : EngineOf E C FP F B → EngineOf E C FP F B → Type 0
  MakesNoImm before after = (after.store.imm ≡ None)
      ⊎ ((IsMemtableFull before → ⊥) × (after.store.imm ≡ before.store.imm))

  -- a sync leaves all that is in memory, but for whether the log's writer is broken
  abbrev pub KeepsAllButWriter : EngineOf E C FP F B → EngineOf E C FP F B → Type 0
  KeepsAllButWriter before after =
      after.store ≡ with_writer before.store after.store.log.writer

  -- the mode refuses a call, and nothing changes
  abbrev pub IsRefusedByMode : {T : Type 0} → EngineOf E C FP F B → E → Result T Status
      → EngineOf E C FP F B → E → Type 0
  IsRefusedByMode before from result after to =
      (to ≡ from) × (after ≡ before) × IsErrAnd result (RefusedByMode before.mode)

  -- a look-up fails before it begins: the store is closed, its operands don't fit, or memory ran
  -- out; and nothing changes
  abbrev pub IsNotLookedUp : {T : Type 0} → EngineOf E C FP F B → E → Option Snapshot → List ℕ
      → Result T Status → EngineOf E C FP F B → E → Type 0
  IsNotLookedUp before from at key result after to =
      (to ≡ from) × (after ≡ before) × IsErrAnd result (GetExcused before at key (λ e. ⊥))

  -- so does a walk, of which there are no steps then
  abbrev pub IsNotWalked : {T : Type 0} → EngineOf E C FP F B → E → Option Snapshot → List Step
      → Result T Status → EngineOf E C FP F B → E → Type 0
  IsNotWalked before from at given result after to =
      (to ≡ from) × (after ≡ before) × (given ≡ []) × IsErrAnd result (WalkExcused before at)

-- ---- calls on an engine

module _ {E C FP F P : Type 0} {B : Boxed} {keys : InternalOrder C} {key_filters : FilterGhosts P}
    (env : Ghosts E F) (choices : OptionsOf C FP B → TableChoices keys key_filters)
    (before : EngineOf E C FP F B) (from : E) where
  -- the row that the call takes, where the disk is modelled
  abbrev Takes : Row → EngineOf E C FP F B → E → Type 0
  Takes row after to =
      FromEachState keys env (formats_of choices) (Some before) from (Some after) to row

  -- A write of these items fails so, and makes no call of the device for its batch: nothing is done;
  -- or room in the memtable isn't made, or a compaction that is due isn't done, and that is all; or
  -- it is, and then memory is out, the numbers are used up, or the memtable has too little room.
  abbrev pub AppendsNothing : List Item → Status → EngineOf E C FP F B → E → Type 0
  AppendsNothing items status after to = (to ≡ from)
      ⊎ EngineMakesRoom env choices before from (Err status) after to
      ⊎ ((roomy : EngineOf E C FP F B)
      × EngineMakesRoom env choices before from (Ok tt) roomy to
      × IsNotBegun roomy.store items status)

  -- A call that writes a batch of these items.
  pub record EngineWrites (items : List Item) (sync : Bool) (result : Result (Unit {0}) Status)
      (after : EngineOf E C FP F B) (to : E) : Type 0 where
    -- Ok: the batch is the history's last, and durable if that was asked for
    pub ok : OnOk result (Takes (λ _ old new. Writes old items sync new) after to)
    -- Err: no answer changes; the store may be broken, and then the batch may be found later
    pub err : IfErr result (λ e. Takes (NotWritten items e) after to)
    -- so it is a step of the machine, where an Err has a cause
    pub step : Answers keys env (formats_of choices) (Some before) from (write items sync)
        (done_or result) (Some after) to
    -- over any environment: a closed or broken store refuses it, and nothing changes
    pub refused_by_mode : IsClosedOrBroken before.mode → IsRefusedByMode before from result after to
    -- so does an open one where the batch is too long, as it is where a key or a value of it is: no
    -- room is made for it, in memory or in files
    pub misfit : before.mode ≡ open_mode → IsLongBatch items → (to ≡ from) × (after ≡ before)
        × IsErrAnd result (λ e. (e.code ≡ InvalidArgument) ⊎ IsOutOfMemory e)
    -- Ok leaves the mode, and the batch is in the memtable, which had room
    pub written : OnOk result ((after.mode ≡ before.mode) × WritesIntoRoom before items after)
    pub waits : OnOk result (MakesNoImm before after)
    -- Ok, where the memtable was full: tables of memtables were logged, and a compaction after them
    -- where a level's score asks for it
    pub logs : OnOk result (IsMemtableFull before → LogsRoom before.store.set
        (record after.store.set { last_sequence = before.store.set.last_sequence }))
    -- and where it wasn't, the compaction that was due, and else nothing
    pub compacts : OnOk result ((IsMemtableFull before → ⊥)
        → LogsIfDue (has_compaction_due before) before.store.set
        (record after.store.set { last_sequence = before.store.set.last_sequence }))
    -- one is looked for once for each part by which the memtable grows, also where it fails then; or
    -- the write failed before, and did nothing
    pub looks : WriteMovesLookedAt before after ⊎ ((to ≡ from) × (after ≡ before)
        × IsErrAnd result (λ e. RefusedByMode before.mode e
        ⊎ ((e.code ≡ InvalidArgument) × IsLongBatch items) ⊎ IsOutOfMemory e))
    -- so one that failed isn't due when the write is made again, unless the write did nothing
    pub again : OnErr result ((IsMemtableFull before → ⊥)
        → (has_compaction_due after ≡ false) ⊎ (after ≡ before))
    -- Err leaves what memory shows, and the mode, or a broken store
    pub failed : OnErr result (KeepsModeOrBreaks before after × KeepsMemory before after)
    -- Ok or Err, and whatever the files are: what was in memory, and the batch if it was written,
    -- is in memory, or in tables that were added, of which one compaction may have taken some
    pub entries : KeepsOrCompacts env (formats_of choices (engine_options before))
        (entries_added result (next_batch before.store items)) before.store from after.store to
    -- Ok: where obsolete files may have been made, they were removed, and the engine has what that
    -- returned
    pub tidy : TidiesOrKeeps env before from result after to
    -- an Err came before any call for the batch, and for a cause, or broke the store
    pub breaks : IfErr result (λ e. IsBroken after.mode ⊎ AppendsNothing items e after to)
    -- the same snapshots are held, and the options stay, but for the sink of their log
    pub snapshots : after.snapshots ≡ before.snapshots
    pub options : ChangesLoggerOnly (engine_options before) (engine_options after)
    -- in any state of the disk it leaves this alone, and no moment is taken back
    pub rest : LeavesRest env before from (write items sync) result after to
    pub time : TimeGoesOn env from to
    -- why it fails
    pub cause : FailsFor (WriteExcused env choices before from items after.store)
        (env.failures from) (env.failures to) result

  -- A call that makes durable all that was written.
  pub record EngineFlushes (result : Result (Unit {0}) Status) (after : EngineOf E C FP F B)
      (to : E) : Type 0 where
    -- Ok: all is durable
    pub ok : OnOk result (Takes (λ _ old new. AllDurable old new) after to)
    -- Err: no answer changes; the store may be broken
    pub err : IfErr result (λ e. Takes (NotFlushed e) after to)
    pub step : Answers keys env (formats_of choices) (Some before) from flush (done_or result)
        (Some after) to
    -- over any environment: a closed or broken store refuses it, and nothing changes
    pub refused_by_mode : IsClosedOrBroken before.mode → IsRefusedByMode before from result after to
    -- Ok leaves the mode; Err breaks an open store, but out of memory
    pub mode : OnOk result (after.mode ≡ before.mode)
    pub failed : IfErr result (λ e. KeepsModeOrBreaks before after
        × (IsClosedOrBroken after.mode ⊎ IsOutOfMemory e))
    pub memory : KeepsAllButWriter before after
    pub snapshots : after.snapshots ≡ before.snapshots
    -- when a compaction was last looked for
    pub looks : after.looked_at ≡ before.looked_at
    -- what the last removal of obsolete files returned
    pub removal : after.removal ≡ before.removal
    pub options : ChangesLoggerOnly (engine_options before) (engine_options after)
    pub rest : LeavesRest env before from flush result after to
    pub time : TimeGoesOn env from to
    -- an Ok counts no failure of the device; why it fails
    pub cause : HasCause (SyncExcused env (formats_of choices) before from to) (env.failures from)
        (env.failures to) result

  -- A call that compacts the range between two user keys, ends included; an empty key is an open
  -- end.
  pub record EngineCompacts (low high : List ℕ) (result : Result (Unit {0}) Status)
      (after : EngineOf E C FP F B) (to : E) : Type 0 where
    -- Ok: no answer changes
    pub ok : OnOk result (Takes (λ _ old new. Keeps old new) after to)
    -- Err: no answer changes; an open store may be broken
    pub err : IfErr result (λ e. Takes (NotCompacted e) after to)
    pub step : Answers keys env (formats_of choices) (Some before) from (compact_range low high)
        (done_or result) (Some after) to
    -- over any environment: a closed or broken store refuses it, and nothing changes
    pub refused_by_mode : IsClosedOrBroken before.mode → IsRefusedByMode before from result after to
    -- so does an open one where an end is too long
    pub misfit : before.mode ≡ open_mode → IsLongKey low ⊎ IsLongKey high
        → (to ≡ from) × (after ≡ before) × IsErrAnd result (λ e. e.code ≡ InvalidArgument)
    -- Ok leaves the mode; Err leaves it, too, or a broken store
    pub mode : OnOk result (after.mode ≡ before.mode)
    pub failed : OnErr result (KeepsModeOrBreaks before after)
    -- Ok or Err, the last number stays
    pub last : after.store.set.last_sequence ≡ before.store.set.last_sequence
    -- Ok or Err, and whatever the files are: what was in memory is in memory, or was in tables that
    -- were added, before anything was compacted, and no others; after that compactions are logged,
    -- one after another, and nothing else is done
    pub entries : CompactsMemtables env (formats_of choices (engine_options before)) before.store
        from after.store to
    -- Ok: no entry is in memory, all are in tables
    pub tables_made : OnOk result
        ((after.store.mem.entries ≡ []) × (after.store.imm ≡ None))
    -- so live tables alone show the history, as it is now and at each snapshot that is held
    pub by_tables : OnOk result ((store : List ℕ) (meaning : Meaning) (state : State)
        → RepresentsAt keys env (formats_of choices) store meaning (Some after) to state
        → HasViewsInTables meaning after.store (env.observed to).disk.files state)
    -- Ok: no file overlaps the range in level 0 and those below it down to the deepest that had
    -- such a file at the beginning, which is level 1 at least and level 5 at most
    pub clear : let order = (formats_of choices (engine_options before)).order in
        OnOk result (AreClearOf order (named_range low high) (deepest_overlapped order
        (named_range low high) before.store.set.full.added) after.store.set.full.added)
    pub snapshots : after.snapshots ≡ before.snapshots
    -- when a compaction was last looked for
    pub looks : after.looked_at ≡ before.looked_at
    -- Ok: where obsolete files may have been made, they were removed, and the engine has what that
    -- returned
    pub tidy : TidiesOrKeeps env before from result after to
    pub options : ChangesLoggerOnly (engine_options before) (engine_options after)
    pub rest : LeavesRest env before from (compact_range low high) result after to
    pub time : TimeGoesOn env from to
    -- why it fails
    pub cause : FailsFor (CompactExcused env choices before from low high after.store)
        (env.failures from) (env.failures to) result

  -- A call that looks up a key, now or at a snapshot.
  pub record EngineGets (at : Option Snapshot) (key : List ℕ)
      (result : Result (Option (List ℕ)) Status) (after : EngineOf E C FP F B) (to : E)
      : Type 0 where
    -- Ok: the key's value in the history, or none
    pub ok : IfOk result (λ value. Takes (FindsValue at key value) after to)
    -- Err: nothing changes
    pub err : OnErr result (Takes StaysAsItWas after to)
    pub step : Answers keys env (formats_of choices) (Some before) from (get at key)
        (found_or result) (Some after) to
    -- over any environment: a closed store refuses it, and nothing changes
    pub refused_by_mode : IsClosed before.mode → IsRefusedByMode before from result after to
    -- over any files, Ok or Err: the value is that of memory, or else of the first table on the way
    -- that has the key; none on this way is passed over, and the first that can't be read is an Err
    pub way : IsNotLookedUp before from at key result after to
        ⊎ ((sequence : ℕ) × IsEngineSequence before at sequence
        × (GetsFromMemory keys env (tables_by (formats_of choices) before) before.store from
        before.tables sequence key result after.store to after.tables
        ⊎ GetsFromTables keys env (tables_by (formats_of choices) before) before.store from
        before.tables sequence key result after.store to after.tables))
    pub reads : IsReadOnly before after
    pub snapshots : after.snapshots ≡ before.snapshots
    pub options : ChangesLoggerOnly (engine_options before) (engine_options after)
    pub rest : LeavesRest env before from (get at key) result after to
    pub time : TimeGoesOn env from to
    pub cause : GetFails keys env (formats_of choices) before from at key result to

  -- A call that makes moves of a walk over the store's view, now or at a snapshot, with the steps
  -- that say where they led.
  pub record EngineWalks (at : Option Snapshot) (moves : List Move) (given : List Step)
      (result : Result (Unit {0}) Status) (after : EngineOf E C FP F B) (to : E) : Type 0 where
    -- Ok: each move led where a walk over the view leads, or failed for a cause
    pub ok : OnOk result (Takes (WalksView at moves given) after to)
    -- Err: no move was made, and nothing changes
    pub err : OnErr result (Takes StaysAsItWas after to)
    pub step : Answers keys env (formats_of choices) (Some before) from (walk_of at moves)
        (walked_or given result) (Some after) to
    -- over any environment: a closed store refuses it, and nothing changes
    pub refused_by_mode : IsClosed before.mode → IsRefusedByMode before from result after to
    pub reads : IsReadOnly before after
    pub snapshots : after.snapshots ≡ before.snapshots
    pub options : ChangesLoggerOnly (engine_options before) (engine_options after)
    pub rest : LeavesRest env before from (walk_of at moves) result after to
    pub time : TimeGoesOn env from to
    -- no failure is forgotten; it fails as a whole for none of the device, but its moves may
    pub later : env.failures from ≤ env.failures to
    pub cause : IfErr result (WalkExcused before at)
    -- over any files: where memory and the live tables show a history, the moves are made in its
    -- view, whatever the other files are
    pub way : IsNotWalked before from at given result after to
        ⊎ ((sequence : ℕ) × IsEngineSequence before at sequence
        × WalksStore keys env (tables_by (formats_of choices) before) before.store from
        before.tables sequence moves given result to after.tables)
    -- over whatever files, each move has a step, and one that failed a cause
    pub refused : OnOk result (Each (λ one step. IsRefusedFor step one
        (MoveFails (λ e. IsTableFault (formats_of choices (engine_options before)) e.code)
        (env.failures from) (env.failures to) one)) moves given)
    -- without a walk there are no steps
    pub none : OnErr result (given ≡ [])

  -- A call that gives out a snapshot.
  pub record EngineHolds (result : Result HeldSnapshot Status) (after : EngineOf E C FP F B)
      (to : E) : Type 0 where
    -- Ok: one more is held, of the last number
    pub ok : IfOk result (λ one. Takes (λ _ old new. Gives old (snapshot_of one) new) after to)
    -- Err: nothing changes
    pub err : OnErr result (Takes StaysAsItWas after to)
    pub step : Answers keys env (formats_of choices) (Some before) from get_snapshot
        (snapshot_or result) (Some after) to
    -- over any environment: no call of it is made, and a closed store refuses this one
    pub still : to ≡ from
    pub refused_by_mode : IsClosed before.mode → IsRefusedByMode before from result after to
    pub reads : IsReadOnly before after
    -- the list of those that are held has this one more, or is as it was
    pub snapshots : MatchResult result
        (λ one. AddsHeld before.store.set.last_sequence before.snapshots one after.snapshots)
        (λ e. after.snapshots ≡ before.snapshots)
    pub options : ChangesLoggerOnly (engine_options before) (engine_options after)
    pub rest : LeavesRest env before from get_snapshot result after to
    pub cause : IfErr result (SnapshotExcused before)

  -- A call that releases a snapshot.
  pub record EngineReleases (one : HeldSnapshot) (result : Result (Unit {0}) Status)
      (after : EngineOf E C FP F B) (to : E) : Type 0 where
    -- Ok: it isn't held any more
    pub ok : OnOk result (Takes (λ _ old new. Releases old (snapshot_of one) new) after to)
    -- Err: nothing changes
    pub err : OnErr result (Takes StaysAsItWas after to)
    pub step : Answers keys env (formats_of choices) (Some before) from
        (release_snapshot (snapshot_of one)) (done_or result) (Some after) to
    -- over any environment: no call of it is made, and a closed store refuses this one
    pub still : to ≡ from
    pub refused_by_mode : IsClosed before.mode → IsRefusedByMode before from result after to
    pub reads : IsReadOnly before after
    -- the list of those that are held lacks this one, or is as it was
    pub snapshots : MatchResult result
        (λ nothing. DropsHeld before.snapshots one after.snapshots)
        (λ e. after.snapshots ≡ before.snapshots)
    pub options : ChangesLoggerOnly (engine_options before) (engine_options after)
    pub rest : LeavesRest env before from (release_snapshot (snapshot_of one)) result after to
    pub cause : IfErr result (ReleaseExcused before (snapshot_of one))

  -- A call that makes all durable and gives back the lock.
  pub record EngineCloses (result : Result (Unit {0}) Status) (after : EngineOf E C FP F B)
      (to : E) : Type 0 where
    -- Ok: all is durable, nothing is held, the lock is free, and the store is closed
    pub ok : OnOk result (Takes (λ _ old new. Closes old new) after to)
    -- Err: no answer changes, and a store that was open is broken
    pub err : IfErr result (λ e. Takes (NotClosed e) after to)
    pub step : Answers keys env (formats_of choices) (Some before) from close (done_or result)
        (Some after) to
    -- over any environment: a closed or broken store refuses it, and nothing changes
    pub refused_by_mode : IsClosedOrBroken before.mode → IsRefusedByMode before from result after to
    pub mode : OnOk result (IsClosed after.mode)
    pub failed : OnErr result (IsBroken after.mode ⊎ (IsClosed before.mode × IsClosed after.mode))
    pub memory : KeepsAllButWriter before after
    pub snapshots : after.snapshots ≡ before.snapshots
    -- when a compaction was last looked for
    pub looks : after.looked_at ≡ before.looked_at
    -- what the last removal of obsolete files returned
    pub removal : after.removal ≡ before.removal
    pub options : ChangesLoggerOnly (engine_options before) (engine_options after)
    pub rest : LeavesRest env before from close result after to
    pub time : TimeGoesOn env from to
    -- an Ok counts no failure of the device; why it fails
    pub cause : HasCause (CloseExcused env (formats_of choices) before from to)
        (env.failures from) (env.failures to) result

module _ {E C FP F : Type 0} {B : Boxed} (keys : InternalOrder C) (env : Ghosts E F)
    (formats : OptionsOf C FP B → Format) where
  -- a call that gives an engine up
  pub record EngineAbandons (engine : EngineOf E C FP F B) (from : E)
      (result : Result (Unit {0}) Status)
      (to : E) : Type 0 where
    -- Ok: nothing is held and the lock is free; of a closed store nothing changes
    pub ok : OnOk result (FromEachState keys env formats (Some engine) from None to IsAbandoned)
    -- Err: nothing is held, and the lock is as it was
    pub err : OnErr result (FromEachState keys env formats (Some engine) from None to NotUnlocked)
    -- one that is closed has given back its lock
    pub refused_by_mode : IsClosed engine.mode → (to ≡ from) × OnErr result ⊥
    -- where the disk is observed, the call is a step of the machine
    pub step : Answers keys env formats (Some engine) from abandon (done_or result) None to
    -- no file changes, and no lock but the engine's
    pub others : SparesBut env engine (λ path. ⊥) from to
    -- one that isn't closed gives back its lock
    pub lock : IsTrue env.models_disk → (IsClosed engine.mode → ⊥)
        → IsLockLeft abandon result (holds_lock env engine from) (holds_lock env engine to)
    -- no moment of the disk is taken back
    pub time : TimeGoesOn env from to
    -- it fails only where the device did
    pub cause : HasCause (λ _. ⊥) (env.failures from) (env.failures to) result

module _ {E C FP F : Type 0} {B : Boxed} (env : Ghosts E F)
    (formats : OptionsOf C FP B → Format) where
  -- an engine that an opening with these options gave
  pub record IsOpened (name : List ℕ) (given : OptionsOf C FP B) (engine : EngineOf E C FP F B)
      : Type 0 where
    pub mode : engine.mode ≡ open_mode
    -- it has the options, but for the sink of their log
    pub options : ChangesLoggerOnly given (engine_options engine)
    -- its store is that of the name
    pub place : engine.store.set.store ≡ name
    pub lock : HasOwnLock engine
    -- no write has looked for a compaction
    pub looks : engine.looked_at ≡ 0

module _ {E C FP F P : Type 0} {B : Boxed} {keys : InternalOrder C} {key_filters : FilterGhosts P}
    (env : Ghosts E F) (choices : OptionsOf C FP B → TableChoices keys key_filters) where
  -- a call that opens the store under a name, as it is asked to by these options
  pub record EngineOpens (name : List ℕ) (options : OptionsOf C FP B) (asked : Opening) (from : E)
      (result : Result (EngineOf E C FP F B) Status) (to : E) : Type 0 where
    -- Ok: what was pending is in the history or forgotten, nothing is held, and the lock is
    pub ok : IfOk result (λ engine. (opening : Opening) → IsOpening name asked opening
        → (meaning : Meaning) → Agrees opening.format meaning
        → FromStatesOf keys env (formats_of choices) (risk_of (open_store opening)) name meaning
        None from (Some engine) to (λ _ old new. Opens old opening new))
    -- Err: no store is open, and the history is as it was
    pub err : IfErr result (λ e. (opening : Opening) → IsOpening name asked opening
        → (meaning : Meaning) → Agrees opening.format meaning
        → FromStatesOf keys env (formats_of choices) (risk_of (open_store opening)) name meaning
        None from None to (NotOpened opening e))
    -- and that history is one as which its files were read
    pub found : IfOk result (λ engine. (opening : Opening) → IsOpening name asked opening
        → (meaning : Meaning) → Agrees opening.format meaning → IsTrue env.models_disk
        → (old : State) → RepresentsAt keys env (formats_of choices) name meaning None from old
        → (new : State)
        × RepresentsAt keys env (formats_of choices) name meaning (Some engine) to new
        × Opens old opening new
        × AreReadAs name meaning (env.observed from).disk.files new.history new.last)
    pub opened : IfOk result (IsOpened env (formats_of choices) name options)
    -- Ok: its files were opened as they were at the call, but for the file of its lock, and after
    -- that one compaction was done at most. It is done where the score of a level asks for it, and
    -- takes a file of that level, unless it fails for a cause.
    pub ends : IfOk result (λ engine. EngineEndsOpening env choices name options asked from engine
        to)
    -- Ok: obsolete files were removed since it began, and the engine has what that returned
    pub tidy : IfOk result (λ engine. LeavesObsolete env from engine.store engine.removal to)
    -- the lock was free, and is held
    pub held : OnOk result (IsTrue env.models_disk
        → (IsLockHeld name (env.observed from).disk → ⊥)
        × IsLockHeld name (env.observed to).disk)
    -- what isn't the store's stays as it is
    pub others : IsTrue env.models_disk
        → Spares name (IsOwn name) (env.observed from).disk (env.observed to).disk
    -- and so does what was set aside before
    pub aside : IsTrue env.models_disk
        → KeepsAside name (env.observed from).disk.files (env.observed to).disk.files
    -- where the disk is observed, the call is a step of the machine, if the options say of names
    -- and ids what they mean
    pub step : (opening : Opening) → IsOpening name asked opening
        → (meaning : Meaning) → Agrees opening.format meaning
        → AnswersAs keys env (formats_of choices) name meaning None from (open_store opening)
        (done_or result) (given_engine result) to
    -- no moment of the disk is taken back
    pub time : TimeGoesOn env from to
    -- under a name that is no store's nothing is opened, and no call is made; nor with a size or a
    -- count past its limits, or without the compressor of new blocks
    pub misnamed : (IsStoreName name × IsTrue asked.fits × IsTrue asked.compresses → ⊥)
        → (to ≡ from) × OnOk result ⊥
    -- a store that is locked isn't opened, nor one without `CURRENT` or usable edits, nor a missing
    -- one that isn't to be made, or one that is there and must not be; and its files stay
    pub never_opens : IsTrue env.models_disk → NeverOpens name asked (env.observed from).disk
        → OnOk result ⊥ × MakesLockAlone name (env.observed from) (env.observed to)
    -- One that fails loses nothing of a store that was there, whatever its files are: at each
    -- moment every file but `CURRENT` and temporary ones is there still, and begins with the bytes
    -- that it had.
    pub kept : OnErr result (LosesNothing env name from to)
    -- an opening that fails gives back the lock
    pub unopened : IfErr result (λ status. IsTrue env.models_disk
        → IsLockGivenBack env name asked from (HasLogNotKept (choices options) env.models_disk name
        (env.observed from).disk.files) to status)
    -- why it fails
    pub cause : FailsFor (OpenExcused env name (choices options) asked from) (env.failures from)
        (env.failures to) result

-- the same result, with what this makes of its value
abbrev pub result_map : {A B S : Type 0} → (A → B) → Result A S → Result B S
result_map make (Ok value) = Ok (make value)
result_map make (Err status) = Err status
