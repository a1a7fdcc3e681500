-- What an engine has in memory, what that has to do with the disk, and what its calls return.
use Rattle.std.specs.Prelude.{◌≡◌, ◌≢◌, ◌≤◌, ◌⊎◌, ◌↔◌, ℕ, Bool, true, List, [], ◌∷◌, ◌++◌, length, map, Contains, Option, Some, None, IsTrue, ◌&&◌, nat_le, ◌^◌, Result, is_some}
use Rattle.leveldb_base.specs.declared.cmp.Cmp.{Ghosts as CmpGhosts}
use Rattle.leveldb_base.specs.declared.error.Status.{Status}
use Rattle.leveldb_base.specs.declared.error.StatusCode.TheVariants.{InvalidArgument, NotSupported}
use Rattle.leveldb_base.specs.Error.{IsOutOfMemory}
use Rattle.leveldb_base.specs.History.{Item, entries_of, greatest}
use Rattle.leveldb_env.specs.declared.env.Env.{Ghosts}
use Rattle.leveldb_env.specs.declared.filter.FilterPolicy.{Ghosts as FilterGhosts}
use Rattle.leveldb_env.specs.declared.compressor.CompressorList.{CompressorList}
use Rattle.leveldb_env.specs.Compressor.{Codings}
use Rattle.leveldb_env.specs.Env.{Disk, Files}
use Rattle.leveldb_env.specs.Options.{Boxed, OptionsOf}
use Rattle.leveldb_iter.specs.Snapshot.{HeldSnapshots}
use Rattle.leveldb_mem.specs.Log.Writer.{IsWriterBroken}
use Rattle.leveldb_mem.specs.MemTable.{FailsToPrepare, Kept, bytes_in}
use Rattle.leveldb_files.specs.Stores.Paths.{lock_path}
use Rattle.leveldb_files.specs.Stores.Contents.{made}
use Rattle.leveldb_store.specs.Tables.BuildTable.{TableChoices}
use Rattle.leveldb_store.specs.Compactions.Compact.{FailsToCompactRange, FailsToMerge}
use Rattle.leveldb_files.specs.Stores.Format.{Format, IsTableFault, LacksCompressor, Meaning, format_of}
use Rattle.leveldb_files.specs.Levels.Levels.{LiveTable}
use Rattle.leveldb_version.specs.Tables.TableCache.{TableOptions, table_options}
use Rattle.leveldb_store.specs.Keeping.OpenStore.{OpenStoreValue}
use Rattle.leveldb_store.specs.Keeping.OpenTables.{AreOpenTablesOf}
use Rattle.leveldb_store.specs.Reading.Read.{HasTablesToRead}
use Rattle.leveldb_store.specs.Writing.Due.{MovesLookedAt, is_compaction_due}
use Rattle.leveldb_store.specs.Writing.Room.{FailsFor, IsFileLost, IsFull}
use Rattle.leveldb_store.specs.Writing.Write.{IsLogLost}
use Rattle.leveldb_store.specs.Keeping.Written.{IsWritten, HasView}
use Rattle.rusty_leveldb.specs.Machines.State as machine
use Rattle.rusty_leveldb.specs.Machines.State.{State, Opening, Request, Answer, Snapshot}
use Rattle.leveldb_base.specs.KeyTypes.{IsLongKey}
use Rattle.rusty_leveldb.specs.Machines.Causes.{AreSnapshotsUsedUp, AreUsedUp, IsLongBatch, IsNotHeld}
use Rattle.rusty_leveldb.specs.Engines.Serves.{Serves, Scene, snapshot_of}
use Rattle.rusty_leveldb.specs.Engines.Boxes.{EngineOf, InternalOrder}

-- ---- the mode

-- every call but `abandon` fails
abbrev pub IsClosed : machine.Mode → Type 0
IsClosed mode = mode ≡ machine.closed

-- every call that writes fails, since one before it did
abbrev pub IsBroken : machine.Mode → Type 0
IsBroken mode = mode ≡ machine.broken

-- every call that writes fails
abbrev pub IsClosedOrBroken : machine.Mode → Type 0
IsClosedOrBroken mode = IsClosed mode ⊎ IsBroken mode

-- ---- the options

-- the options of an engine: those of its last opening, in the order of its store
abbrev pub engine_options : {E C FP F : Type 0} {B : Boxed}
    → EngineOf E C FP F B → OptionsOf C FP B
engine_options engine = record engine.options { cmp = engine.store.cmp }

-- what its tables are opened with, where `formats` says of options which format they have
abbrev pub tables_by : {E C FP F : Type 0} {B : Boxed}
    → (OptionsOf C FP B → Format) → EngineOf E C FP F B → TableOptions C FP
tables_by formats engine = table_options (formats (engine_options engine)) (engine_options engine)

-- ---- the lock

-- the lock of an engine is that of its store
abbrev pub HasOwnLock : {E C FP F : Type 0} {B : Boxed}
    → EngineOf E C FP F B → Type 0
HasOwnLock engine = engine.lock ≡ lock_path engine.store.set.store

-- whether an engine's lock is held
abbrev pub holds_lock : {E C FP F : Type 0} {B : Boxed} → Ghosts E F
    → EngineOf E C FP F B → E → Bool
holds_lock env engine at = (env.observed at).disk.locked engine.lock

-- ---- snapshots

-- the snapshots that an engine holds
abbrev pub held_in : {E C FP F : Type 0} {B : Boxed}
    → EngineOf E C FP F B → List Snapshot
held_in engine = map snapshot_of engine.snapshots.held

-- the number at which an engine reads: its last one, or that of a snapshot that it holds
abbrev pub IsEngineSequence : {E C FP F : Type 0} {B : Boxed}
    → EngineOf E C FP F B → Option Snapshot → ℕ → Type 0
IsEngineSequence engine None n = n ≡ engine.store.set.last_sequence
IsEngineSequence engine (Some one) n = Contains (held_in engine) one × (n ≡ one.sequence)

-- The snapshots of a list are those that a state holds, in the order in which they were given out.
pub record HasSnapshots (snapshots : HeldSnapshots) (state : State) : Type 0 where
  pub held : map snapshot_of snapshots.held ≡ state.held
  -- as many numbers were given out, and none is past the last one
  pub count : length state.given ≡ snapshots.given
  pub given : (number : ℕ) → Contains state.given number → number ≤ snapshots.given

-- Memory and live tables show a state's history from some number on, which is past neither its
-- greatest one nor that of a snapshot that is held: so as it is now, and as it was at each of them.
pub record ShowsViews {C : Type 0} (meaning : Meaning) (value : OpenStoreValue C) (files : Files)
    (state : State) : Type 0 where
  pub since : ℕ
  pub shows : HasView state.format.order meaning value files state.history since
  pub now : since ≤ greatest (entries_of state.history)
  pub held : (one : Snapshot) → Contains state.held one → since ≤ one.sequence

-- ---- memory and disk

-- the open tables of an engine are those of its store in these files
abbrev pub HasOwnTables : {E C FP F : Type 0} {B : Boxed} → InternalOrder C → Ghosts E F
    → (OptionsOf C FP B → Format) → EngineOf E C FP F B → Files → Type 0
HasOwnTables keys env formats engine files =
    AreOpenTablesOf keys env (tables_by formats engine) engine.store.set files engine.tables

module _ {E C FP F : Type 0} {B : Boxed} (keys : InternalOrder C) (env : Ghosts E F)
    (formats : OptionsOf C FP B → Format) (store : List ℕ) (meaning : Meaning) where
  -- What the engine's memory has to do with the disk and the state, where names and ids in the
  -- files have this meaning. Where it isn't closed, its options are those of the last opening, it
  -- holds the state's snapshots, memory and tables show the history at each of them, and the open
  -- tables are those of the files; where it is open, the files are written with what is in memory.
  pub record Recalls (engine : EngineOf E C FP F B) (disk : Disk) (state : State)
      : Type 0 where
    pub mode : engine.mode ≡ state.mode
    pub lock : engine.lock ≡ lock_path store
    pub path : engine.store.set.store ≡ store
    pub format : (state.mode ≡ machine.closed → ⊥) → formats (engine_options engine) ≡ state.format
    pub named : (state.mode ≡ machine.closed → ⊥)
        → state.store ≡ made (Some state.format.order_name)
    pub last : (state.mode ≡ machine.closed → ⊥) → engine.store.set.last_sequence ≡ state.last
    pub shows : (state.mode ≡ machine.closed → ⊥)
        → ShowsViews meaning engine.store disk.files state
    pub snapshots : (state.mode ≡ machine.closed → ⊥) → HasSnapshots engine.snapshots state
    pub tables : (state.mode ≡ machine.closed → ⊥)
        → HasOwnTables keys env formats engine disk.files
    pub writes : state.mode ≡ machine.open_mode
        → IsWritten state.format.order meaning engine.store disk.files

-- ---- what the calls return

-- the formats of choices
abbrev pub formats_of : {C FP D P : Type 0} {B : Boxed} {keys : CmpGhosts D}
    {key_filters : FilterGhosts P} → (OptionsOf C FP B → TableChoices keys key_filters)
    → OptionsOf C FP B → Format
formats_of choices options = (choices options).format

-- no engine of these options
abbrev pub no_engine : {E C FP F : Type 0} {B : Boxed} → OptionsOf C FP B
    → Option (EngineOf E C FP F B)
no_engine options = None

-- before or after a call
abbrev pub scene : {E F M : Type 0} → Ghosts E F → Option M → E → Scene M
scene env memory at = record {
  memory = memory;
  observed = env.observed at;
  failures = env.failures at;
}

-- `formats` says of options which format they have
module _ {E C FP F : Type 0} {B : Boxed} (keys : InternalOrder C) (env : Ghosts E F)
    (formats : OptionsOf C FP B → Format) where
  -- where the disk is observed, the call is a step of the machine, for the store under this name
  -- with names and ids of this meaning
  abbrev pub AnswersAs : List ℕ → Meaning → Option (EngineOf E C FP F B) → E → Request → Answer
      → Option (EngineOf E C FP F B) → E → Type 0
  AnswersAs store meaning before from request answer after to = IsTrue env.models_disk
      → Serves store meaning (Recalls keys env formats store meaning) (scene env before from)
      request answer (scene env after to)

  -- the same, whatever store engine and disk represent
  abbrev pub Answers : Option (EngineOf E C FP F B) → E → Request → Answer
      → Option (EngineOf E C FP F B) → E → Type 0
  Answers before from request answer after to = (store : List ℕ) (meaning : Meaning)
      → AnswersAs store meaning before from request answer after to

  -- the same of a call that leaves engine and environment as they are
  abbrev pub AnswersStill : EngineOf E C FP F B → Request → Answer → Type 0
  AnswersStill engine request answer =
      (at : E) → Answers (Some engine) at request answer (Some engine) at

-- ---- why a call may fail where the device didn't

-- the store is closed
abbrev pub RefusedAsClosed : machine.Mode → Status → Type 0
RefusedAsClosed mode e = IsClosed mode × (e.code ≡ InvalidArgument)

-- the store broke earlier
abbrev pub RefusedAsBroken : machine.Mode → Status → Type 0
RefusedAsBroken mode e = IsBroken mode × IsWriterBroken e

-- one of the two
abbrev pub RefusedByMode : machine.Mode → Status → Type 0
RefusedByMode mode e = RefusedAsClosed mode e ⊎ RefusedAsBroken mode e

-- Why a look-up may fail: the store is closed, the snapshot isn't held, the key is too long, memory
-- ran out, or a table can't be read, for this cause.
abbrev pub GetExcused : {E C FP F : Type 0} {B : Boxed}
    → EngineOf E C FP F B → Option Snapshot → List ℕ → (Status → Type 0) → Status → Type 0
GetExcused engine at key Unreadable e = RefusedAsClosed engine.mode e
    ⊎ ((e.code ≡ InvalidArgument) × (IsNotHeld (held_in engine) at ⊎ IsLongKey key))
    ⊎ IsOutOfMemory e ⊎ Unreadable e

-- why no walk may be made: the store is closed, the snapshot isn't held, or memory ran out
abbrev pub WalkExcused : {E C FP F : Type 0} {B : Boxed}
    → EngineOf E C FP F B → Option Snapshot → Status → Type 0
WalkExcused engine at e = RefusedAsClosed engine.mode e
    ⊎ ((e.code ≡ InvalidArgument) × IsNotHeld (held_in engine) at) ⊎ IsOutOfMemory e

-- why no snapshot may be given out: the store is closed, memory ran out, or the numbers are used up
abbrev pub SnapshotExcused : {E C FP F : Type 0} {B : Boxed}
    → EngineOf E C FP F B → Status → Type 0
SnapshotExcused engine e = RefusedAsClosed engine.mode e ⊎ IsOutOfMemory e
    ⊎ ((e.code ≡ NotSupported) × AreSnapshotsUsedUp engine.snapshots.given)

-- why a snapshot may not be released: the store is closed, or the snapshot isn't held
abbrev pub ReleaseExcused : {E C FP F : Type 0} {B : Boxed}
    → EngineOf E C FP F B → Snapshot → Status → Type 0
ReleaseExcused engine one e = RefusedAsClosed engine.mode e
    ⊎ ((e.code ≡ InvalidArgument) × IsNotHeld (held_in engine) (Some one))

-- a compaction is due before a batch for which the memtable has room
abbrev pub has_compaction_due : {E C FP F : Type 0} {B : Boxed} → EngineOf E C FP F B → Bool
has_compaction_due engine =
    is_compaction_due engine.options.max_file_size engine.looked_at engine.store

-- what a write leaves of how much memory the memtable took when a compaction was last looked for
abbrev pub WriteMovesLookedAt : {E C FP F : Type 0} {B : Boxed} → EngineOf E C FP F B
    → EngineOf E C FP F B → Type 0
WriteMovesLookedAt before after = MovesLookedAt before.options.write_buffer_size
    before.options.max_file_size before.store before.looked_at after.looked_at

-- a memtable without entries
abbrev pub empty_memtable : Kept
empty_memtable = record { entries = []; places = 0; bytes = 0 }

-- `choices` says of options with which choices a table is built
module _ {E C FP F P : Type 0} {B : Boxed} {keys : InternalOrder C} {key_filters : FilterGhosts P}
    (env : Ghosts E F) (choices : OptionsOf C FP B → TableChoices keys key_filters)
    (engine : EngineOf E C FP F B) (at : E) where
  -- the choices of its options
  abbrev choices_in : TableChoices keys key_filters
  choices_in = choices (engine_options engine)

  -- Why a write may fail where the device didn't: the store is closed or broken, the batch is too
  -- long, memory ran out, no numbers of entries are left, or the entries are too many in memory.
  -- And where the memtable is full: no tables are made of what is in memory, or tables aren't
  -- merged in the compaction for which the store asks then (`FailsToCompactRange`); or the batch is
  -- too large for an empty memtable. Where a compaction is due, tables aren't merged. Or a file is
  -- lost. `left` is the store after the call: its next number tells whether the numbers of files
  -- are used up.
  abbrev pub WriteExcused : List Item → OpenStoreValue C → Status → Type 0
  WriteExcused items left e = RefusedByMode engine.mode e
      ⊎ ((e.code ≡ InvalidArgument) × IsLongBatch items)
      ⊎ IsOutOfMemory e
      ⊎ ((e.code ≡ NotSupported) × AreUsedUp engine.store.set.last_sequence (length items))
      ⊎ FailsToPrepare engine.store.mem (length items) (bytes_in items) e
      ⊎ (IsFull engine.options.write_buffer_size engine.store.mem
      × (FailsToCompactRange keys env (tables_by (formats_of choices) engine) engine.store at
      engine.tables choices_in left e
      ⊎ FailsToPrepare empty_memtable (length items) (bytes_in items) e))
      ⊎ ((has_compaction_due engine ≡ true) × FailsToMerge keys env
      (tables_by (formats_of choices) engine) engine.store at engine.tables choices_in left e)
      ⊎ IsFileLost env choices_in.format.order engine.store at choices_in.format e

  -- Why a compaction of a range may fail where the device didn't: the store is closed or broken, an
  -- end is too long, or the store isn't compacted (`FailsToCompactRange`). `left` is the store
  -- after the call: its next number tells whether the numbers of files are used up.
  abbrev pub CompactExcused : List ℕ → List ℕ → OpenStoreValue C → Status → Type 0
  CompactExcused low high left e = RefusedByMode engine.mode e
      ⊎ ((e.code ≡ InvalidArgument) × (IsLongKey low ⊎ IsLongKey high))
      ⊎ FailsToCompactRange keys env (tables_by (formats_of choices) engine) engine.store at
      engine.tables choices_in left e

module _ {E C FP F : Type 0} {B : Boxed} (env : Ghosts E F) (formats : OptionsOf C FP B → Format)
    (engine : EngineOf E C FP F B) (at : E) where
  -- the format of its options
  abbrev format_in : Format
  format_in = formats (engine_options engine)

  -- why a flush may fail where the device didn't: the store is closed or broken, memory ran out, or
  -- the log is lost
  abbrev pub SyncExcused : E → Status → Type 0
  SyncExcused now e = RefusedByMode engine.mode e ⊎ IsLogLost env engine.store at now e

  -- as a sync, where nothing was counted: giving back the lock may fail with the same code, and
  -- that is counted
  abbrev pub CloseExcused : E → Status → Type 0
  CloseExcused now e = SyncExcused now e × (env.failures now ≡ env.failures at)

module _ {E C FP F : Type 0} {B : Boxed} (keys : InternalOrder C) (env : Ghosts E F)
    (formats : OptionsOf C FP B → Format) (engine : EngineOf E C FP F B) (at : E) where
  -- why a look-up fails, now or at a snapshot
  pub record GetFails {T : Type 0} (snapshot : Option Snapshot) (key : List ℕ)
      (result : Result T Status) (to : E) : Type 0 where
    -- a table that can't be read is damaged or missing, or lacks its compressor, or that fails
    pub cause : FailsFor (GetExcused engine snapshot key (λ e. IsTableFault
        (format_in env formats engine at) e.code)) (env.failures at) (env.failures to) result
    -- where the live tables are there, and the open ones are the store's, only since the format
    -- lacks a compressor
    pub lacks : (meaning : Meaning) (live : List LiveTable)
        → HasTablesToRead keys env (tables_by formats engine) engine.store at engine.tables meaning
        live → FailsFor (GetExcused engine snapshot key (λ e. (e.code ≡ NotSupported)
        × LacksCompressor (format_in env formats engine at) meaning)) (env.failures at)
        (env.failures to) result

-- ---- opening

-- the name is not empty and doesn't end in a slash
abbrev pub IsStoreName : List ℕ → Type 0
IsStoreName name = (name ≢ []) × ((front : List ℕ) → name ≡ front ++ 47 ∷ [] → ⊥)

-- from the least to 2^30
abbrev pub is_size_within : ℕ → ℕ → Bool
is_size_within least n = nat_le least n && nat_le n (2 ^ 30)

-- each size and count of the options is within its limits (`AreWithinLimits`)
abbrev pub are_within_limits : {C FP : Type 0} {B : Boxed} → OptionsOf C FP B → Bool
are_within_limits options =
    is_size_within 1 options.write_buffer_size
    && is_size_within 11 options.max_open_files
    && is_size_within 1 options.max_file_size
    && is_size_within 1 options.block_size
    && is_size_within 1 options.block_restart_interval
    && is_size_within options.block_size options.block_cache_capacity_bytes

-- the opening that the options ask for, under a name that is a store's
abbrev pub opening_of : {C FP : Type 0} {B : Boxed} → CmpGhosts C → FilterGhosts FP
    → (CompressorList B.compressors B.compressor → Codings) → OptionsOf C FP B → Opening
opening_of cmp filters codings options = record {
  format = format_of cmp filters codings options;
  create_if_missing = options.create_if_missing;
  error_if_exists = options.error_if_exists;
  fits = are_within_limits options;
  compresses = is_some (codings options.compressor_list options.compressor);
}

-- the opening that is asked for, under this name: it fits if the name is a store's, too
pub record IsOpening (name : List ℕ) (asked opening : Opening) : Type 0 where
  pub same : opening ≡ record asked { fits = opening.fits }
  pub fits : IsTrue opening.fits ↔ (IsStoreName name × IsTrue asked.fits)
