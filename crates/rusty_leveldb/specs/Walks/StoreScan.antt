-- Scans of a store: what a call does that appends the first pairs of one.
use Rattle.std.specs.Prelude.{◌≡◌, ◌≤◌, ◌⊎◌, ℕ, List, [], take, Option, Some, None, Result, IfErr, OnOk, OnErr, IsTrue}
use Rattle.std.specs.declared.cmp.Ordering.{Ordering}
use Rattle.leveldb_base.specs.declared.cmp.Cmp.{Ghosts as CmpGhosts}
use Rattle.leveldb_base.specs.declared.cmp.internal.InternalKeyCmp.{InternalKeyCmp}
use Rattle.leveldb_base.specs.declared.error.Status.{Status}
use Rattle.leveldb_base.specs.Error.{IsOutOfMemory}
use Rattle.leveldb_base.specs.History.{History, IsView, entries_of}
use Rattle.leveldb_base.specs.Types.{Pair}
use Rattle.leveldb_env.specs.declared.env.Env.{Ghosts}
use Rattle.leveldb_env.specs.declared.filter.FilterPolicy.{Ghosts as FilterGhosts}
use Rattle.leveldb_env.specs.Options.{Boxed, OptionsOf}
use Rattle.leveldb_table.specs.TableBlock.{KeepsDisk}
use Rattle.leveldb_files.specs.Stores.Format.{Agrees, Format, IsTableFault, Meaning}
use Rattle.leveldb_version.specs.Tables.TableCache.{TableOptions, files_at}
use Rattle.leveldb_version.specs.declared.table_cache.TableCache.{TableCache}
use Rattle.leveldb_store.specs.Keeping.OpenStore.{OpenStoreValue}
use Rattle.leveldb_store.specs.Keeping.OpenTables.{AreOpenTablesOf}
use Rattle.leveldb_store.specs.Keeping.Written.{HasView}
use Rattle.leveldb_store.specs.Reading.Read.{HasOpenTables}
use Rattle.leveldb_store.specs.Reading.View.{IsOfNoCompressor}
use Rattle.leveldb_store.specs.Tables.BuildTable.{TableChoices}
use Rattle.leveldb_store.specs.Writing.Room.{FailsFor}
use Rattle.rusty_leveldb.specs.Headline.{Batch, UserStore, IsListing, IsShown, map_of, walk}
use Rattle.rusty_leveldb.specs.Says.{IsHeadlineRow, Place, Showing, WalkedOr}
use Rattle.rusty_leveldb.specs.Engines.Boxes.{EngineOf, InternalOrder, ReaderOf}
use Rattle.rusty_leveldb.specs.Engines.Calls.{IsNotLookedUp, IsRefusedByMode}
use Rattle.rusty_leveldb.specs.Engines.Engine.{Answers, GetExcused, IsClosed, IsEngineSequence, engine_options, formats_of, tables_by}
use Rattle.rusty_leveldb.specs.Engines.Rows.{FromEachState, Row}
use Rattle.rusty_leveldb.specs.Engines.Serves.{refusal_of}
use Rattle.rusty_leveldb.specs.Machines.Machine.{IsSequenceOf}
use Rattle.rusty_leveldb.specs.Machines.State.{Snapshot, get, refused}
use Rattle.rusty_leveldb.specs.Openings.ReadAlone.{AnswersAlone, LookUpExcused, ReadsHistory, ReadsOnly, reader_options}
use Rattle.rusty_leveldb.specs.Walks.Scan.{scan_key, scanned}
use Rattle.rusty_leveldb.specs.declared.scan.Scan.{Scan}

-- ---- in the words of the headline

module _ {E F M : Type 0} (env : Ghosts E F) (showing : Showing M) where
  -- A scan of what an open store shows, now or at a snapshot. To the store it is a walk that makes
  -- no move, or that fails. Ok: what came are the first `count` pairs of the scan, of all pairs of
  -- the map. Err: nothing came.
  abbrev pub SaysScanned : M → E → Option ℕ → Scan → ℕ → List Pair → Result (Unit {0}) Status → M
      → E → Type 0
  SaysScanned before from at scan count given result after to = IsTrue env.models_disk
      → (place : Place) (order : List ℕ → List ℕ → Ordering) (store : UserStore)
      → showing.shows place order before (env.observed from).disk store
      → IsHeadlineRow env showing place order store (walk at []) (WalkedOr [] result)
      (showing.shows place order after (env.observed to).disk) from to
      × OnOk result ((shown : List Batch) × (pairs : List Pair) × IsShown store at shown
      × IsListing order (map_of shown) pairs × (given ≡ take count (scanned order scan pairs)))
      × OnErr result (given ≡ [])

-- ---- an open store

-- A scan of the view of an open store at a sequence number; `by` says what tables are opened with.
pub record ScansStore {E F C FP : Type 0} (keys : CmpGhosts (InternalKeyCmp C)) (env : Ghosts E F)
    (by : TableOptions C FP) (value : OpenStoreValue C) (from : E)
    (tables : TableCache E C FP F) (sequence : ℕ) (scan : Scan) (count : ℕ) (given : List Pair)
    (result : Result (Unit {0}) Status) (to : E) (left : TableCache E C FP F) : Type 0 where
  -- Ok: what came are the first pairs of the scan in the view at that number, of each history that
  -- memory and tables show from there on, or from a number before it. It fails for no fault of a
  -- table but that the format lacks a compressor.
  pub scans : HasOpenTables keys env by value from tables → (meaning : Meaning)
      → Agrees by.format meaning → (history : History) (since : ℕ) → since ≤ sequence
      → HasView by.format.order meaning value (files_at env from) history since
      → OnOk result ((pairs : List Pair)
      × IsView by.format.order (entries_of history) sequence pairs
      × (given ≡ take count (scanned by.format.order scan pairs)))
      × FailsFor (λ e. IsOutOfMemory e ⊎ IsOfNoCompressor by.format meaning e)
      (env.failures from) (env.failures to) result
  -- over whatever files an error has a cause
  pub cause : FailsFor (λ e. IsOutOfMemory e ⊎ IsTableFault by.format e.code) (env.failures from)
      (env.failures to) result
  -- Err: nothing came
  pub none : OnErr result (given ≡ [])
  -- no file changes, nor does a lock
  pub kept : KeepsDisk env from to
  -- the open tables stay those of the store
  pub still_open : HasOpenTables keys env by value from tables
      → AreOpenTablesOf keys env by value.set (files_at env to) left

-- ---- an engine

-- what came are the first pairs of the scan of the view, and nothing changes
abbrev pub ScansView : Option Snapshot → Scan → ℕ → List Pair → Row
ScansView at scan count given setting old new = (sequence : ℕ) × IsSequenceOf old at sequence
    × (pairs : List Pair) × IsView old.format.order (entries_of old.history) sequence pairs
    × (given ≡ take count (scanned old.format.order scan pairs)) × (new ≡ old)

module _ {E C FP F P : Type 0} {B : Boxed} {keys : InternalOrder C} {key_filters : FilterGhosts P}
    (env : Ghosts E F) (choices : OptionsOf C FP B → TableChoices keys key_filters)
    (before : EngineOf E C FP F B) (from : E) where
  -- A call that scans the store's view, now or at a snapshot.
  pub record EngineScans (at : Option Snapshot) (scan : Scan) (count : ℕ) (given : List Pair)
      (result : Result (Unit {0}) Status) (after : EngineOf E C FP F B) (to : E) : Type 0 where
    -- Ok: the first pairs of the scan of the view came
    pub ok : OnOk result (FromEachState keys env (formats_of choices) (Some before) from
        (Some after) to (ScansView at scan count given))
    -- Err: it is refused as a look-up of its key is, and nothing came
    pub err : IfErr result (λ e. Answers keys env (formats_of choices) (Some before) from
        (get at (scan_key scan)) (refused (refusal_of e)) (Some after) to)
    pub none : OnErr result (given ≡ [])
    -- over any environment: a closed store refuses it, and nothing changes
    pub refused_by_mode : IsClosed before.mode → IsRefusedByMode before from result after to
    -- in memory nothing changes but which tables are open
    pub memory : after ≡ record before { tables = after.tables }
    -- no file changes at any moment, nor does a lock
    pub still : KeepsDisk env from to
    -- why it fails, over whatever files
    pub cause : FailsFor (GetExcused before at (scan_key scan)
        (λ e. IsTableFault (formats_of choices (engine_options before)) e.code))
        (env.failures from) (env.failures to) result
    -- where memory and the live tables show a history, its view is scanned, whatever the other
    -- files are
    pub way : IsNotLookedUp before from at (scan_key scan) result after to
        ⊎ ((sequence : ℕ) × IsEngineSequence before at sequence
        × ScansStore keys env (tables_by (formats_of choices) before) before.store from
        before.tables sequence scan count given result to after.tables)

-- ---- an engine that only reads

module _ {E C FP F : Type 0} {B : Boxed} (keys : InternalOrder C) (env : Ghosts E F)
    (formats : OptionsOf C FP B → Format) where
  -- A call that scans the store's view.
  pub record ReaderScans (before : ReaderOf E C FP F B) (from : E) (scan : Scan) (count : ℕ)
      (given : List Pair) (result : Result (Unit {0}) Status) (after : ReaderOf E C FP F B)
      (to : E) : Type 0 where
    -- Ok: the first pairs of the scan of the view came, of each history that is read
    pub ok : IsTrue env.models_disk → (meaning : Meaning) (history : History)
        → ReadsHistory keys env formats meaning before (files_at env from) history
        → OnOk result ((pairs : List Pair)
        × IsView (formats (reader_options before)).order (entries_of history)
        before.store.set.last_sequence pairs
        × (given ≡ take count (scanned (formats (reader_options before)).order scan pairs)))
    -- Err: it is refused as a look-up of its key is, and nothing came
    pub err : IfErr result (λ e. AnswersAlone keys env formats before from
        (get None (scan_key scan)) (refused (refusal_of e)) to)
    pub none : OnErr result (given ≡ [])
    pub rest : ReadsOnly keys env formats before from after to
    -- why it fails, over whatever files
    pub cause : FailsFor (LookUpExcused (scan_key scan)
        (λ e. IsTableFault (formats (reader_options before)) e.code)) (env.failures from)
        (env.failures to) result
