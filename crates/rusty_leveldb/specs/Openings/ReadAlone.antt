-- A store that is read alone: the history that it shows, what an engine does that only reads, and
-- what opening one does. In each of these calls no file and no lock changes.
use Rattle.std.specs.Prelude.{◌≡◌, ◌≤◌, ◌+◌, ◌⊎◌, ℕ, true, false, List, [], Option, Some, None, Result, IfErr, IfOk, OnErr, OnOk, IsErrAnd, IsTrue, length}
use Rattle.leveldb_base.specs.Error.{IsOutOfMemory}
use Rattle.leveldb_base.specs.History.{History, IsValueAt, IsView, count_of, entries_of, greatest, with_batch}
use Rattle.leveldb_base.specs.KeyTypes.{IsLongKey}
use Rattle.leveldb_base.specs.Types.{Pair}
use Rattle.leveldb_base.specs.declared.cmp.Cmp.{Ghosts as CmpGhosts}
use Rattle.leveldb_base.specs.declared.error.Status.{Status}
use Rattle.leveldb_base.specs.declared.error.StatusCode.TheVariants.{InvalidArgument, NotSupported}
use Rattle.leveldb_env.specs.Compressor.{Codings}
use Rattle.leveldb_env.specs.Env.{Files}
use Rattle.leveldb_env.specs.Options.{Boxed, OptionsOf}
use Rattle.leveldb_env.specs.declared.compressor.CompressorList.{CompressorList}
use Rattle.leveldb_env.specs.declared.env.Env.{Ghosts}
use Rattle.leveldb_env.specs.declared.filter.FilterPolicy.{Ghosts as FilterGhosts}
use Rattle.leveldb_iter.specs.Moves.{IsRefusedFor}
use Rattle.leveldb_iter.specs.declared.moves.Move.{Move}
use Rattle.leveldb_iter.specs.declared.moves.Step.{Step}
use Rattle.leveldb_iter.specs.declared.walk.Walk.{Ghosts as WalkGhosts}
use Rattle.leveldb_store.specs.Keeping.OpenTables.{AreOpenTablesOf}
use Rattle.leveldb_store.specs.Reading.Read.{GetsFromMemory, GetsFromTables}
use Rattle.leveldb_store.specs.Writing.Room.{FailsFor}
use Rattle.leveldb_store.specs.Reading.View.{MoveFails}
use Rattle.leveldb_store.specs.Keeping.Written.{HasView}
use Rattle.leveldb_table.specs.TableBlock.{KeepsDisk}
use Rattle.leveldb_files.specs.Stores.Batches.{Each}
use Rattle.leveldb_files.specs.Stores.Contents.{made}
use Rattle.leveldb_files.specs.Stores.Format.{Agrees, Format, IsTableFault, Meaning, format_of}
use Rattle.leveldb_files.specs.Stores.Paths.{current_path}
use Rattle.leveldb_files.specs.Stores.Store.{HasEdits}
use Rattle.leveldb_files.specs.Edits.Edit.{Edit}
use Rattle.leveldb_version.specs.Tables.TableCache.{TableOptions, files_at, table_options}
use Rattle.leveldb_version.specs.declared.table_cache.moves.ReadTables.{ReadTables}
use Rattle.leveldb_store.specs.Openings.OpensStore.{LacksUsableEdits}
use Rattle.leveldb_store.specs.Openings.OpensToRead.{ReadsFound, WhyNotReadable}
use Rattle.rusty_leveldb.specs.Engines.Boxes.{InternalOrder, ReaderOf}
use Rattle.rusty_leveldb.specs.Machines.Causes.{Cause, IsCausedBy}
use Rattle.rusty_leveldb.specs.Engines.Engine.{IsOpening, IsStoreName}
use Rattle.rusty_leveldb.specs.Walks.Iterator.{IsIterator, IteratesAt, pair_in, shown_store}
use Rattle.rusty_leveldb.specs.Machines.Machine.{Responds}
use Rattle.rusty_leveldb.specs.Engines.Serves.{AreReadAs, StandsFor, found_or, refusal_of, setting_between}
use Rattle.rusty_leveldb.specs.Machines.State.{Answer, Opening, Request, State, get, open_mode, open_store}
use Rattle.rusty_leveldb.specs.Walks.Walks.{walk_of, walked_or}
use Rattle.rusty_leveldb.specs.declared.db_iter.StoreIterator.{StoreIterator}

-- ---- the machine's row

-- A history that an opening finds, and the last number that it has then: what was pending is in it
-- or forgotten (`Opens`). Reading alone shows one, and the state stays, whatever its mode and its
-- lock are.
pub record FindsHistory (old : State) (format : Format) (history : History) (last : ℕ)
    : Type 0 where
  -- a store is there, and its comparator is the format's
  pub store : old.store ≡ made (Some format.order_name)
  pub joins : (history ≡ old.history) ⊎ (history ≡ with_batch old.history old.pending)
  pub reached : greatest (entries_of history) ≤ last
  pub bounded : last ≤ old.last + count_of old.pending

-- the state of a store that was opened on this history, all of it durable
abbrev pub opened_state : Format → History → ℕ → State
opened_state format history last = record {
  history = history;
  last = last;
  durable = length history;
  held = [];
  given = [];
  pending = None;
  mode = open_mode;
  locked = true;
  store = made (Some format.order_name);
  format = format;
}

-- ---- what is read

-- the options of an engine that only reads, in the order of its store
abbrev pub reader_options : {E C FP F : Type 0} {B : Boxed} → ReaderOf E C FP F B
    → OptionsOf C FP B
reader_options reader = record reader.options { cmp = reader.store.cmp }

-- what its tables are opened with, where `formats` says of options which format they have
abbrev pub reader_tables_by : {E C FP F : Type 0} {B : Boxed} → (OptionsOf C FP B → Format)
    → ReaderOf E C FP F B → TableOptions C FP
reader_tables_by formats reader =
    table_options (formats (reader_options reader)) (reader_options reader)

-- the store as an engine that reads this history answers for it
abbrev pub read_state : {E C FP F : Type 0} {B : Boxed} → (OptionsOf C FP B → Format)
    → ReaderOf E C FP F B → History → State
read_state formats reader history =
    opened_state (formats (reader_options reader)) history reader.store.set.last_sequence

-- why a look-up fails: the key is too long, memory ran out, or a table can't be read, for this
-- cause
abbrev pub LookUpExcused : List ℕ → (Status → Type 0) → Status → Type 0
LookUpExcused key Unreadable e =
    ((e.code ≡ InvalidArgument) × IsLongKey key) ⊎ IsOutOfMemory e ⊎ Unreadable e

-- a look-up that fails before it begins, since the key is too long or memory ran out; nothing
-- changes
abbrev pub IsNotSought : {E C FP F T : Type 0} {B : Boxed} → ReaderOf E C FP F B → E → List ℕ
    → Result T Status → ReaderOf E C FP F B → E → Type 0
IsNotSought before from key result after to =
    (to ≡ from) × (after ≡ before) × IsErrAnd result (LookUpExcused key (λ e. ⊥))

module _ {E C FP F : Type 0} {B : Boxed} (keys : InternalOrder C) (env : Ghosts E F)
    (formats : OptionsOf C FP B → Format) where
  -- An engine reads this history in these files, where names and ids in them have this meaning:
  -- memory and tables show it from its end on, no entry of it is past the last number, and the open
  -- tables are those of the files.
  pub record ReadsHistory (meaning : Meaning) (reader : ReaderOf E C FP F B) (files : Files)
      (history : History) : Type 0 where
    pub agrees : Agrees (formats (reader_options reader)) meaning
    pub shows : HasView (formats (reader_options reader)).order meaning reader.store files history
        (greatest (entries_of history))
    pub reached : greatest (entries_of history) ≤ reader.store.set.last_sequence
    pub tables : AreOpenTablesOf keys env (reader_tables_by formats reader) reader.store.set files
        reader.tables

  -- where the disk is modelled, in each history that is read, a request is answered as in a store
  -- that was opened on it, and the state stays
  abbrev pub AnswersAlone : ReaderOf E C FP F B → E → Request → Answer → E → Type 0
  AnswersAlone reader from request answer to = IsTrue env.models_disk → (meaning : Meaning)
      (history : History) → ReadsHistory meaning reader (files_at env from) history
      → Responds (setting_between meaning (env.failures from) (env.failures to))
      (read_state formats reader history) request answer (read_state formats reader history)

  -- What a read leaves: the disk, what is read of it, and the engine but for the seeks of its
  -- store's live files and for its open tables.
  pub record ReadsOnly (before : ReaderOf E C FP F B) (from : E) (after : ReaderOf E C FP F B)
      (to : E) : Type 0 where
    -- no file changes at any moment, nor does a lock
    pub still : KeepsDisk env from to
    -- each history that was read is read still
    pub keeps : IsTrue env.models_disk → (meaning : Meaning) (history : History)
        → ReadsHistory meaning before (files_at env from) history
        → ReadsHistory meaning after (files_at env to) history
    pub store : after.store ≡ record before.store { current = after.store.current }
    pub options : reader_options after ≡ reader_options before

  -- A look-up of a key.
  pub record ReaderGets (before : ReaderOf E C FP F B) (from : E) (key : List ℕ)
      (result : Result (Option (List ℕ)) Status) (after : ReaderOf E C FP F B) (to : E)
      : Type 0 where
    -- Ok: the key's value in each history that is read, or none
    pub finds : IsTrue env.models_disk → (meaning : Meaning) (history : History)
        → ReadsHistory meaning before (files_at env from) history
        → IfOk result (IsValueAt (entries_of history) before.store.set.last_sequence key)
    -- so it is answered as in a store that was opened on the history, and an Err has a cause there
    pub answers : AnswersAlone before from (get None key) (found_or result) to
    pub rest : ReadsOnly before from after to
    -- over any files, Ok or Err: the value is that of memory, or else of the first table on the way
    -- that has the key; none on this way is passed over, and the first that can't be read is an Err
    pub way : IsNotSought before from key result after to
        ⊎ GetsFromMemory keys env (reader_tables_by formats before) before.store from before.tables
        before.store.set.last_sequence key result after.store to after.tables
        ⊎ GetsFromTables keys env (reader_tables_by formats before) before.store from before.tables
        before.store.set.last_sequence key result after.store to after.tables
    -- why it fails, over any environment
    pub cause : FailsFor (LookUpExcused key
        (λ e. IsTableFault (formats (reader_options before)) e.code)) (env.failures from)
        (env.failures to) result

  -- A call that makes moves of a walk over the store's view, from no position on, with the steps
  -- that say where they led.
  pub record ReaderWalks (before : ReaderOf E C FP F B) (from : E) (moves : List Move)
      (given : List Step) (result : Result (Unit {0}) Status) (after : ReaderOf E C FP F B)
      (to : E) : Type 0 where
    -- in each history that is read each move led where a walk over the view leads, or failed for a
    -- cause
    pub answers : AnswersAlone before from (walk_of None moves) (walked_or given result) to
    pub rest : ReadsOnly before from after to
    -- no failure is forgotten; it fails as a whole out of memory, but its moves may for more
    pub later : env.failures from ≤ env.failures to
    pub cause : IfErr result IsOutOfMemory
    -- over whatever files, each move has a step, and one that failed a cause
    pub refused : OnOk result (Each (λ one step. IsRefusedFor step one
        (MoveFails (λ e. IsTableFault (formats (reader_options before)) e.code)
        (env.failures from) (env.failures to) one)) moves given)
    -- without a walk there are no steps
    pub none : OnErr result (given ≡ [])

-- ---- iterators

module _ {E C FP F V : Type 0} {B : Boxed} (keys : InternalOrder C) (env : Ghosts E F)
    (cmp : CmpGhosts C) (filters : FilterGhosts FP)
    (codings : CompressorList B.compressors B.compressor → Codings)
    (walk : WalkGhosts V E (ReadTables E C FP (CompressorList B.compressors B.compressor) F))
  where
    -- which format options have
    abbrev formats_in : OptionsOf C FP B → Format
    formats_in = format_of {B = B} cmp filters codings

    -- A call that makes an iterator over the view of what is read.
    pub record ReaderIterates (before : ReaderOf E C FP F B) (from : E)
        (result : Result
        (StoreIterator E C FP (CompressorList B.compressors B.compressor) V F) Status)
        : Type 0 where
      -- where the disk is modelled, it is over the view of each history that is read, at no
      -- position
      pub over : IfOk result (λ it. IsTrue env.models_disk → (meaning : Meaning)
          (history : History) → ReadsHistory keys env formats_in meaning before
          (files_at env from) history → (pairs : List Pair)
          × IsView (formats_in (reader_options before)).order (entries_of history)
          before.store.set.last_sequence pairs
          × IteratesAt keys env cmp filters codings walk
          (shown_store before.store (formats_in (reader_options before)) meaning) pairs None it)
      -- over whatever files it is an iterator, at no pair
      pub is : IfOk result (IsIterator keys env cmp filters codings walk
          (formats_in (reader_options before)))
      pub none : IfOk result (λ it. pair_in walk it ≡ None)
      -- the environment and the open tables are as before
      pub env_is : IfOk result (λ it. it.env.now ≡ from)
      pub tables_are : IfOk result (λ it. it.tables.cache.now ≡ before.tables)
      -- why there is none
      pub cause : IfErr result IsOutOfMemory

-- ---- opening

-- Why a store isn't opened to be read alone, where the device didn't fail: out of memory, or the
-- name or an option doesn't fit; the compressor of new blocks isn't set; or the files can't be read
-- so.
abbrev pub ReadOpenExcused : {E F : Type 0} → Ghosts E F → List ℕ → Opening → E → Status → Type 0
ReadOpenExcused env store asked from e = IsOutOfMemory e
    ⊎ ((e.code ≡ InvalidArgument) × (IsStoreName store × IsTrue asked.fits → ⊥))
    ⊎ ((e.code ≡ NotSupported) × (IsTrue asked.compresses → ⊥))
    ⊎ WhyNotReadable env store asked.format from e

-- the same opening of a store that must be there, and may be: what reading alone asks for
abbrev pub of_present : Opening → Opening
of_present asked = record asked { create_if_missing = false; error_if_exists = false }

module _ {E C FP F : Type 0} {B : Boxed} (keys : InternalOrder C) (env : Ghosts E F)
    (formats : OptionsOf C FP B → Format) where
  -- A call that opens the store under a name to be read alone, as it is asked to by these options.
  pub record ReaderOpens (name : List ℕ) (options : OptionsOf C FP B) (asked : Opening) (from : E)
      (result : Result (ReaderOf E C FP F B) Status) (to : E) : Type 0 where
    -- Ok: it reads a history that an opening finds, whatever state the disk represents, which is
    -- modelled, if the options say of names and ids what they mean
    pub finds : IfOk result (λ reader. IsTrue env.models_disk → (meaning : Meaning)
        → Agrees asked.format meaning → (old : State)
        → StandsFor name meaning (env.observed from).disk old → (history : History)
        × FindsHistory old asked.format history reader.store.set.last_sequence
        × ReadsHistory keys env formats meaning reader (files_at env to) history)
    -- and it reads each history as which the files are read, up to the same last number
    pub reads : IfOk result (λ reader. IsTrue env.models_disk → (meaning : Meaning)
        → Agrees asked.format meaning → (history : History) (last : ℕ)
        → AreReadAs name meaning (files_at env from) history last
        → (reader.store.set.last_sequence ≡ last)
        × ReadsHistory keys env formats meaning reader (files_at env to) history)
    -- Whatever the files are, it reads what they have: its live tables are there and are those of
    -- the manifest that `CURRENT` names, and it has the entries of the logs that are replayed.
    pub found : IfOk result (λ reader. IsTrue env.models_disk → (edits : List Edit)
        → HasEdits name (files_at env from) edits
        → ReadsFound name edits (files_at env from) reader.store)
    -- it is the store of this name, with these options
    pub place : IfOk result (λ reader. reader.store.set.store ≡ name)
    pub options_are : IfOk result (λ reader. reader_options reader ≡ options)
    -- no file changes at any moment, nor does a lock
    pub still : KeepsDisk env from to
    -- Err: of a disk that represents a state no file is damaged, and the machine has its cause, as
    -- of an opening of a store that must be there
    pub err : IfErr result (λ e. IsTrue env.models_disk → (opening : Opening)
        → IsOpening name (of_present asked) opening → (meaning : Meaning)
        → Agrees opening.format meaning → (old : State)
        → StandsFor name meaning (env.observed from).disk old → (cause : Cause)
        × IsCausedBy (setting_between meaning (env.failures from) (env.failures to)) old
        (open_store opening) (refusal_of e) cause)
    -- a store without `CURRENT` isn't opened, nor one without usable edits
    pub missing : IsTrue env.models_disk → files_at env from (current_path name) ≡ None
        → OnOk result ⊥
    pub unusable : IsTrue env.models_disk → LacksUsableEdits name asked.format (files_at env from)
        → OnOk result ⊥
    -- under a name that is no store's nothing is opened, and no call is made; nor with a size or a
    -- count past its limits, or without the compressor of new blocks
    pub misnamed : (IsStoreName name × IsTrue asked.fits × IsTrue asked.compresses → ⊥)
        → (to ≡ from) × OnOk result ⊥
    -- an Ok counts no failure of the device; why it fails, over any environment
    pub counts : OnOk result (env.failures to ≡ env.failures from)
    pub cause : FailsFor (ReadOpenExcused env name asked from) (env.failures from)
        (env.failures to) result
