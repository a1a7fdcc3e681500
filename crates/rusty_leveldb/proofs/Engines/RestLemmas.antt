-- What a call leaves alone, whatever the files are.
use Rattle.std.specs.Prelude.{Result, codes, if◌then◌else◌, is_ok, replicate}
use Rattle.std.specs.Fmt.{decimal}
use Rattle.std.specs.Option.{option_map}
use Rattle.std.proofs.Common.{◌≡◌, ◌≢◌, ◌-◌, ◌++◌, ◌⊎◌, ◌≤◌, ◌∙◌, ⊎_elim, inl, inr, ℕ, zero, Bool, false, List, length, length-append, refl, sym, ap, subst, arith, Option, Ok, Err, IsTrue}
use Rattle.std.proofs.lemmas.List.{length-replicate}
use Rattle.leveldb_base.specs.Error.{IsOutOfMemory}
use Rattle.leveldb_base.specs.History.{Item}
use Rattle.leveldb_base.specs.Names.{six_digits}
use Rattle.leveldb_base.specs.declared.error.Status.{Status}
use Rattle.leveldb_base.specs.declared.types.FileType.{FileType}
use Rattle.leveldb_base.specs.declared.types.FileType.TheVariants.{Log}
use Rattle.leveldb_env.specs.Env.{ChangesFiles, ChangesLocks, Files, FilesUnchanged, Run, SameBut, bytes_of, lock_set, same}
use Rattle.leveldb_env.specs.Options.{Boxed, OptionsOf}
use Rattle.leveldb_env.specs.declared.env.Env.{Ghosts}
use Rattle.leveldb_env.specs.declared.filter.FilterPolicy.{Ghosts as FilterGhosts}
use Rattle.leveldb_env.proofs.EnvLemmas.{Run-call, Run-mono, SameBut-synced, bytes_eq-apart}
use Rattle.leveldb_mem.specs.Log.Writer.{broken_writer}
use Rattle.leveldb_table.specs.TableBlock.{KeepsDisk}
use Rattle.leveldb_files.specs.Stores.Paths.{lock_path, log_path}
use Rattle.leveldb_store.specs.Tables.BuildTable.{TableChoices}
use Rattle.leveldb_version.specs.declared.table_cache.TableCache.{TableCache}
use Rattle.leveldb_store.proofs.Keeping.GivenTablesLemmas.{given_same, given_then}
use Rattle.leveldb_store.proofs.Keeping.KeptBytesLemmas.{loses_none, loses_syncing, spares_kept_none, spares_kept_then}
use Rattle.leveldb_store.proofs.Writing.SwitchLemmas.{tables_same}
use Rattle.leveldb_store.specs.Keeping.KeptBytes.{IsKeptPath, SparesKept}
use Rattle.leveldb_store.specs.Keeping.OpenStore.{OpenStoreValue}
use Rattle.leveldb_store.specs.Writing.Write.{SyncsLog, open_log_path, with_writer}
use Rattle.leveldb_store.specs.Writing.WriteBatch.{WritesBatch}
use Rattle.leveldb_store.specs.Keeping.Written.{IsData, KeepsGivenTables, SparesRest}
use Rattle.rusty_leveldb.specs.Engines.Boxes.{EngineOf, InternalOrder}
use Rattle.rusty_leveldb.specs.Engines.Calls.{IsLockLeft, LeavesRest, SparesBut, held_after}
use Rattle.rusty_leveldb.specs.Engines.Engine.{holds_lock, engine_options}
use Rattle.rusty_leveldb.specs.Engines.Room.{EngineMakesRoom}
use Rattle.rusty_leveldb.specs.Engines.Frame.{IsSyncing, MayTouchOrLog, SameBytes, Spares, Touches}
use Rattle.rusty_leveldb.specs.Machines.State as machine
use Rattle.rusty_leveldb.specs.Machines.State.{Request, Snapshot, abandon, close, flush, get, open_mode, write}
use Rattle.rusty_leveldb.proofs.Engines.ClosingLemmas.{freed, freed_other}
use Rattle.rusty_leveldb.proofs.Engines.Others.{bytes_same, bytes_synced, spares_same, spares_still}
use Rattle.rusty_leveldb.proofs.Engines.SyncLemmas.{lock_is_no_data, log_is_data}

-- the path of a log, whatever its number, isn't the lock's
lock_is_no_log : (store : List ℕ) (n : ℕ) → lock_path store ≡ log_path store n → ⊥
lock_is_no_log store n is =
    let front : List ℕ = replicate (6 - length (decimal n)) 48 in
    let log = length-append store (codes "/" ++ (six_digits n ++ codes ".log")) in
    let lock = length-append store (codes "/" ++ codes "LOCK") in
    let name = length-append (six_digits n) (codes ".log") in
    let digits = length-append front (decimal n) in
    let zeros = length-replicate (6 - length (decimal n)) (let zero : ℕ = 48 in zero) in
    omega (arith, ap length is, log, lock, name, digits, zeros)

-- a lock that is as it was, after a call that frees none
lock_stays : {T : Type 0} (request : Request) (result : Result T Status) (before after : Bool)
    → after ≡ before → before ≡ held_after request before → IsLockLeft request result before after
lock_stays request (Ok value) before after same left = (same ∙ left, tt)
lock_stays request (Err status) before after same left = (tt, same)

-- what `give_back` leaves of its lock
pub lock_given : (request : Request) (result : Result (Unit {0}) Status) (name : List ℕ)
    (was mid now : List ℕ → Bool) → ((held : Bool) → held_after request held ≡ false)
    → ((path : List ℕ) → mid path ≡ was path)
    → (now ≡ (if is_ok result then lock_set name false mid else mid))
    → IsLockLeft request result (was name) (now name)
lock_given request (Ok nothing) name was mid now frees same set = (
  ap (λ (l : List ℕ → Bool). l name) set ∙ freed name mid ∙ sym (frees (was name)),
  tt,
)
lock_given request (Err status) name was mid now frees same set =
    (tt, ap (λ (l : List ℕ → Bool). l name) set ∙ same name)

-- and of every other one
pub others_given : (result : Result (Unit {0}) Status) (name : List ℕ)
    (was mid now : List ℕ → Bool) → ((path : List ℕ) → mid path ≡ was path)
    → (now ≡ (if is_ok result then lock_set name false mid else mid))
    → (path : List ℕ) → path ≢ name → now path ≡ was path
others_given (Ok nothing) name was mid now same set path differs =
    ap (λ (l : List ℕ → Bool). l path) set ∙ freed_other name path mid differs ∙ same path
others_given (Err status) name was mid now same set path differs =
    ap (λ (l : List ℕ → Bool). l path) set ∙ same path

module _ {E C FP F : Type 0} {B : Boxed} (env : Ghosts E F)
    (before : EngineOf E C FP F B) (from : E) where
  abbrev store : List ℕ
  store = before.store.set.store

  -- ---- tables

  -- no table changes where the log alone does
  tables_beside : (n : ℕ) (to : E)
      → SameBut (log_path store n) (env.observed from).disk.files (env.observed to).disk.files
      → KeepsGivenTables before.store.set (env.observed from).disk.files
      (env.observed to).disk.files
  tables_beside n to but = given_same before.store.set (env.observed from).disk.files
      (env.observed to).disk.files (λ number fits given. tables_same store n
      (env.observed from).disk.files (env.observed to).disk.files but number)

  -- no file changes
  module _ (to : E) (still : IsTrue env.models_disk
      → (env.observed to).disk.files ≡ (env.observed from).disk.files) where
    pub tables_where_still : IsTrue env.models_disk
        → KeepsGivenTables before.store.set (env.observed from).disk.files
        (env.observed to).disk.files
    tables_where_still modelled = tables_beside zero to
        (λ path differs. ap (λ (f : Files). f path) (still modelled))

    pub bytes_where_still : IsTrue env.models_disk
        → SameBytes (env.observed from).disk.files (env.observed to).disk.files
    bytes_where_still modelled = bytes_same (env.observed from).disk.files
        (env.observed to).disk.files (still modelled)

  pub kept_where_still : (to : E)
      → (IsTrue env.models_disk → Run (FilesUnchanged (env.observed from).disk.files)
      (env.observed from) (env.observed to))
      → SparesKept env.models_disk before.store.set before.store.kept_to (env.observed from)
      (env.observed to)
  kept_where_still to still modelled = Run-mono
      (loses_none (IsKeptPath before.store.set before.store.kept_to)
      (env.observed from).disk.files) (still modelled)

  -- ---- calls that leave all files

  -- nothing has changed
  pub rest_still : {T : Type 0} (request : Request) (result : Result T Status)
      → ((held : Bool) → held ≡ held_after request held) ⊎ ((e : Status) × (result ≡ Err e))
      → LeavesRest env before from request result before from
  rest_still request result why = record {
    place = (refl, refl);
    others = λ modelled own. spares_still store _ (env.observed from).disk;
    lock = λ modelled. ⊎_elim
        (λ (left : (held : Bool) → held ≡ held_after request held).
        lock_stays request result (holds_lock env before from) (holds_lock env before from) refl
        (left (holds_lock env before from)))
        (λ (fails : (e : Status) × (result ≡ Err e)).
        subst (λ r. IsLockLeft request r (holds_lock env before from) (holds_lock env before from))
        (sym fails.1) (tt, refl)) why;
    tables = tables_where_still from (λ modelled. refl);
    kept = spares_kept_none before.store.set before.store.kept_to (env.observed from);
    stay_kept = (omega arith, refl);
    bytes = λ modelled syncs. bytes_where_still from (λ modelled. refl) modelled;
  }

  -- the disk has stayed, and the engine's options may have changed
  pub rest_read : {T : Type 0} (snapshot : Option Snapshot) (key : List ℕ) (result : Result T Status)
      (to : E)
      (options : OptionsOf C FP B) (value : OpenStoreValue C) (cache : TableCache E C FP F)
      → value ≡ record before.store { current = value.current } → KeepsDisk env from to
      → LeavesRest env before from (get snapshot key) result
      (record before { options = options; store = value; tables = cache }) to
  rest_read snapshot key result to options value cache same keeps = record {
    place = (refl, ap (λ (v : OpenStoreValue C). v.set.store) same);
    others = λ modelled own. spares_same store (env.observed from).disk (env.observed to).disk _
        (keeps.disk modelled).has
        (λ path differs. ap (λ (l : List ℕ → Bool). l path) (keeps.locks modelled));
    lock = λ modelled. lock_stays (get snapshot key) result (holds_lock env before from)
        (holds_lock env before to)
        (ap (λ (l : List ℕ → Bool). l before.lock) (keeps.locks modelled)) refl;
    tables = tables_where_still to (λ modelled. (keeps.disk modelled).has);
    kept = kept_where_still to keeps.disk;
    stay_kept = (
      (let least = ap (λ (v : OpenStoreValue C). v.set.next_file) same in omega (arith, least)),
      ap (λ (v : OpenStoreValue C). v.kept_to) same,
    );
    bytes = λ modelled syncs. absurd syncs;
  }

  -- the lock is given back, and no more
  module _ (to : E) (result : Result (Unit {0}) Status)
      (does : ChangesFiles env.models_disk same FilesUnchanged (env.observed from)
      (env.observed to) result)
      (lock : List ℕ) (lock_is : lock ≡ before.lock)
      (relocks : ChangesLocks env.models_disk (lock_set lock false) (env.observed from)
      (env.observed to) result) where
    pub abandon_others : SparesBut env before (λ path. ⊥) from to
    abandon_others modelled own =
        spares_same store (env.observed from).disk (env.observed to).disk (λ path. ⊥)
        (does.now modelled)
        (λ path differs. others_given result lock (env.observed from).disk.locked
        (env.observed from).disk.locked (env.observed to).disk.locked (λ path. refl)
        (relocks modelled) path (λ is. differs (is ∙ lock_is ∙ own)))

    pub abandon_lock : IsTrue env.models_disk
        → IsLockLeft abandon result (holds_lock env before from) (holds_lock env before to)
    abandon_lock modelled = subst (λ name. IsLockLeft abandon result
        ((env.observed from).disk.locked name) ((env.observed to).disk.locked name)) lock_is
        (lock_given abandon result lock (env.observed from).disk.locked
        (env.observed from).disk.locked (env.observed to).disk.locked (λ held. refl) (λ path. refl)
        (relocks modelled))

  -- ---- calls on an engine that is open

  module _ (opened : before.mode ≡ machine.open_mode) where
    -- no file changes but those of data that the request may touch, and the log
    open_spares : (request : Request) (log : List ℕ) (n : ℕ) (to : E) → log ≡ log_path store n
        → ((kind : FileType) → Touches open_mode request kind → IsData kind)
        → ((path : List ℕ) → (MayTouchOrLog store open_mode request log path → ⊥)
        → (env.observed to).disk.files path ≡ (env.observed from).disk.files path)
        → ((path : List ℕ) → path ≢ lock_path store
        → (env.observed to).disk.locked path ≡ (env.observed from).disk.locked path)
        → Spares store (MayTouchOrLog store before.mode request log) (env.observed from).disk
        (env.observed to).disk
    open_spares request log n to log_is of_data files locks =
        subst (λ m. Spares store (MayTouchOrLog store m request log) (env.observed from).disk
        (env.observed to).disk) (sym opened) (record {
          files = files;
          lock_file = inl (files (lock_path store) (⊎_elim
              (λ may. lock_is_no_data store may.0 (of_data may.0 may.1) may.2)
              (λ (it : Touches open_mode request Log × (lock_path store ≡ log)).
              lock_is_no_log store n (it.1 ∙ log_is))));
          locks = locks;
        })

    -- ---- syncs

    module _ (value : OpenStoreValue C) (mid : E) where
      -- a sync changes the state of the log's writer alone
      pub sync_only : (result : Result (Unit {0}) Status)
          → SyncsLog env before.store from result value mid
          → value ≡ with_writer before.store value.log.writer
      sync_only (Ok nothing) syncs =
          subst (λ (v : OpenStoreValue C). v ≡ with_writer before.store v.log.writer) (sym syncs.ok)
          refl
      sync_only (Err status) syncs = ⊎_elim
          (λ (still : IsOutOfMemory status × (value ≡ before.store) × (mid ≡ from)).
          subst (λ (v : OpenStoreValue C). v ≡ with_writer before.store v.log.writer) (sym still.1)
          refl)
          (λ (broke : value ≡ with_writer before.store (broken_writer before.store.log.writer)).
          subst (λ (v : OpenStoreValue C). v ≡ with_writer before.store v.log.writer) (sym broke)
          refl) syncs.err

      module _ (synced : Result (Unit {0}) Status)
          (syncs : SyncsLog env before.store from synced value mid) where
        sync_path : value.set.store ≡ store
        sync_path = ap (λ (v : OpenStoreValue C). v.set.store) (sync_only synced syncs)

        sync_log : open_log_path value ≡ open_log_path before.store
        sync_log = ap (λ (v : OpenStoreValue C). open_log_path v) (sync_only synced syncs)

        sync_but : IsTrue env.models_disk → SameBut (open_log_path before.store)
            (env.observed from).disk.files (env.observed mid).disk.files
        sync_but modelled = SameBut-synced (open_log_path before.store)
            (env.observed from).disk.files (env.observed mid).disk.files
            ((syncs.does modelled).now modelled)

        sync_bytes : IsTrue env.models_disk
            → SameBytes (env.observed from).disk.files (env.observed mid).disk.files
        sync_bytes modelled = ⊎_elim
            (λ same. bytes_same (env.observed from).disk.files (env.observed mid).disk.files same)
            (λ done. bytes_synced (open_log_path before.store) (env.observed from).disk.files
            (env.observed mid).disk.files done)
            ((syncs.does modelled).now modelled)

        sync_kept : SparesKept env.models_disk before.store.set before.store.kept_to
            (env.observed from) (env.observed mid)
        sync_kept modelled = Run-mono
            (loses_syncing (IsKeptPath before.store.set before.store.kept_to)
            (open_log_path before.store) (env.observed from).disk.files)
            (Run-call modelled (syncs.does modelled))

        sync_stay_kept : (before.store.set.next_file ≤ value.set.next_file)
            × (value.kept_to ≡ before.store.kept_to)
        sync_stay_kept = (
          (let same = ap (λ (v : OpenStoreValue C). v.set.next_file) (sync_only synced syncs) in
              omega (arith, same)),
          ap (λ (v : OpenStoreValue C). v.kept_to) (sync_only synced syncs),
        )

        -- after the sync no file changes
        sync_spares : (request : Request)
            → ((kind : FileType) → Touches open_mode request kind → IsData kind)
            → Touches open_mode request Log → (to : E) → IsTrue env.models_disk
            → (env.observed to).disk.files ≡ (env.observed mid).disk.files
            → ((path : List ℕ) → path ≢ lock_path store
            → (env.observed to).disk.locked path ≡ (env.observed from).disk.locked path)
            → Spares store (MayTouchOrLog store before.mode request (open_log_path value))
            (env.observed from).disk (env.observed to).disk
        sync_spares request of_data touches to modelled still locks =
            open_spares request (open_log_path value) before.store.log.number to sync_log of_data
            (λ path foreign. ap (λ (f : Files). f path) still ∙ sync_but modelled path
            (bytes_eq-apart (open_log_path before.store) path
            (λ e. foreign (inr (touches, sym e ∙ sym sync_log))))) locks

        -- that of a flush, or of a close that fails in its sync
        pub rest_synced : (request : Request)
            → ((kind : FileType) → Touches open_mode request kind → IsData kind)
            → Touches open_mode request Log
            → ((held : Bool) → held ≡ held_after request held) ⊎ ((e : Status) × (synced ≡ Err e))
            → (mode : machine.Mode)
            → LeavesRest env before from request synced
            (record before { store = value; mode = mode }) mid
        rest_synced request of_data touches why mode = record {
          place = (refl, sync_path);
          others = λ modelled own. sync_spares request of_data touches mid modelled refl
              (λ path differs. ap (λ (l : List ℕ → Bool). l path) (syncs.locks modelled));
          lock = λ modelled.
              let stays = ap (λ (l : List ℕ → Bool). l before.lock)
              (syncs.locks modelled) in ⊎_elim
              (λ (left : (held : Bool) → held ≡ held_after request held).
              lock_stays request synced (holds_lock env before from) (holds_lock env before mid)
              stays (left (holds_lock env before from)))
              (λ (fails : (e : Status) × (synced ≡ Err e)).
              subst (λ r. IsLockLeft request r (holds_lock env before from)
              (holds_lock env before mid)) (sym fails.1) (tt, stays)) why;
          tables = λ modelled. tables_beside before.store.log.number mid (sync_but modelled);
          kept = sync_kept;
          stay_kept = sync_stay_kept;
          bytes = λ modelled syncing. sync_bytes modelled;
        }

        -- a close that was synced
        pub rest_given : (to : E) (lock : List ℕ) → lock ≡ before.lock
            → (result : Result (Unit {0}) Status)
            → ChangesFiles env.models_disk same FilesUnchanged (env.observed mid) (env.observed to)
            result
            → ChangesLocks env.models_disk (lock_set lock false) (env.observed mid)
            (env.observed to) result → (mode : machine.Mode)
            → LeavesRest env before from close result
            (record before { store = value; mode = mode }) to
        rest_given to lock lock_is result does relocks mode = record {
          place = (refl, sync_path);
          others = λ modelled own. sync_spares close log_is_data tt to modelled (does.now modelled)
              (λ path differs. others_given result lock (env.observed from).disk.locked
              (env.observed mid).disk.locked (env.observed to).disk.locked
              (λ path. ap (λ (l : List ℕ → Bool). l path) (syncs.locks modelled))
              (relocks modelled) path (λ is. differs (is ∙ lock_is ∙ own)));
          lock = λ modelled. subst (λ name. IsLockLeft close result
              ((env.observed from).disk.locked name) ((env.observed to).disk.locked name)) lock_is
              (lock_given close result lock (env.observed from).disk.locked
              (env.observed mid).disk.locked (env.observed to).disk.locked (λ held. refl)
              (λ path. ap (λ (l : List ℕ → Bool). l path) (syncs.locks modelled))
              (relocks modelled));
          tables = λ modelled. tables_beside before.store.log.number to (given_but modelled);
          kept = spares_kept_then before.store.set before.store.set refl (omega arith) refl
              sync_kept (λ modelled. Run-mono
              (loses_none (IsKeptPath before.store.set before.store.kept_to)
              (env.observed mid).disk.files) (Run-call modelled does));
          stay_kept = sync_stay_kept;
          bytes = λ modelled syncing path. ap (λ (f : Files). option_map bytes_of (f path))
              (does.now modelled) ∙ sync_bytes modelled path;
        }
          where
            given_but : IsTrue env.models_disk → SameBut (open_log_path before.store)
                (env.observed from).disk.files (env.observed to).disk.files
            given_but modelled path differs = ap (λ (f : Files). f path) (does.now modelled)
                ∙ sync_but modelled path differs

    -- ---- calls that change data alone, and add no batch

    pub rest_kept : {T : Type 0} (request : Request) (result : Result T Status)
        → ((kind : FileType) → Touches open_mode request kind → IsData kind)
        → ((kind : FileType) → IsData kind → Touches open_mode request kind)
        → ((held : Bool) → held ≡ held_after request held) → (IsSyncing request → ⊥)
        → (after : EngineOf E C FP F B) (to : E) → after.lock ≡ before.lock
        → SparesRest env.models_disk before.store (env.observed from) after.store (env.observed to)
        → LeavesRest env before from request result after to
    rest_kept request result of_data touches left syncs_not after to lock rest = record {
      place = (lock, rest.store);
      others = λ modelled own. open_spares request (open_log_path after.store)
          after.store.log.number to
          (ap (λ s. log_path s after.store.log.number) rest.store) of_data
          (λ path foreign. rest.files modelled path
          (λ may. foreign (inl (may.0, touches may.0 may.1, may.2))))
          (λ path differs. ap (λ (l : List ℕ → Bool). l path) (rest.locks modelled));
      lock = λ modelled. lock_stays request result (holds_lock env before from)
          (holds_lock env before to)
          (ap (λ (l : List ℕ → Bool). l before.lock) (rest.locks modelled))
          (left (holds_lock env before from));
      tables = rest.tables;
      kept = rest.kept;
      stay_kept = (rest.numbers, rest.kept_to);
      bytes = λ modelled syncs. absurd (syncs_not syncs);
    }

    -- ---- writes

    module _ {P : Type 0} {keys : InternalOrder C} {key_filters : FilterGhosts P}
        (choices : OptionsOf C FP B → TableChoices keys key_filters) (items : List Item)
        (sync : Bool) where
      -- no room was made
      pub rest_roomless : (after : EngineOf E C FP F B) (to : E) (status : Status)
          → EngineMakesRoom env choices before from (Err status) after to
          → LeavesRest env {T = Unit {0}} before from (write items sync) (Err status) after to
      rest_roomless after to status made = rest_kept (write items sync) (Err status)
          (λ kind is. is) (λ kind is. is) (λ held. refl) (λ syncs. syncs) after to
          (ap (λ (e : EngineOf E C FP F B). e.lock) made.rest) made.makes.keeps.rest

      -- it was, and then the batch was written or not
      module _ (roomy : EngineOf E C FP F B) (mid : E)
          (made : EngineMakesRoom env choices before from (Ok tt) roomy mid)
          (value : OpenStoreValue C) (mode : machine.Mode) (to : E)
          (result : Result (Unit {0}) Status) (writes : WritesBatch env (choices (engine_options roomy)).format.order roomy.store mid items sync
          result value to) where
        batch_log : open_log_path value ≡ open_log_path roomy.store
        batch_log = ap (λ (v : OpenStoreValue C). open_log_path v) writes.rest

        batch_locks : IsTrue env.models_disk → (path : List ℕ)
            → (env.observed to).disk.locked path ≡ (env.observed from).disk.locked path
        batch_locks modelled path = ap (λ (l : List ℕ → Bool). l path)
            (writes.locks modelled ∙ made.makes.keeps.rest.locks modelled)

        pub rest_written : LeavesRest env before from (write items sync) result
            (record roomy { store = value; mode = mode }) to
        rest_written = record {
          place = (
            ap (λ (e : EngineOf E C FP F B). e.lock) made.rest,
            ap (λ (v : OpenStoreValue C). v.set.store) writes.rest ∙ made.makes.keeps.rest.store,
          );
          others = λ modelled own. open_spares (write items sync) (open_log_path value)
              roomy.store.log.number to
              (batch_log ∙ ap (λ s. log_path s roomy.store.log.number) made.makes.keeps.rest.store)
              (λ kind is. is)
              (λ path foreign. writes.others modelled path
              (bytes_eq-apart (open_log_path roomy.store) path
              (λ e. foreign (inr (tt, sym e ∙ sym batch_log))))
              ∙ made.makes.keeps.rest.files modelled path (λ may. foreign (inl may)))
              (λ path differs. batch_locks modelled path);
          lock = λ modelled. lock_stays (write items sync) result (holds_lock env before from)
              (holds_lock env before to) (batch_locks modelled before.lock) refl;
          tables = λ modelled. given_then before.store.set roomy.store.set made.makes.keeps.rest.store
              made.makes.keeps.rest.numbers (env.observed from).disk.files (env.observed mid).disk.files
              (env.observed to).disk.files (made.makes.keeps.rest.tables modelled)
              (given_same roomy.store.set (env.observed mid).disk.files
              (env.observed to).disk.files (λ number fits given. tables_same roomy.store.set.store
              roomy.store.log.number (env.observed mid).disk.files (env.observed to).disk.files
              (writes.others modelled) number));
          kept = spares_kept_then before.store.set roomy.store.set made.makes.keeps.rest.store made.makes.keeps.rest.numbers
              made.makes.keeps.rest.kept_to made.makes.keeps.rest.kept
              (λ modelled. Run-mono (λ now loses path one. loses path tt) (writes.bytes modelled));
          stay_kept = (
            (let numbers = made.makes.keeps.rest.numbers in
                let same = ap (λ (v : OpenStoreValue C). v.set.next_file) writes.rest in
                omega (arith, numbers, same)),
            ap (λ (v : OpenStoreValue C). v.kept_to) writes.rest ∙ made.makes.keeps.rest.kept_to,
          );
          bytes = λ modelled syncs. absurd syncs;
        }
